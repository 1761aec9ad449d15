-- What a phrase begins with.
use Rattle.std.proofs.Common.{◌≡◌, ℕ, ◌≤◌, List, arith}
use Rattle.verse_layout.specs.declared.toks.TokKind.{TokKind}
use Rattle.verse_layout.specs.declared.toks.Tok.{Tok}
use Rattle.verse_tree.specs.Tree.{Bytes, Tree}
use Rattle.verse_grammar.specs.Toks.{ahead}
use Rattle.verse_grammar.specs.Exprs.{Reads, Control, IsIf, Row, Closed, HoleRow, PairRow, GivenRow}
use Rattle.verse_grammar.specs.Exprs as x
use Rattle.verse_grammar.specs.Follows.{rise, rise_ahead, top}
use Rattle.verse_grammar.specs.declared.phrases.Phrase.{Phrase}
use Rattle.verse_grammar.proofs.SpelledRanks.{primary_rise, rise_bound}

-- from the kind of the first tok
by_kind : (n : ℕ) (j k : TokKind) → j ≡ k → rise k ≤ n → rise j ≤ n
by_kind n j k h l = rw h l

control_opens : {b : List ℕ} {ks rest : List Tok} {e : Tree} → Control b ks e rest → rise_ahead (ahead ks) ≤ 5
control_opens (x.Control.assignment h d ho e) = by_kind _ _ _ h (omega arith)
control_opens (x.Control.returned h d) = by_kind _ _ _ h (omega arith)
control_opens (x.Control.returned_unit h) = by_kind _ _ _ h (omega arith)
control_opens (x.Control.break_form h) = by_kind _ _ _ h (omega arith)

if_opens : {b : List ℕ} {ks rest : List Tok} {e : Tree} → IsIf b ks e rest → rise_ahead (ahead ks) ≤ 3
if_opens (x.IsIf.if_alone h ho d e) = by_kind _ _ _ h (omega arith)
if_opens (x.IsIf.if_else h ho d e hq f) = by_kind _ _ _ h (omega arith)

pub opens : {b : List ℕ} {q : Phrase} {ks rest : List Tok} {t : Tree} → Reads b q ks t rest → rise_ahead (ahead ks) ≤ top q
opens (x.Reads.block h0 h1) = by_kind _ _ _ h0 (omega arith)
opens (x.Reads.part_defer h0 h1) = by_kind _ _ _ h0 (omega arith)
opens (x.Reads.part_stmt h0) = let l = opens h0 in omega arith
opens (x.Reads.stmt_definition h0 h1 h2) = by_kind _ _ _ h0 (omega arith)
opens (x.Reads.stmt_typed h0 h1) = by_kind _ _ _ h0 (omega arith)
opens (x.Reads.stmt_variable h0 h1 h2) = by_kind _ _ _ h0 (omega arith)
opens (x.Reads.stmt_control h0) = control_opens h0
opens (x.Reads.stmt_expr h0) = let l = opens h0 in omega arith
opens (x.Reads.body_block h0) = let l = opens h0 in omega arith
opens (x.Reads.body_expr h0) = let l = opens h0 in omega arith
opens (x.Reads.expr_if h0) = if_opens h0
opens (x.Reads.expr_or h0) = let l = opens h0 in omega arith
opens (x.Reads.or_chain h0 h1) = let l = opens h0 in omega arith
opens (x.Reads.and_chain h0 h1) = let l = opens h0 in omega arith
opens (x.Reads.not_word h0 h1) = by_kind _ _ _ h0 (omega arith)
opens (x.Reads.not_comparison h0) = let l = opens h0 in omega arith
opens (x.Reads.comparison_sum h0) = let l = opens h0 in omega arith
opens (x.Reads.comparison_two h0 h1 h2) = let l = opens h0 in omega arith
opens (x.Reads.sum_chain h0 h1) = let l = opens h0 in omega arith
opens (x.Reads.product_chain h0 h1) = let l = opens h0 in omega arith
opens (x.Reads.minus_mark h0 h1) = by_kind _ _ _ h0 (omega arith)
opens (x.Reads.minus_postfix h0) = let l = opens h0 in omega arith
opens (x.Reads.postfix_chain h0 h1) = let l = opens h0 in omega arith
opens (x.Reads.integer h0) = primary_rise _ _ h0
opens (x.Reads.character h0) = primary_rise _ _ h0
opens (x.Reads.text h0) = primary_rise _ _ h0
opens (x.Reads.text_holes h0 h1) = primary_rise _ _ h0
opens (x.Reads.truth h0) = primary_rise _ _ h0
opens (x.Reads.falsehood h0) = primary_rise _ _ h0
opens (x.Reads.this h0) = primary_rise _ _ h0
opens (x.Reads.name_alone h0) = primary_rise _ _ h0
opens (x.Reads.instance h0 h1 h2) = primary_rise _ _ h0
opens (x.Reads.brackets h0 h1 h2) = primary_rise _ _ h0
opens (x.Reads.tuple h0 h1 h2 h3) = primary_rise _ _ h0
opens (x.Reads.array h0 h1 h2) = primary_rise _ _ h0
opens (x.Reads.mapping h0 h1 h2) = primary_rise _ _ h0
opens (x.Reads.option h0 h1 h2) = primary_rise _ _ h0
opens (x.Reads.logic h0 h1 h2) = primary_rise _ _ h0
opens (x.Reads.event h0 h1 h2 h3) = primary_rise _ _ h0
opens (x.Reads.for_form h0 h1 h2 h3) = primary_rise _ _ h0
opens (x.Reads.loop_form h0 h1) = primary_rise _ _ h0
opens (x.Reads.block_form h0 h1) = primary_rise _ _ h0
opens (x.Reads.branch h0 h1) = primary_rise _ _ h0
opens (x.Reads.sync h0 h1 h2) = primary_rise _ _ h0
opens (x.Reads.race h0 h1 h2) = primary_rise _ _ h0
opens (x.Reads.rush h0 h1 h2) = primary_rise _ _ h0
opens (x.Reads.cases h0 h1 h2 h3 h4 h5) = primary_rise _ _ h0
opens (x.Reads.spawn h0 h1 h2 h3) = primary_rise _ _ h0
opens (x.Reads.sleep h0 h1 h2 h3) = primary_rise _ _ h0
opens (x.Reads.sleep_forever h0 h1 h2 h3) = primary_rise _ _ h0
opens (x.Reads.elements h0 h1 h2) = by_kind _ _ _ h0 (omega arith)
opens (x.Reads.entries h0 h1 h2 h3 h4) = by_kind _ _ _ h0 (omega arith)
opens (x.Reads.range h0 h1 h2 h3 h4) = by_kind _ _ _ h0 (omega arith)
opens (x.Reads.clause_generator h0) = let l = opens h0 in omega arith
opens (x.Reads.clause_definition h0 h1 h2) = by_kind _ _ _ h0 (omega arith)
opens (x.Reads.clause_control h0) = control_opens h0
opens (x.Reads.clause_expr h0) = let l = opens h0 in omega arith
opens (x.Reads.arm h0 h1 h2) = rise_bound _
opens (x.Reads.integer_pattern h0) = rise_bound _
opens (x.Reads.minus_pattern h0 h1) = rise_bound _
opens (x.Reads.character_pattern h0) = rise_bound _
opens (x.Reads.text_pattern h0) = rise_bound _
opens (x.Reads.truth_pattern h0) = rise_bound _
opens (x.Reads.falsehood_pattern h0) = rise_bound _
opens (x.Reads.any_pattern h0) = rise_bound _
opens (x.Reads.enum_pattern h0 h1 h2) = rise_bound _

pub row_opens : {b : List ℕ} {q : Phrase} {s : TokKind} {ks rest : List Tok} {es : List Tree} → Row b q s ks es rest →
    rise_ahead (ahead ks) ≤ top q
row_opens (x.Row.row_one d) = opens d
row_opens (x.Row.row_more r h d) = row_opens r

pub closed_opens : {b : List ℕ} {q : Phrase} {s c : TokKind} {ks rest : List Tok} {es : List Tree} → Closed b q s c ks es rest →
    rise_ahead (ahead ks) ≤ top q
closed_opens (x.Closed.closed r h) = row_opens r

pub pair_row_opens : {b : List ℕ} {ks rest : List Tok} {ps : List (Tree × Tree)} → PairRow b ks ps rest → rise_ahead (ahead ks) ≤ 3
pair_row_opens (x.PairRow.pair_one d h e) = opens d
pair_row_opens (x.PairRow.pair_more r h d ho e) = pair_row_opens r

pub given_row_opens : {b : List ℕ} {ks rest : List Tok} {gs : List (Bytes × Tree)} → GivenRow b ks gs rest → rise_ahead (ahead ks) ≤ 0
given_row_opens (x.GivenRow.given_one h ho d) = by_kind _ _ _ h (omega arith)
given_row_opens (x.GivenRow.given_more r h hn ho d) = given_row_opens r
