-- What is spelled is read, with the tree that it stands for.
use Rattle.std.proofs.Common.{◌≡◌, ◌≢◌, ℕ, ◌≤◌, ◌<◌, List, [], ◌∷◌, ◌++◌, Some, refl, sym, ap, subst, arith, append_assoc, append-nil}
use Rattle.verse_lex.specs.declared.tokens.Word.TheVariants as w
use Rattle.verse_lex.specs.declared.tokens.Mark.TheVariants as m
use Rattle.verse_layout.specs.declared.toks.TokKind.{TokKind}
use Rattle.verse_layout.specs.declared.toks.TokKind.TheVariants as tok
use Rattle.verse_layout.specs.declared.toks.Tok.{Tok}
use Rattle.verse_tree.specs.Tree.{Bytes, Written, Tree}
use Rattle.verse_tree.specs.Tree as t
use Rattle.verse_tree.specs.View.{trees}
use Rattle.verse_grammar.specs.Toks.{word, mark, name_at, text_at, ahead}
use Rattle.verse_grammar.specs.Exprs.{at, operand, Reads, TypedValue, Control, IsIf, Taken, Chain, Postfixes, Row, Closed, Until, HoleRow}
use Rattle.verse_grammar.specs.Exprs.{AreHoles, PairRow, PairsUntil, GivenRow, GivensUntil, ClauseRow, Clauses}
use Rattle.verse_grammar.specs.Exprs as x
use Rattle.verse_grammar.specs.Follows.{rank, rank_ahead, needs, rise, top}
use Rattle.verse_grammar.specs.declared.phrases.Phrase.{Phrase}
use Rattle.verse_grammar.specs.declared.phrases.Phrase.TheVariants as p
use Rattle.verse_grammar.specs.Symbols.{typed_value, an_if, taken, postfix_tail, hole_rest, givens_until, givens_tail, pairs_until}
use Rattle.verse_grammar.specs.Symbols.{pairs_tail, clauses, phrase, chain_tail, row_tail, closed, until}
use Rattle.verse_grammar.proofs.SpelledRanks.{at_rank, postfix_rank, chain_rank, comparison_rank, assign_rank, not_below, not_above}
use Rattle.verse_grammar.proofs.SpelledFirsts.{opens, closed_opens, pair_row_opens, given_row_opens}
use Rattle.verse_grammar.proofs.SpelledValues.{v_typed, v_tree, v_trees, v_after, v_holes, v_givens, v_pairs, Gives}
use Rattle.verse_grammar.proofs.SpelledPrimary.{case_integer, case_character, case_text, case_truth, case_falsehood, case_this, case_array}
use Rattle.verse_grammar.proofs.SpelledPrimary.{case_mapping, case_option, case_logic, case_event, case_for_form, case_loop_form}
use Rattle.verse_grammar.proofs.SpelledPrimary.{case_block_form, case_branch, case_sync, case_race, case_rush, case_spawn, case_text_holes}
use Rattle.verse_grammar.proofs.SpelledPrimary.{case_name_alone, case_instance, case_brackets, case_tuple, case_cases, case_sleep}
use Rattle.verse_grammar.proofs.SpelledPrimary.{case_sleep_forever, case_integer_pattern, case_character_pattern, case_text_pattern}
use Rattle.verse_grammar.proofs.SpelledPrimary.{case_truth_pattern, case_falsehood_pattern, case_any_pattern, case_enum_pattern}
use Rattle.verse_grammar.proofs.SpelledPrimary.{case_minus_pattern}
use Rattle.verse_grammar.proofs.SpelledLevels.{case_block, case_part_defer, case_part_stmt, case_body_block, case_body_expr, case_expr_if}
use Rattle.verse_grammar.proofs.SpelledLevels.{case_expr_or, case_or_chain, case_and_chain, case_sum_chain, case_product_chain}
use Rattle.verse_grammar.proofs.SpelledLevels.{case_postfix_chain, case_not_word, case_not_comparison, case_minus_mark, case_minus_postfix}
use Rattle.verse_grammar.proofs.SpelledLevels.{case_comparison_sum, case_comparison_two, case_chain_end, case_chain_more, case_postfix_end}
use Rattle.verse_grammar.proofs.SpelledLevels.{case_postfix_call, case_postfix_index, case_postfix_member, case_postfix_query, case_row_end}
use Rattle.verse_grammar.proofs.SpelledLevels.{case_row_more, case_closed, case_until_none, case_until_some, case_clauses, case_hole_end}
use Rattle.verse_grammar.proofs.SpelledLevels.{case_hole_more, case_pair, case_pairs_end, case_pairs_more, case_no_pairs, case_some_pairs}
use Rattle.verse_grammar.proofs.SpelledLevels.{case_given, case_givens_end, case_givens_more, case_no_givens, case_some_givens}
use Rattle.verse_grammar.proofs.SpelledLevels.{case_taken_then, case_taken_block, case_if_alone, case_if_else, ChainGives, PostfixGives}
use Rattle.verse_grammar.proofs.SpelledLevels.{RowGives, ClausesGive, HolesGive, PairsGive, GivensGive}
use Rattle.verse_grammar.proofs.SpelledStmts.{case_expr, case_stmt_definition, case_typed_value, case_stmt_typed, case_stmt_variable}
use Rattle.verse_grammar.proofs.SpelledStmts.{case_assignment, case_returned, case_returned_unit, case_break_form, case_elements}
use Rattle.verse_grammar.proofs.SpelledStmts.{case_entries, case_range, case_clause_definition, case_arm, ControlGives}
use Rattle.verse_grammar.proofs.SpelledTypes.{spelled_type, spelled_bracket_type}

other_ahead : (j c s : TokKind) → j ≡ c → c ≢ s → Some j ≢ Some s
other_ahead j c s h n e = let i : c ≡ s = cc in n i

-- which separators and closing toks a row may have
record Fits (q : Phrase) (s c : TokKind) : Type 0 where
  sep : needs q ≤ rank s
  close : needs q ≤ rank c
  other : c ≢ s

close_sep : tok.Close ≢ tok.Sep
close_sep e = absurd (cc)

round_comma : mark m.RoundClose ≢ mark m.Comma
round_comma e = absurd (cc)

square_comma : mark m.SquareClose ≢ mark m.Comma
square_comma e = absurd (cc)

fits_part : Fits p.Part tok.Sep tok.Close
fits_part = record { sep = omega arith; close = omega arith; other = close_sep }

fits_stmt : Fits p.Stmt tok.Sep tok.Close
fits_stmt = record { sep = omega arith; close = omega arith; other = close_sep }

fits_arm : Fits p.Arm tok.Sep tok.Close
fits_arm = record { sep = omega arith; close = omega arith; other = close_sep }

fits_expr : Fits p.Expr tok.Sep tok.Close
fits_expr = record { sep = omega arith; close = omega arith; other = close_sep }

fits_conditions : Fits p.Stmt (mark m.Comma) (mark m.RoundClose)
fits_conditions = record { sep = omega arith; close = omega arith; other = round_comma }

fits_round : Fits p.Expr (mark m.Comma) (mark m.RoundClose)
fits_round = record { sep = omega arith; close = omega arith; other = round_comma }

fits_square : Fits p.Expr (mark m.Comma) (mark m.SquareClose)
fits_square = record { sep = omega arith; close = omega arith; other = square_comma }

row_same : {b : List ℕ} {q : Phrase} {s : TokKind} {ks rest : List Tok} {es fs : List Tree} → es ≡ fs → RowGives b q s ks es rest →
    RowGives b q s ks fs rest
row_same {b = b} {q = q} {s = s} {ks = ks} {rest = rest} h r = subst (λ (gs : List Tree). RowGives b q s ks gs rest) h r

clauses_same : {b : List ℕ} {ks rest : List Tok} {es fs : List Tree} → es ≡ fs → ClausesGive b ks es rest → ClausesGive b ks fs rest
clauses_same {b = b} {ks = ks} {rest = rest} h r = subst (λ (gs : List Tree). ClausesGive b ks gs rest) h r

pairs_same : {b : List ℕ} {ks rest : List Tok} {es fs : List (Tree × Tree)} → es ≡ fs → PairsGive b ks es rest → PairsGive b ks fs rest
pairs_same {b = b} {ks = ks} {rest = rest} h r = subst (λ (gs : List (Tree × Tree)). PairsGive b ks gs rest) h r

givens_same : {b : List ℕ} {ks rest : List Tok} {es fs : List (Bytes × Tree)} → es ≡ fs → GivensGive b ks es rest → GivensGive b ks fs rest
givens_same {b = b} {ks = ks} {rest = rest} h r = subst (λ (gs : List (Bytes × Tree)). GivensGive b ks gs rest) h r

holes_same : {b : List ℕ} {ks rest : List Tok} {es fs : List (Tree × Bytes)} → es ≡ fs → HolesGive b ks es rest → HolesGive b ks fs rest
holes_same {b = b} {ks = ks} {rest = rest} h r = subst (λ (gs : List (Tree × Bytes)). HolesGive b ks gs rest) h r

block_first : {b : List ℕ} {ks rest : List Tok} {e : Tree} → Reads b p.Block ks e rest → ahead ks ≡ Some tok.Open
block_first (x.Reads.block h u) = ap Some h

if_first : {b : List ℕ} {ks rest : List Tok} {e : Tree} → IsIf b ks e rest → ahead ks ≡ Some (word w.If)
if_first (x.IsIf.if_alone h ho c e) = ap Some h
if_first (x.IsIf.if_else h ho c e hq d) = ap Some h

typed_first : {b : List ℕ} {ks rest : List Tok} {u : Written} {e : Tree} → TypedValue b ks u e rest → ahead ks ≡ Some (mark m.Colon)
typed_first (x.TypedValue.typed_value h d hq e) = ap Some h

mutual
  -- behind a phrase stands a tok that may follow it
  pub spelled : {b : List ℕ} {q : Phrase} {ks rest : List Tok} {t : Tree} → Reads b q ks t rest → needs q ≤ rank_ahead (ahead rest) →
      Gives b (phrase q) ks (v_tree t) rest
  spelled (x.Reads.block h0 h1) f = case_block h0 (spelled_until h1 fits_part (omega arith))
  spelled (x.Reads.part_defer h0 h1) f = case_part_defer h0 (spelled h1 (omega arith))
  spelled (x.Reads.part_stmt h0) f = case_part_stmt (not_above 5 _ (word w.Defer) (opens h0) (omega arith)) (spelled h0 f)
  spelled (x.Reads.stmt_definition h0 h1 h2) f = case_stmt_definition h0 h1 (spelled h2 (omega arith))
  spelled (x.Reads.stmt_typed h0 h1) f = case_stmt_typed h0 (typed_first h1) (spelled_typed h1 (omega arith))
  spelled (x.Reads.stmt_variable h0 h1 h2) f = case_stmt_variable h0 h1 (spelled_typed h2 (omega arith))
  spelled (x.Reads.stmt_control h0) f = let g = spelled_control h0 f in g.stmt
  spelled (x.Reads.stmt_expr h0) f = let g = case_expr (opens h0) f (spelled h0 (omega arith)) in g.0
  spelled (x.Reads.body_block h0) f = case_body_block (block_first h0) (spelled h0 (omega arith))
  spelled (x.Reads.body_expr h0) f = case_body_expr (not_above 3 _ tok.Open (opens h0) (omega arith)) (spelled h0 f)
  spelled (x.Reads.expr_if h0) f = case_expr_if (if_first h0) (spelled_if h0 f)
  spelled (x.Reads.expr_or h0) f = case_expr_or (not_above 2 _ (word w.If) (opens h0) (omega arith)) (spelled h0 (omega arith))
  spelled {rest = rest} (x.Reads.or_chain h0 h1) f = let g = spelled_chain h1 (omega arith) (λ e. e) rest (case_chain_end p.Or f) in
      case_or_chain (spelled h0 g.fits) g.gives g.same
  spelled {rest = rest} (x.Reads.and_chain h0 h1) f = let g = spelled_chain h1 (omega arith) (λ e. e) rest (case_chain_end p.And f) in
      case_and_chain (spelled h0 g.fits) g.gives g.same
  spelled (x.Reads.not_word h0 h1) f = case_not_word h0 (spelled h1 f)
  spelled (x.Reads.not_comparison h0) f = case_not_comparison (not_above 1 _ (word w.Not) (opens h0) (omega arith)) (spelled h0 f)
  spelled (x.Reads.comparison_sum h0) f = case_comparison_sum (spelled h0 (omega arith)) f
  spelled (x.Reads.comparison_two h0 h1 h2) f = case_comparison_two (spelled h0 (comparison_rank _ _ h1)) h1 (spelled h2 (omega arith))
  spelled {rest = rest} (x.Reads.sum_chain h0 h1) f = let g = spelled_chain h1 (omega arith) (λ e. e) rest (case_chain_end p.Sum f) in
      case_sum_chain (spelled h0 g.fits) g.gives g.same
  spelled {rest = rest} (x.Reads.product_chain h0 h1) f = let g =
      spelled_chain h1 (omega arith) (λ e. e) rest (case_chain_end p.Product f) in case_product_chain (spelled h0 g.fits) g.gives g.same
  spelled (x.Reads.minus_mark h0 h1) f = case_minus_mark h0 (spelled h1 f)
  spelled (x.Reads.minus_postfix h0) f = case_minus_postfix (not_above 0 _ (mark m.Minus) (opens h0) (omega arith)) (spelled h0 f)
  spelled {rest = rest} (x.Reads.postfix_chain h0 h1) f = let g = spelled_postfixes h1 (omega arith) (λ e. e) rest (case_postfix_end f) in
      case_postfix_chain (spelled h0 g.fits) g.gives g.same
  spelled (x.Reads.integer h0) f = case_integer h0
  spelled (x.Reads.character h0) f = case_character h0
  spelled (x.Reads.text h0) f = case_text h0
  spelled (x.Reads.text_holes h0 h1) f = let g = spelled_holes h1 in case_text_holes h0 g.gives_first g.gives_after g.same
  spelled (x.Reads.truth h0) f = case_truth h0
  spelled (x.Reads.falsehood h0) f = case_falsehood h0
  spelled (x.Reads.this h0) f = case_this h0
  spelled (x.Reads.name_alone h0) f = case_name_alone h0 (not_below 1 _ tok.Open f (omega arith))
  spelled (x.Reads.instance h0 h1 h2) f = case_instance h0 h1 (spelled_givens h2)
  spelled (x.Reads.brackets h0 h1 h2) f = case_brackets h0 (spelled h1 (at_rank _ _ _ h2 (omega arith))) h2
  spelled (x.Reads.tuple h0 h1 h2 h3) f = case_tuple h0 (spelled h1 (at_rank _ _ _ h2 (omega arith))) h2 (spelled_closed h3 fits_round)
  spelled (x.Reads.array h0 h1 h2) f = case_array h0 h1 (spelled_until h2 fits_expr (omega arith))
  spelled (x.Reads.mapping h0 h1 h2) f = case_mapping h0 h1 (spelled_pairs h2)
  spelled (x.Reads.option h0 h1 h2) f = case_option h0 h1 (spelled_closed h2 fits_stmt)
  spelled (x.Reads.logic h0 h1 h2) f = case_logic h0 h1 (spelled_closed h2 fits_stmt)
  spelled (x.Reads.event h0 h1 h2 h3) f = case_event h0 (spelled_bracket_type h1) h2 h3
  spelled (x.Reads.for_form h0 h1 h2 h3) f = case_for_form h0 h1 (spelled_clauses h2) (spelled h3 (omega arith))
  spelled (x.Reads.loop_form h0 h1) f = case_loop_form h0 (spelled h1 (omega arith))
  spelled (x.Reads.block_form h0 h1) f = case_block_form h0 (spelled h1 (omega arith))
  spelled (x.Reads.branch h0 h1) f = case_branch h0 (spelled h1 (omega arith))
  spelled (x.Reads.sync h0 h1 h2) f = case_sync h0 h1 (spelled_until h2 fits_stmt (omega arith))
  spelled (x.Reads.race h0 h1 h2) f = case_race h0 h1 (spelled_until h2 fits_stmt (omega arith))
  spelled (x.Reads.rush h0 h1 h2) f = case_rush h0 h1 (spelled_until h2 fits_stmt (omega arith))
  spelled (x.Reads.cases h0 h1 h2 h3 h4 h5) f =
      case_cases h0 h1 (spelled h2 (at_rank _ _ _ h3 (omega arith))) h3 h4 (spelled_closed h5 fits_arm)
  spelled (x.Reads.spawn h0 h1 h2 h3) f = case_spawn h0 h1 (spelled h2 (at_rank _ _ _ h3 (omega arith))) h3
  spelled (x.Reads.sleep h0 h1 h2 h3) f = case_sleep h0 h1 h2 h3
  spelled (x.Reads.sleep_forever h0 h1 h2 h3) f = case_sleep_forever h0 h1 h2 h3
  spelled (x.Reads.elements h0 h1 h2) f = let g = case_elements h0 h1 (spelled h2 f) in g.generator
  spelled (x.Reads.entries h0 h1 h2 h3 h4) f = let g = case_entries h0 h1 h2 h3 (spelled h4 f) in g.generator
  spelled (x.Reads.range h0 h1 h2 h3 h4) f = let g =
      case_range h0 h1 (opens h2) (spelled h2 (at_rank _ _ _ h3 (omega arith))) h3 (spelled h4 f) in g.generator
  spelled (x.Reads.clause_generator (x.Reads.elements h0 h1 h2)) f = let g = case_elements h0 h1 (spelled h2 (omega arith)) in g.clause
  spelled (x.Reads.clause_generator (x.Reads.entries h0 h1 h2 h3 h4)) f = let g = case_entries h0 h1 h2 h3 (spelled h4 (omega arith)) in
      g.clause
  spelled (x.Reads.clause_generator (x.Reads.range h0 h1 h2 h3 h4)) f = let g =
      case_range h0 h1 (opens h2) (spelled h2 (at_rank _ _ _ h3 (omega arith))) h3 (spelled h4 (omega arith)) in g.clause
  spelled (x.Reads.clause_definition h0 h1 h2) f = case_clause_definition h0 h1 f (spelled h2 (omega arith))
  spelled (x.Reads.clause_control h0) f = let g = spelled_control h0 f in g.clause
  spelled (x.Reads.clause_expr h0) f = let g = case_expr (opens h0) f (spelled h0 (omega arith)) in g.1
  spelled (x.Reads.arm h0 h1 h2) f = case_arm (spelled h0 (omega arith)) h1 (spelled h2 f)
  spelled (x.Reads.integer_pattern h0) f = case_integer_pattern h0
  spelled (x.Reads.minus_pattern h0 h1) f = case_minus_pattern h0 h1
  spelled (x.Reads.character_pattern h0) f = case_character_pattern h0
  spelled (x.Reads.text_pattern h0) f = case_text_pattern h0
  spelled (x.Reads.truth_pattern h0) f = case_truth_pattern h0
  spelled (x.Reads.falsehood_pattern h0) f = case_falsehood_pattern h0
  spelled (x.Reads.any_pattern h0) f = case_any_pattern h0
  spelled (x.Reads.enum_pattern h0 h1 h2) f = case_enum_pattern h0 h1 h2

  spelled_typed : {b : List ℕ} {ks rest : List Tok} {u : Written} {e : Tree} → TypedValue b ks u e rest → 8 ≤ rank_ahead (ahead rest) →
      Gives b typed_value ks (v_typed u e) rest
  spelled_typed (x.TypedValue.typed_value h0 h1 h2 h3) f = case_typed_value h0 (spelled_type h1) h2 (spelled h3 f)

  spelled_control : {b : List ℕ} {ks rest : List Tok} {e : Tree} → Control b ks e rest → 9 ≤ rank_ahead (ahead rest) →
      ControlGives b ks e rest
  spelled_control (x.Control.assignment h0 h1 h2 h3) f = case_assignment h0 (spelled h1 (assign_rank _ _ h2)) h2 (spelled h3 (omega arith))
  spelled_control (x.Control.returned h0 h1) f = case_returned h0 (opens h1) (spelled h1 (omega arith))
  spelled_control (x.Control.returned_unit h0) f = case_returned_unit h0 f
  spelled_control (x.Control.break_form h0) f = case_break_form h0

  spelled_if : {b : List ℕ} {ks rest : List Tok} {e : Tree} → IsIf b ks e rest → 8 ≤ rank_ahead (ahead rest) →
      Gives b an_if ks (v_tree e) rest
  spelled_if (x.IsIf.if_alone h0 h1 h2 h3) f =
      case_if_alone h0 h1 (spelled_closed h2 fits_conditions) (spelled_taken h3 (omega arith)) (not_below 8 _ (word w.Else) f (omega arith))
  spelled_if (x.IsIf.if_else h0 h1 h2 h3 h4 h5) f =
      case_if_else h0 h1 (spelled_closed h2 fits_conditions) (spelled_taken h3 (at_rank _ _ _ h4 (omega arith))) h4 (spelled h5 f)

  spelled_taken : {b : List ℕ} {ks rest : List Tok} {e : Tree} → Taken b ks e rest → 7 ≤ rank_ahead (ahead rest) →
      Gives b taken ks (v_tree e) rest
  spelled_taken (x.Taken.taken_then h0 h1) f = case_taken_then h0 (spelled h1 f)
  spelled_taken (x.Taken.taken_block h0) f =
      case_taken_block (not_above 4 _ (word w.Then) (opens h0) (omega arith)) (spelled h0 (omega arith))

  spelled_chain : {b : List ℕ} {q : Phrase} {ks ls : List Tok} {e f : Tree} → Chain b q e ks f ls →
      needs (operand q) ≤ rank_ahead (ahead ls) → (g : Tree → Tree) (rest : List Tok) → Gives b (chain_tail q) ls (v_after g) rest →
      ChainGives b q ks e (g f) rest
  spelled_chain x.Chain.chain_none l g rest c = record { after = g; gives = c; same = refl; fits = l }
  spelled_chain (x.Chain.chain_more {q = q} {k = k} {o = o} {g = y} r h d) l g rest c =
      spelled_chain r (chain_rank q k.kind o h) (λ e. g (at k (t.Shape.chained o e y))) rest (case_chain_more q k g h (spelled d l) c)

  spelled_postfixes : {b : List ℕ} {ks ls : List Tok} {e f : Tree} → Postfixes b e ks f ls → 1 ≤ rank_ahead (ahead ls) →
      (g : Tree → Tree) (rest : List Tok) → Gives b postfix_tail ls (v_after g) rest → PostfixGives b ks e (g f) rest
  spelled_postfixes x.Postfixes.postfix_none l g rest c = record { after = g; gives = c; same = refl; fits = l }
  spelled_postfixes (x.Postfixes.postfix_call {k = k} {es = es} r h d) l g rest c =
      spelled_postfixes r (postfix_rank k.kind _ h) (λ e. g (at k (t.Shape.call e (trees es)))) rest
      (case_postfix_call k g h (spelled_until d fits_round (omega arith)) c)
  spelled_postfixes (x.Postfixes.postfix_index {k = k} {es = es} r h d) l g rest c =
      spelled_postfixes r (postfix_rank k.kind _ h) (λ e. g (at k (t.Shape.index e (trees es)))) rest
      (case_postfix_index k g h (spelled_until d fits_square (omega arith)) c)
  spelled_postfixes {b = b} (x.Postfixes.postfix_member {k = k} {n = n} r h hn) l g rest c =
      spelled_postfixes r (postfix_rank k.kind _ h) (λ e. g (at k (t.Shape.member e (name_at b n)))) rest (case_postfix_member k n g h hn c)
  spelled_postfixes (x.Postfixes.postfix_query {k = k} r h) l g rest c =
      spelled_postfixes r (postfix_rank k.kind _ h) (λ e. g (at k (t.Shape.query e))) rest (case_postfix_query k g h c)

  spelled_row : {b : List ℕ} {q : Phrase} {s : TokKind} {ks ls : List Tok} {es : List Tree} → Row b q s ks es ls → needs q ≤ rank s →
      needs q ≤ rank_ahead (ahead ls) → (us : List Tree) (rest : List Tok) →
      Gives b (row_tail q s) ls (v_trees us) rest → RowGives b q s ks (es ++ us) rest
  spelled_row (x.Row.row_one {rest = mid} {e = e} d) i l us rest c =
      record { first = e; others = us; mid = mid; gives_first = spelled d l; gives_others = c; same = refl }
  spelled_row (x.Row.row_more {q = q} {s = s} {k = k} {es = es} {e = e} r h d) i l us rest c =
      row_same (sym (append_assoc es (e ∷ []) us))
      (spelled_row r i (at_rank _ _ _ h i) (e ∷ us) rest (case_row_more k q s h (spelled d l) c))

  spelled_closed : {b : List ℕ} {q : Phrase} {s c : TokKind} {ks rest : List Tok} {es : List Tree} → Closed b q s c ks es rest →
      Fits q s c → Gives b (closed q s c) ks (v_trees es) rest
  spelled_closed {rest = rest} (x.Closed.closed {q = q} {s = s} {c = c} {k = k} {es = es} r h) i =
      case_closed (row_same (append-nil es) (spelled_row r i.sep (at_rank _ _ _ h i.close) [] (k ∷ rest)
      (case_row_end q s (other_ahead _ _ _ h i.other)))) h

  spelled_until : {b : List ℕ} {q : Phrase} {s c : TokKind} {ks rest : List Tok} {es : List Tree} → Until b q s c ks es rest → Fits q s c →
      top q < rise c → Gives b (until q s c) ks (v_trees es) rest
  spelled_until (x.Until.until_none {q = q} {s = s} {c = c} h) i o = case_until_none q s c h
  spelled_until (x.Until.until_some {q = q} {c = c} d) i o = case_until_some (not_above (top q) _ c (closed_opens d) o) (spelled_closed d i)

  spelled_hole_row : {b : List ℕ} {ks ls : List Tok} {hs : List (Tree × Bytes)} → HoleRow b ks hs ls →
      (e : Tree) (mid : List Tok) (g : Tree → List (Tree × Bytes)) (rest : List Tok) → Gives b (phrase p.Expr) ls (v_tree e) mid →
      Gives b hole_rest mid (v_holes g) rest → HolesGive b ks (hs ++ g e) rest
  spelled_hole_row x.HoleRow.no_holes e mid g rest d c =
      record { first = e; after = g; mid = mid; gives_first = d; gives_after = c; same = refl }
  spelled_hole_row {b = b} (x.HoleRow.more_holes {k = k} {rest = ms} {e = y} {hs = hs} r a h) e mid g rest d c =
      holes_same (sym (append_assoc hs ((y, text_at b k) ∷ []) (g e)))
      (spelled_hole_row r y (k ∷ ms) (λ z. (z, text_at b k) ∷ g e) rest (spelled a (at_rank _ _ _ h (omega arith)))
      (case_hole_more k e g h d c))

  spelled_holes : {b : List ℕ} {ks rest : List Tok} {hs : List (Tree × Bytes)} → AreHoles b ks hs rest → HolesGive b ks hs rest
  spelled_holes {b = b} {rest = rest} (x.AreHoles.last_hole {k = k} {e = e} r a h) =
      spelled_hole_row r e (k ∷ rest) (λ z. (z, text_at b k) ∷ []) rest (spelled a (at_rank _ _ _ h (omega arith))) (case_hole_end h)

  spelled_pair_row : {b : List ℕ} {ks ls : List Tok} {ps : List (Tree × Tree)} → PairRow b ks ps ls → 8 ≤ rank_ahead (ahead ls) →
      (qs : List (Tree × Tree)) (rest : List Tok) → Gives b pairs_tail ls (v_pairs qs) rest → PairsGive b ks (ps ++ qs) rest
  spelled_pair_row (x.PairRow.pair_one {rest = mid} {e = e} {f = f} d h g) l qs rest c =
      record {
        first = (e, f);
        others = qs;
        mid = mid;
        gives_first =
            case_pair (spelled d (at_rank _ _ _ h (omega arith))) h (spelled g l);
        gives_others = c;
        same = refl;
      }
  spelled_pair_row (x.PairRow.pair_more {k = k} {e = e} {f = f} {ps = ps} r h d ho g) l qs rest c =
      pairs_same (sym (append_assoc ps ((e, f) ∷ []) qs))
      (spelled_pair_row r (at_rank _ _ _ h (omega arith)) ((e, f) ∷ qs) rest
      (case_pairs_more k h (case_pair (spelled d (at_rank _ _ _ ho (omega arith))) ho (spelled g l)) c))

  spelled_pairs : {b : List ℕ} {ks rest : List Tok} {ps : List (Tree × Tree)} → PairsUntil b ks ps rest →
      Gives b pairs_until ks (v_pairs ps) rest
  spelled_pairs (x.PairsUntil.no_pairs h) = case_no_pairs h
  spelled_pairs {rest = rest} (x.PairsUntil.some_pairs {c = c} {ps = ps} r h) =
      case_some_pairs (not_above 3 _ tok.Close (pair_row_opens r) (omega arith))
      (pairs_same (append-nil ps) (spelled_pair_row r (at_rank _ _ _ h (omega arith)) [] (c ∷ rest) (case_pairs_end h))) h

  spelled_given_row : {b : List ℕ} {ks ls : List Tok} {gs : List (Bytes × Tree)} → GivenRow b ks gs ls → 8 ≤ rank_ahead (ahead ls) →
      (hs : List (Bytes × Tree)) (rest : List Tok) → Gives b givens_tail ls (v_givens hs) rest → GivensGive b ks (gs ++ hs) rest
  spelled_given_row {b = b} (x.GivenRow.given_one {n = n} {rest = mid} {e = e} hn ho d) l hs rest c =
      record {
        first = (name_at b n, e);
        others = hs;
        mid = mid;
        gives_first = case_given hn ho (spelled d l);
        gives_others = c;
        same =
            refl;
      }
  spelled_given_row {b = b} (x.GivenRow.given_more {k = k} {n = n} {e = e} {gs = gs} r h hn ho d) l hs rest c =
      givens_same (sym (append_assoc gs ((name_at b n, e) ∷ []) hs))
      (spelled_given_row r (at_rank _ _ _ h (omega arith)) ((name_at b n, e) ∷ hs) rest
      (case_givens_more k h (case_given hn ho (spelled d l)) c))

  spelled_givens : {b : List ℕ} {ks rest : List Tok} {gs : List (Bytes × Tree)} → GivensUntil b ks gs rest →
      Gives b givens_until ks (v_givens gs) rest
  spelled_givens (x.GivensUntil.no_givens h) = case_no_givens h
  spelled_givens {rest = rest} (x.GivensUntil.some_givens {c = c} {gs = gs} r h) =
      case_some_givens (not_above 0 _ tok.Close (given_row_opens r) (omega arith))
      (givens_same (append-nil gs) (spelled_given_row r (at_rank _ _ _ h (omega arith)) [] (c ∷ rest) (case_givens_end h))) h

  spelled_clause_row : {b : List ℕ} {ks ls : List Tok} {es : List Tree} → ClauseRow b ks es ls → 9 ≤ rank_ahead (ahead ls) →
      (us : List Tree) (rest : List Tok) → Gives b (row_tail p.Clause (mark m.Comma)) ls (v_trees us) rest →
      ClausesGive b ks (es ++ us) rest
  spelled_clause_row (x.ClauseRow.first_generator {rest = mid} {e = e} d) l us rest c =
      record { first = e; others = us; mid = mid; gives_first = spelled d (omega arith); gives_others = c; same = refl }
  spelled_clause_row (x.ClauseRow.more_clauses {k = k} {es = es} {e = e} r h d) l us rest c =
      clauses_same (sym (append_assoc es (e ∷ []) us))
      (spelled_clause_row r (at_rank _ _ _ h (omega arith)) (e ∷ us) rest (case_row_more k p.Clause (mark m.Comma) h (spelled d l) c))

  spelled_clauses : {b : List ℕ} {ks rest : List Tok} {es : List Tree} → Clauses b ks es rest → Gives b clauses ks (v_trees es) rest
  spelled_clauses {rest = rest} (x.Clauses.clauses {c = c} {es = es} r h) =
      case_clauses (clauses_same (append-nil es)
      (spelled_clause_row r (at_rank _ _ _ h (omega arith)) [] (c ∷ rest)
      (case_row_end p.Clause (mark m.Comma) (other_ahead _ _ _ h round_comma)))) h
