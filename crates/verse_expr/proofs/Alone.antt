-- What is spelled is spelled whatever stands behind it.
use Rattle.std.proofs.Common.{◌≡◌, ℕ, ◌+◌, ◌-◌, ◌≤◌, List, [], ◌∷◌, ◌++◌, Option, length, drop, take, refl, sym, ap, subst, ◌∙◌}
use Rattle.std.proofs.Common.{append_assoc, arith, length-append, length-drop}
use Rattle.std.proofs.lemmas.List.{append-nil}
use Rattle.std.proofs.Math.Seq.{take-append_seam}
use Rattle.verse_layout.specs.declared.toks.TokKind.{TokKind}
use Rattle.verse_layout.specs.declared.toks.Tok.{Tok}
use Rattle.verse_tree.specs.Tree.{Bytes, Written, Tree}
use Rattle.verse_grammar.specs.Types.{IsType, AreTypes, more_types, one_type, type_array, type_bare_event, type_char, type_event, type_int}
use Rattle.verse_grammar.specs.Types.{type_logic, type_map, type_name, type_option, type_string, type_task, type_tuple, type_void}
use Rattle.verse_grammar.specs.Exprs.{BracketType, Reads, TypedValue, Control, IsIf, Taken, Chain, Postfixes, Row, Closed, Until, HoleRow}
use Rattle.verse_grammar.specs.Exprs.{AreHoles, PairRow, PairsUntil, GivenRow, GivensUntil, ClauseRow, Clauses, and_chain, any_pattern, arm}
use Rattle.verse_grammar.specs.Exprs.{array, assignment, block, block_form, body_block, body_expr, bracket_type, brackets, branch}
use Rattle.verse_grammar.specs.Exprs.{break_form, cases, chain_more, chain_none, character, character_pattern, clause_control}
use Rattle.verse_grammar.specs.Exprs.{clause_definition, clause_expr, clause_generator, clauses, closed, comparison_sum, comparison_two}
use Rattle.verse_grammar.specs.Exprs.{elements, entries, enum_pattern, event, expr_if, expr_or, falsehood, falsehood_pattern}
use Rattle.verse_grammar.specs.Exprs.{first_generator, for_form, given_more, given_one, if_alone, if_else, instance, integer}
use Rattle.verse_grammar.specs.Exprs.{integer_pattern, last_hole, logic, loop_form, mapping, minus_mark, minus_pattern, minus_postfix}
use Rattle.verse_grammar.specs.Exprs.{more_clauses, more_holes, name_alone, no_bracket_type, no_givens, no_holes, no_pairs, not_comparison}
use Rattle.verse_grammar.specs.Exprs.{not_word, option, or_chain, pair_more, pair_one, part_defer, part_stmt, postfix_call, postfix_chain}
use Rattle.verse_grammar.specs.Exprs.{postfix_index, postfix_member, postfix_none, postfix_query, product_chain, race, range, returned}
use Rattle.verse_grammar.specs.Exprs.{returned_unit, row_more, row_one, rush, sleep, sleep_forever, some_givens, some_pairs, spawn}
use Rattle.verse_grammar.specs.Exprs.{stmt_control, stmt_definition, stmt_expr, stmt_typed, stmt_variable, sum_chain, sync, taken_block}
use Rattle.verse_grammar.specs.Exprs.{taken_then, text, text_holes, text_pattern, this, truth, truth_pattern, tuple, typed_value}
use Rattle.verse_grammar.specs.Exprs.{until_none, until_some}
use Rattle.verse_grammar.specs.declared.phrases.Phrase.{Phrase}
use Rattle.verse_grammar.proofs.SpelledLaws.{one_tree}

-- the toks before the rest, and before what stands there now, are the same
record Front (ks rest all end : List Tok) : Type 0 where
  front : List Tok
  is : ks ≡ front ++ rest
  now : all ≡ front ++ end

here : {rest end : List Tok} → Front rest rest end end
here = record { front = []; is = refl; now = refl }

more : (k : Tok) {ks rest all end : List Tok} → Front ks rest all end → Front (k ∷ ks) rest (k ∷ all) end
more k f = record { front = k ∷ f.front; is = ap (λ (xs : List Tok). k ∷ xs) f.is; now = ap (λ (xs : List Tok). k ∷ xs) f.now }

both : {ks ls rest all mid end : List Tok} → Front ks ls all mid → Front ls rest mid end → Front ks rest all end
both {rest = rest} {end = end} f g = record {
  front = f.front ++ g.front;
  is = f.is ∙ ap (λ (xs : List Tok). f.front ++ xs) g.is ∙ sym (append_assoc f.front g.front rest);
  now = f.now ∙ ap (λ (xs : List Tok). f.front ++ xs) g.now ∙ sym (append_assoc f.front g.front end);
}

record Moved (Is : List Tok → Type 0) (ks rest end : List Tok) : Type 0 where
  all : List Tok
  reads : Is all
  front : Front ks rest all end

-- the first tok stays where the same one stands behind
record FirstKept (k : Tok) (all : List Tok) : Type 0 where
  behind : List Tok
  is : all ≡ k ∷ behind

kept_by : {k : Tok} {ks all : List Tok} (o : Tok) (ls ms front : List Tok) → k ∷ ks ≡ front ++ o ∷ ls → all ≡ front ++ o ∷ ms →
    FirstKept k all
kept_by o ls ms [] e h = record { behind = ms; is = cc }
kept_by o ls ms (f ∷ fs) e h = record { behind = fs ++ o ∷ ms; is = cc }

first_kept : {k o : Tok} {ks ls all ms : List Tok} → Front (k ∷ ks) (o ∷ ls) all (o ∷ ms) → FirstKept k all
first_kept {o = o} {ls = ls} {ms = ms} f = kept_by o ls ms f.front f.is f.now

mutual
  moved_type : (b : List ℕ) {u : Written} {ks rest : List Tok} → IsType b ks u rest → (end : List Tok) →
      Moved (λ (ls : List Tok). IsType b ls u end) ks rest end
  moved_type b (type_int {k = k} h1) end = record { all = k ∷ end; reads = type_int h1; front = more k here }
  moved_type b (type_logic {k = k} h1) end = record { all = k ∷ end; reads = type_logic h1; front = more k here }
  moved_type b (type_char {k = k} h1) end = record { all = k ∷ end; reads = type_char h1; front = more k here }
  moved_type b (type_string {k = k} h1) end = record { all = k ∷ end; reads = type_string h1; front = more k here }
  moved_type b (type_void {k = k} h1) end = record { all = k ∷ end; reads = type_void h1; front = more k here }
  moved_type b (type_name {k = k} h1) end = record { all = k ∷ end; reads = type_name h1; front = more k here }
  moved_type b (type_option {k = k} h1 r1) end = let i1 = moved_type b r1 end in
      record { all = k ∷ i1.all; reads = type_option h1 i1.reads; front = more k i1.front }
  moved_type b (type_array {k = k} {c = c} h1 h2 r1) end = let i1 = moved_type b r1 end in
      record { all = k ∷ c ∷ i1.all; reads = type_array h1 h2 i1.reads; front = more k (more c i1.front) }
  moved_type b (type_map {k = k} {c = c} h1 r1 h2 r2) end = let i2 = moved_type b r2 end in let i1 = moved_type b r1 (c ∷ i2.all) in
      record { all = k ∷ i1.all; reads = type_map h1 i1.reads h2 i2.reads; front = more k (both i1.front (more c i2.front)) }
  moved_type b (type_tuple {k = k} {o = o} {s = s} {c = c} h1 h2 r1 h3 r2 h4) end = let i2 = moved_types b r2 (c ∷ end) in let i1 =
      moved_type b r1 (s ∷ i2.all) in record {
        all = k ∷ o ∷ i1.all;
        reads = type_tuple h1 h2 i1.reads h3 i2.reads h4;
        front =
            more k (more o (both i1.front (more s (both i2.front (more c here)))));
      }
  moved_type b (type_task {k = k} {o = o} {c = c} h1 h2 r1 h3) end = let i1 = moved_type b r1 (c ∷ end) in
      record { all = k ∷ o ∷ i1.all; reads = type_task h1 h2 i1.reads h3; front = more k (more o (both i1.front (more c here))) }
  moved_type b (type_event {k = k} {o = o} {c = c} h1 h2 r1 h3) end = let i1 = moved_type b r1 (c ∷ end) in
      record { all = k ∷ o ∷ i1.all; reads = type_event h1 h2 i1.reads h3; front = more k (more o (both i1.front (more c here))) }
  moved_type b (type_bare_event {k = k} {o = o} {c = c} h1 h2 h3) end =
      record { all = k ∷ o ∷ c ∷ end; reads = type_bare_event h1 h2 h3; front = more k (more o (more c here)) }

  moved_types : (b : List ℕ) {us : List Written} {ks rest : List Tok} → AreTypes b ks us rest → (end : List Tok) →
      Moved (λ (ls : List Tok). AreTypes b ls us end) ks rest end
  moved_types b (one_type r1) end = let i1 = moved_type b r1 end in record { all = i1.all; reads = one_type i1.reads; front = i1.front }
  moved_types b (more_types {s = s} r1 h1 r2) end = let i2 = moved_type b r2 end in let i1 = moved_types b r1 (s ∷ i2.all) in
      record { all = i1.all; reads = more_types i1.reads h1 i2.reads; front = both i1.front (more s i2.front) }

moved_bracket_type : (b : List ℕ) {u : Option Written} {ks rest : List Tok} → BracketType b ks u rest → (end : List Tok) →
    Moved (λ (ls : List Tok). BracketType b ls u end) ks rest end
moved_bracket_type b (bracket_type {o = o} {c = c} h1 r1 h2) end = let i1 = moved_type b r1 (c ∷ end) in
    record { all = o ∷ i1.all; reads = bracket_type h1 i1.reads h2; front = more o (both i1.front (more c here)) }
moved_bracket_type b (no_bracket_type {o = o} {c = c} h1 h2) end =
    record { all = o ∷ c ∷ end; reads = no_bracket_type h1 h2; front = more o (more c here) }

mutual
  moved_reads : (b : List ℕ) {q : Phrase} {e : Tree} {ks rest : List Tok} → Reads b q ks e rest → (end : List Tok) →
      Moved (λ (ls : List Tok). Reads b q ls e end) ks rest end
  moved_reads b (block {k = k} h1 r1) end = let i1 = moved_until b r1 end in
      record { all = k ∷ i1.all; reads = block h1 i1.reads; front = more k i1.front }
  moved_reads b (part_defer {k = k} h1 r1) end = let i1 = moved_reads b r1 end in
      record { all = k ∷ i1.all; reads = part_defer h1 i1.reads; front = more k i1.front }
  moved_reads b (part_stmt r1) end = let i1 = moved_reads b r1 end in record { all = i1.all; reads = part_stmt i1.reads; front = i1.front }
  moved_reads b (stmt_definition {k = k} {o = o} h1 h2 r1) end = let i1 = moved_reads b r1 end in
      record { all = k ∷ o ∷ i1.all; reads = stmt_definition h1 h2 i1.reads; front = more k (more o i1.front) }
  moved_reads b (stmt_typed {k = k} h1 r1) end = let i1 = moved_typed_value b r1 end in
      record { all = k ∷ i1.all; reads = stmt_typed h1 i1.reads; front = more k i1.front }
  moved_reads b (stmt_variable {k = k} {n = n} h1 h2 r1) end = let i1 = moved_typed_value b r1 end in
      record { all = k ∷ n ∷ i1.all; reads = stmt_variable h1 h2 i1.reads; front = more k (more n i1.front) }
  moved_reads b (stmt_control r1) end = let i1 = moved_control b r1 end in
      record { all = i1.all; reads = stmt_control i1.reads; front = i1.front }
  moved_reads b (stmt_expr r1) end = let i1 = moved_reads b r1 end in record { all = i1.all; reads = stmt_expr i1.reads; front = i1.front }
  moved_reads b (body_block r1) end = let i1 = moved_reads b r1 end in
      record { all = i1.all; reads = body_block i1.reads; front = i1.front }
  moved_reads b (body_expr r1) end = let i1 = moved_reads b r1 end in record { all = i1.all; reads = body_expr i1.reads; front = i1.front }
  moved_reads b (expr_if r1) end = let i1 = moved_is_if b r1 end in record { all = i1.all; reads = expr_if i1.reads; front = i1.front }
  moved_reads b (expr_or r1) end = let i1 = moved_reads b r1 end in record { all = i1.all; reads = expr_or i1.reads; front = i1.front }
  moved_reads b (or_chain r1 r2) end = let i2 = moved_chain b r2 end in let i1 = moved_reads b r1 i2.all in
      record { all = i1.all; reads = or_chain i1.reads i2.reads; front = both i1.front i2.front }
  moved_reads b (and_chain r1 r2) end = let i2 = moved_chain b r2 end in let i1 = moved_reads b r1 i2.all in
      record { all = i1.all; reads = and_chain i1.reads i2.reads; front = both i1.front i2.front }
  moved_reads b (not_word {k = k} h1 r1) end = let i1 = moved_reads b r1 end in
      record { all = k ∷ i1.all; reads = not_word h1 i1.reads; front = more k i1.front }
  moved_reads b (not_comparison r1) end = let i1 = moved_reads b r1 end in
      record { all = i1.all; reads = not_comparison i1.reads; front = i1.front }
  moved_reads b (comparison_sum r1) end = let i1 = moved_reads b r1 end in
      record { all = i1.all; reads = comparison_sum i1.reads; front = i1.front }
  moved_reads b (comparison_two {k = k} r1 h1 r2) end = let i2 = moved_reads b r2 end in let i1 = moved_reads b r1 (k ∷ i2.all) in
      record { all = i1.all; reads = comparison_two i1.reads h1 i2.reads; front = both i1.front (more k i2.front) }
  moved_reads b (sum_chain r1 r2) end = let i2 = moved_chain b r2 end in let i1 = moved_reads b r1 i2.all in
      record { all = i1.all; reads = sum_chain i1.reads i2.reads; front = both i1.front i2.front }
  moved_reads b (product_chain r1 r2) end = let i2 = moved_chain b r2 end in let i1 = moved_reads b r1 i2.all in
      record { all = i1.all; reads = product_chain i1.reads i2.reads; front = both i1.front i2.front }
  moved_reads b (minus_mark {k = k} h1 r1) end = let i1 = moved_reads b r1 end in
      record { all = k ∷ i1.all; reads = minus_mark h1 i1.reads; front = more k i1.front }
  moved_reads b (minus_postfix r1) end = let i1 = moved_reads b r1 end in
      record { all = i1.all; reads = minus_postfix i1.reads; front = i1.front }
  moved_reads b (postfix_chain r1 r2) end = let i2 = moved_postfixes b r2 end in let i1 = moved_reads b r1 i2.all in
      record { all = i1.all; reads = postfix_chain i1.reads i2.reads; front = both i1.front i2.front }
  moved_reads b (integer {k = k} h1) end = record { all = k ∷ end; reads = integer h1; front = more k here }
  moved_reads b (character {k = k} h1) end = record { all = k ∷ end; reads = character h1; front = more k here }
  moved_reads b (text {k = k} h1) end = record { all = k ∷ end; reads = text h1; front = more k here }
  moved_reads b (text_holes {k = k} h1 r1) end = let i1 = moved_are_holes b r1 end in
      record { all = k ∷ i1.all; reads = text_holes h1 i1.reads; front = more k i1.front }
  moved_reads b (truth {k = k} h1) end = record { all = k ∷ end; reads = truth h1; front = more k here }
  moved_reads b (falsehood {k = k} h1) end = record { all = k ∷ end; reads = falsehood h1; front = more k here }
  moved_reads b (this {k = k} h1) end = record { all = k ∷ end; reads = this h1; front = more k here }
  moved_reads b (name_alone {k = k} h1) end = record { all = k ∷ end; reads = name_alone h1; front = more k here }
  moved_reads b (instance {k = k} {o = o} h1 h2 r1) end = let i1 = moved_givens_until b r1 end in
      record { all = k ∷ o ∷ i1.all; reads = instance h1 h2 i1.reads; front = more k (more o i1.front) }
  moved_reads b (brackets {k = k} {c = c} h1 r1 h2) end = let i1 = moved_reads b r1 (c ∷ end) in
      record { all = k ∷ i1.all; reads = brackets h1 i1.reads h2; front = more k (both i1.front (more c here)) }
  moved_reads b (tuple {k = k} {s = s} h1 r1 h2 r2) end = let i2 = moved_closed b r2 end in let i1 = moved_reads b r1 (s ∷ i2.all) in
      record { all = k ∷ i1.all; reads = tuple h1 i1.reads h2 i2.reads; front = more k (both i1.front (more s i2.front)) }
  moved_reads b (array {k = k} {o = o} h1 h2 r1) end = let i1 = moved_until b r1 end in
      record { all = k ∷ o ∷ i1.all; reads = array h1 h2 i1.reads; front = more k (more o i1.front) }
  moved_reads b (mapping {k = k} {o = o} h1 h2 r1) end = let i1 = moved_pairs_until b r1 end in
      record { all = k ∷ o ∷ i1.all; reads = mapping h1 h2 i1.reads; front = more k (more o i1.front) }
  moved_reads b (option {k = k} {o = o} h1 h2 r1) end = let i1 = moved_closed b r1 end in
      record { all = k ∷ o ∷ i1.all; reads = option h1 h2 i1.reads; front = more k (more o i1.front) }
  moved_reads b (logic {k = k} {o = o} h1 h2 r1) end = let i1 = moved_closed b r1 end in
      record { all = k ∷ o ∷ i1.all; reads = logic h1 h2 i1.reads; front = more k (more o i1.front) }
  moved_reads b (event {k = k} {o = o} {c = c} h1 r1 h2 h3) end = let i1 = moved_bracket_type b r1 (o ∷ c ∷ end) in
      record { all = k ∷ i1.all; reads = event h1 i1.reads h2 h3; front = more k (both i1.front (more o (more c here))) }
  moved_reads b (for_form {k = k} {o = o} h1 h2 r1 r2) end = let i2 = moved_reads b r2 end in let i1 = moved_clauses b r1 i2.all in
      record { all = k ∷ o ∷ i1.all; reads = for_form h1 h2 i1.reads i2.reads; front = more k (more o (both i1.front i2.front)) }
  moved_reads b (loop_form {k = k} h1 r1) end = let i1 = moved_reads b r1 end in
      record { all = k ∷ i1.all; reads = loop_form h1 i1.reads; front = more k i1.front }
  moved_reads b (block_form {k = k} h1 r1) end = let i1 = moved_reads b r1 end in
      record { all = k ∷ i1.all; reads = block_form h1 i1.reads; front = more k i1.front }
  moved_reads b (branch {k = k} h1 r1) end = let i1 = moved_reads b r1 end in
      record { all = k ∷ i1.all; reads = branch h1 i1.reads; front = more k i1.front }
  moved_reads b (sync {k = k} {o = o} h1 h2 r1) end = let i1 = moved_until b r1 end in
      record { all = k ∷ o ∷ i1.all; reads = sync h1 h2 i1.reads; front = more k (more o i1.front) }
  moved_reads b (race {k = k} {o = o} h1 h2 r1) end = let i1 = moved_until b r1 end in
      record { all = k ∷ o ∷ i1.all; reads = race h1 h2 i1.reads; front = more k (more o i1.front) }
  moved_reads b (rush {k = k} {o = o} h1 h2 r1) end = let i1 = moved_until b r1 end in
      record { all = k ∷ o ∷ i1.all; reads = rush h1 h2 i1.reads; front = more k (more o i1.front) }
  moved_reads b (cases {k = k} {o = o} {c = c} {q = q} h1 h2 r1 h3 h4 r2) end = let i2 = moved_closed b r2 end in let i1 =
      moved_reads b r1 (c ∷ q ∷ i2.all) in record {
        all = k ∷ o ∷ i1.all;
        reads = cases h1 h2 i1.reads h3 h4 i2.reads;
        front =
            more k (more o (both i1.front (more c (more q i2.front))));
      }
  moved_reads b (spawn {k = k} {o = o} {c = c} h1 h2 r1 h3) end = let i1 = moved_reads b r1 (c ∷ end) in
      record { all = k ∷ o ∷ i1.all; reads = spawn h1 h2 i1.reads h3; front = more k (more o (both i1.front (more c here))) }
  moved_reads b (sleep {k = k} {o = o} {d = d} {c = c} h1 h2 h3 h4) end =
      record { all = k ∷ o ∷ d ∷ c ∷ end; reads = sleep h1 h2 h3 h4; front = more k (more o (more d (more c here))) }
  moved_reads b (sleep_forever {k = k} {o = o} {d = d} {c = c} h1 h2 h3 h4) end =
      record { all = k ∷ o ∷ d ∷ c ∷ end; reads = sleep_forever h1 h2 h3 h4; front = more k (more o (more d (more c here))) }
  moved_reads b (elements {k = k} {o = o} h1 h2 r1) end = let i1 = moved_reads b r1 end in
      record { all = k ∷ o ∷ i1.all; reads = elements h1 h2 i1.reads; front = more k (more o i1.front) }
  moved_reads b (entries {k = k} {o = o} {v = v} {q = q} h1 h2 h3 h4 r1) end = let i1 = moved_reads b r1 end in
      record { all = k ∷ o ∷ v ∷ q ∷ i1.all; reads = entries h1 h2 h3 h4 i1.reads; front = more k (more o (more v (more q i1.front))) }
  moved_reads b (range {k = k} {o = o} {d = d} h1 h2 r1 h3 r2) end = let i2 = moved_reads b r2 end in let i1 =
      moved_reads b r1 (d ∷ i2.all) in record {
        all = k ∷ o ∷ i1.all;
        reads = range h1 h2 i1.reads h3 i2.reads;
        front =
            more k (more o (both i1.front (more d i2.front)));
      }
  moved_reads b (clause_generator r1) end = let i1 = moved_reads b r1 end in
      record { all = i1.all; reads = clause_generator i1.reads; front = i1.front }
  moved_reads b (clause_definition {k = k} {o = o} h1 h2 r1) end = let i1 = moved_reads b r1 end in
      record { all = k ∷ o ∷ i1.all; reads = clause_definition h1 h2 i1.reads; front = more k (more o i1.front) }
  moved_reads b (clause_control r1) end = let i1 = moved_control b r1 end in
      record { all = i1.all; reads = clause_control i1.reads; front = i1.front }
  moved_reads b (clause_expr r1) end = let i1 = moved_reads b r1 end in
      record { all = i1.all; reads = clause_expr i1.reads; front = i1.front }
  moved_reads b (arm {k = k} {o = o} r1 h1 r2) end =
      let i2 = moved_reads b r2 end in
      let i1 = moved_reads b r1 (o ∷ i2.all) in
      let f = first_kept i1.front in
      record { all = k ∷ f.behind; reads = arm (rw f.is at i1.reads) h1 i2.reads; front = rw f.is at (both i1.front (more o i2.front)) }
  moved_reads b (integer_pattern {k = k} h1) end = record { all = k ∷ end; reads = integer_pattern h1; front = more k here }
  moved_reads b (minus_pattern {k = k} {q = q} h1 h2) end =
      record { all = k ∷ q ∷ end; reads = minus_pattern h1 h2; front = more k (more q here) }
  moved_reads b (character_pattern {k = k} h1) end = record { all = k ∷ end; reads = character_pattern h1; front = more k here }
  moved_reads b (text_pattern {k = k} h1) end = record { all = k ∷ end; reads = text_pattern h1; front = more k here }
  moved_reads b (truth_pattern {k = k} h1) end = record { all = k ∷ end; reads = truth_pattern h1; front = more k here }
  moved_reads b (falsehood_pattern {k = k} h1) end = record { all = k ∷ end; reads = falsehood_pattern h1; front = more k here }
  moved_reads b (any_pattern {k = k} h1) end = record { all = k ∷ end; reads = any_pattern h1; front = more k here }
  moved_reads b (enum_pattern {k = k} {d = d} {v = v} h1 h2 h3) end =
      record { all = k ∷ d ∷ v ∷ end; reads = enum_pattern h1 h2 h3; front = more k (more d (more v here)) }

  moved_typed_value : (b : List ℕ) {u : Written} {e : Tree} {ks rest : List Tok} → TypedValue b ks u e rest → (end : List Tok) →
      Moved (λ (ls : List Tok). TypedValue b ls u e end) ks rest end
  moved_typed_value b (typed_value {o = o} {q = q} h1 r1 h2 r2) end = let i2 = moved_reads b r2 end in let i1 =
      moved_type b r1 (q ∷ i2.all) in record {
        all = o ∷ i1.all;
        reads = typed_value h1 i1.reads h2 i2.reads;
        front =
            more o (both i1.front (more q i2.front));
      }

  moved_control : (b : List ℕ) {e : Tree} {ks rest : List Tok} → Control b ks e rest → (end : List Tok) →
      Moved (λ (ls : List Tok). Control b ls e end) ks rest end
  moved_control b (assignment {k = k} {o = o} h1 r1 h2 r2) end = let i2 = moved_reads b r2 end in let i1 = moved_reads b r1 (o ∷ i2.all) in
      record { all = k ∷ i1.all; reads = assignment h1 i1.reads h2 i2.reads; front = more k (both i1.front (more o i2.front)) }
  moved_control b (returned {k = k} h1 r1) end = let i1 = moved_reads b r1 end in
      record { all = k ∷ i1.all; reads = returned h1 i1.reads; front = more k i1.front }
  moved_control b (returned_unit {k = k} h1) end = record { all = k ∷ end; reads = returned_unit h1; front = more k here }
  moved_control b (break_form {k = k} h1) end = record { all = k ∷ end; reads = break_form h1; front = more k here }

  moved_is_if : (b : List ℕ) {e : Tree} {ks rest : List Tok} → IsIf b ks e rest → (end : List Tok) →
      Moved (λ (ls : List Tok). IsIf b ls e end) ks rest end
  moved_is_if b (if_alone {k = k} {o = o} h1 h2 r1 r2) end = let i2 = moved_taken b r2 end in let i1 = moved_closed b r1 i2.all in
      record { all = k ∷ o ∷ i1.all; reads = if_alone h1 h2 i1.reads i2.reads; front = more k (more o (both i1.front i2.front)) }
  moved_is_if b (if_else {k = k} {o = o} {q = q} h1 h2 r1 r2 h3 r3) end = let i3 = moved_reads b r3 end in let i2 =
      moved_taken b r2 (q ∷ i3.all) in let i1 = moved_closed b r1 i2.all in
      record {
        all = k ∷ o ∷ i1.all;
        reads = if_else h1 h2 i1.reads i2.reads h3 i3.reads;
        front =
            more k (more o (both i1.front (both i2.front (more q i3.front))));
      }

  moved_taken : (b : List ℕ) {e : Tree} {ks rest : List Tok} → Taken b ks e rest → (end : List Tok) →
      Moved (λ (ls : List Tok). Taken b ls e end) ks rest end
  moved_taken b (taken_then {k = k} h1 r1) end = let i1 = moved_reads b r1 end in
      record { all = k ∷ i1.all; reads = taken_then h1 i1.reads; front = more k i1.front }
  moved_taken b (taken_block r1) end = let i1 = moved_reads b r1 end in
      record { all = i1.all; reads = taken_block i1.reads; front = i1.front }

  moved_chain : (b : List ℕ) {q : Phrase} {e : Tree} {f : Tree} {ks rest : List Tok} → Chain b q e ks f rest → (end : List Tok) →
      Moved (λ (ls : List Tok). Chain b q e ls f end) ks rest end
  moved_chain b chain_none end = record { all = end; reads = chain_none; front = here }
  moved_chain b (chain_more {k = k} r1 h1 r2) end = let i2 = moved_reads b r2 end in let i1 = moved_chain b r1 (k ∷ i2.all) in
      record { all = i1.all; reads = chain_more i1.reads h1 i2.reads; front = both i1.front (more k i2.front) }

  moved_postfixes : (b : List ℕ) {e : Tree} {f : Tree} {ks rest : List Tok} → Postfixes b e ks f rest → (end : List Tok) →
      Moved (λ (ls : List Tok). Postfixes b e ls f end) ks rest end
  moved_postfixes b postfix_none end = record { all = end; reads = postfix_none; front = here }
  moved_postfixes b (postfix_call {k = k} r1 h1 r2) end = let i2 = moved_until b r2 end in let i1 = moved_postfixes b r1 (k ∷ i2.all) in
      record { all = i1.all; reads = postfix_call i1.reads h1 i2.reads; front = both i1.front (more k i2.front) }
  moved_postfixes b (postfix_index {k = k} r1 h1 r2) end = let i2 = moved_until b r2 end in let i1 = moved_postfixes b r1 (k ∷ i2.all) in
      record { all = i1.all; reads = postfix_index i1.reads h1 i2.reads; front = both i1.front (more k i2.front) }
  moved_postfixes b (postfix_member {k = k} {n = n} r1 h1 h2) end = let i1 = moved_postfixes b r1 (k ∷ n ∷ end) in
      record { all = i1.all; reads = postfix_member i1.reads h1 h2; front = both i1.front (more k (more n here)) }
  moved_postfixes b (postfix_query {k = k} r1 h1) end = let i1 = moved_postfixes b r1 (k ∷ end) in
      record { all = i1.all; reads = postfix_query i1.reads h1; front = both i1.front (more k here) }

  moved_row : (b : List ℕ) {q : Phrase} {s : TokKind} {es : List Tree} {ks rest : List Tok} → Row b q s ks es rest → (end : List Tok) →
      Moved (λ (ls : List Tok). Row b q s ls es end) ks rest end
  moved_row b (row_one r1) end = let i1 = moved_reads b r1 end in record { all = i1.all; reads = row_one i1.reads; front = i1.front }
  moved_row b (row_more {k = k} r1 h1 r2) end = let i2 = moved_reads b r2 end in let i1 = moved_row b r1 (k ∷ i2.all) in
      record { all = i1.all; reads = row_more i1.reads h1 i2.reads; front = both i1.front (more k i2.front) }

  moved_closed : (b : List ℕ) {q : Phrase} {s : TokKind} {c : TokKind} {es : List Tree} {ks rest : List Tok} → Closed b q s c ks es rest →
      (end : List Tok) → Moved (λ (ls : List Tok). Closed b q s c ls es end) ks rest end
  moved_closed b (closed {k = k} r1 h1) end = let i1 = moved_row b r1 (k ∷ end) in
      record { all = i1.all; reads = closed i1.reads h1; front = both i1.front (more k here) }

  moved_until : (b : List ℕ) {q : Phrase} {s : TokKind} {c : TokKind} {es : List Tree} {ks rest : List Tok} → Until b q s c ks es rest →
      (end : List Tok) → Moved (λ (ls : List Tok). Until b q s c ls es end) ks rest end
  moved_until b (until_none {k = k} h1) end = record { all = k ∷ end; reads = until_none h1; front = more k here }
  moved_until b (until_some r1) end = let i1 = moved_closed b r1 end in
      record { all = i1.all; reads = until_some i1.reads; front = i1.front }

  moved_hole_row : (b : List ℕ) {hs : List (Tree × Bytes)} {ks rest : List Tok} → HoleRow b ks hs rest → (end : List Tok) →
      Moved (λ (ls : List Tok). HoleRow b ls hs end) ks rest end
  moved_hole_row b no_holes end = record { all = end; reads = no_holes; front = here }
  moved_hole_row b (more_holes {k = k} r1 r2 h1) end = let i2 = moved_reads b r2 (k ∷ end) in let i1 = moved_hole_row b r1 i2.all in
      record { all = i1.all; reads = more_holes i1.reads i2.reads h1; front = both i1.front (both i2.front (more k here)) }

  moved_are_holes : (b : List ℕ) {hs : List (Tree × Bytes)} {ks rest : List Tok} → AreHoles b ks hs rest → (end : List Tok) →
      Moved (λ (ls : List Tok). AreHoles b ls hs end) ks rest end
  moved_are_holes b (last_hole {k = k} r1 r2 h1) end = let i2 = moved_reads b r2 (k ∷ end) in let i1 = moved_hole_row b r1 i2.all in
      record { all = i1.all; reads = last_hole i1.reads i2.reads h1; front = both i1.front (both i2.front (more k here)) }

  moved_pair_row : (b : List ℕ) {ps : List (Tree × Tree)} {ks rest : List Tok} → PairRow b ks ps rest → (end : List Tok) →
      Moved (λ (ls : List Tok). PairRow b ls ps end) ks rest end
  moved_pair_row b (pair_one {o = o} r1 h1 r2) end = let i2 = moved_reads b r2 end in let i1 = moved_reads b r1 (o ∷ i2.all) in
      record { all = i1.all; reads = pair_one i1.reads h1 i2.reads; front = both i1.front (more o i2.front) }
  moved_pair_row b (pair_more {k = k} {o = o} r1 h1 r2 h2 r3) end = let i3 = moved_reads b r3 end in let i2 =
      moved_reads b r2 (o ∷ i3.all) in let i1 = moved_pair_row b r1 (k ∷ i2.all) in
      record {
        all = i1.all;
        reads = pair_more i1.reads h1 i2.reads h2 i3.reads;
        front =
            both i1.front (more k (both i2.front (more o i3.front)));
      }

  moved_pairs_until : (b : List ℕ) {ps : List (Tree × Tree)} {ks rest : List Tok} → PairsUntil b ks ps rest → (end : List Tok) →
      Moved (λ (ls : List Tok). PairsUntil b ls ps end) ks rest end
  moved_pairs_until b (no_pairs {c = c} h1) end = record { all = c ∷ end; reads = no_pairs h1; front = more c here }
  moved_pairs_until b (some_pairs {c = c} r1 h1) end = let i1 = moved_pair_row b r1 (c ∷ end) in
      record { all = i1.all; reads = some_pairs i1.reads h1; front = both i1.front (more c here) }

  moved_given_row : (b : List ℕ) {gs : List (Bytes × Tree)} {ks rest : List Tok} → GivenRow b ks gs rest → (end : List Tok) →
      Moved (λ (ls : List Tok). GivenRow b ls gs end) ks rest end
  moved_given_row b (given_one {n = n} {o = o} h1 h2 r1) end = let i1 = moved_reads b r1 end in
      record { all = n ∷ o ∷ i1.all; reads = given_one h1 h2 i1.reads; front = more n (more o i1.front) }
  moved_given_row b (given_more {k = k} {n = n} {o = o} r1 h1 h2 h3 r2) end = let i2 = moved_reads b r2 end in let i1 =
      moved_given_row b r1 (k ∷ n ∷ o ∷ i2.all) in
      record { all = i1.all; reads = given_more i1.reads h1 h2 h3 i2.reads; front = both i1.front (more k (more n (more o i2.front))) }

  moved_givens_until : (b : List ℕ) {gs : List (Bytes × Tree)} {ks rest : List Tok} → GivensUntil b ks gs rest → (end : List Tok) →
      Moved (λ (ls : List Tok). GivensUntil b ls gs end) ks rest end
  moved_givens_until b (no_givens {c = c} h1) end = record { all = c ∷ end; reads = no_givens h1; front = more c here }
  moved_givens_until b (some_givens {c = c} r1 h1) end = let i1 = moved_given_row b r1 (c ∷ end) in
      record { all = i1.all; reads = some_givens i1.reads h1; front = both i1.front (more c here) }

  moved_clause_row : (b : List ℕ) {es : List Tree} {ks rest : List Tok} → ClauseRow b ks es rest → (end : List Tok) →
      Moved (λ (ls : List Tok). ClauseRow b ls es end) ks rest end
  moved_clause_row b (first_generator r1) end = let i1 = moved_reads b r1 end in
      record { all = i1.all; reads = first_generator i1.reads; front = i1.front }
  moved_clause_row b (more_clauses {k = k} r1 h1 r2) end = let i2 = moved_reads b r2 end in let i1 = moved_clause_row b r1 (k ∷ i2.all) in
      record { all = i1.all; reads = more_clauses i1.reads h1 i2.reads; front = both i1.front (more k i2.front) }

  moved_clauses : (b : List ℕ) {es : List Tree} {ks rest : List Tok} → Clauses b ks es rest → (end : List Tok) →
      Moved (λ (ls : List Tok). Clauses b ls es end) ks rest end
  moved_clauses b (clauses {c = c} r1 h1) end = let i1 = moved_clause_row b r1 (c ∷ end) in
      record { all = i1.all; reads = clauses i1.reads h1; front = both i1.front (more c here) }

alone : {b : List ℕ} {q : Phrase} {ks rest : List Tok} {e : Tree} → Moved (λ (ls : List Tok). Reads b q ls e []) ks rest [] →
    Reads b q (take (length ks - length rest) ks) e []
alone {b} {q} {ks} {rest} {e} i =
    let f = i.front in
    let n : length ks - length rest ≡ length f.front = rw f.is (omega (arith, length-append f.front rest)) in
    let t : take (length ks - length rest) ks ≡ f.front =
    ap (λ (k : ℕ). take k ks) n ∙ ap (λ (ls : List Tok). take (length f.front) ls) f.is ∙ take-append_seam f.front rest in
    let s : i.all ≡ f.front = f.now ∙ append-nil f.front in
    subst (λ (ls : List Tok). Reads b q ls e []) (s ∙ sym t) i.reads

-- the toks of a phrase, from one index to another, spell no other tree
pub phrase_once : (b : List ℕ) (q : Phrase) (ks : List Tok) (at behind : ℕ) (t : Tree) → at ≤ behind → behind ≤ length ks →
    Reads b q (drop at ks) t (drop behind ks) →
    (u : Tree) → Reads b q (take (behind - at) (drop at ks)) u [] → u ≡ t
phrase_once b q ks at behind t h i r u s =
    let n : length (drop at ks) - length (drop behind ks) ≡ behind - at = omega (arith, length-drop at ks, length-drop behind ks) in
    let a : Reads b q (take (length (drop at ks) - length (drop behind ks)) (drop at ks)) t [] = alone (moved_reads b r []) in
    one_tree b q (take (behind - at) (drop at ks)) u t s (subst (λ (k : ℕ). Reads b q (take k (drop at ks)) t []) n a)
