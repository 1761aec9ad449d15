-- A program has no more nodes than toks, but for its own.
use Rattle.std.proofs.Common.{◌≡◌, ℕ, ◌+◌, ◌≤◌, List, [], ◌∷◌, ◌++◌, Option, Some, None, length, refl, arith}
use Rattle.verse_layout.specs.declared.toks.TokKind.{TokKind}
use Rattle.verse_layout.specs.declared.toks.Tok.{Tok}
use Rattle.verse_tree.specs.Tree.{Bytes, Written, Tree}
use Rattle.verse_tree.specs.ItemTree.{SpecTree, ParamTree, FunTree, FieldTree, MemberTree, ItemTree}
use Rattle.verse_tree.specs.View.{writtens, trees, holes, pairs, givens}
use Rattle.verse_tree.specs.Numbering.{written_nodes, writtens_nodes, nodes, trees_nodes, holes_nodes, pairs_nodes, givens_nodes}
use Rattle.verse_tree.specs.Numbering.{list_nodes, param_nodes, fun_nodes, default_nodes, field_nodes, member_nodes, item_nodes}
use Rattle.verse_tree.specs.Numbering.{items_nodes}
use Rattle.verse_grammar.specs.Toks.{name_at, text_at}
use Rattle.verse_grammar.specs.Types.{IsType, AreTypes, more_types, one_type, type_array, type_bare_event, type_char, type_event, type_int}
use Rattle.verse_grammar.specs.Types.{type_logic, type_map, type_name, type_option, type_string, type_task, type_tuple, type_void}
use Rattle.verse_grammar.specs.Exprs.{event_at, BracketType, Reads, TypedValue, Control, IsIf, Taken, Chain, Postfixes, Row, Closed, Until}
use Rattle.verse_grammar.specs.Exprs.{HoleRow, AreHoles, PairRow, PairsUntil, GivenRow, GivensUntil, ClauseRow, Clauses, and_chain}
use Rattle.verse_grammar.specs.Exprs.{any_pattern, arm, array, assignment, block, body_block, body_expr, bracket_type, brackets, branch}
use Rattle.verse_grammar.specs.Exprs.{cases, chain_more, chain_none, character, character_pattern, if_else, if_alone, clause_control}
use Rattle.verse_grammar.specs.Exprs.{clause_definition, clause_expr, clause_generator, clauses, closed, comparison_sum, comparison_two}
use Rattle.verse_grammar.specs.Exprs.{for_form, elements, entries, enum_pattern, event, expr_if, expr_or, falsehood, falsehood_pattern}
use Rattle.verse_grammar.specs.Exprs.{first_generator, given_more, given_one, instance, integer, integer_pattern, last_hole, break_form}
use Rattle.verse_grammar.specs.Exprs.{logic, mapping, minus_mark, minus_pattern, minus_postfix, more_clauses, more_holes, name_alone}
use Rattle.verse_grammar.specs.Exprs.{no_bracket_type, no_givens, no_holes, no_pairs, not_comparison, not_word, option, or_chain, pair_more}
use Rattle.verse_grammar.specs.Exprs.{pair_one, part_defer, part_stmt, postfix_call, postfix_chain, postfix_index, postfix_member}
use Rattle.verse_grammar.specs.Exprs.{postfix_none, postfix_query, product_chain, race, range, returned, returned_unit, row_more, row_one}
use Rattle.verse_grammar.specs.Exprs.{rush, block_form, sleep, sleep_forever, some_givens, some_pairs, spawn, stmt_control, stmt_definition}
use Rattle.verse_grammar.specs.Exprs.{stmt_expr, stmt_typed, stmt_variable, sum_chain, sync, taken_block, taken_then, text, text_holes}
use Rattle.verse_grammar.specs.Exprs.{text_pattern, this, truth, truth_pattern, tuple, loop_form, typed_value, until_none, until_some}
use Rattle.verse_grammar.specs.Items.{Specs, Dotted, Path, ValueRow, Values, Param, ParamRow, Params, FunRest, Fun, Default, Field, Member}
use Rattle.verse_grammar.specs.Items.{MemberRow, Members, Parent, Item, ItemRow, Program, default, field_plain, field_var, fun, fun_rest}
use Rattle.verse_grammar.specs.Items.{item_class, item_enum, item_function, item_using, member_field, member_method, more_items}
use Rattle.verse_grammar.specs.Items.{more_members, more_names, more_params, more_parts, more_specs, more_values, no_default, no_items}
use Rattle.verse_grammar.specs.Items.{no_members, no_params, no_parent, no_specs, no_values, one_item, one_member, one_name, one_param}
use Rattle.verse_grammar.specs.Items.{one_part, one_value, param, parent, some_items, some_members, some_params, some_values}
use Rattle.verse_grammar.specs.declared.phrases.Phrase.{Phrase}

-- the nodes of a type that may be left out
abbrev maybe_nodes : Option Written → ℕ
maybe_nodes None = 0
maybe_nodes (Some u) = written_nodes u

event_nodes : (k : Tok) (u : Option Written) → nodes (event_at k u) ≡ maybe_nodes u + 1
event_nodes k None = refl
event_nodes k (Some u) = refl

writtens_more : (ws : List Written) (w : Written) →
    writtens_nodes (writtens (ws ++ w ∷ [])) ≡ writtens_nodes (writtens ws) + written_nodes w
writtens_more [] w = omega arith
writtens_more (v ∷ ws) w = let i = writtens_more ws w in omega (arith, i)

trees_more : (es : List Tree) (e : Tree) → trees_nodes (trees (es ++ e ∷ [])) ≡ trees_nodes (trees es) + nodes e
trees_more [] e = omega arith
trees_more (d ∷ es) e = let i = trees_more es e in omega (arith, i)

holes_more : (hs : List (Tree × Bytes)) (e : Tree) (x : Bytes) → holes_nodes (holes (hs ++ (e, x) ∷ [])) ≡ holes_nodes (holes hs) + nodes e
holes_more [] e x = omega arith
holes_more (h ∷ hs) e x = let i = holes_more hs e x in omega (arith, i)

pairs_more : (ps : List (Tree × Tree)) (e f : Tree) → pairs_nodes (pairs (ps ++ (e, f) ∷ [])) ≡ pairs_nodes (pairs ps) + (nodes e + nodes f)
pairs_more [] e f = omega arith
pairs_more (p ∷ ps) e f = let i = pairs_more ps e f in omega (arith, i)

givens_more : (gs : List (Bytes × Tree)) (x : Bytes) (e : Tree) →
    givens_nodes (givens (gs ++ (x, e) ∷ [])) ≡ givens_nodes (givens gs) + nodes e
givens_more [] x e = omega arith
givens_more (g ∷ gs) x e = let i = givens_more gs x e in omega (arith, i)

list_more : {X : Type 0} (size : X → ℕ) (xs : List X) (x : X) → list_nodes size (xs ++ x ∷ []) ≡ list_nodes size xs + size x
list_more size [] x = omega arith
list_more size (y ∷ xs) x = let i = list_more size xs x in omega (arith, i)

mutual
  few_is_type : (b : List ℕ) {ks rest : List Tok} {u : Written} → IsType b ks u rest → written_nodes u + length rest ≤ length ks
  few_is_type b (type_int _) = omega arith
  few_is_type b (type_logic _) = omega arith
  few_is_type b (type_char _) = omega arith
  few_is_type b (type_string _) = omega arith
  few_is_type b (type_void _) = omega arith
  few_is_type b (type_name _) = omega arith
  few_is_type b (type_option _ r1) = let i1 = few_is_type b r1 in omega (arith, i1)
  few_is_type b (type_array _ _ r1) = let i1 = few_is_type b r1 in omega (arith, i1)
  few_is_type b (type_map _ r1 _ r2) = let i1 = few_is_type b r1 in let i2 = few_is_type b r2 in omega (arith, i1, i2)
  few_is_type b (type_tuple _ _ r1 _ r2 _) = let i1 = few_is_type b r1 in let i2 = few_are_types b r2 in omega (arith, i1, i2)
  few_is_type b (type_task _ _ r1 _) = let i1 = few_is_type b r1 in omega (arith, i1)
  few_is_type b (type_event _ _ r1 _) = let i1 = few_is_type b r1 in omega (arith, i1)
  few_is_type b (type_bare_event _ _ _) = omega arith

  few_are_types : (b : List ℕ) {ks rest : List Tok} {us : List Written} → AreTypes b ks us rest →
      writtens_nodes (writtens us) + length rest ≤ length ks
  few_are_types b (one_type r1) = let i1 = few_is_type b r1 in omega (arith, i1)
  few_are_types b (more_types {ws = ws} {w = w} r1 _ r2) = let i1 = few_are_types b r1 in let i2 = few_is_type b r2 in
      omega (arith, i1, i2, writtens_more ws w)

few_bracket_type : (b : List ℕ) {ks rest : List Tok} {u : Option Written} → BracketType b ks u rest →
    maybe_nodes u + length rest ≤ length ks
few_bracket_type b (bracket_type _ r1 _) = let i1 = few_is_type b r1 in omega (arith, i1)
few_bracket_type b (no_bracket_type _ _) = omega arith

mutual
  few_reads : (b : List ℕ) {q : Phrase} {ks rest : List Tok} {e : Tree} → Reads b q ks e rest → nodes e + length rest ≤ length ks
  few_reads b (block _ r1) = let i1 = few_until b r1 in omega (arith, i1)
  few_reads b (part_defer _ r1) = let i1 = few_reads b r1 in omega (arith, i1)
  few_reads b (part_stmt r1) = let i1 = few_reads b r1 in omega (arith, i1)
  few_reads b (stmt_definition _ _ r1) = let i1 = few_reads b r1 in omega (arith, i1)
  few_reads b (stmt_typed _ r1) = let i1 = few_typed_value b r1 in omega (arith, i1)
  few_reads b (stmt_variable _ _ r1) = let i1 = few_typed_value b r1 in omega (arith, i1)
  few_reads b (stmt_control r1) = let i1 = few_control b r1 in omega (arith, i1)
  few_reads b (stmt_expr r1) = let i1 = few_reads b r1 in omega (arith, i1)
  few_reads b (body_block r1) = let i1 = few_reads b r1 in omega (arith, i1)
  few_reads b (body_expr r1) = let i1 = few_reads b r1 in omega (arith, i1)
  few_reads b (expr_if r1) = let i1 = few_is_if b r1 in omega (arith, i1)
  few_reads b (expr_or r1) = let i1 = few_reads b r1 in omega (arith, i1)
  few_reads b (or_chain r1 r2) = let i1 = few_reads b r1 in let i2 = few_chain b r2 in omega (arith, i1, i2)
  few_reads b (and_chain r1 r2) = let i1 = few_reads b r1 in let i2 = few_chain b r2 in omega (arith, i1, i2)
  few_reads b (not_word _ r1) = let i1 = few_reads b r1 in omega (arith, i1)
  few_reads b (not_comparison r1) = let i1 = few_reads b r1 in omega (arith, i1)
  few_reads b (comparison_sum r1) = let i1 = few_reads b r1 in omega (arith, i1)
  few_reads b (comparison_two r1 _ r2) = let i1 = few_reads b r1 in let i2 = few_reads b r2 in omega (arith, i1, i2)
  few_reads b (sum_chain r1 r2) = let i1 = few_reads b r1 in let i2 = few_chain b r2 in omega (arith, i1, i2)
  few_reads b (product_chain r1 r2) = let i1 = few_reads b r1 in let i2 = few_chain b r2 in omega (arith, i1, i2)
  few_reads b (minus_mark _ r1) = let i1 = few_reads b r1 in omega (arith, i1)
  few_reads b (minus_postfix r1) = let i1 = few_reads b r1 in omega (arith, i1)
  few_reads b (postfix_chain r1 r2) = let i1 = few_reads b r1 in let i2 = few_postfixes b r2 in omega (arith, i1, i2)
  few_reads b (integer _) = omega arith
  few_reads b (character _) = omega arith
  few_reads b (text _) = omega arith
  few_reads b (text_holes _ r1) = let i1 = few_are_holes b r1 in omega (arith, i1)
  few_reads b (truth _) = omega arith
  few_reads b (falsehood _) = omega arith
  few_reads b (this _) = omega arith
  few_reads b (name_alone _) = omega arith
  few_reads b (instance _ _ r1) = let i1 = few_givens_until b r1 in omega (arith, i1)
  few_reads b (brackets _ r1 _) = let i1 = few_reads b r1 in omega (arith, i1)
  few_reads b (tuple _ r1 _ r2) = let i1 = few_reads b r1 in let i2 = few_closed b r2 in omega (arith, i1, i2)
  few_reads b (array _ _ r1) = let i1 = few_until b r1 in omega (arith, i1)
  few_reads b (mapping _ _ r1) = let i1 = few_pairs_until b r1 in omega (arith, i1)
  few_reads b (option _ _ r1) = let i1 = few_closed b r1 in omega (arith, i1)
  few_reads b (logic _ _ r1) = let i1 = few_closed b r1 in omega (arith, i1)
  few_reads b (event {k = k} {u = u} _ r1 _ _) = let i1 = few_bracket_type b r1 in omega (arith, i1, event_nodes k u)
  few_reads b (for_form _ _ r1 r2) = let i1 = few_clauses b r1 in let i2 = few_reads b r2 in omega (arith, i1, i2)
  few_reads b (loop_form _ r1) = let i1 = few_reads b r1 in omega (arith, i1)
  few_reads b (block_form _ r1) = let i1 = few_reads b r1 in omega (arith, i1)
  few_reads b (branch _ r1) = let i1 = few_reads b r1 in omega (arith, i1)
  few_reads b (sync _ _ r1) = let i1 = few_until b r1 in omega (arith, i1)
  few_reads b (race _ _ r1) = let i1 = few_until b r1 in omega (arith, i1)
  few_reads b (rush _ _ r1) = let i1 = few_until b r1 in omega (arith, i1)
  few_reads b (cases _ _ r1 _ _ r2) = let i1 = few_reads b r1 in let i2 = few_closed b r2 in omega (arith, i1, i2)
  few_reads b (spawn _ _ r1 _) = let i1 = few_reads b r1 in omega (arith, i1)
  few_reads b (sleep _ _ _ _) = omega arith
  few_reads b (sleep_forever _ _ _ _) = omega arith
  few_reads b (elements _ _ r1) = let i1 = few_reads b r1 in omega (arith, i1)
  few_reads b (entries _ _ _ _ r1) = let i1 = few_reads b r1 in omega (arith, i1)
  few_reads b (range _ _ r1 _ r2) = let i1 = few_reads b r1 in let i2 = few_reads b r2 in omega (arith, i1, i2)
  few_reads b (clause_generator r1) = let i1 = few_reads b r1 in omega (arith, i1)
  few_reads b (clause_definition _ _ r1) = let i1 = few_reads b r1 in omega (arith, i1)
  few_reads b (clause_control r1) = let i1 = few_control b r1 in omega (arith, i1)
  few_reads b (clause_expr r1) = let i1 = few_reads b r1 in omega (arith, i1)
  few_reads b (arm r1 _ r2) = let i1 = few_reads b r1 in let i2 = few_reads b r2 in omega (arith, i1, i2)
  few_reads b (integer_pattern _) = omega arith
  few_reads b (minus_pattern _ _) = omega arith
  few_reads b (character_pattern _) = omega arith
  few_reads b (text_pattern _) = omega arith
  few_reads b (truth_pattern _) = omega arith
  few_reads b (falsehood_pattern _) = omega arith
  few_reads b (any_pattern _) = omega arith
  few_reads b (enum_pattern _ _ _) = omega arith

  few_typed_value : (b : List ℕ) {ks rest : List Tok} {u : Written} {e : Tree} → TypedValue b ks u e rest →
      (written_nodes u + nodes e) + length rest ≤ length ks
  few_typed_value b (typed_value _ r1 _ r2) = let i1 = few_is_type b r1 in let i2 = few_reads b r2 in omega (arith, i1, i2)

  few_control : (b : List ℕ) {ks rest : List Tok} {e : Tree} → Control b ks e rest → nodes e + length rest ≤ length ks
  few_control b (assignment _ r1 _ r2) = let i1 = few_reads b r1 in let i2 = few_reads b r2 in omega (arith, i1, i2)
  few_control b (returned _ r1) = let i1 = few_reads b r1 in omega (arith, i1)
  few_control b (returned_unit _) = omega arith
  few_control b (break_form _) = omega arith

  few_is_if : (b : List ℕ) {ks rest : List Tok} {e : Tree} → IsIf b ks e rest → nodes e + length rest ≤ length ks
  few_is_if b (if_alone _ _ r1 r2) = let i1 = few_closed b r1 in let i2 = few_taken b r2 in omega (arith, i1, i2)
  few_is_if b (if_else _ _ r1 r2 _ r3) = let i1 = few_closed b r1 in let i2 = few_taken b r2 in let i3 = few_reads b r3 in
      omega (arith, i1, i2, i3)

  few_taken : (b : List ℕ) {ks rest : List Tok} {e : Tree} → Taken b ks e rest → nodes e + length rest ≤ length ks
  few_taken b (taken_then _ r1) = let i1 = few_reads b r1 in omega (arith, i1)
  few_taken b (taken_block r1) = let i1 = few_reads b r1 in omega (arith, i1)

  few_chain : (b : List ℕ) {q : Phrase} {ks rest : List Tok} {e f : Tree} → Chain b q e ks f rest →
      nodes f + length rest ≤ nodes e + length ks
  few_chain b chain_none = omega arith
  few_chain b (chain_more r1 _ r2) = let i1 = few_chain b r1 in let i2 = few_reads b r2 in omega (arith, i1, i2)

  few_postfixes : (b : List ℕ) {ks rest : List Tok} {e f : Tree} → Postfixes b e ks f rest → nodes f + length rest ≤ nodes e + length ks
  few_postfixes b postfix_none = omega arith
  few_postfixes b (postfix_call r1 _ r2) = let i1 = few_postfixes b r1 in let i2 = few_until b r2 in omega (arith, i1, i2)
  few_postfixes b (postfix_index r1 _ r2) = let i1 = few_postfixes b r1 in let i2 = few_until b r2 in omega (arith, i1, i2)
  few_postfixes b (postfix_member r1 _ _) = let i1 = few_postfixes b r1 in omega (arith, i1)
  few_postfixes b (postfix_query r1 _) = let i1 = few_postfixes b r1 in omega (arith, i1)

  few_row : (b : List ℕ) {q : Phrase} {s : TokKind} {ks rest : List Tok} {es : List Tree} → Row b q s ks es rest →
      trees_nodes (trees es) + length rest ≤ length ks
  few_row b (row_one r1) = let i1 = few_reads b r1 in omega (arith, i1)
  few_row b (row_more {es = es} {e = e} r1 _ r2) = let i1 = few_row b r1 in let i2 = few_reads b r2 in
      omega (arith, i1, i2, trees_more es e)

  few_closed : (b : List ℕ) {q : Phrase} {s c : TokKind} {ks rest : List Tok} {es : List Tree} → Closed b q s c ks es rest →
      trees_nodes (trees es) + length rest ≤ length ks
  few_closed b (closed r1 _) = let i1 = few_row b r1 in omega (arith, i1)

  few_until : (b : List ℕ) {q : Phrase} {s c : TokKind} {ks rest : List Tok} {es : List Tree} → Until b q s c ks es rest →
      trees_nodes (trees es) + length rest ≤ length ks
  few_until b (until_none _) = omega arith
  few_until b (until_some r1) = let i1 = few_closed b r1 in omega (arith, i1)

  few_hole_row : (b : List ℕ) {ks rest : List Tok} {hs : List (Tree × Bytes)} → HoleRow b ks hs rest →
      holes_nodes (holes hs) + length rest ≤ length ks
  few_hole_row b no_holes = omega arith
  few_hole_row b (more_holes {k = k} {e = e} {hs = hs} r1 r2 _) = let i1 = few_hole_row b r1 in let i2 = few_reads b r2 in
      omega (arith, i1, i2, holes_more hs e (text_at b k))

  few_are_holes : (b : List ℕ) {ks rest : List Tok} {hs : List (Tree × Bytes)} → AreHoles b ks hs rest →
      holes_nodes (holes hs) + length rest ≤ length ks
  few_are_holes b (last_hole {k = k} {e = e} {hs = hs} r1 r2 _) = let i1 = few_hole_row b r1 in let i2 = few_reads b r2 in
      omega (arith, i1, i2, holes_more hs e (text_at b k))

  few_pair_row : (b : List ℕ) {ks rest : List Tok} {ps : List (Tree × Tree)} → PairRow b ks ps rest →
      pairs_nodes (pairs ps) + length rest ≤ length ks
  few_pair_row b (pair_one r1 _ r2) = let i1 = few_reads b r1 in let i2 = few_reads b r2 in omega (arith, i1, i2)
  few_pair_row b (pair_more {e = e} {f = f} {ps = ps} r1 _ r2 _ r3) = let i1 = few_pair_row b r1 in let i2 = few_reads b r2 in let i3 =
      few_reads b r3 in omega (arith, i1, i2, i3, pairs_more ps e f)

  few_pairs_until : (b : List ℕ) {ks rest : List Tok} {ps : List (Tree × Tree)} → PairsUntil b ks ps rest →
      pairs_nodes (pairs ps) + length rest ≤ length ks
  few_pairs_until b (no_pairs _) = omega arith
  few_pairs_until b (some_pairs r1 _) = let i1 = few_pair_row b r1 in omega (arith, i1)

  few_given_row : (b : List ℕ) {ks rest : List Tok} {gs : List (Bytes × Tree)} → GivenRow b ks gs rest →
      givens_nodes (givens gs) + length rest ≤ length ks
  few_given_row b (given_one _ _ r1) = let i1 = few_reads b r1 in omega (arith, i1)
  few_given_row b (given_more {n = n} {e = e} {gs = gs} r1 _ _ _ r2) = let i1 = few_given_row b r1 in let i2 = few_reads b r2 in
      omega (arith, i1, i2, givens_more gs (name_at b n) e)

  few_givens_until : (b : List ℕ) {ks rest : List Tok} {gs : List (Bytes × Tree)} → GivensUntil b ks gs rest →
      givens_nodes (givens gs) + length rest ≤ length ks
  few_givens_until b (no_givens _) = omega arith
  few_givens_until b (some_givens r1 _) = let i1 = few_given_row b r1 in omega (arith, i1)

  few_clause_row : (b : List ℕ) {ks rest : List Tok} {es : List Tree} → ClauseRow b ks es rest →
      trees_nodes (trees es) + length rest ≤ length ks
  few_clause_row b (first_generator r1) = let i1 = few_reads b r1 in omega (arith, i1)
  few_clause_row b (more_clauses {es = es} {e = e} r1 _ r2) = let i1 = few_clause_row b r1 in let i2 = few_reads b r2 in
      omega (arith, i1, i2, trees_more es e)

  few_clauses : (b : List ℕ) {ks rest : List Tok} {es : List Tree} → Clauses b ks es rest → trees_nodes (trees es) + length rest ≤ length ks
  few_clauses b (clauses r1 _) = let i1 = few_clause_row b r1 in omega (arith, i1)

few_specs : (b : List ℕ) {ks rest : List Tok} {ss : List SpecTree} → Specs b ks ss rest → length rest ≤ length ks
few_specs b no_specs = omega arith
few_specs b (more_specs r1 _ _ _) = let i1 = few_specs b r1 in omega (arith, i1)

few_dotted : (b : List ℕ) {ks rest : List Tok} {ns : List Bytes} → Dotted b ks ns rest → length rest ≤ length ks
few_dotted b (one_name _) = omega arith
few_dotted b (more_names r1 _ _) = let i1 = few_dotted b r1 in omega (arith, i1)

few_path : (b : List ℕ) {ks rest : List Tok} {path : List (List Bytes)} → Path b ks path rest → length rest ≤ length ks
few_path b (one_part _ r1) = let i1 = few_dotted b r1 in omega (arith, i1)
few_path b (more_parts r1 _ r2) = let i1 = few_path b r1 in let i2 = few_dotted b r2 in omega (arith, i1, i2)

few_value_row : (b : List ℕ) {ks rest : List Tok} {vs : List Bytes} → ValueRow b ks vs rest → length rest ≤ length ks
few_value_row b (one_value _) = omega arith
few_value_row b (more_values r1 _ _) = let i1 = few_value_row b r1 in omega (arith, i1)

few_values : (b : List ℕ) {ks rest : List Tok} {vs : List Bytes} → Values b ks vs rest → length rest ≤ length ks
few_values b (no_values _) = omega arith
few_values b (some_values r1 _) = let i1 = few_value_row b r1 in omega (arith, i1)

few_param : (b : List ℕ) {ks rest : List Tok} {q : ParamTree} → Param b ks q rest → param_nodes q + length rest ≤ length ks
few_param b (param _ _ r1) = let i1 = few_is_type b r1 in omega (arith, i1)

few_param_row : (b : List ℕ) {ks rest : List Tok} {qs : List ParamTree} → ParamRow b ks qs rest →
    list_nodes param_nodes qs + length rest ≤ length ks
few_param_row b (one_param r1) = let i1 = few_param b r1 in omega (arith, i1)
few_param_row b (more_params {q = q} {qs = qs} r1 _ r2) = let i1 = few_param_row b r1 in let i2 = few_param b r2 in
    omega (arith, i1, i2, list_more param_nodes qs q)

few_params : (b : List ℕ) {ks rest : List Tok} {qs : List ParamTree} → Params b ks qs rest →
    list_nodes param_nodes qs + length rest ≤ length ks
few_params b (no_params _) = omega arith
few_params b (some_params r1 _) = let i1 = few_param_row b r1 in omega (arith, i1)

few_fun_rest : (b : List ℕ) {n : Tok} {ss : List SpecTree} {ks rest : List Tok} {f : FunTree} → FunRest b n ss ks f rest →
    fun_nodes f + length rest ≤ length ks
few_fun_rest b (fun_rest _ r1 r2 _ r3 _ r4) = let i1 = few_params b r1 in let i2 = few_specs b r2 in let i3 = few_is_type b r3 in let i4 =
    few_reads b r4 in omega (arith, i1, i2, i3, i4)

few_fun : (b : List ℕ) {ks rest : List Tok} {f : FunTree} → Fun b ks f rest → fun_nodes f + length rest ≤ length ks
few_fun b (fun _ r1 r2) = let i1 = few_specs b r1 in let i2 = few_fun_rest b r2 in omega (arith, i1, i2)

few_default : (b : List ℕ) {ks rest : List Tok} {d : Option Tree} → Default b ks d rest → default_nodes d + length rest ≤ length ks
few_default b no_default = omega arith
few_default b (default _ r1) = let i1 = few_reads b r1 in omega (arith, i1)

few_field : (b : List ℕ) {ks rest : List Tok} {f : FieldTree} → Field b ks f rest → field_nodes f + length rest ≤ length ks
few_field b (field_plain _ r1 _ r2 r3) = let i1 = few_specs b r1 in let i2 = few_is_type b r2 in let i3 = few_default b r3 in
    omega (arith, i1, i2, i3)
few_field b (field_var _ r1 _ r2 _ r3 r4) = let i1 = few_specs b r1 in let i2 = few_specs b r2 in let i3 = few_is_type b r3 in let i4 =
    few_default b r4 in omega (arith, i1, i2, i3, i4)

few_member : (b : List ℕ) {ks rest : List Tok} {x : MemberTree} → Member b ks x rest → member_nodes x + length rest ≤ length ks
few_member b (member_field r1) = let i1 = few_field b r1 in omega (arith, i1)
few_member b (member_method r1) = let i1 = few_fun b r1 in omega (arith, i1)

few_member_row : (b : List ℕ) {ks rest : List Tok} {xs : List MemberTree} → MemberRow b ks xs rest →
    list_nodes member_nodes xs + length rest ≤ length ks
few_member_row b (one_member r1) = let i1 = few_member b r1 in omega (arith, i1)
few_member_row b (more_members {x = x} {xs = xs} r1 _ r2) = let i1 = few_member_row b r1 in let i2 = few_member b r2 in
    omega (arith, i1, i2, list_more member_nodes xs x)

few_members : (b : List ℕ) {ks rest : List Tok} {xs : List MemberTree} → Members b ks xs rest →
    list_nodes member_nodes xs + length rest ≤ length ks
few_members b (no_members _) = omega arith
few_members b (some_members r1 _) = let i1 = few_member_row b r1 in omega (arith, i1)

few_parent : (b : List ℕ) {ks rest : List Tok} {q : Option Bytes} → Parent b ks q rest → length rest ≤ length ks
few_parent b no_parent = omega arith
few_parent b (parent _ _ _) = omega arith

few_item : (b : List ℕ) {ks rest : List Tok} {i : ItemTree} → Item b ks i rest → item_nodes i + length rest ≤ length ks
few_item b (item_using _ _ r1 _) = let i1 = few_path b r1 in omega (arith, i1)
few_item b (item_enum _ r1 _ _ _ r2) = let i1 = few_specs b r1 in let i2 = few_values b r2 in omega (arith, i1, i2)
few_item b (item_class _ r1 _ _ r2 r3 _ r4) = let i1 = few_specs b r1 in let i2 = few_specs b r2 in let i3 = few_parent b r3 in let i4 =
    few_members b r4 in omega (arith, i1, i2, i3, i4)
few_item b (item_function r1) = let i1 = few_fun b r1 in omega (arith, i1)

few_item_row : (b : List ℕ) {ks rest : List Tok} {is : List ItemTree} → ItemRow b ks is rest → items_nodes is + length rest ≤ length ks
few_item_row b (one_item r1) = let i1 = few_item b r1 in omega (arith, i1)
few_item_row b (more_items {i = i} {is = is} r1 _ r2) = let i1 = few_item_row b r1 in let i2 = few_item b r2 in
    omega (arith, i1, i2, list_more item_nodes is i)

few_program : (b : List ℕ) {ks rest : List Tok} {is : List ItemTree} → Program b ks is rest → items_nodes is + length rest ≤ length ks
few_program b no_items = omega arith
few_program b (some_items r1) = let i1 = few_item_row b r1 in omega (arith, i1)

-- the nodes of a file's items
pub few_items : (b : List ℕ) (ks : List Tok) (is : List ItemTree) → Program b ks is [] → items_nodes is ≤ length ks
few_items b ks is r = let i = few_program b r in omega (arith, i)
