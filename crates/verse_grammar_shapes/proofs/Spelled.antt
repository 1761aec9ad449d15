-- What is spelled has the shapes of the grammar.
use Rattle.std.proofs.Common.{◌≡◌, ℕ, true, List, Option, refl}
use Rattle.verse_layout.specs.declared.toks.TokKind.{TokKind}
use Rattle.verse_layout.specs.declared.toks.Tok.{Tok}
use Rattle.verse_tree.specs.Tree.{Bytes, Written, Tree}
use Rattle.verse_tree.specs.View.{writtens, trees, holes, pairs, givens}
use Rattle.verse_tree.specs.Shapes.{Stand, action_sort, as_block, as_part, as_statement, as_body, as_expression, as_generator, as_clause}
use Rattle.verse_tree.specs.Shapes.{may_stand, WrittenShaped, SomeWritten, Shaped, AllShaped, SomeShaped, ClausesShaped, AllHoles}
use Rattle.verse_tree.specs.Shapes.{SomeHoles, PairsShaped, GivensShaped}
use Rattle.verse_grammar.specs.Types.{IsType, AreTypes}
use Rattle.verse_grammar.specs.Types as y
use Rattle.verse_grammar.specs.Exprs.{event_at, BracketType, Reads, TypedValue, Control, IsIf, Taken, Chain, Postfixes, Row, Closed, Until}
use Rattle.verse_grammar.specs.Exprs.{HoleRow, AreHoles, PairRow, PairsUntil, GivenRow, GivensUntil, ClauseRow, Clauses}
use Rattle.verse_grammar.specs.Exprs as x
use Rattle.verse_grammar.specs.declared.phrases.Phrase.{Phrase}
use Rattle.verse_grammar_shapes.specs.ShapeLaws.{stand_of}
use Rattle.verse_grammar_shapes.proofs.Moved.{moved, statement_part, expression_statement, expression_body, block_body, generator_clause}
use Rattle.verse_grammar_shapes.proofs.Moved.{expression_clause, as_operand, some_more, some_all, clauses_more, holes_more, some_holes}
use Rattle.verse_grammar_shapes.proofs.Moved.{pairs_more}
use Rattle.verse_grammar_shapes.proofs.Moved.{givens_more, some_written_more}

mutual
  pub shaped_type : {b : List ℕ} {ks rest : List Tok} {w : Written} → IsType b ks w rest → WrittenShaped w
  shaped_type (y.IsType.type_int h) = tt
  shaped_type (y.IsType.type_logic h) = tt
  shaped_type (y.IsType.type_char h) = tt
  shaped_type (y.IsType.type_string h) = tt
  shaped_type (y.IsType.type_void h) = tt
  shaped_type (y.IsType.type_name h) = tt
  shaped_type (y.IsType.type_option h d) = shaped_type d
  shaped_type (y.IsType.type_array h hc d) = shaped_type d
  shaped_type (y.IsType.type_map h d hc e) = (shaped_type d, shaped_type e)
  shaped_type (y.IsType.type_tuple h ho d hs ds hc) = (shaped_type d, shaped_types ds)
  shaped_type (y.IsType.type_task h ho d hc) = shaped_type d
  shaped_type (y.IsType.type_event h ho d hc) = shaped_type d
  shaped_type (y.IsType.type_bare_event h ho hc) = tt

  shaped_types : {b : List ℕ} {ks rest : List Tok} {ws : List Written} → AreTypes b ks ws rest → SomeWritten (writtens ws)
  shaped_types (y.AreTypes.one_type d) = (shaped_type d, tt)
  shaped_types (y.AreTypes.more_types {ws = ws} {w = w} ds hs d) = some_written_more ws w (shaped_types ds) (shaped_type d)

shaped_event : {b : List ℕ} {ks rest : List Tok} {u : Option Written} → BracketType b ks u rest → (k : Tok) →
    Shaped as_expression (event_at k u)
shaped_event (x.BracketType.bracket_type ho d hc) k = (refl, shaped_type d)
shaped_event (x.BracketType.no_bracket_type ho hc) k = (refl, tt)

mutual
  pub shaped : {b : List ℕ} {q : Phrase} {ks rest : List Tok} {t : Tree} → Reads b q ks t rest → Shaped (stand_of q) t
  shaped (x.Reads.block h d) = (refl, shaped_until d)
  shaped (x.Reads.part_defer h d) = (refl, shaped d)
  shaped {t = t} (x.Reads.part_stmt d) = moved as_statement as_part statement_part t (shaped d)
  shaped (x.Reads.stmt_definition h ho d) = (refl, shaped d)
  shaped (x.Reads.stmt_typed h d) = (refl, shaped_typed d)
  shaped (x.Reads.stmt_variable h hn d) = (refl, shaped_typed d)
  shaped (x.Reads.stmt_control d) = shaped_control as_statement refl d
  shaped {t = t} (x.Reads.stmt_expr d) = moved as_expression as_statement expression_statement t (shaped d)
  shaped {t = t} (x.Reads.body_block d) = moved as_block as_body block_body t (shaped d)
  shaped {t = t} (x.Reads.body_expr d) = moved as_expression as_body expression_body t (shaped d)
  shaped (x.Reads.expr_if d) = shaped_if d
  shaped (x.Reads.expr_or d) = shaped d
  shaped (x.Reads.or_chain d c) = shaped_chain c (shaped d)
  shaped (x.Reads.and_chain d c) = shaped_chain c (shaped d)
  shaped (x.Reads.not_word h d) = (refl, shaped d)
  shaped (x.Reads.not_comparison d) = shaped d
  shaped (x.Reads.comparison_sum d) = shaped d
  shaped (x.Reads.comparison_two d h e) = (refl, (shaped d, shaped e))
  shaped (x.Reads.sum_chain d c) = shaped_chain c (shaped d)
  shaped (x.Reads.product_chain d c) = shaped_chain c (shaped d)
  shaped (x.Reads.minus_mark h d) = (refl, shaped d)
  shaped (x.Reads.minus_postfix d) = shaped d
  shaped (x.Reads.postfix_chain d c) = shaped_postfixes c (shaped d)
  shaped (x.Reads.integer h) = (refl, tt)
  shaped (x.Reads.character h) = (refl, tt)
  shaped (x.Reads.text h) = (refl, tt)
  shaped (x.Reads.text_holes h d) = (refl, shaped_holes d)
  shaped (x.Reads.truth h) = (refl, tt)
  shaped (x.Reads.falsehood h) = (refl, tt)
  shaped (x.Reads.this h) = (refl, tt)
  shaped (x.Reads.name_alone h) = (refl, tt)
  shaped (x.Reads.instance h ho d) = (refl, shaped_givens d)
  shaped (x.Reads.brackets h d hc) = shaped d
  shaped (x.Reads.tuple h d hs ds) = (refl, (shaped d, shaped_closed ds))
  shaped (x.Reads.array h ho ds) = (refl, shaped_until ds)
  shaped (x.Reads.mapping h ho ds) = (refl, shaped_pairs ds)
  shaped (x.Reads.option h ho ds) = (refl, shaped_closed ds)
  shaped (x.Reads.logic h ho ds) = (refl, shaped_closed ds)
  shaped (x.Reads.event {k = k} h d ho hc) = shaped_event d k
  shaped (x.Reads.for_form h ho cs d) = (refl, (shaped_clauses cs, shaped d))
  shaped (x.Reads.loop_form h d) = (refl, shaped d)
  shaped (x.Reads.block_form h d) = (refl, shaped d)
  shaped (x.Reads.branch h d) = (refl, shaped d)
  shaped (x.Reads.sync h ho ds) = (refl, shaped_until ds)
  shaped (x.Reads.race h ho ds) = (refl, shaped_until ds)
  shaped (x.Reads.rush h ho ds) = (refl, shaped_until ds)
  shaped (x.Reads.cases h ho d hc hq ds) = (refl, (shaped d, shaped_closed ds))
  shaped (x.Reads.spawn h ho d hc) = (refl, shaped d)
  shaped (x.Reads.sleep h ho hd hc) = (refl, tt)
  shaped (x.Reads.sleep_forever h ho hd hc) = (refl, tt)
  shaped (x.Reads.elements h ho d) = (refl, shaped d)
  shaped (x.Reads.entries h ho hv hq d) = (refl, shaped d)
  shaped (x.Reads.range h ho d hd e) = (refl, (shaped d, shaped e))
  shaped {t = t} (x.Reads.clause_generator d) = moved as_generator as_clause generator_clause t (shaped d)
  shaped (x.Reads.clause_definition h ho d) = (refl, shaped d)
  shaped (x.Reads.clause_control d) = shaped_control as_clause refl d
  shaped {t = t} (x.Reads.clause_expr d) = moved as_expression as_clause expression_clause t (shaped d)
  shaped (x.Reads.arm d ho e) = (refl, (shaped d, shaped e))
  shaped (x.Reads.integer_pattern h) = (refl, tt)
  shaped (x.Reads.minus_pattern h hq) = (refl, tt)
  shaped (x.Reads.character_pattern h) = (refl, tt)
  shaped (x.Reads.text_pattern h) = (refl, tt)
  shaped (x.Reads.truth_pattern h) = (refl, tt)
  shaped (x.Reads.falsehood_pattern h) = (refl, tt)
  shaped (x.Reads.any_pattern h) = (refl, tt)
  shaped (x.Reads.enum_pattern h hd hv) = (refl, tt)

  shaped_typed : {b : List ℕ} {ks rest : List Tok} {u : Written} {e : Tree} → TypedValue b ks u e rest →
      WrittenShaped u × Shaped as_expression e
  shaped_typed (x.TypedValue.typed_value h d hq e) = (shaped_type d, shaped e)

  shaped_control : (s : Stand) → may_stand s action_sort ≡ true → {b : List ℕ} {ks rest : List Tok} {t : Tree} → Control b ks t rest →
      Shaped s t
  shaped_control s m (x.Control.assignment h d ho e) = (m, (shaped d, shaped e))
  shaped_control s m (x.Control.returned h d) = (m, shaped d)
  shaped_control s m (x.Control.returned_unit h) = (m, tt)
  shaped_control s m (x.Control.break_form h) = (m, tt)

  shaped_if : {b : List ℕ} {ks rest : List Tok} {t : Tree} → IsIf b ks t rest → Shaped as_expression t
  shaped_if (x.IsIf.if_alone h ho ds d) = (refl, (shaped_closed ds, shaped_taken d))
  shaped_if (x.IsIf.if_else h ho ds d hq e) = (refl, (shaped_closed ds, shaped_taken d, shaped e))

  shaped_taken : {b : List ℕ} {ks rest : List Tok} {t : Tree} → Taken b ks t rest → Shaped as_body t
  shaped_taken {t = t} (x.Taken.taken_then h d) = moved as_expression as_body expression_body t (shaped d)
  shaped_taken {t = t} (x.Taken.taken_block d) = moved as_block as_body block_body t (shaped d)

  shaped_chain : {b : List ℕ} {q : Phrase} {e f : Tree} {ks rest : List Tok} → Chain b q e ks f rest → Shaped as_expression e →
      Shaped as_expression f
  shaped_chain x.Chain.chain_none d = d
  shaped_chain {q = q} (x.Chain.chain_more {k = k} {o = o} {g = g} c h e) d =
      (refl, (shaped_chain c d, as_operand q k.kind o h g (shaped e)))

  shaped_postfixes : {b : List ℕ} {e f : Tree} {ks rest : List Tok} → Postfixes b e ks f rest → Shaped as_expression e →
      Shaped as_expression f
  shaped_postfixes x.Postfixes.postfix_none d = d
  shaped_postfixes (x.Postfixes.postfix_call c h ds) d = (refl, (shaped_postfixes c d, shaped_until ds))
  shaped_postfixes (x.Postfixes.postfix_index c h ds) d = (refl, (shaped_postfixes c d, shaped_until ds))
  shaped_postfixes (x.Postfixes.postfix_member c h hn) d = (refl, shaped_postfixes c d)
  shaped_postfixes (x.Postfixes.postfix_query c h) d = (refl, shaped_postfixes c d)

  shaped_row : {b : List ℕ} {q : Phrase} {s : TokKind} {ks rest : List Tok} {es : List Tree} → Row b q s ks es rest →
      SomeShaped (stand_of q) (trees es)
  shaped_row (x.Row.row_one d) = (shaped d, tt)
  shaped_row {q = q} (x.Row.row_more {es = es} {e = e} ds h d) = some_more (stand_of q) es e (shaped_row ds) (shaped d)

  shaped_closed : {b : List ℕ} {q : Phrase} {s c : TokKind} {ks rest : List Tok} {es : List Tree} → Closed b q s c ks es rest →
      SomeShaped (stand_of q) (trees es)
  shaped_closed (x.Closed.closed ds h) = shaped_row ds

  shaped_until : {b : List ℕ} {q : Phrase} {s c : TokKind} {ks rest : List Tok} {es : List Tree} → Until b q s c ks es rest →
      AllShaped (stand_of q) (trees es)
  shaped_until (x.Until.until_none h) = tt
  shaped_until {q = q} {es = es} (x.Until.until_some ds) = some_all (stand_of q) (trees es) (shaped_closed ds)

  shaped_hole_row : {b : List ℕ} {ks rest : List Tok} {hs : List (Tree × Bytes)} → HoleRow b ks hs rest → AllHoles (holes hs)
  shaped_hole_row x.HoleRow.no_holes = tt
  shaped_hole_row (x.HoleRow.more_holes {hs = hs} ds d h) = holes_more hs _ (shaped_hole_row ds) (shaped d)

  shaped_holes : {b : List ℕ} {ks rest : List Tok} {hs : List (Tree × Bytes)} → AreHoles b ks hs rest → SomeHoles (holes hs)
  shaped_holes (x.AreHoles.last_hole {hs = hs} ds d h) = some_holes hs _ (shaped_hole_row ds) (shaped d)

  shaped_pair_row : {b : List ℕ} {ks rest : List Tok} {ps : List (Tree × Tree)} → PairRow b ks ps rest → PairsShaped (pairs ps)
  shaped_pair_row (x.PairRow.pair_one d h e) = (shaped d, shaped e, tt)
  shaped_pair_row (x.PairRow.pair_more {ps = ps} ds h d ho e) = pairs_more ps _ (shaped_pair_row ds) (shaped d) (shaped e)

  shaped_pairs : {b : List ℕ} {ks rest : List Tok} {ps : List (Tree × Tree)} → PairsUntil b ks ps rest → PairsShaped (pairs ps)
  shaped_pairs (x.PairsUntil.no_pairs h) = tt
  shaped_pairs (x.PairsUntil.some_pairs ds h) = shaped_pair_row ds

  shaped_given_row : {b : List ℕ} {ks rest : List Tok} {gs : List (Bytes × Tree)} → GivenRow b ks gs rest → GivensShaped (givens gs)
  shaped_given_row (x.GivenRow.given_one hn ho d) = (shaped d, tt)
  shaped_given_row (x.GivenRow.given_more {gs = gs} ds h hn ho d) = givens_more gs _ (shaped_given_row ds) (shaped d)

  shaped_givens : {b : List ℕ} {ks rest : List Tok} {gs : List (Bytes × Tree)} → GivensUntil b ks gs rest → GivensShaped (givens gs)
  shaped_givens (x.GivensUntil.no_givens h) = tt
  shaped_givens (x.GivensUntil.some_givens ds h) = shaped_given_row ds

  shaped_clause_row : {b : List ℕ} {ks rest : List Tok} {es : List Tree} → ClauseRow b ks es rest → ClausesShaped (trees es)
  shaped_clause_row (x.ClauseRow.first_generator d) = (shaped d, tt)
  shaped_clause_row (x.ClauseRow.more_clauses {es = es} {e = e} ds h d) = clauses_more es e (shaped_clause_row ds) (shaped d)

  shaped_clauses : {b : List ℕ} {ks rest : List Tok} {es : List Tree} → Clauses b ks es rest → ClausesShaped (trees es)
  shaped_clauses (x.Clauses.clauses ds h) = shaped_clause_row ds
