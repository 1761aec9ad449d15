-- The nodes of what toks spell fit, where the toks do.
use Rattle.std.proofs.Common.{ℕ, suc, ◌+◌, ◌≤◌, List, [], ◌∷◌, length, Option, arith, length-append}
use Rattle.verse_base.specs.declared.limits.TheConstants.{MOST_FILE_BYTES}
use Rattle.verse_layout.specs.declared.toks.TokKind.{TokKind}
use Rattle.verse_layout.specs.declared.toks.Tok.{Tok}
use Rattle.verse_tree.specs.Tree.{Bytes, Written, Tree}
use Rattle.verse_tree.specs.View.{trees}
use Rattle.verse_grammar.specs.Types.{IsType, AreTypes}
use Rattle.verse_grammar.specs.Types as y
use Rattle.verse_grammar.specs.Exprs.{event_at, BracketType, Reads, TypedValue, Control, IsIf, Taken, Chain, Postfixes, Row, Closed, Until}
use Rattle.verse_grammar.specs.Exprs.{HoleRow, AreHoles, PairRow, PairsUntil, GivenRow, GivensUntil, ClauseRow, Clauses}
use Rattle.verse_grammar.specs.Exprs as x
use Rattle.verse_grammar.specs.declared.phrases.Phrase.{Phrase}
use Rattle.lower_bounds.proofs.Lists.{Each, each_joined}
use Rattle.verse_accept_nodes.proofs.Toks.{TokFits}
use Rattle.verse_accept_nodes.proofs.Texts.{character_low, pattern_low, pause_low, text_short}
use Rattle.verse_accept_nodes.proofs.Fine.{FineWritten, FineTree, FineHole, FinePair, FineGiven, both, fine, fine_writtens, fine_trees}
use Rattle.verse_accept_nodes.proofs.Fine.{fine_holes, fine_pairs, fine_givens, numbered_before, few_parts}

module _ (files : ℕ) where
  -- toks of a file with these bytes, no more than a number of 32 bits tells
  abbrev pub ToksFit : List ℕ → List Tok → Type 0
  ToksFit b [] = Unit {0}
  ToksFit b (k ∷ ks) = TokFits files b k × ToksFit b ks × (length ks ≤ 4294967295)

  pub all_fit : (b : List ℕ) (ks : List Tok) → Each (TokFits files b) ks → length ks ≤ 4294967295 → ToksFit b ks
  all_fit b [] h few = tt
  all_fit b (k ∷ ks) h few = (h.0, all_fit b ks h.1 (omega (arith, few)), omega (arith, few))

  -- Of toks that fit: what they spell, which fits, and the toks behind it, which fit too.

  -- ---- types

  -- each type has a tok
  mutual
    type_long : {b : List ℕ} {ks rest : List Tok} {w : Written} → IsType b ks w rest → suc (length rest) ≤ length ks
    type_long (y.IsType.type_int h) = omega arith
    type_long (y.IsType.type_logic h) = omega arith
    type_long (y.IsType.type_char h) = omega arith
    type_long (y.IsType.type_string h) = omega arith
    type_long (y.IsType.type_void h) = omega arith
    type_long (y.IsType.type_name h) = omega arith
    type_long (y.IsType.type_option h d) = omega (arith, type_long d)
    type_long (y.IsType.type_array h hc d) = omega (arith, type_long d)
    type_long (y.IsType.type_map h d hc e) = omega (arith, type_long d, type_long e)
    type_long (y.IsType.type_tuple h ho d hs ds hc) = omega (arith, type_long d, types_long ds)
    type_long (y.IsType.type_task h ho d hc) = omega (arith, type_long d)
    type_long (y.IsType.type_event h ho d hc) = omega (arith, type_long d)
    type_long (y.IsType.type_bare_event h ho hc) = omega arith

    types_long : {b : List ℕ} {ks rest : List Tok} {ws : List Written} → AreTypes b ks ws rest → length ws + length rest ≤ length ks
    types_long (y.AreTypes.one_type d) = omega (arith, type_long d)
    types_long (y.AreTypes.more_types {ws = ws} {w = w} ds hs d) =
        omega (arith, types_long ds, type_long d, length-append ws (w ∷ []))

  mutual
    pub type_fits : {b : List ℕ} {ks rest : List Tok} {w : Written} → IsType b ks w rest → ToksFit b ks → FineWritten files w ×
        ToksFit b rest
    type_fits (y.IsType.type_int h) f = (record { fit = λ n. tt; narrow = λ n. tt }, f.1)
    type_fits (y.IsType.type_logic h) f = (record { fit = λ n. tt; narrow = λ n. tt }, f.1)
    type_fits (y.IsType.type_char h) f = (record { fit = λ n. tt; narrow = λ n. tt }, f.1)
    type_fits (y.IsType.type_string h) f = (record { fit = λ n. tt; narrow = λ n. tt }, f.1)
    type_fits (y.IsType.type_void h) f = (record { fit = λ n. tt; narrow = λ n. tt }, f.1)
    type_fits (y.IsType.type_name h) f =
        (record { fit = λ n. (record { place = f.0.place; what = tt }, tt); narrow = λ n. tt }, f.1)
    type_fits (y.IsType.type_option h d) f =
        let r = type_fits d f.1 in (record { fit = λ n. r.0.fit n; narrow = λ n. r.0.narrow n }, r.1)
    type_fits (y.IsType.type_array h hc d) f =
        let r = type_fits d f.1.1 in (record { fit = λ n. r.0.fit n; narrow = λ n. r.0.narrow n }, r.1)
    type_fits (y.IsType.type_map h d hc e) f =
        let r = type_fits d f.1 in
        let q = type_fits e r.1.1 in
        (record { fit = λ n. both files _ _ (r.0.fit n) (q.0.fit _); narrow = λ n. (r.0.narrow n, q.0.narrow _) }, q.1)
    type_fits (y.IsType.type_tuple {w = w} {ws = ws} h ho d hs ds hc) f =
        let r = type_fits d f.1.1 in
        let q = types_fit ds r.1.1 in
        let all = fine_writtens files (w ∷ ws) (omega (arith, types_long ds, r.1.2)) (r.0, q.0) in
        (record { fit = λ n. all.fit n; narrow = λ n. (all.many n, all.narrow n) }, q.1.1)
    type_fits (y.IsType.type_task h ho d hc) f =
        let r = type_fits d f.1.1 in (record { fit = λ n. r.0.fit n; narrow = λ n. r.0.narrow n }, r.1.1)
    type_fits (y.IsType.type_event h ho d hc) f =
        let r = type_fits d f.1.1 in (record { fit = λ n. r.0.fit n; narrow = λ n. r.0.narrow n }, r.1.1)
    type_fits (y.IsType.type_bare_event h ho hc) f = (record { fit = λ n. tt; narrow = λ n. tt }, f.1.1.1)

    types_fit : {b : List ℕ} {ks rest : List Tok} {ws : List Written} → AreTypes b ks ws rest → ToksFit b ks →
        Each (FineWritten files) ws × ToksFit b rest
    types_fit (y.AreTypes.one_type d) f = let r = type_fits d f in ((r.0, tt), r.1)
    types_fit (y.AreTypes.more_types {ws = ws} ds hs d) f =
        let r = types_fit ds f in
        let q = type_fits d r.1.1 in
        (each_joined (FineWritten files) ws _ r.0 (q.0, tt), q.1)

  event_fits : {b : List ℕ} {ks rest : List Tok} {u : Option Written} → BracketType b ks u rest → (k : Tok) → TokFits files b k →
      ToksFit b ks → FineTree files (event_at k u) × ToksFit b rest
  event_fits (x.BracketType.bracket_type ho d hc) k h f =
      let r = type_fits d f.1 in (fine files h.place (λ n. r.0.narrow n) (λ n. r.0.fit n), r.1.1)
  event_fits (x.BracketType.no_bracket_type ho hc) k h f = (fine files h.place (λ n. tt) (λ n. tt), f.1.1)

  -- ---- expressions

  module _ (b : List ℕ) (small : length b ≤ MOST_FILE_BYTES) where
    mutual
      pub phrase_fits : {q : Phrase} {ks rest : List Tok} {t : Tree} → Reads b q ks t rest → ToksFit b ks → FineTree files t ×
          ToksFit b rest
      phrase_fits (x.Reads.block {ts = ts} h d) f =
          let r = until_fits d f.1 in
          let all = fine_trees files ts r.0 in
          (fine files f.0.place (λ n. tt) (λ n. all.fit n), r.1)
      phrase_fits (x.Reads.part_defer h d) f =
          let r = phrase_fits d f.1 in
          (fine files f.0.place (λ n. tt) (λ n. r.0.fit n), r.1)
      phrase_fits (x.Reads.part_stmt d) f = phrase_fits d f
      phrase_fits (x.Reads.stmt_definition h ho d) f =
          let r = phrase_fits d f.1.1 in
          (fine files f.0.place (λ n. f.0.named h) (λ n. r.0.fit n), r.1)
      phrase_fits (x.Reads.stmt_typed h d) f =
          let r = typed_fits d f.1 in
          (fine files f.0.place (λ n. (f.0.named h, r.0.0.narrow n)) (λ n. both files _ _ (r.0.0.fit n) (r.0.1.fit _)), r.1)
      phrase_fits (x.Reads.stmt_variable h hn d) f =
          let r = typed_fits d f.1.1 in
          (fine files f.0.place (λ n. (f.1.0.named hn, r.0.0.narrow n)) (λ n. both files _ _ (r.0.0.fit n) (r.0.1.fit _)), r.1)
      phrase_fits (x.Reads.stmt_control d) f = control_fits d f
      phrase_fits (x.Reads.stmt_expr d) f = phrase_fits d f
      phrase_fits (x.Reads.body_block d) f = phrase_fits d f
      phrase_fits (x.Reads.body_expr d) f = phrase_fits d f
      phrase_fits (x.Reads.expr_if d) f = if_fits d f
      phrase_fits (x.Reads.expr_or d) f = phrase_fits d f
      phrase_fits (x.Reads.or_chain d c) f = let r = phrase_fits d f in chain_fits c r.0 r.1
      phrase_fits (x.Reads.and_chain d c) f = let r = phrase_fits d f in chain_fits c r.0 r.1
      phrase_fits (x.Reads.not_word h d) f =
          let r = phrase_fits d f.1 in
          (fine files f.0.place (λ n. tt) (λ n. r.0.fit n), r.1)
      phrase_fits (x.Reads.not_comparison d) f = phrase_fits d f
      phrase_fits (x.Reads.comparison_sum d) f = phrase_fits d f
      phrase_fits (x.Reads.comparison_two d h e) f =
          let r = phrase_fits d f in
          let q = phrase_fits e r.1.1 in
          (fine files r.1.0.place (λ n. tt) (λ n. both files _ _ (r.0.fit n) (q.0.fit _)), q.1)
      phrase_fits (x.Reads.sum_chain d c) f = let r = phrase_fits d f in chain_fits c r.0 r.1
      phrase_fits (x.Reads.product_chain d c) f = let r = phrase_fits d f in chain_fits c r.0 r.1
      phrase_fits (x.Reads.minus_mark h d) f =
          let r = phrase_fits d f.1 in
          (fine files f.0.place (λ n. tt) (λ n. r.0.fit n), r.1)
      phrase_fits (x.Reads.minus_postfix d) f = phrase_fits d f
      phrase_fits (x.Reads.postfix_chain d c) f = let r = phrase_fits d f in postfixes_fit c r.0 r.1
      phrase_fits (x.Reads.integer h) f = (fine files f.0.place (λ n. tt) (λ n. tt), f.1)
      phrase_fits (x.Reads.character {k = k} {n = m} h) f = (fine files f.0.place (λ n. character_low k.kind m f.0.kind h) (λ n. tt), f.1)
      phrase_fits (x.Reads.text {k = k} h) f = (fine files f.0.place (λ n. text_short b k small) (λ n. tt), f.1)
      phrase_fits (x.Reads.text_holes {k = k} {hs = hs} h d) f =
          let r = holes_fit d f.1 in
          let all = fine_holes files hs r.0 in
          (fine files f.0.place (λ n. (text_short b k small, all.pieces n)) (λ n. all.fit n), r.1)
      phrase_fits (x.Reads.truth h) f = (fine files f.0.place (λ n. tt) (λ n. tt), f.1)
      phrase_fits (x.Reads.falsehood h) f = (fine files f.0.place (λ n. tt) (λ n. tt), f.1)
      phrase_fits (x.Reads.this h) f = (fine files f.0.place (λ n. tt) (λ n. tt), f.1)
      phrase_fits (x.Reads.name_alone h) f = (fine files f.0.place (λ n. tt) (λ n. tt), f.1)
      phrase_fits (x.Reads.instance {gs = gs} h ho d) f =
          let r = givens_fit d f.1.1 in
          let all = fine_givens files gs r.0 in
          (fine files f.0.place (λ n. tt) (λ n. all.fit n), r.1)
      phrase_fits (x.Reads.brackets h d hc) f = let r = phrase_fits d f.1 in (r.0, r.1.1)
      phrase_fits (x.Reads.tuple {e = t} {es = es} h d hs e) f =
          let r = phrase_fits d f.1 in
          let q = closed_fits e r.1.1 in
          let all = fine_trees files (_ ∷ es) (r.0, q.0) in
          (fine files f.0.place (λ n. few_parts (trees (t ∷ es)) n n) (λ n. all.fit n), q.1)
      phrase_fits (x.Reads.array {es = es} h ho d) f =
          let r = until_fits d f.1.1 in
          let all = fine_trees files es r.0 in
          (fine files f.0.place (λ n. tt) (λ n. all.fit n), r.1)
      phrase_fits (x.Reads.mapping {ps = ps} h ho d) f =
          let r = pairs_fit d f.1.1 in
          let all = fine_pairs files ps r.0 in
          (fine files f.0.place (λ n. tt) (λ n. all.fit n), r.1)
      phrase_fits (x.Reads.option {es = es} h ho d) f =
          let r = closed_fits d f.1.1 in
          let all = fine_trees files es r.0 in
          (fine files f.0.place (λ n. tt) (λ n. all.fit n), r.1)
      phrase_fits (x.Reads.logic {es = es} h ho d) f =
          let r = closed_fits d f.1.1 in
          let all = fine_trees files es r.0 in
          (fine files f.0.place (λ n. tt) (λ n. all.fit n), r.1)
      phrase_fits (x.Reads.event {k = k} h d ho hc) f = let r = event_fits d k f.0 f.1 in (r.0, r.1.1.1)
      phrase_fits (x.Reads.for_form {cs = cs} h ho d e) f =
          let r = clauses_fit d f.1.1 in
          let all = fine_trees files cs r.0 in
          let q = phrase_fits e r.1 in
          (fine files f.0.place (λ n. tt) (λ n. both files _ _ (all.fit n) (q.0.fit _)), q.1)
      phrase_fits (x.Reads.loop_form h d) f =
          let r = phrase_fits d f.1 in
          (fine files f.0.place (λ n. tt) (λ n. r.0.fit n), r.1)
      phrase_fits (x.Reads.block_form h d) f =
          let r = phrase_fits d f.1 in
          (fine files f.0.place (λ n. tt) (λ n. r.0.fit n), r.1)
      phrase_fits (x.Reads.branch h d) f =
          let r = phrase_fits d f.1 in
          (fine files f.0.place (λ n. tt) (λ n. r.0.fit n), r.1)
      phrase_fits (x.Reads.sync {es = es} h ho d) f =
          let r = until_fits d f.1.1 in
          let all = fine_trees files es r.0 in
          (fine files f.0.place (λ n. few_parts (trees es) n n) (λ n. all.fit n), r.1)
      phrase_fits (x.Reads.race {es = es} h ho d) f =
          let r = until_fits d f.1.1 in
          let all = fine_trees files es r.0 in
          (fine files f.0.place (λ n. tt) (λ n. all.fit n), r.1)
      phrase_fits (x.Reads.rush {es = es} h ho d) f =
          let r = until_fits d f.1.1 in
          let all = fine_trees files es r.0 in
          (fine files f.0.place (λ n. tt) (λ n. all.fit n), r.1)
      phrase_fits (x.Reads.cases {es = es} h ho d hc hq e) f =
          let r = phrase_fits d f.1.1 in
          let q = closed_fits e r.1.1.1 in
          let all = fine_trees files es q.0 in
          (fine files f.0.place (λ n. tt) (λ n. both files _ _ (r.0.fit n) (all.fit _)), q.1)
      phrase_fits (x.Reads.spawn h ho d hc) f =
          let r = phrase_fits d f.1.1 in
          (fine files f.0.place (λ n. tt) (λ n. r.0.fit n), r.1.1)
      phrase_fits (x.Reads.sleep {d = d} {n = m} h ho hd hc) f =
          (fine files f.0.place (λ n. pause_low d.kind m f.1.1.0.kind hd) (λ n. tt), f.1.1.1.1)
      phrase_fits (x.Reads.sleep_forever h ho hd hc) f = (fine files f.0.place (λ n. tt) (λ n. tt), f.1.1.1.1)
      phrase_fits (x.Reads.elements h ho d) f =
          let r = phrase_fits d f.1.1 in
          (fine files f.0.place (λ n. f.0.named h) (λ n. r.0.fit n), r.1)
      phrase_fits (x.Reads.entries {e = e} h ho hv hq d) f =
          let r = phrase_fits d f.1.1.1.1 in
          (fine files f.0.place (λ n. (f.0.named h, f.1.1.0.named hv, numbered_before e n)) (λ n. r.0.fit n), r.1)
      phrase_fits (x.Reads.range h ho d hd e) f =
          let r = phrase_fits d f.1.1 in
          let q = phrase_fits e r.1.1 in
          (fine files f.0.place (λ n. f.0.named h) (λ n. both files _ _ (r.0.fit n) (q.0.fit _)), q.1)
      phrase_fits (x.Reads.clause_generator d) f = phrase_fits d f
      phrase_fits (x.Reads.clause_definition h ho d) f =
          let r = phrase_fits d f.1.1 in
          (fine files f.0.place (λ n. f.0.named h) (λ n. r.0.fit n), r.1)
      phrase_fits (x.Reads.clause_control d) f = control_fits d f
      phrase_fits (x.Reads.clause_expr d) f = phrase_fits d f
      phrase_fits (x.Reads.arm d ho e) f =
          let r = phrase_fits d f in
          let q = phrase_fits e r.1.1 in
          (fine files f.0.place (λ n. tt) (λ n. both files _ _ (r.0.fit n) (q.0.fit _)), q.1)
      phrase_fits (x.Reads.integer_pattern h) f = (fine files f.0.place (λ n. tt) (λ n. tt), f.1)
      phrase_fits (x.Reads.minus_pattern h hq) f = (fine files f.0.place (λ n. tt) (λ n. tt), f.1.1)
      phrase_fits (x.Reads.character_pattern {k = k} {n = m} h) f =
          (fine files f.0.place (λ n. pattern_low k.kind m f.0.kind h) (λ n. tt), f.1)
      phrase_fits (x.Reads.text_pattern {k = k} h) f = (fine files f.0.place (λ n. text_short b k small) (λ n. tt), f.1)
      phrase_fits (x.Reads.truth_pattern h) f = (fine files f.0.place (λ n. tt) (λ n. tt), f.1)
      phrase_fits (x.Reads.falsehood_pattern h) f = (fine files f.0.place (λ n. tt) (λ n. tt), f.1)
      phrase_fits (x.Reads.any_pattern h) f = (fine files f.0.place (λ n. tt) (λ n. tt), f.1)
      phrase_fits (x.Reads.enum_pattern h hd hv) f = (fine files f.0.place (λ n. tt) (λ n. tt), f.1.1.1)

      typed_fits : {ks rest : List Tok} {u : Written} {e : Tree} → TypedValue b ks u e rest → ToksFit b ks →
          (FineWritten files u × FineTree files e) × ToksFit b rest
      typed_fits (x.TypedValue.typed_value h d hq e) f =
          let r = type_fits d f.1 in let q = phrase_fits e r.1.1 in ((r.0, q.0), q.1)

      control_fits : {ks rest : List Tok} {t : Tree} → Control b ks t rest → ToksFit b ks → FineTree files t × ToksFit b rest
      control_fits (x.Control.assignment h d ho e) f =
          let r = phrase_fits d f.1 in
          let q = phrase_fits e r.1.1 in
          (fine files f.0.place (λ n. tt) (λ n. both files _ _ (r.0.fit n) (q.0.fit _)), q.1)
      control_fits (x.Control.returned h d) f =
          let r = phrase_fits d f.1 in
          (fine files f.0.place (λ n. tt) (λ n. r.0.fit n), r.1)
      control_fits (x.Control.returned_unit h) f = (fine files f.0.place (λ n. tt) (λ n. tt), f.1)
      control_fits (x.Control.break_form h) f = (fine files f.0.place (λ n. tt) (λ n. tt), f.1)

      if_fits : {ks rest : List Tok} {t : Tree} → IsIf b ks t rest → ToksFit b ks → FineTree files t × ToksFit b rest
      if_fits (x.IsIf.if_alone {cs = cs} h ho d e) f =
          let r = closed_fits d f.1.1 in
          let all = fine_trees files cs r.0 in
          let q = taken_fits e r.1 in
          (fine files f.0.place (λ n. tt) (λ n. both files _ _ (all.fit n) (q.0.fit _)), q.1)
      if_fits (x.IsIf.if_else {cs = cs} h ho d e hq g) f =
          let r = closed_fits d f.1.1 in
          let all = fine_trees files cs r.0 in
          let q = taken_fits e r.1 in
          let s = phrase_fits g q.1.1 in
          (fine files f.0.place (λ n. tt) (λ n. both files _ _ (both files _ _ (all.fit n) (q.0.fit _)) (s.0.fit _)), s.1)

      taken_fits : {ks rest : List Tok} {t : Tree} → Taken b ks t rest → ToksFit b ks → FineTree files t × ToksFit b rest
      taken_fits (x.Taken.taken_then h d) f = phrase_fits d f.1
      taken_fits (x.Taken.taken_block d) f = phrase_fits d f

      chain_fits : {q : Phrase} {e t : Tree} {ks rest : List Tok} → Chain b q e ks t rest → FineTree files e → ToksFit b ks →
          FineTree files t × ToksFit b rest
      chain_fits x.Chain.chain_none g f = (g, f)
      chain_fits (x.Chain.chain_more c h d) g f =
          let r = chain_fits c g f in
          let q = phrase_fits d r.1.1 in
          (fine files r.1.0.place (λ n. tt) (λ n. both files _ _ (r.0.fit n) (q.0.fit _)), q.1)

      postfixes_fit : {e t : Tree} {ks rest : List Tok} → Postfixes b e ks t rest → FineTree files e → ToksFit b ks →
          FineTree files t × ToksFit b rest
      postfixes_fit x.Postfixes.postfix_none g f = (g, f)
      postfixes_fit (x.Postfixes.postfix_call {es = es} c h d) g f =
          let r = postfixes_fit c g f in
          let q = until_fits d r.1.1 in
          let all = fine_trees files es q.0 in
          (fine files r.1.0.place (λ n. tt) (λ n. both files _ _ (r.0.fit n) (all.fit _)), q.1)
      postfixes_fit (x.Postfixes.postfix_index {es = es} c h d) g f =
          let r = postfixes_fit c g f in
          let q = until_fits d r.1.1 in
          let all = fine_trees files es q.0 in
          (fine files r.1.0.place (λ n. tt) (λ n. both files _ _ (r.0.fit n) (all.fit _)), q.1)
      postfixes_fit (x.Postfixes.postfix_member c h hn) g f =
          let r = postfixes_fit c g f in (fine files r.1.0.place (λ n. tt) (λ n. r.0.fit n), r.1.1.1)
      postfixes_fit (x.Postfixes.postfix_query c h) g f =
          let r = postfixes_fit c g f in (fine files r.1.0.place (λ n. tt) (λ n. r.0.fit n), r.1.1)

      row_fits : {q : Phrase} {s : TokKind} {ks rest : List Tok} {es : List Tree} → Row b q s ks es rest → ToksFit b ks →
          Each (FineTree files) es × ToksFit b rest
      row_fits (x.Row.row_one d) f = let r = phrase_fits d f in ((r.0, tt), r.1)
      row_fits (x.Row.row_more {es = es} ds h d) f =
          let r = row_fits ds f in let q = phrase_fits d r.1.1 in (each_joined (FineTree files) es _ r.0 (q.0, tt), q.1)

      closed_fits : {q : Phrase} {s c : TokKind} {ks rest : List Tok} {es : List Tree} → Closed b q s c ks es rest → ToksFit b ks →
          Each (FineTree files) es × ToksFit b rest
      closed_fits (x.Closed.closed ds h) f = let r = row_fits ds f in (r.0, r.1.1)

      until_fits : {q : Phrase} {s c : TokKind} {ks rest : List Tok} {es : List Tree} → Until b q s c ks es rest → ToksFit b ks →
          Each (FineTree files) es × ToksFit b rest
      until_fits (x.Until.until_none h) f = (tt, f.1)
      until_fits (x.Until.until_some ds) f = closed_fits ds f

      hole_row_fits : {ks rest : List Tok} {hs : List (Tree × Bytes)} → HoleRow b ks hs rest → ToksFit b ks →
          Each (FineHole files) hs × ToksFit b rest
      hole_row_fits x.HoleRow.no_holes f = (tt, f)
      hole_row_fits (x.HoleRow.more_holes {k = k} {hs = hs} ds d h) f =
          let r = hole_row_fits ds f in
          let q = phrase_fits d r.1 in
          (each_joined (FineHole files) hs _ r.0 ((q.0, text_short b k small), tt), q.1.1)

      holes_fit : {ks rest : List Tok} {hs : List (Tree × Bytes)} → AreHoles b ks hs rest → ToksFit b ks →
          Each (FineHole files) hs × ToksFit b rest
      holes_fit (x.AreHoles.last_hole {k = k} {hs = hs} ds d h) f =
          let r = hole_row_fits ds f in
          let q = phrase_fits d r.1 in
          (each_joined (FineHole files) hs _ r.0 ((q.0, text_short b k small), tt), q.1.1)

      pair_row_fits : {ks rest : List Tok} {ps : List (Tree × Tree)} → PairRow b ks ps rest → ToksFit b ks →
          Each (FinePair files) ps × ToksFit b rest
      pair_row_fits (x.PairRow.pair_one d h e) f =
          let r = phrase_fits d f in let q = phrase_fits e r.1.1 in (((r.0, q.0), tt), q.1)
      pair_row_fits (x.PairRow.pair_more {ps = ps} ds h d ho e) f =
          let s = pair_row_fits ds f in
          let r = phrase_fits d s.1.1 in
          let q = phrase_fits e r.1.1 in
          (each_joined (FinePair files) ps _ s.0 ((r.0, q.0), tt), q.1)

      pairs_fit : {ks rest : List Tok} {ps : List (Tree × Tree)} → PairsUntil b ks ps rest → ToksFit b ks →
          Each (FinePair files) ps × ToksFit b rest
      pairs_fit (x.PairsUntil.no_pairs h) f = (tt, f.1)
      pairs_fit (x.PairsUntil.some_pairs ds h) f = let r = pair_row_fits ds f in (r.0, r.1.1)

      given_row_fits : {ks rest : List Tok} {gs : List (Bytes × Tree)} → GivenRow b ks gs rest → ToksFit b ks →
          Each (FineGiven files) gs × ToksFit b rest
      given_row_fits (x.GivenRow.given_one hn ho d) f = let r = phrase_fits d f.1.1 in ((r.0, tt), r.1)
      given_row_fits (x.GivenRow.given_more {gs = gs} ds h hn ho d) f =
          let r = given_row_fits ds f in
          let q = phrase_fits d r.1.1.1.1 in
          (each_joined (FineGiven files) gs _ r.0 (q.0, tt), q.1)

      givens_fit : {ks rest : List Tok} {gs : List (Bytes × Tree)} → GivensUntil b ks gs rest → ToksFit b ks →
          Each (FineGiven files) gs × ToksFit b rest
      givens_fit (x.GivensUntil.no_givens h) f = (tt, f.1)
      givens_fit (x.GivensUntil.some_givens ds h) f = let r = given_row_fits ds f in (r.0, r.1.1)

      clause_row_fits : {ks rest : List Tok} {es : List Tree} → ClauseRow b ks es rest → ToksFit b ks →
          Each (FineTree files) es × ToksFit b rest
      clause_row_fits (x.ClauseRow.first_generator d) f = let r = phrase_fits d f in ((r.0, tt), r.1)
      clause_row_fits (x.ClauseRow.more_clauses {es = es} ds h d) f =
          let r = clause_row_fits ds f in let q = phrase_fits d r.1.1 in (each_joined (FineTree files) es _ r.0 (q.0, tt), q.1)

      clauses_fit : {ks rest : List Tok} {es : List Tree} → Clauses b ks es rest → ToksFit b ks → Each (FineTree files) es × ToksFit b rest
      clauses_fit (x.Clauses.clauses ds h) f = let r = clause_row_fits ds f in (r.0, r.1.1)
