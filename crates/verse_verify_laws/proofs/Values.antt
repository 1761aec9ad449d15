-- Operations on values with parts.
use Rattle.std.proofs.Common.{◌≡◌, ◌≢◌, ℕ, zero, suc, ◌+◌, length, List, [], ◌∷◌, Some, None, true, false, refl, sym}
use Rattle.std.proofs.Common.{subst, ap, arith, ◌∙◌}
use Rattle.std.specs.Prelude.{nat_lt, ◌&&◌, ◌||◌}
use Rattle.std.proofs.lemmas.Bool.{lt-ltb, and_parts}
use Rattle.std.proofs.lemmas.Option.{none-some}
use Rattle.verse_code.specs.declared.operations.Op.{Op}
use Rattle.verse_code.specs.declared.operations.Op.TheVariants as o
use Rattle.verse_code.specs.declared.codes.Code.{Code}
use Rattle.verse_sorts.specs.Sorts as s
use Rattle.verse_sorts.specs.Sorts.{Sort, IsKnown, Sorts, Fits, IsKey, from_never, fits_list}
use Rattle.verse_verify_kept.specs.Rules as r
use Rattle.verse_verify_kept.specs.Rules.{Fit, To, Pops, Passes, AllIn, in_no, in_so, Keyed, keyed_no, keyed_so, Shown}
use Rattle.verse_verify_kept.specs.Rules.{shown_no, shown_int, shown_char}
use Rattle.verse_verify_kept.specs.Rules.{shown_text, Queried, of_option, of_logic, of_nil, of_never, Indexed, in_list}
use Rattle.verse_verify_kept.specs.Rules.{in_map, in_never, Path}
use Rattle.verse_verify_kept.specs.Rules.{path_no, path_so, Counted, list_counted, map_counted, never_counted, Slot}
use Rattle.verse_verify_kept.specs.Rules.{slot_var, slot_obj, slot_never}
use Rattle.verse_verify_kept.specs.Rules.{Mode, mode_set, mode_int, mode_list, mode_never, MayFail, sorts}
use Rattle.verse_verify_kept.specs.Rules.{at_sort}
use Rattle.verse_verify_faults.specs.Spots.{Spot, Table, above, even, cut}
use Rattle.verse_verify_faults.specs.Stepping.{is, list_of, map_of, var_of, event_of, goes_on}
use Rattle.verse_verify_faults.specs.Stepping.{part_of_list, firsts, seconds, all_keys}
use Rattle.verse_verify_faults.specs.Stepping.{on_tuple_item, step}
use Rattle.verse_verify_faults.specs.Faults.{implies, callee_is, may_fail}
use Rattle.verse_verify_faults.proofs.Fitting.{fit_is, each_fit_is}
use Rattle.verse_verify_faults.proofs.Leading.{notes, Becomes, a_list, a_map, a_var, an_event, Pushed}
use Rattle.verse_verify_laws.proofs.Steps.{Fine, led, needed, there, popped, many}
use Rattle.verse_verify_laws.proofs.Holding.{may_fail_is}
use Rattle.verse_verify_laws.proofs.Simple.{pops_length, all_are_shown, are_keyed, list_part, counted_is, queried_is}
use Rattle.verse_verify_laws.proofs.Simple.{part_is, path_is, slot_is, mode_is}
use Rattle.verse_verify_laws.proofs.Going.{pushed_one, bare_one, bare, made_one}

module _ (c : Code) (t : Table) (p : Spot) (i : ℕ) (ev : even (length p.stack) p.tries ≡ true) where
  abbrev Done : Op → Type 0
  Done op = Fine c t p i op (step c t p i op (above p.stack p.tries))

  abbrev Passed : Op → Type 0
  Passed op = Passes c (notes c t) i (cut p) op

  pub neg_passes : {k : ℕ} → Done (o.Neg k) → Passed (o.Neg k)
  neg_passes f =
      let x = popped c t p i _ f in
      let n = needed c t p i _ _ x.next in
      r.of_neg x.is (fit_is t.classes x.top s.int n.is) (pushed_one c t p i ev (led c t p i _ n.next).suit)

  pub concat_passes : {k : ℕ} → Done (o.Concat k) → Passed (o.Concat k)
  concat_passes {k = k} f =
      let x = popped c t p i _ f in
      let y = popped c t p i _ x.next in
      let d = there c t p i _ _ y.next in
      let e = there c t p i _ _ d.next in
      by_made x.top y.top d.it e.it y.rest (x.is ∙ ap (λ zs. x.top ∷ zs) y.is) d.is e.is (made_one c t p i ev (led c t
      p i _ e.next).suit)
    where
      by_sort : (b a d e : Sort) (st : List Sort) → above p.stack p.tries ≡ b ∷ a ∷ st → part_of_list a ≡ Some d →
          part_of_list b ≡ Some e →
          {u : Sort} → Becomes c t (list_of (d ∷ e ∷ [])) u → To c (notes c t) (cut p) (u ∷ st) (suc i) → Passed
          (o.Concat k)
      by_sort b a d e st whole da eb (a_list (in_so f (in_so g in_no))) l =
          r.of_concat whole (list_part c t a d da _ f) (list_part c t b e eb _ g) l

      by_made : (b a d e : Sort) (st : List Sort) → above p.stack p.tries ≡ b ∷ a ∷ st → part_of_list a ≡ Some d →
          part_of_list b ≡ Some e →
          Pushed c t p (list_of (d ∷ e ∷ [])) st (suc i) → Passed (o.Concat k)
      by_made b a d e st whole da eb x = by_sort b a d e st whole da eb x.becomes x.leads

  pub join_passes : {m k : ℕ} → Done (o.Join m k) → Passed (o.Join m k)
  join_passes {m = m} f =
      let x = many c t p i _ m (above p.stack p.tries) [] _ f in
      let n = needed c t p i _ _ x.next in
      r.of_join x.pops (all_are_shown c t x.sorts n.is) (pushed_one c t p i ev (led c t p i _ n.next).suit)

  pub eq_passes : Done o.Eq → Passed o.Eq
  eq_passes f =
      let x = popped c t p i _ f in
      let y = popped c t p i _ x.next in
      let l = led c t p i _ y.next in
      r.of_eq (x.is ∙ ap (λ zs. x.top ∷ zs) y.is) (may_fail_is c t p l.fails) (pushed_one c t p i ev l.suit)

  pub ne_passes : Done o.Ne → Passed o.Ne
  ne_passes f =
      let x = popped c t p i _ f in
      let y = popped c t p i _ x.next in
      let l = led c t p i _ y.next in
      r.of_ne (x.is ∙ ap (λ zs. x.top ∷ zs) y.is) (may_fail_is c t p l.fails) (pushed_one c t p i ev l.suit)

  pub array_passes : {m k : ℕ} → Done (o.Array m k) → Passed (o.Array m k)
  array_passes {m = m} {k = k} f =
      let x = many c t p i _ m (above p.stack p.tries) [] _ f in
      by_made x.sorts x.rest x.pops (made_one c t p i ev (led c t p i _ x.next).suit)
    where
      by_sort : (xs st : List Sort) → Pops m (above p.stack p.tries) [] xs st → {u : Sort} → Becomes c t (list_of xs) u
          →
          To c (notes c t) (cut p) (u ∷ st) (suc i) → Passed (o.Array m k)
      by_sort xs st ps (a_list f) l = r.of_array ps f l

      by_made : (xs st : List Sort) → Pops m (above p.stack p.tries) [] xs st → Pushed c t p (list_of xs) st (suc i) →
          Passed (o.Array m k)
      by_made xs st ps x = by_sort xs st ps x.becomes x.leads

  pub map_passes : {m k : ℕ} → Done (o.Map m k) → Passed (o.Map m k)
  map_passes {m = m} {k = k} f =
      let x = many c t p i _ (m + m) (above p.stack p.tries) [] _ f in
      let n = needed c t p i _ _ x.next in
      by_made x.sorts x.rest x.pops n.is (made_one c t p i ev (led c t p i _ n.next).suit)
    where
      counted_off : (n k : ℕ) → k ≡ n + 0 → k ≡ n
      counted_off n k e = omega (arith, e)

      by_sort : (xs st : List Sort) → Pops (m + m) (above p.stack p.tries) [] xs st → all_keys (firsts xs) ≡ true →
          {u : Sort} → Becomes c t (map_of (firsts xs) (seconds xs)) u → To c (notes c t) (cut p) (u ∷ st) (suc i) →
          Passed (o.Map m k)
      by_sort xs st ps h (a_map ks us) l =
          r.of_map ps (are_keyed c t m _ _ xs (counted_off (m + m) (length xs) (pops_length ps)) h ks us) l

      by_made : (xs st : List Sort) → Pops (m + m) (above p.stack p.tries) [] xs st → all_keys (firsts xs) ≡ true →
          Pushed c t p (map_of (firsts xs) (seconds xs)) st (suc i) → Passed (o.Map m k)
      by_made xs st ps h x = by_sort xs st ps h x.becomes x.leads

  pub tuple_passes : {m k : ℕ} → Done (o.Tuple m k) → Passed (o.Tuple m k)
  tuple_passes {m = m} f =
      let x = many c t p i _ m (above p.stack p.tries) [] _ f in
      r.of_tuple x.pops (pushed_one c t p i ev (led c t p i _ x.next).suit)

  pub some_passes : {k : ℕ} → Done (o.Some k) → Passed (o.Some k)
  some_passes f =
      let x = popped c t p i _ f in
      r.of_some x.is (pushed_one c t p i ev (led c t p i _ x.next).suit)

  pub query_passes : Done o.Query → Passed o.Query
  query_passes f =
      let x = popped c t p i _ f in
      let y = there c t p i _ _ x.next in
      let l = led c t p i _ y.next in
      r.of_query x.is (queried_is c t x.top y.it y.is) (may_fail_is c t p l.fails) (pushed_one c t p i ev l.suit)

  pub item_passes : {m : ℕ} → Done (o.Item m) → Passed (o.Item m)
  item_passes {m = m} f =
      let x = popped c t p i _ f in
      by_sort x.top x.rest x.is x.next
    where
      by_sort : (a : Sort) (st : List Sort) → above p.stack p.tries ≡ a ∷ st →
          Fine c t p i (o.Item m) (on_tuple_item t.classes a m (λ r. goes_on c t p i (is r ∷ []) st)) → Passed (o.Item
          m)
      by_sort (s.tuple xs) st e f =
          let y = there c t p i _ _ f in
          r.of_item e y.is (pushed_one c t p i ev (led c t p i _ y.next).suit)
      by_sort s.never st e f = r.of_no_item e (pushed_one c t p i ev (led c t p i _ f).suit)
      by_sort a st e f = elim (none-some _ (sym f.none)) [ ]

  pub at_passes : Done o.At → Passed o.At
  at_passes f =
      let x = popped c t p i _ f in
      let y = popped c t p i _ x.next in
      let d = there c t p i _ _ y.next in
      let l = led c t p i _ d.next in
      r.of_at (x.is ∙ ap (λ zs. x.top ∷ zs) y.is) (part_is c t y.top x.top d.it d.is) (may_fail_is c t p l.fails)
      (pushed_one c t p i ev l.suit)

  pub length_passes : Done o.Length → Passed o.Length
  length_passes f =
      let x = popped c t p i _ f in
      let n = needed c t p i _ _ x.next in
      r.of_length x.is (counted_is c t x.top n.is) (pushed_one c t p i ev (led c t p i _ n.next).suit)

  pub new_passes : {k : ℕ} → Done (o.New k) → Passed (o.New k)
  new_passes {k = k} f =
      let x = popped c t p i _ f in
      by_made x.top x.rest x.is (made_one c t p i ev (led c t p i _ x.next).suit)
    where
      by_sort : (a : Sort) (st : List Sort) → above p.stack p.tries ≡ a ∷ st → {u : Sort} → Becomes c t (var_of a) u →
          To c (notes c t) (cut p) (u ∷ st) (suc i) → Passed (o.New k)
      by_sort a st e (a_var f) l = r.of_new e f l

      by_made : (a : Sort) (st : List Sort) → above p.stack p.tries ≡ a ∷ st → Pushed c t p (var_of a) st (suc i) →
          Passed (o.New k)
      by_made a st e x = by_sort a st e x.becomes x.leads

  pub load_passes : {m : ℕ} → Done (o.Load m) → Passed (o.Load m)
  load_passes {m = m} f =
      let x = popped c t p i _ f in
      let y = slot_is c t x.top m (o.Load m) p i (λ r. goes_on c t p i (is r ∷ []) x.rest) x.next in
      r.of_load x.is y.1 (pushed_one c t p i ev (led c t p i _ y.2).suit)

  pub store_passes : {slot m mode k : ℕ} → Done (o.Store slot m mode k) → Passed (o.Store slot m mode k)
  store_passes {slot = slot} {m = m} {mode = mode} {k = k} f =
      let x = popped c t p i _ f in
      let y = many c t p i _ m x.rest [] _ x.next in
      let z = popped c t p i _ y.next in
      let w = slot_is c t z.top slot (o.Store slot m mode k) p i _ z.next in
      let q = there c t p i _ _ w.2 in
      let n = needed c t p i _ _ q.next in
      let l = led c t p i _ n.next in
      r.of_store x.is (subst (Pops m x.rest [] y.sorts) z.is y.pops) w.1 (path_is c t w.0 y.sorts q.it q.is) (mode_is c
      t mode q.it x.top n.is)
      (λ some. may_fail_is c t p (fails m y.sorts (counted_off m (length y.sorts) (pops_length y.pops)) some l.fails))
      (pushed_one c t p i
      ev l.suit)
    where
      counted_off : (n k : ℕ) → k ≡ n + 0 → k ≡ n
      counted_off n k e = omega (arith, e)

      fails : (m : ℕ) (xs : List Sort) → length xs ≡ m → xs ≢ [] →
          implies c t (nat_lt 0 m || (false && callee_is c t None (λ g. g.may_fail))) (may_fail c t p) ≡ true →
          may_fail c t p ≡ true
      fails zero [] e some h = absurd (some refl)
      fails zero (x ∷ xs) e some h = elim (none _ e) [ ]
        where
          none : (n : ℕ) → suc n ≡ 0 → ⊥
          none n e = omega (arith, e)
      fails (suc m) xs e some h =
          subst (λ b. implies c t (b || (false && callee_is c t None (λ g. g.may_fail))) (may_fail c t p) ≡ true)
          (lt-ltb 0 (suc m) (omega arith)) h

  pub object_passes : {class k : ℕ} → Done (o.Object class k) → Passed (o.Object class k)
  object_passes f =
      let q = there c t p i _ _ f in
      let x = there c t p i _ _ q.next in
      let y = many c t p i _ q.it.slots (above p.stack p.tries) [] _ x.next in
      let n = needed c t p i _ _ y.next in
      r.of_object q.is x.is y.pops (each_fit_is t.classes y.sorts x.it.slots n.is) (pushed_one c t p i ev (led c t p i
      _ n.next).suit)

  pub event_passes : {k : ℕ} → Done (o.Event k) → Passed (o.Event k)
  event_passes {k = k} f = by_made (made_one c t p i ev (led c t p i _ f).suit)
    where
      by_sort : {u : Sort} → Becomes c t event_of u → To c (notes c t) (cut p) (u ∷ above p.stack p.tries) (suc i) →
          Passed (o.Event k)
      by_sort an_event l = r.of_event l

      by_made : Pushed c t p event_of (above p.stack p.tries) (suc i) → Passed (o.Event k)
      by_made x = by_sort x.becomes x.leads

  pub print_passes : {k : ℕ} → Done (o.Print k) → Passed (o.Print k)
  print_passes f =
      let x = popped c t p i _ f in
      let n = needed c t p i _ _ x.next in
      r.of_print x.is (fit_is t.classes x.top (s.list s.char) n.is) (pushed_one c t p i ev (led c t p i _ n.next).suit)

  pub fail_passes : Done o.Fail → Passed o.Fail
  fail_passes f = r.of_fail (may_fail_is c t p (led c t p i _ f).fails)

  pub jump_passes : {l : ℕ} → Done (o.Jump l) → Passed (o.Jump l)
  jump_passes f = r.of_jump (bare_one c t p i ev (led c t p i _ f).suit)

  pub again_passes : {l : ℕ} → Done (o.Again l) → Passed (o.Again l)
  again_passes f = r.of_again (bare_one c t p i ev (led c t p i _ f).suit)

  pub same_passes : {l : ℕ} → Done (o.Same l) → Passed (o.Same l)
  same_passes f =
      let x = popped c t p i _ f in
      let y = popped c t p i _ x.next in
      let l = led c t p i _ y.next in
      r.of_same (x.is ∙ ap (λ zs. x.top ∷ zs) y.is) (bare c t p i ev (and_parts _ _ l.suit).0) (bare_one c t p i ev (and_parts _
      _ l.suit).1)
