-- Trys that open and end.
use Rattle.std.proofs.Common.{◌≡◌, ℕ, suc, ◌+◌, ◌-◌, ◌≤◌, length, take, drop, map, List, [], ◌∷◌, ◌++◌, Option, Some, None, true}
use Rattle.std.proofs.Common.{refl, sym, subst, ap, arith, ◌∙◌, le-leb}
use Rattle.std.specs.Prelude.{◌&&◌, slice_get}
use Rattle.std.proofs.lemmas.Bool.{and_from}
use Rattle.std.proofs.lemmas.List.{length-append}
use Rattle.verse_code.specs.declared.operations.Op.{Op}
use Rattle.verse_code.specs.declared.operations.Op.TheVariants as o
use Rattle.verse_code.specs.declared.codes.Code.{Code}
use Rattle.verse_meaning_state.specs.Waits.{eqn}
use Rattle.verse_sorts.specs.Sorts.{Sort}
use Rattle.verse_verify_kept.specs.Notes.{Open, Point, Notes}
use Rattle.verse_verify_kept.specs.Rules as r
use Rattle.verse_verify_faults.specs.Spots.{Mark, Spot, Table, spot_at, room, above, beneath, opens, even, cut}
use Rattle.verse_verify_faults.specs.Stepping as step
use Rattle.verse_verify_faults.specs.Stepping.{Made, is, Goes, inner, to}
use Rattle.verse_verify_faults.specs.Faults.{at_height, level, same_defers, try_defers, each_holds}
use Rattle.verse_verify_faults.proofs.Cutting.{whole}
use Rattle.verse_verify_faults.proofs.Leading.{notes, point_there, Fitting}
use Rattle.verse_verify_laws.proofs.Steps.{Fine}
use Rattle.verse_verify_laws.proofs.Marks.{length_beneath, above_less, even_less, opens_less}
use Rattle.verse_verify_clean.proofs.Fitting as fitting
use Rattle.verse_verify_clean.proofs.Leading.{suit_no, suit_so, Suit, suits_so, bare, each_is, numbers_back}
use Rattle.verse_verify_clean.proofs.Steps.{Here, evenly, led}

module _ (c : Code) (t : Table) (p : Spot) (i : ℕ) (here : Here c t p i) where
  abbrev N : Notes
  N = notes c t

  abbrev P : Point
  P = cut p

  abbrev st : List Sort
  st = above p.stack p.tries

  abbrev Done : Op → Type 0
  Done op = Fine c t p i op (step.step c t p i op st)

  abbrev Passed : Op → Type 0
  Passed op = r.Passes c N i P op

  ev : even (length p.stack) p.tries ≡ true
  ev = evenly c t p i here

  -- all operands stay
  on_whole : (ys : List Sort) → Fitting c t p.stack ys →
      each_holds t.classes (map is (st ++ beneath p.stack p.tries)) ys ≡ true
  on_whole ys f = each_is c t here.told (subst (λ xs. Fitting c t xs ys) (sym (whole p.stack p.tries)) f)

  nothing_left : (n : ℕ) → n - n ≡ 0
  nothing_left n = omega arith

  take_none : {A : Type 0} (xs : List A) → take 0 xs ≡ []
  take_none [] = refl
  take_none (x ∷ xs) = refl

  drop_none : {A : Type 0} (xs : List A) → drop 0 xs ≡ xs
  drop_none [] = refl
  drop_none (x ∷ xs) = refl

  abbrev mark : Mark
  mark = record { index = i; height = length p.stack }

  pub try_back : {l : ℕ} → Passed (o.Try l) → Done (o.Try l)
  try_back (r.of_try l k) =
      led c t p i here _ (suit_so opened (suit_so (bare c t here.told p i ev st k) suit_no)) refl refl refl refl refl refl
    where
      no_room : room p.stack (mark ∷ p.tries) ≡ 0
      no_room = nothing_left (length p.stack)

      all_beneath : beneath p.stack (mark ∷ p.tries) ≡ p.stack
      all_beneath = subst (λ k. drop k p.stack ≡ p.stack) (sym no_room) (drop_none p.stack)

      none_above : above p.stack (mark ∷ p.tries) ≡ []
      none_above = subst (λ k. take k p.stack ≡ []) (sym no_room) (take_none p.stack)

      opens_now : opens p.stack (mark ∷ p.tries) ≡ record { index = i; beneath = st } ∷ opens p.stack p.tries
      opens_now = ap (λ (bs : List Sort). record { index = i; beneath = above bs p.tries } ∷ opens bs p.tries)
          all_beneath

      ev_now : even (length p.stack) (mark ∷ p.tries) ≡ true
      ev_now = and_from _ _ (le-leb (length p.stack) (length p.stack) (same _)) ev
        where
          same : (n : ℕ) → n ≤ n
          same n = omega arith

      opened : Suit c t here.told p (record (to c t p i (suc i) [] st) { tries = Some (mark ∷ p.tries) })
      opened =
          suits_so c t here.told p (mark ∷ p.tries) (map is (st ++ beneath p.stack p.tries)) (map is p.locals) p.stack p.locals
          ev_now (subst (λ xs. r.Leads c N P p.locals xs (opens p.stack (mark ∷ p.tries)) p.defers (suc i)) (sym none_above)
          (subst (λ ts. r.Leads c N P p.locals [] ts p.defers (suc i)) (sym opens_now) l)) on_whole
          (λ ys f. each_is c t here.told f)

  level_back : (m : Mark) → r.Level c N m.index p.defers → same_defers c t (try_defers c t (spot_at t m.index)) p.defers ≡ true
  level_back m h = by_spot (spot_at t m.index) refl
    where
      by_spot : (x : Option Spot) → spot_at t m.index ≡ x → same_defers c t (try_defers c t x) p.defers ≡ true
      by_spot None e = refl
      by_spot (Some q) e =
          numbers_back q.defers p.defers (h (cut q) (point_there c t m.index q e (here.told.even m.index q e)))

  -- the innermost Try ends, with these locals
  ended : (m : Mark) (ms : List Mark) (ls : List Sort) → p.tries ≡ m ∷ ms →
      r.Leads c N P ls (above p.stack (m ∷ ms) ++ above (beneath p.stack (m ∷ ms)) ms) (opens (beneath p.stack (m ∷ ms)) ms)
      p.defers (suc i) →
      Suit c t here.told p (record (to c t p i (suc i) [] st) { tries = Some ms; locals = map is ls })
  ended m ms ls e l =
      suits_so c t here.told p ms (map is (st ++ beneath p.stack p.tries)) (map is ls) p.stack ls
      (even_less p.stack m ms ev_here)
      (subst (λ xs. r.Leads c N P ls xs (opens p.stack ms) p.defers (suc i)) (sym (above_less p.stack m ms ev_here))
      (subst (λ ts. r.Leads c N P ls (above p.stack (m ∷ ms) ++ above (beneath p.stack (m ∷ ms)) ms) ts p.defers (suc i))
      (sym (opens_less p.stack m ms ev_here)) l)) on_whole (λ ys f. each_is c t here.told f)
    where
      ev_here : even (length p.stack) (m ∷ ms) ≡ true
      ev_here = subst (λ ms. even (length p.stack) ms ≡ true) e ev

  first_is : {x : Open} {xs : List Open} (m : Mark) (ms : List Mark) → opens p.stack (m ∷ ms) ≡ x ∷ xs →
      x ≡ record { index = m.index; beneath = above (beneath p.stack (m ∷ ms)) ms }
  first_is m ms e = cc

  rest_is : {x : Open} {xs : List Open} (m : Mark) (ms : List Mark) → opens p.stack (m ∷ ms) ≡ x ∷ xs →
      xs ≡ opens (beneath p.stack (m ∷ ms)) ms
  rest_is m ms e = cc

  pub commit_back : Passed o.Commit → Done o.Commit
  commit_back (r.of_commit {t = x} {ts = xs} e h l) = by_tries p.tries refl e
    where
      by_tries : (ms : List Mark) → p.tries ≡ ms → opens p.stack ms ≡ x ∷ xs → Done o.Commit
      by_tries [] eq e = cc
      by_tries (m ∷ ms) eq e =
          let k = subst (λ ns. r.Leads c N P p.locals (above p.stack ns ++ above (beneath p.stack (m ∷ ms)) ms)
          (opens (beneath p.stack (m ∷ ms)) ms) p.defers (suc i)) eq
          (subst (λ (x : Open). r.Leads c N P p.locals (st ++ x.beneath) (opens (beneath p.stack (m ∷ ms)) ms) p.defers (suc i))
          (first_is m ms e) (subst (λ xs. r.Leads c N P p.locals (st ++ x.beneath) xs p.defers (suc i)) (rest_is m ms e) l)) in
          led c t p i here _
          (suit_so (subst (λ ns. Suit c t here.told p (record (to c t p i (suc i) [] st) { tries = step.tails ns }))
          (sym eq) (ended m ms p.locals eq k)) suit_no)
          (subst (λ ns. level c t ns p.defers ≡ true) (sym eq)
          (level_back m (subst (λ (x : Open). r.Level c N x.index p.defers) (first_is m ms e) h))) refl refl refl refl refl

  pub undo_back : Passed o.Undo → Done o.Undo
  undo_back (r.of_undo {t = x} {ts = xs} {label = label} e empty h is_try f) = by_tries p.tries refl e
    where
      all_beneath : (a b n : ℕ) → n ≡ a + b → a ≡ 0 → n ≡ b
      all_beneath a b n e f = omega (arith, e, f)

      by_tries : (ms : List Mark) → p.tries ≡ ms → opens p.stack ms ≡ x ∷ xs → Done o.Undo
      by_tries [] eq e = cc
      by_tries (m ∷ ms) eq e =
          let tried = subst (λ (x : Open). slice_get c.ops x.index ≡ Some (o.Try label)) (first_is m ms e) is_try in
          let q = here.told.labels i p m ms label here.there eq tried in
          let locals = ap (λ (n : Option Op). step.label_locals t (step.try_label n) p.locals) tried ∙
          ap (λ (n : Option Spot). step.spot_locals n p.locals) q.1 in
          let ev_here = subst (λ ms. even (length p.stack) ms ≡ true) eq ev in
          let none = subst (λ ns. above p.stack ns ≡ []) eq empty in
          let l = f (cut q.0) (point_there c t label q.0 q.1 (here.told.even label q.0 q.1)) in
          let k = subst (λ us. r.Leads c N P q.0.locals (us ++ above (beneath p.stack (m ∷ ms)) ms)
          (opens (beneath p.stack (m ∷ ms)) ms) p.defers (suc i)) (sym none)
          (subst (λ (x : Open). r.Leads c N P q.0.locals x.beneath (opens (beneath p.stack (m ∷ ms)) ms) p.defers (suc i))
          (first_is m ms e) (subst (λ xs. r.Leads c N P q.0.locals x.beneath xs p.defers (suc i)) (rest_is m ms e) l)) in
          let length_is = all_beneath (length (above p.stack (m ∷ ms))) m.height (length p.stack)
          (sym (ap length (whole p.stack (m ∷ ms))) ∙
          (length-append (above p.stack (m ∷ ms)) (beneath p.stack (m ∷ ms)) ∙
          ap (λ n. length (above p.stack (m ∷ ms)) + n) (length_beneath p.stack m ms ev_here))) (ap length none) in
          led c t p i here _
          (suit_so (subst (λ ns. Suit c t here.told p (record (to c t p i (suc i) [] st) {
            tries = step.tails ns;
            locals = map is (step.label_locals t (step.label_at c ns) p.locals);
          })) (sym eq) (subst (λ ls. Suit c t here.told p (record (to c t p i (suc i) [] st) {
            tries = Some ms;
            locals = map is ls;
          })) (sym locals) (ended m ms q.0.locals eq k))) suit_no)
          (subst (λ ns. (level c t ns p.defers && at_height c t p.stack ns) ≡ true) (sym eq)
          (and_from (level c t (m ∷ ms) p.defers) (eqn (length p.stack) m.height)
          (level_back m (subst (λ (x : Open). r.Level c N x.index p.defers) (first_is m ms e) h))
          (fitting.same_number (length p.stack) m.height length_is))) refl refl refl refl refl
