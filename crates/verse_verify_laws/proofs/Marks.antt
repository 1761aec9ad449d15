-- Trys that open and end.
use Rattle.std.proofs.Common.{◌≡◌, ℕ, zero, suc, ◌+◌, ◌-◌, ◌≤◌, length, take, drop, map, List, [], ◌∷◌, ◌++◌, Option}
use Rattle.std.proofs.Common.{Some, Bool, true, false}
use Rattle.std.proofs.Common.{refl, sym, subst, ap, arith, ◌∙◌}
use Rattle.std.specs.Prelude.{◌&&◌, slice_get}
use Rattle.std.proofs.Common.{le-leb}
use Rattle.std.proofs.lemmas.Bool.{leb-true, and_parts}
use Rattle.verse_meaning_state.proofs.Numbers.{eqn_is}
use Rattle.verse_verify_faults.proofs.Cutting.{under, whole, beneath_length, even_more, fit_length}
use Rattle.verse_code.specs.declared.operations.Op.{Op}
use Rattle.verse_code.specs.declared.operations.Op.TheVariants as o
use Rattle.verse_code.specs.declared.codes.Code.{Code}
use Rattle.verse_code_machine_parents.proofs.Lists.{no_both}
use Rattle.verse_sorts.specs.Sorts.{Sort}
use Rattle.verse_verify_kept.specs.Notes.{Point, Notes, parent_of, point_at}
use Rattle.verse_verify_kept.specs.Rules as r
use Rattle.verse_verify_faults.specs.Spots.{Mark, Spot, Table, spot_at, room, above, beneath, opens, even, cut}
use Rattle.verse_verify_faults.specs.Stepping as step
use Rattle.verse_verify_faults.specs.Stepping.{Made, is, list_of, one_of, Stepped, Goes, inner, begins_arm}
use Rattle.verse_verify_faults.specs.Stepping.{begins_block, leads, goes_on, to}
use Rattle.verse_verify_faults.specs.Faults.{suits, all_around, at_height, level, same_defers, try_defers}
use Rattle.verse_verify_faults.proofs.Leading.{notes, become_is, Next, next_in, leads_with, marks_are, numbers_are}
use Rattle.verse_verify_laws.proofs.Steps.{Fine, led}
use Rattle.verse_verify_laws.proofs.Holding as holding
use Rattle.verse_verify_laws.proofs.Holding.{may_fail_is, may_wait_is, quiet_in, none_is, nil_is}
use Rattle.verse_verify_laws.proofs.Going.{bare_one}

-- a stack cut at one Try fewer
take_more : {A : Type 0} (k j : ℕ) (xs : List A) → take (k + j) xs ≡ take k xs ++ take j (drop k xs)
take_more zero j xs = subst (λ n. take n xs ≡ take 0 xs ++ take j (drop 0 xs)) (none j) (bare j xs)
  where
    none : (j : ℕ) → j ≡ 0 + j
    none j = omega arith

    bare : {A : Type 0} (j : ℕ) (xs : List A) → take j xs ≡ take 0 xs ++ take j (drop 0 xs)
    bare j [] = refl
    bare j (x ∷ xs) = refl
take_more {A = A} (suc k) j [] = subst (λ n. take {A = A} n [] ≡ take {A = A} j []) (next k j) (nothing j)
  where
    next : (k j : ℕ) → suc (k + j) ≡ suc k + j
    next k j = omega arith

    nothing : {A : Type 0} (j : ℕ) → [] ≡ take {A = A} j []
    nothing zero = refl
    nothing (suc j) = refl
take_more (suc k) j (x ∷ xs) =
    subst (λ n. take n (x ∷ xs) ≡ x ∷ (take k xs ++ take j (drop k xs))) (next k j) (ap (λ zs. x ∷ zs) (take_more k j
    xs))
  where
    next : (k j : ℕ) → suc (k + j) ≡ suc k + j
    next k j = omega arith

drop_more : {A : Type 0} (k j : ℕ) (xs : List A) → drop (k + j) xs ≡ drop j (drop k xs)
drop_more zero j xs = subst (λ n. drop n xs ≡ drop j (drop 0 xs)) (none j) (bare j xs)
  where
    none : (j : ℕ) → j ≡ 0 + j
    none j = omega arith

    bare : {A : Type 0} (j : ℕ) (xs : List A) → drop j xs ≡ drop j (drop 0 xs)
    bare j [] = refl
    bare j (x ∷ xs) = refl
drop_more {A = A} (suc k) j [] = subst (λ n. drop {A = A} n [] ≡ drop {A = A} j []) (next k j) (nothing j)
  where
    next : (k j : ℕ) → suc (k + j) ≡ suc k + j
    next k j = omega arith

    nothing : {A : Type 0} (j : ℕ) → [] ≡ drop {A = A} j []
    nothing zero = refl
    nothing (suc j) = refl
drop_more (suc k) j (x ∷ xs) = subst (λ n. drop n (x ∷ xs) ≡ drop j (drop k xs)) (next k j) (drop_more k j xs)
  where
    next : (k j : ℕ) → suc (k + j) ≡ suc k + j
    next k j = omega arith

under_even : (n : ℕ) (ms : List Mark) → even n ms ≡ true → under ms ≤ n
under_even n [] e = omega arith
under_even n (m ∷ ms) e = leb-true m.height n (and_parts _ _ e).0

module _ (st : List Sort) (m : Mark) (ms : List Mark) (ev : even (length st) (m ∷ ms) ≡ true) where
  pub length_beneath : length (beneath st (m ∷ ms)) ≡ m.height
  length_beneath = beneath_length st (m ∷ ms) ev

  room_less : room st ms ≡ room st (m ∷ ms) + room (beneath st (m ∷ ms)) ms
  room_less = by_marks ms (under_even m.height ms (and_parts _ _ ev).1) (leb-true m.height (length st) (and_parts _ _ ev).0)
      length_beneath
    where
      by_marks : (ms : List Mark) → under ms ≤ m.height → m.height ≤ length st → length (beneath st (m ∷ ms)) ≡
          m.height →
          room st ms ≡ room st (m ∷ ms) + room (beneath st (m ∷ ms)) ms
      by_marks [] u l e = sums (length st) m.height (length (beneath st (m ∷ []))) l e
        where
          sums : (n h b : ℕ) → h ≤ n → b ≡ h → n ≡ (n - h) + b
          sums n h b l e = omega (arith, l, e)
      by_marks (k ∷ ks) u l e = sums (length st) m.height (length (beneath st (m ∷ k ∷ ks))) k.height u l e
        where
          sums : (n h b j : ℕ) → j ≤ h → h ≤ n → b ≡ h → n - j ≡ (n - h) + (b - j)
          sums n h b j u l e = omega (arith, u, l, e)

  pub above_less : above st ms ≡ above st (m ∷ ms) ++ above (beneath st (m ∷ ms)) ms
  above_less = subst (λ k. take k st ≡ above st (m ∷ ms) ++ above (beneath st (m ∷ ms)) ms) (sym room_less) (take_more
      (room st (m ∷ ms)) (room
      (beneath st (m ∷ ms)) ms) st)

  beneath_less : beneath st ms ≡ beneath (beneath st (m ∷ ms)) ms
  beneath_less =
      subst (λ k. drop k st ≡ beneath (beneath st (m ∷ ms)) ms) (sym room_less) (drop_more (room st (m ∷ ms)) (room
      (beneath st (m ∷ ms)) ms) st)

  pub even_less : even (length st) ms ≡ true
  even_less =
      even_more m.height (length st) ms (most (under ms) m.height (length st) (under_even m.height ms (and_parts _ _ ev).1)
      (leb-true m.height
      (length st) (and_parts _ _ ev).0)) (and_parts _ _ ev).1
    where
      most : (a b d : ℕ) → a ≤ b → b ≤ d → a ≤ d
      most a b d l k = omega (arith, l, k)

pub opens_less : (st : List Sort) (m : Mark) (ms : List Mark) → even (length st) (m ∷ ms) ≡ true →
    opens st ms ≡ opens (beneath st (m ∷ ms)) ms
opens_less st m [] ev = refl
opens_less st m (k ∷ ks) ev =
    ap (λ (bs : List Sort). record { index = k.index; beneath = above bs ks } ∷ opens bs ks) (beneath_less st m (k ∷
    ks) ev)

module _ (c : Code) (t : Table) (p : Spot) (i : ℕ) (ev : even (length p.stack) p.tries ≡ true) where
  abbrev N : Notes
  N = notes c t

  abbrev P : Point
  P = cut p

  abbrev st : List Sort
  st = above p.stack p.tries

  abbrev Done : Op → Type 0
  Done op = Fine c t p i op (step.step c t p i op st)

  abbrev Passed : Op → Type 0
  Passed op = r.Passes c N i P op

  nothing_left : (n : ℕ) → n - n ≡ 0
  nothing_left n = omega arith

  take_none : {A : Type 0} (xs : List A) → take 0 xs ≡ []
  take_none [] = refl
  take_none (x ∷ xs) = refl

  drop_none : {A : Type 0} (xs : List A) → drop 0 xs ≡ xs
  drop_none [] = refl
  drop_none (x ∷ xs) = refl

  abbrev mark : Mark
  mark = record { index = i; height = length p.stack }

  abbrev opened : Goes
  opened = record (to c t p i (suc i) [] st) { tries = Some (mark ∷ p.tries) }

  pub try_passes : {l : ℕ} → Done (o.Try l) → Passed (o.Try l)
  try_passes {l = l} f =
      let k = led c t p i _ f in
      r.of_try (by_next (next_in c t p opened (and_parts _ _ k.suit).0)) (bare_one c t p i ev (and_parts _ _ k.suit).1)
    where
      no_room : room p.stack (mark ∷ p.tries) ≡ 0
      no_room = nothing_left (length p.stack)

      all_beneath : beneath p.stack (mark ∷ p.tries) ≡ p.stack
      all_beneath = subst (λ k. drop k p.stack ≡ p.stack) (sym no_room) (drop_none p.stack)

      none_above : above p.stack (mark ∷ p.tries) ≡ []
      none_above = subst (λ k. take k p.stack ≡ []) (sym no_room) (take_none p.stack)

      opens_now : opens p.stack (mark ∷ p.tries) ≡ record { index = i; beneath = st } ∷ opens p.stack p.tries
      opens_now = ap (λ (bs : List Sort). record { index = i; beneath = above bs p.tries } ∷ opens bs p.tries)
          all_beneath

      ev_now : (n : ℕ) → n ≡ length p.stack → even n (mark ∷ p.tries) ≡ true
      ev_now n e = subst (λ n. even n (mark ∷ p.tries) ≡ true) (sym e) (and (le-leb (length p.stack) (length p.stack)
          (same _)) ev)
        where
          same : (n : ℕ) → n ≤ n
          same n = omega arith

          and : {a b : Bool} → a ≡ true → b ≡ true → (a && b) ≡ true
          and e f = cc

      by_next : Next c t p opened → r.Leads c N P p.locals [] (record { index = i; beneath = st } ∷ opens p.stack
          p.tries) p.defers (suc i)
      by_next nx =
          let tries = marks_are (mark ∷ p.tries) nx.spot.tries nx.tries in
          let sorts = become_is c t _ nx.stack.become ∙ whole p.stack p.tries in
          let count = sym (fit_length (parent_of N) nx.stack.fit) ∙ ap length sorts in
          let l = leads_with c t p {ms = mark ∷ p.tries} nx.spot nx.there (subst (λ ms. even (length nx.spot.stack) ms
          ≡ true) tries (ev_now
          (length nx.spot.stack) count)) nx.func nx.part tries nx.stack.fit nx.locals.fit in
          let m = subst (λ xs. r.Leads c N P nx.locals.sorts (above xs (mark ∷ p.tries)) (opens xs (mark ∷ p.tries))
          p.defers (suc i)) sorts l in
          let n = subst (λ xs. r.Leads c N P nx.locals.sorts xs (opens p.stack (mark ∷ p.tries)) p.defers (suc i))
          none_above m in
          let q = subst (λ ts. r.Leads c N P nx.locals.sorts [] ts p.defers (suc i)) opens_now n in
          subst (λ ls. r.Leads c N P ls [] (record { index = i; beneath = st } ∷ opens p.stack p.tries) p.defers (suc
          i)) (become_is c t
          p.locals nx.locals.become) q

  abbrev closed : List Mark → List Sort → Goes
  closed ms ls = record {
    index = suc i;
    part = inner p.defers;
    locals = map is ls;
    stack = map is (st ++ beneath p.stack p.tries);
    tries = Some ms;
  }

  -- the innermost Try ends, with these locals
  record Ended (m : Mark) (ms : List Mark) (ls : List Sort) : Type 0 where
    pub leads : r.Leads c N P ls (above p.stack (m ∷ ms) ++ above (beneath p.stack (m ∷ ms)) ms) (opens (beneath
        p.stack (m ∷ ms)) ms) p.defers
        (suc i)

  ended : (m : Mark) (ms : List Mark) (ls : List Sort) → p.tries ≡ m ∷ ms → suits c t p (closed ms ls) ≡ true → Ended m
      ms ls
  ended m ms ls e h = by_next (next_in c t p (closed ms ls) h)
    where
      ev_here : even (length p.stack) (m ∷ ms) ≡ true
      ev_here = subst (λ ms. even (length p.stack) ms ≡ true) e ev

      by_next : Next c t p (closed ms ls) → Ended m ms ls
      by_next nx =
          let tries = marks_are ms nx.spot.tries nx.tries in
          let sorts = become_is c t _ nx.stack.become ∙ whole p.stack p.tries in
          let count = sym (fit_length (parent_of N) nx.stack.fit) ∙ ap length sorts in
          let even_now = subst (λ n. even n ms ≡ true) (sym count) (even_less p.stack m ms ev_here) in
          let l = leads_with c t p {ms = ms} nx.spot nx.there (subst (λ ms. even (length nx.spot.stack) ms ≡ true)
          tries even_now) nx.func nx.part
          tries nx.stack.fit nx.locals.fit in
          let n = subst (λ xs. r.Leads c N P nx.locals.sorts (above xs ms) (opens xs ms) p.defers (suc i)) sorts l in
          let q = subst (λ xs. r.Leads c N P nx.locals.sorts xs (opens p.stack ms) p.defers (suc i)) (above_less
          p.stack m ms ev_here) n in
          let u = subst (λ ts. r.Leads c N P nx.locals.sorts (above p.stack (m ∷ ms) ++ above (beneath p.stack (m ∷
          ms)) ms) ts p.defers (suc
          i)) (opens_less p.stack m ms ev_here) q in
          record {
            leads = subst (λ ls. r.Leads c N P ls (above p.stack (m ∷ ms) ++ above (beneath p.stack (m ∷ ms)) ms)
                (opens (beneath p.stack (m ∷
                ms)) ms) p.defers (suc i)) (become_is c t ls nx.locals.become) u;
          }

  level_is : (m : Mark) → same_defers c t (try_defers c t (spot_at t m.index)) p.defers ≡ true → r.Level c N m.index
      p.defers
  level_is m e q live =
      let x = holding.spotted c t m.index q live in
      ap (λ (q : Point). q.defers) (sym x.is) ∙ numbers_are x.spot.defers p.defers (subst (λ (m : Option Spot).
      same_defers c t (try_defers c t
      m) p.defers ≡ true) x.there e)

  pub commit_passes : Done o.Commit → Passed o.Commit
  commit_passes f =
      let k = led c t p i _ f in
      by_tries p.tries refl k.fit (and_parts _ _ k.suit).0
    where
      by_tries : (ms : List Mark) → p.tries ≡ ms → level c t ms p.defers ≡ true →
          suits c t p (record (to c t p i (suc i) [] st) { tries = step.tails ms }) ≡ true → Passed o.Commit
      by_tries [] e h g = no_both (sym h)
      by_tries (m ∷ ms) e h g =
          r.of_commit {t = record { index = m.index; beneath = above (beneath p.stack (m ∷ ms)) ms }} (ap (opens
          p.stack) e) (level_is m h)
          (subst (λ ns. r.Leads c N P p.locals (above p.stack ns ++ above (beneath p.stack (m ∷ ms)) ms) (opens
          (beneath p.stack (m ∷ ms)) ms)
          p.defers (suc i)) (sym e) (ended m ms p.locals e g).leads)

  pub undo_passes : Done o.Undo → Passed o.Undo
  undo_passes f =
      let k = led c t p i _ f in
      by_tries p.tries refl (and_parts _ _ k.fit).0 (and_parts _ _ k.fit).1 k.around (and_parts _ _ k.suit).0
    where
      no_room : (n h : ℕ) → n ≡ h → n - h ≡ 0
      no_room n h e = omega (arith, e)

      by_tries : (ms : List Mark) → p.tries ≡ ms → level c t ms p.defers ≡ true → at_height c t p.stack ms ≡ true →
          all_around c t i (map (λ (m : Mark). m.index) ms ++ p.outer) ≡ true → suits c t p (record (to c t p i (suc i)
          [] st) {
            tries = step.tails ms;
            locals = map is (step.label_locals t (step.label_at c ms) p.locals);
          }) ≡ true → Passed o.Undo
      by_tries [] e h a b g = no_both (sym h)
      by_tries (m ∷ ms) e h a b g =
          let one = holding.around_one c t i m.index (and_parts _ _ b).0 in
          let empty = subst (λ k. take k p.stack ≡ []) (sym (no_room (length p.stack) m.height (eqn_is (length p.stack)
          m.height a))) (take_none
          p.stack) in
          r.of_undo {t = record { index = m.index; beneath = above (beneath p.stack (m ∷ ms)) ms }} {label = one.label}
          (ap (opens p.stack) e)
          (subst (λ ns. above p.stack ns ≡ []) (sym e) empty) (level_is m h) one.is_try (at_label one.label one.is_try
          empty)
        where
          at_label : (l : ℕ) → slice_get c.ops m.index ≡ Some (o.Try l) → above p.stack (m ∷ ms) ≡ [] → (q : Point) →
              point_at N l ≡ Some q →
              r.Leads c N P q.locals (above (beneath p.stack (m ∷ ms)) ms) (opens (beneath p.stack (m ∷ ms)) ms)
              p.defers (suc i)
          at_label l is_try empty q live =
              let x = holding.spotted c t l q live in
              let found = ap (λ (m : Option Op). step.label_locals t (step.try_label m) p.locals) is_try ∙ (ap (λ (m :
              Option Spot). step.spot_locals
              m p.locals) x.there ∙ ap (λ (q : Point). q.locals) x.is) in
              let y = ended m ms (step.label_locals t (step.label_at c (m ∷ ms)) p.locals) e g in
              let z = subst (λ xs. r.Leads c N P (step.label_locals t (step.label_at c (m ∷ ms)) p.locals) (xs ++ above
              (beneath p.stack (m ∷
              ms)) ms) (opens (beneath p.stack (m ∷ ms)) ms) p.defers (suc i)) empty y.leads in
              subst (λ ls. r.Leads c N P ls (above (beneath p.stack (m ∷ ms)) ms) (opens (beneath p.stack (m ∷ ms)) ms)
              p.defers (suc i)) found z
