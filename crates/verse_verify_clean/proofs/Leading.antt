-- Where an operation leads, the next state passes the tests.
use Rattle.std.proofs.Common.{◌≡◌, ℕ, ◌+◌, ◌≤◌, length, take, map, List, [], ◌∷◌, ◌++◌, Option, Some, None, true}
use Rattle.std.proofs.Common.{refl, sym, subst, ap, ap₂, arith, ◌∙◌}
use Rattle.std.specs.Prelude.{◌&&◌}
use Rattle.std.proofs.lemmas.Bool.{and_from, and_parts}
use Rattle.std.proofs.lemmas.List.{length-append}
use Rattle.verse_code.specs.declared.codes.Code.{Code}
use Rattle.verse_meaning_state.specs.Waits.{eqn}
use Rattle.verse_meaning_state.proofs.Numbers.{eqn_same}
use Rattle.verse_sorts.specs.Sorts.{Sort}
use Rattle.verse_sorts.specs.Typing.{AllFit, fit_no, fit_so}
use Rattle.verse_verify_kept.specs.Notes.{Point, Notes, parent_of}
use Rattle.verse_verify_kept.specs.Rules.{Fit, AllIn, in_no, in_so, Kin, Leads, To, TriesFit, tries_so}
use Rattle.verse_verify_faults.specs.Fitting.{fit, all_fit, each_fit}
use Rattle.verse_verify_faults.specs.Spots.{Mark, Spot, Table, spot_at, above, beneath, opens, even, cut}
use Rattle.verse_verify_faults.specs.Stepping.{Made, is, inner, Goes, to}
use Rattle.verse_verify_faults.specs.Faults.{same_number, same_numbers, same_arm, same_marks, known_marks, on_spot, holds, each_holds}
use Rattle.verse_verify_faults.specs.Faults.{of_part, suits, all_suit}
use Rattle.verse_verify_faults.proofs.Leading.{notes, Fitting}
use Rattle.verse_verify_faults.proofs.Cutting.{under, whole, beneath_length, above_on, opens_on, even_more, fit_length}
use Rattle.verse_verify_laws.proofs.Holding.{Spotted, spotted}
use Rattle.verse_verify_clean.specs.Laws.{Told}
use Rattle.verse_verify_clean.proofs.Fitting as fitting

pub number_back : (a b : Option ℕ) → a ≡ b → same_number a b ≡ true
number_back a b e = subst (λ b. same_number a b ≡ true) e (itself a)
  where
    itself : (a : Option ℕ) → same_number a a ≡ true
    itself None = refl
    itself (Some n) = eqn_same n

pub numbers_back : (xs ys : List ℕ) → xs ≡ ys → same_numbers xs ys ≡ true
numbers_back xs ys e = subst (λ ys. same_numbers xs ys ≡ true) e (itself xs)
  where
    itself : (xs : List ℕ) → same_numbers xs xs ≡ true
    itself [] = refl
    itself (x ∷ xs) = and_from (eqn x x) (same_numbers xs xs) (eqn_same x) (itself xs)

pub arm_back : (a b : Option Sort) → a ≡ b → same_arm a b ≡ true
arm_back a b e = subst (λ b. same_arm a b ≡ true) e (itself a)
  where
    itself : (a : Option Sort) → same_arm a a ≡ true
    itself None = refl
    itself (Some a) = fitting.same_back a

pub marks_back : (xs ys : List Mark) → xs ≡ ys → same_marks xs ys ≡ true
marks_back xs ys e = subst (λ ys. same_marks xs ys ≡ true) e (itself xs)
  where
    itself : (xs : List Mark) → same_marks xs xs ≡ true
    itself [] = refl
    itself (x ∷ xs) =
        and_from (eqn x.index x.index && eqn x.height x.height) (same_marks xs xs)
        (and_from (eqn x.index x.index) (eqn x.height x.height) (eqn_same x.index) (eqn_same x.height)) (itself xs)

pub fits_append : {up : ℕ → Option ℕ} {xs ys us vs : List Sort} → AllFit up xs ys → AllFit up us vs →
    AllFit up (xs ++ us) (ys ++ vs)
fits_append fit_no r = r
fits_append (fit_so f fs) r = fit_so f (fits_append fs r)

pub take_whole : {A : Type 0} (xs : List A) → take (length xs) xs ≡ xs
take_whole [] = refl
take_whole (x ∷ xs) = ap (λ zs. x ∷ zs) (take_whole xs)

module _ (c : Code) (t : Table) where
  abbrev pub N : Notes
  N = notes c t

  -- what is cut at open Trys fits as a whole, and the heights are the same
  pub record Rejoined (xs ys : List Sort) (ms ns : List Mark) : Type 0 where
    pub fit : Fitting c t xs ys
    pub marks : ms ≡ ns

  marked : (m n : Mark) (ms ns : List Mark) → m.index ≡ n.index → m.height ≡ n.height → ms ≡ ns → m ∷ ms ≡ n ∷ ns
  marked m n ms ns e f g =
      ap₂ (λ (m : Mark) (ms : List Mark). m ∷ ms) (ap₂ (λ i h. record { index = i; height = h }) e f) g

  pub rejoined : (ms ns : List Mark) (xs ys : List Sort) → even (length xs) ms ≡ true → even (length ys) ns ≡ true →
      Fitting c t (above xs ms) (above ys ns) → TriesFit c N (opens xs ms) (opens ys ns) → Rejoined xs ys ms ns
  rejoined [] [] xs ys ev ew f g = record {
    fit = subst (λ xs. Fitting c t xs ys) (take_whole xs)
        (subst (λ ys. Fitting c t (take (length xs) xs) ys) (take_whole ys) f);
    marks = refl;
  }
  rejoined [] (n ∷ ns) xs ys ev ew f g = elim g [ ]
  rejoined (m ∷ ms) [] xs ys ev ew f g = elim g [ ]
  rejoined (m ∷ ms) (n ∷ ns) xs ys ev ew f (tries_so e b g) =
      let one = beneath_length xs (m ∷ ms) ev in
      let two = beneath_length ys (n ∷ ns) ew in
      joined (rejoined ms ns (beneath xs (m ∷ ms)) (beneath ys (n ∷ ns))
      (subst (λ k. even k ms ≡ true) (sym one) (and_parts _ _ ev).1)
      (subst (λ k. even k ns ≡ true) (sym two) (and_parts _ _ ew).1) b g) one two
    where
      joined : Rejoined (beneath xs (m ∷ ms)) (beneath ys (n ∷ ns)) ms ns → length (beneath xs (m ∷ ms)) ≡ m.height →
          length (beneath ys (n ∷ ns)) ≡ n.height → Rejoined xs ys (m ∷ ms) (n ∷ ns)
      joined x one two = record {
        fit = subst (λ xs. Fitting c t xs ys) (whole xs (m ∷ ms))
            (subst (λ ys. Fitting c t (above xs (m ∷ ms) ++ beneath xs (m ∷ ms)) ys) (whole ys (n ∷ ns))
            (fits_append f x.fit));
        marks = marked m n ms ns e (sym one ∙ (fit_length (parent_of N) x.fit ∙ two)) x.marks;
      }

  module _ (told : Told c t) where
    pub fits : {a b : Sort} → Fit c N a b → fit t.classes a b ≡ true
    fits f = fitting.fit_back t.classes told.falling.rank told.falling.falls told.falling.most f

    pub all_fits : {u : Sort} {xs : List Sort} → AllIn c N u xs → all_fit t.classes xs u ≡ true
    all_fits in_no = refl
    all_fits {u = u} (in_so {a = a} {xs = xs} f r) = and_from (fit t.classes a u) (all_fit t.classes xs u) (fits f) (all_fits r)

    pub each_fits : {xs ys : List Sort} → Fitting c t xs ys → each_fit t.classes xs ys ≡ true
    each_fits fit_no = refl
    each_fits (fit_so {a = a} {b = b} {xs = xs} {ys = ys} f r) =
        and_from (fit t.classes a b) (each_fit t.classes xs ys) (fits f) (each_fits r)

    pub each_is : {xs ys : List Sort} → Fitting c t xs ys → each_holds t.classes (map is xs) ys ≡ true
    each_is fit_no = refl
    each_is (fit_so {a = a} {b = b} {xs = xs} {ys = ys} f r) =
        and_from (fit t.classes a b) (each_holds t.classes (map is xs) ys) (fits f) (each_is r)

    module _ (p : Spot) where
      pub record Suit (g : Goes) : Type 0 where
        pub is : suits c t p g ≡ true

      pub data SuitAll : List Goes → Type 0 where
        suit_no : SuitAll []
        suit_so : {g : Goes} {gs : List Goes} → Suit g → SuitAll gs → SuitAll (g ∷ gs)

      pub suit_all : (gs : List Goes) → SuitAll gs → all_suit c t p gs ≡ true
      suit_all [] suit_no = refl
      suit_all (g ∷ gs) (suit_so x r) = and_from (suits c t p g) (all_suit c t p gs) x.is (suit_all gs r)

      -- a next state is told by its tests
      pub test_of : (g : Goes) (q : Spot) → spot_at t g.index ≡ Some q → p.func ≡ q.func → of_part p g.index g.part q ≡ true →
          known_marks g.tries q.tries ≡ true → each_holds t.classes g.stack q.stack ≡ true →
          each_holds t.classes g.locals q.locals ≡ true → Suit g
      test_of g q e func part tries stack locals = record {
        is = subst (λ m. on_spot m (λ q. eqn p.func q.func && of_part p g.index g.part q && known_marks g.tries q.tries &&
            each_holds t.classes g.stack q.stack && each_holds t.classes g.locals q.locals) ≡ true) (sym e)
            (and_from _ _ (and_from _ _ (and_from _ _ (and_from _ _ (fitting.same_number p.func q.func func) part) tries) stack) locals);
      }

      pub suits_so : {j : ℕ} {ds : List ℕ} (ms : List Mark) (made wrote : List Made) (xs ls : List Sort) →
          even (length xs) ms ≡ true → Leads c N (cut p) ls (above xs ms) (opens xs ms) ds j →
          ((ys : List Sort) → Fitting c t xs ys → each_holds t.classes made ys ≡ true) →
          ((ys : List Sort) → Fitting c t ls ys → each_holds t.classes wrote ys ≡ true) →
          Suit (record { index = j; part = inner ds; locals = wrote; stack = made; tries = Some ms })
      suits_so {j = j} {ds = ds} ms made wrote xs ls ev l on_stack on_locals =
          by_spot (spotted c t j l.point l.live)
        where
          by_spot : Spotted c t j l.point →
              Suit (record { index = j; part = inner ds; locals = wrote; stack = made; tries = Some ms })
          by_spot x =
              let k = subst (λ (r : Point). Kin (cut p) r) (sym x.is) l.kin in
              let y = rejoined ms x.spot.tries xs x.spot.stack ev x.even
              (subst (λ (r : Point). Fitting c t (above xs ms) r.stack) (sym x.is) l.stack)
              (subst (λ (r : Point). TriesFit c N (opens xs ms) r.tries) (sym x.is) l.tries) in
              test_of (record { index = j; part = inner ds; locals = wrote; stack = made; tries = Some ms }) x.spot x.there k.func
              (and_from _ _ (and_from _ _ (and_from _ _ (and_from _ _ (arm_back p.arm x.spot.arm k.arm)
              (number_back p.block x.spot.block k.block)) (numbers_back p.outer x.spot.outer k.outer))
              (fitting.same_number p.under x.spot.under k.under))
              (numbers_back ds x.spot.defers (subst (λ (r : Point). ds ≡ r.defers) (sym x.is) l.defers)))
              (marks_back ms x.spot.tries y.marks) (on_stack x.spot.stack y.fit)
              (on_locals x.spot.locals (subst (λ (r : Point). Fitting c t ls r.locals) (sym x.is) l.locals))

      module _ (i : ℕ) (ev : even (length p.stack) p.tries ≡ true) where
        suits_on : {j : ℕ} {ds : List ℕ} (made wrote : List Made) (new ls : List Sort) →
            Leads c N (cut p) ls new (opens p.stack p.tries) ds j →
            ((ys : List Sort) → Fitting c t (new ++ beneath p.stack p.tries) ys → each_holds t.classes made ys ≡ true) →
            ((ys : List Sort) → Fitting c t ls ys → each_holds t.classes wrote ys ≡ true) →
            Suit (record { index = j; part = inner ds; locals = wrote; stack = made; tries = Some p.tries })
        suits_on {j = j} {ds = ds} made wrote new ls l f g =
            suits_so p.tries made wrote (new ++ beneath p.stack p.tries) ls even_now
            (subst (λ st. Leads c N (cut p) ls st (opens (new ++ beneath p.stack p.tries) p.tries) ds j)
            (sym (above_on p.stack p.tries ev new))
            (subst (λ ts. Leads c N (cut p) ls new ts ds j) (sym (opens_on p.stack new p.tries ev)) l)) f g
          where
            enough : (u b k q : ℕ) → u ≡ b → q ≡ k + b → u ≤ q
            enough u b k q e f = omega (arith, e, f)

            even_now : even (length (new ++ beneath p.stack p.tries)) p.tries ≡ true
            even_now =
                even_more (length p.stack) (length (new ++ beneath p.stack p.tries)) p.tries
                (enough (under p.tries) (length (beneath p.stack p.tries)) (length new)
                (length (new ++ beneath p.stack p.tries)) (sym (beneath_length p.stack p.tries ev))
                (length-append new (beneath p.stack p.tries))) ev

        -- what is pushed
        pub pushed : {j : ℕ} {a : Sort} (m : Made) (st : List Sort) → ((b : Sort) → Fit c N a b → holds t.classes m b ≡ true) →
            To c N (cut p) (a ∷ st) j → Suit (to c t p i j (m ∷ []) st)
        pushed {j = j} {a = a} m st h l =
            suits_on (m ∷ map is (st ++ beneath p.stack p.tries)) (map is p.locals) (a ∷ st) p.locals l on_top (λ ys f. each_is f)
          where
            on_top : (ys : List Sort) → Fitting c t (a ∷ (st ++ beneath p.stack p.tries)) ys →
                each_holds t.classes (m ∷ map is (st ++ beneath p.stack p.tries)) ys ≡ true
            on_top [] r = elim r [ ]
            on_top (b ∷ ys) (fit_so f r) =
                and_from (holds t.classes m b) (each_holds t.classes (map is (st ++ beneath p.stack p.tries)) ys) (h b f)
                (each_is r)

        -- with locals that are written, and blocks that are deferred
        pub wrote : {j : ℕ} {ds : List ℕ} {ls : List Sort} (ms : List Made) (st : List Sort) →
            Leads c N (cut p) ls st (opens p.stack p.tries) ds j →
            ((ys : List Sort) → Fitting c t ls ys → each_holds t.classes ms ys ≡ true) →
            Suit (record (to c t p i j [] st) { part = inner ds; locals = ms })
        wrote {ls = ls} ms st l f = suits_on (map is (st ++ beneath p.stack p.tries)) ms st ls l (λ ys f. each_is f) f

        -- with locals that are sorts
        pub wrote_is : {j : ℕ} {ds : List ℕ} {ls : List Sort} (st : List Sort) →
            Leads c N (cut p) ls st (opens p.stack p.tries) ds j →
            Suit (record (to c t p i j [] st) { part = inner ds; locals = map is ls })
        wrote_is {ls = ls} st l = wrote (map is ls) st l (λ ys f. each_is f)

        pub bare : {j : ℕ} (st : List Sort) → To c N (cut p) st j → Suit (to c t p i j [] st)
        bare st l = wrote_is st l

        pub pushed_is : {j : ℕ} {a : Sort} (st : List Sort) → To c N (cut p) (a ∷ st) j → Suit (to c t p i j (is a ∷ []) st)
        pushed_is {a = a} st l = pushed (is a) st (λ b f. fits f) l
