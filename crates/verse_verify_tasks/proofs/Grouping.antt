-- What the arms of a Group give together, and to where it leads.
use Rattle.std.proofs.Common.{◌≡◌, ℕ, zero, suc, ◌+◌, ◌<◌, ◌≤◌, List, [], ◌∷◌, length, Bool, true, false, cond, refl, sym, ap, subst, ◌∙◌}
use Rattle.std.proofs.Common.{arith}
use Rattle.std.specs.Prelude.{◌≢◌, not, ◌&&◌, Option, Some, None}
use Rattle.std.proofs.lemmas.Bool.{and_parts}
use Rattle.verse_meaning_state.specs.Waits.{eqn}
use Rattle.verse_meaning_state.proofs.Numbers.{eqn_same}
use Rattle.verse_sorts.specs.Sorts as s
use Rattle.verse_sorts.specs.Sorts.{Sort, Sorts, no_sorts, more_sorts}
use Rattle.verse_verify_kept.specs.Notes.{ClassNote}
use Rattle.verse_verify_kept.specs.Rules.{sorts}
use Rattle.verse_verify_faults.specs.Fitting.{fit, fit_each, all_fit, on_tuple}
use Rattle.verse_verify_faults.specs.Spots.{Spot, spot_at}
use Rattle.verse_verify_faults.specs.Stepping.{Goes, arm_at, arm_labels, with_label, arm_of, arm_results, arm_sorts, arms_at, behind_arm}
use Rattle.verse_verify_faults.specs.Stepping.{grouped}
use Rattle.verse_verify_faults.specs.Faults.{holds, is_none, on_spot, suits}
use Rattle.verse_verify_faults.proofs.Fitting.{some_is}
use Rattle.verse_verify_parts.specs.declared.heres.Here.{Here}
use Rattle.verse_verify_parts.specs.Heres.{code_in, table_in, classes_in, spot_in, suited}
use Rattle.verse_verify_tasks.specs.Arms.{all_from, each_from, size, label_at, label_suits, is_arm, may_begin, sort_there, arm_fits, on_arm}
use Rattle.verse_verify_tasks.specs.Arms.{are_arms, do_begin, do_fit, do_fill, labels_in, grouped_in, group_ends, group_goes}
use Rattle.verse_verify_tasks.proofs.Tests.{spot_is, second, first}

-- a value of any sort stands where nothing is asked
pub fits_nothing : (cs : List ClassNote) (a : Sort) → fit cs a s.none ≡ true
fits_nothing cs s.none = refl
fits_nothing cs s.any = refl
fits_nothing cs s.never = refl
fits_nothing cs s.unit = refl
fits_nothing cs s.nil = refl
fits_nothing cs s.int = refl
fits_nothing cs s.logic = refl
fits_nothing cs s.char = refl
fits_nothing cs s.span = refl
fits_nothing cs (s.enum d) = refl
fits_nothing cs (s.obj c) = refl
fits_nothing cs (s.var a) = refl
fits_nothing cs (s.event a) = refl
fits_nothing cs (s.task a) = refl
fits_nothing cs (s.opt a) = refl
fits_nothing cs (s.list a) = refl
fits_nothing cs (s.map k a) = refl
fits_nothing cs (s.tuple xs) = refl

and_one : (a b : Bool) → a && b ≡ (a && true) && b
and_one true b = refl
and_one false b = refl

module _ (h : Here) where
  -- the first of next states, and the others
  pub both_suit : (g : Goes) (gs : List Goes) → suited h (g ∷ gs) ≡ suited h (g ∷ []) && suited h gs
  both_suit g gs = and_one _ (suited h gs)

  abbrev arms : List ℕ → List Goes → List Goes
  arms ls gs = arms_at (code_in h) (table_in h) (spot_in h) h.index ls gs

  abbrev one : ℕ → Bool
  one l = suits (code_in h) (table_in h) (spot_in h) (arm_at (code_in h) (table_in h) (spot_in h) h.index l)

  arms_then : (ls : List ℕ) (gs : List Goes) → suited h (arms ls gs) ≡ suited h (arms ls []) && suited h gs
  arms_then [] gs = refl
  arms_then (l ∷ ls) gs = ap (λ b. one l && b) (arms_then ls gs) ∙ regroup (one l) (suited h (arms ls [])) (suited h gs)
    where
      regroup : (a b c : Bool) → a && (b && c) ≡ (a && b) && c
      regroup true b c = refl
      regroup false b c = refl

  with_begins : (l : Option ℕ) (ls : List ℕ) → suited h (arms (with_label l ls) []) ≡ label_suits h l && suited h (arms ls [])
  with_begins None ls = refl
  with_begins (Some l) ls = and_one _ (suited h (arms ls []))

  begins : (a m : ℕ) → suited h (arms (arm_labels (code_in h).ops a m) []) ≡ all_from (may_begin h) a m
  begins a zero = refl
  begins a (suc m) = with_begins (label_at h a) (arm_labels (code_in h).ops (suc a) m) ∙ ap (λ b. label_suits h (label_at h a) && b) (begins
      (suc a) m)

  pub group_by : (kind m : ℕ) (st : List _) →
      suited h (group_goes h kind m st) ≡ do_begin h m && suited h (group_ends h kind m st ∷ [])
  group_by kind m st = arms_then (labels_in h m) (group_ends h kind m st ∷ []) ∙
      ap (λ b. b && suited h (group_ends h kind m st ∷ [])) (begins (suc h.index) m)

  -- where all are Arms that may begin, all of them give something
  starts : (l : ℕ) → label_suits h (Some l) ≡ true → (a : Sort) × (sort_there h (Some l) ≡ Some a)
  starts l e =
      let q = spot_is (spot_at (table_in h) l) _ (and_parts _ _ e).0 in
      let a = some_is q.0.arm (first _ _ _ _ _ (second _ _ _ _ _ q.2)) in
      (a.0, ap arm_of q.1 ∙ a.1)

  pub record Known (a m : ℕ) : Type 0 where
    pub given : List Sort
    pub are : arm_sorts (table_in h) (arm_labels (code_in h).ops a m) ≡ Some given
    pub count : length (arm_labels (code_in h).ops a m) ≡ m
    pub fit : (b : Sort) → all_fit (classes_in h) given b ≡ all_from (λ n. arm_fits h n b) a m
    pub fill : (ys : Sorts) → fit_each (classes_in h) (sorts given) ys ≡ eqn (size ys) m && each_from (arm_fits h) a ys

  known : (a m : ℕ) → all_from (is_arm h) a m ≡ true → all_from (may_begin h) a m ≡ true → Known a m
  known a zero e f = record { given = []; are = refl; count = refl; fit = λ b. refl; fill = fills }
    where
      fills : (ys : Sorts) → fit_each (classes_in h) no_sorts ys ≡ eqn (size ys) 0 && each_from (arm_fits h) a ys
      fills no_sorts = refl
      fills (more_sorts b ys) = refl
  known a (suc m) e f =
      let l = some_is (label_at h a) (and_parts _ _ e).0 in
      more a m l.0 l.1 (starts l.0 (subst (λ x. label_suits h x ≡ true) l.1 (and_parts _ _ f).0))
      (known (suc a) m (and_parts _ _ e).1 (and_parts _ _ f).1)
    where
      more : (a m l : ℕ) → label_at h a ≡ Some l → (x : Sort) × (sort_there h (Some l) ≡ Some x) → Known (suc a) m → Known a (suc m)
      more a m l e x k = record {
        given = x.0 ∷ k.given;
        are = ap (λ o. arm_sorts (table_in h) (with_label o (arm_labels (code_in h).ops (suc a) m))) e ∙ ap (λ o. behind_arm o (arm_sorts
            (table_in h) (arm_labels (code_in h).ops (suc a) m))) x.1 ∙ ap (behind_arm (Some x.0)) k.are;
        count = ap (λ o. length (with_label o (arm_labels (code_in h).ops (suc a) m))) e ∙ ap suc k.count;
        fit = λ b. ap (λ r. fit (classes_in h) x.0 b && r) (k.fit b) ∙
            ap (λ r. r && all_from (λ n. arm_fits h n b) (suc a) m) (sym (this b));
        fill = fills;
      }
        where
          this : (b : Sort) → arm_fits h a b ≡ fit (classes_in h) x.0 b
          this b = ap (λ o. on_arm (sort_there h o) (λ y. fit (classes_in h) y b)) e ∙ ap (λ o. on_arm o (λ y. fit (classes_in h) y b)) x.1

          turn : (p q r : Bool) → p && (q && r) ≡ q && (p && r)
          turn p true r = refl
          turn true false r = refl
          turn false false r = refl

          fills : (ys : Sorts) → fit_each (classes_in h) (more_sorts x.0 (sorts k.given)) ys ≡ eqn (size ys) (suc m) &&
              each_from (arm_fits h) a ys
          fills no_sorts = refl
          fills (more_sorts b ys) = ap (λ r. fit (classes_in h) x.0 b && r) (k.fill ys) ∙ turn (fit (classes_in h) x.0 b) (eqn (size ys) m)
              (each_from (arm_fits h) (suc a) ys) ∙ ap (λ r. eqn (size ys) m && (r && each_from (arm_fits h) (suc a) ys)) (sym (this b))

  few : (a m : ℕ) → length (arm_labels (code_in h).ops a m) ≤ m
  few a zero = omega arith
  few a (suc m) = go (label_at h a) (arm_labels (code_in h).ops (suc a) m) m (few (suc a) m)
    where
      go : (l : Option ℕ) (ls : List ℕ) (n : ℕ) → length ls ≤ n → length (with_label l ls) ≤ suc n
      go None ls n k = omega (arith, k)
      go (Some l) ls n k = omega (arith, k)

  -- there are as many labels as operations only where all are Arms
  counted : (a m : ℕ) → eqn (length (arm_labels (code_in h).ops a m)) m ≡ all_from (is_arm h) a m
  counted a zero = refl
  counted a (suc m) = go (label_at h a) (arm_labels (code_in h).ops (suc a) m) m (few (suc a) m) ∙
      ap (λ b. is_arm h a && b) (counted (suc a) m)
    where
      below : (n m : ℕ) → n ≤ m → eqn n (suc m) ≡ false
      below zero m k = refl
      below (suc n) zero k = absurd (omega (arith, k))
      below (suc n) (suc m) k = below n m (omega (arith, k))

      go : (l : Option ℕ) (ls : List ℕ) (m : ℕ) → length ls ≤ m →
          eqn (length (with_label l ls)) (suc m) ≡ not (is_none l) && eqn (length ls) m
      go None ls m k = below (length ls) m k
      go (Some l) ls m k = refl

  pub held_never : (kind m : ℕ) (b : Sort) → are_arms h m ≡ false → holds (classes_in h) (grouped_in h kind m) b ≡ true
  held_never kind m b e = ap (λ o. holds (classes_in h) (grouped kind o) b) (ap (λ r. cond r (arm_sorts (table_in h) (labels_in h m)) None)
      (counted (suc h.index) m ∙ e))

  gives : (m : ℕ) (k : Known (suc h.index) m) → arm_results (table_in h) m (labels_in h m) ≡ Some k.given
  gives m k = ap (λ n. cond (eqn n m) (arm_sorts (table_in h) (labels_in h m)) None) k.count ∙ ap (λ r. cond r (arm_sorts (table_in h)
      (labels_in h m)) None) (eqn_same m) ∙ k.are

  same_tuple : (b : Sort) (f g : Sorts → Bool) → ((ys : Sorts) → f ys ≡ g ys) → on_tuple b f ≡ on_tuple b g
  same_tuple s.none f g e = refl
  same_tuple s.any f g e = refl
  same_tuple (s.tuple ys) f g e = e ys
  same_tuple b f g e = refl

  pub held_tuple : (kind m : ℕ) (b : Sort) → kind ≡ 0 → do_begin h m ≡ true → are_arms h m ≡ true →
      holds (classes_in h) (grouped_in h kind m) b ≡ on_tuple b (do_fill h m)
  held_tuple zero m b e f g =
      let k = known (suc h.index) m g f in
      ap (λ o. holds (classes_in h) (grouped 0 o) b) (gives m k) ∙ same_tuple b _ _ k.fill
  held_tuple (suc kind) m b e f g = absurd (omega (arith, e))

  pub held_one : (kind m : ℕ) (b : Sort) → kind ≢ 0 → do_begin h m ≡ true → are_arms h m ≡ true →
      holds (classes_in h) (grouped_in h kind m) b ≡ do_fit h m b
  held_one zero m b e f g = absurd (e refl)
  held_one (suc kind) m b e f g =
      let k = known (suc h.index) m g f in
      ap (λ o. holds (classes_in h) (grouped (suc kind) o) b) (gives m k) ∙ k.fit b

  -- two next states, the first of which suits or not
  pub first_fails : (g : Goes) (gs : List Goes) → suited h (g ∷ []) ≡ false → false ≡ suited h (g ∷ gs)
  first_fails g gs e = sym (both_suit g gs ∙ ap (λ b. b && suited h gs) e)

  pub second_tells : (g : Goes) (gs : List Goes) → suited h (g ∷ []) ≡ true → suited h gs ≡ suited h (g ∷ gs)
  second_tells g gs e = sym (both_suit g gs ∙ ap (λ b. b && suited h gs) e)
