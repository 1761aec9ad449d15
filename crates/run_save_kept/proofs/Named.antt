-- No two tasks of a run have one path, and none has one that is to come.
use Rattle.std.proofs.Common.{◌≡◌, ℕ, suc, ◌+◌, ◌≤◌, List, [], ◌∷◌, ◌++◌, true, false, refl, sym, subst, ap, ◌∙◌, arith, ◌⊎◌}
use mathlib.Core.Logic.{inl, inr}
use Rattle.std.proofs.lemmas.Bool.{cases_Bool}
use Rattle.verse_code.specs.declared.codes.Code.{Code}
use Rattle.verse_meaning_state.specs.Waits.{eqn, ltn}
use Rattle.verse_meaning_state.proofs.Numbers.{eqn_same}
use Rattle.verse_code_machine.specs.Tasks.{Part, same_path}
use Rattle.verse_code_machine.proofs.Paths.{same_is}
use Rattle.run_save_moves.specs.Moves.{Point, Move}
use Rattle.run_save_fits.specs.Held.{one}
use Rattle.run_save_fits.proofs.Counted.{drawn_once, ltn_less}
use Rattle.run_save_kept.specs.Orders.{last}
use Rattle.run_save_kept.proofs.Paths.{last_end}
use Rattle.run_save_kept.proofs.Rails.{Railed}
use Rattle.run_save_kept.proofs.Weights.{left_at, Special, spawned, branched, arm_begun, arm_ended, joined, weigh, Grown, lessens, special}
use Rattle.run_save_kept.proofs.Weights.{grows}

abbrev pub no_arms : List ℕ → List Part → ℕ
no_arms path gs = 0

module _ (p : List ℕ) where
  abbrev pub has_path : List ℕ → ℕ
  has_path path = one (same_path p path)

  abbrev pub room : ℕ → ℕ
  room left = one (ltn left (suc (last p)))

  abbrev pub Named : Point → Type 0
  Named x = weigh has_path no_arms x ≤ room (left_at x)

  ends_as : (a : List ℕ) (l : ℕ) → one (same_path p (a ++ l ∷ [])) ≤ one (eqn l (last p))
  ends_as a l = by_test (cases_Bool (same_path p (a ++ l ∷ [])))
    where
      equal : (i j k : ℕ) → i ≤ 1 → j ≡ 1 → i ≤ j
      equal i j k e f = omega (arith, e, f)

      by_test : (same_path p (a ++ l ∷ []) ≡ true) ⊎ (same_path p (a ++ l ∷ []) ≡ false) →
          one (same_path p (a ++ l ∷ [])) ≤ one (eqn l (last p))
      by_test (inl e) = let f = ap one e in let g =
          ap one (subst (λ i. eqn l i ≡ true) (sym (ap last (same_is p (a ++ l ∷ []) e) ∙ last_end a l)) (eqn_same l)) in omega
          (arith, f, g)
      by_test (inr e) = let f = ap one e in omega (arith, f)

  -- a number that is to come is no task's
  pub fresh : (a : List ℕ) (l k : ℕ) → suc l ≡ k → one (same_path p (a ++ l ∷ [])) + room k ≤ room l
  fresh a l k e = let f = ends_as a l in let g = drawn_once l (last p) in let i = ap room e in omega (arith, f, g, i)

  by_special : {x y : Point} → Special x y → Named x → Named y
  by_special (spawned {s = s} {l = l} e) a = let g = fresh [] l s.clock.left e in omega (arith, g, a)
  by_special (branched {w = w} {s = s} {l = l} e) a = let g = fresh w.path l s.clock.left e in omega (arith, g, a)
  by_special (arm_begun {l = l} {x = x} {s = s} e) a = let g = fresh x.who.path l s.clock.left e in omega (arith, g, a)
  by_special arm_ended a = omega (arith, a)
  by_special (joined e f g) a = omega (arith, a)

  by_growth : {x y : Point} → Grown has_path no_arms x y → Named x → Named y
  by_growth {x = x} {y = y} (lessens e f) a = let g = ltn_less (left_at y) (left_at x) (suc (last p)) f in omega (arith, e, g, a)
  by_growth (special q) a = by_special q a

  pub named : {c : Code} {x y : Point} → Move c x y → Railed x → Named x → Named y
  named v r a = by_growth (grows has_path no_arms (λ path. refl) v r) a
