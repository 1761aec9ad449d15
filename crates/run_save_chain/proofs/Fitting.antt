-- What was kept last in a chain of saves fits its code, and the run from it can be saved again.
use Rattle.std.proofs.Common.{◌≡◌, ℕ, suc, ◌+◌, ◌≤◌, List, [], ◌∷◌, ◌++◌, Bool, true, false, cond, refl, sym, subst, ap, ◌∙◌, arith, ℤ}
use Rattle.verse_code.specs.declared.codes.Code.{Code}
use Rattle.verse_code.specs.Validity.{Valid}
use Rattle.verse_value.specs.Runs.{Line}
use Rattle.verse_meaning_state.specs.Waits.{eqn}
use Rattle.verse_code_machine.specs.Tasks.{Task}
use Rattle.verse_code_machine.specs.Runs.{Forest}
use Rattle.verse_code_machine.specs.Belonging.{StageBelongs}
use Rattle.verse_code_machine.specs.Goings.{RunBelongsFrom}
use Rattle.run_save_shots.specs.Lists.{Each, count}
use Rattle.run_save_shots.specs.Kept.{Kept}
use Rattle.run_save_shots.specs.Fitting.{Fits}
use Rattle.run_save_shots.specs.Spelling.{state, trees, tasks_from}
use Rattle.verse_base.specs.declared.limits.TheConstants.{MOST_STEPS}
use Rattle.verse_meaning_state.proofs.Numbers.{eqn_is}
use Rattle.run_save_moves.specs.Fine.{TextsAreBytes}
use Rattle.run_save_fits.specs.Held.{Savable}
use Rattle.run_save_fits.specs.Laws.{InputsFit, SavableGoesOn}
use Rattle.run_save_kept.specs.Laws.{SavedStatesFit, ResumedStatesFit}
use Rattle.run_save_apart.specs.Numbers.{numbered}
use Rattle.run_save_shown.specs.Shown.{CanBeSaved}
use Rattle.run_save_resumes.specs.Laws.{FitsIsResumable}
use Rattle.run_save_spelled.specs.Growing.{number_of, flat}
use Rattle.run_save_spelled.proofs.Forests.{AllApart, reordered_apart}
use Rattle.run_save_spelled.proofs.Growing.{all_held, none_held, onto}
use Rattle.run_save_spelled.proofs.Sprouting.{all_sprout}
use Rattle.run_save_chain.specs.Chains.{Chain, first_save, next_save, ChainIsHeld, ChainFits, FittingIsApart, ChainCanBeSaved}

-- ---- no number stands twice

abbrev has_number : ℕ → Task → Bool
has_number n y = eqn n y.thread.who.number

count_join : (n : ℕ) (xs ys : List Task) → count (has_number n) (xs ++ ys) ≡ count (has_number n) xs + count (has_number n) ys
count_join n [] ys = omega arith
count_join n (x ∷ xs) ys = by (has_number n x) (count_join n xs ys)
  where
    by : (b : Bool) → count (has_number n) (xs ++ ys) ≡ count (has_number n) xs + count (has_number n) ys →
        cond b (suc (count (has_number n) (xs ++ ys))) (count (has_number n) (xs ++ ys)) ≡
        cond b (suc (count (has_number n) xs)) (count (has_number n) xs) + count (has_number n) ys
    by true e = omega (arith, e)
    by false e = e

numbered_flat : (n : ℕ) (tss : Forest) → numbered n tss ≡ count (has_number n) (flat tss)
numbered_flat n [] = refl
numbered_flat n (ts ∷ tss) = ap (λ k. count (has_number n) ts + k) (numbered_flat n tss) ∙ sym (count_join n ts (flat tss))

none_more : (x : Task) (xs : List Task) → Each (λ z. number_of z ≡ number_of x → ⊥) xs → count (has_number (number_of x)) xs ≡ 0
none_more x [] a = refl
none_more x (z ∷ zs) a = by (has_number (number_of x) z) refl (none_more x zs a.1)
  where
    by : (b : Bool) → has_number (number_of x) z ≡ b → count (has_number (number_of x)) zs ≡ 0 →
        cond b (suc (count (has_number (number_of x)) zs)) (count (has_number (number_of x)) zs) ≡ 0
    by true e f = absurd (a.0 (sym (eqn_is (number_of x) (number_of z) e)))
    by false e f = f

one_most : (n : ℕ) (xs : List Task) → AllApart xs → count (has_number n) xs ≤ 1
one_most n [] a = omega arith
one_most n (x ∷ xs) a = by (has_number n x) refl (one_most n xs a.1)
  where
    one : {k : ℕ} → k ≡ 0 → suc k ≤ 1
    one e = omega (arith, e)

    by : (b : Bool) → has_number n x ≡ b → count (has_number n) xs ≤ 1 →
        cond b (suc (count (has_number n) xs)) (count (has_number n) xs) ≤ 1
    by true e h = one (subst (λ k. count (has_number k) xs ≡ 0) (sym (eqn_is n (number_of x) e)) (none_more x xs a.0))
    by false e h = h

pub fitting_is_apart : FittingIsApart
fitting_is_apart c x fits n =
    let ys = tasks_from c x [] x.tasks in
    let held = all_held [] [] ys none_held (all_sprout c x fits) in
    at_most (numbered_flat n (trees c x)) (one_most n (flat (trees c x)) (reordered_apart (onto [] ys) (flat (trees c x))
    held.reordered held.apart))
  where
    at_most : {i j k : ℕ} → i ≡ j → j ≤ k → i ≤ k
    at_most e h = omega (arith, e, h)

-- ---- the chain

module _ (c : Code) (ns : List ℤ) (steps : ℕ) (valid : Valid c) (bytes : TextsAreBytes c) (inputs : InputsFit ns)
    (few : steps ≤ MOST_STEPS) (held : ChainIsHeld) (first : SavedStatesFit) (next : ResumedStatesFit)
    (resumable : FitsIsResumable) (belongs : RunBelongsFrom) where
  pub last_fits : {u : ℕ} {lines : List Line} {x : Kept} → Chain c ns steps u lines x → Fits c x
  last_fits (first_save {u = u} {s = s} {tss = tss} {x = x} short e y) = first c ns steps u s tss x valid bytes inputs few short e y
  last_fits (next_save {u = u} {w = w} {lines = lines} {x = x} {y = y} {s = t} {tss = uss} chain le short e z) =
      let h = held c ns steps u lines x valid bytes inputs chain in
      let r = resumable c x (last_fits chain) in
      let b = belongs c (x.left + x.spent) w e.0 (state x) (trees c x) r.state_belongs r.trees_belong in
      next c (x.left + x.spent) u w e.0 (state x) t (trees c x) uss y valid bytes (subst (λ n. n ≤ MOST_STEPS) (sym h.savable.sum) few)
      le short (subst (λ n. Savable c n u (state x) (trees c x)) (sym h.savable.sum) h.savable) h.orderly e.1
      (subst (StageBelongs c.classes) e.1 b).0 z

pub chain_fits : ChainIsHeld → SavedStatesFit → ResumedStatesFit → FitsIsResumable → RunBelongsFrom → ChainFits
chain_fits held first next resumable belongs c ns steps u lines x valid bytes inputs few chain =
    last_fits c ns steps valid bytes inputs few held first next resumable belongs chain

pub chain_can_be_saved : ChainIsHeld → ChainFits → FittingIsApart → SavableGoesOn → ChainCanBeSaved
chain_can_be_saved held fits apart goes c ns steps u v lines x valid bytes inputs few short chain le =
    let h = held c ns steps u lines x valid bytes inputs chain in
    subst (λ n. CanBeSaved c n v (state x) (trees c x)) (sym h.savable.sum) (record {
      savable = goes c steps u v 0 (state x) (trees c x) valid bytes le short h.savable;
      orderly = h.orderly;
      apart = apart c x (fits c ns steps u lines x valid bytes inputs few chain);
    })
