-- A task of a shot that fits a valid code suits its numbers.
use Rattle.std.proofs.Common.{◌≡◌, ℕ, zero, suc, ◌+◌, ◌<◌, ◌≤◌, Bool, true, false, List, [], ◌∷◌, ◌++◌, length, Option, Some, None, refl}
use Rattle.std.proofs.Common.{sym, ap, subst}
use Rattle.std.proofs.Common.{◌∙◌, arith}
use Rattle.std.proofs.lemmas.Bool.{ltb-true}
use Rattle.std.specs.Prelude.{slice_get, nat_le, nat_lt, ◌&&◌}
use Rattle.verse_code.specs.declared.codes.Code.{Code}
use Rattle.verse_code.specs.declared.operations.Op.{Op}
use Rattle.verse_code.specs.declared.operations.Op.TheVariants as o
use Rattle.verse_code.specs.Validity.{Valid}
use Rattle.run_save_shots.specs.Lists.{Each}
use Rattle.run_save_shots.specs.Kept.{KeptFrame, KeptRest, leaf, group, KeptTask, Kept}
use Rattle.run_save_shots.specs.Fitting.{Stand, calls, sleeps, stays, awaits_task, awaits_event, gathers, goes_on, stand_in, stand_at}
use Rattle.run_save_shots.specs.Fitting.{RestSuits, FramesSuit as FramesFit, arms_of, TaskFits, Fits}
use Rattle.run_save_shots.specs.Naming.{number_at, is_begun_since}
use Rattle.run_save_spelled.proofs.Forests.{each_weaker}
use Rattle.run_save_numbers.specs.Numbers.{numbers, borns_from, arms_from, Countable}
use Rattle.run_save_numbers.proofs.Limits.{few}
use Rattle.run_save_numbers.proofs.Firsts.{first_least, number_more}
use Rattle.run_save_slots.specs.Stacking.{IsNear}
use Rattle.run_save_slots.specs.Slots.{Suits}
use Rattle.run_save_trees.proofs.Groups.{group_of}
use Rattle.run_save_trees.proofs.Lists.{each_here}

-- ---- operations

at_place : {A : Type 0} (xs : List A) (i : ℕ) (x : A) → slice_get xs i ≡ Some x → i < length xs
at_place [] i x e = absurd (cc)
at_place (y ∷ xs) zero x e = omega arith
at_place (y ∷ xs) (suc i) x e = omega (arith, at_place xs i x e)

-- there is an operation where a frame stands that does not just go on
some_op : (c : Code) (place : ℕ) → (stand_at c place ≡ goes_on → ⊥) → place < length c.ops
some_op c place d = by (slice_get c.ops place) refl
  where
    by : (p : Option Op) → slice_get c.ops place ≡ p → place < length c.ops
    by None e = absurd (d (ap stand_in e))
    by (Some op) e = at_place c.ops place op e

-- the arms of a group stand behind it
arms_in : (c : Code) (place k m p : ℕ) → Valid c → stand_at c place ≡ gathers k m p → place + m < length c.ops
arms_in c place k m p valid e = by (slice_get c.ops place) refl
  where
    fits : (i j q : ℕ) → slice_get c.ops place ≡ Some (o.Group i j q) → place + j < length c.ops
    fits i j q f =
        ltb-true (place + j) (length c.ops) (second (nat_le i 2) (nat_lt (place + j) (length c.ops)) (nat_lt q (length c.places))
        (valid.operations place (o.Group i j q) f))
      where
        second : (a b d : Bool) → (a && b && d) ≡ true → b ≡ true
        second true true d h = refl
        second true false d h = absurd (cc)
        second false b d h = absurd (cc)

    by : (q : Option Op) → slice_get c.ops place ≡ q → place + m < length c.ops
    by None f = let none : goes_on ≡ gathers k m p = sym (ap stand_in f) ∙ e in absurd (cc)
    by (Some op) f = fits k m p (f ∙ ap (λ x. Some x) (group_of op k m p (sym (ap stand_in f) ∙ e)))

-- ---- frames

-- each frame stands at an operation, and so do the arms behind the top one
abbrev Within : Code → KeptFrame → Type 0
Within c f = f.place < length c.ops

module _ (c : Code) (valid : Valid c) where
  top_within : (r : KeptRest) (place : ℕ) → RestSuits (stand_at c place) r →
      (place < length c.ops) × (length (arms_of r) < length c.ops)
  top_within r place k = by (stand_at c place) refl k
    where
      here : (stand_at c place ≡ goes_on → ⊥) → (n : ℕ) → n ≡ 0 → (place < length c.ops) × (n < length c.ops)
      here d n e = let l = some_op c place d in (l, omega (arith, l, e))

      by : (st : Stand) → stand_at c place ≡ st → RestSuits st r → (place < length c.ops) × (length (arms_of r) < length c.ops)
      by calls e k = absurd (none r k)
        where
          none : (r : KeptRest) → RestSuits calls r → ⊥
          none (leaf n cause) k = k
          none (group arms) k = k
      by goes_on e k = absurd (none r k)
        where
          none : (r : KeptRest) → RestSuits goes_on r → ⊥
          none (leaf n cause) k = k
          none (group arms) k = k
      by (gathers i m p) e k = of r k
        where
          of : (r : KeptRest) → RestSuits (gathers i m p) r → (place < length c.ops) × (length (arms_of r) < length c.ops)
          of (leaf n cause) k = absurd k
          of (group arms) k = let l = arms_in c place i m p valid e in (omega (arith, l), omega (arith, l, k))
      by sleeps e k = here (λ g. let f : sleeps ≡ goes_on = sym e ∙ g in absurd (cc)) (length (arms_of r)) (of r k)
        where
          of : (r : KeptRest) → RestSuits sleeps r → length (arms_of r) ≡ 0
          of (leaf n cause) k = refl
          of (group arms) k = absurd k
      by stays e k = here (λ g. let f : stays ≡ goes_on = sym e ∙ g in absurd (cc)) (length (arms_of r)) (of r k)
        where
          of : (r : KeptRest) → RestSuits stays r → length (arms_of r) ≡ 0
          of (leaf n cause) k = refl
          of (group arms) k = absurd k
      by awaits_task e k = here (λ g. let f : awaits_task ≡ goes_on = sym e ∙ g in absurd (cc)) (length (arms_of r)) (of r k)
        where
          of : (r : KeptRest) → RestSuits awaits_task r → length (arms_of r) ≡ 0
          of (leaf n cause) k = refl
          of (group arms) k = absurd k
      by awaits_event e k = here (λ g. let f : awaits_event ≡ goes_on = sym e ∙ g in absurd (cc)) (length (arms_of r)) (of r k)
        where
          of : (r : KeptRest) → RestSuits awaits_event r → length (arms_of r) ≡ 0
          of (leaf n cause) k = refl
          of (group arms) k = absurd k

  frames_within : (r : KeptRest) (fs : List KeptFrame) → FramesFit c r fs → Each (Within c) fs × (length (arms_of r) < length c.ops)
  frames_within r [] k = absurd k
  frames_within r (f ∷ []) k = let l = top_within r f.place k in ((l.0, tt), l.1)
  frames_within r (f ∷ g ∷ fs) k =
      let rest = frames_within r (g ∷ fs) k.1 in
      ((some_op c f.place (λ h. let e : calls ≡ goes_on = sym k.0 ∙ h in absurd (cc)), rest.0), rest.1)

-- ---- numbers

borns_long : (s : Kept) (at depth n : ℕ) (own ts : List KeptTask) → length (borns_from s at depth n own ts) ≡ n
borns_long s at depth zero own ts = refl
borns_long s at depth (suc n) own ts = ap suc (borns_long s at (suc depth) n own ts)

arms_long : (s : Kept) (at place n : ℕ) (ts : List KeptTask) → length (arms_from s at place n ts) ≡ n
arms_long s at place zero ts = refl
arms_long s at place (suc n) ts = ap suc (arms_long s at (suc place) n ts)

behind : (s : Kept) (before ts : List KeptTask) → number_at s ts ≤ number_at s (before ++ ts)
behind s [] ts = omega arith
behind s (t ∷ before) ts = omega (arith, behind s before ts, number_more s t (before ++ ts))

pub countable : (c : Code) (s : Kept) → Fits c s → Countable s
countable c s fits = record {
  steps = fits.steps;
  few = fits.few_tasks;
  frames = each_weaker (TaskFits c s) (λ t. length t.frames ≤ s.spent) s.tasks (λ t f. f.few) fits.tasks;
  parents = fits.parents;
}

pub suits : (c : Code) (s : Kept) (before : List KeptTask) (t : KeptTask) (ts : List KeptTask) → Valid c → Fits c s →
    s.tasks ≡ before ++ t ∷ ts → Suits t (numbers s (length before) t ts)
suits c s before t ts valid fits all =
    let it = each_here (TaskFits c s) before t ts (subst (λ xs. Each (TaskFits c s) xs) all fits.tasks) in
    let within = frames_within c valid t.rest t.frames it.suit in
    let ops = valid.counts.ops.1 in
    let near = each_weaker (Within c) (IsNear (length (arms_of t.rest))) t.frames (λ f l. omega (arith, l, within.1, ops)) within.0 in
    let one = first_least s (is_begun_since (length before) (length t.frames)) ts in
    let two = number_more s t ts in
    let three = behind s before (t ∷ ts) in
    let most = few s.left s.spent (length s.tasks) fits.steps fits.few_tasks in
    record {
      frames = record {
        borns = borns_long s (length before) 0 (length t.frames) (t ∷ ts) ts;
        few = omega (arith, it.few, fits.steps);
        near = near;
      };
      arms = arms_long s (length before) 0 (length (arms_of t.rest)) ts;
      few_arms = omega (arith, within.1, ops);
      above = omega (arith, one, two, three, ap (number_at s) all, most);
    }
