-- The arm of a group that is the task of a number, by its place.
use Rattle.std.proofs.Common.{◌≡◌, ℕ, suc, ◌+◌, ◌<◌, Bool, true, false, cond, List, [], ◌∷◌, length, map, drop, get_or, add-one, Option}
use Rattle.std.proofs.Common.{Some, None, is_some, refl, sym, ap, ◌∙◌, arith}
use Rattle.std.proofs.Math.ListN.{set}
use Rattle.std.proofs.Math.Seq.{drop-cons}
use Rattle.std.proofs.lemmas.List.{map-set, length-map}
use Rattle.verse_value.specs.Val.{Val}
use Rattle.verse_value.specs.View.{val_of}
use Rattle.verse_value.specs.declared.values.Value.{Value}
use Rattle.verse_meaning_state.specs.Waits.{eqn}
use Rattle.verse_meaning_state.proofs.Numbers.{eqn_same, eqn_not}
use Rattle.verse_code_machine.specs.Tasks.{Part, did, runs}
use Rattle.verse_code_machine.specs.Ends.{is_run, with_did}
use Rattle.vm_tasks.specs.declared.slots.Arm.{Arm}
use Rattle.vm_tasks.specs.declared.slots.Arm.TheVariants.{Did}
use Rattle.vm_tasks.specs.View.{part_of}
use Rattle.vm_complete.specs.Arms.{is_number, run_at}

pub eqn_yes : (a b : ℕ) → a ≡ b → eqn b a ≡ true
eqn_yes a b e = ap (λ k. eqn b k) e ∙ eqn_same b

pub eqn_no : (a b : ℕ) → (a ≡ b → ⊥) → eqn b a ≡ false
eqn_no a b d = eqn_not b a (λ e. d (sym e))

-- one arm after another

next_at : (n at i : ℕ) (arms : List Arm) (arm : Arm) (b : Bool) → i < length arms → arm ≡ get_or arms i arm →
    b ≡ is_number n (part_of arm) →
    run_at n at (map part_of (drop i arms)) ≡ cond b (Some at) (run_at n (at + 1) (map part_of (drop (i + 1) arms)))
next_at n at i arms arm b less is told =
    let one : drop (suc i) arms ≡ drop (i + 1) arms = rw add-one refl in
    ap (λ z. run_at n at (map part_of z)) (drop-cons arms i arm less ∙ (ap (λ z. z ∷ drop (suc i) arms) (sym is) ∙ ap (λ z. arm ∷ z) one)) ∙
    ap (λ z. cond z (Some at) (run_at n (at + 1) (map part_of (drop (i + 1) arms)))) (sym told)

pub found_at : (n at i : ℕ) (arms : List Arm) (arm : Arm) (b : Bool) → i < length arms → arm ≡ get_or arms i arm →
    b ≡ is_number n (part_of arm) → b ≡ true → run_at n at (map part_of (drop i arms)) ≡ Some at
found_at n at i arms arm b less is told so =
    next_at n at i arms arm b less is told ∙ ap (λ z. cond z (Some at) (run_at n (at + 1) (map part_of (drop (i + 1) arms)))) so

pub passed_at : (n at i : ℕ) (arms : List Arm) (arm : Arm) (b : Bool) → i < length arms → arm ≡ get_or arms i arm →
    b ≡ is_number n (part_of arm) → b ≡ false →
    run_at n at (map part_of (drop i arms)) ≡ run_at n (at + 1) (map part_of (drop (i + 1) arms))
passed_at n at i arms arm b less is told lacks =
    next_at n at i arms arm b less is told ∙ ap (λ z. cond z (Some at) (run_at n (at + 1) (map part_of (drop (i + 1) arms)))) lacks

record Placed (n i at : ℕ) (gs : List Part) : Type 0 where
  k : ℕ
  is : at ≡ i + k
  within : k < length gs
  gives : (v : Val) → set gs k (did v) ≡ with_did n v gs
  found : is_run n gs ≡ true

place_of : (n i at : ℕ) (gs : List Part) → run_at n i gs ≡ Some at → Placed n i at gs
place_of n i at [] e = absurd (cc)
place_of n i at (did w ∷ gs) e =
    let p = place_of n (i + 1) at gs e in
    let is = p.is in
    let within = p.within in
    record {
      k = suc p.k;
      is = omega (arith, is);
      within = omega (arith, within);
      gives = λ v. ap (λ z. did w ∷ z) (p.gives v);
      found =
          p.found;
    }
place_of n i at (runs m ∷ gs) e = go (eqn n m) refl e (λ h. place_of n (i + 1) at gs h)
  where
    go : (b : Bool) → eqn n m ≡ b → cond b (Some i) (run_at n (i + 1) gs) ≡ Some at →
        (run_at n (i + 1) gs ≡ Some at → Placed n (i + 1) at gs) → Placed n i at (runs m ∷ gs)
    go true is h later =
        let same : i ≡ at = cc in
        record {
          k = 0;
          is = omega (arith, same);
          within = omega arith;
          gives =
              λ v. sym (ap (λ b. cond b (did v ∷ gs) (runs m ∷ with_did n v gs)) is);
          found = ap (λ b. cond b true (is_run n gs)) is;
        }
    go false is h later =
        let p = later h in
        let place = p.is in
        let within = p.within in
        record {
          k = suc p.k;
          is = omega (arith, place);
          within = omega (arith, within);
          gives = λ v. ap (λ z. runs m ∷ z) (p.gives v) ∙ sym (ap (λ b. cond b (did v ∷ gs) (runs m ∷ with_did n v gs)) is);
          found = ap (λ b. cond b true (is_run n gs)) is ∙ p.found;
        }

record Absent (n : ℕ) (gs : List Part) : Type 0 where
  gives : (v : Val) → with_did n v gs ≡ gs
  found : is_run n gs ≡ false

absent : (n i : ℕ) (gs : List Part) → run_at n i gs ≡ None → Absent n gs
absent n i [] e = record { gives = λ v. refl; found = refl }
absent n i (did w ∷ gs) e = let p = absent n (i + 1) gs e in record { gives = λ v. ap (λ z. did w ∷ z) (p.gives v); found = p.found }
absent n i (runs m ∷ gs) e = go (eqn n m) refl e (λ h. absent n (i + 1) gs h)
  where
    go : (b : Bool) → eqn n m ≡ b → cond b (Some i) (run_at n (i + 1) gs) ≡ None → (run_at n (i + 1) gs ≡ None → Absent n gs) →
        Absent n (runs m ∷ gs)
    go true is h later = absurd (cc)
    go false is h later =
        let p = later h in record {
          gives = λ v. ap (λ b. cond b (did v ∷ gs) (runs m ∷ with_did n v gs)) is ∙ ap (λ z. runs m ∷ z) (p.gives v);
          found = ap (λ b. cond b true (is_run n gs)) is ∙ p.found;
        }

pub within_arms : (n at : ℕ) (arms : List Arm) → run_at n 0 (map part_of arms) ≡ Some at → at < length arms
within_arms n at arms e =
    let p = place_of n 0 at (map part_of arms) e in
    let is = p.is in
    let within = p.within in
    let same = length-map arms part_of in
    omega (arith, is, within, same)

pub arm_gives : (n at : ℕ) (arms : List Arm) (v : Value) → run_at n 0 (map part_of arms) ≡ Some at →
    map part_of (set arms at (Did v)) ≡ with_did n (val_of v) (map part_of arms)
arm_gives n at arms v e =
    let p = place_of n 0 at (map part_of arms) e in
    let is = p.is in
    let same : at ≡ p.k = omega (arith, is) in
    map-set part_of arms at (Did v) ∙ (ap (λ k. set (map part_of arms) k (did (val_of v))) same ∙ p.gives (val_of v))

pub no_arm : (n : ℕ) (gs : List Part) (v : Val) → run_at n 0 gs ≡ None → gs ≡ with_did n v gs
no_arm n gs v e = sym ((absent n 0 gs e).gives v)

pub is_there : (n : ℕ) (gs : List Part) → is_some (run_at n 0 gs) ≡ is_run n gs
is_there n gs = go (run_at n 0 gs) refl
  where
    go : (o : Option ℕ) → run_at n 0 gs ≡ o → is_some o ≡ is_run n gs
    go None e = sym (absent n 0 gs e).found
    go (Some at) e = sym (place_of n 0 at gs e).found
