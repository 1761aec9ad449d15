-- An attempt, and an operation at its label.
use Rattle.std.proofs.Common.{◌≡◌, ℕ, suc, ◌≤◌, ◌<◌, List, ◌∷◌, Option, Some, None, true, ◌⊎◌, inl, inr, refl, sym, subst, arith}
use Rattle.std.specs.Prelude.{option_map}
use Rattle.verse_code.specs.declared.codes.Code.{Code}
use Rattle.verse_code.specs.declared.operations.Op.TheVariants as o
use Rattle.verse_verify_kept.specs.Notes.{Notes}
use Rattle.verse_verify_kept.specs.Rules.{Asked}
use Rattle.lower_code.specs.Pieces as c
use Rattle.lower_code.specs.Pieces.{Spot, Piece, Maker, past, next, behind}
use Rattle.lower_code.proofs.Standing.{ahead_stands, behind_more, behind_least}
use Rattle.lower_notes.specs.States.{State, tried}
use Rattle.lower_notes.specs.Stretches as n
use Rattle.lower_notes.specs.Stretches.{Stretch, Walk, is_left}
use Rattle.lower_notes.specs.Laws.{Beside}
use Rattle.lower_notes.proofs.Counted as counted
use Rattle.lower_notes.proofs.Counted.{code_then, walk_then}
use Rattle.lower_pass_states.proofs.Points.{pt}
use Rattle.lower_pass_states.proofs.Meeting.{Meets, MeetsAt, AllSound}
use Rattle.lower_pass_stretches.proofs.Begins.{Begins}
use Rattle.lower_pass_stretches.proofs.Going.{Way, If, itself, Lies, Within, within_less, Steady, Going, behind_same, all_more}
use Rattle.lower_pass_stretches.proofs.Going.{first_lies, rest_lies, left_either}
use Rattle.lower_pass_stretches.proofs.Combined.{opens_try, begins_so, Led, first_noted}

module _ (code : Code) (notes : Notes) where
  -- Try L; the attempt; L: what is behind it. Both begin with the same state.
  module _ {w : Way} {ts : List ℕ} {x : Option State} {f h : Maker} {g j : Walk} {P : State → Type 0}
      (k : Option State → Option State) (Q : State → Type 0) (beside : Beside f g) (begins : Begins j)
      (steady : If x (Steady code notes ts))
      (first : (i l : ℕ) → Led code notes o.Try x x i l → Going code notes w (i ∷ ts) (option_map (tried i) x) f g itself P)
      (lands : (z : State) → P z → (i : ℕ) → MeetsAt code notes x i → Meets code notes z i)
      (rest : Going code notes w ts x h j k Q)
      (asks : If x (λ y. (i l : ℕ) → Meets code notes (tried i y) (suc i) → Meets code notes y l →
      Asked code notes i (pt y) (o.Try l))) where
    abbrev part : Spot → Piece
    part s = c.ahead o.Try f s

    abbrev there : Spot → Spot
    there s = past s (part s)

    abbrev two : Spot → Piece
    two s = h (there s)

    abbrev inner : Spot → Stretch
    inner s = g (suc s.at) (option_map (tried s.at) x)

    abbrev run1 : Spot → Stretch
    run1 s = n.attempt g s.at x

    abbrev run2 : Spot → ℕ → Stretch
    run2 s i = j i (run1 s).exit

    same : (s : Spot) → behind (run1 s).states s.at ≡ (there s).at
    same s = behind_same (run1 s).states (part s).items s.at (sym ((counted.tries beside).count s s.at x))

    exit_is : (s : Spot) → (run1 s).exit ≡ x
    exit_is s = by_state x
      where
        by_state : (y : Option State) → option_map n.same y ≡ y
        by_state None = refl
        by_state (Some y) = refl

    abbrev whole : Spot → Piece
    whole s = code_then (c.ahead o.Try f) h s

    abbrev all : Spot → Stretch
    all s = walk_then (n.attempt g) j s.at x

    lies1 : (s : Spot) → Lies code notes w s (whole s) (all s) → Lies code notes w s (part s) (run1 s)
    lies1 s l = first_lies code notes (part s) (two s) (run1 s) (run2 s (behind (run1 s).states s.at)) l

    lies2 : (s : Spot) → Lies code notes w s (whole s) (all s) → Lies code notes w (there s) (two s) (j (there s).at x)
    lies2 s l = subst (λ y. Lies code notes w (there s) (two s) (j (there s).at y)) (exit_is s)
        (subst (λ i. Lies code notes w (there s) (two s) (run2 s i)) (same s)
        (rest_lies code notes (part s) (two s) (run1 s) (run2 s (behind (run1 s).states s.at)) (same s) l))

    inside_lies : (s : Spot) → Lies code notes w s (whole s) (all s) → Lies code notes w (next s) (f (next s)) (inner s)
    inside_lies s l = let m = lies1 s l in record {
      stands = (ahead_stands o.Try f m.stands).inside;
      states = m.states.1;
      left = m.left;
      room = m.room;
    }

    led : (s : Spot) → Lies code notes w s (whole s) (all s) → Led code notes o.Try x x s.at (there s).at
    led s l = record {
      operation = (ahead_stands o.Try f (lies1 s l).stands).begins.is;
      here = (lies1 s l).states.0;
      there = first_noted code notes (there s).at (j (there s).at x).states (begins (there s).at x) (lies2 s l).states;
    }

    past_at : (s : Spot) → (past s (whole s)).at ≡ (past (there s) (two s)).at
    past_at s = behind_more (part s).items (two s).items s.at

    within2 : (s : Spot) → Within code notes ts s.at (past s (whole s)).at → Within code notes ts (there s).at (past (there s) (two s)).at
    within2 s v = subst (λ i. Within code notes ts (there s).at i) (past_at s)
        (within_less code notes ts v (behind_least (part s).items s.at) (omega arith))

    order : (s : Spot) → (s.at < (there s).at) × ((there s).at ≤ (past s (whole s)).at)
    order s = (
      first_less (behind_least (f (next s)).items (suc s.at)),
      subst (λ i. (there s).at ≤ i) (sym (past_at s)) (behind_least (two s).items (there s).at),
    )
      where
        first_less : {a b : ℕ} → suc a ≤ b → a < b
        first_less l = omega (arith, l)

    within1 : (s : Spot) → Lies code notes w s (whole s) (all s) → Within code notes ts s.at (past s (whole s)).at →
        Within code notes (s.at ∷ ts) (suc s.at) (there s).at
    within1 s l v = opens_try code notes ts s.at (there s).at (there s).at (led s l).operation (omega arith)
        (within_less code notes ts v (omega arith) (omega (arith, order s)))

    back : (s : Spot) (R : Stretch → Type 0) → R (j (there s).at x) → R (run2 s (behind (run1 s).states s.at))
    back s R h = subst (λ i. R (run2 s i)) (sym (same s)) (subst (λ y. R (j (there s).at y)) (sym (exit_is s)) h)

    attempt_left : (s : Spot) → Lies code notes w s (whole s) (all s) → Within code notes ts s.at (past s (whole s)).at →
        (is_left 0 (run1 s).left ≡ true) ⊎ (is_left 0 (run2 s (behind (run1 s).states s.at)).left ≡ true) → w.may_leave ≡ true
    attempt_left s l v (inl e) = (first s.at (there s).at (led s l)).leaves (next s) (inside_lies s l) (within1 s l v) e
    attempt_left s l v (inr e) = rest.leaves (there s) (lies2 s l) (within2 s v)
        (subst (λ y. is_left 0 (j (there s).at y).left ≡ true) (exit_is s)
        (subst (λ i. is_left 0 (run2 s i).left ≡ true) (same s) e))

    pub attempt_goes : Going code notes w ts x (code_then (c.ahead o.Try f) h) (walk_then (n.attempt g) j) k Q
    attempt_goes = record {
      leaves = λ s l v e. attempt_left s l v (left_either (run1 s).left (run2 s (behind (run1 s).states s.at)).left e);
      exits = λ s l v. back s (λ r. If r.exit Q) (rest.exits (there s) (lies2 s l) (within2 s v));
      goes = λ s l v m.
          let facts = led s l in
          let m1 = subst (λ i. MeetsAt code notes (k (all s).exit) i) (past_at s) m in
          let m2 = subst (λ y. MeetsAt code notes (k (j (there s).at y).exit) (past (there s) (two s)).at) (exit_is s)
          (subst (λ i. MeetsAt code notes (k (run2 s i).exit) (past (there s) (two s)).at) (same s) m1) in
          let b = rest.goes (there s) (lies2 s l) (within2 s v) m2 in
          let going = first s.at (there s).at facts in
          let known = going.exits (next s) (inside_lies s l) (within1 s l v) in
          let a = going.goes (next s) (inside_lies s l) (within1 s l v) (meets s (inner s).exit known b.0) in
          let t = begins_so code notes x steady (within_less code notes ts v (omega arith) (order s).1) (order s).0 facts.operation
          facts.here
          (λ y e. asks y e s.at (there s).at (into s y e a.0) (subst (λ z. MeetsAt code notes z (there s).at) e b.0)) in (
            t.0,
            all_more code notes (run1 s).states (run2 s (behind (run1 s).states s.at)).states s.at (t.1, a.1)
                (subst (λ i. AllSound code notes i (run2 s (behind (run1 s).states s.at)).states) (sym (same s))
                (back s (λ r. AllSound code notes (there s).at r.states) b.1)),
          );
    }
      where
        meets : (s : Spot) (y : Option State) → If y P → MeetsAt code notes x (there s).at → MeetsAt code notes y (there s).at
        meets s None e m = tt
        meets s (Some z) e m = lands z (e z refl) (there s).at m

        into : (s : Spot) (y : State) → x ≡ Some y → MeetsAt code notes (option_map (tried s.at) x) (suc s.at) →
            Meets code notes (tried s.at y) (suc s.at)
        into s y e m = subst (λ z. MeetsAt code notes (option_map (tried s.at) z) (suc s.at)) e m
