-- Stretches to which an operation leads: behind it, and at its label.
use Rattle.std.proofs.Common.{◌≡◌, ℕ, suc, ◌≤◌, ◌<◌, List, ◌∷◌, Option, Some, None, true, ◌⊎◌, inl, inr, refl, sym, subst, ap, arith}
use Rattle.std.specs.Prelude.{option_map, slice_get}
use Rattle.std.proofs.lemmas.Option.{same_Some, none-some}
use Rattle.std.proofs.Math.Nat.{le_trans, le-max_left, le-max_right}
use Rattle.verse_code.specs.declared.codes.Code.{Code}
use Rattle.verse_code.specs.declared.operations.Op.{Op}
use Rattle.verse_code.specs.declared.operations.Op.TheVariants as o
use Rattle.verse_sorts.specs.Sorts.{Sort}
use Rattle.verse_meaning.specs.Programs.{or_else}
use Rattle.verse_verify_kept.specs.Notes.{Notes}
use Rattle.verse_verify_kept.specs.Rules as r
use Rattle.verse_verify_kept.specs.Rules.{Asked, asked, no_local}
use Rattle.lower_code.specs.Pieces as c
use Rattle.lower_code.specs.Pieces.{Spot, Piece, Maker, past, next, behind}
use Rattle.lower_code.proofs.Standing.{ahead_stands, either_stands, behind_more, behind_least}
use Rattle.lower_notes.specs.States.{State, Change, spot_of}
use Rattle.verse_verify_faults.specs.Spots.{point_of}
use Rattle.lower_notes.specs.Stretches as n
use Rattle.lower_notes.specs.Stretches.{Stretch, Walk, with_value, deeper, is_left}
use Rattle.lower_notes.specs.Laws.{Beside}
use Rattle.lower_pass_states.proofs.Points.{pt}
use Rattle.lower_pass_states.proofs.Meeting.{Meets, no_value, leads_to, MeetsAt, Noted, SoundAt, AllSound, leads_itself}
use Rattle.lower_pass_stretches.proofs.Going.{Way, If, itself, Lies, Within, within_less, Steady, sound_of, Going, behind_same, all_more}
use Rattle.lower_pass_stretches.proofs.Going.{noted_first, noted_rest, left_first, left_rest, left_either}
use Rattle.lower_pass_stretches.proofs.Single.{Lands, meets_value}
use Rattle.lower_pass_stretches.proofs.Begins.{Starts, starts, Begins}

module _ (code : Code) (notes : Notes) where
  -- a Jump to what a state meets
  pub jump_asked : (z : State) (i j : ℕ) → Meets code notes z j → Asked code notes i (pt z) (o.Jump j)
  jump_asked z i j (no_value h) = no_local h
  jump_asked z i j (leads_to l) = asked (r.of_jump l)

  -- The Trys that are open within a stretch, by the index of the operation that leads there.
  abbrev pub Opens : List ℕ → (ℕ → Op) → (ℕ → List ℕ) → Type 0
  Opens ts op inside = (i label b : ℕ) → slice_get code.ops i ≡ Some (op label) → b ≤ label → Within code notes ts i b →
      Within code notes (inside i) (suc i) b

  pub opens_nothing : (ts : List ℕ) (op : ℕ → Op) → Opens ts op (λ i. ts)
  opens_nothing ts op i label b e l v = within_less code notes ts v (omega arith) (omega arith)

  pub opens_try : (ts : List ℕ) → Opens ts o.Try (λ i. i ∷ ts)
  opens_try ts i label b e l v = (
    record { label = label; before = omega arith; beyond = l; is_try = e },
    within_less code notes ts v (omega arith) (omega arith),
  )

  -- the first state of a stretch
  pub begins_so : {ts : List ℕ} {i b : ℕ} {op : Op} (x : Option State) → If x (Steady code notes ts) → Within code notes ts i b →
      i < b → slice_get code.ops i ≡ Some op → slice_get notes.points i ≡ Some (point_of (option_map spot_of x)) →
      If x (λ y. Asked code notes i (pt y) op) → MeetsAt code notes x i × SoundAt code notes i x
  begins_so None st v l e h a = (tt, tt)
  begins_so {i = i} (Some y) st v l e h a = (
    leads_to (leads_itself code notes y i (st y refl).even h),
    sound_of code notes y (st y refl) v l e (a y refl),
  )

  pub if_map : (Q : State → Type 0) (h : Change) (x : Option State) → If x (λ y. Q (h y)) → If (option_map h x) Q
  if_map Q h None q z e = absurd (none-some z e)
  if_map Q h (Some y) q z e = subst Q (same_Some (h y) z e) (q y refl)

  at_map : (h : Change) (i : ℕ) {x : Option State} {y : State} → x ≡ Some y → MeetsAt code notes (option_map h x) i →
      Meets code notes (h y) i
  at_map h i e m = subst (λ x. MeetsAt code notes (option_map h x) i) e m

  -- Op L; a stretch; L is behind it
  module _ {w : Way} {ts : List ℕ} {x : Option State} {f : Maker} {g : Walk} {P : State → Type 0}
      (k : Option State → Option State) (Q : State → Type 0) (into beyond : ℕ → Change) (inside : ℕ → List ℕ) (op : ℕ → Op)
      (Facts : ℕ → Type 0) (facts : (s : Spot) → Lies code notes w s (c.ahead op f s) (n.ahead into beyond g s.at x) → Facts s.at)
      (steady : If x (Steady code notes ts)) (opens : Opens ts op inside)
      (first : (i : ℕ) → Facts i → Going code notes w (inside i) (option_map (into i) x) f g itself P)
      (lands : (i : ℕ) (z : State) → P z → (j : ℕ) → MeetsAt code notes (k (option_map (beyond i) x)) j → Meets code notes z j)
      (asks : If x (λ y. (i j : ℕ) → Meets code notes (into i y) (suc i) → MeetsAt code notes (k (Some (beyond i y))) j →
      Asked code notes i (pt y) (op j)))
      (known : If x (λ y. (i : ℕ) → Facts i → Q (beyond i y))) where
    abbrev part : Spot → Piece
    part s = f (next s)

    abbrev run : Spot → Stretch
    run s = g (suc s.at) (option_map (into s.at) x)

    abbrev stop : Spot → ℕ
    stop s = (past (next s) (part s)).at

    part_lies : (s : Spot) → Lies code notes w s (c.ahead op f s) (n.ahead into beyond g s.at x) →
        Lies code notes w (next s) (part s) (run s)
    part_lies s l = record {
      stands = (ahead_stands op f l.stands).inside;
      states = l.states.1;
      left = l.left;
      room = l.room;
    }

    part_within : (s : Spot) → Lies code notes w s (c.ahead op f s) (n.ahead into beyond g s.at x) →
        Within code notes ts s.at (stop s) → Within code notes (inside s.at) (suc s.at) (stop s)
    part_within s l v = opens s.at (stop s) (stop s) (ahead_stands op f l.stands).begins.is (omega arith) v

    inner : (s : Spot) (l : Lies code notes w s (c.ahead op f s) (n.ahead into beyond g s.at x))
        (v : Within code notes ts s.at (stop s)) → MeetsAt code notes (k (option_map (beyond s.at) x)) (stop s) →
        MeetsAt code notes (option_map (into s.at) x) (suc s.at) × AllSound code notes (suc s.at) (run s).states
    inner s l v m = (first s.at (facts s l)).goes (next s) (part_lies s l) (part_within s l v) (meets (run s).exit
        ((first s.at (facts s l)).exits (next s) (part_lies s l) (part_within s l v)))
      where
        meets : (y : Option State) → If y P → MeetsAt code notes y (stop s)
        meets None e = tt
        meets (Some z) e = lands s.at z (e z refl) (stop s) m

    pub ahead_goes : Going code notes w ts x (c.ahead op f) (n.ahead into beyond g) k Q
    ahead_goes = record {
      leaves = λ s l v e. (first s.at (facts s l)).leaves (next s) (part_lies s l) (part_within s l v) e;
      exits = λ s l v. if_map Q (beyond s.at) x (λ y e. known y e s.at (facts s l));
      goes = λ s l v m.
          let a = inner s l v m in
          let h = begins_so x steady v (behind_least (part s).items (suc s.at)) (ahead_stands op f l.stands).begins.is l.states.0
          (λ y e. asks y e s.at (stop s) (at_map (into s.at) (suc s.at) e a.0)
          (subst (λ x. MeetsAt code notes (k (option_map (beyond s.at) x)) (stop s)) e m)) in
          (h.0, (h.1, a.1));
    }

  -- what stands at an operation and at its label
  pub record Led (op : ℕ → Op) (x y : Option State) (i l : ℕ) : Type 0 where
    pub operation : slice_get code.ops i ≡ Some (op l)
    pub here : slice_get notes.points i ≡ Some (point_of (option_map spot_of x))
    pub there : slice_get notes.points l ≡ Some (point_of (option_map spot_of y))

  -- Op L; the first; Jump M; L: the second; M is behind it: both go on with the value of the form
  module _ {w : Way} {ts : List ℕ} {x x0 : Option State} {f h : Maker} {g j : Walk} {P Q : State → Type 0}
      (into other : ℕ → Change) (inside : ℕ → List ℕ) (q : Sort) (op : ℕ → Op) (Facts : ℕ → ℕ → Type 0) (beside : Beside f g)
      (facts : (s : Spot) → Lies code notes w s (c.either op f h s) (n.either into other g j s.at x) →
      Facts s.at (suc (past (next s) (f (next s))).at)) (steady : If x (Steady code notes ts)) (opens : Opens ts op inside)
      (first : (i l : ℕ) → Facts i l → Going code notes w (inside i) (option_map (into i) x) f g itself P)
      (steady_behind : (z : State) → P z → Steady code notes ts z) (lands : (z : State) → P z → Lands code notes q x0 z)
      (second : (i : ℕ) → Going code notes w ts (option_map (other i) x) h j (with_value q x0) Q)
      (asks : If x (λ y. (i l : ℕ) → Meets code notes (into i y) (suc i) → Meets code notes (other i y) l →
      Asked code notes i (pt y) (op l))) where
    abbrev one : Spot → Piece
    one s = f (next s)

    abbrev there : Spot → Spot
    there s = next (past (next s) (one s))

    abbrev two : Spot → Piece
    two s = h (there s)

    abbrev run1 : Spot → Stretch
    run1 s = g (suc s.at) (option_map (into s.at) x)

    abbrev run2 : Spot → ℕ → Stretch
    run2 s i = j i (option_map (other s.at) x)

    abbrev mid : Spot → ℕ
    mid s = suc (behind (run1 s).states (suc s.at))

    same : (s : Spot) → behind (run1 s).states (suc s.at) ≡ (past (next s) (one s)).at
    same s = behind_same (run1 s).states (one s).items (suc s.at)
        (sym (beside.count (next s) (suc s.at) (option_map (into s.at) x)))

    abbrev whole : Spot → Piece
    whole s = c.either op f h s

    abbrev all : Spot → Stretch
    all s = n.either into other g j s.at x

    abbrev end : Spot → ℕ
    end s = (past (there s) (two s)).at

    end_is : (s : Spot) → (past s (whole s)).at ≡ end s
    end_is s = behind_more (one s).items (c.sure (o.Jump (end s)) ∷ (two s).items) (suc s.at)

    tail : (s : Spot) → Lies code notes w s (whole s) (all s) → Noted code notes (past (next s) (one s)).at
        ((run1 s).exit ∷ (run2 s (mid s)).states)
    tail s l = subst (λ i. Noted code notes i ((run1 s).exit ∷ (run2 s (mid s)).states)) (same s)
        (noted_rest code notes (run1 s).states ((run1 s).exit ∷ (run2 s (mid s)).states) (suc s.at) l.states.1)

    lies1 : (s : Spot) → Lies code notes w s (whole s) (all s) → Lies code notes w (next s) (one s) (run1 s)
    lies1 s l = record {
      stands = (either_stands op f h l.stands).first;
      states = noted_first code notes (run1 s).states ((run1 s).exit ∷ (run2 s (mid s)).states) (suc s.at) l.states.1;
      left = λ m d e. l.left m (le_trans d (le-max_left (run1 s).deep (run2 s (mid s)).deep))
          (left_first m (run1 s).left (run2 s (mid s)).left e);
      room = le_trans (le-max_left (one s).locals (two s).locals) l.room;
    }

    lies2 : (s : Spot) → Lies code notes w s (whole s) (all s) → Lies code notes w (there s) (two s) (run2 s (there s).at)
    lies2 s l = subst (λ i. Lies code notes w (there s) (two s) (run2 s i)) (ap suc (same s)) (record {
      stands = (either_stands op f h l.stands).rest;
      states = (tail s l).1;
      left = λ m d e. l.left m (le_trans d (le-max_right (run1 s).deep (run2 s (mid s)).deep))
          (left_rest m (run1 s).left (run2 s (mid s)).left e);
      room = le_trans (le-max_right (one s).locals (two s).locals) l.room;
    })

    order : (s : Spot) → ((past (next s) (one s)).at < (there s).at) × ((there s).at ≤ end s) × (suc s.at ≤ (past (next s) (one s)).at)
    order s = (omega arith, behind_least (two s).items (there s).at, behind_least (one s).items (suc s.at))

    exit_value : (y : Option State) → If y P → (s : Spot) →
        MeetsAt code notes (with_value q x0 (or_else y (run2 s (mid s)).exit)) (end s) → MeetsAt code notes y (end s)
    exit_value None e s m = tt
    exit_value (Some z) e s m = meets_value code notes q x0 (Some z) (end s) (λ u i. lands u (e u i)) m

    second_value : (y u : Option State) (i : ℕ) → MeetsAt code notes (with_value q x0 (or_else y u)) i →
        MeetsAt code notes (with_value q x0 u) i
    second_value y None i m = tt
    second_value None (Some v) i m = m
    second_value (Some z) (Some v) i m = m

    first_within : (s : Spot) → Lies code notes w s (whole s) (all s) → Within code notes ts s.at (past s (whole s)).at →
        Within code notes (inside s.at) (suc s.at) (past (next s) (one s)).at
    first_within s l v = let r = order s in opens s.at (there s).at (past (next s) (one s)).at (either_stands op f h l.stands).begins.is
        (omega (arith, r.0)) (within_less code notes ts (subst (λ i. Within code notes ts s.at i) (end_is s) v) (omega arith)
        (omega (arith, r.0, r.1)))

    second_within : (s : Spot) → Within code notes ts s.at (past s (whole s)).at → Within code notes ts (there s).at (end s)
    second_within s v = let r = order s in within_less code notes ts (subst (λ i. Within code notes ts s.at i) (end_is s) v)
        (omega (arith, r.0, r.2)) (omega arith)

    by_part : (s : Spot) → Lies code notes w s (whole s) (all s) → Within code notes ts s.at (past s (whole s)).at →
        (is_left 0 (run1 s).left ≡ true) ⊎ (is_left 0 (run2 s (mid s)).left ≡ true) → w.may_leave ≡ true
    by_part s l v (inl e) = (first s.at (there s).at (facts s l)).leaves (next s) (lies1 s l) (first_within s l v) e
    by_part s l v (inr e) = (second s.at).leaves (there s) (lies2 s l) (second_within s v)
        (subst (λ i. is_left 0 (run2 s i).left ≡ true) (ap suc (same s)) e)

    pub either_goes : Going code notes w ts x (c.either op f h) (n.either into other g j) (with_value q x0) (λ z. Unit {0})
    either_goes = record {
      leaves = λ s l v e. by_part s l v (left_either (run1 s).left (run2 s (mid s)).left e);
      exits = λ s l v y e. tt;
      goes = λ s l v m0.
          let m = subst (λ i. MeetsAt code notes (with_value q x0 (or_else (run1 s).exit (run2 s (mid s)).exit)) i) (end_is s) m0 in
          let v1 = subst (λ i. Within code notes ts s.at i) (end_is s) v in
          let r = order s in
          let u = either_stands op f h l.stands in
          let w1 = opens s.at (there s).at (past (next s) (one s)).at u.begins.is (omega (arith, r.0))
          (within_less code notes ts v1 (omega arith) (omega (arith, r.0, r.1))) in
          let known = (first s.at (there s).at (facts s l)).exits (next s) (lies1 s l) w1 in
          let m2 = subst (λ i. MeetsAt code notes (with_value q x0 (run2 s i).exit) (end s)) (ap suc (same s))
          (second_value (run1 s).exit (run2 s (mid s)).exit (end s) m) in
          let b = (second s.at).goes (there s) (lies2 s l) (within_less code notes ts v1 (omega (arith, r.0, r.2)) (omega arith)) m2 in
          let landed = exit_value (run1 s).exit known s m in
          let vj : Within code notes ts (past (next s) (one s)).at (there s).at =
          within_less code notes ts v1 (omega (arith, r.2)) (omega arith) in
          let jump = begins_so (run1 s).exit (λ z e. steady_behind z (known z e)) vj (omega (arith, r.0, r.1)) u.jump.is (tail s l).0
          (λ z e. jump_asked z (past (next s) (one s)).at (end s) (subst (λ y. MeetsAt code notes y (end s)) e landed)) in
          let a = (first s.at (there s).at (facts s l)).goes (next s) (lies1 s l) w1 jump.0 in
          let begin = begins_so x steady v1 (omega (arith, r.0, r.1, r.2)) u.begins.is l.states.0
          (λ y e. asks y e s.at (there s).at (at_map (into s.at) (suc s.at) e a.0) (at_map (other s.at) (there s).at e b.0)) in (
            begin.0,
            (
              begin.1,
              all_more code notes (run1 s).states ((run1 s).exit ∷ (run2 s (mid s)).states) (suc s.at) a.1
                  (subst (λ i. AllSound code notes i ((run1 s).exit ∷ (run2 s (mid s)).states)) (sym (same s))
                  (jump.1, subst (λ i. AllSound code notes (there s).at (run2 s i).states) (sym (ap suc (same s))) b.1)),
            ),
          );
    }

  -- the first of states that are noted
  pub first_noted : {x : Option State} (i : ℕ) (xs : List (Option State)) → Starts x xs → Noted code notes i xs →
      slice_get notes.points i ≡ Some (point_of (option_map spot_of x))
  first_noted i xs starts h = h.0

  pub either_led : {w : Way} {x : Option State} {f : Maker} (h : Maker) {g : Walk} (j : Walk) (into other : ℕ → Change) (op : ℕ → Op) →
      Beside f g → Begins j → (s : Spot) → Lies code notes w s (c.either op f h s) (n.either into other g j s.at x) →
      Led op x (option_map (other s.at) x) s.at (suc (past (next s) (f (next s))).at)
  either_led {x = x} {f = f} h {g = g} j into other op beside begins s l =
      let p = g (suc s.at) (option_map (into s.at) x) in
      let e = behind_same p.states (f (next s)).items (suc s.at) (sym (beside.count (next s) (suc s.at) (option_map (into s.at) x))) in
      let y = option_map (other s.at) x in
      let m = suc (behind p.states (suc s.at)) in
      let rest = noted_rest code notes p.states (p.exit ∷ (j m y).states) (suc s.at) l.states.1 in
      record {
        operation = (either_stands op f h l.stands).begins.is;
        here = l.states.0;
        there = subst (λ i. slice_get notes.points (suc i) ≡ Some (point_of (option_map spot_of y))) e
            (first_noted m (j m y).states (begins m y) rest.1);
      }
