-- The turns of a generator: a Jump to a Take, which leads to a Try before it, whose label the Take is.
use Rattle.std.proofs.Common.{◌≡◌, ℕ, suc, ◌≤◌, List, [], ◌∷◌, Option, Some, None, true, ◌⊎◌, inl, inr, refl, sym, ◌∙◌}
use Rattle.std.proofs.Common.{subst, ap, arith}
use Rattle.std.specs.Prelude.{option_map, slice_get}
use Rattle.std.proofs.lemmas.Option.{none-some, same_Some}
use Rattle.verse_code.specs.declared.codes.Code.{Code}
use Rattle.verse_code.specs.declared.operations.Op.{Op}
use Rattle.verse_code.specs.declared.operations.Op.TheVariants as o
use Rattle.verse_verify_kept.specs.Notes.{Notes}
use Rattle.verse_verify_kept.specs.Rules.{Asked}
use Rattle.verse_verify_faults.specs.Spots.{point_of}
use Rattle.lower_code.specs.Pieces as c
use Rattle.lower_code.specs.Pieces.{Spot, Piece, Maker, past, next, behind}
use Rattle.lower_code.proofs.Standing.{ahead_stands, behind_more, behind_least}
use Rattle.lower_notes.specs.States.{State, Change, spot_of, tried}
use Rattle.lower_notes.specs.Stretches as n
use Rattle.lower_notes.specs.Stretches.{Stretch, Walk, is_left}
use Rattle.lower_notes.specs.Laws.{Beside}
use Rattle.lower_notes.proofs.Counted.{code_then, walk_then}
use Rattle.lower_pass_states.proofs.Points.{pt}
use Rattle.lower_pass_states.proofs.Meeting.{LeadsTo, Meets, MeetsAt, leads_itself, AllSound}
use Rattle.lower_pass_stretches.proofs.Going.{Way, If, itself, Lies, Within, within_less, Steady, Going, behind_same, all_more}
use Rattle.lower_pass_stretches.proofs.Going.{first_lies, rest_lies, left_either}
use Rattle.lower_pass_stretches.proofs.Combined.{opens_try, begins_so, Led, if_map, jump_asked}
use Rattle.lower_pass_contexts.proofs.Trys.{try_asked}

pub same_state : (x : Option State) → option_map n.same x ≡ x
same_state None = refl
same_state (Some y) = refl

module _ (code : Code) (notes : Notes) where
  -- Jump T; B: Try T; the attempt; T: what leads to B. The Try begins with another state than that at T.
  module _ {w : Way} {ts : List ℕ} {x : Option State} {f : Maker} {g : Walk} {P : State → Type 0} (turn : Change) (Q : State → Type 0)
      (op : ℕ → Op) (beside : Beside f g) (steady : If x (Steady code notes ts))
      (steady_turned : If (option_map turn x) (Steady code notes ts))
      (first : (i l : ℕ) → Led code notes o.Try (option_map turn x) x i l →
      Going code notes w (i ∷ ts) (option_map (tried i) (option_map turn x)) f g itself P)
      (lands : (z : State) → P z → (i : ℕ) → MeetsAt code notes x i → Meets code notes z i)
      (meets : If x (λ y. (i : ℕ) → Meets code notes y i → Meets code notes (turn y) i))
      (asks : If x (λ y. (i j : ℕ) → Meets code notes y (suc i) → LeadsTo code notes (turn y) j → Asked code notes i (pt y) (op j)))
      (known : If x Q) where
    abbrev turned : Option State
    turned = option_map turn x

    abbrev part : Spot → Piece
    part s = f (next (next s))

    abbrev jumping : Spot → Piece
    jumping s = c.ahead o.Jump (c.ahead o.Try f) s

    abbrev taking : Spot → Piece
    taking s = c.one (op (suc s.at)) (past s (jumping s))

    abbrev label : Spot → ℕ
    label s = (past s (jumping s)).at

    abbrev inner : Spot → Stretch
    inner s = g (suc (suc s.at)) (option_map (tried (suc s.at)) turned)

    abbrev run : Spot → Stretch
    run s = n.ahead (n.always turn) (n.always n.same) (n.attempt g) s.at x

    abbrev run_last : Spot → Stretch
    run_last s = n.last (behind (run s).states s.at) (run s).exit

    abbrev turn_code : ℕ → Maker
    turn_code i = code_then (c.ahead o.Jump (c.ahead o.Try f)) (c.one (op (suc i)))

    abbrev turn_walk : Walk
    turn_walk = walk_then (n.ahead (n.always turn) (n.always n.same) (n.attempt g)) n.last

    same : (s : Spot) → behind (run s).states s.at ≡ label s
    same s = behind_same (inner s).states (part s).items (suc (suc s.at))
        (sym (beside.count (next (next s)) (suc (suc s.at)) (option_map (tried (suc s.at)) turned)))

    abbrev LiesSo : Spot → Type 0
    LiesSo s = Lies code notes w s (turn_code s.at s) (turn_walk s.at x)

    lies1 : (s : Spot) → LiesSo s → Lies code notes w s (jumping s) (run s)
    lies1 s l = first_lies code notes (jumping s) (taking s) (run s) (run_last s) l

    lies2 : (s : Spot) → LiesSo s → Lies code notes w (past s (jumping s)) (taking s) (run_last s)
    lies2 s l = rest_lies code notes (jumping s) (taking s) (run s) (run_last s) (same s) l

    inside_lies : (s : Spot) → LiesSo s → Lies code notes w (next (next s)) (part s) (inner s)
    inside_lies s l = let m = lies1 s l in record {
      stands = (ahead_stands o.Try f (ahead_stands o.Jump (c.ahead o.Try f) m.stands).inside).inside;
      states = m.states.1.1;
      left = m.left;
      room = m.room;
    }

    noted_label : (s : Spot) → LiesSo s → slice_get notes.points (label s) ≡ Some (point_of (option_map spot_of x))
    noted_label s l = subst (λ y. slice_get notes.points (label s) ≡ Some (point_of (option_map spot_of y))) (same_state x)
        (lies2 s l).states.0

    led : (s : Spot) → LiesSo s → Led code notes o.Try turned x (suc s.at) (label s)
    led s l = record {
      operation = (ahead_stands o.Try f (ahead_stands o.Jump (c.ahead o.Try f) (lies1 s l).stands).inside).begins.is;
      here = (lies1 s l).states.1.0;
      there = noted_label s l;
    }

    end_is : (s : Spot) → (past s (turn_code s.at s)).at ≡ suc (label s)
    end_is s = behind_more (jumping s).items (taking s).items s.at

    order : (s : Spot) → suc (suc s.at) ≤ label s
    order s = behind_least (part s).items (suc (suc s.at))

    within_all : (s : Spot) → Within code notes ts s.at (past s (turn_code s.at s)).at → Within code notes ts s.at (suc (label s))
    within_all s v = subst (λ i. Within code notes ts s.at i) (end_is s) v

    within_try : (s : Spot) → Within code notes ts s.at (suc (label s)) → Within code notes ts (suc s.at) (label s)
    within_try s v = within_less code notes ts v (omega arith) (omega arith)

    within_in : (s : Spot) → LiesSo s → Within code notes ts s.at (suc (label s)) →
        Within code notes (suc s.at ∷ ts) (suc (suc s.at)) (label s)
    within_in s l v = opens_try code notes ts (suc s.at) (label s) (label s) (led s l).operation (omega arith) (within_try s v)

    turns_left : (s : Spot) → LiesSo s → Within code notes ts s.at (suc (label s)) →
        (is_left 0 (run s).left ≡ true) ⊎ (is_left 0 (run_last s).left ≡ true) → w.may_leave ≡ true
    turns_left s l v (inl e) = (first (suc s.at) (label s) (led s l)).leaves (next (next s)) (inside_lies s l) (within_in s l v) e
    turns_left s l v (inr e) = absurd (cc)

    pub turns_go : Going code notes w ts x (c.from_here turn_code) turn_walk itself Q
    turns_go = record {
      leaves = λ s l v e. turns_left s l (within_all s v) (left_either (run s).left (run_last s).left e);
      exits = λ s l v. if_map code notes Q n.same (option_map n.same x) (if_map code notes Q n.same x known);
      goes = λ s l v0 m0.
          let v = within_all s v0 in
          let m = subst (λ y. MeetsAt code notes y (suc (label s))) (same_state (option_map n.same x) ∙ same_state x)
          (subst (λ i. MeetsAt code notes (turn_walk s.at x).exit i) (end_is s) m0) in
          let facts = led s l in
          let low = order s in
          let take = begins_so code notes {b = suc (label s)} x steady (within_less code notes ts v (omega (arith, low)) (omega arith))
          (omega arith) (lies2 s l).stands.items.0.is (noted_label s l)
          (λ y e. asks y e (label s) (suc s.at) (subst (λ z. MeetsAt code notes z (suc (label s))) e m) (turned_there s l y e)) in
          let going = first (suc s.at) (label s) facts in
          let known_in = going.exits (next (next s)) (inside_lies s l) (within_in s l v) in
          let a = going.goes (next (next s)) (inside_lies s l) (within_in s l v) (landed s (inner s).exit known_in take.0) in
          let try = begins_so code notes {b = label s} turned steady_turned (within_try s v) (omega (arith, low)) facts.operation facts.here
          (λ y e. try_asked code notes y (suc s.at) (label s) (into s y e a.0) (turned_meets y e (label s) take.0)) in
          let jump = begins_so code notes {b = suc (label s)} x steady v (omega (arith, low))
          (ahead_stands o.Jump (c.ahead o.Try f) (lies1 s l).stands).begins.is l.states.0
          (λ y e. jump_asked code notes y s.at (label s) (subst (λ z. MeetsAt code notes z (label s)) e take.0)) in (
            jump.0,
            all_more code notes (run s).states (run_last s).states s.at (jump.1, (try.1, a.1))
                (subst (λ i. AllSound code notes i (run_last s).states) (sym (same s))
                (subst (λ y. AllSound code notes (label s) (y ∷ [])) (sym (same_state x)) (take.1, tt))),
          );
    }
      where
        turned_there : (s : Spot) → LiesSo s → (y : State) → x ≡ Some y → LeadsTo code notes (turn y) (suc s.at)
        turned_there s l y e =
            let z : turned ≡ Some (turn y) = ap (option_map turn) e in
            leads_itself code notes (turn y) (suc s.at) (steady_turned (turn y) z).even
            (subst (λ u. slice_get notes.points (suc s.at) ≡ Some (point_of (option_map spot_of u))) z (led s l).here)

        landed : (s : Spot) (y : Option State) → If y P → MeetsAt code notes x (label s) → MeetsAt code notes y (label s)
        landed s None e m = tt
        landed s (Some z) e m = lands z (e z refl) (label s) m

        into : (s : Spot) (y : State) → turned ≡ Some y → MeetsAt code notes (option_map (tried (suc s.at)) turned) (suc (suc s.at)) →
            Meets code notes (tried (suc s.at) y) (suc (suc s.at))
        into s y e m = subst (λ z. MeetsAt code notes (option_map (tried (suc s.at)) z) (suc (suc s.at))) e m

        turned_meets : (y : State) → turned ≡ Some y → (i : ℕ) → MeetsAt code notes x i → Meets code notes y i
        turned_meets y e i m = from x meets y e m
          where
            from : (x : Option State) → If x (λ y. (i : ℕ) → Meets code notes y i → Meets code notes (turn y) i) → (y : State) →
                option_map turn x ≡ Some y → MeetsAt code notes x i → Meets code notes y i
            from None k y e m = absurd (none-some y e)
            from (Some z) k y e m = subst (λ u. Meets code notes u i) (same_Some (turn z) y e) (k z refl i m)
