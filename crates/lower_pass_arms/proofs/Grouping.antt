-- A group and its arms: `sync`, `race` and `rush`. One lemma an arm.
use Rattle.std.proofs.Common.{◌≡◌, ℕ, zero, suc, ◌+◌, ◌<◌, ◌≤◌, length, List, [], ◌∷◌, Option, Some, None, true, ◌⊎◌, inl, inr}
use Rattle.std.proofs.Common.{refl, sym, ◌∙◌, subst, ap, arith}
use Rattle.std.specs.Prelude.{option_map}
use Rattle.verse_base.specs.declared.places.Place.{Place}
use Rattle.verse_tree.specs.Tree.{Trees, no_trees, more_trees}
use Rattle.verse_code.specs.declared.codes.Code.{Code}
use Rattle.verse_code.specs.declared.operations.Op.TheVariants as o
use Rattle.verse_names_tables.specs.Names.{Table}
use Rattle.verse_sorts.specs.Sorts as s
use Rattle.verse_sorts.specs.Sorts.{Sort, Fits}
use Rattle.verse_sorts.specs.Typing.{fit_no, fit_so}
use Rattle.verse_sorts.proofs.Fitting.{fits_itself}
use Rattle.verse_sorts_values.specs.Operands as v
use Rattle.verse_meaning.specs.Programs.{Program}
use Rattle.verse_sound_rules.specs.Found as rules
use Rattle.verse_sound_rules.specs.Found.{Allowed}
use Rattle.verse_sound_rules.specs.Fine.{FineEach, sorts_at}
use Rattle.verse_verify_kept.specs.Notes.{Notes, parent_of}
use Rattle.verse_verify_kept.specs.Rules as r
use Rattle.verse_verify_kept.specs.Rules.{AnyNever, Arm, Arms, arms_no, arms_so, Grouped, sync_gives, race_gives, AllIn, in_no, in_so}
use Rattle.verse_verify_kept.specs.Rules.{Asked, no_local, MayWait}
use Rattle.lower_code.specs.Pieces as c
use Rattle.lower_code.specs.Pieces.{Spot, Item, sure, Piece, Maker, past, behind, later, arms_at, arms_spot}
use Rattle.lower_code.specs.Lowering as lower
use Rattle.lower_code.specs.declared.arounds.Around.{Around}
use Rattle.lower_code.specs.Scopes.{Scope}
use Rattle.lower_code.proofs.Standing as standing
use Rattle.lower_code.proofs.Standing.{ArmsLie, group_stands, behind_least, later_is}
use Rattle.lower_notes.specs.States.{State, in_arm, gives}
use Rattle.lower_notes.specs.Stretches as n
use Rattle.lower_notes.specs.Stretches.{Stretch, Walk, with_value, unreached, is_left}
use Rattle.lower_notes.specs.Laws.{Beside}
use Rattle.lower_notes.proofs.Counted as counted
use Rattle.lower_notes.proofs.Counted.{code_then, walk_then, walk_beside}
use Rattle.lower_pass_states.proofs.Points.{pt, Even, over, gives_is}
use Rattle.lower_pass_states.proofs.Meeting.{Meets, MeetsAt, Noted, AllSound}
use Rattle.lower_pass_states.proofs.Steps.{goes_over}
use Rattle.lower_pass_states.proofs.Operands.{sorts_same}
use Rattle.lower_pass_stretches.proofs.Going.{Way, If, itself, Lies, Within, within_less, Steady}
use Rattle.lower_pass_stretches.proofs.Going.{Going, tables, everywhere, behind_same, all_more}
use Rattle.lower_pass_stretches.proofs.Going.{first_lies, rest_lies, left_either}
use Rattle.lower_pass_stretches.proofs.Single.{IsValue}
use Rattle.lower_pass_stretches.proofs.Combined.{begins_so, if_map, jump_asked}
use Rattle.lower_pass_stretches.proofs.Inside.{Inside, steady_of}
use Rattle.lower_pass_forms.proofs.Applied.{noted_found}
use Rattle.lower_pass_forms.proofs.Finishing.{steady_over}
use Rattle.lower_pass_arms.proofs.Branching.{arm_led, Armed, tree_arm}

later_suc : (n a : ℕ) → suc (later n a) ≡ later n (suc a)
later_suc zero a = refl
later_suc (suc n) a = later_suc n (suc a)

behind_arms : (ls : List ℕ) (is : List Item) (a : ℕ) → behind (arms_at ls is) a ≡ behind is (later (length ls) a)
behind_arms [] is a = refl
behind_arms (l ∷ ls) is a = behind_arms ls is (suc a)

module _ (code : Code) (notes : Notes) where
  -- ---- the arms, one beside the other

  -- each arm is met where it begins
  abbrev pub Begun : Option State → List ℕ → List Sort → Type 0
  Begun x [] [] = Unit {0}
  Begun x [] (q ∷ qs) = ⊥
  Begun x (l ∷ ls) [] = ⊥
  Begun x (l ∷ ls) (q ∷ qs) = MeetsAt code notes (option_map (in_arm q) x) l × Begun x ls qs

  -- arms that begin at these places and give these, where the state at their group is x
  pub record Arming (w : Way) (x : Option State) (f : Maker) (g : Walk) (places : Spot → List ℕ) (qs : List Sort) : Type 0 where
    pub leaves : (s : Spot) → Lies code notes w s (f s) (g s.at x) → is_left 0 (g s.at x).left ≡ true → w.may_leave ≡ true
    pub goes : (s : Spot) → Lies code notes w s (f s) (g s.at x) → Begun x (places s) qs × AllSound code notes s.at (g s.at x).states

  pub no_arms : {w : Way} {x : Option State} → Arming w x c.nothing n.nothing (λ s. []) []
  no_arms = record { leaves = λ s l e. absurd (cc); goes = λ s l. (tt, tt) }

  module _ {w : Way} {x : Option State} {f h : Maker} {g j : Walk} {places : Spot → List ℕ} {qs : List Sort} (q : Sort)
      (beside : Beside f g) (first : Going code notes w [] (option_map (in_arm q) x) f g itself (λ z. ⊥))
      (rest : Arming w x h j places qs) where
    abbrev run : Spot → Stretch
    run s = g s.at (option_map (in_arm q) x)

    abbrev two : Spot → Piece
    two s = h (past s (f s))

    abbrev mid : Spot → ℕ
    mid s = behind (run s).states s.at

    same : (s : Spot) → mid s ≡ (past s (f s)).at
    same s = behind_same (run s).states (f s).items s.at (sym (beside.count s s.at (option_map (in_arm q) x)))

    abbrev both : Spot → Stretch
    both s = n.joined (run s) (j (mid s) x)

    abbrev whole : Spot → Piece
    whole s = c.joined (f s) (two s)

    now : (s : Spot) → Lies code notes w s (whole s) (both s) → Lies code notes w s (f s) (run s)
    now s l = first_lies code notes (f s) (two s) (run s) (j (mid s) x) l

    then_lies : (s : Spot) → Lies code notes w s (whole s) (both s) →
        Lies code notes w (past s (f s)) (two s) (j (past s (f s)).at x)
    then_lies s l = subst (λ i. Lies code notes w (past s (f s)) (two s) (j i x)) (same s)
        (rest_lies code notes (f s) (two s) (run s) (j (mid s) x) (same s) l)

    by_part : (s : Spot) → Lies code notes w s (whole s) (both s) →
        (is_left 0 (run s).left ≡ true) ⊎ (is_left 0 (j (mid s) x).left ≡ true) → w.may_leave ≡ true
    by_part s l (inl e) = first.leaves s (now s l) tt e
    by_part s l (inr e) = rest.leaves (past s (f s)) (then_lies s l) (subst (λ i. is_left 0 (j i x).left ≡ true) (same s) e)

    ended : (s : Spot) (y : Option State) → If y (λ z. ⊥) → MeetsAt code notes y (past s (f s)).at
    ended s None e = tt
    ended s (Some z) e = elim (e z refl) [ ]

    pub more_arms : Arming w x (code_then f h) (walk_beside (n.beginning (in_arm q) g) j) (λ s. s.at ∷ places (past s (f s))) (q ∷ qs)
    more_arms = record {
      leaves = λ s l e. by_part s l (left_either (run s).left (j (mid s) x).left e);
      goes = λ s l.
          let a = first.goes s (now s l) tt (ended s (run s).exit (first.exits s (now s l) tt)) in
          let b = rest.goes (past s (f s)) (then_lies s l) in (
            (a.0, b.0),
            all_more code notes (run s).states (j (mid s) x).states s.at a.1
                (subst (λ i. AllSound code notes (mid s) (j i x).states) (sym (same s))
                (subst (λ i. AllSound code notes i (j (past s (f s)).at x).states) (sym (same s)) b.1)),
          );
    }

  -- ---- what a group asks

  arms_led : (y : State) (i m : ℕ) (ls : List ℕ) (qs : List Sort) → ArmsLie code.ops (everywhere code notes) ls i →
      Begun (Some y) ls qs → length ls ≡ m → Arms code notes (pt y) i m ls qs ⊎ AnyNever y.locals
  arms_led y i zero [] [] h b e = inl arms_no
  arms_led y i (suc m) [] [] h b e = absurd (cc)
  arms_led y i m [] (q ∷ qs) h b e = elim b [ ]
  arms_led y i m (l ∷ ls) [] h b e = elim b [ ]
  arms_led y i zero (l ∷ ls) (q ∷ qs) h b e = absurd (cc)
  arms_led y i (suc m) (l ∷ ls) (q ∷ qs) h b e = two (arm_led code notes q y l b.0)
      (arms_led y (suc i) m ls qs h.1 b.1 (omega (arith, e)))
    where
      two : Arm code notes (pt y) l q ⊎ AnyNever y.locals → Arms code notes (pt y) (suc i) m ls qs ⊎ AnyNever y.locals →
          Arms code notes (pt y) i (suc m) (l ∷ ls) (q ∷ qs) ⊎ AnyNever y.locals
      two (inr k) u = inr k
      two (inl a) (inr k) = inr k
      two (inl a) (inl u) = inl (arms_so h.0.is a u)

  group_asked : (y : State) → Even y → MayWait code notes (pt y) → (kind m z : ℕ) → 2 ≤ m → (ls : List ℕ) (qs : List Sort) (u q : Sort) →
      Grouped code notes kind qs u → Fits (parent_of notes) u q → (i : ℕ) → ArmsLie code.ops (everywhere code notes) ls (suc i) →
      length ls ≡ m → Begun (Some y) ls qs → Meets code notes (over (q ∷ []) y) (suc i + m) →
      Asked code notes i (pt y) (o.Group kind m z)
  group_asked y even waits kind m z many ls qs u q gives fit i lie e b t = by_arms (arms_led y (suc i) m ls qs lie b e)
    where
      by_arms : Arms code notes (pt y) (suc i) m ls qs ⊎ AnyNever y.locals → Asked code notes i (pt y) (o.Group kind m z)
      by_arms (inr k) = no_local k
      by_arms (inl a) = goes_over code notes y even [] (q ∷ []) (u ∷ []) t (fit_so fit fit_no) (r.of_group waits many a gives)

  -- ---- the Arms are reached by no operation

  noted_behind : (m i : ℕ) (xs : List (Option State)) → Noted code notes i (unreached m xs) → Noted code notes (later m i) xs
  noted_behind zero i xs h = h
  noted_behind (suc m) i xs h = noted_behind m (suc i) xs h.1

  sound_before : (m i : ℕ) (xs : List (Option State)) → AllSound code notes (later m i) xs → AllSound code notes i (unreached m xs)
  sound_before zero i xs h = h
  sound_before (suc m) i xs h = (tt, sound_before m (suc i) xs h)

  value_is : (q : Sort) (x : Option State) → with_value q x (option_map (gives 0 q) x) ≡ option_map (gives 0 q) x
  value_is q None = refl
  value_is q (Some y) = refl

  -- Group; its Arms; Jump to behind them; the arms
  module _ {w : Way} {ts : List ℕ} {x : Option State} {f : Maker} {g : Walk} (kind m : ℕ) (pl : Place) (places : Spot → List ℕ)
      (qs : List Sort) (u q : Sort) (steady : If x (Steady code notes ts)) (waits : If x (λ y. MayWait code notes (pt y)))
      (two : 2 ≤ m) (many : (s : Spot) → length (places s) ≡ m) (gives_so : Grouped code notes kind qs u)
      (fit : Fits (parent_of notes) u q) (arms : Arming w x f g places qs) where
    abbrev group : Maker
    group = lower.grouped kind m pl places f

    abbrev all : Spot → Stretch
    all s = n.grouped m q g s.at x

    abbrev begin : Spot → Spot
    begin s = arms_spot m s

    abbrev part : Spot → Piece
    part s = f (begin s)

    abbrev states_of : Spot → Stretch
    states_of s = g (begin s).at x

    abbrev there : Option State
    there = option_map (gives 0 q) x

    group_lies : (s : Spot) → Lies code notes w s (group s) (all s) →
        standing.Grouped (tables code notes) (everywhere code notes) w.out s kind m pl (places (begin s)) (part s)
    group_lies s l = group_stands kind m pl places f (many (begin s)) l.stands

    behind_group : (s : Spot) → Lies code notes w s (group s) (all s) →
        Noted code notes (later m (suc s.at)) (there ∷ (states_of s).states)
    behind_group s l = noted_behind m (suc s.at) (there ∷ (states_of s).states) l.states.1

    arms_lies : (s : Spot) → Lies code notes w s (group s) (all s) → Lies code notes w (begin s) (part s) (states_of s)
    unfolding lower.grouped
    arms_lies s l = record {
      stands = (group_lies s l).inside;
      states = subst (λ i. Noted code notes i (states_of s).states) (later_suc m (suc s.at)) (behind_group s l).1;
      left = l.left;
      room = l.room;
    }

    abbrev end : Spot → ℕ
    end s = (past (begin s) (part s)).at

    end_is : (s : Spot) → (past s (group s)).at ≡ end s
    unfolding lower.grouped
    end_is s = behind_arms (places (begin s)) (sure (o.Jump (end s)) ∷ (part s).items) (suc s.at) ∙
        ap (λ k. behind (part s).items (suc (later k (suc s.at)))) (many (begin s)) ∙
        ap (λ i. behind (part s).items i) (later_suc m (suc s.at))

    order : (s : Spot) → (s.at < later m (suc s.at)) × (later m (suc s.at) < end s)
    order s = by (later m (suc s.at)) (later_is m (suc s.at)) (later_suc m (suc s.at)) (behind_least (part s).items (begin s).at)
      where
        by : (i : ℕ) → i ≡ m + suc s.at → suc i ≡ (begin s).at → (begin s).at ≤ end s → (s.at < i) × (i < end s)
        by i e k l = (omega (arith, e), omega (arith, k, l))

    steady_there : If there (Steady code notes ts)
    steady_there = if_map code notes (Steady code notes ts) (gives 0 q) x
        (λ y e. subst (Steady code notes ts) (sym (gives_is q y)) (steady_over code notes (q ∷ []) (steady y e)))

    first_asked : (s : Spot) → Lies code notes w s (group s) (all s) → MeetsAt code notes there (later m (suc s.at)) →
        If x (λ y. Asked code notes s.at (pt y) (o.Group kind m s.place))
    first_asked s l t y e = group_asked y (steady y e).even (waits y e) kind m s.place two (places (begin s)) qs u q gives_so fit s.at
        (group_lies s l).arms (many (begin s))
        (subst (λ z. Begun z (places (begin s)) qs) e (arms.goes (begin s) (arms_lies s l)).0)
        (subst (λ i. Meets code notes (over (q ∷ []) y) i) (place (later m (suc s.at)) (later_is m (suc s.at)))
        (subst (λ z. Meets code notes z (later m (suc s.at))) (gives_is q y)
        (subst (λ z. MeetsAt code notes (option_map (gives 0 q) z) (later m (suc s.at))) e t)))
      where
        place : (i : ℕ) → i ≡ m + suc s.at → i ≡ suc s.at + m
        place i e = omega (arith, e)

    pub group_goes : Going code notes w ts x group (n.grouped m q g) (with_value q x) (λ z. Unit {0})
    group_goes = record {
      leaves = λ s l v e. arms.leaves (begin s) (arms_lies s l) e;
      exits = λ s l v y e. tt;
      goes = λ s l v t.
          let landed = subst (λ i. MeetsAt code notes there i) (end_is s)
          (subst (λ z. MeetsAt code notes z (past s (group s)).at) (value_is q x) t) in
          let v1 = subst (λ i. Within code notes ts s.at i) (end_is s) v in
          let before = order s in
          let v2 : Within code notes ts (later m (suc s.at)) (end s) =
          within_less code notes ts v1 (omega (arith, before.0)) (omega arith) in
          let jump = begins_so code notes there steady_there v2 before.1 (group_lies s l).jump.is (behind_group s l).0
          (λ z e. jump_asked code notes z (later m (suc s.at)) (end s) (subst (λ z. MeetsAt code notes z (end s)) e landed)) in
          let first = begins_so code notes x steady v1 (omega (arith, before)) (group_lies s l).begins.is l.states.0
          (first_asked s l jump.0) in (
            first.0,
            (
              first.1,
              sound_before m (suc s.at) (there ∷ (states_of s).states) (
                jump.1,
                subst (λ i. AllSound code notes i (states_of s).states) (sym (later_suc m (suc s.at)))
                    (arms.goes (begin s) (arms_lies s l)).1,
              ),
            ),
          );
    }

-- each arm gives what the group gives
pub each_in : (p : Program) (found : rules.Found) (code : Code) (notes : Notes) (al : Allowed) (xs : Table) (q : Sort) (bs : Trees) →
    FineEach p (noted_found notes found) al xs q bs → AllIn code notes q (sorts_at p (noted_found notes found) bs)
each_in p found code notes al xs q no_trees h = in_no
each_in p found code notes al xs q (more_trees b bs) h = in_so h.1 (each_in p found code notes al xs q bs h.2)

module _ (found : rules.Found) (code : Code) (notes : Notes) (w : Way) (ts : List ℕ) (al : Allowed) (xs : Table) (sc : Scope) (a : Around)
    (x : Option State) (here : If x (Inside code notes found w ts al xs sc a)) (waits : al.waits ≡ true) where
  abbrev Fit : Sort → Sort → Type 0
  Fit = Fits (parent_of notes)

  -- one arm more before others
  pub task_goes : {f h : Maker} {g j : Walk} {places : Spot → List ℕ} {qs : List Sort} (q : Sort) → Beside f g →
      ((z : Option State) → If z (Armed found code notes w ts al xs sc a x here waits) →
      Going code notes w [] z f g itself (IsValue code notes q z)) → Arming code notes w x h j places qs →
      Arming code notes w x (code_then (code_then f (c.one o.ArmEnd)) h) (walk_beside (n.arm q g) j)
      (λ s. s.at ∷ places (past s (code_then f (c.one o.ArmEnd) s))) (q ∷ qs)
  task_goes q beside tree rest = more_arms code notes q (counted.both beside counted.just_ends)
      (tree_arm found code notes w ts al xs sc a x here waits q beside tree) rest

  module _ {f : Maker} {g : Walk} (m : ℕ) (pl : Place) (places : Spot → List ℕ) (qs : List Sort) (q : Sort) (two : 2 ≤ m)
      (many : (s : Spot) → length (places s) ≡ m) (arms : Arming code notes w x f g places qs) where
    steady : If x (Steady code notes ts)
    steady y e = steady_of code notes (here y e)

    -- `sync`
    pub sync_goes : Fit (s.tuple (v.sorts qs)) q →
        Going code notes w ts x (lower.grouped 0 m pl places f) (n.grouped m q g) (with_value q x) (λ z. Unit {0})
    sync_goes fit = group_goes code notes 0 m pl places qs (s.tuple (r.sorts qs)) q steady (λ y e. (here y e).waits waits) two many
        sync_gives (subst (λ k. Fit (s.tuple k) q) (sorts_same code notes qs) fit) arms

    -- `race` and `rush`
    pub race_goes : (k : ℕ) → AllIn code notes q qs →
        Going code notes w ts x (lower.grouped (suc k) m pl places f) (n.grouped m q g) (with_value q x) (λ z. Unit {0})
    race_goes k each = group_goes code notes (suc k) m pl places qs q q steady (λ y e. (here y e).waits waits) two many (race_gives each)
        (fits_itself (parent_of notes) q) arms
