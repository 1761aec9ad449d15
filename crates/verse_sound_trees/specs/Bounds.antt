-- What holds round the body of a task scope, by its role.
use Rattle.std.specs.Prelude.{◌≡◌, ℕ, Bool, true, false, List, [], ◌∷◌, Some, None}
use Rattle.verse_meaning_state.specs.Turns.{Kind, sync, race, rush}
use Rattle.verse_sorts.specs.Sorts as s
use Rattle.verse_sorts.specs.Sorts.{Sort, Fits}
use Rattle.verse_sorts.specs.Typing.{at, Typing, Is}
use Rattle.verse_sorts_values.specs.Operands.{sorts}
use Rattle.verse_meaning.specs.Programs.{Program}
use Rattle.verse_meaning.specs.Residuals.{Role, part, body, root, Arms, no_arms, gave, runs}
use Rattle.verse_sound_rules.specs.Found.{Found, Allowed}
use Rattle.verse_sound_trees.specs.Going.{LeftScope}

-- c says whether the scope may fail
abbrev pub MayFail : Role → (c : Bool) → Type 0
MayFail part c = ⊥
MayFail body c = c ≡ true
MayFail (root entry) c = ⊥

abbrev pub MayReturn : Role → Type 0
MayReturn part = ⊥
MayReturn body = Unit {0}
MayReturn (root entry) = Unit {0}

-- the entry of a spawned call gives what the call gives
abbrev pub EntryIs : Typing → Role → Sort → Type 0
EntryIs t part r = Unit {0}
EntryIs t body r = Unit {0}
EntryIs t (root None) r = Unit {0}
EntryIs t (root (Some i)) r = at t.entries i ≡ Some r

module _ (f : Found) where
  -- b is what the body is, r what the scope gives
  pub record Bounds (q : Role) (a : Allowed) (c : Bool) (b r : Sort) : Type 0 where
    pub fails : a.fails ≡ true → MayFail q c
    pub returns : (z : Sort) → a.result ≡ Some z → MayReturn q × Fits f.up z r
    pub breaks : a.breaks ≡ true → ⊥
    pub value : Fits f.up b r

  -- the arms of a group, by what each gives
  abbrev pub ArmsAre : (p : Program) → ℕ → Typing → Arms → List Sort → Type 0
  ArmsAre p n t no_arms [] = Unit {0}
  ArmsAre p n t (gave w gs) (q ∷ qs) = Is f.up t w q × ArmsAre p n t gs qs
  ArmsAre p n t (runs x gs) (q ∷ qs) = LeftScope p f n t false q x × ArmsAre p n t gs qs
  ArmsAre p n t gs qs = ⊥

  abbrev pub EachFits : List Sort → Sort → Type 0
  EachFits [] r = Unit {0}
  EachFits (q ∷ qs) r = Fits f.up q r × EachFits qs r

  -- what a group gives
  abbrev pub GroupGives : Kind → List Sort → Sort → Type 0
  GroupGives sync qs r = Fits f.up (s.tuple (sorts qs)) r
  GroupGives race qs r = EachFits qs r
  GroupGives rush qs r = EachFits qs r
