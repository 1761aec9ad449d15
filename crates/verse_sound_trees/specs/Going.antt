-- What is left of an evaluation goes on well for so many turns.
use Rattle.std.specs.Prelude.{◌≡◌, ◌<◌, ◌≤◌, ℕ, zero, suc, Bool, true, false, List, [], ◌∷◌, Option}
use Rattle.std.specs.Prelude.{Some, None, ◌⊎◌}
use Rattle.verse_value.specs.Val.{Val}
use Rattle.verse_meaning_state.specs.Waits.{has}
use Rattle.verse_sorts.specs.Sorts.{Sort}
use Rattle.verse_sorts.specs.Typing.{at, Typing, Grows, Is}
use Rattle.verse_meaning.specs.Programs.{Program}
use Rattle.verse_meaning.specs.Residuals.{Env, Residual, leaves, Scope, Scopes, none, also}
use Rattle.verse_meaning.specs.Residuals.{scope_leaves}
use Rattle.verse_meaning.specs.Outcomes.{World, Outcome, TaskOutcome, Went}
use Rattle.verse_meaning.specs.Evaluating.{cancel_kids, cancel_own, cancel_scope_kids}
use Rattle.verse_meaning.specs.Evaluating.{cancel_scope_own}
use Rattle.verse_meaning.specs.Resuming.{resume, resume_scope}
use Rattle.verse_meaning.specs.Runs.{deeper}
use Rattle.verse_sound_rules.specs.Found.{Found, Allowed}
use Rattle.verse_sound_trees.specs.Outcomes.{any_names, Cells, WentWell, Typed, TypedTask}
use Rattle.verse_sound_trees.specs.Waiting.{Clocked, WaitsOf}

-- how much is said: of memory alone, where nothing may wait, or for so many turns
pub data Level : Type 0 where
  bare : Level
  turns : ℕ → Level

abbrev pub Ready : Level → (waits : Bool) → Type 0
Ready bare m = m ≡ false
Ready (turns n) m = Unit {0}

-- what is shown before a level and a depth: fewer turns at every depth, and as many at no greater
-- depth
abbrev pub Within : Level → ℕ → Level → ℕ → Type 0
Within bare fuel bare g = g ≤ fuel
Within bare fuel (turns m) g = ⊥
Within (turns n) fuel bare g = Unit {0}
Within (turns n) fuel (turns m) g = (m < n) ⊎ ((m ≡ n) × (g ≤ fuel))

-- scopes that are behind, and tasks of the forest
module _ (Each : Scope → Type 0) where
  abbrev pub AllBehind : Scopes → Type 0
  AllBehind none = Unit {0}
  AllBehind (also q bs) = Each q × AllBehind bs

  abbrev pub AllTasks : List (Option Scope) → Type 0
  AllTasks [] = Unit {0}
  AllTasks (None ∷ qs) = AllTasks qs
  AllTasks (Some q ∷ qs) = Each q × AllTasks qs

-- of a scope whose value is dropped, and which cannot fail
abbrev pub Dropped : (Typing → Bool → Sort → Scope → Type 0) → Typing → Scope → Type 0
Dropped L t q = (b : Sort) × L t false b q

module _ (p : Program) (f : Found) where
  -- at every depth, from memory that is kept, to memory that is kept
  abbrev pub Undoes : (ℕ → World → Went) → Typing → Type 0
  Undoes go t = (u : Typing) (fuel : ℕ) (w : World) → Grows t u → Cells f u w →
      WentWell f u (go fuel w)

  abbrev pub Cancels : Typing → Residual → Type 0
  Cancels t r = Undoes (λ k w. cancel_kids p (deeper p k) r w) t ×
      Undoes (λ k w. cancel_own p (deeper p k) r w) t

  abbrev pub CancelsScope : Typing → Scope → Type 0
  CancelsScope t q = Undoes (λ k w. cancel_scope_kids p (deeper p k) q w) t ×
      Undoes (λ k w. cancel_scope_own p (deeper p k) q w) t

  -- a world between two turns, where what is suspended is L
  pub record KeptIn (L : Typing → Bool → Sort → Scope → Type 0) (t : Typing) (w : World) :
      Type 0 where
    pub cells : Cells f t w
    pub clock : Clocked f.up t w.state.clock
    pub behind : AllBehind (Dropped L t) w.behind
    pub tasks : AllTasks (Dropped L t) w.tasks

  -- It can be cancelled, and its waits are of their sorts. Behind a wait that is woken with a value
  -- of its sort stands an outcome of the sort, what is left of which goes on well for a turn less.
  abbrev mutual
    pub Left : ℕ → Typing → Allowed → Sort → Residual → Type 0
    Left zero u a b r = Cancels u r × WaitsOf f.up u (leaves r)
    Left (suc n) u a b r = Left n u a b r ×
        ((o : Typing) (fuel i : ℕ) (x : Val) (c : Sort) (w : World) → Grows u o →
        at o.waits i ≡ Some c → Is f.up o x c → has i (leaves r) ≡ true → KeptIn (LeftScope n) o w →
        Typed f (KeptIn (LeftScope n)) (Left n) any_names o a b (resume p (deeper p fuel) r i x w))

    pub LeftScope : ℕ → Typing → Bool → Sort → Scope → Type 0
    LeftScope zero u c b q = CancelsScope u q × WaitsOf f.up u (scope_leaves q)
    LeftScope (suc n) u c b q = LeftScope n u c b q ×
        ((o : Typing) (fuel i : ℕ) (x : Val) (d : Sort) (w : World) → Grows u o →
        at o.waits i ≡ Some d → Is f.up o x d → has i (scope_leaves q) ≡ true →
        KeptIn (LeftScope n) o w → TypedTask f (KeptIn (LeftScope n)) (LeftScope n) o c true b
        (resume_scope p (deeper p fuel) q i x w))

  abbrev pub Kept : Level → Typing → World → Type 0
  Kept bare = Cells f
  Kept (turns n) = KeptIn (LeftScope n)

  abbrev pub LeftAt : Level → Typing → Allowed → Sort → Residual → Type 0
  LeftAt bare u a b r = ⊥
  LeftAt (turns n) u a b r = Left n u a b r

  abbrev pub ScopeAt : Level → Typing → Bool → Sort → Scope → Type 0
  ScopeAt bare u c b q = ⊥
  ScopeAt (turns n) u c b q = LeftScope n u c b q

  abbrev pub Comes : Level → (Typing → Env → Type 0) → Typing → Allowed → Sort → Outcome → Type 0
  Comes l E t a b x = Typed f (Kept l) (LeftAt l) E t a b x

  abbrev pub ComesTask : Level → Typing → (fails waits : Bool) → Sort → TaskOutcome → Type 0
  ComesTask l t c m b x = TypedTask f (Kept l) (ScopeAt l) t c m b x
