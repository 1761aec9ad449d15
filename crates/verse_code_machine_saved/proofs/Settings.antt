-- What holds of a run and of one that is behind it: of their states, of their waits, and of what stands beside a task.
use Rattle.std.proofs.Common.{◌≡◌, ℕ, suc, ◌≤◌, List, [], ◌∷◌, ◌++◌, Some, Bool, refl, arith}
use Rattle.std.proofs.lemmas.Bool.{cond_both}
use Rattle.verse_value.specs.Val.{Val}
use Rattle.verse_value.specs.declared.runs.Ending.{Ending}
use Rattle.verse_meaning_state.specs.State.{State, Memory, stepped, drawn, restored, with_result, signalled, with_entry}
use Rattle.verse_meaning_state.specs.Waits.{Wait, Cause, waiting}
use Rattle.verse_code_machine.specs.Tasks.{Rest, asleep, group, Task, Up, begins, branching, spawning, clearing, Trees, World, world, Step}
use Rattle.verse_code_machine.specs.Tasks.{Next}
use Rattle.verse_code_machine.specs.Tasks.{Over, Turn, onto}
use Rattle.verse_code_machine.specs.Cancelling.{without}
use Rattle.verse_code_machine.specs.Runs.{Forest}
use Rattle.verse_code_machine_saved.specs.Numbers.{Prior, Rises, Fixed, Counts, state_as, step_as}
use Rattle.verse_code_machine_saved.proofs.Numbers.{IsApart, RisesAt, rising_apart}

-- whatever a state comes to within a turn, the property is kept
pub record Keeping (P : State → Type 0) : Type 0 where
  pub steps : (l : ℕ) (s : State) → suc l ≡ s.clock.left → P s → P (stepped l s)
  pub draws : (s : State) → P s → P (drawn s)
  pub memory : (m : Memory) (s : State) → P s → P (restored m s)
  pub result : (e : ℕ) (v : Val) (s : State) → P s → P (with_result (Some e) v s)
  pub signal : (e : ℕ) (v : Val) (s : State) → P s → P (signalled e v s)
  pub entry : (s : State) → P s → P (with_entry s)

-- the other run, and what is said of this one's states and waits
pub record Setting : Type 1 where
  pub prior : Prior
  pub bound : ℕ
  pub apart : IsApart prior.numbers
  -- beneath the paths of tasks that run numbers keep their order
  pub IsPath : List ℕ → Type 0
  pub rises : (a : List ℕ) → IsPath a → RisesAt prior.numbers a
  pub fixed : Fixed prior.numbers bound
  pub Holds : State → Type 0
  pub keeps : Keeping Holds
  pub IsWait : Wait → Type 0
  pub new : (c : Cause) (s : State) → Holds s → IsWait (waiting c s)

module _ (k : Setting) where
  abbrev pub S : State → State
  S = state_as k.prior

  pub record Is (s : State) : Type 0 where
    pub few : s.clock.left ≤ k.bound
    pub counts : Counts k.prior s
    pub holds : k.Holds s

  pub steps_is : (l : ℕ) (s : State) → suc l ≡ s.clock.left → Is s → Is (stepped l s)
  steps_is l s e h = let few = h.few in record { few = omega (arith, e, few); counts = h.counts; holds = k.keeps.steps l s e h.holds }

  pub draws_is : (s : State) → Is s → Is (drawn s)
  draws_is s h = record { few = h.few; counts = h.counts; holds = k.keeps.draws s h.holds }

  pub memory_is : (m : Memory) (s : State) → Is s → Is (restored m s)
  memory_is m s h = record { few = h.few; counts = h.counts; holds = k.keeps.memory m s h.holds }

  pub result_is : (e : ℕ) (v : Val) (s : State) → Is s → Is (with_result (Some e) v s)
  result_is e v s h = record { few = h.few; counts = h.counts; holds = k.keeps.result e v s h.holds }

  pub signal_is : (e : ℕ) (v : Val) (s : State) → Is s → Is (signalled e v s)
  signal_is e v s h = record { few = h.few; counts = h.counts; holds = k.keeps.signal e v s h.holds }

  pub entry_is : (s : State) → Is s → Is (with_entry s)
  entry_is s h = record { few = h.few; counts = h.counts; holds = k.keeps.entry s h.holds }

  abbrev pub RestIs : Rest → Type 0
  RestIs (asleep w) = k.IsWait w
  RestIs (group d p gs) = Unit {0}

  abbrev pub TasksAre : List Task → Type 0
  TasksAre [] = Unit {0}
  TasksAre (t ∷ ts) = RestIs t.rest × TasksAre ts

  abbrev pub TreesAre : Forest → Type 0
  TreesAre [] = Unit {0}
  TreesAre (ts ∷ tss) = TasksAre ts × TreesAre tss

  abbrev pub UpIs : Up → Type 0
  UpIs (begins x d p gs n ls) = Unit {0}
  UpIs (branching x) = Unit {0}
  UpIs (spawning x entry ps qs) = TasksAre ps × TasksAre qs
  UpIs (clearing a ts) = Unit {0}

  abbrev pub UpsAre : List Up → Type 0
  UpsAre [] = Unit {0}
  UpsAre (u ∷ us) = UpIs u × UpsAre us

  pub record WorldIs (o : World) : Type 0 where
    pub pre : TasksAre o.pre
    pub post : TasksAre o.post
    pub ups : UpsAre o.ups
    pub before : TreesAre o.trees.before
    pub behind : TreesAre o.trees.behind

  abbrev pub Others : List Task → List Task → List Up → Trees → Type 0
  Others pre post us trees = WorldIs (world pre post us trees)

  pub others : {pre post : List Task} {us : List Up} {trees : Trees} → TasksAre pre → TasksAre post → UpsAre us → TreesAre trees.before →
      TreesAre trees.behind → Others pre post us trees
  others a b c d e = record { pre = a; post = b; ups = c; before = d; behind = e }

  abbrev pub StepIs : Step → Type 0
  StepIs (Next m) = Is m.state × WorldIs m.world
  StepIs (Over e s) = Unit {0}
  StepIs (Turn s tss) = Is s × TreesAre tss

  -- a step of this run, and that of the other
  pub record Same (q p : Step) : Type 0 where
    pub is : p ≡ step_as k.prior q
    pub holds : StepIs q

  pub over : {e : Ending} {s : State} → Same (Over e s) (Over e (S s))
  over = record { is = refl; holds = tt }

  pub onto_are : (xs ts : List Task) → TasksAre xs → TasksAre ts → TasksAre (onto xs ts)
  onto_are [] ts a b = b
  onto_are (x ∷ xs) ts a b = onto_are xs (x ∷ ts) a.1 (a.0, b)

  pub trees_are : (xs ts : Forest) → TreesAre xs → TreesAre ts → TreesAre (xs ++ ts)
  trees_are [] ts a b = b
  trees_are (x ∷ xs) ts a b = (a.0, trees_are xs ts a.1 b)

  pub without_are : (f : List ℕ → Bool) (ts : List Task) → TasksAre ts → TasksAre (without f ts)
  without_are f [] a = a
  without_are f (t ∷ ts) a =
      cond_both (f t.thread.who.path) (without f ts) (t ∷ without f ts) TasksAre (λ e. without_are f ts a.1) (λ e. (
        a.0,
        without_are f ts a.1,
      ))

-- where each wait is such a one
module _ (k : Setting) (all : (w : Wait) → k.IsWait w) where
  all_rest : (q : Rest) → RestIs k q
  all_rest (asleep w) = all w
  all_rest (group d p gs) = tt

  all_tasks : (ts : List Task) → TasksAre k ts
  all_tasks [] = tt
  all_tasks (t ∷ ts) = (all_rest t.rest, all_tasks ts)

  pub all_trees : (tss : Forest) → TreesAre k tss
  all_trees [] = tt
  all_trees (ts ∷ tss) = (all_tasks ts, all_trees tss)

  all_ups : (us : List Up) → UpsAre k us
  all_ups [] = tt
  all_ups (begins x d p gs n ls ∷ us) = (tt, all_ups us)
  all_ups (branching x ∷ us) = (tt, all_ups us)
  all_ups (spawning x entry ps qs ∷ us) = ((all_tasks ps, all_tasks qs), all_ups us)
  all_ups (clearing a ts ∷ us) = (tt, all_ups us)

  pub all_world : (o : World) → WorldIs k o
  all_world o = others k (all_tasks o.pre) (all_tasks o.post) (all_ups o.ups) (all_trees o.trees.before) (all_trees o.trees.behind)

-- nothing is said of states and waits
abbrev pub plain : (z : Prior) (bound : ℕ) → Rises z.numbers → Fixed z.numbers bound → Setting
plain z bound rises fixed = record {
  prior = z;
  bound = bound;
  apart = rising_apart z.numbers rises;
  IsPath = λ a. Unit {0};
  rises = λ a e. rises a;
  fixed = fixed;
  Holds = λ s. Unit {0};
  keeps = record {
    steps = λ l s e h. tt;
    draws = λ s h. tt;
    memory = λ m s h. tt;
    result = λ e v s h. tt;
    signal = λ e v s h. tt;
    entry = λ s h. tt;
  };
  IsWait = λ w. Unit {0};
  new = λ c s h. tt;
}
