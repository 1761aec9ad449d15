-- What the outcome of an expression means for a machine at its code.
use Rattle.std.proofs.Common.{◌≡◌, ℕ, zero, suc, ◌-◌, ◌≤◌, ◌<◌, List, [], ◌∷◌, ◌++◌, length, Option, Some, Bool, true, false}
use Rattle.std.specs.Prelude.{slice_get}
use Rattle.lower_simulation.specs.Seen.{Seen, broke_off, seen_of}
use Rattle.lower_code.specs.Scopes.{constant_at, variable_at, hidden, Scope as Names}
use Rattle.verse_tree.specs.Tree.{Bytes}
use Rattle.verse_code.specs.declared.operations.Op.{Op}
use Rattle.verse_code.specs.declared.operations.Op.TheVariants as op
use Rattle.verse_code.specs.declared.codes.Code.{Code}
use Rattle.verse_value.specs.Val.{Val, unit, object}
use Rattle.verse_value.specs.Val as m1
use Rattle.verse_value.specs.declared.runs.Ending.TheVariants as ending
use Rattle.verse_meaning_state.specs.State.{State}
use Rattle.verse_meaning_state.specs.Waits.{Wait, has, nth}
use Rattle.verse_meaning_state.specs.Turns.{going, turns}
use Rattle.verse_meaning.specs.Programs.{Program}
use Rattle.verse_meaning.specs.Residuals.{Env, Binding, constant, variable, Residual, Scope, Scopes, leaves, scope_leaves, and_then}
use Rattle.verse_meaning.specs.Outcomes.{World, world, Went, went, quits, went_on, Halt, fault, out, jammed, wrong, Outcome, value, failed}
use Rattle.verse_meaning.specs.Outcomes.{returned, broke, halted, rests, TaskOutcome, ends, lost, stops, sleeps}
use Rattle.verse_meaning.specs.Evaluating.{cancel_kids, cancel_own, cancel_scope_kids, cancel_scope_own}
use Rattle.verse_meaning.specs.Resuming.{resume, resume_scope}
use Rattle.verse_meaning.specs.Runs.{deeper}
use Rattle.verse_code_machine.specs.Tasks.{Life, life_from, Note, Handler, Frame, Who, Role, Task, After, clearing, Up, Trees, Machine}
use Rattle.verse_code_machine.specs.Tasks.{Step, Next, Over, Turn, machine, root_named, child_named, onto, planted, among, waits_of}
use Rattle.verse_code_machine.specs.Tasks.{tree_waits, starts, same_path}
use Rattle.verse_code_machine.specs.Tasks as mt
use Rattle.verse_code_machine.specs.Frames.{fits, failing, free}
use Rattle.verse_code_machine.specs.Cancelling.{clears, clears_frames}
use Rattle.verse_code_machine.specs.Ends.{rested, woken, climbs, follows}
use Rattle.verse_code_machine.specs.Runs.{carried, turn_taken}
use Rattle.verse_code_machine.specs.Laws.{IsWhole}
use Rattle.lower_simulation.proofs.Paths.{Each, ordered}

-- ---- runs

-- what is fixed for a run
pub record Setting : Type 0 where
  pub program : Program
  pub code : Code
  pub steps : ℕ
  pub until : ℕ

-- what a run comes to in so many more turns
pub record Goal : Type 0 where
  pub turns : ℕ
  pub seen : Seen

abbrev pub Agree : Setting → Goal → Step → Type 0
Agree z g (Next m) = ⊥
Agree z g (Over e s) = broke_off e s ≡ g.seen
Agree z g (Turn s tss) = ((i : ℕ) → IsWhole (turns (turn_taken z.code z.steps z.until) i (going s tss))) →
    seen_of tree_waits (turns (turn_taken z.code z.steps z.until) g.turns (going s tss)) ≡ g.seen

-- the machine comes from the step q to what is seen
pub record Ends (z : Setting) (q : Step) (g : Goal) : Type 0 where
  pub fuel : ℕ
  pub good : Agree z g (carried z.code fuel q)

-- ---- names and locals

-- locals that are to stay, with what they hold
abbrev pub Locals : Type 0
Locals = List (ℕ × Val)

abbrev pub Holds : Locals → List Val → Type 0
Holds [] ls = Unit {0}
Holds (x ∷ ks) ls = (nth ls x.0 ≡ Some x.1) × Holds ks ls

-- the locals of a frame: those that stay with a name, others that stay, and how many there are
pub record Held : Type 0 where
  pub held : Locals
  pub also : Locals
  pub size : ℕ

abbrev pub Agrees : Held → List Val → Type 0
Agrees ss ls = Holds ss.held ls × (Holds ss.also ls × (length ls ≡ ss.size))

-- all are below the first free one
abbrev pub Low : ℕ → Locals → Type 0
Low n [] = Unit {0}
Low n (x ∷ ks) = (x.0 < n) × Low n ks

pub data In (l : ℕ) (v : Val) : Locals → Type 0 where
  first_in : {ks : Locals} → In l v ((l, v) ∷ ks)
  later_in : {x : ℕ × Val} {ks : Locals} → In l v ks → In l v (x ∷ ks)

-- a name's local holds its value, or the cell of the variable
pub record Is_constant (x : Bytes) (b : Binding) (l : ℕ) (ks : Locals) : Type 0 where
  pub holds : Val
  pub is : b ≡ record { name = x; bound = constant holds }
  pub held : In l holds ks

pub record Is_variable (x : Bytes) (b : Binding) (l : ℕ) (ks : Locals) : Type 0 where
  pub cell : ℕ
  pub is : b ≡ record { name = x; bound = variable cell }
  pub held : In l (object cell) ks

-- the local of a slot is the number of those behind it
abbrev pub Fits : Names → Env → Locals → Type 0
Fits [] [] ks = Unit {0}
Fits [] (b ∷ e) ks = ⊥
Fits (hidden ∷ ss) e ks = Fits ss e ks
Fits (constant_at x ∷ ss) [] ks = ⊥
Fits (constant_at x ∷ ss) (b ∷ e) ks = Is_constant x b (length ss) ks × Fits ss e ks
Fits (variable_at x ∷ ss) [] ks = ⊥
Fits (variable_at x ∷ ss) (b ∷ e) ks = Is_variable x b (length ss) ks × Fits ss e ks

-- ---- where the running task is

-- how a loop is left: the operation behind its Drops, how many these are, and how many blocks were deferred where it began; without a
-- loop, how many were deferred where the scope, the attempt or the deferred block began
pub data Exit : Type 0 where
  no_loop : (kept : ℕ) → Exit
  loop_at : (label drops kept : ℕ) → Exit

-- how a `return` ends: the frame returns; or not at all, within an attempt or a deferred block that began with so many blocks deferred
pub data Leave : Type 0 where
  with_return : Leave
  no_return : (kept : ℕ) → Leave

-- what the running task keeps while an expression is evaluated
pub record Ctx : Type 0 where
  pub env : Env
  -- locals that stay, and how many locals the frame has
  pub held : Locals
  -- others that stay, for which no name stands
  pub also : Locals
  pub size : ℕ
  pub who : Who
  pub life : Life
  pub handlers : List Handler
  pub below : List Frame
  -- the operands of the innermost loop
  pub base : List Val
  pub exit : Exit
  pub leave : Leave

-- the other tasks; none is beneath a child of the running task with a number below `own`
pub record Around : Type 0 where
  pub world : mt.World
  pub own : ℕ

abbrev pub world_of : (pre post : List Task) → List Up → Trees → ℕ → Around
world_of pre post up rs q = record { world = mt.world pre post up rs; own = q }

abbrev pub around : (pre post : List Task) → Trees → ℕ → Around
around pre post rs q = world_of pre post [] rs q

abbrev pub slots : Ctx → Held
slots c = record { held = c.held; also = c.also; size = c.size }

abbrev pub at : Ctx → Around → State → List Val → List Val → ℕ → Step
at c o s ls st pc = Next (machine c.who o.world s c.life ls st pc c.handlers c.below)

-- the first frame of a task, or one above others
abbrev pub in_frame : Env → Held → Who → ℕ → List Frame → Ctx
in_frame e ss w g bl = record {
  env = e;
  held = ss.held;
  also = ss.also;
  size = ss.size;
  who = w;
  life = life_from g;
  handlers = [];
  below = bl;
  base = [];
  exit = no_loop 0;
  leave = with_return;
}

abbrev pub frame_of : Ctx → List Val → List Val → ℕ → Frame
frame_of c ls st p = record { life = c.life; locals = ls; stack = st; place = p; handlers = c.handlers }

abbrev pub rooted_at : Around → Trees → Around
rooted_at o rs = record { world = mt.world o.world.pre o.world.post o.world.ups rs; own = o.own }

-- where a task k was left behind, with its tasks
abbrev pub lefts : Around → ℕ → List Task → Around
lefts o k ts = record { world = mt.world (onto ts o.world.pre) o.world.post o.world.ups o.world.trees; own = k }

-- where a task of its own was suspended, with its tasks
abbrev pub forks : Around → List Task → Around
forks o ts = rooted_at o (planted o.world.trees ts)

-- not beneath a child of a with a number below q
abbrev pub Clear : List ℕ → ℕ → Task → Type 0
Clear a q t = (k : ℕ) → k < q → starts (a ++ k ∷ []) t.thread.who.path ≡ false

abbrev pub Beneath : List ℕ → Task → Type 0
Beneath a x = starts a x.thread.who.path ≡ true

abbrev pub Beside : List ℕ → Task → Type 0
Beside a x = starts a x.thread.who.path ≡ false

-- beneath a, and not a itself
abbrev pub Strict : List ℕ → Task → Type 0
Strict a x = (starts a x.thread.who.path ≡ true) × (same_path a x.thread.who.path ≡ false)

pub record Apart (a : List ℕ) (o : Around) : Type 0 where
  pub pre : Each (Clear a o.own) o.world.pre
  pub post : Each (Clear a o.own) o.world.post

-- what holds wherever the task is, with at most n steps
pub record Fine (n : ℕ) (a : List ℕ) (o : Around) (s : State) : Type 0 where
  pub steps : s.clock.left ≤ n
  pub low : s.clock.left ≤ o.own
  pub apart : Apart a o

-- what holds wherever an expression has been evaluated
pub record Good (n : ℕ) (a : List ℕ) (o : Around) (held also : Locals) (size : ℕ) (s : State) (ls : List Val) : Type 0 where
  pub holds : Holds held ls
  pub besides : Holds also ls
  pub sized : length ls ≡ size
  pub fine : Fine n a o s

-- not beneath a child of a with a number from q on
abbrev pub Young : List ℕ → ℕ → Task → Type 0
Young a q t = (k : ℕ) → q ≤ k → starts (a ++ k ∷ []) t.thread.who.path ≡ false

-- the tasks of a task of the name a that is suspended, with itself; its children have numbers below q
pub record Keeps (a : List ℕ) (q : ℕ) (ws : List Wait) (ts : List Task) : Type 0 where
  pub waits : waits_of ts ≡ ws
  pub beneath : Each (Beneath a) ts
  pub young : Each (Young a q) ts
  -- a child behind, of a number from q on, may end
  pub heeds : (k : ℕ) → q ≤ k → (v : Val) (s : State) (pre post : List Task) (rs : Trees) →
      climbs a k v pre (ts ++ post) rs s ≡ Turn s (among (onto pre (ts ++ post)) rs)

-- ---- where a value goes: the place behind the expression, the operands beneath, how the value lies on them, and what is visible there
pub data Lies : Type 0 where
  -- on top
  pushed : Lies
  -- nowhere
  dropped : Lies
  -- a pair as two operands
  spread : Lies

abbrev pub spread_on : Val → List Val → List Val
spread_on (m1.tuple (m1.more_vals a (m1.more_vals b m1.no_vals))) st = b ∷ a ∷ st
spread_on v st = v ∷ st

abbrev pub laid : Lies → Val → List Val → List Val
laid pushed v st = v ∷ st
laid dropped v st = st
laid spread v st = spread_on v st

-- a value that is laid as two
abbrev pub Pair : Val → Type 0
Pair (m1.tuple (m1.more_vals a (m1.more_vals b m1.no_vals))) = Unit {0}
Pair v = ⊥

-- what is known besides: nothing; the names behind statements; in which local the value stands
pub data Shown : Type 0 where
  plainly : Shown
  named_by : Names → Shown
  -- with other locals that stay
  stored_in : ℕ → Locals → Shown
  -- nothing, but that other locals stay
  keeping : Locals → Shown
  -- the names are those of an environment
  of_env : Env → Shown
  -- the value is a pair; and the names are those of an environment
  paired : Shown
  paired_env : Env → Shown

pub record Target : Type 0 where
  pub place : ℕ
  pub stack : List Val
  pub lies : Lies
  pub shown : Shown

abbrev pub on : ℕ → List Val → Target
on p st = record { place = p; stack = st; lies = pushed; shown = plainly }

-- more is held, for more names
pub record Shows (ss : Names) (held : Locals) (e : Env) (ls : List Val) : Type 0 where
  pub more : Locals
  pub fits : Fits ss e (more ++ held)
  pub low : Low (length ss) (more ++ held)
  pub holds : Holds (more ++ held) ls

abbrev pub Binds : Shown → Locals → Env → Val → List Val → Type 0
Binds plainly held e v ls = Unit {0}
Binds (named_by ss) held e v ls = Shows ss held e ls
Binds (keeping also) held e v ls = Holds also ls
Binds (of_env e1) held e v ls = e ≡ e1
Binds paired held e v ls = Pair v
Binds (paired_env e1) held e v ls = (e ≡ e1) × Pair v
Binds (stored_in l also) held e v ls = (nth ls l ≡ Some v) × Holds also ls

-- where the innermost loop of a stretch of code goes on, and how many Drops stand before that
pub record Way : Type 0 where
  pub label : ℕ
  pub most : ℕ

-- ---- operations

-- an operation at a, behind which the frame may go on at b
pub record Goes_on (z : Setting) (ok : ℕ → Bool) (a b : ℕ) (x : Op) : Type 0 where
  pub is : slice_get z.code.ops a ≡ Some x
  pub fit : ok b ≡ true

pub record Here (c : Code) (a : ℕ) (x : Op) : Type 0 where
  pub is : slice_get c.ops a ≡ Some x

-- that many operands lie on those of the innermost loop
abbrev pub Above : ℕ → List Val → List Val → Type 0
Above zero st base = st ≡ base
Above (suc d) [] base = ⊥
Above (suc d) (v ∷ st) base = Above d st base

-- behind the Leave of a `return`: the frame returns, or the code is stuck
abbrev pub Finishes : Setting → Leave → (a : ℕ) → Type 0
Finishes z with_return a = Here z.code a op.Return
Finishes z (no_return kept) a = (l : ℕ) × Here z.code a (op.Arm l)

-- how many deferred blocks a `return` leaves to those around
abbrev pub left_at : Leave → ℕ
left_at with_return = 0
left_at (no_return kept) = kept

-- where a `return` has its value: before the Leave, or behind it where no block is to be left
pub data Returns (z : Setting) (hs : List Handler) (g : Life) (x : Leave) (a : ℕ) : Type 0 where
  return_leaves : fits hs a ≡ true → fits hs (suc a) ≡ true → Here z.code a (op.Leave (left_at x)) → Finishes z x (suc a) →
      Returns z hs g x a
  return_now : length g.defers ≤ left_at x → Finishes z x a → Returns z hs g x a

-- behind the Leave of a `break`: with d operands above the loop's, to the d-th last Drop; without a loop the code is stuck
abbrev pub Onwards : Setting → Exit → List Val → (a : ℕ) → List Val → Type 0
Onwards z (no_loop kept) base a stk = (l : ℕ) × Here z.code a (op.Arm l)
Onwards z (loop_at label drops kept) base a stk = (d : ℕ) × (d ≤ drops) × Above d stk base × Here z.code a (op.Jump (label - d))

-- how many deferred blocks a `break` leaves to those around
abbrev pub kept_at : Exit → ℕ
kept_at (no_loop kept) = kept
kept_at (loop_at label drops kept) = kept

-- where a `break` stands: before the Leave, or behind it where no block is to be left
pub data Breaks (z : Setting) (hs : List Handler) (g : Life) (x : Exit) (base : List Val) (a : ℕ) (stk : List Val) : Type 0 where
  break_leaves : fits hs a ≡ true → fits hs (suc a) ≡ true → Here z.code a (op.Leave (kept_at x)) → Onwards z x base (suc a) stk →
      Breaks z hs g x base a stk
  break_now : length g.defers ≤ kept_at x → Onwards z x base a stk → Breaks z hs g x base a stk

-- ---- what cancelling comes to

abbrev pub GoesHalt : Goal → Halt → Type 0
GoesHalt g (fault k p s) = broke_off (ending.Error k p) s ≡ g.seen
GoesHalt g (out s) = broke_off ending.Steps s ≡ g.seen
GoesHalt g (jammed s) = broke_off ending.Stuck s ≡ g.seen
GoesHalt g (wrong s) = broke_off ending.Stuck s ≡ g.seen

-- what follows where cancelling, or a deferred block, has come to x
abbrev pub Gone : Went → World → (World → Type 0) → Goal → Type 0
Gone (went u) w K g = u.state.clock.left ≤ w.state.clock.left → u.behind ≡ w.behind → u.tasks ≡ w.tasks → K u
Gone (quits h) w K g = GoesHalt g h

abbrev pub Others : (Task → Type 0) → mt.World → Type 0
Others P o = Each P o.pre × Each P o.post

-- these tasks, where they are cancelled, do q; the fuel is no less than the steps
abbrev pub Clears : Setting → ℕ → (Task → Type 0) → List Task → (ℕ → World → Went) → Type 0
Clears z m P xs q = (after : After) (todo : List Task) (o : mt.World) (w : World) (M : ℕ) (g : Goal) → w.state.clock.left ≤ m →
    w.state.clock.left ≤ M → Others P o →
    Gone (q M w) w (λ u. Ends z (clears (follows after) after todo o u.state) g) g →
    Ends z (clears (follows after) after (xs ++ todo) o w.state) g

abbrev pub in_clearing : mt.World → After → List Task → mt.World
in_clearing o after todo = mt.world o.pre o.post (clearing after todo ∷ o.ups) o.trees

-- the frames of a task, where it is cancelled, do q, down to the frame of the context
abbrev pub Owns : Setting → ℕ → Ctx → List Frame → (ℕ → World → Went) → Type 0
Owns z m c fs q = (after : After) (todo : List Task) (o : mt.World) (w : World) (M : ℕ) (g : Goal) → w.state.clock.left ≤ m →
    w.state.clock.left ≤ M → Others (Beside c.who.path) o →
    Gone (q M w) w (λ u. (ls stk : List Val) (pl : ℕ) → Agrees (slots c) ls →
    Ends z (clears_frames (λ s. clears (follows after) after todo o s) c.who (in_clearing o after todo) u.state
    (frame_of c ls stk pl ∷ c.below)) g) g →
    Ends z (clears_frames (λ s. clears (follows after) after todo o s) c.who (in_clearing o after todo) w.state fs) g

-- the tasks of a suspended task, where it is cancelled
pub record Stopped (z : Setting) (m : ℕ) (c : Ctx) (ts : List Task) (kq oq : ℕ → World → Went) : Type 0 where
  pub kids : List Task
  pub self : Task
  pub is : ts ≡ kids ++ self ∷ []
  pub who : self.thread.who ≡ c.who
  pub strict : Each (Strict c.who.path) kids
  pub clears : Clears z m (Beside c.who.path) (ordered [] kids) kq
  pub own : Owns z m c (self.thread.frame ∷ self.thread.below) oq

abbrev pub kids_of : Setting → Residual → ℕ → World → Went
kids_of z r M w = cancel_kids z.program (deeper z.program M) r w

abbrev pub own_of : Setting → Residual → ℕ → World → Went
own_of z r M w = cancel_own z.program (deeper z.program M) r w

abbrev pub all_of_scope : Setting → Scope → ℕ → World → Went
all_of_scope z s M w = went_on (cancel_scope_kids z.program (deeper z.program M) s w)
    (λ u. cancel_scope_own z.program (deeper z.program M) s u)

abbrev pub Tasks : Type 0
Tasks = List (Option Scope)

-- a residual in a context, which goes on at p on st with at most m steps; a scope of a task of its own
abbrev pub ResidualStands : Type 1
ResidualStands = (m own : ℕ) → Residual → Ctx → (kt : Target) → List Task → Type 0

abbrev pub ScopeStands : Type 1
ScopeStands = (m own : ℕ) → Scope → Who → List Task → Type 0

pub record RestAt (R : ResidualStands) (z : Setting) (m own : ℕ) (r : Residual) (c : Ctx) (kt : Target) (ts : List Task) : Type 0 where
  pub keeps : Keeps c.who.path own (leaves r) ts
  pub stands : R m own r c kt ts
  pub stopped : Stopped z m c ts (kids_of z r) (own_of z r)

pub record Stretch (P : ScopeStands) (z : Setting) (m own : ℕ) (s : Scope) (w : Who) (ts : List Task) : Type 0 where
  pub keeps : Keeps w.path own (scope_leaves s) ts
  pub stands : P m own s w ts
  pub clears : Clears z m (Beside w.path) (ordered [] ts) (all_of_scope z s)

-- what is around has grown, from o, b and f to o', b' and f', by what was left behind and what was spawned
pub data Grown (P : ScopeStands) (z : Setting) (c : Ctx) (n' : ℕ) (o' : Around) (b' : Scopes) (f' : Tasks) : ℕ → Around → Scopes → Tasks →
    Type 0 where
  same_around : {n : ℕ} → n' ≤ n → Grown P z c n' o' b' f' n o' b' f'
  left_around : {n m : ℕ} {o : Around} {b : Scopes} {f : Tasks} (k : ℕ) (s : Scope) (ts : List Task) →
      free c.handlers c.life.noted c.below ≡ true → m ≤ n → k < o.own → k < c.life.born →
      Stretch P z m k s (child_named c.who k) ts → Grown P z c n' o' b' f' m (lefts o k ts) (and_then b s) f →
      Grown P z c n' o' b' f' n o b f
  forked_around : {n m : ℕ} {o : Around} {b : Scopes} {f : Tasks} (k : ℕ) (e : Option ℕ) (s : Scope) (ts : List Task) →
      free c.handlers c.life.noted c.below ≡ true → m ≤ n →
      Stretch P z m k s (root_named k e) ts → Grown P z c n' o' b' f' m (forks o ts) b (f ++ Some s ∷ []) → Grown P z c n' o' b' f' n o b f

-- only tasks of their own were begun; F where that may be
pub data Planted (F : Type 0) (P : ScopeStands) (z : Setting) (n' : ℕ) (rs' : Trees) (f' : Tasks) : ℕ → Trees → Tasks → Type 0 where
  not_planted : {n : ℕ} → n' ≤ n → Planted F P z n' rs' f' n rs' f'
  one_planted : {n m : ℕ} {rs : Trees} {f : Tasks} (k : ℕ) (e : Option ℕ) (s : Scope) (ts : List Task) → F → m ≤ n →
      Stretch P z m k s (root_named k e) ts →
      Planted F P z n' rs' f' m (planted rs ts) (f ++ Some s ∷ []) → Planted F P z n' rs' f' n rs f

abbrev pub GoesWith : ResidualStands → ScopeStands → Setting → ℕ → Ctx → Around → Scopes → Tasks → Target → Goal → Outcome → Type 0
GoesWith R P z n c o b f kt g (value e v w) = (m : ℕ) (o' : Around) → Grown P z c m o' w.behind w.tasks n o b f → (ls : List Val) →
    Good m c.who.path o' c.held c.also c.size w.state ls → Binds kt.shown c.held e v ls →
    Ends z (at c o' w.state ls (laid kt.lies v kt.stack) kt.place) g
GoesWith R P z n c o b f kt g (failed s) = (m : ℕ) (o' : Around) (b' : Scopes) (f' : Tasks) → Grown P z c m o' b' f' n o b f →
    (ls : List Val) → Good m c.who.path o' c.held c.also c.size s ls → Ends z (failing c.who o'.world s ls c.handlers c.below) g
GoesWith R P z n c o b f kt g (returned v w) = (m : ℕ) (o' : Around) → Grown P z c m o' w.behind w.tasks n o b f →
    (a : ℕ) (ls stk : List Val) → Returns z c.handlers c.life c.leave a →
    Good m c.who.path o' c.held c.also c.size w.state ls → Ends z (at c o' w.state ls (v ∷ stk) a) g
GoesWith R P z n c o b f kt g (broke w) = (m : ℕ) (o' : Around) → Grown P z c m o' w.behind w.tasks n o b f →
    (a : ℕ) (ls stk : List Val) → Breaks z c.handlers c.life c.exit c.base a stk → Good m c.who.path o' c.held c.also c.size w.state ls →
    Ends z (at c o' w.state ls stk a) g
GoesWith R P z n c o b f kt g (halted h) = GoesHalt g h
GoesWith R P z n c o b f kt g (rests r w) = (m : ℕ) (o' : Around) → Grown P z c m o' w.behind w.tasks n o b f →
    free c.handlers c.life.noted c.below ≡ true → Fine m c.who.path o' w.state → (ts : List Task) →
    RestAt R z w.state.clock.left o'.own r c kt ts → Ends z
    (rested (onto ts o'.world.pre) o'.world.post o'.world.ups o'.world.trees w.state) g

-- A scope leaves nothing in the background round it, b. `leave` is what the machine does at its value, `Kept` what is known of it asleep.
abbrev pub GoesScope : Type 0 → ScopeStands → (Val → mt.World → State → Step) → (ℕ → ℕ → Scope → List Task → Type 0) → (State → Type 0) →
    Setting → ℕ → List ℕ → Around → Scopes → Tasks → Goal → TaskOutcome → Type 0
GoesScope F P leave Kept Lost z n a o b f g (ends v x) = x.behind ≡ b → (m : ℕ) (rs : Trees) →
    Planted F P z m rs x.tasks n o.world.trees f → Fine m a (rooted_at o rs) x.state → Ends z (leave v (rooted_at o rs).world x.state) g
GoesScope F P leave Kept Lost z n a o b f g (lost s) = Lost s
GoesScope F P leave Kept Lost z n a o b f g (stops h) = GoesHalt g h
GoesScope F P leave Kept Lost z n a o b f g (sleeps s x) = x.behind ≡ b → F → (m : ℕ) (rs : Trees) →
    Planted F P z m rs x.tasks n o.world.trees f → Fine m a (rooted_at o rs) x.state → (ts : List Task) →
    Kept x.state.clock.left o.own s ts →
    Ends z (rested (onto ts o.world.pre) o.world.post o.world.ups rs x.state) g

-- of a task of its own: an arm, a task behind, a spawned task, Main
abbrev pub role_over : Who → Val → mt.World → State → Step
role_over w v o s = follows (mt.After.closing w v) o s

abbrev pub GoesTask : ScopeStands → Setting → ℕ → Who → Around → Scopes → Tasks → Goal → TaskOutcome → Type 0
GoesTask P z n w o b f g x = GoesScope (Unit {0}) P (role_over w) (λ m own s ts. Stretch P z m own s w ts)
    (λ s. broke_off ending.Stuck s ≡ g.seen) z n w.path o b f g x

module _ (z : Setting) where
  -- j bounds the times that it is woken
  abbrev mutual
    pub ParkedR : ℕ → ResidualStands
    ParkedR zero m q r c kt ts = Unit {0}
    ParkedR (suc j) m q r c kt ts =
        (n : ℕ) (v : Val) (s : State) → has n (leaves r) ≡ true → s.clock.left ≤ m →
        (pre post : List Task) (rs : Trees) (b : Scopes) (f : Tasks) → Apart c.who.path (around pre post rs q) → (M : ℕ) →
        s.clock.left ≤ M →
        (g : Goal) → GoesWith (ParkedR j) (ParkedS j) z s.clock.left c (around pre post rs q) b f kt g
        (resume z.program (deeper z.program M) r n v (world s b f)) → Ends z (woken n v pre (ts ++ post) rs s) g

    pub ParkedS : ℕ → ScopeStands
    ParkedS zero m q x w ts = Unit {0}
    ParkedS (suc j) m q x w ts =
        (n : ℕ) (v : Val) (s : State) → has n (scope_leaves x) ≡ true → s.clock.left ≤ m →
        (pre post : List Task) (rs : Trees) (b : Scopes) (f : Tasks) → Apart w.path (around pre post rs q) → (M : ℕ) →
        s.clock.left ≤ M →
        (g : Goal) → GoesTask (ParkedS j) z s.clock.left w (around pre post rs q) b f g
        (resume_scope z.program (deeper z.program M) x n v (world s b f)) → Ends z (woken n v pre (ts ++ post) rs s) g

  abbrev pub Goes : ℕ → ℕ → Ctx → Around → Scopes → Tasks → Target → Goal → Outcome → Type 0
  Goes j n c o b f kt g x = GoesWith (ParkedR j) (ParkedS j) z n c o b f kt g x
