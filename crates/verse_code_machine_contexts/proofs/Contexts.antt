-- From a Try to where its context closes.
use Rattle.std.proofs.Common.{◌≡◌, ℕ, suc, length, ◌+◌, ◌≤◌, ◌<◌, List, [], ◌∷◌, ◌++◌, ◌⊎◌, inl, inr, Option, Some}
use Rattle.std.proofs.Common.{None}
use Rattle.std.proofs.Common.{Bool, true, false, refl, sym, subst, arith, ap, ◌∙◌}
use Rattle.std.specs.Prelude.{ℤ, slice_get}
use Rattle.verse_code.specs.declared.operations.Op.{Op}
use Rattle.verse_code.specs.declared.operations.Op.TheVariants as does
use Rattle.verse_code.specs.declared.codes.Func.{Func}
use Rattle.verse_code.specs.declared.codes.Code.{Code}
use Rattle.verse_value.specs.Val.{Val}
use Rattle.verse_value.specs.declared.runs.Ending.TheVariants as ending
use Rattle.verse_meaning_state.specs.State.{State, restored, begun}
use Rattle.verse_meaning_state.specs.Waits.{ltn}
use Rattle.verse_code_machine.specs.Tasks.{Handler, Frame, Note, Machine, Step, Next, Over, Turn, machine}
use Rattle.verse_code_machine.specs.Frames.{on_there, only_where, fits, goes, failing, kept_noted}
use Rattle.verse_code_machine.specs.Acts.{act}
use Rattle.verse_code_machine.specs.Runs.{step, Forest, main_starts}
use Rattle.verse_code_machine_parents.specs.Parents.{WorldRooted, MachineRooted, StepRooted, StageRooted}
use Rattle.verse_code_machine_parents.specs.Cancelled.{NoneSince}
use Rattle.verse_code_machine_parents.proofs.Leaving.{trees_less, one_less}
use Rattle.verse_code_machine_parents.proofs.Running.{operation_roots, woken_roots, main_roots, run_roots}
use Rattle.verse_code_machine_contexts.specs.Runs.{op_at, Begins, main, woken, Comes, at_once, later, InRun}
use Rattle.verse_code_machine_contexts.specs.Contexts.{open_in, contexts, Within, stands, goes_on, locals_above, failed}
use Rattle.verse_code_machine_contexts.specs.Contexts.{closed_by, InContext, Opens, ContextsUndo}
use Rattle.verse_code_machine_contexts.proofs.Frames.{none, Fresh, its, Frames, own, more_open, not_less, Innermost}
use Rattle.verse_code_machine_contexts.proofs.Frames.{of_those, deeper, innermost, Under, of_top, called_by, under_it}
use Rattle.verse_code_machine_contexts.proofs.Frames.{locals_under}
use Rattle.verse_code_machine_contexts.proofs.Frames.{locals_own}
use Rattle.verse_code_machine_contexts.proofs.Acts.{Inside, Low, over, stays, closes, CanFail, only_low, act_low}
use Rattle.verse_code_machine_contexts.proofs.Sites.{Top, site}

-- the context that the machine m opens with a Try
abbrev opened : Machine → (label : ℕ) → Handler
opened m label = record {
  made = m.frame.place;
  label = label;
  stack = m.frame.stack;
  memory = m.state.memory;
  life = m.frame.life;
}

no_none : {h : Handler} {hs : List Handler} → [] ≡ h ∷ hs → ⊥
no_none e = cc

first_same : {h k : Handler} {hs ks : List Handler} → h ∷ hs ≡ k ∷ ks → h ≡ k
first_same e = cc

rest_same : {h k : Handler} {hs ks : List Handler} → h ∷ hs ≡ k ∷ ks → hs ≡ ks
rest_same e = cc

module _ (m : Machine) (label : ℕ) where
  abbrev In : ℕ → List Note → List Handler → List Frame → Type 0
  In = Frames (Fresh m.who.path m.world) m.frame.life.noted (opened m label ∷ m.frame.handlers) m.below

  abbrev InIt : Machine → Type 0
  InIt = Inside m.who m.world m.state.clock In

  -- the context has closed, and the machine z goes on
  pub record Closed (z : Machine) (q : Step) : Type 0 where
    pub goes_on : q ≡ Next z
    pub closed : contexts z ≡ contexts m

  module _ (k : Machine) where
    abbrev ClosedBy : Op → Step → Type 0
    ClosedBy op = Closed (closed_by op m label k)

    abbrev failing_step : List Val → List Frame → Step
    failing_step ls bl = goes m.who m.world k.state (restored m.state.memory k.state) m.frame.life
        (locals_above (length m.below) ls bl) m.frame.stack label m.frame.handlers m.below

    fails_here : (ls : List Val) (hs : List Handler) (bl : List Frame) → hs ≡ opened m label ∷ m.frame.handlers → bl ≡
        m.below →
        failing m.who m.world k.state ls hs bl ≡ failing_step ls bl
    fails_here ls hs bl a b = rw (a, b, locals_own ls m.below) refl

    only_closed : {z : Machine} (b : Bool) {n : Machine} → n ≡ z → contexts z ≡ contexts m →
        Low m.who m.world m.state.clock In (Closed z) (only_where b k.state (Next n))
    only_closed {z = z} b {n = n} e h = only_low m.who m.world m.state.clock In (Closed z) b k.state (Next n) (closes
        (record {
          goes_on = ap Next e;
          closed = h;
        }))

    fails_closed : (op : Op) (ls : List Val) (hs : List Handler) (bl : List Frame) → CanFail op →
        hs ≡ opened m label ∷ m.frame.handlers → bl ≡ m.below →
        locals_above (length m.below) ls bl ≡ locals_above (length m.below) k.frame.locals k.below →
        Low m.who m.world m.state.clock In (ClosedBy op) (failing m.who m.world k.state ls hs bl)
    fails_closed op ls hs bl can a b e = rw (fails_here ls hs bl a b, e) (only_closed (fits m.frame.handlers label)
        (sym (can m label k)) (ap contexts (can m label k)))

    commits_closed : (h : Handler) (hs : List Handler) → h ∷ hs ≡ opened m label ∷ m.frame.handlers → k.below ≡ m.below
        →
        Low m.who m.world m.state.clock In (ClosedBy does.Commit) (goes m.who m.world k.state k.state k.frame.life
        k.frame.locals (k.frame.stack ++ h.stack) (suc k.frame.place) hs k.below)
    commits_closed h hs a b = rw (first_same a, rest_same a, b) (only_closed (fits m.frame.handlers (suc k.frame.place))
        refl refl)

    undoes_closed : (h : Handler) (hs : List Handler) → h ∷ hs ≡ opened m label ∷ m.frame.handlers → k.below ≡ m.below →
        Low m.who m.world m.state.clock In (ClosedBy does.Undo) (goes m.who m.world k.state (restored h.memory k.state)
        k.frame.life k.frame.locals (k.frame.stack ++ h.stack) (suc k.frame.place) hs k.below)
    undoes_closed h hs a b = rw (first_same a, rest_same a, b) (only_closed (fits m.frame.handlers (suc k.frame.place))
        refl refl)

    no_fewer : (ns : List Note) (hs : List Handler) → ns ≡ m.frame.life.noted → hs ≡ opened m label ∷ m.frame.handlers →
        ltn (kept_noted hs) (length ns) ≡ true → ⊥
    no_fewer ns hs a b e = not_less (same_length (ap kept_noted b)) (same_length (sym (ap length a))) e
      where
        same_length : {i j : ℕ} → i ≡ j → j ≤ i
        same_length e = omega (arith, e)

    top : Top m.who m.world m.state.clock m.frame.life.noted (opened m label ∷ m.frame.handlers) m.below ClosedBy
        k.state k.frame.life
        k.frame.locals k.frame.stack k.frame.place k.frame.handlers k.below
    top = record {
      shut = λ ns a. refl;
      failing = fails_closed;
      returns = λ v e n. absurd (no_none e);
      ends = λ v e n. absurd (no_none e);
      commits = commits_closed;
      undoes = undoes_closed;
      defer_ends = λ y ns n a b e. absurd (no_fewer (y ∷ ns) k.frame.handlers n a e);
    }

pub same_next : {n j : Machine} → Next n ≡ Next j → n ≡ j
same_next e = cc

less_not_same : {a d : ℕ} → d < a → a ≡ d → ⊥
less_not_same l e = omega (arith, l, e)

within_more : {c : Code} {d : ℕ} {j k : Machine} → Within c d j k → d < contexts j
within_more (stands l) = l
within_more (goes_on l e p) = l

-- only an operation goes on, or comes to the end of a turn
pub next_op : (x : Option Op) (s : State) (go : Op → Step) {n : Machine} → on_there x s go ≡ Next n → (op : Op) × (x ≡
    Some op)
next_op None s go e = absurd (no_next e)
  where
    no_next : {s : State} {n : Machine} → Over ending.Stuck s ≡ Next n → ⊥
    no_next e = cc
next_op (Some op) s go e = (op, refl)

turn_op : (x : Option Op) (s : State) (go : Op → Step) {u : State} {tss : Forest} → on_there x s go ≡ Turn u tss →
    (op : Op) × (x ≡ Some op)
turn_op None s go e = absurd (no_turns e)
  where
    no_turns : {s u : State} {tss : Forest} → Over ending.Stuck s ≡ Turn u tss → ⊥
    no_turns e = cc
turn_op (Some op) s go e = (op, refl)

only_next : (b : Bool) (s : State) {n j : Machine} → only_where b s (Next n) ≡ Next j → n ≡ j
only_next true s e = same_next e
only_next false s e = absurd (no_next e)
  where
    no_next : {s : State} {n : Machine} → Over ending.Stuck s ≡ Next n → ⊥
    no_next e = cc

-- what an operation comes to
next_inside : {m : Machine} {label : ℕ} {z n : Machine} {q : Step} →
    Low m.who m.world m.state.clock (In m label) (Closed m label z) q → q ≡ Next n →
    InIt m label n ⊎ ((n ≡ z) × (contexts z ≡ contexts m))
next_inside over e = cc
next_inside {m = m} {label = label} (stays {n = k} i) e = inl (subst (InIt m label) (same_next e) i)
next_inside (closes p) e = inr (same_next (sym e ∙ p.goes_on), p.closed)

low_turn : {m : Machine} {label : ℕ} {z : Machine} {q : Step} {s : State} {tss : Forest} →
    Low m.who m.world m.state.clock (In m label) (Closed m label z) q → q ≡ Turn s tss → ⊥
low_turn over e = cc
low_turn (stays i) e = cc
low_turn (closes p) e = two_ways (sym p.goes_on ∙ e)
  where
    two_ways : {n : Machine} {s : State} {tss : Forest} → Next n ≡ Turn s tss → ⊥
    two_ways e = cc

module _ (since_none : NoneSince) (c : Code) (m : Machine) (label : ℕ) where
  -- as the machine k, whose task and world are those of the machine m
  abbrev here : Machine → Machine
  here k = machine m.who m.world k.state k.frame.life k.frame.locals k.frame.stack k.frame.place k.frame.handlers
      k.below

  is_here : (k : Machine) → InIt m label k → here k ≡ k
  is_here k i = rw (sym i.who, sym i.world) refl

  operation_inside : (k : Machine) → InIt m label k → MachineRooted k → (op : Op) → op_at c k ≡ Some op →
      Low m.who m.world m.state.clock (In m label) (Closed m label (closed_by op m label k)) (step c k)
  operation_inside k i r op e =
      subst (λ k. Low m.who m.world m.state.clock (In m label) (Closed m label (closed_by op m label k)) (step c k))
      (is_here k i) at_op
    where
      rooted : WorldRooted k.state.clock.left m.who m.world
      rooted = subst (λ (k : Machine). WorldRooted k.state.clock.left k.who k.world) (sym (is_here k i)) r.world

      at_op : Low m.who m.world m.state.clock (In m label) (Closed m label (closed_by op m label (here k))) (step c
          (here k))
      at_op = rw e (act_low m.who m.world m.state.clock (In m label) (ClosedBy m label (here k)) k.state k.frame.life
          k.frame.locals
          k.frame.stack k.frame.place k.frame.handlers k.below (site m.who m.world m.state.clock m.frame.life.noted
          (opened m label ∷ m.frame.handlers) m.below since_none (ClosedBy m label (here k)) k.state k.frame.life
          k.frame.locals k.frame.stack k.frame.place k.frame.handlers k.below i.clock i.frames rooted (top m label (here
          k))) c op)

  next_rooted : {k n : Machine} → MachineRooted k → step c k ≡ Next n → MachineRooted n
  next_rooted {k = k} r e = subst StepRooted e (operation_roots c k r)

  -- an operation behind which the context stands
  stays_inside : {j n : Machine} → InIt m label j → MachineRooted j → step c j ≡ Next n → contexts m < contexts n →
      InIt m label n
  stays_inside {j = j} {n = n} i r e l = by_op (next_op (slice_get c.ops j.frame.place) j.state _ e)
    where
      by_way : {z : Machine} → InIt m label n ⊎ ((n ≡ z) × (contexts z ≡ contexts m)) → InIt m label n
      by_way (inl x) = x
      by_way (inr x) = absurd (less_not_same l (ap contexts x.0 ∙ x.1))

      by_op : (op : Op) × (op_at c j ≡ Some op) → InIt m label n
      by_op o = by_way (next_inside (operation_inside j i r o.0 o.1) e)

  path_inside : {j k : Machine} → Within c (contexts m) j k → InIt m label j → MachineRooted j →
      InIt m label k × MachineRooted k
  path_inside (stands l) i r = (i, r)
  path_inside (goes_on l e p) i r = path_inside p (stays_inside i r e (within_more p)) (next_rooted r e)

  -- ---- a failure that this context takes

  lengthen : (i j a b : ℕ) → suc a + b ≤ i + j → suc i + j ≡ suc (a + b) → ⊥
  lengthen i j a b l e = omega (arith, l, e)

  failing_is : (s : State) (ls : List Val) {born : ℕ} {ns : List Note} (hs : List Handler) (bl : List Frame) →
      In m label born ns hs bl → length hs + open_in bl ≡ suc (contexts m) →
      failing m.who m.world s ls hs bl ≡ goes m.who m.world s (restored m.state.memory s) m.frame.life
      (locals_above (length m.below) ls bl) m.frame.stack label m.frame.handlers m.below
  failing_is s ls [] [] r e = absurd (no_frame (under_it _ _ _ _ r))
    where
      no_frame : {born : ℕ} {ns : List Note} → Under (Fresh m.who.path m.world) m.frame.life.noted (opened m label ∷
          m.frame.handlers) m.below born ns [] → ⊥
      no_frame (of_top a b n) = no_none a
  failing_is s ls [] (f ∷ bl) r e =
      failing_is s f.locals f.handlers bl (caller (under_it _ _ _ _ r)) (no_more e) ∙ ap (λ ls. goes m.who m.world s
      (restored m.state.memory s) m.frame.life ls m.frame.stack label m.frame.handlers m.below) (sym (locals_under
      (Fresh m.who.path m.world) m.frame.life.noted (opened m label ∷ m.frame.handlers) m.below f bl ls (caller
      (under_it _ _ _ _ r))))
    where
      no_more : {i j : ℕ} → 0 + i ≡ j → i ≡ j
      no_more e = omega (arith, e)

      caller : {born : ℕ} {ns : List Note} → Under (Fresh m.who.path m.world) m.frame.life.noted (opened m label ∷
          m.frame.handlers) m.below born ns (f ∷ bl) → In m label f.life.born f.life.noted f.handlers bl
      caller (of_top a b n) = absurd (no_none a)
      caller (called_by b x) = x
  failing_is s ls {born = born} {ns = ns} (h ∷ hs) bl r e = by_way (innermost _ _ _ _ r)
    where
      by_way : Innermost (Fresh m.who.path m.world) m.frame.life.noted (opened m label ∷ m.frame.handlers) m.below h hs
          bl born ns →
          failing m.who m.world s ls (h ∷ hs) bl ≡ goes m.who m.world s (restored m.state.memory s) m.frame.life
          (locals_above (length m.below) ls bl) m.frame.stack label m.frame.handlers m.below
      by_way (of_those a b) = rw (first_same a, rest_same a, b, locals_own ls m.below) refl
      by_way (deeper k x) = absurd (lengthen (length hs) (open_in bl) (length m.frame.handlers) (open_in m.below)
          (more_open _ _ _ _ k) e)

  fail_here : (k : Machine) → InIt m label k → contexts k ≡ suc (contexts m) → op_at c k ≡ Some does.Fail →
      step c k ≡ only_where (fits m.frame.handlers label) k.state (Next (failed m label k))
  fail_here k i e op = subst (λ k. step c k ≡ only_where (fits m.frame.handlers label) k.state (Next (failed m label
      k)))
      (is_here k i) (rw op (failing_is k.state k.frame.locals k.frame.handlers k.below i.frames e))

  fewer_open : (a b : ℕ) {d : ℕ} → suc a + b ≤ d → d ≤ a + b → ⊥
  fewer_open a b l e = omega (arith, l, e)

  in_context : (k : Machine) → InIt m label k → MachineRooted k → InContext c m label k
  in_context k i r = record {
    who = i.who;
    world = i.world;
    clock = i.clock;
    runs = λ s tss e. low_turn (operation_inside k i r (turn_op (slice_get c.ops k.frame.place) k.state _ e).0 (turn_op
        (slice_get c.ops k.frame.place) k.state _ e).1) e;
    closes = λ n e l. by_op n e l (next_op (slice_get c.ops k.frame.place) k.state _ e);
    fails = λ e op. fail_here k i e op;
  }
    where
      by_way : {z n : Machine} → contexts n ≤ contexts m → InIt m label n ⊎ ((n ≡ z) × (contexts z ≡ contexts m)) → n ≡
          z
      by_way l (inl x) = absurd (fewer_open (length m.frame.handlers) (open_in m.below) (more_open _ _ _ _ x.frames) l)
      by_way l (inr x) = x.0

      by_op : (n : Machine) → step c k ≡ Next n → contexts n ≤ contexts m → (op : Op) × (op_at c k ≡ Some op) →
          (op : Op) × (op_at c k ≡ Some op) × (n ≡ closed_by op m label k)
      by_op n e l op = (op.0, op.1, by_way l (next_inside (operation_inside k i r op.0 op.1) e))

  -- ---- behind the Try

  -- the machine behind the Try
  abbrev tried : Machine
  tried = machine m.who m.world m.state m.frame.life m.frame.locals [] (suc m.frame.place) (opened m label ∷
      m.frame.handlers)
      m.below

  is_tried : {j : Machine} → op_at c m ≡ Some (does.Try label) → step c m ≡ Next j → tried ≡ j
  is_tried {j = j} op e = only_next (fits (opened m label ∷ m.frame.handlers) (suc m.frame.place)) m.state (subst (λ x.
      on_there x
      m.state (λ op. act c op m.who m.world m.state m.frame.life m.frame.locals m.frame.stack m.frame.place
      m.frame.handlers m.below) ≡ Next j) op e)

  begins_inside : {j : Machine} → op_at c m ≡ Some (does.Try label) → step c m ≡ Next j → InIt m label j
  begins_inside op e = subst (InIt m label) (is_tried op e) (record {
    who = refl;
    world = refl;
    clock = record { same = refl; sum = refl };
    frames = own refl none (its refl);
  })

  opens_one : {j : Machine} → op_at c m ≡ Some (does.Try label) → step c m ≡ Next j → Opens m j
  opens_one op e = subst (Opens m) (is_tried op e) (record {
    context = one_longer (length m.frame.handlers) (open_in m.below);
    same = refl;
    locals = refl;
  })
    where
      one_longer : (a b : ℕ) → suc a + b ≡ suc (a + b)
      one_longer a b = omega arith

  context_of : (j k : Machine) → MachineRooted m → op_at c m ≡ Some (does.Try label) → step c m ≡ Next j →
      Within c (contexts m) j k → InContext c m label k
  context_of j k r op e p =
      let i = path_inside p (begins_inside op e) (next_rooted r e) in in_context k i.0 i.1

-- ---- every machine of a run has its parents behind their children

main_rooted : (ns : List ℤ) (steps : ℕ) (f : Option Func) →
    StepRooted (on_there f (begun steps) (λ f. main_starts ns (begun steps) f))
main_rooted ns steps None = tt
main_rooted ns steps (Some f) = main_roots ns steps f

start_rooted : {c : Code} {ns : List ℤ} {steps until : ℕ} {q : Step} → Begins c ns steps until q → StepRooted q
start_rooted {c = c} {ns = ns} {steps = steps} main = main_rooted ns steps (slice_get c.functions c.main)
start_rooted {c = c} {ns = ns} {steps = steps} {until = until} (woken k left s tss due e d h l) =
    woken_roots due.number due.given.value _ tss (trees_less tss (one_less l) (subst StageRooted e (run_roots c ns steps
    until k)))

pub comes_rooted : {c : Code} {q r : Step} → Comes c q r → StepRooted q → StepRooted r
comes_rooted at_once r = r
comes_rooted {c = c} (later {k = k} p) r = comes_rooted p (operation_roots c k r)

pub run_rooted : {c : Code} {ns : List ℤ} {steps until : ℕ} {m : Machine} → InRun c ns steps until m → MachineRooted m
run_rooted i = comes_rooted i.comes (start_rooted i.begins)

pub contexts_undo : NoneSince → ContextsUndo
contexts_undo since_none c ns steps until m i label op j e =
    (opens_one since_none c m label op e, λ k p. context_of since_none c m label j k (run_rooted i) op e p)
