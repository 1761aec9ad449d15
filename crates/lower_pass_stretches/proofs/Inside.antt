-- What is known of a state within a tree: what may happen there, what is visible, and what stands round it.
use Rattle.std.proofs.Common.{◌≡◌, ℕ, zero, suc, ◌+◌, ◌-◌, ◌≤◌, length, List, [], ◌∷◌, ◌++◌, Some, None, true, refl, sym}
use Rattle.std.proofs.Common.{◌∙◌, subst, ap, arith}
use Rattle.std.specs.Prelude.{slice_get}
use Rattle.std.proofs.lemmas.List.{append_assoc}
use Rattle.verse_code.specs.declared.codes.Code.{Code}
use Rattle.verse_names_tables.specs.Names.{Table}
use Rattle.verse_sorts.specs.Sorts.{Sort, IsKnown, to_any}
use Rattle.verse_sorts.specs.Typing.{AllFit, fit_so}
use Rattle.verse_sorts.proofs.Fitting.{all_fit_on}
use Rattle.verse_sound_rules.specs.Found as rules
use Rattle.verse_sound_rules.specs.Found.{Allowed}
use Rattle.verse_verify_kept.specs.Notes.{Notes, Point, FuncNote, names, parent_of}
use Rattle.verse_verify_kept.specs.Rules.{Entry, Ready, ready_no, ready_so, MayFail, MayWait, Quiet, Keeps, keeps_all, keeps_some}
use Rattle.lower_code.specs.declared.arounds.Around.{Around}
use Rattle.lower_code.specs.Arounds.{up}
use Rattle.lower_code.specs.Scopes.{Scope}
use Rattle.lower_notes.specs.States.{State, Deferred}
use Rattle.lower_notes.specs.Stretches.{anys}
use Rattle.lower_pass_states.proofs.Points.{pt, Even, opened, over, names_of, tries_over, even_over}
use Rattle.lower_pass_states.proofs.Locals.{Blank}
use Rattle.lower_pass_stretches.proofs.Names.{Sees}
use Rattle.lower_pass_states.proofs.Meeting.{entries, Each, Stood}
use Rattle.lower_pass_stretches.proofs.Going.{Way, Steady}
use Rattle.lower_pass_states.proofs.Steps.{fails_over, waits_over}

-- of one function and part of it, as many blocks beneath
pub record Alike (p q : Point) : Type 0 where
  pub func : p.func ≡ q.func
  pub arm : p.arm ≡ q.arm
  pub under : p.under ≡ q.under

module _ (code : Code) (notes : Notes) where
  -- ---- blocks that are deferred

  -- those since what encloses the place began, the last first, and those before; each may be run with the locals that
  -- stand when it begins, and leaves its own
  pub data Blocks (p : Point) (ts : List ℕ) : ℕ → List Deferred → List Sort → Type 0 where
    blocks_before : {ds : List Deferred} {ls : List Sort} → Ready code notes p ls (entries ds) → Blocks p ts 0 ds ls
    blocks_so : {k : ℕ} {d : Deferred} {ds : List Deferred} {ls : List Sort} (point : Point) →
        Entry code notes p d.entry (length (entries ds)) point → point.outer ≡ ts → point.locals ≡ d.locals →
        Each code notes ls d.locals → Blocks p ts k ds d.locals → Blocks p ts (suc k) (d ∷ ds) ls

  pub entry_moved : {p q point : Point} {e k : ℕ} → Alike p q → Entry code notes p e k point → Entry code notes q e k point
  entry_moved {k = k} a h = record {
    live = h.live;
    func = sym a.func ∙ h.func;
    arm = sym a.arm ∙ h.arm;
    block = h.block;
    stack = h.stack;
    tries = h.tries;
    defers = h.defers;
    under = h.under ∙ ap (λ n. n + k) a.under;
  }

  pub ready_below : {p : Point} {ls ms : List Sort} {ds : List ℕ} → AllFit (parent_of notes) ms ls → Ready code notes p ls ds →
      Ready code notes p ms ds
  ready_below f ready_no = ready_no
  ready_below f (ready_so more e o l h) = ready_so more e o (all_fit_on (parent_of notes) f l) h

  -- with other Trys open within
  pub ready_moved : {p q : Point} {ls : List Sort} {ds : List ℕ} (ts : List ℕ) → Alike p q → names q ≡ ts ++ names p →
      Ready code notes p ls ds → Ready code notes q ls ds
  ready_moved ts a n ready_no = ready_no
  ready_moved ts a n (ready_so {point = point} more e o l h) = ready_so (ts ++ more) (entry_moved a e)
      (append_assoc ts more point.outer ∙ ap (λ zs. ts ++ zs) o ∙ sym n) l (ready_moved ts a n h)

  pub ready_of : {p : Point} {ts : List ℕ} {k : ℕ} {ds : List Deferred} {ls : List Sort} → ts ≡ names p → Blocks p ts k ds ls →
      Ready code notes p ls (entries ds)
  ready_of n (blocks_before h) = h
  ready_of {p} n (blocks_so {d = d} {ds = ds} {ls = ls} point e o l f h) =
      ready_so [] e (o ∙ n) (subst (λ zs. AllFit (parent_of notes) ls zs) (sym l) f)
      (subst (λ zs. Ready code notes p zs (entries ds)) (sym l) (ready_of n h))

  pub blocks_below : {p : Point} {ts : List ℕ} {k : ℕ} {ds : List Deferred} {ls ms : List Sort} → AllFit (parent_of notes) ms ls →
      Blocks p ts k ds ls → Blocks p ts k ds ms
  blocks_below f (blocks_before h) = blocks_before (ready_below f h)
  blocks_below f (blocks_so point e o l g h) = blocks_so point e o l (all_fit_on (parent_of notes) f g) h

  pub blocks_moved : {p q : Point} {ts : List ℕ} {k : ℕ} {ds : List Deferred} {ls : List Sort} → Alike p q → names q ≡ names p →
      Blocks p ts k ds ls → Blocks q ts k ds ls
  blocks_moved a n (blocks_before h) = blocks_before (ready_moved [] a n h)
  blocks_moved a n (blocks_so point e o l g h) = blocks_so point (entry_moved a e) o l g (blocks_moved a n h)

  pub keeps_moved : {p q : Point} {m : ℕ} → q.tries ≡ p.tries → Keeps code notes p m → Keeps code notes q m
  keeps_moved e (keeps_all h) = keeps_all (e ∙ h)
  keeps_moved e (keeps_some h f) = keeps_some (e ∙ h) f

  pub keeps_more : {p : Point} {m k : ℕ} → m ≤ k → Keeps code notes p m → Keeps code notes p k
  keeps_more l (keeps_all h) = keeps_all h
  keeps_more l (keeps_some h f) = keeps_some h (λ q e. omega (arith, l, f q e))

  -- ---- what may leave

  -- a `return` may stand here, with a result of this sort
  pub record Returning (res : Sort) (a : Around) (y : State) : Type 0 where
    pub may : a.may_return ≡ true
    pub base : a.base ≡ 0
    pub arm : y.arm ≡ None
    pub block : y.block ≡ None
    pub tries : y.tries ≡ []
    pub under : y.under ≡ 0
    pub func : FuncNote
    pub is_func : slice_get notes.functions y.func ≡ Some func
    pub result : func.result ≡ res

  -- so many blocks were deferred since a state, each with locals that fit those of the state
  abbrev pub Since : State → ℕ → List Deferred → Type 0
  Since x zero ds = ds ≡ x.defers
  Since x (suc k) [] = ⊥
  Since x (suc k) (d ∷ ds) = Each code notes d.locals x.locals × Since x k ds

  -- a `break` may stand here: the state is that in which the loop began, with more operands and blocks
  pub record Breaking (w : Way) (a : Around) (y : State) : Type 0 where
    pub in_loop : a.in_loop ≡ true
    pub may : w.may_leave ≡ true
    pub func : y.func ≡ w.state.func
    pub arm : y.arm ≡ w.state.arm
    pub block : y.block ≡ w.state.block
    pub outer : y.outer ≡ w.state.outer
    pub under : y.under ≡ w.state.under
    pub tries : y.tries ≡ w.state.tries
    pub stack : Each code notes y.stack (anys a.height w.state.stack)
    pub locals : Each code notes y.locals w.state.locals
    pub since : Since w.state (a.defers - a.floor) y.defers

  -- ---- a state within a tree
  pub record Inside (found : rules.Found) (w : Way) (ts : List ℕ) (al : Allowed) (xs : Table) (sc : Scope) (a : Around) (y : State) :
      Type 0 where
    pub even : Even y
    pub names : opened y ≡ ts
    pub stood : Stood code notes ts y
    pub blocks : Blocks (pt y) ts (a.defers - a.base) y.defers y.locals
    pub count : a.defers ≡ y.under + length y.defers
    pub order : (a.base ≤ a.floor) × (a.floor ≤ a.defers)
    pub keeps : Keeps code notes (pt y) a.base
    pub sees : Sees found al.this xs sc y.locals
    pub blank : Blank (length sc) y.locals
    pub quiet : (l : ℕ) → length sc ≤ l → Quiet code notes l ts
    pub room : w.size ≤ length y.locals
    pub fails : al.fails ≡ true → MayFail code notes (pt y)
    pub waits : al.waits ≡ true → MayWait code notes (pt y)
    pub returns : (res : Sort) → al.result ≡ Some res → Returning res a y
    pub breaks : al.breaks ≡ true → Breaking w a y

  module _ {found : rules.Found} {w : Way} {ts : List ℕ} {al : Allowed} {xs : Table} {sc : Scope} {a : Around} {y : State} where
    pub steady_of : Inside found w ts al xs sc a y → Steady code notes ts y
    steady_of h = record {
      even = h.even;
      names = h.names;
      ready = ready_of (sym h.names ∙ sym (names_of y)) h.blocks;
      stood = h.stood;
    }

    -- above one more operand, which a `break` may leave
    pub inside_up : (q : Sort) → IsKnown q → Inside found w ts al xs sc a y → Inside found w ts al xs sc (up a) (over (q ∷ []) y)
    inside_up q known h = record {
      even = even_over y h.even (q ∷ []);
      names = h.names;
      stood = h.stood;
      blocks = blocks_moved (record { func = refl; arm = refl; under = refl })
          (names_of (over (q ∷ []) y) ∙ sym (names_of y)) h.blocks;
      count = h.count;
      order = h.order;
      keeps = keeps_moved (tries_over y h.even (q ∷ [])) h.keeps;
      sees = h.sees;
      blank = h.blank;
      quiet = h.quiet;
      room = h.room;
      fails = λ e. fails_over code notes y h.even (q ∷ []) (h.fails e);
      waits = λ e. waits_over code notes y h.even (q ∷ []) (h.waits e);
      returns = λ res e. let g = h.returns res e in record {
        may = g.may;
        base = g.base;
        arm = g.arm;
        block = g.block;
        tries = g.tries;
        under = g.under;
        func = g.func;
        is_func = g.is_func;
        result = g.result;
      };
      breaks = λ e. let g = h.breaks e in record {
        in_loop = g.in_loop;
        may = g.may;
        func = g.func;
        arm = g.arm;
        block = g.block;
        outer = g.outer;
        under = g.under;
        tries = g.tries;
        stack = fit_so (to_any known) g.stack;
        locals = g.locals;
        since = g.since;
      };
    }
