-- A state behind statements: the state before them, with more locals and blocks.
use Rattle.std.proofs.Common.{◌≡◌, ℕ, zero, suc, drop, List, [], ◌∷◌, Some, refl, ◌∙◌, subst, ap}
use Rattle.verse_code.specs.declared.codes.Code.{Code}
use Rattle.verse_sorts.specs.Sorts as s
use Rattle.verse_sorts.specs.Sorts.{Sort, Fits}
use Rattle.verse_sorts.specs.Typing.{at, fit_so}
use Rattle.verse_sorts.proofs.Fitting.{all_itself}
use Rattle.verse_verify_kept.specs.Notes.{Notes, parent_of}
use Rattle.lower_notes.specs.States.{State, Deferred, with_local, locals_behind, left_behind, deferred}
use Rattle.lower_pass_states.proofs.Points.{over, drop_none}
use Rattle.lower_pass_states.proofs.Meeting.{Below, Each, entries}
use Rattle.lower_pass_states.proofs.Writes.{with_locals}
use Rattle.lower_pass_stretches.proofs.Inside.{Since}
use Rattle.lower_pass_contexts.proofs.Scopes.{with_more}

module _ (code : Code) (notes : Notes) where
  -- k blocks were deferred since
  pub record After (k : ℕ) (x y : State) : Type 0 where
    pub func : y.func ≡ x.func
    pub arm : y.arm ≡ x.arm
    pub block : y.block ≡ x.block
    pub outer : y.outer ≡ x.outer
    pub under : y.under ≡ x.under
    pub tries : y.tries ≡ x.tries
    pub stack : y.stack ≡ x.stack
    pub locals : Each code notes y.locals x.locals
    pub since : Since code notes x k y.defers

  pub after_itself : (x : State) → After 0 x x
  after_itself x = record {
    func = refl;
    arm = refl;
    block = refl;
    outer = refl;
    under = refl;
    tries = refl;
    stack = refl;
    locals = all_itself (parent_of notes) x.locals;
    since = refl;
  }

  module _ {k : ℕ} {x y : State} (h : After k x y) where
    -- a local of which nothing is known is written
    pub after_bound : (l : ℕ) (r : Sort) → at y.locals l ≡ Some s.none → After k x (with_locals (with_local l r y.locals) y)
    after_bound l r e = record {
      func = h.func;
      arm = h.arm;
      block = h.block;
      outer = h.outer;
      under = h.under;
      tries = h.tries;
      stack = h.stack;
      locals = with_more (parent_of notes) l r h.locals e;
      since = h.since;
    }

    -- a block is deferred
    pub after_deferred : (i : ℕ) → After (suc k) x (deferred i y)
    after_deferred i = record {
      func = h.func;
      arm = h.arm;
      block = h.block;
      outer = h.outer;
      under = h.under;
      tries = h.tries;
      stack = h.stack;
      locals = h.locals;
      since = (h.locals, h.since);
    }

  pub left_defers : (x : State) (k : ℕ) (ds : List Deferred) → Since code notes x k ds → drop k ds ≡ x.defers
  left_defers x zero ds h = drop_none ds ∙ h
  left_defers x (suc k) [] h = elim h [ ]
  left_defers x (suc k) (d ∷ ds) h = left_defers x k ds h.1

  pub left_locals : (x : State) (k : ℕ) (ds : List Deferred) (ls : List Sort) → Since code notes x k ds → Each code notes ls x.locals →
      Each code notes (locals_behind k ds ls) x.locals
  left_locals x zero ds ls h f = f
  left_locals x (suc k) [] ls h f = elim h [ ]
  left_locals x (suc k) (d ∷ ds) ls h f = left_locals x k ds d.locals h.1 h.0

  -- the blocks have run
  pub after_left : {k : ℕ} {x y : State} → After k x y → After 0 x (left_behind k y)
  after_left {k} {x} {y} h = record {
    func = h.func;
    arm = h.arm;
    block = h.block;
    outer = h.outer;
    under = h.under;
    tries = h.tries;
    stack = h.stack;
    locals = left_locals x k y.defers y.locals h.since h.locals;
    since = left_defers x k y.defers h.since;
  }

  -- with a value, and no block more, it is noted as the state before them
  pub after_below : {x y : State} {a q : Sort} → After 0 x y → Fits (parent_of notes) a q →
      Below code notes (over (a ∷ []) y) (over (q ∷ []) x)
  after_below {x} {y} {a} {q} h f = record {
    func = h.func;
    arm = h.arm;
    block = h.block;
    outer = h.outer;
    under = h.under;
    tries = h.tries;
    locals = h.locals;
    stack = subst (λ st. Each code notes (a ∷ y.stack) (q ∷ st)) h.stack (fit_so f (all_itself (parent_of notes) y.stack));
    defers = ap entries h.since;
  }
