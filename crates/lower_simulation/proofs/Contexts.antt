-- The contexts of the parts of a function, and that what is static of them stays so.
use Rattle.std.proofs.Common.{ℕ, ◌≤◌, List, [], ◌∷◌, length, refl, arith}
use Rattle.verse_value.specs.Val.{Val}
use Rattle.verse_meaning_state.specs.State.{State}
use Rattle.verse_meaning.specs.Residuals.{Env}
use Rattle.verse_code_machine.specs.Tasks.{Note, Who, Frame}
use Rattle.verse_code_machine.specs.Frames.{kept_defers}
use Rattle.lower_code.specs.Scopes.{Scope as Names}
use Rattle.lower_code.specs.declared.arounds.Around.{Around as Where}
use Rattle.lower_code.specs.Arounds as arounds
use Rattle.lower_code.specs.Arounds.{fresh, looped, enclosed}
use Rattle.lower_simulation.proofs.Claims.{Way, Ctx, no_loop, loop_at, no_return, Held, Low, Fits, in_frame}
use Rattle.lower_simulation.proofs.Going.{trans, le_self}
use Rattle.lower_simulation.proofs.Forms.{Static}

-- within an attempt that began in the state s at a, and goes on at l on st where it fails
abbrev pub trying : Ctx → State → (a l : ℕ) → List Val → Ctx
trying c s a l st = record c {
  handlers = record { made = a; label = l; stack = st; memory = s.memory; life = c.life } ∷ c.handlers;
  base = [];
  exit = no_loop (length c.life.defers);
  leave = no_return (length c.life.defers);
}

-- within a loop on the operands st, which is left to one of n Drops before l
abbrev pub looping : Ctx → List Val → (l n : ℕ) → Ctx
looping c st l n = record c { base = st; exit = loop_at l n (length c.life.defers) }

-- behind a `defer` whose block is at q
abbrev pub deferring : Ctx → ℕ → Ctx
deferring c q = record c { life = record { born = c.life.born; defers = q ∷ c.life.defers; noted = c.life.noted } }

-- within a deferred block, which comes back to the note
abbrev pub running : Ctx → Note → List Val → Ctx
running c x st = record c {
  life = record { born = c.life.born; defers = c.life.defers; noted = x ∷ c.life.noted };
  base = st;
  exit = no_loop (length c.life.defers);
  leave = no_return (length c.life.defers);
}

-- the innermost handler keeps no more deferred blocks than there are
pub handled : {top : ℕ} {c : Ctx} {ss : Names} {out : Way} {a : Where} → Static top c ss out a →
    kept_defers c.handlers ≤ length c.life.defers
handled h = trans h.breaks.handled h.breaks.there

pub trying_static : {top : ℕ} {c : Ctx} {ss : Names} {out : Way} {a : Where} (s : State) (p l : ℕ) (st : List Val) →
    Static top c ss out a → Static top (trying c s p l st) ss out (enclosed a)
trying_static s p l st h = record {
  fits = h.fits;
  low = h.low;
  low_also = h.low_also;
  loops = (refl, h.defers);
  leaves = (refl, h.defers);
  breaks = record { handled = le_self; there = le_self };
  returns = record { handled = le_self; there = le_self };
  defers = h.defers;
  noted = le_self;
  born = h.born;
}

pub looping_static : {top : ℕ} {c : Ctx} {ss : Names} {out : Way} {a : Where} (st : List Val) (way : Way) → Static top c ss out a →
    Static top (looping c st way.label way.most) ss way (looped a)
looping_static st way h = record {
  fits = h.fits;
  low = h.low;
  low_also = h.low_also;
  loops = (refl, refl, refl, h.defers);
  leaves = h.leaves;
  breaks = record { handled = handled h; there = le_self };
  returns = h.returns;
  defers = h.defers;
  noted = h.noted;
  born = h.born;
}

pub deferring_static : {top : ℕ} {c : Ctx} {ss : Names} {out : Way} {a : Where} (q : ℕ) → Static top c ss out a →
    Static top (deferring c q) ss out (arounds.deferring a)
deferring_static q h =
    let x = h.breaks.there in
    let y = h.returns.there in
    let d = h.defers in
    record {
      fits = h.fits;
      low = h.low;
      low_also = h.low_also;
      loops = h.loops;
      leaves = h.leaves;
      breaks = record { handled = h.breaks.handled; there = omega (arith, x) };
      returns = record { handled = h.returns.handled; there = omega (arith, y) };
      defers = omega (arith, d);
      noted = h.noted;
      born = h.born;
    }

pub running_static : {top : ℕ} {c : Ctx} {ss : Names} {out : Way} {a : Where} (x : Note) (st : List Val) → Static top c ss out a →
    Static top (running c x st) ss out (enclosed a)
running_static x st h =
    let n = h.noted in
    record {
      fits = h.fits;
      low = h.low;
      low_also = h.low_also;
      loops = (refl, h.defers);
      leaves = (refl, h.defers);
      breaks = record { handled = handled h; there = le_self };
      returns = record { handled = handled h; there = le_self };
      defers = h.defers;
      noted = omega (arith, n);
      born = h.born;
    }

-- in a frame of its own: a function, an arm, a task behind
pub frame_static : {ss : Names} (out : Way) (e : Env) (held : Held) (w : Who) (g : ℕ) (bl : List Frame) → Fits ss e held.held →
    Low (length ss) held.held → Low (length ss) held.also → Static g (in_frame e held w g bl) ss out fresh
frame_static out e held w g bl fs lo lo2 = record {
  fits = fs;
  low = lo;
  low_also = lo2;
  loops = (refl, refl);
  leaves = (refl, refl);
  breaks = record { handled = le_self; there = le_self };
  returns = record { handled = le_self; there = le_self };
  defers = refl;
  noted = le_self;
  born = le_self;
}
