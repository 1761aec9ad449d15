-- Where a part of a function stands, for what leaves it.
use Rattle.std.specs.Prelude.{ℕ, zero, suc, Bool, true, false, nat_lt}
use Rattle.verse_code.specs.declared.operations.Op.TheVariants as o
use Rattle.lower_code.specs.Pieces.{Maker, one, when, when_else, leave_loop, ◌then◌}
use Rattle.lower_code.specs.declared.arounds.Around.{Around}

-- at the beginning of a function, an arm or the body of a `branch`
abbrev pub fresh : Around
fresh = record { height = 0; defers = 0; floor = 0; base = 0; in_loop = false; may_return = true }

-- above one more operand
abbrev pub up : Around → Around
up a = record a { height = suc a.height }

abbrev pub raised : ℕ → Around → Around
raised zero a = a
raised (suc n) a = raised n (up a)

-- in the body of a loop
abbrev pub looped : Around → Around
looped a = record a { height = 0; floor = a.defers; in_loop = true }

-- behind a `defer`
abbrev pub deferring : Around → Around
deferring a = record a { defers = suc a.defers }

-- in a failure context or a deferred block, which neither `break` nor `return` leaves
abbrev pub enclosed : Around → Around
enclosed a = record {
  height = 0;
  defers = a.defers;
  floor = a.defers;
  base = a.defers;
  in_loop = false;
  may_return = false;
}

-- the deferred blocks from the n-th on run, where there are any
abbrev pub leaving_to : (n : ℕ) → Around → Maker
leaving_to n a = when (nat_lt n a.defers) (one (o.Leave n))

-- what a `return` does with its value on the stack
abbrev pub returning : Around → Maker
returning a = leaving_to a.base a then when_else a.may_return (one o.Return)

abbrev pub breaking : Around → Maker
breaking a = leaving_to a.floor a then when_else a.in_loop (leave_loop a.height)
