-- What stands round a node: all that a rule at the node asks of the nodes above it.
use Rattle.std.specs.Prelude.{ℕ, Bool, true, false, Option, Some, None}
use Rattle.verse_tree.specs.Tree.{Written}
use Rattle.verse_tree.specs.declared.tables.Effects.{Effects}
use Rattle.verse_tree.specs.declared.exprs.Operator.{Operator}
use Rattle.verse_tree.specs.declared.exprs.Operator.TheVariants as o

-- how a node is used by the one that it is a part of
pub data Used : Type 0 where
  free : Used
  -- what is called or indexed
  callee : Used
  -- what stands before the dot of a member
  object : Used
  -- an argument, by the number of the callee's node and its place, from 0
  argument : ℕ → ℕ → Used
  -- what has to fit a written type: the value of a definition, a field's default, a function's body
  value : Written → Used
  -- the target of a `set`
  target : Used
  -- what is indexed in the target of a `set`
  base : Used
  -- the operand of `spawn`
  spawned : Used

-- the function in which a node stands, or what takes its place for the default of a field
pub record Owner : Type 0 where
  -- the number of the function's node
  pub function : Option ℕ
  -- the effects that are written; a default counts as the body of a `transacts` function
  pub effects : Effects
  -- the written type of the function's result
  pub result : Option Written

pub record Around : Type 0 where
  pub used : Used
  pub owner : Owner
  -- the number of the innermost `loop`
  pub enclosing : Option ℕ
  -- a failure context stands round the node, and no `defer` between
  pub is_caught : Bool
  -- a failure context stands round the node
  pub is_tried : Bool
  -- a `defer` stands round the node
  pub is_deferred : Bool
  -- `return` would leave no failure context but the body of a `decides` function, no arm, branch or
  -- `defer`
  pub may_return : Bool
  -- nor would `break`, which leaves the innermost `loop`
  pub may_break : Bool
  -- of function body, arm, branch, body of `loop` and body of `for` the innermost is one of the
  -- last two
  pub repeats : Bool

abbrev pub no_effects : Effects
no_effects = record { computes = false; transacts = false; decides = false; suspends = false }

-- round an item and its names
abbrev pub outside : Around
outside = record {
  used = free;
  owner = record { function = None; effects = no_effects; result = None };
  enclosing = None;
  is_caught = false;
  is_tried = false;
  is_deferred = false;
  may_return = false;
  may_break = false;
  repeats = false;
}

-- round the body of a function; that of a `decides` function is a failure context
abbrev pub body_around : ℕ → Effects → Written → Around
body_around number effects result = record outside {
  used = value result;
  owner = record { function = Some number; effects = effects; result = Some result };
  is_caught = effects.decides;
  is_tried = effects.decides;
  may_return = true;
}

-- round the default of a field
abbrev pub default_around : Written → Around
default_around ty = record outside {
  used = value ty;
  owner = record {
    function = None;
    effects = record no_effects { transacts = true };
    result =
        None;
  };
}

-- round a part that is used in this way
abbrev pub used_as : Used → Around → Around
used_as u w = record w { used = u }

abbrev pub freely : Around → Around
freely = used_as free

-- round a part that is a failure context
abbrev pub caught : Around → Around
caught w = record w {
  used = free;
  is_caught = true;
  is_tried = true;
  may_return = false;
  may_break = false;
}

-- round the body of the `loop` with this number
abbrev pub looped : ℕ → Around → Around
looped n w = record w { used = free; enclosing = Some n; may_break = true; repeats = true }

-- round the body of a `for`
abbrev pub repeated : Around → Around
repeated w = record w { used = free; repeats = true }

-- round an arm or the body of a `branch`
abbrev pub armed : Around → Around
armed w = record w { used = free; may_return = false; may_break = false; repeats = false }

-- round the block of a `defer`
abbrev pub deferred : Around → Around
deferred w = record w {
  used = free;
  is_caught = false;
  is_deferred = true;
  may_return = false;
  may_break = false;
}

-- round the left operand of a chain: that of `or` is a failure context
abbrev pub left_of : Operator → Around → Around
left_of o.Or w = caught w
left_of o.And w = freely w
left_of o.Add w = freely w
left_of o.Sub w = freely w
left_of o.Mul w = freely w
left_of o.Div w = freely w

-- what is indexed is used in the target of a `set` or elsewhere, as the index is
abbrev pub indexed_use : Used → Used
indexed_use free = callee
indexed_use callee = callee
indexed_use object = callee
indexed_use (argument f i) = callee
indexed_use (value w) = callee
indexed_use target = base
indexed_use base = base
indexed_use spawned = callee

abbrev pub indexed : Around → Around
indexed w = used_as (indexed_use w.used) w
