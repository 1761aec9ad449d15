-- The code so far, what the builder's calls make of it, and what a stretch of code adds to it.
use Rattle.std.specs.Prelude.{zero, drop, take, ◌-◌, max, ℕ, suc, List, [], ◌∷◌, ◌++◌, length, map}
use Rattle.std.specs.Prelude.{Option, Some, None, slice_get, slice_set}
use Rattle.verse_base.specs.declared.places.Place.{Place}
use Rattle.verse_tree.specs.Tree.{Bytes}
use Rattle.verse_code.specs.declared.operations.Op.{Op}
use Rattle.verse_code.specs.declared.operations.Op.TheVariants as o
use Rattle.lower_code.specs.Pieces.{Spot, Item, sure, leaving, Piece, Maker}
use Rattle.lower_expr.specs.declared.builder.Builder.{Builder}

-- the operations so far, in which a label that is open is 0; the indices of the jumps that leave
-- the innermost loop, in which a label is the number of operands above those of the loop; the
-- tables; how many locals are needed
pub record Built : Type 0 where
  pub ops : List Op
  pub exits : List ℕ
  pub places : List Place
  pub texts : List Bytes
  pub locals : ℕ

unfoldable pub built : Builder → Built
built b = record {
  ops = b.ops.items;
  exits = b.exits.items;
  places = b.places;
  texts = b.texts;
  locals = b.locals;
}

abbrev pub empty : Built
empty = record { ops = []; exits = []; places = []; texts = []; locals = 0 }

-- an operation whose label is open, with its label
abbrev pub relabelled : Op → ℕ → Op
relabelled (o.Jump l) m = o.Jump m
relabelled (o.Same l) m = o.Same m
relabelled (o.Try l) m = o.Try m
relabelled (o.Arm l) m = o.Arm m
relabelled (o.Branch l) m = o.Branch m
relabelled (o.Defer l) m = o.Defer m
relabelled op m = op

unfoldable pub pushed : Op → Built → Built
pushed op b = record b { ops = b.ops ++ op ∷ [] }

unfoldable pub with_place : Place → Built → Built
with_place p b = record b { places = b.places ++ p ∷ [] }

unfoldable pub with_text : Bytes → Built → Built
with_text t b = record b { texts = b.texts ++ t ∷ [] }

unfoldable pub with_local : ℕ → Built → Built
with_local l b = record b { locals = max b.locals (suc l) }

-- the locals are counted anew
unfoldable pub with_locals : ℕ → Built → Built
with_locals n b = record b { locals = n }

unfoldable pub opened_jump : ℕ → Built → Built
opened_jump n b = record b { ops = b.ops ++ o.Jump n ∷ []; exits = b.exits ++ length b.ops ∷ [] }

abbrev pub patched_ops : Option Op → ℕ → ℕ → List Op → List Op
patched_ops None at label ops = ops
patched_ops (Some op) at label ops = slice_set ops at (relabelled op label)

unfoldable pub patched : (at label : ℕ) → Built → Built
patched at label b = record b { ops = patched_ops (slice_get b.ops at) at label b.ops }

-- the label is the index of the next operation
unfoldable pub ended_here : (at : ℕ) → Built → Built
ended_here at b = patched at (length b.ops) b

-- What a piece adds.
abbrev pub raw : Item → Op
raw (sure op) = op
raw (leaving n) = o.Jump n

abbrev pub opened : List Item → (at : ℕ) → List ℕ
opened [] a = []
opened (sure op ∷ is) a = opened is (suc a)
opened (leaving n ∷ is) a = a ∷ opened is (suc a)

abbrev pub spot : Built → Spot
spot b = record { at = length b.ops; place = length b.places; text = length b.texts }

abbrev pub with_piece : Built → Piece → Built
with_piece b p = record {
  ops = b.ops ++ map raw p.items;
  exits = b.exits ++ opened p.items (length b.ops);
  places = b.places ++ p.places;
  texts = b.texts ++ p.texts;
  locals = max b.locals p.locals;
}

-- what a maker adds
unfoldable pub made : Maker → Built → Built
made f b = with_piece b (f (spot b))

-- The end of a loop: the operands above those of the loop that a jump out of it drops.
abbrev pub height_of : Option Op → ℕ
height_of (Some (o.Jump n)) = n
height_of other = 0

abbrev pub deepest_at : List ℕ → List Op → ℕ
deepest_at [] ops = 0
deepest_at (e ∷ es) ops = max (height_of (slice_get ops e)) (deepest_at es ops)

abbrev pub led_out : Op → (out : ℕ) → Op
led_out (o.Jump n) out = o.Jump (out - n)
led_out op out = op

abbrev pub closed_op : Option Op → (at out : ℕ) → List Op → List Op
closed_op None at out ops = ops
closed_op (Some op) at out ops = slice_set ops at (led_out op out)

abbrev pub closed_at : List ℕ → (out : ℕ) → List Op → List Op
closed_at [] out ops = ops
closed_at (e ∷ es) out ops = closed_at es out (closed_op (slice_get ops e) e out ops)

unfoldable pub exit_closed : (at out : ℕ) → Built → Built
exit_closed at out b = record b { ops = closed_op (slice_get b.ops at) at out b.ops }

unfoldable pub all_closed : List ℕ → (out : ℕ) → Built → Built
all_closed es out b = record b { ops = closed_at es out b.ops }

abbrev pub dropped : ℕ → Built → Built
dropped zero b = b
dropped (suc n) b = dropped n (pushed o.Drop b)

unfoldable pub with_exits : (m : ℕ) → Built → Built
with_exits m b = record b { exits = take m b.exits }

-- the exits from the m-th on lead to the end of the loop
abbrev pub exits_closed : (m : ℕ) → Built → Built
exits_closed m b = with_exits m (all_closed (drop m b.exits) (length b.ops) b)

unfoldable pub loop_ended : (m : ℕ) → Built → Built
loop_ended m b = pushed o.Unit (exits_closed m (dropped (deepest_at (drop m b.exits) b.ops) b))
