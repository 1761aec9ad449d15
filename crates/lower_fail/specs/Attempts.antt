-- What the calls of failure contexts, loops and deferred blocks make of the code so far.
use Rattle.std.specs.Prelude.{ℕ, suc, List, [], ◌∷◌, length}
use Rattle.verse_base.specs.declared.places.Place.{Place}
use Rattle.verse_code.specs.declared.operations.Op.{Op}
use Rattle.verse_code.specs.declared.operations.Op.TheVariants as o
use Rattle.lower_expr.specs.Building.{Built, pushed, with_place, with_local, ended_here, loop_ended}
use Rattle.lower_fail.specs.declared.loops.Turn.{Turn}

-- a jump over what follows, at which the operation of index `begun` leads
unfoldable pub other_begun : (begun : ℕ) → Built → Built
other_begun begun b = ended_here begun (pushed (o.Jump 0) b)

-- the conditions of an `if` hold
unfoldable pub held : Built → Built
held b = pushed o.Commit (pushed o.Drop b)

unfoldable pub if_alone_ended : (begun : ℕ) → Built → Built
if_alone_ended begun b = ended_here (length b.ops) (pushed o.Unit (other_begun begun b))

unfoldable pub not_ended : (begun : ℕ) → Built → Built
not_ended begun b = pushed o.Unit
    (ended_here begun (pushed o.Fail (pushed o.Undo (pushed o.Drop b))))

-- behind what holds: an attempt gives it, or false
unfoldable pub or_false : (begun : ℕ) → Built → Built
or_false begun b = ended_here (length b.ops) (pushed o.False (other_begun begun b))

unfoldable pub option_ended : (begun : ℕ) → Place → Built → Built
option_ended begun p b =
    or_false begun (pushed (o.Some (length (pushed o.Commit b).places))
    (with_place p (pushed o.Commit b)))

unfoldable pub logic_ended : (begun : ℕ) → Built → Built
logic_ended begun b = or_false begun (pushed o.True (held b))

-- Loops.
unfoldable pub turned : (begun : ℕ) → Built → Built
turned begun b = pushed (o.Again (suc begun)) (ended_here begun (pushed o.Drop b))

unfoldable pub loop_over : (begun exits : ℕ) → Built → Built
loop_over begun exits b = loop_ended exits (turned begun b)

-- the result of a `for` is in local l
unfoldable pub for_begun : Place → (l : ℕ) → Built → Built
for_begun p l b = pushed (o.Try 0)
    (pushed (o.Put l) (with_local l (pushed (o.Array 0 (length b.places)) (with_place p b))))

unfoldable pub for_ended : (begun l : ℕ) → Built → Built
for_ended begun l b = pushed (o.Get l) (ended_here begun b)

-- the turns of a generator, whose domain is in local l
unfoldable pub turns_begun : Op → (l : ℕ) → Built → Built
turns_begun op l b = pushed (o.Try 0)
    (pushed (o.Jump 0) (pushed op (pushed o.Commit (with_local (suc (suc (suc l))) b))))

-- `begun` is the index of the jump to the Take, with the Try behind it
unfoldable pub turns_ended : (begun l : ℕ) → Built → Built
turns_ended begun l b = pushed (o.Take l (suc (suc l)) (suc begun))
    (ended_here begun (ended_here (suc begun) b))

-- Arms of a `case` whose subject is in local l.
unfoldable pub same_begun : (l : ℕ) → Built → Built
same_begun l b = pushed (o.Same 0) (pushed (o.Get l) b)

-- Deferred blocks.
unfoldable pub defer_ended : (begun : ℕ) → Built → Built
defer_ended begun b = pushed o.Unit (ended_here begun (pushed o.DeferEnd (pushed o.Drop b)))

-- Ends that are open, the outermost first: jumps that lead to one end, and generators.
abbrev pub all_ended : List ℕ → Built → Built
all_ended [] b = b
all_ended (j ∷ js) b = ended_here j (all_ended js b)

abbrev pub turns_closed : List Turn → Built → Built
turns_closed [] b = b
turns_closed (t ∷ ts) b = turns_ended t.begun t.local (turns_closed ts b)
