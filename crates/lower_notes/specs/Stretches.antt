-- Stretches of states, and how they are put together: beside the stretches of code, combinator by
-- combinator.
use Rattle.std.specs.Prelude.{max, ℕ, zero, suc, List, [], ◌∷◌, ◌++◌, Option, Some, None}
use Rattle.std.specs.Prelude.{option_map, Bool, true, false, cond, nat_le}
use Rattle.verse_sorts.specs.Sorts as s
use Rattle.verse_sorts.specs.Sorts.{Sort}
use Rattle.verse_meaning.specs.Programs.{or_else}
use Rattle.lower_code.specs.Pieces.{behind, later}
use Rattle.lower_notes.specs.States.{State, Change, pops, gives, left_with, tried, untried}
use Rattle.lower_notes.specs.States.{in_arm}

-- the states at the operations of a stretch, in order: none where an operation is never reached
pub record Stretch : Type 0 where
  pub states : List (Option State)
  -- what stands behind it: none where it never ends
  pub exit : Option State
  -- with how many operands above those of the innermost loop it is left: at most, and at most
  -- where that is reached
  pub deep : ℕ
  pub left : Option ℕ

-- by the index of the first operation, and the state at it
abbrev pub Walk : Type 0
Walk = (at : ℕ) → Option State → Stretch

abbrev pub straight : List (Option State) → Option State → Stretch
straight xs y = record { states = xs; exit = y; deep = 0; left = None }

abbrev pub nothing : Walk
nothing at x = straight [] x

-- an operation, and what becomes of the state
abbrev pub one : Change → Walk
one h at x = straight (x ∷ []) (option_map h x)

abbrev pub same : Change
same x = x

-- an operation that ends its form: what stands behind it is told by the form
abbrev pub last : Walk
last = one same

-- an operation behind which nothing goes on, such as one where the machine is stuck
abbrev pub ends : Walk
ends at x = straight (x ∷ []) None

-- out of the innermost loop, with so many operands above those of the loop
abbrev pub leave_loop : (height : ℕ) → Walk
leave_loop n at x = record { states = x ∷ []; exit = None; deep = n; left = option_map (λ s. n) x }

-- the deferred blocks from the m-th on run
abbrev pub leave : ℕ → Walk
leave m = one (left_with m)

abbrev pub when : Bool → Walk → Walk
when b f at x = cond b (f at x) (nothing at x)

-- a stretch, or a stuck operation in its place
abbrev pub when_else : Bool → Walk → Walk
when_else true f = f
when_else false f = ends

abbrev pub deeper : Option ℕ → Option ℕ → Option ℕ
deeper None n = n
deeper (Some m) None = Some m
deeper (Some m) (Some n) = Some (max m n)

abbrev pub joined : Stretch → Stretch → Stretch
joined p q = record {
  states = p.states ++ q.states;
  exit = q.exit;
  deep = max p.deep q.deep;
  left = deeper p.left q.left;
}

abbrev pub joined_at : (at : ℕ) → Stretch → Option State → Walk → Stretch
joined_at at p x g = joined p (g (behind p.states at) x)

abbrev pub joined_on : (at : ℕ) → Stretch → Walk → Stretch
joined_on at p g = joined_at at p p.exit g

-- one behind the other
infixr 5 ◌then◌
abbrev pub ◌then◌ : Walk → Walk → Walk
(f then g) at x = joined_on at (f at x) g

-- one behind the other, and both begin with the same state
infixr 5 ◌beside◌
abbrev pub ◌beside◌ : Walk → Walk → Walk
(f beside g) at x = joined_at at (f at x) x g

-- it begins otherwise
abbrev pub beginning : Change → Walk → Walk
beginning h f at x = f at (option_map h x)

-- What stands behind a form: what stood before it, with its value.

abbrev pub with_value : Sort → (before after : Option State) → Option State
with_value a x None = None
with_value a x (Some y) = option_map (gives 0 a) x

abbrev pub giving_of : Sort → Option State → Stretch → Stretch
giving_of a x p = record p { exit = with_value a x p.exit }

abbrev pub giving : Sort → Walk → Walk
giving a f at x = giving_of a x (f at x)

-- the value is noted as one of a wider sort
abbrev pub widened_to : Sort → Stretch → Stretch
widened_to a p = record p { exit = option_map (gives 1 a) p.exit }

abbrev pub widened : Sort → Walk → Walk
widened a f at x = widened_to a (f at x)

-- Labels: an operation leads to the stretch and to what is behind it.

abbrev pub ahead_of : Option State → Stretch → Option State → Stretch
ahead_of x p y = record { states = x ∷ p.states; exit = y; deep = p.deep; left = p.left }

abbrev pub ahead : (into past : ℕ → Change) → Walk → Walk
ahead into past f at x = ahead_of x (f (suc at) (option_map (into at) x)) (option_map (past at) x)

-- a Jump over what is never reached
abbrev pub over : Walk → Walk
over f at x = ahead_of x (f (suc at) None) x

-- what an operation leads to, whatever its index
abbrev pub always : Change → ℕ → Change
always h at = h

abbrev pub attempt : Walk → Walk
attempt = ahead tried (always same)

-- An operation leads to two stretches, with a Jump over the second behind the first. They go on
-- together: with the value of the form.
abbrev pub either_of : Option State → Stretch → Stretch → Stretch
either_of x p q = record {
  states = x ∷ p.states ++ p.exit ∷ q.states;
  exit = or_else p.exit q.exit;
  deep = max p.deep q.deep;
  left = deeper p.left q.left;
}

abbrev pub either_from : (at : ℕ) → Option State → Stretch → Option State → Walk → Stretch
either_from at x p y g = either_of x p (g (suc (behind p.states (suc at))) y)

abbrev pub either : (into other : ℕ → Change) → Walk → Walk → Walk
either into other f g at x = either_from at x (f (suc at) (option_map (into at) x))
    (option_map (other at) x) g

abbrev pub either_try : Walk → Walk → Walk
either_try = either tried (always same)

abbrev pub either_same : Walk → Walk → Walk
either_same = either (always (pops 2)) (always (pops 2))

-- Loops: where one is left with n operands above its own, the n-th last Drop is reached, and all
-- behind it. Nothing is asked of those operands.
abbrev pub anys : ℕ → List Sort → List Sort
anys zero st = st
anys (suc n) st = s.any ∷ anys n st

abbrev pub above : ℕ → Change
above n x = record x { stack = anys n x.stack }

abbrev pub is_left : ℕ → Option ℕ → Bool
is_left n None = false
is_left n (Some m) = nat_le n m

abbrev pub out_with : ℕ → Option ℕ → Option State → Option State
out_with n left x = cond (is_left n left) (option_map (above n) x) None

-- at the Drops, and at the Unit behind them
abbrev pub outs : ℕ → Option ℕ → Option State → List (Option State)
outs zero left x = out_with 0 left x ∷ []
outs (suc n) left x = out_with (suc n) left x ∷ outs n left x

abbrev pub closing_of : Option State → Stretch → Stretch
closing_of x p = straight (p.states ++ outs p.deep p.left x) (out_with 0 p.left x)

abbrev pub closing : Walk → Walk
closing f at x = closing_of x (f at x)

-- Jump A; B: the body; Drop; A: Again B; and the end
abbrev pub looping : Walk → Walk
looping f = closing (ahead (always same) (always same) (f then one (pops 1)) then ends)

-- Commit; Each or Range; Jump T; B: Try T; the clauses and what is in them; T: Take B
abbrev pub turning : (domain turn : Change) → Walk → Walk
turning domain turn f = one untried then one domain then
    ahead (always turn) (always same) (attempt f) then
    last

-- an arm that gives this
abbrev pub arm : Sort → Walk → Walk
arm a f = beginning (in_arm a) (f then ends)

-- Group; its Arms, which are reached by no operation; Jump to behind them; the arms
abbrev pub unreached : ℕ → List (Option State) → List (Option State)
unreached zero xs = xs
unreached (suc n) xs = None ∷ unreached n xs

abbrev pub group_of : (arms : ℕ) → Option State → Option State → Stretch → Stretch
group_of m x y p = record {
  states = x ∷ unreached m (y ∷ p.states);
  exit = y;
  deep =
      p.deep;
  left = p.left;
}

abbrev pub grouped : (arms : ℕ) → Sort → Walk → Walk
grouped m a f at x = group_of m x (option_map (gives 0 a) x) (f (later m (suc (suc at))) x)
