-- What the calls of `sync`, `race`, `rush` and `branch` make of the code so far.
use Rattle.std.specs.Prelude.{ℕ, zero, suc, length, Option, Some, None, Bool}
use Rattle.verse_base.specs.declared.places.Place.{Place}
use Rattle.verse_tree.specs.Tree.{Tree, Trees, no_trees, more_trees}
use Rattle.verse_code.specs.declared.operations.Op.{Op}
use Rattle.verse_code.specs.declared.operations.Op.TheVariants as o
use Rattle.verse_meaning.specs.Programs.{Program}
use Rattle.lower_code.specs.Pieces.{Maker, one, ◌then◌}
use Rattle.lower_code.specs.Scopes.{Scope}
use Rattle.lower_code.specs.Arounds.{fresh}
use Rattle.lower_code.specs.Lowering.{piece}
use Rattle.lower_expr.specs.Building.{Built, pushed, with_place, ended_here, made}
use Rattle.lower_task.specs.declared.groups.Kind.{Kind}
use Rattle.lower_task.specs.declared.groups.Kind.TheVariants as kind

abbrev pub kind_number : Kind → ℕ
kind_number kind.Sync = 0
kind_number kind.Race = 1
kind_number kind.Rush = 2

-- arms whose labels are open
abbrev pub arms_open : (n : ℕ) → Built → Built
arms_open zero b = b
arms_open (suc n) b = arms_open n (pushed (o.Arm 0) b)

unfoldable pub group_begun : (kind arms : ℕ) → Place → Built → Built
group_begun k n p b = pushed (o.Jump 0)
    (arms_open n (pushed (o.Group k n (length b.places)) (with_place p b)))

unfoldable pub branch_ended : (begun : ℕ) → Built → Built
branch_ended begun b = ended_here begun (pushed o.ArmEnd b)

abbrev pub sleep_op : Option ℕ → Op
sleep_op None = o.Forever
sleep_op (Some d) = o.Sleep d

module _ (p : Program) (differ : ℕ → ℕ → Bool) (sc : Scope) where
  abbrev pub arm : Tree → Maker
  arm t = piece p differ t sc fresh then one o.ArmEnd

  -- the arms of a group: the label of each, from the index `at` on, is where the arm begins
  abbrev pub arms_lowered : Trees → (at : ℕ) → Built → Built
  arms_lowered no_trees at b = b
  arms_lowered (more_trees t ts) at b = arms_lowered ts (suc at) (made (arm t) (ended_here at b))
