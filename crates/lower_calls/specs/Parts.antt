-- The code of forms, in a program.
use Rattle.std.specs.Prelude.{ℕ, true}
use Rattle.verse_base.specs.declared.places.Place.{Place}
use Rattle.verse_tree.specs.Tree.{Bytes, Tree, Trees}
use Rattle.verse_tree.specs.declared.programs.Program.{Program}
use Rattle.verse_meaning.specs.Programs.{program_of, ref_at}
use Rattle.verse_meaning.specs.Evaluating.{member_form}
use Rattle.lower_code.specs.Pieces.{Maker, ◌then◌}
use Rattle.lower_code.specs.Scopes.{Scope}
use Rattle.lower_code.specs.declared.arounds.Around.{Around}
use Rattle.lower_code.specs.Applied.{finish}
use Rattle.lower_code.specs.Lowering.{how_many, grouped, arm_spots, task_arms}
use Rattle.lower_lookup.specs.Types.{differ_of}
use Rattle.lower_expr.specs.Building.{Built}
use Rattle.lower_parts.specs.Parts.{tree_code}
use Rattle.lower_task.specs.Tasks as task
use Rattle.lower_task.specs.Tasks.{kind_number}
use Rattle.lower_task.specs.declared.groups.Kind.{Kind}

module _ (p : Program) where
  -- `sync`, `race` or `rush`
  abbrev pub group_code : Kind → Place → Trees → Scope → Maker
  group_code k pl ts sc =
      grouped (kind_number k) (how_many ts) pl (arm_spots (program_of p) (differ_of p) ts sc)
      (task_arms (program_of p) (differ_of p) ts sc)

  abbrev pub arm_code : Scope → Tree → Maker
  arm_code = task.arm (program_of p) (differ_of p)

  -- the arms of a group, whose operations stand from the index `at` on
  abbrev pub arms_lowered : Scope → Trees → (at : ℕ) → Built → Built
  arms_lowered = task.arms_lowered (program_of p) (differ_of p)

  -- what is read of an object by its member
  abbrev pub read_code : (n : ℕ) → Tree → Bytes → Scope → Around → Maker
  read_code n b x sc a =
      tree_code p b sc a then finish (member_form (ref_at (program_of p) n) x) 1 true
