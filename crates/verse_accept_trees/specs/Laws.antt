-- The law of trees: each that stands in a program that breaks no rule is fine where it stands.
use Rattle.std.specs.Prelude.{◌≡◌, ℕ, Bool, true, List, Some}
use Rattle.verse_tree.specs.Tree.{Written, Tree}
use Rattle.verse_tree.specs.ItemTree.{ItemTree}
use Rattle.verse_tree.specs.Shapes.{as_body, Shaped}
use Rattle.verse_rules_walk.specs.Around.{Around, value}
use Rattle.verse_names_tables.specs.Names.{Table}
use Rattle.verse_names_scopes.specs.Visible.{World}
use Rattle.verse_sound_rules.specs.Found.{Allowed}
use Rattle.verse_sound_rules.specs.Fine.{Fine}
use Rattle.verse_accept_scopes.specs.Holding.{On}
use Rattle.verse_accept_rows.specs.Found.{Found}
use Rattle.verse_accept_classes.specs.Referring.{Names}
use Rattle.verse_accept_classes.specs.Laws.{Quiet, FunctionsStand}
use Rattle.verse_accept_fine.specs.Sorted.{ty_at, sorted, program, Allows, is_array_type}
use Rattle.verse_accept_fine.specs.Sorted.{is_event_type}
use Rattle.verse_accept_trees.specs.Names.{Named}

-- the tables tell of each node whether its type is an array or an event
pub record Told (is : List ItemTree) (arrays events : ℕ → Bool) : Type 0 where
  pub of_arrays : (n : ℕ) → arrays n ≡ is_array_type (ty_at is n)
  pub of_events : (n : ℕ) → events n ≡ is_event_type (ty_at is n)

-- a body or an expression that has to fit a written type, where what stands round it allows this;
-- where `return` may stand there is a result
abbrev pub TreesAreFine : Type 0
TreesAreFine = (is : List ItemTree) (arrays events : ℕ → Bool) → Told is arrays events → Quiet is →
    FunctionsStand is → (w : World) → Names is w → (a : Around) (b : Allowed) → Allows is w a b →
    (a.may_return ≡ true → (v : Written) × (a.owner.result ≡ Some v)) → (u : Written) →
    a.used ≡ value u → (xs : Table) (e : Tree) → Shaped as_body e → On (Found is) w a xs e →
    On Named w a xs e → Fine (program is arrays events) (sorted is) b xs e
