-- Forms of two shapes have no such parts.
use Rattle.std.proofs.Common.{◌≡◌, ℕ, Option, Some, None, refl}
use Rattle.verse_tree.specs.Tree.{Tree, Trees}
use Rattle.verse_tree.specs.View.{return_shape, if_shape, event_shape, sleep_shape}
use Rattle.verse_tree.specs.declared.types.TyExpr.{TyExpr}
use Rattle.lower_calls.specs.Aims.{aimed_in, at_other, levels_in}
use Rattle.lower_calls.specs.Views.{object_in, chained_in, called_in}

pub object_returns : (o : Option Tree) → object_in (return_shape o) ≡ None
object_returns None = refl
object_returns (Some a) = refl

pub object_chooses : (cs : Trees) (a : Tree) (o : Option Tree) → object_in (if_shape cs a o) ≡ None
object_chooses cs a None = refl
object_chooses cs a (Some b) = refl

pub object_sleeps : (o : Option ℕ) → object_in (sleep_shape o) ≡ None
object_sleeps None = refl
object_sleeps (Some d) = refl

pub object_event : (o : Option TyExpr) → object_in (event_shape o) ≡ None
object_event None = refl
object_event (Some w) = refl

pub chained_returns : (o : Option Tree) → chained_in (return_shape o) ≡ None
chained_returns None = refl
chained_returns (Some a) = refl

pub chained_chooses : (cs : Trees) (a : Tree) (o : Option Tree) → chained_in (if_shape cs a o) ≡ None
chained_chooses cs a None = refl
chained_chooses cs a (Some b) = refl

pub chained_sleeps : (o : Option ℕ) → chained_in (sleep_shape o) ≡ None
chained_sleeps None = refl
chained_sleeps (Some d) = refl

pub chained_event : (o : Option TyExpr) → chained_in (event_shape o) ≡ None
chained_event None = refl
chained_event (Some w) = refl

pub called_returns : (o : Option Tree) → called_in (return_shape o) ≡ None
called_returns None = refl
called_returns (Some a) = refl

pub called_chooses : (cs : Trees) (a : Tree) (o : Option Tree) → called_in (if_shape cs a o) ≡ None
called_chooses cs a None = refl
called_chooses cs a (Some b) = refl

pub called_sleeps : (o : Option ℕ) → called_in (sleep_shape o) ≡ None
called_sleeps None = refl
called_sleeps (Some d) = refl

pub called_event : (o : Option TyExpr) → called_in (event_shape o) ≡ None
called_event None = refl
called_event (Some w) = refl

pub aims_returns : (o : Option Tree) → aimed_in (return_shape o) ≡ at_other
aims_returns None = refl
aims_returns (Some a) = refl

pub aims_chooses : (cs : Trees) (a : Tree) (o : Option Tree) → aimed_in (if_shape cs a o) ≡ at_other
aims_chooses cs a None = refl
aims_chooses cs a (Some b) = refl

pub aims_sleeps : (o : Option ℕ) → aimed_in (sleep_shape o) ≡ at_other
aims_sleeps None = refl
aims_sleeps (Some d) = refl

pub aims_event : (o : Option TyExpr) → aimed_in (event_shape o) ≡ at_other
aims_event None = refl
aims_event (Some w) = refl

pub levels_returns : (o : Option Tree) → levels_in (return_shape o) ≡ 0
levels_returns None = refl
levels_returns (Some a) = refl

pub levels_chooses : (cs : Trees) (a : Tree) (o : Option Tree) → levels_in (if_shape cs a o) ≡ 0
levels_chooses cs a None = refl
levels_chooses cs a (Some b) = refl

pub levels_sleeps : (o : Option ℕ) → levels_in (sleep_shape o) ≡ 0
levels_sleeps None = refl
levels_sleeps (Some d) = refl

pub levels_event : (o : Option TyExpr) → levels_in (event_shape o) ≡ 0
levels_event None = refl
levels_event (Some w) = refl
