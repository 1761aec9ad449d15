-- What an `if` has, whether or not it has another part.
use Rattle.std.proofs.Common.{◌≡◌, ℕ, Option, Some, None, refl}
use Rattle.verse_tree.specs.Tree.{Tree, Trees}
use Rattle.verse_tree.specs.View.{if_shape}
use Rattle.verse_rules_walk.specs.Around.{Around}
use Rattle.verse_check_typing.specs.Facts.{Facts}
use Rattle.verse_check_typing.specs.Steps.{formed}
use Rattle.verse_check_control.specs.Choices.{choice_type}

pub choice_formed : (f : Facts) (w : Around) (n : ℕ) (cs : Trees) (a : Tree) (o : Option Tree) →
    formed f w n (if_shape cs a o) ≡ record { ty = choice_type f a o; code = None }
choice_formed f w n cs a None = refl
choice_formed f w n cs a (Some b) = refl
