-- What the targets of `set` lead to.
use Rattle.std.proofs.Common.{◌≡◌, ℕ, Bool, Option, Some, None, refl}
use Rattle.verse_tree.specs.Tree.{Tree, Trees, tree, Shape}
use Rattle.verse_tree.specs.Tree as t
use Rattle.verse_tree.specs.View.{return_shape, if_shape, event_shape, sleep_shape}
use Rattle.verse_tree.specs.declared.types.TyExpr.{TyExpr}
use Rattle.verse_meaning.specs.Programs.{Program}
use Rattle.verse_meaning.specs.Residuals.{Base}
use Rattle.lower_code.specs.Scopes.{Scope}
use Rattle.lower_code.specs.Lowering.{target_operands_shape, has_base, has_base_shape, named_base, member_base}
use Rattle.lower_lookup.specs.Targets.{kind_of, kind_of_shape, by_kind}
use Rattle.lower_lookup.specs.declared.targets.Target.TheVariants as target

pub operands_returns : (o : Option Tree) → target_operands_shape (return_shape o) ≡ 0
operands_returns None = refl
operands_returns (Some a) = refl

pub operands_chooses : (cs : Trees) (a : Tree) (o : Option Tree) → target_operands_shape (if_shape cs a o) ≡ 0
operands_chooses cs a None = refl
operands_chooses cs a (Some b) = refl

pub operands_sleeps : (o : Option ℕ) → target_operands_shape (sleep_shape o) ≡ 0
operands_sleeps None = refl
operands_sleeps (Some d) = refl

pub operands_event : (o : Option TyExpr) → target_operands_shape (event_shape o) ≡ 0
operands_event None = refl
operands_event (Some w) = refl

pub target_returns : (o : Option Tree) → kind_of_shape (return_shape o) ≡ target.Other
target_returns None = refl
target_returns (Some a) = refl

pub target_chooses : (cs : Trees) (a : Tree) (o : Option Tree) → kind_of_shape (if_shape cs a o) ≡ target.Other
target_chooses cs a None = refl
target_chooses cs a (Some b) = refl

pub target_sleeps : (o : Option ℕ) → kind_of_shape (sleep_shape o) ≡ target.Other
target_sleeps None = refl
target_sleeps (Some d) = refl

pub target_event : (o : Option TyExpr) → kind_of_shape (event_shape o) ≡ target.Other
target_event None = refl
target_event (Some w) = refl

module _ (p : Program) (differ : ℕ → ℕ → Bool) (base : Base) (sc : Scope) where
  mutual
    pub has_base_is : (a : Tree) → has_base p differ a base sc ≡
        by_kind (kind_of a) (named_base p differ base sc) (member_base p differ base)
    has_base_is (tree n pl s) = has_shape s

    has_shape : (s : Shape) → has_base_shape p differ s base sc ≡
        by_kind (kind_of_shape s) (named_base p differ base sc) (member_base p differ base)
    has_shape (t.Shape.block ts) = refl
    has_shape (t.Shape.defer a) = refl
    has_shape (t.Shape.definition x a) = refl
    has_shape (t.Shape.typed x w a) = refl
    has_shape (t.Shape.variable x w a) = refl
    has_shape (t.Shape.assignment x a b) = refl
    has_shape (t.Shape.returned a) = refl
    has_shape t.Shape.returned_unit = refl
    has_shape t.Shape.break_form = refl
    has_shape (t.Shape.if_else ts a b) = refl
    has_shape (t.Shape.if_alone ts a) = refl
    has_shape (t.Shape.chained x a b) = refl
    has_shape (t.Shape.compared x a b) = refl
    has_shape (t.Shape.negation a) = refl
    has_shape (t.Shape.minus a) = refl
    has_shape (t.Shape.call a ts) = refl
    has_shape (t.Shape.index a ts) = has_base_is a
    has_shape (t.Shape.member a x) = refl
    has_shape (t.Shape.query a) = refl
    has_shape (t.Shape.integer x) = refl
    has_shape (t.Shape.character x) = refl
    has_shape (t.Shape.text x) = refl
    has_shape (t.Shape.holes x hs) = refl
    has_shape t.Shape.truth = refl
    has_shape t.Shape.falsehood = refl
    has_shape t.Shape.this = refl
    has_shape (t.Shape.name x) = refl
    has_shape (t.Shape.tuple ts) = refl
    has_shape (t.Shape.array ts) = refl
    has_shape (t.Shape.option ts) = refl
    has_shape (t.Shape.logic ts) = refl
    has_shape (t.Shape.mapping ps) = refl
    has_shape (t.Shape.instance x gs) = refl
    has_shape (t.Shape.event w) = refl
    has_shape t.Shape.bare_event = refl
    has_shape (t.Shape.for_form ts a) = refl
    has_shape (t.Shape.loop_form a) = refl
    has_shape (t.Shape.block_form a) = refl
    has_shape (t.Shape.branch a) = refl
    has_shape (t.Shape.sync ts) = refl
    has_shape (t.Shape.race ts) = refl
    has_shape (t.Shape.rush ts) = refl
    has_shape (t.Shape.cases a ts) = refl
    has_shape (t.Shape.spawn a) = refl
    has_shape (t.Shape.sleep x) = refl
    has_shape t.Shape.sleep_forever = refl
    has_shape (t.Shape.elements x a) = refl
    has_shape (t.Shape.entries x y a) = refl
    has_shape (t.Shape.range x a b) = refl
    has_shape (t.Shape.arm a b) = refl
    has_shape (t.Shape.integer_pattern x) = refl
    has_shape (t.Shape.minus_pattern x) = refl
    has_shape (t.Shape.character_pattern x) = refl
    has_shape (t.Shape.text_pattern x) = refl
    has_shape t.Shape.truth_pattern = refl
    has_shape t.Shape.falsehood_pattern = refl
    has_shape t.Shape.any_pattern = refl
    has_shape (t.Shape.enum_pattern x y) = refl
