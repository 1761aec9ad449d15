use Rattle.std.proofs.Common.{false, refl, sym, ◌∙◌}
use Rattle.verse_tree.specs.View.{tree_of}
use Rattle.lower_lookup.specs.Members.{base_view}
use Rattle.lower_lookup.specs.declared.targets.Target.TheVariants as target
use Rattle.lower_expr.specs.Locals.{scope_of}
use Rattle.lower_calls.proofs.Aiming.{has_base_by}
use Rattle.lower_calls.proofs.bases.has_base.Goals as goal

pub returns-in_ok-named_base-in-Name : goal.returns-in_ok-named_base-in-Name
returns-in_ok-named_base-in-Name c =
    λ p k. has_base_by p k (tree_of c.args.target.now) (base_view c.args.base) (scope_of c.args.scopes.now)
    target.Name _
    (sym c.in-Name.is ∙ c.target_of.ensures) (c.in_ok-named_base-in-Name.ensures p k)

pub returns-in-Member : goal.returns-in-Member
returns-in-Member c =
    λ p k. has_base_by p k (tree_of c.args.target.now) (base_view c.args.base) (scope_of c.args.scopes.now)
    target.Member _
    (sym c.in-Member.is ∙ c.target_of.ensures) (c.member_base.ensures p k)

pub returns-in-Other : goal.returns-in-Other
returns-in-Other c =
    λ p k. has_base_by p k (tree_of c.args.target.now) (base_view c.args.base) (scope_of c.args.scopes.now)
    target.Other false
    (sym c.in-Other.is ∙ c.target_of.ensures) refl
