-- The bases of targets, and what is above many operands.
use Rattle.std.proofs.Common.{◌≡◌, ℕ, zero, suc, ◌+◌, Bool, ap, ◌∙◌, sym, arith}
use Rattle.verse_tree.specs.Tree.{Tree}
use Rattle.verse_meaning.specs.Programs.{Program}
use Rattle.verse_meaning.specs.Residuals.{Base}
use Rattle.lower_code.specs.Scopes.{Scope}
use Rattle.lower_code.specs.Lowering.{has_base, named_base, member_base}
use Rattle.lower_lookup.specs.Targets.{kind_of, by_kind}
use Rattle.lower_lookup.specs.declared.targets.Target.{Target}
use Rattle.lower_lookup.proofs.Targeting.{has_base_is}
use Rattle.lower_code.specs.declared.arounds.Around.{Around}
use Rattle.lower_code.specs.Arounds.{up, raised}

pub raised_is : (n : ℕ) (a : Around) → raised n a ≡ record a { height = a.height + n }
raised_is zero a =
    let same : a.height ≡ a.height + 0 = omega arith in
    ap (λ h. record a { height = h }) same
raised_is (suc n) a =
    let same : suc a.height + n ≡ a.height + suc n = omega arith in
    raised_is n (up a) ∙ ap (λ h. record a { height = h }) same

-- whether the base of a target is there, by what the target is
pub has_base_by : (p : Program) (k : ℕ → ℕ → Bool) (b : Tree) (base : Base) (sc : Scope) (kind : Target)
    (there : Bool) → kind ≡ kind_of b →
    there ≡ by_kind kind (named_base p k base sc) (member_base p k base) → there ≡ has_base p k b base sc
has_base_by p k b base sc kind there e is =
    is ∙ ap (λ t. by_kind t (named_base p k base sc) (member_base p k base)) e ∙ sym (has_base_is p k base sc b)
