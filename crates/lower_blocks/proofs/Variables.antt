-- The definition of a variable.
use Rattle.std.proofs.Common.{◌≡◌, ℕ, length, sym, ap, ◌∙◌}
use Rattle.verse_base.specs.declared.places.Place.{Place}
use Rattle.verse_tree.specs.Tree.{Tree}
use Rattle.verse_tree.specs.declared.programs.Program.{Program}
use Rattle.verse_code.specs.declared.operations.Op.TheVariants as o
use Rattle.lower_code.specs.Pieces.{one, placed, kept, ◌then◌}
use Rattle.lower_code.specs.Scopes.{Scope}
use Rattle.lower_code.specs.declared.arounds.Around.{Around}
use Rattle.lower_expr.specs.Building.{Built, made}
use Rattle.lower_expr.proofs.Laws.{made_then}
use Rattle.lower_parts.specs.Parts.{tree_code, form_code}
use Rattle.lower_blocks.specs.Codes.{variable_shape}

pub variable_by : (p : Program) (e : Tree) (pl : Place) (sc : Scope) (a : Around) (l : ℕ) (b c r : Built) →
    l ≡ length sc →
    c ≡ made (tree_code p e sc a) b → r ≡ made (placed pl o.New then kept l then one (o.Load 0)) c →
    r ≡ made (form_code p (variable_shape e) 0 pl sc a) b
variable_by p e pl sc a l b c r h f is =
    is ∙ ap (λ l. made (placed pl o.New then kept l then one (o.Load 0)) c) h
    ∙ ap (made (placed pl o.New then kept (length sc) then one (o.Load 0))) f
    ∙ sym (made_then (tree_code p e sc a) (placed pl o.New then kept (length sc) then one (o.Load 0)) b)
