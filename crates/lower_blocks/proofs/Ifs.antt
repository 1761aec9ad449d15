-- `if`, by its steps.
use Rattle.std.proofs.Common.{◌≡◌, ℕ, length, Option, Some, None, sym, ap, ◌∙◌}
use Rattle.verse_tree.specs.Tree.{Tree, Trees}
use Rattle.verse_tree.specs.View.{if_shape}
use Rattle.verse_tree.specs.declared.programs.Program.{Program}
use Rattle.verse_code.specs.declared.operations.Op.TheVariants as o
use Rattle.lower_code.specs.Pieces.{Maker}
use Rattle.lower_code.specs.Scopes.{Scope}
use Rattle.lower_code.specs.Arounds.{enclosed}
use Rattle.lower_code.specs.Lowering.{scope_behind}
use Rattle.lower_code.specs.declared.arounds.Around.{Around}
use Rattle.lower_expr.specs.Building.{Built, pushed, ended_here, made}
use Rattle.lower_fail.specs.Attempts.{held, other_begun, if_alone_ended}
use Rattle.lower_fail.proofs.Forms.{if_law, if_alone_law}
use Rattle.lower_parts.specs.Parts.{tree_code, form_code, no_place}
use Rattle.lower_blocks.specs.Codes.{statements_code}

module _ (p : Program) (sc : Scope) (a : Around) (cs : Trees) (t : Tree) where
  pub if_alone_by : (e : Option Tree) (n : ℕ) (b c d r : Built) → e ≡ None → n ≡ length b.ops → c ≡ pushed (o.Try 0) b →
      d ≡ made (tree_code p t (scope_behind cs sc) a) (held (made (statements_code p cs sc (enclosed a)) c)) →
      r ≡ if_alone_ended n d →
      r ≡ made (form_code p (if_shape cs t e) 0 no_place sc a) b
  if_alone_by e n b c d r h m f g is =
      let conditions : Maker = statements_code p cs sc (enclosed a) in
      let taken : Maker = tree_code p t (scope_behind cs sc) a in
      is ∙ ap (λ k. if_alone_ended k d) m
      ∙ ap (if_alone_ended (length b.ops)) (g ∙ ap (λ k. made taken (held (made conditions k))) f)
      ∙ sym (if_alone_law conditions taken b) ∙ ap (λ e. made (form_code p (if_shape cs t e) 0 no_place sc a) b) (sym h)

  pub if_else_by : (e : Option Tree) (other : Tree) (here : Scope) (n : ℕ) (b c d r : Built) →
      e ≡ Some other → here ≡ sc →
      n ≡ length b.ops →
      c ≡ pushed (o.Try 0) b →
      d ≡ made (tree_code p t (scope_behind cs sc) a) (held (made (statements_code p cs sc (enclosed a)) c)) →
      r ≡ ended_here (length d.ops) (made (tree_code p other here a) (other_begun n d)) →
      r ≡ made (form_code p (if_shape cs t e) 0 no_place sc a) b
  if_else_by e other here n b c d r h s m f g is =
      let conditions : Maker = statements_code p cs sc (enclosed a) in
      let taken : Maker = tree_code p t (scope_behind cs sc) a in
      is ∙ ap (λ k. ended_here (length d.ops) (made (tree_code p other k a) (other_begun n d))) s
      ∙ ap (λ k. ended_here (length d.ops) (made (tree_code p other sc a) (other_begun k d))) m
      ∙ ap (λ k. ended_here (length k.ops) (made (tree_code p other sc a) (other_begun (length b.ops) k)))
      (g ∙ ap (λ k. made taken (held (made conditions k))) f)
      ∙ sym (if_law conditions taken (tree_code p other sc a) b)
      ∙ ap (λ e. made (form_code p (if_shape cs t e) 0 no_place sc a) b) (sym h)
