-- The parts of a form, one by one.
use Rattle.std.proofs.Common.{◌≡◌, ℕ, ◌+◌, ◌<◌, ◌≤◌, List, length, map, drop, get_or, sym, ap, ◌∙◌}
use Rattle.verse_tree.specs.Tree.{Trees, no_trees, more_trees}
use Rattle.verse_tree.specs.View.{tree_of, trees}
use Rattle.verse_tree.specs.declared.exprs.Expr.{Expr}
use Rattle.verse_tree.specs.declared.programs.Program.{Program}
use Rattle.lower_code.specs.Arounds.{up}
use Rattle.lower_code.specs.Scopes.{Scope}
use Rattle.lower_code.specs.declared.arounds.Around.{Around}
use Rattle.lower_expr.specs.Building.{Built, made}
use Rattle.lower_expr.proofs.Laws.{made_then, made_nothing}
use Rattle.lower_parts.specs.Parts.{tree_code, operands_code}
use Rattle.lower_parts.proofs.Lists.{seen_next, seen_none}

-- from the i-th part on
abbrev pub left : List Expr → ℕ → Trees
left xs i = trees (map tree_of (drop i xs))

pub left_next : (xs : List Expr) (i : ℕ) (x : Expr) → i < length xs → x ≡ get_or xs i x →
    left xs i ≡ more_trees (tree_of x) (left xs (i + 1))
left_next xs i x h e = ap trees (seen_next tree_of xs i x h e)

pub left_none : (xs : List Expr) (i : ℕ) → length xs ≤ i → left xs i ≡ no_trees
left_none xs i h = ap trees (seen_none tree_of xs i h)

operands_at : (p : Program) (xs : List Expr) (i : ℕ) (x : Expr) (sc : Scope) (a : Around) (b : Built) → i < length xs →
    x ≡ get_or xs i x →
    made (operands_code p (left xs i) sc a) b ≡
    made (operands_code p (left xs (i + 1)) sc (up a)) (made (tree_code p (tree_of x) sc a)
    b)
operands_at p xs i x sc a b h e =
    ap (λ ts. made (operands_code p ts sc a) b) (left_next xs i x h e)
    ∙ made_then (tree_code p (tree_of x) sc a) (operands_code p (left xs (i + 1)) sc (up a)) b

-- what is left ends as all does: behind one operand more, and where none is left
pub operands_next : (p : Program) (xs : List Expr) (i : ℕ) (x : Expr) (sc here : Scope) (a above : Around)
    (b behind all : Built) →
    i < length xs → x ≡ get_or xs i x → here ≡ sc → behind ≡ made (tree_code p (tree_of x) here a) b → above ≡ up a →
    made (operands_code p (left xs i) sc a) b ≡ all → made (operands_code p (left xs (i + 1)) sc above) behind ≡ all
operands_next p xs i x sc here a above b behind all h e k g f is =
    ap (λ c. made (operands_code p (left xs (i + 1)) sc c) behind) f
    ∙ ap (made (operands_code p (left xs (i + 1)) sc (up a))) (g ∙ ap (λ s. made (tree_code p (tree_of x) s a) b) k)
    ∙ sym (operands_at p xs i x sc a b h e) ∙ is

pub operands_done : (p : Program) (xs : List Expr) (i : ℕ) (sc : Scope) (a : Around) (b all : Built) → length xs ≤ i →
    made (operands_code p (left xs i) sc a) b ≡ all → b ≡ all
operands_done p xs i sc a b all h is =
    sym (ap (λ ts. made (operands_code p ts sc a) b) (left_none xs i h) ∙ made_nothing b) ∙ is
