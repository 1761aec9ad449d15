-- The parts of a form, one by one.
use Rattle.std.proofs.Common.{◌≡◌, ℕ, ◌+◌, ◌<◌, ◌≤◌, List, length, get_or, sym, ap, ◌∙◌}
use Rattle.verse_tree.specs.View.{tree_of}
use Rattle.verse_tree.specs.declared.exprs.Expr.{Expr}
use Rattle.verse_tree.specs.declared.programs.Program.{Program}
use Rattle.lower_code.specs.Arounds.{up}
use Rattle.lower_code.specs.Scopes.{Scope}
use Rattle.lower_code.specs.declared.arounds.Around.{Around}
use Rattle.lower_parts.proofs.Operands.{left, left_next, left_none}
use Rattle.note_stretches.specs.Noted.{Noted, walked}
use Rattle.note_stretches.proofs.Laws.{walked_then, walked_nothing}
use Rattle.note_parts.specs.Parts.{tree_walk, operands_walk}

operands_at : (p : Program) (xs : List Expr) (i : ℕ) (x : Expr) (sc : Scope) (a : Around) (b : Noted) → i < length xs →
    x ≡ get_or xs i x →
    walked (operands_walk p (left xs i) sc a) b ≡
    walked (operands_walk p (left xs (i + 1)) sc (up a)) (walked (tree_walk p (tree_of x) sc a) b)
operands_at p xs i x sc a b h e =
    ap (λ ts. walked (operands_walk p ts sc a) b) (left_next xs i x h e)
    ∙ walked_then (tree_walk p (tree_of x) sc a) (operands_walk p (left xs (i + 1)) sc (up a)) b

-- what is left ends as all does: behind one operand more, and where none is left
pub operands_next : (p : Program) (xs : List Expr) (i : ℕ) (x : Expr) (sc here : Scope) (a above : Around)
    (b behind all : Noted) →
    i < length xs → x ≡ get_or xs i x → here ≡ sc → behind ≡ walked (tree_walk p (tree_of x) here a) b → above ≡ up a →
    walked (operands_walk p (left xs i) sc a) b ≡ all → walked (operands_walk p (left xs (i + 1)) sc above) behind ≡ all
operands_next p xs i x sc here a above b behind all h e k g f is =
    ap (λ c. walked (operands_walk p (left xs (i + 1)) sc c) behind) f
    ∙ ap (walked (operands_walk p (left xs (i + 1)) sc (up a))) (g ∙ ap (λ s. walked (tree_walk p (tree_of x) s a) b) k)
    ∙ sym (operands_at p xs i x sc a b h e) ∙ is

pub operands_done : (p : Program) (xs : List Expr) (i : ℕ) (sc : Scope) (a : Around) (b all : Noted) → length xs ≤ i →
    walked (operands_walk p (left xs i) sc a) b ≡ all → b ≡ all
operands_done p xs i sc a b all h is =
    sym (ap (λ ts. walked (operands_walk p ts sc a) b) (left_none xs i h) ∙ walked_nothing b) ∙ is
