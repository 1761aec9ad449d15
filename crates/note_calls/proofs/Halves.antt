-- The parts of what is applied.
use Rattle.std.proofs.Common.{◌≡◌, List, map, ap, ◌∙◌}
use Rattle.verse_tree.specs.Tree.{Tree, Trees}
use Rattle.verse_tree.specs.View.{tree_of, trees, applied_of}
use Rattle.verse_tree.specs.declared.exprs.Applied.{Applied, out-Applied}
use Rattle.verse_tree.specs.declared.exprs.Expr.{Expr}
use Rattle.lower_calls.proofs.Halves.{callee_is, args_are}
use Rattle.lower_notes.specs.Stretches.{Walk}
use Rattle.note_stretches.specs.Noted.{Noted, walked}

-- what adds the states of a callee and arguments adds that of their struct
pub applied_walked : (f : Tree → Trees → Walk) (q : Applied) (e : Expr) (es : List Expr) (x last : Noted) →
    e ≡ (out-Applied q).callee →
    es ≡ (out-Applied q).args → last ≡ walked (f (tree_of e) (trees (map tree_of es))) x →
    last ≡ walked (f (applied_of q).0 (trees (applied_of q).1)) x
applied_walked f q e es x last h k is =
    is ∙ ap (λ a. walked (f a (trees (map tree_of es))) x) (ap tree_of h ∙ callee_is q)
    ∙ ap (λ bs. walked (f (applied_of q).0 (trees bs)) x) (ap (map tree_of) k ∙ args_are q)
