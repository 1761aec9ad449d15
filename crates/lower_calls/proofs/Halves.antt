-- The parts of structs of the tree.
use Rattle.std.proofs.Common.{◌≡◌, List, rules, map, ap, sym, ◌∙◌}
use Rattle.verse_tree.specs.Tree.{Tree, Trees}
use Rattle.verse_tree.specs.View.{tree_of, trees, two_of, applied_of}
use Rattle.verse_tree.specs.declared.exprs.Two.{Two, out-Two}
use Rattle.verse_tree.specs.declared.exprs.Applied.{Applied, out-Applied}
use Rattle.verse_tree.specs.declared.exprs.Expr.{Expr, the_lemmas}
use Rattle.lower_code.specs.Pieces.{Maker}
use Rattle.lower_expr.specs.Building.{Built, made}

two_parts : (t : Two) → two_of t ≡ (tree_of (out-Two t).left, tree_of (out-Two t).right)
two_parts t = search (rules, the_lemmas)

pub applied_parts : (t : Applied) → applied_of t ≡ (tree_of (out-Applied t).callee, map tree_of (out-Applied t).args)
applied_parts t = search (rules, the_lemmas)

pub left_is : (t : Two) → tree_of (out-Two t).left ≡ (two_of t).0
left_is t = sym (ap (λ q. q.0) (two_parts t))

pub right_is : (t : Two) → tree_of (out-Two t).right ≡ (two_of t).1
right_is t = sym (ap (λ q. q.1) (two_parts t))

pub callee_is : (t : Applied) → tree_of (out-Applied t).callee ≡ (applied_of t).0
callee_is t = sym (ap (λ q. q.0) (applied_parts t))

pub args_are : (t : Applied) → map tree_of (out-Applied t).args ≡ (applied_of t).1
args_are t = sym (ap (λ q. q.1) (applied_parts t))

-- what adds the code of a callee and arguments adds that of their struct
pub applied_made : (f : Tree → Trees → Maker) (q : Applied) (e : Expr) (es : List Expr) (x last : Built) →
    e ≡ (out-Applied q).callee →
    es ≡ (out-Applied q).args → last ≡ made (f (tree_of e) (trees (map tree_of es))) x →
    last ≡ made (f (applied_of q).0 (trees (applied_of q).1)) x
applied_made f q e es x last h k is =
    is ∙ ap (λ a. made (f a (trees (map tree_of es))) x) (ap tree_of h ∙ callee_is q)
    ∙ ap (λ bs. made (f (applied_of q).0 (trees bs)) x) (ap (map tree_of) k ∙ args_are q)

-- and the same for two parts
pub two_made : (f : Tree → Tree → Maker) (q : Two) (e d : Expr) (x last : Built) → e ≡ (out-Two q).left →
    d ≡ (out-Two q).right →
    last ≡ made (f (tree_of e) (tree_of d)) x → last ≡ made (f (two_of q).0 (two_of q).1) x
two_made f q e d x last h k is =
    is ∙ ap (λ a. made (f a (tree_of d)) x) (ap tree_of h ∙ left_is q)
    ∙ ap (λ a. made (f (two_of q).0 a) x) (ap tree_of k ∙ right_is q)
