-- The parts of an index.
use Rattle.std.proofs.Common.{◌≡◌, List, map, ap, ◌∙◌}
use Rattle.verse_tree.specs.View.{tree_of, trees, applied_of}
use Rattle.verse_tree.specs.declared.exprs.Applied.{Applied, out-Applied}
use Rattle.verse_tree.specs.declared.exprs.Expr.{Expr}
use Rattle.lower_calls.proofs.Halves.{callee_is, args_are}

pub callee_by : (t : Applied) (e : Expr) → e ≡ (out-Applied t).callee → tree_of e ≡ (applied_of t).0
callee_by t e h = ap tree_of h ∙ callee_is t

pub args_by : (t : Applied) (es : List Expr) → es ≡ (out-Applied t).args → trees (map tree_of es) ≡ trees (applied_of t).1
args_by t es h = ap (λ k. trees (map tree_of k)) h ∙ ap trees (args_are t)
