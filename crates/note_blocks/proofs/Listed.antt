-- Statements, one by one.
use Rattle.std.proofs.Common.{◌≡◌, ℕ, ◌+◌, ◌<◌, ◌≤◌, List, [], ◌∷◌, length, map, get_or, Bool, sym, ap, ◌∙◌, arith}
use Rattle.verse_tree.specs.View.{tree_of, trees}
use Rattle.verse_tree.specs.declared.exprs.Expr.{Expr}
use Rattle.verse_tree.specs.declared.programs.Program.{Program}
use Rattle.verse_meaning.specs.Evaluating.{statement_of}
use Rattle.verse_sorts.specs.Sorts as s
use Rattle.lower_code.specs.Scopes.{Scope}
use Rattle.lower_code.specs.Lowering.{scope_stated, any_defer}
use Rattle.lower_code.specs.declared.arounds.Around.{Around}
use Rattle.lower_parts.proofs.Operands.{left, left_next, left_none}
use Rattle.lower_blocks.specs.Codes.{around_behind}
use Rattle.lower_notes.specs.States.{pops, gives}
use Rattle.lower_notes.specs.Stretches.{one, leave, when, ◌then◌}
use Rattle.note_stretches.specs.Noted.{Noted, walked}
use Rattle.note_stretches.proofs.Laws.{walked_then, walked_nothing}
use Rattle.note_blocks.specs.Walks.{stated_walk, statements_walk, more_walk}

module _ (p : Program) (xs : List Expr) (i : ℕ) where
  more_at : (x : Expr) (sc : Scope) (a : Around) (b : Noted) → i < length xs → x ≡ get_or xs i x →
      walked (more_walk p (left xs i) sc a) b ≡
      walked (more_walk p (left xs (i + 1)) (scope_stated (statement_of (tree_of x)) sc) (around_behind p (tree_of x) a))
      (walked (stated_walk p (tree_of x) sc a) (walked (one (pops 1)) b))
  more_at x sc a b h e =
      let rest =
      more_walk p (left xs (i + 1)) (scope_stated (statement_of (tree_of x)) sc) (around_behind p (tree_of x) a) in
      ap (λ ts. walked (more_walk p ts sc a) b) (left_next xs i x h e)
      ∙ walked_then (one (pops 1)) (stated_walk p (tree_of x) sc a then rest) b
      ∙ walked_then (stated_walk p (tree_of x) sc a) rest (walked (one (pops 1)) b)

  pub more_next : (x : Expr) (sc there : Scope) (a around : Around) (b c d all : Noted) → i < length xs →
      x ≡ get_or xs i x →
      c ≡ walked (one (pops 1)) b → d ≡ walked (stated_walk p (tree_of x) sc a) c →
      there ≡ scope_stated (statement_of (tree_of x)) sc →
      around ≡ around_behind p (tree_of x) a → walked (more_walk p (left xs i) sc a) b ≡ all →
      walked (more_walk p (left xs (i + 1)) there around) d ≡ all
  more_next x sc there a around b c d all h e f g s k is =
      ap (λ s. walked (more_walk p (left xs (i + 1)) s around) d) s
      ∙ ap (λ a. walked (more_walk p (left xs (i + 1)) (scope_stated (statement_of (tree_of x)) sc) a) d) k
      ∙ ap (walked
      (more_walk p (left xs (i + 1)) (scope_stated (statement_of (tree_of x)) sc) (around_behind p (tree_of x) a)))
      (g ∙ ap (walked (stated_walk p (tree_of x) sc a)) f)
      ∙ sym (more_at x sc a b h e) ∙ is

  pub more_done : (sc : Scope) (a : Around) (b all : Noted) → length xs ≤ i →
      walked (more_walk p (left xs i) sc a) b ≡ all → b ≡ all
  more_done sc a b all h is = sym (ap (λ ts. walked (more_walk p ts sc a) b) (left_none xs i h) ∙ walked_nothing b) ∙ is

module _ (p : Program) (sc : Scope) (a : Around) where
  pub no_statements : (xs : List Expr) (b c : Noted) → length xs ≡ 0 → c ≡ walked (one (gives 0 s.unit)) b →
      c ≡ walked (statements_walk p (trees (map tree_of xs)) sc a) b
  no_statements [] b c h is = is
  no_statements (x ∷ xs) b c h is = absurd (omega (arith, h))

  first_stated : (x : Expr) (rest : List Expr) (b : Noted) →
      walked (statements_walk p (trees (map tree_of (x ∷ rest))) sc a) b ≡
      walked (when (any_defer (trees (map tree_of (x ∷ rest)))) (leave a.defers))
      (walked (more_walk p (trees (map tree_of rest)) (scope_stated (statement_of (tree_of x)) sc)
      (around_behind p (tree_of x) a))
      (walked (stated_walk p (tree_of x) sc a) b))
  first_stated x rest b =
      let f = stated_walk p (tree_of x) sc a in
      let g = more_walk p (trees (map tree_of rest)) (scope_stated (statement_of (tree_of x)) sc)
      (around_behind p (tree_of x) a) in
      let h = when (any_defer (trees (map tree_of (x ∷ rest)))) (leave a.defers) in
      walked_then f (g then h) b ∙ walked_then g h (walked f b)

  pub some_statements : (xs rest : List Expr) (x : Expr) (there : Scope) (around : Around) (q : Bool)
      (b c d r : Noted) → xs ≡ x ∷ rest →
      c ≡ walked (stated_walk p (tree_of x) sc a) b → there ≡ scope_stated (statement_of (tree_of x)) sc →
      around ≡ around_behind p (tree_of x) a →
      d ≡ walked (more_walk p (trees (map tree_of rest)) there around) c → q ≡ any_defer (trees (map tree_of xs)) →
      r ≡ walked (when q (leave a.defers)) d → r ≡ walked (statements_walk p (trees (map tree_of xs)) sc a) b
  some_statements xs rest x there around q b c d r e f s k g h is =
      let ts = trees (map tree_of rest) in
      is ∙ ap (λ q. walked (when q (leave a.defers)) d) (h ∙ ap (λ ys. any_defer (trees (map tree_of ys))) e)
      ∙ ap (walked (when (any_defer (trees (map tree_of (x ∷ rest)))) (leave a.defers)))
      (g ∙ ap (λ s. walked (more_walk p ts s around) c) s
      ∙ ap (λ k. walked (more_walk p ts (scope_stated (statement_of (tree_of x)) sc) k) c) k
      ∙ ap (walked (more_walk p ts (scope_stated (statement_of (tree_of x)) sc) (around_behind p (tree_of x) a))) f)
      ∙ sym (first_stated x rest b) ∙ ap (λ ys. walked (statements_walk p (trees (map tree_of ys)) sc a) b) (sym e)
