-- Statements, one by one.
use Rattle.std.proofs.Common.{◌≡◌, ℕ, ◌+◌, ◌<◌, ◌≤◌, List, [], ◌∷◌, length, map, get_or, Bool, sym, ap, ◌∙◌, arith}
use Rattle.verse_tree.specs.View.{tree_of, trees}
use Rattle.verse_tree.specs.declared.exprs.Expr.{Expr}
use Rattle.verse_tree.specs.declared.programs.Program.{Program}
use Rattle.verse_code.specs.declared.operations.Op.TheVariants as o
use Rattle.verse_meaning.specs.Evaluating.{statement_of}
use Rattle.lower_code.specs.Pieces.{one, when, ◌then◌}
use Rattle.lower_code.specs.Scopes.{Scope}
use Rattle.lower_code.specs.Lowering.{scope_stated, scope_behind, any_defer}
use Rattle.lower_code.specs.declared.arounds.Around.{Around}
use Rattle.lower_expr.specs.Building.{Built, pushed, made}
use Rattle.lower_expr.proofs.Laws.{made_then, made_one, made_nothing}
use Rattle.lower_parts.proofs.Operands.{left, left_next, left_none}
use Rattle.lower_blocks.specs.Codes.{stated_code, statements_code, more_code, around_behind}

module _ (p : Program) (xs : List Expr) (i : ℕ) where
  more_at : (x : Expr) (sc : Scope) (a : Around) (b : Built) → i < length xs → x ≡ get_or xs i x →
      made (more_code p (left xs i) sc a) b ≡
      made (more_code p (left xs (i + 1)) (scope_stated (statement_of (tree_of x)) sc) (around_behind p (tree_of x) a))
      (made (stated_code p (tree_of x) sc a) (pushed o.Drop b))
  more_at x sc a b h e =
      let rest =
      more_code p (left xs (i + 1)) (scope_stated (statement_of (tree_of x)) sc) (around_behind p (tree_of x) a) in
      ap (λ ts. made (more_code p ts sc a) b) (left_next xs i x h e)
      ∙ made_then (one o.Drop) (stated_code p (tree_of x) sc a then rest) b
      ∙ ap (made (stated_code p (tree_of x) sc a then rest)) (made_one o.Drop b)
      ∙ made_then (stated_code p (tree_of x) sc a) rest (pushed o.Drop b)

  pub more_next : (x : Expr) (sc there : Scope) (a around : Around) (b c d all : Built) → i < length xs →
      x ≡ get_or xs i x →
      c ≡ pushed o.Drop b → d ≡ made (stated_code p (tree_of x) sc a) c →
      there ≡ scope_stated (statement_of (tree_of x)) sc →
      around ≡ around_behind p (tree_of x) a → made (more_code p (left xs i) sc a) b ≡ all →
      made (more_code p (left xs (i + 1)) there around) d ≡ all
  more_next x sc there a around b c d all h e f g s k is =
      ap (λ s. made (more_code p (left xs (i + 1)) s around) d) s
      ∙ ap (λ a. made (more_code p (left xs (i + 1)) (scope_stated (statement_of (tree_of x)) sc) a) d) k
      ∙ ap (made
      (more_code p (left xs (i + 1)) (scope_stated (statement_of (tree_of x)) sc) (around_behind p (tree_of x) a)))
      (g ∙ ap (made (stated_code p (tree_of x) sc a)) f)
      ∙ sym (more_at x sc a b h e) ∙ is

  pub more_done : (sc : Scope) (a : Around) (b all : Built) → length xs ≤ i →
      made (more_code p (left xs i) sc a) b ≡ all → b ≡ all
  more_done sc a b all h is = sym (ap (λ ts. made (more_code p ts sc a) b) (left_none xs i h) ∙ made_nothing b) ∙ is

module _ (xs : List Expr) (i : ℕ) where
  pub behind_next : (x : Expr) (sc there all : Scope) → i < length xs → x ≡ get_or xs i x →
      there ≡ scope_stated (statement_of (tree_of x)) sc →
      scope_behind (left xs i) sc ≡ all → scope_behind (left xs (i + 1)) there ≡ all
  behind_next x sc there all h e s is =
      ap (scope_behind (left xs (i + 1))) s ∙ sym (ap (λ ts. scope_behind ts sc) (left_next xs i x h e)) ∙ is

  pub behind_done : (sc all : Scope) → length xs ≤ i → scope_behind (left xs i) sc ≡ all → sc ≡ all
  behind_done sc all h is = sym (ap (λ ts. scope_behind ts sc) (left_none xs i h)) ∙ is

module _ (p : Program) (sc : Scope) (a : Around) where
  pub no_statements : (xs : List Expr) (b c : Built) → length xs ≡ 0 → c ≡ pushed o.Unit b →
      c ≡ made (statements_code p (trees (map tree_of xs)) sc a) b
  no_statements [] b c h is = is ∙ sym (made_one o.Unit b)
  no_statements (x ∷ xs) b c h is = absurd (omega (arith, h))

  first_stated : (x : Expr) (rest : List Expr) (b : Built) →
      made (statements_code p (trees (map tree_of (x ∷ rest))) sc a) b ≡
      made (when (any_defer (trees (map tree_of (x ∷ rest)))) (one (o.Leave a.defers)))
      (made (more_code p (trees (map tree_of rest)) (scope_stated (statement_of (tree_of x)) sc)
      (around_behind p (tree_of x) a))
      (made (stated_code p (tree_of x) sc a) b))
  first_stated x rest b =
      let f = stated_code p (tree_of x) sc a in
      let g = more_code p (trees (map tree_of rest)) (scope_stated (statement_of (tree_of x)) sc)
      (around_behind p (tree_of x) a) in
      let h = when (any_defer (trees (map tree_of (x ∷ rest)))) (one (o.Leave a.defers)) in
      made_then f (g then h) b ∙ made_then g h (made f b)

  pub some_statements : (xs rest : List Expr) (x : Expr) (there : Scope) (around : Around) (q : Bool)
      (b c d r : Built) → xs ≡ x ∷ rest →
      c ≡ made (stated_code p (tree_of x) sc a) b → there ≡ scope_stated (statement_of (tree_of x)) sc →
      around ≡ around_behind p (tree_of x) a →
      d ≡ made (more_code p (trees (map tree_of rest)) there around) c → q ≡ any_defer (trees (map tree_of xs)) →
      r ≡ made (when q (one (o.Leave a.defers))) d → r ≡ made (statements_code p (trees (map tree_of xs)) sc a) b
  some_statements xs rest x there around q b c d r e f s k g h is =
      let ts = trees (map tree_of rest) in
      is ∙ ap (λ q. made (when q (one (o.Leave a.defers))) d) (h ∙ ap (λ ys. any_defer (trees (map tree_of ys))) e)
      ∙ ap (made (when (any_defer (trees (map tree_of (x ∷ rest)))) (one (o.Leave a.defers))))
      (g ∙ ap (λ s. made (more_code p ts s around) c) s
      ∙ ap (λ k. made (more_code p ts (scope_stated (statement_of (tree_of x)) sc) k) c) k
      ∙ ap (made (more_code p ts (scope_stated (statement_of (tree_of x)) sc) (around_behind p (tree_of x) a))) f)
      ∙ sym (first_stated x rest b) ∙ ap (λ ys. made (statements_code p (trees (map tree_of ys)) sc a) b) (sym e)
