-- The scope behind statements is cut back to what it was.
use Rattle.std.proofs.Common.{◌≡◌, ℕ, ◌≤◌, length, refl, ◌∙◌, arith}
use Rattle.verse_tree.specs.Tree.{Trees, no_trees, more_trees}
use Rattle.verse_meaning.specs.Residuals.{Binder, no_name, a_constant, a_variable}
use Rattle.verse_meaning.specs.Evaluating.{Statement, statement_of, plain, defines, defers, generates}
use Rattle.lower_code.specs.Scopes.{Scope, constant_at, variable_at}
use Rattle.lower_code.specs.Lowering.{with_binder, scope_stated, scope_behind}
use Rattle.lower_code.proofs.Scopes.{stated_longer}
use Rattle.lower_expr.specs.Locals.{cut_to}
use Rattle.lower_expr.proofs.Scoping.{cut_last, cut_none}

pub binder_cut : (n : ℕ) (x : Binder) (sc : Scope) → n ≤ length sc → cut_to n (with_binder x sc) ≡ cut_to n sc
binder_cut n no_name sc h = refl
binder_cut n (a_constant x) sc h = cut_last n (constant_at x) sc (omega (arith, h))
binder_cut n (a_variable x pl) sc h = cut_last n (variable_at x) sc (omega (arith, h))

pub stated_cut : (n : ℕ) (s : Statement) (sc : Scope) → n ≤ length sc → cut_to n (scope_stated s sc) ≡ cut_to n sc
stated_cut n plain sc h = refl
stated_cut n (defines x) sc h = binder_cut n x sc h
stated_cut n (defers d) sc h = refl
stated_cut n (generates g) sc h = refl

pub statements_cut : (n : ℕ) (cs : Trees) (sc : Scope) → n ≤ length sc → cut_to n (scope_behind cs sc) ≡ cut_to n sc
statements_cut n no_trees sc h = refl
statements_cut n (more_trees a cs) sc h =
    statements_cut n cs (scope_stated (statement_of a) sc) (omega (arith, h, stated_longer (statement_of a) sc))
    ∙ stated_cut n (statement_of a) sc h

pub cut_behind : (cs : Trees) (sc : Scope) → cut_to (length sc) (scope_behind cs sc) ≡ sc
cut_behind cs sc = statements_cut (length sc) cs sc (omega arith) ∙ cut_none (length sc) sc (omega arith)
