-- A scope with what a statement binds is no shorter.
use Rattle.std.proofs.Common.{◌≤◌, length, arith}
use Rattle.verse_meaning.specs.Residuals.{Binder, no_name, a_constant, a_variable}
use Rattle.verse_meaning.specs.Evaluating.{Statement, plain, defines, defers, generates}
use Rattle.lower_code.specs.Scopes.{Scope}
use Rattle.lower_code.specs.Lowering.{with_binder, scope_stated}

pub binder_longer : (x : Binder) (sc : Scope) → length sc ≤ length (with_binder x sc)
binder_longer no_name sc = omega arith
binder_longer (a_constant x) sc = omega arith
binder_longer (a_variable x pl) sc = omega arith

pub stated_longer : (s : Statement) (sc : Scope) → length sc ≤ length (scope_stated s sc)
stated_longer plain sc = omega arith
stated_longer (defines x) sc = binder_longer x sc
stated_longer (defers d) sc = omega arith
stated_longer (generates g) sc = omega arith
