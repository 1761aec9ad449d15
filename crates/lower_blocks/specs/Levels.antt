-- The clauses of a `for`, whose generators stay open while those behind them are lowered.
use Rattle.std.specs.Prelude.{◌≡◌, ℕ, suc, List, Bool, cond, length}
use Rattle.verse_code.specs.declared.operations.Op.TheVariants as o
use Rattle.verse_meaning.specs.Residuals.{Generator}
use Rattle.verse_meaning.specs.Evaluating.{Statement, plain, defines, defers, generates}
use Rattle.lower_code.specs.Pieces.{Maker}
use Rattle.lower_code.specs.Scopes.{Scope}
use Rattle.lower_code.specs.Lowering.{with_binder, with_generator, taking}
use Rattle.lower_expr.specs.Building.{Built, pushed, with_local, made}
use Rattle.lower_fail.specs.declared.loops.Turn.{Turn}
use Rattle.lower_fail.specs.Attempts.{turns_closed}

-- A code f of what is left, from b on, with the generators ts open: it leads to c with the
-- generators us open, where what is left stands, in the scope sc; or nothing stands there, where
-- the code does not go on.
pub record Leads (f : (Scope → Maker) → Maker) (goes_on : Bool) (ts us : List Turn) (sc : Scope)
    (b c : Built) : Type 0 where
  pub leads : (rest : Scope → Maker) →
      turns_closed us (cond goes_on (made (rest sc) c) c) ≡ turns_closed ts (made (f rest) b)

-- the scope behind a clause
abbrev pub scope_claused : Statement → Scope → Scope
scope_claused plain sc = sc
scope_claused (defines b) sc = with_binder b sc
scope_claused (defers d) sc = sc
scope_claused (generates g) sc = with_generator g sc

-- the index of the jump of a generator whose first local is the one behind the scope
abbrev pub turns_at : Generator → Scope → Built → ℕ
turns_at g sc b =
    length (pushed (taking g (length sc))
    (pushed o.Commit (with_local (suc (suc (suc (length sc)))) b))).ops
