-- The clauses of a `for`, whose generators stay open while those behind them are noted.
use Rattle.std.specs.Prelude.{◌≡◌, List, Option, Bool, cond}
use Rattle.lower_code.specs.Scopes.{Scope}
use Rattle.lower_notes.specs.States.{State}
use Rattle.lower_notes.specs.Stretches.{Walk}
use Rattle.note_stretches.specs.Noted.{Noted, walked}
use Rattle.note_loops.specs.Turns.{turns_closed}

-- A walk f of what is left, from b on, with the generators ts open: it leads to c with the
-- generators us open, where what is left stands, in the scope sc; or nothing stands there, where
-- nothing goes on.
pub record Leads (f : (Scope → Walk) → Walk) (goes_on : Bool) (ts us : List (Option State))
    (sc : Scope) (b c : Noted) : Type 0 where
  pub leads : (rest : Scope → Walk) →
      turns_closed us (cond goes_on (walked (rest sc) c) c) ≡ turns_closed ts (walked (f rest) b)
