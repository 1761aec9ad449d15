-- One step of a run.
use Rattle.std.proofs.Common.{◌≡◌, suc, Some, sym, subst}
use Rattle.std.specs.Prelude.{slice_get}
use Rattle.verse_code.specs.declared.operations.Op.{Op}
use Rattle.verse_code_machine.specs.Tasks.{Machine, Step, Next}
use Rattle.verse_code_machine.specs.Frames.{on_there}
use Rattle.verse_code_machine.specs.Acts.{act}
use Rattle.verse_code_machine.specs.Runs.{carried}
use Rattle.lower_simulation.proofs.Claims.{Setting, Goal, Agree, Ends, Here}

abbrev pub act_at : Setting → Op → Machine → Step
act_at z x y = act z.code x y.who y.world y.state y.frame.life y.frame.locals y.frame.stack y.frame.place y.frame.handlers y.below

pub does : (z : Setting) (x : Op) (y : Machine) (g : Goal) → slice_get z.code.ops y.frame.place ≡ Some x → Ends z (act_at z x y) g →
    Ends z (Next y) g
does z x y g h k = record {
  fuel = suc k.fuel;
  good = subst (λ o. Agree z g (carried z.code k.fuel (on_there o y.state (λ x. act_at z x y)))) (sym h) k.good;
}

pub one : {z : Setting} {g : Goal} (x : Op) (y : Machine) → Here z.code y.frame.place x → Ends z (act_at z x y) g → Ends z (Next y) g
one {z} {g} x y h k = does z x y g h.is k

pub over : {z : Setting} {g : Goal} (q : Step) → Agree z g q → Ends z q g
over q k = record { fuel = 0; good = k }
