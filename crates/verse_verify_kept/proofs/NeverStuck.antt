-- A code whose notes fulfil the rules is never stuck.
use Rattle.std.proofs.Common.{◌≡◌, Some, subst}
use Rattle.std.specs.Prelude.{slice_get}
use Rattle.verse_code.specs.declared.codes.Code.{Code}
use Rattle.verse_code.specs.Validity.{Valid}
use Rattle.verse_code_machine.specs.Laws.{RunsEnd}
use Rattle.verse_verify_kept.specs.Notes.{FuncNote, Notes}
use Rattle.verse_verify_kept.specs.Rules.{Verified}
use Rattle.verse_verify_kept.specs.Kept.{Runs_on}
use Rattle.verse_verify_kept.specs.Laws.{NeverStuck}
use Rattle.verse_verify_kept.proofs.Every.{every_keeps}
use Rattle.verse_verify_kept.proofs.Naming.{names}
use Rattle.verse_verify_kept.proofs.Parenting.{parents_stand}
use Rattle.verse_verify_kept.proofs.Chained.{known, func_noted, inputs_are}
use Rattle.verse_verify_kept.proofs.Whole.{OperationKeeps, MainFits, mach_not_stuck}

module _ (c : Code) (n : Notes) (valid : Valid c) (ok : Verified c n) where
  main_noted : (g : FuncNote) × (slice_get n.functions c.main ≡ Some g)
  main_noted = func_noted c n ok c.main valid.main.0 valid.main.1

  keeps : OperationKeeps c n
  keeps = every_keeps c n (known c n ok) (names c valid) (parents_stand c n (known c n ok))

  main_fits : MainFits c n (known c n ok) keeps valid.main.0 main_noted.0
  main_fits = record {
    is_func = valid.main.1;
    is_noted = main_noted.1;
    sure = (ok.main main_noted.0 main_noted.1).sure;
    params = λ ns. inputs_are c n ok valid.main.0.params main_noted.0.params ns valid.main.2 (ok.begins c.main valid.main.0 main_noted.0
        valid.main.1 main_noted.1).count (ok.main main_noted.0 main_noted.1).params;
  }

pub never_stuck : RunsEnd → NeverStuck
never_stuck ends c n valid ok ns steps until = λ e. subst (Runs_on c n) e (mach_not_stuck c n (known c n ok) (keeps c n valid ok) ends valid
    (main_fits c n valid ok) ns steps until)
