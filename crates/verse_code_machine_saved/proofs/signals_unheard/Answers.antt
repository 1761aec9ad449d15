use Rattle.verse_code_machine_saved.proofs.Signals.{signals_unheard}
use Rattle.verse_code_machine_saved.proofs.signals_unheard.Goals as goal

pub returns : goal.returns
returns c = signals_unheard
