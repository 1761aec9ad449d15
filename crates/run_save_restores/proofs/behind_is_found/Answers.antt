use Rattle.run_save_restores.proofs.Files.{behind_is_found}
use Rattle.run_save_restores.proofs.behind_is_found.Goals as goal

pub returns : goal.returns
returns c = behind_is_found
