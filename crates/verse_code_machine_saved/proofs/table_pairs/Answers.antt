use Rattle.verse_code_machine_saved.proofs.Tables.{table_pairs}
use Rattle.verse_code_machine_saved.proofs.table_pairs.Goals as goal

pub returns : goal.returns
returns c = table_pairs
