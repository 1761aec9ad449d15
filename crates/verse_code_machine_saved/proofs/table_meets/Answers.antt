use Rattle.verse_code_machine_saved.proofs.Tables.{table_meets}
use Rattle.verse_code_machine_saved.proofs.table_meets.Goals as goal

pub returns : goal.returns
returns c = table_meets
