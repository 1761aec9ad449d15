use Rattle.verse_accept_classes.proofs.Tables.{field_names_agree}
use Rattle.verse_accept_classes.proofs.field_names_agree.Goals as goal

pub returns : goal.returns
returns c = field_names_agree
