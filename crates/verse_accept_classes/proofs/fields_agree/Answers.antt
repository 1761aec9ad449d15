use Rattle.verse_accept_classes.proofs.Tables.{fields_agree_all}
use Rattle.verse_accept_classes.proofs.fields_agree.Goals as goal

pub returns : goal.returns
returns c = fields_agree_all
