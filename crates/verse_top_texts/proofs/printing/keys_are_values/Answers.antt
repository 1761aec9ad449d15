use Rattle.verse_top_texts.proofs.KeyLaws.{keys_are_values}
use Rattle.verse_top_texts.proofs.printing.keys_are_values.Goals as goal

pub returns : goal.returns
returns c = keys_are_values
