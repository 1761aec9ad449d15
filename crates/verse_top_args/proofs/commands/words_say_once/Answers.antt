use Rattle.verse_top_args.proofs.CommandLemmas.{say_once}
use Rattle.verse_top_args.proofs.commands.words_say_once.Goals as goal

pub returns : goal.returns
returns c = say_once
