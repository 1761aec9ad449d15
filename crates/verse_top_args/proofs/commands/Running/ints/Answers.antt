-- A word lists ints in one way, and so at most as many as it may.
use Rattle.std.proofs.Common.{ap, option_copied}
use Rattle.std.proofs.lemmas.Result.{IfOk-weaker}
use Rattle.verse_top_args.proofs.CommandLemmas.{inputs_are}
use Rattle.verse_top_args.proofs.commands.Running.ints.Goals as goal

pub returns-in-Some : goal.returns-in-Some
returns-in-Some c = IfOk-weaker c.inputs.result _ _
    (λ v l. inputs_are (option_copied c.args.self.now.inputs) c.in-Some.word.now (ap option_copied c.in-Some.is) c.requires v.items l)
    c.inputs.ensures
