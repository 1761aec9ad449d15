-- The inputs fit where the word lists them, or there is none.
use Rattle.std.proofs.Common.{ap, option_copied, ℤ, List, IsTrue, refl}
use Rattle.verse_top_args.specs.Words.{Inputs}
use Rattle.verse_top_args.proofs.CommandLemmas.{inputs_absent, inputs_listed}
use Rattle.verse_top_args.proofs.commands.fit_inputs.Goals as goal

pub returns-in-Some : goal.returns-in-Some
returns-in-Some c =
    let same = inputs_listed (option_copied c.args.inputs) c.in-Some.word.now (ap option_copied c.in-Some.is) in (
      λ (t : IsTrue c.lists_inputs.result). same.0 (c.lists_inputs.ensures.0 t),
      λ (f : (ns : List ℤ) × Inputs (option_copied c.args.inputs) ns). c.lists_inputs.ensures.1 (same.1 f),
    )

pub returns-in-None : goal.returns-in-None
returns-in-None c = (λ t. inputs_absent (option_copied c.args.inputs) (ap option_copied c.in-None.is), λ f. refl)
