-- The options behind the files, and what they give.
use Rattle.std.proofs.Common.{map, string_bytes}
use Rattle.verse_top_args.proofs.CommandLemmas.{no_run, is_run}
use Rattle.verse_top_args.proofs.commands.run.Goals as goal

pub returns-in_err-with_options-clause-asks : goal.returns-in_err-with_options-clause-asks
returns-in_err-with_options-clause-asks c =
    rw c.from_residual.ensures
    (no_run (map string_bytes c.args.files.now) (map string_bytes c.args.options.now) c.requires.are c.requires.behind
    c.in_err-with_options.ensures.gives)

pub returns-clause-asks : goal.returns-clause-asks
returns-clause-asks c =
    is_run (map string_bytes c.args.files.now) (map string_bytes c.args.options.now) c.requires.are c.requires.behind
    c.in_ok-with_options.field-0
    c.in_ok-with_options.ensures.gives c.in_ok-with_options.ensures.files
