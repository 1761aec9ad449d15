use Rattle.std.proofs.Common.{false, ◌∷◌, rules}
use Rattle.verse_layout.specs.Blocks.{line_sep}
use Rattle.verse_layout.specs.Frames.{Context, block_in, region_at}
use Rattle.verse_layout.specs.States.{stack}
use Rattle.verse_layout.proofs.steps.begin_block.Goals as goal

pub returns-in_err-put_open-clause-refused : goal.returns-in_err-put_open-clause-refused
returns-in_err-put_open-clause-refused c = λ r e go.
    let fs = stack c.args.state.now.frames.items in
    let there : Context = record {
      opened = false;
      line = c.args.text.now;
      frames = record { region = block_in (region_at fs); text = c.args.text.now; place = c.args.token.now.place } ∷ fs;
    } in
    c.in_err-put_open.ensures.refused r (search rules) (line_sep c.args.token.now ∷ (go there).written) (go there).stop
