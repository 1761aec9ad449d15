use Rattle.std.proofs.Common.{◌≡◌, Option, Err, List, ℕ, subst, sym}
use Rattle.verse_layout.specs.Frames.{before_token}
use Rattle.verse_layout.specs.Rests.{rest_of}
use Rattle.verse_layout.specs.States.{stack, context_of}
use Rattle.verse_layout.proofs.Turns.{line_there}
use Rattle.verse_layout.proofs.steps.before_token.Goals as goal

pub returns-in-Some-clause-refused : goal.returns-in-Some-clause-refused
returns-in-Some-clause-refused c = λ r e go.
    let h = context_of c.args.state.now in
    let P : Option (List ℕ) → Type 0 = λ line. rest_of c.args.writer.now (before_token line h c.args.token.now go) ≡ Err r in
    subst P (sym (line_there (stack c.args.state.now.frames.items) c.args.bytes.now c.args.token.now c.in-Some.from c.in-Some.to
    (sym c.if-begins_none.ensures) c.in-Some.is)) (c.lead.ensures.refused r e go)
