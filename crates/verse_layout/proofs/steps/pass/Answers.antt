use Rattle.std.proofs.Common.{◌≡◌, ◌∷◌, Err, subst}
use Rattle.verse_layout.specs.declared.toks.Tok.{Tok}
use Rattle.verse_layout.specs.Written.{tok}
use Rattle.verse_layout.specs.Rests.{rest_of}
use Rattle.verse_layout.proofs.steps.pass.Goals as goal

pub returns-clause-refused : goal.returns-clause-refused
returns-clause-refused c = λ r e ws stop.
    let P : Tok → Type 0 = λ k. rest_of c.args.writer.now (record { written = tok k ∷ ws; stop = stop }) ≡ Err r in
    subst P c.passed.ensures (c.put.ensures.refused r e ws stop)
