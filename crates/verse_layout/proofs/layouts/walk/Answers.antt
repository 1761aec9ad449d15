use Rattle.std.proofs.Common.{◌≡◌, ◌∙◌, ◌∷◌, sym, ap, subst, Bool, rules}
use Rattle.std.specs.List.{All}
use Rattle.std.proofs.lemmas.List.Elements.{All-tail}
use Rattle.verse_layout.specs.Cells.{Lies, cell_of, cells_of}
use Rattle.verse_layout.specs.Layouts.{end_of}
use Rattle.verse_layout.specs.Frames.{Context, walk, step}
use Rattle.verse_layout.specs.Rests.{rest_of}
use Rattle.verse_layout.specs.States.{context_of}
use Rattle.verse_layout.proofs.Turns.{turn}
use Rattle.verse_layout.proofs.layouts.walk.Goals as goal

pub returns-in_err-step-clause-refused : goal.returns-in_err-step-clause-refused
returns-in_err-step-clause-refused c = λ r e.
    let bytes = c.args.bytes.now in
    let end = end_of bytes c.args.tokens.now in
    let go = λ (g : Context). walk end g (cells_of bytes c.in-Some.behind.now) in
    let split : c.tokens.rest.now ≡ c.in-Some.token.now ∷ c.in-Some.behind.now = search rules in
    let here = turn end (context_of c.tokens.state) bytes c.tokens.rest.now c.in-Some.token.now c.in-Some.behind.now split in
    let there = ap (λ (b : Bool). rest_of c.tokens.writer (step (context_of c.tokens.state) (cell_of bytes c.in-Some.token.now) b go))
    (c.ends_line.ensures bytes) in
    sym c.tokens.invariant.answer ∙ ap (rest_of c.tokens.writer) here ∙ sym there ∙ c.in_err-step.ensures.refused r (search rules) go

pub tokens-preserved : goal.tokens-preserved
tokens-preserved c =
    let bytes = c.args.bytes.now in
    let end = end_of bytes c.args.tokens.now in
    let go = λ (g : Context). walk end g (cells_of bytes c.in-Some.behind.now) in
    let split : c.tokens.rest.now ≡ c.in-Some.token.now ∷ c.in-Some.behind.now = search rules in
    let here = turn end (context_of c.tokens.state) bytes c.tokens.rest.now c.in-Some.token.now c.in-Some.behind.now split in
    let there = ap (λ (b : Bool). rest_of c.tokens.writer (step (context_of c.tokens.state) (cell_of bytes c.in-Some.token.now) b go))
    (c.ends_line.ensures bytes) in
    record {
      lies = All-tail (Lies bytes) c.in-Some.token.now c.in-Some.behind.now (subst (All (Lies bytes)) split c.tokens.invariant.lies);
      answer = c.in_ok-step.ensures.ok go ∙ there ∙ sym (ap (rest_of c.tokens.writer) here) ∙ c.tokens.invariant.answer;
    }
