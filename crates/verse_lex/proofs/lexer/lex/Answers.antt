use Rattle.verse_lex.proofs.Pushes.{refused_text}
use Rattle.verse_lex.proofs.lexer.lex.Goals as goal

pub returns-in-Some-clause-refused : goal.returns-in-Some-clause-refused
returns-in-Some-clause-refused c = λ refusal f.
    refused_text _ _ c.in-Some.offset c.place_at.result refusal c.in-Some.ensures c.place_at.ensures f
