use Rattle.std.proofs.Common.{◌≡◌, ◌∷◌, ◌∙◌, true, false, rules, arith}
use Rattle.std.proofs.lemmas.Grind.{common_steps}
use Rattle.verse_lex.specs.Comments.{closes, opens, is_lone}
use Rattle.verse_lex.proofs.Nested.{closing_closes, closing_opens, closing_goes}
use Rattle.verse_lex.proofs.comments.closing.Goals as goal

pub inside-preserved-then-closes : goal.inside-preserved-then-closes
inside-preserved-then-closes c =
    let e : c.inside.rest.now ≡ c.in-Some.b ∷ c.in-Some.more.now = search rules in
    let f : c.in-Some.more.now ≡ c.in-Some-first.c ∷ c.in-Some-first.behind.now = search rules in
    let p : closes c.in-Some.b c.in-Some-first.c ≡ true = cc in
    (closing_closes _ _ _ _ _ _ _ e f (omega arith) p ∙ c.inside.invariant.0, grind (arith, common_steps), omega arith)

pub inside-preserved-then-opens : goal.inside-preserved-then-opens
inside-preserved-then-opens c =
    let e : c.inside.rest.now ≡ c.in-Some.b ∷ c.in-Some.more.now = search rules in
    let f : c.in-Some.more.now ≡ c.in-Some-first.c ∷ c.in-Some-first.behind.now = search rules in
    let p : closes c.in-Some.b c.in-Some-first.c ≡ false = cc in
    let q : opens c.in-Some.b c.in-Some-first.c ≡ true = cc in
    (closing_opens _ _ _ _ _ _ _ e f (omega arith) p q ∙ c.inside.invariant.0, grind (arith, common_steps), omega arith)

pub inside-preserved : goal.inside-preserved
inside-preserved c =
    let e : c.inside.rest.now ≡ c.in-Some.b ∷ c.in-Some.more.now = search rules in
    let f : c.in-Some.more.now ≡ c.in-Some-first.c ∷ c.in-Some-first.behind.now = search rules in
    let p : closes c.in-Some.b c.in-Some-first.c ≡ false = cc in
    let q : opens c.in-Some.b c.in-Some-first.c ≡ false = cc in
    let l : is_lone c.in-Some.b c.in-Some-first.c ≡ false = cc in
    (closing_goes _ _ _ _ _ _ _ e f (omega arith) p q l ∙ c.inside.invariant.0, grind (arith, common_steps), omega arith)
