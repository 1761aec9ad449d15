-- What the items of a file read, and where they cannot go on.
use Rattle.std.proofs.Common.{◌≡◌, ℕ, List, ◌∷◌}
use Rattle.verse_layout.specs.declared.toks.Tok.{Tok}
use Rattle.verse_grammar.specs.Symbols as rules_of
use Rattle.verse_grammar.specs.Reading.{EatsRule, SticksRule}
use Rattle.verse_grammar.proofs.EatingItems.{eats_program_some}
use Rattle.verse_grammar.proofs.StickingItems.{sticks_program_some_1, sticks_program_some_2}

-- a program that is not empty
pub program_eats : (k : Tok) (toks ks ls rest : List Tok) → toks ≡ k ∷ ks → EatsRule rules_of.an_item toks ls →
    EatsRule rules_of.items_tail ls rest → EatsRule rules_of.program toks rest
program_eats k toks ks ls rest is e es =
    let t : EatsRule rules_of.an_item (k ∷ ks) ls = rw (← is) e in
    rw is (eats_program_some k ks ls rest t es)

pub program_sticks_1 : (left : ℕ) (k : Tok) (toks ks : List Tok) → toks ≡ k ∷ ks → SticksRule rules_of.an_item toks left →
    SticksRule rules_of.program toks left
program_sticks_1 left k toks ks is x =
    let t : SticksRule rules_of.an_item (k ∷ ks) left = rw (← is) x in
    rw is (sticks_program_some_1 left k ks t)

pub program_sticks_2 : (left : ℕ) (k : Tok) (toks ks at : List Tok) → toks ≡ k ∷ ks → EatsRule rules_of.an_item toks at →
    SticksRule rules_of.items_tail at left → SticksRule rules_of.program toks left
program_sticks_2 left k toks ks at is e x =
    let t : EatsRule rules_of.an_item (k ∷ ks) at = rw (← is) e in
    rw is (sticks_program_some_2 left k ks at t x)
