-- Where the reading of a program stops that is none.
use Rattle.std.specs.Prelude.{◌≡◌, ℕ, List, ◌∷◌, length}
use Rattle.verse_layout.specs.declared.toks.Tok.{Tok}
use Rattle.verse_grammar.specs.Symbols.{program}
use Rattle.verse_grammar.specs.Reading.{EatsRule, SticksRule}

-- read from the front, the toks go on until so many are left, and not with the first of those, or
-- at the end
pub data StopsWith (ks : List Tok) (left : ℕ) : Type 0 where
  stuck_inside : SticksRule program ks left → StopsWith ks left
  left_behind : {k : Tok} {rest behind : List Tok} → EatsRule program ks rest → rest ≡ k ∷ behind →
      left ≡ length rest → StopsWith ks left
