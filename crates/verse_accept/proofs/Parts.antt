-- What is known of a file that is cut into tokens.
use Rattle.std.proofs.Common.{◌≡◌, ℕ, ◌+◌, ◌≤◌, List, [], ◌∷◌, length, refl, arith}
use Rattle.verse_base.specs.declared.limits.TheConstants.{MOST_FILE_BYTES}
use Rattle.verse_lex.specs.declared.tokens.Token.{Token}
use Rattle.verse_lex.specs.Cut.{AreTokens, Rise}
use Rattle.verse_layout.proofs.Lexed.{lexed_lie}
use Rattle.verse_accept.specs.Ready.{CanBeLaid}

-- spans that rise are no more than the bytes
rising_few : (from to : ℕ) (ts : List Token) → Rise from ts to → from + length ts ≤ to
rising_few from to [] r = let low : from ≤ to = r in omega arith
rising_few from to (t ∷ ts) r = let rest = rising_few t.end to ts r.2 in let low = r.0 in let long = r.1 in omega arith

pub can_be_laid : (file : ℕ) (bytes : List ℕ) (ts : List Token) → length bytes ≤ MOST_FILE_BYTES → AreTokens file bytes ts →
    Rise 0 ts (length bytes) →
    CanBeLaid (record { bytes = bytes; tokens = ts })
can_be_laid file bytes ts small a r = record {
  small = small;
  lies = lexed_lie file bytes ts a r;
  few =
      (let n = rising_few 0 (length bytes) ts r in omega arith);
}
