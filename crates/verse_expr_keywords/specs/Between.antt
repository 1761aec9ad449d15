-- Two toks are to be of some kinds, and one is not.
use Rattle.std.specs.Prelude.{◌≡◌, ◌≢◌, ℕ, List, ◌∷◌, Some, length}
use Rattle.verse_layout.specs.declared.toks.Tok.{Tok}
use Rattle.verse_layout.specs.declared.toks.TokKind.{TokKind}
use Rattle.verse_grammar.specs.Toks.{ahead}

-- two toks are to be of these kinds, and with so many toks left one is not
pub data SticksBetween (first second : TokKind) : List Tok → ℕ → Type 0 where
  before_first : {ks : List Tok} {left : ℕ} → left ≡ length ks → ahead ks ≢ Some first →
      SticksBetween first second ks left
  before_second : {k : Tok} {all ks : List Tok} {left : ℕ} → all ≡ k ∷ ks → k.kind ≡ first →
      left ≡ length ks → ahead ks ≢ Some second → SticksBetween first second all left
