-- What is always true of layouts and refusals.
use Rattle.std.specs.Prelude.{◌≡◌, ℕ, Bool, true, false, List, [], ◌∷◌, ◌++◌}
use Rattle.verse_base.specs.declared.refusals.Refusal.{Refusal}
use Rattle.verse_lex.specs.declared.tokens.Token.{Token}
use Rattle.verse_layout.specs.declared.toks.Tok.{Tok}
use Rattle.verse_layout.specs.declared.toks.TokKind.{TokKind}
use Rattle.verse_layout.specs.declared.toks.TokKind.TheVariants as t
use Rattle.verse_layout.specs.Written.{is_open, is_close}
use Rattle.verse_layout.specs.Layouts.{IsLayout}
use Rattle.verse_layout.specs.Refusals.{IsRefused}

-- a list of tokens has at most one refusal
abbrev pub OneRefusal : Type 0
OneRefusal = (bytes : List ℕ) (tokens : List Token) (r s : Refusal) → IsRefused bytes tokens r →
    IsRefused bytes tokens s → r ≡ s

-- and none where it has a layout
abbrev pub LaidOrRefused : Type 0
LaidOrRefused = (bytes : List ℕ) (tokens : List Token) (ks : List Tok) (r : Refusal) →
    IsLayout bytes tokens ks → IsRefused bytes tokens r → ⊥

abbrev pub is_sep : TokKind → Bool
is_sep t.Sep = true
is_sep _ = false

-- between two toks, behind no Open, before no Close, and beside no other Sep
pub record Separates (before behind : List Tok) : Type 0 where
  pub first : List Tok
  pub left : Tok
  pub right : Tok
  pub last : List Tok
  pub before_is : before ≡ first ++ left ∷ []
  pub behind_is : behind ≡ right ∷ last
  pub no_open : is_open left.kind ≡ false
  pub no_close : is_close right.kind ≡ false
  pub no_sep_before : is_sep left.kind ≡ false
  pub no_sep_behind : is_sep right.kind ≡ false

-- every Sep of a layout separates two toks
abbrev pub SepsStand : Type 0
SepsStand = (bytes : List ℕ) (tokens : List Token) (before behind : List Tok) (s : Tok) →
    IsLayout bytes tokens (before ++ s ∷ behind) → s.kind ≡ t.Sep → Separates before behind
