-- Laws of predictive reading. It is a function of the toks that looks one tok ahead; what it reads
-- before it sticks begins a whole.
use Rattle.std.specs.Prelude.{◌≡◌, ℕ, ◌+◌, ◌-◌, List, [], ◌∷◌, length, take}
use Rattle.verse_layout.specs.declared.toks.Tok.{Tok}
use Rattle.verse_grammar.specs.Toks.{ahead}
use Rattle.verse_grammar.specs.Symbols.{Rule}
use Rattle.verse_grammar.specs.Reading.{EatsRule, SticksRule}
use Rattle.verse_grammar.specs.Begins.{Whole, IsWhole, Begins, Stops}
use Rattle.verse_grammar.specs.Wholes.{rule_of}

-- two lists of toks look alike until so many toks are left in the first, and at the next tok or the
-- end
pub data Agree (left : ℕ) : List Tok → List Tok → Type 0 where
  agree_last : {ks ls : List Tok} → length ks ≡ left → ahead ks ≡ ahead ls → Agree left ks ls
  agree_more : {k l : Tok} {ks ls : List Tok} → k.kind ≡ l.kind → Agree left ks ls →
      Agree left (k ∷ ks) (l ∷ ls)

-- a rule sticks on the toks behind the first so many
pub record SticksAt (r : Rule) (ks : List Tok) (index : ℕ) : Type 0 where
  pub left : ℕ
  pub sticks : SticksRule r ks left
  pub count : index + left ≡ length ks

-- a rule reads the toks in at most one way
pub record OneReading (r : Rule) (ks : List Tok) : Type 0 where
  pub eaten : (ls ms : List Tok) → EatsRule r ks ls → EatsRule r ks ms → ls ≡ ms
  pub stuck : (left more : ℕ) → SticksRule r ks left → SticksRule r ks more → left ≡ more
  pub either : (ls : List Tok) (left : ℕ) → EatsRule r ks ls → SticksRule r ks left → ⊥

-- it looks no further than at the tok on which it sticks, or which it leaves
pub record LooksAhead (r : Rule) (ks : List Tok) : Type 0 where
  pub sticks : (index left : ℕ) (ls : List Tok) → SticksRule r ks left → index + left ≡ length ks →
      Agree left ks ls → SticksAt r ls index
  pub stuck : (left : ℕ) (ls : List Tok) → SticksRule r ks left → Agree left ks ls →
      EatsRule r ls [] → ⊥
  pub left : (k : Tok) (rest ls : List Tok) → EatsRule r ks (k ∷ rest) →
      Agree (length (k ∷ rest)) ks ls → EatsRule r ls [] → ⊥

abbrev pub ReadsOneWay : Type 0
ReadsOneWay = (r : Rule) (ks : List Tok) → OneReading r ks

abbrev pub ReadsLocally : Type 0
ReadsLocally = (r : Rule) (ks : List Tok) → LooksAhead r ks

-- what the rule of a whole reads before it sticks begins such a whole
abbrev pub StuckBegins : Type 0
StuckBegins = (whole : Whole) (ks : List Tok) (left : ℕ) → SticksRule (rule_of whole) ks left →
    Begins whole (take (length ks - left) ks)

-- what it reads is one
abbrev pub EatenIsWhole : Type 0
EatenIsWhole = (whole : Whole) (ks rest : List Tok) → EatsRule (rule_of whole) ks rest →
    IsWhole whole (take (length ks - length rest) ks)

-- where its rule sticks, or leaves toks, is where no whole goes on
abbrev pub StuckStops : Type 0
StuckStops = (whole : Whole) (ks : List Tok) (left : ℕ) → SticksRule (rule_of whole) ks left →
    Stops whole ks (length ks - left)

abbrev pub LeftStops : Type 0
LeftStops = (whole : Whole) (k : Tok) (ks rest : List Tok) →
    EatsRule (rule_of whole) ks (k ∷ rest) → Stops whole ks (length ks - length (k ∷ rest))
