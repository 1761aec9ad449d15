-- What is spelled is read by the predictive rules, and a list of toks spells one tree.
use Rattle.std.specs.Prelude.{◌≡◌, ℕ, true, List, []}
use Rattle.verse_layout.specs.declared.toks.Tok.{Tok}
use Rattle.verse_tree.specs.Tree.{Written, Tree}
use Rattle.verse_tree.specs.ItemTree.{ItemTree}
use Rattle.verse_grammar.specs.Toks.{ahead}
use Rattle.verse_grammar.specs.Types.{IsType}
use Rattle.verse_grammar.specs.Exprs.{Reads}
use Rattle.verse_grammar.specs.Items.{Program}
use Rattle.verse_grammar.specs.Symbols.{a_type, phrase, program}
use Rattle.verse_grammar.specs.Reading.{EatsRule}
use Rattle.verse_grammar.specs.Follows.{may_follow}
use Rattle.verse_grammar.specs.declared.phrases.Phrase.{Phrase}

-- a phrase, up to a tok that may follow it
abbrev pub PhraseEaten : Type 0
PhraseEaten = (b : List ℕ) (q : Phrase) (ks rest : List Tok) (t : Tree) → Reads b q ks t rest →
    may_follow q (ahead rest) ≡ true → EatsRule (phrase q) ks rest

-- a phrase up to the end
abbrev pub SpelledEaten : Type 0
SpelledEaten = (b : List ℕ) (q : Phrase) (ks : List Tok) (t : Tree) → Reads b q ks t [] →
    EatsRule (phrase q) ks []

-- a type, whatever follows
abbrev pub TypeEaten : Type 0
TypeEaten = (b : List ℕ) (ks rest : List Tok) (u : Written) → IsType b ks u rest →
    EatsRule a_type ks rest

abbrev pub ProgramEaten : Type 0
ProgramEaten = (b : List ℕ) (ks : List Tok) (is : List ItemTree) → Program b ks is [] →
    EatsRule program ks []

-- the toks settle the tree with its places and numbers, and where the phrase ends
abbrev pub OnePhrase : Type 0
OnePhrase = (b : List ℕ) (q : Phrase) (ks rest end : List Tok) (t u : Tree) → Reads b q ks t rest →
    may_follow q (ahead rest) ≡ true → Reads b q ks u end → may_follow q (ahead end) ≡ true →
    (t ≡ u) × (rest ≡ end)

abbrev pub OneTree : Type 0
OneTree = (b : List ℕ) (q : Phrase) (ks : List Tok) (t u : Tree) → Reads b q ks t [] →
    Reads b q ks u [] → t ≡ u

abbrev pub OneType : Type 0
OneType = (b : List ℕ) (ks rest end : List Tok) (u v : Written) → IsType b ks u rest →
    IsType b ks v end → (u ≡ v) × (rest ≡ end)

abbrev pub OneProgram : Type 0
OneProgram = (b : List ℕ) (ks : List Tok) (is js : List ItemTree) → Program b ks is [] →
    Program b ks js [] → is ≡ js
