-- Which lists of toks are phrases and programs, and which begin one. Only the kinds of toks count
-- for that.
use Rattle.std.specs.Prelude.{◌≡◌, ℕ, ◌+◌, ◌<◌, List, [], ◌∷◌, ◌++◌, length, take, map}
use Rattle.verse_layout.specs.declared.toks.TokKind.{TokKind}
use Rattle.verse_layout.specs.declared.toks.Tok.{Tok}
use Rattle.verse_tree.specs.Tree.{Written, Tree}
use Rattle.verse_tree.specs.ItemTree.{ItemTree}
use Rattle.verse_grammar.specs.Types.{IsType}
use Rattle.verse_grammar.specs.Exprs.{Reads}
use Rattle.verse_grammar.specs.Items.{Program}
use Rattle.verse_grammar.specs.declared.phrases.Phrase.{Phrase}

-- what a list of toks can be: a type, a phrase or a program
pub data Whole : Type 0 where
  a_type : Whole
  a_phrase : Phrase → Whole
  a_program : Whole

-- the toks are one, in some file
pub data IsWhole : Whole → List Tok → Type 0 where
  is_type : {b : List ℕ} {ks : List Tok} {u : Written} → IsType b ks u [] → IsWhole a_type ks
  is_phrase : {b : List ℕ} {q : Phrase} {ks : List Tok} {e : Tree} → Reads b q ks e [] →
      IsWhole (a_phrase q) ks
  is_program : {b : List ℕ} {ks : List Tok} {is : List ItemTree} → Program b ks is [] →
      IsWhole a_program ks

abbrev pub kinds : List Tok → List TokKind
kinds ks = map (λ (k : Tok). k.kind) ks

-- the toks begin one: their kinds are the first kinds of one
pub record Begins (whole : Whole) (ks : List Tok) : Type 0 where
  pub all : List Tok
  pub behind : List TokKind
  pub is_whole : IsWhole whole all
  pub begins : kinds all ≡ kinds ks ++ behind

-- the first so many toks begin one, and with the next tok they do not; at the end they begin one
-- and are none
pub record Stops (whole : Whole) (ks : List Tok) (index : ℕ) : Type 0 where
  pub before : Begins whole (take index ks)
  pub beyond : index < length ks → Begins whole (take (index + 1) ks) → ⊥
  pub ended : index ≡ length ks → IsWhole whole ks → ⊥
