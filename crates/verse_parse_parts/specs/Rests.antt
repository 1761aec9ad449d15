-- How the parts of items are written that are no trees of their own. Each relation says that the
-- toks begin with a part, what it stands for, and what is behind it; b is the file.
use Rattle.std.specs.Prelude.{◌≡◌, ℕ, false, List, [], ◌∷◌, Option}
use Rattle.verse_lex.specs.declared.tokens.Word.TheVariants as w
use Rattle.verse_lex.specs.declared.tokens.Mark.TheVariants as m
use Rattle.verse_layout.specs.declared.toks.TokKind.TheVariants as tok
use Rattle.verse_layout.specs.declared.toks.Tok.{Tok}
use Rattle.verse_tree.specs.Tree.{Bytes, Written, Tree}
use Rattle.verse_tree.specs.ItemTree.{SpecTree, MemberTree, field, method, FunTree, ItemTree}
use Rattle.verse_tree.specs.ItemTree.{enumeration, class, function}
use Rattle.verse_grammar.specs.Toks.{word, mark, name_at}
use Rattle.verse_grammar.specs.Types.{IsType}
use Rattle.verse_grammar.specs.Exprs.{Reads}
use Rattle.verse_grammar.specs.Symbols.{Symbol, a, rule, specs, a_type, phrase}
use Rattle.verse_grammar.specs.declared.phrases.Phrase.TheVariants as p
use Rattle.verse_grammar.specs.Items.{Specs, Path, Values, FunRest, Default, Members, Parent}

-- what stands behind the parameters of a function: its effects, its type and its body
pub data Signature (b : List ℕ) : List Tok → List SpecTree → Written → Tree → List Tok →
    Type 0 where
  signature : {d q : Tok} {ks ls ms rest : List Tok} {es : List SpecTree} {u : Written} {e : Tree} →
      Specs b ks es (d ∷ ls) → d.kind ≡ mark m.Colon → IsType b ls u (q ∷ ms) →
      q.kind ≡ mark m.Equals → Reads b p.Body ms e rest → Signature b ks es u e rest

-- the symbols of that part
abbrev pub signature_symbols : List Symbol
signature_symbols = rule specs ∷ a (mark m.Colon) ∷ rule a_type ∷ a (mark m.Equals) ∷
    rule (phrase p.Body) ∷ []

-- what stands behind `enum`
pub data EnumRest (b : List ℕ) (n : Tok) (ss : List SpecTree) : List Tok → ItemTree → List Tok →
    Type 0 where
  rest_of_enum : {o : Tok} {ks rest : List Tok} {vs : List Bytes} → o.kind ≡ tok.Open →
      Values b ks vs rest → EnumRest b n ss (o ∷ ks)
      (enumeration (record {
        number = 0;
        place = n.place;
        name = name_at b n;
        specs = ss;
        values =
            vs;
      })) rest
