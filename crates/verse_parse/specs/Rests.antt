-- How the parts of items are written that are no trees of their own. Each relation says that the
-- toks begin with a part, what it stands for, and what is behind it; b is the file.
use Rattle.std.specs.Prelude.{◌≡◌, ℕ, false, List, [], ◌∷◌, Option}
use Rattle.verse_lex.specs.declared.tokens.Word.TheVariants as w
use Rattle.verse_lex.specs.declared.tokens.Mark.TheVariants as m
use Rattle.verse_layout.specs.declared.toks.TokKind.TheVariants as tok
use Rattle.verse_layout.specs.declared.toks.Tok.{Tok}
use Rattle.verse_tree.specs.Tree.{Bytes, Written, Tree}
use Rattle.verse_tree.specs.ItemTree.{SpecTree, MemberTree, field, method, FunTree, ItemTree}
use Rattle.verse_tree.specs.ItemTree.{enumeration, class, function}
use Rattle.verse_grammar.specs.Toks.{word, mark, name_at}
use Rattle.verse_grammar.specs.Types.{IsType}
use Rattle.verse_grammar.specs.Exprs.{Reads}
use Rattle.verse_grammar.specs.Symbols.{Symbol, a, rule, specs, a_type, phrase}
use Rattle.verse_grammar.specs.declared.phrases.Phrase.TheVariants as p
use Rattle.verse_grammar.specs.Items.{Specs, Path, Values, FunRest, Default, Members, Parent}
use Rattle.verse_parse_parts.specs.Rests.{EnumRest}

-- a path in braces
pub data UsingRest (b : List ℕ) : List Tok → List (List Bytes) → List Tok → Type 0 where
  braced_path : {o c : Tok} {ks rest : List Tok} {path : List (List Bytes)} → o.kind ≡ tok.Open →
      Path b ks path (c ∷ rest) → c.kind ≡ tok.Close → UsingRest b (o ∷ ks) path rest

-- what stands behind the name and the specifiers of a field: its type, and its default where it has
-- one
pub data FieldRest (b : List ℕ) : List Tok → Written → Option Tree → List Tok → Type 0 where
  type_and_default : {o : Tok} {ls ms rest : List Tok} {u : Written} {d : Option Tree} →
      o.kind ≡ mark m.Colon → IsType b ls u ms → Default b ms d rest → FieldRest b (o ∷ ls) u d rest

-- what stands behind the name n and the specifiers of a member without `var`
pub data MemberRest (b : List ℕ) (n : Tok) (ss : List SpecTree) : List Tok → MemberTree → List Tok →
    Type 0 where
  rest_of_field : {ks rest : List Tok} {u : Written} {d : Option Tree} → FieldRest b ks u d rest →
      MemberRest b n ss ks (field (record {
        number = 0;
        place = n.place;
        is_var = false;
        var_specs = [];
        name = name_at b n;
        specs =
            ss;
        written = u;
        default = d;
      })) rest
  rest_of_method : {ks rest : List Tok} {f : FunTree} → FunRest b n ss ks f rest →
      MemberRest b n ss ks (method f) rest

-- what stands behind `class`
pub data ClassRest (b : List ℕ) (n : Tok) (ss : List SpecTree) : List Tok → ItemTree → List Tok →
    Type 0 where
  rest_of_class : {o : Tok} {ks ls ms rest : List Tok} {cs : List SpecTree} {q : Option Bytes}
      {xs : List MemberTree} → Specs b ks cs ls → Parent b ls q (o ∷ ms) → o.kind ≡ tok.Open →
      Members b ms xs rest →
      ClassRest b n ss ks (class (record {
        number = 0;
        place = n.place;
        name = name_at b n;
        specs = ss;
        class_specs = cs;
        parent =
            q;
        members = xs;
      })) rest

-- what stands behind `:=`
pub data Defined (b : List ℕ) (n : Tok) (ss : List SpecTree) : List Tok → ItemTree → List Tok →
    Type 0 where
  defined_enum : {e : Tok} {ks rest : List Tok} {i : ItemTree} → e.kind ≡ word w.Enum →
      EnumRest b n ss ks i rest → Defined b n ss (e ∷ ks) i rest
  defined_class : {e : Tok} {ks rest : List Tok} {i : ItemTree} → e.kind ≡ word w.Class →
      ClassRest b n ss ks i rest → Defined b n ss (e ∷ ks) i rest

-- what stands behind the name n and the specifiers of an item
pub data ItemRest (b : List ℕ) (n : Tok) (ss : List SpecTree) : List Tok → ItemTree → List Tok →
    Type 0 where
  rest_defined : {d : Tok} {ks rest : List Tok} {i : ItemTree} → d.kind ≡ mark m.Define →
      Defined b n ss ks i rest → ItemRest b n ss (d ∷ ks) i rest
  rest_of_function : {ks rest : List Tok} {f : FunTree} → FunRest b n ss ks f rest →
      ItemRest b n ss ks (function f) rest
