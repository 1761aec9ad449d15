-- How items are written. Each relation says that the toks begin with a phrase, what it stands for,
-- and what is behind it; b is the file.
use Rattle.std.specs.Prelude.{◌≡◌, ℕ, Bool, true, false, List, [], ◌∷◌, ◌++◌, Option, Some, None}
use Rattle.verse_lex.specs.declared.tokens.Word.TheVariants as w
use Rattle.verse_lex.specs.declared.tokens.Mark.TheVariants as m
use Rattle.verse_layout.specs.declared.toks.TokKind.TheVariants as tok
use Rattle.verse_layout.specs.declared.toks.Tok.{Tok}
use Rattle.verse_tree.specs.Tree.{Bytes, Written, Tree}
use Rattle.verse_tree.specs.ItemTree.{SpecTree, UsingTree, EnumTree, FieldTree, ParamTree, FunTree}
use Rattle.verse_tree.specs.ItemTree.{MemberTree, field, method, ClassTree}
use Rattle.verse_tree.specs.ItemTree.{ItemTree, using, enumeration, class, function}
use Rattle.verse_grammar.specs.Toks.{word, mark, name, name_at}
use Rattle.verse_grammar.specs.Types.{IsType}
use Rattle.verse_grammar.specs.Exprs.{Reads}
use Rattle.verse_grammar.specs.declared.phrases.Phrase.TheVariants as p

-- specifiers, as `<public><override>`
pub data Specs (b : List ℕ) : List Tok → List SpecTree → List Tok → Type 0 where
  no_specs : {rest : List Tok} → Specs b rest [] rest
  more_specs : {o n c : Tok} {ks rest : List Tok} {ss : List SpecTree} →
      Specs b ks ss (o ∷ n ∷ c ∷ rest) → o.kind ≡ mark m.Below → n.kind ≡ name →
      c.kind ≡ mark m.Above → Specs b ks (ss ++ record { place = n.place; name = name_at b n } ∷ [])
      rest

-- names with dots between them
pub data Dotted (b : List ℕ) : List Tok → List Bytes → List Tok → Type 0 where
  one_name : {n : Tok} {rest : List Tok} → n.kind ≡ name →
      Dotted b (n ∷ rest) (name_at b n ∷ []) rest
  more_names : {d n : Tok} {ks rest : List Tok} {ns : List Bytes} → Dotted b ks ns (d ∷ n ∷ rest) →
      d.kind ≡ mark m.Dot → n.kind ≡ name → Dotted b ks (ns ++ name_at b n ∷ []) rest

-- a path: a slash before each of its parts
pub data Path (b : List ℕ) : List Tok → List (List Bytes) → List Tok → Type 0 where
  one_part : {s : Tok} {ks rest : List Tok} {ns : List Bytes} → s.kind ≡ mark m.Slash →
      Dotted b ks ns rest → Path b (s ∷ ks) (ns ∷ []) rest
  more_parts : {s : Tok} {ks ls rest : List Tok} {ns : List Bytes} {path : List (List Bytes)} →
      Path b ks path (s ∷ ls) → s.kind ≡ mark m.Slash → Dotted b ls ns rest →
      Path b ks (path ++ ns ∷ []) rest

-- one or more values of an enum
pub data ValueRow (b : List ℕ) : List Tok → List Bytes → List Tok → Type 0 where
  one_value : {n : Tok} {rest : List Tok} → n.kind ≡ name →
      ValueRow b (n ∷ rest) (name_at b n ∷ []) rest
  more_values : {s n : Tok} {ks rest : List Tok} {vs : List Bytes} →
      ValueRow b ks vs (s ∷ n ∷ rest) → s.kind ≡ tok.Sep → n.kind ≡ name →
      ValueRow b ks (vs ++ name_at b n ∷ []) rest

-- the values of an enum up to Close
pub data Values (b : List ℕ) : List Tok → List Bytes → List Tok → Type 0 where
  no_values : {c : Tok} {rest : List Tok} → c.kind ≡ tok.Close → Values b (c ∷ rest) [] rest
  some_values : {c : Tok} {ks rest : List Tok} {vs : List Bytes} → ValueRow b ks vs (c ∷ rest) →
      c.kind ≡ tok.Close → Values b ks vs rest

-- `X:t`
pub data Param (b : List ℕ) : List Tok → ParamTree → List Tok → Type 0 where
  param : {n o : Tok} {ks rest : List Tok} {u : Written} → n.kind ≡ name → o.kind ≡ mark m.Colon →
      IsType b ks u rest → Param b (n ∷ o ∷ ks)
      (record { number = 0; place = n.place; name = name_at b n; written = u }) rest

pub data ParamRow (b : List ℕ) : List Tok → List ParamTree → List Tok → Type 0 where
  one_param : {ks rest : List Tok} {q : ParamTree} → Param b ks q rest → ParamRow b ks (q ∷ []) rest
  more_params : {s : Tok} {ks ls rest : List Tok} {q : ParamTree} {qs : List ParamTree} →
      ParamRow b ks qs (s ∷ ls) → s.kind ≡ mark m.Comma → Param b ls q rest →
      ParamRow b ks (qs ++ q ∷ []) rest

-- parameters up to the closing bracket
pub data Params (b : List ℕ) : List Tok → List ParamTree → List Tok → Type 0 where
  no_params : {c : Tok} {rest : List Tok} → c.kind ≡ mark m.RoundClose → Params b (c ∷ rest) [] rest
  some_params : {c : Tok} {ks rest : List Tok} {qs : List ParamTree} → ParamRow b ks qs (c ∷ rest) →
      c.kind ≡ mark m.RoundClose → Params b ks qs rest

-- what stands behind the name and the specifiers of a function
pub data FunRest (b : List ℕ) : Tok → List SpecTree → List Tok → FunTree → List Tok → Type 0 where
  fun_rest : {n o d q : Tok} {ks ls ms hs rest : List Tok} {ss es : List SpecTree}
      {qs : List ParamTree} {u : Written} {e : Tree} → o.kind ≡ mark m.RoundOpen →
      Params b ks qs ls → Specs b ls es (d ∷ ms) → d.kind ≡ mark m.Colon → IsType b ms u (q ∷ hs) →
      q.kind ≡ mark m.Equals → Reads b p.Body hs e rest → FunRest b n ss (o ∷ ks) (record {
        number = 0;
        place = n.place;
        name = name_at b n;
        specs = ss;
        params = qs;
        effects = es;
        written =
            u;
        body = e;
      }) rest

-- `F(X:t)<e>:t = E`
pub data Fun (b : List ℕ) : List Tok → FunTree → List Tok → Type 0 where
  fun : {n : Tok} {ks ls rest : List Tok} {ss : List SpecTree} {f : FunTree} → n.kind ≡ name →
      Specs b ks ss ls → FunRest b n ss ls f rest → Fun b (n ∷ ks) f rest

-- `= E` behind the type of a field, or nothing
pub data Default (b : List ℕ) : List Tok → Option Tree → List Tok → Type 0 where
  no_default : {rest : List Tok} → Default b rest None rest
  default : {o : Tok} {ks rest : List Tok} {e : Tree} → o.kind ≡ mark m.Equals →
      Reads b p.Expr ks e rest → Default b (o ∷ ks) (Some e) rest

-- `X:t = E`, and `var X:t = E`
pub data Field (b : List ℕ) : List Tok → FieldTree → List Tok → Type 0 where
  field_plain : {n o : Tok} {ks ls ms rest : List Tok} {ss : List SpecTree} {u : Written}
      {d : Option Tree} → n.kind ≡ name → Specs b ks ss (o ∷ ls) → o.kind ≡ mark m.Colon →
      IsType b ls u ms → Default b ms d rest →
      Field b (n ∷ ks) (record {
        number = 0;
        place = n.place;
        is_var = false;
        var_specs = [];
        name = name_at b n;
        specs = ss;
        written =
            u;
        default = d;
      }) rest
  field_var : {v n o : Tok} {ks ls ms hs rest : List Tok} {vs ss : List SpecTree} {u : Written}
      {d : Option Tree} → v.kind ≡ word w.Var → Specs b ks vs (n ∷ ls) → n.kind ≡ name →
      Specs b ls ss (o ∷ ms) → o.kind ≡ mark m.Colon → IsType b ms u hs → Default b hs d rest →
      Field b (v ∷ ks) (record {
        number = 0;
        place = v.place;
        is_var = true;
        var_specs = vs;
        name = name_at b n;
        specs = ss;
        written =
            u;
        default = d;
      }) rest

pub data Member (b : List ℕ) : List Tok → MemberTree → List Tok → Type 0 where
  member_field : {ks rest : List Tok} {f : FieldTree} → Field b ks f rest →
      Member b ks (field f) rest
  member_method : {ks rest : List Tok} {f : FunTree} → Fun b ks f rest → Member b ks (method f) rest

pub data MemberRow (b : List ℕ) : List Tok → List MemberTree → List Tok → Type 0 where
  one_member : {ks rest : List Tok} {x : MemberTree} → Member b ks x rest →
      MemberRow b ks (x ∷ []) rest
  more_members : {s : Tok} {ks ls rest : List Tok} {x : MemberTree} {xs : List MemberTree} →
      MemberRow b ks xs (s ∷ ls) → s.kind ≡ tok.Sep → Member b ls x rest →
      MemberRow b ks (xs ++ x ∷ []) rest

-- the members of a class up to Close
pub data Members (b : List ℕ) : List Tok → List MemberTree → List Tok → Type 0 where
  no_members : {c : Tok} {rest : List Tok} → c.kind ≡ tok.Close → Members b (c ∷ rest) [] rest
  some_members : {c : Tok} {ks rest : List Tok} {xs : List MemberTree} →
      MemberRow b ks xs (c ∷ rest) → c.kind ≡ tok.Close → Members b ks xs rest

-- the parent of a class in round brackets, or nothing
pub data Parent (b : List ℕ) : List Tok → Option Bytes → List Tok → Type 0 where
  no_parent : {rest : List Tok} → Parent b rest None rest
  parent : {o n c : Tok} {rest : List Tok} → o.kind ≡ mark m.RoundOpen → n.kind ≡ name →
      c.kind ≡ mark m.RoundClose → Parent b (o ∷ n ∷ c ∷ rest) (Some (name_at b n)) rest

-- items, a case for each kind
pub data Item (b : List ℕ) : List Tok → ItemTree → List Tok → Type 0 where
  item_using : {k o c : Tok} {ks rest : List Tok} {path : List (List Bytes)} →
      k.kind ≡ word w.Using → o.kind ≡ tok.Open → Path b ks path (c ∷ rest) → c.kind ≡ tok.Close →
      Item b (k ∷ o ∷ ks) (using (record { number = 0; place = k.place; path = path })) rest
  item_enum : {n d e o : Tok} {ks ls rest : List Tok} {ss : List SpecTree} {vs : List Bytes} →
      n.kind ≡ name → Specs b ks ss (d ∷ e ∷ o ∷ ls) → d.kind ≡ mark m.Define →
      e.kind ≡ word w.Enum → o.kind ≡ tok.Open → Values b ls vs rest →
      Item b (n ∷ ks) (enumeration (record
      { number = 0; place = n.place; name = name_at b n; specs = ss; values = vs })) rest
  item_class : {n d e o : Tok} {ks ls ms hs rest : List Tok} {ss cs : List SpecTree}
      {q : Option Bytes} {xs : List MemberTree} → n.kind ≡ name → Specs b ks ss (d ∷ e ∷ ls) →
      d.kind ≡ mark m.Define → e.kind ≡ word w.Class → Specs b ls cs ms → Parent b ms q (o ∷ hs) →
      o.kind ≡ tok.Open → Members b hs xs rest →
      Item b (n ∷ ks) (class (record {
        number = 0;
        place = n.place;
        name = name_at b n;
        specs = ss;
        class_specs = cs;
        parent = q;
        members =
            xs;
      })) rest
  item_function : {ks rest : List Tok} {f : FunTree} → Fun b ks f rest → Item b ks (function f) rest

pub data ItemRow (b : List ℕ) : List Tok → List ItemTree → List Tok → Type 0 where
  one_item : {ks rest : List Tok} {i : ItemTree} → Item b ks i rest → ItemRow b ks (i ∷ []) rest
  more_items : {s : Tok} {ks ls rest : List Tok} {i : ItemTree} {is : List ItemTree} →
      ItemRow b ks is (s ∷ ls) → s.kind ≡ tok.Sep → Item b ls i rest →
      ItemRow b ks (is ++ i ∷ []) rest

-- the items of a file
pub data Program (b : List ℕ) : List Tok → List ItemTree → List Tok → Type 0 where
  no_items : {rest : List Tok} → Program b rest [] rest
  some_items : {ks rest : List Tok} {is : List ItemTree} → ItemRow b ks is rest →
      Program b ks is rest
