-- Items and members put together from their parts.
use Rattle.std.proofs.Common.{◌≡◌, ◌≢◌, ℕ, true, List, ◌∷◌, Option, Some, refl}
use Rattle.verse_lex.specs.declared.tokens.Word.TheVariants as w
use Rattle.verse_lex.specs.declared.tokens.Mark.TheVariants as m
use Rattle.verse_lex.specs.declared.tokens.TokenKind.TheVariants as token
use Rattle.verse_layout.specs.declared.toks.TokKind.{TokKind}
use Rattle.verse_layout.specs.declared.toks.TokKind.TheVariants as tok
use Rattle.verse_layout.specs.declared.toks.Tok.{Tok}
use Rattle.verse_tree.specs.Tree.{Bytes, Written, Tree}
use Rattle.verse_tree.specs.ItemTree.{SpecTree, MemberTree, field, ItemTree, using}
use Rattle.verse_grammar.specs.Toks.{word, mark, name, name_at, ahead}
use Rattle.verse_grammar.specs.Starts.{item_start}
use Rattle.verse_grammar.specs.declared.starts.ItemStart.TheVariants as item
use Rattle.verse_grammar.specs.Items.{Specs, field_plain, field_var, fun, Member, member_field, member_method, Item, item_using, item_enum}
use Rattle.verse_grammar.specs.Items.{item_class, item_function}
use Rattle.verse_grammar.specs.Symbols as rules_of
use Rattle.verse_grammar.specs.Reading.{EatsRule, SticksRule}
use Rattle.verse_grammar.proofs.EatingItems.{eats_member_other, eats_member_rest_at}
use Rattle.verse_grammar.proofs.StickingItems.{sticks_member_other_2, sticks_member_other_3, sticks_member_rest_at_1}
use Rattle.verse_parse_parts.specs.Rests.{rest_of_enum}
use Rattle.verse_parse.specs.Rests.{UsingRest, braced_path, FieldRest, type_and_default, MemberRest, rest_of_field, rest_of_method}
use Rattle.verse_parse.specs.Rests.{rest_of_class, defined_enum, defined_class, ItemRest, rest_defined, rest_of_function}

pub using_word : (k : TokKind) → item_start k ≡ Some item.Using → k ≡ word w.Using
using_word (tok.Plain (token.Word w.Using)) h = refl
using_word k h = absurd (cc)

pub name_kind : (k : TokKind) → item_start k ≡ Some item.Name → k ≡ name
name_kind (tok.Plain token.Name) h = refl
name_kind (tok.Plain (token.Word w.Using)) h = absurd (cc)
name_kind k h = absurd (cc)

pub using_whole : {b : List ℕ} {k : Tok} {ks rest : List Tok} {path : List (List Bytes)} → item_start k.kind ≡ Some item.Using →
    UsingRest b ks path rest →
    Item b (k ∷ ks) (using (record { number = 0; place = k.place; path = path })) rest
using_whole {k = k} h (braced_path o p c) = item_using (using_word k.kind h) o p c

pub var_whole : {b : List ℕ} {v n : Tok} {ks ls ms rest : List Tok} {vs ss : List SpecTree} {u : Written} {d : Option Tree} →
    v.kind ≡ word w.Var → Specs b ks vs (n ∷ ls) → n.kind ≡ name →
    Specs b ls ss ms → FieldRest b ms u d rest →
    Member b (v ∷ ks) (field (record {
      number = 0;
      place = v.place;
      is_var = true;
      var_specs = vs;
      name = name_at b n;
      specs = ss;
      written =
          u;
      default = d;
    })) rest
var_whole v s n t (type_and_default c u d) = member_field (field_var v s n t c u d)

pub member_whole : {b : List ℕ} {n : Tok} {ks ls rest : List Tok} {ss : List SpecTree} {x : MemberTree} → n.kind ≡ name → Specs b ks ss ls →
    MemberRest b n ss ls x rest → Member b (n ∷ ks) x rest
member_whole n s (rest_of_field (type_and_default c u d)) = member_field (field_plain n s c u d)
member_whole n s (rest_of_method f) = member_method (fun n s f)

pub item_whole : {b : List ℕ} {n : Tok} {ks ls rest : List Tok} {ss : List SpecTree} {i : ItemTree} → item_start n.kind ≡ Some item.Name →
    Specs b ks ss ls → ItemRest b n ss ls i rest → Item b (n ∷ ks) i rest
item_whole {n = n} h s (rest_defined d (defined_enum e (rest_of_enum o v))) = item_enum (name_kind n.kind h) s d e o v
item_whole {n = n} h s (rest_defined d (defined_class e (rest_of_class c q o m))) = item_class (name_kind n.kind h) s d e c q o m
item_whole {n = n} h s (rest_of_function f) = item_function (fun (name_kind n.kind h) s f)

pub name_is_no_var : (k : Tok) (ks : List Tok) → k.kind ≡ name → ahead (k ∷ ks) ≢ Some (word w.Var)
name_is_no_var k ks h e = absurd (cc)

-- a member that begins with a name
pub named_eats : (k : Tok) (ks ls rest : List Tok) → k.kind ≡ name → EatsRule rules_of.specs ks ls → EatsRule rules_of.member_rest ls rest →
    EatsRule rules_of.member (k ∷ ks) rest
named_eats k ks ls rest h s e = eats_member_other k ks ls rest (name_is_no_var k ks h) h s e

pub named_sticks_1 : (left : ℕ) (k : Tok) (at : List Tok) → k.kind ≡ name → SticksRule rules_of.specs at left →
    SticksRule rules_of.member (k ∷ at) left
named_sticks_1 left k at h x = sticks_member_other_2 left k at (name_is_no_var k at h) h x

pub named_sticks_2 : (left : ℕ) (k : Tok) (ks at : List Tok) → k.kind ≡ name → EatsRule rules_of.specs ks at →
    SticksRule rules_of.member_rest at left → SticksRule rules_of.member (k ∷ ks) left
named_sticks_2 left k ks at h s x = sticks_member_other_3 left k ks at (name_is_no_var k ks h) h s x

-- a method's parameters begin with a bracket
pub method_eats : (k : Tok) (toks ks rest : List Tok) → EatsRule rules_of.fun_rest toks rest → toks ≡ k ∷ ks → k.kind ≡ mark m.RoundOpen →
    EatsRule rules_of.member_rest toks rest
method_eats k toks ks rest e is h =
    let t : EatsRule rules_of.fun_rest (k ∷ ks) rest = rw (← is) e in
    rw is (eats_member_rest_at k ks rest h t)

pub method_sticks : (left : ℕ) (k : Tok) (toks ks : List Tok) → SticksRule rules_of.fun_rest toks left → toks ≡ k ∷ ks →
    k.kind ≡ mark m.RoundOpen → SticksRule rules_of.member_rest toks left
method_sticks left k toks ks x is h =
    let t : SticksRule rules_of.fun_rest (k ∷ ks) left = rw (← is) x in
    rw is (sticks_member_rest_at_1 left k ks h t)
