-- What the rules of items do is right, and each can be read.
use Rattle.std.proofs.Common.{◌≡◌, ℕ, List, [], ◌∷◌, Option, Some, None, refl}
use Rattle.verse_lex.specs.declared.tokens.Word.{Word}
use Rattle.verse_lex.specs.declared.tokens.Word.TheVariants as w
use Rattle.verse_lex.specs.declared.tokens.Mark.TheVariants as m
use Rattle.verse_lex.specs.declared.tokens.TokenKind.TheVariants as token
use Rattle.verse_layout.specs.declared.toks.TokKind.{TokKind}
use Rattle.verse_layout.specs.declared.toks.TokKind.TheVariants as tok
use Rattle.verse_layout.specs.declared.toks.Tok.{Tok}
use Rattle.verse_tree.specs.Tree.{Bytes, Written, Tree}
use Rattle.verse_grammar.specs.declared.phrases.Phrase.TheVariants as p
use Rattle.verse_grammar.specs.Toks.{word, mark, name}
use Rattle.verse_grammar.specs.Symbols as s
use Rattle.verse_grammar.specs.Symbols.{predict}
use Rattle.verse_grammar.proofs.CompletingMeanings.{FieldRest, field_rest, Sound, either_sound, sees_sound, Readable, a_tok}
use Rattle.verse_tree.specs.ItemTree.{SpecTree, MemberTree}
use Rattle.verse_tree.specs.Tree as t
use Rattle.verse_grammar.specs.Codes.{sees}
use Rattle.verse_grammar.specs.Toks.{name_at}
use Rattle.verse_grammar.specs.Starts.{item_start}
use Rattle.verse_grammar.specs.declared.starts.ItemStart.{ItemStart}
use Rattle.verse_grammar.specs.declared.starts.ItemStart.TheVariants as item
use Rattle.verse_grammar.specs.Types.{type_name}
use Rattle.verse_grammar.specs.Exprs.{at, Reads, body_expr, expr_or, or_chain, and_chain, not_comparison, comparison_sum, sum_chain}
use Rattle.verse_grammar.specs.Exprs.{product_chain, minus_postfix, postfix_chain, name_alone, chain_none, postfix_none}
use Rattle.verse_grammar.specs.Items.{Specs, no_specs, more_specs, one_name, more_names, one_part, more_parts, one_value, more_values}
use Rattle.verse_grammar.specs.Items.{no_values, some_values, param, one_param, more_params, no_params, some_params, fun_rest, fun}
use Rattle.verse_grammar.specs.Items.{no_default, default, field_plain, field_var, Member, member_field, member_method, one_member}
use Rattle.verse_grammar.specs.Items.{more_members, no_members, some_members, no_parent, parent, item_using, item_enum, item_class}
use Rattle.verse_grammar.specs.Items.{item_function, one_item, more_items, no_items, some_items}
use Rattle.verse_grammar.specs.Symbols.{by_an_item}

-- what the kinds of starts are
abbrev item_kind : ItemStart → TokKind
item_kind item.Using = word w.Using
item_kind item.Name = name

abbrev ItemStands : TokKind → Option ItemStart → Type 0
ItemStands k None = Unit {0}
ItemStands k (Some x) = k ≡ item_kind x

item_word : (x : Word) → ItemStands (word x) (item_start (word x))
item_word w.Using = refl
item_word _ = tt

item_stands : (k : TokKind) → ItemStands k (item_start k)
item_stands (tok.Plain token.Name) = refl
item_stands (tok.Plain (token.Word x)) = item_word x
item_stands _ = tt

begun : {k : TokKind} {x : ItemStart} → item_start k ≡ Some x → k ≡ item_kind x
begun {k = k} h = rw h at (item_stands k)

pub program_sound : (b : List ℕ) (ks : List Tok) → Sound b s.program ks (predict s.program ks)
program_sound b [] = λ rest. ([], no_items)
program_sound b (k ∷ ks) = λ rest ns t ms x. (_, some_items (t ms _ (one_item x.1)).1)

pub items_tail_sound : (b : List ℕ) (ks : List Tok) → Sound b s.items_tail ks (predict s.items_tail ks)
items_tail_sound b ks = sees_sound b s.items_tail ks tok.Sep _ _ (λ k h rest ns t ms x js us r. t js _ (more_items r h x.1))
    (λ rest js us r. (us, r))

an_item_case : (b : List ℕ) (k : Tok) (ks : List Tok) (o : Option ItemStart) → item_start k.kind ≡ o →
    Sound b s.an_item (k ∷ ks) (by_an_item o)
an_item_case b k ks None h = tt
an_item_case b k ks (Some item.Using) h = λ rest ms x. x k (begun h)
an_item_case b k ks (Some item.Name) h = λ rest ns y ms x. y k ms _ (begun h) (x ms [] no_specs).1

pub an_item_sound : (b : List ℕ) (ks : List Tok) → Sound b s.an_item ks (predict s.an_item ks)
an_item_sound b [] = tt
an_item_sound b (k ∷ ks) = an_item_case b k ks (item_start k.kind) refl

pub using_rest_sound : (b : List ℕ) (ks : List Tok) → Sound b s.using_rest ks (predict s.using_rest ks)
using_rest_sound b ks = λ rest c hc ns t ms x d hd o ho k hk. (_, item_using hk ho (t (d ∷ ms) _ (one_part hd x.1)).1 hc)

pub dotted_sound : (b : List ℕ) (ks : List Tok) → Sound b s.dotted ks (predict s.dotted ks)
dotted_sound b ks = λ rest ms t n hn. t (n ∷ ms) _ (one_name hn)

pub dots_tail_sound : (b : List ℕ) (ks : List Tok) → Sound b s.dots_tail ks (predict s.dots_tail ks)
dots_tail_sound b ks = sees_sound b s.dots_tail ks (mark m.Dot) _ _ (λ d hd rest ms t n hn js us r. t js _ (more_names r hd hn))
    (λ rest js us r. (us, r))

pub path_tail_sound : (b : List ℕ) (ks : List Tok) → Sound b s.path_tail ks (predict s.path_tail ks)
path_tail_sound b ks = sees_sound b s.path_tail ks (mark m.Slash) _ _ (λ d hd rest ns t ms x js us r. t js _ (more_parts r hd x.1))
    (λ rest js us r. (us, r))

pub specs_sound : (b : List ℕ) (ks : List Tok) → Sound b s.specs ks (predict s.specs ks)
specs_sound b ks = sees_sound b s.specs ks (mark m.Below) _ _ (λ o ho rest ms t c hc n hn js us r. t js _ (more_specs r ho hn hc))
    (λ rest js us r. (us, r))

pub item_rest_sound : (b : List ℕ) (ks : List Tok) → Sound b s.item_rest ks (predict s.item_rest ks)
item_rest_sound b ks = sees_sound b s.item_rest ks (mark m.Define) _ _ (λ d hd rest ms x n js us hn r. x n d js us hn hd r)
    (λ rest ms x n js us hn r. (_, item_function (fun hn r (x n us).1)))

pub enum_or_class_sound : (b : List ℕ) (ks : List Tok) → Sound b s.enum_or_class ks (predict s.enum_or_class ks)
enum_or_class_sound b ks = sees_sound b s.enum_or_class ks (word w.Enum) _ _ (λ e he rest ms x n d js us hn hd r. x n d e js us hn hd he r)
    (sees_sound b s.enum_or_class ks (word w.Class) _ _ (λ e he rest ms x n d js us hn hd r. x n d e js us hn hd he r) (tt))

pub enum_rest_sound : (b : List ℕ) (ks : List Tok) → Sound b s.enum_rest ks (predict s.enum_rest ks)
enum_rest_sound b ks = λ rest ms x o ho n d e js us hn hd he r. (_, item_enum hn r hd he ho x.1)

pub values_until_sound : (b : List ℕ) (ks : List Tok) → Sound b s.values_until ks (predict s.values_until ks)
values_until_sound b ks = sees_sound b s.values_until ks tok.Close _ _ (λ k h rest. ([], no_values h))
    (λ rest c hc ms t n hn. (_, some_values (t (n ∷ ms) _ (one_value hn)).1 hc))

pub values_tail_sound : (b : List ℕ) (ks : List Tok) → Sound b s.values_tail ks (predict s.values_tail ks)
values_tail_sound b ks = sees_sound b s.values_tail ks tok.Sep _ _ (λ k h rest ms t n hn js us r. t js _ (more_values r h hn))
    (λ rest js us r. (us, r))

pub class_rest_sound : (b : List ℕ) (ks : List Tok) → Sound b s.class_rest ks (predict s.class_rest ks)
class_rest_sound b ks = λ rest ns y o ho ps q ms x n d e js us hn hd he r. (_, item_class hn r hd he (x ms [] no_specs).1 q.1 ho y.1)

pub parent_sound : (b : List ℕ) (ks : List Tok) → Sound b s.parent ks (predict s.parent ks)
parent_sound b ks = sees_sound b s.parent ks (mark m.RoundOpen) _ _ (λ o ho rest c hc n hn. (_, parent ho hn hc))
    (λ rest. (None, no_parent))

pub members_until_sound : (b : List ℕ) (ks : List Tok) → Sound b s.members_until ks (predict s.members_until ks)
members_until_sound b ks = sees_sound b s.members_until ks tok.Close _ _ (λ k h rest. ([], no_members h))
    (λ rest c hc ns t ms x. (_, some_members (t ms _ (one_member x.1)).1 hc))

pub members_tail_sound : (b : List ℕ) (ks : List Tok) → Sound b s.members_tail ks (predict s.members_tail ks)
members_tail_sound b ks = sees_sound b s.members_tail ks tok.Sep _ _ (λ k h rest ns t ms x js us r. t js _ (more_members r h x.1))
    (λ rest js us r. (us, r))

plain_field : {b : List ℕ} {n : Tok} {ks ls rest : List Tok} {ss : List SpecTree} → n.kind ≡ name → Specs b ks ss ls → FieldRest b ls rest →
    (x : MemberTree) × Member b (n ∷ ks) x rest
plain_field h r (field_rest o u d) = (_, member_field (field_plain h r o u d))

var_field : {b : List ℕ} {v n : Tok} {ks ls ms rest : List Tok} {vs ss : List SpecTree} → v.kind ≡ word w.Var → Specs b ks vs (n ∷ ls) →
    n.kind ≡ name → Specs b ls ss ms → FieldRest b ms rest →
    (x : MemberTree) × Member b (v ∷ ks) x rest
var_field h r i q (field_rest o u d) = (_, member_field (field_var h r i q o u d))

pub member_sound : (b : List ℕ) (ks : List Tok) → Sound b s.member ks (predict s.member ks)
member_sound b ks = sees_sound b s.member ks (word w.Var) _ _
    (λ v hv rest fs f ns y n hn ms x. var_field hv (x ms [] no_specs).1 hn (y ns [] no_specs).1 f)
    (λ rest ns y ms x n hn. y n ms _ hn (x ms [] no_specs).1)

pub member_rest_sound : (b : List ℕ) (ks : List Tok) → Sound b s.member_rest ks (predict s.member_rest ks)
member_rest_sound b ks = either_sound b s.member_rest ks (sees (mark m.RoundOpen) ks) _ _
    (λ rest ms x n js us hn r. (_, member_method (fun hn r (x n us).1))) (λ rest ms x n js us hn r. plain_field hn r x)

pub field_rest_sound : (b : List ℕ) (ks : List Tok) → Sound b s.field_rest ks (predict s.field_rest ks)
field_rest_sound b ks = λ rest ns d ms x o ho. field_rest ho x.1 d.1

pub default_sound : (b : List ℕ) (ks : List Tok) → Sound b s.default ks (predict s.default ks)
default_sound b ks = sees_sound b s.default ks (mark m.Equals) _ _ (λ o ho rest ms x. (_, default ho x.1)) (λ rest. (None, no_default))

pub fun_rest_sound : (b : List ℕ) (ks : List Tok) → Sound b s.fun_rest ks (predict s.fun_rest ks)
fun_rest_sound b ks = λ rest bs e q hq ts u d hd es v ps x o ho n us. (_, fun_rest ho x.1 (v es [] no_specs).1 hd u.1 hq e.1)

pub params_until_sound : (b : List ℕ) (ks : List Tok) → Sound b s.params_until ks (predict s.params_until ks)
params_until_sound b ks = sees_sound b s.params_until ks (mark m.RoundClose) _ _ (λ k h rest. ([], no_params h))
    (λ rest c hc ns t ms x. (_, some_params (t ms _ (one_param x.1)).1 hc))

pub param_sound : (b : List ℕ) (ks : List Tok) → Sound b s.param ks (predict s.param ks)
param_sound b ks = λ rest ms x o ho n hn. (_, param hn ho x.1)

pub params_tail_sound : (b : List ℕ) (ks : List Tok) → Sound b s.params_tail ks (predict s.params_tail ks)
params_tail_sound b ks = sees_sound b s.params_tail ks (mark m.Comma) _ _ (λ d hd rest ns t ms x js us r. t js _ (more_params r hd x.1))
    (λ rest js us r. (us, r))

name_expr : {b : List ℕ} {rest : List Tok} →
    Reads b p.Expr (a_tok name ∷ rest) (at (a_tok name) (t.Shape.name (name_at b (a_tok name)))) rest
name_expr = expr_or (or_chain (and_chain (not_comparison
    (comparison_sum (sum_chain (product_chain (minus_postfix (postfix_chain (name_alone refl) postfix_none)) chain_none) chain_none)))
    chain_none) chain_none)

pub read_program : (b : List ℕ) → Readable b s.program
read_program b = λ rest. (rest, ([], no_items))

pub read_items_tail : (b : List ℕ) → Readable b s.items_tail
read_items_tail b = λ rest. (rest, λ js us r. (us, r))

pub read_dots_tail : (b : List ℕ) → Readable b s.dots_tail
read_dots_tail b = λ rest. (rest, λ js us r. (us, r))

pub read_path_tail : (b : List ℕ) → Readable b s.path_tail
read_path_tail b = λ rest. (rest, λ js us r. (us, r))

pub read_specs : (b : List ℕ) → Readable b s.specs
read_specs b = λ rest. (rest, λ js us r. (us, r))

pub read_values_tail : (b : List ℕ) → Readable b s.values_tail
read_values_tail b = λ rest. (rest, λ js us r. (us, r))

pub read_members_tail : (b : List ℕ) → Readable b s.members_tail
read_members_tail b = λ rest. (rest, λ js us r. (us, r))

pub read_params_tail : (b : List ℕ) → Readable b s.params_tail
read_params_tail b = λ rest. (rest, λ js us r. (us, r))

pub read_an_item : (b : List ℕ) → Readable b s.an_item
read_an_item b = λ rest. (
  a_tok (word w.Using) ∷ a_tok tok.Open ∷ a_tok (mark m.Slash) ∷ a_tok name ∷ a_tok tok.Close ∷ rest,
  (_, item_using refl refl (one_part refl (one_name refl)) refl),
)

pub read_using_rest : (b : List ℕ) → Readable b s.using_rest
read_using_rest b = λ rest. (
  a_tok tok.Open ∷ a_tok (mark m.Slash) ∷ a_tok name ∷ a_tok tok.Close ∷ rest,
  λ k hk.
      (_, item_using hk refl (one_part refl (one_name refl)) refl),
)

pub read_dotted : (b : List ℕ) → Readable b s.dotted
read_dotted b = λ rest. (a_tok name ∷ rest, (_, one_name refl))

pub read_item_rest : (b : List ℕ) → Readable b s.item_rest
read_item_rest b = λ rest. (
  a_tok (mark m.Define) ∷ a_tok (word w.Enum) ∷ a_tok tok.Open ∷ a_tok tok.Close ∷ rest,
  λ n js us hn r.
      (_, item_enum hn r refl refl refl (no_values refl)),
)

pub read_enum_or_class : (b : List ℕ) → Readable b s.enum_or_class
read_enum_or_class b = λ rest. (
  a_tok (word w.Enum) ∷ a_tok tok.Open ∷ a_tok tok.Close ∷ rest,
  λ n d js us hn hd r.
      (_, item_enum hn r hd refl refl (no_values refl)),
)

pub read_enum_rest : (b : List ℕ) → Readable b s.enum_rest
read_enum_rest b = λ rest. (
  a_tok tok.Open ∷ a_tok tok.Close ∷ rest,
  λ n d e js us hn hd he r.
      (_, item_enum hn r hd he refl (no_values refl)),
)

pub read_values_until : (b : List ℕ) → Readable b s.values_until
read_values_until b = λ rest. (a_tok tok.Close ∷ rest, ([], no_values refl))

pub read_class_rest : (b : List ℕ) → Readable b s.class_rest
read_class_rest b = λ rest. (
  a_tok tok.Open ∷ a_tok tok.Close ∷ rest,
  λ n d e js us hn hd he r.
      (_, item_class hn r hd he no_specs no_parent refl (no_members refl)),
)

pub read_parent : (b : List ℕ) → Readable b s.parent
read_parent b = λ rest. (rest, (None, no_parent))

pub read_members_until : (b : List ℕ) → Readable b s.members_until
read_members_until b = λ rest. (a_tok tok.Close ∷ rest, ([], no_members refl))

pub read_member : (b : List ℕ) → Readable b s.member
read_member b = λ rest. (
  a_tok name ∷ a_tok (mark m.Colon) ∷ a_tok name ∷ rest,
  (_, member_field (field_plain refl no_specs refl (type_name refl) no_default)),
)

pub read_member_rest : (b : List ℕ) → Readable b s.member_rest
read_member_rest b = λ rest. (
  a_tok (mark m.Colon) ∷ a_tok name ∷ rest,
  λ n js us hn r.
      (_, member_field (field_plain hn r refl (type_name refl) no_default)),
)

pub read_field_rest : (b : List ℕ) → Readable b s.field_rest
read_field_rest b = λ rest. (a_tok (mark m.Colon) ∷ a_tok name ∷ rest, field_rest refl (type_name refl) no_default)

pub read_default : (b : List ℕ) → Readable b s.default
read_default b = λ rest. (rest, (None, no_default))

pub read_fun_rest : (b : List ℕ) → Readable b s.fun_rest
read_fun_rest b = λ rest. (
  a_tok (mark m.RoundOpen) ∷ a_tok (mark m.RoundClose) ∷ a_tok (mark m.Colon) ∷ a_tok name ∷ a_tok
      (mark m.Equals) ∷ a_tok name ∷ rest,
  λ n us.
      (_, fun_rest refl (no_params refl) no_specs refl (type_name refl) refl (body_expr name_expr)),
)

pub read_params_until : (b : List ℕ) → Readable b s.params_until
read_params_until b = λ rest. (a_tok (mark m.RoundClose) ∷ rest, ([], no_params refl))

pub read_param : (b : List ℕ) → Readable b s.param
read_param b = λ rest. (a_tok name ∷ a_tok (mark m.Colon) ∷ a_tok name ∷ rest, (_, param refl refl (type_name refl)))
