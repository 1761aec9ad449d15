-- An item that is spelled is read, with what it stands for.
use Rattle.std.proofs.Common.{◌≡◌, ◌≢◌, ℕ, ◌≤◌, true, false, List, [], ◌∷◌, ◌++◌, Option, Some, None, refl, sym, ap, arith, append_assoc}
use Rattle.std.proofs.Common.{append-nil}
use Rattle.verse_lex.specs.declared.tokens.Word.TheVariants as w
use Rattle.verse_lex.specs.declared.tokens.Mark.TheVariants as m
use Rattle.verse_layout.specs.declared.toks.TokKind.{TokKind}
use Rattle.verse_layout.specs.declared.toks.TokKind.TheVariants as tok
use Rattle.verse_layout.specs.declared.toks.Tok.{Tok}
use Rattle.verse_tree.specs.Tree.{Bytes, Written, Tree}
use Rattle.verse_tree.specs.ItemTree.{SpecTree, FieldTree, ParamTree, FunTree, MemberTree, field, method, ItemTree, using, enumeration}
use Rattle.verse_tree.specs.ItemTree.{class, function}
use Rattle.verse_grammar.specs.Toks.{word, mark, name, name_at, ahead}
use Rattle.verse_grammar.specs.Starts.{item_start}
use Rattle.verse_grammar.specs.Items.{Specs, Dotted, Path, ValueRow, Values, Param, ParamRow, Params, FunRest, Fun, Default, Field, Member}
use Rattle.verse_grammar.specs.Items.{MemberRow, Members, Parent, Item, ItemRow, Program}
use Rattle.verse_grammar.specs.Items as x
use Rattle.verse_grammar.specs.Follows.{rank_ahead}
use Rattle.verse_grammar.specs.declared.phrases.Phrase.TheVariants as p
use Rattle.verse_grammar.specs.declared.starts.ItemStart.TheVariants as item
use Rattle.verse_grammar.specs.Symbols.{a, rule, predict, becomes, phrase, a_type, program, items_tail, an_item, using_rest, dotted}
use Rattle.verse_grammar.specs.Symbols.{dots_tail, path_tail, specs, item_rest, enum_or_class, enum_rest, values_until, values_tail}
use Rattle.verse_grammar.specs.Symbols.{class_rest, parent, members_until, members_tail, member, member_rest, field_rest, default, fun_rest}
use Rattle.verse_grammar.specs.Symbols.{params_until, param, params_tail}
use Rattle.verse_grammar.proofs.Sights.{seen, unseen}
use Rattle.verse_grammar.proofs.SpelledRanks.{at_rank, not_below}
use Rattle.verse_grammar.proofs.SpelledTypes.{revalued, spelled_type}
use Rattle.verse_grammar.proofs.SpelledReads.{spelled}
use Rattle.verse_grammar.proofs.SpelledValues.{v_type, v_tree, v_maybe_tree, v_names, v_path, v_specs, v_maybe_name, v_items, v_item_named}
use Rattle.verse_grammar.proofs.SpelledValues.{v_field, v_members, v_member_named, v_fun, v_params, Gives, gives_none, gives_tok}
use Rattle.verse_grammar.proofs.SpelledValues.{gives_rule, gives_takes, gives_becomes}

-- specifiers
specs_end : {b : List ℕ} {rest : List Tok} → ahead rest ≢ Some (mark m.Below) → Gives b specs rest (v_specs []) rest
specs_end {rest = rest} n = gives_becomes {r = specs} {Ys = []} (rw (unseen (mark m.Below) rest n) refl) gives_none refl

specs_more : {b : List ℕ} {o n c : Tok} {ks rest : List Tok} {ss : List SpecTree} → o.kind ≡ mark m.Below → n.kind ≡ name →
    c.kind ≡ mark m.Above → Gives b specs ks (v_specs ss) rest →
    Gives b specs (o ∷ n ∷ c ∷ ks) (v_specs (record { place = n.place; name = name_at b n } ∷ ss)) rest
specs_more ho hn hc d = gives_takes {r = specs} {Ys = a name ∷ a (mark m.Above) ∷ rule specs ∷ []} (rw ho refl)
    (gives_tok hn (gives_tok hc (gives_rule d gives_none))) refl

specs_row : {b : List ℕ} {ks ls : List Tok} {ss : List SpecTree} → Specs b ks ss ls → (us : List SpecTree) (rest : List Tok) →
    Gives b specs ls (v_specs us) rest → Gives b specs ks (v_specs (ss ++ us)) rest
specs_row x.Specs.no_specs us rest g = g
specs_row {b = b} (x.Specs.more_specs {n = n} {ss = ss} r ho hn hc) us rest g =
    let y : SpecTree = record { place = n.place; name = name_at b n } in
    revalued (ap v_specs (sym (append_assoc ss (y ∷ []) us))) (specs_row r (y ∷ us) rest (specs_more ho hn hc g))

spelled_specs : {b : List ℕ} {ks rest : List Tok} {ss : List SpecTree} → Specs b ks ss rest → ahead rest ≢ Some (mark m.Below) →
    Gives b specs ks (v_specs ss) rest
spelled_specs {rest = rest} {ss = ss} d n = revalued (ap v_specs (append-nil ss)) (specs_row d [] rest (specs_end n))

-- paths
dots_end : {b : List ℕ} {rest : List Tok} → ahead rest ≢ Some (mark m.Dot) → Gives b dots_tail rest (v_names []) rest
dots_end {rest = rest} n = gives_becomes {r = dots_tail} {Ys = []} (rw (unseen (mark m.Dot) rest n) refl) gives_none refl

dots_more : {b : List ℕ} {d n : Tok} {ks rest : List Tok} {ns : List Bytes} → d.kind ≡ mark m.Dot → n.kind ≡ name →
    Gives b dots_tail ks (v_names ns) rest → Gives b dots_tail (d ∷ n ∷ ks) (v_names (name_at b n ∷ ns)) rest
dots_more hd hn g = gives_takes {r = dots_tail} {Ys = a name ∷ rule dots_tail ∷ []} (rw hd refl)
    (gives_tok hn (gives_rule g gives_none)) refl

dotted_one : {b : List ℕ} {n : Tok} {ks rest : List Tok} {ns : List Bytes} → n.kind ≡ name → Gives b dots_tail ks (v_names ns) rest →
    Gives b dotted (n ∷ ks) (v_names (name_at b n ∷ ns)) rest
dotted_one hn g = gives_becomes {r = dotted} {Ys = a name ∷ rule dots_tail ∷ []} refl (gives_tok hn (gives_rule g gives_none)) refl

dotted_row : {b : List ℕ} {ks ls : List Tok} {ns : List Bytes} → Dotted b ks ns ls → (us : List Bytes) (rest : List Tok) →
    Gives b dots_tail ls (v_names us) rest → Gives b dotted ks (v_names (ns ++ us)) rest
dotted_row (x.Dotted.one_name hn) us rest g = dotted_one hn g
dotted_row {b = b} (x.Dotted.more_names {n = n} {ns = ns} r hd hn) us rest g =
    revalued (ap v_names (sym (append_assoc ns (name_at b n ∷ []) us))) (dotted_row r (name_at b n ∷ us) rest (dots_more hd hn g))

spelled_dotted : {b : List ℕ} {ks rest : List Tok} {ns : List Bytes} → Dotted b ks ns rest → ahead rest ≢ Some (mark m.Dot) →
    Gives b dotted ks (v_names ns) rest
spelled_dotted {rest = rest} {ns = ns} d n = revalued (ap v_names (append-nil ns)) (dotted_row d [] rest (dots_end n))

path_end : {b : List ℕ} {c : Tok} {rest : List Tok} → c.kind ≡ tok.Close → Gives b path_tail (c ∷ rest) (v_path []) (c ∷ rest)
path_end h = gives_becomes {r = path_tail} {Ys = []} (rw h refl) gives_none refl

path_more : {b : List ℕ} {s : Tok} {ks ls rest : List Tok} {ns : List Bytes} {path : List (List Bytes)} → s.kind ≡ mark m.Slash →
    Gives b dotted ks (v_names ns) ls → Gives b path_tail ls (v_path path) rest →
    Gives b path_tail (s ∷ ks) (v_path (ns ∷ path)) rest
path_more hs d g = gives_takes {r = path_tail} {Ys = rule dotted ∷ rule path_tail ∷ []} (rw hs refl)
    (gives_rule d (gives_rule g gives_none)) refl

using_one : {b : List ℕ} {o s c : Tok} {ks ls rest : List Tok} {ns : List Bytes} {path : List (List Bytes)} → o.kind ≡ tok.Open →
    s.kind ≡ mark m.Slash → Gives b dotted ks (v_names ns) ls → Gives b path_tail ls (v_path path) (c ∷ rest) → c.kind ≡ tok.Close →
    Gives b using_rest (o ∷ s ∷ ks) (v_path (ns ∷ path)) rest
using_one ho hs d g hc = gives_becomes {r = using_rest}
    {Ys = a tok.Open ∷ a (mark m.Slash) ∷ rule dotted ∷ rule path_tail ∷ a tok.Close ∷ []} refl
    (gives_tok ho (gives_tok hs (gives_rule d (gives_rule g (gives_tok hc gives_none))))) refl

slash_no_dot : {s : TokKind} → s ≡ mark m.Slash → Some s ≢ Some (mark m.Dot)
slash_no_dot h e = absurd (cc)

close_no_dot : {s : TokKind} → s ≡ tok.Close → Some s ≢ Some (mark m.Dot)
close_no_dot h e = absurd (cc)

path_row : {b : List ℕ} {o c : Tok} {ks ls : List Tok} {path : List (List Bytes)} → o.kind ≡ tok.Open → Path b ks path ls →
    ahead ls ≢ Some (mark m.Dot) → (us : List (List Bytes)) (rest : List Tok) → Gives b path_tail ls (v_path us) (c ∷ rest) →
    c.kind ≡ tok.Close →
    Gives b using_rest (o ∷ ks) (v_path (path ++ us)) rest
path_row ho (x.Path.one_part hs d) n us rest g hc = using_one ho hs (spelled_dotted d n) g hc
path_row ho (x.Path.more_parts {ns = ns} {path = path} r hs d) n us rest g hc =
    revalued (ap v_path (sym (append_assoc path (ns ∷ []) us)))
    (path_row ho r (slash_no_dot hs) (ns ∷ us) rest (path_more hs (spelled_dotted d n) g) hc)

-- the values of an enum
values_end : {b : List ℕ} {c : Tok} {rest : List Tok} → c.kind ≡ tok.Close → Gives b values_tail (c ∷ rest) (v_names []) (c ∷ rest)
values_end h = gives_becomes {r = values_tail} {Ys = []} (rw h refl) gives_none refl

values_more : {b : List ℕ} {s n : Tok} {ks rest : List Tok} {vs : List Bytes} → s.kind ≡ tok.Sep → n.kind ≡ name →
    Gives b values_tail ks (v_names vs) rest → Gives b values_tail (s ∷ n ∷ ks) (v_names (name_at b n ∷ vs)) rest
values_more hs hn g = gives_takes {r = values_tail} {Ys = a name ∷ rule values_tail ∷ []} (rw hs refl)
    (gives_tok hn (gives_rule g gives_none)) refl

values_one : {b : List ℕ} {n c : Tok} {ks rest : List Tok} {vs : List Bytes} → n.kind ≡ name →
    Gives b values_tail ks (v_names vs) (c ∷ rest) → c.kind ≡ tok.Close → Gives b values_until (n ∷ ks) (v_names (name_at b n ∷ vs)) rest
values_one hn g hc = gives_becomes {r = values_until} {Ys = a name ∷ rule values_tail ∷ a tok.Close ∷ []} (rw hn refl)
    (gives_tok hn (gives_rule g (gives_tok hc gives_none))) refl

value_row : {b : List ℕ} {c : Tok} {ks ls : List Tok} {vs : List Bytes} → ValueRow b ks vs ls → (us : List Bytes) (rest : List Tok) →
    Gives b values_tail ls (v_names us) (c ∷ rest) → c.kind ≡ tok.Close → Gives b values_until ks (v_names (vs ++ us)) rest
value_row (x.ValueRow.one_value hn) us rest g hc = values_one hn g hc
value_row {b = b} (x.ValueRow.more_values {n = n} {vs = vs} r hs hn) us rest g hc =
    revalued (ap v_names (sym (append_assoc vs (name_at b n ∷ []) us))) (value_row r (name_at b n ∷ us) rest (values_more hs hn g) hc)

spelled_values : {b : List ℕ} {ks rest : List Tok} {vs : List Bytes} → Values b ks vs rest → Gives b values_until ks (v_names vs) rest
spelled_values (x.Values.no_values h) = gives_takes {r = values_until} {Ys = []} (rw h refl) gives_none refl
spelled_values {rest = rest} (x.Values.some_values {vs = vs} r h) =
    revalued (ap v_names (append-nil vs)) (value_row r [] rest (values_end h) h)

-- parameters
spelled_param : {b : List ℕ} {ks rest : List Tok} {q : ParamTree} → Param b ks q rest → Gives b param ks (v_params (q ∷ [])) rest
spelled_param (x.Param.param hn ho d) = gives_becomes {r = param} {Ys = a name ∷ a (mark m.Colon) ∷ rule a_type ∷ []} refl
    (gives_tok hn (gives_tok ho (gives_rule (spelled_type d) gives_none))) refl

name_no_close : {j : TokKind} → j ≡ name → Some j ≢ Some (mark m.RoundClose)
name_no_close h e = absurd (cc)

param_first : {b : List ℕ} {ks rest : List Tok} {q : ParamTree} → Param b ks q rest → ahead ks ≢ Some (mark m.RoundClose)
param_first (x.Param.param hn ho d) = name_no_close hn

params_end : {b : List ℕ} {c : Tok} {rest : List Tok} → c.kind ≡ mark m.RoundClose → Gives b params_tail (c ∷ rest) (v_params []) (c ∷ rest)
params_end h = gives_becomes {r = params_tail} {Ys = []} (rw h refl) gives_none refl

params_more : {b : List ℕ} {s : Tok} {ks ls rest : List Tok} {q : ParamTree} {qs : List ParamTree} → s.kind ≡ mark m.Comma →
    Gives b param ks (v_params (q ∷ [])) ls → Gives b params_tail ls (v_params qs) rest →
    Gives b params_tail (s ∷ ks) (v_params (q ∷ qs)) rest
params_more hs d g = gives_takes {r = params_tail} {Ys = rule param ∷ rule params_tail ∷ []} (rw hs refl)
    (gives_rule d (gives_rule g gives_none)) refl

params_one : {b : List ℕ} {c : Tok} {ks ls rest : List Tok} {q : ParamTree} {qs : List ParamTree} → ahead ks ≢ Some (mark m.RoundClose) →
    Gives b param ks (v_params (q ∷ [])) ls → Gives b params_tail ls (v_params qs) (c ∷ rest) → c.kind ≡ mark m.RoundClose →
    Gives b params_until ks (v_params (q ∷ qs)) rest
params_one {ks = ks} n d g hc = gives_becomes {r = params_until} {Ys = rule param ∷ rule params_tail ∷ a (mark m.RoundClose) ∷ []}
    (rw (unseen (mark m.RoundClose) ks n) refl) (gives_rule d (gives_rule g (gives_tok hc gives_none))) refl

param_row : {b : List ℕ} {c : Tok} {ks ls : List Tok} {qs : List ParamTree} → ParamRow b ks qs ls →
    (us : List ParamTree) (rest : List Tok) → Gives b params_tail ls (v_params us) (c ∷ rest) → c.kind ≡ mark m.RoundClose →
    Gives b params_until ks (v_params (qs ++ us)) rest
param_row (x.ParamRow.one_param d) us rest g hc = params_one (param_first d) (spelled_param d) g hc
param_row (x.ParamRow.more_params {q = q} {qs = qs} r hs d) us rest g hc =
    revalued (ap v_params (sym (append_assoc qs (q ∷ []) us))) (param_row r (q ∷ us) rest (params_more hs (spelled_param d) g) hc)

spelled_params : {b : List ℕ} {ks rest : List Tok} {qs : List ParamTree} → Params b ks qs rest → Gives b params_until ks (v_params qs) rest
spelled_params (x.Params.no_params h) = gives_takes {r = params_until} {Ys = []} (rw h refl) gives_none refl
spelled_params {rest = rest} (x.Params.some_params {qs = qs} r h) =
    revalued (ap v_params (append-nil qs)) (param_row r [] rest (params_end h) h)

-- functions
record FunGives (b : List ℕ) (n : Tok) (ss : List SpecTree) (ks : List Tok) (f : FunTree) (rest : List Tok) : Type 0 where
  after : Tok → List SpecTree → FunTree
  gives : Gives b fun_rest ks (v_fun after) rest
  same : after n ss ≡ f
  opens : ahead ks ≡ Some (mark m.RoundOpen)

colon_no_below : {j : TokKind} → j ≡ mark m.Colon → Some j ≢ Some (mark m.Below)
colon_no_below h e = absurd (cc)

name_no_below : {j : TokKind} → j ≡ name → Some j ≢ Some (mark m.Below)
name_no_below h e = absurd (cc)

define_no_below : {j : TokKind} → j ≡ mark m.Define → Some j ≢ Some (mark m.Below)
define_no_below h e = absurd (cc)

round_no_below : {o : Option TokKind} → o ≡ Some (mark m.RoundOpen) → o ≢ Some (mark m.Below)
round_no_below h e = absurd (cc)

round_no_define : {o : Option TokKind} → o ≡ Some (mark m.RoundOpen) → o ≢ Some (mark m.Define)
round_no_define h e = absurd (cc)

fun_gives : {b : List ℕ} {o d q : Tok} {ks ls ms hs rest : List Tok} {es : List SpecTree} {qs : List ParamTree} {u : Written} {e : Tree} →
    o.kind ≡ mark m.RoundOpen → Gives b params_until ks (v_params qs) ls → Gives b specs ls (v_specs es) (d ∷ ms) →
    d.kind ≡ mark m.Colon → Gives b a_type ms (v_type u) (q ∷ hs) → q.kind ≡ mark m.Equals → Gives b (phrase p.Body) hs (v_tree e) rest →
    Gives b fun_rest (o ∷ ks) (v_fun (λ n ss.
    record { number = 0; place = n.place; name = name_at b n; specs = ss; params = qs; effects = es; written = u; body = e })) rest
fun_gives ho ps es hd u hq e = gives_becomes {r = fun_rest}
    {Ys = a (mark m.RoundOpen) ∷ rule params_until ∷ rule specs ∷ a (mark m.Colon) ∷ rule a_type ∷ a (mark m.Equals) ∷ rule
    (phrase p.Body) ∷ []} refl
    (gives_tok ho (gives_rule ps (gives_rule es (gives_tok hd (gives_rule u (gives_tok hq (gives_rule e gives_none))))))) refl

spelled_fun_rest : {b : List ℕ} {n : Tok} {ss : List SpecTree} {ks rest : List Tok} {f : FunTree} → FunRest b n ss ks f rest →
    8 ≤ rank_ahead (ahead rest) → FunGives b n ss ks f rest
spelled_fun_rest {b = b} (x.FunRest.fun_rest {es = es} {qs = qs} {u = u} {e = e} ho ps ss hd d hq g) l = record {
  after = λ n ss. record { number = 0; place = n.place; name = name_at b n; specs = ss; params = qs; effects = es; written = u; body = e };
  gives = fun_gives ho (spelled_params ps) (spelled_specs ss (colon_no_below hd)) hd (spelled_type d) hq (spelled g l);
  same = refl;
  opens = ap Some ho;
}

-- fields and members
default_end : {b : List ℕ} {rest : List Tok} → ahead rest ≢ Some (mark m.Equals) → Gives b default rest (v_maybe_tree None) rest
default_end {rest = rest} n = gives_becomes {r = default} {Ys = []} (rw (unseen (mark m.Equals) rest n) refl) gives_none refl

spelled_default : {b : List ℕ} {ks rest : List Tok} {d : Option Tree} → Default b ks d rest → 8 ≤ rank_ahead (ahead rest) →
    Gives b default ks (v_maybe_tree d) rest
spelled_default {rest = rest} x.Default.no_default l = default_end (not_below 8 (ahead rest) (mark m.Equals) l (omega arith))
spelled_default (x.Default.default h d) l =
    gives_takes {r = default} {Ys = rule (phrase p.Expr) ∷ []} (rw h refl) (gives_rule (spelled d l) gives_none) refl

field_gives : {b : List ℕ} {o : Tok} {ks ls rest : List Tok} {u : Written} {d : Option Tree} → o.kind ≡ mark m.Colon →
    Gives b a_type ks (v_type u) ls → Gives b default ls (v_maybe_tree d) rest → Gives b field_rest (o ∷ ks) (v_field u d) rest
field_gives ho g e = gives_becomes {r = field_rest} {Ys = a (mark m.Colon) ∷ rule a_type ∷ rule default ∷ []} refl
    (gives_tok ho (gives_rule g (gives_rule e gives_none))) refl

member_gives : {b : List ℕ} {n : Tok} {ks ls rest : List Tok} {ss : List SpecTree} {f : Tok → List SpecTree → MemberTree} → n.kind ≡ name →
    Gives b specs ks (v_specs ss) ls → Gives b member_rest ls (v_member_named f) rest →
    Gives b member (n ∷ ks) (v_members (f n ss ∷ [])) rest
member_gives hn s g = gives_becomes {r = member} {Ys = a name ∷ rule specs ∷ rule member_rest ∷ []} (rw hn refl)
    (gives_tok hn (gives_rule s (gives_rule g gives_none))) refl

plain_gives : {b : List ℕ} {o : Tok} {ks rest : List Tok} {u : Written} {d : Option Tree} → o.kind ≡ mark m.Colon →
    Gives b field_rest (o ∷ ks) (v_field u d) rest →
    Gives b member_rest (o ∷ ks) (v_member_named
    (λ n ss. field (record {
      number = 0;
      place = n.place;
      is_var = false;
      var_specs = [];
      name = name_at b n;
      specs = ss;
      written =
          u;
      default = d;
    }))) rest
plain_gives ho g = gives_becomes {r = member_rest} {Ys = rule field_rest ∷ []} (rw ho refl) (gives_rule g gives_none) (rw ho refl)

method_gives : {b : List ℕ} {ks rest : List Tok} {f : Tok → List SpecTree → FunTree} → ahead ks ≡ Some (mark m.RoundOpen) →
    Gives b fun_rest ks (v_fun f) rest → Gives b member_rest ks (v_member_named (λ n ss. method (f n ss))) rest
method_gives {ks = []} h g = absurd (cc)
method_gives {ks = k ∷ ks} h g = let e : k.kind ≡ mark m.RoundOpen = cc in
    gives_becomes {r = member_rest} {Ys = rule fun_rest ∷ []} (rw (seen (mark m.RoundOpen) k ks e) refl) (gives_rule g gives_none)
    (rw (seen (mark m.RoundOpen) k ks e) refl)

var_gives : {b : List ℕ} {v n : Tok} {ks ls ms rest : List Tok} {vs ss : List SpecTree} {u : Written} {d : Option Tree} →
    v.kind ≡ word w.Var → Gives b specs ks (v_specs vs) (n ∷ ls) → n.kind ≡ name → Gives b specs ls (v_specs ss) ms →
    Gives b field_rest ms (v_field u d) rest →
    Gives b member (v ∷ ks) (v_members (field
    (record {
      number = 0;
      place = v.place;
      is_var = true;
      var_specs = vs;
      name = name_at b n;
      specs = ss;
      written = u;
      default =
          d;
    }) ∷ [])) rest
var_gives hv s hn r g = gives_takes {r = member} {Ys = rule specs ∷ a name ∷ rule specs ∷ rule field_rest ∷ []} (rw hv refl)
    (gives_rule s (gives_tok hn (gives_rule r (gives_rule g gives_none)))) refl

spelled_field : {b : List ℕ} {ks rest : List Tok} {f : FieldTree} → Field b ks f rest → 8 ≤ rank_ahead (ahead rest) →
    Gives b member ks (v_members (field f ∷ [])) rest
spelled_field (x.Field.field_plain hn s ho u d) l =
    member_gives hn (spelled_specs s (colon_no_below ho)) (plain_gives ho (field_gives ho (spelled_type u) (spelled_default d l)))
spelled_field (x.Field.field_var hv s hn r ho u d) l =
    var_gives hv (spelled_specs s (name_no_below hn)) hn (spelled_specs r (colon_no_below ho))
    (field_gives ho (spelled_type u) (spelled_default d l))

method_from : {b : List ℕ} {n : Tok} {ks ls rest : List Tok} {ss : List SpecTree} {f : FunTree} → n.kind ≡ name →
    Gives b specs ks (v_specs ss) ls → FunGives b n ss ls f rest → Gives b member (n ∷ ks) (v_members (method f ∷ [])) rest
method_from hn s g = revalued (ap (λ (f : FunTree). v_members (method f ∷ [])) g.same) (member_gives hn s (method_gives g.opens g.gives))

spelled_method : {b : List ℕ} {ks rest : List Tok} {f : FunTree} → Fun b ks f rest → 8 ≤ rank_ahead (ahead rest) →
    Gives b member ks (v_members (method f ∷ [])) rest
spelled_method (x.Fun.fun hn s r) l = let g = spelled_fun_rest r l in method_from hn (spelled_specs s (round_no_below g.opens)) g

spelled_member : {b : List ℕ} {ks rest : List Tok} {y : MemberTree} → Member b ks y rest → 8 ≤ rank_ahead (ahead rest) →
    Gives b member ks (v_members (y ∷ [])) rest
spelled_member (x.Member.member_field d) l = spelled_field d l
spelled_member (x.Member.member_method d) l = spelled_method d l

name_not_close : {j : TokKind} → j ≡ name → Some j ≢ Some tok.Close
name_not_close h e = absurd (cc)

var_not_close : {j : TokKind} → j ≡ word w.Var → Some j ≢ Some tok.Close
var_not_close h e = absurd (cc)

member_first : {b : List ℕ} {ks rest : List Tok} {y : MemberTree} → Member b ks y rest → ahead ks ≢ Some tok.Close
member_first (x.Member.member_field (x.Field.field_plain hn s ho u d)) = name_not_close hn
member_first (x.Member.member_field (x.Field.field_var hv s hn r ho u d)) = var_not_close hv
member_first (x.Member.member_method (x.Fun.fun hn s r)) = name_not_close hn

members_end : {b : List ℕ} {c : Tok} {rest : List Tok} → c.kind ≡ tok.Close → Gives b members_tail (c ∷ rest) (v_members []) (c ∷ rest)
members_end h = gives_becomes {r = members_tail} {Ys = []} (rw h refl) gives_none refl

members_more : {b : List ℕ} {s : Tok} {ks ls rest : List Tok} {y : MemberTree} {ys : List MemberTree} → s.kind ≡ tok.Sep →
    Gives b member ks (v_members (y ∷ [])) ls → Gives b members_tail ls (v_members ys) rest →
    Gives b members_tail (s ∷ ks) (v_members (y ∷ ys)) rest
members_more hs d g = gives_takes {r = members_tail} {Ys = rule member ∷ rule members_tail ∷ []} (rw hs refl)
    (gives_rule d (gives_rule g gives_none)) refl

members_one : {b : List ℕ} {c : Tok} {ks ls rest : List Tok} {y : MemberTree} {ys : List MemberTree} → ahead ks ≢ Some tok.Close →
    Gives b member ks (v_members (y ∷ [])) ls → Gives b members_tail ls (v_members ys) (c ∷ rest) → c.kind ≡ tok.Close →
    Gives b members_until ks (v_members (y ∷ ys)) rest
members_one {ks = ks} n d g hc = gives_becomes {r = members_until} {Ys = rule member ∷ rule members_tail ∷ a tok.Close ∷ []}
    (rw (unseen tok.Close ks n) refl) (gives_rule d (gives_rule g (gives_tok hc gives_none))) refl

member_row : {b : List ℕ} {c : Tok} {ks ls : List Tok} {ys : List MemberTree} → MemberRow b ks ys ls → 8 ≤ rank_ahead (ahead ls) →
    (us : List MemberTree) (rest : List Tok) → Gives b members_tail ls (v_members us) (c ∷ rest) → c.kind ≡ tok.Close →
    Gives b members_until ks (v_members (ys ++ us)) rest
member_row (x.MemberRow.one_member d) l us rest g hc = members_one (member_first d) (spelled_member d l) g hc
member_row (x.MemberRow.more_members {x = y} {xs = ys} r hs d) l us rest g hc =
    revalued (ap v_members (sym (append_assoc ys (y ∷ []) us)))
    (member_row r (at_rank _ _ _ hs (omega arith)) (y ∷ us) rest (members_more hs (spelled_member d l) g) hc)

spelled_members : {b : List ℕ} {ks rest : List Tok} {ys : List MemberTree} → Members b ks ys rest →
    Gives b members_until ks (v_members ys) rest
spelled_members (x.Members.no_members h) = gives_takes {r = members_until} {Ys = []} (rw h refl) gives_none refl
spelled_members {rest = rest} (x.Members.some_members {xs = ys} r h) =
    revalued (ap v_members (append-nil ys)) (member_row r (at_rank _ _ _ h (omega arith)) [] rest (members_end h) h)

-- classes and enums
open_no_round : {j : TokKind} → j ≡ tok.Open → Some j ≢ Some (mark m.RoundOpen)
open_no_round h e = absurd (cc)

open_no_below : {j : TokKind} → j ≡ tok.Open → Some j ≢ Some (mark m.Below)
open_no_below h e = absurd (cc)

round_is_no_below : {j : TokKind} → j ≡ mark m.RoundOpen → Some j ≢ Some (mark m.Below)
round_is_no_below h e = absurd (cc)

parent_end : {b : List ℕ} {rest : List Tok} → ahead rest ≢ Some (mark m.RoundOpen) → Gives b parent rest (v_maybe_name None) rest
parent_end {rest = rest} n = gives_becomes {r = parent} {Ys = []} (rw (unseen (mark m.RoundOpen) rest n) refl) gives_none refl

spelled_parent : {b : List ℕ} {ks rest : List Tok} {q : Option Bytes} → Parent b ks q rest → ahead rest ≢ Some (mark m.RoundOpen) →
    Gives b parent ks (v_maybe_name q) rest
spelled_parent x.Parent.no_parent n = parent_end n
spelled_parent (x.Parent.parent ho hn hc) n =
    gives_takes {r = parent} {Ys = a name ∷ a (mark m.RoundClose) ∷ []} (rw ho refl) (gives_tok hn (gives_tok hc gives_none)) refl

parent_first : {b : List ℕ} {ks rest : List Tok} {q : Option Bytes} → Parent b ks q rest → ahead rest ≢ Some (mark m.Below) →
    ahead ks ≢ Some (mark m.Below)
parent_first x.Parent.no_parent n = n
parent_first (x.Parent.parent ho hn hc) n = round_is_no_below ho

class_gives : {b : List ℕ} {d e o : Tok} {ls ms hs rest : List Tok} {cs : List SpecTree} {q : Option Bytes} {ys : List MemberTree} →
    d.kind ≡ mark m.Define → e.kind ≡ word w.Class → Gives b specs ls (v_specs cs) ms → Gives b parent ms (v_maybe_name q) (o ∷ hs) →
    o.kind ≡ tok.Open → Gives b members_until hs (v_members ys) rest →
    Gives b item_rest (d ∷ e ∷ ls) (v_item_named
    (λ n ss. class (record {
      number = 0;
      place = n.place;
      name = name_at b n;
      specs = ss;
      class_specs = cs;
      parent = q;
      members =
          ys;
    }))) rest
class_gives hd he s q ho g = gives_takes {r = item_rest} {Ys = rule enum_or_class ∷ []} (rw hd refl)
    (gives_rule (gives_takes {r = enum_or_class} {Ys = rule class_rest ∷ []} (rw he refl)
    (gives_rule (gives_becomes {r = class_rest} {Ys = rule specs ∷ rule parent ∷ a tok.Open ∷ rule members_until ∷ []} refl
    (gives_rule s (gives_rule q (gives_tok ho (gives_rule g gives_none)))) refl) gives_none) (rw he refl)) gives_none) refl

enum_gives : {b : List ℕ} {d e o : Tok} {ls rest : List Tok} {vs : List Bytes} → d.kind ≡ mark m.Define → e.kind ≡ word w.Enum →
    o.kind ≡ tok.Open → Gives b values_until ls (v_names vs) rest →
    Gives b item_rest (d ∷ e ∷ o ∷ ls) (v_item_named
    (λ n ss. enumeration (record { number = 0; place = n.place; name = name_at b n; specs = ss; values = vs }))) rest
enum_gives hd he ho g = gives_takes {r = item_rest} {Ys = rule enum_or_class ∷ []} (rw hd refl)
    (gives_rule (gives_takes {r = enum_or_class} {Ys = rule enum_rest ∷ []} (rw he refl)
    (gives_rule (gives_becomes {r = enum_rest} {Ys = a tok.Open ∷ rule values_until ∷ []} refl
    (gives_tok ho (gives_rule g gives_none)) refl) gives_none) (rw he refl)) gives_none) refl

function_gives : {b : List ℕ} {ks rest : List Tok} {f : Tok → List SpecTree → FunTree} → ahead ks ≢ Some (mark m.Define) →
    Gives b fun_rest ks (v_fun f) rest → Gives b item_rest ks (v_item_named (λ n ss. function (f n ss))) rest
function_gives {ks = ks} n g = gives_becomes {r = item_rest} {Ys = rule fun_rest ∷ []} (rw (unseen (mark m.Define) ks n) refl)
    (gives_rule g gives_none) refl

-- items
item_gives : {b : List ℕ} {n : Tok} {ks ls rest : List Tok} {ss : List SpecTree} {f : Tok → List SpecTree → ItemTree} →
    item_start n.kind ≡ Some item.Name → Gives b specs ks (v_specs ss) ls → Gives b item_rest ls (v_item_named f) rest →
    Gives b an_item (n ∷ ks) (v_items (f n ss ∷ [])) rest
item_gives h s g = gives_takes {r = an_item} {Ys = rule specs ∷ rule item_rest ∷ []} (rw h refl) (gives_rule s (gives_rule g gives_none))
    (rw h refl)

using_gives : {b : List ℕ} {k : Tok} {ks rest : List Tok} {path : List (List Bytes)} → item_start k.kind ≡ Some item.Using →
    Gives b using_rest ks (v_path path) rest →
    Gives b an_item (k ∷ ks) (v_items (using (record { number = 0; place = k.place; path = path }) ∷ [])) rest
using_gives h g = gives_takes {r = an_item} {Ys = rule using_rest ∷ []} (rw h refl) (gives_rule g gives_none) (rw h refl)

function_from : {b : List ℕ} {n : Tok} {ks ls rest : List Tok} {ss : List SpecTree} {f : FunTree} → n.kind ≡ name →
    Gives b specs ks (v_specs ss) ls → FunGives b n ss ls f rest → Gives b an_item (n ∷ ks) (v_items (function f ∷ [])) rest
function_from hn s g = revalued (ap (λ (f : FunTree). v_items (function f ∷ [])) g.same)
    (item_gives (ap item_start hn) s (function_gives (round_no_define g.opens) g.gives))

pub spelled_item : {b : List ℕ} {ks rest : List Tok} {i : ItemTree} → Item b ks i rest → 8 ≤ rank_ahead (ahead rest) →
    Gives b an_item ks (v_items (i ∷ [])) rest
spelled_item {rest = rest} (x.Item.item_using {path = path} h ho d hc) l =
    using_gives (ap item_start h) (revalued (ap v_path (append-nil path)) (path_row ho d (close_no_dot hc) [] rest (path_end hc) hc))
spelled_item (x.Item.item_enum hn s hd he ho d) l =
    item_gives (ap item_start hn) (spelled_specs s (define_no_below hd)) (enum_gives hd he ho (spelled_values d))
spelled_item (x.Item.item_class hn s hd he cs q ho d) l =
    item_gives (ap item_start hn) (spelled_specs s (define_no_below hd))
    (class_gives hd he (spelled_specs cs (parent_first q (open_no_below ho))) (spelled_parent q (open_no_round ho)) ho
    (spelled_members d))
spelled_item (x.Item.item_function (x.Fun.fun hn s r)) l = let g = spelled_fun_rest r l in
    function_from hn (spelled_specs s (round_no_below g.opens)) g

item_first : {b : List ℕ} {ks rest : List Tok} {i : ItemTree} → Item b ks i rest →
    predict program ks ≡ becomes (rule an_item ∷ rule items_tail ∷ [])
item_first (x.Item.item_using h ho d hc) = refl
item_first (x.Item.item_enum hn s hd he ho d) = refl
item_first (x.Item.item_class hn s hd he cs q ho d) = refl
item_first (x.Item.item_function (x.Fun.fun hn s r)) = refl

items_end : {b : List ℕ} {rest : List Tok} → ahead rest ≢ Some tok.Sep → Gives b items_tail rest (v_items []) rest
items_end {rest = rest} n = gives_becomes {r = items_tail} {Ys = []} (rw (unseen tok.Sep rest n) refl) gives_none refl

items_more : {b : List ℕ} {s : Tok} {ks ls rest : List Tok} {i : ItemTree} {is : List ItemTree} → s.kind ≡ tok.Sep →
    Gives b an_item ks (v_items (i ∷ [])) ls → Gives b items_tail ls (v_items is) rest → Gives b items_tail (s ∷ ks) (v_items (i ∷ is)) rest
items_more hs d g = gives_takes {r = items_tail} {Ys = rule an_item ∷ rule items_tail ∷ []} (rw hs refl)
    (gives_rule d (gives_rule g gives_none)) refl

items_one : {b : List ℕ} {ks ls rest : List Tok} {i : ItemTree} {is : List ItemTree} →
    predict program ks ≡ becomes (rule an_item ∷ rule items_tail ∷ []) → Gives b an_item ks (v_items (i ∷ [])) ls →
    Gives b items_tail ls (v_items is) rest →
    Gives b program ks (v_items (i ∷ is)) rest
items_one h d g = gives_becomes {r = program} {Ys = rule an_item ∷ rule items_tail ∷ []} h (gives_rule d (gives_rule g gives_none)) refl

item_row : {b : List ℕ} {ks ls : List Tok} {is : List ItemTree} → ItemRow b ks is ls → 8 ≤ rank_ahead (ahead ls) →
    (us : List ItemTree) (rest : List Tok) → Gives b items_tail ls (v_items us) rest → Gives b program ks (v_items (is ++ us)) rest
item_row (x.ItemRow.one_item d) l us rest g = items_one (item_first d) (spelled_item d l) g
item_row (x.ItemRow.more_items {i = i} {is = is} r hs d) l us rest g =
    revalued (ap v_items (sym (append_assoc is (i ∷ []) us)))
    (item_row r (at_rank _ _ _ hs (omega arith)) (i ∷ us) rest (items_more hs (spelled_item d l) g))

ended : (ks : List Tok) → ks ≡ [] → (8 ≤ rank_ahead (ahead ks)) × (ahead ks ≢ Some tok.Sep)
ended [] h = (omega arith, λ e. absurd (cc))
ended (k ∷ ks) h = absurd (cc)

nothing_gives : {b : List ℕ} (ks : List Tok) → ks ≡ [] → Gives b program ks (v_items []) ks
nothing_gives [] h = gives_becomes {r = program} {Ys = []} refl gives_none refl
nothing_gives (k ∷ ks) h = absurd (cc)

-- a program that is spelled up to the end is read
pub spelled_program : {b : List ℕ} {ks rest : List Tok} {is : List ItemTree} → Program b ks is rest → rest ≡ [] →
    Gives b program ks (v_items is) rest
spelled_program {rest = rest} x.Program.no_items h = nothing_gives rest h
spelled_program {rest = rest} (x.Program.some_items {is = is} r) h = let l = ended rest h in
    revalued (ap v_items (append-nil is)) (item_row r l.0 [] rest (items_end l.1))
