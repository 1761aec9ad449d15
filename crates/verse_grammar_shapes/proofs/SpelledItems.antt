-- Items that are spelled have the shapes of the grammar.
use Rattle.std.proofs.Common.{ℕ, List, [], ◌∷◌, ◌++◌, Option, refl}
use Rattle.verse_layout.specs.declared.toks.Tok.{Tok}
use Rattle.verse_tree.specs.Tree.{Bytes, Tree}
use Rattle.verse_tree.specs.ItemTree.{SpecTree, FieldTree, ParamTree, FunTree, MemberTree, ItemTree}
use Rattle.verse_tree.specs.Shapes.{AllOf, DefaultShaped, FieldShaped, ParamShaped, FunShaped, MemberShaped, DottedShaped, PathShaped}
use Rattle.verse_tree.specs.Shapes.{ItemShaped, ItemsShaped}
use Rattle.verse_grammar.specs.Items.{Dotted, Path, Param, ParamRow, Params, FunRest, Fun, Default, Field, Member, MemberRow, Members, Item}
use Rattle.verse_grammar.specs.Items.{ItemRow, Program}
use Rattle.verse_grammar.specs.Items as x
use Rattle.verse_grammar_shapes.proofs.Moved.{all_of_more}
use Rattle.verse_grammar_shapes.proofs.Spelled.{shaped_type, shaped}

dotted_more : (ns : List Bytes) (n : Bytes) → DottedShaped (ns ++ n ∷ [])
dotted_more [] n = refl
dotted_more (m ∷ ms) n = refl

shaped_dotted : {b : List ℕ} {ks rest : List Tok} {ns : List Bytes} → Dotted b ks ns rest → DottedShaped ns
shaped_dotted (x.Dotted.one_name h) = refl
shaped_dotted (x.Dotted.more_names {ns = ns} d h hn) = dotted_more ns _

path_more : (path : List (List Bytes)) (ns : List Bytes) → PathShaped path → DottedShaped ns → PathShaped (path ++ ns ∷ [])
path_more [] ns h d = absurd h
path_more (ms ∷ path) ns h d = (h.0, all_of_more DottedShaped path ns h.1 d)

shaped_path : {b : List ℕ} {ks rest : List Tok} {path : List (List Bytes)} → Path b ks path rest → PathShaped path
shaped_path (x.Path.one_part h d) = (shaped_dotted d, tt)
shaped_path (x.Path.more_parts {ns = ns} {path = path} ds h d) = path_more path ns (shaped_path ds) (shaped_dotted d)

shaped_param : {b : List ℕ} {ks rest : List Tok} {q : ParamTree} → Param b ks q rest → ParamShaped q
shaped_param (x.Param.param h ho d) = shaped_type d

shaped_param_row : {b : List ℕ} {ks rest : List Tok} {qs : List ParamTree} → ParamRow b ks qs rest → AllOf ParamShaped qs
shaped_param_row (x.ParamRow.one_param d) = (shaped_param d, tt)
shaped_param_row (x.ParamRow.more_params {q = q} {qs = qs} ds h d) = all_of_more ParamShaped qs q (shaped_param_row ds) (shaped_param d)

shaped_params : {b : List ℕ} {ks rest : List Tok} {qs : List ParamTree} → Params b ks qs rest → AllOf ParamShaped qs
shaped_params (x.Params.no_params h) = tt
shaped_params (x.Params.some_params ds h) = shaped_param_row ds

shaped_fun_rest : {b : List ℕ} {n : Tok} {ss : List SpecTree} {ks rest : List Tok} {f : FunTree} → FunRest b n ss ks f rest → FunShaped f
shaped_fun_rest (x.FunRest.fun_rest ho ps es hd d hq e) = (shaped_params ps, shaped_type d, shaped e)

shaped_fun : {b : List ℕ} {ks rest : List Tok} {f : FunTree} → Fun b ks f rest → FunShaped f
shaped_fun (x.Fun.fun h ss d) = shaped_fun_rest d

shaped_default : {b : List ℕ} {ks rest : List Tok} {d : Option Tree} → Default b ks d rest → DefaultShaped d
shaped_default x.Default.no_default = tt
shaped_default (x.Default.default h d) = shaped d

shaped_field : {b : List ℕ} {ks rest : List Tok} {f : FieldTree} → Field b ks f rest → FieldShaped f
shaped_field (x.Field.field_plain h ss ho d e) = (shaped_type d, shaped_default e)
shaped_field (x.Field.field_var h vs hn ss ho d e) = (shaped_type d, shaped_default e)

shaped_member : {b : List ℕ} {ks rest : List Tok} {m : MemberTree} → Member b ks m rest → MemberShaped m
shaped_member (x.Member.member_field d) = shaped_field d
shaped_member (x.Member.member_method d) = shaped_fun d

shaped_member_row : {b : List ℕ} {ks rest : List Tok} {ms : List MemberTree} → MemberRow b ks ms rest → AllOf MemberShaped ms
shaped_member_row (x.MemberRow.one_member d) = (shaped_member d, tt)
shaped_member_row (x.MemberRow.more_members {x = m} {xs = ms} ds h d) =
    all_of_more MemberShaped ms m (shaped_member_row ds) (shaped_member d)

shaped_members : {b : List ℕ} {ks rest : List Tok} {ms : List MemberTree} → Members b ks ms rest → AllOf MemberShaped ms
shaped_members (x.Members.no_members h) = tt
shaped_members (x.Members.some_members ds h) = shaped_member_row ds

shaped_item : {b : List ℕ} {ks rest : List Tok} {i : ItemTree} → Item b ks i rest → ItemShaped i
shaped_item (x.Item.item_using h ho d hc) = shaped_path d
shaped_item (x.Item.item_enum h ss hd he ho d) = tt
shaped_item (x.Item.item_class h ss hd he cs q ho d) = shaped_members d
shaped_item (x.Item.item_function d) = shaped_fun d

shaped_item_row : {b : List ℕ} {ks rest : List Tok} {is : List ItemTree} → ItemRow b ks is rest → ItemsShaped is
shaped_item_row (x.ItemRow.one_item d) = (shaped_item d, tt)
shaped_item_row (x.ItemRow.more_items {i = i} {is = is} ds h d) = all_of_more ItemShaped is i (shaped_item_row ds) (shaped_item d)

pub shaped_program : {b : List ℕ} {ks rest : List Tok} {is : List ItemTree} → Program b ks is rest → ItemsShaped is
shaped_program x.Program.no_items = tt
shaped_program (x.Program.some_items ds) = shaped_item_row ds
