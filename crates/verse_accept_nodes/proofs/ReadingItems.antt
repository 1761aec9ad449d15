-- The nodes of items that toks spell fit, where the toks do.
use Rattle.std.proofs.Common.{ℕ, ◌+◌, ◌≤◌, List, [], ◌∷◌, length, Option}
use Rattle.verse_base.specs.declared.limits.TheConstants.{MOST_FILE_BYTES}
use Rattle.verse_layout.specs.declared.toks.Tok.{Tok}
use Rattle.verse_tree.specs.Tree.{Bytes, Tree}
use Rattle.verse_tree.specs.ItemTree.{SpecTree, FieldTree, ParamTree, FunTree, MemberTree, ItemTree}
use Rattle.verse_tree.specs.PostOrder.{default_order, param_order, params_order, fun_parts, field_parts, member_order, members_order}
use Rattle.verse_tree.specs.PostOrder.{item_order, items_order}
use Rattle.verse_tree.specs.Numbering.{list_numbered, default_numbered, field_numbered, param_nodes, param_numbered, fun_numbered}
use Rattle.verse_tree.specs.Numbering.{member_nodes}
use Rattle.verse_tree.specs.Numbering.{member_numbered, item_nodes, item_numbered, items_numbered}
use Rattle.verse_grammar.specs.Items.{Specs, Dotted, Path, ValueRow, Values, Param, ParamRow, Params, FunRest, Fun, Default, Field, Member}
use Rattle.verse_grammar.specs.Items.{MemberRow, Members, Parent, Item, ItemRow, Program}
use Rattle.verse_grammar.specs.Items as x
use Rattle.verse_code.specs.Validity.{IsPlace}
use Rattle.lower_bounds.proofs.Lists.{Each, each_joined}
use Rattle.verse_accept_nodes.proofs.Toks.{TokFits}
use Rattle.verse_accept_nodes.proofs.Fine.{Narrow, Fit, both}
use Rattle.verse_accept_nodes.proofs.Reading.{ToksFit, type_fits, phrase_fits}

module _ (files : ℕ) where
  -- ---- items whose nodes fit, however they are numbered

  pub record FineParam (q : ParamTree) : Type 0 where
    pub fit : (n : ℕ) → Fit files (param_order (param_numbered q n))

  pub record FineFun (f : FunTree) : Type 0 where
    pub place : IsPlace files f.place
    pub narrow : (n : ℕ) → Narrow (fun_numbered f n).written
    pub fit : (n : ℕ) → Fit files (fun_parts (fun_numbered f n))

  pub record FineDefault (d : Option Tree) : Type 0 where
    pub fit : (n : ℕ) → Fit files (default_order (default_numbered d n))

  pub record FineField (f : FieldTree) : Type 0 where
    pub place : IsPlace files f.place
    pub narrow : (n : ℕ) → Narrow (field_numbered f n).written
    pub fit : (n : ℕ) → Fit files (field_parts (field_numbered f n))

  pub record FineMember (m : MemberTree) : Type 0 where
    pub fit : (n : ℕ) → Fit files (member_order (member_numbered m n))

  pub record FineItem (x : ItemTree) : Type 0 where
    pub fit : (n : ℕ) → Fit files (item_order (item_numbered x n))

  all_params : (qs : List ParamTree) → Each FineParam qs → (n : ℕ) →
      Fit files (params_order (list_numbered param_numbered param_nodes qs n))
  all_params [] h n = tt
  all_params (q ∷ qs) h n = both files _ _ (h.0.fit n) (all_params qs h.1 (n + param_nodes q))

  all_members : (ms : List MemberTree) → Each FineMember ms → (n : ℕ) →
      Fit files (members_order (list_numbered member_numbered member_nodes ms n))
  all_members [] h n = tt
  all_members (m ∷ ms) h n = both files _ _ (h.0.fit n) (all_members ms h.1 (n + member_nodes m))

  pub all_items_fit : (is : List ItemTree) → Each FineItem is → (n : ℕ) → Fit files (items_order (items_numbered is n))
  all_items_fit [] h n = tt
  all_items_fit (x ∷ is) h n = both files _ _ (h.0.fit n) (all_items_fit is h.1 (n + item_nodes x))

  -- ---- toks without nodes

  specs_fit : {b : List ℕ} {ks rest : List Tok} {ss : List SpecTree} → Specs b ks ss rest → ToksFit files b ks → ToksFit files b rest
  specs_fit x.Specs.no_specs f = f
  specs_fit (x.Specs.more_specs d ho hn hc) f = (specs_fit d f).1.1.1

  dotted_fit : {b : List ℕ} {ks rest : List Tok} {ns : List Bytes} → Dotted b ks ns rest → ToksFit files b ks → ToksFit files b rest
  dotted_fit (x.Dotted.one_name h) f = f.1
  dotted_fit (x.Dotted.more_names d h hn) f = (dotted_fit d f).1.1

  path_fit : {b : List ℕ} {ks rest : List Tok} {path : List (List Bytes)} → Path b ks path rest → ToksFit files b ks → ToksFit files b rest
  path_fit (x.Path.one_part h d) f = dotted_fit d f.1
  path_fit (x.Path.more_parts ds h d) f = dotted_fit d (path_fit ds f).1

  value_row_fits : {b : List ℕ} {ks rest : List Tok} {vs : List Bytes} → ValueRow b ks vs rest → ToksFit files b ks → ToksFit files b rest
  value_row_fits (x.ValueRow.one_value h) f = f.1
  value_row_fits (x.ValueRow.more_values ds h hn) f = (value_row_fits ds f).1.1

  values_fit : {b : List ℕ} {ks rest : List Tok} {vs : List Bytes} → Values b ks vs rest → ToksFit files b ks → ToksFit files b rest
  values_fit (x.Values.no_values h) f = f.1
  values_fit (x.Values.some_values ds h) f = (value_row_fits ds f).1

  parent_fits : {b : List ℕ} {ks rest : List Tok} {q : Option Bytes} → Parent b ks q rest → ToksFit files b ks → ToksFit files b rest
  parent_fits x.Parent.no_parent f = f
  parent_fits (x.Parent.parent ho hn hc) f = f.1.1.1

  -- ---- items

  module _ (b : List ℕ) (small : length b ≤ MOST_FILE_BYTES) where
    param_fits : {ks rest : List Tok} {q : ParamTree} → Param b ks q rest → ToksFit files b ks → FineParam q × ToksFit files b rest
    param_fits (x.Param.param h ho d) f =
        let r = type_fits files d f.1.1 in
        (record { fit = λ n. both files _ _ (r.0.fit n) (record { place = f.0.place; what = (f.0.named h, r.0.narrow n) }, tt) }, r.1)

    param_row_fits : {ks rest : List Tok} {qs : List ParamTree} → ParamRow b ks qs rest → ToksFit files b ks →
        Each FineParam qs × ToksFit files b rest
    param_row_fits (x.ParamRow.one_param d) f = let r = param_fits d f in ((r.0, tt), r.1)
    param_row_fits (x.ParamRow.more_params {qs = qs} ds h d) f =
        let r = param_row_fits ds f in let q = param_fits d r.1.1 in (each_joined FineParam qs _ r.0 (q.0, tt), q.1)

    params_fit : {ks rest : List Tok} {qs : List ParamTree} → Params b ks qs rest → ToksFit files b ks →
        Each FineParam qs × ToksFit files b rest
    params_fit (x.Params.no_params h) f = (tt, f.1)
    params_fit (x.Params.some_params ds h) f = let r = param_row_fits ds f in (r.0, r.1.1)

    fun_rest_fits : {n : Tok} {ss : List SpecTree} {ks rest : List Tok} {f : FunTree} → FunRest b n ss ks f rest → TokFits files b n →
        ToksFit files b ks → FineFun f × ToksFit files b rest
    fun_rest_fits (x.FunRest.fun_rest {qs = qs} ho ps es hd d hq e) h f =
        let r = params_fit ps f.1 in
        let q = type_fits files d (specs_fit es r.1).1 in
        let s = phrase_fits files b small e q.1.1 in (
          record {
            place = h.place;
            narrow = λ n. q.0.narrow _;
            fit = λ n. both files _ _ (both files _ _ (all_params qs r.0 n) (q.0.fit _)) (s.0.fit _);
          },
          s.1,
        )

    fun_fits : {ks rest : List Tok} {f : FunTree} → Fun b ks f rest → ToksFit files b ks → FineFun f × ToksFit files b rest
    fun_fits (x.Fun.fun h ss d) f = fun_rest_fits d f.0 (specs_fit ss f.1)

    default_fits : {ks rest : List Tok} {d : Option Tree} → Default b ks d rest → ToksFit files b ks → FineDefault d × ToksFit files b rest
    default_fits x.Default.no_default f = (record { fit = λ n. tt }, f)
    default_fits (x.Default.default h d) f =
        let r = phrase_fits files b small d f.1 in (record { fit = λ n. r.0.fit n }, r.1)

    field_fits : {ks rest : List Tok} {d : FieldTree} → Field b ks d rest → ToksFit files b ks → FineField d × ToksFit files b rest
    field_fits (x.Field.field_plain h ss ho d e) f =
        let r = type_fits files d (specs_fit ss f.1).1 in
        let q = default_fits e r.1 in
        (record { place = f.0.place; narrow = λ n. r.0.narrow n; fit = λ n. both files _ _ (r.0.fit n) (q.0.fit _) }, q.1)
    field_fits (x.Field.field_var h vs hn ss ho d e) f =
        let r = type_fits files d (specs_fit ss (specs_fit vs f.1).1).1 in
        let q = default_fits e r.1 in
        (record { place = f.0.place; narrow = λ n. r.0.narrow n; fit = λ n. both files _ _ (r.0.fit n) (q.0.fit _) }, q.1)

    member_fits : {ks rest : List Tok} {m : MemberTree} → Member b ks m rest → ToksFit files b ks → FineMember m × ToksFit files b rest
    member_fits (x.Member.member_field d) f =
        let r = field_fits d f in
        (record { fit = λ n. both files _ _ (r.0.fit n) (record { place = r.0.place; what = r.0.narrow n }, tt) }, r.1)
    member_fits (x.Member.member_method d) f =
        let r = fun_fits d f in
        (record { fit = λ n. both files _ _ (r.0.fit n) (record { place = r.0.place; what = r.0.narrow n }, tt) }, r.1)

    member_row_fits : {ks rest : List Tok} {ms : List MemberTree} → MemberRow b ks ms rest → ToksFit files b ks →
        Each FineMember ms × ToksFit files b rest
    member_row_fits (x.MemberRow.one_member d) f = let r = member_fits d f in ((r.0, tt), r.1)
    member_row_fits (x.MemberRow.more_members {xs = ms} ds h d) f =
        let r = member_row_fits ds f in let q = member_fits d r.1.1 in (each_joined FineMember ms _ r.0 (q.0, tt), q.1)

    members_fit : {ks rest : List Tok} {ms : List MemberTree} → Members b ks ms rest → ToksFit files b ks →
        Each FineMember ms × ToksFit files b rest
    members_fit (x.Members.no_members h) f = (tt, f.1)
    members_fit (x.Members.some_members ds h) f = let r = member_row_fits ds f in (r.0, r.1.1)

    item_fits : {ks rest : List Tok} {y : ItemTree} → Item b ks y rest → ToksFit files b ks → FineItem y × ToksFit files b rest
    item_fits (x.Item.item_using h ho d hc) f =
        (record { fit = λ n. (record { place = f.0.place; what = tt }, tt) }, (path_fit d f.1.1).1)
    item_fits (x.Item.item_enum h ss hd he ho d) f =
        (record { fit = λ n. (record { place = f.0.place; what = tt }, tt) }, values_fit d (specs_fit ss f.1).1.1.1)
    item_fits (x.Item.item_class {xs = ms} h ss hd he cs q ho d) f =
        let r = members_fit d (parent_fits q (specs_fit cs (specs_fit ss f.1).1.1)).1 in
        (record { fit = λ n. both files _ _ (all_members ms r.0 n) (record { place = f.0.place; what = tt }, tt) }, r.1)
    item_fits (x.Item.item_function d) f =
        let r = fun_fits d f in
        (record { fit = λ n. both files _ _ (r.0.fit n) (record { place = r.0.place; what = r.0.narrow n }, tt) }, r.1)

    item_row_fits : {ks rest : List Tok} {is : List ItemTree} → ItemRow b ks is rest → ToksFit files b ks →
        Each FineItem is × ToksFit files b rest
    item_row_fits (x.ItemRow.one_item d) f = let r = item_fits d f in ((r.0, tt), r.1)
    item_row_fits (x.ItemRow.more_items {is = is} ds h d) f =
        let r = item_row_fits ds f in let q = item_fits d r.1.1 in (each_joined FineItem is _ r.0 (q.0, tt), q.1)

    pub program_fits : {ks rest : List Tok} {is : List ItemTree} → Program b ks is rest → ToksFit files b ks → Each FineItem is
    program_fits x.Program.no_items f = tt
    program_fits (x.Program.some_items ds) f = (item_row_fits ds f).0
