-- The types of a program that breaks no rule are told by its tables; so are those of accepted ones.
use Rattle.std.proofs.Common.{◌≡◌, ℕ, zero, suc, ◌<◌, ◌≤◌, List, [], ◌∷◌, map, length, Option, Some, None, All, inl, refl, sym}
use Rattle.std.proofs.Common.{ap, ◌∙◌, subst, arith, false}
use Rattle.std.specs.Prelude.{slice_get}
use Rattle.std.proofs.lemmas.List.FromFn.{length-range_with_len}
use Rattle.std.proofs.lemmas.List.Elements.{All-nil, All-cons}
use Rattle.std.proofs.lemmas.Option.{same_Some, none-some}
use Rattle.verse_tree.specs.Tree.{Written, Shape}
use Rattle.verse_tree.specs.Tree as s
use Rattle.verse_tree.specs.ItemTree.{FieldTree, ParamTree, MemberTree, field, method, ItemTree, using, enumeration, class}
use Rattle.verse_tree.specs.ItemTree.{function}
use Rattle.verse_tree.specs.ItemView.{item_of}
use Rattle.verse_tree.specs.Shapes.{ItemsShaped}
use Rattle.verse_tree.specs.Numbering.{items_nodes, program_nodes}
use Rattle.verse_tree.specs.Numbers.{numbers}
use Rattle.verse_tree.specs.PostOrder.{What, program, item, member, parameter, type_name, expression, items_order}
use Rattle.verse_tree.specs.declared.programs.Program.{Program as Made}
use Rattle.verse_tree.specs.declared.tables.FunInfo.{FunInfo}
use Rattle.verse_tree.specs.declared.tables.ClassInfo.{ClassInfo}
use Rattle.verse_tree.proofs.Order.{items_in_order, numbers_length}
use Rattle.verse_join.proofs.Counted.{counted}
use Rattle.verse_rules_types.specs.Types as t
use Rattle.verse_rules_types.specs.Types.{Ty, ty_of}
use Rattle.verse_rules_types.specs.Kinds.{levels}
use Rattle.verse_rules_walk.specs.Around.{outside}
use Rattle.verse_rules_walk.specs.Nodes.{Node, alone, number_of}
use Rattle.verse_rules_walk.specs.Nodes as walked
use Rattle.verse_rules_walk.specs.Order.{AreNumbered}
use Rattle.verse_rules_walk.proofs.Order.{items_alone, numbers_in_row}
use Rattle.verse_names_tables.specs.Names.{Table}
use Rattle.verse_names_tables.specs.Functions.{param_type, spelled}
use Rattle.verse_names_declarations.specs.Known.{known}
use Rattle.verse_names_scopes.specs.Visible.{World}
use Rattle.verse_names_scopes.specs.Visible as visible
use Rattle.verse_names_scopes.specs.Subjects.{locals_behind}
use Rattle.verse_check_typing.specs.Facts.{world_of, type_at}
use Rattle.verse_check_typing.specs.Loops.{index_of}
use Rattle.verse_check_typing.specs.Members.{fields_in}
use Rattle.verse_check_typing.specs.Spelling.{spelled_by}
use Rattle.verse_check_typing.specs.Steps.{begun, type_by}
use Rattle.verse_check.specs.Checking.{all_seen}
use Rattle.verse_rules.specs.Breaking.{NamesBreak}
use Rattle.verse_rules.specs.Made.{made}
use Rattle.verse_rules.specs.Naming.{named}
use Rattle.verse_rules.specs.Sound.{completed, types_of, BodiesBreak, IsSound, size_of, most_size}
use Rattle.verse_accept.specs.Fronts.{Accepts, all_items}
use Rattle.lower_bounds.proofs.Lists.{Each as All_of}
use Rattle.verse_accept_nodes.specs.Laws.{AcceptedShaped}
use Rattle.verse_accept_nodes.proofs.Fine.{NodeNarrow}
use Rattle.verse_accept_nodes.proofs.Accepted.{each_narrow}
use Rattle.verse_accept_scopes.specs.Lists.{Each}
use Rattle.verse_accept_scopes.specs.Sites.{Site, node_of, program_sites, param_subject, params_behind}
use Rattle.verse_accept_scopes.specs.Holding.{OnParams, OnFun}
use Rattle.verse_accept_scopes.proofs.Whole.{walked_are_sites}
use Rattle.verse_accept_scopes.proofs.Rows.{Row, row_of, all_below}
use Rattle.verse_accept_rows.specs.Found.{final, Found}
use Rattle.verse_accept_rows.proofs.Whole.{all_found, items_found}
use Rattle.verse_accept_classes.specs.Owners.{Owned, owned, world_in}
use Rattle.verse_accept_classes.specs.Laws.{Quiet, info_of}
use Rattle.verse_accept_classes.specs.Referring as items
use Rattle.verse_accept_classes.proofs.Functions.{owner_of}
use Rattle.verse_accept_classes.proofs.Bodies.{bodies_found, fields_found, at_fields}
use Rattle.verse_accept_classes.proofs.Tables.{of_made, fields_agree_all, all_written_agrees}
use Rattle.verse_accept_types.specs.Told.{IsNumber}
use Rattle.verse_accept_types.specs.Laws.{Told, MadeTold, FieldTold, ShapeTold, ItemTold, MemberTold, WhatTold, TypesTold, AcceptedTypes}
use Rattle.verse_accept_types.proofs.Bounds.{Good, good_told, index_good, inner_good}
use Rattle.verse_accept_types.proofs.Steps.{SightNamed, Fits, type_at_good, all_named}
use Rattle.verse_accept_types.proofs.Refs.{classes_count, enums_count, enums_few}
use Rattle.verse_accept_types.proofs.Declared.{NarrowSite, at_owned, world_named}

each_get : {A : Type 0} (P : A → Type 0) (xs : List A) → Each P xs → (i : ℕ) (x : A) → slice_get xs i ≡ Some x → P x
each_get P [] h i x e = elim (none-some x e) [ ]
each_get P (y ∷ xs) h zero x e = subst P (same_Some y x e) h.0
each_get P (y ∷ xs) h (suc i) x e = each_get P xs h.1 i x e

each_of_map : {A B : Type 0} (g : A → B) (P : B → Type 0) (xs : List A) → Each (λ (x : A). P (g x)) xs → Each P (map g xs)
each_of_map g P [] h = tt
each_of_map g P (x ∷ xs) h = (h.0, each_of_map g P xs h.1)

module _ (is : List ItemTree) (shaped : ItemsShaped is) (numbered : AreNumbered is) (sound : IsSound is)
    (narrow : All_of NodeNarrow (items_order is)) (few : length (items_order is) ≤ 4294967295) (few_enums : IsNumber (enums_count is)) where
  abbrev Fair : Ty → Type 0
  Fair = Good (classes_count is) (enums_count is)

  abbrev types : Table
  types = (known is).index.types

  abbrev sites : List Site
  sites = program_sites is

  quiet : Quiet is
  quiet n c b = sound.named n c (inl b)

  walked_is : map node_of sites ≡ walked.items_nodes is
  walked_is = walked_are_sites is shaped

  -- ---- the nodes

  narrow_sites : (vs : List Site) → All_of NodeNarrow (map alone (map node_of vs)) → Each (NarrowSite is) vs
  narrow_sites [] h = tt
  narrow_sites (v ∷ vs) h = (h.0, narrow_sites vs h.1)

  each_narrow_site : Each (NarrowSite is) sites
  each_narrow_site =
      narrow_sites sites (subst (All_of NodeNarrow) (sym (ap (map alone) walked_is ∙ items_alone is)) narrow)

  row : Row 0 sites (length sites)
  row = row_of sites (walked.items_nodes is) walked_is (numbers_in_row is numbered)

  as_many : {A B : Type 0} (g : A → B) (xs : List A) → length (map g xs) ≡ length xs
  as_many g [] = refl
  as_many g (x ∷ xs) = ap suc (as_many g xs)

  sites_few : length sites ≤ 4294967295
  sites_few =
      let same : length sites ≡ length (items_order is) =
      sym (as_many node_of sites) ∙ sym (as_many alone (map node_of sites))
      ∙ ap length (ap (map alone) walked_is ∙ items_alone is) in
      subst (λ n. n ≤ 4294967295) (sym same) few

  fit_nodes : (vs : List Site) → Each (λ (u : Node). u.number < length sites) (map node_of vs) → Each (NarrowSite is) vs →
      Each (Fits (classes_count is) (enums_count is)) (map node_of vs)
  fit_nodes [] b h = tt
  fit_nodes (v ∷ vs) b h = (record { number = omega (arith, b.0, sites_few); narrow = h.0 }, fit_nodes vs b.1 h.1)

  seen : SightNamed (classes_count is) (enums_count is) (all_seen (named is) is)
  seen =
      all_named (classes_count is) (enums_count is) (world_of (named is) is) (world_named is quiet shaped numbered each_narrow_site)
      (walked.items_nodes is) begun
      (subst (Each (Fits (classes_count is) (enums_count is))) walked_is
      (fit_nodes sites (all_below 0 sites (length sites) (length sites) row (omega arith)) each_narrow_site))
      (record { types = tt; refs = tt })

  found_good : (n : ℕ) → Fair (type_at (types_of is) n)
  found_good n = type_at_good (classes_count is) (enums_count is) (types_of is) seen.types n

  told : (u : Ty) → Fair u → Told is u
  told u h = good_told (classes_count is) (enums_count is) u h

  -- ---- what is written

  site_good : (v : Site) → Found is v → Fair (type_by (final is) v.number v.what)
  site_good v h = subst Fair h.type (found_good v.number)

  event_good : (u : Ty) → Fair (t.event u) → Fair u
  event_good u h = inner_good (classes_count is) (enums_count is) u (levels (t.event u)) h.0 (omega arith) h.1

  shape_told : (n : ℕ) (x : Shape) → Fair (type_by (final is) n (expression x)) → ShapeTold is x
  shape_told n (s.Shape.typed x w e) h = told (spelled_by (named is).refs w) h
  shape_told n (s.Shape.variable x w e) h = told (spelled_by (named is).refs w) h
  shape_told n (s.Shape.event w) h = told (spelled_by (named is).refs w) (event_good (spelled_by (named is).refs w) h)
  shape_told n x h = tt

  item_told : (n : ℕ) (i : ItemTree) → Fair (type_by (final is) n (item i)) → ItemTold is i
  item_told n (using u) h = tt
  item_told n (enumeration e) h = tt
  item_told n (class c) h = tt
  item_told n (function d) h = told (spelled_by (named is).refs d.written) h

  member_told : (n : ℕ) (m : MemberTree) → Fair (type_by (final is) n (member m)) → MemberTold is m
  member_told n (field d) h = told (spelled_by (named is).refs d.written) h
  member_told n (method d) h = told (spelled_by (named is).refs d.written) h

  what_told : (n : ℕ) (x : What) → Fair (type_by (final is) n x) → WhatTold is x
  what_told n (expression x) h = shape_told n x h
  what_told n (item i) h = item_told n i h
  what_told n (member m) h = member_told n m h
  what_told n (parameter q) h = told (spelled_by (named is).refs q.written) h
  what_told n (type_name x) h = tt
  what_told n (program js) h = tt

  sites_told : (vs : List Site) → Each (Found is) vs → Each (λ (v : Site). WhatTold is v.what) vs
  sites_told [] h = tt
  sites_told (v ∷ vs) h = (what_told v.number v.what (site_good v h.0), sites_told vs h.1)

  written : (i : ℕ) (v : Node) → slice_get (walked.items_nodes is) i ≡ Some v → WhatTold is v.what
  written =
      each_get (λ (v : Node). WhatTold is v.what) (walked.items_nodes is)
      (subst (Each (λ (v : Node). WhatTold is v.what)) walked_is
      (each_of_map node_of (λ (v : Node). WhatTold is v.what) sites (sites_told sites (all_found is shaped numbered sound))))

  -- ---- what the tables have

  -- where the same is written
  made_told : (w : Written) → spelled_by (named is).refs w ≡ spelled types w → Fair (spelled_by (named is).refs w) →
      MadeTold is (made (spelled types w))
  made_told w e h = told (ty_of (made (spelled types w))) (subst Fair (e ∙ sym (of_made (spelled types w))) h)

  params_told : (w : World) → w.types ≡ types → (xs : Table) (ps : List ParamTree) → OnParams (Found is) w xs ps →
      All (MadeTold is) (map made (map (param_type types) ps))
  params_told w e xs [] h = All-nil (MadeTold is)
  params_told w e xs (p ∷ ps) h =
      All-cons (MadeTold is) (made (param_type types p)) (map made (map (param_type types) ps))
      (made_told p.written (all_written_agrees is w e outside false xs p.written h.0) (site_good _ h.1))
      (params_told w e (locals_behind w (param_subject p) xs) ps h.2)

  world_types : (c : Option ℕ) → (world_in (known is) c).types ≡ types
  world_types None = refl
  world_types (Some c) = refl

  body : (g : ℕ) (o : Owned) → slice_get (owned (known is).items) g ≡ Some o → OnFun (Found is) (world_in (known is) o.class) [] o.tree
  body g o e = bodies_found is shaped numbered sound g o e

  result_good : (g : ℕ) (o : Owned) → slice_get (owned (known is).items) g ≡ Some o →
      Fair (spelled_by (named is).refs o.tree.written)
  result_good g o e =
      at_owned (Found is) (known is) (λ d. Fair (spelled_by (named is).refs d.written))
      (λ d h. site_good _ h) (λ w d h. site_good _ h) (known is).items (items_found is shaped numbered sound) g o e

  function_params : (g : ℕ) (i : FunInfo) → slice_get (completed is).funs g ≡ Some i → All (MadeTold is) i.params
  function_params g i e =
      let o = owner_of is g i e in
      subst (λ (j : FunInfo). All (MadeTold is) j.params) o.2
      (params_told (world_in (known is) o.0.class) (world_types o.0.class) [] o.0.tree.params (body g o.0 o.1).0)

  function_result : (g : ℕ) (i : FunInfo) → slice_get (completed is).funs g ≡ Some i → MadeTold is i.result
  function_result g i e =
      let o = owner_of is g i e in
      let w : World = world_in (known is) o.0.class in
      subst (λ (j : FunInfo). MadeTold is j.result) o.2
      (made_told o.0.tree.written (all_written_agrees is w (world_types o.0.class) outside false (params_behind w o.0.tree.params [])
      o.0.tree.written (body g o.0 o.1).1) (result_good g o.0 o.1))

  all_mapped : (ds : List FieldTree) → ((i : ℕ) (d : FieldTree) → slice_get ds i ≡ Some d → FieldTold is (info_of is d)) →
      All (FieldTold is) (map (info_of is) ds)
  all_mapped [] h = All-nil (FieldTold is)
  all_mapped (d ∷ ds) h = All-cons (FieldTold is) (info_of is d) (map (info_of is) ds) (h 0 d refl) (all_mapped ds (λ j. h (suc j)))

  field_told : (c i : ℕ) (d : FieldTree) → slice_get (items.fields_of is c) i ≡ Some d → FieldTold is (info_of is d)
  field_told c i d e =
      made_told d.written
      (all_written_agrees is (visible.outside (known is)) refl outside false [] d.written (fields_found is shaped numbered sound c i d e).0)
      (site_good _ (at_fields (Found is) is quiet (items_found is shaped numbered sound) c i d e))

  class_fields : (c : ℕ) (k : ClassInfo) → slice_get (completed is).classes c ≡ Some k → All (FieldTold is) k.fields
  class_fields c k e =
      subst (All (FieldTold is)) (sym (fields_agree_all is quiet c) ∙ ap fields_in e)
      (all_mapped (items.fields_of is c) (field_told c))

  pub types_told : TypesTold is
  types_told = record {
    enums = few_enums;
    found = λ n. told (type_at (types_of is) n) (found_good n);
    index = λ n. told (index_of (type_at (types_of is) n))
        (index_good (classes_count is) (enums_count is) (type_at (types_of is) n) (found_good n));
    params = function_params;
    result = function_result;
    fields = class_fields;
    written = written;
  }

-- ---- an accepted program

module _ (shapes : AcceptedShaped) (files : List (List ℕ)) (made : Made) where
  abbrev own : List ItemTree
  own = map item_of made.tree.items

  module _ (a : Accepts files own) where
    same : own ≡ a.0
    same = let tested = a.2 in tested.2.0 ∙ (tested.1.2.0 ∙ tested.1.1.0)

    numbered : AreNumbered own
    numbered = (all_items a.1.0, same ∙ a.1.2)

    sound : IsSound own
    sound =
        let tested = a.2 in
        record {
          named = subst (λ js. (n c : ℕ) → NamesBreak js n c → ⊥) (sym same) tested.1.1.1;
          typed = subst (λ js. (n c : ℕ) → BodiesBreak js n c → ⊥) (sym (same ∙ sym tested.1.1.0)) tested.1.2.1;
        }

    size : size_of own ≤ most_size
    size = subst (λ js. size_of js ≤ most_size) (sym a.2.2.0) a.2.2.1

    -- the nodes of the program are those that are numbered
    as_written : program_nodes numbered.0 ≡ program_nodes own
    as_written = counted numbered.0 made.tree.items (program_nodes numbered.0) numbered.1 refl

    order_few : length (items_order own) ≤ 4294967295
    order_few =
        let many : length (items_order own) ≡ items_nodes numbered.0 =
        sym (numbers_length (items_order own))
        ∙ ap length (ap (λ (js : List ItemTree). numbers (items_order js)) numbered.1 ∙ items_in_order numbered.0 0)
        ∙ length-range_with_len 0 (items_nodes numbered.0) in
        omega (arith, many, as_written, size)

    enums_low : IsNumber (enums_count own)
    enums_low =
        let fewer : length (completed own).enums ≤ items_nodes own = enums_few own in
        omega (arith, fewer, size)

    types_are_told : TypesTold own
    types_are_told = types_told own (shapes files own a) numbered sound (each_narrow files own a) order_few enums_low

pub accepted_types : AcceptedShaped → AcceptedTypes
accepted_types shapes files made a = types_are_told shapes files made a
