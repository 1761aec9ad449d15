-- Each function and method, and the default of each field, is fine.
use Rattle.std.proofs.Common.{◌≡◌, ℕ, zero, suc, Bool, true, false, cond, not, ◌&&◌, ◌||◌, List, [], ◌∷◌, ◌++◌, map, Option, refl, sym}
use Rattle.std.proofs.Common.{ap, ◌∙◌, subst, codes, bytes_eq}
use Rattle.std.specs.Prelude.{Some, None, slice_get, is_some, option_map}
use Rattle.std.proofs.lemmas.Option.{same_Some}
use Rattle.verse_base.proofs.Facts.{get_mapped, none_is}
use Rattle.verse_tree.specs.Tree.{Bytes, Written, Tree, tree}
use Rattle.verse_tree.specs.ItemTree.{SpecTree, FieldTree, ParamTree, FunTree, ItemTree}
use Rattle.verse_tree.specs.PostOrder.{expression, parameter}
use Rattle.verse_tree.specs.Shapes.{Shaped, as_expression, ItemsShaped, FieldShaped, FunShaped, DefaultShaped}
use Rattle.verse_tree.specs.declared.tables.Ref.TheVariants as ref
use Rattle.verse_tree.specs.declared.tables.Effects.{Effects}
use Rattle.verse_tree.specs.declared.tables.Ty.{Ty as Made}
use Rattle.verse_rules_types.specs.Types.{Ty, ty_of}
use Rattle.verse_rules_types.specs.Fitting.{fits}
use Rattle.verse_rules_walk.specs.Around.{Used, value, outside, Around, default_around}
use Rattle.verse_rules_walk.specs.Nodes.{round_body}
use Rattle.verse_rules_walk.specs.Specifiers.{writes, written_effects}
use Rattle.verse_rules_walk.specs.Order.{AreNumbered}
use Rattle.verse_names_tables.specs.Names.{Table}
use Rattle.verse_names_tables.specs.Words.{has, effects_of}
use Rattle.verse_names_tables.specs.Functions.{fun_function, param_type, spelled}
use Rattle.verse_names_declarations.specs.Known.{known}
use Rattle.verse_names_scopes.specs.Visible.{World, visible}
use Rattle.verse_names_scopes.specs.Visible as worlds
use Rattle.verse_names_scopes.specs.Subjects.{is_unknown, locals_behind}
use Rattle.verse_check_typing.specs.Facts.{Facts, type_at, var_at}
use Rattle.verse_check_typing.specs.Members.{fields_of}
use Rattle.verse_check_typing.specs.Rows as rows
use Rattle.verse_rules.specs.Made.{made}
use Rattle.verse_rules.specs.Naming.{made_function}
use Rattle.verse_rules.specs.Sound.{completed, types_of, IsSound}
use Rattle.verse_meaning.specs.Programs.{Program, fun_of_info}
use Rattle.verse_meaning_state.specs.Waits.{nth}
use Rattle.verse_meaning_state.proofs.Numbers.{nth_is}
use Rattle.verse_sorts.specs.Sorts as s
use Rattle.verse_sorts.specs.Sorts.{Sort, Fits}
use Rattle.verse_sorts.specs.Typing.{at}
use Rattle.verse_sorts.proofs.Fitting.{fits_itself}
use Rattle.verse_sorts_types.specs.SortOf.{sort_of}
use Rattle.verse_sorts_types.proofs.Fitting.{fits_sort}
use Rattle.verse_sound_rules.specs.Found.{Signature, Allowed, in_function, in_default, New}
use Rattle.verse_sound_rules.specs.Found as rules
use Rattle.verse_sound_rules.specs.Forms.{IsDefault, is_default}
use Rattle.verse_sound_rules.specs.Fine.{Fine, sort_at}
use Rattle.verse_sound_rules.specs.Programs.{params_behind, FineParams, FineFunction, FineDefault}
use Rattle.verse_accept_scopes.specs.Lists.{Each}
use Rattle.verse_accept_scopes.specs.Sites.{Site, param_site, param_subject, program_sites}
use Rattle.verse_accept_scopes.specs.Sites as sites
use Rattle.verse_accept_scopes.specs.Holding.{On, OnParams, OnFun, OnField, OnDefault}
use Rattle.verse_accept_scopes.proofs.Whole.{holds_on_items}
use Rattle.verse_accept_rows.specs.Found.{final, Found}
use Rattle.verse_accept_rows.proofs.Quiet.{first_kept}
use Rattle.verse_accept_rows.proofs.Whole.{items_found}
use Rattle.verse_accept_classes.specs.Owners.{Owned, owned, world_in}
use Rattle.verse_accept_classes.specs.Referring.{Names}
use Rattle.verse_accept_classes.specs.Referring as items
use Rattle.verse_accept_classes.specs.Laws.{Quiet, FunctionsStand, info_of}
use Rattle.verse_accept_classes.proofs.Functions.{on_owned}
use Rattle.verse_accept_classes.proofs.Tables.{of_made, fields_agree_all, names_stand, all_written_agrees}
use Rattle.verse_accept_classes.proofs.Bodies.{fields_on}
use Rattle.verse_accept_fine.specs.Sorted.{ty_at, all_classes, up, made_sort, field_sort, lasts, class_in, signature_of, sorted, program}
use Rattle.verse_accept_fine.specs.Sorted.{Allows, written_sort}
use Rattle.verse_accept_fine.proofs.Names.{not_local, added, get_map}
use Rattle.verse_accept_trees.specs.Names.{Named}
use Rattle.verse_accept_trees.specs.Laws.{Told, TreesAreFine}
use Rattle.verse_accept_sound.proofs.Shapes.{get_each, as_a_body, all_owned_shaped, fields_shaped}

no : {A : Type 0} → false ≡ true → A
no e = cc

-- ---- effects that are written

same_writes : (x : Bytes) (ss : List SpecTree) → has x ss ≡ writes x ss
same_writes x [] = refl
same_writes x (q ∷ ss) = ap (λ b. cond (bytes_eq q.name x) true b) (same_writes x ss)

pub same_effects : (ss : List SpecTree) → effects_of ss ≡ written_effects ss
same_effects ss =
    let e = same_writes (codes "computes") ss in
    let f = same_writes (codes "transacts") ss in
    let g = same_writes (codes "decides") ss in
    let h = same_writes (codes "suspends") ss in
    rw (e, f, g, h)

module _ (is : List ItemTree) (arrays events : ℕ → Bool) (told : Told is arrays events) (shaped : ItemsShaped is)
    (numbered : AreNumbered is) (sound : IsSound is) (quiet : Quiet is) (functions : FunctionsStand is) (trees : TreesAreFine)
    (named : Each Named (program_sites is)) where
  abbrev whole : Program
  whole = program is arrays events

  abbrev found : rules.Found
  found = sorted is

  abbrev types : Table
  types = (known is).index.types

  -- the sort of a type as it stands in the tables
  pub sort_made : (u : Ty) → made_sort (made u) ≡ sort_of u
  sort_made u = ap sort_of (of_made u)

  -- a type that is written
  module _ (w : World) (names : Names is w) where
    -- ---- parameters

    abbrev Params : List ParamTree → List Sort
    Params ps = map made_sort (map made (map (param_type types) ps))

    param_new : (xs : Table) (p : ParamTree) → Found is (param_site w xs p) → visible w xs p.name ≡ None
    param_new xs p h =
        none_is (visible w xs p.name)
        (first_kept 40 (is_some (visible w xs p.name)) ((41, is_unknown w xs (param_subject p)) ∷ []) h.names)

    pub params_fine : (xs : Table) (ps : List ParamTree) → OnParams (Found is) w xs ps → OnParams Named w xs ps →
        FineParams whole found xs ps (Params ps)
    params_fine xs [] h k = tt
    params_fine xs (p ∷ ps) h k =
        let none = param_new xs p h.1 in
        let own : ty_at is p.number ≡ spelled types p.written =
        h.1.type ∙ all_written_agrees is w names.types outside false xs p.written h.0 in
        let sort : made_sort (made (spelled types p.written)) ≡ sort_of (ty_at is p.number) =
        sort_made (spelled types p.written) ∙ ap sort_of (sym own) in (
          subst (λ q. Fits (up is) (made_sort (made (spelled types p.written))) q) sort
              (fits_itself (up is) (made_sort (made (spelled types p.written)))),
          (not_local w xs p.name none, k.1),
          h.1.var,
          subst (λ ys. FineParams whole found ys ps (Params ps)) (added w xs p.name (ref.Local p.number) none)
              (params_fine (locals_behind w (param_subject p) xs) ps h.2 k.2),
        )

    pub same_behind : (xs : Table) (ps : List ParamTree) → OnParams (Found is) w xs ps → sites.params_behind w ps xs ≡ params_behind ps xs
    same_behind xs [] h = refl
    same_behind xs (p ∷ ps) h =
        same_behind (locals_behind w (param_subject p) xs) ps h.2
        ∙ ap (params_behind ps) (added w xs p.name (ref.Local p.number) (param_new xs p h.1))

  -- ---- functions

  abbrev pub own_signature : Owned → Signature
  own_signature o = record {
    params = map made_sort (map made (map (param_type types) o.tree.params));
    result = made_sort (made (spelled types o.tree.written));
    decides = (effects_of o.tree.effects).decides;
    lasts = lasts (effects_of o.tree.effects);
    this = o.class;
  }

  module _ (g : ℕ) (o : Owned) (there : slice_get (owned (known is).items) g ≡ Some o) where
    pub signature_is : found.signature g ≡ own_signature o
    signature_is =
        ap (λ x. signature_of x (class_in (slice_get (owned (known is).items) g))) (functions.info g o there)
        ∙ ap (λ x. signature_of (Some (made_function (fun_function types o.tree))) (class_in x)) there

    abbrev W : World
    W = world_in (known is) o.class

    world_names : (c : Option ℕ) → Names is (world_in (known is) c)
    world_names None = (names_stand is quiet).0
    world_names (Some c) = (names_stand is quiet).1 c

    on_body : OnFun (Found is) W [] o.tree
    on_body = on_owned (Found is) (known is) (known is).items (items_found is shaped numbered sound) g o there

    named_body : OnFun Named W [] o.tree
    named_body = on_owned Named (known is) (known is).items (holds_on_items Named is shaped numbered named) g o there

    this_is : (c : Option ℕ) → c ≡ (world_in (known is) c).class
    this_is None = refl
    this_is (Some c) = refl

    written_is : rows.spelled (final is) o.tree.written ≡ spelled types o.tree.written
    written_is =
        all_written_agrees is W (world_names o.class).types outside false (sites.params_behind W o.tree.params []) o.tree.written on_body.1

    result_is : sort_of (rows.spelled (final is) o.tree.written) ≡ (own_signature o).result
    result_is = ap sort_of written_is ∙ sym (sort_made (spelled types o.tree.written))

    body_allows : (m : Bool) → ((own_signature o).lasts ≡ true → m ≡ true) →
        Allows is W (round_body o.tree) (in_function (own_signature o) m)
    body_allows m h =
        let eff = same_effects o.tree.effects in
        record {
          fails = λ e. ap (λ (x : Effects). x.decides) eff ∙ e;
          tried = λ e. e;
          result = λ e. ap (λ q. Some q) (sym result_is);
          loop = λ e. no e;
          breaks = λ e. no e;
          waits = λ t d l. h (ap lasts eff ∙ l);
          this = this_is o.class;
        }

    pub body_fine : (m : Bool) → ((own_signature o).lasts ≡ true → m ≡ true) →
        Fine whole found (in_function (own_signature o) m) (params_behind o.tree.params []) o.tree.body
    body_fine m h =
        let names = world_names o.class in
        let shape = get_each (λ (x : Owned). FunShaped x.tree) (owned (known is).items) g o
        (all_owned_shaped is Rattle.verse_names_tables.specs.Counting.no_counts shaped) there in
        subst (λ ys. Fine whole found (in_function (own_signature o) m) ys o.tree.body) (same_behind W names [] o.tree.params on_body.0)
        (trees is arrays events told quiet functions W names (round_body o.tree) (in_function (own_signature o) m) (body_allows m h)
        (λ e. (o.tree.written, refl)) o.tree.written refl (sites.params_behind W o.tree.params []) o.tree.body shape.2 on_body.2
        named_body.2)

    pub own_params : FineParams whole found [] o.tree.params (own_signature o).params
    own_params = params_fine W (world_names o.class) [] o.tree.params on_body.0 named_body.0

    pub body_fits : Fits (up is) (sort_at whole found o.tree.body) (own_signature o).result
    body_fits = by o.tree.body refl
      where
        by : (e : Tree) → o.tree.body ≡ e → Fits (up is) (sort_at whole found e) (own_signature o).result
        by (tree n p x) e =
            let names = world_names o.class in
            let on : On (Found is) W (round_body o.tree) (sites.params_behind W o.tree.params []) (tree n p x) =
            subst (On (Found is) W (round_body o.tree) (sites.params_behind W o.tree.params [])) e on_body.2 in
            subst (λ q. Fits (up is) (sort_of (ty_at is n)) q) result_is
            (fits_sort (all_classes is) (ty_at is n) (rows.spelled (final is) o.tree.written) on.1.serves)

    pub function_fine : FineFunction whole found g o.tree
    function_fine = record {
      params = subst (λ (x : Signature). FineParams whole found [] o.tree.params x.params) (sym signature_is) own_params;
      body = λ m h. subst (λ (x : Signature). Fine whole found (in_function x m) (params_behind o.tree.params []) o.tree.body)
          (sym signature_is) (body_fine m (λ l. h (subst (λ (x : Signature). x.lasts ≡ true) (sym signature_is) l)));
      result = subst (λ (x : Signature). Fits (up is) (sort_at whole found o.tree.body) x.result) (sym signature_is) body_fits;
    }

  -- ---- the defaults of fields

  pub slots_are : (c : ℕ) → found.slots c ≡ map field_sort (map (info_of is) (items.fields_of is c))
  slots_are c = ap (map field_sort) (fields_agree_all is quiet c)

  module _ (c i : ℕ) (d : FieldTree) (there : slice_get (items.fields_of is c) i ≡ Some d) where
    pub slot_is : at (found.slots c) i ≡ Some (field_sort (info_of is d))
    slot_is =
        ap (λ l. at l i) (slots_are c)
        ∙ get_map field_sort (map (info_of is) (items.fields_of is c)) i (info_of is d)
        (get_mapped (info_of is) (items.fields_of is c) i d there)

    on_field : (P : Site → Type 0) → Each P (program_sites is) → OnField P (worlds.outside (known is)) [] d
    on_field P h = fields_on P is quiet (holds_on_items P is shaped numbered h) c i d there

    found_field : OnField (Found is) (worlds.outside (known is)) [] d
    found_field = fields_on (Found is) is quiet (items_found is shaped numbered sound) c i d there

    default_allows : (m : Bool) → Allows is (worlds.outside (known is)) (default_around d.written) (in_default m)
    default_allows m = record {
      fails = λ e. no e;
      tried = λ e. e;
      result = λ e. no e;
      loop = λ e. no e;
      breaks = λ e. no e;
      waits = λ t q l. no l;
      this = refl;
    }

    pub default_fine : (b : Tree) → d.default ≡ Some b → FineDefault whole found b (field_sort (info_of is d))
    default_fine (tree n p x) e =
        let outer = (names_stand is quiet).0 in
        let on : On (Found is) (worlds.outside (known is)) (default_around d.written) [] (tree n p x) =
        subst (OnDefault (Found is) (worlds.outside (known is)) [] d.written) e found_field.1 in
        let new : On Named (worlds.outside (known is)) (default_around d.written) [] (tree n p x) =
        subst (OnDefault Named (worlds.outside (known is)) [] d.written) e (on_field Named named).1 in
        let shape = get_each FieldShaped (items.fields_of is c) i d (fields_shaped is shaped c) there in
        let own : Shaped as_expression (tree n p x) = subst DefaultShaped e shape.1 in
        let agreed = all_written_agrees is (worlds.outside (known is)) outer.types outside false [] d.written found_field.0 in
        record {
          value = λ m. trees is arrays events told quiet functions (worlds.outside (known is)) outer (default_around d.written)
              (in_default m) (default_allows m) (λ f. no f) d.written refl [] (tree n p x) (as_a_body (tree n p x) own) on new;
          fits = subst (λ q. Fits (up is) (sort_of (ty_at is n)) q)
              (ap sort_of agreed ∙ sym (sort_made (spelled types d.written)))
              (fits_sort (all_classes is) (ty_at is n) (rows.spelled (final is) d.written) on.1.serves);
        }

  pub defaults_fine : (b : Tree) (q : Sort) → IsDefault whole found b q → FineDefault whole found b q
  defaults_fine b q (is_default c i d e f h) =
      let there : slice_get (items.fields_of is c) i ≡ Some d = sym (nth_is (items.fields_of is c) i) ∙ e in
      subst (FineDefault whole found b) (same_Some _ _ (sym (slot_is c i d there) ∙ h)) (default_fine c i d there b f)
