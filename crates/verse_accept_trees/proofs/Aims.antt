-- Where the target of a `set` leads.
use Rattle.std.proofs.Common.{◌≡◌, ◌≢◌, ℕ, Bool, true, false, not, nat_eq, List, [], ◌∷◌, ◌++◌, Option}
use Rattle.std.proofs.Common.{refl, sym, subst, ap, ◌∙◌}
use Rattle.std.specs.Prelude.{Some, None, slice_get}
use Rattle.std.proofs.lemmas.Bool.{not-false}
use Rattle.verse_base.specs.declared.places.Place.{Place}
use Rattle.verse_base.proofs.Facts.{and_first}
use Rattle.verse_tree.specs.Tree.{Bytes, Tree, tree, Shape, Trees}
use Rattle.verse_tree.specs.Tree as t
use Rattle.verse_tree.specs.ItemTree.{ItemTree}
use Rattle.verse_tree.specs.declared.tables.Ref.{Ref}
use Rattle.verse_tree.specs.declared.tables.Ref.TheVariants as ref
use Rattle.verse_rules_types.specs.Types.{Ty}
use Rattle.verse_rules_types.specs.Types as ty
use Rattle.verse_rules_types.specs.Kinds.{is_key}
use Rattle.verse_rules_walk.specs.Around.{Around, used_as}
use Rattle.verse_rules_walk.specs.Around as around
use Rattle.verse_names_tables.specs.Names.{Table}
use Rattle.verse_names_scopes.specs.Visible.{World, visible}
use Rattle.verse_check_typing.specs.Refs as refs
use Rattle.verse_check_typing.specs.Facts.{Facts, type_of}
use Rattle.verse_check_typing.specs.Keys.{has_keys}
use Rattle.verse_check_typing.specs.Parts.{count}
use Rattle.verse_check_typing.specs.Members.{part_type, by_ref, member_at, field_by, method_by, member_ref, type_member, field_type}
use Rattle.verse_check_typing.specs.Calls.{are_wanted, index_wanted, index_type, indices_fit, can_index, takes_one_index, element_of}
use Rattle.verse_check_typing.specs.Rows.{name_type}
use Rattle.verse_check_typing.specs.TypeRules.{has_value, is_variable, can_be_set, is_item}
use Rattle.verse_effects.specs.Callees as effects
use Rattle.verse_effects.specs.Forms.{ends_in_index}
use Rattle.verse_rules.specs.Sound.{completed}
use Rattle.verse_meaning.specs.Programs.{Program}
use Rattle.verse_meaning.specs.Evaluating.{base_of, base_named, base_member}
use Rattle.verse_sorts.specs.Sorts as s
use Rattle.verse_sorts.specs.Sorts.{Sort, Fits}
use Rattle.verse_sorts.specs.Typing.{AllFit, fit_no, fit_so}
use Rattle.verse_sorts.proofs.Fitting.{fits_itself, all_itself}
use Rattle.verse_sorts_types.specs.SortOf.{sort_of}
use Rattle.verse_sorts_types.proofs.Fitting as fitting
use Rattle.verse_sorts_values.specs.Operands.{in_list, in_map, Path, path_no, path_so}
use Rattle.verse_sound_rules.specs.Found.{Allowed}
use Rattle.verse_sound_rules.specs.Found as rules
use Rattle.verse_sound_rules.specs.Forms.{Placed}
use Rattle.verse_sound_rules.specs.Forms as takes
use Rattle.verse_sound_rules.specs.Fine.{target_sorts, Reaches, Settled}
use Rattle.verse_accept_scopes.specs.Holding.{OnPart}
use Rattle.verse_accept_rows.specs.Found.{final, Found}
use Rattle.verse_accept_classes.specs.Referring.{Names}
use Rattle.verse_accept_classes.specs.Laws.{Quiet}
use Rattle.verse_accept_classes.proofs.Tables.{fields_agree_all, field_names_agree}
use Rattle.verse_accept_fine.specs.Needs.{NoEnum}
use Rattle.verse_accept_fine.specs.Sorted.{At, ty_at, all_classes, up, sorted, program, Allows}
use Rattle.verse_accept_fine.proofs.Base.{its_row, same_known}
use Rattle.verse_accept_fine.proofs.Base as base
use Rattle.verse_accept_fine.proofs.Operators.{part_sort, int_fits, key_sort}
use Rattle.verse_accept_fine.proofs.Names.{slot_of}
use Rattle.verse_accept_fine.proofs.Members.{field_within, type_only}
use Rattle.verse_accept_forms.proofs.Operands.{sorts_of}
use Rattle.verse_accept_forms.proofs.Indices.{same_never, reaches}
use Rattle.verse_accept_forms.proofs.CalleeKinds.{IsValue, value_by, other_value, enum_type}
use Rattle.verse_accept_trees.specs.Targets.{HasObject}
use Rattle.verse_accept_trees.proofs.Paths.{joined, ended, all_joined, path_then, nowhere}
use Rattle.verse_accept_trees.proofs.Settable.{untrue, not_enum, Varies, by_local, by_field, varies, FieldOf, field_of}
use Rattle.verse_accept_trees.proofs.Settable.{one_tree, Indexing, of_nothing, of_array, of_map, indexing}

module _ (is : List ItemTree) (arrays events : ℕ → Bool) where
  abbrev F : Facts
  F = final is

  abbrev whole : Program
  whole = program is arrays events

  abbrev found : rules.Found
  found = sorted is

  abbrev sorts : Trees → List Sort
  sorts ts = sorts_of is arrays events ts

  -- ---- indices behind a place of a type

  record Steps (u : Ty) (ts : Trees) (v : Ty) : Type 0 where
    taken : List Sort
    fit : AllFit (up is) (sorts ts) taken
    path : Path (sort_of u) taken (sort_of v)
    reached : Reaches whole found (sort_of u) (sorts ts) (sort_of v)

  steps : {u : Ty} {ts : Trees} (v : Ty) → Indexing u ts → can_index F u ts ≡ true → has_keys u ≡ true → v ≡ element_of u (count ts) →
      Reaches whole found (sort_of u) (sorts ts) (sort_of v) → Steps u ts v
  steps v (of_nothing {ts = ts}) i k r z = record {
    taken = sorts ts;
    fit = all_itself (up is) (sorts ts);
    path = subst (λ z. Path s.never (sorts ts) (sort_of z)) (sym (r ∙ same_never (nat_eq (count ts) 1))) (nowhere (sorts ts));
    reached = z;
  }
  steps v (of_array {u = u} (one_tree {m = m} {q = q} {x = x})) i k r z = record {
    taken = s.int ∷ [];
    fit = fit_so (int_fits is arrays events (type_of F (tree m q x)) i) fit_no;
    path = subst (λ z. Path (s.list (sort_of u)) (s.int ∷ []) (sort_of z)) (sym r) (path_so (sort_of u) in_list path_no);
    reached = z;
  }
  steps v (of_map {l = l} {u = u} (one_tree {m = m} {q = q} {x = x})) i k r z = record {
    taken = sort_of l ∷ [];
    fit = fit_so (fitting.fits_sort (all_classes is) (type_of F (tree m q x)) l i) fit_no;
    path = subst (λ z. Path (s.map (sort_of l) (sort_of u)) (sort_of l ∷ []) (sort_of z)) (sym r)
        (path_so (sort_of u) (in_map (key_sort is arrays events l (and_first (is_key l) (has_keys u) k))) path_no);
    reached = z;
  }

  module _ (b : Allowed) (xs : Table) where
    -- where a target leads
    pub record Aim (e : Tree) : Type 0 where
      pub objects : List Sort
      pub indices : List Sort
      pub slot : Sort
      pub placed : Placed whole found b xs (base_of whole e) objects slot
      pub path : Path slot indices (sort_of (type_of F e))
      pub settled : (ends_in_index (completed is) e ≡ true → b.fails ≡ true) → Settled whole found b xs e
      pub operands : AllFit (up is) (target_sorts whole found e) (objects ++ indices)
      pub value : IsValue is arrays events e
      pub keys : has_keys (type_of F e) ≡ true
      pub ends : indices ≢ [] → ends_in_index (completed is) e ≡ true
      pub no_item : is_item F e ≡ false
      pub object : HasObject is e

    -- a place that no index leads to
    at_once : (m : ℕ) (q : Place) (x : Shape) (qs : List Sort) (u : Ty) →
        Placed whole found b xs (base_of whole (tree m q x)) qs (sort_of u) → ty_at is m ≡ u →
        (Placed whole found b xs (base_of whole (tree m q x)) qs (sort_of (ty_at is m)) → Settled whole found b xs (tree m q x)) →
        AllFit (up is) (target_sorts whole found (tree m q x)) qs → IsValue is arrays events (tree m q x) → has_keys (ty_at is m) ≡ true →
        is_item F (tree m q x) ≡ false → HasObject is (tree m q x) → Aim (tree m q x)
    at_once m q x qs u place r settles fit v keys item has = record {
      objects = qs;
      indices = [];
      slot = sort_of u;
      placed = place;
      path = subst (λ z. Path (sort_of u) [] (sort_of z)) (sym r) path_no;
      settled = λ fails. settles (subst (λ z. Placed whole found b xs (base_of whole (tree m q x)) qs (sort_of z)) (sym r) place);
      operands = subst (AllFit (up is) (target_sorts whole found (tree m q x))) (sym (ended qs)) fit;
      value = v;
      keys = keys;
      ends = λ none. absurd (none refl);
      no_item = item;
      object = has;
    }

    -- indices behind a place
    behind : (m : ℕ) (q : Place) (f : Tree) (ts : Trees) (first : Aim f) (more : Steps (type_of F f) ts (ty_at is m)) →
        IsValue is arrays events (tree m q (t.Shape.index f ts)) → has_keys (ty_at is m) ≡ true → Aim (tree m q (t.Shape.index f ts))
    behind m q f ts first more value keys = record {
      objects = first.objects;
      indices = first.indices ++ more.taken;
      slot = first.slot;
      placed = first.placed;
      path = path_then first.path more.path;
      settled = λ fails.
          let k = fails (ap (λ z. not (effects.is_function z)) first.value.effects) in (
            first.settled (λ e. k),
            subst (λ z. Reaches whole found z (sorts ts) (sort_of (ty_at is m))) (sym (part_sort is arrays events f)) more.reached,
            k,
          );
      operands = subst (AllFit (up is) (target_sorts whole found f ++ sorts ts)) (joined first.objects first.indices more.taken)
          (all_joined first.operands more.fit);
      value = value;
      keys = keys;
      ends = λ some. ap (λ z. not (effects.is_function z)) first.value.effects;
      no_item = refl;
      object = first.object;
    }

    module _ (w : World) where
      keyed : (d : Around) (m : ℕ) (q : Place) (x : Shape) → At is w d xs m q x → has_keys (ty_at is m) ≡ true
      keyed d m q x h = ap has_keys (its_row is w d xs m q x h) ∙ not-false _ (base.types is w d xs m q x h).keyed

      -- ---- an index

      more_steps : (d : Around) (m : ℕ) (q : Place) (f : Tree) (ts : Trees) → At is w d xs m q (t.Shape.index f ts) →
          IsValue is arrays events f → has_keys (type_of F f) ≡ true → Steps (type_of F f) ts (ty_at is m)
      more_steps d m q f ts h g k =
          let fit : can_index F (type_of F f) ts ≡ true =
          ap (λ z. indices_fit F z ts) (sym g.callee) ∙ not-false _ (base.types is w d xs m q (t.Shape.index f ts) h).matched in
          let number : are_wanted (takes_one_index (type_of F f)) (count ts) ≡ true =
          ap (λ z. are_wanted (index_wanted z) (count ts)) (sym g.callee) ∙
          not-false _ (base.types is w d xs m q (t.Shape.index f ts) h).counted in
          let row : ty_at is m ≡ element_of (type_of F f) (count ts) =
          its_row is w d xs m q (t.Shape.index f ts) h ∙ ap (λ z. index_type z ts) g.callee in
          steps (ty_at is m) (indexing F (type_of F f) ts fit number) fit k row
          (reaches is arrays events (type_of F f) ts (ty_at is m) fit number k row)

      aim_index : (d : Around) (m : ℕ) (q : Place) (f : Tree) (ts : Trees) → At is w d xs m q (t.Shape.index f ts) → Aim f →
          Aim (tree m q (t.Shape.index f ts))
      aim_index d m q f ts h first =
          behind m q f ts first (more_steps d m q f ts h first.value first.keys)
          (other_value is arrays events w xs d m q (t.Shape.index f ts) h tt) (keyed d m q (t.Shape.index f ts) h)

      module _ (a : Around) (quiet : Quiet is) (allows : Allows is w a b) (names : Names is w) where
        -- ---- a name

        module _ (d : Around) (m : ℕ) (q : Place) (x : Bytes) (h : At is w d xs m q (t.Shape.name x)) where
          abbrev name : Tree
          name = tree m q (t.Shape.name x)

          found_ref : refs.ref_at F.refs m ≡ visible w xs x
          found_ref = h.ref ∙ h.named

          aim_local : (k : ℕ) → visible w xs x ≡ Some (ref.Local k) → is_variable F (Some (ref.Local k)) ≡ true → Aim name
          aim_local k f v =
              at_once m q (t.Shape.name x) [] (ty_at is k)
              (subst (λ o. Placed whole found b xs (base_named whole o x) [] (sort_of (ty_at is k)))
              (sym (same_known (slice_get F.refs m) ∙ found_ref ∙ f)) (takes.in_local (names.locals xs x k f) v))
              (its_row is w d xs m q (t.Shape.name x) h ∙ ap (name_type F) (sym h.ref ∙ found_ref ∙ f)) (λ z. z) fit_no
              (value_by is arrays events m q (t.Shape.name x) (Some (ref.Local k)) (found_ref ∙ f) refl refl)
              (keyed d m q (t.Shape.name x) h) (ap (λ o. not (has_value o)) (found_ref ∙ f)) tt

          aim_own : (c i : ℕ) → visible w xs x ≡ Some (ref.Field c i) → Aim name
          aim_own c i f =
              let there = names.names m xs h.stands.locals x (ref.Field c i) f in
              at_once m q (t.Shape.name x) [] (field_type F c i)
              (subst (λ o. Placed whole found b xs (base_named whole o x) [] (sort_of (field_type F c i)))
              (sym (same_known (slice_get F.refs m) ∙ found_ref ∙ f))
              (takes.in_own c (allows.this ∙ there.0) (slot_of is arrays events fields_agree_all quiet c i there.1)))
              (its_row is w d xs m q (t.Shape.name x) h ∙ ap (name_type F) (sym h.ref ∙ found_ref ∙ f)) (λ z. z) fit_no
              (value_by is arrays events m q (t.Shape.name x) (Some (ref.Field c i)) (found_ref ∙ f) refl refl)
              (keyed d m q (t.Shape.name x) h) (ap (λ o. not (has_value o)) (found_ref ∙ f)) tt

          name_by : {o : Option Ref} → visible w xs x ≡ o → is_variable F o ≡ true → Varies o → Aim name
          name_by f v (by_local {k = k}) = aim_local k f v
          name_by f v (by_field {c = c} {i = i}) = aim_own c i f

          aim_name : is_variable F (refs.ref_at F.refs m) ≡ true → Aim name
          aim_name v =
              let sees : is_variable F (visible w xs x) ≡ true = ap (is_variable F) (sym found_ref) ∙ v in
              name_by refl sees (varies F (visible w xs x) sees)

        -- ---- a member

        no_enum : (d : Around) (k : ℕ) (o : Place) (y : Shape) → At is w d xs k o y → (c : ℕ) → ty_at is k ≡ ty.class c →
            (z : Option Ref) → refs.ref_at F.refs k ≡ z → NoEnum z
        no_enum d k o y g c f None i = tt
        no_enum d k o y g c f (Some (ref.Enum j)) i = not_enum (ty_at is k) c (enum_type is arrays events w xs d k o y j g i) f
        no_enum d k o y g c f (Some z) i = tt

        module _ (d : Around) (m : ℕ) (q : Place) (k : ℕ) (o : Place) (y : Shape) (x : Bytes)
            (h : At is w d xs m q (t.Shape.member (tree k o y) x)) (c i : ℕ) (f : ty_at is k ≡ ty.class c) (fi : field_by F c x ≡ Some i)
            (plain : NoEnum (refs.ref_at F.refs k)) where
          abbrev member : Tree
          member = tree m q (t.Shape.member (tree k o y) x)

          leads : member_ref F (ty_at is k) x ≡ Some (ref.Field c i)
          leads = ap (λ z. member_ref F z x) f ∙ ap (λ z. member_at c z (method_by F c x)) fi

          field_row : ty_at is m ≡ field_type F c i
          field_row =
              its_row is w d xs m q (t.Shape.member (tree k o y) x) h
              ∙ ap part_type (type_only is arrays events fields_agree_all field_names_agree quiet (refs.ref_at F.refs k) (ty_at is k) x
              plain) ∙ ap (λ z. part_type (type_member F z x)) f ∙ ap (λ z. part_type (by_ref F (member_at c z (method_by F c x)))) fi

          field_placed : Placed whole found b xs (base_of whole member) (s.obj c ∷ []) (sort_of (field_type F c i))
          field_placed =
              let named = (field_names_agree is quiet c (field_within is arrays events fields_agree_all field_names_agree quiet c x i
              fi)).place x i fi in
              subst (λ z. Placed whole found b xs (base_member whole z) (s.obj c ∷ []) (sort_of (field_type F c i)))
              (sym (same_known (slice_get F.refs m) ∙ h.ref ∙ leads))
              (takes.in_field (slot_of is arrays events fields_agree_all quiet c i (record { tree = named.0; there = named.1 })))

          object_fits : AllFit (up is) (sort_of (ty_at is k) ∷ []) (s.obj c ∷ [])
          object_fits = fit_so (subst (λ z. Fits (up is) (sort_of z) (s.obj c)) (sym f) (fits_itself (up is) (s.obj c))) fit_no

          aim_field : Aim member
          aim_field =
              at_once m q (t.Shape.member (tree k o y) x) (s.obj c ∷ []) (field_type F c i) field_placed field_row
              (λ z. subst (λ u. Placed whole found b xs (base_of whole member) (sort_of u ∷ []) (sort_of (ty_at is m))) (sym f) z)
              object_fits
              (value_by is arrays events m q (t.Shape.member (tree k o y) x) (Some (ref.Field c i)) (h.ref ∙ leads) refl refl)
              (keyed d m q (t.Shape.member (tree k o y) x) h) refl plain

        aim_member : (d : Around) (m : ℕ) (q : Place) (k : ℕ) (o : Place) (y : Shape) (x : Bytes) →
            At is w d xs m q (t.Shape.member (tree k o y) x) → At is w (used_as around.object d) xs k o y →
            FieldOf F (ty_at is k) x → Aim (tree m q (t.Shape.member (tree k o y) x))
        aim_member d m q k o y x h g e =
            aim_field d m q k o y x h e.class e.place e.type e.named
            (no_enum (used_as around.object d) k o y g e.class e.type (refs.ref_at F.refs k) refl)

        -- ---- any of them

        pub aim : (d : Around) (i : ℕ) (e : Tree) → OnPart (Found is) w i d xs e → can_be_set F e ≡ true → Aim e
        aim d i (tree m q (t.Shape.name x)) h v = aim_name d m q x h.2 v
        aim d i (tree m q (t.Shape.member (tree k o y) x)) h v =
            aim_member d m q k o y x h.2 h.1.2 (field_of F (ty_at is k) x (ap (is_variable F) (sym h.2.ref) ∙ v))
        aim d i (tree m q (t.Shape.index f ts)) h v = aim_index d m q f ts h.2 (aim (around.indexed d) m f h.1.0 v)
        aim d i (tree m q x) h v = untrue v
