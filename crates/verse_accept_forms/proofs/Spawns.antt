-- What `spawn` starts, and members that are called or indexed as values: what their forms need.
use Rattle.std.proofs.Common.{◌≡◌, ℕ, Bool, true, false, not, cond, ◌&&◌, ◌||◌, bytes_eq, List, [], ◌∷◌, Option, map}
use Rattle.std.proofs.Common.{refl, sym, subst, ap, ◌∙◌}
use Rattle.std.specs.Prelude.{Some, None, slice_get, codes}
use Rattle.std.proofs.lemmas.Bool.{not-false}
use Rattle.verse_base.specs.declared.places.Place.{Place}
use Rattle.verse_base.proofs.Facts.{not_second, guarded}
use Rattle.verse_tree.specs.Tree.{Bytes, Tree, tree, Shape, Trees}
use Rattle.verse_tree.specs.Tree as t
use Rattle.verse_tree.specs.ItemTree.{ItemTree}
use Rattle.verse_tree.specs.declared.tables.Ref.{Ref}
use Rattle.verse_tree.specs.declared.tables.Ref.TheVariants as ref
use Rattle.verse_rules_types.specs.Types.{Ty, ty_of}
use Rattle.verse_rules_types.specs.Types as ty
use Rattle.verse_rules_walk.specs.Around.{Around, used_as, no_effects}
use Rattle.verse_rules_walk.specs.Around as around
use Rattle.verse_rules_walk.specs.Nodes.{number_of_tree}
use Rattle.verse_names_tables.specs.Names.{Table}
use Rattle.verse_names_declarations.specs.Known.{known}
use Rattle.verse_names_scopes.specs.Visible.{World}
use Rattle.verse_check_typing.specs.Refs as refs
use Rattle.verse_check_typing.specs.Facts.{Facts, type_of}
use Rattle.verse_check_typing.specs.Parts.{count}
use Rattle.verse_check_typing.specs.Callees as types
use Rattle.verse_check_typing.specs.Calls.{are_wanted, call_wanted, call_type, is_suspending}
use Rattle.verse_check_typing.specs.Steps.{params_at}
use Rattle.verse_check_typing.specs.Members.{part, action, missing, part_type, may_stand, by_ref, member_at, field_by, method_by}
use Rattle.verse_check_typing.specs.Members.{member_ref, type_member}
use Rattle.verse_check_typing.specs.TypeRules.{is_called}
use Rattle.verse_effects.specs.Callees.{call_fails}
use Rattle.verse_effects.specs.Callees as effects
use Rattle.verse_effects.specs.Forms.{index_fails, is_plain_function}
use Rattle.verse_effects.specs.declared.callees.Callee.TheVariants as c
use Rattle.verse_rules.specs.Sound.{completed}
use Rattle.verse_meaning.specs.Programs.{Program, method_in, ref_at, same_name}
use Rattle.verse_meaning.specs.Residuals as form
use Rattle.verse_meaning.specs.Residuals.{Form}
use Rattle.verse_meaning.specs.Evaluating.{Callee, of_value, callee_of, spawned_callee, member_form, member_callee, await_name, signal_name}
use Rattle.verse_meaning.proofs.Names.{same_bytes}
use Rattle.verse_sorts.specs.Sorts as s
use Rattle.verse_sorts.specs.Sorts.{Sort, Fits}
use Rattle.verse_sorts.specs.Typing.{AllFit, fit_so}
use Rattle.verse_sorts.proofs.Fitting.{fits_itself}
use Rattle.verse_sorts_types.specs.SortOf.{sort_of}
use Rattle.verse_sound_rules.specs.Found.{Allowed, Signature}
use Rattle.verse_sound_rules.specs.Found as rules
use Rattle.verse_sound_rules.specs.Forms.{Gives, CanBeSpawned}
use Rattle.verse_sound_rules.specs.Forms as takes
use Rattle.verse_sound_rules.specs.Fine.{on_callee}
use Rattle.verse_accept_scopes.specs.Holding.{OnPart, OnArguments}
use Rattle.verse_accept_rows.specs.Found.{final, Found}
use Rattle.verse_accept_classes.specs.Owners.{Owned, owned}
use Rattle.verse_accept_classes.specs.Referring.{Names}
use Rattle.verse_accept_classes.specs.Laws.{Quiet, FunctionsStand}
use Rattle.verse_accept_classes.proofs.Tables.{fields_agree_all, field_names_agree}
use Rattle.verse_accept_fine.specs.Needs.{NoEnum}
use Rattle.verse_accept_fine.specs.Sorted.{At, ty_at, up, sorted, program, Allows, class_in, signature_of, made_sort, is_event_type}
use Rattle.verse_accept_fine.proofs.Rules.{or_left}
use Rattle.verse_accept_fine.proofs.Base.{its_row, is_row, same_known}
use Rattle.verse_accept_fine.proofs.Base as base
use Rattle.verse_accept_fine.proofs.Members as members
use Rattle.verse_accept_fine.proofs.Calls as calls
use Rattle.verse_accept_fine.proofs.Calls.{served, class_entry}
use Rattle.verse_accept_forms.specs.Callees.{HasObject, Starts}
use Rattle.verse_accept_forms.proofs.Operands.{sorts_of, used_allows}
use Rattle.verse_accept_forms.proofs.CalleeKinds.{Kind, kind_of, is_function, is_own, is_method, is_print, is_floor, is_ceiling, is_modulo}
use Rattle.verse_accept_forms.proofs.CalleeKinds.{is_task, is_event, is_signal, is_nowhere, as_value, is_item, is_fixed, effects_of}
use Rattle.verse_accept_forms.proofs.CalleeKinds.{object_of}

decides_so : (q : Bool) → (true && not q) ≡ false → q ≡ true
decides_so true h = refl
decides_so false h = cc

module _ (is : List ItemTree) (arrays events : ℕ → Bool) where
  abbrev F : Facts
  F = final is

  abbrev whole : Program
  whole = program is arrays events

  abbrev found : rules.Found
  found = sorted is

  abbrev sorts : Trees → List Sort
  sorts ts = sorts_of is arrays events ts

  module _ (w : World) (a : Around) (xs : Table) (b : Allowed) (allows : Allows is w a b) (n : ℕ) (p : Place) where
    abbrev own : Sort
    own = sort_of (ty_at is n)

    abbrev Give : Form → List Sort → Type 0
    Give x qs = Gives whole found b xs x qs own

    -- ---- `spawn`

    module _ (stand : FunctionsStand is) (e : Tree) (h : At is w a xs n p (t.Shape.spawn e)) where
      -- round what it starts
      abbrev inner : Around
      inner = used_as around.spawned a

      inner_allows : Allows is w inner b
      inner_allows = used_allows is arrays events w a b around.spawned allows

      started : Rattle.verse_check_typing.specs.TypeRules.can_be_spawned F e ≡ true
      started = not-false _ (base.types is w a xs n p (t.Shape.spawn e) h).callable

      waits : b.waits ≡ true
      waits = calls.lasting_waits is arrays events w a xs b allows n p (t.Shape.spawn e) no_effects h refl refl refl refl

      record CanSpawn (g : ℕ) (ts : Trees) : Type 0 where
        callable : CanBeSpawned whole found b xs g
        operands : AllFit (up is) (sorts ts) (found.signature g).params
        value : Fits (up is) (s.task (found.signature g).result) own

      module _ (m : ℕ) (q : Place) (f : Tree) (ts : Trees) (same : e ≡ tree m q (t.Shape.call f ts))
          (i : At is w inner xs m q (t.Shape.call f ts)) (args : OnArguments (Found is) w m inner xs (number_of_tree f) 0 ts) where
        abbrev CallsOf : ℕ → Owned → Type 0
        CallsOf g o = calls.Calls is arrays events w inner xs b inner_allows m q f g o

        can_spawn : (g : ℕ) (o : Owned) → CallsOf g o → CanSpawn g ts
        can_spawn g o k =
            let info = calls.info_of is arrays events o in
            let sign = ap (λ i. signature_of i (class_in (slice_get (owned (known is).items) g))) (stand.info g o k.there) in
            let counted : are_wanted (Some (Rattle.std.specs.Prelude.length info.params)) (count ts) ≡ true =
            ap (λ z. are_wanted (call_wanted z) (count ts)) (sym k.callee)
            ∙ not-false _ (base.types is w inner xs m q (t.Shape.call f ts) i).counted in
            let never : info.effects.decides ≡ false =
            sym (ap call_fails k.effects) ∙ (base.effects is w inner xs m q (t.Shape.call f ts) i).brackets in
            let row : ty_at is m ≡ ty_of info.result =
            its_row is w inner xs m q (t.Shape.call f ts) i ∙ ap (λ z. call_type z ts) k.callee in
            let outer : ty_at is n ≡ ty.task (ty_of info.result) =
            its_row is w a xs n p (t.Shape.spawn e) h ∙ ap (λ z. ty.task (type_of F z)) same ∙ ap ty.task row in
            record {
              callable = record {
                function = o.tree;
                found = stand.found g o k.there;
                decides = ap (λ (z : Signature). z.decides) sign ∙ never;
                waits = waits;
              };
              operands = subst (AllFit (up is) (sorts ts)) (sym (ap (λ (z : Signature). z.params) sign))
                  (calls.arguments_fit is arrays events info ts
                  (subst (λ ps. calls.Served is arrays events ps 0 ts) k.params (served is arrays events w m inner xs
                  (number_of_tree f) 0 ts args))
                  counted);
              value = subst (λ z. Fits (up is) (s.task z) own) (sym (ap (λ (z : Signature). z.result) sign))
                  (is_row is n (ty.task (ty_of info.result)) outer);
            }

        abbrev object : Sort
        object = object_of is arrays events w inner xs b inner_allows m q f

        no_start : (k : types.Callee) → types.callee_of F f ≡ k → is_suspending k ≡ false → ⊥
        no_start k g z =
            let no : false ≡ true =
            sym z ∙ sym (ap is_suspending g) ∙ sym (ap (Rattle.verse_check_typing.specs.TypeRules.can_be_spawned F) same) ∙ started in
            absurd (cc)

        start_by : {k : Callee} → Kind is arrays events w inner xs b inner_allows m q f (form.picking None) q k →
            on_callee (spawned_callee k) (λ x. Give x (sorts ts))
            (λ x. HasObject is f × Give x (object ∷ sorts ts)) (λ x. ⊥) (λ x. ⊥)
        start_by (is_function g o k) =
            let can = can_spawn g _ k in
            record {
              no_case = tt;
              taken = (found.signature g).params;
              given = s.task (found.signature g).result;
              operands = can.operands;
              takes = takes.takes_spawned can.callable (calls.this_of is arrays events g None (ap class_in o.there));
              value = can.value;
            }
        start_by (is_own d j o r this k) =
            let can = can_spawn o.number r k in
            record {
              no_case = tt;
              taken = (found.signature o.number).params;
              given = s.task (found.signature o.number).result;
              operands = can.operands;
              takes = takes.takes_spawned_own d o.number (allows.this ∙ this) (ap (method_in j) (class_entry is d j o) ∙ o.there)
                  can.callable;
              value = can.value;
            }
        start_by (is_method d j o r has be k) =
            let can = can_spawn o.number r k in (
              has,
              record {
                no_case = tt;
                taken = s.obj d ∷ (found.signature o.number).params;
                given = s.task (found.signature o.number).result;
                operands = fit_so (subst (λ z. Fits (up is) z (s.obj d)) (sym be) (fits_itself (up is) (s.obj d))) can.operands;
                takes = takes.takes_spawned_method o.number (ap (method_in j) (class_entry is d j o) ∙ o.there) can.callable;
                value = can.value;
              },
            )
        start_by (is_print g k) = absurd (no_start types.print g refl)
        start_by (is_floor g k) = absurd (no_start types.round g refl)
        start_by (is_ceiling g k) = absurd (no_start types.round g refl)
        start_by (is_modulo g k) = absurd (no_start types.modulo g refl)
        start_by (is_task u has be g k) = absurd (no_start (types.await u) g refl)
        start_by (is_event u has be g k) = absurd (no_start (types.await u) g refl)
        start_by (is_signal u has be g k) = absurd (no_start (types.signal u) g refl)
        start_by (is_nowhere x k has be g) = absurd (no_start (types.value ty.never) g refl)
        start_by (as_value v has) = absurd (no_start (types.value (type_of F f)) v.callee refl)
        start_by (is_item g) = absurd (no_start types.item g refl)
        start_by (is_fixed u v g k) = absurd (no_start (types.value u) g refl)

      -- square brackets are behind what can fail, and a `spawn` stands where nothing is tried
      module _ (m : ℕ) (q : Place) (f : Tree) (ts : Trees) (same : e ≡ tree m q (t.Shape.index f ts))
          (i : At is w inner xs m q (t.Shape.index f ts)) where
        untried : a.is_tried ≡ false
        untried =
            or_left a.is_tried a.owner.effects.transacts
            (or_left (a.is_tried || a.owner.effects.transacts) a.is_deferred
            (not_second true _ (base.effects is w a xs n p (t.Shape.spawn e) h).undone refl))

        no_function : (g : ℕ) (o : Owned) → calls.Calls is arrays events w inner xs b inner_allows m q f g o → ⊥
        no_function g o k =
            let info = calls.info_of is arrays events o in
            let brackets : (true && not info.effects.decides) ≡ false =
            sym (ap is_plain_function k.effects) ∙ (base.effects is w inner xs m q (t.Shape.index f ts) i).brackets in
            let fails : index_fails around.spawned (effects_of is arrays events f) ≡ true =
            ap (index_fails around.spawned) k.effects ∙ decides_so info.effects.decides brackets in
            let caught : a.is_caught ≡ true =
            guarded _ a.is_caught (base.effects is w inner xs m q (t.Shape.index f ts) i).caught fails in
            let no : true ≡ false = sym (allows.tried caught) ∙ untried in cc

        none_started : (k : types.Callee) → types.callee_of F f ≡ k → is_suspending k ≡ false → ⊥
        none_started k g z =
            let no : false ≡ true =
            sym z ∙ sym (ap is_suspending g) ∙ sym (ap (Rattle.verse_check_typing.specs.TypeRules.can_be_spawned F) same) ∙ started in
            cc

        no_index : {k : Callee} → Kind is arrays events w inner xs b inner_allows m q f (form.picking None) q k → ⊥
        no_index (is_function g o k) = no_function g _ k
        no_index (is_own d j o r this k) = no_function o.number r k
        no_index (is_method d j o r has be k) = no_function o.number r k
        no_index (is_print g k) = none_started types.print g refl
        no_index (is_floor g k) = none_started types.round g refl
        no_index (is_ceiling g k) = none_started types.round g refl
        no_index (is_modulo g k) = none_started types.modulo g refl
        no_index (is_task u has be g k) = none_started (types.await u) g refl
        no_index (is_event u has be g k) = none_started (types.await u) g refl
        no_index (is_signal u has be g k) = none_started (types.signal u) g refl
        no_index (is_nowhere x k has be g) = none_started (types.value ty.never) g refl
        no_index (as_value v has) = none_started (types.value (type_of F f)) v.callee refl
        no_index (is_item g) = none_started types.item g refl
        no_index (is_fixed u v g k) = none_started (types.value u) g refl

    pub spawn_gives : FunctionsStand is → Quiet is → Names is w → ((m : ℕ) → events m ≡ is_event_type (ty_at is m)) → (e : Tree) →
        At is w a xs n p (t.Shape.spawn e) → OnPart (Found is) w n (used_as around.spawned a) xs e → Starts is arrays events w a xs b n p e
    spawn_gives stand quiet names told (tree m q (t.Shape.call f ts)) h o =
        let e = tree m q (t.Shape.call f ts) in
        start_by stand e h m q f ts refl o.2 o.1.1
        (kind_of is arrays events w (inner stand e h) xs b (inner_allows stand e h) m q stand quiet names (form.picking None) q told m
        (used_as around.callee (inner stand e h)) f o.1.0)
    spawn_gives stand quiet names told (tree m q (t.Shape.index f ts)) h o =
        let e = tree m q (t.Shape.index f ts) in
        absurd (no_index stand e h m q f ts refl o.2
        (kind_of is arrays events w (inner stand e h) xs b (inner_allows stand e h) m q stand quiet names (form.picking None) q told m
        (around.indexed (inner stand e h)) f o.1.0))
    spawn_gives stand quiet names told (tree m q x) h o =
        let no : Rattle.verse_check_typing.specs.TypeRules.is_suspending_call F x ≡ true =
        not-false _ (base.types is w a xs n p (t.Shape.spawn (tree m q x)) h).callable in absurd (cc)

    -- ---- members that are values

    not_missing : (f1 r : Bool) → may_stand f1 (cond r action missing) ≡ true → r ≡ true
    not_missing f1 true h = refl
    not_missing f1 false h = absurd (cc)

    -- what is called as a value is none of the actions
    as_part : (f1 t1 : Bool) (u : Ty) (x : Bytes) (y z : Form) → may_stand f1 (type_member F u x) ≡ true →
        member_callee (member_ref F u x) t1 x y ≡ of_value z → may_stand false (type_member F u x) ≡ true
    as_part f1 t1 ty.never x y z h k = refl
    as_part f1 t1 (ty.class d) x y z h k = by (field_by F d x) (method_by F d x) h k
      where
        by : (i j : Option ℕ) → may_stand f1 (by_ref F (member_at d i j)) ≡ true → member_callee (member_at d i j) t1 x y ≡ of_value z →
            may_stand false (by_ref F (member_at d i j)) ≡ true
        by (Some i) j h k = refl
        by None (Some j) h k = absurd (cc)
        by None None h k = absurd (cc)
    as_part f1 t1 (ty.array u) x y z h k = by (bytes_eq x (codes "Length")) h
      where
        by : (r : Bool) → may_stand f1 (cond r (part ty.int) missing) ≡ true → may_stand false (cond r (part ty.int) missing) ≡ true
        by true h = refl
        by false h = absurd (cc)
    as_part f1 t1 (ty.mapping l u) x y z h k = by (bytes_eq x (codes "Length")) h
      where
        by : (r : Bool) → may_stand f1 (cond r (part ty.int) missing) ≡ true → may_stand false (cond r (part ty.int) missing) ≡ true
        by true h = refl
        by false h = absurd (cc)
    as_part f1 t1 (ty.task u) x y z h k =
        let named : same_name x await_name ≡ true = sym (same_bytes x await_name) ∙ not_missing f1 (bytes_eq x (codes "Await")) h in
        absurd (by (same_name x await_name) named k)
      where
        by : (r : Bool) → r ≡ true →
            cond r (Rattle.verse_meaning.specs.Evaluating.of_object (form.awaiting t1)) (cond (same_name x signal_name)
            (Rattle.verse_meaning.specs.Evaluating.of_object form.signalling) (of_value y)) ≡ of_value z → ⊥
        by true e k = cc
        by false e k = cc
    as_part f1 t1 (ty.event u) x y z h k =
        let either = not_missing f1 (bytes_eq x (codes "Await") || bytes_eq x (codes "Signal")) h in
        absurd (by (same_name x await_name) (same_name x signal_name)
        (ap (λ r. r || same_name x signal_name) (sym (same_bytes x await_name)) ∙ ap (λ r. bytes_eq x (codes "Await") || r) (sym
        (same_bytes x signal_name)) ∙ either) k)
      where
        by : (r j : Bool) → (r || j) ≡ true →
            cond r (Rattle.verse_meaning.specs.Evaluating.of_object (form.awaiting t1)) (cond j
            (Rattle.verse_meaning.specs.Evaluating.of_object form.signalling) (of_value y)) ≡ of_value z → ⊥
        by true j e k = cc
        by false true e k = cc
        by false false e k = cc
    as_part f1 t1 u x y z h k = absurd (cc)

    pub member_gives : Quiet is → (e : Tree) (x : Bytes) → At is w a xs n p (t.Shape.member e x) →
        NoEnum (refs.ref_at F.refs (number_of_tree e)) → (y z : Form) (q : Place) →
        callee_of whole (tree n p (t.Shape.member e x)) y q ≡ of_value z →
        Give (member_form (ref_at whole n) x) (sort_of (type_of F e) ∷ [])
    member_gives quiet e x h plain y z q k =
        let u = type_of F e in
        let only = members.type_only is arrays events fields_agree_all field_names_agree quiet
        (refs.ref_at F.refs (number_of_tree e)) u x plain in
        let known_ref : ref_at whole n ≡ member_ref F u x = same_known (slice_get F.refs n) ∙ h.ref in
        let stands : may_stand (is_called a.used) (type_member F u x) ≡ true =
        ap (may_stand (is_called a.used)) (sym only) ∙ not-false _ (base.types is w a xs n p (t.Shape.member e x) h).member in
        let named = ap (λ o. member_callee o (events (Rattle.verse_meaning.specs.Evaluating.number_of e)) x y) (sym known_ref) ∙ k in
        let own_row : ty_at is n ≡ part_type (type_member F u x) =
        its_row is w a xs n p (t.Shape.member e x) h ∙ ap part_type only in
        subst (λ o. Give (member_form o x) (sort_of u ∷ [])) (sym known_ref)
        (members.by_type is arrays events fields_agree_all field_names_agree quiet w a xs b allows n p u x
        (as_part (is_called a.used) (events (Rattle.verse_meaning.specs.Evaluating.number_of e)) u x y z stands named) own_row)
