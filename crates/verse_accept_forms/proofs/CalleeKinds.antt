-- What callees stand for: for the checker, for its effects and for the meaning at once.
use Rattle.std.proofs.Common.{◌≡◌, ℕ, zero, suc, ◌+◌, ◌<◌, Bool, true, false, not, cond, ◌||◌, bytes_eq, List, [], ◌∷◌, length, Option}
use Rattle.std.proofs.Common.{refl, sym, subst, ap, ◌∙◌, arith}
use Rattle.std.specs.Prelude.{Some, None, slice_get, codes, is_none}
use Rattle.std.proofs.lemmas.Bool.{not-false}
use Rattle.verse_base.specs.declared.places.Place.{Place}
use Rattle.verse_tree.specs.Tree.{Bytes, Tree, tree, Shape}
use Rattle.verse_tree.specs.Tree as t
use Rattle.verse_tree.specs.ItemTree.{ItemTree}
use Rattle.verse_tree.specs.declared.tables.Ref.{Ref}
use Rattle.verse_tree.specs.declared.tables.Ref.TheVariants as ref
use Rattle.verse_rules_types.specs.Types.{Ty}
use Rattle.verse_rules_types.specs.Types as ty
use Rattle.verse_rules_walk.specs.Around.{Around, used_as}
use Rattle.verse_rules_walk.specs.Around as around
use Rattle.verse_rules_walk.specs.Nodes.{number_of_tree}
use Rattle.verse_names_tables.specs.Names.{Table}
use Rattle.verse_names_declarations.specs.Known.{known}
use Rattle.verse_names_declarations.specs.Lines.{Members}
use Rattle.verse_names_scopes.specs.Visible.{World, visible}
use Rattle.verse_names_scopes.specs.Subjects.{subject, this_ref, rules_at}
use Rattle.verse_check_typing.specs.Refs as refs
use Rattle.verse_check_typing.specs.Facts.{Facts, type_of, class_members}
use Rattle.verse_check_typing.specs.Members.{part, action, missing, part_type, may_stand, by_ref, member_at, field_by, method_by}
use Rattle.verse_check_typing.specs.Members.{method_named}
use Rattle.verse_check_typing.specs.Members.{member_ref, type_member, member_of, is_value}
use Rattle.verse_check_typing.specs.Callees as types
use Rattle.verse_check_typing.specs.Rows.{name_type, value_type}
use Rattle.verse_check_typing.specs.TypeRules.{has_value, is_called, is_class, is_enum_value}
use Rattle.verse_effects.specs.Callees as effects
use Rattle.verse_effects.specs.declared.callees.Callee.{Callee as Does}
use Rattle.verse_effects.specs.declared.callees.Callee.TheVariants as c
use Rattle.verse_rules.specs.Sound.{completed}
use Rattle.verse_meaning.specs.Programs.{Program, ref_at, same_name}
use Rattle.verse_meaning.specs.Residuals as form
use Rattle.verse_meaning.specs.Residuals.{Form}
use Rattle.verse_meaning.specs.Evaluating.{Callee, alone, of_object, of_value, of_quotient, callee_of, await_name, signal_name}
use Rattle.verse_meaning.specs.Evaluating.{named_callee, member_callee}
use Rattle.verse_meaning.proofs.Names.{same_bytes}
use Rattle.verse_sorts.specs.Sorts as s
use Rattle.verse_sorts.specs.Sorts.{Sort}
use Rattle.verse_sorts_types.specs.SortOf.{sort_of}
use Rattle.verse_sound_rules.specs.Found.{Allowed}
use Rattle.verse_sound_rules.specs.Found as rules
use Rattle.verse_sound_rules.specs.Fine.{object_sort}
use Rattle.verse_accept_scopes.specs.Holding.{OnPart}
use Rattle.verse_accept_rows.specs.Found.{final, Found}
use Rattle.verse_accept_rows.proofs.Quiet.{no_rule}
use Rattle.verse_accept_classes.specs.Owners.{Owned, owned}
use Rattle.verse_accept_classes.specs.Referring.{IsFunction, IsMethod, IsThere, Names}
use Rattle.verse_accept_classes.specs.Laws.{Quiet, FunctionsStand}
use Rattle.verse_accept_classes.proofs.Tables.{fields_agree_all, field_names_agree, methods_owned}
use Rattle.verse_accept_fine.specs.Needs.{NoEnum}
use Rattle.verse_accept_fine.specs.Sorted.{At, ty_at, sorted, program, Allows, is_event_type}
use Rattle.verse_accept_fine.proofs.Base.{its_row, same_known, same_referred}
use Rattle.verse_accept_fine.proofs.Base as base
use Rattle.verse_accept_fine.proofs.Members.{within_from, type_only}
use Rattle.verse_accept_fine.proofs.Calls.{Calls, named_calls, method_calls}
use Rattle.verse_accept_forms.specs.Callees.{HasValue, HasObject}

-- ---- what waits

abbrev pub IsWait : Form → Type 0
IsWait (form.awaiting t) = Unit {0}
IsWait form.signalling = Unit {0}
IsWait x = ⊥

-- ---- types that are neither called nor indexed, and never made of an enum

pub data IsFixed : Ty → Type 0 where
  fixed_int : IsFixed ty.int
  fixed_enum : {e : ℕ} → IsFixed (ty.enum e)

-- of a node that refers to an enum
pub data OfEnum : Ty → Type 0 where
  of_enum : {e : ℕ} → OfEnum (ty.enum e)
  of_never : OfEnum ty.never

-- ---- what names what: no name of Await is that of Signal

as_codes : (x y : Bytes) (q : Bool) → same_name x y ≡ q → bytes_eq x y ≡ q
as_codes x y q e = same_bytes x y ∙ e

module _ (is : List ItemTree) (arrays events : ℕ → Bool) where
  abbrev F : Facts
  F = final is

  abbrev whole : Program
  whole = program is arrays events

  abbrev pub effects_of : Tree → Does
  effects_of e = effects.callee_of (completed is) e

  -- the checker calls or indexes what has this type
  pub record IsValue (e : Tree) : Type 0 where
    pub callee : types.callee_of F e ≡ types.value (type_of F e)
    pub effects : effects_of e ≡ c.Other

  pub value_by : (m : ℕ) (q : Place) (x : Shape) (o : Option Ref) → refs.ref_at F.refs m ≡ o →
      types.callee_by F o x (ty_at is m) ≡ types.value (ty_at is m) → effects.callee_by_ref (completed is) o x ≡ c.Other →
      IsValue (tree m q x)
  value_by m q x o e f g = record {
    callee = ap (λ r. types.callee_by F r x (ty_at is m)) e ∙ f;
    effects = ap (λ r. effects.callee_by_ref (completed is) r x) (same_referred (slice_get F.refs m) ∙ e) ∙ g;
  }

  -- ---- forms that are no names and no members

  abbrev pub NoName : Shape → Type 0
  NoName (t.Shape.name x) = ⊥
  NoName (t.Shape.member e x) = ⊥
  NoName x = Unit {0}

  module _ (w : World) (xs : Table) (a : Around) where
    pub other_value : (m : ℕ) (q : Place) (x : Shape) → At is w a xs m q x → NoName x → IsValue (tree m q x)
    other_value m q (t.Shape.name x) h k = absurd k
    other_value m q (t.Shape.member e x) h k = absurd k
    other_value m q t.Shape.this h k = by w.class (h.ref ∙ h.named)
      where
        by : (o : Option ℕ) → refs.ref_at F.refs m ≡ this_ref o → IsValue (tree m q t.Shape.this)
        by None e = value_by m q t.Shape.this None e refl refl
        by (Some d) e = value_by m q t.Shape.this (Some (ref.Class d)) e refl refl
    other_value m q (t.Shape.instance x gs) h k =
        by (refs.ref_at (Rattle.verse_rules.specs.Naming.named is).refs m) h.ref
        (not-false _ (base.types is w a xs m q (t.Shape.instance x gs) h).callable)
      where
        by : (o : Option Ref) → refs.ref_at F.refs m ≡ o → is_class o ≡ true → IsValue (tree m q (t.Shape.instance x gs))
        by (Some (ref.Class d)) e f = value_by m q (t.Shape.instance x gs) (Some (ref.Class d)) e refl refl
        by (Some r) e f = absurd (cc)
        by None e f = absurd (cc)
    other_value m q (t.Shape.enum_pattern x y) h k =
        by (refs.ref_at (Rattle.verse_rules.specs.Naming.named is).refs m) h.ref
        (not-false _ (base.types is w a xs m q (t.Shape.enum_pattern x y) h).member)
      where
        by : (o : Option Ref) → refs.ref_at F.refs m ≡ o → is_enum_value F o y ≡ true → IsValue (tree m q (t.Shape.enum_pattern x y))
        by (Some (ref.Enum d)) e f = value_by m q (t.Shape.enum_pattern x y) (Some (ref.Enum d)) e refl refl
        by (Some r) e f = absurd (cc)
        by None e f = absurd (cc)
    other_value m q x h k = value_by m q x None (h.ref ∙ h.named) refl refl

    -- ---- nodes that refer to an enum

    no_enum_member : (u : Ty) (x : Bytes) (d : ℕ) → member_ref F u x ≡ Some (ref.Enum d) → ⊥
    no_enum_member (ty.class e) x d h = by (field_by F e x) (method_by F e x) h
      where
        by : (i m : Option ℕ) → member_at e i m ≡ Some (ref.Enum d) → ⊥
        by (Some i) m h = cc
        by None (Some m) h = cc
        by None None h = cc
    no_enum_member u x d h = cc

    pub enum_type : (m : ℕ) (q : Place) (x : Shape) (d : ℕ) → At is w a xs m q x → refs.ref_at F.refs m ≡ Some (ref.Enum d) →
        OfEnum (ty_at is m)
    enum_type m q (t.Shape.name x) d h e =
        subst OfEnum (sym (its_row is w a xs m q (t.Shape.name x) h ∙ ap (name_type F) (sym h.ref ∙ e))) of_never
    enum_type m q (t.Shape.enum_pattern x y) d h e =
        subst OfEnum (sym (its_row is w a xs m q (t.Shape.enum_pattern x y) h ∙ ap (λ o. value_type F o y) (sym h.ref ∙ e)))
        (by (is_value F d y))
      where
        by : (r : Bool) → OfEnum (cond r (ty.enum d) ty.never)
        by true = of_enum
        by false = of_never
    enum_type m q (t.Shape.member o x) d h e = absurd (no_enum_member (type_of F o) x d (sym h.ref ∙ e))
    enum_type m q t.Shape.this d h e = absurd (by w.class (sym (h.ref ∙ h.named) ∙ e))
      where
        by : (o : Option ℕ) → this_ref o ≡ Some (ref.Enum d) → ⊥
        by None e = cc
        by (Some i) e = cc
    enum_type m q (t.Shape.instance x gs) d h e =
        absurd (by (refs.ref_at (Rattle.verse_rules.specs.Naming.named is).refs m) (sym h.ref ∙ e)
        (not-false _ (base.types is w a xs m q (t.Shape.instance x gs) h).callable))
      where
        by : (o : Option Ref) → o ≡ Some (ref.Enum d) → is_class o ≡ true → ⊥
        by (Some (ref.Class i)) e f = cc
        by (Some r) e f = cc
        by None e f = cc
    enum_type m q x d h e = let no : None ≡ Some (ref.Enum d) = sym (h.ref ∙ h.named) ∙ e in absurd (cc)

  -- ---- kinds of callees

  method_within : (d : ℕ) (z : Bytes) (i : ℕ) → method_by F d z ≡ Some i → d < length (known is).outline
  method_within d z i e = by (slice_get (class_members (known is)) d) refl
    where
      by : (o : Option Members) → slice_get (class_members (known is)) d ≡ o → d < length (known is).outline
      by None q = let no : None ≡ Some i = sym (ap (λ o. method_named o z) q) ∙ e in absurd (cc)
      by (Some m) q = within_from (known is) 0 d (known is).outline m q

  plain_enum : (o : Option Ref) → NoEnum o → effects.is_enum o ≡ false
  plain_enum None h = refl
  plain_enum (Some (ref.Enum e)) h = absurd h
  plain_enum (Some r) h = refl

  -- the names of the two actions
  abbrev acting : Bytes → Does
  acting z = effects.own_member false z

  awaits : (z : Bytes) → same_name z await_name ≡ true → acting z ≡ c.Await
  awaits z e = ap (λ q. cond q c.Await (cond (bytes_eq z (codes "Signal")) c.Signal c.Other)) (as_codes z await_name true e)

  signals : (z : Bytes) → same_name z await_name ≡ false → same_name z signal_name ≡ true → acting z ≡ c.Signal
  signals z e f =
      ap (λ q. cond q c.Await (cond (bytes_eq z (codes "Signal")) c.Signal c.Other)) (as_codes z await_name false e)
      ∙ ap (λ q. cond q c.Signal c.Other) (as_codes z signal_name true f)

  idles : (z : Bytes) → same_name z await_name ≡ false → same_name z signal_name ≡ false → acting z ≡ c.Other
  idles z e f =
      ap (λ q. cond q c.Await (cond (bytes_eq z (codes "Signal")) c.Signal c.Other)) (as_codes z await_name false e)
      ∙ ap (λ q. cond q c.Signal c.Other) (as_codes z signal_name false f)

  no_missing : (q r : Bool) → r ≡ false → may_stand q (cond r action missing) ≡ true → ⊥
  no_missing q r e h = let no : may_stand q missing ≡ true = ap (λ z. may_stand q (cond z action missing)) (sym e) ∙ h in cc

  module _ (w : World) (a : Around) (xs : Table) (b : Allowed) (allows : Allows is w a b) (n : ℕ) (p : Place) where
    abbrev pub CallsOf : Tree → ℕ → Owned → Type 0
    CallsOf e g o = Calls is arrays events w a xs b allows n p e g o

    abbrev pub Object : Tree → Type 0
    Object e = HasObject is e

    abbrev pub object_of : Tree → Sort
    object_of e = object_sort whole (sorted is) e

    pub data Kind (e : Tree) (y : Form) (pl : Place) : Callee → Type 0 where
      is_function : (g : ℕ) (f : IsFunction is g) → CallsOf e g (record { class = None; tree = f.tree }) →
          Kind e y pl (alone (form.calling g))
      is_own : (d i : ℕ) (f : IsMethod is d i) (o : Owned) → w.class ≡ Some d → CallsOf e f.number o →
          Kind e y pl (alone (form.calling_own i))
      is_method : (d i : ℕ) (f : IsMethod is d i) (o : Owned) → Object e → object_of e ≡ s.obj d → CallsOf e f.number o →
          Kind e y pl (of_object (form.calling_method i))
      is_print : types.callee_of F e ≡ types.print → effects_of e ≡ c.Print → Kind e y pl (alone (form.printing pl))
      is_floor : types.callee_of F e ≡ types.round → effects_of e ≡ c.Round → Kind e y pl (of_quotient (form.flooring pl))
      is_ceiling : types.callee_of F e ≡ types.round → effects_of e ≡ c.Round → Kind e y pl (of_quotient (form.ceiling pl))
      is_modulo : types.callee_of F e ≡ types.modulo → effects_of e ≡ c.Modulo → Kind e y pl (alone form.taking_modulo)
      is_task : (u : Ty) → Object e → object_of e ≡ s.task (sort_of u) → types.callee_of F e ≡ types.await u → effects_of e ≡ c.Await →
          Kind e y pl (of_object (form.awaiting false))
      is_event : (u : Ty) → Object e → object_of e ≡ s.event (sort_of u) → types.callee_of F e ≡ types.await u → effects_of e ≡ c.Await →
          Kind e y pl (of_object (form.awaiting true))
      is_signal : (u : Ty) → Object e → object_of e ≡ s.event (sort_of u) → types.callee_of F e ≡ types.signal u →
          effects_of e ≡ c.Signal →
          Kind e y pl (of_object form.signalling)
      -- behind what gives no value
      is_nowhere : (x : Form) → IsWait x → Object e → object_of e ≡ s.never → types.callee_of F e ≡ types.value ty.never →
          Kind e y pl (of_object x)
      as_value : IsValue e → HasValue is arrays events w a xs b n p e → Kind e y pl (of_value y)
      -- the name of a class or an enum
      is_item : types.callee_of F e ≡ types.item → Kind e y pl (of_value y)
      -- an int or the value of an enum
      is_fixed : (u : Ty) → IsFixed u → types.callee_of F e ≡ types.value u → (k : Callee) → Kind e y pl k

    module _ (stand : FunctionsStand is) (quiet : Quiet is) (names : Names is w) (y : Form) (pl : Place) where
      -- ---- names

      module _ (d : Around) (m : ℕ) (q : Place) (z : Bytes) (h : At is w d xs m q (t.Shape.name z)) where
        abbrev name : Tree
        name = tree m q (t.Shape.name z)

        found_ref : refs.ref_at F.refs m ≡ visible w xs z
        found_ref = h.ref ∙ h.named

        there : (k : Ref) → visible w xs z ≡ Some k → IsThere is w.class k
        there k f = names.names m xs h.stands.locals z k f

        callee : (o : Option Ref) → visible w xs z ≡ o → types.callee_of F name ≡ types.callee_by F o (t.Shape.name z) (ty_at is m)
        callee o f = ap (λ k. types.callee_by F k (t.Shape.name z) (ty_at is m)) (found_ref ∙ f)

        does : (o : Option Ref) → visible w xs z ≡ o → effects_of name ≡ effects.callee_by_ref (completed is) o (t.Shape.name z)
        does o f =
            ap (λ k. effects.callee_by_ref (completed is) k (t.Shape.name z)) (same_referred (slice_get F.refs m) ∙ found_ref ∙ f)

        valued : (o : Option Ref) → visible w xs z ≡ o →
            types.callee_by F o (t.Shape.name z) (ty_at is m) ≡ types.value (ty_at is m) →
            effects.callee_by_ref (completed is) o (t.Shape.name z) ≡ c.Other → has_value o ≡ true → Kind name y pl (of_value y)
        valued o f g k v = as_value (value_by m q (t.Shape.name z) o (found_ref ∙ f) g k) (ap has_value f ∙ v)

        by_name : (o : Option Ref) → visible w xs z ≡ o → Kind name y pl (named_callee o y pl)
        by_name None f =
            let no : true ≡ false = sym (ap is_none f) ∙ no_rule (rules_at w xs (subject m (t.Shape.name z))) h.names 1 _ refl in
            absurd (cc)
        by_name (Some (ref.Local k)) f = valued (Some (ref.Local k)) f refl refl refl
        by_name (Some (ref.Key k)) f = valued (Some (ref.Key k)) f refl refl refl
        by_name (Some (ref.Field c1 k)) f = valued (Some (ref.Field c1 k)) f refl refl refl
        by_name (Some (ref.Class k)) f = is_item (callee (Some (ref.Class k)) f)
        by_name (Some (ref.Enum k)) f = is_item (callee (Some (ref.Enum k)) f)
        by_name (Some (ref.Fun g)) f =
            let function = there (ref.Fun g) f in
            is_function g function (named_calls is arrays events w a xs b allows n p stand m q z g (found_ref ∙ f) function)
        by_name (Some (ref.Method c1 i)) f =
            let method = there (ref.Method c1 i) f in
            let o = methods_owned is quiet c1 i method.1.number method.1.there in
            let own : Owned = record { class = Some o.class; tree = o.tree } in
            is_own c1 i method.1 own method.0
            (method_calls is arrays events w a xs b allows n p stand m q (t.Shape.name z) c1 i method.1 own quiet (found_ref ∙ f) o.there)
        by_name (Some (ref.Builtin zero)) f = is_print (callee (Some (ref.Builtin zero)) f) (does (Some (ref.Builtin zero)) f)
        by_name (Some (ref.Builtin (suc zero))) f =
            is_floor (callee (Some (ref.Builtin (suc zero))) f) (does (Some (ref.Builtin (suc zero))) f)
        by_name (Some (ref.Builtin (suc (suc zero)))) f =
            is_ceiling (callee (Some (ref.Builtin (suc (suc zero)))) f) (does (Some (ref.Builtin (suc (suc zero)))) f)
        by_name (Some (ref.Builtin (suc (suc (suc zero))))) f =
            is_modulo (callee (Some (ref.Builtin (suc (suc (suc zero))))) f) (does (Some (ref.Builtin (suc (suc (suc zero))))) f)
        by_name (Some (ref.Builtin (suc (suc (suc (suc k)))))) f = absurd (omega (arith, there (ref.Builtin (suc (suc (suc (suc k))))) f))

        named_kind : Kind name y pl (callee_of whole name y pl)
        named_kind =
            subst (λ o. Kind name y pl (named_callee o y pl)) (sym (same_known (slice_get F.refs m) ∙ found_ref))
            (by_name (visible w xs z) refl)

      -- ---- members

      module _ (told : (m : ℕ) → events m ≡ is_event_type (ty_at is m)) (d : Around) (m : ℕ) (q : Place) (k : ℕ) (r : Place) (v : Shape)
          (z : Bytes)
          (h : At is w d xs m q (t.Shape.member (tree k r v) z)) where
        abbrev object : Tree
        object = tree k r v

        abbrev e : Tree
        e = tree m q (t.Shape.member (tree k r v) z)

        -- an action by its name, for an object that has no member of that name
        callee_none : (u : Ty) → ty_at is k ≡ u → member_ref F u z ≡ None → (x : types.Callee) → types.action_of u z (ty_at is m) ≡ x →
            types.callee_of F e ≡ x
        callee_none u f g x i =
            ap (λ o. types.callee_by F o (t.Shape.member object z) (ty_at is m)) (h.ref ∙ ap (λ o. member_ref F o z) f ∙ g)
            ∙ ap (λ o. types.action_of o z (ty_at is m)) f ∙ i

        does_none : (u : Ty) → ty_at is k ≡ u → member_ref F u z ≡ None → NoEnum (refs.ref_at F.refs k) → (x : Does) →
            acting z ≡ x → effects_of e ≡ x
        does_none u f g plain x i =
            ap (λ o. effects.callee_by_ref (completed is) o (t.Shape.member object z))
            (same_referred (slice_get F.refs m) ∙ h.ref ∙ ap (λ o. member_ref F o z) f ∙ g)
            ∙ ap (λ o. effects.own_member o z) (ap effects.is_enum (same_referred (slice_get F.refs k)) ∙ plain_enum (refs.ref_at F.refs
            k) plain)
            ∙ i

        class_kind : (c1 : ℕ) → ty_at is k ≡ ty.class c1 → NoEnum (refs.ref_at F.refs k) → (i j : Option ℕ) → field_by F c1 z ≡ i →
            method_by F c1 z ≡ j → (f1 : Bool) → may_stand f1 (by_ref F (member_at c1 i j)) ≡ true → (t1 : Bool) →
            Kind e y pl (member_callee (member_at c1 i j) t1 z y)
        class_kind c1 f plain i j fi fj f1 st t1 = by i j fi fj st
          where
            found : (i j : Option ℕ) → field_by F c1 z ≡ i → method_by F c1 z ≡ j → refs.ref_at F.refs m ≡ member_at c1 i j
            found i j fi fj =
                h.ref ∙ ap (λ o. member_ref F o z) f ∙ ap (λ o. member_at c1 o (method_by F c1 z)) fi ∙ ap (member_at c1 i) fj

            by : (i j : Option ℕ) → field_by F c1 z ≡ i → method_by F c1 z ≡ j → may_stand f1 (by_ref F (member_at c1 i j)) ≡ true →
                Kind e y pl (member_callee (member_at c1 i j) t1 z y)
            by (Some i) j fi fj st = as_value (value_by m q (t.Shape.member object z) (Some (ref.Field c1 i)) (found (Some i) j fi fj) refl
                refl) tt
            by None (Some j) fi fj st =
                let method = (field_names_agree is quiet c1 (method_within c1 z j fj)).method z j fj in
                let o = methods_owned is quiet c1 j method.number method.there in
                let own : Owned = record { class = Some o.class; tree = o.tree } in
                is_method c1 j method own plain (ap sort_of f)
                (method_calls is arrays events w a xs b allows n p stand m q (t.Shape.member object z) c1 j method own quiet
                (found None (Some j) fi fj) o.there)
            by None None fi fj st = absurd (cc)

        fixed : (u : Ty) (f1 : Bool) → ty_at is k ≡ u → member_ref F u z ≡ None →
            types.action_of u z (ty_at is m) ≡ types.value (ty_at is m) → (l : Bool) → bytes_eq z (codes "Length") ≡ l →
            may_stand f1 (cond l (part ty.int) missing) ≡ true → ty_at is m ≡ part_type (cond l (part ty.int) missing) → (x : Callee) →
            Kind e y pl x
        fixed u f1 f g i true fl st own x =
            is_fixed ty.int fixed_int (callee_none u f g (types.value ty.int) (i ∙ ap types.value own)) x
        fixed u f1 f g i false fl st own x = absurd (cc)

        by_type : (u : Ty) → ty_at is k ≡ u → NoEnum (refs.ref_at F.refs k) → (f1 : Bool) → may_stand f1 (type_member F u z) ≡ true →
            ty_at is m ≡ part_type (type_member F u z) → Kind e y pl (member_callee (member_ref F u z) (is_event_type u) z y)
        by_type ty.never f plain f1 st own = by (same_name z await_name) refl (same_name z signal_name) refl
          where
            by : (i : Bool) → same_name z await_name ≡ i → (j : Bool) → same_name z signal_name ≡ j →
                Kind e y pl (cond i (of_object (form.awaiting false)) (cond j (of_object form.signalling) (of_value y)))
            by true fi j fj =
                is_nowhere (form.awaiting false) tt plain (ap sort_of f) (callee_none ty.never f refl (types.value ty.never) (ap types.value
                own))
            by false fi true fj =
                is_nowhere form.signalling tt plain (ap sort_of f) (callee_none ty.never f refl (types.value ty.never) (ap types.value own))
            by false fi false fj =
                as_value (record {
                  callee = callee_none ty.never f refl (types.value (ty_at is m)) refl;
                  effects = does_none ty.never f refl plain c.Other (idles z fi fj);
                }) tt
        by_type (ty.class c1) f plain f1 st own = class_kind c1 f plain (field_by F c1 z) (method_by F c1 z) refl refl f1 st false
        by_type (ty.task u) f plain f1 st own = by (same_name z await_name) refl
          where
            by : (i : Bool) → same_name z await_name ≡ i →
                Kind e y pl (cond i (of_object (form.awaiting false)) (cond (same_name z signal_name) (of_object form.signalling) (of_value
                y)))
            by true fi =
                is_task u plain (ap sort_of f)
                (callee_none (ty.task u) f refl (types.await u)
                (ap (λ o. cond o (types.await u) (types.value (ty_at is m))) (as_codes z await_name true fi)))
                (does_none (ty.task u) f refl plain c.Await (awaits z fi))
            by false fi = absurd (no_missing f1 (bytes_eq z (codes "Await")) (as_codes z await_name false fi) st)
        by_type (ty.event u) f plain f1 st own = by (same_name z await_name) refl (same_name z signal_name) refl
          where
            acts : (i j : Bool) → bytes_eq z (codes "Await") ≡ i → bytes_eq z (codes "Signal") ≡ j →
                types.action_of (ty.event u) z (ty_at is m) ≡ cond i (types.await u) (cond j (types.signal u) (types.value (ty_at is m)))
            acts i j fi fj =
                ap (λ o. cond o (types.await u) (cond (bytes_eq z (codes "Signal")) (types.signal u) (types.value (ty_at is m)))) fi
                ∙ ap (λ o. cond i (types.await u) (cond o (types.signal u) (types.value (ty_at is m)))) fj

            by : (i : Bool) → same_name z await_name ≡ i → (j : Bool) → same_name z signal_name ≡ j →
                Kind e y pl (cond i (of_object (form.awaiting true)) (cond j (of_object form.signalling) (of_value y)))
            by true fi j fj =
                is_event u plain (ap sort_of f)
                (callee_none (ty.event u) f refl (types.await u)
                (acts true j (as_codes z await_name true fi) (as_codes z signal_name j fj)))
                (does_none (ty.event u) f refl plain c.Await (awaits z fi))
            by false fi true fj =
                is_signal u plain (ap sort_of f)
                (callee_none (ty.event u) f refl (types.signal u)
                (acts false true (as_codes z await_name false fi) (as_codes z signal_name true fj)))
                (does_none (ty.event u) f refl plain c.Signal (signals z fi fj))
            by false fi false fj =
                let neither : (bytes_eq z (codes "Await") || bytes_eq z (codes "Signal")) ≡ false =
                ap (λ o. o || bytes_eq z (codes "Signal")) (as_codes z await_name false fi) ∙ as_codes z signal_name false fj in
                absurd (no_missing f1 (bytes_eq z (codes "Await") || bytes_eq z (codes "Signal")) neither st)
        by_type (ty.array u) f plain f1 st own = fixed (ty.array u) f1 f refl refl (bytes_eq z (codes "Length")) refl st own _
        by_type (ty.mapping l u) f plain f1 st own = fixed (ty.mapping l u) f1 f refl refl (bytes_eq z (codes "Length")) refl st own _
        by_type u f plain f1 st own = absurd (cc)

        -- the value of an enum
        enum_kind : (i : ℕ) → At is w (used_as around.object d) xs k r v → refs.ref_at F.refs k ≡ Some (ref.Enum i) → (x : Callee) →
            Kind e y pl x
        enum_kind i o f x = by (is_value F i z) refl stands own
          where
            stands : may_stand (is_called d.used) (cond (is_value F i z) (part (ty.enum i)) missing) ≡ true
            stands =
                ap (λ j. may_stand (is_called d.used) (member_of F j (ty_at is k) z)) (sym f)
                ∙ not-false _ (base.types is w d xs m q (t.Shape.member object z) h).member

            own : ty_at is m ≡ part_type (cond (is_value F i z) (part (ty.enum i)) missing)
            own = its_row is w d xs m q (t.Shape.member object z) h ∙ ap (λ j. part_type (member_of F j (ty_at is k) z)) f

            value : (u : Ty) → OfEnum u → ty_at is k ≡ u → types.callee_of F e ≡ types.value (ty_at is m)
            value u (of_enum {e = j}) g = callee_none (ty.enum j) g refl (types.value (ty_at is m)) refl
            value u of_never g = callee_none ty.never g refl (types.value (ty_at is m)) refl

            by : (j : Bool) → is_value F i z ≡ j → may_stand (is_called d.used) (cond j (part (ty.enum i)) missing) ≡ true →
                ty_at is m ≡ part_type (cond j (part (ty.enum i)) missing) → Kind e y pl x
            by true g st row =
                is_fixed (ty.enum i) fixed_enum
                (value (ty_at is k) (enum_type w xs (used_as around.object d) k r v i o f) refl ∙ ap types.value row) x
            by false g st row = absurd (cc)

        member_kind : At is w (used_as around.object d) xs k r v → Kind e y pl (callee_of whole e y pl)
        member_kind o = by (refs.ref_at F.refs k) refl
          where
            typed : NoEnum (refs.ref_at F.refs k) → Kind e y pl (callee_of whole e y pl)
            typed plain =
                let only = type_only is arrays events fields_agree_all field_names_agree quiet (refs.ref_at F.refs k) (ty_at is k) z
                plain in
                let stands : may_stand (is_called d.used) (type_member F (ty_at is k) z) ≡ true =
                ap (may_stand (is_called d.used)) (sym only)
                ∙ not-false _ (base.types is w d xs m q (t.Shape.member object z) h).member in
                let own : ty_at is m ≡ part_type (type_member F (ty_at is k) z) =
                its_row is w d xs m q (t.Shape.member object z) h ∙ ap part_type only in
                let known_ref : ref_at whole m ≡ member_ref F (ty_at is k) z = same_known (slice_get F.refs m) ∙ h.ref in
                subst (λ x. Kind e y pl (member_callee x (events k) z y)) (sym known_ref)
                (subst (λ x. Kind e y pl (member_callee (member_ref F (ty_at is k) z) x z y)) (sym (told k))
                (by_type (ty_at is k) refl plain (is_called d.used) stands own))

            by : (j : Option Ref) → refs.ref_at F.refs k ≡ j → Kind e y pl (callee_of whole e y pl)
            by (Some (ref.Enum i)) f = enum_kind i o f (callee_of whole e y pl)
            by None f = typed (subst NoEnum (sym f) tt)
            by (Some j) f = typed (subst NoEnum (sym f) tt)

      pub kind_of : ((m : ℕ) → events m ≡ is_event_type (ty_at is m)) → (i : ℕ) (d : Around) (e : Tree) → OnPart (Found is) w i d xs e →
          Kind e y pl (callee_of whole e y pl)
      kind_of told i d (tree m q (t.Shape.name z)) h = named_kind d m q z h.2
      kind_of told i d (tree m q (t.Shape.member (tree k r v) z)) h = member_kind told d m q k r v z h.2 h.1.2
      kind_of told i d (tree m q x) h = as_value (other_value w xs d m q x h.2 tt) tt
