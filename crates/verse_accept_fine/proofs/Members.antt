-- Members that are values: what their forms need.
use Rattle.std.proofs.Common.{◌≡◌, ℕ, zero, suc, ◌+◌, ◌<◌, Bool, true, false, cond, ◌||◌, bytes_eq, List, [], ◌∷◌, length}
use Rattle.std.proofs.Common.{Option, refl, sym, subst, ap, ◌∙◌, arith}
use Rattle.std.specs.Prelude.{Some, None, slice_get, codes}
use Rattle.std.proofs.lemmas.Bool.{not-false}
use Rattle.verse_base.specs.declared.places.Place.{Place}
use Rattle.verse_tree.specs.Tree.{Bytes, Tree, tree, Shape}
use Rattle.verse_tree.specs.Tree as t
use Rattle.verse_tree.specs.ItemTree.{ItemTree}
use Rattle.verse_tree.specs.declared.tables.Ref.{Ref}
use Rattle.verse_tree.specs.declared.tables.Ref.TheVariants as ref
use Rattle.verse_rules_types.specs.Types.{Ty, Class}
use Rattle.verse_rules_types.specs.Types as ty
use Rattle.verse_rules_walk.specs.Around.{Around}
use Rattle.verse_rules_walk.specs.Nodes.{number_of_tree}
use Rattle.verse_names_tables.specs.Names.{Table}
use Rattle.verse_names_declarations.specs.Known.{Known, known}
use Rattle.verse_names_declarations.specs.Lines.{Members}
use Rattle.verse_names_scopes.specs.Visible.{World}
use Rattle.verse_check_typing.specs.Refs as refs
use Rattle.verse_check_typing.specs.Facts.{Facts, type_of, members_from, class_members}
use Rattle.verse_check_typing.specs.Members.{part, action, missing, part_type, may_stand, by_ref, member_at}
use Rattle.verse_check_typing.specs.Members.{field_by, method_by}
use Rattle.verse_check_typing.specs.Members.{field_named, field_type, type_member, member_of}
use Rattle.verse_check_typing.specs.Members.{member_ref}
use Rattle.verse_check_typing.specs.TypeRules.{is_called}
use Rattle.verse_meaning.specs.Programs as programs
use Rattle.verse_meaning.specs.Programs.{same_name}
use Rattle.verse_meaning.specs.Residuals as form
use Rattle.verse_meaning.specs.Evaluating.{member_form, length_name}
use Rattle.verse_meaning.proofs.Names.{same_bytes}
use Rattle.verse_sorts.specs.Sorts as s
use Rattle.verse_sorts.specs.Sorts.{Sort}
use Rattle.verse_sorts.proofs.Fitting.{fits_itself, all_itself}
use Rattle.verse_sorts_types.specs.SortOf.{sort_of}
use Rattle.verse_sorts_values.specs.Operands.{never_here}
use Rattle.verse_sound_rules.specs.Found.{Allowed}
use Rattle.verse_sound_rules.specs.Forms.{Gives}
use Rattle.verse_sound_rules.specs.Forms as takes
use Rattle.verse_accept_rows.specs.Found.{final}
use Rattle.verse_accept_classes.specs.Laws.{Quiet, FieldsAgree, FieldNamesAgree}
use Rattle.verse_accept_fine.specs.Needs.{NoEnum}
use Rattle.verse_accept_fine.specs.Sorted.{At, ty_at, up, sorted, program, Allows}
use Rattle.verse_accept_fine.proofs.Base.{types, its_row, is_row, same_known}
use Rattle.verse_accept_fine.proofs.Names.{slot_of}

pub within_from : (k : Known) (c n : ℕ) (os : List Class) (m : Members) → slice_get (members_from k c os) n ≡ Some m → n < length os
within_from k c n [] m e = absurd (cc)
within_from k c zero (o ∷ os) m e = omega arith
within_from k c (suc n) (o ∷ os) m e = omega (arith, within_from k (c + 1) n os m e)

module _ (is : List ItemTree) (arrays events : ℕ → Bool) (agree : FieldsAgree) (named : FieldNamesAgree) (quiet : Quiet is) where
  abbrev F : Facts
  F = final is

  -- a class with a field is there
  pub field_within : (c : ℕ) (x : Bytes) (i : ℕ) → field_by F c x ≡ Some i → c < length (known is).outline
  field_within c x i e = by (slice_get (class_members (known is)) c) refl
    where
      by : (o : Option Members) → slice_get (class_members (known is)) c ≡ o → c < length (known is).outline
      by None q = let no : None ≡ Some i = sym (ap (λ o. field_named o x) q) ∙ e in absurd (cc)
      by (Some m) q = within_from (known is) 0 c (known is).outline m q

  -- a member that is not the name of an enum's value
  pub type_only : (o : Option Ref) (u : Ty) (x : Bytes) → NoEnum o → member_of F o u x ≡ type_member F u x
  type_only None u x h = refl
  type_only (Some (ref.Enum e)) u x h = absurd h
  type_only (Some r) u x h = refl

  module _ (w : World) (a : Around) (xs : Table) (b : Allowed) (allows : Allows is w a b) (n : ℕ) (p : Place) where
    abbrev Give : form.Form → List Sort → Type 0
    Give x qs = Gives (program is arrays events) (sorted is) b xs x qs (sort_of (ty_at is n))

    length_form : (x : Bytes) (q : Sort) → bytes_eq x (codes "Length") ≡ true →
        takes.Takes (program is arrays events) (sorted is) b xs form.measuring (q ∷ []) s.int →
        ty_at is n ≡ ty.int → Give (member_form None x) (q ∷ [])
    length_form x q e k r =
        let same : same_name x length_name ≡ true = sym (same_bytes x length_name) ∙ e in
        subst (λ z. Give (cond z form.measuring form.defining) (q ∷ [])) (sym same)
        (record {
          no_case = tt;
          taken = q ∷ [];
          given = s.int;
          operands = all_itself (up is)
              (q ∷ []);
          takes = k;
          value = is_row is n ty.int r;
        })

    class_by : (c : ℕ) (x : Bytes) (i m : Option ℕ) → field_by F c x ≡ i → may_stand false (by_ref F (member_at c i m)) ≡ true →
        ty_at is n ≡ part_type (by_ref F (member_at c i m)) → Give (member_form (member_at c i m) x) (s.obj c ∷ [])
    class_by c x (Some i) m e h r =
        let f = (named is quiet c (field_within c x i e)).place x i e in
        record {
          no_case = tt;
          taken = s.obj c ∷ [];
          given = sort_of (field_type F c i);
          operands = all_itself (up is) (s.obj c ∷ []);
          takes = takes.takes_object (slot_of is arrays events agree quiet c i (record { tree = f.0; there = f.1 }));
          value = is_row is n (field_type F c i) r;
        }
    class_by c x None (Some m) e h r = absurd (cc)
    class_by c x None None e h r = absurd (cc)

    no_action : (q : Bool) → may_stand false (cond q action missing) ≡ true → ⊥
    no_action true h = cc
    no_action false h = cc

    pub by_type : (u : Ty) (x : Bytes) → may_stand false (type_member F u x) ≡ true → ty_at is n ≡ part_type (type_member F u x) →
        Give (member_form (member_ref F u x) x) (sort_of u ∷ [])
    by_type ty.never x h r = by (same_name x length_name)
      where
        gives : (f : form.Form) → takes.NoCase f → takes.Spared (program is arrays events) (sorted is) b xs f (s.never ∷ []) →
            Give f (s.never ∷ [])
        gives f k h = record {
          no_case = k;
          taken = s.never ∷ [];
          given = sort_of (ty_at is n);
          operands = all_itself (up is) (s.never ∷ []);
          takes = takes.takes_never h;
          value = fits_itself (up is) (sort_of (ty_at is n));
        }

        by : (q : Bool) → Give (cond q form.measuring form.defining) (s.never ∷ [])
        by true = gives form.measuring tt (takes.spared_length never_here)
        by false = gives form.defining tt (takes.spared_member never_here)
    by_type (ty.class c) x h r = class_by c x (field_by F c x) (method_by F c x) refl h r
    by_type (ty.array u) x h r = step (bytes_eq x (codes "Length")) refl h r
      where
        step : (q : Bool) → bytes_eq x (codes "Length") ≡ q → may_stand false (cond q (part ty.int) missing) ≡ true →
            ty_at is n ≡ part_type (cond q (part ty.int) missing) → Give (member_form None x) (s.list (sort_of u) ∷ [])
        step true e h r = length_form x (s.list (sort_of u)) e takes.takes_list_length r
        step false e h r = absurd (cc)
    by_type (ty.mapping k u) x h r = step (bytes_eq x (codes "Length")) refl h r
      where
        step : (q : Bool) → bytes_eq x (codes "Length") ≡ q → may_stand false (cond q (part ty.int) missing) ≡ true →
            ty_at is n ≡ part_type (cond q (part ty.int) missing) → Give (member_form None x) (s.map (sort_of k) (sort_of u) ∷ [])
        step true e h r = length_form x (s.map (sort_of k) (sort_of u)) e takes.takes_map_length r
        step false e h r = absurd (cc)
    by_type (ty.task u) x h r = absurd (no_action (bytes_eq x (codes "Await")) h)
    by_type (ty.event u) x h r = absurd (no_action (bytes_eq x (codes "Await") || bytes_eq x (codes "Signal")) h)
    by_type u x h r = absurd (cc)

    -- a member that is not called, of what is no enum
    pub member_gives : (e : Tree) (x : Bytes) → At is w a xs n p (t.Shape.member e x) → is_called a.used ≡ false →
        NoEnum (refs.ref_at F.refs (number_of_tree e)) →
        Give (member_form (programs.ref_at (program is arrays events) n) x) (sort_of (type_of F e) ∷ [])
    member_gives e x h free plain =
        let u = type_of F e in
        let only = type_only (refs.ref_at F.refs (number_of_tree e)) u x plain in
        let stands : may_stand false (type_member F u x) ≡ true =
        ap (λ q. may_stand q (type_member F u x)) (sym free) ∙ ap (may_stand (is_called a.used)) (sym only)
        ∙ not-false _ (types is w a xs n p (t.Shape.member e x) h).member in
        let own : ty_at is n ≡ part_type (type_member F u x) = its_row is w a xs n p (t.Shape.member e x) h ∙ ap part_type only in
        let known_ref : programs.ref_at (program is arrays events) n ≡ member_ref F u x = same_known (slice_get F.refs n) ∙ h.ref in
        subst (λ o. Give (member_form o x) (sort_of u ∷ [])) (sym known_ref) (by_type u x stands own)
