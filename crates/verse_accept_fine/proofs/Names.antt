-- Names, definitions and generators: what their forms need.
use Rattle.std.proofs.Common.{◌≡◌, ℕ, zero, suc, ◌-◌, Bool, true, false, List, [], ◌∷◌, ◌++◌, map}
use Rattle.std.proofs.Common.{Option, refl, sym, subst, ap, ◌∙◌}
use Rattle.std.specs.Prelude.{Some, None, slice_get, is_some, is_none}
use Rattle.verse_base.specs.declared.places.Place.{Place}
use Rattle.verse_base.proofs.Facts.{get_mapped, none_is, and_first, and_second}
use Rattle.verse_tree.specs.Tree.{Bytes, Written, Tree, tree, Shape}
use Rattle.verse_tree.specs.Tree as t
use Rattle.verse_tree.specs.ItemTree.{ItemTree}
use Rattle.verse_tree.specs.declared.tables.Ref.{Ref}
use Rattle.verse_tree.specs.declared.tables.Ref.TheVariants as ref
use Rattle.verse_rules_types.specs.Types.{Ty, Class}
use Rattle.verse_rules_types.specs.Types as ty
use Rattle.verse_rules_types.specs.Fitting.{fits}
use Rattle.verse_rules_walk.specs.Around.{Around, value}
use Rattle.verse_rules_walk.specs.Nodes.{number_of_tree}
use Rattle.verse_names_tables.specs.Names.{Table, look}
use Rattle.verse_names_scopes.specs.Visible.{World, either, visible, visible_throughout, with_name, with_local}
use Rattle.verse_names_scopes.specs.Subjects.{subject, this_ref, rules_at}
use Rattle.verse_check_typing.specs.Refs as refs
use Rattle.verse_check_typing.specs.Facts.{Facts, type_of}
use Rattle.verse_check_typing.specs.Parts.{are_ints, is_int}
use Rattle.verse_check_typing.specs.Members.{field_type, fields_of, type_in}
use Rattle.verse_check_typing.specs.Loops.{is_domain, index_of}
use Rattle.verse_check_typing.specs.Calls.{content_of}
use Rattle.verse_check_typing.specs.Rows.{name_type, class_type, spelled}
use Rattle.verse_check_typing.specs.TypeRules.{has_value}
use Rattle.verse_rules.specs.Naming.{named}
use Rattle.verse_meaning.specs.Programs as programs
use Rattle.verse_meaning.specs.Programs.{same_name}
use Rattle.verse_meaning.specs.Residuals.{a_constant, a_variable, of_elements, of_entries, of_range}
use Rattle.verse_meaning.specs.Forms.{this_name}
use Rattle.verse_sorts.specs.Sorts as s
use Rattle.verse_sorts.specs.Sorts.{Sort, Fits}
use Rattle.verse_sorts.specs.Typing.{at}
use Rattle.verse_sorts.proofs.Fitting.{fits_itself}
use Rattle.verse_sorts_types.specs.SortOf.{sort_of}
use Rattle.verse_sorts_types.proofs.Fitting as fitting
use Rattle.verse_sound_rules.specs.Found.{Allowed, New}
use Rattle.verse_sound_rules.specs.Forms.{NameIs}
use Rattle.verse_sound_rules.specs.Forms as takes
use Rattle.verse_sound_rules.specs.Fine.{Defines, Generates, TakesFrom}
use Rattle.verse_sound_rules.specs.Fine as fine
use Rattle.verse_accept_rows.specs.Found.{final}
use Rattle.verse_accept_rows.proofs.Quiet.{no_rule}
use Rattle.verse_accept_classes.specs.Referring.{IsField, IsThere, Names}
use Rattle.verse_accept_classes.specs.Referring as items
use Rattle.verse_accept_classes.specs.Laws.{FieldsAgree, info_of}
use Rattle.verse_accept_fine.specs.Sorted.{At, ty_at, all_classes, up, field_sort, sorted, program, Allows}
use Rattle.verse_accept_fine.proofs.Rules.{or_left, or_right}
use Rattle.verse_accept_fine.proofs.Base.{its_row, of_row, is_row, same_known}

-- ---- names that are new

pub some_is : {A : Type 0} (o : Option A) → is_none o ≡ false → (x : A) × (o ≡ Some x)
some_is None h = cc
some_is (Some x) h = (x, refl)

-- a name that is not visible is not among the local names
pub not_local : (w : World) (xs : Table) (x : Bytes) → visible w xs x ≡ None → look x xs ≡ None
not_local w xs x h = by (look x xs) h
  where
    by : (o : Option Ref) → either o (visible_throughout w x) ≡ None → o ≡ None
    by None h = refl
    by (Some r) h = h

-- and its definition is behind the others
pub added : (w : World) (xs : Table) (x : Bytes) (r : Ref) → visible w xs x ≡ None → with_local w x r xs ≡ xs ++ (x, r) ∷ []
added w xs x r h = ap (λ o. with_name x r o xs) h

pub get_map : {A B : Type 0} (f : A → B) (xs : List A) (i : ℕ) (x : A) → slice_get xs i ≡ Some x → at (map f xs) i ≡ Some (f x)
get_map f [] i x e = cc
get_map f (y ∷ xs) zero x e = let same : y ≡ x = cc in ap (λ z. Some (f z)) same
get_map f (y ∷ xs) (suc i) x e = get_map f xs i x e

module _ (is : List ItemTree) (arrays events : ℕ → Bool) where
  abbrev F : Facts
  F = final is

  -- a field has a slot of its type
  pub slot_of : FieldsAgree → ((n c : ℕ) → Rattle.verse_names_items.specs.Nodes.ItemsBreak is n c → ⊥) → (c i : ℕ) → IsField is c i →
      at ((sorted is).slots c) i ≡ Some (sort_of (field_type F c i))
  slot_of agree quiet c i h =
      let there : slice_get (fields_of F c) i ≡ Some (info_of is h.tree) =
      ap (λ l. slice_get l i) (agree is quiet c) ∙ get_mapped (info_of is) (items.fields_of is c) i h.tree h.there in
      get_map field_sort (fields_of F c) i (info_of is h.tree) there
      ∙ ap (λ o. Some (sort_of (type_in o))) (sym there)

  module _ (w : World) (a : Around) (xs : Table) (b : Allowed) (allows : Allows is w a b) (names : Names is w) (n : ℕ) (p : Place) where
    -- ---- names

    ref_is : (x : Bytes) → At is w a xs n p (t.Shape.name x) → refs.ref_at (named is).refs n ≡ visible w xs x
    ref_is x h = h.named

    known_ref : (x : Bytes) → At is w a xs n p (t.Shape.name x) → programs.ref_at (program is arrays events) n ≡ visible w xs x
    known_ref x h =
        same_known (slice_get (final is).refs n) ∙ h.ref ∙ ref_is x h

    -- a name of what has a value
    pub record Named (x : Bytes) : Type 0 where
      pub sort : Sort
      pub named : NameIs (program is arrays events) (sorted is) b xs x (programs.ref_at (program is arrays events) n) sort
      pub fits : Fits (up is) sort (sort_of (ty_at is n))

    named_by : (agree : FieldsAgree) (quiet : (n c : ℕ) → Rattle.verse_names_items.specs.Nodes.ItemsBreak is n c →
        ⊥) (x : Bytes) (o : Option Ref) →
        programs.ref_at (program is arrays events) n ≡ o → visible w xs x ≡ o → has_value o ≡ true → is_some o ≡ true →
        ty_at is n ≡ name_type F o →
        ((r : Ref) → o ≡ Some r → IsThere is w.class r) → Named x
    named_by agree quiet x None e v h k r there = absurd (cc)
    named_by agree quiet x (Some (ref.Local m)) e v h k r there = record {
      sort = sort_of (ty_at is m);
      named = subst (λ o. NameIs (program is arrays events) (sorted is) b xs x o (sort_of (ty_at is m))) (sym e) (takes.is_local
          (names.locals xs x m v));
      fits = is_row is n _ r;
    }
    named_by agree quiet x (Some (ref.Key m)) e v h k r there = record {
      sort = sort_of (index_of (ty_at is (m - 1)));
      named = subst (λ o. NameIs (program is arrays events) (sorted is) b xs x o (sort_of (index_of (ty_at is (m - 1))))) (sym e)
          (takes.is_key_name (names.keys xs x m v));
      fits = is_row is n _ r;
    }
    named_by agree quiet x (Some (ref.Field c i)) e v h k r there =
        let f = there (ref.Field c i) refl in
        record {
          sort = sort_of (field_type F c i);
          named = subst (λ o. NameIs (program is arrays events) (sorted is) b xs x o (sort_of (field_type F c i))) (sym e)
              (takes.is_field c (allows.this ∙ f.0) (slot_of agree quiet c i f.1));
          fits = is_row is n _ r;
        }
    named_by agree quiet x (Some o) e v h k r there = absurd (cc)

    pub name_is : FieldsAgree → ((n c : ℕ) → Rattle.verse_names_items.specs.Nodes.ItemsBreak is n c → ⊥) → (x : Bytes) →
        (h : At is w a xs n p (t.Shape.name x)) → has_value (visible w xs x) ≡ true → Named x
    name_is agree quiet x h is_value =
        let unknown : is_none (visible w xs x) ≡ false = no_rule (rules_at w xs (subject n (t.Shape.name x))) h.names 1 _ refl in
        let found = some_is (visible w xs x) unknown in
        named_by agree quiet x (visible w xs x) (known_ref x h) refl is_value (ap is_some found.1)
        (its_row is w a xs n p (t.Shape.name x) h ∙ ap (name_type F) (ref_is x h))
        (λ r e. names.names n xs h.stands.locals x r e)

    -- ---- `Self`

    pub this_fits : At is w a xs n p t.Shape.this → (c : ℕ) × (b.this ≡ Some c) × Fits (up is) (s.obj c) (sort_of (ty_at is n))
    this_fits h =
        let unknown : is_none w.class ≡ false = no_rule (rules_at w xs (subject n t.Shape.this)) h.names 1 _ refl in
        let found = some_is w.class unknown in
        let own : refs.ref_at (named is).refs n ≡ Some (ref.Class found.0) = h.named ∙ ap this_ref found.1 in (
          found.0,
          allows.this ∙ found.1,
          of_row is n (s.obj found.0) (ty.class found.0) (its_row is w a xs n p t.Shape.this h
              ∙ ap class_type own) (fits_itself (up is) (s.obj found.0)),
        )

    -- ---- definitions

    new_by : (x : Bytes) → is_some (visible w xs x) ≡ false → same_name this_name x ≡ false → New x xs
    new_by x h e = (not_local w xs x (none_is (visible w xs x) h), e)

    pub constant_defines : (x : Bytes) (e : Tree) → At is w a xs n p (t.Shape.definition x e) → same_name this_name x ≡ false →
        Defines (program is arrays events) (sorted is) (a_constant x) n xs
    constant_defines x e h k = (new_by x (no_rule (rules_at w xs (subject n (t.Shape.definition x e))) h.names 0 _ refl) k, h.var)

    pub typed_defines : (x : Bytes) (v : Written) (e : Tree) → At is w a xs n p (t.Shape.typed x v e) → same_name this_name x ≡ false →
        Defines (program is arrays events) (sorted is) (a_constant x) n xs
    typed_defines x v e h k = (new_by x (no_rule (rules_at w xs (subject n (t.Shape.typed x v e))) h.names 0 _ refl) k, h.var)

    pub variable_defines : (x : Bytes) (v : Written) (e : Tree) → At is w a xs n p (t.Shape.variable x v e) →
        same_name this_name x ≡ false →
        Defines (program is arrays events) (sorted is) (a_variable x p) n xs
    variable_defines x v e h k = (new_by x (no_rule (rules_at w xs (subject n (t.Shape.variable x v e))) h.names 0 _ refl) k, h.var)

    -- what is defined with a type fits it
    pub typed_fits : (x : Bytes) (v : Written) (e : Tree) → At is w a xs n p (t.Shape.typed x v e) →
        fits (all_classes is) (type_of F e) (spelled F v) ≡ true →
        Fits (up is) (sort_of (type_of F e)) (sort_of (ty_at is n))
    typed_fits x v e h f =
        of_row is n _ (spelled F v) (its_row is w a xs n p (t.Shape.typed x v e) h) (fitting.fits_sort (all_classes is) (type_of F e)
        (spelled F v) f)

    pub variable_fits : (x : Bytes) (v : Written) (e : Tree) → At is w a xs n p (t.Shape.variable x v e) →
        fits (all_classes is) (type_of F e) (spelled F v) ≡ true →
        Fits (up is) (sort_of (type_of F e)) (sort_of (ty_at is n))
    variable_fits x v e h f =
        of_row is n _ (spelled F v) (its_row is w a xs n p (t.Shape.variable x v e) h) (fitting.fits_sort (all_classes is) (type_of F e)
        (spelled F v) f)

    -- ---- generators

    taken_from : (u : Ty) → is_domain u ≡ true → ty_at is n ≡ content_of u →
        TakesFrom (program is arrays events) (sorted is) (sort_of u) (sort_of (ty_at is n))
    taken_from (ty.array u) h r = record {
      whole = s.list (sort_of u);
      each = sort_of u;
      index = s.int;
      fits = fits_itself (up is) _;
      is = fine.domain_list;
      value = is_row is n u r;
    }
    taken_from (ty.mapping k u) h r = record {
      whole = s.map (sort_of k) (sort_of u);
      each = sort_of u;
      index = sort_of k;
      fits = fits_itself (up is) _;
      is = fine.domain_map;
      value = is_row is n u r;
    }
    taken_from ty.never h r = record {
      whole = s.never;
      each = sort_of (ty_at is n);
      index = s.never;
      fits = s.from_never;
      is = fine.domain_never;
      value = fits_itself (up is) _;
    }
    taken_from u h r = absurd (cc)

    pub elements_generate : (x : Bytes) (e : Tree) → At is w a xs n p (t.Shape.elements x e) → same_name this_name x ≡ false →
        is_domain (type_of F e) ≡ true →
        Generates (program is arrays events) (sorted is) n xs (sort_of (type_of F e)) (of_elements x)
    elements_generate x e h k d =
        fine.takes_elements (new_by x (no_rule (rules_at w xs (subject n (t.Shape.elements x e))) h.names 0 _ refl) k) h.var
        (taken_from (type_of F e) d (its_row is w a xs n p (t.Shape.elements x e) h))

    entries_by : (k x : Bytes) (u : Ty) → New k xs → New x (xs ++ (k, ref.Key n) ∷ []) → (sorted is).is_var n ≡ false → is_domain u ≡ true →
        ty_at is n ≡ content_of u → (sorted is).key n ≡ sort_of (index_of u) →
        Generates (program is arrays events) (sorted is) n xs (sort_of u) (of_entries k x)
    unfolding taken_from
    entries_by k x (ty.array u) nk nx v h r e =
        fine.takes_entries nk nx v (taken_from (ty.array u) h r) (subst (Fits (up is) s.int) (sym e) s.fits_int)
    entries_by k x (ty.mapping l u) nk nx v h r e =
        fine.takes_entries nk nx v (taken_from (ty.mapping l u) h r) (subst (Fits (up is) (sort_of l)) (sym e) (fits_itself (up is)
        (sort_of l)))
    entries_by k x ty.never nk nx v h r e = fine.takes_entries nk nx v (taken_from ty.never h r) s.from_never
    entries_by k x u nk nx v h r e = absurd (cc)

    -- where the domain is the node before
    pub entries_generate : (k x : Bytes) (e : Tree) → At is w a xs n p (t.Shape.entries k x e) → same_name this_name k ≡ false →
        same_name this_name x ≡ false → is_domain (type_of F e) ≡ true → number_of_tree e ≡ n - 1 →
        Generates (program is arrays events) (sorted is) n xs (sort_of (type_of F e)) (of_entries k x)
    entries_generate k x e h ck cx d before =
        let rules = no_rule (rules_at w xs (subject n (t.Shape.entries k x e))) h.names 0 _ refl in
        let first : is_some (visible w xs k) ≡ false = or_left (is_some (visible w xs k)) _ rules in
        let own = none_is (visible w xs k) first in
        let second : is_some (visible w (with_local w k (ref.Key n) xs) x) ≡ false = or_right (is_some (visible w xs k)) _ rules in
        let behind : look x (xs ++ (k, ref.Key n) ∷ []) ≡ None =
        ap (look x) (sym (added w xs k (ref.Key n) own))
        ∙ not_local w (with_local w k (ref.Key n) xs) x (none_is (visible w (with_local w k (ref.Key n) xs) x) second) in
        entries_by k x (type_of F e) (new_by k first ck) (behind, cx) h.var d (its_row is w a xs n p (t.Shape.entries k x e) h)
        (ap (λ m. sort_of (index_of (ty_at is m))) (sym before))

    pub range_generates : (x : Bytes) (e f : Tree) → At is w a xs n p (t.Shape.range x e f) → same_name this_name x ≡ false →
        are_ints (type_of F e) (type_of F f) ≡ true →
        Generates (program is arrays events) (sorted is) n xs (s.tuple (s.more_sorts (sort_of (type_of F e)) (s.more_sorts (sort_of
        (type_of F f)) s.no_sorts))) (of_range x)
    range_generates x e f h k d =
        fine.takes_range (new_by x (no_rule (rules_at w xs (subject n (t.Shape.range x e f))) h.names 0 _ refl) k) h.var
        (s.fits_tuple (s.fit_more (ints (type_of F e) (and_first (is_int (type_of F e)) _ d))
        (s.fit_more (ints (type_of F f) (and_second (is_int (type_of F e)) _ d)) s.fit_none)))
        (of_row is n s.int ty.int (its_row is w a xs n p (t.Shape.range x e f) h) s.fits_int)
      where
        ints : (u : Ty) → is_int u ≡ true → Fits (up is) (sort_of u) s.int
        ints ty.int h = s.fits_int
        ints ty.never h = s.from_never
        ints u h = absurd (cc)
