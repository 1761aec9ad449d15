-- Instances: each field is given, or has a default.
use Rattle.std.proofs.Common.{◌≡◌, ℕ, suc, ◌+◌, Bool, true, false, cond, ◌||◌, nat_eq, List, [], ◌∷◌, ◌++◌, map, length, ◌<◌}
use Rattle.std.proofs.Common.{Option, refl, sym, subst, ap, ◌∙◌, arith, inl, inr}
use Rattle.std.proofs.lemmas.Bool.Decides.{nat_tests}
use Rattle.std.proofs.lemmas.List.{length-map}
use Rattle.std.proofs.lemmas.Option.{slice_get_within}
use Rattle.std.proofs.lemmas.Slice.Eq.{bytes_eq-Decides}
use Rattle.std.specs.Prelude.{Some, None, slice_get, ◌⊎◌, option_map}
use Rattle.std.proofs.lemmas.Bool.{not-false, or_cases}
use Rattle.verse_base.specs.declared.places.Place.{Place}
use Rattle.verse_base.proofs.Facts.{and_first, and_second, get_mapped}
use Rattle.verse_tree.specs.Tree.{Bytes, Tree, tree, Givens, no_givens, more_givens}
use Rattle.verse_tree.specs.Tree as t
use Rattle.verse_tree.specs.ItemTree.{FieldTree, ItemTree}
use Rattle.verse_tree.specs.declared.tables.Ref.{Ref}
use Rattle.verse_tree.specs.declared.tables.Ref.TheVariants as ref
use Rattle.verse_rules_types.specs.Types as ty
use Rattle.verse_rules_types.specs.Fitting.{fits}
use Rattle.verse_rules_walk.specs.Around.{Around}
use Rattle.verse_names_tables.specs.Names.{Table}
use Rattle.verse_names_tables.specs.Notes.{Note}
use Rattle.verse_names_tables.specs.Indexing.{outlined}
use Rattle.verse_names_declarations.specs.Known.{known}
use Rattle.verse_names_items.specs.Tables.{tree_number}
use Rattle.verse_names_scopes.specs.Visible.{World, visible}
use Rattle.verse_check_typing.specs.Refs as refs
use Rattle.verse_check_typing.specs.Sets.{has_number, with_number}
use Rattle.verse_check_typing.specs.Facts.{Facts, type_of}
use Rattle.verse_check_typing.specs.Members.{fields_of, field_by, field_type, type_in, fits_field, givens_fit, places_from, with_place}
use Rattle.verse_check_typing.specs.Members.{is_place}
use Rattle.verse_check_typing.specs.Members.{has_default, all_given, has_all}
use Rattle.verse_check_typing.specs.Rows.{class_type}
use Rattle.verse_check_typing.specs.TypeRules.{on_class, is_class}
use Rattle.verse_meaning_state.proofs.Numbers.{nth_is}
use Rattle.verse_meaning.specs.Programs as programs
use Rattle.verse_meaning.specs.Programs.{same_name, given_names}
use Rattle.verse_meaning.specs.Residuals as form
use Rattle.verse_meaning.specs.Evaluating.{class_ref}
use Rattle.verse_meaning.proofs.Names.{same_bytes, name_same}
use Rattle.verse_sorts.specs.Sorts as s
use Rattle.verse_sorts.specs.Sorts.{Sort, Fits}
use Rattle.verse_sorts.specs.Typing.{at}
use Rattle.verse_sorts.proofs.Fitting.{all_itself}
use Rattle.verse_sorts_types.specs.SortOf.{sort_of}
use Rattle.verse_sorts_types.proofs.Fitting as fitting
use Rattle.verse_sound_rules.specs.Found.{Allowed}
use Rattle.verse_sound_rules.specs.Forms.{given_sort, is_default, Filled, filled_no, filled_given, filled_by_default, Gives}
use Rattle.verse_sound_rules.specs.Forms as takes
use Rattle.verse_sound_rules.specs.Fine.{given_sorts}
use Rattle.verse_accept_rows.specs.Found.{final}
use Rattle.verse_accept_classes.specs.Referring.{IsThere, Names}
use Rattle.verse_accept_classes.specs.Referring as items
use Rattle.verse_accept_classes.specs.Laws.{Quiet, FieldsAgree, FieldNamesAgree, NamesAgree, info_of}
use Rattle.verse_accept_fine.specs.Sorted.{At, ty_at, all_classes, up, field_sort, sorted, program}
use Rattle.verse_accept_fine.proofs.Base.{its_row, is_row, same_known, types}
use Rattle.verse_accept_fine.proofs.Names.{get_map}

same_itself : (x y : Bytes) → x ≡ y → same_name x y ≡ true
same_itself x y h = sym (same_bytes x y) ∙ (bytes_eq-Decides x y).1 h

-- a number that is among those with one more
last_number : (i j : ℕ) (ms : List ℕ) → has_number i (ms ++ j ∷ []) ≡ true → (has_number i ms ≡ true) ⊎ (i ≡ j)
last_number i j [] h = by (nat_eq i j) refl h
  where
    by : (q : Bool) → nat_eq i j ≡ q → cond q true false ≡ true → (has_number i [] ≡ true) ⊎ (i ≡ j)
    by true e h = inr (grind (arith, nat_tests, e))
    by false e h = absurd (cc)
last_number i j (m ∷ ms) h = by (nat_eq i m) h (last_number i j ms)
  where
    by : (q : Bool) → cond q true (has_number i (ms ++ j ∷ [])) ≡ true → (has_number i (ms ++ j ∷ []) ≡ true →
        (has_number i ms ≡ true) ⊎ (i ≡ j)) → (cond q true (has_number i ms) ≡ true) ⊎ (i ≡ j)
    by true h f = inl refl
    by false h f = f h

more_number : (i j : ℕ) (ms : List ℕ) → has_number i (with_number j ms) ≡ true → (has_number i ms ≡ true) ⊎ (i ≡ j)
more_number i j ms h = by (has_number j ms) h
  where
    by : (q : Bool) → has_number i (cond q ms (ms ++ j ∷ [])) ≡ true → (has_number i ms ≡ true) ⊎ (i ≡ j)
    by true h = inl h
    by false h = last_number i j ms h

module _ (is : List ItemTree) (arrays events : ℕ → Bool) where
  abbrev F : Facts
  F = final is

  -- what is given under the name of a field fits it
  given_fits : (c i : ℕ) (x : Bytes) (q : Sort) (gs : Givens) → givens_fit F c gs ≡ true → field_by F c x ≡ Some i →
      given_sort x (given_names gs) (given_sorts (program is arrays events) (sorted is) gs) ≡ Some q →
      Fits (up is) q (sort_of (field_type F c i))
  given_fits c i x q no_givens h e g = absurd (cc)
  given_fits c i x q (more_givens y (tree n p z) gs) h e g =
      by (same_name x y) refl g (given_fits c i x q gs (and_second (fits_field F c (type_of F (tree n p z)) (field_by F c y))
      (givens_fit F c gs) h) e)
    where
      by : (b : Bool) → same_name x y ≡ b →
          cond b (Some (sort_of (ty_at is n))) (given_sort x (given_names gs) (given_sorts (program is arrays events)
          (sorted is) gs)) ≡ Some q →
          (given_sort x (given_names gs) (given_sorts (program is arrays events) (sorted is) gs) ≡ Some q →
          Fits (up is) q (sort_of (field_type F c i))) → Fits (up is) q (sort_of (field_type F c i))
      by true k g f =
          let own : sort_of (ty_at is n) ≡ q = cc in
          let named : field_by F c y ≡ Some i = ap (field_by F c) (sym (name_same x y k)) ∙ e in
          let fit : fits (all_classes is) (type_of F (tree n p z)) (field_type F c i) ≡ true =
          ap (fits_field F c (type_of F (tree n p z))) (sym named) ∙ and_first _ (givens_fit F c gs) h in
          subst (λ r. Fits (up is) r (sort_of (field_type F c i))) own
          (fitting.fits_sort (all_classes is) (type_of F (tree n p z)) (field_type F c i) fit)
      by false k g f = f g

  -- a place that is given is that of one of the names
  abbrev Given : ℕ → ℕ → Givens → Type 0
  Given c i no_givens = ⊥
  Given c i (more_givens y e gs) = (field_by F c y ≡ Some i) ⊎ Given c i gs

  place_given : (c i : ℕ) (ms : List ℕ) (gs : Givens) → has_number i (places_from F c ms gs) ≡ true →
      (has_number i ms ≡ true) ⊎ Given c i gs
  place_given c i ms no_givens h = inl h
  place_given c i ms (more_givens y e gs) h = by (field_by F c y) refl (place_given c i (with_place (field_by F c y) ms) gs h)
    where
      one : (o : Option ℕ) → field_by F c y ≡ o → has_number i (with_place o ms) ≡ true → (has_number i ms ≡ true) ⊎ Given c i
          (more_givens y e gs)
      one None q k = inl k
      one (Some j) q k = two j q (more_number i j ms k)
        where
          two : (j : ℕ) → field_by F c y ≡ Some j → (has_number i ms ≡ true) ⊎ (i ≡ j) → (has_number i ms ≡ true) ⊎ Given c i
              (more_givens y e gs)
          two j q (inl k) = inl k
          two j q (inr k) = inr (inl (q ∙ ap Some (sym k)))

      by : (o : Option ℕ) → field_by F c y ≡ o → (has_number i (with_place (field_by F c y) ms) ≡ true) ⊎ Given c i gs →
          (has_number i ms ≡ true) ⊎ Given c i (more_givens y e gs)
      by o q (inl k) = one o q (ap (λ z. has_number i (with_place z ms)) (sym q) ∙ k)
      by o q (inr k) = inr (inr k)

  -- so its name is given
  name_given : (c i : ℕ) (x : Bytes) (gs : Givens) → ((y : Bytes) → field_by F c y ≡ Some i → y ≡ x) → Given c i gs →
      given_sort x (given_names gs) (given_sorts (program is arrays events) (sorted is) gs) ≡ None → ⊥
  name_given c i x no_givens f g h = g
  name_given c i x (more_givens y (tree n p z) gs) f g h = by (same_name x y) refl g h (name_given c i x gs f)
    where
      by : (b : Bool) → same_name x y ≡ b → (field_by F c y ≡ Some i) ⊎ Given c i gs →
          cond b (Some (sort_of (ty_at is n))) (given_sort x (given_names gs) (given_sorts (program is arrays events)
          (sorted is) gs)) ≡ None →
          (Given c i gs → given_sort x (given_names gs) (given_sorts (program is arrays events) (sorted is) gs) ≡ None → ⊥) → ⊥
      by true k g h r = cc
      by false k (inl e) h r = let no : false ≡ true = sym k ∙ same_itself x y (sym (f y e)) in cc
      by false k (inr g) h r = r g h

  default_is : (o : Option Tree) → is_place (option_map tree_number o) ≡ true → (b : Tree) × (o ≡ Some b)
  default_is None h = absurd (cc)
  default_is (Some b) h = (b, refl)

  module _ (agree : FieldsAgree) (quiet : Quiet is) (c : ℕ) (own : NamesAgree is c) (gs : Givens)
      (fit : givens_fit F c gs ≡ true) where
    abbrev ys : List Bytes
    ys = given_names gs

    abbrev qs : List Sort
    qs = given_sorts (program is arrays events) (sorted is) gs

    abbrev all : List FieldTree
    all = items.fields_of is c

    info_at : (i : ℕ) (d : FieldTree) → slice_get all i ≡ Some d → slice_get (fields_of F c) i ≡ Some (info_of is d)
    info_at i d e = ap (λ l. slice_get l i) (agree is quiet c) ∙ get_mapped (info_of is) all i d e

    same_field : (i : ℕ) (d e : FieldTree) → slice_get all i ≡ Some d → slice_get all i ≡ Some e → d ≡ e
    same_field i d e h g = let both : Some d ≡ Some e = sym h ∙ g in cc

    field_filled : (i : ℕ) (d : FieldTree) (ds : List FieldTree) (rs : List Sort) → slice_get all i ≡ Some d →
        ((has_default (info_of is d) || has_number i (places_from F c [] gs)) ≡ true) → Filled (program is arrays events)
        (sorted is) ys qs ds rs →
        Filled (program is arrays events) (sorted is) ys qs (d ∷ ds) (field_sort (info_of is d) ∷ rs)
    field_filled i d ds rs e h f = by (given_sort d.name ys qs) refl
      where
        slot : field_type F c i ≡ Rattle.verse_rules_types.specs.Types.ty_of (info_of is d).ty
        slot = ap type_in (info_at i d e)

        by_default : is_place (info_of is d).default ≡ true → given_sort d.name ys qs ≡ None →
            Filled (program is arrays events) (sorted is) ys qs (d ∷ ds) (field_sort (info_of is d) ∷ rs)
        by_default k g =
            let b = default_is d.default k in
            filled_by_default b.0 g b.1
            (is_default c i d (nth_is all i ∙ e) b.1 (get_map field_sort (fields_of F c) i (info_of is d) (info_at i d e))) f

        by : (o : Option Sort) → given_sort d.name ys qs ≡ o → Filled (program is arrays events) (sorted is) ys qs (d ∷ ds) (field_sort
            (info_of is d) ∷ rs)
        by (Some q) g =
            filled_given q g (subst (λ u. Fits (up is) q (sort_of u)) slot (given_fits c i d.name q gs fit (own.named i d e) g)) f
        by None g = two (or_cases (has_default (info_of is d)) (has_number i (places_from F c [] gs)) h)
          where
            two : (has_default (info_of is d) ≡ true) ⊎ (has_number i (places_from F c [] gs) ≡ true) →
                Filled (program is arrays events) (sorted is) ys qs (d ∷ ds) (field_sort (info_of is d) ∷ rs)
            two (inl k) = by_default k g
            two (inr k) = three (place_given c i [] gs k)
              where
                three : (has_number i [] ≡ true) ⊎ Given c i gs → Filled (program is arrays events) (sorted is) ys qs (d ∷ ds) (field_sort
                    (info_of is d) ∷ rs)
                three (inl k) = absurd (cc)
                three (inr k) =
                    absurd (name_given c i d.name gs
                    (λ y n. let p = own.place y i n in sym p.2 ∙ ap (λ (z : FieldTree). z.name) (same_field i p.0 d p.1 e)) k g)

    -- the fields from the place i on
    all_filled : (i : ℕ) (ds : List FieldTree) → ((j : ℕ) → slice_get all (i + j) ≡ slice_get ds j) →
        all_given (places_from F c [] gs) i (map (info_of is) ds) ≡ true →
        Filled (program is arrays events) (sorted is) ys qs ds (map field_sort (map (info_of is) ds))
    all_filled i [] f h = filled_no
    all_filled i (d ∷ ds) f h =
        let at : slice_get all i ≡ Some d = ap (slice_get all) (let same : i ≡ i + 0 = omega arith in same) ∙ f 0 in
        field_filled i d ds (map field_sort (map (info_of is) ds)) at (and_first _ _ h)
        (all_filled (i + 1) ds (λ j. ap (slice_get all) (let same : (i + 1) + j ≡ i + suc j = omega arith in same) ∙ f (suc j))
        (and_second (has_default (info_of is d) || has_number i (places_from F c [] gs)) _ h))

    pub filled : has_all F c gs ≡ true → Filled (program is arrays events) (sorted is) ys qs all ((sorted is).slots c)
    filled h =
        subst (λ l. Filled (program is arrays events) (sorted is) ys qs all (map field_sort l)) (sym (agree is quiet c))
        (all_filled 0 all (λ j. ap (slice_get all) (let same : 0 + j ≡ j = omega arith in same))
        (ap (all_given (places_from F c [] gs) 0) (sym (agree is quiet c)) ∙ h))

  class_within : (c : ℕ) (note : Note) → slice_get (known is).notes c ≡ Some note → c < length (known is).outline
  class_within c note e =
      omega (arith, slice_get_within (known is).notes c note e, length-map (known is).notes (outlined (known is).index.classes))

  module _ (agree : FieldsAgree) (naming : FieldNamesAgree) (quiet : Quiet is) (w : World) (a : Around) (xs : Table) (b : Allowed)
      (names : Names is w) (n : ℕ) (p : Place) where
    pub record Instance (x : Bytes) (gs : Givens) : Type 0 where
      pub class : ℕ
      pub stands : class_ref (program is arrays events) (programs.ref_at (program is arrays events) n) ≡ Some class
      pub gives : Gives (program is arrays events) (sorted is) b xs (form.instancing class (given_names gs) p)
          (given_sorts (program is arrays events) (sorted is) gs) (sort_of (ty_at is n))

    instance_by : (x : Bytes) (gs : Givens) (o : Option Ref) → programs.ref_at (program is arrays events) n ≡ o → visible w xs x ≡ o →
        ((r : Ref) → o ≡ Some r → IsThere is w.class r) → is_class o ≡ true → on_class o (λ c. givens_fit F c gs) ≡ true →
        on_class o (λ c. has_all F c gs) ≡ true → ty_at is n ≡ class_type o → Instance x gs
    instance_by x gs None e v there k fit full r = absurd (cc)
    instance_by x gs (Some (ref.Class c)) e v there k fit full r =
        let one = there (ref.Class c) refl in
        let own = naming is quiet c (class_within c one.note one.there) in
        record {
          class = c;
          stands = ap (class_ref (program is arrays events)) e;
          gives = record {
            no_case = tt;
            taken = given_sorts (program is arrays events) (sorted is) gs;
            given = s.obj c;
            operands = all_itself (up is) (given_sorts (program is arrays events) (sorted is) gs);
            takes = takes.takes_fields (filled agree quiet c own gs fit full);
            value = is_row is n (ty.class c) r;
          };
        }
    instance_by x gs (Some o) e v there k fit full r = absurd (cc)

    pub instance_gives : (x : Bytes) (gs : Givens) → At is w a xs n p (t.Shape.instance x gs) → Instance x gs
    instance_gives x gs h =
        let v = visible w xs x in
        let ref_is : refs.ref_at (Rattle.verse_rules.specs.Naming.named is).refs n ≡ v = h.named in
        let kept = types is w a xs n p (t.Shape.instance x gs) h in
        instance_by x gs v (same_known (slice_get F.refs n) ∙ h.ref ∙ ref_is) refl (λ r e. names.names n xs h.stands.locals x r e)
        (ap is_class (sym ref_is) ∙ not-false _ kept.callable)
        (ap (λ o. on_class o (λ c. givens_fit F c gs)) (sym ref_is) ∙ not-false _ kept.matched)
        (ap (λ o. on_class o (λ c. has_all F c gs)) (sym ref_is) ∙ not-false _ kept.given)
        (its_row is w a xs n p (t.Shape.instance x gs) h ∙ ap class_type ref_is)
