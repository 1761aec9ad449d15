-- The values of enums behind a dot.
use Rattle.std.proofs.Common.{◌≡◌, ℕ, zero, suc, ◌+◌, Bool, true, false, cond, bytes_eq, List, [], ◌∷◌, refl, sym, ap, ◌∙◌}
use Rattle.std.proofs.Common.{inl, inr}
use Rattle.std.specs.Prelude.{Some, slice_get, ◌⊎◌}
use Rattle.std.proofs.lemmas.Bool.{not-false}
use Rattle.verse_base.specs.declared.places.Place.{Place}
use Rattle.verse_tree.specs.Tree.{Bytes, tree, Shape}
use Rattle.verse_tree.specs.Tree as t
use Rattle.verse_tree.specs.ItemTree.{ItemTree, using, enumeration, class, function}
use Rattle.verse_tree.specs.declared.tables.Ref.TheVariants as ref
use Rattle.verse_rules_types.specs.Types as ty
use Rattle.verse_rules_walk.specs.Around.{Around}
use Rattle.verse_names_tables.specs.Names.{Table}
use Rattle.verse_names_scopes.specs.Visible.{World}
use Rattle.verse_check_typing.specs.Refs as refs
use Rattle.verse_check_typing.specs.Sets.{has_name, with_name, with_names}
use Rattle.verse_check_typing.specs.Facts.{Facts, type_of, enum_values}
use Rattle.verse_check_typing.specs.Members.{part, missing, part_type, may_stand, names_in, is_value, member_of}
use Rattle.verse_check_typing.specs.TypeRules.{is_called}
use Rattle.verse_check_typing.proofs.MoreNames.{has_with}
use Rattle.verse_value.specs.Val as v
use Rattle.verse_meaning_state.specs.Waits.{nth}
use Rattle.verse_meaning.specs.Programs.{same_name, place_of, one_further, enums, value_in, enum_val}
use Rattle.verse_meaning.specs.Evaluating.{enum_member, is_enum}
use Rattle.verse_meaning.proofs.Names.{same_bytes}
use Rattle.verse_sorts.specs.Sorts as s
use Rattle.verse_sorts.specs.Sorts.{Fits}
use Rattle.verse_sorts.proofs.Fitting.{fits_itself}
use Rattle.verse_sorts_types.specs.SortOf.{sort_of}
use Rattle.verse_accept_rows.specs.Found.{final}
use Rattle.verse_accept_fine.specs.Sorted.{At, ty_at, up, program}
use Rattle.verse_accept_fine.proofs.Base.{its_row, of_row, same_known, types}

-- ---- the names of values, as a set and by their places

-- a name has a place
abbrev Placed : Bytes → List Bytes → Type 0
Placed x ys = (i : ℕ) × (place_of x ys ≡ Some i)

placed_first : (x y : Bytes) (ys : List Bytes) → bytes_eq x y ≡ true → Placed x (y ∷ ys)
placed_first x y ys e = (0, ap (λ q. cond q (Some 0) (one_further (place_of x ys))) (sym (same_bytes x y) ∙ e))

placed_later : (x y : Bytes) (ys : List Bytes) → Placed x ys → Placed x (y ∷ ys)
placed_later x y ys p = by (same_name x y) refl
  where
    by : (q : Bool) → same_name x y ≡ q → Placed x (y ∷ ys)
    by true e = (0, ap (λ q. cond q (Some 0) (one_further (place_of x ys))) e)
    by false e = (suc p.0, ap (λ q. cond q (Some 0) (one_further (place_of x ys))) e ∙ ap one_further p.1)

placed_of : (x : Bytes) (ys xs : List Bytes) → has_name x (with_names ys xs) ≡ true → (has_name x xs ≡ true) ⊎ Placed x ys
placed_of x [] xs h = inl h
placed_of x (y ∷ ys) xs h = by (placed_of x ys (with_name y xs) h)
  where
    one : (has_name x xs ≡ true) ⊎ (bytes_eq x y ≡ true) → (has_name x xs ≡ true) ⊎ Placed x (y ∷ ys)
    one (inl h) = inl h
    one (inr e) = inr (placed_first x y ys e)

    by : (has_name x (with_name y xs) ≡ true) ⊎ Placed x ys → (has_name x xs ≡ true) ⊎ Placed x (y ∷ ys)
    by (inl h) = one (has_with x y xs h)
    by (inr p) = inr (placed_later x y ys p)

place_found : (x : Bytes) (ys : List Bytes) → has_name x (with_names ys []) ≡ true → Placed x ys
place_found x ys h = by (placed_of x ys [] h)
  where
    by : (has_name x [] ≡ true) ⊎ Placed x ys → Placed x ys
    by (inl h) = absurd (cc)
    by (inr p) = p

-- ---- the value of an enum by its name

value_found : (is : List ItemTree) (e : ℕ) (d : ℕ) (x : Bytes) → has_name x (names_in (slice_get (enum_values is) d)) ≡ true →
    (i : ℕ) × (value_in e x (nth (enums is) d) ≡ Some (v.enum e i))
value_found [] e d x h = absurd (cc)
value_found (using u ∷ is) e d x h = value_found is e d x h
value_found (enumeration en ∷ is) e zero x h =
    let p = place_found x en.values h in (p.0, ap (enum_val e) p.1)
value_found (enumeration en ∷ is) e (suc d) x h = value_found is e d x h
value_found (class c ∷ is) e d x h = value_found is e d x h
value_found (function f ∷ is) e d x h = value_found is e d x h

module _ (is : List ItemTree) (arrays events : ℕ → Bool) (w : World) (a : Around) (xs : Table) (n : ℕ) (p : Place) where
  abbrev F : Facts
  F = final is

  value_stands : (q : Bool) (e : ℕ) (x : Bytes) → may_stand q (cond (is_value F e x) (part (ty.enum e)) missing) ≡ true →
      is_value F e x ≡ true
  value_stands q e x h = by (is_value F e x) h
    where
      by : (r : Bool) → may_stand q (cond r (part (ty.enum e)) missing) ≡ true → r ≡ true
      by true h = refl
      by false h = cc

  -- behind the name of an enum stands one of its values
  pub enum_gives : (m : ℕ) (o : Place) (z : Shape) (x : Bytes) (e : ℕ) → At is w a xs n p (t.Shape.member (tree m o z) x) →
      refs.ref_at F.refs m ≡ Some (ref.Enum e) →
      (i : ℕ) × (enum_member (program is arrays events) (tree m o z) x ≡ Some (v.enum e i)) × Fits (up is) (s.enum e) (sort_of (ty_at is n))
  enum_gives m o z x e h r =
      let u = type_of F (tree m o z) in
      let stands = not-false _ (types is w a xs n p (t.Shape.member (tree m o z) x) h).member in
      let value : is_value F e x ≡ true =
      value_stands (is_called a.used) e x (ap (λ k. may_stand (is_called a.used) (member_of F k u x)) (sym r) ∙ stands) in
      let found = value_found is e e x value in
      let row : ty_at is n ≡ ty.enum e =
      its_row is w a xs n p (t.Shape.member (tree m o z) x) h ∙ ap (λ k. part_type (member_of F k u x)) r
      ∙ ap (λ q. part_type (cond q (part (ty.enum e)) missing)) value in (
        found.0,
        ap (λ k. is_enum (program is arrays events) k x) (same_known (slice_get F.refs m) ∙ r) ∙ found.1,
        of_row is n (s.enum e) (ty.enum e) row (fits_itself (up is) (s.enum e)),
      )
