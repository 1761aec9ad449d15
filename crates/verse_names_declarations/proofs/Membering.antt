-- Names with numbers, as those of fields and methods.
use Rattle.std.proofs.Common.{◌≡◌, ℕ, ◌+◌, Bool, true, false, cond, bytes_eq, List, [], ◌∷◌, ◌++◌, map, Option, refl, ap, ◌∙◌, sym}
use Rattle.std.specs.Prelude.{Some, None, slice_get}
use Rattle.verse_tree.specs.Tree.{Bytes}
use Rattle.verse_tree.specs.ItemTree.{MemberTree, field, method}
use Rattle.verse_tree.specs.declared.tables.Ref.{Ref}
use Rattle.verse_tree.specs.declared.tables.Ref.TheVariants as ref
use Rattle.verse_names_tables.specs.Names.{look, place, one_further, put, put_absent, keep, meanings}
use Rattle.verse_names_tables.specs.Shared.{second}
use Rattle.verse_names_tables.specs.Counting.{fun_after}
use Rattle.verse_names_tables.specs.Notes.{Note}
use Rattle.verse_names_declarations.specs.Members.{field_entry, method_entry, moved, fun_numbers, stands, Members, as_of}
use Rattle.verse_names_declarations.specs.Members.{with_field, with_member, with_members, with_note, with_notes, members_of, no_members}

-- what names stand for, each in its own way
module _ {V W : Type 0} (f : V → W) where
  abbrev entry : Bytes × V → Bytes × W
  entry e = (e.0, f e.1)

  abbrev stand : Option V → Option W
  stand None = None
  stand (Some v) = Some (f v)

  look_entry : (x : Bytes) (es : List (Bytes × V)) → stand (look x es) ≡ look x (map entry es)
  look_entry x [] = refl
  look_entry x (e ∷ es) = by (bytes_eq x e.0) (look_entry x es)
    where
      by : (b : Bool) → stand (look x es) ≡ look x (map entry es) →
          stand (cond b (Some e.1) (look x es)) ≡ cond b (Some (f e.1)) (look x (map entry es))
      by true h = refl
      by false h = h

  put_entry : (x : Bytes) (v : V) (es : List (Bytes × V)) → map entry (put x v es) ≡ put x (f v) (map entry es)
  put_entry x v [] = refl
  put_entry x v (e ∷ es) = by (bytes_eq x e.0) (put_entry x v es)
    where
      by : (b : Bool) → map entry (put x v es) ≡ put x (f v) (map entry es) →
          map entry (cond b ((e.0, v) ∷ es) (e ∷ put x v es)) ≡ cond b ((e.0, f v) ∷ map entry es) (entry e ∷ put x (f v) (map entry es))
      by true h = refl
      by false h = ap (λ l. entry e ∷ l) h

  keep_entry : (x : Bytes) (v : V) (es : List (Bytes × V)) → map entry (keep x v es) ≡ keep x (f v) (map entry es)
  keep_entry x v es = by (look x es) ∙ ap (λ o. put_absent o x (f v) (map entry es)) (look_entry x es)
    where
      by : (o : Option V) → map entry (put_absent o x v es) ≡ put_absent (stand o) x (f v) (map entry es)
      by None = put_entry x v es
      by (Some w) = refl

  place_entry : (x : Bytes) (es : List (Bytes × V)) → place x es ≡ place x (map entry es)
  place_entry x [] = refl
  place_entry x (e ∷ es) = ap (λ o. cond (bytes_eq x e.0) (Some 0) (one_further o)) (place_entry x es)

pub field_at : (c : ℕ) (x : Bytes) (es : List (Bytes × ℕ)) → stands (ref.Field c) (look x es) ≡ look x (map (field_entry c) es)
field_at c x es = by (look x es) ∙ look_entry (ref.Field c) x es
  where
    by : (o : Option ℕ) → stands (ref.Field c) o ≡ stand (ref.Field c) o
    by None = refl
    by (Some n) = refl

pub method_at : (x : Bytes) (es : List (Bytes × ℕ)) → stands ref.Fun (look x es) ≡ look x (map method_entry es)
method_at x es = by (look x es) ∙ look_entry ref.Fun x es
  where
    by : (o : Option ℕ) → stands ref.Fun o ≡ stand ref.Fun o
    by None = refl
    by (Some n) = refl

pub method_placed : (x : Bytes) (es : List (Bytes × ℕ)) → place x es ≡ place x (map method_entry es)
method_placed = place_entry ref.Fun

pub field_kept : (c : ℕ) (x : Bytes) (n : ℕ) (es : List (Bytes × ℕ)) →
    map (field_entry c) (keep x n es) ≡ keep x (ref.Field c n) (map (field_entry c) es)
field_kept c = keep_entry (ref.Field c)

pub method_put : (x : Bytes) (n : ℕ) (es : List (Bytes × ℕ)) → map method_entry (put x n es) ≡ put x (ref.Fun n) (map method_entry es)
method_put = put_entry ref.Fun

pub functions_are : (es : List (Bytes × ℕ)) → map second es ≡ fun_numbers (meanings (map method_entry es))
functions_are [] = refl
functions_are (e ∷ es) = ap (λ l. e.1 ∷ l) (functions_are es)

pub fields_moved : (c d : ℕ) (es : List (Bytes × ℕ)) → map (field_entry c) es ≡ map (λ e. (e.0, moved c e.1)) (map (field_entry d) es)
fields_moved c d [] = refl
fields_moved c d (e ∷ es) = ap (λ l. field_entry c e ∷ l) (fields_moved c d es)

-- ---- the same members, as those of another class

module _ (c d : ℕ) where
  field_as : (x : Bytes) (m : Members) → as_of c (with_field d x m) ≡ with_field c x (as_of c m)
  field_as x m = ap (λ l. record { fields = l; count = m.count + 1; methods = m.methods })
      (keep_entry (moved c) x (ref.Field d m.count) m.fields)

  member_as : (n : ℕ) (t : MemberTree) (m : Members) → as_of c (with_member d n t m) ≡ with_member c n t (as_of c m)
  member_as n (field t) m = field_as t.name m
  member_as n (method t) m = refl

  members_as : (n : ℕ) (ts : List MemberTree) (m : Members) → as_of c (with_members d n ts m) ≡ with_members c n ts (as_of c m)
  members_as n [] m = refl
  members_as n (t ∷ ts) m = members_as (fun_after t n) ts (with_member d n t m) ∙
      ap (with_members c (fun_after t n) ts) (member_as n t m)

  note_as : (o : Option Note) (m : Members) → as_of c (with_note d o m) ≡ with_note c o (as_of c m)
  note_as None m = refl
  note_as (Some n) m = members_as n.first n.item.members m

  notes_as : (ns : List Note) (es : List ℕ) (m : Members) → as_of c (with_notes ns d es m) ≡ with_notes ns c es (as_of c m)
  notes_as ns [] m = refl
  notes_as ns (e ∷ es) m = note_as (slice_get ns e) (with_notes ns d es m) ∙ ap (with_note c (slice_get ns e)) (notes_as ns es m)

  pub all_as : (ns : List Note) (es : List ℕ) → as_of c (members_of ns d es) ≡ members_of ns c es
  all_as ns es = notes_as ns es no_members
