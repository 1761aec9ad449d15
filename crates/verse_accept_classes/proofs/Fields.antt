-- The fields of a class by their numbers are those by their names.
use Rattle.std.proofs.Common.{◌≡◌, ℕ, zero, suc, ◌+◌, ◌<◌, Bool, true, false, cond, bytes_eq, List, [], ◌∷◌, ◌++◌, map, length}
use Rattle.std.proofs.Common.{Option, refl, sym, ap, ◌∙◌, subst, arith}
use Rattle.std.proofs.lemmas.List.{map-append, length-append}
use Rattle.std.proofs.lemmas.Option.{slice_get_within}
use Rattle.std.proofs.lemmas.Slice.Eq.{bytes_eq-Decides}
use Rattle.std.specs.Prelude.{Some, None, slice_get}
use Rattle.verse_base.proofs.Facts.{past}
use Rattle.verse_tree.specs.Tree.{Bytes}
use Rattle.verse_tree.specs.ItemTree.{FieldTree, MemberTree, field, method, ClassTree, ItemTree}
use Rattle.verse_tree.specs.declared.tables.Ref.{Ref}
use Rattle.verse_tree.specs.declared.tables.Ref.TheVariants as ref
use Rattle.verse_rules_types.specs.Types.{Class}
use Rattle.verse_rules_types.specs.Fitting.{parent_of}
use Rattle.verse_names_tables.specs.Names.{Table, look, keep}
use Rattle.verse_names_tables.specs.Counting.{no_counts}
use Rattle.verse_names_tables.specs.Notes.{Note}
use Rattle.verse_names_declarations.specs.Known.{Known, known}
use Rattle.verse_names_declarations.specs.Lines.{on_class, line, line_of, Members, with_member, with_members, with_note, with_notes}
use Rattle.verse_names_declarations.specs.Lines.{no_members}
use Rattle.verse_names_items.specs.Tables.{field_info, own_fields, note_members, fields_of, class_table, class_tables_from, class_tables}
use Rattle.verse_meaning_state.specs.Waits.{nth}
use Rattle.verse_meaning_state.proofs.Numbers.{nth_is}
use Rattle.verse_meaning.specs.Programs.{classes, fields_from}
use Rattle.verse_meaning.specs.Programs as programs
use Rattle.verse_meaning.proofs.Names.{test_itself}
use Rattle.verse_accept_classes.proofs.Classes.{tree_of, notes_are, outline_many}
use Rattle.verse_accept_classes.proofs.Parents.{at, parent_is, parents_within, or_else, look_keep}
use Rattle.verse_accept_classes.proofs.Lines.{ends_above, ends, NoCircle, all_end}

-- the fields of a list of classes, those of the last class first
abbrev pub field_trees : List Note → List ℕ → List FieldTree
field_trees ns [] = []
field_trees ns (d ∷ ds) = field_trees ns ds ++ programs.own_fields (note_members (slice_get ns d))

own_are : (ts : Table) (ms : List MemberTree) → own_fields ts ms ≡ map (field_info ts) (programs.own_fields ms)
own_are ts [] = refl
own_are ts (field d ∷ ms) = ap (λ l. field_info ts d ∷ l) (own_are ts ms)
own_are ts (method f ∷ ms) = own_are ts ms

-- in the table of classes
pub fields_are : (ts : Table) (ns : List Note) (ds : List ℕ) → fields_of ts ns ds ≡ map (field_info ts) (field_trees ns ds)
fields_are ts ns [] = refl
fields_are ts ns (d ∷ ds) =
    let own = note_members (slice_get ns d) in
    ap (λ l. l ++ own_fields ts own) (fields_are ts ns ds)
    ∙ ap (λ l. map (field_info ts) (field_trees ns ds) ++ l) (own_are ts own)
    ∙ sym (map-append (field_info ts) (field_trees ns ds) (programs.own_fields own))

-- ---- the fields of a class and its ancestors, by the names of parents

abbrev own : Option ClassTree → List FieldTree
own None = []
own (Some c) = programs.own_fields c.members

note_own : (ns : List Note) (d : ℕ) → programs.own_fields (note_members (slice_get ns d)) ≡ own (slice_get (map tree_of ns) d)
note_own [] d = refl
note_own (n ∷ ns) zero = refl
note_own (n ∷ ns) (suc d) = note_own ns d

none_from : (n : ℕ) (cs : List ClassTree) → fields_from n cs None ≡ []
none_from zero cs = refl
none_from (suc n) cs = refl

pub no_parent : (os : List Class) (d : ℕ) → slice_get os d ≡ None → parent_of os d ≡ None
no_parent [] d e = refl
no_parent (o ∷ os) zero e = cc
no_parent (o ∷ os) (suc d) e = no_parent os d e

module _ (is : List ItemTree) where
  abbrev k : Known
  k = known is

  -- of a class with its ancestors, the root's first
  abbrev pub class_fields : ℕ → List FieldTree
  class_fields c = field_trees k.notes (line_of k.outline c)

  own_is : (d : ℕ) → programs.own_fields (note_members (slice_get k.notes d)) ≡ own (slice_get (classes is) d)
  own_is d = note_own k.notes d ∙ ap (λ cs. own (slice_get cs d)) (notes_are is no_counts)

  -- within n steps, where the ancestors end within these
  line_trees : (n d : ℕ) → ends k.outline n d ≡ true →
      field_trees k.notes (line k.outline n d) ≡ fields_from n (classes is) (slice_get (classes is) d)
  line_trees zero d h = cc
  line_trees (suc n) d h = by (slice_get (classes is) d) refl (above (parent_of k.outline d) h (λ p g. line_trees n p g))
    where
      above : (o : Option ℕ) → ends_above k.outline o (ends k.outline n) ≡ true →
          ((p : ℕ) → ends k.outline n p ≡ true →
          field_trees k.notes (line k.outline n p) ≡ fields_from n (classes is) (slice_get (classes is) p)) →
          field_trees k.notes (on_class o (line k.outline n)) ≡ fields_from n (classes is) (at (classes is) o)
      above None g r = sym (none_from n (classes is))
      above (Some p) g r = r p g

      by : (o : Option ClassTree) → slice_get (classes is) d ≡ o →
          field_trees k.notes (on_class (parent_of k.outline d) (line k.outline n)) ≡
          fields_from n (classes is) (at (classes is) (parent_of k.outline d)) →
          field_trees k.notes (line k.outline (suc n) d) ≡ fields_from (suc n) (classes is) o
      by None e r =
          let none = no_parent k.outline d (past (classes is) k.outline d (sym (outline_many is)) e) in
          ap (λ o. field_trees k.notes (on_class o (line k.outline n)) ++ programs.own_fields (note_members (slice_get k.notes d))) none
          ∙ own_is d ∙ ap own e
      by (Some c) e r =
          ap (λ l. field_trees k.notes (on_class (parent_of k.outline d) (line k.outline n)) ++ l) (own_is d ∙ ap own e)
          ∙ ap (λ l. l ++ programs.own_fields c.members) (r ∙ ap (fields_from n (classes is)) (parent_is is d c e))

  pub fields_agree : NoCircle k.outline → (c : ℕ) →
      class_fields c ≡ fields_from (length (classes is)) (classes is) (nth (classes is) c)
  fields_agree h c = by (slice_get (classes is) c) refl ∙ ap (fields_from (length (classes is)) (classes is)) (sym (nth_is (classes is) c))
    where
      first : (n : ℕ) → slice_get k.outline c ≡ None → slice_get (classes is) c ≡ None → field_trees k.notes (line k.outline n c) ≡ []
      first zero e f = refl
      first (suc n) e f =
          ap (λ o. field_trees k.notes (on_class o (line k.outline n)) ++ programs.own_fields (note_members (slice_get k.notes c)))
          (no_parent k.outline c e) ∙ own_is c ∙ ap own f

      by : (o : Option ClassTree) → slice_get (classes is) c ≡ o →
          class_fields c ≡ fields_from (length (classes is)) (classes is) (slice_get (classes is) c)
      by None e =
          first (length k.outline) (past (classes is) k.outline c (sym (outline_many is)) e) e
          ∙ sym (none_from (length (classes is)) (classes is)) ∙ ap (fields_from (length (classes is)) (classes is)) (sym e)
      by (Some cl) e =
          let inside : c < length k.outline = subst (λ n. c < n) (sym (outline_many is)) (slice_get_within (classes is) c cl e) in
          line_trees (length k.outline) c (all_end k.outline h (parents_within is) c inside)
          ∙ ap (λ n. fields_from n (classes is) (slice_get (classes is) c)) (outline_many is)

  table_at : (c n : ℕ) (os : List Class) (o : Class) → slice_get os n ≡ Some o →
      slice_get (class_tables_from k c os) n ≡ Some (class_table k (c + n) o)
  table_at c n [] o e = cc
  table_at c zero (x ∷ os) o e =
      let same : x ≡ o = cc in ap (λ y. Some (class_table k c y)) same ∙ ap (λ d. Some (class_table k d o)) (omega arith)
  table_at c (suc n) (x ∷ os) o e = table_at (c + 1) n os o e ∙ ap (λ d. Some (class_table k d o)) (omega arith)

  -- the entry of a class in the table
  pub class_at : (c : ℕ) (o : Class) → slice_get k.outline c ≡ Some o → slice_get (class_tables k) c ≡ Some (class_table k c o)
  class_at c o e = table_at 0 c k.outline o e ∙ ap (λ d. Some (class_table k d o)) (omega arith)

-- ---- fields by their names

-- the first field of a name, where the fields begin at the place n
abbrev pub find : ℕ → Bytes → ℕ → List FieldTree → Option Ref
find c x n [] = None
find c x n (d ∷ ds) = cond (bytes_eq x d.name) (Some (ref.Field c n)) (find c x (n + 1) ds)

abbrev kept : ℕ → ℕ → List FieldTree → Table → Table
kept c n [] t = t
kept c n (d ∷ ds) t = kept c (n + 1) ds (keep d.name (ref.Field c n) t)

ended : (o : Option Ref) → o ≡ or_else o None
ended None = refl
ended (Some r) = refl

joined : (o m : Option Ref) (b : Bool) (r : Ref) → or_else (or_else o (cond b (Some r) None)) m ≡ or_else o (cond b (Some r) m)
joined None m true r = refl
joined None m false r = refl
joined (Some q) m b r = refl

look_kept : (c : ℕ) (x : Bytes) (n : ℕ) (ds : List FieldTree) (t : Table) → look x (kept c n ds t) ≡ or_else (look x t) (find c x n ds)
look_kept c x n [] t = ended (look x t)
look_kept c x n (d ∷ ds) t =
    look_kept c x (n + 1) ds (keep d.name (ref.Field c n) t)
    ∙ ap (λ o. or_else o (find c x (n + 1) ds)) (look_keep x d.name (ref.Field c n) t)
    ∙ joined (look x t) (find c x (n + 1) ds) (bytes_eq x d.name) (ref.Field c n)

kept_both : (c n : ℕ) (xs ys : List FieldTree) (t : Table) → kept c n (xs ++ ys) t ≡ kept c (n + length xs) ys (kept c n xs t)
kept_both c n [] ys t = ap (λ m. kept c m ys t) (omega arith)
kept_both c n (d ∷ xs) ys t =
    kept_both c (n + 1) xs ys (keep d.name (ref.Field c n) t)
    ∙ ap (λ m. kept c m ys (kept c (n + 1) xs (keep d.name (ref.Field c n) t))) (omega arith)

-- what the fields of members become
record Keeps (c : ℕ) (m q : Members) (ds : List FieldTree) : Type 0 where
  fields : q.fields ≡ kept c m.count ds m.fields
  count : q.count ≡ m.count + length ds

members_kept : (c n : ℕ) (ms : List MemberTree) (m : Members) → Keeps c m (with_members c n ms m) (programs.own_fields ms)
members_kept c n [] m = record { fields = refl; count = omega arith }
members_kept c n (field d ∷ ms) m =
    let r = members_kept c n ms (with_member c n (field d) m) in
    record { fields = r.fields; count = omega (arith, r.count) }
members_kept c n (method f ∷ ms) m =
    let r = members_kept c (n + 1) ms (with_member c n (method f) m) in
    record { fields = r.fields; count = r.count }

note_kept : (c : ℕ) (o : Option Note) (m : Members) → Keeps c m (with_note c o m) (programs.own_fields (note_members o))
note_kept c None m = record { fields = refl; count = omega arith }
note_kept c (Some n) m = members_kept c n.first n.item.members m

notes_kept : (c : ℕ) (ns : List Note) (ds : List ℕ) → Keeps c no_members (with_notes ns c ds no_members) (field_trees ns ds)
notes_kept c ns [] = record { fields = refl; count = refl }
notes_kept c ns (d ∷ ds) =
    let below = with_notes ns c ds no_members in
    let own = programs.own_fields (note_members (slice_get ns d)) in
    let r = notes_kept c ns ds in
    let s = note_kept c (slice_get ns d) below in
    record {
      fields =
          s.fields ∙ ap (λ t. kept c below.count own t) r.fields ∙ ap (λ n. kept c n own (kept c 0 (field_trees ns ds) [])) r.count
          ∙ sym (kept_both c 0 (field_trees ns ds) own []);
      count = omega (arith, s.count, r.count, length-append (field_trees ns ds) own);
    }

-- what the name of a field stands for
pub look_fields : (c : ℕ) (x : Bytes) (ns : List Note) (ds : List ℕ) →
    look x (with_notes ns c ds no_members).fields ≡ find c x 0 (field_trees ns ds)
look_fields c x ns ds = ap (look x) (notes_kept c ns ds).fields ∙ look_kept c x 0 (field_trees ns ds) []

-- ---- which field that is

pub record IsField (c : ℕ) (x : Bytes) (n : ℕ) (ds : List FieldTree) (r : Ref) : Type 0 where
  pub place : ℕ
  pub tree : FieldTree
  pub there : slice_get ds place ≡ Some tree
  pub named : tree.name ≡ x
  pub is : r ≡ ref.Field c (n + place)

pub find_field : (c : ℕ) (x : Bytes) (n : ℕ) (ds : List FieldTree) (r : Ref) → find c x n ds ≡ Some r → IsField c x n ds r
find_field c x n [] r e = absurd (cc)
find_field c x n (d ∷ ds) r e = by (bytes_eq x d.name) refl e (find_field c x (n + 1) ds r)
  where
    by : (b : Bool) → bytes_eq x d.name ≡ b → cond b (Some (ref.Field c n)) (find c x (n + 1) ds) ≡ Some r →
        (find c x (n + 1) ds ≡ Some r → IsField c x (n + 1) ds r) → IsField c x n (d ∷ ds) r
    by true q e f =
        let same : ref.Field c n ≡ r = cc in
        record {
          place = 0;
          tree = d;
          there = refl;
          named = sym ((bytes_eq-Decides x d.name).0 q);
          is = sym same ∙ ap (ref.Field c) (omega arith);
        }
    by false q e f =
        let g = f e in
        record { place = suc g.place; tree = g.tree; there = g.there; named = g.named; is = g.is ∙ ap (ref.Field c) (omega arith) }

-- names that differ
abbrev pub Differ : Bytes → List FieldTree → Type 0
Differ x [] = Unit {0}
Differ x (d ∷ ds) = (x ≡ d.name → ⊥) × Differ x ds

abbrev pub AllDiffer : List FieldTree → Type 0
AllDiffer [] = Unit {0}
AllDiffer (d ∷ ds) = Differ d.name ds × AllDiffer ds

pub not_same : (x y : Bytes) → (x ≡ y → ⊥) → bytes_eq x y ≡ false
not_same x y h = by (bytes_eq x y) refl
  where
    by : (b : Bool) → bytes_eq x y ≡ b → b ≡ false
    by true e = absurd (h ((bytes_eq-Decides x y).0 e))
    by false e = refl

differ_at : (x : Bytes) (ds : List FieldTree) (i : ℕ) (d : FieldTree) → Differ x ds → slice_get ds i ≡ Some d → d.name ≡ x → ⊥
differ_at x [] i d h e q = cc
differ_at x (y ∷ ds) zero d h e q = let same : y ≡ d = cc in h.0 (sym q ∙ ap (λ (z : FieldTree). z.name) (sym same))
differ_at x (y ∷ ds) (suc i) d h e q = differ_at x ds i d h.1 e q

pub find_named : (c n : ℕ) (ds : List FieldTree) (i : ℕ) (d : FieldTree) → AllDiffer ds → slice_get ds i ≡ Some d →
    find c d.name n ds ≡ Some (ref.Field c (n + i))
find_named c n [] i d h e = cc
find_named c n (y ∷ ds) zero d h e =
    let same : y ≡ d = cc in
    ap (λ b. cond b (Some (ref.Field c n)) (find c d.name (n + 1) ds)) (ap (λ (z : FieldTree). bytes_eq d.name z.name) same
    ∙ test_itself d.name)
    ∙ ap (λ m. Some (ref.Field c m)) (omega arith)
find_named c n (y ∷ ds) (suc i) d h e =
    ap (λ b. cond b (Some (ref.Field c n)) (find c d.name (n + 1) ds)) (not_same d.name y.name (differ_at y.name ds i d h.0 e))
    ∙ find_named c (n + 1) ds i d h.1 e ∙ ap (λ m. Some (ref.Field c m)) (omega arith)

-- a name that stands for none differs from all
pub find_none : (c : ℕ) (x : Bytes) (n : ℕ) (ds : List FieldTree) → find c x n ds ≡ None → Differ x ds
find_none c x n [] e = tt
find_none c x n (d ∷ ds) e = by (bytes_eq x d.name) refl e (find_none c x (n + 1) ds)
  where
    by : (b : Bool) → bytes_eq x d.name ≡ b → cond b (Some (ref.Field c n)) (find c x (n + 1) ds) ≡ None →
        (find c x (n + 1) ds ≡ None → Differ x ds) → Differ x (d ∷ ds)
    by true q e f = cc
    by false q e f = ((λ same. let k : true ≡ false = sym ((bytes_eq-Decides x d.name).1 same) ∙ q in cc), f e)

differ_both : (x : Bytes) (xs ys : List FieldTree) → Differ x xs → Differ x ys → Differ x (xs ++ ys)
differ_both x [] ys h g = g
differ_both x (d ∷ xs) ys h g = (h.0, differ_both x xs ys h.1 g)

-- each of the second differs from all of the first
abbrev pub Apart : List FieldTree → List FieldTree → Type 0
Apart xs [] = Unit {0}
Apart xs (d ∷ ys) = Differ d.name xs × Apart xs ys

apart_first : (d : FieldTree) (xs ys : List FieldTree) → Apart (d ∷ xs) ys → Differ d.name ys
apart_first d xs [] h = tt
apart_first d xs (e ∷ ys) h = ((λ q. h.0.0 (sym q)), apart_first d xs ys h.1)

apart_rest : (d : FieldTree) (xs ys : List FieldTree) → Apart (d ∷ xs) ys → Apart xs ys
apart_rest d xs [] h = tt
apart_rest d xs (e ∷ ys) h = (h.0.1, apart_rest d xs ys h.1)

pub all_both : (xs ys : List FieldTree) → AllDiffer xs → AllDiffer ys → Apart xs ys → AllDiffer (xs ++ ys)
all_both [] ys h g a = g
all_both (d ∷ xs) ys h g a =
    (differ_both d.name xs ys h.0 (apart_first d xs ys a), all_both xs ys h.1 g (apart_rest d xs ys a))
