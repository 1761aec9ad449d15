-- The parent of a class, by its number and by its name.
use Rattle.std.proofs.Common.{◌≡◌, ℕ, zero, suc, ◌+◌, ◌<◌, List, [], ◌∷◌, map, length, Bool, true, false, cond, bytes_eq, refl}
use Rattle.std.proofs.Common.{sym, ap, ◌∙◌, subst, arith}
use Rattle.std.specs.Prelude.{Option, Some, None, slice_get}
use Rattle.std.proofs.lemmas.Slice.Eq.{bytes_eq-Decides}
use Rattle.verse_tree.specs.Tree.{Bytes}
use Rattle.verse_tree.specs.ItemTree.{ClassTree, ItemTree, using, enumeration, class, function}
use Rattle.verse_tree.specs.declared.tables.Ref.{Ref}
use Rattle.verse_tree.specs.declared.tables.Ref.TheVariants as ref
use Rattle.verse_rules_types.specs.Fitting.{parent_of}
use Rattle.verse_names_tables.specs.Names.{Table, look, put, put_absent, keep, keep_named}
use Rattle.verse_names_tables.specs.Counting.{Counted, counted, counts_after, named_class_as, no_counts}
use Rattle.verse_names_tables.specs.declared.counting.Counts.{Counts}
use Rattle.verse_names_tables.specs.Notes.{Note}
use Rattle.verse_names_tables.specs.Indexing.{Index, indexed, index_all, no_index, class_number, parent_number, outlined}
use Rattle.verse_names_declarations.specs.Known.{known}
use Rattle.verse_meaning.specs.Programs.{same_name, class_named, classes}
use Rattle.verse_meaning.specs.Programs as programs
use Rattle.verse_meaning.proofs.Names.{same_bytes}
use Rattle.verse_accept_classes.proofs.Places.{Placed, all_placed}
use Rattle.verse_accept_classes.proofs.Classes.{tree_of, notes_are, outline_many}

-- what the items of a list are called, in turn
abbrev pub all_named : (ItemTree → Counts → Option (Bytes × Ref)) → List Counted → Table → Table
all_named as1 [] t = t
all_named as1 (i ∷ is) t = all_named as1 is (keep_named (as1 i.item i.before) t)

pub classes_named : (is : List Counted) (x : Index) → (index_all is x).classes ≡ all_named named_class_as is x.classes
classes_named [] x = refl
classes_named (i ∷ is) x = classes_named is (indexed i x)

abbrev pub or_else : Option Ref → Option Ref → Option Ref
or_else None p = p
or_else (Some r) p = Some r

-- ---- a table with a name that it keeps

choice : (b : Bool) (r : Ref) (l m p : Option Ref) → l ≡ or_else m p → cond b (Some r) l ≡ or_else (cond b (Some r) m) p
choice true r l m p e = refl
choice false r l m p e = e

no_test : (b : Bool) (r : Ref) (m : Option Ref) → cond b (Some r) m ≡ None → b ≡ false
no_test true r m e = cc
no_test false r m e = refl

no_rest : (b : Bool) (r : Ref) (m : Option Ref) → cond b (Some r) m ≡ None → m ≡ None
no_rest true r m e = cc
no_rest false r m e = e

look_put : (x y : Bytes) (r : Ref) (t : Table) → look y t ≡ None →
    look x (put y r t) ≡ or_else (look x t) (cond (bytes_eq x y) (Some r) None)
look_put x y r [] h = refl
look_put x y r (e ∷ t) h =
    ap (λ b. look x (cond b ((e.0, r) ∷ t) (e ∷ put y r t))) (no_test (bytes_eq y e.0) e.1 (look y t) h) ∙
    choice (bytes_eq x e.0) e.1 (look x (put y r t)) (look x t) (cond (bytes_eq x y) (Some r) None)
    (look_put x y r t (no_rest (bytes_eq y e.0) e.1 (look y t) h))

already : (x y : Bytes) (r q : Ref) (t : Table) → look y t ≡ Some q → look x t ≡ or_else (look x t) (cond (bytes_eq x y) (Some r) None)
already x y r q t e = by (bytes_eq x y) refl (look x t) refl
  where
    by : (b : Bool) → bytes_eq x y ≡ b → (o : Option Ref) → look x t ≡ o → o ≡ or_else o (cond b (Some r) None)
    by b p (Some s) k = refl
    by false p None k = refl
    by true p None k =
        let no : None ≡ Some q = sym k ∙ ap (λ z. look z t) ((bytes_eq-Decides x y).0 p) ∙ e in cc

pub look_keep : (x y : Bytes) (r : Ref) (t : Table) → look x (keep y r t) ≡ or_else (look x t) (cond (bytes_eq x y) (Some r) None)
look_keep x y r t = by (look y t) refl
  where
    by : (o : Option Ref) → look y t ≡ o → look x (put_absent o y r t) ≡ or_else (look x t) (cond (bytes_eq x y) (Some r) None)
    by None p = look_put x y r t p
    by (Some q) p = already x y r q t p

-- ---- the first class of a name

abbrev first_class : Bytes → ℕ → List ItemTree → Option Ref
first_class x n [] = None
first_class x n (using u ∷ is) = first_class x n is
first_class x n (enumeration e ∷ is) = first_class x n is
first_class x n (class c ∷ is) = cond (bytes_eq x c.name) (Some (ref.Class n)) (first_class x (n + 1) is)
first_class x n (function f ∷ is) = first_class x n is

ended : (o : Option Ref) → o ≡ or_else o None
ended None = refl
ended (Some r) = refl

joined : (o m : Option Ref) (b : Bool) (r : Ref) → or_else (or_else o (cond b (Some r) None)) m ≡ or_else o (cond b (Some r) m)
joined None m true r = refl
joined None m false r = refl
joined (Some q) m b r = refl

look_named : (x : Bytes) (is : List ItemTree) (n : Counts) (t : Table) →
    look x (all_named named_class_as (counted n is) t) ≡ or_else (look x t) (first_class x n.classes is)
look_named x [] n t = ended (look x t)
look_named x (using u ∷ is) n t = look_named x is (counts_after (using u) n) t
look_named x (enumeration e ∷ is) n t = look_named x is (counts_after (enumeration e) n) t
look_named x (class c ∷ is) n t =
    look_named x is (counts_after (class c) n) (keep c.name (ref.Class n.classes) t) ∙
    ap (λ o. or_else o (first_class x (n.classes + 1) is)) (look_keep x c.name (ref.Class n.classes) t) ∙
    joined (look x t) (first_class x (n.classes + 1) is) (bytes_eq x c.name) (ref.Class n.classes)
look_named x (function f ∷ is) n t = look_named x is (counts_after (function f) n) t

abbrev pub at : List ClassTree → Option ℕ → Option ClassTree
at cs None = None
at cs (Some c) = slice_get cs c

first_named : (all : List ClassTree) (x : Bytes) (n : ℕ) (is : List ItemTree) → Placed all n (classes is) →
    at all (class_number (first_class x n is)) ≡ class_named x (classes is)
first_named all x n [] h = refl
first_named all x n (using u ∷ is) h = first_named all x n is h
first_named all x n (enumeration e ∷ is) h = first_named all x n is h
first_named all x n (class c ∷ is) h =
    ap (λ b. at all (class_number (cond b (Some (ref.Class n)) (first_class x (n + 1) is)))) (same_bytes x c.name) ∙
    by (same_name x c.name) (first_named all x (n + 1) is h.1)
  where
    by : (b : Bool) → at all (class_number (first_class x (n + 1) is)) ≡ class_named x (classes is) →
        at all (class_number (cond b (Some (ref.Class n)) (first_class x (n + 1) is))) ≡ cond b (Some c) (class_named x (classes is))
    by true k = h.0
    by false k = k
first_named all x n (function f ∷ is) h = first_named all x n is h

module _ (is : List ItemTree) where
  abbrev table : Table
  table = (index_all (counted no_counts is) no_index).classes

  looked : (x : Bytes) → look x table ≡ first_class x 0 is
  looked x = ap (look x) (classes_named (counted no_counts is) no_index) ∙ look_named x is no_counts []

  parent_found : (o : Option Bytes) → at (classes is) (parent_number table o) ≡ programs.parent_of (classes is) o
  parent_found None = refl
  parent_found (Some x) = ap (λ r. at (classes is) (class_number r)) (looked x) ∙
      first_named (classes is) x 0 is (all_placed (classes is))

  note_parent : (ns : List Note) (cs : List ClassTree) (d : ℕ) (c : ClassTree) → map tree_of ns ≡ cs → slice_get cs d ≡ Some c →
      parent_of (map (outlined table) ns) d ≡ parent_number table c.parent
  note_parent [] cs d c e h = let k : slice_get [] d ≡ Some c = ap (λ l. slice_get l d) e ∙ h in cc
  note_parent (n ∷ ns) cs zero c e h =
      let k : Some (tree_of n) ≡ Some c = ap (λ l. slice_get l 0) e ∙ h in
      ap (λ (o : Option ClassTree). parent_number table (parent_or o)) k
    where
      parent_or : Option ClassTree → Option Bytes
      parent_or None = None
      parent_or (Some c) = c.parent
  note_parent (n ∷ ns) cs (suc d) c e h =
      note_parent ns (map tree_of ns) d c refl (ap (λ l. slice_get l (suc d)) e ∙ h)

  -- the parent of a class is the one that its number says
  pub parent_is : (d : ℕ) (c : ClassTree) → slice_get (classes is) d ≡ Some c →
      at (classes is) (parent_of (known is).outline d) ≡ programs.parent_of (classes is) c.parent
  parent_is d c h = ap (at (classes is)) (note_parent (known is).notes (classes is) d c (notes_are is no_counts) h) ∙ parent_found c.parent

  -- the first class of a name is one of the classes
  first_within : (x : Bytes) (n p : ℕ) (js : List ItemTree) → class_number (first_class x n js) ≡ Some p → p < n + length (classes js)
  first_within x n p [] e = cc
  first_within x n p (using u ∷ js) e = first_within x n p js e
  first_within x n p (enumeration d ∷ js) e = first_within x n p js e
  first_within x n p (class c ∷ js) e = by (bytes_eq x c.name) e (first_within x (n + 1) p js)
    where
      by : (b : Bool) → class_number (cond b (Some (ref.Class n)) (first_class x (n + 1) js)) ≡ Some p →
          (class_number (first_class x (n + 1) js) ≡ Some p → p < (n + 1) + length (classes js)) → p < n + suc (length (classes js))
      by true e f = let same : n ≡ p = cc in omega (arith, same)
      by false e f = omega (arith, f e)
  first_within x n p (function f ∷ js) e = first_within x n p js e

  parent_within : (o : Option Bytes) (p : ℕ) → parent_number table o ≡ Some p → p < length (classes is)
  parent_within None p e = cc
  parent_within (Some x) p e = omega (arith, first_within x 0 p is (ap class_number (sym (looked x)) ∙ e))

  noted_within : (ns : List Note) (d p : ℕ) → parent_of (map (outlined table) ns) d ≡ Some p → p < length (classes is)
  noted_within [] d p e = cc
  noted_within (n ∷ ns) zero p e = parent_within n.item.parent p e
  noted_within (n ∷ ns) (suc d) p e = noted_within ns d p e

  -- parents are classes
  pub parents_within : (d p : ℕ) → parent_of (known is).outline d ≡ Some p → p < length (known is).outline
  parents_within d p e = subst (λ n. p < n) (sym (outline_many is)) (noted_within (known is).notes d p e)
