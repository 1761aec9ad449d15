-- Where no rule of items and members is broken, the fields of a class have distinct names.
use Rattle.std.proofs.Common.{◌≡◌, ℕ, zero, suc, ◌+◌, ◌<◌, Bool, true, false, cond, bytes_eq, List, [], ◌∷◌, map, length}
use Rattle.std.proofs.Common.{Option, refl, sym, ap, ◌∙◌, subst, arith}
use Rattle.std.proofs.lemmas.Slice.Eq.{bytes_eq-Decides}
use Rattle.std.specs.Prelude.{Some, None, slice_get, is_some}
use Rattle.std.proofs.lemmas.Bool.{false_from_ne_true, or_parts}
use Rattle.verse_base.proofs.Facts.{none_is}
use Rattle.verse_tree.specs.Tree.{Bytes}
use Rattle.verse_tree.specs.ItemTree.{FieldTree, MemberTree, field, method, ItemTree, using, enumeration, class, function}
use Rattle.verse_rules_least.specs.Least.{Holds, other}
use Rattle.verse_rules_types.specs.Fitting.{parent_of}
use Rattle.verse_names_tables.specs.Names.{look, put, Roll, called, came_again, is_repeated, call_all}
use Rattle.verse_names_tables.specs.Counting.{counted, counts_after, no_counts}
use Rattle.verse_names_tables.specs.declared.counting.Counts.{Counts}
use Rattle.verse_names_tables.specs.Notes.{Note, notes}
use Rattle.verse_names_declarations.specs.Known.{Known, known}
use Rattle.verse_names_declarations.specs.Lines.{on_class, line_of, ancestors, member_name, Home, home}
use Rattle.verse_names_items.specs.Rules.{is_taken, is_field_defined, rules_at}
use Rattle.verse_names_items.specs.Rules as rules
use Rattle.verse_names_items.specs.Nodes.{one, field_declared, member_declared, members_declared, item_declared, items_declared}
use Rattle.verse_names_items.specs.Nodes.{ItemsBreak}
use Rattle.verse_names_items.specs.Tables.{note_members}
use Rattle.verse_meaning.specs.Programs.{classes}
use Rattle.verse_meaning.specs.Programs as programs
use Rattle.verse_meaning.proofs.Names.{test_itself}
use Rattle.verse_accept_scopes.specs.Lists.{Each}
use Rattle.verse_accept_scopes.proofs.Rows.{each_first, each_rest}
use Rattle.verse_accept_classes.proofs.Circles.{Kept, program_kept, holds_here, no_circle}
use Rattle.verse_accept_classes.proofs.Parents.{parents_within}
use Rattle.verse_accept_classes.proofs.Lines.{ends, NoCircle, all_end}
use Rattle.verse_accept_classes.proofs.Ancestors.{line_is, above_is, ends_parent}
use Rattle.verse_accept_classes.proofs.Fields.{field_trees, find, look_fields, find_none, Differ, AllDiffer, Apart}
use Rattle.verse_accept_classes.proofs.Fields.{all_both}
use Rattle.verse_accept_classes.proofs.Fields.{class_fields}

-- ---- rolls of names

look_put_same : (x : Bytes) (v : Bool) (r : Roll) → look x (put x v r) ≡ Some v
look_put_same x v [] = ap (λ b. cond b (Some v) None) (test_itself x)
look_put_same x v (e ∷ r) = by (bytes_eq x e.0) refl (look_put_same x v r)
  where
    by : (b : Bool) → bytes_eq x e.0 ≡ b → look x (put x v r) ≡ Some v → look x (cond b ((e.0, v) ∷ r) (e ∷ put x v r)) ≡ Some v
    by true q h = ap (λ b. cond b (Some v) (look x r)) q
    by false q h = ap (λ b. cond b (Some e.1) (look x (put x v r))) q ∙ h

look_put_other : (x y : Bytes) (v : Bool) (r : Roll) → bytes_eq x y ≡ false → look x (put y v r) ≡ look x r
look_put_other x y v [] h = ap (λ b. cond b (Some v) None) h
look_put_other x y v (e ∷ r) h = by (bytes_eq y e.0) refl (look_put_other x y v r h)
  where
    by : (b : Bool) → bytes_eq y e.0 ≡ b → look x (put y v r) ≡ look x r →
        look x (cond b ((e.0, v) ∷ r) (e ∷ put y v r)) ≡ cond (bytes_eq x e.0) (Some e.1) (look x r)
    by true q k =
        let other : bytes_eq x e.0 ≡ false = ap (bytes_eq x) (sym ((bytes_eq-Decides y e.0).0 q)) ∙ h in
        ap (λ b. cond b (Some v) (look x r)) other ∙ sym (ap (λ b. cond b (Some e.1) (look x r)) other)
    by false q k = ap (cond (bytes_eq x e.0) (Some e.1)) k

-- a name that came again stays so
again_stays : (x : Bytes) (ns : List Bytes) (r : Roll) → look x r ≡ Some true → look x (call_all ns r) ≡ Some true
again_stays x [] r h = h
again_stays x (y ∷ ns) r h = again_stays x ns (called y r) (by (bytes_eq x y) refl)
  where
    by : (b : Bool) → bytes_eq x y ≡ b → look x (called y r) ≡ Some true
    by true q =
        let same : x ≡ y = (bytes_eq-Decides x y).0 q in
        ap (λ z. look x (put z (is_some (look z r)) r)) (sym same) ∙ look_put_same x (is_some (look x r)) r ∙ ap (λ o. Some (is_some o)) h
    by false q = look_put_other x y (is_some (look y r)) r q ∙ h

-- names that differ from one
abbrev Absent : Bytes → List Bytes → Type 0
Absent x [] = Unit {0}
Absent x (y ∷ ns) = (x ≡ y → ⊥) × Absent x ns

once : (x : Bytes) (ns : List Bytes) (r : Roll) (v : Bool) → look x r ≡ Some v → is_repeated x (call_all ns r) ≡ false → Absent x ns
once x [] r v h g = tt
once x (y ∷ ns) r v h g = by (bytes_eq x y) refl (λ w q. once x ns (called y r) w q g)
  where
    by : (b : Bool) → bytes_eq x y ≡ b → ((w : Bool) → look x (called y r) ≡ Some w → Absent x ns) → Absent x (y ∷ ns)
    by true q f =
        let same : x ≡ y = (bytes_eq-Decides x y).0 q in
        let again : look x (called y r) ≡ Some true =
        ap (λ z. look x (put z (is_some (look z r)) r)) (sym same) ∙ look_put_same x (is_some (look x r)) r
        ∙ ap (λ o. Some (is_some o)) h in
        let no : true ≡ false = sym (ap came_again (again_stays x ns (called y r) again)) ∙ g in
        absurd (cc)
    by false q f = (
      (λ same. let k : true ≡ false = sym ((bytes_eq-Decides x y).1 same) ∙ q in cc),
      f v (look_put_other x y (is_some (look y r)) r q ∙ h),
    )

-- ---- what the rules leave of the members of a class

module _ (k : Known) where
  -- its name is that of no other member, nor of a field above
  record Free (h : Home) (d : FieldTree) : Type 0 where
    once : is_repeated d.name h.own ≡ false
    new : look d.name h.above.fields ≡ None

  abbrev AllFree : Home → List MemberTree → Type 0
  AllFree h [] = Unit {0}
  AllFree h (field d ∷ ms) = Free h d × AllFree h ms
  AllFree h (method f ∷ ms) = AllFree h ms

  field_free : (h : Home) (d : FieldTree) → ((c : ℕ) → Holds (rules_at k (rules.field h d)) c → ⊥) → Free h d
  field_free h d quiet =
      let kept : is_field_defined k h d.name ≡ false = false_from_ne_true (is_field_defined k h d.name) (λ e. quiet 40 (holds_here e)) in
      let first = or_parts (is_taken k d.name) _ kept in
      let second = or_parts (is_repeated d.name h.own) _ first.1 in
      let third = or_parts (is_some (look d.name h.above.fields)) _ second.1 in
      record { once = second.0; new = none_is (look d.name h.above.fields) third.0 }

  members_free : (h : Home) (n : ℕ) (ms : List MemberTree) → Each (Kept k) (members_declared h n ms) → AllFree h ms
  members_free h n [] q = tt
  members_free h n (field d ∷ ms) q =
      let own = member_declared h n (field d) in
      let others = members_declared h n ms in
      let at = each_rest (Kept k) (field_declared d) (one d.number d.place (rules.field h d)) (each_first (Kept k) own others q) in
      (field_free h d at.0, members_free h n ms (each_rest (Kept k) own others q))
  members_free h n (method f ∷ ms) q =
      members_free h (n + 1) ms (each_rest (Kept k) (member_declared h n (method f)) (members_declared h (n + 1) ms) q)

  -- the members of each class, the first of which has the number c
  abbrev pub NotesKept : ℕ → List Note → Type 0
  NotesKept c [] = Unit {0}
  NotesKept c (n ∷ ns) = Each (Kept k) (members_declared (home k c n.item.members) n.first n.item.members) × NotesKept (c + 1) ns

  pub all_notes_kept : (is : List ItemTree) (n : Counts) → Each (Kept k) (items_declared k (counted n is)) →
      NotesKept n.classes (notes (counted n is))
  all_notes_kept [] n h = tt
  all_notes_kept (using u ∷ is) n h = all_notes_kept is (counts_after (using u) n) h.1
  all_notes_kept (enumeration e ∷ is) n h = all_notes_kept is (counts_after (enumeration e) n) h.1
  all_notes_kept (class c ∷ is) n h =
      let own = item_declared k (class c) n in
      let rest = items_declared k (counted (counts_after (class c) n) is) in
      let members = members_declared (home k n.classes c.members) n.funs c.members in (
        each_first (Kept k) members (one c.number c.place (rules.class n.classes c)) (each_first (Kept k) own rest h),
        all_notes_kept is (counts_after (class c) n) (each_rest (Kept k) own rest h),
      )
  all_notes_kept (function f ∷ is) n h =
      let own = item_declared k (function f) n in
      let rest = items_declared k (counted (counts_after (function f) n) is) in
      all_notes_kept is (counts_after (function f) n) (each_rest (Kept k) own rest h)

  pub note_kept : (c d : ℕ) (ns : List Note) (n : Note) → NotesKept c ns → slice_get ns d ≡ Some n →
      Each (Kept k) (members_declared (home k (c + d) n.item.members) n.first n.item.members)
  note_kept c d [] n h e = cc
  note_kept c zero (m ∷ ns) n h e =
      let same : m ≡ n = cc in
      subst (λ (x : Note). Each (Kept k) (members_declared (home k (c + 0) x.item.members) x.first x.item.members)) same
      (subst (λ i. Each (Kept k) (members_declared (home k i m.item.members) m.first m.item.members))
      (let at : c ≡ c + 0 = omega arith in at) h.0)
  note_kept c (suc d) (m ∷ ns) n h e =
      subst (λ i. Each (Kept k) (members_declared (home k i n.item.members) n.first n.item.members))
      (let at : (c + 1) + d ≡ c + suc d = omega arith in at) (note_kept (c + 1) d ns n h.1 e)

-- ---- the fields of one class

absent_fields : (x : Bytes) (ms : List MemberTree) → Absent x (map member_name ms) → Differ x (programs.own_fields ms)
absent_fields x [] h = tt
absent_fields x (field d ∷ ms) h = (h.0, absent_fields x ms h.1)
absent_fields x (method f ∷ ms) h = absent_fields x ms h.1

-- the roll of all names
abbrev Once : Roll → List MemberTree → Type 0
Once r [] = Unit {0}
Once r (field d ∷ ms) = (is_repeated d.name r ≡ false) × Once r ms
Once r (method f ∷ ms) = Once r ms

own_differ : (ms : List MemberTree) (r : Roll) → Once (call_all (map member_name ms) r) ms → AllDiffer (programs.own_fields ms)
own_differ [] r h = tt
own_differ (field d ∷ ms) r h = (
  absent_fields d.name ms (once d.name (map member_name ms) (called d.name r) (is_some (look d.name r))
      (look_put_same d.name (is_some (look d.name r)) r) h.0),
  own_differ ms (called d.name r) h.1,
)
own_differ (method f ∷ ms) r h = own_differ ms (called f.name r) h

free_once : (k : Known) (h : Home) (ms : List MemberTree) → AllFree k h ms → Once h.own ms
free_once k h [] f = tt
free_once k h (field d ∷ ms) f = (f.0.once, free_once k h ms f.1)
free_once k h (method g ∷ ms) f = free_once k h ms f

module _ (is : List ItemTree) (quiet : (n c : ℕ) → ItemsBreak is n c → ⊥) where
  abbrev k : Known
  k = known is

  straight : NoCircle k.outline
  straight = no_circle is quiet

  pub class_kept : (c : ℕ) (n : Note) → slice_get k.notes c ≡ Some n →
      Each (Kept k) (members_declared (home k c n.item.members) n.first n.item.members)
  class_kept c n e =
      subst (λ i. Each (Kept k) (members_declared (home k i n.item.members) n.first n.item.members)) (let at : 0 + c ≡
      c = omega arith in at)
      (note_kept k 0 c k.notes n (all_notes_kept k is no_counts (each_first (Kept k) (items_declared k k.items) _
      (program_kept is quiet))) e)

  free_apart : (c : ℕ) (ds : List ℕ) (ms : List MemberTree) (ns : List MemberTree) → ancestors k.outline c ≡ ds →
      AllFree k (home k c ns) ms →
      Apart (field_trees k.notes ds) (programs.own_fields ms)
  free_apart c ds [] ns e f = tt
  free_apart c ds (field d ∷ ms) ns e f = (
    find_none c d.name 0 (field_trees k.notes ds)
        (ap (λ l. find c d.name 0 (field_trees k.notes l)) (sym e) ∙ sym (look_fields c d.name k.notes (ancestors k.outline c)) ∙ f.0.new),
    free_apart c ds ms ns e f.1,
  )
  free_apart c ds (method g ∷ ms) ns e f = free_apart c ds ms ns e f

  -- of a class and its ancestors
  of_line : (n c : ℕ) → c < length k.outline → ends k.outline n c ≡ true → AllDiffer (class_fields is c)
  of_line zero c l h = cc
  of_line (suc n) c l h =
      subst (λ ds. AllDiffer (field_trees k.notes ds)) (sym (line_is k.outline straight (parents_within is) c l))
      (all_both (field_trees k.notes (on_class (parent_of k.outline c) (line_of k.outline))) (programs.own_fields (note_members
      (slice_get k.notes c)))
      (above (parent_of k.outline c) refl (λ p e. of_line n p (parents_within is c p e) (ends_parent k.outline n c p h e)))
      (own (slice_get k.notes c) refl).0 (own (slice_get k.notes c) refl).1)
    where
      above : (o : Option ℕ) → parent_of k.outline c ≡ o →
          ((p : ℕ) → parent_of k.outline c ≡ Some p → AllDiffer (class_fields is p)) →
          AllDiffer (field_trees k.notes (on_class o (line_of k.outline)))
      above None e f = tt
      above (Some p) e f = f p e

      own : (o : Option Note) → slice_get k.notes c ≡ o → AllDiffer (programs.own_fields (note_members o)) ×
          Apart (field_trees k.notes (on_class (parent_of k.outline c) (line_of k.outline))) (programs.own_fields (note_members o))
      own None e = (tt, tt)
      own (Some n) e =
          let h = home k c n.item.members in
          let free = members_free k h n.first n.item.members (class_kept c n e) in (
            own_differ n.item.members [] (free_once k h n.item.members free),
            free_apart c (on_class (parent_of k.outline c) (line_of k.outline)) n.item.members n.item.members
                (above_is k.outline straight (parents_within is) c l) free,
          )

  pub fields_differ : (c : ℕ) → c < length k.outline → AllDiffer (class_fields is c)
  fields_differ c l = of_line (length k.outline) c l (all_end k.outline straight (parents_within is) c l)
