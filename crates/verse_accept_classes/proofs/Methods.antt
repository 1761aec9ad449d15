-- At each place of the methods of a class stands one that may stand for that of its parent.
use Rattle.std.proofs.Common.{◌≡◌, ℕ, zero, suc, ◌+◌, ◌<◌, Bool, true, false, cond, bytes_eq, List, [], ◌∷◌, ◌++◌, length}
use Rattle.std.proofs.Common.{Option, refl, sym, ap, ◌∙◌, subst, arith, inl, inr}
use Rattle.std.specs.Prelude.{Some, None, slice_get, not, ◌&&◌, ◌||◌, ◌⊎◌}
use Rattle.std.proofs.lemmas.Bool.{false_from_ne_true}
use Rattle.verse_tree.specs.Tree.{Bytes}
use Rattle.verse_tree.specs.ItemTree.{FunTree, MemberTree, field, method, ItemTree, using, enumeration, class, function}
use Rattle.verse_tree.specs.declared.tables.Ref.{Ref}
use Rattle.verse_tree.specs.declared.tables.Ref.TheVariants as ref
use Rattle.verse_rules_least.specs.Least.{Holds, other}
use Rattle.verse_rules_types.specs.Types.{Class}
use Rattle.verse_rules_types.specs.Fitting.{parent_of}
use Rattle.verse_names_tables.specs.Names.{Table, look, put, meanings, place}
use Rattle.verse_names_tables.specs.Words.{has}
use Rattle.verse_names_tables.specs.Counting.{counted, counts_after, no_counts, funs_after}
use Rattle.verse_names_tables.specs.declared.counting.Counts.{Counts}
use Rattle.verse_names_tables.specs.Notes.{Note, notes}
use Rattle.verse_names_declarations.specs.Known.{Known, known}
use Rattle.verse_names_declarations.specs.Lines.{on_class, line, line_of, ancestors, Members, with_member, with_members, with_note}
use Rattle.verse_names_declarations.specs.Lines.{with_notes}
use Rattle.verse_names_declarations.specs.Lines.{no_members, all_members, Home, home}
use Rattle.verse_names_items.specs.Rules.{override_word, misses_override, can_override_ref, rules_at}
use Rattle.verse_names_items.specs.Rules as rules
use Rattle.verse_names_items.specs.Nodes.{one, fun_declared, member_declared, members_declared, ItemsBreak}
use Rattle.verse_names_items.specs.Tables.{fun_number, fun_numbers, methods_of}
use Rattle.verse_accept_scopes.specs.Lists.{Each}
use Rattle.verse_accept_scopes.proofs.Rows.{each_first, each_rest}
use Rattle.verse_accept_classes.specs.Owners.{Owned, methods_owned, owned}
use Rattle.verse_accept_classes.specs.Inheriting.{Above, itself, further, Over, same, overrides}
use Rattle.verse_accept_classes.proofs.Places.{Placed, all_placed, first_placed}
use Rattle.verse_accept_classes.proofs.Circles.{Kept, holds_here, no_circle}
use Rattle.verse_accept_classes.proofs.Parents.{parents_within}
use Rattle.verse_accept_classes.proofs.Lines.{NoCircle}
use Rattle.verse_accept_classes.proofs.Ancestors.{line_is, above_is}
use Rattle.verse_accept_classes.proofs.Apart.{class_kept}

-- ---- the methods of a list of classes, whatever class they are for

abbrev put_methods : ℕ → List MemberTree → Table → Table
put_methods n [] t = t
put_methods n (field d ∷ ms) t = put_methods n ms t
put_methods n (method f ∷ ms) t = put_methods (n + 1) ms (put f.name (ref.Fun n) t)

abbrev on_note : Option Note → Table → Table
on_note None t = t
on_note (Some n) t = put_methods n.first n.item.members t

abbrev pub method_table : List Note → List ℕ → Table
method_table ns [] = []
method_table ns (d ∷ ds) = on_note (slice_get ns d) (method_table ns ds)

members_put : (c n : ℕ) (ms : List MemberTree) (m : Members) → (with_members c n ms m).methods ≡ put_methods n ms m.methods
members_put c n [] m = refl
members_put c n (field d ∷ ms) m = members_put c n ms (with_member c n (field d) m)
members_put c n (method f ∷ ms) m = members_put c (n + 1) ms (with_member c n (method f) m)

note_put : (c : ℕ) (o : Option Note) (m : Members) → (with_note c o m).methods ≡ on_note o m.methods
note_put c None m = refl
note_put c (Some n) m = members_put c n.first n.item.members m

pub methods_are : (c : ℕ) (ns : List Note) (ds : List ℕ) → (with_notes ns c ds no_members).methods ≡ method_table ns ds
methods_are c ns [] = refl
methods_are c ns (d ∷ ds) =
    note_put c (slice_get ns d) (with_notes ns c ds no_members) ∙ ap (on_note (slice_get ns d)) (methods_are c ns ds)

-- ---- methods and their classes

-- a class is one of several
abbrev Among : ℕ → List ℕ → Type 0
Among d [] = ⊥
Among d (e ∷ ds) = (d ≡ e) ⊎ Among d ds

module _ (all : List Owned) where
  -- a method of one of these classes
  pub record IsMethod (ds : List ℕ) (r : Ref) : Type 0 where
    pub number : ℕ
    pub is : r ≡ ref.Fun number
    pub class : ℕ
    pub tree : FunTree
    pub there : slice_get all number ≡ Some (record { class = Some class; tree = tree })
    pub among : Among class ds

  abbrev pub AllMethods : List ℕ → Table → Type 0
  AllMethods ds t = Each (λ (e : Bytes × Ref). IsMethod ds e.1) t

  more_classes : (d : ℕ) (ds : List ℕ) (t : Table) → AllMethods ds t → AllMethods (d ∷ ds) t
  more_classes d ds [] h = tt
  more_classes d ds (e ∷ t) h = (
    record { number = h.0.number; is = h.0.is; class = h.0.class; tree = h.0.tree; there = h.0.there; among = inr h.0.among },
    more_classes d ds t h.1,
  )

  put_method : (ds : List ℕ) (x : Bytes) (r : Ref) (t : Table) → IsMethod ds r → AllMethods ds t → AllMethods ds (put x r t)
  put_method ds x r [] m h = (m, tt)
  put_method ds x r (e ∷ t) m h = by (bytes_eq x e.0) (put_method ds x r t m h.1)
    where
      by : (b : Bool) → AllMethods ds (put x r t) → AllMethods ds (cond b ((e.0, r) ∷ t) (e ∷ put x r t))
      by true k = (m, h.1)
      by false k = (h.0, k)

  put_all : (d : ℕ) (ds : List ℕ) (n : ℕ) (ms : List MemberTree) (t : Table) → Placed all n (methods_owned d ms) → AllMethods (d ∷ ds) t →
      AllMethods (d ∷ ds) (put_methods n ms t)
  put_all d ds n [] t p h = h
  put_all d ds n (field x ∷ ms) t p h = put_all d ds n ms t p h
  put_all d ds n (method f ∷ ms) t p h =
      put_all d ds (n + 1) ms (put f.name (ref.Fun n) t) p.1
      (put_method (d ∷ ds) f.name (ref.Fun n) t
      (record { number = n; is = refl; class = d; tree = f; there = p.0; among = inl refl }) h)

  -- the methods of each class stand where its note says
  abbrev NotesPlaced : ℕ → List Note → Type 0
  NotesPlaced c [] = Unit {0}
  NotesPlaced c (n ∷ ns) = Placed all n.first (methods_owned c n.item.members) × NotesPlaced (c + 1) ns

  note_placed : (c d : ℕ) (ns : List Note) (n : Note) → NotesPlaced c ns → slice_get ns d ≡ Some n →
      Placed all n.first (methods_owned (c + d) n.item.members)
  note_placed c d [] n h e = cc
  note_placed c zero (m ∷ ns) n h e =
      let one : m ≡ n = cc in
      subst (λ (x : Note). Placed all x.first (methods_owned (c + 0) x.item.members)) one
      (subst (λ i. Placed all m.first (methods_owned i m.item.members)) (let at : c ≡ c + 0 = omega arith in at) h.0)
  note_placed c (suc d) (m ∷ ns) n h e =
      subst (λ i. Placed all n.first (methods_owned i n.item.members)) (let at : (c + 1) + d ≡ c + suc d = omega arith in at)
      (note_placed (c + 1) d ns n h.1 e)

  behind_methods : (c n : ℕ) (ms : List MemberTree) (os : List Owned) → Placed all n (methods_owned c ms ++ os) →
      Placed all (funs_after ms n) os
  behind_methods c n [] os h = h
  behind_methods c n (field d ∷ ms) os h = behind_methods c n ms os h
  behind_methods c n (method f ∷ ms) os h = behind_methods c (n + 1) ms os h.1

  notes_placed : (is : List ItemTree) (n : Counts) → Placed all n.funs (owned (counted n is)) → NotesPlaced n.classes (notes (counted n is))
  notes_placed [] n h = tt
  notes_placed (using u ∷ is) n h = notes_placed is (counts_after (using u) n) h
  notes_placed (enumeration e ∷ is) n h = notes_placed is (counts_after (enumeration e) n) h
  notes_placed (class c ∷ is) n h =
      let rest = owned (counted (counts_after (class c) n) is) in (
        first_placed all n.funs (methods_owned n.classes c.members) rest h,
        notes_placed is (counts_after (class c) n) (behind_methods n.classes n.funs c.members rest h),
      )
  notes_placed (function f ∷ is) n h = notes_placed is (counts_after (function f) n) h.1

  on_note_all : (ns : List Note) (d : ℕ) (ds : List ℕ) (o : Option Note) (t : Table) → NotesPlaced 0 ns → slice_get ns d ≡ o →
      AllMethods ds t →
      AllMethods (d ∷ ds) (on_note o t)
  on_note_all ns d ds None t p e h = more_classes d ds t h
  on_note_all ns d ds (Some n) t p e h =
      put_all d ds n.first n.item.members t
      (subst (λ i. Placed all n.first (methods_owned i n.item.members)) (let at : 0 + d ≡ d = omega arith in at) (note_placed 0 d ns n p e))
      (more_classes d ds t h)

  pub all_methods : (ns : List Note) (ds : List ℕ) → NotesPlaced 0 ns → AllMethods ds (method_table ns ds)
  all_methods ns [] p = tt
  all_methods ns (d ∷ ds) p = on_note_all ns d ds (slice_get ns d) (method_table ns ds) p refl (all_methods ns ds p)

-- ---- places

pub record At (ds : List ℕ) (all : List Owned) (t : Table) (m g : ℕ) : Type 0 where
  pub name : Bytes
  pub entry : slice_get t m ≡ Some (name, ref.Fun g)
  pub method : IsMethod all ds (ref.Fun g)

-- the number at a place, by the table
pub at_number : (all : List Owned) (ds : List ℕ) (t : Table) (m g : ℕ) → AllMethods all ds t →
    slice_get (fun_numbers (meanings t)) m ≡ Some g →
    At ds all t m g
at_number all ds [] m g h e = cc
at_number all ds (x ∷ t) m g h e =
    step m (ap (λ r. slice_get (fun_number r ++ fun_numbers (meanings t)) m) (sym h.0.is) ∙ e) (λ j q. at_number all ds t j g h.1 q)
  where
    step : (m : ℕ) → slice_get (h.0.number ∷ fun_numbers (meanings t)) m ≡ Some g →
        ((j : ℕ) → slice_get (fun_numbers (meanings t)) j ≡ Some g → At ds all t j g) → At ds all (x ∷ t) m g
    step zero q f =
        let one : h.0.number ≡ g = cc in
        let own : x.1 ≡ ref.Fun g = h.0.is ∙ ap ref.Fun one in
        record { name = x.0; entry = ap (λ r. Some (x.0, r)) own; method = subst (IsMethod all ds) own h.0 }
    step (suc j) q f = let a = f j q in record { name = a.name; entry = a.entry; method = a.method }

pub number_at : (all : List Owned) (ds : List ℕ) (t : Table) (m g : ℕ) (y : Bytes) → AllMethods all ds t →
    slice_get t m ≡ Some (y, ref.Fun g) →
    slice_get (fun_numbers (meanings t)) m ≡ Some g
number_at all ds [] m g y h e = cc
number_at all ds (x ∷ t) m g y h e =
    ap (λ r. slice_get (fun_number r ++ fun_numbers (meanings t)) m) h.0.is ∙ step m e (λ j q. number_at all ds t j g y h.1 q)
  where
    step : (m : ℕ) → slice_get (x ∷ t) m ≡ Some (y, ref.Fun g) →
        ((j : ℕ) → slice_get t j ≡ Some (y, ref.Fun g) → slice_get (fun_numbers (meanings t)) j ≡ Some g) →
        slice_get (h.0.number ∷ fun_numbers (meanings t)) m ≡ Some g
    step zero q f =
        let own : x ≡ (y, ref.Fun g) = cc in
        let one : ref.Fun h.0.number ≡ ref.Fun g = sym h.0.is ∙ ap (λ (e : Bytes × Ref). e.1) own in
        let number : h.0.number ≡ g = cc in
        ap Some number
    step (suc j) q f = f j q

-- ---- overriding

module _ (k : Known) where
  pub record Overs (r q : Ref) : Type 0 where
    pub old : ℕ
    pub new : ℕ
    pub was : r ≡ ref.Fun old
    pub is : q ≡ ref.Fun new
    pub over : Over k old new

  -- what may stand at each place, with what is added behind
  abbrev pub Stands : Table → Table → Type 0
  Stands [] ys = Unit {0}
  Stands (e ∷ xs) [] = ⊥
  Stands (e ∷ xs) (d ∷ ys) = (e.0 ≡ d.0) × Overs e.1 d.1 × Stands xs ys

  stands_itself : (all : List Owned) (ds : List ℕ) (t : Table) → AllMethods all ds t → Stands t t
  stands_itself all ds [] h = tt
  stands_itself all ds (e ∷ t) h =
      (refl, record { old = h.0.number; new = h.0.number; was = h.0.is; is = h.0.is; over = same }, stands_itself all ds t h.1)

  put_there : (x : Bytes) (n : ℕ) (e d : Bytes × Ref) (xs ys : Table) (b : Bool) → bytes_eq x d.0 ≡ b → e.0 ≡ d.0 → Overs e.1 d.1 →
      Stands xs ys →
      ((g : ℕ) → look x (e ∷ xs) ≡ Some (ref.Fun g) → Over k g n) → (((g : ℕ) → look x xs ≡ Some (ref.Fun g) → Over k g n) →
      Stands xs (put x (ref.Fun n) ys)) →
      Stands (e ∷ xs) (cond b ((d.0, ref.Fun n) ∷ ys) (d ∷ put x (ref.Fun n) ys))
  put_there x n e d xs ys true h m o s f go = (
    m,
    record {
      old = o.old;
      new = n;
      was = o.was;
      is = refl;
      over = f o.old
          (ap (λ z. cond (bytes_eq x z) (Some e.1) (look x xs)) m ∙ ap (λ b. cond b (Some e.1) (look x xs)) h ∙ ap Some o.was);
    },
    s,
  )
  put_there x n e d xs ys false h m o s f go =
      (m, o, go (λ g q. f g (ap (λ z. cond (bytes_eq x z) (Some e.1) (look x xs)) m ∙ ap (λ b. cond b (Some e.1) (look x xs)) h ∙ q)))

  put_stands : (x : Bytes) (n : ℕ) (xs ys : Table) → Stands xs ys → ((g : ℕ) → look x xs ≡ Some (ref.Fun g) → Over k g n) →
      Stands xs (put x (ref.Fun n) ys)
  put_stands x n [] ys s f = tt
  put_stands x n (e ∷ xs) [] s f = absurd s
  put_stands x n (e ∷ xs) (d ∷ ys) s f =
      put_there x n e d xs ys (bytes_eq x d.0) refl s.0 s.1 s.2 f (λ g. put_stands x n xs ys s.2 g)

  -- each method may stand for the one of its name above
  abbrev AllOver : Table → ℕ → List MemberTree → Type 0
  AllOver xs n [] = Unit {0}
  AllOver xs n (field d ∷ ms) = AllOver xs n ms
  AllOver xs n (method f ∷ ms) = ((g : ℕ) → look f.name xs ≡ Some (ref.Fun g) → Over k g n) × AllOver xs (n + 1) ms

  members_stand : (n : ℕ) (ms : List MemberTree) (xs ys : Table) → Stands xs ys → AllOver xs n ms → Stands xs (put_methods n ms ys)
  members_stand n [] xs ys s f = s
  members_stand n (field d ∷ ms) xs ys s f = members_stand n ms xs ys s f
  members_stand n (method d ∷ ms) xs ys s f = members_stand (n + 1) ms xs (put d.name (ref.Fun n) ys) (put_stands d.name n xs ys s f.0) f.1

  -- ---- what the rules leave

  or_false : (a b : Bool) → (a || b) ≡ false → b ≡ false
  or_false true b h = cc
  or_false false b h = h

  both_true : (a b : Bool) → not (a && b) ≡ false → b ≡ true
  both_true true true h = refl
  both_true true false h = cc
  both_true false b h = cc

  over_found : (marked : Bool) (n g : ℕ) (o : Option Ref) → misses_override k marked n o ≡ false → o ≡ Some (ref.Fun g) → Over k g n
  over_found marked n g None h e = cc
  over_found marked n g (Some r) h e =
      let one : r ≡ ref.Fun g = cc in
      let fits : can_override_ref k n r ≡ true = both_true marked (can_override_ref k n r) h in
      overrides same (ap (can_override_ref k n) (sym one) ∙ fits)

  method_over : (h : Home) (n : ℕ) (f : FunTree) → ((c : ℕ) → Holds (rules_at k (rules.method h n f)) c → ⊥) → (g : ℕ) →
      look f.name h.above.methods ≡ Some (ref.Fun g) → Over k g n
  method_over h n f quiet g e =
      let kept : (has override_word f.effects || misses_override k (has override_word f.specs) n (look f.name h.above.methods)) ≡ false =
      false_from_ne_true _ (λ q. quiet 45 (other (other (other (other (other (holds_here q))))))) in
      over_found (has override_word f.specs) n g (look f.name h.above.methods) (or_false (has override_word f.effects) _ kept) e

  members_over : (h : Home) (xs : Table) (n : ℕ) (ms : List MemberTree) → h.above.methods ≡ xs →
      Each (Kept k) (members_declared h n ms) → AllOver xs n ms
  members_over h xs n [] e q = tt
  members_over h xs n (field d ∷ ms) e q =
      members_over h xs n ms e (each_rest (Kept k) (member_declared h n (field d)) (members_declared h n ms) q)
  members_over h xs n (method f ∷ ms) e q =
      let own = member_declared h n (method f) in
      let others = members_declared h (n + 1) ms in
      let at = each_rest (Kept k) (fun_declared f) (one f.number f.place (rules.method h n f)) (each_first (Kept k) own others q) in (
        (λ g l. method_over h n f at.0 g (ap (look f.name) e ∙ l)),
        members_over h xs (n + 1) ms e (each_rest (Kept k) own others q),
      )

  pub over_on : (a b c : ℕ) → Over k a b → Over k b c → Over k a c
  over_on a b c h same = h
  over_on a b c h (overrides g f) = overrides (over_on a b _ h g) f

-- ---- a program

module _ (is : List ItemTree) (quiet : (n c : ℕ) → ItemsBreak is n c → ⊥) where
  abbrev k : Known
  k = known is

  abbrev all : List Owned
  all = owned k.items

  straight : NoCircle k.outline
  straight = no_circle is quiet

  abbrev pub class_methods : ℕ → Table
  class_methods c = method_table k.notes (line_of k.outline c)

  pub members_are : (c : ℕ) → (all_members k c).methods ≡ class_methods c
  members_are c = methods_are c k.notes (line_of k.outline c)

  pub methods_there : (c : ℕ) → AllMethods all (line_of k.outline c) (class_methods c)
  methods_there c = all_methods all k.notes (line_of k.outline c) (notes_placed all is no_counts (all_placed all))

  -- a class against its parent
  pub parent_stands : (c p : ℕ) → c < length k.outline → parent_of k.outline c ≡ Some p → Stands k (class_methods p) (class_methods c)
  parent_stands c p l e =
      let line = line_is k.outline straight (parents_within is) c l ∙ ap (λ o. c ∷ on_class o (line_of k.outline)) e in
      subst (λ ds. Stands k (class_methods p) (method_table k.notes ds)) (sym line) (by (slice_get k.notes c) refl)
    where
      by : (o : Option Note) → slice_get k.notes c ≡ o → Stands k (class_methods p) (on_note o (class_methods p))
      by None q = stands_itself k all (line_of k.outline p) (class_methods p) (methods_there p)
      by (Some n) q =
          let h = home k c n.item.members in
          let above : h.above.methods ≡ class_methods p =
          methods_are c k.notes (ancestors k.outline c)
          ∙ ap (method_table k.notes) (above_is k.outline straight (parents_within is) c l ∙ ap (λ o. on_class o (line_of k.outline)) e) in
          members_stand k n.first n.item.members (class_methods p) (class_methods p)
          (stands_itself k all (line_of k.outline p) (class_methods p) (methods_there p))
          (members_over k h (class_methods p) n.first n.item.members above (class_kept is quiet c n q))

  stands_at : (xs ys : Table) (m : ℕ) (x : Bytes) (g : ℕ) → Stands k xs ys → slice_get xs m ≡ Some (x, ref.Fun g) →
      (n : ℕ) × (slice_get ys m ≡ Some (x, ref.Fun n)) × Over k g n
  stands_at [] ys m x g s e = cc
  stands_at (a ∷ xs) [] m x g s e = absurd s
  stands_at (a ∷ xs) (b ∷ ys) zero x g s e =
      let one : a ≡ (x, ref.Fun g) = cc in
      let o = s.1 in
      let name : b.0 ≡ x = sym s.0 ∙ ap (λ (e : Bytes × Ref). e.0) one in
      let was : ref.Fun o.old ≡ ref.Fun g = sym o.was ∙ ap (λ (e : Bytes × Ref). e.1) one in
      let number : o.old ≡ g = cc in
      (o.new, ap (λ z. Some (z, b.1)) name ∙ ap (λ r. Some (x, r)) o.is, subst (λ j. Over k j o.new) number o.over)
  stands_at (a ∷ xs) (b ∷ ys) (suc m) x g s e = stands_at xs ys m x g s.2 e

  -- the number of the method at a place of a class
  abbrev pub method_of : ℕ → ℕ → Option ℕ
  method_of c m = slice_get (methods_of k c) m

  numbers_are : (c : ℕ) → methods_of k c ≡ fun_numbers (meanings (class_methods c))
  numbers_are c = ap (λ t. fun_numbers (meanings t)) (members_are c)

  pub method_at : (c m g : ℕ) → method_of c m ≡ Some g → At (line_of k.outline c) all (class_methods c) m g
  method_at c m g e =
      at_number all (line_of k.outline c) (class_methods c) m g (methods_there c) (ap (λ l. slice_get l m) (sym (numbers_are c)) ∙ e)

  pub method_below : (c p m g : ℕ) → c < length k.outline → parent_of k.outline c ≡ Some p → method_of p m ≡ Some g →
      (n : ℕ) × (method_of c m ≡ Some n) × Over k g n
  method_below c p m g l e h =
      let a = method_at p m g h in
      let s = stands_at (class_methods p) (class_methods c) m a.name g (parent_stands c p l e) a.entry in (
        s.0,
        ap (λ l. slice_get l m) (numbers_are c)
            ∙ number_at all (line_of k.outline c) (class_methods c) m s.0 a.name (methods_there c) s.1,
        s.2,
      )

among_above : (os : List Class) (n c d : ℕ) → Among d (line os n c) → Above os c d
among_above os zero c d h = absurd h
among_above os (suc n) c d (inl e) = subst (Above os c) (sym e) itself
among_above os (suc n) c d (inr h) = by (parent_of os c) refl h (λ p q. among_above os n p d q)
  where
    by : (o : Option ℕ) → parent_of os c ≡ o → Among d (on_class o (line os n)) → ((p : ℕ) → Among d (line os n p) → Above os p d) →
        Above os c d
    by None e h f = absurd h
    by (Some p) e h f = further e (f p h)

-- its class is the class itself or one above it
pub owner_above : (os : List Class) (owners : List Owned) (c : ℕ) (r : Ref) → (m : IsMethod owners (line_of os c) r) → Above os c m.class
owner_above os owners c r m = among_above os (length os) c m.class m.among
