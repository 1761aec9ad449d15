-- What the nodes of a program refer to as functions and classes are functions and classes of its items.
use Rattle.std.proofs.Common.{ℕ, ◌+◌, List, [], ◌∷◌, ◌++◌, map}
use Rattle.std.specs.Prelude.{Option, Some, None, slice_get}
use Rattle.verse_base.specs.declared.places.Place.{Place}
use Rattle.verse_tree.specs.Tree.{Bytes}
use Rattle.verse_tree.specs.ItemTree.{MemberTree, field, method, ItemTree}
use Rattle.verse_tree.specs.declared.tables.Ref.{Ref}
use Rattle.verse_tree.specs.declared.tables.Ref.TheVariants as ref
use Rattle.verse_names_tables.specs.Names.{Table, look, names}
use Rattle.verse_names_tables.specs.Words.{builtins}
use Rattle.verse_names_tables.specs.Counting.{fun_after}
use Rattle.verse_names_tables.specs.Notes.{Note}
use Rattle.verse_names_declarations.specs.Known.{known}
use Rattle.verse_names_declarations.specs.Lines.{Members, with_member, with_members, with_note, with_notes, no_members, all_members}
use Rattle.verse_names_declarations.specs.Lines.{line_of}
use Rattle.verse_names_scopes.specs.Visible.{World, with_methods, inside, outside, either, visible, with_name, with_local}
use Rattle.verse_names_scopes.specs.Subjects.{Subject, quiet, type_name, this, used, instance, defined, both_defined, this_ref, refers}
use Rattle.verse_names_scopes.specs.Subjects.{locals_behind}
use Rattle.verse_names_scopes.specs.Visits.{Visit, Seen, ref_of, visit, leave, nothing_seen, program_visits}
use Rattle.lower_bounds.proofs.Lists.{Each}
use Rattle.verse_accept_tables.proofs.Standing.{Stands, AllStand, look_stands, keep_stands, IsThere, items_stand, types_stand}
use Rattle.verse_accept_tables.proofs.Standing.{builtins_stand}
use Rattle.verse_accept_tables.proofs.Passing.{Gives, of_program}

-- ---- the names of members

module _ (all : List ItemTree) where
  abbrev There : Table → Type 0
  There t = AllStand (IsThere all) t

  member_there : (c n : ℕ) (d : MemberTree) (m : Members) → There m.fields → There (with_member c n d m).fields
  member_there c n (field d) m h = keep_stands (IsThere all) d.name (ref.Field c m.count) m.fields tt h
  member_there c n (method f) m h = h

  members_there : (c n : ℕ) (ds : List MemberTree) (m : Members) → There m.fields → There (with_members c n ds m).fields
  members_there c n [] m h = h
  members_there c n (d ∷ ds) m h = members_there c (fun_after d n) ds (with_member c n d m) (member_there c n d m h)

  note_there : (c : ℕ) (n : Option Note) (m : Members) → There m.fields → There (with_note c n m).fields
  note_there c None m h = h
  note_there c (Some n) m h = members_there c n.first n.item.members m h

  fields_there : (ns : List Note) (c : ℕ) (ds : List ℕ) → There (with_notes ns c ds no_members).fields
  fields_there ns c [] = tt
  fields_there ns c (d ∷ ds) = note_there c (slice_get ns d) (with_notes ns c ds no_members) (fields_there ns c ds)

  methods_there : (c i : ℕ) (xs : List Bytes) (t : Table) → There t → There (with_methods c i xs t)
  methods_there c i [] t h = h
  methods_there c i (x ∷ xs) t h = methods_there c (i + 1) xs _ (keep_stands (IsThere all) x (ref.Method c i) t tt h)

  -- ---- worlds

  record Holds (w : World) : Type 0 where
    items : There w.items
    types : There w.types
    members : There w.members
    class : Stands (IsThere all) (this_ref w.class)

  either_there : (o p : Option Ref) → Stands (IsThere all) o → Stands (IsThere all) p → Stands (IsThere all) (either o p)
  either_there None p h k = k
  either_there (Some r) p h k = h

  visible_there : (w : World) (s : Table) (x : Bytes) → Holds w → There s → Stands (IsThere all) (visible w s x)
  visible_there w s x h k =
      either_there (look x s) _ (look_stands (IsThere all) x s k)
      (either_there (look x w.members) _ (look_stands (IsThere all) x w.members h.members)
      (either_there (look x w.items) _ (look_stands (IsThere all) x w.items h.items)
      (look_stands (IsThere all) x builtins (builtins_stand all))))

  refers_there : (w : World) (s : Table) (u : Subject) → Holds w → There s → Stands (IsThere all) (refers w s u)
  refers_there w s quiet h k = tt
  refers_there w s (type_name b x) h k = look_stands (IsThere all) x w.types h.types
  refers_there w s this h k = h.class
  refers_there w s (used x) h k = visible_there w s x h k
  refers_there w s (instance x gs) h k = visible_there w s x h k
  refers_there w s (defined x r) h k = tt
  refers_there w s (both_defined x r y q) h k = tt

  last_there : (s : Table) (x : Bytes) (r : Ref) → IsThere all r → There s → There (s ++ (x, r) ∷ [])
  last_there [] x r p h = (p, tt)
  last_there (e ∷ s) x r p h = (h.0, last_there s x r p h.1)

  name_there : (x : Bytes) (r : Ref) (o : Option Ref) (s : Table) → IsThere all r → There s → There (with_name x r o s)
  name_there x r None s p h = last_there s x r p h
  name_there x r (Some q) s p h = h

  locals_there : (w : World) (u : Subject) (s : Table) → Gives all u → There s → There (locals_behind w u s)
  locals_there w quiet s g h = h
  locals_there w (type_name b x) s g h = h
  locals_there w this s g h = h
  locals_there w (used x) s g h = h
  locals_there w (instance x gs) s g h = h
  locals_there w (defined x r) s g h = name_there x r (visible w s x) s g h
  locals_there w (both_defined x r y q) s g h =
      let one = with_local w x r s in
      name_there y q (visible w one y) one g.1 (name_there x r (visible w s x) s g.0 h)

  -- ---- visits

  abbrev AreThere : List Visit → Type 0
  AreThere vs = Each (λ (v : Visit). Stands (IsThere all) (ref_of v)) vs

  record Fine (s : Seen) : Type 0 where
    locals : There s.locals
    visits : AreThere s.visits

  one_more : (vs : List Visit) (v : Visit) → AreThere vs → Stands (IsThere all) (ref_of v) → AreThere (vs ++ v ∷ [])
  one_more [] v h k = (k, tt)
  one_more (w ∷ vs) v h k = (h.0, one_more vs v h.1 k)

  visit_fine : (w : World) (n : ℕ) (p : Place) (u : Subject) (s : Seen) → Holds w → Gives all u → Fine s → Fine (visit w n p u s)
  visit_fine w n p u s h g f = record {
    locals = locals_there w u s.locals g f.locals;
    visits = one_more s.visits _ f.visits (refers_there w s.locals u h f.locals);
  }

  leave_fine : (old s : Seen) → Fine old → Fine s → Fine (leave old s)
  leave_fine old s f g = record { locals = f.locals; visits = g.visits }

outside_holds : (is : List ItemTree) → Holds is (outside (known is))
outside_holds is = record { items = items_stand is; types = types_stand is; members = tt; class = tt }

inside_holds : (is : List ItemTree) (c : ℕ) → IsThere is (ref.Class c) → Holds is (inside (known is) c)
inside_holds is c h =
    let k = known is in
    record {
      items = items_stand is;
      types = types_stand is;
      members = methods_there is c 0 (names (all_members k c).methods) (all_members k c).fields
          (fields_there is k.notes c (line_of k.outline c));
      class = h;
    }

visits_fine : (is : List ItemTree) → AreThere is (program_visits is)
visits_fine is =
    (of_program is visit leave (Fine is) (Holds is) (visit_fine is) (leave_fine is) (outside_holds is) (inside_holds is) nothing_seen
    (record { locals = tt; visits = tt })).visits

refs_of : (all : List ItemTree) (vs : List Visit) → AreThere all vs → Each (λ (o : Option Ref). Stands (IsThere all) o) (map ref_of vs)
refs_of all [] h = tt
refs_of all (v ∷ vs) h = (h.0, refs_of all vs h.1)

-- what nodes refer to by bare names
pub named_there : (is : List ItemTree) → Each (λ (o : Option Ref). Stands (IsThere is) o) (map ref_of (program_visits is))
named_there is = refs_of is (program_visits is) (visits_fine is)
