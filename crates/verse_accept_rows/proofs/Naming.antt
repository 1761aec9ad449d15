-- What names stand for is numbered below them.
use Rattle.std.proofs.Common.{ℕ, ◌+◌, Bool, true, false, cond, List, [], ◌∷◌, Option, Some, None}
use Rattle.std.specs.Str.{bytes_eq}
use Rattle.std.specs.Prelude.{slice_get}
use Rattle.verse_tree.specs.Tree.{Bytes}
use Rattle.verse_tree.specs.ItemTree.{MemberTree, field, method, ItemTree, using, enumeration, class, function}
use Rattle.verse_tree.specs.declared.tables.Ref.{Ref}
use Rattle.verse_tree.specs.declared.tables.Ref.TheVariants as ref
use Rattle.verse_names_tables.specs.Names.{Table, look, put, put_absent, keep, keep_named, names}
use Rattle.verse_names_tables.specs.Words.{builtins}
use Rattle.verse_names_tables.specs.Counting.{Counted, counted, named_as, named_type_as, fun_after, no_counts}
use Rattle.verse_names_tables.specs.declared.counting.Counts.{Counts}
use Rattle.verse_names_tables.specs.Notes.{Note}
use Rattle.verse_names_tables.specs.Indexing.{Index, indexed, index_all, no_index}
use Rattle.verse_names_declarations.specs.Known.{Known, known}
use Rattle.verse_names_declarations.specs.Lines.{Members, with_member, with_members, with_note, with_notes, no_members, line_of}
use Rattle.verse_names_declarations.specs.Lines.{all_members}
use Rattle.verse_names_scopes.specs.Visible.{World, with_methods, bare_members, inside, outside, either, visible}
use Rattle.verse_names_scopes.specs.Subjects.{Subject, quiet, type_name, this, used, instance, defined, both_defined, refers, this_ref}
use Rattle.verse_accept_scopes.specs.Lists.{Each}
use Rattle.verse_accept_scopes.specs.Laws.{LocalBelow}
use Rattle.verse_accept_rows.specs.Agreeing.{RefBelow, LowRef}

-- the name stands for no local name
abbrev pub IsWide : Ref → Type 0
IsWide (ref.Local n) = ⊥
IsWide (ref.Key n) = ⊥
IsWide r = Unit {0}

abbrev pub Wide : Table → Type 0
Wide t = Each (λ (e : Bytes × Ref). IsWide e.1) t

abbrev WideOr : Option Ref → Type 0
WideOr None = Unit {0}
WideOr (Some r) = IsWide r

look_wide_at : (v : Bool) (r : Ref) (o : Option Ref) → IsWide r → WideOr o → WideOr (cond v (Some r) o)
look_wide_at true r o h g = h
look_wide_at false r o h g = g

look_wide : (x : Bytes) (t : Table) → Wide t → WideOr (look x t)
look_wide x [] h = tt
look_wide x (e ∷ es) h = look_wide_at (bytes_eq x e.0) e.1 (look x es) h.0 (look_wide x es h.1)

put_wide_at : (v : Bool) (x y : Bytes) (r q : Ref) (t u : Table) → IsWide r → IsWide q → Wide t → Wide u →
    Wide (cond v ((x, r) ∷ t) ((y, q) ∷ u))
put_wide_at true x y r q t u h g k m = (h, k)
put_wide_at false x y r q t u h g k m = (g, m)

put_wide : (x : Bytes) (r : Ref) (t : Table) → IsWide r → Wide t → Wide (put x r t)
put_wide x r [] h g = (h, tt)
put_wide x r (e ∷ es) h g = put_wide_at (bytes_eq x e.0) e.0 e.0 r e.1 es (put x r es) h g.0 g.1 (put_wide x r es h g.1)

put_absent_wide : (o : Option Ref) (x : Bytes) (r : Ref) (t : Table) → IsWide r → Wide t → Wide (put_absent o x r t)
put_absent_wide None x r t h g = put_wide x r t h g
put_absent_wide (Some q) x r t h g = g

keep_wide : (x : Bytes) (r : Ref) (t : Table) → IsWide r → Wide t → Wide (keep x r t)
keep_wide x r t h g = put_absent_wide (look x t) x r t h g

-- ---- the members of a class

with_member_wide : (c n : ℕ) (d : MemberTree) (m : Members) → Wide m.fields → Wide (with_member c n d m).fields
with_member_wide c n (field d) m h = keep_wide d.name (ref.Field c m.count) m.fields tt h
with_member_wide c n (method f) m h = h

with_members_wide : (c n : ℕ) (ds : List MemberTree) (m : Members) → Wide m.fields → Wide (with_members c n ds m).fields
with_members_wide c n [] m h = h
with_members_wide c n (d ∷ ds) m h = with_members_wide c (fun_after d n) ds (with_member c n d m) (with_member_wide c n d m h)

with_note_wide : (c : ℕ) (o : Option Note) (m : Members) → Wide m.fields → Wide (with_note c o m).fields
with_note_wide c None m h = h
with_note_wide c (Some n) m h = with_members_wide c n.first n.item.members m h

with_notes_wide : (ns : List Note) (c : ℕ) (ds : List ℕ) (m : Members) → Wide m.fields → Wide (with_notes ns c ds m).fields
with_notes_wide ns c [] m h = h
with_notes_wide ns c (d ∷ ds) m h = with_note_wide c (slice_get ns d) (with_notes ns c ds m) (with_notes_wide ns c ds m h)

with_methods_wide : (c i : ℕ) (xs : List Bytes) (t : Table) → Wide t → Wide (with_methods c i xs t)
with_methods_wide c i [] t h = h
with_methods_wide c i (x ∷ xs) t h = with_methods_wide c (i + 1) xs (keep x (ref.Method c i) t) (keep_wide x (ref.Method c i) t tt h)

members_wide : (k : Known) (c : ℕ) → Wide (bare_members k c)
members_wide k c =
    with_methods_wide c 0 (names (all_members k c).methods) (all_members k c).fields
    (with_notes_wide k.notes c (line_of k.outline c) no_members tt)

builtins_wide : Wide builtins
builtins_wide = (tt, (tt, (tt, (tt, tt))))

-- ---- items

named_wide : (i : ItemTree) (c : Counts) (t : Table) → Wide t → Wide (keep_named (named_as i c) t)
named_wide (using u) c t h = h
named_wide (enumeration e) c t h = keep_wide e.name (ref.Enum c.enums) t tt h
named_wide (class d) c t h = keep_wide d.name (ref.Class c.classes) t tt h
named_wide (function f) c t h = keep_wide f.name (ref.Fun c.funs) t tt h

typed_wide : (i : ItemTree) (c : Counts) (t : Table) → Wide t → Wide (keep_named (named_type_as i c) t)
typed_wide (using u) c t h = h
typed_wide (enumeration e) c t h = keep_wide e.name (ref.Enum c.enums) t tt h
typed_wide (class d) c t h = keep_wide d.name (ref.Class c.classes) t tt h
typed_wide (function f) c t h = h

items_wide : (is : List Counted) (x : Index) → Wide x.items → Wide (index_all is x).items
items_wide [] x h = h
items_wide (i ∷ is) x h = items_wide is (indexed i x) (named_wide i.item i.before x.items h)

types_wide : (is : List Counted) (x : Index) → Wide x.types → Wide (index_all is x).types
types_wide [] x h = h
types_wide (i ∷ is) x h = types_wide is (indexed i x) (typed_wide i.item i.before x.types h)

-- ---- worlds

pub record WideWorld (w : World) : Type 0 where
  pub items : Wide w.items
  pub types : Wide w.types
  pub members : Wide w.members

pub outside_wide : (is : List ItemTree) → WideWorld (outside (known is))
outside_wide is = record {
  items = items_wide (counted no_counts is) no_index tt;
  types = types_wide (counted no_counts is) no_index tt;
  members = tt;
}

pub inside_wide : (is : List ItemTree) (c : ℕ) → WideWorld (inside (known is) c)
inside_wide is c = record {
  items = items_wide (counted no_counts is) no_index tt;
  types = types_wide (counted no_counts is) no_index tt;
  members = members_wide (known is) c;
}

wide_low : (n : ℕ) (o : Option Ref) → WideOr o → LowRef n o
wide_low n None h = tt
wide_low n (Some (ref.Local m)) h = absurd h
wide_low n (Some (ref.Key m)) h = absurd h
wide_low n (Some r) h = tt

look_low_at : (n : ℕ) (v : Bool) (r : Ref) (o : Option Ref) → RefBelow n r → LowRef n o → LowRef n (cond v (Some r) o)
look_low_at n true r o h g = h
look_low_at n false r o h g = g

local_low : (n : ℕ) (r : Ref) → LocalBelow n r → RefBelow n r
local_low n (ref.Local m) h = h
local_low n (ref.Key m) h = h
local_low n r h = tt

look_low : (n : ℕ) (x : Bytes) (t : Table) → Each (λ (e : Bytes × Ref). LocalBelow n e.1) t → LowRef n (look x t)
look_low n x [] h = tt
look_low n x (e ∷ es) h = look_low_at n (bytes_eq x e.0) e.1 (look x es) (local_low n e.1 h.0) (look_low n x es h.1)

either_low : (n : ℕ) (o q : Option Ref) → LowRef n o → LowRef n q → LowRef n (either o q)
either_low n None q h g = g
either_low n (Some r) q h g = h

module _ (n : ℕ) (w : World) (s : Table) (h : WideWorld w) (low : Each (λ (e : Bytes × Ref). LocalBelow n e.1) s) where
  visible_low : (x : Bytes) → LowRef n (visible w s x)
  visible_low x =
      either_low n (look x s) _ (look_low n x s low)
      (either_low n (look x w.members) _ (wide_low n (look x w.members) (look_wide x w.members h.members))
      (either_low n (look x w.items) (look x builtins) (wide_low n (look x w.items) (look_wide x w.items h.items))
      (wide_low n (look x builtins) (look_wide x builtins builtins_wide))))

  this_low : (o : Option ℕ) → LowRef n (this_ref o)
  this_low None = tt
  this_low (Some c) = tt

  pub refers_low : (u : Subject) → LowRef n (refers w s u)
  refers_low quiet = tt
  refers_low (type_name b x) = wide_low n (look x w.types) (look_wide x w.types h.types)
  refers_low this = this_low w.class
  refers_low (used x) = visible_low x
  refers_low (instance x gs) = visible_low x
  refers_low (defined x r) = tt
  refers_low (both_defined x r y q) = tt
