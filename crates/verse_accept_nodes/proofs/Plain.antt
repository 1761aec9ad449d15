-- Names of which none stands for an enum: local names, members and builtins.
use Rattle.std.proofs.Common.{ℕ, ◌+◌, Bool, true, false, cond, List, [], ◌∷◌, Option, Some, None}
use Rattle.std.specs.Str.{bytes_eq}
use Rattle.std.specs.Prelude.{slice_get}
use Rattle.verse_tree.specs.Tree.{Bytes}
use Rattle.verse_tree.specs.ItemTree.{MemberTree, field, method}
use Rattle.verse_tree.specs.declared.tables.Ref.{Ref}
use Rattle.verse_tree.specs.declared.tables.Ref.TheVariants as ref
use Rattle.verse_names_tables.specs.Names.{Table, look, put, put_absent, keep, names}
use Rattle.verse_names_tables.specs.Words.{builtins}
use Rattle.verse_names_tables.specs.Counting.{fun_after}
use Rattle.verse_names_tables.specs.Notes.{Note}
use Rattle.verse_names_declarations.specs.Known.{Known}
use Rattle.verse_names_declarations.specs.Lines.{Members, with_member, with_members, with_note, with_notes, no_members, line_of}
use Rattle.verse_names_declarations.specs.Lines.{all_members}
use Rattle.verse_names_scopes.specs.Visible.{with_methods, bare_members}
use Rattle.lower_bounds.proofs.Lists.{Each}

abbrev pub IsNoEnum : Ref → Type 0
IsNoEnum (ref.Enum e) = ⊥
IsNoEnum r = Unit {0}

abbrev pub NoneIsEnum : Option Ref → Type 0
NoneIsEnum None = Unit {0}
NoneIsEnum (Some r) = IsNoEnum r

abbrev pub Plain : Table → Type 0
Plain t = Each (λ (e : Bytes × Ref). IsNoEnum e.1) t

look_plain_at : (v : Bool) (r : Ref) (o : Option Ref) → IsNoEnum r → NoneIsEnum o → NoneIsEnum (cond v (Some r) o)
look_plain_at true r o h g = h
look_plain_at false r o h g = g

pub look_plain : (x : Bytes) (t : Table) → Plain t → NoneIsEnum (look x t)
look_plain x [] h = tt
look_plain x (e ∷ es) h = look_plain_at (bytes_eq x e.0) e.1 (look x es) h.0 (look_plain x es h.1)

put_plain_at : (v : Bool) (x y : Bytes) (r q : Ref) (t u : Table) → IsNoEnum r → IsNoEnum q → Plain t → Plain u →
    Plain (cond v ((x, r) ∷ t) ((y, q) ∷ u))
put_plain_at true x y r q t u h g k m = (h, k)
put_plain_at false x y r q t u h g k m = (g, m)

put_plain : (x : Bytes) (r : Ref) (t : Table) → IsNoEnum r → Plain t → Plain (put x r t)
put_plain x r [] h g = (h, tt)
put_plain x r (e ∷ es) h g =
    put_plain_at (bytes_eq x e.0) e.0 e.0 r e.1 es (put x r es) h g.0 g.1 (put_plain x r es h g.1)

put_absent_plain : (o : Option Ref) (x : Bytes) (r : Ref) (t : Table) → IsNoEnum r → Plain t → Plain (put_absent o x r t)
put_absent_plain None x r t h g = put_plain x r t h g
put_absent_plain (Some q) x r t h g = g

keep_plain : (x : Bytes) (r : Ref) (t : Table) → IsNoEnum r → Plain t → Plain (keep x r t)
keep_plain x r t h g = put_absent_plain (look x t) x r t h g

-- ---- the members of a class

with_member_plain : (c n : ℕ) (d : MemberTree) (m : Members) → Plain m.fields → Plain (with_member c n d m).fields
with_member_plain c n (field d) m h = keep_plain d.name (ref.Field c m.count) m.fields tt h
with_member_plain c n (method f) m h = h

with_members_plain : (c n : ℕ) (ds : List MemberTree) (m : Members) → Plain m.fields → Plain (with_members c n ds m).fields
with_members_plain c n [] m h = h
with_members_plain c n (d ∷ ds) m h = with_members_plain c (fun_after d n) ds (with_member c n d m) (with_member_plain c n d m h)

with_note_plain : (c : ℕ) (o : Option Note) (m : Members) → Plain m.fields → Plain (with_note c o m).fields
with_note_plain c None m h = h
with_note_plain c (Some n) m h = with_members_plain c n.first n.item.members m h

with_notes_plain : (ns : List Note) (c : ℕ) (ds : List ℕ) (m : Members) → Plain m.fields → Plain (with_notes ns c ds m).fields
with_notes_plain ns c [] m h = h
with_notes_plain ns c (d ∷ ds) m h = with_note_plain c (slice_get ns d) (with_notes ns c ds m) (with_notes_plain ns c ds m h)

with_methods_plain : (c i : ℕ) (xs : List Bytes) (t : Table) → Plain t → Plain (with_methods c i xs t)
with_methods_plain c i [] t h = h
with_methods_plain c i (x ∷ xs) t h =
    with_methods_plain c (i + 1) xs (keep x (ref.Method c i) t) (keep_plain x (ref.Method c i) t tt h)

pub members_plain : (k : Known) (c : ℕ) → Plain (bare_members k c)
members_plain k c =
    with_methods_plain c 0 (names (all_members k c).methods) (all_members k c).fields
    (with_notes_plain k.notes c (line_of k.outline c) no_members tt)

pub builtins_plain : Plain builtins
builtins_plain = (tt, (tt, (tt, (tt, tt))))
