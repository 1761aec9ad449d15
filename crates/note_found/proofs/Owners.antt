-- The classes of methods, by the numbers of functions.
use Rattle.std.proofs.Common.{◌≡◌, ℕ, zero, suc, List, [], ◌∷◌, ◌++◌, map, Option, Some, None, refl, sym, ap, ◌∙◌}
use Rattle.std.specs.Prelude.{slice_get}
use Rattle.std.proofs.lemmas.List.{map-append}
use Rattle.verse_tree.specs.ItemTree.{MemberTree, field, method, ItemTree, using, enumeration, class, function}
use Rattle.verse_names_tables.specs.Counting.{counted, counts_after, no_counts}
use Rattle.verse_names_tables.specs.declared.counting.Counts.{Counts}
use Rattle.verse_accept_classes.specs.Owners as found
use Rattle.verse_accept_classes.specs.Owners.{Owned, owned, methods_owned}
use Rattle.verse_accept_fine.specs.Sorted.{class_in}
use Rattle.note_sorts.specs.Owning.{members_owners, owners_from, owners, flat}

abbrev owner : Owned → Option ℕ
owner o = o.class

members_are : (c : ℕ) (ms : List MemberTree) → map owner (methods_owned c ms) ≡ members_owners c ms
members_are c [] = refl
members_are c (field d ∷ ms) = members_are c ms
members_are c (method f ∷ ms) = ap (λ xs. Some c ∷ xs) (members_are c ms)

owners_are : (n : Counts) (is : List ItemTree) → map owner (owned (counted n is)) ≡ owners_from n.classes is
owners_are n [] = refl
owners_are n (using u ∷ is) = owners_are n is
owners_are n (enumeration e ∷ is) = owners_are (counts_after (enumeration e) n) is
owners_are n (class k ∷ is) =
    map-append owner (methods_owned n.classes k.members) (owned (counted (counts_after (class k) n) is))
    ∙ ap (λ xs. xs ++ map owner (owned (counted (counts_after (class k) n) is))) (members_are n.classes k.members)
    ∙ ap (λ xs. members_owners n.classes k.members ++ xs) (owners_are (counts_after (class k) n) is)
owners_are n (function f ∷ is) = ap (λ xs. None ∷ xs) (owners_are (counts_after (function f) n) is)

owner_at : (os : List Owned) (n : ℕ) → flat (slice_get (map owner os) n) ≡ class_in (slice_get os n)
owner_at [] n = refl
owner_at (o ∷ os) zero = refl
owner_at (o ∷ os) (suc n) = owner_at os n

pub owners_agree : (is : List ItemTree) (n : ℕ) →
    flat (slice_get (owners is) n) ≡ class_in (slice_get (owned (counted no_counts is)) n)
owners_agree is n =
    ap (λ xs. flat (slice_get xs n)) (sym (owners_are no_counts is)) ∙ owner_at (owned (counted no_counts is)) n
