-- The types of nodes, and the sorts of lists of types.
use Rattle.std.proofs.Common.{◌≡◌, ℕ, ◌-◌, List, [], ◌∷◌, map, slice_get, Some, None, refl, sym, ap, ◌∙◌}
use Rattle.std.proofs.Common.{rules}
use Rattle.std.specs.Option.{option_map}
use Rattle.std.proofs.lemmas.Option.{slice_get-map}
use Rattle.verse_tree.specs.declared.tables.Ty as ty
use Rattle.verse_tree.specs.declared.tables.Ty.{Ty as Made, the_lemmas as of_types}
use Rattle.verse_rules_types.specs.Types.{ty_of, tys, tuple, never}
use Rattle.verse_check_typing.specs.Facts.{or_never, type_at}
use Rattle.verse_check_typing.specs.Loops.{index_of}
use Rattle.lower_notes.specs.Noting.{key_in}
use Rattle.verse_tree.specs.declared.programs.Program.{Program}
use Rattle.verse_sorts.specs.Sorts as s
use Rattle.verse_sorts_types.specs.SortOf as t
use Rattle.verse_verify_kept.specs.Rules.{sorts}
use Rattle.verse_verify_notes.specs.declared.sorts.Sort as seen
use Rattle.verse_verify_notes.specs.declared.sorts.Sort.{Sort as Seen, the_lemmas}
use Rattle.verse_verify_notes.specs.View.{sort_of, sorts_of}
use Rattle.note_sorts.specs.Tabled.{made_sort, found_of}

pub type_none : (ts : List Made) (n : ℕ) → slice_get ts n ≡ None → type_at (map ty_of ts) n ≡ never
type_none ts n e = ap or_never (slice_get-map ty_of ts n ∙ ap (option_map ty_of) e)

pub type_some : (ts : List Made) (n : ℕ) (t : Made) → slice_get ts n ≡ Some t → type_at (map ty_of ts) n ≡ ty_of t
type_some ts n t e = ap or_never (slice_get-map ty_of ts n ∙ ap (option_map ty_of) e)

pub ruleset typed = (type_none, type_some)

pub sorts_are : (ts : List Made) → sorts (map made_sort ts) ≡ t.sorts_of (tys (map ty_of ts))
sorts_are [] = refl
sorts_are (x ∷ xs) = ap (s.more_sorts (made_sort x)) (sorts_are xs)

tuple_typed : (ts : List Made) → ty_of (ty.Tuple ts) ≡ tuple (tys (map ty_of ts))
tuple_typed ts = search (rules, of_types)

-- the sort of a tuple is that of its type, where the sorts of its parts are
pub tuple_sort : (x : Seen) (parts : List Seen) (a : Made) (ts these : List Made) → sort_of x ≡ s.tuple (sorts (sorts_of parts)) →
    a ≡ ty.Tuple ts → these ≡ ts → sorts_of parts ≡ map made_sort these → sort_of x ≡ t.sort_of (ty_of a)
tuple_sort x parts a ts these seen is same made =
    seen ∙ ap (λ xs. s.tuple (sorts xs)) (made ∙ ap (map made_sort) same) ∙ ap s.tuple (sorts_are ts)
    ∙ ap t.sort_of (sym (ap ty_of is ∙ tuple_typed ts))

never_seen : sort_of seen.Never ≡ s.never
never_seen = search (rules, the_lemmas)

any_seen : sort_of seen.Any ≡ s.any
any_seen = search (rules, the_lemmas)

-- what has no type never has a value
pub sort_none : (p : Program) (n : ℕ) → None ≡ slice_get p.typed.types n → sort_of seen.Never ≡ (found_of p).sort n
unfolding found_of
sort_none p n e = never_seen ∙ sym (ap t.sort_of (type_none p.typed.types n (sym e)))

pub key_none : (p : Program) (n : ℕ) → None ≡ slice_get p.typed.types (n - 1) → sort_of seen.Never ≡ (found_of p).key n
unfolding found_of
key_none p n e = never_seen ∙ sym (ap (λ x. t.sort_of (index_of x)) (type_none p.typed.types (n - 1) (sym e)))

pub keys_none : (p : Program) (n : ℕ) → None ≡ slice_get p.typed.types n → sort_of seen.Any ≡ key_in ((found_of p).sort n)
unfolding found_of
keys_none p n e = any_seen ∙ sym (ap (λ x. key_in (t.sort_of x)) (type_none p.typed.types n (sym e)))
