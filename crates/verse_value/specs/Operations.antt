-- What each operation does with values. Where causes stand together, stuck comes first, then a
-- failure, then an error.
use Rattle.std.specs.Prelude.{ℕ, zero, suc, nat_lt, ℤ, pos, negsuc, neg_ℤ, ◌+ℤ◌, ◌-ℤ◌, ◌*ℤ◌, Bool}
use Rattle.std.specs.Prelude.{not, List, [], ◌∷◌, ◌++◌, Option, Some}
use Rattle.std.specs.Prelude.{None, option_map, if◌then◌else◌}
use Rattle.std.specs.Fmt.{signed_decimal}
use Rattle.std.specs.Int.{int_rem_euclid}
use Rattle.std.specs.Int.Signed.{lt_z}
use Rattle.std.specs.Ordering.{int_eq}
use Rattle.verse_base.specs.declared.refusals.Kind.TheVariants.{Overflow, Size}
use Rattle.verse_base.specs.Quotients.{floor_quotient, ceil_quotient}
use Rattle.verse_value.specs.Val.{Val, falsity, truth, int, char, some, array, mapping, tuple, Vals}
use Rattle.verse_value.specs.Val.{no_vals, more_vals, vals, Pairs}
use Rattle.verse_value.specs.Val.{no_pairs, more_pairs}
use Rattle.verse_value.specs.Keys.{bytes_of, chars, key_eq, key_of, key_val}
use Rattle.verse_value.specs.Sizes.{fits}
use Rattle.verse_value.specs.Parts.{joined}
use Rattle.verse_value.specs.Places.{Step, part, outside, absent, misfit, nth, step_in, End, there}
use Rattle.verse_value.specs.Places.{new_key, nowhere, unfit, end_of, put}
use Rattle.verse_value.specs.Places.{push, applied, path_to_map, last_key}
use Rattle.verse_value.specs.Answer.{Answer, gives, fails, error, stuck, given_or}
use Rattle.verse_value.specs.Equality.{val_eq}
use Rattle.verse_value.specs.declared.keys.Key.{Key}
use Rattle.verse_value.specs.declared.modes.Mode.{Mode}
use Rattle.verse_value.specs.declared.modes.Mode.TheVariants.{Set, Add, Sub, Mul}

-- from -9223372036854775808 to 9223372036854775807
abbrev pub is_int : ℤ → Bool
is_int (pos n) = nat_lt n 9223372036854775808
is_int (negsuc n) = nat_lt n 9223372036854775808

-- an int in its range, or K1
abbrev pub ranged : ℤ → Answer Val
ranged n = if is_int n then gives (int n) else error Overflow

-- a value that is light and flat enough, or K2
abbrev pub sized : Val → Answer Val
sized v = if fits v then gives v else error Size

-- an operation on two ints
abbrev pub on_ints : (ℤ → ℤ → Answer Val) → Val → Val → Answer Val
on_ints f (int a) (int b) = f a b
on_ints f a b = stuck

abbrev pub sum_of : Val → Val → Answer Val
sum_of = on_ints (λ a b. ranged (a +ℤ b))

abbrev pub difference_of : Val → Val → Answer Val
difference_of = on_ints (λ a b. ranged (a -ℤ b))

abbrev pub product_of : Val → Val → Answer Val
product_of = on_ints (λ a b. ranged (a *ℤ b))

abbrev pub negation_of : Val → Answer Val
negation_of (int a) = ranged (neg_ℤ a)
negation_of v = stuck

-- a division fails where the divisor is 0
abbrev pub divided : ℤ → Answer Val → Answer Val
divided divisor answer = if int_eq divisor (pos 0) then fails else answer

-- the dividend and the divisor: the quotient rounded down
abbrev pub floor_of : Val → Val → Answer Val
floor_of = on_ints (λ a b. divided b (ranged (floor_quotient a b)))

-- the quotient rounded up
abbrev pub ceil_of : Val → Val → Answer Val
ceil_of = on_ints (λ a b. divided b (ranged (ceil_quotient a b)))

-- the remainder from 0 on, below the divisor's absolute value
abbrev pub modulo_of : Val → Val → Answer Val
modulo_of = on_ints (λ a b. divided b (gives (int (int_rem_euclid a b))))

-- a comparison gives its left operand or fails
abbrev pub left_where : Bool → Val → Answer Val
left_where holds left = if holds then gives left else fails

-- ints alone have an order
abbrev pub less_of : Val → Val → Answer Val
less_of = on_ints (λ a b. left_where (lt_z a b) (int a))

abbrev pub at_most_of : Val → Val → Answer Val
at_most_of = on_ints (λ a b. left_where (not (lt_z b a)) (int a))

abbrev pub greater_of : Val → Val → Answer Val
greater_of = on_ints (λ a b. left_where (lt_z b a) (int a))

abbrev pub at_least_of : Val → Val → Answer Val
at_least_of = on_ints (λ a b. left_where (not (lt_z a b)) (int a))

-- any two values are equal or not
abbrev pub equal_of : Val → Val → Answer Val
equal_of a b = left_where (val_eq a b) a

abbrev pub unequal_of : Val → Val → Answer Val
unequal_of a b = left_where (not (val_eq a b)) a

-- two arrays joined
abbrev pub concat_of : Val → Val → Answer Val
concat_of (array vs) (array ws) = sized (array (joined vs ws))
concat_of a b = stuck

-- an array with a value behind its last
abbrev pub append_of : Val → Val → Answer Val
append_of (array vs) v = sized (array (joined vs (more_vals v no_vals)))
append_of a v = stuck

-- the value of a text
abbrev pub text_val : List ℕ → Val
text_val bytes = array (chars bytes)

-- what a hole of a text shows: an int in decimal, a char, a text
abbrev pub hole_bytes : Val → Option (List ℕ)
hole_bytes (int n) = Some (signed_decimal n)
hole_bytes (char c) = Some (c ∷ [])
hole_bytes (array vs) = bytes_of vs
hole_bytes v = None

abbrev pub both_bytes : Option (List ℕ) → Option (List ℕ) → Option (List ℕ)
both_bytes None bytes = None
both_bytes (Some front) bytes = option_map (λ bs. front ++ bs) bytes

abbrev pub holes_bytes : List Val → Option (List ℕ)
holes_bytes [] = Some []
holes_bytes (v ∷ vs) = both_bytes (hole_bytes v) (holes_bytes vs)

abbrev pub sized_text : Option (List ℕ) → Answer Val
sized_text (Some bytes) = sized (text_val bytes)
sized_text None = stuck

-- a text from its parts in order
abbrev pub join_of : List Val → Answer Val
join_of parts = sized_text (holes_bytes parts)

abbrev pub array_of : List Val → Answer Val
array_of parts = sized (array (vals parts))

abbrev pub tuple_of : List Val → Answer Val
tuple_of parts = sized (tuple (vals parts))

abbrev pub option_of : Val → Answer Val
option_of v = sized (some v)

-- a value at a key: a present key keeps its place and takes the value, a new one goes last
abbrev pub with_entry : Pairs → Key → Val → Pairs
with_entry no_pairs k v = more_pairs k v no_pairs
with_entry (more_pairs l w ps) k v =
    if key_eq k l then more_pairs l v ps else more_pairs l w (with_entry ps k v)

-- keys with their values put in one after another
abbrev pub with_entries : Pairs → List (Key × Val) → Pairs
with_entries ps [] = ps
with_entries ps (e ∷ es) = with_entries (with_entry ps e.0 e.1) es

abbrev pub keyed_with : Option Key → Val → Option (List (Key × Val)) → Option (List (Key × Val))
keyed_with None v es = None
keyed_with (Some k) v es = option_map (λ l. (k, v) ∷ l) es

-- the keys that values are; none where one of them is no key
abbrev pub keyed : List (Val × Val) → Option (List (Key × Val))
keyed [] = Some []
keyed (e ∷ es) = keyed_with (key_of e.0) e.1 (keyed es)

abbrev pub sized_map : Option (List (Key × Val)) → Answer Val
sized_map (Some es) = sized (mapping (with_entries no_pairs es))
sized_map None = stuck

-- a map from keys with their values in order; its size is looked at when all are in it
abbrev pub map_of : List (Val × Val) → Answer Val
map_of entries = sized_map (keyed entries)

-- the content of an option, or true; false fails, as an option and as a logic
abbrev pub query_of : Val → Answer Val
query_of (some v) = gives v
query_of truth = gives truth
query_of falsity = fails
query_of v = stuck

-- an element of a tuple by its number
abbrev pub item_of : Val → ℕ → Answer Val
item_of (tuple vs) n = given_or stuck (nth vs n)
item_of v n = stuck

abbrev pub step_answer : Step → Answer Val
step_answer (part v) = gives v
step_answer outside = fails
step_answer absent = fails
step_answer misfit = stuck

-- an array at an int, a map at a key
abbrev pub at_of : Val → Val → Answer Val
at_of container index = step_answer (step_in container index)

abbrev pub count : Vals → ℕ
count no_vals = zero
count (more_vals v vs) = suc (count vs)

abbrev pub entry_count : Pairs → ℕ
entry_count no_pairs = zero
entry_count (more_pairs k v ps) = suc (entry_count ps)

abbrev pub length_of : Val → Answer Val
length_of (array vs) = gives (int (pos (count vs)))
length_of (mapping ps) = gives (int (pos (entry_count ps)))
length_of v = stuck

abbrev pub nth_entry : Pairs → ℕ → Option (Val × Val)
nth_entry no_pairs i = None
nth_entry (more_pairs k v ps) zero = Some (v, key_val k)
nth_entry (more_pairs k v ps) (suc i) = nth_entry ps i

-- what a generator takes from a domain at a place counted from 0, and the index or the key beside
-- it; it fails past the last
abbrev pub taken_of : Val → ℕ → Answer (Val × Val)
taken_of (array vs) i = given_or fails (option_map (λ v. (v, int (pos i))) (nth vs i))
taken_of (mapping ps) i = given_or fails (nth_entry ps i)
taken_of v i = stuck

abbrev pub end_answer : End → Answer Val
end_answer (there v) = gives v
end_answer new_key = fails
end_answer nowhere = fails
end_answer unfit = stuck

-- what a path leads to, followed from the left
abbrev pub read_at : List Val → Val → Answer Val
read_at path slot = end_answer (end_of path slot)

-- the value written, from the one that stands there and the one given
abbrev pub combined : Mode → Val → Val → Answer Val
combined Set old value = gives value
combined Add (int a) (int b) = ranged (a +ℤ b)
combined Add (array vs) (array ws) = gives (array (joined vs ws))
combined Sub (int a) (int b) = ranged (a -ℤ b)
combined Mul (int a) (int b) = ranged (a *ℤ b)
combined mode old value = stuck

-- a slot's new value with the value written, where that slot is no more than a slot may be
abbrev pub sized_slot : Val → Val → Answer (Val × Val)
sized_slot slot value = if fits slot then gives (slot, value) else error Size

abbrev pub overwritten : List Val → Val → Answer Val → Answer (Val × Val)
overwritten path slot (gives new) = sized_slot (applied path (put new) slot) new
overwritten path slot fails = fails
overwritten path slot (error kind) = error kind
overwritten path slot stuck = stuck

-- only `=` makes a key
abbrev pub key_made : List Val → Mode → Val → Val → Option Key → Answer (Val × Val)
key_made path Set value slot (Some k) =
    sized_slot (applied (path_to_map path) (push k value) slot) value
key_made path mode value slot k = fails

abbrev pub written_at : End → List Val → Mode → Val → Val → Answer (Val × Val)
written_at (there old) path mode value slot = overwritten path slot (combined mode old value)
written_at new_key path mode value slot = key_made path mode value slot (last_key path)
written_at nowhere path mode value slot = fails
written_at unfit path mode value slot = stuck

-- a write at a path: the slot's new value and the value written
abbrev pub write_at : List Val → Mode → Val → Val → Answer (Val × Val)
write_at path mode value slot = written_at (end_of path slot) path mode value slot
