-- What an operation gives from values of a run is one.
use Rattle.std.proofs.Common.{◌≡◌, ℕ, zero, suc, ◌+◌, ◌≤◌, ◌<◌, length, List, [], ◌∷◌, ◌++◌, Option, Some, None, Bool, true, false, cond}
use Rattle.std.proofs.Common.{refl, sym}
use Rattle.std.proofs.Common.{subst, ap, ◌∙◌, arith, nat_le, option_map}
use Rattle.std.specs.Prelude.{ℤ, pos, negsuc, neg_ℤ, ◌+ℤ◌, ◌-ℤ◌, ◌*ℤ◌, int_le, not, ◌&&◌, if◌then◌else◌, slice_get, max, ◌%◌, ◌/◌, ◌==◌}
use Rattle.std.specs.Fmt.{signed_decimal, digits, digits_onto, digit_glyph}
use Rattle.std.specs.Int.{int_rem_euclid}
use Rattle.std.specs.Int.Signed.{lt_z}
use Rattle.std.specs.Ordering.{int_eq}
use Rattle.std.proofs.lemmas.Bool.Decides.{nat_tests}
use Rattle.verse_base.specs.declared.refusals.Kind.TheVariants.{Overflow, Size}
use Rattle.verse_base.specs.Quotients.{floor_quotient, ceil_quotient}
use Rattle.std.specs.Prelude.{All}
use Rattle.std.proofs.lemmas.List.Elements.{All-head, All-tail}
use Rattle.std.proofs.lemmas.Option.{same_Some}
use Rattle.verse_base.proofs.Facts.{nat_le_is}
use Rattle.verse_code.specs.declared.operations.Op.{Op}
use Rattle.verse_code.specs.declared.operations.Op.TheVariants as o
use Rattle.verse_code.specs.declared.codes.Code.{Code}
use Rattle.verse_code.specs.Validity.{Valid, IsText}
use Rattle.verse_value.specs.Val.{Val, unit, falsity, truth, int, char, enum, object, event, task, some, array, mapping, tuple, Vals}
use Rattle.verse_value.specs.Val.{no_vals}
use Rattle.verse_value.specs.Val.{more_vals, vals, Pairs, no_pairs, more_pairs}
use Rattle.verse_value.specs.Keys.{key_eq, byte_of, with_byte, bytes_of, chars, key_of, key_val, at_key}
use Rattle.verse_value.specs.Sizes.{fits, weight_of, weights, pair_weights, levels_of, most_levels, most_pair_levels, key_weight}
use Rattle.verse_value.specs.Parts.{joined}
use Rattle.verse_value.specs.Places.{nth, Step, part, outside, absent, misfit, step_in, in_array, in_map, part_or}
use Rattle.verse_value.specs.Answer.{Answer, gives, fails, error, stuck, given_or}
use Rattle.verse_value.specs.Equality.{val_eq}
use Rattle.verse_value.specs.Operations.{ranged, is_int, sized, on_ints, sum_of, difference_of, product_of, negation_of, divided, floor_of}
use Rattle.verse_value.specs.Operations.{ceil_of}
use Rattle.verse_value.specs.Operations.{modulo_of, left_where, less_of, at_most_of, greater_of, at_least_of, equal_of, unequal_of}
use Rattle.verse_value.specs.Operations.{concat_of}
use Rattle.verse_value.specs.Operations.{append_of, text_val, hole_bytes, both_bytes, holes_bytes, sized_text, join_of, array_of, tuple_of}
use Rattle.verse_value.specs.Operations.{option_of}
use Rattle.verse_value.specs.Operations.{with_entry, with_entries, keyed_with, keyed, sized_map, map_of, query_of, item_of, step_answer}
use Rattle.verse_value.specs.Operations.{at_of}
use Rattle.verse_value.specs.Operations.{count, entry_count, length_of, nth_entry, taken_of}
use Rattle.verse_value.specs.declared.keys.Key.{Key}
use Rattle.verse_value.specs.declared.keys.Key.TheVariants as key
use Rattle.verse_value.specs.contracts.keys.KeyEq.TheImpl.Laws.{laws-law}
use Rattle.verse_value.proofs.Sums.{chars_weigh, chars_flat}
use Rattle.verse_code_machine.specs.Acts.{paired, Taken, ended, takes, unfit, taken_at, next_low, taken_from, label_of}
use Rattle.verse_code_machine.specs.Acts.{on_label, labels, after_arms}
use Rattle.run_save_shots.specs.Lists.{Each}
use Rattle.run_save_shots.specs.Fitting.{KeyIsSound, IsSound, AreSound, PairsAreSound, ValueFits, ValuesFit}
use Rattle.run_save_moves.specs.Fine.{AnswerFits, OneFits, TextsAreBytes}

-- ---- size

both_below : (a b c d : ℕ) → (nat_le a b && nat_le c d) ≡ true → (a ≤ b) × (c ≤ d)
both_below a b c d e = (grind (arith, nat_tests), grind (arith, nat_tests))

both_fit : (a b c d : ℕ) → a ≤ b → c ≤ d → (nat_le a b && nat_le c d) ≡ true
both_fit a b c d e f = grind (arith, nat_tests)

abbrev pub Small : Val → Type 0
Small v = (weight_of v ≤ 4000000) × (levels_of v ≤ 200)

pub small_of : (v : Val) → fits v ≡ true → Small v
small_of v e = both_below (weight_of v) 4000000 (levels_of v) 200 e

pub fits_of : (v : Val) → weight_of v ≤ 4000000 → levels_of v ≤ 200 → fits v ≡ true
fits_of v e f = both_fit (weight_of v) 4000000 (levels_of v) 200 e f

pub if_gives : (n : ℕ) (b : Bool) (a x : Answer Val) → (b ≡ true → AnswerFits n a) → (b ≡ false → AnswerFits n x) →
    AnswerFits n (if b then a else x)
if_gives n true a x f g = f refl
if_gives n false a x f g = g refl

pub sized_fits : (n : ℕ) (v : Val) → IsSound n v → AnswerFits n (sized v)
sized_fits n v a = if_gives n (fits v) (gives v) (error Size) (λ e. record { small = e; sound = a }) (λ e. tt)

-- ---- plain values

pub unit_fits : (n : ℕ) → ValueFits n unit
unit_fits n = record { small = refl; sound = tt }

pub falsity_fits : (n : ℕ) → ValueFits n falsity
falsity_fits n = record { small = refl; sound = tt }

pub truth_fits : (n : ℕ) → ValueFits n truth
truth_fits n = record { small = refl; sound = tt }

pub int_fits : (n : ℕ) (z : ℤ) → ValueFits n (int z)
int_fits n z = record { small = refl; sound = tt }

pub char_fits : (n b : ℕ) → b ≤ 255 → ValueFits n (char b)
char_fits n b h = record { small = refl; sound = h }

pub enum_fits : (n a b : ℕ) → ValueFits n (enum a b)
enum_fits n a b = record { small = refl; sound = tt }

pub object_fits : (n a : ℕ) → ValueFits n (object a)
object_fits n a = record { small = refl; sound = tt }

pub event_fits : (n a : ℕ) → ValueFits n (event a)
event_fits n a = record { small = refl; sound = tt }

pub task_fits : (n a : ℕ) → a < n → ValueFits n (task a)
task_fits n a h = record { small = refl; sound = h }

-- ---- ints

pub ranged_fits : (n : ℕ) (z : ℤ) → AnswerFits n (ranged z)
ranged_fits n z = if_gives n (is_int z) (gives (int z)) (error Overflow) (λ e. int_fits n z) (λ e. tt)

ints_fit : (n : ℕ) (f : ℤ → ℤ → Answer Val) → ((x y : ℤ) → AnswerFits n (f x y)) → (a b : Val) → AnswerFits n (on_ints f a b)
ints_fit n f h unit b = tt
ints_fit n f h falsity b = tt
ints_fit n f h truth b = tt
ints_fit n f h (int i) unit = tt
ints_fit n f h (int i) falsity = tt
ints_fit n f h (int i) truth = tt
ints_fit n f h (int i) (int j) = h i j
ints_fit n f h (int i) (char m) = tt
ints_fit n f h (int i) (enum m l) = tt
ints_fit n f h (int i) (object m) = tt
ints_fit n f h (int i) (event m) = tt
ints_fit n f h (int i) (task m) = tt
ints_fit n f h (int i) (some w) = tt
ints_fit n f h (int i) (array vs) = tt
ints_fit n f h (int i) (mapping ps) = tt
ints_fit n f h (int i) (tuple vs) = tt
ints_fit n f h (char m) b = tt
ints_fit n f h (enum m l) b = tt
ints_fit n f h (object m) b = tt
ints_fit n f h (event m) b = tt
ints_fit n f h (task m) b = tt
ints_fit n f h (some w) b = tt
ints_fit n f h (array vs) b = tt
ints_fit n f h (mapping ps) b = tt
ints_fit n f h (tuple vs) b = tt

pub sum_fits : (n : ℕ) (a b : Val) → ValueFits n a → ValueFits n b → AnswerFits n (sum_of a b)
sum_fits n a b p q = ints_fit n (λ x y. ranged (x +ℤ y)) (λ x y. ranged_fits n (x +ℤ y)) a b

pub difference_fits : (n : ℕ) (a b : Val) → ValueFits n a → ValueFits n b → AnswerFits n (difference_of a b)
difference_fits n a b p q = ints_fit n (λ x y. ranged (x -ℤ y)) (λ x y. ranged_fits n (x -ℤ y)) a b

pub product_fits : (n : ℕ) (a b : Val) → ValueFits n a → ValueFits n b → AnswerFits n (product_of a b)
product_fits n a b p q = ints_fit n (λ x y. ranged (x *ℤ y)) (λ x y. ranged_fits n (x *ℤ y)) a b

divided_fits : (n : ℕ) (d : ℤ) (a : Answer Val) → AnswerFits n a → AnswerFits n (divided d a)
divided_fits n d a h = if_gives n (int_eq d (pos 0)) fails a (λ e. tt) (λ e. h)

pub floor_fits : (n : ℕ) (a b : Val) → ValueFits n a → ValueFits n b → AnswerFits n (floor_of a b)
floor_fits n a b p q = ints_fit n (λ x y. divided y (ranged (floor_quotient x y)))
    (λ x y. divided_fits n y _ (ranged_fits n (floor_quotient x y))) a b

pub ceil_fits : (n : ℕ) (a b : Val) → ValueFits n a → ValueFits n b → AnswerFits n (ceil_of a b)
ceil_fits n a b p q = ints_fit n (λ x y. divided y (ranged (ceil_quotient x y)))
    (λ x y. divided_fits n y _ (ranged_fits n (ceil_quotient x y))) a b

pub modulo_fits : (n : ℕ) (a b : Val) → ValueFits n a → ValueFits n b → AnswerFits n (modulo_of a b)
modulo_fits n a b p q =
    ints_fit n (λ x y. divided y (gives (int (int_rem_euclid x y)))) (λ x y. divided_fits n y _ (int_fits n (int_rem_euclid x y))) a b

left_fits : (n : ℕ) (b : Bool) (v : Val) → ValueFits n v → AnswerFits n (left_where b v)
left_fits n b v p = if_gives n b (gives v) fails (λ e. p) (λ e. tt)

pub less_fits : (n : ℕ) (a b : Val) → ValueFits n a → ValueFits n b → AnswerFits n (less_of a b)
less_fits n a b p q = ints_fit n (λ x y. left_where (lt_z x y) (int x)) (λ x y. left_fits n (lt_z x y) (int x) (int_fits n x)) a b

pub at_most_fits : (n : ℕ) (a b : Val) → ValueFits n a → ValueFits n b → AnswerFits n (at_most_of a b)
at_most_fits n a b p q = ints_fit n (λ x y. left_where (not (lt_z y x)) (int x))
    (λ x y. left_fits n (not (lt_z y x)) (int x) (int_fits n x)) a b

pub greater_fits : (n : ℕ) (a b : Val) → ValueFits n a → ValueFits n b → AnswerFits n (greater_of a b)
greater_fits n a b p q = ints_fit n (λ x y. left_where (lt_z y x) (int x)) (λ x y. left_fits n (lt_z y x) (int x) (int_fits n x)) a b

pub at_least_fits : (n : ℕ) (a b : Val) → ValueFits n a → ValueFits n b → AnswerFits n (at_least_of a b)
at_least_fits n a b p q = ints_fit n (λ x y. left_where (not (lt_z x y)) (int x))
    (λ x y. left_fits n (not (lt_z x y)) (int x) (int_fits n x)) a b

pub equal_fits : (n : ℕ) (a b : Val) → ValueFits n a → ValueFits n b → AnswerFits n (equal_of a b)
equal_fits n a b p q = left_fits n (val_eq a b) a p

pub unequal_fits : (n : ℕ) (a b : Val) → ValueFits n a → ValueFits n b → AnswerFits n (unequal_of a b)
unequal_fits n a b p q = left_fits n (not (val_eq a b)) a p

pub negation_fits : (n : ℕ) (a : Val) → ValueFits n a → AnswerFits n (negation_of a)
negation_fits n unit p = tt
negation_fits n falsity p = tt
negation_fits n truth p = tt
negation_fits n (int m) p = ranged_fits n (neg_ℤ m)
negation_fits n (char m) p = tt
negation_fits n (enum m l) p = tt
negation_fits n (object m) p = tt
negation_fits n (event m) p = tt
negation_fits n (task m) p = tt
negation_fits n (some w) p = tt
negation_fits n (array vs) p = tt
negation_fits n (mapping ps) p = tt
negation_fits n (tuple vs) p = tt

-- ---- arrays and tuples

pub joined_sound : (n : ℕ) (vs ws : Vals) → AreSound n vs → AreSound n ws → AreSound n (joined vs ws)
joined_sound n no_vals ws a b = b
joined_sound n (more_vals v vs) ws a b = (a.0, joined_sound n vs ws a.1 b)

pub vals_sound : (n : ℕ) (vs : List Val) → ValuesFit n vs → AreSound n (vals vs)
vals_sound n [] a = tt
vals_sound n (v ∷ vs) a = (a.0.sound, vals_sound n vs a.1)

pub append_fit : (n : ℕ) (vs ws : List Val) → ValuesFit n vs → ValuesFit n ws → ValuesFit n (vs ++ ws)
append_fit n [] ws a b = b
append_fit n (v ∷ vs) ws a b = (a.0, append_fit n vs ws a.1 b)

pub concat_fits : (n : ℕ) (a b : Val) → ValueFits n a → ValueFits n b → AnswerFits n (concat_of a b)
concat_fits n unit b p q = tt
concat_fits n falsity b p q = tt
concat_fits n truth b p q = tt
concat_fits n (int m) b p q = tt
concat_fits n (char m) b p q = tt
concat_fits n (enum m l) b p q = tt
concat_fits n (object m) b p q = tt
concat_fits n (event m) b p q = tt
concat_fits n (task m) b p q = tt
concat_fits n (some w) b p q = tt
concat_fits n (array vs) unit p q = tt
concat_fits n (array vs) falsity p q = tt
concat_fits n (array vs) truth p q = tt
concat_fits n (array vs) (int m) p q = tt
concat_fits n (array vs) (char m) p q = tt
concat_fits n (array vs) (enum m l) p q = tt
concat_fits n (array vs) (object m) p q = tt
concat_fits n (array vs) (event m) p q = tt
concat_fits n (array vs) (task m) p q = tt
concat_fits n (array vs) (some w) p q = tt
concat_fits n (array vs) (array ws) p q = sized_fits n (array (joined vs ws)) (joined_sound n vs ws p.sound q.sound)
concat_fits n (array vs) (mapping ps) p q = tt
concat_fits n (array vs) (tuple ws) p q = tt
concat_fits n (mapping ps) b p q = tt
concat_fits n (tuple vs) b p q = tt

pub append_of_fits : (n : ℕ) (a v : Val) → ValueFits n a → ValueFits n v → AnswerFits n (append_of a v)
append_of_fits n unit v p q = tt
append_of_fits n falsity v p q = tt
append_of_fits n truth v p q = tt
append_of_fits n (int m) v p q = tt
append_of_fits n (char m) v p q = tt
append_of_fits n (enum m l) v p q = tt
append_of_fits n (object m) v p q = tt
append_of_fits n (event m) v p q = tt
append_of_fits n (task m) v p q = tt
append_of_fits n (some w) v p q = tt
append_of_fits n (array vs) v p q = sized_fits n (array (joined vs (more_vals v no_vals)))
    (joined_sound n vs (more_vals v no_vals) p.sound (q.sound, tt))
append_of_fits n (mapping ps) v p q = tt
append_of_fits n (tuple vs) v p q = tt

pub array_fits : (n : ℕ) (vs : List Val) → ValuesFit n vs → AnswerFits n (array_of vs)
array_fits n vs a = sized_fits n (array (vals vs)) (vals_sound n vs a)

pub tuple_fits : (n : ℕ) (vs : List Val) → ValuesFit n vs → AnswerFits n (tuple_of vs)
tuple_fits n vs a = sized_fits n (tuple (vals vs)) (vals_sound n vs a)

pub option_fits : (n : ℕ) (v : Val) → ValueFits n v → AnswerFits n (option_of v)
option_fits n v p = sized_fits n (some v) p.sound

pub length_fits : (n : ℕ) (v : Val) → ValueFits n v → AnswerFits n (length_of v)
length_fits n unit p = tt
length_fits n falsity p = tt
length_fits n truth p = tt
length_fits n (int m) p = tt
length_fits n (char m) p = tt
length_fits n (enum m l) p = tt
length_fits n (object m) p = tt
length_fits n (event m) p = tt
length_fits n (task m) p = tt
length_fits n (some w) p = tt
length_fits n (array vs) p = int_fits n (pos (count vs))
length_fits n (mapping ps) p = int_fits n (pos (entry_count ps))
length_fits n (tuple vs) p = tt

-- a part
pub nth_fits : (n : ℕ) (vs : Vals) (i : ℕ) → weights vs ≤ 4000000 → most_levels vs ≤ 200 → AreSound n vs → OneFits n (nth vs i)
nth_fits n no_vals i e f a = tt
nth_fits n (more_vals v vs) zero e f a = record { small = fits_of v (omega (arith, e)) (omega (arith, f)); sound = a.0 }
nth_fits n (more_vals v vs) (suc i) e f a = nth_fits n vs i (omega (arith, e)) (omega (arith, f)) a.1

pub or_fits : (n : ℕ) (x : Answer Val) (o : Option Val) → AnswerFits n x → OneFits n o → AnswerFits n (given_or x o)
or_fits n x None a b = a
or_fits n x (Some v) a b = b

inside : (m k : ℕ) → 1 + m ≤ k → m ≤ k
inside m k e = omega (arith, e)

pub item_fits : (n : ℕ) (v : Val) (i : ℕ) → ValueFits n v → AnswerFits n (item_of v i)
item_fits n unit i p = tt
item_fits n falsity i p = tt
item_fits n truth i p = tt
item_fits n (int m) i p = tt
item_fits n (char m) i p = tt
item_fits n (enum m l) i p = tt
item_fits n (object m) i p = tt
item_fits n (event m) i p = tt
item_fits n (task m) i p = tt
item_fits n (some w) i p = tt
item_fits n (array vs) i p = tt
item_fits n (mapping ps) i p = tt
item_fits n (tuple vs) i p = let s = small_of (tuple vs) p.small in or_fits n stuck (nth vs i) tt
    (nth_fits n vs i (inside (weights vs) 4000000 s.0) (inside (most_levels vs) 200 s.1) p.sound)

content_fits : (n : ℕ) (v : Val) → ValueFits n (some v) → ValueFits n v
content_fits n v p = let s = small_of (some v) p.small in
    record { small = fits_of v (inside (weight_of v) 4000000 s.0) (inside (levels_of v) 200 s.1); sound = p.sound }

pub query_fits : (n : ℕ) (v : Val) → ValueFits n v → AnswerFits n (query_of v)
query_fits n unit p = tt
query_fits n falsity p = tt
query_fits n truth p = truth_fits n
query_fits n (int m) p = tt
query_fits n (char m) p = tt
query_fits n (enum m l) p = tt
query_fits n (object m) p = tt
query_fits n (event m) p = tt
query_fits n (task m) p = tt
query_fits n (some w) p = content_fits n w p
query_fits n (array vs) p = tt
query_fits n (mapping ps) p = tt
query_fits n (tuple vs) p = tt

-- ---- texts

abbrev pub AreBytes : Option (List ℕ) → Type 0
AreBytes None = Unit {0}
AreBytes (Some bs) = Each (λ b. b ≤ 255) bs

pub chars_sound : (n : ℕ) (bs : List ℕ) → Each (λ b. b ≤ 255) bs → AreSound n (chars bs)
chars_sound n [] a = tt
chars_sound n (b ∷ bs) a = (a.0, chars_sound n bs a.1)

abbrev pub OneByte : Option ℕ → Type 0
OneByte None = Unit {0}
OneByte (Some b) = b ≤ 255

byte_sound : (n : ℕ) (v : Val) → IsSound n v → OneByte (byte_of v)
byte_sound n unit p = tt
byte_sound n falsity p = tt
byte_sound n truth p = tt
byte_sound n (int m) p = tt
byte_sound n (char m) p = p
byte_sound n (enum m l) p = tt
byte_sound n (object m) p = tt
byte_sound n (event m) p = tt
byte_sound n (task m) p = tt
byte_sound n (some w) p = tt
byte_sound n (array vs) p = tt
byte_sound n (mapping ps) p = tt
byte_sound n (tuple vs) p = tt

with_byte_sound : (o : Option ℕ) (bs : Option (List ℕ)) → OneByte o → AreBytes bs → AreBytes (with_byte o bs)
with_byte_sound None bs a b = tt
with_byte_sound (Some x) None a b = tt
with_byte_sound (Some x) (Some bs) a b = (a, b)

pub bytes_sound : (n : ℕ) (vs : Vals) → AreSound n vs → AreBytes (bytes_of vs)
bytes_sound n no_vals a = tt
bytes_sound n (more_vals v vs) a = with_byte_sound (byte_of v) (bytes_of vs) (byte_sound n v a.0) (bytes_sound n vs a.1)

glyph_byte : (d : ℕ) → d < 10 → digit_glyph false d ≤ 255
glyph_byte d h = grind (arith, nat_tests)

tenth : (n : ℕ) → n % 10 < 10
tenth n = omega arith

choice : (P : List ℕ → Type 0) (b : Bool) (xs ys : List ℕ) → P xs → P ys → P (if b then xs else ys)
choice P true xs ys a b = a
choice P false xs ys a b = b

digits_bytes : (k n : ℕ) (acc : List ℕ) → Each (λ b. b ≤ 255) acc → Each (λ b. b ≤ 255) (digits_onto k 10 false n acc)
digits_bytes zero n acc a = a
digits_bytes (suc k) n acc a = choice (Each (λ b. b ≤ 255)) (n / 10 == 0) _ _ (glyph_byte (n % 10) (tenth n), a)
    (digits_bytes k (n / 10) (digit_glyph false (n % 10) ∷ acc) (glyph_byte (n % 10) (tenth n), a))

decimal_bytes : (n : ℕ) → Each (λ b. b ≤ 255) (digits 10 false n)
unfolding digits
decimal_bytes n = digits_bytes 64 n [] tt

signed_bytes : (z : ℤ) → Each (λ b. b ≤ 255) (signed_decimal z)
signed_bytes (pos n) = decimal_bytes n
signed_bytes (negsuc n) = (omega arith, decimal_bytes (suc n))

hole_sound : (n : ℕ) (v : Val) → ValueFits n v → AreBytes (hole_bytes v)
hole_sound n unit p = tt
hole_sound n falsity p = tt
hole_sound n truth p = tt
hole_sound n (int m) p = signed_bytes m
hole_sound n (char m) p = (p.sound, tt)
hole_sound n (enum m l) p = tt
hole_sound n (object m) p = tt
hole_sound n (event m) p = tt
hole_sound n (task m) p = tt
hole_sound n (some w) p = tt
hole_sound n (array vs) p = bytes_sound n vs p.sound
hole_sound n (mapping ps) p = tt
hole_sound n (tuple vs) p = tt

bytes_join : (xs ys : List ℕ) → Each (λ b. b ≤ 255) xs → Each (λ b. b ≤ 255) ys → Each (λ b. b ≤ 255) (xs ++ ys)
bytes_join [] ys a b = b
bytes_join (x ∷ xs) ys a b = (a.0, bytes_join xs ys a.1 b)

both_sound : (o p : Option (List ℕ)) → AreBytes o → AreBytes p → AreBytes (both_bytes o p)
both_sound None p a b = tt
both_sound (Some xs) None a b = tt
both_sound (Some xs) (Some ys) a b = bytes_join xs ys a b

holes_sound : (n : ℕ) (vs : List Val) → ValuesFit n vs → AreBytes (holes_bytes vs)
holes_sound n [] a = tt
holes_sound n (v ∷ vs) a = both_sound (hole_bytes v) (holes_bytes vs) (hole_sound n v a.0) (holes_sound n vs a.1)

sized_text_fits : (n : ℕ) (o : Option (List ℕ)) → AreBytes o → AnswerFits n (sized_text o)
sized_text_fits n None a = tt
sized_text_fits n (Some bs) a = sized_fits n (text_val bs) (chars_sound n bs a)

pub join_fits : (n : ℕ) (vs : List Val) → ValuesFit n vs → AnswerFits n (join_of vs)
join_fits n vs a = sized_text_fits n (holes_bytes vs) (holes_sound n vs a)

pub short_text_fits : (n : ℕ) (bs : List ℕ) → length bs ≤ 3999999 → Each (λ b. b ≤ 255) bs → ValueFits n (text_val bs)
short_text_fits n bs h a = record {
  small = fits_of (text_val bs) (omega (arith, chars_weigh bs, h)) (omega (arith, chars_flat bs));
  sound = chars_sound n bs a;
}

-- ---- what a valid code names

all_each : {A : Type 0} (P : A → Type 0) (xs : List A) → All P xs → Each P xs
all_each P [] h = tt
all_each P (x ∷ xs) h = (All-head P x xs h, all_each P xs (All-tail P x xs h))

got_each : {A : Type 0} (P : A → Type 0) (xs : List A) (i : ℕ) (x : A) → Each P xs → slice_get xs i ≡ Some x → P x
got_each P [] i x a e = absurd (cc)
got_each P (y ∷ xs) zero x a e = subst P (same_Some y x e) a.0
got_each P (y ∷ xs) (suc i) x a e = got_each P xs i x a.1 e

pub text_fits : (c : Code) → Valid c → TextsAreBytes c → (n i : ℕ) (t : List ℕ) → slice_get c.texts i ≡ Some t → ValueFits n (text_val t)
text_fits c valid bytes n i t e = short_text_fits n t (got_each IsText c.texts i t (all_each IsText c.texts valid.texts) e)
    (all_each (λ b. b ≤ 255) t (got_each (All (λ b. b ≤ 255)) c.texts i t (all_each (All (λ b. b ≤ 255)) c.texts bytes) e))

pub char_operand : (c : Code) → Valid c → (pc n : ℕ) → slice_get c.ops pc ≡ Some (o.Char n) → n ≤ 255
char_operand c valid pc n e = nat_le_is n 255 (valid.operations pc (o.Char n) e)

pub pause_operand : (c : Code) → Valid c → (pc n : ℕ) → slice_get c.ops pc ≡ Some (o.Sleep n) → (now : ℕ) → now + n ≤ now + 1000000000
pause_operand c valid pc n e now = let h = nat_le_is n 1000000000 (valid.operations pc (o.Sleep n) e) in omega (arith, h)

pub after_is : (a n : ℕ) → after_arms a n ≡ a + n
after_is a zero = omega arith
after_is a (suc n) = after_is (suc a) n ∙ omega arith

abbrev pub ListOf : Option (List ℕ) → ℕ → Type 0
ListOf None n = Unit {0}
ListOf (Some ls) n = length ls ≡ n

on_label_many : (l : Option ℕ) (ls : Option (List ℕ)) (n : ℕ) → ListOf ls n → ListOf (on_label l ls) (suc n)
on_label_many None ls n a = tt
on_label_many (Some l) None n a = tt
on_label_many (Some l) (Some ls) n a = ap suc a

labels_list : (ops : List Op) (a n : ℕ) → ListOf (labels ops a n) n
labels_list ops a zero = refl
labels_list ops a (suc n) = on_label_many (label_of (slice_get ops a)) (labels ops (suc a) n) n (labels_list ops (suc a) n)

pub labels_many : (ops : List Op) (a n : ℕ) (ls : List ℕ) → labels ops a n ≡ Some ls → length ls ≡ n
labels_many ops a n ls e = subst (λ o. ListOf o n) e (labels_list ops a n)

-- ---- maps

abbrev pub KeyFits : Option Key → Type 0
KeyFits None = Unit {0}
KeyFits (Some k) = KeyIsSound k

text_key : (o : Option (List ℕ)) → AreBytes o → KeyFits (option_map key.Text o)
text_key None a = tt
text_key (Some bs) a = a

pub key_sound : (n : ℕ) (v : Val) → IsSound n v → KeyFits (key_of v)
key_sound n unit p = tt
key_sound n falsity p = tt
key_sound n truth p = tt
key_sound n (int m) p = tt
key_sound n (char m) p = p
key_sound n (enum m l) p = tt
key_sound n (object m) p = tt
key_sound n (event m) p = tt
key_sound n (task m) p = tt
key_sound n (some w) p = tt
key_sound n (array vs) p = text_key (bytes_of vs) (bytes_sound n vs p)
key_sound n (mapping ps) p = tt
key_sound n (tuple vs) p = tt

pub if_none : {A : Type 0} (b : Bool) (w : A) (o : Option A) → (if b then Some w else o) ≡ None → (b ≡ false) × (o ≡ None)
if_none true w o e = absurd (cc)
if_none false w o e = (refl, e)

pub none_if : {A : Type 0} (b : Bool) (w : A) (o : Option A) → b ≡ false → o ≡ None → (if b then Some w else o) ≡ None
none_if true w o e f = absurd (cc)
none_if false w o e f = f

pub apart : (k l : Key) → key_eq k l ≡ false → key_eq l k ≡ false
apart k l e = laws-law.symm l k ∙ e

-- a key that was absent is so behind an entry of another key
still_absent : (ps : Pairs) (k : Key) (v : Val) (l : Key) → key_eq l k ≡ false → at_key ps l ≡ None → at_key (with_entry ps k v) l ≡ None
still_absent no_pairs k v l e f = none_if (key_eq l k) v None e refl
still_absent (more_pairs j w ps) k v l e f = let g = if_none (key_eq l j) w (at_key ps l) f in
    two (key_eq k j) (none_if (key_eq l j) v (at_key ps l) g.0 g.1)
    (none_if (key_eq l j) w (at_key (with_entry ps k v) l) g.0 (still_absent ps k v l e g.1))
  where
    two : (b : Bool) → at_key (more_pairs j v ps) l ≡ None → at_key (more_pairs j w (with_entry ps k v)) l ≡ None →
        at_key (if b then more_pairs j v ps else more_pairs j w (with_entry ps k v)) l ≡ None
    two true a b = a
    two false a b = b

entry_sound : (n : ℕ) (ps : Pairs) (k : Key) (v : Val) → PairsAreSound n ps → KeyIsSound k → IsSound n v →
    PairsAreSound n (with_entry ps k v)
entry_sound n no_pairs k v a b c = (b, c, refl, tt)
entry_sound n (more_pairs j w ps) k v a b c = two (key_eq k j) refl (entry_sound n ps k v a.3 b c)
  where
    two : (t : Bool) → key_eq k j ≡ t → PairsAreSound n (with_entry ps k v) →
        PairsAreSound n (if t then more_pairs j v ps else more_pairs j w (with_entry ps k v))
    two true e h = (a.0, c, a.2, a.3)
    two false e h = (a.0, a.1, still_absent ps k v j (apart k j e) a.2, h)

abbrev pub EntriesSound : ℕ → List (Key × Val) → Type 0
EntriesSound n es = Each (λ (e : Key × Val). KeyIsSound e.0 × IsSound n e.1) es

entries_sound : (n : ℕ) (ps : Pairs) (es : List (Key × Val)) → PairsAreSound n ps → EntriesSound n es → PairsAreSound n (with_entries ps es)
entries_sound n ps [] a b = a
entries_sound n ps (e ∷ es) a b = entries_sound n (with_entry ps e.0 e.1) es (entry_sound n ps e.0 e.1 a b.0.0 b.0.1) b.1

abbrev pub MaybeEntries : ℕ → Option (List (Key × Val)) → Type 0
MaybeEntries n None = Unit {0}
MaybeEntries n (Some es) = EntriesSound n es

keyed_with_sound : (n : ℕ) (o : Option Key) (v : Val) (es : Option (List (Key × Val))) → KeyFits o → IsSound n v → MaybeEntries n es →
    MaybeEntries n (keyed_with o v es)
keyed_with_sound n None v es a b c = tt
keyed_with_sound n (Some k) v None a b c = tt
keyed_with_sound n (Some k) v (Some es) a b c = ((a, b), c)

paired_sound : (n : ℕ) (vs : List Val) → ValuesFit n vs → MaybeEntries n (keyed (paired vs))
paired_sound n [] a = tt
paired_sound n (k ∷ []) a = tt
paired_sound n (k ∷ v ∷ vs) a = keyed_with_sound n (key_of k) v (keyed (paired vs)) (key_sound n k a.0.sound) a.1.0.sound
    (paired_sound n vs a.1.1)

sized_map_fits : (n : ℕ) (o : Option (List (Key × Val))) → MaybeEntries n o → AnswerFits n (sized_map o)
sized_map_fits n None a = tt
sized_map_fits n (Some es) a = sized_fits n (mapping (with_entries no_pairs es)) (entries_sound n no_pairs es tt a)

pub map_fits : (n : ℕ) (vs : List Val) → ValuesFit n vs → AnswerFits n (map_of (paired vs))
map_fits n vs a = sized_map_fits n (keyed (paired vs)) (paired_sound n vs a)

pub at_key_fits : (n : ℕ) (ps : Pairs) (k : Key) → pair_weights ps ≤ 4000000 → most_pair_levels ps ≤ 200 → PairsAreSound n ps →
    OneFits n (at_key ps k)
at_key_fits n no_pairs k e f a = tt
at_key_fits n (more_pairs l v ps) k e f a = two (key_eq k l) (at_key_fits n ps k (omega (arith, e)) (omega (arith, f)) a.3)
  where
    two : (b : Bool) → OneFits n (at_key ps k) → OneFits n (if b then Some v else at_key ps k)
    two true h = record { small = fits_of v (omega (arith, e)) (omega (arith, f)); sound = a.1 }
    two false h = h

abbrev pub StepFits : ℕ → Step → Type 0
StepFits n (part v) = ValueFits n v
StepFits n outside = Unit {0}
StepFits n absent = Unit {0}
StepFits n misfit = Unit {0}

part_fits : (n : ℕ) (x : Step) (o : Option Val) → StepFits n x → OneFits n o → StepFits n (part_or x o)
part_fits n x None a b = a
part_fits n x (Some v) a b = b

in_array_fits : (n : ℕ) (vs : Vals) (i : Val) → ((k : ℕ) → OneFits n (nth vs k)) → StepFits n (in_array vs i)
in_array_fits n vs unit h = tt
in_array_fits n vs falsity h = tt
in_array_fits n vs truth h = tt
in_array_fits n vs (int (pos m)) h = part_fits n outside (nth vs m) tt (h m)
in_array_fits n vs (int (negsuc m)) h = tt
in_array_fits n vs (char m) h = tt
in_array_fits n vs (enum m l) h = tt
in_array_fits n vs (object m) h = tt
in_array_fits n vs (event m) h = tt
in_array_fits n vs (task m) h = tt
in_array_fits n vs (some w) h = tt
in_array_fits n vs (array ws) h = tt
in_array_fits n vs (mapping ps) h = tt
in_array_fits n vs (tuple ws) h = tt

in_map_fits : (n : ℕ) (ps : Pairs) (k : Option Key) → ((l : Key) → OneFits n (at_key ps l)) → StepFits n (in_map ps k)
in_map_fits n ps None h = tt
in_map_fits n ps (Some k) h = part_fits n absent (at_key ps k) tt (h k)

parts_fit : (n : ℕ) (vs : Vals) → ValueFits n (array vs) → (k : ℕ) → OneFits n (nth vs k)
parts_fit n vs p k = let s = small_of (array vs) p.small in
    nth_fits n vs k (inside (weights vs) 4000000 s.0) (inside (most_levels vs) 200 s.1) p.sound

entries_fit : (n : ℕ) (ps : Pairs) → ValueFits n (mapping ps) → (k : Key) → OneFits n (at_key ps k)
entries_fit n ps p k = let s = small_of (mapping ps) p.small in
    at_key_fits n ps k (inside (pair_weights ps) 4000000 s.0) (inside (most_pair_levels ps) 200 s.1) p.sound

step_fits : (n : ℕ) (a i : Val) → ValueFits n a → StepFits n (step_in a i)
step_fits n unit i p = tt
step_fits n falsity i p = tt
step_fits n truth i p = tt
step_fits n (int m) i p = tt
step_fits n (char m) i p = tt
step_fits n (enum m l) i p = tt
step_fits n (object m) i p = tt
step_fits n (event m) i p = tt
step_fits n (task m) i p = tt
step_fits n (some w) i p = tt
step_fits n (array vs) i p = in_array_fits n vs i (parts_fit n vs p)
step_fits n (mapping ps) i p = in_map_fits n ps (key_of i) (entries_fit n ps p)
step_fits n (tuple vs) i p = tt

answer_fits : (n : ℕ) (x : Step) → StepFits n x → AnswerFits n (step_answer x)
answer_fits n (part v) a = a
answer_fits n outside a = tt
answer_fits n absent a = tt
answer_fits n misfit a = tt

pub at_fits : (n : ℕ) (a b : Val) → ValueFits n a → ValueFits n b → AnswerFits n (at_of a b)
at_fits n a b p q = answer_fits n (step_in a b) (step_fits n a b p)

-- ---- what a generator takes

abbrev pub TakenFits : ℕ → Taken → Type 0
TakenFits n ended = Unit {0}
TakenFits n (takes v k i x) = ValueFits n v × ValueFits n k × ValueFits n x
TakenFits n unfit = Unit {0}

abbrev pub TwoFit : ℕ → Answer (Val × Val) → Type 0
TwoFit n (gives x) = ValueFits n x.0 × ValueFits n x.1
TwoFit n fails = Unit {0}
TwoFit n (error k) = Unit {0}
TwoFit n stuck = Unit {0}

at_place_fits : (n i : ℕ) (a : Answer (Val × Val)) → TwoFit n a → TakenFits n (taken_at i a)
at_place_fits n i (gives x) a = (a.0, a.1, int_fits n (pos (suc i)))
at_place_fits n i fails a = tt
at_place_fits n i (error k) a = tt
at_place_fits n i stuck a = tt

taken_part : (n i : ℕ) (o : Option Val) → OneFits n o → TwoFit n (given_or fails (option_map (λ v. (v, int (pos i))) o))
taken_part n i None a = tt
taken_part n i (Some v) a = (a, int_fits n (pos i))

key_val_fits : (n : ℕ) (k : Key) → KeyIsSound k → key_weight k ≤ 4000000 → ValueFits n (key_val k)
key_val_fits n (key.Int m) a e = int_fits n m
key_val_fits n (key.Logic true) a e = truth_fits n
key_val_fits n (key.Logic false) a e = falsity_fits n
key_val_fits n (key.Char m) a e = char_fits n m a
key_val_fits n (key.Enum m i) a e = enum_fits n m i
key_val_fits n (key.Text bs) a e = short_text_fits n bs (omega (arith, e)) a

abbrev pub EntryFits : ℕ → Option (Val × Val) → Type 0
EntryFits n None = Unit {0}
EntryFits n (Some x) = ValueFits n x.0 × ValueFits n x.1

nth_entry_fits : (n : ℕ) (ps : Pairs) (i : ℕ) → pair_weights ps ≤ 4000000 → most_pair_levels ps ≤ 200 → PairsAreSound n ps →
    EntryFits n (nth_entry ps i)
nth_entry_fits n no_pairs i e f a = tt
nth_entry_fits n (more_pairs k v ps) zero e f a = (
  record { small = fits_of v (omega (arith, e)) (omega (arith, f)); sound = a.1 },
  key_val_fits n k a.0 (omega (arith, e)),
)
nth_entry_fits n (more_pairs k v ps) (suc i) e f a = nth_entry_fits n ps i (omega (arith, e)) (omega (arith, f)) a.3

taken_entry : (n : ℕ) (o : Option (Val × Val)) → EntryFits n o → TwoFit n (given_or fails o)
taken_entry n None a = tt
taken_entry n (Some x) a = a

cond_taken : (n : ℕ) (b : Bool) (x y : Taken) → TakenFits n x → TakenFits n y → TakenFits n (cond b x y)
cond_taken n true x y a b = a
cond_taken n false x y a b = b

low_fits : (n : ℕ) (b : Bool) (z : ℤ) → ValueFits n (cond b unit (int z))
low_fits n true z = unit_fits n
low_fits n false z = int_fits n z

pub taken_from_fits : (n : ℕ) (a b : Val) → ValueFits n a → ValueFits n b → TakenFits n (taken_from a b)
taken_from_fits n unit unit p q = tt
taken_from_fits n unit falsity p q = tt
taken_from_fits n unit truth p q = tt
taken_from_fits n unit (int j) p q = tt
taken_from_fits n unit (char j) p q = tt
taken_from_fits n unit (enum j l) p q = tt
taken_from_fits n unit (object j) p q = tt
taken_from_fits n unit (event j) p q = tt
taken_from_fits n unit (task j) p q = tt
taken_from_fits n unit (some u) p q = tt
taken_from_fits n unit (array ws) p q = tt
taken_from_fits n unit (mapping qs) p q = tt
taken_from_fits n unit (tuple us) p q = tt
taken_from_fits n falsity b p q = tt
taken_from_fits n truth b p q = tt
taken_from_fits n (int m) unit p q = tt
taken_from_fits n (int m) falsity p q = tt
taken_from_fits n (int m) truth p q = tt
taken_from_fits n (int m) (int j) p q = cond_taken n (int_le m j) (takes (int m) unit 0 (next_low m j)) ended
    (int_fits n m, unit_fits n, low_fits n (int_eq m j) (m +ℤ pos 1)) tt
taken_from_fits n (int m) (char j) p q = tt
taken_from_fits n (int m) (enum j l) p q = tt
taken_from_fits n (int m) (object j) p q = tt
taken_from_fits n (int m) (event j) p q = tt
taken_from_fits n (int m) (task j) p q = tt
taken_from_fits n (int m) (some u) p q = tt
taken_from_fits n (int m) (array ws) p q = tt
taken_from_fits n (int m) (mapping qs) p q = tt
taken_from_fits n (int m) (tuple us) p q = tt
taken_from_fits n (char m) b p q = tt
taken_from_fits n (enum m l) b p q = tt
taken_from_fits n (object m) b p q = tt
taken_from_fits n (event m) b p q = tt
taken_from_fits n (task m) b p q = tt
taken_from_fits n (some w) b p q = tt
taken_from_fits n (array vs) unit p q = tt
taken_from_fits n (array vs) falsity p q = tt
taken_from_fits n (array vs) truth p q = tt
taken_from_fits n (array vs) (int (pos j)) p q = at_place_fits n j (taken_of (array vs) j) (taken_part n j (nth vs j) (parts_fit n vs p j))
taken_from_fits n (array vs) (int (negsuc j)) p q = tt
taken_from_fits n (array vs) (char j) p q = tt
taken_from_fits n (array vs) (enum j l) p q = tt
taken_from_fits n (array vs) (object j) p q = tt
taken_from_fits n (array vs) (event j) p q = tt
taken_from_fits n (array vs) (task j) p q = tt
taken_from_fits n (array vs) (some u) p q = tt
taken_from_fits n (array vs) (array ws) p q = tt
taken_from_fits n (array vs) (mapping qs) p q = tt
taken_from_fits n (array vs) (tuple us) p q = tt
taken_from_fits n (mapping ps) unit p q = tt
taken_from_fits n (mapping ps) falsity p q = tt
taken_from_fits n (mapping ps) truth p q = tt
taken_from_fits n (mapping ps) (int (pos j)) p q = let s = small_of (mapping ps) p.small in at_place_fits n j (taken_of (mapping ps) j)
    (taken_entry n (nth_entry ps j) (nth_entry_fits n ps j (inside (pair_weights ps) 4000000 s.0) (inside (most_pair_levels ps) 200 s.1)
    p.sound))
taken_from_fits n (mapping ps) (int (negsuc j)) p q = tt
taken_from_fits n (mapping ps) (char j) p q = tt
taken_from_fits n (mapping ps) (enum j l) p q = tt
taken_from_fits n (mapping ps) (object j) p q = tt
taken_from_fits n (mapping ps) (event j) p q = tt
taken_from_fits n (mapping ps) (task j) p q = tt
taken_from_fits n (mapping ps) (some u) p q = tt
taken_from_fits n (mapping ps) (array ws) p q = tt
taken_from_fits n (mapping ps) (mapping qs) p q = tt
taken_from_fits n (mapping ps) (tuple us) p q = tt
taken_from_fits n (tuple vs) b p q = tt
