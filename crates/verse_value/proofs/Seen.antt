-- What is seen of the parts of a value.
use Rattle.std.proofs.Common.{◌≡◌, ℕ, zero, suc, ◌<◌, ◌≤◌, ◌-◌, List, [], ◌∷◌, ◌++◌, length, zip, slice_set, take, drop, get_or, Some, None}
use Rattle.std.proofs.Common.{arith, refl, sym, ap, ◌∙◌}
use Rattle.verse_value.specs.declared.keys.Key.{Key}
use Rattle.verse_value.specs.declared.values.Value.{Value}
use Rattle.verse_value.specs.View.{val_of, vals_of}
use Rattle.verse_value.specs.Val.{Val, Vals, no_vals, more_vals, vals, Pairs, no_pairs, more_pairs, pairs}
use Rattle.verse_value.specs.Bulk.{bulk, bulks, pair_bulks}
use Rattle.verse_value.specs.Places.{nth, with_nth, with_last, without_last}
use Rattle.verse_value.specs.Parts.{first, keys_in, vals_in, pair_set, joined}
use Rattle.verse_value.specs.Operations.{count, entry_count}

count_seen : (xs : List Value) → count (vals (vals_of xs)) ≡ length xs
count_seen [] = refl
count_seen (x ∷ xs) = ap suc (count_seen xs)

pub count_is : (xs : List Value) (vs : Vals) → vals (vals_of xs) ≡ vs → length xs ≡ count vs
count_is xs vs is = sym (count_seen xs) ∙ ap count is

pub nth_here : (xs : List Value) (i : ℕ) (x : Value) → i < length xs → x ≡ get_or xs i x → Some (val_of x) ≡ nth (vals (vals_of xs)) i
nth_here [] i x h e = absurd (omega arith)
nth_here (y ∷ xs) zero x h e = ap (λ z. Some (val_of z)) e
nth_here (y ∷ xs) (suc i) x h e = nth_here xs i x (omega arith) e

pub nth_past : (xs : List Value) (i : ℕ) → length xs ≤ i → None ≡ nth (vals (vals_of xs)) i
nth_past [] i h = refl
nth_past (x ∷ xs) zero h = absurd (omega arith)
nth_past (x ∷ xs) (suc i) h = nth_past xs i (omega arith)

pub set_seen : (xs : List Value) (i : ℕ) (y : Value) → vals (vals_of (slice_set xs i y)) ≡ with_nth (vals (vals_of xs)) i (λ _. val_of y)
set_seen [] i y = refl
set_seen (x ∷ xs) zero y = refl
set_seen (x ∷ xs) (suc i) y = ap (more_vals (val_of x)) (set_seen xs i y)

pub joined_seen : (xs ys : List Value) → vals (vals_of (xs ++ ys)) ≡ joined (vals (vals_of xs)) (vals (vals_of ys))
joined_seen [] ys = refl
joined_seen (x ∷ xs) ys = ap (more_vals (val_of x)) (joined_seen xs ys)

pub first_seen : (n : ℕ) (xs : List Value) → vals (vals_of (take n xs)) ≡ first n (vals (vals_of xs))
first_seen zero xs = refl
first_seen (suc n) [] = refl
first_seen (suc n) (x ∷ xs) = ap (more_vals (val_of x)) (first_seen n xs)

pub first_all : (n : ℕ) (vs : Vals) → count vs ≤ n → vs ≡ first n vs
first_all zero no_vals h = refl
first_all (suc n) no_vals h = refl
first_all zero (more_vals v vs) h = absurd (omega arith)
first_all (suc n) (more_vals v vs) h = ap (more_vals v) (first_all n vs (omega arith))

-- a map's keys and its values
pub keys_seen : (ks : List Key) (vs : List Value) → length vs ≡ length ks → keys_in (pairs (zip ks (vals_of vs))) ≡ ks
keys_seen [] vs long = refl
keys_seen (k ∷ ks) [] long = absurd (omega arith)
keys_seen (k ∷ ks) (v ∷ vs) long = ap (λ l. k ∷ l) (keys_seen ks vs (omega arith))

pub vals_seen : (ks : List Key) (vs : List Value) → length vs ≡ length ks → vals_in (pairs (zip ks (vals_of vs))) ≡ vals (vals_of vs)
vals_seen [] [] long = refl
vals_seen [] (v ∷ vs) long = absurd (omega arith)
vals_seen (k ∷ ks) [] long = absurd (omega arith)
vals_seen (k ∷ ks) (v ∷ vs) long = ap (more_vals (val_of v)) (vals_seen ks vs (omega arith))

pub count_in : (ps : Pairs) → count (vals_in ps) ≡ entry_count ps
count_in no_pairs = refl
count_in (more_pairs k v ps) = ap suc (count_in ps)

pub key_count_in : (ps : Pairs) → length (keys_in ps) ≡ entry_count ps
key_count_in no_pairs = refl
key_count_in (more_pairs k v ps) = ap suc (key_count_in ps)

-- a map is its keys beside its values
abbrev side_by_side : List Key → Vals → Pairs
side_by_side [] vs = no_pairs
side_by_side (k ∷ ks) no_vals = no_pairs
side_by_side (k ∷ ks) (more_vals v vs) = more_pairs k v (side_by_side ks vs)

sides : (ps : Pairs) → side_by_side (keys_in ps) (vals_in ps) ≡ ps
sides no_pairs = refl
sides (more_pairs k v ps) = ap (more_pairs k v) (sides ps)

pub same_pairs : (ps qs : Pairs) → keys_in ps ≡ keys_in qs → vals_in ps ≡ vals_in qs → ps ≡ qs
same_pairs ps qs p q = sym (sides ps) ∙ (λ i. side_by_side (p i) (q i)) ∙ sides qs

pub pair_set_seen : (ks : List Key) (vs : List Value) (i : ℕ) (y : Value) → length vs ≡ length ks →
    pairs (zip ks (vals_of (slice_set vs i y))) ≡ pair_set (pairs (zip ks (vals_of vs))) i (val_of y)
pair_set_seen [] [] i y long = refl
pair_set_seen [] (v ∷ vs) i y long = absurd (omega arith)
pair_set_seen (k ∷ ks) [] i y long = absurd (omega arith)
pair_set_seen (k ∷ ks) (v ∷ vs) zero y long = refl
pair_set_seen (k ∷ ks) (v ∷ vs) (suc i) y long = ap (more_pairs k (val_of v)) (pair_set_seen ks vs i y (omega arith))

pub push_seen : (ks : List Key) (vs : List Value) (k : Key) (v : Value) → length vs ≡ length ks →
    pairs (zip (ks ++ k ∷ []) (vals_of (vs ++ v ∷ []))) ≡ with_last (pairs (zip ks (vals_of vs))) k (val_of v)
push_seen [] [] k v long = refl
push_seen [] (w ∷ vs) k v long = absurd (omega arith)
push_seen (l ∷ ks) [] k v long = absurd (omega arith)
push_seen (l ∷ ks) (w ∷ vs) k v long = ap (more_pairs l (val_of w)) (push_seen ks vs k v (omega arith))

pub without_with : (ps : Pairs) (k : Key) (v : Val) → without_last (with_last ps k v) ≡ ps
without_with no_pairs k v = refl
without_with (more_pairs l w no_pairs) k v = refl
without_with (more_pairs l w (more_pairs m x ps)) k v = ap (more_pairs l w) (without_with (more_pairs m x ps) k v)

-- an item is less bulky than its list
bulks_some : (vs : Vals) → 1 ≤ bulks vs
bulks_some no_vals = omega arith
bulks_some (more_vals v vs) = omega arith

pub item_bulk : (xs : List Value) (i : ℕ) (x : Value) → i < length xs → x ≡ get_or xs i x → bulk (val_of x) < bulks (vals (vals_of xs))
item_bulk [] i x h e = absurd (omega arith)
item_bulk (y ∷ xs) zero x h e = omega (arith, ap (λ z. bulk (val_of z)) e, bulks_some (vals (vals_of xs)))
item_bulk (y ∷ xs) (suc i) x h e = omega (arith, item_bulk xs i x (omega arith) e)

pub bulks_in : (ps : Pairs) → bulks (vals_in ps) ≡ pair_bulks ps
bulks_in no_pairs = refl
bulks_in (more_pairs k v ps) = omega (arith, bulks_in ps)

pub rest_bulks : (xs : List Value) → bulks (vals (vals_of (drop 1 xs))) ≤ bulks (vals (vals_of xs))
rest_bulks [] = omega arith
rest_bulks (x ∷ xs) = omega arith

-- the rest behind the first so many, up to the end
take_all : (xs : List Value) → take (length xs) xs ≡ xs
take_all [] = refl
take_all (x ∷ xs) = ap (λ l. x ∷ l) (take_all xs)

take_none : (n : ℕ) → take {A = Value} n [] ≡ []
take_none zero = refl
take_none (suc n) = refl

pub rest_all : (n : ℕ) (xs : List Value) → take (length xs - n) (drop n xs) ≡ drop n xs
rest_all zero xs = ap (λ m. take m xs) (omega arith) ∙ take_all xs
rest_all (suc n) [] = take_none (0 - suc n)
rest_all (suc n) (x ∷ xs) = ap (λ m. take m (drop n xs)) (omega arith) ∙ rest_all n xs

-- as many keys as values
pub as_many : (ks : List Key) (vs : List Value) (ps : Pairs) → ks ≡ keys_in ps → vals (vals_of vs) ≡ vals_in ps → length vs ≡ length ks
as_many ks vs ps p q = count_is vs (vals_in ps) q ∙ count_in ps ∙ sym (key_count_in ps) ∙ ap length (sym p)

pub zipped : (ks : List Key) (vs : List Value) (ps : Pairs) → ks ≡ keys_in ps → vals (vals_of vs) ≡ vals_in ps →
    pairs (zip ks (vals_of vs)) ≡ ps
zipped ks vs ps p q =
    same_pairs (pairs (zip ks (vals_of vs))) ps (keys_seen ks vs (as_many ks vs ps p q) ∙ p) (vals_seen ks vs (as_many ks vs ps p q) ∙ q)
