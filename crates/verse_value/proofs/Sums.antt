-- Weights and levels of parts after a change of them.
use Rattle.std.proofs.Common.{◌≡◌, ℕ, zero, suc, ◌+◌, ◌≤◌, ◌-◌, min, max, List, [], ◌∷◌, ◌++◌, length, length-append, zip, slice_set, take}
use Rattle.std.proofs.Common.{drop, Some, arith, refl, sym, ap, subst, ◌∙◌}
use Rattle.verse_value.specs.declared.keys.Key.{Key}
use Rattle.verse_value.specs.declared.kept.Size.{Size}
use Rattle.verse_value.specs.declared.values.Value.{Value}
use Rattle.verse_value.specs.View.{val_of, vals_of}
use Rattle.verse_value.specs.Val.{Val, Vals, no_vals, more_vals, vals, Pairs, no_pairs, more_pairs, pairs}
use Rattle.verse_value.specs.Sizes.{weight_of, weights, pair_weights, key_weight, keys_weight, levels_of, most_levels, most_pair_levels}
use Rattle.verse_value.specs.Places.{nth, with_nth, with_last}
use Rattle.verse_value.specs.Parts.{keys_in, vals_in, joined}
use Rattle.verse_value.specs.Kept.{Measures, Resizes}
use Rattle.verse_value.specs.Keys.{chars}
use Rattle.verse_value.proofs.Seen.{set_seen, joined_seen, keys_seen, vals_seen, push_seen}

part_within : (vs : Vals) (i : ℕ) (v : Val) → nth vs i ≡ Some v → weight_of v ≤ weights vs
part_within no_vals i v e = absurd (cc)
part_within (more_vals w vs) zero v e = let same : w ≡ v = cc in omega (arith, ap weight_of same)
part_within (more_vals w vs) (suc i) v e = omega (arith, part_within vs i v e)

set_weights : (vs : Vals) (i : ℕ) (v w : Val) → nth vs i ≡ Some v →
    weights (with_nth vs i (λ _. w)) + weight_of v ≡ weights vs + weight_of w
set_weights no_vals i v w e = absurd (cc)
set_weights (more_vals x vs) zero v w e = let same : x ≡ v = cc in omega (arith, ap weight_of same)
set_weights (more_vals x vs) (suc i) v w e = omega (arith, set_weights vs i v w e)

set_levels : (vs : Vals) (i : ℕ) (w : Val) → most_levels (with_nth vs i (λ _. w)) ≤ max (most_levels vs) (levels_of w)
set_levels no_vals i w = omega arith
set_levels (more_vals x vs) zero w = omega arith
set_levels (more_vals x vs) (suc i) w = omega (arith, set_levels vs i w)

joined_weights : (vs ws : Vals) → weights (joined vs ws) ≡ weights vs + weights ws
joined_weights no_vals ws = omega arith
joined_weights (more_vals v vs) ws = omega (arith, joined_weights vs ws)

joined_levels : (vs ws : Vals) → most_levels (joined vs ws) ≡ max (most_levels vs) (most_levels ws)
joined_levels no_vals ws = omega arith
joined_levels (more_vals v vs) ws = omega (arith, joined_levels vs ws)

cut_weights : (n : ℕ) (xs : List Value) → weights (vals (vals_of (take n xs))) + weights (vals (vals_of (drop n xs))) ≡
    weights (vals (vals_of xs))
cut_weights zero xs = omega arith
cut_weights (suc n) [] = omega arith
cut_weights (suc n) (x ∷ xs) = omega (arith, cut_weights n xs)

cut_levels : (n : ℕ) (xs : List Value) → most_levels (vals (vals_of (take n xs))) ≤ most_levels (vals (vals_of xs))
cut_levels zero xs = omega arith
cut_levels (suc n) [] = omega arith
cut_levels (suc n) (x ∷ xs) = omega (arith, cut_levels n xs)

-- the size of no parts
abbrev pub IsNothing : Size → Type 0
IsNothing size = size ≡ record { weight = 0; levels = 0 }

none_measures : (size : Size) → IsNothing size → Measures size 0 0
none_measures size is = record { exact = omega (arith, ap (λ (s : Size). s.weight) is); bound = omega arith }

-- the size of parts after a change
module _ (xs ys : List Value) (whole before after size : Size)
    (kept : Measures whole (1 + weights (vals (vals_of xs))) (1 + most_levels (vals (vals_of xs)))) (zs : List Value) (counted : zs ≡ ys)
    (told : Resizes whole before after (weights (vals (vals_of zs))) (most_levels (vals (vals_of zs))) size) where
  made : Resizes whole before after (weights (vals (vals_of ys))) (most_levels (vals (vals_of ys))) size
  made = subst (λ (l : List Value). Resizes whole before after (weights (vals (vals_of l))) (most_levels (vals (vals_of l))) size) counted
      told

  abbrev pub Kept : Type 0
  Kept = Measures size (1 + weights (vals (vals_of ys))) (1 + most_levels (vals (vals_of ys)))

  pub set_kept : (i : ℕ) (old new : Value) → ys ≡ slice_set xs i new → Some (val_of old) ≡ nth (vals (vals_of xs)) i →
      Measures before (weight_of (val_of old)) (levels_of (val_of old)) → Measures after (weight_of (val_of new)) (levels_of (val_of new)) →
      Kept
  set_kept i old new is here b a =
      let seen : vals (vals_of ys) ≡ with_nth (vals (vals_of xs)) i (λ _. val_of new) =
      ap (λ (l : List Value). vals (vals_of l)) is ∙ set_seen xs i new in
      made (weights (vals (vals_of xs))) (weight_of (val_of old)) (weight_of (val_of new)) (most_levels (vals (vals_of xs)))
      (levels_of (val_of old)) (levels_of (val_of new)) kept b a
      (omega (arith, ap weights seen, set_weights (vals (vals_of xs)) i (val_of old) (val_of new) (sym here)))
      (part_within (vals (vals_of xs)) i (val_of old) (sym here))
      (omega (arith, ap most_levels seen, set_levels (vals (vals_of xs)) i (val_of new)))

  pub push_kept : (new : Value) → ys ≡ xs ++ new ∷ [] → IsNothing before →
      Measures after (weight_of (val_of new)) (levels_of (val_of new)) → Kept
  push_kept new is n a =
      let b : Measures before 0 0 = none_measures before n in
      let seen : vals (vals_of ys) ≡ joined (vals (vals_of xs)) (vals (vals_of (new ∷ []))) =
      ap (λ (l : List Value). vals (vals_of l)) is ∙ joined_seen xs (new ∷ []) in
      made (weights (vals (vals_of xs))) 0 (weight_of (val_of new)) (most_levels (vals (vals_of xs))) 0 (levels_of (val_of new)) kept b a
      (omega (arith, ap weights seen, joined_weights (vals (vals_of xs)) (vals (vals_of (new ∷ [])))))
      (omega arith)
      (omega (arith, ap most_levels seen, joined_levels (vals (vals_of xs)) (vals (vals_of (new ∷ [])))))

  pub cut_kept : (n : ℕ) → ys ≡ take n xs →
      Measures before (weights (vals (vals_of (drop n xs)))) (most_levels (vals (vals_of (drop n xs)))) → IsNothing after → Kept
  cut_kept n is b e =
      let a : Measures after 0 0 = none_measures after e in
      made (weights (vals (vals_of xs))) (weights (vals (vals_of (drop n xs)))) 0 (most_levels (vals (vals_of xs)))
      (most_levels (vals (vals_of (drop n xs)))) 0 kept b a
      (omega (arith, ap (λ (l : List Value). weights (vals (vals_of l))) is, cut_weights n xs))
      (omega (arith, cut_weights n xs))
      (omega (arith, ap (λ (l : List Value). most_levels (vals (vals_of l))) is, cut_levels n xs))

pub joined_kept : (xs ys zs : List Value) (whole other size : Size) → zs ≡ xs ++ ys →
    Measures whole (1 + weights (vals (vals_of xs))) (1 + most_levels (vals (vals_of xs))) →
    Measures other (1 + weights (vals (vals_of ys))) (1 + most_levels (vals (vals_of ys)))
    → size.weight ≡ min (whole.weight + (other.weight - 1)) 18446744073709551615 → size.levels ≡ max whole.levels other.levels →
    Measures size (1 + weights (vals (vals_of zs))) (1 + most_levels (vals (vals_of zs)))
joined_kept xs ys zs whole other size is k l w d =
    let seen : vals (vals_of zs) ≡ joined (vals (vals_of xs)) (vals (vals_of ys)) =
    ap (λ (l : List Value). vals (vals_of l)) is ∙ joined_seen xs ys in record {
      exact = omega (arith, k.exact, l.exact, w, ap weights seen, joined_weights (vals (vals_of xs)) (vals (vals_of ys)));
      bound = omega (arith, k.bound, l.bound, d, ap most_levels seen, joined_levels (vals (vals_of xs)) (vals (vals_of ys)));
    }

-- a map's size is its keys' and its values'
pub weights_in : (ps : Pairs) → pair_weights ps ≡ keys_weight (keys_in ps) + weights (vals_in ps)
weights_in no_pairs = refl
weights_in (more_pairs k v ps) = omega (arith, weights_in ps)

pub levels_in : (ps : Pairs) → most_pair_levels ps ≡ most_levels (vals_in ps)
levels_in no_pairs = refl
levels_in (more_pairs k v ps) = rw (levels_in ps) refl

pub weights_seen : (ks : List Key) (vs : List Value) → length vs ≡ length ks →
    pair_weights (pairs (zip ks (vals_of vs))) ≡ keys_weight ks + weights (vals (vals_of vs))
weights_seen ks vs long = weights_in (pairs (zip ks (vals_of vs))) ∙
    (λ i. keys_weight (keys_seen ks vs long i) + weights (vals_seen ks vs long i))

pub levels_seen : (ks : List Key) (vs : List Value) → length vs ≡ length ks →
    most_pair_levels (pairs (zip ks (vals_of vs))) ≡ most_levels (vals (vals_of vs))
levels_seen ks vs long = levels_in (pairs (zip ks (vals_of vs))) ∙ ap most_levels (vals_seen ks vs long)

pub last_weights : (ps : Pairs) (k : Key) (v : Val) → pair_weights (with_last ps k v) ≡ pair_weights ps + (key_weight k + weight_of v)
last_weights no_pairs k v = omega arith
last_weights (more_pairs l w ps) k v = omega (arith, last_weights ps k v)

last_levels : (ps : Pairs) (k : Key) (v : Val) → most_pair_levels (with_last ps k v) ≡ max (most_pair_levels ps) (levels_of v)
last_levels no_pairs k v = omega arith
last_levels (more_pairs l w ps) k v = omega (arith, last_levels ps k v)

abbrev pub MapKept : List Key → List Value → Size → Type 0
MapKept ks vs size = (length vs ≡ length ks) × Measures size (1 + pair_weights (pairs (zip ks (vals_of vs))))
    (1 + most_pair_levels (pairs (zip ks (vals_of vs))))

-- what a call that counts keys and values tells of them
abbrev pub ResizesMap : Size → Size → Size → List Key → List Value → Size → Type 0
ResizesMap whole before after ks vs size =
    Resizes whole before after (keys_weight ks + weights (vals (vals_of vs))) (most_levels (vals (vals_of vs))) size

pub counted : (whole before after size : Size) (ks ls : List Key) (vs ws : List Value) → ks ≡ ls → vs ≡ ws →
    ResizesMap whole before after ks vs size → ResizesMap whole before after ls ws size
counted whole before after size ks ls vs ws p q told =
    subst (λ (l : List Key). ResizesMap whole before after l ws size) p
    (subst (λ (w : List Value). ResizesMap whole before after ks w size) q told)

pub from_counts : (ks : List Key) (vs : List Value) (size : Size) → length vs ≡ length ks →
    Measures size (1 + (keys_weight ks + weights (vals (vals_of vs)))) (1 + most_levels (vals (vals_of vs))) → MapKept ks vs size
from_counts ks vs size long m = (
  long,
  record {
    exact = omega (arith, m.exact, weights_seen ks vs long);
    bound =
        omega (arith, m.bound, levels_seen ks vs long);
  },
)

to_counts : (ks : List Key) (vs : List Value) (size : Size) → MapKept ks vs size →
    Measures size (1 + (keys_weight ks + weights (vals (vals_of vs)))) (1 + most_levels (vals (vals_of vs)))
to_counts ks vs size m = record {
  exact = omega (arith, m.1.exact, weights_seen ks vs m.0);
  bound =
      omega (arith, m.1.bound, levels_seen ks vs m.0);
}

module _ (ks : List Key) (vs : List Value) (whole before after size : Size) (kept : MapKept ks vs whole) where
  pub map_set_kept : (ws : List Value) (i : ℕ) (old new : Value) → ws ≡ slice_set vs i new → length ws ≡ length ks →
      Some (val_of old) ≡ nth (vals (vals_of vs)) i → Measures before (weight_of (val_of old)) (levels_of (val_of old)) →
      Measures after (weight_of (val_of new)) (levels_of (val_of new))
      → ResizesMap whole before after ks ws size → MapKept ks ws size
  map_set_kept ws i old new is long here b a made =
      let seen : vals (vals_of ws) ≡ with_nth (vals (vals_of vs)) i (λ _. val_of new) =
      ap (λ (l : List Value). vals (vals_of l)) is ∙ set_seen vs i new in
      from_counts ks ws size long (made (keys_weight ks + weights (vals (vals_of vs))) (weight_of (val_of old)) (weight_of (val_of new))
      (most_levels (vals (vals_of vs))) (levels_of (val_of old)) (levels_of (val_of new)) (to_counts ks vs whole kept) b a
      (omega (arith, ap weights seen, set_weights (vals (vals_of vs)) i (val_of old) (val_of new) (sym here)))
      (omega (arith, part_within (vals (vals_of vs)) i (val_of old) (sym here)))
      (omega (arith, ap most_levels seen, set_levels (vals (vals_of vs)) i (val_of new))))

  -- one entry more
  pub map_push_kept : (ls : List Key) (ws : List Value) (k : Key) (v : Value) → ls ≡ ks ++ k ∷ [] → ws ≡ vs ++ v ∷ [] → IsNothing before →
      Measures after (key_weight k + weight_of (val_of v)) (levels_of (val_of v)) → ResizesMap whole before after ls ws size →
      MapKept ls ws size
  map_push_kept ls ws k v p q n a made =
      let b : Measures before 0 0 = none_measures before n in
      let long : length ws ≡ length ls = omega (
        arith,
        ap length p,
        ap length q,
        length-append ks (k ∷ []),
        length-append vs (v ∷ []),
        kept.0,
      ) in
      let seen : pairs (zip ls (vals_of ws)) ≡ with_last (pairs (zip ks (vals_of vs))) k (val_of v) =
      (λ i. pairs (zip (p i) (vals_of (q i)))) ∙ push_seen ks vs k v kept.0 in
      from_counts ls ws size long (made (keys_weight ks + weights (vals (vals_of vs))) 0 (key_weight k + weight_of (val_of v))
      (most_levels (vals (vals_of vs))) 0 (levels_of (val_of v)) (to_counts ks vs whole kept) b a
      (omega (
        arith,
        weights_seen ls ws long,
        weights_seen ks vs kept.0,
        ap pair_weights seen,
        last_weights (pairs (zip ks (vals_of vs))) k (val_of v),
      ))
      (omega arith)
      (omega (
        arith,
        levels_seen ls ws long,
        levels_seen ks vs kept.0,
        ap most_pair_levels seen,
        last_levels (pairs (zip ks (vals_of vs))) k (val_of v),
      )))

  -- one entry less
  pub map_pop_kept : (ls : List Key) (ws : List Value) (k : Key) (v : Value) → ks ≡ ls ++ k ∷ [] → vs ≡ ws ++ v ∷ [] →
      Measures before (key_weight k + weight_of (val_of v)) (levels_of (val_of v)) → IsNothing after →
      ResizesMap whole before after ls ws size → MapKept ls ws size
  map_pop_kept ls ws k v p q b n made =
      let a : Measures after 0 0 = none_measures after n in
      let long : length ws ≡ length ls = omega (
        arith,
        ap length p,
        ap length q,
        length-append ls (k ∷ []),
        length-append ws (v ∷ []),
        kept.0,
      ) in
      let seen : pairs (zip ks (vals_of vs)) ≡ with_last (pairs (zip ls (vals_of ws))) k (val_of v) =
      (λ i. pairs (zip (p i) (vals_of (q i)))) ∙ push_seen ls ws k v long in
      from_counts ls ws size long (made (keys_weight ks + weights (vals (vals_of vs))) (key_weight k + weight_of (val_of v)) 0
      (most_levels (vals (vals_of vs))) (levels_of (val_of v)) 0 (to_counts ks vs whole kept) b a
      (omega (
        arith,
        weights_seen ls ws long,
        weights_seen ks vs kept.0,
        ap pair_weights seen,
        last_weights (pairs (zip ls (vals_of ws))) k (val_of v),
      ))
      (omega (
        arith,
        weights_seen ls ws long,
        weights_seen ks vs kept.0,
        ap pair_weights seen,
        last_weights (pairs (zip ls (vals_of ws))) k (val_of v),
      ))
      (omega (
        arith,
        levels_seen ls ws long,
        levels_seen ks vs kept.0,
        ap most_pair_levels seen,
        last_levels (pairs (zip ls (vals_of ws))) k (val_of v),
      )))

pub chars_weigh : (bs : List ℕ) → weights (chars bs) ≡ length bs
chars_weigh [] = refl
chars_weigh (b ∷ bs) = omega (arith, chars_weigh bs)

pub chars_flat : (bs : List ℕ) → most_levels (chars bs) ≤ 1
chars_flat [] = omega arith
chars_flat (b ∷ bs) = omega (arith, chars_flat bs)
