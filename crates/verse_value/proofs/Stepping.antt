-- What an index leads to, from the place that it tells.
use Rattle.std.proofs.Common.{◌≡◌, ℕ, zero, suc, ◌≤◌, pos, negsuc, Bool, true, false, Option, Some, None, option_map, nat_lt, arith, refl}
use Rattle.std.proofs.Common.{sym, ap, ◌∙◌}
use Rattle.std.proofs.lemmas.Bool.Decides.{nat_tests}
use Rattle.verse_value.specs.declared.keys.Key.{Key}
use Rattle.verse_value.specs.Val.{Val, unit, falsity, truth, int, char, enum, object, event, task, some, array, mapping, tuple, Vals}
use Rattle.verse_value.specs.Val.{no_vals, more_vals, Pairs, no_pairs, more_pairs}
use Rattle.verse_value.specs.Keys.{key_eq, at_key}
use Rattle.verse_value.specs.Entries.{key_place}
use Rattle.verse_value.specs.Parts.{keys_in, vals_in}
use Rattle.verse_value.specs.Operations.{count}
use Rattle.verse_value.specs.Places.{Step, part, outside, absent, misfit, part_or, nth, in_array, in_map, int_of, place_in}

past : (vs : Vals) (i : ℕ) → count vs ≤ i → nth vs i ≡ None
past no_vals i h = refl
past (more_vals v vs) zero h = absurd (omega arith)
past (more_vals v vs) (suc i) h = past vs i (omega arith)

-- by the place in an array
abbrev pub array_step : Vals → Option (Option ℕ) → Step
array_step vs None = misfit
array_step vs (Some None) = outside
array_step vs (Some (Some i)) = part_or outside (nth vs i)

pos_step : (vs : Vals) (n : ℕ) (b : Bool) → nat_lt n (count vs) ≡ b →
    in_array vs (int (pos n)) ≡ array_step vs (option_map (place_in (count vs)) (int_of (int (pos n))))
pos_step vs n true h = rw h refl
pos_step vs n false h =
    let outside_it : count vs ≤ n = grind (arith, nat_tests) in
    rw (h, past vs n outside_it) refl

by_place : (vs : Vals) (index : Val) → in_array vs index ≡ array_step vs (option_map (place_in (count vs)) (int_of index))
by_place vs (int (pos n)) = pos_step vs n (nat_lt n (count vs)) refl
by_place vs (int (negsuc n)) = refl
by_place vs unit = refl
by_place vs falsity = refl
by_place vs truth = refl
by_place vs (char n) = refl
by_place vs (enum n m) = refl
by_place vs (object n) = refl
by_place vs (event n) = refl
by_place vs (task n) = refl
by_place vs (some v) = refl
by_place vs (array ws) = refl
by_place vs (mapping ps) = refl
by_place vs (tuple ws) = refl

module _ (vs : Vals) (index : Val) (len : ℕ) (o : Option (Option ℕ)) (long : len ≡ count vs)
    (at : o ≡ option_map (place_in len) (int_of index)) where
  pub array_is : array_step vs o ≡ in_array vs index
  array_is = ap (array_step vs) (at ∙ ap (λ n. option_map (place_in n) (int_of index)) long) ∙ sym (by_place vs index)

  pub array_part : (i : ℕ) (v : Val) → o ≡ Some (Some i) → Some v ≡ nth vs i → part v ≡ in_array vs index
  array_part i v is here = ap (part_or outside) here ∙ ap (array_step vs) (sym is) ∙ array_is

  pub array_past : (i : ℕ) → o ≡ Some (Some i) → None ≡ nth vs i → outside ≡ in_array vs index
  array_past i is here = ap (part_or outside) here ∙ ap (array_step vs) (sym is) ∙ array_is

  pub array_none : o ≡ Some None → outside ≡ in_array vs index
  array_none is = ap (array_step vs) (sym is) ∙ array_is

  pub array_misfit : o ≡ None → misfit ≡ in_array vs index
  array_misfit is = ap (array_step vs) (sym is) ∙ array_is

-- by the place in a map
abbrev pub map_step : Pairs → Option (Option ℕ) → Step
map_step ps None = misfit
map_step ps (Some None) = absent
map_step ps (Some (Some i)) = part_or absent (nth (vals_in ps) i)

further : (k : Key) (v : Val) (ps : Pairs) (o : Option ℕ) → map_step ps (Some o) ≡ map_step (more_pairs k v ps) (Some (option_map suc o))
further k v ps None = refl
further k v ps (Some i) = refl

key_cases : (k l : Key) (v : Val) (ps : Pairs) (b : Bool) → key_eq k l ≡ b →
    part_or absent (at_key ps k) ≡ map_step ps (Some (key_place k (keys_in ps))) →
    part_or absent (at_key (more_pairs l v ps) k) ≡ map_step (more_pairs l v ps) (Some (key_place k (keys_in (more_pairs l v ps))))
key_cases k l v ps true h rest = rw h refl
key_cases k l v ps false h rest = rw h (rest ∙ further l v ps (key_place k (keys_in ps)))

by_key : (ps : Pairs) (k : Key) → part_or absent (at_key ps k) ≡ map_step ps (Some (key_place k (keys_in ps)))
by_key no_pairs k = refl
by_key (more_pairs l v ps) k = key_cases k l v ps (key_eq k l) refl (by_key ps k)

by_key_place : (ps : Pairs) (o : Option Key) → in_map ps o ≡ map_step ps (option_map (λ k. key_place k (keys_in ps)) o)
by_key_place ps None = refl
by_key_place ps (Some k) = by_key ps k

module _ (ps : Pairs) (key : Option Key) (o : Option (Option ℕ)) (at : o ≡ option_map (λ k. key_place k (keys_in ps)) key) where
  pub map_is : map_step ps o ≡ in_map ps key
  map_is = ap (map_step ps) at ∙ sym (by_key_place ps key)

  pub map_part : (i : ℕ) (v : Val) → o ≡ Some (Some i) → Some v ≡ nth (vals_in ps) i → part v ≡ in_map ps key
  map_part i v is here = ap (part_or absent) here ∙ ap (map_step ps) (sym is) ∙ map_is

  pub map_past : (i : ℕ) → o ≡ Some (Some i) → None ≡ nth (vals_in ps) i → absent ≡ in_map ps key
  map_past i is here = ap (part_or absent) here ∙ ap (map_step ps) (sym is) ∙ map_is

  pub map_none : o ≡ Some None → absent ≡ in_map ps key
  map_none is = ap (map_step ps) (sym is) ∙ map_is

  pub map_misfit : o ≡ None → misfit ≡ in_map ps key
  map_misfit is = ap (map_step ps) (sym is) ∙ map_is
