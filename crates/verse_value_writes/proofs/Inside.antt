-- A value with the part that an index leads to changed.
use Rattle.std.proofs.Common.{◌≡◌, ℕ, zero, suc, ◌<◌, ℤ, pos, negsuc, Bool, true, false, ◌∷◌, Option, Some, None, option_map, nat_lt, arith}
use Rattle.std.proofs.Common.{refl, sym, ap, subst, ◌∙◌}
use Rattle.std.proofs.lemmas.Bool.Decides.{nat_tests}
use Rattle.verse_base.proofs.Facts.{place_of_next}
use Rattle.verse_value.specs.declared.keys.Key.{Key}
use Rattle.verse_value.specs.Val.{Val, unit, falsity, truth, int, char, enum, object, event, task, some, array, mapping, tuple, Vals}
use Rattle.verse_value.specs.Val.{no_vals, more_vals, Pairs, no_pairs, more_pairs}
use Rattle.verse_value.specs.Keys.{key_eq, key_of, at_key}
use Rattle.verse_value.specs.Entries.{key_place}
use Rattle.verse_value.specs.Parts.{keys_in, vals_in, pair_set}
use Rattle.verse_value.specs.Operations.{count, entry_count}
use Rattle.verse_value.specs.Places.{Step, part, outside, absent, part_or, step_in, in_array, in_map, int_of, place_in, nth, with_nth}
use Rattle.verse_value.specs.Places.{with_key, changed}
use Rattle.verse_value.proofs.Steps.{not_first}
use Rattle.verse_value.proofs.KeyPlaces.{place_within}
use Rattle.verse_value.proofs.Seen.{key_count_in}

-- parts by their places
nth_changed : (vs : Vals) (i : ℕ) (x : Val) (f : Val → Val) → nth vs i ≡ Some x → nth (with_nth vs i f) i ≡ Some (f x)
nth_changed no_vals i x f e = absurd (cc)
nth_changed (more_vals v vs) zero x f e = let same : v ≡ x = cc in ap (λ y. Some (f y)) same
nth_changed (more_vals v vs) (suc i) x f e = nth_changed vs i x f e

nth_alike : (vs : Vals) (i : ℕ) (x : Val) (f g : Val → Val) → nth vs i ≡ Some x → f x ≡ g x → with_nth vs i f ≡ with_nth vs i g
nth_alike no_vals i x f g e h = refl
nth_alike (more_vals v vs) zero x f g e h = let same : v ≡ x = cc in ap (λ y. more_vals y vs) (ap f same ∙ h ∙ ap g (sym same))
nth_alike (more_vals v vs) (suc i) x f g e h = ap (more_vals v) (nth_alike vs i x f g e h)

nth_twice : (vs : Vals) (i : ℕ) (f g : Val → Val) → with_nth (with_nth vs i f) i g ≡ with_nth vs i (λ x. g (f x))
nth_twice no_vals i f g = refl
nth_twice (more_vals v vs) zero f g = refl
nth_twice (more_vals v vs) (suc i) f g = ap (more_vals v) (nth_twice vs i f g)

nth_kept : (vs : Vals) (i : ℕ) (x : Val) (f : Val → Val) → nth vs i ≡ Some x → f x ≡ x → with_nth vs i f ≡ vs
nth_kept no_vals i x f e h = refl
nth_kept (more_vals v vs) zero x f e h = let same : v ≡ x = cc in ap (λ y. more_vals y vs) (ap f same ∙ h ∙ sym same)
nth_kept (more_vals v vs) (suc i) x f e h = ap (more_vals v) (nth_kept vs i x f e h)

pub nth_count : (vs : Vals) (i : ℕ) (f : Val → Val) → count (with_nth vs i f) ≡ count vs
nth_count no_vals i f = refl
nth_count (more_vals v vs) zero f = refl
nth_count (more_vals v vs) (suc i) f = ap suc (nth_count vs i f)

-- values by their keys
module _ (k l : Key) (v : Val) (ps : Pairs) (x : Val) (f : Val → Val) where
  key_changed_cases : (b : Bool) → key_eq k l ≡ b → (at_key ps k ≡ Some x → at_key (with_key ps k f) k ≡ Some (f x)) →
      at_key (more_pairs l v ps) k ≡ Some x → at_key (with_key (more_pairs l v ps) k f) k ≡ Some (f x)
  key_changed_cases true h rest e = let g : Some v ≡ Some x = rw h at e in let same : v ≡ x = cc in rw (h, h) (ap (λ y. Some (f y)) same)
  key_changed_cases false h rest e = rw (h, h) (rest (rw h at e))

  key_alike_cases : (g : Val → Val) (b : Bool) → key_eq k l ≡ b → (at_key ps k ≡ Some x → with_key ps k f ≡ with_key ps k g) →
      at_key (more_pairs l v ps) k ≡ Some x → f x ≡ g x → with_key (more_pairs l v ps) k f ≡ with_key (more_pairs l v ps) k g
  key_alike_cases g true h rest e a = let d : Some v ≡ Some x = rw h at e in let same : v ≡ x = cc in
      rw h (ap (λ y. more_pairs l y ps) (ap f same ∙ a ∙ ap g (sym same)))
  key_alike_cases g false h rest e a = rw h (ap (more_pairs l v) (rest (rw h at e)))

  key_kept_cases : (b : Bool) → key_eq k l ≡ b → (at_key ps k ≡ Some x → with_key ps k f ≡ ps) → at_key (more_pairs l v ps) k ≡ Some x →
      f x ≡ x → with_key (more_pairs l v ps) k f ≡ more_pairs l v ps
  key_kept_cases true h rest e a = let d : Some v ≡ Some x = rw h at e in let same : v ≡ x = cc in
      rw h (ap (λ y. more_pairs l y ps) (ap f same ∙ a ∙ sym same))
  key_kept_cases false h rest e a = rw h (ap (more_pairs l v) (rest (rw h at e)))

key_changed : (k : Key) (ps : Pairs) (x : Val) (f : Val → Val) → at_key ps k ≡ Some x → at_key (with_key ps k f) k ≡ Some (f x)
key_changed k no_pairs x f e = absurd (cc)
key_changed k (more_pairs l v ps) x f e = key_changed_cases k l v ps x f (key_eq k l) refl (key_changed k ps x f) e

key_alike : (k : Key) (ps : Pairs) (x : Val) (f g : Val → Val) → f x ≡ g x → at_key ps k ≡ Some x → with_key ps k f ≡ with_key ps k g
key_alike k no_pairs x f g a e = refl
key_alike k (more_pairs l v ps) x f g a e = key_alike_cases k l v ps x f g (key_eq k l) refl (key_alike k ps x f g a) e a

key_kept : (k : Key) (ps : Pairs) (x : Val) (f : Val → Val) → f x ≡ x → at_key ps k ≡ Some x → with_key ps k f ≡ ps
key_kept k no_pairs x f a e = refl
key_kept k (more_pairs l v ps) x f a e = key_kept_cases k l v ps x f (key_eq k l) refl (key_kept k ps x f a) e a

key_twice_cases : (k l : Key) (v : Val) (ps : Pairs) (f g : Val → Val) (b : Bool) → key_eq k l ≡ b →
    with_key (with_key ps k f) k g ≡ with_key ps k (λ x. g (f x)) →
    with_key (with_key (more_pairs l v ps) k f) k g ≡ with_key (more_pairs l v ps) k (λ x. g (f x))
key_twice_cases k l v ps f g true h rest = rw (h, h) refl
key_twice_cases k l v ps f g false h rest = rw (h, h) (ap (more_pairs l v) rest)

key_twice : (k : Key) (ps : Pairs) (f g : Val → Val) → with_key (with_key ps k f) k g ≡ with_key ps k (λ x. g (f x))
key_twice k no_pairs f g = refl
key_twice k (more_pairs l v ps) f g = key_twice_cases k l v ps f g (key_eq k l) refl (key_twice k ps f g)

-- an index that leads to a part is an int in an array, or a key in a map
part_some : (other : Step) (o : Option Val) (x : Val) → (other ≡ part x → ⊥) → part_or other o ≡ part x → o ≡ Some x
part_some other None x n e = absurd (n e)
part_some other (Some y) x n e = let same : y ≡ x = cc in ap (λ z. Some z) same

module _ (vs : Vals) (x : Val) where
  abbrev pub AtInt : Val → Type 0
  AtInt index = (n : ℕ) × (index ≡ int (pos n)) × (nth vs n ≡ Some x)

  pub at_int : (index : Val) → in_array vs index ≡ part x → AtInt index
  at_int (int (pos n)) e = (n, refl, part_some outside (nth vs n) x (λ h. cc) e)
  at_int (int (negsuc n)) e = absurd (cc)
  at_int unit e = absurd (cc)
  at_int falsity e = absurd (cc)
  at_int truth e = absurd (cc)
  at_int (char n) e = absurd (cc)
  at_int (enum n m) e = absurd (cc)
  at_int (object n) e = absurd (cc)
  at_int (event n) e = absurd (cc)
  at_int (task n) e = absurd (cc)
  at_int (some v) e = absurd (cc)
  at_int (array ws) e = absurd (cc)
  at_int (mapping ps) e = absurd (cc)
  at_int (tuple ws) e = absurd (cc)

abbrev pub AtKey : Pairs → Val → Option Key → Type 0
AtKey ps x o = (k : Key) × (o ≡ Some k) × (at_key ps k ≡ Some x)

pub at_some_key : (ps : Pairs) (x : Val) (o : Option Key) → in_map ps o ≡ part x → AtKey ps x o
at_some_key ps x None e = absurd (cc)
at_some_key ps x (Some k) e = (k, refl, part_some absent (at_key ps k) x (λ h. cc) e)

-- what a change of the part comes to
pub record Inside (v index x : Val) : Type 0 where
  pub step : (f : Val → Val) → step_in (changed v index f) index ≡ part (f x)
  pub alike : (f g : Val → Val) → f x ≡ g x → changed v index f ≡ changed v index g
  pub twice : (f g : Val → Val) → changed (changed v index f) index g ≡ changed v index (λ y. g (f y))
  pub kept : (f : Val → Val) → f x ≡ x → changed v index f ≡ v

array_inside : (vs : Vals) (x : Val) (n : ℕ) → nth vs n ≡ Some x → Inside (array vs) (int (pos n)) x
array_inside vs x n e = record {
  step = λ f. ap (part_or outside) (nth_changed vs n x f e);
  alike = λ f g h. ap array (nth_alike vs n x f g e h);
  twice = λ f g. ap array (nth_twice vs n f g);
  kept = λ f h. ap array (nth_kept vs n x f e h);
}

map_inside : (ps : Pairs) (index x : Val) (k : Key) → key_of index ≡ Some k → at_key ps k ≡ Some x → Inside (mapping ps) index x
map_inside ps index x k is e = record {
  step = λ f. rw is (ap (part_or absent) (key_changed k ps x f e));
  alike = λ f g h. rw is (ap mapping (key_alike k ps x f g h e));
  twice = λ f g. rw is (ap mapping (key_twice k ps f g));
  kept = λ f h. rw is (ap mapping (key_kept k ps x f h e));
}

pub inside : (v index x : Val) → step_in v index ≡ part x → Inside v index x
inside (array vs) index x e = let at : AtInt vs x index = at_int vs x index e in
    subst (λ (i : Val). Inside (array vs) i x) (sym at.1) (array_inside vs x at.0 at.2)
inside (mapping ps) index x e = let at : AtKey ps x (key_of index) = at_some_key ps x (key_of index) e in
    map_inside ps index x at.0 at.1 at.2
inside unit index x e = absurd (cc)
inside falsity index x e = absurd (cc)
inside truth index x e = absurd (cc)
inside (int n) index x e = absurd (cc)
inside (char n) index x e = absurd (cc)
inside (enum n m) index x e = absurd (cc)
inside (object n) index x e = absurd (cc)
inside (event n) index x e = absurd (cc)
inside (task n) index x e = absurd (cc)
inside (some v) index x e = absurd (cc)
inside (tuple vs) index x e = absurd (cc)

-- the part at a place that an int tells, taken out and another one put in
place_some : (len : ℕ) (n : ℤ) (i : ℕ) → place_in len n ≡ Some i → (n ≡ pos i) × (i < len)
place_some len (negsuc m) i e = absurd (cc)
place_some len (pos m) i e = cases (nat_lt m len) refl
  where
    cases : (b : Bool) → nat_lt m len ≡ b → (pos m ≡ pos i) × (i < len)
    cases true h =
        let g : Some m ≡ Some i = rw h at e in
        let same : m ≡ i = cc in
        let within : m < len = grind (arith, nat_tests) in
        (ap pos same, omega arith)
    cases false h = absurd (let g : None ≡ Some i = rw h at e in cc)

pub array_at : (index : Val) (len i : ℕ) → Some (Some i) ≡ option_map (place_in len) (int_of index) → (index ≡ int (pos i)) × (i < len)
array_at (int n) len i e = let f : place_in len n ≡ Some i = cc in let g : (n ≡ pos i) × (i < len) = place_some len n i f in
    (ap int g.0, g.1)
array_at unit len i e = absurd (cc)
array_at falsity len i e = absurd (cc)
array_at truth len i e = absurd (cc)
array_at (char n) len i e = absurd (cc)
array_at (enum n m) len i e = absurd (cc)
array_at (object n) len i e = absurd (cc)
array_at (event n) len i e = absurd (cc)
array_at (task n) len i e = absurd (cc)
array_at (some v) len i e = absurd (cc)
array_at (array vs) len i e = absurd (cc)
array_at (mapping ps) len i e = absurd (cc)
array_at (tuple vs) len i e = absurd (cc)

pub put_back : (vs : Vals) (index : Val) (i : ℕ) (x u w : Val) (f : Val → Val) → index ≡ int (pos i) → nth vs i ≡ Some x → w ≡ f x →
    array (with_nth (with_nth vs i (λ _. u)) i (λ _. w)) ≡ changed (array vs) index f
put_back vs index i x u w f is e h =
    ap array (nth_twice vs i (λ _. u) (λ _. w) ∙ nth_alike vs i x (λ _. w) f e h) ∙ ap (λ (j : Val). changed (array vs) j f) (sym is)

pub put_same : (vs : Vals) (i : ℕ) (x u w : Val) → nth vs i ≡ Some x → w ≡ x → with_nth (with_nth vs i (λ _. u)) i (λ _. w) ≡ vs
put_same vs i x u w e h = nth_twice vs i (λ _. u) (λ _. w) ∙ nth_kept vs i x (λ _. w) e h

pub array_leads : (vs : Vals) (index : Val) (i : ℕ) (x : Val) → index ≡ int (pos i) → nth vs i ≡ Some x → step_in (array vs) index ≡ part x
array_leads vs index i x is e = ap (in_array vs) is ∙ ap (part_or outside) e

-- the value at a key, taken out and another one put in
module _ (k l : Key) (v : Val) (ps : Pairs) (w : Val) where
  set_cases : (f : Val → Val) (x : Val) (b : Bool) (i : ℕ) → key_eq k l ≡ b →
      ((j : ℕ) → key_place k (keys_in ps) ≡ Some j → nth (vals_in ps) j ≡ Some x → pair_set ps j w ≡ with_key ps k f)
      → key_place k (l ∷ keys_in ps) ≡ Some i → nth (more_vals v (vals_in ps)) i ≡ Some x → w ≡ f x →
      pair_set (more_pairs l v ps) i w ≡ with_key (more_pairs l v ps) k f
  set_cases f x true zero h rest e n g = let same : v ≡ x = cc in rw h (ap (λ y. more_pairs l y ps) (g ∙ ap f (sym same)))
  set_cases f x true (suc i) h rest e n g = absurd (let d : Some zero ≡ Some (suc i) = rw h at e in cc)
  set_cases f x false zero h rest e n g = absurd (not_first (key_place k (keys_in ps)) (rw h at e))
  set_cases f x false (suc i) h rest e n g = rw h (ap (more_pairs l v) (rest i (place_of_next (key_place k (keys_in ps)) i (rw h at e)) n))

  at_cases : (x : Val) (b : Bool) (i : ℕ) → key_eq k l ≡ b →
      ((j : ℕ) → key_place k (keys_in ps) ≡ Some j → nth (vals_in ps) j ≡ Some x → at_key ps k ≡ Some x)
      → key_place k (l ∷ keys_in ps) ≡ Some i → nth (more_vals v (vals_in ps)) i ≡ Some x → at_key (more_pairs l v ps) k ≡ Some x
  at_cases x true zero h rest e n = rw h n
  at_cases x true (suc i) h rest e n = absurd (let d : Some zero ≡ Some (suc i) = rw h at e in cc)
  at_cases x false zero h rest e n = absurd (not_first (key_place k (keys_in ps)) (rw h at e))
  at_cases x false (suc i) h rest e n = rw h (rest i (place_of_next (key_place k (keys_in ps)) i (rw h at e)) n)

pair_set_is : (k : Key) (ps : Pairs) (w x : Val) (f : Val → Val) → w ≡ f x → (i : ℕ) → key_place k (keys_in ps) ≡ Some i →
    nth (vals_in ps) i ≡ Some x → pair_set ps i w ≡ with_key ps k f
pair_set_is k no_pairs w x f g i e n = absurd (cc)
pair_set_is k (more_pairs l v ps) w x f g i e n = set_cases k l v ps w f x (key_eq k l) i refl (pair_set_is k ps w x f g) e n g

at_place : (k : Key) (ps : Pairs) (x : Val) (i : ℕ) → key_place k (keys_in ps) ≡ Some i → nth (vals_in ps) i ≡ Some x → at_key ps k ≡ Some x
at_place k no_pairs x i e n = absurd (cc)
at_place k (more_pairs l v ps) x i e n = at_cases k l v ps v x (key_eq k l) i refl (at_place k ps x) e n

pub pair_set_count : (ps : Pairs) (i : ℕ) (w : Val) → entry_count (pair_set ps i w) ≡ entry_count ps
pair_set_count no_pairs i w = refl
pair_set_count (more_pairs k v ps) zero w = refl
pair_set_count (more_pairs k v ps) (suc i) w = ap suc (pair_set_count ps i w)

pair_set_twice : (ps : Pairs) (i : ℕ) (u w : Val) → pair_set (pair_set ps i u) i w ≡ pair_set ps i w
pair_set_twice no_pairs i u w = refl
pair_set_twice (more_pairs k v ps) zero u w = refl
pair_set_twice (more_pairs k v ps) (suc i) u w = ap (more_pairs k v) (pair_set_twice ps i u w)

pair_set_kept : (ps : Pairs) (i : ℕ) (x : Val) → nth (vals_in ps) i ≡ Some x → pair_set ps i x ≡ ps
pair_set_kept no_pairs i x e = refl
pair_set_kept (more_pairs k v ps) zero x e = let same : v ≡ x = cc in ap (λ y. more_pairs k y ps) (sym same)
pair_set_kept (more_pairs k v ps) (suc i) x e = ap (more_pairs k v) (pair_set_kept ps i x e)

abbrev pub KeyAt : Pairs → ℕ → Option Key → Type 0
KeyAt ps i o = (k : Key) × (o ≡ Some k) × (key_place k (keys_in ps) ≡ Some i)

pub key_at : (ps : Pairs) (i : ℕ) (o : Option Key) → Some (Some i) ≡ option_map (λ k. key_place k (keys_in ps)) o → KeyAt ps i o
key_at ps i None e = absurd (cc)
key_at ps i (Some k) e = let f : key_place k (keys_in ps) ≡ Some i = cc in (k, refl, f)

pub map_leads : (ps : Pairs) (index : Val) (i : ℕ) (x : Val) → KeyAt ps i (key_of index) → nth (vals_in ps) i ≡ Some x →
    step_in (mapping ps) index ≡ part x
map_leads ps index i x at e = rw at.1 (ap (part_or absent) (at_place at.0 ps x i at.2 e))

pub map_put_back : (ps : Pairs) (index : Val) (i : ℕ) (x u w : Val) (f : Val → Val) → KeyAt ps i (key_of index) →
    nth (vals_in ps) i ≡ Some x → w ≡ f x → mapping (pair_set (pair_set ps i u) i w) ≡ changed (mapping ps) index f
map_put_back ps index i x u w f at e h = rw at.1 (ap mapping (pair_set_twice ps i u w ∙ pair_set_is at.0 ps w x f h i at.2 e))

pub map_put_same : (ps : Pairs) (i : ℕ) (x u w : Val) → nth (vals_in ps) i ≡ Some x → w ≡ x → pair_set (pair_set ps i u) i w ≡ ps
map_put_same ps i x u w e h = pair_set_twice ps i u w ∙ ap (pair_set ps i) h ∙ pair_set_kept ps i x e

-- a key that is lacking has no place
lacking_cases : (k l : Key) (v : Val) (ps : Pairs) (b : Bool) → key_eq k l ≡ b → (at_key ps k ≡ None → key_place k (keys_in ps) ≡ None) →
    at_key (more_pairs l v ps) k ≡ None → key_place k (l ∷ keys_in ps) ≡ None
lacking_cases k l v ps true h rest e = absurd (let g : Some v ≡ None = rw h at e in cc)
lacking_cases k l v ps false h rest e = rw h (ap (option_map suc) (rest (rw h at e)))

pub lacking_place : (ps : Pairs) (k : Key) → at_key ps k ≡ None → key_place k (keys_in ps) ≡ None
lacking_place no_pairs k e = refl
lacking_place (more_pairs l v ps) k e = lacking_cases k l v ps (key_eq k l) refl (lacking_place ps k) e

pub key_within : (ps : Pairs) (i : ℕ) (o : Option Key) → KeyAt ps i o → i < entry_count ps
key_within ps i o at = omega (arith, place_within (keys_in ps) at.0 i at.2, key_count_in ps)
