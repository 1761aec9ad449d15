-- What a write at a path leaves in a slot fits, and so does the value written.
use Rattle.std.proofs.Common.{◌≡◌, ℕ, zero, suc, ◌+◌, ◌≤◌, List, [], ◌∷◌, Option, Some, None, Bool, true, false, refl, sym, subst, ap, ◌∙◌}
use Rattle.std.proofs.Common.{arith}
use Rattle.std.specs.Prelude.{ℤ, pos, negsuc, ◌+ℤ◌, ◌-ℤ◌, ◌*ℤ◌, if◌then◌else◌, max}
use Rattle.verse_base.specs.declared.refusals.Kind.TheVariants.{Overflow, Size}
use Rattle.verse_value.specs.Val.{Val, unit, falsity, truth, int, char, enum, object, event, task, some, array, mapping, tuple, Vals}
use Rattle.verse_value.specs.Val.{no_vals}
use Rattle.verse_value.specs.Val.{more_vals, Pairs, no_pairs, more_pairs}
use Rattle.verse_value.specs.Keys.{key_eq, key_of, at_key}
use Rattle.verse_value.specs.Sizes.{fits, weight_of, weights, pair_weights, levels_of, most_levels, most_pair_levels}
use Rattle.verse_value.specs.Parts.{joined}
use Rattle.verse_value.specs.Places.{nth, Step, part, outside, absent, misfit, step_in, in_array, in_map, part_or, End, there, new_key}
use Rattle.verse_value.specs.Places.{nowhere}
use Rattle.verse_value.specs.Places.{unfit, at_absent, end_from, end_of, with_nth, with_key, array_with, map_with, changed, put, push}
use Rattle.verse_value.specs.Places.{with_last}
use Rattle.verse_value.specs.Places.{pushed, applied, path_to_map, last_key}
use Rattle.verse_value.specs.Answer.{Answer, gives, fails, error, stuck}
use Rattle.verse_value.specs.Operations.{ranged, is_int, combined, sized_slot, overwritten, key_made, written_at, write_at}
use Rattle.verse_value.specs.declared.keys.Key.{Key}
use Rattle.verse_value.specs.declared.modes.Mode.{Mode}
use Rattle.verse_value.specs.declared.modes.Mode.TheVariants.{Set, Add, Sub, Mul}
use Rattle.run_save_shots.specs.Lists.{Each}
use Rattle.run_save_shots.specs.Fitting.{KeyIsSound, IsSound, AreSound, PairsAreSound, ValueFits, ValuesFit}
use Rattle.run_save_moves.proofs.Values.{TwoFit, KeyFits, small_of, fits_of, joined_sound, key_sound, if_none, none_if, apart}

if_some : {A : Type 0} (b : Bool) (v : A) (o : Option A) → b ≡ true → (if b then Some v else o) ≡ Some v
if_some true v o e = refl
if_some false v o e = absurd (cc)

if_other : {A : Type 0} (b : Bool) (v : A) (o : Option A) → b ≡ false → (if b then Some v else o) ≡ o
if_other true v o e = absurd (cc)
if_other false v o e = refl

-- ---- a part that is changed

with_nth_sound : (n : ℕ) (f : Val → Val) (vs : Vals) (i : ℕ) → AreSound n vs →
    ((x : Val) → nth vs i ≡ Some x → IsSound n x → IsSound n (f x)) → AreSound n (with_nth vs i f)
with_nth_sound n f no_vals i a h = tt
with_nth_sound n f (more_vals v vs) zero a h = (h v refl a.0, a.1)
with_nth_sound n f (more_vals v vs) (suc i) a h = (a.0, with_nth_sound n f vs i a.1 h)

absent_with : (ps : Pairs) (k : Key) (f : Val → Val) (l : Key) → at_key ps l ≡ None → at_key (with_key ps k f) l ≡ None
absent_with no_pairs k f l e = refl
absent_with (more_pairs j v ps) k f l e = let g = if_none (key_eq l j) v (at_key ps l) e in
    two (key_eq k j) (none_if (key_eq l j) (f v) (at_key ps l) g.0 g.1)
    (none_if (key_eq l j) v (at_key (with_key ps k f) l) g.0 (absent_with ps k f l g.1))
  where
    two : (b : Bool) → at_key (more_pairs j (f v) ps) l ≡ None → at_key (more_pairs j v (with_key ps k f)) l ≡ None →
        at_key (if b then more_pairs j (f v) ps else more_pairs j v (with_key ps k f)) l ≡ None
    two true a b = a
    two false a b = b

with_key_sound : (n : ℕ) (f : Val → Val) (ps : Pairs) (k : Key) → PairsAreSound n ps →
    ((x : Val) → at_key ps k ≡ Some x → IsSound n x → IsSound n (f x)) → PairsAreSound n (with_key ps k f)
with_key_sound n f no_pairs k a h = tt
with_key_sound n f (more_pairs l v ps) k a h =
    two (key_eq k l) refl (λ e. with_key_sound n f ps k a.3 (λ x g. h x (if_other (key_eq k l) v (at_key ps k) e ∙ g)))
  where
    two : (b : Bool) → key_eq k l ≡ b → (key_eq k l ≡ false → PairsAreSound n (with_key ps k f)) →
        PairsAreSound n (if b then more_pairs l (f v) ps else more_pairs l v (with_key ps k f))
    two true e r = (a.0, h v (if_some (key_eq k l) v (at_key ps k) e) a.1, a.2, a.3)
    two false e r = (a.0, a.1, absent_with ps k f l a.2, r e)

abbrev Sound : ℕ → (Val → Val) → Val → Val → Type 0
Sound n f v i = (x : Val) → step_in v i ≡ part x → IsSound n x → IsSound n (f x)

array_sound : (n : ℕ) (f : Val → Val) (vs : Vals) (i : Val) → AreSound n vs → Sound n f (array vs) i → AreSound n (array_with vs i f)
array_sound n f vs unit a h = a
array_sound n f vs falsity a h = a
array_sound n f vs truth a h = a
array_sound n f vs (int (pos m)) a h = with_nth_sound n f vs m a (λ x e. h x (ap (part_or outside) e))
array_sound n f vs (int (negsuc m)) a h = a
array_sound n f vs (char c) a h = a
array_sound n f vs (enum c d) a h = a
array_sound n f vs (object c) a h = a
array_sound n f vs (event c) a h = a
array_sound n f vs (task c) a h = a
array_sound n f vs (some y) a h = a
array_sound n f vs (array ws) a h = a
array_sound n f vs (mapping qs) a h = a
array_sound n f vs (tuple ws) a h = a

map_sound : (n : ℕ) (f : Val → Val) (ps : Pairs) (o : Option Key) → PairsAreSound n ps →
    ((x : Val) → in_map ps o ≡ part x → IsSound n x → IsSound n (f x)) → PairsAreSound n (map_with ps o f)
map_sound n f ps None a h = a
map_sound n f ps (Some k) a h = with_key_sound n f ps k a (λ x e. h x (ap (part_or absent) e))

changed_sound : (n : ℕ) (f : Val → Val) (v i : Val) → IsSound n v → Sound n f v i → IsSound n (changed v i f)
changed_sound n f unit i a h = a
changed_sound n f falsity i a h = a
changed_sound n f truth i a h = a
changed_sound n f (int b) i a h = a
changed_sound n f (char b) i a h = a
changed_sound n f (enum b d) i a h = a
changed_sound n f (object b) i a h = a
changed_sound n f (event b) i a h = a
changed_sound n f (task b) i a h = a
changed_sound n f (some y) i a h = a
changed_sound n f (array vs) i a h = array_sound n f vs i a h
changed_sound n f (mapping ps) i a h = map_sound n f ps (key_of i) a h
changed_sound n f (tuple vs) i a h = a

put_sound : (n : ℕ) (path : List Val) (new slot : Val) → IsSound n slot → IsSound n new → IsSound n (applied path (put new) slot)
put_sound n [] new slot a b = b
put_sound n (i ∷ path) new slot a b = changed_sound n (applied path (put new)) slot i a (λ x e c. put_sound n path new x c b)

-- ---- a key that is new

last_absent : (ps : Pairs) (k : Key) (v : Val) (l : Key) → key_eq l k ≡ false → at_key ps l ≡ None → at_key (with_last ps k v) l ≡ None
last_absent no_pairs k v l e f = none_if (key_eq l k) v None e refl
last_absent (more_pairs j x ps) k v l e f = let g = if_none (key_eq l j) x (at_key ps l) f in
    none_if (key_eq l j) x (at_key (with_last ps k v) l) g.0 (last_absent ps k v l e g.1)

last_sound : (n : ℕ) (ps : Pairs) (k : Key) (v : Val) → PairsAreSound n ps → KeyIsSound k → IsSound n v → at_key ps k ≡ None →
    PairsAreSound n (with_last ps k v)
last_sound n no_pairs k v a b c e = (b, c, refl, tt)
last_sound n (more_pairs l x ps) k v a b c e = let g = if_none (key_eq k l) x (at_key ps k) e in
    (a.0, a.1, last_absent ps k v l (apart k l g.0) a.2, last_sound n ps k v a.3 b c g.1)

lacks : (o : Option Val) → end_from (part_or absent o) [] (end_of []) ≡ new_key → o ≡ None
lacks None e = refl
lacks (Some x) e = absurd (cc)

pushed_sound : (n : ℕ) (i : Val) (k : Key) (v slot : Val) → end_of (i ∷ []) slot ≡ new_key → key_of i ≡ Some k → KeyIsSound k →
    IsSound n v → IsSound n slot → IsSound n (pushed k v slot)
pushed_sound n i k v unit e f a b c = c
pushed_sound n i k v falsity e f a b c = c
pushed_sound n i k v truth e f a b c = c
pushed_sound n i k v (int j) e f a b c = c
pushed_sound n i k v (char j) e f a b c = c
pushed_sound n i k v (enum j d) e f a b c = c
pushed_sound n i k v (object j) e f a b c = c
pushed_sound n i k v (event j) e f a b c = c
pushed_sound n i k v (task j) e f a b c = c
pushed_sound n i k v (some y) e f a b c = c
pushed_sound n i k v (array vs) e f a b c = c
pushed_sound n i k v (mapping ps) e f a b c =
    last_sound n ps k v c a b (lacks (at_key ps k) (subst (λ o. end_from (in_map ps o) [] (end_of []) ≡ new_key) f e))
pushed_sound n i k v (tuple vs) e f a b c = c

push_sound : (n : ℕ) (path : List Val) (k : Key) (v slot : Val) → end_of path slot ≡ new_key → last_key path ≡ Some k → KeyIsSound k →
    IsSound n v → IsSound n slot → IsSound n (applied (path_to_map path) (push k v) slot)
push_sound n [] k v slot e f a b c = absurd (cc)
push_sound n (i ∷ []) k v slot e f a b c = pushed_sound n i k v slot e f a b c
push_sound n (i ∷ j ∷ path) k v slot e f a b c =
    changed_sound n (applied (path_to_map (j ∷ path)) (push k v)) slot i c
    (λ x g d. push_sound n (j ∷ path) k v x (subst (λ y. end_from y (j ∷ path) (end_of (j ∷ path)) ≡ new_key) g e) f a b d)

-- ---- the value written is no larger than the slot's

abbrev Within : Val → Val → Type 0
Within v w = (weight_of v ≤ weight_of w) × (levels_of v ≤ levels_of w)

some_is : (x y : Val) → Some x ≡ Some y → x ≡ y
some_is x y e = cc

part_is : (z : Step) (o : Option Val) (x : Val) → (z ≡ part x → ⊥) → part_or z o ≡ part x → o ≡ Some x
part_is z None x n e = absurd (n e)
part_is z (Some y) x n e = cc

not_outside : (x : Val) → outside ≡ part x → ⊥
not_outside x e = cc

not_absent : (x : Val) → absent ≡ part x → ⊥
not_absent x e = cc

nth_within : (f : Val → Val) (vs : Vals) (i : ℕ) (x : Val) → nth vs i ≡ Some x → (weight_of (f x) ≤ weights (with_nth vs i f)) ×
    (levels_of (f x) ≤ most_levels (with_nth vs i f))
nth_within f no_vals i x e = absurd (cc)
nth_within f (more_vals v vs) zero x e = subst
    (λ y. (weight_of (f y) ≤ weights (more_vals (f v) vs)) × (levels_of (f y) ≤ most_levels (more_vals (f v) vs))) (some_is v x e)
    (omega arith, omega arith)
nth_within f (more_vals v vs) (suc i) x e = let h = nth_within f vs i x e in (
  more (weight_of (f x)) (weight_of v) (weights (with_nth vs i f)) h.0,
  most (levels_of (f x)) (levels_of v) (most_levels (with_nth vs i f)) h.1,
)
  where
    more : (a b c : ℕ) → a ≤ c → a ≤ b + c
    more a b c h = omega (arith, h)

    most : (a b c : ℕ) → a ≤ c → a ≤ max b c
    most a b c h = omega (arith, h)

key_within : (f : Val → Val) (ps : Pairs) (k : Key) (x : Val) → at_key ps k ≡ Some x → (weight_of (f x) ≤ pair_weights (with_key ps k f)) ×
    (levels_of (f x) ≤ most_pair_levels (with_key ps k f))
key_within f no_pairs k x e = absurd (cc)
key_within f (more_pairs l v ps) k x e = two (key_eq k l) e (λ g. key_within f ps k x g)
  where
    two : (b : Bool) → (if b then Some v else at_key ps k) ≡ Some x →
        (at_key ps k ≡ Some x → (weight_of (f x) ≤ pair_weights (with_key ps k f)) ×
        (levels_of (f x) ≤ most_pair_levels (with_key ps k f))) →
        (weight_of (f x) ≤ pair_weights (if b then more_pairs l (f v) ps else more_pairs l v (with_key ps k f))) ×
        (levels_of (f x) ≤ most_pair_levels (if b then more_pairs l (f v) ps else more_pairs l v (with_key ps k f)))
    two true g r = subst (λ y. (weight_of (f y) ≤ pair_weights (more_pairs l (f v) ps)) ×
        (levels_of (f y) ≤ most_pair_levels (more_pairs l (f v) ps))) (some_is v x g) (omega arith, omega arith)
    two false g r = let h = r g in let a = h.0 in let b = h.1 in (omega (arith, a), omega (arith, b))

array_within : (f : Val → Val) (vs : Vals) (i x : Val) → in_array vs i ≡ part x → Within (f x) (array (array_with vs i f))
array_within f vs unit x e = absurd (cc)
array_within f vs falsity x e = absurd (cc)
array_within f vs truth x e = absurd (cc)
array_within f vs (int (pos m)) x e = let h = nth_within f vs m x (part_is outside (nth vs m) x (not_outside x) e) in let a = h.0 in let b =
    h.1 in
    (omega (arith, a), omega (arith, b))
array_within f vs (int (negsuc m)) x e = absurd (cc)
array_within f vs (char c) x e = absurd (cc)
array_within f vs (enum c d) x e = absurd (cc)
array_within f vs (object c) x e = absurd (cc)
array_within f vs (event c) x e = absurd (cc)
array_within f vs (task c) x e = absurd (cc)
array_within f vs (some y) x e = absurd (cc)
array_within f vs (array ws) x e = absurd (cc)
array_within f vs (mapping qs) x e = absurd (cc)
array_within f vs (tuple ws) x e = absurd (cc)

map_within : (f : Val → Val) (ps : Pairs) (o : Option Key) (x : Val) → in_map ps o ≡ part x → Within (f x) (mapping (map_with ps o f))
map_within f ps None x e = absurd (cc)
map_within f ps (Some k) x e = let h = key_within f ps k x (part_is absent (at_key ps k) x (not_absent x) e) in let a = h.0 in let b =
    h.1 in
    (omega (arith, a), omega (arith, b))

part_within : (f : Val → Val) (v i x : Val) → step_in v i ≡ part x → Within (f x) (changed v i f)
part_within f unit i x e = absurd (cc)
part_within f falsity i x e = absurd (cc)
part_within f truth i x e = absurd (cc)
part_within f (int b) i x e = absurd (cc)
part_within f (char b) i x e = absurd (cc)
part_within f (enum b d) i x e = absurd (cc)
part_within f (object b) i x e = absurd (cc)
part_within f (event b) i x e = absurd (cc)
part_within f (task b) i x e = absurd (cc)
part_within f (some y) i x e = absurd (cc)
part_within f (array vs) i x e = array_within f vs i x e
part_within f (mapping ps) i x e = map_within f ps (key_of i) x e
part_within f (tuple vs) i x e = absurd (cc)

no_end : (path : List Val) (old : Val) → at_absent path ≡ there old → ⊥
no_end [] old e = cc
no_end (i ∷ path) old e = cc

within_both : (a b c : Val) → Within a b → Within b c → Within a c
within_both a b c h k = let h0 = h.0 in let h1 = h.1 in let k0 = k.0 in let k1 = k.1 in (omega (arith, h0, k0), omega (arith, h1, k1))

put_within : (path : List Val) (new slot old : Val) → end_of path slot ≡ there old → Within new (applied path (put new) slot)
put_within [] new slot old e = (omega arith, omega arith)
put_within (i ∷ path) new slot old e = by_step (step_in slot i) refl e (λ x g. put_within path new x old g)
  where
    by_step : (y : Step) → step_in slot i ≡ y → end_from y path (end_of path) ≡ there old →
        ((x : Val) → end_of path x ≡ there old → Within new (applied path (put new) x)) →
        Within new (changed slot i (applied path (put new)))
    by_step (part x) f g r = within_both new (applied path (put new) x) (changed slot i (applied path (put new))) (r x g)
        (part_within (applied path (put new)) slot i x f)
    by_step outside f g r = absurd (cc)
    by_step absent f g r = absurd (no_end path old g)
    by_step misfit f g r = absurd (cc)

-- ---- the whole

abbrev EndSound : ℕ → End → Type 0
EndSound n (there v) = IsSound n v
EndSound n new_key = Unit {0}
EndSound n nowhere = Unit {0}
EndSound n unfit = Unit {0}

abbrev StepSound : ℕ → Step → Type 0
StepSound n (part v) = IsSound n v
StepSound n outside = Unit {0}
StepSound n absent = Unit {0}
StepSound n misfit = Unit {0}

abbrev OneSound : ℕ → Option Val → Type 0
OneSound n None = Unit {0}
OneSound n (Some v) = IsSound n v

nth_sound : (n : ℕ) (vs : Vals) (i : ℕ) → AreSound n vs → OneSound n (nth vs i)
nth_sound n no_vals i a = tt
nth_sound n (more_vals v vs) zero a = a.0
nth_sound n (more_vals v vs) (suc i) a = nth_sound n vs i a.1

at_key_sound : (n : ℕ) (ps : Pairs) (k : Key) → PairsAreSound n ps → OneSound n (at_key ps k)
at_key_sound n no_pairs k a = tt
at_key_sound n (more_pairs l v ps) k a = two (key_eq k l) (at_key_sound n ps k a.3)
  where
    two : (b : Bool) → OneSound n (at_key ps k) → OneSound n (if b then Some v else at_key ps k)
    two true h = a.1
    two false h = h

or_sound : (n : ℕ) (z : Step) (o : Option Val) → StepSound n z → OneSound n o → StepSound n (part_or z o)
or_sound n z None a b = a
or_sound n z (Some v) a b = b

in_array_sound : (n : ℕ) (vs : Vals) (i : Val) → AreSound n vs → StepSound n (in_array vs i)
in_array_sound n vs unit a = tt
in_array_sound n vs falsity a = tt
in_array_sound n vs truth a = tt
in_array_sound n vs (int (pos m)) a = or_sound n outside (nth vs m) tt (nth_sound n vs m a)
in_array_sound n vs (int (negsuc m)) a = tt
in_array_sound n vs (char c) a = tt
in_array_sound n vs (enum c d) a = tt
in_array_sound n vs (object c) a = tt
in_array_sound n vs (event c) a = tt
in_array_sound n vs (task c) a = tt
in_array_sound n vs (some y) a = tt
in_array_sound n vs (array ws) a = tt
in_array_sound n vs (mapping qs) a = tt
in_array_sound n vs (tuple ws) a = tt

in_map_sound : (n : ℕ) (ps : Pairs) (o : Option Key) → PairsAreSound n ps → StepSound n (in_map ps o)
in_map_sound n ps None a = tt
in_map_sound n ps (Some k) a = or_sound n absent (at_key ps k) tt (at_key_sound n ps k a)

step_sound : (n : ℕ) (v i : Val) → IsSound n v → StepSound n (step_in v i)
step_sound n unit i a = tt
step_sound n falsity i a = tt
step_sound n truth i a = tt
step_sound n (int b) i a = tt
step_sound n (char b) i a = tt
step_sound n (enum b d) i a = tt
step_sound n (object b) i a = tt
step_sound n (event b) i a = tt
step_sound n (task b) i a = tt
step_sound n (some y) i a = tt
step_sound n (array vs) i a = in_array_sound n vs i a
step_sound n (mapping ps) i a = in_map_sound n ps (key_of i) a
step_sound n (tuple vs) i a = tt

absent_sound : (n : ℕ) (path : List Val) → EndSound n (at_absent path)
absent_sound n [] = tt
absent_sound n (i ∷ path) = tt

end_sound : (n : ℕ) (path : List Val) (slot : Val) → IsSound n slot → EndSound n (end_of path slot)
end_sound n [] slot a = a
end_sound n (i ∷ path) slot a = by_step (step_in slot i) (step_sound n slot i a) (λ x b. end_sound n path x b)
  where
    by_step : (y : Step) → StepSound n y → ((x : Val) → IsSound n x → EndSound n (end_of path x)) →
        EndSound n (end_from y path (end_of path))
    by_step (part x) b r = r x b
    by_step outside b r = tt
    by_step absent b r = absent_sound n path
    by_step misfit b r = tt

abbrev AnswerSound : ℕ → Answer Val → Type 0
AnswerSound n (gives v) = IsSound n v
AnswerSound n fails = Unit {0}
AnswerSound n (error k) = Unit {0}
AnswerSound n stuck = Unit {0}

ranged_sound : (n : ℕ) (z : ℤ) → AnswerSound n (ranged z)
ranged_sound n z = two (is_int z)
  where
    two : (b : Bool) → AnswerSound n (if b then gives (int z) else error Overflow)
    two true = tt
    two false = tt

combined_sound : (n : ℕ) (m : Mode) (old v : Val) → IsSound n old → IsSound n v → AnswerSound n (combined m old v)
combined_sound n Set old v a b = b
combined_sound n Add unit v a b = tt
combined_sound n Add falsity v a b = tt
combined_sound n Add truth v a b = tt
combined_sound n Add (int i) unit a b = tt
combined_sound n Add (int i) falsity a b = tt
combined_sound n Add (int i) truth a b = tt
combined_sound n Add (int i) (int j) a b = ranged_sound n (i +ℤ j)
combined_sound n Add (int i) (char j) a b = tt
combined_sound n Add (int i) (enum j k2) a b = tt
combined_sound n Add (int i) (object j) a b = tt
combined_sound n Add (int i) (event j) a b = tt
combined_sound n Add (int i) (task j) a b = tt
combined_sound n Add (int i) (some u) a b = tt
combined_sound n Add (int i) (array ws) a b = tt
combined_sound n Add (int i) (mapping qs) a b = tt
combined_sound n Add (int i) (tuple ws) a b = tt
combined_sound n Add (char i) v a b = tt
combined_sound n Add (enum i k1) v a b = tt
combined_sound n Add (object i) v a b = tt
combined_sound n Add (event i) v a b = tt
combined_sound n Add (task i) v a b = tt
combined_sound n Add (some y) v a b = tt
combined_sound n Add (array vs) unit a b = tt
combined_sound n Add (array vs) falsity a b = tt
combined_sound n Add (array vs) truth a b = tt
combined_sound n Add (array vs) (int j) a b = tt
combined_sound n Add (array vs) (char j) a b = tt
combined_sound n Add (array vs) (enum j k2) a b = tt
combined_sound n Add (array vs) (object j) a b = tt
combined_sound n Add (array vs) (event j) a b = tt
combined_sound n Add (array vs) (task j) a b = tt
combined_sound n Add (array vs) (some u) a b = tt
combined_sound n Add (array vs) (array ws) a b = joined_sound n vs ws a b
combined_sound n Add (array vs) (mapping qs) a b = tt
combined_sound n Add (array vs) (tuple ws) a b = tt
combined_sound n Add (mapping ps) v a b = tt
combined_sound n Add (tuple vs) v a b = tt
combined_sound n Sub unit v a b = tt
combined_sound n Sub falsity v a b = tt
combined_sound n Sub truth v a b = tt
combined_sound n Sub (int i) unit a b = tt
combined_sound n Sub (int i) falsity a b = tt
combined_sound n Sub (int i) truth a b = tt
combined_sound n Sub (int i) (int j) a b = ranged_sound n (i -ℤ j)
combined_sound n Sub (int i) (char j) a b = tt
combined_sound n Sub (int i) (enum j k2) a b = tt
combined_sound n Sub (int i) (object j) a b = tt
combined_sound n Sub (int i) (event j) a b = tt
combined_sound n Sub (int i) (task j) a b = tt
combined_sound n Sub (int i) (some u) a b = tt
combined_sound n Sub (int i) (array ws) a b = tt
combined_sound n Sub (int i) (mapping qs) a b = tt
combined_sound n Sub (int i) (tuple ws) a b = tt
combined_sound n Sub (char i) v a b = tt
combined_sound n Sub (enum i k1) v a b = tt
combined_sound n Sub (object i) v a b = tt
combined_sound n Sub (event i) v a b = tt
combined_sound n Sub (task i) v a b = tt
combined_sound n Sub (some y) v a b = tt
combined_sound n Sub (array vs) v a b = tt
combined_sound n Sub (mapping ps) v a b = tt
combined_sound n Sub (tuple vs) v a b = tt
combined_sound n Mul unit v a b = tt
combined_sound n Mul falsity v a b = tt
combined_sound n Mul truth v a b = tt
combined_sound n Mul (int i) unit a b = tt
combined_sound n Mul (int i) falsity a b = tt
combined_sound n Mul (int i) truth a b = tt
combined_sound n Mul (int i) (int j) a b = ranged_sound n (i *ℤ j)
combined_sound n Mul (int i) (char j) a b = tt
combined_sound n Mul (int i) (enum j k2) a b = tt
combined_sound n Mul (int i) (object j) a b = tt
combined_sound n Mul (int i) (event j) a b = tt
combined_sound n Mul (int i) (task j) a b = tt
combined_sound n Mul (int i) (some u) a b = tt
combined_sound n Mul (int i) (array ws) a b = tt
combined_sound n Mul (int i) (mapping qs) a b = tt
combined_sound n Mul (int i) (tuple ws) a b = tt
combined_sound n Mul (char i) v a b = tt
combined_sound n Mul (enum i k1) v a b = tt
combined_sound n Mul (object i) v a b = tt
combined_sound n Mul (event i) v a b = tt
combined_sound n Mul (task i) v a b = tt
combined_sound n Mul (some y) v a b = tt
combined_sound n Mul (array vs) v a b = tt
combined_sound n Mul (mapping ps) v a b = tt
combined_sound n Mul (tuple vs) v a b = tt

sized_two : (n : ℕ) (slot v : Val) → IsSound n slot → (fits slot ≡ true → ValueFits n v) → TwoFit n (sized_slot slot v)
sized_two n slot v a h = two (fits slot) refl
  where
    two : (b : Bool) → fits slot ≡ b → TwoFit n (if b then gives (slot, v) else error Size)
    two true e = (record { small = e; sound = a }, h e)
    two false e = tt

smaller : (v w : Val) → Within v w → fits w ≡ true → fits v ≡ true
smaller v w h e = let s = small_of w e in let h0 = h.0 in let h1 = h.1 in let s0 = s.0 in let s1 = s.1 in
    fits_of v (omega (arith, h0, s0)) (omega (arith, h1, s1))

over_fits : (n : ℕ) (path : List Val) (slot old : Val) (a : Answer Val) → end_of path slot ≡ there old → IsSound n slot → AnswerSound n a →
    TwoFit n (overwritten path slot a)
over_fits n path slot old (gives new) e b c = sized_two n (applied path (put new) slot) new (put_sound n path new slot b c) (λ f. record {
  small = smaller new (applied path (put new) slot) (put_within path new slot old e) f;
  sound = c;
})
over_fits n path slot old fails e b c = tt
over_fits n path slot old (error k) e b c = tt
over_fits n path slot old stuck e b c = tt

last_key_sound : (n : ℕ) (path : List Val) → ValuesFit n path → KeyFits (last_key path)
last_key_sound n [] a = tt
last_key_sound n (i ∷ []) a = key_sound n i a.0.sound
last_key_sound n (i ∷ j ∷ path) a = last_key_sound n (j ∷ path) a.1

key_fits : (n : ℕ) (path : List Val) (m : Mode) (v slot : Val) (o : Option Key) → end_of path slot ≡ new_key → last_key path ≡ o →
    KeyFits o → ValueFits n v → IsSound n slot → TwoFit n (key_made path m v slot o)
key_fits n path Set v slot (Some k) e f a b c =
    sized_two n (applied (path_to_map path) (push k v) slot) v (push_sound n path k v slot e f a b.sound c) (λ g. b)
key_fits n path Set v slot None e f a b c = tt
key_fits n path Add v slot o e f a b c = tt
key_fits n path Sub v slot o e f a b c = tt
key_fits n path Mul v slot o e f a b c = tt

pub write_fits : (n : ℕ) (path : List Val) (m : Mode) (v slot : Val) → ValuesFit n path → ValueFits n v → ValueFits n slot →
    TwoFit n (write_at path m v slot)
write_fits n path m v slot a b c = by_end (end_of path slot) refl (end_sound n path slot c.sound)
  where
    by_end : (e : End) → end_of path slot ≡ e → EndSound n e → TwoFit n (written_at e path m v slot)
    by_end (there old) e d = over_fits n path slot old (combined m old v) e c.sound (combined_sound n m old v d b.sound)
    by_end new_key e d = key_fits n path m v slot (last_key path) e refl (last_key_sound n path a) b c.sound
    by_end nowhere e d = tt
    by_end unfit e d = tt
