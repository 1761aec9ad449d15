-- Facts of tests, lists and numbers that the kit does not have as they are wanted here.
use Rattle.std.specs.Prelude.{Some, slice_get, None}
use Rattle.std.proofs.Common.{◌≡◌, Bool, true, false, ◌&&◌, refl, not, length, ap, suc, List, [], ◌∷◌, ◌++◌, map, arith, ℕ, zero, ◌<◌, ◌+◌}
use Rattle.std.proofs.Common.{◌∙◌, Option, is_some, option_map, cond, append_assoc, nat_eq, ◌≤◌, nat_lt, nat_le, IsSome, rules}
use Rattle.std.proofs.lemmas.Option.{none-some}
use Rattle.std.proofs.lemmas.Bool.Decides.{nat_tests}

pub and_first : (a b : Bool) → (a && b) ≡ true → a ≡ true
and_first true b h = refl
and_first false b h = cc

pub and_second : (a b : Bool) → (a && b) ≡ true → b ≡ true
and_second true b h = h
and_second false b h = cc

pub not_first : (q r : Bool) → (q && r) ≡ false → r ≡ true → q ≡ false
not_first true true h e = cc
not_first true false h e = cc
not_first false r h e = refl

pub not_second : (a b : Bool) → (a && b) ≡ false → a ≡ true → b ≡ false
not_second true b e f = e
not_second false b e f = absurd (cc)

pub guarded : (a b : Bool) → (a && not b) ≡ false → a ≡ true → b ≡ true
guarded true true h e = refl
guarded true false h e = cc
guarded false b h e = cc

pub clash : {A : Type 0} (b : Bool) → b ≡ true → b ≡ false → A
clash true e f = cc
clash false e f = cc

pub alone : (a b : Bool) → (a && not b) ≡ true → (a ≡ true) × (b ≡ false)
alone true false e = (refl, refl)
alone true true e = absurd (cc)
alone false b e = absurd (cc)

pub length_more : {A : Type 0} (as1 : List A) (a : A) → length (as1 ++ a ∷ []) ≡ suc (length as1)
length_more [] a = refl
length_more (b ∷ bs) a = ap suc (length_more bs a)

pub map_last : {A B : Type 0} (f : A → B) (xs : List A) (x : A) → map f (xs ++ x ∷ []) ≡ map f xs ++ f x ∷ []
map_last f [] x = refl
map_last f (y ∷ xs) x = ap (λ w. f y ∷ w) (map_last f xs x)

pub no_items : {A : Type 0} (xs : List A) → length xs ≡ 0 → xs ≡ []
no_items [] e = refl
no_items (x ∷ xs) e = absurd (omega (arith, e))

pub get_first : {A : Type 0} (xs ys : List A) (i : ℕ) (x : A) → slice_get xs i ≡ Some x → slice_get (xs ++ ys) i ≡ Some x
get_first [] ys i x e = cc
get_first (y ∷ xs) ys zero x e = e
get_first (y ∷ xs) ys (suc i) x e = get_first xs ys i x e

pub get_front : {A : Type 0} (xs ys : List A) (m : ℕ) → m < length xs → slice_get (xs ++ ys) m ≡ slice_get xs m
get_front [] ys m h = absurd (omega (arith, h))
get_front (x ∷ xs) ys zero h = refl
get_front (x ∷ xs) ys (suc m) h = get_front xs ys m (omega (arith, h))

pub get_rest : {X : Type 0} (xs ys : List X) (n : ℕ) → slice_get (xs ++ ys) (n + length xs) ≡ slice_get ys n
get_rest [] ys n = let e : n + 0 ≡ n = omega arith in ap (slice_get ys) e
get_rest (x ∷ xs) ys n = let e : n + length (x ∷ xs) ≡ suc (n + length xs) = omega arith in ap
    (slice_get (x ∷ xs ++ ys)) e ∙ get_rest xs ys n

pub get_last : {A : Type 0} (xs : List A) (y : A) → slice_get (xs ++ y ∷ []) (length xs) ≡ Some y
get_last [] y = refl
get_last (x ∷ xs) y = get_last xs y

pub get_within : {A : Type 0} (xs : List A) (i : ℕ) → i < length xs → (x : A) × (slice_get xs i ≡ Some x)
get_within [] i l = absurd (omega (arith, l))
get_within (x ∷ xs) zero l = (x, refl)
get_within (x ∷ xs) (suc i) l = get_within xs i (omega (arith, l))

pub get_mapped : {A B : Type 0} (f : A → B) (xs : List A) (i : ℕ) (x : A) → slice_get xs i ≡ Some x → slice_get (map f xs) i ≡ Some (f x)
get_mapped f [] i x e = cc
get_mapped f (y ∷ xs) zero x e = let same : y ≡ x = cc in ap (λ z. Some (f z)) same
get_mapped f (y ∷ xs) (suc i) x e = get_mapped f xs i x e

pub mapped_get : {A B : Type 0} (g : A → B) (xs : List A) (i : ℕ) (y : B) → slice_get (map g xs) i ≡ Some y →
    (x : A) × (slice_get xs i ≡ Some x) × (g x ≡ y)
mapped_get g [] i y e = cc
mapped_get g (x ∷ xs) zero y e = let same : g x ≡ y = cc in (x, refl, same)
mapped_get g (x ∷ xs) (suc i) y e = mapped_get g xs i y e

pub mapped_none : {A B : Type 0} (f : A → B) (xs : List A) (i : ℕ) → slice_get xs i ≡ None → slice_get (map f xs) i ≡ None
mapped_none f [] i e = refl
mapped_none f (y ∷ xs) zero e = cc
mapped_none f (y ∷ xs) (suc i) e = mapped_none f xs i e

pub present : {A B : Type 0} (xs : List A) (ys : List B) (i : ℕ) (x : A) → length ys ≡ length xs → slice_get xs i ≡
    Some x →
    (y : B) × (slice_get ys i ≡ Some y)
present [] ys i x e h = elim (none-some _ h) [ ]
present (x ∷ xs) [] i a e h = elim (no_length e) [ ]
  where
    no_length : {k : ℕ} → 0 ≡ suc k → ⊥
    no_length e = omega (arith, e)
present (x ∷ xs) (y ∷ ys) zero a e h = (y, refl)
present (x ∷ xs) (y ∷ ys) (suc i) a e h = present xs ys i a (lower _ _ e) h
  where
    lower : (j k : ℕ) → suc j ≡ suc k → j ≡ k
    lower j k e = omega (arith, e)

pub past : {A B : Type 0} (xs : List A) (ys : List B) (d : ℕ) → length xs ≡ length ys → slice_get xs d ≡ None → slice_get ys d ≡ None
past [] [] d e h = refl
past [] (y ∷ ys) d e h = absurd (omega (arith, e))
past (x ∷ xs) [] d e h = refl
past (x ∷ xs) (y ∷ ys) zero e h = cc
past (x ∷ xs) (y ∷ ys) (suc d) e h = past xs ys d (omega (arith, e)) h

pub none_is : {A : Type 0} (o : Option A) → is_some o ≡ false → o ≡ None
none_is None e = refl
none_is (Some x) e = absurd (cc)

pub none_of_next : (o : Option ℕ) → option_map suc o ≡ None → o ≡ None
none_of_next None f = refl
none_of_next (Some i) f = absurd (cc)

pub place_of_next : (o : Option ℕ) (j : ℕ) → option_map suc o ≡ Some (suc j) → o ≡ Some j
place_of_next None j g = absurd (cc)
place_of_next (Some n) j g = cc

pub cond_none : {A : Type 0} (b : Bool) (v : A) (o : Option A) → cond b (Some v) o ≡ None → (b ≡ false) × (o ≡ None)
cond_none true v o e = absurd (cc)
cond_none false v o e = (refl, e)

pub none_cond : {A : Type 0} (b : Bool) (v : A) (o : Option A) → b ≡ false → o ≡ None → cond b (Some v) o ≡ None
none_cond true v o e f = absurd (cc)
none_cond false v o e f = f

pub append_one : {A : Type 0} (xs : List A) (x : A) (ys : List A) → xs ++ x ∷ ys ≡ (xs ++ x ∷ []) ++ ys
append_one [] x ys = refl
append_one (z ∷ xs) x ys = ap (λ l. z ∷ l) (append_one xs x ys)

pub rejoin : {A : Type 0} (before : List A) (t : A) (ts : List A) → (before ++ t ∷ []) ++ ts ≡ before ++ t ∷ ts
rejoin before t ts = append_assoc before (t ∷ []) ts

pub nat_eq_same : (n : ℕ) → nat_eq n n ≡ true
nat_eq_same n = grind (arith, nat_tests)

pub nat_eq_not : (n k : ℕ) → (n ≡ k → ⊥) → nat_eq n k ≡ false
nat_eq_not n k d = grind (arith, nat_tests)

pub nat_lt_not : (a b : ℕ) → nat_lt a b ≡ false → b ≤ a
nat_lt_not a b e = grind (arith, nat_tests)

pub nat_le_is : (n k : ℕ) → nat_le n k ≡ true → n ≤ k
nat_le_is n k e = grind (arith, nat_tests)

pub as_long : {A B : Type 0} (view : A → B) (xs : List A) → length xs ≡ length (map view xs)
as_long view [] = refl
as_long view (x ∷ xs) = ap suc (as_long view xs)

pub one_more : {A : Type 0} (xs : List A) (x : A) → length (xs ++ x ∷ []) ≡ length xs + 1
one_more [] x = omega arith
one_more (y ∷ xs) x = let h = one_more xs x in omega arith

pub some_within : {A : Type 0} (xs : List A) (i : ℕ) → i < length xs → IsSome (slice_get xs i)
some_within [] i lt = absurd (omega (arith, lt))
some_within (x ∷ xs) zero lt = search rules
some_within (x ∷ xs) (suc i) lt = some_within xs i (omega (arith, lt))
