-- Lists whose last part is the first of the definition, and locals.
use Rattle.std.proofs.Common.{◌≡◌, ℕ, zero, suc, ◌+◌, ◌-◌, ◌<◌, ◌≤◌, List, [], ◌∷◌, ◌++◌, length, map, take, drop, reverse}
use Rattle.std.proofs.Common.{set, get_or, Option, Some, None, min, refl, sym, ap, ◌∙◌, arith, rules}
use Rattle.std.proofs.lemmas.List.{append_assoc, append-nil, map-append, reverse-append, length-append, length-drop, length-map}
use Rattle.std.proofs.lemmas.List.{length-reverse, take-append-drop, take-map, drop_at, drop_min, drop_all}
use Rattle.std.specs.Prelude.{slice_get}
use Rattle.verse_sorts.specs.Sorts.{Sort}
use Rattle.verse_sorts.specs.Sorts as s
use Rattle.verse_verify_faults.specs.Spots.{Mark}
use Rattle.verse_verify_kept.specs.Rules.{nones}
use Rattle.verse_verify_notes.specs.View.{sort_of, sorts_of}
use Rattle.verse_verify_notes.specs.declared.sorts.Sort as made
use Rattle.verse_verify_notes.specs.declared.sorts.Sort.{Sort as Made, the_lemmas}
use Rattle.lower_notes.specs.States.{Deferred, indices, local_in, with_local, top}
use Rattle.note_states.specs.View.{deferred_of, entries_of, or_none}
use Rattle.note_states.specs.declared.states.Deferred.{Deferred as MadeDeferred}
use Rattle.verse_verify_notes.specs.View.{mark_of}
use Rattle.verse_verify_notes.specs.declared.notes.Mark.{Mark as MadeMark}

reverse_more : {A : Type 0} (x : A) (xs : List A) → reverse (x ∷ xs) ≡ reverse xs ++ x ∷ []
reverse_more x xs = reverse-append (x ∷ []) xs

pub reverse_map : {A B : Type 0} (f : A → B) (xs : List A) → reverse (map f xs) ≡ map f (reverse xs)
reverse_map f [] = refl
reverse_map f (x ∷ xs) =
    reverse_more (f x) (map f xs) ∙ ap (λ k. k ++ f x ∷ []) (reverse_map f xs)
    ∙ sym (ap (map f) (reverse_more x xs) ∙ map-append f (reverse xs) (x ∷ []))

-- one more at the end is one more on top
pub back_more : {A B : Type 0} (f : A → B) (xs : List A) (x : A) → reverse (map f (xs ++ x ∷ [])) ≡ f x ∷ reverse (map f xs)
back_more f xs x = ap reverse (map-append f xs (x ∷ [])) ∙ reverse-append (map f xs) (f x ∷ [])

pub length_back : {A B : Type 0} (f : A → B) (xs : List A) → length (reverse (map f xs)) ≡ length xs
length_back f xs = length-reverse (map f xs) ∙ length-map xs f

-- fewer at the end are fewer on top
rest_back : {A : Type 0} (xs : List A) (n : ℕ) → reverse (take (length xs - n) xs) ≡ drop n (reverse xs)
rest_back xs n =
    let k = length xs - n in
    let m = min n (length (reverse xs)) in
    let p = reverse (drop k xs) in
    let q = reverse (take k xs) in
    let both : reverse xs ≡ p ++ q = ap reverse (sym (take-append-drop k xs)) ∙ reverse-append (take k xs) (drop k xs) in
    let len : length p ≡ m = omega (arith, length-reverse (drop k xs), length-drop k xs, length-reverse xs) in
    sym (sym (drop_min n (reverse xs)) ∙ ap (drop m) both ∙ drop_at p q m len)

pub dropped_back : {A B : Type 0} (f : A → B) (xs : List A) (n : ℕ) →
    reverse (map f (take (length xs - n) xs)) ≡ drop n (reverse (map f xs))
dropped_back f xs n =
    ap reverse (sym (take-map f (length xs - n) xs))
    ∙ ap (λ k. reverse (take (k - n) (map f xs))) (sym (length-map xs f))
    ∙ rest_back (map f xs) n

-- the same, where they are told by their number
pub rest_taken : {A B : Type 0} (f : A → B) (xs ys : List A) (k n : ℕ) → k ≡ length xs - n → ys ≡ take k xs →
    reverse (map f ys) ≡ drop n (reverse (map f xs))
rest_taken f xs ys k n e g =
    ap (λ zs. reverse (map f zs)) g ∙ ap (λ m. reverse (map f (take m xs))) e ∙ dropped_back f xs n

-- the indices of Trys, from the last on
indices_append : (xs ys : List Mark) → indices (xs ++ ys) ≡ indices xs ++ indices ys
indices_append [] ys = refl
indices_append (x ∷ xs) ys = ap (λ k. x.index ∷ k) (indices_append xs ys)

pub indices_back : (xs : List Mark) → indices (reverse xs) ≡ reverse (indices xs)
indices_back [] = refl
indices_back (x ∷ xs) =
    ap indices (reverse_more x xs) ∙ indices_append (reverse xs) (x ∷ []) ∙ ap (λ k. k ++ x.index ∷ []) (indices_back xs)
    ∙ sym (reverse_more x.index (indices xs))

pub entries_back : (xs : List Deferred) → entries_of (reverse xs) ≡ reverse (entries_of xs)
entries_back xs = sym (reverse_map (λ (d : Deferred). d.entry) xs)

pub none_is : sort_of made.None ≡ s.none
none_is = search (rules, the_lemmas)

pub any_is : sort_of made.Any ≡ s.any
any_is = search (rules, the_lemmas)

-- Locals.
pub local_is : (xs : List Sort) (l : ℕ) → or_none (slice_get xs l) ≡ local_in xs l
local_is [] l = refl
local_is (x ∷ xs) zero = refl
local_is (x ∷ xs) (suc l) = local_is xs l

pub local_set : (xs : List Made) (l : ℕ) (a : Made) → sorts_of (set xs l a) ≡ with_local l (sort_of a) (sorts_of xs)
local_set [] l a = refl
local_set (x ∷ xs) zero a = refl
local_set (x ∷ xs) (suc l) a = ap (λ k. sort_of x ∷ k) (local_set xs l a)

pub local_past : (xs : List Made) (l : ℕ) (a : Sort) → length xs ≤ l → with_local l a (sorts_of xs) ≡ sorts_of xs
local_past [] l a h = refl
local_past (x ∷ xs) zero a h = absurd (omega (arith, h))
local_past (x ∷ xs) (suc l) a h = let e : length xs ≤ l = omega (arith, h) in ap (λ k. sort_of x ∷ k) (local_past xs l a e)

-- the locals of a function, one by one: those that are left are none
pub locals_next : (xs : List Made) (x : Made) (n i : ℕ) → i < n → sort_of x ≡ s.none →
    sorts_of (xs ++ x ∷ []) ++ nones (n - (i + 1)) ≡ sorts_of xs ++ nones (n - i)
locals_next xs x n i h e =
    let more : n - i ≡ suc (n - (i + 1)) = omega (arith, h) in
    ap (λ k. k ++ nones (n - (i + 1))) (map-append sort_of xs (x ∷ [])) ∙ append_assoc (sorts_of xs) (sort_of x ∷ []) (nones (n - (i + 1)))
    ∙ ap (λ k. sorts_of xs ++ k ∷ nones (n - (i + 1))) e ∙ sym (ap (λ k. sorts_of xs ++ nones k) more)

pub locals_done : (xs : List Made) (n i : ℕ) → n ≤ i → sorts_of xs ++ nones (n - i) ≡ sorts_of xs
locals_done xs n i h =
    let none : n - i ≡ 0 = omega (arith, h) in
    ap (λ k. sorts_of xs ++ nones k) none ∙ append-nil (sorts_of xs)

pub dropped_one : (x : Sort) (xs : List Sort) → drop 1 (x ∷ xs) ≡ xs
dropped_one x xs = refl

-- all are taken, the last one first
pub indices_done : (xs : List MadeMark) (i : ℕ) (ns : List ℕ) → length xs ≤ i →
    ns ++ indices (map mark_of (drop i xs)) ≡ indices (map mark_of xs) → reverse ns ≡ indices (reverse (map mark_of xs))
indices_done xs i ns h is =
    ap reverse (sym (ap (λ ms. ns ++ indices (map mark_of ms)) (drop_all i xs h) ∙ append-nil ns) ∙ is)
    ∙ sym (indices_back (map mark_of xs))

pub entries_done : (xs : List MadeDeferred) (i : ℕ) (ns : List ℕ) → length xs ≤ i →
    ns ++ entries_of (map deferred_of (drop i xs)) ≡ entries_of (map deferred_of xs) →
    reverse ns ≡ entries_of (reverse (map deferred_of xs))
entries_done xs i ns h is =
    ap reverse (sym (ap (λ ds. ns ++ entries_of (map deferred_of ds)) (drop_all i xs h) ∙ append-nil ns) ∙ is)
    ∙ sym (entries_back (map deferred_of xs))
