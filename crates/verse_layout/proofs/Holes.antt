-- Where the innermost hole stands among the frames, and what their counts sum up to.
use Rattle.std.proofs.Common.{◌≡◌, ◌<◌, ◌≤◌, ◌+◌, ℕ, suc, true, List, [], ◌∷◌, ◌++◌, length, take, drop, reverse, slice_get, get_or, Some}
use Rattle.std.proofs.Common.{sym, ◌∙◌, ap, add-one, append_assoc, zero-add, add_assoc, arith, if◌then◌else◌}
use Rattle.std.proofs.lemmas.Grind.{reverse_onto}
use Rattle.std.proofs.Math.ListN.{set}
use Rattle.std.proofs.lemmas.List.{reverse-append, take_more, set_split, take-append-drop}
use Rattle.std.proofs.lemmas.Option.{get_or_from_slice_get, slice_get_within}
use Rattle.verse_layout.specs.declared.loads.Count.{Count}
use Rattle.verse_layout.specs.Loads.{reset, reset_hole, sum_of}

last_taken : (xs : List Count) (i j : ℕ) (c : Count) → i ≡ j + 1 → slice_get xs j ≡ Some c → reverse (take i xs) ≡ c ∷ reverse (take j xs)
last_taken xs i j c e g =
    let lt : j < length xs = slice_get_within xs j c g in
    let front : take (j + 1) xs ≡ take j xs ++ c ∷ [] =
    take_more xs j c lt ∙ ap (λ x. take j xs ++ x ∷ []) (get_or_from_slice_get xs j c c g) in
    rw (e, front) (reverse-append (take j xs) (c ∷ []))

hole_there : (xs : List Count) (i j : ℕ) (c z : Count) → i ≡ j + 1 → slice_get xs j ≡ Some c → (get_or xs j z).is_hole ≡ true →
    reset_hole (reverse xs) ≡ reverse (drop i xs) ++ reset_hole (reverse (take i xs)) →
    reset_hole (reverse xs) ≡ reverse (drop i xs) ++ reset c ∷ reverse (take j xs)
hole_there xs i j c z e g was inv =
    let h : c.is_hole ≡ true = ap (λ x. x.is_hole) (sym (get_or_from_slice_get xs j c z g)) ∙ was in
    inv ∙ ap (λ x. reverse (drop i xs) ++ reset_hole x) (last_taken xs i j c e g)
    ∙ ap (λ b. reverse (drop i xs) ++ (if b then reset c ∷ reverse (take j xs) else c ∷ reset_hole (reverse (take j xs)))) h

pub hole_set : (xs : List Count) (i j : ℕ) (c z : Count) → i ≡ j + 1 → slice_get xs j ≡ Some c → (get_or xs j z).is_hole ≡ true →
    reset_hole (reverse xs) ≡ reverse (drop i xs) ++ reset_hole (reverse (take i xs)) →
    reset_hole (reverse xs) ≡ reverse (set xs j (reset c))
hole_set xs i j c z e g was inv =
    let lt : j < length xs = slice_get_within xs j c g in
    let split : set xs j (reset c) ≡ take j xs ++ reset c ∷ drop (suc j) xs = set_split xs j (reset c) lt in
    let right : reverse (set xs j (reset c)) ≡ reverse (drop (suc j) xs) ++ reset c ∷ reverse (take j xs) =
    ap reverse split ∙ reverse-append (take j xs) (reset c ∷ drop (suc j) xs) ∙
    ap (λ x. x ++ reverse (take j xs)) (reverse_onto (drop (suc j) xs) (reset c) []) ∙
    append_assoc (reverse (drop (suc j) xs)) (reset c ∷ []) (reverse (take j xs)) in
    hole_there xs i j c z e g was inv ∙ ap (λ n. reverse (drop n xs) ++ reset c ∷ reverse (take j xs)) (e ∙ add-one j) ∙ sym right

sum_append : (xs ys : List Count) → sum_of (xs ++ ys) ≡ sum_of xs + sum_of ys
sum_append [] ys = sym (zero-add (sum_of ys))
sum_append (x ∷ xs) ys = ap (λ n. x.count + n) (sum_append xs ys) ∙ sym (add_assoc x.count (sum_of xs) (sum_of ys))

whole_sum : (xs : List Count) (i j : ℕ) (c : Count) → i ≡ j + 1 → slice_get xs j ≡ Some c →
    sum_of (reverse xs) ≡ sum_of (reverse (drop i xs)) + (c.count + sum_of (reverse (take j xs)))
whole_sum xs i j c e g =
    let whole : reverse xs ≡ reverse (drop i xs) ++ c ∷ reverse (take j xs) =
    ap reverse (sym (take-append-drop i xs)) ∙ reverse-append (take i xs) (drop i xs) ∙
    ap (λ x. reverse (drop i xs) ++ x) (last_taken xs i j c e g) in
    ap sum_of whole ∙ sum_append (reverse (drop i xs)) (c ∷ reverse (take j xs))

pub hole_least : (xs : List Count) (i j : ℕ) (c : Count) → i ≡ j + 1 → slice_get xs j ≡ Some c → c.count ≤ sum_of (reverse xs)
hole_least xs i j c e g = let here = whole_sum xs i j c e g in omega arith

pub hole_sum : (xs : List Count) (i j : ℕ) (c z : Count) → i ≡ j + 1 → slice_get xs j ≡ Some c → (get_or xs j z).is_hole ≡ true →
    reset_hole (reverse xs) ≡ reverse (drop i xs) ++ reset_hole (reverse (take i xs)) →
    sum_of (reset_hole (reverse xs)) + c.count ≡ sum_of (reverse xs) + 1
hole_sum xs i j c z e g was inv =
    let there : sum_of (reset_hole (reverse xs)) ≡ sum_of (reverse (drop i xs)) + (1 + sum_of (reverse (take j xs))) =
    ap sum_of (hole_there xs i j c z e g was inv) ∙ sum_append (reverse (drop i xs)) (reset c ∷ reverse (take j xs)) in
    let here = whole_sum xs i j c e g in
    omega arith
