-- The scope of the locals.
use Rattle.std.proofs.Common.{◌≡◌, ℕ, suc, ◌+◌, ◌-◌, ◌<◌, List, [], ◌∷◌, ◌++◌, length, take, drop, Bool, true, false, cond, refl, sym, ap}
use Rattle.std.proofs.Common.{◌∙◌, arith, length-append, length-take-le, take_all, get_or, Some, None}
use Rattle.std.proofs.Math.Seq.{drop-append_seam}
use Rattle.std.proofs.lemmas.List.{take_more}
use Rattle.std.specs.Prelude.{◌≤◌}
use Rattle.verse_tree.specs.Tree.{Bytes}
use Rattle.verse_meaning.specs.Programs.{same_name}
use Rattle.lower_code.specs.Scopes as s
use Rattle.lower_code.specs.Scopes.{Scope}
use Rattle.lower_expr.specs.declared.scopes.Slot.{Slot}
use Rattle.lower_expr.specs.Locals.{slot_of, scope_from, cut_to, found_in}

pub scope_more : (xs : List Slot) (x : Slot) (sc : Scope) → scope_from (xs ++ x ∷ []) sc ≡ slot_of x ∷ scope_from xs sc
scope_more [] x sc = refl
scope_more (y ∷ ys) x sc = scope_more ys x (slot_of y ∷ sc)

pub scope_length : (xs : List Slot) (sc : Scope) → length (scope_from xs sc) ≡ length xs + length sc
scope_length [] sc = omega arith
scope_length (y ∷ ys) sc = omega (arith, scope_length ys (slot_of y ∷ sc))

-- one slot less, where more than n are left
pub cut_last : (n : ℕ) (x : s.Slot) (sc : Scope) → n < suc (length sc) → cut_to n (x ∷ sc) ≡ cut_to n sc
cut_last n x sc h =
    let less : suc (length sc) - n ≡ suc (length sc - n) = omega (arith, h) in
    ap (λ k. drop k (x ∷ sc)) less

pub cut_none : (n : ℕ) (sc : Scope) → length sc ≤ n → cut_to n sc ≡ sc
cut_none n sc h =
    let none : length sc - n ≡ 0 = omega (arith, h) in
    ap (λ k. drop k sc) none

-- a scope that has grown is cut back to what it was
pub cut_back : (added sc : Scope) → cut_to (length sc) (added ++ sc) ≡ sc
cut_back added sc =
    let more : length (added ++ sc) - length sc ≡ length added = omega (arith, length-append added sc) in
    ap (λ k. drop k (added ++ sc)) more ∙ drop-append_seam added sc

-- from the newest on
pub found_first : (x : Bytes) (y : s.Slot) (sc : Scope) (r : s.Found) → found_in x y (length sc) ≡ Some r → s.find x (y ∷ sc) ≡ r
found_first x (s.constant_at y) sc r h = by (same_name x y) h
  where
    by : (c : Bool) → cond c (Some (s.fixed (length sc))) None ≡ Some r → cond c (s.fixed (length sc)) (s.find x sc) ≡ r
    by true h = cc (h)
    by false h = absurd (cc (h))
found_first x (s.variable_at y) sc r h = by (same_name x y) h
  where
    by : (c : Bool) → cond c (Some (s.varies (length sc))) None ≡ Some r → cond c (s.varies (length sc)) (s.find x sc) ≡ r
    by true h = cc (h)
    by false h = absurd (cc (h))
found_first x s.hidden sc r h = absurd (cc (h))

pub found_later : (x : Bytes) (y : s.Slot) (sc : Scope) (l : ℕ) → found_in x y l ≡ None → s.find x (y ∷ sc) ≡ s.find x sc
found_later x (s.constant_at y) sc l h = by (same_name x y) h
  where
    by : (c : Bool) → cond c (Some (s.fixed l)) None ≡ None → cond c (s.fixed (length sc)) (s.find x sc) ≡ s.find x sc
    by true h = absurd (cc (h))
    by false h = refl
found_later x (s.variable_at y) sc l h = by (same_name x y) h
  where
    by : (c : Bool) → cond c (Some (s.varies l)) None ≡ None → cond c (s.varies (length sc)) (s.find x sc) ≡ s.find x sc
    by true h = absurd (cc (h))
    by false h = refl
found_later x s.hidden sc l h = refl

-- the slots below n
below : (xs : List Slot) (m n : ℕ) (y : Slot) → m ≡ n + 1 → n < length xs → y ≡ get_or xs n y →
    scope_from (take m xs) [] ≡ slot_of y ∷ scope_from (take n xs) []
below xs m n y e h is =
    ap (λ k. scope_from (take k xs) []) e ∙ ap (λ k. scope_from k []) (take_more xs n y h) ∙ scope_more (take n xs) (get_or xs n y) []
    ∙ ap (λ z. slot_of z ∷ scope_from (take n xs) []) (sym is)

below_length : (xs : List Slot) (n : ℕ) → n ≤ length xs → length (scope_from (take n xs) []) ≡ n
below_length xs n h = omega (arith, h, scope_length (take n xs) [], length-take-le n xs h)

pub looks_from : (x : Bytes) (xs : List Slot) (n : ℕ) → n ≡ length (scope_from xs []) →
    s.find x (scope_from (take n xs) []) ≡ s.find x (scope_from xs [])
looks_from x xs n e =
    let all : length xs ≤ n = omega (arith, e, scope_length xs []) in
    ap (λ k. s.find x (scope_from k [])) (take_all n xs all)

-- the slot y at n, with m behind it
pub looks_at : (x : Bytes) (xs : List Slot) (m n : ℕ) (y : Slot) (r all : s.Found) → m ≡ n + 1 → n < length xs → y ≡ get_or xs n y →
    found_in x (slot_of y) n ≡ Some r → s.find x (scope_from (take m xs) []) ≡ all → r ≡ all
looks_at x xs m n y r all e h is f g =
    let long : n ≤ length xs = omega (arith, h) in
    sym (found_first x (slot_of y) (scope_from (take n xs) []) r (ap (found_in x (slot_of y)) (below_length xs n long) ∙ f)) ∙
    ap (s.find x) (sym (below xs m n y e h is)) ∙ g

pub looks_on : (x : Bytes) (xs : List Slot) (m n : ℕ) (y : Slot) (all : s.Found) → m ≡ n + 1 → n < length xs → y ≡ get_or xs n y →
    found_in x (slot_of y) n ≡ None → s.find x (scope_from (take m xs) []) ≡ all → s.find x (scope_from (take n xs) []) ≡ all
looks_on x xs m n y all e h is f g =
    sym (found_later x (slot_of y) (scope_from (take n xs) []) n f) ∙ ap (s.find x) (sym (below xs m n y e h is)) ∙ g
