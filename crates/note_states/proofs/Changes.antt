-- Changes that go step by step.
use Rattle.std.proofs.Common.{◌≡◌, ℕ, zero, suc, ◌+◌, ◌-◌, ◌<◌, ◌≤◌, List, [], ◌∷◌, drop, refl, sym, ap, ◌∙◌, arith}
use Rattle.verse_sorts.specs.Sorts.{Sort}
use Rattle.verse_sorts.specs.Sorts as s
use Rattle.lower_notes.specs.States.{State, Deferred, locals_behind, left_behind}
use Rattle.lower_notes.specs.Stretches.{anys, above}
use Rattle.note_states.specs.View.{ran, run_one}

-- a block runs, and then those that are left
no_blocks : (n : ℕ) (x : State) → record x { defers = drop n []; locals = locals_behind n [] x.locals } ≡ record x { defers = [] }
no_blocks zero x = refl
no_blocks (suc n) x = refl

run_next : (n : ℕ) (x : State) → left_behind n (run_one x) ≡ left_behind (suc n) x
run_next n x = by x.defers refl
  where
    by : (ds : List Deferred) → x.defers ≡ ds → left_behind n (run_one x) ≡ left_behind (suc n) x
    by [] e =
        ap (λ es. left_behind n (ran es x)) e ∙ ap (λ es. record x { defers = drop n es; locals = locals_behind n es x.locals }) e
        ∙ no_blocks n x
        ∙ sym (ap (λ es. record x { defers = drop (suc n) es; locals = locals_behind (suc n) es x.locals }) e)
    by (d ∷ ds) e =
        ap (λ es. left_behind n (ran es x)) e
        ∙ sym (ap (λ es. record x { defers = drop (suc n) es; locals = locals_behind (suc n) es x.locals }) e)

pub one_left : (n i : ℕ) (x y all : State) → i < n → y ≡ run_one x →
    left_behind (n - i) x ≡ all → left_behind (n - (i + 1)) y ≡ all
one_left n i x y all h g is =
    let k = n - (i + 1) in
    let more : n - i ≡ suc k = omega (arith, h) in
    ap (left_behind k) g ∙ run_next k x ∙ ap (λ m. left_behind m x) (sym more) ∙ is

pub no_more : (n i : ℕ) (x all : State) → n ≤ i → left_behind (n - i) x ≡ all → x ≡ all
no_more n i x all h is =
    let none : n - i ≡ 0 = omega (arith, h) in
    sym (ap (λ m. left_behind m x) none) ∙ is

-- so many operands of which nothing is asked, one by one
anys_more : (n : ℕ) (st : List Sort) → anys n (s.any ∷ st) ≡ s.any ∷ anys n st
anys_more zero st = refl
anys_more (suc n) st = ap (λ k. s.any ∷ k) (anys_more n st)

pub one_above : (n i : ℕ) (x y all : State) → i < n → y ≡ record x { stack = s.any ∷ x.stack } →
    above (n - i) x ≡ all → above (n - (i + 1)) y ≡ all
one_above n i x y all h g is =
    let k = n - (i + 1) in
    let more : n - i ≡ suc k = omega (arith, h) in
    ap (above k) g ∙ ap (λ st. record x { stack = st }) (anys_more k x.stack) ∙ ap (λ m. above m x) (sym more) ∙ is

pub none_above : (n i : ℕ) (x all : State) → n ≤ i → above (n - i) x ≡ all → x ≡ all
none_above n i x all h is =
    let none : n - i ≡ 0 = omega (arith, h) in
    sym (ap (λ m. above m x) none) ∙ is
