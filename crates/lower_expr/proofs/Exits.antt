-- The jumps out of a loop, one after another.
use Rattle.std.proofs.Common.{◌≡◌, ℕ, suc, ◌+◌, ◌-◌, ◌<◌, ◌≤◌, List, [], ◌∷◌, length, drop, drop-cons, drop_of_length-le, get_or, refl, sym}
use Rattle.std.proofs.Common.{ap, ◌∙◌, arith}
use Rattle.std.specs.Prelude.{max, slice_get}
use Rattle.verse_code.specs.declared.operations.Op.{Op}
use Rattle.verse_code.specs.declared.operations.Op.TheVariants as o
use Rattle.lower_expr.specs.Building.{Built, pushed, height_of, deepest_at, dropped, exit_closed, all_closed}

next_exit : (es : List ℕ) (i e : ℕ) → i < length es → e ≡ get_or es i e → drop i es ≡ e ∷ drop (i + 1) es
next_exit es i e h is =
    let same : suc i ≡ i + 1 = omega arith in
    drop-cons es i e h ∙ ap (λ x. x ∷ drop (suc i) es) (sym is) ∙ ap (λ j. e ∷ drop j es) same

pub deepest_next : (es : List ℕ) (ops : List Op) (i e d : ℕ) → i < length es → e ≡ get_or es i e →
    max d (deepest_at (drop i es) ops) ≡ max (max (height_of (slice_get ops e)) d) (deepest_at (drop (i + 1) es) ops)
deepest_next es ops i e d h is =
    let k : ℕ = height_of (slice_get ops e) in
    let rest : ℕ = deepest_at (drop (i + 1) es) ops in
    let turned : max d (max k rest) ≡ max (max k d) rest = omega arith in
    ap (λ k. max d (deepest_at k ops)) (next_exit es i e h is) ∙ turned

pub closed_next : (es : List ℕ) (i e out : ℕ) (b : Built) → i < length es → e ≡ get_or es i e →
    all_closed (drop i es) out b ≡ all_closed (drop (i + 1) es) out (exit_closed e out b)
unfolding all_closed exit_closed
closed_next es i e out b h is = ap (λ k. all_closed k out b) (next_exit es i e h is)

pub closed_none : (out : ℕ) (b : Built) → all_closed [] out b ≡ b
unfolding all_closed
closed_none out b = refl

pub closed_done : (es : List ℕ) (i out : ℕ) (b r : Built) → length es ≤ i → all_closed (drop i es) out b ≡ r → b ≡ r
closed_done es i out b r h e = sym (closed_none out b) ∙ ap (λ k. all_closed k out b) (sym (drop_of_length-le es h)) ∙ e

pub exits_same : (e out : ℕ) (b : Built) → (exit_closed e out b).exits ≡ b.exits
unfolding exit_closed
exits_same e out b = refl

pub dropped_next : (n : ℕ) (i : ℕ) (b : Built) → i < n → dropped (n - i) b ≡ dropped (n - (i + 1)) (pushed o.Drop b)
dropped_next n i b h =
    let one : n - i ≡ suc (n - (i + 1)) = omega (arith, h) in
    ap (λ k. dropped k b) one
