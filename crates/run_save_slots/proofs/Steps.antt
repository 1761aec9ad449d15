-- One frame more.
use Rattle.std.proofs.Common.{◌≡◌, ℕ, suc, ◌+◌, List, [], ◌∷◌, ◌++◌, map, reverse, refl, sym, ap, ◌∙◌, arith}
use Rattle.std.proofs.lemmas.List.{map-append}
use Rattle.std.proofs.lemmas.Grind.{reverse_onto}
use Rattle.verse_value.specs.Val.{Val}
use Rattle.verse_value.specs.View.{val_of, vals_of}
use Rattle.verse_value.specs.declared.values.Value.{Value}
use Rattle.vm_frames.specs.Framed.{Framed}
use Rattle.vm_frames.specs.Calls.{added}

-- where the values of operands stand
values_turned : (vs : List Value) → vals_of (reverse vs) ≡ reverse (vals_of vs)
values_turned [] = refl
values_turned (v ∷ vs) =
    ap vals_of (reverse_onto vs v []) ∙ (map-append val_of (reverse vs) (v ∷ []) ∙
    (ap (λ ws. ws ++ val_of v ∷ []) (values_turned vs) ∙ sym (reverse_onto (vals_of vs) (val_of v) [])))

pub same_frame : (born place arms : ℕ) (locals : List Val) (stack : List Value) (defers : List ℕ) (below : List Framed) →
    added born (place + 1 + arms) locals (vals_of (reverse stack)) (reverse defers) below ≡
    added born (suc place + arms) locals (reverse (vals_of stack)) (reverse defers) below
same_frame born place arms locals stack defers below =
    let where_at : place + 1 + arms ≡ suc place + arms = omega arith in
    ap (λ p. added born p locals (vals_of (reverse stack)) (reverse defers) below) where_at ∙
    ap (λ vs. added born (suc place + arms) locals vs (reverse defers) below) (values_turned stack)
