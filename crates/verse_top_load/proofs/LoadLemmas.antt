-- Numbers are written one after another.
use Rattle.std.proofs.Common.{◌≡◌, ℕ, suc, ◌+◌, ◌-◌, ◌<◌, List, [], ◌++◌, ap, ◌∙◌, arith, append_assoc}
use Rattle.verse_top_load.specs.Load.{each_from}

-- the text of the next number is written, before an end
pub next_from : (text : ℕ → List ℕ) (i end : ℕ) (old new all : List ℕ) → i < end → new ≡ old ++ text i →
    old ++ each_from text i (end - i) ≡ all → new ++ each_from text (i + 1) (end - (i + 1)) ≡ all
next_from text i end old new all below written so_far =
    let left : suc (end - (i + 1)) ≡ end - i = omega arith in
    ap (λ (w : List ℕ). w ++ each_from text (i + 1) (end - (i + 1))) written ∙
    append_assoc old (text i) (each_from text (i + 1) (end - (i + 1))) ∙ ap (λ (n : ℕ). old ++ each_from text i n) left ∙ so_far

-- three texts are written, from nothing on
pub joined : (start first second third a b c : List ℕ) → start ≡ [] → first ≡ start ++ a → second ≡ first ++ b → third ≡ second ++ c →
    third ≡ a ++ (b ++ c)
joined start first second third a b c empty one two three =
    three ∙ ap (λ (w : List ℕ). w ++ c) (two ∙ ap (λ (w : List ℕ). w ++ b) (one ∙ ap (λ (w : List ℕ). w ++ a) empty)) ∙ append_assoc a b c
