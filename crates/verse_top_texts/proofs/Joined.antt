-- Texts one after another.
use Rattle.std.proofs.Common.{◌≡◌, ℕ, List, ◌++◌, append_assoc, ap, ◌∙◌}

pub three_parts : (out a p b one two three : List ℕ) → one ≡ out ++ a → two ≡ one ++ p → three ≡ two ++ b → three ≡ out ++ (a ++ (p ++ b))
three_parts out a p b one two three f g h =
    h ∙ ap (λ (l : List ℕ). l ++ b) (g ∙ ap (λ (l : List ℕ). l ++ p) f) ∙ ap (λ (l : List ℕ). l ++ b) (append_assoc out a p) ∙
    append_assoc out (a ++ p) b ∙ ap (λ (l : List ℕ). out ++ l) (append_assoc a p b)
