-- Bytes that are taken in turn.
use Rattle.std.proofs.Common.{◌≡◌, ℕ, ◌+◌, ◌≤◌, List, ◌++◌, Option, Some, None, take, drop, ap, sym, ◌∙◌, refl, append_assoc, take-take}
use Rattle.std.proofs.Math.Seq.{take-add}
use Rattle.verse_outside.specs.Held.{with_more}

pub more_twice : (t : Option (List ℕ)) (a b : List ℕ) → with_more (with_more t a) b ≡ with_more t (a ++ b)
more_twice None a b = refl
more_twice (Some bytes) a b = ap (λ x. Some x) (append_assoc bytes a b)

-- of a piece whose first bytes were taken, more were
pub taken_further : (old mid new : Option (List ℕ)) (p : List ℕ) (a n k : ℕ) → mid ≡ with_more old (take a p) →
    new ≡ with_more mid (take n (take k (drop a p))) → n ≤ k → new ≡ with_more old (take (a + n) p)
taken_further old mid new p a n k first then within =
    then ∙ ap (λ m. with_more m (take n (take k (drop a p)))) first ∙ more_twice old (take a p) (take n (take k (drop a p)))
    ∙ ap (λ l. with_more old (take a p ++ l)) (take-take n k (drop a p) within) ∙ ap (with_more old) (sym (take-add a n p))
