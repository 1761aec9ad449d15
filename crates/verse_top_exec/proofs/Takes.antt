-- What a sink has taken, piece after piece.
use Rattle.std.proofs.Common.{◌≡◌, ℕ, ◌+◌, ◌<◌, ◌≤◌, List, [], ◌++◌, Option, Some, None, inl, inr, length, take, ap, sym, ◌∙◌, refl}
use Rattle.std.proofs.Common.{append-nil, length-append, arith}
use Rattle.std.proofs.Math.Seq.{take-append-add, take-append-le}
use Rattle.verse_outside.specs.Causes.{Rose}
use Rattle.verse_outside.specs.Held.{TookPrefix, with_more}
use Rattle.verse_outside.proofs.Taken.{more_twice}

pub more_nothing : (t : Option (List ℕ)) → with_more t [] ≡ t
more_nothing None = refl
more_nothing (Some bytes) = ap (λ x. Some x) (append-nil bytes)

-- a whole piece, and then another
pub more_then : (old mid new : Option (List ℕ)) (a b : List ℕ) → mid ≡ with_more old a → new ≡ with_more mid b →
    new ≡ with_more old (a ++ b)
more_then old mid new a b e f = f ∙ ap (λ t. with_more t b) e ∙ more_twice old a b

-- a whole piece, and then a prefix of another
pub took_behind : (old mid new : Option (List ℕ)) (a b : List ℕ) → mid ≡ with_more old a → TookPrefix mid b new →
    TookPrefix old (a ++ b) new
took_behind old mid new a b e p =
    let within = p.1 in
    let all = length-append a b in (
      length a + p.0,
      omega arith,
      p.2 ∙ ap (λ t. with_more t (take p.0 b)) e ∙ more_twice old a (take p.0 b) ∙ ap (with_more old) (sym (take-append-add a b p.0)),
    )

pub rose_from : (before mid now : ℕ) → before ≤ mid → Rose mid now → Rose before now
rose_from before mid now low (inl up) = inl (omega arith)
rose_from before mid now low (inr top) = inr top

-- a prefix of a piece is one of the piece and what stands behind it
pub took_front : (old new : Option (List ℕ)) (a b : List ℕ) → TookPrefix old a new → TookPrefix old (a ++ b) new
took_front old new a b p =
    let within = p.1 in
    let all = length-append a b in
    (p.0, omega arith, p.2 ∙ ap (with_more old) (sym (take-append-le p.0 a b p.1)))
