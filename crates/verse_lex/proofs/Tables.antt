-- A table is looked up part by part.
use Rattle.std.proofs.Common.{◌≡◌, ℕ, zero, suc, Bool, true, false, List, [], ◌∷◌, Option, Some, None, take, drop, if◌then◌else◌, refl}
use Rattle.std.specs.Prelude.{nat_eq}
use Rattle.std.specs.Cmp.Lexicographic.{pointwise}
use Rattle.verse_lex.specs.Words.{look_up}

front_case : {A : Type 0} (v : Bool) (x a : A) (p q : Option A) → (p ≡ Some a → q ≡ Some a) → (if v then Some x else p) ≡ Some a →
    (if v then Some x else q) ≡ Some a
front_case true x a p q more e = e
front_case false x a p q more e = more e

pub look_up_front : {A : Type 0} (n : ℕ) (rows : List (List ℕ × A)) (name : List ℕ) (a : A) → look_up (take n rows) name ≡ Some a →
    look_up rows name ≡ Some a
look_up_front zero rows name a h = absurd (cc)
look_up_front (suc n) [] name a h = absurd (cc)
look_up_front (suc n) (row ∷ rows) name a h =
    front_case (pointwise nat_eq name row.0) row.1 a (look_up (take n rows) name) (look_up rows name) (λ e. look_up_front n rows name a e) h

behind_case : {A : Type 0} (v : Bool) (x : A) (p q r : Option A) → (p ≡ None → q ≡ r) → (if v then Some x else p) ≡ None →
    (if v then Some x else q) ≡ r
behind_case true x p q r more e = absurd (cc)
behind_case false x p q r more e = more e

pub look_up_behind : {A : Type 0} (n : ℕ) (rows : List (List ℕ × A)) (name : List ℕ) → look_up (take n rows) name ≡ None →
    look_up rows name ≡ look_up (drop n rows) name
look_up_behind zero rows name h = refl
look_up_behind (suc n) [] name h = refl
look_up_behind (suc n) (row ∷ rows) name h =
    behind_case (pointwise nat_eq name row.0) row.1 (look_up (take n rows) name) (look_up rows name) (look_up (drop n rows) name)
    (λ e. look_up_behind n rows name e) h

pub no_some : {A : Type 0} (x : Option A) → ((a : A) → x ≡ Some a → ⊥) → x ≡ None
no_some None h = refl
no_some (Some a) h = absurd (h a refl)
