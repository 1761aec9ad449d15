-- Lists of sorts, and paths through them.
use Rattle.std.proofs.Common.{◌≡◌, ℕ, List, [], ◌∷◌, ◌++◌, Option, refl, ap}
use Rattle.verse_sorts.specs.Sorts as s
use Rattle.verse_sorts.specs.Sorts.{Sort}
use Rattle.verse_sorts.specs.Typing.{AllFit, fit_no, fit_so}
use Rattle.verse_sorts_values.specs.Operands.{HasNever, never_here, never_behind, in_never, Path, path_no, path_so}

pub joined : (xs ys zs : List Sort) → (xs ++ ys) ++ zs ≡ xs ++ (ys ++ zs)
joined [] ys zs = refl
joined (x ∷ xs) ys zs = ap (λ l. x ∷ l) (joined xs ys zs)

pub ended : (xs : List Sort) → xs ++ [] ≡ xs
ended [] = refl
ended (x ∷ xs) = ap (λ l. x ∷ l) (ended xs)

pub all_joined : {u : ℕ → Option ℕ} {xs ys zs vs : List Sort} → AllFit u xs ys → AllFit u zs vs → AllFit u (xs ++ zs) (ys ++ vs)
all_joined fit_no k = k
all_joined (fit_so h r) k = fit_so h (all_joined r k)

pub path_then : {q r d : Sort} {xs ys : List Sort} → Path q xs r → Path r ys d → Path q (xs ++ ys) d
path_then path_no k = k
path_then (path_so r h p) k = path_so r h (path_then p k)

pub nowhere : (xs : List Sort) → Path s.never xs s.never
nowhere [] = path_no
nowhere (x ∷ xs) = path_so s.never in_never (nowhere xs)

pub never_last : (xs : List Sort) → HasNever (xs ++ s.never ∷ [])
never_last [] = never_here
never_last (x ∷ xs) = never_behind (never_last xs)
