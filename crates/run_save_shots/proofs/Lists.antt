-- What holds of each element of a list.
use Rattle.std.proofs.Common.{List, [], ◌∷◌, ◌++◌, Bool, true, false, cond, ◌≢◌, ℕ, zero, suc, ◌<◌, length, None, slice_get, arith, ◌≡◌}
use Rattle.run_save_shots.specs.Lists.{Each, EachTwo}

pub each_join : {A : Type 0} (P : A → Type 0) (xs ys : List A) → Each P xs → Each P ys → Each P (xs ++ ys)
each_join P [] ys a b = b
each_join P (x ∷ xs) ys a b = (a.0, each_join P xs ys a.1 b)

pub each_front : {A : Type 0} (P : A → Type 0) (xs ys : List A) → Each P (xs ++ ys) → Each P xs
each_front P [] ys a = tt
each_front P (x ∷ xs) ys a = (a.0, each_front P xs ys a.1)

pub each_back : {A : Type 0} (P : A → Type 0) (xs ys : List A) → Each P (xs ++ ys) → Each P ys
each_back P [] ys a = a
each_back P (x ∷ xs) ys a = each_back P xs ys a.1

pub each_as : {A : Type 0} (P Q : A → Type 0) (xs : List A) → ((x : A) → P x → Q x) → Each P xs → Each Q xs
each_as P Q [] h p = tt
each_as P Q (x ∷ xs) h p = (h x p.0, each_as P Q xs h p.1)

pub all_as : {A : Type 0} (P Q : A → Type 0) → ((x : A) → P x → Q x) → (xs : List A) → Each P xs → Each Q xs
all_as P Q f [] a = tt
all_as P Q f (x ∷ xs) a = (f x a.0, all_as P Q f xs a.1)

pub each_both : {A : Type 0} (P Q : A → Type 0) (xs : List A) → Each P xs → Each Q xs → Each (λ x. P x × Q x) xs
each_both P Q [] a b = tt
each_both P Q (x ∷ xs) a b = ((a.0, b.0), each_both P Q xs a.1 b.1)

pub each_middle : {A : Type 0} (P : A → Type 0) (before : List A) (t : A) (ts : List A) → Each P (before ++ t ∷ ts) → P t
each_middle P [] t ts p = p.0
each_middle P (x ∷ before) t ts p = each_middle P before t ts p.1

pub each_cond : {A : Type 0} (P : A → Type 0) (b : Bool) (xs ys : List A) → Each P xs → Each P ys → Each P (cond b xs ys)
each_cond P true xs ys a b = a
each_cond P false xs ys a b = b

pub two_join : {A : Type 0} (R : A → A → Type 0) (xs ys : List A) → EachTwo R xs → EachTwo R ys →
    Each (λ x. Each (R x) ys) xs → EachTwo R (xs ++ ys)
two_join R [] ys a b d = b
two_join R (x ∷ xs) ys a b d = (each_join (R x) xs ys a.0 d.0, two_join R xs ys a.1 b d.1)

pub get_some : {A : Type 0} (xs : List A) (n : ℕ) → n < length xs → slice_get xs n ≢ None
get_some [] n low e = omega arith
get_some (x ∷ xs) zero low e = cc
get_some (x ∷ xs) (suc n) low e = get_some xs n (omega arith) e

pub none_end : {A : Type 0} (a : List ℕ) (n : ℕ) → [] ≡ a ++ n ∷ [] → A
none_end [] n e = cc
none_end (i ∷ a) n e = cc

pub last_same : (a b : List ℕ) (n m : ℕ) → a ++ n ∷ [] ≡ b ++ m ∷ [] → n ≡ m
last_same [] [] n m e = cc
last_same [] (y ∷ []) n m e = absurd (cc)
last_same [] (y ∷ z ∷ b) n m e = absurd (cc)
last_same (x ∷ []) [] n m e = absurd (cc)
last_same (x ∷ z ∷ a) [] n m e = absurd (cc)
last_same (x ∷ a) (y ∷ b) n m e = let tails : a ++ n ∷ [] ≡ b ++ m ∷ [] = cc in last_same a b n m tails
