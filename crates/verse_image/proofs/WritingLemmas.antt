-- Writing one field after another.
use Rattle.std.proofs.Common.{◌≡◌, ℕ, ◌+◌, ◌/◌, ◌%◌, ◌<◌, ◌≤◌, Bool, List, [], ◌∷◌, ◌++◌, length, drop, get_or, refl, sym, ap, subst, ◌∙◌}
use Rattle.std.proofs.Common.{append_assoc}
use Rattle.std.proofs.lemmas.List.{append-nil, drop_more}
use Rattle.std.proofs.Math.ListN.{drop_of_length-le}
use Rattle.verse_image.specs.Format.{Field, ◌⨾◌, nothing, plain, each, Spelled, one_byte, more_bytes, SignedSpelled, one_signed}
use Rattle.verse_image.specs.Format.{more_signed, seven_bits}
use Rattle.verse_image.specs.Writing.{Writes}

pub writes_then : (P Q : Field) (a b c : List ℕ) → Writes P a b → Writes Q b c → Writes (P ⨾ Q) a c
writes_then P Q a b c p q = (
  p.0 ++ q.0,
  q.1 ∙ ap (λ (w : List ℕ). w ++ q.0) p.1 ∙ append_assoc a p.0 q.0,
  λ rest. (q.0 ++ rest, subst (λ (w : List ℕ). P w (q.0 ++ rest)) (sym (append_assoc p.0 q.0 rest)) (p.2 (q.0 ++ rest)), q.2 rest),
)

pub writes_nothing : (a : List ℕ) → Writes nothing a a
writes_nothing a = ([], sym (append-nil a), λ rest. refl)

pub writes_plain : (a bytes : List ℕ) → Writes (plain bytes) a (a ++ bytes)
writes_plain a bytes = (bytes, refl, λ rest. refl)

-- what is written more weakly
pub writes_as : (P Q : Field) (a b : List ℕ) → ((x z : List ℕ) → P x z → Q x z) → Writes P a b → Writes Q a b
writes_as P Q a b h p = (p.0, p.1, λ rest. h (p.0 ++ rest) rest (p.2 rest))

-- the last byte of a number
pub writes_last : (n : ℕ) (a : List ℕ) → n < 128 → Writes (Spelled n) a (a ++ n ∷ [])
writes_last n a lt = (n ∷ [], refl, λ rest. one_byte lt)

-- a byte of a number, and then what is left of it
pub writes_more : (n b : ℕ) (a c : List ℕ) → 128 ≤ n → b ≡ 128 + n % 128 → Writes (Spelled (n / 128)) (a ++ b ∷ []) c →
    Writes (Spelled n) a c
writes_more n b a c le e p = (b ∷ p.0, p.1 ∙ append_assoc a (b ∷ []) p.0, λ rest. more_bytes le e (p.2 rest))

pub writes_signed_last : (negative : Bool) (n b : ℕ) (a : List ℕ) → n < 64 → b ≡ seven_bits negative n →
    Writes (SignedSpelled negative n) a (a ++ b ∷ [])
writes_signed_last negative n b a lt e = (b ∷ [], refl, λ rest. one_signed lt e)

pub writes_signed_more : (negative : Bool) (n b : ℕ) (a c : List ℕ) → 64 ≤ n → b ≡ 128 + seven_bits negative (n % 128) →
    Writes (SignedSpelled negative (n / 128)) (a ++ b ∷ []) c → Writes (SignedSpelled negative n) a c
writes_signed_more negative n b a c le e p = (b ∷ p.0, p.1 ∙ append_assoc a (b ∷ []) p.0, λ rest. more_signed le e (p.2 rest))

-- one entry, and then those that are left
pub writes_entry : {A : Type 0} (f : A → Field) (xs : List A) (k : ℕ) (x d : A) (a b c : List ℕ) → k < length xs → x ≡ get_or xs k d →
    Writes (f x) a b → Writes (each f (drop (k + 1) xs)) b c → Writes (each f (drop k xs)) a c
writes_entry f xs k x d a b c lt e p q =
    let left : drop k xs ≡ x ∷ drop (k + 1) xs = drop_more xs k d lt ∙ ap (λ y. y ∷ drop (k + 1) xs) (sym e) in
    rw left (writes_then (f x) (each f (drop (k + 1) xs)) a b c p q)

-- none is left
pub writes_end : {A : Type 0} (f : A → Field) (xs : List A) (k : ℕ) (a : List ℕ) → length xs ≤ k → Writes (each f (drop k xs)) a a
writes_end f xs k a le =
    let left : drop k xs ≡ [] = drop_of_length-le xs le in
    rw left (writes_nothing a)

pub writes_three : (P Q R : Field) (a b c d : List ℕ) → Writes P a b → Writes Q b c → Writes R c d → Writes (P ⨾ Q ⨾ R) a d
writes_three P Q R a b c d p q r = writes_then (P ⨾ Q) R a c d (writes_then P Q a b c p q) r

pub writes_four : (P Q R S : Field) (a b c d e : List ℕ) → Writes P a b → Writes Q b c → Writes R c d → Writes S d e →
    Writes (P ⨾ Q ⨾ R ⨾ S) a e
writes_four P Q R S a b c d e p q r s = writes_then (P ⨾ Q ⨾ R) S a d e (writes_three P Q R a b c d p q r) s
