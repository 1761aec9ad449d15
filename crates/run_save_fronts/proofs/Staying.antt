-- What reading a front of the bytes gives, beside reading them with more behind them.
use Rattle.std.proofs.Common.{◌≡◌, ℕ, ◌+◌, ◌<◌, ◌≤◌, Bool, true, false, if◌then◌else◌, List, [], ◌∷◌, ◌++◌, length, Result, Ok, Err, sym}
use Rattle.std.proofs.Common.{subst, arith, length-append}
use Rattle.verse_image.specs.declared.faults.Flaw.{Flaw}
use Rattle.verse_image.specs.Reading.{◌>>=◌, Reader, flaw}

-- a place of a front of at most so many bytes: how many are left of it, and how many of all
pub record Place (more : List ℕ) (most left all : ℕ) : Type 0 where
  pub some : 0 < left
  pub few : left ≤ most
  pub same : all ≡ left + length more

pub at_first : {more : List ℕ} {most : ℕ} (bytes : List ℕ) → 0 < length bytes → length bytes ≤ most →
    Place more most (length bytes) (length (bytes ++ more))
at_first {more = more} bytes some few = record { some = some; few = few; same = length-append bytes more }

-- Of a front something is read of which P holds, and then all give h of it; or the front ends too early (S3), or fails where all fail.
-- A code fails there with no byte left too (S2). And where bytes stand behind (S6), the front may break a rule on the whole list (S5).
pub data Stays {A B : Type 0} (more : List ℕ) (most : ℕ) (P : A → Type 0) (h : A → Result B Flaw) :
    Result A Flaw → Result B Flaw → Type 0 where
  reads : {x : A} → P x → Stays more most P h (Ok x) (h x)
  ends : {r : Result B Flaw} → Stays more most P h (Err (flaw 3 0)) r
  fails : {rule left all : ℕ} → Place more most left all → Stays more most P h (Err (flaw rule left)) (Err (flaw rule all))
  no_code : {left all : ℕ} → left ≤ most → all ≡ left + length more → Stays more most P h (Err (flaw 2 left)) (Err (flaw 2 all))
  breaks : {left : ℕ} → left ≤ most → Stays more most P h (Err (flaw 5 left)) (Err (flaw 6 (length more)))

pub stays_then : {more : List ℕ} {most : ℕ} {A B C D : Type 0} {P : A → Type 0} {h : A → Result B Flaw} {Q : C → Type 0}
    {k : C → Result D Flaw} {r : Result A Flaw} {s : Result B Flaw} (f : A → Result C Flaw) (g : B → Result D Flaw) →
    Stays more most P h r s → ((x : A) → P x → Stays more most Q k (f x) (h x >>= g)) → Stays more most Q k (r >>= f) (s >>= g)
stays_then f g (reads {x = x} p) q = q x p
stays_then f g ends q = ends
stays_then f g (fails at) q = fails at
stays_then f g (no_code low same) q = no_code low same
stays_then f g (breaks low) q = breaks low

pub stays_if : {more : List ℕ} {most : ℕ} {A B : Type 0} {P : A → Type 0} {h : A → Result B Flaw} (t : Bool) {r s : Result A Flaw}
    {u v : Result B Flaw} → Stays more most P h r u → Stays more most P h s v →
    Stays more most P h (if t then r else s) (if t then u else v)
stays_if true p q = p
stays_if false p q = q

-- ---- readers

abbrev pub Few : {A : Type 0} → ℕ → A × List ℕ → Type 0
Few most x = length x.1 ≤ most

abbrev pub with_more : {A : Type 0} → List ℕ → A × List ℕ → Result (A × List ℕ) Flaw
with_more more x = Ok (x.0, x.1 ++ more)

-- one of a front, the other of all
abbrev pub Both : {A : Type 0} → List ℕ → ℕ → Reader A → Reader A → Type 0
Both more most one all =
    (bytes : List ℕ) → length bytes ≤ most → Stays more most (Few most) (with_more more) (one bytes) (all (bytes ++ more))

abbrev pub Local : {A : Type 0} → List ℕ → ℕ → Reader A → Type 0
Local more most read = Both more most read read

-- a field that has a byte at least
pub record HasByte {A : Type 0} (read : Reader A) : Type 0 where
  pub none : read [] ≡ Err (flaw 3 0)

-- and what follows it, which may fail at the field
pub first_then : {more : List ℕ} {most : ℕ} {A B C : Type 0} {Q : B → Type 0} {k : B → Result C Flaw}
    {one : Reader A} {r : Result (A × List ℕ) Flaw} (f : A × List ℕ → Result B Flaw) (g : A × List ℕ → Result C Flaw) → HasByte one →
    (bytes : List ℕ) → length bytes ≤ most → Stays more most (Few most) (with_more more) (one bytes) r →
    ((x : A × List ℕ) → Place more most (length bytes) (length (bytes ++ more)) → Few most x →
    Stays more most Q k (f x) (g (x.0, x.1 ++ more))) → Stays more most Q k (one bytes >>= f) (r >>= g)
first_then {more = more} {most = most} {A = A} {Q = Q} {k = k} {r = r} f g e [] few h q =
    subst (λ (s : Result (A × List ℕ) Flaw). Stays more most Q k (s >>= f) (r >>= g)) (sym e.none) ends
first_then f g e (b ∷ rest) few h q = stays_then f g h (λ x less. q x (at_first (b ∷ rest) (omega arith) few) less)
