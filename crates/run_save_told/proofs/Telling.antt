-- What a reader tells: what the bytes spell, or a failing place among them.
use Rattle.std.proofs.Common.{◌≡◌, ℕ, ◌≤◌, Bool, true, false, if◌then◌else◌, List, length, Result, Ok, Err, refl, subst, arith}
use Rattle.verse_image.specs.declared.faults.Flaw.{Flaw}
use Rattle.verse_image.specs.Format.{Field}
use Rattle.verse_image.specs.Numbers.{IsBytes}
use Rattle.verse_image.specs.Reading.{◌>>=◌, Reader}

-- this holds of what is read, or a place fails from which on at most so many bytes are left
pub data Tells {A : Type 0} (most : ℕ) (P : A → Type 0) : Result A Flaw → Type 0 where
  tells : {x : A} → P x → Tells most P (Ok x)
  fails : {f : Flaw} → f.left ≤ most → Tells most P (Err f)

pub tells_then : {most : ℕ} {A B : Type 0} {P : A → Type 0} {Q : B → Type 0} {r : Result A Flaw} (f : A → Result B Flaw) →
    Tells most P r → ((x : A) → P x → Tells most Q (f x)) → Tells most Q (r >>= f)
tells_then f (tells {x = x} p) h = h x p
tells_then f (fails low) h = fails low

pub tells_if : {most : ℕ} {A : Type 0} {Q : A → Type 0} (b : Bool) (r s : Result A Flaw) → (b ≡ true → Tells most Q r) →
    (b ≡ false → Tells most Q s) → Tells most Q (if b then r else s)
tells_if true r s h k = h refl
tells_if false r s h k = k refl

pub tells_as : {most : ℕ} {A : Type 0} {P Q : A → Type 0} {r : Result A Flaw} → ((x : A) → P x → Q x) → Tells most P r → Tells most Q r
tells_as h (tells {x = x} p) = tells (h x p)
tells_as h (fails low) = fails low

pub tells_up : {few most : ℕ} {A : Type 0} {P : A → Type 0} {r : Result A Flaw} → few ≤ most → Tells few P r → Tells most P r
tells_up low (tells p) = tells p
tells_up low (fails less) = fails (omega arith)

-- where it is known by itself what is read
pub tells_of : {few most : ℕ} {A : Type 0} {P Q : A → Type 0} {r : Result A Flaw} → Tells few Q r → few ≤ most →
    ((x : A) → r ≡ Ok x → P x) → Tells most P r
tells_of (tells {x = x} q) low h = tells (h x refl)
tells_of (fails less) low h = fails (omega arith)

pub told_is : {most : ℕ} {A : Type 0} {P : A → Type 0} {r : Result A Flaw} (x : A) → Tells most P r → r ≡ Ok x → P x
told_is {P = P} x (tells {x = y} p) e = let same : y ≡ x = cc in subst P same p
told_is x (fails low) e = absurd (cc)

pub fault_is : {most : ℕ} {A : Type 0} {P : A → Type 0} {r : Result A Flaw} (f : Flaw) → Tells most P r → r ≡ Err f → f.left ≤ most
fault_is f (tells p) e = absurd (cc)
fault_is {most = most} f (fails {f = g} low) e = let same : g ≡ f = cc in subst (λ (h : Flaw). h.left ≤ most) same low

-- bytes, and at most so many
pub record Within (most : ℕ) (bytes : List ℕ) : Type 0 where
  pub fits : IsBytes bytes
  pub few : length bytes ≤ most

-- what is read is spelled as the field, and bytes stand behind it
abbrev pub Told : {A : Type 0} → ℕ → (A → Field) → List ℕ → A × List ℕ → Type 0
Told most f bytes x = f x.0 bytes x.1 × Within most x.1

-- a reader tells a field
abbrev pub TellsField : {A : Type 0} → ℕ → (A → Field) → Reader A → Type 0
TellsField most f read = (bytes : List ℕ) → Within most bytes → Tells most (Told most f bytes) (read bytes)

-- a field of what is read, and what holds of the state behind it
abbrev pub With : {A S : Type 0} → (A → Field) → (S → Type 0) → A × S → Field
With f K x bytes rest = f x.0 bytes rest × K x.1
