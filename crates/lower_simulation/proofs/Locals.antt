-- What the locals hold, and where names stand in them.
use Rattle.std.proofs.Common.{◌≡◌, ℕ, zero, suc, ◌≤◌, ◌<◌, List, [], ◌∷◌, length, Option, Some, None, Bool, true, false, cond, refl, sym}
use Rattle.std.proofs.Common.{ap, ◌∙◌, subst, arith}
use Rattle.verse_tree.specs.Tree.{Bytes}
use Rattle.verse_value.specs.Val.{Val, object}
use Rattle.verse_meaning_state.specs.Waits.{nth}
use Rattle.verse_meaning.specs.Programs.{same_name}
use Rattle.verse_meaning.specs.Residuals.{Env, Binding, Bound, constant, variable}
use Rattle.verse_meaning.specs.Forms.{look}
use Rattle.verse_code_machine.specs.Frames.{put, behind}
use Rattle.lower_code.specs.Scopes.{constant_at, variable_at, hidden, Scope as Names, Found, fixed, varies, absent, find}
use Rattle.lower_simulation.proofs.Claims.{Locals, Holds, Low, In, first_in, later_in, Fits}

-- the locals with another value at a place
pub record PutIs (ls : List Val) (l : ℕ) (v : Val) : Type 0 where
  pub locals : List Val
  pub is : put ls l v ≡ Some locals
  pub here : nth locals l ≡ Some v
  pub below : (k : ℕ) → k < l → nth locals k ≡ nth ls k
  pub above : (k : ℕ) → l < k → nth locals k ≡ nth ls k
  pub sized : length locals ≡ length ls

below_more : (x : Val) (xs locals : List Val) (l : ℕ) → ((k : ℕ) → k < l → nth locals k ≡ nth xs k) → (k : ℕ) → k < suc l →
    nth (x ∷ locals) k ≡ nth (x ∷ xs) k
below_more x xs locals l f zero h = refl
below_more x xs locals l f (suc k) h = f k (omega (arith, h))

above_more : (x : Val) (xs locals : List Val) (l : ℕ) → ((k : ℕ) → l < k → nth locals k ≡ nth xs k) → (k : ℕ) → suc l < k →
    nth (x ∷ locals) k ≡ nth (x ∷ xs) k
above_more x xs locals l f zero h = absurd (omega (arith, h))
above_more x xs locals l f (suc k) h = f k (omega (arith, h))

above_here : (x v : Val) (xs : List Val) (k : ℕ) → 0 < k → nth (v ∷ xs) k ≡ nth (x ∷ xs) k
above_here x v xs zero h = absurd (omega (arith, h))
above_here x v xs (suc k) h = refl

pub puts : (ls : List Val) (l : ℕ) (v : Val) → l < length ls → PutIs ls l v
puts [] l v lt = absurd (omega (arith, lt))
puts (x ∷ xs) zero v lt = record {
  locals = v ∷ xs;
  is = refl;
  here = refl;
  below = λ k h. absurd (omega (arith, h));
  above = above_here x v xs;
  sized = refl;
}
puts (x ∷ xs) (suc l) v lt =
    let r = puts xs l v (omega (arith, lt)) in
    record {
      locals = x ∷ r.locals;
      is = ap (behind x) r.is;
      here = r.here;
      below = below_more x xs r.locals l r.below;
      above = above_more x xs r.locals l r.above;
      sized = ap suc r.sized;
    }

pub holds_put : (ks : Locals) (ls : List Val) (n l : ℕ) (v : Val) (r : PutIs ls l v) → Low n ks → n ≤ l → Holds ks ls → Holds ks r.locals
holds_put [] ls n l v r lo le h = tt
holds_put (x ∷ ks) ls n l v r lo le h = (r.below x.0 (let a = lo.0 in omega (arith, a, le)) ∙ h.0, holds_put ks ls n l v r lo.1 le h.1)

pub in_holds : (l : ℕ) (v : Val) (ls : List Val) {ks : Locals} → In l v ks → Holds ks ls → nth ls l ≡ Some v
in_holds l v ls first_in h = h.0
in_holds l v ls (later_in i) h = in_holds l v ls i h.1

pub low_more : (n m : ℕ) (ks : Locals) → n ≤ m → Low n ks → Low m ks
low_more n m [] le h = tt
low_more n m (x ∷ ks) le h = (let a = h.0 in omega (arith, a, le), low_more n m ks le h.1)

pub fits_more : (x : ℕ × Val) (ks : Locals) (ss : Names) (e : Env) → Fits ss e ks → Fits ss e (x ∷ ks)
fits_more x ks [] [] h = tt
fits_more x ks [] (b ∷ e) h = h
fits_more x ks (hidden ∷ ss) e h = fits_more x ks ss e h
fits_more x ks (constant_at y ∷ ss) [] h = h
fits_more x ks (constant_at y ∷ ss) (b ∷ e) h = (
  record { holds = h.0.holds; is = h.0.is; held = later_in h.0.held },
  fits_more x ks ss e h.1,
)
fits_more x ks (variable_at y ∷ ss) [] h = h
fits_more x ks (variable_at y ∷ ss) (b ∷ e) h = (
  record { cell = h.0.cell; is = h.0.is; held = later_in h.0.held },
  fits_more x ks ss e h.1,
)

-- where a name is found
abbrev pub Looked : Found → Option Bound → Locals → Type 0
Looked absent b ks = b ≡ None
Looked (fixed l) b ks = (v : Val) × (b ≡ Some (constant v)) × In l v ks
Looked (varies l) b ks = (c : ℕ) × (b ≡ Some (variable c)) × In l (object c) ks

constant_looked : (ks : Locals) (t : Bool) (v : Val) (l : ℕ) (f : Found) (g : Option Bound) → In l v ks → Looked f g ks →
    Looked (cond t (fixed l) f) (cond t (Some (constant v)) g) ks
constant_looked ks true v l f g h k = (v, refl, h)
constant_looked ks false v l f g h k = k

variable_looked : (ks : Locals) (t : Bool) (c : ℕ) (l : ℕ) (f : Found) (g : Option Bound) → In l (object c) ks → Looked f g ks →
    Looked (cond t (varies l) f) (cond t (Some (variable c)) g) ks
variable_looked ks true c l f g h k = (c, refl, h)
variable_looked ks false c l f g h k = k

pub looked : (x : Bytes) (ks : Locals) (ss : Names) (e : Env) → Fits ss e ks → Looked (find x ss) (look x e) ks
looked x ks [] [] h = refl
looked x ks [] (b ∷ e) h = absurd h
looked x ks (hidden ∷ ss) e h = looked x ks ss e h
looked x ks (constant_at y ∷ ss) [] h = absurd h
looked x ks (constant_at y ∷ ss) (b ∷ e) h =
    subst (λ (u : Binding). Looked (find x (constant_at y ∷ ss)) (look x (u ∷ e)) ks) (sym h.0.is)
    (constant_looked ks (same_name x y) h.0.holds (length ss) (find x ss) (look x e) h.0.held (looked x ks ss e h.1))
looked x ks (variable_at y ∷ ss) [] h = absurd h
looked x ks (variable_at y ∷ ss) (b ∷ e) h =
    subst (λ (u : Binding). Looked (find x (variable_at y ∷ ss)) (look x (u ∷ e)) ks) (sym h.0.is)
    (variable_looked ks (same_name x y) h.0.cell (length ss) (find x ss) (look x e) h.0.held (looked x ks ss e h.1))
