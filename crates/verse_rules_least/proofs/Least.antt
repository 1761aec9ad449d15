-- The first fault of a pass is the least.
use Rattle.std.proofs.Common.{◌≡◌, ℕ, ◌<◌, ◌≤◌, ◌⊎◌, List, [], ◌∷◌, Option, refl, ap, sym, ◌∙◌, arith, subst, Bool, true, false}
use Rattle.std.specs.Prelude.{Some, None, cond, nat_le, ◌&&◌}
use Rattle.std.proofs.lemmas.Bool.Decides.{nat_tests}
use mathlib.Core.Logic.{inl, inr}
use Rattle.verse_base.specs.declared.places.Place.{Place}
use Rattle.verse_base.proofs.Facts.{and_second}
use Rattle.verse_rules_least.specs.declared.faults.Fault.{Fault}
use Rattle.verse_rules_least.specs.Least.{each, fault_at, first, Above, InOrder, StandsAt, Placed, Reaches, Broken, here, later, Told}
use Rattle.verse_rules_least.specs.Least.{Finds}
use Rattle.verse_rules_least.specs.Least.{first_true, Holds, this, other, ascends_from, ascends}

first_at : (n c : ℕ) (b : Bool) → (nat_le n c && b) ≡ true → n ≤ c
first_at n c b e = grind (arith, nat_tests)

-- all codes of a table that ascends from n are n or above
from_all : (n c : ℕ) (rs : List (ℕ × Bool)) → ascends_from n rs ≡ true → Holds rs c → n ≤ c
from_all n c [] f h = elim h [ ]
from_all n c (r ∷ rs) f this = first_at n c (ascends_from c rs) f
from_all n c (r ∷ rs) f (other h) =
    let above : n ≤ r.0 = first_at n r.0 (ascends_from r.0 rs) f in
    let behind : r.0 ≤ c = from_all r.0 c rs (and_second (nat_le n r.0) (ascends_from r.0 rs) f) h in
    omega (arith, above, behind)

-- the first line of a table that is true has the least code
first_finds_from : (n : ℕ) (rs : List (ℕ × Bool)) → ascends_from n rs ≡ true → Finds (Holds rs) (first_true rs)
first_finds_from n [] k = λ d h. elim h [ ]
first_finds_from n (r ∷ rs) k = by r.0 r.1 rs (and_second (nat_le n r.0) (ascends_from r.0 rs) k) (first_true rs)
    (first_finds_from r.0 rs (and_second (nat_le n r.0) (ascends_from r.0 rs) k))
  where
    by : (c : ℕ) (b : Bool) (rs : List (ℕ × Bool)) → ascends_from c rs ≡ true → (o : Option ℕ) → Finds (Holds rs) o →
        Finds (Holds ((c, b) ∷ rs)) (cond b (Some c) o)
    by c true rs f o h = (this, least)
      where
        least : (d : ℕ) → Holds ((c, true) ∷ rs) d → c ≤ d
        least d this = omega arith
        least d (other g) = from_all c d rs f g
    by c false rs f None h = none
      where
        none : (d : ℕ) → Holds ((c, false) ∷ rs) d → ⊥
        none d (other g) = h d g
    by c false rs f (Some e) h = (other h.0, least)
      where
        least : (d : ℕ) → Holds ((c, false) ∷ rs) d → e ≤ d
        least d (other g) = h.1 d g

pub first_finds : (rs : List (ℕ × Bool)) → ascends rs ≡ true → Finds (Holds rs) (first_true rs)
first_finds rs k = first_finds_from 0 rs k

module _ {N S : Type 0} (number : N → ℕ) (place : N → Place) (step : N → S → S) (Breaks : N → S → ℕ → Type 0) (rule : N → S →
    Option ℕ) (finds : (v : N) (s : S) → Finds (Breaks v s) (rule v s)) where
  -- the first fault of the nodes
  pub found : List N → S → Option Fault
  found [] s = None
  found (v ∷ vs) s = first (fault_at (number v) (place v) (rule v s)) (found vs (step v s))

  above : (n : ℕ) (vs : List N) (s : S) → Above number n vs → (m c : ℕ) → Broken number step Breaks vs s m c → n < m
  above n [] s a m c b = elim b [ ]
  above n (v ∷ vs) s a m c (here b) = a.0
  above n (v ∷ vs) s a m c (later b) = above n vs (step v s) a.1 m c b

  at_node : (v : N) (vs : List N) (s : S) (o : Option ℕ) (t : Option Fault) → Above number (number v) vs → Finds (Breaks v s) o →
      Told number step Breaks vs (step v s) t → Told number step Breaks (v ∷ vs) s (first (fault_at (number v) (place v) o) t)
  at_node v vs s (Some c) t a h r = record { broken = here h.0; least = there }
    where
      there : (n d : ℕ) → Broken number step Breaks (v ∷ vs) s n d → ((number v) < n) ⊎ (((number v) ≡ n) × (c ≤ d))
      there n d (here b) = inr (refl, h.1 d b)
      there n d (later b) = inl (above (number v) vs (step v s) a n d b)
  at_node v vs s None None a h r = none
    where
      none : (n d : ℕ) → Broken number step Breaks (v ∷ vs) s n d → ⊥
      none n d (here b) = h d b
      none n d (later b) = r n d b
  at_node v vs s None (Some f) a h r = record { broken = later r.broken; least = there }
    where
      there : (n d : ℕ) → Broken number step Breaks (v ∷ vs) s n d → Reaches f n d
      there n d (here b) = absurd (h d b)
      there n d (later b) = r.least n d b

  -- of nodes in order the first fault is the least, and none means none
  pub told : (vs : List N) (s : S) → InOrder number vs → Told number step Breaks vs s (found vs s)
  unfolding found
  told [] s o = λ n c b. elim b [ ]
  told (v ∷ vs) s o = at_node v vs s (rule v s) (found vs (step v s)) o.0 (finds v s) (told vs (step v s) o.1)

  -- where each step keeps the first fault, the pass ends with it
  pub keeps : (fault_of : S → Option Fault) →
      ((v : N) (s : S) → fault_of (step v s) ≡ first (fault_of s) (fault_at (number v) (place v) (rule v s))) → (vs : List N) (s : S) →
      fault_of (each step vs s) ≡ first (fault_of s) (found vs s)
  unfolding found
  keeps fault_of h [] s = ends (fault_of s)
    where
      ends : (o : Option Fault) → o ≡ first o None
      ends None = refl
      ends (Some f) = refl
  keeps fault_of h (v ∷ vs) s = keeps fault_of h vs (step v s) ∙ ap (λ o. first o (found vs (step v s))) (h v s) ∙
      nested (fault_of s) (fault_at (number v) (place v) (rule v s)) (found vs (step v s))
    where
      nested : (a b c : Option Fault) → first (first a b) c ≡ first a (first b c)
      nested None b c = refl
      nested (Some f) b c = refl

  -- so where a pass begins without a fault and keeps the first one, it tells the least
  pub least_kept : (fault_of : S → Option Fault) →
      ((v : N) (s : S) → fault_of (step v s) ≡ first (fault_of s) (fault_at (number v) (place v) (rule v s))) → (vs : List N) (s : S) →
      InOrder number vs → fault_of s ≡ None → Told number step Breaks vs s (fault_of (each step vs s))
  least_kept fault_of h vs s o e = subst (Told number step Breaks vs s) (sym (keeps fault_of h vs s ∙ ap (λ x. first x (found vs s)) e))
      (told vs s o)

  placed_first : (v : N) (vs : List N) (c : Option ℕ) (o : Option Fault) → Placed number place vs o →
      Placed number place (v ∷ vs) (first (fault_at (number v) (place v) c) o)
  placed_first v vs (Some c) o h = inl (refl, refl)
  placed_first v vs None None h = tt
  placed_first v vs None (Some f) h = inr h

  -- the first fault stands at one of the nodes
  pub placed : (vs : List N) (s : S) → Placed number place vs (found vs s)
  unfolding found
  placed [] s = tt
  placed (v ∷ vs) s = placed_first v vs (rule v s) (found vs (step v s)) (placed vs (step v s))

  pub placed_kept : (fault_of : S → Option Fault) →
      ((v : N) (s : S) → fault_of (step v s) ≡ first (fault_of s) (fault_at (number v) (place v) (rule v s))) → (vs : List N) (s : S) →
      fault_of s ≡ None → Placed number place vs (fault_of (each step vs s))
  placed_kept fault_of h vs s e = subst (Placed number place vs) (sym (keeps fault_of h vs s ∙ ap (λ x. first x (found vs s)) e))
      (placed vs s)
