-- The points of states: what becomes of one where operands come and go, and where a Try opens.
use Rattle.std.proofs.Common.{◌≡◌, ℕ, suc, ◌-◌, ◌≤◌, length, take, drop, List, [], ◌∷◌, ◌++◌, true, refl, sym, ap}
use Rattle.std.proofs.Common.{subst, arith, le-leb}
use Rattle.std.proofs.lemmas.Bool.{leb-true, and_from, and_parts}
use Rattle.verse_sorts.specs.Sorts.{Sort}
use Rattle.verse_verify_kept.specs.Notes as notes
use Rattle.verse_verify_kept.specs.Notes.{Open, Point}
use Rattle.verse_verify_faults.specs.Spots.{Mark, room, above, beneath, opens, even, cut}
use Rattle.verse_verify_faults.proofs.Cutting.{whole, above_on, opens_on, even_more, under}
use Rattle.lower_notes.specs.States.{State, spot_of, indices, gives, pops, tried}

-- the point at which a frame of a state stands
abbrev pub pt : State → Point
pt x = cut (spot_of x)

-- the heights of its Trys are heights of its stack
abbrev pub Even : State → Type 0
Even x = even (length x.stack) x.tries ≡ true

-- the Trys of a frame that are open, the innermost first
abbrev pub opened : State → List ℕ
opened x = indices x.tries ++ x.outer

abbrev pub with_stack : List Sort → State → State
with_stack st x = record x { stack = st }

-- operands above those of a state
abbrev pub over : List Sort → State → State
over qs x = with_stack (qs ++ x.stack) x

pub drop_none : {A : Type 0} (xs : List A) → drop 0 xs ≡ xs
drop_none [] = refl
drop_none (x ∷ xs) = refl

take_none : {A : Type 0} (xs : List A) → take 0 xs ≡ []
take_none [] = refl
take_none (x ∷ xs) = refl

pub gives_is : (q : Sort) (x : State) → gives 0 q x ≡ over (q ∷ []) x
gives_is q x = ap (λ st. with_stack (q ∷ st) x) (drop_none x.stack)

-- a value falls away
pub pops_over : (q : Sort) (qs : List Sort) (x : State) → pops 1 (over (q ∷ qs) x) ≡ over qs x
pops_over q qs x = ap (λ st. with_stack st x) (drop_none (qs ++ x.stack))

pub over_none : (x : State) → over [] x ≡ x
over_none x = refl

pub indices_of : (st : List Sort) (ms : List Mark) → notes.indices (opens st ms) ≡ indices ms
indices_of st [] = refl
indices_of st (m ∷ ms) = ap (λ is. m.index ∷ is) (indices_of (beneath st (m ∷ ms)) ms)

-- the Trys that are open at the point
pub names_of : (x : State) → notes.names (pt x) ≡ opened x
names_of x = ap (λ is. is ++ x.outer) (indices_of x.stack x.tries)

under_even : (n : ℕ) (ms : List Mark) → even n ms ≡ true → under ms ≤ n
under_even n [] e = omega arith
under_even n (m ∷ ms) e = leb-true m.height n (and_parts _ _ e).0

module _ (x : State) (e : Even x) where
  beneath_all : List Sort
  beneath_all = beneath x.stack x.tries

  more_is : (qs : List Sort) → (qs ++ above x.stack x.tries) ++ beneath x.stack x.tries ≡ qs ++ x.stack
  more_is [] = whole x.stack x.tries
  more_is (q ∷ qs) = ap (λ zs. q ∷ zs) (more_is qs)

  pub stack_over : (qs : List Sort) → (pt (over qs x)).stack ≡ qs ++ (pt x).stack
  stack_over qs = subst (λ zs. above zs x.tries ≡ qs ++ above x.stack x.tries) (more_is qs)
      (above_on x.stack x.tries e (qs ++ above x.stack x.tries))

  pub tries_over : (qs : List Sort) → (pt (over qs x)).tries ≡ (pt x).tries
  tries_over qs = subst (λ zs. opens zs x.tries ≡ opens x.stack x.tries) (more_is qs)
      (opens_on x.stack (qs ++ above x.stack x.tries) x.tries e)

  pub even_over : (qs : List Sort) → Even (over qs x)
  even_over qs = even_more (length x.stack) (length (qs ++ x.stack)) x.tries
      (more qs (under_even (length x.stack) x.tries e)) e
    where
      more : (qs : List Sort) → under x.tries ≤ length x.stack → under x.tries ≤ length (qs ++ x.stack)
      more [] h = h
      more (q ∷ qs) h = up (more qs h)
        where
          up : {a b : ℕ} → a ≤ b → a ≤ suc b
          up l = omega (arith, l)

-- a Try opens
nothing_left : (n : ℕ) → n - n ≡ 0
nothing_left n = omega arith

same : (n : ℕ) → n ≤ n
same n = omega arith

module _ (at : ℕ) (x : State) where
  no_room : room x.stack (tried at x).tries ≡ 0
  no_room = nothing_left (length x.stack)

  pub stack_tried : (pt (tried at x)).stack ≡ []
  stack_tried = subst (λ k. take k x.stack ≡ []) (sym no_room) (take_none x.stack)

  all_beneath : beneath x.stack (tried at x).tries ≡ x.stack
  all_beneath = subst (λ k. drop k x.stack ≡ x.stack) (sym no_room) (drop_none x.stack)

  pub tries_tried : (pt (tried at x)).tries ≡ record { index = at; beneath = (pt x).stack } ∷ (pt x).tries
  tries_tried = ap (λ (bs : List Sort). record { index = at; beneath = above bs x.tries } ∷ opens bs x.tries) all_beneath

  pub even_tried : Even x → Even (tried at x)
  even_tried e = and_from _ _ (le-leb (length x.stack) (length x.stack) (same (length x.stack))) e
