-- Lists of waits: numbers that are live, distinct and drawn, by how often each stands in a list; which wait is due next.
use Rattle.std.proofs.Common.{◌≡◌, ◌≤◌, ◌+◌, ◌⊎◌, inl, inr, cond, ℕ, List, [], ◌∷◌, map, Option, Some, None, Bool, true, false}
use Rattle.std.proofs.Common.{refl, sym, nat_lt, arith}
use Rattle.std.proofs.Math.Path.{ap}
use Rattle.verse_meaning_state.specs.State.{State, Given}
use Rattle.verse_meaning_state.specs.Waits.{Wait, Due, due_of, eqn, has, least, ltn, sooner_of}
use Rattle.verse_meaning_state.proofs.Numbers.{eqn_yes, eqn_same}
use Rattle.verse_meaning.specs.RunLaws.{chances, count, to_come}
use Rattle.lower_simulation_runs.specs.Programs.{Absent, Distinct}
use Rattle.verse_lower_laws.specs.Laws.{wait_number}

never : (c : ℕ) → 1 + c ≤ 0 → ⊥
never c a = omega (arith, a)

-- ---- live, as a count

some_here : (b h : Bool) (c : ℕ) → (h ≡ true → 1 ≤ c) → cond b true h ≡ true → 1 ≤ cond b 1 0 + c
some_here true h c f e = omega arith
some_here false h c f e = omega (arith, f e)

pub live_counts : (n : ℕ) (ws : List Wait) → has n ws ≡ true → 1 ≤ count n ws
live_counts n [] e = cc
live_counts n (w ∷ ws) e = some_here (eqn n w.number) (has n ws) (count n ws) (live_counts n ws) e

has_here : (b h : Bool) (c : ℕ) → (1 ≤ c → h ≡ true) → 1 ≤ cond b 1 0 + c → cond b true h ≡ true
has_here true h c f a = refl
has_here false h c f a = f (omega (arith, a))

pub counted_live : (n : ℕ) (ws : List Wait) → 1 ≤ count n ws → has n ws ≡ true
counted_live n [] a = elim (never 0 a) [ ]
counted_live n (w ∷ ws) a = has_here (eqn n w.number) (has n ws) (count n ws) (counted_live n ws) a

none_here : (b h : Bool) (c : ℕ) → (c ≤ 0 → h ≡ false) → cond b 1 0 + c ≤ 0 → cond b true h ≡ false
none_here true h c f a = elim (never c a) [ ]
none_here false h c f a = f (omega (arith, a))

pub none_live : (n : ℕ) (ws : List Wait) → count n ws ≤ 0 → has n ws ≡ false
none_live n [] a = refl
none_live n (w ∷ ws) a = none_here (eqn n w.number) (has n ws) (count n ws) (none_live n ws) a

zero_here : (b h : Bool) (c : ℕ) → (h ≡ false → c ≤ 0) → cond b true h ≡ false → cond b 1 0 + c ≤ 0
zero_here true h c f e = cc
zero_here false h c f e = omega (arith, f e)

pub none_counts : (n : ℕ) (ws : List Wait) → has n ws ≡ false → count n ws ≤ 0
none_counts n [] e = omega arith
none_counts n (w ∷ ws) e = zero_here (eqn n w.number) (has n ws) (count n ws) (none_counts n ws) e

-- ---- drawn

pub drawn_counts : (n : ℕ) (s : State) → ltn n s.clock.next ≡ true → to_come n s ≡ 0
drawn_counts n s e = ap (λ b. cond b 0 1) e

drawn_when : (b : Bool) → cond b 0 1 ≤ 0 → b ≡ true
drawn_when true a = refl
drawn_when false a = elim (never 0 a) [ ]

undrawn_when : (b : Bool) → 1 ≤ cond b 0 1 → b ≡ false
undrawn_when true a = elim (never 0 a) [ ]
undrawn_when false a = refl

old_now : (b d : Bool) (c : ℕ) → (b ≡ false → c ≤ 0) → 1 ≤ c + cond d 0 1 → (b ≡ true) ⊎ (d ≡ false)
old_now true d c f a = inl refl
old_now false d c f a = inr (undrawn_when d (omega (arith, a, f refl)))

-- of the waits xs before a turn and ys behind it
pub old_or_undrawn : (n : ℕ) (s : State) (xs ys : List Wait) → count n ys ≤ count n xs + to_come n s → has n ys ≡ true →
    (has n xs ≡ true) ⊎ (ltn n s.clock.next ≡ false)
old_or_undrawn n s xs ys a e =
    old_now (has n xs) (ltn n s.clock.next) (count n xs) (none_counts n xs) (omega (arith, a, live_counts n ys e))

-- ---- each number stands once

one_of : (b : Bool) → b ≡ true → 1 ≤ cond b 1 0
one_of true e = omega arith
one_of false e = cc

absent_of : (n : ℕ) (ws : List Wait) → count n ws ≤ 0 → Absent n (map wait_number ws)
absent_of n [] a = tt
absent_of n (w ∷ ws) a = (
  (λ e. never (count n ws) (omega (arith, a, one_of (eqn n w.number) (eqn_yes n w.number e)))),
  absent_of n ws (omega (arith, a)),
)

own_one : (w : Wait) → 1 ≤ cond (eqn w.number w.number) 1 0
own_one w = one_of (eqn w.number w.number) (eqn_same w.number)

pub distinct_of : (s : State) (ws : List Wait) → ((i : ℕ) → chances i s ws ≤ 1) → Distinct (map wait_number ws)
distinct_of s [] h = tt
distinct_of s (w ∷ ws) h = (
  absent_of w.number ws (omega (arith, h w.number, own_one w)),
  distinct_of s ws (λ i. omega (arith, h i)),
)

pub live_drawn : (n : ℕ) (s : State) (ws : List Wait) → chances n s ws ≤ 1 → has n ws ≡ true → ltn n s.clock.next ≡ true
live_drawn n s ws a e = drawn_when (ltn n s.clock.next) (omega (arith, a, live_counts n ws e))

-- ---- the wait that is due next is live

abbrev pub due_number : Option Due → ℕ
due_number None = 0
due_number (Some d) = d.number

picked : (a b c : Bool) (n : ℕ) (g : Given) (x d : Due) →
    cond a (Some x) (cond b (Some (record { number = n; given = g }))
    (cond c (Some x) (Some (record { number = n; given = g })))) ≡ Some d →
    (d.number ≡ n) ⊎ (Some x ≡ Some d)
picked true b c n g x d e = inr e
picked false true c n g x d e = inl (sym (ap due_number e))
picked false false true n g x d e = inr e
picked false false false n g x d e = inl (sym (ap due_number e))

first_or : (n : ℕ) (o : Option Given) (q : Option Due) (d : Due) → sooner_of n o q ≡ Some d → (d.number ≡ n) ⊎ (q ≡ Some d)
first_or n None q d e = inr e
first_or n (Some g) None d e = inl (sym (ap due_number e))
first_or n (Some g) (Some x) d e =
    picked (nat_lt x.given.moment g.moment) (nat_lt g.moment x.given.moment) (nat_lt x.number n) n g x d e

or_behind : (b h : Bool) → h ≡ true → cond b true h ≡ true
or_behind true h e = refl
or_behind false h e = e

due_among : (w : Wait) (ws : List Wait) (d : Due) (q : Option Due) → (q ≡ Some d → has d.number ws ≡ true) →
    (d.number ≡ w.number) ⊎ (q ≡ Some d) → has d.number (w ∷ ws) ≡ true
due_among w ws d q f (inl e) = ap (λ b. cond b true (has d.number ws)) (eqn_yes d.number w.number e)
due_among w ws d q f (inr e) = or_behind (eqn d.number w.number) (has d.number ws) (f e)

pub due_lives : (s : State) (ws : List Wait) (d : Due) → least s ws ≡ Some d → has d.number ws ≡ true
due_lives s [] d e = cc
due_lives s (w ∷ ws) d e =
    due_among w ws d (least s ws) (due_lives s ws d) (first_or w.number (due_of s w.number w.cause) (least s ws) d e)
