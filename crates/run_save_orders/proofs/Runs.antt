-- A run is the same from trees in another order.
use Rattle.std.proofs.Common.{◌≡◌, ℕ, zero, suc, ◌+◌, ◌≤◌, List, [], ◌∷◌, ◌++◌, length, Option, Some, None, Bool, true, false, cond, refl}
use Rattle.std.proofs.Common.{sym, subst, ap}
use Rattle.std.proofs.Common.{◌∙◌, append_assoc, arith, nat_lt}
use Rattle.std.specs.Prelude.{slice_get}
use Rattle.verse_code.specs.declared.codes.Code.{Code}
use Rattle.verse_code.specs.Validity.{Valid}
use Rattle.verse_value.specs.Val.{Val}
use Rattle.verse_value.specs.declared.runs.Ending.TheVariants as ending
use Rattle.verse_meaning_state.specs.State.{State, spending, stepped, at_moment}
use Rattle.verse_meaning_state.specs.Waits.{Wait, Due, eqn, has, least, ltn}
use Rattle.verse_meaning_state.specs.Turns.{Stage, going, closed, turn, turn_at, turns, run_closed, run_of}
use Rattle.verse_code_machine.specs.Tasks.{Task, Trees, Step, Over, planted, tree_waits, waits_of}
use Rattle.verse_code_machine.specs.Ends.{woken, woken_in}
use Rattle.verse_code_machine.specs.Runs.{carried, room, Forest, stage_of, turn_taken}
use Rattle.verse_code_machine_parents.specs.Parents.{StageRooted}
use Rattle.verse_code_machine_parents.proofs.Lists.{no_both}
use Rattle.run_save_shots.specs.Lists.{Reordered}
use Rattle.run_save_moves.specs.Fine.{TextsAreBytes}
use Rattle.run_save_moves.specs.Moves.{Point, Move}
use Rattle.run_save_fits.specs.Held.{trees_sum, tasks_sum, one}
use Rattle.run_save_fits.proofs.Measures.{held}
use Rattle.run_save_fits.proofs.Measures as h
use Rattle.run_save_fits.proofs.Counted.{wait_of, one_most}
use Rattle.run_save_fits.proofs.Turning as t
use Rattle.run_save_fits.proofs.KeptAll.{reordered_sum, trees_join}
use Rattle.run_save_kept.specs.Growing.{filled}
use Rattle.run_save_orders.specs.Laws.{SameButOrder, StagesSame, both_go, both_closed, both_broken, both_amiss, TurnsReordered}
use Rattle.run_save_orders.specs.Laws.{RunReordered}
use Rattle.run_save_orders.proofs.Ends.{Alike, nexts, overs, turns as turned, woken_both}
use Rattle.run_save_orders.proofs.Acts.{there_are, act_are}
use Rattle.run_save_orders.proofs.Orders.{Taken, extract, filled_join, Stood, stood, one_among, same_length}
use Rattle.run_save_orders.proofs.Waits.{count, of_number, tasks_count, trees_count, none_has, has_some, unlike_of, least_same, same_waits}

-- the trees beside the one in which a task runs
abbrev Beside : Trees → Trees → Type 0
Beside t u = SameButOrder (t.before ++ t.behind) (u.before ++ u.behind)

plants : (t u : Trees) (ts : List Task) → Beside t u → Beside (planted t ts) (planted u ts)
plants t u ts r = subst (λ w. SameButOrder w (u.before ++ (u.behind ++ ts ∷ []))) (append_assoc t.before t.behind (ts ∷ []))
    (subst (λ w. SameButOrder ((t.before ++ t.behind) ++ ts ∷ []) w) (append_assoc u.before u.behind (ts ∷ []))
    (one_among ts (t.before ++ t.behind) [] (u.before ++ u.behind) []
    (subst (λ w. SameButOrder w ((u.before ++ u.behind) ++ [])) (sym (none_more (t.before ++ t.behind)))
    (subst (λ w. SameButOrder (t.before ++ t.behind) w) (sym (none_more (u.before ++ u.behind))) r))))
  where
    none_more : (xs : Forest) → xs ++ [] ≡ xs
    none_more [] = refl
    none_more (x ∷ xs) = ap (λ w. x ∷ w) (none_more xs)

abbrev Same : Step → Step → Type 0
Same = Alike Beside

-- ---- a wait is woken

-- the first tree with a wait of the number, or there is none
data Found (n : ℕ) (tss : Forest) : Type 0 where
  nowhere : trees_sum (of_number n) tss ≡ 0 → Found n tss
  found : (front : Forest) (ts : List Task) (back : Forest) → tss ≡ front ++ ts ∷ back → trees_sum (of_number n) front ≡ 0 →
      has n (waits_of ts) ≡ true → Found n tss

find : (n : ℕ) (tss : Forest) → Found n tss
find n [] = nowhere refl
find n (ts ∷ tss) = by_test (tasks_sum (of_number n) ts) refl (find n tss)
  where
    further : tasks_sum (of_number n) ts ≡ 0 → Found n tss → Found n (ts ∷ tss)
    further e (nowhere f) = nowhere (omega (arith, e, f))
    further e (found front us back f g h) = found (ts ∷ front) us back (ap (λ w. ts ∷ w) f) (omega (arith, e, g)) h

    there : (b : Bool) → has n (waits_of ts) ≡ b → (k : ℕ) → tasks_sum (of_number n) ts ≡ suc k → has n (waits_of ts) ≡ true
    there true e k f = e
    there false e k f = absurd (some_has n (waits_of ts) k (tasks_count n ts ∙ f) e)
      where
        some_has : (n : ℕ) (ws : List Wait) (k : ℕ) → count n ws ≡ suc k → has n ws ≡ false → ⊥
        some_has n [] k e f = zero_not k e
          where
            zero_not : (k : ℕ) → 0 ≡ suc k → ⊥
            zero_not k e = omega (arith, e)
        some_has n (w ∷ ws) k e f = by_number (eqn n w.number) (λ k. some_has n ws k) e f
          where
            by_number : (b : Bool) → ((k : ℕ) → count n ws ≡ suc k → has n ws ≡ false → ⊥) → one b + count n ws ≡ suc k →
                cond b true (has n ws) ≡ false → ⊥
            by_number true h e f = no_both f
            by_number false h e f = h k (omega (arith, e)) f

    by_test : (k : ℕ) → tasks_sum (of_number n) ts ≡ k → Found n tss → Found n (ts ∷ tss)
    by_test zero e f = further e f
    by_test (suc k) e f = found [] ts tss refl refl (there (has n (waits_of ts)) refl k e)

tree_none : (n : ℕ) (ts : List Task) → tasks_sum (of_number n) ts ≡ 0 → has n (waits_of ts) ≡ false
tree_none n ts e = none_has n (waits_of ts) (tasks_count n ts ∙ e)

first_none : (a b : ℕ) → a + b ≡ 0 → a ≡ 0
first_none a b e = omega (arith, e)

rest_none : (a b : ℕ) → a + b ≡ 0 → b ≡ 0
rest_none a b e = omega (arith, e)

-- trees without such a wait are passed
passed : (n : ℕ) (v : Val) (before front rest : Forest) (s : State) → trees_sum (of_number n) front ≡ 0 →
    woken_in n v before (front ++ rest) s ≡ woken_in n v (before ++ front) rest s
passed n v before [] rest s e = ap (λ w. woken_in n v w rest s) (sym (none_more before))
  where
    none_more : (xs : Forest) → xs ++ [] ≡ xs
    none_more [] = refl
    none_more (x ∷ xs) = ap (λ w. x ∷ w) (none_more xs)
passed n v before (ts ∷ front) rest s e =
    ap (λ b. cond b (woken n v [] ts (record { before = before; behind = front ++ rest }) s)
    (woken_in n v (before ++ ts ∷ []) (front ++ rest) s)) (tree_none n
    ts (first_none (tasks_sum (of_number n) ts) (trees_sum (of_number n) front) e)) ∙
    (passed n v (before ++ ts ∷ []) front rest s (rest_none (tasks_sum (of_number n) ts) (trees_sum (of_number n) front) e) ∙
    ap (λ w. woken_in n v w rest s) (append_assoc before (ts ∷ []) front))

woken_none : (n : ℕ) (v : Val) (before tss : Forest) (s : State) → trees_sum (of_number n) tss ≡ 0 →
    woken_in n v before tss s ≡ Over ending.Stuck s
woken_none n v before [] s e = refl
woken_none n v before (ts ∷ tss) s e =
    ap (λ b. cond b (woken n v [] ts (record { before = before; behind = tss }) s) (woken_in n v (before ++ ts ∷ []) tss s))
    (tree_none n ts (first_none (tasks_sum (of_number n) ts) (trees_sum (of_number n) tss) e)) ∙
    woken_none n v (before ++ ts ∷ []) tss s (rest_none (tasks_sum (of_number n) ts) (trees_sum (of_number n) tss) e)

woken_at : (n : ℕ) (v : Val) (front : Forest) (ts : List Task) (back : Forest) (s : State) → trees_sum (of_number n) front ≡ 0 →
    has n (waits_of ts) ≡ true → woken_in n v [] (front ++ ts ∷ back) s ≡ woken n v [] ts (record { before = front; behind = back }) s
woken_at n v front ts back s e f = passed n v [] front (ts ∷ back) s e ∙
    ap (λ b. cond b (woken n v [] ts (record { before = front; behind = back }) s) (woken_in n v (front ++ ts ∷ []) back s)) f

filled_at : (n : ℕ) (ts : List Task) (back : Forest) → has n (waits_of ts) ≡ true → filled (ts ∷ back) ≡ ts ∷ filled back
filled_at n [] back e = no_both (sym e)
filled_at n (t ∷ ts) back e = refl

pub filled_sum : (f : Task → ℕ) (tss : Forest) → trees_sum f (filled tss) ≡ trees_sum f tss
filled_sum f [] = refl
filled_sum f ([] ∷ tss) = let h = filled_sum f tss in omega (arith, h)
filled_sum f ((t ∷ ts) ∷ tss) = let h = filled_sum f tss in omega (arith, h)

same_sum : (f : Task → ℕ) (tss uss : Forest) → SameButOrder tss uss → trees_sum f uss ≡ trees_sum f tss
same_sum f tss uss r = sym (filled_sum f uss) ∙ (reordered_sum f r ∙ filled_sum f tss)

abbrev Once : Forest → Type 0
Once tss = (n : ℕ) → trees_sum (of_number n) tss ≤ 1

alone : (a b c : ℕ) → a + (b + c) ≤ 1 → 1 ≤ b → a ≡ 0
alone a b c e f = omega (arith, e, f)

woken_same : (n : ℕ) (v : Val) (s : State) (tss uss : Forest) → SameButOrder tss uss → Once tss →
    Same (woken_in n v [] tss s) (woken_in n v [] uss s)
woken_same n v s tss uss r once = by_found (find n tss)
  where
    by_found : Found n tss → Same (woken_in n v [] tss s) (woken_in n v [] uss s)
    by_found (nowhere e) = subst (λ w. Same w (woken_in n v [] uss s)) (sym (woken_none n v [] tss s e))
        (subst (λ w. Same (Over ending.Stuck s) w) (sym (woken_none n v [] uss s (same_sum (of_number n) tss uss r ∙ e))) overs)
    by_found (found front ts back e f g) = by_taken
        (extract ts (filled front) (filled back) (filled uss) (subst (λ w. Reordered w (filled uss)) (ap filled e ∙
        (filled_join front (ts ∷ back) ∙ ap (λ w. filled front ++ w) (filled_at n ts back g))) r))
      where
        by_taken : Taken ts (filled front ++ filled back) (filled uss) → Same (woken_in n v [] tss s) (woken_in n v [] uss s)
        by_taken a = by_stood (stood uss a.front ts a.back a.is)
          where
            by_stood : Stood a.front ts a.back uss → Same (woken_in n v [] tss s) (woken_in n v [] uss s)
            by_stood b = subst (λ w. Same (woken_in n v [] w s) (woken_in n v [] uss s)) (sym e)
                (subst (λ w. Same (woken_in n v [] (front ++ ts ∷ back) s) (woken_in n v [] w s)) (sym b.is)
                (subst (λ w. Same w (woken_in n v [] (b.front ++ ts ∷ b.back) s)) (sym (woken_at n v front ts back s f g))
                (subst (λ w. Same (woken n v [] ts (record { before = front; behind = back }) s) w)
                (sym (woken_at n v b.front ts b.back s none g))
                (woken_both Beside plants (record { before = front; behind = back }) (record { before = b.front; behind = b.back }) beside n
                v [] ts s))))
              where
                none : trees_sum (of_number n) b.front ≡ 0
                none = alone (trees_sum (of_number n) b.front) (tasks_sum (of_number n) ts) (trees_sum (of_number n) b.back)
                    (subst (λ k. k ≤ 1) (sym (same_sum (of_number n) tss uss r) ∙
                    (ap (trees_sum (of_number n)) b.is ∙ trees_join (of_number n) b.front (ts ∷ b.back))) (once n))
                    (subst (λ k. 1 ≤ k) (tasks_count n ts) (has_some n (waits_of ts) g))

                beside : SameButOrder (front ++ back) (b.front ++ b.back)
                beside = subst (λ w. Reordered w (filled (b.front ++ b.back))) (sym (filled_join front back))
                    (subst (λ w. Reordered (filled front ++ filled back) w)
                    (sym (filled_join b.front b.back ∙ (ap (λ w. w ++ filled b.back) b.before ∙ ap (λ w. a.front ++ w) b.behind))) a.rest)

-- ---- operations

one_same : (c : Code) (n : ℕ) → ((q p : Step) → Same q p → Same (carried c n q) (carried c n p)) → (q p : Step) → Same q p →
    Same (carried c (suc n) q) (carried c (suc n) p)
one_same c n go q p (nexts {w = y} {pre = pre} {post = post} {us = us} {t = t} {u = u} {s = s} {f = f} {fs = fs} r) =
    go _ _ (there_are Beside plants t u r (slice_get c.ops f.place) s _ _
    (λ op. act_are Beside plants t u r y pre post us s f.life f.place f.handlers fs c op f.locals f.stack))
one_same c n go q p overs = overs
one_same c n go q p (turned ts r) = turned ts r

step_same : (c : Code) (n : ℕ) (q p : Step) → Same q p → Same (carried c n q) (carried c n p)
step_same c zero q p a = a
step_same c (suc n) q p a = one_same c n (λ q p a. step_same c n q p a) q p a

stage_same : (q p : Step) → Same q p → StagesSame (stage_of q) (stage_of p)
stage_same q p (nexts r) = both_amiss
stage_same q p overs = both_broken
stage_same q p (turned {t = t} {u = u} ts r) = both_go (one_among ts t.before t.behind u.before u.behind r)

-- ---- turns

module _ (c : Code) (steps until : ℕ) where
  module _ (s : State) (tss uss : Forest) (r : SameButOrder tss uss) (once : Once tss) where
    abbrev Goes : Forest → Due → State → Stage Forest
    Goes tss due s = stage_of (carried c (room c steps) (woken_in due.number due.given.value [] tss s))

    goes_same : (d : Due) (s : State) → StagesSame (Goes tss d s) (Goes uss d s)
    goes_same d s = stage_same _ _ (step_same c (room c steps) _ _ (woken_same d.number d.given.value s tss uss r once))

    spent_same : (left : ℕ) (d : Due) → StagesSame
        (spending left s (closed ending.Steps s tss) (λ s. Goes tss d (at_moment d.given.moment s)))
        (spending left s (closed ending.Steps s uss) (λ s. Goes uss d (at_moment d.given.moment s)))
    spent_same zero d = both_closed r
    spent_same (suc l) d = goes_same d (at_moment d.given.moment (stepped l s))

    late_same : (b : Bool) (g h i j : Stage Forest) → StagesSame g h → StagesSame i j → StagesSame (cond b g i) (cond b h j)
    late_same true g h i j a b = a
    late_same false g h i j a b = b

    due_same : (d : Option Due) → StagesSame (turn_at until d s tss (Goes tss)) (turn_at until d s uss (Goes uss))
    due_same None = both_closed r
    due_same (Some d) = late_same (nat_lt until d.given.moment) _ _ _ _ (both_closed r) (spent_same s.clock.left d)

    waits_same : (xs zs : List Wait) → Reordered xs zs → least s xs ≡ least s zs →
        StagesSame (turn until xs s tss (Goes tss)) (turn until zs s uss (Goes uss))
    waits_same [] [] a e = both_closed r
    waits_same [] (z ∷ zs) a e = fewer (same_length a)
      where
        fewer : {B : Type 0} → 0 ≡ suc (length zs) → B
        fewer e = absurd (no (length zs) e)
          where
            no : (n : ℕ) → 0 ≡ suc n → ⊥
            no n e = omega (arith, e)
    waits_same (x ∷ xs) [] a e = more (same_length a)
      where
        more : {B : Type 0} → suc (length xs) ≡ 0 → B
        more e = absurd (no (length xs) e)
          where
            no : (n : ℕ) → suc n ≡ 0 → ⊥
            no n e = omega (arith, e)
    waits_same (x ∷ xs) (z ∷ zs) a e =
        subst (λ o. StagesSame (turn_at until (least s (x ∷ xs)) s tss (Goes tss)) (turn_at until o s uss (Goes uss))) e
        (due_same (least s (x ∷ xs)))

    turn_same : StagesSame (turn_taken c steps until s tss) (turn_taken c steps until s uss)
    turn_same = waits_same (tree_waits tss) (tree_waits uss) (same_waits tss uss r)
        (least_same s (same_waits tss uss r) (unlike_of (tree_waits uss) (λ n. subst
        (λ k. k ≤ 1) (sym (trees_count n uss ∙ same_sum (of_number n) tss uss r)) (once n))))

  module _ (valid : Valid c) (bytes : TextsAreBytes c) where
    counted : (n : ℕ) (x y : Point) → Move c x y → h.Held (wait_of n) x → h.Held (wait_of n) y
    counted n x y v a = held (wait_of n) v a

    abbrev Counts : ℕ → Stage Forest → Type 0
    Counts n g = t.StageIs c valid bytes (h.Held (wait_of n)) (counted n) g

    wakes : (n : ℕ) → t.Wakes c valid bytes (h.Held (wait_of n)) (counted n) until
    wakes n s tss d l a e f g = let k = wait_of n in let b = k.turns l d.given.moment s e in omega (arith, a, b)

    one_turn : (s : State) (tss : Forest) → ((n : ℕ) → Counts n (going s tss)) → StageRooted (going s tss) →
        ((n : ℕ) → Counts n (turn_taken c steps until s tss)) × StageRooted (turn_taken c steps until s tss)
    one_turn s tss a r = (
      λ n. (t.turns_is c valid bytes (h.Held (wait_of n)) (counted n) until (wakes n) steps 1 (going s tss) (a n) r).0,
      (t.turns_is c valid
          bytes (h.Held (wait_of 0)) (counted 0) until (wakes 0) steps 1 (going s tss) (a 0) r).1,
    )

    once_of : (s : State) (tss : Forest) → ((n : ℕ) → Counts n (going s tss)) → Once tss
    once_of s tss a n = at_most (trees_sum (of_number n) tss) (one (ltn n s.clock.next)) (a n) (one_most (ltn n s.clock.next))
      where
        at_most : (i k : ℕ) → i + 0 ≤ k → k ≤ 1 → i ≤ 1
        at_most i k e f = omega (arith, e, f)

    turns_same : (k : ℕ) (g h : Stage Forest) → StagesSame g h → ((n : ℕ) → Counts n g) → StageRooted g →
        StagesSame (turns (turn_taken c steps until) k g) (turns (turn_taken c steps until) k h)
    turns_same zero g h a b r = a
    turns_same (suc k) g h (both_go {s = s} {tss = tss} {uss = uss} a) b r =
        let d = one_turn s tss b r in turns_same k (turn_taken c steps until s tss) (turn_taken c steps until s uss)
        (turn_same s tss uss a (once_of s tss
        b)) d.0
        d.1
    turns_same (suc k) g h (both_closed a) b r = both_closed a
    turns_same (suc k) g h both_broken b r = both_broken
    turns_same (suc k) g h both_amiss b r = both_amiss

pub turns_reordered : TurnsReordered
turns_reordered c steps until k s tss uss valid bytes a r =
    turns_same c steps until valid bytes k (going s tss) (going s uss) (both_go r) (λ n. bare (trees_sum
    (of_number n) tss) (one (ltn n s.clock.next)) (a.waits n)) a.rooted
  where
    bare : (i k : ℕ) → i ≤ k → i + 0 ≤ k
    bare i k e = omega (arith, e)

runs_same : (g h : Stage Forest) → StagesSame g h → run_of tree_waits g ≡ run_of tree_waits h
runs_same g h (both_go a) = refl
runs_same g h (both_closed {e = e} {s = s} {tss = tss} {uss = uss} a) = ap (run_closed e s) (same_length (same_waits tss uss a))
runs_same g h both_broken = refl
runs_same g h both_amiss = refl

pub run_reordered : RunReordered
run_reordered c steps until s tss uss valid bytes a r = runs_same _ _ (turns_reordered c steps until (suc steps) s tss uss valid bytes a r)
