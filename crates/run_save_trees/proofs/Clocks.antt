-- The waits of the tasks that were put, and those of a clock.
use Rattle.std.proofs.Common.{◌≡◌, ℕ, zero, suc, ◌<◌, false, eqb, List, [], ◌∷◌, ◌++◌, length, map, get_or, None}
use Rattle.std.proofs.Common.{refl, sym, ap, subst, ◌∙◌, arith, inl, inr}
use Rattle.std.proofs.lemmas.Bool.{ne_eqb}
use Rattle.std.proofs.lemmas.List.{append-nil, length-append}
use Rattle.std.proofs.lemmas.List.Sorted.{Contains-permutation, length_permutation}
use Rattle.std.specs.List.{IsDistinct, Contains, AllByRecursion}
use Rattle.std.specs.List.Sorted.{IsPermutation}
use Rattle.sim_clock.specs.declared.waits.Wait.{Wait}
use Rattle.sim_clock.specs.declared.waits.WaitKind.{WaitKind}
use Rattle.sim_clock.specs.declared.waits.WaitKind.TheVariants as kind
use Rattle.sim_clock.specs.declared.waits.Pending.{Pending}
use Rattle.sim_clock.specs.Pending.{IsAboveAll, given}
use Rattle.verse_code.specs.declared.codes.Code.{Code}
use Rattle.verse_meaning_state.specs.Waits.{Cause, till, never, done, heard, given_by, due_of, Wait as Waiting}
use Rattle.verse_code_machine.specs.Tasks.{Part, Rest}
use Rattle.vm_tasks_laws.specs.Standing.{Deal, none_dealt, one_dealt}
use Rattle.vm_tasks_laws.specs.Clocks.{cause_of, wait_of, IsDue, AllTimed, AllAbove, Rising, told, with_rest, Timed}
use Rattle.vm_tasks_laws.proofs.Trees.{deal_first, move, move_back}
use Rattle.vm_tasks_laws.proofs.Deals.{deal_back}
use Rattle.run_save_shots.specs.Lists.{Each, AreDistinct}
use Rattle.run_save_shots.specs.Kept.{KeptRest, leaf, group, KeptTask, Kept}
use Rattle.run_save_shots.specs.Fitting.{Stand, calls, sleeps, stays, awaits_task, awaits_event, gathers, goes_on, CauseFits, waits_in}
use Rattle.run_save_shots.specs.Fitting.{task_stand}
use Rattle.run_save_shots.specs.Spelling.{gathered, parts_from, rest, state}
use Rattle.run_save_spelled.specs.Growing.{In, first_in, later_in}
use Rattle.run_save_spelled.proofs.Forests.{in_left, in_right, in_parts, split}
use Rattle.run_save_slots.specs.Started.{number_of, started, AllBelow, Rises, Starts}
use Rattle.run_save_trees.specs.Restoring.{kind_of, waits_of}
use Rattle.run_save_trees.proofs.Lists.{each_laws, laws_each}

-- ---- one wait

pub same_cause : (x : Cause) → cause_of (kind_of x) ≡ x
same_cause (till moment) = refl
same_cause never = refl
same_cause (done entry) = refl
same_cause (heard event) = refl

-- by the number of its task in the tree
abbrev pub pairs : List Wait → List (ℕ × Waiting)
pairs [] = []
pairs (w ∷ ws) = (w.task, wait_of w) ∷ pairs ws

pairs_append : (a b : List Wait) → pairs (a ++ b) ≡ pairs a ++ pairs b
pairs_append [] b = refl
pairs_append (w ∷ a) b = ap (λ ps. (w.task, wait_of w) ∷ ps) (pairs_append a b)

module _ (c : Code) (s : Kept) (at : ℕ) (t : KeptTask) (ts : List KeptTask) (id : ℕ) where
  no_wait : (st : Stand) (gs : List Part) (xs : List (ℕ × Waiting)) → with_rest id (gathered c st gs) xs ≡ xs
  no_wait calls gs xs = refl
  no_wait sleeps gs xs = refl
  no_wait stays gs xs = refl
  no_wait awaits_task gs xs = refl
  no_wait awaits_event gs xs = refl
  no_wait (gathers k m p) gs xs = refl
  no_wait goes_on gs xs = refl

  its_wait : (number : ℕ) (cause : Cause) → pairs (waits_of id (leaf number cause)) ≡ (id, record { number = number; cause = cause }) ∷ []
  its_wait number cause =
      ap (λ x. (id, record { number = number; cause = x }) ∷ []) (same_cause cause)

  dealt_rest : (r : KeptRest) (a b : List (ℕ × Waiting)) (ws : List Wait) → Deal (a ++ b) (pairs ws) →
      Deal (a ++ with_rest id (rest c s at t ts r) b) (pairs (ws ++ waits_of id r))
  dealt_rest (leaf number cause) a b ws d =
      let x : ℕ × Waiting = (id, record { number = number; cause = cause }) in
      subst (λ zs. Deal (a ++ x ∷ b) zs)
      (sym (pairs_append ws (waits_of id (leaf number cause)) ∙ ap (λ zs. pairs ws ++ zs) (its_wait number cause)))
      (move x a b (pairs ws ++ x ∷ []) (deal_first x (a ++ b) (pairs ws) d))
  dealt_rest (group arms) a b ws d =
      subst (λ xs. Deal (a ++ xs) (pairs (ws ++ []))) (sym (no_wait (task_stand c t) (parts_from c s at t ts 0 arms) b))
      (subst (λ zs. Deal (a ++ b) (pairs zs)) (sym (append-nil ws)) d)

  -- of a task that is kept
  pub dealt_more : (q : Rest) → q ≡ rest c s at t ts t.rest → (a b : List (ℕ × Waiting)) (ws : List Wait) → Deal (a ++ b) (pairs ws) →
      Deal (a ++ with_rest id q b) (pairs (ws ++ waits_of id t.rest))
  dealt_more q e a b ws d =
      subst (λ r. Deal (a ++ with_rest id r b) (pairs (ws ++ waits_of id t.rest))) (sym e) (dealt_rest t.rest a b ws d)

-- ---- numbers of waits

abbrev own : KeptRest → List ℕ
own (leaf number cause) = number ∷ []
own (group arms) = []

waits_step : (x : KeptTask) (xs : List KeptTask) → waits_in (x ∷ xs) ≡ own x.rest ++ waits_in xs
waits_step x xs = by x.rest refl
  where
    by : (r : KeptRest) → x.rest ≡ r → waits_in (x ∷ xs) ≡ own r ++ waits_in xs
    by (leaf number cause) e = rw e refl
    by (group arms) e = rw e refl

numbers_append : (a b : List Wait) → map number_of (a ++ b) ≡ map number_of a ++ map number_of b
numbers_append [] b = refl
numbers_append (w ∷ a) b = ap (λ ns. w.number ∷ ns) (numbers_append a b)

own_is : (id : ℕ) (r : KeptRest) → map number_of (waits_of id r) ≡ own r
own_is id (leaf number cause) = refl
own_is id (group arms) = refl

waits_last : (xs : List KeptTask) (t : KeptTask) → waits_in (xs ++ t ∷ []) ≡ waits_in xs ++ own t.rest
waits_last [] t = waits_step t [] ∙ append-nil (own t.rest)
waits_last (x ∷ xs) t =
    waits_step x (xs ++ t ∷ []) ∙ (ap (λ ns. own x.rest ++ ns) (waits_last xs t) ∙
    (sym (three (own x.rest) (waits_in xs) (own t.rest)) ∙ ap (λ ns. ns ++ own t.rest) (sym (waits_step x xs))))
  where
    three : (a b c : List ℕ) → (a ++ b) ++ c ≡ a ++ (b ++ c)
    three [] b c = refl
    three (n ∷ a) b c = ap (λ ns. n ∷ ns) (three a b c)

pub numbers_more : (ws : List Wait) (xs : List KeptTask) (id : ℕ) (t : KeptTask) → map number_of ws ≡ waits_in xs →
    map number_of (ws ++ waits_of id t.rest) ≡ waits_in (xs ++ t ∷ [])
numbers_more ws xs id t e =
    numbers_append ws (waits_of id t.rest) ∙ (ap (λ ns. ns ++ map number_of (waits_of id t.rest)) e ∙
    (ap (λ ns. waits_in xs ++ ns) (own_is id t.rest) ∙ sym (waits_last xs t)))

distinct_all : (n : ℕ) (ns : List ℕ) → Each (λ m. n ≡ m → ⊥) ns → AllByRecursion (λ m. eqb n m ≡ false) ns
distinct_all n [] e = tt
distinct_all n (m ∷ ns) e = (ne_eqb n m e.0, distinct_all n ns e.1)

pub distinct_is : (ns : List ℕ) → AreDistinct ns → IsDistinct eqb ns
unfolding IsDistinct
distinct_is [] d = tt
distinct_is (n ∷ ns) d = (distinct_all n ns d.0, distinct_is ns d.1)

-- ---- another order

deal_trans : {A : Type 0} (xs ys zs : List A) → Deal xs ys → Deal ys zs → Deal xs zs
deal_trans xs ys zs none_dealt d = d
deal_trans xs ys zs (one_dealt {x = x} {xs = us} f g p h) d =
    later (λ ws. deal_trans us (f ++ g) ws h) (move_back x f g zs (subst (λ w. Deal w zs) p d))
  where
    later : ((ws : _) → Deal (f ++ g) ws → Deal us ws) → Deal (x ∷ (f ++ g)) zs → Deal (x ∷ us) zs
    later go (one_dealt k m q e) = one_dealt k m q (go (k ++ m) e)

contained : (x : Wait) (zs : List Wait) (k : ℕ) → k < length zs → get_or zs k x ≡ x → In x zs
contained x [] k l e = absurd (omega (arith, l))
contained x (z ∷ zs) zero l e = subst (λ y. In y (z ∷ zs)) e first_in
contained x (z ∷ zs) (suc k) l e = later_in z (contained x zs k (omega (arith, l)) e)

-- no two have one number
abbrev Apart : List Wait → Type 0
Apart [] = Unit {0}
Apart (w ∷ ws) = Each (λ v. w.number ≡ v.number → ⊥) ws × Apart ws

are_apart : (ws : List Wait) → AreDistinct (map number_of ws) → Apart ws
are_apart [] d = tt
are_apart (w ∷ ws) d = (first ws d.0, are_apart ws d.1)
  where
    first : (vs : List Wait) → Each (λ m. w.number ≡ m → ⊥) (map number_of vs) → Each (λ v. w.number ≡ v.number → ⊥) vs
    first [] e = tt
    first (v ∷ vs) e = (e.0, first vs e.1)

not_first : (y x : Wait) (zs : List Wait) → In y (x ∷ zs) → (x.number ≡ y.number → ⊥) → In y zs
not_first y x zs first_in d = absurd (d refl)
not_first y x zs (later_in z i) d = i

still_in : (y x : Wait) (front back : List Wait) → In y (front ++ x ∷ back) → (x.number ≡ y.number → ⊥) → In y (front ++ back)
still_in y x front back i d = elim (in_parts y front (x ∷ back) i) [
  | inl j ↦ in_left y front back j
  | inr j ↦ in_right y front back (not_first y x back j d)
]

deal_from : (xs zs : List Wait) → Each (λ x. In x zs) xs → Apart xs → length xs ≡ length zs → Deal xs zs
deal_from [] [] e a l = none_dealt
deal_from [] (z ∷ zs) e a l = absurd (omega (arith, l))
deal_from (x ∷ xs) zs e a l =
    let r = split x zs e.0 in
    one_dealt r.before r.behind r.is (deal_from xs (r.before ++ r.behind)
    (others r.before r.behind xs (subst (λ w. Each (λ y. In y w) xs) r.is e.1) a.0) a.1
    (omega (arith, l, ap length r.is, length-append r.before (x ∷ r.behind), length-append r.before r.behind)))
  where
    others : (f g ys : List Wait) → Each (λ y. In y (f ++ x ∷ g)) ys → Each (λ y. x.number ≡ y.number → ⊥) ys →
        Each (λ y. In y (f ++ g)) ys
    others f g [] i d = tt
    others f g (y ∷ ys) i d = (still_in y x f g i.0 d.0, others f g ys i.1 d.1)

in_sorted : (xs zs ys : List Wait) → IsPermutation xs zs → ((x : Wait) → In x ys → In x xs) → Each (λ x. In x zs) ys
in_sorted xs zs [] p f = tt
in_sorted xs zs (y ∷ ys) p f = (there (f y first_in), in_sorted xs zs ys p (λ x i. f x (later_in y i)))
  where
    at : (us : List Wait) → In y us → Contains us y
    at us (first_in {xs = vs}) = (0, omega arith, refl)
    at us (later_in {xs = vs} z i) = let r = at vs i in (suc r.0, omega (arith, r.1), r.2)

    there : In y xs → In y zs
    there i = let r = Contains-permutation xs zs y p (at xs i) in contained y zs r.0 r.1 r.2

pairs_deal : (xs zs : List Wait) → Deal xs zs → Deal (pairs xs) (pairs zs)
pairs_deal xs zs none_dealt = none_dealt
pairs_deal xs zs (one_dealt {x = x} {xs = us} f g p h) =
    one_dealt (pairs f) (pairs g) (ap pairs p ∙ pairs_append f (x ∷ g))
    (subst (λ w. Deal (pairs us) w) (pairs_append f g) (pairs_deal us (f ++ g) h))

-- ---- a clock with these waits

-- the number is that of a wait, and what it waits for is still to come
abbrev pub WaitFits : Kept → Wait → Type 0
WaitFits s w = (w.number < s.next) × CauseFits s (cause_of w.kind)

pub wait_fits : (s : Kept) (id : ℕ) (r : KeptRest) → ((number : ℕ) (cause : Cause) → r ≡ leaf number cause →
    (number < s.next) × CauseFits s cause) → Each (WaitFits s) (waits_of id r)
wait_fits s id (leaf number cause) f =
    let k = f number cause refl in ((k.0, subst (λ x. CauseFits s x) (sym (same_cause cause)) k.1), tt)
wait_fits s id (group arms) f = tt

told_started : (ws : List Wait) → told (map started ws) ≡ pairs ws
told_started [] = refl
told_started (w ∷ ws) = ap (λ ps. (w.task, wait_of w) ∷ ps) (told_started ws)

all_above : (n : ℕ) (ws : List Wait) → AllBelow n ws → AllAbove n (map started ws)
all_above n [] b = tt
all_above n (w ∷ ws) b = (b.0, all_above n ws b.1)

rising : (ws : List Wait) → Rises ws → Rising (map started ws)
rising [] r = tt
rising (w ∷ ws) r = (all_above w.number ws r.0, rising ws r.1)

module _ (s : Kept) where
  is_due : (n : ℕ) (k : WaitKind) → CauseFits s (cause_of k) →
      IsDue (due_of (state s) n (cause_of k)) (state s) (cause_of k) (given k)
  is_due n (kind.At moment) f = (refl, refl)
  is_due n kind.Never f = tt
  is_due n (kind.Task entry) f = subst (λ o. IsDue (given_by o) (state s) (done entry) None) (sym f) tt
  is_due n (kind.Event cell) f = tt

  all_timed : (ws : List Wait) → Each (WaitFits s) ws → AllTimed (state s) (map started ws)
  all_timed [] e = tt
  all_timed (w ∷ ws) e = (is_due w.number w.kind e.0.1, all_timed ws e.1)

  under_next : (ws : List Wait) → Each (WaitFits s) ws → IsAboveAll s.next (map started ws)
  under_next [] e = tt
  under_next (w ∷ ws) e = (e.0.0, under_next ws e.1)

  pub clock_timed : (xs : List (ℕ × Waiting)) (ws : List Wait) (ps : List Pending) → Deal xs (pairs ws) → Each (WaitFits s) ws →
      AreDistinct (map number_of ws) → Starts ws ps → Timed xs ps (state s)
  clock_timed xs ws ps d e a starts =
      let dealt : Deal ws starts.sorted = deal_from ws starts.sorted (in_sorted ws starts.sorted ws starts.order.same (λ x i. i))
      (are_apart ws a) (sym (length_permutation ws starts.sorted starts.order.same)) in
      let fit : Each (WaitFits s) starts.sorted =
      laws_each (WaitFits s) starts.sorted (deal_back (WaitFits s) ws starts.sorted dealt (each_laws (WaitFits s) ws e)) in
      subst (λ qs. Timed xs qs (state s)) (sym starts.is) (record {
        each = subst (λ zs. Deal xs zs) (sym (told_started starts.sorted))
            (deal_trans xs (pairs ws) (pairs starts.sorted) d (pairs_deal ws starts.sorted dealt));
        timed = all_timed starts.sorted fit;
        rising = rising starts.sorted starts.order.rises;
        under_next = under_next starts.sorted fit;
        signals = tt;
      })
