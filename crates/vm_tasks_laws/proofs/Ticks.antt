-- A clock's waits stay those of the definition: one more, one fewer, a signal, a result.
use Rattle.std.proofs.Common.{◌≡◌, inl, inr, ℕ, zero, suc, ◌<◌, ◌≤◌, Bool, true, false, cond, if◌then◌else◌, nat_eq, List, [], ◌∷◌}
use Rattle.std.proofs.Common.{◌++◌, length, Option, Some, None, option_map, refl, sym, ap, subst, ◌∙◌, arith}
use Rattle.std.proofs.lemmas.Bool.{cases_eq}
use Rattle.verse_base.proofs.Facts.{nat_eq_same, nat_eq_not}
use Rattle.task_tree.proofs.Standing.{never}
use Rattle.verse_value.specs.Val.{Val, unit}
use Rattle.verse_meaning_state.specs.State.{State, Given, Signal, signalled, with_result, with_entry, set_at, drawn}
use Rattle.verse_meaning_state.specs.Waits.{Wait, Cause, till, never as forever, done, heard, eqn, ltn, nth, first_signal, given_by, Due}
use Rattle.verse_meaning_state.specs.Waits.{due_of}
use Rattle.verse_meaning_state.proofs.Numbers.{eqn_same, eqn_not, ltn_yes, ltn_no, nth_first}
use Rattle.sim_clock.specs.declared.waits.Wait.{Wait as ClockWait}
use Rattle.sim_clock.specs.declared.waits.WaitKind.{WaitKind}
use Rattle.sim_clock.specs.declared.waits.WaitKind.TheVariants.{At, Never, Task as OnTask, Event}
use Rattle.sim_clock.specs.declared.waits.Wake.{Wake}
use Rattle.sim_clock.specs.declared.waits.Due.{Due as ClockDue}
use Rattle.sim_clock.specs.declared.waits.Pending.{Pending}
use Rattle.sim_clock.specs.Pending.{IsAboveAll, given, added, removed, waits_alike, or_else, woken_one, woken}
use Rattle.vm_tasks_laws.specs.Standing.{Deal, one_dealt}
use Rattle.vm_tasks_laws.specs.Clocks.{cause_of, wait_of, value_for, IsDue, IsTimed, AllTimed, AllAbove, Rising, NoneNewer, told, Timed}
use Rattle.vm_tasks_laws.specs.Clocks.{NextIs}
use Rattle.vm_tasks_laws.proofs.Lists.{in_first, between, in_second, cut}
use Rattle.vm_tasks_laws.proofs.Trees.{move, move_back, deal_first}

-- what is due, in another state
move_due : (s u : State) (c : Cause) (o : Option Given) (w : Option Wake) →
    ((k : ℕ) (v : Val) → value_for s c k ≡ Some v → value_for u c k ≡ Some v) → IsDue o s c w → IsDue o u c w
move_due s u c None None f h = tt
move_due s u c None (Some w) f h = absurd h
move_due s u c (Some g) None f h = absurd h
move_due s u c (Some g) (Some w) f h = (h.0, f w.cause g.value h.1)

nth_last : {A : Type 0} (xs : List A) (x : A) → nth (xs ++ x ∷ []) (length xs) ≡ Some x
nth_last [] x = refl
nth_last (y ∷ xs) x = nth_last xs x

nth_set : {A : Type 0} (xs : List A) (n : ℕ) (x y : A) → nth xs n ≡ Some x → nth (set_at xs n y) n ≡ Some y
nth_set [] n x y h = absurd (never h)
nth_set (z ∷ xs) zero x y h = refl
nth_set (z ∷ xs) (suc n) x y h = nth_set xs n x y h

nth_unset : {A : Type 0} (xs : List A) (n k : ℕ) (y : A) → (k ≡ n → ⊥) → nth (set_at xs n y) k ≡ nth xs k
nth_unset [] n k y d = refl
nth_unset (z ∷ xs) zero zero y d = absurd (d refl)
nth_unset (z ∷ xs) zero (suc k) y d = refl
nth_unset (z ∷ xs) (suc n) zero y d = refl
nth_unset (z ∷ xs) (suc n) (suc k) y d = nth_unset xs n k y (λ e. d (ap suc e))

nth_none : (xs : List (Option Given)) (n : ℕ) → given_by (nth (xs ++ None ∷ []) n) ≡ given_by (nth xs n)
nth_none [] zero = refl
nth_none [] (suc n) = refl
nth_none (x ∷ xs) zero = refl
nth_none (x ∷ xs) (suc n) = nth_none xs n

abbrev with_value : Option Signal → Option Val
with_value o = option_map (λ (g : Signal). g.given.value) o

some_value : (o : Option Signal) (v : Val) → with_value o ≡ Some v → (g : Signal) × (o ≡ Some g)
some_value None v h = absurd (never h)
some_value (Some g) v h = (g, refl)

kept_signal : (gs hs : List Signal) (k : ℕ) (v : Val) → with_value (nth gs k) ≡ Some v → with_value (nth (gs ++ hs) k) ≡ Some v
kept_signal gs hs k v h = let r = some_value (nth gs k) v h in ap with_value (nth_first gs hs k r.0 r.1) ∙ (sym (ap with_value r.1) ∙ h)

abbrev or_given : Option Given → Option Given → Option Given
or_given None o = o
or_given (Some g) o = Some g

first_more : (gs : List Signal) (x : Signal) (e n : ℕ) →
    first_signal (gs ++ x ∷ []) e n ≡ or_given (first_signal gs e n) (cond (eqn e x.event) (cond (ltn n x.next) (Some x.given) None) None)
first_more [] x e n = refl
first_more (g ∷ gs) x e n = go (eqn e g.event) (ltn n g.next) (first_more gs x e n)
  where
    go : (a b : Bool) → first_signal (gs ++ x ∷ []) e n ≡
        or_given (first_signal gs e n) (cond (eqn e x.event) (cond (ltn n x.next) (Some x.given) None) None) →
        cond a (cond b (Some g.given) (first_signal (gs ++ x ∷ []) e n)) (first_signal (gs ++ x ∷ []) e n) ≡
        or_given (cond a (cond b (Some g.given) (first_signal gs e n)) (first_signal gs e n))
        (cond (eqn e x.event) (cond (ltn n x.next) (Some x.given) None) None)
    go true true h = refl
    go true false h = h
    go false b h = h

none_newer : (gs : List Signal) (e n : ℕ) → NoneNewer n gs → first_signal gs e n ≡ None
none_newer [] e n h = refl
none_newer (g ∷ gs) e n h = ap (λ b. cond (eqn e g.event) (cond b (Some g.given) (first_signal gs e n)) (first_signal gs e n))
    (ltn_no n g.next h.0) ∙ go (eqn e g.event) (none_newer gs e n h.1)
  where
    go : (a : Bool) → first_signal gs e n ≡ None → cond a (first_signal gs e n) (first_signal gs e n) ≡ None
    go true h = h
    go false h = h

newer_more : (n k : ℕ) (gs : List Signal) → n ≤ k → NoneNewer n gs → NoneNewer k gs
newer_more n k [] le h = tt
newer_more n k (g ∷ gs) le h = (omega (arith, le, h.0), newer_more n k gs le h.1)

newer_append : (n : ℕ) (gs : List Signal) (g : Signal) → NoneNewer n gs → g.next ≤ n → NoneNewer n (gs ++ g ∷ [])
newer_append n [] g h k = (k, tt)
newer_append n (x ∷ gs) g h k = (h.0, newer_append n gs g h.1 k)

-- a signal is sent
abbrev woken_wake : Bool → Option Wake → Wake → Option Wake
woken_wake true w x = or_else w (Some x)
woken_wake false w x = w

signal_due : (s : State) (e : ℕ) (v : Val) (n : ℕ) (k : WaitKind) (w : Option Wake) → n < s.clock.next →
    IsDue (due_of s n (cause_of k)) s (cause_of k) w →
    IsDue (due_of (signalled e v s) n (cause_of k)) (signalled e v s) (cause_of k)
    (woken_wake (waits_alike k (Event e)) w (record { at = s.clock.now; cause = length s.clock.signals }))
signal_due s e v n (At t) w l h = move_due s (signalled e v s) (till t) (Some (record { value = unit; moment = t })) w (λ k x p. p) h
signal_due s e v n Never w l h = move_due s (signalled e v s) forever None w (λ k x p. p) h
signal_due s e v n (OnTask t) w l h = move_due s (signalled e v s) (done t) (given_by (nth s.clock.results t)) w (λ k x p. p) h
signal_due s e v n (Event c) w l h =
    subst (λ o. IsDue o u (heard c) (woken_wake (nat_eq c e) w wake)) (sym (first_more s.clock.signals x c n))
    (go (first_signal s.clock.signals c n) w h)
  where
    x : Signal
    x = record { event = e; next = s.clock.next; given = record { value = v; moment = s.clock.now } }

    u : State
    u = signalled e v s

    wake : Wake
    wake = record { at = s.clock.now; cause = length s.clock.signals }

    go : (o : Option Given) (w : Option Wake) → IsDue o s (heard c) w →
        IsDue (or_given o (cond (eqn c e) (cond (ltn n s.clock.next) (Some (record { value = v; moment = s.clock.now })) None) None))
        (signalled e v s) (heard c) (woken_wake (nat_eq c e) w (record { at = s.clock.now; cause = length s.clock.signals }))
    go None (Some z) h = absurd h
    go (Some g) None h = absurd h
    go (Some g) (Some z) h = subst (λ o. IsDue (Some g) (signalled e v s) (heard c) o) (stays (nat_eq c e))
        (h.0, kept_signal s.clock.signals _ z.cause g.value h.1)
      where
        stays : (b : Bool) → Some z ≡ woken_wake b (Some z) (record { at = s.clock.now; cause = length s.clock.signals })
        stays true = refl
        stays false = refl
    go None None h = elim (cases_eq c e) [
      | inl p ↦
          subst (λ b. IsDue (cond b (cond (ltn n s.clock.next) (Some (record { value = v; moment = s.clock.now })) None) None)
          (signalled e v s) (heard c) (woken_wake (nat_eq c e) None (record { at = s.clock.now; cause = length s.clock.signals })))
          (sym (ap (λ i. eqn c i) (sym p) ∙ eqn_same c))
          (subst (λ b. IsDue (cond b (Some (record { value = v; moment = s.clock.now })) None) (signalled e v s) (heard c)
          (woken_wake (nat_eq c e) None (record { at = s.clock.now; cause = length s.clock.signals }))) (sym (ltn_yes n s.clock.next l))
          (subst (λ b. IsDue (Some (record { value = v; moment = s.clock.now })) (signalled e v s) (heard c)
          (woken_wake b None (record { at = s.clock.now; cause = length s.clock.signals })))
          (sym (ap (λ i. nat_eq c i) (sym p) ∙ nat_eq_same c)) (refl, ap with_value (nth_last s.clock.signals _))))
      | inr d ↦
          subst (λ b. IsDue (cond b (cond (ltn n s.clock.next) (Some (record { value = v; moment = s.clock.now })) None) None)
          (signalled e v s) (heard c) (woken_wake (nat_eq c e) None (record { at = s.clock.now; cause = length s.clock.signals })))
          (sym (eqn_not c e d))
          (subst (λ b. IsDue None (signalled e v s) (heard c)
          (woken_wake b None (record { at = s.clock.now; cause = length s.clock.signals }))) (sym (nat_eq_not c e d)) tt)
    ]

-- a spawned task has given a value
result_due : (s : State) (e : ℕ) (v : Val) (n : ℕ) (k : WaitKind) (w : Option Wake) → nth s.clock.results e ≡ Some None →
    IsDue (due_of s n (cause_of k)) s (cause_of k) w →
    IsDue (due_of (with_result (Some e) v s) n (cause_of k)) (with_result (Some e) v s) (cause_of k)
    (woken_wake (waits_alike k (OnTask e)) w (record { at = s.clock.now; cause = 0 }))
result_due s e v n (At t) w r h = move_due s (with_result (Some e) v s) (till t) (Some (record { value = unit; moment = t })) w
    (λ k x p. p) h
result_due s e v n Never w r h = move_due s (with_result (Some e) v s) forever None w (λ k x p. p) h
result_due s e v n (Event c) w r h = move_due s (with_result (Some e) v s) (heard c) (first_signal s.clock.signals c n) w (λ k x p. p) h
result_due s e v n (OnTask t) w r h = elim (cases_eq t e) [
  | inl p ↦
      let none : IsDue None s (done t) w = subst (λ o. IsDue o s (done t) w) (ap given_by (ap (λ i. nth s.clock.results i) p ∙ r)) h in
      let there : nth (set_at s.clock.results e (Some (record { value = v; moment = s.clock.now }))) t ≡
      Some (Some (record { value = v; moment = s.clock.now })) =
      ap (λ i. nth (set_at s.clock.results e (Some (record { value = v; moment = s.clock.now }))) i) p ∙
      nth_set s.clock.results e None (Some (record { value = v; moment = s.clock.now })) r in
      subst (λ o. IsDue o (with_result (Some e) v s) (done t) (woken_wake (nat_eq t e) w (record { at = s.clock.now; cause = 0 })))
      (sym (ap given_by there))
      (subst (λ b. IsDue (Some (record { value = v; moment = s.clock.now })) (with_result (Some e) v s) (done t)
      (woken_wake b w (record { at = s.clock.now; cause = 0 }))) (sym (ap (λ i. nat_eq t i) (sym p) ∙ nat_eq_same t))
      (first w none (ap (λ (o : Option (Option Given)). option_map (λ (g : Given). g.value) (given_by o)) there)))
  | inr d ↦
      let same : nth (set_at s.clock.results e (Some (record { value = v; moment = s.clock.now }))) t ≡ nth s.clock.results t =
      nth_unset s.clock.results e t (Some (record { value = v; moment = s.clock.now })) d in
      subst (λ o. IsDue o (with_result (Some e) v s) (done t) (woken_wake (nat_eq t e) w (record { at = s.clock.now; cause = 0 })))
      (sym (ap given_by same))
      (subst (λ b. IsDue (given_by (nth s.clock.results t)) (with_result (Some e) v s) (done t)
      (woken_wake b w (record { at = s.clock.now; cause = 0 }))) (sym (nat_eq_not t e d))
      (move_due s (with_result (Some e) v s) (done t) (given_by (nth s.clock.results t)) w
      (λ k x q. ap (λ (o : Option (Option Given)). option_map (λ (g : Given). g.value) (given_by o)) same ∙ q) h))
]
  where
    first : (w : Option Wake) → IsDue None s (done t) w →
        option_map (λ (g : Given). g.value) (given_by
        (nth (set_at s.clock.results e (Some (record { value = v; moment = s.clock.now }))) t)) ≡ Some v →
        IsDue (Some (record { value = v; moment = s.clock.now })) (with_result (Some e) v s) (done t)
        (or_else w (Some (record { at = s.clock.now; cause = 0 })))
    first None h k = (refl, k)
    first (Some z) h k = absurd h

-- all waits
stirred : (u : State) (k : WaitKind) (x : Wake) (p : Pending) →
    IsDue (due_of u p.wait.number (cause_of p.wait.kind)) u (cause_of p.wait.kind) (woken_wake (waits_alike p.wait.kind k) p.wake x) →
    IsTimed u (woken_one k x p)
stirred u k x p h = go (waits_alike p.wait.kind k) h
  where
    go : (b : Bool) → IsDue (due_of u p.wait.number (cause_of p.wait.kind)) u (cause_of p.wait.kind) (woken_wake b p.wake x) →
        IsTimed u (if b then record p { wake = or_else p.wake (Some x) } else p)
    go true h = h
    go false h = h

same_wait : (k : WaitKind) (x : Wake) (p : Pending) → (woken_one k x p).wait ≡ p.wait
same_wait k x p = go (waits_alike p.wait.kind k)
  where
    go : (b : Bool) → (if b then record p { wake = or_else p.wake (Some x) } else p).wait ≡ p.wait
    go true = refl
    go false = refl

told_woken : (k : WaitKind) (x : Wake) (ps : List Pending) → told (woken k x ps) ≡ told ps
told_woken k x [] = refl
told_woken k x (p ∷ ps) = ap (λ (w : ClockWait). (w.task, wait_of w) ∷ told (woken k x ps)) (same_wait k x p) ∙
    ap (λ w. (p.wait.task, wait_of p.wait) ∷ w) (told_woken k x ps)

above_woken : (n : ℕ) (k : WaitKind) (x : Wake) (ps : List Pending) → AllAbove n ps → AllAbove n (woken k x ps)
above_woken n k x [] a = tt
above_woken n k x (p ∷ ps) a = (subst (λ (w : ClockWait). n < w.number) (sym (same_wait k x p)) a.0, above_woken n k x ps a.1)

rising_woken : (k : WaitKind) (x : Wake) (ps : List Pending) → Rising ps → Rising (woken k x ps)
rising_woken k x [] r = tt
rising_woken k x (p ∷ ps) r = (
  subst (λ (w : ClockWait). AllAbove w.number (woken k x ps)) (sym (same_wait k x p))
      (above_woken p.wait.number k x ps r.0),
  rising_woken k x ps r.1,
)

under_woken : (n : ℕ) (k : WaitKind) (x : Wake) (ps : List Pending) → IsAboveAll n ps → IsAboveAll n (woken k x ps)
under_woken n k x [] a = tt
under_woken n k x (p ∷ ps) a = (subst (λ (w : ClockWait). w.number < n) (sym (same_wait k x p)) a.0, under_woken n k x ps a.1)

under_more : (n k : ℕ) (ps : List Pending) → n ≤ k → IsAboveAll n ps → IsAboveAll k ps
under_more n k [] le a = tt
under_more n k (p ∷ ps) le a = (omega (arith, le, a.0), under_more n k ps le a.1)

told_append : (a b : List Pending) → told (a ++ b) ≡ told a ++ told b
told_append [] b = refl
told_append (p ∷ a) b = ap (λ w. (p.wait.task, wait_of p.wait) ∷ w) (told_append a b)

above_append : (n : ℕ) (a b : List Pending) → AllAbove n a → AllAbove n b → AllAbove n (a ++ b)
above_append n [] b h k = k
above_append n (p ∷ a) b h k = (h.0, above_append n a b h.1 k)

rising_last : (ps : List Pending) (p : Pending) → Rising ps → IsAboveAll p.wait.number ps → Rising (ps ++ p ∷ [])
rising_last [] p r a = (tt, tt)
rising_last (q ∷ ps) p r a = (above_append q.wait.number ps (p ∷ []) r.0 (a.0, tt), rising_last ps p r.1 a.1)

under_append : (n : ℕ) (a b : List Pending) → IsAboveAll n a → IsAboveAll n b → IsAboveAll n (a ++ b)
under_append n [] b h k = k
under_append n (p ∷ a) b h k = (h.0, under_append n a b h.1 k)

timed_append : (s : State) (a b : List Pending) → AllTimed s a → AllTimed s b → AllTimed s (a ++ b)
timed_append s [] b h k = k
timed_append s (p ∷ a) b h k = (h.0, timed_append s a b h.1 k)

-- in a state with the same results and signals
timed_same : (s u : State) (ps : List Pending) → ((n : ℕ) (c : Cause) → due_of s n c ≡ due_of u n c) →
    ((c : Cause) (k : ℕ) → value_for s c k ≡ value_for u c k) → AllTimed s ps → AllTimed u ps
timed_same s u [] d v a = tt
timed_same s u (p ∷ ps) d v a = (
  subst (λ o. IsDue o u (cause_of p.wait.kind) p.wake) (d p.wait.number (cause_of p.wait.kind))
      (move_due s u (cause_of p.wait.kind) (due_of s p.wait.number (cause_of p.wait.kind)) p.wake
      (λ k x h. sym (v (cause_of p.wait.kind) k) ∙ h) a.0),
  timed_same s u ps d v a.1,
)

-- no task that waits for it has been told before
abbrev pub IsNew : State → WaitKind → Type 0
IsNew s (At moment) = Unit {0}
IsNew s Never = Unit {0}
IsNew s (OnTask entry) = nth s.clock.results entry ≡ Some None
IsNew s (Event cell) = Unit {0}

new_due : (s : State) (k : WaitKind) → IsNew s k → NoneNewer s.clock.next s.clock.signals →
    IsDue (due_of s s.clock.next (cause_of k)) s (cause_of k) (given k)
new_due s (At moment) i n = (refl, refl)
new_due s Never i n = tt
new_due s (OnTask entry) i n = subst (λ o. IsDue o s (done entry) None) (sym (ap given_by i)) tt
new_due s (Event cell) i n = subst (λ o. IsDue o s (heard cell) None) (sym (none_newer s.clock.signals cell s.clock.next n)) tt

pub signal_timed : (xs : List (ℕ × Wait)) (ps : List Pending) (s : State) (e : ℕ) (v : Val) → Timed xs ps s →
    Timed xs (woken (Event e) (record { at = s.clock.now; cause = length s.clock.signals }) ps) (signalled e v s)
signal_timed xs ps s e v t = record {
  each = subst (λ w. Deal (xs) w) (sym (told_woken (Event e) (record { at = s.clock.now; cause = length s.clock.signals }) ps)) t.each;
  timed = all ps t.timed t.under_next;
  rising = rising_woken (Event e) (record { at = s.clock.now; cause = length s.clock.signals }) ps t.rising;
  under_next = under_woken s.clock.next (Event e) (record { at = s.clock.now; cause = length s.clock.signals }) ps t.under_next;
  signals = newer_append s.clock.next s.clock.signals
      (record { event = e; next = s.clock.next; given = record { value = v; moment = s.clock.now } }) t.signals (omega arith);
}
  where
    all : (ps : List Pending) → AllTimed s ps → IsAboveAll s.clock.next ps →
        AllTimed (signalled e v s) (woken (Event e) (record { at = s.clock.now; cause = length s.clock.signals }) ps)
    all [] a u = tt
    all (p ∷ ps) a u = (
      stirred (signalled e v s) (Event e) (record { at = s.clock.now; cause = length s.clock.signals }) p
          (signal_due s e v p.wait.number p.wait.kind p.wake u.0 a.0),
      all ps a.1 u.1,
    )

pub result_timed : (xs : List (ℕ × Wait)) (ps : List Pending) (s : State) (e : ℕ) (v : Val) → nth s.clock.results e ≡ Some None →
    Timed xs ps s →
    Timed xs (woken (OnTask e) (record { at = s.clock.now; cause = 0 }) ps) (with_result (Some e) v s)
result_timed xs ps s e v r t = record {
  each = subst (λ w. Deal (xs) w) (sym (told_woken (OnTask e) (record { at = s.clock.now; cause = 0 }) ps)) t.each;
  timed = all ps t.timed;
  rising = rising_woken (OnTask e) (record { at = s.clock.now; cause = 0 }) ps t.rising;
  under_next = under_woken s.clock.next (OnTask e) (record { at = s.clock.now; cause = 0 }) ps t.under_next;
  signals = t.signals;
}
  where
    all : (ps : List Pending) → AllTimed s ps →
        AllTimed (with_result (Some e) v s) (woken (OnTask e) (record { at = s.clock.now; cause = 0 }) ps)
    all [] a = tt
    all (p ∷ ps) a = (
      stirred (with_result (Some e) v s) (OnTask e) (record { at = s.clock.now; cause = 0 }) p
          (result_due s e v p.wait.number p.wait.kind p.wake r a.0),
      all ps a.1,
    )

-- results, signals and the next number are the same
pub same_timed : (xs : List (ℕ × Wait)) (ps : List Pending) (s u : State) → u.clock.results ≡ s.clock.results →
    u.clock.signals ≡ s.clock.signals → u.clock.next ≡ s.clock.next →
    Timed xs ps s → Timed xs ps u
same_timed xs ps s u r g n t = record {
  each = t.each;
  timed = timed_same s u ps due value t.timed;
  rising = t.rising;
  under_next = subst (λ k. IsAboveAll k ps) (sym n) t.under_next;
  signals = subst (λ k. NoneNewer k u.clock.signals) (sym n) (subst (λ w. NoneNewer s.clock.next w) (sym g) t.signals);
}
  where
    due : (n : ℕ) (c : Cause) → due_of s n c ≡ due_of u n c
    due n (till moment) = refl
    due n forever = refl
    due n (done entry) = ap (λ w. given_by (nth w entry)) (sym r)
    due n (heard event) = ap (λ w. first_signal w event n) (sym g)

    value : (c : Cause) (k : ℕ) → value_for s c k ≡ value_for u c k
    value (till moment) k = refl
    value forever k = refl
    value (done entry) k = ap (λ w. option_map (λ (g : Given). g.value) (given_by (nth w entry))) (sym r)
    value (heard event) k = ap (λ w. with_value (nth w k)) (sym g)

pub entry_timed : (xs : List (ℕ × Wait)) (ps : List Pending) (s : State) → Timed xs ps s → Timed xs ps (with_entry s)
entry_timed xs ps s t = record {
  each = t.each;
  timed = timed_same s (with_entry s) ps due value t.timed;
  rising = t.rising;
  under_next =
      t.under_next;
  signals = t.signals;
}
  where
    due : (n : ℕ) (c : Cause) → due_of s n c ≡ due_of (with_entry s) n c
    due n (till moment) = refl
    due n forever = refl
    due n (done entry) = sym (nth_none s.clock.results entry)
    due n (heard event) = refl

    value : (c : Cause) (k : ℕ) → value_for s c k ≡ value_for (with_entry s) c k
    value (till moment) k = refl
    value forever k = refl
    value (done entry) k = ap (λ o. option_map (λ (g : Given). g.value) o) (sym (nth_none s.clock.results entry))
    value (heard event) k = refl

-- a task falls asleep
pub added_timed : (xs ys : List (ℕ × Wait)) (ps : List Pending) (s : State) (wait : ClockWait) (f g : List (ℕ × Wait)) →
    wait.number ≡ s.clock.next → IsNew s wait.kind →
    xs ≡ f ++ g → ys ≡ f ++ (wait.task, wait_of wait) ∷ g → Timed xs ps s → Timed ys (added ps wait) (drawn s)
added_timed xs ys ps s wait f g number i before after t =
    let p : Pending = record { wait = wait; wake = given wait.kind } in
    let under : IsAboveAll wait.number ps = subst (λ k. IsAboveAll k ps) (sym number) t.under_next in
    let timed : AllTimed s (ps ++ p ∷ []) = timed_append s ps (p ∷ []) t.timed (
      subst (λ k. IsDue (due_of s k (cause_of wait.kind)) s (cause_of wait.kind) (given wait.kind)) (sym number)
          (new_due s wait.kind i t.signals),
      tt,
    ) in
    record {
      each = subst (λ w. Deal w (told (ps ++ p ∷ []))) (sym after)
          (subst (λ w. Deal (f ++ (wait.task, wait_of wait) ∷ g) w) (sym (told_append ps (p ∷ [])))
          (move (wait.task, wait_of wait) f g (told ps ++ (wait.task, wait_of wait) ∷ [])
          (deal_first (wait.task, wait_of wait) (f ++ g) (told ps) (subst (λ w. Deal w (told ps)) before t.each))));
      timed = timed_same s (drawn s) (ps ++ p ∷ []) (due s) (value s) timed;
      rising = rising_last ps p t.rising under;
      under_next = under_append (suc s.clock.next) ps (p ∷ []) (under_more s.clock.next (suc s.clock.next) ps (omega arith) t.under_next)
          (omega (arith, number), tt);
      signals = newer_more s.clock.next (suc s.clock.next) s.clock.signals (omega arith) t.signals;
    }
  where
    due : (s : State) (n : ℕ) (c : Cause) → due_of s n c ≡ due_of (drawn s) n c
    due s n (till moment) = refl
    due s n forever = refl
    due s n (done entry) = refl
    due s n (heard event) = refl

    value : (s : State) (c : Cause) (k : ℕ) → value_for s c k ≡ value_for (drawn s) c k
    value s (till moment) k = refl
    value s forever k = refl
    value s (done entry) k = refl
    value s (heard event) k = refl

-- a wait among those of the clock
pub record ToldCut (ps : List Pending) (x : ℕ × Wait) (a b : List (ℕ × Wait)) : Type 0 where
  pub front : List Pending
  pub wait : Pending
  pub back : List Pending
  pub is : ps ≡ front ++ wait ∷ back
  pub it : (wait.wait.task, wait_of wait.wait) ≡ x
  pub left : told front ≡ a
  pub right : told back ≡ b

told_cut : (ps : List Pending) (a : List (ℕ × Wait)) (x : ℕ × Wait) (b : List (ℕ × Wait)) → told ps ≡ a ++ x ∷ b → ToldCut ps x a b
told_cut [] [] x b p = absurd (cc)
told_cut [] (y ∷ a) x b p = absurd (cc)
told_cut (q ∷ ps) [] x b p = record { front = []; wait = q; back = ps; is = refl; it = cc; left = refl; right = cc }
told_cut (q ∷ ps) (y ∷ a) x b p =
    let same : (q.wait.task, wait_of q.wait) ≡ y = cc in let tails : told ps ≡ a ++ x ∷ b = cc in
    let r = told_cut ps a x b tails in
    record {
      front = q ∷ r.front;
      wait = r.wait;
      back = r.back;
      is = ap (λ w. q ∷ w) r.is;
      it = r.it;
      left =
          ap (λ w. (q.wait.task, wait_of q.wait) ∷ w) r.left ∙ ap (λ z. z ∷ a) same;
      right = r.right;
    }

rising_less : (f m g : List Pending) (p q : Pending) → Rising (f ++ p ∷ (m ++ q ∷ g)) → p.wait.number < q.wait.number
rising_less [] m g p q r = go m r.0
  where
    go : (m : List Pending) → AllAbove p.wait.number (m ++ q ∷ g) → p.wait.number < q.wait.number
    go [] a = a.0
    go (x ∷ m) a = go m a.1
rising_less (x ∷ f) m g p q r = rising_less f m g p q r.1

pub rising_same : (ps f g c d : List Pending) (p q : Pending) → Rising ps → ps ≡ f ++ p ∷ g → ps ≡ c ++ q ∷ d →
    p.wait.number ≡ q.wait.number → p ≡ q
rising_same ps f g c d p q r i j n = elim (cut f p g c q d (sym i ∙ j)) [
  | in_first m h k ↦
      let e1 : ps ≡ c ++ q ∷ (m ++ p ∷ g) = j ∙ ap (λ w. c ++ q ∷ w) k in
      let l = rising_less c m g q p (subst (λ w. Rising w) e1 r) in absurd (omega (arith, l, n))
  | between h k l ↦ k
  | in_second m h k ↦
      let e1 : ps ≡ f ++ p ∷ (m ++ q ∷ d) = i ∙ ap (λ w. f ++ p ∷ w) k in
      let l = rising_less f m d p q (subst (λ w. Rising w) e1 r) in absurd (omega (arith, l, n))
]

removed_at : (f g : List Pending) (p : Pending) → Rising (f ++ p ∷ g) → removed p.wait.number (f ++ p ∷ g) ≡ f ++ g
removed_at [] g p r = ap (λ b. if b then g else p ∷ removed p.wait.number g) (nat_eq_same p.wait.number)
removed_at (x ∷ f) g p r =
    ap (λ b. if b then (f ++ p ∷ g) else x ∷ removed p.wait.number (f ++ p ∷ g))
    (nat_eq_not x.wait.number p.wait.number (λ e. absurd (omega (arith, rising_less [] f g x p r, e)))) ∙
    ap (λ w. x ∷ w) (removed_at f g p r.1)

above_parts : (n : ℕ) (f g : List Pending) (p : Pending) → AllAbove n (f ++ p ∷ g) → AllAbove n (f ++ g)
above_parts n [] g p a = a.1
above_parts n (x ∷ f) g p a = (a.0, above_parts n f g p a.1)

rising_parts : (f g : List Pending) (p : Pending) → Rising (f ++ p ∷ g) → Rising (f ++ g)
rising_parts [] g p r = r.1
rising_parts (x ∷ f) g p r = (above_parts x.wait.number f g p r.0, rising_parts f g p r.1)

under_parts : (n : ℕ) (f g : List Pending) (p : Pending) → IsAboveAll n (f ++ p ∷ g) → IsAboveAll n (f ++ g)
under_parts n [] g p a = a.1
under_parts n (x ∷ f) g p a = (a.0, under_parts n f g p a.1)

timed_parts : (s : State) (f g : List Pending) (p : Pending) → AllTimed s (f ++ p ∷ g) → AllTimed s (f ++ g)
timed_parts s [] g p a = a.1
timed_parts s (x ∷ f) g p a = (a.0, timed_parts s f g p a.1)

-- a wait goes
pub removed_timed : (xs ys : List (ℕ × Wait)) (ps : List Pending) (s : State) (id : ℕ) (w : Wait) (f g : List (ℕ × Wait)) →
    xs ≡ f ++ (id, w) ∷ g → ys ≡ f ++ g →
    Timed xs ps s → Timed ys (removed w.number ps) s
removed_timed xs ys ps s id w f g before after t = go (move_back (id, w) f g (told ps) (subst (λ z. Deal z (told ps)) before t.each))
  where
    go : Deal ((id, w) ∷ (f ++ g)) (told ps) → Timed ys (removed w.number ps) s
    go (one_dealt a b p d) =
        let c = told_cut ps a (id, w) b p in
        let r : Rising (c.front ++ c.wait ∷ c.back) = subst (λ z. Rising z) c.is t.rising in
        let number : c.wait.wait.number ≡ w.number = ap (λ (x : ℕ × Wait). x.1.number) c.it in
        let left : removed w.number ps ≡ c.front ++ c.back =
        ap (λ n. removed n ps) (sym number) ∙ (ap (λ z. removed c.wait.wait.number z) c.is ∙ removed_at c.front c.back c.wait r) in
        subst (λ z. Timed ys z s) (sym left) (record {
          each = subst (λ z. Deal z (told (c.front ++ c.back))) (sym after)
              (subst (λ z. Deal (f ++ g) z) (ap (λ z. z ++ b) (sym c.left) ∙
              (ap (λ z. told c.front ++ z) (sym c.right) ∙ sym (told_append c.front c.back))) d);
          timed = timed_parts s c.front c.back c.wait (subst (λ z. AllTimed s z) c.is t.timed);
          rising = rising_parts c.front c.back c.wait r;
          under_next = under_parts s.clock.next c.front c.back c.wait (subst (λ z. IsAboveAll s.clock.next z) c.is t.under_next);
          signals = t.signals;
        })

-- the next wait's task is the one that is asleep with it
pub task_is : (xs : List (ℕ × Wait)) (ps : List Pending) (s : State) (id : ℕ) (w : Wait) (f g : List (ℕ × Wait)) (d : Due) (e : ClockDue) →
    xs ≡ f ++ (id, w) ∷ g →
    Timed xs ps s → NextIs s ps d e → d.number ≡ w.number → (e.task ≡ id) × (value_for s w.cause e.cause ≡ Some d.given.value)
task_is xs ps s id w f g d e before t n number = go (move_back (id, w) f g (told ps) (subst (λ z. Deal z (told ps)) before t.each))
  where
    go : Deal ((id, w) ∷ (f ++ g)) (told ps) → (e.task ≡ id) × (value_for s w.cause e.cause ≡ Some d.given.value)
    go (one_dealt a b p h) =
        let c = told_cut ps a (id, w) b p in
        let same : c.wait ≡ n.wait = rising_same ps c.front c.back n.front n.back c.wait n.wait t.rising c.is n.is
        (ap (λ (x : ℕ × Wait). x.1.number) c.it ∙ (sym number ∙ n.number)) in
        let it : (n.wait.wait.task, wait_of n.wait.wait) ≡ (id, w) = ap (λ (q : Pending). (q.wait.task, wait_of q.wait)) (sym same) ∙
        c.it in
        (n.task ∙ ap (λ (x : ℕ × Wait). x.0) it, ap (λ (x : ℕ × Wait). value_for s x.1.cause e.cause) (sym it) ∙ n.value)
