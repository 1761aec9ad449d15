-- How many tasks, frames and waits a fitting shot spells, and the tasks of its entries.
use Rattle.std.proofs.Common.{◌≡◌, ℕ, zero, suc, ◌+◌, ◌<◌, ◌≤◌, ◌⊎◌, inl, inr, Bool, true, false, ◌&&◌, cond, eqb, List, [], ◌∷◌, ◌++◌}
use Rattle.std.proofs.Common.{length}
use Rattle.std.proofs.Common.{Option, Some, None, refl, sym, ap, subst, ◌∙◌, arith}
use Rattle.std.specs.Prelude.{◌≢◌}
use Rattle.std.proofs.lemmas.Bool.{cases_lt, ne_eqb}
use Rattle.std.proofs.lemmas.Bool.Decides.{eqb_tells}
use Rattle.task_tree.specs.Tasks.{is_child}
use Rattle.task_tree.specs.declared.tasks.Role.{Role}
use Rattle.verse_code.specs.declared.codes.Code.{Code}
use Rattle.verse_meaning_state.specs.State.{Given}
use Rattle.verse_meaning_state.specs.Waits.{eqn, ltn, nth}
use Rattle.verse_meaning_state.proofs.Numbers.{eqn_same, eqn_not, ltn_yes, nth_past}
use Rattle.verse_code_machine.specs.Tasks as m
use Rattle.verse_code_machine.specs.Tasks.{Frame, Who, root, part, Part, Rest, asleep, group, Task, root_named, child_named}
use Rattle.run_save_shots.specs.Lists.{Each, EachAt, AreDistinct, count}
use Rattle.run_save_shots.specs.Kept as k
use Rattle.run_save_shots.specs.Kept.{KeptFrame, KeptRest, KeptTask, Kept}
use Rattle.run_save_shots.specs.Fitting.{Stand, calls, sleeps, stays, awaits_task, awaits_event, gathers, goes_on, task_stand, RootFits}
use Rattle.run_save_shots.specs.Fitting.{RestFits}
use Rattle.run_save_shots.specs.Fitting.{TaskFits, waits_in, is_root, runs_once, HasRoot, frames_in, Fits}
use Rattle.run_save_shots.specs.Spelling.{gathered, rest}
use Rattle.run_save_fits.specs.Held.{tasks_sum, one, is_wait, is_task_of, is_main, unfinished}
use Rattle.run_save_spelled.proofs.Sprouting.{frames_long}
use Rattle.run_save_twice.proofs.Linked.{IsOf, Along}

-- ---- sums over the tasks that are kept

abbrev kept_sum : (KeptTask → ℕ) → List KeptTask → ℕ
kept_sum g [] = 0
kept_sum g (t ∷ ts) = g t + kept_sum g ts

count_is : (test : KeptTask → Bool) (ts : List KeptTask) → kept_sum (λ t. one (test t)) ts ≡ count test ts
count_is test [] = refl
count_is test (t ∷ ts) = by (test t) (count_is test ts)
  where
    by : (b : Bool) → kept_sum (λ t. one (test t)) ts ≡ count test ts →
        one b + kept_sum (λ t. one (test t)) ts ≡ cond b (suc (count test ts)) (count test ts)
    by true e = omega (arith, e)
    by false e = omega (arith, e)

length_is : (ts : List KeptTask) → kept_sum (λ t. 1) ts ≡ length ts
length_is [] = refl
length_is (t ∷ ts) = omega (arith, length_is ts)

frames_are : (ts : List KeptTask) → kept_sum (λ t. length t.frames) ts ≡ frames_in ts
frames_are [] = refl
frames_are (t ∷ ts) = ap (λ n. length t.frames + n) (frames_are ts)

-- ---- waits

abbrev wait_of : ℕ → KeptRest → ℕ
wait_of n (k.leaf number cause) = one (eqn n number)
wait_of n (k.group arms) = 0

abbrev occurs : ℕ → List ℕ → ℕ
occurs n [] = 0
occurs n (x ∷ xs) = one (eqn n x) + occurs n xs

one_wait : (n : ℕ) (p : Option ℕ) (q : Role) (o : Option ℕ) (fs : List KeptFrame) (r : KeptRest) (ts : List KeptTask) →
    wait_of n r + occurs n (waits_in ts) ≡ occurs n (waits_in (record { parent = p; role = q; root = o; frames = fs; rest = r } ∷ ts))
one_wait n p q o fs (k.leaf number cause) ts = refl
one_wait n p q o fs (k.group arms) ts = omega arith

waits_are : (n : ℕ) (ts : List KeptTask) → kept_sum (λ t. wait_of n t.rest) ts ≡ occurs n (waits_in ts)
waits_are n [] = refl
waits_are n (t ∷ ts) =
    ap (λ i. wait_of n t.rest + i) (waits_are n ts) ∙ one_wait n t.parent t.role t.root t.frames t.rest ts

one_below : (c : Code) (s : Kept) (p : Option ℕ) (q : Role) (o : Option ℕ) (fs : List KeptFrame) (st : Stand) (r : KeptRest) (ts : List
    KeptTask) →
    RestFits s st r → Each (λ i. i < s.next) (waits_in ts) →
    Each (λ i. i < s.next) (waits_in (record { parent = p; role = q; root = o; frames = fs; rest = r } ∷ ts))
one_below c s p q o fs st (k.leaf number cause) ts f a = (f.0, a)
one_below c s p q o fs st (k.group arms) ts f a = a

waits_below : (c : Code) (s : Kept) (ts : List KeptTask) → Each (TaskFits c s) ts → Each (λ i. i < s.next) (waits_in ts)
waits_below c s [] a = tt
waits_below c s (t ∷ ts) a =
    one_below c s t.parent t.role t.root t.frames (task_stand c t) t.rest ts a.0.rest (waits_below c s ts a.1)

none_occurs : (n : ℕ) (xs : List ℕ) → Each (λ i. n ≢ i) xs → occurs n xs ≡ 0
none_occurs n [] a = refl
none_occurs n (x ∷ xs) a =
    let e = ap one (eqn_not n x a.0) in let f = none_occurs n xs a.1 in omega (arith, e, f)

few_occur : (n : ℕ) (xs : List ℕ) → AreDistinct xs → occurs n xs ≤ 1
few_occur n [] a = omega arith
few_occur n (x ∷ xs) a = by (eqn n x) refl (few_occur n xs a.1)
  where
    by : (b : Bool) → eqn n x ≡ b → occurs n xs ≤ 1 → one b + occurs n xs ≤ 1
    by false e l = omega (arith, l)
    by true e l =
        let z = none_occurs n xs (subst (λ y. Each (λ i. y ≢ i) xs) (sym (same n x e)) a.0) in omega (arith, z)
      where
        same : (a b : ℕ) → eqn a b ≡ true → a ≡ b
        same zero zero e = refl
        same zero (suc b) e = absurd (cc)
        same (suc a) zero e = absurd (cc)
        same (suc a) (suc b) e = ap suc (same a b e)

occurs_below : (n next : ℕ) (xs : List ℕ) → AreDistinct xs → Each (λ i. i < next) xs → occurs n xs ≤ one (ltn n next)
occurs_below n next xs d a = by (cases_lt n next)
  where
    beyond : next ≤ n → (ys : List ℕ) → Each (λ i. i < next) ys → Each (λ i. n ≢ i) ys
    beyond l [] b = tt
    beyond l (y ∷ ys) b = ((λ e. let h = b.0 in omega (arith, l, e, h)), beyond l ys b.1)

    by : (n < next) ⊎ (next ≤ n) → occurs n xs ≤ one (ltn n next)
    by (inl l) = let e = ap one (ltn_yes n next l) in let f = few_occur n xs d in omega (arith, e, f)
    by (inr l) = let e = none_occurs n xs (beyond l xs a) in omega (arith, e)

-- ---- entries

eqn_eqb : (a b : ℕ) → eqn a b ≡ eqb a b
eqn_eqb a b = by (eqb_tells a b)
  where
    by : ((eqb a b ≡ true) × (a ≡ b)) ⊎ ((eqb a b ≡ false) × (a ≢ b)) → eqn a b ≡ eqb a b
    by (inl h) = subst (λ d. eqn a d ≡ true) h.1 (eqn_same a) ∙ sym h.0
    by (inr h) = eqn_not a b h.1 ∙ sym h.0

root_task : (e : ℕ) (o : Option ℕ) → is_task_of e (root o) ≡ one (is_child (Some e) o)
root_task e None = refl
root_task e (Some d) = ap one (eqn_eqb e d)

root_main : (o : Option ℕ) → is_main (root o) ≡ one (is_child None o)
root_main None = refl
root_main (Some d) = refl

entry_there : {A : Type 0} (P : ℕ → A → Type 0) (n : ℕ) (xs : List A) (i : ℕ) → EachAt P n xs → i < length xs →
    (x : A) × (nth xs i ≡ Some x) × P (n + i) x
entry_there P n [] i e l = absurd (omega (arith, l))
entry_there P n (x ∷ xs) zero e l = let same : n ≡ n + 0 = omega arith in (x, refl, subst (λ j. P j x) same e.0)
entry_there P n (x ∷ xs) (suc i) e l =
    let r = entry_there P (suc n) xs i e.1 (omega (arith, l)) in
    let same : suc n + i ≡ n + suc i = omega arith in (r.0, r.1, subst (λ j. P j r.0) same r.2)

count_none : (test : KeptTask → Bool) (ts : List KeptTask) → Each (λ t. test t ≡ false) ts → count test ts ≡ 0
count_none test [] a = refl
count_none test (t ∷ ts) a = ap (λ b. cond b (suc (count test ts)) (count test ts)) a.0 ∙ count_none test ts a.1

module _ (c : Code) (s : Kept) (fits : Fits c s) where
  no_entry : (e : ℕ) → length s.spawned ≤ e → (ts : List KeptTask) → Each (TaskFits c s) ts → Each (λ t. is_root (Some e) t ≡ false) ts
  no_entry e l [] a = tt
  no_entry e l (t ∷ ts) a = (by t.parent t.root a.0.root, no_entry e l ts a.1)
    where
      by : (p o : Option ℕ) → RootFits (length s.spawned) p o → (is_child None p && is_child (Some e) o) ≡ false
      by None None f = refl
      by None (Some d) f = ne_eqb e d (λ h. omega (arith, h, f, l))
      by (Some p) o f = refl

  entry_counts : (e : ℕ) → count (is_root (Some e)) s.tasks ≡ unfinished (nth s.spawned e)
  entry_counts e = by (cases_lt e (length s.spawned))
    where
      runs : (g : Option Given) → runs_once g ≡ unfinished (Some g)
      runs None = refl
      runs (Some g) = refl

      by : (e < length s.spawned) ⊎ (length s.spawned ≤ e) → count (is_root (Some e)) s.tasks ≡ unfinished (nth s.spawned e)
      by (inl l) =
          let r = entry_there (HasRoot s.tasks) 0 s.spawned e fits.roots l in
          let same : 0 + e ≡ e = omega arith in
          subst (λ j. count (is_root (Some j)) s.tasks ≡ runs_once r.0) same r.2 ∙ (runs r.0 ∙ ap unfinished (sym r.1))
      by (inr l) = count_none (is_root (Some e)) s.tasks (no_entry e l s.tasks fits.tasks) ∙ ap unfinished (sym (nth_past s.spawned e l))

-- ---- of the tasks that are spelled

module _ (c : Code) (s : Kept) (ys : List Task) where
  sums : (f : Task → ℕ) (g : KeptTask → ℕ) →
      ((before : List KeptTask) (t : KeptTask) (ts : List KeptTask) (y : Task) → IsOf c s ys before t ts y → f y ≡ g t) →
      (before ts : List KeptTask) (zs : List Task) → Along c s ys before ts zs → tasks_sum f zs ≡ kept_sum g ts
  sums f g h before [] [] a = refl
  sums f g h before [] (z ∷ zs) a = absurd a
  sums f g h before (t ∷ ts) [] a = absurd a
  sums f g h before (t ∷ ts) (z ∷ zs) a =
      let d = h before t ts z a.0 in let e = sums f g h (before ++ t ∷ []) ts zs a.1 in omega (arith, d, e)

  pub tasks_count : (zs : List Task) → Along c s ys [] s.tasks zs → tasks_sum (λ t. 1) zs ≡ length s.tasks
  tasks_count zs a = sums (λ t. 1) (λ t. 1) (λ before t ts y o. refl) [] s.tasks zs a ∙ length_is s.tasks

  pub frames_count : (zs : List Task) → Along c s ys [] s.tasks zs →
      tasks_sum (λ (t : Task). suc (length t.thread.below)) zs ≡ frames_in s.tasks
  frames_count zs a = sums (λ (t : Task). suc (length t.thread.below)) (λ t. length t.frames) one_task [] s.tasks zs a ∙ frames_are s.tasks
    where
      one_task : (before : List KeptTask) (t : KeptTask) (ts : List KeptTask) (y : Task) → IsOf c s ys before t ts y →
          suc (length y.thread.below) ≡ length t.frames
      one_task before t ts y o =
          let l = frames_long c s (length before) t ts 0 t.frames [] in let e = ap length o.frames in omega (arith, l, e)

  pub waits_count : (zs : List Task) → Along c s ys [] s.tasks zs → Fits c s → (n : ℕ) →
      tasks_sum (λ (t : Task). is_wait n t.rest) zs ≤ one (ltn n s.next)
  waits_count zs a fits n =
      let e = sums (λ (t : Task). is_wait n t.rest) (λ t. wait_of n t.rest) one_task [] s.tasks zs a ∙ waits_are n s.tasks in
      let l = occurs_below n s.next (waits_in s.tasks) fits.waits (waits_below c s s.tasks fits.tasks) in omega (arith, e, l)
    where
      no_wait : (st : Stand) (gs : List Part) → is_wait n (gathered c st gs) ≡ 0
      no_wait calls gs = refl
      no_wait sleeps gs = refl
      no_wait stays gs = refl
      no_wait awaits_task gs = refl
      no_wait awaits_event gs = refl
      no_wait (gathers i j p) gs = refl
      no_wait goes_on gs = refl

      one_rest : (at : ℕ) (t : KeptTask) (ts : List KeptTask) (r : KeptRest) → is_wait n (rest c s at t ts r) ≡ wait_of n r
      one_rest at t ts (k.leaf number cause) = refl
      one_rest at t ts (k.group arms) = no_wait (task_stand c t) _

      one_task : (before : List KeptTask) (t : KeptTask) (ts : List KeptTask) (y : Task) → IsOf c s ys before t ts y →
          is_wait n y.rest ≡ wait_of n t.rest
      one_task before t ts y o = ap (is_wait n) o.rest_is ∙ one_rest (length before) t ts t.rest

  -- of tasks of their own
  roots : (f : m.Role → ℕ) (g : Option ℕ → ℕ) → f part ≡ 0 → ((o : Option ℕ) → f (root o) ≡ g o) →
      (h : KeptTask → ℕ) → ((t : KeptTask) → t.parent ≡ None → g t.root ≡ h t) → ((t : KeptTask) (p : ℕ) → t.parent ≡ Some p → h t ≡ 0) →
      (zs : List Task) → Along c s ys [] s.tasks zs → tasks_sum (λ (t : Task). f t.thread.who.role) zs ≡ kept_sum h s.tasks
  roots f g none own h here other zs a = sums (λ (t : Task). f t.thread.who.role) h one_task [] s.tasks zs a
    where
      one_task : (before : List KeptTask) (t : KeptTask) (ts : List KeptTask) (y : Task) → IsOf c s ys before t ts y →
          f y.thread.who.role ≡ h t
      one_task before t ts y o = by t.parent refl
        where
          by : (p : Option ℕ) → t.parent ≡ p → f y.thread.who.role ≡ h t
          by None e = ap (λ (w : Who). f w.role) (o.own e) ∙ (own t.root ∙ here t e)
          by (Some p) e = ap (λ (w : Who). f w.role) (o.under p e).2 ∙ (none ∙ sym (other t p e))

  root_here : (entry : Option ℕ) (t : KeptTask) → t.parent ≡ None → one (is_child entry t.root) ≡ one (is_root entry t)
  root_here entry t e = ap (λ p. one (is_child None p && is_child entry t.root)) (sym e)

  root_not : (entry : Option ℕ) (t : KeptTask) (p : ℕ) → t.parent ≡ Some p → one (is_root entry t) ≡ 0
  root_not entry t p e = ap (λ q. one (is_child None q && is_child entry t.root)) e

  pub entry_count : (zs : List Task) → Along c s ys [] s.tasks zs → Fits c s → (e : ℕ) →
      tasks_sum (λ (t : Task). is_task_of e t.thread.who.role) zs ≡ unfinished (nth s.spawned e)
  entry_count zs a fits e =
      roots (is_task_of e) (λ o. one (is_child (Some e) o)) refl (root_task e) (λ t. one (is_root (Some e) t)) (root_here (Some e))
      (root_not (Some e)) zs a ∙ (count_is (is_root (Some e)) s.tasks ∙ entry_counts c s fits e)

  pub main_count : (zs : List Task) → Along c s ys [] s.tasks zs →
      tasks_sum (λ (t : Task). is_main t.thread.who.role) zs ≡ count (is_root None) s.tasks
  main_count zs a =
      roots is_main (λ o. one (is_child None o)) refl root_main (λ t. one (is_root None t)) (root_here None) (root_not None) zs a ∙
      count_is (is_root None) s.tasks
