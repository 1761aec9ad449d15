-- A wait is woken.
use Rattle.std.proofs.Common.{◌≡◌, ℕ, zero, suc, List, [], ◌∷◌, ◌++◌, Option, Some, None, Bool, true, false, cond, nat_lt, refl, sym, subst}
use Rattle.std.proofs.Common.{ap}
use Rattle.std.proofs.Common.{◌∙◌}
use Rattle.std.proofs.lemmas.Option.{same_Some, none-some}
use Rattle.std.proofs.lemmas.Bool.{cond_both}
use Rattle.verse_code.specs.declared.codes.Code.{Code}
use Rattle.verse_value.specs.Val.{Val}
use Rattle.verse_meaning_state.specs.State.{State, Given, Signal}
use Rattle.verse_meaning_state.specs.Waits.{Wait, Cause, eqn, ltn, nth, has, first_signal, given_by, due_of, Due, sooner_of}
use Rattle.verse_meaning_state.specs.Waits.{least}
use Rattle.verse_meaning_state.proofs.Numbers.{eqn_is, eqn_same}
use Rattle.verse_code_machine.specs.Tasks.{root, Who, Task, Trees, world, waits_with, waits_of, tree_waits}
use Rattle.verse_code_machine.specs.Ends.{resumes, is_asleep, woken, woken_in}
use Rattle.verse_sorts.specs.Sorts as sort
use Rattle.verse_sorts.specs.Sorts.{Sort}
use Rattle.verse_sorts.specs.Typing.{at, Typing, is_unit}
use Rattle.verse_sorts.proofs.Fitting.{is_up}
use Rattle.verse_verify_kept.specs.Notes.{Notes, parent_of}
use Rattle.verse_verify_kept.specs.Known.{Known}
use Rattle.verse_verify_kept.specs.Kept.{Of, StoreIs}
use Rattle.verse_verify_kept.specs.Others.{Causes, till_gives, never_gives, done_gives, heard_gives, sleeps, groups, TasksAre, tasks_no}
use Rattle.verse_verify_kept.specs.Others.{tasks_so, TreesAre, trees_no, trees_so, ups_no, ResultsAre, results_no, result_none, result_some}
use Rattle.verse_verify_kept.specs.Others.{SignalsAre, signals_no, signals_so, Clocked, World_is}
use Rattle.verse_verify_kept.proofs.Going.{Fresh}
use Rattle.verse_verify_kept.proofs.Worlds.{trees_joined}
use Rattle.verse_verify_kept.proofs.Resting.{Fine_step, Calm, resumes_good}

module _ (c : Code) (n : Notes) (ok : Known c n) where
  -- a value that a wait of a number may get
  pub data Gets (t : Typing) (i : ℕ) (u : Val) : Type 0 where
    gets : {a : Sort} → at t.waits i ≡ Some a → Of c n t u a → Gets t i u

  event_same : (a b : Sort) → sort.event a ≡ sort.event b → a ≡ b
  event_same a b e = cc

  result_got : {t : Typing} {rs : List (Option Given)} {xs : List Sort} {b : Sort} (e : ℕ) (g : Given) → ResultsAre c n t rs xs →
      at xs e ≡ Some b → given_by (nth rs e) ≡ Some g → Of c n t g.value b
  result_got e g results_no h k = elim (none-some _ h) [ ]
  result_got zero g (result_none r) h k = elim (none-some _ k) [ ]
  result_got {t = t} {b = b} zero g (result_some {g = q} {a = a} i r) h k =
      subst (λ (g : Given). Of c n t g.value b) (same_Some _ _ k) (subst (Of c n t q.value) (same_Some _ _ h) i)
  result_got (suc e) g (result_none r) h k = result_got e g r h k
  result_got (suc e) g (result_some i r) h k = result_got e g r h k

  signal_got : {t : Typing} {gs : List Signal} {b : Sort} (e i : ℕ) (g : Given) → SignalsAre c n t gs → at t.cells e ≡ Some (sort.event b) →
      first_signal gs e i ≡ Some g → Of c n t g.value b
  signal_got e i g signals_no h k = elim (none-some _ k) [ ]
  signal_got {t = t} {b = b} e i g (signals_so {g = q} {gs = gs} {a = a} p j r) h k =
      cond_both (eqn e q.event) (cond (ltn i q.next) (Some q.given) (first_signal gs e i)) (first_signal gs e i) (λ m. m ≡ Some g →
      Of c n t g.value b) (λ same. cond_both (ltn i q.next) (Some q.given) (first_signal gs e i) (λ m. m ≡ Some g → Of c n t g.value
      b) (λ _. λ k. subst (λ (g : Given). Of c n t g.value b) (same_Some _ _ k)
      (subst (Of c n t q.given.value) (event_same a b
      (same_Some _ _ (sym p ∙ subst (λ e. at t.cells e ≡ Some (sort.event b)) (eqn_is e q.event same) h))) j))
      (λ _. λ k. signal_got e i g r h k)) (λ other. λ k. signal_got e i g r h k) k

  due_got : {t : Typing} (s : State) {cause : Cause} {a : Sort} (i : ℕ) (g : Given) → Clocked c n t s.clock.results s.clock.signals
      s.clock.next → Causes c n t cause a → due_of s i cause ≡ Some g → Of c n t g.value a
  due_got {t = t} s {a = a} i g k (till_gives f) e =
      subst (λ (g : Given). Of c n t g.value a) (same_Some _ _ e) (is_up (parent_of n) is_unit f)
  due_got s i g k never_gives e = elim (none-some _ e) [ ]
  due_got s i g k (done_gives {e = j} h f) e = is_up (parent_of n) (result_got j g k.results h e) f
  due_got s i g k (heard_gives {e = j} h f) e = is_up (parent_of n) (signal_got j i g k.signals h e) f

  pub data WaitsAre (t : Typing) : List Wait → Type 0 where
    waits_no : WaitsAre t []
    waits_so : {w : Wait} {ws : List Wait} {a : Sort} → at t.waits w.number ≡ Some a → Causes c n t w.cause a → WaitsAre t ws →
        WaitsAre t (w ∷ ws)

  abbrev pub Dues : Typing → List Wait → Option Due → Type 0
  Dues t ws None = Unit {0}
  Dues t ws (Some d) = (has d.number ws ≡ true) × Gets t d.number d.given.value

  has_more : (i : ℕ) (w : Wait) (ws : List Wait) → has i ws ≡ true → has i (w ∷ ws) ≡ true
  has_more i w ws e = cond_both (eqn i w.number) true (has i ws) (λ b. b ≡ true) (λ _. refl) (λ _. e)

  has_this : (w : Wait) (ws : List Wait) → has w.number (w ∷ ws) ≡ true
  has_this w ws = ap (λ b. cond b true (has w.number ws)) (eqn_same w.number)

  sooner_has : {t : Typing} (ws : List Wait) (w : Wait) (m : Option Given) (o : Option Due) → ((g : Given) → m ≡ Some g → Gets t w.number
      g.value) → Dues t ws o → Dues t (w ∷ ws) (sooner_of w.number m o)
  sooner_has ws w None None f d = tt
  sooner_has ws w None (Some q) f d = (has_more q.number w ws d.0, d.1)
  sooner_has ws w (Some g) None f d = (has_this w ws, f g refl)
  sooner_has {t = t} ws w (Some g) (Some q) f d =
      cond_both (nat_lt q.given.moment g.moment) (Some q) _ (Dues t (w ∷ ws)) (λ _. old) (λ _. cond_both (nat_lt g.moment
      q.given.moment) (Some (record { number = w.number; given = g })) _ (Dues t (w ∷ ws)) (λ _. new) (λ _. cond_both (nat_lt
      q.number w.number) (Some q) (Some (record { number = w.number; given = g })) (Dues t (w ∷ ws)) (λ _. old) (λ _. new)))
    where
      old : (has q.number (w ∷ ws) ≡ true) × Gets t q.number q.given.value
      old = (has_more q.number w ws d.0, d.1)

      new : (has w.number (w ∷ ws) ≡ true) × Gets t w.number g.value
      new = (has_this w ws, f g refl)

  pub least_due : {t : Typing} {ws : List Wait} (s : State) → Clocked c n t s.clock.results s.clock.signals s.clock.next → WaitsAre t ws →
      Dues t ws (least s ws)
  least_due s k waits_no = tt
  least_due s k (waits_so {w = w} {ws = ws} {a = a} h j r) =
      sooner_has ws w (due_of s w.number w.cause) (least s ws) (λ g e. gets h (due_got s w.number g k j e)) (least_due s k r)

  waits_joined : {t : Typing} {xs ys : List Wait} → WaitsAre t xs → WaitsAre t ys → WaitsAre t (xs ++ ys)
  waits_joined waits_no b = b
  waits_joined (waits_so h j r) b = waits_so h j (waits_joined r b)

  waits_are : {t : Typing} {ts : List Task} → TasksAre c n t ts → WaitsAre t (waits_of ts)
  waits_are tasks_no = waits_no
  waits_are {t = t} (tasks_so {xs = xs} (sleeps e h j q) r) =
      subst (λ z. WaitsAre t (waits_with z (waits_of xs))) (sym e) (waits_so h j (waits_are r))
  waits_are {t = t} (tasks_so {xs = xs} (groups e ps k q) r) =
      subst (λ z. WaitsAre t (waits_with z (waits_of xs))) (sym e) (waits_are r)

  pub tree_waits_are : {t : Typing} {tss : List (List Task)} → TreesAre c n t tss → WaitsAre t (tree_waits tss)
  tree_waits_are trees_no = waits_no
  tree_waits_are (trees_so i r) = waits_joined (waits_are i) (tree_waits_are r)

  no_true : {A : Type 0} → false ≡ true → A
  no_true e = cc

  same_gets : {t : Typing} {i : ℕ} {u : Val} {a : Sort} → Gets t i u → at t.waits i ≡ Some a → Of c n t u a
  same_gets {t = t} {u = u} (gets e i) h = subst (Of c n t u) (same_Some _ _ (sym e ∙ h)) i

  -- the wait is found in its tree
  pub woken_good : {t : Typing} {pre post : List Task} {trees : Trees} {s : State} {w : Who} (i : ℕ) (u : Val) → Gets t i u →
      TasksAre c n t pre → TasksAre c n t post → has i (waits_of post) ≡ true → Calm c n t w [] [] [] trees s →
      Fine_step c n (woken i u pre post trees s)
  woken_good i u g ps tasks_no e q = no_true e
  woken_good {t = t} {pre = pre} {trees = trees} {s = s} i u g ps (tasks_so {x = y} {xs = xs} (sleeps {i = j} {cause = cause} {a = a} e h k
      r) rs) f q =
      cond_both (is_asleep i y.rest) (resumes y.thread u (world pre xs [] trees) s) (woken i u (y ∷ pre) xs trees s) (Fine_step c n)
      (λ is. resumes_good c n a y.thread u (record {
        store = q.store;
        fresh = q.fresh;
        clocked = q.clocked;
        ups = ups_no;
        tasked = record { pre_are = ps; post_are = rs; before_are = q.tasked.before_are; behind_are = q.tasked.behind_are };
      }) r (same_gets g (subst (λ j. at t.waits j ≡ Some a) (sym (eqn_is i j (subst (λ z. is_asleep i z ≡ true) e is))) h))) (λ not.
      woken_good i u g (tasks_so (sleeps e h k r) ps) rs (later (eqn i j) (subst (λ z. is_asleep i z ≡ false) e not) (subst (λ z. has i
      (waits_with z (waits_of xs)) ≡ true) e f)) q)
    where
      later : (b : Bool) → b ≡ false → cond b true (has i (waits_of xs)) ≡ true → has i (waits_of xs) ≡ true
      later true e f = no_true (sym e)
      later false e f = f
  woken_good {pre = pre} {trees = trees} {s = s} i u g ps (tasks_so {x = y} {xs = xs} (groups e a b r) rs) f q =
      cond_both (is_asleep i y.rest) (resumes y.thread u (world pre xs [] trees) s) (woken i u (y ∷ pre) xs trees s) (Fine_step c n)
      (λ is. no_true (subst (λ z. is_asleep i z ≡ true) e is)) (λ not. woken_good i u g (tasks_so (groups e a b r) ps) rs (subst (λ z. has i
      (waits_with z (waits_of xs)) ≡ true) e f) q)

  has_later : (i : ℕ) (xs ys : List Wait) → has i xs ≡ false → has i (xs ++ ys) ≡ true → has i ys ≡ true
  has_later i [] ys e f = f
  has_later i (w ∷ xs) ys e f = go (eqn i w.number) e f (has_later i xs ys)
    where
      go : (b : Bool) → cond b true (has i xs) ≡ false → cond b true (has i (xs ++ ys)) ≡ true →
          (has i xs ≡ false → has i (xs ++ ys) ≡ true → has i ys ≡ true) → has i ys ≡ true
      go true e f h = no_true (sym e)
      go false e f h = h e f

  -- a turn's wait is woken
  pub woken_in_good : {t : Typing} (s : State) (i : ℕ) (u : Val) (before behind : List (List Task)) → Gets t i u → TreesAre c n t before →
      TreesAre c n t behind → has i (tree_waits behind) ≡ true → StoreIs c n t s.memory.store → Fresh c n (World_is c n) t s.clock.left →
      Clocked c n t s.clock.results s.clock.signals s.clock.next → Fine_step c n (woken_in i u before behind s)
  woken_in_good s i u before [] g bs rs e z f k = no_true e
  woken_in_good s i u before (ts ∷ behind) g bs (trees_so j rs) e z f k =
      cond_both (has i (waits_of ts)) (woken i u [] ts (record { before = before; behind = behind }) s) (woken_in i u (before ++ ts ∷
      []) behind s) (Fine_step c n) (λ is. woken_good i u g tasks_no j is (record {
        store = z;
        fresh = f;
        clocked = k;
        ups = ups_no {w = nobody};
        tasked = record { pre_are = tasks_no; post_are = tasks_no; before_are = bs; behind_are = rs };
      })) (λ not. woken_in_good s i u (before ++ ts ∷ []) behind g (trees_joined c n bs (trees_so j trees_no)) rs (has_later i (waits_of ts)
      (tree_waits behind) not e) z f k)
    where
      nobody : Who
      nobody = record { path = []; up = []; number = 0; role = root None }
