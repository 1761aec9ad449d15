-- The forest, turns, and whole runs.
use Rattle.std.proofs.Common.{◌≡◌, ℕ, zero, suc, ◌≤◌, List, [], ◌∷◌, ◌++◌, Option, Some, None, Bool, true, false, cond, refl, sym, ap, ◌∙◌}
use Rattle.std.proofs.Common.{subst, arith, append-nil}
use Rattle.std.specs.Prelude.{nat_lt, ◌+◌}
use Rattle.verse_value.specs.Val.{Val}
use Rattle.verse_value.specs.declared.runs.Ending.{Ending}
use Rattle.verse_value.specs.declared.runs.Ending.TheVariants as ending
use Rattle.verse_meaning_state.specs.State.{State, at_moment, stepped, spending}
use Rattle.verse_meaning_state.specs.Waits.{Wait, Due, least, has}
use Rattle.verse_meaning_state.specs.Turns.{Stage, going, closed, amiss, turns, turn, turn_at}
use Rattle.verse_code_machine.specs.Tasks.{Task, Trees, Step, Next, Over, Turn, root_named, waits_of, tree_waits}
use Rattle.verse_code_machine.specs.Ends.{woken, woken_in}
use Rattle.verse_code_machine.specs.Runs.{carried, turn_taken, room, stage_of, step}
use Rattle.verse_code_machine.specs.Laws.{IsWhole}
use Rattle.verse_meaning.specs.Residuals.{Scope, none, scope_leaves}
use Rattle.verse_meaning.specs.Outcomes.{world as scene, Halt, fault, out, jammed, wrong, TaskOutcome, ends, lost, stops, sleeps}
use Rattle.verse_meaning.specs.Evaluating.{on_bool}
use Rattle.verse_meaning.specs.Resuming.{resume_scope}
use Rattle.verse_meaning.specs.Runs.{deeper, Forest, forest_leaves, ended_by, came}
use Rattle.verse_meaning.specs.Runs.{turn_taken as taken_p, woken as woken_p}
use Rattle.lower_simulation.proofs.Paths.{onto_onto}
use Rattle.lower_simulation.proofs.Claims.{Setting, Goal, Agree, Ends, around, GoesHalt, Tasks}
use Rattle.lower_simulation.specs.Seen.{seen_of, between, ended, broke_off}
use Rattle.lower_simulation.proofs.Claims.{Stretch, Planted, not_planted, one_planted, GoesTask, ParkedS}
use Rattle.lower_simulation.proofs.Steps.{over}
use Rattle.lower_simulation.proofs.Going.{trans, le_self, planted_steps, stretch_map, lower_s}

-- a tree of tasks that is asleep, and what is left of it; one that has ended is empty on both sides
pub record Live (z : Setting) (j m : ℕ) (s : Scope) (ts : List Task) : Type 0 where
  pub number : ℕ
  pub entry : Option ℕ
  pub most : ℕ
  pub bound : m ≤ most
  pub stretch : Stretch (ParkedS z j) z most number s (root_named number entry) ts

abbrev pub Asleep : Setting → ℕ → ℕ → Option Scope → List Task → Type 0
Asleep z j m None ts = ts ≡ []
Asleep z j m (Some s) ts = Live z j m s ts

abbrev pub Trees_stand : Setting → ℕ → ℕ → Tasks → List (List Task) → Type 0
Trees_stand z j m [] [] = Unit {0}
Trees_stand z j m [] (t ∷ ts) = ⊥
Trees_stand z j m (x ∷ xs) [] = ⊥
Trees_stand z j m (x ∷ xs) (t ∷ ts) = Asleep z j m x t × Trees_stand z j m xs ts

module _ (z : Setting) where
  tree_fewer : (j m n : ℕ) (x : Option Scope) (t : List Task) → n ≤ m → Asleep z j m x t → Asleep z j n x t
  tree_fewer j m n None t le h = h
  tree_fewer j m n (Some s) t le h = record {
    number = h.number;
    entry = h.entry;
    most = h.most;
    bound = trans le h.bound;
    stretch = h.stretch;
  }

  fewer : (j m n : ℕ) (xs : Tasks) (ts : List (List Task)) → n ≤ m → Trees_stand z j m xs ts → Trees_stand z j n xs ts
  fewer j m n [] [] le h = h
  fewer j m n [] (t ∷ ts) le h = h
  fewer j m n (x ∷ xs) [] le h = h
  fewer j m n (x ∷ xs) (t ∷ ts) le h = (tree_fewer j m n x t le h.0, fewer j m n xs ts le h.1)

  tree_lower : (j m : ℕ) (x : Option Scope) (t : List Task) → Asleep z (suc j) m x t → Asleep z j m x t
  tree_lower j m None t h = h
  tree_lower j m (Some s) t h = record {
    number = h.number;
    entry = h.entry;
    most = h.most;
    bound = h.bound;
    stretch = stretch_map (ParkedS z (suc j)) (ParkedS z j) z h.most h.number s (root_named h.number h.entry) t
        (lower_s z j h.most h.number s (root_named h.number h.entry) t) h.stretch;
  }

  lowered : (j m : ℕ) (xs : Tasks) (ts : List (List Task)) → Trees_stand z (suc j) m xs ts → Trees_stand z j m xs ts
  lowered j m [] [] h = h
  lowered j m [] (t ∷ ts) h = h
  lowered j m (x ∷ xs) [] h = h
  lowered j m (x ∷ xs) (t ∷ ts) h = (tree_lower j m x t h.0, lowered j m xs ts h.1)

  both_stand : (j m : ℕ) (xs ys : Tasks) (ts us : List (List Task)) → Trees_stand z j m xs ts → Trees_stand z j m ys us →
      Trees_stand z j m (xs ++ ys) (ts ++ us)
  both_stand j m [] ys [] us h k = k
  both_stand j m [] ys (t ∷ ts) us h k = absurd h
  both_stand j m (x ∷ xs) ys [] us h k = absurd h
  both_stand j m (x ∷ xs) ys (t ∷ ts) us h k = (h.0, both_stand j m xs ys ts us h.1 k)

  tree_waits_of : (j m : ℕ) (x : Option Scope) (t : List Task) (ws : List Wait) (xs : Tasks) → Asleep z j m x t → ws ≡ forest_leaves xs →
      waits_of t ++ ws ≡ forest_leaves (x ∷ xs)
  tree_waits_of j m None t ws xs h e = ap (λ y. waits_of y ++ ws) h ∙ e
  tree_waits_of j m (Some s) t ws xs h e = let st = h.stretch in let kp = st.keeps in ap (λ y. y ++ ws) kp.waits ∙
      ap (λ y. scope_leaves s ++ y) e

  forest_waits : (j m : ℕ) (xs : Tasks) (ts : List (List Task)) → Trees_stand z j m xs ts → tree_waits ts ≡ forest_leaves xs
  forest_waits j m [] [] h = refl
  forest_waits j m [] (t ∷ ts) h = absurd h
  forest_waits j m (x ∷ xs) [] h = absurd h
  forest_waits j m (x ∷ xs) (t ∷ ts) h = tree_waits_of j m x t (tree_waits ts) xs h.0 (forest_waits j m xs ts h.1)

  -- new trees stand behind all others
  planted_stand : (j n' : ℕ) (rs' : Trees) (f' : Tasks) {n : ℕ} {rs : Trees} {f : Tasks} →
      Planted (Unit {0}) (ParkedS z j) z n' rs' f' n rs f → Trees_stand z j n f rs.behind →
      (rs'.before ≡ rs.before) × Trees_stand z j n' f' rs'.behind
  planted_stand j n' rs' f' (not_planted {n = n} le) h = (refl, fewer j n n' f' rs'.behind le h)
  planted_stand j n' rs' f' (one_planted {n = n} {m} {rs} {f} k e s ts y le st p) h =
      planted_stand j n' rs' f' p (both_stand j m f (Some s ∷ []) rs.behind (ts ∷ []) (fewer j n m f rs.behind le h)
      (record { number = k; entry = e; most = m; bound = le_self; stretch = st }, tt))

  abbrev pub take_m : State → List (List Task) → Stage (List (List Task))
  take_m s tss = turn_taken z.code z.steps z.until s tss

  abbrev pub take_p : State → Forest → Stage Forest
  take_p s fs = taken_p z.program z.until s fs

  abbrev goal_of : ℕ → Stage Forest → Goal
  goal_of j g = record { turns = j; seen = seen_of forest_leaves (turns take_p j g) }

  -- the trees between two turns come to the same in j turns more
  abbrev pub Runs : ℕ → Type 0
  Runs j = (s : State) (xs : Tasks) (ts : List (List Task)) → Trees_stand z j s.clock.left xs ts →
      ((i : ℕ) → IsWhole (turns take_m i (going s ts))) → seen_of tree_waits (turns take_m j (going s ts)) ≡
      seen_of forest_leaves (turns take_p j (going s xs))

  off_seen : (j : ℕ) (h : Halt) → GoesHalt (goal_of j (ended_by h)) h
  off_seen zero (fault k pl s) = refl
  off_seen zero (out s) = refl
  off_seen zero (jammed s) = refl
  off_seen zero (wrong s) = refl
  off_seen (suc j) (fault k pl s) = refl
  off_seen (suc j) (out s) = refl
  off_seen (suc j) (jammed s) = refl
  off_seen (suc j) (wrong s) = refl

  amiss_seen : (j : ℕ) (s : State) → broke_off ending.Stuck s ≡ seen_of forest_leaves (turns take_p j (amiss s))
  amiss_seen zero s = refl
  amiss_seen (suc j) s = refl

  -- a tree of the forest has come to x
  pub came_goes : (j : ℕ) → Runs j → (n k : ℕ) (e : Option ℕ) (before f : Tasks) (rs : Trees) → Trees_stand z j n before rs.before →
      Trees_stand z j n f rs.behind → (x : TaskOutcome) →
      GoesTask (ParkedS z j) z n (root_named k e) (around [] [] rs k) none f (goal_of j (came before x)) x
  came_goes j ih n k e before f rs h1 h2 (ends v x) = λ eb m rs' pl fi.
      let y = planted_stand j m rs' x.tasks pl h2 in
      over _ (λ whole. ih x.state (before ++ None ∷ x.tasks) (rs'.before ++ [] ∷ rs'.behind)
      (both_stand j x.state.clock.left before (None ∷ x.tasks) rs'.before ([] ∷ rs'.behind)
      (subst (λ u. Trees_stand z j x.state.clock.left before u) (sym y.0)
      (fewer j n x.state.clock.left before rs.before (trans fi.steps (planted_steps (Unit {0}) (ParkedS z j) z m rs' x.tasks pl)) h1))
      (refl, fewer j m x.state.clock.left x.tasks rs'.behind fi.steps y.1)) whole)
  came_goes j ih n k e before f rs h1 h2 (lost s) = amiss_seen j s
  came_goes j ih n k e before f rs h1 h2 (stops h) = off_seen j h
  came_goes j ih n k e before f rs h1 h2 (sleeps s x) = λ eb y0 m rs' pl fi ts st.
      let y = planted_stand j m rs' x.tasks pl h2 in
      subst (λ u. Ends z (Turn x.state (rs'.before ++ u ∷ rs'.behind)) (goal_of j (came before (sleeps s x))))
      (sym (onto_onto ts [] [] ∙ append-nil ts))
      (over _ (λ whole. ih x.state (before ++ Some s ∷ x.tasks) (rs'.before ++ ts ∷ rs'.behind)
      (both_stand j x.state.clock.left before (Some s ∷ x.tasks) rs'.before (ts ∷ rs'.behind)
      (subst (λ u. Trees_stand z j x.state.clock.left before u) (sym y.0)
      (fewer j n x.state.clock.left before rs.before (trans fi.steps (planted_steps (Unit {0}) (ParkedS z j) z m rs' x.tasks pl)) h1)) (
        record { number = k; entry = e; most = x.state.clock.left; bound = le_self; stretch = st },
        fewer j m x.state.clock.left x.tasks rs'.behind fi.steps y.1,
      )) whole))

  found : (j : ℕ) → Runs j → (n : ℕ) (v : Val) (s : State) (before xs : Tasks) (ts us : List (List Task)) →
      Trees_stand z j s.clock.left before ts → Trees_stand z (suc j) s.clock.left xs us →
      Ends z (woken_in n v ts us s) (goal_of j (woken_p z.program n v before xs s))
  found j ih n v s before [] ts [] h1 h2 = over _ (amiss_seen j s)
  found j ih n v s before [] ts (t ∷ us) h1 h2 = absurd h2
  found j ih n v s before (x ∷ xs) ts [] h1 h2 = absurd h2
  found j ih n v s before (None ∷ xs) ts (t ∷ us) h1 h2 =
      subst (λ u. Ends z (cond (has n (waits_of u)) (woken n v [] u (record { before = ts; behind = us }) s)
      (woken_in n v (ts ++ u ∷ []) us s)) (goal_of j (woken_p z.program n v (before ++ None ∷ []) xs s))) (sym h2.0)
      (found j ih n v s (before ++ None ∷ []) xs (ts ++ [] ∷ []) us
      (both_stand j s.clock.left before (None ∷ []) ts ([] ∷ []) h1 (refl, tt)) h2.1)
  found j ih n v s before (Some x ∷ xs) ts (t ∷ us) h1 h2 =
      let lv = h2.0 in let st = lv.stretch in let kp = st.keeps in
      subst (λ u. Ends z (cond (has n u) (woken n v [] t (record { before = ts; behind = us }) s) (woken_in n v (ts ++ t ∷ []) us s))
      (goal_of j (on_bool (has n (scope_leaves x)) (λ u. came before
      (resume_scope z.program (deeper z.program s.clock.left) x n v (scene s none xs)))
      (λ u. woken_p z.program n v (before ++ Some x ∷ []) xs s)))) (sym kp.waits)
      (by (has n (scope_leaves x)) refl (found j ih n v s (before ++ Some x ∷ []) xs (ts ++ t ∷ []) us
      (both_stand j s.clock.left before (Some x ∷ []) ts (t ∷ []) h1 (tree_lower j s.clock.left (Some x) t h2.0, tt)) h2.1))
    where
      by : (y : Bool) → has n (scope_leaves x) ≡ y → Ends z (woken_in n v (ts ++ t ∷ []) us s)
          (goal_of j (woken_p z.program n v (before ++ Some x ∷ []) xs s)) →
          Ends z (cond y (woken n v [] t (record { before = ts; behind = us }) s) (woken_in n v (ts ++ t ∷ []) us s))
          (goal_of j (on_bool y (λ u. came before (resume_scope z.program (deeper z.program s.clock.left) x n v (scene s none xs)))
          (λ u. woken_p z.program n v (before ++ Some x ∷ []) xs s)))
      by true e next = let lv = h2.0 in let st = lv.stretch in
          subst (λ u. Ends z (woken n v [] u (record { before = ts; behind = us }) s)
          (goal_of j (came before (resume_scope z.program (deeper z.program s.clock.left) x n v (scene s none xs))))) (append-nil t)
          (st.stands n v s e lv.bound [] [] (record { before = ts; behind = us }) none xs
          (record { pre = tt; post = tt }) s.clock.left le_self _
          (came_goes j ih s.clock.left lv.number lv.entry before xs (record { before = ts; behind = us }) h1
          (lowered j s.clock.left xs us h2.1) (resume_scope z.program (deeper z.program s.clock.left) x n v (scene s none xs))))
      by false e next = next

  -- a turn that is over stays over with more operations
  longer : (i j : ℕ) (q : Step) (g : Goal) → i ≤ j → Agree z g (carried z.code i q) → carried z.code j q ≡ carried z.code i q
  longer zero zero q g le h = refl
  longer zero (suc j) (Next m) g le h = absurd h
  longer zero (suc j) (Over e s) g le h = refl
  longer zero (suc j) (Turn s tss) g le h = refl
  longer (suc i) zero q g le h = absurd (omega (arith, le))
  longer (suc i) (suc j) (Next m) g le h = longer i j (step z.code m) g (omega (arith, le)) h
  longer (suc i) (suc j) (Over e s) g le h = refl
  longer (suc i) (suc j) (Turn s tss) g le h = refl

  settles : (i j : ℕ) (q : Step) → i ≤ j → IsWhole (stage_of (carried z.code i q)) → carried z.code j q ≡ carried z.code i q
  settles zero zero q le h = refl
  settles zero (suc j) (Next m) le h = absurd h
  settles zero (suc j) (Over e s) le h = refl
  settles zero (suc j) (Turn s tss) le h = refl
  settles (suc i) zero q le h = absurd (omega (arith, le))
  settles (suc i) (suc j) (Next m) le h = settles i j (step z.code m) (omega (arith, le)) h
  settles (suc i) (suc j) (Over e s) le h = refl
  settles (suc i) (suc j) (Turn s tss) le h = refl

  last_seen : (j : ℕ) (g : Stage Forest) (q : Step) → Agree z (goal_of j g) q → ((i : ℕ) → IsWhole (turns take_m i (stage_of q))) →
      seen_of tree_waits (turns take_m j (stage_of q)) ≡ seen_of forest_leaves (turns take_p j g)
  last_seen j g (Next m) h w = absurd h
  last_seen zero g (Over e s) h w = h
  last_seen (suc j) g (Over e s) h w = h
  last_seen j g (Turn s tss) h w = h w

  -- at the end of a turn
  pub ended_turn : (j : ℕ) (g : Stage Forest) (q : Step) → Ends z q (goal_of j g) →
      ((i : ℕ) → IsWhole (turns take_m i (stage_of (carried z.code (room z.code z.steps) q)))) →
      seen_of tree_waits (turns take_m j (stage_of (carried z.code (room z.code z.steps) q))) ≡ seen_of forest_leaves (turns take_p j g)
  ended_turn j g q e w =
      let k : ℕ = room z.code z.steps in
      let same : carried z.code k q ≡ carried z.code e.fuel q = sym (settles k (k + e.fuel) q (omega arith) (w 0)) ∙
      longer e.fuel (k + e.fuel) q (goal_of j g) (omega arith) e.good in
      subst (λ u. seen_of tree_waits (turns take_m j (stage_of u)) ≡ seen_of forest_leaves (turns take_p j g)) (sym same)
      (last_seen j g (carried z.code e.fuel q) e.good (subst (λ u. (i : ℕ) → IsWhole (turns take_m i (stage_of u))) same w))

  -- both take their turn by one function over equal waits
  module _ (j : ℕ) (s : State) (xs : Tasks) (ts : List (List Task)) (e : tree_waits ts ≡ forest_leaves xs)
      (go_m : Due → State → Stage (List (List Task))) (go_p : Due → State → Stage Forest)
      (both : (d : Due) (u : State) → u.clock.left ≤ s.clock.left → ((i : ℕ) → IsWhole (turns take_m i (go_m d u))) →
      seen_of tree_waits (turns take_m j (go_m d u)) ≡ seen_of forest_leaves (turns take_p j (go_p d u))) where
    closed_same : (x : Ending) (i : ℕ) → seen_of tree_waits (turns take_m i (closed x s ts)) ≡
        seen_of forest_leaves (turns take_p i (closed x s xs))
    closed_same x zero = ap (ended x s) e
    closed_same x (suc i) = ap (ended x s) e

    spent_same : (d : Due) (left : ℕ) → left ≡ s.clock.left →
        ((i : ℕ) → IsWhole (turns take_m i (spending left s (closed ending.Steps s ts) (λ s. go_m d (at_moment d.given.moment s))))) →
        seen_of tree_waits (turns take_m j (spending left s (closed ending.Steps s ts) (λ s. go_m d (at_moment d.given.moment s)))) ≡
        seen_of forest_leaves (turns take_p j (spending left s (closed ending.Steps s xs) (λ s. go_p d (at_moment d.given.moment s))))
    spent_same d zero l w = closed_same ending.Steps j
    spent_same d (suc k) l w = both d (at_moment d.given.moment (stepped k s)) (omega (arith, l)) w

    due_same : (d : Option Due) → ((i : ℕ) → IsWhole (turns take_m i (turn_at z.until d s ts go_m))) →
        seen_of tree_waits (turns take_m j (turn_at z.until d s ts go_m)) ≡
        seen_of forest_leaves (turns take_p j (turn_at z.until d s xs go_p))
    due_same None w = closed_same ending.Waiting j
    due_same (Some d) w = late (nat_lt z.until d.given.moment) w
      where
        late : (b : Bool) → ((i : ℕ) → IsWhole (turns take_m i
            (cond b (closed ending.Until s ts) (spending s.clock.left s (closed ending.Steps s ts)
            (λ s. go_m d (at_moment d.given.moment s)))))) →
            seen_of tree_waits (turns take_m j (cond b (closed ending.Until s ts)
            (spending s.clock.left s (closed ending.Steps s ts) (λ s. go_m d (at_moment d.given.moment s))))) ≡
            seen_of forest_leaves (turns take_p j (cond b (closed ending.Until s xs)
            (spending s.clock.left s (closed ending.Steps s xs) (λ s. go_p d (at_moment d.given.moment s)))))
        late true w = closed_same ending.Until j
        late false w = spent_same d s.clock.left refl w

    turn_same : (ws : List Wait) → ((i : ℕ) → IsWhole (turns take_m i (turn z.until ws s ts go_m))) →
        seen_of tree_waits (turns take_m j (turn z.until ws s ts go_m)) ≡
        seen_of forest_leaves (turns take_p j (turn z.until ws s xs go_p))
    turn_same [] w = closed_same ending.Done j
    turn_same (x ∷ ws) w = due_same (least s (x ∷ ws)) w

  pub all_runs : (j : ℕ) → Runs j
  all_runs zero s xs ts h w = ap (between s) (forest_waits zero s.clock.left xs ts h)
  all_runs (suc j) s xs ts h w =
      let e = forest_waits (suc j) s.clock.left xs ts h in
      subst (λ ws. seen_of tree_waits (turns take_m j (take_m s ts)) ≡ seen_of forest_leaves
      (turns take_p j (turn z.until ws s xs (λ due s. woken_p z.program due.number due.given.value [] xs s)))) e
      (turn_same j s xs ts e (λ due s. stage_of (carried z.code (room z.code z.steps) (woken_in due.number due.given.value [] ts s)))
      (λ due s. woken_p z.program due.number due.given.value [] xs s)
      (λ d u le w. ended_turn j (woken_p z.program d.number d.given.value [] xs u) (woken_in d.number d.given.value [] ts u)
      (found j (all_runs j) d.number d.given.value u [] xs [] ts tt (fewer (suc j) s.clock.left u.clock.left xs ts le h)) w)
      (tree_waits ts) (λ i. w (suc i)))
