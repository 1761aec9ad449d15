-- Groups of arms: what follows where they begin, where one is woken or ends.
use Rattle.std.proofs.Common.{◌≡◌, ℕ, zero, suc, ◌≤◌, ◌<◌, List, [], ◌∷◌, ◌++◌, Option, Some, None, Bool, true, false, cond, refl, sym, ap}
use Rattle.std.proofs.Common.{◌∙◌, subst, arith, append_assoc, append-nil}
use Rattle.verse_base.specs.declared.places.Place.{Place}
use Rattle.verse_value.specs.Operations.{tuple_of}
use Rattle.verse_value.specs.Answer.{Answer, gives, fails, error, stuck}
use Rattle.verse_meaning_state.specs.Turns.{Kind, sync, race, rush}
use Rattle.verse_meaning_state.specs.Effects.{still}
use Rattle.verse_code_machine.specs.Frames.{behind}
use Rattle.verse_meaning.specs.Residuals as r
use Rattle.verse_meaning.specs.Residuals.{Arms, no_arms, gave, arms, arms_leaves}
use Rattle.verse_tree.specs.Tree.{Bytes, Tree}
use Rattle.verse_value.specs.Val.{Val}
use Rattle.verse_value.specs.declared.runs.Ending.TheVariants as ending
use Rattle.verse_code.specs.declared.operations.Op.TheVariants as oper
use Rattle.verse_meaning_state.specs.State.{State, stepped, spending}
use Rattle.verse_meaning_state.specs.Waits.{has}
use Rattle.verse_code_machine.specs.Tasks.{world, group, Part, did, runs, begins, beneath_arms, Who, Thread, thread, Task, After, resuming}
use Rattle.verse_code_machine.specs.Tasks.{Up, Trees, World, Step, Over, Turn, child_named, onto, among, waits_of, starts}
use Rattle.verse_code_machine.specs.Frames.{free}
use Rattle.verse_code_machine.specs.Cancelling.{cancels, clears, without, gone_behind}
use Rattle.verse_code_machine.specs.Ends.{rested, climbs, woken, follows, resumes, joined, is_run, with_did, all_did, first_did, grouped}
use Rattle.verse_code_machine.specs.Ends.{or_stands, tupled, next_arm, arm_did}
use Rattle.verse_meaning.specs.Residuals.{Env, Role, part, body, root, Residual, called, Scope, scope, Scopes, none, also, and_then}
use Rattle.verse_meaning.specs.Residuals.{leaves, scope_leaves, behind_leaves, is_behind}
use Rattle.verse_meaning.specs.Outcomes.{World as Scene, world as scene, spends, with_state, leave, all_gave, one_more, first_gave}
use Rattle.verse_meaning.specs.Outcomes.{leave_all, with_arm, told, ArmsOutcome, stand, stops_arms, arm_came, arm_before, arms_came, armed}
use Rattle.verse_meaning.specs.Outcomes.{Outcome, value, rests, TaskOutcome, ends, lost, stops, sleeps, on_went}
use Rattle.verse_meaning.specs.Evaluating.{cancel_arms, settled, or_stands as or_rests, arm_gave, begins_scope, started, ev, scope_end}
use Rattle.verse_meaning.specs.Evaluating.{on_bool}
use Rattle.verse_meaning.specs.Resuming.{resume_scope, resume_arms}
use Rattle.verse_meaning.specs.Runs.{deeper}
use Rattle.lower_simulation.proofs.Paths.{Each, NotOver, each_map, each_both, each_onto, each_ordered, ordered, ordered_apart, onto_onto}
use Rattle.lower_simulation.proofs.Paths.{onto_both, starts_longer, starts_parent, starts_self}
use Rattle.lower_simulation.proofs.Paths.{waits_both, without_onto, without_none, gone_onto, gone_none, gone_none_behind}
use Rattle.lower_simulation.proofs.Claims.{on, Agrees, Setting, Goal, Ends, Here, Ctx, Around, world_of, around, at, in_frame, frame_of}
use Rattle.lower_simulation.proofs.Claims.{Clear, Young, Beneath, Beside, Strict, Apart, Fine, Keeps, GoesHalt, Clears, Stopped, kids_of}
use Rattle.lower_simulation.proofs.Claims.{own_of, all_of_scope, Tasks, ScopeStands, Stretch, Grown, same_around, left_around, Planted}
use Rattle.lower_simulation.proofs.Claims.{GoesTask, ParkedR, ParkedS, Goes, slots}
use Rattle.lower_simulation.proofs.Steps.{over}
use Rattle.lower_simulation.proofs.Going.{trans, weak, sooner, le_self, fresh, gone_map, gone_goes, shifted, clears_none, clears_both}
use Rattle.lower_simulation.proofs.Going.{clears_map, clears_less, grown_less, planted_steps, planted_grown, stretch_map, Weaker, lower_s}
use Rattle.lower_simulation.proofs.Going.{stretch_less}
use Rattle.lower_simulation_tasks.proofs.Besides.{clear_child, clear_other, clear_earlier, young_up, clear_parent, strict_up, clear_less}
use Rattle.lower_simulation_tasks.proofs.Besides.{woken_over, climbs_over, has_second, left_apart, free_fails}
use Rattle.verse_tree.specs.Tree as tree
use Rattle.verse_meaning_state.proofs.Numbers.{eqn_same, eqn_less, eqn_more}
use Rattle.verse_meaning.proofs.Following.{left_state}
use Rattle.verse_code_machine.specs.Acts.{groups}
use Rattle.verse_code_machine.proofs.Paths.{same_self}
use Rattle.lower_simulation_tasks.proofs.Roles.{part_goes}
use Rattle.lower_simulation_tasks.proofs.Scopes.{beside_acc}

-- Arms on both sides: an arm has given a value, or it is the task of a number with all that it encloses. The numbers fall, from below hi
-- down to lo.
pub data Legs (P : ScopeStands) (z : Setting) (a : Who) (lo m : ℕ) : ℕ → Arms → List Part → List Task → Type 0 where
  no_leg : {hi : ℕ} → lo ≤ hi → Legs P z a lo m hi no_arms [] []
  gave_leg : {hi : ℕ} {gs : Arms} {ps : List Part} {ts : List Task} (v : Val) → Legs P z a lo m hi gs ps ts →
      Legs P z a lo m hi (gave v gs) (did v ∷ ps) ts
  runs_leg : {hi : ℕ} {gs : Arms} {ps : List Part} {us xs : List Task} (k n : ℕ) (s : Scope) (ts : List Task) → xs ≡ ts ++ us → k < hi →
      m ≤ n → Stretch P z n k s (child_named a k) ts → Legs P z a lo m k gs ps us → Legs P z a lo m hi (r.runs s gs) (runs k ∷ ps) xs

pub legs_as : (P Q : ScopeStands) (z : Setting) → Weaker P Q → (a : Who) (lo m m' hi' : ℕ) → m' ≤ m →
    {hi : ℕ} {gs : Arms} {ps : List Part} {ts : List Task} → hi ≤ hi' → Legs P z a lo m hi gs ps ts → Legs Q z a lo m' hi' gs ps ts
legs_as P Q z f a lo m m' hi' lm lh (no_leg le) = no_leg (trans le lh)
legs_as P Q z f a lo m m' hi' lm lh (gave_leg v lg) = gave_leg v (legs_as P Q z f a lo m m' hi' lm lh lg)
legs_as P Q z f a lo m m' hi' lm lh (runs_leg k n s ts e lk ln h lg) = runs_leg k n s ts e (sooner lk lh) (trans lm ln)
    (stretch_map P Q z n k s (child_named a k) ts (f n k s (child_named a k) ts) h) (legs_as P Q z f a lo m m' k lm le_self lg)

pub legs_low : (P : ScopeStands) (z : Setting) (a : Who) (lo m : ℕ) {hi : ℕ} {gs : Arms} {ps : List Part} {ts : List Task} →
    Legs P z a lo m hi gs ps ts → lo ≤ hi
legs_low P z a lo m (no_leg le) = le
legs_low P z a lo m (gave_leg v lg) = legs_low P z a lo m lg
legs_low P z a lo m (runs_leg k n s ts e lk ln h lg) = trans (legs_low P z a lo m lg) (weak lk)

-- one arm more, behind the others
pub legs_gave : (P : ScopeStands) (z : Setting) (a : Who) (lo m : ℕ) (v : Val) {hi : ℕ} {gs : Arms} {ps : List Part} {ts : List Task} →
    Legs P z a lo m hi gs ps ts → Legs P z a lo m hi (with_arm gs (gave v no_arms)) (ps ++ did v ∷ []) ts
legs_gave P z a lo m v (no_leg le) = gave_leg v (no_leg le)
legs_gave P z a lo m v (gave_leg x lg) = gave_leg x (legs_gave P z a lo m v lg)
legs_gave P z a lo m v (runs_leg k n s ts e lk ln h lg) = runs_leg k n s ts e lk ln h (legs_gave P z a lo m v lg)

pub legs_runs : (P : ScopeStands) (z : Setting) (a : Who) (lo m i n : ℕ) (x : Scope) (tk : List Task) → i < lo → m ≤ n →
    Stretch P z n i x (child_named a i) tk → {hi : ℕ} {gs : Arms} {ps : List Part} {ts : List Task} → Legs P z a lo m hi gs ps ts →
    Legs P z a i m hi (with_arm gs (r.runs x no_arms)) (ps ++ runs i ∷ []) (ts ++ tk)
legs_runs P z a lo m i n x tk li ln h (no_leg le) = runs_leg i n x tk (sym (append-nil tk)) (sooner li le) ln h (no_leg le_self)
legs_runs P z a lo m i n x tk li ln h (gave_leg v lg) = gave_leg v (legs_runs P z a lo m i n x tk li ln h lg)
legs_runs P z a lo m i n x tk li ln h (runs_leg {us = us} k n' s ts e lk ln' h' lg) = runs_leg k n' s ts
    (ap (λ y. y ++ tk) e ∙ append_assoc ts us tk) lk ln' h' (legs_runs P z a lo m i n x tk li ln h lg)

-- with a claim that is lower
pub legs_down : (P : ScopeStands) (z : Setting) (a : Who) (lo lo' m : ℕ) → lo' ≤ lo →
    {hi : ℕ} {gs : Arms} {ps : List Part} {ts : List Task} → Legs P z a lo m hi gs ps ts → Legs P z a lo' m hi gs ps ts
legs_down P z a lo lo' m ll (no_leg le) = no_leg (trans ll le)
legs_down P z a lo lo' m ll (gave_leg v lg) = gave_leg v (legs_down P z a lo lo' m ll lg)
legs_down P z a lo lo' m ll (runs_leg k n s ts e lk ln h lg) = runs_leg k n s ts e lk ln h (legs_down P z a lo lo' m ll lg)

of_behind : (v : Val) (x : Option (List Val)) → one_more v x ≡ behind v x
of_behind v None = refl
of_behind v (Some vs) = refl

pub same_values : (P : ScopeStands) (z : Setting) (a : Who) (lo m : ℕ) {hi : ℕ} {gs : Arms} {ps : List Part} {ts : List Task} →
    Legs P z a lo m hi gs ps ts → all_gave gs ≡ all_did ps
same_values P z a lo m (no_leg le) = refl
same_values P z a lo m (gave_leg {gs = gs} v lg) = ap (one_more v) (same_values P z a lo m lg) ∙ of_behind v _
same_values P z a lo m (runs_leg k n s ts e lk ln h lg) = refl

pub same_value : (P : ScopeStands) (z : Setting) (a : Who) (lo m : ℕ) {hi : ℕ} {gs : Arms} {ps : List Part} {ts : List Task} →
    Legs P z a lo m hi gs ps ts → first_gave gs ≡ first_did ps
same_value P z a lo m (no_leg le) = refl
same_value P z a lo m (gave_leg v lg) = refl
same_value P z a lo m (runs_leg k n s ts e lk ln h lg) = same_value P z a lo m lg

more_behind : (v : Val) (x : Option (List Val)) (vs : List Val) {A : Type 0} → behind v x ≡ Some vs →
    ((us : List Val) → x ≡ Some us → A) → A
more_behind v None vs e f = cc
more_behind v (Some us) vs e f = f us refl

no_tasks : (P : ScopeStands) (z : Setting) (a : Who) (lo m : ℕ) (vs : List Val) {hi : ℕ} {gs : Arms} {ps : List Part} {ts : List Task} →
    Legs P z a lo m hi gs ps ts → all_did ps ≡ Some vs → ts ≡ []
no_tasks P z a lo m vs (no_leg le) e = refl
no_tasks P z a lo m vs (gave_leg {ps = ps} v lg) e = more_behind v (all_did ps) vs e (λ us e. no_tasks P z a lo m us lg e)
no_tasks P z a lo m vs (runs_leg k n s ts e' lk ln h lg) e = cc

pub legs_waits : (P : ScopeStands) (z : Setting) (a : Who) (lo m : ℕ) {hi : ℕ} {gs : Arms} {ps : List Part} {ts : List Task} →
    Legs P z a lo m hi gs ps ts → waits_of ts ≡ arms_leaves gs
legs_waits P z a lo m (no_leg le) = refl
legs_waits P z a lo m (gave_leg v lg) = legs_waits P z a lo m lg
legs_waits P z a lo m (runs_leg {us = us} k n s ts e lk ln h lg) = let kp = h.keeps in ap waits_of e ∙ waits_both ts us ∙
    ap (λ y. y ++ waits_of us) kp.waits ∙ ap (λ y. scope_leaves s ++ y) (legs_waits P z a lo m lg)

pub legs_strict : (P : ScopeStands) (z : Setting) (a : Who) (lo m : ℕ) {hi : ℕ} {gs : Arms} {ps : List Part} {ts : List Task} →
    Legs P z a lo m hi gs ps ts → Each (Strict a.path) ts
legs_strict P z a lo m (no_leg le) = tt
legs_strict P z a lo m (gave_leg v lg) = legs_strict P z a lo m lg
legs_strict P z a lo m (runs_leg {us = us} k n s ts e lk ln h lg) = let kp = h.keeps in
    subst (Each (Strict a.path)) (sym e) (each_both (Strict a.path) ts us (strict_up a.path k ts kp.beneath) (legs_strict P z a lo m lg))

pub legs_young : (P : ScopeStands) (z : Setting) (a : Who) (lo m q : ℕ) {hi : ℕ} {gs : Arms} {ps : List Part} {ts : List Task} → hi ≤ q →
    Legs P z a lo m hi gs ps ts → Each (Young a.path q) ts
legs_young P z a lo m q le (no_leg l) = tt
legs_young P z a lo m q le (gave_leg v lg) = legs_young P z a lo m q le lg
legs_young P z a lo m q le (runs_leg {us = us} k n s ts e lk ln h lg) = let kp = h.keeps in
    subst (Each (Young a.path q)) (sym e) (each_both (Young a.path q) ts us (young_up a.path k q ts (sooner lk le) kp.beneath)
    (legs_young P z a lo m q (trans (weak lk) le) lg))

-- not beneath a child with a smaller number, or a greater one
pub legs_above : (P : ScopeStands) (z : Setting) (a : Who) (lo m i x : ℕ) {hi : ℕ} {gs : Arms} {ps : List Part} {ts : List Task} →
    i < lo → Legs P z a lo m hi gs ps ts → Each (Clear (a.path ++ i ∷ []) x) ts
legs_above P z a lo m i x lt (no_leg le) = tt
legs_above P z a lo m i x lt (gave_leg v lg) = legs_above P z a lo m i x lt lg
legs_above P z a lo m i x lt (runs_leg {us = us} k n s ts e lk ln h lg) = let kp = h.keeps in
    subst (Each (Clear (a.path ++ i ∷ []) x)) (sym e) (each_both (Clear (a.path ++ i ∷ []) x) ts us
    (clear_earlier a.path k i x ts (sooner lt (legs_low P z a lo m lg)) kp.beneath) (legs_above P z a lo m i x lt lg))

pub legs_below : (P : ScopeStands) (z : Setting) (a : Who) (lo m i x : ℕ) {hi : ℕ} {gs : Arms} {ps : List Part} {ts : List Task} →
    hi ≤ i → Legs P z a lo m hi gs ps ts → Each (Clear (a.path ++ i ∷ []) x) ts
legs_below P z a lo m i x le (no_leg l) = tt
legs_below P z a lo m i x le (gave_leg v lg) = legs_below P z a lo m i x le lg
legs_below P z a lo m i x le (runs_leg {us = us} k n s ts e lk ln h lg) = let kp = h.keeps in
    subst (Each (Clear (a.path ++ i ∷ []) x)) (sym e) (each_both (Clear (a.path ++ i ∷ []) x) ts us
    (clear_other a.path k i x ts (sooner lk le) kp.beneath) (legs_below P z a lo m i x (trans (weak lk) le) lg))

pub legs_climb : (P : ScopeStands) (z : Setting) (a : Who) (lo m : ℕ) (i : ℕ) (v : Val) (s : State) (pre post : List Task) (rs : Trees)
    {hi : ℕ} {gs : Arms} {ps : List Part} {ts : List Task} → Legs P z a lo m hi gs ps ts → climbs a.path i v pre (ts ++ post) rs s ≡
    climbs a.path i v (onto ts pre) post rs s
legs_climb P z a lo m i v s pre post rs (no_leg le) = refl
legs_climb P z a lo m i v s pre post rs (gave_leg x lg) = legs_climb P z a lo m i v s pre post rs lg
legs_climb P z a lo m i v s pre post rs (runs_leg {us = us} k n y ts e lk ln h lg) = let kp = h.keeps in
    ap (λ u. climbs a.path i v pre (u ++ post) rs s) e ∙ ap (λ u. climbs a.path i v pre u rs s) (append_assoc ts us post) ∙
    climbs_over a.path k i v s pre ts (us ++ post) rs kp.beneath ∙ legs_climb P z a lo m i v s (onto ts pre) post rs lg
    ∙ ap (λ u. climbs a.path i v u post rs s) (sym (onto_both ts us pre)) ∙ ap (λ u. climbs a.path i v (onto u pre) post rs s) (sym e)

no_run : (P : ScopeStands) (z : Setting) (a : Who) (lo m i : ℕ) {hi : ℕ} {gs : Arms} {ps : List Part} {ts : List Task} → hi ≤ i →
    Legs P z a lo m hi gs ps ts → is_run i ps ≡ false
no_run P z a lo m i le (no_leg l) = refl
no_run P z a lo m i le (gave_leg v lg) = no_run P z a lo m i le lg
no_run P z a lo m i le (runs_leg {ps = ps} k n s ts e lk ln h lg) = subst (λ y. cond y true (is_run i ps) ≡ false)
    (sym (eqn_more i k (sooner lk le))) (no_run P z a lo m i (trans (weak lk) le) lg)

-- the parts before a place, the nearest first
abbrev pub back : List Part → List Part → List Part
back [] ps = ps
back (x ∷ xs) ps = back xs (x ∷ ps)

abbrev pub RunsFrom : ℕ → List Part → Type 0
RunsFrom k [] = Unit {0}
RunsFrom k (did v ∷ ps) = RunsFrom k ps
RunsFrom k (runs n ∷ ps) = (k ≤ n) × RunsFrom k ps

runs_from_less : (k i : ℕ) (ps : List Part) → i ≤ k → RunsFrom k ps → RunsFrom i ps
runs_from_less k i [] le h = tt
runs_from_less k i (did v ∷ ps) le h = runs_from_less k i ps le h
runs_from_less k i (runs n ∷ ps) le h = (trans le h.0, runs_from_less k i ps le h.1)

run_back : (i k : ℕ) (rp ps : List Part) → i < k → RunsFrom k rp → is_run i ps ≡ true → is_run i (back rp ps) ≡ true
run_back i k [] ps lt h e = e
run_back i k (did v ∷ rp) ps lt h e = run_back i k rp (did v ∷ ps) lt h e
run_back i k (runs n ∷ rp) ps lt h e = run_back i k rp (runs n ∷ ps) lt h.1
    (subst (λ y. cond y true (is_run i ps) ≡ true) (sym (eqn_less i n (sooner lt h.0))) e)

did_back : (i k : ℕ) (v : Val) (rp ps qs : List Part) → i < k → RunsFrom k rp → with_did i v ps ≡ qs → with_did i v (back rp ps) ≡
    back rp qs
did_back i k v [] ps qs lt h e = e
did_back i k v (did x ∷ rp) ps qs lt h e = did_back i k v rp (did x ∷ ps) (did x ∷ qs) lt h (ap (λ y. did x ∷ y) e)
did_back i k v (runs n ∷ rp) ps qs lt h e = did_back i k v rp (runs n ∷ ps) (runs n ∷ qs) lt h.1
    (subst (λ y. cond y (did v ∷ ps) (runs n ∷ with_did i v ps) ≡ runs n ∷ qs) (sym (eqn_less i n (sooner lt h.0)))
    (ap (λ y. runs n ∷ y) e))

or_true : (b p : Bool) → p ≡ true → cond b true p ≡ true
or_true true p h = refl
or_true false p h = h

or_first : (b p : Bool) → b ≡ true → cond b true p ≡ true
or_first true p h = refl
or_first false p h = cc

or_false : (b p : Bool) → b ≡ false → p ≡ false → cond b true p ≡ false
or_false true p h k = cc
or_false false p h k = k

legs_arm : (P : ScopeStands) (z : Setting) (a : Who) (lo m : ℕ) {hi : ℕ} {gs : Arms} {ps : List Part} {ts : List Task} →
    Legs P z a lo m hi gs ps ts → Each (λ t. beneath_arms a.path ps t.thread.who.path ≡ true) ts
legs_arm P z a lo m (no_leg le) = tt
legs_arm P z a lo m (gave_leg v lg) = legs_arm P z a lo m lg
legs_arm P z a lo m (runs_leg {ps = ps} {us} k n s ts e lk ln h lg) = let kp = h.keeps in
    subst (Each (λ t. cond (starts (a.path ++ k ∷ []) t.thread.who.path) true (beneath_arms a.path ps t.thread.who.path) ≡ true)) (sym e)
    (each_both (λ t. cond (starts (a.path ++ k ∷ []) t.thread.who.path) true (beneath_arms a.path ps t.thread.who.path) ≡ true) ts us
    (each_map (Beneath (a.path ++ k ∷ [])) (λ t. cond (starts (a.path ++ k ∷ []) t.thread.who.path) true
    (beneath_arms a.path ps t.thread.who.path) ≡ true) ts (λ t h. or_first _ _ h) kp.beneath)
    (each_map (λ t. beneath_arms a.path ps t.thread.who.path ≡ true)
    (λ t. cond (starts (a.path ++ k ∷ []) t.thread.who.path) true (beneath_arms a.path ps t.thread.who.path) ≡ true) us
    (λ t h. or_true _ _ h) (legs_arm P z a lo m lg)))

legs_no_arm : (P : ScopeStands) (z : Setting) (a : Who) (lo m : ℕ) (t : Task) {hi : ℕ} {gs : Arms} {ps : List Part} {ts : List Task} →
    Legs P z a lo m hi gs ps ts → Clear a.path hi t → beneath_arms a.path ps t.thread.who.path ≡ false
legs_no_arm P z a lo m t (no_leg le) cl = refl
legs_no_arm P z a lo m t (gave_leg v lg) cl = legs_no_arm P z a lo m t lg cl
legs_no_arm P z a lo m t (runs_leg k n s ts e lk ln h lg) cl = or_false _ _ (cl k lk)
    (legs_no_arm P z a lo m t lg (λ i x. cl i (sooner x (weak lk))))

legs_none : (P : ScopeStands) (z : Setting) (a : Who) (lo m hi : ℕ) {gs : Arms} {ps : List Part} {ts : List Task} →
    Legs P z a lo m hi gs ps ts → (xs : List Task) → Each (Clear a.path hi) xs →
    Each (λ t. beneath_arms a.path ps t.thread.who.path ≡ false) xs
legs_none P z a lo m hi {ps = ps} lg xs cl = each_map (Clear a.path hi) (λ t. beneath_arms a.path ps t.thread.who.path ≡ false) xs
    (λ t cl. legs_no_arm P z a lo m t lg cl) cl

legs_over : (P : ScopeStands) (z : Setting) (a : Who) (lo m k : ℕ) (acc : List Task) {hi : ℕ} {gs : Arms} {ps : List Part}
    {ts : List Task} → hi ≤ k → Each (Beneath (a.path ++ k ∷ [])) acc → Legs P z a lo m hi gs ps ts → Each (NotOver acc) ts
legs_over P z a lo m k acc lq be (no_leg le) = tt
legs_over P z a lo m k acc lq be (gave_leg v lg) = legs_over P z a lo m k acc lq be lg
legs_over P z a lo m k acc lq be (runs_leg {us = us} i n s ts e lk ln h lg) = let kp = h.keeps in
    subst (Each (NotOver acc)) (sym e) (each_both (NotOver acc) ts us
    (each_map (Beneath (a.path ++ i ∷ [])) (NotOver acc) ts (λ t ht. beside_acc a.path k i t acc (sooner lk lq) ht be) kp.beneath)
    (legs_over P z a lo m k acc (trans (weak lk) lq) be lg))

-- what cancelling the arms does
pub legs_clears : (P : ScopeStands) (z : Setting) (a : Who) (lo m : ℕ) {hi : ℕ} {gs : Arms} {ps : List Part} {ts : List Task} →
    Legs P z a lo m hi gs ps ts → Clears z m (Clear a.path hi) (ordered [] ts) (λ M w. cancel_arms z.program (deeper z.program M) gs w)
legs_clears P z a lo m (no_leg {hi = hi} le) = clears_none z m (Clear a.path hi)
legs_clears P z a lo m (gave_leg v lg) = legs_clears P z a lo m lg
legs_clears P z a lo m (runs_leg {hi = hi} {gs} {us = us} k n s ts e lk ln h lg) = let kp = h.keeps in
    subst (λ y. Clears z m (Clear a.path hi) y (λ M w. cancel_arms z.program (deeper z.program M) (r.runs s gs) w))
    (sym (ap (ordered []) e ∙ ordered_apart ts us (legs_over P z a lo m k (ordered [] ts) le_self
    (each_ordered (Beneath (a.path ++ k ∷ [])) [] ts tt kp.beneath) lg)))
    (clears_both z m (Clear a.path hi) (ordered [] us) (ordered [] ts) (λ M w. cancel_arms z.program (deeper z.program M) gs w)
    (all_of_scope z s)
    (clears_map z m (Clear a.path k) (Clear a.path hi) (ordered [] us) (λ M w. cancel_arms z.program (deeper z.program M) gs w)
    (λ t f i x. f i (sooner x (weak lk))) (legs_clears P z a lo m lg))
    (clears_map z m (Beside (a.path ++ k ∷ [])) (Clear a.path hi) (ordered [] ts) (all_of_scope z s) (λ t f. f k lk)
    (clears_less z n m (Beside (a.path ++ k ∷ [])) (ordered [] ts) (all_of_scope z s) ln h.clears)))

-- the group has no value yet
abbrev pub Undecided : Kind → List Part → Type 0
Undecided sync ps = all_did ps ≡ None
Undecided race ps = first_did ps ≡ None
Undecided rush ps = first_did ps ≡ None

grouped_stands : (kind : Kind) (pl : Place) (ps : List Part) (x : Thread) (o : World) (s : State) (stands : Task → Step) →
    Undecided kind ps → grouped kind pl ps x o s stands ≡ stands (record { thread = x; rest = group kind pl ps })
grouped_stands sync pl ps x o s stands e = ap (λ y. or_stands y (stands (record { thread = x; rest = group sync pl ps }))
    (λ vs. tupled pl (tuple_of vs) x o s)) e
grouped_stands race pl ps x o s stands e = ap (λ y. or_stands y (stands (record { thread = x; rest = group race pl ps }))
    (λ v. cancels (λ o s. resumes x v o s) (resuming x v) (beneath_arms x.who.path ps) o s)) e
grouped_stands rush pl ps x o s stands e = ap (λ y. or_stands y (stands (record { thread = x; rest = group rush pl ps }))
    (λ v. resumes x v o s)) e

leave_all_tasks : (gs : Arms) (w : Scene) → (leave_all gs w).tasks ≡ w.tasks
leave_all_tasks no_arms w = refl
leave_all_tasks (gave v gs) w = leave_all_tasks gs w
leave_all_tasks (r.runs s gs) w = leave_all_tasks gs (leave w s)

-- the unfinished arms are behind from then on
legs_left : (j : ℕ) (z : Setting) (c : Ctx) → free c.handlers c.life.noted c.below ≡ true →
    (lo m : ℕ) (n q : ℕ) (pre post : List Task) (up : List Up) (rs : Trees) (w : Scene) {hi : ℕ} {gs : Arms} {ps : List Part}
    {ts : List Task} → Legs (ParkedS z j) z c.who lo m hi gs ps ts → m ≤ n → hi ≤ q → hi ≤ c.life.born →
    Apart c.who.path (world_of pre post up rs q) → (q' : ℕ) ×
    ((lo ≤ q') × (Apart c.who.path (world_of (onto ts pre) post up rs q') × Grown (ParkedS z j) z c m
    (world_of (onto ts pre) post up rs q') (leave_all gs w).behind w.tasks n (world_of pre post up rs q) w.behind w.tasks))
legs_left j z c fr lo m n q pre post up rs w (no_leg le) lm lq lb far = (q, (trans le lq, (far, same_around lm)))
legs_left j z c fr lo m n q pre post up rs w (gave_leg v lg) lm lq lb far = legs_left j z c fr lo m n q pre post up rs w lg lm lq lb far
legs_left j z c fr lo m n q pre post up rs w (runs_leg {gs = gs} {us = us} k i s ts e lk ln h lg) lm lq lb far =
    let kp = h.keeps in
    let x = legs_left j z c fr lo m m k (onto ts pre) post up rs (leave w s) lg le_self le_self (trans (weak lk) lb)
    (left_apart c.who.path k (world_of pre post up rs q) ts (sooner lk lq) far kp.beneath) in
    let same = sym (ap (λ y. onto y pre) e ∙ onto_both ts us pre) in (
      x.0,
      (
        x.1.0,
        (
          subst (λ y. Apart c.who.path (world_of y post up rs x.0)) same x.1.1.0,
          left_around k s ts fr lm (sooner lk lq) (sooner lk lb) (stretch_less z j i m k s (child_named c.who k) ts ln h)
              (subst (λ y. Grown (ParkedS z j) z c m (world_of y post up rs x.0) (leave_all gs (leave w s)).behind w.tasks m
              (world_of (onto ts pre) post up rs k) (and_then w.behind s) w.tasks) same x.1.1.1),
        ),
      ),
    )

-- what a tuple of all values comes to
tupled_goes : (z : Setting) (c : Ctx) (pl : Place) (p : ℕ) (st ls : List Val) → free c.handlers c.life.noted c.below ≡ true →
    Agrees (slots c) ls → (j n : ℕ) (o : Around) (g : Goal) (w : Scene) → Fine n c.who.path o w.state → (y : Answer Val) →
    Goes z j n c o w.behind w.tasks (on p st) g (told (still y w.state) pl c.env w) →
    Ends z (tupled pl y (thread c.who (frame_of c ls st p) c.below) o.world w.state) g
unfolding told
tupled_goes z c pl p st ls fr ag j n o g w fi (gives v) k = k n o (same_around le_self) ls (fresh (slots c) ag fi) tt
tupled_goes z c pl p st ls fr ag j n o g w fi fails k = subst (λ q. Ends z q g)
    (free_fails c.who o.world w.state ls c.handlers c.life.noted c.below fr)
    (k n o w.behind w.tasks (same_around le_self) ls (fresh (slots c) ag fi))
tupled_goes z c pl p st ls fr ag j n o g w fi (error e) k = over _ k
tupled_goes z c pl p st ls fr ag j n o g w fi stuck k = over _ k

-- a group, decided or not
settled_goes : (z : Setting) (c : Ctx) (pl : Place) (p : ℕ) (st ls : List Val) (q hi0 : ℕ) → hi0 ≤ q → hi0 ≤ c.life.born →
    free c.handlers c.life.noted c.below ≡ true → Agrees (slots c) ls → (kind : Kind) (j n M : ℕ) (pre post : List Task) (up : List Up)
    (rs : Trees) (g : Goal) (gs : Arms) (w : Scene) (ps : List Part) (ts : List Task) (lo : ℕ) →
    Legs (ParkedS z j) z c.who lo w.state.clock.left hi0 gs ps ts → w.state.clock.left ≤ lo → w.state.clock.left ≤ n →
    w.state.clock.left ≤ M → Apart c.who.path (world_of pre post up rs q) → (stands : Task → Step) →
    (Undecided kind ps → Goes z j n c (world_of pre post up rs q) w.behind w.tasks (on p st) g (rests (arms kind pl c.env gs) w) →
    Ends z (stands (record { thread = thread c.who (frame_of c ls st p) c.below; rest = group kind pl ps })) g) →
    Goes z j n c (world_of pre post up rs q) w.behind w.tasks (on p st) g (settled z.program (deeper z.program M) kind pl c.env gs w) →
    Ends z (grouped kind pl ps (thread c.who (frame_of c ls st p) c.below) (world (onto ts pre) post up rs) w.state stands) g
unfolding settled or_rests
settled_goes z c pl p st ls q hi0 lq lb fr ag sync j n M pre post up rs g gs w ps ts lo lg tl tn tM far stands hs k =
    choose (all_did ps) refl (subst (λ x. Goes z j n c (world_of pre post up rs q) w.behind w.tasks (on p st) g
    (or_rests z.program (deeper z.program M) x (rests (arms sync pl c.env gs) w)
    (λ vs. told (still (tuple_of vs) w.state) pl c.env w))) (same_values (ParkedS z j) z c.who lo w.state.clock.left lg) k)
  where
    choose : (x : Option (List Val)) → all_did ps ≡ x → Goes z j n c (world_of pre post up rs q) w.behind w.tasks (on p st) g
        (or_rests z.program (deeper z.program M) x (rests (arms sync pl c.env gs) w)
        (λ vs. told (still (tuple_of vs) w.state) pl c.env w)) →
        Ends z (or_stands x (stands (record { thread = thread c.who (frame_of c ls st p) c.below; rest = group sync pl ps }))
        (λ vs. tupled pl (tuple_of vs) (thread c.who (frame_of c ls st p) c.below) (world (onto ts pre) post up rs) w.state)) g
    choose None e k = hs e k
    choose (Some vs) e k = subst (λ x. Ends z (tupled pl (tuple_of vs) (thread c.who (frame_of c ls st p) c.below)
        (world (onto x pre) post up rs) w.state) g) (sym (no_tasks (ParkedS z j) z c.who lo w.state.clock.left vs lg e))
        (tupled_goes z c pl p st ls fr ag j n (world_of pre post up rs q) g w
        (record { steps = tn; low = trans tl (trans (legs_low (ParkedS z j) z c.who lo w.state.clock.left lg) lq); apart = far })
        (tuple_of vs) k)
settled_goes z c pl p st ls q hi0 lq lb fr ag race j n M pre post up rs g gs w ps ts lo lg tl tn tM far stands hs k =
    choose (first_did ps) refl (subst (λ x. Goes z j n c (world_of pre post up rs q) w.behind w.tasks (on p st) g
    (or_rests z.program (deeper z.program M) x (rests (arms race pl c.env gs) w)
    (λ v. on_went (cancel_arms z.program (deeper z.program M) gs w) (λ u. value c.env v u))))
    (same_value (ParkedS z j) z c.who lo w.state.clock.left lg) k)
  where
    f : List ℕ → Bool
    f = beneath_arms c.who.path ps

    n1 : Each (λ t. f t.thread.who.path ≡ false) pre
    n1 = legs_none (ParkedS z j) z c.who lo w.state.clock.left hi0 lg pre (clear_less c.who.path q hi0 pre lq far.pre)

    n2 : Each (λ t. f t.thread.who.path ≡ false) post
    n2 = legs_none (ParkedS z j) z c.who lo w.state.clock.left hi0 lg post (clear_less c.who.path q hi0 post lq far.post)

    si : Each (λ t. f t.thread.who.path ≡ true) ts
    si = legs_arm (ParkedS z j) z c.who lo w.state.clock.left lg

    choose : (x : Option Val) → first_did ps ≡ x → Goes z j n c (world_of pre post up rs q) w.behind w.tasks (on p st) g
        (or_rests z.program (deeper z.program M) x (rests (arms race pl c.env gs) w)
        (λ v. on_went (cancel_arms z.program (deeper z.program M) gs w) (λ u. value c.env v u))) →
        Ends z (or_stands x (stands (record { thread = thread c.who (frame_of c ls st p) c.below; rest = group race pl ps }))
        (λ v. cancels (λ o s. resumes (thread c.who (frame_of c ls st p) c.below) v o s)
        (resuming (thread c.who (frame_of c ls st p) c.below) v) f (world (onto ts pre) post up rs) w.state)) g
    choose None e k = hs e k
    choose (Some v) e k =
        let af : After = resuming (thread c.who (frame_of c ls st p) c.below) v in
        subst (λ u. Ends z (clears (follows af) af u (record {
          pre = without f (onto ts pre);
          post = without f post;
          ups = up;
          trees = rs;
        }) w.state) g)
        (sym (ap (λ u. u ++ gone_behind f post) (gone_onto f ts pre si ∙ ap (λ u. ordered u ts) (gone_none f pre n1)) ∙
        ap (λ u. ordered [] ts ++ u) (gone_none_behind f post n2)))
        (subst (λ u. Ends z (clears (follows af) af (ordered [] ts ++ [])
        (record { pre = u; post = without f post; ups = up; trees = rs }) w.state) g)
        (sym (without_onto f ts pre si ∙ without_none f pre n1))
        (subst (λ u. Ends z (clears (follows af) af (ordered [] ts ++ [])
        (record { pre = pre; post = u; ups = up; trees = rs }) w.state) g) (sym (without_none f post n2))
        (legs_clears (ParkedS z j) z c.who lo w.state.clock.left lg af [] (world pre post up rs) w M g le_self tM
        (clear_less c.who.path q hi0 pre lq far.pre, clear_less c.who.path q hi0 post lq far.post)
        (gone_map (cancel_arms z.program (deeper z.program M) gs w) w _ _ g
        (gone_goes (ParkedR z j) (ParkedS z j) z n c (world_of pre post up rs q) w.behind w.tasks (on p st) g
        (cancel_arms z.program (deeper z.program M) gs w) w (λ u. value c.env v u) k)
        (λ u le eb et h. h n (world_of pre post up rs q)
        (subst (λ y. Grown (ParkedS z j) z c n (world_of pre post up rs q) y u.tasks n (world_of pre post up rs q) w.behind w.tasks)
        (sym eb) (subst (λ y. Grown (ParkedS z j) z c n (world_of pre post up rs q) w.behind y n
        (world_of pre post up rs q) w.behind w.tasks) (sym et) (same_around le_self)))
        ls (fresh (slots c) ag (record {
          steps = trans le tn;
          low = trans le (trans tl (trans (legs_low (ParkedS z j) z c.who lo w.state.clock.left lg) lq));
          apart = far;
        })) tt)))))
settled_goes z c pl p st ls q hi0 lq lb fr ag rush j n M pre post up rs g gs w ps ts lo lg tl tn tM far stands hs k =
    choose (first_did ps) refl (subst (λ x. Goes z j n c (world_of pre post up rs q) w.behind w.tasks (on p st) g
    (or_rests z.program (deeper z.program M) x (rests (arms rush pl c.env gs) w) (λ v. value c.env v (leave_all gs w))))
    (same_value (ParkedS z j) z c.who lo w.state.clock.left lg) k)
  where
    choose : (x : Option Val) → first_did ps ≡ x → Goes z j n c (world_of pre post up rs q) w.behind w.tasks (on p st) g
        (or_rests z.program (deeper z.program M) x (rests (arms rush pl c.env gs) w) (λ v. value c.env v (leave_all gs w))) →
        Ends z (or_stands x (stands (record { thread = thread c.who (frame_of c ls st p) c.below; rest = group rush pl ps }))
        (λ v. resumes (thread c.who (frame_of c ls st p) c.below) v (world (onto ts pre) post up rs) w.state)) g
    choose None e k = hs e k
    choose (Some v) e k =
        let x = legs_left j z c fr lo w.state.clock.left n q pre post up rs w lg tn lq lb far in
        subst (λ s. Ends z (resumes (thread c.who (frame_of c ls st p) c.below) v (world (onto ts pre) post up rs) s) g)
        (left_state gs w)
        (k w.state.clock.left (world_of (onto ts pre) post up rs x.0)
        (subst (λ y. Grown (ParkedS z j) z c w.state.clock.left (world_of (onto ts pre) post up rs x.0) (leave_all gs w).behind y n
        (world_of pre post up rs q) w.behind w.tasks) (sym (leave_all_tasks gs w)) x.1.1.1)
        ls (fresh (slots c) ag (subst (λ s. Fine w.state.clock.left c.who.path (world_of (onto ts pre) post up rs x.0) s)
        (sym (left_state gs w)) (record { steps = le_self; low = trans tl x.1.0; apart = x.1.1.0 }))) tt)

-- a group of a context: it goes on at p on st, with the locals ls; the arms' numbers are below hi0
module _ (z : Setting) (c : Ctx) (kind : Kind) (pl : Place) (p : ℕ) (st ls : List Val) (q hi0 : ℕ) (lq : hi0 ≤ q)
    (lb : hi0 ≤ c.life.born) (fr : free c.handlers c.life.noted c.below ≡ true) (ag : Agrees (slots c) ls) where
  abbrev mine : Thread
  mine = thread c.who (frame_of c ls st p) c.below

  abbrev parent : List Part → Task
  parent ps = record { thread = mine; rest = group kind pl ps }

  abbrev PS : ℕ → ScopeStands
  PS j = ParkedS z j

  -- a child that is no arm of the group
  passes : (ps : List Part) (i : ℕ) → is_run i ps ≡ false → (v : Val) (s : State) (pre post : List Task) (rs : Trees) →
      climbs c.who.path i v pre (parent ps ∷ post) rs s ≡ Turn s (among (onto pre (parent ps ∷ post)) rs)
  passes ps i nx v s pre post rs =
      subst (λ y. cond y (joined i v (group kind pl ps) (parent ps) pre post rs s)
      (climbs c.who.path i v (parent ps ∷ pre) post rs s) ≡ Turn s (among (onto pre (parent ps ∷ post)) rs))
      (sym (same_self c.who.path)) (
      subst (λ y. cond y (grouped kind pl (with_did i v ps) mine (world pre post [] rs) s (λ y. rested (y ∷ pre) post [] rs s))
      (Turn s (among (onto pre (parent ps ∷ post)) rs)) ≡ Turn s (among (onto pre (parent ps ∷ post)) rs)) (sym nx) refl)

  group_keeps : (P : ScopeStands) (lo m : ℕ) (gs : Arms) (ps : List Part) (ts : List Task) → Legs P z c.who lo m hi0 gs ps ts →
      Keeps c.who.path q (arms_leaves gs) (ts ++ parent ps ∷ [])
  group_keeps P lo m gs ps ts lg = record {
    waits = waits_both ts (parent ps ∷ []) ∙ append-nil (waits_of ts) ∙ legs_waits P z c.who lo m lg;
    beneath = each_both (Beneath c.who.path) ts (parent ps ∷ [])
        (each_map (Strict c.who.path) (Beneath c.who.path) ts (λ t h. h.0) (legs_strict P z c.who lo m lg)) (starts_self c.who.path, tt);
    young = each_both (Young c.who.path q) ts (parent ps ∷ []) (legs_young P z c.who lo m q lq lg)
        ((λ i x. starts_parent c.who.path i), tt);
    heeds = λ i le v s pre post rs.
        subst (λ y. climbs c.who.path i v pre y rs s ≡ Turn s (among (onto pre y) rs)) (sym (append_assoc ts (parent ps ∷ []) post))
        (legs_climb P z c.who lo m i v s pre (parent ps ∷ post) rs lg ∙ passes ps i (no_run P z c.who lo m i (trans lq le) lg) v s
        (onto ts pre) post rs ∙ ap (λ y. Turn s (among y rs)) (onto_onto ts pre (parent ps ∷ post)));
  }

  group_stopped : (P : ScopeStands) (lo m : ℕ) (gs : Arms) (ps : List Part) (ts : List Task) → Legs P z c.who lo m hi0 gs ps ts →
      Stopped z m c (ts ++ parent ps ∷ []) (kids_of z (arms kind pl c.env gs)) (own_of z (arms kind pl c.env gs))
  group_stopped P lo m gs ps ts lg = record {
    kids = ts;
    self = parent ps;
    is = refl;
    who = refl;
    strict = legs_strict P z c.who lo m lg;
    clears = clears_map z m (Clear c.who.path hi0) (Beside c.who.path) (ordered [] ts) (kids_of z (arms kind pl c.env gs))
        (λ t h i x. starts_longer c.who.path (i ∷ []) t.thread.who.path h) (legs_clears P z c.who lo m lg);
    own = λ after todo o w M g le lM far h. h le_self refl refl ls st p ag;
  }

  abbrev GroupParked : ℕ → Type 0
  GroupParked j = (m lo : ℕ) (gs : Arms) (ps : List Part) (ts : List Task) → Undecided kind ps → Legs (PS j) z c.who lo m hi0 gs ps ts →
      m ≤ lo → ParkedR z j m q (arms kind pl c.env gs) c (on p st) (ts ++ parent ps ∷ [])

  -- the task stands at its group
  rests_goes : (j : ℕ) → GroupParked j → (n : ℕ) (pre post : List Task) (up : List Up) (rs : Trees) (g : Goal) (gs : Arms) (w : Scene)
      (ps : List Part) (ts : List Task) (lo : ℕ) → Legs (PS j) z c.who lo w.state.clock.left hi0 gs ps ts → w.state.clock.left ≤ lo →
      w.state.clock.left ≤ n → Apart c.who.path (world_of pre post up rs q) →
      Undecided kind ps → Goes z j n c (world_of pre post up rs q) w.behind w.tasks (on p st) g (rests (arms kind pl c.env gs) w) →
      Ends z (rested (parent ps ∷ onto ts pre) post up rs w.state) g
  rests_goes j pk n pre post up rs g gs w ps ts lo lg tl tn far un k =
      subst (λ y. Ends z (rested y post up rs w.state) g) (onto_both ts (parent ps ∷ []) pre)
      (k n (world_of pre post up rs q) (same_around le_self) fr
      (record { steps = tn; low = trans tl (trans (legs_low (PS j) z c.who lo w.state.clock.left lg) lq); apart = far })
      (ts ++ parent ps ∷ [])
      (record {
        keeps = group_keeps (PS j) lo w.state.clock.left gs ps ts lg;
        stands = pk w.state.clock.left lo gs ps ts un lg tl;
        stopped = group_stopped (PS j) lo w.state.clock.left gs ps ts lg;
      }))

  -- what the arms from a place on come to: rp are the parts before them, pre the tasks, the nearest first
  abbrev GoesTail : ℕ → (lo n k : ℕ) → List Part → (pre post : List Task) → Trees → Scopes → Tasks → Goal → ArmsOutcome → Type 0
  GoesTail j lo n k rp pre post rs b f g (stops_arms h) = GoesHalt g h
  GoesTail j lo n k rp pre post rs b f g (stand gs x) =
      x.behind ≡ b → (m : ℕ) (rs' : Trees) → m ≤ n → Planted (Unit {0}) (PS j) z m rs' x.tasks n rs f → x.state.clock.left ≤ m →
      (ps : List Part) (ts : List Task) → Legs (PS j) z c.who lo x.state.clock.left k gs ps ts →
      Ends z (grouped kind pl (back rp ps) mine (world (onto ts pre) post [] rs') x.state
      (λ y. rested (y ∷ onto ts pre) post [] rs' x.state)) g

  tail_gave : (j lo n k : ℕ) (rp : List Part) (pre post : List Task) (rs : Trees) (b : Scopes) (f : Tasks) (g : Goal) (v : Val)
      (x : ArmsOutcome) → GoesTail j lo n k rp pre post rs b f g (arm_before (gave v) x) →
      GoesTail j lo n k (did v ∷ rp) pre post rs b f g x
  unfolding arm_before
  tail_gave j lo n k rp pre post rs b f g v (stops_arms h) y = y
  tail_gave j lo n k rp pre post rs b f g v (stand gs x) y = λ eb m rs' lm pl' lt ps ts lg. y eb m rs' lm pl' lt (did v ∷ ps) ts
      (gave_leg v lg)

  tail_runs : (j lo n k i m0 : ℕ) (rp : List Part) (pre post : List Task) (rs : Trees) (b : Scopes) (f : Tasks) (g : Goal) (s : Scope)
      (us : List Task) → i < k → n ≤ m0 → Stretch (PS j) z m0 i s (child_named c.who i) us → (x : ArmsOutcome) →
      GoesTail j lo n k rp pre post rs b f g (arm_before (r.runs s) x) → GoesTail j lo n i (runs i ∷ rp) (onto us pre) post rs b f g x
  unfolding arm_before
  tail_runs j lo n k i m0 rp pre post rs b f g s us lk ln h (stops_arms q') y = y
  tail_runs j lo n k i m0 rp pre post rs b f g s us lk ln h (stand gs x) y = λ eb m rs' lm pl' lt ps ts lg.
      subst (λ u. Ends z (grouped kind pl (back rp (runs i ∷ ps)) mine (world u post [] rs') x.state
      (λ y. rested (y ∷ u) post [] rs' x.state)) g) (onto_both us ts pre)
      (y eb m rs' lm pl' lt (runs i ∷ ps) (us ++ ts) (runs_leg i m0 s us refl lk (trans lt (trans lm ln)) h lg))

  -- the arm i was woken
  arm_goes : (j lo n k i : ℕ) (rp cp : List Part) (pre vs post : List Task) (rs : Trees) (b : Scopes) (f : Tasks) (g : Goal)
      (cs : Arms) → i < k → RunsFrom k rp → Undecided kind (back rp (runs i ∷ cp)) → Legs (PS (suc j)) z c.who lo n i cs cp vs →
      (x : TaskOutcome) → GoesTail j lo n k rp pre post rs b f g (arm_came x cs) →
      GoesTask (PS j) z n (child_named c.who i) (around pre (vs ++ parent (back rp (runs i ∷ cp)) ∷ post) rs i) b f g x
  unfolding arm_came
  arm_goes j lo n k i rp cp pre vs post rs b f g cs lk rf un lg (ends v x) y = λ eb m rs' pl' fi.
      let ps : List Part = back rp (runs i ∷ cp) in
      let mn : m ≤ n = planted_steps (Unit {0}) (PS j) z m rs' x.tasks pl' in
      let here1 : is_run i (runs i ∷ cp) ≡ true = subst (λ y. cond y true (is_run i cp) ≡ true) (sym (eqn_same i)) refl in
      let here2 : with_did i v (runs i ∷ cp) ≡ did v ∷ cp = subst (λ y. cond y (did v ∷ cp) (runs i ∷ with_did i v cp) ≡ did v ∷ cp)
      (sym (eqn_same i)) refl in
      subst (λ u. Ends z u g) (sym (legs_climb (PS (suc j)) z c.who lo n i v x.state pre (parent ps ∷ post) rs' lg)) (
      subst (λ u. Ends z (cond u (joined i v (group kind pl ps) (parent ps) (onto vs pre) post rs' x.state)
      (climbs c.who.path i v (parent ps ∷ onto vs pre) post rs' x.state)) g) (sym (same_self c.who.path)) (
      subst (λ u. Ends z (cond u (grouped kind pl (with_did i v ps) mine (world (onto vs pre) post [] rs') x.state
      (λ y. rested (y ∷ onto vs pre) post [] rs' x.state)) (Turn x.state (among (onto (onto vs pre) (parent ps ∷ post)) rs'))) g)
      (sym (run_back i k rp (runs i ∷ cp) lk rf here1)) (
      subst (λ u. Ends z (grouped kind pl u mine (world (onto vs pre) post [] rs') x.state
      (λ y. rested (y ∷ onto vs pre) post [] rs' x.state)) g) (sym (did_back i k v rp (runs i ∷ cp) (did v ∷ cp) lk rf here2))
      (y eb m rs' mn pl' fi.steps (did v ∷ cp) vs (gave_leg v
      (legs_as (PS (suc j)) (PS j) z (lower_s z j) c.who lo n x.state.clock.left k (trans fi.steps mn) (weak lk) lg))))))
  arm_goes j lo n k i rp cp pre vs post rs b f g cs lk rf un lg (lost s) y = y
  arm_goes j lo n k i rp cp pre vs post rs b f g cs lk rf un lg (stops h) y = y
  arm_goes j lo n k i rp cp pre vs post rs b f g cs lk rf un lg (sleeps s x) y = λ eb y0 m rs' pl' fi ts st'.
      let ps : List Part = back rp (runs i ∷ cp) in
      let mn : m ≤ n = planted_steps (Unit {0}) (PS j) z m rs' x.tasks pl' in
      subst (λ u. Ends z (Turn x.state (among u rs')) g) (ap (λ u. onto u (parent ps ∷ post)) (onto_both ts vs pre) ∙
      onto_onto vs (onto ts pre) (parent ps ∷ post))
      (subst (λ u. Ends z u g) (grouped_stands kind pl ps mine (world (onto (ts ++ vs) pre) post [] rs') x.state
      (λ y. rested (y ∷ onto (ts ++ vs) pre) post [] rs' x.state) un)
      (y eb m rs' mn pl' fi.steps (runs i ∷ cp) (ts ++ vs)
      (runs_leg i x.state.clock.left s ts refl lk le_self st'
      (legs_as (PS (suc j)) (PS j) z (lower_s z j) c.who lo n x.state.clock.left i (trans fi.steps mn) le_self lg))))

  apart_arm : (P : ScopeStands) (lo m k i : ℕ) (ps : List Part) (pre vs post : List Task) (rs : Trees) {cs : Arms} {cp : List Part} →
      i < k → Apart c.who.path (around pre post rs k) → Legs P z c.who lo m i cs cp vs →
      Apart (c.who.path ++ i ∷ []) (around pre (vs ++ parent ps ∷ post) rs i)
  apart_arm P lo m k i ps pre vs post rs lk far lg = record {
    pre = clear_child c.who.path i k i pre lk far.pre;
    post = each_both (Clear (c.who.path ++ i ∷ []) i) vs (parent ps ∷ post) (legs_below P z c.who lo m i i le_self lg)
        (clear_parent c.who.path i i (parent ps) refl, clear_child c.who.path i k i post lk far.post);
  }

  -- the wait is looked for among the arms from a place on
  arms_wake : (j n : ℕ) (v : Val) (u : State) (b : Scopes) (f : Tasks) (post : List Task) (rs : Trees) (M lo : ℕ) → u.clock.left ≤ M →
      (g : Goal) → {k : ℕ} {cs : Arms} {cp : List Part} {vs : List Task} → Legs (PS (suc j)) z c.who lo u.clock.left k cs cp vs →
      (rp : List Part) (pre : List Task) → RunsFrom k rp → Undecided kind (back rp cp) →
      has n (arms_leaves cs) ≡ true → Apart c.who.path (around pre post rs k) →
      GoesTail j lo u.clock.left k rp pre post rs b f g (resume_arms z.program (deeper z.program M) cs n v (scene u b f)) →
      Ends z (woken n v pre (vs ++ parent (back rp cp) ∷ post) rs u) g
  arms_wake j n v u b f post rs M lo lM g (no_leg le) rp pre rf un hn far y = cc
  arms_wake j n v u b f post rs M lo lM g (gave_leg {gs = gs} x lg) rp pre rf un hn far y = arms_wake j n v u b f post rs M lo lM g lg
      (did x ∷ rp) pre rf un hn far (tail_gave j lo u.clock.left _ rp pre post rs b f g x
      (resume_arms z.program (deeper z.program M) gs n v (scene u b f)) y)
  arms_wake j n v u b f post rs M lo lM g {k} (runs_leg {gs = gs} {ps = cp} {us = vs} i m s ts e lk ln h lg) rp pre rf un hn far y =
      subst (λ x. Ends z (woken n v pre x rs u) g) (sym (ap (λ x. x ++ parent (back rp (runs i ∷ cp)) ∷ post) e ∙
      append_assoc ts vs (parent (back rp (runs i ∷ cp)) ∷ post)))
      (pick (arms_wake j n v u b f post rs M lo lM g lg) (has n (scope_leaves s)) refl y)
    where
      pick : ((rp : List Part) (pre : List Task) → RunsFrom i rp → Undecided kind (back rp cp) → has n (arms_leaves gs) ≡ true →
          Apart c.who.path (around pre post rs i) → GoesTail j lo u.clock.left i rp pre post rs b f g
          (resume_arms z.program (deeper z.program M) gs n v (scene u b f)) →
          Ends z (woken n v pre (vs ++ parent (back rp cp) ∷ post) rs u) g) → (y : Bool) → has n (scope_leaves s) ≡ y →
          GoesTail j lo u.clock.left k rp pre post rs b f g (on_bool y
          (λ t. arm_came (resume_scope z.program (deeper z.program M) s n v (scene u b f)) gs)
          (λ t. arm_before (r.runs s) (resume_arms z.program (deeper z.program M) gs n v (scene u b f)))) →
          Ends z (woken n v pre (ts ++ (vs ++ parent (back rp (runs i ∷ cp)) ∷ post)) rs u) g
      pick next true hs y =
          h.stands n v u hs ln pre (vs ++ parent (back rp (runs i ∷ cp)) ∷ post) rs b f
          (apart_arm (PS (suc j)) lo u.clock.left k i (back rp (runs i ∷ cp)) pre vs post rs lk far lg) M lM g
          (arm_goes j lo u.clock.left k i rp cp pre vs post rs b f g gs lk rf un lg
          (resume_scope z.program (deeper z.program M) s n v (scene u b f)) y)
      pick next false hs y =
          let kp = h.keeps in
          subst (λ x. Ends z x g) (sym (woken_over n v u pre ts (vs ++ parent (back rp (runs i ∷ cp)) ∷ post) rs
          (ap (has n) kp.waits ∙ hs)))
          (next (runs i ∷ rp) (onto ts pre) (le_self, runs_from_less k i rp (weak lk) rf) un
          (has_second n (scope_leaves s) (arms_leaves gs) hs hn) (left_apart c.who.path i (around pre post rs k) ts lk far kp.beneath)
          (tail_runs j lo u.clock.left k i m rp pre post rs b f g s ts lk ln
          (stretch_map (PS (suc j)) (PS j) z m i s (child_named c.who i) ts (lower_s z j m i s (child_named c.who i) ts) h)
          (resume_arms z.program (deeper z.program M) gs n v (scene u b f)) y))

  -- the group, from what its arms have come to
  tail_settled : (j : ℕ) → GroupParked j → (n M lo : ℕ) → n ≤ M → n ≤ lo → (pre post : List Task) (rs : Trees) (b : Scopes) (f : Tasks)
      (g : Goal) → Apart c.who.path (around pre post rs q) → (x : ArmsOutcome) →
      Goes z j n c (around pre post rs q) b f (on p st) g
      (arms_came x (λ gs w. settled z.program (deeper z.program M) kind pl c.env gs w)) → GoesTail j lo n hi0 [] pre post rs b f g x
  unfolding arms_came
  tail_settled j pk n M lo nM nl pre post rs b f g far (stops_arms h) k = k
  tail_settled j pk n M lo nM nl pre post rs b f g far (stand gs x) k = λ eb m rs' lm pl' lt ps ts lg.
      let far' : Apart c.who.path (world_of pre post [] rs' q) = record { pre = far.pre; post = far.post } in
      settled_goes z c pl p st ls q hi0 lq lb fr ag kind j m M pre post [] rs' g gs x ps ts lo lg (trans lt (trans lm nl)) lt
      (trans lt (trans lm nM)) far' (λ y. rested (y ∷ onto ts pre) post [] rs' x.state)
      (λ un k. rests_goes j pk m pre post [] rs' g gs x ps ts lo lg (trans lt (trans lm nl)) lt far' un k)
      (shifted z j n m c (around pre post rs q) (world_of pre post [] rs' q) b x.behind f x.tasks (on p st) g
      (settled z.program (deeper z.program M) kind pl c.env gs x)
      (subst (λ y. Grown (PS j) z c m (world_of pre post [] rs' q) y x.tasks n (around pre post rs q) b f) (sym eb)
      (planted_grown (Unit {0}) (PS j) z c (λ y. fr) b pre post [] q m rs' x.tasks pl')) k)

  group_parked : (j : ℕ) → GroupParked j
  group_parked zero m lo gs ps ts un lg le = tt
  group_parked (suc j) m lo gs ps ts un lg le = λ n v s hn lt pre post rs b f far M lM g y.
      subst (λ x. Ends z (woken n v pre x rs s) g) (sym (append_assoc ts (parent ps ∷ []) post))
      (arms_wake j n v s b f post rs M lo lM g (legs_as (PS (suc j)) (PS (suc j)) z
      (λ m k s w ts h. h) c.who lo m s.clock.left hi0 lt le_self lg) [] pre tt un hn
      (record { pre = clear_less c.who.path q hi0 pre lq far.pre; post = clear_less c.who.path q hi0 post lq far.post })
      (tail_settled j (group_parked j) s.clock.left M lo lM (trans lt le) pre post rs b f g far
      (resume_arms z.program (deeper z.program M) gs n v (scene s b f)) y))

  -- an arm's code: from its label it does what the arm means, up to its ArmEnd
  pub record ArmLeads (a : Tree) (l : ℕ) : Type 0 where
    pub end : ℕ
    pub here : Here z.code end oper.ArmEnd
    pub leads : (j M : ℕ) (s : State) (o : Around) (f : Tasks) (g : Goal) → s.clock.left ≤ M → s.clock.left < hi0 →
        Fine s.clock.left (c.who.path ++ s.clock.left ∷ []) o s → o.own ≡ s.clock.left →
        Goes z j s.clock.left (in_frame c.env (slots c) (child_named c.who s.clock.left) s.clock.left []) o none f (on end []) g
        (ev z.program (deeper z.program M) a true c.env (scene s none f)) →
        Ends z (at (in_frame c.env (slots c) (child_named c.who s.clock.left) s.clock.left []) o s ls [] l) g

  abbrev pub ArmsLead : tree.Trees → List ℕ → Type 0
  ArmsLead tree.no_trees [] = Unit {0}
  ArmsLead tree.no_trees (l ∷ es) = ⊥
  ArmsLead (tree.more_trees a as1) [] = ⊥
  ArmsLead (tree.more_trees a as1) (l ∷ es) = ArmLeads a l × ArmsLead as1 es

  spends_cases : (j n : ℕ) (o : Around) (b : Scopes) (f : Tasks) (g : Goal) (k : ℕ) (w : Scene) (go : Scene → Outcome)
      (run : State → Step) → Goes z j n c o b f (on p st) g (spends k w go) →
      ((l : ℕ) → k ≡ suc l → Goes z j n c o b f (on p st) g (go (with_state w (stepped l w.state))) → Ends z (run (stepped l w.state)) g) →
      Ends z (spending k w.state (Over ending.Steps w.state) run) g
  unfolding spends
  spends_cases j n o b f g zero w go run y h = over _ y
  spends_cases j n o b f g (suc l) w go run y h = h l refl y

  abbrev Starts : (j M : ℕ) → tree.Trees → List ℕ → Type 0
  Starts j M as1 es = (n : ℕ) (pre post : List Task) (up : List Up) (rs : Trees) (g : Goal) (gs : Arms) (w : Scene) (ps : List Part)
      (ts : List Task) (lo : ℕ) → Legs (PS j) z c.who lo w.state.clock.left hi0 gs ps ts → w.state.clock.left ≤ lo →
      w.state.clock.left ≤ n → w.state.clock.left ≤ M → Apart c.who.path (world_of pre post up rs q) →
      Goes z j n c (world_of pre post up rs q) w.behind w.tasks (on p st) g
      (started z.program (deeper z.program M) kind pl as1 c.env gs w) →
      Ends z (next_arm kind pl ps es mine (onto ts pre) post up rs w.state (λ y. rested (y ∷ onto ts pre) post up rs w.state)) g

  settled_here : (j M : ℕ) (n : ℕ) (pre post : List Task) (up : List Up) (rs : Trees) (g : Goal) (gs : Arms) (w : Scene) (ps : List Part)
      (ts : List Task) (lo : ℕ) → Legs (PS j) z c.who lo w.state.clock.left hi0 gs ps ts → w.state.clock.left ≤ lo →
      w.state.clock.left ≤ n → w.state.clock.left ≤ M → Apart c.who.path (world_of pre post up rs q) →
      Goes z j n c (world_of pre post up rs q) w.behind w.tasks (on p st) g (settled z.program (deeper z.program M) kind pl c.env gs w) →
      Ends z (grouped kind pl ps mine (world (onto ts pre) post up rs) w.state (λ y. rested (y ∷ onto ts pre) post up rs w.state)) g
  settled_here j M n pre post up rs g gs w ps ts lo lg tl tn tM far k =
      settled_goes z c pl p st ls q hi0 lq lb fr ag kind j n M pre post up rs g gs w ps ts lo lg tl tn tM far
      (λ y. rested (y ∷ onto ts pre) post up rs w.state)
      (λ un k. rests_goes j (group_parked j) n pre post up rs g gs w ps ts lo lg tl tn far un k) k

  -- the group's kind says whether arms are begun behind one that has given a value
  gave_goes : (j M : ℕ) (as1 : tree.Trees) (es : List ℕ) → Starts j M as1 es → (n : ℕ) (pre post : List Task) (up : List Up) (rs : Trees)
      (g : Goal) (gs : Arms) (w : Scene) (ps : List Part) (ts : List Task) (lo : ℕ) →
      Legs (PS j) z c.who lo w.state.clock.left hi0 gs ps ts → w.state.clock.left ≤ lo → w.state.clock.left ≤ n → w.state.clock.left ≤ M →
      Apart c.who.path (world_of pre post up rs q) → Goes z j n c (world_of pre post up rs q) w.behind w.tasks (on p st) g
      (arm_gave z.program (deeper z.program M) kind pl c.env gs w
      (λ w. started z.program (deeper z.program M) kind pl as1 c.env gs w)) →
      Ends z (arm_did kind pl ps es mine (onto ts pre) post up rs w.state (λ y. rested (y ∷ onto ts pre) post up rs w.state)) g
  unfolding arm_gave
  gave_goes j M as1 es next n pre post up rs g gs w ps ts lo lg tl tn tM far k =
      by kind (λ k. next n pre post up rs g gs w ps ts lo lg tl tn tM far k)
      (λ k. settled_here j M n pre post up rs g gs w ps ts lo lg tl tn tM far k) k
    where
      by : (kd : Kind) → (Goes z j n c (world_of pre post up rs q) w.behind w.tasks (on p st) g
          (started z.program (deeper z.program M) kd pl as1 c.env gs w) →
          Ends z (next_arm kd pl ps es mine (onto ts pre) post up rs w.state (λ y. rested (y ∷ onto ts pre) post up rs w.state)) g) →
          (Goes z j n c (world_of pre post up rs q) w.behind w.tasks (on p st) g
          (settled z.program (deeper z.program M) kd pl c.env gs w) →
          Ends z (grouped kd pl ps mine (world (onto ts pre) post up rs) w.state
          (λ y. rested (y ∷ onto ts pre) post up rs w.state)) g) →
          Goes z j n c (world_of pre post up rs q) w.behind w.tasks (on p st) g
          (arm_gave z.program (deeper z.program M) kd pl c.env gs w
          (λ w. started z.program (deeper z.program M) kd pl as1 c.env gs w)) →
          Ends z (arm_did kd pl ps es mine (onto ts pre) post up rs w.state (λ y. rested (y ∷ onto ts pre) post up rs w.state)) g
      by sync f h k = f k
      by race f h k = h k
      by rush f h k = f k

  grown_arm : (j i n m : ℕ) (pre post : List Task) (up : List Up) (rs rs' : Trees) (b b' : Scopes) (f f' : Tasks) → n ≤ m → b' ≡ b →
      Planted (Unit {0}) (PS j) z i rs' f' n rs f → Grown (PS j) z c i (world_of pre post up rs' q) b' f' m (world_of pre post up rs q) b f
  grown_arm j i n m pre post up rs rs' b b' f f' le eb pl' =
      subst (λ y. Grown (PS j) z c i (world_of pre post up rs' q) y f' m (world_of pre post up rs q) b f) (sym eb)
      (grown_less (PS j) z c i (world_of pre post up rs' q) b f' m le
      (planted_grown (Unit {0}) (PS j) z c (λ y. fr) b pre post up q i rs' f' pl'))

  -- an arm as it begins has come to x
  armed_goes : (j M : ℕ) (as1 : tree.Trees) (es : List ℕ) → Starts j M as1 es →
      (n : ℕ) (pre post : List Task) (up : List Up) (rs : Trees) (g : Goal) (gs : Arms) (w : Scene) (ps : List Part) (ts : List Task)
      (lo k : ℕ) → Legs (PS j) z c.who lo k hi0 gs ps ts → k < lo → k ≤ n → k ≤ M → Apart c.who.path (world_of pre post up rs q) →
      (x : TaskOutcome) →
      Goes z j n c (world_of pre post up rs q) w.behind w.tasks (on p st) g
      (armed x (λ v w. arm_gave z.program (deeper z.program M) kind pl c.env (with_arm gs (gave v no_arms)) w
      (λ w. started z.program (deeper z.program M) kind pl as1 c.env (with_arm gs (gave v no_arms)) w))
      (λ s w. started z.program (deeper z.program M) kind pl as1 c.env (with_arm gs (r.runs s no_arms)) w)) →
      GoesTask (PS j) z k (child_named c.who k) (world_of (onto ts pre) post (begins mine kind pl ps k es ∷ up) rs k) w.behind w.tasks g x
  unfolding armed
  armed_goes j M as1 es next n pre post up rs g gs w ps ts lo k lg lt ln lM far (ends v x) h = λ eb m rs' pl' fi.
      let mn : m ≤ k = planted_steps (Unit {0}) (PS j) z m rs' x.tasks pl' in
      gave_goes j M as1 es next m pre post up rs' g (with_arm gs (gave v no_arms)) x (ps ++ did v ∷ []) ts lo
      (legs_gave (PS j) z c.who lo x.state.clock.left v (legs_as (PS j) (PS j) z
      (λ m k s w ts h. h) c.who lo k x.state.clock.left hi0 (trans fi.steps mn) le_self lg))
      (trans (trans fi.steps mn) (weak lt)) fi.steps (trans (trans fi.steps mn) lM) (record { pre = far.pre; post = far.post })
      (shifted z j n m c (world_of pre post up rs q) (world_of pre post up rs' q) w.behind x.behind w.tasks x.tasks (on p st) g _
      (grown_arm j m k n pre post up rs rs' w.behind x.behind w.tasks x.tasks ln eb pl') h)
  armed_goes j M as1 es next n pre post up rs g gs w ps ts lo k lg lt ln lM far (lost s) h = h
  armed_goes j M as1 es next n pre post up rs g gs w ps ts lo k lg lt ln lM far (stops y) h = h
  armed_goes j M as1 es next n pre post up rs g gs w ps ts lo k lg lt ln lM far (sleeps s x) h = λ eb y0 m rs' pl' fi us y.
      let mn : m ≤ k = planted_steps (Unit {0}) (PS j) z m rs' x.tasks pl' in
      subst (λ u. Ends z (next_arm kind pl (ps ++ runs k ∷ []) es mine u post up rs' x.state
      (λ y. rested (y ∷ u) post up rs' x.state)) g) (onto_both ts us pre)
      (next m pre post up rs' g (with_arm gs (r.runs s no_arms)) x (ps ++ runs k ∷ []) (ts ++ us) k
      (legs_runs (PS j) z c.who lo x.state.clock.left k x.state.clock.left s us lt le_self y
      (legs_as (PS j) (PS j) z (λ m k s w ts h. h) c.who lo k x.state.clock.left hi0 (trans fi.steps mn) le_self lg))
      (trans fi.steps mn) fi.steps (trans (trans fi.steps mn) lM) (record { pre = far.pre; post = far.post })
      (shifted z j n m c (world_of pre post up rs q) (world_of pre post up rs' q) w.behind x.behind w.tasks x.tasks (on p st) g _
      (grown_arm j m k n pre post up rs rs' w.behind x.behind w.tasks x.tasks ln eb pl') h))

  starts_goes : (j M : ℕ) (as1 : tree.Trees) (es : List ℕ) → ArmsLead as1 es → Starts j M as1 es
  unfolding begins_scope
  starts_goes j M tree.no_trees [] al n pre post up rs g gs w ps ts lo lg tl tn tM far h =
      settled_here j M n pre post up rs g gs w ps ts lo lg tl tn tM far h
  starts_goes j M tree.no_trees (l ∷ es) al n pre post up rs g gs w ps ts lo lg tl tn tM far h = absurd al
  starts_goes j M (tree.more_trees a as1) [] al n pre post up rs g gs w ps ts lo lg tl tn tM far h = absurd al
  starts_goes j M (tree.more_trees a as1) (l ∷ es) al n pre post up rs g gs w ps ts lo lg tl tn tM far h =
      spends_cases j n (world_of pre post up rs q) w.behind w.tasks g w.state.clock.left w _ _ h (λ k e h.
      let lt : k < w.state.clock.left = omega (arith, e) in let ll : k < lo = sooner lt tl in
      let lh : k < hi0 = sooner ll (legs_low (PS j) z c.who lo w.state.clock.left lg) in
      let o' : Around = world_of (onto ts pre) post (begins mine kind pl ps k es ∷ up) rs k in
      let fa : Apart (c.who.path ++ k ∷ []) o' = record {
        pre = each_onto (Clear (c.who.path ++ k ∷ []) k) ts pre (legs_above (PS j) z c.who lo w.state.clock.left k k ll lg)
            (clear_child c.who.path k q k pre (sooner lh lq) far.pre);
        post = clear_child c.who.path k q k post (sooner lh lq) far.post;
      } in
      al.0.leads j M (stepped k w.state) o' w.tasks g (trans (weak lt) tM) lh (record { steps = le_self; low = le_self; apart = fa }) refl
      (part_goes z c.who k c.env (slots c) al.0.end al.0.here j k (onto ts pre) post
      (begins mine kind pl ps k es ∷ up) rs w.behind w.tasks g fa M (trans (weak lt) tM)
      (ev z.program (deeper z.program M) a true c.env (scene (stepped k w.state) none w.tasks))
      (armed_goes j M as1 es (starts_goes j M as1 es al.1) n pre post up rs g gs w ps ts lo k
      (legs_as (PS j) (PS j) z (λ m k s w ts h. h) c.who lo w.state.clock.left k hi0 (weak lt) le_self lg) ll (trans (weak lt) tn)
      (trans (weak lt) tM) far
      (scope_end z.program (deeper z.program M) r.part w.behind
      (ev z.program (deeper z.program M) a true c.env (scene (stepped k w.state) none w.tasks))) h)))

  -- a group, from its operation
  pub group_goes : (j M : ℕ) (a : Tree) (as1 : tree.Trees) (l : ℕ) (es : List ℕ) → ArmsLead (tree.more_trees a as1) (l ∷ es) →
      (n : ℕ) (pre post : List Task) (up : List Up) (rs : Trees) (g : Goal) (w : Scene) → w.state.clock.left ≤ hi0 →
      w.state.clock.left ≤ n → w.state.clock.left ≤ M → Apart c.who.path (world_of pre post up rs q) →
      Goes z j n c (world_of pre post up rs q) w.behind w.tasks (on p st) g
      (started z.program (deeper z.program M) kind pl (tree.more_trees a as1) c.env no_arms w) →
      Ends z (groups kind pl (l ∷ es) p c.who (world pre post up rs) w.state c.life ls st c.handlers c.below) g
  group_goes j M a as1 l es al n pre post up rs g w le ln lM far h = starts_goes j M (tree.more_trees a as1)
      (l ∷ es) al n pre post up rs g no_arms w [] [] hi0 (no_leg le_self) le ln lM far h
