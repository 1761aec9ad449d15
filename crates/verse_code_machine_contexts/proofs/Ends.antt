-- Where a frame ends, and an arm.
use Rattle.std.proofs.Common.{None, ◌≡◌, ℕ, List, [], ◌∷◌, ◌++◌, ◌⊎◌, inl, inr, Option, Some, Bool, true, false, cond}
use Rattle.std.proofs.Common.{refl, sym, subst, ap, ◌∙◌}
use Rattle.verse_code.specs.declared.codes.Code.{Code}
use Rattle.verse_value.specs.Val.{Val}
use Rattle.verse_value.specs.declared.runs.Ending.TheVariants as ending
use Rattle.verse_meaning_state.specs.State.{State}
use Rattle.verse_meaning_state.specs.Waits.{eqn}
use Rattle.verse_meaning_state.specs.Turns.{Kind, race, rush}
use Rattle.verse_code_machine.specs.Tasks.{Life, Handler, Frame, root, part, Who, Part, did, runs, Thread, thread}
use Rattle.verse_code_machine.specs.Tasks.{Task, After, resuming, closing, finishing, Trees, World, Machine, Step}
use Rattle.verse_code_machine.specs.Tasks.{Over, onto, same_path, since, beneath_arms}
use Rattle.verse_code_machine.specs.Frames.{only_where, clean, nothing}
use Rattle.verse_code_machine.specs.Cancelling.{cancels, world_without}
use Rattle.verse_code_machine.specs.Ends.{resumes, first_did, is_run, with_did, joined, climbs, returns, ends}
use Rattle.verse_code_machine.specs.Ends.{returns_role, follows}
use Rattle.verse_code_machine.specs.Runs.{step}
use Rattle.verse_code_machine_parents.specs.Parents.{EachTask, AllStill, Still, MachineRooted, StepRooted}
use Rattle.verse_code_machine_parents.specs.Cancelled.{NoneSince, CancelledOnce}
use Rattle.verse_code_machine_parents.proofs.Lists.{no_both}
use Rattle.verse_code_machine_parents.proofs.Leaving.{each_onto}
use Rattle.verse_code_machine_parents.proofs.Running.{operation_roots}
use Rattle.verse_code_machine_contexts.specs.Runs.{Comes}
use Rattle.verse_code_machine_contexts.specs.Scopes.{EndsFrame, returns as frame_returns, finishes, ends as arm_ends}
use Rattle.verse_code_machine_contexts.specs.Scopes.{begun_by, ScopeEnds}
use Rattle.verse_code_machine_contexts.specs.Scopes.{ScopesEnd}
use Rattle.verse_code_machine_contexts.specs.Races.{Joins, beginning, standing, ArmEnds, RaceEnds, RacesCancel}
use Rattle.verse_code_machine_contexts.specs.Races.{RushesLeave}
use Rattle.verse_code_machine_contexts.proofs.Contexts.{comes_rooted, run_rooted}
use Rattle.verse_code_machine_contexts.proofs.Cancels.{each_without, cancels_all}
use Rattle.verse_code_machine_contexts.specs.Waits.{Waits, TasksWait, UpsWait, WorldWaits}
use Rattle.verse_code_machine_contexts.proofs.Waits.{without_wait}
use Rattle.verse_code_machine_contexts.proofs.WaitRuns.{run_waits}
use Rattle.verse_code_machine_contexts.proofs.Names.{names_begun, names_beneath}

-- ---- a frame

-- stuck, or this
abbrev OrStuck : Step → State → Step → Type 0
OrStuck q s r = (q ≡ Over ending.Stuck s) ⊎ (q ≡ r)

cleanly : (g : Life) (s : State) (q r : Step) → OrStuck q s r → OrStuck (clean g s q) s r
cleanly g s q r e = by_test (nothing g.defers g.noted)
  where
    by_test : (b : Bool) → OrStuck (only_where b s q) s r
    by_test true = e
    by_test false = inl refl

returns_so : (w : Who) (o : World) (born : ℕ) (v : Val) (s : State) (hs : List Handler) (f : Frame) (fs : List Frame) →
    OrStuck (returns w o born v s hs (f ∷ fs)) s (cancels (follows (resuming (thread w f fs) v)) (resuming (thread w f
    fs) v) (since w.path born) o s)
returns_so w o born v s (h ∷ hs) f fs = inl refl
returns_so w o born v s [] f fs = inr refl

finishes_so : (w : Who) (o : World) (born : ℕ) (v : Val) (s : State) (hs : List Handler) (entry : Option ℕ) → w.role ≡
    root entry →
    OrStuck (returns w o born v s hs []) s (cancels (follows (finishing w entry v)) (finishing w entry v) (since w.path
    born) o s)
finishes_so w o born v s (h ∷ hs) entry e = inl refl
finishes_so w o born v s [] entry e = inr (ap (λ r. returns_role r w o born v s) e)

ends_so : (w : Who) (o : World) (born : ℕ) (v : Val) (s : State) (hs : List Handler) → w.role ≡ part →
    OrStuck (ends w o born v s hs []) s (cancels (follows (closing w v)) (closing w v) (since w.path born) o s)
ends_so w o born v s (h ∷ hs) e = inl refl
ends_so w o born v s [] e = inr (rw e refl)

frame_ends : {c : Code} {m : Machine} {a : After} → EndsFrame c m a →
    OrStuck (step c m) m.state (cancels (follows a) a (begun_by m) m.world m.state)
frame_ends {m = m} (frame_returns f fs v st op b e) = rw (op, e) (cleanly m.frame.life m.state _ _ (rw b (returns_so
    m.who m.world
    m.frame.life.born v m.state m.frame.handlers f fs)))
frame_ends {m = m} (finishes entry v st op b r e) = rw (op, e) (cleanly m.frame.life m.state _ _ (rw b (finishes_so
    m.who m.world
    m.frame.life.born v m.state m.frame.handlers entry r)))
frame_ends {m = m} (arm_ends v st op b r e) = rw (op, e) (cleanly m.frame.life m.state _ _ (rw b (ends_so m.who m.world
    m.frame.life.born v m.state m.frame.handlers r)))

scope_ends : NoneSince → CancelledOnce → (c : Code) (m : Machine) (a : After) → MachineRooted m → EndsFrame c m a → (r :
    Step) → Comes c (step c m) r →
    ScopeEnds c a m r
scope_ends since_none once c m a rooted over r p = by_way (frame_ends over)
  where
    by_way : OrStuck (step c m) m.state (cancels (follows a) a (begun_by m) m.world m.state) → ScopeEnds c a m r
    by_way (inl e) = inl e
    by_way (inr e) = inr (cancels_all since_none once c a (begun_by m) m.world m.state rooted.world.pre
        rooted.world.post (subst StepRooted
        e (operation_roots c m rooted)) r (subst (λ q. Comes c q r) e p))

pub scopes_end : NoneSince → CancelledOnce → ScopesEnd
scopes_end since_none once c ns steps until m i a e = (names_begun m, scope_ends since_none once c m a (run_rooted i) e)

-- ---- an arm

abbrev HasValue : List Part → Type 0
HasValue gs = (value : Val) × (first_did gs ≡ Some value)

last_did : (gs : List Part) (v : Val) → HasValue (gs ++ did v ∷ [])
last_did [] v = (v, refl)
last_did (did w ∷ gs) v = (w, refl)
last_did (runs n ∷ gs) v = last_did gs v

one_did : (n : ℕ) (v : Val) (gs : List Part) → is_run n gs ≡ true → HasValue (with_did n v gs)
one_did n v [] e = no_both (sym e)
one_did n v (did w ∷ gs) e = (w, refl)
one_did n v (runs m ∷ gs) e = by_test (λ h. one_did n v gs h) (eqn n m) e
  where
    by_test : (is_run n gs ≡ true → (value : Val) × (first_did (with_did n v gs) ≡ Some value)) → (b : Bool) →
        cond b true (is_run n gs) ≡ true →
        (value : Val) × (first_did (cond b (did v ∷ gs) (runs m ∷ with_did n v gs)) ≡ Some value)
    by_test go true e = (v, refl)
    by_test go false e = go e

joins_value : {w : Who} {v : Val} {o q : World} {k : Kind} {x : Thread} {gs : List Part} {ls : List ℕ} →
    Joins w v o k x gs ls q → HasValue gs
joins_value {v = v} (beginning k p gs n ls x us e) = last_did gs v
joins_value {w = w} {v = v} (standing k p gs y ts post e b others is rest arm) = one_did w.number v gs arm

-- the parent among the tasks behind
climbs_to : (up : List ℕ) (n : ℕ) (v : Val) (pre ts : List Task) (y : Task) (post : List Task) (trees : Trees) (s :
    State) →
    EachTask (λ t. same_path up t.thread.who.path ≡ false) ts → same_path up y.thread.who.path ≡ true →
    climbs up n v pre (ts ++ y ∷ post) trees s ≡ joined n v y.rest y (onto ts pre) post trees s
climbs_to up n v pre [] y post trees s a e = rw e refl
climbs_to up n v pre (t ∷ ts) y post trees s a e = rw a.0 (climbs_to up n v (t ∷ pre) ts y post trees s a.1 e)

race_step : {w : Who} {v : Val} {o q : World} {x : Thread} {gs : List Part} {ls : List ℕ} (u : State) (value : Val) →
    w.role ≡ part →
    Joins w v o race x gs ls q → first_did gs ≡ Some value →
    follows (closing w v) o u ≡ cancels (follows (resuming x value)) (resuming x value) (beneath_arms x.who.path gs) q u
race_step u value r (beginning _ p gs n ls x us e) h = rw (r, e, h) refl
race_step {w = w} {v = v} {o = o} u value r (standing _ p gs y ts post e b others is rest arm) h =
    rw (r, e, b) (climbs_to w.up w.number v o.pre ts y post o.trees u others is ∙ rw (rest, arm, h) refl)

rush_step : {w : Who} {v : Val} {o q : World} {x : Thread} {gs : List Part} {ls : List ℕ} (u : State) (value : Val) →
    w.role ≡ part →
    Joins w v o rush x gs ls q → ls ≡ [] → first_did gs ≡ Some value → follows (closing w v) o u ≡ resumes x value q
    u
rush_step u value r (beginning _ p gs n ls x us e) l h = rw (r, e, l, h) refl
rush_step {w = w} {v = v} {o = o} u value r (standing _ p gs y ts post e b others is rest arm) l h =
    rw (r, e, b) (climbs_to w.up w.number v o.pre ts y post o.trees u others is ∙ rw (rest, arm, h) refl)

each_parts : (are : Task → Type 0) (ts : List Task) (y : Task) (post : List Task) → EachTask are (ts ++ y ∷ post) →
    EachTask are ts × EachTask are post
each_parts are [] y post a = (tt, a.1)
each_parts are (t ∷ ts) y post a = let r = each_parts are ts y post a.1 in ((a.0, r.0), r.1)

joins_still : {w : Who} {v : Val} {o q : World} {k : Kind} {x : Thread} {gs : List Part} {ls : List ℕ} → Joins w v o k x
    gs ls q →
    AllStill o.pre → AllStill o.post → AllStill q.pre × AllStill q.post
joins_still (beginning k p gs n ls x us e) a b = (a, b)
joins_still {o = o} (standing k p gs y ts post e f others is rest arm) a b =
    let r = each_parts (λ t. Still t.thread) ts y post (subst AllStill f b) in
    (each_onto (λ t. Still t.thread) ts o.pre r.0 a, r.1)

closing_role : {c : Code} {m : Machine} {v : Val} → EndsFrame c m (closing m.who v) → m.who.role ≡ part
closing_role e = parts e refl
  where
    same_who : {w x : Who} {v y : Val} → closing w v ≡ closing x y → w ≡ x
    same_who e = cc

    parts : {c : Code} {m : Machine} {a : After} {v : Val} → EndsFrame c m a → a ≡ closing m.who v → m.who.role ≡ part
    parts (frame_returns f fs v st op b e) h = cc
    parts (finishes entry v st op b r e) h = cc
    parts (arm_ends v st op b r e) h = r

-- a race has the value of the arm that ends
module _ (v : Val) where
  first_last : (gs : List Part) → first_did gs ≡ None → first_did (gs ++ did v ∷ []) ≡ Some v
  first_last [] e = refl
  first_last (did w ∷ gs) e = cc
  first_last (runs n ∷ gs) e = first_last gs e

  first_with : (n : ℕ) (gs : List Part) → first_did gs ≡ None → is_run n gs ≡ true → first_did (with_did n v gs) ≡ Some
      v
  first_with n [] e h = no_both (sym h)
  first_with n (did w ∷ gs) e h = cc
  first_with n (runs m ∷ gs) e h = by_test (λ i. first_with n gs e i) (eqn n m) h
    where
      by_test : (is_run n gs ≡ true → first_did (with_did n v gs) ≡ Some v) → (b : Bool) → cond b true (is_run n gs) ≡
          true → first_did (cond b (did v ∷ gs) (runs m ∷ with_did n v gs)) ≡ Some v
      by_test go true e = refl
      by_test go false e = go e

race_value : {w : Who} {v : Val} {o q : World} {x : Thread} {gs : List Part} {ls : List ℕ} → Joins w v o race x gs
    ls q → WorldWaits o → first_did gs ≡ Some v
race_value {v = v} (beginning _ p gs n ls x us e) a = first_last v gs (subst UpsWait e a.ups).0
race_value {w = w} {v = v} (standing _ p gs y ts post e b others is rest arm) a =
    first_with v w.number gs (subst Waits rest (one_of ts y post (subst TasksWait b a.post))) arm
  where
    one_of : (ts : List Task) (y : Task) (post : List Task) → TasksWait (ts ++ y ∷ post) → Waits y.rest
    one_of [] y post a = a.0
    one_of (t ∷ ts) y post a = one_of ts y post a.1

race_ends : NoneSince → CancelledOnce → (c : Code) (m : Machine) (v : Val) (u : State) → MachineRooted m → WorldWaits
    m.world → ArmEnds c m v u → (x : Thread) (gs : List Part) (ls : List ℕ) (o : World) → Joins m.who v (world_without
    (begun_by m) m.world) race x gs ls o → (r : Step) → Comes c (follows (closing m.who v) (world_without (begun_by
    m) m.world) u) r → RaceEnds c x v gs o u r
race_ends since_none once c m v u rooted waits arm x gs ls o joins r p = record {
  first = value;
  names = names_beneath x.who.path gs;
  cancels = cancels_all since_none once c (resuming x v) (beneath_arms x.who.path gs) o u still.0 still.1 (subst
      StepRooted steps
      (comes_rooted arm.comes (operation_roots c m rooted))) r (subst (λ q. Comes c q r) steps p);
}
  where
    value : first_did gs ≡ Some v
    value = race_value joins (without_wait (begun_by m) m.world waits)

    still : AllStill o.pre × AllStill o.post
    still = joins_still joins (each_without (λ t. Still t.thread) (begun_by m) m.world.pre rooted.world.pre)
        (each_without (λ t. Still t.thread) (begun_by m) m.world.post rooted.world.post)

    steps : follows (closing m.who v) (world_without (begun_by m) m.world) u ≡ cancels (follows (resuming x v))
        (resuming x v) (beneath_arms x.who.path gs) o u
    steps = race_step u v (closing_role arm.ends) joins value

pub races_cancel : NoneSince → CancelledOnce → RacesCancel
races_cancel since_none once c ns steps until m i v u arm x gs ls o joins r p =
    race_ends since_none once c m v u (run_rooted i) (run_waits c ns steps until m i) arm x gs ls o joins r p

pub rushes_leave : RushesLeave
rushes_leave c ns steps until m i v u arm x gs o joins = let value = joins_value joins in
    (value.0, value.1, rush_step u value.0 (closing_role arm.ends) joins refl value.1)
