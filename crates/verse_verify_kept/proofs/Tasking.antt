-- Operations of tasks: Return, ArmEnd, Sleep, Forever, awaits, Branch, Spawn, Group.
use Rattle.std.proofs.Common.{◌≡◌, ℕ, zero, suc, ◌+◌, length, List, [], ◌∷◌, ◌++◌, Option, Some, None, Bool, true, false, refl, sym, subst}
use Rattle.std.proofs.Common.{ap}
use Rattle.std.proofs.Common.{◌∙◌, ◌-◌, arith, ◌≤◌}
use Rattle.std.specs.Prelude.{slice_get}
use Rattle.std.proofs.lemmas.Option.{same_Some, none-some}
use Rattle.verse_code.specs.declared.operations.Op.TheVariants as o
use Rattle.verse_code.specs.declared.codes.Code.{Code}
use Rattle.verse_value.specs.Val as v
use Rattle.verse_value.specs.Val.{Val}
use Rattle.verse_meaning_state.specs.State.{State, Given, Signal, with_result, stepped, signalled}
use Rattle.verse_meaning_state.specs.Waits.{heard}
use Rattle.verse_meaning_state.specs.Effects.{event_at, event_in, signal_sent}
use Rattle.verse_value.specs.Store.{Cell}
use Rattle.verse_value.specs.declared.runs.CellKind.{CellKind}
use Rattle.verse_code_machine.specs.Tasks.{Life, Handler, Note, Frame, Role, root, part, Who, Thread, thread, Task, After, resuming}
use Rattle.verse_code_machine.specs.Tasks.{closing, finishing}
use Rattle.verse_code_machine.specs.Tasks.{stuck, Up, branching, clearing, World, world, Next, machine, life_from, child_named, since}
use Rattle.verse_code_machine.specs.Frames.{free, nothing, on_many, on_there, goes, answered}
use Rattle.verse_code_machine.specs.Cancelling.{without, world_without, cancelled, cancels}
use Rattle.verse_code_machine.specs.Ends.{suspends, resumes, role_ends, ends_role, ends, returns_role, returns}
use Rattle.verse_code_machine.specs.Acts.{frame, spawns, act, awaits, groups, kind_of, after_arms, labels, on_label, label_of}
use Rattle.verse_code_machine.specs.Frames.{behind}
use Rattle.verse_meaning_state.specs.Waits.{nth}
use Rattle.verse_base.specs.declared.places.Place.{Place}
use Rattle.verse_sorts.specs.Sorts as sort
use Rattle.verse_sorts.specs.Sorts.{Sort}
use Rattle.verse_sorts.specs.Typing.{at, Typing, Grows, Adds, is_unit, is_task, is_event, are_no, are_so}
use Rattle.verse_sorts.proofs.Fitting.{is_up, are_more, are_up, grows_itself, adds_itself, fits_itself}
use Rattle.verse_verify_kept.specs.Notes.{FuncNote, Point, Notes, parent_of}
use Rattle.verse_verify_kept.specs.Known.{Known}
use Rattle.verse_verify_kept.specs.Rules.{Begins, Arms, arms_no, arms_so, Grouped, sync_gives, race_gives, Arm, Kin, To, Fit, Passes}
use Rattle.verse_verify_kept.specs.Rules.{MayWait}
use Rattle.verse_verify_kept.specs.Rules as r
use Rattle.verse_verify_kept.specs.Kept.{CellIs, var_is, object_is, event_is, CellsAre, cells_no, cells_so, Giver, func_gives, arm_gives}
use Rattle.verse_verify_kept.specs.Kept.{giver, Of, All, StoreIs, Own, own, plain, Beneath, Below, without_top}
use Rattle.verse_verify_kept.specs.Others.{KindGives, all_give, first_gives, rush_gives, LabelsAre, labels_no, labels_so, parts_no, Starts}
use Rattle.verse_verify_kept.specs.Others.{SignalsAre, signals_no, signals_so, ups_branch, ups_spawn, ThreadIs, till_gives, never_gives}
use Rattle.verse_verify_kept.specs.Others.{done_gives, heard_gives, ResultsAre, results_no, result_none, result_some, coming, closing_with}
use Rattle.verse_verify_kept.specs.Others.{RoleIs, main_is, root_is, part_is, Alone, World_is, TasksAre, tasks_no, Tasked}
use Rattle.verse_verify_kept.proofs.Going.{next, Ends, only_good, goes_to, Fresh, same_giver}
use Rattle.verse_verify_kept.proofs.Acts.{spends, stepped_fresh, many_good, giver_is, Topped, topped, split_top, wait_on}
use Rattle.verse_verify_kept.proofs.Places.{moves}
use Rattle.verse_verify_kept.proofs.Chains.{resume_good, below_more, Plainly, plain_here, plain_rest, plain_free, plain_back, free_more}
use Rattle.verse_verify_kept.proofs.Chains.{giver_waits, Openly, opens_chain}
use Rattle.verse_verify_kept.proofs.Worlds.{ends_grown, tasked_more, thread_more, ups_more, tasks_more, trees_more, results_more}
use Rattle.verse_verify_kept.proofs.Worlds.{signals_more}
use Rattle.verse_verify_kept.proofs.Locals.{joined_are, units_are}
use Rattle.verse_code.specs.declared.codes.Func.{Func}
use Rattle.verse_verify_kept.proofs.Resting.{Fine_step, Calm, Parented, plain_all, calm_without, cancelled_are, clears_tasks, suspends_good}
use Rattle.verse_verify_kept.proofs.Resting.{resumes_good, part_begins, part_grows, arm_begins, cells_more, at_more, at_end}
use Rattle.verse_verify_kept.proofs.Ending.{below_map, ends_without, part_over, root_over, calm_of, tasked_without, no_true, below_to}
use Rattle.verse_verify_kept.proofs.Ending.{ends_tasked, ends_down, ends_any, cleared_good, Placed}
use Rattle.verse_verify_kept.proofs.Blocks.{block_ends}

arm_starts : {c : Code} {n : Notes} {t : Typing} {p : Point} {l : ℕ} {e : Sort} {ls : List Val} → Arm c n p l e →
    All c n t ls p.locals → Starts c n t ls l e
arm_starts {n = n} m a = record {
  point = m.point;
  live = m.live;
  arm = m.arm;
  locals = are_up (parent_of n) a m.locals;
  stack = m.stack;
  tries = m.tries;
  block = m.block;
  outer = m.outer;
  under = m.under;
  defers = m.defers;
}

signals_end : {c : Code} {n : Notes} {t : Typing} {xs ys : List Signal} → SignalsAre c n t xs → SignalsAre c n t ys →
    SignalsAre c n t (xs ++ ys)
signals_end signals_no b = b
signals_end (signals_so e i r) b = signals_so e i (signals_end r b)

event_cell : {c : Code} {n : Notes} {t : Typing} {xs : List Cell} {ys : List Sort} {a : Sort} (i k : ℕ) → CellsAre c n t xs ys →
    at ys i ≡ Some (sort.event a) → event_at k (slice_get xs i) ≡ Some k
event_cell i k cells_no e = elim (none-some _ e) [ ]
event_cell zero k (cells_so {x = x} {a = b} i r) e = by_cell i (same_Some _ _ e)
  where
    by_cell : {c : Code} {n : Notes} {t : Typing} {kd : CellKind} {vs : List Val} {b a : Sort} → CellIs c n t kd vs b →
        b ≡ sort.event a → event_in k kd ≡ Some k
    by_cell (var_is i) e = not_var e
      where
        not_var : {a b : Sort} {A : Type 0} → sort.var a ≡ sort.event b → A
        not_var e = cc
    by_cell (object_is h i) e = not_obj e
      where
        not_obj : {k : ℕ} {b : Sort} {A : Type 0} → sort.obj k ≡ sort.event b → A
        not_obj e = cc
    by_cell event_is e = refl
event_cell (suc i) k (cells_so j r) e = event_cell i k r e

event_there : (c : Code) (n : Notes) {t : Typing} {a : Sort} (xs : List Cell) (i : ℕ) → CellsAre c n t xs t.cells →
    at t.cells i ≡ Some (sort.event a) → event_at i (slice_get xs i) ≡ Some i
event_there c n xs i z e = event_cell i i z e

results_end : {c : Code} {n : Notes} {t : Typing} {rs : List (Option Given)} {xs : List Sort} (a : Sort) → ResultsAre c n t rs xs →
    ResultsAre c n t (rs ++ None ∷ []) (xs ++ a ∷ [])
results_end a results_no = result_none results_no
results_end a (result_none r) = result_none (results_end a r)
results_end a (result_some i r) = result_some i (results_end a r)

results_count : {c : Code} {n : Notes} {t : Typing} {rs : List (Option Given)} {xs : List Sort} → ResultsAre c n t rs xs →
    length rs ≡ length xs
results_count results_no = refl
results_count (result_none r) = ap suc (results_count r)
results_count (result_some i r) = ap suc (results_count r)

pub ends_world : (c : Code) (n : Notes) → Ends c n (World_is c n)
ends_world c n w x rs gs k g t r e = no_both (sym r.0.0 ∙ e)
  where
    no_both : false ≡ true → ⊥
    no_both e = cc

-- what a spawned task has given
data Resulted (c : Code) (n : Notes) (t : Typing) : Option (Option Given) → Sort → Type 0 where
  not_yet : {a : Sort} → Resulted c n t (Some None) a
  given : {g : Given} {a : Sort} → Of c n t g.value a → Resulted c n t (Some (Some g)) a

got_result : {c : Code} {n : Notes} {t : Typing} {rs : List (Option Given)} {xs : List Sort} {a : Sort} (i : ℕ) → ResultsAre c n t rs xs →
    at xs i ≡ Some a → Resulted c n t (nth rs i) a
got_result i results_no e = elim (none-some _ e) [ ]
got_result zero (result_none r) e = not_yet
got_result {c = c} {n = n} {t = t} zero (result_some {g = g} j r) e = given (subst (Of c n t g.value) (same_Some _ _ e) j)
got_result (suc i) (result_none r) e = got_result i r e
got_result (suc i) (result_some j r) e = got_result i r e

module _ (c : Code) (n : Notes) (ok : Known c n) (w : Who) (x : World) (s : State) (pc : ℕ) (t : Typing) (p : Point) (z : StoreIs c n t
    s.memory.store) (f : Fresh c n (World_is c n) t s.clock.left) where
  abbrev Other : Giver → Bool → Typing → Type 0
  Other = World_is c n w x s.clock.results s.clock.signals s.clock.next

  grown : (g : Giver) (t u : Typing) → Other g false t → Adds t u → Other g false u
  grown g t u a k = ends_grown c n x.pre x.post x.trees s.clock.results s.clock.signals s.clock.next x.ups w g t u a k

  -- the frame below takes any value of the sort
  closed_below : (a : Giver) (h : Frame) (fs : List Frame) (u : Typing) → Below c n Other a (h ∷ fs) false u →
      Below c n Other (coming false a.result) (h ∷ fs) false u
  closed_below a h fs u r = (
    r.0,
    record {
      live = r.1.live;
      whole = refl;
      top = r.1.top;
      st = r.1.st;
      stack = r.1.stack;
      fits = r.1.fits;
      fails = λ e. no_true c n ok e;
      waits = λ e. no_true c n ok e;
      stands = r.1.stands;
    },
  )

  frames_return : (bl : List Frame) (born : ℕ) (u : Val) (a : Giver) → a.part ≡ false → Below c n Other a bl false t → Of c n t u a.result →
      Fine_step c n (returns w x born u s [] bl)
  frames_return (h ∷ fs) born u a whole r i =
      clears_tasks c n ok (λ o s. resumes (thread w h fs) u o s) (resuming (thread w h fs) u) (cancelled away x) s tasks z f (λ ts y g ks.
      (ks, a.result, i, now)) (resume_good c n (thread w h fs) u (world_without away x) s t (coming false a.result) now i z f)
    where
      away : List ℕ → Bool
      away = since w.path born

      now : Below c n (World_is c n w (world_without away x) s.clock.results s.clock.signals s.clock.next) (coming false a.result) (h ∷ fs)
          false t
      now =
          below_map c n Other (World_is c n w (world_without away x) s.clock.results s.clock.signals s.clock.next)
          (λ g b u r. ends_without c n away x.pre x.post x.trees s.clock.results s.clock.signals s.clock.next x.ups w g b u r) (h ∷ fs)
          (coming false a.result) false t (closed_below a h fs t r)

      tasked : Tasked c n t x.pre x.post x.trees
      tasked =
          below_to c n Other (λ u. Tasked c n u x.pre x.post x.trees) (λ g b u r. ends_tasked c n x.pre x.post x.trees s.clock.results
          s.clock.signals s.clock.next x.ups w g b u r) (λ u t w k. tasked_more c n w.grows k) (h ∷ fs) a false t r

      tasks : TasksAre c n t (cancelled away x)
      tasks = cancelled_are c n ok x.ups away tasked
  frames_return [] born u a whole r i = by_role r.0.1 refl
    where
      away : List ℕ → Bool
      away = since w.path born

      q : Calm c n t w x.pre x.post x.ups x.trees s
      q = calm_of c n ok z f r

      ending : (e : Option ℕ) → w.role ≡ root e → RoleIs c n t w.role w.number (coming false a.result) → Fine_step c n (cancels (λ o s.
          role_ends (root e) w u o (with_result e u s)) (finishing w e u) away x s)
      ending e role is =
          clears_tasks c n ok (λ o s. role_ends (root e) w u o (with_result e u s)) (finishing w e u) (cancelled away x) s
          (cancelled_are c n ok x.ups away q.tasked) z f
          (λ ts y g ks. (ks, a.result, i, role, ((refl, is), r.1, r.2, tasked_without c n away r.3)))
          (root_over c n ok e u role is i (calm_without c n ok away q))

      by_role : {y : Role} → RoleIs c n t y w.number a → w.role ≡ y → Fine_step c n (returns_role y w x born u s)
      by_role (main_is e) role = ending None role (subst (λ y. RoleIs c n t y w.number (coming false a.result)) (sym role) (main_is refl))
      by_role (root_is {e = e} h k l) role =
          ending (Some e) role (subst (λ y. RoleIs c n t y w.number (coming false a.result)) (sym role) (root_is refl k l))
      by_role (part_is h k l) role = no_true c n ok (sym whole ∙ h)

  part_end : (born : ℕ) (u : Val) (a : Giver) → a.part ≡ true → Other a false t → Of c n t u a.result → (x.ups ≡ [] →
      w.role ≡ part → Parented c n ok w.up (without (since w.path born) x.post)) → Fine_step c n (ends_role w.role w x born u s)
  part_end born u a is r i there = by_role r.0.1 refl
    where
      away : List ℕ → Bool
      away = since w.path born

      q : Calm c n t w x.pre x.post x.ups x.trees s
      q = calm_of c n ok z f r

      ending : w.role ≡ part → RoleIs c n t w.role w.number (closing_with a.result) → Fine_step c n (cancels (λ o s. role_ends part w u o
          s) (closing w u) away x s)
      ending role what =
          clears_tasks c n ok (λ o s. role_ends part w u o s) (closing w u) (cancelled away x) s (cancelled_are c n ok x.ups away q.tasked)
          z f (λ ts y g ks. (ks, a.result, i, ((refl, what), r.1, r.2, tasked_without c n away r.3)))
          (subst (λ y. Fine_step c n (role_ends y w
          u (world_without away x) s)) role (part_over c n ok {g = closing_with a.result} u refl what i there (calm_without c n ok away q)))

      by_role : {y : Role} → RoleIs c n t y w.number a → w.role ≡ y → Fine_step c n (ends_role y w x born u s)
      by_role (main_is e) role = no_true c n ok (sym e ∙ is)
      by_role (root_is e h k) role = no_true c n ok (sym e ∙ is)
      by_role (part_is e h k) role = ending role
          (subst (λ y. RoleIs c n t y w.number (closing_with a.result)) (sym role) (part_is refl h k))

  module _ (g : Life) (bl : List Frame) (ls above more : List Val) (hs : List Handler) (k : Beneath c n (Below c n Other (giver n p) bl) t p
      p.defers ls more hs g.defers g.noted) (a : All c n t ls p.locals) (b : All c n t above p.stack) where
    no_life : (d e : List ℕ) (ns : List Note) → d ≡ e → e ≡ [] → ns ≡ [] → nothing d ns ≡ true
    no_life d e ns f h k = subst (λ d. nothing d ns ≡ true) (sym (f ∙ h)) (subst (λ ns. nothing [] ns ≡ true) (sym k) refl)

    -- what holds beneath at the typing that is now
    raised : Plainly c n (Below c n Other (giver n p) bl) t p p.defers more hs g.defers g.noted → Below c n Other (giver n p) bl false t
    raised q = again (plain_rest c n q)
      where
        again : (u : Typing) × Adds u t × Below c n Other (giver n p) bl false u → Below c n Other (giver n p) bl false t
        again r = below_more c n Other grown (giver n p) bl r.0 t r.2 r.1

    pub return_good : Passes c n pc p o.Return → Fine_step c n (act c o.Return w x s g ls (above ++ more) pc hs bl)
    return_good (r.of_return {a = d} {st = st} {g = fn} e tries arm block defers func fit) = have (subst (All c n t above) e b)
      where
        q : Plainly c n (Below c n Other (giver n p) bl) t p p.defers more hs g.defers g.noted
        q = plain_here c n k tries block

        as_func : giver n p ≡ record { result = fn.result; part = false; may_fail = fn.may_fail; may_wait = fn.may_wait }
        as_func = giver_is n p fn arm func

        have : {above : List Val} → All c n t above (d ∷ st) → Fine_step c n (act c o.Return w x s g ls (above ++ more) pc hs bl)
        have (are_so {w = u} i rest) =
            only_good c n (World_is c n) s _ (no_life g.defers p.defers g.noted (plain_all c n q) defers (plain_free c n q).1) (subst (λ hs.
            Fine_step c n (returns w x g.born u s hs bl)) (sym (plain_free c n q).0) (frames_return bl g.born u (giver n p) (subst (λ (v :
            Giver). v.part ≡ false) (sym as_func) refl) (raised q) (subst (λ (v : Giver). Of c n t u v.result) (sym as_func) (is_up
            (parent_of n) i fit))))

    pub arm_end_good : (x.ups ≡ [] → w.role ≡ part → Parented c n ok w.up (without (since w.path g.born) x.post)) →
        Passes c n pc p o.ArmEnd → Fine_step c n (act c o.ArmEnd w x s g ls (above ++ more) pc hs bl)
    arm_end_good there (r.of_arm_end {a = d} {r = result} {st = st} e tries arm block defers fit) = have (subst (All c n t above) e b)
      where
        q : Plainly c n (Below c n Other (giver n p) bl) t p p.defers more hs g.defers g.noted
        q = plain_here c n k tries block

        is_part : (giver n p).part ≡ true
        is_part = subst (λ a. (arm_gives a (func_gives (slice_get n.functions p.func))).part ≡ true) (sym arm) refl

        gives_it : (giver n p).result ≡ result
        gives_it = subst (λ a. (arm_gives a (func_gives (slice_get n.functions p.func))).result ≡ result) (sym arm) refl

        by_frames : (bl : List Frame) (u : Val) → Below c n Other (giver n p) bl false t → Of c n t u (giver n p).result →
            Fine_step c n (ends w x g.born u s [] bl)
        by_frames [] u below i = part_end g.born u (giver n p) is_part below i there
        by_frames (h ∷ fs) u below i = no_true c n ok (sym below.1.whole ∙ is_part)

        have : {above : List Val} → All c n t above (d ∷ st) → Fine_step c n (act c o.ArmEnd w x s g ls (above ++ more) pc hs bl)
        have (are_so {w = u} i rest) =
            only_good c n (World_is c n) s _ (no_life g.defers p.defers g.noted (plain_all c n q) defers (plain_free c n q).1) (subst (λ hs.
            Fine_step c n (ends w x g.born u s hs bl)) (sym (plain_free c n q).0) (by_frames bl u (raised q) (subst (Of c n t u) (sym
            gives_it) (is_up (parent_of n) i fit))))

    -- the task may wait here, and goes on with a value of a sort
    pub record Waiting (y : Thread) (d : Sort) : Type 0 where
      pub calm : Calm c n t w x.pre x.post x.ups x.trees s
      pub thread_is : ThreadIs c n t d y

    pub may_free : MayWait c n p → free hs g.noted bl ≡ true
    may_free may = go (opens_chain c n Other grown bl (giver n p) t (raised q) (giver_waits c n p may))
      where
        q : Plainly c n (Below c n Other (giver n p) bl) t p p.defers more hs g.defers g.noted
        q = plain_here c n k may.tries may.block

        go : Openly c n Other (giver n p) bl t → free hs g.noted bl ≡ true
        go o = free_more c n bl (plain_free c n q) o.no_handler

    pub waiting : {d : Sort} {st : List Sort} {i : ℕ} (vs : List Val) → MayWait c n p → To c n p (d ∷ st) i → All c n t vs st →
        Waiting (thread w (frame g ls (vs ++ more) i hs) bl) d
    waiting {d = d} {st = st} {i = i} vs may l h =
        go (opens_chain c n Other grown bl (giver n p) t (raised q) (giver_waits c n p may)) (split_top l.stack)
      where
        q : Plainly c n (Below c n Other (giver n p) bl) t p p.defers more hs g.defers g.noted
        q = plain_here c n k may.tries may.block

        go : Openly c n Other (giver n p) bl t → Topped c n d st l.point.stack → Waiting (thread w (frame g ls (vs ++ more) i hs) bl) d
        go o (topped top ys is fit each) = record {
          calm = calm_of c n ok z f o.here;
          thread_is = (
            l.point,
            record {
              live = l.live;
              whole = refl;
              top = top;
              st = ys;
              stack = is;
              fits = fit;
              fails = λ e. no_true c n ok e;
              waits = λ e. wait_on l.kin l.tries may;
              stands = record {
                above = vs;
                more = more;
                split = refl;
                locals = are_up (parent_of n) a l.locals;
                stack = are_up (parent_of n) h each;
                beneath = subst (λ ds. Beneath c n (λ b u. Below c n (Alone c n w) (giver n l.point) bl b u) t (without_top c n l.point ys)
                    ds ls more hs g.defers g.noted) l.defers (subst
                    (λ v. Beneath c n (λ b u. Below c n (Alone c n w) v bl b u) t (without_top c n l.point ys) p.defers ls more hs g.defers
                    g.noted) (same_giver c n l.kin) (moves c n
                    (plain_back c n (λ b u. Below c n (Alone c n w) (giver n p) bl b u) q (o.back (Alone c n w) t grows_itself o.here.0))
                    kin l.tries adds_itself));
              };
            },
          );
        }
          where
            kin : Kin p (without_top c n l.point ys)
            kin = record { func = l.kin.func; arm = l.kin.arm; block = l.kin.block; outer = l.kin.outer; under = l.kin.under }

    opened_here : MayWait c n p → Openly c n Other (giver n p) bl t
    opened_here may = opens_chain c n Other grown bl (giver n p) t (raised (plain_here c n k may.tries may.block)) (giver_waits c n p may)

    pub sleep_good : {m : ℕ} → Passes c n pc p (o.Sleep m) → Fine_step c n (act c (o.Sleep m) w x s g ls (above ++ more) pc hs bl)
    sleep_good {m = m} (r.of_sleep may l) = go (waiting above may l b)
      where
        go : Waiting (thread w (frame g ls (above ++ more) (suc pc) hs) bl) sort.unit →
            Fine_step c n (act c (o.Sleep m) w x s g ls (above ++ more) pc hs bl)
        go y =
            only_good c n (World_is c n) s _ (may_free may) (suspends_good c n ok sort.unit _ _ y.calm y.thread_is (till_gives (fits_itself
            (parent_of n) sort.unit)))

    pub forever_good : Passes c n pc p o.Forever → Fine_step c n (act c o.Forever w x s g ls (above ++ more) pc hs bl)
    forever_good (r.of_forever may l) = go (waiting above may l b)
      where
        go : Waiting (thread w (frame g ls (above ++ more) (suc pc) hs) bl) sort.unit → Fine_step c n (act c o.Forever w x s g ls (above ++
            more) pc hs bl)
        go y = only_good c n (World_is c n) s _ (may_free may) (suspends_good c n ok sort.unit _ _ y.calm y.thread_is never_gives)

    pub await_task_good : Passes c n pc p o.AwaitTask → Fine_step c n (act c o.AwaitTask w x s g ls (above ++ more) pc hs bl)
    await_task_good (r.of_await_task {r = d} {st = st} may e l) = have (subst (All c n t above) e b)
      where
        have : {above : List Val} → All c n t above (sort.task d ∷ st) →
            Fine_step c n (act c o.AwaitTask w x s g ls (above ++ more) pc hs bl)
        have (are_so {vs = vs} (is_task {i = i} {a = a} h fit) rest) =
            only_good c n (World_is c n) s _ (may_free may) (go (waiting vs may l rest) (got_result i y.calm.clocked.results h))
          where
            y : Waiting (thread w (frame g ls (vs ++ more) (suc pc) hs) bl) d
            y = waiting vs may l rest

            go : Waiting (thread w (frame g ls (vs ++ more) (suc pc) hs) bl) d → Resulted c n t (nth s.clock.results i) a → Fine_step c n
                (awaits (nth s.clock.results i) i (thread w (frame g ls (vs ++ more) (suc pc) hs) bl) x s)
            go y q = by_result q refl
              where
                by_result : {m : Option (Option Given)} → Resulted c n t m a → nth s.clock.results i ≡ m → Fine_step c n (awaits m i (thread
                    w (frame g ls (vs ++ more) (suc pc) hs) bl) x s)
                by_result not_yet same = suspends_good c n ok d _ _ y.calm y.thread_is (done_gives h fit)
                by_result (given j) same = resumes_good c n d _ _ y.calm y.thread_is (is_up (parent_of n) j fit)
    await_task_good (r.of_no_task {st = st} may e l) = none (subst (All c n t above) e b)
      where
        none : {above : List Val} → All c n t above (sort.never ∷ st) →
            Fine_step c n (act c o.AwaitTask w x s g ls (above ++ more) pc hs bl)
        none (are_so i rest) = elim i [ ]

    pub await_event_good : Passes c n pc p o.AwaitEvent → Fine_step c n (act c o.AwaitEvent w x s g ls (above ++ more) pc hs bl)
    await_event_good (r.of_await_event {r = d} {st = st} may e l) = have (subst (All c n t above) e b)
      where
        have : {above : List Val} → All c n t above (sort.event d ∷ st) → Fine_step c n (act c o.AwaitEvent w x s g ls (above ++ more) pc hs
            bl)
        have (are_so {vs = vs} (is_event {i = i} h) rest) =
            only_good c n (World_is c n) s _ (may_free may)
            (subst (λ m. Fine_step c n (on_there m s (λ e. suspends (heard e) (thread w (frame g ls (vs ++ more) (suc pc) hs) bl) x s)))
            (sym (event_there c n s.memory.store i z h)) (go (waiting vs may l rest)))
          where
            go : Waiting (thread w (frame g ls (vs ++ more) (suc pc) hs) bl) d → Fine_step c n (suspends (heard i) (thread w (frame g ls (vs
                ++ more) (suc pc) hs) bl) x s)
            go y = suspends_good c n ok d _ _ y.calm y.thread_is (heard_gives h (fits_itself (parent_of n) d))
    await_event_good (r.of_no_event {st = st} may e l) = none (subst (All c n t above) e b)
      where
        none : {above : List Val} → All c n t above (sort.never ∷ st) →
            Fine_step c n (act c o.AwaitEvent w x s g ls (above ++ more) pc hs bl)
        none (are_so i rest) = elim i [ ]

    pub signal_good : Passes c n pc p o.Signal → Fine_step c n (act c o.Signal w x s g ls (above ++ more) pc hs bl)
    signal_good (r.of_signal {a = d} {r = e} {st = st} may h fit l) = have (subst (All c n t above) h b)
      where
        have : {above : List Val} → All c n t above (d ∷ sort.event e ∷ st) → Fine_step c n (act c o.Signal w x s g ls (above ++ more) pc hs
            bl)
        have (are_so {w = u} j (are_so {vs = vs} (is_event {i = i} q) rest)) =
            only_good c n (World_is c n) s _ (may_free may) (subst (λ m. Fine_step c n (answered None (signal_sent m u s) w x s g ls (vs ++
            more) pc hs bl)) (sym (event_there c n s.memory.store i z q)) (go (opened_here may)))
          where
            go : Openly c n Other (giver n p) bl t → Fine_step c n (goes w x s (signalled i u s)
                g ls (v.unit ∷ vs ++ more) (suc pc) hs bl)
            go y =
                goes_to c n (World_is c n) ok w x s (signalled i u s) g ls (v.unit ∷ vs) more hs bl t l a (are_so is_unit rest)
                (plain_back c n (λ b q. Below c n (World_is c n w x s.clock.results (signalled i u s).clock.signals s.clock.next)
                (giver n p) bl b q) (plain_here c n k may.tries may.block)
                (y.back (World_is c n w x s.clock.results (signalled i u s).clock.signals s.clock.next) t grows_itself (
                  y.here.0,
                  y.here.1,
                  record {
                    results = y.here.2.results;
                    signals = signals_end y.here.2.signals (signals_so q (is_up (parent_of n) j fit) signals_no);
                    waits = y.here.2.waits;
                  },
                  y.here.3,
                ))) z f
    signal_good (r.of_no_signal {a = d} {st = st} may e l) = none (subst (All c n t above) e b)
      where
        none : {above : List Val} → All c n t above (d ∷ sort.never ∷ st) →
            Fine_step c n (act c o.Signal w x s g ls (above ++ more) pc hs bl)
        none (are_so j (are_so i rest)) = elim i [ ]

    pub branch_good : {l : ℕ} → Passes c n pc p (o.Branch l) → Fine_step c n (act c (o.Branch l) w x s g ls (above ++ more) pc hs bl)
    branch_good {l = l} (r.of_branch {r = e} may arm to) =
        only_good c n (World_is c n) s _ (may_free may) (spends c n (World_is c n) s _ (λ m left. go m left (waiting above may to b)))
      where
        go : (m : ℕ) → s.clock.left ≡ suc m → Waiting (thread w (frame g ls (above ++ more) l hs) bl) sort.unit →
            Fine_step c n (Next (machine (child_named w m)
            (world x.pre x.post (branching (thread w (frame g ls (above ++ more) l hs) bl) ∷ x.ups) x.trees) (stepped m s) (life_from m) ls
            [] (suc pc) [] []))
        go m left y =
            part_begins c n ok m (suc pc) (child_named w m) ls left f z y.calm.clocked y.calm.tasked (arm_starts arm a) refl refl
            (ups_branch refl (thread_more c n (part_grows c n ok t m s.clock.left e left f) sort.unit
            (thread w (frame g ls (above ++ more) l hs) bl) y.thread_is)
            (ups_more c n (part_grows c n ok t m s.clock.left e left f) y.calm.ups))

    pub group_good : {kd m q : ℕ} → (pl : Place) → slice_get c.places q ≡ Some pl → Passes c n pc p (o.Group kd m q) →
        Fine_step c n (act c (o.Group kd m q) w x s g ls (above ++ more) pc hs bl)
    group_good {kd = kd} {m = m} {q = q} pl at_place (r.of_group {r = e} {ls = labs} {rs = rs} may two arms gives to) =
        only_good c n (World_is c n) s _ (may_free may) (subst (λ z. Fine_step c n (on_there z s (λ q. on_there (labels c.ops (suc pc) m) s
        (λ ks. groups (kind_of kd) q ks (after_arms (suc pc) m) w x s g ls (above ++ more) hs bl)))) (sym at_place) (subst (λ z.
        Fine_step c n (on_there z s (λ ks. groups (kind_of kd) pl ks (after_arms (suc pc) m) w x s g ls (above ++ more) hs bl))) (sym
        (labels_there arms)) (go arms two gives (waiting above may (subst (λ i. To c n p (e ∷ p.stack) i) (sym (after_is (suc pc) m))
        to) b))))
      where
        after_is : (i m : ℕ) → after_arms i m ≡ i + m
        after_is i zero = omega arith
        after_is i (suc m) = after_is (suc i) m ∙ omega arith

        labels_there : {i m : ℕ} {labs : List ℕ} {rs : List Sort} → Arms c n p i m labs rs → labels c.ops i m ≡ Some labs
        labels_there arms_no = refl
        labels_there {i = i} (arms_so {m = m} {l = l} {ls = more} e h r) =
            subst (λ o. on_label (label_of o) (labels c.ops (suc i) m) ≡ Some (l ∷ more)) (sym e) (subst (λ z. behind l z ≡ Some (l ∷ more))
            (sym (labels_there r)) refl)

        starts : {i m : ℕ} {labs : List ℕ} {rs : List Sort} → Arms c n p i m labs rs → LabelsAre c n t ls labs rs
        starts arms_no = labels_no
        starts (arms_so e h r) = labels_so (arm_starts h a) (starts r)

        kinds : (kd : ℕ) {rs : List Sort} {e : Sort} → Grouped c n kd rs e → KindGives c n (kind_of kd) rs e
        kinds zero sync_gives = all_give (fits_itself (parent_of n) _)
        kinds (suc zero) (race_gives k) = first_gives k
        kinds (suc (suc kd)) (race_gives k) = rush_gives k

        no_two : {A : Type 0} → 2 ≤ 0 → A
        no_two h = absurd (omega (arith, h))

        go : {i k : ℕ} {labs : List ℕ} {rs : List Sort} → Arms c n p i k labs rs → 2 ≤ k → Grouped c n kd rs e → Waiting (thread w (frame g
            ls (above ++ more) (after_arms (suc pc) m) hs) bl) e → Fine_step c n (groups (kind_of kd) pl labs (after_arms (suc pc) m) w x s
            g ls (above ++ more) hs bl)
        go arms_no two gives y = no_two two
        go (arms_so h arm r) two gives y =
            arm_begins c n ok e (kind_of kd) pl (thread w (frame g ls (above ++ more) (after_arms (suc pc) m) hs) bl) (λ y. stuck s) y.calm
            y.thread_is parts_no (arm_starts arm a) (starts r) (kinds kd gives)

    pub spawn_from : {fn : Func} {gn : FuncNote} (j : ℕ) (vs rest : List Val) → slice_get c.functions j ≡ Some fn →
        slice_get n.functions j ≡ Some gn → All c n t vs gn.params → gn.may_fail ≡ false → Waiting (thread w (frame g ls (rest ++ more)
        (suc pc) hs) bl) (sort.task gn.result) → Fine_step c n (spawns fn vs (thread w (frame g ls (rest ++ more) (suc pc) hs) bl) x s)
    spawn_from {fn = fn} {gn = gn} j vs rest e d h sure y =
        spends c n (World_is c n) s _ (λ m left. next (record {
          typing = u;
          point = first.point;
          locals = first.point.locals;
          ds = [];
          live = first.live;
          own = subst (Own c n fn.entry first.point first.point.locals) first.defers own;
          store = cells_more c n ok grows z;
          fresh = stepped_fresh c n (World_is c n) t left f;
          stands = record {
            above = [];
            more = [];
            split = refl;
            locals = are_up (parent_of n) (joined_are (parent_of n) u (are_more (parent_of n) grows h)
                (units_are (parent_of n) u (fn.locals - fn.params))) first.locals;
            stack = subst (All c n u []) (sym first.stack) are_no;
            beneath = plain (record {
              tries = first.tries;
              block = first.block;
              outer = first.outer;
              under = first.under;
            }) adds_itself (
              (no_fail, as_root _),
              ups_spawn refl entry (thread_more c n grows (sort.task gn.result) (thread w (frame g ls (rest ++ more) (suc pc) hs) bl)
                  y.thread_is) (tasks_more
                  c n grows y.calm.tasked.pre_are) (tasks_more c n grows y.calm.tasked.post_are) (ups_more c n grows y.calm.ups),
              record {
                results = results_end gn.result (results_more c n grows y.calm.clocked.results);
                signals = signals_more c n grows y.calm.clocked.signals;
                waits = y.calm.clocked.waits;
              },
              record {
                pre_are = tasks_no;
                post_are = tasks_no;
                before_are = trees_more c n grows y.calm.tasked.before_are;
                behind_are = trees_more c n grows y.calm.tasked.behind_are;
              },
            );
          };
        }))
      where
        u : Typing
        u = record t { entries = t.entries ++ gn.result ∷ [] }

        grows : Grows t u
        grows = record {
          cells = λ i s h. h;
          entries = λ i s h. at_more c n ok t.entries (gn.result ∷ []) i s h;
          waits = λ i s h. h;
          parts = λ i s h. h;
        }

        first : Begins c n fn j gn
        first = ok.begins j fn gn e d

        as_func : giver n first.point ≡ record { result = gn.result; part = false; may_fail = gn.may_fail; may_wait = gn.may_wait }
        as_func = giver_is n first.point gn first.arm (subst (λ f. slice_get n.functions f ≡ Some gn) (sym first.func) d)

        no_fail : (giver n first.point).may_fail ≡ false
        no_fail = subst (λ (v : Giver). v.may_fail ≡ false) (sym as_func) sure

        entry : at u.entries (length s.clock.results) ≡ Some gn.result
        entry =
            subst (λ i. at u.entries i ≡ Some gn.result) (sym (results_count y.calm.clocked.results)) (at_end c n ok t.entries gn.result)

        as_root : (i : ℕ) → RoleIs c n u (root (Some (length s.clock.results))) i (giver n first.point)
        as_root i =
            root_is (subst (λ (v : Giver). v.part ≡ false) (sym as_func) refl) entry (subst (λ (v : Giver). Fit c n v.result gn.result) (sym
            as_func) (fits_itself (parent_of n) gn.result))

    pub spawn_good : {j : ℕ} → Passes c n pc p (o.Spawn j) → Fine_step c n (act c (o.Spawn j) w x s g ls (above ++ more) pc hs bl)
    spawn_good {j = j} (r.of_spawn {q = fn} {g = gn} may e d pops fit sure l) =
        only_good c n (World_is c n) s _ (may_free may) (subst (λ m. Fine_step c n (on_there m s (λ (fn : Func). on_many fn.params (above ++
        more) [] s (λ vs st. spawns fn vs (thread w (frame g ls st (suc pc) hs) bl) x s)))) (sym e) (many_good c n (World_is c n) ok
        (ends_world c n) w x s g pc bl t p z f ls more hs k a above [] _ pops b are_no (λ vs rest h i. spawn_from j vs rest e d (are_up
        (parent_of n) h fit) sure (waiting rest may l i))))

    pub defer_end_good : ((after : After) (ts : List Task) (vs : List Up) → x.ups ≡ clearing after ts ∷ vs →
        Placed c n ok vs after x.post) → Passes c n pc p o.DeferEnd → Fine_step c n (act c o.DeferEnd w x s g ls (above ++ more) pc hs bl)
    defer_end_good placed q =
        block_ends c n (World_is c n) ok w x s pc bl t p z f (λ u h r m. cleared_good c n ok x.pre x.post x.trees s x.ups w h placed z f
        (ends_down c n x.pre x.post x.trees s.clock.results s.clock.signals s.clock.next x.ups w h u t r m))
        (λ s u g h r. ends_any c n x.pre x.post x.trees s.clock.results s.clock.signals s.clock.next x.ups w g h u r) g.born ls above more
        hs k a b q
