-- The other tasks stay as they are where more is there.
use Rattle.std.proofs.Common.{◌≡◌, ℕ, length, List, ◌∷◌, ◌++◌, Option, true, false, refl, subst}
use Rattle.verse_code.specs.declared.codes.Code.{Code}
use Rattle.verse_value.specs.Val.{Val}
use Rattle.verse_meaning_state.specs.State.{Given, Signal}
use Rattle.verse_meaning_state.specs.Waits.{Cause}
use Rattle.verse_meaning_state.specs.Turns.{Kind}
use Rattle.verse_code_machine.specs.Tasks.{Role, Who, Part, Thread, Task, Up, Trees, onto}
use Rattle.verse_sorts.specs.Sorts.{Sort}
use Rattle.verse_sorts.specs.Typing.{Typing, Grows, Adds}
use Rattle.verse_sorts.proofs.Fitting.{are_more, is_more}
use Rattle.verse_verify_kept.specs.Notes.{Notes, parent_of}
use Rattle.verse_verify_kept.specs.Kept.{Giver}
use Rattle.verse_verify_kept.specs.Others.{coming, RoleIs, main_is, root_is, part_is, Alone, ThreadIs, Causes, till_gives, never_gives}
use Rattle.verse_verify_kept.specs.Others.{done_gives}
use Rattle.verse_verify_kept.specs.Others.{heard_gives, PartsAre, parts_no, part_did, part_runs, LabelsAre, labels_no, labels_so, TaskIs}
use Rattle.verse_verify_kept.specs.Others.{sleeps, groups, TasksAre, tasks_no, tasks_so, TreesAre, trees_no, trees_so, Begun, UpsAre}
use Rattle.verse_verify_kept.specs.Others.{ups_no}
use Rattle.verse_verify_kept.specs.Others.{ups_begin, ups_branch, ups_spawn, ResultsAre, results_no, result_none, result_some, SignalsAre}
use Rattle.verse_verify_kept.specs.Others.{signals_no, signals_so, Clocked, Tasked, Ends_in}
use Rattle.verse_verify_kept.proofs.Chains.{Openly, opens_chain}

module _ (c : Code) (n : Notes) where
  pub onto_are : {t : Typing} {xs ts : List Task} → TasksAre c n t xs → TasksAre c n t ts → TasksAre c n t (onto xs ts)
  onto_are tasks_no b = b
  onto_are (tasks_so i r) b = onto_are r (tasks_so i b)

  pub tasks_joined : {t : Typing} {xs ts : List Task} → TasksAre c n t xs → TasksAre c n t ts → TasksAre c n t (xs ++ ts)
  tasks_joined tasks_no b = b
  tasks_joined (tasks_so i r) b = tasks_so i (tasks_joined r b)

  pub trees_joined : {t : Typing} {xs ts : List (List Task)} → TreesAre c n t xs → TreesAre c n t ts → TreesAre c n t (xs ++ ts)
  trees_joined trees_no b = b
  trees_joined (trees_so i r) b = trees_so i (trees_joined r b)

  pub parts_joined : {t : Typing} {gs hs : List Part} {xs ys : List Sort} → PartsAre c n t gs xs → PartsAre c n t hs ys →
      PartsAre c n t (gs ++ hs) (xs ++ ys)
  parts_joined parts_no b = b
  parts_joined (part_did i r) b = part_did i (parts_joined r b)
  parts_joined (part_runs e f r) b = part_runs e f (parts_joined r b)

  module _ {t u : Typing} (w : Grows t u) where
    role_more : {r : Role} {i : ℕ} {g : Giver} → RoleIs c n t r i g → RoleIs c n u r i g
    role_more (main_is e) = main_is e
    role_more (root_is e h f) = root_is e (w.entries _ _ h) f
    role_more (part_is e h f) = part_is e (w.parts _ _ h) f

    pub alone_more : (x : Who) (g : Giver) → Alone c n x g false t → Alone c n x g false u
    alone_more x g a = (a.0, role_more a.1)

  alone_grown : (x : Who) (g : Giver) (t u : Typing) → Alone c n x g false t → Adds t u → Alone c n x g false u
  alone_grown x g t u a w = alone_more w.grows x g a

  module _ {t u : Typing} (w : Grows t u) where
    pub thread_more : (a : Sort) (x : Thread) → ThreadIs c n t a x → ThreadIs c n u a x
    thread_more a x r = again (opens_chain c n (Alone c n x.who) (alone_grown x.who) (x.frame ∷ x.below) (coming true a) t r refl)
      where
        again : Openly c n (Alone c n x.who) (coming true a) (x.frame ∷ x.below) t → ThreadIs c n u a x
        again o = o.back (Alone c n x.who) u w (alone_more w x.who o.first o.here)

    pub causes_more : {y : Cause} {a : Sort} → Causes c n t y a → Causes c n u y a
    causes_more (till_gives f) = till_gives f
    causes_more never_gives = never_gives
    causes_more (done_gives e f) = done_gives (w.entries _ _ e) f
    causes_more (heard_gives e f) = heard_gives (w.cells _ _ e) f

    pub parts_more : {gs : List Part} {xs : List Sort} → PartsAre c n t gs xs → PartsAre c n u gs xs
    parts_more parts_no = parts_no
    parts_more (part_did i r) = part_did (is_more (parent_of n) w i) (parts_more r)
    parts_more (part_runs e f r) = part_runs (w.parts _ _ e) f (parts_more r)

    pub labels_more : {vs : List Val} {ls : List ℕ} {xs : List Sort} → LabelsAre c n t vs ls xs → LabelsAre c n u vs ls xs
    labels_more labels_no = labels_no
    labels_more (labels_so s r) = labels_so (record {
      point = s.point;
      live = s.live;
      arm = s.arm;
      locals = are_more (parent_of n) w s.locals;
      stack = s.stack;
      tries = s.tries;
      block = s.block;
      outer = s.outer;
      under = s.under;
      defers = s.defers;
    }) (labels_more r)

    pub task_more : {x : Task} → TaskIs c n t x → TaskIs c n u x
    task_more (sleeps {x = x} {a = a} e h f r) = sleeps e (w.waits _ _ h) (causes_more f) (thread_more a x.thread r)
    task_more (groups {x = x} {a = a} e ps k r) = groups e (parts_more ps) k (thread_more a x.thread r)

    pub tasks_more : {xs : List Task} → TasksAre c n t xs → TasksAre c n u xs
    tasks_more tasks_no = tasks_no
    tasks_more (tasks_so i r) = tasks_so (task_more i) (tasks_more r)

    pub trees_more : {xs : List (List Task)} → TreesAre c n t xs → TreesAre c n u xs
    trees_more trees_no = trees_no
    trees_more (trees_so i r) = trees_so (tasks_more i) (trees_more r)

    pub begun_more : {y : Thread} {k : Kind} {gs : List Part} {m : ℕ} {ls : List ℕ} → Begun c n t y k gs m ls → Begun c n u y k gs m ls
    begun_more {y = y} b = record {
      result = b.result;
      before = b.before;
      given = b.given;
      running = b.running;
      after = b.after;
      thread = thread_more b.result y b.thread;
      parts = parts_more b.parts;
      names = w.parts _ _ b.names;
      fits = b.fits;
      labels = labels_more b.labels;
      gives = b.gives;
    }

    pub ups_more : {x : Who} {us : List Up} → UpsAre c n t x us → UpsAre c n u x us
    ups_more ups_no = ups_no
    ups_more (ups_begin e f b r) = ups_begin e f (begun_more b) (ups_more r)
    ups_more (ups_branch {y = y} e b r) = ups_branch e (thread_more _ y b) (ups_more r)
    ups_more (ups_spawn {y = y} e h b p q r) = ups_spawn e (w.entries _ _ h) (thread_more _ y b) (tasks_more p) (tasks_more q) (ups_more r)

    pub results_more : {rs : List (Option Given)} {xs : List Sort} → ResultsAre c n t rs xs → ResultsAre c n u rs xs
    results_more results_no = results_no
    results_more (result_none r) = result_none (results_more r)
    results_more (result_some i r) = result_some (is_more (parent_of n) w i) (results_more r)

    pub signals_more : {gs : List Signal} → SignalsAre c n t gs → SignalsAre c n u gs
    signals_more signals_no = signals_no
    signals_more (signals_so e i r) = signals_so (w.cells _ _ e) (is_more (parent_of n) w i) (signals_more r)

    pub tasked_more : {pre post : List Task} {trees : Trees} → Tasked c n t pre post trees → Tasked c n u pre post trees
    tasked_more k = record {
      pre_are = tasks_more k.pre_are;
      post_are = tasks_more k.post_are;
      before_are = trees_more k.before_are;
      behind_are = trees_more k.behind_are;
    }

  clocked_added : (t u : Typing) {rs : List (Option Given)} {gs : List Signal} {k : ℕ} → Clocked c n t rs gs k → Adds t u →
      Clocked c n u rs gs k
  clocked_added t u {rs = rs} {k = k} a w = record {
    results = subst (ResultsAre c n u rs) w.entries (results_more w.grows a.results);
    signals = signals_more w.grows a.signals;
    waits = subst (λ (xs : List Sort). length xs ≡ k) w.waits a.waits;
  }

  -- what holds beneath the first frame holds where cells are added
  pub ends_grown : (pre post : List Task) (trees : Trees) (rs : List (Option Given)) (gs : List Signal) (k : ℕ) (us : List Up) (x : Who)
      (g : Giver) (t u : Typing) → Ends_in c n pre post trees rs gs k us x g false t → Adds t u →
      Ends_in c n pre post trees rs gs k us x g false u
  ends_grown pre post trees rs gs k us x g t u a w =
      (alone_more w.grows x g a.0, ups_more w.grows a.1, clocked_added t u a.2 w, tasked_more w.grows a.3)
