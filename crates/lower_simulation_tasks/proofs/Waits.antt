-- The forms that wait: Sleep, and Await of a task and of an event.
use Rattle.std.proofs.Common.{◌≡◌, ℕ, List, Option, Some, None, Bool, true, false, sym, subst}
use Rattle.verse_base.specs.declared.places.Place.{Place}
use Rattle.verse_tree.specs.Tree.{Tree, tree, Trees}
use Rattle.verse_tree.specs.Tree as t
use Rattle.verse_value.specs.Val.{Val, task, event}
use Rattle.verse_meaning_state.specs.Waits.{Cause, never, after, heard, nth}
use Rattle.verse_meaning_state.specs.Effects.{event_of}
use Rattle.verse_meaning.specs.Residuals.{Scopes}
use Rattle.verse_meaning.specs.Outcomes.{World, Outcome, outside, suspended, if_there}
use Rattle.verse_meaning.specs.Forms.{awaited, task_awaited}
use Rattle.verse_meaning.specs.Runs.{deeper}
use Rattle.verse_code_machine.specs.Tasks.{Step, thread}
use Rattle.verse_code_machine.specs.Frames.{free, on_there, only_where}
use Rattle.verse_code_machine.specs.Ends.{suspends}
use Rattle.verse_code_machine.specs.Acts.{awaits}
use Rattle.lower_simulation.proofs.Claims.{Setting, Ends, Ctx, Around, frame_of, Good, Target, on, Tasks}
use Rattle.lower_simulation.proofs.Steps.{over}
use Rattle.lower_simulation.proofs.Going.{agrees}
use Rattle.lower_simulation.proofs.Leading.{LeadsTo, does_leads, open_leads}
use Rattle.lower_simulation.proofs.Forms.{EvLeads, op_leads}
use Rattle.lower_simulation_values.proofs.Tables.{AwaitsLead}
use Rattle.lower_simulation_tasks.proofs.Starts.{suspended_goes, awaited_goes, heard_goes}

module _ (z : Setting) where
  -- what is Stuck where a failure context is open
  pub outside_leads : {j n : ℕ} {c : Ctx} {o : Around} {b : Scopes} {f : Tasks} {k : Target} (w : Bool) (y : World)
      (go : World → Outcome) (q : Step) → free c.handlers c.life.noted c.below ≡ w →
      (free c.handlers c.life.noted c.below ≡ true → LeadsTo z j n c o b f q k (go y)) →
      LeadsTo z j n c o b f (only_where (free c.handlers c.life.noted c.below) y.state q) k (outside w y go)
  unfolding outside
  outside_leads true y go q e h = open_leads z y.state e (h e)
  outside_leads false y go q e h = record { go = λ g k. subst (λ t. Ends z (only_where t y.state q) g) (sym e) (over _ k) }

  suspended_leads : {j n : ℕ} {c : Ctx} {o : Around} {y : World} {ls st : List Val} {p : ℕ} (x : Cause) →
      free c.handlers c.life.noted c.below ≡ true → Good n c.who.path o c.held c.also c.size y.state ls →
      LeadsTo z j n c o y.behind y.tasks (suspends x (thread c.who (frame_of c ls st p) c.below) o.world y.state) (on p st)
      (suspended x c.env y)
  suspended_leads {j} {n} {c} {o} {y} {ls} {st} {p} x fr gd = record {
    go = λ g k. let fi = gd.fine in
        suspended_goes z c p st ls o.own fr (agrees gd) j n o.world.pre o.world.post o.world.ups o.world.trees g y x fi.steps fi.low
        fi.apart k;
  }

  task_leads : {j n : ℕ} {c : Ctx} {o : Around} {y : World} {ls st : List Val} {p : ℕ} (M : ℕ) (x : Option ℕ) →
      free c.handlers c.life.noted c.below ≡ true → Good n c.who.path o c.held c.also c.size y.state ls →
      LeadsTo z j n c o y.behind y.tasks (on_there x y.state
      (λ entry. awaits (nth y.state.clock.results entry) entry (thread c.who (frame_of c ls st p) c.below) o.world y.state)) (on p st)
      (if_there x y (λ entry. task_awaited z.program (deeper z.program M) (nth y.state.clock.results entry) entry c.env y))
  unfolding if_there
  task_leads M None fr gd = record { go = λ g k. over _ k }
  task_leads {j} {n} {c} {o} {y} {ls} {st} {p} M (Some entry) fr gd = record {
    go = λ g k. let fi = gd.fine in
        awaited_goes z c p st ls o.own fr (agrees gd) j n M o.world.pre o.world.post o.world.ups o.world.trees g y
        (nth y.state.clock.results entry) entry fi.steps fi.low fi.apart k;
  }

  event_leads : {j n : ℕ} {c : Ctx} {o : Around} {y : World} {ls st : List Val} {p : ℕ} (x : Option ℕ) →
      free c.handlers c.life.noted c.below ≡ true → Good n c.who.path o c.held c.also c.size y.state ls →
      LeadsTo z j n c o y.behind y.tasks (on_there x y.state
      (λ e. suspends (heard e) (thread c.who (frame_of c ls st p) c.below) o.world y.state)) (on p st)
      (if_there x y (λ e. suspended (heard e) c.env y))
  event_leads {j} {n} {c} {o} {y} {ls} {st} {p} x fr gd = record {
    go = λ g k. let fi = gd.fine in
        heard_goes z c p st ls o.own fr (agrees gd) j n o.world.pre o.world.post o.world.ups o.world.trees g y x fi.steps fi.low
        fi.apart k;
  }

  -- Await, behind its operand
  pub awaits_lead : (top : ℕ) → AwaitsLead z top
  awaits_lead top = record {
    of_task = λ entry w M j n c o y ls st a h fw lt lM g. does_leads z h.is
        (outside_leads w y (λ y. awaited z.program (deeper z.program M) false (task entry) c.env y) _ fw
        (λ fr. task_leads M (Some entry) fr g));
    of_event = λ e w M j n c o y ls st a h fw lt lM g. does_leads z h.is
        (outside_leads w y (λ y. awaited z.program (deeper z.program M) true (event e) c.env y) _ fw
        (λ fr. event_leads (event_of (event e) y.state) fr g));
  }

  module _ (differ : ℕ → ℕ → Bool) (top : ℕ) where
    pub sleep_leads : (n : ℕ) (pl : Place) (d : ℕ) → EvLeads z differ top (tree n pl (t.Shape.sleep d))
    sleep_leads n pl d ss a s e out w M j m c o y ls st i sc fw lt lM ab g = op_leads z i
        (λ h. outside_leads w y (λ y. suspended (after d y.state) c.env y) _ fw (λ fr. suspended_leads (after d y.state) fr g))

    pub forever_leads : (n : ℕ) (pl : Place) → EvLeads z differ top (tree n pl t.Shape.sleep_forever)
    forever_leads n pl ss a s e out w M j m c o y ls st i sc fw lt lM ab g = op_leads z i
        (λ h. outside_leads w y (λ y. suspended never c.env y) _ fw (λ fr. suspended_leads never fr g))
