-- Where no task runs, those above go on.
use Rattle.std.proofs.Common.{◌≡◌, Result, Ok, Err, IfOk, List, map, reverse, refl, sym, subst}
use Rattle.verse_value.specs.Runs.{Line}
use Rattle.verse_code_machine.specs.Tasks.{Step}
use Rattle.verse_code_machine.specs.Ends.{rested, grouped, arm_did}
use Rattle.sim_clock.specs.declared.waits.Pending.{Pending}
use Rattle.vm_running.specs.Views.{View, state_of}
use Rattle.vm_tasks.specs.View.{kind_of, part_of}
use Rattle.vm_scheduler.specs.declared.tasks.Begins.{Begins}
use Rattle.vm_scheduler.specs.declared.tasks.Tasks.{Tasks}
use Rattle.vm_scheduler.specs.declared.tasks.Went.{Went}
use Rattle.vm_scheduler.specs.declared.tasks.Went.TheVariants as went
use Rattle.vm_scheduler.specs.Frames.{threaded}
use Rattle.vm_scheduler.specs.Meets.{Moves, Meets}
use Rattle.vm_group.specs.Groups.{on_rest, Hand, Settles, ArmEnded}
use Rattle.vm_suspend.specs.Idle.{Idle, RestsTo}
use Rattle.vm_complete.specs.Groups.{IdleAt, RestsOn, SettlesOn, ArmEndsOn}

module _ {W : Type 0} (pending : W → List Pending) where
  pub idle_down : (d : Went) (v : View) (t : Tasks W) → d ≡ went.Down → IdleAt pending d v t → Idle pending v t
  idle_down d v t e h = subst (λ z. IdleAt pending z v t) e h

  rests_down : (r : Went) (v u : View) (t s : Tasks W) → RestsTo pending r v t u s → RestsOn pending went.Down r v t u s
  rests_down r v u t s k = record {
    rests = λ q past l.
        subst (λ z. Meets pending z past r u s) (sym l.is)
        (subst (λ p. Meets pending (rested l.world.pre l.world.post l.world.ups l.world.trees (state_of l.aside v)) p r u s) l.same
        (k.rests l.aside l.world l.standing l.bare));
  }

  pub down_rests : {E : Type 0} (d : Result Went E) (w : Went) (v u : View) (t s : Tasks W) → w ≡ went.Down →
      IfOk d (λ r. RestsTo pending r v t u s) → IfOk d (λ r. RestsOn pending w r v t u s)
  down_rests (Err e) w v u t s is k = tt
  down_rests (Ok r) w v u t s is k = subst (λ z. RestsOn pending z r v t u s) (sym is) (rests_down r v u t s k)

  pub others_rest : (w : Went) (v : View) (t : Tasks W) → (w ≡ went.Down → ⊥) → RestsOn pending w w v t v t
  others_rest went.On v t not = record { rests = λ q past k. k }
  others_rest (went.Over e) v t not = record { rests = λ q past k. k }
  others_rest went.Down v t not = absurd (not refl)

  idle_of : (d : Went) (q : Step) (past : List Line) (v : View) (t : Tasks W) → Moves pending q past d v t → IdleAt pending d v t
  idle_of went.On q past v t k = tt
  idle_of (went.Over e) q past v t k = tt
  idle_of went.Down q past v t k = record { aside = k.aside; world = k.world; standing = k.standing; bare = k.bare }

  pub settled_idle : (d : Went) (b : Begins) (v u : View) (t s : Tasks W) → Hand pending b v t → Settles pending b d v t u s →
      IdleAt pending d u s
  settled_idle d b v u t s h k = idle_of d _ _ u s (k.settles h.aside h.who h.world h.standing h.bare h.suspended)

  pub ended_idle : (d : Went) (b : Begins) (v u : View) (t s : Tasks W) → Hand pending b v t → ArmEnded pending b d v t u s →
      IdleAt pending d u s
  ended_idle d b v u t s h k = idle_of d _ _ u s (k.ended h.aside h.who h.world h.standing h.bare h.suspended)

  pub settles_on : {E : Type 0} (r : Result Went E) (d : Went) (b : Begins) (v u u2 : View) (t s s2 : Tasks W) →
      Settles pending b d v t u s → IfOk r (λ r. RestsOn pending d r u s u2 s2) → IfOk r (λ r. SettlesOn pending b r v t u2 s2)
  settles_on (Err e) d b v u u2 t s s2 k more = tt
  settles_on (Ok r) d b v u u2 t s s2 k more = record {
    meets = λ a w o st bare sus.
        more.rests (grouped (kind_of b.kind) b.place (map part_of b.arms.items) (threaded w b.thread) o (state_of a v)
        (on_rest o (state_of a v))) a.past (k.settles a w o st bare sus);
  }

  pub arm_ends_on : {E : Type 0} (r : Result Went E) (d : Went) (b : Begins) (v u u2 : View) (t s s2 : Tasks W) →
      ArmEnded pending b d v t u s → IfOk r (λ r. RestsOn pending d r u s u2 s2) → IfOk r (λ r. ArmEndsOn pending b r v t u2 s2)
  arm_ends_on (Err e) d b v u u2 t s s2 k more = tt
  arm_ends_on (Ok r) d b v u u2 t s s2 k more = record {
    meets = λ a w o st bare sus.
        more.rests (arm_did (kind_of b.kind) b.place (map part_of b.arms.items) (reverse b.labels.items)
        (threaded w b.thread) o.pre o.post o.ups o.trees (state_of a v) (on_rest o (state_of a v))) a.past (k.ended a w o st bare sus);
  }
