-- A task at its group: it goes on with a value, or stands there.
use Rattle.std.proofs.Common.{◌≡◌, ◌≢◌, ◌⊎◌, inl, inr, ℕ, true, false, Result, Ok, Err, IfOk, List, [], ◌∷◌, map, reverse, Option, Some}
use Rattle.std.proofs.Common.{None, is_some, refl, sym, ap, subst, ◌∙◌}
use Rattle.task_tree.specs.Tasks.{IsLive}
use Rattle.task_tree.specs.Nested.{IsTree}
use Rattle.verse_base.specs.declared.refusals.Kind as fault
use Rattle.verse_base.proofs.Facts.{none_is}
use Rattle.verse_value.specs.Val.{Val}
use Rattle.verse_value.specs.Answer.{gives, fails, error, stuck}
use Rattle.verse_value.specs.Operations.{tuple_of}
use Rattle.verse_value.specs.declared.runs.Ending.TheVariants as ending
use Rattle.verse_meaning_state.specs.State.{State}
use Rattle.verse_meaning_state.specs.Turns as turns
use Rattle.verse_code_machine.specs.Tasks as m
use Rattle.verse_code_machine.specs.Tasks.{Who, Part, World, Step, Over, resuming, beneath_arms}
use Rattle.verse_code_machine.specs.Cancelling.{cancels}
use Rattle.verse_code_machine.specs.Ends.{resumes, all_did, first_did, tupled, or_stands, grouped, next_arm, arm_did}
use Rattle.sim_clock.specs.declared.waits.Pending.{Pending}
use Rattle.vm_tasks_laws.specs.Slots.{held}
use Rattle.vm_tasks_laws.proofs.Steps.{group_over}
use Rattle.vm_running.specs.Views.{View, Aside, state_of}
use Rattle.vm_tasks.specs.View.{slot_of, kind_of, part_of}
use Rattle.vm_tasks.specs.declared.slots.Kind.{Kind}
use Rattle.vm_tasks.specs.declared.slots.Kind.TheVariants.{Sync, Race, Rush}
use Rattle.vm_scheduler.specs.declared.tasks.Begins.{Begins}
use Rattle.vm_scheduler.specs.declared.tasks.Tasks.{Tasks}
use Rattle.vm_scheduler.specs.declared.tasks.Went.{Went}
use Rattle.vm_scheduler.specs.declared.tasks.Went.TheVariants as went
use Rattle.vm_scheduler.specs.Frames.{frames_in, threaded}
use Rattle.vm_scheduler.specs.Ups.{ups_of, id_of}
use Rattle.vm_scheduler.specs.Standing.{Standing}
use Rattle.vm_scheduler.specs.Meets.{Moves, MovesOn}
use Rattle.vm_scheduler.specs.Moving.{Resumes}
use Rattle.vm_scheduler.proofs.Running.{on_moves}
use Rattle.vm_scheduler.proofs.Seated.{live_stands}
use Rattle.vm_begin.specs.Arms.{BeginsArm}
use Rattle.vm_group.specs.Groups.{on_rest, Hand, Settles, NextArm, ArmEnded, StandsThere, CancelsArms}

pub some_not : {A : Type 0} (o : Option A) → is_some o ≡ true → o ≢ None
some_not None e n = absurd (cc)
some_not (Some x) e n = absurd (cc)

module _ {W : Type 0} (pending : W → List Pending) where
  pub hand_live : (b : Begins) (v : View) (t : Tasks W) → IsTree t.tree → Hand pending b v t → IsLive b.id t.tree
  hand_live b v t nested h = live_stands t.tree (map id_of (ups_of t.ups.items)) b.id h.who
      (Some (map part_of b.arms.items)) h.world nested h.standing.stands

  pub group_free : (id : ℕ) (w : Who) (gs : List Part) (a : Aside) (o : World) (v : View) (t : Tasks W) → IsTree t.tree →
      Standing pending (held id w (Some gs) ∷ []) a o v t → Standing pending (held id w None ∷ []) a o v t
  group_free id w gs a o v t nested s = record {
    clock = s.clock;
    stands = group_over (slot_of frames_in) t.tree (map id_of (ups_of t.ups.items)) id w (Some gs) o s.stands nested;
    ups = s.ups;
    still = s.still;
    none = s.none;
  }

  pub hand_labels : (b c : Begins) (v : View) (t : Tasks W) → c ≡ record b { labels = c.labels } → Hand pending b v t → Hand pending c v t
  hand_labels b c v t same h =
      subst (λ z. Hand pending z v t) (sym same)
      (record { aside = h.aside; who = h.who; world = h.world; standing = h.standing; bare = h.bare; suspended = h.suspended })

  -- it stands there

  settles_as : (b : Begins) (r : Went) (v : View) (t s : Tasks W) →
      ((w : Who) (o : World) (st : State) (stands : m.Task → Step) →
      grouped (kind_of b.kind) b.place (map part_of b.arms.items) (threaded w b.thread) o st stands ≡
      stands (record { thread = threaded w b.thread; rest = m.group (kind_of b.kind) b.place (map part_of b.arms.items) })) →
      StandsThere pending b r v t s → Settles pending b r v t v s
  settles_as b r v t s is c = record {
    settles = λ a w o st bare sus. subst (λ q. Moves pending q a.past r v s) (sym (is w o (state_of a v) (on_rest o (state_of a v))))
        (c.stands a w o st bare sus);
  }

  no_value : (k : Kind) (b : Begins) (w : Who) (o : World) (st : State) (stands : m.Task → Step) → k ≡ Sync →
      is_some (all_did (map part_of b.arms.items)) ≡ false →
      grouped (kind_of k) b.place (map part_of b.arms.items) (threaded w b.thread) o st stands ≡
      stands (record { thread = threaded w b.thread; rest = m.group (kind_of k) b.place (map part_of b.arms.items) })
  no_value Sync b w o st stands e none =
      ap (λ z. or_stands z (stands (record {
        thread = threaded w b.thread;
        rest =
            m.group turns.sync b.place (map part_of b.arms.items);
      })) (λ vs. tupled b.place (tuple_of vs) (threaded w b.thread) o st))
      (none_is (all_did (map part_of b.arms.items)) none)
  no_value Race b w o st stands e none = absurd (cc)
  no_value Rush b w o st stands e none = absurd (cc)

  pub settles_not_all : (b : Begins) (r : Went) (v : View) (t s : Tasks W) → b.kind ≡ Sync →
      is_some (all_did (map part_of b.arms.items)) ≡ false → StandsThere pending b r v t s → Settles pending b r v t v s
  settles_not_all b r v t s k none c = settles_as b r v t s (λ w o st stands. no_value b.kind b w o st stands k none) c

  no_first : (k : Kind) (b : Begins) (w : Who) (o : World) (st : State) (stands : m.Task → Step) → k ≡ Race →
      is_some (first_did (map part_of b.arms.items)) ≡ false →
      grouped (kind_of k) b.place (map part_of b.arms.items) (threaded w b.thread) o st stands ≡
      stands (record { thread = threaded w b.thread; rest = m.group (kind_of k) b.place (map part_of b.arms.items) })
  no_first Sync b w o st stands e none = absurd (cc)
  no_first Race b w o st stands e none =
      ap (λ z. or_stands z (stands (record {
        thread = threaded w b.thread;
        rest =
            m.group turns.race b.place (map part_of b.arms.items);
      }))
      (λ v. cancels (λ o s. resumes (threaded w b.thread) v o s) (resuming (threaded w b.thread) v)
      (beneath_arms w.path (map part_of b.arms.items)) o st))
      (none_is (first_did (map part_of b.arms.items)) none)
  no_first Rush b w o st stands e none = absurd (cc)

  pub settles_not_first : (b : Begins) (r : Went) (v : View) (t s : Tasks W) → b.kind ≡ Race →
      is_some (first_did (map part_of b.arms.items)) ≡ false → StandsThere pending b r v t s → Settles pending b r v t v s
  settles_not_first b r v t s k none c = settles_as b r v t s (λ w o st stands. no_first b.kind b w o st stands k none) c

  no_rush : (k : Kind) (b : Begins) (w : Who) (o : World) (st : State) (stands : m.Task → Step) → k ≡ Rush →
      is_some (first_did (map part_of b.arms.items)) ≡ false →
      grouped (kind_of k) b.place (map part_of b.arms.items) (threaded w b.thread) o st stands ≡
      stands (record { thread = threaded w b.thread; rest = m.group (kind_of k) b.place (map part_of b.arms.items) })
  no_rush Sync b w o st stands e none = absurd (cc)
  no_rush Race b w o st stands e none = absurd (cc)
  no_rush Rush b w o st stands e none =
      ap (λ z. or_stands z (stands (record {
        thread = threaded w b.thread;
        rest =
            m.group turns.rush b.place (map part_of b.arms.items);
      })) (λ v. resumes (threaded w b.thread) v o st))
      (none_is (first_did (map part_of b.arms.items)) none)

  pub settles_not_rush : (b : Begins) (r : Went) (v : View) (t s : Tasks W) → b.kind ≡ Rush →
      is_some (first_did (map part_of b.arms.items)) ≡ false → StandsThere pending b r v t s → Settles pending b r v t v s
  settles_not_rush b r v t s k none c = settles_as b r v t s (λ w o st stands. no_rush b.kind b w o st stands k none) c

  -- it has a value

  all_have : (k : Kind) (b : Begins) (vs : List Val) (w : Who) (o : World) (st : State) (stands : m.Task → Step) → k ≡ Sync →
      all_did (map part_of b.arms.items) ≡ Some vs →
      grouped (kind_of k) b.place (map part_of b.arms.items) (threaded w b.thread) o st stands ≡
      tupled b.place (tuple_of vs) (threaded w b.thread) o st
  all_have Sync b vs w o st stands e some =
      ap (λ z. or_stands z (stands (record {
        thread = threaded w b.thread;
        rest =
            m.group turns.sync b.place (map part_of b.arms.items);
      })) (λ vs. tupled b.place (tuple_of vs) (threaded w b.thread) o st)) some
  all_have Race b vs w o st stands e some = absurd (cc)
  all_have Rush b vs w o st stands e some = absurd (cc)

  goes_on : (b : Begins) (x : Val) (r : Went) (v u : View) (t s : Tasks W) →
      ((w : Who) (o : World) (st : State) (stands : m.Task → Step) →
      grouped (kind_of b.kind) b.place (map part_of b.arms.items) (threaded w b.thread) o st stands ≡
      resumes (threaded w b.thread) x o st) → IsTree t.tree →
      Resumes pending b.id b.thread x r v t u s → Settles pending b r v t u s
  goes_on b x r v u t s is nested k = record {
    settles = λ a w o st bare sus.
        on_moves pending (grouped (kind_of b.kind) b.place (map part_of b.arms.items) (threaded w b.thread) o (state_of a v)
        (on_rest o (state_of a v))) a.past r u s
        (subst (λ q. MovesOn pending q a.past r u s) (sym (is w o (state_of a v) (on_rest o (state_of a v))))
        (k.resumes a w o (group_free b.id w (map part_of b.arms.items) a o v t nested st) bare sus));
  }

  pub tuple_ok : {E : Type 0} (d : Result Went E) (b : Begins) (vs : List Val) (x : Val) (v u : View) (t s : Tasks W) → b.kind ≡ Sync →
      all_did (map part_of b.arms.items) ≡ Some vs → tuple_of vs ≡ gives x → IsTree t.tree →
      IfOk d (λ r. Resumes pending b.id b.thread x r v t u s) → IfOk d (λ r. Settles pending b r v t u s)
  tuple_ok (Err e) b vs x v u t s k some is nested h = tt
  tuple_ok (Ok r) b vs x v u t s k some is nested h =
      goes_on b x r v u t s (λ w o st stands. all_have b.kind b vs w o st stands k some ∙
      ap (λ z. tupled b.place z (threaded w b.thread) o st) is) nested h

  pub tuple_error : (b : Begins) (vs : List Val) (f : fault.Kind) (v : View) (t s : Tasks W) → b.kind ≡ Sync →
      all_did (map part_of b.arms.items) ≡ Some vs → tuple_of vs ≡ error f → Settles pending b (went.Over (ending.Error f b.place)) v t v s
  tuple_error b vs f v t s k some is = record {
    settles = λ a w o st bare sus. record {
      aside = a;
      same = refl;
      is = all_have b.kind b vs w o (state_of a v) (on_rest o (state_of a v)) k some ∙
          ap (λ z. tupled b.place z (threaded w b.thread) o (state_of a v)) is;
    };
  }

  pub tuple_stuck : (b : Begins) (vs : List Val) (v : View) (t s : Tasks W) → b.kind ≡ Sync → all_did (map part_of b.arms.items) ≡ Some vs →
      tuple_of vs ≡ stuck → Settles pending b (went.Over ending.Stuck) v t v s
  tuple_stuck b vs v t s k some is = record {
    settles = λ a w o st bare sus. record {
      aside = a;
      same = refl;
      is = all_have b.kind b vs w o (state_of a v) (on_rest o (state_of a v)) k some ∙
          ap (λ z. tupled b.place z (threaded w b.thread) o (state_of a v)) is;
    };
  }

  pub tuple_fails : (b : Begins) (vs : List Val) (v : View) (t s : Tasks W) → b.kind ≡ Sync → all_did (map part_of b.arms.items) ≡ Some vs →
      tuple_of vs ≡ fails → Settles pending b (went.Over ending.Stuck) v t v s
  tuple_fails b vs v t s k some is = record {
    settles = λ a w o st bare sus. record {
      aside = a;
      same = refl;
      is = all_have b.kind b vs w o (state_of a v) (on_rest o (state_of a v)) k some ∙
          ap (λ z. tupled b.place z (threaded w b.thread) o (state_of a v)) is;
    };
  }

  rush_has : (k : Kind) (b : Begins) (x : Val) (w : Who) (o : World) (st : State) (stands : m.Task → Step) → k ≡ Rush →
      first_did (map part_of b.arms.items) ≡ Some x →
      grouped (kind_of k) b.place (map part_of b.arms.items) (threaded w b.thread) o st stands ≡ resumes (threaded w b.thread) x o st
  rush_has Sync b x w o st stands e some = absurd (cc)
  rush_has Race b x w o st stands e some = absurd (cc)
  rush_has Rush b x w o st stands e some =
      ap (λ z. or_stands z (stands (record {
        thread = threaded w b.thread;
        rest =
            m.group turns.rush b.place (map part_of b.arms.items);
      })) (λ v. resumes (threaded w b.thread) v o st)) some

  pub rush_ok : {E : Type 0} (d : Result Went E) (b : Begins) (x : Val) (v u : View) (t s : Tasks W) → b.kind ≡ Rush →
      first_did (map part_of b.arms.items) ≡ Some x → IsTree t.tree → IfOk d (λ r. Resumes pending b.id b.thread x r v t u s) →
      IfOk d (λ r. Settles pending b r v t u s)
  rush_ok (Err e) b x v u t s k some nested h = tt
  rush_ok (Ok r) b x v u t s k some nested h = goes_on b x r v u t s (λ w o st stands. rush_has b.kind b x w o st stands k some) nested h

  race_has : (k : Kind) (b : Begins) (x : Val) (w : Who) (o : World) (st : State) (stands : m.Task → Step) → k ≡ Race →
      first_did (map part_of b.arms.items) ≡ Some x →
      grouped (kind_of k) b.place (map part_of b.arms.items) (threaded w b.thread) o st stands ≡
      cancels (λ o s. resumes (threaded w b.thread) x o s) (resuming (threaded w b.thread) x)
      (beneath_arms w.path (map part_of b.arms.items)) o st
  race_has Sync b x w o st stands e some = absurd (cc)
  race_has Race b x w o st stands e some =
      ap (λ z. or_stands z (stands (record {
        thread = threaded w b.thread;
        rest =
            m.group turns.race b.place (map part_of b.arms.items);
      }))
      (λ v. cancels (λ o s. resumes (threaded w b.thread) v o s) (resuming (threaded w b.thread) v)
      (beneath_arms w.path (map part_of b.arms.items)) o st)) some
  race_has Rush b x w o st stands e some = absurd (cc)

  pub race_ok : {E : Type 0} (d : Result Went E) (b : Begins) (x : Val) (v u : View) (t s : Tasks W) → b.kind ≡ Race →
      first_did (map part_of b.arms.items) ≡ Some x → IfOk d (λ r. CancelsArms pending b.id b.thread x r v t u s) →
      IfOk d (λ r. Settles pending b r v t u s)
  race_ok (Err e) b x v u t s k some h = tt
  race_ok (Ok r) b x v u t s k some h = record {
    settles = λ a w o st bare sus.
        on_moves pending (grouped (kind_of b.kind) b.place (map part_of b.arms.items) (threaded w b.thread) o (state_of a v)
        (on_rest o (state_of a v))) a.past r u s
        (subst (λ q. MovesOn pending q a.past r u s) (sym (race_has b.kind b x w o (state_of a v) (on_rest o (state_of a v)) k some))
        (h.cancels a w (map part_of b.arms.items) o st bare sus));
  }

  -- the next arm

  pub next_begins : {E : Type 0} (d : Result Went E) (b c : Begins) (label : ℕ) (v u : View) (t s : Tasks W) →
      reverse b.labels.items ≡ label ∷ reverse c.labels.items → c ≡ record b { labels = c.labels } →
      IfOk d (λ r. BeginsArm pending c label r v t u s) → IfOk d (λ r. NextArm pending b r v t u s)
  next_begins (Err e) b c label v u t s is same h = tt
  next_begins (Ok r) b c label v u t s is same h = record {
    next = λ a w o st bare sus.
        let k : BeginsArm pending (record b { labels = c.labels }) label r v t u s =
        subst (λ z. BeginsArm pending z label r v t u s) same h in
        on_moves pending (next_arm (kind_of b.kind) b.place (map part_of b.arms.items) (reverse b.labels.items)
        (threaded w b.thread) o.pre o.post o.ups o.trees (state_of a v) (on_rest o (state_of a v))) a.past r u s
        (subst (λ ls. MovesOn pending (next_arm (kind_of b.kind) b.place (map part_of b.arms.items) ls
        (threaded w b.thread) o.pre o.post o.ups o.trees (state_of a v) (on_rest o (state_of a v))) a.past r u s) (sym is)
        (k.begins a w o (on_rest o (state_of a v)) st bare sus));
  }

  pub next_settles : {E : Type 0} (d : Result Went E) (b c : Begins) (v u : View) (t s : Tasks W) → reverse b.labels.items ≡ [] →
      c ≡ record b { labels = c.labels } → IfOk d (λ r. Settles pending c r v t u s) → IfOk d (λ r. NextArm pending b r v t u s)
  next_settles (Err e) b c v u t s is same h = tt
  next_settles (Ok r) b c v u t s is same h = record {
    next = λ a w o st bare sus.
        let k : Settles pending (record b { labels = c.labels }) r v t u s = subst (λ z. Settles pending z r v t u s) same h in
        subst (λ ls. Moves pending (next_arm (kind_of b.kind) b.place (map part_of b.arms.items) ls
        (threaded w b.thread) o.pre o.post o.ups o.trees (state_of a v) (on_rest o (state_of a v))) a.past r u s) (sym is)
        (k.settles a w o st bare sus);
  }

  -- an arm has ended

  first_ends : (k : Kind) (b : Begins) (w : Who) (o : World) (st : State) (stands : m.Task → Step) → k ≡ Race →
      arm_did (kind_of k) b.place (map part_of b.arms.items) (reverse b.labels.items)
      (threaded w b.thread) o.pre o.post o.ups o.trees st stands ≡ grouped (kind_of k) b.place (map part_of b.arms.items)
      (threaded w b.thread) o st stands
  first_ends Sync b w o st stands e = absurd (cc)
  first_ends Race b w o st stands e = refl
  first_ends Rush b w o st stands e = absurd (cc)

  pub ended_first : {E : Type 0} (d : Result Went E) (b : Begins) (v u : View) (t s : Tasks W) → b.kind ≡ Race →
      IfOk d (λ r. Settles pending b r v t u s) → IfOk d (λ r. ArmEnded pending b r v t u s)
  ended_first (Err e) b v u t s k h = tt
  ended_first (Ok r) b v u t s k h = record {
    ended = λ a w o st bare sus. subst (λ q. Moves pending q a.past r u s)
        (sym (first_ends b.kind b w o (state_of a v) (on_rest o (state_of a v)) k)) (h.settles a w o st bare sus);
  }

  other_ends : (k : Kind) (b : Begins) (w : Who) (o : World) (st : State) (stands : m.Task → Step) → (k ≡ Race → ⊥) →
      arm_did (kind_of k) b.place (map part_of b.arms.items) (reverse b.labels.items)
      (threaded w b.thread) o.pre o.post o.ups o.trees st stands ≡ next_arm (kind_of k) b.place (map part_of b.arms.items)
      (reverse b.labels.items) (threaded w b.thread) o.pre o.post o.ups o.trees st stands
  other_ends Sync b w o st stands d = refl
  other_ends Race b w o st stands d = absurd (d refl)
  other_ends Rush b w o st stands d = refl

  pub ended_other : {E : Type 0} (d : Result Went E) (b : Begins) (v u : View) (t s : Tasks W) → (b.kind ≡ Race → ⊥) →
      IfOk d (λ r. NextArm pending b r v t u s) → IfOk d (λ r. ArmEnded pending b r v t u s)
  ended_other (Err e) b v u t s k h = tt
  ended_other (Ok r) b v u t s k h = record {
    ended = λ a w o st bare sus. subst (λ q. Moves pending q a.past r u s)
        (sym (other_ends b.kind b w o (state_of a v) (on_rest o (state_of a v)) k)) (h.next a w o st bare sus);
  }

  pub not_first : (k : Kind) (d : (k ≡ Sync) ⊎ (k ≡ Rush)) → k ≡ Race → ⊥
  not_first Sync d e = absurd (cc)
  not_first Race d e = elim d [ inl k ↦ absurd (cc) | inr k ↦ absurd (cc) ]
  not_first Rush d e = absurd (cc)
