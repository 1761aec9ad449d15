-- An event is signalled, and the running task goes on.
use Rattle.std.proofs.Common.{◌≡◌, ◌≢◌, inl, inr, ℕ, List, [], ◌∷◌, ◌++◌, map, length, refl, sym, ap, subst, ◌∙◌}
use Rattle.std.specs.Global.{Vec}
use Rattle.std.proofs.lemmas.List.{map-append, length-map}
use Rattle.verse_value.specs.Val.{Val}
use Rattle.verse_value.specs.View.{val_of}
use Rattle.verse_value.specs.declared.values.Value.{Value}
use Rattle.verse_meaning_state.specs.State.{Signal, signalled}
use Rattle.verse_code_machine.specs.Tasks.{Who, World}
use Rattle.sim_clock.specs.declared.waits.WaitKind.TheVariants.{Event}
use Rattle.sim_clock.specs.declared.waits.Pending.{Pending}
use Rattle.sim_clock.specs.Pending.{woken}
use Rattle.vm_tasks_laws.specs.Clocks.{sleeping, Timed}
use Rattle.vm_tasks_laws.proofs.Ticks.{signal_timed}
use Rattle.vm_frames.specs.Framed.{Framed}
use Rattle.vm_frames.specs.Machine.{frames_with}
use Rattle.vm_running.specs.Views.{View, Aside, state_of, memories}
use Rattle.vm_running.specs.Doings.{on_frame, going}
use Rattle.vm_tasks.specs.View.{slot_of}
use Rattle.vm_scheduler.specs.declared.tasks.Tasks.{Tasks}
use Rattle.vm_scheduler.specs.declared.tasks.Went.TheVariants as went
use Rattle.vm_scheduler.specs.Frames.{frames_in}
use Rattle.vm_scheduler.specs.Standing.{Clocked}
use Rattle.vm_scheduler.specs.Going.{Scene, Own, Clearing, Going}
use Rattle.vm_scheduler.specs.Meets.{Comes}
use Rattle.vm_wake.specs.Signals.{signals}

-- one more signal
abbrev signal_of : ℕ → Val → ℕ → ℕ → Signal
signal_of event x next moment = record { event = event; next = next; given = record { value = x; moment = moment } }

abbrev signal_in : ℕ → Val → ℕ → Aside → Aside
signal_in event x moment a = record a { signals = a.signals ++ signal_of event x a.next moment ∷ [] }

module _ {W : Type 0} (pending : W → List Pending) where
  module _ (v : View) (t : Tasks W) (event : ℕ) (x : Value) (values : Vec Value) (waits : W) (more : values.items ≡ t.signals.items ++
      x ∷ [])
      (woke : pending waits ≡ woken (Event event) (record { at = v.moment; cause = length t.signals.items }) (pending t.gone.waits)) where
    abbrev told_tasks : Tasks W
    told_tasks = record t { gone = record t.gone { waits = waits }; signals = values }

    abbrev told_aside : Aside → Aside
    told_aside a = signal_in event (val_of x) v.moment a

    told_clock : (a : Aside) → Clocked pending a v t → Clocked pending (told_aside a) v told_tasks
    told_clock a c =
        let count : length a.signals ≡ length t.signals.items =
        sym (length-map a.signals (λ (g : Signal). g.given.value)) ∙ (ap (λ z. length z) c.signals ∙ length-map t.signals.items val_of) in
        let same : woken (Event event) (record { at = v.moment; cause = length a.signals }) (pending t.gone.waits) ≡ pending waits =
        ap (λ n. woken (Event event) (record { at = v.moment; cause = n }) (pending t.gone.waits)) count ∙ sym woke in
        record {
          past = c.past;
          next = c.next;
          results = c.results;
          signals = map-append (λ (g : Signal). g.given.value) a.signals (signal_of event (val_of x) a.next v.moment ∷ []) ∙
              (ap (λ z. z ++ val_of x ∷ []) c.signals ∙
              (sym (map-append val_of t.signals.items (x ∷ [])) ∙ ap (λ z. map val_of z) (sym more)));
          timed = subst (λ ps. Timed (sleeping (slot_of frames_in) t.tree) ps (signalled event (val_of x) (state_of a v))) same
              (signal_timed (sleeping (slot_of frames_in) t.tree) (pending t.gone.waits) (state_of a v) event (val_of x) c.timed);
          fine = c.fine;
          untold = c.untold;
        }

    abbrev told_scene : Scene → Scene
    told_scene m = record m { aside = told_aside m.aside }

    own_told : (m : Scene) → Own pending m v t → Own pending (told_scene m) v told_tasks
    own_told m o =
        let s = o.standing in
        record {
          standing = record { clock = told_clock m.aside s.clock; stands = s.stands; ups = s.ups; still = s.still; none = s.none };
          began = o.began;
          not_gone = o.not_gone;
          calm = o.calm;
        }

    clearing_told : (m : Scene) → Clearing pending m v t → Clearing pending (told_scene m) v told_tasks
    clearing_told m c = record {
      clock = told_clock m.aside c.clock;
      after = c.after;
      follows = c.follows;
      todo = c.todo;
      ups = c.ups;
      after_is = c.after_is;
      ups_are = c.ups_are;
      follows_is = c.follows_is;
      waiting = c.waiting;
      stands = c.stands;
      todo_is = c.todo_is;
      unguarded = c.unguarded;
      nothing_under = c.nothing_under;
      before = c.before;
      behind = c.behind;
      closing = c.closing;
    }

    going_told : (m : Scene) → Going pending m v t → Going pending (told_scene m) v told_tasks
    going_told m g = record { ready = g.ready; runs = elim g.runs [ inl o ↦ inl (own_told m o) | inr c ↦ inr (clearing_told m c) ] }

    told_is : (fs : List Framed) (a : Aside) (w : Who) (o : World) → fs ≢ [] →
        on_frame (frames_with fs (memories a.past v.heap.copies v.trace.marks)) (state_of a v)
        (signals event (val_of x) w o (state_of a v)) ≡ on_frame (frames_with fs (memories a.past v.heap.copies v.trace.marks))
        (state_of (told_aside a) v) (going w o (state_of (told_aside a) v))
    told_is [] a w o some = absurd (some refl)
    told_is (f ∷ fs) a w o some = refl

    pub signal_told : Comes pending (signals event (val_of x)) went.On v t v told_tasks
    signal_told = record {
      comes = λ m g. record {
        scene = told_scene m;
        same = refl;
        goes = going_told m g;
        is =
            told_is v.frames m.aside m.who m.world g.ready.some;
      };
    }
