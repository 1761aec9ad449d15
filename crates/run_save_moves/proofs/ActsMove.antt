-- Each operation goes by moves.
use Rattle.std.proofs.Common.{◌≡◌, ℕ, zero, suc, ◌+◌, length, List, [], ◌∷◌, ◌++◌, Option, Some, None, Bool, true, false, cond, refl, sym}
use Rattle.std.proofs.Common.{subst}
use Rattle.std.proofs.Common.{arith, ap, ◌∙◌}
use Rattle.std.specs.Prelude.{pos, not, slice_get, ◌-◌}
use Rattle.verse_base.specs.declared.places.Place.{Place}
use Rattle.verse_base.specs.declared.refusals.Kind.{Kind as Error}
use Rattle.verse_code.specs.declared.operations.Op.{Op}
use Rattle.verse_code.specs.declared.operations.Op.TheVariants as o
use Rattle.verse_code.specs.declared.codes.Func.{Func}
use Rattle.verse_code.specs.declared.codes.Class.{Class}
use Rattle.verse_code.specs.declared.codes.Code.{Code}
use Rattle.verse_code.specs.Validity.{Valid}
use Rattle.verse_value.specs.Val.{Val, unit, falsity, truth, int, char, enum, object, event, task, some, array, mapping, tuple}
use Rattle.verse_value.specs.Answer.{Answer, gives, fails, error, stuck}
use Rattle.verse_value.specs.Operations.{sum_of, difference_of, product_of, negation_of, floor_of, ceil_of, modulo_of, concat_of, join_of}
use Rattle.verse_value.specs.Operations.{less_of, at_most_of, greater_of, at_least_of, equal_of, unequal_of, array_of, map_of, tuple_of}
use Rattle.verse_value.specs.Operations.{option_of, query_of, item_of, at_of, length_of, append_of}
use Rattle.verse_value.specs.declared.runs.Ending.TheVariants as ending
use Rattle.verse_meaning_state.specs.State.{State, Given, Clock, spending, restored, stepped}
use Rattle.verse_meaning_state.specs.Waits.{Cause, till, never, done, heard, after, ltn, nth}
use Rattle.verse_meaning_state.specs.Effects.{Effect, still, variable_made, object_made, event_made, slot_read, slot_written, line_printed}
use Rattle.verse_meaning_state.specs.Effects.{event_of, task_of, signal_sent}
use Rattle.verse_code_machine.specs.Tasks.{Life, Handler, Frame, Note, to, gone, Role, root, part, Who, thread, World, world, Step, Next}
use Rattle.verse_code_machine.specs.Tasks.{Over, Machine}
use Rattle.verse_code_machine.specs.Tasks.{machine, since, resuming, closing, finishing}
use Rattle.verse_code_machine.specs.Frames.{behind, on_top, on_two, on_many, on_there, only_where, put, fits, goes, failing, faulting}
use Rattle.verse_code_machine.specs.Frames.{answered}
use Rattle.verse_code_machine.specs.Frames.{answered_to, enters, method_of, free, nothing, kept_defers, kept_noted, locals_of, units}
use Rattle.verse_code_machine.specs.Cancelling.{clears_frames, cancelled, world_without}
use Rattle.verse_code_machine.specs.Ends.{cleared, returns, returns_role, ends, ends_role, suspends, resumes}
use Rattle.verse_code_machine.specs.Acts.{place_at, mode_of, kind_of, paired, Taken, ended, takes, unfit, taken_from, takes_step, on_domain}
use Rattle.verse_code_machine.specs.Acts.{on_int, awaits, spawns, labels, label_of, on_label, after_arms, groups, on_noted, on_defer}
use Rattle.verse_code_machine.specs.Acts.{on_note}
use Rattle.verse_code_machine.specs.Acts.{frame, unary, binary, collects, leaves, on_handler, act}
use Rattle.verse_code_machine.specs.Runs.{step}
use Rattle.verse_code_machine_parents.specs.Parents.{Framed, MachineRooted, WorldRooted}
use Rattle.verse_code_machine_parents.proofs.Leaving.{not_clearing, runs_of, others_of}
use Rattle.run_save_shots.specs.Kept.{leaf}
use Rattle.run_save_shots.specs.Lists.{Each}
use Rattle.run_save_shots.specs.Fitting.{ValueFits, ValuesFit, is_defer, stand_of, stand_in, stand_at, calls, gathers, RestSuits}
use Rattle.run_save_shots.specs.Fitting.{awaits_task, IsBlock, GivenFits}
use Rattle.run_save_moves.specs.Fine.{Scene, SlotsFine, MemoryFine, HandlerFine, FrameFine, StateFine, AnswerFits, Ticks, Changes}
use Rattle.run_save_moves.specs.Fine.{EffectFine}
use Rattle.run_save_moves.specs.Fine.{TextsAreBytes, EffectTicks, AllFit, OneFits}
use Rattle.run_save_moves.specs.Moves as m
use Rattle.run_save_moves.specs.Moves.{Point, acts, at, begun, BehindCall, BehindWait, BehindGroup, CauseIs, Holds, IsCalm, Leads, ends_run}
use Rattle.run_save_moves.specs.Moves.{acts_next, then_leads}
use Rattle.run_save_moves.proofs.EndsMove.{spending_leads, frames_leads, clears_leads, resuming_leads, closing_leads}
use Rattle.run_save_moves.proofs.EndsMove.{follows_leads, cleared_leads, rested_leads, next_leads}
use Rattle.run_save_moves.proofs.Values as v
use Rattle.run_save_moves.proofs.Effects as e

same_ticks : (k : Clock) → Ticks k k
same_ticks k = record { sum = refl; left = omega arith; now = refl; next = refl; results = refl; before = refl }

step_ticks : (l : ℕ) (s : State) → suc l ≡ s.clock.left → Ticks s.clock (stepped l s).clock
step_ticks l s e = record { sum = omega (arith, e); left = omega (arith, e); now = refl; next = refl; results = refl; before = refl }

-- n operands are taken from a stack
abbrev Pops : List Val → List Val → List Val → Type 0
Pops st vs rest = (n : ℕ) → ValuesFit n st → ValuesFit n vs × ValuesFit n rest

got_fits : (n : ℕ) (ls : List Val) (l : ℕ) → ValuesFit n ls → OneFits n (nth ls l)
got_fits n [] l a = tt
got_fits n (x ∷ ls) zero a = a.0
got_fits n (x ∷ ls) (suc l) a = got_fits n ls l a.1

behind_fits : (n : ℕ) (x : Val) (o : Option (List Val)) → ValueFits n x → AllFit n o → AllFit n (behind x o)
behind_fits n x None a b = tt
behind_fits n x (Some ls) a b = (a, b)

put_fits : (n : ℕ) (ls : List Val) (l : ℕ) (x : Val) → ValuesFit n ls → ValueFits n x → AllFit n (put ls l x)
put_fits n [] l x a b = tt
put_fits n (y ∷ ls) zero x a b = (b, a.1)
put_fits n (y ∷ ls) (suc l) x a b = behind_fits n y (put ls l x) a.0 (put_fits n ls l x a.1 b)

abbrev ResultFits : ℕ → Option (Option Given) → Type 0
ResultFits n None = Unit {0}
ResultFits n (Some o) = GivenFits n o

result_fits : (n : ℕ) (rs : List (Option Given)) (i : ℕ) → Each (GivenFits n) rs → ResultFits n (nth rs i)
result_fits n [] i a = tt
result_fits n (r ∷ rs) zero a = a.0
result_fits n (r ∷ rs) (suc i) a = result_fits n rs i a.1

module _ (c : Code) where
  only_leads : (p : Point) (b : Bool) (s : State) (q : Step) → (b ≡ true → Leads c p q) → Leads c p (only_where b s q)
  only_leads p true s q l = l refl
  only_leads p false s q l = ends_run

  top_leads : (p : Point) (st : List Val) (s : State) (go : Val → List Val → Step) → ((x : Val) (rest : List Val) → Pops st (x ∷ []) rest →
      Leads c p (go x rest)) → Leads c p (on_top st s go)
  top_leads p [] s go f = ends_run
  top_leads p (x ∷ st) s go f = f x st (λ n a. ((a.0, tt), a.1))

  two_leads : (p : Point) (st : List Val) (s : State) (go : Val → Val → List Val → Step) →
      ((a b : Val) (rest : List Val) → Pops st (a ∷ b ∷ []) rest → Leads c p (go a b rest)) → Leads c p (on_two st s go)
  two_leads p [] s go f = ends_run
  two_leads p (b ∷ []) s go f = ends_run
  two_leads p (b ∷ a ∷ st) s go f = f a b st (λ n h. ((h.1.0, (h.0, tt)), h.1.1))

  many_leads : (p : Point) (i : ℕ) (st vs : List Val) (s : State) (go : List Val → List Val → Step) → ((ws rest : List Val) → ((n : ℕ) →
      ValuesFit n st → ValuesFit n vs → ValuesFit n ws × ValuesFit n rest) → Leads c p (go ws rest)) → Leads c p (on_many i st vs s go)
  many_leads p zero st vs s go f = f vs st (λ n a b. (b, a))
  many_leads p (suc i) [] vs s go f = ends_run
  many_leads p (suc i) (x ∷ st) vs s go f = many_leads p i st (x ∷ vs) s go (λ ws rest h. f ws rest (λ n a b. h n a.1 (a.0, b)))

  there_leads : {A : Type 0} (p : Point) (x : Option A) (s : State) (go : A → Step) → ((y : A) → x ≡ Some y → Leads c p (go y)) → Leads c p
      (on_there x s go)
  there_leads p None s go f = ends_run
  there_leads p (Some x) s go f = f x refl

  faulting_leads : (p : Point) (place : Option Place) (k : Error) (s : State) → Leads c p (faulting place k s)
  faulting_leads p None k s = ends_run
  faulting_leads p (Some q) k s = ends_run

  handler_leads : (p : Point) (hs : List Handler) (s : State) (go : Handler → List Handler → Step) →
      ((h : Handler) (rest : List Handler) → hs ≡ h ∷ rest → Leads c p (go h rest)) → Leads c p (on_handler hs s go)
  handler_leads p [] s go f = ends_run
  handler_leads p (h ∷ hs) s go f = f h hs refl

  domain_leads : (p : Point) (x : Val) (s : State) (q : Step) → Leads c p q → Leads c p (on_domain x s q)
  domain_leads p unit s q l = ends_run
  domain_leads p falsity s q l = ends_run
  domain_leads p truth s q l = ends_run
  domain_leads p (int n) s q l = ends_run
  domain_leads p (char n) s q l = ends_run
  domain_leads p (enum a b) s q l = ends_run
  domain_leads p (object n) s q l = ends_run
  domain_leads p (event n) s q l = ends_run
  domain_leads p (task n) s q l = ends_run
  domain_leads p (some w) s q l = ends_run
  domain_leads p (array vs) s q l = l
  domain_leads p (mapping ps) s q l = l
  domain_leads p (tuple vs) s q l = ends_run

  int_leads : (p : Point) (x : Val) (s : State) (q : Step) → Leads c p q → Leads c p (on_int x s q)
  int_leads p unit s q l = ends_run
  int_leads p falsity s q l = ends_run
  int_leads p truth s q l = ends_run
  int_leads p (int n) s q l = l
  int_leads p (char n) s q l = ends_run
  int_leads p (enum a b) s q l = ends_run
  int_leads p (object n) s q l = ends_run
  int_leads p (event n) s q l = ends_run
  int_leads p (task n) s q l = ends_run
  int_leads p (some w) s q l = ends_run
  int_leads p (array vs) s q l = ends_run
  int_leads p (mapping ps) s q l = ends_run
  int_leads p (tuple vs) s q l = ends_run

  goes_leads : (y : Who) (x : World) (s u : State) (f g : Frame) (bl : List Frame) → Changes c s f u g →
      Leads c (acts (at y x s f bl)) (goes y x s u g.life g.locals g.stack g.place g.handlers bl)
  goes_leads y x s u f g bl h = only_leads _ (fits g.handlers g.place) s _ (λ b. then_leads (m.stays h) acts_next)

  -- to the innermost handler of the task
  caught : (s : State) (f : Frame) (h : Handler) (hs : List Handler) → f.handlers ≡ h ∷ hs →
      Changes c s f (restored h.memory s) (frame h.life f.locals h.stack h.label hs)
  caught s f h hs e = record {
    ticks = same_ticks s.clock;
    state = λ x a b. record {
      before = a.before;
      entries = a.entries;
      memory = (mine x b).0.memory;
      results = a.results;
      signals =
          a.signals;
    };
    frame = λ x a b. record { locals = b.locals; stack = (mine x b).0.stack; defers = (mine x b).0.defers; handlers = (mine x b).1 };
  }
    where
      mine : (x : Scene) → FrameFine c x f → Each (HandlerFine c x) (h ∷ hs)
      mine x b = subst (Each (HandlerFine c x)) e b.handlers

  failing_from : (y : Who) (x : World) (s : State) (fs : List Frame) (f : Frame) (hs : List Handler) → f.handlers ≡ hs →
      Leads c (acts (at y x s f fs)) (failing y x s f.locals hs fs)
  failing_from y x s fs f (h ∷ hs) e = goes_leads y x s (restored h.memory s) f (frame h.life f.locals h.stack h.label hs) fs
      (caught s f h hs e)
  failing_from y x s [] f [] e = ends_run
  failing_from y x s (g ∷ fs) f [] e = then_leads m.drops (failing_from y x s fs g g.handlers refl)

module _ (c : Code) (valid : Valid c) (bytes : TextsAreBytes c) (y : Who) (x : World) (s : State) (g : Life) (pc : ℕ) (hs : List Handler)
    (bl : List
    Frame) (framed : Framed y x.ups g hs bl) (rooted : WorldRooted s.clock.left y x) where
  abbrev F : List Val → List Val → Frame
  F ls st = frame g ls st pc hs

  abbrev M : List Val → List Val → Point
  M ls st = acts (at y x s (F ls st) bl)

  -- what these values say of others
  abbrev Fit : List Val → List Val → List Val → List Val → Type 0
  Fit ls st ls' st' = (z : Scene) → StateFine c z s → FrameFine c z (F ls st) → ValuesFit z.entries ls' × ValuesFit z.entries st'

  same_state : (ls st ls' st' : List Val) (q : ℕ) → Fit ls st ls' st' → Changes c s (F ls st) s (frame g ls' st' q hs)
  same_state ls st ls' st' q h = record {
    ticks = same_ticks s.clock;
    state = λ z a b. a;
    frame = λ z a b. record { locals = (h z a b).0; stack = (h z a b).1; defers = b.defers; handlers = b.handlers };
  }

  one_step : (l : ℕ) → suc l ≡ s.clock.left → (ls st ls' st' : List Val) (q : ℕ) → Fit ls st ls' st' → Changes c s (F ls st) (stepped l s)
      (frame g ls' st' q hs)
  one_step l e ls st ls' st' q h = record {
    ticks = step_ticks l s e;
    state = λ z a b. record { before = a.before; entries = a.entries; memory = a.memory; results = a.results; signals = a.signals };
    frame = λ z a b. record { locals = (h z a b).0; stack = (h z a b).1; defers = b.defers; handlers = b.handlers };
  }

  goes_here : (ls st ls' st' : List Val) (q : ℕ) → Fit ls st ls' st' → Leads c (M ls st) (goes y x s s g ls' st' q hs bl)
  goes_here ls st ls' st' q h = goes_leads c y x s s (F ls st) (frame g ls' st' q hs) bl (same_state ls st ls' st' q h)

  pushes_here : (ls st : List Val) (a : Val) → ((n : ℕ) → ValueFits n a) → Leads c (M ls st) (goes y x s s g ls (a ∷ st) (suc pc) hs bl)
  pushes_here ls st a h = goes_here ls st ls (a ∷ st) (suc pc) (λ z p b. (b.locals, (h z.entries, b.stack)))

  fails_here : (ls st : List Val) → Leads c (M ls st) (failing y x s ls hs bl)
  fails_here ls st = failing_from c y x s bl (F ls st) hs refl

  answered_here : (p : Option Place) (a : Effect) (ls st st' : List Val) → EffectTicks s a →
      ((z : Scene) → StateFine c z s → FrameFine c z (F ls st) → EffectFine c z a × ValuesFit z.entries st') →
      Leads c (M ls st) (answered p a y x s g ls st' pc hs bl)
  answered_here p (gives w) ls st st' t f = goes_leads c y x s w.1 (F ls st) (frame g ls (w.0 ∷ st') (suc pc) hs) bl (record {
    ticks = t;
    state = λ z a b. (f z a b).0.1;
    frame = λ z a b. record { locals = b.locals; stack = ((f z a b).0.0, (f z a b).1); defers = b.defers; handlers = b.handlers };
  })
  answered_here p fails ls st st' t f = fails_here ls st
  answered_here p (error k) ls st st' t f = only_leads c _ (fits hs (suc pc)) s _ (λ b. faulting_leads c _ p k s)
  answered_here p stuck ls st st' t f = ends_run

  into_here : (p : Option Place) (l : ℕ) (a : Answer Val) (ls st st' : List Val) →
      ((z : Scene) → StateFine c z s → FrameFine c z (F ls st) → AnswerFits z.entries a × ValuesFit z.entries st') →
      Leads c (M ls st) (answered_to p l a y x s g ls st' pc hs bl)
  into_here p l (gives w) ls st st' f = there_leads c _ (put ls l w) s _ (λ ls' e. goes_here ls st ls' st' (suc pc) (λ z a b. (
    subst (AllFit z.entries) e (put_fits z.entries ls l w b.locals (f z a b).0),
    (f z a b).1,
  )))
  into_here p l fails ls st st' f = fails_here ls st
  into_here p l (error k) ls st st' f = only_leads c _ (fits hs (suc pc)) s _ (λ b. faulting_leads c _ p k s)
  into_here p l stuck ls st st' f = ends_run

  unary_here : (f : Val → Answer Val) → ((n : ℕ) (a : Val) → ValueFits n a → AnswerFits n (f a)) → (p : Option Place) (ls st : List Val) →
      Leads c (M ls st) (unary f p y x s g ls st pc hs bl)
  unary_here f h p ls st = top_leads c _ st s _ (λ a st' t. answered_here p (still (f a) s) ls st st' (e.still_ticks (f a) s)
      (λ z k b. let w = t z.entries b.stack in (e.still_fine c z (f a) s k (h z.entries a w.0.0), w.1)))

  binary_here : (f : Val → Val → Answer Val) → ((n : ℕ) (a b : Val) → ValueFits n a → ValueFits n b → AnswerFits n (f a b)) →
      (p : Option Place) (ls st : List Val) → Leads c (M ls st) (binary f p y x s g ls st pc hs bl)
  binary_here f h p ls st = two_leads c _ st s _ (λ a d st' t. answered_here p (still (f a d) s) ls st st' (e.still_ticks (f a d) s)
      (λ z k b. let w = t z.entries b.stack in (e.still_fine c z (f a d) s k (h z.entries a d w.0.0 w.0.1.0), w.1)))

  collects_here : (i : ℕ) (f : List Val → Answer Val) → ((n : ℕ) (vs : List Val) → ValuesFit n vs → AnswerFits n (f vs)) →
      (p : Option Place) (ls st : List Val) → Leads c (M ls st) (collects i f p y x s g ls st pc hs bl)
  collects_here i f h p ls st = many_leads c _ i st [] s _ (λ vs st' t. answered_here p (still (f vs) s) ls st st' (e.still_ticks (f vs) s)
      (λ z k b. let w = t z.entries b.stack tt in (e.still_fine c z (f vs) s k (h z.entries vs w.0), w.1)))

  units_fit : (n i : ℕ) → ValuesFit n (units i)
  units_fit n zero = tt
  units_fit n (suc i) = (v.unit_fits n, units_fit n i)

  locals_fit : (n : ℕ) (f : Func) (vs : List Val) → ValuesFit n vs → ValuesFit n (locals_of f vs)
  locals_fit n f vs a = v.append_fit n vs (units (f.locals - f.params)) a (units_fit n (f.locals - f.params))

  calm : (q : ℕ) (ls st : List Val) → free hs g.noted bl ≡ true → IsCalm s y x (frame g ls st q hs) bl
  calm q ls st e = let r = runs_of (not_clearing framed e) rooted.tree (others_of rooted) in
      record { is_free = e; list = r.list; ups = r.ups }

  -- the operation at which the task stands
  module _ (op : Op) (here : slice_get c.ops pc ≡ Some op) where
    enters_here : stand_of op ≡ calls → (f : Func) (vs ls st st' : List Val) → Fit ls st vs st' →
        Leads c (M ls st) (only_where (fits hs (suc pc)) s (enters f vs y x s (frame g ls st' (suc pc) hs ∷ bl)))
    enters_here i f vs ls st st' h = only_leads c _ (fits hs (suc pc)) s _ (λ b. spending_leads c _ s.clock.left s _ refl (λ l e.
        then_leads (m.enters {g = frame g ls st' (suc pc) hs} e (same_state ls st ls st' (suc pc) (λ z a b. (b.locals, (h z a b).1)))
        (pc, refl, ap stand_in here ∙ i) (λ z a b. locals_fit z.entries f vs (h z a b).0)) acts_next))

    suspends_here : (cause : Cause) (ls st st' : List Val) → free hs g.noted bl ≡ true → Fit ls st ls st' →
        ((n : ℕ) → RestSuits (stand_of op) (leaf n cause)) → CauseIs s cause →
        Leads c (M ls st) (suspends cause (thread y (frame g ls st' (suc pc) hs) bl) x s)
    suspends_here cause ls st st' e h r i = then_leads (m.stays (same_state ls st ls st' (suc pc) h))
        (then_leads (m.suspends (calm (suc pc) ls st' e) (
          pc,
          refl,
          (λ n. subst (λ t. RestSuits t (leaf n cause)) (sym (ap stand_in here)) (r n)),
        ) i) (rested_leads c x.ups _ x.post x.trees _))

    awaits_here : stand_of op ≡ awaits_task → free hs g.noted bl ≡ true → (r : Option (Option Given)) (entry : ℕ) →
        nth s.clock.results entry ≡ r → (ls st st' : List Val) → Fit ls st ls st' →
        Leads c (M ls st) (awaits r entry (thread y (frame g ls st' (suc pc) hs) bl) x s)
    awaits_here i e None entry j ls st st' h = ends_run
    awaits_here i e (Some None) entry j ls st st' h =
        suspends_here (done entry) ls st st' e h (λ n. subst (λ t. RestSuits t (leaf n (done entry))) (sym i) tt) j
    awaits_here i e (Some (Some w)) entry j ls st st' h = then_leads (m.stays (same_state ls st ls (w.value ∷ st') (suc pc) (λ z a b. (
      b.locals,
      (subst (ResultFits z.entries) j (result_fits z.entries s.clock.results entry a.results), (h z a b).1),
    )))) acts_next

    spawns_here : free hs g.noted bl ≡ true → (f : Func) (vs ls st st' : List Val) → Fit ls st vs st' →
        Leads c (M ls st) (spawns f vs (thread y (frame g ls st' (suc pc) hs) bl) x s)
    spawns_here e f vs ls st st' h = spending_leads c _ s.clock.left s _ refl (λ l i. then_leads (m.spawns {g = frame g ls st' (suc pc) hs}
        (calm (suc pc) ls st' e) i
        (same_state ls st ls st' (suc pc) (λ z a b. (b.locals, (h z a b).1))) (λ z a b. locals_fit z.entries f vs (h z a b).0)) acts_next)

  groups_here : (kd : _) (p : Place) (ks : List ℕ) (q : ℕ) (ls st : List Val) → free hs g.noted bl ≡ true →
      BehindGroup c q kd p (length ks) → Leads c (M ls st) (groups kd p ks q y x s g ls st hs bl)
  groups_here kd p [] q ls st e h = ends_run
  groups_here kd p (l ∷ ks) q ls st e h = then_leads (m.stays (same_state ls st ls st q (λ z a b. (b.locals, b.stack))))
      (then_leads (m.begins_group (calm q ls st e) h)
      (spending_leads c _ s.clock.left s _ refl (λ n i. then_leads (m.arm_begins i) acts_next)))

  takes_here : (t : Taken) (l d label : ℕ) (ls st : List Val) → ((z : Scene) → FrameFine c z (F ls st) → v.TakenFits z.entries t) →
      Leads c (M ls st) (takes_step t l d label y x s g ls st pc hs bl)
  takes_here ended l d label ls st f = goes_here ls st ls st (suc pc) (λ z a b. (b.locals, b.stack))
  takes_here (takes a w i b) l d label ls st f = only_leads c _ (fits hs label) s _ (λ e. spending_leads c _ s.clock.left s _ refl (λ n h.
      there_leads c _ (put ls d a) s _ (λ ls1 e1. there_leads c _ (put ls1 (suc d) w) s _
      (λ ls2 e2. there_leads c _ (put ls2 (l + i) b) s _ (λ ls3 e3. then_leads (m.stays (one_step n h ls st ls3 st label (λ z k fine. (
        subst (AllFit z.entries) e3 (put_fits z.entries ls2 (l + i) b
            (subst (AllFit z.entries) e2 (put_fits z.entries ls1 (suc d) w (subst (AllFit
            z.entries) e1 (put_fits z.entries ls d a fine.locals (f z fine).0)) (f z fine).1)) (f z fine).2),
        fine.stack,
      )))) acts_next)))))
  takes_here unfit l d label ls st f = ends_run

  leaves_here : (b : Bool) (ls st : List Val) → Leads c (M ls st) (leaves b y x s g ls st pc hs bl)
  leaves_here false ls st = goes_here ls st ls st (suc pc) (λ z a b. (b.locals, b.stack))
  leaves_here true ls st = defer_here g.defers refl
    where
      defer_here : (ds : List ℕ) → g.defers ≡ ds →
          Leads c (M ls st) (on_defer ds s (λ q ds. only_where (fits hs q) s
          (spending s.clock.left s (Over ending.Steps s)
          (λ u. Next (machine y x u (record { born = g.born; defers = ds; noted = to pc ∷ g.noted }) ls st q hs bl)))))
      defer_here [] e = ends_run
      defer_here (q ∷ ds) e = only_leads c _ (fits hs q) s _
          (λ b. spending_leads c _ s.clock.left s _ refl (λ l i. then_leads (m.stays (record {
            ticks = step_ticks l s i;
            state = λ z a b. record { before = a.before; entries = a.entries; memory = a.memory; results = a.results; signals = a.signals };
            frame = λ z a b. record {
              locals = b.locals;
              stack = b.stack;
              defers = (subst (Each (IsBlock c)) e b.defers).1;
              handlers = b.handlers;
            };
          })) acts_next))

  noted_changes : (ns : List Note) (ls st : List Val) (q : ℕ) → Changes c s (F ls st) s (frame (record g { noted = ns }) ls st q hs)
  noted_changes ns ls st q = record {
    ticks = same_ticks s.clock;
    state = λ z a b. a;
    frame = λ z a b. record { locals = b.locals; stack = b.stack; defers = b.defers; handlers = b.handlers };
  }

  note_here : (t : Note) (ns : List Note) (ls st : List Val) →
      Leads c (M ls st) (on_note t (λ q. goes y x s s (record g { noted = ns }) ls st q hs bl)
      (clears_frames (λ s. cleared x.ups x.pre x.post x.trees s) y x s (frame (record g { noted = ns }) ls st pc hs ∷ bl)))
  note_here (to q) ns ls st = goes_leads c y x s s (F ls st) (frame (record g { noted = ns }) ls st q hs) bl (noted_changes ns ls st q)
  note_here gone ns ls st = then_leads (m.dies (noted_changes ns ls st pc))
      (frames_leads c (λ s. cleared x.ups x.pre x.post x.trees s) y x s (frame (record g { noted = ns }) ls st pc hs ∷ bl)
      (cleared_leads c x.ups y x.pre x.post x.trees s))

  noted_here : (ns : List Note) (ls st : List Val) → Leads c (M ls st) (on_noted ns s (λ t ns. on_note t (λ q. goes y x s s (record g {
    noted = ns;
  }) ls st q hs bl) (clears_frames (λ s. cleared x.ups x.pre x.post x.trees s) y x s (frame (record g { noted = ns }) ls st pc hs ∷ bl))))
  noted_here [] ls st = ends_run
  noted_here (t ∷ ns) ls st = note_here t ns ls st

  abbrev One : List Val → List Val → Val → Type 0
  One ls st a = (z : Scene) → StateFine c z s → FrameFine c z (F ls st) → ValuesFit z.entries (a ∷ [])

  ends_role_here : (r : Role) → y.role ≡ r → (ls st : List Val) (a : Val) → bl ≡ [] → One ls st a →
      Leads c (M ls st) (ends_role r y x g.born a s)
  ends_role_here (root entry) i ls st a j h = ends_run
  ends_role_here part i ls st a j h = subst (λ fs. Leads c (acts (at y x s (F ls st) fs)) (ends_role part y x g.born a s)) (sym j)
      (then_leads (m.ends i h) (clears_leads c _ (closing y a) (closing_leads c y a i) _ _ s))

  ends_here : (hs1 : List Handler) (fs : List Frame) → bl ≡ fs → (ls st : List Val) (a : Val) → One ls st a →
      Leads c (M ls st) (ends y x g.born a s hs1 fs)
  ends_here (b ∷ hs1) fs i ls st a h = ends_run
  ends_here [] (f ∷ fs) i ls st a h = ends_run
  ends_here [] [] i ls st a h = ends_role_here y.role refl ls st a i h

  returns_role_here : (r : Role) → y.role ≡ r → (ls st : List Val) (a : Val) → bl ≡ [] → One ls st a →
      Leads c (M ls st) (returns_role r y x g.born a s)
  returns_role_here (root entry) i ls st a j h =
      subst (λ fs. Leads c (acts (at y x s (F ls st) fs)) (returns_role (root entry) y x g.born a s)) (sym j)
      (then_leads (m.finishes i h) (clears_leads c _ (finishing y entry a) (follows_leads c (finishing y entry a)) _ _ s))
  returns_role_here part i ls st a j h = ends_run

  returns_here : (hs1 : List Handler) (fs : List Frame) → bl ≡ fs → (ls st : List Val) (a : Val) → One ls st a →
      Leads c (M ls st) (returns y x g.born a s hs1 fs)
  returns_here (b ∷ hs1) fs i ls st a h = ends_run
  returns_here [] [] i ls st a h = returns_role_here y.role refl ls st a i h
  returns_here [] (f ∷ fs) i ls st a h = subst (λ gs. Leads c (acts (at y x s (F ls st) gs)) (returns y x g.born a s [] (f ∷ fs))) (sym i)
      (then_leads (m.returns h) (clears_leads c _ (resuming (thread y f fs) a) (resuming_leads c (thread y f fs) a) _ _ s))

  pub act_leads : (op : Op) → slice_get c.ops pc ≡ Some op → (ls st : List Val) → Leads c (M ls st) (act c op y x s g ls st pc hs bl)
  act_leads (o.Int n) w ls st = pushes_here ls st _ (λ i. v.int_fits i n)
  act_leads o.Unit w ls st = pushes_here ls st _ v.unit_fits
  act_leads o.False w ls st = pushes_here ls st _ v.falsity_fits
  act_leads o.True w ls st = pushes_here ls st _ v.truth_fits
  act_leads (o.Char n) w ls st = pushes_here ls st _ (λ i. v.char_fits i n (v.char_operand c valid pc n w))
  act_leads (o.Text t) w ls st = there_leads c _ (slice_get c.texts t) s _
      (λ a e. pushes_here ls st _ (λ i. v.text_fits c valid bytes i t a e))
  act_leads (o.Enum n k) w ls st = pushes_here ls st _ (λ i. v.enum_fits i n k)
  act_leads (o.Get l) w ls st = there_leads c _ (nth ls l) s _ (λ a e. goes_here ls st ls (a ∷ st) (suc pc) (λ z p b. (
    b.locals,
    (subst (OneFits z.entries) e (got_fits z.entries ls l b.locals), b.stack),
  )))
  act_leads (o.Put l) w ls st = top_leads c _ st s _
      (λ a st' t. there_leads c _ (put ls l a) s _ (λ ls' e. goes_here ls st ls' st' (suc pc) (λ z p
      b. let k = t z.entries b.stack in (subst (AllFit z.entries) e (put_fits z.entries ls l a b.locals k.0.0), k.1))))
  act_leads o.Drop w ls st = top_leads c _ st s _
      (λ a st' t. goes_here ls st ls st' (suc pc) (λ z p b. (b.locals, (t z.entries b.stack).1)))
  act_leads (o.Add p) w ls st = binary_here sum_of v.sum_fits (place_at c p) ls st
  act_leads (o.Sub p) w ls st = binary_here difference_of v.difference_fits (place_at c p) ls st
  act_leads (o.Mul p) w ls st = binary_here product_of v.product_fits (place_at c p) ls st
  act_leads (o.Neg p) w ls st = unary_here negation_of v.negation_fits (place_at c p) ls st
  act_leads (o.Floor p) w ls st = binary_here floor_of v.floor_fits (place_at c p) ls st
  act_leads (o.Ceil p) w ls st = binary_here ceil_of v.ceil_fits (place_at c p) ls st
  act_leads o.Mod w ls st = binary_here modulo_of v.modulo_fits None ls st
  act_leads (o.Concat p) w ls st = binary_here concat_of v.concat_fits (place_at c p) ls st
  act_leads (o.Join n p) w ls st = collects_here n join_of v.join_fits (place_at c p) ls st
  act_leads o.Lt w ls st = binary_here less_of v.less_fits None ls st
  act_leads o.Le w ls st = binary_here at_most_of v.at_most_fits None ls st
  act_leads o.Gt w ls st = binary_here greater_of v.greater_fits None ls st
  act_leads o.Ge w ls st = binary_here at_least_of v.at_least_fits None ls st
  act_leads o.Eq w ls st = binary_here equal_of v.equal_fits None ls st
  act_leads o.Ne w ls st = binary_here unequal_of v.unequal_fits None ls st
  act_leads (o.Array n p) w ls st = collects_here n array_of v.array_fits (place_at c p) ls st
  act_leads (o.Map n p) w ls st = collects_here (n + n) (λ vs. map_of (paired vs)) v.map_fits (place_at c p) ls st
  act_leads (o.Tuple n p) w ls st = collects_here n tuple_of v.tuple_fits (place_at c p) ls st
  act_leads (o.Some p) w ls st = unary_here option_of v.option_fits (place_at c p) ls st
  act_leads o.Query w ls st = unary_here query_of v.query_fits None ls st
  act_leads (o.Item n) w ls st = unary_here (λ a. item_of a n) (λ i a b. v.item_fits i a n b) None ls st
  act_leads o.At w ls st = binary_here at_of v.at_fits None ls st
  act_leads o.Length w ls st = unary_here length_of v.length_fits None ls st
  act_leads (o.New p) w ls st = top_leads c _ st s _
      (λ a st' t. answered_here (place_at c p) (variable_made a s) ls st st' (e.made_ticks object _ s) (λ z k
      b. let h = t z.entries b.stack in (e.made_fine c z object v.object_fits _ s k h.0, h.1)))
  act_leads (o.Load n) w ls st = top_leads c _ st s _
      (λ a st' t. answered_here None (slot_read n a s) ls st st' (e.read_ticks n a s) (λ z k b. (
        e.read_fine c z n a s k,
        (t z.entries b.stack).1,
      )))
  act_leads (o.Store n j kd p) w ls st = top_leads c _ st s _
      (λ a st1 t1. many_leads c _ j st1 [] s _ (λ path st2 t2. top_leads c _ st2 s _
      (λ cell st3 t3. answered_here (place_at c p) (slot_written n path (mode_of kd) a cell s) ls st st3
      (e.written_ticks n path (mode_of kd) a cell s) (λ z k
      b. let h1 = t1 z.entries b.stack in let h2 = t2 z.entries h1.1 tt in (
        e.written_fine c z n path (mode_of kd) a cell s k h1.0.0 h2.0,
        (t3 z.entries h2.1).1,
      )))))
  act_leads (o.Object n p) w ls st = there_leads c _ (slice_get c.classes n) s _
      (λ (q : Class) i. many_leads c _ q.slots st [] s _ (λ vs st' t.
      answered_here (place_at c p) (object_made n vs s) ls st st' (e.made_ticks object _ s) (λ z k b. let h = t z.entries b.stack tt in (
        e.made_fine c z
            object v.object_fits _ s k h.0,
        h.1,
      ))))
  act_leads (o.Event p) w ls st = answered_here (place_at c p) (event_made s) ls st st (e.made_ticks event _ s) (λ z k b. (
    e.made_fine c z event v.event_fits _ s k tt,
    b.stack,
  ))
  act_leads (o.Jump l) w ls st = goes_here ls st ls st l (λ z p b. (b.locals, b.stack))
  act_leads (o.Same l) w ls st = two_leads c _ st s _ (λ a d st' t. goes_here ls st ls st' _ (λ z p b. (b.locals, (t z.entries b.stack).1)))
  act_leads (o.Again l) w ls st = only_leads c _ (fits hs l) s _ (λ b. spending_leads c _ s.clock.left s _ refl (λ n i.
      then_leads (m.stays (one_step n i ls st ls st l (λ z p b. (b.locals, b.stack)))) acts_next))
  act_leads (o.Try l) w ls st = goes_leads c y x s s (F ls st) (frame g ls [] (suc pc) (record {
    made = pc;
    label = l;
    stack = st;
    memory = s.memory;
    life = g;
  } ∷ hs)) bl (record {
    ticks = same_ticks s.clock;
    state = λ z a b. a;
    frame = λ z a b. record {
      locals = b.locals;
      stack = tt;
      defers = b.defers;
      handlers = (record { stack = b.stack; defers = b.defers; memory = a.memory }, b.handlers);
    };
  })
  act_leads o.Commit w ls st = handler_leads c _ hs s _
      (λ h rest i. goes_leads c y x s s (F ls st) (frame g ls (st ++ h.stack) (suc pc) rest) bl
      (record {
        ticks = same_ticks s.clock;
        state = λ z a b. a;
        frame = λ z a b. let k = subst (Each (HandlerFine c z)) i b.handlers in record {
          locals = b.locals;
          stack = v.append_fit z.entries st h.stack b.stack k.0.stack;
          defers = b.defers;
          handlers = k.1;
        };
      }))
  act_leads o.Undo w ls st = handler_leads c _ hs s _
      (λ h rest i. goes_leads c y x s (restored h.memory s) (F ls st) (frame g ls (st ++ h.stack) (suc
      pc) rest) bl (record {
        ticks = same_ticks s.clock;
        state = λ z a b. let k = subst (Each (HandlerFine c z)) i b.handlers in record {
          before = a.before;
          entries = a.entries;
          memory = k.0.memory;
          results = a.results;
          signals = a.signals;
        };
        frame = λ z a b. let k = subst (Each (HandlerFine c z)) i b.handlers in record {
          locals = b.locals;
          stack = v.append_fit z.entries st h.stack b.stack k.0.stack;
          defers = b.defers;
          handlers = k.1;
        };
      }))
  act_leads o.Fail w ls st = fails_here ls st
  act_leads (o.Call n) w ls st = there_leads c _ (slice_get c.functions n) s _
      (λ (q : Func) i. many_leads c _ q.params st [] s _
      (λ vs st' t. enters_here (o.Call n) w refl q vs ls st st' (λ z p b. t z.entries b.stack tt)))
  act_leads (o.Method n k) w ls st = many_leads c _ k st [] s _
      (λ vs st1 t1. top_leads c _ st1 s _ (λ a st2 t2. there_leads c _ (method_of c n k a s)
      s _ (λ q i. enters_here (o.Method n k) w refl q (a ∷ vs) ls st st2
      (λ z p b. let h1 = t1 z.entries b.stack tt in let h2 = t2 z.entries h1.1 in (
        (h2.0.0, h1.0),
        h2.1,
      )))))
  act_leads o.Return w ls st = top_leads c _ st s _
      (λ a st' t. only_leads c _ (nothing g.defers g.noted) s _ (λ i. returns_here hs bl refl ls st a (λ z p b. (t z.entries b.stack).0)))
  act_leads (o.Each l) w ls st = top_leads c _ st s _
      (λ a st' t. domain_leads c _ a s _ (there_leads c _ (put ls l a) s _ (λ ls1 e1. there_leads c _
      (put ls1 (suc l) (int (pos 0))) s _ (λ ls2 e2. goes_here ls st ls2 st' (suc pc) (λ z p b. let k = t z.entries b.stack in (
        subst (AllFit z.entries) e2 (put_fits z.entries ls1 (suc l) (int (pos 0))
            (subst (AllFit z.entries) e1 (put_fits z.entries ls l a b.locals
            k.0.0)) (v.int_fits z.entries (pos 0))),
        k.1,
      ))))))
  act_leads (o.Range l) w ls st = two_leads c _ st s _
      (λ a d st' t. int_leads c _ a s _ (int_leads c _ d s _ (there_leads c _ (put ls l a) s _ (λ ls1
      e1. there_leads c _ (put ls1 (suc l) d) s _ (λ ls2 e2. goes_here ls st ls2 st' (suc pc) (λ z p b. let k = t z.entries b.stack in (
        subst (AllFit z.entries) e2 (put_fits z.entries ls1 (suc l) d
            (subst (AllFit z.entries) e1 (put_fits z.entries ls l a b.locals k.0.0)) k.0.1.0),
        k.1,
      )))))))
  act_leads (o.Take l d label) w ls st = there_leads c _ (nth ls l) s _
      (λ a e1. there_leads c _ (nth ls (suc l)) s _
      (λ b e2. there_leads c _ (nth ls d) s _ (λ q e3. there_leads c _ (nth ls (suc d)) s _
      (λ r e4. takes_here (taken_from a b) l d label ls st
      (λ z k. v.taken_from_fits z.entries a b (subst (OneFits z.entries) e1 (got_fits z.entries ls l k.locals))
      (subst (OneFits z.entries) e2 (got_fits z.entries ls (suc l) k.locals)))))))
  act_leads (o.Append l p) w ls st = top_leads c _ st s _
      (λ a st' t. there_leads c _ (nth ls l) s _ (λ d i. into_here (place_at c p) l (append_of d
      a) ls st st' (λ z k b. let h = t z.entries b.stack in (
        v.append_of_fits z.entries d a (subst (OneFits z.entries) i (got_fits z.entries ls l
            b.locals)) h.0.0,
        h.1,
      ))))
  act_leads (o.Print p) w ls st = top_leads c _ st s _
      (λ a st' t. answered_here (place_at c p) (line_printed a s) ls st st' (e.printed_ticks a s)
      (λ z k b. (e.printed_fine c z a s k, (t z.entries b.stack).1)))
  act_leads (o.Sleep n) w ls st = only_leads c _ (free hs g.noted bl) s _
      (λ i. suspends_here (o.Sleep n) w (after n s) ls st st i (λ z p b. (
        b.locals,
        b.stack,
      )) (λ n. tt) (v.pause_operand c valid pc n w s.clock.now))
  act_leads o.Forever w ls st = only_leads c _ (free hs g.noted bl) s _ (λ i. suspends_here o.Forever w never ls st st i (λ z p b. (
    b.locals,
    b.stack,
  )) (λ n. tt) tt)
  act_leads o.AwaitTask w ls st = only_leads c _ (free hs g.noted bl) s _
      (λ i. top_leads c _ st s _ (λ a st' t. there_leads c _ (task_of a) s _
      (λ entry j. awaits_here o.AwaitTask w refl i (nth s.clock.results entry) entry refl ls st st'
      (λ z p b. (b.locals, (t z.entries b.stack).1)))))
  act_leads o.AwaitEvent w ls st = only_leads c _ (free hs g.noted bl) s _
      (λ i. top_leads c _ st s _ (λ a st' t. there_leads c _ (event_of a s) s _
      (λ d j. suspends_here o.AwaitEvent w (heard d) ls st st' i (λ z p b. (b.locals, (t z.entries b.stack).1)) (λ n. tt)
      (e.event_there a s d j))))
  act_leads o.Signal w ls st = only_leads c _ (free hs g.noted bl) s _
      (λ i. two_leads c _ st s _ (λ a d st' t. answered_here None (signal_sent
      (event_of a s) d s) ls st st' (e.sent_ticks (event_of a s) d s) (λ z k b. let h = t z.entries b.stack in (
        e.sent_fine c z (event_of a s) d s k
            h.0.1.0,
        h.1,
      ))))
  act_leads (o.Spawn n) w ls st = only_leads c _ (free hs g.noted bl) s _
      (λ i. there_leads c _ (slice_get c.functions n) s _
      (λ (q : Func) j. many_leads c _ q.params st [] s _
      (λ vs st' t. spawns_here (o.Spawn n) w i q vs ls st st' (λ z p b. t z.entries b.stack tt))))
  act_leads (o.SpawnMethod n k) w ls st = only_leads c _ (free hs g.noted bl) s _
      (λ i. many_leads c _ k st [] s _ (λ vs st1 t1. top_leads c _ st1 s _
      (λ a st2 t2. there_leads c _ (method_of c n k a s) s _
      (λ q j. spawns_here (o.SpawnMethod n k) w i q (a ∷ vs) ls st st2 (λ z p b. let h1 = t1
      z.entries b.stack tt in let h2 = t2 z.entries h1.1 in ((h2.0.0, h1.0), h2.1))))))
  act_leads (o.Group kd n p) w ls st = only_leads c _ (free hs g.noted bl) s _
      (λ i. there_leads c _ (place_at c p) s _ (λ q j. there_leads c _ (labels
      c.ops (suc pc) n) s _ (λ ks k. groups_here (kind_of kd) q ks (after_arms (suc pc) n) ls st i (record {
        index = pc;
        number = kd;
        where_at = p;
        is_behind = v.after_is (suc pc) n ∙ ap (λ n. suc pc + n) (sym (v.labels_many c.ops (suc pc) n ks k));
        stand = ap stand_in w ∙ ap (λ n. gathers kd n p) (sym (v.labels_many c.ops (suc pc) n ks k));
        is_kind = refl;
        is_source = j;
      }))))
  act_leads (o.Arm l) w ls st = ends_run
  act_leads (o.Branch l) w ls st = only_leads c _ (free hs g.noted bl) s _
      (λ i. spending_leads c _ s.clock.left s _ refl
      (λ n j. then_leads (m.stays (same_state ls st ls st l (λ z p b. (b.locals, b.stack))))
      (then_leads (m.branches (calm l ls st i) j) acts_next)))
  act_leads o.ArmEnd w ls st = top_leads c _ st s _
      (λ a st' t. only_leads c _ (nothing g.defers g.noted) s _ (λ i. ends_here hs bl refl ls st a (λ z p b. (t z.entries b.stack).0)))
  act_leads (o.Defer l) w ls st = goes_leads c y x s s (F ls st) (frame (record g { defers = suc pc ∷ g.defers }) ls st l hs) bl (record {
    ticks = same_ticks s.clock;
    state = λ z a b. a;
    frame = λ z a b. record { locals = b.locals; stack = b.stack; defers = (ap is_defer w, b.defers); handlers = b.handlers };
  })
  act_leads (o.Leave n) w ls st = only_leads c _ (not (ltn (length g.defers) n)) s _
      (λ i. only_leads c _ (not (ltn n (kept_defers hs))) s _ (λ j. leaves_here (ltn n (length g.defers)) ls st))
  act_leads o.DeferEnd w ls st = only_leads c _ (ltn (kept_noted hs) (length g.noted)) s _ (λ i. noted_here g.noted ls st)

pub operation_leads : (c : Code) → Valid c → TextsAreBytes c → (k : Machine) → MachineRooted k → Leads c (acts k) (step c k)
operation_leads c valid bytes k r = there_leads c _ (slice_get c.ops k.frame.place) k.state _
    (λ op e. act_leads c valid bytes k.who k.world k.state k.frame.life k.frame.place k.frame.handlers k.below r.frames r.world op e
    k.frame.locals k.frame.stack)
