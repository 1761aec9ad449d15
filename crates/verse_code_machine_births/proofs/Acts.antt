-- Each operation keeps what holds of all tasks.
use Rattle.std.proofs.Common.{◌≡◌, ℕ, zero, suc, ◌≤◌, length, ◌+◌, List, [], ◌∷◌, Option, Some, None, Bool, true}
use Rattle.std.proofs.Common.{false, refl, arith}
use Rattle.std.specs.Prelude.{pos, not, slice_get}
use Rattle.verse_base.specs.declared.places.Place.{Place}
use Rattle.verse_base.specs.declared.refusals.Kind.{Kind as Error}
use Rattle.verse_code.specs.declared.operations.Op.{Op}
use Rattle.verse_code.specs.declared.operations.Op.TheVariants as o
use Rattle.verse_code.specs.declared.codes.Func.{Func}
use Rattle.verse_code.specs.declared.codes.Class.{Class}
use Rattle.verse_code.specs.declared.codes.Code.{Code}
use Rattle.verse_value.specs.Val.{Val, unit, falsity, truth, int, char, enum, object, event, task, some, array}
use Rattle.verse_value.specs.Val.{mapping, tuple}
use Rattle.verse_value.specs.Store.{Store}
use Rattle.verse_value.specs.Answer.{Answer, gives, fails, error, stuck}
use Rattle.verse_value.specs.Operations.{sum_of, difference_of, product_of, negation_of, floor_of, ceil_of, modulo_of}
use Rattle.verse_value.specs.Operations.{concat_of, join_of}
use Rattle.verse_value.specs.Operations.{less_of, at_most_of, greater_of, at_least_of, equal_of, unequal_of, array_of}
use Rattle.verse_value.specs.Operations.{map_of, tuple_of}
use Rattle.verse_value.specs.Operations.{option_of, query_of, item_of, at_of, length_of, append_of}
use Rattle.verse_value.specs.declared.runs.Ending.{Ending}
use Rattle.verse_value.specs.declared.runs.Ending.TheVariants as ending
use Rattle.verse_meaning_state.specs.State.{State, Given, spending, stepped, restored}
use Rattle.verse_meaning_state.specs.Waits.{never, done, heard, after, ltn, nth}
use Rattle.verse_meaning_state.specs.Effects.{Effect, still, variable_made, object_made, event_made, slot_read}
use Rattle.verse_meaning_state.specs.Effects.{slot_written, line_printed, event_of, task_of}
use Rattle.verse_meaning_state.specs.Effects.{signal_sent}
use Rattle.verse_meaning_state.proofs.Keeping.{Keeps, still_keeps, added_keeps, read_keeps, written_keeps}
use Rattle.verse_meaning_state.proofs.Keeping.{printed_keeps, sent_keeps}
use Rattle.verse_code_machine.specs.Tasks.{Life, Handler, Frame, Note, to, gone, Who, Part, Thread, thread, Task, World, Step}
use Rattle.verse_code_machine.specs.Tasks.{Next, Over, machine}
use Rattle.verse_code_machine.specs.Frames.{on_top, on_two, on_many, on_there, only_where, put, fits, goes, failing}
use Rattle.verse_code_machine.specs.Frames.{faulting, answered}
use Rattle.verse_code_machine.specs.Frames.{answered_to, enters, method_of, free, nothing, kept_defers, kept_noted}
use Rattle.verse_code_machine.specs.Cancelling.{clears_frames}
use Rattle.verse_code_machine.specs.Ends.{cleared}
use Rattle.verse_code_machine.specs.Acts.{place_at, mode_of, kind_of, paired, Taken, ended, takes, unfit, taken_from}
use Rattle.verse_code_machine.specs.Acts.{takes_step, on_domain}
use Rattle.verse_code_machine.specs.Acts.{on_int, awaits, spawns, labels, after_arms, groups, on_noted, on_defer}
use Rattle.verse_code_machine.specs.Acts.{on_note, frame, unary, binary}
use Rattle.verse_code_machine.specs.Acts.{collects, leaves, on_handler, act}
use Rattle.verse_code_machine_births.specs.Everywhere.{WorldIs}
use Rattle.verse_code_machine_births.proofs.Kept as kept
use Rattle.verse_code_machine_births.proofs.Kept.{Kept, is_new, same_frames, new_frame, new_child, new_root}
use Rattle.verse_code_machine_births.proofs.Kept.{moved, tried, released, failed}
use Rattle.verse_code_machine_births.proofs.Ends.{Low, over, others, spending_low, resumes_low, frames_low, next_low}
use Rattle.verse_code_machine_births.proofs.Ends.{suspends_low, ends_low, returns_low, cleared_low}

module _ (most : ℕ) (F : Who → List Frame → Type 0) (R : Thread → List Part → Type 0) (OfTask : Task → Type 0)
    (OfBegins : Thread → List Part → ℕ → Type 0) (law : Kept most F R OfTask OfBegins) where
  abbrev Stays : Step → Type 0
  Stays = Low most F R OfTask OfBegins law

  abbrev World_in : World → Type 0
  World_in = WorldIs (kept.OfThread F R) OfTask OfBegins

  closes : {e : Ending} {s : State} → Stays (Over e s)
  closes = over most F R OfTask OfBegins law

  spends : (k : ℕ) (s : State) (go : State → Step) → k ≡ most → ((l : ℕ) → suc l ≡ most → Stays (go (stepped l s))) →
      Stays (spending k s (Over ending.Steps s) go)
  spends = spending_low most F R OfTask OfBegins law

  only_low : (b : Bool) (s : State) (q : Step) → Stays q → Stays (only_where b s q)
  only_low true s q l = l
  only_low false s q l = closes

  top_low : (st : List Val) (s : State) (go : Val → List Val → Step) → ((v : Val) (st : List Val) → Stays (go v st))
      → Stays (on_top st s go)
  top_low [] s go f = closes
  top_low (v ∷ st) s go f = f v st

  two_low : (st : List Val) (s : State) (go : Val → Val → List Val → Step) → ((a b : Val) (st : List Val) → Stays (go
      a b st)) →
      Stays (on_two st s go)
  two_low [] s go f = closes
  two_low (b ∷ []) s go f = closes
  two_low (b ∷ a ∷ st) s go f = f a b st

  many_low : (m : ℕ) (st vs : List Val) (s : State) (go : List Val → List Val → Step) → ((ws st : List Val) → Stays
      (go ws st)) →
      Stays (on_many m st vs s go)
  many_low zero st vs s go f = f vs st
  many_low (suc m) [] vs s go f = closes
  many_low (suc m) (v ∷ st) vs s go f = many_low m st (v ∷ vs) s go f

  pub there_low : {A : Type 0} (x : Option A) (s : State) (go : A → Step) → ((y : A) → Stays (go y)) → Stays
      (on_there x s go)
  there_low None s go f = closes
  there_low (Some x) s go f = f x

  faulting_low : (p : Option Place) (k : Error) (s : State) → Stays (faulting p k s)
  faulting_low None k s = closes
  faulting_low (Some p) k s = closes

  domain_low : (v : Val) (s : State) (q : Step) → Stays q → Stays (on_domain v s q)
  domain_low unit s q l = closes
  domain_low falsity s q l = closes
  domain_low truth s q l = closes
  domain_low (int n) s q l = closes
  domain_low (char n) s q l = closes
  domain_low (enum a b) s q l = closes
  domain_low (object c) s q l = closes
  domain_low (event n) s q l = closes
  domain_low (task n) s q l = closes
  domain_low (some w) s q l = closes
  domain_low (array vs) s q l = l
  domain_low (mapping ps) s q l = l
  domain_low (tuple vs) s q l = closes

  int_low : (v : Val) (s : State) (q : Step) → Stays q → Stays (on_int v s q)
  int_low unit s q l = closes
  int_low falsity s q l = closes
  int_low truth s q l = closes
  int_low (int n) s q l = l
  int_low (char n) s q l = closes
  int_low (enum a b) s q l = closes
  int_low (object c) s q l = closes
  int_low (event n) s q l = closes
  int_low (task n) s q l = closes
  int_low (some w) s q l = closes
  int_low (array vs) s q l = closes
  int_low (mapping ps) s q l = closes
  int_low (tuple vs) s q l = closes

  goes_low : (y : Who) (o : World) (s u : State) (g : Life) (ls st : List Val) (q : ℕ) (hs : List Handler) (bl : List
      Frame) →
      u.clock.left ≤ most → F y (frame g ls st q hs ∷ bl) → World_in o → Stays (goes y o s u g ls st q hs bl)
  goes_low y o s u g ls st q hs bl t k b = only_low (fits hs q) s _ (record { holds = (same_frames t k, b) })

  handler_low : (hs : List Handler) (s : State) (go : Handler → List Handler → Step) →
      ((h : Handler) (rest : List Handler) → hs ≡ h ∷ rest → Stays (go h rest)) → Stays (on_handler hs s go)
  handler_low [] s go f = closes
  handler_low (h ∷ hs) s go f = f h hs refl

  failing_low : (y : Who) (o : World) (s : State) (ls : List Val) (f : Frame) (hs : List Handler) (bl : List Frame) →
      f.handlers ≡ hs → s.clock.left ≤ most → F y (f ∷ bl) → World_in o → Stays (failing y o s ls hs bl)
  failing_low y o s ls f (h ∷ hs) bl e z k c =
      goes_low y o s (restored h.memory s) h.life ls h.stack h.label hs bl z
      (law.becomes y f _ bl (failed h refl e) k) c
  failing_low y o s ls f [] [] e z k c = closes
  failing_low y o s ls f [] (g ∷ bl) e z k c =
      failing_low y o s g.locals g g.handlers bl refl z (law.left y f (g ∷ bl) k) c

  module _ (y : Who) (x : World) (s : State) (g : Life) (pc : ℕ) (hs : List Handler) (bl : List Frame)
      (z : s.clock.left ≡ most) (k : F y (frame g [] [] pc hs ∷ bl)) (i : World_in x) where
    low : s.clock.left ≤ most
    low = omega (arith, z)

    lower : {l : ℕ} → suc l ≡ most → l ≤ most
    lower e = omega (arith, e)

    same_steps : (u : State) → u.clock.left ≡ s.clock.left → u.clock.left ≤ most
    same_steps u e = omega (arith, z, e)

    -- the frame with another life of the same birth, other locals and operands, and elsewhere
    as_here : (h : Life) {ls st : List Val} {q : ℕ} → g.born ≡ h.born → F y (frame h ls st q hs ∷ bl)
    as_here h e = law.becomes y (frame g [] [] pc hs) _ bl (moved e refl) k

    here : {ls st : List Val} {q : ℕ} → F y (frame g ls st q hs ∷ bl)
    here = as_here g refl

    goes_here : (u : State) (ls st : List Val) (q : ℕ) → u.clock.left ≤ most → Stays (goes y x s u g ls st q hs bl)
    goes_here u ls st q t = goes_low y x s u g ls st q hs bl t here i

    goes_as : (h : Life) (ls st : List Val) (q : ℕ) → g.born ≡ h.born → Stays (goes y x s s h ls st q hs bl)
    goes_as h ls st q e = goes_low y x s s h ls st q hs bl low (as_here h e) i

    fails_here : (ls : List Val) → Stays (failing y x s ls hs bl)
    fails_here ls = failing_low y x s ls (frame g [] [] pc hs) hs bl refl low k i

    answered_here : (p : Option Place) (a : Effect) (ls st : List Val) → Keeps s a → Stays (answered p a y x s g ls
        st pc hs bl)
    answered_here p (gives v) ls st t = goes_here v.1 ls (v.0 ∷ st) (suc pc) (same_steps v.1 t)
    answered_here p fails ls st t = fails_here ls
    answered_here p (error e) ls st t = only_low (fits hs (suc pc)) s _ (faulting_low p e s)
    answered_here p stuck ls st t = closes

    into_here : (p : Option Place) (l : ℕ) (a : Answer Val) (ls st : List Val) → Stays (answered_to p l a y x s g ls
        st pc hs bl)
    into_here p l (gives v) ls st = there_low (put ls l v) s _ (λ ls. goes_here s ls st (suc pc) low)
    into_here p l fails ls st = fails_here ls
    into_here p l (error e) ls st = only_low (fits hs (suc pc)) s _ (faulting_low p e s)
    into_here p l stuck ls st = closes

    unary_here : (f : Val → Answer Val) (p : Option Place) (ls st : List Val) → Stays (unary f p y x s g ls st pc hs
        bl)
    unary_here f p ls st = top_low st s _ (λ v st. answered_here p (still (f v) s) ls st (still_keeps (f v) s))

    binary_here : (f : Val → Val → Answer Val) (p : Option Place) (ls st : List Val) → Stays (binary f p y x s g ls
        st pc hs bl)
    binary_here f p ls st = two_low st s _ (λ a c st. answered_here p (still (f a c) s) ls st (still_keeps (f a c) s))

    collects_here : (m : ℕ) (f : List Val → Answer Val) (p : Option Place) (ls st : List Val) → Stays (collects m f p
        y x s g ls st pc hs bl)
    collects_here m f p ls st = many_low m st [] s _ (λ vs st. answered_here p (still (f vs) s) ls st (still_keeps (f
        vs) s))

    enters_here : (f : Func) (vs ls st : List Val) → Stays (only_where (fits hs (suc pc)) s (enters f vs y x s (frame
        g ls st (suc pc) hs ∷
        bl)))
    enters_here f vs ls st =
        only_low (fits hs (suc pc)) s _
        (spends s.clock.left s _ z (λ l d. record { holds = (new_frame d is_new here, i) }))

    awaits_here : (r : Option (Option Given)) (entry : ℕ) (ls st : List Val) →
        Stays (awaits r entry (thread y (frame g ls st (suc pc) hs) bl) x s)
    awaits_here None entry ls st = closes
    awaits_here (Some None) entry ls st = suspends_low most F R OfTask OfBegins law (done entry) _ x s z here i
    awaits_here (Some (Some v)) entry ls st = resumes_low most F R OfTask OfBegins law _ v.value x s z here i

    spawns_here : (f : Func) (vs ls st : List Val) → Stays (spawns f vs (thread y (frame g ls st (suc pc) hs) bl) x s)
    spawns_here f vs ls st =
        spends s.clock.left s _ z (λ l d. record {
          holds = (
            new_root d is_new,
            others most F R OfTask OfBegins law tt tt ((here, (i.pre, i.post)), i.ups) i.before i.behind,
          );
        })

    groups_here : (kd : _) (p : Place) (ks : List ℕ) (q : ℕ) (ls st : List Val) → Stays (groups kd p ks q y x s g ls
        st hs bl)
    groups_here kd p [] q ls st = closes
    groups_here kd p (l ∷ ks) q ls st =
        next_low most F R OfTask OfBegins law kd p [] (l ∷ ks) _ x.pre x.post x.ups x.trees s
        (λ t. Over ending.Stuck s) z here (law.none _)
        (others most F R OfTask OfBegins law i.pre i.post i.ups i.before i.behind) (λ r g. closes)

    takes_here : (t : Taken) (l d label : ℕ) (ls st : List Val) → Stays (takes_step t l d label y x s g ls st pc hs
        bl)
    takes_here ended l d label ls st = goes_here s ls st (suc pc) low
    takes_here (takes v w m a) l d label ls st =
        only_low (fits hs label) s _ (spends s.clock.left s _ z (λ u e. there_low (put ls d v) s _
        (λ ls. there_low (put ls (suc d) w) s _
        (λ ls. there_low (put ls (l + m) a) s _ (λ ls. record { holds = (same_frames (lower e) here, i) })))))
    takes_here unfit l d label ls st = closes

    leaves_here : (c : Bool) (ls st : List Val) → Stays (leaves c y x s g ls st pc hs bl)
    leaves_here false ls st = goes_here s ls st (suc pc) low
    leaves_here true ls st = defer_here g.defers
      where
        defer_here : (ds : List ℕ) → Stays (on_defer ds s (λ q ds. only_where (fits hs q) s (spending s.clock.left s
            (Over ending.Steps s)
            (λ u.
            Next (machine y x u (record { born = g.born; defers = ds; noted = to pc ∷ g.noted }) ls st q hs bl)))))
        defer_here [] = closes
        defer_here (q ∷ ds) = only_low (fits hs q) s _ (spends s.clock.left s _ z (λ l d. record {
          holds = (
            same_frames (lower d) (as_here (record { born = g.born; defers = ds; noted = to pc ∷ g.noted }) refl),
            i,
          );
        }))

    note_here : (t : Note) (ns : List Note) (ls st : List Val) →
        Stays (on_note t (λ q. goes y x s s (record g {
          noted =
              ns;
        }) ls st q hs bl) (clears_frames (λ s. cleared x.ups x.pre x.post x.trees s) y x s (frame (record g {
          noted =
              ns;
        }) ls st pc hs ∷ bl)))
    note_here (to q) ns ls st = goes_as (record g { noted = ns }) ls st q refl
    note_here gone ns ls st =
        frames_low most F R OfTask OfBegins law (λ s. cleared x.ups x.pre x.post x.trees s) y x s
        (frame (record g { noted = ns }) ls st pc hs ∷ bl) z (as_here (record g { noted = ns }) refl) i
        (cleared_low most F R OfTask OfBegins law x.ups x.pre x.post x.trees s z i)

    noted_here : (ns : List Note) (ls st : List Val) →
        Stays (on_noted ns s (λ t ns. on_note t (λ q. goes y x s s (record g {
          noted =
              ns;
        }) ls st q hs bl) (clears_frames (λ s. cleared x.ups x.pre x.post x.trees s) y x s (frame (record g {
          noted =
              ns;
        }) ls st pc hs ∷ bl))))
    noted_here [] ls st = closes
    noted_here (t ∷ ns) ls st = note_here t ns ls st

    pub act_low : (c : Code) (op : Op) (ls st : List Val) → Stays (act c op y x s g ls st pc hs bl)
    act_low c (o.Int n) ls st = goes_here s ls (_ ∷ st) (suc pc) low
    act_low c o.Unit ls st = goes_here s ls (_ ∷ st) (suc pc) low
    act_low c o.False ls st = goes_here s ls (_ ∷ st) (suc pc) low
    act_low c o.True ls st = goes_here s ls (_ ∷ st) (suc pc) low
    act_low c (o.Char n) ls st = goes_here s ls (_ ∷ st) (suc pc) low
    act_low c (o.Text t) ls st = there_low (slice_get c.texts t) s _ (λ a. goes_here s ls (_ ∷ st) (suc pc) low)
    act_low c (o.Enum n m) ls st = goes_here s ls (_ ∷ st) (suc pc) low
    act_low c (o.Get l) ls st = there_low (nth ls l) s _ (λ a. goes_here s ls (a ∷ st) (suc pc) low)
    act_low c (o.Put l) ls st = top_low st s _ (λ a st. there_low (put ls l a) s _ (λ ls. goes_here s ls st (suc pc)
        low))
    act_low c o.Drop ls st = top_low st s _ (λ a st. goes_here s ls st (suc pc) low)
    act_low c (o.Add p) ls st = binary_here sum_of (place_at c p) ls st
    act_low c (o.Sub p) ls st = binary_here difference_of (place_at c p) ls st
    act_low c (o.Mul p) ls st = binary_here product_of (place_at c p) ls st
    act_low c (o.Neg p) ls st = unary_here negation_of (place_at c p) ls st
    act_low c (o.Floor p) ls st = binary_here floor_of (place_at c p) ls st
    act_low c (o.Ceil p) ls st = binary_here ceil_of (place_at c p) ls st
    act_low c o.Mod ls st = binary_here modulo_of None ls st
    act_low c (o.Concat p) ls st = binary_here concat_of (place_at c p) ls st
    act_low c (o.Join m p) ls st = collects_here m join_of (place_at c p) ls st
    act_low c o.Lt ls st = binary_here less_of None ls st
    act_low c o.Le ls st = binary_here at_most_of None ls st
    act_low c o.Gt ls st = binary_here greater_of None ls st
    act_low c o.Ge ls st = binary_here at_least_of None ls st
    act_low c o.Eq ls st = binary_here equal_of None ls st
    act_low c o.Ne ls st = binary_here unequal_of None ls st
    act_low c (o.Array m p) ls st = collects_here m array_of (place_at c p) ls st
    act_low c (o.Map m p) ls st = collects_here (m + m) (λ vs. map_of (paired vs)) (place_at c p) ls st
    act_low c (o.Tuple m p) ls st = collects_here m tuple_of (place_at c p) ls st
    act_low c (o.Some p) ls st = unary_here option_of (place_at c p) ls st
    act_low c o.Query ls st = unary_here query_of None ls st
    act_low c (o.Item m) ls st = unary_here (λ v. item_of v m) None ls st
    act_low c o.At ls st = binary_here at_of None ls st
    act_low c o.Length ls st = unary_here length_of None ls st
    act_low c (o.New p) ls st =
        top_low st s _ (λ a st. answered_here (place_at c p) (variable_made a s) ls st (added_keeps _ _ s))
    act_low c (o.Load m) ls st = top_low st s _ (λ a st. answered_here None (slot_read m a s) ls st (read_keeps m a
        s))
    act_low c (o.Store m j kd p) ls st =
        top_low st s _ (λ a st. many_low j st [] s _ (λ path st. top_low st s _ (λ w st. answered_here (place_at c p)
        (slot_written m path (mode_of kd) a w s) ls st (written_keeps m path (mode_of kd) a w s))))
    act_low c (o.Object m p) ls st =
        there_low (slice_get c.classes m) s _ (λ (q : Class). many_low q.slots st [] s _ (λ vs st. answered_here
        (place_at c
        p) (object_made m vs s) ls st (added_keeps _ _ s)))
    act_low c (o.Event p) ls st = answered_here (place_at c p) (event_made s) ls st (added_keeps _ _ s)
    act_low c (o.Jump l) ls st = goes_here s ls st l low
    act_low c (o.Same l) ls st = two_low st s _ (λ a d st. goes_here s ls st _ low)
    act_low c (o.Again l) ls st =
        only_low (fits hs l) s _ (spends s.clock.left s _ z (λ u d. record { holds = (same_frames (lower d) here, i) }))
    act_low c (o.Try l) ls st =
        goes_low y x s s g ls [] (suc pc) (record {
          made = pc;
          label = l;
          stack = st;
          memory = s.memory;
          life =
              g;
        } ∷ hs) bl low (law.becomes y (frame g [] [] pc hs) _ bl (tried _ refl refl refl) k) i
    act_low c o.Commit ls st =
        handler_low hs s _ (λ h rest e. goes_low y x s s g ls _ (suc pc) rest bl low
        (law.becomes y (frame g [] [] pc hs) _ bl (released h refl e) k) i)
    act_low c o.Undo ls st =
        handler_low hs s _ (λ h rest e. goes_low y x s (restored h.memory s) g ls _ (suc pc) rest bl low
        (law.becomes y (frame g [] [] pc hs) _ bl (released h refl e) k) i)
    act_low c o.Fail ls st = fails_here ls
    act_low c (o.Call m) ls st =
        there_low (slice_get c.functions m) s _ (λ (q : Func). many_low q.params st [] s _ (λ vs st. enters_here q vs
        ls st))
    act_low c (o.Method m j) ls st =
        many_low j st [] s _ (λ vs st. top_low st s _ (λ a st. there_low (method_of c m j a s) s _ (λ q. enters_here
        q (a
        ∷ vs) ls st)))
    act_low c o.Return ls st =
        top_low st s _ (λ a st. only_low (nothing g.defers g.noted) s _ (returns_low most F R OfTask OfBegins law y x g.born a
        s hs bl z (law.left y (frame g [] [] pc hs) bl k) i))
    act_low c (o.Each l) ls st =
        top_low st s _ (λ a st. domain_low a s _ (there_low (put ls l a) s _ (λ ls. there_low (put ls (suc l) (int
        (pos
        0))) s _ (λ ls. goes_here s ls st (suc pc) low))))
    act_low c (o.Range l) ls st =
        two_low st s _ (λ a d st. int_low a s _ (int_low d s _ (there_low (put ls l a) s _ (λ ls. there_low (put ls
        (suc l) d) s _ (λ ls. goes_here s ls st (suc pc) low)))))
    act_low c (o.Take l d m) ls st =
        there_low (nth ls l) s _ (λ a. there_low (nth ls (suc l)) s _ (λ w. there_low (nth ls d) s _ (λ q. there_low
        (nth ls (suc d)) s _ (λ r. takes_here (taken_from a w) l d m ls st))))
    act_low c (o.Append l p) ls st =
        top_low st s _ (λ a st. there_low (nth ls l) s _ (λ w. into_here (place_at c p) l (append_of w a) ls st))
    act_low c (o.Print p) ls st =
        top_low st s _ (λ a st. answered_here (place_at c p) (line_printed a s) ls st (printed_keeps a s))
    act_low c (o.Sleep m) ls st = only_low (free hs g.noted bl) s _ (suspends_low most F R OfTask OfBegins law (after m s) _ x
        s z here i)
    act_low c o.Forever ls st = only_low (free hs g.noted bl) s _ (suspends_low most F R OfTask OfBegins law never _ x s z
        here i)
    act_low c o.AwaitTask ls st =
        only_low (free hs g.noted bl) s _ (top_low st s _ (λ a st. there_low (task_of a) s _ (λ entry. awaits_here
        (nth
        s.clock.results entry) entry ls st)))
    act_low c o.AwaitEvent ls st =
        only_low (free hs g.noted bl) s _ (top_low st s _ (λ a st. there_low (event_of a s) s _ (λ w. suspends_low
        most F R OfTask OfBegins law
        (heard w) _ x s z here i)))
    act_low c o.Signal ls st =
        only_low (free hs g.noted bl) s _ (two_low st s _ (λ a w st. answered_here None (signal_sent (event_of a s) w
        s) ls st
        (sent_keeps (event_of a s) w s)))
    act_low c (o.Spawn m) ls st =
        only_low (free hs g.noted bl) s _ (there_low (slice_get c.functions m) s _ (λ (q : Func). many_low q.params
        st [] s _
        (λ vs st. spawns_here q vs ls st)))
    act_low c (o.SpawnMethod m j) ls st =
        only_low (free hs g.noted bl) s _ (many_low j st [] s _ (λ vs st. top_low st s _ (λ a st. there_low
        (method_of c
        m j a s) s _ (λ q. spawns_here q (a ∷ vs) ls st))))
    act_low c (o.Group kd m p) ls st =
        only_low (free hs g.noted bl) s _ (there_low (place_at c p) s _ (λ q. there_low (labels c.ops (suc pc) m) s _
        (λ ks. groups_here (kind_of kd) q ks (after_arms (suc pc) m) ls st)))
    act_low c (o.Arm l) ls st = closes
    act_low c (o.Branch l) ls st =
        only_low (free hs g.noted bl) s _ (spends s.clock.left s _ z (λ u d. record {
          holds = (
            new_child {g = frame g [] [] pc hs} {fs = bl} d is_new k,
            others most F R OfTask OfBegins law i.pre i.post (here, i.ups) i.before i.behind,
          );
        }))
    act_low c o.ArmEnd ls st =
        top_low st s _ (λ a st. only_low (nothing g.defers g.noted) s _ (ends_low most F R OfTask OfBegins law y x g.born a s hs bl z i))
    act_low c (o.Defer l) ls st = goes_as _ ls st l refl
    act_low c (o.Leave m) ls st =
        only_low (not (ltn (length g.defers) m)) s _ (only_low (not (ltn m (kept_defers hs))) s _ (leaves_here (ltn m
        (length
        g.defers)) ls st))
    act_low c o.DeferEnd ls st = only_low (ltn (kept_noted hs) (length g.noted)) s _ (noted_here g.noted ls st)
