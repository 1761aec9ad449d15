-- Each operation keeps that a state belongs to its code.
use Rattle.std.proofs.Common.{◌≡◌, ℕ, zero, suc, length, ◌+◌, List, [], ◌∷◌, Option, Some, None, Bool, true, false, cond, refl, sym, subst}
use Rattle.std.proofs.Common.{arith, ap}
use Rattle.std.specs.Prelude.{pos, not, slice_get, slice_set, if◌then◌else◌}
use Rattle.verse_base.specs.declared.places.Place.{Place}
use Rattle.verse_base.specs.declared.refusals.Kind.{Kind as Error}
use Rattle.verse_code.specs.declared.operations.Op.{Op}
use Rattle.verse_code.specs.declared.operations.Op.TheVariants as o
use Rattle.verse_code.specs.declared.codes.Func.{Func}
use Rattle.verse_code.specs.declared.codes.Class.{Class}
use Rattle.verse_code.specs.declared.codes.Code.{Code}
use Rattle.verse_value.specs.Val.{Val, unit, falsity, truth, int, char, enum, object, event, task, some, array, mapping, tuple}
use Rattle.verse_value.specs.Keys.{bytes_of}
use Rattle.verse_value.specs.Store.{Store}
use Rattle.verse_value.specs.Answer.{Answer, gives, fails, error, stuck}
use Rattle.verse_value.specs.Operations.{sum_of, difference_of, product_of, negation_of, floor_of, ceil_of, modulo_of, concat_of, join_of}
use Rattle.verse_value.specs.Operations.{less_of, at_most_of, greater_of, at_least_of, equal_of, unequal_of, array_of, map_of, tuple_of}
use Rattle.verse_value.specs.Operations.{option_of, query_of, item_of, at_of, length_of, append_of}
use Rattle.verse_value.specs.Storing.{read_slot}
use Rattle.verse_value.specs.declared.runs.Ending.TheVariants as ending
use Rattle.verse_meaning_state.specs.State.{State, Given, spending, restored}
use Rattle.verse_meaning_state.specs.Waits.{never, done, heard, after, ltn, nth}
use Rattle.verse_meaning_state.specs.Effects.{Effect, still, added, variable_made, object_made, event_made, slot_read, changed}
use Rattle.verse_meaning_state.specs.Effects.{slot_written}
use Rattle.verse_meaning_state.specs.Effects.{text_printed, line_printed, event_of, task_of}
use Rattle.verse_meaning_state.specs.Effects.{signal_sent}
use Rattle.verse_code_machine.specs.Tasks.{Life, Handler, Frame, Note, to, gone, Who, thread, World, Step, Next, Over, machine}
use Rattle.verse_code_machine.specs.Frames.{on_top, on_two, on_many, on_there, only_where, put, fits, goes, failing, faulting, answered}
use Rattle.verse_code_machine.specs.Frames.{answered_to, enters, method_of, free, nothing, kept_defers, kept_noted}
use Rattle.verse_code_machine.specs.Cancelling.{clears_frames}
use Rattle.verse_code_machine.specs.Ends.{cleared}
use Rattle.verse_code_machine.specs.Acts.{place_at, mode_of, kind_of, paired, Taken, ended, takes, unfit, taken_from, takes_step, on_domain}
use Rattle.verse_code_machine.specs.Acts.{on_int, awaits, spawns, labels, after_arms, groups, on_noted, on_defer, on_note, frame, unary}
use Rattle.verse_code_machine.specs.Acts.{binary}
use Rattle.verse_code_machine.specs.Acts.{collects, leaves, on_handler, act}
use Rattle.std.proofs.lemmas.List.{length-set}
use Rattle.verse_value.specs.Store.{Cell, with_cell, with_slot, with_cell_slot, stored, slot_of}
use Rattle.verse_value.specs.Storing.{with_written, write_in}
use Rattle.verse_value.specs.Operations.{write_at}
use Rattle.verse_value.specs.declared.runs.CellKind.TheVariants as cell
use Rattle.verse_value.specs.declared.modes.Mode.{Mode}
use Rattle.verse_code_machine.specs.Belonging.{class_slots, slots_of, CellBelongs, StoreBelongs, StateBelongs, HandlersBelong, FramesBelong}
use Rattle.verse_code_machine.specs.Belonging.{WorldBelongs}
use Rattle.verse_code_machine.proofs.BelongingEnds.{Low, over, others, spending_low, resumes_low, frames_low, next_low, suspends_low}
use Rattle.verse_code_machine.proofs.BelongingEnds.{ends_low}
use Rattle.verse_code_machine.proofs.BelongingEnds.{returns_low, cleared_low}

module _ (cs : List Class) where
  abbrev pub Keeps : Effect → Type 0
  Keeps (gives x) = StateBelongs cs x.1
  Keeps fails = Unit {0}
  Keeps (error k) = Unit {0}
  Keeps stuck = Unit {0}

  still_keeps : (a : Answer Val) (s : State) → StateBelongs cs s → Keeps (still a s)
  still_keeps (gives v) s z = z
  still_keeps fails s z = tt
  still_keeps (error k) s z = tt
  still_keeps stuck s z = tt

  more_belong : (xs : Store) (c : Cell) → StoreBelongs cs xs → CellBelongs cs c → StoreBelongs cs (with_cell xs c)
  more_belong [] c a b = (b, tt)
  more_belong (x ∷ xs) c a b = (a.0, more_belong xs c a.1 b)

  made_keeps : (b : Bool) (c : Cell) (v : Val) (k : Error) (s : State) → StateBelongs cs s → CellBelongs cs c →
      Keeps (added (if b then gives (with_cell s.memory.store c) else error k) v s)
  made_keeps true c v k s z a = more_belong s.memory.store c z a
  made_keeps false c v k s z a = tt

  set_belongs : (xs : Store) (i : ℕ) (c : Cell) → StoreBelongs cs xs → CellBelongs cs c → StoreBelongs cs (slice_set xs i c)
  set_belongs [] i c a b = tt
  set_belongs (x ∷ xs) zero c a b = (b, a.1)
  set_belongs (x ∷ xs) (suc i) c a b = (a.0, set_belongs xs i c a.1 b)

  Fits : Option Cell → Type 0
  Fits None = Unit {0}
  Fits (Some c) = CellBelongs cs c

  found : (xs : Store) (i : ℕ) → StoreBelongs cs xs → Fits (slice_get xs i)
  unfolding Fits
  found [] i a = tt
  found (x ∷ xs) zero a = a.0
  found (x ∷ xs) (suc i) a = found xs i a.1

  get_belongs : (xs : Store) (i : ℕ) (c : Cell) → slice_get xs i ≡ Some c → StoreBelongs cs xs → CellBelongs cs c
  unfolding Fits
  get_belongs xs i c e a = subst Fits e (found xs i a)

  stored_belong : (xs : Store) (i slot : ℕ) (v : Val) (o : Option Cell) → slice_get xs i ≡ o → StoreBelongs cs xs →
      StoreBelongs cs (with_cell_slot o xs i slot v)
  stored_belong xs i slot v None e a = a
  stored_belong xs i slot v (Some c) e a =
      set_belongs xs i (with_slot c slot v) a (subst (λ m. slots_of cs c.kind ≡ Some m) (sym (length-set c.slots slot v)) (get_belongs xs
      i c e a))

  sized_keeps : (b : Bool) (xs : Store) (v : Val) (k : Error) (s : State) → StoreBelongs cs xs →
      Keeps (changed (if b then gives (xs, v) else error k) s)
  sized_keeps true xs v k s a = a
  sized_keeps false xs v k s a = tt

  with_keeps : (a : Answer (Val × Val)) (c slot : ℕ) (s : State) → StateBelongs cs s →
      Keeps (changed (with_written s.memory.store c slot a) s)
  with_keeps (gives w) c slot s z =
      sized_keeps _ (stored s.memory.store c slot w.0) w.1 _ s (stored_belong s.memory.store c slot w.0 (slice_get s.memory.store c) refl
      z)
  with_keeps fails c slot s z = tt
  with_keeps (error k) c slot s z = tt
  with_keeps stuck c slot s z = tt

  in_keeps : (from : Option Val) (c slot : ℕ) (path : List Val) (m : Mode) (v : Val) (s : State) → StateBelongs cs s →
      Keeps (changed (write_in s.memory.store c slot path m v from) s)
  in_keeps None c slot path m v s z = tt
  in_keeps (Some from) c slot path m v s z = with_keeps (write_at path m v from) c slot s z

  read_keeps : (slot : ℕ) (v : Val) (s : State) → StateBelongs cs s → Keeps (slot_read slot v s)
  read_keeps slot unit s z = tt
  read_keeps slot falsity s z = tt
  read_keeps slot truth s z = tt
  read_keeps slot (int n) s z = tt
  read_keeps slot (char n) s z = tt
  read_keeps slot (enum a b) s z = tt
  read_keeps slot (object c) s z = still_keeps (read_slot s.memory.store c slot) s z
  read_keeps slot (event n) s z = tt
  read_keeps slot (task n) s z = tt
  read_keeps slot (some w) s z = tt
  read_keeps slot (array vs) s z = tt
  read_keeps slot (mapping ps) s z = tt
  read_keeps slot (tuple vs) s z = tt

  written_keeps : (slot : ℕ) (path : List Val) (m : Mode) (v c : Val) (s : State) → StateBelongs cs s →
      Keeps (slot_written slot path m v c s)
  written_keeps slot path m v unit s z = tt
  written_keeps slot path m v falsity s z = tt
  written_keeps slot path m v truth s z = tt
  written_keeps slot path m v (int n) s z = tt
  written_keeps slot path m v (char n) s z = tt
  written_keeps slot path m v (enum a b) s z = tt
  written_keeps slot path m v (object c) s z = in_keeps (slot_of s.memory.store c slot) c slot path m v s z
  written_keeps slot path m v (event n) s z = tt
  written_keeps slot path m v (task n) s z = tt
  written_keeps slot path m v (some w) s z = tt
  written_keeps slot path m v (array vs) s z = tt
  written_keeps slot path m v (mapping ps) s z = tt
  written_keeps slot path m v (tuple vs) s z = tt

  told_keeps : (b : Bool) (x : Val × State) (k : Error) → StateBelongs cs x.1 → Keeps (cond b (gives x) (error k))
  told_keeps true x k z = z
  told_keeps false x k z = tt

  text_keeps : (bytes : Option (List ℕ)) (s : State) → StateBelongs cs s → Keeps (text_printed bytes s)
  text_keeps None s z = tt
  text_keeps (Some bytes) s z = told_keeps _ _ _ z

  printed_keeps : (v : Val) (s : State) → StateBelongs cs s → Keeps (line_printed v s)
  printed_keeps unit s z = tt
  printed_keeps falsity s z = tt
  printed_keeps truth s z = tt
  printed_keeps (int n) s z = tt
  printed_keeps (char n) s z = tt
  printed_keeps (enum a b) s z = tt
  printed_keeps (object c) s z = tt
  printed_keeps (event n) s z = tt
  printed_keeps (task n) s z = tt
  printed_keeps (some w) s z = tt
  printed_keeps (array vs) s z = text_keeps (bytes_of vs) s z
  printed_keeps (mapping ps) s z = tt
  printed_keeps (tuple vs) s z = tt

  sent_keeps : (e : Option ℕ) (v : Val) (s : State) → StateBelongs cs s → Keeps (signal_sent e v s)
  sent_keeps None v s z = tt
  sent_keeps (Some c) v s z = z

  only_low : (b : Bool) (s : State) (q : Step) → StateBelongs cs s → Low cs q → Low cs (only_where b s q)
  only_low true s q z l = l
  only_low false s q z l = over cs z

  top_low : (st : List Val) (s : State) (go : Val → List Val → Step) → StateBelongs cs s → ((v : Val) (st : List Val) →
      Low cs (go v st)) → Low cs (on_top st s go)
  top_low [] s go z f = over cs z
  top_low (v ∷ st) s go z f = f v st

  two_low : (st : List Val) (s : State) (go : Val → Val → List Val → Step) → StateBelongs cs s → ((a b : Val) (st : List Val) →
      Low cs (go a b st)) → Low cs (on_two st s go)
  two_low [] s go z f = over cs z
  two_low (b ∷ []) s go z f = over cs z
  two_low (b ∷ a ∷ st) s go z f = f a b st

  many_low : (m : ℕ) (st vs : List Val) (s : State) (go : List Val → List Val → Step) → StateBelongs cs s → ((ws st : List Val) →
      length ws ≡ m + length vs → Low cs (go ws st)) → Low cs (on_many m st vs s go)
  many_low zero st vs s go z f = f vs st (omega arith)
  many_low (suc m) [] vs s go z f = over cs z
  many_low (suc m) (v ∷ st) vs s go z f = many_low m st (v ∷ vs) s go z (λ ws st e. f ws st (omega (arith, e)))

  pub there_low : {A : Type 0} (x : Option A) (s : State) (go : A → Step) → StateBelongs cs s → ((y : A) → x ≡ Some y → Low cs (go y)) →
      Low cs (on_there x s go)
  there_low None s go z f = over cs z
  there_low (Some x) s go z f = f x refl

  goes_low : (y : Who) (o : World) (s u : State) (g : Life) (ls st : List Val) (q : ℕ) (hs : List Handler) (bl : List Frame) →
      StateBelongs cs s → StateBelongs cs u → HandlersBelong cs hs → FramesBelong cs bl → WorldBelongs cs o →
      Low cs (goes y o s u g ls st q hs bl)
  goes_low y o s u g ls st q hs bl z t k a b = only_low (fits hs q) s _ z (record { holds = (t, (k, (a, b))) })

  faulting_low : (p : Option Place) (k : Error) (s : State) → StateBelongs cs s → Low cs (faulting p k s)
  faulting_low None k s z = over cs z
  faulting_low (Some p) k s z = over cs z

  handler_low : (hs : List Handler) (s : State) (go : Handler → List Handler → Step) → StateBelongs cs s → HandlersBelong cs hs →
      ((h : Handler) (hs : List Handler) → StoreBelongs cs h.memory.store → HandlersBelong cs hs → Low cs (go h hs)) →
      Low cs (on_handler hs s go)
  handler_low [] s go z k f = over cs z
  handler_low (h ∷ hs) s go z k f = f h hs k.0 k.1

  domain_low : (v : Val) (s : State) (q : Step) → StateBelongs cs s → Low cs q → Low cs (on_domain v s q)
  domain_low unit s q z l = over cs z
  domain_low falsity s q z l = over cs z
  domain_low truth s q z l = over cs z
  domain_low (int n) s q z l = over cs z
  domain_low (char n) s q z l = over cs z
  domain_low (enum a b) s q z l = over cs z
  domain_low (object c) s q z l = over cs z
  domain_low (event n) s q z l = over cs z
  domain_low (task n) s q z l = over cs z
  domain_low (some w) s q z l = over cs z
  domain_low (array vs) s q z l = l
  domain_low (mapping ps) s q z l = l
  domain_low (tuple vs) s q z l = over cs z

  int_low : (v : Val) (s : State) (q : Step) → StateBelongs cs s → Low cs q → Low cs (on_int v s q)
  int_low unit s q z l = over cs z
  int_low falsity s q z l = over cs z
  int_low truth s q z l = over cs z
  int_low (int n) s q z l = l
  int_low (char n) s q z l = over cs z
  int_low (enum a b) s q z l = over cs z
  int_low (object c) s q z l = over cs z
  int_low (event n) s q z l = over cs z
  int_low (task n) s q z l = over cs z
  int_low (some w) s q z l = over cs z
  int_low (array vs) s q z l = over cs z
  int_low (mapping ps) s q z l = over cs z
  int_low (tuple vs) s q z l = over cs z

  failing_low : (y : Who) (o : World) (s : State) (ls : List Val) (hs : List Handler) (bl : List Frame) → StateBelongs cs s →
      HandlersBelong cs hs → FramesBelong cs bl → WorldBelongs cs o → Low cs (failing y o s ls hs bl)
  failing_low y o s ls (a ∷ hs) bl z k b c = goes_low y o s (restored a.memory s) a.life ls a.stack a.label hs bl z k.0 k.1 b c
  failing_low y o s ls [] [] z k b c = over cs z
  failing_low y o s ls [] (f ∷ bl) z k b c = failing_low y o s f.locals f.handlers bl z b.0 b.1 c

module _ (cs : List Class) (y : Who) (x : World) (s : State) (g : Life) (pc : ℕ) (hs : List Handler) (bl : List Frame) (z : StateBelongs
    cs s) (k : HandlersBelong cs hs) (b : FramesBelong cs bl) (i : WorldBelongs cs x) where
  goes_here : (u : State) (h : Life) (ls st : List Val) (q : ℕ) → StateBelongs cs u → Low cs (goes y x s u h ls st q hs bl)
  goes_here u h ls st q t = goes_low cs y x s u h ls st q hs bl z t k b i

  answered_here : (p : Option Place) (a : Effect) (ls st : List Val) → Keeps cs a → Low cs (answered p a y x s g ls st pc hs bl)
  answered_here p (gives v) ls st t = goes_here v.1 g ls (v.0 ∷ st) (suc pc) t
  answered_here p fails ls st t = failing_low cs y x s ls hs bl z k b i
  answered_here p (error e) ls st t = only_low cs (fits hs (suc pc)) s _ z (faulting_low cs p e s z)
  answered_here p stuck ls st t = over cs z

  into_here : (p : Option Place) (l : ℕ) (a : Answer Val) (ls st : List Val) → Low cs (answered_to p l a y x s g ls st pc hs bl)
  into_here p l (gives v) ls st = there_low cs (put ls l v) s _ z (λ ls e. goes_here s g ls st (suc pc) z)
  into_here p l fails ls st = failing_low cs y x s ls hs bl z k b i
  into_here p l (error e) ls st = only_low cs (fits hs (suc pc)) s _ z (faulting_low cs p e s z)
  into_here p l stuck ls st = over cs z

  unary_here : (f : Val → Answer Val) (p : Option Place) (ls st : List Val) → Low cs (unary f p y x s g ls st pc hs bl)
  unary_here f p ls st = top_low cs st s _ z (λ v st. answered_here p (still (f v) s) ls st (still_keeps cs (f v) s z))

  binary_here : (f : Val → Val → Answer Val) (p : Option Place) (ls st : List Val) → Low cs (binary f p y x s g ls st pc hs bl)
  binary_here f p ls st = two_low cs st s _ z (λ a c st. answered_here p (still (f a c) s) ls st (still_keeps cs (f a c) s z))

  collects_here : (m : ℕ) (f : List Val → Answer Val) (p : Option Place) (ls st : List Val) → Low cs (collects m f p y x s g ls st pc hs bl)
  collects_here m f p ls st = many_low cs m st [] s _ z (λ vs st e. answered_here p (still (f vs) s) ls st (still_keeps cs (f vs) s z))

  enters_here : (f : Func) (vs ls st : List Val) → Low cs (only_where (fits hs (suc pc)) s (enters f vs y x s (frame g ls st (suc pc) hs ∷
      bl)))
  enters_here f vs ls st =
      only_low cs (fits hs (suc pc)) s _ z (spending_low cs s.clock.left s _ z (λ l e. record { holds = (z, (tt, ((k, b), i))) }))

  awaits_here : (r : Option (Option Given)) (entry : ℕ) (ls st : List Val) →
      Low cs (awaits r entry (thread y (frame g ls st (suc pc) hs) bl) x s)
  awaits_here None entry ls st = over cs z
  awaits_here (Some None) entry ls st = suspends_low cs (done entry) _ x s z (k, b) i
  awaits_here (Some (Some v)) entry ls st = resumes_low cs _ v.value x s z (k, b) i

  spawns_here : (f : Func) (vs ls st : List Val) → Low cs (spawns f vs (thread y (frame g ls st (suc pc) hs) bl) x s)
  spawns_here f vs ls st =
      spending_low cs s.clock.left s _ z (λ l h. record {
        holds =
            (z, (tt, (tt, others cs tt tt (((k, b), (i.pre, i.post)), i.ups) i.before i.behind)));
      })

  groups_here : (kd : _) (p : Place) (ks : List ℕ) (q : ℕ) (ls st : List Val) → Low cs (groups kd p ks q y x s g ls st hs bl)
  groups_here kd p [] q ls st = over cs z
  groups_here kd p (l ∷ ks) q ls st =
      next_low cs kd p [] (l ∷ ks) _ x.pre x.post x.ups x.trees s (λ t. Over ending.Stuck s) z (k, b) (others cs i.pre i.post i.ups
      i.before i.behind) (λ r. over cs z)

  takes_here : (t : Taken) (l d label : ℕ) (ls st : List Val) → Low cs (takes_step t l d label y x s g ls st pc hs bl)
  takes_here ended l d label ls st = goes_here s g ls st (suc pc) z
  takes_here (takes v w m a) l d label ls st = only_low cs (fits hs label) s _ z (spending_low cs s.clock.left s _ z (λ u e.
      there_low cs (put ls d v) s _ z (λ ls e. there_low cs (put ls (suc d) w) s _ z (λ ls e. there_low cs (put ls (l + m) a) s _ z (λ ls
      e. record { holds = (z, (k, (b, i))) })))))
  takes_here unfit l d label ls st = over cs z

  leaves_here : (c : Bool) (ls st : List Val) → Low cs (leaves c y x s g ls st pc hs bl)
  leaves_here false ls st = goes_here s g ls st (suc pc) z
  leaves_here true ls st = defer_here g.defers
    where
      defer_here : (ds : List ℕ) → Low cs (on_defer ds s (λ q ds. only_where (fits hs q) s (spending s.clock.left s (Over ending.Steps s)
          (λ u.
          Next (machine y x u (record { born = g.born; defers = ds; noted = to pc ∷ g.noted }) ls st q hs bl)))))
      defer_here [] = over cs z
      defer_here (q ∷ ds) = only_low cs (fits hs q) s _ z (spending_low cs s.clock.left s _ z (λ l e. record { holds = (z, (k, (b, i))) }))

  note_here : (t : Note) (ns : List Note) (ls st : List Val) →
      Low cs (on_note t (λ q. goes y x s s (record g {
        noted =
            ns;
      }) ls st q hs bl) (clears_frames (λ s. cleared x.ups x.pre x.post x.trees s) y x s (frame (record g {
        noted =
            ns;
      }) ls st pc hs ∷ bl)))
  note_here (to q) ns ls st = goes_here s (record g { noted = ns }) ls st q z
  note_here gone ns ls st =
      frames_low cs (λ s. cleared x.ups x.pre x.post x.trees s) y x s (frame (record g {
        noted =
            ns;
      }) ls st pc hs ∷ bl) z (k, b) i (cleared_low cs x.ups x.pre x.post x.trees s z i)

  noted_here : (ns : List Note) (ls st : List Val) →
      Low cs (on_noted ns s (λ t ns. on_note t (λ q. goes y x s s (record g {
        noted =
            ns;
      }) ls st q hs bl) (clears_frames (λ s. cleared x.ups x.pre x.post x.trees s) y x s (frame (record g {
        noted =
            ns;
      }) ls st pc hs ∷ bl))))
  noted_here [] ls st = over cs z
  noted_here (t ∷ ns) ls st = note_here t ns ls st

  object_here : (n : ℕ) (c : Class) (vs : List Val) → slice_get cs n ≡ Some c → length vs ≡ c.slots + 0 → CellBelongs cs (record {
    kind =
        cell.Object n;
    slots = vs;
  })
  object_here n c vs e h = subst (λ m. class_slots (slice_get cs n) ≡ Some m) (sym (same c vs h)) (ap class_slots e)
    where
      same : (c : Class) (vs : List Val) → length vs ≡ c.slots + 0 → length vs ≡ c.slots
      same c vs h = omega (arith, h)

  pub act_low : (c : Code) → c.classes ≡ cs → (op : Op) (ls st : List Val) → Low cs (act c op y x s g ls st pc hs bl)
  act_low c f (o.Int n) ls st = goes_here s g ls (_ ∷ st) (suc pc) z
  act_low c f o.Unit ls st = goes_here s g ls (_ ∷ st) (suc pc) z
  act_low c f o.False ls st = goes_here s g ls (_ ∷ st) (suc pc) z
  act_low c f o.True ls st = goes_here s g ls (_ ∷ st) (suc pc) z
  act_low c f (o.Char n) ls st = goes_here s g ls (_ ∷ st) (suc pc) z
  act_low c f (o.Text t) ls st = there_low cs (slice_get c.texts t) s _ z (λ a e. goes_here s g ls (_ ∷ st) (suc pc) z)
  act_low c f (o.Enum n m) ls st = goes_here s g ls (_ ∷ st) (suc pc) z
  act_low c f (o.Get l) ls st = there_low cs (nth ls l) s _ z (λ a e. goes_here s g ls (a ∷ st) (suc pc) z)
  act_low c f (o.Put l) ls st = top_low cs st s _ z (λ a st. there_low cs (put ls l a) s _ z (λ ls e. goes_here s g ls st (suc pc) z))
  act_low c f o.Drop ls st = top_low cs st s _ z (λ a st. goes_here s g ls st (suc pc) z)
  act_low c f (o.Add p) ls st = binary_here sum_of (place_at c p) ls st
  act_low c f (o.Sub p) ls st = binary_here difference_of (place_at c p) ls st
  act_low c f (o.Mul p) ls st = binary_here product_of (place_at c p) ls st
  act_low c f (o.Neg p) ls st = unary_here negation_of (place_at c p) ls st
  act_low c f (o.Floor p) ls st = binary_here floor_of (place_at c p) ls st
  act_low c f (o.Ceil p) ls st = binary_here ceil_of (place_at c p) ls st
  act_low c f o.Mod ls st = binary_here modulo_of None ls st
  act_low c f (o.Concat p) ls st = binary_here concat_of (place_at c p) ls st
  act_low c f (o.Join m p) ls st = collects_here m join_of (place_at c p) ls st
  act_low c f o.Lt ls st = binary_here less_of None ls st
  act_low c f o.Le ls st = binary_here at_most_of None ls st
  act_low c f o.Gt ls st = binary_here greater_of None ls st
  act_low c f o.Ge ls st = binary_here at_least_of None ls st
  act_low c f o.Eq ls st = binary_here equal_of None ls st
  act_low c f o.Ne ls st = binary_here unequal_of None ls st
  act_low c f (o.Array m p) ls st = collects_here m array_of (place_at c p) ls st
  act_low c f (o.Map m p) ls st = collects_here (m + m) (λ vs. map_of (paired vs)) (place_at c p) ls st
  act_low c f (o.Tuple m p) ls st = collects_here m tuple_of (place_at c p) ls st
  act_low c f (o.Some p) ls st = unary_here option_of (place_at c p) ls st
  act_low c f o.Query ls st = unary_here query_of None ls st
  act_low c f (o.Item m) ls st = unary_here (λ v. item_of v m) None ls st
  act_low c f o.At ls st = binary_here at_of None ls st
  act_low c f o.Length ls st = unary_here length_of None ls st
  act_low c f (o.New p) ls st =
      top_low cs st s _ z (λ a st. answered_here (place_at c p) (variable_made a s) ls st (made_keeps cs _ _ _ _ s z refl))
  act_low c f (o.Load m) ls st = top_low cs st s _ z (λ a st. answered_here None (slot_read m a s) ls st (read_keeps cs m a s z))
  act_low c f (o.Store m j kd p) ls st =
      top_low cs st s _ z (λ a st. many_low cs j st [] s _ z (λ path st e. top_low cs st s _ z (λ w st. answered_here (place_at c p)
      (slot_written m path (mode_of kd) a w s) ls st (written_keeps cs m path (mode_of kd) a w s z))))
  act_low c f (o.Object m p) ls st =
      there_low cs (slice_get c.classes m) s _ z (λ (q : Class) h. many_low cs q.slots st [] s _ z (λ vs st e. answered_here (place_at c
      p) (object_made m vs s) ls st (made_keeps cs _ _ _ _ s z (object_here m q vs (subst (λ a. slice_get a m ≡ Some q) f h) e))))
  act_low c f (o.Event p) ls st = answered_here (place_at c p) (event_made s) ls st (made_keeps cs _ _ _ _ s z refl)
  act_low c f (o.Jump l) ls st = goes_here s g ls st l z
  act_low c f (o.Same l) ls st = two_low cs st s _ z (λ a d st. goes_here s g ls st _ z)
  act_low c f (o.Again l) ls st =
      only_low cs (fits hs l) s _ z (spending_low cs s.clock.left s _ z (λ u e. record { holds = (z, (k, (b, i))) }))
  act_low c f (o.Try l) ls st =
      goes_low cs y x s s g ls [] (suc pc) (record {
        made = pc;
        label = l;
        stack = st;
        memory = s.memory;
        life =
            g;
      } ∷ hs) bl z z (z, k) b i
  act_low c f o.Commit ls st = handler_low cs hs s _ z k (λ h hs m k. goes_low cs y x s s g ls _ (suc pc) hs bl z z k b i)
  act_low c f o.Undo ls st = handler_low cs hs s _ z k (λ h hs m k. goes_low cs y x s (restored h.memory s) g ls _ (suc pc) hs bl z m k b i)
  act_low c f o.Fail ls st = failing_low cs y x s ls hs bl z k b i
  act_low c f (o.Call m) ls st =
      there_low cs (slice_get c.functions m) s _ z (λ (q : Func) h. many_low cs q.params st [] s _ z (λ vs st e. enters_here q vs ls st))
  act_low c f (o.Method m j) ls st =
      many_low cs j st [] s _ z (λ vs st e. top_low cs st s _ z (λ a st. there_low cs (method_of c m j a s) s _ z (λ q h. enters_here q (a
      ∷ vs) ls st)))
  act_low c f o.Return ls st =
      top_low cs st s _ z (λ a st. only_low cs (nothing g.defers g.noted) s _ z (returns_low cs y x g.born a s hs bl z b i))
  act_low c f (o.Each l) ls st =
      top_low cs st s _ z (λ a st. domain_low cs a s _ z (there_low cs (put ls l a) s _ z (λ ls e. there_low cs (put ls (suc l) (int (pos
      0))) s _ z (λ ls e. goes_here s g ls st (suc pc) z))))
  act_low c f (o.Range l) ls st =
      two_low cs st s _ z (λ a d st. int_low cs a s _ z (int_low cs d s _ z (there_low cs (put ls l a) s _ z (λ ls e. there_low cs (put ls
      (suc l) d) s _ z (λ ls e. goes_here s g ls st (suc pc) z)))))
  act_low c f (o.Take l d m) ls st =
      there_low cs (nth ls l) s _ z (λ a e. there_low cs (nth ls (suc l)) s _ z (λ w e. there_low cs (nth ls d) s _ z (λ q e. there_low cs
      (nth ls (suc d)) s _ z (λ r e. takes_here (taken_from a w) l d m ls st))))
  act_low c f (o.Append l p) ls st =
      top_low cs st s _ z (λ a st. there_low cs (nth ls l) s _ z (λ w e. into_here (place_at c p) l (append_of w a) ls st))
  act_low c f (o.Print p) ls st =
      top_low cs st s _ z (λ a st. answered_here (place_at c p) (line_printed a s) ls st (printed_keeps cs a s z))
  act_low c f (o.Sleep m) ls st = only_low cs (free hs g.noted bl) s _ z (suspends_low cs (after m s) _ x s z (k, b) i)
  act_low c f o.Forever ls st = only_low cs (free hs g.noted bl) s _ z (suspends_low cs never _ x s z (k, b) i)
  act_low c f o.AwaitTask ls st =
      only_low cs (free hs g.noted bl) s _ z (top_low cs st s _ z (λ a st. there_low cs (task_of a) s _ z (λ entry e. awaits_here (nth
      s.clock.results entry) entry ls st)))
  act_low c f o.AwaitEvent ls st =
      only_low cs (free hs g.noted bl) s _ z (top_low cs st s _ z (λ a st. there_low cs (event_of a s) s _ z (λ w e. suspends_low cs
      (heard w) _ x s z (k, b) i)))
  act_low c f o.Signal ls st =
      only_low cs (free hs g.noted bl) s _ z (two_low cs st s _ z (λ a w st. answered_here None (signal_sent (event_of a s) w s) ls st
      (sent_keeps cs (event_of a s) w s z)))
  act_low c f (o.Spawn m) ls st =
      only_low cs (free hs g.noted bl) s _ z (there_low cs (slice_get c.functions m) s _ z (λ (q : Func) h. many_low cs q.params st [] s _
      z (λ vs st e. spawns_here q vs ls st)))
  act_low c f (o.SpawnMethod m j) ls st =
      only_low cs (free hs g.noted bl) s _ z (many_low cs j st [] s _ z (λ vs st e. top_low cs st s _ z (λ a st. there_low cs (method_of c
      m j a s) s _ z (λ q h. spawns_here q (a ∷ vs) ls st))))
  act_low c f (o.Group kd m p) ls st =
      only_low cs (free hs g.noted bl) s _ z (there_low cs (place_at c p) s _ z (λ q e. there_low cs (labels c.ops (suc pc) m) s _ z (λ ks
      e. groups_here (kind_of kd) q ks (after_arms (suc pc) m) ls st)))
  act_low c f (o.Arm l) ls st = over cs z
  act_low c f (o.Branch l) ls st =
      only_low cs (free hs g.noted bl) s _ z (spending_low cs s.clock.left s _ z (λ u h. record {
        holds =
            (z, (tt, (tt, others cs i.pre i.post ((k, b), i.ups) i.before i.behind)));
      }))
  act_low c f o.ArmEnd ls st =
      top_low cs st s _ z (λ a st. only_low cs (nothing g.defers g.noted) s _ z (ends_low cs y x g.born a s hs bl z i))
  act_low c f (o.Defer l) ls st = goes_here s _ ls st l z
  act_low c f (o.Leave m) ls st =
      only_low cs (not (ltn (length g.defers) m)) s _ z (only_low cs (not (ltn m (kept_defers hs))) s _ z (leaves_here (ltn m (length
      g.defers)) ls st))
  act_low c f o.DeferEnd ls st = only_low cs (ltn (kept_noted hs) (length g.noted)) s _ z (noted_here g.noted ls st)
