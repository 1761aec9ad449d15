-- Each operation does in the other run what it does in this one.
use Rattle.std.proofs.Common.{◌≡◌, ℕ, zero, suc, length, ◌+◌, List, [], ◌∷◌, Option, Some, None, Bool, true, false, cond, refl, sym, subst}
use Rattle.std.proofs.Common.{arith, ap, ◌∙◌, ◌<◌, ◌++◌, nat_lt, nat_le, append_assoc, length-append}
use Rattle.std.specs.Prelude.{pos, not, slice_get}
use Rattle.std.proofs.lemmas.List.Concat.{flat_map-append}
use Rattle.verse_base.specs.TraceLine.{line_bytes}
use Rattle.verse_base.specs.declared.limits.TheConstants.{MOST_TRACE_BYTES}
use Rattle.verse_base.specs.declared.places.Place.{Place}
use Rattle.verse_base.specs.declared.refusals.Kind.{Kind as Error}
use Rattle.verse_base.specs.declared.refusals.Kind.TheVariants as kind
use Rattle.verse_code.specs.declared.operations.Op.{Op}
use Rattle.verse_code.specs.declared.operations.Op.TheVariants as o
use Rattle.verse_code.specs.declared.codes.Func.{Func}
use Rattle.verse_code.specs.declared.codes.Class.{Class}
use Rattle.verse_code.specs.declared.codes.Code.{Code}
use Rattle.verse_value.specs.Val.{Val, unit, falsity, truth, int, char, enum, object, event, task, some, array, mapping, tuple}
use Rattle.verse_value.specs.Keys.{bytes_of}
use Rattle.verse_value.specs.Store.{Store}
use Rattle.verse_value.specs.Runs.{Line}
use Rattle.verse_value.specs.Answer.{Answer, gives, fails, error, stuck}
use Rattle.verse_value.specs.Operations.{sum_of, difference_of, product_of, negation_of, floor_of, ceil_of, modulo_of, concat_of, join_of}
use Rattle.verse_value.specs.Operations.{less_of, at_most_of, greater_of, at_least_of, equal_of, unequal_of, array_of, map_of, tuple_of}
use Rattle.verse_value.specs.Operations.{option_of, query_of, item_of, at_of, length_of, append_of}
use Rattle.verse_value.specs.Storing.{read_slot}
use Rattle.verse_value.specs.declared.modes.Mode.{Mode}
use Rattle.verse_value.specs.declared.runs.Ending.TheVariants as ending
use Rattle.verse_meaning_state.specs.State.{State, Signal, Given, spending, stepped, restored, with_line}
use Rattle.verse_meaning_state.specs.Waits.{never, done, heard, after, ltn, nth}
use Rattle.verse_meaning_state.specs.Turns.{Kind}
use Rattle.verse_meaning_state.specs.Effects.{Effect, still, added, slot_read, changed, slot_written, printed, printed_by, line_told}
use Rattle.verse_meaning_state.specs.Effects.{text_printed, line_printed, event_of, class_of, task_of, signal_sent}
use Rattle.verse_code_machine.specs.Tasks.{Life, Handler, Frame, Note, to, gone, Who, thread, World, Step, Next, Over, Machine, machine}
use Rattle.verse_code_machine.specs.Tasks.{world}
use Rattle.verse_code_machine.specs.Tasks.{branching, child_named, life_from, root_named}
use Rattle.verse_code_machine.specs.Frames.{on_top, on_two, on_many, on_there, only_where, put, fits, goes, failing, faulting, answered}
use Rattle.verse_code_machine.specs.Frames.{answered_to, enters, method_of, taking, classed, free, kept_defers, kept_noted}
use Rattle.verse_code_machine.specs.Cancelling.{clears_frames}
use Rattle.verse_code_machine.specs.Ends.{cleared}
use Rattle.verse_code_machine.specs.Acts.{place_at, mode_of, kind_of, paired, Taken, ended, takes, unfit, taken_from, takes_step, on_domain}
use Rattle.verse_code_machine.specs.Acts.{on_int, awaits, spawns, labels, after_arms, groups, on_noted, on_defer, on_note, frame, unary}
use Rattle.verse_code_machine.specs.Acts.{binary}
use Rattle.verse_code_machine.specs.Acts.{collects, leaves, on_handler, act}
use Rattle.verse_code_machine.specs.Runs.{step}
use Rattle.verse_code_machine_saved.specs.Numbers.{life_as, handler_as, handlers_as, frames_as, who_as, world_as, machine_as}
use Rattle.verse_code_machine_saved.specs.Numbers.{OperationRenumbered}
use Rattle.verse_code_machine_saved.proofs.Settings.{Setting, S, Is, memory_is, signal_is, entry_is, WorldIs, others, Same, over, plain}
use Rattle.verse_code_machine_saved.proofs.Settings.{all_world}
use Rattle.verse_code_machine_saved.proofs.Ends.{spending_same, resumes_same, frames_same, next_same, suspends_same, ends_same}
use Rattle.verse_code_machine_saved.proofs.Ends.{returns_same}
use Rattle.verse_code_machine_saved.proofs.Ends.{cleared_same, new_child}

next_at : (w v : Who) (o : World) (s : State) (k j : Life) (ls : List Val) (q : ℕ) (bl : List Frame) → w ≡ v → k ≡ j →
    Next (machine w o s k ls [] q [] bl) ≡ Next (machine v o s j ls [] q [] bl)
next_at w v o s k j ls q bl e f =
    ap (λ w. Next (machine w o s k ls [] q [] bl)) e ∙ ap (λ k. Next (machine v o s k ls [] q [] bl)) f

module _ (k : Setting) where
  effect_as : Effect → Effect
  effect_as (gives x) = gives (x.0, S k x.1)
  effect_as fails = fails
  effect_as (error e) = error e
  effect_as stuck = stuck

  abbrev IsEffect : Effect → Type 0
  IsEffect (gives x) = Is k x.1
  IsEffect fails = Unit {0}
  IsEffect (error e) = Unit {0}
  IsEffect stuck = Unit {0}

  -- an effect in this run, and that in the other
  abbrev Both : Effect → Effect → Type 0
  Both a b = (b ≡ effect_as a) × IsEffect a

  still_both : (a : Answer Val) (s : State) → Is k s → Both (still a s) (still a (S k s))
  unfolding effect_as
  still_both (gives v) s h = (refl, h)
  still_both fails s h = (refl, tt)
  still_both (error e) s h = (refl, tt)
  still_both stuck s h = (refl, tt)

  added_both : (a : Answer Store) (v : Val) (s : State) → Is k s → Both (added a v s) (added a v (S k s))
  unfolding effect_as
  added_both (gives x) v s h = (refl, memory_is k _ s h)
  added_both fails v s h = (refl, tt)
  added_both (error e) v s h = (refl, tt)
  added_both stuck v s h = (refl, tt)

  changed_both : (a : Answer (Store × Val)) (s : State) → Is k s → Both (changed a s) (changed a (S k s))
  unfolding effect_as
  changed_both (gives x) s h = (refl, memory_is k _ s h)
  changed_both fails s h = (refl, tt)
  changed_both (error e) s h = (refl, tt)
  changed_both stuck s h = (refl, tt)

  none_both : Both stuck stuck
  unfolding effect_as
  none_both = (refl, tt)

  read_both : (slot : ℕ) (v : Val) (s : State) → Is k s → Both (slot_read slot v s) (slot_read slot v (S k s))
  read_both slot unit s h = none_both
  read_both slot falsity s h = none_both
  read_both slot truth s h = none_both
  read_both slot (int n) s h = none_both
  read_both slot (char n) s h = none_both
  read_both slot (enum a b) s h = none_both
  read_both slot (object c) s h = still_both (read_slot s.memory.store c slot) s h
  read_both slot (event n) s h = none_both
  read_both slot (task n) s h = none_both
  read_both slot (some w) s h = none_both
  read_both slot (array vs) s h = none_both
  read_both slot (mapping ps) s h = none_both
  read_both slot (tuple vs) s h = none_both

  written_both : (slot : ℕ) (path : List Val) (m : Mode) (v c : Val) (s : State) → Is k s →
      Both (slot_written slot path m v c s) (slot_written slot path m v c (S k s))
  written_both slot path m v unit s h = none_both
  written_both slot path m v falsity s h = none_both
  written_both slot path m v truth s h = none_both
  written_both slot path m v (int n) s h = none_both
  written_both slot path m v (char n) s h = none_both
  written_both slot path m v (enum a b) s h = none_both
  written_both slot path m v (object c) s h = changed_both _ s h
  written_both slot path m v (event n) s h = none_both
  written_both slot path m v (task n) s h = none_both
  written_both slot path m v (some w) s h = none_both
  written_both slot path m v (array vs) s h = none_both
  written_both slot path m v (mapping ps) s h = none_both
  written_both slot path m v (tuple vs) s h = none_both

  -- as much was printed in both
  counted : (s : State) → Is k s → printed_by (S k s) ≡ printed_by s
  counted s h =
      let counts = h.counts in
      let both : length (printed (k.prior.lines ++ s.memory.trace)) ≡ length (printed k.prior.lines) + length (printed s.memory.trace) =
      ap length (flat_map-append (λ (l : Line). line_bytes l.moment l.bytes) k.prior.lines s.memory.trace) ∙
      length-append (printed k.prior.lines) (printed s.memory.trace) in
      omega (arith, counts, both)

  abbrev with_trace : State → List Line → Effect
  with_trace s ls = gives (unit, record s { memory = record { store = s.memory.store; trace = ls } })

  line_at : (b : Bool) (l : Line) (s : State) → Is k s →
      Both (cond b (gives (unit, with_line s l)) (error kind.Trace)) (cond b (gives (unit, with_line (S k s) l)) (error kind.Trace))
  unfolding effect_as
  line_at true l s h = (ap (with_trace (S k s)) (append_assoc k.prior.lines s.memory.trace (l ∷ [])), memory_is k _ s h)
  line_at false l s h = (refl, tt)

  line_both : (bytes : List ℕ) (s : State) → Is k s → Both (line_told bytes s) (line_told bytes (S k s))
  line_both bytes s h =
      let l : Line = record { moment = s.clock.now; bytes = bytes } in
      subst (λ n. Both (line_told bytes s) (cond (nat_le (n + length (line_bytes s.clock.now bytes)) MOST_TRACE_BYTES) (gives (
        unit,
        with_line (S k s) l,
      )) (error kind.Trace))) (sym (counted s h))
      (line_at (nat_le (printed_by s + length (line_bytes s.clock.now bytes)) MOST_TRACE_BYTES) l s h)

  text_both : (bytes : Option (List ℕ)) (s : State) → Is k s → Both (text_printed bytes s) (text_printed bytes (S k s))
  text_both None s h = none_both
  text_both (Some bytes) s h = line_both bytes s h

  printed_both : (v : Val) (s : State) → Is k s → Both (line_printed v s) (line_printed v (S k s))
  printed_both unit s h = none_both
  printed_both falsity s h = none_both
  printed_both truth s h = none_both
  printed_both (int n) s h = none_both
  printed_both (char n) s h = none_both
  printed_both (enum a b) s h = none_both
  printed_both (object c) s h = none_both
  printed_both (event n) s h = none_both
  printed_both (task n) s h = none_both
  printed_both (some w) s h = none_both
  printed_both (array vs) s h = text_both (bytes_of vs) s h
  printed_both (mapping ps) s h = none_both
  printed_both (tuple vs) s h = none_both

  abbrev with_signals : State → List Signal → Effect
  with_signals s gs = gives (unit, record s { clock = record s.clock { signals = gs } })

  sent_both : (e : Option ℕ) (v : Val) (s : State) → Is k s → Both (signal_sent e v s) (signal_sent e v (S k s))
  unfolding effect_as
  sent_both None v s h = (refl, tt)
  sent_both (Some c) v s h = (ap (with_signals (S k s)) (append_assoc k.prior.signals s.clock.signals _), signal_is k c v s h)

  event_same : (v : Val) (s : State) → event_of v (S k s) ≡ event_of v s
  event_same unit s = refl
  event_same falsity s = refl
  event_same truth s = refl
  event_same (int n) s = refl
  event_same (char n) s = refl
  event_same (enum a b) s = refl
  event_same (object c) s = refl
  event_same (event n) s = refl
  event_same (task n) s = refl
  event_same (some w) s = refl
  event_same (array vs) s = refl
  event_same (mapping ps) s = refl
  event_same (tuple vs) s = refl

  class_same : (v : Val) (s : State) → class_of v (S k s) ≡ class_of v s
  class_same unit s = refl
  class_same falsity s = refl
  class_same truth s = refl
  class_same (int n) s = refl
  class_same (char n) s = refl
  class_same (enum a b) s = refl
  class_same (object c) s = refl
  class_same (event n) s = refl
  class_same (task n) s = refl
  class_same (some w) s = refl
  class_same (array vs) s = refl
  class_same (mapping ps) s = refl
  class_same (tuple vs) s = refl

  method_same : (c : Code) (n m : ℕ) (v : Val) (s : State) → method_of c n m v (S k s) ≡ method_of c n m v s
  method_same c n m v s = ap (λ i. taking (suc m) (classed c n i)) (class_same v s)

  fits_same : (a : List ℕ) (hs : List Handler) (q : ℕ) → fits (handlers_as k.prior a hs) q ≡ fits hs q
  fits_same a [] q = refl
  fits_same a (h ∷ hs) q = ap (λ b. cond (nat_lt h.made q) (cond (nat_lt q h.label) b false) false) (fits_same a hs q)

  free_same : (a : List ℕ) (hs : List Handler) (ns : List Note) (bl : List Frame) →
      free (handlers_as k.prior a hs) ns (frames_as k.prior a bl) ≡ free hs ns bl
  free_same a (h ∷ hs) ns bl = refl
  free_same a [] (n ∷ ns) bl = refl
  free_same a [] [] [] = refl
  free_same a [] [] (f ∷ bl) = free_same a f.handlers f.life.noted bl

  defers_same : (a : List ℕ) (hs : List Handler) → kept_defers (handlers_as k.prior a hs) ≡ kept_defers hs
  defers_same a [] = refl
  defers_same a (h ∷ hs) = refl

  noted_same : (a : List ℕ) (hs : List Handler) → kept_noted (handlers_as k.prior a hs) ≡ kept_noted hs
  noted_same a [] = refl
  noted_same a (h ∷ hs) = refl

  only_same : (b c : Bool) (s : State) (q p : Step) → c ≡ b → Same k q p → Same k (only_where b s q) (only_where c (S k s) p)
  only_same true true s q p e l = l
  only_same false false s q p e l = over k
  only_same true false s q p e l = grind (arith, e)
  only_same false true s q p e l = grind (arith, e)

  top_same : (st : List Val) (s : State) (go go' : Val → List Val → Step) → ((v : Val) (st : List Val) → Same k (go v st) (go' v st)) →
      Same k (on_top st s go) (on_top st (S k s) go')
  top_same [] s go go' f = over k
  top_same (v ∷ st) s go go' f = f v st

  two_same : (st : List Val) (s : State) (go go' : Val → Val → List Val → Step) →
      ((a b : Val) (st : List Val) → Same k (go a b st) (go' a b st)) → Same k (on_two st s go) (on_two st (S k s) go')
  two_same [] s go go' f = over k
  two_same (b ∷ []) s go go' f = over k
  two_same (b ∷ a ∷ st) s go go' f = f a b st

  many_same : (m : ℕ) (st vs : List Val) (s : State) (go go' : List Val → List Val → Step) →
      ((ws st : List Val) → Same k (go ws st) (go' ws st)) → Same k (on_many m st vs s go) (on_many m st vs (S k s) go')
  many_same zero st vs s go go' f = f vs st
  many_same (suc m) [] vs s go go' f = over k
  many_same (suc m) (v ∷ st) vs s go go' f = many_same m st (v ∷ vs) s go go' f

  there_same : {A : Type 0} (x : Option A) (s : State) (go go' : A → Step) → ((y : A) → Same k (go y) (go' y)) →
      Same k (on_there x s go) (on_there x (S k s) go')
  there_same None s go go' f = over k
  there_same (Some x) s go go' f = f x

  there_as : {A : Type 0} (x w : Option A) (s : State) (go go' : A → Step) → w ≡ x → ((y : A) → Same k (go y) (go' y)) →
      Same k (on_there x s go) (on_there w (S k s) go')
  there_as x w s go go' e f = subst (λ w. Same k (on_there x s go) (on_there w (S k s) go')) (sym e) (there_same x s go go' f)

  domain_same : (v : Val) (s : State) (q p : Step) → Same k q p → Same k (on_domain v s q) (on_domain v (S k s) p)
  domain_same unit s q p l = over k
  domain_same falsity s q p l = over k
  domain_same truth s q p l = over k
  domain_same (int n) s q p l = over k
  domain_same (char n) s q p l = over k
  domain_same (enum a b) s q p l = over k
  domain_same (object c) s q p l = over k
  domain_same (event n) s q p l = over k
  domain_same (task n) s q p l = over k
  domain_same (some w) s q p l = over k
  domain_same (array vs) s q p l = l
  domain_same (mapping ps) s q p l = l
  domain_same (tuple vs) s q p l = over k

  int_same : (v : Val) (s : State) (q p : Step) → Same k q p → Same k (on_int v s q) (on_int v (S k s) p)
  int_same unit s q p l = over k
  int_same falsity s q p l = over k
  int_same truth s q p l = over k
  int_same (int n) s q p l = l
  int_same (char n) s q p l = over k
  int_same (enum a b) s q p l = over k
  int_same (object c) s q p l = over k
  int_same (event n) s q p l = over k
  int_same (task n) s q p l = over k
  int_same (some w) s q p l = over k
  int_same (array vs) s q p l = over k
  int_same (mapping ps) s q p l = over k
  int_same (tuple vs) s q p l = over k

  goes_same : (y : Who) (o : World) (s u : State) (g : Life) (ls st : List Val) (q : ℕ) (hs : List Handler) (bl : List Frame) → Is k u →
      WorldIs k o → Same k (goes y o s u g ls st q hs bl)
      (goes (who_as k.prior.numbers y) (world_as k.prior o) (S k s) (S k u) (life_as k.prior.numbers y.path g) ls st q
      (handlers_as k.prior y.path hs) (frames_as k.prior y.path bl))
  goes_same y o s u g ls st q hs bl h b = only_same _ _ s _ _ (fits_same y.path hs q) (record { is = refl; holds = (h, b) })

  failing_same : (y : Who) (o : World) (s : State) (ls : List Val) (hs : List Handler) (bl : List Frame) → Is k s → WorldIs k o →
      Same k (failing y o s ls hs bl) (failing (who_as k.prior.numbers y) (world_as k.prior o) (S k s) ls (handlers_as k.prior y.path hs)
      (frames_as k.prior y.path bl))
  failing_same y o s ls (a ∷ hs) bl h b = goes_same y o s (restored a.memory s) a.life ls a.stack a.label hs bl (memory_is k a.memory s h) b
  failing_same y o s ls [] [] h b = over k
  failing_same y o s ls [] (f ∷ bl) h b = failing_same y o s f.locals f.handlers bl h b

  faulting_same : (p : Option Place) (e : Error) (s : State) → Same k (faulting p e s) (faulting p e (S k s))
  faulting_same None e s = over k
  faulting_same (Some p) e s = over k

module _ (k : Setting) (y : Who) (x : World) (s : State) (g : Life) (pc : ℕ) (hs : List Handler) (bl : List Frame)
    (path : k.IsPath y.path) (z : Is k s) (i : WorldIs k x) where
  abbrev U : State
  U = S k s

  abbrev As : Life → Life
  As = life_as k.prior.numbers y.path

  abbrev HS : List Handler
  HS = handlers_as k.prior y.path hs

  abbrev BL : List Frame
  BL = frames_as k.prior y.path bl

  abbrev Y : Who
  Y = who_as k.prior.numbers y

  abbrev X : World
  X = world_as k.prior x

  goes_here : (u : State) (h : Life) (ls st : List Val) (q : ℕ) → Is k u →
      Same k (goes y x s u h ls st q hs bl) (goes Y X U (S k u) (As h) ls st q HS BL)
  goes_here u h ls st q t = goes_same k y x s u h ls st q hs bl t i

  answer_here : (p : Option Place) (a : Effect) (ls st : List Val) → IsEffect k a →
      Same k (answered p a y x s g ls st pc hs bl) (answered p (effect_as k a) Y X U (As g) ls st pc HS BL)
  unfolding effect_as
  answer_here p (gives v) ls st t = goes_here v.1 g ls (v.0 ∷ st) (suc pc) t
  answer_here p fails ls st t = failing_same k y x s ls hs bl z i
  answer_here p (error e) ls st t = only_same k _ _ s _ _ (fits_same k y.path hs (suc pc)) (faulting_same k p e s)
  answer_here p stuck ls st t = over k

  answered_here : (p : Option Place) (a b : Effect) (ls st : List Val) → Both k a b →
      Same k (answered p a y x s g ls st pc hs bl) (answered p b Y X U (As g) ls st pc HS BL)
  answered_here p a b ls st t =
      subst (λ b. Same k (answered p a y x s g ls st pc hs bl) (answered p b Y X U (As g) ls st pc HS BL)) (sym t.0)
      (answer_here p a ls st t.1)

  into_here : (p : Option Place) (l : ℕ) (a : Answer Val) (ls st : List Val) →
      Same k (answered_to p l a y x s g ls st pc hs bl) (answered_to p l a Y X U (As g) ls st pc HS BL)
  into_here p l (gives v) ls st = there_same k (put ls l v) s _ _ (λ ls. goes_here s g ls st (suc pc) z)
  into_here p l fails ls st = failing_same k y x s ls hs bl z i
  into_here p l (error e) ls st = only_same k _ _ s _ _ (fits_same k y.path hs (suc pc)) (faulting_same k p e s)
  into_here p l stuck ls st = over k

  unary_here : (f : Val → Answer Val) (p : Option Place) (ls st : List Val) →
      Same k (unary f p y x s g ls st pc hs bl) (unary f p Y X U (As g) ls st pc HS BL)
  unary_here f p ls st = top_same k st s _ _ (λ v st. answered_here p _ _ ls st (still_both k (f v) s z))

  binary_here : (f : Val → Val → Answer Val) (p : Option Place) (ls st : List Val) →
      Same k (binary f p y x s g ls st pc hs bl) (binary f p Y X U (As g) ls st pc HS BL)
  binary_here f p ls st = two_same k st s _ _ (λ a c st. answered_here p _ _ ls st (still_both k (f a c) s z))

  collects_here : (m : ℕ) (f : List Val → Answer Val) (p : Option Place) (ls st : List Val) →
      Same k (collects m f p y x s g ls st pc hs bl) (collects m f p Y X U (As g) ls st pc HS BL)
  collects_here m f p ls st = many_same k m st [] s _ _ (λ vs st. answered_here p _ _ ls st (still_both k (f vs) s z))

  born_here : (a : List ℕ) (l : ℕ) → l < k.bound → life_from l ≡ life_as k.prior.numbers a (life_from l)
  born_here a l h = ap life_from (sym (k.fixed a l h))

  enters_here : (f : Func) (vs ls st : List Val) →
      Same k (only_where (fits hs (suc pc)) s (enters f vs y x s (frame g ls st (suc pc) hs ∷ bl)))
      (only_where (fits HS (suc pc)) U (enters f vs Y X U (frame (As g) ls st (suc pc) HS ∷ BL)))
  enters_here f vs ls st = only_same k _ _ s _ _ (fits_same k y.path hs (suc pc)) (spending_same k s _ _ z (λ l e z. record {
    is = next_at _ _ _ _ _ _ _ _ _ refl (born_here y.path l e);
    holds = (z, i);
  }))

  awaits_here : (q : Option (Option Given)) (entry : ℕ) (ls st : List Val) →
      Same k (awaits q entry (thread y (frame g ls st (suc pc) hs) bl) x s)
      (awaits q entry (thread Y (frame (As g) ls st (suc pc) HS) BL) X U)
  awaits_here None entry ls st = over k
  awaits_here (Some None) entry ls st = suspends_same k (done entry) (thread y (frame g ls st (suc pc) hs) bl) x s z i
  awaits_here (Some (Some v)) entry ls st = resumes_same k (thread y (frame g ls st (suc pc) hs) bl) v.value x s z i

  spawns_here : (f : Func) (vs ls st : List Val) → Same k (spawns f vs (thread y (frame g ls st (suc pc) hs) bl) x s)
      (spawns f vs (thread Y (frame (As g) ls st (suc pc) HS) BL) X U)
  spawns_here f vs ls st = spending_same k s _ _ z (λ l e z. record {
    is = next_at _ _ _ _ _ _ _ _ _ (ap (λ n. root_named n (Some (length s.clock.results))) (sym (k.fixed [] l e))) (born_here (l ∷ []) l e);
    holds = (entry_is k _ z, others k tt tt ((i.pre, i.post), i.ups) i.before i.behind);
  })

  groups_here : (d : Kind) (p : Place) (ks : List ℕ) (q : ℕ) (ls st : List Val) →
      Same k (groups d p ks q y x s g ls st hs bl) (groups d p ks q Y X U (As g) ls st HS BL)
  groups_here d p [] q ls st = over k
  groups_here d p (l ∷ ks) q ls st =
      next_same k d p [] (l ∷ ks) (thread y (frame g ls st q hs) bl) x.pre x.post x.ups x.trees s (λ t. Over ending.Stuck s)
      (λ t. Over ending.Stuck U) z (others k i.pre i.post i.ups i.before i.behind) (λ q c. over k)

  takes_here : (t : Taken) (l d label : ℕ) (ls st : List Val) →
      Same k (takes_step t l d label y x s g ls st pc hs bl) (takes_step t l d label Y X U (As g) ls st pc HS BL)
  takes_here ended l d label ls st = goes_here s g ls st (suc pc) z
  takes_here (takes v w m a) l d label ls st = only_same k _ _ s _ _ (fits_same k y.path hs label) (spending_same k s _ _ z
      (λ u e z. there_same k (put ls d v) s _ _ (λ ls. there_same k (put ls (suc d) w) s _ _ (λ ls. there_same k (put ls (l + m) a) s _ _
      (λ ls. record { is = refl; holds = (z, i) })))))
  takes_here unfit l d label ls st = over k

  defer_here : (ds : List ℕ) (ls st : List Val) → Same k (on_defer ds s (λ q ds. only_where (fits hs q) s (spending s.clock.left s
      (Over ending.Steps s) (λ u. Next (machine y x u (record { born = g.born; defers = ds; noted = to pc ∷ g.noted }) ls st q hs bl)))))
      (on_defer ds U (λ q ds. only_where (fits HS q) U (spending U.clock.left U (Over ending.Steps U) (λ u. Next (machine Y X u (record {
        born = (As g).born;
        defers = ds;
        noted = to pc ∷ g.noted;
      }) ls st q HS BL)))))
  defer_here [] ls st = over k
  defer_here (q ∷ ds) ls st =
      only_same k _ _ s _ _ (fits_same k y.path hs q) (spending_same k s _ _ z (λ l e z. record { is = refl; holds = (z, i) }))

  leaves_here : (c : Bool) (ls st : List Val) → Same k (leaves c y x s g ls st pc hs bl) (leaves c Y X U (As g) ls st pc HS BL)
  leaves_here false ls st = goes_here s g ls st (suc pc) z
  leaves_here true ls st = defer_here g.defers ls st

  note_here : (t : Note) (ns : List Note) (ls st : List Val) →
      Same k (on_note t (λ q. goes y x s s (record g { noted = ns }) ls st q hs bl) (clears_frames (λ s. cleared x.ups x.pre x.post
      x.trees s) y x s (frame (record g { noted = ns }) ls st pc hs ∷ bl)))
      (on_note t (λ q. goes Y X U U (record (As g) { noted = ns }) ls st q HS BL)
      (clears_frames (λ s. cleared X.ups X.pre X.post X.trees s) Y X U (frame (record (As g) { noted = ns }) ls st pc HS ∷ BL)))
  note_here (to q) ns ls st = goes_here s (record g { noted = ns }) ls st q z
  note_here gone ns ls st =
      frames_same k (cleared x.ups x.pre x.post x.trees) (cleared X.ups X.pre X.post X.trees) y x s (frame (record g { noted = ns }) ls
      st pc hs ∷ bl) z i (cleared_same k x.ups x.pre x.post x.trees s z (others k i.pre i.post i.ups i.before i.behind))

  noted_here : (ns : List Note) (ls st : List Val) →
      Same k (on_noted ns s (λ t ns. on_note t (λ q. goes y x s s (record g { noted = ns }) ls st q hs bl) (clears_frames (λ s. cleared
      x.ups x.pre x.post x.trees s) y x s (frame (record g { noted = ns }) ls st pc hs ∷ bl))))
      (on_noted ns U (λ t ns. on_note t (λ q. goes Y X U U (record (As g) { noted = ns }) ls st q HS BL)
      (clears_frames (λ s. cleared X.ups X.pre X.post X.trees s) Y X U (frame (record (As g) {
        noted = ns;
      }) ls st pc HS ∷ BL))))
  noted_here [] ls st = over k
  noted_here (t ∷ ns) ls st = note_here t ns ls st

  handler_here : (js : List Handler) (go go' : Handler → List Handler → Step) →
      ((h : Handler) (js : List Handler) → Same k (go h js) (go' (handler_as k.prior y.path h) (handlers_as k.prior y.path js))) →
      Same k (on_handler js s go) (on_handler (handlers_as k.prior y.path js) U go')
  handler_here [] go go' f = over k
  handler_here (h ∷ js) go go' f = f h js

  branch_here : (u : ℕ) → u < k.bound → Is k (stepped u s) → (l : ℕ) (ls st : List Val) →
      Same k (Next (machine (child_named y u) (world x.pre x.post (branching (thread y (frame g ls st l hs) bl) ∷ x.ups) x.trees)
      (stepped u s) (life_from u) ls [] (suc pc) [] []))
      (Next (machine (child_named Y u) (world X.pre X.post (branching (thread Y (frame (As g) ls st l HS) BL) ∷ X.ups) X.trees)
      (stepped u U) (life_from u) ls [] (suc pc) [] []))
  branch_here u h z l ls st = record {
    is = next_at _ _ _ _ _ _ _ _ _ (new_child k y u h) (born_here (y.path ++ u ∷ []) u h);
    holds = (z, others k i.pre i.post (tt, i.ups) i.before i.behind);
  }

  pub act_same : (c : Code) (op : Op) (ls st : List Val) → Same k (act c op y x s g ls st pc hs bl) (act c op Y X U (As g) ls st pc HS BL)
  act_same c (o.Int n) ls st = goes_here s g ls (_ ∷ st) (suc pc) z
  act_same c o.Unit ls st = goes_here s g ls (_ ∷ st) (suc pc) z
  act_same c o.False ls st = goes_here s g ls (_ ∷ st) (suc pc) z
  act_same c o.True ls st = goes_here s g ls (_ ∷ st) (suc pc) z
  act_same c (o.Char n) ls st = goes_here s g ls (_ ∷ st) (suc pc) z
  act_same c (o.Text t) ls st = there_same k (slice_get c.texts t) s _ _ (λ a. goes_here s g ls (_ ∷ st) (suc pc) z)
  act_same c (o.Enum n m) ls st = goes_here s g ls (_ ∷ st) (suc pc) z
  act_same c (o.Get l) ls st = there_same k (nth ls l) s _ _ (λ a. goes_here s g ls (a ∷ st) (suc pc) z)
  act_same c (o.Put l) ls st = top_same k st s _ _ (λ a st. there_same k (put ls l a) s _ _ (λ ls. goes_here s g ls st (suc pc) z))
  act_same c o.Drop ls st = top_same k st s _ _ (λ a st. goes_here s g ls st (suc pc) z)
  act_same c (o.Add p) ls st = binary_here sum_of (place_at c p) ls st
  act_same c (o.Sub p) ls st = binary_here difference_of (place_at c p) ls st
  act_same c (o.Mul p) ls st = binary_here product_of (place_at c p) ls st
  act_same c (o.Neg p) ls st = unary_here negation_of (place_at c p) ls st
  act_same c (o.Floor p) ls st = binary_here floor_of (place_at c p) ls st
  act_same c (o.Ceil p) ls st = binary_here ceil_of (place_at c p) ls st
  act_same c o.Mod ls st = binary_here modulo_of None ls st
  act_same c (o.Concat p) ls st = binary_here concat_of (place_at c p) ls st
  act_same c (o.Join m p) ls st = collects_here m join_of (place_at c p) ls st
  act_same c o.Lt ls st = binary_here less_of None ls st
  act_same c o.Le ls st = binary_here at_most_of None ls st
  act_same c o.Gt ls st = binary_here greater_of None ls st
  act_same c o.Ge ls st = binary_here at_least_of None ls st
  act_same c o.Eq ls st = binary_here equal_of None ls st
  act_same c o.Ne ls st = binary_here unequal_of None ls st
  act_same c (o.Array m p) ls st = collects_here m array_of (place_at c p) ls st
  act_same c (o.Map m p) ls st = collects_here (m + m) (λ vs. map_of (paired vs)) (place_at c p) ls st
  act_same c (o.Tuple m p) ls st = collects_here m tuple_of (place_at c p) ls st
  act_same c (o.Some p) ls st = unary_here option_of (place_at c p) ls st
  act_same c o.Query ls st = unary_here query_of None ls st
  act_same c (o.Item m) ls st = unary_here (λ v. item_of v m) None ls st
  act_same c o.At ls st = binary_here at_of None ls st
  act_same c o.Length ls st = unary_here length_of None ls st
  act_same c (o.New p) ls st = top_same k st s _ _ (λ a st. answered_here (place_at c p) _ _ ls st (added_both k _ _ s z))
  act_same c (o.Load m) ls st = top_same k st s _ _ (λ a st. answered_here None _ _ ls st (read_both k m a s z))
  act_same c (o.Store m j kd p) ls st = top_same k st s _ _
      (λ a st. many_same k j st [] s _ _ (λ path st. top_same k st s _ _
      (λ w st. answered_here (place_at c p) _ _ ls st (written_both k m path (mode_of kd) a w s z))))
  act_same c (o.Object m p) ls st = there_same k (slice_get c.classes m) s _ _
      (λ (q : Class). many_same k q.slots st [] s _ _ (λ vs st. answered_here (place_at c p) _ _ ls st (added_both k _ _ s z)))
  act_same c (o.Event p) ls st = answered_here (place_at c p) _ _ ls st (added_both k _ _ s z)
  act_same c (o.Jump l) ls st = goes_here s g ls st l z
  act_same c (o.Same l) ls st = two_same k st s _ _ (λ a d st. goes_here s g ls st _ z)
  act_same c (o.Again l) ls st = only_same k _ _ s _ _ (fits_same k y.path hs l)
      (spending_same k s _ _ z (λ u e z. record { is = refl; holds = (z, i) }))
  act_same c (o.Try l) ls st = goes_same k y x s s g ls [] (suc pc)
      (record { made = pc; label = l; stack = st; memory = s.memory; life = g } ∷ hs) bl z i
  act_same c o.Commit ls st = handler_here hs _ _ (λ h hs. goes_same k y x s s g ls (st ++ h.stack) (suc pc) hs bl z i)
  act_same c o.Undo ls st = handler_here hs _ _
      (λ h hs. goes_same k y x s (restored h.memory s) g ls (st ++ h.stack) (suc pc) hs bl (memory_is k h.memory s z) i)
  act_same c o.Fail ls st = failing_same k y x s ls hs bl z i
  act_same c (o.Call m) ls st = there_same k (slice_get c.functions m) s _ _
      (λ (q : Func). many_same k q.params st [] s _ _ (λ vs st. enters_here q vs ls st))
  act_same c (o.Method m j) ls st = many_same k j st [] s _ _
      (λ vs st. top_same k st s _ _ (λ a st. there_as k _ _ s _ _ (method_same k c m j a s) (λ q. enters_here q (a ∷ vs) ls st)))
  act_same c o.Return ls st = top_same k st s _ _ (λ a st. only_same k _ _ s _ _ refl (returns_same k y x g.born a s hs bl path z i))
  act_same c (o.Each l) ls st = top_same k st s _ _
      (λ a st. domain_same k a s _ _ (there_same k (put ls l a) s _ _
      (λ ls. there_same k (put ls (suc l) (int (pos 0))) s _ _ (λ ls. goes_here s g ls st (suc pc) z))))
  act_same c (o.Range l) ls st = two_same k st s _ _
      (λ a d st. int_same k a s _ _ (int_same k d s _ _
      (there_same k (put ls l a) s _ _ (λ ls. there_same k (put ls (suc l) d) s _ _ (λ ls. goes_here s g ls st (suc pc) z)))))
  act_same c (o.Take l d m) ls st = there_same k (nth ls l) s _ _
      (λ a. there_same k (nth ls (suc l)) s _ _ (λ w. there_same k (nth ls d) s _ _
      (λ q. there_same k (nth ls (suc d)) s _ _ (λ r. takes_here (taken_from a w) l d m ls st))))
  act_same c (o.Append l p) ls st = top_same k st s _ _
      (λ a st. there_same k (nth ls l) s _ _ (λ w. into_here (place_at c p) l (append_of w a) ls st))
  act_same c (o.Print p) ls st = top_same k st s _ _ (λ a st. answered_here (place_at c p) _ _ ls st (printed_both k a s z))
  act_same c (o.Sleep m) ls st = only_same k _ _ s _ _ (free_same k y.path hs g.noted bl)
      (suspends_same k (after m s) (thread y (frame g ls st (suc pc) hs) bl) x s z i)
  act_same c o.Forever ls st = only_same k _ _ s _ _ (free_same k y.path hs g.noted bl)
      (suspends_same k never (thread y (frame g ls st (suc pc) hs) bl) x s z i)
  act_same c o.AwaitTask ls st = only_same k _ _ s _ _ (free_same k y.path hs g.noted bl)
      (top_same k st s _ _ (λ a st. there_same k (task_of a) s _ _ (λ entry. awaits_here (nth s.clock.results entry) entry ls st)))
  act_same c o.AwaitEvent ls st = only_same k _ _ s _ _ (free_same k y.path hs g.noted bl)
      (top_same k st s _ _ (λ a st. there_as k _ _ s _ _ (event_same k a s)
      (λ w. suspends_same k (heard w) (thread y (frame g ls st (suc pc) hs) bl) x s z i)))
  act_same c o.Signal ls st = only_same k _ _ s _ _ (free_same k y.path hs g.noted bl)
      (two_same k st s _ _ (λ a w st. answered_here None _ _ ls st
      (subst (λ e. Both k (signal_sent (event_of a s) w s) (signal_sent e w U)) (sym (event_same k a s))
      (sent_both k (event_of a s) w s z))))
  act_same c (o.Spawn m) ls st = only_same k _ _ s _ _ (free_same k y.path hs g.noted bl)
      (there_same k (slice_get c.functions m) s _ _ (λ (q : Func). many_same k q.params st [] s _ _ (λ vs st. spawns_here q vs ls st)))
  act_same c (o.SpawnMethod m j) ls st = only_same k _ _ s _ _ (free_same k y.path hs g.noted bl)
      (many_same k j st [] s _ _ (λ vs st. top_same k st s _ _
      (λ a st. there_as k _ _ s _ _ (method_same k c m j a s) (λ q. spawns_here q (a ∷ vs) ls st))))
  act_same c (o.Group kd m p) ls st = only_same k _ _ s _ _ (free_same k y.path hs g.noted bl)
      (there_same k (place_at c p) s _ _ (λ q. there_same k (labels c.ops (suc pc) m) s _ _
      (λ ks. groups_here (kind_of kd) q ks (after_arms (suc pc) m) ls st)))
  act_same c (o.Arm l) ls st = over k
  act_same c (o.Branch l) ls st = only_same k _ _ s _ _ (free_same k y.path hs g.noted bl)
      (spending_same k s _ _ z (λ u h z. branch_here u h z l ls st))
  act_same c o.ArmEnd ls st = top_same k st s _ _ (λ a st. only_same k _ _ s _ _ refl (ends_same k y x g.born a s hs bl path z i))
  act_same c (o.Defer l) ls st = goes_here s _ ls st l z
  act_same c (o.Leave m) ls st = only_same k _ _ s _ _ refl
      (only_same k _ _ s _ _ (ap (λ k. not (ltn m k)) (defers_same k y.path hs)) (leaves_here (ltn m (length g.defers)) ls st))
  act_same c o.DeferEnd ls st = only_same k _ _ s _ _ (ap (λ k. ltn k (length g.noted)) (noted_same k y.path hs)) (noted_here g.noted ls st)

pub steps_same : (k : Setting) (c : Code) (x : Machine) → k.IsPath x.who.path → Is k x.state → WorldIs k x.world →
    Same k (step c x) (step c (machine_as k.prior x))
steps_same k c x e h b = there_same k (slice_get c.ops x.frame.place) x.state _ _ (λ op. act_same k x.who x.world x.state x.frame.life
    x.frame.place x.frame.handlers x.below e h b c op x.frame.locals x.frame.stack)

pub operation_renumbered : OperationRenumbered
operation_renumbered z c x rises fixed counts =
    let k = plain z x.state.clock.left rises fixed in
    (steps_same k c x tt (record { few = omega arith; counts = counts; holds = tt }) (all_world k (λ w. tt) x.world)).is
