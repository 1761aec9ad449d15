-- Each operation is the same beside other trees.
use Rattle.std.proofs.Common.{ℕ, zero, suc, length, ◌+◌, List, [], ◌∷◌, Option, Some, None, Bool, true}
use Rattle.std.proofs.Common.{false}
use Rattle.std.specs.Prelude.{pos, not, slice_get}
use Rattle.verse_base.specs.declared.places.Place.{Place}
use Rattle.verse_base.specs.declared.refusals.Kind.{Kind as Error}
use Rattle.verse_code.specs.declared.operations.Op.{Op}
use Rattle.verse_code.specs.declared.operations.Op.TheVariants as o
use Rattle.verse_code.specs.declared.codes.Func.{Func}
use Rattle.verse_code.specs.declared.codes.Class.{Class}
use Rattle.verse_code.specs.declared.codes.Code.{Code}
use Rattle.verse_value.specs.Val.{Val, unit, falsity, truth, int, char, enum, object, event, task, some, array}
use Rattle.verse_value.specs.Val.{mapping, tuple}
use Rattle.verse_value.specs.Answer.{Answer, gives, fails, error, stuck}
use Rattle.verse_value.specs.Operations.{sum_of, difference_of, product_of, negation_of, floor_of, ceil_of, modulo_of}
use Rattle.verse_value.specs.Operations.{concat_of, join_of}
use Rattle.verse_value.specs.Operations.{less_of, at_most_of, greater_of, at_least_of, equal_of, unequal_of, array_of}
use Rattle.verse_value.specs.Operations.{map_of, tuple_of}
use Rattle.verse_value.specs.Operations.{option_of, query_of, item_of, at_of, length_of, append_of}
use Rattle.verse_value.specs.declared.runs.Ending.TheVariants as ending
use Rattle.verse_meaning_state.specs.State.{State, Given, spending, stepped, restored}
use Rattle.verse_meaning_state.specs.Waits.{never, done, heard, after, ltn, nth}
use Rattle.verse_meaning_state.specs.Effects.{Effect, still, variable_made, object_made, event_made, slot_read}
use Rattle.verse_meaning_state.specs.Effects.{slot_written, line_printed, event_of, task_of}
use Rattle.verse_meaning_state.specs.Effects.{signal_sent}
use Rattle.verse_code_machine.specs.Tasks.{Life, Handler, Frame, Note, to, gone, Who, thread, World, Step}
use Rattle.verse_code_machine.specs.Tasks.{Next, Over, machine}
use Rattle.verse_code_machine.specs.Frames.{on_top, on_two, on_many, on_there, only_where, put, fits, goes, failing}
use Rattle.verse_code_machine.specs.Frames.{faulting, answered}
use Rattle.verse_code_machine.specs.Frames.{answered_to, enters, method_of, free, nothing, kept_defers, kept_noted}
use Rattle.verse_code_machine.specs.Cancelling.{clears_frames}
use Rattle.verse_code_machine.specs.Ends.{cleared}
use Rattle.verse_code_machine.specs.Acts.{place_at, mode_of, kind_of, paired, Taken, ended, takes, unfit, taken_from}
use Rattle.verse_code_machine.specs.Acts.{takes_step, on_domain}
use Rattle.verse_code_machine.specs.Acts.{on_int, awaits, spawns, labels, after_arms, groups, on_noted, on_defer}
use Rattle.verse_code_machine.specs.Acts.{on_note, frame, unary, binary}
use Rattle.verse_code_machine.specs.Acts.{collects, leaves, on_handler, act}
use Rattle.verse_code_machine.specs.Tasks.{Task, Up, Trees, world, planted}
use Rattle.verse_meaning_state.specs.Turns.{Kind}
use Rattle.run_save_orders.proofs.Ends.{Alike, nexts, overs, frames_both, next_both, suspends_both, ends_both, returns_both}
use Rattle.run_save_orders.proofs.Ends.{cleared_both}

module _ (R : Trees → Trees → Type 0) (plants : (t u : Trees) (ts : List Task) → R t u → R (planted t ts) (planted u ts)) (t u : Trees)
    (r : R t u) where
  abbrev Are : Step → Step → Type 0
  Are = Alike R

  only_are : (b : Bool) (s : State) (p q : Step) → Are p q → Are (only_where b s p) (only_where b s q)
  only_are true s p q a = a
  only_are false s p q a = overs

  top_are : (st : List Val) (s : State) (go on : Val → List Val → Step) → ((v : Val) (st : List Val) → Are (go v st) (on v st)) →
      Are (on_top st s go) (on_top st s on)
  top_are [] s go on f = overs
  top_are (v ∷ st) s go on f = f v st

  two_are : (st : List Val) (s : State) (go on : Val → Val → List Val → Step) →
      ((a b : Val) (st : List Val) → Are (go a b st) (on a b st)) → Are (on_two st s go) (on_two st s on)
  two_are [] s go on f = overs
  two_are (b ∷ []) s go on f = overs
  two_are (b ∷ a ∷ st) s go on f = f a b st

  many_are : (m : ℕ) (st vs : List Val) (s : State) (go on : List Val → List Val → Step) →
      ((ws st : List Val) → Are (go ws st) (on ws st)) → Are (on_many m st vs s go) (on_many m st vs s on)
  many_are zero st vs s go on f = f vs st
  many_are (suc m) [] vs s go on f = overs
  many_are (suc m) (v ∷ st) vs s go on f = many_are m st (v ∷ vs) s go on f

  pub there_are : {A : Type 0} (x : Option A) (s : State) (go on : A → Step) → ((y : A) → Are (go y) (on y)) →
      Are (on_there x s go) (on_there x s on)
  there_are None s go on f = overs
  there_are (Some x) s go on f = f x

  spending_are : (k : ℕ) (s : State) (go on : State → Step) → ((l : ℕ) → Are (go (stepped l s)) (on (stepped l s))) →
      Are (spending k s (Over ending.Steps s) go) (spending k s (Over ending.Steps s) on)
  spending_are zero s go on f = overs
  spending_are (suc l) s go on f = f l

  faulting_are : (p : Option Place) (k : Error) (s : State) → Are (faulting p k s) (faulting p k s)
  faulting_are None k s = overs
  faulting_are (Some p) k s = overs

  domain_are : (v : Val) (s : State) (p q : Step) → Are p q → Are (on_domain v s p) (on_domain v s q)
  domain_are unit s p q a = overs
  domain_are falsity s p q a = overs
  domain_are truth s p q a = overs
  domain_are (int n) s p q a = overs
  domain_are (char n) s p q a = overs
  domain_are (enum i j) s p q a = overs
  domain_are (object c) s p q a = overs
  domain_are (event n) s p q a = overs
  domain_are (task n) s p q a = overs
  domain_are (some w) s p q a = overs
  domain_are (array vs) s p q a = a
  domain_are (mapping ps) s p q a = a
  domain_are (tuple vs) s p q a = overs

  int_are : (v : Val) (s : State) (p q : Step) → Are p q → Are (on_int v s p) (on_int v s q)
  int_are unit s p q a = overs
  int_are falsity s p q a = overs
  int_are truth s p q a = overs
  int_are (int n) s p q a = a
  int_are (char n) s p q a = overs
  int_are (enum i j) s p q a = overs
  int_are (object c) s p q a = overs
  int_are (event n) s p q a = overs
  int_are (task n) s p q a = overs
  int_are (some w) s p q a = overs
  int_are (array vs) s p q a = overs
  int_are (mapping ps) s p q a = overs
  int_are (tuple vs) s p q a = overs

  handler_are : (hs : List Handler) (s : State) (go on : Handler → List Handler → Step) →
      ((h : Handler) (hs : List Handler) → Are (go h hs) (on h hs)) → Are (on_handler hs s go) (on_handler hs s on)
  handler_are [] s go on f = overs
  handler_are (h ∷ hs) s go on f = f h hs

  module _ (y : Who) (pre post : List Task) (us : List Up) where
    abbrev x : World
    x = world pre post us t

    abbrev z : World
    z = world pre post us u

    goes_are : (s v : State) (g : Life) (ls st : List Val) (q : ℕ) (hs : List Handler) (bl : List Frame) →
        Are (goes y x s v g ls st q hs bl) (goes y z s v g ls st q hs bl)
    goes_are s v g ls st q hs bl = only_are (fits hs q) s _ _ (nexts r)

    failing_are : (s : State) (ls : List Val) (hs : List Handler) (bl : List Frame) → Are (failing y x s ls hs bl) (failing y z s ls hs bl)
    failing_are s ls (a ∷ hs) bl = goes_are s (restored a.memory s) a.life ls a.stack a.label hs bl
    failing_are s ls [] [] = overs
    failing_are s ls [] (f ∷ bl) = failing_are s f.locals f.handlers bl

    module _ (s : State) (g : Life) (pc : ℕ) (hs : List Handler) (bl : List Frame) where
      goes_here : (v : State) (ls st : List Val) (q : ℕ) → Are (goes y x s v g ls st q hs bl) (goes y z s v g ls st q hs bl)
      goes_here v ls st q = goes_are s v g ls st q hs bl

      answered_here : (p : Option Place) (a : Effect) (ls st : List Val) →
          Are (answered p a y x s g ls st pc hs bl) (answered p a y z s g ls st pc hs bl)
      answered_here p (gives v) ls st = goes_here v.1 ls (v.0 ∷ st) (suc pc)
      answered_here p fails ls st = failing_are s ls hs bl
      answered_here p (error e) ls st = only_are (fits hs (suc pc)) s _ _ (faulting_are p e s)
      answered_here p stuck ls st = overs

      into_here : (p : Option Place) (l : ℕ) (a : Answer Val) (ls st : List Val) →
          Are (answered_to p l a y x s g ls st pc hs bl) (answered_to p l a y z s g ls st pc hs bl)
      into_here p l (gives v) ls st = there_are (put ls l v) s _ _ (λ ls. goes_here s ls st (suc pc))
      into_here p l fails ls st = failing_are s ls hs bl
      into_here p l (error e) ls st = only_are (fits hs (suc pc)) s _ _ (faulting_are p e s)
      into_here p l stuck ls st = overs

      unary_here : (f : Val → Answer Val) (p : Option Place) (ls st : List Val) →
          Are (unary f p y x s g ls st pc hs bl) (unary f p y z s g ls st pc hs bl)
      unary_here f p ls st = top_are st s _ _ (λ v st. answered_here p (still (f v) s) ls st)

      binary_here : (f : Val → Val → Answer Val) (p : Option Place) (ls st : List Val) →
          Are (binary f p y x s g ls st pc hs bl) (binary f p y z s g ls st pc hs bl)
      binary_here f p ls st = two_are st s _ _ (λ a c st. answered_here p (still (f a c) s) ls st)

      collects_here : (m : ℕ) (f : List Val → Answer Val) (p : Option Place) (ls st : List Val) →
          Are (collects m f p y x s g ls st pc hs bl) (collects m f p y z s g ls st pc hs bl)
      collects_here m f p ls st = many_are m st [] s _ _ (λ vs st. answered_here p (still (f vs) s) ls st)

      enters_here : (f : Func) (vs ls st : List Val) →
          Are (only_where (fits hs (suc pc)) s (enters f vs y x s (frame g ls st (suc pc) hs ∷ bl)))
          (only_where (fits hs (suc pc)) s (enters f vs y z s (frame g ls st (suc pc) hs ∷ bl)))
      enters_here f vs ls st = only_are (fits hs (suc pc)) s _ _ (spending_are s.clock.left s _ _ (λ l. nexts r))

      awaits_here : (o : Option (Option Given)) (entry : ℕ) (ls st : List Val) →
          Are (awaits o entry (thread y (frame g ls st (suc pc) hs) bl) x s) (awaits o entry (thread y (frame g ls st (suc pc) hs) bl) z s)
      awaits_here None entry ls st = overs
      awaits_here (Some None) entry ls st = suspends_both R plants t u r (done entry) _ pre post us s
      awaits_here (Some (Some v)) entry ls st = nexts r

      spawns_here : (f : Func) (vs ls st : List Val) →
          Are (spawns f vs (thread y (frame g ls st (suc pc) hs) bl) x s) (spawns f vs (thread y (frame g ls st (suc pc) hs) bl) z s)
      spawns_here f vs ls st = spending_are s.clock.left s _ _ (λ l. nexts r)

      groups_here : (kd : Kind) (p : Place) (ks : List ℕ) (q : ℕ) (ls st : List Val) →
          Are (groups kd p ks q y x s g ls st hs bl) (groups kd p ks q y z s g ls st hs bl)
      groups_here kd p [] q ls st = overs
      groups_here kd p (l ∷ ks) q ls st = next_both R plants t u r kd p [] (l ∷ ks) _ pre post us s (λ t y. Over ending.Stuck s)
          (λ o. overs)

      takes_here : (k : Taken) (l d label : ℕ) (ls st : List Val) →
          Are (takes_step k l d label y x s g ls st pc hs bl) (takes_step k l d label y z s g ls st pc hs bl)
      takes_here ended l d label ls st = goes_here s ls st (suc pc)
      takes_here (takes v w m a) l d label ls st =
          only_are (fits hs label) s _ _ (spending_are s.clock.left s _ _
          (λ n. there_are (put ls d v) s _ _ (λ ls. there_are (put ls (suc d) w) s _ _
          (λ ls. there_are (put ls (l + m) a) s _ _ (λ ls. nexts r)))))
      takes_here unfit l d label ls st = overs

      leaves_here : (c : Bool) (ls st : List Val) → Are (leaves c y x s g ls st pc hs bl) (leaves c y z s g ls st pc hs bl)
      leaves_here false ls st = goes_here s ls st (suc pc)
      leaves_here true ls st = defer_here g.defers
        where
          block : ℕ → List ℕ → World → State → Step
          block q ds o v = Next (machine y o v (record { born = g.born; defers = ds; noted = to pc ∷ g.noted }) ls st q hs bl)

          run : World → ℕ → List ℕ → Step
          run o q ds = only_where (fits hs q) s (spending s.clock.left s (Over ending.Steps s) (block q ds o))

          defer_here : (ds : List ℕ) → Are (on_defer ds s (run x)) (on_defer ds s (run z))
          defer_here [] = overs
          defer_here (q ∷ ds) = only_are (fits hs q) s _ _ (spending_are s.clock.left s _ _ (λ l. nexts r))

      note_here : (k : Note) (ns : List Note) (ls st : List Val) → Are
          (on_note k (λ q. goes y x s s (record g { noted = ns }) ls st q hs bl)
          (clears_frames (λ s. cleared us pre post t s) y x s (frame (record g {
            noted = ns;
          }) ls st pc hs ∷ bl)))
          (on_note k (λ q. goes y z s s (record g { noted = ns }) ls st q hs bl)
          (clears_frames (λ s. cleared us pre post u s) y z s (frame (record g {
            noted = ns;
          }) ls st pc hs ∷ bl)))
      note_here (to q) ns ls st = goes_are s s (record g { noted = ns }) ls st q hs bl
      note_here gone ns ls st = frames_both R plants t u r (λ t s. cleared us pre post t s) y pre post us s
          (frame (record g { noted = ns }) ls st pc hs ∷ bl) (cleared_both R plants t u r us pre post s)

      noted_here : (ns : List Note) (ls st : List Val) → Are
          (on_noted ns s (λ k ns. on_note k (λ q. goes y x s s (record g { noted = ns }) ls st q hs bl)
          (clears_frames (λ s. cleared us pre post t s) y x s (frame (record g { noted = ns }) ls st pc hs ∷ bl))))
          (on_noted ns s (λ k ns. on_note k (λ q. goes y z s s (record g { noted = ns }) ls st q hs bl)
          (clears_frames (λ s. cleared us pre post u s) y z s (frame (record g { noted = ns }) ls st pc hs ∷ bl))))
      noted_here [] ls st = overs
      noted_here (k ∷ ns) ls st = note_here k ns ls st

      pub act_are : (c : Code) (op : Op) (ls st : List Val) → Are (act c op y x s g ls st pc hs bl) (act c op y z s g ls st pc hs bl)
      act_are c (o.Int n) ls st = goes_here s ls (_ ∷ st) (suc pc)
      act_are c o.Unit ls st = goes_here s ls (_ ∷ st) (suc pc)
      act_are c o.False ls st = goes_here s ls (_ ∷ st) (suc pc)
      act_are c o.True ls st = goes_here s ls (_ ∷ st) (suc pc)
      act_are c (o.Char n) ls st = goes_here s ls (_ ∷ st) (suc pc)
      act_are c (o.Text t) ls st = there_are (slice_get c.texts t) s _ _ (λ a. goes_here s ls (_ ∷ st) (suc pc))
      act_are c (o.Enum n m) ls st = goes_here s ls (_ ∷ st) (suc pc)
      act_are c (o.Get l) ls st = there_are (nth ls l) s _ _ (λ a. goes_here s ls (a ∷ st) (suc pc))
      act_are c (o.Put l) ls st = top_are st s _ _ (λ a st. there_are (put ls l a) s _ _ (λ ls. goes_here s ls st (suc pc)))
      act_are c o.Drop ls st = top_are st s _ _ (λ a st. goes_here s ls st (suc pc))
      act_are c (o.Add p) ls st = binary_here sum_of (place_at c p) ls st
      act_are c (o.Sub p) ls st = binary_here difference_of (place_at c p) ls st
      act_are c (o.Mul p) ls st = binary_here product_of (place_at c p) ls st
      act_are c (o.Neg p) ls st = unary_here negation_of (place_at c p) ls st
      act_are c (o.Floor p) ls st = binary_here floor_of (place_at c p) ls st
      act_are c (o.Ceil p) ls st = binary_here ceil_of (place_at c p) ls st
      act_are c o.Mod ls st = binary_here modulo_of None ls st
      act_are c (o.Concat p) ls st = binary_here concat_of (place_at c p) ls st
      act_are c (o.Join m p) ls st = collects_here m join_of (place_at c p) ls st
      act_are c o.Lt ls st = binary_here less_of None ls st
      act_are c o.Le ls st = binary_here at_most_of None ls st
      act_are c o.Gt ls st = binary_here greater_of None ls st
      act_are c o.Ge ls st = binary_here at_least_of None ls st
      act_are c o.Eq ls st = binary_here equal_of None ls st
      act_are c o.Ne ls st = binary_here unequal_of None ls st
      act_are c (o.Array m p) ls st = collects_here m array_of (place_at c p) ls st
      act_are c (o.Map m p) ls st = collects_here (m + m) (λ vs. map_of (paired vs)) (place_at c p) ls st
      act_are c (o.Tuple m p) ls st = collects_here m tuple_of (place_at c p) ls st
      act_are c (o.Some p) ls st = unary_here option_of (place_at c p) ls st
      act_are c o.Query ls st = unary_here query_of None ls st
      act_are c (o.Item m) ls st = unary_here (λ v. item_of v m) None ls st
      act_are c o.At ls st = binary_here at_of None ls st
      act_are c o.Length ls st = unary_here length_of None ls st
      act_are c (o.New p) ls st = top_are st s _ _ (λ a st. answered_here (place_at c p) (variable_made a s) ls st)
      act_are c (o.Load m) ls st = top_are st s _ _ (λ a st. answered_here None (slot_read m a s) ls st)
      act_are c (o.Store m j kd p) ls st = top_are st s _ _
          (λ a st. many_are j st [] s _ _ (λ path st. top_are st s _ _
          (λ w st. answered_here (place_at c p) (slot_written m path (mode_of kd) a w s) ls st)))
      act_are c (o.Object m p) ls st = there_are (slice_get c.classes m) s _ _
          (λ (q : Class). many_are q.slots st [] s _ _ (λ vs st. answered_here (place_at c p) (object_made m vs s) ls st))
      act_are c (o.Event p) ls st = answered_here (place_at c p) (event_made s) ls st
      act_are c (o.Jump l) ls st = goes_here s ls st l
      act_are c (o.Same l) ls st = two_are st s _ _ (λ a d st. goes_here s ls st _)
      act_are c (o.Again l) ls st = only_are (fits hs l) s _ _ (spending_are s.clock.left s _ _ (λ n. nexts r))
      act_are c (o.Try l) ls st = goes_are s s g ls [] (suc pc)
          (record { made = pc; label = l; stack = st; memory = s.memory; life = g } ∷ hs) bl
      act_are c o.Commit ls st = handler_are hs s _ _ (λ h hs. goes_are s s g ls _ (suc pc) hs bl)
      act_are c o.Undo ls st = handler_are hs s _ _ (λ h hs. goes_are s (restored h.memory s) g ls _ (suc pc) hs bl)
      act_are c o.Fail ls st = failing_are s ls hs bl
      act_are c (o.Call m) ls st = there_are (slice_get c.functions m) s _ _
          (λ (q : Func). many_are q.params st [] s _ _ (λ vs st. enters_here q vs ls st))
      act_are c (o.Method m j) ls st = many_are j st [] s _ _
          (λ vs st. top_are st s _ _ (λ a st. there_are (method_of c m j a s) s _ _ (λ q. enters_here q (a ∷ vs) ls st)))
      act_are c o.Return ls st = top_are st s _ _
          (λ a st. only_are (nothing g.defers g.noted) s _ _ (returns_both R plants t u r y g.born a hs bl pre post us s))
      act_are c (o.Each l) ls st = top_are st s _ _
          (λ a st. domain_are a s _ _ (there_are (put ls l a) s _ _
          (λ ls. there_are (put ls (suc l) (int (pos 0))) s _ _ (λ ls. goes_here s ls st (suc pc)))))
      act_are c (o.Range l) ls st = two_are st s _ _
          (λ a d st. int_are a s _ _ (int_are d s _ _
          (there_are (put ls l a) s _ _ (λ ls. there_are (put ls (suc l) d) s _ _ (λ ls. goes_here s ls st (suc pc))))))
      act_are c (o.Take l d m) ls st = there_are (nth ls l) s _ _
          (λ a. there_are (nth ls (suc l)) s _ _ (λ w. there_are (nth ls d) s _ _
          (λ q. there_are (nth ls (suc d)) s _ _ (λ r. takes_here (taken_from a w) l d m ls st))))
      act_are c (o.Append l p) ls st = top_are st s _ _
          (λ a st. there_are (nth ls l) s _ _ (λ w. into_here (place_at c p) l (append_of w a) ls st))
      act_are c (o.Print p) ls st = top_are st s _ _ (λ a st. answered_here (place_at c p) (line_printed a s) ls st)
      act_are c (o.Sleep m) ls st = only_are (free hs g.noted bl) s _ _ (suspends_both R plants t u r (after m s) _ pre post us s)
      act_are c o.Forever ls st = only_are (free hs g.noted bl) s _ _ (suspends_both R plants t u r never _ pre post us s)
      act_are c o.AwaitTask ls st = only_are (free hs g.noted bl) s _ _
          (top_are st s _ _ (λ a st. there_are (task_of a) s _ _ (λ entry. awaits_here (nth s.clock.results entry) entry ls st)))
      act_are c o.AwaitEvent ls st = only_are (free hs g.noted bl) s _ _
          (top_are st s _ _ (λ a st. there_are (event_of a s) s _ _ (λ w. suspends_both R plants t u r (heard w) _ pre post us s)))
      act_are c o.Signal ls st = only_are (free hs g.noted bl) s _ _
          (two_are st s _ _ (λ a w st. answered_here None (signal_sent (event_of a s) w s) ls st))
      act_are c (o.Spawn m) ls st = only_are (free hs g.noted bl) s _ _
          (there_are (slice_get c.functions m) s _ _ (λ (q : Func). many_are q.params st [] s _ _ (λ vs st. spawns_here q vs ls st)))
      act_are c (o.SpawnMethod m j) ls st = only_are (free hs g.noted bl) s _ _
          (many_are j st [] s _ _ (λ vs st. top_are st s _ _
          (λ a st. there_are (method_of c m j a s) s _ _ (λ q. spawns_here q (a ∷ vs) ls st))))
      act_are c (o.Group kd m p) ls st = only_are (free hs g.noted bl) s _ _
          (there_are (place_at c p) s _ _ (λ q. there_are (labels c.ops (suc pc) m) s _ _
          (λ ks. groups_here (kind_of kd) q ks (after_arms (suc pc) m) ls st)))
      act_are c (o.Arm l) ls st = overs
      act_are c (o.Branch l) ls st = only_are (free hs g.noted bl) s _ _ (spending_are s.clock.left s _ _ (λ n. nexts r))
      act_are c o.ArmEnd ls st = top_are st s _ _
          (λ a st. only_are (nothing g.defers g.noted) s _ _ (ends_both R plants t u r y g.born a hs bl pre post us s))
      act_are c (o.Defer l) ls st = goes_are s s _ ls st l hs bl
      act_are c (o.Leave m) ls st = only_are (not (ltn (length g.defers) m)) s _ _
          (only_are (not (ltn m (kept_defers hs))) s _ _ (leaves_here (ltn m (length g.defers)) ls st))
      act_are c o.DeferEnd ls st = only_are (ltn (kept_noted hs) (length g.noted)) s _ _ (noted_here g.noted ls st)
