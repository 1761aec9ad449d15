-- An operation of a task that is neither suspended nor over: it stays where it is, or comes to a step that closes what
-- is
-- open. What counts as open is given, by what it says of a frame and those below it.
use Rattle.std.proofs.Common.{◌≡◌, ℕ, zero, suc, length, ◌+◌, List, [], ◌∷◌, ◌++◌, Option, Some, None, Bool, true}
use Rattle.std.proofs.Common.{false}
use Rattle.std.proofs.Common.{refl, sym, subst, arith, ap}
use Rattle.std.specs.Prelude.{pos, not, slice_get}
use Rattle.verse_base.specs.declared.places.Place.{Place}
use Rattle.verse_base.specs.declared.refusals.Kind.{Kind as Error}
use Rattle.verse_code.specs.declared.operations.Op.{Op}
use Rattle.verse_code.specs.declared.operations.Op.TheVariants as does
use Rattle.verse_code.specs.declared.codes.Func.{Func}
use Rattle.verse_code.specs.declared.codes.Class.{Class}
use Rattle.verse_code.specs.declared.codes.Code.{Code}
use Rattle.verse_value.specs.Val.{Val, unit, falsity, truth, int, char, enum, object, event, task, some, array, mapping}
use Rattle.verse_value.specs.Val.{tuple}
use Rattle.verse_value.specs.Answer.{Answer, gives, fails, error, stuck}
use Rattle.verse_value.specs.Operations.{sum_of, difference_of, product_of, negation_of, floor_of, ceil_of, modulo_of}
use Rattle.verse_value.specs.Operations.{concat_of, join_of}
use Rattle.verse_value.specs.Operations.{less_of, at_most_of, greater_of, at_least_of, equal_of, unequal_of, array_of}
use Rattle.verse_value.specs.Operations.{map_of, tuple_of}
use Rattle.verse_value.specs.Operations.{option_of, query_of, item_of, at_of, length_of, append_of}
use Rattle.verse_value.specs.declared.runs.Ending.{Ending}
use Rattle.verse_value.specs.declared.runs.Ending.TheVariants as ending
use Rattle.verse_meaning_state.specs.State.{State, Clock, spending, stepped, restored}
use Rattle.verse_meaning_state.specs.Waits.{ltn, nth}
use Rattle.verse_meaning_state.specs.Effects.{Effect, still, variable_made, object_made, event_made, slot_read}
use Rattle.verse_meaning_state.specs.Effects.{slot_written, line_printed}
use Rattle.verse_code_machine.specs.Tasks.{Life, Handler, Frame, Note, to, Who, World, Machine, Step, Next, Over}
use Rattle.verse_code_machine.specs.Tasks.{machine}
use Rattle.verse_code_machine.specs.Frames.{on_top, on_two, on_many, on_there, only_where, put, fits, goes, failing}
use Rattle.verse_code_machine.specs.Frames.{faulting, answered}
use Rattle.verse_code_machine.specs.Frames.{answered_to, enters, method_of, clean, kept_defers, kept_noted}
use Rattle.verse_code_machine.specs.Cancelling.{clears_frames}
use Rattle.verse_code_machine.specs.Ends.{cleared, returns, ends}
use Rattle.verse_code_machine.specs.Acts.{place_at, mode_of, paired, Taken, ended, takes, unfit, taken_from, takes_step}
use Rattle.verse_code_machine.specs.Acts.{on_domain}
use Rattle.verse_code_machine.specs.Acts.{on_int, on_noted, on_defer, on_note, frame, unary, binary, collects, leaves}
use Rattle.verse_code_machine.specs.Acts.{on_handler, act}
use Rattle.verse_code_machine_contexts.specs.Contexts.{StepsAlone, closed_by, failed}
use Rattle.verse_code_machine_contexts.proofs.Effects.{KeepsClock, still_keeps, made_keeps, read_keeps, written_keeps}
use Rattle.verse_code_machine_contexts.proofs.Effects.{printed_keeps}

-- a machine of the task w in the world o, where that is open
pub record Inside (w : Who) (o : World) (start : Clock) (F : ℕ → List Note → List Handler → List Frame → Type 0) (n :
    Machine) : Type 0
  where
    pub who : n.who ≡ w
    pub world : n.world ≡ o
    pub clock : StepsAlone start n.state.clock
    pub frames : F n.frame.life.born n.frame.life.noted n.frame.handlers n.below

pub data Low (w : Who) (o : World) (start : Clock) (F : ℕ → List Note → List Handler → List Frame → Type 0) (P : Step →
    Type 0) :
    Step → Type 0 where
  over : {e : Ending} {s : State} → Low w o start F P (Over e s)
  stays : {n : Machine} → Inside w o start F n → Low w o start F P (Next n)
  closes : {q : Step} → P q → Low w o start F P q

pub step_spent : (k l : Clock) (left : ℕ) → StepsAlone k l → suc left ≡ l.left →
    StepsAlone k (record l { left = left; spent = suc l.spent })
step_spent k l left a e = record {
  same = ap (λ (x : Clock). record x { left = left; spent = suc l.spent }) a.same;
  sum
      = sums l.spent a.sum;
}
  where
    sums : {n : ℕ} (s : ℕ) → l.left + s ≡ n → left + suc s ≡ n
    sums s h = omega (arith, h, e)

-- an operation that leaves the task, or that no task with an open context may do
pub data Leaves : Op → Type 0 where
  sleep : {n : _} → Leaves (does.Sleep n)
  forever : Leaves does.Forever
  await_task : Leaves does.AwaitTask
  await_event : Leaves does.AwaitEvent
  signal : Leaves does.Signal
  spawn : {n : _} → Leaves (does.Spawn n)
  spawn_method : {n m : _} → Leaves (does.SpawnMethod n m)
  group : {k n p : _} → Leaves (does.Group k n p)
  branch : {l : _} → Leaves (does.Branch l)

-- an operation that may fail
abbrev pub CanFail : Op → Type 0
CanFail op = (m : Machine) (label : ℕ) (k : Machine) → closed_by op m label k ≡ failed m label k

module _ (w : Who) (o : World) (start : Clock) (F : ℕ → List Note → List Handler → List Frame → Type 0) where
  abbrev Is : (Step → Type 0) → Step → Type 0
  Is = Low w o start F

  pub only_low : (P : Step → Type 0) (b : Bool) (s : State) (q : Step) → Is P q → Is P (only_where b s q)
  only_low P true s q l = l
  only_low P false s q l = over

  pub top_low : (P : Step → Type 0) (st : List Val) (s : State) (go : Val → List Val → Step) → ((v : Val) (st : List
      Val) → Is P (go v st)) →
      Is P (on_top st s go)
  top_low P [] s go f = over
  top_low P (v ∷ st) s go f = f v st

  pub two_low : (P : Step → Type 0) (st : List Val) (s : State) (go : Val → Val → List Val → Step) →
      ((a b : Val) (st : List Val) → Is P (go a b st)) → Is P (on_two st s go)
  two_low P [] s go f = over
  two_low P (b ∷ []) s go f = over
  two_low P (b ∷ a ∷ st) s go f = f a b st

  pub many_low : (P : Step → Type 0) (n : ℕ) (st vs : List Val) (s : State) (go : List Val → List Val → Step) →
      ((ws st : List Val) → Is P (go ws st)) → Is P (on_many n st vs s go)
  many_low P zero st vs s go f = f vs st
  many_low P (suc n) [] vs s go f = over
  many_low P (suc n) (v ∷ st) vs s go f = many_low P n st (v ∷ vs) s go f

  pub there_low : (P : Step → Type 0) {A : Type 0} (x : Option A) (s : State) (go : A → Step) → ((y : A) → x ≡ Some y →
      Is P (go y)) →
      Is P (on_there x s go)
  there_low P None s go f = over
  there_low P (Some x) s go f = f x refl

  pub faulting_low : (P : Step → Type 0) (p : Option Place) (k : Error) (s : State) → Is P (faulting p k s)
  faulting_low P None k s = over
  faulting_low P (Some p) k s = over

  pub domain_low : (P : Step → Type 0) (v : Val) (s : State) (q : Step) → Is P q → Is P (on_domain v s q)
  domain_low P unit s q l = over
  domain_low P falsity s q l = over
  domain_low P truth s q l = over
  domain_low P (int n) s q l = over
  domain_low P (char n) s q l = over
  domain_low P (enum a b) s q l = over
  domain_low P (object c) s q l = over
  domain_low P (event n) s q l = over
  domain_low P (task n) s q l = over
  domain_low P (some w) s q l = over
  domain_low P (array vs) s q l = l
  domain_low P (mapping ps) s q l = l
  domain_low P (tuple vs) s q l = over

  pub int_low : (P : Step → Type 0) (v : Val) (s : State) (q : Step) → Is P q → Is P (on_int v s q)
  int_low P unit s q l = over
  int_low P falsity s q l = over
  int_low P truth s q l = over
  int_low P (int n) s q l = l
  int_low P (char n) s q l = over
  int_low P (enum a b) s q l = over
  int_low P (object c) s q l = over
  int_low P (event n) s q l = over
  int_low P (task n) s q l = over
  int_low P (some w) s q l = over
  int_low P (array vs) s q l = over
  int_low P (mapping ps) s q l = over
  int_low P (tuple vs) s q l = over

  pub spending_low : (P : Step → Type 0) (left : ℕ) (s : State) (go : State → Step) →
      ((l : ℕ) → suc l ≡ left → Is P (go (stepped l s))) → Is P (spending left s (Over ending.Steps s) go)
  spending_low P zero s go f = over
  spending_low P (suc l) s go f = f l refl

  -- a machine of the same task
  pub inside : {u : State} {g : Life} {ls st : List Val} {q : ℕ} {hs : List Handler} {bl : List Frame} →
      StepsAlone start u.clock → F g.born g.noted hs bl → Inside w o start F (machine w o u g ls st q hs bl)
  inside t r = record { who = refl; world = refl; clock = t; frames = r }

  pub goes_low : (P : Step → Type 0) (s u : State) (g : Life) (ls st : List Val) (q : ℕ) (hs : List Handler) (bl : List
      Frame) →
      StepsAlone start u.clock → F g.born g.noted hs bl → Is P (goes w o s u g ls st q hs bl)
  goes_low P s u g ls st q hs bl t r = only_low P (fits hs q) s _ (stays (inside t r))

  -- what holds where an operation is carried out
  pub record Site (P : Op → Step → Type 0) (s : State) (g : Life) (ls st : List Val) (pc : ℕ) (hs : List Handler) (bl :
      List Frame) :
      Type 0 where
    pub clock : StepsAlone start s.clock
    pub frames : F g.born g.noted hs bl
    pub leaving : (c : Code) {op : Op} → Leaves op → Is (P op) (act c op w o s g ls st pc hs bl)
    pub opens : (h : Handler) → h.life ≡ g → F g.born g.noted (h ∷ hs) bl
    pub notes : (q : ℕ) → F g.born (to q ∷ g.noted) hs bl
    pub calls : (l : ℕ) (ls st : List Val) (q : ℕ) (f : Func) (vs : List Val) → suc l ≡ s.clock.left →
        F l [] [] (frame g ls st q hs ∷ bl)
    pub failing : (op : Op) → CanFail op → Is (P op) (failing w o s ls hs bl)
    pub returns : (v : Val) → Is (P does.Return) (clean g s (returns w o g.born v s hs bl))
    pub ends : (v : Val) → Is (P does.ArmEnd) (clean g s (ends w o g.born v s hs bl))
    pub commits :
        Is (P does.Commit) (on_handler hs s (λ h hs. goes w o s s g ls (st ++ h.stack) (suc pc) hs bl))
    pub undoes :
        Is (P does.Undo) (on_handler hs s (λ h hs. goes w o s (restored h.memory s) g ls (st ++ h.stack) (suc pc) hs
        bl))
    pub defer_ends : Is (P does.DeferEnd) (only_where (ltn (kept_noted hs) (length g.noted)) s
        (on_noted g.noted s (λ y ns. on_note y (λ q. goes w o s s (record g { noted = ns }) ls st q hs bl)
        (clears_frames (λ s. cleared o.ups o.pre o.post o.trees s) w o s (frame (record g { noted = ns }) ls st pc hs ∷
        bl)))))

  module _ (P : Op → Step → Type 0) (s : State) (g : Life) (ls st : List Val) (pc : ℕ) (hs : List Handler) (bl : List
      Frame)
      (at : Site P s g ls st pc hs bl)
    where
      module _ (Q : Step → Type 0) where
        goes_here : (u : State) (h : Life) (ls st : List Val) (q : ℕ) → u.clock ≡ s.clock → h.born ≡ g.born →
            h.noted ≡ g.noted → Is Q (goes w o s u h ls st q hs bl)
        goes_here u h ls st q e i j =
            goes_low Q s u h ls st q hs bl (subst (StepsAlone start) (sym e) at.clock)
            (subst (λ b. F b h.noted hs bl) (sym i) (subst (λ n. F g.born n hs bl) (sym j) at.frames))

        plain : (ls st : List Val) (q : ℕ) → Is Q (goes w o s s g ls st q hs bl)
        plain ls st q = goes_here s g ls st q refl refl refl

        spent_here : (go : State → Step) → ((u : State) → StepsAlone start u.clock → Is Q (go u)) →
            Is Q (spending s.clock.left s (Over ending.Steps s) go)
        spent_here go f = spending_low Q s.clock.left s go (λ l e. f (stepped l s) (step_spent _ s.clock l at.clock e))

        enters_here : (f : Func) (vs ls st : List Val) →
            Is Q (only_where (fits hs (suc pc)) s (enters f vs w o s (frame g ls st (suc pc) hs ∷ bl)))
        enters_here f vs ls st = only_low Q (fits hs (suc pc)) s _ (spending_low Q s.clock.left s _ (λ l e. stays
            (inside (step_spent _ s.clock l at.clock e) (at.calls l ls st (suc pc) f vs e))))

        takes_here : (x : Taken) (l d q : ℕ) (ls st : List Val) → Is Q (takes_step x l d q w o s g ls st pc hs bl)
        takes_here ended l d q ls st = plain ls st (suc pc)
        takes_here (takes v k n x) l d q ls st = only_low Q (fits hs q) s _ (spent_here _ (λ u e.
            there_low Q (put ls d v) s _ (λ ls h. there_low Q (put ls (suc d) k) s _ (λ ls h.
            there_low Q (put ls (l + n) x) s _ (λ ls h. stays (inside e at.frames))))))
        takes_here unfit l d q ls st = over

        leaves_here : (b : Bool) (ls st : List Val) → Is Q (leaves b w o s g ls st pc hs bl)
        leaves_here false ls st = plain ls st (suc pc)
        leaves_here true ls st = defer_here g.defers
          where
            defer_here : (ds : List ℕ) → Is Q (on_defer ds s (λ q ds. only_where (fits hs q) s (spending s.clock.left s
                (Over ending.Steps s) (λ u. Next (machine w o u (record {
                  born = g.born;
                  defers = ds;
                  noted = to pc ∷ g.noted;
                }) ls st q hs bl)))))
            defer_here [] = over
            defer_here (q ∷ ds) = only_low Q (fits hs q) s _ (spent_here _ (λ u e. stays (inside e (at.notes pc))))

      module _ (op : Op) (can : CanFail op) where
        answered_here : (p : Option Place) (a : Effect) (st : List Val) → KeepsClock s a →
            Is (P op) (answered p a w o s g ls st pc hs bl)
        answered_here p (gives x) st e = goes_here (P op) x.1 g ls (x.0 ∷ st) (suc pc) e refl refl
        answered_here p fails st e = at.failing op can
        answered_here p (error k) st e = only_low (P op) (fits hs (suc pc)) s _ (faulting_low (P op) p k s)
        answered_here p stuck st e = over

        into_here : (p : Option Place) (l : ℕ) (a : Answer Val) (st : List Val) →
            Is (P op) (answered_to p l a w o s g ls st pc hs bl)
        into_here p l (gives v) st = there_low (P op) (put ls l v) s _ (λ ls e. plain (P op) ls st (suc pc))
        into_here p l fails st = at.failing op can
        into_here p l (error k) st = only_low (P op) (fits hs (suc pc)) s _ (faulting_low (P op) p k s)
        into_here p l stuck st = over

        unary_here : (f : Val → Answer Val) (p : Option Place) (st : List Val) →
            Is (P op) (unary f p w o s g ls st pc hs bl)
        unary_here f p st = top_low (P op) st s _ (λ v st. answered_here p (still (f v) s) st (still_keeps s (f v)))

        binary_here : (f : Val → Val → Answer Val) (p : Option Place) (st : List Val) →
            Is (P op) (binary f p w o s g ls st pc hs bl)
        binary_here f p st = two_low (P op) st s _ (λ a b st. answered_here p (still (f a b) s) st (still_keeps s (f a
            b)))

        collects_here : (n : ℕ) (f : List Val → Answer Val) (p : Option Place) (st : List Val) →
            Is (P op) (collects n f p w o s g ls st pc hs bl)
        collects_here n f p st =
            many_low (P op) n st [] s _ (λ vs st. answered_here p (still (f vs) s) st (still_keeps s (f vs)))

      pub act_low : (c : Code) (op : Op) → Is (P op) (act c op w o s g ls st pc hs bl)
      act_low c (does.Int n) = plain _ ls (_ ∷ st) (suc pc)
      act_low c does.Unit = plain _ ls (_ ∷ st) (suc pc)
      act_low c does.False = plain _ ls (_ ∷ st) (suc pc)
      act_low c does.True = plain _ ls (_ ∷ st) (suc pc)
      act_low c (does.Char n) = plain _ ls (_ ∷ st) (suc pc)
      act_low c (does.Text n) = there_low _ (slice_get c.texts n) s _ (λ a e. plain _ ls (_ ∷ st) (suc pc))
      act_low c (does.Enum n k) = plain _ ls (_ ∷ st) (suc pc)
      act_low c (does.Get l) = there_low _ (nth ls l) s _ (λ a e. plain _ ls (a ∷ st) (suc pc))
      act_low c (does.Put l) =
          top_low _ st s _ (λ a st. there_low _ (put ls l a) s _ (λ ls e. plain _ ls st (suc pc)))
      act_low c does.Drop = top_low _ st s _ (λ a st. plain _ ls st (suc pc))
      act_low c (does.Add p) = binary_here _ (λ m l k. refl) sum_of (place_at c p) st
      act_low c (does.Sub p) = binary_here _ (λ m l k. refl) difference_of (place_at c p) st
      act_low c (does.Mul p) = binary_here _ (λ m l k. refl) product_of (place_at c p) st
      act_low c (does.Neg p) = unary_here _ (λ m l k. refl) negation_of (place_at c p) st
      act_low c (does.Floor p) = binary_here _ (λ m l k. refl) floor_of (place_at c p) st
      act_low c (does.Ceil p) = binary_here _ (λ m l k. refl) ceil_of (place_at c p) st
      act_low c does.Mod = binary_here _ (λ m l k. refl) modulo_of None st
      act_low c (does.Concat p) = binary_here _ (λ m l k. refl) concat_of (place_at c p) st
      act_low c (does.Join n p) = collects_here _ (λ m l k. refl) n join_of (place_at c p) st
      act_low c does.Lt = binary_here _ (λ m l k. refl) less_of None st
      act_low c does.Le = binary_here _ (λ m l k. refl) at_most_of None st
      act_low c does.Gt = binary_here _ (λ m l k. refl) greater_of None st
      act_low c does.Ge = binary_here _ (λ m l k. refl) at_least_of None st
      act_low c does.Eq = binary_here _ (λ m l k. refl) equal_of None st
      act_low c does.Ne = binary_here _ (λ m l k. refl) unequal_of None st
      act_low c (does.Array n p) = collects_here _ (λ m l k. refl) n array_of (place_at c p) st
      act_low c (does.Map n p) = collects_here _ (λ m l k. refl) (n + n) (λ vs. map_of (paired vs)) (place_at c p) st
      act_low c (does.Tuple n p) = collects_here _ (λ m l k. refl) n tuple_of (place_at c p) st
      act_low c (does.Some p) = unary_here _ (λ m l k. refl) option_of (place_at c p) st
      act_low c does.Query = unary_here _ (λ m l k. refl) query_of None st
      act_low c (does.Item n) = unary_here _ (λ m l k. refl) (λ v. item_of v n) None st
      act_low c does.At = binary_here _ (λ m l k. refl) at_of None st
      act_low c does.Length = unary_here _ (λ m l k. refl) length_of None st
      act_low c (does.New p) =
          top_low _ st s _ (λ a st. answered_here _ (λ m l k. refl) (place_at c p) (variable_made a s) st (made_keeps s
          object _))
      act_low c (does.Load n) =
          top_low _ st s _ (λ a st. answered_here _ (λ m l k. refl) None (slot_read n a s) st (read_keeps s n a))
      act_low c (does.Store n i k p) =
          top_low _ st s _ (λ a st. many_low _ i st [] s _ (λ path st. top_low _ st s _ (λ x st.
          answered_here _ (λ m l k. refl) (place_at c p) (slot_written n path (mode_of k) a x s) st (written_keeps s n
          path (mode_of k) a x))))
      act_low c (does.Object n p) =
          there_low _ (slice_get c.classes n) s _ (λ (k : Class) e. many_low _ k.slots st [] s _ (λ vs st.
          answered_here _ (λ m l k. refl) (place_at c p) (object_made n vs s) st (made_keeps s object _)))
      act_low c (does.Event p) = answered_here _ (λ m l k. refl) (place_at c p) (event_made s) st (made_keeps s event _)
      act_low c (does.Jump l) = plain _ ls st l
      act_low c (does.Same l) = two_low _ st s _ (λ a b st. plain _ ls st _)
      act_low c (does.Again l) = only_low _ (fits hs l) s _ (spent_here _ _ (λ u e. stays (inside e at.frames)))
      act_low c (does.Try l) =
          goes_low _ s s g ls [] (suc pc) (record { made = pc; label = l; stack = st; memory = s.memory; life = g } ∷
          hs) bl
          at.clock (at.opens _ refl)
      act_low c does.Commit = at.commits
      act_low c does.Undo = at.undoes
      act_low c does.Fail = at.failing _ (λ m l k. refl)
      act_low c (does.Call n) =
          there_low _ (slice_get c.functions n) s _ (λ (f : Func) e. many_low _ f.params st [] s _ (λ vs st.
          enters_here _ f vs ls st))
      act_low c (does.Method n k) =
          many_low _ k st [] s _ (λ vs st. top_low _ st s _ (λ v st. there_low _ (method_of c n k v s) s _
          (λ f e. enters_here _ f (v ∷ vs) ls st)))
      act_low c does.Return =
          top_low _ st s _ (λ v st. at.returns v)
      act_low c (does.Each l) =
          top_low _ st s _ (λ v st. domain_low _ v s _ (there_low _ (put ls l v) s _ (λ ls e.
          there_low _ (put ls (suc l) (int (pos 0))) s _ (λ ls e. plain _ ls st (suc pc)))))
      act_low c (does.Range l) =
          two_low _ st s _ (λ a b st. int_low _ a s _ (int_low _ b s _ (there_low _ (put ls l a) s _
          (λ ls e. there_low _ (put ls (suc l) b) s _ (λ ls e. plain _ ls st (suc pc))))))
      act_low c (does.Take l d q) =
          there_low _ (nth ls l) s _ (λ a e. there_low _ (nth ls (suc l)) s _ (λ b e. there_low _ (nth ls d) s _
          (λ x e. there_low _ (nth ls (suc d)) s _ (λ y e. takes_here _ (taken_from a b) l d q ls st))))
      act_low c (does.Append l p) =
          top_low _ st s _ (λ v st. there_low _ (nth ls l) s _ (λ a e. into_here _ (λ m l k. refl) (place_at c p) l
          (append_of a v) st))
      act_low c (does.Print p) =
          top_low _ st s _ (λ v st. answered_here _ (λ m l k. refl) (place_at c p) (line_printed v s) st (printed_keeps
          s v))
      act_low c (does.Sleep n) = at.leaving c sleep
      act_low c does.Forever = at.leaving c forever
      act_low c does.AwaitTask = at.leaving c await_task
      act_low c does.AwaitEvent = at.leaving c await_event
      act_low c does.Signal = at.leaving c signal
      act_low c (does.Spawn n) = at.leaving c spawn
      act_low c (does.SpawnMethod n k) = at.leaving c spawn_method
      act_low c (does.Group k n p) = at.leaving c group
      act_low c (does.Arm l) = over
      act_low c (does.Branch l) = at.leaving c branch
      act_low c does.ArmEnd =
          top_low _ st s _ (λ v st. at.ends v)
      act_low c (does.Defer l) = goes_here _ s _ ls st l refl refl refl
      act_low c (does.Leave n) =
          only_low _ (not (ltn (length g.defers) n)) s _ (only_low _ (not (ltn n (kept_defers hs))) s _
          (leaves_here _ (ltn n (length g.defers)) ls st))
      act_low c does.DeferEnd = at.defer_ends
