-- Each operation makes the machine lighter, or a step is spent.
use Rattle.std.proofs.Common.{◌≡◌, ℕ, zero, suc, length, ◌+◌, ◌*◌, ◌-◌, ◌<◌, ◌≤◌, List, [], ◌∷◌, Option, Some, None, Bool, true, false}
use Rattle.std.proofs.Common.{cond, nat_lt, refl, sym, subst, arith}
use Rattle.std.specs.Prelude.{pos, not, slice_get}
use Rattle.std.proofs.Math.Nat.{mul-le-mul_left}
use Rattle.std.proofs.lemmas.Bool.{ltb-true}
use Rattle.verse_base.specs.declared.places.Place.{Place}
use Rattle.verse_base.specs.declared.refusals.Kind.{Kind as Error}
use Rattle.verse_base.proofs.Facts.{and_first}
use Rattle.verse_code.specs.declared.operations.Op.{Op}
use Rattle.verse_code.specs.declared.operations.Op.TheVariants as o
use Rattle.verse_code.specs.declared.codes.Func.{Func}
use Rattle.verse_code.specs.declared.codes.Class.{Class}
use Rattle.verse_code.specs.declared.codes.Code.{Code}
use Rattle.verse_code.specs.Operations.{operands_of}
use Rattle.verse_code.specs.Validity.{sizes_of, all_suit}
use Rattle.verse_value.specs.Val.{Val, unit, falsity, truth, int, char, enum, object, event, task, some, array, mapping, tuple}
use Rattle.verse_value.specs.Store.{Store}
use Rattle.verse_value.specs.Answer.{Answer, gives, fails, error, stuck}
use Rattle.verse_value.specs.Equality.{val_eq}
use Rattle.verse_value.specs.Operations.{sum_of, difference_of, product_of, negation_of, floor_of, ceil_of, modulo_of, concat_of, join_of}
use Rattle.verse_value.specs.Operations.{less_of, at_most_of, greater_of, at_least_of, equal_of, unequal_of, array_of, map_of, tuple_of}
use Rattle.verse_value.specs.Operations.{option_of, query_of, item_of, at_of, length_of, append_of}
use Rattle.verse_value.specs.declared.runs.Ending.TheVariants as ending
use Rattle.verse_meaning_state.specs.State.{State, Given, spending, restored}
use Rattle.verse_meaning_state.specs.Waits.{Cause, never, done, heard, after, ltn, nth}
use Rattle.verse_meaning_state.specs.Effects.{Effect, still, variable_made, object_made, event_made, slot_read}
use Rattle.verse_meaning_state.specs.Effects.{slot_written}
use Rattle.verse_meaning_state.specs.Effects.{line_printed, event_of, task_of}
use Rattle.verse_meaning_state.specs.Effects.{signal_sent}
use Rattle.verse_meaning_state.proofs.Keeping.{Keeps, still_keeps, added_keeps, read_keeps, written_keeps}
use Rattle.verse_meaning_state.proofs.Keeping.{printed_keeps, sent_keeps}
use Rattle.verse_meaning_state.proofs.Numbers.{ltn_is}
use Rattle.verse_code_machine.specs.Tasks.{Life, Handler, Frame, Note, to, gone, Who, thread, World, Step, Next, Over, machine}
use Rattle.verse_code_machine.specs.Frames.{on_top, on_two, on_many, on_there, only_where, put, fits, goes, failing, faulting, answered}
use Rattle.verse_code_machine.specs.Frames.{answered_to, enters, method_of, free, clean, nothing, kept_defers, kept_noted}
use Rattle.verse_code_machine.specs.Cancelling.{clears_frames}
use Rattle.verse_code_machine.specs.Ends.{suspends, cleared}
use Rattle.verse_code_machine.specs.Acts.{place_at, mode_of, kind_of, paired, Taken, ended, takes, unfit, taken_from, takes_step, on_domain}
use Rattle.verse_code_machine.specs.Acts.{on_int, awaits, spawns, labels, after_arms, groups, on_noted, on_defer, on_note, frame, unary}
use Rattle.verse_code_machine.specs.Acts.{binary}
use Rattle.verse_code_machine.specs.Acts.{collects, leaves, on_handler, act}
use Rattle.verse_code_machine.proofs.Weights.{Kept, kept_more, FramesAre, ThreadIs, WorldIs, frames_weight, world_weight, steps_weight, Low}
use Rattle.verse_code_machine.proofs.Weights.{over}
use Rattle.verse_code_machine.proofs.Ends.{others, note_weight, spending_low, resumes_low, frames_low, next_low, suspends_low, ends_low}
use Rattle.verse_code_machine.proofs.Ends.{returns_low, cleared_low}

within_label : (x y b : Bool) → cond x (cond y b false) false ≡ true → y ≡ true
within_label true true b e = refl
within_label true false b e = cc
within_label false y b e = cc

label_above : (h : Handler) (hs : List Handler) (q : ℕ) → fits (h ∷ hs) q ≡ true → q < h.label
label_above h hs q e = ltb-true q h.label (within_label (nat_lt h.made q) (nat_lt q h.label) (fits hs q) e)

arms_behind : (a m : ℕ) → a ≤ after_arms a m
arms_behind a zero = omega arith
arms_behind a (suc m) = omega (arith, arms_behind (suc a) m)

pub no_handler : (hs : List Handler) (ns : List Note) (bl : List Frame) → free hs ns bl ≡ true → hs ≡ []
no_handler [] ns bl e = refl
no_handler (h ∷ hs) ns bl e = cc

-- what a frame keeps where one noted place is taken off
kept_less : (hs : List Handler) (m : ℕ) → kept_noted hs < suc m → Kept hs (suc m) → Kept hs m
kept_less [] m h k = tt
kept_less (a ∷ hs) m h k = (omega (arith, h), k.1)

module _ (n w : ℕ) where
  only_low : (b : Bool) (s : State) (q : Step) → (b ≡ true → Low n w q) → Low n w (only_where b s q)
  only_low true s q f = f refl
  only_low false s q f = over n

  top_low : (st : List Val) (s : State) (go : Val → List Val → Step) → ((v : Val) (st : List Val) → Low n w (go v st)) →
      Low n w (on_top st s go)
  top_low [] s go f = over n
  top_low (v ∷ st) s go f = f v st

  two_low : (st : List Val) (s : State) (go : Val → Val → List Val → Step) → ((a b : Val) (st : List Val) → Low n w (go a b st)) →
      Low n w (on_two st s go)
  two_low [] s go f = over n
  two_low (b ∷ []) s go f = over n
  two_low (b ∷ a ∷ st) s go f = f a b st

  many_low : (m : ℕ) (st vs : List Val) (s : State) (go : List Val → List Val → Step) → ((vs st : List Val) → Low n w (go vs st)) →
      Low n w (on_many m st vs s go)
  many_low zero st vs s go f = f vs st
  many_low (suc m) [] vs s go f = over n
  many_low (suc m) (v ∷ st) vs s go f = many_low m st (v ∷ vs) s go f

  pub there_low : {A : Type 0} (x : Option A) (s : State) (go : A → Step) → ((x : A) → Low n w (go x)) → Low n w (on_there x s go)
  there_low None s go f = over n
  there_low (Some x) s go f = f x

  goes_low : (x : Who) (o : World) (s u : State) (g : Life) (ls st : List Val) (q : ℕ) (hs : List Handler) (bl : List Frame) →
      steps_weight n u + ((n + 1 - q) + (n + 2) * length g.noted) + frames_weight n bl + world_weight n o < w → Kept hs (length g.noted) →
      FramesAre bl → WorldIs o → Low n w (goes x o s u g ls st q hs bl)
  goes_low x o s u g ls st q hs bl h k a b = only_low (fits hs q) s _ (λ e. record { holds = (h, ((e, k), (a, b))) })

  faulting_low : (p : Option Place) (k : Error) (s : State) → Low n w (faulting p k s)
  faulting_low None k s = over n
  faulting_low (Some p) k s = over n

  handler_low : (hs : List Handler) (s : State) (m : ℕ) (go : Handler → List Handler → Step) → Kept hs m →
      ((h : Handler) (hs : List Handler) → Kept hs m → Low n w (go h hs)) → Low n w (on_handler hs s go)
  handler_low [] s m go k f = over n
  handler_low (h ∷ hs) s m go k f = f h hs (kept_more hs (length h.life.noted) m k.0 k.1)

  clean_low : (g : Life) (s : State) (q : Step) → Low n w q → Low n w (clean g s q)
  clean_low g s q l = only_low (nothing g.defers g.noted) s q (λ e. l)

  free_low : (hs : List Handler) (ns : List Note) (bl : List Frame) (s : State) (q : Step) → (hs ≡ [] → Low n w q) →
      Low n w (only_where (free hs ns bl) s q)
  free_low hs ns bl s q f = only_low (free hs ns bl) s q (λ e. f (no_handler hs ns bl e))

  domain_low : (v : Val) (s : State) (q : Step) → Low n w q → Low n w (on_domain v s q)
  domain_low unit s q l = over n
  domain_low falsity s q l = over n
  domain_low truth s q l = over n
  domain_low (int z) s q l = over n
  domain_low (char c) s q l = over n
  domain_low (enum a b) s q l = over n
  domain_low (object c) s q l = over n
  domain_low (event c) s q l = over n
  domain_low (task c) s q l = over n
  domain_low (some v) s q l = over n
  domain_low (array vs) s q l = l
  domain_low (mapping ps) s q l = l
  domain_low (tuple vs) s q l = over n

  int_low : (v : Val) (s : State) (q : Step) → Low n w q → Low n w (on_int v s q)
  int_low unit s q l = over n
  int_low falsity s q l = over n
  int_low truth s q l = over n
  int_low (int z) s q l = l
  int_low (char c) s q l = over n
  int_low (enum a b) s q l = over n
  int_low (object c) s q l = over n
  int_low (event c) s q l = over n
  int_low (task c) s q l = over n
  int_low (some v) s q l = over n
  int_low (array vs) s q l = over n
  int_low (mapping ps) s q l = over n
  int_low (tuple vs) s q l = over n

  -- a failure; in the frames below the one that runs, which is left
  below_low : (x : Who) (o : World) (s : State) (ls : List Val) (hs : List Handler) (bl : List Frame) (pc m : ℕ) →
      steps_weight n s + ((n + 1 - pc) + (n + 2) * m) + frames_weight n bl + world_weight n o < w →
      fits hs pc ≡ true → Kept hs m → FramesAre bl → WorldIs o → Low n w (failing x o s ls hs bl)
  below_low x o s ls (a ∷ hs) bl pc m h e k b c =
      goes_low x o s (restored a.memory s) a.life ls a.stack a.label hs bl (omega (
        arith,
        h,
        label_above a hs pc e,
        mul-le-mul_left (n +
            2) k.0,
      )) k.1 b c
  below_low x o s ls [] [] pc m h e k b c = over n
  below_low x o s ls [] (f ∷ bl) pc m h e k b c =
      below_low x o s f.locals f.handlers bl f.place (length f.life.noted) (omega (arith, h)) b.0.0 b.0.1 b.1 c

  failing_low : (x : Who) (o : World) (s : State) (ls : List Val) (hs : List Handler) (bl : List Frame) (pc m : ℕ) →
      steps_weight n s + ((n + 1 - pc) + (n + 2) * m) + frames_weight n bl + world_weight n o ≤ w → pc ≤ n →
      fits hs pc ≡ true → Kept hs m → FramesAre bl → WorldIs o → Low n w (failing x o s ls hs bl)
  failing_low x o s ls (a ∷ hs) bl pc m h le e k b c =
      goes_low x o s (restored a.memory s) a.life ls a.stack a.label hs bl (omega (
        arith,
        h,
        le,
        label_above a hs pc e,
        mul-le-mul_left (n
            + 2) k.0,
      )) k.1 b c
  failing_low x o s ls [] [] pc m h le e k b c = over n
  failing_low x o s ls [] (f ∷ bl) pc m h le e k b c =
      below_low x o s f.locals f.handlers bl f.place (length f.life.noted) (omega (arith, h, le)) b.0.0 b.0.1 b.1 c

-- where an operation stands
pub record Here (n : ℕ) (x : World) (g : Life) (pc : ℕ) (hs : List Handler) (bl : List Frame) : Type 0 where
  pub within : pc < n
  pub fit : fits hs pc ≡ true
  pub kept : Kept hs (length g.noted)
  pub below : FramesAre bl
  pub others : WorldIs x

-- what the machine weighs there
abbrev pub weight_at : ℕ → World → State → Life → ℕ → List Frame → ℕ
weight_at n x s g pc bl = steps_weight n s + ((n + 1 - pc) + (n + 2) * length g.noted) + frames_weight n bl + world_weight n x

module _ (n : ℕ) (y : Who) (x : World) (s : State) (g : Life) (pc : ℕ) (hs : List Handler) (bl : List Frame) (i : Here n x g pc hs bl) where
  abbrev pub Lower : Step → Type 0
  Lower q = Low n (weight_at n x s g pc bl) q

  steps_same : (u : State) → u.clock.left ≡ s.clock.left → steps_weight n u ≡ steps_weight n s
  steps_same u e = subst (λ z. z * (2 * n + 4) ≡ steps_weight n s) (sym e) refl

  -- to the next operation, or further on
  next_here : (u : State) (ls st : List Val) → u.clock.left ≡ s.clock.left → Lower (goes y x s u g ls st (suc pc) hs bl)
  next_here u ls st e = goes_low n _ y x s u g ls st (suc pc) hs bl (omega (arith, i.within, steps_same u e)) i.kept i.below i.others

  jump_here : (l : ℕ) (ls st : List Val) → pc < l → Lower (goes y x s s g ls st l hs bl)
  jump_here l ls st h = goes_low n _ y x s s g ls st l hs bl (omega (arith, i.within, h)) i.kept i.below i.others

  fails_here : (ls : List Val) → Lower (failing y x s ls hs bl)
  fails_here ls = failing_low n _ y x s ls hs bl pc (length g.noted) (omega arith) (omega (arith, i.within)) i.fit i.kept i.below i.others

  answered_here : (p : Option Place) (a : Effect) (ls st : List Val) → Keeps s a → Lower (answered p a y x s g ls st pc hs bl)
  answered_here p (gives v) ls st k = next_here v.1 ls (v.0 ∷ st) k
  answered_here p fails ls st k = fails_here ls
  answered_here p (error e) ls st k = only_low n _ (fits hs (suc pc)) s _ (λ t. faulting_low n _ p e s)
  answered_here p stuck ls st k = over n

  into_here : (p : Option Place) (l : ℕ) (a : Answer Val) (ls st : List Val) → Lower (answered_to p l a y x s g ls st pc hs bl)
  into_here p l (gives v) ls st = there_low n _ (put ls l v) s _ (λ ls. next_here s ls st refl)
  into_here p l fails ls st = fails_here ls
  into_here p l (error e) ls st = only_low n _ (fits hs (suc pc)) s _ (λ t. faulting_low n _ p e s)
  into_here p l stuck ls st = over n

  unary_here : (f : Val → Answer Val) (p : Option Place) (ls st : List Val) → Lower (unary f p y x s g ls st pc hs bl)
  unary_here f p ls st = top_low n _ st s _ (λ v st. answered_here p (still (f v) s) ls st (still_keeps (f v) s))

  binary_here : (f : Val → Val → Answer Val) (p : Option Place) (ls st : List Val) → Lower (binary f p y x s g ls st pc hs bl)
  binary_here f p ls st = two_low n _ st s _ (λ a b st. answered_here p (still (f a b) s) ls st (still_keeps (f a b) s))

  collects_here : (m : ℕ) (f : List Val → Answer Val) (p : Option Place) (ls st : List Val) → Lower (collects m f p y x s g ls st pc hs bl)
  collects_here m f p ls st = many_low n _ m st [] s _ (λ vs st. answered_here p (still (f vs) s) ls st (still_keeps (f vs) s))

  -- a call
  enters_here : (f : Func) (vs ls st : List Val) → Lower (only_where (fits hs (suc pc)) s (enters f vs y x s (frame g ls st (suc pc) hs ∷
      bl)))
  enters_here f vs ls st = only_low n _ (fits hs (suc pc)) s _ (λ t. spending_low n _ s.clock.left s _ (λ k e. record {
    holds = (omega (arith, i.within, e), ((refl, tt), (((t, i.kept), i.below), i.others)));
  }))

  -- the frame of a task that is suspended, or that starts another
  thread_here : (ls st : List Val) (q : ℕ) → hs ≡ [] → ThreadIs (thread y (frame g ls st q hs) bl)
  thread_here ls st q e = ((subst (λ z. fits z q ≡ true) (sym e) refl, i.kept), i.below)

  suspends_here : (c : Cause) (ls st : List Val) → hs ≡ [] → Lower (suspends c (thread y (frame g ls st (suc pc) hs) bl) x s)
  suspends_here c ls st e = suspends_low n _ c _ x s (omega (arith, i.within)) (thread_here ls st (suc pc) e) i.others

  awaits_here : (r : Option (Option Given)) (entry : ℕ) (ls st : List Val) → hs ≡ [] →
      Lower (awaits r entry (thread y (frame g ls st (suc pc) hs) bl) x s)
  awaits_here None entry ls st e = over n
  awaits_here (Some None) entry ls st e = suspends_here (done entry) ls st e
  awaits_here (Some (Some v)) entry ls st e =
      resumes_low n _ _ v.value x s (omega (arith, i.within)) (thread_here ls st (suc pc) e) i.others

  spawns_here : (f : Func) (vs ls st : List Val) → hs ≡ [] → Lower (spawns f vs (thread y (frame g ls st (suc pc) hs) bl) x s)
  spawns_here f vs ls st e = spending_low n _ s.clock.left s _ (λ k h. record {
    holds = (
      omega (arith, i.within, h),
      (
        (refl, tt),
        (
          tt,
          others tt tt (
            (thread_here ls st (suc pc) e, (i.others.pre, i.others.post)),
            i.others.ups,
          ) i.others.before i.others.behind,
        ),
      ),
    );
  })

  groups_here : (k : _) (p : Place) (ks : List ℕ) (m : ℕ) (ls st : List Val) → hs ≡ [] →
      Lower (groups k p ks (after_arms (suc pc) m) y x s g ls st hs bl)
  groups_here k p [] m ls st e = over n
  groups_here k p (l ∷ ks) m ls st e =
      next_low n _ k p [] (l ∷ ks) _ x.pre x.post x.ups x.trees s (λ z. Over ending.Stuck s) (omega (
        arith,
        i.within,
        arms_behind (suc pc)
            m,
      )) (thread_here ls st (after_arms (suc pc) m) e) (others i.others.pre i.others.post i.others.ups i.others.before
      i.others.behind)
      (λ r. over n)

  takes_here : (t : Taken) (l d label : ℕ) (ls st : List Val) → Lower (takes_step t l d label y x s g ls st pc hs bl)
  takes_here ended l d label ls st = next_here s ls st refl
  takes_here (takes v k m z) l d label ls st = only_low n _ (fits hs label) s _ (λ t. spending_low n _ s.clock.left s _ (λ u e.
      there_low n _ (put ls d v) s _ (λ ls. there_low n _ (put ls (suc d) k) s _ (λ ls. there_low n _ (put ls (l + m) z) s _ (λ ls. record {
        holds = (omega (arith, i.within, e), ((t, i.kept), (i.below, i.others)));
      })))))
  takes_here unfit l d label ls st = over n

  defer_here : (ds : List ℕ) (ls st : List Val) → Lower (on_defer ds s (λ q ds. only_where (fits hs q) s (spending s.clock.left s (Over
      ending.Steps s) (λ u.
      Next (machine y x u (record { born = g.born; defers = ds; noted = to pc ∷ g.noted }) ls st q hs bl)))))
  defer_here [] ls st = over n
  defer_here (q ∷ ds) ls st = only_low n _ (fits hs q) s _ (λ t. spending_low n _ s.clock.left s _ (λ k e. record {
    holds = (
      omega (arith, i.within, e, note_weight n (length g.noted)),
      (
        (
          t,
          kept_more hs (length g.noted) (suc (length g.noted)) (omega
              arith) i.kept,
        ),
        (i.below, i.others),
      ),
    );
  }))

  leaves_here : (b : Bool) (ls st : List Val) → Lower (leaves b y x s g ls st pc hs bl)
  leaves_here false ls st = next_here s ls st refl
  leaves_here true ls st = defer_here g.defers ls st

  note_here : (z : Note) (ns : List Note) (ls st : List Val) → length g.noted ≡ suc (length ns) → kept_noted hs < suc (length ns) →
      Lower (on_note z (λ q. goes y x s s (record g {
        noted =
            ns;
      }) ls st q hs bl) (clears_frames (λ s. cleared x.ups x.pre x.post x.trees s) y x s (frame (record g {
        noted =
            ns;
      }) ls st pc hs ∷ bl)))
  note_here (to q) ns ls st e h =
      goes_low n _ y x s s (record g { noted = ns }) ls st q hs bl (omega (arith, i.within, weight_of e, note_weight n (length ns)))
      (kept_less hs (length ns) h (subst (λ z. Kept hs z) e i.kept)) i.below i.others
    where
      weight_of : length g.noted ≡ suc (length ns) → (n + 2) * length g.noted ≡ (n + 2) * suc (length ns)
      weight_of e = subst (λ z. (n + 2) * z ≡ (n + 2) * suc (length ns)) (sym e) refl
  note_here gone ns ls st e h =
      frames_low n _ (λ s. cleared x.ups x.pre x.post x.trees s) y x s (frame (record g {
        noted =
            ns;
      }) ls st pc hs ∷ bl) (omega (
        arith,
        i.within,
        subst (λ z. (n + 2) * z ≡ (n + 2) * suc (length ns)) (sym e) refl,
        note_weight
            n (length ns),
      ))
      ((i.fit, kept_less hs (length ns) h (subst (λ z. Kept hs z) e i.kept)), i.below) i.others
      (cleared_low n _ x.ups x.pre x.post x.trees s (omega (arith, i.within)) i.others)

  noted_here : (ns : List Note) (ls st : List Val) → g.noted ≡ ns → kept_noted hs < length ns →
      Lower (on_noted ns s (λ z ns. on_note z (λ q. goes y x s s (record g {
        noted =
            ns;
      }) ls st q hs bl) (clears_frames (λ s. cleared x.ups x.pre x.post x.trees s) y x s (frame (record g {
        noted =
            ns;
      }) ls st pc hs ∷ bl))))
  noted_here [] ls st e h = over n
  noted_here (z ∷ ns) ls st e h = note_here z ns ls st (subst (λ m. length m ≡ suc (length ns)) (sym e) refl) h

  same_here : (b : Bool) (l : ℕ) (ls st : List Val) → pc < l → Lower (goes y x s s g ls st (cond b (suc pc) l) hs bl)
  same_here true l ls st h = next_here s ls st refl
  same_here false l ls st h = jump_here l ls st h

  pub act_low : (c : Code) (op : Op) (ls st : List Val) → all_suit (sizes_of c) pc (operands_of op) ≡ true →
      Lower (act c op y x s g ls st pc hs bl)
  act_low c (o.Int z) ls st v = next_here s ls (_ ∷ st) refl
  act_low c o.Unit ls st v = next_here s ls (_ ∷ st) refl
  act_low c o.False ls st v = next_here s ls (_ ∷ st) refl
  act_low c o.True ls st v = next_here s ls (_ ∷ st) refl
  act_low c (o.Char z) ls st v = next_here s ls (_ ∷ st) refl
  act_low c (o.Text t) ls st v = there_low n _ (slice_get c.texts t) s _ (λ b. next_here s ls (_ ∷ st) refl)
  act_low c (o.Enum a b) ls st v = next_here s ls (_ ∷ st) refl
  act_low c (o.Get l) ls st v = there_low n _ (nth ls l) s _ (λ a. next_here s ls (a ∷ st) refl)
  act_low c (o.Put l) ls st v = top_low n _ st s _ (λ a st. there_low n _ (put ls l a) s _ (λ ls. next_here s ls st refl))
  act_low c o.Drop ls st v = top_low n _ st s _ (λ a st. next_here s ls st refl)
  act_low c (o.Add p) ls st v = binary_here sum_of (place_at c p) ls st
  act_low c (o.Sub p) ls st v = binary_here difference_of (place_at c p) ls st
  act_low c (o.Mul p) ls st v = binary_here product_of (place_at c p) ls st
  act_low c (o.Neg p) ls st v = unary_here negation_of (place_at c p) ls st
  act_low c (o.Floor p) ls st v = binary_here floor_of (place_at c p) ls st
  act_low c (o.Ceil p) ls st v = binary_here ceil_of (place_at c p) ls st
  act_low c o.Mod ls st v = binary_here modulo_of None ls st
  act_low c (o.Concat p) ls st v = binary_here concat_of (place_at c p) ls st
  act_low c (o.Join m p) ls st v = collects_here m join_of (place_at c p) ls st
  act_low c o.Lt ls st v = binary_here less_of None ls st
  act_low c o.Le ls st v = binary_here at_most_of None ls st
  act_low c o.Gt ls st v = binary_here greater_of None ls st
  act_low c o.Ge ls st v = binary_here at_least_of None ls st
  act_low c o.Eq ls st v = binary_here equal_of None ls st
  act_low c o.Ne ls st v = binary_here unequal_of None ls st
  act_low c (o.Array m p) ls st v = collects_here m array_of (place_at c p) ls st
  act_low c (o.Map m p) ls st v = collects_here (m + m) (λ vs. map_of (paired vs)) (place_at c p) ls st
  act_low c (o.Tuple m p) ls st v = collects_here m tuple_of (place_at c p) ls st
  act_low c (o.Some p) ls st v = unary_here option_of (place_at c p) ls st
  act_low c o.Query ls st v = unary_here query_of None ls st
  act_low c (o.Item m) ls st v = unary_here (λ v. item_of v m) None ls st
  act_low c o.At ls st v = binary_here at_of None ls st
  act_low c o.Length ls st v = unary_here length_of None ls st
  act_low c (o.New p) ls st v = top_low n _ st s _ (λ a st. answered_here (place_at c p) (variable_made a s) ls st (added_keeps _ _ s))
  act_low c (o.Load m) ls st v = top_low n _ st s _ (λ a st. answered_here None (slot_read m a s) ls st (read_keeps m a s))
  act_low c (o.Store m j k p) ls st v =
      top_low n _ st s _ (λ a st. many_low n _ j st [] s _ (λ path st. top_low n _ st s _ (λ b st. answered_here (place_at c p)
      (slot_written m path (mode_of k) a b s) ls st (written_keeps m path (mode_of k) a b s))))
  act_low c (o.Object m p) ls st v =
      there_low n _ (slice_get c.classes m) s _ (λ (k : Class).
      many_low n _ k.slots st [] s _ (λ vs st. answered_here (place_at c p) (object_made m vs s) ls st (added_keeps _ _ s)))
  act_low c (o.Event p) ls st v = answered_here (place_at c p) (event_made s) ls st (added_keeps _ _ s)
  act_low c (o.Jump l) ls st v = jump_here l ls st (ltb-true pc l (and_first (nat_lt pc l) _ v))
  act_low c (o.Same l) ls st v = two_low n _ st s _ (λ a b st. same_here (val_eq a b) l ls st (ltb-true pc l (and_first (nat_lt pc l) _ v)))
  act_low c (o.Again l) ls st v =
      only_low n _ (fits hs l) s _ (λ t. spending_low n _ s.clock.left s _ (λ k e. record {
        holds =
            (omega (arith, i.within, e), ((t, i.kept), (i.below, i.others)));
      }))
  act_low c (o.Try l) ls st v =
      goes_low n _ y x s s g ls [] (suc pc) (record {
        made = pc;
        label = l;
        stack = st;
        memory = s.memory;
        life =
            g;
      } ∷ hs) bl (omega (arith, i.within)) (omega arith, i.kept) i.below i.others
  act_low c o.Commit ls st v =
      handler_low n _ hs s (length g.noted) _ i.kept (λ h hs k. goes_low n _ y x s s g ls _ (suc pc) hs bl (omega (arith, i.within)) k
      i.below i.others)
  act_low c o.Undo ls st v =
      handler_low n _ hs s (length g.noted) _ i.kept (λ h hs k. goes_low n _ y x s (restored h.memory s) g ls _ (suc pc) hs bl (omega
      (arith, i.within)) k i.below i.others)
  act_low c o.Fail ls st v = fails_here ls
  act_low c (o.Call m) ls st v =
      there_low n _ (slice_get c.functions m) s _ (λ (f : Func). many_low n _ f.params st [] s _ (λ vs st. enters_here f vs ls st))
  act_low c (o.Method m j) ls st v =
      many_low n _ j st [] s _ (λ vs st. top_low n _ st s _ (λ a st. there_low n _ (method_of c m j a s) s _ (λ f. enters_here f (a ∷ vs)
      ls st)))
  act_low c o.Return ls st v =
      top_low n _ st s _ (λ a st. clean_low n _ g s _ (returns_low n _ y x g.born a s hs bl (omega (arith, i.within)) i.below i.others))
  act_low c (o.Each l) ls st v =
      top_low n _ st s _ (λ a st. domain_low n _ a s _ (there_low n _ (put ls l a) s _ (λ ls. there_low n _ (put ls (suc l) (int (pos 0)))
      s _ (λ ls. next_here s ls st refl))))
  act_low c (o.Range l) ls st v =
      two_low n _ st s _ (λ a b st. int_low n _ a s _ (int_low n _ b s _ (there_low n _ (put ls l a) s _ (λ ls. there_low n _ (put ls (suc
      l) b) s _ (λ ls. next_here s ls st refl)))))
  act_low c (o.Take l d k) ls st v =
      there_low n _ (nth ls l) s _ (λ a. there_low n _ (nth ls (suc l)) s _ (λ b. there_low n _ (nth ls d) s _ (λ e. there_low n _ (nth ls
      (suc d)) s _ (λ z. takes_here (taken_from a b) l d k ls st))))
  act_low c (o.Append l p) ls st v =
      top_low n _ st s _ (λ a st. there_low n _ (nth ls l) s _ (λ b. into_here (place_at c p) l (append_of b a) ls st))
  act_low c (o.Print p) ls st v = top_low n _ st s _ (λ a st. answered_here (place_at c p) (line_printed a s) ls st (printed_keeps a s))
  act_low c (o.Sleep m) ls st v = free_low n _ hs g.noted bl s _ (λ e. suspends_here (after m s) ls st e)
  act_low c o.Forever ls st v = free_low n _ hs g.noted bl s _ (λ e. suspends_here never ls st e)
  act_low c o.AwaitTask ls st v =
      free_low n _ hs g.noted bl s _ (λ e. top_low n _ st s _ (λ a st. there_low n _ (task_of a) s _ (λ entry. awaits_here (nth
      s.clock.results entry) entry ls st e)))
  act_low c o.AwaitEvent ls st v =
      free_low n _ hs g.noted bl s _ (λ e. top_low n _ st s _ (λ a st. there_low n _ (event_of a s) s _ (λ b. suspends_here (heard b) ls
      st e)))
  act_low c o.Signal ls st v =
      free_low n _ hs g.noted bl s _ (λ e. two_low n _ st s _ (λ a b st. answered_here None (signal_sent (event_of a s) b s) ls st
      (sent_keeps (event_of a s) b s)))
  act_low c (o.Spawn m) ls st v =
      free_low n _ hs g.noted bl s _ (λ e. there_low n _ (slice_get c.functions m) s _ (λ (f : Func).
      many_low n _ f.params st [] s _ (λ vs st. spawns_here f vs ls st e)))
  act_low c (o.SpawnMethod m j) ls st v =
      free_low n _ hs g.noted bl s _ (λ e. many_low n _ j st [] s _ (λ vs st. top_low n _ st s _ (λ a st. there_low n _ (method_of c m j a
      s) s _ (λ f. spawns_here f (a ∷ vs) ls st e))))
  act_low c (o.Group k m p) ls st v =
      free_low n _ hs g.noted bl s _ (λ e. there_low n _ (place_at c p) s _ (λ q. there_low n _ (labels c.ops (suc pc) m) s _ (λ ks.
      groups_here (kind_of k) q ks m ls st e)))
  act_low c (o.Arm l) ls st v = over n
  act_low c (o.Branch l) ls st v =
      free_low n _ hs g.noted bl s _ (λ e. spending_low n _ s.clock.left s _ (λ k h. record {
        holds = (
          omega (arith, i.within, h),
          (
            (refl, tt),
            (
              tt,
              others i.others.pre i.others.post (thread_here ls st l e, i.others.ups)
                  i.others.before i.others.behind,
            ),
          ),
        );
      }))
  act_low c o.ArmEnd ls st v =
      top_low n _ st s _ (λ a st. clean_low n _ g s _ (ends_low n _ y x g.born a s hs bl (omega (arith, i.within)) i.others))
  act_low c (o.Defer l) ls st v =
      goes_low n _ y x s s _ ls st l hs bl (omega (arith, i.within, ltb-true pc l (and_first (nat_lt pc l) _ v))) i.kept i.below i.others
  act_low c (o.Leave m) ls st v =
      only_low n _ (not (ltn (length g.defers) m)) s _ (λ t. only_low n _ (not (ltn m (kept_defers hs))) s _ (λ t. leaves_here (ltn m
      (length g.defers)) ls st))
  act_low c o.DeferEnd ls st v =
      only_low n _ (ltn (kept_noted hs) (length g.noted)) s _ (λ t. noted_here g.noted ls st refl (ltn_is (kept_noted hs) (length g.noted)
      t))
