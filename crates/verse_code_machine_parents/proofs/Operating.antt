-- Each operation keeps that parents stand.
use Rattle.std.proofs.Common.{◌≡◌, ℕ, zero, suc, ◌≤◌, length, ◌+◌, List, [], ◌∷◌, Option, Some, None, Bool, true, false, refl, sym}
use Rattle.std.proofs.Common.{subst}
use Rattle.std.proofs.Common.{arith, ◌∙◌}
use Rattle.std.specs.Prelude.{pos, not, slice_get}
use Rattle.verse_base.specs.declared.places.Place.{Place}
use Rattle.verse_base.specs.declared.refusals.Kind.{Kind as Error}
use Rattle.verse_code.specs.declared.operations.Op.{Op}
use Rattle.verse_code.specs.declared.operations.Op.TheVariants as o
use Rattle.verse_code.specs.declared.codes.Func.{Func}
use Rattle.verse_code.specs.declared.codes.Class.{Class}
use Rattle.verse_code.specs.declared.codes.Code.{Code}
use Rattle.verse_value.specs.Val.{Val, unit, falsity, truth, int, char, enum, object, event, task, some, array, mapping, tuple}
use Rattle.verse_value.specs.Store.{Store}
use Rattle.verse_value.specs.Answer.{Answer, gives, fails, error, stuck}
use Rattle.verse_value.specs.Operations.{sum_of, difference_of, product_of, negation_of, floor_of, ceil_of, modulo_of, concat_of, join_of}
use Rattle.verse_value.specs.Operations.{less_of, at_most_of, greater_of, at_least_of, equal_of, unequal_of, array_of, map_of, tuple_of}
use Rattle.verse_value.specs.Operations.{option_of, query_of, item_of, at_of, length_of, append_of}
use Rattle.verse_value.specs.declared.runs.Ending.TheVariants as ending
use Rattle.verse_meaning_state.specs.State.{State, Given, spending, restored}
use Rattle.verse_meaning_state.specs.Waits.{never, done, heard, after, ltn, nth}
use Rattle.verse_meaning_state.specs.Effects.{Effect, still, variable_made, object_made, event_made, slot_read}
use Rattle.verse_meaning_state.specs.Effects.{slot_written, line_printed, event_of, task_of, signal_sent}
use Rattle.verse_meaning_state.proofs.Keeping.{Keeps, still_keeps, added_keeps, read_keeps, written_keeps}
use Rattle.verse_meaning_state.proofs.Keeping.{printed_keeps, sent_keeps}
use Rattle.verse_code_machine.specs.Tasks.{Life, Handler, Frame, Note, to, gone, Who, thread, Up, branching, World, world, Step}
use Rattle.verse_code_machine.specs.Tasks.{Next, Over, machine, life_from, child_named}
use Rattle.verse_code_machine.specs.Frames.{on_top, on_two, on_many, on_there, only_where, put, fits, goes, failing, faulting, answered}
use Rattle.verse_code_machine.specs.Frames.{answered_to, enters, method_of, free, nothing, kept_defers, kept_noted}
use Rattle.verse_code_machine.specs.Cancelling.{clears_frames}
use Rattle.verse_code_machine.specs.Ends.{cleared}
use Rattle.verse_code_machine.specs.Acts.{place_at, mode_of, kind_of, paired, Taken, ended, takes, unfit, taken_from, takes_step, on_domain}
use Rattle.verse_code_machine.specs.Acts.{on_int, awaits, spawns, labels, after_arms, groups, on_noted, on_defer, on_note, frame, unary}
use Rattle.verse_code_machine.specs.Acts.{binary}
use Rattle.verse_code_machine.specs.Acts.{collects, leaves, on_handler, act}
use Rattle.verse_code_machine_parents.specs.Parents.{rooted_no, rooted_root, HandlersBorn, HasGone, later_gone, AllGone}
use Rattle.verse_code_machine_parents.specs.Parents.{Closed, Marked, marked, marked_below, is_clearing, Framed, Still, WorldRooted}
use Rattle.verse_code_machine_parents.proofs.Lists.{no_both, rooted_less, child_beneath}
use Rattle.verse_code_machine_parents.proofs.Leaving.{Low, over, others_of, ups_less, trees_less, world_less, spending_low}
use Rattle.verse_code_machine_parents.proofs.Leaving.{one_less, reborn, not_clearing, Runs, runs_of, runs_world, still_resumes, Down}
use Rattle.verse_code_machine_parents.proofs.Leaving.{down_closed}
use Rattle.verse_code_machine_parents.proofs.Leaving.{down_marked, frames_low, child_runs, next_low, suspends_low, ends_low, returns_low}
use Rattle.verse_code_machine_parents.proofs.Leaving.{cleared_low}

only_low : (b : Bool) (s : State) (q : Step) → (b ≡ true → Low q) → Low (only_where b s q)
only_low true s q l = l refl
only_low false s q l = over

top_low : (st : List Val) (s : State) (go : Val → List Val → Step) → ((v : Val) (st : List Val) → Low (go v st)) → Low (on_top st s go)
top_low [] s go f = over
top_low (v ∷ st) s go f = f v st

two_low : (st : List Val) (s : State) (go : Val → Val → List Val → Step) → ((a b : Val) (st : List Val) → Low (go a b st)) →
    Low (on_two st s go)
two_low [] s go f = over
two_low (b ∷ []) s go f = over
two_low (b ∷ a ∷ st) s go f = f a b st

many_low : (m : ℕ) (st vs : List Val) (s : State) (go : List Val → List Val → Step) → ((ws st : List Val) → Low (go ws st)) →
    Low (on_many m st vs s go)
many_low zero st vs s go f = f vs st
many_low (suc m) [] vs s go f = over
many_low (suc m) (v ∷ st) vs s go f = many_low m st (v ∷ vs) s go f

pub there_low : {A : Type 0} (x : Option A) (s : State) (go : A → Step) → ((y : A) → Low (go y)) → Low (on_there x s go)
there_low None s go f = over
there_low (Some x) s go f = f x

faulting_low : (p : Option Place) (k : Error) (s : State) → Low (faulting p k s)
faulting_low None k s = over
faulting_low (Some p) k s = over

domain_low : (v : Val) (s : State) (q : Step) → Low q → Low (on_domain v s q)
domain_low unit s q l = over
domain_low falsity s q l = over
domain_low truth s q l = over
domain_low (int n) s q l = over
domain_low (char n) s q l = over
domain_low (enum a b) s q l = over
domain_low (object c) s q l = over
domain_low (event n) s q l = over
domain_low (task n) s q l = over
domain_low (some w) s q l = over
domain_low (array vs) s q l = l
domain_low (mapping ps) s q l = l
domain_low (tuple vs) s q l = over

int_low : (v : Val) (s : State) (q : Step) → Low q → Low (on_int v s q)
int_low unit s q l = over
int_low falsity s q l = over
int_low truth s q l = over
int_low (int n) s q l = l
int_low (char n) s q l = over
int_low (enum a b) s q l = over
int_low (object c) s q l = over
int_low (event n) s q l = over
int_low (task n) s q l = over
int_low (some w) s q l = over
int_low (array vs) s q l = over
int_low (mapping ps) s q l = over
int_low (tuple vs) s q l = over

none_noted : (ds : List ℕ) (ns : List Note) → nothing ds ns ≡ true → ns ≡ []
none_noted [] [] e = refl
none_noted [] (y ∷ ns) e = no_both (sym e)
none_noted (d ∷ ds) ns e = no_both (sym e)

-- a mark stays where what is noted stays
mark_with : {g h : Life} {hs ks : List Handler} {fs : List Frame} → (HasGone g.noted → AllGone hs → HasGone h.noted × AllGone ks) →
    Marked g hs fs → Marked h ks fs
mark_with {g = g} {h = h} {hs = hs} {ks = ks} {fs = fs} f (marked a b c) = both (f a b)
  where
    both : HasGone h.noted × AllGone ks → Marked h ks fs
    both r = marked r.0 r.1 c
mark_with f (marked_below m) = marked_below m

mark_down : {g : Life} {hs : List Handler} {fs : List Frame} → Marked g hs fs → Down fs
mark_down (marked a b c) = down_closed c
mark_down (marked_below m) = down_marked m

frame_with : {w : Who} {us : List Up} (g h : Life) (hs ks : List Handler) (fs : List Frame) →
    (HandlersBorn g.born hs → (h.born ≡ g.born) × HandlersBorn g.born ks) → (HasGone g.noted → AllGone hs → HasGone h.noted × AllGone ks) →
    Framed w us g hs fs → Framed w us h ks fs
frame_with {w = w} g h hs ks fs b f r = record {
  born = reborn w.number g h hs ks fs b r.born;
  mark = λ e. mark_with f (r.mark e);
}

gone_behind_to : {q : ℕ} {ns : List Note} → HasGone (to q ∷ ns) → HasGone ns
gone_behind_to (later_gone h) = h

-- no failure is taken where no Try is open
failing_closed : (w : Who) (o : World) (s : State) (ls : List Val) (hs : List Handler) (bl : List Frame) → hs ≡ [] → Closed bl →
    Low (failing w o s ls hs bl)
failing_closed w o s ls (h ∷ hs) bl e c = some_and_none e
  where
    some_and_none : {A : Type 0} → h ∷ hs ≡ [] → A
    some_and_none e = cc
failing_closed w o s ls [] [] e c = over
failing_closed w o s ls [] (f ∷ bl) e c = failing_closed w o s f.locals f.handlers bl c.0 c.1

failing_low : (w : Who) (o : World) (s : State) (g : Life) (ls : List Val) (hs : List Handler) (bl : List Frame) → Framed w o.ups g hs bl →
    WorldRooted s.clock.left w o → Low (failing w o s ls hs bl)
failing_low w o s g ls (h ∷ hs) bl k i = only_low (fits hs h.label) s _ (λ e. record {
  holds = record {
    frames = frame_with g h.life (h ∷ hs) hs bl (λ b. b) (λ a b. b) k;
    world = i;
  };
})
failing_low w o s g ls [] [] k i = over
failing_low w o s g ls [] (f ∷ bl) k i =
    falls (is_clearing o.ups) refl (λ q. failing_low w o s f.life f.locals f.handlers bl q i)
  where
    by_mark : Marked g [] (f ∷ bl) → (Framed w o.ups f.life f.handlers bl → Low (failing w o s f.locals f.handlers bl)) →
        Low (failing w o s f.locals f.handlers bl)
    by_mark (marked a b c) go = failing_closed w o s f.locals f.handlers bl c.0 c.1
    by_mark (marked_below m) go = go (record { born = k.born; mark = λ e. m })

    falls : (b : Bool) → is_clearing o.ups ≡ b → (Framed w o.ups f.life f.handlers bl → Low (failing w o s f.locals f.handlers bl)) →
        Low (failing w o s f.locals f.handlers bl)
    falls false e go = go (record { born = k.born; mark = λ h. no_both (sym h ∙ e) })
    falls true e go = by_mark (k.mark e) go

module _ (y : Who) (x : World) (s : State) (g : Life) (pc : ℕ) (hs : List Handler) (bl : List Frame) (k : Framed y x.ups g hs bl)
    (i : WorldRooted s.clock.left y x) where
  world_now : (u : State) → u.clock.left ≡ s.clock.left → WorldRooted u.clock.left y x
  world_now u t = subst (λ n. WorldRooted n y x) (sym t) i

  goes_to : (u : State) (h : Life) (ls st : List Val) (q : ℕ) (ks : List Handler) → Framed y x.ups h ks bl → u.clock.left ≡ s.clock.left →
      Low (goes y x s u h ls st q ks bl)
  goes_to u h ls st q ks f t = only_low (fits ks q) s _ (λ e. record { holds = record { frames = f; world = world_now u t } })

  goes_here : (u : State) (ls st : List Val) (q : ℕ) → u.clock.left ≡ s.clock.left → Low (goes y x s u g ls st q hs bl)
  goes_here u ls st q t = goes_to u g ls st q hs k t

  answered_here : (p : Option Place) (a : Effect) (ls st : List Val) → Keeps s a → Low (answered p a y x s g ls st pc hs bl)
  answered_here p (gives v) ls st t = goes_here v.1 ls (v.0 ∷ st) (suc pc) t
  answered_here p fails ls st t = failing_low y x s g ls hs bl k i
  answered_here p (error e) ls st t = only_low (fits hs (suc pc)) s _ (λ h. faulting_low p e s)
  answered_here p stuck ls st t = over

  into_here : (p : Option Place) (l : ℕ) (a : Answer Val) (ls st : List Val) → Low (answered_to p l a y x s g ls st pc hs bl)
  into_here p l (gives v) ls st = there_low (put ls l v) s _ (λ ls. goes_here s ls st (suc pc) refl)
  into_here p l fails ls st = failing_low y x s g ls hs bl k i
  into_here p l (error e) ls st = only_low (fits hs (suc pc)) s _ (λ h. faulting_low p e s)
  into_here p l stuck ls st = over

  unary_here : (f : Val → Answer Val) (p : Option Place) (ls st : List Val) → Low (unary f p y x s g ls st pc hs bl)
  unary_here f p ls st = top_low st s _ (λ v st. answered_here p (still (f v) s) ls st (still_keeps (f v) s))

  binary_here : (f : Val → Val → Answer Val) (p : Option Place) (ls st : List Val) → Low (binary f p y x s g ls st pc hs bl)
  binary_here f p ls st = two_low st s _ (λ a c st. answered_here p (still (f a c) s) ls st (still_keeps (f a c) s))

  collects_here : (m : ℕ) (f : List Val → Answer Val) (p : Option Place) (ls st : List Val) → Low (collects m f p y x s g ls st pc hs bl)
  collects_here m f p ls st = many_low m st [] s _ (λ vs st. answered_here p (still (f vs) s) ls st (still_keeps (f vs) s))

  enters_here : (f : Func) (vs ls st : List Val) → Low (only_where (fits hs (suc pc)) s (enters f vs y x s (frame g ls st (suc pc) hs ∷
      bl)))
  enters_here f vs ls st = only_low (fits hs (suc pc)) s _ (λ h. spending_low s.clock.left s _ (λ l e. record {
    holds = record {
      frames = record { born = k.born; mark = λ e. marked_below (k.mark e) };
      world = world_less (one_less e) i;
    };
  }))

  -- where no Try is open and nothing is noted, the task is not cancelled and may wait
  runs_here : free hs g.noted bl ≡ true → Runs s.clock.left y x.pre x.post x.ups x.trees
  runs_here e = runs_of (not_clearing k e) i.tree (others_of i)

  still_here : (ls st : List Val) (q : ℕ) → free hs g.noted bl ≡ true → Still (thread y (frame g ls st q hs) bl)
  still_here ls st q e = record { born = k.born; free = e }

  suspends_here : (c : _) (ls st : List Val) → free hs g.noted bl ≡ true →
      Low (Rattle.verse_code_machine.specs.Ends.suspends c (thread y (frame g ls st (suc pc) hs) bl) x s)
  suspends_here c ls st e =
      suspends_low c (thread y (frame g ls st (suc pc) hs) bl) x.pre x.post x.ups x.trees s (still_here ls st (suc pc) e) (runs_here e)

  awaits_here : (r : Option (Option Given)) (entry : ℕ) (ls st : List Val) → free hs g.noted bl ≡ true →
      Low (awaits r entry (thread y (frame g ls st (suc pc) hs) bl) x s)
  awaits_here None entry ls st e = over
  awaits_here (Some None) entry ls st e = suspends_here (done entry) ls st e
  awaits_here (Some (Some v)) entry ls st e =
      still_resumes (thread y (frame g ls st (suc pc) hs) bl) v.value x.pre x.post x.ups x.trees s (still_here ls st (suc pc) e)
      (runs_here e)

  spawns_here : (f : Func) (vs ls st : List Val) → free hs g.noted bl ≡ true →
      Low (spawns f vs (thread y (frame g ls st (suc pc) hs) bl) x s)
  spawns_here f vs ls st e = spending_low s.clock.left s _ (λ l h. record {
    holds = record {
      frames = record { born = (refl, tt); mark = λ e. no_both (sym e) };
      world = runs_world (record {
        list = rooted_root refl refl (same l) rooted_no;
        follow = tt;
        ups = (
          still_here ls st (suc pc) e,
          (i.pre, i.post),
          (rooted_less (one_less h) (runs_here e).list, (runs_here e).follow),
          ups_less x.ups
              (one_less h) (runs_here e).ups,
        );
        others = record {
          pre_still = tt;
          post_still = tt;
          before = trees_less x.trees.before (one_less h) i.before;
          behind = trees_less x.trees.behind (one_less h) i.behind;
        };
      });
    };
  })
    where
      same : (n : ℕ) → n ≤ n
      same n = omega arith

  branches_here : (l : ℕ) (ls st : List Val) → free hs g.noted bl ≡ true → Low (spending s.clock.left s (Over ending.Steps s) (λ u. Next
      (machine (child_named y u.clock.left) (world x.pre x.post (branching (thread y (frame g ls st l hs) bl) ∷ x.ups) x.trees) u (life_from
      u.clock.left) ls [] (suc pc) [] [])))
  branches_here l ls st e = spending_low s.clock.left s _ (λ m h. record {
    holds = record {
      frames = record { born = (refl, tt); mark = λ e. no_both (sym e) };
      world = runs_world (child_runs (thread y (frame g ls st l hs) bl) (branching (thread y (frame g ls st l hs) bl)) h (λ ws. refl) (
        refl,
        child_beneath y.path m,
        (runs_here e).follow,
      ) (still_here ls st l e, ups_less x.ups (one_less h) (runs_here e).ups) (runs_here e));
    };
  })

  groups_here : (kd : _) (p : Place) (ks : List ℕ) (q : ℕ) (ls st : List Val) → free hs g.noted bl ≡ true →
      Low (groups kd p ks q y x s g ls st hs bl)
  groups_here kd p [] q ls st e = over
  groups_here kd p (l ∷ ks) q ls st e =
      next_low kd p [] (l ∷ ks) (thread y (frame g ls st q hs) bl) x.pre x.post x.ups x.trees s (λ t. Over ending.Stuck s)
      (still_here ls st q e) (runs_here e) (λ r. over)

  takes_here : (t : Taken) (l d label : ℕ) (ls st : List Val) → Low (takes_step t l d label y x s g ls st pc hs bl)
  takes_here ended l d label ls st = goes_here s ls st (suc pc) refl
  takes_here (takes v w m a) l d label ls st = only_low (fits hs label) s _ (λ h. spending_low s.clock.left s _ (λ u e.
      there_low (put ls d v) s _ (λ ls. there_low (put ls (suc d) w) s _ (λ ls. there_low (put ls (l + m) a) s _ (λ ls. record {
        holds = record { frames = k; world = world_less (one_less e) i };
      })))))
  takes_here unfit l d label ls st = over

  leaves_here : (c : Bool) (ls st : List Val) → Low (leaves c y x s g ls st pc hs bl)
  leaves_here false ls st = goes_here s ls st (suc pc) refl
  leaves_here true ls st = defer_here g.defers
    where
      defer_here : (ds : List ℕ) → Low (on_defer ds s (λ q ds. only_where (fits hs q) s (spending s.clock.left s (Over ending.Steps s)
          (λ u.
          Next (machine y x u (record { born = g.born; defers = ds; noted = to pc ∷ g.noted }) ls st q hs bl)))))
      defer_here [] = over
      defer_here (q ∷ ds) = only_low (fits hs q) s _ (λ h. spending_low s.clock.left s _ (λ l e. record {
        holds = record {
          frames = frame_with g _ hs hs bl (λ b. (refl, b)) (λ a b. (later_gone a, b)) k;
          world = world_less (one_less e) i;
        };
      }))

  note_here : (t : Note) (ns : List Note) (ls st : List Val) → g.noted ≡ t ∷ ns →
      Low (on_note t (λ q. goes y x s s (record g {
        noted =
            ns;
      }) ls st q hs bl) (clears_frames (λ s. cleared x.ups x.pre x.post x.trees s) y x s (frame (record g {
        noted =
            ns;
      }) ls st pc hs ∷ bl)))
  note_here (to q) ns ls st e =
      goes_to s (record g { noted = ns }) ls st q hs (frame_with g _ hs hs bl (λ b. (refl, b)) (λ a b. (
        gone_behind_to (subst HasGone e a),
        b,
      )) k) refl
  note_here gone ns ls st e =
      frames_low (λ s. cleared x.ups x.pre x.post x.trees s) y x s (frame (record g {
        noted =
            ns;
      }) ls st pc hs ∷ bl) (reborn y.number g _ hs hs bl (λ b. (refl, b)) k.born) (λ h. mark_down (k.mark h)) i (cleared_low x.ups x.pre
      x.post x.trees s i.tree (others_of i))

  noted_here : (ns : List Note) (ls st : List Val) → g.noted ≡ ns →
      Low (on_noted ns s (λ t ns. on_note t (λ q. goes y x s s (record g {
        noted =
            ns;
      }) ls st q hs bl) (clears_frames (λ s. cleared x.ups x.pre x.post x.trees s) y x s (frame (record g {
        noted =
            ns;
      }) ls st pc hs ∷ bl))))
  noted_here [] ls st e = over
  noted_here (t ∷ ns) ls st e = note_here t ns ls st e

  handler_here : (hs : List Handler) (go : Handler → List Handler → Step) → Framed y x.ups g hs bl → ((h : Handler) (hs : List Handler) →
      Framed y x.ups g hs bl → Low (go h hs)) → Low (on_handler hs s go)
  handler_here [] go k f = over
  handler_here (h ∷ hs) go k f = f h hs (frame_with g g (h ∷ hs) hs bl (λ b. (refl, b.1)) (λ a b. (a, b.1)) k)

  pub act_low : (c : Code) (op : Op) (ls st : List Val) → Low (act c op y x s g ls st pc hs bl)
  act_low c (o.Int n) ls st = goes_here s ls (_ ∷ st) (suc pc) refl
  act_low c o.Unit ls st = goes_here s ls (_ ∷ st) (suc pc) refl
  act_low c o.False ls st = goes_here s ls (_ ∷ st) (suc pc) refl
  act_low c o.True ls st = goes_here s ls (_ ∷ st) (suc pc) refl
  act_low c (o.Char n) ls st = goes_here s ls (_ ∷ st) (suc pc) refl
  act_low c (o.Text t) ls st = there_low (slice_get c.texts t) s _ (λ a. goes_here s ls (_ ∷ st) (suc pc) refl)
  act_low c (o.Enum n m) ls st = goes_here s ls (_ ∷ st) (suc pc) refl
  act_low c (o.Get l) ls st = there_low (nth ls l) s _ (λ a. goes_here s ls (a ∷ st) (suc pc) refl)
  act_low c (o.Put l) ls st = top_low st s _ (λ a st. there_low (put ls l a) s _ (λ ls. goes_here s ls st (suc pc) refl))
  act_low c o.Drop ls st = top_low st s _ (λ a st. goes_here s ls st (suc pc) refl)
  act_low c (o.Add p) ls st = binary_here sum_of (place_at c p) ls st
  act_low c (o.Sub p) ls st = binary_here difference_of (place_at c p) ls st
  act_low c (o.Mul p) ls st = binary_here product_of (place_at c p) ls st
  act_low c (o.Neg p) ls st = unary_here negation_of (place_at c p) ls st
  act_low c (o.Floor p) ls st = binary_here floor_of (place_at c p) ls st
  act_low c (o.Ceil p) ls st = binary_here ceil_of (place_at c p) ls st
  act_low c o.Mod ls st = binary_here modulo_of None ls st
  act_low c (o.Concat p) ls st = binary_here concat_of (place_at c p) ls st
  act_low c (o.Join m p) ls st = collects_here m join_of (place_at c p) ls st
  act_low c o.Lt ls st = binary_here less_of None ls st
  act_low c o.Le ls st = binary_here at_most_of None ls st
  act_low c o.Gt ls st = binary_here greater_of None ls st
  act_low c o.Ge ls st = binary_here at_least_of None ls st
  act_low c o.Eq ls st = binary_here equal_of None ls st
  act_low c o.Ne ls st = binary_here unequal_of None ls st
  act_low c (o.Array m p) ls st = collects_here m array_of (place_at c p) ls st
  act_low c (o.Map m p) ls st = collects_here (m + m) (λ vs. map_of (paired vs)) (place_at c p) ls st
  act_low c (o.Tuple m p) ls st = collects_here m tuple_of (place_at c p) ls st
  act_low c (o.Some p) ls st = unary_here option_of (place_at c p) ls st
  act_low c o.Query ls st = unary_here query_of None ls st
  act_low c (o.Item m) ls st = unary_here (λ v. item_of v m) None ls st
  act_low c o.At ls st = binary_here at_of None ls st
  act_low c o.Length ls st = unary_here length_of None ls st
  act_low c (o.New p) ls st =
      top_low st s _ (λ a st. answered_here (place_at c p) (variable_made a s) ls st (added_keeps _ _ s))
  act_low c (o.Load m) ls st = top_low st s _ (λ a st. answered_here None (slot_read m a s) ls st (read_keeps m a s))
  act_low c (o.Store m j kd p) ls st =
      top_low st s _ (λ a st. many_low j st [] s _ (λ path st. top_low st s _ (λ w st. answered_here (place_at c p) (slot_written m path
      (mode_of kd) a w s) ls st (written_keeps m path (mode_of kd) a w s))))
  act_low c (o.Object m p) ls st =
      there_low (slice_get c.classes m) s _ (λ (q : Class). many_low q.slots st [] s _ (λ vs st. answered_here (place_at c p) (object_made
      m vs s) ls st (added_keeps _ _ s)))
  act_low c (o.Event p) ls st = answered_here (place_at c p) (event_made s) ls st (added_keeps _ _ s)
  act_low c (o.Jump l) ls st = goes_here s ls st l refl
  act_low c (o.Same l) ls st = two_low st s _ (λ a d st. goes_here s ls st _ refl)
  act_low c (o.Again l) ls st =
      only_low (fits hs l) s _ (λ h. spending_low s.clock.left s _ (λ u e. record {
        holds = record { frames = k; world = world_less (one_less e) i };
      }))
  act_low c (o.Try l) ls st =
      goes_to s g ls [] (suc pc) (record {
        made = pc;
        label = l;
        stack = st;
        memory = s.memory;
        life =
            g;
      } ∷ hs) (frame_with g g hs (record { made = pc; label = l; stack = st; memory = s.memory; life = g } ∷ hs) bl (λ b. (refl, (refl, b)))
      (λ a b. (a, (a, b))) k) refl
  act_low c o.Commit ls st = handler_here hs _ k (λ h hs k. goes_to s g ls _ (suc pc) hs k refl)
  act_low c o.Undo ls st = handler_here hs _ k (λ h hs k. goes_to (restored h.memory s) g ls _ (suc pc) hs k refl)
  act_low c o.Fail ls st = failing_low y x s g ls hs bl k i
  act_low c (o.Call m) ls st =
      there_low (slice_get c.functions m) s _ (λ (q : Func). many_low q.params st [] s _ (λ vs st. enters_here q vs ls st))
  act_low c (o.Method m j) ls st =
      many_low j st [] s _ (λ vs st. top_low st s _ (λ a st. there_low (method_of c m j a s) s _ (λ q. enters_here q (a ∷ vs) ls st)))
  act_low c o.Return ls st =
      top_low st s _ (λ a st. only_low (nothing g.defers g.noted) s _
      (λ e. returns_low y x g a s hs bl k (none_noted g.defers g.noted e) i))
  act_low c (o.Each l) ls st =
      top_low st s _ (λ a st. domain_low a s _ (there_low (put ls l a) s _ (λ ls. there_low (put ls (suc l) (int (pos 0))) s _ (λ ls.
      goes_here s ls st (suc pc) refl))))
  act_low c (o.Range l) ls st =
      two_low st s _ (λ a d st. int_low a s _ (int_low d s _ (there_low (put ls l a) s _ (λ ls. there_low (put ls (suc l) d) s _ (λ ls.
      goes_here s ls st (suc pc) refl)))))
  act_low c (o.Take l d m) ls st =
      there_low (nth ls l) s _ (λ a. there_low (nth ls (suc l)) s _ (λ w. there_low (nth ls d) s _ (λ q. there_low (nth ls (suc d)) s _ (λ
      r. takes_here (taken_from a w) l d m ls st))))
  act_low c (o.Append l p) ls st =
      top_low st s _ (λ a st. there_low (nth ls l) s _ (λ w. into_here (place_at c p) l (append_of w a) ls st))
  act_low c (o.Print p) ls st =
      top_low st s _ (λ a st. answered_here (place_at c p) (line_printed a s) ls st (printed_keeps a s))
  act_low c (o.Sleep m) ls st = only_low (free hs g.noted bl) s _ (λ e. suspends_here (after m s) ls st e)
  act_low c o.Forever ls st = only_low (free hs g.noted bl) s _ (λ e. suspends_here never ls st e)
  act_low c o.AwaitTask ls st =
      only_low (free hs g.noted bl) s _ (λ e. top_low st s _ (λ a st. there_low (task_of a) s _ (λ entry. awaits_here (nth s.clock.results
      entry) entry ls st e)))
  act_low c o.AwaitEvent ls st =
      only_low (free hs g.noted bl) s _ (λ e. top_low st s _ (λ a st. there_low (event_of a s) s _ (λ w. suspends_here (heard w) ls st e)))
  act_low c o.Signal ls st =
      only_low (free hs g.noted bl) s _ (λ e. two_low st s _ (λ a w st. answered_here None (signal_sent (event_of a s) w s) ls st
      (sent_keeps (event_of a s) w s)))
  act_low c (o.Spawn m) ls st =
      only_low (free hs g.noted bl) s _ (λ e. there_low (slice_get c.functions m) s _ (λ (q : Func). many_low q.params st [] s _ (λ vs st.
      spawns_here q vs ls st e)))
  act_low c (o.SpawnMethod m j) ls st =
      only_low (free hs g.noted bl) s _ (λ e. many_low j st [] s _ (λ vs st. top_low st s _ (λ a st. there_low (method_of c m j a s) s _ (λ
      q. spawns_here q (a ∷ vs) ls st e))))
  act_low c (o.Group kd m p) ls st =
      only_low (free hs g.noted bl) s _ (λ e. there_low (place_at c p) s _ (λ q. there_low (labels c.ops (suc pc) m) s _ (λ ks. groups_here
      (kind_of kd) q ks (after_arms (suc pc) m) ls st e)))
  act_low c (o.Arm l) ls st = over
  act_low c (o.Branch l) ls st = only_low (free hs g.noted bl) s _ (λ e. branches_here l ls st e)
  act_low c o.ArmEnd ls st =
      top_low st s _ (λ a st. only_low (nothing g.defers g.noted) s _ (λ e. ends_low y x g a s hs bl k (none_noted g.defers g.noted e) i))
  act_low c (o.Defer l) ls st =
      goes_to s _ ls st l hs (frame_with g _ hs hs bl (λ b. (refl, b)) (λ a b. (a, b)) k) refl
  act_low c (o.Leave m) ls st =
      only_low (not (ltn (length g.defers) m)) s _ (λ e. only_low (not (ltn m (kept_defers hs))) s _ (λ h. leaves_here (ltn m (length
      g.defers)) ls st))
  act_low c o.DeferEnd ls st =
      only_low (ltn (kept_noted hs) (length g.noted)) s _ (λ e. noted_here g.noted ls st refl)
