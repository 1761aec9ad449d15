-- One cancelled task after the other.
use Rattle.std.proofs.Common.{◌≡◌, ◌≢◌, ◌≤◌, ◌+◌, ℕ, List, [], ◌∷◌, ◌++◌, map, reverse, refl, sym, ap, subst, ◌∙◌}
use Rattle.std.proofs.Common.{Bool, true, false, cond, append_assoc}
use Rattle.std.specs.Global.{Vec}
use Rattle.std.proofs.lemmas.List.{reverse-append, append-nil}
use Rattle.verse_value.specs.declared.runs.Ending.{Ending}
use Rattle.verse_meaning_state.specs.State.{State}
use Rattle.verse_code_machine.specs.Tasks as m
use Rattle.verse_code_machine.specs.Tasks.{Frame, Who, clearing, World, world, Step, Over}
use Rattle.verse_code_machine.specs.Cancelling.{on_deferred, clears_frame, clears_frames, clears}
use Rattle.vm_frames.specs.Framed.{Framed}
use Rattle.vm_frames.specs.Machine.{frames_with}
use Rattle.vm_running.specs.Views.{View, Aside, state_of}
use Rattle.vm_tasks.specs.Deferring.{is_some, any_defers, task_defers, deferring}
use Rattle.vm_scheduler.specs.declared.tasks.Tasks.{Tasks}
use Rattle.vm_scheduler.specs.declared.tasks.Went.{Went}
use Rattle.vm_scheduler.specs.declared.tasks.Went.TheVariants as went
use Rattle.vm_scheduler.specs.Frames.{parted, frames_in, Unguarded, AllUnguarded}
use Rattle.vm_scheduler.specs.Standing.{Bare}
use Rattle.vm_scheduler.specs.Going.{frames_at}
use Rattle.vm_cancel.specs.Clears.{ClearsFrames, AllTo, ClearsAll}

pub all_but : (fss : List (List Framed)) (fs : List Framed) → AllUnguarded (fss ++ fs ∷ []) → AllUnguarded fss × Unguarded fs
all_but [] fs u = (tt, u.0)
all_but (gs ∷ fss) fs u = let k = all_but fss fs u.1 in ((u.0, k.0), k.1)

last_first : (fss : List (List Framed)) (fs : List Framed) →
    map frames_in (reverse (fss ++ fs ∷ [])) ≡ frames_in fs ∷ map frames_in (reverse fss)
last_first fss fs = ap (λ z. map frames_in z) (reverse-append fss (fs ∷ []))

-- none of them has a deferred block
abbrev pub AllStill : List m.Task → Type 0
AllStill [] = Unit {0}
AllStill (t ∷ ts) = (task_defers t ≡ false) × AllStill ts

-- the frames of the next one that has
record Next (fs : List Framed) (rest : List (List Framed)) (todo : List m.Task) : Type 0 where
  before : List m.Task
  it : m.Task
  later : List m.Task
  is : todo ≡ before ++ it ∷ later
  -- those before it have no deferred blocks
  still : AllStill before
  frames : it.thread.frame ∷ it.thread.below ≡ frames_with fs []
  later_is : map frames_in (reverse rest) ≡ map frames_at (deferring later)

both : (fs : List Frame) (t : m.Task) → fs ≢ [] → parted fs ≡ frames_at t → t.thread.frame ∷ t.thread.below ≡ fs
both [] t some e = absurd (some refl)
both (f ∷ fs) t some e = sym (ap (λ (p : Frame × List Frame). p.0 ∷ p.1) e)

some_with : (fs : List Framed) → fs ≢ [] → frames_with fs [] ≢ []
some_with [] some e = some refl
some_with (f ∷ fs) some e = absurd (cc)

-- frames without deferred blocks go at once
still_frames : (next : State → Step) (w : Who) (o : World) (s : State) (fs : List Frame) → any_defers fs ≡ false →
    clears_frames next w o s fs ≡ next s
still_frames next w o s [] e = refl
still_frames next w o s (f ∷ fs) e = by_defers f.life.defers e (λ h. still_frames next w o s fs h)
  where
    by_defers : (ds : List ℕ) → cond (is_some ds) true (any_defers fs) ≡ false →
        (any_defers fs ≡ false → clears_frames next w o s fs ≡ next s) →
        on_deferred ds (clears_frames next w o s fs) (λ q ds. clears_frame w o s f fs q ds) ≡ next s
    by_defers [] e later = later e
    by_defers (d ∷ ds) e later = absurd (cc)

-- and so do tasks
pub all_still : (last : World → State → Step) (after : m.After) (ts todo : List m.Task) (o : World) (s : State) → AllStill ts →
    clears last after (ts ++ todo) o s ≡ clears last after todo o s
all_still last after [] todo o s a = refl
all_still last after (t ∷ ts) todo o s a =
    still_frames (λ s. clears last after (ts ++ todo) o s) t.thread.who (world o.pre o.post (clearing after (ts ++ todo) ∷ o.ups) o.trees) s
    (t.thread.frame ∷ t.thread.below) a.0 ∙ all_still last after ts todo o s a.1

next_of : (fs : List Framed) (rest : List (List Framed)) (todo : List m.Task) → Unguarded fs →
    map frames_in (reverse (rest ++ fs ∷ [])) ≡ map frames_at (deferring todo) → Next fs rest todo
next_of fs rest [] u e = let none : frames_in fs ∷ map frames_in (reverse rest) ≡ [] = sym (last_first rest fs) ∙ e in absurd (cc)
next_of fs rest (t ∷ ts) u e = by_test (task_defers t) refl e (λ h. next_of fs rest ts u h)
  where
    by_test : (b : Bool) → task_defers t ≡ b →
        map frames_in (reverse (rest ++ fs ∷ [])) ≡ map frames_at (cond b (t ∷ deferring ts) (deferring ts)) →
        (map frames_in (reverse (rest ++ fs ∷ [])) ≡ map frames_at (deferring ts) → Next fs rest ts) → Next fs rest (t ∷ ts)
    by_test true is e more =
        let all : frames_in fs ∷ map frames_in (reverse rest) ≡ frames_at t ∷ map frames_at (deferring ts) = sym (last_first rest fs) ∙ e in
        let head : frames_in fs ≡ frames_at t = cc in
        let tail : map frames_in (reverse rest) ≡ map frames_at (deferring ts) = cc in
        record {
          before = [];
          it = t;
          later = ts;
          is = refl;
          still = tt;
          frames = both (frames_with fs []) t (some_with fs u.some) head;
          later_is = tail;
        }
    by_test false is e more =
        let n = more e in
        record {
          before = t ∷ n.before;
          it = n.it;
          later = n.later;
          is = ap (λ z. t ∷ z) n.is;
          still = (is, n.still);
          frames = n.frames;
          later_is = n.later_is;
        }

pub no_more : (todo : List m.Task) → map frames_in (reverse []) ≡ map frames_at (deferring todo) → AllStill todo
no_more [] e = tt
no_more (t ∷ ts) e = by_test (task_defers t) refl e (λ h. no_more ts h)
  where
    by_test : (b : Bool) → task_defers t ≡ b →
        map frames_in (reverse []) ≡ map frames_at (cond b (t ∷ deferring ts) (deferring ts)) →
        (map frames_in (reverse []) ≡ map frames_at (deferring ts) → AllStill ts) → AllStill (t ∷ ts)
    by_test true is e more = absurd (cc)
    by_test false is e more = (is, more e)

module _ {W : Type 0} where
  -- with these frames still to go
  abbrev pub with_frames : Tasks W → Vec (List Framed) → Tasks W
  with_frames t fss = record t { gone = record t.gone { frames = fss } }

  pub none_left : (v : View) (t : Tasks W) (fss : Vec (List Framed)) → t.gone.frames.items ≡ [] → fss.items ≡ [] →
      ClearsAll went.Down v t v (with_frames t fss)
  none_left v t fss is are = record {
    clears = λ last after todo a o bare e.
        let none = no_more todo (ap (λ z. map frames_in (reverse z)) (sym is) ∙ e) in (
          ap (λ z. clears last after z o (state_of a v)) (sym (append-nil todo)) ∙ all_still last after todo [] o (state_of a v) none,
          refl,
          are,
          refl,
        );
  }

  module _ (v : View) (t : Tasks W) (fs : List Framed) (fss : Vec (List Framed)) (is : t.gone.frames.items ≡ fss.items ++ fs ∷ [])
      (un : AllUnguarded t.gone.frames.items) where
    here : (todo : List m.Task) → map frames_in (reverse t.gone.frames.items) ≡ map frames_at (deferring todo) → Next fs fss.items todo
    here todo e = next_of fs fss.items todo (all_but fss.items fs (subst (λ z. AllUnguarded z) is un)).1
        (ap (λ z. map frames_in (reverse z)) (sym is) ∙ e)

    first_is : (last : World → State → Step) (after : m.After) (todo : List m.Task) (o : World) (s : State) (n : Next fs fss.items todo) →
        clears last after todo o s ≡ clears_frames (λ s. clears last after n.later o s) n.it.thread.who
        (world o.pre o.post (clearing after n.later ∷ o.ups) o.trees) s (frames_with fs [])
    first_is last after todo o s n =
        ap (λ z. clears last after z o s) n.is ∙
        (all_still last after n.before (n.it ∷ n.later) o s n.still ∙
        ap (λ z. clears_frames (λ s. clears last after n.later o s) n.it.thread.who
        (world o.pre o.post (clearing after n.later ∷ o.ups) o.trees) s z) n.frames)

    pub block_runs : (u : View) → ClearsFrames fs went.On v u → ClearsAll went.On v t u (with_frames t fss)
    block_runs u c = record {
      clears = λ last after todo a o bare e.
          let n = here todo e in
          let k = c.clears (λ s. clears last after n.later o s) a n.it.thread.who
          (world o.pre o.post (clearing after n.later ∷ o.ups) o.trees) bare in
          record {
            who = n.it.thread.who;
            front = n.before;
            it = n.it;
            later = n.later;
            was = n.is;
            who_is = refl;
            is = first_is last after todo o (state_of a v) n ∙ k.0;
            runs = k.1;
            later_is = n.later_is;
            unguarded = (all_but fss.items fs (subst (λ z. AllUnguarded z) is un)).0;
            still = refl;
          };
    }

    pub out_of_steps : (u : View) (e : Ending) (s : Tasks W) → ClearsFrames fs (went.Over e) v u → ClearsAll (went.Over e) v t u s
    out_of_steps u end s c = record {
      clears = λ last after todo a o bare e.
          let n = here todo e in
          let k = c.clears (λ s. clears last after n.later o s) a n.it.thread.who
          (world o.pre o.post (clearing after n.later ∷ o.ups) o.trees) bare in
          (first_is last after todo o (state_of a v) n ∙ k, c.still);
    }

    pub one_gone : (r : Went) (v2 u : View) (s : Tasks W) → ClearsFrames fs went.Down v v2 → ClearsAll r v2 (with_frames t fss) u s →
        ClearsAll r v t u s
    one_gone r v2 u s c more = record { clears = λ last after todo a o bare e. go r last after todo a o bare e c more }
      where
        go : (r : Went) (last : World → State → Step) (after : m.After) (todo : List m.Task) (a : Aside) (o : World) → Bare v →
            map frames_in (reverse t.gone.frames.items) ≡ map frames_at (deferring todo) →
            ClearsFrames fs went.Down v v2 → ClearsAll r v2 (with_frames t fss) u s → AllTo last after todo r a o v t u s
        go r last after todo a o bare e c more =
            let n = here todo e in
            let k = c.clears (λ s. clears last after n.later o s) a n.it.thread.who
            (world o.pre o.post (clearing after n.later ∷ o.ups) o.trees) bare in
            let first : clears last after todo o (state_of a v) ≡ clears last after n.later o (state_of a v) =
            first_is last after todo o (state_of a v) n ∙ k in
            let same : ClearsAll r v (with_frames t fss) u s = subst (λ z. ClearsAll r z (with_frames t fss) u s) c.still more in
            on r last after todo a o n first (same.clears last after n.later a o bare n.later_is)
          where
            on : (r : Went) (last : World → State → Step) (after : m.After) (todo : List m.Task) (a : Aside) (o : World)
                (n : Next fs fss.items todo) → clears last after todo o (state_of a v) ≡ clears last after n.later o (state_of a v) →
                AllTo last after n.later r a o v (with_frames t fss) u s → AllTo last after todo r a o v t u s
            on went.On last after todo a o n first b = record {
              who = b.who;
              front = n.before ++ n.it ∷ b.front;
              it = b.it;
              later = b.later;
              was = n.is ∙ (ap (λ z. n.before ++ n.it ∷ z) b.was ∙
                  sym (append_assoc n.before (n.it ∷ b.front) (b.it ∷ b.later)));
              who_is = b.who_is;
              is = first ∙ b.is;
              runs = b.runs;
              later_is = b.later_is;
              unguarded = b.unguarded;
              still = b.still;
            }
            on (went.Over e) last after todo a o n first b = (first ∙ b.0, b.1)
            on went.Down last after todo a o n first b = (first ∙ b.0, b.1, b.2, b.3)

    -- a block runs, or the run is over
    pub not_down : (r : Went) (u : View) → (r ≡ went.Down → ⊥) → ClearsFrames fs r v u → ClearsAll r v t u (with_frames t fss)
    not_down went.On u d c = block_runs u c
    not_down (went.Over e) u d c = out_of_steps u e (with_frames t fss) c
    not_down went.Down u d c = absurd (d refl)

  pub next_unguarded : (t : Tasks W) (fs : List Framed) (fss : Vec (List Framed)) → t.gone.frames.items ≡ fss.items ++ fs ∷ [] →
      AllUnguarded t.gone.frames.items → AllUnguarded fss.items × Unguarded fs
  next_unguarded t fs fss is un = all_but fss.items fs (subst (λ z. AllUnguarded z) is un)

pub still_same : (fs : List Framed) (r : Went) (v u : View) → r ≡ went.Down → ClearsFrames fs r v u → ClearsFrames fs went.Down v u
still_same fs r v u e c = subst (λ z. ClearsFrames fs z v u) e c

pub steps_still : (fs : List Framed) (v u : View) → ClearsFrames fs went.Down v u → v.left + v.spent ≤ 18446744073709551615 →
    u.left + u.spent ≤ 18446744073709551615
steps_still fs v u c most = subst (λ z. z.left + z.spent ≤ 18446744073709551615) (sym c.still) most
