-- The frames and the wait of a task that is spelled are those of the task that was kept.
use Rattle.std.proofs.Common.{◌≡◌, ℕ, suc, ◌+◌, ◌-◌, length, map, reverse, List, [], ◌∷◌, ◌++◌, Option, true, refl, sym, subst}
use Rattle.std.proofs.Common.{ap, ◌∙◌, arith}
use Rattle.std.specs.Prelude.{pred}
use mathlib.Core.List.{reverse-cons}
use Rattle.std.proofs.lemmas.List.{reverse-reverse}
use Rattle.verse_code.specs.declared.codes.Code.{Code}
use Rattle.verse_value.specs.Val.{Val}
use Rattle.verse_code_machine.specs.Tasks.{Handler, Note, Frame, Who, Part, did, runs, Rest, asleep, group, Task, thread}
use Rattle.verse_code_machine.specs.Frames.{free}
use Rattle.run_save_shots.specs.Lists.{Each}
use Rattle.run_save_shots.specs.Kept.{KeptFrame, KeptTask, Kept}
use Rattle.run_save_shots.specs.Fitting.{gathers, stand_at, task_stand, top_place, arms_of}
use Rattle.run_save_shots.specs.Keeping as kp
use Rattle.run_save_shots.specs.Spelling as sp
use Rattle.run_save_shots.specs.Spelling.{frames_from, parts_from, with_frames, who, gathered, or_nowhere}
use Rattle.run_save_shots.proofs.Steps.{top_is}
use Rattle.run_save_fits.proofs.KeptTasks.{each_reverse, less, none_more}
use Rattle.run_save_moves.specs.Fine.{Scene}
use Rattle.run_save_moves.specs.Moves.{BehindCall}
use Rattle.run_save_fits.specs.Held.{LowerStill, RestFine, TaskFine}
use Rattle.run_save_same.specs.Alike.{FrameAlike, FramesAlike, PartsAlike, RestAlike}

-- a frame of a suspended task: nothing noted, no open Try
pub record Rested (f : Frame) : Type 0 where
  pub noted : f.life.noted ≡ []
  pub handlers : f.handlers ≡ []

rested_by : (f : Frame) (hs : List Handler) (ns : List Note) (fs : List Frame) → f.handlers ≡ hs → f.life.noted ≡ ns →
    free hs ns fs ≡ true → Rested f × Each Rested fs
rested_by f (h ∷ hs) ns fs g i e = absurd (cc)
rested_by f [] (n ∷ ns) fs g i e = absurd (cc)
rested_by f [] [] [] g i e = (record { noted = i; handlers = g }, tt)
rested_by f [] [] (x ∷ fs) g i e = let a =
    rested_by x x.handlers x.life.noted fs refl refl e in (record { noted = i; handlers = g }, (a.0, a.1))

pub all_rested : (f : Frame) (fs : List Frame) → free f.handlers f.life.noted fs ≡ true → Rested f × Each Rested fs
all_rested f fs e = rested_by f f.handlers f.life.noted fs refl refl e

abbrev turned : List Frame → List Frame → List Frame
turned [] acc = acc
turned (f ∷ fs) acc = turned fs (f ∷ acc)

turned_is : (fs acc : List Frame) → turned fs acc ≡ reverse fs ++ acc
turned_is [] acc = refl
turned_is (f ∷ fs) acc = turned_is fs (f ∷ acc) ∙ (join (reverse fs) f acc ∙ ap (λ xs. xs ++ acc) (sym (reverse-cons f fs)))
  where
    join : (xs : List Frame) (f : Frame) (acc : List Frame) → xs ++ f ∷ acc ≡ (xs ++ f ∷ []) ++ acc
    join [] f acc = refl
    join (x ∷ xs) f acc = ap (λ ys. x ∷ ys) (join xs f acc)

nil_end : (fs : List Frame) → fs ++ [] ≡ fs
nil_end [] = refl
nil_end (f ∷ fs) = ap (λ xs. f ∷ xs) (nil_end fs)

turned_back : (fs : List Frame) → turned (reverse fs) [] ≡ fs
turned_back fs = turned_is (reverse fs) [] ∙ (nil_end (reverse (reverse fs)) ∙ reverse-reverse fs)

-- the place behind an operation and so many arms
place_again : (place p arms : ℕ) → place ≡ suc p + arms → suc (pred (place - arms)) + arms ≡ place
place_again place p arms e = ap (λ i. suc (pred i) + arms) (minus place p arms e) ∙ sym e
  where
    minus : (place p arms : ℕ) → place ≡ suc p + arms → place - arms ≡ suc p
    minus place p arms e = omega (arith, e)

frame_again : (birth arms p : ℕ) (f : Frame) → Rested f → f.place ≡ suc p + arms → FrameAlike f (sp.frame birth arms (kp.frame arms f))
frame_again birth arms p f a e = record {
  defers = sym (reverse-reverse f.life.defers);
  noted = a.noted;
  locals = refl;
  stack = sym (reverse-reverse f.stack);
  place = sym (place_again f.place p arms e);
  handlers = a.handlers;
}

-- a lower frame
pub record Lower (c : Code) (f : Frame) : Type 0 where
  pub rested : Rested f
  pub behind : BehindCall c f.place

module _ (c : Code) (s : Kept) (at : ℕ) (t : KeptTask) (ts : List KeptTask) where
  more_behind : (xs : List KeptFrame) (top : KeptFrame) (arms : List (Option Val)) → sp.arms_behind (xs ++ top ∷ []) arms ≡ 0
  more_behind [] top arms = refl
  more_behind (x ∷ xs) top arms = refl

  -- the top frame and those below it
  pub record Came (fs : List Frame) (top : KeptFrame) (made : List Frame) : Type 0 where
    pub birth : ℕ
    pub below : List Frame
    pub is : made ≡ sp.frame birth (length (arms_of t.rest)) top ∷ below
    pub alike : FramesAlike fs below

  frames_again : (depth : ℕ) (fs : List Frame) (top : KeptFrame) (acc made : List Frame) → Each (Lower c) fs → FramesAlike acc made →
      Came (turned fs acc) top (frames_from c s at t ts depth (map (kp.frame 0) fs ++ top ∷ []) made)
  frames_again depth [] top acc made a b = record { birth = _; below = made; is = refl; alike = b }
  frames_again depth (f ∷ fs) top acc made a b = frames_again (suc depth) fs top (f ∷ acc) _ a.1 (
    subst (λ n. FrameAlike f (sp.frame (sp.born s at depth (t ∷ ts) (suc (length (map (kp.frame 0) fs ++ top ∷ []))) ts) n (kp.frame 0 f)))
        (sym
        (more_behind (map (kp.frame 0) fs) top (arms_of t.rest)))
        (frame_again _ 0 a.0.behind.0 f a.0.rested (none_more f.place a.0.behind.0 a.0.behind.1)),
    b,
  )

  parts_again : (place : ℕ) (gs : List Part) → PartsAlike gs (parts_from c s at t ts place (map kp.arm gs))
  parts_again place [] = tt
  parts_again place (did v ∷ gs) = (refl, parts_again (suc place) gs)
  parts_again place (runs n ∷ gs) = (tt, parts_again (suc place) gs)

arms_number : (q : Rest) → length (arms_of (kp.rest q)) ≡ kp.arms_behind q
arms_number (asleep w) = refl
arms_number (group j p gs) = map_length gs
  where
    map_length : (gs : List Part) → length (map kp.arm gs) ≡ length gs
    map_length [] = refl
    map_length (g ∷ gs) = ap suc (map_length gs)

-- where the top frame stands
top_behind : (c : Code) (z : Scene) (next place : ℕ) (q : Rest) → RestFine c z next place q → (p : ℕ) × (place ≡ suc p + kp.arms_behind q)
top_behind c z next place (asleep w) a = (a.1.0, none_more place a.1.0 a.1.1)
top_behind c z next place (group j p gs) a = (a.0.index, a.0.is_behind)

-- the task that is spelled, with its name
pub record Made (c : Code) (s : Kept) (at : ℕ) (t : KeptTask) (ts : List KeptTask) (ws : List Who) (y : Task) : Type 0 where
  pub task : Task
  pub is : sp.task c s at t ts ws ≡ task ∷ []
  pub who_is : task.thread.who ≡ who c s at t ts ws
  pub frame : FrameAlike y.thread.frame task.thread.frame
  pub below : FramesAlike y.thread.below task.thread.below
  pub rest : RestAlike y.rest task.rest

module _ (c : Code) (s : Kept) (z : Scene) (next : ℕ) (ys : List Task) (y : Task) (fine : TaskFine c z next y)
    (rested : Rested y.thread.frame × Each Rested
    y.thread.below) (at : ℕ) (ts : List KeptTask) where
  lower : (fs : List Frame) → Each (LowerStill c z.entries) fs → Each Rested fs → Each (Lower c) fs
  lower [] a b = tt
  lower (f ∷ fs) a b = (record { rested = b.0; behind = a.0.1 }, lower fs a.1 b.1)

  came : Came c s at (kp.task ys y) ts y.thread.below (kp.frame (kp.arms_behind y.rest) y.thread.frame)
      (frames_from c s at (kp.task ys y) ts 0 (kp.task ys y).frames [])
  came = subst (λ fs. Came c s at (kp.task ys y) ts fs (kp.frame (kp.arms_behind y.rest) y.thread.frame)
      (frames_from c s at (kp.task ys y) ts 0 (kp.task ys y).frames [])) (turned_back y.thread.below)
      (frames_again c s at (kp.task ys y) ts 0 (reverse y.thread.below) (kp.frame (kp.arms_behind y.rest) y.thread.frame) [] []
      (each_reverse (Lower c) y.thread.below (lower y.thread.below fine.still.below rested.1)) tt)

  top_again : (birth : ℕ) → FrameAlike y.thread.frame
      (sp.frame birth (length (arms_of (kp.rest y.rest))) (kp.frame (kp.arms_behind y.rest) y.thread.frame))
  top_again birth = let h = top_behind c z next y.thread.frame.place y.rest fine.rest in
      subst (λ n. FrameAlike y.thread.frame (sp.frame birth n (kp.frame (kp.arms_behind y.rest) y.thread.frame))) (sym (arms_number y.rest))
      (frame_again birth (kp.arms_behind y.rest) h.0 y.thread.frame rested.0 h.1)

  rest_again : (q : Rest) → y.rest ≡ q → RestFine c z next y.thread.frame.place q →
      RestAlike q (sp.rest c s at (kp.task ys y) ts (kp.rest q))
  rest_again (asleep w) e a = refl
  rest_again (group j p gs) e a = subst (λ o. RestAlike (group j p gs)
      (gathered c o (parts_from c s at (kp.task ys y) ts 0 (map kp.arm gs)))) (sym stands) (
        a.0.is_kind,
        sym (ap or_nowhere a.0.is_source),
        parts_again c s at (kp.task ys y) ts 0 gs,
      )
    where
      place : top_place (kp.task ys y).frames ≡ a.0.index
      place = top_is (map (kp.frame 0) (reverse y.thread.below)) (kp.frame (kp.arms_behind y.rest) y.thread.frame) ∙
          (ap (λ q. pred (y.thread.frame.place - kp.arms_behind q)) e ∙ less y.thread.frame.place a.0.index (length gs) a.0.is_behind)

      stands : task_stand c (kp.task ys y) ≡ gathers a.0.number (length gs) a.0.where_at
      stands = ap (stand_at c) place ∙ a.0.stand

  pub made : (ws : List Who) → Made c s at (kp.task ys y) ts ws y
  made ws = record {
    task = record {
      thread = thread (who c s at (kp.task ys y) ts ws)
          (sp.frame came.birth (length (arms_of (kp.rest y.rest))) (kp.frame (kp.arms_behind y.rest) y.thread.frame)) came.below;
      rest = sp.rest c s at (kp.task ys y) ts (kp.rest y.rest);
    };
    is = ap (with_frames c s at (kp.task ys y) ts (who c s at (kp.task ys y) ts ws)) came.is;
    who_is = refl;
    frame = top_again came.birth;
    below = came.alike;
    rest = rest_again y.rest refl fine.rest;
  }
