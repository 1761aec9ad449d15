-- A run can go on from what a fitting shot spells.
use Rattle.std.proofs.Common.{◌≡◌, ℕ, zero, suc, ◌+◌, ◌*◌, ◌<◌, ◌≤◌, true, List, [], ◌∷◌, ◌++◌, length, reverse, refl, sym, ap, subst}
use Rattle.std.proofs.Common.{◌∙◌, append_assoc, arith}
use Rattle.std.proofs.lemmas.List.{append-nil}
use Rattle.std.proofs.lemmas.Grind.{reverse_onto}
use Rattle.verse_code.specs.declared.codes.Code.{Code}
use Rattle.verse_code_machine.specs.Tasks.{Note, Handler, Frame, Task, Who}
use Rattle.verse_code_machine.specs.Frames.{free}
use Rattle.verse_code_machine.specs.Runs.{Forest}
use Rattle.verse_code_machine.specs.Belonging.{HandlersBelong, FramesBelong, TasksBelong, TreesBelong}
use Rattle.verse_code_machine.specs.Goings.{ThreadIsFree, TasksAreFree, TreesAreFree, tasks_frames, trees_frames, CanGoOn}
use Rattle.run_save_shots.specs.Lists.{Each, Reordered}
use Rattle.run_save_shots.specs.Kept.{KeptFrame, KeptTask, Kept}
use Rattle.run_save_shots.specs.Fitting.{TaskFits, frames_in, Fits}
use Rattle.run_save_shots.specs.Spelling.{state, frames_from, who, tasks_from, trees}
use Rattle.run_save_spelled.specs.Growing.{flat}
use Rattle.run_save_spelled.specs.Laws.{Resumable}
use Rattle.run_save_spelled.proofs.Forests.{each_append, each_parts, reordered_each, reordered_sum}
use Rattle.run_save_spelled.proofs.Growing.{Holds, none_held, onto, all_held}
use Rattle.run_save_spelled.proofs.Sprouting.{HasFrames, framed, spelled, frames_long, have_frames, all_sprout}

-- ---- plain frames

pub record IsPlain (f : Frame) : Type 0 where
  pub handlers : f.handlers ≡ []
  pub noted : f.life.noted ≡ []

pub record Plain (y : Task) : Type 0 where
  pub frame : IsPlain y.thread.frame
  pub below : Each IsPlain y.thread.below

free_plain : (hs : List Handler) (ns : List Note) (fs : List Frame) → hs ≡ [] → ns ≡ [] → Each IsPlain fs → free hs ns fs ≡ true
free_plain [] [] [] e f ps = refl
free_plain [] [] (g ∷ fs) e f ps = free_plain g.handlers g.life.noted fs ps.0.handlers ps.0.noted ps.1
free_plain [] (n ∷ ns) fs e f ps = absurd (cc)
free_plain (h ∷ hs) ns fs e f ps = absurd (cc)

no_handlers : (c : Code) (hs : List Handler) → hs ≡ [] → HandlersBelong c.classes hs
no_handlers c [] e = tt
no_handlers c (h ∷ hs) e = absurd (cc)

frames_belong : (c : Code) (fs : List Frame) → Each IsPlain fs → FramesBelong c.classes fs
frames_belong c [] ps = tt
frames_belong c (f ∷ fs) ps = (no_handlers c f.handlers ps.0.handlers, frames_belong c fs ps.1)

tasks_free : (ys : List Task) → Each Plain ys → TasksAreFree ys
tasks_free [] ps = tt
tasks_free (y ∷ ys) ps = (
  free_plain y.thread.frame.handlers y.thread.frame.life.noted y.thread.below ps.0.frame.handlers ps.0.frame.noted ps.0.below,
  tasks_free ys ps.1,
)

trees_free : (tss : Forest) → Each Plain (flat tss) → TreesAreFree tss
trees_free [] ps = tt
trees_free (ts ∷ tss) ps = let parts = each_parts Plain ts (flat tss) ps in (tasks_free ts parts.0, trees_free tss parts.1)

tasks_belong : (c : Code) (ys : List Task) → Each Plain ys → TasksBelong c.classes ys
tasks_belong c [] ps = tt
tasks_belong c (y ∷ ys) ps =
    ((no_handlers c y.thread.frame.handlers ps.0.frame.handlers, frames_belong c y.thread.below ps.0.below), tasks_belong c ys ps.1)

trees_belong : (c : Code) (tss : Forest) → Each Plain (flat tss) → TreesBelong c.classes tss
trees_belong c [] ps = tt
trees_belong c (ts ∷ tss) ps = let parts = each_parts Plain ts (flat tss) ps in (tasks_belong c ts parts.0, trees_belong c tss parts.1)

-- ---- how many frames

frames_append : (xs ys : List Task) → tasks_frames (xs ++ ys) ≡ tasks_frames xs + tasks_frames ys
frames_append [] ys = omega arith
frames_append (x ∷ xs) ys = omega (arith, frames_append xs ys)

frames_flat : (tss : Forest) → trees_frames tss ≡ tasks_frames (flat tss)
frames_flat [] = refl
frames_flat (ts ∷ tss) = omega (arith, frames_flat tss, frames_append ts (flat tss))

onto_each : (P : Task → Type 0) (before ys : List Task) → Each P before → Each P ys → Each P (onto before ys)
onto_each P before [] e f = e
onto_each P before (y ∷ ys) e f = onto_each P (y ∷ before) ys (f.0, e) f.1

onto_frames : (before ys : List Task) → tasks_frames (onto before ys) ≡ tasks_frames before + tasks_frames ys
onto_frames before [] = omega arith
onto_frames before (y ∷ ys) = omega (arith, onto_frames (y ∷ before) ys)

module _ (c : Code) (s : Kept) where
  plain_from : (at : ℕ) (t : KeptTask) (ts : List KeptTask) (depth : ℕ) (fs : List KeptFrame) (below : List Frame) → Each IsPlain below →
      Each IsPlain (frames_from c s at t ts depth fs below)
  plain_from at t ts depth [] below ps = ps
  plain_from at t ts depth (f ∷ fs) below ps =
      plain_from at t ts (suc depth) fs (framed c s at t ts depth f fs ∷ below) (record { handlers = refl; noted = refl }, ps)

  plain_tasks : (ts : List KeptTask) (ws : List Who) → Each HasFrames ts → Each Plain (tasks_from c s ws ts)
  plain_tasks [] ws fs = tt
  plain_tasks (t ∷ ts) ws fs =
      let d = spelled c s (length ws) t ts ws fs.0 in
      let ps : Each IsPlain (d.it.thread.frame ∷ d.it.thread.below) =
      subst (λ gs. Each IsPlain gs) (sym d.frames) (plain_from (length ws) t ts 0 t.frames [] tt) in
      subst (λ ys. Each Plain (ys ++ tasks_from c s (ws ++ who c s (length ws) t ts ws ∷ []) ts)) (sym d.is)
      (record { frame = ps.0; below = ps.1 }, plain_tasks ts (ws ++ who c s (length ws) t ts ws ∷ []) fs.1)

  frames_of_tasks : (ts : List KeptTask) (ws : List Who) → Each HasFrames ts → tasks_frames (tasks_from c s ws ts) ≡ frames_in ts
  frames_of_tasks [] ws fs = refl
  frames_of_tasks (t ∷ ts) ws fs =
      let d = spelled c s (length ws) t ts ws fs.0 in
      let more = tasks_from c s (ws ++ who c s (length ws) t ts ws ∷ []) ts in
      let long : suc (length d.it.thread.below) ≡ length t.frames =
      ap length d.frames ∙ (frames_long c s (length ws) t ts 0 t.frames [] ∙ omega arith) in
      let rest : tasks_frames more ≡ frames_in ts = frames_of_tasks ts (ws ++ who c s (length ws) t ts ws ∷ []) fs.1 in
      ap (λ ys. tasks_frames (ys ++ more)) d.is ∙ omega (arith, long, rest)

  pub all_hold : Fits c s → Holds (onto [] (tasks_from c s [] s.tasks)) (trees c s)
  all_hold fits = all_held [] [] (tasks_from c s [] s.tasks) none_held (all_sprout c s fits)

  few : Fits c s → frames_in s.tasks ≤ 2 * s.spent
  few fits = by s.tasks fits.few_frames fits.tasks
    where
      by : (ts : List KeptTask) → frames_in ts ≤ suc s.spent → Each (TaskFits c s) ts → frames_in ts ≤ 2 * s.spent
      by [] le fs = omega arith
      by (t ∷ ts) le fs = omega (arith, le, (have_frames c s (t ∷ ts) fs).0, fs.0.few)

  pub resumable : Fits c s → Resumable c s
  resumable fits =
      let ys = tasks_from c s [] s.tasks in
      let h = all_hold fits in
      let fs = have_frames c s s.tasks fits.tasks in
      let plain : Each Plain (flat (trees c s)) = reordered_each Plain (onto [] ys) (flat (trees c s)) h.reordered
      (onto_each Plain [] ys tt (plain_tasks s.tasks [] fs)) in
      let sum : tasks_frames (onto [] ys) ≡ tasks_frames (flat (trees c s)) =
      reordered_sum (λ (y : Task). suc (length y.thread.below)) tasks_frames refl (λ y zs. refl) (onto [] ys) (flat (trees c s))
      h.reordered in
      record {
        can = record {
          are_free = trees_free (trees c s) plain;
          few = omega (arith, frames_flat (trees c s), sum, onto_frames [] ys, frames_of_tasks s.tasks [] fs, few fits);
        };
        state_belongs = fits.cells;
        trees_belong = trees_belong c (trees c s) plain;
      }

onto_reverse : (before ys : List Task) → onto before ys ≡ reverse ys ++ before
onto_reverse before [] = refl
onto_reverse before (y ∷ ys) =
    onto_reverse (y ∷ before) ys ∙ (sym (append_assoc (reverse ys) (y ∷ []) before) ∙
    ap (λ w. w ++ before) (sym (reverse_onto ys y [])))

pub each_held : (c : Code) (s : Kept) → Fits c s → Reordered (reverse (tasks_from c s [] s.tasks)) (flat (trees c s))
each_held c s fits =
    subst (λ xs. Reordered xs (flat (trees c s))) (onto_reverse [] (tasks_from c s [] s.tasks) ∙
    append-nil (reverse (tasks_from c s [] s.tasks))) (all_hold c s fits).reordered
