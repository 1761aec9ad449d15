-- The tasks that a fitting shot spells begin one after another.
use Rattle.std.proofs.Common.{◌≡◌, ℕ, zero, suc, ◌+◌, ◌*◌, ◌<◌, ◌≤◌, List, [], ◌∷◌, ◌++◌, length, map, Option, Some, None, refl, sym, ap}
use Rattle.std.proofs.Common.{subst, ◌∙◌, arith, ◌⊎◌, inl, inr}
use Rattle.std.proofs.Math.Nat.{mul-suc}
use Rattle.std.proofs.lemmas.Bool.{cases_lt}
use Rattle.std.proofs.lemmas.List.{length-append}
use Rattle.verse_code.specs.declared.codes.Code.{Code}
use Rattle.verse_meaning_state.specs.Waits.{nth}
use Rattle.verse_code_machine.specs.Tasks.{Frame, Task, Who, thread, root_named, child_named}
use Rattle.run_save_shots.specs.Lists.{Each, EachAt}
use Rattle.run_save_shots.specs.Kept.{KeptFrame, KeptRest, KeptTask, Kept}
use Rattle.run_save_shots.specs.Fitting.{FramesSuit, arms_of, TaskFits, ParentBefore, Fits}
use Rattle.run_save_shots.specs.Naming.{number_at, named, parent_in}
use Rattle.run_save_shots.specs.Spelling.{frame, arms_behind, born, frames_from, rest, with_frames, who, task, tasks_from}
use Rattle.run_save_spelled.specs.Growing.{number_of, In, first_in, later_in, Begins, begins_root, begins_part, Sprouts}
use Rattle.run_save_spelled.proofs.Forests.{each_weaker}

nth_old : (ws : List Who) (w : Who) (p : ℕ) → p < length ws → nth (ws ++ w ∷ []) p ≡ nth ws p
nth_old [] w p lt = absurd (omega (arith, lt))
nth_old (v ∷ ws) w zero lt = refl
nth_old (v ∷ ws) w (suc p) lt = nth_old ws w p (omega (arith, lt))

nth_new : (ws : List Who) (w : Who) → nth (ws ++ w ∷ []) (length ws) ≡ Some w
nth_new [] w = refl
nth_new (v ∷ ws) w = nth_new ws w

abbrev pub HasFrames : KeptTask → Type 0
HasFrames t = 1 ≤ length t.frames

module _ (c : Code) (s : Kept) where
  -- ---- one task

  abbrev pub framed : (at : ℕ) (t : KeptTask) (ts : List KeptTask) (depth : ℕ) → KeptFrame → List KeptFrame → Frame
  framed at t ts depth f fs = frame (born s at depth (t ∷ ts) (suc (length fs)) ts) (arms_behind fs (arms_of t.rest)) f

  pub frames_long : (at : ℕ) (t : KeptTask) (ts : List KeptTask) (depth : ℕ) (fs : List KeptFrame) (below : List Frame) →
      length (frames_from c s at t ts depth fs below) ≡ length fs + length below
  frames_long at t ts depth [] below = omega arith
  frames_long at t ts depth (f ∷ fs) below = omega (arith, frames_long at t ts (suc depth) fs (framed at t ts depth f fs ∷ below))

  -- there is one, with these frames
  pub record Spelled (at : ℕ) (t : KeptTask) (ts : List KeptTask) (ws : List Who) : Type 0 where
    pub it : Task
    pub is : task c s at t ts ws ≡ it ∷ []
    pub who_is : it.thread.who ≡ who c s at t ts ws
    pub rest_is : it.rest ≡ rest c s at t ts t.rest
    pub frames : it.thread.frame ∷ it.thread.below ≡ frames_from c s at t ts 0 t.frames []

  pub some : (r : KeptRest) (fs : List KeptFrame) → FramesSuit c r fs → 1 ≤ length fs
  some r [] k = absurd k
  some r (f ∷ fs) k = omega arith

  pub spelled : (at : ℕ) (t : KeptTask) (ts : List KeptTask) (ws : List Who) → 1 ≤ length t.frames → Spelled at t ts ws
  spelled at t ts ws le = by (frames_from c s at t ts 0 t.frames []) refl
    where
      by : (fs : List Frame) → frames_from c s at t ts 0 t.frames [] ≡ fs → Spelled at t ts ws
      by [] e = absurd (omega (arith, le, frames_long at t ts 0 t.frames [], ap length e))
      by (f ∷ fs) e = record {
        it = record { thread = thread (who c s at t ts ws) f fs; rest = rest c s at t ts t.rest };
        is = ap (λ xs. with_frames c s at t ts (who c s at t ts ws) xs) e;
        who_is = refl;
        rest_is = refl;
        frames = sym e;
      }

  -- ---- names

  -- these are the names of the tasks before
  abbrev pub Names : List Who → List Task → Type 0
  Names ws before = (p : ℕ) → p < length ws → (x : Task) × In x before × (nth ws p ≡ Some x.thread.who)

  pub no_names : Names [] []
  no_names p lt = absurd (omega (arith, lt))

  pub one_name : (ws : List Who) (before : List Task) (y : Task) (w : Who) → y.thread.who ≡ w → Names ws before →
      Names (ws ++ w ∷ []) (y ∷ before)
  one_name ws before y w e ns p lt = by (cases_lt p (length ws))
    where
      by : (p < length ws) ⊎ (length ws ≤ p) → (x : Task) × In x (y ∷ before) × (nth (ws ++ w ∷ []) p ≡ Some x.thread.who)
      by (inl l) = let n = ns p l in (n.0, later_in y n.1, nth_old ws w p l ∙ n.2)
      by (inr l) =
          let last : p ≡ length ws = omega (arith, l, lt, length-append ws (w ∷ [])) in
          (y, first_in, ap (λ k. nth (ws ++ w ∷ []) k) last ∙ (nth_new ws w ∙ ap Some (sym e)))

  pub who_number : (at : ℕ) (t : KeptTask) (ts : List KeptTask) (ws : List Who) →
      (who c s at t ts ws).number ≡ number_at s (t ∷ ts)
  who_number at t ts ws = by (parent_in ws t.parent)
    where
      by : (w : Option Who) → (named w t.root (number_at s (t ∷ ts))).number ≡ number_at s (t ∷ ts)
      by None = refl
      by (Some w) = refl

  pub begins : (t : KeptTask) (ts : List KeptTask) (ws : List Who) (before : List Task) (y : Task) →
      y.thread.who ≡ who c s (length ws) t ts ws → ParentBefore (length ws) t → Names ws before → Begins before y
  begins t ts ws before y e earlier ns = by t.parent refl
    where
      number : number_of y ≡ number_at s (t ∷ ts)
      number = ap (λ (w : Who). w.number) e ∙ who_number (length ws) t ts ws

      by : (p : Option ℕ) → t.parent ≡ p → Begins before y
      by None f = begins_root t.root (e ∙ (ap (λ p. named (parent_in ws p) t.root (number_at s (t ∷ ts))) f ∙
          ap (λ n. root_named n t.root) (sym number)))
      by (Some p) f =
          let n = ns p (earlier p f) in
          begins_part n.0 n.1 (e ∙ (ap (λ q. named (parent_in ws q) t.root (number_at s (t ∷ ts))) f ∙
          (ap (λ w. named w t.root (number_at s (t ∷ ts))) n.2 ∙ ap (λ k. child_named n.0.thread.who k) (sym number))))

  -- ---- all tasks

  pub sprouts : (ts : List KeptTask) (ws : List Who) (before : List Task) → Each HasFrames ts → EachAt ParentBefore (length ws) ts →
      Names ws before → Each (λ z. number_at s ts + s.spent < number_of z) before → Sprouts before (tasks_from c s ws ts)
  sprouts [] ws before fs ps ns above = tt
  sprouts (t ∷ ts) ws before fs ps ns above =
      let d = spelled (length ws) t ts ws fs.0 in
      let w = who c s (length ws) t ts ws in
      let number : number_of d.it ≡ number_at s (t ∷ ts) = ap (λ (v : Who). v.number) d.who_is ∙ who_number (length ws) t ts ws in
      let step : number_at s (t ∷ ts) ≡ number_at s ts + suc s.spent = next in
      let long : length (ws ++ w ∷ []) ≡ suc (length ws) = length-append ws (w ∷ []) ∙ omega arith in
      let rest : Sprouts (d.it ∷ before) (tasks_from c s (ws ++ w ∷ []) ts) =
      sprouts ts (ws ++ w ∷ []) (d.it ∷ before) fs.1 (subst (λ n. EachAt ParentBefore n ts) (sym long) ps.1)
      (one_name ws before d.it w d.who_is ns) (
        omega (arith, number, step),
        each_weaker (λ z. number_at s (t ∷ ts) + s.spent < number_of z)
            (λ z. number_at s ts + s.spent < number_of z) before (λ z l. omega (arith, step, l)) above,
      ) in
      subst (λ ys. Sprouts before (ys ++ tasks_from c s (ws ++ w ∷ []) ts)) (sym d.is) (
        begins t ts ws before d.it d.who_is ps.0 ns,
        each_weaker (λ z. number_at s (t ∷ ts) + s.spent < number_of z)
            (λ z. number_of d.it < number_of z) before (λ z l. omega (arith, number, l)) above,
        rest,
      )
    where
      next : number_at s (t ∷ ts) ≡ number_at s ts + suc s.spent
      next = omega (arith, mul-suc (suc s.spent) (length ts))

  pub have_frames : (ts : List KeptTask) → Each (TaskFits c s) ts → Each HasFrames ts
  have_frames [] fs = tt
  have_frames (t ∷ ts) fs = (some t.rest t.frames fs.0.suit, have_frames ts fs.1)

  pub all_sprout : Fits c s → Sprouts [] (tasks_from c s [] s.tasks)
  all_sprout fits = sprouts s.tasks [] [] (have_frames s.tasks fits.tasks) fits.parents no_names tt
