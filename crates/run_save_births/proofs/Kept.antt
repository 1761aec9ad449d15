-- What each operation keeps of the names and births of all tasks.
use Rattle.std.proofs.Common.{◌≡◌, ◌≤◌, ℕ, suc, List, [], ◌∷◌, Option, refl, sym, subst, ◌∙◌}
use Rattle.verse_code_machine.specs.Tasks.{Handler, Frame, Who, Part, Rest, asleep, group, Thread, Task, Step, Next, Over}
use Rattle.verse_code_machine.specs.Tasks.{Turn, child_named, root_named}
use Rattle.verse_code_machine_parents.specs.Parents.{HandlersBorn}
use Rattle.verse_code_machine_births.proofs.Kept as kept
use Rattle.verse_code_machine_births.proofs.Kept.{Becomes, moved, tried, released, failed, bared, IsNew, OfRest, Kept}
use Rattle.verse_code_machine_births.proofs.Ends as every
use Rattle.verse_code_machine_births.proofs.Runs.{AnyArms}
use Rattle.run_save_shots.specs.Lists.{Each}
use Rattle.run_save_births.specs.Births.{births, KeepsBirth}
use Rattle.run_save_births.specs.Everywhere.{FramesAre, TaskIs, BeginsIs, TreesAre, WorldIs}

-- A task as it comes out of an operation before which so many steps were left: with frames that it had, or with a new
-- one, or it is new itself.
pub data Comes (T : Who → List ℕ → Type 0) (most : ℕ) : Who → List ℕ → ℕ → Type 0 where
  same_frames : {w : Who} {ns : List ℕ} {left : ℕ} → left ≤ most → T w ns → Comes T most w ns left
  new_frame : {w : Who} {n : ℕ} {ns : List ℕ} {left : ℕ} → suc left ≡ most → T w (n ∷ ns) →
      Comes T most w (left ∷ n ∷ ns) left
  new_child : {w : Who} {n : ℕ} {ns : List ℕ} {left : ℕ} → suc left ≡ most → T w (n ∷ ns) →
      Comes T most (child_named w left) (left ∷ []) left
  new_root : {entry : Option ℕ} {left : ℕ} → suc left ≡ most → Comes T most (root_named left entry) (left ∷ []) left

-- T is left by the frames that stay
module _ (T : Who → List ℕ → Type 0) (drops : (w : Who) (n k : ℕ) (ns : List ℕ) → T w (n ∷ k ∷ ns) → T w (k ∷ ns)) where
  left_in : (w : Who) (f : Frame) (fs : List Frame) → FramesAre T w (f ∷ fs) → FramesAre T w fs
  left_in w f [] a = tt
  left_in w f (g ∷ fs) a = (drops w f.life.born g.life.born (births fs) a.0, a.1.1)

  with_birth : {n k : ℕ} → n ≡ k → (w : Who) (fs : List Frame) → T w (n ∷ births fs) → T w (k ∷ births fs)
  with_birth e w fs a = subst (λ n. T w (n ∷ births fs)) e a

  becomes_in : (w : Who) (f g : Frame) (fs : List Frame) → Becomes f g → FramesAre T w (f ∷ fs) → FramesAre T w (g ∷ fs)
  becomes_in w f g fs (moved e d) a =
      (with_birth e w fs a.0, (subst (HandlersBorn g.life.born) d (subst (λ n. HandlersBorn n f.handlers) e a.1.0), a.1.1))
  becomes_in w f g fs (tried h e d i) a = (
    with_birth e w fs a.0,
    (
      subst (HandlersBorn g.life.born) (sym i) (sym d ∙ e, subst (λ n. HandlersBorn n f.handlers) e a.1.0),
      a.1.1,
    ),
  )
  becomes_in w f g fs (released h e d) a =
      (with_birth e w fs a.0, (subst (λ n. HandlersBorn n g.handlers) e (subst (HandlersBorn f.life.born) d a.1.0).1, a.1.1))
  becomes_in w f g fs (failed h e d) a =
      let both : HandlersBorn f.life.born (h ∷ g.handlers) = subst (HandlersBorn f.life.born) d a.1.0 in
      let same : f.life.born ≡ g.life.born = sym both.0 ∙ e in
      (with_birth same w fs a.0, (subst (λ n. HandlersBorn n g.handlers) same both.1, a.1.1))
  becomes_in w f g fs (bared e d) a =
      (with_birth e w fs a.0, (subst (HandlersBorn g.life.born) (sym d) tt, a.1.1))

  any_rest : (x : Thread) (r : Rest) → OfRest (FramesAre T) AnyArms x r
  any_rest x (asleep w) = tt
  any_rest x (group k p gs) = tt

  pub frames_kept : (most : ℕ) → Kept most (FramesAre T) AnyArms (TaskIs T) (BeginsIs T)
  frames_kept most = record {
    left = left_in;
    becomes = becomes_in;
    rests = λ x r a g. a;
    thread = λ t a. a;
    rest = λ t a. any_rest t.thread t.rest;
    begins = λ x gs number e a g. a;
    begun = λ x gs number a. (a, tt);
    none = λ x. tt;
    gave = λ x gs number v a. tt;
    gives = λ x gs number v a. tt;
  }

  bare_keeps : (f : Frame) (left : ℕ) → IsNew left f → KeepsBirth f
  bare_keeps f left n = subst (HandlersBorn f.life.born) (sym n.bare) tt

  comes_in : (most : ℕ) (w : Who) (f : Frame) (fs : List Frame) (left : ℕ) → kept.Comes most (FramesAre T) w (f ∷ fs) left →
      Comes T most w (births (f ∷ fs)) left × Each KeepsBirth (f ∷ fs)
  comes_in most w f fs left (kept.same_frames e a) = (same_frames e a.0, a.1)
  comes_in most w f (g ∷ fs) left (kept.new_frame e n a) = (
    subst (λ k. Comes T most w (k ∷ births (g ∷ fs)) left) (sym n.born) (new_frame e a.0),
    (bare_keeps f left n, a.1),
  )
  comes_in most w f [] left (kept.new_child {w = v} e n a) = (
    subst (λ k. Comes T most (child_named v left) (k ∷ []) left) (sym n.born) (new_child e a.0),
    (bare_keeps f left n, tt),
  )
  comes_in most w f [] left (kept.new_root {entry = entry} e n) = (
    subst (λ k. Comes T most (root_named left entry) (k ∷ []) left) (sym n.born) (new_root e),
    (bare_keeps f left n, tt),
  )

  -- what an operation comes to
  abbrev pub StepComes : ℕ → Step → Type 0
  StepComes most (Next m) = Comes T most m.who (births (m.frame ∷ m.below)) m.state.clock.left ×
      (Each KeepsBirth (m.frame ∷ m.below) × WorldIs T m.world)
  StepComes most (Over e s) = Unit {0}
  StepComes most (Turn s tss) = (s.clock.left ≡ most) × TreesAre T tss

  pub record Low (most : ℕ) (q : Step) : Type 0 where
    pub holds : StepComes most q

  pub low_of : (most : ℕ) (q : Step) →
      every.Low most (FramesAre T) AnyArms (TaskIs T) (BeginsIs T) (frames_kept most) q → Low most q
  low_of most (Next m) low =
      let own = comes_in most m.who m.frame m.below m.state.clock.left low.holds.0 in
      record { holds = (own.0, (own.1, low.holds.1)) }
  low_of most (Over e s) low = record { holds = tt }
  low_of most (Turn s tss) low = record { holds = low.holds }
