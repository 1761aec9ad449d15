-- The parts of what is kept of a machine, and those of the state that it stands for.
use Rattle.std.proofs.Common.{◌≡◌, ℕ, ◌+◌, List, [], ◌∷◌, ◌++◌, length, map, Option, refl, sym, ap, ◌∙◌, arith}
use Rattle.std.proofs.Common.{length-append}
use Rattle.task_tree.specs.Nested.{IsTree}
use Rattle.trace_buf.specs.Trace as trace
use Rattle.trace_buf.specs.Trace.{printed_size}
use Rattle.verse_value.specs.Store.{Store}
use Rattle.verse_meaning_state.specs.State.{Given}
use Rattle.verse_meaning_state.specs.Effects.{printed, printed_by}
use Rattle.verse_meaning_state.proofs.Lines.{printed_both}
use Rattle.sim_clock.specs.declared.waits.Pending.{Pending}
use Rattle.vm_running.specs.Views.{View, Aside, IsPast, line_of, state_of}
use Rattle.vm_running.proofs.Lines.{kept_printed}
use Rattle.vm_tasks.specs.View.{slot_of}
use Rattle.vm_scheduler.specs.declared.tasks.Tasks.{Tasks}
use Rattle.vm_scheduler.specs.Frames.{frames_in}
use Rattle.run_save_shots.specs.Kept.{KeptTask, Kept}
use Rattle.run_save_shots.specs.Keeping.{kept, Spells}
use Rattle.vm_shot_laws.proofs.Walking.{tree_walked}
use Rattle.vm_shot.specs.Spelling.{PartsAre, SpellsEach}

-- ---- what was printed

bytes_are : (a : Aside) (v : View) → IsPast a v → printed_size v.trace ≡ printed_by (state_of a v)
bytes_are a v p =
    let sum : length (printed (a.past ++ map line_of v.trace.kept)) ≡ length (printed a.past) + length (trace.printed v.trace.kept) =
    ap length (printed_both a.past (map line_of v.trace.kept)) ∙
    (length-append (printed a.past) (printed (map line_of v.trace.kept)) ∙
    ap (λ bs. length (printed a.past) + length bs) (kept_printed v.trace.kept)) in
    let bytes = p.0 in
    omega (arith, bytes, sum)

map_length : (ks : List (ℕ × List ℕ)) → length (map line_of ks) ≡ length ks
map_length [] = refl
map_length (k ∷ ks) = let h = map_length ks in omega (arith, h)

lines_are : (a : Aside) (v : View) → IsPast a v →
    v.trace.lines + length v.trace.kept ≡ a.before.lines + length (a.past ++ map line_of v.trace.kept)
lines_are a v p =
    let sum = length-append a.past (map line_of v.trace.kept) in let same = map_length v.trace.kept in
    let lines = p.1 in
    omega (arith, lines, sum, same)

-- ---- all

module _ {W : Type 0} (pending : W → List Pending) where
  pub spelled : (x : Kept) (v : View) (t : Tasks W) → IsTree t.tree → PartsAre x v t → SpellsEach pending x v t
  spelled x v t tree parts a trees resting apart =
      let w = tree_walked (slot_of frames_in) t.tree trees resting.rests tree apart in
      record {
        ordered = w.ordered;
        reordered = w.reordered;
        is = same x (kept (state_of a v) w.ordered) parts.left parts.spent parts.now (parts.next ∙ sym resting.clock.next)
            (parts.bytes ∙ bytes_are a v resting.clock.past) (parts.lines ∙ lines_are a v resting.clock.past) parts.cells
            (parts.spawned ∙ sym resting.clock.results) (parts.tasks ∙ w.same);
      }
    where
      same : (x y : Kept) → x.left ≡ y.left → x.spent ≡ y.spent → x.now ≡ y.now → x.next ≡ y.next →
          x.bytes ≡ y.bytes → x.lines ≡ y.lines → x.cells ≡ y.cells → x.spawned ≡ y.spawned → x.tasks ≡ y.tasks → x ≡ y
      same x y a b c d e f g h i =
          ap (λ (w : ℕ). record x { left = w }) a ∙
          (ap (λ (w : ℕ). record x { left = y.left; spent = w }) b ∙
          (ap (λ (w : ℕ). record x { left = y.left; spent = y.spent; now = w }) c ∙
          (ap (λ (w : ℕ). record y { next = w; bytes = x.bytes; lines = x.lines; cells = x.cells; spawned = x.spawned; tasks = x.tasks })
          d ∙ (ap (λ (w : ℕ). record y { bytes = w; lines = x.lines; cells = x.cells; spawned = x.spawned; tasks = x.tasks }) e ∙
          (ap (λ (w : ℕ). record y { lines = w; cells = x.cells; spawned = x.spawned; tasks = x.tasks }) f ∙
          (ap (λ (w : Store). record y { cells = w; spawned = x.spawned; tasks = x.tasks }) g ∙
          (ap (λ (w : List (Option Given)). record y { spawned = w; tasks = x.tasks }) h ∙
          ap (λ (w : List KeptTask). record y { tasks = w }) i)))))))
