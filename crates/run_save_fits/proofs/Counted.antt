-- What is counted in every state of a run: tasks, frames, waits, and the tasks of entries.
use Rattle.std.proofs.Common.{◌≡◌, ℕ, zero, suc, ◌+◌, ◌≤◌, length, List, [], ◌∷◌, ◌++◌, Option, Some, None, Bool, true, false, refl, sym}
use Rattle.std.proofs.Common.{subst, arith}
use Rattle.std.proofs.Common.{ap, nat_lt}
use Rattle.std.proofs.lemmas.List.{length-append}
use Rattle.verse_base.specs.declared.places.Place.{Place}
use Rattle.verse_value.specs.Val.{Val}
use Rattle.verse_meaning_state.specs.State.{State, Given, Before, stepped, at_moment, with_result, drawn, with_entry, set_at}
use Rattle.verse_meaning_state.specs.Waits.{Cause, Wait, waiting, eqn, ltn, nth}
use Rattle.verse_meaning_state.specs.Turns.{Kind}
use Rattle.verse_meaning_state.proofs.Keeping.{result_left}
use Rattle.verse_code_machine.specs.Tasks.{Frame, Role, root, part, Who, Part, Rest, asleep, group, Thread, Task}
use Rattle.run_save_moves.specs.Fine.{Ticks}
use Rattle.run_save_fits.specs.Held.{one, is_wait, is_task_of, unfinished, is_main}
use Rattle.run_save_fits.proofs.Measures.{Measure}

pub same_spent : (entry : Option ℕ) (v : Val) (s : State) → (with_result entry v s).clock.spent ≡ s.clock.spent
same_spent None v s = refl
same_spent (Some e) v s = refl

pub same_next : (entry : Option ℕ) (v : Val) (s : State) → (with_result entry v s).clock.next ≡ s.clock.next
same_next None v s = refl
same_next (Some e) v s = refl

pub set_length : (rs : List (Option Given)) (e : ℕ) (g : Option Given) → length (set_at rs e g) ≡ length rs
set_length [] e g = refl
set_length (r ∷ rs) zero g = refl
set_length (r ∷ rs) (suc e) g = ap suc (set_length rs e g)

pub same_entries : (entry : Option ℕ) (v : Val) (s : State) → length (with_result entry v s).clock.results ≡ length s.clock.results
same_entries None v s = refl
same_entries (Some e) v s = set_length s.clock.results e _

pub spent_more : (s u : State) → Ticks s.clock u.clock → s.clock.spent ≤ u.clock.spent
spent_more s u t = let a = t.sum in let b = t.left in omega (arith, a, b)

-- how many tasks there are
abbrev pub all_tasks : Measure
all_tasks = record {
  live = λ w k. 1;
  lost = λ w k. 0;
  task = λ t. 1;
  result = λ e. 0;
  passes = 0;
  wake = 0;
  bound = λ s. s.clock.spent;
  used = λ s. 0;
  fewer = λ w k. omega arith;
  fewer_lost = λ w k. omega arith;
  passed = λ w k. omega arith;
  ticks = λ s u t. let a = spent_more s u t in omega (arith, a);
  enters = λ w k l s e. omega arith;
  begins = λ w l s e. omega arith;
  spawns = λ l s e. omega arith;
  draws = λ w f fs q s. omega arith;
  stands = λ x k p gs. omega arith;
  woken = λ y w e. omega arith;
  joins = λ y k p gs e. omega arith;
  dies = λ w k. omega arith;
  gone = λ t. omega arith;
  clears = λ w k l s e. omega arith;
  finishes = λ w k e r. omega arith;
  gives = λ e v s. let a = same_spent e v s in omega (arith, a);
  turns = λ l i s e. omega arith;
}

-- how many frames they have
abbrev pub all_frames : Measure
all_frames = record {
  live = λ w k. k;
  lost = λ w k. k;
  task = λ t. suc (length t.thread.below);
  result = λ e. 0;
  passes = 0;
  wake = 0;
  bound = λ s. s.clock.spent;
  used = λ s. 0;
  fewer = λ w k. omega arith;
  fewer_lost = λ w k. omega arith;
  passed = λ w k. omega arith;
  ticks = λ s u t. let a = spent_more s u t in omega (arith, a);
  enters = λ w k l s e. omega arith;
  begins = λ w l s e. omega arith;
  spawns = λ l s e. omega arith;
  draws = λ w f fs q s. omega arith;
  stands = λ x k p gs. omega arith;
  woken = λ y w e. omega arith;
  joins = λ y k p gs e. omega arith;
  dies = λ w k. omega arith;
  gone = λ t. omega arith;
  clears = λ w k l s e. omega arith;
  finishes = λ w k e r. omega arith;
  gives = λ e v s. let a = same_spent e v s in omega (arith, a);
  turns = λ l i s e. omega arith;
}

-- each task that runs or will run may draw one number of a wait, and each draws it for a step
abbrev pub all_drawn : Measure
all_drawn = record {
  live = λ w k. 1;
  lost = λ w k. 0;
  task = λ t. 0;
  result = λ e. 1;
  passes = 1;
  wake = 1;
  bound = λ s. s.clock.spent;
  used = λ s. s.clock.next;
  fewer = λ w k. omega arith;
  fewer_lost = λ w k. omega arith;
  passed = λ w k. omega arith;
  ticks = λ s u t. let a = spent_more s u t in let b = t.next in omega (arith, a, b);
  enters = λ w k l s e. omega arith;
  begins = λ w l s e. omega arith;
  spawns = λ l s e. omega arith;
  draws = λ w f fs q s. omega arith;
  stands = λ x k p gs. omega arith;
  woken = λ y w e. omega arith;
  joins = λ y k p gs e. omega arith;
  dies = λ w k. omega arith;
  gone = λ t. omega arith;
  clears = λ w k l s e. omega arith;
  finishes = λ w k e r. omega arith;
  gives = λ e v s. let a = same_spent e v s in let b = same_next e v s in omega (arith, a, b);
  turns = λ l i s e. omega arith;
}

-- how many entries there are: each was made by a step
abbrev pub all_entries : Measure
all_entries = record {
  live = λ w k. 0;
  lost = λ w k. 0;
  task = λ t. 0;
  result = λ e. 0;
  passes = 0;
  wake = 0;
  bound = λ s. s.clock.spent;
  used = λ s. length s.clock.results;
  fewer = λ w k. omega arith;
  fewer_lost = λ w k. omega arith;
  passed = λ w k. omega arith;
  ticks = λ s u t. let a = spent_more s u t in let b = ap length t.results in omega (arith, a, b);
  enters = λ w k l s e. omega arith;
  begins = λ w l s e. omega arith;
  spawns = λ l s e. let a = length-append s.clock.results (None ∷ []) in omega (arith, a);
  draws = λ w f fs q s. omega arith;
  stands = λ x k p gs. omega arith;
  woken = λ y w e. omega arith;
  joins = λ y k p gs e. omega arith;
  dies = λ w k. omega arith;
  gone = λ t. omega arith;
  clears = λ w k l s e. omega arith;
  finishes = λ w k e r. omega arith;
  gives = λ e v s. let a = same_spent e v s in let b = same_entries e v s in omega (arith, a, b);
  turns = λ l i s e. omega arith;
}

-- ---- the waits of a number

pub drawn_once : (n k : ℕ) → one (eqn n k) + one (ltn n k) ≤ one (ltn n (suc k))
drawn_once zero zero = omega arith
drawn_once zero (suc k) = omega arith
drawn_once (suc n) zero = omega arith
drawn_once (suc n) (suc k) = drawn_once n k

pub below_next : (n : ℕ) (s u : State) → u.clock.next ≡ s.clock.next → one (ltn n s.clock.next) + 0 ≤ one (ltn n u.clock.next) + 0
below_next n s u e = let a = ap (λ k. one (ltn n k)) e in omega (arith, a)

abbrev pub wait_of : ℕ → Measure
wait_of n = record {
  live = λ w k. 0;
  lost = λ w k. 0;
  task = λ t. is_wait n t.rest;
  result = λ e. 0;
  passes = 0;
  wake = 0;
  bound = λ s. one (ltn n s.clock.next);
  used = λ s. 0;
  fewer = λ w k. omega arith;
  fewer_lost = λ w k. omega arith;
  passed = λ w k. omega arith;
  ticks = λ s u t. below_next n s u t.next;
  enters = λ w k l s e. omega arith;
  begins = λ w l s e. omega arith;
  spawns = λ l s e. omega arith;
  draws = λ w f fs q s. let a = drawn_once n s.clock.next in omega (arith, a);
  stands = λ x k p gs. omega arith;
  woken = λ y w e. omega arith;
  joins = λ y k p gs e. omega arith;
  dies = λ w k. omega arith;
  gone = λ t. omega arith;
  clears = λ w k l s e. omega arith;
  finishes = λ w k e r. omega arith;
  gives = λ e v s. let a = ap (λ k. one (ltn n k)) (same_next e v s) in omega (arith, a);
  turns = λ l i s e. omega arith;
}

-- ---- the tasks of an entry

pub at_most_one : (o : Option (Option Given)) → unfinished o ≤ 1
at_most_one None = omega arith
at_most_one (Some None) = omega arith
at_most_one (Some (Some g)) = omega arith

pub entry_more : (e : ℕ) (rs : List (Option Given)) → one (eqn e (length rs)) + unfinished (nth rs e) ≤ unfinished (nth (rs ++ None ∷ []) e)
entry_more zero [] = omega arith
entry_more (suc e) [] = omega arith
entry_more zero (r ∷ rs) = omega arith
entry_more (suc e) (r ∷ rs) = entry_more e rs

pub entry_gives : (e d : ℕ) (rs : List (Option Given)) (g : Given) →
    unfinished (nth rs e) ≤ one (eqn e d) + unfinished (nth (set_at rs d (Some g)) e)
entry_gives e d [] g = omega arith
entry_gives zero zero (r ∷ rs) g = let a = at_most_one (Some r) in omega (arith, a)
entry_gives (suc e) zero (r ∷ rs) g = omega arith
entry_gives zero (suc d) (r ∷ rs) g = omega arith
entry_gives (suc e) (suc d) (r ∷ rs) g = entry_gives e d rs g

pub gives_one : (e : ℕ) (entry : Option ℕ) (v : Val) (s : State) →
    0 + (unfinished (nth s.clock.results e) + 0) ≤ is_task_of e (root entry) +
    (unfinished (nth (with_result entry v s).clock.results e) + 0)
gives_one e None v s = omega arith
gives_one e (Some d) v s = let a = entry_gives e d s.clock.results (record { value = v; moment = s.clock.now }) in omega (arith, a)

pub same_results : (e : ℕ) (s u : State) → u.clock.results ≡ s.clock.results →
    unfinished (nth s.clock.results e) + 0 ≤ unfinished (nth u.clock.results e) + 0
same_results e s u h = let a = ap (λ rs. unfinished (nth rs e)) h in omega (arith, a)

abbrev pub task_of : ℕ → Measure
task_of e = record {
  live = λ w k. is_task_of e w.role;
  lost = λ w k. is_task_of e w.role;
  task = λ t. is_task_of e t.thread.who.role;
  result = λ d. is_task_of e (root d);
  passes = 0;
  wake = 0;
  bound = λ s. unfinished (nth s.clock.results e);
  used = λ s. 0;
  fewer = λ w k. omega arith;
  fewer_lost = λ w k. omega arith;
  passed = λ w k. omega arith;
  ticks = λ s u t. same_results e s u t.results;
  enters = λ w k l s h. omega arith;
  begins = λ w l s h. omega arith;
  spawns = λ l s h. let a = entry_more e s.clock.results in omega (arith, a);
  draws = λ w f fs q s. omega arith;
  stands = λ x k p gs. omega arith;
  woken = λ y w h. omega arith;
  joins = λ y k p gs h. omega arith;
  dies = λ w k. omega arith;
  gone = λ t. omega arith;
  clears = λ w k l s h. omega arith;
  finishes = λ w k d r. let a = ap (is_task_of e) r in omega (arith, a);
  gives = λ d v s. gives_one e d v s;
  turns = λ l i s h. omega arith;
}

-- ---- Main's task

abbrev pub main_task : Measure
main_task = record {
  live = λ w k. is_main w.role;
  lost = λ w k. is_main w.role;
  task = λ t. is_main t.thread.who.role;
  result = λ d. is_main (root d);
  passes = 0;
  wake = 0;
  bound = λ s. 1;
  used = λ s. 0;
  fewer = λ w k. omega arith;
  fewer_lost = λ w k. omega arith;
  passed = λ w k. omega arith;
  ticks = λ s u t. omega arith;
  enters = λ w k l s h. omega arith;
  begins = λ w l s h. omega arith;
  spawns = λ l s h. omega arith;
  draws = λ w f fs q s. omega arith;
  stands = λ x k p gs. omega arith;
  woken = λ y w h. omega arith;
  joins = λ y k p gs h. omega arith;
  dies = λ w k. omega arith;
  gone = λ t. omega arith;
  clears = λ w k l s h. omega arith;
  finishes = λ w k d r. let a = ap is_main r in omega (arith, a);
  gives = λ d v s. omega arith;
  turns = λ l i s h. omega arith;
}

pub same_before : (entry : Option ℕ) (v : Val) (s : State) → (with_result entry v s).clock.before ≡ s.clock.before
same_before None v s = refl
same_before (Some e) v s = refl

-- the steps left and spent are no more than so many
abbrev pub sum_below : (steps : ℕ) → Measure
sum_below steps = record {
  live = λ w k. 0;
  lost = λ w k. 0;
  task = λ t. 0;
  result = λ e. 0;
  passes = 0;
  wake = 0;
  bound = λ s. steps;
  used = λ s. s.clock.left + s.clock.spent;
  fewer = λ w k. omega arith;
  fewer_lost = λ w k. omega arith;
  passed = λ w k. omega arith;
  ticks = λ s u t. let a = t.sum in omega (arith, a);
  enters = λ w k l s e. omega (arith, e);
  begins = λ w l s e. omega (arith, e);
  spawns = λ l s e. omega (arith, e);
  draws = λ w f fs q s. omega arith;
  stands = λ x k p gs. omega arith;
  woken = λ y w e. omega arith;
  joins = λ y k p gs e. omega arith;
  dies = λ w k. omega arith;
  gone = λ t. omega arith;
  clears = λ w k l s e. omega (arith, e);
  finishes = λ w k e r. omega arith;
  gives = λ e v s. let a = result_left e v s in let b = same_spent e v s in omega (arith, a, b);
  turns = λ l i s e. omega (arith, e);
}

-- and no fewer
abbrev pub sum_above : (steps : ℕ) → Measure
sum_above steps = record {
  live = λ w k. 0;
  lost = λ w k. 0;
  task = λ t. 0;
  result = λ e. 0;
  passes = 0;
  wake = 0;
  bound = λ s. s.clock.left + s.clock.spent;
  used = λ s. steps;
  fewer = λ w k. omega arith;
  fewer_lost = λ w k. omega arith;
  passed = λ w k. omega arith;
  ticks = λ s u t. let a = t.sum in omega (arith, a);
  enters = λ w k l s e. omega (arith, e);
  begins = λ w l s e. omega (arith, e);
  spawns = λ l s e. omega (arith, e);
  draws = λ w f fs q s. omega arith;
  stands = λ x k p gs. omega arith;
  woken = λ y w e. omega arith;
  joins = λ y k p gs e. omega arith;
  dies = λ w k. omega arith;
  gone = λ t. omega arith;
  clears = λ w k l s e. omega (arith, e);
  finishes = λ w k e r. omega arith;
  gives = λ e v s. let a = result_left e v s in let b = same_spent e v s in omega (arith, a, b);
  turns = λ l i s e. omega (arith, e);
}

-- of what was printed before, each line has a byte
abbrev pub lines_before : Measure
lines_before = record {
  live = λ w k. 0;
  lost = λ w k. 0;
  task = λ t. 0;
  result = λ e. 0;
  passes = 0;
  wake = 0;
  bound = λ s. s.clock.before.bytes;
  used = λ s. s.clock.before.lines;
  fewer = λ w k. omega arith;
  fewer_lost = λ w k. omega arith;
  passed = λ w k. omega arith;
  ticks = λ s u t. let a = ap (λ (b : Before). b.bytes) t.before in let d = ap (λ (b : Before). b.lines) t.before in omega (arith, a, d);
  enters = λ w k l s e. omega (arith, e);
  begins = λ w l s e. omega (arith, e);
  spawns = λ l s e. omega (arith, e);
  draws = λ w f fs q s. omega arith;
  stands = λ x k p gs. omega arith;
  woken = λ y w e. omega arith;
  joins = λ y k p gs e. omega arith;
  dies = λ w k. omega arith;
  gone = λ t. omega arith;
  clears = λ w k l s e. omega (arith, e);
  finishes = λ w k e r. omega arith;
  gives = λ e v s. let a = ap (λ (b : Before). b.bytes) (same_before e v s) in let d =
      ap (λ (b : Before). b.lines) (same_before e v s) in omega (arith, a, d);
  turns = λ l i s e. omega (arith, e);
}

pub one_most : (b : Bool) → one b ≤ 1
one_most true = omega arith
one_most false = omega arith

pub ltn_less : (l k n : ℕ) → l ≤ k → one (ltn k n) ≤ one (ltn l n)
ltn_less l k zero h = omega arith
ltn_less zero k (suc n) h = one_most (ltn k (suc n))
ltn_less (suc l) zero (suc n) h = omega (arith, h)
ltn_less (suc l) (suc k) (suc n) h = ltn_less l k n (omega (arith, h))
