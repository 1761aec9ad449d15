-- Trees of tasks without open Trys are as they are behind lines and signals of before.
use Rattle.std.proofs.Common.{◌≡◌, ℕ, List, [], ◌∷◌, ◌++◌, refl, sym, ap, ◌∙◌}
use Rattle.verse_code.specs.declared.codes.Code.{Code}
use Rattle.verse_meaning_state.specs.State.{State}
use Rattle.verse_code_machine.specs.Tasks.{Frame, Who, Part, did, runs, Rest, asleep, group, Task}
use Rattle.verse_code_machine.specs.Runs.{Forest}
use Rattle.verse_code_machine_saved.specs.Numbers.{Numbering, Prior, path_from, path_as, who_as, parts_as, rest_as, handlers_as, frame_as}
use Rattle.verse_code_machine_saved.specs.Numbers.{frames_as, task_as, tasks_as}
use Rattle.verse_code_machine_saved.specs.Numbers.{trees_as, renumbered}
use Rattle.verse_code_machine_saved.specs.Resuming.{prior, SameTrees}
use Rattle.run_save_shots.specs.Lists.{Each}
use Rattle.run_save_moves.specs.Fine.{Scene}
use Rattle.run_save_fits.specs.Held.{TaskFine, TasksFine, TreesFine, LowerStill}

-- every number is as it is
abbrev itself : Numbering
itself a n = n

both : {A : Type 0} {x y : A} {xs ys : List A} → x ≡ y → xs ≡ ys → x ∷ xs ≡ y ∷ ys
both e f = cc

path_is : (a x : List ℕ) → path_from itself a x ≡ x
path_is a [] = refl
path_is a (n ∷ x) = ap (λ xs. n ∷ xs) (path_is (a ++ n ∷ []) x)

parts_is : (a : List ℕ) (gs : List Part) → parts_as itself a gs ≡ gs
parts_is a [] = refl
parts_is a (did v ∷ gs) = ap (λ xs. did v ∷ xs) (parts_is a gs)
parts_is a (runs n ∷ gs) = ap (λ xs. runs n ∷ xs) (parts_is a gs)

rest_is : (a : List ℕ) (r : Rest) → rest_as itself a r ≡ r
rest_is a (asleep w) = refl
rest_is a (group k p gs) = ap (group k p) (parts_is a gs)

who_is : (w : Who) → who_as itself w ≡ w
who_is w = ap (λ p. record { path = p; up = path_as itself w.up; number = w.number; role = w.role }) (path_is [] w.path) ∙
    ap (λ p. record { path = w.path; up = p; number = w.number; role = w.role }) (path_is [] w.up)

module _ (c : Code) (x : Scene) (next : ℕ) (z : Prior) where
  -- seen with the numbers as they are
  abbrev seen : Prior
  seen = record { numbers = itself; signals = z.signals; lines = z.lines; before = z.before }

  frame_is : (a : List ℕ) (f : Frame) → f.handlers ≡ [] → frame_as seen a f ≡ f
  frame_is a f e = ap (λ hs. record {
    life = f.life;
    locals = f.locals;
    stack = f.stack;
    place = f.place;
    handlers =
        handlers_as seen a hs;
  }) e ∙ ap (λ hs. record { life = f.life; locals = f.locals; stack = f.stack; place = f.place; handlers = hs })
      (sym e)

  frames_is : (a : List ℕ) (fs : List Frame) → Each (LowerStill c x.entries) fs → frames_as seen a fs ≡ fs
  frames_is a [] h = refl
  frames_is a (f ∷ fs) h = both (frame_is a f h.0.0.handlers) (frames_is a fs h.1)

  abbrev with_parts : Who → Frame → List Frame → Rest → Task
  with_parts w f fs r = record { thread = record { who = w; frame = f; below = fs }; rest = r }

  task_is : (t : Task) → TaskFine c x next t → task_as seen t ≡ t
  task_is t h = parts (who_is t.thread.who) (frame_is t.thread.who.path t.thread.frame h.still.frame.handlers)
      (frames_is t.thread.who.path t.thread.below h.still.below) (rest_is t.thread.who.path t.rest)
    where
      parts : {w v : Who} {f g : Frame} {fs gs : List Frame} {r q : Rest} → w ≡ v → f ≡ g → fs ≡ gs → r ≡ q →
          with_parts w f fs r ≡ with_parts v g gs q
      parts {w = w} {v = v} {f = f} {g = g} {fs = fs} {gs = gs} {r = r} e i j k =
          ap (λ w. with_parts w f fs r) e ∙ ap (λ f. with_parts v f fs r) i ∙ ap (λ fs. with_parts v g fs r) j ∙
          ap (λ r. with_parts v g gs r) k

  tasks_is : (ts : List Task) → TasksFine c x next ts → tasks_as seen ts ≡ ts
  tasks_is [] h = refl
  tasks_is (t ∷ ts) h = both (task_is t h.0) (tasks_is ts h.1)

  trees_is : (tss : Forest) → TreesFine c x next tss → trees_as seen tss ≡ tss
  trees_is [] h = refl
  trees_is (ts ∷ tss) h = both (tasks_is ts h.0) (trees_is tss h.1)

pub same_trees : (c : Code) (x : Scene) (next : ℕ) (s : State) (tss : Forest) → TreesFine c x next tss → SameTrees s tss tss
same_trees c x next s tss h = record {
  own = itself;
  other = itself;
  own_rises = λ a n k e. e;
  own_fixed = λ a n e. refl;
  other_rises = λ a n k e. e;
  other_fixed = λ a n e. refl;
  meet = trees_is c x next (renumbered itself s) tss h ∙ sym (trees_is c x next (prior itself s) tss h);
}
