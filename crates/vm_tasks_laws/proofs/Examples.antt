-- Tasks of a tree in both orders, computed. Main, begun with 9 steps left, has children 8, 6 and 3; 8 has a child 7, and 3 has a child 2.
use Rattle.std.proofs.Common.{◌≡◌, ℕ, List, [], ◌∷◌, map, Some, refl}
use Rattle.task_tree.specs.declared.tasks.Role.TheVariants as role
use Rattle.task_tree.specs.Tasks.{Task}
use Rattle.verse_code_machine.specs.Tasks as m
use Rattle.verse_code_machine.specs.Tasks.{Frame, Who, root, part, World, asleep, life_from, since}
use Rattle.verse_code_machine.specs.Cancelling.{cancelled, world_without}
use Rattle.verse_meaning_state.specs.Waits.{never}
use Rattle.vm_tasks_laws.specs.Slots.{Slot, by_itself, slept}
use Rattle.vm_tasks_laws.specs.Roses.{Rose, empty, node, pre, post}
use Rattle.vm_tasks_laws.specs.Standing.{onto_entries}
use Rattle.vm_tasks_laws.specs.Cancelling.{younger, older, back_entries}
use Rattle.vm_tasks_laws.specs.Laws.{itself}

abbrev frame : ℕ → Frame
frame n = record { life = life_from n; locals = []; stack = []; place = n; handlers = [] }

abbrev who : List ℕ → List ℕ → ℕ → Who
who path up n = record { path = path; up = up; number = n; role = part }

abbrev sleeps : List ℕ → List ℕ → ℕ → m.Task
sleeps path up n = record { thread = m.thread (who path up n) (frame n) []; rest = asleep (record { number = n; cause = never }) }

abbrev item : ℕ → Slot
item n = record { number = n; since = 0; role = part; held = by_itself (frame n) [] (asleep (record { number = n; cause = never })) }

abbrev child : ℕ → ℕ → ℕ → Task Slot
child id parent n = record { number = id; parent = Some parent; role = role.Behind 0; item = item n }

abbrev t8 : m.Task
t8 = sleeps (9 ∷ 8 ∷ []) (9 ∷ []) 8

abbrev t7 : m.Task
t7 = sleeps (9 ∷ 8 ∷ 7 ∷ []) (9 ∷ 8 ∷ []) 7

abbrev t6 : m.Task
t6 = sleeps (9 ∷ 6 ∷ []) (9 ∷ []) 6

abbrev t3 : m.Task
t3 = sleeps (9 ∷ 3 ∷ []) (9 ∷ []) 3

abbrev t2 : m.Task
t2 = sleeps (9 ∷ 3 ∷ 2 ∷ []) (9 ∷ 3 ∷ []) 2

abbrev kids : Rose Slot
kids =
    node (child 1 0 8) (slept t8) (node (child 2 1 7) (slept t7) empty empty)
    (node (child 3 0 6) (slept t6) empty (node (child 4 0 3) (slept t3) (node (child 5 4 2) (slept t2) empty empty) empty))

abbrev others : World
others = m.world (t3 ∷ t2 ∷ t6 ∷ t8 ∷ t7 ∷ []) [] [] (record { before = []; behind = [] })

-- the tree's order, and the definition's
numbers : map (λ (t : Task Slot). t.number) (pre kids) ≡ 1 ∷ 2 ∷ 3 ∷ 4 ∷ 5 ∷ []
numbers = refl

ordered : onto_entries others.pre [] ≡ post kids
ordered = refl

-- a frame that began when 7 steps were left is over: 6 and 3 go, with what they enclose
younger_go : map slept (cancelled (since (9 ∷ []) 7) others) ≡ back_entries (younger itself 7 kids)
younger_go = refl

told_so : back_entries (younger itself 7 kids) ≡ slept t2 ∷ slept t3 ∷ slept t6 ∷ []
told_so = refl

older_stay : onto_entries (world_without (since (9 ∷ []) 7) others).pre [] ≡ post (older itself 7 kids)
older_stay = refl

-- and where all are
all_go : map slept (cancelled (since (9 ∷ []) 9) others) ≡ slept t2 ∷ slept t3 ∷ slept t6 ∷ slept t7 ∷ slept t8 ∷ []
all_go = refl
