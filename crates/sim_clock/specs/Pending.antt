-- Waits in the order in which they were added, and when they are due.
use Rattle.std.specs.Prelude.{ℕ, nat_eq, nat_lt, Bool, false, ◌||◌, ◌&&◌, ◌<◌, List, [], ◌∷◌, ◌++◌}
use Rattle.std.specs.Prelude.{map, Option, Some, None, if◌then◌else◌}
use Rattle.sim_clock.specs.declared.waits.Wait.{Wait}
use Rattle.sim_clock.specs.declared.waits.WaitKind.{WaitKind}
use Rattle.sim_clock.specs.declared.waits.WaitKind.TheVariants.{At, Never, Task, Event}
use Rattle.sim_clock.specs.declared.waits.Wake.{Wake}
use Rattle.sim_clock.specs.declared.waits.Due.{Due}
use Rattle.sim_clock.specs.declared.waits.Pending.{Pending}

-- the number is above those of all waits
abbrev pub IsAboveAll : ℕ → List Pending → Type 0
IsAboveAll number [] = Unit {0}
IsAboveAll number (p ∷ ps) = (p.wait.number < number) × IsAboveAll number ps

-- the moment that a wait has from the start
abbrev pub given : WaitKind → Option Wake
given (At moment) = Some (record { at = moment; cause = 0 })
given Never = None
given (Task task) = None
given (Event cell) = None

abbrev pub added : List Pending → Wait → List Pending
added ps wait = ps ++ record { wait = wait; wake = given wait.kind } ∷ []

abbrev pub removed : ℕ → List Pending → List Pending
removed number [] = []
removed number (p ∷ ps) = if nat_eq p.wait.number number then ps else p ∷ removed number ps

-- both wait for the end of one task, or for signals of one event
abbrev pub waits_alike : WaitKind → WaitKind → Bool
waits_alike (Task a) (Task b) = nat_eq a b
waits_alike (Event a) (Event b) = nat_eq a b
waits_alike _ _ = false

abbrev pub or_else : Option Wake → Option Wake → Option Wake
or_else None other = other
or_else (Some wake) other = Some wake

-- a wait that has a moment keeps it
abbrev pub woken_one : WaitKind → Wake → Pending → Pending
woken_one kind wake p = if waits_alike p.wait.kind kind then record p
    { wake = or_else p.wake (Some wake) } else p

-- all that wait for this get the moment
abbrev pub woken : WaitKind → Wake → List Pending → List Pending
woken kind wake ps = map (woken_one kind wake) ps

abbrev pub due_from : Wait → Option Wake → Option Due
due_from wait None = None
due_from wait (Some wake) = Some
    (record { at = wake.at; number = wait.number; task = wait.task; cause = wake.cause })

abbrev pub due_of : Pending → Option Due
due_of p = due_from p.wait p.wake

-- by the moment, and at one moment by the number
abbrev pub comes_before : Due → Due → Bool
comes_before d e = nat_lt d.at e.at || (nat_eq d.at e.at && nat_lt d.number e.number)

-- the one that comes before the other, and the first where neither does
abbrev pub earlier : Option Due → Option Due → Option Due
earlier None other = other
earlier (Some d) None = Some d
earlier (Some d) (Some e) = if comes_before e d then Some e else Some d

-- the wait that is due next
abbrev pub first_due : List Pending → Option Due
first_due [] = None
first_due (p ∷ ps) = earlier (due_of p) (first_due ps)

abbrev pub wait_of : ℕ → List Pending → Option Wait
wait_of task [] = None
wait_of task (p ∷ ps) = if nat_eq p.wait.task task then Some p.wait else wait_of task ps
