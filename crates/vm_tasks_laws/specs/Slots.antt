-- What a task of a tree keeps, and what the machine's definition has for it.
use Rattle.std.specs.Prelude.{◌≡◌, ℕ, true, List, [], ◌∷◌, ◌++◌, Option, Some, None}
use Rattle.task_tree.specs.Tasks.{Task, suits}
use Rattle.verse_code_machine.specs.Tasks as m
use Rattle.verse_code_machine.specs.Tasks.{Frame, Role, root, part, Who, Part, Rest, asleep, group}
use Rattle.verse_code_machine.specs.Ends.{is_run}
use Rattle.verse_meaning_state.specs.Waits.{ltn}

-- a task's frames are with the machine while it runs, or waits until another task is suspended or
-- over
pub data Held : Type 0 where
  by_machine : Held
  by_itself : (frame : Frame) (below : List Frame) → Rest → Held

pub record Slot : Type 0 where
  pub number : ℕ
  -- where it is at a group, the children with smaller numbers are its arms
  pub since : ℕ
  pub role : Role
  pub held : Held

pub data Entry : Type 0 where
  slept : m.Task → Entry
  -- by the task's number in the tree; and its arms, where it begins those of a group
  held : (id : ℕ) → Who → Option (List Part) → Entry

abbrev pub who_of : Entry → Who
who_of (slept y) = y.thread.who
who_of (held id w arms) = w

abbrev pub path_of : Entry → List ℕ
path_of e = (who_of e).path

abbrev pub arms_at : Rest → Option (List Part)
arms_at (asleep w) = None
arms_at (group k p gs) = Some gs

abbrev pub arms_of : Entry → Option (List Part)
arms_of (slept y) = arms_at y.rest
arms_of (held id w arms) = arms

-- the task in which others stand, if any
pub data Parent (T : Type 0) : Type 0 where
  no_parent : Parent T
  under : Task T → Entry → Parent T

abbrev pub named : List ℕ → Slot → Who
named up s = record { path = up ++ s.number ∷ []; up = up; number = s.number; role = s.role }

abbrev pub RoleFits : Option ℕ → Role → Type 0
RoleFits None (root entry) = Unit {0}
RoleFits None part = ⊥
RoleFits (Some p) (root entry) = ⊥
RoleFits (Some p) part = Unit {0}

abbrev pub Shows : ℕ → Held → Entry → Type 0
Shows id by_machine (slept y) = ⊥
Shows id by_machine (held i w arms) = i ≡ id
Shows id (by_itself f bl r) (slept y) = (y.thread.frame ≡ f) × (y.thread.below ≡ bl) × (y.rest ≡ r)
Shows id (by_itself f bl r) (held i w arms) = ⊥

-- a child is an arm exactly where it began later than the group
abbrev pub ArmedBy : ℕ → Option (List Part) → ℕ → Type 0
ArmedBy since None n = Unit {0}
ArmedBy since (Some gs) n = ltn n since ≡ is_run n gs

module _ {T : Type 0} where
  abbrev pub id_of : Parent T → Option ℕ
  id_of no_parent = None
  id_of (under t e) = Some t.number

  abbrev pub path_under : Parent T → List ℕ
  path_under no_parent = []
  path_under (under t e) = path_of e

module _ {T : Type 0} (slot : T → Slot) where
  abbrev pub number_of : Task T → ℕ
  number_of t = (slot t.item).number

  abbrev pub Armed : Parent T → ℕ → Type 0
  Armed no_parent n = Unit {0}
  Armed (under t e) n = ArmedBy (slot t.item).since (arms_of e) n

  -- the task of the tree, and what stands for it
  pub record Seen (q : Parent T) (t : Task T) (e : Entry) : Type 0 where
    pub parent : t.parent ≡ id_of q
    pub suited : suits t.parent t.role ≡ true
    pub fits : RoleFits (id_of q) (slot t.item).role
    pub who : who_of e ≡ named (path_under q) (slot t.item)
    pub shows : Shows t.number (slot t.item).held e
    pub armed : Armed q (number_of t)
