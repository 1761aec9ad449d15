-- All nodes of a program in written post-order, each with what is visible at it, and which rules of
-- names they break.
use Rattle.std.specs.Prelude.{◌≡◌, ℕ, Bool, List, [], ◌∷◌, ◌++◌, Option, Some, None}
use Rattle.verse_base.specs.declared.places.Place.{Place}
use Rattle.verse_tree.specs.ItemTree.{ItemTree}
use Rattle.verse_tree.specs.Numbering.{items_numbered, program_nodes}
use Rattle.verse_tree.specs.PostOrder.{Node, program_order}
use Rattle.verse_tree.specs.declared.tables.Ref.{Ref}
use Rattle.verse_rules_least.specs.Least.{first, fault_at, first_true, Holds, Broken}
use Rattle.verse_rules_least.specs.declared.faults.Fault.{Fault}
use Rattle.verse_rules_least.specs.Refusals.{place_at}
use Rattle.verse_names_tables.specs.Names.{Table}
use Rattle.verse_names_scopes.specs.Visible.{World}
use Rattle.verse_names_scopes.specs.Subjects.{Subject, refers, locals_behind, rules_at}
use Rattle.verse_names_scopes.specs.Scopes.{through_program}

pub record Visit : Type 0 where
  pub number : ℕ
  pub place : Place
  pub subject : Subject
  -- what is visible at it
  pub world : World
  pub locals : Table

abbrev pub number_of : Visit → ℕ
number_of v = v.number

abbrev pub place_of : Visit → Place
place_of v = v.place

-- what a node refers to
abbrev pub ref_of : Visit → Option Ref
ref_of v = refers v.world v.locals v.subject

abbrev pub rules_of : Visit → List (ℕ × Bool)
rules_of v = rules_at v.world v.locals v.subject

-- the nodes so far, and the local names that are visible behind them
pub record Seen : Type 0 where
  pub locals : Table
  pub visits : List Visit

abbrev pub visit : World → ℕ → Place → Subject → Seen → Seen
visit w n p u s = record {
  locals = locals_behind w u s.locals;
  visits = s.visits ++ record { number = n; place = p; subject = u; world = w; locals = s.locals } ∷
      [];
}

abbrev pub leave : Seen → Seen → Seen
leave old s = record { locals = old.locals; visits = s.visits }

abbrev pub nothing_seen : Seen
nothing_seen = record { locals = []; visits = [] }

-- all nodes of a program
abbrev pub program_visits : List ItemTree → List Visit
program_visits is = (through_program visit leave is nothing_seen).visits

-- the pass that keeps the first fault
unfoldable pub keep_fault : Visit → Option Fault → Option Fault
keep_fault v o = first o (fault_at v.number v.place (first_true (rules_of v)))

-- a rule that is broken at a node, whatever was before it
abbrev pub Breaks : Visit → Option Fault → ℕ → Type 0
Breaks v o c = Holds (rules_of v) c

-- the items of a program whose nodes are numbered from 0, and how many nodes it has
abbrev pub IsNumbered : List ItemTree → ℕ → Type 0
IsNumbered is n = (written : List ItemTree) × (is ≡ items_numbered written 0) ×
    (n ≡ program_nodes written)

-- a parameter or a node of a body or a default breaks a rule of names, by its number and the rule's
-- code
abbrev pub NamesBreak : List ItemTree → ℕ → ℕ → Type 0
NamesBreak is = Broken number_of keep_fault Breaks (program_visits is) None

-- the place of each node of a program, by its number
abbrev pub places_in : List ItemTree → ℕ → Option Place
places_in is = place_at (λ (v : Node). v.place) (program_order is)

-- a fault has the place of the node with its number
abbrev pub IsPlaced : List ItemTree → Option Fault → Type 0
IsPlaced is None = Unit {0}
IsPlaced is (Some f) = places_in is f.node ≡ Some f.place
