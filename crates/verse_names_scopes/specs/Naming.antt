-- What the pass over the nodes makes of its state: the local names that are visible, what the nodes
-- so far refer to, and the first fault.
use Rattle.std.specs.Prelude.{ℕ, List, [], ◌∷◌, ◌++◌, length, take, Option, None}
use Rattle.verse_base.specs.declared.places.Place.{Place}
use Rattle.verse_tree.specs.declared.tables.Ref.{Ref}
use Rattle.verse_rules_least.specs.Least.{first, fault_at, first_true}
use Rattle.verse_rules_least.specs.declared.faults.Fault.{Fault}
use Rattle.verse_names_tables.specs.Names.{Table}
use Rattle.verse_names_scopes.specs.Visible.{World}
use Rattle.verse_names_scopes.specs.Subjects.{Subject, refers, locals_behind, rules_at}

pub record Naming : Type 0 where
  pub locals : Table
  pub refs : List (Option Ref)
  pub fault : Option Fault

unfoldable pub noted : World → ℕ → Place → Subject → Naming → Naming
noted w n p u x = record {
  locals = locals_behind w u x.locals;
  refs = x.refs ++ refers w x.locals u ∷ [];
  fault = first x.fault (fault_at n p (first_true (rules_at w x.locals u)));
}

-- only the first so many names stay visible
abbrev pub cut : ℕ → Naming → Naming
cut k x = record { locals = take k x.locals; refs = x.refs; fault = x.fault }

-- as many as there were
abbrev pub cut_back : Naming → Naming → Naming
cut_back old x = cut (length old.locals) x

abbrev pub nothing_named : Naming
nothing_named = record { locals = []; refs = []; fault = None }
