-- Which states of the definition those in memory are.
use Rattle.std.specs.Prelude.{ℕ, List, [], ◌∷◌, map, reverse, Option, Some, None, option_map}
use Rattle.verse_verify_notes.specs.View.{sort_of, sorts_of, mark_of}
use Rattle.verse_sorts.specs.Sorts as s
use Rattle.verse_sorts.specs.Sorts.{Sort}
use Rattle.lower_notes.specs.States as t
use Rattle.lower_notes.specs.States.{Change, with_local}
use Rattle.note_states.specs.declared.states.Deferred.{Deferred}
use Rattle.note_states.specs.declared.states.State.{State}
use Rattle.note_states.specs.declared.standing.Standing.{Standing}

abbrev pub deferred_of : Deferred → t.Deferred
deferred_of d = record { entry = d.entry; locals = sorts_of d.locals.value.items }

unfoldable pub state_of : State → t.State
state_of x = record {
  func = x.func;
  arm = option_map sort_of x.arm;
  locals = sorts_of x.locals.value.items;
  stack = reverse (sorts_of x.stack.items);
  tries = reverse (map mark_of x.tries.items);
  block = x.block;
  outer = x.outer.items;
  under = x.under;
  defers = reverse (map deferred_of x.defers.items);
}

-- the first operations of blocks
abbrev pub entries_of : List t.Deferred → List ℕ
entries_of = map (λ (d : t.Deferred). d.entry)

-- a local, which is none where there is no such local
abbrev pub or_none : Option Sort → Sort
or_none None = s.none
or_none (Some a) = a

-- the block that was deferred last runs
abbrev pub ran : List t.Deferred → Change
ran [] x = x
ran (d ∷ ds) x = record x { defers = ds; locals = d.locals }

abbrev pub run_one : Change
run_one x = ran x.defers x

-- a local is of this sort
abbrev pub with_set : ℕ → Sort → Change
with_set l a x = record x { locals = with_local l a x.locals }

-- a state or none
abbrev pub standing_of : Standing → Option t.State
standing_of x = option_map state_of x.state
