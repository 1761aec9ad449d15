-- What the operations that begin tasks are, where operands are taken off and places moved.
use Rattle.std.specs.Prelude.{ℕ, List, [], ◌∷◌}
use Rattle.verse_base.specs.declared.places.Place.{Place}
use Rattle.verse_code.specs.declared.codes.Func.{Func}
use Rattle.verse_value.specs.Val.{Val}
use Rattle.verse_meaning_state.specs.Turns.{Kind}
use Rattle.verse_code_machine.specs.Tasks.{thread, branching, world, Next, machine, life_from}
use Rattle.verse_code_machine.specs.Tasks.{child_named}
use Rattle.verse_code_machine.specs.Acts.{spawns, groups}
use Rattle.vm_running.specs.Doings.{Doing, spends}

-- a task behind begins at a place
abbrev pub branches_at : ℕ → Doing
branches_at q w x s f fs =
    Next (machine (child_named w s.clock.left)
    (world x.pre x.post (branching (thread w f fs) ∷ x.ups) x.trees) s (life_from s.clock.left)
    f.locals [] q [] [])

abbrev pub branches : ℕ → Doing
branches q = spends (branches_at q)

abbrev pub spawns_task : Func → List Val → Doing
spawns_task func vs w x s f fs = spawns func vs (thread w f fs) x s

-- the frame stands behind its Arm operations
abbrev pub begins_group : Kind → Place → List ℕ → Doing
begins_group k p ls w x s f fs = groups k p ls f.place w x s f.life f.locals f.stack f.handlers fs
