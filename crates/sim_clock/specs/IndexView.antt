-- Which numbers stand where in an index.
use Rattle.std.specs.Prelude.{ℕ, ◌+◌, Bool, false}
use Rattle.std.specs.BTreeSet.{btree_set_len}
use Rattle.sim_clock.specs.Marked.{has}
use Rattle.sim_clock.specs.Queued.{has_in}
use Rattle.sim_clock.specs.declared.places.Where.{Where}
use Rattle.sim_clock.specs.declared.places.Where.TheVariants.{Timed, OnEvent, OnTask, Woken}
use Rattle.sim_clock.specs.declared.places.Where.TheVariants.{Nowhere}
use Rattle.sim_clock.specs.declared.index.Index.{Index}

abbrev pub holds : Index → Where → ℕ → Bool
holds i (Timed at) number = has i.timed.set at number
holds i (OnEvent cell) number = has i.on_events.set cell number
holds i (OnTask task) number = has i.on_tasks.set task number
holds i (Woken at) number = has_in i.woken.pairs at number
holds i Nowhere number = false

-- how many wait for an event or a task
abbrev pub asleep_count : Index → ℕ
asleep_count i = btree_set_len i.on_events.set + btree_set_len i.on_tasks.set
