-- What files in memory show.
use Rattle.std.specs.Prelude.{ℕ, List, Option, option_map}
use Rattle.std.specs.BTreeMap.{get_by_text}
use Rattle.verse_outside.specs.declared.memory_files.MemFiles.{MemFiles}

-- the bytes held under a name
abbrev pub held_in : MemFiles → List ℕ → Option (List ℕ)
held_in f name = option_map (λ bytes. bytes.items) (get_by_text f.files name)

-- the loads so far
abbrev pub loads_of : MemFiles → ℕ
loads_of f = f.loads

-- the loads that are to fail, by their numbers from 0
abbrev pub failing_loads : MemFiles → List ℕ
failing_loads f = f.failing.items

-- the count of faults
abbrev pub load_faults : MemFiles → ℕ
load_faults f = f.faults
