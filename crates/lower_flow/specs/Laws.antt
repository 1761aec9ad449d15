-- The law of the flow: it comes to no operation that is stuck by construction.
use Rattle.std.specs.Prelude.{ℕ, Bool, All}
use Rattle.verse_tree.specs.PostOrder.{items_order}
use Rattle.verse_code_flow.specs.Flow.{FlowGoes}
use Rattle.verse_meaning.specs.Programs.{Program}
use Rattle.verse_sound_rules.specs.Programs.{FineProgram}
use Rattle.lower_code.specs.Programs.{code_of}
use Rattle.lower_simulation_runs.specs.Programs.{NodeStands}
use Rattle.lower_sound.specs.Programs.{ItemsFound}

-- Of a fine program, where the tables find each body, and patterns stand for values.
abbrev pub FineFlowGoes : Type 0
FineFlowGoes = (p : Program) (fine : FineProgram p) → ItemsFound p fine.found p.items →
    All (NodeStands p) (items_order p.items) →
    (differ : ℕ → ℕ → Bool) (files : ℕ) → FlowGoes (code_of p differ files)
