-- The flow of accepted files' code comes to nothing that is stuck by construction.
use Rattle.std.specs.Prelude.{ℕ, Bool, List, map}
use Rattle.verse_tree.specs.ItemView.{item_of}
use Rattle.verse_tree.specs.declared.programs.Program.{Program as Made}
use Rattle.verse_accept.specs.Fronts.{Accepts}
use Rattle.verse_code_flow.specs.Flow.{FlowGoes}
use Rattle.verse_meaning.specs.Programs.{program_of}
use Rattle.lower_code.specs.Programs.{code_of}
use Rattle.verse_accept_sound.specs.Laws.{IsTold}

abbrev pub AcceptedFlowGoes : Type 0
AcceptedFlowGoes = (files : List (List ℕ)) (made : Made) →
    Accepts files (map item_of made.tree.items) → IsTold made →
    (differ : ℕ → ℕ → Bool) (count : ℕ) → FlowGoes (code_of (program_of made) differ count)
