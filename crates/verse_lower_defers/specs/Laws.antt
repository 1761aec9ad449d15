-- The code of accepted files has the operations of deferred blocks for each `defer`.
use Rattle.std.specs.Prelude.{ℕ, Bool, List, map, All}
use Rattle.verse_tree.specs.ItemView.{item_of}
use Rattle.verse_tree.specs.PostOrder.{items_order}
use Rattle.verse_tree.specs.declared.programs.Program.{Program as Made}
use Rattle.verse_accept.specs.Fronts.{Accepts}
use Rattle.verse_meaning.specs.Programs.{program_of}
use Rattle.lower_code.specs.Programs.{code_of}
use Rattle.lower_code_defers.specs.Programs.{NodeShows}
use Rattle.lower_code_defers.specs.Laws.{DefersHaveCode}
use Rattle.verse_accept_sound.specs.Laws.{IsTold}

-- no `defer` stands in a part that has no code
abbrev pub OperandsShow : Made → Type 0
OperandsShow made = All (NodeShows (program_of made)) (items_order (map item_of made.tree.items))

abbrev pub AcceptedDefersShow : Type 0
AcceptedDefersShow = (files : List (List ℕ)) (made : Made) →
    Accepts files (map item_of made.tree.items) → IsTold made → OperandsShow made →
    (differ : ℕ → ℕ → Bool) (count : ℕ) →
    DefersHaveCode (program_of made) (code_of (program_of made) differ count).ops
