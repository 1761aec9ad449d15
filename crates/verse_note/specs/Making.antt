-- The notes of a program, function by function.
use Rattle.std.specs.Prelude.{ℕ, suc, List, [], ◌∷◌, cond, nat_lt}
use Rattle.verse_tree.specs.declared.programs.Program.{Program}
use Rattle.verse_code.specs.declared.codes.Code.{Code}
use Rattle.verse_meaning.specs.Programs.{program_of}
use Rattle.verse_verify_kept.specs.Notes.{FuncNote}
use Rattle.lower_code.specs.Programs.{Body}
use Rattle.lower_lookup.specs.Types.{differ_of}
use Rattle.lower_notes.specs.States.{State}
use Rattle.lower_notes.specs.Stretches.{Walk}
use Rattle.lower_notes.specs.Programs as n
use Rattle.lower_notes.specs.Programs.{signed}
use Rattle.note_sorts.specs.Tabled.{found_of}

module _ (p : Program) (code : Code) where
  abbrev pub default_note : Body → FuncNote
  default_note = n.default_note (program_of p) (found_of p) (differ_of p) code

  abbrev pub all_notes : List FuncNote
  all_notes = n.func_notes (program_of p) (found_of p) (differ_of p) code

  -- the first functions, so many, are those of the program; the others are defaults
  abbrev pub note_of : (count k : ℕ) → Body → FuncNote
  note_of count k b = cond (nat_lt k count) (signed ((found_of p).signature k)) (default_note b)

  abbrev pub notes_from : (count k : ℕ) → List Body → List FuncNote
  notes_from count k [] = []
  notes_from count k (b ∷ bs) = note_of count k b ∷ notes_from count (suc k) bs

  abbrev pub entry_of : (k : ℕ) → State
  entry_of = n.entry_state (program_of p) (found_of p) (differ_of p) code

  abbrev pub body_walk : (k : ℕ) → Body → Walk
  body_walk = n.body_walk (program_of p) (found_of p) (differ_of p) code

  abbrev pub bodies_walk : (k : ℕ) → List Body → Walk
  bodies_walk = n.bodies_from (program_of p) (found_of p) (differ_of p) code
