-- The text of a run: its trace, its heap where that is asked for, and its ending.
use Rattle.std.specs.Prelude.{ℕ, suc, ◌+◌, List, [], ◌∷◌, ◌++◌, Bool, Option, Some, None, cond}
use Rattle.std.specs.Prelude.{nat_le, codes, decimal}
use Rattle.verse_base.specs.declared.places.Place.{Place}
use Rattle.verse_base.specs.declared.refusals.Kind.{Kind}
use Rattle.verse_base.specs.declared.refusals.Kind.TheVariants as kind
use Rattle.verse_value.specs.Val.{Val}
use Rattle.verse_value.specs.Store.{Store, Cell}
use Rattle.verse_value.specs.Texts.{text_of}
use Rattle.verse_value.specs.Runs.{Run}
use Rattle.verse_value.specs.declared.runs.CellKind.{CellKind}
use Rattle.verse_value.specs.declared.runs.CellKind.TheVariants as cell
use Rattle.verse_value.specs.declared.runs.Ending.{Ending}
use Rattle.verse_value.specs.declared.runs.Ending.TheVariants as ending
use Rattle.verse_meaning_state.specs.Effects.{printed}

-- each slot with a blank before it
abbrev pub slots_text : List Val → List ℕ
slots_text [] = []
slots_text (v ∷ vs) = 32 ∷ (text_of v ++ slots_text vs)

abbrev pub kind_text : CellKind → List ℕ
kind_text cell.Var = codes "var"
kind_text (cell.Object class) = codes "obj " ++ decimal class
kind_text cell.Event = codes "event"

abbrev pub cell_line : ℕ → Cell → List ℕ
cell_line address c = 64 ∷ (decimal address ++ 32 ∷
    (kind_text c.kind ++ (slots_text c.slots ++ 10 ∷ [])))

-- a line for each cell, by address
abbrev pub heap_lines : ℕ → Store → List ℕ
heap_lines address [] = []
heap_lines address (c ∷ cells) = cell_line address c ++ heap_lines (suc address) cells

-- the file's number from 1 stands before line and column where there are several files
abbrev pub place_text : ℕ → Place → List ℕ
place_text files p = cond (nat_le 2 files) (decimal (p.file + 1) ++ codes ":") [] ++
    (decimal p.line ++ (codes ":" ++ decimal p.col))

abbrev pub error_name : Kind → List ℕ
error_name kind.Overflow = codes "K1"
error_name kind.Size = codes "K2"
error_name kind.Store = codes "K3"
error_name kind.Trace = codes "K4"

abbrev pub ending_name : ℕ → Ending → List ℕ
ending_name files ending.Done = codes "done"
ending_name files ending.Waiting = codes "waiting"
ending_name files ending.Until = codes "until"
ending_name files ending.Steps = codes "steps"
ending_name files (ending.Error k p) =
    codes "error " ++ (error_name k ++ (codes " " ++ place_text files p))
ending_name files ending.Stuck = codes "stuck"

abbrev pub live_text : Option ℕ → List ℕ
live_text None = []
live_text (Some live) = codes " live " ++ decimal live

abbrev pub ending_line : ℕ → Run → List ℕ
ending_line files r = codes "= " ++
    (ending_name files r.ending ++
    (codes " at " ++ (decimal r.now ++
    (codes " steps " ++ (decimal r.steps ++ (live_text r.live ++ codes "\n"))))))

abbrev pub run_text : Run → (heap : Bool) → (files : ℕ) → List ℕ
run_text r heap files = printed r.trace ++
    (cond heap (heap_lines 0 r.store) [] ++ ending_line files r)
