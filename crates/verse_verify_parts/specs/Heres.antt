-- An operation and the state at it, as the definitions see them.
use Rattle.std.specs.Prelude.{ℕ, List, ◌++◌, Option, Some, None, Bool, false, ◌&&◌, map, reverse}
use Rattle.std.specs.Prelude.{cond, slice_get}
use Rattle.verse_code.specs.declared.codes.Code.{Code}
use Rattle.verse_meaning_state.specs.Waits.{eqn}
use Rattle.verse_sorts.specs.Sorts as s
use Rattle.verse_verify_kept.specs.Notes as n
use Rattle.verse_verify_faults.specs.Spots as p
use Rattle.verse_verify_faults.specs.Stepping.{Stepped, Goes}
use Rattle.verse_verify_faults.specs.Faults.{by_step, all_suit, same_arm, same_number, same_numbers}
use Rattle.verse_verify_faults.specs.Faults.{keeps_8}
use Rattle.verse_verify_faults.specs.Faults.{keeps_9}
use Rattle.verse_verify_notes.specs.declared.sorts.Sort.{Sort}
use Rattle.verse_verify_notes.specs.View.{sorts_of, spot_of, table_of}
use Rattle.verse_verify_parts.specs.declared.heres.Here.{Here}

abbrev pub code_in : Here → Code
code_in h = h.code.now

abbrev pub table_in : Here → p.Table
table_in h = table_of h.table.now

abbrev pub classes_in : Here → List n.ClassNote
classes_in h = (table_in h).classes

abbrev pub spot_in : Here → p.Spot
spot_in h = spot_of h.spot.now

-- the open Trys of a frame, by their indices
abbrev pub names_of : p.Spot → List ℕ
names_of q = map (λ (m : p.Mark). m.index) q.tries ++ q.outer

abbrev pub names_in : Here → List ℕ
names_in h = names_of (spot_in h)

abbrev pub is_this : Option ℕ → ℕ → Bool
is_this None x = false
is_this (Some n) x = eqn x n

-- a number is the one at a place
abbrev pub is_at : List ℕ → ℕ → ℕ → Bool
is_at ns i x = is_this (slice_get ns i) x

-- operands, of which the top is the last in memory
abbrev pub operands : List Sort → List s.Sort
operands st = reverse (sorts_of st)

-- of one arm and deferred block
abbrev pub kind_of : p.Spot → p.Spot → Bool
kind_of p q = same_arm p.arm q.arm && same_number p.block q.block && same_numbers p.outer q.outer

abbrev pub near : p.Spot → p.Spot → Bool
near p q = kind_of p q && eqn p.under q.under

-- of one function, arm and block, with these blocks deferred then
abbrev pub placed : p.Spot → List ℕ → p.Spot → Bool
placed p ds q = eqn p.func q.func && (near p q && same_numbers ds q.defers)

-- whether all states to which it leads suit
abbrev pub suited : Here → List Goes → Bool
suited h gs = all_suit (code_in h) (table_in h) (spot_in h) gs

-- the least rule that is broken where this is what the operation does
abbrev pub rule_by : Here → Stepped → Option ℕ
rule_by h q = by_step (code_in h) (table_in h) h.index (spot_in h) h.op q

-- the same, where it is known whether the next states suit
abbrev pub settled : Here → Bool → List ℕ → Option n.FuncNote → Option ℕ
settled h suit ws callee =
    cond suit (cond (keeps_8 (code_in h) (table_in h) h.index (spot_in h) h.op ws callee)
    (cond (keeps_9 (code_in h) (table_in h) h.index (spot_in h) h.op callee) None (Some 9))
    (Some 8)) (Some 7)
