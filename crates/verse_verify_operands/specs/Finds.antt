-- What an operation finds, as a result: what the definitions pass on, or the rule that they break.
use Rattle.std.specs.Prelude.{ℕ, zero, suc, List, [], ◌∷◌, length, Option, Some, None, Result, Ok}
use Rattle.std.specs.Prelude.{Err, cond, nat_lt, slice_get}
use Rattle.verse_code.specs.declared.operations.Op.{Op}
use Rattle.verse_code.specs.declared.codes.Code.{Code}
use Rattle.verse_sorts.specs.Sorts as s
use Rattle.verse_sorts.specs.Sorts.{Sort}
use Rattle.verse_verify_kept.specs.Notes.{ClassNote, FuncNote}
use Rattle.verse_verify_kept.specs.Rules.{at_sort}
use Rattle.verse_verify_faults.specs.Spots.{Table}
use Rattle.verse_verify_faults.specs.Stepping as t
use Rattle.verse_verify_faults.specs.Stepping.{Stepped, Taking, breaks, slots_at, note_of}
use Rattle.verse_verify_faults.specs.Stepping.{methods_of, step}
use Rattle.verse_verify_notes.specs.declared.sorts.Sort as made
use Rattle.verse_verify_parts.specs.declared.heres.Here.{Here}
use Rattle.verse_verify_parts.specs.Heres.{code_in, table_in, spot_in, operands, rule_by}
use Rattle.verse_verify_parts.specs.Mades.{made_of}
use Rattle.verse_verify_operands.specs.declared.finding.Taking.{Taking as Takes}

-- so many operands, in the order in which they were pushed, and those beneath them
abbrev pub popped : ℕ → List Sort → List Sort → Option (List Sort × List Sort)
popped zero st xs = Some (xs, st)
popped (suc n) [] xs = None
popped (suc n) (a ∷ st) xs = popped n st (a ∷ xs)

abbrev pub on_popped : Option (List Sort × List Sort) → (List Sort → List Sort → Stepped) → Stepped
on_popped None go = breaks 4
on_popped (Some r) go = go r.0 r.1

abbrev pub found : Result Sort ℕ → (Sort → Stepped) → Stepped
found (Ok a) go = go a
found (Err rule) go = breaks rule

abbrev pub there : {A : Type 0} → ℕ → Option A → Result A ℕ
there rule None = Err rule
there rule (Some a) = Ok a

abbrev pub item_in : Sort → ℕ → Result Sort ℕ
item_in (s.tuple xs) k = there 6 (at_sort xs k)
item_in s.never k = Ok s.never
item_in a k = Err 5

abbrev pub task_of : Sort → Option Sort
task_of (s.task a) = Some a
task_of s.never = Some s.never
task_of a = None

abbrev pub heard_of : Sort → Option Sort
heard_of (s.event a) = Some a
heard_of s.never = Some s.never
heard_of a = None

abbrev pub method_there : Option FuncNote → Result (Option FuncNote) ℕ
method_there None = Err 6
method_there (Some g) = Ok (Some g)

-- the method of an object, or nothing where there is no value
abbrev pub method_in : Code → Table → Sort → ℕ → Result (Option FuncNote) ℕ
method_in c t (s.obj k) m = method_there
    (note_of t.functions (methods_of (slice_get c.classes k) m))
method_in c t s.never m = Ok None
method_in c t a m = Err 5

abbrev pub on_found : Result (Option FuncNote) ℕ → Stepped → (FuncNote → Stepped) → Stepped
on_found (Err rule) nothing go = breaks rule
on_found (Ok None) nothing go = nothing
on_found (Ok (Some g)) nothing go = go g

abbrev pub seen : {A B : Type 0} → (A → B) → Result A ℕ → Result B ℕ
seen f (Ok a) = Ok (f a)
seen f (Err rule) = Err rule

-- what Take writes
abbrev pub written_of : Taking → t.Made × t.Made × ℕ × t.Made
written_of k = (t.is k.value, t.is k.beside, k.far, t.is k.last)

abbrev pub writes_of : Takes → t.Made × t.Made × ℕ × t.Made
writes_of k = (made_of k.value, made_of k.beside, k.far, made_of k.last)

-- the least of V4 to V9 that an operation breaks where these are its operands
abbrev pub broken : Here → Op → List made.Sort → Option ℕ
broken h op st = rule_by h (step (code_in h) (table_in h) (spot_in h) h.index op (operands st))
