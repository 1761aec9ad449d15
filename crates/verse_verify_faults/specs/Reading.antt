-- Notes in bytes (V1), read from the left up to the first failing place, and what a verifier
-- answers.
use Rattle.std.specs.Prelude.{ℕ, zero, suc, ◌-◌, Bool, true, false, nat_lt, ◌||◌, ◌==◌, cond, List}
use Rattle.std.specs.Prelude.{[], ◌∷◌, length, Option, Some}
use Rattle.std.specs.Prelude.{None, Result, Ok, Err, slice_get, reverse}
use Rattle.verse_code.specs.declared.operations.Op.{Op}
use Rattle.verse_code.specs.declared.codes.Func.{Func}
use Rattle.verse_code.specs.declared.codes.Class.{Class}
use Rattle.verse_code.specs.declared.codes.Code.{Code}
use Rattle.verse_code.specs.Operations.{code_of}
use Rattle.verse_image.specs.declared.faults.Flaw.{Flaw}
use Rattle.verse_image.specs.Reading.{Reader, flaw, within_at, number_at, many_at}
use Rattle.verse_sorts.specs.Sorts as s
use Rattle.verse_sorts.specs.Sorts.{Sort}
use Rattle.verse_verify_kept.specs.Notes.{ClassNote, FuncNote}
use Rattle.verse_verify_kept.specs.Rules.{sorts}
use Rattle.verse_verify_faults.specs.Spots.{Mark, Spot, Table}
use Rattle.verse_verify_faults.specs.Faults.{notes_fault}

-- reads one thing, and then another
abbrev pub after : {A B : Type 0} → Result (A × List ℕ) Flaw → (A → Reader B) →
    Result (B × List ℕ) Flaw
after (Err f) go = Err f
after (Ok x) go = go x.0 x.1

abbrev pub answers : {A : Type 0} → A → Reader A
answers a bytes = Ok (a, bytes)

abbrev pub below : ℕ → Reader ℕ
below end bytes = within_at 0 end bytes

abbrev pub option_at : {A : Type 0} → Reader A → Reader (Option A)
option_at one bytes = after (below 2 bytes)
    (λ b rest. cond (nat_lt 0 b) (after (one rest) (λ a. answers (Some a))) (answers None rest))

abbrev pub list_at : {A : Type 0} → Reader A → Reader (List A)
list_at one bytes = after (number_at bytes) (λ n rest. many_at one n rest)

module _ (c : Code) where
  -- the sorts without parts, by their tags
  abbrev pub plain_sorts : List Sort
  plain_sorts = s.none ∷ s.any ∷ s.never ∷ s.unit ∷ s.nil ∷ s.int ∷ s.logic ∷ s.char ∷ s.span ∷ []

  -- the others, by what their tag is above
  abbrev pub sort_of_parts : ℕ → Reader Sort → Reader Sort
  sort_of_parts zero one bytes = after (number_at bytes) (λ e. answers (s.enum e))
  sort_of_parts (suc zero) one bytes =
      after (below (length c.classes) bytes) (λ k. answers (s.obj k))
  sort_of_parts (suc (suc zero)) one bytes = after (one bytes) (λ a. answers (s.var a))
  sort_of_parts (suc (suc (suc zero))) one bytes = after (one bytes) (λ a. answers (s.event a))
  sort_of_parts (suc (suc (suc (suc zero)))) one bytes = after (one bytes) (λ a. answers (s.task a))
  sort_of_parts (suc (suc (suc (suc (suc zero))))) one bytes =
      after (one bytes) (λ a. answers (s.opt a))
  sort_of_parts (suc (suc (suc (suc (suc (suc zero)))))) one bytes =
      after (one bytes) (λ a. answers (s.list a))
  sort_of_parts (suc (suc (suc (suc (suc (suc (suc zero))))))) one bytes =
      after (one bytes) (λ k rest. after (one rest) (λ a. answers (s.map k a)))
  sort_of_parts (suc (suc (suc (suc (suc (suc (suc (suc n)))))))) one bytes =
      after (list_at one bytes) (λ xs. answers (s.tuple (sorts xs)))

  abbrev pub sort_with : Option Sort → ℕ → Reader Sort → Reader Sort
  sort_with (Some a) tag one bytes = Ok (a, bytes)
  sort_with None tag one bytes = sort_of_parts (tag - 9) one bytes

  -- a sort, of at most so many levels
  abbrev pub sort_in : ℕ → Reader Sort
  sort_in zero bytes = after (below 18 bytes) (λ tag rest. Err (flaw 1 (length bytes)))
  sort_in (suc levels) bytes = after (below 18 bytes)
      (λ tag rest. sort_with (slice_get plain_sorts tag) tag (sort_in levels) rest)

  abbrev pub sort_at : Reader Sort
  sort_at = sort_in 40

  abbrev pub parent_from : ℕ → Option ℕ
  parent_from zero = None
  parent_from (suc b) = Some b

  abbrev pub class_at : Class → Reader ClassNote
  class_at k bytes = after (below (suc (length c.classes)) bytes)
      (λ b rest. after (many_at sort_at k.slots rest) (λ xs. answers (record {
        parent = parent_from b;
        slots = xs;
      })))

  abbrev pub func_at : Func → Reader FuncNote
  func_at f bytes = after (many_at sort_at f.params bytes)
      (λ xs rest. after (sort_at rest)
      (λ a rest. after (below 2 rest)
      (λ fails rest. after (below 2 rest) (λ waits. answers (record {
        params = xs;
        result = a;
        may_fail = nat_lt 0 fails;
        may_wait = nat_lt 0 waits;
      })))))

  abbrev pub each_at : {A B : Type 0} → (A → Reader B) → List A → Reader (List B)
  each_at one [] bytes = Ok ([], bytes)
  each_at one (a ∷ xs) bytes = after (one a bytes)
      (λ b rest. after (each_at one xs rest) (λ ys. answers (b ∷ ys)))

  abbrev pub op_index : Reader ℕ
  op_index = below (length c.ops)

  abbrev pub mark_at : Reader Mark
  mark_at bytes = after (op_index bytes)
      (λ i rest. after (number_at rest) (λ h. answers (record { index = i; height = h })))

  -- a code that defers tells of each state its block, the Trys around that, how many blocks are
  -- deferred beneath it, and those since
  abbrev pub defers_in : List Op → Bool
  defers_in [] = false
  defers_in (op ∷ ops) = nat_lt 63 (code_of op) || defers_in ops

  abbrev pub block_at : Spot → Reader Spot
  block_at p bytes = after (option_at op_index bytes)
      (λ block rest. after (list_at op_index rest)
      (λ outer rest. after (number_at rest)
      (λ under rest. after (list_at op_index rest)
      (λ ds. answers (record p { block = block; outer = outer; under = under; defers = ds })))))

  abbrev pub locals_of : Option Func → ℕ
  locals_of None = 0
  locals_of (Some f) = f.locals

  abbrev pub with_block : Bool → Spot → Reader Spot
  with_block true p bytes = block_at p bytes
  with_block false p bytes = Ok (p, bytes)

  abbrev pub spot_from : Bool → Reader Spot
  spot_from blocks bytes = after (below (length c.functions) bytes)
      (λ f rest. after (option_at sort_at rest)
      (λ arm rest. after (many_at sort_at (locals_of (slice_get c.functions f)) rest)
      (λ ls rest. after (list_at sort_at rest)
      (λ st rest. after (list_at mark_at rest) (λ ms rest. with_block blocks (record {
        func = f;
        arm = arm;
        locals = ls;
        stack = reverse st;
        tries = reverse ms;
        block = None;
        outer = [];
        under = 0;
        defers = [];
      }) rest)))))

  abbrev pub spots_at : List Op → Reader (List (Option Spot))
  spots_at ops bytes = each_at (λ (op : Op). option_at (spot_from (defers_in ops))) ops bytes

  -- VSNT; the fault of a byte that differs is at the first
  abbrev pub marked : List ℕ → ℕ → Reader (List ℕ)
  marked [] all bytes = Ok ([], bytes)
  marked (m ∷ ms) all [] = Err (flaw 1 0)
  marked (m ∷ ms) all (b ∷ bytes) = cond (b == m) (marked ms all bytes) (Err (flaw 1 all))

  abbrev pub mark : List ℕ
  mark = 86 ∷ 83 ∷ 78 ∷ 84 ∷ []

  abbrev pub ends : Table → List ℕ → Result Table Flaw
  ends t [] = Ok t
  ends t (b ∷ bytes) = Err (flaw 1 (suc (length bytes)))

  abbrev pub whole : Result (Table × List ℕ) Flaw → Result Table Flaw
  whole (Err f) = Err f
  whole (Ok x) = ends x.0 x.1

  abbrev pub notes_at : List ℕ → Result Table Flaw
  notes_at bytes = whole (after (marked mark (length bytes) bytes)
      (λ m rest. after (each_at class_at c.classes rest)
      (λ cs rest. after (each_at func_at c.functions rest)
      (λ fs rest. after (spots_at c.ops rest) (λ ps. answers (record {
        classes = cs;
        functions = fs;
        spots = ps;
      }))))))

  -- the rule that bytes break as notes of the code, and where: an offset, a number of V2, or an
  -- operation
  abbrev pub fault_in : ℕ → Result Table Flaw → Option (ℕ × ℕ)
  fault_in all (Err f) = Some (1, all - f.left)
  fault_in all (Ok t) = notes_fault c t

  abbrev pub verdict : List ℕ → Option (ℕ × ℕ)
  verdict bytes = fault_in (length bytes) (notes_at bytes)
