-- Parts of the rules.
use Rattle.std.specs.Prelude.{Bool, ◌&&◌, ◌||◌, Option}
use Rattle.verse_verify_kept.specs.Notes.{FuncNote}
use Rattle.verse_verify_faults.specs.Faults as f
use Rattle.verse_verify_parts.specs.declared.heres.Here.{Here}
use Rattle.verse_verify_parts.specs.Heres.{code_in, table_in}

module _ (h : Here) where
  -- the operation, or the function that it calls, may fail, or wait; it spawns one that may fail
  abbrev pub fails : Option FuncNote → Bool
  fails g = f.can_fail (code_in h) (table_in h) h.op ||
      (f.is_call (code_in h) (table_in h) h.op &&
      f.callee_is (code_in h) (table_in h) g (λ g. g.may_fail))

  abbrev pub waits : Option FuncNote → Bool
  waits g = f.can_wait (code_in h) (table_in h) h.op ||
      (f.is_call (code_in h) (table_in h) h.op &&
      f.callee_is (code_in h) (table_in h) g (λ g. g.may_wait))

  abbrev pub spawns_failing : Option FuncNote → Bool
  spawns_failing g = f.is_spawn (code_in h) (table_in h) h.op &&
      f.callee_is (code_in h) (table_in h) g (λ g. g.may_fail)
