use Rattle.std.proofs.Common.{◌≡◌, drop}
use Rattle.verse_value.specs.View.{vals_of}
use Rattle.verse_value.specs.Operations.{join_of, holes_bytes}
use Rattle.vm_ops.proofs.Shown.{text_from}
use Rattle.vm_ops.proofs.texts.shown.Given as goal

abbrev pub invariant-parts : goal.invariant-parts
invariant-parts l = text_from l.bytes.items (holes_bytes (vals_of (drop l.part-index l.parts))) ≡ join_of (vals_of l.parts)
