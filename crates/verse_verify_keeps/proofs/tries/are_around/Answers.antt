use Rattle.std.proofs.Common.{◌≡◌, ◌+◌, drop, true, sym, ap, ◌∙◌}
use Rattle.std.specs.Prelude.{◌&&◌, Some, slice_get}
use Rattle.verse_verify_faults.specs.Faults.{is_around, all_around}
use Rattle.verse_verify_parts.specs.Heres.{code_in, table_in, names_in}
use Rattle.verse_verify_parts.proofs.Naming.{from_name}
use Rattle.verse_verify_keeps.proofs.tries.are_around.Goals as goal

pub names-preserved : goal.names-preserved
names-preserved c =
    let h = c.args.here.now in
    let ns = names_in h in
    let name = c.in-Some.name in
    let there : slice_get ns c.names.at ≡ Some name = sym c.name_at.ensures ∙ c.in-Some.is in
    let this : is_around (code_in h) (table_in h) h.index name ≡ true = sym c.is_around.ensures ∙ c.if-not-is_around.false in
    sym (ap (all_around (code_in h) (table_in h) h.index) (from_name ns c.names.at name there) ∙
    ap (λ b. b && all_around (code_in h) (table_in h) h.index (drop (c.names.at + 1) ns)) this) ∙
    c.names.invariant
