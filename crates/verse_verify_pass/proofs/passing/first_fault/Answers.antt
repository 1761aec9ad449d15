use Rattle.std.proofs.Common.{◌≡◌, ◌<◌, drop, length, true, sym, ap, ◌∙◌, arith}
use Rattle.std.specs.Prelude.{Some, None, slice_get}
use Rattle.std.specs.Option.{option_copied}
use Rattle.verse_verify_faults.specs.Spots.{spot_at}
use Rattle.verse_verify_faults.specs.Faults as f
use Rattle.verse_verify_notes.specs.View.{table_of}
use Rattle.verse_verify_pass.proofs.Firsts.{entries_fit, breaks_here, goes_on, breaks_entry}
use Rattle.verse_verify_pass.proofs.passing.first_fault.Goals as goal

pub returns-in-Some-fault_here : goal.returns-in-Some-fault_here
returns-in-Some-fault_here c =
    let code = c.args.code.now in
    let t = table_of c.args.table.now in
    let i = c.ops.index in
    let op = c.in-Some.op.now in
    let there : slice_get code.ops i ≡ Some op = sym c.get.ensures.value ∙ ap option_copied c.in-Some.is in
    let fits : entries_fit code t i ≡ true = c.entry_fault-end.ensures.first i (omega (arith, c.ops-test.true)) in
    let this : f.fault_here code t i (spot_at t i) op ≡ Some c.in-Some-fault_here.rule =
    sym c.fault_here.ensures ∙ c.in-Some-fault_here.is in
    sym (breaks_here code t code.ops i op c.in-Some-fault_here.rule there fits this) ∙ c.ops.invariant

pub ops-preserved : goal.ops-preserved
ops-preserved c =
    let code = c.args.code.now in
    let t = table_of c.args.table.now in
    let i = c.ops.index in
    let op = c.in-Some.op.now in
    let there : slice_get code.ops i ≡ Some op = sym c.get.ensures.value ∙ ap option_copied c.in-Some.is in
    let fits : entries_fit code t i ≡ true = c.entry_fault-end.ensures.first i (omega (arith, c.ops-test.true)) in
    let this : f.fault_here code t i (spot_at t i) op ≡ None = sym c.fault_here.ensures ∙ c.in_default-fault_here.is in
    sym (goes_on code t code.ops i op there fits this) ∙ c.ops.invariant

pub returns-then-end-len : goal.returns-then-end-len
returns-then-end-len c =
    let code = c.args.code.now in
    let t = table_of c.args.table.now in
    let end = c.entry_fault-end.result in
    let within : end < length code.ops = omega (arith, c.if-end-len.true, c.len.ensures) in
    let there : end ≡ c.ops.index = omega (arith, c.ops-test.false, c.ops.auto.index-end) in
    sym (breaks_entry code t code.ops end within (c.entry_fault-end.ensures.broken within)) ∙
    ap (λ j. f.first_fault code t j (drop j code.ops)) there ∙ c.ops.invariant
