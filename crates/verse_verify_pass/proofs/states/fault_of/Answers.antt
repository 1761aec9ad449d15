use Rattle.std.proofs.Common.{◌<◌, ◌≤◌, length, sym, ◌∙◌, arith}
use Rattle.verse_verify_faults.specs.Faults.{pops}
use Rattle.verse_verify_parts.specs.Heres.{code_in, table_in, spot_in}
use Rattle.verse_verify_pass.proofs.Firsts.{lacks_operands, has_operands}
use Rattle.verse_verify_pass.proofs.states.fault_of.Goals as goal

pub returns-then-st-pops : goal.returns-then-st-pops
returns-then-st-pops c =
    let h = c.args.here.now in
    let few : length c.above-st.result.now < pops (code_in h) (table_in h) h.op = omega (arith, c.if-st-pops.true, c.pops.ensures) in
    sym (lacks_operands (code_in h) (table_in h) h.index (spot_in h) h.op c.above-st.result.now c.above-st.ensures few)

pub returns : goal.returns
returns c =
    let h = c.args.here.now in
    let all : pops (code_in h) (table_in h) h.op ≤ length c.above-st.result.now = omega (arith, c.if-st-pops.false, c.pops.ensures) in
    c.rule_of.ensures ∙ sym (has_operands (code_in h) (table_in h) h.index (spot_in h) h.op c.above-st.result.now c.above-st.ensures all)
