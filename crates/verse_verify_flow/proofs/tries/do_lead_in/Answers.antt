use Rattle.std.specs.Prelude.{None}
use Rattle.verse_verify_next.specs.Leads.{goes_to, goes_in}
use Rattle.verse_verify_flow.proofs.Both.{first_no}
use Rattle.verse_verify_flow.proofs.tries.do_lead_in.Goals as goal

pub returns-else-does_lead_in : goal.returns-else-does_lead_in
returns-else-does_lead_in c =
    let h = c.args.here.now in
    first_no h (goes_in h c.args.st.now) (goes_to h c.args.label None c.args.st.now) c.does_lead_in.result c.does_lead_in.ensures
    c.if-does_lead_in.false
