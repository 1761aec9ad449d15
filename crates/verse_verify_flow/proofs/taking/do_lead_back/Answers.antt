use Rattle.std.proofs.Common.{◌≡◌, [], ◌∷◌, suc, ap, ◌∙◌}
use Rattle.std.specs.Prelude.{None}
use Rattle.verse_verify_parts.specs.Heres.{suited}
use Rattle.verse_verify_next.specs.Leads.{goes_to, goes_written}
use Rattle.verse_verify_flow.proofs.Both.{first_no}
use Rattle.verse_verify_flow.proofs.taking.do_lead_back.Goals as goal

pub returns-else-does_lead_to : goal.returns-else-does_lead_to
returns-else-does_lead_to c =
    let h = c.args.here.now in
    let st = c.args.st.now in
    let this : c.does_lead_to.result ≡ suited h (goes_to h (suc h.index) None st ∷ []) =
    c.does_lead_to.ensures ∙ ap (λ j. suited h (goes_to h j None st ∷ [])) c.next.ensures in
    first_no h (goes_to h (suc h.index) None st) (goes_written h c.args.label c.args.writes.now st) c.does_lead_to.result this
    c.if-does_lead_to.false
