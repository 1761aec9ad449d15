use Rattle.std.proofs.Common.{◌≡◌, ◌∷◌, [], suc, sym, ap, ◌∙◌}
use Rattle.std.specs.Prelude.{Some}
use Rattle.verse_verify_parts.specs.declared.mades.Made.TheVariants as m
use Rattle.verse_verify_parts.specs.Heres.{suited}
use Rattle.verse_verify_next.specs.Leads.{arm_begins, goes_to}
use Rattle.verse_verify_tasks.proofs.Grouping.{first_fails, second_tells}
use Rattle.verse_verify_tasks.proofs.groups.does_branch.Goals as goal

pub returns-then-not-does_arm_begin : goal.returns-then-not-does_arm_begin
returns-then-not-does_arm_begin c =
    let h = c.args.here.now in
    let begun : suited h (arm_begins h (suc h.index) ∷ []) ≡ c.does_arm_begin.result = sym (c.does_arm_begin.ensures ∙ ap (λ n. suited h
    (arm_begins h n ∷ [])) c.next.ensures) in
    first_fails h (arm_begins h (suc h.index)) (goes_to h c.args.label (Some m.Unit) c.args.st.now ∷ [])
    (begun ∙ c.if-not-does_arm_begin.true)

pub returns : goal.returns
returns c =
    let h = c.args.here.now in
    let begun : suited h (arm_begins h (suc h.index) ∷ []) ≡ c.does_arm_begin.result = sym (c.does_arm_begin.ensures ∙ ap (λ n. suited h
    (arm_begins h n ∷ [])) c.next.ensures) in
    c.does_lead_to.ensures ∙ second_tells h (arm_begins h (suc h.index)) (goes_to h c.args.label (Some m.Unit) c.args.st.now ∷ [])
    (begun ∙ c.if-not-does_arm_begin.false)
