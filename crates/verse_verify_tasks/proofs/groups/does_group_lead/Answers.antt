use Rattle.std.proofs.Common.{◌≡◌, ◌∷◌, [], true, false, sym, ap, ◌∙◌}
use Rattle.std.specs.Prelude.{◌&&◌}
use Rattle.verse_verify_parts.specs.Heres.{suited}
use Rattle.verse_verify_tasks.specs.Arms.{do_begin, group_ends}
use Rattle.verse_verify_tasks.proofs.Grouping.{group_by}
use Rattle.verse_verify_tasks.proofs.groups.does_group_lead.Goals as goal

pub returns-then-not-do_begin : goal.returns-then-not-do_begin
returns-then-not-do_begin c =
    let h = c.args.here.now in
    sym (group_by h c.args.kind c.args.arms c.args.st.now ∙
    ap (λ b. b && suited h (group_ends h c.args.kind c.args.arms c.args.st.now ∷ [])) (sym c.do_begin.ensures ∙ c.if-not-do_begin.true))

pub returns : goal.returns
returns c =
    let h = c.args.here.now in
    c.does_group_end.ensures ∙ sym (group_by h c.args.kind c.args.arms c.args.st.now ∙ ap (λ b. b && suited h (group_ends h c.args.kind
    c.args.arms c.args.st.now ∷ [])) (sym c.do_begin.ensures ∙ c.if-not-do_begin.false))
