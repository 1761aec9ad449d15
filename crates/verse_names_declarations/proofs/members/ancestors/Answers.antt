use Rattle.std.proofs.Common.{◌≡◌, ◌<◌, ◌+◌, ◌-◌, ◌++◌, length, ap, sym, ◌∙◌, arith}
use Rattle.std.specs.Prelude.{Some}
use Rattle.std.proofs.lemmas.List.{length-map}
use Rattle.verse_rules_types.specs.Types.{class_of, classes_of}
use Rattle.verse_rules_types.specs.Fitting.{parent_of}
use Rattle.verse_names_declarations.specs.Lines.{line, others}
use Rattle.verse_names_declarations.proofs.Climbing.{other_up}
use Rattle.verse_names_declarations.proofs.members.ancestors.Goals as goal

pub steps-preserved : goal.steps-preserved
steps-preserved c =
    let cs = classes_of c.args.outline.now in
    let d = c.args.class in
    let n = length cs in
    let h : c.steps._i < n = omega (arith, length-map c.args.outline.now class_of) in
    let e : parent_of cs c.steps.at ≡ Some c.in-Some-parent.up = sym c.parent-in-steps.ensures ∙ c.in-Some-parent.is in
    ap (λ l. l ++ others d (line cs (n - (c.steps._i + 1)) c.in-Some-parent.up)) c.in_ok-push_other.ensures ∙
    sym (other_up cs c.steps.found d n c.steps._i c.steps.at c.in-Some-parent.up h e) ∙ c.steps.invariant
