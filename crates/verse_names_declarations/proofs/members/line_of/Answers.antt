use Rattle.std.proofs.Common.{◌≡◌, ◌<◌, ◌+◌, ◌-◌, ◌++◌, length, ap, sym, ◌∙◌, arith}
use Rattle.std.specs.Prelude.{Some}
use Rattle.std.proofs.lemmas.List.{length-map}
use Rattle.verse_rules_types.specs.Types.{class_of, classes_of}
use Rattle.verse_rules_types.specs.Fitting.{parent_of}
use Rattle.verse_names_declarations.specs.Lines.{line}
use Rattle.verse_names_declarations.proofs.Climbing.{up}
use Rattle.verse_names_declarations.proofs.members.line_of.Goals as goal

pub steps-preserved : goal.steps-preserved
steps-preserved c =
    let cs = classes_of c.args.outline.now in
    let n = length cs in
    let h : c.steps._i < n = omega (arith, length-map c.args.outline.now class_of) in
    let e : parent_of cs c.steps.at ≡ Some c.in-Some.up = sym c.parent.ensures ∙ c.in-Some.is in
    ap (λ l. l ++ line cs (n - (c.steps._i + 1)) c.in-Some.up) c.in_ok-push.ensures.ok ∙
    sym (up cs c.steps.found n c.steps._i c.steps.at c.in-Some.up h e) ∙ c.steps.invariant
