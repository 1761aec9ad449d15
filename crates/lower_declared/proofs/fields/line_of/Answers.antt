use Rattle.std.proofs.Common.{◌≡◌, ◌+◌, ◌-◌, [], ◌∷◌, ◌++◌, map, length, ap, sym, ◌∙◌}
use Rattle.std.proofs.lemmas.List.{map-append}
use Rattle.std.specs.Prelude.{Some}
use Rattle.std.specs.Option.{option_map}
use Rattle.lower_declared.specs.Views.{class_now}
use Rattle.lower_declared.specs.Fields.{line}
use Rattle.lower_declared.proofs.Lines.{up}
use Rattle.lower_declared.proofs.fields.line_of.Goals as goal

pub steps-preserved : goal.steps-preserved
steps-preserved c =
    let cs = map class_now c.args.classes.now in
    let n = length c.args.classes.now in
    let i = c.steps._i in
    let found = map class_now c.steps.found.items in
    let here = class_now c.in-Some.here in
    let added : map class_now c.push.new.self.items ≡ found ++ here ∷ [] =
    ap (map class_now) c.in_ok-push.ensures.items ∙ map-append class_now c.steps.found.items (c.in-Some.here ∷ []) in
    let was : option_map class_now c.steps.at ≡ Some here = ap (option_map class_now) c.in-Some.is in
    ap (λ l. l ++ line (n - (i + 1)) cs (option_map class_now c.parent_of-at.result)) added ∙
    ap (λ o. (found ++ here ∷ []) ++ line (n - (i + 1)) cs o) c.parent_of-at.ensures ∙
    sym (up cs found n i here c.steps-test.true) ∙
    ap (λ o. found ++ line (n - i) cs o) (sym was) ∙ c.steps.invariant
