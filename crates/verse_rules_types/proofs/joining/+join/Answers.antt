use Rattle.std.proofs.Common.{arith, ◌≡◌, ◌+◌, ◌++◌, [], ◌∷◌, Some, None, List, drop, map, ap, sym, ◌∙◌}
use Rattle.std.proofs.lemmas.Grind.{common_steps}
use Rattle.verse_tree.specs.declared.tables.Ty.{Ty as Made}
use Rattle.verse_rules_types.specs.Types.{no_tys, ty_of, tys, classes_of}
use Rattle.verse_rules_types.specs.Fitting.{all_joined, one_more}
use Rattle.verse_rules_types.proofs.Before.{before, before_push, before_none, before_end}
use Rattle.verse_rules_types.proofs.joining.+join.Goals as goal

pub all_joined-returns-in_default : goal.all_joined-returns-in_default
all_joined-returns-in_default t c =
    let left = all_joined (classes_of c.args.classes.now) (tys (map ty_of (drop c.loop-ty.ty-index c.args.types.now)))
    (tys (map ty_of c.loop-ty.rest.now)) in
    let uneven : None ≡ left = grind (arith, common_steps) in
    sym (before_none c.loop-ty.joined) ∙ (ap (before c.loop-ty.joined) uneven ∙ c.loop-ty.invariant)

pub all_joined-loop-ty-preserved : goal.all_joined-loop-ty-preserved
all_joined-loop-ty-preserved t c =
    let cs = classes_of c.args.classes.now in
    let joined = c.in_ok-join_of.field-0 in
    let left = all_joined cs (tys (map ty_of (drop (c.loop-ty.ty-index + 1) c.args.types.now))) (tys (map ty_of c.in-Some.more.now)) in
    let step : all_joined cs (tys (map ty_of (drop c.loop-ty.ty-index c.args.types.now))) (tys (map ty_of c.loop-ty.rest.now)) ≡
    one_more (ty_of joined) left = grind (arith, common_steps) in
    let new : c.push.new.self ≡ c.loop-ty.joined ++ joined ∷ [] = grind (arith, common_steps) in
    ap (λ (ts : List Made). before ts left) new ∙
    (before_push c.loop-ty.joined joined left ∙ (ap (before c.loop-ty.joined) (sym step) ∙ c.loop-ty.invariant))

pub all_joined-returns-in-None : goal.all_joined-returns-in-None
all_joined-returns-in-None t c =
    let left = all_joined (classes_of c.args.classes.now) (tys (map ty_of (drop c.loop-ty.ty-index c.args.types.now)))
    (tys (map ty_of c.loop-ty.rest.now)) in
    let end : Some no_tys ≡ left = grind (arith, common_steps) in
    sym (before_end c.loop-ty.joined) ∙ (ap (before c.loop-ty.joined) end ∙ c.loop-ty.invariant)

pub all_joined-returns-in-Some-split_first : goal.all_joined-returns-in-Some-split_first
all_joined-returns-in-Some-split_first t c =
    let left = all_joined (classes_of c.args.classes.now) (tys (map ty_of (drop c.loop-ty.ty-index c.args.types.now)))
    (tys (map ty_of c.loop-ty.rest.now)) in
    let uneven : None ≡ left = grind (arith, common_steps) in
    sym (before_none c.loop-ty.joined) ∙ (ap (before c.loop-ty.joined) uneven ∙ c.loop-ty.invariant)
