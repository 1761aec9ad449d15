use Rattle.std.proofs.Common.{◌≡◌, suc, ◌+◌, ◌-◌, ◌<◌, [], ◌∷◌, ◌++◌, sym, subst, ◌∙◌, arith, rules}
use Rattle.verse_code_machine.specs.Acts.{labels}
use Rattle.vm_exec_tasks.proofs.Starts.{onto, labels_stop, labels_step}
use Rattle.vm_exec_tasks.proofs.starting.labels_at.Goals as goal

pub returns-in_default : goal.returns-in_default
returns-in_default c =
    let lt : c.arms.arm < c.args.count = search rules in
    let more : c.args.count - c.arms.arm ≡ suc (c.args.count - (c.arms.arm + 1)) = omega (arith, lt) in
    labels_stop c.args.code.now.ops c.arms.starts.items (c.args.first + c.arms.arm) (c.args.count - (c.arms.arm + 1))
    (c.args.count - c.arms.arm) _ more (sym c.arm_at.ensures ∙ c.in_default.is) c.arms.invariant

pub arms-preserved : goal.arms-preserved
arms-preserved c =
    let lt : c.arms.arm < c.args.count = search rules in
    let more : c.args.count - c.arms.arm ≡ suc (c.args.count - (c.arms.arm + 1)) = omega (arith, lt) in
    let next : c.args.first + (c.arms.arm + 1) ≡ suc (c.args.first + c.arms.arm) = omega arith in
    let items : c.push.new.self.items ≡ c.arms.starts.items ++ (c.in-Some.label ∷ []) = search rules in
    subst (λ ls. onto ls (labels c.args.code.now.ops (c.args.first + (c.arms.arm + 1)) (c.args.count - (c.arms.arm + 1))) ≡
    labels c.args.code.now.ops c.args.first c.args.count) (sym items)
    (labels_step c.args.code.now.ops c.arms.starts.items c.in-Some.label (c.args.first + c.arms.arm) _ _
    (c.args.count - c.arms.arm) _ more next (sym c.arm_at.ensures ∙ c.in-Some.is) c.arms.invariant)
