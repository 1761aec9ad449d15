use Rattle.std.proofs.Common.{◌≡◌, map, slice_set, None, sym, ap, ◌∙◌, arith, rules}
use Rattle.verse_value.specs.View.{val_of}
use Rattle.vm_tasks.specs.View.{part_of}
use Rattle.vm_complete.specs.Arms.{run_at}
use Rattle.vm_complete.proofs.Runs.{within_arms, arm_gives, no_arm}
use Rattle.vm_complete.proofs.arms.give_arm.Goals as goal

pub returns-in_default : goal.returns-in_default
returns-in_default c =
    let none : c.run_at.result ≡ None = search rules in
    no_arm c.args.number (map part_of c.args.arms.now.items) (val_of c.args.value)
    (ap (λ z. run_at c.args.number 0 (map part_of z)) (sym c.as_slice.ensures.value) ∙ (sym c.run_at.ensures ∙ none))

pub index_mut-requires : goal.index_mut-requires
index_mut-requires c =
    omega (
      arith,
      within_arms c.args.number c.in-Some.at c.args.arms.now.items
          (ap (λ z. run_at c.args.number 0 (map part_of z)) (sym c.as_slice.ensures.value) ∙ (sym c.run_at.ensures ∙ c.in-Some.is)),
      c.args.arms.now.ok.0,
    )

pub returns : goal.returns
returns c =
    ap (λ z. map part_of (slice_set c.args.arms.now.items c.in-Some.at z)) c.replace.ensures.after ∙
    arm_gives c.args.number c.in-Some.at c.args.arms.now.items c.args.value
    (ap (λ z. run_at c.args.number 0 (map part_of z)) (sym c.as_slice.ensures.value) ∙ (sym c.run_at.ensures ∙ c.in-Some.is))
