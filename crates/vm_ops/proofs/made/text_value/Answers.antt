use Rattle.std.proofs.Common.{◌≡◌, map, take, arith, ap, ◌∙◌}
use Rattle.std.proofs.lemmas.Grind.{common_steps}
use Rattle.std.proofs.lemmas.Result.{IfOk-weaker}
use Rattle.verse_value.specs.Val.{array, char, vals}
use Rattle.vm_ops.proofs.Chars.{chars_are}
use Rattle.vm_ops.proofs.made.text_value.Goals as goal

pub returns : goal.returns
returns c =
    let all : take c.bytes.byte-index c.args.bytes.now ≡ c.args.bytes.now = grind (arith, common_steps) in
    IfOk-weaker c.array.result _ _ (λ v h. h ∙ ap array (ap vals (c.bytes.invariant ∙ ap (map char) all) ∙ chars_are c.args.bytes.now))
    c.array.ensures
