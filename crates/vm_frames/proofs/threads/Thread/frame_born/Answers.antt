use Rattle.std.proofs.Common.{◌≡◌, ◌<◌, ◌≤◌, ◌-◌, Some, length, get_or, slice_get, ap, ◌∙◌, arith, rules}
use Rattle.std.proofs.lemmas.Option.{slice_get-get_or}
use Rattle.vm_frames.proofs.Anywhere.{birth_in, no_birth_in}
use Rattle.vm_frames.proofs.threads.Thread.frame_born.Goals as goal

pub returns-in-Some : goal.returns-in-Some
returns-in-Some c =
    let births = c.self.inside.births.items in
    let born = c.index.result.now in
    let above = c.depth.result - c.args.i in
    let is : above ≡ length c.args.self.now - c.args.i = ap (λ n. n - c.args.i) c.depth.ensures in
    let some : 0 < above = search rules in
    let enough : above ≤ length births = search rules in
    let there : get_or births (length births - above) born ≡ born = search rules in
    birth_in _ _ _ _ above c.self.view_is c.requires is born enough
    (slice_get-get_or births (length births - above) born (omega (arith, some, enough)) ∙ ap Some there)

pub returns-in-None : goal.returns-in-None
returns-in-None c =
    let births = c.self.inside.births.items in
    let above = c.depth.result - c.args.i in
    let is : above ≡ length c.args.self.now - c.args.i = ap (λ n. n - c.args.i) c.depth.ensures in
    let less : length births < above = search rules in
    no_birth_in _ _ _ _ above c.self.view_is c.requires is less
