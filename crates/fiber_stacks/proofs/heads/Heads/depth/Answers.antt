use Rattle.std.proofs.Common.{◌≡◌, length, sym, ◌∙◌, rules}
use Rattle.fiber_stacks.proofs.Headed.{size_in}
use Rattle.fiber_stacks.proofs.heads.Heads.depth.Goals as goal

pub returns : goal.returns
returns g c =
    let size : c.len.result ≡ length c.self.inside.places.items = search rules in
    size ∙ sym (size_in _ _ _ _ c.self.view_is)
