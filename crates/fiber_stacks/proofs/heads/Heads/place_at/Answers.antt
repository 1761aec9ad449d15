use Rattle.std.proofs.Common.{◌≡◌, ◌≤◌, ◌-◌, length, slice_get, Some, None, arith, rules}
use Rattle.fiber_stacks.proofs.Headed.{size_in, place_got}
use Rattle.fiber_stacks.proofs.Lists.{none_there}
use Rattle.fiber_stacks.proofs.heads.Heads.place_at.Goals as goal

pub overflow_sub-len : goal.overflow_sub-len
overflow_sub-len g c =
    let size : length c.args.self.now ≡ length c.self.inside.places.items = size_in _ _ _ _ c.self.view_is in
    let few : c.args.count ≤ length c.args.self.now = c.requires.few in
    let len : c.len.result ≡ length c.self.inside.places.items = search rules in
    omega (arith, size, few, len)

pub unreachable-requires : goal.unreachable-requires
unreachable-requires g c =
    let size : length c.args.self.now ≡ length c.self.inside.places.items = size_in _ _ _ _ c.self.view_is in
    let few : c.args.count ≤ length c.args.self.now = c.requires.few in
    let none : slice_get c.self.inside.places.items (length c.self.inside.places.items - c.args.count) ≡ None = search rules in
    none_there _ _ c.requires.some (omega (arith, size, few)) none

pub returns : goal.returns
returns g c =
    let there : slice_get c.self.inside.places.items (length c.self.inside.places.items - c.args.count) ≡ Some c.in-Some.place =
    search rules in
    place_got _ _ _ _ _ _ c.self.view_is c.requires.some c.requires.few there
