use Rattle.std.proofs.Common.{◌≡◌, ◌-◌, suc, refl, arith}
use Rattle.vm_cancel.proofs.Blocks.{out_of_blocks, block_begun, some_block, sure_moved}
use Rattle.vm_cancel.proofs.frames.begin_block.Goals as goal

pub returns-then-run-eq0 : goal.returns-then-run-eq0
returns-then-run-eq0 g c = out_of_blocks _ _ c.requires.unguarded c.requires.some c.if-run-eq0.true

pub take_defer-block-requires : goal.take_defer-block-requires
take_defer-block-requires g c = some_block _ c.requires.unguarded c.requires.some

pub returns : goal.returns
returns g c =
    let next : c.args.run.now.left ≡ suc (c.args.run.now.left - 1) = omega arith in
    block_begun _ _ _ _ _ _ _ c.requires.unguarded c.take_defer-block.ensures
    (sure_moved _ _ _ _ _ c.requires.unguarded c.take_defer-block.ensures c.go.ensures.test c.go.ensures.yes) next refl
