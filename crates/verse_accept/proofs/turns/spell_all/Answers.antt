-- The items of one more file are read.
use Rattle.std.proofs.Common.{◌+◌, ◌≤◌, length, map, drop, refl, rules}
use Rattle.verse_join.specs.Joining.{file_items}
use Rattle.verse_accept.specs.Fronts.{spelling}
use Rattle.verse_accept.specs.Ready.{CanBeRead, HasFewNodes}
use Rattle.verse_accept.specs.Files.{laid_of}
use Rattle.verse_accept.proofs.InTurn.{stands_on, stands_wrong, stands_end, next_file, no_file, pushed}
use Rattle.verse_accept.proofs.turns.spell_all.Goals as goal

pub returns-in_err-items-clause-refused : goal.returns-in_err-items-clause-refused
returns-in_err-items-clause-refused c r h =
    stands_wrong spelling CanBeRead HasFewNodes _ c.loop-file.file-index c.loop-file.number _ _ _
    (laid_of c.file-item.result) r c.loop-file.invariant
    (next_file laid_of c.args.laid.now c.loop-file.file-index c.file-item.result c.loop-file-test.true c.file-item.is)
    (c.in_err-items.ensures.refused r (search rules))

pub loop-file-preserved : goal.loop-file-preserved
loop-file-preserved c =
    stands_on spelling CanBeRead HasFewNodes _ c.loop-file.file-index c.loop-file.number _ _ _ _ _ _ (laid_of c.file-item.result)
    (file_items c.in_ok-items.items) c.loop-file.invariant
    (next_file laid_of c.args.laid.now c.loop-file.file-index c.file-item.result c.loop-file-test.true c.file-item.is)
    (pushed file_items c.loop-file.files.items c.push.new.self.items c.in_ok-items.items c.in_ok-push.ensures.items) refl refl
    c.in_ok-items.ensures.made c.in_ok-items.ensures.few

pub returns-clause-made : goal.returns-clause-made
returns-clause-made c =
    let low : length c.args.laid.now ≤ c.loop-file.file-index = search rules in
    stands_end spelling CanBeRead HasFewNodes _ c.loop-file.file-index c.loop-file.number _ _ c.loop-file.invariant
    (no_file laid_of c.args.laid.now c.loop-file.file-index low)
