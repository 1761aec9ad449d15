-- One more file is laid out.
use Rattle.std.proofs.Common.{◌+◌, ◌≤◌, length, map, drop, refl, rules}
use Rattle.verse_accept.specs.Fronts.{laying}
use Rattle.verse_accept.specs.Ready.{CanBeLaid, CanBeRead}
use Rattle.verse_accept.specs.Files.{cut_of, laid_of}
use Rattle.verse_accept.proofs.InTurn.{stands_on, stands_wrong, stands_end, next_file, no_file, pushed}
use Rattle.verse_accept.proofs.turns.lay_all.Goals as goal

pub returns-in_err-file-clause-refused : goal.returns-in_err-file-clause-refused
returns-in_err-file-clause-refused c r h =
    stands_wrong laying CanBeLaid CanBeRead _ c.loop-file.file-index c.loop-file.file-index _ _ _
    (cut_of c.file-item.result) r c.loop-file.invariant
    (next_file cut_of c.args.cuts.now c.loop-file.file-index c.file-item.result c.loop-file-test.true c.file-item.is)
    (c.in_err-file.ensures.refused r (search rules) c.loop-file.file-index)

pub loop-file-preserved : goal.loop-file-preserved
loop-file-preserved c =
    stands_on laying CanBeLaid CanBeRead _ c.loop-file.file-index c.loop-file.file-index _ _ _ _ _ _ (cut_of c.file-item.result)
    (laid_of c.in_ok-file.file) c.loop-file.invariant
    (next_file cut_of c.args.cuts.now c.loop-file.file-index c.file-item.result c.loop-file-test.true c.file-item.is)
    (pushed laid_of c.loop-file.laid.items c.push.new.self.items c.in_ok-file.file c.in_ok-push.ensures.items) refl refl
    (c.in_ok-file.ensures.made c.loop-file.file-index) c.in_ok-file.ensures.ready

pub returns-clause-made : goal.returns-clause-made
returns-clause-made c =
    let low : length c.args.cuts.now ≤ c.loop-file.file-index = search rules in
    stands_end laying CanBeLaid CanBeRead _ c.loop-file.file-index c.loop-file.file-index _ _ c.loop-file.invariant
    (no_file cut_of c.args.cuts.now c.loop-file.file-index low)
