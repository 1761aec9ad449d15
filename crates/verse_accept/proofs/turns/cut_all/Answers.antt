-- One more file is cut.
use Rattle.std.proofs.Common.{◌+◌, ◌≤◌, List, ℕ, length, map, drop, refl, subst, rules}
use Rattle.verse_lex.specs.Cut as tokens
use Rattle.verse_accept.specs.Fronts.{cutting}
use Rattle.verse_accept.specs.Ready.{IsSmall, CanBeLaid}
use Rattle.verse_accept.specs.Files.{cut_of}
use Rattle.verse_accept.proofs.InTurn.{stands_on, stands_wrong, stands_end, next_file, no_file, pushed}
use Rattle.verse_accept.proofs.turns.cut_all.Goals as goal

pub returns-in_err-file-clause-refused : goal.returns-in_err-file-clause-refused
returns-in_err-file-clause-refused c r h =
    stands_wrong cutting IsSmall CanBeLaid _ c.loop-file.file-index c.loop-file.number _ _ _ c.file-item.result.items r
    c.loop-file.invariant
    (next_file (λ f. f.items) c.args.files.now c.loop-file.file-index c.file-item.result c.loop-file-test.true c.file-item.is)
    (subst (λ (b : List ℕ). tokens.IsRefused c.loop-file.number b r) c.as_slice.ensures.value
    (c.in_err-file.ensures.refused r (search rules)))

pub loop-file-preserved : goal.loop-file-preserved
loop-file-preserved c =
    stands_on cutting IsSmall CanBeLaid _ c.loop-file.file-index c.loop-file.number _ _ _ _ _ _ c.file-item.result.items
    (cut_of c.in_ok-file.file) c.loop-file.invariant
    (next_file (λ f. f.items) c.args.files.now c.loop-file.file-index c.file-item.result c.loop-file-test.true c.file-item.is)
    (pushed cut_of c.loop-file.cuts.items c.push.new.self.items c.in_ok-file.file c.in_ok-push.ensures.items) refl refl
    (subst (λ (b : List ℕ). (cutting c.loop-file.number).makes b (cut_of c.in_ok-file.file)) c.as_slice.ensures.value
    c.in_ok-file.ensures.made) c.in_ok-file.ensures.ready

pub returns-clause-made : goal.returns-clause-made
returns-clause-made c =
    let low : length c.args.files.now ≤ c.loop-file.file-index = search rules in
    stands_end cutting IsSmall CanBeLaid _ c.loop-file.file-index c.loop-file.number _ _ c.loop-file.invariant
    (no_file (λ f. f.items) c.args.files.now c.loop-file.file-index low)
