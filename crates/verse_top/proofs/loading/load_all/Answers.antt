-- One more file is loaded, or none is left.
use Rattle.std.proofs.Common.{◌≤◌, length, map, string_bytes, refl, rules}
use Rattle.verse_accept.proofs.InTurn.{next_file, no_file, pushed}
use Rattle.verse_outside.specs.Held.{Loads}
use Rattle.verse_base.specs.declared.limits.TheConstants.{MOST_FILE_BYTES}
use Rattle.verse_top.specs.Loading.{most_bytes}
use Rattle.verse_top.proofs.LoadSteps.{loads_next, loads_all}
use Rattle.verse_top.proofs.loading.load_all.Goals as goal

pub loop-name-preserved : goal.loop-name-preserved
loop-name-preserved g c =
    let held = g.F.Files.holds c.args.files.now in
    let loads : Loads held (string_bytes c.name-item.result) most_bytes c.in-Ok.bytes.items = search rules in
    let small : length c.in-Ok.bytes.items ≤ MOST_FILE_BYTES = search rules in (
      loads_next held (map string_bytes c.args.names.now) c.loop-name.name-index c.loop-name.number _ _ _ _ _ _
          (string_bytes c.name-item.result) c.in-Ok.bytes.items c.loop-name.invariant.0
          (next_file string_bytes c.args.names.now c.loop-name.name-index c.name-item.result c.loop-name-test.true c.name-item.is)
          (pushed (λ f. f.items) c.loop-name.loaded.items c.push.new.self.items c.in-Ok.bytes c.in_ok-push-in-Ok-2.ensures.items) refl refl
          loads small,
      search rules,
      search rules,
    )

pub returns-clause-comes : goal.returns-clause-comes
returns-clause-comes g c =
    let low : length c.args.names.now ≤ c.loop-name.name-index = search rules in
    loads_all (g.F.Files.holds c.args.files.now) (map string_bytes c.args.names.now) c.loop-name.name-index c.loop-name.number _ _
    c.loop-name.invariant.0
    (no_file string_bytes c.args.names.now c.loop-name.name-index low)
