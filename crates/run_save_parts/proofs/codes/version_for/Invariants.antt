use Rattle.std.proofs.Common.{◌≡◌, drop}
use Rattle.verse_image.specs.Format.{version_for}
use Rattle.run_save_parts.proofs.codes.version_for.Given as goal

abbrev pub invariant-ops : goal.invariant-ops
invariant-ops l = version_for (drop l.op-index l.ops) ≡ version_for l.ops
