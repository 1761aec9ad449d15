-- What was loaded, and what is left.
use Rattle.std.proofs.Common.{◌≡◌, ◌≤◌, map, drop, string_bytes}
use Rattle.verse_top.proofs.LoadSteps.{LoadsOn}
use Rattle.verse_top.proofs.loading.load_all.Given as goal

abbrev pub invariant-loop-name : goal.invariant-loop-name
invariant-loop-name g l =
    LoadsOn (g.F.Files.holds l.fn.files) (map string_bytes l.names) l.name-index l.number (map string_bytes (drop l.name-index l.names))
    (map (λ f. f.items) l.loaded.items)
    × (g.F.Files.holds l.files ≡ g.F.Files.holds l.fn.files) × (g.F.Files.faults l.fn.files ≤ g.F.Files.faults l.files)
