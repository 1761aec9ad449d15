-- The inputs of a run.
use Rattle.std.specs.Prelude.{◌≤◌, ℤ, List, length}
use Rattle.run_save_fits.specs.Laws.{InputsFit}

-- as many as a run may have are a value of a run
abbrev pub FewInputsFit : Type 0
FewInputsFit = (ns : List ℤ) → length ns ≤ 1000 → InputsFit ns
