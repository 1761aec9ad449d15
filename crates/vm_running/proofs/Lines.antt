-- The lines that are kept, printed.
use Rattle.std.proofs.Common.{◌≡◌, ℕ, List, [], ◌∷◌, ◌++◌, map, refl, ap}
use Rattle.verse_base.specs.TraceLine.{line_bytes}
use Rattle.verse_meaning_state.specs.Effects.{printed}
use Rattle.trace_buf.specs.Trace as trace
use Rattle.vm_running.specs.Views.{line_of}

pub kept_printed : (ks : List (ℕ × List ℕ)) → printed (map line_of ks) ≡ trace.printed ks
kept_printed [] = refl
kept_printed (k ∷ ks) = ap (λ bs. line_bytes k.0 k.1 ++ bs) (kept_printed ks)
