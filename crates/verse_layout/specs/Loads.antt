-- The nesting load of a list of toks.
use Rattle.std.specs.Prelude.{ℕ, ◌≡◌, ◌+◌, ◌<◌, ◌≤◌, reverse, Bool, true, false, if◌then◌else◌}
use Rattle.std.specs.Prelude.{List, [], ◌∷◌}
use Rattle.verse_base.specs.declared.limits.TheConstants.{MOST_LOAD}
use Rattle.verse_layout.specs.declared.toks.Tok.{Tok}
use Rattle.verse_layout.specs.declared.loads.Count.{Count}
use Rattle.verse_layout.specs.declared.loads.Weight.{Weight}
use Rattle.verse_layout.specs.declared.loads.Weight.TheVariants.{Keeps, Adds, Begins, Ends, Resets}
use Rattle.verse_layout.specs.declared.loads.Weight.TheVariants.{ResetsHole}
use Rattle.verse_layout.specs.Weights.{weight_of}

-- the frames that are open, the innermost first; the file's own is always there
pub record Counts : Type 0 where
  pub inner : Count
  pub outer : List Count

abbrev pub more : Count → Count
more c = record c { count = c.count + 1 }

abbrev pub reset : Count → Count
reset c = record c { count = 1 }

abbrev pub begun : Bool → Count
begun is_hole = record { is_hole = is_hole; count = 1 }

abbrev pub reset_hole : List Count → List Count
reset_hole [] = []
reset_hole (c ∷ cs) = if c.is_hole then reset c ∷ cs else c ∷ reset_hole cs

abbrev pub without : Count → List Count → Counts
without c [] = record { inner = c; outer = [] }
without c (d ∷ ds) = record { inner = d; outer = ds }

abbrev pub moved : Weight → Counts → Counts
moved Keeps s = s
moved Adds s = record { inner = more s.inner; outer = s.outer }
moved (Begins is_hole) s = record { inner = begun is_hole; outer = more s.inner ∷ s.outer }
moved Ends s = without s.inner s.outer
moved Resets s = record { inner = reset s.inner; outer = s.outer }
moved ResetsHole s =
    if s.inner.is_hole then record { inner = reset s.inner; outer = s.outer }
    else record { inner = s.inner; outer = reset_hole s.outer }

abbrev pub sum_of : List Count → ℕ
sum_of [] = 0
sum_of (c ∷ cs) = c.count + sum_of cs

abbrev pub load : Counts → ℕ
load s = s.inner.count + sum_of s.outer

-- the code's stack, whose last frame is the innermost one
abbrev pub open_counts : Count → List Count → Counts
open_counts inner outer = record { inner = inner; outer = reverse outer }

-- what a tok makes of the counts is kept where the load stays within its bound
abbrev pub Notes : Bool → Counts → Counts → Type 0
Notes true made new = (new ≡ made) × (load made ≤ MOST_LOAD)
Notes false made new = MOST_LOAD < load made

-- the frames behind a tok
abbrev pub after_tok : Tok → Counts → Counts
after_tok t s = moved (weight_of t.kind) s

-- at the beginning of a file
abbrev pub at_start : Counts
at_start = record { inner = begun false; outer = [] }
