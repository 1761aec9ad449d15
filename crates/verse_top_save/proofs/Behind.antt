-- What is left in a sink behind a text that was written whole.
use Rattle.std.proofs.Common.{◌≡◌, ℕ, ◌≤◌, List, ◌++◌, Option, Result, Ok, Err, inl, inr}
use Rattle.verse_outside.specs.Held.{with_more}
use Rattle.verse_top_exec.specs.declared.stops.Stop.{Stop}
use Rattle.verse_top_exec.specs.declared.stops.Stop.TheVariants as stop
use Rattle.verse_top_exec.specs.Leaving.{Either, Leaves}
use Rattle.verse_top_exec.proofs.Takes.{more_then, rose_from, took_behind}

module _ (front : List ℕ) (W V : ℕ → List ℕ → Type 0) (P Q : List ℕ → Type 0) (whole : (s : ℕ) (t : List ℕ) → W s t → V s (front ++ t))
    (so_far : (t : List ℕ) → P t → Q (front ++ t)) where
  either_behind : (t : List ℕ) → Either W P t → Either V Q (front ++ t)
  either_behind t (inl w) = inl (w.0, whole w.0 t w.1)
  either_behind t (inr p) = inr (so_far t p)

  pub leaves_behind : (before at now : ℕ) (old mid new : Option (List ℕ)) (r : Result ℕ Stop) → before ≤ at → mid ≡ with_more old front →
      Leaves W P at now mid new r → Leaves V Q before now old new r
  leaves_behind before at now old mid new (Ok s) low e x = (front ++ x.0, (whole s x.0 x.1.0, more_then old mid new front x.0 e x.1.1))
  leaves_behind before at now old mid new (Err stop.Memory) low e x =
      (front ++ x.0, (so_far x.0 x.1.0, more_then old mid new front x.0 e x.1.1))
  leaves_behind before at now old mid new (Err stop.Failed) low e x = (
    rose_from before at now low x.0,
    (front ++ x.1.0, (either_behind x.1.0 x.1.1.0, took_behind old mid new front x.1.0 e x.1.1.1)),
  )
