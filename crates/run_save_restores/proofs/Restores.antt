-- What is saved is read: its parts are found, and break no rule of the whole list.
use Rattle.std.proofs.Common.{◌≡◌, ℕ, List, ◌∷◌, ◌++◌, Result, Ok, sym, ap, subst, ◌∙◌}
use Rattle.verse_code.specs.declared.codes.Code.{Code}
use Rattle.verse_image.specs.declared.faults.Flaw.{Flaw}
use Rattle.verse_image.specs.Reading.{◌>>=◌}
use Rattle.verse_meaning_state.specs.Effects.{printed}
use Rattle.run_save_shots.specs.Fitting.{Fits}
use Rattle.run_save_shots.specs.Kept.{Kept}
use Rattle.run_save_format.specs.Faults.{OneRun, SavedIsRead}
use Rattle.run_save_format.specs.Format.{Saved}
use Rattle.run_save_format.specs.Reading.{Found}
use Rattle.run_save_format.specs.Whole.{broken, file_at, run_at, whole}
use Rattle.run_save_restores.specs.Found.{SavedIsFound}
use Rattle.run_save_restores.specs.Unbroken.{BehindIsFound, FitsIsUnbroken, TraceStandsBehind}
use Rattle.run_save_restores.specs.Restores.{SavedBehindTrace}

module _ (found : SavedIsFound) (unbroken : FitsIsUnbroken) where
  run_read : (c : Code) (s : Kept) (bytes : List ℕ) → Saved c s bytes → run_at bytes ≡ Ok (c, s)
  unfolding run_at
  run_read c s bytes p =
      let f = found c s bytes p in
      let m = f.0 in
      let fits : Fits m.code m.kept =
      subst (λ (d : Code). Fits d m.kept) (sym f.2) (subst (λ (x : Kept). Fits c x) (sym f.3) p.fits) in
      ap (λ (r : Result Found Flaw). r >>= λ m. whole m (broken m)) f.1 ∙ ap (whole m) (unbroken m fits) ∙
      ap (λ (d : Code). Ok (d, m.kept)) f.2 ∙ ap (λ (x : Kept). Ok (c, x)) f.3

  pub saved_read : BehindIsFound → SavedIsRead
  unfolding file_at
  saved_read behind file c s p =
      ap (λ (r : Result (List ℕ) Flaw). r >>= run_at) (behind file p.bytes p.behind) ∙ run_read c s p.bytes p.saved

  pub once : OneRun
  once bytes c d s t p q =
      let same : (c, s) ≡ (d, t) = cc (run_read c s bytes p, run_read d t bytes q) in
      (ap (λ (x : Code × Kept). x.0) same, ap (λ (x : Code × Kept). x.1) same)

pub behind_trace : SavedIsRead → TraceStandsBehind → SavedBehindTrace
behind_trace read stands c s lines line bytes is begins p =
    read (printed lines ++ (line ++ 10 ∷ bytes)) c s
    (record { bytes = bytes; behind = stands lines line bytes is begins; saved = p })
