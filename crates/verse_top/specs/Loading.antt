-- What comes of loading the files of a program one after another, and another file whole.
use Rattle.std.specs.Prelude.{◌≡◌, ◌⊎◌, ℕ, suc, ◌+◌, ◌<◌, ◌≤◌, List, [], ◌∷◌, length}
use Rattle.verse_base.specs.declared.limits.TheConstants.{MOST_FILE_BYTES}
use Rattle.verse_outside.specs.Held.{Holding, Holds, Lacks, Loads}
use Rattle.verse_top_args.specs.Words.{Command, exec, run, save, resume, check, build, note}
use Rattle.verse_top_args.specs.Words.{list, assemble, verify, load}

-- one byte more than a file may have shows that there are more
abbrev pub most_bytes : ℕ
most_bytes = MOST_FILE_BYTES + 1

module _ (held : Holding) where
  -- all are loaded, and none is too large
  abbrev pub AreLoaded : (names files : List (List ℕ)) → Type 0
  AreLoaded [] [] = Unit {0}
  AreLoaded [] (b ∷ bs) = ⊥
  AreLoaded (f ∷ fs) [] = ⊥
  AreLoaded (f ∷ fs) (b ∷ bs) = Loads held f most_bytes b ×
      ((length b ≤ MOST_FILE_BYTES) × AreLoaded fs bs)

  -- the first file that is too large, by its number, where the first of these files has the number
  -- n; those before it are loaded
  abbrev pub IsTooLarge : ℕ → List (List ℕ) → ℕ → Type 0
  IsTooLarge n [] file = ⊥
  IsTooLarge n (f ∷ fs) file =
      (b : List ℕ) × (Loads held f most_bytes b ×
      (((MOST_FILE_BYTES < length b) × (file ≡ n)) ⊎
      ((length b ≤ MOST_FILE_BYTES) × IsTooLarge (suc n) fs file)))

  -- the first name under which nothing is held; the files before it are loaded
  abbrev pub IsAbsent : List (List ℕ) → List ℕ → Type 0
  IsAbsent [] name = ⊥
  IsAbsent (f ∷ fs) name =
      (Lacks held f × (name ≡ f)) ⊎ ((b : List ℕ) ×
      (Loads held f most_bytes b × ((length b ≤ MOST_FILE_BYTES) × IsAbsent fs name)))

  -- something is held under each name
  abbrev pub AreHeld : List (List ℕ) → Type 0
  AreHeld [] = Unit {0}
  AreHeld (f ∷ fs) = ((all : List ℕ) × Holds held f all) × AreHeld fs

-- a file that is no program is loaded whole
abbrev pub IsRead : Holding → (name bytes : List ℕ) → Type 0
IsRead held name bytes = Loads held name 18446744073709551615 bytes

-- of two files that are no program the first under whose name nothing is held
abbrev pub IsUnheld : Holding → (one other name : List ℕ) → Type 0
IsUnheld held one other name =
    (Lacks held one × (name ≡ one)) ⊎
    ((b : List ℕ) × (IsRead held one b × (Lacks held other × (name ≡ other))))

-- the first name of a command's files under which nothing is held
abbrev pub IsMissing : Holding → Command → List ℕ → Type 0
IsMissing held (run files o) name = IsAbsent held files name
IsMissing held (exec file o) name = IsAbsent held (file ∷ []) name
IsMissing held (save file o) name = IsAbsent held (file ∷ []) name
IsMissing held (resume file until heap) name = IsAbsent held (file ∷ []) name
IsMissing held (check files) name = IsAbsent held files name
IsMissing held (build files) name = IsAbsent held files name
IsMissing held (note files) name = IsAbsent held files name
IsMissing held (list file) name = IsAbsent held (file ∷ []) name
IsMissing held (assemble file) name = IsAbsent held (file ∷ []) name
IsMissing held (verify image notes) name = IsUnheld held image notes name
IsMissing held (load n) name = ⊥

abbrev pub IsAmong : List ℕ → List (List ℕ) → Type 0
IsAmong name [] = ⊥
IsAmong name (f ∷ fs) = (name ≡ f) ⊎ IsAmong name fs
