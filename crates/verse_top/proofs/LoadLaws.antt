-- Files that tell what they hold are loaded in one way.
use Rattle.std.proofs.Common.{◌≡◌, ℕ, suc, ◌<◌, ◌≤◌, List, [], ◌∷◌, length, Option, Some, None, inl, inr, refl, sym, ◌∙◌, ap}
use Rattle.std.proofs.Common.{take, subst, arith}
use Rattle.std.proofs.lemmas.Option.{same_Some}
use Rattle.verse_base.specs.declared.limits.TheConstants.{MOST_FILE_BYTES}
use Rattle.verse_outside.specs.Held.{Holding, Holds, Lacks, Loads}
use Rattle.verse_top_args.specs.Words.{AreFiles, Command, run, exec, save, resume, check, build, note, list, assemble, verify, load}
use Rattle.verse_top_args.specs.Words.{files_of}
use Rattle.verse_top.specs.Loading.{AreHeld, AreLoaded, IsAbsent, IsMissing, IsRead, IsTooLarge, IsUnheld, most_bytes}
use Rattle.verse_top.specs.Programs.{IsProgram}

abbrev Telling : Type 0
Telling = List ℕ → Option (List ℕ)

module _ (most : ℕ) where
  load_once_of : (held : Telling) (name a b : List ℕ) → Loads (Some held) name most a → Loads (Some held) name most b → a ≡ b
  load_once_of held name a b x y =
      let same : x.0 ≡ y.0 = same_Some x.0 y.0 (sym x.1 ∙ y.1) in
      x.2 ∙ ap (λ all. take most all) same ∙ sym y.2

  load_or_lack_of : (held : Holding) (name a : List ℕ) → Loads held name most a → Lacks held name → ⊥
  load_or_lack_of None name a x y = y
  load_or_lack_of (Some held) name a x y = cc (x.1, y)

load_once : (held : Telling) (name a b : List ℕ) → Loads (Some held) name most_bytes a → Loads (Some held) name most_bytes b → a ≡ b
load_once held name a b x y = load_once_of most_bytes held name a b x y

load_or_lack : (held : Holding) (name a : List ℕ) → Loads held name most_bytes a → Lacks held name → ⊥
load_or_lack held name a x y = load_or_lack_of most_bytes held name a x y

pub read_once : (held : Telling) (name a b : List ℕ) → IsRead (Some held) name a → IsRead (Some held) name b → a ≡ b
read_once held name a b x y = load_once_of 18446744073709551615 held name a b x y

pub absent_or_read : (held : Holding) (file a name : List ℕ) → IsRead held file a → IsAbsent held (file ∷ []) name → ⊥
absent_or_read held file a name x (inl lacks) = load_or_lack_of 18446744073709551615 held file a x lacks.0
absent_or_read held file a name x (inr (b, more)) = more.1.1

hold_or_lack : (held : Holding) (name a : List ℕ) → Holds held name a → Lacks held name → ⊥
hold_or_lack None name a x y = y
hold_or_lack (Some held) name a x y = cc

small_or_large : (held : Telling) (name a b : List ℕ) → Loads (Some held) name most_bytes a → Loads (Some held) name most_bytes b →
    length a ≤ MOST_FILE_BYTES → MOST_FILE_BYTES < length b → ⊥
small_or_large held name a b x y small large = let same = ap length (load_once held name a b x y) in omega arith

module _ (held : Telling) where
  pub loaded_once : (names files others : List (List ℕ)) → AreLoaded (Some held) names files → AreLoaded (Some held) names others →
      files ≡ others
  loaded_once [] [] [] x y = refl
  loaded_once [] [] (b ∷ bs) x y = absurd y
  loaded_once [] (a ∷ as1) others x y = absurd x
  loaded_once (f ∷ fs) [] others x y = absurd x
  loaded_once (f ∷ fs) (a ∷ as1) [] x y = absurd y
  loaded_once (f ∷ fs) (a ∷ as1) (b ∷ bs) x y = cc (load_once held f a b x.0 y.0, loaded_once fs as1 bs x.1.1 y.1.1)

  pub loaded_or_large : (names files : List (List ℕ)) (n file : ℕ) → AreLoaded (Some held) names files →
      IsTooLarge (Some held) n names file → ⊥
  loaded_or_large [] files n file x y = y
  loaded_or_large (f ∷ fs) [] n file x y = x
  loaded_or_large (f ∷ fs) (a ∷ as1) n file x (b, (l, inl big)) = small_or_large held f a b x.0 l x.1.0 big.0
  loaded_or_large (f ∷ fs) (a ∷ as1) n file x (b, (l, inr more)) = loaded_or_large fs as1 (suc n) file x.1.1 more.1

  pub large_once : (names : List (List ℕ)) (n file other : ℕ) → IsTooLarge (Some held) n names file → IsTooLarge (Some held) n names other →
      file ≡ other
  large_once [] n file other x y = absurd x
  large_once (f ∷ fs) n file other (a, (k, inl big)) (b, (l, inl large)) = big.1 ∙ sym large.1
  large_once (f ∷ fs) n file other (a, (k, inl big)) (b, (l, inr more)) = absurd (small_or_large held f b a l k more.0 big.0)
  large_once (f ∷ fs) n file other (a, (k, inr more)) (b, (l, inl big)) = absurd (small_or_large held f a b k l more.0 big.0)
  large_once (f ∷ fs) n file other (a, (k, inr more)) (b, (l, inr less)) = large_once fs (suc n) file other more.1 less.1

pub as_many : (held : Holding) (names files : List (List ℕ)) → AreLoaded held names files → length names ≡ length files
as_many held [] [] x = refl
as_many held [] (b ∷ bs) x = absurd x
as_many held (f ∷ fs) [] x = absurd x
as_many held (f ∷ fs) (b ∷ bs) x = ap suc (as_many held fs bs x.1.1)

pub loaded_count : (held : Holding) (names files : List (List ℕ)) → AreFiles names → AreLoaded held names files →
    (1 ≤ length files) × (length files ≤ 16)
loaded_count held names files are loaded =
    let many = as_many held names files loaded in
    let some = are.some in
    let few = are.few in
    (omega arith, omega arith)

pub absent_or_loaded : (held : Holding) (names files : List (List ℕ)) (name : List ℕ) → AreLoaded held names files →
    IsAbsent held names name → ⊥
absent_or_loaded held [] files name x y = y
absent_or_loaded held (f ∷ fs) [] name x y = x
absent_or_loaded held (f ∷ fs) (a ∷ as1) name x (inl lacks) = load_or_lack held f a x.0 lacks.0
absent_or_loaded held (f ∷ fs) (a ∷ as1) name x (inr (b, more)) = absent_or_loaded held fs as1 name x.1.1 more.1.1

-- an object that lacks a name tells what it holds
absent_tells : (names : List (List ℕ)) (name : List ℕ) → IsAbsent None names name → ⊥
absent_tells [] name y = y
absent_tells (f ∷ fs) name (inl lacks) = lacks.0
absent_tells (f ∷ fs) name (inr (b, more)) = absent_tells fs name more.1.1

pub absent_or_large : (held : Holding) (names : List (List ℕ)) (n file : ℕ) (name : List ℕ) → IsTooLarge held n names file →
    IsAbsent held names name → ⊥
absent_or_large None names n file name x y = absent_tells names name y
absent_or_large (Some held) [] n file name x y = y
absent_or_large (Some held) (f ∷ fs) n file name (a, (l, rest)) (inl lacks) = load_or_lack (Some held) f a l lacks.0
absent_or_large (Some held) (f ∷ fs) n file name (a, (l, inl big)) (inr (b, more)) = small_or_large held f b a more.0 l more.1.0 big.0
absent_or_large (Some held) (f ∷ fs) n file name (a, (l, inr less)) (inr (b, more)) =
    absent_or_large (Some held) fs (suc n) file name less.1 more.1.1

pub held_or_absent : (held : Holding) (names : List (List ℕ)) (name : List ℕ) → AreHeld held names → IsAbsent held names name → ⊥
held_or_absent held [] name x y = y
held_or_absent held (f ∷ fs) name x (inl lacks) = hold_or_lack held f x.0.0 x.0.1 lacks.0
held_or_absent held (f ∷ fs) name x (inr (b, more)) = held_or_absent held fs name x.1 more.1.1

-- ---- by the command

pub missing_of_program : (held : Holding) (c : Command) (name : List ℕ) → IsProgram c → IsAbsent held (files_of c) name →
    IsMissing held c name
missing_of_program held (run files o) name p a = a
missing_of_program held (exec file o) name p a = absurd p
missing_of_program held (save file o) name p a = absurd p
missing_of_program held (resume file until heap) name p a = absurd p
missing_of_program held (check files) name p a = a
missing_of_program held (build files) name p a = a
missing_of_program held (note files) name p a = a
missing_of_program held (list file) name p a = absurd p
missing_of_program held (assemble file) name p a = absurd p
missing_of_program held (verify image notes) name p a = absurd p
missing_of_program held (load n) name p a = absurd p

pub absent_of_program : (held : Holding) (c : Command) (name : List ℕ) → IsProgram c → IsMissing held c name →
    IsAbsent held (files_of c) name
absent_of_program held (run files o) name p m = m
absent_of_program held (exec file o) name p m = absurd p
absent_of_program held (save file o) name p m = absurd p
absent_of_program held (resume file until heap) name p m = absurd p
absent_of_program held (check files) name p m = m
absent_of_program held (build files) name p m = m
absent_of_program held (note files) name p m = m
absent_of_program held (list file) name p m = absurd p
absent_of_program held (assemble file) name p m = absurd p
absent_of_program held (verify image notes) name p m = absurd p
absent_of_program held (load n) name p m = absurd p

absent_as : (held : Holding) (names others : List (List ℕ)) (name : List ℕ) → names ≡ others → IsAbsent held others name →
    IsAbsent held names name
absent_as held names others name e a = subst (λ (ns : List (List ℕ)). IsAbsent held ns name) (sym e) a

-- where it has one file
pub missing_of_one : (held : Holding) (c : Command) (file name : List ℕ) → files_of c ≡ file ∷ [] → IsAbsent held (file ∷ []) name →
    IsMissing held c name
missing_of_one held (run files o) file name e a = absent_as held files (file ∷ []) name e a
missing_of_one held (exec f o) file name e a = absent_as held (f ∷ []) (file ∷ []) name e a
missing_of_one held (save f o) file name e a = absent_as held (f ∷ []) (file ∷ []) name e a
missing_of_one held (resume f until heap) file name e a = absent_as held (f ∷ []) (file ∷ []) name e a
missing_of_one held (check files) file name e a = absent_as held files (file ∷ []) name e a
missing_of_one held (build files) file name e a = absent_as held files (file ∷ []) name e a
missing_of_one held (note files) file name e a = absent_as held files (file ∷ []) name e a
missing_of_one held (list f) file name e a = absent_as held (f ∷ []) (file ∷ []) name e a
missing_of_one held (assemble f) file name e a = absent_as held (f ∷ []) (file ∷ []) name e a
missing_of_one held (verify image notes) file name e a = absurd (cc)
missing_of_one held (load n) file name e a = absurd (cc)

pub unheld_or_read : (held : Holding) (one other a b name : List ℕ) → IsRead held one a → IsRead held other b →
    IsUnheld held one other name → ⊥
unheld_or_read held one other a b name x y (inl lacks) = load_or_lack_of 18446744073709551615 held one a x lacks.0
unheld_or_read held one other a b name x y (inr (bs, more)) = load_or_lack_of 18446744073709551615 held other b y more.1.0

pub held_or_missing : (held : Holding) (c : Command) (name : List ℕ) → AreHeld held (files_of c) → IsMissing held c name → ⊥
held_or_missing held (run files o) name h m = held_or_absent held files name h m
held_or_missing held (exec file o) name h m = held_or_absent held (file ∷ []) name h m
held_or_missing held (save file o) name h m = held_or_absent held (file ∷ []) name h m
held_or_missing held (resume file until heap) name h m = held_or_absent held (file ∷ []) name h m
held_or_missing held (check files) name h m = held_or_absent held files name h m
held_or_missing held (build files) name h m = held_or_absent held files name h m
held_or_missing held (note files) name h m = held_or_absent held files name h m
held_or_missing held (list file) name h m = held_or_absent held (file ∷ []) name h m
held_or_missing held (assemble file) name h m = held_or_absent held (file ∷ []) name h m
held_or_missing held (verify image notes) name h (inl lacks) = hold_or_lack held image h.0.0 h.0.1 lacks.0
held_or_missing held (verify image notes) name h (inr (b, more)) = hold_or_lack held notes h.1.0.0 h.1.0.1 more.1.0
held_or_missing held (load n) name h m = m
