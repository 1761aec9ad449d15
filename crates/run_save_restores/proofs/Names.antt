-- A sound value names no task that there is not.
use Rattle.std.proofs.Common.{◌≡◌, ℕ, false, List, [], ◌∷◌, refl}
use Rattle.std.proofs.lemmas.Bool.{lt-leb, or_from}
use Rattle.verse_value.specs.Val.{Val, unit, falsity, truth, int, char, enum, object, event, task, some, array, mapping, tuple}
use Rattle.verse_value.specs.Val.{Vals, no_vals, more_vals, vals, Pairs, no_pairs, more_pairs}
use Rattle.run_save_shots.specs.Fitting.{IsSound, AreSound, PairsAreSound, ValuesFit}
use Rattle.run_save_format.specs.Whole.{names_none, name_none, pairs_name_none}

mutual
  names_some : (n : ℕ) (v : Val) → IsSound n v → names_none n v ≡ false
  names_some n unit p = refl
  names_some n falsity p = refl
  names_some n truth p = refl
  names_some n (int m) p = refl
  names_some n (char c) p = refl
  names_some n (enum of at) p = refl
  names_some n (object address) p = refl
  names_some n (event address) p = refl
  names_some n (task entry) p = lt-leb n entry p
  names_some n (some v) p = names_some n v p
  names_some n (array vs) p = name_some n vs p
  names_some n (mapping ps) p = pairs_name_some n ps p
  names_some n (tuple vs) p = name_some n vs p

  name_some : (n : ℕ) (vs : Vals) → AreSound n vs → name_none n vs ≡ false
  name_some n no_vals p = refl
  name_some n (more_vals v vs) p = or_from (names_none n v) (name_none n vs) (names_some n v p.0) (name_some n vs p.1)

  pairs_name_some : (n : ℕ) (ps : Pairs) → PairsAreSound n ps → pairs_name_none n ps ≡ false
  pairs_name_some n no_pairs p = refl
  pairs_name_some n (more_pairs k v ps) p =
      or_from (names_none n v) (pairs_name_none n ps) (names_some n v p.1) (pairs_name_some n ps p.3)

pub slots_name_some : (n : ℕ) (vs : List Val) → ValuesFit n vs → name_none n (vals vs) ≡ false
slots_name_some n [] p = refl
slots_name_some n (v ∷ vs) p =
    or_from (names_none n v) (name_none n (vals vs)) (names_some n v p.0.sound) (slots_name_some n vs p.1)
