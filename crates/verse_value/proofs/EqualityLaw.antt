-- The test of equality is true of equal values, and of no others.
use Rattle.std.proofs.Common.{◌≡◌, Bool, true, false, ◌&&◌, ◌==◌, refl, sym, ap, ◌∙◌}
use Rattle.std.proofs.lemmas.Bool.Decides.{Decides-eqb, Decides-int_eq}
use lib.Pointwise.{bytes_decides}
use Rattle.std.proofs.lemmas.Bool.{and_from}
use Rattle.verse_base.proofs.Facts.{and_first, and_second}
use Rattle.verse_value.specs.declared.keys.Key.{Key}
use Rattle.verse_value.specs.declared.keys.Key.TheVariants as key
use Rattle.verse_value.specs.Keys.{key_eq}
use Rattle.verse_value.specs.Val.{Val, unit, falsity, truth, int, char, enum, object, event, task, some, array, mapping, tuple, Vals}
use Rattle.verse_value.specs.Val.{no_vals, more_vals, Pairs, no_pairs, more_pairs}
use Rattle.verse_value.specs.Equality.{val_eq, vals_eq, pairs_eq, EqualityIsTested}

same_bool : (a b : Bool) → key_eq (key.Logic a) (key.Logic b) ≡ true → a ≡ b
same_bool true true h = refl
same_bool false false h = refl
same_bool true false h = absurd (cc)
same_bool false true h = absurd (cc)

key_sound : (k l : Key) → key_eq k l ≡ true → k ≡ l
key_sound (key.Int n) (key.Int n') h = ap (λ m. key.Int m) ((Decides-int_eq n n').0 h)
key_sound (key.Int n) (key.Logic b') h = absurd (cc)
key_sound (key.Int n) (key.Char n') h = absurd (cc)
key_sound (key.Int n) (key.Enum n' i') h = absurd (cc)
key_sound (key.Int n) (key.Text bs') h = absurd (cc)
key_sound (key.Logic b) (key.Int n') h = absurd (cc)
key_sound (key.Logic b) (key.Logic b') h = ap (λ c. key.Logic c) (same_bool b b' h)
key_sound (key.Logic b) (key.Char n') h = absurd (cc)
key_sound (key.Logic b) (key.Enum n' i') h = absurd (cc)
key_sound (key.Logic b) (key.Text bs') h = absurd (cc)
key_sound (key.Char n) (key.Int n') h = absurd (cc)
key_sound (key.Char n) (key.Logic b') h = absurd (cc)
key_sound (key.Char n) (key.Char n') h = ap (λ m. key.Char m) ((Decides-eqb n n').0 h)
key_sound (key.Char n) (key.Enum n' i') h = absurd (cc)
key_sound (key.Char n) (key.Text bs') h = absurd (cc)
key_sound (key.Enum n i) (key.Int n') h = absurd (cc)
key_sound (key.Enum n i) (key.Logic b') h = absurd (cc)
key_sound (key.Enum n i) (key.Char n') h = absurd (cc)
key_sound (key.Enum n i) (key.Enum n' i') h =
    λ j. key.Enum ((Decides-eqb n n').0 (and_first (n == n') (i == i') h) j) ((Decides-eqb i i').0 (and_second (n == n') (i == i') h) j)
key_sound (key.Enum n i) (key.Text bs') h = absurd (cc)
key_sound (key.Text bs) (key.Int n') h = absurd (cc)
key_sound (key.Text bs) (key.Logic b') h = absurd (cc)
key_sound (key.Text bs) (key.Char n') h = absurd (cc)
key_sound (key.Text bs) (key.Enum n' i') h = absurd (cc)
key_sound (key.Text bs) (key.Text bs') h = ap (λ cs. key.Text cs) ((bytes_decides bs bs').0 h)

pub key_same : (k : Key) → key_eq k k ≡ true
key_same (key.Int n) = (Decides-int_eq n n).1 refl
key_same (key.Logic true) = refl
key_same (key.Logic false) = refl
key_same (key.Char n) = (Decides-eqb n n).1 refl
key_same (key.Enum n i) = and_from (n == n) (i == i) ((Decides-eqb n n).1 refl) ((Decides-eqb i i).1 refl)
key_same (key.Text bs) = (bytes_decides bs bs).1 refl

mutual
  sound : (a b : Val) → val_eq a b ≡ true → a ≡ b
  sound unit unit h = refl
  sound unit falsity h = absurd (cc)
  sound unit truth h = absurd (cc)
  sound unit (int n') h = absurd (cc)
  sound unit (char n') h = absurd (cc)
  sound unit (enum n' i') h = absurd (cc)
  sound unit (object n') h = absurd (cc)
  sound unit (event n') h = absurd (cc)
  sound unit (task n') h = absurd (cc)
  sound unit (some v') h = absurd (cc)
  sound unit (array vs') h = absurd (cc)
  sound unit (mapping ps') h = absurd (cc)
  sound unit (tuple vs') h = absurd (cc)
  sound falsity unit h = absurd (cc)
  sound falsity falsity h = refl
  sound falsity truth h = absurd (cc)
  sound falsity (int n') h = absurd (cc)
  sound falsity (char n') h = absurd (cc)
  sound falsity (enum n' i') h = absurd (cc)
  sound falsity (object n') h = absurd (cc)
  sound falsity (event n') h = absurd (cc)
  sound falsity (task n') h = absurd (cc)
  sound falsity (some v') h = absurd (cc)
  sound falsity (array vs') h = absurd (cc)
  sound falsity (mapping ps') h = absurd (cc)
  sound falsity (tuple vs') h = absurd (cc)
  sound truth unit h = absurd (cc)
  sound truth falsity h = absurd (cc)
  sound truth truth h = refl
  sound truth (int n') h = absurd (cc)
  sound truth (char n') h = absurd (cc)
  sound truth (enum n' i') h = absurd (cc)
  sound truth (object n') h = absurd (cc)
  sound truth (event n') h = absurd (cc)
  sound truth (task n') h = absurd (cc)
  sound truth (some v') h = absurd (cc)
  sound truth (array vs') h = absurd (cc)
  sound truth (mapping ps') h = absurd (cc)
  sound truth (tuple vs') h = absurd (cc)
  sound (int n) unit h = absurd (cc)
  sound (int n) falsity h = absurd (cc)
  sound (int n) truth h = absurd (cc)
  sound (int n) (int n') h = ap int ((Decides-int_eq n n').0 h)
  sound (int n) (char n') h = absurd (cc)
  sound (int n) (enum n' i') h = absurd (cc)
  sound (int n) (object n') h = absurd (cc)
  sound (int n) (event n') h = absurd (cc)
  sound (int n) (task n') h = absurd (cc)
  sound (int n) (some v') h = absurd (cc)
  sound (int n) (array vs') h = absurd (cc)
  sound (int n) (mapping ps') h = absurd (cc)
  sound (int n) (tuple vs') h = absurd (cc)
  sound (char n) unit h = absurd (cc)
  sound (char n) falsity h = absurd (cc)
  sound (char n) truth h = absurd (cc)
  sound (char n) (int n') h = absurd (cc)
  sound (char n) (char n') h = ap char ((Decides-eqb n n').0 h)
  sound (char n) (enum n' i') h = absurd (cc)
  sound (char n) (object n') h = absurd (cc)
  sound (char n) (event n') h = absurd (cc)
  sound (char n) (task n') h = absurd (cc)
  sound (char n) (some v') h = absurd (cc)
  sound (char n) (array vs') h = absurd (cc)
  sound (char n) (mapping ps') h = absurd (cc)
  sound (char n) (tuple vs') h = absurd (cc)
  sound (enum n i) unit h = absurd (cc)
  sound (enum n i) falsity h = absurd (cc)
  sound (enum n i) truth h = absurd (cc)
  sound (enum n i) (int n') h = absurd (cc)
  sound (enum n i) (char n') h = absurd (cc)
  sound (enum n i) (enum n' i') h = λ j. enum ((Decides-eqb n n').0 (and_first (n == n') (i == i') h) j)
      ((Decides-eqb i i').0 (and_second (n == n') (i == i') h) j)
  sound (enum n i) (object n') h = absurd (cc)
  sound (enum n i) (event n') h = absurd (cc)
  sound (enum n i) (task n') h = absurd (cc)
  sound (enum n i) (some v') h = absurd (cc)
  sound (enum n i) (array vs') h = absurd (cc)
  sound (enum n i) (mapping ps') h = absurd (cc)
  sound (enum n i) (tuple vs') h = absurd (cc)
  sound (object n) unit h = absurd (cc)
  sound (object n) falsity h = absurd (cc)
  sound (object n) truth h = absurd (cc)
  sound (object n) (int n') h = absurd (cc)
  sound (object n) (char n') h = absurd (cc)
  sound (object n) (enum n' i') h = absurd (cc)
  sound (object n) (object n') h = ap object ((Decides-eqb n n').0 h)
  sound (object n) (event n') h = absurd (cc)
  sound (object n) (task n') h = absurd (cc)
  sound (object n) (some v') h = absurd (cc)
  sound (object n) (array vs') h = absurd (cc)
  sound (object n) (mapping ps') h = absurd (cc)
  sound (object n) (tuple vs') h = absurd (cc)
  sound (event n) unit h = absurd (cc)
  sound (event n) falsity h = absurd (cc)
  sound (event n) truth h = absurd (cc)
  sound (event n) (int n') h = absurd (cc)
  sound (event n) (char n') h = absurd (cc)
  sound (event n) (enum n' i') h = absurd (cc)
  sound (event n) (object n') h = absurd (cc)
  sound (event n) (event n') h = ap event ((Decides-eqb n n').0 h)
  sound (event n) (task n') h = absurd (cc)
  sound (event n) (some v') h = absurd (cc)
  sound (event n) (array vs') h = absurd (cc)
  sound (event n) (mapping ps') h = absurd (cc)
  sound (event n) (tuple vs') h = absurd (cc)
  sound (task n) unit h = absurd (cc)
  sound (task n) falsity h = absurd (cc)
  sound (task n) truth h = absurd (cc)
  sound (task n) (int n') h = absurd (cc)
  sound (task n) (char n') h = absurd (cc)
  sound (task n) (enum n' i') h = absurd (cc)
  sound (task n) (object n') h = absurd (cc)
  sound (task n) (event n') h = absurd (cc)
  sound (task n) (task n') h = ap task ((Decides-eqb n n').0 h)
  sound (task n) (some v') h = absurd (cc)
  sound (task n) (array vs') h = absurd (cc)
  sound (task n) (mapping ps') h = absurd (cc)
  sound (task n) (tuple vs') h = absurd (cc)
  sound (some v) unit h = absurd (cc)
  sound (some v) falsity h = absurd (cc)
  sound (some v) truth h = absurd (cc)
  sound (some v) (int n') h = absurd (cc)
  sound (some v) (char n') h = absurd (cc)
  sound (some v) (enum n' i') h = absurd (cc)
  sound (some v) (object n') h = absurd (cc)
  sound (some v) (event n') h = absurd (cc)
  sound (some v) (task n') h = absurd (cc)
  sound (some v) (some v') h = ap some (sound v v' h)
  sound (some v) (array vs') h = absurd (cc)
  sound (some v) (mapping ps') h = absurd (cc)
  sound (some v) (tuple vs') h = absurd (cc)
  sound (array vs) unit h = absurd (cc)
  sound (array vs) falsity h = absurd (cc)
  sound (array vs) truth h = absurd (cc)
  sound (array vs) (int n') h = absurd (cc)
  sound (array vs) (char n') h = absurd (cc)
  sound (array vs) (enum n' i') h = absurd (cc)
  sound (array vs) (object n') h = absurd (cc)
  sound (array vs) (event n') h = absurd (cc)
  sound (array vs) (task n') h = absurd (cc)
  sound (array vs) (some v') h = absurd (cc)
  sound (array vs) (array vs') h = ap array (vals_sound vs vs' h)
  sound (array vs) (mapping ps') h = absurd (cc)
  sound (array vs) (tuple vs') h = absurd (cc)
  sound (mapping ps) unit h = absurd (cc)
  sound (mapping ps) falsity h = absurd (cc)
  sound (mapping ps) truth h = absurd (cc)
  sound (mapping ps) (int n') h = absurd (cc)
  sound (mapping ps) (char n') h = absurd (cc)
  sound (mapping ps) (enum n' i') h = absurd (cc)
  sound (mapping ps) (object n') h = absurd (cc)
  sound (mapping ps) (event n') h = absurd (cc)
  sound (mapping ps) (task n') h = absurd (cc)
  sound (mapping ps) (some v') h = absurd (cc)
  sound (mapping ps) (array vs') h = absurd (cc)
  sound (mapping ps) (mapping ps') h = ap mapping (pairs_sound ps ps' h)
  sound (mapping ps) (tuple vs') h = absurd (cc)
  sound (tuple vs) unit h = absurd (cc)
  sound (tuple vs) falsity h = absurd (cc)
  sound (tuple vs) truth h = absurd (cc)
  sound (tuple vs) (int n') h = absurd (cc)
  sound (tuple vs) (char n') h = absurd (cc)
  sound (tuple vs) (enum n' i') h = absurd (cc)
  sound (tuple vs) (object n') h = absurd (cc)
  sound (tuple vs) (event n') h = absurd (cc)
  sound (tuple vs) (task n') h = absurd (cc)
  sound (tuple vs) (some v') h = absurd (cc)
  sound (tuple vs) (array vs') h = absurd (cc)
  sound (tuple vs) (mapping ps') h = absurd (cc)
  sound (tuple vs) (tuple vs') h = ap tuple (vals_sound vs vs' h)

  vals_sound : (vs ws : Vals) → vals_eq vs ws ≡ true → vs ≡ ws
  vals_sound no_vals no_vals h = refl
  vals_sound no_vals (more_vals w ws) h = absurd (cc)
  vals_sound (more_vals v vs) no_vals h = absurd (cc)
  vals_sound (more_vals v vs) (more_vals w ws) h =
      λ j. more_vals (sound v w (and_first (val_eq v w) (vals_eq vs ws) h) j)
      (vals_sound vs ws (and_second (val_eq v w) (vals_eq vs ws) h) j)

  pairs_sound : (ps qs : Pairs) → pairs_eq ps qs ≡ true → ps ≡ qs
  pairs_sound no_pairs no_pairs h = refl
  pairs_sound no_pairs (more_pairs l w qs) h = absurd (cc)
  pairs_sound (more_pairs k v ps) no_pairs h = absurd (cc)
  pairs_sound (more_pairs k v ps) (more_pairs l w qs) h =
      let first : (key_eq k l && val_eq v w) ≡ true = and_first (key_eq k l && val_eq v w) (pairs_eq ps qs) h in
      λ j. more_pairs (key_sound k l (and_first (key_eq k l) (val_eq v w) first) j)
      (sound v w (and_second (key_eq k l) (val_eq v w) first) j)
      (pairs_sound ps qs (and_second (key_eq k l && val_eq v w) (pairs_eq ps qs) h) j)

mutual
  pub val_same : (v : Val) → val_eq v v ≡ true
  val_same unit = refl
  val_same falsity = refl
  val_same truth = refl
  val_same (int n) = (Decides-int_eq n n).1 refl
  val_same (char n) = (Decides-eqb n n).1 refl
  val_same (enum n i) = and_from (n == n) (i == i) ((Decides-eqb n n).1 refl) ((Decides-eqb i i).1 refl)
  val_same (object n) = (Decides-eqb n n).1 refl
  val_same (event n) = (Decides-eqb n n).1 refl
  val_same (task n) = (Decides-eqb n n).1 refl
  val_same (some v) = val_same v
  val_same (array vs) = vals_same vs
  val_same (mapping ps) = pairs_same ps
  val_same (tuple vs) = vals_same vs

  vals_same : (vs : Vals) → vals_eq vs vs ≡ true
  vals_same no_vals = refl
  vals_same (more_vals v vs) = and_from (val_eq v v) (vals_eq vs vs) (val_same v) (vals_same vs)

  pairs_same : (ps : Pairs) → pairs_eq ps ps ≡ true
  pairs_same no_pairs = refl
  pairs_same (more_pairs k v ps) = and_from (key_eq k k && val_eq v v) (pairs_eq ps ps)
      (and_from (key_eq k k) (val_eq v v) (key_same k) (val_same v)) (pairs_same ps)

pub equality_is_tested : EqualityIsTested
equality_is_tested a b = (sound a b, λ e. ap (val_eq a) (sym e) ∙ val_same a)
