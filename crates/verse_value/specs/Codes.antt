-- Values as trees of numbers, and back: by their trees values are told apart.
use Rattle.std.specs.Prelude.{◌≡◌, ℕ, zero, suc, ℤ, pos, negsuc, true, false, List, [], ◌∷◌}
use Rattle.std.specs.Coded.{Coded, code_by}
use mathlib.Core.Path.{refl, ap}
use base.Stored.{Gv, gnil, gnum, gcons}
use Rattle.verse_value.specs.Val.{Val, unit, falsity, truth, int, char, enum, object, event, task}
use Rattle.verse_value.specs.Val.{some, array, mapping, tuple, Vals}
use Rattle.verse_value.specs.Val.{no_vals, more_vals, Pairs, no_pairs, more_pairs}
use Rattle.verse_value.specs.declared.keys.Key.{Key}
use Rattle.verse_value.specs.declared.keys.Key.TheVariants as key

-- a tree with a mark at its root
abbrev marked : ℕ → Gv → Gv
marked mark rest = gcons (gnum mark) rest

abbrev number : Gv → ℕ
number gnil = 0
number (gnum n) = n
number (gcons g h) = 0

abbrev front : Gv → Gv
front gnil = gnil
front (gnum n) = gnil
front (gcons g h) = g

abbrev behind : Gv → Gv
behind gnil = gnil
behind (gnum n) = gnil
behind (gcons g h) = h

-- ints: the mark tells the sign
abbrev int_tree : ℤ → Gv
int_tree (pos n) = marked 0 (gnum n)
int_tree (negsuc n) = marked 1 (gnum n)

abbrev int_by_mark : ℕ → ℕ → ℤ
int_by_mark zero n = pos n
int_by_mark (suc mark) n = negsuc n

abbrev int_from : Gv → ℤ
int_from g = int_by_mark (number (front g)) (number (behind g))

int_again : (n : ℤ) → int_from (int_tree n) ≡ n
int_again (pos n) = refl
int_again (negsuc n) = refl

abbrev bytes_tree : List ℕ → Gv
bytes_tree [] = gnil
bytes_tree (b ∷ bs) = marked b (bytes_tree bs)

abbrev bytes_from : Gv → List ℕ
bytes_from gnil = []
bytes_from (gnum n) = []
bytes_from (gcons g h) = number g ∷ bytes_from h

bytes_again : (bs : List ℕ) → bytes_from (bytes_tree bs) ≡ bs
bytes_again [] = refl
bytes_again (b ∷ bs) = ap (λ cs. b ∷ cs) (bytes_again bs)

abbrev key_tree : Key → Gv
key_tree (key.Int n) = marked 0 (int_tree n)
key_tree (key.Logic false) = marked 1 gnil
key_tree (key.Logic true) = marked 2 gnil
key_tree (key.Char c) = marked 3 (gnum c)
key_tree (key.Enum of at) = marked 4 (marked of (gnum at))
key_tree (key.Text bytes) = marked 5 (bytes_tree bytes)

abbrev key_by_mark : ℕ → Gv → Key
key_by_mark zero g = key.Int (int_from g)
key_by_mark (suc zero) g = key.Logic false
key_by_mark (suc (suc zero)) g = key.Logic true
key_by_mark (suc (suc (suc zero))) g = key.Char (number g)
key_by_mark (suc (suc (suc (suc zero)))) g = key.Enum (number (front g)) (number (behind g))
key_by_mark (suc (suc (suc (suc (suc mark))))) g = key.Text (bytes_from g)

abbrev key_from : Gv → Key
key_from g = key_by_mark (number (front g)) (behind g)

key_again : (k : Key) → key_from (key_tree k) ≡ k
key_again (key.Int n) = ap (λ m. key.Int m) (int_again n)
key_again (key.Logic false) = refl
key_again (key.Logic true) = refl
key_again (key.Char c) = refl
key_again (key.Enum of at) = refl
key_again (key.Text bytes) = ap (λ bs. key.Text bs) (bytes_again bytes)

abbrev mutual
  pub val_tree : Val → Gv
  val_tree unit = marked 0 gnil
  val_tree falsity = marked 1 gnil
  val_tree truth = marked 2 gnil
  val_tree (int n) = marked 3 (int_tree n)
  val_tree (char c) = marked 4 (gnum c)
  val_tree (enum of at) = marked 5 (marked of (gnum at))
  val_tree (object cell) = marked 6 (gnum cell)
  val_tree (event cell) = marked 7 (gnum cell)
  val_tree (task n) = marked 8 (gnum n)
  val_tree (some v) = marked 9 (val_tree v)
  val_tree (array vs) = marked 10 (vals_tree vs)
  val_tree (mapping ps) = marked 11 (pairs_tree ps)
  val_tree (tuple vs) = marked 12 (vals_tree vs)

  pub vals_tree : Vals → Gv
  vals_tree no_vals = gnil
  vals_tree (more_vals v vs) = gcons (val_tree v) (vals_tree vs)

  pub pairs_tree : Pairs → Gv
  pairs_tree no_pairs = gnil
  pairs_tree (more_pairs k v ps) = gcons (gcons (key_tree k) (val_tree v)) (pairs_tree ps)

-- which value a mark stands for, where the rest of the tree is a value, values, or a map's entries
abbrev val_by_mark : ℕ → Gv → Val → Vals → Pairs → Val
val_by_mark zero g v vs ps = unit
val_by_mark (suc zero) g v vs ps = falsity
val_by_mark (suc (suc zero)) g v vs ps = truth
val_by_mark (suc (suc (suc zero))) g v vs ps = int (int_from g)
val_by_mark (suc (suc (suc (suc zero)))) g v vs ps = char (number g)
val_by_mark (suc (suc (suc (suc (suc zero))))) g v vs ps =
    enum (number (front g)) (number (behind g))
val_by_mark (suc (suc (suc (suc (suc (suc zero)))))) g v vs ps = object (number g)
val_by_mark (suc (suc (suc (suc (suc (suc (suc zero))))))) g v vs ps = event (number g)
val_by_mark (suc (suc (suc (suc (suc (suc (suc (suc zero)))))))) g v vs ps = task (number g)
val_by_mark (suc (suc (suc (suc (suc (suc (suc (suc (suc zero))))))))) g v vs ps = some v
val_by_mark (suc (suc (suc (suc (suc (suc (suc (suc (suc (suc zero)))))))))) g v vs ps = array vs
val_by_mark (suc (suc (suc (suc (suc (suc (suc (suc (suc (suc (suc zero))))))))))) g v vs ps =
    mapping ps
val_by_mark (suc (suc (suc (suc (suc (suc (suc (suc (suc (suc (suc (suc mark)))))))))))) g v vs ps =
    tuple vs

abbrev mutual
  pub val_from : Gv → Val
  val_from gnil = unit
  val_from (gnum n) = unit
  val_from (gcons g h) = val_by_mark (number g) h (val_from h) (vals_from h) (pairs_from h)

  pub vals_from : Gv → Vals
  vals_from gnil = no_vals
  vals_from (gnum n) = no_vals
  vals_from (gcons g h) = more_vals (val_from g) (vals_from h)

  pub pairs_from : Gv → Pairs
  pairs_from gnil = no_pairs
  pairs_from (gnum n) = no_pairs
  pairs_from (gcons gnil h) = no_pairs
  pairs_from (gcons (gnum n) h) = no_pairs
  pairs_from (gcons (gcons k v) h) = more_pairs (key_from k) (val_from v) (pairs_from h)

mutual
  pub val_again : (v : Val) → val_from (val_tree v) ≡ v
  val_again unit = refl
  val_again falsity = refl
  val_again truth = refl
  val_again (int n) = ap int (int_again n)
  val_again (char c) = refl
  val_again (enum of at) = refl
  val_again (object cell) = refl
  val_again (event cell) = refl
  val_again (task n) = refl
  val_again (some v) = ap some (val_again v)
  val_again (array vs) = ap array (vals_again vs)
  val_again (mapping ps) = ap mapping (pairs_again ps)
  val_again (tuple vs) = ap tuple (vals_again vs)

  pub vals_again : (vs : Vals) → vals_from (vals_tree vs) ≡ vs
  vals_again no_vals = refl
  vals_again (more_vals v vs) = λ i. more_vals (val_again v i) (vals_again vs i)

  pub pairs_again : (ps : Pairs) → pairs_from (pairs_tree ps) ≡ ps
  pairs_again no_pairs = refl
  pairs_again (more_pairs k v ps) =
      λ i. more_pairs (key_again k i) (val_again v i) (pairs_again ps i)

abbrev pub coded_tree : Coded Gv
coded_tree = record { code = λ g. g; inj = λ g h p. p }

abbrev pub coded_val : Coded Val
coded_val = code_by Gv coded_tree val_tree val_from val_again

abbrev pub coded_vals : Coded Vals
coded_vals = code_by Gv coded_tree vals_tree vals_from vals_again

abbrev pub coded_pairs : Coded Pairs
coded_pairs = code_by Gv coded_tree pairs_tree pairs_from pairs_again
