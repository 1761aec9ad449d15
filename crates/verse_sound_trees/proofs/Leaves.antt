-- Lists of operands taken apart.
use Rattle.std.proofs.Common.{◌≡◌, ◌≢◌, ℕ, Bool, true, false, List, [], ◌∷◌, ◌++◌, Option, Some, None, cond, refl, ap}
use Rattle.verse_tree.specs.Tree.{Bytes}
use Rattle.verse_value.specs.Val.{Val}
use Rattle.verse_sorts.specs.Sorts.{Sort}
use Rattle.verse_sorts.specs.Typing.{Typing, Is, Are, are_no, are_so}
use Rattle.verse_sorts_values.specs.Operands.{HasNever, never_here, never_behind, Entries, entries_no, entries_so, AllShown, shown_no}
use Rattle.verse_sorts_values.specs.Operands.{shown_so, shows_text}
use Rattle.verse_sorts_values.proofs.Making.{text_is, ArePaired, paired_no, paired_so}
use Rattle.verse_meaning.specs.Programs.{same_name}
use Rattle.verse_meaning.specs.Forms.{paired, before_text, woven, split_last, given_at}
use Rattle.verse_sound_rules.specs.Forms.{given_sort}

pub split_is : (x y : Val) (vs : List Val) → split_last y (vs ++ x ∷ []) ≡ (y ∷ vs, x)
split_is x y [] = refl
split_is x y (z ∷ vs) = ap (λ q. (y ∷ q.0, q.1)) (split_is x z vs)

module _ (up : ℕ → Option ℕ) (t : Typing) where
  pub no_never : {A : Type 0} {vs : List Val} {qs : List Sort} → HasNever qs → Are up t vs qs → A
  no_never never_here (are_so i r) = elim i [ ]
  no_never (never_behind h) (are_so i r) = no_never h r

  -- the last operand, and those before it
  pub data Parted (is : List Sort) (q : Sort) : List Val → Type 0 where
    parted : {ps : List Val} {x : Val} → Are up t ps is → Is up t x q → Parted is q (ps ++ x ∷ [])

  one_more : {is : List Sort} {i q : Sort} {w : Val} {vs : List Val} → Is up t w i → Parted is q vs → Parted (i ∷ is) q (w ∷ vs)
  one_more i (parted j k) = parted (are_so i j) k

  pub part : (is : List Sort) {q : Sort} {vs : List Val} → Are up t vs (is ++ q ∷ []) → Parted is q vs
  part [] (are_so i are_no) = parted are_no i
  part (i ∷ is) (are_so j r) = one_more j (part is r)

  pub as_empty : {vs : List Val} {is : List Sort} → Are up t vs is → vs ≢ [] → is ≢ []
  as_empty are_no h e = h refl
  as_empty (are_so i r) h e = cc

  pub are_joined : {vs ws : List Val} {qs rs : List Sort} → Are up t vs qs → Are up t ws rs → Are up t (vs ++ ws) (qs ++ rs)
  are_joined are_no h = h
  are_joined (are_so i r) h = are_so i (are_joined r h)

  pub in_pairs : {k q : Sort} {vs : List Val} {qs : List Sort} → Entries k q qs → Are up t vs qs → ArePaired up t k q (paired vs)
  in_pairs entries_no are_no = paired_no
  in_pairs (entries_so h) (are_so i (are_so j r)) = paired_so i j (in_pairs h r)

  -- the parts of a text, with the text between them
  pub data Woven (vs : List Val) : Type 0 where
    woven_are : {qs : List Sort} → AllShown qs → Are up t vs qs → Woven vs

  with_text : (x : Bytes) (vs : List Val) → Woven vs → Woven (before_text x vs)
  with_text [] vs h = h
  with_text (b ∷ bs) vs (woven_are h i) = woven_are (shown_so shows_text h) (are_so (text_is up (b ∷ bs)) i)

  pub weave : (xs : List Bytes) {vs : List Val} {qs : List Sort} → AllShown qs → Are up t vs qs → Woven (woven xs vs)
  weave [] h i = woven_are shown_no are_no
  weave (x ∷ xs) shown_no are_no = with_text x (woven xs []) (weave xs shown_no are_no)
  weave (x ∷ xs) (shown_so h hs) (are_so {w} {vs} i r) = with_text x (w ∷ woven xs vs) (also h i (weave xs hs r))
    where
      also : {q : Sort} → Rattle.verse_sorts_values.specs.Operands.Shown q → Is up t w q → Woven (woven xs vs) → Woven (w ∷ woven xs vs)
      also h i (woven_are g j) = woven_are (shown_so h g) (are_so i j)

  -- the value that is given to the field of a name
  pub data Given : Option Val → Option Sort → Type 0 where
    is_given : {w : Val} {q : Sort} → Is up t w q → Given (Some w) (Some q)
    is_not_given : Given None None

  either : {w : Val} {q : Sort} {m : Option Val} {o : Option Sort} (b : Bool) → Is up t w q → Given m o →
      Given (cond b (Some w) m) (cond b (Some q) o)
  either true i g = is_given i
  either false i g = g

  pub given_typed : (x : Bytes) (xs : List Bytes) {vs : List Val} {qs : List Sort} → Are up t vs qs →
      Given (given_at x xs vs) (given_sort x xs qs)
  given_typed x [] i = is_not_given
  given_typed x (y ∷ ys) are_no = is_not_given
  given_typed x (y ∷ ys) (are_so i r) = either (same_name x y) i (given_typed x ys r)
