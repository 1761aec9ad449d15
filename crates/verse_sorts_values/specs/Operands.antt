-- Sorts of operands: lists of them, indices and paths, and what is written.
use Rattle.std.specs.Prelude.{◌≢◌, ℕ, zero, suc, List, [], ◌∷◌, Option, Some, None}
use Rattle.verse_value.specs.declared.modes.Mode.{Mode}
use Rattle.verse_value.specs.declared.modes.Mode.TheVariants as mode
use Rattle.verse_sorts.specs.Sorts as s
use Rattle.verse_sorts.specs.Sorts.{Sort, Sorts, IsKey, Fits}

abbrev pub sorts : List Sort → Sorts
sorts [] = s.no_sorts
sorts (q ∷ qs) = s.more_sorts q (sorts qs)

abbrev pub sort_in : Sorts → ℕ → Option Sort
sort_in s.no_sorts i = None
sort_in (s.more_sorts q qs) zero = Some q
sort_in (s.more_sorts q qs) (suc i) = sort_in qs i

-- one of the operands never gives a value
pub data HasNever : List Sort → Type 0 where
  never_here : {qs : List Sort} → HasNever (s.never ∷ qs)
  never_behind : {q : Sort} {qs : List Sort} → HasNever qs → HasNever (q ∷ qs)

pub data Every (q : Sort) : List Sort → Type 0 where
  every_no : Every q []
  every_so : {qs : List Sort} → Every q qs → Every q (q ∷ qs)

-- keys and values in turn
pub data Entries (k q : Sort) : List Sort → Type 0 where
  entries_no : Entries k q []
  entries_so : {qs : List Sort} → Entries k q qs → Entries k q (k ∷ q ∷ qs)

-- what has a text
pub data Shown : Sort → Type 0 where
  shows_int : Shown s.int
  shows_char : Shown s.char
  shows_text : Shown (s.list s.char)

pub data AllShown : List Sort → Type 0 where
  shown_no : AllShown []
  shown_so : {q : Sort} {qs : List Sort} → Shown q → AllShown qs → AllShown (q ∷ qs)

-- what an index leads to; what gives no value has no part, so nothing is asked of it
pub data Indexed : Sort → Sort → Sort → Type 0 where
  in_list : {q : Sort} → Indexed (s.list q) s.int q
  in_map : {k q : Sort} → IsKey k → Indexed (s.map k q) k q
  in_never : {i r : Sort} → Indexed s.never i r

-- and several, from the left
pub data Path : Sort → List Sort → Sort → Type 0 where
  path_no : {q : Sort} → Path q [] q
  path_so : {q i : Sort} (r : Sort) {d : Sort} {is : List Sort} → Indexed q i r → Path r is d →
      Path q (i ∷ is) d

-- a value of the first sort goes to a place of the second; what is written there is of the third
pub data Writes (up : ℕ → Option ℕ) : Mode → Sort → Sort → Sort → Type 0 where
  writes_set : {v r : Sort} → Fits up v r → Writes up mode.Set v r v
  writes_sum : Writes up mode.Add s.int s.int s.int
  writes_lists : {q : Sort} → Writes up mode.Add (s.list q) (s.list q) (s.list q)
  writes_difference : Writes up mode.Sub s.int s.int s.int
  writes_product : Writes up mode.Mul s.int s.int s.int
  -- where nothing is, nothing is changed
  writes_never : {m : Mode} {v w : Sort} → m ≢ mode.Set → Writes up m v s.never w
