-- What is in arrays, maps, tuples and options, and what stands at an index.
use Rattle.std.proofs.Common.{◌≡◌, ℕ, zero, suc, Bool, true, false, List, [], ◌∷◌, Option, Some, None, refl, sym, subst, ap}
use Rattle.std.specs.Prelude.{pos, negsuc, option_map, if◌then◌else◌}
use Rattle.std.proofs.lemmas.Option.{same_Some, none-some}
use Rattle.verse_value.specs.Val as v
use Rattle.verse_value.specs.Val.{Val, Vals, Pairs}
use Rattle.verse_value.specs.Answer as a
use Rattle.verse_value.specs.Answer.{given_or}
use Rattle.verse_value.specs.Keys.{bytes_of, with_byte, key_of, at_key, key_eq}
use Rattle.verse_value.specs.Places.{nth, in_map as map_step, part_or, outside, absent}
use Rattle.verse_value.specs.Operations as o
use Rattle.verse_value.specs.Parts.{joined}
use Rattle.verse_value.specs.declared.keys.Key.{Key}
use Rattle.verse_sorts.specs.Sorts as s
use Rattle.verse_sorts.specs.Sorts.{Sort, Sorts, IsKey, key_never, key_nil, key_int, key_logic, key_char, key_enum, key_text}
use Rattle.verse_sorts.specs.Typing as ty
use Rattle.verse_sorts.specs.Typing.{Typing, Is, AreAll, ArePairs, AreEach, is_int, is_list, is_map, is_tuple, is_some, is_empty, is_true}
use Rattle.verse_sorts.specs.Typing.{is_false}
use Rattle.verse_sorts.specs.Typing.{is_nil, no_all, more_all, no_entries, more_entries, no_each, more_each, is_char}
use Rattle.verse_sorts_values.specs.Operands.{sort_in, Indexed, in_list, in_map, in_never}
use Rattle.verse_sorts_values.specs.Answers.{OfSort, answers, answers_failure}

pub data Keyed_by (w : Val) : Type 0 where
  keyed_by : {k : Key} → key_of w ≡ Some k → Keyed_by w

module _ (up : ℕ → Option ℕ) {t : Typing} where
  pub joined_all : {xs ys : Vals} {q : Sort} → AreAll up t xs q → AreAll up t ys q → AreAll up t (joined xs ys) q
  joined_all no_all b = b
  joined_all (more_all i r) b = more_all i (joined_all r b)

  pub nth_all : {vs : Vals} {q : Sort} {x : Val} (k : ℕ) → AreAll up t vs q → nth vs k ≡ Some x → Is up t x q
  nth_all k no_all e = elim (none-some _ e) [ ]
  nth_all {q = q} zero (more_all i r) e = subst (λ x. Is up t x q) (same_Some _ _ e) i
  nth_all (suc k) (more_all i r) e = nth_all k r e

  pub key_found : {ps : Pairs} {k q : Sort} {x : Val} (l : Key) → ArePairs up t ps k q → at_key ps l ≡ Some x → Is up t x q
  key_found l no_entries e = elim (none-some _ e) [ ]
  key_found {q = q} l (more_entries {l = m} {w = w} {ps = ps} i j r) e = go (key_eq l m) (λ x h. key_found l r h) e
    where
      go : {x : Val} (b : Bool) → ((x : Val) → at_key ps l ≡ Some x → Is up t x q) → (if b then Some w else at_key ps l) ≡ Some x →
          Is up t x q
      go true h e = subst (λ x. Is up t x q) (same_Some _ _ e) j
      go false h e = h _ e

  pub bytes_there : {vs : Vals} → AreAll up t vs s.char → (bs : List ℕ) × (bytes_of vs ≡ Some bs)
  bytes_there no_all = ([], refl)
  bytes_there (more_all (is_char {n = b}) r) = (b ∷ (bytes_there r).0, ap (with_byte (Some b)) (bytes_there r).1)

  pub key_there : {w : Val} {k : Sort} → IsKey k → Is up t w k → Keyed_by w
  key_there key_never i = elim i [ ]
  key_there key_nil is_nil = keyed_by refl
  key_there key_int is_int = keyed_by refl
  key_there key_logic is_false = keyed_by refl
  key_there key_logic is_true = keyed_by refl
  key_there key_char is_char = keyed_by refl
  key_there key_enum ty.is_enum = keyed_by refl
  key_there key_text (is_list i) = keyed_by (ap (option_map _) (bytes_there i).1)

  module _ {F E : Type 0} where
    part_there : {q : Sort} (m : Option Val) → F → ((x : Val) → m ≡ Some x → Is up t x q) → OfSort F E up t q (o.step_answer
        (part_or outside m))
    part_there None f h = answers_failure f
    part_there (Some x) f h = answers (h x refl)

    entry_there : {q : Sort} (m : Option Val) → F → ((x : Val) → m ≡ Some x → Is up t x q) → OfSort F E up t q (o.step_answer
        (part_or absent m))
    entry_there None f h = answers_failure f
    entry_there (Some x) f h = answers (h x refl)

    pub indexed : {u w : Val} {q i r : Sort} → F → Indexed q i r → Is up t u q → Is up t w i → OfSort F E up t r (o.at_of u w)
    indexed f in_list (is_list {vs} i) (is_int {n = pos k}) = part_there (nth vs k) f (λ x e. nth_all k i e)
    indexed f in_list (is_list {vs} i) (is_int {n = negsuc k}) = answers_failure f
    indexed {w = w} {r = r} f (in_map k) (is_map {ps} i) j = by_key (key_there k j)
      where
        by_key : Keyed_by w → OfSort F E up t r (o.at_of (v.mapping ps) w)
        by_key (keyed_by {k = l} e) =
            subst (λ m. OfSort F E up t r (o.step_answer (map_step ps m))) (sym e) (entry_there (at_key ps l) f (λ x h. key_found l i h))
    indexed f in_never i j = elim i [ ]

    pub queried_option : {x : Val} {q : Sort} → F → Is up t x (s.opt q) → OfSort F E up t q (o.query_of x)
    queried_option f is_empty = answers_failure f
    queried_option f (is_some i) = answers i

    pub queried_logic : {x : Val} → F → Is up t x s.logic → OfSort F E up t s.logic (o.query_of x)
    queried_logic f is_false = answers_failure f
    queried_logic f is_true = answers is_true

    each_there : {vs : Vals} {qs : Sorts} {q : Sort} (i : ℕ) → AreEach up t vs qs → sort_in qs i ≡ Some q →
        OfSort F E up t q (given_or a.stuck (nth vs i))
    each_there i no_each e = elim (none-some _ e) [ ]
    each_there zero (more_each {w} i r) e = answers (subst (λ q. Is up t w q) (same_Some _ _ e) i)
    each_there (suc i) (more_each j r) e = each_there i r e

    pub item : {x : Val} {qs : Sorts} {q : Sort} (i : ℕ) → sort_in qs i ≡ Some q → Is up t x (s.tuple qs) →
        OfSort F E up t q (o.item_of x i)
    item i e (is_tuple j) = each_there i j e

    pub list_length : {x : Val} {q : Sort} → Is up t x (s.list q) → OfSort F E up t s.int (o.length_of x)
    list_length (is_list i) = answers is_int

    pub map_length : {x : Val} {k q : Sort} → Is up t x (s.map k q) → OfSort F E up t s.int (o.length_of x)
    map_length (is_map i) = answers is_int
