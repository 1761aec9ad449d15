-- Values that are made: arrays, tuples, options, maps, texts.
use Rattle.std.proofs.Common.{◌≡◌, ℕ, Bool, true, false, List, [], ◌∷◌, ◌++◌, Option, Some, None, refl, sym, subst}
use Rattle.std.specs.Prelude.{if◌then◌else◌, option_map}
use Rattle.std.proofs.lemmas.Option.{same_Some, none-some}
use Rattle.verse_base.specs.declared.refusals.Kind.TheVariants as kind
use Rattle.verse_value.specs.Val as v
use Rattle.verse_value.specs.Val.{Val, no_vals, more_vals, Pairs, no_pairs, more_pairs, vals}
use Rattle.verse_value.specs.Keys.{bytes_of, chars, key_of, key_val, key_eq}
use Rattle.verse_value.specs.Sizes.{fits}
use Rattle.verse_value.specs.Parts.{joined}
use Rattle.verse_value.specs.Operations as o
use Rattle.verse_value.specs.declared.keys.Key.{Key}
use Rattle.verse_value.specs.declared.keys.Key.TheVariants as key
use Rattle.verse_sorts.specs.Sorts as s
use Rattle.verse_sorts.specs.Sorts.{Sort, IsKey, key_never, key_nil, key_int, key_logic, key_char, key_enum, key_text}
use Rattle.verse_sorts.specs.Typing as ty
use Rattle.verse_sorts.specs.Typing.{Typing, Is, AreAll, ArePairs, AreEach, Are, are_no, are_so, is_int, is_list, is_map, is_tuple}
use Rattle.verse_sorts.specs.Typing.{is_some, is_char}
use Rattle.verse_sorts.specs.Typing.{is_true, is_false, is_nil, no_all, more_all, no_entries, more_entries, no_each, more_each}
use Rattle.verse_sorts_values.specs.Operands.{sorts, Every, every_no, every_so, Shown, shows_int}
use Rattle.verse_sorts_values.specs.Operands.{shows_char}
use Rattle.verse_sorts_values.specs.Operands.{shows_text, AllShown, shown_no, shown_so}
use Rattle.verse_sorts_values.specs.Answers.{OfSort}
use Rattle.verse_sorts_values.proofs.Numbers.{by_test}
use Rattle.verse_sorts_values.proofs.Values.{joined_all, key_there, Keyed_by, keyed_by, bytes_there}

module _ (up : ℕ → Option ℕ) (t : Typing) (k q : Sort) where
  pub data AreKeyed : List (Key × Val) → Type 0 where
    keyed_no : AreKeyed []
    keyed_so : {l : Key} {w : Val} {es : List (Key × Val)} → Is up t (key_val l) k → Is up t w q → AreKeyed es → AreKeyed ((l, w) ∷ es)

  -- keys and values in turn, as pairs
  pub data ArePaired : List (Val × Val) → Type 0 where
    paired_no : ArePaired []
    paired_so : {x y : Val} {es : List (Val × Val)} → Is up t x k → Is up t y q → ArePaired es → ArePaired ((x, y) ∷ es)

  pub data Keyed (es : List (Val × Val)) : Type 0 where
    keyed : {ks : List (Key × Val)} → o.keyed es ≡ Some ks → AreKeyed ks → Keyed es

keyed_with_is : (m : Option Key) (y : Val) (h : Option (List (Key × Val))) (k : Key) (ks : List (Key × Val)) → m ≡ Some k → h ≡ Some ks →
    o.keyed_with m y h ≡ Some ((k, y) ∷ ks)
keyed_with_is m y h k ks e f = rw (e, f)

both_there : (m n : Option (List ℕ)) (xs ys : List ℕ) → m ≡ Some xs → n ≡ Some ys → o.both_bytes m n ≡ Some (xs ++ ys)
both_there m n xs ys e f = rw (e, f)

module _ (up : ℕ → Option ℕ) {t : Typing} where
  pub chars_are : (bs : List ℕ) → AreAll up t (chars bs) s.char
  chars_are [] = no_all
  chars_are (b ∷ bs) = more_all is_char (chars_are bs)

  pub text_is : (bs : List ℕ) → Is up t (o.text_val bs) (s.list s.char)
  text_is bs = is_list (chars_are bs)

  -- a key is of the sort of the value that it comes from
  pub key_back : {w : Val} {q : Sort} {k : Key} → IsKey q → Is up t w q → key_of w ≡ Some k → Is up t (key_val k) q
  key_back key_never i e = elim i [ ]
  key_back key_nil is_nil e = subst (λ k. Is up t (key_val k) s.nil) (same_Some _ _ e) is_nil
  key_back key_int is_int e = subst (λ k. Is up t (key_val k) s.int) (same_Some _ _ e) is_int
  key_back key_logic is_false e = subst (λ k. Is up t (key_val k) s.logic) (same_Some _ _ e) is_false
  key_back key_logic is_true e = subst (λ k. Is up t (key_val k) s.logic) (same_Some _ _ e) is_true
  key_back key_char is_char e = subst (λ k. Is up t (key_val k) s.char) (same_Some _ _ e) is_char
  key_back (key_enum {e = x}) ty.is_enum e = subst (λ k. Is up t (key_val k) (s.enum x)) (same_Some _ _ e) ty.is_enum
  key_back {k = k} key_text (is_list {vs} i) e = by_bytes (bytes_of vs) e
    where
      by_bytes : (m : Option (List ℕ)) → option_map key.Text m ≡ Some k → Is up t (key_val k) (s.list s.char)
      by_bytes None e = elim (none-some _ e) [ ]
      by_bytes (Some bs) e = subst (λ k. Is up t (key_val k) (s.list s.char)) (same_Some _ _ e) (text_is bs)

  every_all : {q : Sort} {ws : List Val} {qs : List Sort} → Every q qs → Are up t ws qs → AreAll up t (vals ws) q
  every_all every_no are_no = no_all
  every_all (every_so e) (are_so i r) = more_all i (every_all e r)

  each_of : {ws : List Val} {qs : List Sort} → Are up t ws qs → AreEach up t (vals ws) (sorts qs)
  each_of are_no = no_each
  each_of (are_so i r) = more_each i (each_of r)

  -- a value at a key
  put_at : {ps : Pairs} {k q : Sort} (l m : Key) (w x : Val) (b : Bool) → Is up t (key_val m) k → Is up t w q → Is up t x q →
      ArePairs up t ps k q → ArePairs up t (o.with_entry ps l w) k q →
      ArePairs up t (if b then more_pairs m w ps else more_pairs m x (o.with_entry ps l w)) k q
  put_at l m w x true h j g r again = more_entries h j r
  put_at l m w x false h j g r again = more_entries h g again

  with_entry_are : {k q : Sort} {ps : Pairs} (l : Key) (w : Val) → Is up t (key_val l) k → Is up t w q → ArePairs up t ps k q →
      ArePairs up t (o.with_entry ps l w) k q
  with_entry_are l w i j no_entries = more_entries i j no_entries
  with_entry_are l w i j (more_entries {l = m} {w = x} h g r) = put_at l m w x (key_eq l m) h j g r (with_entry_are l w i j r)

  with_entries_are : {k q : Sort} {es : List (Key × Val)} (ps : Pairs) → AreKeyed up t k q es → ArePairs up t ps k q →
      ArePairs up t (o.with_entries ps es) k q
  with_entries_are ps keyed_no h = h
  with_entries_are ps (keyed_so {l} {w} i j r) h = with_entries_are (o.with_entry ps l w) r (with_entry_are l w i j h)

  one_keyed : {k q : Sort} {x y : Val} {es : List (Val × Val)} → IsKey k → Is up t x k → Is up t y q → Keyed_by x → Keyed up t k q es →
      Keyed up t k q ((x, y) ∷ es)
  one_keyed {x = x} {y = y} {es = es} h i j (keyed_by {k = l} e) (keyed {ks} f g) =
      keyed (keyed_with_is (key_of x) y (o.keyed es) l ks e f) (keyed_so (key_back h i e) j g)

  all_keyed : {k q : Sort} {es : List (Val × Val)} → IsKey k → ArePaired up t k q es → Keyed up t k q es
  all_keyed h paired_no = keyed refl keyed_no
  all_keyed h (paired_so i j r) = one_keyed h i j (key_there up h i) (all_keyed h r)

  shown_bytes : {w : Val} {q : Sort} → Shown q → Is up t w q → (bs : List ℕ) × (o.hole_bytes w ≡ Some bs)
  shown_bytes shows_int is_int = (_, refl)
  shown_bytes shows_char is_char = (_, refl)
  shown_bytes shows_text (is_list i) = bytes_there up i

  pub all_shown : {ws : List Val} {qs : List Sort} → AllShown qs → Are up t ws qs → (bs : List ℕ) × (o.holes_bytes ws ≡ Some bs)
  all_shown shown_no are_no = ([], refl)
  all_shown (shown_so k ks) (are_so i r) =
      let x = shown_bytes k i in let y = all_shown ks r in (x.0 ++ y.0, both_there _ _ x.0 y.0 x.1 y.1)

  module _ {F E : Type 0} (e : E) where
    sized_is : {q : Sort} (w : Val) → Is up t w q → OfSort F E up t q (o.sized w)
    sized_is w i = by_test (fits w) w kind.Size e i

    pub array : {ws : List Val} {qs : List Sort} {q : Sort} → Every q qs → Are up t ws qs → OfSort F E up t (s.list q) (o.array_of ws)
    array {ws} h i = sized_is (v.array (vals ws)) (is_list (every_all h i))

    pub tuple : {ws : List Val} {qs : List Sort} → Are up t ws qs → OfSort F E up t (s.tuple (sorts qs)) (o.tuple_of ws)
    tuple {ws} i = sized_is (v.tuple (vals ws)) (is_tuple (each_of i))

    pub option : {w : Val} {q : Sort} → Is up t w q → OfSort F E up t (s.opt q) (o.option_of w)
    option {w} i = sized_is (v.some w) (is_some i)

    pub concat : {x y : Val} {q : Sort} → Is up t x (s.list q) → Is up t y (s.list q) → OfSort F E up t (s.list q) (o.concat_of x y)
    concat (is_list {vs} i) (is_list {vs = ws} j) = sized_is (v.array (joined vs ws)) (is_list (joined_all up i j))

    pub append : {x y : Val} {q : Sort} → Is up t x (s.list q) → Is up t y q → OfSort F E up t (s.list q) (o.append_of x y)
    append {y = y} (is_list {vs} i) j = sized_is (v.array (joined vs (more_vals y no_vals))) (is_list (joined_all up i (more_all j no_all)))

    pub mapping : {es : List (Val × Val)} {k q : Sort} → IsKey k → ArePaired up t k q es → OfSort F E up t (s.map k q) (o.map_of es)
    mapping {es} {k} {q} h i = by (all_keyed h i)
      where
        by : Keyed up t k q es → OfSort F E up t (s.map k q) (o.map_of es)
        by (keyed {ks} f g) =
            subst (λ z. OfSort F E up t (s.map k q) (o.sized_map z)) (sym f) (sized_is (v.mapping (o.with_entries no_pairs ks)) (is_map
            (with_entries_are no_pairs g no_entries)))

    pub text : {ws : List Val} {qs : List Sort} → AllShown qs → Are up t ws qs → OfSort F E up t (s.list s.char) (o.join_of ws)
    text {ws} h i = let x = all_shown h i in
        subst (λ z. OfSort F E up t (s.list s.char) (o.sized_text z)) (sym x.1) (sized_is (o.text_val x.0) (text_is x.0))
