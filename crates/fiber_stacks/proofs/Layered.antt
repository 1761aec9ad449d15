-- Changes of the top list in the list that holds all.
use Rattle.std.proofs.Common.{◌≡◌, ◌≢◌, ℕ, zero, suc, ◌+◌, ◌-◌, ◌≤◌, ◌<◌, IsTrue, Bool, true, false, Option, Some, None, unwrap_or, IfSome}
use Rattle.std.proofs.Common.{List, [], ◌∷◌, ◌++◌, length, take, drop, reverse, slice_get, set, refl, sym, ap, ◌∙◌, arith, append-nil}
use Rattle.std.proofs.lemmas.Bool.Decides.{nat_tests}
use Rattle.std.proofs.lemmas.List.{reverse-append, length-append, length-drop, length-take-le, take-append-le, length-reverse}
use Rattle.std.proofs.lemmas.List.{reverse-reverse, drop-append-le, take-append-drop, drop-take, take-take, take-set-le, drop-set-add}
use Rattle.std.proofs.lemmas.Option.{slice_get_within, slice_get-get_or}
use Rattle.std.proofs.lemmas.Bool.{true≢false}
use Rattle.std.proofs.Math.Seq.{drop-append_seam, take-append_seam}
use Rattle.verse_base.proofs.Facts.{get_front, get_last}
use Rattle.fiber_stacks.proofs.Lists.{grouped}
use Rattle.fiber_stacks.specs.Layers.{layers, are_layered, grown, joined, top, total, flat, with_at}

-- the place where the top list begins
begins_within : (b : ℕ) (bs : List ℕ) (n : ℕ) → IsTrue (are_layered (b ∷ bs) n) → b ≤ n
begins_within b bs n h = grind (arith, nat_tests)

beneath : (b : ℕ) (bs : List ℕ) (n : ℕ) → IsTrue (are_layered (b ∷ bs) n) → IsTrue (are_layered bs b)
beneath b bs n h = grind (arith, nat_tests)

layered_at : (b : ℕ) (bs : List ℕ) (n m : ℕ) → IsTrue (are_layered (b ∷ bs) n) → b ≤ m → IsTrue (are_layered (b ∷ bs) m)
layered_at b bs n m h le = grind (arith, nat_tests)

module _ {T : Type 0} where
  -- the last of a list is the first of its reverse
  last_grown : (r : Option T) (b : T) (xs : List T) → IfSome r (λ l. (rest : List T) × (reverse xs ≡ l ∷ rest)) →
      IfSome r (λ l. (rest : List T) × (reverse (b ∷ xs) ≡ l ∷ rest))
  last_grown None b xs h = h
  last_grown (Some l) b xs h = (h.0 ++ b ∷ [], reverse-append (b ∷ []) xs ∙ ap (λ k. k ++ b ∷ []) h.1)

  last_at : (x : T) (xs : List T) → IfSome (slice_get (x ∷ xs) (length xs)) (λ l. (rest : List T) × (reverse (x ∷ xs) ≡ l ∷ rest))
  last_at x [] = ([], refl)
  last_at x (y ∷ ys) = last_grown (slice_get (y ∷ ys) (length ys)) x (y ∷ ys) (last_at y ys)

  pub last_first : (xs : List T) → IfSome (slice_get xs (length xs - 1)) (λ l. (rest : List T) × (reverse xs ≡ l ∷ rest))
  last_first [] = tt
  last_first (x ∷ xs) =
      let e : suc (length xs) - 1 ≡ length xs = omega arith in
      rw e (last_at x xs)

  pub grown_in : (bs : List ℕ) (xs ys zs : List T) (ls : List (List T)) → IsTrue (are_layered bs (length xs)) → layers bs xs ≡ ls →
      ls ≢ [] → zs ≡ xs ++ ys → (layers bs zs ≡ grown ys ls) × IsTrue (are_layered bs (length zs))
  grown_in [] xs ys zs ls layered are some e = absurd (some (sym are))
  grown_in (b ∷ bs) xs ys zs ls layered are some e =
      let le : b ≤ length xs = begins_within b bs (length xs) layered in
      let size : length zs ≡ length xs + length ys = ap length e ∙ length-append xs ys in (
        rw (← are, e, drop-append-le b xs ys le, take-append-le b xs ys le) refl,
        layered_at b bs (length xs) (length zs) layered (omega (arith, le, size)),
      )

  pub total_of : (bs : List ℕ) (xs : List T) → IsTrue (are_layered bs (length xs)) → total (layers bs xs) ≡ length xs
  total_of [] xs layered = grind (arith, nat_tests)
  total_of (b ∷ bs) xs layered =
      let le : b ≤ length xs = begins_within b bs (length xs) layered in
      let size : length (take b xs) ≡ b = length-take-le b xs le in
      let below : total (layers bs (take b xs)) ≡ length (take b xs) =
      total_of bs (take b xs) (rw size (beneath b bs (length xs) layered)) in
      let above : length (drop b xs) ≡ length xs - b = length-drop b xs in
      rw (below, size, above) (omega (arith, le))

  pub total_in : (bs : List ℕ) (xs : List T) (ls : List (List T)) → IsTrue (are_layered bs (length xs)) → layers bs xs ≡ ls →
      total ls ≡ length xs
  total_in bs xs ls layered are = rw (← are) (total_of bs xs layered)

  -- what was popped was added
  pub popped_in : (bs : List ℕ) (xs zs : List T) (x : T) (ls : List (List T)) → IsTrue (are_layered bs (length xs)) → layers bs xs ≡ ls →
      0 < length (top ls) → xs ≡ zs ++ x ∷ [] → (ls ≡ grown (x ∷ []) (layers bs zs)) × (layers bs zs ≢ []) ×
      IsTrue (are_layered bs (length zs))
  popped_in [] xs zs x ls layered are some e = let none : 0 < 0 = rw (← are) at some in absurd (omega (arith, none))
  popped_in (b ∷ bs) xs zs x ls layered are some e =
      let size : length xs ≡ length zs + 1 = ap length e ∙ length-append zs (x ∷ []) in
      let above : 0 < length (drop b xs) = rw (← are) at some in
      let left : length (drop b xs) ≡ length xs - b = length-drop b xs in
      let kept : IsTrue (are_layered (b ∷ bs) (length zs)) =
      layered_at b bs (length xs) (length zs) layered (omega (arith, size, above, left)) in (
        sym are ∙ (grown_in (b ∷ bs) zs (x ∷ []) xs (layers (b ∷ bs) zs) kept refl (λ none. absurd (omega (arith, ap length none))) e).0,
        (λ none. absurd (omega (arith, ap length none))),
        kept,
      )

  pub some_in : (bs : List ℕ) (xs : List T) (ls : List (List T)) → layers bs xs ≡ ls → 0 < length (top ls) → 0 < length xs
  some_in [] xs ls are some = let none : 0 < 0 = rw (← are) at some in absurd (omega (arith, none))
  some_in (b ∷ bs) xs ls are some =
      let above : 0 < length (drop b xs) = rw (← are) at some in
      let left : length (drop b xs) ≡ length xs - b = length-drop b xs in
      omega (arith, above, left)

  pub with_in : (bs : List ℕ) (b : ℕ) (rest : List ℕ) (xs : List T) (i : ℕ) (x : T) (ls : List (List T)) → layers bs xs ≡ ls →
      bs ≡ b ∷ rest → layers bs (set xs (b + i) x) ≡ with_at i x ls
  with_in bs b rest xs i x ls are e = rw (← are, e, take-set-le b xs (b + i) x (omega arith), drop-set-add b xs i x) refl

  layers_length : (bs : List ℕ) (xs : List T) → length (layers bs xs) ≡ length bs
  layers_length [] xs = refl
  layers_length (b ∷ bs) xs = ap suc (layers_length bs (take b xs))

  -- there are as many lists as beginnings
  pub size_in : (es : List ℕ) (xs : List T) (ls : List (List T)) → layers (reverse es) xs ≡ ls → length ls ≡ length es
  size_in es xs ls are = sym (ap length are) ∙ layers_length (reverse es) xs ∙ length-reverse es

  joined_of : (b : ℕ) (bs : List ℕ) (xs : List T) (ls : List (List T)) → IsTrue (are_layered (b ∷ bs) (length xs)) →
      layers (b ∷ bs) xs ≡ ls → 2 ≤ length ls → (layers bs xs ≡ joined ls) × IsTrue (are_layered bs (length xs))
  joined_of b [] xs ls layered are two =
      let one : length ls ≡ 1 = sym (ap length are) in
      absurd (omega (arith, one, two))
  joined_of b (c ∷ cs) xs ls layered are two =
      let high : b ≤ length xs = begins_within b (c ∷ cs) (length xs) layered in
      let under : IsTrue (are_layered (c ∷ cs) b) = beneath b (c ∷ cs) (length xs) layered in
      let low : c ≤ b = begins_within c cs b under in
      let size : length (take b xs) ≡ b = length-take-le b xs high in
      let front : take c (take b xs) ≡ take c xs = take-take c b xs low in
      let whole : drop c xs ≡ drop c (take b xs) ++ drop b xs =
      ap (drop c) (sym (take-append-drop b xs)) ∙ drop-append-le c (take b xs) (drop b xs) (omega (arith, low, size)) in
      (rw (← are, front, whole) refl, layered_at c cs b (length xs) under (omega (arith, high, low)))

  pub joined_in : (es zs : List ℕ) (b : ℕ) (xs : List T) (ls : List (List T)) → IsTrue (are_layered (reverse es) (length xs)) →
      layers (reverse es) xs ≡ ls → 2 ≤ length ls → es ≡ zs ++ b ∷ [] →
      (layers (reverse zs) xs ≡ joined ls) × IsTrue (are_layered (reverse zs) (length xs))
  joined_in es zs b xs ls layered are two e =
      let turned : reverse es ≡ b ∷ reverse zs = ap reverse e ∙ reverse-append zs (b ∷ []) in
      joined_of b (reverse zs) xs ls (rw turned at layered) (rw turned at are) two

abbrev is_none : {A : Type 0} → Option A → Bool
is_none None = true
is_none (Some x) = false

none_some : {A : Type 0} (x : A) → None ≡ Some x → ⊥
none_some x e = true≢false (ap is_none e)

module _ {T : Type 0} where
  -- what stands behind the beginning of the lowest of n lists
  count_of : (rs : List ℕ) (xs : List T) (n b : ℕ) → IsTrue (are_layered rs (length xs)) → n ≤ length rs →
      slice_get (reverse rs) (length rs - n) ≡ Some b → (b ≤ length xs) × (total (take n (layers rs xs)) ≡ length xs - b)
  count_of rs xs zero b layered le e =
      let within : length rs - 0 < length (reverse rs) = slice_get_within (reverse rs) (length rs - 0) b e in
      absurd (omega (arith, within, length-reverse rs))
  count_of [] xs (suc n) b layered le e = absurd (omega (arith, le))
  count_of (r ∷ rs) xs (suc zero) b layered le e =
      let high : r ≤ length xs = begins_within r rs (length xs) layered in
      let place : suc (length rs) - 1 ≡ length (reverse rs) = omega (arith, length-reverse rs) in
      let there : slice_get (reverse rs ++ r ∷ []) (length (reverse rs)) ≡ Some b = rw (place, reverse-append (r ∷ []) rs) at e in
      let same : r ≡ b = ap (λ o. unwrap_or o 0) (sym (get_last (reverse rs) r) ∙ there) in
      let size : length (drop r xs) ≡ length xs - r = length-drop r xs in
      rw (← same) (high, omega (arith, size))
  count_of (r ∷ rs) xs (suc (suc n)) b layered le e =
      let high : r ≤ length xs = begins_within r rs (length xs) layered in
      let front : length (take r xs) ≡ r = length-take-le r xs high in
      let place : suc (length rs) - suc (suc n) ≡ length rs - suc n = omega arith in
      let inside : length rs - suc n < length (reverse rs) = omega (arith, le, length-reverse rs) in
      let there : slice_get (reverse rs ++ r ∷ []) (length rs - suc n) ≡ Some b = rw (place, reverse-append (r ∷ []) rs) at e in
      let under = count_of rs (take r xs) (suc n) b (rw front (beneath r rs (length xs) layered)) (omega (arith, le))
      (sym (get_front (reverse rs) (r ∷ []) (length rs - suc n) inside) ∙ there) in
      let low : b ≤ length (take r xs) = under.0 in
      let rest : total (take (suc n) (layers rs (take r xs))) ≡ length (take r xs) - b = under.1 in
      let size : length (drop r xs) ≡ length xs - r = length-drop r xs in
      (omega (arith, low, front, high), omega (arith, low, rest, front, high, size))

  pub count_in : (es : List ℕ) (xs : List T) (ls : List (List T)) (n b : ℕ) → IsTrue (are_layered (reverse es) (length xs)) →
      layers (reverse es) xs ≡ ls → n ≤ length ls → slice_get es (length es - n) ≡ Some b →
      (b ≤ length xs) × (total (take n ls) ≡ length xs - b)
  count_in es xs ls n b layered are le e =
      let few : n ≤ length (reverse es) = omega (arith, le, size_in es xs ls are, length-reverse es) in
      let there : slice_get (reverse (reverse es)) (length (reverse es) - n) ≡ Some b = rw (reverse-reverse es, length-reverse es) e in
      rw (← are) (count_of (reverse es) xs n b layered few there)

  -- no list is asked for
  pub count_none : (es : List ℕ) (ls : List (List T)) (n : ℕ) → length ls ≡ length es → n ≤ length ls →
      slice_get es (length es - n) ≡ None → 0 ≡ total (take n ls)
  count_none es ls zero size le e = refl
  count_none [] [] (suc n) size le e = absurd (omega (arith, le))
  count_none [] (l ∷ ls) (suc n) size le e = absurd (omega (arith, size))
  count_none (b ∷ bs) ls (suc n) size le e =
      let there = slice_get-get_or (b ∷ bs) (suc (length bs) - suc n) 0 (omega arith) in
      absurd (none_some _ (sym e ∙ there))

  flat_append : (xs ys : List (List T)) → flat (xs ++ ys) ≡ flat ys ++ flat xs
  flat_append [] ys = sym (append-nil (flat ys))
  flat_append (x ∷ xs) ys = ap (λ k. k ++ x) (flat_append xs ys) ∙ grouped (flat ys) (flat xs) x

  flat_length : (ls : List (List T)) → length (flat ls) ≡ total ls
  flat_length [] = refl
  flat_length (l ∷ ls) =
      let rest : length (flat ls) ≡ total ls = flat_length ls in
      omega (arith, length-append (flat ls) l, rest)

  flat_of : (bs : List ℕ) (xs : List T) → IsTrue (are_layered bs (length xs)) → flat (layers bs xs) ≡ xs
  flat_of [] [] layered = refl
  flat_of [] (x ∷ xs) layered = grind (arith, nat_tests)
  flat_of (b ∷ bs) xs layered =
      let high : b ≤ length xs = begins_within b bs (length xs) layered in
      let front : length (take b xs) ≡ b = length-take-le b xs high in
      rw (flat_of bs (take b xs) (rw front (beneath b bs (length xs) layered))) (take-append-drop b xs)

  span_of : (ls : List (List T)) (m n : ℕ) → m ≤ n → n ≤ length ls →
      drop (length (flat ls) - total (take n ls)) (take (length (flat ls) - total (take m ls)) (flat ls)) ≡ flat (drop m (take n ls))
  span_of ls m n order within =
      let ts = take n ls in
      let front : take m (take n ls) ≡ take m ls = take-take m n ls order in
      let whole : flat ls ≡ flat (drop n ls) ++ flat (take n ls) =
      ap flat (sym (take-append-drop n ls)) ∙ flat_append (take n ls) (drop n ls) in
      let upper : flat (take n ls) ≡ flat (drop m (take n ls)) ++ flat (take m ls) =
      ap flat (sym (take-append-drop m (take n ls))) ∙ flat_append (take m (take n ls)) (drop m (take n ls)) ∙
      ap (λ k. flat (drop m (take n ls)) ++ flat k) front in
      let all : flat ls ≡ (flat (drop n ls) ++ flat (drop m (take n ls))) ++ flat (take m ls) =
      whole ∙ ap (λ k. flat (drop n ls) ++ k) upper ∙ sym (grouped (flat (drop n ls)) (flat (drop m (take n ls))) (flat (take m ls))) in
      let size : length (flat ls) ≡ length (flat (drop n ls)) + length (flat (take n ls)) =
      ap length whole ∙ length-append (flat (drop n ls)) (flat (take n ls)) in
      let size_all : length (flat ls) ≡ length (flat (drop n ls) ++ flat (drop m (take n ls))) + length (flat (take m ls)) =
      ap length all ∙ length-append (flat (drop n ls) ++ flat (drop m (take n ls))) (flat (take m ls)) in
      let start : length (flat ls) - total (take n ls) ≡ length (flat (drop n ls)) = omega (arith, size, flat_length (take n ls)) in
      let end : length (flat ls) - total (take m ls) ≡ length (flat (drop n ls) ++ flat (drop m (take n ls))) =
      omega (arith, size_all, flat_length (take m ls)) in
      rw (start, end) (ap (λ k. drop (length (flat (drop n ls))) (take (length (flat (drop n ls) ++ flat (drop m (take n ls)))) k)) all ∙
      ap (drop (length (flat (drop n ls)))) (take-append_seam (flat (drop n ls) ++ flat (drop m (take n ls))) (flat (take m ls))) ∙
      drop-append_seam (flat (drop n ls)) (flat (drop m (take n ls))))

  pub span_in : (bs : List ℕ) (xs : List T) (ls : List (List T)) (m n start end : ℕ) → IsTrue (are_layered bs (length xs)) →
      layers bs xs ≡ ls → m ≤ n → n ≤ length ls → start ≡ length xs - total (take n ls) → end ≡ length xs - total (take m ls) →
      start ≤ end → take (end - start) (drop start xs) ≡ flat (drop m (take n ls))
  span_in bs xs ls m n start end layered are order within s e le =
      let items : flat ls ≡ xs = ap flat (sym are) ∙ flat_of bs xs layered in
      let sum : start + (end - start) ≡ end = omega (arith, le) in
      let parts : drop (length xs - total (take n ls)) (take (length xs - total (take m ls)) xs) ≡ flat (drop m (take n ls)) =
      rw items at (span_of ls m n order within) in
      sym (drop-take start (end - start) xs) ∙ ap (λ k. drop start (take k xs)) sum ∙ ap (λ k. drop k (take end xs)) s ∙
      ap (λ k. drop (length xs - total (take n ls)) (take k xs)) e ∙ parts

  total_part : (ls : List (List T)) (n : ℕ) → total (take n ls) ≤ total ls
  total_part ls zero = omega arith
  total_part [] (suc n) = omega arith
  total_part (l ∷ ls) (suc n) = omega (arith, total_part ls n)

  total_more : (ls : List (List T)) (m n : ℕ) → m ≤ n → total (take m ls) ≤ total (take n ls)
  total_more ls zero n le = omega arith
  total_more [] (suc m) n le = omega arith
  total_more (l ∷ ls) (suc m) zero le = absurd (omega (arith, le))
  total_more (l ∷ ls) (suc m) (suc n) le = omega (arith, total_more ls m n (omega (arith, le)))

  -- where it begins and ends
  pub span_within : (bs : List ℕ) (xs : List T) (ls : List (List T)) (m n : ℕ) → IsTrue (are_layered bs (length xs)) → layers bs xs ≡ ls →
      m ≤ n → (total (take m ls) ≤ total (take n ls)) × (total (take n ls) ≤ length xs)
  span_within bs xs ls m n layered are order =
      let all : total ls ≡ length xs = total_in bs xs ls layered are in
      (total_more ls m n order, omega (arith, total_part ls n, all))
