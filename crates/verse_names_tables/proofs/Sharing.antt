-- Names with numbers, and where each of them stands.
use Rattle.std.proofs.Common.{◌≡◌, ℕ, zero, suc, ◌+◌, ◌<◌, Bool, true, false, cond, bytes_eq, List, [], ◌∷◌, ◌++◌, map, length}
use Rattle.std.proofs.Common.{Option, refl, sym, ap, ◌∙◌, subst, arith}
use Rattle.std.proofs.Common.{length-append}
use Rattle.std.proofs.lemmas.List.{length-map, map-append}
use Rattle.std.proofs.lemmas.Slice.Eq.{bytes_eq-Decides}
use Rattle.std.specs.Prelude.{Some, None, slice_get, slice_set, replicate}
use denote.Ref.{Bor}
use Rattle.verse_tree.specs.Tree.{Bytes}
use Rattle.verse_names_tables.specs.Names.{look, place, one_further, put, Roll}
use Rattle.verse_names_tables.specs.Views.{bytes_now}
use Rattle.verse_names_tables.specs.Shared.{second, paired, unnumbered, told, told_at, at_place, ArePlaces}

-- ---- lists

module _ {A : Type 0} where
  pub get_set : (xs : List A) (i : ℕ) (y : A) → i < length xs → slice_get (slice_set xs i y) i ≡ Some y
  get_set [] i y h = absurd (omega (arith, h))
  get_set (x ∷ xs) zero y h = refl
  get_set (x ∷ xs) (suc i) y h = get_set xs i y (omega (arith, h))

  pub get_other : (xs : List A) (i j : ℕ) (y : A) → (j ≡ i → ⊥) → slice_get (slice_set xs i y) j ≡ slice_get xs j
  get_other [] i j y h = refl
  get_other (x ∷ xs) zero zero y h = absurd (h refl)
  get_other (x ∷ xs) zero (suc j) y h = refl
  get_other (x ∷ xs) (suc i) zero y h = refl
  get_other (x ∷ xs) (suc i) (suc j) y h = get_other xs i j y (λ e. h (ap suc e))

-- ---- tables

module _ {V : Type 0} where
  put_new : (x : Bytes) (v : V) (es : List (Bytes × V)) → look x es ≡ None → put x v es ≡ es ++ (x, v) ∷ []
  put_new x v [] h = refl
  put_new x v (e ∷ es) h = by (bytes_eq x e.0) (λ g. put_new x v es g) h
    where
      by : (b : Bool) → (look x es ≡ None → put x v es ≡ es ++ (x, v) ∷ []) → cond b (Some e.1) (look x es) ≡ None →
          cond b ((e.0, v) ∷ es) (e ∷ put x v es) ≡ e ∷ (es ++ (x, v) ∷ [])
      by true r h = cc
      by false r h = ap (λ l. e ∷ l) (r h)

  pub nowhere_none : (x : Bytes) (es : List (Bytes × V)) → place x es ≡ None → look x es ≡ None
  nowhere_none x [] h = refl
  nowhere_none x (e ∷ es) h = by (bytes_eq x e.0) (place x es) (λ g. nowhere_none x es g) h
    where
      by : (b : Bool) (o : Option ℕ) → (o ≡ None → look x es ≡ None) → cond b (Some 0) (one_further o) ≡ None →
          cond b (Some e.1) (look x es) ≡ None
      by true o r h = cc
      by false None r h = r refl
      by false (Some i) r h = cc

  -- no two names stand at one place
  one_name : (x y : Bytes) (i : ℕ) (es : List (Bytes × V)) → place x es ≡ Some i → place y es ≡ Some i → x ≡ y
  one_name x y i [] g h = cc
  one_name x y i (e ∷ es) g h = by (bytes_eq x e.0) (bytes_eq y e.0) (place x es) (place y es) refl refl (λ j r s. one_name x y j es r s) g h
    where
      by : (b c : Bool) (o u : Option ℕ) → bytes_eq x e.0 ≡ b → bytes_eq y e.0 ≡ c → ((j : ℕ) → o ≡ Some j → u ≡ Some j → x ≡ y) →
          cond b (Some 0) (one_further o) ≡ Some i → cond c (Some 0) (one_further u) ≡ Some i → x ≡ y
      by true true o u p q r g h = (bytes_eq-Decides x e.0).0 p ∙ sym ((bytes_eq-Decides y e.0).0 q)
      by true false o None p q r g h = cc
      by true false o (Some j) p q r g h =
          absurd (let a : 0 ≡ i = cc in let b : j + 1 ≡ i = cc in omega (arith, a, b))
      by false true None u p q r g h = cc
      by false true (Some j) u p q r g h =
          absurd (let a : 0 ≡ i = cc in let b : j + 1 ≡ i = cc in omega (arith, a, b))
      by false false None u p q r g h = cc
      by false false (Some j) None p q r g h = cc
      by false false (Some j) (Some k) p q r g h =
          let a : j + 1 ≡ i = cc in
          let b : k + 1 ≡ i = cc in
          r j refl (ap Some (let same : k ≡ j = omega (arith, a, b) in same))

-- ---- names with numbers

place_paired : (x : Bytes) (xs : List Bytes) (ns : List ℕ) → length xs ≡ length ns →
    place x (paired xs ns) ≡ place x (unnumbered xs)
place_paired x [] ns e = refl
place_paired x (y ∷ ys) [] e = absurd (omega (arith, e))
place_paired x (y ∷ ys) (n ∷ ns) e =
    ap (λ o. cond (bytes_eq x y) (Some 0) (one_further o)) (place_paired x ys ns (omega (arith, e)))

pub look_paired : (x : Bytes) (xs : List Bytes) (ns : List ℕ) → length xs ≡ length ns →
    at_place (place x (paired xs ns)) ns ≡ look x (paired xs ns)
look_paired x [] ns e = refl
look_paired x (y ∷ ys) [] e = absurd (omega (arith, e))
look_paired x (y ∷ ys) (n ∷ ns) e =
    by (bytes_eq x y) (place x (paired ys ns)) (look_paired x ys ns (omega (arith, e)))
  where
    by : (b : Bool) (o : Option ℕ) → at_place o ns ≡ look x (paired ys ns) →
        at_place (cond b (Some 0) (one_further o)) (n ∷ ns) ≡ cond b (Some n) (look x (paired ys ns))
    by true o h = refl
    by false None h = h
    by false (Some i) h = ap (slice_get (n ∷ ns)) (let same : i + 1 ≡ suc i = omega arith in same) ∙ h

pub seconds : (xs : List Bytes) (ns : List ℕ) → length xs ≡ length ns → ns ≡ map second (paired xs ns)
seconds [] [] e = refl
seconds [] (n ∷ ns) e = absurd (omega (arith, e))
seconds (x ∷ xs) [] e = absurd (omega (arith, e))
seconds (x ∷ xs) (n ∷ ns) e = ap (λ l. n ∷ l) (seconds xs ns (omega (arith, e)))

pub paired_end : (xs : List Bytes) (ns : List ℕ) (x : Bytes) (n : ℕ) → length xs ≡ length ns →
    paired (xs ++ x ∷ []) (ns ++ n ∷ []) ≡ paired xs ns ++ (x, n) ∷ []
paired_end [] [] x n e = refl
paired_end [] (m ∷ ns) x n e = absurd (omega (arith, e))
paired_end (y ∷ ys) [] x n e = absurd (omega (arith, e))
paired_end (y ∷ ys) (m ∷ ns) x n e = ap (λ l. (y, m) ∷ l) (paired_end ys ns x n (omega (arith, e)))

pub put_there : (x : Bytes) (xs : List Bytes) (ns : List ℕ) (p n : ℕ) → length xs ≡ length ns →
    place x (paired xs ns) ≡ Some p → paired xs (slice_set ns p n) ≡ put x n (paired xs ns)
put_there x [] ns p n e h = cc
put_there x (y ∷ ys) [] p n e h = absurd (omega (arith, e))
put_there x (y ∷ ys) (m ∷ ns) p n e h =
    by (bytes_eq x y) (place x (paired ys ns)) p (λ q g. put_there x ys ns q n (omega (arith, e)) g) h
  where
    by : (b : Bool) (o : Option ℕ) (p : ℕ) → ((q : ℕ) → o ≡ Some q → paired ys (slice_set ns q n) ≡ put x n (paired ys ns)) →
        cond b (Some 0) (one_further o) ≡ Some p →
        paired (y ∷ ys) (slice_set (m ∷ ns) p n) ≡ cond b ((y, n) ∷ paired ys ns) ((y, m) ∷ put x n (paired ys ns))
    by true o zero r h = refl
    by true o (suc p) r h = absurd (let same : 0 ≡ suc p = cc in omega (arith, same))
    by false None p r h = cc
    by false (Some i) zero r h = absurd (let same : i + 1 ≡ 0 = cc in omega (arith, same))
    by false (Some i) (suc p) r h =
        let same : i + 1 ≡ suc p = cc in
        ap (λ l. (y, m) ∷ l) (r p (ap Some (let also : i ≡ p = omega (arith, same) in also)))

-- ---- where each name stands

pub place_told : (all : Roll) (ps : List (Option ℕ)) (xs : List Bytes) (ns : List ℕ) (x : Bytes) → ArePlaces all ps xs →
    length xs ≡ length ns → told_at (place x all) ps ≡ place x (paired xs ns)
place_told all ps xs ns x h e = h x ∙ sym (place_paired x xs ns e)

none_told : (n i : ℕ) → told (slice_get (replicate n None) i) ≡ None
none_told zero i = refl
none_told (suc n) zero = refl
none_told (suc n) (suc i) = none_told n i

pub none_placed : (all : Roll) (n : ℕ) → ArePlaces all (replicate n None) []
none_placed all n x = by (place x all)
  where
    by : (o : Option ℕ) → told_at o (replicate n None) ≡ None
    by None = refl
    by (Some i) = none_told n i

place_last : (x : Bytes) (xs : List Bytes) → place x (unnumbered xs) ≡ None → place x (unnumbered (xs ++ x ∷ [])) ≡ Some (length xs)
place_last x [] h = ap (λ b. cond b (Some 0) None) ((bytes_eq-Decides x x).1 refl)
place_last x (y ∷ ys) h = by (bytes_eq x y) (place x (unnumbered ys)) (λ g. place_last x ys g) h
  where
    by : (b : Bool) (o : Option ℕ) → (o ≡ None → place x (unnumbered (ys ++ x ∷ [])) ≡ Some (length ys)) →
        cond b (Some 0) (one_further o) ≡ None →
        cond b (Some 0) (one_further (place x (unnumbered (ys ++ x ∷ [])))) ≡ Some (suc (length ys))
    by true o r h = cc
    by false None r h = ap one_further (r refl) ∙ ap Some (let same : length ys + 1 ≡ suc (length ys) = omega arith in same)
    by false (Some i) r h = cc

place_before : (y x : Bytes) (xs : List Bytes) → bytes_eq y x ≡ false → place y (unnumbered (xs ++ x ∷ [])) ≡ place y (unnumbered xs)
place_before y x [] h = ap (λ b. cond b (Some 0) None) h
place_before y x (z ∷ zs) h = ap (λ o. cond (bytes_eq y z) (Some 0) (one_further o)) (place_before y x zs h)

pub with_place : (all : Roll) (ps : List (Option ℕ)) (xs : List Bytes) (x : Bytes) (i : ℕ) → ArePlaces all ps xs →
    place x all ≡ Some i → i < length ps → place x (unnumbered xs) ≡ None →
    ArePlaces all (slice_set ps i (Some (length xs))) (xs ++ x ∷ [])
with_place all ps xs x i h e l f y = by (bytes_eq y x) refl
  where
    here : told_at (place x all) (slice_set ps i (Some (length xs))) ≡ place x (unnumbered (xs ++ x ∷ []))
    here = ap (λ o. told_at o (slice_set ps i (Some (length xs)))) e ∙ ap told (get_set ps i (Some (length xs)) l) ∙
        sym (place_last x xs f)

    elsewhere : (o : Option ℕ) → place y all ≡ o → bytes_eq y x ≡ false → told_at o (slice_set ps i (Some (length xs))) ≡ told_at o ps
    elsewhere None q s = refl
    elsewhere (Some j) q s = ap told (get_other ps i j (Some (length xs)) (λ t. differ (q ∙ ap Some t)))
      where
        differ : place y all ≡ Some i → ⊥
        differ g = let k : true ≡ false = sym ((bytes_eq-Decides y x).1 (one_name y x i all g e)) ∙ s in cc

    by : (b : Bool) → bytes_eq y x ≡ b → told_at (place y all) (slice_set ps i (Some (length xs))) ≡ place y (unnumbered (xs ++ x ∷ []))
    by true s = subst (λ z. told_at (place z all) (slice_set ps i (Some (length xs))) ≡ place z (unnumbered (xs ++ x ∷ [])))
        (sym ((bytes_eq-Decides y x).0 s)) here
    by false s = elsewhere (place y all) refl s ∙ h y ∙ sym (place_before y x xs s)

-- a name that is found nowhere stands at no place
pub none_nowhere : {V : Type 0} (x : Bytes) (es : List (Bytes × V)) → look x es ≡ None → place x es ≡ None
none_nowhere x [] h = refl
none_nowhere x (e ∷ es) h = by (bytes_eq x e.0) (λ g. none_nowhere x es g) h
  where
    by : (b : Bool) → (look x es ≡ None → place x es ≡ None) → cond b (Some e.1) (look x es) ≡ None →
        cond b (Some 0) (one_further (place x es)) ≡ None
    by true r h = cc
    by false r h = ap one_further (r h)

pub add_place : (all : Roll) (ps : List (Option ℕ)) (xs : List Bytes) (ns : List ℕ) (x : Bytes) (i : ℕ) → ArePlaces all ps xs →
    length xs ≡ length ns → place x all ≡ Some i → i < length ps → look x (paired xs ns) ≡ None →
    ArePlaces all (slice_set ps i (Some (length xs))) (xs ++ x ∷ [])
add_place all ps xs ns x i h e f l g = with_place all ps xs x i h f l (sym (place_paired x xs ns e) ∙ none_nowhere x (paired xs ns) g)

pub put_last : (x : Bytes) (n : ℕ) (es : List (Bytes × ℕ)) → place x es ≡ None → es ++ (x, n) ∷ [] ≡ put x n es
put_last x n es h = sym (put_new x n es (nowhere_none x es h))

-- ---- what a list of names is made of, by the equations of what it is made from

pub added_told : (all more : Roll) (ps qs : List (Option ℕ)) (ys zs : List (Bor Bytes)) (ns ms : List ℕ) (x : Bor Bytes) (n i p : ℕ)
    (es : List (Bytes × ℕ)) → paired (map bytes_now ys) ns ≡ es → ArePlaces all ps (map bytes_now ys) →
    length (map bytes_now ys) ≡ length ns → look x.now es ≡ None → place x.now all ≡ Some i → i < length ps →
    qs ≡ slice_set ps i (Some p) → p ≡ length ys → zs ≡ ys ++ x ∷ [] → ms ≡ ns ++ n ∷ [] → more ≡ all →
    ArePlaces more qs (map bytes_now zs) × (length (map bytes_now zs) ≡ length ms)
added_told all more ps qs ys zs ns ms x n i p es v h l g e w a b c d k = (
  subst (λ r. ArePlaces r qs (map bytes_now zs)) (sym k)
      (subst (λ q. ArePlaces all q (map bytes_now zs)) (sym (a ∙ ap (λ m. slice_set ps i (Some m)) (b ∙ sym (length-map ys bytes_now))))
      (subst (λ z. ArePlaces all (slice_set ps i (Some (length (map bytes_now ys)))) z) (sym names)
      (add_place all ps (map bytes_now ys) ns x.now i h l e w (ap (look x.now) v ∙ g)))),
  ap length names ∙ length-append (map bytes_now ys) (x.now ∷ []) ∙ ap (λ m. m + 1) l ∙ sym (ap length d ∙ length-append ns (n ∷ [])),
)
  where
    names : map bytes_now zs ≡ map bytes_now ys ++ x.now ∷ []
    names = ap (map bytes_now) c ∙ map-append bytes_now ys (x ∷ [])

pub added_view : (ys zs : List (Bor Bytes)) (ns ms : List ℕ) (x : Bor Bytes) (n : ℕ) (es : List (Bytes × ℕ)) →
    paired (map bytes_now ys) ns ≡ es → length (map bytes_now ys) ≡ length ns → zs ≡ ys ++ x ∷ [] → ms ≡ ns ++ n ∷ [] →
    paired (map bytes_now zs) ms ≡ es ++ (x.now, n) ∷ []
added_view ys zs ns ms x n es v l c d =
    ap (λ z. paired (map bytes_now z) ms) c ∙ ap (λ m. paired (map bytes_now (ys ++ x ∷ [])) m) d
    ∙ ap (λ z. paired z (ns ++ n ∷ [])) (map-append bytes_now ys (x ∷ []))
    ∙ paired_end (map bytes_now ys) ns x.now n l ∙ ap (λ e. e ++ (x.now, n) ∷ []) v

pub changed_view : (ys zs : List (Bor Bytes)) (ns ms : List ℕ) (x : Bytes) (p n : ℕ) (es : List (Bytes × ℕ)) →
    paired (map bytes_now ys) ns ≡ es → length (map bytes_now ys) ≡ length ns → place x es ≡ Some p → zs ≡ ys → ms ≡ slice_set ns p n →
    paired (map bytes_now zs) ms ≡ put x n es
changed_view ys zs ns ms x p n es v l g c d =
    ap (λ z. paired (map bytes_now z) ms) c ∙ ap (λ m. paired (map bytes_now ys) m) d
    ∙ put_there x (map bytes_now ys) ns p n l (ap (place x) v ∙ g) ∙ ap (put x n) v
