-- Changes of the lists on top are changes of the top head.
use Rattle.std.proofs.Common.{◌≡◌, ◌≢◌, ℕ, zero, suc, ◌+◌, ◌-◌, ◌≤◌, ◌<◌, Bool, true, nat_lt, Option, Some, None, IfSome, IfNone, List, []}
use Rattle.std.proofs.Common.{◌∷◌, ◌++◌, length, take, drop, reverse, get_or, slice_get, option_map, refl, sym, ap, ◌∙◌, arith}
use Rattle.std.proofs.lemmas.Bool.Decides.{nat_tests}
use Rattle.std.proofs.lemmas.List.{reverse-append, length-reverse, drop-take}
use Rattle.std.proofs.lemmas.Option.{slice_get-get_or, slice_get_within}
use Rattle.fiber_stacks.proofs.Lists.{closed_drop, top_flat, turned}
use Rattle.fiber_stacks.specs.declared.heads.Bounds.{Bounds}
use Rattle.fiber_stacks.specs.Layers.{top, closed, grown, with_at, total, flat}
use Rattle.fiber_stacks.specs.Heads.{Head, heads, with_place, with_local, with_locals, with_bounds, place_on, locals_on, bounds_on}
use Rattle.fiber_stacks.specs.Heads.{has_bounds, any_bounds, height}

module _ {T : Type 0} where
  size_of : (ps : List ℕ) (ls : List (List T)) (bs : List (List Bounds)) → length (heads ps ls bs) ≡ length ps
  size_of [] ls bs = refl
  size_of (p ∷ ps) ls bs = ap suc (size_of ps (closed ls) (closed bs))

  pub size_in : (xs : List ℕ) (ls : List (List T)) (bs : List (List Bounds)) (hs : List (Head T)) → heads (reverse xs) ls bs ≡ hs →
      length hs ≡ length xs
  size_in xs ls bs hs are = sym (ap length are) ∙ size_of (reverse xs) ls bs ∙ length-reverse xs

  place_of : (ps rest : List ℕ) (p : ℕ) (ls : List (List T)) (bs : List (List Bounds)) (hs : List (Head T)) → heads ps ls bs ≡ hs →
      ps ≡ p ∷ rest → p ≡ place_on hs
  place_of ps rest p ls bs hs are e = ap place_on (ap (λ k. heads k ls bs) (sym e) ∙ are)

  pub place_in : (xs rest : List ℕ) (p : ℕ) (ls : List (List T)) (bs : List (List Bounds)) (hs : List (Head T)) →
      heads (reverse xs) ls bs ≡ hs → reverse xs ≡ p ∷ rest → p ≡ place_on hs
  place_in xs rest p ls bs hs are e = place_of (reverse xs) rest p ls bs hs are e

  pub placed_in : (xs ys zs : List ℕ) (p q : ℕ) (ls : List (List T)) (bs : List (List Bounds)) (hs : List (Head T)) →
      heads (reverse xs) ls bs ≡ hs → xs ≡ ys ++ p ∷ [] → zs ≡ ys ++ q ∷ [] → heads (reverse zs) ls bs ≡ with_place q hs
  placed_in xs ys zs p q ls bs hs are e f = rw (← are, e, f, reverse-append ys (p ∷ []), reverse-append ys (q ∷ [])) refl

  pub closed_in : (xs ys : List ℕ) (p : ℕ) (ls : List (List T)) (bs : List (List Bounds)) (hs : List (Head T)) →
      heads (reverse xs) ls bs ≡ hs → xs ≡ ys ++ p ∷ [] →
      hs ≡ record { place = p; locals = top ls; bounds = reverse (top bs) } ∷ heads (reverse ys) (closed ls) (closed bs)
  closed_in xs ys p ls bs hs are e = rw (← are, e, reverse-append ys (p ∷ [])) refl

  locals_of : (ps : List ℕ) (ls : List (List T)) (bs : List (List Bounds)) → length ls ≡ length ps → top ls ≡ locals_on (heads ps ls bs)
  locals_of [] [] bs e = refl
  locals_of [] (l ∷ ls) bs e = absurd (omega (arith, e))
  locals_of (p ∷ ps) ls bs e = refl

  pub locals_in : (xs : List ℕ) (ls : List (List T)) (bs : List (List Bounds)) (hs : List (Head T)) → heads (reverse xs) ls bs ≡ hs →
      length ls ≡ length xs → top ls ≡ locals_on hs
  locals_in xs ls bs hs are e = locals_of (reverse xs) ls bs (e ∙ sym (length-reverse xs)) ∙ ap locals_on are

  bounds_of : (ps : List ℕ) (ls : List (List T)) (bs : List (List Bounds)) → length bs ≡ length ps →
      reverse (top bs) ≡ bounds_on (heads ps ls bs)
  bounds_of [] ls [] e = refl
  bounds_of [] ls (b ∷ bs) e = absurd (omega (arith, e))
  bounds_of (p ∷ ps) ls bs e = refl

  pub bounds_in : (xs : List ℕ) (ls : List (List T)) (bs : List (List Bounds)) (hs : List (Head T)) → heads (reverse xs) ls bs ≡ hs →
      length bs ≡ length xs → reverse (top bs) ≡ bounds_on hs
  bounds_in xs ls bs hs are e = bounds_of (reverse xs) ls bs (e ∙ sym (length-reverse xs)) ∙ ap bounds_on are

  set_of : (ps : List ℕ) (ls zs : List (List T)) (bs : List (List Bounds)) (i : ℕ) (x : T) → length ls ≡ length ps → zs ≡ with_at i x ls →
      heads ps zs bs ≡ with_local i x (heads ps ls bs)
  set_of [] ls zs bs i x e f = refl
  set_of (p ∷ ps) [] zs bs i x e f = absurd (omega (arith, e))
  set_of (p ∷ ps) (l ∷ ls) zs bs i x e f = rw f refl

  pub set_in : (xs : List ℕ) (ls zs : List (List T)) (bs : List (List Bounds)) (hs : List (Head T)) (i : ℕ) (x : T) →
      heads (reverse xs) ls bs ≡ hs → length ls ≡ length xs → zs ≡ with_at i x ls → heads (reverse xs) zs bs ≡ with_local i x hs
  set_in xs ls zs bs hs i x are e f = set_of (reverse xs) ls zs bs i x (e ∙ sym (length-reverse xs)) f ∙ ap (with_local i x) are

  grown_of : (ps : List ℕ) (ls zs : List (List T)) (bs : List (List Bounds)) (xs : List T) → length ls ≡ length ps → zs ≡ grown xs ls →
      heads ps zs bs ≡ with_locals xs (heads ps ls bs)
  grown_of [] ls zs bs xs e f = refl
  grown_of (p ∷ ps) [] zs bs xs e f = absurd (omega (arith, e))
  grown_of (p ∷ ps) (l ∷ ls) zs bs xs e f = rw f refl

  pub grown_in : (es : List ℕ) (ls zs : List (List T)) (bs : List (List Bounds)) (hs : List (Head T)) (xs : List T) →
      heads (reverse es) ls bs ≡ hs → length ls ≡ length es → zs ≡ grown xs ls → heads (reverse es) zs bs ≡ with_locals xs hs
  grown_in es ls zs bs hs xs are e f = grown_of (reverse es) ls zs bs xs (e ∙ sym (length-reverse es)) f ∙ ap (with_locals xs) are

  bound_of : (ps : List ℕ) (ls : List (List T)) (bs zs : List (List Bounds)) (b : Bounds) → length bs ≡ length ps → zs ≡ grown (b ∷ []) bs →
      heads ps ls zs ≡ with_bounds b (heads ps ls bs)
  bound_of [] ls bs zs b e f = refl
  bound_of (p ∷ ps) ls [] zs b e f = absurd (omega (arith, e))
  bound_of (p ∷ ps) ls (c ∷ bs) zs b e f = rw (f, reverse-append c (b ∷ [])) refl

  pub bound_in : (es : List ℕ) (ls : List (List T)) (bs zs : List (List Bounds)) (hs : List (Head T)) (b : Bounds) →
      heads (reverse es) ls bs ≡ hs → length bs ≡ length es → zs ≡ grown (b ∷ []) bs → heads (reverse es) ls zs ≡ with_bounds b hs
  bound_in es ls bs zs hs b are e f = bound_of (reverse es) ls bs zs b (e ∙ sym (length-reverse es)) f ∙ ap (with_bounds b) are

  unbound_of : (b : Bounds) (ps : List ℕ) (ls : List (List T)) (bs zs : List (List Bounds)) → length bs ≡ length ps →
      bs ≡ grown (b ∷ []) zs → zs ≢ [] → (heads ps ls bs ≡ with_bounds b (heads ps ls zs)) × (heads ps ls zs ≢ [])
  unbound_of b ps ls bs [] e f there = absurd (there refl)
  unbound_of b [] ls bs (z ∷ zs) e f there = absurd (omega (arith, e, ap length f))
  unbound_of b (p ∷ ps) ls bs (z ∷ zs) e f there =
      (rw (f, reverse-append z (b ∷ [])) refl, (λ none. absurd (omega (arith, ap length none))))

  pub unbound_case : (r : Option Bounds) (es : List ℕ) (ls : List (List T)) (bs zs : List (List Bounds)) (hs : List (Head T)) →
      heads (reverse es) ls bs ≡ hs → length bs ≡ length es → IfSome r (λ b. bs ≡ grown (b ∷ []) zs) → IfSome r (λ _. zs ≢ []) →
      IfSome r (λ b. hs ≡ with_bounds b (heads (reverse es) ls zs))
  unbound_case None es ls bs zs hs are e f there = tt
  unbound_case (Some b) es ls bs zs hs are e f there =
      sym are ∙ (unbound_of b (reverse es) ls bs zs (e ∙ sym (length-reverse es)) f there).0

  pub unbound_there : (r : Option Bounds) (es : List ℕ) (ls : List (List T)) (bs zs : List (List Bounds)) → length bs ≡ length es →
      IfSome r (λ b. bs ≡ grown (b ∷ []) zs) → IfSome r (λ _. zs ≢ []) → IfSome r (λ _. heads (reverse es) ls zs ≢ [])
  unbound_there None es ls bs zs e f there = tt
  unbound_there (Some b) es ls bs zs e f there = (unbound_of b (reverse es) ls bs zs (e ∙ sym (length-reverse es)) f there).1

  pub unbound_none : (r : Option Bounds) (es : List ℕ) (ls : List (List T)) (bs : List (List Bounds)) (hs : List (Head T)) →
      heads (reverse es) ls bs ≡ hs → length bs ≡ length es → IfNone r (top bs ≡ []) → IfNone r (bounds_on hs ≡ [])
  unbound_none None es ls bs hs are e none = sym (bounds_in es ls bs hs are e) ∙ ap reverse none
  unbound_none (Some b) es ls bs hs are e none = tt

bounds_some : (bs : List Bounds) (rest : Bool) → 0 < length bs → has_bounds bs rest ≡ true
bounds_some [] rest lt = absurd (omega (arith, lt))
bounds_some (b ∷ bs) rest lt = refl

module _ {T : Type 0} where
  any_of : (ps : List ℕ) (ls : List (List T)) (bs : List (List Bounds)) → length bs ≡ length ps →
      any_bounds (heads ps ls bs) ≡ nat_lt 0 (total bs)
  any_of [] ls [] e = refl
  any_of [] ls (b ∷ bs) e = absurd (omega (arith, e))
  any_of (p ∷ ps) ls [] e = absurd (omega (arith, e))
  any_of (p ∷ ps) ls ([] ∷ bs) e =
      let none : 0 + total bs ≡ total bs = omega arith in
      rw none (any_of ps (closed ls) bs (omega (arith, e)))
  any_of (p ∷ ps) ls ((c ∷ cs) ∷ bs) e =
      let more : nat_lt 0 (length (c ∷ cs) + total bs) ≡ true = grind (arith, nat_tests) in
      bounds_some (reverse (c ∷ cs)) (any_bounds (heads ps (closed ls) bs)) (omega (arith, length-reverse (c ∷ cs))) ∙ sym more

  pub any_in : (es : List ℕ) (ls : List (List T)) (bs : List (List Bounds)) (hs : List (Head T)) → heads (reverse es) ls bs ≡ hs →
      length bs ≡ length es → any_bounds hs ≡ nat_lt 0 (total bs)
  any_in es ls bs hs are e = rw (← are) (any_of (reverse es) ls bs (e ∙ sym (length-reverse es)))

  head_at : (n p : ℕ) (ps : List ℕ) (ls : List (List T)) (bs : List (List Bounds)) → slice_get ps n ≡ Some p →
      slice_get (heads ps ls bs) n ≡ Some (record { place = p; locals = top (drop n ls); bounds = reverse (top (drop n bs)) })
  head_at n p [] ls bs e = absurd (omega (arith, slice_get_within [] n p e))
  head_at zero p (q ∷ ps) ls bs e = ap (λ o. option_map (λ x. record { place = x; locals = top ls; bounds = reverse (top bs) }) o) e
  head_at (suc n) p (q ∷ ps) ls bs e =
      head_at n p ps (closed ls) (closed bs) e ∙
      ap (λ k. Some (record { place = p; locals = top k; bounds = reverse (top (drop n (closed bs))) })) (closed_drop n ls) ∙
      ap (λ k. Some (record { place = p; locals = top (drop (suc n) ls); bounds = reverse (top k) })) (closed_drop n bs)

  pub place_got : (xs : List ℕ) (n p : ℕ) (ls : List (List T)) (bs : List (List Bounds)) (hs : List (Head T)) →
      heads (reverse xs) ls bs ≡ hs → 0 < n → n ≤ length hs → slice_get xs (length xs - n) ≡ Some p →
      option_map (λ (h : Head T). h.place) (slice_get hs (n - 1)) ≡ Some p
  place_got xs n p ls bs hs are some le e =
      let few : n ≤ length xs = omega (arith, le, size_in xs ls bs hs are) in
      rw (← are, head_at (n - 1) p (reverse xs) ls bs (turned xs n p some few e)) refl

  locals_span : (n : ℕ) (ls : List (List T)) → 0 < n → flat (drop (n - 1) (take n ls)) ≡ top (drop (n - 1) ls)
  locals_span zero ls some = absurd (omega (arith, some))
  locals_span (suc n) ls some =
      let less : suc n - 1 ≡ n = omega arith in
      let more : suc n ≡ n + 1 = omega arith in
      rw less (ap (λ k. flat (drop n (take k ls))) more ∙ ap flat (drop-take n 1 ls) ∙ top_flat (drop n ls))

  pub locals_got : (xs : List ℕ) (n : ℕ) (ls : List (List T)) (bs : List (List Bounds)) (hs : List (Head T)) →
      heads (reverse xs) ls bs ≡ hs → 0 < n → n ≤ length hs → option_map (λ (h : Head T). h.locals) (slice_get hs (n - 1)) ≡
      Some (flat (drop (n - 1) (take n ls)))
  locals_got xs n ls bs hs are some le =
      let few : n ≤ length xs = omega (arith, le, size_in xs ls bs hs are) in
      let there : slice_get xs (length xs - n) ≡ Some (get_or xs (length xs - n) 0) =
      slice_get-get_or xs (length xs - n) 0 (omega (arith, some, few)) in
      rw (
        ← are,
        head_at (n - 1) (get_or xs (length xs - n) 0) (reverse xs) ls bs
            (turned xs n (get_or xs (length xs - n) 0) some few there),
        locals_span n ls some,
      ) refl

  height_of : (n : ℕ) (ps : List ℕ) (ls : List (List T)) (bs : List (List Bounds)) → length bs ≡ length ps → n ≤ length ps →
      height (take n (heads ps ls bs)) ≡ n + total (take n bs)
  height_of zero ps ls bs e le = refl
  height_of (suc n) [] ls bs e le = absurd (omega (arith, le))
  height_of (suc n) (p ∷ ps) ls [] e le = absurd (omega (arith, e))
  height_of (suc n) (p ∷ ps) ls (b ∷ bs) e le =
      let rest : height (take n (heads ps (closed ls) bs)) ≡ n + total (take n bs) =
      height_of n ps (closed ls) bs (omega (arith, e)) (omega (arith, le)) in
      omega (arith, rest, length-reverse b)

  pub height_in : (xs : List ℕ) (n : ℕ) (ls : List (List T)) (bs : List (List Bounds)) (hs : List (Head T)) →
      heads (reverse xs) ls bs ≡ hs → length bs ≡ length xs → n ≤ length hs → height (take n hs) ≡ n + total (take n bs)
  height_in xs n ls bs hs are e le =
      let few : n ≤ length (reverse xs) = omega (arith, le, size_in xs ls bs hs are, length-reverse xs) in
      rw (← are) (height_of n (reverse xs) ls bs (e ∙ sym (length-reverse xs)) few)
