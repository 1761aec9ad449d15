-- Sites whose numbers follow one another, and lists that are joined.
use Rattle.std.proofs.Common.{◌≡◌, ℕ, zero, suc, ◌+◌, ◌<◌, ◌≤◌, List, [], ◌∷◌, ◌++◌, map, length, refl, ap, sym, ◌∙◌, arith, subst}
use Rattle.std.specs.Prelude.{Some, slice_get}
use Rattle.std.specs.List.{range_with_len}
use Rattle.std.proofs.lemmas.List.{length-map}
use Rattle.verse_rules_walk.specs.Nodes.{Node, number_of}
use Rattle.verse_accept_scopes.specs.Lists.{Each}
use Rattle.verse_accept_scopes.specs.Sites.{Site, node_of}

pub each_first : {X : Type 0} (P : X → Type 0) (xs ys : List X) → Each P (xs ++ ys) → Each P xs
each_first P [] ys h = tt
each_first P (x ∷ xs) ys h = (h.0, each_first P xs ys h.1)

pub each_rest : {X : Type 0} (P : X → Type 0) (xs ys : List X) → Each P (xs ++ ys) → Each P ys
each_rest P [] ys h = h
each_rest P (x ∷ xs) ys h = each_rest P xs ys h.1

pub each_joined : {X : Type 0} (P : X → Type 0) (xs ys : List X) → Each P xs → Each P ys → Each P (xs ++ ys)
each_joined P [] ys h k = k
each_joined P (x ∷ xs) ys h k = (h.0, each_joined P xs ys h.1 k)

pub each_weaker : {X : Type 0} {P Q : X → Type 0} → ((x : X) → P x → Q x) → (xs : List X) → Each P xs → Each Q xs
each_weaker f [] h = tt
each_weaker f (x ∷ xs) h = (f x h.0, each_weaker f xs h.1)

-- the numbers go from the first one up to the last one, which is not among them
abbrev pub Row : ℕ → List Site → ℕ → Type 0
Row n [] m = n ≡ m
Row n (v ∷ vs) m = (v.number ≡ n) × Row (suc n) vs m

pub record Split (n : ℕ) (vs us : List Site) (m : ℕ) : Type 0 where
  pub middle : ℕ
  pub first : Row n vs middle
  pub rest : Row middle us m

pub split : (n : ℕ) (vs us : List Site) (m : ℕ) → Row n (vs ++ us) m → Split n vs us m
split n [] us m r = record { middle = n; first = refl; rest = r }
split n (v ∷ vs) us m r =
    let s = split (suc n) vs us m r.1 in
    record { middle = s.middle; first = (r.0, s.first); rest = s.rest }

pub rises : (n : ℕ) (vs : List Site) (m : ℕ) → Row n vs m → n ≤ m
rises n [] m r = omega (arith, r)
rises n (v ∷ vs) m r = omega (arith, rises (suc n) vs m r.1)

-- the last site has the number before the end
pub last_number : (n : ℕ) (vs : List Site) (v : Site) (m : ℕ) → Row n (vs ++ v ∷ []) m → suc v.number ≡ m
last_number n [] v m r = omega (arith, r.0, r.1)
last_number n (u ∷ vs) v m r = last_number (suc n) vs v m r.1

-- all of them are below the end
pub all_below : (n : ℕ) (vs : List Site) (m k : ℕ) → Row n vs m → m ≤ k → Each (λ (u : Node). u.number < k) (map node_of vs)
all_below n [] m k r h = tt
all_below n (v ∷ vs) m k r h = (omega (arith, r.0, rises (suc n) vs m r.1, h), all_below (suc n) vs m k r.1 h)

in_row : (n : ℕ) (vs : List Site) → map number_of (map node_of vs) ≡ range_with_len n (length vs) → Row n vs (n + length vs)
in_row n [] e = omega arith
in_row n (v ∷ vs) e =
    let here : v.number ≡ n = cc in
    let behind : map number_of (map node_of vs) ≡ range_with_len (n + 1) (length vs) = cc in
    let same : n + 1 ≡ suc n = omega arith in
    let rest = in_row (suc n) vs (behind ∙ ap (λ k. range_with_len k (length vs)) same) in
    (here, subst (Row (suc n) vs) (let more : suc n + length vs ≡ n + suc (length vs) = omega arith in more) rest)

pub row_of : (vs : List Site) (us : List Node) → map node_of vs ≡ us → map number_of us ≡ range_with_len 0 (length us) →
    Row 0 vs (length vs)
row_of vs us e h =
    let long : length us ≡ length vs = sym (ap length e) ∙ length-map vs node_of in
    let row = in_row 0 vs (ap (map number_of) e ∙ h ∙ ap (range_with_len 0) long) in
    subst (Row 0 vs) (let same : 0 + length vs ≡ length vs = omega arith in same) row

pub number_in : (n : ℕ) (vs : List Site) (m : ℕ) → Row n vs m → (i : ℕ) (v : Site) → slice_get vs i ≡ Some v → v.number ≡ n + i
number_in n [] m r i v e = cc
number_in n (u ∷ vs) m r zero v e = let same : u ≡ v = cc in omega (arith, r.0, ap (λ (x : Site). x.number) same)
number_in n (u ∷ vs) m r (suc i) v e = omega (arith, number_in (suc n) vs m r.1 i v e)
