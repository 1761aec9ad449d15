-- The brackets that are open behind some tokens.
use Rattle.std.proofs.Common.{◌≡◌, ◌≤◌, ◌+◌, true, List, [], ◌∷◌, ◌++◌, ℕ, suc, refl, sym, ◌∙◌, ap, subst, append_assoc, arith}
use Rattle.verse_layout.specs.declared.roles.Role.{Role}
use Rattle.verse_layout.specs.declared.roles.Role.TheVariants as role
use Rattle.verse_layout.specs.declared.roles.Region.{Region}
use Rattle.verse_layout.specs.Roles.{role_of}
use Rattle.verse_layout.specs.Cells.{Cell}
use Rattle.verse_layout.specs.Blocks.{is_no_bracket}
use Rattle.verse_layout.specs.Frames.{Open}
use Rattle.verse_layout.specs.Refusals.{Balanced, balanced_none, balanced_token, balanced_pair, IsInnermost}

-- where two ways to split a list differ
pub data Splits {A : Type 0} (xs ys us vs : List A) : Type 0 where
  first_shorter : (ms : List A) → us ≡ xs ++ ms → ys ≡ ms ++ vs → Splits xs ys us vs
  first_longer : (ms : List A) → xs ≡ us ++ ms → vs ≡ ms ++ ys → Splits xs ys us vs

more_split : {A : Type 0} {xs ys us vs : List A} (a : A) → Splits xs ys us vs → Splits (a ∷ xs) ys (a ∷ us) vs
more_split a (first_shorter ms e f) = first_shorter ms (ap (λ zs. a ∷ zs) e) f
more_split a (first_longer ms e f) = first_longer ms (ap (λ zs. a ∷ zs) e) f

pub splits : {A : Type 0} (xs ys us vs : List A) → xs ++ ys ≡ us ++ vs → Splits xs ys us vs
splits [] ys us vs e = first_shorter us refl e
splits (x ∷ xs) ys [] vs e = first_longer (x ∷ xs) refl (sym e)
splits {A = A} (x ∷ xs) ys (u ∷ us) vs e =
    let head : x ≡ u = cc in
    let tail : xs ++ ys ≡ us ++ vs = cc in
    subst (λ z. Splits (x ∷ xs) ys (z ∷ us) vs) head (more_split x (splits xs ys us vs tail))

abbrev opens_one : Role → ℕ
opens_one (role.Opens r) = 1
opens_one _ = 0

abbrev closes_one : Role → ℕ
closes_one (role.Closes r) = 1
closes_one _ = 0

abbrev opened : List Cell → ℕ
opened [] = 0
opened (c ∷ cs) = opens_one (role_of c.token.kind) + opened cs

abbrev closed : List Cell → ℕ
closed [] = 0
closed (c ∷ cs) = closes_one (role_of c.token.kind) + closed cs

opened_append : (cs ds : List Cell) → opened (cs ++ ds) ≡ opened cs + opened ds
opened_append [] ds = omega arith
opened_append (c ∷ cs) ds = let h = opened_append cs ds in omega arith

closed_append : (cs ds : List Cell) → closed (cs ++ ds) ≡ closed cs + closed ds
closed_append [] ds = omega arith
closed_append (c ∷ cs) ds = let h = closed_append cs ds in omega arith

none_one : (r : Role) → is_no_bracket r ≡ true → (opens_one r ≡ 0) × (closes_one r ≡ 0)
none_one (role.Opens r) e = absurd (cc)
none_one (role.Closes r) e = absurd (cc)
none_one role.Semicolon e = (refl, refl)
none_one role.Comma e = (refl, refl)
none_one role.Colon e = (refl, refl)
none_one role.Equals e = (refl, refl)
none_one role.Other e = (refl, refl)

-- a balanced list closes as many brackets as it opens
even : {cs : List Cell} → Balanced cs → opened cs ≡ closed cs
even balanced_none = refl
even (balanced_token {c = c} p b) = let h = even b in let n = none_one (role_of c.token.kind) p in let x = n.0 in let y = n.1 in omega arith
even (balanced_pair {o = o} c {cs = cs} {ds = ds} p b q d) =
    let h = even b in let g = even d in
    let o1 = ap opens_one p in let o2 = ap closes_one p in let c1 = ap opens_one q in let c2 = ap closes_one q in
    let x = opened_append cs (c ∷ ds) in let y = closed_append cs (c ∷ ds) in
    omega arith

-- and none of its ends opens more than it closes
ends_closed : {cs : List Cell} → Balanced cs → (ms es : List Cell) → cs ≡ ms ++ es → opened es ≤ closed es
ends_closed b [] es e = let h = even b in let x = ap opened e in let y = ap closed e in omega arith
ends_closed balanced_none (m ∷ ms) es e = absurd (cc)
ends_closed (balanced_token {cs = cs} p b) (m ∷ ms) es e = let tail : cs ≡ ms ++ es = cc in ends_closed b ms es tail
ends_closed (balanced_pair {o = o} c {cs = cs} {ds = ds} p b q d) (m ∷ ms) es e =
    let tail : cs ++ c ∷ ds ≡ ms ++ es = cc in
    by_split (λ ns f. ends_closed b ms ns f) (λ ns f. ends_closed d ns es f) (splits cs (c ∷ ds) ms es tail)
  where
    by_behind : ((ns : List Cell) → ds ≡ ns ++ es → opened es ≤ closed es) → (ns : List Cell) → ms ≡ cs ++ ns → c ∷ ds ≡ ns ++ es →
        opened es ≤ closed es
    by_behind more [] f g =
        let h = even d in let c1 = ap opens_one q in let c2 = ap closes_one q in
        let x = ap opened g in let y = ap closed g in omega arith
    by_behind more (n ∷ ns) f g = let tail : ds ≡ ns ++ es = cc in more ns tail

    by_split : ((ns : List Cell) → cs ≡ ms ++ ns → opened ns ≤ closed ns) → ((ns : List Cell) → ds ≡ ns ++ es → opened es ≤ closed es) →
        Splits cs (c ∷ ds) ms es → opened es ≤ closed es
    by_split inner more (first_shorter ns f g) = by_behind more ns f g
    by_split inner more (first_longer ns f g) =
        let h = inner ns f in let k = even d in
        let c1 = ap opens_one q in let c2 = ap closes_one q in
        let x = ap opened g ∙ opened_append ns (c ∷ ds) in let y = ap closed g ∙ closed_append ns (c ∷ ds) in
        omega arith

-- so no bracket is open in it
pub none_open : {cs : List Cell} (before inside : List Cell) (o : Cell) (r : Region) → Balanced cs → cs ≡ before ++ o ∷ inside →
    role_of o.token.kind ≡ role.Opens r → Balanced inside → ⊥
none_open before inside o r b e p i =
    let h = ends_closed b before (o ∷ inside) e in let g = even i in
    let o1 = ap opens_one p in let o2 = ap closes_one p in
    let x : suc (opened inside) ≤ closed inside = omega arith in omega arith

pub balanced_innermost : (cs : List Cell) (o : Cell) (r : Region) → Balanced cs → IsInnermost cs o r → ⊥
balanced_innermost cs o r b i = none_open i.before i.inside o r b i.split i.opens i.balanced

pub record SameBracket (o p : Cell) (r s : Region) : Type 0 where
  pub cell : o ≡ p
  pub region : r ≡ s

-- at most one bracket is the innermost
pub one_innermost : (cs : List Cell) (o p : Cell) (r s : Region) → IsInnermost cs o r → IsInnermost cs p s → SameBracket o p r s
one_innermost cs o p r s i j = by_split (splits i.before (o ∷ i.inside) j.before (p ∷ j.inside) (sym i.split ∙ j.split))
  where
    same : o ≡ p → SameBracket o p r s
    same e = let f : role.Opens r ≡ role.Opens s = sym i.opens ∙ ap (λ (c : Cell). role_of c.token.kind) e ∙ j.opens in
        record { cell = e; region = cc }

    by_shorter : (ms : List Cell) → o ∷ i.inside ≡ ms ++ p ∷ j.inside → SameBracket o p r s
    by_shorter [] f = same (cc)
    by_shorter (m ∷ ms) f = let tail : i.inside ≡ ms ++ p ∷ j.inside = cc in
        absurd (none_open ms j.inside p s i.balanced tail j.opens j.balanced)

    by_longer : (ms : List Cell) → p ∷ j.inside ≡ ms ++ o ∷ i.inside → SameBracket o p r s
    by_longer [] f = same (cc)
    by_longer (m ∷ ms) f = let tail : j.inside ≡ ms ++ o ∷ i.inside = cc in
        absurd (none_open ms i.inside o r j.balanced tail i.opens i.balanced)

    by_split : Splits i.before (o ∷ i.inside) j.before (p ∷ j.inside) → SameBracket o p r s
    by_split (first_shorter ms e f) = by_shorter ms f
    by_split (first_longer ms e f) = by_longer ms f

pub balanced_append : {cs ds : List Cell} → Balanced cs → Balanced ds → Balanced (cs ++ ds)
balanced_append balanced_none d = d
balanced_append (balanced_token p b) d = balanced_token p (balanced_append b d)
balanced_append {ds = es} (balanced_pair {o = o} c {cs = cs} {ds = ds} p b q d) e =
    subst (λ zs. Balanced (o ∷ zs)) (sym (append_assoc cs (c ∷ ds) es)) (balanced_pair c p b q (balanced_append d e))

-- The frames of brackets are those of the brackets that are open behind the tokens, the innermost first.
pub data Reflects : List Cell → List Open → Type 0 where
  reflects_none : {cs : List Cell} → Balanced cs → Reflects cs []
  reflects_bracket : {cs inside : List Cell} (o : Cell) {f : Open} {fs : List Open} → Reflects cs fs →
      role_of o.token.kind ≡ role.Opens f.region →
      f.place ≡ o.token.place → Balanced inside → Reflects (cs ++ o ∷ inside) (f ∷ fs)

pub reflects_more : {cs : List Cell} {fs : List Open} (ms : List Cell) → Reflects cs fs → Balanced ms → Reflects (cs ++ ms) fs
reflects_more ms (reflects_none b) m = reflects_none (balanced_append b m)
reflects_more ms (reflects_bracket {cs = cs} {inside = inside} o {f = f} {fs = fs} r p q b) m =
    subst (λ zs. Reflects zs (f ∷ fs)) (sym (append_assoc cs (o ∷ inside) ms)) (reflects_bracket o r p q (balanced_append b m))

-- what a token does to them
pub data Moves (c : Cell) (fs : List Open) : List Open → Type 0 where
  moves_none : is_no_bracket (role_of c.token.kind) ≡ true → Moves c fs fs
  moves_open : (f : Open) → role_of c.token.kind ≡ role.Opens f.region → f.place ≡ c.token.place → Moves c fs (f ∷ fs)
  moves_close : (f : Open) (gs : List Open) → fs ≡ f ∷ gs → role_of c.token.kind ≡ role.Closes f.region → Moves c fs gs

reflects_closed : {cs : List Cell} {hs : List Open} (c : Cell) (f : Open) (fs : List Open) → hs ≡ f ∷ fs → Reflects cs hs →
    role_of c.token.kind ≡ role.Closes f.region → Reflects (cs ++ c ∷ []) fs
reflects_closed c f fs e (reflects_none b) q = absurd (cc)
reflects_closed c f fs e (reflects_bracket {cs = cs} {inside = inside} o {f = g} {fs = gs} r p s b) q =
    let head : g ≡ f = cc in
    let tail : gs ≡ fs = cc in
    let there : Balanced (o ∷ (inside ++ c ∷ [])) =
    balanced_pair c p b (q ∙ ap (λ (x : Open). role.Closes x.region) (sym head)) balanced_none in
    subst (Reflects ((cs ++ o ∷ inside) ++ c ∷ [])) tail
    (subst (λ zs. Reflects zs gs) (sym (append_assoc cs (o ∷ inside) (c ∷ []))) (reflects_more (o ∷ (inside ++ c ∷ [])) r there))

pub reflects_moved : {cs : List Cell} {fs gs : List Open} (c : Cell) → Reflects cs fs → Moves c fs gs → Reflects (cs ++ c ∷ []) gs
reflects_moved c r (moves_none p) = reflects_more (c ∷ []) r (balanced_token p balanced_none)
reflects_moved c r (moves_open f p q) = reflects_bracket c r p q balanced_none
reflects_moved c r (moves_close f gs e p) = reflects_closed c f gs e r p

-- the first frame's bracket is the innermost
pub record Found (cs : List Cell) (f : Open) : Type 0 where
  pub cell : Cell
  pub innermost : IsInnermost cs cell f.region
  pub place : f.place ≡ cell.token.place

pub found : {cs : List Cell} {hs : List Open} (f : Open) (fs : List Open) → hs ≡ f ∷ fs → Reflects cs hs → Found cs f
found f fs e (reflects_none b) = absurd (cc)
found f fs e (reflects_bracket {cs = cs} {inside = inside} o {f = g} r p q b) =
    let head : g ≡ f = cc in
    subst (Found (cs ++ o ∷ inside)) head (record
    { cell = o; innermost = record { before = cs; inside = inside; split = refl; opens = p; balanced = b }; place = q })

pub none_found : {cs : List Cell} {hs : List Open} → hs ≡ [] → Reflects cs hs → Balanced cs
none_found e (reflects_none b) = b
none_found e (reflects_bracket o r p q b) = absurd (cc)
