-- What plain stretches add, by cases on what they depend on.
use Rattle.std.proofs.Common.{◌≡◌, ℕ, zero, suc, ◌-◌, ◌<◌, ◌≤◌, [], ◌∷◌, length, Bool, true, false, cond, refl, ap, ◌∙◌, arith}
use Rattle.std.specs.Prelude.{nat_lt}
use Rattle.std.proofs.lemmas.Bool.{lt-ltb, le-ltb}
use Rattle.verse_base.specs.declared.places.Place.{Place}
use Rattle.verse_tree.specs.Tree.{Bytes}
use Rattle.verse_code.specs.declared.operations.Op.{Op}
use Rattle.verse_code.specs.declared.operations.Op.TheVariants as o
use Rattle.lower_code.specs.Pieces.{Maker, nothing, one, placed, kept, when, when_else, stuck, ◌then◌}
use Rattle.lower_code.specs.declared.arounds.Around.{Around}
use Rattle.lower_code.specs.Arounds.{leaving_to}
use Rattle.lower_code.specs.Applied.{storing, dropping, indexing, signalling}
use Rattle.lower_code.specs.Lowering.{text_if}
use Rattle.lower_expr.specs.Building.{Built, pushed, with_place, dropped, made}
use Rattle.lower_expr.proofs.Laws.{made_then, made_one, made_nothing, made_placed}

pub made_when : (c : Bool) (f : Maker) (b : Built) → made (when c f) b ≡ cond c (made f b) b
unfolding made
made_when true f b = refl
made_when false f b = made_nothing b

pub made_when_else : (c : Bool) (f : Maker) (b : Built) → made (when_else c f) b ≡ cond c (made f b) (made stuck b)
made_when_else true f b = refl
made_when_else false f b = refl

pub leaving_some : (n : ℕ) (a : Around) (b : Built) → n < a.defers → made (leaving_to n a) b ≡ pushed (o.Leave n) b
leaving_some n a b h =
    made_when (nat_lt n a.defers) (one (o.Leave n)) b ∙ ap (λ c. cond c (made (one (o.Leave n)) b) b) (lt-ltb n a.defers h) ∙
    made_one (o.Leave n) b

pub leaving_none : (n : ℕ) (a : Around) (b : Built) → a.defers ≤ n → made (leaving_to n a) b ≡ b
leaving_none n a b h = made_when (nat_lt n a.defers) (one (o.Leave n)) b ∙
    ap (λ c. cond c (made (one (o.Leave n)) b) b) (le-ltb n a.defers h)

pub no_text : (bs : Bytes) (b : Built) → length bs < 1 → made (text_if bs) b ≡ b
no_text [] b h = made_nothing b
no_text (x ∷ xs) b h = absurd (omega (arith, h))

pub vary_law : (p : Place) (l : ℕ) (b : Built) → made (placed p o.New then kept l then one (o.Load 0)) b ≡
    pushed (o.Load 0) (made (kept l) (pushed (o.New (length b.places)) (with_place p b)))
vary_law p l b =
    made_then (placed p o.New) (kept l then one (o.Load 0)) b ∙ made_then (kept l) (one (o.Load 0)) (made (placed p o.New) b)
    ∙ made_one (o.Load 0) (made (kept l) (made (placed p o.New) b)) ∙ ap (λ c. pushed (o.Load 0) (made (kept l) c)) (made_placed p o.New b)

pub storing_law : (op : Op) (l : ℕ) (b : Built) →
    made (storing op true l) b ≡ pushed (o.Get l) (pushed o.Drop (pushed op (made (kept l) b)))
storing_law op l b =
    made_then (kept l) (one op then one o.Drop then one (o.Get l)) b ∙ search (made_then, made_one)

pub dropping_law : (n : ℕ) (op : Op) (b : Built) → made (dropping n (one op)) b ≡ pushed op (dropped n b)
dropping_law zero op b = made_one op b
dropping_law (suc n) op b = made_then (one o.Drop) (dropping n (one op)) b ∙
    ap (λ c. made (dropping n (one op)) c) (made_one o.Drop b) ∙ dropping_law n op (pushed o.Drop b)

pub indexing_none : (n : ℕ) → n ≡ 0 → indexing n ≡ nothing
indexing_none n e = ap indexing e

pub indexing_some : (n : ℕ) → 0 < n → indexing n ≡ dropping (n - 1) (one o.At)
indexing_some n lt = let e : n ≡ suc (n - 1) = omega arith in ap indexing e

pub signalling_none : (n : ℕ) → n ≡ 0 → signalling n ≡ (one o.Unit then one o.Signal)
signalling_none n e = ap signalling e

pub signalling_some : (n : ℕ) → 0 < n → signalling n ≡ dropping (n - 1) (one o.Signal)
signalling_some n lt = let e : n ≡ suc (n - 1) = omega arith in ap signalling e
