-- What stands behind operands, by cases on what it depends on.
use Rattle.std.proofs.Common.{◌≡◌, ℕ, suc, ◌+◌, ◌-◌, ◌<◌, ◌≤◌, true, sym, ap, ◌∙◌, arith}
use Rattle.std.specs.Prelude.{nat_lt}
use Rattle.std.proofs.lemmas.Bool.{lt-ltb, le-ltb}
use Rattle.lower_code.specs.declared.arounds.Around.{Around}
use Rattle.lower_notes.specs.States.{pops, gives}
use Rattle.lower_notes.specs.Stretches.{Walk, one, last, leave, ◌then◌}
use Rattle.lower_notes.specs.Applied.{dropping, indexing, signalling, leaving_to, kept, storing}
use Rattle.verse_sorts.specs.Sorts as s
use Rattle.verse_sorts.specs.Sorts.{Sort}
use Rattle.note_applied.specs.Steps.{varied}
use Rattle.note_stretches.specs.Noted.{Noted, walked}
use Rattle.note_stretches.proofs.Laws.{walked_then, walked_nothing, walked_when_true, walked_when_false}

-- operands fall away, one by one
pub dropped_next : (n i : ℕ) (b c all : Noted) → i < n → c ≡ walked (one (pops 1)) b →
    walked (dropping (n - i) last) b ≡ all → walked (dropping (n - (i + 1)) last) c ≡ all
dropped_next n i b c all h g is =
    let k = n - (i + 1) in
    let more : n - i ≡ suc k = omega (arith, h) in
    ap (walked (dropping k last)) g ∙ sym (walked_then (one (pops 1)) (dropping k last) b)
    ∙ ap (λ m. walked (dropping m last) b) (sym more) ∙ is

pub dropped_none : (n i : ℕ) (b all : Noted) → n ≤ i → walked (dropping (n - i) last) b ≡ all → walked last b ≡ all
dropped_none n i b all h is =
    let none : n - i ≡ 0 = omega (arith, h) in
    sym (ap (λ m. walked (dropping m last) b) none) ∙ is

pub indexing_none : (n : ℕ) (b : Noted) → n ≡ 0 → walked (indexing n) b ≡ b
indexing_none n b e = ap (λ m. walked (indexing m) b) e ∙ walked_nothing b

pub indexing_some : (n : ℕ) → 0 < n → indexing n ≡ dropping (n - 1) last
indexing_some n lt = let e : n ≡ suc (n - 1) = omega (arith, lt) in ap indexing e

pub signalling_none : (n : ℕ) → n ≡ 0 → signalling n ≡ signalling 0
signalling_none n e = ap signalling e

pub signalling_some : (n : ℕ) → 0 < n → signalling n ≡ dropping (n - 1) last
signalling_some n lt = let e : n ≡ suc (n - 1) = omega (arith, lt) in ap signalling e

-- deferred blocks run where there are any
pub leaving_some : (n : ℕ) (a : Around) (b : Noted) → n < a.defers → walked (leaving_to n a) b ≡ walked (leave n) b
leaving_some n a b h = walked_when_true (nat_lt n a.defers) (leave n) b (lt-ltb n a.defers h)

pub leaving_none : (n : ℕ) (a : Around) (b : Noted) → a.defers ≤ n → walked (leaving_to n a) b ≡ b
leaving_none n a b h = walked_when_false (nat_lt n a.defers) (leave n) b (le-ltb n a.defers h)

-- a definition of a variable, and what `set` writes where its value stays, by their steps
pub three_steps : (f g h : Walk) (b x y r : Noted) → x ≡ walked f b → y ≡ walked g x → r ≡ walked h y →
    r ≡ walked (f then g then h) b
three_steps f g h b x y r d e is =
    is ∙ ap (walked h) (e ∙ ap (walked g) d) ∙ sym (walked_then f (g then h) b ∙ walked_then g h (walked f b))

pub vary_by : (l : ℕ) (q : Sort) (b x y r : Noted) → x ≡ walked (one (gives 1 (s.var q))) b →
    y ≡ walked (kept l (s.var q)) x → r ≡ walked (one (gives 1 q)) y → r ≡ walked (varied l q) b
vary_by l q b x y r d e is = three_steps (one (gives 1 (s.var q))) (kept l (s.var q)) (one (gives 1 q)) b x y r d e is

pub store_by : (l n m : ℕ) (q v : Sort) (b x y z r : Noted) → m ≡ n + 1 → x ≡ walked (kept l v) b →
    y ≡ walked (one (gives m q)) x → z ≡ walked (one (pops 1)) y → r ≡ walked last z →
    r ≡ walked (storing true l n q v) b
store_by l n m q v b x y z r k d e f is =
    let all : m ≡ suc n = omega (arith, k) in
    three_steps (one (gives (suc n) q)) (one (pops 1)) last x y z r (e ∙ ap (λ k. walked (one (gives k q)) x) all) f is
    ∙ ap (walked (one (gives (suc n) q) then one (pops 1) then last)) d
    ∙ sym (walked_then (kept l v) (one (gives (suc n) q) then one (pops 1) then last) b)
