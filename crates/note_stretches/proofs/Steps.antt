-- What single calls make of what is noted, step by step.
use Rattle.std.proofs.Common.{◌≡◌, ℕ, zero, suc, ◌+◌, ◌-◌, ◌<◌, ◌≤◌, List, [], ◌∷◌, ◌++◌, map, true, false, true≢false}
use Rattle.std.proofs.Common.{Option, Some, None, is_some, refl, sym, ap, ◌∙◌, arith}
use Rattle.std.proofs.lemmas.List.{append_assoc, append-nil, map-append}
use Rattle.std.specs.Option.{option_map}
use Rattle.verse_sorts.specs.Sorts.{Sort}
use Rattle.verse_verify_notes.specs.View as v
use Rattle.verse_verify_notes.specs.declared.notes.Spot.{Spot as MadeSpot}
use Rattle.lower_notes.specs.States.{State, gives}
use Rattle.lower_notes.specs.Stretches.{deeper, with_value, out_with}
use Rattle.note_stretches.specs.Noted.{Noted, nothing_seen, skipped, skipped_one, changed, resumed, valued}
use Rattle.note_stretches.specs.Noted.{seen, outs_seen, outs_left, out_marked, marked}

pub spots_more : (xs : List (Option MadeSpot)) (x : Option MadeSpot) →
    map (option_map v.spot_of) (xs ++ x ∷ []) ≡ map (option_map v.spot_of) xs ++ option_map v.spot_of x ∷ []
spots_more xs x = map-append (option_map v.spot_of) xs (x ∷ [])

-- operations that are never reached, one by one
skipped_more : (n : ℕ) (b : Noted) → skipped n (skipped_one b) ≡ skipped (suc n) b
unfolding skipped skipped_one
skipped_more n b = ap (λ k. record b { spots = k }) (append_assoc b.spots (None ∷ []) (nothing_seen n))

skipped_none : (b : Noted) → skipped 0 b ≡ b
unfolding skipped
skipped_none b = ap (λ k. record b { spots = k }) (append-nil b.spots)

pub skip_next : (n i : ℕ) (b c all : Noted) → i < n → c ≡ skipped_one b → skipped (n - i) b ≡ all → skipped (n - (i + 1)) c ≡ all
skip_next n i b c all h g is =
    let k = n - (i + 1) in
    let more : n - i ≡ suc k = omega (arith, h) in
    ap (skipped k) g ∙ skipped_more k b ∙ ap (λ m. skipped m b) (sym more) ∙ is

pub skip_done : (n i : ℕ) (b all : Noted) → n ≤ i → skipped (n - i) b ≡ all → b ≡ all
skip_done n i b all h is =
    let none : n - i ≡ 0 = omega (arith, h) in
    sym (skipped_none b) ∙ sym (ap (λ m. skipped m b) none) ∙ is

-- behind a form, where it goes on and where it never ends
pub valued_some : (a : Sort) (x : Option State) (b : Noted) → is_some b.exit ≡ true → changed (gives 0 a) (resumed x b) ≡ valued a x b
unfolding changed resumed valued
valued_some a x b h = by b.exit h refl
  where
    by : (y : Option State) → is_some y ≡ true → b.exit ≡ y →
        record b { exit = option_map (gives 0 a) x } ≡ record b { exit = with_value a x b.exit }
    by None h e = absurd (true≢false (sym h))
    by (Some y) h e = ap (λ z. record b { exit = z }) (sym (ap (with_value a x) e))

pub valued_none : (a : Sort) (x : Option State) (b : Noted) → is_some b.exit ≡ false → b ≡ valued a x b
unfolding valued
valued_none a x b h = by b.exit h refl
  where
    by : (y : Option State) → is_some y ≡ false → b.exit ≡ y → b ≡ record b { exit = with_value a x b.exit }
    by None h e = ap (λ z. record b { exit = z }) (e ∙ sym (ap (with_value a x) e))
    by (Some y) h e = absurd (true≢false h)

-- how deep a loop is left
pub deeper_none : (n : Option ℕ) → deeper n None ≡ n
deeper_none None = refl
deeper_none (Some n) = refl

pub depth_some : (n : ℕ) (left : Option ℕ) (x : Option State) → is_some x ≡ true →
    deeper left (Some n) ≡ deeper left (option_map (λ (s : State). n) x)
depth_some n left None h = absurd (true≢false (sym h))
depth_some n left (Some x) h = refl

pub depth_none : (n : ℕ) (left : Option ℕ) (x : Option State) → is_some x ≡ false →
    left ≡ deeper left (option_map (λ (s : State). n) x)
depth_none n left None h = sym (deeper_none left)
depth_none n left (Some x) h = absurd (true≢false h)

-- the Drops behind a loop, one by one, and the Unit
outs_more : (n : ℕ) (x : Option State) (b : Noted) → outs_left n x (out_marked (suc n) x b) ≡ outs_left (suc n) x b
unfolding outs_left marked resumed
outs_more n x b =
    ap (λ k. record b { spots = k; exit = out_with 0 b.left x })
    (append_assoc b.spots (seen (out_with (suc n) b.left x) ∷ []) (outs_seen n b.left x))

pub out_next : (n : ℕ) (x : Option State) (b c all : Noted) → 0 < n → c ≡ out_marked n x b → outs_left n x b ≡ all → outs_left
    (n - 1) x c ≡ all
out_next zero x b c all h g is = absurd (omega (arith, h))
out_next (suc n) x b c all h g is =
    let one : suc n - 1 ≡ n = omega arith in
    ap (λ m. outs_left m x c) one ∙ ap (outs_left n x) g ∙ outs_more n x b ∙ is

pub out_last : (n : ℕ) (x : Option State) (b c all : Noted) → n ≤ 0 → c ≡ out_marked 0 x b → outs_left n x b ≡ all → c ≡ all
unfolding outs_left marked resumed
out_last n x b c all h g is =
    let none : n ≡ 0 = omega (arith, h) in
    g ∙ sym (ap (λ m. outs_left m x b) none) ∙ is
