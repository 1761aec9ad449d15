-- What stands in locals behind writes.
use Rattle.std.proofs.Common.{◌≡◌, ℕ, zero, suc, ◌+◌, ◌<◌, ◌≤◌, List, [], ◌∷◌, length, set, false, cond, refl, sym, ap, ◌∙◌, arith}
use Rattle.std.specs.Prelude.{Some, None, slice_get}
use Rattle.std.specs.Option.{option_map}
use Rattle.verse_sorts.specs.Typing.{at}
use Rattle.verse_meaning_state.specs.Waits.{eqn}
use Rattle.verse_meaning_state.proofs.Numbers.{eqn_same}
use Rattle.verse_code_machine.specs.Frames.{put}
use Rattle.verse_verify_faults.specs.Stepping as t
use Rattle.verse_verify_notes.specs.declared.sorts.Sort.{Sort}
use Rattle.verse_verify_notes.specs.View.{sort_of, sorts_of}
use Rattle.verse_verify_parts.specs.declared.rows.Write.{Write}
use Rattle.verse_verify_parts.specs.Mades.{made_of, made_after, written, each_after}

none_after : (ls : List t.Made) (k : ℕ) → each_after ls [] k ≡ ls
none_after [] k = refl
none_after (m ∷ ls) k = ap (λ zs. m ∷ zs) (none_after ls (suc k))

-- one write, and then the others
first_after : (ls : List t.Made) (w : Write) (ws : List Write) (k : ℕ) →
    each_after ls (w ∷ ws) k ≡ each_after (each_after ls (w ∷ []) k) ws k
first_after [] w ws k = refl
first_after (m ∷ ls) w ws k = ap (λ zs. made_after m (w ∷ ws) k ∷ zs) (first_after ls w ws (suc k))

over_there : (n k : ℕ) → eqn (suc (n + k)) k ≡ false
over_there n zero = refl
over_there n (suc k) = ap (λ j. eqn j k) (plus n k) ∙ over_there n k
  where
    plus : (n k : ℕ) → n + suc k ≡ suc (n + k)
    plus n k = omega arith

beyond : (ls : List t.Made) (v : t.Made) (j k : ℕ) (w : Write) → w.local ≡ j → j < k → each_after ls (w ∷ []) k ≡ ls
beyond [] v j k w e h = refl
beyond (m ∷ ls) v j k w e h = ap (λ b. cond b (made_of w.made) m ∷ each_after ls (w ∷ []) (suc k)) (ap (λ i. eqn i k) e ∙ below j k h) ∙ ap
    (λ zs. m ∷ zs) (beyond ls v j (suc k) w e (omega (arith, h)))
  where
    below : (j k : ℕ) → j < k → eqn j k ≡ false
    below j zero h = elim (none j h) [ ]
      where
        none : (j : ℕ) → j < 0 → ⊥
        none j h = omega (arith, h)
    below zero (suc k) h = refl
    below (suc j) (suc k) h = below j k (omega (arith, h))

one_after : (ls : List t.Made) (w : Write) (n k : ℕ) → w.local ≡ n + k → each_after ls (w ∷ []) k ≡ set ls n (made_of w.made)
one_after [] w n k e = refl
one_after (m ∷ ls) w zero k e = ap (λ b. cond b (made_of w.made) m ∷ each_after ls (w ∷ []) (suc k))
    (ap (λ i. eqn i k) (plain k w.local e) ∙ eqn_same k) ∙
    ap (λ zs. made_of w.made ∷ zs) (beyond ls m k (suc k) w (plain k w.local e) (omega arith))
  where
    plain : (k l : ℕ) → l ≡ 0 + k → l ≡ k
    plain k l e = omega (arith, e)
one_after (m ∷ ls) w (suc n) k e = ap (λ b. cond b (made_of w.made) m ∷ each_after ls (w ∷ []) (suc k)) (ap (λ i. eqn i k) (e ∙ more n k) ∙
    over_there n k) ∙ ap (λ zs. m ∷ zs) (one_after ls w n (suc k) (e ∙ plus n k))
  where
    more : (n k : ℕ) → suc n + k ≡ suc (n + k)
    more n k = omega arith

    plus : (n k : ℕ) → suc n + k ≡ n + suc k
    plus n k = omega arith

pub written_each : (ls : List t.Made) (ws : List Write) → written ls ws ≡ each_after ls ws 0
written_each ls [] = sym (none_after ls 0)
written_each ls (w ∷ ws) = written_each (set ls w.local (made_of w.made)) ws ∙ ap (λ zs. each_after zs ws 0) (sym (one_after ls w w.local 0
    (zero_right w.local))) ∙ sym (first_after ls w ws 0)
  where
    zero_right : (n : ℕ) → n ≡ n + 0
    zero_right n = omega arith

-- what the definitions put there
pub put_there : (ls : List t.Made) (l : ℕ) (m : t.Made) → l < length ls → put ls l m ≡ Some (set ls l m)
put_there [] l m h = elim (none l h) [ ]
  where
    none : (l : ℕ) → l < 0 → ⊥
    none l h = omega (arith, h)
put_there (x ∷ ls) zero m h = refl
put_there (x ∷ ls) (suc l) m h = rw (put_there ls l m (omega (arith, h)))

pub put_past : (ls : List t.Made) (l : ℕ) (m : t.Made) → length ls ≤ l → put ls l m ≡ None
put_past [] l m h = refl
put_past (x ∷ ls) zero m h = elim (none (length ls) h) [ ]
  where
    none : (n : ℕ) → suc n ≤ 0 → ⊥
    none n h = omega (arith, h)
put_past (x ∷ ls) (suc l) m h = rw (put_past ls l m (omega (arith, h)))

-- what stands in a local
pub at_local : (xs : List Sort) (n : ℕ) → at (sorts_of xs) n ≡ option_map sort_of (slice_get xs n)
at_local [] zero = refl
at_local [] (suc n) = refl
at_local (x ∷ xs) zero = refl
at_local (x ∷ xs) (suc n) = at_local xs n
