-- Where a comment is closed, byte by byte.
use Rattle.std.proofs.Common.{◌≡◌, ℕ, zero, suc, ◌+◌, ◌-◌, ◌<◌, true, false, List, ◌∷◌, refl, arith, ap, add_assoc, add-one}
use Rattle.verse_lex.specs.Comments.{closes, opens, is_lone, beyond, closing}
use Rattle.verse_lex.specs.declared.comments.Close.{Close}
use Rattle.verse_lex.specs.declared.comments.Close.TheVariants as k

beyond_beyond : (m n : ℕ) (x : Close) → beyond (m + n) x ≡ beyond m (beyond n x)
beyond_beyond m n (k.Closed i) = ap k.Closed (add_assoc m n i)
beyond_beyond m n (k.Lone i) = ap k.Lone (add_assoc m n i)
beyond_beyond m n k.Never = refl

closing_close : (count depth b c : ℕ) (bs : List ℕ) → 0 < depth → closes b c ≡ true →
    beyond (count + 2) (closing (depth - 1) bs) ≡ beyond count (closing depth (b ∷ c ∷ bs))
closing_close count zero b c bs h e = absurd (omega arith)
closing_close count (suc d) b c bs h e = let one : suc d - 1 ≡ d = omega arith in rw (one, e) (beyond_beyond count 2 (closing d bs))

closing_open : (count depth b c : ℕ) (bs : List ℕ) → 0 < depth → closes b c ≡ false → opens b c ≡ true →
    beyond (count + 2) (closing (depth + 1) bs) ≡ beyond count (closing depth (b ∷ c ∷ bs))
closing_open count zero b c bs h e o = absurd (omega arith)
closing_open count (suc d) b c bs h e o = rw (add-one, e, o) (beyond_beyond count 2 (closing (suc (suc d)) bs))

closing_more : (count depth b c : ℕ) (bs : List ℕ) → 0 < depth → closes b c ≡ false → opens b c ≡ false → is_lone b c ≡ false →
    beyond (count + 1) (closing depth (c ∷ bs)) ≡ beyond count (closing depth (b ∷ c ∷ bs))
closing_more count zero b c bs h e o l = absurd (omega arith)
closing_more count (suc d) b c bs h e o l = rw (e, o, l) (beyond_beyond count 1 (closing (suc d) (c ∷ bs)))

-- the same where the bytes are known by equations
pub closing_closes : (count depth b c : ℕ) (bs more behind : List ℕ) → bs ≡ b ∷ more → more ≡ c ∷ behind → 0 < depth → closes b c ≡ true →
    beyond (count + 2) (closing (depth - 1) behind) ≡ beyond count (closing depth bs)
closing_closes count depth b c bs more behind e f h p = rw (e, f) (closing_close count depth b c behind h p)

pub closing_opens : (count depth b c : ℕ) (bs more behind : List ℕ) → bs ≡ b ∷ more → more ≡ c ∷ behind → 0 < depth → closes b c ≡ false →
    opens b c ≡ true →
    beyond (count + 2) (closing (depth + 1) behind) ≡ beyond count (closing depth bs)
closing_opens count depth b c bs more behind e f h p q = rw (e, f) (closing_open count depth b c behind h p q)

pub closing_goes : (count depth b c : ℕ) (bs more behind : List ℕ) → bs ≡ b ∷ more → more ≡ c ∷ behind → 0 < depth → closes b c ≡ false →
    opens b c ≡ false → is_lone b c ≡ false →
    beyond (count + 1) (closing depth more) ≡ beyond count (closing depth bs)
closing_goes count depth b c bs more behind e f h p q l = rw (e, f) (closing_more count depth b c behind h p q l)
