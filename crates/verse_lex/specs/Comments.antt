-- Comments that begin with `<#` and end with their `#>`.
use Rattle.std.specs.Prelude.{ℕ, zero, suc, ◌+◌, ◌≤◌, Bool, ◌==◌, ◌&&◌, not, if◌then◌else◌, List}
use Rattle.std.specs.Prelude.{[], ◌∷◌}
use Rattle.verse_lex.specs.declared.comments.Close.{Close}
use Rattle.verse_lex.specs.declared.comments.Close.TheVariants as k

-- `#>`
abbrev pub closes : ℕ → ℕ → Bool
closes b c = (b == 35) && (c == 62)

-- `<#`
abbrev pub opens : ℕ → ℕ → Bool
opens b c = (b == 60) && (c == 35)

-- a carriage return with no line feed behind it
abbrev pub is_lone : ℕ → ℕ → Bool
is_lone b c = (b == 13) && not (c == 10)

-- so many bytes further on
abbrev pub beyond : ℕ → Close → Close
beyond n (k.Closed m) = k.Closed (n + m)
beyond n (k.Lone m) = k.Lone (n + m)
beyond n k.Never = k.Never

-- where so many comments that are open are closed
abbrev pub closing : ℕ → List ℕ → Close
closing zero bs = k.Closed 0
closing (suc depth) [] = k.Never
closing (suc depth) (b ∷ []) = if b == 13 then k.Lone 0 else k.Never
closing (suc depth) (b ∷ c ∷ bs) =
    if closes b c then beyond 2 (closing depth bs)
    else (if opens b c then beyond 2 (closing (suc (suc depth)) bs)
    else (if is_lone b c then k.Lone 0
    else beyond 1 (closing (suc depth) (c ∷ bs))))

-- a close is no further on than there are bytes
abbrev pub CloseWithin : Close → ℕ → Type 0
CloseWithin (k.Closed n) len = n ≤ len
CloseWithin (k.Lone n) len = n ≤ len
CloseWithin k.Never len = Unit {0}
