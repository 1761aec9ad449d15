-- The indentations of the tokens of a file lie within its bytes.
use Rattle.std.proofs.Common.{◌≡◌, ◌≤◌, ◌+◌, ◌-◌, ℕ, List, [], ◌∷◌, length, drop, Option, Some, None, IfSome, refl, ◌∙◌, ap, arith}
use Rattle.std.specs.List.{All}
use Rattle.std.proofs.lemmas.List.{drop-drop, length-drop}
use Rattle.std.proofs.lemmas.List.Elements.{All-nil, All-cons}
use Rattle.verse_lex.specs.declared.tokens.Token.{Token}
use Rattle.verse_lex.specs.declared.cursors.Cursor.{Cursor}
use Rattle.verse_lex.specs.Bytes.{is_blank, run}
use Rattle.verse_lex.specs.Cut.{Cuts, cuts_none, cuts_separator, cuts_line, cuts_token, AreTokens, Rise, token, body, mark_len}
use Rattle.verse_lex.proofs.Bounds.{run_within}
use Rattle.verse_layout.specs.Cells.{Lies}

-- a line that began before this offset, and its indentation
abbrev LineOk : ℕ → ℕ → Option (ℕ × ℕ) → Type 0
LineOk len at None = Unit {0}
LineOk len at (Some s) = (s.0 ≤ at) × (s.0 ≤ s.1) × (s.1 ≤ s.0 + (len - s.0))

later : (len at more : ℕ) (line : Option (ℕ × ℕ)) → at ≤ more → LineOk len at line → LineOk len more line
later len at more None h l = tt
later len at more (Some s) h l = let a = l.0 in (omega arith, l.1, l.2)

rise_end : (from : ℕ) (ts : List Token) (to : ℕ) → Rise from ts to → from ≤ to
rise_end from [] to r = r
rise_end from (t ∷ ts) to r = let h = rise_end t.end ts to r.2 in let a = r.0 in let b = r.1 in omega arith

token_lies : (bytes : List ℕ) (at : ℕ) (t : Token) → LineOk (length bytes) at t.indent → at ≤ length bytes → Lies bytes t
token_lies bytes at t l h = by_line t.indent l
  where
    by_line : (line : Option (ℕ × ℕ)) → LineOk (length bytes) at line → IfSome line (λ span. (span.0 ≤ span.1) × (span.1 ≤ length bytes))
    by_line None x = tt
    by_line (Some s) x = let a = x.0 in let b = x.2 in (x.1, omega arith)

blanks_ok : (len at : ℕ) (bs : List ℕ) → length bs ≡ len - at → LineOk len at (Some (at, at + run is_blank bs))
blanks_ok len at bs e = let h = run_within is_blank bs in (omega arith, omega arith, omega arith)

behind : (bytes bs : List ℕ) (at count : ℕ) → bs ≡ drop at bytes → drop count bs ≡ drop (at + count) bytes
behind bytes bs at count e = ap (drop count) e ∙ drop-drop count at bytes

cut_lies : {here there : Cursor} {bs cs : List ℕ} {ts : List Token} → Cuts here bs ts there cs → (bytes : List ℕ) (from : ℕ) →
    bs ≡ drop here.at bytes → LineOk (length bytes) here.at here.line → Rise from ts (length bytes) → All (Lies bytes) ts
cut_lies cuts_none bytes from e l r = All-nil (Lies bytes)
cut_lies (cuts_separator {here = here} {bs = bs} {count = count} p c) bytes from e l r =
    cut_lies c bytes from (behind bytes bs here.at count e) (later (length bytes) here.at (here.at + count) here.line (omega arith) l) r
cut_lies (cuts_line {here = here} {bs = bs} {count = count} p c) bytes from e l r =
    let d = behind bytes bs here.at count e in
    cut_lies c bytes from d (blanks_ok (length bytes) (here.at + count) (drop count bs) (ap length d ∙ length-drop (here.at + count) bytes))
    r
cut_lies (cuts_token {here = here} {bs = bs} {ts = ts} {kind = kind} {count = count} p c) bytes from e l r =
    let h = rise_end (here.at + count) ts (length bytes) r.2 in
    All-cons (Lies bytes) (token here kind count) ts (token_lies bytes here.at (token here kind count) l (omega arith))
    (cut_lies c bytes (here.at + count) (behind bytes bs here.at count e) tt r.2)

pub lexed_lie : (file : ℕ) (bytes : List ℕ) (tokens : List Token) → AreTokens file bytes tokens → Rise 0 tokens (length bytes) →
    All (Lies bytes) tokens
lexed_lie file bytes tokens t r = cut_lies t.cut bytes 0 refl
    (blanks_ok (length bytes) (mark_len bytes) (body bytes) (length-drop (mark_len bytes) bytes)) r
