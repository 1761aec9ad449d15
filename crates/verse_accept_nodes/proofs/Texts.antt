-- What the grammar takes from toks is within the limits of a code: characters, pauses, and the bytes of texts.
use Rattle.std.proofs.Common.{◌≡◌, ℕ, ◌-◌, ◌+◌, ◌≤◌, ◌==◌, Bool, true, false, if◌then◌else◌, List, [], ◌∷◌, Option, Some, length, drop}
use Rattle.std.proofs.Common.{arith, subst, length-take}
use Rattle.std.proofs.lemmas.List.{length-drop}
use Rattle.verse_base.specs.declared.limits.TheConstants.{MOST_FILE_BYTES}
use Rattle.verse_lex.specs.Contents.{unescaped, replaced, between}
use Rattle.verse_lex.specs.declared.tokens.Word.{Word}
use Rattle.verse_lex.specs.declared.tokens.Word.TheVariants as w
use Rattle.verse_lex.specs.declared.tokens.TokenKind.TheVariants as token
use Rattle.verse_lex.specs.declared.tokens.Mark.{Mark}
use Rattle.verse_lex.specs.declared.tokens.Mark.TheVariants as m
use Rattle.verse_layout.specs.declared.toks.Tok.{Tok}
use Rattle.verse_layout.specs.declared.toks.TokKind.{TokKind}
use Rattle.verse_layout.specs.declared.toks.TokKind.TheVariants as tok
use Rattle.verse_grammar.specs.Toks.{text_at}
use Rattle.verse_grammar.specs.Starts.{primary_word, primary_start, pattern_start, duration_at}
use Rattle.verse_grammar.specs.declared.starts.PrimaryStart.{PrimaryStart}
use Rattle.verse_grammar.specs.declared.starts.PrimaryStart.TheVariants as primary
use Rattle.verse_grammar.specs.declared.starts.PatternStart.{PatternStart}
use Rattle.verse_grammar.specs.declared.starts.PatternStart.TheVariants as pattern
use Rattle.verse_grammar.specs.declared.starts.Duration.{Duration}
use Rattle.verse_grammar.specs.declared.starts.Duration.TheVariants as duration
use Rattle.verse_code.specs.declared.validity.TheConstants.{MOST_PAUSE}
use Rattle.verse_code.specs.Validity.{IsText}
use Rattle.verse_accept_nodes.proofs.Toks.{TokKindFits}

-- ---- characters and pauses

abbrev PrimaryFits : Option PrimaryStart → Type 0
PrimaryFits (Some (primary.Char n)) = n ≤ 255
PrimaryFits o = Unit {0}

abbrev PatternFits : Option PatternStart → Type 0
PatternFits (Some (pattern.Char n)) = n ≤ 255
PatternFits o = Unit {0}

abbrev DurationFits : Option Duration → Type 0
DurationFits (Some (duration.Milliseconds n)) = n ≤ MOST_PAUSE
DurationFits o = Unit {0}

word_primary : (x : Word) → PrimaryFits (primary_word x)
word_primary w.True = tt
word_primary _ = tt

mark_primary : (x : Mark) → PrimaryFits (primary_start (tok.Plain (token.Mark x)))
mark_primary m.RoundOpen = tt
mark_primary _ = tt

primary_fits : (k : TokKind) → TokKindFits k → PrimaryFits (primary_start k)
primary_fits (tok.Plain (token.Char c)) h = h
primary_fits (tok.Plain (token.Word x)) h = word_primary x
primary_fits (tok.Plain (token.Mark x)) h = mark_primary x
primary_fits _ h = tt

word_pattern : (x : Word) → PatternFits (pattern_start (tok.Plain (token.Word x)))
word_pattern w.True = tt
word_pattern _ = tt

mark_pattern : (x : Mark) → PatternFits (pattern_start (tok.Plain (token.Mark x)))
mark_pattern m.Minus = tt
mark_pattern _ = tt

pattern_fits : (k : TokKind) → TokKindFits k → PatternFits (pattern_start k)
pattern_fits (tok.Plain (token.Char c)) h = h
pattern_fits (tok.Plain (token.Word x)) h = word_pattern x
pattern_fits (tok.Plain (token.Mark x)) h = mark_pattern x
pattern_fits _ h = tt

word_duration : (x : Word) → DurationFits (duration_at (tok.Plain (token.Word x)))
word_duration w.Inf = tt
word_duration _ = tt

duration_fits : (k : TokKind) → TokKindFits k → DurationFits (duration_at k)
duration_fits (tok.Plain (token.Dec d)) h = h
duration_fits (tok.Plain (token.Word x)) h = word_duration x
duration_fits _ h = tt

pub character_low : (k : TokKind) (n : ℕ) → TokKindFits k → primary_start k ≡ Some (primary.Char n) → n ≤ 255
character_low k n h e = subst PrimaryFits e (primary_fits k h)

pub pattern_low : (k : TokKind) (n : ℕ) → TokKindFits k → pattern_start k ≡ Some (pattern.Char n) → n ≤ 255
pattern_low k n h e = subst PatternFits e (pattern_fits k h)

pub pause_low : (k : TokKind) (n : ℕ) → TokKindFits k → duration_at k ≡ Some (duration.Milliseconds n) → n ≤ MOST_PAUSE
pause_low k n h e = subst DurationFits e (duration_fits k h)

-- ---- texts

if_short : (v : Bool) (xs ys : List ℕ) (n : ℕ) → length xs ≤ n → length ys ≤ n → length (if v then xs else ys) ≤ n
if_short true xs ys n h g = h
if_short false xs ys n h g = g

mutual
  unescaped_short : (bs : List ℕ) → length (unescaped bs) ≤ length bs
  unescaped_short [] = omega arith
  unescaped_short (b ∷ bs) =
      let replaced_less = replaced_short bs in
      let less = unescaped_short bs in
      if_short (b == 92) (replaced bs) (b ∷ unescaped bs) (length (b ∷ bs)) (omega arith) (omega arith)

  replaced_short : (bs : List ℕ) → length (replaced bs) ≤ length bs
  replaced_short [] = omega arith
  replaced_short (b ∷ bs) = let less = unescaped_short bs in omega arith

pub text_short : (bs : List ℕ) (k : Tok) → length bs ≤ MOST_FILE_BYTES → IsText (text_at bs k)
text_short bs k h =
    let less = unescaped_short (between bs k.start k.end) in
    omega (arith, less, h, length-take (k.end - k.start - 2) (drop (k.start + 1) bs), length-drop (k.start + 1) bs)
