-- The first tok is of a kind exactly where the test says so.
use Rattle.std.proofs.Common.{◌≡◌, ◌≢◌, ℕ, ◌==◌, ℤ, pos, negsuc, true, false, nat_lt, if◌then◌else◌, List, [], ◌∷◌, Option}
use Rattle.std.proofs.Common.{Some, None, refl, sym, ap, subst, ◌∙◌, ◌⊎◌, inl, inr}
use Rattle.std.proofs.lemmas.Bool.{eqb-true, eq-eqb, and_parts, false_from_ne_true}
use Rattle.std.specs.Ordering.{int_eq}
use Rattle.std.proofs.lemmas.Bool.Decides.{Decides-int_eq}
use Rattle.verse_lex.specs.declared.tokens.Word.{Word}
use Rattle.verse_lex.specs.declared.tokens.Word.TheVariants as w
use Rattle.verse_lex.specs.declared.tokens.Mark.{Mark}
use Rattle.verse_lex.specs.declared.tokens.Mark.TheVariants as m
use Rattle.verse_lex.specs.declared.tokens.TokenKind.{TokenKind}
use Rattle.verse_lex.specs.declared.tokens.TokenKind.TheVariants as token
use Rattle.verse_layout.specs.declared.toks.TokKind.{TokKind}
use Rattle.verse_layout.specs.declared.toks.TokKind.TheVariants as tok
use Rattle.verse_layout.specs.declared.toks.Tok.{Tok}
use Rattle.verse_grammar.specs.Toks.{ahead}
use Rattle.verse_grammar.specs.Codes.{code, value, word_code, mark_code, is_same, sees}

abbrev size : ℤ → ℕ
size (pos n) = n
size (negsuc n) = 0

abbrev word_of : ℕ → Word
word_of n = if n == 20 then w.Array else (if n == 21 then w.And else
    (if n == 22 then w.Block else (if n == 23 then w.Branch else
    (if n == 24 then w.Break else (if n == 25 then w.Case else
    (if n == 26 then w.Char else (if n == 27 then w.Class else
    (if n == 28 then w.Defer else (if n == 29 then w.Else else
    (if n == 30 then w.Enum else (if n == 31 then w.Event else
    (if n == 32 then w.False else (if n == 33 then w.For else
    (if n == 34 then w.If else (if n == 35 then w.Inf else
    (if n == 36 then w.Int else (if n == 37 then w.Logic else
    (if n == 38 then w.Loop else (if n == 39 then w.Map else
    (if n == 40 then w.Not else (if n == 41 then w.Option else
    (if n == 42 then w.Or else (if n == 43 then w.Race else
    (if n == 44 then w.Return else (if n == 45 then w.Rush else
    (if n == 46 then w.This else (if n == 47 then w.Set else
    (if n == 48 then w.Sleep else (if n == 49 then w.Spawn else
    (if n == 50 then w.String else (if n == 51 then w.Sync else
    (if n == 52 then w.Task else (if n == 53 then w.Then else
    (if n == 54 then w.True else (if n == 55 then w.Tuple else
    (if n == 56 then w.Using else (if n == 57 then w.Var else (if n == 58 then w.Void else (w.Wild)))))))))))))))))))))))))))))))))))))))

abbrev mark_of : ℕ → Mark
mark_of n = if n == 70 then m.Define else (if n == 71 then m.Colon else
    (if n == 72 then m.FatArrow else (if n == 73 then m.Equals else
    (if n == 74 then m.Differs else (if n == 75 then m.AtMost else
    (if n == 76 then m.AtLeast else (if n == 77 then m.Below else
    (if n == 78 then m.Above else (if n == 79 then m.PlusEquals else
    (if n == 80 then m.Plus else (if n == 81 then m.MinusEquals else
    (if n == 82 then m.Arrow else (if n == 83 then m.Minus else
    (if n == 84 then m.TimesEquals else (if n == 85 then m.Times else
    (if n == 86 then m.Slash else (if n == 87 then m.DotDot else
    (if n == 88 then m.Dot else (if n == 89 then m.Comma else
    (if n == 90 then m.Semicolon else (if n == 91 then m.RoundOpen else
    (if n == 92 then m.RoundClose else (if n == 93 then m.SquareOpen else
    (if n == 94 then m.SquareClose else (if n == 95 then m.BraceOpen else
    (if n == 96 then m.BraceClose else (m.Question)))))))))))))))))))))))))))

-- the kind of a number and a value
abbrev kind_of : ℕ → ℤ → TokKind
kind_of n v =
    if n == 1 then tok.Plain token.Name else
    (if n == 2 then tok.Plain token.LeftOut else
    (if n == 3 then tok.Plain (token.Int v) else (if n == 4 then tok.Plain (token.Dec (size v))
    else (if n == 5 then tok.Plain (token.Char (size v)) else
    (if n == 6 then tok.Plain token.Text else (if n == 7 then tok.Plain token.TextOpen else (if n == 8 then tok.Plain token.TextMid
    else (if n == 9 then tok.Plain token.TextClose else
    (if n == 10 then tok.Open else (if n == 11 then tok.Sep else (if n == 12 then tok.Close
    else (if nat_lt n 70 then tok.Plain (token.Word (word_of n)) else tok.Plain (token.Mark (mark_of n))))))))))))))

word_again : (x : Word) → kind_of (word_code x) (pos 0) ≡ tok.Plain (token.Word x)
word_again w.Array = refl
word_again w.And = refl
word_again w.Block = refl
word_again w.Branch = refl
word_again w.Break = refl
word_again w.Case = refl
word_again w.Char = refl
word_again w.Class = refl
word_again w.Defer = refl
word_again w.Else = refl
word_again w.Enum = refl
word_again w.Event = refl
word_again w.False = refl
word_again w.For = refl
word_again w.If = refl
word_again w.Inf = refl
word_again w.Int = refl
word_again w.Logic = refl
word_again w.Loop = refl
word_again w.Map = refl
word_again w.Not = refl
word_again w.Option = refl
word_again w.Or = refl
word_again w.Race = refl
word_again w.Return = refl
word_again w.Rush = refl
word_again w.This = refl
word_again w.Set = refl
word_again w.Sleep = refl
word_again w.Spawn = refl
word_again w.String = refl
word_again w.Sync = refl
word_again w.Task = refl
word_again w.Then = refl
word_again w.True = refl
word_again w.Tuple = refl
word_again w.Using = refl
word_again w.Var = refl
word_again w.Void = refl
word_again w.Wild = refl

mark_again : (x : Mark) → kind_of (mark_code x) (pos 0) ≡ tok.Plain (token.Mark x)
mark_again m.Define = refl
mark_again m.Colon = refl
mark_again m.FatArrow = refl
mark_again m.Equals = refl
mark_again m.Differs = refl
mark_again m.AtMost = refl
mark_again m.AtLeast = refl
mark_again m.Below = refl
mark_again m.Above = refl
mark_again m.PlusEquals = refl
mark_again m.Plus = refl
mark_again m.MinusEquals = refl
mark_again m.Arrow = refl
mark_again m.Minus = refl
mark_again m.TimesEquals = refl
mark_again m.Times = refl
mark_again m.Slash = refl
mark_again m.DotDot = refl
mark_again m.Dot = refl
mark_again m.Comma = refl
mark_again m.Semicolon = refl
mark_again m.RoundOpen = refl
mark_again m.RoundClose = refl
mark_again m.SquareOpen = refl
mark_again m.SquareClose = refl
mark_again m.BraceOpen = refl
mark_again m.BraceClose = refl
mark_again m.Question = refl

again : (k : TokKind) → kind_of (code k) (value k) ≡ k
again (tok.Plain token.Name) = refl
again (tok.Plain (token.Word x)) = word_again x
again (tok.Plain token.LeftOut) = refl
again (tok.Plain (token.Int n)) = refl
again (tok.Plain (token.Dec n)) = refl
again (tok.Plain (token.Char n)) = refl
again (tok.Plain token.Text) = refl
again (tok.Plain token.TextOpen) = refl
again (tok.Plain token.TextMid) = refl
again (tok.Plain token.TextClose) = refl
again (tok.Plain (token.Mark x)) = mark_again x
again tok.Open = refl
again tok.Sep = refl
again tok.Close = refl

same_value : (x y : ℤ) → int_eq x y ≡ true → x ≡ y
same_value x y h = (Decides-int_eq x y).0 h

int_eq_refl : (x : ℤ) → int_eq x x ≡ true
int_eq_refl x = (Decides-int_eq x x).1 refl

pub same_kind : (j k : TokKind) → is_same j k ≡ true → j ≡ k
same_kind j k h =
    let b = and_parts (code j == code k) (int_eq (value j) (value k)) h in
    sym (again j) ∙ ap (λ n. kind_of n (value j)) (eqb-true (code j) (code k) b.0) ∙
    ap (kind_of (code k)) (same_value (value j) (value k) b.1) ∙ again k

is_same_refl : (k : TokKind) → is_same k k ≡ true
is_same_refl k = rw (eq-eqb (code k) (code k) refl, int_eq_refl (value k)) refl

pub seen : (kind : TokKind) (k : Tok) (ks : List Tok) → k.kind ≡ kind → sees kind (k ∷ ks) ≡ true
seen kind k ks h = rw h (is_same_refl kind)

pub unseen : (kind : TokKind) (ks : List Tok) → ahead ks ≢ Some kind → sees kind ks ≡ false
unseen kind [] h = refl
unseen kind (k ∷ ks) h = false_from_ne_true (is_same k.kind kind) (λ e. h (ap Some (same_kind k.kind kind e)))
