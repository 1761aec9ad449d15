-- What a tok does to the counts of the frames that are open.
use Rattle.std.specs.Prelude.{true, false}
use Rattle.verse_lex.specs.declared.tokens.TokenKind.{TokenKind}
use Rattle.verse_lex.specs.declared.tokens.TokenKind.TheVariants as k
use Rattle.verse_lex.specs.declared.tokens.Mark.{Mark}
use Rattle.verse_lex.specs.declared.tokens.Mark.TheVariants as m
use Rattle.verse_lex.specs.declared.tokens.Word.{Word}
use Rattle.verse_lex.specs.declared.tokens.Word.TheVariants as w
use Rattle.verse_layout.specs.declared.toks.TokKind.{TokKind}
use Rattle.verse_layout.specs.declared.toks.TokKind.TheVariants as t
use Rattle.verse_layout.specs.declared.loads.Weight.{Weight}
use Rattle.verse_layout.specs.declared.loads.Weight.TheVariants.{Keeps, Adds, Begins, Ends, Resets}
use Rattle.verse_layout.specs.declared.loads.Weight.TheVariants.{ResetsHole}

abbrev pub word_weight : Word → Weight
word_weight w.True = Keeps
word_weight w.False = Keeps
word_weight _ = Adds

abbrev pub mark_weight : Mark → Weight
mark_weight m.RoundOpen = Begins false
mark_weight m.SquareOpen = Begins false
mark_weight m.RoundClose = Ends
mark_weight m.SquareClose = Ends
mark_weight m.Comma = Resets
mark_weight _ = Adds

abbrev pub token_weight : TokenKind → Weight
token_weight k.Name = Keeps
token_weight (k.Int n) = Keeps
token_weight (k.Dec n) = Keeps
token_weight (k.Char n) = Keeps
token_weight k.Text = Keeps
token_weight k.LeftOut = Adds
token_weight (k.Word w) = word_weight w
token_weight k.TextOpen = Begins true
token_weight k.TextMid = ResetsHole
token_weight k.TextClose = Ends
token_weight (k.Mark m) = mark_weight m

abbrev pub weight_of : TokKind → Weight
weight_of t.Open = Begins false
weight_of t.Close = Ends
weight_of t.Sep = Resets
weight_of (t.Plain k) = token_weight k
