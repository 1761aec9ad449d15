-- Each rule that layout or the grammar answers has a text.
use Rattle.std.proofs.Common.{◌≡◌, ℕ, List, Option, Some, None, refl, sym, subst}
use Rattle.std.specs.Option.{IsSome}
use Rattle.verse_base.specs.declared.refusals.Refusal.{Refusal}
use Rattle.verse_base.specs.declared.refusals.Rule.{Rule}
use Rattle.verse_base.specs.RuleText.{rule_text_of}
use Rattle.verse_lex.specs.declared.tokens.Token.{Token}
use Rattle.verse_lex.specs.declared.tokens.TokenKind.TheVariants as token
use Rattle.verse_layout.specs.declared.toks.TokKind.{TokKind}
use Rattle.verse_layout.specs.declared.toks.TokKind.TheVariants as k
use Rattle.verse_layout.specs.declared.frames.Spot.{Spot}
use Rattle.verse_layout.specs.Cells.{Cell}
use Rattle.verse_layout.specs.Refusals.{BreaksAt, wrong_brace, wrong_bracket, wrong_line, no_block, BreaksEnd, open_bracket}
use Rattle.verse_layout.specs.Refusals.{no_block_behind, Refuses, at_token, at_file_end, too_deep, IsRefused}
use Rattle.verse_expr.specs.Faults.{stop_rule}
use Rattle.verse_accept.proofs.ListedTokens.{Listed}

listed_at : {before : List Cell} {c : Cell} {rule : Rule} → BreaksAt before c rule → IsSome (rule_text_of rule.0)
listed_at (wrong_brace p n) = refl
listed_at (wrong_bracket p l n b) = refl
listed_at (wrong_line p n) = refl
listed_at (no_block p o i) = refl

listed_end : {end : Spot} {cs : List Cell} {r : Refusal} → BreaksEnd end cs r → Listed r
listed_end (open_bracket o x i) = refl
listed_end (no_block_behind before c e p b) = refl

listed : {end : Spot} {cs : List Cell} {r : Refusal} → Refuses end cs r → Listed r
listed (at_token before behind c rule e b n w x p) = subst Listed (sym p) (listed_at x)
listed (at_file_end b n w x) = listed_end x
listed (too_deep front behind ks e g a d) = subst Listed (sym d.refused) refl

pub listed_layout : (bytes : List ℕ) (ts : List Token) (r : Refusal) → IsRefused bytes ts r → IsSome (rule_text_of r.rule.0)
listed_layout bytes ts r h = listed h

pub listed_grammar : (o : Option TokKind) → IsSome (rule_text_of (stop_rule o))
listed_grammar None = refl
listed_grammar (Some (k.Plain token.LeftOut)) = refl
listed_grammar (Some (k.Plain _)) = refl
listed_grammar (Some _) = refl
