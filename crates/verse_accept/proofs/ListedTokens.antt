-- Each rule that tokens answer has a text.
use Rattle.std.proofs.Common.{◌≡◌, ℕ, Bool, true, false, if◌then◌else◌, List, Option, Some, None, refl, sym, subst}
use Rattle.std.proofs.lemmas.Option.{same_Some}
use Rattle.std.specs.Option.{IsSome}
use Rattle.verse_base.specs.declared.refusals.Rule.{Rule}
use Rattle.verse_base.specs.declared.refusals.Refusal.{Refusal}
use Rattle.verse_base.specs.RuleText.{rule_text_of}
use Rattle.verse_lex.specs.declared.tokens.TokenKind.{TokenKind}
use Rattle.verse_lex.specs.declared.pieces.Next.{Next}
use Rattle.verse_lex.specs.declared.pieces.Next.TheVariants as n
use Rattle.verse_lex.specs.declared.cursors.Cursor.{Cursor}
use Rattle.verse_lex.specs.declared.rules.TheConstants.{INTEGER, DURATION}
use Rattle.verse_lex.specs.declared.texts.Ending.{Ending}
use Rattle.verse_lex.specs.declared.texts.Ending.TheVariants as e
use Rattle.verse_lex.specs.Cut.{in_hole, refusal_of, no_text, no_piece}
use Rattle.verse_lex.specs.Cut as tokens
use Rattle.verse_lex.specs.Pieces.{piece_at}
use Rattle.verse_lex_laws.specs.Spelling.{Number, digits, hex_digits, fraction, Stops, quote, hole, brace, lone, no_escape, file_end}
use Rattle.verse_lex_laws.specs.Spelling.{line_end, return_end, Breaks, stray, lone_return, lone_in_line, lone_in_comment, no_comment}
use Rattle.verse_lex_laws.specs.Spelling.{letter_behind, broken_number, no_literal, literal_escape, broken_text, broken_part, unended_text}
use Rattle.verse_lex_laws.specs.Spelling.{unended_comment, Explains}
use Rattle.verse_lex_laws.proofs.Spelled.{each_explained}

abbrev pub Listed : Refusal → Type 0
Listed r = IsSome (rule_text_of r.rule.0)

if_is : (b : Bool) (rule other : Rule) → IsSome (rule_text_of rule.0) → (if b then Some rule else None) ≡ Some other →
    IsSome (rule_text_of other.0)
if_is true rule other listed h = subst (λ (q : Rule). IsSome (rule_text_of q.0)) (same_Some _ _ h) listed
if_is false rule other listed h = absurd (cc)

number : {cs : List ℕ} {kind : TokenKind} {o : Option Rule} → Number cs kind o → (rule : Rule) → o ≡ Some rule →
    IsSome (rule_text_of rule.0)
number (digits d ds a b) rule h = if_is _ INTEGER rule refl h
number (hex_digits d ds a b) rule h = if_is _ INTEGER rule refl h
number (fraction c d cs ds a b a' b') rule h = if_is _ DURATION rule refl h

broken_is : {rule other : Rule} {m n : ℕ} → ◌≡◌ {A = Ending} (e.Broken rule m) (e.Broken other n) → rule ≡ other
broken_is h = cc

ending : {ds : List ℕ} {f : Ending} → Stops ds f → (rule : Rule) (n : ℕ) → f ≡ e.Broken rule n → IsSome (rule_text_of rule.0)
ending quote rule n h = absurd (cc)
ending hole rule n h = absurd (cc)
ending brace rule n h = subst (λ (q : Rule). IsSome (rule_text_of q.0)) (broken_is h) refl
ending (lone s) rule n h = subst (λ (q : Rule). IsSome (rule_text_of q.0)) (broken_is h) refl
ending (no_escape s) rule n h = subst (λ (q : Rule). IsSome (rule_text_of q.0)) (broken_is h) refl
ending file_end rule n h = absurd (cc)
ending line_end rule n h = absurd (cc)
ending return_end rule n h = absurd (cc)

broken : {within : Bool} {bs : List ℕ} {rule : Rule} {n : ℕ} → Breaks within bs rule n → IsSome (rule_text_of rule.0)
broken (stray s) = refl
broken (lone_return s) = refl
broken (lone_in_line cs ds s t) = refl
broken (lone_in_comment s t) = refl
broken no_comment = refl
broken (letter_behind ds s t u) = refl
broken (broken_number ds {rule = rule} s t) = number s rule refl
broken (no_literal s t) = refl
broken (literal_escape s) = refl
broken (broken_text {rule = rule} s t) = ending t rule 0 refl
broken (broken_part {rule = rule} s t) = ending t rule 0 refl
broken (unended_text s t) = refl
broken (unended_comment s t u) = refl

next : (here : Cursor) (bs : List ℕ) (within : Bool) (p : Next) (r : Refusal) → Explains within bs p → refusal_of here bs p ≡ Some r →
    Listed r
next here bs within n.End r x h = absurd (cc)
next here bs within (n.Separator count) r x h = absurd (cc)
next here bs within (n.LineEnd count) r x h = absurd (cc)
next here bs within (n.Token kind count) r x h = absurd (cc)
next here bs within (n.Bad rule count) r x h = subst Listed (same_Some _ _ h) (broken x)
next here bs within n.HoleEnd r x h = subst Listed (same_Some _ _ h) refl

pub listed_tokens : (file : ℕ) (bytes : List ℕ) (r : Refusal) → tokens.IsRefused file bytes r → IsSome (rule_text_of r.rule.0)
listed_tokens file bytes r (no_text v h) = subst Listed (sym h) refl
listed_tokens file bytes r (no_piece {there = there} {behind = behind} u cut h) =
    next there behind (in_hole there) (piece_at (in_hole there) behind) r (each_explained (in_hole there) behind) h
