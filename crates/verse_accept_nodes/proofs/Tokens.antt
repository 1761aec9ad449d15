-- The tokens of a file stand in it, and their characters and pauses are within the limits of a code.
use Rattle.std.proofs.Common.{◌≡◌, ℕ, ◌+◌, ◌-◌, ◌<◌, ◌≤◌, ◌==◌, ◌||◌, Bool, true, false, if◌then◌else◌, List, [], ◌∷◌, ◌++◌, Option}
use Rattle.std.proofs.Common.{Some, None, refl, sym, ap, ◌∙◌, cond, take, drop, append_assoc, length-append}
use Rattle.std.proofs.lemmas.List.{drop_at}
use Rattle.std.proofs.Math.Seq.{take-append_seam}
use Rattle.std.proofs.Common.{subst, arith, nat_lt, nat_le, not, length}
use Rattle.std.proofs.lemmas.Bool.{leb-true, ltb-false, and_parts}
use Rattle.verse_base.specs.declared.places.Place.{Place}
use Rattle.verse_base.specs.declared.refusals.Rule.{Rule}
use Rattle.verse_lex.specs.Texts.{is_quoted, escape}
use Rattle.verse_lex.specs.Words.{kind_of, name_kind, look_up, is_among, words, left_out}
use Rattle.verse_lex.specs.Numbers.{thousandths}
use Rattle.verse_lex.specs.Cut.{AreTokens, next_place, after, first_place}
use Rattle.verse_lex.specs.declared.numbers.TheConstants.{MOST_DURATION}
use Rattle.verse_lex.specs.declared.rules.TheConstants.{DURATION}
use Rattle.verse_lex.specs.declared.tokens.Word.{Word}
use Rattle.verse_lex.specs.declared.tokens.Word.TheVariants as w
use Rattle.verse_lex.specs.declared.tokens.Token.{Token}
use Rattle.verse_lex.specs.declared.tokens.TokenKind.{TokenKind}
use Rattle.verse_lex.specs.declared.tokens.TokenKind.TheVariants as k
use Rattle.verse_lex_laws.specs.Spelling as s
use Rattle.verse_lex_laws.specs.Spelling.{Literal, Number, duration_rule, is_token, Spells, IsSpelled, EachSpelled}
use Rattle.verse_lex_laws.proofs.Runs.{equal}
use Rattle.verse_lex_laws.proofs.Files.{tokens_spelled}
use Rattle.verse_code.specs.declared.validity.TheConstants.{MOST_PAUSE}
use Rattle.verse_code.specs.Validity.{IsPlace}
use Rattle.lower_bounds.proofs.Lists.{Each}
use Rattle.verse_tree.specs.Tree.{Bytes}
use Rattle.verse_meaning.specs.Programs.{same_name}
use Rattle.verse_meaning.specs.Forms.{this_name}
use Rattle.verse_meaning.proofs.Names.{name_same}
use Rattle.verse_accept_nodes.specs.Laws.{IsNew}

abbrev pub KindFits : TokenKind → Type 0
KindFits (k.Char c) = c ≤ 255
KindFits (k.Dec d) = d ≤ MOST_PAUSE
KindFits kind = Unit {0}

-- a token of a file with these bytes
pub record TokenFits (files : ℕ) (bytes : List ℕ) (t : Token) : Type 0 where
  pub place : IsPlace files t.place
  pub kind : KindFits t.kind
  -- it has bytes, which are some of the file's
  pub some : t.start < t.end
  pub within : t.end ≤ length bytes
  -- a name is not that of `Self`, which is a word
  pub named : t.kind ≡ k.Name → IsNew (take (t.end - t.start) (drop t.start bytes))

-- ---- places

on_line : (files : ℕ) (p : Place) (v : Bool) → IsPlace files p →
    IsPlace files (if v then record { file = p.file; line = p.line + 1; col = 1 }
    else record { file = p.file; line = p.line; col = p.col + 1 })
on_line files p true h = record { file = h.file; line = (let l = h.line in omega arith); col = omega arith }
on_line files p false h = record { file = h.file; line = h.line; col = (let c = h.col in omega arith) }

stands_after : (files : ℕ) (p : Place) (bs : List ℕ) → IsPlace files p → IsPlace files (after p bs)
stands_after files p [] h = h
stands_after files p (b ∷ bs) h = stands_after files (next_place p b) bs (on_line files p (b == 10) h)

pub stands_behind : (files file : ℕ) (bs : List ℕ) → file < files → IsPlace files (after (first_place file) bs)
stands_behind files file bs h =
    stands_after files (first_place file) bs (record { file = h; line = omega arith; col = omega arith })

-- ---- characters

or_byte : (b c : ℕ) (w : Bool) → c ≤ 255 → (w ≡ true → b ≤ 255) → (w || (b == c)) ≡ true → b ≤ 255
or_byte b c true low more h = more refl
or_byte b c false low more h = subst (λ x. x ≤ 255) (sym (equal b c h)) low

quoted_low : (b : ℕ) → is_quoted b ≡ true → b ≤ 255
quoted_low b h =
    or_byte b 126 _ (omega arith) (λ h1. or_byte b 35 _ (omega arith) (λ h2. or_byte b 38 _ (omega arith) (λ h3.
    or_byte b 62 _ (omega arith) (λ h4. or_byte b 60 _ (omega arith) (λ h5. or_byte b 125 _ (omega arith) (λ h6.
    or_byte b 123 _ (omega arith) (λ h7. or_byte b 39 _ (omega arith) (λ h8. or_byte b 34 _ (omega arith)
    (λ h9. subst (λ x. x ≤ 255) (sym (equal b 92 h9)) (omega arith)) h8) h7) h6) h5) h4) h3) h2) h1) h

low_or : (v : Bool) (n c : ℕ) (o : Option ℕ) → n ≤ 255 → (o ≡ Some c → c ≤ 255) → (if v then Some n else o) ≡ Some c → c ≤ 255
low_or true n c o low more h = let e : n ≡ c = cc in subst (λ x. x ≤ 255) e low
low_or false n c o low more h = more h

quoted_or : (b c : ℕ) (v : Bool) → is_quoted b ≡ v → (if v then Some b else None) ≡ Some c → c ≤ 255
quoted_or b c true e h = let g : b ≡ c = cc in subst (λ x. x ≤ 255) g (quoted_low b e)
quoted_or b c false e h = absurd (cc)

escape_low : (b c : ℕ) → escape b ≡ Some c → c ≤ 255
escape_low b c h =
    low_or (b == 110) 10 c _ (omega arith) (λ h1. low_or (b == 114) 13 c _ (omega arith) (λ h2.
    low_or (b == 116) 9 c _ (omega arith) (λ h3. quoted_or b c (is_quoted b) refl h3) h2) h1) h

literal_low : {cs : List ℕ} {c : ℕ} → Literal cs c → c ≤ 255
literal_low (s.literal_plain {b = b} h e) =
    let low : b ≤ 126 = leb-true b 126 (and_parts (nat_le b 126) (not (b == 39)) (and_parts (nat_le 32 b) _ h).1).0 in omega arith
literal_low (s.literal_escaped {b = b} {c = c} h) = escape_low b c h

-- ---- pauses

within_duration : (n : ℕ) (v w : Bool) → nat_lt MOST_DURATION n ≡ w → (if v || w then Some DURATION else None) ≡ None → n ≤ MOST_PAUSE
within_duration n true w e h = absurd (cc)
within_duration n false true e h = absurd (cc)
within_duration n false false e h = ltb-false MOST_DURATION n e

number_fits : {cs : List ℕ} {kind : TokenKind} {rule : Option Rule} → Number cs kind rule → rule ≡ None → KindFits kind
number_fits (s.digits d ds h g) e = tt
number_fits (s.hex_digits d ds h g) e = tt
number_fits (s.fraction c d cs ds h g i j) e =
    within_duration (thousandths (c ∷ cs) (d ∷ ds)) (nat_lt 3 (length (d ∷ ds))) _ refl e

word_fits : (o : Option Word) (v : Bool) → KindFits (kind_of o v)
word_fits (Some w) v = tt
word_fits None true = tt
word_fits None false = tt

spelled_fits : {within : Bool} {cs : List ℕ} {kind : TokenKind} → Spells within cs (is_token kind) → KindFits kind
spelled_fits (s.name {b = b} {cs = cs} h g) = word_fits (look_up words (b ∷ cs)) (is_among left_out (b ∷ cs))
spelled_fits (s.number d) = number_fits d refl
spelled_fits (s.literal d) = literal_low d
spelled_fits (s.text d) = tt
spelled_fits (s.text_open d) = tt
spelled_fits (s.text_mid d) = tt
spelled_fits (s.text_close d) = tt
spelled_fits (s.double h) = tt
spelled_fits (s.single h) = tt
spelled_fits (s.single_in_hole h e f) = tt

-- ---- names

both_true : (v w : Bool) → cond v w false ≡ true → (v ≡ true) × (w ≡ true)
both_true true w h = (refl, h)
both_true false w h = absurd (cc)

-- what is spelled as `Self` is is a word
not_this : (cs : Bytes) (v : Bool) → same_name this_name cs ≡ v → name_kind cs ≡ k.Name → v ≡ false
not_this cs false e f = refl
not_this cs true e f =
    let same = name_same this_name cs e in
    let word : k.Word w.This ≡ k.Name = subst (λ x. name_kind x ≡ k.Name) (sym same) f in
    absurd (cc)

number_no_name : {cs : List ℕ} {kind : TokenKind} {rule : Option Rule} → Number cs kind rule → kind ≡ k.Name → ⊥
number_no_name (s.digits d ds h g) e = cc
number_no_name (s.hex_digits d ds h g) e = cc
number_no_name (s.fraction c d cs ds h g i j) e = cc

spelled_new : {within : Bool} {cs : List ℕ} {kind : TokenKind} → Spells within cs (is_token kind) → kind ≡ k.Name → IsNew cs
spelled_new (s.name {b = b} {cs = cs} h g) e = not_this (b ∷ cs) (same_name this_name (b ∷ cs)) refl e
spelled_new (s.number d) e = absurd (number_no_name d e)
spelled_new (s.literal d) e = cc
spelled_new (s.text d) e = cc
spelled_new (s.text_open d) e = cc
spelled_new (s.text_mid d) e = cc
spelled_new (s.text_close d) e = cc
spelled_new (s.double h) e = cc
spelled_new (s.single h) e = cc
spelled_new (s.single_in_hole h f g) e = cc

-- the bytes of the span of a token
spanned : (file : ℕ) (bs : List ℕ) (t : Token) (d : IsSpelled file bs t) → take (t.end - t.start) (drop t.start bs) ≡ d.front
spanned file bs t d =
    let ahead = d.mark ++ d.before in
    let begins : length ahead ≡ t.start = length-append d.mark d.before ∙ sym d.start in
    let long : t.end - t.start ≡ length d.front = omega (arith, d.start, d.stop) in
    let rest : drop t.start bs ≡ d.front ++ d.behind =
    ap (λ l. drop t.start l) (d.whole ∙ sym (append_assoc d.mark d.before (d.front ++ d.behind)))
    ∙ drop_at ahead (d.front ++ d.behind) t.start begins in
    ap (λ n. take n (drop t.start bs)) long ∙ ap (λ l. take (length d.front) l) rest ∙ take-append_seam d.front d.behind

number_some : {cs : List ℕ} {kind : TokenKind} {rule : Option Rule} → Number cs kind rule → 0 < length cs
number_some (s.digits d ds h g) = omega arith
number_some (s.hex_digits d ds h g) = omega arith
number_some (s.fraction c d cs ds h g i j) = omega arith

literal_some : {cs : List ℕ} {c : ℕ} → Literal cs c → 0 < length cs
literal_some (s.literal_plain h e) = omega arith
literal_some (s.literal_escaped h) = omega arith

spelled_some : {within : Bool} {cs : List ℕ} {kind : TokenKind} → Spells within cs (is_token kind) → 0 < length cs
spelled_some (s.name h g) = omega arith
spelled_some (s.number d) = number_some d
spelled_some (s.literal d) = literal_some d
spelled_some (s.text d) = omega arith
spelled_some (s.text_open d) = omega arith
spelled_some (s.text_mid d) = omega arith
spelled_some (s.text_close d) = omega arith
spelled_some (s.double h) = omega arith
spelled_some (s.single h) = omega arith
spelled_some (s.single_in_hole h e f) = omega arith

-- the span of a token lies in the file
span_within : (file : ℕ) (bs : List ℕ) (t : Token) → IsSpelled file bs t → t.end ≤ length bs
span_within file bs t d =
    let whole : length bs ≡ length d.mark + (length d.before + (length d.front + length d.behind)) =
    ap length d.whole ∙ length-append d.mark (d.before ++ (d.front ++ d.behind))
    ∙ ap (λ n. length d.mark + n) (length-append d.before (d.front ++ d.behind)
    ∙ ap (λ n. length d.before + n) (length-append d.front d.behind)) in
    omega (arith, whole, d.stop)

-- ---- tokens

each_fits : (files file : ℕ) (bs : List ℕ) (ts : List Token) → file < files → EachSpelled file bs ts → Each (TokenFits files bs) ts
each_fits files file bs [] h d = tt
each_fits files file bs (t ∷ ts) h d = (
  record {
    place = subst (IsPlace files) (sym d.0.place) (stands_behind files file d.0.before h);
    kind = spelled_fits d.0.spelled;
    some = omega (arith, d.0.start, d.0.stop, spelled_some d.0.spelled);
    within = span_within file bs t d.0;
    named = λ e. subst IsNew (sym (spanned file bs t d.0)) (spelled_new d.0.spelled e);
  },
  each_fits files file bs ts h d.1,
)

pub tokens_fit : (files file : ℕ) (bs : List ℕ) (ts : List Token) → file < files → AreTokens file bs ts →
    Each (TokenFits files bs) ts
tokens_fit files file bs ts h a = each_fits files file bs ts h (tokens_spelled file bs ts a)
