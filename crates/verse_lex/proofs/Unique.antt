-- At most one cut goes as far as it can.
use Rattle.std.proofs.Common.{◌≡◌, ℕ, ◌<◌, ◌⊎◌, inl, inr, Bool, true, false, List, [], ◌∷◌, length, drop, Some, None, refl, sym, ◌∙◌, subst}
use Rattle.std.proofs.Common.{ap}
use Rattle.std.proofs.Math.Seq.{take-length}
use Rattle.std.proofs.lemmas.Bool.{cases_order}
use Rattle.std.specs.Str.{IsUtf8, IsValidUpTo}
use Rattle.verse_base.specs.declared.refusals.Refusal.{Refusal}
use Rattle.verse_lex.specs.Pieces.{piece_at}
use Rattle.verse_lex.specs.Cut.{Cuts, cuts_none, cuts_separator, cuts_line, cuts_token, in_hole, past, past_line, past_token, token}
use Rattle.verse_lex.specs.Cut.{place_at, refusal_of, no_text, no_piece, OneCut, OneRefusal, CutOrRefused}
use Rattle.verse_lex.specs.declared.tokens.TokenKind.{TokenKind}
use Rattle.verse_lex.specs.declared.tokens.Token.{Token}
use Rattle.verse_lex.specs.declared.pieces.Next.{Next}
use Rattle.verse_lex.specs.declared.pieces.Next.TheVariants as n
use Rattle.verse_lex.specs.declared.rules.TheConstants.{NOT_UTF8}
use Rattle.verse_lex.specs.declared.cursors.Cursor.{Cursor}

abbrev goes_on : Next → Bool
goes_on n.End = false
goes_on (n.Separator count) = true
goes_on (n.LineEnd count) = true
goes_on (n.Token kind count) = true
goes_on (n.Bad rule count) = false
goes_on n.HoleEnd = false

-- what a cut begins with
data Begins (here : Cursor) (bs : List ℕ) (ts : List Token) (there : Cursor) (cs : List ℕ) : Type 0 where
  nothing : ts ≡ [] → here ≡ there → bs ≡ cs → Begins here bs ts there cs
  a_separator : (count : ℕ) → piece_at (in_hole here) bs ≡ n.Separator count → Cuts (past here count bs) (drop count bs) ts there cs →
      Begins here bs ts there cs
  a_line : (count : ℕ) → piece_at (in_hole here) bs ≡ n.LineEnd count → Cuts (past_line here count bs) (drop count bs) ts there cs →
      Begins here bs ts there cs
  a_token : (kind : TokenKind) (count : ℕ) (us : List Token) → piece_at (in_hole here) bs ≡ n.Token kind count →
      ts ≡ token here kind count ∷ us →
      Cuts (past_token here kind count bs) (drop count bs) us there cs → Begins here bs ts there cs

begins : {here there : Cursor} {bs cs : List ℕ} {ts : List Token} → Cuts here bs ts there cs → Begins here bs ts there cs
begins cuts_none = nothing refl refl refl
begins (cuts_separator {count = count} h r) = a_separator count h r
begins (cuts_line {count = count} h r) = a_line count h r
begins (cuts_token {ts = us} {kind = kind} {count = count} h r) = a_token kind count us h refl r

record Same (ts us : List Token) (b c : Cursor) (bs cs : List ℕ) : Type 0 where
  tokens : ts ≡ us
  there : b ≡ c
  behind : bs ≡ cs

-- no piece goes on here
abbrev Stuck : Cursor → List ℕ → Type 0
Stuck here bs = goes_on (piece_at (in_hole here) bs) ≡ false

separates : (p : Next) (count : ℕ) → p ≡ n.Separator count → goes_on p ≡ false → ⊥
separates p count h s = let e : true ≡ false = rw h at s in cc

ends_line : (p : Next) (count : ℕ) → p ≡ n.LineEnd count → goes_on p ≡ false → ⊥
ends_line p count h s = let e : true ≡ false = rw h at s in cc

is_token : (p : Next) (kind : TokenKind) (count : ℕ) → p ≡ n.Token kind count → goes_on p ≡ false → ⊥
is_token p kind count h s = let e : true ≡ false = rw h at s in cc

end_case : {a c : Cursor} {xs cs : List ℕ} {us : List Token} → Stuck a xs → Begins a xs us c cs → Same [] us a c xs cs
end_case s (nothing e f g) = record { tokens = sym e; there = f; behind = g }
end_case s (a_separator count h r) = absurd (separates _ count h s)
end_case s (a_line count h r) = absurd (ends_line _ count h s)
end_case s (a_token kind count us h e r) = absurd (is_token _ kind count h s)

separator_case : {a b c : Cursor} {xs bs cs : List ℕ} {ts us : List Token} (count : ℕ) → piece_at (in_hole a) xs ≡ n.Separator count →
    Stuck c cs →
    ((vs : List Token) → Cuts (past a count xs) (drop count xs) vs c cs → Same ts vs b c bs cs) → Begins a xs us c cs → Same ts us b c bs cs
separator_case {a = a} {xs = xs} count h s more (nothing e f g) = absurd (separates _ count h (rw (f, g) s))
separator_case {a = a} {c = c} {xs = xs} {cs = cs} {us = us} count h s more (a_separator other i r) =
    let same : other ≡ count = cc in more us (subst (λ k. Cuts (past a k xs) (drop k xs) us c cs) same r)
separator_case count h s more (a_line other i r) = absurd (cc)
separator_case count h s more (a_token kind other vs i e r) = absurd (cc)

line_case : {a b c : Cursor} {xs bs cs : List ℕ} {ts us : List Token} (count : ℕ) → piece_at (in_hole a) xs ≡ n.LineEnd count → Stuck c cs →
    ((vs : List Token) → Cuts (past_line a count xs) (drop count xs) vs c cs → Same ts vs b c bs cs) → Begins a xs us c cs →
    Same ts us b c bs cs
line_case {a = a} {xs = xs} count h s more (nothing e f g) = absurd (ends_line _ count h (rw (f, g) s))
line_case count h s more (a_separator other i r) = absurd (cc)
line_case {a = a} {c = c} {xs = xs} {cs = cs} {us = us} count h s more (a_line other i r) =
    let same : other ≡ count = cc in more us (subst (λ k. Cuts (past_line a k xs) (drop k xs) us c cs) same r)
line_case count h s more (a_token kind other vs i e r) = absurd (cc)

token_case : {a b c : Cursor} {xs bs cs : List ℕ} {ts us : List Token} (kind : TokenKind) (count : ℕ) →
    piece_at (in_hole a) xs ≡ n.Token kind count → Stuck c cs →
    ((vs : List Token) → Cuts (past_token a kind count xs) (drop count xs) vs c cs → Same ts vs b c bs cs) → Begins a xs us c cs →
    Same (token a kind count ∷ ts) us b c bs cs
token_case kind count h s more (nothing e f g) = absurd (is_token _ kind count h (rw (f, g) s))
token_case kind count h s more (a_separator other i r) = absurd (cc)
token_case kind count h s more (a_line other i r) = absurd (cc)
token_case {a = a} {c = c} {xs = xs} {cs = cs} kind count h s more (a_token sort other vs i e r) =
    let same : other ≡ count = cc in
    let alike : sort ≡ kind = cc in
    let all = more vs (subst (λ k. Cuts (past_token a kind k xs) (drop k xs) vs c cs) same
    (subst (λ k. Cuts (past_token a k other xs) (drop other xs) vs c cs) alike r)) in
    record { tokens = rw (e, same, alike, all.tokens) refl; there = all.there; behind = all.behind }

same : {a b c : Cursor} {xs bs cs : List ℕ} {ts us : List Token} → Cuts a xs ts b bs → Stuck b bs → Cuts a xs us c cs → Stuck c cs →
    Same ts us b c bs cs
same cuts_none s q t = end_case s (begins q)
same (cuts_separator {count = count} h r) s q t = separator_case count h t (λ vs p. same r s p t) (begins q)
same (cuts_line {count = count} h r) s q t = line_case count h t (λ vs p. same r s p t) (begins q)
same (cuts_token {kind = kind} {count = count} h r) s q t = token_case kind count h t (λ vs p. same r s p t) (begins q)

ends : (p : Next) → p ≡ n.End → goes_on p ≡ false
ends p h = rw h refl

breaks : (here : Cursor) (bs : List ℕ) (p : Next) (r : Refusal) → refusal_of here bs p ≡ Some r → goes_on p ≡ false
breaks here bs n.End r h = refl
breaks here bs (n.Separator count) r h = absurd (cc)
breaks here bs (n.LineEnd count) r h = absurd (cc)
breaks here bs (n.Token kind count) r h = absurd (cc)
breaks here bs (n.Bad rule count) r h = refl
breaks here bs n.HoleEnd r h = refl

pub one_cut : OneCut
one_cut file bs ts us x y = (same x.cut (ends _ x.ended) y.cut (ends _ y.ended)).tokens

refusal_is : {r s : Refusal} → Some r ≡ Some s → r ≡ s
refusal_is e = cc

-- bytes that stop being UTF-8 are not UTF-8
malformed : (bs : List ℕ) (m : ℕ) → IsValidUpTo bs m → IsUtf8 bs → ⊥
malformed bs m v u = v.longest (length bs) v.short (subst IsUtf8 (sym (take-length bs)) u)

same_offset : (bs : List ℕ) (m k : ℕ) → IsValidUpTo bs m → IsValidUpTo bs k → m ≡ k
same_offset bs m k v w = by_order (cases_order m k)
  where
    by_order : (m ≡ k) ⊎ ((m < k) ⊎ (k < m)) → m ≡ k
    by_order (inl h) = h
    by_order (inr (inl h)) = absurd (v.longest k h w.front)
    by_order (inr (inr h)) = absurd (w.longest m h v.front)

pub one_refusal : OneRefusal
one_refusal file bs r s (no_text {offset = m} v e) (no_text {offset = k} w f) =
    e ∙ ap (λ i. record { rule = NOT_UTF8; place = place_at file bs i }) (same_offset bs m k v w) ∙ sym f
one_refusal file bs r s (no_text {offset = m} v e) (no_piece u cut broken) = absurd (malformed bs m v u)
one_refusal file bs r s (no_piece u cut broken) (no_text {offset = m} v e) = absurd (malformed bs m v u)
one_refusal file bs r s (no_piece {there = a} {behind = xs} u cut broken) (no_piece {there = b} {behind = ys} w tuc nekorb) =
    let all = same cut (breaks a xs _ r broken) tuc (breaks b ys _ s nekorb) in
    refusal_is (sym broken ∙ (rw (all.there, all.behind) nekorb))

pub cut_or_refused : CutOrRefused
cut_or_refused file bs ts r x (no_text {offset = m} v e) = malformed bs m v x.text
cut_or_refused file bs ts r x (no_piece {there = b} {behind = ys} w cut broken) =
    let all = same x.cut (ends _ x.ended) cut (breaks b ys _ r broken) in
    let e : piece_at (in_hole b) ys ≡ n.End = rw (all.there, all.behind) at x.ended in
    let g : None ≡ Some r = rw e at broken in
    cc
