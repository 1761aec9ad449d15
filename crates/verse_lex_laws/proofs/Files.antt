-- The tokens of a file are spelled by their bytes.
use Rattle.std.proofs.Common.{◌≡◌, ℕ, suc, ◌+◌, ◌-◌, Bool, List, [], ◌∷◌, ◌++◌, length, take, drop, refl, sym, ◌∙◌, ap, arith, subst}
use Rattle.std.proofs.Common.{append_assoc, length-append, length-take, take-append-drop}
use Rattle.std.proofs.Math.Seq.{drop-append_seam, take-append_seam}
use Rattle.verse_base.specs.declared.places.Place.{Place}
use Rattle.verse_lex.specs.Pieces.{piece_at}
use Rattle.verse_lex.specs.Contents.{unescaped, between}
use Rattle.verse_lex.specs.Cut.{Cuts, cuts_none, cuts_separator, cuts_line, cuts_token, in_hole, mark_len, first_place, after, next_place}
use Rattle.verse_lex_laws.specs.Spelling as s
use Rattle.verse_lex_laws.specs.Spelling.{Chars, Piece, BeginsWith, Explains, IsSpelled, EachSpelled, TokensSpelled, TextsMean}
use Rattle.verse_lex.specs.declared.tokens.Token.{Token}
use Rattle.verse_lex.specs.declared.pieces.Next.{Next}
use Rattle.verse_lex.specs.declared.pieces.Next.TheVariants as n
use Rattle.verse_lex.specs.declared.cursors.Cursor.{Cursor}
use Rattle.verse_lex_laws.proofs.Runs.{other_byte, drop_end}
use Rattle.verse_lex.proofs.Pushes.{mark_within}
use Rattle.verse_lex_laws.proofs.Spelled.{each_explained}

after-append : (p : Place) (cs ds : List ℕ) → after p (cs ++ ds) ≡ after (after p cs) ds
after-append p [] ds = refl
after-append p (c ∷ cs) ds = after-append (next_place p c) cs ds

-- the bytes of the mark, those up to here, and the place here
record Upto (file : ℕ) (bytes mark : List ℕ) (here : Cursor) (rest : List ℕ) : Type 0 where
  before : List ℕ
  whole : bytes ≡ mark ++ (before ++ rest)
  at : here.at ≡ length mark + length before
  place : here.place ≡ after (first_place file) before

-- a piece on
passed : (file : ℕ) (bytes mark : List ℕ) (here there : Cursor) (rest : List ℕ) (piece : Piece) (within : Bool) (count : ℕ) →
    Upto file bytes mark here rest → BeginsWith within rest piece count →
    there.at ≡ here.at + count → there.place ≡ after here.place (take count rest) → Upto file bytes mark there (drop count rest)
passed file bytes mark here there rest piece within count u b at place =
    let taken : take count rest ≡ b.front = ap (λ i. take i rest) (sym b.len) ∙
    (ap (take (length b.front)) b.whole ∙ take-append_seam b.front b.behind) in
    let dropped : drop count rest ≡ b.behind =
    ap (λ i. drop i rest) (sym b.len) ∙ (ap (drop (length b.front)) b.whole ∙ drop-append_seam b.front b.behind) in
    record {
      before = u.before ++ b.front;
      whole = u.whole ∙ ap (λ x. mark ++ x) (ap (λ x. u.before ++ x) b.whole ∙
          (sym (append_assoc u.before b.front b.behind) ∙ ap (λ x. (u.before ++ b.front) ++ x) (sym dropped)));
      at = omega (arith, at, u.at, b.len, length-append u.before b.front);
      place = place ∙ (ap (after here.place) taken ∙
          (ap (λ p. after p b.front) u.place ∙ sym (after-append (first_place file) u.before b.front)));
    }

begun : (within : Bool) (bs : List ℕ) (x : Next) → piece_at within bs ≡ x → Explains within bs x
begun within bs x h = subst (Explains within bs) h (each_explained within bs)

spelled_along : (file : ℕ) (bytes mark : List ℕ) {here there : Cursor} {bs cs : List ℕ} {ts : List Token} → length mark ≡ mark_len bytes →
    Cuts here bs ts there cs → Upto file bytes mark here bs → EachSpelled file bytes ts
spelled_along file bytes mark marked cuts_none u = tt
spelled_along file bytes mark {here = here} {bs = bs} marked (cuts_separator {count = count} h r) u =
    spelled_along file bytes mark marked r (passed file bytes mark here _ bs s.separates (in_hole here) count u
    (begun (in_hole here) bs (n.Separator count) h) refl refl)
spelled_along file bytes mark {here = here} {bs = bs} marked (cuts_line {count = count} h r) u =
    spelled_along file bytes mark marked r (passed file bytes mark here _ bs s.ends_line (in_hole here) count u
    (begun (in_hole here) bs (n.LineEnd count) h) refl refl)
spelled_along file bytes mark {here = here} {bs = bs} marked (cuts_token {kind = kind} {count = count} h r) u =
    let b : BeginsWith (in_hole here) bs (s.is_token kind) count = begun (in_hole here) bs (n.Token kind count) h in (
      record {
        within = in_hole here;
        mark = mark;
        before = u.before;
        front = b.front;
        behind = b.behind;
        whole = u.whole ∙ ap (λ x. mark ++ (u.before ++ x)) b.whole;
        marked = marked;
        start = u.at;
        stop = omega (arith, u.at, b.len);
        place = u.place;
        spelled = b.spelled;
      },
      spelled_along file bytes mark marked r (passed file bytes mark here _ bs (s.is_token kind) (in_hole here) count u b refl refl),
    )

pub tokens_spelled : TokensSpelled
tokens_spelled file bs ts x =
    let marked : length (take (mark_len bs) bs) ≡ mark_len bs = omega (arith, length-take (mark_len bs) bs, mark_within bs) in
    spelled_along file bs (take (mark_len bs) bs) marked x.cut (record {
      before = [];
      whole = sym (take-append-drop (mark_len bs) bs);
      at = omega (arith, marked);
      place = refl;
    })

-- characters stand for what they are read as
chars_mean : (cs ms : List ℕ) → Chars cs ms → unescaped cs ≡ ms
chars_mean cs ms s.no_chars = refl
chars_mean cs ms (s.plain {b = b} {cs = ds} {ms = os} h r) = rw (other_byte s.is_plain b 92 h refl) (ap (λ x. b ∷ x) (chars_mean ds os r))
chars_mean cs ms (s.escaped {b = b} {c = c} {cs = ds} {ms = os} h r) = rw h (ap (λ x. c ∷ x) (chars_mean ds os r))

pub texts_mean : TextsMean
texts_mean before behind cs ms q r t start stop h =
    let span : t.end - t.start - 2 ≡ length cs = omega (arith, start, stop, length-append cs (r ∷ [])) in
    let inner : drop (t.start + 1) (before ++ ((q ∷ (cs ++ r ∷ [])) ++ behind)) ≡ (cs ++ r ∷ []) ++ behind =
    let e : t.start + 1 ≡ suc (length before) = omega (arith, start) in
    ap (λ i. drop i (before ++ ((q ∷ (cs ++ r ∷ [])) ++ behind))) e ∙ drop_end before q ((cs ++ r ∷ []) ++ behind) in
    let taken : between (before ++ ((q ∷ (cs ++ r ∷ [])) ++ behind)) t.start t.end ≡ cs =
    ap (take (t.end - t.start - 2)) inner ∙ (ap (λ i. take i ((cs ++ r ∷ []) ++ behind)) span ∙
    (ap (take (length cs)) (append_assoc cs (r ∷ []) behind) ∙ take-append_seam cs (r ∷ behind))) in
    ap unescaped taken ∙ chars_mean cs ms h
