-- Runs, texts and comments by their parts.
use Rattle.std.proofs.Common.{◌≡◌, ℕ, zero, suc, ◌+◌, ◌==◌, ◌&&◌, Bool, true, false, List, [], ◌∷◌, ◌++◌, Option, Some, None, length, take}
use Rattle.std.proofs.Common.{drop, if◌then◌else◌, refl, sym, ◌∙◌, ap, arith, subst, append_assoc, zero-add, append-nil, length-append, not}
use Rattle.std.proofs.Math.Nat.{suc-add}
use Rattle.std.specs.Prelude.{slice_get}
use Rattle.std.proofs.lemmas.List.Sums.{take_while-cons}
use Rattle.std.proofs.lemmas.Bool.{and_parts}
use Rattle.std.proofs.Math.Seq.{drop-append_seam, take-append_seam}
use Rattle.verse_lex.specs.Bytes.{is_at, passes, run}
use Rattle.verse_lex.specs.Texts.{escape, text_chars, behind_backslash, if_escape, further}
use Rattle.verse_lex.specs.Comments.{closing, beyond, closes, opens, is_lone}
use Rattle.verse_lex.specs.Pieces.{is_lone_at}
use Rattle.verse_lex_laws.specs.Spelling as s
use Rattle.verse_lex_laws.specs.Spelling.{all_pass, is_plain, Body, Chars, Literal, Number, Piece, Spells, Stops, NoBody, NoLiteral}
use Rattle.verse_lex_laws.specs.Spelling.{LongestNumber, MeetsLone, IsStray, Breaks, Unended, BeginsWith, Explains, EachExplained}
use Rattle.verse_lex.specs.declared.rules.TheConstants.{UNEXPECTED, ESCAPE}
use Rattle.verse_lex.specs.declared.texts.Ending.{Ending}
use Rattle.verse_lex.specs.declared.texts.Ending.TheVariants as e
use Rattle.verse_lex.specs.declared.comments.Close.{Close}
use Rattle.verse_lex.specs.declared.comments.Close.TheVariants as close
use Rattle.verse_lex_laws.proofs.Runs.{equal}
use Rattle.verse_lex_laws.proofs.Longest.{body_closes}

-- a run of bytes that pass, and what stands behind it
pub record Run (p : ℕ → Bool) (bs : List ℕ) : Type 0 where
  pub front : List ℕ
  pub behind : List ℕ
  pub whole : bs ≡ front ++ behind
  pub all : all_pass p front ≡ true
  pub count : run p bs ≡ length front
  pub stops : passes p (slice_get behind 0) ≡ false

pub run_more : (p : ℕ → Bool) (b : ℕ) (bs : List ℕ) → p b ≡ true → run p (b ∷ bs) ≡ suc (run p bs)
run_more p b bs h = rw (take_while-cons p b bs, h) refl

run_none : (p : ℕ → Bool) (b : ℕ) (bs : List ℕ) → p b ≡ false → run p (b ∷ bs) ≡ 0
run_none p b bs h = rw (take_while-cons p b bs, h) refl

run_case : (p : ℕ → Bool) (b : ℕ) (bs : List ℕ) (v : Bool) → p b ≡ v → Run p bs → Run p (b ∷ bs)
run_case p b bs true h r = record {
  front = b ∷ r.front;
  behind = r.behind;
  whole = ap (λ x. b ∷ x) r.whole;
  all = rw (h, r.all) refl;
  count = run_more p b bs h ∙ ap suc r.count;
  stops = r.stops;
}
run_case p b bs false h r = record { front = []; behind = b ∷ bs; whole = refl; all = refl; count = run_none p b bs h; stops = h }

pub run_parts : (p : ℕ → Bool) (bs : List ℕ) → Run p bs
run_parts p [] = record { front = []; behind = []; whole = refl; all = refl; count = refl; stops = refl }
run_parts p (b ∷ bs) = run_case p b bs (p b) refl (run_parts p bs)

pub get_behind : (cs ds : List ℕ) (i : ℕ) → slice_get (cs ++ ds) (length cs + i) ≡ slice_get ds i
get_behind [] ds i = rw zero-add refl
get_behind (c ∷ cs) ds i = rw suc-add (get_behind cs ds i)

-- what the run takes
pub run_take : (p : ℕ → Bool) (bs : List ℕ) (r : Run p bs) → take (run p bs) bs ≡ r.front
run_take p bs r = ap (λ i. take i bs) r.count ∙ (ap (take (length r.front)) r.whole ∙ take-append_seam r.front r.behind)

pub run_drop : (p : ℕ → Bool) (bs : List ℕ) (r : Run p bs) → drop (run p bs) bs ≡ r.behind
run_drop p bs r = ap (λ i. drop i bs) r.count ∙ (ap (drop (length r.front)) r.whole ∙ drop-append_seam r.front r.behind)

-- the characters of a text, and how they end
pub record Parts (bs : List ℕ) (x : Ending) : Type 0 where
  pub cs : List ℕ
  pub ms : List ℕ
  pub ds : List ℕ
  pub ending : Ending
  pub chars : Chars cs ms
  pub whole : bs ≡ cs ++ ds
  pub stops : Stops ds ending
  pub is : x ≡ further (length cs) ending

parts_here : (bs : List ℕ) (x : Ending) → Stops bs x → x ≡ further 0 x → Parts bs x
parts_here bs x h e = record { cs = []; ms = []; ds = bs; ending = x; chars = s.no_chars; whole = refl; stops = h; is = e }

further_one : (i : ℕ) (x : Ending) → further 1 (further i x) ≡ further (suc i) x
further_one i (e.Quote j) = ap e.Quote (omega arith)
further_one i (e.Brace j) = ap e.Brace (omega arith)
further_one i (e.Broken rule j) = ap (e.Broken rule) (omega arith)
further_one i e.Line = refl

further_two : (i : ℕ) (x : Ending) → further 2 (further i x) ≡ further (suc (suc i)) x
further_two i (e.Quote j) = ap e.Quote (omega arith)
further_two i (e.Brace j) = ap e.Brace (omega arith)
further_two i (e.Broken rule j) = ap (e.Broken rule) (omega arith)
further_two i e.Line = refl

parts_plain : (b : ℕ) (bs : List ℕ) (x : Ending) → is_plain b ≡ true → Parts bs x → Parts (b ∷ bs) (further 1 x)
parts_plain b bs x h p = record {
  cs = b ∷ p.cs;
  ms = b ∷ p.ms;
  ds = p.ds;
  ending = p.ending;
  chars = s.plain h p.chars;
  whole = ap (λ y. b ∷ y) p.whole;
  stops = p.stops;
  is = ap (further 1) p.is ∙ further_one (length p.cs) p.ending;
}

parts_escaped : (b c : ℕ) (bs : List ℕ) (x : Ending) → escape b ≡ Some c → Parts bs x → Parts (92 ∷ b ∷ bs) (further 2 x)
parts_escaped b c bs x h p = record {
  cs = 92 ∷ b ∷ p.cs;
  ms = c ∷ p.ms;
  ds = p.ds;
  ending = p.ending;
  chars = s.escaped h p.chars;
  whole = ap (λ y. 92 ∷ b ∷ y) p.whole;
  stops = p.stops;
  is = ap (further 2) p.is ∙ further_two (length p.cs) p.ending;
}

if_parts : (bs : List ℕ) (v : Bool) (x y : Ending) → (v ≡ true → Parts bs x) → (v ≡ false → Parts bs y) → Parts bs (if v then x else y)
if_parts bs true x y h g = h refl
if_parts bs false x y h g = g refl

-- at a carriage return
parts_return : (bs : List ℕ) (v : Bool) → is_at bs 0 10 ≡ v → Parts (13 ∷ bs) (if v then e.Line else e.Broken UNEXPECTED 0)
parts_return [] true h = absurd (cc)
parts_return (b ∷ bs) true h =
    let same : b ≡ 10 = equal b 10 h in
    parts_here (13 ∷ b ∷ bs) e.Line (subst (λ x. Stops (13 ∷ x ∷ bs) e.Line) (sym same) s.return_end) refl
parts_return bs false h = parts_here (13 ∷ bs) (e.Broken UNEXPECTED 0) (s.lone (rw h refl)) refl

parts_escape : (b : ℕ) (bs : List ℕ) (x : Ending) (o : Option ℕ) → escape b ≡ o → Parts bs x →
    Parts (92 ∷ b ∷ bs) (if_escape o (further 2 x))
parts_escape b bs x (Some c) h p = parts_escaped b c bs x h p
parts_escape b bs x None h p = parts_here (92 ∷ b ∷ bs) (e.Broken ESCAPE 0) (s.no_escape h) refl

at_byte : (b c : ℕ) (bs : List ℕ) (x : Ending) → (b == c) ≡ true → Parts (c ∷ bs) x → Parts (b ∷ bs) x
at_byte b c bs x h p = subst (λ y. Parts (y ∷ bs) x) (sym (equal b c h)) p

mutual
  pub text_parts : (bs : List ℕ) → Parts bs (text_chars bs)
  text_parts [] = parts_here [] e.Line s.file_end refl
  text_parts (b ∷ bs) =
      let more = text_parts bs in
      let behind = escape_parts bs in
      if_parts (b ∷ bs) (b == 34) _ _ (λ t. at_byte b 34 bs (e.Quote 1) t (parts_here (34 ∷ bs) (e.Quote 1) s.quote refl)) (λ t1.
      if_parts (b ∷ bs) (b == 123) _ _ (λ t. at_byte b 123 bs (e.Brace 1) t (parts_here (123 ∷ bs) (e.Brace 1) s.hole refl)) (λ t2.
      if_parts (b ∷ bs) (b == 125) _ _ (λ t. at_byte b 125 bs (e.Broken UNEXPECTED 0) t
      (parts_here (125 ∷ bs) (e.Broken UNEXPECTED 0) s.brace refl)) (λ t3.
      if_parts (b ∷ bs) (b == 10) _ _ (λ t. at_byte b 10 bs e.Line t (parts_here (10 ∷ bs) e.Line s.line_end refl)) (λ t4.
      if_parts (b ∷ bs) (b == 13) _ _ (λ t. at_byte b 13 bs (if is_at bs 0 10 then e.Line else e.Broken UNEXPECTED 0) t
      (parts_return bs (is_at bs 0 10) refl)) (λ t5.
      if_parts (b ∷ bs) (b == 92) _ _ (λ t. at_byte b 92 bs (behind_backslash bs) t behind) (λ t6.
      parts_plain b bs (text_chars bs) (rw (t1, t2, t3, t4, t5, t6) refl) more))))))

  escape_parts : (bs : List ℕ) → Parts (92 ∷ bs) (behind_backslash bs)
  escape_parts [] = parts_here (92 ∷ []) (e.Broken ESCAPE 0) (s.no_escape refl) refl
  escape_parts (b ∷ bs) = parts_escape b bs (text_chars bs) (escape b) refl (text_parts bs)

-- so many bodies of comments, one behind the other
data Bodies : ℕ → List ℕ → Type 0 where
  no_bodies : Bodies zero []
  one_body : {depth : ℕ} {cs ds : List ℕ} → Body cs → Bodies depth ds → Bodies (suc depth) (cs ++ ds)

record Front (depth : ℕ) (bs : List ℕ) (count : ℕ) : Type 0 where
  front : List ℕ
  behind : List ℕ
  whole : bs ≡ front ++ behind
  len : length front ≡ count
  bodies : Bodies depth front

-- some of so many comments that are open are closed, and in the next one stands a carriage return alone
data Lones : ℕ → List ℕ → ℕ → Type 0 where
  lone_now : {depth : ℕ} {bs : List ℕ} {count : ℕ} → MeetsLone bs count → Lones (suc depth) bs count
  lone_later : {depth : ℕ} {cs ds : List ℕ} {count : ℕ} → Body cs → Lones depth ds count → Lones (suc depth) (cs ++ ds) (length cs + count)

-- what closes the comments that are open, by how it does
abbrev Closing : ℕ → List ℕ → Close → Type 0
Closing depth bs (close.Closed count) = Front depth bs count
Closing depth bs (close.Lone count) = Lones depth bs count
Closing depth bs close.Never = Unit {0}

if_closing : (depth : ℕ) (bs : List ℕ) (v : Bool) (x y : Close) → (v ≡ true → Closing depth bs x) → (v ≡ false → Closing depth bs y) →
    Closing depth bs (if v then x else y)
if_closing depth bs true x y h g = h refl
if_closing depth bs false x y h g = g refl

closed_end : (depth : ℕ) (bs : List ℕ) (x : Close) → Closing depth bs x → Closing (suc depth) (35 ∷ 62 ∷ bs) (beyond 2 x)
closed_end depth bs (close.Closed count) f =
    record {
      front = 35 ∷ 62 ∷ f.front;
      behind = f.behind;
      whole = ap (λ y. 35 ∷ 62 ∷ y) f.whole;
      len = omega (arith, f.len);
      bodies =
          one_body s.ends f.bodies;
    }
closed_end depth bs (close.Lone count) f = lone_later s.ends f
closed_end depth bs close.Never f = tt

open_bodies : {depth : ℕ} {fs : List ℕ} → Bodies (suc (suc depth)) fs → Bodies (suc depth) (60 ∷ 35 ∷ fs)
open_bodies {depth = depth} (one_body {cs = cs} r (one_body {cs = ds} {ds = es} q rest)) =
    subst (Bodies (suc depth)) (ap (λ y. 60 ∷ 35 ∷ y) (append_assoc cs ds es)) (one_body (s.nested r q) rest)

same_count : {depth : ℕ} {bs : List ℕ} (i j : ℕ) → i ≡ j → Lones depth bs i → Lones depth bs j
same_count {depth = depth} {bs = bs} i j e l = subst (Lones depth bs) e l

open_lones : {depth : ℕ} {bs : List ℕ} {count : ℕ} → Lones (suc (suc depth)) bs count → Lones (suc depth) (60 ∷ 35 ∷ bs) (2 + count)
open_lones (lone_now m) = lone_now (s.in_nested m)
open_lones {depth = depth} (lone_later {cs = cs} r (lone_now {count = count} m)) =
    same_count _ _ (omega arith) (lone_now (s.past_nested r m))
open_lones {depth = depth} (lone_later {cs = cs} r (lone_later {cs = ds} {ds = es} {count = count} q l)) =
    let there = lone_later (s.nested r q) l in
    same_count _ _ (omega (arith, length-append cs ds))
    (subst (λ y. Lones (suc depth) y (length (60 ∷ 35 ∷ (cs ++ ds)) + count)) (ap (λ y. 60 ∷ 35 ∷ y) (append_assoc cs ds es)) there)

opened : (depth : ℕ) (bs : List ℕ) (x : Close) → Closing (suc (suc depth)) bs x → Closing (suc depth) (60 ∷ 35 ∷ bs) (beyond 2 x)
opened depth bs (close.Closed count) f = record {
  front = 60 ∷ 35 ∷ f.front;
  behind = f.behind;
  whole = ap (λ y. 60 ∷ 35 ∷ y) f.whole;
  len =
      omega (arith, f.len);
  bodies = open_bodies f.bodies;
}
opened depth bs (close.Lone count) f = open_lones f
opened depth bs close.Never f = tt

-- no comment begins or ends with these two bytes
record IsInside (b c : ℕ) : Type 0 where
  closed : closes b c ≡ false
  open_none : opens b c ≡ false
  lone : is_lone b c ≡ false

with_byte : (b c d : ℕ) (cs : List ℕ) → d ≡ c → IsInside b d → Body (c ∷ cs) → Body (b ∷ c ∷ cs)
with_byte b c d cs e h r = let i = subst (IsInside b) e h in s.more i.closed i.open_none i.lone r

head_is : (b c : ℕ) (bs cs : List ℕ) → b ∷ bs ≡ c ∷ cs → b ≡ c
head_is b c bs cs h = cc

body_more : (b c : ℕ) (bs cs es : List ℕ) → c ∷ bs ≡ cs ++ es → IsInside b c → Body cs → Body (b ∷ cs)
body_more b c bs cs es e h s.ends = with_byte b 35 c (62 ∷ []) (head_is c 35 bs (62 ∷ es) e) h s.ends
body_more b c bs cs es e h (s.nested {cs = xs} {ds = ys} r q) =
    with_byte b 60 c (35 ∷ (xs ++ ys)) (head_is c 60 bs (35 ∷ ((xs ++ ys) ++ es)) e) h (s.nested r q)
body_more b c bs cs es e h (s.more {b = x} {c = y} {cs = xs} f g l r) =
    with_byte b x c (y ∷ xs) (head_is c x bs (y ∷ (xs ++ es)) e) h (s.more f g l r)

more_bodies : {depth : ℕ} {fs : List ℕ} (b c : ℕ) (bs es : List ℕ) → c ∷ bs ≡ fs ++ es → IsInside b c → Bodies (suc depth) fs →
    Bodies (suc depth) (b ∷ fs)
more_bodies b c bs es e h (one_body {cs = cs} {ds = ds} r rest) =
    one_body (body_more b c bs cs (ds ++ es) (e ∙ append_assoc cs ds es) h r) rest

more_lones : {depth : ℕ} {count : ℕ} (b c : ℕ) (bs xs : List ℕ) → xs ≡ c ∷ bs → IsInside b c → Lones (suc depth) xs count →
    Lones (suc depth) (b ∷ c ∷ bs) (1 + count)
more_lones {depth = depth} b c bs xs e h (lone_now {count = count} m) =
    lone_now (s.past_byte h.closed h.open_none h.lone (subst (λ y. MeetsLone y count) e m))
more_lones {depth = depth} b c bs xs e h (lone_later {cs = cs} {ds = ds} {count = count} r l) =
    let there = lone_later (body_more b c bs cs ds (sym e) h r) l in
    same_count _ _ (omega arith) (subst (λ y. Lones (suc depth) (b ∷ y) (length (b ∷ cs) + count)) e there)

one_more : (depth b c : ℕ) (bs : List ℕ) (x : Close) → IsInside b c → Closing (suc depth) (c ∷ bs) x →
    Closing (suc depth) (b ∷ c ∷ bs) (beyond 1 x)
one_more depth b c bs (close.Closed count) h f =
    record {
      front = b ∷ f.front;
      behind = f.behind;
      whole = ap (λ y. b ∷ y) f.whole;
      len = omega (arith, f.len);
      bodies =
          more_bodies b c bs f.behind f.whole h f.bodies;
    }
one_more depth b c bs (close.Lone count) h f = more_lones b c bs (c ∷ bs) refl h f
one_more depth b c bs close.Never h f = tt

two_bytes : (b c x y : ℕ) (bs : List ℕ) (depth : ℕ) (z : Close) → ((b == x) && (c == y)) ≡ true → Closing depth (x ∷ y ∷ bs) z →
    Closing depth (b ∷ c ∷ bs) z
two_bytes b c x y bs depth z h f =
    let g = and_parts (b == x) (c == y) h in
    subst (λ i. Closing depth (i ∷ c ∷ bs) z) (sym (equal b x g.0)) (subst (λ i. Closing depth (x ∷ i ∷ bs) z) (sym (equal c y g.1)) f)

last_byte : (b : ℕ) (depth : ℕ) (v : Bool) → (b == 13) ≡ v → Closing (suc depth) (b ∷ []) (if v then close.Lone 0 else close.Never)
last_byte b depth true h = lone_now (s.lone_here (rw h refl))
last_byte b depth false h = tt

closing_parts : (depth : ℕ) (bs : List ℕ) → Closing depth bs (closing depth bs)
closing_parts zero bs = record { front = []; behind = bs; whole = refl; len = refl; bodies = no_bodies }
closing_parts (suc depth) [] = tt
closing_parts (suc depth) (b ∷ []) = last_byte b depth (b == 13) refl
closing_parts (suc depth) (b ∷ c ∷ bs) =
    let ended = closing_parts depth bs in
    let deeper = closing_parts (suc (suc depth)) bs in
    let further_in = closing_parts (suc depth) (c ∷ bs) in
    if_closing (suc depth) (b ∷ c ∷ bs) (closes b c) _ _
    (λ t. two_bytes b c 35 62 bs (suc depth) (beyond 2 (closing depth bs)) t (closed_end depth bs (closing depth bs) ended)) (λ t1.
    if_closing (suc depth) (b ∷ c ∷ bs) (opens b c) _ _
    (λ t. two_bytes b c 60 35 bs (suc depth) (beyond 2 (closing (suc (suc depth)) bs)) t
    (opened depth bs (closing (suc (suc depth)) bs) deeper)) (λ t2.
    if_closing (suc depth) (b ∷ c ∷ bs) (is_lone b c) _ _ (λ t. lone_now (s.lone_here t)) (λ t3.
    one_more depth b c bs (closing (suc depth) (c ∷ bs)) (record { closed = t1; open_none = t2; lone = t3 }) further_in)))

-- the body of one comment
pub record OneBody (bs : List ℕ) (count : ℕ) : Type 0 where
  pub front : List ℕ
  pub behind : List ℕ
  pub whole : bs ≡ front ++ behind
  pub len : length front ≡ count
  pub body : Body front

only_body : {fs : List ℕ} → Bodies 1 fs → Body fs
only_body (one_body {cs = cs} r no_bodies) = subst Body (sym (append-nil cs)) r

pub comment_body : (bs : List ℕ) (count : ℕ) → closing 1 bs ≡ close.Closed count → OneBody bs count
comment_body bs count h =
    let f : Front 1 bs count = subst (Closing 1 bs) h (closing_parts 1 bs) in
    record { front = f.front; behind = f.behind; whole = f.whole; len = f.len; body = only_body f.bodies }

only_lone : {depth : ℕ} {bs : List ℕ} {count : ℕ} → depth ≡ 1 → Lones depth bs count → MeetsLone bs count
only_lone e (lone_now m) = m
only_lone e (lone_later r (lone_now m)) = absurd (cc)
only_lone e (lone_later r (lone_later q l)) = absurd (cc)

pub comment_lone : (bs : List ℕ) (count : ℕ) → closing 1 bs ≡ close.Lone count → MeetsLone bs count
comment_lone bs count h = only_lone refl (subst (Closing 1 bs) h (closing_parts 1 bs))

-- and a carriage return that is met alone ends the search
pub meets_lone : {bs : List ℕ} {count : ℕ} → MeetsLone bs count → (depth : ℕ) → closing (suc depth) bs ≡ close.Lone count
meets_lone (s.lone_here {bs = bs} h) depth = at_lone bs depth h
  where
    at_lone : (cs : List ℕ) (m : ℕ) → is_lone_at cs 0 ≡ true → closing (suc m) cs ≡ close.Lone 0
    at_lone [] m g = absurd (cc)
    at_lone (b ∷ []) m g = rw (and_parts (b == 13) true g).0 refl
    at_lone (b ∷ c ∷ cs) m g =
        let f = and_parts (b == 13) (not (c == 10)) g in
        let e : b ≡ 13 = equal b 13 f.0 in
        subst (λ x. closing (suc m) (x ∷ c ∷ cs) ≡ close.Lone 0) (sym e) (rw f.1 refl)
meets_lone (s.in_nested {bs = bs} {count = count} m) depth = ap (beyond 2) (meets_lone m (suc depth))
meets_lone (s.past_nested {cs = cs} {ds = ds} {count = count} r m) depth =
    ap (beyond 2) (body_closes cs (suc depth) ds r ∙ ap (beyond (length cs)) (meets_lone m depth)) ∙ ap close.Lone (omega arith)
meets_lone (s.past_byte {b = b} {c = c} {bs = bs} f g l m) depth = rw (f, g, l) (ap (beyond 1) (meets_lone m depth))

closed_no : (i : ℕ) (x : Close) → (x ≡ close.Closed i → ⊥) → x ≡ beyond i (close.Closed 0) → ⊥
closed_no i x h e = h (e ∙ ap close.Closed (omega arith))

-- where nothing closes the comment there is no body
pub no_body : (bs : List ℕ) → ((count : ℕ) → closing 1 bs ≡ close.Closed count → ⊥) → NoBody bs
no_body bs h cs ds e r = closed_no (length cs) (closing 1 bs) (h (length cs)) (ap (closing 1) e ∙ body_closes cs 0 ds r)
