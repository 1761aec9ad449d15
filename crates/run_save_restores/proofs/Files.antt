-- What stands behind the first line that begins with the word is found there.
use Rattle.std.proofs.Common.{◌≡◌, ◌≢◌, ℕ, true, false, eqb, List, [], ◌∷◌, ◌++◌, Ok, refl, sym, ap, subst, ◌∙◌, arith}
use Rattle.std.proofs.lemmas.Bool.{and_parts, eqb-true, false_from_ne_true, ne_eqb}
use Rattle.std.proofs.lemmas.List.Elements.{All-cons, All-from_recursion, All-head, All-tail}
use Rattle.run_save_format.specs.Format.{IsLine, Begins, saved_word, StandsBehind, this_line, later_line}
use Rattle.run_save_format.specs.Whole.{behind_word, start_at}
use Rattle.run_save_restores.specs.Unbroken.{BehindIsFound}

-- no line feed is in a line
other : (b : ℕ) (line : List ℕ) → IsLine (b ∷ line) → eqb b 10 ≡ false
other b line p = ne_eqb b 10 (All-head (λ b. b ≢ 10) b line p)

pub line_on : (b : ℕ) (line : List ℕ) → b ≢ 10 → IsLine line → IsLine (b ∷ line)
line_on b line e p = All-cons (λ b. b ≢ 10) b line e p

rest_is_line : (b : ℕ) (line : List ℕ) → IsLine (b ∷ line) → IsLine line
rest_is_line b line p = All-tail (λ b. b ≢ 10) b line p

-- within such a line
found_on : (line bytes : List ℕ) → IsLine line → start_at false true (line ++ 10 ∷ bytes) ≡ Ok bytes
unfolding start_at
found_on [] bytes p = refl
found_on (b ∷ line) bytes p = rw (other b line p) (found_on line bytes (rest_is_line b line p))

-- within another line
passed : (line file : List ℕ) → IsLine line → start_at false false (line ++ 10 ∷ file) ≡ start_at true false file
unfolding start_at
passed [] file p = refl
passed (b ∷ line) file p = rw (other b line p) (passed line file (rest_is_line b line p))

-- at the first byte of such a line
found_at : (b : ℕ) (line bytes : List ℕ) → IsLine (b ∷ line) → behind_word saved_word (b ∷ (line ++ 10 ∷ bytes)) ≡ true →
    start_at true false (b ∷ (line ++ 10 ∷ bytes)) ≡ Ok bytes
unfolding start_at
found_at b line bytes p e = rw (e, other b line p) (found_on line bytes (rest_is_line b line p))

-- and of another one
passed_at : (line file : List ℕ) → IsLine line → behind_word saved_word (line ++ 10 ∷ file) ≡ false →
    start_at true false (line ++ 10 ∷ file) ≡ start_at true false file
unfolding start_at
passed_at [] file p e = refl
passed_at (b ∷ line) file p e = rw (e, other b line p) (passed line file (rest_is_line b line p))

-- ---- the word

begins_here : (line more bytes : List ℕ) → line ≡ saved_word ++ more → IsLine line → start_at true false (line ++ 10 ∷ bytes) ≡ Ok bytes
begins_here line more bytes e p =
    subst (λ l. start_at true false (l ++ 10 ∷ bytes) ≡ Ok bytes) (sym e)
    (found_at 61 (32 ∷ 115 ∷ 97 ∷ 118 ∷ 101 ∷ 100 ∷ 32 ∷ more) bytes (subst IsLine e p) refl)

pub word_is_line : IsLine saved_word
word_is_line =
    All-from_recursion (λ b. b ≢ 10) saved_word (
      omega arith,
      (omega arith, (omega arith, (omega arith, (omega arith, (omega arith, (omega arith, (omega arith, tt))))))),
    )

-- a word without a line feed that stands where a line begins is in that line
pub word_in_line : (word line file : List ℕ) → IsLine word → behind_word word (line ++ 10 ∷ file) ≡ true → Begins word line
word_in_line [] line file p e = (line, refl)
word_in_line (w ∷ word) [] file p e =
    let k = and_parts (eqb w 10) (behind_word word file) e in absurd (All-head (λ b. b ≢ 10) w word p (eqb-true w 10 k.0))
word_in_line (w ∷ word) (b ∷ line) file p e =
    let k = and_parts (eqb w b) (behind_word word (line ++ 10 ∷ file)) e in
    let same : w ≡ b = eqb-true w b k.0 in
    let on = word_in_line word line file (rest_is_line w word p) k.1 in
    (on.0, ap (λ l. b ∷ l) on.1 ∙ ap (λ n. n ∷ (word ++ on.0)) (sym same))

begins_not : (line file : List ℕ) → (Begins saved_word line → ⊥) → behind_word saved_word (line ++ 10 ∷ file) ≡ false
begins_not line file otherwise =
    false_from_ne_true (behind_word saved_word (line ++ 10 ∷ file)) (λ e. otherwise (word_in_line saved_word line file word_is_line e))

behind_found : {file bytes : List ℕ} → StandsBehind file bytes → start_at true false file ≡ Ok bytes
behind_found (this_line {line} {bytes} p begins) = begins_here line begins.0 bytes begins.1 p
behind_found (later_line {line} {file} {bytes} p otherwise behind) =
    passed_at line file p (begins_not line file otherwise) ∙ behind_found behind

pub behind_is_found : BehindIsFound
behind_is_found file bytes behind = behind_found behind
