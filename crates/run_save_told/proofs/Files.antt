-- What is found behind a line stands behind the first that begins with the word.
use Rattle.std.proofs.Common.{◌≡◌, ◌≢◌, ℕ, Bool, true, false, eqb, List, [], ◌∷◌, ◌++◌}
use Rattle.std.proofs.Common.{refl, sym, ap, subst, ◌∙◌, arith, eq-eqb}
use Rattle.std.proofs.lemmas.Bool.{and_parts, eqb-true, eqb-false}
use Rattle.std.proofs.lemmas.List.Elements.{All-nil, All-cons, All-from_recursion}
use Rattle.verse_image.proofs.NumberLaws.{rest_bytes}
use Rattle.run_save_format.specs.Format.{IsLine, Begins, saved_word, StandsBehind, this_line, later_line}
use Rattle.run_save_format.specs.Whole.{behind_word, start_at}
use Rattle.run_save_told.specs.Told.{StartStandsBehind}
use Rattle.run_save_told.proofs.Telling.{Tells, tells, fails, tells_if, tells_as, told_is, Within}
use Rattle.run_save_restores.proofs.Files.{word_is_line, word_in_line}

line_on : (b : ℕ) (line : List ℕ) → eqb b 10 ≡ false → IsLine line → IsLine (b ∷ line)
line_on b line e p = All-cons (λ b. b ≢ 10) b line (eqb-false b 10 e) p

no_line : IsLine []
no_line = All-nil (λ b. b ≢ 10)

-- ---- the word

-- a line that begins with the word begins with it in the file
begins_here : (word more file : List ℕ) → behind_word word ((word ++ more) ++ file) ≡ true
begins_here [] more file = refl
begins_here (w ∷ word) more file =
    let same : eqb w w ≡ true = eq-eqb w w refl in
    let on = begins_here word more file in
    rw (same, on) refl

not_begun : (line file : List ℕ) → behind_word saved_word (line ++ file) ≡ false → Begins saved_word line → ⊥
not_begun line file e p =
    let here : behind_word saved_word (line ++ file) ≡ true =
    ap (λ l. behind_word saved_word (l ++ file)) p.1 ∙ begins_here saved_word p.0 file in
    absurd (cc)

first_is : (b : ℕ) (bytes : List ℕ) → behind_word saved_word (b ∷ bytes) ≡ true → b ≡ 61
first_is b bytes e = sym (eqb-true 61 b (and_parts _ _ e).0)

-- ---- lines

-- a line ends, and bytes stand behind it
pub record LineEnds (file bytes : List ℕ) : Type 0 where
  pub line : List ℕ
  pub is : IsLine line
  pub same : file ≡ line ++ 10 ∷ bytes

feed_here : (b : ℕ) (bytes : List ℕ) → eqb b 10 ≡ true → LineEnds (b ∷ bytes) bytes
feed_here b bytes t = record { line = []; is = no_line; same = ap (λ k. k ∷ bytes) (eqb-true b 10 t) }

one_more : (b : ℕ) (file bytes : List ℕ) → eqb b 10 ≡ false → LineEnds file bytes → LineEnds (b ∷ file) bytes
one_more b file bytes t p = record { line = b ∷ p.line; is = line_on b p.line t p.is; same = ap (λ l. b ∷ l) p.same }

-- within a line that begins with the word
ends_on : (file : List ℕ) → Tells 0 (LineEnds file) (start_at false true file)
unfolding start_at
ends_on [] = fails (omega arith)
ends_on (b ∷ file) = tells_if _ _ _ (λ t. tells (feed_here b file t)) (λ t. tells_as (λ bytes p. one_more b file bytes t p) (ends_on file))

-- within another line, behind which others stand
pub record PassesOn (file bytes : List ℕ) : Type 0 where
  pub others : List ℕ
  pub ends : LineEnds file others
  pub behind : StandsBehind others bytes

-- at such a line
this_stands : (b : ℕ) (file bytes : List ℕ) → behind_word saved_word (b ∷ file) ≡ true → LineEnds file bytes → StandsBehind (b ∷ file) bytes
this_stands b file bytes e p =
    let other : eqb b 10 ≡ false = rw (first_is b file e) refl in
    let line = b ∷ p.line in
    let same : b ∷ file ≡ line ++ 10 ∷ bytes = ap (λ l. b ∷ l) p.same in
    let begins = word_in_line saved_word line bytes word_is_line (ap (behind_word saved_word) (sym same) ∙ e) in
    subst (λ l. StandsBehind l bytes) (sym same) (this_line (line_on b p.line other p.is) begins)

-- at another
later_stands : (file bytes : List ℕ) → behind_word saved_word file ≡ false → PassesOn file bytes → StandsBehind file bytes
later_stands file bytes e p =
    let line = p.ends.line in
    let same = p.ends.same in
    subst (λ l. StandsBehind l bytes) (sym same)
    (later_line p.ends.is (not_begun line (10 ∷ p.others) (ap (behind_word saved_word) (sym same) ∙ e)) p.behind)

feed_passed : (b : ℕ) (file bytes : List ℕ) → eqb b 10 ≡ true → StandsBehind file bytes → PassesOn (b ∷ file) bytes
feed_passed b file bytes t p = record { others = file; ends = feed_here b file t; behind = p }

byte_passed : (b : ℕ) (file bytes : List ℕ) → eqb b 10 ≡ false → PassesOn file bytes → PassesOn (b ∷ file) bytes
byte_passed b file bytes t p = record { others = p.others; ends = one_more b file p.others t p.ends; behind = p.behind }

-- where a line begins, and within one that does not begin with the word
pub record Stands (file : List ℕ) : Type 0 where
  pub begins : Tells 0 (StandsBehind file) (start_at true false file)
  pub within : Tells 0 (PassesOn file) (start_at false false file)

passes : (b : ℕ) (file : List ℕ) → Stands file → (t : Bool) → eqb b 10 ≡ t → Tells 0 (PassesOn (b ∷ file)) (start_at t false file)
passes b file p true t = tells_as (λ bytes q. feed_passed b file bytes t q) p.begins
passes b file p false t = tells_as (λ bytes q. byte_passed b file bytes t q) p.within

stands : (file : List ℕ) → Stands file
unfolding start_at
stands [] = record { begins = fails (omega arith); within = fails (omega arith) }
stands (b ∷ file) =
    let on = passes b file (stands file) (eqb b 10) refl in
    record {
      begins =
          tells_if _ _ _
          (λ t. tells_if _ _ _ (λ u. (let first = first_is b file t in absurd (ten_is_not b u first)))
          (λ u. tells_as (λ bytes p. this_stands b file bytes t p) (ends_on file)))
          (λ t. tells_as (λ bytes p. later_stands (b ∷ file) bytes t p) on);
      within = on;
    }
  where
    ten_is_not : (b : ℕ) → eqb b 10 ≡ true → b ≡ 61 → ⊥
    ten_is_not b u e = let ten = eqb-true b 10 u in omega arith

pub tells_start : (file : List ℕ) → Tells 0 (StandsBehind file) (start_at true false file)
tells_start file = (stands file).begins

pub start_stands_behind : StartStandsBehind
start_stands_behind file bytes e = told_is bytes (tells_start file) e

-- ---- what stands behind it is a part of the file

behind_line : {most : ℕ} (line bytes : List ℕ) → Within most (line ++ 10 ∷ bytes) → Within most bytes
behind_line [] bytes b = let few = b.few in record { fits = rest_bytes 10 bytes b.fits; few = omega arith }
behind_line {most = most} (x ∷ line) bytes b =
    let few = b.few in
    behind_line line bytes (record { fits = rest_bytes x (line ++ 10 ∷ bytes) b.fits; few = omega arith })

pub behind_within : {most : ℕ} {file bytes : List ℕ} → StandsBehind file bytes → Within most file → Within most bytes
behind_within (this_line {line} {bytes} is begins) b = behind_line line bytes b
behind_within (later_line {line} {file} {bytes} is otherwise behind) b = behind_within behind (behind_line line file b)
