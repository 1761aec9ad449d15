-- Words and lines are written one after another.
use Rattle.std.proofs.Common.{◌≡◌, ℕ, suc, ◌+◌, ◌<◌, ◌≤◌, All, List, [], ◌∷◌, ◌++◌, length, map, take, drop, get_or, refl, sym, ap, subst}
use Rattle.std.proofs.Common.{◌∙◌}
use Rattle.std.proofs.Common.{append_assoc, arith}
use Rattle.std.proofs.lemmas.List.{append-nil, drop_more, take_all}
use Rattle.std.proofs.lemmas.List.Elements.{All-more}
use Rattle.verse_code.specs.declared.operations.Op.{Op}
use Rattle.verse_listing_format.specs.Format.{Line, Word, op_line, op_lines, spaced, spelled}
use Rattle.verse_listing_writer.specs.Writing.{behind, line_text}

-- the first word of a line, and those behind it
spaced_words : (word : Word) (words : List Word) → spaced (word ∷ words) ≡ word ++ behind words
spaced_words word [] = sym (append-nil word)
spaced_words word (next ∷ words) = ap (λ (w : List ℕ). word ++ 32 ∷ w) (spaced_words next words)

-- a line is written: its first word, the next, and those behind them
pub line_written : (word next : Word) (words : List Word) (old a b c d : List ℕ) → a ≡ old ++ word → b ≡ a ++ 32 ∷ next →
    c ≡ b ++ behind words → d ≡ c ++ 10 ∷ [] → d ≡ old ++ line_text (word ∷ next ∷ words)
line_written word next words old a b c d first second others end =
    let left : List ℕ = behind words ++ 10 ∷ [] in
    let pieces : d ≡ (((old ++ word) ++ 32 ∷ next) ++ behind words) ++ 10 ∷ [] =
    end ∙ ap (λ (w : List ℕ). w ++ 10 ∷ []) (others ∙ ap (λ (w : List ℕ). w ++ behind words) (second ∙
    ap (λ (w : List ℕ). w ++ 32 ∷ next) first)) in
    let line : spaced (word ∷ next ∷ words) ++ 10 ∷ [] ≡ word ++ 32 ∷ (next ++ left) =
    ap (λ (w : List ℕ). (word ++ 32 ∷ w) ++ 10 ∷ []) (spaced_words next words) ∙ append_assoc word (32 ∷ (next ++ behind words)) (10 ∷ []) ∙
    ap (λ (w : List ℕ). word ++ 32 ∷ w) (append_assoc next (behind words) (10 ∷ [])) in
    pieces ∙ append_assoc ((old ++ word) ++ 32 ∷ next) (behind words) (10 ∷ []) ∙ append_assoc (old ++ word) (32 ∷ next) left ∙
    append_assoc old word (32 ∷ (next ++ left)) ∙ ap (λ (w : List ℕ). old ++ w) (sym line)

spelled_both : (first others : List Line) → spelled (first ++ others) ≡ spelled first ++ spelled others
spelled_both [] others = refl
spelled_both (line ∷ lines) others =
    ap (λ (w : List ℕ). spaced line ++ 10 ∷ w) (spelled_both lines others) ∙
    sym (append_assoc (spaced line) (10 ∷ spelled lines) (spelled others))

-- lines are written, and then others
pub spelled_then : (first others : List Line) (old a b : List ℕ) → a ≡ old ++ spelled first → b ≡ a ++ spelled others →
    b ≡ old ++ spelled (first ++ others)
spelled_then first others old a b one two =
    two ∙ ap (λ (w : List ℕ). w ++ spelled others) one ∙ append_assoc old (spelled first) (spelled others) ∙
    ap (λ (w : List ℕ). old ++ w) (sym (spelled_both first others))

-- one line is written, and then those that are left
line_then : (line : Line) (lines : List Line) (out new all : List ℕ) → new ≡ out ++ line_text line → out ++ spelled (line ∷ lines) ≡ all →
    new ++ spelled lines ≡ all
line_then line lines out new all written so_far =
    ap (λ (w : List ℕ). w ++ spelled lines) written ∙ append_assoc out (line_text line) (spelled lines) ∙
    ap (λ (w : List ℕ). out ++ w) (append_assoc (spaced line) (10 ∷ []) (spelled lines)) ∙ so_far

module _ {X : Type 0} (xs : List X) (k : ℕ) (x d : X) (low : k < length xs) (is : x ≡ get_or xs k d) where
  entry_left : drop k xs ≡ x ∷ drop (k + 1) xs
  entry_left = drop_more xs k d low ∙ ap (λ y. y ∷ drop (k + 1) xs) (sym is)

  -- the line of one entry, and those that are left
  pub entry_written : (line : X → Line) (out new all : List ℕ) → new ≡ out ++ line_text (line x) →
      out ++ spelled (map line (drop k xs)) ≡ all → new ++ spelled (map line (drop (k + 1) xs)) ≡ all
  entry_written line out new all written so_far =
      line_then (line x) (map line (drop (k + 1) xs)) out new all written
      (ap (λ (ys : List X). out ++ spelled (map line ys)) (sym entry_left) ∙ so_far)

  -- one entry more has what each has
  pub one_more : (P : X → Type 0) → P x → All P (take k xs) → All P (take (k + 1) xs)
  one_more P p so_far = All-more P xs k d low so_far (subst P is p)

pub operation_written : (ops : List Op) (k : ℕ) (op d : Op) (out new all : List ℕ) → k < length ops → op ≡ get_or ops k d →
    new ≡ out ++ line_text (op_line k op) → out ++ spelled (op_lines k (drop k ops)) ≡ all →
    new ++ spelled (op_lines (k + 1) (drop (k + 1) ops)) ≡ all
operation_written ops k op d out new all low is written so_far =
    let left : drop k ops ≡ op ∷ drop (k + 1) ops = drop_more ops k d low ∙ ap (λ y. y ∷ drop (k + 1) ops) (sym is) in
    let next : suc k ≡ k + 1 = omega arith in
    subst (λ (n : ℕ). new ++ spelled (op_lines n (drop (k + 1) ops)) ≡ all) next
    (line_then (op_line k op) (op_lines (suc k) (drop (k + 1) ops)) out new all written
    (ap (λ (ys : List Op). out ++ spelled (op_lines k ys)) (sym left) ∙ so_far))

-- all are looked at
pub all_of_them : {X : Type 0} (P : X → Type 0) (xs : List X) (k : ℕ) → length xs ≤ k → All P (take k xs) → All P xs
all_of_them P xs k low h = subst (λ ys. All P ys) (take_all k xs low) h
