-- Numbers, one word after the other.
use Rattle.std.proofs.Common.{◌≡◌, ℕ, suc, ◌+◌, ◌≤◌, ◌<◌, true, false, List, [], ◌∷◌, ◌++◌, length, drop, get_or, Option, Some, None}
use Rattle.std.proofs.Common.{Result, Ok, Err, refl, sym, ap, ◌∙◌, append_assoc, arith}
use Rattle.std.proofs.lemmas.List.{append-nil, at_drop_more, at_drop_all}
use Rattle.verse_listing_format.specs.Numbers.{Number, number_of}
use Rattle.verse_listing_format.specs.Format.{Word}
use Rattle.verse_listing_lines.specs.declared.faults.LineFault.{LineFault}
use Rattle.verse_listing_lines.specs.declared.faults.LineFault.TheVariants as lines
use Rattle.verse_listing_lines.specs.Lines.{◌>>=◌, words, numbers, field, fields, is_letter, are_letters, is_name}
use Rattle.verse_listing_lines.specs.Answers.{Breaks, words_left}

-- how many bytes are left of a line, and one more where there is one
abbrev pub left_length : Option (List ℕ) → ℕ
left_length None = 0
left_length (Some line) = suc (length line)

-- what was read before, and what is still read
abbrev pub with_front : {A : Type 0} → List A → Result (List A) ℕ → Result (List A) ℕ
with_front front read = read >>= λ behind. Ok (front ++ behind)

pub regroup : {A : Type 0} (front : List A) (a : A) (read : Result (List A) ℕ) →
    with_front front (read >>= λ behind. Ok (a ∷ behind)) ≡ with_front (front ++ a ∷ []) read
regroup front a (Ok behind) = ap Ok (sym (append_assoc front (a ∷ []) behind))
regroup front a (Err rule) = refl

pub no_front : {A : Type 0} (read : Result (List A) ℕ) → with_front [] read ≡ read
no_front (Ok behind) = refl
no_front (Err rule) = refl

pub numbers_on : (front : List Number) (word : Word) (n : Number) (others : List Word) → number_of word ≡ Some n →
    with_front front (numbers (word ∷ others)) ≡ with_front (front ++ n ∷ []) (numbers others)
unfolding numbers
numbers_on front word n others e = rw e (regroup front n (numbers others))

pub numbers_stop : (front : List Number) (word : Word) (others : List Word) → number_of word ≡ None →
    with_front front (numbers (word ∷ others)) ≡ Err 1
unfolding numbers
numbers_stop front word others e = rw e refl

pub numbers_end : (front : List Number) → with_front front (numbers []) ≡ Ok front
unfolding numbers
numbers_end front = ap Ok (append-nil front)

-- ---- the loop over the words that are left of a line

pub words_stop : (front : List Number) (left : Option (List ℕ)) (line : List ℕ) (word : Word) (rest : Option (List ℕ))
    (total : Result (List Number) ℕ) → left ≡ Some line → words line ≡ word ∷ words_left rest → number_of word ≡ None →
    with_front front (numbers (words_left left)) ≡ total → total ≡ Err 1
words_stop front left line word rest total e w n h =
    sym h ∙ ap (λ k. with_front front (numbers (words_left k))) e ∙ ap (λ k. with_front front (numbers k)) w ∙
    numbers_stop front word (words_left rest) n

pub words_on : (front now : List Number) (n : Number) (left : Option (List ℕ)) (line : List ℕ) (word : Word) (rest : Option (List ℕ))
    (total : Result (List Number) ℕ) → left ≡ Some line → words line ≡ word ∷ words_left rest → number_of word ≡ Some n →
    now ≡ front ++ n ∷ [] → with_front front (numbers (words_left left)) ≡ total → with_front now (numbers (words_left rest)) ≡ total
words_on front now n left line word rest total e w m f h =
    ap (λ k. with_front k (numbers (words_left rest))) f ∙ sym (numbers_on front word n (words_left rest) m) ∙
    ap (λ k. with_front front (numbers k)) (sym w) ∙ ap (λ k. with_front front (numbers (words_left k))) (sym e) ∙ h

pub words_end : (front : List Number) (left : Option (List ℕ)) (total : Result (List Number) ℕ) → left ≡ None →
    with_front front (numbers (words_left left)) ≡ total → total ≡ Ok front
words_end front left total e h = sym h ∙ ap (λ k. with_front front (numbers (words_left k))) e ∙ numbers_end front

-- ---- letters

pub letters_stop : (word : Word) (i : ℕ) → i < length word → is_letter (get_or word i 0) ≡ false →
    are_letters (drop i word) ≡ are_letters word → is_name word ≡ false
letters_stop [] i lt t h = refl
letters_stop (b ∷ bytes) i lt t h = sym h ∙ at_drop_more are_letters (b ∷ bytes) i 0 lt ∙ rw t refl

pub letters_on : (word : Word) (i : ℕ) → i < length word → is_letter (get_or word i 0) ≡ true →
    are_letters (drop i word) ≡ are_letters word → are_letters (drop (i + 1) word) ≡ are_letters word
letters_on word i lt t h = sym (at_drop_more are_letters word i 0 lt ∙ rw t refl) ∙ h

pub letters_end : (word : Word) (i : ℕ) → 0 < length word → length word ≤ i → are_letters (drop i word) ≡ are_letters word →
    is_name word ≡ true
letters_end [] i some le h = absurd (omega arith)
letters_end (b ∷ bytes) i some le h = sym h ∙ at_drop_all are_letters (b ∷ bytes) i le

-- ---- fields that are all below an end

pub fields_on : (end i : ℕ) (front now : List ℕ) (n : ℕ) (ns : List Number) (total : Result (List ℕ) ℕ) → i < length ns →
    field 0 end (get_or ns i None) ≡ Ok n → now ≡ front ++ n ∷ [] → with_front front (fields end (drop i ns)) ≡ total →
    with_front now (fields end (drop (i + 1) ns)) ≡ total
unfolding fields
fields_on end i front now n ns total lt e f h =
    let step : with_front front (fields end (drop i ns)) ≡ with_front (front ++ n ∷ []) (fields end (drop (i + 1) ns)) =
    at_drop_more (λ k. with_front front (fields end k)) ns i None lt ∙ rw e (regroup front n (fields end (drop (i + 1) ns))) in
    ap (λ k. with_front k (fields end (drop (i + 1) ns))) f ∙ sym step ∙ h

pub fields_stop : (e : LineFault) (end i : ℕ) (front : List ℕ) (ns : List Number) (total : Result (List ℕ) ℕ) → i < length ns →
    Breaks e (field 0 end (get_or ns i None)) → with_front front (fields end (drop i ns)) ≡ total → Breaks e total
unfolding fields
fields_stop lines.Memory end i front ns total lt b h = tt
fields_stop (lines.Broken rule) end i front ns total lt b h =
    sym h ∙ at_drop_more (λ k. with_front front (fields end k)) ns i None lt ∙ rw b refl

pub fields_end : (end i : ℕ) (front : List ℕ) (ns : List Number) (total : Result (List ℕ) ℕ) → length ns ≤ i →
    with_front front (fields end (drop i ns)) ≡ total → total ≡ Ok front
unfolding fields
fields_end end i front ns total le h =
    sym h ∙ at_drop_all (λ k. with_front front (fields end k)) ns i le ∙ ap Ok (append-nil front)
