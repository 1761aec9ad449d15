-- The texts of a code are of bytes where its image is.
use Rattle.std.proofs.Common.{ℕ, ◌≤◌, All, List, [], ◌∷◌, ◌++◌, length, subst, arith}
use Rattle.std.proofs.lemmas.List.Elements.{All-cons, All-nil}
use Rattle.verse_code.specs.declared.codes.Code.{Code}
use Rattle.verse_image.specs.Format.{Image, Spelled, one_byte, more_bytes, each, head, mark, plain, text}
use Rattle.verse_image.specs.Numbers.{IsBytes}
use Rattle.verse_image.proofs.NumberLaws.{rest_bytes}
use Rattle.run_save_moves.specs.Fine.{TextsAreBytes}

abbrev AreBytes : List ℕ → Type 0
AreBytes = All (λ b. b ≤ 255)

-- what stands behind a field is of bytes where all is
spelled_rest : {n : ℕ} {bytes rest : List ℕ} → Spelled n bytes rest → IsBytes bytes → IsBytes rest
spelled_rest (one_byte {n = n} {rest = rest} low) b = rest_bytes n rest b
spelled_rest (more_bytes {b = d} {bytes = bytes} high is more) b = spelled_rest more (rest_bytes d bytes b)

byte_low : (x : ℕ) (bytes : List ℕ) → IsBytes (x ∷ bytes) → x ≤ 255
byte_low x bytes b = let low = b 0 in omega arith

-- a text, and what stands behind it
front_bytes : (front rest : List ℕ) → IsBytes (front ++ rest) → AreBytes front × IsBytes rest
front_bytes [] rest b = (All-nil (λ b. b ≤ 255), b)
front_bytes (x ∷ front) rest b =
    let more = front_bytes front rest (rest_bytes x (front ++ rest) b) in
    (All-cons (λ b. b ≤ 255) x front (byte_low x (front ++ rest) b) more.0, more.1)

plain_bytes : (front bytes rest : List ℕ) → plain front bytes rest → IsBytes bytes → AreBytes front × IsBytes rest
plain_bytes front bytes rest p b = front_bytes front rest (subst IsBytes p b)

texts_bytes : (texts : List (List ℕ)) (bytes rest : List ℕ) → each text texts bytes rest → IsBytes bytes → All AreBytes texts
texts_bytes [] bytes rest p b = All-nil AreBytes
texts_bytes (t ∷ texts) bytes rest p b =
    let front = plain_bytes t p.1.0 p.0 p.1.2 (spelled_rest p.1.1.1 b) in
    All-cons AreBytes t texts front.0 (texts_bytes texts p.0 rest p.2 front.1)

-- before the texts stand the mark, the version, the counts of files and of operations, and that of
-- the texts
head_bytes : (version files ops : ℕ) (bytes rest : List ℕ) → head version files ops bytes rest → IsBytes bytes → IsBytes rest
head_bytes version files ops bytes rest q b =
    let marked = (plain_bytes mark bytes q.1.1.0 q.1.1.1 b).1 in
    let told = (front_bytes (version ∷ []) q.1.0 (subst IsBytes q.1.1.2 marked)).1 in
    spelled_rest q.2.1 (spelled_rest q.1.2.1 told)

pub image_texts : (version : ℕ) (c : Code) (image : List ℕ) → Image version c image → IsBytes image → TextsAreBytes c
image_texts version c image i b =
    let h = i.spelled in
    let texts = h.1.2.1.1.1.1 in
    texts_bytes c.texts texts.0 _ texts.2
    (spelled_rest texts.1.1 (head_bytes version c.files (length c.ops) image h.1.0 h.1.1 b))
