-- What stands behind a field changes nothing of how it is read: the same value with more bytes behind it,
-- or the same fault with more bytes left. Only where the bytes ended within it may more bytes change that.
use Rattle.std.proofs.Common.{◌≡◌, ℕ, zero, suc, ◌+◌, ◌-◌, ◌*◌, ◌<◌, ◌≤◌, ℤ, pos, Bool, true, false, cond, ltb, leb, eqb, ◌&&◌, ◌||◌, ◌⊎◌}
use Rattle.std.proofs.Common.{inl, inr, List, [], ◌∷◌, ◌++◌, length, take, drop, Option, Some, None, slice_get, Result, Ok, Err, refl, sym}
use Rattle.std.proofs.Common.{ap, subst, ◌∙◌, arith, length-append, append_assoc}
use Rattle.std.proofs.lemmas.Bool.{cases_lt, lt-ltb, le-ltb}
use Rattle.std.proofs.lemmas.List.{take-append-le, drop-append-le}
use Rattle.verse_base.specs.declared.places.Place.{Place}
use Rattle.verse_code.specs.declared.operands.OperandKind.{OperandKind}
use Rattle.verse_code.specs.declared.operations.Op.{Op}
use Rattle.verse_code.specs.declared.shapes.Shape.{Shape}
use Rattle.verse_code.specs.declared.shapes.Shape.TheVariants as s
use Rattle.verse_code.specs.declared.shapes.Parts.{Parts}
use Rattle.verse_code.specs.declared.codes.Func.{Func}
use Rattle.verse_code.specs.declared.codes.Class.{Class}
use Rattle.verse_code.specs.declared.codes.Code.{Code}
use Rattle.verse_code.specs.declared.validity.Sizes.{Sizes}
use Rattle.verse_code.specs.Forms.{Form, forms, shape_of, made}
use Rattle.verse_code.specs.Validity.{suits_kind}
use Rattle.verse_image.specs.declared.faults.Flaw.{Flaw}
use Rattle.verse_image.specs.declared.tables.Tables.{Tables}
use Rattle.verse_image.specs.Format.{mark, Image}
use Rattle.verse_image.specs.Reading.{◌>>=◌, Reader, flaw, byte_at, digits_at, with_high, number_at, within_at, signed_digits_at}
use Rattle.verse_image.specs.Reading.{signed_with_high, with_sign, integer_at, many_at, table_at, text_at, place_at, function_at, class_at}
use Rattle.verse_image.specs.Reading.{may_begin, main_at, operand_at, parts, parts_at, form_at, op_at, ops_at, letter_at, mark_at}
use Rattle.verse_image.specs.Reading.{version_at, top_of, head_at, tables_at, sizes_with, code_with, ended, image_at}
use Rattle.verse_image.proofs.ImageLaws.{image_again}

-- what reading gives before more bytes and with them
abbrev pub Stays : {A : Type 0} → List ℕ → Result (A × List ℕ) Flaw → Result (A × List ℕ) Flaw → Type 0
Stays more (Ok x) wide = wide ≡ Ok (x.0, x.1 ++ more)
Stays more (Err f) wide = (f ≡ flaw 3 0) ⊎ (wide ≡ Err (flaw f.rule (f.left + length more)))

abbrev pub Local : {A : Type 0} → Reader A → Type 0
Local {A} read = (bytes more : List ℕ) → Stays more (read bytes) (read (bytes ++ more))

-- one step, and then another
stays_then : {A B : Type 0} (more : List ℕ) (r wide : Result (A × List ℕ) Flaw) (f g : A × List ℕ → Result (B × List ℕ) Flaw) →
    Stays more r wide → ((x : A × List ℕ) → Stays more (f x) (g (x.0, x.1 ++ more))) → Stays more (r >>= f) (wide >>= g)
stays_then {A} {B} more (Ok x) wide f g h k = subst (λ (w : Result (A × List ℕ) Flaw). Stays more (f x) (w >>= g)) (sym h) (k x)
stays_then more (Err e) wide f g (inl h) k = inl h
stays_then more (Err e) wide f g (inr h) k = inr (ap (λ w. w >>= g) h)

-- a test of the value, with the field's own bytes left where it fails
stays_test : {A : Type 0} (more bytes rest : List ℕ) (b : Bool) (rule : ℕ) (a : A) →
    Stays more (cond b (Ok (a, rest)) (Err (flaw rule (length bytes))))
    (cond b (Ok (a, rest ++ more)) (Err (flaw rule (length (bytes ++ more)))))
stays_test more bytes rest true rule a = refl
stays_test more bytes rest false rule a = inr (ap (λ (n : ℕ). Err (flaw rule n)) (length-append bytes more))

byte_stays : Local byte_at
byte_stays [] more = inl refl
byte_stays (b ∷ rest) more = refl

-- ---- numbers

high_stays : (more rest : List ℕ) (end left wide b high : ℕ) → wide ≡ left + length more →
    Stays more (with_high end left b (high, rest)) (with_high end wide b (high, rest ++ more))
high_stays more rest end left wide b high e = tested (ltb 0 high && ltb (b - 128 + 128 * high) end)
  where
    tested : (t : Bool) → Stays more (cond t (Ok (b - 128 + 128 * high, rest)) (Err (flaw 4 left)))
        (cond t (Ok (b - 128 + 128 * high, rest ++ more)) (Err (flaw 4 wide)))
    tested true = refl
    tested false = inr (ap (λ (n : ℕ). Err (flaw 4 n)) e)

digits_stay : (most end left wide : ℕ) (bytes more : List ℕ) → wide ≡ left + length more →
    Stays more (digits_at most end left bytes) (digits_at most end wide (bytes ++ more))
unfolding digits_at
digits_stay zero end left wide bytes more e = inr (ap (λ (n : ℕ). Err (flaw 4 n)) e)
digits_stay (suc most) end left wide [] more e = inl refl
digits_stay (suc most) end left wide (b ∷ rest) more e = tested (digits_stay most end left wide rest more e) (ltb b 128)
  where
    tested : Stays more (digits_at most end left rest) (digits_at most end wide (rest ++ more)) → (t : Bool) →
        Stays more (cond t (Ok (b, rest)) (digits_at most end left rest >>= with_high end left b))
        (cond t (Ok (b, rest ++ more)) (digits_at most end wide (rest ++ more) >>= with_high end wide b))
    tested h true = refl
    tested h false = stays_then more (digits_at most end left rest) (digits_at most end wide (rest ++ more)) (with_high end left b)
        (with_high end wide b) h (λ x. high_stays more x.1 end left wide b x.0 e)

pub number_stays : Local number_at
unfolding number_at
number_stays bytes more = digits_stay 5 4294967296 (length bytes) (length (bytes ++ more)) bytes more (length-append bytes more)

pub within_stays : (least end : ℕ) → Local (within_at least end)
unfolding within_at
within_stays least end bytes more =
    stays_then more (number_at bytes) (number_at (bytes ++ more)) _ _ (number_stays bytes more)
    (λ n. stays_test more bytes n.1 (leb least n.0 && ltb n.0 end) 5 n.0)

signed_high_stays : (more rest : List ℕ) (end left wide b : ℕ) (high : Bool × ℕ) → wide ≡ left + length more →
    Stays more (signed_with_high end left b (high, rest)) (signed_with_high end wide b (high, rest ++ more))
signed_high_stays more rest end left wide b high e =
    tested (high.1 * 128 + cond high.0 (127 - (b - 128)) (b - 128))
    (leb 64 (high.1 * 128 + cond high.0 (127 - (b - 128)) (b - 128)) && ltb (high.1 * 128 + cond high.0 (127 - (b - 128)) (b - 128)) end)
  where
    tested : (size : ℕ) (t : Bool) → Stays {A = Bool × ℕ} more (cond t (Ok ((high.0, size), rest)) (Err (flaw 4 left)))
        (cond t (Ok ((high.0, size), rest ++ more)) (Err (flaw 4 wide)))
    tested size true = refl
    tested size false = inr (ap (λ (n : ℕ). Err (flaw 4 n)) e)

signed_stays : (most end left wide : ℕ) (bytes more : List ℕ) → wide ≡ left + length more →
    Stays more (signed_digits_at most end left bytes) (signed_digits_at most end wide (bytes ++ more))
unfolding signed_digits_at
signed_stays zero end left wide bytes more e = inr (ap (λ (n : ℕ). Err (flaw 4 n)) e)
signed_stays (suc most) end left wide [] more e = inl refl
signed_stays (suc most) end left wide (b ∷ rest) more e = first (signed_stays most end left wide rest more e) (ltb b 64)
  where
    second : Stays more (signed_digits_at most end left rest) (signed_digits_at most end wide (rest ++ more)) → (t : Bool) →
        Stays {A = Bool × ℕ} more (cond t (Ok ((true, 127 - b), rest)) (signed_digits_at most end left rest >>=
        signed_with_high end left b)) (cond t (Ok ((true, 127 - b), rest ++ more)) (signed_digits_at most end wide (rest ++ more) >>=
        signed_with_high end wide b))
    second h true = refl
    second h false = stays_then more (signed_digits_at most end left rest) (signed_digits_at most end wide (rest ++ more))
        (signed_with_high end left b) (signed_with_high end wide b) h (λ x. signed_high_stays more x.1 end left wide b x.0 e)

    first : Stays more (signed_digits_at most end left rest) (signed_digits_at most end wide (rest ++ more)) → (t : Bool) →
        Stays {A = Bool × ℕ} more (cond t (Ok ((false, b), rest))
        (cond (ltb b 128) (Ok ((true, 127 - b), rest)) (signed_digits_at most end left rest >>= signed_with_high end left b)))
        (cond t (Ok ((false, b), rest ++ more))
        (cond (ltb b 128) (Ok ((true, 127 - b), rest ++ more)) (signed_digits_at most end wide (rest ++ more) >>=
        signed_with_high end wide b)))
    first h true = refl
    first h false = second h (ltb b 128)

integer_stays : Local integer_at
unfolding integer_at
integer_stays bytes more =
    stays_then more (signed_digits_at 10 9223372036854775808 (length bytes) bytes)
    (signed_digits_at 10 9223372036854775808 (length (bytes ++ more)) (bytes ++ more)) (λ n. Ok (with_sign n.0.0 n.0.1, n.1))
    (λ n. Ok (with_sign n.0.0 n.0.1, n.1))
    (signed_stays 10 9223372036854775808 (length bytes) (length (bytes ++ more)) bytes more (length-append bytes more)) (λ n. refl)

-- ---- tables

many_stays : {A : Type 0} (one : Reader A) → Local one → (n : ℕ) → Local (many_at one n)
unfolding many_at
many_stays one h zero bytes more = refl
many_stays one h (suc n) bytes more =
    stays_then more (one bytes) (one (bytes ++ more)) (λ first. many_at one n first.1 >>= λ others. Ok (first.0 ∷ others.0, others.1))
    (λ first. many_at one n first.1 >>= λ others. Ok (first.0 ∷ others.0, others.1)) (h bytes more)
    (λ first. stays_then more (many_at one n first.1) (many_at one n (first.1 ++ more)) (λ others. Ok (first.0 ∷ others.0, others.1))
    (λ others. Ok (first.0 ∷ others.0, others.1)) (many_stays one h n first.1 more) (λ others. refl))

table_stays : {A : Type 0} (one : Reader A) → Local one → Local (table_at one)
unfolding table_at
table_stays one h bytes more = stays_then more (number_at bytes) (number_at (bytes ++ more)) (λ n. many_at one n.0 n.1)
    (λ n. many_at one n.0 n.1) (number_stays bytes more) (λ n. many_stays one h n.0 n.1 more)

abbrev piece : ℕ × List ℕ → Result (List ℕ × List ℕ) Flaw
piece n = cond (ltb (length n.1) n.0) (Err (flaw 3 0)) (Ok (take n.0 n.1, drop n.0 n.1))

piece_stays : (n : ℕ) (rest more : List ℕ) → Stays more (piece (n, rest)) (piece (n, rest ++ more))
piece_stays n rest more =
    elim (cases_lt (length rest) n) [
      | inl lt ↦ let t : ltb (length rest) n ≡ true = lt-ltb _ _ lt in rw t (inl refl)
      | inr le ↦
          let t : ltb (length rest) n ≡ false = le-ltb _ _ le in
          let u : ltb (length (rest ++ more)) n ≡ false = le-ltb _ _ (omega (arith, length-append rest more)) in
          rw (t, u, take-append-le n rest more le, drop-append-le n rest more le) refl
    ]

text_stays : Local text_at
unfolding text_at
text_stays bytes more = stays_then more (within_at 0 4000000 bytes) (within_at 0 4000000 (bytes ++ more)) piece piece
    (within_stays 0 4000000 bytes more) (λ n. piece_stays n.0 n.1 more)

place_stays : (files : ℕ) → Local (place_at files)
unfolding place_at
place_stays files bytes more =
    stays_then more (within_at 0 files bytes) (within_at 0 files (bytes ++ more)) _ _ (within_stays 0 files bytes more) (λ file.
    stays_then more (within_at 1 4294967296 file.1) (within_at 1 4294967296 (file.1 ++ more)) _ _ (within_stays 1 4294967296 file.1 more)
    (λ line.
    stays_then more (within_at 1 4294967296 line.1) (within_at 1 4294967296 (line.1 ++ more)) _ _ (within_stays 1 4294967296 line.1 more)
    (λ col. refl)))

function_stays : (ops : ℕ) → Local (function_at ops)
unfolding function_at
function_stays ops bytes more =
    stays_then more (number_at bytes) (number_at (bytes ++ more)) _ _ (number_stays bytes more) (λ params.
    stays_then more (within_at params.0 16777217 params.1) (within_at params.0 16777217 (params.1 ++ more)) _ _
    (within_stays params.0 16777217 params.1 more) (λ locals.
    stays_then more (within_at 0 ops locals.1) (within_at 0 ops (locals.1 ++ more)) _ _ (within_stays 0 ops locals.1 more) (λ entry.
    stays_then more (within_at 0 2 entry.1) (within_at 0 2 (entry.1 ++ more)) _ _ (within_stays 0 2 entry.1 more) (λ suspends. refl))))

class_stays : (functions : ℕ) → Local (class_at functions)
unfolding class_at
class_stays functions bytes more =
    stays_then more (number_at bytes) (number_at (bytes ++ more)) _ _ (number_stays bytes more) (λ slots.
    stays_then more (table_at (within_at 0 functions) slots.1) (table_at (within_at 0 functions) (slots.1 ++ more)) _ _
    (table_stays (within_at 0 functions) (within_stays 0 functions) slots.1 more) (λ methods. refl))

main_stays : (functions : List Func) → Local (main_at functions)
unfolding main_at
main_stays functions bytes more = stays_then more (number_at bytes) (number_at (bytes ++ more)) _ _ (number_stays bytes more)
    (λ n. stays_test more bytes n.1 (may_begin (slice_get functions n.0)) 5 n.0)

-- ---- operations

operand_stays : (sizes : Sizes) (at : ℕ) (kind : OperandKind) → Local (operand_at sizes at kind)
unfolding operand_at
operand_stays sizes at kind bytes more = stays_then more (number_at bytes) (number_at (bytes ++ more)) _ _ (number_stays bytes more)
    (λ n. stays_test more bytes n.1 (suits_kind sizes at kind n.0) 6 n.0)

parts_stay : (sizes : Sizes) (at : ℕ) (shape : Shape) → Local (parts_at sizes at shape)
unfolding parts_at
parts_stay sizes at s.Bare bytes more = refl
parts_stay sizes at s.Integer bytes more =
    stays_then more (integer_at bytes) (integer_at (bytes ++ more)) _ _ (integer_stays bytes more) (λ n. refl)
parts_stay sizes at (s.One k) bytes more =
    stays_then more (operand_at sizes at k bytes) (operand_at sizes at k (bytes ++ more)) _ _ (operand_stays sizes at k bytes more)
    (λ a. refl)
parts_stay sizes at (s.Two k l) bytes more =
    stays_then more (operand_at sizes at k bytes) (operand_at sizes at k (bytes ++ more)) _ _ (operand_stays sizes at k bytes more) (λ a.
    stays_then more (operand_at sizes at l a.1) (operand_at sizes at l (a.1 ++ more)) _ _ (operand_stays sizes at l a.1 more) (λ b. refl))
parts_stay sizes at (s.Three k l m) bytes more =
    stays_then more (operand_at sizes at k bytes) (operand_at sizes at k (bytes ++ more)) _ _ (operand_stays sizes at k bytes more) (λ a.
    stays_then more (operand_at sizes at l a.1) (operand_at sizes at l (a.1 ++ more)) _ _ (operand_stays sizes at l a.1 more) (λ b.
    stays_then more (operand_at sizes at m b.1) (operand_at sizes at m (b.1 ++ more)) _ _ (operand_stays sizes at m b.1 more) (λ c. refl)))
parts_stay sizes at (s.Four k l m n) bytes more =
    stays_then more (operand_at sizes at k bytes) (operand_at sizes at k (bytes ++ more)) _ _ (operand_stays sizes at k bytes more) (λ a.
    stays_then more (operand_at sizes at l a.1) (operand_at sizes at l (a.1 ++ more)) _ _ (operand_stays sizes at l a.1 more) (λ b.
    stays_then more (operand_at sizes at m b.1) (operand_at sizes at m (b.1 ++ more)) _ _ (operand_stays sizes at m b.1 more) (λ c.
    stays_then more (operand_at sizes at n c.1) (operand_at sizes at n (c.1 ++ more)) _ _ (operand_stays sizes at n c.1 more) (λ d. refl))))

form_stays : (sizes : Sizes) (at left wide : ℕ) (f : Option Form) (bytes more : List ℕ) → wide ≡ left + length more →
    Stays more (form_at sizes at left f bytes) (form_at sizes at wide f (bytes ++ more))
unfolding form_at
form_stays sizes at left wide None bytes more e = inr (ap (λ (n : ℕ). Err (flaw 6 n)) e)
form_stays sizes at left wide (Some f) bytes more e =
    stays_then more (parts_at sizes at (shape_of f) bytes) (parts_at sizes at (shape_of f) (bytes ++ more)) _ _
    (parts_stay sizes at (shape_of f) bytes more) (λ p. refl)

op_stays : (sizes : Sizes) (top at : ℕ) → Local (op_at sizes top at)
unfolding op_at
op_stays sizes top at [] more = inl refl
op_stays sizes top at (code ∷ rest) more = tested (ltb top code)
  where
    tested : (t : Bool) → Stays more (cond t (Err (flaw 6 (length (code ∷ rest))))
        (form_at sizes at (length (code ∷ rest)) (slice_get forms code) rest))
        (cond t (Err (flaw 6 (length (code ∷ rest ++ more))))
        (form_at sizes at (length (code ∷ rest ++ more)) (slice_get forms code) (rest ++ more)))
    tested true = inr (ap (λ (n : ℕ). Err (flaw 6 n)) (length-append (code ∷ rest) more))
    tested false = form_stays sizes at (length (code ∷ rest)) (length (code ∷ rest ++ more)) (slice_get forms code) rest more
        (length-append (code ∷ rest) more)

ops_stay : (sizes : Sizes) (top at n : ℕ) → Local (ops_at sizes top at n)
unfolding ops_at
ops_stay sizes top at zero bytes more = refl
ops_stay sizes top at (suc n) bytes more =
    stays_then more (op_at sizes top at bytes) (op_at sizes top at (bytes ++ more)) _ _ (op_stays sizes top at bytes more) (λ first.
    stays_then more (ops_at sizes top (suc at) n first.1) (ops_at sizes top (suc at) n (first.1 ++ more)) _ _
    (ops_stay sizes top (suc at) n first.1 more) (λ others. refl))

-- ---- how the image begins

-- the same for bytes with no value before them
abbrev Follows : List ℕ → Result (List ℕ) Flaw → Result (List ℕ) Flaw → Type 0
Follows more (Ok rest) wide = wide ≡ Ok (rest ++ more)
Follows more (Err f) wide = (f ≡ flaw 3 0) ⊎ (wide ≡ Err (flaw f.rule (f.left + length more)))

follows_then : (more : List ℕ) (r wide : Result (List ℕ) Flaw) (f g : List ℕ → Result (List ℕ) Flaw) → Follows more r wide →
    ((x : List ℕ) → Follows more (f x) (g (x ++ more))) → Follows more (r >>= f) (wide >>= g)
follows_then more (Ok x) wide f g h k = subst (λ (w : Result (List ℕ) Flaw). Follows more (f x) (w >>= g)) (sym h) (k x)
follows_then more (Err e) wide f g (inl h) k = inl h
follows_then more (Err e) wide f g (inr h) k = inr (ap (λ w. w >>= g) h)

behind_then : {B : Type 0} (more : List ℕ) (r wide : Result (List ℕ) Flaw) (f g : List ℕ → Result (B × List ℕ) Flaw) → Follows more r wide →
    ((x : List ℕ) → Stays more (f x) (g (x ++ more))) → Stays more (r >>= f) (wide >>= g)
behind_then {B} more (Ok x) wide f g h k = subst (λ (w : Result (List ℕ) Flaw). Stays more (f x) (w >>= g)) (sym h) (k x)
behind_then more (Err e) wide f g (inl h) k = inl h
behind_then more (Err e) wide f g (inr h) k = inr (ap (λ w. w >>= g) h)

letter_stays : (letter left wide : ℕ) (bytes more : List ℕ) → wide ≡ left + length more →
    Follows more (letter_at letter left bytes) (letter_at letter wide (bytes ++ more))
unfolding letter_at
letter_stays letter left wide [] more e = inl refl
letter_stays letter left wide (b ∷ rest) more e = tested (eqb b letter)
  where
    tested : (t : Bool) → Follows more (cond t (Ok rest) (Err (flaw 1 left))) (cond t (Ok (rest ++ more)) (Err (flaw 1 wide)))
    tested true = refl
    tested false = inr (ap (λ (n : ℕ). Err (flaw 1 n)) e)

mark_stays : (letters : List ℕ) (left wide : ℕ) (bytes more : List ℕ) → wide ≡ left + length more →
    Follows more (mark_at letters left bytes) (mark_at letters wide (bytes ++ more))
mark_stays [] left wide bytes more e = refl
mark_stays (letter ∷ letters) left wide bytes more e =
    follows_then more (letter_at letter left bytes) (letter_at letter wide (bytes ++ more)) (mark_at letters left) (mark_at letters wide)
    (letter_stays letter left wide bytes more e) (λ x. mark_stays letters left wide x more e)

version_stays : Local version_at
unfolding version_at
version_stays [] more = inl refl
version_stays (b ∷ rest) more = stays_test more (b ∷ rest) rest (eqb b 1 || eqb b 2) 2 b

head_stays : Local head_at
unfolding head_at
head_stays bytes more =
    behind_then more (mark_at mark (length bytes) bytes) (mark_at mark (length (bytes ++ more)) (bytes ++ more)) _ _
    (mark_stays mark (length bytes) (length (bytes ++ more)) bytes more (length-append bytes more)) (λ behind.
    stays_then more (version_at behind) (version_at (behind ++ more)) _ _ (version_stays behind more) (λ version.
    stays_then more (within_at 1 17 version.1) (within_at 1 17 (version.1 ++ more)) _ _ (within_stays 1 17 version.1 more) (λ files.
    stays_then more (within_at 1 16777217 files.1) (within_at 1 16777217 (files.1 ++ more)) _ _ (within_stays 1 16777217 files.1 more)
    (λ ops. refl))))

tables_stay : (files ops : ℕ) → Local (tables_at files ops)
unfolding tables_at
tables_stay files ops bytes more =
    stays_then more (table_at text_at bytes) (table_at text_at (bytes ++ more)) _ _ (table_stays text_at text_stays bytes more) (λ texts.
    stays_then more (table_at (place_at files) texts.1) (table_at (place_at files) (texts.1 ++ more)) _ _
    (table_stays (place_at files) (place_stays files) texts.1 more) (λ places.
    stays_then more (table_at (function_at ops) places.1) (table_at (function_at ops) (places.1 ++ more)) _ _
    (table_stays (function_at ops) (function_stays ops) places.1 more) (λ functions.
    stays_then more (table_at (class_at (length functions.0)) functions.1) (table_at (class_at (length functions.0)) (functions.1 ++ more))
    _ _ (table_stays (class_at (length functions.0)) (class_stays (length functions.0)) functions.1 more) (λ classes.
    stays_then more (main_at functions.0 classes.1) (main_at functions.0 (classes.1 ++ more)) _ _ (main_stays functions.0 classes.1 more)
    (λ main. refl)))))

-- ---- the image

-- what reading all gives before a byte more and with it
abbrev pub Ends : List ℕ → Result Code Flaw → Result Code Flaw → Type 0
Ends more (Ok code) wide = wide ≡ Err (flaw 7 (length more))
Ends more (Err f) wide = (f ≡ flaw 3 0) ⊎ (wide ≡ Err (flaw f.rule (f.left + length more)))

ends_then : {A : Type 0} (more : List ℕ) (r wide : Result (A × List ℕ) Flaw) (f g : A × List ℕ → Result Code Flaw) → Stays more r wide →
    ((x : A × List ℕ) → Ends more (f x) (g (x.0, x.1 ++ more))) → Ends more (r >>= f) (wide >>= g)
ends_then {A} more (Ok x) wide f g h k = subst (λ (w : Result (A × List ℕ) Flaw). Ends more (f x) (w >>= g)) (sym h) (k x)
ends_then more (Err e) wide f g (inl h) k = inl h
ends_then more (Err e) wide f g (inr h) k = inr (ap (λ w. w >>= g) h)

ended_ends : (code : Code) (rest : List ℕ) (b : ℕ) (more : List ℕ) → Ends (b ∷ more) (ended code rest) (ended code (rest ++ b ∷ more))
ended_ends code [] b more = refl
ended_ends code (c ∷ rest) b more = inr (ap (λ (n : ℕ). Err (flaw 7 n)) (length-append (c ∷ rest) (b ∷ more)))

pub image_ends : (bytes : List ℕ) (b : ℕ) (more : List ℕ) → Ends (b ∷ more) (image_at bytes) (image_at (bytes ++ b ∷ more))
unfolding image_at
image_ends bytes b more =
    ends_then (b ∷ more) (head_at bytes) (head_at (bytes ++ b ∷ more)) _ _ (head_stays bytes (b ∷ more)) (λ h.
    ends_then (b ∷ more) (tables_at h.0.1 h.0.2 h.1) (tables_at h.0.1 h.0.2 (h.1 ++ b ∷ more)) _ _ (tables_stay h.0.1 h.0.2 h.1 (b ∷ more))
    (λ t.
    ends_then (b ∷ more) (ops_at (sizes_with h.0.2 t.0) (top_of h.0.0) 0 h.0.2 t.1)
    (ops_at (sizes_with h.0.2 t.0) (top_of h.0.0) 0 h.0.2 (t.1 ++ b ∷ more)) _ _
    (ops_stay (sizes_with h.0.2 t.0) (top_of h.0.0) 0 h.0.2 t.1 (b ∷ more)) (λ ops.
    ended_ends (code_with h.0.1 t.0 ops.0) ops.1 b more)))

pub image_longer : (version : ℕ) (code : Code) (bytes : List ℕ) (b : ℕ) (more : List ℕ) → Image version code bytes →
    image_at (bytes ++ b ∷ more) ≡ Err (flaw 7 (length (b ∷ more)))
image_longer version code bytes b more i =
    subst (λ (r : Result Code Flaw). Ends (b ∷ more) r (image_at (bytes ++ b ∷ more))) (image_again version code bytes i)
    (image_ends bytes b more)

pub fault_stays : (bytes : List ℕ) (b : ℕ) (more : List ℕ) (f : Flaw) → image_at bytes ≡ Err f →
    (f ≡ flaw 3 0) ⊎ (image_at (bytes ++ b ∷ more) ≡ Err (flaw f.rule (f.left + length (b ∷ more))))
fault_stays bytes b more f e = subst (λ (r : Result Code Flaw). Ends (b ∷ more) r (image_at (bytes ++ b ∷ more))) e
    (image_ends bytes b more)

cut_from : (r wide : Result Code Flaw) (code : Code) (more : List ℕ) → wide ≡ Ok code → Ends more r wide → r ≡ Err (flaw 3 0)
cut_from (Ok c) wide code more e h = let f = sym e ∙ h in absurd cc
cut_from (Err f) wide code more e (inl h) = ap (λ (g : Flaw). Err g) h
cut_from (Err f) wide code more e (inr h) = let g = sym e ∙ h in absurd cc

pub image_cut : (version : ℕ) (code : Code) (bytes : List ℕ) (b : ℕ) (more : List ℕ) → Image version code (bytes ++ b ∷ more) →
    image_at bytes ≡ Err (flaw 3 0)
image_cut version code bytes b more i = cut_from (image_at bytes) (image_at (bytes ++ b ∷ more)) code (b ∷ more)
    (image_again version code (bytes ++ b ∷ more) i) (image_ends bytes b more)
