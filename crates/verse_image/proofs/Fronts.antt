-- A failing place is one of the bytes, or their end: and what is before it has no fault but that it ends.
use Rattle.std.proofs.Common.{◌≡◌, ℕ, zero, suc, ◌+◌, ◌-◌, ◌*◌, ◌<◌, ◌≤◌, ◌⊎◌, inl, inr, pos, Bool, true, false, cond, ltb, leb, eqb, ◌&&◌}
use Rattle.std.proofs.Common.{◌||◌, List, [], ◌∷◌, ◌++◌, length, take, drop, Option, Some, None, slice_get, Result, Ok, Err, refl, sym, ap}
use Rattle.std.proofs.Common.{subst, ◌∙◌, arith, length-drop, take-append-drop}
use Rattle.verse_base.specs.declared.places.Place.{Place}
use Rattle.verse_code.specs.declared.operands.OperandKind.{OperandKind}
use Rattle.verse_code.specs.declared.operations.Op.{Op}
use Rattle.verse_code.specs.declared.shapes.Shape.{Shape}
use Rattle.verse_code.specs.declared.shapes.Shape.TheVariants as s
use Rattle.verse_code.specs.declared.shapes.Parts.{Parts}
use Rattle.verse_code.specs.declared.codes.Func.{Func}
use Rattle.verse_code.specs.declared.codes.Code.{Code}
use Rattle.verse_code.specs.declared.validity.Sizes.{Sizes}
use Rattle.verse_code.specs.Forms.{Form, forms, shape_of, made}
use Rattle.verse_code.specs.Validity.{suits_kind}
use Rattle.verse_image.specs.declared.faults.Flaw.{Flaw}
use Rattle.verse_image.specs.Format.{mark}
use Rattle.verse_image.specs.Reading.{◌>>=◌, Reader, flaw, byte_at, digits_at, with_high, number_at, within_at, signed_digits_at}
use Rattle.verse_image.specs.Reading.{signed_with_high, with_sign, integer_at, many_at, table_at, text_at, place_at, function_at, class_at}
use Rattle.verse_image.specs.Reading.{may_begin, main_at, operand_at, parts, parts_at, form_at, op_at, ops_at, letter_at, mark_at}
use Rattle.verse_image.specs.Reading.{version_at, top_of, head_at, tables_at, sizes_with, code_with, ended, image_at}
use Rattle.verse_image.specs.Faults.{FrontOf, FrontHasNoFault}
use Rattle.verse_image.proofs.Locality.{Ends, image_ends}

-- of so many bytes: what is left is no more, and a failing place is one of them, or their end
abbrev Firm : {A : Type 0} → ℕ → Result (A × List ℕ) Flaw → Type 0
Firm len (Ok x) = length x.1 ≤ len
Firm len (Err f) = (f ≡ flaw 3 0) ⊎ ((0 < f.left) × (f.left ≤ len))

abbrev AllFirm : {A : Type 0} → Reader A → Type 0
AllFirm read = (bytes : List ℕ) → Firm (length bytes) (read bytes)

wider : {A : Type 0} (len more : ℕ) (r : Result (A × List ℕ) Flaw) → len ≤ more → Firm len r → Firm more r
wider len more (Ok x) h f = omega arith
wider len more (Err e) h (inl f) = inl f
wider len more (Err e) h (inr f) = let a = f.0 in let b = f.1 in inr (a, omega arith)

firm_then : {A B : Type 0} (len : ℕ) (r : Result (A × List ℕ) Flaw) (f : A × List ℕ → Result (B × List ℕ) Flaw) → Firm len r →
    ((x : A × List ℕ) → Firm (length x.1) (f x)) → Firm len (r >>= f)
firm_then len (Ok x) f h k = wider (length x.1) len (f x) h (k x)
firm_then len (Err e) f h k = h

-- a test of the value, with the field's own bytes left where it fails
firm_test : {A : Type 0} (len left rule : ℕ) (x : A × List ℕ) (t : Bool) → length x.1 ≤ len → 0 < left → left ≤ len →
    Firm len (cond t (Ok x) (Err (flaw rule left)))
firm_test len left rule x true h g f = h
firm_test len left rule x false h g f = inr (g, f)

byte_firm : AllFirm byte_at
byte_firm [] = inl refl
byte_firm (b ∷ rest) = omega arith

-- ---- numbers

digits_firm : (most end left len : ℕ) (bytes : List ℕ) → 0 < left → left ≤ len → length bytes ≤ len →
    Firm len (digits_at most end left bytes)
unfolding digits_at
digits_firm zero end left len bytes g f h = inr (g, f)
digits_firm (suc most) end left len [] g f h = inl refl
digits_firm (suc most) end left len (b ∷ rest) g f h = tested (ltb b 128) (digits_firm most end left len rest g f (omega arith))
  where
    high : (x : ℕ × List ℕ) → length x.1 ≤ len → Firm len (with_high end left b x)
    high x k = firm_test len left 4 (b - 128 + 128 * x.0, x.1) (ltb 0 x.0 && ltb (b - 128 + 128 * x.0) end) k g f

    behind : (r : Result (ℕ × List ℕ) Flaw) → Firm len r → Firm len (r >>= with_high end left b)
    behind (Ok x) k = high x k
    behind (Err e) k = k

    tested : (t : Bool) → Firm len (digits_at most end left rest) →
        Firm len (cond t (Ok (b, rest)) (digits_at most end left rest >>= with_high end left b))
    tested true k = omega arith
    tested false k = behind (digits_at most end left rest) k

number_firm : AllFirm number_at
unfolding number_at digits_at
number_firm [] = inl refl
number_firm (b ∷ rest) = digits_firm 5 4294967296 (length (b ∷ rest)) (length (b ∷ rest)) (b ∷ rest) (omega arith) (omega arith)
    (omega arith)

-- a number, and a test of it
tested_firm : (rule : ℕ) (t : ℕ → Bool) → AllFirm (λ bytes. number_at bytes >>= λ n. cond (t n.0) (Ok n) (Err (flaw rule (length bytes))))
unfolding number_at digits_at
tested_firm rule t [] = inl refl
tested_firm rule t (b ∷ rest) = behind (number_at (b ∷ rest)) (number_firm (b ∷ rest))
  where
    behind : (r : Result (ℕ × List ℕ) Flaw) → Firm (length (b ∷ rest)) r →
        Firm (length (b ∷ rest)) (r >>= λ n. cond (t n.0) (Ok n) (Err (flaw rule (length (b ∷ rest)))))
    behind (Ok x) k = firm_test (length (b ∷ rest)) (length (b ∷ rest)) rule x (t x.0) k (omega arith) (omega arith)
    behind (Err e) k = k

within_firm : (least end : ℕ) → AllFirm (within_at least end)
unfolding within_at
within_firm least end bytes = tested_firm 5 (λ n. leb least n && ltb n end) bytes

signed_firm : (most end left len : ℕ) (bytes : List ℕ) → 0 < left → left ≤ len → length bytes ≤ len →
    Firm len (signed_digits_at most end left bytes)
unfolding signed_digits_at
signed_firm zero end left len bytes g f h = inr (g, f)
signed_firm (suc most) end left len [] g f h = inl refl
signed_firm (suc most) end left len (b ∷ rest) g f h = first (ltb b 64) (ltb b 128) (signed_firm most end left len rest g f (omega arith))
  where
    high : (x : (Bool × ℕ) × List ℕ) → length x.1 ≤ len → Firm len (signed_with_high end left b x)
    high x k = firm_test len left 4 ((x.0.0, x.0.1 * 128 + cond x.0.0 (127 - (b - 128)) (b - 128)), x.1) _ k g f

    behind : (r : Result ((Bool × ℕ) × List ℕ) Flaw) → Firm len r → Firm len (r >>= signed_with_high end left b)
    behind (Ok x) k = high x k
    behind (Err e) k = k

    first : (t u : Bool) → Firm len (signed_digits_at most end left rest) →
        Firm {A = Bool × ℕ} len (cond t (Ok ((false, b), rest))
        (cond u (Ok ((true, 127 - b), rest)) (signed_digits_at most end left rest >>= signed_with_high end left b)))
    first true u k = omega arith
    first false true k = omega arith
    first false false k = behind (signed_digits_at most end left rest) k

integer_firm : AllFirm integer_at
unfolding integer_at signed_digits_at
integer_firm [] = inl refl
integer_firm (b ∷ rest) =
    firm_then (length (b ∷ rest)) (signed_digits_at 10 9223372036854775808 (length (b ∷ rest)) (b ∷ rest))
    (λ n. Ok (with_sign n.0.0 n.0.1, n.1))
    (signed_firm 10 9223372036854775808 (length (b ∷ rest)) (length (b ∷ rest)) (b ∷ rest) (omega arith) (omega arith) (omega arith))
    (λ n. omega arith)

-- ---- tables

many_firm : {A : Type 0} (one : Reader A) → AllFirm one → (n : ℕ) → AllFirm (many_at one n)
unfolding many_at
many_firm one h zero bytes = omega arith
many_firm one h (suc n) bytes =
    firm_then (length bytes) (one bytes) _ (h bytes)
    (λ first. firm_then (length first.1) (many_at one n first.1) _ (many_firm one h n first.1) (λ others. omega arith))

table_firm : {A : Type 0} (one : Reader A) → AllFirm one → AllFirm (table_at one)
unfolding table_at
table_firm one h bytes = firm_then (length bytes) (number_at bytes) _ (number_firm bytes) (λ n. many_firm one h n.0 n.1)

text_firm : AllFirm text_at
unfolding text_at
text_firm bytes = firm_then (length bytes) (within_at 0 4000000 bytes) _ (within_firm 0 4000000 bytes)
    (λ n. tested n (ltb (length n.1) n.0))
  where
    tested : (n : ℕ × List ℕ) (t : Bool) → Firm (length n.1) (cond t (Err (flaw 3 0)) (Ok (take n.0 n.1, drop n.0 n.1)))
    tested n true = inl refl
    tested n false = omega (arith, length-drop n.0 n.1)

place_firm : (files : ℕ) → AllFirm (place_at files)
unfolding place_at
place_firm files bytes =
    firm_then (length bytes) (within_at 0 files bytes) _ (within_firm 0 files bytes) (λ file.
    firm_then (length file.1) (within_at 1 4294967296 file.1) _ (within_firm 1 4294967296 file.1) (λ line.
    firm_then (length line.1) (within_at 1 4294967296 line.1) _ (within_firm 1 4294967296 line.1) (λ col. omega arith)))

function_firm : (ops : ℕ) → AllFirm (function_at ops)
unfolding function_at
function_firm ops bytes =
    firm_then (length bytes) (number_at bytes) _ (number_firm bytes) (λ params.
    firm_then (length params.1) (within_at params.0 16777217 params.1) _ (within_firm params.0 16777217 params.1) (λ locals.
    firm_then (length locals.1) (within_at 0 ops locals.1) _ (within_firm 0 ops locals.1) (λ entry.
    firm_then (length entry.1) (within_at 0 2 entry.1) _ (within_firm 0 2 entry.1) (λ suspends. omega arith))))

class_firm : (functions : ℕ) → AllFirm (class_at functions)
unfolding class_at
class_firm functions bytes =
    firm_then (length bytes) (number_at bytes) _ (number_firm bytes) (λ slots.
    firm_then (length slots.1) (table_at (within_at 0 functions) slots.1) _
    (table_firm (within_at 0 functions) (within_firm 0 functions) slots.1) (λ methods. omega arith))

main_firm : (functions : List Func) → AllFirm (main_at functions)
unfolding main_at
main_firm functions bytes = tested_firm 5 (λ n. may_begin (slice_get functions n)) bytes

-- ---- operations

operand_firm : (sizes : Sizes) (at : ℕ) (kind : OperandKind) → AllFirm (operand_at sizes at kind)
unfolding operand_at
operand_firm sizes at kind bytes = tested_firm 6 (λ n. suits_kind sizes at kind n) bytes

parts_firm : (sizes : Sizes) (at : ℕ) (shape : Shape) → AllFirm (parts_at sizes at shape)
unfolding parts_at
parts_firm sizes at s.Bare bytes = omega arith
parts_firm sizes at s.Integer bytes = firm_then (length bytes) (integer_at bytes) _ (integer_firm bytes) (λ n. omega arith)
parts_firm sizes at (s.One k) bytes = firm_then (length bytes) (operand_at sizes at k bytes) _ (operand_firm sizes at k bytes)
    (λ a. omega arith)
parts_firm sizes at (s.Two k l) bytes =
    firm_then (length bytes) (operand_at sizes at k bytes) _ (operand_firm sizes at k bytes) (λ a.
    firm_then (length a.1) (operand_at sizes at l a.1) _ (operand_firm sizes at l a.1) (λ b. omega arith))
parts_firm sizes at (s.Three k l m) bytes =
    firm_then (length bytes) (operand_at sizes at k bytes) _ (operand_firm sizes at k bytes) (λ a.
    firm_then (length a.1) (operand_at sizes at l a.1) _ (operand_firm sizes at l a.1) (λ b.
    firm_then (length b.1) (operand_at sizes at m b.1) _ (operand_firm sizes at m b.1) (λ c. omega arith)))
parts_firm sizes at (s.Four k l m n) bytes =
    firm_then (length bytes) (operand_at sizes at k bytes) _ (operand_firm sizes at k bytes) (λ a.
    firm_then (length a.1) (operand_at sizes at l a.1) _ (operand_firm sizes at l a.1) (λ b.
    firm_then (length b.1) (operand_at sizes at m b.1) _ (operand_firm sizes at m b.1) (λ c.
    firm_then (length c.1) (operand_at sizes at n c.1) _ (operand_firm sizes at n c.1) (λ d. omega arith))))

form_firm : (sizes : Sizes) (at left len : ℕ) (f : Option Form) (bytes : List ℕ) → 0 < left → left ≤ len → length bytes ≤ len →
    Firm len (form_at sizes at left f bytes)
unfolding form_at
form_firm sizes at left len None bytes g h k = inr (g, h)
form_firm sizes at left len (Some form) bytes g h k =
    wider (length bytes) len _ k (firm_then (length bytes) (parts_at sizes at (shape_of form) bytes) (λ p. Ok (made p.0 form, p.1))
    (parts_firm sizes at (shape_of form) bytes) (λ p. omega arith))

op_firm : (sizes : Sizes) (top at : ℕ) → AllFirm (op_at sizes top at)
unfolding op_at
op_firm sizes top at [] = inl refl
op_firm sizes top at (code ∷ rest) = tested (ltb top code)
  where
    tested : (t : Bool) → Firm (length (code ∷ rest))
        (cond t (Err (flaw 6 (length (code ∷ rest)))) (form_at sizes at (length (code ∷ rest)) (slice_get forms code) rest))
    tested true = inr (omega arith, omega arith)
    tested false = form_firm sizes at (length (code ∷ rest)) (length (code ∷ rest)) (slice_get forms code) rest (omega arith) (omega arith)
        (omega arith)

ops_firm : (sizes : Sizes) (top at n : ℕ) → AllFirm (ops_at sizes top at n)
unfolding ops_at
ops_firm sizes top at zero bytes = omega arith
ops_firm sizes top at (suc n) bytes =
    firm_then (length bytes) (op_at sizes top at bytes) _ (op_firm sizes top at bytes) (λ first.
    firm_then (length first.1) (ops_at sizes top (suc at) n first.1) _ (ops_firm sizes top (suc at) n first.1) (λ others. omega arith))

-- ---- how the image begins

-- the same for bytes with no value before them
abbrev Plain : ℕ → Result (List ℕ) Flaw → Type 0
Plain len (Ok rest) = length rest ≤ len
Plain len (Err f) = (f ≡ flaw 3 0) ⊎ ((0 < f.left) × (f.left ≤ len))

plain_then : (len : ℕ) (r : Result (List ℕ) Flaw) (f : List ℕ → Result (List ℕ) Flaw) → Plain len r →
    ((x : List ℕ) → length x ≤ len → Plain len (f x)) → Plain len (r >>= f)
plain_then len (Ok x) f h k = k x h
plain_then len (Err e) f h k = h

firm_behind : {B : Type 0} (len : ℕ) (r : Result (List ℕ) Flaw) (f : List ℕ → Result (B × List ℕ) Flaw) → Plain len r →
    ((x : List ℕ) → Firm (length x) (f x)) → Firm len (r >>= f)
firm_behind len (Ok x) f h k = wider (length x) len (f x) h (k x)
firm_behind len (Err e) f h k = h

letter_firm : (letter left len : ℕ) (bytes : List ℕ) → 0 < left → left ≤ len → length bytes ≤ len → Plain len (letter_at letter left bytes)
unfolding letter_at
letter_firm letter left len [] g f h = inl refl
letter_firm letter left len (b ∷ rest) g f h = tested (eqb b letter)
  where
    tested : (t : Bool) → Plain len (cond t (Ok rest) (Err (flaw 1 left)))
    tested true = omega arith
    tested false = inr (g, f)

letters_firm : (letters : List ℕ) (left len : ℕ) (bytes : List ℕ) → 0 < left → left ≤ len → length bytes ≤ len →
    Plain len (mark_at letters left bytes)
letters_firm [] left len bytes g f h = h
letters_firm (letter ∷ letters) left len bytes g f h =
    plain_then len (letter_at letter left bytes) (mark_at letters left) (letter_firm letter left len bytes g f h)
    (λ x k. letters_firm letters left len x g f k)

mark_firm : (bytes : List ℕ) → Plain (length bytes) (mark_at mark (length bytes) bytes)
unfolding letter_at
mark_firm [] = inl refl
mark_firm (b ∷ rest) = letters_firm mark (length (b ∷ rest)) (length (b ∷ rest)) (b ∷ rest) (omega arith) (omega arith) (omega arith)

version_firm : AllFirm version_at
unfolding version_at
version_firm [] = inl refl
version_firm (b ∷ rest) = firm_test (length (b ∷ rest)) (length (b ∷ rest)) 2 (b, rest) (eqb b 1 || eqb b 2) (omega arith) (omega arith)
    (omega arith)

head_firm : AllFirm head_at
unfolding head_at
head_firm bytes =
    firm_behind (length bytes) (mark_at mark (length bytes) bytes) _ (mark_firm bytes) (λ behind.
    firm_then (length behind) (version_at behind) _ (version_firm behind) (λ version.
    firm_then (length version.1) (within_at 1 17 version.1) _ (within_firm 1 17 version.1) (λ files.
    firm_then (length files.1) (within_at 1 16777217 files.1) _ (within_firm 1 16777217 files.1) (λ ops. omega arith))))

tables_firm : (files ops : ℕ) → AllFirm (tables_at files ops)
unfolding tables_at
tables_firm files ops bytes =
    firm_then (length bytes) (table_at text_at bytes) _ (table_firm text_at text_firm bytes) (λ texts.
    firm_then (length texts.1) (table_at (place_at files) texts.1) _ (table_firm (place_at files) (place_firm files) texts.1) (λ places.
    firm_then (length places.1) (table_at (function_at ops) places.1) _ (table_firm (function_at ops) (function_firm ops) places.1)
    (λ functions.
    firm_then (length functions.1) (table_at (class_at (length functions.0)) functions.1) _
    (table_firm (class_at (length functions.0)) (class_firm (length functions.0)) functions.1) (λ classes.
    firm_then (length classes.1) (main_at functions.0 classes.1) _ (main_firm functions.0 classes.1) (λ main. omega arith)))))

-- ---- the image

abbrev Whole : ℕ → Result Code Flaw → Type 0
Whole len (Ok code) = Unit {0}
Whole len (Err f) = (f ≡ flaw 3 0) ⊎ ((0 < f.left) × (f.left ≤ len))

whole_then : {A : Type 0} (len : ℕ) (r : Result (A × List ℕ) Flaw) (f : A × List ℕ → Result Code Flaw) → Firm len r →
    ((x : A × List ℕ) → Whole (length x.1) (f x)) → Whole len (r >>= f)
whole_then len (Ok x) f h k = wide (f x) (k x)
  where
    wide : (r : Result Code Flaw) → Whole (length x.1) r → Whole len r
    wide (Ok code) w = tt
    wide (Err e) (inl w) = inl w
    wide (Err e) (inr w) = let a = w.0 in let b = w.1 in inr (a, omega arith)
whole_then len (Err e) f h k = h

ended_whole : (code : Code) (rest : List ℕ) → Whole (length rest) (ended code rest)
ended_whole code [] = tt
ended_whole code (b ∷ rest) = inr (omega arith, omega arith)

image_whole : (bytes : List ℕ) → Whole (length bytes) (image_at bytes)
unfolding image_at
image_whole bytes =
    whole_then (length bytes) (head_at bytes) _ (head_firm bytes) (λ h.
    whole_then (length h.1) (tables_at h.0.1 h.0.2 h.1) _ (tables_firm h.0.1 h.0.2 h.1) (λ t.
    whole_then (length t.1) (ops_at (sizes_with h.0.2 t.0) (top_of h.0.0) 0 h.0.2 t.1) _
    (ops_firm (sizes_with h.0.2 t.0) (top_of h.0.0) 0 h.0.2 t.1) (λ ops.
    ended_whole (code_with h.0.1 t.0 ops.0) ops.1)))

-- what a front gives, by what it gives with more bytes behind it
front_is : (f : Flaw) (more : List ℕ) (r wide : Result Code Flaw) (len : ℕ) → wide ≡ Err f → length more ≡ f.left → Whole len r →
    Ends more r wide → FrontOf f.rule r
front_is f more (Ok code) wide len e h w x = let g : Err f ≡ Err (flaw 7 (length more)) = sym e ∙ x in let i : f ≡ flaw 7 (length more) =
    cc in ap (λ (k : Flaw). k.rule) i
front_is f more (Err g) wide len e h w (inl x) = x
front_is f more (Err g) wide len e h (inl w) (inr x) = w
front_is f more (Err g) wide len e h (inr w) (inr x) =
    let same : Err f ≡ Err (flaw g.rule (g.left + length more)) = sym e ∙ x in
    let i : f ≡ flaw g.rule (g.left + length more) = cc in
    let left : f.left ≡ g.left + length more = ap (λ (k : Flaw). k.left) i in
    let some = w.0 in
    absurd (omega arith)

pub front_has_no_fault : FrontHasNoFault
front_has_no_fault bytes f e = by_whole (image_at bytes) e (image_whole bytes)
  where
    by_front : 0 < f.left → (front behind : List ℕ) → bytes ≡ front ++ behind → length behind ≡ f.left → FrontOf f.rule (image_at front)
    by_front some front [] split h = absurd (omega arith)
    by_front some front (b ∷ more) split h =
        front_is f (b ∷ more) (image_at front) (image_at (front ++ b ∷ more)) (length front) (ap image_at (sym split) ∙ e) h
        (image_whole front) (image_ends front b more)

    by_whole : (r : Result Code Flaw) → r ≡ Err f → Whole (length bytes) r →
        (f ≡ flaw 3 0) ⊎ ((f.left ≤ length bytes) × ((front behind : List ℕ) → bytes ≡ front ++ behind → length behind ≡ f.left →
        FrontOf f.rule (image_at front)))
    by_whole (Ok code) g w = absurd (cc)
    by_whole (Err k) g (inl w) = let same : k ≡ f = cc in inl (sym same ∙ w)
    by_whole (Err k) g (inr w) =
        let same : k ≡ f = cc in
        let some = subst (λ (x : Flaw). 0 < x.left) same w.0 in
        inr (subst (λ (x : Flaw). x.left ≤ length bytes) same w.1, by_front some)

-- the same, by the offset of the failing place
pub none_before : (bytes : List ℕ) (f : Flaw) (at : ℕ) → image_at bytes ≡ Err f → at ≡ length bytes - f.left →
    (f.rule ≡ 3) ⊎ FrontOf f.rule (image_at (take at bytes))
none_before bytes f at e h = by_front (front_has_no_fault bytes f e)
  where
    by_front : (f ≡ flaw 3 0) ⊎ ((f.left ≤ length bytes) × ((front behind : List ℕ) → bytes ≡ front ++ behind → length behind ≡ f.left →
        FrontOf f.rule (image_at front))) → (f.rule ≡ 3) ⊎ FrontOf f.rule (image_at (take at bytes))
    by_front (inl g) = inl (ap (λ (k : Flaw). k.rule) g)
    by_front (inr g) = let bound = g.0 in inr
        (g.1 (take at bytes) (drop at bytes) (sym (take-append-drop at bytes)) (omega (arith, length-drop at bytes)))
