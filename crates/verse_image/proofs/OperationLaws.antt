-- An operation that is read is spelled so and its operands suit, and what is spelled so is read.
use Rattle.std.proofs.Common.{◌≡◌, ℕ, zero, suc, ◌+◌, ◌<◌, ◌≤◌, ℤ, pos, negsuc, Bool, true, false, cond, ltb, List, [], ◌∷◌, length, Option}
use Rattle.std.proofs.Common.{Some, None, slice_get, Result, Ok, Err, refl, sym, ap, subst, ◌∙◌, arith}
use Rattle.std.specs.List.{AllByRecursion}
use Rattle.std.proofs.lemmas.Option.{slice_get_within}
use Rattle.std.proofs.lemmas.Bool.{ltb-false, le-ltb, and_parts, and_from}
use Rattle.verse_code.specs.declared.operands.OperandKind.{OperandKind}
use Rattle.verse_code.specs.declared.operands.OperandKind.TheVariants as k
use Rattle.verse_code.specs.declared.operands.Operands.{Operands}
use Rattle.verse_code.specs.declared.operands.Operands.TheVariants as os
use Rattle.verse_code.specs.declared.operations.Op.{Op}
use Rattle.verse_code.specs.declared.operations.Op.TheVariants as o
use Rattle.verse_code.specs.declared.shapes.Shape.{Shape}
use Rattle.verse_code.specs.declared.shapes.Shape.TheVariants as s
use Rattle.verse_code.specs.declared.shapes.Parts.{Parts}
use Rattle.verse_code.specs.declared.validity.Sizes.{Sizes}
use Rattle.verse_code.specs.Operations.{code_of, operands_of}
use Rattle.verse_code.specs.Forms.{Form, bare, integer, one, two, three, four, forms, shape_of, made}
use Rattle.verse_code.specs.Agreement.{filled, shape_for, parts_for, HasForm}
use Rattle.verse_code.proofs.Agree.{right_at, right_forms, op_form}
use Rattle.verse_code.specs.Validity.{suits_kind, all_suit}
use Rattle.verse_image.specs.declared.faults.Flaw.{Flaw}
use Rattle.verse_image.specs.Format.{Field, ◌⨾◌, nothing, byte, number, operand, operands, operation, each}
use Rattle.verse_image.specs.Format as format
use Rattle.verse_image.specs.Reading.{◌>>=◌, flaw, number_at, integer_at, operand_at, parts, parts_at, form_at, op_at, ops_at}
use Rattle.verse_image.specs.Numbers.{IsBytes}
use Rattle.verse_image.proofs.NumberLaws.{rest_bytes, bind_ok, test_ok, ok_is, Takes, number_take, number_again, integer_take}
use Rattle.verse_image.proofs.NumberLaws.{integer_again, signed_once}
use Rattle.verse_image.proofs.TableLaws.{Once, once_then, once_number}

-- ---- operands

abbrev Suited : Sizes → ℕ → Operands → List ℕ → List ℕ → Type 0
Suited sizes at xs bytes rest = Takes (operands xs) bytes rest × (all_suit sizes at xs ≡ true)

operand_take : (sizes : Sizes) (at : ℕ) (kind : OperandKind) (bytes : List ℕ) (x : ℕ × List ℕ) → IsBytes bytes →
    operand_at sizes at kind bytes ≡ Ok x → Takes (number x.0) bytes x.1 × (suits_kind sizes at kind x.0 ≡ true)
unfolding operand_at
operand_take sizes at kind bytes x b e =
    let p = bind_ok (number_at bytes) (λ n. cond (suits_kind sizes at kind n.0) (Ok n) (Err (flaw 6 (length bytes)))) x e in
    let g = test_ok (suits_kind sizes at kind p.0.0) (flaw 6 (length bytes)) p.0 x p.2 in
    subst (λ (y : ℕ × List ℕ). Takes (number y.0) bytes y.1 × (suits_kind sizes at kind y.0 ≡ true)) g.1 (number_take bytes p.0 b p.1, g.0)

operand_again : (sizes : Sizes) (at : ℕ) (kind : OperandKind) (n : ℕ) (bytes rest : List ℕ) → number n bytes rest →
    suits_kind sizes at kind n ≡ true → operand_at sizes at kind bytes ≡ Ok (n, rest)
unfolding operand_at
operand_again sizes at kind n bytes rest h t = rw (number_again n bytes rest h, t) refl

parts_take : (sizes : Sizes) (at : ℕ) (shape : Shape) (bytes : List ℕ) (x : Parts × List ℕ) → IsBytes bytes →
    parts_at sizes at shape bytes ≡ Ok x → Suited sizes at (filled x.0 shape) bytes x.1
unfolding parts_at
parts_take sizes at s.Bare bytes x fits e =
    subst (λ (y : Parts × List ℕ). Suited sizes at os.Bare bytes y.1) (ok_is (parts (pos 0) 0 0 0 0, bytes) x e)
    (record { spelled = refl; fits = fits }, refl)
parts_take sizes at s.Integer bytes x fits e =
    let p = bind_ok (integer_at bytes) (λ n. Ok (parts n.0 0 0 0 0, n.1)) x e in
    let n = integer_take bytes p.0 fits p.1 in
    subst (λ (y : Parts × List ℕ). Suited sizes at (filled y.0 s.Integer) bytes y.1) (ok_is (parts p.0.0 0 0 0 0, p.0.1) x p.2)
    (record { spelled = n.spelled; fits = n.fits }, refl)
parts_take sizes at (s.One k) bytes x fits e =
    let p = bind_ok (operand_at sizes at k bytes) (λ a. Ok (parts (pos 0) a.0 0 0 0, a.1)) x e in
    let a = operand_take sizes at k bytes p.0 fits p.1 in
    subst (λ (y : Parts × List ℕ). Suited sizes at (filled y.0 (s.One k)) bytes y.1) (ok_is (parts (pos 0) p.0.0 0 0 0, p.0.1) x p.2)
    (record { spelled = a.0.spelled; fits = a.0.fits }, a.1)
parts_take sizes at (s.Two k l) bytes x fits e =
    let p = bind_ok (operand_at sizes at k bytes) (λ a. operand_at sizes at l a.1 >>= λ b. Ok (parts (pos 0) a.0 b.0 0 0, b.1)) x e in
    let q = bind_ok (operand_at sizes at l p.0.1) (λ b. Ok (parts (pos 0) p.0.0 b.0 0 0, b.1)) x p.2 in
    let a = operand_take sizes at k bytes p.0 fits p.1 in
    let b = operand_take sizes at l p.0.1 q.0 a.0.fits q.1 in
    subst (λ (y : Parts × List ℕ). Suited sizes at (filled y.0 (s.Two k l)) bytes y.1) (ok_is (parts (pos 0) p.0.0 q.0.0 0 0, q.0.1) x q.2)
    (record { spelled = (p.0.1, a.0.spelled, b.0.spelled); fits = b.0.fits }, and_from _ _ a.1 b.1)
parts_take sizes at (s.Three k l m) bytes x fits e =
    let p = bind_ok (operand_at sizes at k bytes) (λ a. operand_at sizes at l a.1 >>= λ b. operand_at sizes at m b.1 >>= λ c.
    Ok (parts (pos 0) a.0 b.0 c.0 0, c.1)) x e in
    let q = bind_ok (operand_at sizes at l p.0.1) (λ b. operand_at sizes at m b.1 >>= λ c. Ok (parts (pos 0) p.0.0 b.0 c.0 0, c.1)) x p.2 in
    let r = bind_ok (operand_at sizes at m q.0.1) (λ c. Ok (parts (pos 0) p.0.0 q.0.0 c.0 0, c.1)) x q.2 in
    let a = operand_take sizes at k bytes p.0 fits p.1 in
    let b = operand_take sizes at l p.0.1 q.0 a.0.fits q.1 in
    let c = operand_take sizes at m q.0.1 r.0 b.0.fits r.1 in
    subst (λ (y : Parts × List ℕ). Suited sizes at (filled y.0 (s.Three k l m)) bytes y.1)
    (ok_is (parts (pos 0) p.0.0 q.0.0 r.0.0 0, r.0.1) x r.2)
    (record { spelled = (q.0.1, (p.0.1, a.0.spelled, b.0.spelled), c.0.spelled); fits = c.0.fits }, and_from _ _ (and_from _ _ a.1 b.1) c.1)
parts_take sizes at (s.Four k l m n) bytes x fits e =
    let p = bind_ok (operand_at sizes at k bytes) (λ a. operand_at sizes at l a.1 >>= λ b. operand_at sizes at m b.1 >>= λ c.
    operand_at sizes at n c.1 >>= λ d. Ok (parts (pos 0) a.0 b.0 c.0 d.0, d.1)) x e in
    let q = bind_ok (operand_at sizes at l p.0.1) (λ b. operand_at sizes at m b.1 >>= λ c. operand_at sizes at n c.1 >>= λ d.
    Ok (parts (pos 0) p.0.0 b.0 c.0 d.0, d.1)) x p.2 in
    let r = bind_ok (operand_at sizes at m q.0.1) (λ c. operand_at sizes at n c.1 >>= λ d. Ok (parts (pos 0) p.0.0 q.0.0 c.0 d.0, d.1)) x
    q.2 in
    let t = bind_ok (operand_at sizes at n r.0.1) (λ d. Ok (parts (pos 0) p.0.0 q.0.0 r.0.0 d.0, d.1)) x r.2 in
    let a = operand_take sizes at k bytes p.0 fits p.1 in
    let b = operand_take sizes at l p.0.1 q.0 a.0.fits q.1 in
    let c = operand_take sizes at m q.0.1 r.0 b.0.fits r.1 in
    let d = operand_take sizes at n r.0.1 t.0 c.0.fits t.1 in
    subst (λ (y : Parts × List ℕ). Suited sizes at (filled y.0 (s.Four k l m n)) bytes y.1)
    (ok_is (parts (pos 0) p.0.0 q.0.0 r.0.0 t.0.0, t.0.1) x t.2) (
      record { spelled = (r.0.1, (q.0.1, (p.0.1, a.0.spelled, b.0.spelled), c.0.spelled), d.0.spelled); fits = d.0.fits },
      and_from _ _ (and_from _ _ (and_from _ _ a.1 b.1) c.1) d.1,
    )

parts_again : (sizes : Sizes) (at : ℕ) (xs : Operands) (bytes rest : List ℕ) → operands xs bytes rest → all_suit sizes at xs ≡ true →
    parts_at sizes at (shape_for xs) bytes ≡ Ok (parts_for xs, rest)
unfolding parts_at
parts_again sizes at os.Bare bytes rest h t = ap (λ w. Ok (parts (pos 0) 0 0 0 0, w)) h
parts_again sizes at (os.Integer n) bytes rest h t = rw (integer_again n bytes rest h) refl
parts_again sizes at (os.One a) bytes rest h t = rw (operand_again sizes at a.0 a.1 bytes rest h t) refl
parts_again sizes at (os.Two a b) bytes rest h t =
    let u = and_parts _ _ t in
    rw (operand_again sizes at a.0 a.1 bytes h.0 h.1 u.0, operand_again sizes at b.0 b.1 h.0 rest h.2 u.1) refl
parts_again sizes at (os.Three a b c) bytes rest h t =
    let u = and_parts _ _ t in
    let v = and_parts _ _ u.0 in
    rw (
      operand_again sizes at a.0 a.1 bytes h.1.0 h.1.1 v.0,
      operand_again sizes at b.0 b.1 h.1.0 h.0 h.1.2 v.1,
      operand_again sizes at c.0 c.1 h.0 rest h.2 u.1,
    ) refl
parts_again sizes at (os.Four a b c d) bytes rest h t =
    let u = and_parts _ _ t in
    let v = and_parts _ _ u.0 in
    let w = and_parts _ _ v.0 in
    rw (
      operand_again sizes at a.0 a.1 bytes h.1.1.0 h.1.1.1 w.0,
      operand_again sizes at b.0 b.1 h.1.1.0 h.1.0 h.1.1.2 w.1,
      operand_again sizes at c.0 c.1 h.1.0 h.0 h.1.2 v.1,
      operand_again sizes at d.0 d.1 h.0 rest h.2 u.1,
    ) refl

-- ---- one operation

pub record IsOp (sizes : Sizes) (top at : ℕ) (bytes : List ℕ) (x : Op × List ℕ) : Type 0 where
  pub takes : Takes (operation x.0) bytes x.1
  pub suits_all : all_suit sizes at (operands_of x.0) ≡ true
  pub code : code_of x.0 ≤ top

form_take : (sizes : Sizes) (at left code : ℕ) (tail : List ℕ) (f : Option Form) (x : Op × List ℕ) (top : ℕ) → slice_get forms code ≡ f →
    code ≤ top → IsBytes tail → form_at sizes at left f tail ≡ Ok x → IsOp sizes top at (code ∷ tail) x
unfolding form_at
form_take sizes at left code tail None x top is le fits e = absurd cc
form_take sizes at left code tail (Some f) x top is le fits e =
    let p = bind_ok (parts_at sizes at (shape_of f) tail) (λ p. Ok (made p.0 f, p.1)) x e in
    let t = parts_take sizes at (shape_of f) tail p.0 fits p.1 in
    let r = right_at forms 0 code f right_forms is p.0.0 in
    let code_is : code_of (made p.0.0 f) ≡ code = r.0 ∙ omega arith in
    let spelled : operands (operands_of (made p.0.0 f)) tail p.0.1 =
    subst (λ (xs : Operands). operands xs tail p.0.1) (sym r.1) t.0.spelled in
    let suited : all_suit sizes at (operands_of (made p.0.0 f)) ≡ true = ap (all_suit sizes at) r.1 ∙ t.1 in
    subst (IsOp sizes top at (code ∷ tail)) (ok_is (made p.0.0 f, p.0.1) x p.2)
    (record {
      takes = record { spelled = (tail, ap (λ (c : ℕ). c ∷ tail) (sym code_is), spelled); fits = t.0.fits };
      suits_all =
          suited;
      code = subst (λ (c : ℕ). c ≤ top) (sym code_is) le;
    })

op_bad : (b : Bool) (d : Flaw) (r : Result (Op × List ℕ) Flaw) (x : Op × List ℕ) → cond b (Err d) r ≡ Ok x → (b ≡ false) × (r ≡ Ok x)
op_bad true d r x e = absurd cc
op_bad false d r x e = (refl, e)

pub op_take : (sizes : Sizes) (top at : ℕ) (bytes : List ℕ) (x : Op × List ℕ) → IsBytes bytes → op_at sizes top at bytes ≡ Ok x →
    IsOp sizes top at bytes x
unfolding op_at
op_take sizes top at [] x fits e = absurd cc
op_take sizes top at (code ∷ tail) x fits e =
    let g = op_bad (ltb top code) (flaw 6 (length (code ∷ tail))) (form_at sizes at (length (code ∷ tail)) (slice_get forms code) tail) x e
    in
    form_take sizes at (length (code ∷ tail)) code tail (slice_get forms code) x top refl (ltb-false top code g.0)
    (rest_bytes code tail fits) g.1

pub op_again : (sizes : Sizes) (top at : ℕ) (op : Op) (bytes rest : List ℕ) → operation op bytes rest →
    all_suit sizes at (operands_of op) ≡ true → code_of op ≤ top → op_at sizes top at bytes ≡ Ok (op, rest)
unfolding op_at form_at
op_again sizes top at op bytes rest h t le =
    let f = op_form op in
    let test : ltb top (code_of op) ≡ false = le-ltb _ _ le in
    let got : parts_at sizes at (shape_of f.form) h.0 ≡ Ok (parts_for (operands_of op), rest) =
    ap (λ (z : Shape). parts_at sizes at z h.0) f.shaped ∙ parts_again sizes at (operands_of op) h.0 rest h.2 t in
    ap (op_at sizes top at) h.1 ∙ rw (test, f.at, got, f.makes) refl

-- ---- so many

abbrev pub SuitFrom : Sizes → ℕ → ℕ → List Op → Type 0
SuitFrom sizes top at [] = Unit {0}
SuitFrom sizes top at (op ∷ ops) = ((all_suit sizes at (operands_of op) ≡ true) × (code_of op ≤ top)) × SuitFrom sizes top (suc at) ops

pub record AreOps (sizes : Sizes) (top at n : ℕ) (bytes : List ℕ) (x : List Op × List ℕ) : Type 0 where
  pub takes : Takes (each operation x.0) bytes x.1
  pub count : length x.0 ≡ n
  pub suit : SuitFrom sizes top at x.0

pub ops_take : (sizes : Sizes) (top at n : ℕ) (bytes : List ℕ) (x : List Op × List ℕ) → IsBytes bytes → ops_at sizes top at n bytes ≡ Ok x →
    AreOps sizes top at n bytes x
unfolding ops_at
ops_take sizes top at zero bytes x fits e =
    subst (AreOps sizes top at 0 bytes) (ok_is ([], bytes) x e)
    (record { takes = record { spelled = refl; fits = fits }; count = refl; suit = tt })
ops_take sizes top at (suc n) bytes x fits e =
    let p = bind_ok (op_at sizes top at bytes) (λ first. ops_at sizes top (suc at) n first.1 >>= λ others.
    Ok (first.0 ∷ others.0, others.1)) x e in
    let q = bind_ok (ops_at sizes top (suc at) n p.0.1) (λ others. Ok (p.0.0 ∷ others.0, others.1)) x p.2 in
    let first = op_take sizes top at bytes p.0 fits p.1 in
    let others = ops_take sizes top (suc at) n p.0.1 q.0 first.takes.fits q.1 in
    subst (AreOps sizes top at (suc n) bytes) (ok_is (p.0.0 ∷ q.0.0, q.0.1) x q.2)
    (record {
      takes = record { spelled = (p.0.1, first.takes.spelled, others.takes.spelled); fits = others.takes.fits };
      count =
          ap suc others.count;
      suit = ((first.suits_all, first.code), others.suit);
    })

pub ops_again : (sizes : Sizes) (top at : ℕ) (ops : List Op) (bytes rest : List ℕ) → SuitFrom sizes top at ops →
    each operation ops bytes rest → ops_at sizes top at (length ops) bytes ≡ Ok (ops, rest)
unfolding ops_at
ops_again sizes top at [] bytes rest t h = ap (λ w. Ok ([], w)) h
ops_again sizes top at (op ∷ ops) bytes rest t h =
    rw (op_again sizes top at op bytes h.0 h.1 t.0.0 t.0.1, ops_again sizes top (suc at) ops h.0 rest t.1 h.2) refl

-- ---- one spelling

pub once_integer : (n : ℤ) → Once (format.integer n)
once_integer (pos n) a b rest h k = signed_once h.1 k.1
once_integer (negsuc n) a b rest h k = signed_once h.1 k.1

pub once_nothing : Once nothing
once_nothing a b rest h k = h ∙ sym k

pub once_byte : (n : ℕ) → Once (byte n)
once_byte n a b rest h k = h ∙ sym k

once_operands : (xs : Operands) → Once (operands xs)
once_operands os.Bare = once_nothing
once_operands (os.Integer n) = once_integer n
once_operands (os.One a) = once_number a.1
once_operands (os.Two a b) = once_then (operand a) (operand b) (once_number a.1) (once_number b.1)
once_operands (os.Three a b c) = once_then (operand a ⨾ operand b) (operand c)
    (once_then (operand a) (operand b) (once_number a.1) (once_number b.1)) (once_number c.1)
once_operands (os.Four a b c d) =
    once_then (operand a ⨾ operand b ⨾ operand c) (operand d)
    (once_then (operand a ⨾ operand b) (operand c) (once_then (operand a) (operand b) (once_number a.1) (once_number b.1))
    (once_number c.1)) (once_number d.1)

pub once_operation : (op : Op) → Once (operation op)
once_operation op = once_then (byte (code_of op)) (operands (operands_of op)) (once_byte (code_of op)) (once_operands (operands_of op))

-- no code is above those of the forms
pub code_most : (op : Op) → code_of op ≤ 66
code_most op = let h = op_form op in let lt : code_of op < 67 = slice_get_within forms (code_of op) h.form h.at in omega arith

-- ---- by index

pub suit_at : (sizes : Sizes) (top from i : ℕ) (ops : List Op) (op : Op) → SuitFrom sizes top from ops → slice_get ops i ≡ Some op →
    all_suit sizes (from + i) (operands_of op) ≡ true
suit_at sizes top from i [] op h e = absurd cc
suit_at sizes top from zero (first ∷ ops) op h e =
    let same : first ≡ op = cc in
    let here : from ≡ from + 0 = omega arith in
    subst (λ (a : ℕ). all_suit sizes a (operands_of op) ≡ true) here
    (subst (λ (x : Op). all_suit sizes from (operands_of x) ≡ true) same h.0.0)
suit_at sizes top from (suc i) (first ∷ ops) op h e =
    let there : suc from + i ≡ from + suc i = omega arith in
    subst (λ (a : ℕ). all_suit sizes a (operands_of op) ≡ true) there (suit_at sizes top (suc from) i ops op h.1 e)

pub suit_codes : (sizes : Sizes) (top from : ℕ) (ops : List Op) → SuitFrom sizes top from ops → AllByRecursion (λ op. code_of op ≤ top) ops
suit_codes sizes top from [] h = tt
suit_codes sizes top from (op ∷ ops) h = (h.0.1, suit_codes sizes top (suc from) ops h.1)

pub suit_from : (sizes : Sizes) (top from : ℕ) (ops : List Op) →
    ((i : ℕ) (op : Op) → slice_get ops i ≡ Some op → all_suit sizes (from + i) (operands_of op) ≡ true) →
    AllByRecursion (λ op. code_of op ≤ top) ops → SuitFrom sizes top from ops
suit_from sizes top from [] h codes = tt
suit_from sizes top from (op ∷ ops) h codes =
    let here : from + 0 ≡ from = omega arith in (
      (subst (λ (a : ℕ). all_suit sizes a (operands_of op) ≡ true) here (h 0 op refl), codes.0),
      suit_from sizes top (suc from) ops (λ i x e. let there : from + suc i ≡ suc from + i = omega arith in
          subst (λ (a : ℕ). all_suit sizes a (operands_of x) ≡ true) there (h (suc i) x e)) codes.1,
    )

pub codes_most : (ops : List Op) → AllByRecursion (λ op. code_of op ≤ 66) ops
codes_most [] = tt
codes_most (op ∷ ops) = (code_most op, codes_most ops)
