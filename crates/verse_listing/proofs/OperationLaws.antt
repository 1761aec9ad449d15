-- A line that gives an operation is written so, and what is written so gives it.
use Rattle.std.proofs.Common.{◌≡◌, ℕ, zero, suc, ◌+◌, ◌<◌, ℤ, pos, negsuc, Bool, true, false, cond, not, ◌&&◌, eqb, List, [], ◌∷◌, ◌++◌}
use Rattle.std.proofs.Common.{length}
use Rattle.std.proofs.Common.{decimal, Option, Some, None, slice_get, Result, Ok, Err, refl, sym, ap, subst, ◌∙◌, arith}
use Rattle.std.specs.Prelude.{unwrap_or}
use Rattle.std.proofs.lemmas.Bool.{and_parts, and_from, eqb-true, eq-eqb}
use Rattle.std.proofs.lemmas.List.{append-nil}
use Rattle.std.proofs.lemmas.Option.{slice_get_within}
use Rattle.verse_code.specs.declared.operands.OperandKind.{OperandKind}
use Rattle.verse_code.specs.declared.operands.Operands.{Operands}
use Rattle.verse_code.specs.declared.operands.Operands.TheVariants as os
use Rattle.verse_code.specs.declared.operations.Op.{Op}
use Rattle.verse_code.specs.declared.shapes.Shape.{Shape}
use Rattle.verse_code.specs.declared.shapes.Shape.TheVariants as s
use Rattle.verse_code.specs.declared.shapes.Parts.{Parts}
use Rattle.verse_code.specs.declared.validity.Sizes.{Sizes}
use Rattle.verse_code.specs.Operations.{code_of, operands_of}
use Rattle.verse_code.specs.Forms.{Form, forms, shape_of, made}
use Rattle.verse_code.specs.Agreement.{filled, shape_for, parts_for}
use Rattle.verse_code.proofs.Agree.{right_at, right_forms, op_form}
use Rattle.verse_code.specs.Validity.{suits_kind, all_suit}
use Rattle.verse_listing_format.specs.Names.{names, name_of, is_same, place_among, code_named}
use Rattle.verse_listing_format.specs.Numbers.{Number, number_of}
use Rattle.verse_listing_format.specs.Format.{Word, Line, operands, op_line, IsNumber, AreSized}
use Rattle.verse_listing_format.proofs.NameLemmas.{names_are}
use Rattle.verse_listing_format.proofs.NumberWords.{number_written, number_read}
use Rattle.verse_listing_lines.specs.Lines.{◌>>=◌, given, numbers, field, operand_at, integer_at, parts, parts_at, all_taken, formed, named}
use Rattle.verse_listing_lines.specs.Lines.{is_name, is_index, op_of}
use Rattle.verse_listing.proofs.WordLaws.{AllFit, number_words}
use Rattle.verse_listing.proofs.LineLaws.{bind_ok, test_ok, ok_is, given_is, same_is, known, numbers_read, numbers_written}
use Rattle.verse_listing.proofs.LineLaws.{field_is, field_of}

-- ---- operands

abbrev pub operand_numbers : Operands → List ℤ
operand_numbers os.Bare = []
operand_numbers (os.Integer n) = n ∷ []
operand_numbers (os.One a) = pos a.1 ∷ []
operand_numbers (os.Two a b) = pos a.1 ∷ pos b.1 ∷ []
operand_numbers (os.Three a b c) = pos a.1 ∷ pos b.1 ∷ pos c.1 ∷ []
operand_numbers (os.Four a b c d) = pos a.1 ∷ pos b.1 ∷ pos c.1 ∷ pos d.1 ∷ []

pub operand_words : (xs : Operands) → operands xs ≡ number_words (operand_numbers xs)
operand_words os.Bare = refl
operand_words (os.Integer n) = refl
operand_words (os.One a) = refl
operand_words (os.Two a b) = refl
operand_words (os.Three a b c) = refl
operand_words (os.Four a b c d) = refl

pub operands_fit : (xs : Operands) → AreSized xs → AllFit (operand_numbers xs)
operands_fit os.Bare h = tt
operands_fit (os.Integer n) h = (h, tt)
operands_fit (os.One a) h = (omega arith, tt)
operands_fit (os.Two a b) h = let x = h.0 in let y = h.1 in (omega arith, (omega arith, tt))
operands_fit (os.Three a b c) h = let x = h.0 in let y = h.1 in let z = h.2 in (omega arith, (omega arith, (omega arith, tt)))
operands_fit (os.Four a b c d) h =
    let x = h.0 in let y = h.1 in let z = h.2 in let u = h.3 in (omega arith, (omega arith, (omega arith, (omega arith, tt))))

-- operands that were taken: of an integer its size is not known by this
abbrev Taken : Sizes → ℕ → Operands → List Number → List Number → Type 0
Taken sizes at xs ns rest = (ns ≡ known (operand_numbers xs) ++ rest) × (AllFit (operand_numbers xs) → AreSized xs) ×
    (all_suit sizes at xs ≡ true)

operand_is : (sizes : Sizes) (at : ℕ) (kind : OperandKind) (ns : List Number) (x : ℕ × List Number) → operand_at sizes at kind ns ≡ Ok x →
    (ns ≡ Some (pos x.0) ∷ x.1) × IsNumber x.0 × (suits_kind sizes at kind x.0 ≡ true)
unfolding operand_at
operand_is sizes at kind [] x e = absurd cc
operand_is sizes at kind (n ∷ ns) x e =
    let p = bind_ok (field 0 4294967296 n) (λ a. cond (suits_kind sizes at kind a) (Ok (a, ns)) (Err 3)) x e in
    let g = test_ok (suits_kind sizes at kind p.0) 3 (p.0, ns) x p.2 in
    let f = field_is 0 4294967296 p.0 n p.1 in
    let low = f.2 in
    subst (λ (x : ℕ × List Number). (n ∷ ns ≡ Some (pos x.0) ∷ x.1) × IsNumber x.0 × (suits_kind sizes at kind x.0 ≡ true)) g.1
    (ap (λ (k : Number). k ∷ ns) f.0, omega arith, g.0)

operand_again : (sizes : Sizes) (at : ℕ) (kind : OperandKind) (n : ℕ) (rest : List Number) → IsNumber n →
    suits_kind sizes at kind n ≡ true → operand_at sizes at kind (Some (pos n) ∷ rest) ≡ Ok (n, rest)
unfolding operand_at
operand_again sizes at kind n rest h t = rw (field_of 0 4294967296 n (omega arith) (omega arith), t) refl

integer_is : (ns : List Number) (x : ℤ × List Number) → integer_at ns ≡ Ok x → ns ≡ Some x.0 ∷ x.1
integer_is [] x e = absurd cc
integer_is (None ∷ ns) x e = absurd cc
integer_is (Some n ∷ ns) x e = ap (λ (x : ℤ × List Number). Some x.0 ∷ x.1) (ok_is (n, ns) x e)

parts_are : (sizes : Sizes) (at : ℕ) (shape : Shape) (ns : List Number) (x : Parts × List Number) → parts_at sizes at shape ns ≡ Ok x →
    Taken sizes at (filled x.0 shape) ns x.1
unfolding parts_at
parts_are sizes at s.Bare ns x e =
    subst (λ (y : Parts × List Number). Taken sizes at os.Bare ns y.1) (ok_is (parts (pos 0) 0 0 0 0, ns) x e) (refl, (λ h. tt), refl)
parts_are sizes at s.Integer ns x e =
    let p = bind_ok (integer_at ns) (λ n. Ok (parts n.0 0 0 0 0, n.1)) x e in
    subst (λ (y : Parts × List Number). Taken sizes at (filled y.0 s.Integer) ns y.1) (ok_is (parts p.0.0 0 0 0 0, p.0.1) x p.2)
    (integer_is ns p.0 p.1, (λ h. h.0), refl)
parts_are sizes at (s.One k) ns x e =
    let p = bind_ok (operand_at sizes at k ns) (λ a. Ok (parts (pos 0) a.0 0 0 0, a.1)) x e in
    let a = operand_is sizes at k ns p.0 p.1 in
    subst (λ (y : Parts × List Number). Taken sizes at (filled y.0 (s.One k)) ns y.1) (ok_is (parts (pos 0) p.0.0 0 0 0, p.0.1) x p.2)
    (a.0, (λ h. a.1), a.2)
parts_are sizes at (s.Two k l) ns x e =
    let p = bind_ok (operand_at sizes at k ns) (λ a. operand_at sizes at l a.1 >>= λ b. Ok (parts (pos 0) a.0 b.0 0 0, b.1)) x e in
    let q = bind_ok (operand_at sizes at l p.0.1) (λ b. Ok (parts (pos 0) p.0.0 b.0 0 0, b.1)) x p.2 in
    let a = operand_is sizes at k ns p.0 p.1 in
    let b = operand_is sizes at l p.0.1 q.0 q.1 in
    subst (λ (y : Parts × List Number). Taken sizes at (filled y.0 (s.Two k l)) ns y.1) (ok_is (parts (pos 0) p.0.0 q.0.0 0 0, q.0.1) x q.2)
    (a.0 ∙ ap (λ k. Some (pos p.0.0) ∷ k) b.0, (λ h. (a.1, b.1)), and_from _ _ a.2 b.2)
parts_are sizes at (s.Three k l m) ns x e =
    let p = bind_ok (operand_at sizes at k ns) (λ a. operand_at sizes at l a.1 >>= λ b. operand_at sizes at m b.1 >>= λ c.
    Ok (parts (pos 0) a.0 b.0 c.0 0, c.1)) x e in
    let q = bind_ok (operand_at sizes at l p.0.1) (λ b. operand_at sizes at m b.1 >>= λ c. Ok (parts (pos 0) p.0.0 b.0 c.0 0, c.1)) x p.2 in
    let r = bind_ok (operand_at sizes at m q.0.1) (λ c. Ok (parts (pos 0) p.0.0 q.0.0 c.0 0, c.1)) x q.2 in
    let a = operand_is sizes at k ns p.0 p.1 in
    let b = operand_is sizes at l p.0.1 q.0 q.1 in
    let c = operand_is sizes at m q.0.1 r.0 r.1 in
    subst (λ (y : Parts × List Number). Taken sizes at (filled y.0 (s.Three k l m)) ns y.1)
    (ok_is (parts (pos 0) p.0.0 q.0.0 r.0.0 0, r.0.1) x r.2) (
      a.0 ∙ ap (λ k. Some (pos p.0.0) ∷ k) b.0 ∙ ap (λ k. Some (pos p.0.0) ∷ Some (pos q.0.0) ∷ k) c.0,
      (λ h. (a.1, b.1, c.1)),
      and_from _ _ (and_from _ _ a.2 b.2) c.2,
    )
parts_are sizes at (s.Four k l m n) ns x e =
    let p = bind_ok (operand_at sizes at k ns) (λ a. operand_at sizes at l a.1 >>= λ b. operand_at sizes at m b.1 >>= λ c.
    operand_at sizes at n c.1 >>= λ d. Ok (parts (pos 0) a.0 b.0 c.0 d.0, d.1)) x e in
    let q = bind_ok (operand_at sizes at l p.0.1) (λ b. operand_at sizes at m b.1 >>= λ c. operand_at sizes at n c.1 >>= λ d.
    Ok (parts (pos 0) p.0.0 b.0 c.0 d.0, d.1)) x p.2 in
    let r = bind_ok (operand_at sizes at m q.0.1) (λ c. operand_at sizes at n c.1 >>= λ d. Ok (parts (pos 0) p.0.0 q.0.0 c.0 d.0, d.1)) x
    q.2 in
    let t = bind_ok (operand_at sizes at n r.0.1) (λ d. Ok (parts (pos 0) p.0.0 q.0.0 r.0.0 d.0, d.1)) x r.2 in
    let a = operand_is sizes at k ns p.0 p.1 in
    let b = operand_is sizes at l p.0.1 q.0 q.1 in
    let c = operand_is sizes at m q.0.1 r.0 r.1 in
    let d = operand_is sizes at n r.0.1 t.0 t.1 in
    subst (λ (y : Parts × List Number). Taken sizes at (filled y.0 (s.Four k l m n)) ns y.1)
    (ok_is (parts (pos 0) p.0.0 q.0.0 r.0.0 t.0.0, t.0.1) x t.2) (
      a.0 ∙ ap (λ k. Some (pos p.0.0) ∷ k) b.0 ∙ ap (λ k. Some (pos p.0.0) ∷ Some (pos q.0.0) ∷ k) c.0 ∙
          ap (λ k. Some (pos p.0.0) ∷ Some (pos q.0.0) ∷ Some (pos r.0.0) ∷ k) d.0,
      (λ h. (a.1, b.1, c.1, d.1)),
      and_from _ _ (and_from _ _ (and_from _ _ a.2 b.2) c.2) d.2,
    )

parts_again : (sizes : Sizes) (at : ℕ) (xs : Operands) → AreSized xs → all_suit sizes at xs ≡ true →
    parts_at sizes at (shape_for xs) (known (operand_numbers xs)) ≡ Ok (parts_for xs, [])
unfolding parts_at
parts_again sizes at os.Bare h t = refl
parts_again sizes at (os.Integer n) h t = refl
parts_again sizes at (os.One a) h t = rw (operand_again sizes at a.0 a.1 [] h t) refl
parts_again sizes at (os.Two a b) h t =
    let u = and_parts _ _ t in
    rw (operand_again sizes at a.0 a.1 (Some (pos b.1) ∷ []) h.0 u.0, operand_again sizes at b.0 b.1 [] h.1 u.1) refl
parts_again sizes at (os.Three a b c) h t =
    let u = and_parts _ _ t in
    let v = and_parts _ _ u.0 in
    rw (
      operand_again sizes at a.0 a.1 (Some (pos b.1) ∷ Some (pos c.1) ∷ []) h.0 v.0,
      operand_again sizes at b.0 b.1 (Some (pos c.1) ∷ []) h.1 v.1,
      operand_again sizes at c.0 c.1 [] h.2 u.1,
    ) refl
parts_again sizes at (os.Four a b c d) h t =
    let u = and_parts _ _ t in
    let v = and_parts _ _ u.0 in
    let w = and_parts _ _ v.0 in
    rw (
      operand_again sizes at a.0 a.1 (Some (pos b.1) ∷ Some (pos c.1) ∷ Some (pos d.1) ∷ []) h.0 w.0,
      operand_again sizes at b.0 b.1 (Some (pos c.1) ∷ Some (pos d.1) ∷ []) h.1 w.1,
      operand_again sizes at c.0 c.1 (Some (pos d.1) ∷ []) h.2 v.1,
      operand_again sizes at d.0 d.1 [] h.3 u.1,
    ) refl

all_taken_is : (x : Parts × List Number) (p : Parts) → all_taken x ≡ Ok p → (x.0 ≡ p) × (x.1 ≡ [])
all_taken_is (q, []) p e = (ok_is q p e, refl)
all_taken_is (q, n ∷ ns) p e = absurd cc

-- ---- names

abbrev Among : ℕ → List Word → Word → ℕ → Type 0
Among from ns word c = (i : ℕ) × (c ≡ from + i) × (slice_get ns i ≡ Some word)

among_by : (from : ℕ) (n : Word) (ns : List Word) (word : Word) (c : ℕ) (t : Bool) →
    (place_among (suc from) ns word ≡ Some c → Among (suc from) ns word c) → is_same n word ≡ t →
    cond t (Some from) (place_among (suc from) ns word) ≡ Some c → Among from (n ∷ ns) word c
among_by from n ns word c true ih t e = let same : from ≡ c = cc in (0, omega arith, ap Some (same_is n word t))
among_by from n ns word c false ih t e = let r = ih e in let next = r.1 in (suc r.0, omega arith, r.2)

among_is : (from : ℕ) (ns : List Word) (word : Word) (c : ℕ) → place_among from ns word ≡ Some c → Among from ns word c
unfolding place_among
among_is from [] word c e = absurd cc
among_is from (n ∷ ns) word c e = among_by from n ns word c (is_same n word) (λ h. among_is (suc from) ns word c h) refl e

name_is : (word : Word) (c : ℕ) → code_named word ≡ Some c → slice_get names c ≡ Some word
name_is word c e =
    let r = among_is 0 names word c e in
    let same : r.0 ≡ c = omega (arith, r.1) in
    subst (λ i. slice_get names i ≡ Some word) same r.2

abbrev is_found : ℕ → Option ℕ → Bool
is_found at None = false
is_found at (Some c) = eqb c at

found_is : (at : ℕ) (o : Option ℕ) → is_found at o ≡ true → o ≡ Some at
found_is at None e = absurd cc
found_is at (Some c) e = ap Some (eqb-true c at e)

-- each of these names stands at its place among all, and is a word of letters
abbrev stand : ℕ → List Word → Bool
stand at [] = true
stand at (n ∷ ns) = (is_found at (code_named n) && is_name n) && stand (suc at) ns

all_stand : stand 0 names ≡ true
unfolding names place_among
all_stand = refl

stand_at : (from : ℕ) (ns : List Word) (i : ℕ) (w : Word) → stand from ns ≡ true → slice_get ns i ≡ Some w →
    (code_named w ≡ Some (from + i)) × (is_name w ≡ true)
stand_at from [] i w e h = absurd cc
stand_at from (n ∷ ns) zero w e h =
    let same : n ≡ w = cc in
    let k = and_parts _ _ (and_parts (is_found from (code_named n) && is_name n) (stand (suc from) ns) e).0 in
    let here : from ≡ from + 0 = omega arith in
    subst (λ (w : Word). (code_named w ≡ Some (from + 0)) × (is_name w ≡ true)) same
    (found_is from (code_named n) k.0 ∙ ap Some here, k.1)
stand_at from (n ∷ ns) (suc i) w e h =
    let r = stand_at (suc from) ns i w (and_parts (is_found from (code_named n) && is_name n) (stand (suc from) ns) e).1 h in
    let there : suc from + i ≡ from + suc i = omega arith in
    (r.0 ∙ ap Some there, r.1)

is_there : (ns : List Word) (i : ℕ) → i < length ns → (w : Word) × (slice_get ns i ≡ Some w)
is_there [] i lt = absurd (omega arith)
is_there (n ∷ ns) zero lt = (n, refl)
is_there (n ∷ ns) (suc i) lt = is_there ns i (omega arith)

op_named : (op : Op) → (code_named (name_of op) ≡ Some (code_of op)) × (is_name (name_of op) ≡ true)
op_named op =
    let f = op_form op in
    let low : code_of op < 67 = slice_get_within forms (code_of op) f.form f.at in
    let w = is_there names (code_of op) (omega (arith, names_are)) in
    let stood = stand_at 0 names (code_of op) w.0 all_stand w.1 in
    let start : 0 + code_of op ≡ code_of op = omega arith in
    let name : w.0 ≡ name_of op = sym (ap (λ (o : Option Word). unwrap_or o []) w.1) in
    subst (λ (n : Word). (code_named n ≡ Some (code_of op)) × (is_name n ≡ true)) name
    (stood.0 ∙ ap Some start, stood.1)

-- ---- one operation

pub record IsOp (sizes : Sizes) (at : ℕ) (line : Line) (op : Op) : Type 0 where
  pub written : line ≡ op_line at op
  pub sized : AreSized (operands_of op)
  pub suits : all_suit sizes at (operands_of op) ≡ true

record IsFormed (sizes : Sizes) (at : ℕ) (o : Option Form) (ns : List Number) (op : Op) : Type 0 where
  form : Form
  there : o ≡ Some form
  p : Parts
  makes : made p form ≡ op
  numbers : ns ≡ known (operand_numbers (filled p (shape_of form)))
  sized : AllFit (operand_numbers (filled p (shape_of form))) → AreSized (filled p (shape_of form))
  suits : all_suit sizes at (filled p (shape_of form)) ≡ true

formed_is : (sizes : Sizes) (at : ℕ) (o : Option Form) (ns : List Number) (op : Op) → formed sizes at o ns ≡ Ok op →
    IsFormed sizes at o ns op
unfolding formed
formed_is sizes at None ns op e = absurd cc
formed_is sizes at (Some f) ns op e =
    let x = bind_ok (parts_at sizes at (shape_of f) ns) (λ taken. all_taken taken >>= λ p. Ok (made p f)) op e in
    let y = bind_ok (all_taken x.0) (λ p. Ok (made p f)) op x.2 in
    let all = all_taken_is x.0 y.0 y.1 in
    let t = subst (λ (p : Parts). Taken sizes at (filled p (shape_of f)) ns x.0.1) all.0 (parts_are sizes at (shape_of f) ns x.0 x.1) in
    record {
      form = f;
      there = refl;
      p = y.0;
      makes = ok_is (made y.0 f) op y.2;
      numbers = t.0 ∙ ap (λ k. known (operand_numbers (filled y.0 (shape_of f))) ++ k) all.1 ∙ append-nil _;
      sized = t.1;
      suits = t.2;
    }

record IsNamed (sizes : Sizes) (at : ℕ) (name : Word) (ns : List Number) (op : Op) : Type 0 where
  code : ℕ
  name_at : slice_get names code ≡ Some name
  formed_there : formed sizes at (slice_get forms code) ns ≡ Ok op

named_is : (sizes : Sizes) (at : ℕ) (name : Word) (o : Option ℕ) (ns : List Number) (op : Op) → code_named name ≡ o →
    named sizes at o ns ≡ Ok op → IsNamed sizes at name ns op
unfolding named
named_is sizes at name None ns op e h = absurd cc
named_is sizes at name (Some c) ns op e h = record { code = c; name_at = name_is name c e; formed_there = h }

index_is : (at : ℕ) (n : Number) → is_index at n ≡ true → n ≡ Some (pos at)
index_is at None e = absurd cc
index_is at (Some (negsuc n)) e = absurd cc
index_is at (Some (pos n)) e = ap (λ (i : ℕ). Some (pos i)) (eqb-true n at e)

-- the tests of a line, which were passed
passed : {A : Type 0} (named index : Bool) (r : Result A ℕ) (x : A) → cond (not named) (Err 1) (cond index r (Err 4)) ≡ Ok x →
    (index ≡ true) × (r ≡ Ok x)
passed true true r x e = (refl, e)
passed true false r x e = absurd cc
passed false index r x e = absurd cc

pub op_is : (sizes : Sizes) (at : ℕ) (line : Line) (op : Op) → op_of sizes at line ≡ Ok op → IsOp sizes at line op
unfolding op_of
op_is sizes at [] op e = absurd cc
op_is sizes at (index ∷ []) op e = absurd cc
op_is sizes at (index ∷ name ∷ ws) op e =
    let i = bind_ok (given 1 (number_of index)) (λ i. numbers ws >>= λ ns.
    cond (not (is_name name)) (Err 1) (cond (is_index at i) (named sizes at (code_named name) ns) (Err 4))) op e in
    let n = bind_ok (numbers ws) (λ ns.
    cond (not (is_name name)) (Err 1) (cond (is_index at i.0) (named sizes at (code_named name) ns) (Err 4))) op i.2 in
    let t = passed (is_name name) (is_index at i.0) (named sizes at (code_named name) n.0) op n.2 in
    let c = named_is sizes at name (code_named name) n.0 op refl t.1 in
    let f = formed_is sizes at (slice_get forms c.code) n.0 op c.formed_there in
    let r = right_at forms 0 c.code f.form right_forms f.there f.p in
    let code : code_of op ≡ c.code = ap code_of (sym f.makes) ∙ r.0 ∙ omega arith in
    let xs : operands_of op ≡ filled f.p (shape_of f.form) = ap operands_of (sym f.makes) ∙ r.1 in
    let words = numbers_read ws (operand_numbers (filled f.p (shape_of f.form))) (n.1 ∙ ap Ok f.numbers) in
    let first = number_read index (pos at) (given_is 1 (number_of index) i.0 i.1 ∙ ap Some (index_is at i.0 t.0)) in
    let named : name ≡ name_of op = sym (ap (λ (k : ℕ). unwrap_or (slice_get names k) []) code ∙
    ap (λ (o : Option Word). unwrap_or o []) c.name_at) in
    let listed : ws ≡ operands (operands_of op) = words.0 ∙ sym (operand_words (filled f.p (shape_of f.form))) ∙ ap operands (sym xs) in
    record {
      written = ap (λ (k : Word). k ∷ name ∷ ws) first.1 ∙ ap (λ (k : Word). decimal at ∷ k ∷ ws) named ∙
          ap (λ k. decimal at ∷ name_of op ∷ k) listed;
      sized = subst AreSized (sym xs) (f.sized words.1);
      suits = ap (all_suit sizes at) xs ∙ f.suits;
    }

pub op_again : (sizes : Sizes) (at : ℕ) (op : Op) → at < 9223372036854775808 → AreSized (operands_of op) →
    all_suit sizes at (operands_of op) ≡ true → op_of sizes at (op_line at op) ≡ Ok op
unfolding op_of named formed
op_again sizes at op lt z t =
    let f = op_form op in
    let found = op_named op in
    let index : number_of (decimal at) ≡ Some (Some (pos at)) = number_written (pos at) lt in
    let ns : numbers (operands (operands_of op)) ≡ Ok (known (operand_numbers (operands_of op))) =
    ap numbers (operand_words (operands_of op)) ∙ numbers_written _ (operands_fit (operands_of op) z) in
    let here : eqb at at ≡ true = eq-eqb at at refl in
    let got : parts_at sizes at (shape_of f.form) (known (operand_numbers (operands_of op))) ≡ Ok (parts_for (operands_of op), []) =
    ap (λ (z : Shape). parts_at sizes at z (known (operand_numbers (operands_of op)))) f.shaped ∙
    parts_again sizes at (operands_of op) z t in
    rw (index, ns, found.1, here, found.0, f.at, got, f.makes) refl
