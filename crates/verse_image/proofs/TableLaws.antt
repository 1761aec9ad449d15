-- A table's part that is read is spelled so and keeps its rules, and what is spelled so is read.
use Rattle.std.proofs.Common.{◌≡◌, ℕ, zero, suc, ◌+◌, ◌<◌, ◌≤◌, Bool, true, false, cond, ltb, eqb, inl, inr, List, [], ◌∷◌, length, take}
use Rattle.std.proofs.Common.{drop, Option, Some, None, slice_get, Result, Ok, Err, refl, sym, ap, subst, ◌∙◌, arith}
use Rattle.std.specs.List.{AllByRecursion}
use Rattle.std.proofs.lemmas.Bool.{cases_lt, lt-ltb, le-ltb, le-leb, leb-true}
use Rattle.std.proofs.lemmas.List.{take_at, drop_at, take-append-drop, length-append, length-take, get_or-drop}
use Rattle.std.proofs.lemmas.List.Elements.{All-from_recursion, recursion_from_All}
use Rattle.verse_base.specs.declared.places.Place.{Place}
use Rattle.verse_code.specs.declared.codes.Func.{Func}
use Rattle.verse_code.specs.declared.codes.Class.{Class}
use Rattle.verse_code.specs.Validity.{IsText, IsPlace, IsFunction, IsClass, IsMain}
use Rattle.verse_image.specs.declared.faults.Flaw.{Flaw}
use Rattle.verse_image.specs.Format.{Field, ◌⨾◌, plain, number, each, table, text, place, function, class, flag}
use Rattle.verse_image.specs.Reading.{◌>>=◌, Reader, flaw, number_at, within_at, many_at, table_at, text_at, place_at, function_at}
use Rattle.verse_image.specs.Reading.{class_at, main_at, may_begin}
use Rattle.verse_image.specs.Numbers.{IsBytes}
use Rattle.verse_image.proofs.NumberLaws.{bind_ok, test_ok, ok_is, Takes, number_take, number_again, within_take, within_again}
use Rattle.verse_image.proofs.NumberLaws.{spelled_once}

-- a reader gives what the field spells, and such that it fits
abbrev pub Found : {A : Type 0} → (A → Field) → Reader A → (A → Type 0) → Type 0
Found {A} f read fits = (bytes : List ℕ) (x : A × List ℕ) → IsBytes bytes → read bytes ≡ Ok x → Takes (f x.0) bytes x.1 × fits x.0

-- what the field spells is read, where it fits
abbrev pub Again : {A : Type 0} → (A → Field) → Reader A → (A → Type 0) → Type 0
Again {A} f read fits = (a : A) (bytes rest : List ℕ) → fits a → f a bytes rest → read bytes ≡ Ok (a, rest)

-- a field has one spelling in front of the same bytes
abbrev pub Once : Field → Type 0
Once P = (a b rest : List ℕ) → P a rest → P b rest → a ≡ b

-- ---- one after the other

pub once_then : (P Q : Field) → Once P → Once Q → Once (P ⨾ Q)
once_then P Q p q a b rest h k =
    let between : h.0 ≡ k.0 = q h.0 k.0 rest h.2 k.2 in
    p a b k.0 (subst (λ (w : List ℕ). P a w) between h.1) k.1

pub once_number : (n : ℕ) → Once (number n)
once_number n a b rest h k = spelled_once h.1 k.1

pub once_plain : (text : List ℕ) → Once (plain text)
once_plain text a b rest h k = h ∙ sym k

pub once_each : {A : Type 0} (f : A → Field) → ((a : A) → Once (f a)) → (xs : List A) → Once (each f xs)
once_each f h [] = λ a b rest p q. p ∙ sym q
once_each f h (x ∷ xs) = once_then (f x) (each f xs) (h x) (once_each f h xs)

pub once_table : {A : Type 0} (f : A → Field) → ((a : A) → Once (f a)) → (xs : List A) → Once (table f xs)
once_table f h xs = once_then (number (length xs)) (each f xs) (once_number (length xs)) (once_each f h xs)

pub once_text : (t : List ℕ) → Once (text t)
once_text t = once_then (number (length t)) (plain t) (once_number (length t)) (once_plain t)

pub once_place : (p : Place) → Once (place p)
once_place p = once_then (number p.file ⨾ number p.line) (number p.col)
    (once_then (number p.file) (number p.line) (once_number p.file) (once_number p.line)) (once_number p.col)

pub once_function : (f : Func) → Once (function f)
once_function f =
    once_then (number f.params ⨾ number f.locals ⨾ number f.entry) (number (flag f.suspends))
    (once_then (number f.params ⨾ number f.locals) (number f.entry)
    (once_then (number f.params) (number f.locals) (once_number f.params) (once_number f.locals)) (once_number f.entry))
    (once_number (flag f.suspends))

pub once_class : (c : Class) → Once (class c)
once_class c = once_then (number c.slots) (table number c.methods) (once_number c.slots) (once_table number once_number c.methods)

-- ---- so many

pub record ManyTake {A : Type 0} (f : A → Field) (fits : A → Type 0) (n : ℕ) (bytes : List ℕ) (x : List A × List ℕ) : Type 0 where
  pub takes : Takes (each f x.0) bytes x.1
  pub count : length x.0 ≡ n
  pub fits_all : AllByRecursion fits x.0

pub many_take : {A : Type 0} (f : A → Field) (one : Reader A) (fits : A → Type 0) → Found f one fits →
    (n : ℕ) (bytes : List ℕ) (x : List A × List ℕ) → IsBytes bytes → many_at one n bytes ≡ Ok x → ManyTake f fits n bytes x
unfolding many_at
many_take {A} f one fits found zero bytes x b e =
    subst (λ (y : List A × List ℕ). ManyTake f fits 0 bytes y) (ok_is ([], bytes) x e)
    (record { takes = record { spelled = refl; fits = b }; count = refl; fits_all = tt })
many_take {A} f one fits found (suc n) bytes x b e =
    let p = bind_ok (one bytes) (λ first. many_at one n first.1 >>= λ others. Ok (first.0 ∷ others.0, others.1)) x e in
    let q = bind_ok (many_at one n p.0.1) (λ others. Ok (p.0.0 ∷ others.0, others.1)) x p.2 in
    let first = found bytes p.0 b p.1 in
    let others = many_take f one fits found n p.0.1 q.0 first.0.fits q.1 in
    subst (λ (y : List A × List ℕ). ManyTake f fits (suc n) bytes y) (ok_is (p.0.0 ∷ q.0.0, q.0.1) x q.2)
    (record {
      takes = record { spelled = (p.0.1, first.0.spelled, others.takes.spelled); fits = others.takes.fits };
      count =
          ap suc others.count;
      fits_all = (first.1, others.fits_all);
    })

pub many_again : {A : Type 0} (f : A → Field) (one : Reader A) (fits : A → Type 0) → Again f one fits →
    (xs : List A) (bytes rest : List ℕ) → AllByRecursion fits xs → each f xs bytes rest → many_at one (length xs) bytes ≡ Ok (xs, rest)
unfolding many_at
many_again f one fits again [] bytes rest a h = ap (λ w. Ok ([], w)) h
many_again f one fits again (x ∷ xs) bytes rest a h = rw (again x bytes h.0 a.0 h.1, many_again f one fits again xs h.0 rest a.1 h.2) refl

-- a table is a count that fits, and entries that do
abbrev pub TableFits : {A : Type 0} → (A → Type 0) → List A → Type 0
TableFits fits xs = (length xs ≤ 4294967295) × AllByRecursion fits xs

pub table_take : {A : Type 0} (f : A → Field) (one : Reader A) (fits : A → Type 0) → Found f one fits →
    Found (table f) (table_at one) (TableFits fits)
unfolding table_at
table_take {A} f one fits found bytes x b e =
    let p = bind_ok (number_at bytes) (λ n. many_at one n.0 n.1) x e in
    let n = number_take bytes p.0 b p.1 in
    let m = many_take f one fits found p.0.0 p.0.1 x n.fits p.2 in
    let counted : number (length x.0) bytes p.0.1 = subst (λ (k : ℕ). number k bytes p.0.1) (sym m.count) n.spelled in
    (record { spelled = (p.0.1, counted, m.takes.spelled); fits = m.takes.fits }, (counted.0, m.fits_all))

pub table_again : {A : Type 0} (f : A → Field) (one : Reader A) (fits : A → Type 0) → Again f one fits →
    Again (table f) (table_at one) (AllByRecursion fits)
unfolding table_at
table_again f one fits again xs bytes rest a h = rw (number_again (length xs) bytes h.0 h.1) (many_again f one fits again xs h.0 rest a h.2)

-- ---- the parts of a code

pub bytes_drop : (n : ℕ) (bytes : List ℕ) → IsBytes bytes → IsBytes (drop n bytes)
bytes_drop n bytes h i = rw get_or-drop (h (n + i))

abbrev text_done : List ℕ × List ℕ → Result (List ℕ × List ℕ) Flaw
text_done y = Ok y

abbrev text_chosen : ℕ × List ℕ → Result (List ℕ × List ℕ) Flaw
text_chosen n = cond (ltb (length n.1) n.0) (Err (flaw 3 0)) (Ok (take n.0 n.1, drop n.0 n.1))

text_long : (n : ℕ × List ℕ) → n.0 ≤ length n.1 → text_chosen n ≡ text_done (take n.0 n.1, drop n.0 n.1)
text_long n le = let t : ltb (length n.1) n.0 ≡ false = le-ltb _ _ le in rw t refl

text_short : (n : ℕ × List ℕ) (y : List ℕ × List ℕ) → length n.1 < n.0 → text_chosen n ≡ text_done y → ⊥
text_short n y lt e =
    let t : ltb (length n.1) n.0 ≡ true = lt-ltb _ _ lt in
    let f : text_chosen n ≡ Err (flaw 3 0) = rw t refl in
    let g : text_done y ≡ Err (flaw 3 0) = sym e ∙ f in
    cc

pub text_take : Found text text_at IsText
unfolding text_at
text_take bytes x b e =
    let p = bind_ok (within_at 0 4000000 bytes) (λ n. cond (ltb (length n.1) n.0) (Err (flaw 3 0)) (Ok (take n.0 n.1, drop n.0 n.1))) x e in
    let n = within_take 0 4000000 bytes p.0 b p.1 in
    elim (cases_lt (length p.0.1) p.0.0) [
      | inl lt ↦ absurd (text_short p.0 x lt p.2)
      | inr le ↦
          let len : length (take p.0.0 p.0.1) ≡ p.0.0 = omega (arith, length-take p.0.0 p.0.1) in
          let same : text_done (take p.0.0 p.0.1, drop p.0.0 p.0.1) ≡ text_done x = sym (text_long p.0 le) ∙ p.2 in
          let counted : number (length (take p.0.0 p.0.1)) bytes p.0.1 = subst (λ (k : ℕ). number k bytes p.0.1) (sym len) n.0.spelled in
          let takes : Takes (text (take p.0.0 p.0.1)) bytes (drop p.0.0 p.0.1) =
          record { spelled = (p.0.1, counted, sym (take-append-drop p.0.0 p.0.1)); fits = bytes_drop p.0.0 p.0.1 n.0.fits } in
          subst (λ (y : List ℕ × List ℕ). Takes (text y.0) bytes y.1 × IsText y.0) (ok_is (take p.0.0 p.0.1, drop p.0.0 p.0.1) x same)
          (takes, omega (arith, n.2))
    ]

pub text_again : Again text text_at IsText
unfolding text_at
text_again t bytes rest fits h =
    let len : length h.0 ≡ length t + length rest = ap length h.2 ∙ length-append t rest in
    let long : ltb (length h.0) (length t) ≡ false = le-ltb _ _ (omega arith) in
    let front : take (length t) h.0 ≡ t = ap (take (length t)) h.2 ∙ take_at t rest (length t) refl in
    let back : drop (length t) h.0 ≡ rest = ap (drop (length t)) h.2 ∙ drop_at t rest (length t) refl in
    rw (within_again 0 4000000 (length t) bytes h.0 h.1 (omega arith) (omega arith), long, front, back) refl

pub place_take : (files : ℕ) → Found place (place_at files) (IsPlace files)
unfolding place_at
place_take files bytes x b e =
    let p = bind_ok (within_at 0 files bytes) (λ file. within_at 1 4294967296 file.1 >>= λ line. within_at 1 4294967296 line.1 >>= λ col.
    Ok (record { file = file.0; line = line.0; col = col.0 }, col.1)) x e in
    let q = bind_ok (within_at 1 4294967296 p.0.1) (λ line. within_at 1 4294967296 line.1 >>= λ col.
    Ok (record { file = p.0.0; line = line.0; col = col.0 }, col.1)) x p.2 in
    let r = bind_ok (within_at 1 4294967296 q.0.1) (λ col. Ok (record { file = p.0.0; line = q.0.0; col = col.0 }, col.1)) x q.2 in
    let file = within_take 0 files bytes p.0 b p.1 in
    let line = within_take 1 4294967296 p.0.1 q.0 file.0.fits q.1 in
    let col = within_take 1 4294967296 q.0.1 r.0 line.0.fits r.1 in
    let made : Place × List ℕ = (record { file = p.0.0; line = q.0.0; col = r.0.0 }, r.0.1) in
    subst (λ (y : Place × List ℕ). Takes (place y.0) bytes y.1 × IsPlace files y.0) (ok_is made x r.2) (
      record { spelled = (q.0.1, (p.0.1, file.0.spelled, line.0.spelled), col.0.spelled); fits = col.0.fits },
      record { file = file.2; line = line.1; col = col.1 },
    )

pub place_again : (files : ℕ) → Again place (place_at files) (IsPlace files)
unfolding place_at
place_again files p bytes rest fits h =
    rw (
      within_again 0 files p.file bytes h.1.0 h.1.1 (omega arith) fits.file,
      within_again 1 4294967296 p.line h.1.0 h.0 h.1.2 fits.line (omega (arith, h.1.2.0)),
      within_again 1 4294967296 p.col h.0 rest h.2 fits.col (omega (arith, h.2.0)),
    ) refl

flag_back : (n : ℕ) → n < 2 → flag (eqb n 1) ≡ n
flag_back zero lt = refl
flag_back (suc zero) lt = refl
flag_back (suc (suc n)) lt = absurd (omega arith)

pub flag_again : (b : Bool) → eqb (flag b) 1 ≡ b
flag_again false = refl
flag_again true = refl

flag_small : (b : Bool) → flag b < 2
flag_small false = omega arith
flag_small true = omega arith

pub function_take : (ops : ℕ) → Found function (function_at ops) (IsFunction ops)
unfolding function_at
function_take ops bytes x b e =
    let p = bind_ok (number_at bytes) (λ params. within_at params.0 16777217 params.1 >>= λ locals. within_at 0 ops locals.1 >>= λ entry.
    within_at 0 2 entry.1 >>= λ suspends. Ok
    (record { params = params.0; locals = locals.0; entry = entry.0; suspends = eqb suspends.0 1 }, suspends.1)) x e in
    let q = bind_ok (within_at p.0.0 16777217 p.0.1) (λ locals. within_at 0 ops locals.1 >>= λ entry. within_at 0 2 entry.1 >>= λ suspends.
    Ok (record { params = p.0.0; locals = locals.0; entry = entry.0; suspends = eqb suspends.0 1 }, suspends.1)) x p.2 in
    let r = bind_ok (within_at 0 ops q.0.1) (λ entry. within_at 0 2 entry.1 >>= λ suspends.
    Ok (record { params = p.0.0; locals = q.0.0; entry = entry.0; suspends = eqb suspends.0 1 }, suspends.1)) x q.2 in
    let s = bind_ok (within_at 0 2 r.0.1) (λ suspends.
    Ok (record { params = p.0.0; locals = q.0.0; entry = r.0.0; suspends = eqb suspends.0 1 }, suspends.1)) x r.2 in
    let params = number_take bytes p.0 b p.1 in
    let locals = within_take p.0.0 16777217 p.0.1 q.0 params.fits q.1 in
    let entry = within_take 0 ops q.0.1 r.0 locals.0.fits r.1 in
    let suspends = within_take 0 2 r.0.1 s.0 entry.0.fits s.1 in
    let made : Func × List ℕ = (record { params = p.0.0; locals = q.0.0; entry = r.0.0; suspends = eqb s.0.0 1 }, s.0.1) in
    let flagged : number (flag (eqb s.0.0 1)) r.0.1 s.0.1 =
    subst (λ (k : ℕ). number k r.0.1 s.0.1) (sym (flag_back s.0.0 suspends.2)) suspends.0.spelled in
    subst (λ (y : Func × List ℕ). Takes (function y.0) bytes y.1 × IsFunction ops y.0) (ok_is made x s.2) (
      record { spelled = (r.0.1, (q.0.1, (p.0.1, params.spelled, locals.0.spelled), entry.0.spelled), flagged); fits = suspends.0.fits },
      record { params = locals.1; locals = omega (arith, locals.2); entry = entry.2 },
    )

pub function_again : (ops : ℕ) → Again function (function_at ops) (IsFunction ops)
unfolding function_at
function_again ops f bytes rest fits h =
    rw (
      number_again f.params bytes h.1.1.0 h.1.1.1,
      within_again f.params 16777217 f.locals h.1.1.0 h.1.0 h.1.1.2 fits.params (omega (arith, fits.locals)),
      within_again 0 ops f.entry h.1.0 h.0 h.1.2 (omega arith) fits.entry,
      within_again 0 2 (flag f.suspends) h.0 rest h.2 (omega arith) (flag_small f.suspends),
      flag_again f.suspends,
    ) refl

method_take : (functions : ℕ) → Found number (within_at 0 functions) (λ n. n < functions)
method_take functions bytes x b e = let t = within_take 0 functions bytes x b e in (t.0, t.2)

method_again : (functions : ℕ) → Again number (within_at 0 functions) (λ n. n < functions)
method_again functions n bytes rest fits h = within_again 0 functions n bytes rest h (omega arith) fits

pub class_take : (functions : ℕ) → Found class (class_at functions) (IsClass functions)
unfolding class_at
class_take functions bytes x b e =
    let p = bind_ok (number_at bytes) (λ slots. table_at (within_at 0 functions) slots.1 >>= λ methods.
    Ok (record { slots = slots.0; methods = methods.0 }, methods.1)) x e in
    let q = bind_ok (table_at (within_at 0 functions) p.0.1) (λ methods. Ok (record { slots = p.0.0; methods = methods.0 }, methods.1)) x
    p.2 in
    let slots = number_take bytes p.0 b p.1 in
    let methods = table_take number (within_at 0 functions) (λ n. n < functions) (method_take functions) p.0.1 q.0 slots.fits q.1 in
    let made : Class × List ℕ = (record { slots = p.0.0; methods = q.0.0 }, q.0.1) in
    subst (λ (y : Class × List ℕ). Takes (class y.0) bytes y.1 × IsClass functions y.0) (ok_is made x q.2) (
      record { spelled = (p.0.1, slots.spelled, methods.0.spelled); fits = methods.0.fits },
      record { count = methods.1.0; methods = All-from_recursion (λ (n : ℕ). n < functions) q.0.0 methods.1.1 },
    )

pub class_again : (functions : ℕ) → Again class (class_at functions) (IsClass functions)
unfolding class_at
class_again functions c bytes rest fits h =
    rw (
      number_again c.slots bytes h.0 h.1,
      table_again number (within_at 0 functions) (λ n. n < functions) (method_again functions) c.methods h.0 rest
          (recursion_from_All (λ (n : ℕ). n < functions) c.methods fits.methods) h.2,
    ) refl

main_from : (functions : List Func) (main : ℕ) (o : Option Func) → slice_get functions main ≡ o → may_begin o ≡ true → IsMain functions main
main_from functions main None e t = absurd cc
main_from functions main (Some f) e t = (f, e, leb-true f.params 1 t)

pub main_take : (functions : List Func) → Found number (main_at functions) (IsMain functions)
unfolding main_at
main_take functions bytes x b e =
    let p = bind_ok (number_at bytes) (λ n. cond (may_begin (slice_get functions n.0)) (Ok n) (Err (flaw 5 (length bytes)))) x e in
    let g = test_ok (may_begin (slice_get functions p.0.0)) (flaw 5 (length bytes)) p.0 x p.2 in
    subst (λ (y : ℕ × List ℕ). Takes (number y.0) bytes y.1 × IsMain functions y.0) g.1
    (number_take bytes p.0 b p.1, main_from functions p.0.0 (slice_get functions p.0.0) refl g.0)

pub main_again : (functions : List Func) → Again number (main_at functions) (IsMain functions)
unfolding main_at
main_again functions n bytes rest fits h =
    let begins : may_begin (slice_get functions n) ≡ true = ap may_begin fits.1 ∙ le-leb fits.0.params 1 fits.2 in
    rw (number_again n bytes rest h, begins) refl
