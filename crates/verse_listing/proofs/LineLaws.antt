-- A line that gives something is written so, and what is written so gives it: the numbers and texts of lines.
use Rattle.std.proofs.Common.{◌≡◌, ℕ, zero, suc, ◌+◌, ◌-◌, ◌*◌, ◌/◌, ◌%◌, ◌<◌, ◌≤◌, ℤ, pos, negsuc, Bool, true, false, cond, ◌&&◌, eqb, ltb}
use Rattle.std.proofs.Common.{leb}
use Rattle.std.proofs.Common.{inl, inr, List, [], ◌∷◌, map, length, decimal, Option, Some, None, slice_get, Result, Ok, Err, refl, sym}
use Rattle.std.proofs.Common.{ap, subst, ◌∙◌, arith}
use Rattle.std.specs.Fmt.{signed_decimal}
use Rattle.std.specs.List.{AllByRecursion}
use Rattle.std.proofs.lemmas.Bool.{and_parts, and_from, and_right, leb-true, ltb-true, le-leb, lt-ltb, le-ltb, lt-leb, eqb-true, cases_lt}
use Rattle.verse_base.specs.declared.places.Place.{Place}
use Rattle.verse_code.specs.declared.codes.Func.{Func}
use Rattle.verse_code.specs.declared.codes.Class.{Class}
use Rattle.verse_code.specs.Validity.{IsText, IsPlace, IsFunction, IsMain}
use Rattle.verse_listing_format.specs.Names.{is_same}
use Rattle.verse_listing_format.specs.Numbers.{Number, number_of}
use Rattle.verse_listing_format.specs.Format.{Word, hex, hex_digit, flag, IsSizedPlace, IsNumber}
use Rattle.verse_listing_format.proofs.NumberWords.{number_written, number_read}
use Rattle.verse_listing_lines.specs.Lines.{◌>>=◌, given, numbers, field, only_field, fields, digit_of, bytes_of, short_text, text_of}
use Rattle.verse_listing_lines.specs.Lines.{place_of}
use Rattle.verse_listing_lines.specs.Lines.{function_of, class_of, may_begin, main_of}
use Rattle.verse_listing.proofs.WordLaws.{AllFit, number_words}

pub bind_ok : {A B : Type 0} (r : Result A ℕ) (f : A → Result B ℕ) (y : B) → (r >>= f) ≡ Ok y → (x : A) × (r ≡ Ok x) × (f x ≡ Ok y)
bind_ok (Ok x) f y e = (x, refl, e)
bind_ok (Err d) f y e = absurd cc

-- a test that did not fail
pub test_ok : {A : Type 0} (b : Bool) (d : ℕ) (x y : A) → cond b (Ok x) (Err d) ≡ Ok y → (b ≡ true) × (x ≡ y)
test_ok true d x y e = (refl, cc)
test_ok false d x y e = absurd cc

abbrev done : {A : Type 0} → A → Result A ℕ
done x = Ok x

pub ok_is : {A : Type 0} (x y : A) → done x ≡ done y → x ≡ y
ok_is x y e = cc

pub given_is : {A : Type 0} (rule : ℕ) (o : Option A) (x : A) → given rule o ≡ Ok x → o ≡ Some x
given_is rule None x e = absurd cc
given_is rule (Some a) x e = cc

-- ---- words

pub same_is : (v w : Word) → is_same v w ≡ true → v ≡ w
same_is [] [] e = refl
same_is [] (b ∷ w) e = absurd cc
same_is (a ∷ v) [] e = absurd cc
same_is (a ∷ v) (b ∷ w) e =
    let k = and_parts (eqb a b) (is_same v w) e in
    ap (λ c. c ∷ v) (eqb-true a b k.0) ∙ ap (λ k. b ∷ k) (same_is v w k.1)

-- ---- numbers

-- numbers that 64 bits hold
abbrev pub known : List ℤ → List Number
known [] = []
known (z ∷ zs) = Some z ∷ known zs

-- the words behind a word are numbers, by what is known of all of them
number_more : (w : Word) (ws : List Word) (zs : List ℤ) (n : Number) (ns : List Number) →
    ((ys : List ℤ) → numbers ws ≡ Ok (known ys) → (ws ≡ number_words ys) × AllFit ys) → number_of w ≡ Some n → numbers ws ≡ Ok ns →
    n ∷ ns ≡ known zs → (w ∷ ws ≡ number_words zs) × AllFit zs
number_more w ws [] n ns ih f g e = absurd cc
number_more w ws (z ∷ zs) n ns ih f g e =
    let one : n ≡ Some z = cc in
    let rest : ns ≡ known zs = cc in
    let k = number_read w z (f ∙ ap Some one) in
    let m = ih zs (g ∙ ap Ok rest) in
    (ap (λ (x : Word). x ∷ ws) k.1 ∙ ap (λ x. signed_decimal z ∷ x) m.0, (k.0, m.1))

pub numbers_read : (ws : List Word) (zs : List ℤ) → numbers ws ≡ Ok (known zs) → (ws ≡ number_words zs) × AllFit zs
unfolding numbers
numbers_read [] [] e = (refl, tt)
numbers_read [] (z ∷ zs) e = absurd cc
numbers_read (w ∷ ws) zs e =
    let p = bind_ok (given 1 (number_of w)) (λ first. numbers ws >>= λ behind. Ok (first ∷ behind)) (known zs) e in
    let q = bind_ok (numbers ws) (λ behind. Ok (p.0 ∷ behind)) (known zs) p.2 in
    number_more w ws zs p.0 q.0 (λ ys h. numbers_read ws ys h) (given_is 1 (number_of w) p.0 p.1) q.1 (ok_is (p.0 ∷ q.0) (known zs) q.2)

pub numbers_written : (zs : List ℤ) → AllFit zs → numbers (number_words zs) ≡ Ok (known zs)
unfolding numbers
numbers_written [] h = refl
numbers_written (z ∷ zs) h = rw (number_written z h.0, numbers_written zs h.1) refl

pub field_is : (least end n : ℕ) (x : Number) → field least end x ≡ Ok n → (x ≡ Some (pos n)) × (least ≤ n) × (n < end)
field_is least end n None e = absurd cc
field_is least end n (Some (negsuc m)) e = absurd cc
field_is least end n (Some (pos m)) e =
    let g = test_ok (leb least m && ltb m end) 3 m n e in
    let k = and_parts _ _ g.0 in
    let low : least ≤ m = leb-true _ _ k.0 in
    let high : m < end = ltb-true _ _ k.1 in
    let same = g.1 in
    (ap (λ (i : ℕ). Some (pos i)) same, omega arith, omega arith)

pub field_of : (least end n : ℕ) → least ≤ n → n < end → field least end (Some (pos n)) ≡ Ok n
field_of least end n low high =
    let t : (leb least n && ltb n end) ≡ true = and_from _ _ (le-leb _ _ low) (lt-ltb _ _ high) in
    rw t refl

pub only_is : (least end n : ℕ) (ns : List Number) → only_field least end ns ≡ Ok n → (ns ≡ known (pos n ∷ [])) × (least ≤ n) × (n < end)
only_is least end n [] e = absurd cc
only_is least end n (x ∷ []) e = let f = field_is least end n x e in (ap (λ (k : Number). k ∷ []) f.0, f.1, f.2)
only_is least end n (x ∷ y ∷ ns) e = absurd cc

-- natural numbers of a list
abbrev pub naturals : List ℕ → List ℤ
naturals [] = []
naturals (n ∷ ns) = pos n ∷ naturals ns

pub fields_are : (end : ℕ) (ns : List Number) (ms : List ℕ) → fields end ns ≡ Ok ms →
    (ns ≡ known (naturals ms)) × AllByRecursion (λ m. m < end) ms
unfolding fields
fields_are end [] ms e = subst (λ ms. ([] ≡ known (naturals ms)) × AllByRecursion (λ m. m < end) ms) (ok_is [] ms e) (refl, tt)
fields_are end (n ∷ ns) ms e =
    let p = bind_ok (field 0 end n) (λ first. fields end ns >>= λ others. Ok (first ∷ others)) ms e in
    let q = bind_ok (fields end ns) (λ others. Ok (p.0 ∷ others)) ms p.2 in
    let f = field_is 0 end p.0 n p.1 in
    let m = fields_are end ns q.0 q.1 in
    subst (λ ms. (n ∷ ns ≡ known (naturals ms)) × AllByRecursion (λ m. m < end) ms) (ok_is (p.0 ∷ q.0) ms q.2)
    (ap (λ (k : Number). k ∷ ns) f.0 ∙ ap (λ k. Some (pos p.0) ∷ k) m.0, (f.2, m.1))

pub fields_of : (end : ℕ) (ms : List ℕ) → AllByRecursion (λ m. m < end) ms → fields end (known (naturals ms)) ≡ Ok ms
unfolding fields
fields_of end [] h = refl
fields_of end (m ∷ ms) h = rw (field_of 0 end m (omega arith) h.0, fields_of end ms h.1) refl

pub natural_words : (ms : List ℕ) → number_words (naturals ms) ≡ map decimal ms
natural_words [] = refl
natural_words (m ∷ ms) = ap (λ k. decimal m ∷ k) (natural_words ms)

pub naturals_fit : (end : ℕ) (ms : List ℕ) → end ≤ 9223372036854775808 → AllByRecursion (λ m. m < end) ms → AllFit (naturals ms)
naturals_fit end [] le h = tt
naturals_fit end (m ∷ ms) le h = let low = h.0 in (omega arith, naturals_fit end ms le h.1)

-- ---- places, functions, classes, Main

abbrev pub place_numbers : Place → List ℤ
place_numbers p = pos p.file ∷ pos p.line ∷ pos p.col ∷ []

pub place_is : (files : ℕ) (ns : List Number) (p : Place) → place_of files ns ≡ Ok p →
    (ns ≡ known (place_numbers p)) × IsPlace files p × IsSizedPlace p
unfolding place_of
place_is files [] p e = absurd cc
place_is files (f ∷ []) p e = absurd cc
place_is files (f ∷ l ∷ []) p e = absurd cc
place_is files (f ∷ l ∷ c ∷ d ∷ ns) p e = absurd cc
place_is files (f ∷ l ∷ c ∷ []) p e =
    let q = bind_ok (field 0 files f) (λ file. field 1 4294967296 l >>= λ line. field 1 4294967296 c >>= λ col.
    Ok (record { file = file; line = line; col = col })) p e in
    let r = bind_ok (field 1 4294967296 l) (λ line. field 1 4294967296 c >>= λ col. Ok (record { file = q.0; line = line; col = col })) p
    q.2 in
    let s = bind_ok (field 1 4294967296 c) (λ col. Ok (record { file = q.0; line = r.0; col = col })) p r.2 in
    let file = field_is 0 files q.0 f q.1 in
    let line = field_is 1 4294967296 r.0 l r.1 in
    let col = field_is 1 4294967296 s.0 c s.1 in
    let made : Place = record { file = q.0; line = r.0; col = s.0 } in
    let high = line.2 in
    let right = col.2 in
    subst (λ (p : Place). (f ∷ l ∷ c ∷ [] ≡ known (place_numbers p)) × IsPlace files p × IsSizedPlace p) (ok_is made p s.2) (
      ap (λ (k : Number). k ∷ l ∷ c ∷ []) file.0 ∙ ap (λ (k : Number). Some (pos q.0) ∷ k ∷ c ∷ []) line.0 ∙
          ap (λ (k : Number). Some (pos q.0) ∷ Some (pos r.0) ∷ k ∷ []) col.0,
      record { file = file.2; line = line.1; col = col.1 },
      (omega arith, omega arith),
    )

pub place_again : (files : ℕ) (p : Place) → IsPlace files p → IsSizedPlace p → place_of files (known (place_numbers p)) ≡ Ok p
unfolding place_of
place_again files p h z =
    let line = z.0 in
    let col = z.1 in
    rw (
      field_of 0 files p.file (omega arith) h.file,
      field_of 1 4294967296 p.line h.line (omega arith),
      field_of 1 4294967296 p.col h.col (omega arith),
    ) refl

pub place_fits : (files : ℕ) (p : Place) → files ≤ 16 → IsPlace files p → IsSizedPlace p → AllFit (place_numbers p)
place_fits files p le h z = let file = h.file in let line = z.0 in let col = z.1 in (omega arith, (omega arith, (omega arith, tt)))

abbrev pub function_numbers : Func → List ℤ
function_numbers f = pos f.params ∷ pos f.locals ∷ pos f.entry ∷ pos (flag f.suspends) ∷ []

flag_back : (n : ℕ) → n < 2 → flag (eqb n 1) ≡ n
flag_back zero lt = refl
flag_back (suc zero) lt = refl
flag_back (suc (suc n)) lt = absurd (omega arith)

flag_again : (b : Bool) → eqb (flag b) 1 ≡ b
flag_again false = refl
flag_again true = refl

flag_small : (b : Bool) → flag b < 2
flag_small false = omega arith
flag_small true = omega arith

pub function_is : (ops : ℕ) (ns : List Number) (f : Func) → function_of ops ns ≡ Ok f → (ns ≡ known (function_numbers f)) × IsFunction ops f
unfolding function_of
function_is ops [] f e = absurd cc
function_is ops (a ∷ []) f e = absurd cc
function_is ops (a ∷ b ∷ []) f e = absurd cc
function_is ops (a ∷ b ∷ c ∷ []) f e = absurd cc
function_is ops (a ∷ b ∷ c ∷ d ∷ x ∷ ns) f e = absurd cc
function_is ops (a ∷ b ∷ c ∷ d ∷ []) f e =
    let p = bind_ok (field 0 4294967296 a) (λ params. field params 16777217 b >>= λ locals. field 0 ops c >>= λ entry.
    field 0 2 d >>= λ suspends. Ok (record { params = params; locals = locals; entry = entry; suspends = eqb suspends 1 })) f e in
    let q = bind_ok (field p.0 16777217 b) (λ locals. field 0 ops c >>= λ entry. field 0 2 d >>= λ suspends.
    Ok (record { params = p.0; locals = locals; entry = entry; suspends = eqb suspends 1 })) f p.2 in
    let r = bind_ok (field 0 ops c) (λ entry. field 0 2 d >>= λ suspends.
    Ok (record { params = p.0; locals = q.0; entry = entry; suspends = eqb suspends 1 })) f q.2 in
    let s = bind_ok (field 0 2 d) (λ suspends. Ok (record { params = p.0; locals = q.0; entry = r.0; suspends = eqb suspends 1 })) f r.2 in
    let params = field_is 0 4294967296 p.0 a p.1 in
    let locals = field_is p.0 16777217 q.0 b q.1 in
    let entry = field_is 0 ops r.0 c r.1 in
    let suspends = field_is 0 2 s.0 d s.1 in
    let made : Func = record { params = p.0; locals = q.0; entry = r.0; suspends = eqb s.0 1 } in
    let most = locals.2 in
    subst (λ (f : Func). (a ∷ b ∷ c ∷ d ∷ [] ≡ known (function_numbers f)) × IsFunction ops f) (ok_is made f s.2) (
      ap (λ (k : Number). k ∷ b ∷ c ∷ d ∷ []) params.0 ∙ ap (λ (k : Number). Some (pos p.0) ∷ k ∷ c ∷ d ∷ []) locals.0 ∙
          ap (λ (k : Number). Some (pos p.0) ∷ Some (pos q.0) ∷ k ∷ d ∷ []) entry.0 ∙
          ap (λ (k : Number). Some (pos p.0) ∷ Some (pos q.0) ∷ Some (pos r.0) ∷ k ∷ [])
          (suspends.0 ∙ ap (λ (i : ℕ). Some (pos i)) (sym (flag_back s.0 suspends.2))),
      record { params = locals.1; locals = omega arith; entry = entry.2 },
    )

pub function_again : (ops : ℕ) (f : Func) → IsFunction ops f → function_of ops (known (function_numbers f)) ≡ Ok f
unfolding function_of
function_again ops f h =
    let params = h.params in
    let locals = h.locals in
    rw (
      field_of 0 4294967296 f.params (omega arith) (omega arith),
      field_of f.params 16777217 f.locals h.params (omega arith),
      field_of 0 ops f.entry (omega arith) h.entry,
      field_of 0 2 (flag f.suspends) (omega arith) (flag_small f.suspends),
      flag_again f.suspends,
    ) refl

pub function_fits : (ops : ℕ) (f : Func) → ops ≤ 16777216 → IsFunction ops f → AllFit (function_numbers f)
function_fits ops f le h =
    let params = h.params in
    let locals = h.locals in
    let entry = h.entry in
    let suspends = flag_small f.suspends in
    (omega arith, (omega arith, (omega arith, (omega arith, tt))))

abbrev pub class_numbers : Class → List ℤ
class_numbers c = pos c.slots ∷ naturals c.methods

-- what a class that is read has
pub record IsReadClass (functions : ℕ) (c : Class) : Type 0 where
  pub slots : IsNumber c.slots
  pub count : length c.methods ≤ 4294967295
  pub methods : AllByRecursion (λ m. m < functions) c.methods

pub class_is : (functions : ℕ) (ns : List Number) (c : Class) → class_of functions ns ≡ Ok c →
    (ns ≡ known (class_numbers c)) × IsReadClass functions c
unfolding class_of
class_is functions [] c e = absurd cc
class_is functions (s ∷ ms) c e =
    let p = bind_ok (field 0 4294967296 s) (λ slots. fields functions ms >>= λ methods.
    cond (ltb (length methods) 4294967296) (Ok (record { slots = slots; methods = methods })) (Err 3)) c e in
    let q = bind_ok (fields functions ms) (λ methods.
    cond (ltb (length methods) 4294967296) (Ok (record { slots = p.0; methods = methods })) (Err 3)) c p.2 in
    let made : Class = record { slots = p.0; methods = q.0 } in
    let g = test_ok (ltb (length q.0) 4294967296) 3 made c q.2 in
    let slots = field_is 0 4294967296 p.0 s p.1 in
    let methods = fields_are functions ms q.0 q.1 in
    let low = slots.2 in
    let few : length q.0 < 4294967296 = ltb-true _ _ g.0 in
    subst (λ (c : Class). (s ∷ ms ≡ known (class_numbers c)) × IsReadClass functions c) g.1 (
      ap (λ (k : Number). k ∷ ms) slots.0 ∙ ap (λ k. Some (pos p.0) ∷ k) methods.0,
      record { slots = omega arith; count = omega arith; methods = methods.1 },
    )

pub class_again : (functions : ℕ) (c : Class) → IsReadClass functions c → class_of functions (known (class_numbers c)) ≡ Ok c
unfolding class_of
class_again functions c h =
    let slots = h.slots in
    let count : ltb (length c.methods) 4294967296 ≡ true = lt-ltb _ _ (omega (arith, h.count)) in
    rw (field_of 0 4294967296 c.slots (omega arith) (omega arith), fields_of functions c.methods h.methods, count) refl

pub class_fits : (functions : ℕ) (c : Class) → functions ≤ 4294967295 → IsReadClass functions c → AllFit (class_numbers c)
class_fits functions c le h = let slots = h.slots in (omega arith, naturals_fit functions c.methods (omega arith) h.methods)

main_from : (functions : List Func) (main : ℕ) (o : Option Func) → slice_get functions main ≡ o → may_begin o ≡ true → IsMain functions main
main_from functions main None e t = absurd cc
main_from functions main (Some f) e t = (f, e, leb-true f.params 1 t)

pub main_is : (functions : List Func) (ns : List Number) (main : ℕ) → main_of functions ns ≡ Ok main →
    (ns ≡ known (pos main ∷ [])) × IsMain functions main × (main < 4294967296)
unfolding main_of
main_is functions ns main e =
    let p = bind_ok (only_field 0 4294967296 ns) (λ n. cond (may_begin (slice_get functions n)) (Ok n) (Err 3)) main e in
    let g = test_ok (may_begin (slice_get functions p.0)) 3 p.0 main p.2 in
    let n = only_is 0 4294967296 p.0 ns p.1 in
    subst (λ main. (ns ≡ known (pos main ∷ [])) × IsMain functions main × (main < 4294967296)) g.1
    (n.0, main_from functions p.0 (slice_get functions p.0) refl g.0, n.2)

pub main_again : (functions : List Func) (main : ℕ) → IsMain functions main → main < 4294967296 →
    main_of functions (known (pos main ∷ [])) ≡ Ok main
unfolding main_of
main_again functions main h lt =
    let begins : may_begin (slice_get functions main) ≡ true = ap may_begin h.1 ∙ le-leb h.0.params 1 h.2 in
    rw (field_of 0 4294967296 main (omega arith) lt, begins) refl

-- ---- texts

digit_from : (b h : ℕ) (s t : Bool) → (leb 48 b && leb b 57) ≡ s → (leb 97 b && leb b 102) ≡ t →
    cond s (Some (b - 48)) (cond t (Some (b - 87)) None) ≡ Some h → (b ≡ hex_digit h) × (h < 16)
digit_from b h true t e f g =
    let same : b - 48 ≡ h = cc in
    let k = and_parts _ _ e in
    let low : 48 ≤ b = leb-true _ _ k.0 in
    let high : b ≤ 57 = leb-true _ _ k.1 in
    let test : ltb h 10 ≡ true = lt-ltb _ _ (omega arith) in
    let is : b ≡ 48 + h = omega arith in
    (rw test is, omega arith)
digit_from b h false true e f g =
    let same : b - 87 ≡ h = cc in
    let k = and_parts _ _ f in
    let low : 97 ≤ b = leb-true _ _ k.0 in
    let high : b ≤ 102 = leb-true _ _ k.1 in
    let test : ltb h 10 ≡ false = le-ltb _ _ (omega arith) in
    let is : b ≡ 87 + h = omega arith in
    (rw test is, omega arith)
digit_from b h false false e f g = absurd cc

digit_is : (b h : ℕ) → digit_of b ≡ Some h → (b ≡ hex_digit h) × (h < 16)
digit_is b h e = digit_from b h (leb 48 b && leb b 57) (leb 97 b && leb b 102) refl refl e

digit_again : (h : ℕ) → h < 16 → digit_of (hex_digit h) ≡ Some h
digit_again h lt = elim (cases_lt h 10) [
  | inl low ↦
      let test : ltb h 10 ≡ true = lt-ltb _ _ low in
      let one : (leb 48 (48 + h) && leb (48 + h) 57) ≡ true =
      and_from _ _ (le-leb 48 (48 + h) (omega arith)) (le-leb (48 + h) 57 (omega arith)) in
      let back : 48 + h - 48 ≡ h = omega arith in
      rw (test, one, back) refl
  | inr high ↦
      let test : ltb h 10 ≡ false = le-ltb _ _ high in
      let one : (leb 48 (87 + h) && leb (87 + h) 57) ≡ false =
      and_right (leb 48 (87 + h)) (leb (87 + h) 57) (lt-leb (87 + h) 57 (omega arith)) in
      let two : (leb 97 (87 + h) && leb (87 + h) 102) ≡ true =
      and_from _ _ (le-leb 97 (87 + h) (omega arith)) (le-leb (87 + h) 102 (omega arith)) in
      let back : 87 + h - 87 ≡ h = omega arith in
      rw (test, one, two, back) refl
]

abbrev pub EachByte : List ℕ → Type 0
EachByte text = AllByRecursion (λ b. b ≤ 255) text

pub bytes_are : (w : Word) (text : List ℕ) → bytes_of w ≡ Ok text → (w ≡ hex text) × EachByte text
unfolding bytes_of
bytes_are [] text e = subst (λ text. ([] ≡ hex text) × EachByte text) (ok_is [] text e) (refl, tt)
bytes_are (a ∷ []) text e = absurd cc
bytes_are (a ∷ b ∷ digits) text e =
    let p = bind_ok (given 1 (digit_of a)) (λ h. given 1 (digit_of b) >>= λ l. bytes_of digits >>= λ bytes. Ok ((h * 16 + l) ∷ bytes)) text
    e in
    let q = bind_ok (given 1 (digit_of b)) (λ l. bytes_of digits >>= λ bytes. Ok ((p.0 * 16 + l) ∷ bytes)) text p.2 in
    let r = bind_ok (bytes_of digits) (λ bytes. Ok ((p.0 * 16 + q.0) ∷ bytes)) text q.2 in
    let high = digit_is a p.0 (given_is 1 (digit_of a) p.0 p.1) in
    let low = digit_is b q.0 (given_is 1 (digit_of b) q.0 q.1) in
    let rest = bytes_are digits r.0 r.1 in
    let h : p.0 < 16 = high.1 in
    let l : q.0 < 16 = low.1 in
    let up : p.0 ≡ (p.0 * 16 + q.0) / 16 = omega arith in
    let down : q.0 ≡ (p.0 * 16 + q.0) % 16 = omega arith in
    subst (λ text. (a ∷ b ∷ digits ≡ hex text) × EachByte text) (ok_is ((p.0 * 16 + q.0) ∷ r.0) text r.2) (
      ap (λ (k : ℕ). k ∷ b ∷ digits) (high.0 ∙ ap hex_digit up) ∙
          ap (λ (k : ℕ). hex_digit ((p.0 * 16 + q.0) / 16) ∷ k ∷ digits) (low.0 ∙ ap hex_digit down) ∙
          ap (λ (k : List ℕ). hex_digit ((p.0 * 16 + q.0) / 16) ∷ hex_digit ((p.0 * 16 + q.0) % 16) ∷ k) rest.0,
      (omega arith, rest.1),
    )

pub bytes_again : (text : List ℕ) → EachByte text → bytes_of (hex text) ≡ Ok text
unfolding bytes_of
bytes_again [] h = refl
bytes_again (b ∷ bytes) h =
    let byte = h.0 in
    let whole : b / 16 * 16 + b % 16 ≡ b = omega arith in
    rw (digit_again (b / 16) (omega arith), digit_again (b % 16) (omega arith), bytes_again bytes h.1, whole) refl

-- the words of a text's line behind its keyword
abbrev pub text_words : List ℕ → List Word
text_words [] = []
text_words (b ∷ bytes) = hex (b ∷ bytes) ∷ []

pub text_is : (ws : List Word) (text : List ℕ) → text_of ws ≡ Ok text → (ws ≡ text_words text) × IsText text × EachByte text
unfolding text_of
text_is [] text e = subst (λ text. ([] ≡ text_words text) × IsText text × EachByte text) (ok_is [] text e) (refl, omega arith, tt)
text_is ([] ∷ others) text e = absurd cc
text_is ((b ∷ digits) ∷ next ∷ others) text e = absurd cc
text_is ((b ∷ digits) ∷ []) text e =
    let p = bind_ok (bytes_of (b ∷ digits)) short_text text e in
    let g = test_ok (ltb (length p.0) 4000000) 3 p.0 text p.2 in
    let few : length p.0 < 4000000 = ltb-true _ _ g.0 in
    let w = bytes_are (b ∷ digits) p.0 p.1 in
    subst (λ text. ((b ∷ digits) ∷ [] ≡ text_words text) × IsText text × EachByte text) g.1 (worded p.0 w.0, omega arith, w.1)
  where
    worded : (text : List ℕ) → b ∷ digits ≡ hex text → (b ∷ digits) ∷ [] ≡ text_words text
    worded [] e = absurd cc
    worded (c ∷ text) e = ap (λ (k : Word). k ∷ []) e

pub text_again : (text : List ℕ) → IsText text → EachByte text → text_of (text_words text) ≡ Ok text
unfolding text_of
text_again [] h b = refl
text_again (b ∷ bytes) h k =
    let few : ltb (length (b ∷ bytes)) 4000000 ≡ true = lt-ltb _ _ (omega (arith, h)) in
    rw (bytes_again (b ∷ bytes) k, few) refl
