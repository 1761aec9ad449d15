-- Parts of notes that are read stand in the bytes that are written of them.
use Rattle.std.proofs.Common.{◌≡◌, ℕ, zero, suc, ◌+◌, ◌-◌, ◌<◌, ◌≤◌, true, cond, ltb, inl, inr, List, [], ◌∷◌, ◌++◌, length}
use Rattle.std.proofs.Common.{Result, Ok, Err, refl, sym, ap, subst, ◌∙◌, append_assoc, arith}
use Rattle.std.proofs.lemmas.Bool.{cases_lt, lt-ltb}
use Rattle.std.proofs.lemmas.Option.{slice_get_past}
use Rattle.std.specs.Prelude.{Option, Some, None, nat_lt, slice_get}
use Rattle.verse_code.specs.declared.codes.Code.{Code}
use Rattle.verse_image.specs.declared.faults.Flaw.{Flaw}
use Rattle.verse_image.specs.Numbers.{IsBytes}
use Rattle.verse_image.specs.Reading.{◌>>=◌, Reader, flaw, number_at, many_at}
use Rattle.verse_image.proofs.NumberLaws.{bind_ok, ok_is, number_take, within_take}
use Rattle.verse_sorts.specs.Sorts as s
use Rattle.verse_sorts.specs.Sorts.{Sort}
use Rattle.verse_verify_kept.specs.Rules as rules
use Rattle.verse_verify_faults.specs.Reading.{after, answers, below, option_at, list_at, each_at, plain_sorts, sort_of_parts, sort_with}
use Rattle.verse_verify_faults.specs.Reading.{sort_in}
use Rattle.verse_verify_bytes.specs.Bytes.{number, each, counted, option, sort}
use Rattle.verse_verify_bytes.proofs.Numbers.{one_spelling}
use Rattle.verse_verify_bytes.proofs.Sorts.{parts_counted}

-- the bytes are those of the thing that is read, and then what is behind it
pub record Spelt {A : Type 0} (f : A → List ℕ) (bytes : List ℕ) (x : A × List ℕ) : Type 0 where
  pub same : bytes ≡ f x.0 ++ x.1
  pub fits : IsBytes x.1

abbrev pub Spells : {A : Type 0} → Reader A → (A → List ℕ) → Type 0
Spells {A} one f = (bytes : List ℕ) (x : A × List ℕ) → IsBytes bytes → one bytes ≡ Ok x → Spelt f bytes x

pub after_ok : {A B : Type 0} (r : Result (A × List ℕ) Flaw) (go : A → Reader B) (y : B × List ℕ) → after r go ≡ Ok y →
    (x : A × List ℕ) × (r ≡ Ok x) × (go x.0 x.1 ≡ Ok y)
after_ok (Ok x) go y e = (x, refl, e)
after_ok (Err d) go y e = absurd cc

pub is_read : {A : Type 0} (f : A → List ℕ) (bytes : List ℕ) (a : A) (rest : List ℕ) (x : A × List ℕ) → answers a rest ≡ Ok x →
    bytes ≡ f a ++ rest → IsBytes rest → Spelt f bytes x
is_read f bytes a rest x e same fits = subst (Spelt f bytes) (ok_is (a, rest) x e) (record { same = same; fits = fits })

pub joined : (a p bytes between rest : List ℕ) → bytes ≡ a ++ between → between ≡ p ++ rest → bytes ≡ (a ++ p) ++ rest
joined a p bytes between rest e d = e ∙ ap (λ (w : List ℕ). a ++ w) d ∙ sym (append_assoc a p rest)

-- ---- numbers

pub number_once : Spells number_at number
number_once bytes x fits e =
    let p = number_take bytes x fits e in
    record { same = one_spelling x.0 bytes x.1 (omega (arith, p.spelled.0)) p.spelled.1; fits = p.fits }

pub below_once : (end : ℕ) → Spells (below end) number
below_once end bytes x fits e =
    let p = (within_take 0 end bytes x fits e).0 in
    record { same = one_spelling x.0 bytes x.1 (omega (arith, p.spelled.0)) p.spelled.1; fits = p.fits }

pub is_below : (end : ℕ) (bytes : List ℕ) (x : ℕ × List ℕ) → IsBytes bytes → below end bytes ≡ Ok x → x.0 < end
is_below end bytes x fits e = (within_take 0 end bytes x fits e).2

one_byte : (n : ℕ) → n < 128 → number n ≡ n ∷ []
one_byte n lt = let e : ltb n 128 ≡ true = lt-ltb n 128 lt in rw e refl

-- a number of one byte
pub byte_once : (end : ℕ) (bytes : List ℕ) (x : ℕ × List ℕ) → end ≤ 128 → IsBytes bytes → below end bytes ≡ Ok x → bytes ≡ x.0 ∷ x.1
byte_once end bytes x le fits e =
    (below_once end bytes x fits e).same ∙
    ap (λ (w : List ℕ). w ++ x.1) (one_byte x.0 (omega (arith, le, is_below end bytes x fits e)))

-- ---- options and lists

pub option_once : {A : Type 0} (one : Reader A) (f : A → List ℕ) → Spells one f → Spells (option_at one) (option f)
option_once {A} one f h bytes x fits e =
    let p = after_ok (below 2 bytes) (λ n rest. cond (nat_lt 0 n) (after (one rest) (λ a. answers (Some a))) (answers None rest)) x e in
    subst (λ (w : List ℕ). Spelt (option f) w x) (sym (byte_once 2 bytes p.0 (omega arith) fits p.1))
    (by_choice p.0.0 p.0.1 x (is_below 2 bytes p.0 fits p.1) (below_once 2 bytes p.0 fits p.1).fits p.2)
  where
    by_choice : (n : ℕ) (rest : List ℕ) (x : Option A × List ℕ) → n < 2 → IsBytes rest →
        cond (nat_lt 0 n) (after (one rest) (λ a. answers (Some a))) (answers None rest) ≡ Ok x → Spelt (option f) (n ∷ rest) x
    by_choice zero rest x lt fits e =
        is_read (option f) (0 ∷ rest) None rest x e refl fits
    by_choice (suc zero) rest x lt fits e =
        let p = after_ok (one rest) (λ a. answers (Some a)) x e in
        let q = h rest p.0 fits p.1 in
        is_read (option f) (1 ∷ rest) (Some p.0.0) p.0.1 x p.2 (ap (λ (w : List ℕ). 1 ∷ w) q.same) q.fits
    by_choice (suc (suc n)) rest x lt fits e = absurd (omega (arith, lt))

pub many_once : {A : Type 0} (one : Reader A) (f : A → List ℕ) → Spells one f → (n : ℕ) (bytes : List ℕ) (x : List A × List ℕ) →
    IsBytes bytes → many_at one n bytes ≡ Ok x → Spelt (each f) bytes x × (length x.0 ≡ n)
unfolding many_at
many_once one f h zero bytes x fits e =
    subst (λ (y : List _ × List ℕ). Spelt (each f) bytes y × (length y.0 ≡ 0)) (ok_is ([], bytes) x e)
    (record { same = refl; fits = fits }, refl)
many_once one f h (suc n) bytes x fits e =
    let p = bind_ok (one bytes) (λ a. many_at one n a.1 >>= λ xs. Ok (a.0 ∷ xs.0, xs.1)) x e in
    let q = bind_ok (many_at one n p.0.1) (λ xs. Ok (p.0.0 ∷ xs.0, xs.1)) x p.2 in
    let first = h bytes p.0 fits p.1 in
    let others = many_once one f h n p.0.1 q.0 first.fits q.1 in
    subst (λ (y : List _ × List ℕ). Spelt (each f) bytes y × (length y.0 ≡ suc n)) (ok_is (p.0.0 ∷ q.0.0, q.0.1) x q.2) (
      record {
        same = joined (f p.0.0) (each f q.0.0) bytes p.0.1 q.0.1 first.same others.0.same;
        fits = others.0.fits;
      },
      ap suc others.1,
    )

pub list_once : {A : Type 0} (one : Reader A) (f : A → List ℕ) → Spells one f → Spells (list_at one) (counted f)
list_once one f h bytes x fits e =
    let p = after_ok (number_at bytes) (λ n rest. many_at one n rest) x e in
    let n = number_once bytes p.0 fits p.1 in
    let xs = many_once one f h p.0.0 p.0.1 x n.fits p.2 in
    let how_many : number p.0.0 ≡ number (length x.0) = ap number (sym xs.1) in
    record {
      same = joined (number (length x.0)) (each f x.0) bytes p.0.1 x.1 (n.same ∙ ap (λ (w : List ℕ). w ++ p.0.1) how_many) xs.0.same;
      fits = xs.0.fits;
    }

module _ (c : Code) where
  pub each_once : {A K : Type 0} (one : K → Reader A) (f : A → List ℕ) → ((k : K) → Spells (one k) f) → (ks : List K) →
      Spells (each_at c one ks) (each f)
  each_once one f h [] bytes x fits e =
      is_read (each f) bytes [] bytes x e refl fits
  each_once one f h (k ∷ ks) bytes x fits e =
      let p = after_ok (one k bytes) (λ y rest. after (each_at c one ks rest) (λ ys. answers (y ∷ ys))) x e in
      let q = after_ok (each_at c one ks p.0.1) (λ ys. answers (p.0.0 ∷ ys)) x p.2 in
      let first = h k bytes p.0 fits p.1 in
      let others = each_once one f h ks p.0.1 q.0 first.fits q.1 in
      is_read (each f) bytes (p.0.0 ∷ q.0.0) q.0.1 x q.2
      (joined (f p.0.0) (each f q.0.0) bytes p.0.1 q.0.1 first.same others.same) others.fits

  -- ---- sorts

  alone : (a : Sort) (tag : ℕ) (rest : List ℕ) (x : Sort × List ℕ) → sort a ≡ tag ∷ [] → IsBytes rest → answers a rest ≡ Ok x →
      Spelt sort (tag ∷ rest) x
  alone a tag rest x t fits e =
      is_read sort (tag ∷ rest) a rest x e (ap (λ (w : List ℕ). w ++ rest) (sym t)) fits

  plain_once : (one : Reader Sort) (tag : ℕ) (rest : List ℕ) (x : Sort × List ℕ) → tag < 9 → IsBytes rest →
      sort_with c (slice_get (plain_sorts c) tag) tag one rest ≡ Ok x → Spelt sort (tag ∷ rest) x
  plain_once one zero rest x lt fits e = alone s.none 0 rest x refl fits e
  plain_once one (suc zero) rest x lt fits e = alone s.any 1 rest x refl fits e
  plain_once one (suc (suc zero)) rest x lt fits e = alone s.never 2 rest x refl fits e
  plain_once one (suc (suc (suc zero))) rest x lt fits e = alone s.unit 3 rest x refl fits e
  plain_once one (suc (suc (suc (suc zero)))) rest x lt fits e = alone s.nil 4 rest x refl fits e
  plain_once one (suc (suc (suc (suc (suc zero))))) rest x lt fits e = alone s.int 5 rest x refl fits e
  plain_once one (suc (suc (suc (suc (suc (suc zero)))))) rest x lt fits e = alone s.logic 6 rest x refl fits e
  plain_once one (suc (suc (suc (suc (suc (suc (suc zero))))))) rest x lt fits e = alone s.char 7 rest x refl fits e
  plain_once one (suc (suc (suc (suc (suc (suc (suc (suc zero)))))))) rest x lt fits e = alone s.span 8 rest x refl fits e
  plain_once one (suc (suc (suc (suc (suc (suc (suc (suc (suc n))))))))) rest x lt fits e = absurd (omega (arith, lt))

  module _ (one : Reader Sort) (h : Spells one sort) where
    -- a sort of one part
    of_one : (make : Sort → Sort) (tag : ℕ) (rest : List ℕ) (x : Sort × List ℕ) → ((a : Sort) → sort (make a) ≡ tag ∷ sort a) →
        IsBytes rest → after (one rest) (λ a. answers (make a)) ≡ Ok x → Spelt sort (tag ∷ rest) x
    of_one make tag rest x t fits e =
        let p = after_ok (one rest) (λ a. answers (make a)) x e in
        let q = h rest p.0 fits p.1 in
        is_read sort (tag ∷ rest) (make p.0.0) p.0.1 x p.2
        (ap (λ (w : List ℕ). tag ∷ w) q.same ∙ ap (λ (w : List ℕ). w ++ p.0.1) (sym (t p.0.0))) q.fits

    of_number : (make : ℕ → Sort) (read : Reader ℕ) (tag : ℕ) (rest : List ℕ) (x : Sort × List ℕ) → Spells read number →
        ((n : ℕ) → sort (make n) ≡ tag ∷ number n) → IsBytes rest → after (read rest) (λ n. answers (make n)) ≡ Ok x →
        Spelt sort (tag ∷ rest) x
    of_number make read tag rest x g t fits e =
        let p = after_ok (read rest) (λ n. answers (make n)) x e in
        let q = g rest p.0 fits p.1 in
        is_read sort (tag ∷ rest) (make p.0.0) p.0.1 x p.2
        (ap (λ (w : List ℕ). tag ∷ w) q.same ∙ ap (λ (w : List ℕ). w ++ p.0.1) (sym (t p.0.0))) q.fits

    of_map : (rest : List ℕ) (x : Sort × List ℕ) → IsBytes rest →
        after (one rest) (λ k rest. after (one rest) (λ a. answers (s.map k a))) ≡ Ok x → Spelt sort (16 ∷ rest) x
    of_map rest x fits e =
        let p = after_ok (one rest) (λ k rest. after (one rest) (λ a. answers (s.map k a))) x e in
        let q = after_ok (one p.0.1) (λ a. answers (s.map p.0.0 a)) x p.2 in
        let key = h rest p.0 fits p.1 in
        let value = h p.0.1 q.0 key.fits q.1 in
        is_read sort (16 ∷ rest) (s.map p.0.0 q.0.0) q.0.1 x q.2
        (ap (λ (w : List ℕ). 16 ∷ w) (joined (sort p.0.0) (sort q.0.0) rest p.0.1 q.0.1 key.same value.same)) value.fits

    of_tuple : (rest : List ℕ) (x : Sort × List ℕ) → IsBytes rest →
        after (list_at one rest) (λ xs. answers (s.tuple (rules.sorts xs))) ≡ Ok x → Spelt sort (17 ∷ rest) x
    of_tuple rest x fits e =
        let p = after_ok (list_at one rest) (λ xs. answers (s.tuple (rules.sorts xs))) x e in
        let q = list_once one sort h rest p.0 fits p.1 in
        is_read sort (17 ∷ rest) (s.tuple (rules.sorts p.0.0)) p.0.1 x p.2
        (ap (λ (w : List ℕ). 17 ∷ w) (q.same ∙ ap (λ (w : List ℕ). w ++ p.0.1) (sym (parts_counted p.0.0)))) q.fits

    parts_once : (k : ℕ) (rest : List ℕ) (x : Sort × List ℕ) → k < 9 → IsBytes rest → sort_of_parts c k one rest ≡ Ok x →
        Spelt sort ((9 + k) ∷ rest) x
    parts_once zero rest x lt fits e = of_number s.enum number_at 9 rest x number_once (λ n. refl) fits e
    parts_once (suc zero) rest x lt fits e =
        of_number s.obj (below (length c.classes)) 10 rest x (below_once (length c.classes)) (λ n. refl) fits e
    parts_once (suc (suc zero)) rest x lt fits e = of_one s.var 11 rest x (λ a. refl) fits e
    parts_once (suc (suc (suc zero))) rest x lt fits e = of_one s.event 12 rest x (λ a. refl) fits e
    parts_once (suc (suc (suc (suc zero)))) rest x lt fits e = of_one s.task 13 rest x (λ a. refl) fits e
    parts_once (suc (suc (suc (suc (suc zero))))) rest x lt fits e = of_one s.opt 14 rest x (λ a. refl) fits e
    parts_once (suc (suc (suc (suc (suc (suc zero)))))) rest x lt fits e = of_one s.list 15 rest x (λ a. refl) fits e
    parts_once (suc (suc (suc (suc (suc (suc (suc zero))))))) rest x lt fits e = of_map rest x fits e
    parts_once (suc (suc (suc (suc (suc (suc (suc (suc zero)))))))) rest x lt fits e = of_tuple rest x fits e
    parts_once (suc (suc (suc (suc (suc (suc (suc (suc (suc n))))))))) rest x lt fits e = absurd (omega (arith, lt))

    behind_tag : (tag : ℕ) (rest : List ℕ) (x : Sort × List ℕ) → tag < 18 → IsBytes rest →
        sort_with c (slice_get (plain_sorts c) tag) tag one rest ≡ Ok x → Spelt sort (tag ∷ rest) x
    behind_tag tag rest x lt fits e =
        elim (cases_lt tag 9) [
          | inl plain ↦ plain_once one tag rest x plain fits e
          | inr past ↦
              let none : slice_get (plain_sorts c) tag ≡ None = slice_get_past (plain_sorts c) tag past in
              let up : 9 + (tag - 9) ≡ tag = omega (arith, past) in
              subst (λ (t : ℕ). Spelt sort (t ∷ rest) x) up
              (parts_once (tag - 9) rest x (omega (arith, lt, past)) fits
              (sym (ap (λ (o : Option Sort). sort_with c o tag one rest) none) ∙ e))
        ]

  pub sort_once : (levels : ℕ) → Spells (sort_in c levels) sort
  sort_once zero bytes x fits e =
      let p = after_ok (below 18 bytes) (λ tag rest. Err (flaw 1 (length bytes))) x e in
      absurd cc
  sort_once (suc levels) bytes x fits e =
      let p = after_ok (below 18 bytes) (λ tag rest. sort_with c (slice_get (plain_sorts c) tag) tag (sort_in c levels) rest) x e in
      subst (λ (w : List ℕ). Spelt sort w x) (sym (byte_once 18 bytes p.0 (omega arith) fits p.1))
      (behind_tag (sort_in c levels) (sort_once levels) p.0.0 p.0.1 x (is_below 18 bytes p.0 fits p.1)
      (below_once 18 bytes p.0 fits p.1).fits p.2)
