-- Bytes that are read give as many notes as the code has classes, functions and operations.
use Rattle.std.proofs.Common.{◌≡◌, ℕ, zero, suc, length, List, [], ◌∷◌, Some, None, Result, Ok, Err, refl, sym, subst}
use Rattle.std.proofs.Common.{ap, ◌∙◌}
use Rattle.std.specs.Prelude.{slice_get}
use Rattle.std.proofs.lemmas.Option.{none-some, same_Some}
use Rattle.verse_code.specs.declared.codes.Func.{Func}
use Rattle.verse_code.specs.declared.codes.Code.{Code}
use Rattle.verse_image.specs.declared.faults.Flaw.{Flaw}
use Rattle.verse_image.specs.Reading.{Reader, many_at, ◌>>=◌}
use Rattle.verse_verify_kept.specs.Notes.{FuncNote}
use Rattle.verse_verify_faults.specs.Spots.{Table}
use Rattle.verse_verify_faults.specs.Faults.{notes_fault}
use Rattle.verse_verify_faults.specs.Reading.{after, below, each_at, marked, mark, class_at, func_at, spots_at, sort_at}
use Rattle.verse_verify_faults.specs.Reading.{whole, ends, notes_at, fault_in, verdict}
use Rattle.verse_verify_laws.specs.Laws.{Formed}

abbrev read : {A : Type 0} → A × List ℕ → Result (A × List ℕ) Flaw
read x = Ok x

wrong : {A : Type 0} (f : Flaw) (x : A × List ℕ) → Err f ≡ read x → ⊥
wrong f x e = cc

same_read : {A : Type 0} (x y : A × List ℕ) → read x ≡ read y → x ≡ y
same_read x y e = cc

-- what was read before
pub after_is : {A B : Type 0} (m : Result (A × List ℕ) Flaw) (go : A → Reader B) (y : B × List ℕ) → after m go ≡ Ok y →
    (x : A × List ℕ) × (m ≡ Ok x) × (go x.0 x.1 ≡ Ok y)
after_is (Err f) go y e = elim (wrong f y e) [ ]
after_is (Ok x) go y e = (x, refl, e)

-- behind what was read, one more
abbrev joined : {A : Type 0} → A → Result (List A × List ℕ) Flaw → Result (List A × List ℕ) Flaw
joined a (Err f) = Err f
joined a (Ok y) = Ok (a ∷ y.0, y.1)

joined_length : {A : Type 0} (n : ℕ) (a : A) (r : Result (List A × List ℕ) Flaw) (x : List A × List ℕ) →
    ((y : List A × List ℕ) → r ≡ Ok y → length y.0 ≡ n) → joined a r ≡ Ok x → length x.0 ≡ suc n
joined_length n a (Err f) x go e = elim (wrong f x e) [ ]
joined_length {A = A} n a (Ok y) x go e =
    ap (λ (x : List A × List ℕ). length x.0) (sym (same_read (a ∷ y.0, y.1) x e)) ∙ ap suc (go y refl)

many_step : {A : Type 0} (one : Reader A) (n : ℕ) (bytes : List ℕ) (x : List A × List ℕ) → many_at one (suc n) bytes ≡
    Ok x →
    (y : A × List ℕ) × (joined y.0 (many_at one n y.1) ≡ Ok x)
unfolding many_at
many_step {A = A} one n bytes x e = by_first (one bytes) e
  where
    by_rest : (y : A × List ℕ) (r : Result (List A × List ℕ) Flaw) → (r >>= λ z. Ok (y.0 ∷ z.0, z.1)) ≡ Ok x →
        joined y.0 r ≡ Ok x
    by_rest y (Err f) e = e
    by_rest y (Ok z) e = e

    by_first : (m : Result (A × List ℕ) Flaw) → (m >>= λ y. (many_at one n y.1 >>= λ z. Ok (y.0 ∷ z.0, z.1))) ≡ Ok x →
        (y : A × List ℕ) × (joined y.0 (many_at one n y.1) ≡ Ok x)
    by_first (Err f) e = elim (wrong f x e) [ ]
    by_first (Ok y) e = (y, by_rest y (many_at one n y.1) e)

many_none : {A : Type 0} (one : Reader A) (bytes : List ℕ) (x : List A × List ℕ) → many_at one zero bytes ≡ Ok x →
    length x.0 ≡ 0
unfolding many_at
many_none {A = A} one bytes x e = ap (λ (x : List A × List ℕ). length x.0) (sym (same_read ([], bytes) x e))

pub many_length : {A : Type 0} (one : Reader A) (n : ℕ) (bytes : List ℕ) (x : List A × List ℕ) → many_at one n bytes ≡
    Ok x →
    length x.0 ≡ n
many_length one zero bytes x e = many_none one bytes x e
many_length one (suc n) bytes x e =
    let s = many_step one n bytes x e in
    joined_length n s.0.0 (many_at one n s.0.1) x (λ y h. many_length one n s.0.1 y h) s.1

module _ (c : Code) where
  record EachRead {A B : Type 0} (P : A → B → Type 0) (xs : List A) (ys : List B) : Type 0 where
    pub count : length ys ≡ length xs
    pub each : (k : ℕ) (a : A) (b : B) → slice_get xs k ≡ Some a → slice_get ys k ≡ Some b → P a b

  each_read : {A B : Type 0} (P : A → B → Type 0) (one : A → Reader B) → ((a : A) (bytes : List ℕ) (x : B × List ℕ) →
      one a bytes ≡ Ok x →
      P a x.0) → (xs : List A) (bytes : List ℕ) (x : List B × List ℕ) → each_at c one xs bytes ≡ Ok x → EachRead P xs
      x.0
  each_read {A = A} {B = B} P one all [] bytes x e =
      subst (λ (x : List B × List ℕ). EachRead P [] x.0) (same_read ([], bytes) x e) (record {
        count = refl;
        each = λ k a b h n. elim (none-some _ h) [ ];
      })
  each_read {A = A} {B = B} P one all (a ∷ xs) bytes x e =
      let first = after_is (one a bytes) (λ b rest. after (each_at c one xs rest) (λ ys rest. Ok (b ∷ ys, rest))) x e in
      let more = after_is (each_at c one xs first.0.1) (λ ys rest. Ok (first.0.0 ∷ ys, rest)) x first.2 in
      subst (λ (x : List B × List ℕ). EachRead P (a ∷ xs) x.0) (same_read (first.0.0 ∷ more.0.0, more.0.1) x more.2)
      (longer first.0.0
      more.0.0 (all a bytes first.0 first.1) (each_read P one all xs first.0.1 more.0 more.1))
    where
      longer : (b : B) (ys : List B) → P a b → EachRead P xs ys → EachRead P (a ∷ xs) (b ∷ ys)
      longer b ys p r = record { count = ap suc r.count; each = by_index }
        where
          by_index : (k : ℕ) (d : A) (e : B) → slice_get (a ∷ xs) k ≡ Some d → slice_get (b ∷ ys) k ≡ Some e → P d e
          by_index zero d e h n = subst (λ d. P d e) (same_Some _ _ h) (subst (λ e. P a e) (same_Some _ _ n) p)
          by_index (suc k) d e h n = r.each k d e h n

  func_params : (f : Func) (bytes : List ℕ) (x : FuncNote × List ℕ) → func_at c f bytes ≡ Ok x → length x.0.params ≡
      f.params
  func_params f bytes x e =
      let params = after_is (many_at (sort_at c) f.params bytes) _ x e in
      let result = after_is (sort_at c params.0.1) _ x params.2 in
      let fails = after_is (below 2 result.0.1) _ x result.2 in
      let waits = after_is (below 2 fails.0.1) _ x fails.2 in
      ap (λ (x : FuncNote × List ℕ). length x.0.params) (sym (same_read _ x waits.2)) ∙ many_length (sort_at c)
      f.params bytes params.0 params.1

  abbrev always : {A B : Type 0} → A → B → Type 0
  always a b = Unit {0}

  abbrev fine : Table → Result Table Flaw
  fine t = Ok t

  -- the tables of all that is read
  parsed : (all : List ℕ) (r : Result (Table × List ℕ) Flaw) (t : Table) → whole c r ≡ Ok t → (x : Table × List ℕ) × (r
      ≡ Ok x) × (x.0 ≡ t)
  parsed all (Err f) t e = elim (no f e) [ ]
    where
      no : (f : Flaw) → Err f ≡ fine t → ⊥
      no f e = cc
  parsed all (Ok x) t e = (x, refl, at_end x.1 e)
    where
      at_end : (bytes : List ℕ) → ends c x.0 bytes ≡ Ok t → x.0 ≡ t
      at_end [] e = cc
      at_end (b ∷ bytes) e = elim (no e) [ ]
        where
          no : {f : Flaw} → Err f ≡ fine t → ⊥
          no e = cc

  pub formed : (bytes : List ℕ) (t : Table) → notes_at c bytes ≡ Ok t → Formed c t
  formed bytes t e =
      let x = parsed bytes _ t e in
      let front = after_is (marked c (mark c) (length bytes) bytes) _ x.0 x.1 in
      let classes = after_is (each_at c (class_at c) c.classes front.0.1) _ x.0 front.2 in
      let functions = after_is (each_at c (func_at c) c.functions classes.0.1) _ x.0 classes.2 in
      let spots = after_is (spots_at c c.ops functions.0.1) _ x.0 functions.2 in
      let table = same_read _ x.0 spots.2 in
      let read_classes = each_read always (class_at c) (λ a bytes x e. tt) c.classes front.0.1 classes.0 classes.1 in
      let read_functions = each_read (λ (f : Func) (g : FuncNote). length g.params ≡ f.params) (func_at c) func_params
      c.functions classes.0.1
      functions.0 functions.1 in
      let read_spots = each_read always _ (λ a bytes x e. tt) c.ops functions.0.1 spots.0 spots.1 in
      subst (Formed c) (ap (λ (x : Table × List ℕ). x.0) table ∙ x.2) (record {
        classes = read_classes.count;
        functions = read_functions.count;
        params = read_functions.each;
        spots = read_spots.count;
      })

  -- bytes without a fault are read, and what they give has none
  pub no_fault : (bytes : List ℕ) → verdict c bytes ≡ None → (t : Table) × (notes_at c bytes ≡ Ok t) × (notes_fault c t
      ≡ None)
  no_fault bytes e = by_read (notes_at c bytes) refl e
    where
      by_read : (r : Result Table Flaw) → notes_at c bytes ≡ r → fault_in c (length bytes) r ≡ None →
          (t : Table) × (notes_at c bytes ≡ Ok t) × (notes_fault c t ≡ None)
      by_read (Err f) h e = elim (none-some _ (sym e)) [ ]
      by_read (Ok t) h e = (t, h, e)
