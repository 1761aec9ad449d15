-- Operations that compute, and what they ask.
use Rattle.std.proofs.Common.{◌≡◌, ℕ, zero, suc, ◌+◌, length, List, [], ◌∷◌, Option, Some, None, Bool, true, false}
use Rattle.std.proofs.Common.{refl, sym}
use Rattle.std.proofs.Common.{subst, arith}
use Rattle.std.specs.Prelude.{ℤ, ◌&&◌, ◌||◌, slice_get}
use Rattle.std.proofs.lemmas.Option.{none-some, same_Some}
use Rattle.std.proofs.lemmas.Bool.{and_parts, cond_both}
use Rattle.verse_code.specs.declared.operations.Op.{Op}
use Rattle.verse_code.specs.declared.operations.Op.TheVariants as o
use Rattle.verse_code.specs.declared.codes.Code.{Code}
use Rattle.verse_code_machine_parents.proofs.Lists.{no_both}
use Rattle.verse_sorts.specs.Sorts as s
use Rattle.verse_sorts.specs.Sorts.{Sort, IsKnown, Sorts, Fits, IsKey, from_never, fits_list}
use Rattle.verse_sorts.specs.Typing.{at}
use Rattle.verse_verify_kept.specs.Notes.{ClassNote}
use Rattle.verse_verify_kept.specs.Rules as r
use Rattle.verse_verify_kept.specs.Rules.{Fit, To, Pops, Passes, AllIn, in_no, in_so, Keyed, keyed_no, keyed_so, Shown}
use Rattle.verse_verify_kept.specs.Rules.{shown_no, shown_int, shown_char}
use Rattle.verse_verify_kept.specs.Rules.{shown_text, Queried, of_option, of_logic, of_nil, of_never, Indexed, in_list}
use Rattle.verse_verify_kept.specs.Rules.{in_map, in_never, Path}
use Rattle.verse_verify_kept.specs.Rules.{path_no, path_so, Counted, list_counted, map_counted, never_counted, Slot}
use Rattle.verse_verify_kept.specs.Rules.{slot_var, slot_obj, slot_never}
use Rattle.verse_verify_kept.specs.Rules.{Mode, mode_set, mode_int, mode_list, mode_never, MayFail, sorts}
use Rattle.verse_verify_kept.specs.Rules.{at_sort}
use Rattle.verse_verify_faults.specs.Fitting.{fit, is_key}
use Rattle.verse_verify_faults.specs.Spots.{Spot, Table, above, even, cut}
use Rattle.verse_verify_faults.specs.Stepping.{Stepped}
use Rattle.verse_verify_faults.specs.Stepping.{readable, part_of_list, counted, queried, firsts, seconds, all_keys}
use Rattle.verse_verify_faults.specs.Stepping.{all_shown, part_at, at_path}
use Rattle.verse_verify_faults.specs.Stepping.{may_add, may_count, may_write, slots_at, on_slot, step}
use Rattle.verse_verify_faults.proofs.Fitting.{fit_is, is_key_is}
use Rattle.verse_verify_faults.proofs.Leading.{notes}
use Rattle.verse_verify_laws.proofs.Steps.{Fine, led, There, there, popped, two_ints}
use Rattle.verse_verify_laws.proofs.Holding.{may_fail_is}
use Rattle.verse_verify_laws.proofs.Going.{pushed_one, bare_one}

either : (a b : Bool) → (a || b) ≡ true → {X : Type 0} → (a ≡ true → X) → (b ≡ true → X) → X
either true b e f g = f refl
either false b e f g = g e

pub pops_length : {n : ℕ} {st xs ys rest : List Sort} → Pops n st xs ys rest → length ys ≡ n + length xs
pops_length (r.pops_no {xs = xs}) = none (length xs)
  where
    none : (n : ℕ) → n ≡ 0 + n
    none n = omega arith
pops_length (r.pops_so {n = n} {xs = xs} {ys = ys} q) = later n (length xs) (length ys) (pops_length q)
  where
    later : (n k l : ℕ) → l ≡ n + suc k → l ≡ suc n + k
    later n k l e = omega (arith, e)

-- a local that may be read
pub record Readable (m : Option Sort) (a : Sort) : Type 0 where
  pub is : m ≡ Some a
  pub read : IsKnown a

pub readable_is : (m : Option Sort) (a : Sort) → readable m ≡ Some a → Readable m a
readable_is None a e = elim (none-some _ e) [ ]
readable_is (Some s.none) a e = elim (none-some _ e) [ ]
readable_is (Some b) a e = subst (λ a. Readable (Some b) a) (same e) (record { is = refl; read = tt })
  where
    same : {b a : Sort} → Some b ≡ Some a → b ≡ a
    same e = cc

module _ (c : Code) (t : Table) where
  pub all_are_shown : (xs : List Sort) → all_shown t.classes xs ≡ true → Shown c (notes c t) xs
  all_are_shown [] e = shown_no
  all_are_shown (a ∷ xs) e =
      let more = all_are_shown xs (and_parts _ _ e).1 in
      either (fit t.classes a s.int || fit t.classes a s.char) (fit t.classes a (s.list s.char)) (and_parts _ _ e).0 (λ h.
      either (fit t.classes
      a s.int) (fit t.classes a s.char) h (λ h. shown_int (fit_is t.classes a s.int h) more) (λ h. shown_char (fit_is
      t.classes a s.char h)
      more)) (λ h. shown_text (fit_is t.classes a (s.list s.char) h) more)

  pub are_keyed : (m : ℕ) (k u : Sort) (xs : List Sort) → length xs ≡ m + m → all_keys (firsts xs) ≡ true → AllIn c
      (notes c t) k (firsts xs) →
      AllIn c (notes c t) u (seconds xs) → Keyed c (notes c t) k u xs
  are_keyed m k u [] e h ks us = keyed_no
  are_keyed m k u (a ∷ []) e h ks us = elim (odd m e) [ ]
    where
      odd : (m : ℕ) → 1 ≡ m + m → ⊥
      odd m e = omega (arith, e)
  are_keyed zero k u (a ∷ b ∷ xs) e h ks us = elim (none e) [ ]
    where
      none : {n : ℕ} → suc n ≡ 0 → ⊥
      none e = omega (arith, e)
  are_keyed (suc m) k u (a ∷ b ∷ xs) e h (in_so f ks) (in_so g us) =
      keyed_so (is_key_is a (and_parts _ _ h).0) f g (are_keyed m k u xs (two_less m (length xs) e) (and_parts _ _ h).1 ks us)
    where
      two_less : (m n : ℕ) → suc (suc n) ≡ suc m + suc m → n ≡ m + m
      two_less m n e = omega (arith, e)

  -- what has parts
  pub list_part : (a d : Sort) → part_of_list a ≡ Some d → (u : Sort) → Fit c (notes c t) d u → Fit c (notes c t) a
      (s.list u)
  list_part (s.list a) d e u f = fits_list (subst (λ d. Fit c (notes c t) d u) (same e) f)
    where
      same : {a d : Sort} → Some a ≡ Some d → d ≡ a
      same e = cc
  list_part s.never d e u f = from_never
  list_part a d e u f = elim (none-some _ e) [ ]

  pub counted_is : (a : Sort) → counted a ≡ true → Counted c (notes c t) a
  counted_is (s.list a) e = list_counted
  counted_is (s.map k a) e = map_counted
  counted_is s.never e = never_counted
  counted_is a e = no_both (sym e)

  pub queried_is : (a b : Sort) → queried a ≡ Some b → Queried c (notes c t) a b
  queried_is (s.opt a) b e = subst (Queried c (notes c t) (s.opt a)) (same_Some _ _ e) of_option
  queried_is s.logic b e = subst (Queried c (notes c t) s.logic) (same_Some _ _ e) of_logic
  queried_is s.nil b e = subst (Queried c (notes c t) s.nil) (same_Some _ _ e) of_nil
  queried_is s.never b e = subst (Queried c (notes c t) s.never) (same_Some _ _ e) of_never
  queried_is a b e = elim (none-some _ e) [ ]

  pub part_is : (a b d : Sort) → part_at t.classes a b ≡ Some d → Indexed c (notes c t) a b d
  part_is (s.list a) b d e =
      cond_both (fit t.classes b s.int) (Some a) None (λ m. m ≡ Some d → Indexed c (notes c t) (s.list a) b d) (λ h e.
      subst (Indexed c (notes
      c t) (s.list a) b) (same_Some _ _ e) (in_list (fit_is t.classes b s.int h))) (λ h e. elim (none-some _ e) [ ]) e
  part_is (s.map k a) b d e =
      cond_both (is_key b && fit t.classes b k) (Some a) None (λ m. m ≡ Some d → Indexed c (notes c t) (s.map k a) b d)
      (λ h e. subst (Indexed
      c (notes c t) (s.map k a) b) (same_Some _ _ e) (in_map (is_key_is b (and_parts _ _ h).0) (fit_is t.classes b k (and_parts _ _
      h).1))) (λ h e. elim
      (none-some _ e) [ ]) e
  part_is s.never b d e = subst (Indexed c (notes c t) s.never b) (same_Some _ _ e) in_never
  part_is a b d e = elim (none-some _ e) [ ]

  pub path_is : (a : Sort) (xs : List Sort) (d : Sort) → at_path t.classes (Some a) xs ≡ Some d → Path c (notes c t) a
      xs d
  path_is a [] d e = subst (Path c (notes c t) a []) (same_Some _ _ e) path_no
  path_is a (b ∷ xs) d e = by_part (part_at t.classes a b) refl e (λ f h. path_is f xs d h)
    where
      by_part : (m : Option Sort) → part_at t.classes a b ≡ m → at_path t.classes m xs ≡ Some d →
          ((f : Sort) → at_path t.classes (Some f) xs ≡ Some d → Path c (notes c t) f xs d) → Path c (notes c t) a (b ∷
          xs) d
      by_part None h e go = elim (none-some _ e) [ ]
      by_part (Some f) h e go = path_so (part_is a b f h) (go f e)

  pub slot_is : (a : Sort) (k : ℕ) (op : Op) (p : Spot) (i : ℕ) (go : Sort → Stepped) → Fine c t p i op (on_slot
      t.classes a k go) →
      (b : Sort) × Slot c (notes c t) a k b × Fine c t p i op (go b)
  slot_is (s.var a) zero op p i go f = (a, slot_var, record { none = f.none })
  slot_is (s.var a) (suc k) op p i go f = elim (none-some _ (sym f.none)) [ ]
  slot_is (s.obj d) k op p i go f = by_there (there c t p i op _ f)
    where
      by_note : (m : Option ClassNote) (b : Sort) → slice_get t.classes d ≡ m → slots_at t.classes m k ≡ Some b →
          Slot c (notes c t) (s.obj d) k b
      by_note None b e h = elim (none-some _ h) [ ]
      by_note (Some x) b e h = slot_obj e h

      by_there : There c t p i op (slots_at t.classes (slice_get t.classes d) k) go →
          (b : Sort) × Slot c (notes c t) (s.obj d) k b × Fine c t p i op (go b)
      by_there x = (x.it, by_note (slice_get t.classes d) x.it refl x.is, x.next)
  slot_is s.never k op p i go f = (s.never, slot_never, record { none = f.none })
  slot_is a k op p i go f = elim (none-some _ (sym f.none)) [ ]

  pub mode_is : (m : ℕ) (place v : Sort) → may_write t.classes m place v ≡ true → Mode c (notes c t) m v place
  mode_is zero place v e = mode_set (fit_is t.classes v place e)
  mode_is (suc zero) place v e = adds place e
    where
      adds : (a : Sort) → may_add t.classes a v ≡ true → Mode c (notes c t) 1 v a
      adds (s.list a) e = mode_list (fit_is t.classes v (s.list a) e)
      adds s.int e = mode_int (fit_is t.classes v s.int e)
      adds s.never e = mode_never
      adds a e = no_both (sym e)
  mode_is (suc (suc m)) place v e = counts_as place e
    where
      counts_as : (a : Sort) → may_count t.classes a v ≡ true → Mode c (notes c t) (suc (suc m)) v a
      counts_as s.int e = mode_int (fit_is t.classes v s.int e)
      counts_as s.never e = mode_never
      counts_as a e = no_both (sym e)

  module _ (p : Spot) (i : ℕ) (ev : even (length p.stack) p.tries ≡ true) where
    abbrev Done : Op → Type 0
    Done op = Fine c t p i op (step c t p i op (above p.stack p.tries))

    abbrev Passed : Op → Type 0
    Passed op = Passes c (notes c t) i (cut p) op

    pub int_passes : {k : ℤ} → Done (o.Int k) → Passed (o.Int k)
    int_passes f = r.of_int (pushed_one c t p i ev (led c t p i _ f).suit)

    pub unit_passes : Done o.Unit → Passed o.Unit
    unit_passes f = r.of_unit (pushed_one c t p i ev (led c t p i _ f).suit)

    pub false_passes : Done o.False → Passed o.False
    false_passes f = r.of_false (pushed_one c t p i ev (led c t p i _ f).suit)

    pub true_passes : Done o.True → Passed o.True
    true_passes f = r.of_true (pushed_one c t p i ev (led c t p i _ f).suit)

    pub char_passes : {k : ℕ} → Done (o.Char k) → Passed (o.Char k)
    char_passes f = r.of_char (pushed_one c t p i ev (led c t p i _ f).suit)

    pub text_passes : {k : ℕ} → Done (o.Text k) → Passed (o.Text k)
    text_passes f = r.of_text (pushed_one c t p i ev (led c t p i _ f).suit)

    pub enum_passes : {e k : ℕ} → Done (o.Enum e k) → Passed (o.Enum e k)
    enum_passes f = r.of_enum (pushed_one c t p i ev (led c t p i _ f).suit)

    pub get_passes : {l : ℕ} → Done (o.Get l) → Passed (o.Get l)
    get_passes {l = l} f =
        let x = there c t p i _ _ f in
        let q = readable_is (at p.locals l) x.it x.is in
        r.of_get q.is q.read (pushed_one c t p i ev (led c t p i _ x.next).suit)

    pub drop_passes : Done o.Drop → Passed o.Drop
    drop_passes f =
        let x = popped c t p i _ f in
        r.of_drop x.is (bare_one c t p i ev (led c t p i _ x.next).suit)

    pub add_passes : {k : ℕ} → Done (o.Add k) → Passed (o.Add k)
    add_passes f =
        let x = two_ints c t p i _ f in
        let l = led c t p i _ x.next in
        r.of_add x.is x.one x.two (pushed_one c t p i ev l.suit)

    pub sub_passes : {k : ℕ} → Done (o.Sub k) → Passed (o.Sub k)
    sub_passes f =
        let x = two_ints c t p i _ f in
        let l = led c t p i _ x.next in
        r.of_sub x.is x.one x.two (pushed_one c t p i ev l.suit)

    pub mul_passes : {k : ℕ} → Done (o.Mul k) → Passed (o.Mul k)
    mul_passes f =
        let x = two_ints c t p i _ f in
        let l = led c t p i _ x.next in
        r.of_mul x.is x.one x.two (pushed_one c t p i ev l.suit)

    pub floor_passes : {k : ℕ} → Done (o.Floor k) → Passed (o.Floor k)
    floor_passes f =
        let x = two_ints c t p i _ f in
        let l = led c t p i _ x.next in
        r.of_floor x.is x.one x.two (may_fail_is c t p l.fails) (pushed_one c t p i ev l.suit)

    pub ceil_passes : {k : ℕ} → Done (o.Ceil k) → Passed (o.Ceil k)
    ceil_passes f =
        let x = two_ints c t p i _ f in
        let l = led c t p i _ x.next in
        r.of_ceil x.is x.one x.two (may_fail_is c t p l.fails) (pushed_one c t p i ev l.suit)

    pub mod_passes : Done o.Mod → Passed o.Mod
    mod_passes f =
        let x = two_ints c t p i _ f in
        let l = led c t p i _ x.next in
        r.of_mod x.is x.one x.two (may_fail_is c t p l.fails) (pushed_one c t p i ev l.suit)

    pub lt_passes : Done o.Lt → Passed o.Lt
    lt_passes f =
        let x = two_ints c t p i _ f in
        let l = led c t p i _ x.next in
        r.of_lt x.is x.one x.two (may_fail_is c t p l.fails) (pushed_one c t p i ev l.suit)

    pub le_passes : Done o.Le → Passed o.Le
    le_passes f =
        let x = two_ints c t p i _ f in
        let l = led c t p i _ x.next in
        r.of_le x.is x.one x.two (may_fail_is c t p l.fails) (pushed_one c t p i ev l.suit)

    pub gt_passes : Done o.Gt → Passed o.Gt
    gt_passes f =
        let x = two_ints c t p i _ f in
        let l = led c t p i _ x.next in
        r.of_gt x.is x.one x.two (may_fail_is c t p l.fails) (pushed_one c t p i ev l.suit)

    pub ge_passes : Done o.Ge → Passed o.Ge
    ge_passes f =
        let x = two_ints c t p i _ f in
        let l = led c t p i _ x.next in
        r.of_ge x.is x.one x.two (may_fail_is c t p l.fails) (pushed_one c t p i ev l.suit)
