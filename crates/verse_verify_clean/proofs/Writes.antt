-- Operations that write locals.
use Rattle.std.proofs.Common.{◌≡◌, ℕ, zero, suc, ◌+◌, map, List, [], ◌∷◌, Option, Some, None, true, false}
use Rattle.std.proofs.Common.{refl, sym, subst, ap, ◌∙◌}
use Rattle.std.specs.Prelude.{◌&&◌}
use Rattle.std.proofs.lemmas.Bool.{and_from, or_left, or_right}
use Rattle.std.proofs.lemmas.Option.{none-some}
use Rattle.verse_code.specs.declared.operations.Op.{Op}
use Rattle.verse_code.specs.declared.operations.Op.TheVariants as o
use Rattle.verse_code.specs.declared.codes.Code.{Code}
use Rattle.verse_code_machine.specs.Frames.{put, behind}
use Rattle.verse_code_machine_parents.proofs.Lists.{no_both}
use Rattle.verse_sorts.specs.Sorts as s
use Rattle.verse_sorts.specs.Sorts.{Sort, IsKnown, from_never, fits_int, fits_list, fits_span, int_span, unit_span}
use Rattle.verse_sorts.specs.Typing.{at, fit_so}
use Rattle.verse_verify_kept.specs.Notes.{Point, Notes, names}
use Rattle.verse_verify_kept.specs.Rules as r
use Rattle.verse_verify_kept.specs.Rules.{Fit, in_no, in_so}
use Rattle.verse_verify_faults.specs.Fitting.{is_never, any_never}
use Rattle.verse_verify_faults.specs.Spots.{Spot, Table, above, cut}
use Rattle.verse_verify_faults.specs.Stepping as step
use Rattle.verse_verify_faults.specs.Stepping.{Made, is, list_of, readable}
use Rattle.verse_verify_faults.specs.Faults.{holds, each_holds, is_quiet, all_quiet, tries_of}
use Rattle.verse_verify_faults.proofs.Leading.{notes, Fitting}
use Rattle.verse_verify_laws.proofs.Steps.{Fine}
use Rattle.verse_verify_clean.specs.Laws.{Told}
use Rattle.verse_verify_clean.proofs.Leading.{SuitAll, suit_no, suit_so, fits, each_is, wrote, wrote_is, bare}
use Rattle.verse_verify_clean.proofs.Steps.{Here, evenly, led, needed, there, popped, two_ints}
use Rattle.verse_verify_clean.proofs.Holding.{quiet_in}
use Rattle.verse_verify_clean.proofs.Values.{readable_back, counted_back}
use Rattle.verse_verify_clean.proofs.Parts.{list_back, holds_list}

pub put_is : (xs : List Sort) (l : ℕ) (a : Sort) (ys : List Sort) → put xs l a ≡ Some ys →
    put (map is xs) l (is a) ≡ Some (map is ys)
put_is [] l a ys e = elim (none-some _ e) [ ]
put_is (b ∷ xs) zero a ys e = ap (λ zs. Some (map is zs)) (same e)
  where
    same : Some (a ∷ xs) ≡ Some ys → a ∷ xs ≡ ys
    same e = cc
put_is (b ∷ xs) (suc l) a ys e = by_rest (put xs l a) refl e (λ zs h. put_is xs l a zs h)
  where
    longer : (zs : List Sort) → Some (b ∷ zs) ≡ Some ys → put (map is xs) l (is a) ≡ Some (map is zs) →
        behind (is b) (put (map is xs) l (is a)) ≡ Some (map is ys)
    longer zs e h = ap (behind (is b)) h ∙ ap (λ zs. Some (map is zs)) (same e)
      where
        same : Some (b ∷ zs) ≡ Some ys → b ∷ zs ≡ ys
        same e = cc

    by_rest : (m : Option (List Sort)) → put xs l a ≡ m → behind b m ≡ Some ys →
        ((zs : List Sort) → put xs l a ≡ Some zs → put (map is xs) l (is a) ≡ Some (map is zs)) →
        behind (is b) (put (map is xs) l (is a)) ≡ Some (map is ys)
    by_rest None h e go = elim (none-some _ e) [ ]
    by_rest (Some zs) h e go = longer zs e (go zs h)

at_never : (xs : List Sort) (l : ℕ) → at xs l ≡ Some s.never → any_never xs ≡ true
at_never [] l e = elim (none-some _ e) [ ]
at_never (a ∷ xs) zero e = or_left (is_never a) (any_never xs) (subst (λ a. is_never a ≡ true) (sym (same e)) refl)
  where
    same : {a b : Sort} → Some a ≡ Some b → a ≡ b
    same e = cc
at_never (a ∷ xs) (suc l) e = or_right (is_never a) (any_never xs) (at_never xs l e)

module _ (c : Code) (t : Table) (told : Told c t) where
  -- a local that is written with what an operation made
  pub record Written (xs : List Sort) (l : ℕ) (m : Made) (ls : List Sort) : Type 0 where
    pub made : List Made
    pub is : put (map is xs) l m ≡ Some made
    pub holds : (ys : List Sort) → Fitting c t ls ys → each_holds t.classes made ys ≡ true

  pub written : (xs : List Sort) (l : ℕ) (m : Made) (u : Sort) (ls : List Sort) → put xs l u ≡ Some ls →
      ((b : Sort) → Fit c (notes c t) u b → holds t.classes m b ≡ true) → Written xs l m ls
  written [] l m u ls e h = elim (none-some _ e) [ ]
  written (b ∷ xs) zero m u ls e h = record {
    made = m ∷ map is xs;
    is = refl;
    holds = λ ys f. on_first ys (subst (λ ls. Fitting c t ls ys) (sym (same e)) f);
  }
    where
      same : Some (u ∷ xs) ≡ Some ls → u ∷ xs ≡ ls
      same e = cc

      on_first : (ys : List Sort) → Fitting c t (u ∷ xs) ys → each_holds t.classes (m ∷ map is xs) ys ≡ true
      on_first [] f = elim f [ ]
      on_first (y ∷ ys) (fit_so f r) =
          and_from (holds t.classes m y) (each_holds t.classes (map is xs) ys) (h y f) (each_is c t told r)
  written (b ∷ xs) (suc l) m u ls e h = by_rest (put xs l u) refl e (λ zs f. written xs l m u zs f h)
    where
      longer : (zs : List Sort) → Some (b ∷ zs) ≡ Some ls → Written xs l m zs → Written (b ∷ xs) (suc l) m ls
      longer zs e w = record {
        made = is b ∷ w.made;
        is = ap (behind (is b)) w.is;
        holds = λ ys f. on_rest ys (subst (λ ls. Fitting c t ls ys) (sym (same e)) f);
      }
        where
          same : Some (b ∷ zs) ≡ Some ls → b ∷ zs ≡ ls
          same e = cc

          on_rest : (ys : List Sort) → Fitting c t (b ∷ zs) ys → each_holds t.classes (is b ∷ w.made) ys ≡ true
          on_rest [] f = elim f [ ]
          on_rest (y ∷ ys) (fit_so f r) =
              and_from (holds t.classes (is b) y) (each_holds t.classes w.made ys) (fits c t told f) (w.holds ys r)

      by_rest : (n : Option (List Sort)) → put xs l u ≡ n → behind b n ≡ Some ls →
          ((zs : List Sort) → put xs l u ≡ Some zs → Written xs l m zs) → Written (b ∷ xs) (suc l) m ls
      by_rest None h e go = elim (none-some _ e) [ ]
      by_rest (Some zs) h e go = longer zs e (go zs h)

  -- what Take writes
  record Taken (a v k : Sort) (m : ℕ) (x : Sort) : Type 0 where
    pub is : step.taken t.classes a ≡ Some (record { value = v; beside = k; far = m; last = x })
    pub read : IsKnown a

  domain_back : {a v k x : Sort} {m : ℕ} → r.Domain c (notes c t) a v k m x → (a ≡ s.never → ⊥) → Taken a v k m x
  domain_back r.of_list full = record { is = refl; read = tt }
  domain_back r.of_map full = record { is = refl; read = tt }
  domain_back r.of_none full = record { is = refl; read = tt }
  domain_back (r.of_span from_never) full = elim (full refl) [ ]
  domain_back (r.of_span fits_span) full = record { is = refl; read = tt }
  domain_back (r.of_span int_span) full = record { is = refl; read = tt }
  domain_back (r.of_span unit_span) full = record { is = refl; read = tt }

  int_read : {b : Sort} → Fit c (notes c t) b s.int → IsKnown b
  int_read from_never = tt
  int_read fits_int = tt

  list_read : {b u : Sort} → Fit c (notes c t) b (s.list u) → IsKnown b
  list_read from_never = tt
  list_read (fits_list f) = tt

module _ (c : Code) (t : Table) (p : Spot) (i : ℕ) (here : Here c t p i) where
  abbrev N : Notes
  N = notes c t

  abbrev P : Point
  P = cut p

  abbrev st : List Sort
  st = above p.stack p.tries

  abbrev Done : Op → Type 0
  Done op = Fine c t p i op (step.step c t p i op st)

  abbrev Passed : Op → Type 0
  Passed op = r.Passes c N i P op

  quiet_one : {l : ℕ} → r.Quiet c N l (names P) → all_quiet c t (tries_of c t p) (l ∷ []) ≡ true
  quiet_one {l = l} q = and_from (is_quiet c t (tries_of c t p) l) true (quiet_in c t here.told l p q) refl

  quiet_two : {l k : ℕ} → r.Quiet c N l (names P) → r.Quiet c N k (names P) → all_quiet c t (tries_of c t p) (l ∷ k ∷ []) ≡ true
  quiet_two {l = l} {k = k} q w =
      and_from (is_quiet c t (tries_of c t p) l) (is_quiet c t (tries_of c t p) k && true) (quiet_in c t here.told l p q)
      (quiet_one w)

  writes : {ls : List Sort} (st : List Sort) → r.Leads c N P ls st P.tries p.defers (suc i) →
      SuitAll c t here.told p (record (step.to c t p i (suc i) [] st) { locals = map is ls } ∷ [])
  writes st l = suit_so (wrote_is c t here.told p i (evenly c t p i here) st l) suit_no

  pub put_back : {l : ℕ} → Passed (o.Put l) → Done (o.Put l)
  put_back {l = k} (r.of_put {a = a} {st = st} {ls = ls} e h q l) =
      popped c t p i here _ _ e (there c t p i here _ 6 _ (put_is p.locals k a ls h)
      (led c t p i here _ (writes st l) refl refl (quiet_one q) refl refl refl))

  pub each_back : {l : ℕ} → Passed (o.Each l) → Done (o.Each l)
  each_back {l = k} (r.of_each {a = a} {st = st} {ls = ls} {ms = ms} e d h g q w l) =
      popped c t p i here _ _ e (needed c t p i here _ 5 (counted_back c N a d)
      (there c t p i here _ 6 _ (put_is p.locals k a ls h) (there c t p i here _ 6 _ (put_is ls (suc k) s.int ms g)
      (led c t p i here _ (writes st l) refl refl (quiet_two q w) refl refl refl))))

  pub range_back : {l : ℕ} → Passed (o.Range l) → Done (o.Range l)
  range_back {l = k} (r.of_range {st = st} {ls = ls} {ms = ms} e f d h g q w l) =
      two_ints c t p i here _ _ e f d
      (there c t p i here _ 6 _ (put_is p.locals k s.span ls h) (there c t p i here _ 6 _ (put_is ls (suc k) s.int ms g)
      (led c t p i here _ (writes st l) refl refl (quiet_two q w) refl refl refl)))

  pub take_back : {l d label : ℕ} → any_never p.locals ≡ false → Passed (o.Take l d label) → Done (o.Take l d label)
  take_back {l = l} {d = d} full (r.of_take {m = m} {a = a} {b = b} {v = v} {k = k} {x = x} {xs = xs} {ys = ys} {zs = zs}
      ea eb fb dom h1 h2 h3 q1 q2 q3 q4 l1 l2) =
      let z = domain_back c t here.told dom (λ e. some (subst (λ a. at p.locals l ≡ Some a) e ea)) in
      let ra = readable_back (at p.locals l) a ea z.read in
      let rb = readable_back (at p.locals (suc l)) b eb (int_read c t here.told fb) in
      needed c t p i here _ 5
      (and_from (step.may_take t.classes (readable (at p.locals l))) (step.may_number t.classes (readable (at p.locals (suc l))))
      (subst (λ m. step.may_take t.classes m ≡ true) (sym ra) (subst (λ m. step.is_taken t.classes m ≡ true) (sym z.is) refl))
      (subst (λ m. step.may_number t.classes m ≡ true) (sym rb) (fits c t here.told fb)))
      (there c t p i here _ 6 _ ra (there c t p i here _ 6 _ rb (there c t p i here _ 5 _ z.is
      (there c t p i here _ 6 _ (put_is p.locals d v xs h1) (there c t p i here _ 6 _ (put_is xs (suc d) k ys h2)
      (there c t p i here _ 6 _ (put_is ys (l + m) x zs h3)
      (led c t p i here _ (suit_so (bare c t here.told p i (evenly c t p i here) st l1)
      (suit_so (wrote_is c t here.told p i (evenly c t p i here) st l2) suit_no)) refl refl
      (and_from _ _ (quiet_in c t here.told l p q1) (and_from _ _ (quiet_in c t here.told (suc l) p q2) (quiet_two q3 q4)))
      refl refl refl)))))))
    where
      some : at p.locals l ≡ Some s.never → ⊥
      some e = no_both (sym (at_never p.locals l e) ∙ full)

  pub append_back : {l k : ℕ} → Passed (o.Append l k) → Done (o.Append l k)
  append_back {l = k} (r.of_append {a = a} {b = b} {u = u} {st = st} {ls = ls} e h f g w q l) =
      let x = list_back c t f in
      let z = written c t here.told p.locals k (list_of (x.sort ∷ a ∷ [])) (s.list u) ls w
      (λ b h. holds_list c t here.told (x.sort ∷ a ∷ []) u b (in_so x.fits (in_so g in_no)) h) in
      popped c t p i here _ _ e (there c t p i here _ 6 _ (readable_back (at p.locals k) b h (list_read c t here.told f))
      (there c t p i here _ 5 _ x.is (there c t p i here _ 6 _ z.is
      (led c t p i here _ (suit_so (wrote c t here.told p i (evenly c t p i here) z.made st l z.holds) suit_no)
      refl refl (quiet_one q) refl refl refl))))
