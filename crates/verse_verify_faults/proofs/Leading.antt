-- Where the next state passes the tests, the operation leads there.
use Rattle.std.proofs.Common.{◌≡◌, ℕ, zero, suc, ◌+◌, ◌≤◌, length, map, List, [], ◌∷◌, ◌++◌, Option, Some, None, true, cond, refl, sym}
use Rattle.std.proofs.Common.{subst, ap, ap₂, arith, ◌∙◌}
use Rattle.std.specs.Prelude.{◌&&◌, slice_get}
use Rattle.std.proofs.lemmas.Option.{none-some}
use Rattle.std.proofs.lemmas.List.{length-append}
use Rattle.std.proofs.lemmas.Bool.{and_parts}
use Rattle.verse_code.specs.declared.codes.Code.{Code}
use Rattle.verse_meaning_state.specs.Waits.{eqn}
use Rattle.verse_meaning_state.proofs.Numbers.{eqn_is}
use Rattle.verse_code_machine_parents.proofs.Lists.{no_both}
use Rattle.verse_sorts.specs.Sorts as s
use Rattle.verse_sorts.specs.Sorts.{Sort, Sorts, to_none, to_any, fits_list, fits_map, fits_var, fits_event}
use Rattle.verse_sorts.specs.Typing.{AllFit, fit_no, fit_so}
use Rattle.verse_sorts.proofs.Fitting.{fits_itself}
use Rattle.verse_verify_kept.specs.Notes.{Notes, parent_of, point_at, live}
use Rattle.verse_verify_kept.specs.Rules.{Fit, AllIn, in_no, in_so, Leads, To, TriesFit}
use Rattle.verse_verify_faults.specs.Fitting.{fit, same, all_fit, on_list, on_map, on_var, on_event}
use Rattle.verse_verify_faults.specs.Spots.{Mark, Spot, Table, live_spot, spot_at, above, beneath, opens, even, cut, point_of, notes_of}
use Rattle.verse_verify_faults.specs.Stepping.{Made, is, list_of, map_of, var_of, event_of, one_of, inner, Goes, to}
use Rattle.verse_verify_faults.specs.Faults.{same_number, same_numbers, same_arm, same_marks, known_marks, on_spot, holds, each_holds}
use Rattle.verse_verify_faults.specs.Faults.{of_part, suits}
use Rattle.verse_verify_faults.proofs.Fitting.{same_is, fit_is}
use Rattle.verse_verify_faults.proofs.Cutting.{fit_length, above_fit, opens_fit, under, beneath_length, above_on, opens_on, even_more}

pub number_is : (a b : Option ℕ) → same_number a b ≡ true → a ≡ b
number_is None None e = refl
number_is (Some a) (Some b) e = ap Some (eqn_is a b e)
number_is None (Some b) e = no_both (sym e)
number_is (Some a) None e = no_both (sym e)

pub numbers_are : (xs ys : List ℕ) → same_numbers xs ys ≡ true → xs ≡ ys
numbers_are [] [] e = refl
numbers_are (x ∷ xs) (y ∷ ys) e =
    ap₂ (λ z zs. z ∷ zs) (eqn_is x y (and_parts (eqn x y) (same_numbers xs ys) e).0)
    (numbers_are xs ys (and_parts (eqn x y) (same_numbers xs ys) e).1)
numbers_are [] (y ∷ ys) e = no_both (sym e)
numbers_are (x ∷ xs) [] e = no_both (sym e)

pub arm_is : (a b : Option Sort) → same_arm a b ≡ true → a ≡ b
arm_is None None e = refl
arm_is (Some a) (Some b) e = ap Some (same_is a b e)
arm_is None (Some b) e = no_both (sym e)
arm_is (Some a) None e = no_both (sym e)

pub marks_are : (xs ys : List Mark) → same_marks xs ys ≡ true → xs ≡ ys
marks_are [] [] e = refl
marks_are (x ∷ xs) (y ∷ ys) e =
    more x y xs ys (eqn_is x.index y.index (and_parts _ _ (and_parts _ _ e).0).0)
    (eqn_is x.height y.height (and_parts _ _ (and_parts _ _ e).0).1) (marks_are xs
    ys (and_parts _ _ e).1)
  where
    more : (x y : Mark) (xs ys : List Mark) → x.index ≡ y.index → x.height ≡ y.height → xs ≡ ys → x ∷ xs ≡ y ∷ ys
    more x y xs ys e f g =
        ap₂ (λ (m : Mark) (ms : List Mark). m ∷ ms) (ap₂ (λ i h. record { index = i; height = h }) e f) g
marks_are [] (y ∷ ys) e = no_both (sym e)
marks_are (x ∷ xs) [] e = no_both (sym e)

module _ (c : Code) (t : Table) where
  abbrev pub notes : Notes
  notes = notes_of t

  abbrev pub Fitting : List Sort → List Sort → Type 0
  Fitting = AllFit (parent_of notes)

  pub all_in : (xs : List Sort) (b : Sort) → all_fit t.classes xs b ≡ true → AllIn c notes b xs
  all_in [] b e = in_no
  all_in (a ∷ xs) b e =
      in_so (fit_is t.classes a b (and_parts (fit t.classes a b) (all_fit t.classes xs b) e).0)
      (all_in xs b (and_parts (fit t.classes a b) (all_fit
      t.classes xs b) e).1)

  pub in_none : (xs : List Sort) → AllIn c notes s.none xs
  in_none [] = in_no
  in_none (a ∷ xs) = in_so to_none (in_none xs)

  -- a sort that holds what an operation made
  pub data Becomes : Made → Sort → Type 0 where
    itself : {a : Sort} → Becomes (is a) a
    a_list : {xs : List Sort} {u : Sort} → AllIn c notes u xs → Becomes (list_of xs) (s.list u)
    a_map : {ks xs : List Sort} {k u : Sort} → AllIn c notes k ks → AllIn c notes u xs → Becomes (map_of ks xs) (s.map k u)
    a_var : {a u : Sort} → Fit c notes a u → Becomes (var_of a) (s.var u)
    an_event : {u : Sort} → Becomes event_of (s.event u)
    one_sort : {xs : List Sort} {u : Sort} → AllIn c notes u xs → Becomes (one_of xs) u

  pub data Become : List Made → List Sort → Type 0 where
    become_no : Become [] []
    become_so : {m : Made} {ms : List Made} {a : Sort} {xs : List Sort} → Becomes m a → Become ms xs → Become (m ∷ ms) (a ∷ xs)

  pub record Holds (m : Made) (b : Sort) : Type 0 where
    pub sort : Sort
    pub becomes : Becomes m sort
    pub fits : Fit c notes sort b

  list_holds : (xs : List Sort) (b : Sort) → on_list b (λ d. all_fit t.classes xs d) ≡ true → Holds (list_of xs) b
  list_holds xs s.none e = record { sort = s.list s.none; becomes = a_list (in_none xs); fits = to_none }
  list_holds xs s.any e = record { sort = s.list s.none; becomes = a_list (in_none xs); fits = to_any tt }
  list_holds xs (s.list d) e = record { sort = s.list d; becomes = a_list (all_in xs d e); fits = fits_itself (parent_of notes) (s.list d) }
  list_holds xs b e = no_both (sym e)

  map_holds : (ks xs : List Sort) (b : Sort) → on_map b (λ k d. all_fit t.classes ks k && all_fit t.classes xs d) ≡ true →
      Holds (map_of ks xs) b
  map_holds ks xs s.none e = record { sort = s.map s.none s.none; becomes = a_map (in_none ks) (in_none xs); fits = to_none }
  map_holds ks xs s.any e = record { sort = s.map s.none s.none; becomes = a_map (in_none ks) (in_none xs); fits = to_any tt }
  map_holds ks xs (s.map k d) e = record {
    sort = s.map k d;
    becomes =
        a_map (all_in ks k (and_parts (all_fit t.classes ks k) (all_fit t.classes xs d) e).0)
        (all_in xs d (and_parts (all_fit t.classes ks k)
        (all_fit t.classes xs d) e).1);
    fits = fits_itself (parent_of notes) (s.map k d);
  }
  map_holds ks xs b e = no_both (sym e)

  var_holds : (a b : Sort) → on_var b (λ d. fit t.classes a d) ≡ true → Holds (var_of a) b
  var_holds a s.none e = record { sort = s.var a; becomes = a_var (fits_itself (parent_of notes) a); fits = to_none }
  var_holds a s.any e = record { sort = s.var a; becomes = a_var (fits_itself (parent_of notes) a); fits = to_any tt }
  var_holds a (s.var d) e = record {
    sort = s.var d;
    becomes = a_var (fit_is t.classes a d e);
    fits = fits_itself (parent_of notes) (s.var d);
  }
  var_holds a b e = no_both (sym e)

  event_holds : (b : Sort) → on_event b (λ d. true) ≡ true → Holds event_of b
  event_holds s.none e = record { sort = s.event s.any; becomes = an_event; fits = to_none }
  event_holds s.any e = record { sort = s.event s.any; becomes = an_event; fits = to_any tt }
  event_holds (s.event d) e = record { sort = s.event d; becomes = an_event; fits = fits_itself (parent_of notes) (s.event d) }
  event_holds b e = no_both (sym e)

  pub made_holds : (m : Made) (b : Sort) → holds t.classes m b ≡ true → Holds m b
  made_holds (is a) b e = record { sort = a; becomes = itself; fits = fit_is t.classes a b e }
  made_holds (list_of xs) b e = list_holds xs b e
  made_holds (map_of ks xs) b e = map_holds ks xs b e
  made_holds (var_of a) b e = var_holds a b e
  made_holds event_of b e = event_holds b e
  made_holds (one_of xs) b e = record { sort = b; becomes = one_sort (all_in xs b e); fits = fits_itself (parent_of notes) b }

  pub record AllHold (ms : List Made) (ys : List Sort) : Type 0 where
    pub sorts : List Sort
    pub become : Become ms sorts
    pub fit : Fitting sorts ys

  pub each_made : (ms : List Made) (ys : List Sort) → each_holds t.classes ms ys ≡ true → AllHold ms ys
  each_made [] [] e = record { sorts = []; become = become_no; fit = fit_no }
  each_made (m ∷ ms) (b ∷ ys) e =
      more (made_holds m b (and_parts (holds t.classes m b) (each_holds t.classes ms ys) e).0)
      (each_made ms ys (and_parts (holds t.classes m b)
      (each_holds t.classes ms ys) e).1)
    where
      more : Holds m b → AllHold ms ys → AllHold (m ∷ ms) (b ∷ ys)
      more h r = record { sorts = h.sort ∷ r.sorts; become = become_so h.becomes r.become; fit = fit_so h.fits r.fit }
  each_made [] (b ∷ ys) e = no_both (sym e)
  each_made (m ∷ ms) [] e = no_both (sym e)

  pub become_is : (ls : List Sort) {xs : List Sort} → Become (map is ls) xs → xs ≡ ls
  become_is [] become_no = refl
  become_is (a ∷ ls) (become_so itself r) = ap (λ zs. a ∷ zs) (become_is ls r)

  pub become_length : {ms : List Made} {xs : List Sort} → Become ms xs → length xs ≡ length ms
  become_length become_no = refl
  become_length (become_so b r) = ap suc (become_length r)

  -- a point is there where its heights are heights of the stack
  pub point_there : (i : ℕ) (q : Spot) → spot_at t i ≡ Some q → even (length q.stack) q.tries ≡ true → point_at notes i ≡ Some (cut q)
  point_there i q e h = by_list t.spots i e
    where
      by_list : (xs : List (Option Spot)) (i : ℕ) → live_spot (slice_get xs i) ≡ Some q →
          live (slice_get (map point_of xs) i) ≡ Some (cut q)
      by_list [] i e = elim (none-some _ e) [ ]
      by_list (x ∷ xs) zero e =
          subst (λ m. point_of m ≡ Some (cut q)) (sym e) (subst (λ b. cond b (Some (cut q)) None ≡ Some (cut q)) (sym h) refl)
      by_list (x ∷ xs) (suc i) e = by_list xs i e

  module _ (p : Spot) where
    -- a next state of the same part, with these operands, locals, Trys and blocks
    pub leads_with : {j : ℕ} {ds : List ℕ} {ms : List Mark} {xs ls : List Sort} (q : Spot) → spot_at t j ≡ Some q →
        even (length q.stack) q.tries ≡ true → p.func ≡ q.func → of_part p j (inner ds) q ≡ true → ms ≡ q.tries → Fitting xs q.stack →
        Fitting ls q.locals → Leads c notes (cut p) ls (above xs ms) (opens xs ms) ds j
    leads_with {j = j} {ds = ds} {ms = ms} {xs = xs} {ls = ls} q there ev func part tries stack locals = record {
      point = cut q;
      live = point_there j q there ev;
      kin = record {
        func = func;
        arm = arm_is p.arm q.arm (and_parts _ _ (and_parts _ _ (and_parts _ _ (and_parts _ _ part).0).0).0).0;
        block = number_is p.block q.block (and_parts _ _ (and_parts _ _ (and_parts _ _ (and_parts _ _ part).0).0).0).1;
        outer = numbers_are p.outer q.outer (and_parts _ _ (and_parts _ _ (and_parts _ _ part).0).0).1;
        under = eqn_is p.under q.under (and_parts _ _ (and_parts _ _ part).0).1;
      };
      locals = locals;
      stack = subst (λ ms. Fitting (above xs ms) (above q.stack q.tries)) (sym tries) (above_fit (parent_of notes) q.tries stack);
      tries = subst (λ ms. TriesFit c notes (opens xs ms) (opens q.stack q.tries)) (sym tries) (opens_fit c notes q.tries xs q.stack stack);
      defers = numbers_are ds q.defers (and_parts _ _ part).1;
    }

    pub record Next (g : Goes) : Type 0 where
      pub spot : Spot
      pub there : spot_at t g.index ≡ Some spot
      pub func : p.func ≡ spot.func
      pub part : of_part p g.index g.part spot ≡ true
      pub tries : known_marks g.tries spot.tries ≡ true
      pub stack : AllHold g.stack spot.stack
      pub locals : AllHold g.locals spot.locals

    pub next_in : (g : Goes) → suits c t p g ≡ true → Next g
    next_in g e = by_spot (spot_at t g.index) refl e
      where
        by_spot : (m : Option Spot) → spot_at t g.index ≡ m → on_spot m (λ q. eqn p.func q.func && of_part p g.index g.part q && known_marks
            g.tries q.tries && each_holds t.classes g.stack q.stack && each_holds t.classes g.locals q.locals) ≡ true → Next g
        by_spot None h e = no_both (sym e)
        by_spot (Some q) h e = record {
          spot = q;
          there = h;
          func = eqn_is p.func q.func (and_parts _ _ (and_parts _ _ (and_parts _ _ (and_parts _ _ e).0).0).0).0;
          part = (and_parts _ _ (and_parts _ _ (and_parts _ _ (and_parts _ _ e).0).0).0).1;
          tries = (and_parts _ _ (and_parts _ _ (and_parts _ _ e).0).0).1;
          stack = each_made g.stack q.stack (and_parts _ _ (and_parts _ _ e).0).1;
          locals = each_made g.locals q.locals (and_parts _ _ e).1;
        }

    -- what an operation pushes on what it leaves
    pub record Pushed (m : Made) (st : List Sort) (j : ℕ) : Type 0 where
      pub sort : Sort
      pub becomes : Becomes m sort
      pub leads : To c notes (cut p) (sort ∷ st) j

    module _ (i : ℕ) (ev : even (length p.stack) p.tries ≡ true) where
      settle : {j : ℕ} {xs ls : List Sort} (new : List Sort) → xs ≡ new ++ beneath p.stack p.tries → ls ≡ p.locals →
          Leads c notes (cut p) ls (above xs p.tries) (opens xs p.tries) p.defers j → To c notes (cut p) new j
      settle {j = j} {xs = xs} {ls = ls} new e f l =
          subst (λ ls. Leads c notes (cut p) ls new (opens p.stack p.tries) p.defers j) f (subst (λ ts. Leads c notes (cut p) ls new ts
          p.defers j) (opens_on p.stack new p.tries ev) (subst (λ st. Leads c notes (cut p) ls st (opens (new ++ beneath p.stack p.tries)
          p.tries) p.defers j) (above_on p.stack p.tries ev new)
          (subst (λ xs. Leads c notes (cut p) ls (above xs p.tries) (opens xs p.tries) p.defers j) e l)))

      -- the next stack has all that lies beneath the innermost open Try
      even_there : (q : Spot) (xs new : List Sort) → Fitting xs q.stack → xs ≡ new ++ beneath p.stack p.tries → p.tries ≡ q.tries →
          even (length q.stack) q.tries ≡ true
      even_there q xs new fit e f =
          subst (λ ms. even (length q.stack) ms ≡ true) f
          (even_more (length p.stack) (length q.stack) p.tries
          (enough (under p.tries) (length (beneath p.stack p.tries)) (length new) (length q.stack) (sym (beneath_length p.stack p.tries ev))
          (sym (fit_length (parent_of notes) fit) ∙ (ap length e ∙ length-append new (beneath p.stack p.tries)))) ev)
        where
          enough : (u b k q : ℕ) → u ≡ b → q ≡ k + b → u ≤ q
          enough u b k q e f = omega (arith, e, f)

      goes_there : (j : ℕ) (made : List Made) (st new : List Sort) (nx : Next (to c t p i j made st)) →
          nx.stack.sorts ≡ new ++ beneath p.stack p.tries → To c notes (cut p) new j
      goes_there j made st new nx e =
          settle new e (become_is p.locals nx.locals.become)
          (leads_with nx.spot nx.there (even_there nx.spot nx.stack.sorts new nx.stack.fit e same) nx.func nx.part same nx.stack.fit
          nx.locals.fit)
        where
          same : p.tries ≡ nx.spot.tries
          same = marks_are p.tries nx.spot.tries nx.tries

      -- nothing is pushed
      pub goes_bare : (j : ℕ) (st : List Sort) → suits c t p (to c t p i j [] st) ≡ true → To c notes (cut p) st j
      goes_bare j st e = with_next (next_in (to c t p i j [] st) e)
        where
          with_next : Next (to c t p i j [] st) → To c notes (cut p) st j
          with_next nx = goes_there j [] st st nx (become_is (st ++ beneath p.stack p.tries) nx.stack.become)

      -- what an operation made is pushed
      pub goes_pushed : (j : ℕ) (m : Made) (st : List Sort) → suits c t p (to c t p i j (m ∷ []) st) ≡ true → Pushed m st j
      goes_pushed j m st e = with_next (next_in (to c t p i j (m ∷ []) st) e)
        where
          with_next : Next (to c t p i j (m ∷ []) st) → Pushed m st j
          with_next nx = by_top nx.stack.become refl
            where
              by_top : {xs : List Sort} → Become (m ∷ map is (st ++ beneath p.stack p.tries)) xs → nx.stack.sorts ≡ xs → Pushed m st j
              by_top (become_so {a = a} {xs = rest} b r) same = record {
                sort = a;
                becomes = b;
                leads = goes_there j (m ∷ []) st (a ∷ st) nx (same ∙ ap (λ zs. a ∷ zs) (become_is (st ++ beneath p.stack p.tries) r));
              }
