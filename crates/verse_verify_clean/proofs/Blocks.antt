-- Deferred blocks.
use Rattle.std.proofs.Common.{◌≡◌, ℕ, suc, ◌+◌, ◌≤◌, length, map, List, [], ◌∷◌, Option, Some, None, true, cond}
use Rattle.std.proofs.Common.{refl, sym, subst, ap, arith, ◌∙◌}
use Rattle.std.specs.Prelude.{not}
use Rattle.std.proofs.lemmas.Bool.{and_from}
use Rattle.verse_code.specs.declared.operations.Op.{Op}
use Rattle.verse_code.specs.declared.operations.Op.TheVariants as o
use Rattle.verse_code.specs.declared.codes.Code.{Code}
use Rattle.verse_meaning_state.specs.Waits.{ltn}
use Rattle.verse_meaning_state.proofs.Numbers.{eqn_less, ltn_no}
use Rattle.verse_sorts.specs.Sorts.{Sort}
use Rattle.verse_verify_kept.specs.Notes.{Point, Notes, names, point_at}
use Rattle.verse_verify_kept.specs.Rules as r
use Rattle.verse_verify_faults.specs.Spots.{Mark, Spot, Table, spot_at, above, opens, cut}
use Rattle.verse_verify_faults.specs.Stepping as step
use Rattle.verse_verify_faults.specs.Stepping.{Made, is, Goes, inner, begins_block, to, spot_locals}
use Rattle.verse_verify_faults.specs.Faults.{is_none, is_nil, each_holds, tries_of, keeps, try_count}
use Rattle.verse_verify_faults.proofs.Leading.{notes, point_there, Fitting}
use Rattle.verse_verify_laws.proofs.Steps.{Fine}
use Rattle.verse_verify_laws.proofs.Holding.{Spotted, spotted, names_are}
use Rattle.verse_verify_clean.proofs.Fitting as fitting
use Rattle.verse_verify_clean.proofs.Leading.{SuitAll, suit_no, suit_so, Suit, test_of, wrote_is, each_is}
use Rattle.verse_verify_clean.proofs.Leading.{numbers_back, number_back, arm_back, marks_back}
use Rattle.verse_verify_clean.proofs.Steps.{Here, evenly, led}
use Rattle.verse_verify_clean.proofs.Holding.{entry_at, nil_back, some_back, no_opens, bare_spot}

module _ (c : Code) (t : Table) (p : Spot) (i : ℕ) (here : Here c t p i) where
  abbrev N : Notes
  N = notes c t

  abbrev P : Point
  P = cut p

  abbrev st : List Sort
  st = above p.stack p.tries

  abbrev Done : Op → Type 0
  Done op = Fine c t p i op (step.step c t p i op st)

  abbrev Passed : Op → Type 0
  Passed op = r.Passes c N i P op

  -- a block's first operation, which these locals fit
  record Entered (e count : ℕ) (ls : List Sort) (point : Point) : Type 0 where
    pub suit : Suit c t here.told p (step.block_at c t p i e count ls)
    pub locals : (us : List Sort) → spot_locals (spot_at t e) us ≡ point.locals

  entered : (e count : ℕ) (ls : List Sort) (point : Point) → r.Entry c N P e count point → names P ≡ point.outer →
      r.Each c N ls point.locals → Entered e count ls point
  entered e count ls point n o f =
      let y = entry_at c t here.told p e count point n in
      let q = y.0 in
      let x = y.1 in
      record {
        suit = test_of c t here.told p (step.block_at c t p i e count ls) q x.there x.func
            (and_from _ _ (and_from _ _ (and_from _ _ (and_from _ _ (arm_back p.arm q.arm x.arm)
            (number_back (Some e) q.block (sym x.block)))
            (numbers_back (tries_of c t p) q.outer (sym (names_are c t p) ∙ (o ∙ sym (ap (λ (r : Point). r.outer) y.2)))))
            (fitting.same_number (p.under + count) q.under (sym x.under))) (nil_back q.defers x.defers))
            (marks_back [] q.tries (sym x.tries)) (subst (λ st. each_holds t.classes [] st ≡ true) (sym x.stack) refl)
            (each_is c t here.told (subst (λ (r : Point). Fitting c t ls r.locals) (sym y.2) f));
        locals = λ us. ap (λ (m : Option Spot). spot_locals m us) x.there ∙ ap (λ (r : Point). r.locals) y.2;
      }

  pub defer_back : {l : ℕ} → Passed (o.Defer l) → Done (o.Defer l)
  defer_back (r.of_defer {point = point} n o f l) =
      led c t p i here _ (suit_so (entered (suc i) (length p.defers) p.locals point n o f).suit
      (suit_so (wrote_is c t here.told p i (evenly c t p i here) st l) suit_no)) refl refl refl refl refl refl

  leaves_at : (m : ℕ) (ls : List Sort) (ds : List ℕ) → r.Runs c N P i m ls ds →
      SuitAll c t here.told p (step.leaves c t p i m ls ds)
  leaves_at m ls [] (r.runs_no e l) = suit_so (wrote_is c t here.told p i (evenly c t p i here) st l) suit_no
  leaves_at m ls (e ∷ ds) (r.runs_no h l) =
      subst (λ b. SuitAll c t here.told p (cond b (step.behind c t p i ls (e ∷ ds) ∷ [])
      (step.block_at c t p i e (length ds) ls ∷ step.leaves c t p i m (spot_locals (spot_at t e) ls) ds)))
      (sym (fitting.same_number m (p.under + suc (length ds)) h))
      (suit_so (wrote_is c t here.told p i (evenly c t p i here) st l) suit_no)
  leaves_at m ls (e ∷ ds) (r.runs_so {point = point} less n o f more) =
      let x = entered e (length ds) ls point n o f in
      subst (λ b. SuitAll c t here.told p (cond b (step.behind c t p i ls (e ∷ ds) ∷ [])
      (step.block_at c t p i e (length ds) ls ∷ step.leaves c t p i m (spot_locals (spot_at t e) ls) ds)))
      (sym (eqn_less m (p.under + suc (length ds)) less))
      (suit_so x.suit (subst (λ us. SuitAll c t here.told p (step.leaves c t p i m us ds)) (sym (x.locals ls))
      (leaves_at m point.locals ds more)))

  runs_within : (m : ℕ) (ls : List Sort) (ds : List ℕ) → r.Runs c N P i m ls ds → (p.under ≤ m) × (m ≤ p.under + length ds)
  runs_within m ls ds (r.runs_no e l) = same (p.under) m (length ds) e
    where
      same : (u m n : ℕ) → m ≡ u + n → (u ≤ m) × (m ≤ u + n)
      same u m n e = (omega (arith, e), omega (arith, e))
  runs_within m ls (e ∷ ds) (r.runs_so less n o f more) = more_than p.under m (length ds) (runs_within m _ ds more)
    where
      more_than : (u m n : ℕ) → (u ≤ m) × (m ≤ u + n) → (u ≤ m) × (m ≤ u + suc n)
      more_than u m n x = (x.0, later u m n x.1)
        where
          later : (u m n : ℕ) → m ≤ u + n → m ≤ u + suc n
          later u m n l = omega (arith, l)

  at_least : (a b : ℕ) → b ≤ a → not (ltn a b) ≡ true
  at_least a b l = subst (λ x. not x ≡ true) (sym (ltn_no a b l)) refl

  keeps_back : (m : ℕ) → r.Keeps c N P m → keeps c t p.tries ≤ m
  keeps_back m (r.keeps_all e) = subst (λ ms. keeps c t ms ≤ m) (sym (no_opens p.stack p.tries e)) (least m)
    where
      least : (m : ℕ) → 0 ≤ m
      least m = omega arith
  keeps_back m (r.keeps_some {t = x} {ts = xs} e h) = by_tries p.tries e
    where
      by_spot : (j : ℕ) (n : Option Spot) → spot_at t j ≡ n →
          ((q : Point) → point_at N j ≡ Some q → q.under + length q.defers ≤ m) → try_count c t n ≤ m
      by_spot j None f h = least m
        where
          least : (m : ℕ) → 0 ≤ m
          least m = omega arith
      by_spot j (Some q) f h = h (cut q) (point_there c t j q f (here.told.even j q f))

      by_tries : (ms : List Mark) → opens p.stack ms ≡ x ∷ xs → keeps c t ms ≤ m
      by_tries [] e = cc
      by_tries (a ∷ ms) e =
          by_spot a.index (spot_at t a.index) refl (λ q live. h q (subst (λ j. point_at N j ≡ Some q) (index_is e) live))
        where
          index_is : opens p.stack (a ∷ ms) ≡ x ∷ xs → a.index ≡ x.index
          index_is e = cc

  pub leave_back : {m : ℕ} → Passed (o.Leave m) → Done (o.Leave m)
  leave_back {m = m} (r.of_leave k runs) =
      let w = runs_within m p.locals p.defers runs in
      led c t p i here _ (leaves_at m p.locals p.defers runs)
      (and_from _ _ (and_from _ _ (at_least m (keeps c t p.tries) (keeps_back m k)) (at_least m p.under w.0))
      (at_least (p.under + length p.defers) m w.1)) refl refl refl refl refl

  abbrev again : ℕ → Goes
  again e = record {
    index = e;
    part = begins_block p.outer p.under;
    locals = map is p.locals;
    stack = [];
    tries = Some [];
  }

  pub defer_end_back : Passed o.DeferEnd → Done o.DeferEnd
  defer_end_back (r.of_defer_end {e = e} {point = point} block tries stack defers live f) =
      let bare_now = bare_spot p stack tries in
      led c t p i here _
      (subst (λ m. SuitAll c t here.told p (step.block_again c t p i m)) (sym block)
      (suit_so (by_spot (spotted c t e point live)) suit_no))
      (and_from (is_nil p.tries) (is_nil p.stack) (nil_back p.tries bare_now.1) (nil_back p.stack bare_now.0)) refl refl refl refl
      (and_from (not (is_none p.block)) (is_nil p.defers) (some_back p.block e block) (nil_back p.defers defers))
    where
      by_spot : Spotted c t e point → Suit c t here.told p (again e)
      by_spot x =
          let q = x.spot in
          let w = here.told.blocks i p e q here.there block x.there in
          test_of c t here.told p (again e) q x.there w.func
          (and_from _ _ (and_from _ _ (and_from _ _ (and_from _ _ (arm_back p.arm q.arm w.arm)
          (number_back (Some e) q.block (sym w.block))) (numbers_back p.outer q.outer w.outer))
          (fitting.same_number p.under q.under w.under)) (nil_back q.defers w.defers))
          (marks_back [] q.tries (sym w.tries)) (subst (λ st. each_holds t.classes [] st ≡ true) (sym w.stack) refl)
          (each_is c t here.told (subst (λ (r : Point). Fitting c t p.locals r.locals) (sym x.is) f))
