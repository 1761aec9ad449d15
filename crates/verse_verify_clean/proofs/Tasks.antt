-- Tasks: waits, groups, branches and what ends an arm.
use Rattle.std.proofs.Common.{◌≡◌, ℕ, suc, ◌+◌, ◌≤◌, ◌<◌, length, List, [], ◌∷◌, Option, Some, None, true, cond}
use Rattle.std.proofs.Common.{refl, sym, subst, ap, arith, ◌∙◌}
use Rattle.std.specs.Prelude.{◌&&◌, not, nat_lt, slice_get}
use Rattle.std.proofs.lemmas.Bool.{and_from, lt-ltb}
use Rattle.verse_code.specs.declared.operations.Op.{Op}
use Rattle.verse_code.specs.declared.operations.Op.TheVariants as o
use Rattle.verse_code.specs.declared.codes.Code.{Code}
use Rattle.verse_code_machine.specs.Acts.{label_of}
use Rattle.verse_sorts.specs.Sorts.{Sort}
use Rattle.verse_verify_kept.specs.Notes.{Point, Notes}
use Rattle.verse_verify_kept.specs.Rules as r
use Rattle.verse_verify_kept.specs.Rules.{Fit}
use Rattle.verse_verify_faults.specs.Fitting.{fit}
use Rattle.verse_verify_faults.specs.Spots.{Spot, Table, spot_at, above, cut}
use Rattle.verse_verify_faults.specs.Stepping as step
use Rattle.verse_verify_faults.specs.Stepping.{Goes, is, one_of}
use Rattle.verse_verify_faults.specs.Faults.{is_none, is_nil, each_holds, are_arms}
use Rattle.verse_verify_faults.proofs.Leading.{notes, Fitting}
use Rattle.verse_verify_laws.proofs.Steps.{Fine}
use Rattle.verse_verify_laws.proofs.Holding.{Spotted, spotted}
use Rattle.verse_verify_clean.proofs.Fitting as fitting
use Rattle.verse_verify_clean.proofs.Leading.{SuitAll, suit_no, suit_so, Suit, test_of, pushed, fits, all_fits, each_is, marks_back}
use Rattle.verse_verify_clean.proofs.Steps.{Here, evenly, led, needed, popped}
use Rattle.verse_verify_clean.proofs.Holding.{waits_back, arm_waits, none_back, nil_back, some_back, no_opens, bare_spot}
use Rattle.verse_verify_clean.proofs.Values.{on_one}
use Rattle.verse_verify_clean.proofs.Parts.{all_on}

module _ (c : Code) (t : Table) (p : Spot) (i : ℕ) (here : Here c t p i) where
  abbrev N : Notes
  N = notes c t

  abbrev P : Point
  P = cut p

  abbrev st : List Sort
  st = above p.stack p.tries

  abbrev Done : Op → Type 0
  Done op = Fine c t p i op (step.step c t p i op st)

  abbrev Passed : Op → Type 0
  Passed op = r.Passes c N i P op

  pub sleep_back : {k : ℕ} → Passed (o.Sleep k) → Done (o.Sleep k)
  sleep_back (r.of_sleep w l) =
      led c t p i here _ (on_one c t p i here st l) refl refl refl (waits_back c t p w) refl refl

  pub forever_back : Passed o.Forever → Done o.Forever
  forever_back (r.of_forever w l) =
      led c t p i here _ (on_one c t p i here st l) refl refl refl (waits_back c t p w) refl refl

  pub await_task_back : Passed o.AwaitTask → Done o.AwaitTask
  await_task_back (r.of_await_task w e l) =
      popped c t p i here _ _ e (led c t p i here _ (on_one c t p i here _ l) refl refl refl (waits_back c t p w) refl refl)
  await_task_back (r.of_no_task w e l) =
      popped c t p i here _ _ e (led c t p i here _ (on_one c t p i here _ l) refl refl refl (waits_back c t p w) refl refl)

  pub await_event_back : Passed o.AwaitEvent → Done o.AwaitEvent
  await_event_back (r.of_await_event w e l) =
      popped c t p i here _ _ e (led c t p i here _ (on_one c t p i here _ l) refl refl refl (waits_back c t p w) refl refl)
  await_event_back (r.of_no_event w e l) =
      popped c t p i here _ _ e (led c t p i here _ (on_one c t p i here _ l) refl refl refl (waits_back c t p w) refl refl)

  pub signal_back : Passed o.Signal → Done o.Signal
  signal_back (r.of_signal w e f l) =
      popped c t p i here _ _ e (needed c t p i here _ 5 (fits c t here.told f)
      (led c t p i here _ (on_one c t p i here _ l) refl refl refl (waits_back c t p w) refl refl))
  signal_back (r.of_no_signal w e l) =
      popped c t p i here _ _ e (needed c t p i here _ 5 refl
      (led c t p i here _ (on_one c t p i here _ l) refl refl refl (waits_back c t p w) refl refl))

  pub arm_end_back : Passed o.ArmEnd → Done o.ArmEnd
  arm_end_back (r.of_arm_end {a = a} {r = b} e tries arm block defers f) =
      let w = here.told.arms i p b here.there arm in
      popped c t p i here _ _ e (needed c t p i here _ 5
      (and_from (fit t.classes a (step.arm_sort p.arm)) true
      (subst (λ m. fit t.classes a (step.arm_sort m) ≡ true) (sym arm) (fits c t here.told f)) refl)
      (led c t p i here _ suit_no (nil_back p.tries (no_opens p.stack p.tries tries)) refl refl
      (arm_waits c t p w.func tries block w.noted w.waits) refl
      (and_from (not (is_none p.arm) && is_none p.block) (is_nil p.defers)
      (and_from (not (is_none p.arm)) (is_none p.block) (some_back p.arm b arm) (none_back p.block block))
      (nil_back p.defers defers))))

  -- an arm begins
  record ArmAt (l : ℕ) (b : Sort) : Type 0 where
    pub suit : Suit c t here.told p (step.arm_at c t p i l)
    pub noted : step.arm_of (spot_at t l) ≡ Some b

  arm_at : (l : ℕ) (b : Sort) → r.Arm c N P l b → ArmAt l b
  arm_at l b a = by_spot (spotted c t l a.point a.live)
    where
      by_spot : Spotted c t l a.point → ArmAt l b
      by_spot x =
          let q = x.spot in
          let e = bare_spot q (ap (λ (r : Point). r.stack) x.is ∙ a.stack) (ap (λ (r : Point). r.tries) x.is ∙ a.tries) in
          let arm = ap (λ (r : Point). r.arm) x.is ∙ a.arm in
          record {
            suit = test_of c t here.told p (step.arm_at c t p i l) q x.there
                (a.func ∙ sym (ap (λ (r : Point). r.func) x.is))
                (and_from _ _ (and_from _ _ (and_from _ _ (and_from _ _ (some_back q.arm b arm)
                (none_back q.block (ap (λ (r : Point). r.block) x.is ∙ a.block)))
                (nil_back q.outer (ap (λ (r : Point). r.outer) x.is ∙ a.outer)))
                (fitting.same_number q.under 0 (ap (λ (r : Point). r.under) x.is ∙ a.under)))
                (nil_back q.defers (ap (λ (r : Point). r.defers) x.is ∙ a.defers)))
                (marks_back [] q.tries (sym e.1)) (subst (λ st. each_holds t.classes [] st ≡ true) (sym e.0) refl)
                (each_is c t here.told (subst (λ (r : Point). Fitting c t p.locals r.locals) (sym x.is) a.locals));
            noted = ap step.arm_of x.there ∙ arm;
          }

  record ArmsAt (j m : ℕ) (ls : List ℕ) (bs : List Sort) : Type 0 where
    pub labels : step.arm_labels c.ops j m ≡ ls
    pub sorts : step.arm_sorts t ls ≡ Some bs
    pub count : length ls ≡ m
    pub arms : are_arms c t j m ≡ true
    pub suit : (gs : List Goes) → SuitAll c t here.told p gs → SuitAll c t here.told p (step.arms_at c t p i ls gs)

  arms_at : (j m : ℕ) (ls : List ℕ) (bs : List Sort) → r.Arms c N P j m ls bs → ArmsAt j m ls bs
  arms_at j m ls bs r.arms_no = record { labels = refl; sorts = refl; count = refl; arms = refl; suit = λ gs s. s }
  arms_at j (suc m) (l ∷ ls) (b ∷ bs) (r.arms_so e a more) =
      let x = arms_at (suc j) m ls bs more in
      let y = arm_at l b a in
      record {
        labels = ap (λ (n : Option Op). step.with_label (label_of n) (step.arm_labels c.ops (suc j) m)) e ∙
            ap (λ ls. l ∷ ls) x.labels;
        sorts = ap (λ n. step.behind_arm n (step.arm_sorts t ls)) y.noted ∙ ap (step.behind_arm (Some b)) x.sorts;
        count = ap suc x.count;
        arms = and_from (not (is_none (label_of (slice_get c.ops j)))) (are_arms c t (suc j) m)
            (subst (λ (n : Option Op). not (is_none (label_of n)) ≡ true) (sym e) refl) x.arms;
        suit = λ gs s. suit_so y.suit (x.suit gs s);
      }

  pub group_back : {kind m k : ℕ} → Passed (o.Group kind m k) → Done (o.Group kind m k)
  group_back {kind = kind} {m = m} {k = k} (r.of_group {r = b} {ls = ls} {rs = bs} w two arms g l) =
      let x = arms_at (suc i) m ls bs arms in
      subst (λ ls. Fine c t p i (o.Group kind m k) (step.leads (step.arms_at c t p i ls
      (step.to c t p i (suc i + m) (step.grouped kind (step.arm_results t m ls) ∷ []) st ∷ [])) [] None)) (sym x.labels)
      (led c t p i here _ (x.suit _ (subst (λ n. SuitAll c t here.told p
      (step.to c t p i (suc i + m) (step.grouped kind n ∷ []) st ∷ [])) (sym (known x.count x.sorts)) (gives kind bs b g l)))
      refl refl refl (waits_back c t p w) refl
      (and_from (nat_lt 1 m) (are_arms c t (suc i) m) (lt-ltb 1 m (more_than m two)) x.arms))
    where
      more_than : (m : ℕ) → 2 ≤ m → 1 < m
      more_than m l = omega (arith, l)

      known : length ls ≡ m → step.arm_sorts t ls ≡ Some bs → step.arm_results t m ls ≡ Some bs
      known e h =
          subst (λ b. cond b (step.arm_sorts t ls) None ≡ Some bs) (sym (fitting.same_number (length ls) m e)) h

      gives : (kind : ℕ) (bs : List Sort) (b : Sort) → r.Grouped c N kind bs b → r.To c N P (b ∷ st) (suc i + m) →
          SuitAll c t here.told p (step.to c t p i (suc i + m) (step.grouped kind (Some bs) ∷ []) st ∷ [])
      gives kind bs b r.sync_gives l = on_one c t p i here st l
      gives kind bs b (r.race_gives f) l =
          suit_so (pushed c t here.told p i (evenly c t p i here) (one_of bs) st
          (λ d h. all_fits c t here.told (all_on c t f h)) l) suit_no

  pub branch_back : {l : ℕ} → Passed (o.Branch l) → Done (o.Branch l)
  branch_back (r.of_branch {r = b} w a l) =
      led c t p i here _ (suit_so (arm_at (suc i) b a).suit (on_one c t p i here st l)) refl refl refl
      (waits_back c t p w) refl refl
