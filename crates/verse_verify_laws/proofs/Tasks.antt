-- Tasks: waits, groups, branches and what ends an arm.
use Rattle.std.proofs.Common.{◌≡◌, ℕ, zero, suc, ◌+◌, ◌≤◌, ◌<◌, length, List, [], ◌∷◌, Option, Some, None, true, cond}
use Rattle.std.proofs.Common.{refl, sym, subst, ap, arith, ◌∙◌}
use Rattle.std.specs.Prelude.{not, slice_get}
use Rattle.std.proofs.lemmas.Option.{none-some}
use Rattle.std.proofs.lemmas.Bool.{and_parts}
use Rattle.verse_code.specs.declared.operations.Op.{Op}
use Rattle.verse_code.specs.declared.operations.Op.TheVariants as o
use Rattle.verse_code.specs.declared.codes.Code.{Code}
use Rattle.verse_meaning_state.specs.Waits.{eqn}
use Rattle.verse_meaning_state.proofs.Numbers.{eqn_is, eqn_same}
use Rattle.verse_code_machine.specs.Acts.{label_of}
use Rattle.verse_code_machine_parents.proofs.Lists.{no_both}
use Rattle.verse_sorts.specs.Sorts as s
use Rattle.verse_sorts.specs.Sorts.{Sort, Sorts, from_never, fits_list}
use Rattle.verse_sorts.specs.Typing.{AllFit, fit_no}
use Rattle.verse_verify_kept.specs.Notes.{Point, Notes, parent_of}
use Rattle.verse_verify_kept.specs.Rules as r
use Rattle.verse_verify_faults.specs.Fitting.{fit}
use Rattle.verse_verify_faults.specs.Spots.{Spot, Table, spot_at, above, even, cut}
use Rattle.verse_verify_faults.specs.Stepping as step
use Rattle.verse_verify_faults.specs.Stepping.{Made, is, list_of, one_of, Stepped, Goes, inner, begins_arm}
use Rattle.verse_verify_faults.specs.Stepping.{begins_block, leads, goes_on, to}
use Rattle.verse_verify_faults.specs.Faults.{all_suit, suits, is_none, are_arms}
use Rattle.verse_verify_faults.proofs.Fitting.{fit_is, some_is}
use Rattle.verse_verify_faults.proofs.Leading as leading
use Rattle.verse_verify_faults.proofs.Leading.{notes, Becomes, Become, become_is, Next, next_in, leads_with, marks_are}
use Rattle.verse_verify_faults.proofs.Leading.{numbers_are, number_is, arm_is}
use Rattle.verse_verify_laws.proofs.Steps.{Fine, led, needed, popped}
use Rattle.verse_verify_laws.proofs.Holding as holding
use Rattle.verse_verify_laws.proofs.Holding.{may_fail_is, may_wait_is, quiet_in, none_is, nil_is}
use Rattle.verse_verify_laws.proofs.Going.{pushed_one, made_one}

empty_fit : {up : ℕ → Option ℕ} {ys : List Sort} → AllFit up [] ys → ys ≡ []
empty_fit fit_no = refl

module _ (c : Code) (t : Table) (p : Spot) (i : ℕ) (ev : even (length p.stack) p.tries ≡ true) where
  abbrev N : Notes
  N = notes c t

  abbrev P : Point
  P = cut p

  abbrev st : List Sort
  st = above p.stack p.tries

  abbrev Done : Op → Type 0
  Done op = Fine c t p i op (step.step c t p i op st)

  abbrev Passed : Op → Type 0
  Passed op = r.Passes c N i P op

  pub sleep_passes : {k : ℕ} → Done (o.Sleep k) → Passed (o.Sleep k)
  sleep_passes f =
      let l = led c t p i _ f in
      r.of_sleep (may_wait_is c t p l.waits) (pushed_one c t p i ev l.suit)

  pub forever_passes : Done o.Forever → Passed o.Forever
  forever_passes f =
      let l = led c t p i _ f in
      r.of_forever (may_wait_is c t p l.waits) (pushed_one c t p i ev l.suit)

  pub await_task_passes : Done o.AwaitTask → Passed o.AwaitTask
  await_task_passes f =
      let x = popped c t p i _ f in
      by_sort x.top x.rest x.is x.next
    where
      by_sort : (a : Sort) (rest : List Sort) → st ≡ a ∷ rest →
          Fine c t p i o.AwaitTask (step.on_task a (λ r. goes_on c t p i (is r ∷ []) rest)) → Passed o.AwaitTask
      by_sort (s.task a) rest e f =
          let l = led c t p i _ f in
          r.of_await_task (may_wait_is c t p l.waits) e (pushed_one c t p i ev l.suit)
      by_sort s.never rest e f =
          let l = led c t p i _ f in
          r.of_no_task (may_wait_is c t p l.waits) e (pushed_one c t p i ev l.suit)
      by_sort a rest e f = elim (none-some _ (sym f.none)) [ ]

  pub await_event_passes : Done o.AwaitEvent → Passed o.AwaitEvent
  await_event_passes f =
      let x = popped c t p i _ f in
      by_sort x.top x.rest x.is x.next
    where
      by_sort : (a : Sort) (rest : List Sort) → st ≡ a ∷ rest →
          Fine c t p i o.AwaitEvent (step.on_heard a (λ r. goes_on c t p i (is r ∷ []) rest)) → Passed o.AwaitEvent
      by_sort (s.event a) rest e f =
          let l = led c t p i _ f in
          r.of_await_event (may_wait_is c t p l.waits) e (pushed_one c t p i ev l.suit)
      by_sort s.never rest e f =
          let l = led c t p i _ f in
          r.of_no_event (may_wait_is c t p l.waits) e (pushed_one c t p i ev l.suit)
      by_sort a rest e f = elim (none-some _ (sym f.none)) [ ]

  pub signal_passes : Done o.Signal → Passed o.Signal
  signal_passes f =
      let x = popped c t p i _ f in
      let y = popped c t p i _ x.next in
      let n = needed c t p i _ _ y.next in
      let l = led c t p i _ n.next in
      by_sort x.top y.top y.rest (x.is ∙ ap (λ zs. x.top ∷ zs) y.is) n.is (may_wait_is c t p l.waits) (pushed_one c t p
      i ev l.suit)
    where
      by_sort : (v e : Sort) (rest : List Sort) → st ≡ v ∷ e ∷ rest → step.may_send t.classes e v ≡ true → r.MayWait c
          N P →
          r.To c N P (s.unit ∷ rest) (suc i) → Passed o.Signal
      by_sort v (s.event a) rest e h w l = r.of_signal w e (fit_is t.classes v a h) l
      by_sort v s.never rest e h w l = r.of_no_signal w e l
      by_sort v a rest e h w l = no_both (sym h)

  pub arm_passes : {l : ℕ} → Done (o.Arm l) → Passed (o.Arm l)
  arm_passes f = no_both (sym (led c t p i _ f).parts)

  pub arm_end_passes : Done o.ArmEnd → Passed o.ArmEnd
  arm_end_passes f =
      let x = popped c t p i _ f in
      let n = needed c t p i _ _ x.next in
      let l = led c t p i _ n.next in
      let a = some_is p.arm (and_parts _ _ (and_parts _ _ l.parts).0).0 in
      r.of_arm_end x.is (holding.no_tries c t p l.fit) a.1 (none_is p.block (and_parts _ _ (and_parts _ _ l.parts).0).1) (nil_is
      p.defers (and_parts _ _
      l.parts).1) (fit_is t.classes x.top a.0 (subst (λ m. fit t.classes x.top (step.arm_sort m) ≡ true) a.1 (and_parts _ _
      n.is).0))

  -- an arm begins
  record ArmAt (l : ℕ) : Type 0 where
    pub sort : Sort
    pub arm : r.Arm c N P l sort
    pub noted : step.arm_of (spot_at t l) ≡ Some sort

  arm_at : (l : ℕ) → suits c t p (step.arm_at c t p i l) ≡ true → ArmAt l
  arm_at l e =
      let nx = next_in c t p (step.arm_at c t p i l) e in
      let a = some_is nx.spot.arm (and_parts _ _ (and_parts _ _ (and_parts _ _ (and_parts _ _ nx.part).0).0).0).0 in
      let tries = sym (marks_are [] nx.spot.tries nx.tries) in
      let stack = empty_fit (subst (λ xs. AllFit (parent_of N) xs nx.spot.stack) (become_is c t [] nx.stack.become)
      nx.stack.fit) in
      record {
        sort = a.0;
        arm = record {
          point = cut nx.spot;
          live = leading.point_there c t l nx.spot nx.there (holding.no_marks c t nx.spot tries);
          func = nx.func;
          arm = a.1;
          locals = subst (λ xs. AllFit (parent_of N) xs nx.spot.locals) (become_is c t p.locals nx.locals.become)
              nx.locals.fit;
          stack = holding.cut_bare c t nx.spot stack tries;
          tries = holding.opens_bare c t nx.spot tries;
          block = none_is nx.spot.block (and_parts _ _ (and_parts _ _ (and_parts _ _ (and_parts _ _ nx.part).0).0).0).1;
          outer = nil_is nx.spot.outer (and_parts _ _ (and_parts _ _ (and_parts _ _ nx.part).0).0).1;
          under = eqn_is nx.spot.under 0 (and_parts _ _ (and_parts _ _ nx.part).0).1;
          defers = nil_is nx.spot.defers (and_parts _ _ nx.part).1;
        };
        noted = ap step.arm_of nx.there ∙ a.1;
      }

  record ArmsAt (j m : ℕ) (ls : List ℕ) (gs : List Goes) : Type 0 where
    pub sorts : List Sort
    pub arms : r.Arms c N P j m ls sorts
    pub noted : step.arm_sorts t ls ≡ Some sorts
    pub count : length ls ≡ m
    pub rest : all_suit c t p gs ≡ true

  is_arm : (m : Option Op) (l : ℕ) → label_of m ≡ Some l → m ≡ Some (o.Arm l)
  is_arm None l e = elim (none-some _ e) [ ]
  is_arm (Some (o.Arm k)) l e = arm_of_label e
    where
      arm_of_label : {k l : ℕ} → Some k ≡ Some l → Some (o.Arm k) ≡ Some (o.Arm l)
      arm_of_label e = cc
  is_arm (Some op) l e = elim (none-some _ e) [ ]

  arms_at : (m j : ℕ) (gs : List Goes) → are_arms c t j m ≡ true →
      all_suit c t p (step.arms_at c t p i (step.arm_labels c.ops j m) gs) ≡ true → ArmsAt j m (step.arm_labels c.ops j
      m) gs
  arms_at zero j gs e h = record { sorts = []; arms = r.arms_no; noted = refl; count = refl; rest = h }
  arms_at (suc m) j gs e h =
      by_label (label_of (slice_get c.ops j)) refl (and_parts _ _ e).0 h (λ h. arms_at m (suc j) gs (and_parts _ _ e).1 h)
    where
      by_label : (x : Option ℕ) → label_of (slice_get c.ops j) ≡ x → not (is_none x) ≡ true → all_suit c t p
          (step.arms_at c t p i
          (step.with_label x (step.arm_labels c.ops (suc j) m)) gs) ≡ true → (all_suit c t p (step.arms_at c t p i
          (step.arm_labels
          c.ops (suc j) m) gs) ≡ true → ArmsAt (suc j) m (step.arm_labels c.ops (suc j) m) gs) → ArmsAt j (suc m)
          (step.with_label x (step.arm_labels c.ops (suc j) m)) gs
      by_label None eq f h go = no_both (sym f)
      by_label (Some l) eq f h go =
          let one = arm_at l (and_parts _ _ h).0 in
          let more = go (and_parts _ _ h).1 in
          record {
            sorts = one.sort ∷ more.sorts;
            arms = r.arms_so (is_arm (slice_get c.ops j) l eq) one.arm more.arms;
            noted = ap (λ x. step.behind_arm x (step.arm_sorts t (step.arm_labels c.ops (suc j) m))) one.noted ∙ ap
                (step.behind_arm (Some
                one.sort)) more.noted;
            count = ap suc more.count;
            rest = more.rest;
          }

  pub group_passes : {kind m k : ℕ} → Done (o.Group kind m k) → Passed (o.Group kind m k)
  group_passes {kind = kind} {m = m} {k = k} f =
      let l = led c t p i _ f in
      let x = arms_at m (suc i) (to c t p i (suc i + m) (step.grouped kind (step.arm_results t m (step.arm_labels c.ops
      (suc i) m)) ∷ []) st ∷
      []) (and_parts _ _ l.parts).1 l.suit in
      let known = subst (λ b. cond b (step.arm_sorts t (step.arm_labels c.ops (suc i) m)) None ≡ Some x.sorts) (sym
      (same_count (length
      (step.arm_labels c.ops (suc i) m)) m x.count)) x.noted in
      by_kind kind (two_more m (holding.less_than 1 m (and_parts _ _ l.parts).0)) (may_wait_is c t p l.waits) x.sorts x.arms
      (subst (λ (y : Option (List Sort)).
      all_suit c t p (to c t p i (suc i + m) (step.grouped kind y ∷ []) st ∷ []) ≡ true) known x.rest)
    where
      two_more : (m : ℕ) → 1 < m → 2 ≤ m
      two_more m l = omega (arith, l)

      same_count : (a b : ℕ) → a ≡ b → eqn a b ≡ true
      same_count a b e = subst (λ b. eqn a b ≡ true) e (eqn_same a)

      by_kind : (kind : ℕ) → 2 ≤ m → r.MayWait c N P → (rs : List Sort) → r.Arms c N P (suc i) m (step.arm_labels c.ops
          (suc i) m) rs →
          all_suit c t p (to c t p i (suc i + m) (step.grouped kind (Some rs) ∷ []) st ∷ []) ≡ true → Passed (o.Group
          kind m k)
      by_kind zero two w rs arms h = r.of_group w two arms r.sync_gives (pushed_one c t p i ev h)
      by_kind (suc kind) two w rs arms h =
          let x = made_one c t p i ev h in
          by_sort x.becomes x.leads
        where
          by_sort : {u : Sort} → Becomes c t (one_of rs) u → r.To c N P (u ∷ st) (suc i + m) → Passed (o.Group (suc
              kind) m k)
          by_sort (leading.one_sort g) l = r.of_group w two arms (r.race_gives g) l

  pub branch_passes : {l : ℕ} → Done (o.Branch l) → Passed (o.Branch l)
  branch_passes f =
      let l = led c t p i _ f in
      r.of_branch (may_wait_is c t p l.waits) (arm_at (suc i) (and_parts _ _ l.suit).0).arm (pushed_one c t p i ev (and_parts _ _
      l.suit).1)
