-- Deferred blocks.
use Rattle.std.proofs.Common.{◌≡◌, ℕ, suc, ◌+◌, ◌≤◌, ◌<◌, length, map, List, [], ◌∷◌, Option, Some, Bool, true, false}
use Rattle.std.proofs.Common.{cond}
use Rattle.std.proofs.Common.{refl, sym, subst, ap, arith, ◌∙◌}
use Rattle.std.specs.Prelude.{not, nat_lt}
use Rattle.std.proofs.lemmas.Bool.{ltb-true, ltb-false, and_parts, not-true}
use Rattle.verse_code.specs.declared.operations.Op.{Op}
use Rattle.verse_code.specs.declared.operations.Op.TheVariants as o
use Rattle.verse_code.specs.declared.codes.Code.{Code}
use Rattle.verse_meaning_state.specs.Waits.{eqn, ltn}
use Rattle.verse_meaning_state.proofs.Numbers.{eqn_is, ltn_is_not, eqn_same}
use Rattle.verse_code_machine_parents.proofs.Lists.{no_both}
use Rattle.verse_sorts.specs.Sorts.{Sort}
use Rattle.verse_sorts.specs.Typing.{AllFit, fit_no}
use Rattle.verse_verify_kept.specs.Notes.{Point, Notes, parent_of, point_at, names}
use Rattle.verse_verify_kept.specs.Rules as r
use Rattle.verse_verify_faults.specs.Spots.{Mark, Spot, Table, spot_at, above, opens, even, cut}
use Rattle.verse_verify_faults.specs.Stepping as step
use Rattle.verse_verify_faults.specs.Stepping.{Made, is, list_of, one_of, Stepped, Goes, inner, begins_arm}
use Rattle.verse_verify_faults.specs.Stepping.{begins_block, leads, goes_on, to, spot_locals}
use Rattle.verse_verify_faults.specs.Faults.{all_suit, suits, tries_of, keeps, try_count}
use Rattle.verse_verify_faults.proofs.Leading as leading
use Rattle.verse_verify_faults.proofs.Leading.{notes, Becomes, Become, become_is, Next, next_in, leads_with, marks_are}
use Rattle.verse_verify_faults.proofs.Leading.{numbers_are, number_is, arm_is}
use Rattle.verse_verify_faults.proofs.Fitting.{some_is}
use Rattle.verse_verify_laws.proofs.Steps.{Fine, led}
use Rattle.verse_verify_laws.proofs.Holding as holding
use Rattle.verse_verify_laws.proofs.Holding.{may_fail_is, may_wait_is, quiet_in, none_is, nil_is}
use Rattle.verse_verify_laws.proofs.Going.{wrote}

empty_fit : {up : ℕ → Option ℕ} {ys : List Sort} → AllFit up [] ys → ys ≡ []
empty_fit fit_no = refl

module _ (c : Code) (t : Table) (p : Spot) (i : ℕ) (ev : even (length p.stack) p.tries ≡ true) where
  abbrev N : Notes
  N = notes c t

  abbrev P : Point
  P = cut p

  abbrev st : List Sort
  st = above p.stack p.tries

  abbrev Done : Op → Type 0
  Done op = Fine c t p i op (step.step c t p i op st)

  abbrev Passed : Op → Type 0
  Passed op = r.Passes c N i P op

  -- a block's first operation, which these locals fit
  record BlockAt (e count : ℕ) (outer : List ℕ) (ls : List Sort) : Type 0 where
    pub spot : Spot
    pub there : spot_at t e ≡ Some spot
    pub entry : r.Entry c N P e count (cut spot)
    pub same : outer ≡ spot.outer
    pub locals : r.Each c N ls spot.locals

  block_at : (e count : ℕ) (ls : List Sort) → suits c t p (step.block_at c t p i e count ls) ≡ true → BlockAt e count
      (names P) ls
  block_at e count ls h =
      let nx = next_in c t p (step.block_at c t p i e count ls) h in
      let tries = sym (marks_are [] nx.spot.tries nx.tries) in
      let stack = empty_fit (subst (λ xs. AllFit (parent_of N) xs nx.spot.stack) (become_is c t [] nx.stack.become)
      nx.stack.fit) in
      record {
        spot = nx.spot;
        there = nx.there;
        entry = record {
          live = leading.point_there c t e nx.spot nx.there (holding.no_marks c t nx.spot tries);
          func = nx.func;
          arm = arm_is p.arm nx.spot.arm (and_parts _ _ (and_parts _ _ (and_parts _ _ (and_parts _ _ nx.part).0).0).0).0;
          block = sym (number_is (Some e) nx.spot.block (and_parts _ _ (and_parts _ _ (and_parts _ _ (and_parts _ _ nx.part).0).0).0).1);
          stack = holding.cut_bare c t nx.spot stack tries;
          tries = holding.opens_bare c t nx.spot tries;
          defers = nil_is nx.spot.defers (and_parts _ _ nx.part).1;
          under = sym (eqn_is (p.under + count) nx.spot.under (and_parts _ _ (and_parts _ _ nx.part).0).1);
        };
        same = holding.names_are c t p ∙ numbers_are (tries_of c t p) nx.spot.outer (and_parts _ _ (and_parts _ _ (and_parts _ _
            nx.part).0).0).1;
        locals = subst (λ xs. AllFit (parent_of N) xs nx.spot.locals) (become_is c t ls nx.locals.become) nx.locals.fit;
      }

  -- the next operation, with these locals, and with other blocks deferred
  behind : (ls : List Sort) {j : ℕ} {ds : List ℕ} → suits c t p (record (to c t p i j [] st) {
    part = inner ds;
    locals = map is ls;
  }) ≡ true → r.Leads c N P ls st (opens p.stack p.tries) ds j
  behind ls {j = j} {ds = ds} h =
      let w = wrote c t p i ev {j = j} {ms = map is ls} {st = st} {ds = ds} h in
      subst (λ ls. r.Leads c N P ls st (opens p.stack p.tries) ds j) (become_is c t ls w.become) w.leads

  pub defer_passes : {l : ℕ} → Done (o.Defer l) → Passed (o.Defer l)
  defer_passes f =
      let k = led c t p i _ f in
      let b = block_at (suc i) (length p.defers) p.locals (and_parts _ _ k.suit).0 in
      r.of_defer b.entry b.same b.locals (behind p.locals (and_parts _ _ (and_parts _ _ k.suit).1).0)

  leave_runs : (m : ℕ) (ls : List Sort) (ds : List ℕ) → p.under ≤ m → m ≤ p.under + length ds →
      all_suit c t p (step.leaves c t p i m ls ds) ≡ true → r.Runs c N P i m ls ds
  leave_runs m ls [] from most h = r.runs_no (equal p.under m from most) (behind ls (and_parts _ _ h).0)
    where
      equal : (u m : ℕ) → u ≤ m → m ≤ u + 0 → m ≡ u + 0
      equal u m a b = omega (arith, a, b)
  leave_runs m ls (e ∷ ds) from most h = by_test (eqn m (p.under + suc (length ds))) refl h (λ l h. leave_runs m
      (spot_locals (spot_at t e) ls) ds from l h)
    where
      lower : (u m n : ℕ) → (eqn m (u + suc n) ≡ false) → m ≤ u + suc n → m < u + suc n
      lower u m n e l = by_less (nat_lt m (u + suc n)) refl
        where
          same : (a b : ℕ) → b ≤ a → a ≤ b → a ≡ b
          same a b k l = omega (arith, k, l)

          by_less : (b : Bool) → nat_lt m (u + suc n) ≡ b → m < u + suc n
          by_less true h = ltb-true m (u + suc n) h
          by_less false h = elim (wrong (same m (u + suc n) (ltb-false m (u + suc n) h) l) e) [ ]
            where
              wrong : m ≡ u + suc n → eqn m (u + suc n) ≡ false → ⊥
              wrong h e = no_both (sym (subst (λ k. eqn m k ≡ true) h (eqn_same m)) ∙ e)

      less_one : (u m n : ℕ) → m < u + suc n → m ≤ u + n
      less_one u m n l = omega (arith, l)

      behind_block : List Sort
      behind_block = spot_locals (spot_at t e) ls

      by_test : (b : Bool) → eqn m (p.under + suc (length ds)) ≡ b → all_suit c t p (cond b (step.behind c t p i ls
          (e ∷ ds) ∷ []) (step.block_at c t p i e (length ds) ls ∷ step.leaves c t p i m behind_block ds)) ≡ true →
          (m ≤ p.under + length ds → all_suit c t p (step.leaves c t p i m behind_block ds) ≡ true →
          r.Runs c N P i m behind_block ds) → r.Runs c N P i m ls (e ∷ ds)
      by_test true q h go = r.runs_no (eqn_is m (p.under + suc (length ds)) q) (behind ls (and_parts _ _ h).0)
      by_test false q h go =
          let b = block_at e (length ds) ls (and_parts _ _ h).0 in
          let less = lower p.under m (length ds) q most in
          r.runs_so less b.entry b.same b.locals (subst (λ (x : Option Spot). r.Runs c N P i m (spot_locals x ls) ds)
          b.there (go (less_one p.under m (length ds) less) (and_parts _ _ h).1))

  try_keeps : (m : ℕ) → not (ltn m (keeps c t p.tries)) ≡ true → r.Keeps c N P m
  try_keeps m e = by_tries p.tries refl (ltn_is_not m (keeps c t p.tries) (not-true (ltn m (keeps c t p.tries)) e))
    where
      by_tries : (ms : List Mark) → p.tries ≡ ms → keeps c t ms ≤ m → r.Keeps c N P m
      by_tries [] eq l = r.keeps_all (ap (opens p.stack) eq)
      by_tries (a ∷ ms) eq l = r.keeps_some (ap (opens p.stack) eq) at_try
        where
          at_try : (q : Point) → point_at N a.index ≡ Some q → q.under + length q.defers ≤ m
          at_try q live =
              let x = holding.spotted c t a.index q live in
              subst (λ (q : Point). q.under + length q.defers ≤ m) x.is (subst (λ (y : Option Spot). try_count c t y ≤
              m) x.there l)

  pub leave_passes : {m : ℕ} → Done (o.Leave m) → Passed (o.Leave m)
  leave_passes {m = m} f =
      let k = led c t p i _ f in
      r.of_leave (try_keeps m (and_parts _ _ (and_parts _ _ k.fit).0).0)
      (leave_runs m p.locals p.defers (ltn_is_not m p.under (not-true (ltn
      m p.under) (and_parts _ _
      (and_parts _ _ k.fit).0).1)) (ltn_is_not (p.under + length p.defers) m (not-true (ltn (p.under + length p.defers) m) (and_parts
      _ _ k.fit).1)) k.suit)

  abbrev again : ℕ → Goes
  again e = record {
    index = e;
    part = begins_block p.outer p.under;
    locals = map is p.locals;
    stack = [];
    tries = Some [];
  }

  pub defer_end_passes : Done o.DeferEnd → Passed o.DeferEnd
  defer_end_passes f =
      let k = led c t p i _ f in
      let b = some_is p.block (and_parts _ _ k.parts).0 in
      let tries = nil_is p.tries (and_parts _ _ k.fit).0 in
      by_block b.0 b.1 (holding.opens_bare c t p tries) (holding.cut_bare c t p (nil_is p.stack (and_parts _ _ k.fit).1)
      tries) (nil_is p.defers (and_parts _ _
      k.parts).1) (subst (λ m. all_suit c t p (step.block_again c t p i m) ≡ true) b.1 k.suit)
    where
      by_block : (e : ℕ) → p.block ≡ Some e → opens p.stack p.tries ≡ [] → st ≡ [] → p.defers ≡ [] →
          all_suit c t p (step.block_again c t p i (Some e)) ≡ true → Passed o.DeferEnd
      by_block e eq tries stack defers h =
          let nx = next_in c t p (again e) (and_parts _ _ h).0 in
          let none = sym (marks_are [] nx.spot.tries nx.tries) in
          r.of_defer_end eq tries stack defers (leading.point_there c t e nx.spot nx.there (holding.no_marks c t
          nx.spot none)) (subst (λ xs.
          AllFit (parent_of N) xs nx.spot.locals) (become_is c t p.locals nx.locals.become) nx.locals.fit)
