-- What is known of the tasks that are kept, by their places.
use Rattle.std.proofs.Common.{◌≡◌, ℕ, zero, suc, ◌+◌, ◌≤◌, ◌<◌, map, List, [], ◌∷◌, ◌++◌, Option, Some, None, Bool}
use Rattle.std.proofs.Common.{true, false, refl, sym}
use Rattle.std.proofs.Common.{subst, ap, ◌∙◌, arith, ◌⊎◌}
use Rattle.std.specs.Prelude.{◌==◌, ◌≢◌, eqb}
use mathlib.Core.Logic.{inl, inr}
use Rattle.std.proofs.lemmas.Bool.Decides.{eqb_tells}
use Rattle.std.proofs.lemmas.Bool.{and_parts}
use Rattle.std.proofs.lemmas.Option.{same_Some}
use Rattle.verse_base.proofs.Facts.{clash}
use Rattle.task_tree.specs.Tasks.{is_child}
use Rattle.verse_meaning_state.specs.Waits.{nth}
use Rattle.verse_code_machine.specs.Tasks.{Frame, root, part, Role, Who, Part, runs, Task, same_path}
use Rattle.verse_code_machine.specs.Runs.{Forest}
use Rattle.verse_code_machine_parents.specs.Parents.{whos, HasParent, here, later, Rooted, rooted_no, rooted_root}
use Rattle.verse_code_machine_parents.specs.Parents.{rooted_part, Born, Still}
use Rattle.verse_code_machine_parents.proofs.Lists.{rooted_tail, rooted_number}
use Rattle.run_save_shots.specs.Lists.{Each, EachAt, EachTwo}
use Rattle.run_save_shots.specs.Kept.{KeptFrame, KeptRest, KeptTask}
use Rattle.run_save_shots.specs.Fitting.{is_arm_of}
use Rattle.run_save_shots.specs.Keeping as kp
use Rattle.run_save_shots.specs.Keeping.{place_of, task_of, arm_of, arm_in, depth_of, arm_or, role_in}
use Rattle.run_save_fits.specs.Held.{IsSome, RoleIs, tasks_sum}
use Rattle.run_save_fits.proofs.Holding.{role_some}
use Rattle.run_save_kept.specs.Orders.{last}
use Rattle.run_save_kept.proofs.Paths.{last_end, is_same}
use Rattle.run_save_kept.proofs.Siblings.{Older, Named, HasOwn}
use Rattle.run_save_kept.proofs.Arms.{placed, member_at, arm_is}
use Rattle.run_save_births.specs.Births.{births_of, NoChild, IsBorn}
use Rattle.run_save_groups.specs.Arms.{TaskIs}
use Rattle.run_save_same.proofs.Spelled.{unfound}
use Rattle.run_save_same.proofs.Depths.{lowest, frames_of, since_of, child_tested, Tested}
use Rattle.run_save_same.proofs.Aligning.{is_its, Falls, Differ}
use Rattle.run_save_same.proofs.Table.{is_own, Apart}

-- ---- lists

pub none_some : {A B : Type 0} {a : A} → None ≡ Some a → B
none_some e = cc

pub each_of : (P : Task → Type 0) (xs : List Task) → ((k : ℕ) (z : Task) → nth xs k ≡ Some z → P z) → Each P xs
each_of P [] f = tt
each_of P (x ∷ xs) f = (f 0 x refl, each_of P xs (λ k z e. f (suc k) z e))

pub weighs : (f : Task → ℕ) (xs : List Task) (i : ℕ) (t : Task) → nth xs i ≡ Some t → f t ≤ tasks_sum f xs
weighs f [] i t e = none_some e
weighs f (x ∷ xs) zero t e = let h = ap f (same_Some _ _ e) in more (f t) (f x) (tasks_sum f xs) h
  where
    more : (a b d : ℕ) → b ≡ a → a ≤ b + d
    more a b d e = omega (arith, e)
weighs f (x ∷ xs) (suc i) t e = let h = weighs f xs i t e in more (f t) (f x) (tasks_sum f xs) h
  where
    more : (a b d : ℕ) → a ≤ d → a ≤ b + d
    more a b d e = omega (arith, e)

pub kept_at : (P : ℕ → KeptTask → Type 0) (f : Task → KeptTask) (n : ℕ) (xs : List Task) (i j : ℕ) (t : Task) →
    j ≡ n + i → EachAt P n (map f xs) →
    nth xs i ≡ Some t → P j (f t)
kept_at P f n [] i j t d a e = none_some e
kept_at P f n (x ∷ xs) zero j t d a e = subst (λ k. P k (f t)) (same j n d) (subst (λ z. P n (f z)) (same_Some _ _ e) a.0)
  where
    same : (j n : ℕ) → j ≡ n + 0 → n ≡ j
    same j n e = omega (arith, e)
kept_at P f n (x ∷ xs) (suc i) j t d a e = kept_at P f (suc n) xs i j t (further j n i d) a.1 e
  where
    further : (j n i : ℕ) → j ≡ n + suc i → j ≡ suc n + i
    further j n i e = omega (arith, e)

-- ---- names

pub who_path : (r : Role) (w : Who) → RoleIs r w → w.path ≡ w.up ++ w.number ∷ []
who_path (root entry) w a = a.1 ∙ ap (λ p. p ++ w.number ∷ []) (sym a.0)
who_path part w a = a.0

role_last : (r : Role) (w : Who) → RoleIs r w → last w.path ≡ w.number
role_last (root entry) w a = ap last a.1
role_last part w a = ap last a.0 ∙ last_end w.up w.number

-- a child began later than its parent
parent_last : {left n : ℕ} {up : List ℕ} {ws : List Who} → Rooted left ws → HasParent up n ws → n < last up
parent_last rooted_no h = elim h [ ]
parent_last (rooted_root {w = w} e p k r) (here q l) = less l (ap last (sym p ∙ q))
  where
    less : {n m k : ℕ} → n < m → m ≡ k → n < k
    less l e = omega (arith, l, e)
parent_last (rooted_part {w = w} e p k b r) (here q l) = less l (sym (last_end w.up w.number) ∙ ap last (sym p ∙ q))
  where
    less : {n m k : ℕ} → n < m → m ≡ k → n < k
    less l e = omega (arith, l, e)
parent_last (rooted_root e p k r) (later h) = parent_last r h
parent_last (rooted_part e p k b r) (later h) = parent_last r h

abbrev pub Low : ℕ → Task → Type 0
Low left t = (left ≤ t.thread.who.number) × (IsSome t.thread.who.up → t.thread.who.number < last t.thread.who.up)

first_low : {left : ℕ} {w : Who} {ws : List Who} → RoleIs w.role w → Rooted left (w ∷ ws) → IsSome w.up →
    w.number < last w.up
first_low a (rooted_root e p k r) s = absurd (none _ _ a e s)
  where
    none : (r : Role) (w : Who) {entry : Option ℕ} → RoleIs r w → r ≡ root entry → IsSome w.up → ⊥
    none (root entry) w a e s = subst IsSome a.0 s
    none part w a e s = absurd (cc)
first_low a (rooted_part e p k b r) s = parent_last r b

pub rooted_low : (left : ℕ) (ts : List Task) → Each Named ts → Rooted left (whos ts) → Each (Low left) ts
rooted_low left [] n r = tt
rooted_low left (t ∷ ts) n r = ((rooted_number r, first_low n.0 r), rooted_low left ts n.1 (rooted_tail r))

lowest_is : (n : ℕ) (g : Frame) (fs : List Frame) → Born n g.life g.handlers fs → lowest (g ∷ fs) ≡ n
lowest_is n g [] a = a.0
lowest_is n g (f ∷ fs) a = lowest_is n f fs a

-- ---- a task at a place and a child of it

module _ (ys : List Task) (names : Each Named ys) where
  pub some_path : (i : ℕ) (y : Task) → nth ys i ≡ Some y → IsSome y.thread.who.path
  some_path i y e = role_some y.thread.who.role y.thread.who (member_at Named ys i y names e)

  -- its parent stands there
  pub record ChildOf (i : ℕ) (y z : Task) : Type 0 where
    pub up : z.thread.who.up ≡ y.thread.who.path
    pub task : task_of z.thread.who.up ys ≡ Some y

  pub child_of : (i : ℕ) (y z : Task) → nth ys i ≡ Some y → place_of z.thread.who.up ys ≡ Some i → ChildOf i y z
  child_of i y z e p = let h = placed z.thread.who.up ys i p in let same = same_Some _ _ (sym h.1 ∙ e) in record {
    up = h.2 ∙ ap (λ (t : Task). t.thread.who.path) same;
    task = h.3 ∙ ap Some same;
  }

  child_place : (i : ℕ) (o : Option ℕ) → is_child (Some i) o ≡ true → o ≡ Some i
  child_place i None e = absurd (cc)
  child_place i (Some j) e = by_case (eqb_tells i j)
    where
      by_case : ((eqb i j ≡ true) × (i ≡ j)) ⊎ ((eqb i j ≡ false) × (i ≢ j)) → Some j ≡ Some i
      by_case (inl h) = ap Some (sym h.1)
      by_case (inr h) = clash (eqb i j) e h.0

  pub its_place : (i : ℕ) (z : Task) → is_its ys i z ≡ true → place_of z.thread.who.up ys ≡ Some i
  its_place i z e = child_place i (place_of z.thread.who.up ys) e

  pub place_its : (i : ℕ) (z : Task) → place_of z.thread.who.up ys ≡ Some i → is_its ys i z ≡ true
  place_its i z e = ap (is_child (Some i)) e ∙ by_case (eqb_tells i i)
    where
      by_case : ((eqb i i ≡ true) × (i ≡ i)) ⊎ ((eqb i i ≡ false) × (i ≢ i)) → eqb i i ≡ true
      by_case (inl h) = h.0
      by_case (inr h) = absurd (h.1 refl)

  own_place : (o : Option ℕ) → is_child None o ≡ true → o ≡ None
  own_place None e = refl
  own_place (Some i) e = absurd (cc)

  -- where no parent is found there is none
  pub no_up : (z : Task) → HasOwn ys z → place_of z.thread.who.up ys ≡ None → z.thread.who.up ≡ []
  no_up z has e = by_path z.thread.who.up (λ s. never (has s) (unfound z.thread.who.up ys e))
    where
      never : {n : ℕ} → 1 ≤ n → n ≡ 0 → ⊥
      never h e = omega (arith, h, e)

      by_path : (up : List ℕ) → (IsSome up → ⊥) → up ≡ []
      by_path [] f = refl
      by_path (i ∷ up) f = absurd (f tt)

  -- ---- siblings

  fall_of : (i : ℕ) (y z w : Task) → nth ys i ≡ Some y → Older z w → Falls (is_its ys i) z w
  fall_of i y z w e old a b =
      let p = child_of i y z e (its_place i z a) in
      let q = child_of i y w e (its_place i w b) in
      old (subst IsSome (sym p.up) (some_path i y e)) (p.up ∙ sym q.up)

  pub falls_of : (i : ℕ) (y : Task) (zs : List Task) → nth ys i ≡ Some y → EachTwo Older zs →
      EachTwo (Falls (is_its ys i)) zs
  falls_of i y [] e a = tt
  falls_of i y (z ∷ zs) e a = (row zs a.0, falls_of i y zs e a.1)
    where
      row : (us : List Task) → Each (Older z) us → Each (Falls (is_its ys i) z) us
      row [] d = tt
      row (u ∷ us) d = (fall_of i y z u e d.0, row us d.1)

  -- no two tasks without a parent have one number
  pub roots_differ : (zs : List Task) → Each Named zs → Each (HasOwn ys) zs → EachTwo Apart zs →
      EachTwo (Differ (is_own ys)) zs
  roots_differ [] n h a = tt
  roots_differ (z ∷ zs) n h a = (row zs n.1 h.1 a.0, roots_differ zs n.1 h.1 a.1)
    where
      alone : (w : Task) → Named w → HasOwn ys w → is_own ys w ≡ true → w.thread.who.path ≡ w.thread.who.number ∷ []
      alone w m g e = who_path w.thread.who.role w.thread.who m ∙
          ap (λ up. up ++ w.thread.who.number ∷ []) (no_up w g (own_place (place_of w.thread.who.up ys) e))

      row : (us : List Task) → Each Named us → Each (HasOwn ys) us → Each (Apart z) us → Each (Differ (is_own ys) z) us
      row [] m g d = tt
      row (u ∷ us) m g d = (
        (λ e f i. clash (same_path z.thread.who.path u.thread.who.path)
            (is_same z.thread.who.path u.thread.who.path (alone z n.0 h.0 e ∙ (ap (λ k. k ∷ []) i ∙
            sym (alone u m.0 g.0 f)))) d.0),
        row us m.1 g.1 d.1,
      )

  -- ---- frames and children

  module _ (left : ℕ) (tss : Forest) where
    -- no frame of its parent was born with its number
    births_apart : (y z : Task) (ns : List ℕ) →
        ((k : ℕ) → NoChild tss y.thread.who.path k → z.thread.who.path ≡ y.thread.who.path ++ k ∷ [] → ⊥) →
        z.thread.who.path ≡ y.thread.who.path ++ z.thread.who.number ∷ [] → Each (NoChild tss y.thread.who.path) ns →
        Each (λ b. b ≡ z.thread.who.number → ⊥) ns
    births_apart y z [] f e a = tt
    births_apart y z (n ∷ ns) f e a = (
      (λ g. f n a.0 (e ∙ ap (λ k. y.thread.who.path ++ k ∷ []) (sym g))),
      births_apart y z ns f e a.1,
    )

    pub kid_of : (i : ℕ) (y z : Task) → nth ys i ≡ Some y → Named z → Still y.thread → IsBorn left tss y.thread →
        TaskIs left y → Low left z →
        ((k : ℕ) → NoChild tss y.thread.who.path k → z.thread.who.path ≡ y.thread.who.path ++ k ∷ [] → ⊥) →
        is_its ys i z ≡ true →
        Tested (since_of ys i z) z.thread.who.number (frames_of y)
    kid_of i y z e named still born arms low away t =
        let p = its_place i z t in
        let h = child_of i y z e p in
        let some = subst IsSome (sym h.up) (some_path i y e) in
        child_tested ys i y z p h.task left born.rises
        (births_apart y z (births_of y.thread) away (who_path z.thread.who.role z.thread.who named ∙ ap (λ up.
        up ++ z.thread.who.number ∷ []) h.up) born.apart) arms.1
        (below (low.1 some) (ap last h.up ∙ (role_last y.thread.who.role y.thread.who (member_at Named
        ys i y names e) ∙ sym (lowest_is y.thread.who.number y.thread.frame y.thread.below still.born))))
      where
        below : {n m k : ℕ} → n < m → m ≡ k → n < k
        below l e = omega (arith, l, e)

  -- ---- arms

  abbrev matches : Option ℕ → ℕ → Bool
  matches None place = false
  matches (Some q) place = q == place

  matches_is : (o : Option ℕ) (place : ℕ) → matches o place ≡ true → o ≡ Some place
  matches_is None place e = absurd (cc)
  matches_is (Some q) place e = by_case (eqb_tells q place)
    where
      by_case : ((eqb q place ≡ true) × (q ≡ place)) ⊎ ((eqb q place ≡ false) × (q ≢ place)) → Some q ≡ Some place
      by_case (inl h) = ap Some h.1
      by_case (inr h) = clash (eqb q place) e h.0

  role_test : (i place : ℕ) (entry q : Option ℕ) (d : ℕ) (fs : List KeptFrame) (rest : KeptRest) →
      is_arm_of i place (record { parent = Some i; role = arm_or q d; root = entry; frames = fs; rest = rest }) ≡
      true → matches q place ≡ true
  role_test i place entry None d fs rest e = (and_parts (is_child (Some i) (Some i)) false e).1
  role_test i place entry (Some j) d fs rest e = (and_parts (is_child (Some i) (Some i)) (j == place) e).1

  pub arm_its : (i place : ℕ) (z : Task) → is_arm_of i place (kp.task ys z) ≡ true → is_its ys i z ≡ true
  arm_its i place z e = (and_parts (is_its ys i z) _ e).0

  -- it runs at that place of the group
  pub arm_runs : (i place : ℕ) (y z : Task) (gs : List Part) → nth ys i ≡ Some y →
      ((n : ℕ) → arm_in n y.rest ≡ arm_of n gs) →
      is_arm_of i place (kp.task ys z) ≡ true → nth gs place ≡ Some (runs z.thread.who.number)
  arm_runs i place y z gs e same t =
      let p = its_place i z (arm_its i place z t) in
      let h = child_of i y z e p in
      arm_is z.thread.who.number gs place
      (sym (same z.thread.who.number) ∙
      matches_is (arm_in z.thread.who.number y.rest) place (role_test i place (kp.task
      ys z).root (arm_in z.thread.who.number y.rest) (depth_of z.thread.who.number y) (kp.task ys z).frames
      (kp.task ys z).rest (subst (λ o. is_arm_of i place
      (record {
        parent = Some i;
        role = role_in o z.thread.who.number;
        root = (kp.task ys z).root;
        frames = (kp.task ys z).frames;
        rest = (kp.task ys z).rest;
      }) ≡ true) h.task (subst (λ o. is_arm_of i place (record {
        parent = o;
        role = role_in (task_of z.thread.who.up ys) z.thread.who.number;
        root = (kp.task ys z).root;
        frames = (kp.task ys z).frames;
        rest = (kp.task ys z).rest;
      }) ≡ true) p t))))
