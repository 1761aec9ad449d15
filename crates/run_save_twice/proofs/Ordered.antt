-- How the tasks that a fitting shot spells stand to one another.
use Rattle.std.proofs.Common.{◌≡◌, ℕ, zero, suc, ◌+◌, ◌<◌, ◌≤◌, ◌⊎◌, inl, inr, Bool, true, false, cond, List, [], ◌∷◌, ◌++◌, length, Option}
use Rattle.std.proofs.Common.{Some, None}
use Rattle.std.proofs.Common.{refl, sym, ap, subst, ◌∙◌, append_assoc, arith}
use Rattle.verse_code.specs.declared.codes.Code.{Code}
use Rattle.verse_value.specs.Val.{Val}
use Rattle.verse_meaning_state.specs.Waits.{eqn, ltn, nth}
use Rattle.verse_meaning_state.proofs.Numbers.{eqn_is, ltn_yes}
use Rattle.verse_code_machine.specs.Tasks.{Who, Part, Task, same_path}
use Rattle.verse_code_machine.specs.Ends.{is_run}
use Rattle.verse_code_machine.specs.Runs.{Forest}
use Rattle.verse_code_machine.proofs.Paths.{same_is}
use Rattle.run_save_shots.specs.Lists.{Each, EachAt, count}
use Rattle.run_save_shots.specs.Kept as k
use Rattle.run_save_shots.specs.Kept.{KeptRest, KeptTask, Kept}
use Rattle.run_save_shots.specs.Fitting.{Stand, calls, sleeps, stays, awaits_task, awaits_event, gathers, goes_on, task_stand, ParentBefore}
use Rattle.run_save_shots.specs.Fitting.{Fits}
use Rattle.run_save_shots.specs.Spelling.{gathered, parts_from, rest, tasks_from, trees}
use Rattle.run_save_fits.specs.Held.{IsSome, WhoIs, tasks_sum, trees_sum, one}
use Rattle.run_save_fits.proofs.Holding.{role_some}
use Rattle.run_save_fits.proofs.Counted.{one_most}
use Rattle.run_save_kept.specs.Orders.{Orderly, in_group, skips, awaits, is_named, weight, last}
use Rattle.run_save_kept.specs.Orders.{arms_of as arms_for}
use Rattle.run_save_kept.proofs.Paths.{is_same, end_is, last_end}
use Rattle.run_save_kept.proofs.Sums.{sums_most}
use Rattle.run_save_apart.specs.Numbers.{NumbersApart, numbered}
use Rattle.run_save_trees.proofs.Firsts.{each_at_here}
use Rattle.run_save_spelled.specs.Growing.{number_of, path_of, flat, In, first_in, later_in, Sprouts}
use Rattle.run_save_spelled.proofs.Forests.{AllApart, each_in, each_weaker, reordered_in, reordered_each, reordered_sum, reordered_apart}
use Rattle.run_save_spelled.proofs.Growing.{onto}
use Rattle.run_save_spelled.proofs.Sprouting.{all_sprout}
use Rattle.run_save_twice.proofs.Linked.{IsOf, Along, along, each_along, found, nth_in}
use Rattle.run_save_twice.proofs.Only.{head_or, none_in, each_all, each_trees, in_tree, apart_tree, same_task, flat_sum, none_of, only}
use Rattle.run_save_twice.proofs.Only.{some_of, at_least}
use Rattle.run_save_twice.proofs.Only.{Weighs}
use Rattle.run_save_twice.proofs.Planted.{HasKin, kin_root, kin_part, Planted, none_planted, all_planted}
use Rattle.run_save_twice.proofs.Armed.{ChildOf, between, once, arm_is_child, later_is_arm}

-- ---- the list turned round

in_front : (x : Task) (before ys : List Task) → In x before → In x (onto before ys)
in_front x before [] i = i
in_front x before (y ∷ ys) i = in_front x (y ∷ before) ys (later_in y i)

in_onto : (x : Task) (before ys : List Task) → In x ys → In x (onto before ys)
in_onto x before [] i = none_in x i
in_onto x before (y ∷ ys) i = by (head_or x y ys i) (in_onto x (y ∷ before) ys)
  where
    by : (x ≡ y) ⊎ In x ys → (In x ys → In x (onto (y ∷ before) ys)) → In x (onto (y ∷ before) ys)
    by (inl e) r = in_front x (y ∷ before) ys (subst (λ z. In x (z ∷ before)) e first_in)
    by (inr j) r = r j

onto_in : (x : Task) (before ys : List Task) → In x (onto before ys) → In x before ⊎ In x ys
onto_in x before [] i = inl i
onto_in x before (y ∷ ys) i = elim (onto_in x (y ∷ before) ys i) [
  | inl j ↦ elim (head_or x y before j) [ inl e ↦ inr (subst (λ z. In x (z ∷ ys)) e first_in) | inr l ↦ inl l ]
  | inr j ↦ inr (later_in y j)
]

onto_sum : (f : Task → ℕ) (before ys : List Task) → tasks_sum f (onto before ys) ≡ tasks_sum f before + tasks_sum f ys
onto_sum f before [] = omega arith
onto_sum f before (y ∷ ys) = let a = onto_sum f (y ∷ before) ys in omega (arith, a)

-- ---- numbers fall

later_less : (y : Task) (before ys : List Task) → In y before → Sprouts before ys → Each (λ z. number_of z < number_of y) ys
later_less y before [] i s = tt
later_less y before (z ∷ zs) i s = (
  each_in (λ w. number_of z < number_of w) y before s.1 i,
  later_less y (z ∷ before) zs (later_in z i) s.2,
)

apart_of : (before ys : List Task) → Sprouts before ys → AllApart ys
apart_of before [] s = tt
apart_of before (y ∷ ys) s = (
  each_weaker (λ z. number_of z < number_of y) (λ z. number_of z ≡ number_of y → ⊥) ys (λ z l e. omega (arith, l, e))
      (later_less y (y ∷ before) ys first_in s.2),
  apart_of (y ∷ before) ys s.2,
)

nth_apart : (xs : List Task) (p q : ℕ) (x y : Task) → AllApart xs → nth xs p ≡ Some x → nth xs q ≡ Some y → number_of x ≡ number_of y →
    p ≡ q
nth_apart [] p q x y a e f h = absurd (cc)
nth_apart (z ∷ zs) zero zero x y a e f h = refl
nth_apart (z ∷ zs) zero (suc q) x y a e f h =
    let same : z ≡ x = cc in
    absurd (each_in (λ u. number_of u ≡ number_of z → ⊥) y zs a.0 (nth_in zs q y f) (sym h ∙ ap number_of (sym same)))
nth_apart (z ∷ zs) (suc p) zero x y a e f h =
    let same : z ≡ y = cc in
    absurd (each_in (λ u. number_of u ≡ number_of z → ⊥) x zs a.0 (nth_in zs p x e) (h ∙ ap number_of (sym same)))
nth_apart (z ∷ zs) (suc p) (suc q) x y a e f h = ap suc (nth_apart zs p q x y a.1 e f h)

-- ---- tests

is_one : (b : Bool) → 1 ≤ one b → b ≡ true
is_one true l = refl
is_one false l = absurd (omega (arith, l))

in_gathered : (c : Code) (b : List ℕ → List Part → ℕ) (path : List ℕ) (st : Stand) (gs : List Part) →
    in_group b path (gathered c st gs) ≡ b path gs
in_gathered c b path calls gs = refl
in_gathered c b path sleeps gs = refl
in_gathered c b path stays gs = refl
in_gathered c b path awaits_task gs = refl
in_gathered c b path awaits_event gs = refl
in_gathered c b path (gathers i m p) gs = refl
in_gathered c b path goes_on gs = refl

module _ (c : Code) (s : Kept) (fits : Fits c s) where
  abbrev ys : List Task
  ys = tasks_from c s [] s.tasks

  abbrev back : List Task
  back = onto [] ys

  -- a task that is spelled, with the one that is kept
  record Kin (y : Task) : Type 0 where
    pub before : List KeptTask
    pub it : KeptTask
    pub behind : List KeptTask
    pub is : IsOf c s ys before it behind y

  each_kin : Each Kin ys
  each_kin = each_along c s ys Kin (λ before t ts y o. record { before = before; it = t; behind = ts; is = o }) [] s.tasks ys (along c s
      fits)

  each_above : Each (λ z. s.left ≤ number_of z) ys
  each_above = each_along c s ys (λ z. s.left ≤ number_of z) (λ before t ts y o. let e = o.number in omega (arith, e)) [] s.tasks ys (along
      c s fits)

  pub planted : Planted s.left back (trees c s)
  planted = all_planted s.left [] [] ys each_above (none_planted s.left) (all_sprout c s fits)

  in_ys : (x : Task) → In x back → In x ys
  in_ys x i = elim (onto_in x [] ys i) [ inl j ↦ none_in x j | inr j ↦ j ]

  -- what holds of each holds of each in the trees
  pub in_trees : (P : Task → Type 0) → Each P ys → Each (λ ts. Each P ts) (trees c s)
  in_trees P a = each_trees P (trees c s) (reordered_each P back (flat (trees c s)) planted.holds.reordered
      (each_all P back (λ x i. each_in P x ys a (in_ys x i))))

  back_sum : (f : Task → ℕ) → trees_sum f (trees c s) ≡ tasks_sum f back
  back_sum f = flat_sum f (trees c s) ∙ sym (reordered_sum f (tasks_sum f) refl (λ x xs. refl) back (flat (trees c s))
      planted.holds.reordered)

  pub sum : (f : Task → ℕ) → trees_sum f (trees c s) ≡ tasks_sum f ys
  sum f = let a = back_sum f in let b = onto_sum f [] ys in omega (arith, a, b)

  who_is : (x : Task) → In x back → WhoIs x.thread.who
  who_is x i = each_in (λ (z : Task). WhoIs z.thread.who) x back planted.named i

  pub each_named : Each (λ (z : Task). WhoIs z.thread.who) ys
  each_named = each_all (λ (z : Task). WhoIs z.thread.who) ys (λ x i. who_is x (in_onto x [] ys i))

  path_is : (x : Task) → In x back → path_of x ≡ x.thread.who.up ++ number_of x ∷ []
  path_is x i = each_in (λ y. path_of y ≡ y.thread.who.up ++ number_of y ∷ []) x back planted.holds.names i

  last_is : (x : Task) → In x back → last (path_of x) ≡ number_of x
  last_is x i = ap last (path_is x i) ∙ last_end x.thread.who.up (number_of x)

  same_number : (x y : Task) → In x back → In y back → path_of x ≡ path_of y → number_of x ≡ number_of y
  same_number x y i j e = sym (last_is x i) ∙ (ap last e ∙ last_is y j)

  has_path : (x : Task) → In x back → IsSome (path_of x)
  has_path x i = role_some x.thread.who.role x.thread.who (who_is x i)

  -- ---- names

  named_most : (p : List ℕ) → tasks_sum (is_named p) back ≤ one (ltn s.left (suc (last p)))
  named_most p = only (is_named p) (one (ltn s.left (suc (last p)))) (last p) back planted.holds.apart most same
    where
      same : (x : Task) → In x back → 1 ≤ is_named p x → number_of x ≡ last p
      same x i l = sym (last_is x i) ∙ ap last (sym (same_is p (path_of x) (is_one (same_path p (path_of x)) l)))

      most : (x : Task) → In x back → is_named p x ≤ one (ltn s.left (suc (last p)))
      most x i = by (same_path p (path_of x)) refl
        where
          by : (b : Bool) → same_path p (path_of x) ≡ b → one b ≤ one (ltn s.left (suc (last p)))
          by true e =
              let a = each_in (λ z. s.left ≤ number_of z) x ys each_above (in_ys x i) in
              let n = last_is x i in
              let q = ap last (same_is p (path_of x) e) in
              let t = ap one (ltn_yes s.left (suc (last p)) (omega (arith, a, n, q))) in omega (arith, t)
          by false e = omega arith

  pub apart : NumbersApart (trees c s)
  apart n =
      let few = only (λ (y : Task). one (eqn n y.thread.who.number)) 1 n back planted.holds.apart
      (λ x i. one_most (eqn n (number_of x))) (λ x i l. sym (eqn_is n (number_of x) (is_one (eqn n (number_of x)) l))) in
      let all = trees_count (trees c s) in
      let is = back_sum (λ (y : Task). one (eqn n y.thread.who.number)) in omega (arith, few, all, is)
    where
      list_count : (ts : List Task) → count (λ (y : Task). eqn n y.thread.who.number) ts ≡ tasks_sum (λ (y : Task). one (eqn n
          y.thread.who.number)) ts
      list_count [] = refl
      list_count (t ∷ ts) = by (eqn n t.thread.who.number) (list_count ts)
        where
          by : (b : Bool) → count (λ (y : Task). eqn n y.thread.who.number) ts ≡ tasks_sum (λ (y : Task). one (eqn n y.thread.who.number))
              ts →
              cond b (suc (count (λ (y : Task). eqn n y.thread.who.number) ts)) (count (λ (y : Task). eqn n y.thread.who.number) ts) ≡
              one b + tasks_sum (λ (y : Task). one (eqn n y.thread.who.number)) ts
          by true e = omega (arith, e)
          by false e = omega (arith, e)

      trees_count : (tss : Forest) → numbered n tss ≡ trees_sum (λ (y : Task). one (eqn n y.thread.who.number)) tss
      trees_count [] = refl
      trees_count (ts ∷ tss) = let a = list_count ts in let b = trees_count tss in omega (arith, a, b)

  -- ---- a task and its children

  -- its child of a number
  record Child (y : Task) (n : ℕ) : Type 0 where
    pub task : Task
    pub is_in : In task ys
    pub up : task.thread.who.up ≡ path_of y
    pub number : number_of task ≡ n

  child_task : (y : Task) (o : Kin y) (n : ℕ) → ChildOf c s fits o.before o.it o.behind o.is.all n → Child y n
  child_task y o n a =
      let whole : s.tasks ≡ (o.before ++ o.it ∷ a.mid) ++ a.it ∷ a.behind =
      o.is.all ∙ (ap (λ xs. o.before ++ o.it ∷ xs) a.is ∙ sym (append_assoc o.before (o.it ∷ a.mid) (a.it ∷ a.behind))) in
      let f = found c s ys [] (o.before ++ o.it ∷ a.mid) a.it a.behind ys
      (subst (λ xs. Along c s ys [] xs ys) whole (along c s fits)) in
      let u = f.is.under (length o.before) a.parent in
      let same : u.0 ≡ y = some_same u.0 y (sym u.1 ∙ o.is.at) in
      record {
        task = f.task;
        is_in = nth_in ys (length (o.before ++ o.it ∷ a.mid)) f.task f.is.at;
        up = ap (λ (w : Who). w.up) u.2 ∙ ap path_of same;
        number = f.is.number ∙ a.number;
      }
    where
      some_same : (x z : Task) → Some x ≡ Some z → x ≡ z
      some_same x z e = cc

  child_kept : (y : Task) (o : Kin y) (n : ℕ) → In y back → Child y n → ChildOf c s fits o.before o.it o.behind o.is.all n
  child_kept y o n i a = by z.it.parent refl
    where
      z : Kin a.task
      z = each_in Kin a.task ys each_kin a.is_in

      within : (p : ℕ) → z.it.parent ≡ Some p → p < length z.before
      within p e =
          each_at_here ParentBefore 0 z.before z.it z.behind (subst (λ xs. EachAt ParentBefore 0 xs) z.is.all fits.parents) (length
          z.before)
          (omega arith) p e

      at : (p : ℕ) → z.it.parent ≡ Some p → p ≡ length o.before → ChildOf c s fits o.before o.it o.behind o.is.all n
      at p e same =
          let b = between o.before o.it o.behind z.before z.it z.behind (sym o.is.all ∙ z.is.all) (less p (length o.before) same (within p
          e)) in
          record {
            mid = b.mid;
            it = z.it;
            behind = z.behind;
            is = b.is;
            parent = e ∙ ap (λ q. Some q) same;
            number = sym z.is.number ∙ a.number;
          }
        where
          less : (p q : ℕ) → p ≡ q → p < length z.before → q < length z.before
          less p q e l = omega (arith, e, l)

      by : (p : Option ℕ) → z.it.parent ≡ p → ChildOf c s fits o.before o.it o.behind o.is.all n
      by None e =
          let none : path_of y ≡ [] = sym a.up ∙ ap (λ (w : Who). w.up) (z.is.own e) in absurd (subst IsSome none (has_path y i))
      by (Some p) e =
          let x = z.is.under p e in
          let path : path_of x.0 ≡ path_of y = sym (ap (λ (w : Who). w.up) x.2) ∙ a.up in
          let number = same_number x.0 y (in_onto x.0 [] ys (nth_in ys p x.0 x.1)) i path in
          at p e (nth_apart ys p (length o.before) x.0 y (apart_of [] ys (all_sprout c s fits)) x.1 o.is.at number)

  -- ---- groups

  -- a count of the parts of its group, whatever these are, is at most 1 where it is that of the arms that are kept
  module _ (y : Task) (o : Kin y) (b : List ℕ → List Part → ℕ) where
    group_count : (Q : ℕ → Type 0) → Q 0 →
        ((arms : List (Option Val)) → o.it.rest ≡ k.group arms →
        Q (b (path_of y) (parts_from c s (length o.before) o.it o.behind 0 arms))) →
        Q (in_group b (path_of y) y.rest)
    group_count Q none some = subst (λ r. Q (in_group b (path_of y) r)) (sym o.is.rest_is) (of o.it.rest refl)
      where
        of : (r : KeptRest) → o.it.rest ≡ r → Q (in_group b (path_of y) (rest c s (length o.before) o.it o.behind r))
        of (k.leaf number q) e = none
        of (k.group arms) e = subst Q (sym (in_gathered c b (path_of y) (task_stand c o.it) _)) (some arms e)

  -- a task awaits an arm at most once, and has it as a child
  awaits_most : (a : List ℕ) (n : ℕ) (y : Task) → Kin y → awaits a n y ≤ 1
  awaits_most a n y o =
      group_count y o (arms_for a n) (λ m. m ≤ 1) (omega arith) (λ arms e.
      by (same_path a (path_of y)) _ (once c s fits o.before o.it o.behind o.is.all arms e n))
    where
      by : (b : Bool) (m : ℕ) → m ≤ 1 → cond b m 0 ≤ 1
      by true m l = l
      by false m l = omega arith

  record Awaits (a : List ℕ) (n : ℕ) (y : Task) : Type 0 where
    pub path : a ≡ path_of y
    pub child : Child y n

  awaits_child : (a : List ℕ) (n : ℕ) (y : Task) → Kin y → 1 ≤ awaits a n y → Awaits a n y
  awaits_child a n y o =
      group_count y o (arms_for a n) (λ m. 1 ≤ m → Awaits a n y) (λ l. absurd (omega (arith, l))) (λ arms e.
      by (same_path a (path_of y)) refl _ (λ l. child_task y o n (arm_is_child c s fits o.before o.it o.behind o.is.all arms e n l)))
    where
      by : (b : Bool) → same_path a (path_of y) ≡ b → (m : ℕ) → (1 ≤ m → Child y n) → 1 ≤ cond b m 0 → Awaits a n y
      by true e m f l = record { path = same_is a (path_of y) e; child = f l }
      by false e m f l = absurd (omega (arith, l))

  abbrev skip_of : (a : List ℕ) (n m : ℕ) → Task → ℕ
  skip_of a n m y = in_group (skips a n m) (path_of y) y.rest

  skip_most : (a : List ℕ) (n m : ℕ) (y : Task) → Kin y → skip_of a n m y ≤ 1
  skip_most a n m y o =
      group_count y o (skips a n m) (λ i. i ≤ 1) (omega arith) (λ arms e.
      by (same_path a (path_of y)) (is_run m (parts_from c s (length o.before) o.it o.behind 0 arms)) _)
    where
      by : (p q r : Bool) → cond p (cond q (cond r 0 1) 0) 0 ≤ 1
      by true true true = omega arith
      by true true false = omega arith
      by true false r = omega arith
      by false q r = omega arith

  abbrev parts_of : (y : Task) → Kin y → List (Option Val) → List Part
  parts_of y o arms = parts_from c s (length o.before) o.it o.behind 0 arms

  record Skips (a : List ℕ) (n : ℕ) (y : Task) : Type 0 where
    pub path : a ≡ path_of y
    pub none : Child y n → ⊥

  skip_none : (a : List ℕ) (n m : ℕ) → n ≤ m → (y : Task) → In y back → Kin y → 1 ≤ skip_of a n m y → Skips a n y
  skip_none a n m le y i o =
      group_count y o (skips a n m) (λ j. 1 ≤ j → Skips a n y) (λ l. absurd (omega (arith, l))) (λ arms e.
      by arms e (same_path a (path_of y)) refl (is_run m (parts_of y o arms)) refl (is_run n (parts_of y o arms)) refl)
    where
      by : (arms : List (Option Val)) → o.it.rest ≡ k.group arms → (p : Bool) → same_path a (path_of y) ≡ p → (q : Bool) →
          is_run m (parts_of y o arms) ≡ q →
          (r : Bool) → is_run n (parts_of y o arms) ≡ r → 1 ≤ cond p (cond q (cond r 0 1) 0) 0 → Skips a n y
      by arms e true f true g true h l = absurd (omega (arith, l))
      by arms e true f true g false h l = record {
        path = same_is a (path_of y) f;
        none = λ child.
            let is = later_is_arm c s fits o.before o.it o.behind o.is.all arms e n m le g (child_kept y o n i child) in
            let no : true ≡ false = sym is ∙ h in absurd (cc);
      }
      by arms e true f false g r h l = absurd (omega (arith, l))
      by arms e false f q g r h l = absurd (omega (arith, l))

  kin_in : (y : Task) → In y back → Kin y
  kin_in y i = each_in Kin y ys each_kin (in_ys y i)

  -- ---- in each tree

  in_flat : (x : Task) → In x back → In x (flat (trees c s))
  in_flat x i = reordered_in x back (flat (trees c s)) planted.holds.reordered i

  flat_back : (x : Task) → In x (flat (trees c s)) → In x back
  flat_back x i = each_in (λ t. In t back) x (flat (trees c s)) (reordered_each (λ t. In t back) back (flat (trees c s))
      planted.holds.reordered (each_all (λ t. In t back) back (λ t j. j))) i

  flat_apart : AllApart (flat (trees c s))
  flat_apart = reordered_apart back (flat (trees c s)) planted.holds.reordered planted.holds.apart

  -- a child stands in the tree of its parent
  same_tree : (ts : List Task) → In ts (trees c s) → (t z : Task) → In t ts → In z back → z.thread.who.up ≡ path_of t → In z ts
  same_tree ts j t z i l e = by (each_in (HasKin back (trees c s)) z back planted.kin l)
    where
      here : In t (flat (trees c s))
      here = in_tree t ts (trees c s) i j

      by : HasKin back (trees c s) z → In z ts
      by (kin_root f) = absurd (subst IsSome (sym e ∙ f) (has_path t (flat_back t here)))
      by (kin_part x m f a) =
          let same = same_task (flat (trees c s)) x t flat_apart (in_flat x m) here (same_number x t m (flat_back t here) (f ∙ e)) in
          each_in (λ us. In x us → In z us) ts (trees c s) a j (subst (λ w. In w ts) (sym same) i)

  named_one : (p : List ℕ) (x : Task) → p ≡ path_of x → 1 ≤ is_named p x
  named_one p x e = of (same_path p (path_of x)) (is_same p (path_of x) e)
    where
      of : (b : Bool) → b ≡ true → 1 ≤ one b
      of true f = omega arith
      of false f = absurd (cc)

  arms_in_tree : (a : List ℕ) (n : ℕ) (ts : List Task) → In ts (trees c s) →
      tasks_sum (awaits a n) ts ≤ tasks_sum (is_named (a ++ n ∷ [])) ts
  arms_in_tree a n ts j = by (some_of (awaits a n) ts)
    where
      in_back_of : (t : Task) → In t ts → In t back
      in_back_of t i = flat_back t (in_tree t ts (trees c s) i j)

      most : tasks_sum (awaits a n) ts ≤ 1
      most = only (awaits a n) 1 (last a) ts (apart_tree ts (trees c s) flat_apart j) (λ t i. awaits_most a n t (kin_in t (in_back_of t i)))
          (λ t i l. sym (last_is t (in_back_of t i)) ∙ ap last (sym (awaits_child a n t (kin_in t (in_back_of t i)) l).path))

      by : (tasks_sum (awaits a n) ts ≡ 0) ⊎ Weighs (awaits a n) ts → tasks_sum (awaits a n) ts ≤ tasks_sum (is_named (a ++ n ∷ [])) ts
      by (inl e) = omega (arith, e)
      by (inr w) =
          let d = awaits_child a n w.task (kin_in w.task (in_back_of w.task w.is_in)) w.some in
          let z = d.child.task in
          let z_back = in_onto z [] ys d.child.is_in in
          let there = same_tree ts j w.task z w.is_in z_back d.child.up in
          let path : a ++ n ∷ [] ≡ path_of z =
          ap (λ p. p ++ n ∷ []) (d.path ∙ sym d.child.up) ∙ (ap (λ m. z.thread.who.up ++ m ∷ []) (sym d.child.number) ∙ sym (path_is z
          z_back)) in
          let l = at_least (is_named (a ++ n ∷ [])) z ts there in
          let o = named_one (a ++ n ∷ []) z path in
          let m = most in omega (arith, l, o, m)

  younger_all : (a : List ℕ) (n m : ℕ) → n ≤ m →
      tasks_sum (weight (λ path. one (same_path (a ++ n ∷ []) path)) (skips a n m)) back ≤ 1
  younger_all a n m le = by (some_of (skip_of a n m) back)
    where
      both : tasks_sum (weight (λ path. one (same_path (a ++ n ∷ []) path)) (skips a n m)) back ≤
          tasks_sum (skip_of a n m) back + tasks_sum (is_named (a ++ n ∷ [])) back
      both = sums_most (weight (λ path. one (same_path (a ++ n ∷ []) path)) (skips a n m)) (skip_of a n m) (is_named (a ++ n ∷ [])) (λ t.
          omega arith) back

      named_few : tasks_sum (is_named (a ++ n ∷ [])) back ≤ 1
      named_few = let l = named_most (a ++ n ∷ []) in let o = one_most (ltn s.left (suc (last (a ++ n ∷ [])))) in omega (arith, l, o)

      skip_few : tasks_sum (skip_of a n m) back ≤ 1
      skip_few = only (skip_of a n m) 1 (last a) back planted.holds.apart (λ t i. skip_most a n m t (kin_in t i))
          (λ t i l. sym (last_is t i) ∙ ap last (sym (skip_none a n m le t i (kin_in t i) l).path))

      none_named : (y : Task) → Skips a n y → (x : Task) → In x back → is_named (a ++ n ∷ []) x ≡ 0
      none_named y d x i = of (same_path (a ++ n ∷ []) (path_of x)) refl
        where
          of : (b : Bool) → same_path (a ++ n ∷ []) (path_of x) ≡ b → one b ≡ 0
          of true e =
              let parts = end_is x.thread.who.up a (number_of x) n (sym (path_is x i) ∙ sym (same_is (a ++ n ∷ []) (path_of x) e)) in
              absurd (d.none (record { task = x; is_in = in_ys x i; up = parts.0 ∙ d.path; number = parts.1 }))
          of false e = refl

      by : (tasks_sum (skip_of a n m) back ≡ 0) ⊎ Weighs (skip_of a n m) back →
          tasks_sum (weight (λ path. one (same_path (a ++ n ∷ []) path)) (skips a n m)) back ≤ 1
      by (inl e) = let b = both in let f = named_few in omega (arith, e, b, f)
      by (inr w) =
          let d = skip_none a n m le w.task w.is_in (kin_in w.task w.is_in) w.some in
          let z = none_of (is_named (a ++ n ∷ [])) back (none_named w.task d) in
          let b = both in let f = skip_few in omega (arith, z, b, f)

  -- ---- all

  above_back : Each (λ z. s.left ≤ number_of z) back
  above_back = each_all (λ z. s.left ≤ number_of z) back (λ x i. each_in (λ z. s.left ≤ number_of z) x ys each_above (in_ys x i))

  pub orderly : Orderly s.left (trees c s)
  orderly = record {
    lines = planted.lined s.left above_back;
    names = λ p. let e = back_sum (is_named p) in let l = named_most p in omega (arith, e, l);
    arms = λ a some n. each_all (λ ts. tasks_sum (awaits a n) ts ≤ tasks_sum (is_named (a ++ n ∷ [])) ts) (trees c s) (arms_in_tree a n);
    younger = λ a some n m le.
        let e = back_sum (weight (λ path. one (same_path (a ++ n ∷ []) path)) (skips a n m)) in
        let l = younger_all a n m le in omega (arith, e, l);
  }
