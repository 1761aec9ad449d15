-- The table of the tasks that are kept and those that are spelled, with the pairs of numbers beneath them.
use Rattle.std.proofs.Common.{◌≡◌, ℕ, zero, suc, ◌+◌, ◌≤◌, length, List, [], ◌∷◌, ◌++◌, Some, None, Bool, true, false}
use Rattle.std.proofs.Common.{cond, refl, sym}
use Rattle.std.proofs.Common.{subst, ap, ◌∙◌, arith}
use mathlib.Core.Logic.{inl, inr}
use Rattle.std.proofs.lemmas.Option.{same_Some}
use Rattle.task_tree.specs.Tasks.{is_child}
use Rattle.verse_code.specs.declared.codes.Code.{Code}
use Rattle.verse_meaning_state.specs.Waits.{nth}
use Rattle.verse_code_machine.specs.Tasks.{Task, same_path}
use Rattle.verse_code_machine.proofs.Paths.{same_self}
use Rattle.verse_code_machine_saved.specs.Numbers.{Pairs, Rising, NoneBelow}
use Rattle.verse_code_machine_saved.specs.Pairing.{Entry, IsAlone, AreDistinct, AreOrdered}
use Rattle.run_save_shots.specs.Lists.{Each, EachTwo, from}
use Rattle.run_save_shots.specs.Kept.{Kept}
use Rattle.run_save_shots.specs.Keeping.{place_of}
use Rattle.run_save_shots.proofs.Lists.{each_join, two_join}
use Rattle.run_save_fits.specs.Held.{IsSome, tasks_sum, one}
use Rattle.run_save_kept.specs.Orders.{is_named}
use Rattle.run_save_births.specs.Births as b
use Rattle.run_save_births.specs.Births.{births_of}
use Rattle.run_save_orders.specs.Roots.{with_roots}
use Rattle.run_save_same.proofs.Sorting.{Aligned, IsAbove, In, sorted, sorted_rises, sorted_above}
use Rattle.run_save_same.proofs.Spelt.{kept_of, number_of, births_made, IsSpelt, Spelt}
use Rattle.run_save_same.proofs.Depths.{frames_of}
use Rattle.run_save_same.proofs.Aligning.{is_its, zipped, children, Falls, Kid, zipped_two, zipped_from, made_rises}
use Rattle.run_save_same.proofs.Aligning.{born_above}
use Rattle.run_save_same.proofs.Aligning.{children_two, children_from, frames_kids}

-- a task without a parent
abbrev pub is_own : List Task → Task → Bool
is_own ys z = is_child None (place_of z.thread.who.up ys)

module _ (ys : List Task) where
  -- the pairs beneath the task at a place, before those that were kept behind it
  abbrev pub pairs_of : ℕ → Task → List Task → Task → List Task → Pairs
  pairs_of at y zs u vs = zipped (births_of y.thread) (births_of u.thread) ++ children (is_its ys at) zs vs

  abbrev pub entry_of : ℕ → Task → List Task → Task → List Task → Entry
  entry_of at y zs u vs =
      record { path = y.thread.who.path; other = u.thread.who.path; pairs = sorted (pairs_of at y zs u vs) }

  abbrev pub entries : ℕ → List Task → List Task → List Entry
  entries at [] vs = []
  entries at (y ∷ zs) [] = []
  entries at (y ∷ zs) (u ∷ vs) = entry_of at y zs u vs ∷ entries (suc at) zs vs

  -- those without a parent are beneath no task
  abbrev pub table : List Task → List Entry
  table us = with_roots (children (is_own ys) ys us) (entries 0 ys us)

-- ---- no two entries have one path

abbrev NoneNamed : List ℕ → List Task → Type 0
NoneNamed p [] = Unit {0}
NoneNamed p (z ∷ zs) = (same_path p z.thread.who.path ≡ false) × NoneNamed p zs

no_test : (b : Bool) (n : ℕ) → one b + n ≤ 0 → (b ≡ false) × (n ≤ 0)
no_test true n h = absurd (omega (arith, h))
no_test false n h = (refl, omega (arith, h))

none_named : (p : List ℕ) (zs : List Task) → tasks_sum (is_named p) zs ≤ 0 → NoneNamed p zs
none_named p [] h = tt
none_named p (z ∷ zs) h = let a = no_test (same_path p z.thread.who.path) (tasks_sum (is_named p) zs) h in
    (a.0, none_named p zs a.1)

rest_unnamed : (z : Task) (zs : List Task) → tasks_sum (is_named z.thread.who.path) (z ∷ zs) ≤ 1 →
    NoneNamed z.thread.who.path zs
rest_unnamed z zs h =
    none_named z.thread.who.path zs
    (less (one (same_path z.thread.who.path z.thread.who.path)) (tasks_sum (is_named z.thread.who.path) zs)
    (ap one (same_self z.thread.who.path)) h)
  where
    less : (i j : ℕ) → i ≡ 1 → i + j ≤ 1 → j ≤ 0
    less i j e h = omega (arith, e, h)

rest_unique : (z : Task) (zs : List Task) → ((p : List ℕ) → tasks_sum (is_named p) (z ∷ zs) ≤ 1) → (p : List ℕ) →
    tasks_sum (is_named p) zs ≤ 1
rest_unique z zs f p = less (one (same_path p z.thread.who.path)) (tasks_sum (is_named p) zs) (f p)
  where
    less : (i j : ℕ) → i + j ≤ 1 → j ≤ 1
    less i j h = omega (arith, h)

-- no two tasks have one path
abbrev pub Apart : Task → Task → Type 0
Apart z w = same_path z.thread.who.path w.thread.who.path ≡ false

pub names_apart : (zs : List Task) → ((p : List ℕ) → tasks_sum (is_named p) zs ≤ 1) → EachTwo Apart zs
names_apart [] f = tt
names_apart (z ∷ zs) f = (row zs (rest_unnamed z zs (f z.thread.who.path)), names_apart zs (rest_unique z zs f))
  where
    row : (us : List Task) → NoneNamed z.thread.who.path us → Each (Apart z) us
    row [] a = tt
    row (u ∷ us) a = (a.0, row us a.1)

module _ (ys : List Task) where
  alone_among : (e : Entry) (at : ℕ) (zs vs : List Task) → NoneNamed e.path zs → NoneNamed e.other vs →
      IsAlone e (entries ys at zs vs)
  alone_among e at [] vs a b = tt
  alone_among e at (z ∷ zs) [] a b = tt
  alone_among e at (z ∷ zs) (v ∷ vs) a b = (a.0, b.0, alone_among e (suc at) zs vs a.1 b.1)

  entries_distinct : (at : ℕ) (zs vs : List Task) → ((p : List ℕ) → tasks_sum (is_named p) zs ≤ 1) →
      ((p : List ℕ) → tasks_sum (is_named p) vs ≤ 1) →
      AreDistinct (entries ys at zs vs)
  entries_distinct at [] vs f g = tt
  entries_distinct at (z ∷ zs) [] f g = tt
  entries_distinct at (z ∷ zs) (v ∷ vs) f g = (
    alone_among (entry_of ys at z zs v vs) (suc at) zs vs (rest_unnamed z zs (f z.thread.who.path))
        (rest_unnamed v vs (g v.thread.who.path)),
    entries_distinct (suc at) zs vs (rest_unique z zs f) (rest_unique v vs g),
  )

  some_named : (zs : List Task) → Each (λ (z : Task). IsSome z.thread.who.path) zs → NoneNamed [] zs
  some_named [] a = tt
  some_named (z ∷ zs) a = (not_empty z.thread.who.path a.0, some_named zs a.1)
    where
      not_empty : (p : List ℕ) → IsSome p → same_path [] p ≡ false
      not_empty [] h = absurd h
      not_empty (i ∷ p) h = refl

  pub table_distinct : (us : List Task) → ((p : List ℕ) → tasks_sum (is_named p) ys ≤ 1) →
      ((p : List ℕ) → tasks_sum (is_named p) us ≤ 1) →
      Each (λ (z : Task). IsSome z.thread.who.path) ys → Each (λ (z : Task). IsSome z.thread.who.path) us →
      AreDistinct (table ys us)
  table_distinct us f g a b = (
    alone_among (record { path = []; other = []; pairs = children (is_own ys) ys us }) 0 ys us
        (some_named ys a) (some_named us b),
    entries_distinct 0 ys us f g,
  )

-- ---- in one order

module _ (c : Code) (x : Kept) (ys : List Task) where
  -- what is known of the task at a place and of those behind it
  pub record Facts (at : ℕ) (y : Task) (zs : List Task) : Type 0 where
    pub rises : b.Rising x.left (births_of y.thread)
    pub few : length (frames_of y) ≤ x.spent
    pub kids : Each (Kid c x ys at (frames_of y)) zs
    pub falls : EachTwo (Falls (is_its ys at)) zs
    pub above : Each (λ (z : Task). x.left ≤ z.thread.who.number) zs

  abbrev pub AllFacts : ℕ → List Task → Type 0
  AllFacts at [] = Unit {0}
  AllFacts at (y ∷ zs) = Facts at y zs × AllFacts (suc at) zs

  module _ (at : ℕ) (y : Task) (zs : List Task) (u : Task) (vs : List Task) (f : Facts at y zs)
      (here : IsSpelt c x ys at y zs u)
      (rest : Spelt c x ys (suc at) zs vs) where
    abbrev Made : List ℕ
    Made = births_made c x ys at (kept_of c x ys (y ∷ zs)) (kept_of c x ys zs) 1 (suc (length y.thread.below))

    few_steps : (n s : ℕ) → n ≤ s → 1 + n ≤ suc (suc s)
    few_steps n s h = omega (arith, h)

    rises : b.Rising x.left Made
    rises = made_rises c x ys at y zs x.left 1 (suc (length y.thread.below)) (λ j e. born_above c x ys at y zs 1 j)
        (few_steps (suc (length y.thread.below))
        x.spent f.few)

    aligned : EachTwo Aligned (pairs_of ys at y zs u vs)
    aligned = subst (λ ms. EachTwo Aligned (zipped (births_of y.thread) ms ++ children (is_its ys at) zs vs))
        (sym here.births) (two_join Aligned (zipped
        (births_of y.thread) Made) (children (is_its ys at) zs vs)
        (zipped_two x.left x.left (births_of y.thread) Made f.rises rises) (children_two c x ys
        (is_its ys at) (suc at) zs vs rest f.falls)
        (frames_kids c x ys at y zs vs rest f.falls 1 (frames_of y) (omega arith) (few_steps (suc (length
        y.thread.below)) x.spent f.few) f.kids))

    above : Each (IsAbove x.left) (pairs_of ys at y zs u vs)
    above = subst (λ ms. Each (IsAbove x.left) (zipped (births_of y.thread) ms ++ children (is_its ys at) zs vs))
        (sym here.births) (each_join (IsAbove
        x.left) (zipped (births_of y.thread) Made) (children (is_its ys at) zs vs)
        (zipped_from x.left x.left x.left (births_of y.thread) Made (omega arith)
        (omega arith) f.rises rises)
        (children_from c x ys (is_its ys at) (suc at) x.left zs vs (omega arith) rest f.above))

    pub entry_rises : Rising (sorted (pairs_of ys at y zs u vs))
    entry_rises = sorted_rises (pairs_of ys at y zs u vs) aligned

    pub entry_above : NoneBelow x.left (sorted (pairs_of ys at y zs u vs))
    entry_above = sorted_above x.left (pairs_of ys at y zs u vs) above

  pub entries_ordered : (at : ℕ) (zs vs : List Task) → AllFacts at zs → Spelt c x ys at zs vs →
      AreOrdered x.left (entries ys at zs vs)
  entries_ordered at [] vs f s = tt
  entries_ordered at (y ∷ zs) [] f s = tt
  entries_ordered at (y ∷ zs) (u ∷ vs) f s = (
    entry_rises at y zs u vs f.0 s.0 s.1,
    entry_above at y zs u vs f.0 s.0 s.1,
    entries_ordered (suc at) zs vs f.1 s.1,
  )

  -- ---- the entry at a place

  -- behind it the tasks that follow
  pub record Here (at p : ℕ) (y u : Task) (zs vs : List Task) : Type 0 where
    pub behind : List Task
    pub others : List Task
    pub place : ℕ
    pub place_is : place ≡ at + p
    pub size : p + suc (length behind) ≡ length zs
    pub is : nth (entries ys at zs vs) p ≡ Some (entry_of ys place y behind u others)
    pub here : IsSpelt c x ys place y behind u
    pub rest : Spelt c x ys (suc place) behind others
    pub own : (k j : ℕ) (z : Task) → j ≡ suc (p + k) → nth zs j ≡ Some z → nth behind k ≡ Some z
    pub their : (k j : ℕ) (z : Task) → j ≡ suc (p + k) → nth vs j ≡ Some z → nth others k ≡ Some z

  none_some : {A B : Type 0} {a : A} → None ≡ Some a → B
  none_some e = cc

  next_at : (z : Task) (zs : List Task) (k j : ℕ) (w : Task) → j ≡ suc (0 + k) → nth (z ∷ zs) j ≡ Some w →
      nth zs k ≡ Some w
  next_at z zs k zero w e f = absurd (omega (arith, e))
  next_at z zs k (suc j) w e f = subst (λ i. nth zs i ≡ Some w) (same j k e) f
    where
      same : (j k : ℕ) → suc j ≡ suc (0 + k) → j ≡ k
      same j k e = omega (arith, e)

  later_at : (z : Task) (zs : List Task) (p k j : ℕ) (w : Task) → j ≡ suc (suc p + k) → nth (z ∷ zs) j ≡ Some w →
      (i : ℕ) × (i ≡ suc (p + k)) × (nth zs i ≡ Some w)
  later_at z zs p k zero w e f = absurd (omega (arith, e))
  later_at z zs p k (suc j) w e f = (j, omega (arith, e), f)

  pub here_at : (at p : ℕ) (zs vs : List Task) → Spelt c x ys at zs vs → (y u : Task) → nth zs p ≡ Some y →
      nth vs p ≡ Some u → Here at p y u zs vs
  here_at at p [] vs s y u e f = none_some e
  here_at at p (z ∷ zs) [] s y u e f = absurd s
  here_at at zero (z ∷ zs) (v ∷ vs) s y u e f =
      subst (λ w. Here at 0 w u (z ∷ zs) (v ∷ vs)) (same_Some _ _ e) (subst (λ w. Here at 0 z w (z ∷ zs) (v ∷ vs))
      (same_Some _ _ f) (record {
        behind = zs;
        others = vs;
        place = at;
        place_is = none at;
        size = whole (length zs);
        is = refl;
        here = s.0;
        rest = s.1;
        own = λ k j w. next_at z zs k j w;
        their = λ k j w. next_at v vs k j w;
      }))
    where
      none : (i : ℕ) → i ≡ i + 0
      none i = omega arith

      whole : (n : ℕ) → 0 + suc n ≡ suc n
      whole n = omega arith
  here_at at (suc p) (z ∷ zs) (v ∷ vs) s y u e f = let h = here_at (suc at) p zs vs s.1 y u e f in record {
    behind = h.behind;
    others = h.others;
    place = h.place;
    place_is = h.place_is ∙ sums at p;
    size = one_more p (length h.behind) (length zs) h.size;
    is = h.is;
    here = h.here;
    rest = h.rest;
    own = λ k j w d g. let i = later_at z zs p k j w d g in h.own k i.0 w i.1 i.2;
    their = λ k j w d g. let i = later_at v vs p k j w d g in h.their k i.0 w i.1 i.2;
  }
    where
      sums : (at p : ℕ) → suc at + p ≡ at + suc p
      sums at p = omega arith

      one_more : (p n m : ℕ) → p + suc n ≡ m → suc p + suc n ≡ suc m
      one_more p n m e = omega (arith, e)

  -- ---- a child's pair

  in_cond : (b : Bool) (q r : ℕ × ℕ) (ps : Pairs) → In q ps → In q (cond b (r ∷ ps) ps)
  in_cond true q r ps h = inr h
  in_cond false q r ps h = h

  in_first : (b : Bool) (q : ℕ × ℕ) (ps : Pairs) → b ≡ true → In q (cond b (q ∷ ps) ps)
  in_first true q ps e = inl refl
  in_first false q ps e = absurd (cc)

  pub child_in : (test : Task → Bool) (zs vs : List Task) (k : ℕ) (z v : Task) → nth zs k ≡ Some z →
      nth vs k ≡ Some v → test z ≡ true →
      In (z.thread.who.number, v.thread.who.number) (children test zs vs)
  child_in test [] vs k z v e f t = none_some e
  child_in test (w ∷ zs) [] k z v e f t = none_some f
  child_in test (w ∷ zs) (u ∷ vs) zero z v e f t =
      subst (λ (a : Task). In (a.thread.who.number, v.thread.who.number) (children test (w ∷ zs) (u ∷ vs)))
      (same_Some _ _ e) (subst (λ (a : Task). In (w.thread.who.number, a.thread.who.number)
      (children test (w ∷ zs) (u ∷ vs))) (same_Some _ _ f) (in_first (test w)
      (w.thread.who.number, u.thread.who.number) (children test zs vs)
      (subst (λ a. test a ≡ true) (sym (same_Some _ _ e)) t)))
  child_in test (w ∷ zs) (u ∷ vs) (suc k) z v e f t =
      in_cond (test w) (z.thread.who.number, v.thread.who.number) (w.thread.who.number, u.thread.who.number)
      (children test zs vs) (child_in test zs vs k z v e f t)

  -- the first that passes another test, which only those of this one pass
  pub first_in : (one test : Task → Bool) → ((z : Task) → one z ≡ true → test z ≡ true) →
      (at : ℕ) (zs vs : List Task) → Spelt c x ys at zs vs → (k : ℕ)
      (z : Task) → nth zs k ≡ Some z → one z ≡ true →
      (w : Task) × (one w ≡ true) × In (w.thread.who.number, number_of c x ys (length (from one zs)))
      (children test zs vs)
  first_in one test so at [] vs s k z e t = none_some e
  first_in one test so at (y ∷ zs) [] s k z e t = absurd s
  first_in one test so at (y ∷ zs) (u ∷ vs) s k z e t =
      by_test (one y) refl (λ i f. first_in one test so (suc at) zs vs s.1 i z f t)
    where
      by_test : (b : Bool) → one y ≡ b → ((i : ℕ) → nth zs i ≡ Some z → (w : Task) × (one w ≡ true) × In (
        w.thread.who.number,
        number_of c x ys (length (from
            one zs)),
      ) (children test zs vs)) →
          (w : Task) × (one w ≡ true) × In
          (w.thread.who.number, number_of c x ys (length (cond b (y ∷ zs) (from one zs))))
          (children test (y ∷ zs) (u ∷ vs))
      by_test true g r = (
        y,
        g,
        subst (λ n. In (y.thread.who.number, n) (children test (y ∷ zs) (u ∷ vs))) s.0.number (in_first (test y) (
          y.thread.who.number,
          u.thread.who.number,
        ) (children test zs vs) (so y g)),
      )
      by_test false g r = later k e
        where
          clash : {A : Type 0} (b : Bool) → b ≡ true → b ≡ false → A
          clash true e f = absurd (cc)
          clash false e f = absurd (cc)

          later : (k : ℕ) → nth (y ∷ zs) k ≡ Some z →
              (w : Task) × (one w ≡ true) × In (w.thread.who.number, number_of c x ys (length (from one zs)))
              (children test (y ∷ zs) (u ∷ vs))
          later zero f = clash (one z) t (subst (λ a. one a ≡ false) (same_Some _ _ f) g)
          later (suc k) f = let h = r k f in (
            h.0,
            h.1,
            in_cond (test y) (h.0.thread.who.number, number_of c x ys (length (from one zs)))
                (y.thread.who.number, u.thread.who.number)
                (children test zs vs) h.2,
          )
