-- The trees of tasks, planted task by task in the order in which they are kept, are the trees again.
use Rattle.std.proofs.Common.{◌≡◌, ℕ, suc, ◌+◌, ◌≤◌, ◌<◌, length, map, List, [], ◌∷◌, ◌++◌, Bool, true, false, cond, refl, sym, subst, ap}
use Rattle.std.proofs.Common.{◌∙◌}
use Rattle.std.proofs.Common.{arith, ◌⊎◌}
use mathlib.Core.Logic.{inl, inr}
use Rattle.verse_code_machine.specs.Tasks.{Role, root, part, Who, Task, same_path}
use Rattle.verse_code_machine.specs.Runs.{Forest}
use Rattle.verse_code_machine_parents.specs.Parents.{whos, HasParent, here, later, Rooted, rooted_root, rooted_part}
use Rattle.verse_code_machine_parents.proofs.Lists.{rooted_tail}
use Rattle.run_save_shots.specs.Lists.{Each}
use Rattle.run_save_shots.specs.Keeping.{behind_parent, walked, walk}
use Rattle.run_save_shots.specs.Spelling.{before_parent, planted, grown}
use Rattle.run_save_fits.specs.Held.{IsSome, RoleIs, WhoIs, tasks_sum, trees_sum, one}
use Rattle.run_save_kept.specs.Orders.{Before, StandsBefore, Lined, last, is_named}
use Rattle.run_save_kept.specs.Growing.{filled, TreesGrowAgain}
use Rattle.run_save_kept.proofs.Paths.{is_same, not_same}
use Rattle.run_save_kept.proofs.Sums.{one_tree}
use Rattle.run_save_kept.proofs.Siblings.{Named, HasOwn, walked_parents}
use Rattle.run_save_fits.proofs.Holding.{end_some}
use Rattle.verse_meaning_state.specs.Waits.{ltn}
use Rattle.std.specs.Prelude.{Option}
use Rattle.std.proofs.lemmas.Bool.{cases_Bool}
use Rattle.verse_base.proofs.Facts.{clash, length_more}
use Rattle.verse_code_machine.proofs.Paths.{same_is}
use Rattle.run_save_shots.proofs.Lists.{all_as}
use Rattle.run_save_fits.proofs.KeptAll.{walked_each, walked_sum, each_rooted}
use Rattle.run_save_fits.proofs.Counted.{one_most}

-- ---- paths

-- the second path goes on from the first
abbrev Beneath : List ℕ → List ℕ → Type 0
Beneath [] x = IsSome x
Beneath (i ∷ a) [] = ⊥
Beneath (i ∷ a) (j ∷ x) = (i ≡ j) × Beneath a x

-- what stands behind a task and before its parent is beneath that parent
between : (a : List ℕ) (n : ℕ) (x : List ℕ) → Before (a ++ n ∷ []) x → Before x a → Beneath a x
between [] n [] b d = absurd d
between [] n (j ∷ x) b d = tt
between (i ∷ a) n [] b d = absurd d
between (i ∷ a) n (j ∷ x) (inl e) (inl f) = absurd (never i j e f)
  where
    never : (i j : ℕ) → j < i → i < j → ⊥
    never i j e f = omega (arith, e, f)
between (i ∷ a) n (j ∷ x) (inl e) (inr f) = absurd (never i j e f.0)
  where
    never : (i j : ℕ) → j < i → j ≡ i → ⊥
    never i j e f = omega (arith, e, f)
between (i ∷ a) n (j ∷ x) (inr e) (inl f) = absurd (never i j e.0 f)
  where
    never : (i j : ℕ) → i ≡ j → i < j → ⊥
    never i j e f = omega (arith, e, f)
between (i ∷ a) n (j ∷ x) (inr e) (inr f) = (e.0, between a n x e.1 f.1)

beneath_longer : (a x : List ℕ) → Beneath a x → length a < length x
beneath_longer [] [] b = absurd b
beneath_longer [] (j ∷ x) b = omega arith
beneath_longer (i ∷ a) [] b = absurd b
beneath_longer (i ∷ a) (j ∷ x) b = let h = beneath_longer a x b.1 in omega (arith, h)

-- no child stands behind its parent
no_child : (a : List ℕ) (n : ℕ) → Before a (a ++ n ∷ []) → ⊥
no_child [] n b = b
no_child (i ∷ a) n (inl e) = never i e
  where
    never : (i : ℕ) → i < i → ⊥
    never i e = omega (arith, e)
no_child (i ∷ a) n (inr e) = no_child a n e.1

-- a path beneath another, or the other, by its last number
beneath_end : (a u : List ℕ) (n : ℕ) → Beneath a (u ++ n ∷ []) → (a ≡ u) ⊎ Beneath a u
beneath_end [] [] n b = inl refl
beneath_end [] (j ∷ u) n b = inr tt
beneath_end (i ∷ a) [] n b = absurd (none a b.1)
  where
    none : (a : List ℕ) → Beneath a [] → ⊥
    none [] b = b
    none (i ∷ a) b = b
beneath_end (i ∷ a) (j ∷ u) n b = onwards (beneath_end a u n b.1)
  where
    both : a ≡ u → i ≡ j → i ∷ a ≡ j ∷ u
    both e f = cc

    onwards : (a ≡ u) ⊎ Beneath a u → (i ∷ a ≡ j ∷ u) ⊎ Beneath (i ∷ a) (j ∷ u)
    onwards (inl e) = inl (both e b.0)
    onwards (inr h) = inr (b.0, h)

end_beneath : (u : List ℕ) (n : ℕ) → Beneath u (u ++ n ∷ [])
end_beneath [] n = tt
end_beneath (i ∷ u) n = (refl, end_beneath u n)

beneath_on : (a b x : List ℕ) → Beneath a b → Beneath b x → Beneath a x
beneath_on [] b [] d e = none b e
  where
    none : (b : List ℕ) → Beneath b [] → ⊥
    none [] e = e
    none (i ∷ b) e = e
beneath_on [] b (j ∷ x) d e = tt
beneath_on (i ∷ a) [] x d e = absurd d
beneath_on (i ∷ a) (k ∷ b) [] d e = absurd e
beneath_on (i ∷ a) (k ∷ b) (j ∷ x) d e = (d.0 ∙ e.0, beneath_on a b x d.1 e.1)

-- of two that enclose a third, the shorter one encloses the other, or they are one
deeper : (a b x : List ℕ) → Beneath a x → Beneath b x → length a ≤ length b → (b ≡ a → ⊥) → Beneath a b
deeper [] [] x d e f g = absurd (g refl)
deeper [] (k ∷ b) x d e f g = tt
deeper (i ∷ a) [] x d e f g = absurd (never (length a) f)
  where
    never : (n : ℕ) → suc n ≤ 0 → ⊥
    never n e = omega (arith, e)
deeper (i ∷ a) (k ∷ b) [] d e f g = absurd d
deeper (i ∷ a) (k ∷ b) (j ∷ x) d e f g = (
  d.0 ∙ sym e.0,
  deeper a b x d.1 e.1 (less (length a) (length b) f) (λ h. g (both (sym (d.0 ∙ sym e.0)) h)),
)
  where
    less : (n m : ℕ) → suc n ≤ suc m → n ≤ m
    less n m e = omega (arith, e)

    both : k ≡ i → b ≡ a → k ∷ b ≡ i ∷ a
    both e f = cc

-- ---- down to a task

-- each task is the child of the one before, down to that of the path
abbrev Down : (a before : List ℕ) → List Task → Type 0
Down a q [] = ⊥
Down a q (x ∷ xs) = (x.thread.who.up ≡ q) × ((x.thread.who.path ≡ a) ⊎ Down a x.thread.who.path xs)

-- the path of each is its parent's and a number
abbrev Ends : Task → Type 0
Ends t = t.thread.who.path ≡ t.thread.who.up ++ t.thread.who.number ∷ []

named_ends : (t : Task) → Named t → Ends t
named_ends t a = by_role t.thread.who.role a
  where
    by_role : (q : Role) → RoleIs q t.thread.who → Ends t
    by_role (root entry) b = b.1 ∙ ap (λ up. up ++ t.thread.who.number ∷ []) (sym b.0)
    by_role part b = b.0

down_beneath : (a q : List ℕ) (xs : List Task) → Each Ends xs → Down a q xs → Beneath q a
down_beneath a q [] n d = absurd d
down_beneath a q (x ∷ xs) n d = by_end d.1 (down_beneath a x.thread.who.path xs n.1)
  where
    own : Beneath q x.thread.who.path
    own = subst (Beneath q) (sym (n.0 ∙ ap (λ up. up ++ x.thread.who.number ∷ []) d.0)) (end_beneath q x.thread.who.number)

    by_end : (x.thread.who.path ≡ a) ⊎ Down a x.thread.who.path xs → (Down a x.thread.who.path xs → Beneath x.thread.who.path a) →
        Beneath q a
    by_end (inl e) f = subst (Beneath q) e own
    by_end (inr e) f = beneath_on q x.thread.who.path a own (f e)

-- what is put beneath, or at, the task of a path leaves the way to that
down_stays : (a q : List ℕ) (y : Task) (xs : List Task) → Each Ends xs → (a ≡ y.thread.who.up) ⊎ Beneath a y.thread.who.up → Beneath q a →
    Down y.thread.who.up q xs → Down a q (behind_parent y xs)
down_stays a q y [] n h b d = absurd d
down_stays a q y (x ∷ xs) n h b d = by_test (cases_Bool (same_path y.thread.who.up x.thread.who.path))
    (cases_Bool (same_path a x.thread.who.path)) (λ g e. down_stays a x.thread.who.path y xs n.1 h g e)
  where
    last_longer : length x.thread.who.path ≡ suc (length q)
    last_longer = ap length (n.0 ∙ ap (λ up. up ++ x.thread.who.number ∷ []) d.0) ∙ length_more q x.thread.who.number

    equal : (i j k : ℕ) → j ≡ suc i → i < k → k < j → ⊥
    equal i j k e f g = omega (arith, e, f, g)

    at_parent : y.thread.who.up ≡ x.thread.who.path → (a ≡ y.thread.who.up) ⊎ Beneath a y.thread.who.up → x.thread.who.path ≡ a
    at_parent e (inl f) = sym (f ∙ e)
    at_parent e (inr f) = absurd (equal (length q) (length x.thread.who.path) (length a) last_longer (beneath_longer q a b)
        (subst (λ u. length a < length u) e (beneath_longer a y.thread.who.up f)))

    -- the task encloses the parent, so it is the one of the path or encloses that
    further : (x.thread.who.path ≡ y.thread.who.up) ⊎ Down y.thread.who.up x.thread.who.path xs →
        same_path y.thread.who.up x.thread.who.path ≡ false → Down y.thread.who.up x.thread.who.path xs
    further (inl e) f = clash (same_path y.thread.who.up x.thread.who.path) (is_same y.thread.who.up x.thread.who.path (sym e)) f
    further (inr e) f = e

    encloses : Beneath x.thread.who.path y.thread.who.up → (a ≡ y.thread.who.up) ⊎ Beneath a y.thread.who.up →
        same_path a x.thread.who.path ≡ false → Beneath x.thread.who.path a
    encloses e (inl f) g = subst (Beneath x.thread.who.path) (sym f) e
    encloses e (inr f) g = deeper x.thread.who.path a y.thread.who.up e f
        (more (length q) (length x.thread.who.path) (length a) last_longer (beneath_longer q a b)) (not_same_is g)
      where
        more : (i j k : ℕ) → j ≡ suc i → i < k → j ≤ k
        more i j k e f = omega (arith, e, f)

        not_same_is : same_path a x.thread.who.path ≡ false → a ≡ x.thread.who.path → ⊥
        not_same_is g e = both (same_path a x.thread.who.path) (is_same a x.thread.who.path e) g
          where
            both : (b : Bool) → b ≡ true → b ≡ false → ⊥
            both true e f = cc
            both false e f = cc

    by_test : (same_path y.thread.who.up x.thread.who.path ≡ true) ⊎ (same_path y.thread.who.up x.thread.who.path ≡ false) →
        (same_path a x.thread.who.path ≡ true) ⊎ (same_path a x.thread.who.path ≡ false) →
        (Beneath x.thread.who.path a → Down y.thread.who.up x.thread.who.path xs → Down a x.thread.who.path (behind_parent y xs)) →
        Down a q (cond (same_path y.thread.who.up x.thread.who.path) (x ∷ y ∷ xs) (x ∷ behind_parent y xs))
    by_test (inl e) t f = subst (λ t. Down a q (cond t (x ∷ y ∷ xs) (x ∷ behind_parent y xs))) (sym e) (
      d.0,
      inl (at_parent (same_is y.thread.who.up
          x.thread.who.path e) h),
    )
    by_test (inr e) (inl t) f = subst (λ t. Down a q (cond t (x ∷ y ∷ xs) (x ∷ behind_parent y xs))) (sym e)
        (d.0, inl (sym (same_is a x.thread.who.path t)))
    by_test (inr e) (inr t) f = subst (λ t. Down a q (cond t (x ∷ y ∷ xs) (x ∷ behind_parent y xs))) (sym e) (
      d.0,
      inr (f (encloses (down_beneath
          y.thread.who.up x.thread.who.path xs n.1 (further d.1 e)) h t) (further d.1 e)),
    )

-- where a child stands behind its parent the way goes on to it
down_child : (q : List ℕ) (z : Task) (xs : List Task) → Down z.thread.who.up q xs → Down z.thread.who.path q (behind_parent z xs)
down_child q z [] d = absurd d
down_child q z (x ∷ xs) d = by_test (cases_Bool (same_path z.thread.who.up x.thread.who.path)) (down_child x.thread.who.path z xs)
  where
    further : (x.thread.who.path ≡ z.thread.who.up) ⊎ Down z.thread.who.up x.thread.who.path xs →
        same_path z.thread.who.up x.thread.who.path ≡ false → Down z.thread.who.up x.thread.who.path xs
    further (inl e) f = clash (same_path z.thread.who.up x.thread.who.path) (is_same z.thread.who.up x.thread.who.path (sym e)) f
    further (inr e) f = e

    by_test : (same_path z.thread.who.up x.thread.who.path ≡ true) ⊎ (same_path z.thread.who.up x.thread.who.path ≡ false) →
        (Down z.thread.who.up x.thread.who.path xs → Down z.thread.who.path x.thread.who.path (behind_parent z xs)) →
        Down z.thread.who.path q (cond (same_path z.thread.who.up x.thread.who.path) (x ∷ z ∷ xs) (x ∷ behind_parent z xs))
    by_test (inl e) f = subst (λ t. Down z.thread.who.path q (cond t (x ∷ z ∷ xs) (x ∷ behind_parent z xs))) (sym e) (
      d.0,
      inr (
        same_is z.thread.who.up
            x.thread.who.path e,
        inl refl,
      ),
    )
    by_test (inr e) f = subst (λ t. Down z.thread.who.path q (cond t (x ∷ z ∷ xs) (x ∷ behind_parent z xs))) (sym e)
        (d.0, inr (f (further d.1 e)))

-- a root has none behind it
alone : {A : Type 0} (n : ℕ) (v : Who) → WhoIs v → StandsBefore (n ∷ []) v.path → A
alone n v a b = by_path v.path (some v.role a) b
  where
    some : (q : Role) → RoleIs q v → IsSome v.path
    some (root entry) a = subst IsSome (sym a.1) tt
    some part a = subst IsSome (sym a.0) (end_some v.up v.number)

    by_path : {A : Type 0} (p : List ℕ) → IsSome p → StandsBefore (n ∷ []) p → A
    by_path [] s b = absurd s
    by_path (j ∷ q) s (inl e, f) = absurd (never n j e f)
      where
        never : (n j : ℕ) → j < n → n ≡ j → ⊥
        never n j e f = omega (arith, e, f)
    by_path (j ∷ q) s (inr e, f) = absurd e.1

before_path : (p a : List ℕ) (k : ℕ) (ws : List Who) → Each (λ (v : Who). StandsBefore p v.path) ws → HasParent a k ws → Before p a
before_path p a k [] b h = elim h [ ]
before_path p a k (w ∷ ws) b (here e l) = subst (Before p) e b.0.0
before_path p a k (w ∷ ws) b (later h) = before_path p a k ws b.1 h

line_ends : (left : ℕ) (ts : List Task) → Lined left (whos ts) → Each Ends ts
line_ends left [] a = tt
line_ends left (t ∷ ts) a = (named_ends t a.0.named, line_ends left ts a.2)

-- the way to the parent of a task that stands before all of these
down : (left : ℕ) (zs : List Task) → Lined left (whos zs) → Rooted left (whos zs) → (a : List ℕ) (n k : ℕ) → IsSome a →
    Each (λ (v : Who). Before (a ++ n ∷ []) v.path) (whos zs) → HasParent a k (whos zs) → Down a [] (walked zs)
down left [] l r a n k s b h = elim h [ ]
down left (z ∷ zs) l r a n k s b h = by_root r h (down left zs l.2 (rooted_tail r) z.thread.who.up z.thread.who.number z.thread.who.number)
  where
    ends : z.thread.who.path ≡ z.thread.who.up ++ z.thread.who.number ∷ []
    ends = named_ends z l.0.named

    own : Each (λ (v : Who). Before (z.thread.who.up ++ z.thread.who.number ∷ []) v.path) (whos zs)
    own = all_as (λ (v : Who). StandsBefore z.thread.who.path v.path)
        (λ (v : Who). Before (z.thread.who.up ++ z.thread.who.number ∷ []) v.path) (λ v c. subst (λ p. Before p v.path) ends c.0) (whos zs)
        l.1

    some_up : HasParent z.thread.who.up z.thread.who.number (whos zs) → z.thread.who.role ≡ part → IsSome z.thread.who.up
    some_up g e = (subst (λ q. RoleIs q z.thread.who) e l.0.named).1

    -- Main's task or a spawned one stands alone
    single : (xs : List Task) → Each (λ (v : Who). StandsBefore z.thread.who.path v.path) (whos xs) → Lined left (whos xs) →
        z.thread.who.path ≡ z.thread.who.number ∷ [] → z.thread.who.up ≡ [] → z.thread.who.path ≡ a →
        Down a [] (behind_parent z (walked xs))
    single [] b l p u e = (u, inl e)
    single (x ∷ xs) b l p u e = alone z.thread.who.number x.thread.who l.0.named (subst (λ q. StandsBefore q x.thread.who.path) p b.0)

    no_root : {A : Type 0} → z.thread.who.path ≡ z.thread.who.number ∷ [] → Beneath a z.thread.who.path → A
    no_root p b = never a s (subst (Beneath a) p b)
      where
        never : {A : Type 0} (a : List ℕ) → IsSome a → Beneath a (z.thread.who.number ∷ []) → A
        never [] s b = absurd s
        never (i ∷ []) s b = absurd b.1
        never (i ∷ j ∷ a) s b = absurd b.1

    -- it is beneath the task of the path
    deep : HasParent a k (whos zs) → Beneath a z.thread.who.path
    deep g = between a n z.thread.who.path b.0 (before_path z.thread.who.path a k (whos zs) l.1 g)

    by_root : Rooted left (z.thread.who ∷ whos zs) → HasParent a k (z.thread.who ∷ whos zs) →
        (IsSome z.thread.who.up → Each (λ (v : Who). Before (z.thread.who.up ++ z.thread.who.number ∷ []) v.path) (whos zs) →
        HasParent z.thread.who.up z.thread.who.number (whos zs) → Down z.thread.who.up [] (walked zs)) →
        Down a [] (behind_parent z (walked zs))
    by_root (rooted_root e p g t) (here i j) f = single zs l.1 l.2 p (subst (λ q. RoleIs q z.thread.who) e l.0.named).0 i
    by_root (rooted_root e p g t) (later h) f = no_root p (deep h)
    by_root (rooted_part e p g h t) (here i j) f =
        subst (λ q. Down q [] (behind_parent z (walked zs))) i (down_child [] z (walked zs) (f (some_up h e) own h))
    by_root (rooted_part e p g h t) (later i) f =
        down_stays a [] z (walked zs) (walked_each Ends zs (line_ends left zs l.2))
        (beneath_end a z.thread.who.up z.thread.who.number (subst (Beneath a) ends (deep i))) s (f (some_up h e) own h)

-- ---- planting

abbrev fill : List Task → List Task → List Task
fill cur [] = cur
fill cur (y ∷ ys) = fill (before_parent y cur) ys

abbrev rebuilt : List Task → List Task
rebuilt [] = []
rebuilt (x ∷ xs) = fill (x ∷ []) xs

abbrev NoParent : Task → Task → Type 0
NoParent y z = same_path z.thread.who.up y.thread.who.path ≡ false

fill_front : (y : Task) (cur zs : List Task) → Each (NoParent y) zs → fill (y ∷ cur) zs ≡ y ∷ fill cur zs
fill_front y cur [] a = refl
fill_front y cur (z ∷ zs) a = ap (λ t. fill (cond t (z ∷ y ∷ cur) (y ∷ before_parent z cur)) zs) a.0 ∙
    fill_front y (before_parent z cur) zs a.1

-- a task before all stays before all
fill_down : (a : List ℕ) (x : Task) (cur : List Task) (y : Task) (zs : List Task) → y.thread.who.up ≡ a → Each (NoParent y) zs →
    Down a x.thread.who.path zs → fill (x ∷ cur) (behind_parent y zs) ≡ y ∷ fill (x ∷ cur) zs
fill_down a x cur y [] e n d = absurd d
fill_down a x cur y (z ∷ zs) e n d = by_test (cases_Bool (same_path y.thread.who.up z.thread.who.path))
    (λ g. fill_down a z (x ∷ cur) y zs e n.1 g)
  where
    planted_first : before_parent z (x ∷ cur) ≡ z ∷ x ∷ cur
    planted_first = ap (λ t. cond t (z ∷ x ∷ cur) (x ∷ before_parent z cur)) (is_same z.thread.who.up x.thread.who.path d.0)

    further : (z.thread.who.path ≡ a) ⊎ Down a z.thread.who.path zs → same_path y.thread.who.up z.thread.who.path ≡ false →
        Down a z.thread.who.path zs
    further (inl g) f = clash (same_path y.thread.who.up z.thread.who.path) (is_same y.thread.who.up z.thread.who.path (e ∙ sym g)) f
    further (inr g) f = g

    by_test : (same_path y.thread.who.up z.thread.who.path ≡ true) ⊎ (same_path y.thread.who.up z.thread.who.path ≡ false) →
        (Down a z.thread.who.path zs → fill (z ∷ x ∷ cur) (behind_parent y zs) ≡ y ∷ fill (z ∷ x ∷ cur) zs) →
        fill (x ∷ cur) (cond (same_path y.thread.who.up z.thread.who.path) (z ∷ y ∷ zs) (z ∷ behind_parent y zs)) ≡ y ∷
        fill (before_parent z (x ∷ cur)) zs
    by_test (inl f) g = ap (λ t. fill (x ∷ cur) (cond t (z ∷ y ∷ zs) (z ∷ behind_parent y zs))) f ∙
        (ap (λ c. fill (before_parent y c) zs) planted_first ∙
        (ap (λ t. fill (cond t (y ∷ z ∷ x ∷ cur) (z ∷ before_parent y (x ∷ cur))) zs) f ∙
        (fill_front y (z ∷ x ∷ cur) zs n.1 ∙ ap (λ c. y ∷ fill c zs) (sym planted_first))))
    by_test (inr f) g = ap (λ t. fill (x ∷ cur) (cond t (z ∷ y ∷ zs) (z ∷ behind_parent y zs))) f ∙
        (ap (λ c. fill c (behind_parent y zs)) planted_first ∙ (g (further d.1 f) ∙ ap (λ c. y ∷ fill c zs) (sym planted_first)))

one_before : (y : Task) (xs : List Task) → Each (NoParent y) xs → Down y.thread.who.up [] xs → rebuilt (behind_parent y xs) ≡ y ∷ rebuilt xs
one_before y [] n d = absurd d
one_before y (x ∷ xs) n d = by_test (cases_Bool (same_path y.thread.who.up x.thread.who.path))
  where
    further : (x.thread.who.path ≡ y.thread.who.up) ⊎ Down y.thread.who.up x.thread.who.path xs →
        same_path y.thread.who.up x.thread.who.path ≡ false → Down y.thread.who.up x.thread.who.path xs
    further (inl g) f = clash (same_path y.thread.who.up x.thread.who.path) (is_same y.thread.who.up x.thread.who.path (sym g)) f
    further (inr g) f = g

    by_test : (same_path y.thread.who.up x.thread.who.path ≡ true) ⊎ (same_path y.thread.who.up x.thread.who.path ≡ false) →
        rebuilt (cond (same_path y.thread.who.up x.thread.who.path) (x ∷ y ∷ xs) (x ∷ behind_parent y xs)) ≡ y ∷ fill (x ∷ []) xs
    by_test (inl f) = ap (λ t. rebuilt (cond t (x ∷ y ∷ xs) (x ∷ behind_parent y xs))) f ∙
        (ap (λ t. fill (cond t (y ∷ x ∷ []) (x ∷ [])) xs) f ∙ fill_front y (x ∷ []) xs n.1)
    by_test (inr f) = ap (λ t. rebuilt (cond t (x ∷ y ∷ xs) (x ∷ behind_parent y xs))) f ∙
        fill_down y.thread.who.up x [] y xs refl n.1 (further d.1 f)

no_parents : (left : ℕ) (y : Task) (zs : List Task) → Each (λ (v : Who). StandsBefore y.thread.who.path v.path) (whos zs) →
    Lined left (whos zs) → Each (NoParent y) zs
no_parents left y [] b l = tt
no_parents left y (z ∷ zs) b l = (
  not_same z.thread.who.up y.thread.who.path
      (λ e. no_child y.thread.who.path z.thread.who.number (subst (Before y.thread.who.path) (named_ends z l.0.named ∙ ap
      (λ up. up ++ z.thread.who.number ∷ []) e) b.0.0)),
  no_parents left y zs b.1 l.2,
)

-- Main's task or a spawned one is the last
abbrev IsPart : Task → Type 0
IsPart t = t.thread.who.role ≡ part

abbrev OneRoot : List Task → Type 0
OneRoot [] = ⊥
OneRoot (x ∷ xs) = (entry : Option ℕ) × (x.thread.who.role ≡ root entry) × Each IsPart xs

behind_parts : (y : Task) (xs : List Task) → IsPart y → Each IsPart xs → Each IsPart (behind_parent y xs)
behind_parts y [] a b = (a, tt)
behind_parts y (x ∷ xs) a b = by_test (same_path y.thread.who.up x.thread.who.path) (behind_parts y xs a b.1)
  where
    by_test : (t : Bool) → Each IsPart (behind_parent y xs) → Each IsPart (cond t (x ∷ y ∷ xs) (x ∷ behind_parent y xs))
    by_test true h = (b.0, (a, b.1))
    by_test false h = (b.0, h)

root_stays : (y : Task) (xs : List Task) → IsPart y → OneRoot xs → OneRoot (behind_parent y xs)
root_stays y [] a b = absurd b
root_stays y (x ∷ xs) a b = by_test (same_path y.thread.who.up x.thread.who.path)
  where
    by_test : (t : Bool) → OneRoot (cond t (x ∷ y ∷ xs) (x ∷ behind_parent y xs))
    by_test true = (b.0, b.1, (a, b.2))
    by_test false = (b.0, b.1, behind_parts y xs a b.2)

pub tree_again : (left : ℕ) (y : Task) (ys : List Task) → Rooted left (whos (y ∷ ys)) → Lined left (whos (y ∷ ys)) →
    (rebuilt (walked (y ∷ ys)) ≡ y ∷ ys) × OneRoot (walked (y ∷ ys))
tree_again left y [] (rooted_root {entry = entry} e p g t) l = (refl, (entry, e, tt))
tree_again left y [] (rooted_part e p g h t) l = elim h [ ]
tree_again left y (z ∷ zs) (rooted_root e p g t) l =
    alone y.thread.who.number z.thread.who l.2.0.named (subst (λ q. StandsBefore q z.thread.who.path) p l.1.0)
tree_again left y (z ∷ zs) (rooted_part e p g h t) l = let a = tree_again left z zs t l.2 in (
  one_before y (walked (z ∷ zs)) (walked_each (NoParent y) (z ∷ zs) (no_parents left y (z ∷ zs) l.1 l.2))
      (down left (z ∷ zs) l.2 t y.thread.who.up
      y.thread.who.number y.thread.who.number (subst (λ q. RoleIs q y.thread.who) e l.0.named).1
      (all_as (λ (v : Who). StandsBefore y.thread.who.path v.path)
      (λ (v : Who). Before (y.thread.who.up ++ y.thread.who.number ∷ []) v.path) (λ v c. subst (λ q. Before q v.path) p c.0) (whos (z ∷ zs))
      l.1) h) ∙ ap (λ xs. y ∷ xs) a.0,
  root_stays y (walked (z ∷ zs)) e a.1,
)

-- ---- all trees

no_one : (b : Bool) (n : ℕ) → one b + n ≡ 0 → b ≡ false
no_one true n e = absurd (never n e)
  where
    never : (n : ℕ) → 1 + n ≡ 0 → ⊥
    never n e = omega (arith, e)
no_one false n e = refl

rest_none : (i j : ℕ) → i + j ≡ 0 → j ≡ 0
rest_none i j e = omega (arith, e)

first_none : (i j : ℕ) → i + j ≡ 0 → i ≡ 0
first_none i j e = omega (arith, e)

before_none : (y : Task) (ts : List Task) → tasks_sum (is_named y.thread.who.up) ts ≡ 0 → before_parent y ts ≡ ts
before_none y [] e = refl
before_none y (x ∷ xs) e = ap (λ t. cond t (y ∷ x ∷ xs) (x ∷ before_parent y xs))
    (no_one (same_path y.thread.who.up x.thread.who.path) (tasks_sum (is_named y.thread.who.up) xs) e) ∙
    ap (λ zs. x ∷ zs) (before_none y xs (rest_none (one (same_path y.thread.who.up x.thread.who.path))
    (tasks_sum (is_named y.thread.who.up) xs) e))

both_lists : {x z : List Task} {xs zs : Forest} → x ≡ z → xs ≡ zs → x ∷ xs ≡ z ∷ zs
both_lists e f = cc

-- in the other trees nothing is planted
map_last : (y : Task) (acc : Forest) (cur : List Task) → trees_sum (is_named y.thread.who.up) acc ≡ 0 →
    map (before_parent y) (acc ++ cur ∷ []) ≡ acc ++ before_parent y cur ∷ []
map_last y [] cur e = refl
map_last y (ts ∷ acc) cur e = both_lists (before_none y ts
    (first_none (tasks_sum (is_named y.thread.who.up) ts) (trees_sum (is_named y.thread.who.up) acc) e))
    (map_last y acc cur (rest_none (tasks_sum (is_named y.thread.who.up) ts) (trees_sum (is_named y.thread.who.up) acc) e))

parts_grow : (acc : Forest) (cur ys : List Task) → Each IsPart ys → Each (λ (y : Task). trees_sum (is_named y.thread.who.up) acc ≡ 0) ys →
    grown (acc ++ cur ∷ []) ys ≡ acc ++ fill cur ys ∷ []
parts_grow acc cur [] a b = refl
parts_grow acc cur (y ∷ ys) a b = ap (λ q. grown (planted q y (acc ++ cur ∷ [])) ys) a.0 ∙
    (ap (λ tss. grown tss ys) (map_last y acc cur b.0) ∙ parts_grow acc (before_parent y cur) ys a.1 b.1)

grown_join : (acc : Forest) (xs ys : List Task) → grown acc (xs ++ ys) ≡ grown (grown acc xs) ys
grown_join acc [] ys = refl
grown_join acc (x ∷ xs) ys = grown_join (planted x.thread.who.role x acc) xs ys

join_trees : (acc : Forest) (ts : List Task) (tss : Forest) → (acc ++ ts ∷ []) ++ tss ≡ acc ++ ts ∷ tss
join_trees [] ts tss = refl
join_trees (us ∷ acc) ts tss = ap (λ xs. us ∷ xs) (join_trees acc ts tss)

end_nil : (acc : Forest) → acc ++ [] ≡ acc
end_nil [] = refl
end_nil (us ∷ acc) = ap (λ xs. us ∷ xs) (end_nil acc)

-- a tree, from its tasks in the order of the walk
tree_grows : (acc : Forest) (xs : List Task) → OneRoot xs →
    Each (λ (y : Task). IsPart y → trees_sum (is_named y.thread.who.up) acc ≡ 0) xs → grown acc xs ≡ acc ++ rebuilt xs ∷ []
tree_grows acc [] a b = absurd a
tree_grows acc (x ∷ xs) a b = ap (λ q. grown (planted q x acc) xs) a.1 ∙ parts_grow acc (x ∷ []) xs a.2 (given xs a.2 b.1)
  where
    given : (ys : List Task) → Each IsPart ys → Each (λ (y : Task). IsPart y → trees_sum (is_named y.thread.who.up) acc ≡ 0) ys →
        Each (λ (y : Task). trees_sum (is_named y.thread.who.up) acc ≡ 0) ys
    given [] a b = tt
    given (y ∷ ys) a b = (b.0 a.0, given ys a.1 b.1)

trees_grow : (left : ℕ) (acc tss : Forest) → Each (λ ts. Rooted left (whos ts)) tss → Each (λ ts. Lined left (whos ts)) tss →
    ((p : List ℕ) → trees_sum (is_named p) acc + trees_sum (is_named p) tss ≤ 1) → grown acc (walk tss) ≡ acc ++ filled tss
trees_grow left acc [] r l n = sym (end_nil acc)
trees_grow left acc ([] ∷ tss) r l n = trees_grow left acc tss r.1 l.1 (λ p. none p)
  where
    none : (p : List ℕ) → trees_sum (is_named p) acc + trees_sum (is_named p) tss ≤ 1
    none p = let h = n p in omega (arith, h)
trees_grow left acc ((t ∷ ts) ∷ tss) r l n =
    let a = tree_again left t ts r.0 l.0 in
    grown_join acc (walked (t ∷ ts)) (walk tss) ∙
    (ap (λ f. grown f (walk tss)) (tree_grows acc (walked (t ∷ ts)) a.1 unplanted ∙ ap (λ xs. acc ++ xs ∷ []) a.0) ∙
    (trees_grow left (acc ++ (t ∷ ts) ∷ []) tss r.1 l.1 (λ p. moved p) ∙ join_trees acc (t ∷ ts) (filled tss)))
  where
    moved : (p : List ℕ) → trees_sum (is_named p) (acc ++ (t ∷ ts) ∷ []) + trees_sum (is_named p) tss ≤ 1
    moved p = let h = n p in let g = one_tree (is_named p) acc (t ∷ ts) in omega (arith, h, g)

    others : (i j k : ℕ) → i + (j + k) ≤ 1 → 1 ≤ j → i ≡ 0
    others i j k e f = omega (arith, e, f)

    unplanted : Each (λ (y : Task). IsPart y → trees_sum (is_named y.thread.who.up) acc ≡ 0) (walked (t ∷ ts))
    unplanted = all_as (λ y. Named y × HasOwn (walked (t ∷ ts)) y) (λ (y : Task). IsPart y → trees_sum (is_named y.thread.who.up) acc ≡ 0)
        (λ y b e. others (trees_sum (is_named y.thread.who.up) acc) (tasks_sum (is_named y.thread.who.up) (t ∷ ts))
        (trees_sum (is_named y.thread.who.up) tss) (n y.thread.who.up)
        (subst (λ i. 1 ≤ i) (walked_sum (is_named y.thread.who.up) (t ∷ ts)) (b.1 (subst (λ q. RoleIs q y.thread.who) e b.0).1)))
        (walked (t ∷ ts)) (walked_parents left (t ∷ ts) r.0 l.0)

pub trees_again : TreesGrowAgain
trees_again left tss r a = trees_grow left [] tss (each_rooted left tss r) a.lines (λ p. few p)
  where
    few : (p : List ℕ) → 0 + trees_sum (is_named p) tss ≤ 1
    few p = let h = a.names p in let g = one_most (ltn left (suc (last p))) in omega (arith, h, g)
