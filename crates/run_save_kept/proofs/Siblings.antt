-- Where each task stands before those that it encloses, siblings stand in the order in which they began.
use Rattle.std.proofs.Common.{◌≡◌, ℕ, ◌+◌, ◌≤◌, ◌<◌, List, [], ◌∷◌, ◌++◌, Bool, true, false, cond, refl, sym, subst, ap, ◌∙◌, arith}
use mathlib.Core.Logic.{inl, inr}
use Rattle.verse_base.proofs.Facts.{append_one}
use Rattle.verse_code_machine.specs.Tasks.{Role, root, part, Who, Task, same_path}
use Rattle.verse_code_machine.specs.Runs.{Forest}
use Rattle.verse_code_machine_parents.specs.Parents.{whos, Rooted}
use Rattle.verse_code_machine_parents.proofs.Lists.{rooted_tail}
use Rattle.run_save_shots.specs.Lists.{Each, EachTwo}
use Rattle.run_save_shots.specs.Keeping.{behind_parent, walked, walk}
use Rattle.run_save_shots.proofs.Lists.{each_join, all_as, two_join}
use Rattle.run_save_fits.specs.Held.{IsSome, RoleIs, WhoIs, tasks_sum, trees_sum, one}
use Rattle.run_save_fits.proofs.KeptOrder.{IsIn, Follows, InWalk, walk_well, in_front, walked_well}
use Rattle.run_save_fits.proofs.KeptAll.{behind_each, walked_each, walked_sum, tasks_join}
use Rattle.run_save_kept.specs.Orders.{Before, StandsBefore, Lined, is_named}
use Rattle.run_save_kept.proofs.Paths.{siblings_fall}

-- the second of two siblings began later
abbrev pub Older : Task → Task → Type 0
Older t u = IsSome t.thread.who.up → t.thread.who.up ≡ u.thread.who.up → u.thread.who.number < t.thread.who.number

abbrev pub Named : Task → Type 0
Named t = WhoIs t.thread.who

pub part_path : (r : Role) (w : Who) → RoleIs r w → IsSome w.up → w.path ≡ w.up ++ w.number ∷ []
part_path (root entry) w a s = absurd (subst IsSome a.0 s)
part_path part w a s = a.0

older : (t u : Who) → WhoIs t → WhoIs u → Before t.path u.path → IsSome t.up → t.up ≡ u.up → u.number < t.number
older t u a b h s e = siblings_fall t.up t.number u.number
    (subst (λ p. Before (t.up ++ t.number ∷ []) p) (part_path u.role u b (subst IsSome e s) ∙ ap (λ up. up ++ u.number ∷ []) (sym e))
    (subst (λ p. Before p u.path) (part_path t.role t a s) h))

-- ---- lists

module _ (P : Task → Type 0) where
  pub walk_each : (tss : Forest) → Each (λ ts. Each P ts) tss → Each P (walk tss)
  walk_each [] a = tt
  walk_each (ts ∷ tss) a = each_join P (walked ts) (walk tss) (walked_each P ts a.0) (walk_each tss a.1)

module _ (f : Task → ℕ) where
  pub walk_sum : (tss : Forest) → tasks_sum f (walk tss) ≡ trees_sum f tss
  walk_sum [] = refl
  walk_sum (ts ∷ tss) = let a = tasks_join f (walked ts) (walk tss) in let b = walked_sum f ts in let d =
      walk_sum tss in omega (arith, a, b, d)

line_names : (left : ℕ) (ts : List Task) → Lined left (whos ts) → Each Named ts
line_names left [] a = tt
line_names left (t ∷ ts) a = (a.0.named, line_names left ts a.2)

pub trees_names : (left : ℕ) (tss : Forest) → Each (λ ts. Lined left (whos ts)) tss → Each (λ ts. Each Named ts) tss
trees_names left tss a = all_as (λ ts. Lined left (whos ts)) (λ ts. Each Named ts) (λ ts b. line_names left ts b) tss a

-- ---- one tree

line_older : (t : Task) (us : List Task) → Named t → Each Named us → Each (λ (v : Who). StandsBefore t.thread.who.path v.path) (whos us) →
    Each (Older t) us
line_older t [] a b d = tt
line_older t (u ∷ us) a b d = (older t.thread.who u.thread.who a b.0 d.0.0, line_older t us a b.1 d.1)

nil_end : (xs : List Task) → xs ++ [] ≡ xs
nil_end [] = refl
nil_end (x ∷ xs) = ap (λ zs. x ∷ zs) (nil_end xs)

in_end : (path : List ℕ) (seen : List Task) (x : Task) → (IsIn path seen → ⊥) → same_path path x.thread.who.path ≡ false →
    IsIn path (seen ++ x ∷ []) → ⊥
in_end path [] x out e (inl h) = both (same_path path x.thread.who.path) h e
  where
    both : (b : Bool) → b ≡ true → b ≡ false → ⊥
    both true e f = cc
    both false e f = cc
in_end path [] x out e (inr h) = h
in_end path (y ∷ seen) x out e (inl h) = out (inl h)
in_end path (y ∷ seen) x out e (inr h) = in_end path seen x (λ g. out (inr g)) e h

-- no sibling stands before its parent
no_sibling : (x y : Task) (seen : List Task) (q : Role) → RoleIs q x.thread.who → Follows q x.thread.who.up seen →
    (IsIn y.thread.who.up seen → ⊥) → Older x y
no_sibling x y seen (root entry) a f out s e = absurd (subst IsSome a.0 s)
no_sibling x y seen part a f out s e = absurd (out (subst (λ up. IsIn up seen) e f))

put : (y : Task) (xs seen : List Task) → Each Named xs → InWalk seen xs → (IsIn y.thread.who.up seen → ⊥) → Each (Older y) xs →
    EachTwo Older xs → EachTwo Older (behind_parent y xs)
put y [] seen n w out o t = (tt, tt)
put y (x ∷ xs) seen n w out o t = by_test (same_path y.thread.who.up x.thread.who.path) refl
    (λ g. put y xs (seen ++ x ∷ []) n.1 w.1 g o.1 t.1)
  where
    first : Older x y
    first = no_sibling x y seen x.thread.who.role n.0 w.0 out

    by_test : (b : Bool) → same_path y.thread.who.up x.thread.who.path ≡ b →
        ((IsIn y.thread.who.up (seen ++ x ∷ []) → ⊥) → EachTwo Older (behind_parent y xs)) →
        EachTwo Older (cond b (x ∷ y ∷ xs) (x ∷ behind_parent y xs))
    by_test true e h = ((first, t.0), (o.1, t.1))
    by_test false e h = (behind_each (Older x) y xs first t.0, h (in_end y.thread.who.up seen x out e))

walked_older : (left : ℕ) (ts : List Task) → Rooted left (whos ts) → Lined left (whos ts) → EachTwo Older (walked ts)
walked_older left [] r a = tt
walked_older left (y ∷ ys) r a = put y (walked ys) [] (walked_each Named ys (line_names left ys a.2)) (walked_well left ys (rooted_tail r))
    (λ h. h) (walked_each (Older y) ys (line_older y ys a.0.named (line_names left ys a.2) a.1)) (walked_older left ys (rooted_tail r) a.2)

-- ---- all trees

in_sum : (path : List ℕ) (xs : List Task) → IsIn path xs → 1 ≤ tasks_sum (is_named path) xs
in_sum path [] h = absurd h
in_sum path (x ∷ xs) (inl e) = let f = ap one e in omega (arith, f)
in_sum path (x ∷ xs) (inr h) = let f = in_sum path xs h in omega (arith, f)

-- its parent is among them
abbrev pub HasOwn : List Task → Task → Type 0
HasOwn all t = IsSome t.thread.who.up → 1 ≤ tasks_sum (is_named t.thread.who.up) all

follows_parent : (q : Role) (t : Task) (seen rest : List Task) → RoleIs q t.thread.who → Follows q t.thread.who.up seen →
    HasOwn (seen ++ rest) t
follows_parent (root entry) t seen rest a f s = absurd (subst IsSome a.0 s)
follows_parent part t seen rest a f s = in_sum t.thread.who.up (seen ++ rest) (in_front t.thread.who.up seen rest f)

pub parents_from : (seen xs : List Task) → Each Named xs → InWalk seen xs → Each (HasOwn (seen ++ xs)) xs
parents_from seen [] n w = tt
parents_from seen (x ∷ xs) n w = (
  follows_parent x.thread.who.role x seen (x ∷ xs) n.0 w.0,
  subst (λ all. Each (HasOwn all) xs) (sym (append_one seen x xs)) (parents_from (seen ++ x ∷ []) xs n.1 w.1),
)

pub walked_parents : (left : ℕ) (ts : List Task) → Rooted left (whos ts) → Lined left (whos ts) →
    Each (λ y. Named y × HasOwn (walked ts) y) (walked ts)
walked_parents left ts r a = both (walked ts) (walked_each Named ts (line_names left ts a))
    (parents_from [] (walked ts) (walked_each Named ts (line_names left ts a)) (walked_well left ts r))
  where
    both : (xs : List Task) → Each Named xs → Each (HasOwn (walked ts)) xs → Each (λ y. Named y × HasOwn (walked ts) y) xs
    both [] a b = tt
    both (x ∷ xs) a b = ((a.0, b.0), both xs a.1 b.1)

-- no task of one tree is a sibling of one of another
apart : (xs ys : List Task) → ((p : List ℕ) → tasks_sum (is_named p) xs + tasks_sum (is_named p) ys ≤ 1) → Each (HasOwn ys) ys →
    (x : Task) → HasOwn xs x → (us : List Task) → Each (HasOwn ys) us → Each (Older x) us
apart xs ys one_name all x h [] a = tt
apart xs ys one_name all x h (u ∷ us) a = (
  (λ s e. absurd (no (tasks_sum (is_named x.thread.who.up) xs) (tasks_sum (is_named x.thread.who.up) ys) (one_name x.thread.who.up) (h s)
      (subst (λ up.
      1 ≤ tasks_sum (is_named up) ys) (sym e) (a.0 (subst IsSome e s))))),
  apart xs ys one_name all x h us a.1,
)
  where
    no : (i j : ℕ) → i + j ≤ 1 → 1 ≤ i → 1 ≤ j → ⊥
    no i j e f g = omega (arith, e, f, g)

pub walk_older : (left : ℕ) (tss : Forest) → Each (λ ts. Rooted left (whos ts)) tss → Each (λ ts. Lined left (whos ts)) tss →
    ((p : List ℕ) → tasks_sum (is_named p) (walk tss) ≤ 1) → EachTwo Older (walk tss)
walk_older left [] r a n = tt
walk_older left (ts ∷ tss) r a n = two_join Older (walked ts) (walk tss) (walked_older left ts r.0 a.0)
    (walk_older left tss r.1 a.1 (λ p. second (tasks_sum (is_named p) (walked ts)) (tasks_sum (is_named p) (walk tss))
    (tasks_sum (is_named p) (walk (ts ∷ tss))) (tasks_join (is_named p) (walked ts) (walk tss)) (n p)))
    (all_as (HasOwn (walked ts)) (λ x. Each (Older x) (walk tss))
    (λ x h. apart (walked ts) (walk tss) (λ p. both (tasks_sum (is_named p) (walked ts) + tasks_sum (is_named p) (walk tss))
    (tasks_sum (is_named p) (walk (ts ∷ tss))) (tasks_join (is_named p) (walked ts) (walk tss)) (n p)) others x h (walk tss) others)
    (walked ts) (parents_from [] (walked ts) (walked_each Named ts (line_names left ts a.0)) (walked_well left ts r.0)))
  where
    others : Each (HasOwn (walk tss)) (walk tss)
    others = parents_from [] (walk tss) (walk_each Named tss (trees_names left tss a.1)) (walk_well left tss r.1)

    second : (i j k : ℕ) → k ≡ i + j → k ≤ 1 → j ≤ 1
    second i j k e f = omega (arith, e, f)

    both : (i k : ℕ) → k ≡ i → k ≤ 1 → i ≤ 1
    both i k e f = omega (arith, e, f)
