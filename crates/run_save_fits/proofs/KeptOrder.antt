-- How the tasks that are kept stand to their parents.
use Rattle.std.proofs.Common.{◌≡◌, ℕ, zero, suc, ◌+◌, ◌≤◌, ◌<◌, length, map, reverse, List, [], ◌∷◌, ◌++◌, Option, Some, None, Bool, true}
use Rattle.std.proofs.Common.{false}
use Rattle.std.proofs.Common.{cond, refl, sym, subst, ap, ◌∙◌, arith, option_map, ◌⊎◌}
use Rattle.std.specs.Prelude.{pred, ◌&&◌, ◌≢◌, eqb}
use mathlib.Core.Logic.{inl, inr}
use Rattle.std.proofs.lemmas.List.{append_assoc}
use Rattle.task_tree.specs.Tasks.{is_child}
use Rattle.task_tree.specs.declared.tasks.Role as r
use Rattle.task_tree.specs.declared.tasks.Role.TheVariants.{Root, Arm, Behind}
use Rattle.verse_code.specs.declared.codes.Code.{Code}
use Rattle.std.proofs.lemmas.Bool.Decides.{eqb_tells}
use Rattle.std.proofs.lemmas.Option.{same_Some}
use Rattle.verse_base.proofs.Facts.{length_more, append_one}
use Rattle.verse_meaning_state.specs.State.{Given}
use Rattle.verse_meaning_state.specs.Waits.{nth, ltn, eqn}
use Rattle.verse_meaning_state.proofs.Numbers.{eqn_is, eqn_same}
use Rattle.verse_code_machine.specs.Tasks.{Frame, Role, root, part, Who, Task, same_path}
use Rattle.verse_code_machine.specs.Runs.{Forest}
use Rattle.verse_code_machine.proofs.Paths.{same_self}
use Rattle.verse_code_machine_parents.specs.Parents.{whos, HasParent, here, later, Rooted, rooted_root, rooted_part, TreesRooted}
use Rattle.run_save_shots.specs.Lists.{Each, EachAt, count}
use Rattle.run_save_shots.specs.Kept.{KeptTask}
use Rattle.run_save_shots.specs.Fitting.{DepthFits, frames_of, ParentBefore, is_root, HasRoot, runs_once}
use Rattle.run_save_shots.specs.Keeping as kp
use Rattle.run_save_shots.specs.Keeping.{behind_parent, walked, walk, place_of, task_of, role_in, arm_or, depth_of, entry_of}
use Rattle.run_save_fits.specs.Held.{IsSome, RoleIs, WhoIs, tasks_sum, is_main, is_task_of, unfinished, one}
use Rattle.run_save_fits.proofs.KeptTasks.{each_map, frames_number, no_place}

-- ---- the task at a place

-- the first task of the path stands there
pub record Stands (path : List ℕ) (ys : List Task) (p : ℕ) : Type 0 where
  pub task : Task
  pub at_place : nth ys p ≡ Some task
  pub is_found : task_of path ys ≡ Some task

suc_of : (o : Option ℕ) (p : ℕ) → option_map suc o ≡ Some p → (q : ℕ) × (o ≡ Some q) × (p ≡ suc q)
suc_of None p e = absurd (cc)
suc_of (Some q) p e = (q, refl, sym (same_Some (suc q) p e))

place_stands : (path : List ℕ) (ys : List Task) (p : ℕ) → place_of path ys ≡ Some p → Stands path ys p
place_stands path [] p e = absurd (cc)
place_stands path (y ∷ ys) p e = two (same_path path y.thread.who.path) refl e (λ q f. place_stands path ys q f)
  where
    two : (b : Bool) → same_path path y.thread.who.path ≡ b → cond b (Some 0) (option_map suc (place_of path ys)) ≡ Some p →
        ((q : ℕ) → place_of path ys ≡ Some q → Stands path ys q) → Stands path (y ∷ ys) p
    two true g f h = subst (Stands path (y ∷ ys)) (same_Some 0 p f) (record {
      task = y;
      at_place = refl;
      is_found = ap (λ b. cond b (Some y) (task_of path ys)) g;
    })
    two false g f h = let a = suc_of (place_of path ys) p f in let k = h a.0 a.1 in subst (Stands path (y ∷ ys)) (sym a.2) (record {
      task = k.task;
      at_place = k.at_place;
      is_found = ap (λ b. cond b (Some y) (task_of path ys)) g ∙ k.is_found;
    })

-- ---- depths

few : {A : Type 0} (test : A → Bool) (xs : List A) → count test xs ≤ length xs
few test [] = omega arith
few test (x ∷ xs) = let h = few test xs in two (test x) (count test xs) (length xs) h
  where
    two : (b : Bool) (n m : ℕ) → n ≤ m → cond b (suc n) n ≤ suc m
    two true n m h = omega (arith, h)
    two false n m h = omega (arith, h)

before : (n m : ℕ) → n ≤ suc m → pred n < suc m
before zero m h = omega arith
before (suc n) m h = omega (arith, h)

behind_is : (o : Option ℕ) (e d : ℕ) → arm_or o e ≡ Behind d → e ≡ d
behind_is None e d h = same e d h
  where
    same : (e d : ℕ) → Behind e ≡ Behind d → e ≡ d
    same e d h = cc
behind_is (Some p) e d h = absurd (cc)

at_map : (f : Task → KeptTask) (ys : List Task) (p : ℕ) (y : Task) → nth ys p ≡ Some y → nth (map f ys) p ≡ Some (f y)
at_map f [] p y e = absurd (cc)
at_map f (x ∷ ys) zero y e = ap (λ x. Some (f x)) (same_Some x y e)
at_map f (x ∷ ys) (suc p) y e = at_map f ys p y e

depth_fits : (c : Code) (ys : List Task) (y : Task) → DepthFits (map (kp.task ys) ys) (kp.task ys y)
depth_fits c ys y p d e f = let s = place_stands y.thread.who.up ys p e in
    let g = behind_is (kp.arm_in y.thread.who.number s.task.rest) (depth_of y.thread.who.number s.task) d
    (ap (λ o. role_in o y.thread.who.number) (sym
    s.is_found) ∙ f) in
    subst (λ o. d < frames_of o) (sym (at_map (kp.task ys) ys p s.task s.at_place))
    (subst (λ n. d < n) (sym (frames_number c s.task))
    (subst (λ d. d < suc (length s.task.thread.below)) g
    (before _ (length s.task.thread.below) (few (λ (f : Frame). ltn y.thread.who.number f.life.born)
    (s.task.thread.frame ∷ s.task.thread.below)))))

pub depths_fit : (c : Code) (ys : List Task) → Each (DepthFits (map (kp.task ys) ys)) (map (kp.task ys) ys)
depths_fit c ys = each_map (DepthFits (map (kp.task ys) ys)) (kp.task ys) ys (all ys)
  where
    all : (zs : List Task) → Each (λ y. DepthFits (map (kp.task ys) ys) (kp.task ys y)) zs
    all [] = tt
    all (z ∷ zs) = (depth_fits c ys z, all zs)

-- ---- parents

-- a task of the path is in the list
abbrev pub IsIn : List ℕ → List Task → Type 0
IsIn path [] = ⊥
IsIn path (x ∷ xs) = (same_path path x.thread.who.path ≡ true) ⊎ IsIn path xs

pub in_front : (path : List ℕ) (xs ys : List Task) → IsIn path xs → IsIn path (xs ++ ys)
in_front path (x ∷ xs) ys (inl e) = inl e
in_front path (x ∷ xs) ys (inr h) = inr (in_front path xs ys h)
in_front path [] ys h = absurd h

in_back : (path : List ℕ) (xs ys : List Task) → IsIn path ys → IsIn path (xs ++ ys)
in_back path [] ys h = h
in_back path (x ∷ xs) ys h = inr (in_back path xs ys h)

-- Main's task or a spawned one, or its parent is in the list
abbrev pub Follows : Role → List ℕ → List Task → Type 0
Follows (root e) up seen = Unit {0}
Follows part up seen = IsIn up seen

-- each task behind its parent, where these stand before
abbrev pub InWalk : List Task → List Task → Type 0
InWalk seen [] = Unit {0}
InWalk seen (y ∷ ys) = Follows y.thread.who.role y.thread.who.up seen × InWalk (seen ++ y ∷ []) ys

follows_more : (q : Role) (up : List ℕ) (xs ys : List Task) → ((path : List ℕ) → IsIn path xs → IsIn path ys) → Follows q up xs →
    Follows q up ys
follows_more (root e) up xs ys f a = tt
follows_more part up xs ys f a = f up a

end_more : (xs ys : List Task) (x : Task) → ((path : List ℕ) → IsIn path xs → IsIn path ys) → (path : List ℕ) → IsIn path (xs ++ x ∷ []) →
    IsIn path (ys ++ x ∷ [])
end_more [] ys x f path (inl e) = in_back path ys (x ∷ []) (inl e)
end_more [] ys x f path (inr h) = absurd h
end_more (z ∷ xs) ys x f path (inl e) = in_front path ys (x ∷ []) (f path (inl e))
end_more (z ∷ xs) ys x f path (inr h) = end_more xs ys x (λ p g. f p (inr g)) path h

walk_more : (zs xs ys : List Task) → ((path : List ℕ) → IsIn path xs → IsIn path ys) → InWalk xs zs → InWalk ys zs
walk_more [] xs ys f a = tt
walk_more (z ∷ zs) xs ys f a = (
  follows_more z.thread.who.role z.thread.who.up xs ys f a.0,
  walk_more zs (xs ++ z ∷ []) (ys ++ z ∷ []) (end_more xs ys z f) a.1,
)

-- the parent is among those before, or among those to come
put_behind : (y : Task) (zs seen : List Task) → Follows y.thread.who.role y.thread.who.up (seen ++ zs) → InWalk seen zs →
    InWalk seen (behind_parent y zs)
put_behind y [] seen a b = (subst (Follows y.thread.who.role y.thread.who.up) (append_nil seen) a, tt)
  where
    append_nil : (xs : List Task) → xs ++ [] ≡ xs
    append_nil [] = refl
    append_nil (x ∷ xs) = ap (λ zs. x ∷ zs) (append_nil xs)
put_behind y (x ∷ zs) seen a b = two (same_path y.thread.who.up x.thread.who.path) refl
    (put_behind y zs (seen ++ x ∷ []) (subst (Follows y.thread.who.role y.thread.who.up) (join seen x zs) a) b.1)
  where
    join : (xs : List Task) (x : Task) (zs : List Task) → xs ++ x ∷ zs ≡ (xs ++ x ∷ []) ++ zs
    join [] x zs = refl
    join (z ∷ xs) x zs = ap (λ ys. z ∷ ys) (join xs x zs)

    own : (q : Role) (up : List ℕ) → same_path up x.thread.who.path ≡ true → Follows q up (seen ++ x ∷ [])
    own (root e) up h = tt
    own part up h = in_back up seen (x ∷ []) (inl h)

    two : (t : Bool) → same_path y.thread.who.up x.thread.who.path ≡ t → InWalk (seen ++ x ∷ []) (behind_parent y zs) →
        InWalk seen (cond t (x ∷ y ∷ zs) (x ∷ behind_parent y zs))
    two true e h = (
      b.0,
      (
        own y.thread.who.role y.thread.who.up e,
        walk_more zs (seen ++ x ∷ []) ((seen ++ x ∷ []) ++ y ∷ []) (λ path g. in_front path (seen
            ++ x ∷ []) (y ∷ []) g) b.1,
      ),
    )
    two false e h = (b.0, h)

-- a parent that stands is in the list, in any order
has_in : (up : List ℕ) (n : ℕ) (ts : List Task) → HasParent up n (whos ts) → IsIn up ts
has_in up n [] h = elim h [ ]
has_in up n (t ∷ ts) (here e f) = inl (subst (λ path. same_path up path ≡ true) (sym e) (same_self up))
has_in up n (t ∷ ts) (later h) = inr (has_in up n ts h)

cond_in : (path : List ℕ) (b : Bool) (xs ys : List Task) → IsIn path xs → IsIn path ys → IsIn path (cond b xs ys)
cond_in path true xs ys a b = a
cond_in path false xs ys a b = b

one_in : (path : List ℕ) (y : Task) (zs : List Task) → IsIn path (y ∷ zs) → IsIn path (behind_parent y zs)
one_in path y [] h = h
one_in path y (x ∷ zs) (inl e) = cond_in path (same_path y.thread.who.up x.thread.who.path) (x ∷ y ∷ zs) (x ∷ behind_parent y zs)
    (inr (inl e)) (inr (one_in path y zs (inl e)))
one_in path y (x ∷ zs) (inr (inl e)) = cond_in path (same_path y.thread.who.up x.thread.who.path) (x ∷ y ∷ zs) (x ∷ behind_parent y zs)
    (inl e) (inl e)
one_in path y (x ∷ zs) (inr (inr h)) = cond_in path (same_path y.thread.who.up x.thread.who.path) (x ∷ y ∷ zs) (x ∷ behind_parent y zs)
    (inr (inr h)) (inr (one_in path y zs (inr h)))

walked_in : (path : List ℕ) (ts : List Task) → IsIn path ts → IsIn path (walked ts)
walked_in path [] h = h
walked_in path (y ∷ ys) (inl e) = one_in path y (walked ys) (inl e)
walked_in path (y ∷ ys) (inr h) = one_in path y (walked ys) (inr (walked_in path ys h))

no_both : {A : Type 0} (e : Option ℕ) → root e ≡ part → A
no_both e h = cc

rooted_follows : (left : ℕ) (t : Task) (ts : List Task) → Rooted left (t.thread.who ∷ whos ts) → (q : Role) → t.thread.who.role ≡ q →
    Follows q t.thread.who.up ts
rooted_follows left t ts h (root e) f = tt
rooted_follows left t ts (rooted_root {entry = entry} e f g h) part k = no_both entry (sym e ∙ k)
rooted_follows left t ts (rooted_part e f g h i) part k = has_in t.thread.who.up t.thread.who.number ts h

rooted_rest : (left : ℕ) (w : Who) (ws : List Who) → Rooted left (w ∷ ws) → Rooted left ws
rooted_rest left w ws (rooted_root e f g h) = h
rooted_rest left w ws (rooted_part e f g h i) = i

pub walked_well : (left : ℕ) (ts : List Task) → Rooted left (whos ts) → InWalk [] (walked ts)
walked_well left [] r = tt
walked_well left (y ∷ ys) r = put_behind y (walked ys) []
    (follows_more y.thread.who.role y.thread.who.up ys (walked ys) (λ path h. walked_in path ys h)
    (rooted_follows left y ys r y.thread.who.role refl)) (walked_well left ys (rooted_rest left y.thread.who (whos ys) r))

walk_join : (xs zs seen : List Task) → InWalk seen xs → InWalk (seen ++ xs) zs → InWalk seen (xs ++ zs)
walk_join [] zs seen a b = subst (λ ys. InWalk ys zs) (nil seen) b
  where
    nil : (xs : List Task) → xs ++ [] ≡ xs
    nil [] = refl
    nil (x ∷ xs) = ap (λ zs. x ∷ zs) (nil xs)
walk_join (x ∷ xs) zs seen a b = (a.0, walk_join xs zs (seen ++ x ∷ []) a.1 (subst (λ ys. InWalk ys zs) (join seen x xs) b))
  where
    join : (xs : List Task) (x : Task) (zs : List Task) → xs ++ x ∷ zs ≡ (xs ++ x ∷ []) ++ zs
    join [] x zs = refl
    join (z ∷ xs) x zs = ap (λ ys. z ∷ ys) (join xs x zs)

pub walk_well : (left : ℕ) (tss : Forest) → Each (λ ts. Rooted left (whos ts)) tss → InWalk [] (walk tss)
walk_well left [] r = tt
walk_well left (ts ∷ tss) r = walk_join (walked ts) (walk tss) [] (walked_well left ts r.0)
    (walk_more (walk tss) [] (walked ts) (λ path h. absurd h) (walk_well left tss r.1))

-- the place of a parent that was seen
seen_place : (path : List ℕ) (xs ys : List Task) → IsIn path xs → (p : ℕ) × (place_of path (xs ++ ys) ≡ Some p) × (p < length xs)
seen_place path [] ys h = absurd h
seen_place path (x ∷ xs) ys h = two (same_path path x.thread.who.path) refl h (λ g. seen_place path xs ys g)
  where
    two : (b : Bool) → same_path path x.thread.who.path ≡ b → IsIn path (x ∷ xs) →
        (IsIn path xs → (p : ℕ) × (place_of path (xs ++ ys) ≡ Some p) × (p < length xs)) → (p : ℕ) ×
        (place_of path (x ∷ xs ++ ys) ≡ Some p) × (p < length (x ∷ xs))
    two true e h r = (0, ap (λ b. cond b (Some 0) (option_map suc (place_of path (xs ++ ys)))) e, omega arith)
    two false e (inl g) r = absurd (no (same_path path x.thread.who.path) g e)
      where
        no : (b : Bool) → b ≡ true → b ≡ false → ⊥
        no true e f = cc
        no false e f = cc
    two false e (inr g) r = let a = r g in let b = a.2 in (
      suc a.0,
      ap (λ b. cond b (Some 0) (option_map suc (place_of path (xs ++ ys)))) e ∙ ap (option_map
          suc) a.1,
      omega (arith, b),
    )

eqn_not : (a b : ℕ) → a ≢ b → eqn a b ≡ false
eqn_not a b n = two (eqn a b) refl
  where
    two : (t : Bool) → eqn a b ≡ t → t ≡ false
    two true e = absurd (n (eqn_is a b e))
    two false e = refl

same_test : (e d : ℕ) → eqb e d ≡ eqn e d
same_test e d = by_case (eqb_tells e d)
  where
    by_case : ((eqb e d ≡ true) × (e ≡ d)) ⊎ ((eqb e d ≡ false) × (e ≢ d)) → eqb e d ≡ eqn e d
    by_case (inl h) = h.0 ∙ sym (subst (λ i. eqn e i ≡ true) h.1 (eqn_same e))
    by_case (inr h) = h.0 ∙ sym (eqn_not e d h.1)

module _ (ys : List Task) (names : Each (λ (y : Task). WhoIs y.thread.who) ys) where
  parent_before : (front : List Task) (y : Task) (rest : List Task) → ys ≡ front ++ y ∷ rest → (q : Role) → RoleIs q y.thread.who →
      Follows q y.thread.who.up front → ParentBefore (length front) (kp.task ys y)
  parent_before front y rest e (root d) a b p f =
      absurd (none (place_of y.thread.who.up ys) p (ap (λ up. place_of up ys) a.0 ∙ no_place ys names) f)
    where
      none : (o : Option ℕ) (p : ℕ) → o ≡ None → o ≡ Some p → ⊥
      none None p e f = cc
      none (Some q) p e f = cc
  parent_before front y rest e part a b p f = let s = seen_place y.thread.who.up front (y ∷ rest) b in
      subst (λ n. n < length front) (same_Some s.0 p (sym s.1 ∙ (ap (place_of y.thread.who.up) (sym e) ∙ f))) s.2

  parents_from : (front rest : List Task) → ys ≡ front ++ rest → Each (λ (y : Task). WhoIs y.thread.who) rest → InWalk front rest →
      EachAt ParentBefore (length front) (map (kp.task ys) rest)
  parents_from front [] e a b = tt
  parents_from front (y ∷ rest) e a b = (
    parent_before front y rest e y.thread.who.role a.0 b.0,
    subst (λ n. EachAt ParentBefore n (map (kp.task ys) rest)) (length_more front y)
        (parents_from (front ++ y ∷ []) rest (e ∙ append_one front y rest) a.1 b.1),
  )

  pub parents_fit : InWalk [] ys → EachAt ParentBefore 0 (map (kp.task ys) ys)
  parents_fit a = parents_from [] ys refl names a

  -- Main has one task
  one_root : (front : List Task) (y : Task) (rest : List Task) → ys ≡ front ++ y ∷ rest → (q : Role) → Follows q y.thread.who.up front →
      (n m : ℕ) → n ≤ m → cond (is_child None (place_of y.thread.who.up ys) && is_child None (entry_of q)) (suc n) n ≤ is_main q + m
  one_root front y rest e (root None) b n m h = most (is_child None (place_of y.thread.who.up ys) && true) n m h
    where
      most : (b : Bool) (n m : ℕ) → n ≤ m → cond b (suc n) n ≤ 1 + m
      most true n m h = omega (arith, h)
      most false n m h = omega (arith, h)
  one_root front y rest e (root (Some d)) b n m h = none (is_child None (place_of y.thread.who.up ys)) n m h
    where
      none : (b : Bool) (n m : ℕ) → n ≤ m → cond (b && false) (suc n) n ≤ 0 + m
      none true n m h = omega (arith, h)
      none false n m h = omega (arith, h)
  one_root front y rest e part b n m h = let s = seen_place y.thread.who.up front (y ∷ rest) b in
      subst (λ o. cond (is_child None o && is_child None None) (suc n) n ≤ 0 + m) (sym (ap (place_of y.thread.who.up) e ∙ s.1))
      (omega (arith, h))

  main_from : (front rest : List Task) → ys ≡ front ++ rest → InWalk front rest →
      count (is_root None) (map (kp.task ys) rest) ≤ tasks_sum (λ (t : Task). is_main t.thread.who.role) rest
  main_from front [] e b = omega arith
  main_from front (y ∷ rest) e b = one_root front y rest e y.thread.who.role b.0 (count (is_root None) (map (kp.task ys) rest))
      (tasks_sum (λ (t : Task). is_main t.thread.who.role) rest) (main_from (front ++ y ∷ []) rest (e ∙ append_one front y rest) b.1)

  pub main_fits : InWalk [] ys → count (is_root None) (map (kp.task ys) ys) ≤ tasks_sum (λ (t : Task). is_main t.thread.who.role) ys
  main_fits a = main_from [] ys refl a

  -- a running entry has one task, a finished one none
  of_false : (b : Bool) (n : ℕ) → cond (b && false) (suc n) n ≡ 0 + n
  of_false true n = omega arith
  of_false false n = omega arith

  of_true : (b : Bool) (n : ℕ) → cond b (suc n) n ≡ one b + n
  of_true true n = omega arith
  of_true false n = omega arith

  one_task : (e : ℕ) (y : Task) (q : Role) → RoleIs q y.thread.who → (n : ℕ) →
      cond (is_child None (place_of y.thread.who.up ys) && is_child (Some e) (entry_of q)) (suc n) n ≡ is_task_of e q + n
  one_task e y (root None) a n = of_false (is_child None (place_of y.thread.who.up ys)) n
  one_task e y (root (Some d)) a n = subst (λ o. cond (is_child None o && eqb e d) (suc n) n ≡ one (eqn e d) + n)
      (sym (ap (λ up. place_of up ys) a.0 ∙ no_place ys names))
      (subst (λ b. cond b (suc n) n ≡ one (eqn e d) + n) (sym (same_test e d)) (of_true (eqn e d) n))
  one_task e y part a n = of_false (is_child None (place_of y.thread.who.up ys)) n

  root_counts : (e : ℕ) (rest : List Task) → Each (λ (y : Task). WhoIs y.thread.who) rest →
      count (is_root (Some e)) (map (kp.task ys) rest) ≡ tasks_sum (λ (t : Task). is_task_of e t.thread.who.role) rest
  root_counts e [] a = refl
  root_counts e (y ∷ rest) a = one_task e y y.thread.who.role a.0 (count (is_root (Some e)) (map (kp.task ys) rest)) ∙
      ap (λ n. is_task_of e y.thread.who.role + n) (root_counts e rest a.1)

  each_at : (rs : List (Option Given)) (n : ℕ) (P : ℕ → Option Given → Type 0) →
      ((i : ℕ) (x : Option Given) → nth rs i ≡ Some x → P (n + i) x) → EachAt P n rs
  each_at [] n P f = tt
  each_at (r ∷ rs) n P f = (
    subst (λ i. P i r) (zeroes n) (f 0 r refl),
    each_at rs (suc n) P (λ i x e. subst (λ j. P j x) (sums n i) (f (suc i) x e)),
  )
    where
      zeroes : (n : ℕ) → n + 0 ≡ n
      zeroes n = omega arith

      sums : (n i : ℕ) → n + suc i ≡ suc n + i
      sums n i = omega arith

  runs_as : (x : Option Given) → unfinished (Some x) ≡ runs_once x
  runs_as None = refl
  runs_as (Some g) = refl

  pub roots_fit : (rs : List (Option Given)) →
      ((e : ℕ) → tasks_sum (λ (t : Task). is_task_of e t.thread.who.role) ys ≡ unfinished (nth rs e)) →
      EachAt (HasRoot (map (kp.task ys) ys)) 0 rs
  roots_fit rs f = each_at rs 0 (HasRoot (map (kp.task ys) ys))
      (λ i x e. subst (λ j. count (is_root (Some j)) (map (kp.task ys) ys) ≡ runs_once x) (none i)
      (root_counts i ys names ∙ (f i ∙ (ap unfinished e ∙ runs_as x))))
    where
      none : (i : ℕ) → i ≡ 0 + i
      none i = omega arith
