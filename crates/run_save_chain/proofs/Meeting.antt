-- Trees of tasks that come to the same under two numberings that sort.
use Rattle.std.proofs.Common.{◌≡◌, ℕ, ◌+◌, List, [], ◌∷◌, ◌++◌, Bool, true, false, cond, refl, sym, subst, ap, ◌∙◌, arith}
use Rattle.std.proofs.Common.{◌⊎◌, inl, inr}
use Rattle.std.proofs.lemmas.Bool.{cases_Bool}
use Rattle.verse_value.specs.Val.{Val}
use Rattle.verse_meaning_state.specs.State.{State}
use Rattle.verse_meaning_state.specs.Waits.{eqn}
use Rattle.verse_meaning_state.proofs.Numbers.{eqn_is}
use Rattle.verse_code_machine.specs.Tasks.{Role, root, part, Part, did, runs, Rest, asleep, group, Task, same_path}
use Rattle.verse_code_machine.specs.Ends.{is_run}
use Rattle.verse_code_machine.specs.Runs.{Forest}
use Rattle.verse_code_machine.proofs.Paths.{same_is}
use Rattle.verse_code_machine_saved.specs.Numbers.{Numbering, path_as, parts_as, rest_as, task_as, tasks_as, trees_as, renumbered}
use Rattle.verse_code_machine_saved.proofs.Numbers.{same_as, path_end, eqn_number}
use Rattle.run_save_shots.specs.Lists.{Each}
use Rattle.run_save_fits.specs.Held.{IsSome, RoleIs, WhoIs, tasks_sum, trees_sum, one}
use Rattle.run_save_kept.specs.Orders.{is_named, runs_in, arms_of, in_group, awaits, skips}
use Rattle.run_save_kept.proofs.Paths.{no_run}
use Rattle.run_save_orders.specs.Roots.{Sorts}
use Rattle.run_save_same.proofs.Pairs.{EachPair}
use Rattle.run_save_chain.proofs.Numbered.{stay_apart, one_path}

-- ---- lists

pub first_is : {A : Type 0} {x y : A} {xs ys : List A} → x ∷ xs ≡ y ∷ ys → x ≡ y
first_is e = cc

pub rest_is : {A : Type 0} {x y : A} {xs ys : List A} → x ∷ xs ≡ y ∷ ys → xs ≡ ys
rest_is e = cc

pub none_some : {A B : Type 0} {x : A} {xs : List A} → [] ≡ x ∷ xs → B
none_some e = cc

module _ {A B : Type 0} (R : A → B → Type 0) where
  pub pair_each : (P : A → Type 0) (Q : B → Type 0) → ((x : A) (y : B) → R x y → P x → Q y) → (xs : List A) (ys : List B) →
      EachPair R xs ys → Each P xs → Each Q ys
  pair_each P Q f [] [] a b = tt
  pair_each P Q f [] (y ∷ ys) a b = absurd a
  pair_each P Q f (x ∷ xs) [] a b = absurd a
  pair_each P Q f (x ∷ xs) (y ∷ ys) a b = (f x y a.0 b.0, pair_each P Q f xs ys a.1 b.1)

  pub pair_both : (S : A → B → Type 0) (xs : List A) (ys : List B) → EachPair R xs ys → EachPair S xs ys →
      EachPair (λ x y. R x y × S x y) xs ys
  pair_both S [] [] a b = tt
  pair_both S [] (y ∷ ys) a b = absurd a
  pair_both S (x ∷ xs) [] a b = absurd a
  pair_both S (x ∷ xs) (y ∷ ys) a b = ((a.0, b.0), pair_both S xs ys a.1 b.1)

-- sums over two forests
module _ (R : Task → Task → Type 0) (f g : Task → ℕ) (same : (t u : Task) → R t u → f t ≡ g u) where
  both : (a b x y : ℕ) → a ≡ b → x ≡ y → a + x ≡ b + y
  both a b x y e d = omega (arith, e, d)

  pub tasks_same : (ts us : List Task) → EachPair R ts us → tasks_sum f ts ≡ tasks_sum g us
  tasks_same [] [] a = refl
  tasks_same [] (u ∷ us) a = absurd a
  tasks_same (t ∷ ts) [] a = absurd a
  tasks_same (t ∷ ts) (u ∷ us) a =
      both (f t) (g u) (tasks_sum f ts) (tasks_sum g us) (same t u a.0) (tasks_same ts us a.1)

  pub trees_same : (tss uss : Forest) → EachPair (EachPair R) tss uss → trees_sum f tss ≡ trees_sum g uss
  trees_same [] [] a = refl
  trees_same [] (us ∷ uss) a = absurd a
  trees_same (ts ∷ tss) [] a = absurd a
  trees_same (ts ∷ tss) (us ∷ uss) a =
      both (tasks_sum f ts) (tasks_sum g us) (trees_sum f tss) (trees_sum g uss) (tasks_same ts us a.0) (trees_same tss
      uss a.1)

-- a sum is nothing, or one of the tasks tells something
module _ (R : Task → Task → Type 0) (g : Task → ℕ) (X : Type 0) (some : (t u : Task) → R t u → (g u ≡ 0) ⊎ X) where
  either : (i j : ℕ) → (i ≡ 0) ⊎ X → (j ≡ 0) ⊎ X → (i + j ≡ 0) ⊎ X
  either i j (inr x) b = inr x
  either i j (inl e) (inr x) = inr x
  either i j (inl e) (inl d) = inl (omega (arith, e, d))

  pub tasks_some : (ts us : List Task) → EachPair R ts us → (tasks_sum g us ≡ 0) ⊎ X
  tasks_some [] [] a = inl refl
  tasks_some [] (u ∷ us) a = absurd a
  tasks_some (t ∷ ts) [] a = absurd a
  tasks_some (t ∷ ts) (u ∷ us) a = either (g u) (tasks_sum g us) (some t u a.0) (tasks_some ts us a.1)

  pub trees_some : (tss uss : Forest) → EachPair (EachPair R) tss uss → (trees_sum g uss ≡ 0) ⊎ X
  trees_some [] [] a = inl refl
  trees_some [] (us ∷ uss) a = absurd a
  trees_some (ts ∷ tss) [] a = absurd a
  trees_some (ts ∷ tss) (us ∷ uss) a = either (tasks_sum g us) (trees_sum g uss) (tasks_some ts us a.0) (trees_some tss uss a.1)

-- ---- parts and rests

part_did : {v w : Val} → did v ≡ did w → v ≡ w
part_did e = cc

part_runs : {n k : ℕ} → runs n ≡ runs k → n ≡ k
part_runs e = cc

did_runs : {A : Type 0} {v : Val} {n : ℕ} → did v ≡ runs n → A
did_runs e = cc

pub group_parts : {k l p q : _} {gs hs : List Part} → group k p gs ≡ group l q hs → gs ≡ hs
group_parts e = cc

pub rest_no : {X : Type 0} {w k p : _} {gs : List Part} → asleep w ≡ group k p gs → X
rest_no e = cc

cond_as : (b d : Bool) (x y : ℕ) → b ≡ d → (b ≡ true → d ≡ true → x ≡ y) → cond b x 0 ≡ cond d y 0
cond_as true true x y e f = f refl refl
cond_as false false x y e f = refl
cond_as true false x y e f = absurd (cc)
cond_as false true x y e f = absurd (cc)

cond_same : (b : Bool) (n : ℕ) → cond b n n ≡ n
cond_same true n = refl
cond_same false n = refl

-- ---- two numberings

module _ (s : State) (own other : Numbering) (own_sorts : Sorts own) (other_sorts : Sorts other) where
  abbrev pub A : List ℕ → List ℕ
  A = path_as own

  abbrev pub B : List ℕ → List ℕ
  B = path_as other

  -- a task and the one that comes to the same
  abbrev pub Meet : Task → Task → Type 0
  Meet t u = task_as (renumbered own s) t ≡ task_as (renumbered other s) u

  pub tasks_met : (ts us : List Task) → tasks_as (renumbered own s) ts ≡ tasks_as (renumbered other s) us → EachPair Meet ts us
  tasks_met [] [] e = tt
  tasks_met [] (u ∷ us) e = none_some e
  tasks_met (t ∷ ts) [] e = none_some (sym e)
  tasks_met (t ∷ ts) (u ∷ us) e = (first_is e, tasks_met ts us (rest_is e))

  pub trees_met : (tss uss : Forest) → trees_as (renumbered own s) tss ≡ trees_as (renumbered other s) uss →
      EachPair (EachPair Meet) tss uss
  trees_met [] [] e = tt
  trees_met [] (us ∷ uss) e = none_some e
  trees_met (ts ∷ tss) [] e = none_some (sym e)
  trees_met (ts ∷ tss) (us ∷ uss) e = (tasks_met ts us (first_is e), trees_met tss uss (rest_is e))

  -- ---- names

  pub path_met : (t u : Task) → Meet t u → A t.thread.who.path ≡ B u.thread.who.path
  path_met t u m = ap (λ (t : Task). t.thread.who.path) m

  up_met : (t u : Task) → Meet t u → A t.thread.who.up ≡ B u.thread.who.up
  up_met t u m = ap (λ (t : Task). t.thread.who.up) m

  number_met : (t u : Task) → Meet t u → own t.thread.who.up t.thread.who.number ≡ other u.thread.who.up u.thread.who.number
  number_met t u m = ap (λ (t : Task). t.thread.who.number) m

  role_met : (t u : Task) → Meet t u → t.thread.who.role ≡ u.thread.who.role
  role_met t u m = ap (λ (t : Task). t.thread.who.role) m

  pub some_met : (q p : List ℕ) → A q ≡ B p → IsSome q → IsSome p
  some_met [] p e s = absurd s
  some_met (i ∷ q) [] e s = none_some (sym e)
  some_met (i ∷ q) (j ∷ p) e s = tt

  pub some_was : (q p : List ℕ) → A q ≡ B p → IsSome p → IsSome q
  some_was q [] e s = absurd s
  some_was [] (j ∷ p) e s = none_some e
  some_was (i ∷ q) (j ∷ p) e s = tt

  none_met : (p : List ℕ) → B p ≡ [] → p ≡ []
  none_met [] e = refl
  none_met (j ∷ p) e = none_some (sym e)

  -- one number more
  pub ends_met : (q p : List ℕ) (n k : ℕ) → A q ≡ B p → own q n ≡ other p k → A (q ++ n ∷ []) ≡ B (p ++ k ∷ [])
  ends_met q p n k e d = path_end own (stay_apart own own_sorts) q n ∙
      (ap (λ x. x ++ own q n ∷ []) e ∙ (ap (λ i. B p ++ i ∷ []) d ∙ sym (path_end other (stay_apart other other_sorts) p k)))

  pub who_met : (t u : Task) → Meet t u → WhoIs t.thread.who → WhoIs u.thread.who
  who_met t u m a = subst (λ r. RoleIs r u.thread.who) (role_met t u m) (by t.thread.who.role a)
    where
      by : (r : Role) → RoleIs r t.thread.who → RoleIs r u.thread.who
      by (root entry) b = (
        up,
        one_path other other_sorts u.thread.who.path (u.thread.who.number ∷ []) (sym (path_met t u m) ∙
            (ap A b.1 ∙ ap (λ n. n ∷ []) number)),
      )
        where
          up : u.thread.who.up ≡ []
          up = none_met u.thread.who.up (sym (up_met t u m) ∙ ap A b.0)

          number : own [] t.thread.who.number ≡ other [] u.thread.who.number
          number = subst (λ x. own [] t.thread.who.number ≡ other x u.thread.who.number) up
              (subst (λ x. own x t.thread.who.number ≡ other u.thread.who.up u.thread.who.number) b.0 (number_met t u m))
      by part b = (
        one_path other other_sorts u.thread.who.path (u.thread.who.up ++ u.thread.who.number ∷ [])
            (sym (path_met t u m) ∙ (ap A b.0 ∙ ends_met t.thread.who.up u.thread.who.up t.thread.who.number
            u.thread.who.number (up_met t u m) (number_met t u m))),
        some_met t.thread.who.up u.thread.who.up (up_met t u m) b.1,
      )

  test_met : (q p x y : List ℕ) → A q ≡ B p → A x ≡ B y → same_path q x ≡ same_path p y
  test_met q p x y e d = sym (same_as own (stay_apart own own_sorts) q x) ∙
      (ap (λ z. same_path z (A x)) e ∙ (ap (same_path (B p)) d ∙ same_as other (stay_apart other other_sorts) p y))

  pub named_met : (q p : List ℕ) → A q ≡ B p → (t u : Task) → Meet t u → is_named q t ≡ is_named p u
  named_met q p e t u m = ap one (test_met q p t.thread.who.path u.thread.who.path e (path_met t u m))

  -- a path that comes to the same as this one
  abbrev pub Named : List ℕ → Type 0
  Named p = (q : List ℕ) × (A q ≡ B p)

  pub named_some : (p : List ℕ) (t u : Task) → Meet t u → (is_named p u ≡ 0) ⊎ Named p
  named_some p t u m = by (cases_Bool (same_path p u.thread.who.path))
    where
      by : (same_path p u.thread.who.path ≡ true) ⊎ (same_path p u.thread.who.path ≡ false) → (is_named p u ≡ 0) ⊎ Named p
      by (inl e) = inr (t.thread.who.path, path_met t u m ∙ ap B (sym (same_is p u.thread.who.path e)))
      by (inr e) = inl (ap one e)

  -- ---- arms

  abbrev pub PartMeets : List ℕ → List ℕ → Part → Part → Type 0
  PartMeets x y (did v) (did w) = v ≡ w
  PartMeets x y (did v) (runs k) = ⊥
  PartMeets x y (runs n) (did w) = ⊥
  PartMeets x y (runs n) (runs k) = own x n ≡ other y k

  pub parts_met : (x y : List ℕ) (gs hs : List Part) → parts_as own x gs ≡ parts_as other y hs → EachPair (PartMeets x y) gs hs
  parts_met x y [] [] e = tt
  parts_met x y [] (did w ∷ hs) e = none_some e
  parts_met x y [] (runs k ∷ hs) e = none_some e
  parts_met x y (did v ∷ gs) [] e = none_some (sym e)
  parts_met x y (runs n ∷ gs) [] e = none_some (sym e)
  parts_met x y (did v ∷ gs) (did w ∷ hs) e = (part_did (first_is e), parts_met x y gs hs (rest_is e))
  parts_met x y (runs n ∷ gs) (runs k ∷ hs) e = (part_runs (first_is e), parts_met x y gs hs (rest_is e))
  parts_met x y (did v ∷ gs) (runs k ∷ hs) e = did_runs (first_is e)
  parts_met x y (runs n ∷ gs) (did w ∷ hs) e = did_runs (sym (first_is e))

  eqn_met : (x y : List ℕ) (n k i j : ℕ) → own x n ≡ other y k → own x i ≡ other y j → eqn n i ≡ eqn k j
  eqn_met x y n k i j e d = sym (eqn_number own (stay_apart own own_sorts) x n i) ∙
      (ap (λ z. eqn z (own x i)) e ∙ (ap (eqn (other y k)) d ∙ eqn_number other (stay_apart other other_sorts) y k j))

  runs_met : (x y : List ℕ) (n k : ℕ) → own x n ≡ other y k → (gs hs : List Part) → EachPair (PartMeets x y) gs hs →
      runs_in n gs ≡ runs_in k hs
  runs_met x y n k e [] [] m = refl
  runs_met x y n k e [] (h ∷ hs) m = absurd m
  runs_met x y n k e (g ∷ gs) [] m = absurd m
  runs_met x y n k e (did v ∷ gs) (did w ∷ hs) m = runs_met x y n k e gs hs m.1
  runs_met x y n k e (did v ∷ gs) (runs j ∷ hs) m = absurd m.0
  runs_met x y n k e (runs i ∷ gs) (did w ∷ hs) m = absurd m.0
  runs_met x y n k e (runs i ∷ gs) (runs j ∷ hs) m =
      more (ap one (eqn_met x y n k i j e m.0)) (runs_met x y n k e gs hs m.1)
    where
      more : {a b d f : ℕ} → a ≡ b → d ≡ f → a + d ≡ b + f
      more e f = omega (arith, e, f)

  run_met : (x y : List ℕ) (n k : ℕ) → own x n ≡ other y k → (gs hs : List Part) → EachPair (PartMeets x y) gs hs →
      is_run n gs ≡ is_run k hs
  run_met x y n k e [] [] m = refl
  run_met x y n k e [] (h ∷ hs) m = absurd m
  run_met x y n k e (g ∷ gs) [] m = absurd m
  run_met x y n k e (did v ∷ gs) (did w ∷ hs) m = run_met x y n k e gs hs m.1
  run_met x y n k e (did v ∷ gs) (runs j ∷ hs) m = absurd m.0
  run_met x y n k e (runs i ∷ gs) (did w ∷ hs) m = absurd m.0
  run_met x y n k e (runs i ∷ gs) (runs j ∷ hs) m = ap (λ b. cond b true (is_run n gs)) (eqn_met x y n k i j e m.0) ∙
      ap (cond (eqn k j) true) (run_met x y n k e gs hs m.1)

  -- a number that comes to the same as one of the arms
  has_run : (x y : List ℕ) (k : ℕ) (gs hs : List Part) → EachPair (PartMeets x y) gs hs →
      (is_run k hs ≡ false) ⊎ ((n : ℕ) × (own x n ≡ other y k))
  has_run x y k [] [] m = inl refl
  has_run x y k [] (h ∷ hs) m = absurd m
  has_run x y k (g ∷ gs) [] m = absurd m
  has_run x y k (did v ∷ gs) (did w ∷ hs) m = has_run x y k gs hs m.1
  has_run x y k (did v ∷ gs) (runs j ∷ hs) m = absurd m.0
  has_run x y k (runs i ∷ gs) (did w ∷ hs) m = absurd m.0
  has_run x y k (runs i ∷ gs) (runs j ∷ hs) m = by (cases_Bool (eqn k j)) (has_run x y k gs hs m.1)
    where
      by : (eqn k j ≡ true) ⊎ (eqn k j ≡ false) → (is_run k hs ≡ false) ⊎ ((n : ℕ) × (own x n ≡ other y k)) →
          (cond (eqn k j) true (is_run k hs) ≡ false) ⊎ ((n : ℕ) × (own x n ≡ other y k))
      by (inl e) h = inr (i, m.0 ∙ ap (other y) (sym (eqn_is k j e)))
      by (inr e) (inl h) = inl (ap (λ b. cond b true (is_run k hs)) e ∙ h)
      by (inr e) (inr h) = inr h

  -- ---- groups

  in_met : (f g : List ℕ → List Part → ℕ) (x y : List ℕ) (o p : Rest) → rest_as own x o ≡ rest_as other y p →
      ((gs hs : List Part) → EachPair (PartMeets x y) gs hs → f x gs ≡ g y hs) → in_group f x o ≡ in_group g y p
  in_met f g x y (asleep w) (asleep v) e h = refl
  in_met f g x y (asleep w) (group l j hs) e h = rest_no e
  in_met f g x y (group k i gs) (asleep v) e h = rest_no (sym e)
  in_met f g x y (group k i gs) (group l j hs) e h = h gs hs (parts_met x y gs hs (group_parts e))

  -- the same number beneath the same path
  number_at : (q p x y : List ℕ) (n k : ℕ) → own q n ≡ other p k → same_path q x ≡ true → same_path p y ≡ true → own x n ≡ other y k
  number_at q p x y n k e a b = subst (λ z. own z n ≡ other y k) (same_is q x a)
      (subst (λ z. own q n ≡ other z k) (same_is p y b) e)

  rest_met : (t u : Task) → Meet t u → rest_as own t.thread.who.path t.rest ≡ rest_as other u.thread.who.path u.rest
  rest_met t u m = ap (λ (t : Task). t.rest) m

  pub arms_met : (q p : List ℕ) (n k : ℕ) → A q ≡ B p → own q n ≡ other p k → (t u : Task) → Meet t u → awaits q n t ≡ awaits p k u
  arms_met q p n k e d t u m =
      let x = t.thread.who.path in
      let y = u.thread.who.path in
      in_met (arms_of q n) (arms_of p k) x y t.rest u.rest (rest_met t u m) (λ gs hs a. cond_as (same_path q x) (same_path p y)
      (runs_in n gs) (runs_in k hs) (test_met q p x y e (path_met t u m)) (λ f g. runs_met x y n k (number_at q p x y n k d f g)
      gs hs a))

  pub skips_met : (q p : List ℕ) (n k i j : ℕ) → A q ≡ B p → own q n ≡ other p k → own q i ≡ other p j → (t u : Task) →
      Meet t u →
      in_group (skips q n i) t.thread.who.path t.rest ≡ in_group (skips p k j) u.thread.who.path u.rest
  skips_met q p n k i j e d b t u m =
      let x = t.thread.who.path in
      let y = u.thread.who.path in
      in_met (skips q n i) (skips p k j) x y t.rest u.rest (rest_met t u m) (λ gs hs a. cond_as (same_path q x) (same_path p y)
      (cond (is_run i gs) (cond (is_run n gs) 0 1) 0) (cond (is_run j hs) (cond (is_run k hs) 0 1) 0)
      (test_met q p x y e (path_met t u m)) (λ f g. ap (λ z. cond z (cond (is_run n gs) 0 1) 0)
      (run_met x y i j (number_at q p x y i j b f g) gs hs a) ∙ ap (λ z. cond (is_run j hs) (cond z 0 1) 0)
      (run_met x y n k (number_at q p x y n k d f g) gs hs a)))

  -- an arm that comes to the same as that of the number beneath the path
  abbrev pub Arm : List ℕ → ℕ → Type 0
  Arm p k = (q : List ℕ) × (n : ℕ) × (A q ≡ B p) × (own q n ≡ other p k)

  -- of a count that is nothing beneath another path, or where the arm does not run
  group_some : (p : List ℕ) (k : ℕ) (g : List ℕ → List Part → ℕ) →
      ((y : List ℕ) (hs : List Part) → same_path p y ≡ false → g y hs ≡ 0) →
      ((y : List ℕ) (hs : List Part) → is_run k hs ≡ false → g y hs ≡ 0) → (t u : Task) → Meet t u →
      (in_group g u.thread.who.path u.rest ≡ 0) ⊎ Arm p k
  group_some p k g none idle t u m = by t.rest u.rest (rest_met t u m)
    where
      x : List ℕ
      x = t.thread.who.path

      y : List ℕ
      y = u.thread.who.path

      at_path : (gs hs : List Part) → EachPair (PartMeets x y) gs hs →
          (same_path p y ≡ true) ⊎ (same_path p y ≡ false) → (g y hs ≡ 0) ⊎ Arm p k
      at_path gs hs a (inr e) = inl (none y hs e)
      at_path gs hs a (inl e) = found (has_run x y k gs hs a)
        where
          found : (is_run k hs ≡ false) ⊎ ((n : ℕ) × (own x n ≡ other y k)) → (g y hs ≡ 0) ⊎ Arm p k
          found (inl f) = inl (idle y hs f)
          found (inr h) = inr (
            x,
            h.0,
            path_met t u m ∙ ap B (sym (same_is p y e)),
            subst (λ z. own x h.0 ≡ other z k) (sym (same_is p y e)) h.1,
          )

      by : (o r : Rest) → rest_as own x o ≡ rest_as other y r → (in_group g y r ≡ 0) ⊎ Arm p k
      by (asleep w) (asleep v) e = inl refl
      by (asleep w) (group l j hs) e = rest_no e
      by (group l i gs) (asleep v) e = rest_no (sym e)
      by (group l i gs) (group j o hs) e = at_path gs hs (parts_met x y gs hs (group_parts e)) (cases_Bool (same_path p y))

  pub arms_some : (p : List ℕ) (k : ℕ) (t u : Task) → Meet t u → (awaits p k u ≡ 0) ⊎ Arm p k
  arms_some p k t u m = group_some p k (arms_of p k) (λ y hs e. ap (λ b. cond b (runs_in k hs) 0) e)
      (λ y hs e. ap (λ i. cond (same_path p y) i 0) (no_run k hs e) ∙ cond_same (same_path p y) 0) t u m

  pub skips_some : (p : List ℕ) (n k : ℕ) (t u : Task) → Meet t u →
      (in_group (skips p n k) u.thread.who.path u.rest ≡ 0) ⊎ Arm p k
  skips_some p n k t u m = group_some p k (skips p n k)
      (λ y hs e. ap (λ b. cond b (cond (is_run k hs) (cond (is_run n hs) 0 1) 0) 0) e)
      (λ y hs e. ap (λ b. cond (same_path p y) (cond b (cond (is_run n hs) 0 1) 0) 0) e ∙ cond_same (same_path p y) 0) t u m
