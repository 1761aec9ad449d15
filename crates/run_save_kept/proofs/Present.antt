-- Each arm that runs is a task of its parent's tree.
use Rattle.std.proofs.Common.{◌≡◌, ℕ, suc, ◌+◌, ◌≤◌, ◌<◌, length, List, [], ◌∷◌, ◌++◌, Option, Bool, true, false, cond, refl, sym, subst}
use Rattle.std.proofs.Common.{ap}
use Rattle.std.proofs.Common.{◌∙◌, arith, ◌⊎◌}
use mathlib.Core.Logic.{inl, inr}
use Rattle.std.proofs.lemmas.Bool.{cases_Bool}
use Rattle.verse_base.proofs.Facts.{clash}
use Rattle.verse_code.specs.declared.codes.Code.{Code}
use Rattle.verse_value.specs.Val.{Val}
use Rattle.verse_code_machine.specs.Tasks.{root, part, Who, Part, did, runs, Rest, asleep, group, Task, Up}
use Rattle.verse_code_machine.specs.Tasks.{begins, branching, spawning, clearing, Trees, onto, since, beneath_arms, same_path}
use Rattle.verse_code_machine.specs.Cancelling.{without}
use Rattle.verse_code_machine.specs.Ends.{is_run, with_did}
use Rattle.verse_code_machine.specs.Runs.{Forest}
use Rattle.verse_code_machine_parents.proofs.Lists.{longer, child_longer, Takes, since_takes, arms_takes}
use Rattle.verse_meaning_state.specs.Waits.{eqn, ltn}
use Rattle.verse_meaning_state.proofs.Numbers.{eqn_is}
use Rattle.verse_code_machine.proofs.Paths.{same_is}
use Rattle.run_save_shots.specs.Lists.{Each}
use Rattle.run_save_shots.proofs.Lists.{each_join, each_front, each_back}
use Rattle.run_save_moves.specs.Moves as m
use Rattle.run_save_moves.specs.Moves.{Point, Move, IsArmOf}
use Rattle.run_save_fits.specs.Held.{IsSome, RoleIs, WhoIs, tasks_sum, one}
use Rattle.run_save_fits.proofs.Counted.{one_most}
use Rattle.run_save_kept.specs.Orders.{last, is_named, runs_in, arms_of, in_group, awaits, weight}
use Rattle.run_save_kept.proofs.Paths.{is_same, not_same, end_is, root_no_part, shorter_not, Rises}
use Rattle.run_save_kept.proofs.Paths.{since_rises, arms_rise}
use Rattle.run_save_kept.proofs.Paths.{runs_end, runs_did, no_run, with_fewer, with_most}
use Rattle.run_save_kept.proofs.Sums.{onto_sum, fewer, stays_sum, none_stays, none_sum}
use Rattle.run_save_kept.proofs.Rails.{head, Rail, Railed}
use Rattle.run_save_kept.proofs.Weights.{of_tasks, of_others}
use Rattle.run_save_kept.proofs.Named.{no_arms, has_path, room, Named}

module _ (a : List ℕ) (some : IsSome a) (n : ℕ) where
  abbrev pub child : List ℕ
  child = a ++ n ∷ []

  abbrev pub asked : List Task → ℕ
  asked ts = tasks_sum (awaits a n) ts

  abbrev pub there : List Task → ℕ
  there ts = tasks_sum (is_named child) ts

  -- of the task that stands beneath all in a tree
  abbrev pub lead : Who → List Up → ℕ
  lead w [] = one (same_path child w.path)
  lead w (begins x k p gs i ls ∷ us) = 0
  lead w (branching x ∷ us) = 0
  lead w (spawning x entry ps qs ∷ us) = 0
  lead w (clearing b ts ∷ us) = lead (head b) us

  abbrev pub asked_above : List Up → ℕ
  asked_above [] = 0
  asked_above (begins x k p gs i ls ∷ us) = arms_of a n x.who.path gs + asked_above us
  asked_above (branching x ∷ us) = asked_above us
  asked_above (spawning x entry ps qs ∷ us) = 0
  asked_above (clearing b ts ∷ us) = asked_above us

  abbrev pub there_above : List Up → ℕ
  there_above [] = 0
  there_above (begins x k p gs i ls ∷ us) = lead x.who us + there_above us
  there_above (branching x ∷ us) = lead x.who us + there_above us
  there_above (spawning x entry ps qs ∷ us) = 0
  there_above (clearing b ts ∷ us) = there_above us

  abbrev pub AllThere : ℕ → List Task → List Task → List Up → Type 0
  AllThere v pre post us = asked pre + (asked post + asked_above us) ≤ v + (there pre + (there post + there_above us))

  abbrev pub ThereBelow : List Up → Type 0
  ThereBelow [] = Unit {0}
  ThereBelow (begins x k p gs i ls ∷ us) = ThereBelow us
  ThereBelow (branching x ∷ us) = ThereBelow us
  ThereBelow (spawning x entry ps qs ∷ us) = AllThere (lead x.who us) ps qs us × ThereBelow us
  ThereBelow (clearing b ts ∷ us) = ThereBelow us

  abbrev pub TreesThere : Forest → Type 0
  TreesThere tss = Each (λ ts. asked ts ≤ there ts) tss

  -- the arm that has come to rest is asked for next
  abbrev pub due : List Up → ℕ
  due [] = 0
  due (begins x k p gs i ls ∷ us) = arms_of a n x.who.path (runs i ∷ [])
  due (branching x ∷ us) = 0
  due (spawning x entry ps qs ∷ us) = 0
  due (clearing b ts ∷ us) = 0

  abbrev pub spare : List Up → ℕ
  spare [] = 0
  spare (begins x k p gs i ls ∷ us) = 0
  spare (branching x ∷ us) = 0
  spare (spawning x entry ps qs ∷ us) = 0
  spare (clearing b ts ∷ us) = lead (head b) us

  abbrev pub Others : List Up → Trees → Type 0
  Others us trees = ThereBelow us × TreesThere trees.before × TreesThere trees.behind

  abbrev pub Present : Point → Type 0
  Present (m.acts k) = AllThere (lead k.who k.world.ups) k.world.pre k.world.post k.world.ups × Others k.world.ups k.world.trees
  Present (m.rests pre post us trees s) =
      (due us + (asked pre + (asked post + asked_above us)) ≤ spare us + (there pre + (there post + there_above us))) × Others us trees
  Present (m.gathering k p gs ls x pre post us trees s) =
      (arms_of a n x.who.path gs + (asked pre + (asked post + asked_above us)) ≤ lead x.who us +
      (there pre + (there post + there_above us))) × Others us trees
  Present (m.cancels b ts o s) = AllThere (lead (head b) o.ups) o.pre o.post o.ups × Others o.ups o.trees
  Present (m.going w fs o s) = AllThere (lead w o.ups) o.pre o.post o.ups × Others o.ups o.trees
  Present (m.ended r w v o s) = AllThere (lead w o.ups) o.pre o.post o.ups × Others o.ups o.trees
  Present (m.climbs up i v pre post trees s) = (asked pre + asked post ≤ one (same_path child (up ++ i ∷ [])) + (there pre + there post)) ×
      Others [] trees
  Present (m.wakes i v tss s) = TreesThere tss
  Present (m.turns s tss) = TreesThere tss

  -- ---- what is asked for

  arms_off : (path : List ℕ) (gs : List Part) → same_path a path ≡ false → arms_of a n path gs ≡ 0
  arms_off path gs e = ap (λ t. cond t (runs_in n gs) 0) e

  arms_on : (path : List ℕ) (gs : List Part) → same_path a path ≡ true → arms_of a n path gs ≡ runs_in n gs
  arms_on path gs e = ap (λ t. cond t (runs_in n gs) 0) e

  arms_none : (path : List ℕ) → arms_of a n path [] ≡ 0
  arms_none path = by_test (same_path a path)
    where
      by_test : (t : Bool) → cond t (runs_in n []) 0 ≡ 0
      by_test true = refl
      by_test false = refl

  arms_end : (path : List ℕ) (gs : List Part) (i : ℕ) →
      arms_of a n path (gs ++ runs i ∷ []) ≡ arms_of a n path gs + arms_of a n path (runs i ∷ [])
  arms_end path gs i = by_test (same_path a path)
    where
      by_test : (t : Bool) → cond t (runs_in n (gs ++ runs i ∷ [])) 0 ≡ cond t (runs_in n gs) 0 + cond t (runs_in n (runs i ∷ [])) 0
      by_test true = let h = runs_end n i gs in omega (arith, h)
      by_test false = refl

  arms_did : (path : List ℕ) (gs : List Part) (v : Val) → arms_of a n path (gs ++ did v ∷ []) ≡ arms_of a n path gs
  arms_did path gs v = ap (λ i. cond (same_path a path) i 0) (runs_did n v gs)

  arms_with : (path : List ℕ) (gs : List Part) (i : ℕ) (v : Val) → arms_of a n path (with_did i v gs) ≤ arms_of a n path gs
  arms_with path gs i v = by_test (same_path a path)
    where
      by_test : (t : Bool) → cond t (runs_in n (with_did i v gs)) 0 ≤ cond t (runs_in n gs) 0
      by_test true = with_most i n v gs
      by_test false = omega arith

  none_in : (path : List ℕ) (q : Rest) → same_path a path ≡ false → in_group (arms_of a n) path q ≡ 0
  none_in path (asleep w) e = refl
  none_in path (group k p gs) e = arms_off path gs e

  not_one : (b : Bool) → one b ≡ 0 → b ≡ false
  not_one true e = absurd (never (one true) refl e)
    where
      never : (i : ℕ) → i ≡ 1 → i ≡ 0 → ⊥
      never i e f = omega (arith, e, f)
  not_one false e = refl

  -- no other task has the path, so none asks
  unasked : (ts : List Task) → tasks_sum (weight (has_path a) no_arms) ts ≡ 0 → asked ts ≡ 0
  unasked ts e = none_sum (weight (has_path a) no_arms) (awaits a n)
      (λ t f. none_in t.thread.who.path t.rest (not_one (same_path a t.thread.who.path)
      (second (in_group no_arms t.thread.who.path t.rest) (one (same_path a t.thread.who.path)) f))) ts e
    where
      second : (i j : ℕ) → i + j ≡ 0 → j ≡ 0
      second i j e = omega (arith, e)

  nearer : (i j k : ℕ) → j < i → i ≤ k → j < k
  nearer i j k h e = omega (arith, h, e)

  lower : (i j k : ℕ) → j < i → i ≤ k → j ≤ k
  lower i j k h e = omega (arith, h, e)

  -- those that enclose a task ask for none beneath it
  unasked_above : (w : Who) (us : List Up) → Rail w us → length w.path ≤ length a → asked_above us ≡ 0
  unasked_above w [] r h = refl
  unasked_above w (begins x k p gs i ls ∷ us) r h =
      let g = shorter r.0 in
      let f = arms_off x.who.path gs (shorter_not a x.who.path (nearer (length w.path) (length x.who.path) (length a) g h)) in
      let e = unasked_above x.who us r.1 (lower (length w.path) (length x.who.path) (length a) g h) in omega (arith, f, e)
    where
      shorter : w.path ≡ x.who.path ++ i ∷ [] → length x.who.path < length w.path
      shorter e = subst (λ path. length x.who.path < length path) (sym e) (child_longer x.who.path i)
  unasked_above w (branching x ∷ us) r h = unasked_above x.who us r.1 (lower (length w.path) (length x.who.path) (length a) r.0 h)
  unasked_above w (spawning x entry ps qs ∷ us) r h = refl
  unasked_above w (clearing b ts ∷ us) r h = unasked_above (head b) us r.3 (lower (length w.path) (length (head b).path) (length a) r.0 h)

  -- ---- some are taken out

  module _ (w : Who) (f : List ℕ → Bool) (takes : Takes w.path f) (rises : Rises w.path f) (pre post : List Task) (us : List Up)
      (rail : Rail w us) (alone : a ≡ w.path → (asked pre ≡ 0) × (asked post ≡ 0)) where
    all_stay : f child ≡ false → (ts : List Task) → there (without f ts) ≡ there ts
    all_stay e ts = stays_sum (is_named child) f
        (λ t g. ap one (not_same child t.thread.who.path (λ h. clash (f t.thread.who.path) g (ap f (sym h) ∙ e)))) ts

    none_left : f a ≡ true → (ts : List Task) → asked (without f ts) ≡ 0
    none_left e ts = none_stays (awaits a n) f
        (λ t g. none_in t.thread.who.path t.rest (not_same a t.thread.who.path (λ h. clash (f t.thread.who.path) (ap f (sym h) ∙ e) g))) ts

    pub still_there : (v : ℕ) → AllThere v pre post us → AllThere v (without f pre) (without f post) us
    still_there v h = by_child (cases_Bool (f child))
      where
        by_parent : (f a ≡ true) ⊎ (a ≡ w.path) → AllThere v (without f pre) (without f post) us
        by_parent (inl e) =
            let g = none_left e pre in let i = none_left e post in
            let j = unasked_above w us rail (less (length w.path) (length a) (longer (takes.deeper a e))) in omega (arith, g, i, j)
          where
            less : (i j : ℕ) → i < j → i ≤ j
            less i j e = omega (arith, e)
        by_parent (inr e) =
            let q = alone e in let x = q.0 in let y = q.1 in let g = fewer (awaits a n) f pre in let i = fewer (awaits a n) f post in
            let j = unasked_above w us rail (same (length w.path) (length a) (ap length e)) in omega (arith, x, y, g, i, j)
          where
            same : (i j : ℕ) → j ≡ i → i ≤ j
            same i j e = omega (arith, e)

        by_child : (f child ≡ true) ⊎ (f child ≡ false) → AllThere v (without f pre) (without f post) us
        by_child (inl e) = by_parent (rises.up a n e)
        by_child (inr e) =
            let g = all_stay e pre in let i = all_stay e post in let j = fewer (awaits a n) f pre in let k = fewer (awaits a n) f post in
            omega (arith, h, g, i, j, k)

  -- where the task has the path no other has it
  alone_of : (left : ℕ) (w : Who) (pre post : List Task) (us : List Up) (trees : Trees) →
      has_path a w.path + of_others (has_path a) no_arms pre post us trees ≤ room a left → a ≡ w.path → (asked pre ≡ 0) × (asked post ≡ 0)
  alone_of left w pre post us trees h e =
      let f = ap one (is_same a w.path e) in let g = one_most (ltn left (suc (last a))) in (
        unasked pre (first (has_path a w.path) (of_tasks (has_path a) no_arms pre) (of_tasks (has_path a) no_arms post) _ (room a left) h f
            g),
        unasked post (second (has_path a w.path) (of_tasks (has_path a) no_arms pre) (of_tasks (has_path a) no_arms post) _
            (room a left) h f g),
      )
    where
      first : (i x y z k : ℕ) → i + ((x + y) + z) ≤ k → i ≡ 1 → k ≤ 1 → x ≡ 0
      first i x y z k h f g = omega (arith, h, f, g)

      second : (i x y z k : ℕ) → i + ((x + y) + z) ≤ k → i ≡ 1 → k ≤ 1 → y ≡ 0
      second i x y z k h f g = omega (arith, h, f, g)

  -- ---- a task comes to rest

  rests_there : (w : Who) (us : List Up) → Rail w us → due us + lead w us ≤ one (same_path child w.path) + spare us
  rests_there w [] r = omega arith
  rests_there w (begins x k p gs i ls ∷ us) r = by_test (cases_Bool (same_path a x.who.path)) (cases_Bool (eqn n i))
    where
      by_test : (same_path a x.who.path ≡ true) ⊎ (same_path a x.who.path ≡ false) → (eqn n i ≡ true) ⊎ (eqn n i ≡ false) →
          arms_of a n x.who.path (runs i ∷ []) + 0 ≤ one (same_path child w.path) + 0
      by_test (inl e) (inl f) =
          let g = ap one (is_same child w.path (ap (λ j. a ++ j ∷ []) (eqn_is n i f) ∙
          (ap (λ path. path ++ i ∷ []) (same_is a x.who.path e) ∙ sym r.0))) in
          let h = arms_on x.who.path (runs i ∷ []) e in let j = ap one f in omega (arith, g, h, j)
      by_test (inl e) (inr f) = let h = arms_on x.who.path (runs i ∷ []) e in let j = ap one f in omega (arith, h, j)
      by_test (inr e) f = let h = arms_off x.who.path (runs i ∷ []) e in omega (arith, h)
  rests_there w (branching x ∷ us) r = omega arith
  rests_there w (spawning x entry ps qs ∷ us) r = omega arith
  rests_there w (clearing b ts ∷ us) r = omega arith

  part_path : (w : Who) → w.role ≡ part → WhoIs w → w.path ≡ w.up ++ w.number ∷ []
  part_path w e r = (subst (λ q. RoleIs q w) e r).0

  root_other : (w : Who) (entry : Option ℕ) → w.role ≡ root entry → WhoIs w → one (same_path child w.path) ≡ 0
  root_other w entry e r = ap one (not_same child w.path (λ f. root_no_part a n w.number some (f ∙ (subst (λ q. RoleIs q w) e r).1)))

  -- a tree that rests whole
  tree_there : (pre post : List Task) → asked pre + asked post ≤ there pre + there post → asked (onto pre post) ≤ there (onto pre post)
  tree_there pre post h = let f = onto_sum (awaits a n) pre post in let g = onto_sum (is_named child) pre post in omega (arith, h, f, g)

  among_there : (pre post : List Task) (trees : Trees) → asked pre + asked post ≤ there pre + there post → TreesThere trees.before →
      TreesThere trees.behind → TreesThere (trees.before ++ onto pre post ∷ trees.behind)
  among_there pre post trees h f g = each_join (λ ts. asked ts ≤ there ts) trees.before (onto pre post ∷ trees.behind) f
      (tree_there pre post h, g)

  -- ---- the end of a task that no arm is

  not_asked : (i : ℕ) (path : List ℕ) (q : Rest) → IsArmOf i q false → n ≡ i → in_group (arms_of a n) path q ≡ 0
  not_asked i path (asleep w) h e = refl
  not_asked i path (group k p gs) h e = by_test (same_path a path)
    where
      by_test : (t : Bool) → cond t (runs_in n gs) 0 ≡ 0
      by_test true = no_run n gs (subst (λ j. is_run j gs ≡ false) (sym e) h)
      by_test false = refl

  no_group : (up : List ℕ) (i : ℕ) (v : Val) (y : Task) (pre post : List Task) (trees : Trees) (left : ℕ) →
      same_path up y.thread.who.path ≡ true → IsArmOf i y.rest false →
      has_path a (up ++ i ∷ []) + of_others (has_path a) no_arms pre (y ∷ post) [] trees ≤ room a left →
      asked pre + asked (y ∷ post) ≤ one (same_path child (up ++ i ∷ [])) + (there pre + there (y ∷ post)) →
      asked pre + asked (y ∷ post) ≤ there pre + there (y ∷ post)
  no_group up i v y pre post trees left e q h b = by_test (cases_Bool (same_path child (up ++ i ∷ [])))
    where
      by_test : (same_path child (up ++ i ∷ []) ≡ true) ⊎ (same_path child (up ++ i ∷ []) ≡ false) →
          asked pre + asked (y ∷ post) ≤ there pre + there (y ∷ post)
      by_test (inl f) =
          let g = end_is a up n i (same_is child (up ++ i ∷ []) f) in
          let j = not_asked i y.thread.who.path y.rest q g.1 in
          let k = ap one (is_same a y.thread.who.path (g.0 ∙ same_is up y.thread.who.path e)) in
          let l = one_most (ltn left (suc (last a))) in
          let t = unasked pre (first (has_path a (up ++ i ∷ [])) (in_group no_arms y.thread.who.path y.rest) (has_path a y.thread.who.path)
          (of_tasks (has_path a) no_arms pre) (of_tasks (has_path
          a) no_arms post) _ (room a left) h k l) in
          let u = unasked post (second (has_path a (up ++ i ∷ [])) (in_group no_arms y.thread.who.path y.rest)
          (has_path a y.thread.who.path) (of_tasks (has_path a) no_arms pre) (of_tasks (has_path
          a) no_arms post) _ (room a left) h k l) in
          omega (arith, j, t, u)
        where
          first : (i w j x y z k : ℕ) → i + ((x + ((w + j) + y)) + z) ≤ k → j ≡ 1 → k ≤ 1 → x ≡ 0
          first i w j x y z k h f g = omega (arith, h, f, g)

          second : (i w j x y z k : ℕ) → i + ((x + ((w + j) + y)) + z) ≤ k → j ≡ 1 → k ≤ 1 → y ≡ 0
          second i w j x y z k h f g = omega (arith, h, f, g)
      by_test (inr f) = let g = ap one f in omega (arith, g, b)

  joins : (up : List ℕ) (i : ℕ) (v : Val) (y : Task) (gs : List Part) (pre post : List Task) → same_path up y.thread.who.path ≡ true →
      in_group (arms_of a n) y.thread.who.path y.rest ≡ arms_of a n y.thread.who.path gs → is_run i gs ≡ true →
      asked pre + asked (y ∷ post) ≤ one (same_path child (up ++ i ∷ [])) + (there pre + there (y ∷ post)) →
      arms_of a n y.thread.who.path (with_did i v gs) + (asked pre + (asked post + 0)) ≤ one (same_path child y.thread.who.path) +
      (there pre + (there post + 0))
  joins up i v y gs pre post e q r b = by_test (cases_Bool (same_path child (up ++ i ∷ [])))
    where
      by_test : (same_path child (up ++ i ∷ []) ≡ true) ⊎ (same_path child (up ++ i ∷ []) ≡ false) →
          arms_of a n y.thread.who.path (with_did i v gs) + (asked pre + (asked post + 0)) ≤ one (same_path child y.thread.who.path) +
          (there pre + (there post + 0))
      by_test (inl f) =
          let g = end_is a up n i (same_is child (up ++ i ∷ []) f) in
          let k = is_same a y.thread.who.path (g.0 ∙ same_is up y.thread.who.path e) in
          let h = arms_on y.thread.who.path gs k in let j = arms_on y.thread.who.path (with_did i v gs) k in
          let l = with_fewer n v gs (subst (λ j. is_run j gs ≡ true) (sym g.1) r) in
          let t = ap (λ j. runs_in n (with_did j v gs)) g.1 in
          let u = ap one f in omega (arith, q, b, h, j, l, t, u)
      by_test (inr f) = let g = ap one f in let h = arms_with y.thread.who.path gs i v in omega (arith, q, b, g, h)

  pub present : {c : Code} {x y : Point} → Move c x y → Railed x → Named a x → Present x → Present y
  present (m.stays i) r d b = b
  present m.drops r d b = b
  present (m.enters e i p v) r d b = b
  present (m.suspends {w = w} {o = o} i p q) r d b = let h = rests_there w o.ups r in let g = b.0 in (omega (arith, h, g), b.1)
  present (m.spawns i e h v) r d b = (omega arith, ((b.0, b.1.0), b.1.1, b.1.2))
  present (m.branches i e) r d b = let g = b.0 in (omega (arith, g), b.1)
  present (m.begins_group {w = w} i p) r d b = let h = arms_none w.path in let g = b.0 in (omega (arith, h, g), b.1)
  present (m.returns {w = w} {o = o} {s = s} {f = f} v) r d b = (
    still_there w (since w.path f.life.born) (since_takes w.path f.life.born) (since_rises w.path f.life.born) o.pre o.post o.ups r
        (alone_of
        s.clock.left w o.pre o.post o.ups o.trees d) (lead w o.ups) b.0,
    b.1,
  )
  present (m.finishes {w = w} {o = o} {s = s} {f = f} e v) r d b = (
    still_there w (since w.path f.life.born) (since_takes w.path f.life.born) (since_rises w.path f.life.born) o.pre o.post o.ups r
        (alone_of
        s.clock.left w o.pre o.post o.ups o.trees d) (lead w o.ups) b.0,
    b.1,
  )
  present (m.ends {w = w} {o = o} {s = s} {f = f} e v) r d b = (
    still_there w (since w.path f.life.born) (since_takes w.path f.life.born) (since_rises w.path f.life.born) o.pre o.post o.ups r
        (alone_of
        s.clock.left w o.pre o.post o.ups o.trees d) (lead w o.ups) b.0,
    b.1,
  )
  present (m.dies i) r d b = b
  present (m.arm_begins e) r d b = let g = b.0 in (omega (arith, g), b.1)
  present (m.stands {x = x} {us = us} i) r d b = let h = rests_there x.who us r in let g = b.0 in (omega (arith, h, g), b.1)
  present (m.gathered v) r d b = let g = b.0 in (omega (arith, g), b.1)
  present (m.races {gs = gs} {x = x} {pre = pre} {post = post} {us = us} {trees = trees} {s = s} v) r d b = let g = b.0 in (
    still_there x.who (beneath_arms x.who.path gs) (arms_takes x.who.path gs) (arms_rise x.who.path gs) pre post us r
        (alone_of s.clock.left x.who pre post
        us trees (omega (arith, d))) (lead x.who us) (omega (arith, g)),
    b.1,
  )
  present (m.rests_alone {pre = pre} {post = post} {trees = trees}) r d b = let g =
      b.0 in among_there pre post trees (omega (arith, g)) b.1.1 b.1.2
  present (m.rests_arm {gs = gs} {n = i} {x = x}) r d b = let g = b.0 in let h = arms_end x.who.path gs i in (omega (arith, g, h), b.1)
  present m.rests_behind r d b = let g = b.0 in (omega (arith, g), b.1)
  present (m.rests_spawned {pre = pre} {post = post} {trees = trees}) r d b = let g = b.0 in (
    b.1.0.0,
    (
      b.1.0.1,
      b.1.1,
      each_join (λ ts. asked ts ≤ there ts) trees.behind (onto pre post ∷ []) b.1.2 (tree_there pre post (omega (arith, g)), tt),
    ),
  )
  present m.resumes r d b = b
  present m.closes r d b = b
  present m.gives_result r d b = b
  present m.cancels_next r d b = b
  present m.all_gone r d b = b
  present m.frame_gone r d b = b
  present (m.frame_clears e i) r d b = b
  present (m.ended_alone {w = w}) r d b = let g = b.0 in let h =
      ap (λ path. one (same_path child path)) (part_path w r.0 r.1) in (omega (arith, g, h), b.1)
  present (m.ended_arm {v = v} {gs = gs} {x = x}) r d b = let g = b.0 in let h = arms_did x.who.path gs v in (omega (arith, g, h), b.1)
  present m.ended_behind r d b = let g = b.0 in (omega (arith, g), b.1)
  present (m.ended_root {w = w} {entry = entry} {pre = pre} {post = post} {trees = trees}) r d b =
      let g = b.0 in let h = root_other w entry r.0 r.1 in among_there pre post trees (omega (arith, g, h)) b.1.1 b.1.2
  present m.ended_spawned r d b = (b.1.0.0, (b.1.0.1, b.1.1, b.1.2))
  present (m.climbs_on e) r d b = let g = b.0 in (omega (arith, g), b.1)
  present (m.joins_no_group {up = up} {n = i} {v = v} {y = y} {pre = pre} {post = post} {trees = trees} {s = s} e q) r d b =
      among_there pre (y ∷ post) trees (no_group up i v y pre post trees s.clock.left e q d b.0) b.1.1 b.1.2
  present (m.joins {up = up} {n = i} {v = v} {y = y} {k = k} {p = p} {gs = gs} {pre = pre} {post = post} e q t) r d b =
      (joins up i v y gs pre post e (ap (in_group (arms_of a n) y.thread.who.path) q) t b.0, b.1)
  present (m.woken {before = before} {behind = behind} {pre = pre} {post = post} {y = y} e q i) r d b =
      let t = subst TreesThere e b in let u = each_back (λ ts. asked ts ≤ there ts) before (onto pre (y ∷ post) ∷ behind) t in
      let g = u.0 in let h = onto_sum (awaits a n) pre (y ∷ post) in let j = onto_sum (is_named child) pre (y ∷ post) in (
        omega (arith, g, h, j),
        (tt, each_front (λ ts. asked ts ≤ there ts) before (onto pre (y ∷ post) ∷ behind) t, u.1),
      )
