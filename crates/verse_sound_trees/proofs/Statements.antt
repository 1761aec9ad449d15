-- Statements in turn, and the clauses of a `for`.
use Rattle.std.proofs.Common.{◌≡◌, ℕ, Bool, true, false, Option, Some, refl, sym, subst}
use Rattle.verse_tree.specs.Tree.{Trees}
use Rattle.verse_value.specs.Val as v
use Rattle.verse_value.specs.Val.{Val}
use Rattle.verse_names_tables.specs.Names.{Table}
use Rattle.verse_sorts.specs.Sorts as s
use Rattle.verse_sorts.specs.Sorts.{Sort, Fits}
use Rattle.verse_sorts.specs.Typing.{Typing, Grows, Adds, Is, is_var, is_unit}
use Rattle.verse_sorts.proofs.Fitting.{is_more, is_up, grows_itself, grows_on}
use Rattle.verse_meaning.specs.Programs.{Program}
use Rattle.verse_meaning.specs.Residuals.{Env, constant, variable, Binder, no_name, a_constant, a_variable, seq}
use Rattle.verse_meaning.specs.Outcomes.{World, Outcome, valued}
use Rattle.verse_meaning.specs.Forms.{bound_to, variable_bound, defined}
use Rattle.verse_meaning.specs.Evaluating.{Statement, plain, defines, defers, generates, ev, stated, claused, statements, clauses}
use Rattle.verse_meaning.specs.Runs.{deeper}
use Rattle.verse_sound_rules.specs.Found.{Found, Allowed, tried, deferred}
use Rattle.verse_sound_rules.specs.Fine.{Defines, Generates, defined_behind, stated_behind}
use Rattle.verse_sound_trees.specs.Names.{Holds, holds_cell, Sees}
use Rattle.verse_sound_trees.specs.Outcomes.{gives, fails, returns, breaks, faults, ends_steps, waits}
use Rattle.verse_sound_trees.specs.Going.{Level, Kept, Ready, Comes, Within}
use Rattle.verse_sound_trees.proofs.Names.{binds_value, binds_local, sees_more}
use Rattle.verse_sound_trees.proofs.Worlds.{later_itself}
use Rattle.verse_sound_trees.proofs.Going.{Ends, valued_typed, typed_from, Frames, then}
use Rattle.verse_sound_trees.proofs.Storing.{told_then, variable_told}
use Rattle.verse_sound_trees.proofs.Operands.{Well}
use Rattle.verse_sound_trees.proofs.Loops.{defer_typed}

module _ (p : Program) (f : Found) where
  -- the names behind are told where no `defer` may stand among the statements
  abbrev pub EndsIf : Bool → Option ℕ → Table → Typing → Env → Type 0
  EndsIf true c xs u e = Unit {0}
  EndsIf false c xs u e = Sees f u c xs e

  pub ends_as : (l : Level) {E D : Ends} {t : Typing} {a : Allowed} {b : Sort} {x : Outcome} → ((u : Typing) (e : Env) → E u e → D u e) →
      Comes p f l E t a b x → Comes p f l D t a b x
  ends_as l h (gives g k i e) = gives g k i (h _ _ e)
  ends_as l h (fails g) = fails g
  ends_as l h (returns r g j k i) = returns r g j k i
  ends_as l h (breaks g j k) = breaks g j k
  ends_as l h faults = faults
  ends_as l h ends_steps = ends_steps
  ends_as l h (waits g j k r) = waits g j k r

  -- a statement has given its value
  pub defined_typed : (l : Level) (g n : ℕ) {E : Ends} (t : Typing) (a : Allowed) (c : Option ℕ) (xs : Table) (y : Binder) (e : Env)
      (x : Val) (r : Sort) (w : World)
      (go : Env → Val → World → Outcome) → Defines p f y n xs → Sees f t c xs e → Is f.up t x (f.sort n) → Kept p f l t w →
      ((u : Typing) (e1 : Env) (z : World) → Adds t u → Sees f u c (defined_behind y n xs) e1 → Is f.up u x (f.sort n) → Kept p f l u z →
      Comes p f l E u a r (go e1 x z)) → Comes p f l E t a r (defined p (deeper p g) y e x w go)
  unfolding defined
  defined_typed l g n t a c xs no_name e x r w go h see i k next = absurd h
  defined_typed l g n t a c xs (a_constant y) e x r w go h see i k next =
      next t (bound_to y (constant x) e) w Rattle.verse_sorts.proofs.Fitting.adds_itself (binds_value f t e c xs y n x h.0 h.1 i see) i k
  defined_typed l g n {E} t a c xs (a_variable y pl) e x r w go h see i k next =
      told_then p f l w pl e (λ q z. go (variable_bound y q e) x z) k (variable_told p f l a x k i) (λ u q z gr kz j. by u q z gr kz j)
    where
      by : (u : Typing) (q : Val) (z : World) → Adds t u → Kept p f l u z → Is f.up u q (s.var (f.sort n)) →
          Comes p f l E u a r (go (variable_bound y q e) x z)
      by u q z gr kz (is_var {i = m} j) = typed_from p f l (later_itself a.waits u) (next u (bound_to y (variable m) e) z gr
          (binds_local f u e c xs y n (variable m) h.0 (subst (λ b. Holds f u (f.sort n) b (Some (variable m))) (sym h.1) (holds_cell j))
          (sees_more f gr.grows see))
          (is_more f.up gr.grows i) kz)

  module _ (top : Level) (fuel : ℕ) where
    -- a statement, by what it is; q is the sort of its node, qi that of its part
    abbrev pub StatedWell : Bool → Typing → Allowed → Table → Env → ℕ → Sort → Sort → (ℕ → World → Outcome) → (ℕ → World → Outcome) →
        Statement → Type 0
    StatedWell d t a xs e n q qi whole inner plain = Well p f top fuel t a q whole
    StatedWell d t a xs e n q qi whole inner (defines y) = Well p f top fuel t a qi inner × Fits f.up qi (f.sort n) × Defines p f y n xs
    StatedWell d t a xs e n q qi whole inner (defers x) =
        (d ≡ true) × ((z : Sort) × Well p f top fuel t (deferred a) z (λ g w. ev p (deeper p g) x false e w)) × Fits f.up s.unit q
    StatedWell d t a xs e n q qi whole inner (generates g) = ⊥

    seq_frames : (e : Env) (y : Binder) (ts : Trees) → Frames p (λ r. seq e y r ts) (λ g x. valued x (λ r. seq e y r ts)
        (λ x w. defined p (deeper p g) y e x w (λ e x w. statements p (deeper p g) ts true e x w)))
    seq_frames e y ts = record { resumes = λ g r i x w. refl; same_leaves = λ r. refl; kids = λ g r w. refl }

    in_mode : (e : Env) (y : Binder) (ts : Trees) (m : Bool) → m ≡ true → Frames p (λ r. seq e y r ts) (λ g x. valued x (λ r. seq e y r ts)
        (λ x w. defined p (deeper p g) y e x w (λ e x w. statements p (deeper p g) ts m e x w)))
    in_mode e y ts m h = subst (λ m. Frames p (λ r. seq e y r ts) (λ g x. valued x (λ r. seq e y r ts)
        (λ x w. defined p (deeper p g) y e x w (λ e x w. statements p (deeper p g) ts m e x w)))) (sym h) (seq_frames e y ts)

    -- a statement, and those behind it
    pub stated_typed : (d : Bool) (t : Typing) (a : Allowed) (xs ys : Table) (e : Env) (n : ℕ) (qi r : Sort) (ts : Trees)
        (whole inner : ℕ → World → Outcome) (x : Statement) →
        StatedWell d t a xs e n (f.sort n) qi whole inner x → Sees f t a.this xs e →
        ((l : Level) (g : ℕ) → Within top fuel l g → Ready l a.waits → (u : Typing) (e1 : Env) (y : Val) (w : World) → Grows t u →
        Sees f u a.this (stated_behind x n xs) e1 → Is f.up u y (f.sort n) → Kept p f l u w → Comes p f l (EndsIf d a.this ys) u a r
        (statements p (deeper p g) ts a.waits e1 y w)) → (l : Level) (g : ℕ) → Within top fuel l g → Ready l a.waits → (w : World) →
        Kept p f l t w →
        Comes p f l (EndsIf d a.this ys) t a r (stated p (deeper p g) x e ts w (λ w. whole g w) (λ w. inner g w) (λ e y w. statements p
        (deeper p g) ts a.waits e y w))
    unfolding stated defined
    stated_typed d t a xs ys e n qi r ts whole inner plain h see next l g sp rd w k =
        then p f top fuel l g sp t a (f.sort n) r (whole g w) (λ z. seq e no_name z ts)
        (λ g x w. defined p (deeper p g) no_name e x w (λ e x w. statements p (deeper p g) ts a.waits e x w)) rd
        (in_mode e no_name ts a.waits) (λ u r g i. i)
        (h l g sp rd t w grows_itself k)
        (λ l1 g1 u y z s1 r1 gr k1 i. next l1 g1 s1 r1 u e y z gr (sees_more f gr see) i k1)
    stated_typed d t a xs ys e n qi r ts whole inner (defines b) h see next l g sp rd w k =
        then p f top fuel l g sp t a qi r (inner g w) (λ z. seq e b z ts)
        (λ g x w. defined p (deeper p g) b e x w (λ e x w. statements p (deeper p g) ts a.waits e x w)) rd (in_mode e b ts a.waits)
        (λ u r g i. i)
        (h.0 l g sp rd t w grows_itself k)
        (λ l1 g1 u y z s1 r1 gr k1 i. defined_typed l1 g1 n u a a.this xs b e y r z _ h.2 (sees_more f gr see) (is_up f.up i h.1) k1
        (λ o e1 z1 g2 se j k2. next l1 g1 s1 r1 o e1 y z1 (grows_on gr g2.grows) se j k2))
    stated_typed d t a xs ys e n qi r ts whole inner (defers x) h see next l g sp rd w k =
        ends_as l (λ u e1 z. subst (λ d. EndsIf d a.this ys u e1) (sym h.0) tt)
        (defer_typed p f top fuel a h.1.0 x e l g sp t t r _ grows_itself h.1.1 (next l g sp rd t e v.unit w grows_itself see
        (is_up f.up is_unit h.2) k))
    stated_typed d t a xs ys e n qi r ts whole inner (generates g1) h see next l g sp rd w k = absurd h

    -- where the first generator stands among clauses: the names there
    abbrev pub head_of : Statement → Table → Table → Table
    head_of plain xs ys = ys
    head_of (defines y) xs ys = ys
    head_of (defers x) xs ys = ys
    head_of (generates g) xs ys = xs

    -- what the clauses up to it give: its domain, or the last value
    abbrev pub head_sort_of : Statement → Sort → Sort → Sort
    head_sort_of plain qi q = q
    head_sort_of (defines y) qi q = q
    head_sort_of (defers x) qi q = q
    head_sort_of (generates g) qi q = qi

    abbrev pub ClausedWell : Typing → Allowed → Table → ℕ → Sort → (ℕ → World → Outcome) → (ℕ → World → Outcome) → Statement → Type 0
    ClausedWell t a xs n qi whole inner plain = Well p f top fuel t a (f.sort n) whole
    ClausedWell t a xs n qi whole inner (defines y) = Well p f top fuel t a qi inner × Fits f.up qi (f.sort n) × Defines p f y n xs
    ClausedWell t a xs n qi whole inner (defers x) = ⊥
    ClausedWell t a xs n qi whole inner (generates g) = Well p f top fuel t a qi inner × Generates p f n xs qi g

    no_wait : {A : Type 0} → false ≡ true → A
    no_wait h = cc

    pub claused_typed : (l : Level) (g : ℕ) → Within top fuel l g → (t : Typing) (a : Allowed) (xs ys : Table) (e : Env) (n : ℕ)
        (qi r : Sort) (ts : Trees)
        (whole inner : ℕ → World → Outcome) (x : Statement) → ClausedWell t (tried a) xs n qi whole inner x → Sees f t a.this xs e →
        ((u : Typing) (e1 : Env) (y : Val) (w : World) → Grows t u → Sees f u a.this (stated_behind x n xs) e1 → Is f.up u y (f.sort n) →
        Kept p f l u w →
        Comes p f l (λ u e. Sees f u a.this ys e) u (tried a) r (clauses p (deeper p g) ts false e1 y w)) → (w : World) → Kept p f l t w →
        Comes p f l (λ u e. Sees f u a.this (head_of x xs ys) e) t (tried a) (head_sort_of x qi r)
        (claused p (deeper p g) x e w (λ w. whole g w) (λ w. inner g w) (λ e y w. clauses p (deeper p g) ts false e y w))
    unfolding claused
    claused_typed l g sp t a xs ys e n qi r ts whole inner plain h see next w k =
        valued_typed p f l _ _ (h l g sp (Rattle.verse_sound_trees.proofs.Worlds.ready_false l) t w grows_itself k)
        (λ u y z gr k1 i. next u e y z gr.grows (sees_more f gr.grows see) i k1) (λ u r m gr lr. no_wait m)
    claused_typed l g sp t a xs ys e n qi r ts whole inner (defines b) h see next w k =
        valued_typed p f l _ _ (h.0 l g sp (Rattle.verse_sound_trees.proofs.Worlds.ready_false l) t w grows_itself k)
        (λ u y z gr k1 i. defined_typed l g n u (tried a) a.this xs b e y r z _ h.2 (sees_more f gr.grows see) (is_up f.up i h.1) k1
        (λ o e1 z1 g2 se j k2. next o e1 y z1 (grows_on gr.grows g2.grows) se j k2)) (λ u r m gr lr. no_wait m)
    claused_typed l g sp t a xs ys e n qi r ts whole inner (defers x) h see next w k = absurd h
    claused_typed l g sp t a xs ys e n qi r ts whole inner (generates gn) h see next w k =
        valued_typed p f l _ _ (h.0 l g sp (Rattle.verse_sound_trees.proofs.Worlds.ready_false l) t w grows_itself k)
        (λ u y z gr k1 i. gives (later_itself false u) k1 i (sees_more f gr.grows see)) (λ u r m gr lr. no_wait m)
