-- No tree without waits rests: one case for each shape.
use Rattle.std.proofs.Common.{◌≡◌, ℕ, Bool, true, false, List, [], ◌∷◌, ◌++◌, Option, Some, None, cond, refl, sym}
use Rattle.std.proofs.Common.{subst}
use Rattle.verse_base.specs.declared.places.Place.{Place}
use Rattle.verse_tree.specs.Tree.{Bytes, Tree, tree, Shape, Trees, no_trees, more_trees, Holes, no_holes, more_holes}
use Rattle.verse_tree.specs.Tree.{Givens, no_givens, more_givens}
use Rattle.verse_tree.specs.Tree as t
use Rattle.verse_tree.specs.declared.exprs.Operator.TheVariants as op
use Rattle.verse_tree.specs.declared.tables.Ref.{Ref}
use Rattle.verse_tree.specs.declared.tables.Ref.TheVariants as ref
use Rattle.verse_value.specs.Val as v
use Rattle.verse_value.specs.Val.{Val}
use Rattle.verse_meaning_state.specs.State.{State}
use Rattle.verse_names_tables.specs.Names.{Table}
use Rattle.verse_sorts.specs.Sorts as s
use Rattle.verse_sorts.specs.Sorts.{Sort, Fits}
use Rattle.verse_sorts.specs.Typing.{Typing, Grows, Is, is_any, is_list, no_all}
use Rattle.verse_sorts.proofs.Fitting.{is_more, grows_itself, grows_on}
use Rattle.verse_meaning.specs.Programs.{Program, ref_at, trees_list, holes_list, pairs_list, givens_list, pieces}
use Rattle.verse_meaning.specs.Programs.{given_names, same_name}
use Rattle.verse_meaning.specs.Residuals as form
use Rattle.verse_meaning.specs.Residuals.{Env, Form, Binder, Generator, generated}
use Rattle.verse_meaning.specs.Outcomes as o
use Rattle.verse_meaning.specs.Outcomes.{World, Outcome, valued, attempted, if_there, if_known}
use Rattle.verse_meaning.specs.Forms.{this_of, values_of, with_taken}
use Rattle.verse_meaning.specs.Evaluating.{Statement, defines, generates, statement_of, statement_of_shape, callee_of}
use Rattle.verse_meaning.specs.Evaluating.{spawned_callee, picked, number_of, pattern_fits, none_left, base_of, mode_of}
use Rattle.verse_meaning.specs.Evaluating.{class_ref, enum_member, member_form, length_name, ev, ev_shape, statements}
use Rattle.verse_meaning.specs.Evaluating.{inner, inner_shape, all_args, quotient, quotient_tree, quotient_shape}
use Rattle.verse_meaning.specs.Evaluating.{clauses, level, chosen, arm_of, arm_of_shape, spawned, spawned_shape}
use Rattle.verse_meaning.specs.Runs.{deeper}
use Rattle.verse_meaning.specs.Laws.{Calm, Keeps, ContextLeaves, ContextUndoes, CancelLeaves}
use Rattle.verse_sound_rules.specs.Found.{Found, Allowed, tried, looped}
use Rattle.verse_sound_rules.specs.Forms.{Gives}
use Rattle.verse_sound_rules.specs.Programs.{FineFound}
use Rattle.verse_sound_rules.specs.Fine as fine
use Rattle.verse_sound_rules.specs.Fine.{sort_at, sorts_at, hole_sorts, pair_sorts, given_sorts, inner_sort}
use Rattle.verse_sound_rules.specs.Fine.{object_sort}
use Rattle.verse_sound_rules.specs.Fine.{target_sorts, target_sorts_of, on_statement, seen_behind, seen_after}
use Rattle.verse_sound_rules.specs.Fine.{stated_behind, Generates, Defines}
use Rattle.verse_sound_rules.proofs.Both.{both_gives}
use Rattle.verse_sound_trees.specs.Names.{Sees}
use Rattle.verse_sound_trees.specs.Outcomes.{any_names}
use Rattle.verse_sound_trees.specs.Going.{turns, Kept, Comes, Within}
use Rattle.verse_sound_trees.proofs.Names.{sees_more}
use Rattle.verse_sound_trees.proofs.Going.{attempted_typed, gives_value}
use Rattle.verse_sound_trees.specs.Deep.{Known}
use Rattle.verse_sound_trees.proofs.Operands.{list_args}
use Rattle.verse_sound_trees.proofs.Lists.{all_are, holed_are, given_are, paired_are, targets_are, target_list}
use Rattle.verse_sound_trees.proofs.Lists.{target_list_of, IsTarget, IsTargetOf}
use Rattle.verse_sound_trees.proofs.Statements.{head_of, head_sort_of}
use Rattle.verse_sound_trees.proofs.Levels.{Taken, taken_are, generates_taken}
use Rattle.verse_sound_trees.proofs.Trees.{ev_well, all_typed, define_well, clauses_typed, level_typed, head_names}
use Rattle.verse_sound_trees.proofs.Trees.{head_sort}
use Rattle.verse_sound_runs.proofs.Calls.{known_at, at_top}
use Rattle.verse_sound_effects.specs.Opening.{OpenAndClosed}
use Rattle.verse_sound_waits.specs.Waits as waits
use Rattle.verse_sound_waits.specs.Waits.{Stays, FormStays, ObjectStays, no_object, object_stays, NoWaits, NoWaitsIn}
use Rattle.verse_sound_waits.specs.Waits.{NoneWaits}
use Rattle.verse_sound_waits.specs.Calls.{Marked}
use Rattle.verse_sound_waits.proofs.Passing.{told_stays, known_stays, there_is, known_is, valued_stays}
use Rattle.verse_sound_waits.proofs.Passing.{attempted_stays}
use Rattle.verse_sound_waits.proofs.Turns.{Good, named_stays, membered_stays, bool_stays, callee_stays, levelled_stays}
use Rattle.verse_sound_waits.proofs.Turns.{loops_stay, takes_stay, stated_stays}
use Rattle.verse_sound_waits.proofs.Forms.{CallsStay, AllGood, form_stays, stays_with, stays_any}

no_value : {up : ℕ → Option ℕ} {u : Typing} {y : Val} {A : Type 0} → Is up u y s.never → A
no_value i = elim i [ ]

calm_of : (w : World) {x : Outcome} (st : State) → Keeps false w x → x ≡ o.failed st → Calm w.state.clock st.clock
calm_of w st k same = subst (λ x. Keeps false w x) same k

-- a member of an object is no call
member_stays : (p : Program) (f : Found) (suspends : ℕ → Bool) (class : Option ℕ) (r : Option Ref) (x : Bytes)
    (qs : List Sort) → FormStays p f suspends class (member_form r x) qs
member_stays p f suspends class (Some (ref.Field c slot)) x qs = tt
member_stays p f suspends class r x qs = by (same_name x length_name)
  where
    by : (b : Bool) → FormStays p f suspends class (cond b form.measuring form.defining) qs
    by true = tt
    by false = tt

module _ (p : Program) (f : Found) (n : ℕ) (leave : (g : ℕ) → ContextLeaves p g)
    (undo : (g : ℕ) → ContextUndoes p (deeper p g)) (cancel : (g : ℕ) → CancelLeaves p (deeper p g))
    (agree : (g : ℕ) → OpenAndClosed p (deeper p g)) (found : FineFound p f) (suspends : ℕ → Bool)
    (marked : Marked p f suspends) (g : ℕ)
    (calls : CallsStay p f n leave undo cancel agree found suspends marked g) where
  known : Known p f (turns n) g
  known = known_at p f leave undo cancel found n g

  top : Within (turns n) g (turns n) g
  top = at_top p f leave undo cancel found n g

  abbrev Rests : Typing → (World → Outcome) → Type 0
  Rests t go = (u : Typing) (w : World) → Grows t u → Kept p f (turns n) u w → Stays (go w)

  abbrev Quiet : Allowed → Tree → Type 0
  Quiet a b = NoWaits p f suspends a.this b

  comes : (b : Tree) (a : Allowed) (xs : Table) (t : Typing) (e : Env) → fine.Fine p f a xs b → Sees f t a.this xs e →
      (u : Typing) (w : World) → Grows t u → Kept p f (turns n) u w →
      Comes p f (turns n) any_names u a (sort_at p f b) (ev p (deeper p g) b a.waits e w)
  comes b a xs t e h see u w gr k = ev_well p f (turns n) g known b a xs t e h see (turns n) g top tt u w gr k

  abbrev Every : Allowed → Table → Typing → Env → List Tree → List Sort → Type 0
  Every a xs t e ts qs = AllGood p f n leave undo cancel agree found suspends marked g calls a xs t e ts qs

  -- operands in turn, and then a form that stays
  list_rests : (a : Allowed) (xs : Table) (t : Typing) (e : Env) (x : Form) (has : List Sort) (d : Sort)
      (ts : List Tree) → Gives p f a xs x has d → FormStays p f suspends a.this x has → Sees f t a.this xs e →
      Every a xs t e ts has → Rests t (λ w. list_args p (deeper p g) e x [] ts a.waits w)
  list_rests a xs t e x has d ts h i see all =
      form_stays p f n leave undo cancel agree found suspends marked g calls a xs t e x has d ts h i see all

  as_list : (t : Typing) (go on : World → Outcome) → ((w : World) → on w ≡ go w) → Rests t go → Rests t on
  as_list t go on same h u w gr k = subst (λ z. Stays z) (sym (same w)) (h u w gr k)

  args_rest : (a : Allowed) (xs : Table) (t : Typing) (e : Env) (x : Form) (d : Sort) (ts : Trees) →
      Gives p f a xs x (sorts_at p f ts) d → FormStays p f suspends a.this x (sorts_at p f ts) → Sees f t a.this xs e →
      Every a xs t e (trees_list ts) (sorts_at p f ts) → Rests t (λ w. all_args p (deeper p g) ts x [] a.waits e w)
  args_rest a xs t e x d ts h i see all =
      as_list t _ _ (λ w. all_are p (deeper p g) ts x [] a.waits e w)
      (list_rests a xs t e x (sorts_at p f ts) d (trees_list ts) h i see all)

  every_join : (a : Allowed) (xs : Table) (t : Typing) (e : Env) (ts : List Tree) (qs : List Sort) (us : List Tree)
      (rs : List Sort) → Every a xs t e ts qs → Every a xs t e us rs → Every a xs t e (ts ++ us) (qs ++ rs)
  every_join a xs t e [] [] us rs h i = i
  every_join a xs t e [] (q ∷ qs) us rs h i = absurd h
  every_join a xs t e (b ∷ ts) [] us rs h i = absurd h
  every_join a xs t e (b ∷ ts) (q ∷ qs) us rs h i = (h.0, every_join a xs t e ts qs us rs h.1 i)

  mutual
    is_target : (a : Allowed) (xs : Table) (b : Tree) → fine.FineTarget p f a xs b → IsTarget b
    is_target a xs (tree i pl x) h = is_target_of a xs x h

    is_target_of : (a : Allowed) (xs : Table) (x : Shape) → fine.FineTargetOf p f a xs x → IsTargetOf x
    is_target_of a xs (t.Shape.name x) h = tt
    is_target_of a xs (t.Shape.member b x) h = tt
    is_target_of a xs (t.Shape.index b ts) h = is_target a xs b h.0
    is_target_of a xs x h = absurd h

  -- a level of a `for`, whose body is good wherever its names are seen
  abbrev BodyGood : Allowed → Table → Tree → Type 0
  BodyGood a ys b = (u : Typing) (e : Env) → Sees f u a.this ys e →
      Good p f n u a (sort_at p f b) (λ w. ev p (deeper p g) b a.waits e w)

  abbrev Clause : Allowed → Table → Tree → Statement → Type 0
  Clause a xs c x = on_statement x (fine.Fine p f (tried a) xs c)
      (λ y. fine.FineInner p f (tried a) xs c × Fits f.up (inner_sort p f c) (sort_at p f c) ×
      Defines p f y (number_of c) xs) (λ d. ⊥)
      (λ z. fine.FineInner p f (tried a) xs c × Generates p f (number_of c) xs (inner_sort p f c) z)

  level_rests : (ts : Trees) (a : Allowed) (xs : Table) (b : Tree) (y : Val) (q : Sort) (so_far : Val) (pl : Place)
      (t : Typing) (e : Env) → fine.FineClauses p f (tried a) xs ts → fine.Fine p f a (seen_after ts xs) b →
      BodyGood a (seen_after ts xs) b → Sees f t a.this (head_names p f (turns n) g known ts xs) e →
      Is f.up t y (head_sort p f (turns n) g known q ts) → Is f.up t so_far (s.list (sort_at p f b)) → (w : World) →
      Kept p f (turns n) t w →
      Stays (level p (deeper p g) ts b (λ e w. ev p (deeper p g) b a.waits e w) pl e y so_far w)
  level_rests no_trees a xs b y q so_far pl t e h hb good see i j w k =
      let x = good t e see t w grows_itself k in
      valued_stays p f n _ _ x.0 x.1 (λ u x1 z gr kz is. told_stays _ pl e z)
  level_rests (more_trees c ts) a xs b y q so_far pl t e h hb good see i j w k =
      levelled_stays p (deeper p g) (statement_of c) y e so_far w _ _ _
      (λ same. level_rests ts a (seen_behind c xs) b y (sort_at p f c) so_far pl t e h.1 hb good
      (seen_if _ same) (sort_if _ same) j w k)
      (λ z same. level_rests ts a (seen_behind c xs) b y (sort_at p f c) so_far pl t e h.1 hb good
      (seen_if _ same) (sort_if _ same) j w k)
      (λ z same. taken_rests z same (generates_taken p f (turns n) g t a.this xs e (number_of c) (inner_sort p f c) z y
      (subst (λ x. Clause a xs c x) same h.0).1 (seen_if _ same) (sort_if _ same))
      (λ u2 e2 y2 so1 w2 se2 i2 j2 k2. level_rests ts a (seen_behind c xs) b y2 s.any so1 pl u2 e2 h.1 hb good se2 i2 j2
      w2 k2))
    where
      seen_if : (x : Statement) → statement_of c ≡ x → Sees f t a.this
          (head_of p f (turns n) g x xs (head_names p f (turns n) g known ts (seen_behind c xs))) e
      seen_if x same = subst (λ x. Sees f t a.this
          (head_of p f (turns n) g x xs (head_names p f (turns n) g known ts (seen_behind c xs))) e) same see

      sort_if : (x : Statement) → statement_of c ≡ x → Is f.up t y
          (head_sort_of p f (turns n) g x (inner_sort p f c) (head_sort p f (turns n) g known (sort_at p f c) ts))
      sort_if x same = subst (λ x. Is f.up t y
          (head_sort_of p f (turns n) g x (inner_sort p f c) (head_sort p f (turns n) g known (sort_at p f c) ts))) same
          i

      conditions : (z : Generator) → statement_of c ≡ generates z → (u : Typing) (x : Val × Val) (w : World) →
          Sees f u a.this (fine.generated_behind z (number_of c) xs) (with_taken z x e) → Kept p f (turns n) u w →
          Comes p f (turns n) (λ u e. Sees f u a.this (head_names p f (turns n) g known ts (seen_behind c xs)) e) u
          (tried a) (head_sort p f (turns n) g known s.any ts)
          (clauses p (deeper p g) ts false (with_taken z x e) v.unit w)
      conditions z same u x w se kw = clauses_typed p f (turns n) g known ts a (seen_behind c xs) v.unit s.any u
          (with_taken z x e) h.1
          (subst (λ x1. Sees f u a.this (stated_behind x1 (number_of c) xs) (with_taken z x e)) (sym same) se) is_any
          (turns n) g top w kw

      met : (z : Generator) → statement_of c ≡ generates z → (u : Typing) (x : Val × Val) (so1 : Val) (w : World) →
          Sees f u a.this (fine.generated_behind z (number_of c) xs) (with_taken z x e) →
          Is f.up u so1 (s.list (sort_at p f b)) → Kept p f (turns n) u w →
          Comes p f (turns n) any_names u a (s.list (sort_at p f b))
          (attempted (clauses p (deeper p g) ts false (with_taken z x e) v.unit w) w
          (λ e1 y w. level p (deeper p g) ts b (λ e w. ev p (deeper p g) b a.waits e w) pl e1 y so1 w)
          (λ w. o.value e so1 w))
      met z same u x so1 w se j1 kw = attempted_typed p f (turns n) w _ _ kw
          (λ st failed. ((undo g).value_clauses z ts b
          (λ e w. ev p (deeper p g) b a.waits e w) pl e x so1 w st failed).0) (conditions z same u x w se kw)
          (λ u2 e2 y2 w2 gr2 k2 i2 se2. level_typed p f (turns n) g known ts a (seen_behind c xs) b y2 s.any so1 pl u2
          e2
          h.1 (λ u3 e3 se3. ev_well p f (turns n) g known b a (seen_after ts (seen_behind c xs)) u3 e3 hb se3)
          (turns n) g top tt se2 i2 (is_more f.up gr2.grows j1) w2 k2)
          (λ w2 k2. gives_value p f (turns n) e so1 k2 j1)

      taken_rests : (z : Generator) → statement_of c ≡ generates z →
          Taken p f (turns n) g t a.this xs e (number_of c) z y →
          ((u : Typing) (e : Env) (y so1 : Val) (w : World) →
          Sees f u a.this (head_names p f (turns n) g known ts (seen_behind c xs)) e →
          Is f.up u y (head_sort p f (turns n) g known s.any ts) → Is f.up u so1 (s.list (sort_at p f b)) →
          Kept p f (turns n) u w →
          Stays (level p (deeper p g) ts b (λ e w. ev p (deeper p g) b a.waits e w) pl e y so1 w)) →
          Stays (if_there (values_of z y) w (λ vs. (deeper p g).takes
          (λ x so_far w. attempted (clauses p (deeper p g) ts false (with_taken z x e) v.unit w) w
          (λ e1 y w. level p (deeper p g) ts b (λ e w. ev p (deeper p g) b a.waits e w) pl e1 y so_far w)
          (λ w. o.value e so_far w)) (λ vs r. generated e z ts b pl vs r) e vs so_far w))
      taken_rests z same (taken_are {vs} d i1 is are names) next =
          there_is (values_of z y) vs w _ is
          (takes_stay p f n (turns n) g g t a (s.list (sort_at p f b)) d i1 _ _ e vs so_far w are j k
          (λ u x so1 w1 gr j1 j2 j3 k1. (
            met z same u x so1 w1 (names u x gr j1 j2) j3 k1,
            attempted_stays p f n a w1 _ _ k1 (λ st failed. ((undo g).value_clauses z ts b
                (λ e w. ev p (deeper p g) b a.waits e w) pl e x so1 w1 st failed).0)
                (conditions z same u x w1 (names u x gr j1 j2) k1)
                (λ u2 e2 y2 w2 gr2 k2 i2 se2. next u2 e2 y2 so1 w2 se2 i2 (is_more f.up gr2 j3) k2)
                (λ w2 k2. tt),
          )))

  mutual
    pub tree_stays : (b : Tree) (a : Allowed) (xs : Table) (t : Typing) (e : Env) → fine.Fine p f a xs b → Quiet a b →
        Sees f t a.this xs e → Rests t (λ w. ev p (deeper p g) b a.waits e w)
    tree_stays (tree i pl x) a xs t e h m see = shape_stays x a xs i pl t e h m see

    good : (b : Tree) (a : Allowed) (xs : Table) (t : Typing) (e : Env) → fine.Fine p f a xs b → Quiet a b →
        Sees f t a.this xs e → Good p f n t a (sort_at p f b) (λ w. ev p (deeper p g) b a.waits e w)
    good (tree i pl x) a xs t e h m see = λ u w gr k. (
      comes (tree i pl x) a xs t e h see u w gr k,
      shape_stays x a xs i pl t e h m see u w gr k,
    )

    shape_stays : (x : Shape) (a : Allowed) (xs : Table) (i : ℕ) (pl : Place) (t : Typing) (e : Env) →
        fine.FineShape p f a xs i pl x → NoWaitsIn p f suspends a.this x pl → Sees f t a.this xs e →
        Rests t (λ w. ev_shape p (deeper p g) x i pl a.waits e w)
    shape_stays (t.Shape.block ts) a xs i pl t e h m see = λ u w gr k.
        all_stay ts true a xs v.unit u e h.0 m (sees_more f gr see) w k
    shape_stays (t.Shape.definition x b) a xs i pl t e h m see =
        list_rests a xs t e form.defining (sort_at p f b ∷ []) (f.sort i) (b ∷ []) h.1 tt see
        (good b a xs t e h.0 m see, tt)
    shape_stays (t.Shape.typed x y b) a xs i pl t e h m see =
        list_rests a xs t e form.defining (sort_at p f b ∷ []) (f.sort i) (b ∷ []) h.1 tt see
        (good b a xs t e h.0 m see, tt)
    shape_stays (t.Shape.variable x y b) a xs i pl t e h m see =
        list_rests a xs t e (form.varying pl) (sort_at p f b ∷ []) (f.sort i) (b ∷ []) h.1 tt see
        (good b a xs t e h.0 m see, tt)
    shape_stays (t.Shape.assignment y b d) a xs i pl t e h m see =
        as_list t (λ w. list_args p (deeper p g) e (form.storing (base_of p b) (mode_of y) pl) []
        (target_list b ++ d ∷ []) a.waits w) _
        (λ w. targets_are p (deeper p g) b (form.storing (base_of p b) (mode_of y) pl) (d ∷ []) a.waits e w
        (is_target a xs b h.0.0))
        (list_rests a xs t e (form.storing (base_of p b) (mode_of y) pl) (target_sorts p f b ++ sort_at p f d ∷ [])
        (f.sort i) (target_list b ++ d ∷ []) h.2 tt see
        (every_join a xs t e (target_list b) (target_sorts p f b) (d ∷ []) (sort_at p f d ∷ [])
        (target_good b a xs t e h.0.0 m.0 see) (good d a xs t e h.1 m.1 see, tt)))
    shape_stays (t.Shape.returned b) a xs i pl t e h m see =
        list_rests a xs t e form.returning (sort_at p f b ∷ []) (f.sort i) (b ∷ []) h.1 tt see
        (good b a xs t e h.0 m see, tt)
    shape_stays t.Shape.returned_unit a xs i pl t e h m see = λ u w gr k. tt
    shape_stays t.Shape.break_form a xs i pl t e h m see = λ u w gr k. tt
    shape_stays (t.Shape.if_else ts b d) a xs i pl t e h m see = λ u w gr k.
        attempted_stays p f n a w _ _ k (λ st same. calm_of w st ((leave g).conditions ts e w) same)
        (all_typed p f (turns n) g known ts false (tried a) xs v.unit s.any u e h.0 (turns n) g top tt
        (sees_more f gr see) is_any w k)
        (λ u1 e1 y z g1 k1 j se. tree_stays b a (seen_after ts xs) u1 e1 h.1 m.0 se u1 z grows_itself k1)
        (λ z kz. tree_stays d a xs t e h.2 m.1 see u z gr kz)
    shape_stays (t.Shape.if_alone ts b) a xs i pl t e h m see = λ u w gr k.
        attempted_stays p f n a w _ _ k (λ st same. calm_of w st ((leave g).conditions ts e w) same)
        (all_typed p f (turns n) g known ts false (tried a) xs v.unit s.any u e h.0 (turns n) g top tt
        (sees_more f gr see) is_any w k)
        (λ u1 e1 y z g1 k1 j se. tree_stays b a (seen_after ts xs) u1 e1 h.1 m se u1 z grows_itself k1)
        (λ z kz. tt)
    shape_stays (t.Shape.negation b) a xs i pl t e h m see = λ u w gr k.
        attempted_stays p f n a w _ _ k (λ st same. calm_of w st ((leave g).form b e w) same)
        (comes b (tried a) xs t e h.0 see u w gr k) (λ u1 e1 y z g1 k1 j se. tt) (λ z kz. tt)
    shape_stays (t.Shape.option ts) a xs i pl t e h m see = λ u w gr k.
        attempted_stays p f n a w _ _ k (λ st same. calm_of w st ((leave g).conditions ts e w) same)
        (all_typed p f (turns n) g known ts false (tried a) xs v.unit s.any u e h.0 (turns n) g top tt
        (sees_more f gr see) is_any w k) (λ u1 e1 y z g1 k1 j se. told_stays _ pl e z) (λ z kz. tt)
    shape_stays (t.Shape.logic ts) a xs i pl t e h m see = λ u w gr k.
        attempted_stays p f n a w _ _ k (λ st same. calm_of w st ((leave g).conditions ts e w) same)
        (all_typed p f (turns n) g known ts false (tried a) xs v.unit s.any u e h.0 (turns n) g top tt
        (sees_more f gr see) is_any w k) (λ u1 e1 y z g1 k1 j se. tt) (λ z kz. tt)
    shape_stays (t.Shape.chained op.Or b d) a xs i pl t e h m see = λ u w gr k.
        attempted_stays p f n a w _ _ k (λ st same. calm_of w st ((leave g).form b e w) same)
        (comes b (tried a) xs t e h.0 see u w gr k) (λ u1 e1 y z g1 k1 j se. tt)
        (λ z kz. tree_stays d a xs t e h.1 m.1 see u z gr kz)
    shape_stays (t.Shape.for_form ts b) a xs i pl t e h m see = λ u w gr k.
        attempted_stays p f n a w _ _ k (λ st same. ((undo g).first_domain ts b i pl a.waits e w st same).0)
        (clauses_typed p f (turns n) g known ts a xs v.unit s.any u e h.0 (sees_more f gr see) is_any (turns n) g top w
        k)
        (λ u1 e1 y z g1 k1 j se. level_rests ts a xs b y s.any (v.array v.no_vals) pl u1 e1 h.0 h.1
        (λ u2 e2 se2. good b a (seen_after ts xs) u2 e2 h.1 m se2) se j (is_list no_all) z k1)
        (λ z kz. tt)
    shape_stays (t.Shape.chained op.Div b d) a xs i pl t e h m see = absurd h
    shape_stays (t.Shape.chained op.And b d) a xs i pl t e h m see =
        list_rests a xs t e (form.computing op.And (p.is_array i) pl) (sort_at p f b ∷ sort_at p f d ∷ []) (f.sort i)
        (b ∷ d ∷ []) (both_gives p f a xs (p.is_array i) pl (sort_at p f b) (sort_at p f d) (f.sort i) h.2) tt see
        (good b a xs t e h.0 m.0 see, (good d a xs t e h.1 m.1 see, tt))
    shape_stays (t.Shape.chained op.Add b d) a xs i pl t e h m see =
        list_rests a xs t e (form.computing op.Add (p.is_array i) pl) (sort_at p f b ∷ sort_at p f d ∷ []) (f.sort i)
        (b ∷ d ∷ []) h.2 tt see (good b a xs t e h.0 m.0 see, (good d a xs t e h.1 m.1 see, tt))
    shape_stays (t.Shape.chained op.Sub b d) a xs i pl t e h m see =
        list_rests a xs t e (form.computing op.Sub (p.is_array i) pl) (sort_at p f b ∷ sort_at p f d ∷ []) (f.sort i)
        (b ∷ d ∷ []) h.2 tt see (good b a xs t e h.0 m.0 see, (good d a xs t e h.1 m.1 see, tt))
    shape_stays (t.Shape.chained op.Mul b d) a xs i pl t e h m see =
        list_rests a xs t e (form.computing op.Mul (p.is_array i) pl) (sort_at p f b ∷ sort_at p f d ∷ []) (f.sort i)
        (b ∷ d ∷ []) h.2 tt see (good b a xs t e h.0 m.0 see, (good d a xs t e h.1 m.1 see, tt))
    shape_stays (t.Shape.compared x b d) a xs i pl t e h m see =
        list_rests a xs t e (form.comparing x) (sort_at p f b ∷ sort_at p f d ∷ []) (f.sort i) (b ∷ d ∷ []) h.2 tt see
        (good b a xs t e h.0 m.0 see, (good d a xs t e h.1 m.1 see, tt))
    shape_stays (t.Shape.minus b) a xs i pl t e h m see =
        list_rests a xs t e (form.negating pl) (sort_at p f b ∷ []) (f.sort i) (b ∷ []) h.1 tt see
        (good b a xs t e h.0 m see, tt)
    shape_stays (t.Shape.query b) a xs i pl t e h m see =
        list_rests a xs t e form.querying (sort_at p f b ∷ []) (f.sort i) (b ∷ []) h.1 tt see
        (good b a xs t e h.0 m see, tt)
    shape_stays (t.Shape.member b x) a xs i pl t e h m see = λ u w gr k.
        membered_stays p (deeper p g) (enum_member p b x) e w _ _ _ h (λ j.
        list_rests a xs t e (member_form (ref_at p i) x) (sort_at p f b ∷ []) (f.sort i) (b ∷ []) j.1
        (member_stays p f suspends a.this (ref_at p i) x (sort_at p f b ∷ [])) see (good b a xs t e j.0 m see, tt) u w
        gr k)
    shape_stays (t.Shape.call b ts) a xs i pl t e h m see = λ u w gr k.
        callee_stays p f suspends a.this (object_sort p f b) (deeper p g) (callee_of p b (picked ts) pl) w _ _ _ _ _ _ _
        _
        h m.0
        (λ x j l. args_rest a xs t e x (f.sort i) ts j.1 (stays_any p f suspends a.this x (sorts_at p f ts) l) see
        (trees_good ts a xs t e j.0 m.2 see) u w gr k)
        (λ x j l. object_rests b a xs t e x ts (f.sort i) j.0 m.1 (trees_good ts a xs t e j.1 m.2 see) j.2 l see u w gr
        k)
        (λ x j l. list_rests a xs t e x (sort_at p f b ∷ []) (f.sort i) (b ∷ []) j.1
        (stays_any p f suspends a.this x (sort_at p f b ∷ []) l) see (good b a xs t e j.0 m.1 see, tt) u w gr k)
        (λ x j l. quotient_rests ts a xs t e i x j l m.2 see u w gr k)
    shape_stays (t.Shape.index b ts) a xs i pl t e h m see = λ u w gr k.
        callee_stays p f suspends a.this (object_sort p f b) (deeper p g) (callee_of p b form.indexing pl) w _ _ _ _ _ _
        _ _
        h m.0
        (λ x j l. args_rest a xs t e x (f.sort i) ts j.1 (stays_any p f suspends a.this x (sorts_at p f ts) l) see
        (trees_good ts a xs t e j.0 m.2 see) u w gr k)
        (λ x j l. object_rests b a xs t e x ts (f.sort i) j.0 m.1 (trees_good ts a xs t e j.1 m.2 see) j.2 l see u w gr
        k)
        (λ x j l. as_list t (λ w. list_args p (deeper p g) e x [] (b ∷ trees_list ts) a.waits w) _
        (λ w. λ c. valued (ev p (deeper p g) b a.waits e w) (λ z. form.args e x [] z (trees_list ts))
        (λ y z. all_are p (deeper p g) ts x (y ∷ []) a.waits e z c))
        (list_rests a xs t e x (sort_at p f b ∷ sorts_at p f ts) (f.sort i) (b ∷ trees_list ts) j.2
        (stays_any p f suspends a.this x (sort_at p f b ∷ sorts_at p f ts) l) see
        (good b a xs t e j.0.0 m.1 see, trees_good ts a xs t e j.1 m.2 see)) u w gr k)
        (λ x j l. quotient_rests ts a xs t e i x j l m.2 see u w gr k)
    shape_stays (t.Shape.integer z) a xs i pl t e h m see = λ u w gr k. tt
    shape_stays (t.Shape.character c) a xs i pl t e h m see = λ u w gr k. tt
    shape_stays (t.Shape.text x) a xs i pl t e h m see = λ u w gr k. tt
    shape_stays (t.Shape.holes x hs) a xs i pl t e h m see =
        as_list t (λ w. list_args p (deeper p g) e (form.joining (x ∷ pieces hs) pl) [] (holes_list hs) a.waits w) _
        (λ w. holed_are p (deeper p g) hs (form.joining (x ∷ pieces hs) pl) [] a.waits e w)
        (list_rests a xs t e (form.joining (x ∷ pieces hs) pl) (hole_sorts p f hs) (f.sort i) (holes_list hs) h.1 tt see
        (holes_good hs a xs t e h.0 m see))
    shape_stays t.Shape.truth a xs i pl t e h m see = λ u w gr k. tt
    shape_stays t.Shape.falsehood a xs i pl t e h m see = λ u w gr k. tt
    shape_stays t.Shape.this a xs i pl t e h m see = λ u w gr k. known_stays (this_of e) w _ (λ y j. tt)
    shape_stays (t.Shape.name x) a xs i pl t e h m see = λ u w gr k. named_stays p (deeper p g) (ref_at p i) x pl e w
    shape_stays (t.Shape.tuple ts) a xs i pl t e h m see =
        args_rest a xs t e (form.making_tuple pl) (f.sort i) ts h.1 tt see (trees_good ts a xs t e h.0 m see)
    shape_stays (t.Shape.array ts) a xs i pl t e h m see =
        args_rest a xs t e (form.making_array pl) (f.sort i) ts h.1 tt see (trees_good ts a xs t e h.0 m see)
    shape_stays (t.Shape.mapping ps) a xs i pl t e h m see =
        as_list t (λ w. list_args p (deeper p g) e (form.making_map pl) [] (pairs_list ps) a.waits w) _
        (λ w. paired_are p (deeper p g) ps (form.making_map pl) [] a.waits e w)
        (list_rests a xs t e (form.making_map pl) (pair_sorts p f ps) (f.sort i) (pairs_list ps) h.1 tt see
        (pairs_good ps a xs t e h.0.0 m see))
    shape_stays (t.Shape.instance x gs) a xs i pl t e h m see = λ u w gr k.
        known_is (class_ref p (ref_at p i)) h.0 w _ h.1
        (as_list t (λ w. list_args p (deeper p g) e (form.instancing h.0 (given_names gs) pl) [] (givens_list gs)
        a.waits w) _
        (λ w. given_are p (deeper p g) gs (form.instancing h.0 (given_names gs) pl) [] a.waits e w)
        (list_rests a xs t e (form.instancing h.0 (given_names gs) pl) (given_sorts p f gs) (f.sort i) (givens_list gs)
        h.3 tt see (givens_good gs a xs t e h.2 m see)) u w gr k)
    shape_stays (t.Shape.event y) a xs i pl t e h m see = λ u w gr k. told_stays _ pl e w
    shape_stays t.Shape.bare_event a xs i pl t e h m see = λ u w gr k. told_stays _ pl e w
    shape_stays (t.Shape.loop_form b) a xs i pl t e h m see = λ u w gr k.
        loops_stay p f n g (looped h.0 a) (sort_at p f b) u _ (form.looped e b) e w
        (λ u1 w1 g1 k1. good b (looped h.0 a) xs t e h.1 m see u1 w1 (grows_on gr g1) k1) k
    shape_stays (t.Shape.block_form b) a xs i pl t e h m see = tree_stays b a xs t e h.0 m see
    shape_stays (t.Shape.cases b ts) a xs i pl t e h m see = λ u w gr k.
        valued_stays p f n _ _ (comes b a xs t e h.0 see u w gr k) (tree_stays b a xs t e h.0 m.0 see u w gr k)
        (λ u1 y z gr1 kz j. arms_stay ts a xs (sort_at p f b) (f.sort i) u1 e y (some_arms ts a xs _ _ h.1) m.1
        (sees_more f (grows_on gr gr1) see) z kz)
    shape_stays (t.Shape.branch b) a xs i pl t e h m see = absurd m
    shape_stays (t.Shape.sync ts) a xs i pl t e h m see = absurd m
    shape_stays (t.Shape.race ts) a xs i pl t e h m see = absurd m
    shape_stays (t.Shape.rush ts) a xs i pl t e h m see = absurd m
    shape_stays (t.Shape.spawn b) a xs i pl t e h m see = spawned_rests b a xs i t e h m see
    shape_stays (t.Shape.sleep d) a xs i pl t e h m see = absurd m
    shape_stays t.Shape.sleep_forever a xs i pl t e h m see = absurd m
    shape_stays x a xs i pl t e h m see = absurd h

    -- statements in turn
    all_stay : (ts : Trees) (d : Bool) (a : Allowed) (xs : Table) (y : Val) (t : Typing) (e : Env) →
        fine.FineAll p f d a xs ts → NoneWaits p f suspends a.this ts → Sees f t a.this xs e → (w : World) →
        Kept p f (turns n) t w → Stays (statements p (deeper p g) ts a.waits e y w)
    all_stay no_trees d a xs y t e h m see w k = tt
    all_stay (more_trees b ts) d a xs y t e h m see w k =
        stated_stays p f n g (number_of b) d t a xs e (sort_at p f b) (inner_sort p f b) ts _ _ _ w (statement_of b)
        (statement_of b) _ _ _ refl (λ j. good b a xs t e j m.0 see)
        (λ z same j. λ u z1 gr kz. (
          define_well p f (turns n) g known b a xs t e z same j see (turns n) g top tt u z1 gr kz,
          define_stays b a xs t e z same j m.0 see u z1 gr kz,
        )) (same_sort b) see k
        (λ u e1 x1 z gr se j kz. all_stay ts d a (seen_behind b xs) x1 u e1 h.1 m.1 se z kz) h.0
      where
        same_sort : (b : Tree) → sort_at p f b ≡ f.sort (number_of b)
        same_sort b = refl

    -- the part of a definition
    define_stays : (b : Tree) (a : Allowed) (xs : Table) (t : Typing) (e : Env) (z : Binder) →
        statement_of b ≡ defines z → fine.FineInner p f a xs b → Quiet a b → Sees f t a.this xs e →
        Rests t (λ w. inner p (deeper p g) b a.waits e w)
    define_stays (tree i pl x) a xs t e z same h m see = define_shape_stays x a xs pl t e z same h m see

    define_shape_stays : (x : Shape) (a : Allowed) (xs : Table) (pl : Place) (t : Typing) (e : Env) (z : Binder) →
        statement_of_shape x pl ≡ defines z → fine.FineInnerOf p f a xs x → NoWaitsIn p f suspends a.this x pl →
        Sees f t a.this xs e → Rests t (λ w. inner_shape p (deeper p g) x a.waits e w)
    define_shape_stays (t.Shape.definition y b) a xs pl t e z same h m see = tree_stays b a xs t e h m see
    define_shape_stays (t.Shape.typed y ty b) a xs pl t e z same h m see = tree_stays b a xs t e h m see
    define_shape_stays (t.Shape.variable y ty b) a xs pl t e z same h m see = tree_stays b a xs t e h m see
    define_shape_stays (t.Shape.defer b) a xs pl t e z same h m see = cc
    define_shape_stays (t.Shape.elements y b) a xs pl t e z same h m see = cc
    define_shape_stays (t.Shape.entries y1 y b) a xs pl t e z same h m see = cc
    define_shape_stays (t.Shape.range y b d) a xs pl t e z same h m see = cc
    define_shape_stays x a xs pl t e z same h m see = absurd h

    -- operands
    trees_good : (ts : Trees) (a : Allowed) (xs : Table) (t : Typing) (e : Env) → fine.FineTrees p f a xs ts →
        NoneWaits p f suspends a.this ts → Sees f t a.this xs e → Every a xs t e (trees_list ts) (sorts_at p f ts)
    trees_good no_trees a xs t e h m see = tt
    trees_good (more_trees b ts) a xs t e h m see = (good b a xs t e h.0 m.0 see, trees_good ts a xs t e h.1 m.1 see)

    holes_good : (hs : Holes) (a : Allowed) (xs : Table) (t : Typing) (e : Env) → fine.FineHoles p f a xs hs →
        waits.NoHoleWaits p f suspends a.this hs → Sees f t a.this xs e →
        Every a xs t e (holes_list hs) (hole_sorts p f hs)
    holes_good no_holes a xs t e h m see = tt
    holes_good (more_holes b x hs) a xs t e h m see = (good b a xs t e h.0 m.0 see, holes_good hs a xs t e h.1 m.1 see)

    pairs_good : (ps : t.Pairs) (a : Allowed) (xs : Table) (t : Typing) (e : Env) → fine.FinePairs p f a xs ps →
        waits.NoPairWaits p f suspends a.this ps → Sees f t a.this xs e →
        Every a xs t e (pairs_list ps) (pair_sorts p f ps)
    pairs_good t.Pairs.no_pairs a xs t e h m see = tt
    pairs_good (t.Pairs.more_pairs b d ps) a xs t e h m see = (
      good b a xs t e h.0 m.0 see,
      (good d a xs t e h.1 m.1 see, pairs_good ps a xs t e h.2 m.2 see),
    )

    givens_good : (gs : Givens) (a : Allowed) (xs : Table) (t : Typing) (e : Env) → fine.FineGivens p f a xs gs →
        waits.NoGivenWaits p f suspends a.this gs → Sees f t a.this xs e →
        Every a xs t e (givens_list gs) (given_sorts p f gs)
    givens_good no_givens a xs t e h m see = tt
    givens_good (more_givens x b gs) a xs t e h m see =
        (good b a xs t e h.0 m.0 see, givens_good gs a xs t e h.1 m.1 see)

    target_good : (b : Tree) (a : Allowed) (xs : Table) (t : Typing) (e : Env) → fine.FineTarget p f a xs b →
        waits.NoTargetWaits p f suspends a.this b → Sees f t a.this xs e →
        Every a xs t e (target_list b) (target_sorts p f b)
    target_good (tree i pl x) a xs t e h m see = target_shape_good x a xs t e h m see

    target_shape_good : (x : Shape) (a : Allowed) (xs : Table) (t : Typing) (e : Env) → fine.FineTargetOf p f a xs x →
        waits.NoTargetWaitsIn p f suspends a.this x → Sees f t a.this xs e →
        Every a xs t e (target_list_of x) (target_sorts_of p f x)
    target_shape_good (t.Shape.name y) a xs t e h m see = tt
    target_shape_good (t.Shape.member b y) a xs t e h m see = (good b a xs t e h m see, tt)
    target_shape_good (t.Shape.index b ts) a xs t e h m see =
        every_join a xs t e (target_list b) (target_sorts p f b) (trees_list ts) (sorts_at p f ts)
        (target_good b a xs t e h.0 m.0 see) (trees_good ts a xs t e h.1 m.1 see)
    target_shape_good x a xs t e h m see = absurd h

    -- the object of a member, and then the arguments
    object_rests : (b : Tree) (a : Allowed) (xs : Table) (t : Typing) (e : Env) (x : Form) (ts : Trees) (d : Sort) →
        fine.FineObject p f a xs b → Quiet a b → Every a xs t e (trees_list ts) (sorts_at p f ts) →
        Gives p f a xs x (object_sort p f b ∷ sorts_at p f ts) d →
        ObjectStays p f suspends a.this x (object_sort p f b) → Sees f t a.this xs e →
        Rests t (λ w. valued (inner p (deeper p g) b a.waits e w) (λ z. form.args e x [] z (trees_list ts))
        (λ y w. all_args p (deeper p g) ts x (y ∷ []) a.waits e w))
    object_rests (tree i pl y) a xs t e x ts d h m all j l see = object_shape_rests y a xs pl t e x ts d h m all j l see

    object_shape_rests : (y : Shape) (a : Allowed) (xs : Table) (pl : Place) (t : Typing) (e : Env) (x : Form)
        (ts : Trees)
        (d : Sort) → fine.FineObjectOf p f a xs y → NoWaitsIn p f suspends a.this y pl →
        Every a xs t e (trees_list ts) (sorts_at p f ts) →
        Gives p f a xs x (fine.object_sort_of p f y ∷ sorts_at p f ts) d →
        ObjectStays p f suspends a.this x (fine.object_sort_of p f y) → Sees f t a.this xs e →
        Rests t (λ w. valued (inner_shape p (deeper p g) y a.waits e w) (λ z. form.args e x [] z (trees_list ts))
        (λ y w. all_args p (deeper p g) ts x (y ∷ []) a.waits e w))
    object_shape_rests (t.Shape.member b nm) a xs pl t e x ts d h m all j (object_stays l) see =
        as_list t (λ w. list_args p (deeper p g) e x [] (b ∷ trees_list ts) a.waits w) _
        (λ w. λ c. valued (ev p (deeper p g) b a.waits e w) (λ z. form.args e x [] z (trees_list ts))
        (λ y z. all_are p (deeper p g) ts x (y ∷ []) a.waits e z c))
        (list_rests a xs t e x (sort_at p f b ∷ sorts_at p f ts) d (b ∷ trees_list ts) j
        (stays_with p f suspends a.this x (sort_at p f b) (sorts_at p f ts) l) see (good b a xs t e h m see, all))
    object_shape_rests (t.Shape.member b nm) a xs pl t e x ts d h m all j (no_object same) see = λ u w gr k.
        valued_stays p f n _ _ (comes b a xs t e h see u w gr k) (tree_stays b a xs t e h m see u w gr k)
        (λ u1 y z gr1 kz is. no_value (subst (λ q. Is f.up u1 y q) same is))
    object_shape_rests y a xs pl t e x ts d h m all j l see = absurd h

    quotient_rests : (ts : Trees) (a : Allowed) (xs : Table) (t : Typing) (e : Env) (i : ℕ) (x : Form) →
        fine.FineQuotient p f a xs i x ts → FormStays p f suspends a.this x [] →
        NoneWaits p f suspends a.this ts → Sees f t a.this xs e →
        Rests t (λ w. quotient p (deeper p g) ts x a.waits e w)
    quotient_rests no_trees a xs t e i x h l m see = absurd h
    quotient_rests (more_trees b ts) a xs t e i x h l m see = quotient_tree_rests b a xs t e i x h l m.0 see

    quotient_tree_rests : (b : Tree) (a : Allowed) (xs : Table) (t : Typing) (e : Env) (i : ℕ) (x : Form) →
        fine.FineQuotientIn p f a xs i x b → FormStays p f suspends a.this x [] →
        Quiet a b → Sees f t a.this xs e →
        Rests t (λ w. quotient_tree p (deeper p g) b x a.waits e w)
    quotient_tree_rests (tree j pl y) a xs t e i x h l m see = quotient_shape_rests y a xs pl t e i x h l m see

    quotient_shape_rests : (y : Shape) (a : Allowed) (xs : Table) (pl : Place) (t : Typing) (e : Env) (i : ℕ) (x : Form)
        →
        fine.FineQuotientOf p f a xs i x y → FormStays p f suspends a.this x [] →
        NoWaitsIn p f suspends a.this y pl → Sees f t a.this xs e →
        Rests t (λ w. quotient_shape p (deeper p g) y x a.waits e w)
    quotient_shape_rests (t.Shape.chained z b d) a xs pl t e i x h l m see =
        list_rests a xs t e x (sort_at p f b ∷ sort_at p f d ∷ []) (f.sort i) (b ∷ d ∷ []) h.2
        (stays_any p f suspends a.this x (sort_at p f b ∷ sort_at p f d ∷ []) l) see
        (good b a xs t e h.0 m.0 see, (good d a xs t e h.1 m.1 see, tt))
    quotient_shape_rests y a xs pl t e i x h l m see = absurd h

    -- arms of a `case`
    some_arms : (ts : Trees) (a : Allowed) (xs : Table) (q r : Sort) → fine.FineArms p f a xs q r ts →
        fine.FineMoreArms p f a xs q r ts
    some_arms no_trees a xs q r h = absurd h
    some_arms (more_trees b ts) a xs q r h = h

    arms_stay : (ts : Trees) (a : Allowed) (xs : Table) (q r : Sort) (t : Typing) (e : Env) (y : Val) →
        fine.FineMoreArms p f a xs q r ts → NoneWaits p f suspends a.this ts → Sees f t a.this xs e → (w : World) →
        Kept p f (turns n) t w → Stays (chosen p (deeper p g) ts y a.waits e w)
    arms_stay no_trees a xs q r t e y h m see w k = tt
    arms_stay (more_trees b ts) a xs q r t e y h m see w k =
        arm_stays b a xs q r t e y (none_left ts) (λ w. chosen p (deeper p g) ts y a.waits e w) h.0 m.0 see w k
        (arms_stay ts a xs q r t e y h.1 m.1 see w k)

    arm_stays : (b : Tree) (a : Allowed) (xs : Table) (q r : Sort) (t : Typing) (e : Env) (y : Val) (last : Bool)
        (go : World → Outcome) → fine.FineArm p f a xs q r b → Quiet a b → Sees f t a.this xs e → (w : World) →
        Kept p f (turns n) t w → Stays (go w) → Stays (arm_of p (deeper p g) b last y a.waits e w go)
    arm_stays (tree i pl x) a xs q r t e y last go h m see w k next =
        arm_shape_stays x a xs q r pl t e y last go h m see w k next

    arm_shape_stays : (x : Shape) (a : Allowed) (xs : Table) (q r : Sort) (pl : Place) (t : Typing) (e : Env) (y : Val)
        (last : Bool) (go : World → Outcome) → fine.FineArmOf p f a xs q r x → NoWaitsIn p f suspends a.this x pl →
        Sees f t a.this xs e → (w : World) → Kept p f (turns n) t w → Stays (go w) →
        Stays (arm_of_shape p (deeper p g) x last y a.waits e w go)
    arm_shape_stays (t.Shape.arm b d) a xs q r pl t e y last go h m see w k next =
        bool_stays (cond last true (pattern_fits p b y)) _ _ (tree_stays d a xs t e h.0 m see t w grows_itself k) next
    arm_shape_stays x a xs q r pl t e y last go h m see w k next = absurd h

    -- the call that a `spawn` starts
    spawned_rests : (b : Tree) (a : Allowed) (xs : Table) (i : ℕ) (t : Typing) (e : Env) → fine.FineSpawned p f a xs i b
        →
        waits.NoSpawnedWaits p f suspends a.this b → Sees f t a.this xs e →
        Rests t (λ w. spawned p (deeper p g) b a.waits e w)
    spawned_rests (tree j pl x) a xs i t e h m see = spawned_shape_rests x a xs i pl t e h m see

    spawned_shape_rests : (x : Shape) (a : Allowed) (xs : Table) (i : ℕ) (pl : Place) (t : Typing) (e : Env) →
        fine.FineSpawnedOf p f a xs i pl x → waits.NoSpawnedWaitsIn p f suspends a.this x pl → Sees f t a.this xs e →
        Rests t (λ w. spawned_shape p (deeper p g) x pl a.waits e w)
    spawned_shape_rests (t.Shape.call b ts) a xs i pl t e h m see = λ u w gr k.
        callee_stays p f suspends a.this (object_sort p f b) (deeper p g)
        (spawned_callee (callee_of p b (form.picking None) pl)) w _ _ _ _ _ _ _ _ h m.0
        (λ x j l. args_rest a xs t e x (f.sort i) ts j.1 (stays_any p f suspends a.this x (sorts_at p f ts) l) see
        (trees_good ts a xs t e j.0 m.2 see) u w gr k)
        (λ x j l. object_rests b a xs t e x ts (f.sort i) j.0 m.1 (trees_good ts a xs t e j.1 m.2 see) j.2 l see u w gr
        k)
        (λ x j l. tt) (λ x j l. tt)
    spawned_shape_rests x a xs i pl t e h m see = absurd h
