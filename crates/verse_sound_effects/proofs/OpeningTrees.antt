-- With a failure context open, and with none, through every form, and at every depth.
use Rattle.std.proofs.Common.{ℕ, zero, suc, List, [], ◌∷◌, ◌++◌, Option, Some, None, Bool, true, false, cond}
use Rattle.verse_base.specs.declared.places.Place.{Place}
use Rattle.verse_tree.specs.Tree.{Tree, tree, Shape, Trees, no_trees, more_trees, Holes, no_holes, more_holes, Givens}
use Rattle.verse_tree.specs.Tree.{no_givens}
use Rattle.verse_tree.specs.Tree.{more_givens}
use Rattle.verse_tree.specs.Tree as t
use Rattle.verse_tree.specs.declared.exprs.Operator.TheVariants as op
use Rattle.verse_value.specs.Val.{Val, unit}
use Rattle.verse_meaning.specs.Programs.{Program, ref_at, fun_at}
use Rattle.verse_meaning.specs.Residuals as form
use Rattle.verse_meaning.specs.Residuals.{Env, Form, Generator, Values, Residual, body}
use Rattle.verse_meaning.specs.Outcomes.{World, Outcome}
use Rattle.verse_meaning.specs.Forms.{Deeper, values_of, next_value}
use Rattle.verse_meaning.specs.Evaluating.{Statement, plain, defines, defers, generates, statement_of, Callee, alone}
use Rattle.verse_meaning.specs.Evaluating.{of_object, of_value}
use Rattle.verse_meaning.specs.Evaluating.{of_quotient, no_callee, spawned_callee, mode_of, on_bool, callee_of, base_of}
use Rattle.verse_meaning.specs.Evaluating.{enum_member}
use Rattle.verse_meaning.specs.Evaluating.{picked, none_left, class_ref, pattern_fits, stated, claused, generates_from}
use Rattle.verse_meaning.specs.Evaluating.{levelled}
use Rattle.verse_meaning.specs.Evaluating.{by_callee, member_form, membered, ev, ev_shape, statements, inner}
use Rattle.verse_meaning.specs.Evaluating.{inner_shape, all_args, holed}
use Rattle.verse_meaning.specs.Evaluating.{paired_args, given_args, quotient, quotient_tree, quotient_shape, targets}
use Rattle.verse_meaning.specs.Evaluating.{targets_shape}
use Rattle.verse_meaning.specs.Evaluating.{indices, clauses, level, chosen, arm_of, arm_of_shape, spawned}
use Rattle.verse_meaning.specs.Evaluating.{spawned_shape}
use Rattle.verse_meaning.specs.Runs.{deeper, with_params, with_this}
use Rattle.verse_sound_effects.specs.Opening.{SameOrStuck, same, ContextsChangeNothing}
use Rattle.verse_sound_effects.proofs.Opening.{valued_opens, attempted_opens, turned_opens, closing_opens, called_opens}
use Rattle.verse_sound_effects.proofs.Opening.{there_opens}
use Rattle.verse_sound_effects.proofs.Opening.{known_opens, outside_opens, spends_opens, next_opens}
use Rattle.verse_sound_effects.proofs.OpeningForms.{DeeperOpens, apply_opens, defined_opens}

module _ (p : Program) (k : Deeper) (d : DeeperOpens k) where
  stated_opens : (x : Statement) (e : Env) (left : Trees) (w : World) (whole whole' inner inner' : World → Outcome)
      (go go' : Env → Val → World → Outcome) → ((u : World) → SameOrStuck (whole u) (whole' u)) →
      ((u : World) → SameOrStuck (inner u) (inner' u)) → ((e : Env) (v : Val) (u : World) →
      SameOrStuck (go e v u) (go' e v u)) →
      SameOrStuck (stated p k x e left w whole inner go) (stated p k x e left w whole' inner' go')
  unfolding stated
  stated_opens plain e left w whole whole' inner inner' go go' f g h = valued_opens _ _ _ (f w) (λ v u. h e v u)
  stated_opens (defines b) e left w whole whole' inner inner' go go' f g h =
      valued_opens _ _ _ (g w) (λ v u. defined_opens p k d b e v u go go' h)
  stated_opens (defers a) e left w whole whole' inner inner' go go' f g h = closing_opens _ _ e (h e unit w)
  stated_opens (generates x) e left w whole whole' inner inner' go go' f g h = same

  claused_opens : (x : Statement) (e : Env) (w : World) (whole whole' inner inner' : World → Outcome)
      (go go' : Env → Val → World → Outcome) → ((u : World) → SameOrStuck (whole u) (whole' u)) →
      ((u : World) → SameOrStuck (inner u) (inner' u)) → ((e : Env) (v : Val) (u : World) →
      SameOrStuck (go e v u) (go' e v u)) →
      SameOrStuck (claused p k x e w whole inner go) (claused p k x e w whole' inner' go')
  unfolding claused
  claused_opens plain e w whole whole' inner inner' go go' f g h = valued_opens _ _ _ (f w) (λ v u. h e v u)
  claused_opens (defines b) e w whole whole' inner inner' go go' f g h =
      valued_opens _ _ _ (g w) (λ v u. defined_opens p k d b e v u go go' h)
  claused_opens (defers a) e w whole whole' inner inner' go go' f g h = same
  claused_opens (generates x) e w whole whole' inner inner' go go' f g h = valued_opens _ _ _ (g w) (λ v u. same)

  from_opens : (g : Generator) (v : Val) (e : Env) (so_far : Val) (w : World) (go go' : Val × Val → Val → World →
      Outcome)
      (wrap : Values → Residual → Residual) → ((x : Val × Val) (a : Val) (u : World) →
      SameOrStuck (go x a u) (go' x a u)) →
      SameOrStuck (generates_from p k g v e so_far w go wrap) (generates_from p k g v e so_far w go' wrap)
  unfolding generates_from
  from_opens g v e so_far w go go' wrap f = there_opens (values_of g v) w _ _
      (λ vs. d.takes go go' wrap e vs so_far w f)

  levelled_opens : (x : Statement) (v : Val) (e : Env) (so_far : Val) (w : World) (on_go on_go' : World → Outcome)
      (taken taken' : Generator → Val × Val → Val → World → Outcome) (wrap : Generator → Values → Residual → Residual) →
      SameOrStuck (on_go w) (on_go' w) →
      ((g : Generator) (x : Val × Val) (a : Val) (u : World) → SameOrStuck (taken g x a u) (taken' g x a u)) →
      SameOrStuck (levelled p k x v e so_far w on_go taken wrap) (levelled p k x v e so_far w on_go' taken' wrap)
  unfolding levelled
  levelled_opens plain v e so_far w on_go on_go' taken taken' wrap a f = a
  levelled_opens (defines b) v e so_far w on_go on_go' taken taken' wrap a f = a
  levelled_opens (defers b) v e so_far w on_go on_go' taken taken' wrap a f = same
  levelled_opens (generates g) v e so_far w on_go on_go' taken taken' wrap a f =
      from_opens g v e so_far w (taken g) (taken' g) (wrap g) (f g)

  callee_opens : (c : Callee) (w : World) (f1 f1' f2 f2' f3 f3' f4 f4' : Form → World → Outcome) →
      ((f : Form) → SameOrStuck (f1 f w) (f1' f w)) → ((f : Form) → SameOrStuck (f2 f w) (f2' f w)) →
      ((f : Form) → SameOrStuck (f3 f w) (f3' f w)) → ((f : Form) → SameOrStuck (f4 f w) (f4' f w)) →
      SameOrStuck (by_callee p k c w f1 f2 f3 f4) (by_callee p k c w f1' f2' f3' f4')
  unfolding by_callee
  callee_opens (alone f) w f1 f1' f2 f2' f3 f3' f4 f4' a b c d = a f
  callee_opens (of_object f) w f1 f1' f2 f2' f3 f3' f4 f4' a b c d = b f
  callee_opens (of_value f) w f1 f1' f2 f2' f3 f3' f4 f4' a b c d = c f
  callee_opens (of_quotient f) w f1 f1' f2 f2' f3 f3' f4 f4' a b c d = d f
  callee_opens no_callee w f1 f1' f2 f2' f3 f3' f4 f4' a b c d = same

  membered_opens : (v : Option Val) (e : Env) (w : World) (go go' : World → Outcome) → SameOrStuck (go w) (go' w) →
      SameOrStuck (membered p k v e w go) (membered p k v e w go')
  unfolding membered
  membered_opens (Some v) e w go go' a = same
  membered_opens None e w go go' a = a

  bool_opens : (b : Bool) (f f' g g' : Bool → Outcome) → SameOrStuck (f true) (f' true) →
      SameOrStuck (g false) (g' false) →
      SameOrStuck (on_bool b f g) (on_bool b f' g')
  bool_opens true f f' g g' x y = x
  bool_opens false f f' g g' x y = y

  mutual
    pub ev_opens : (a : Tree) (e : Env) (w : World) → SameOrStuck (ev p k a false e w) (ev p k a true e w)
    ev_opens (tree n pl s) e w = shape_opens s n pl e w

    shape_opens : (s : Shape) (n : ℕ) (pl : Place) (e : Env) (w : World) →
        SameOrStuck (ev_shape p k s n pl false e w) (ev_shape p k s n pl true e w)
    shape_opens (t.Shape.block cs) n pl e w = statements_open cs e unit w
    shape_opens (t.Shape.defer a) n pl e w = same
    shape_opens (t.Shape.definition x a) n pl e w = valued_opens _ _ _ (ev_opens a e w) (λ v u. same)
    shape_opens (t.Shape.typed x ty a) n pl e w = valued_opens _ _ _ (ev_opens a e w) (λ v u. same)
    shape_opens (t.Shape.variable x ty a) n pl e w =
        valued_opens _ _ _ (ev_opens a e w) (λ v u. apply_opens p k d (form.varying pl) (v ∷ []) e u)
    shape_opens (t.Shape.assignment x a b) n pl e w =
        targets_open a (form.storing (base_of p a) (mode_of x) pl) (b ∷ []) e w _ _ (λ vs u. valued_opens _ _ _
        (ev_opens b e u)
        (λ v z. apply_opens p k d (form.storing (base_of p a) (mode_of x) pl) (vs ++ v ∷ []) e z))
    shape_opens (t.Shape.returned a) n pl e w = valued_opens _ _ _ (ev_opens a e w) (λ v u. same)
    shape_opens t.Shape.returned_unit n pl e w = same
    shape_opens t.Shape.break_form n pl e w = same
    shape_opens (t.Shape.if_else cs a b) n pl e w =
        attempted_opens (statements p k cs false e unit w) w _ _ _ _ (λ e v u. ev_opens a e u) (λ u. ev_opens b e u)
    shape_opens (t.Shape.if_alone cs a) n pl e w =
        attempted_opens (statements p k cs false e unit w) w _ _ _ _ (λ e v u. ev_opens a e u) (λ u. same)
    shape_opens (t.Shape.negation a) n pl e w = same
    shape_opens (t.Shape.option cs) n pl e w = same
    shape_opens (t.Shape.logic cs) n pl e w = same
    shape_opens (t.Shape.chained op.Or a b) n pl e w =
        attempted_opens (ev p k a false e w) w _ _ _ _ (λ e v u. same) (λ u. ev_opens b e u)
    shape_opens (t.Shape.for_form cs a) n pl e w =
        attempted_opens (clauses p k cs false e unit w) w _ _ _ _
        (λ e1 v u. level_opens cs a _ _ pl e1 v _ u (λ e u. ev_opens a e u)) (λ u. same)
    shape_opens (t.Shape.chained op.Div a b) n pl e w = same
    shape_opens (t.Shape.chained x a b) n pl e w =
        valued_opens _ _ _ (ev_opens a e w) (λ v u. valued_opens _ _ _ (ev_opens b e u) (λ y z.
        apply_opens p k d (form.computing x (p.is_array n) pl) (v ∷ y ∷ []) e z))
    shape_opens (t.Shape.compared x a b) n pl e w =
        valued_opens _ _ _ (ev_opens a e w) (λ v u. valued_opens _ _ _ (ev_opens b e u) (λ y z.
        apply_opens p k d (form.comparing x) (v ∷ y ∷ []) e z))
    shape_opens (t.Shape.minus a) n pl e w =
        valued_opens _ _ _ (ev_opens a e w) (λ v u. apply_opens p k d (form.negating pl) (v ∷ []) e u)
    shape_opens (t.Shape.query a) n pl e w =
        valued_opens _ _ _ (ev_opens a e w) (λ v u. apply_opens p k d form.querying (v ∷ []) e u)
    shape_opens (t.Shape.member a x) n pl e w =
        membered_opens (enum_member p a x) e w _ _ (valued_opens _ _ _ (ev_opens a e w) (λ v u.
        apply_opens p k d (member_form (ref_at p n) x) (v ∷ []) e u))
    shape_opens (t.Shape.call a ts) n pl e w = callee_opens (callee_of p a (picked ts) pl) w _ _ _ _ _ _ _ _
        (λ f. args_open ts f [] e w)
        (λ f. valued_opens _ _ _ (inner_opens a e w) (λ v u. args_open ts f (v ∷ []) e u))
        (λ f. valued_opens _ _ _ (ev_opens a e w) (λ v u. apply_opens p k d f (v ∷ []) e u))
        (λ f. quotient_opens ts f e w)
    shape_opens (t.Shape.index a ts) n pl e w = callee_opens (callee_of p a form.indexing pl) w _ _ _ _ _ _ _ _
        (λ f. args_open ts f [] e w)
        (λ f. valued_opens _ _ _ (inner_opens a e w) (λ v u. args_open ts f (v ∷ []) e u))
        (λ f. valued_opens _ _ _ (ev_opens a e w) (λ v u. args_open ts f (v ∷ []) e u))
        (λ f. quotient_opens ts f e w)
    shape_opens (t.Shape.integer z) n pl e w = same
    shape_opens (t.Shape.character c) n pl e w = same
    shape_opens (t.Shape.text bs) n pl e w = same
    shape_opens (t.Shape.holes bs hs) n pl e w = holes_open hs _ [] e w
    shape_opens t.Shape.truth n pl e w = same
    shape_opens t.Shape.falsehood n pl e w = same
    shape_opens t.Shape.this n pl e w = same
    shape_opens (t.Shape.name x) n pl e w = same
    shape_opens (t.Shape.tuple ts) n pl e w = args_open ts _ [] e w
    shape_opens (t.Shape.array ts) n pl e w = args_open ts _ [] e w
    shape_opens (t.Shape.mapping ps) n pl e w = pairs_open ps _ [] e w
    shape_opens (t.Shape.instance x gs) n pl e w =
        known_opens (class_ref p (ref_at p n)) w _ _ (λ c. givens_open gs _ [] e w)
    shape_opens (t.Shape.event ty) n pl e w = same
    shape_opens t.Shape.bare_event n pl e w = same
    shape_opens (t.Shape.loop_form a) n pl e w = d.loops _ _ _ e w (λ u. ev_opens a e u)
    shape_opens (t.Shape.block_form a) n pl e w = ev_opens a e w
    shape_opens (t.Shape.cases a ts) n pl e w = valued_opens _ _ _ (ev_opens a e w) (λ v u. chosen_opens ts v e u)
    shape_opens (t.Shape.branch a) n pl e w = outside_opens w _
    shape_opens (t.Shape.sync ts) n pl e w = outside_opens w _
    shape_opens (t.Shape.race ts) n pl e w = outside_opens w _
    shape_opens (t.Shape.rush ts) n pl e w = outside_opens w _
    shape_opens (t.Shape.spawn a) n pl e w = spawned_opens a e w
    shape_opens (t.Shape.sleep z) n pl e w = outside_opens w _
    shape_opens t.Shape.sleep_forever n pl e w = outside_opens w _
    shape_opens s n pl e w = same

    statements_open : (cs : Trees) (e : Env) (last : Val) (w : World) →
        SameOrStuck (statements p k cs false e last w) (statements p k cs true e last w)
    statements_open no_trees e last w = same
    statements_open (more_trees a cs) e last w =
        stated_opens (statement_of a) e cs w _ _ _ _ _ _ (λ u. ev_opens a e u) (λ u. inner_opens a e u)
        (λ e v u. statements_open cs e v u)

    inner_opens : (a : Tree) (e : Env) (w : World) → SameOrStuck (inner p k a false e w) (inner p k a true e w)
    inner_opens (tree n pl s) e w = inner_shape_opens s e w

    inner_shape_opens : (s : Shape) (e : Env) (w : World) →
        SameOrStuck (inner_shape p k s false e w) (inner_shape p k s true e w)
    inner_shape_opens (t.Shape.definition x a) e w = ev_opens a e w
    inner_shape_opens (t.Shape.typed x ty a) e w = ev_opens a e w
    inner_shape_opens (t.Shape.variable x ty a) e w = ev_opens a e w
    inner_shape_opens (t.Shape.member a x) e w = ev_opens a e w
    inner_shape_opens (t.Shape.elements x a) e w = ev_opens a e w
    inner_shape_opens (t.Shape.entries x y a) e w = ev_opens a e w
    inner_shape_opens (t.Shape.range x a b) e w =
        valued_opens _ _ _ (ev_opens a e w) (λ v u. valued_opens _ _ _ (ev_opens b e u) (λ y z. same))
    inner_shape_opens s e w = same

    args_open : (ts : Trees) (f : Form) (vs : List Val) (e : Env) (w : World) →
        SameOrStuck (all_args p k ts f vs false e w) (all_args p k ts f vs true e w)
    args_open no_trees f vs e w = apply_opens p k d f vs e w
    args_open (more_trees a ts) f vs e w = valued_opens _ _ _ (ev_opens a e w) (λ v u. args_open ts f
        (vs ++ v ∷ []) e u)

    holes_open : (hs : Holes) (f : Form) (vs : List Val) (e : Env) (w : World) →
        SameOrStuck (holed p k hs f vs false e w) (holed p k hs f vs true e w)
    holes_open no_holes f vs e w = apply_opens p k d f vs e w
    holes_open (more_holes a bs hs) f vs e w = valued_opens _ _ _ (ev_opens a e w) (λ v u. holes_open hs f
        (vs ++ v ∷ []) e u)

    pairs_open : (ps : t.Pairs) (f : Form) (vs : List Val) (e : Env) (w : World) →
        SameOrStuck (paired_args p k ps f vs false e w) (paired_args p k ps f vs true e w)
    pairs_open t.Pairs.no_pairs f vs e w = apply_opens p k d f vs e w
    pairs_open (t.Pairs.more_pairs a b ps) f vs e w =
        valued_opens _ _ _ (ev_opens a e w) (λ x u. valued_opens _ _ _ (ev_opens b e u) (λ y z.
        pairs_open ps f (vs ++ x ∷ y ∷ []) e z))

    givens_open : (gs : Givens) (f : Form) (vs : List Val) (e : Env) (w : World) →
        SameOrStuck (given_args p k gs f vs false e w) (given_args p k gs f vs true e w)
    givens_open no_givens f vs e w = apply_opens p k d f vs e w
    givens_open (more_givens x a gs) f vs e w = valued_opens _ _ _ (ev_opens a e w) (λ v u. givens_open gs f
        (vs ++ v ∷ []) e u)

    quotient_opens : (ts : Trees) (f : Form) (e : Env) (w : World) →
        SameOrStuck (quotient p k ts f false e w) (quotient p k ts f true e w)
    quotient_opens no_trees f e w = same
    quotient_opens (more_trees a ts) f e w = quotient_tree_opens a f e w

    quotient_tree_opens : (a : Tree) (f : Form) (e : Env) (w : World) →
        SameOrStuck (quotient_tree p k a f false e w) (quotient_tree p k a f true e w)
    quotient_tree_opens (tree n pl s) f e w = quotient_shape_opens s f e w

    quotient_shape_opens : (s : Shape) (f : Form) (e : Env) (w : World) →
        SameOrStuck (quotient_shape p k s f false e w) (quotient_shape p k s f true e w)
    quotient_shape_opens (t.Shape.chained x a b) f e w =
        valued_opens _ _ _ (ev_opens a e w) (λ v u. valued_opens _ _ _ (ev_opens b e u) (λ y z. apply_opens p k d f
        (v ∷ y ∷ []) e z))
    quotient_shape_opens s f e w = same

    targets_open : (a : Tree) (f : Form) (left : List Tree) (e : Env) (w : World) (go go' : List Val → World →
        Outcome) →
        ((vs : List Val) (u : World) → SameOrStuck (go vs u) (go' vs u)) →
        SameOrStuck (targets p k a f left false e w go) (targets p k a f left true e w go')
    targets_open (tree n pl s) f left e w go go' g = targets_shape_open s f left e w go go' g

    targets_shape_open : (s : Shape) (f : Form) (left : List Tree) (e : Env) (w : World) (go go' : List Val → World →
        Outcome) →
        ((vs : List Val) (u : World) → SameOrStuck (go vs u) (go' vs u)) →
        SameOrStuck (targets_shape p k s f left false e w go) (targets_shape p k s f left true e w go')
    targets_shape_open (t.Shape.name x) f left e w go go' g = g [] w
    targets_shape_open (t.Shape.member a x) f left e w go go' g =
        valued_opens _ _ _ (ev_opens a e w) (λ v u. g (v ∷ []) u)
    targets_shape_open (t.Shape.index a ts) f left e w go go' g =
        targets_open a f _ e w _ _ (λ vs u. indices_open ts f vs left e u go go' g)
    targets_shape_open s f left e w go go' g = same

    indices_open : (ts : Trees) (f : Form) (vs : List Val) (left : List Tree) (e : Env) (w : World)
        (go go' : List Val → World → Outcome) → ((vs : List Val) (u : World) → SameOrStuck (go vs u) (go' vs u)) →
        SameOrStuck (indices p k ts f vs left false e w go) (indices p k ts f vs left true e w go')
    indices_open no_trees f vs left e w go go' g = g vs w
    indices_open (more_trees a ts) f vs left e w go go' g =
        valued_opens _ _ _ (ev_opens a e w) (λ v u. indices_open ts f (vs ++ v ∷ []) left e u go go' g)

    level_opens : (cs : Trees) (a : Tree) (run run' : Env → World →
        Outcome) (pl : Place) (e : Env) (v so_far : Val) (w : World) →
        ((e : Env) (u : World) → SameOrStuck (run e u) (run' e u)) →
        SameOrStuck (level p k cs a run pl e v so_far w) (level p k cs a run' pl e v so_far w)
    level_opens no_trees a run run' pl e v so_far w f = valued_opens _ _ _ (f e w) (λ y u. same)
    level_opens (more_trees c cs) a run run' pl e v so_far w f =
        levelled_opens (statement_of c) v e so_far w _ _ _ _ _ (level_opens cs a run run' pl e v so_far w f)
        (λ g x so_far u. attempted_opens _ u _ _ _ _ (λ e1 y z. level_opens cs a run run' pl e1 y so_far z f)
        (λ z. same))

    chosen_opens : (ts : Trees) (v : Val) (e : Env) (w : World) →
        SameOrStuck (chosen p k ts v false e w) (chosen p k ts v true e w)
    chosen_opens no_trees v e w = same
    chosen_opens (more_trees a ts) v e w = arm_opens a (none_left ts) v e w _ _ (chosen_opens ts v e w)

    arm_opens : (a : Tree) (last : Bool) (v : Val) (e : Env) (w : World) (go go' : World → Outcome) →
        SameOrStuck (go w) (go' w) →
        SameOrStuck (arm_of p k a last v false e w go) (arm_of p k a last v true e w go')
    arm_opens (tree n pl s) last v e w go go' g = arm_shape_opens s last v e w go go' g

    arm_shape_opens : (s : Shape) (last : Bool) (v : Val) (e : Env) (w : World) (go go' : World → Outcome) →
        SameOrStuck (go w) (go' w) →
        SameOrStuck (arm_of_shape p k s last v false e w go) (arm_of_shape p k s last v true e w go')
    arm_shape_opens (t.Shape.arm a b) last v e w go go' g =
        bool_opens (cond last true (pattern_fits p a v)) _ _ _ _ (ev_opens b e w) g
    arm_shape_opens s last v e w go go' g = same

    spawned_opens : (a : Tree) (e : Env) (w : World) → SameOrStuck (spawned p k a false e w) (spawned p k a true e w)
    spawned_opens (tree n pl s) e w = spawned_shape_opens s pl e w

    spawned_shape_opens : (s : Shape) (pl : Place) (e : Env) (w : World) →
        SameOrStuck (spawned_shape p k s pl false e w) (spawned_shape p k s pl true e w)
    spawned_shape_opens (t.Shape.call a ts) pl e w =
        callee_opens (spawned_callee (callee_of p a (form.picking None) pl)) w _ _ _ _ _ _ _ _
        (λ f. args_open ts f [] e w)
        (λ f. valued_opens _ _ _ (inner_opens a e w) (λ v u. args_open ts f (v ∷ []) e u)) (λ f. same) (λ f. same)
    spawned_shape_opens s pl e w = same

-- at every depth
pub deeper_opens : (p : Program) (n : ℕ) → DeeperOpens (deeper p n)
deeper_opens p zero = record {
  calls = λ g o vs e w. same;
  loops = λ go go' wrap e w f. same;
  takes = λ go go' wrap e vs so_far w f. same;
  defaults = λ a e w. same;
}
deeper_opens p (suc n) = record {
  calls = λ g o vs e w. known_opens (fun_at p g) w _ _ (λ fn. known_opens (with_params fn.params vs
      (with_this o)) w _ _ (λ e1.
      spends_opens w.state.clock.left w _ _ (λ u. called_opens p (deeper p n) body u.behind e
      (ev_opens p (deeper p n) (deeper_opens p n) fn.body e1 _))));
  loops = λ go go' wrap e w f. spends_opens w.state.clock.left w _ _ (λ u. turned_opens wrap e _ _ (f u) (λ z.
      (deeper_opens p n).loops go go' wrap e z f));
  takes = λ go go' wrap e vs so_far w f. next_opens (next_value vs) _ _ _
      (λ x left. spends_opens w.state.clock.left w _ _ (λ u.
      valued_opens (wrap left) _ _ (f x so_far u) (λ a z. (deeper_opens p n).takes go go' wrap e left a z f)));
  defaults = λ a e w. spends_opens w.state.clock.left w _ _ (λ u. called_opens p (deeper p n) body u.behind e
      (ev_opens p (deeper p n) (deeper_opens p n) a [] _));
}

pub open_and_closed : ContextsChangeNothing
open_and_closed p n = record {
  form = λ a e w. ev_opens p (deeper p n) (deeper_opens p n) a e w;
  calls = λ g o vs e w. (deeper_opens p n).calls g o vs e w;
}
