-- What calls, and the clauses of a `for`, leave as it was where a failure context is open.
use Rattle.std.proofs.Common.{◌≡◌, ◌∙◌, ℕ, zero, suc, List, Option, Some, None, true, false, refl, sym, subst}
use Rattle.verse_base.specs.declared.places.Place.{Place}
use Rattle.verse_tree.specs.Tree.{Tree, tree, Shape, Trees, no_trees, more_trees}
use Rattle.verse_tree.specs.Tree as t
use Rattle.verse_value.specs.Val.{Val}
use Rattle.verse_value.specs.Answer as answer
use Rattle.verse_value.specs.Answer.{Answer}
use Rattle.verse_value.specs.Store.{Store}
use Rattle.verse_meaning_state.specs.State.{Clock, stepped}
use Rattle.verse_meaning_state.specs.Effects.{added}
use Rattle.verse_meaning.specs.Programs.{Program, fun_at}
use Rattle.verse_meaning.specs.Residuals.{Env, Residual, Binder, no_name, a_constant, a_variable, Scopes, none, body}
use Rattle.verse_meaning.specs.Outcomes.{World, with_state, set_behind, Outcome, value, failed, returned, broke, halted}
use Rattle.verse_meaning.specs.Outcomes.{rests, valued}
use Rattle.verse_meaning.specs.Outcomes.{call_end, if_known, spends, told, on_went_task, ends}
use Rattle.verse_meaning.specs.Forms.{Deeper, defined}
use Rattle.verse_meaning.specs.Evaluating.{Statement, plain, defines, defers, generates, statement_of, claused, ev}
use Rattle.verse_meaning.specs.Evaluating.{inner, inner_shape}
use Rattle.verse_meaning.specs.Evaluating.{clauses, scope_end, cancel_behind}
use Rattle.verse_meaning.specs.Runs.{deeper, with_params, with_this}
use Rattle.verse_meaning.specs.Laws.{Calm, Leaves, Keeps, ContextLeaves}
use Rattle.verse_meaning.proofs.Keeping.{stepped_calm}

calm_then : {a b c : Clock} → Calm a b → Calm b c → Calm a c
calm_then x y = record {
  now = y.now ∙ x.now;
  next = y.next ∙ x.next;
  results = y.results ∙ x.results;
  signals = y.signals ∙ x.signals;
}

calm_same : {a : Clock} → Calm a a
calm_same = record { now = refl; next = refl; results = refl; signals = refl }

pub leaves_same : (w : World) → Leaves false w w
leaves_same w = (refl, (refl, calm_same))

leaves_then : (w u x : World) → Leaves false w u → Leaves false u x → Leaves false w x
leaves_then w u x a b = (b.0 ∙ a.0, (b.1.0 ∙ a.1.0, calm_then a.1.1 b.1.1))

keeps_then : (w u : World) (x : Outcome) → Leaves false w u → Keeps false u x → Keeps false w x
keeps_then w u (value e v y) a b = leaves_then w u y a b
keeps_then w u (failed s) a b = calm_then a.1.1 b
keeps_then w u (returned v y) a b = leaves_then w u y a b
keeps_then w u (broke y) a b = leaves_then w u y a b
keeps_then w u (halted h) a b = tt
keeps_then w u (rests r y) a b = (b.0, leaves_then w u y a b.1)

valued_keeps : (w : World) (x : Outcome) (wrap : Residual → Residual) (go : Val → World → Outcome) → Keeps false w x →
    ((v : Val) (u : World) → Keeps false u (go v u)) → Keeps false w (valued x wrap go)
unfolding valued
valued_keeps w (value e v u) wrap go a f = keeps_then w u (go v u) a (f v u)
valued_keeps w (failed s) wrap go a f = a
valued_keeps w (returned v u) wrap go a f = a
valued_keeps w (broke u) wrap go a f = a
valued_keeps w (halted h) wrap go a f = tt
valued_keeps w (rests r u) wrap go a f = a

spends_keeps : (left : ℕ) (w : World) (go : World → Outcome) → ((u : World) → Leaves false w u → Keeps false w (go u)) →
    Keeps false w (spends left w go)
unfolding spends
spends_keeps zero w go f = tt
spends_keeps (suc n) w go f = f (with_state w (stepped n w.state)) (refl, (refl, stepped_calm n w.state))

known_keeps : {A : Type 0} (w : World) (x : Option A) (go : A → Outcome) → ((x : A) → Keeps false w (go x)) →
    Keeps false w (if_known x w go)
unfolding if_known
known_keeps w None go f = tt
known_keeps w (Some x) go f = f x

-- one cell more
added_keeps : (w : World) (x : Answer Store) (v : Val) (pl : Place) (e : Env) →
    Keeps false w (told (added x v w.state) pl e w)
unfolding told
added_keeps w (answer.gives m) v pl e = (refl, (refl, calm_same))
added_keeps w answer.fails v pl e = calm_same
added_keeps w (answer.error d) v pl e = tt
added_keeps w answer.stuck v pl e = tt

module _ (p : Program) (k : Deeper) (form : (a : Tree) (e : Env) (w : World) → Keeps false w (ev p k a false e w)) where
  defined_keeps : (b : Binder) (e : Env) (v : Val) (w : World) (go : Env → Val → World → Outcome) →
      ((e : Env) (v : Val) (u : World) → Keeps false u (go e v u)) → Keeps false w (defined p k b e v w go)
  unfolding defined
  defined_keeps no_name e v w go f = f e v w
  defined_keeps (a_constant x) e v w go f = f _ v w
  defined_keeps (a_variable x pl) e v w go f = valued_keeps w _ (λ r. r) _ (added_keeps w _ _ pl e) (λ c u. f _ v u)

  inner_keeps : (a : Tree) (e : Env) (w : World) → Keeps false w (inner p k a false e w)
  inner_keeps (tree n pl s) e w = by s
    where
      by : (s : Shape) → Keeps false w (inner_shape p k s false e w)
      by (t.Shape.definition x a) = form a e w
      by (t.Shape.typed x ty a) = form a e w
      by (t.Shape.variable x ty a) = form a e w
      by (t.Shape.member a x) = form a e w
      by (t.Shape.elements x a) = form a e w
      by (t.Shape.entries x y a) = form a e w
      by (t.Shape.range x a b) =
          valued_keeps w _ (λ r. r) _ (form a e w) (λ v u. valued_keeps u _ (λ r. r) _ (form b e u)
          (λ y z. leaves_same z))
      by s = tt

  claused_keeps : (x : Statement) (e : Env) (w : World) (whole inner : World → Outcome) (go : Env → Val → World →
      Outcome) →
      ((u : World) → Keeps false u (whole u)) → ((u : World) → Keeps false u (inner u)) →
      ((e : Env) (v : Val) (u : World) → Keeps false u (go e v u)) → Keeps false w (claused p k x e w whole inner go)
  unfolding claused
  claused_keeps plain e w whole inner go f g h = valued_keeps w _ (λ r. r) _ (f w) (λ v u. h e v u)
  claused_keeps (defines b) e w whole inner go f g h =
      valued_keeps w _ (λ r. r) _ (g w) (λ v u. defined_keeps b e v u go h)
  claused_keeps (defers a) e w whole inner go f g h = tt
  claused_keeps (generates x) e w whole inner go f g h = valued_keeps w _ (λ r. r) _ (g w) (λ v u. leaves_same u)

  pub clauses_keep : (cs : Trees) (e : Env) (last : Val) (w : World) → Keeps false w (clauses p k cs false e last w)
  clauses_keep no_trees e last w = leaves_same w
  clauses_keep (more_trees a cs) e last w =
      claused_keeps (statement_of a) e w _ _ _ (λ u. form a e u) (λ u. inner_keeps a e u)
      (λ e v u. clauses_keep cs e v u)

  -- nothing is behind where the body of a function ends
  ended_keeps : (w u : World) (outer bs : Scopes) (e : Env) (v : Val) → bs ≡ none → outer ≡ w.behind →
      (u.tasks ≡ w.tasks) × Calm w.state.clock u.state.clock →
      Keeps false w (call_end e (on_went_task (cancel_behind p k bs u) (λ z. ends v (set_behind z outer))))
  unfolding on_went_task call_end
  ended_keeps w u outer bs e v same behind a =
      subst (λ bs. Keeps false w (call_end e (on_went_task (cancel_behind p k bs u) (λ z. ends v
      (set_behind z outer))))) (sym same)
      (behind, (a.0, a.1))

  called_keeps : (w z : World) (x : Outcome) (e : Env) → Leaves false w z → Keeps false (set_behind z none) x →
      Keeps false w (call_end e (scope_end p k body z.behind x))
  unfolding call_end scope_end
  called_keeps w z (value e1 v u) e l a = ended_keeps w u z.behind u.behind e v a.0 l.0
      (a.1.0 ∙ l.1.0, calm_then l.1.1 a.1.1)
  called_keeps w z (failed s) e l a = calm_then l.1.1 a
  called_keeps w z (returned v u) e l a = ended_keeps w u z.behind u.behind e v a.0 l.0
      (a.1.0 ∙ l.1.0, calm_then l.1.1 a.1.1)
  called_keeps w z (broke u) e l a = tt
  called_keeps w z (halted h) e l a = tt
  called_keeps w z (rests r u) e l a = no_wait a.0
    where
      no_wait : {A : Type 0} → false ≡ true → A
      no_wait h = cc

pub calls_keep : (p : Program) → ((g : ℕ) → ContextLeaves p g) →
    (fuel g : ℕ) (ob : Option Val) (vs : List Val) (e : Env) (w : World) →
    Keeps false w ((deeper p fuel).calls g ob vs false e w)
calls_keep p leave zero g ob vs e w = known_keeps w (fun_at p g) _ (λ fn. known_keeps w (with_params fn.params vs
    (with_this ob)) _ (λ e1. tt))
calls_keep p leave (suc n) g ob vs e w =
    known_keeps w (fun_at p g) _ (λ fn. known_keeps w (with_params fn.params vs (with_this ob)) _ (λ e1.
    spends_keeps w.state.clock.left w _ (λ z l. called_keeps p (deeper p n) (λ a e w. (leave n).form a e w) w z _ e l
    ((leave n).form fn.body e1 (set_behind z none)))))
