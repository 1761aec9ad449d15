-- Literals, operators, and values that are made.
use Rattle.std.proofs.Common.{◌≡◌, ℕ, ℤ, suc, ◌+◌, ◌≤◌, List, [], ◌∷◌, ◌++◌, length, Bool, true, false, refl, sym, ap, ◌∙◌, subst, arith}
use Rattle.std.proofs.Common.{append-nil}
use Rattle.verse_base.specs.declared.places.Place.{Place}
use Rattle.verse_tree.specs.Tree.{Bytes, Tree, tree, Shape, Trees, no_trees, more_trees}
use Rattle.verse_tree.specs.Tree as t
use Rattle.verse_tree.specs.declared.exprs.Operator.{Operator}
use Rattle.verse_tree.specs.declared.exprs.Operator.TheVariants as oper
use Rattle.verse_code.specs.declared.operations.Op.TheVariants as op
use Rattle.verse_value.specs.Val.{Val}
use Rattle.verse_value.specs.Answer.{gives}
use Rattle.verse_meaning_state.specs.State.{State}
use Rattle.verse_meaning_state.specs.Effects.{still}
use Rattle.verse_meaning.specs.Residuals as form
use Rattle.verse_meaning.specs.Residuals.{Env, Form, Bound, constant, variable, Residual, args, seq, Scopes, Binder, no_name, a_constant}
use Rattle.verse_meaning.specs.Residuals.{a_variable}
use Rattle.verse_meaning.specs.Outcomes.{World, Outcome, valued, told}
use Rattle.verse_meaning.specs.Forms.{apply, computed}
use Rattle.verse_meaning.specs.Evaluating.{ev, all_args}
use Rattle.verse_meaning.specs.Runs.{deeper}
use Rattle.verse_code_machine.specs.Tasks.{Step}
use Rattle.verse_code_machine.specs.Frames.{fits, free, on_many}
use Rattle.lower_code.specs.Applied as applied
use Rattle.lower_code.specs.Pieces.{Spot, past, next, one, ◌then◌}
use Rattle.lower_code.specs.Scopes.{Scope as Names}
use Rattle.lower_code.specs.declared.arounds.Around.{Around as Where}
use Rattle.lower_code.specs.Arounds.{up}
use Rattle.lower_code.specs.Lowering.{piece, shape_piece, how_many}
use Rattle.lower_code.specs.Lowering as low
use Rattle.lower_simulation.proofs.Claims.{Way, Setting, Ctx, Around, at, Good, Target, on, Tasks, Above}
use Rattle.lower_simulation.proofs.Going.{trans}
use Rattle.lower_simulation.proofs.Standing.{Stands, joined_stands, then_stand}
use Rattle.lower_simulation.proofs.Leading.{LeadsTo, value_leads, open_leads, there_leads, value_here, told_leads, still_calm}
use Rattle.lower_simulation.proofs.Forms.{Static, stacked, op_leads, at_leads, EvLeads, Operands_stand, All_lead, args_leads, two_finish}
use Rattle.verse_value.specs.Operations.{concat_of, sum_of, difference_of, product_of, tuple_of, array_of}

-- operands that are popped
many : (ws st vs : List Val) (s : State) (go : List Val → List Val → Step) (n : ℕ) → on_many (length ws + n) (stacked ws st) vs s go ≡
    on_many n st (ws ++ vs) s go
many [] st vs s go n = ap (λ x. on_many x st vs s go) (none_in n)
  where
    none_in : (b : ℕ) → 0 + b ≡ b
    none_in b = omega arith
many (w ∷ ws) st vs s go n = ap (λ x. on_many x (stacked ws (w ∷ st)) vs s go) (suc_in (length ws) n) ∙ many ws (w ∷ st) vs s go (suc n)
  where
    suc_in : (a b : ℕ) → suc a + b ≡ a + suc b
    suc_in a b = omega arith

pub popped : (n : ℕ) (ws st : List Val) (s : State) (go : List Val → List Val → Step) → length ws ≡ n →
    on_many n (stacked ws st) [] s go ≡ go ws st
popped n ws st s go h = ap (λ x. on_many x (stacked ws st) [] s go) (sym h ∙ no_more (length ws)) ∙ many ws st [] s go 0 ∙
    ap (λ x. go x st) (append-nil ws)
  where
    no_more : (a : ℕ) → a ≡ a + 0
    no_more a = omega arith

abbrev IsSum : Operator → Type 0
IsSum oper.Add = Unit {0}
IsSum oper.Sub = Unit {0}
IsSum oper.Mul = Unit {0}
IsSum oper.And = ⊥
IsSum oper.Or = ⊥
IsSum oper.Div = ⊥

module _ (z : Setting) where
  pub many_leads : {j n : ℕ} {c : Ctx} {o : Around} {b : Scopes} {f : Tasks} {into : Target} {r : Outcome} {x : ℕ} {ws st : List Val}
      (s : State) (go : List Val → List Val → Step) → length ws ≡ x → LeadsTo z j n c o b f (go ws st) into r →
      LeadsTo z j n c o b f (on_many x (stacked ws st) [] s go) into r
  many_leads {j} {n} {c} {o} {b} {f} {into} {r} {x} {ws} {st} s go h l = subst (λ u. LeadsTo z j n c o b f u into r)
      (sym (popped x ws st s go h)) l

  -- the operation of an operator, on two operands; `and` has none, and its first operand is gone
  computed_leads : (q : Operator) (b : Bool) (pl : Place) (v u : Val) (s e : Spot) (out : Way) (j n : ℕ) (c : Ctx) (o : Around)
      (y : World) (ls st : List Val) (env : Env) →
      IsSum q → Stands z (fits c.handlers) c.size out s (applied.computing q pl b s) e →
      Good n c.who.path o c.held c.also c.size y.state ls →
      LeadsTo z j n c o y.behind y.tasks (at c o y.state ls (u ∷ v ∷ st) s.at) (on e.at st)
      (told (still (computed q b v u) y.state) pl env y)
  computed_leads oper.Add true pl v u s e out j n c o y ls st env d i g = op_leads z i
      (λ h. told_leads z (still (concat_of v u) y.state) pl env i.places.0 h.fit (still_calm z (concat_of v u) y.state) g)
  computed_leads oper.Add false pl v u s e out j n c o y ls st env d i g = op_leads z i
      (λ h. told_leads z (still (sum_of v u) y.state) pl env i.places.0 h.fit (still_calm z (sum_of v u) y.state) g)
  computed_leads oper.Sub b pl v u s e out j n c o y ls st env d i g = op_leads z i
      (λ h. told_leads z (still (difference_of v u) y.state) pl env i.places.0 h.fit (still_calm z (difference_of v u) y.state) g)
  computed_leads oper.Mul b pl v u s e out j n c o y ls st env d i g = op_leads z i
      (λ h. told_leads z (still (product_of v u) y.state) pl env i.places.0 h.fit (still_calm z (product_of v u) y.state) g)
  computed_leads oper.And b pl v u s e out j n c o y ls st env d i g = absurd d
  computed_leads oper.Or b pl v u s e out j n c o y ls st env d i g = absurd d
  computed_leads oper.Div b pl v u s e out j n c o y ls st env d i g = absurd d

  told_here : (pl : Place) (c : Ctx) (o : Around) (y : World) (ls st : List Val) (v : Val) (env : Env) (p i m : ℕ) →
      Good m c.who.path o c.held c.also c.size y.state ls →
      LeadsTo z i m c o y.behind y.tasks (at c o y.state ls (v ∷ st) p) (on p st) (told (still (gives v) y.state) pl env y)
  unfolding told
  told_here pl c o y ls st v env p i m g = value_here z g

module _ (z : Setting) (differ : ℕ → ℕ → Bool) (top : ℕ) where
  pub integer_leads : (n : ℕ) (pl : Place) (v : ℤ) → EvLeads z differ top (tree n pl (t.Shape.integer v))
  integer_leads n pl v ss a s e out w M j m c o y ls st i sc fw lt lM ab g = op_leads z i (λ h. open_leads z _ h.fit (value_here z g))

  pub character_leads : (n : ℕ) (pl : Place) (v : ℕ) → EvLeads z differ top (tree n pl (t.Shape.character v))
  character_leads n pl v ss a s e out w M j m c o y ls st i sc fw lt lM ab g = op_leads z i (λ h. open_leads z _ h.fit (value_here z g))

  pub truth_leads : (n : ℕ) (pl : Place) → EvLeads z differ top (tree n pl t.Shape.truth)
  truth_leads n pl ss a s e out w M j m c o y ls st i sc fw lt lM ab g = op_leads z i (λ h. open_leads z _ h.fit (value_here z g))

  pub falsehood_leads : (n : ℕ) (pl : Place) → EvLeads z differ top (tree n pl t.Shape.falsehood)
  falsehood_leads n pl ss a s e out w M j m c o y ls st i sc fw lt lM ab g = op_leads z i (λ h. open_leads z _ h.fit (value_here z g))

  pub text_leads : (n : ℕ) (pl : Place) (bs : Bytes) → EvLeads z differ top (tree n pl (t.Shape.text bs))
  text_leads n pl bs ss a s e out w M j m c o y ls st i sc fw lt lM ab g = op_leads z i
      (λ h. there_leads z y.state _ i.texts.0 (open_leads z _ h.fit (value_here z g)))

  sum_leads : (q : Operator) → IsSum q → (n : ℕ) (pl : Place) (x u : Tree) → EvLeads z differ top x → EvLeads z differ top u →
      (ss : Names) (a : Where) (s e : Spot) (out : Way) (w : Bool) (M j m : ℕ) (c : Ctx) (o : Around) (y : World) (ls st : List Val) →
      Stands z (fits c.handlers) c.size out s ((piece z.program differ x ss a then
      piece z.program differ u ss (up a) then applied.computing q pl (z.program.is_array n)) s) e → Static top c ss out a →
      free c.handlers c.life.noted c.below ≡ w → m ≤ top → m ≤ M → Above a.height st c.base →
      Good m c.who.path o c.held c.also c.size y.state ls →
      LeadsTo z j m c o y.behind y.tasks (at c o y.state ls st s.at) (on e.at st)
      (all_args z.program (deeper z.program M) (more_trees x (more_trees u no_trees))
      (form.computing q (z.program.is_array n) pl) [] w c.env y)
  sum_leads q d n pl x u hx hu ss a s e out w M j m c o y ls st i sc fw lt lM ab g =
      let p = piece z.program differ x ss a s in
      let r = joined_stands z s e p _ i in
      let r2 = joined_stands z (past s p) e (piece z.program differ u ss (up a) (past s p)) _ r.1 in
      args_leads z differ top (more_trees x (more_trees u no_trees)) (hx, (hu, tt)) (form.computing q (z.program.is_array n) pl)
      (λ l vs e w. refl) ss a s _ out w M j m c o y ls st [] (on e.at st) (r.0, (r2.0, refl)) sc fw lt lM ab g
      (two_finish z differ top _ _ (λ v u w M i m fw le lM o y ls g.
      computed_leads z q (z.program.is_array n) pl v u _ e out i m c o y ls st c.env d r2.1 g))

  pub added_leads : (n : ℕ) (pl : Place) (x u : Tree) → EvLeads z differ top x → EvLeads z differ top u →
      EvLeads z differ top (tree n pl (t.Shape.chained oper.Add x u))
  added_leads n pl x u hx hu = sum_leads oper.Add tt n pl x u hx hu

  pub subtracted_leads : (n : ℕ) (pl : Place) (x u : Tree) → EvLeads z differ top x → EvLeads z differ top u →
      EvLeads z differ top (tree n pl (t.Shape.chained oper.Sub x u))
  subtracted_leads n pl x u hx hu = sum_leads oper.Sub tt n pl x u hx hu

  pub multiplied_leads : (n : ℕ) (pl : Place) (x u : Tree) → EvLeads z differ top x → EvLeads z differ top u →
      EvLeads z differ top (tree n pl (t.Shape.chained oper.Mul x u))
  multiplied_leads n pl x u hx hu = sum_leads oper.Mul tt n pl x u hx hu

  pub both_leads : (n : ℕ) (pl : Place) (x u : Tree) → EvLeads z differ top x → EvLeads z differ top u →
      EvLeads z differ top (tree n pl (t.Shape.chained oper.And x u))
  both_leads n pl x u hx hu ss a s e out w M j m c o y ls st i sc fw lt lM ab g =
      let m1 : Spot = past s (piece z.program differ x ss a s) in
      let r = then_stand z s e (piece z.program differ x ss a) (one op.Drop then piece z.program differ u ss a) i in
      let r2 = then_stand z m1 e (one op.Drop) (piece z.program differ u ss a) r.1 in
      let f = form.computing oper.And (z.program.is_array n) pl in
      value_leads z (on m1.at st) (on e.at st) (ev z.program (deeper z.program M) x w c.env y) (λ r. args c.env f [] r (u ∷ []))
      (λ w M v y. valued (ev z.program (deeper z.program M) u w c.env y) (λ r. args c.env f (v ∷ []) r [])
      (λ v2 y. apply z.program (deeper z.program M) f (v ∷ v2 ∷ []) w c.env y)) fw lM (λ r. refl) (λ r M w. refl) (λ r M w. refl)
      (λ l x n v y. refl) (hx ss a s m1 out w M j m c o y ls st r.0 sc fw lt lM ab g) (λ w M i m fw le lM o v y ls g.
      at_leads z r2.0 (λ h. open_leads z y.state h.fit (value_leads z (on e.at st) (on e.at st)
      (ev z.program (deeper z.program M) u w c.env y)
      (λ r. args c.env f (v ∷ []) r []) (λ w M v2 y. apply z.program (deeper z.program M) f (v ∷ v2 ∷ []) w c.env y) fw lM (λ r. refl)
      (λ r M w. refl) (λ r M w. refl) (λ l x n v y. refl) (hu ss a (next m1) e out w M i m c o y ls st r2.1 sc fw (trans le lt) lM ab g)
      (λ w M i m fw le lM o v2 y ls g. told_here z pl c o y ls st v2 c.env e.at i m g))))

  -- operands as they stand in the code
  pub args_stand : (ts : Trees) (ss : Names) (a : Where) (ok : ℕ → Bool) (size : ℕ) (out : Way) (s e : Spot) →
      Stands z ok size out s (low.args z.program differ ts ss a s) e → Operands_stand z differ top ts ss a ok size out s e
  args_stand no_trees ss a ok size out s e i = i.ends
  args_stand (more_trees x ts) ss a ok size out s e i =
      let r = then_stand z s e (piece z.program differ x ss a) (low.args z.program differ ts ss (up a)) i in
      (r.0, args_stand ts ss (up a) ok size out _ e r.1)

  pub tuple_leads : (n : ℕ) (pl : Place) (ts : Trees) → All_lead z differ top ts → EvLeads z differ top (tree n pl (t.Shape.tuple ts))
  tuple_leads n pl ts hs ss a s e out w M j m c o y ls st i sc fw lt lM ab g =
      let m1 : Spot = past s (low.args z.program differ ts ss a s) in
      let r = then_stand z s e (low.args z.program differ ts ss a) (applied.finish (form.making_tuple pl) (how_many ts) true) i in
      args_leads z differ top ts hs (form.making_tuple pl) (λ l vs e w. refl) ss a s m1 out w M j m c o y ls st [] (on e.at st)
      (args_stand ts ss a (fits c.handlers) c.size out s m1 r.0) sc fw lt lM ab g
      (λ ws q w M i m fw le lM o y ls g. op_leads z r.1 (λ h. many_leads z _ _ q
      (told_leads z (still (tuple_of ws) y.state) pl c.env r.1.places.0 h.fit (still_calm z (tuple_of ws) y.state) g)))

  pub array_leads : (n : ℕ) (pl : Place) (ts : Trees) → All_lead z differ top ts → EvLeads z differ top (tree n pl (t.Shape.array ts))
  array_leads n pl ts hs ss a s e out w M j m c o y ls st i sc fw lt lM ab g =
      let m1 : Spot = past s (low.args z.program differ ts ss a s) in
      let r = then_stand z s e (low.args z.program differ ts ss a) (applied.finish (form.making_array pl) (how_many ts) true) i in
      args_leads z differ top ts hs (form.making_array pl) (λ l vs e w. refl) ss a s m1 out w M j m c o y ls st [] (on e.at st)
      (args_stand ts ss a (fits c.handlers) c.size out s m1 r.0) sc fw lt lM ab g
      (λ ws q w M i m fw le lM o y ls g. op_leads z r.1 (λ h. many_leads z _ _ q
      (told_leads z (still (array_of ws) y.state) pl c.env r.1.places.0 h.fit (still_calm z (array_of ws) y.state) g)))
