-- Statements in turn, and blocks.
use Rattle.std.proofs.Common.{◌≡◌, ℕ, ◌≤◌, suc, List, [], ◌∷◌, length, Bool, true, false, cond, refl, sym, subst, arith, Some, ap, ◌∙◌}
use Rattle.verse_base.specs.declared.places.Place.{Place}
use Rattle.verse_tree.specs.Tree.{Tree, tree, Shape, Trees, no_trees, more_trees}
use Rattle.verse_tree.specs.Tree as t
use Rattle.verse_code.specs.declared.operations.Op.TheVariants as op
use Rattle.verse_value.specs.Val.{Val, unit}
use Rattle.verse_meaning.specs.Residuals.{Env, Residual, Scopes, seq, deferred, no_name}
use Rattle.verse_meaning.specs.Outcomes.{World, with_state, Outcome, halted, wrong, valued, closing}
use Rattle.verse_meaning.specs.Forms.{defined}
use Rattle.verse_meaning.specs.Evaluating.{ev, statements, inner, Statement, plain, defines, defers, generates, statement_of, stated}
use Rattle.verse_meaning.specs.Resuming.{resume}
use Rattle.verse_meaning.specs.Runs.{deeper}
use Rattle.verse_code_machine.specs.Tasks.{Handler, Step}
use Rattle.verse_code_machine.specs.Frames.{fits, free, kept_defers}
use Rattle.lower_code.specs.Pieces.{Spot, Maker, next, past, one, stuck, when, ahead, ◌then◌}
use Rattle.lower_code.specs.Scopes.{Scope as Names}
use Rattle.lower_code.specs.declared.arounds.Around.{Around as Where}
use Rattle.lower_code.specs.Lowering as low
use Rattle.lower_code.specs.Lowering.{piece, is_defer_shape, any_defer, scope_stated, scope_behind, around_stated, bind}
use Rattle.lower_code.proofs.Scopes.{binder_longer}
use Rattle.lower_simulation.proofs.Steps.{over}
use Rattle.lower_simulation.proofs.Claims.{Way, Setting, Ends, Ctx, Around, at, Good, Target, on, pushed, Shown, plainly, named_by, Here}
use Rattle.lower_simulation.proofs.Claims.{Above, Tasks, same_around}
use Rattle.lower_simulation.proofs.Going.{trans, le_self}
use Rattle.lower_simulation.proofs.Leading.{LeadsTo, value_leads, does_leads, open_leads}
use Rattle.lower_simulation.proofs.Standing.{Stands, op_stands, then_stand, past_le, end_at}
use Rattle.lower_simulation.proofs.Widening.{from_leads, plain_leads, holding_all, holding_leads}
use Rattle.lower_simulation.proofs.Forms.{Static, start_leads, at_leads, EvLeads}
use Rattle.lower_simulation.proofs.Contexts.{deferring, deferring_static, handled}
use Rattle.lower_simulation.proofs.Leaving.{leave_none}
use Rattle.lower_simulation_blocks.proofs.Definitions.{shown_static, shown_good, bind_leads}

-- whether a statement defers, or one of those behind it
abbrev pub defers_or : Statement → Bool → Bool
defers_or (defers d) b = true
defers_or other b = b

abbrev pub deferring_in : Trees → Bool
deferring_in no_trees = false
deferring_in (more_trees b cs) = defers_or (statement_of b) (deferring_in cs)

defers_or_is : (n : ℕ) (pl : Place) (s : Shape) (x : Bool) → cond (is_defer_shape s) true x ≡ defers_or (statement_of (tree n pl s)) x
defers_or_is n pl (t.Shape.defer d) x = refl
defers_or_is n pl (t.Shape.definition x u) q = refl
defers_or_is n pl (t.Shape.typed x ty u) q = refl
defers_or_is n pl (t.Shape.variable x ty u) q = refl
defers_or_is n pl (t.Shape.elements x u) q = refl
defers_or_is n pl (t.Shape.entries x y u) q = refl
defers_or_is n pl (t.Shape.range x u y) q = refl
defers_or_is n pl s q = refl

pub any_is : (cs : Trees) → any_defer cs ≡ deferring_in cs
any_is no_trees = refl
any_is (more_trees (tree n pl s) cs) =
    subst (λ x. cond (is_defer_shape s) true (any_defer cs) ≡ defers_or (statement_of (tree n pl s)) x) (any_is cs)
    (defers_or_is n pl s (any_defer cs))

-- behind statements: their names are visible, but where one has deferred
abbrev pub shown_behind : Bool → Names → Shown
shown_behind true ss = plainly
shown_behind false ss = named_by ss

abbrev pub showing : ℕ → List Val → Bool → Names → Target
showing p st b ss = record { place = p; stack = st; lies = pushed; shown = shown_behind b ss }

module _ (z : Setting) where
  -- the Leave of a block, at p
  pub record Leave_at (hs : List Handler) (a : Where) (p : ℕ) : Type 0 where
    pub least : ℕ
    pub is : Here z.code p (op.Leave least)
    pub fit : fits hs p ≡ true
    pub there : least ≤ a.defers
    pub handled : kept_defers hs ≤ least

  -- what is shown plainly or with names, is shown plainly
  shown_plainly : (c : Ctx) (p : ℕ) (st : List Val) (b : Bool) (ss : Names) {j n : ℕ} {o : Around} {u : Scopes} {f : Tasks} {q : Step}
      (x : Outcome) → LeadsTo z j n c o u f q (showing p st b ss) x → LeadsTo z j n c o u f q (on p st) x
  shown_plainly c p st true ss x h = h
  shown_plainly c p st false ss x h = plain_leads z c p st ss x h

  -- the end of a block, before the Leave where one defers
  leave_here : {top : ℕ} {c : Ctx} {ss : Names} {out : Way} {a : Where} {size : ℕ} (t : Bool) (s e : Spot) → t ≡ true →
      Static top c ss out a → Stands z (fits c.handlers) size out s (when t (one (op.Leave a.defers)) s) e → Leave_at c.handlers a s.at
  leave_here {a = a} true s e h sc i =
      let x = handled sc in
      let d = sc.defers in
      record {
        least = a.defers;
        is = record { is = (op_stands z i).is };
        fit = i.fit s.at le_self (past_le s e (one (op.Leave a.defers) s) i.ends);
        there = le_self;
        handled = omega (arith, x, d);
      }
  leave_here false s e h sc i = cc

  close_leads : {top j n : ℕ} {c : Ctx} {o : Around} {b : Scopes} {f : Tasks} {q : Step} {ss : Names} {out : Way} {a : Where} {size : ℕ}
      {st : List Val} (t : Bool) (s e : Spot) (us : Names) (x : Outcome) → Static top c ss out a →
      Stands z (fits c.handlers) size out s (when t (one (op.Leave a.defers)) s) e →
      LeadsTo z j n c o b f q (showing s.at st t us) x → LeadsTo z j n c o b f q (showing e.at st t us) x
  close_leads {c = c} {st = st} true s e us x sc i h =
      let l = op_stands z i in
      from_leads z c (on s.at st) (on e.at st) (λ m o e1 v w ls gd bs g go. leave_none z c o w.state ls (v ∷ st) s.at g (handled sc) l.fit
      (record { is = l.is ∙ ap (λ x. Some (op.Leave x)) (sym sc.defers) })
      (subst (λ x. Ends z (at c o w.state ls (v ∷ st) x) g) (sym (end_at z i)) (go tt))) x h
  close_leads {j = j} {n} {c} {o} {b} {f} {q} {st = st} false s e us x sc i h =
      subst (λ (s : Spot). LeadsTo z j n c o b f q (showing s.at st false us) x) i.ends h

  -- an operation that is always stuck
  pub stuck_leads : {j n : ℕ} {c : Ctx} {o : Around} {y : World} {ls st : List Val} {size : ℕ} {out : Way} {s e : Spot} {into : Target} →
      Stands z (fits c.handlers) size out s (stuck s) e →
      LeadsTo z j n c o y.behind y.tasks (at c o y.state ls st s.at) into (halted (wrong y.state))
  stuck_leads i = does_leads z (op_stands z i).is (record { go = λ g h. over _ h })

module _ (z : Setting) (differ : ℕ → ℕ → Bool) (top : ℕ) where
  -- what is to be shown of statements behind others, where the last value is on the stack; where one defers, at the Leave of the block
  abbrev pub MoreLeads : Trees → Type 0
  MoreLeads cs = (ss : Names) (a : Where) (s e : Spot) (out : Way) (w : Bool) (M j n : ℕ) (c : Ctx) (o : Around) (y : World)
      (ls st : List Val) (last : Val) → (deferring_in cs ≡ true → Leave_at z c.handlers a e.at) →
      Stands z (fits c.handlers) c.size out s (low.more_statements z.program differ cs ss a s) e → Static top c ss out a →
      free c.handlers c.life.noted c.below ≡ w → n ≤ top → n ≤ M → Above a.height st c.base →
      Good n c.who.path o c.held c.also c.size y.state ls →
      LeadsTo z j n c o y.behind y.tasks (at c o y.state ls (last ∷ st) s.at) (showing e.at st (deferring_in cs) (scope_behind cs ss))
      (statements z.program (deeper z.program M) cs w c.env last y)

  -- of the part of a definition
  abbrev pub InnerLeads : Tree → Type 0
  InnerLeads x = (ss : Names) (a : Where) (s e : Spot) (out : Way) (w : Bool) (M j n : ℕ) (c : Ctx) (o : Around) (y : World)
      (ls st : List Val) →
      Stands z (fits c.handlers) c.size out s (low.inner z.program differ x ss a s) e → Static top c ss out a →
      free c.handlers c.life.noted c.below ≡ w → n ≤ top → n ≤ M → Above a.height st c.base →
      Good n c.who.path o c.held c.also c.size y.state ls → LeadsTo z j n c o y.behind y.tasks (at c o y.state ls st s.at) (on e.at st)
      (inner z.program (deeper z.program M) x w c.env y)

  -- of a `defer` x of the block d, which stands from s to m: where what follows it leads to the Leave at p, then so does all
  abbrev pub Defer_lead : (d x : Tree) → Type 0
  Defer_lead d x = (ss : Names) (a : Where) (s m : Spot) (out : Way) (M j n p : ℕ) (c : Ctx) (o : Around) (y : World) (ls st : List Val)
      (u : Outcome) →
      Stands z (fits c.handlers) c.size out s
      ((ahead op.Defer (low.inner z.program differ x ss a then one op.Drop then one op.DeferEnd) then one op.Unit) s) m →
      Static top c ss out a → n ≤ top → n ≤ M → Leave_at z c.handlers a p → Good n c.who.path o c.held c.also c.size y.state ls →
      LeadsTo z j n (deferring c (suc s.at)) o y.behind y.tasks (at (deferring c (suc s.at)) o y.state ls (unit ∷ st) m.at) (on p st) u →
      LeadsTo z j n c o y.behind y.tasks (at c o y.state ls st s.at) (on p st)
      (closing u (λ w. (deeper z.program M).parts d c.env w) (deferred c.env d) c.env)

  -- of a statement: of the whole, or of the part of a definition
  abbrev pub Statement_lead : Statement → Tree → Type 0
  Statement_lead plain x = EvLeads z differ top x
  Statement_lead (defines b) x = InnerLeads x
  Statement_lead (defers d) x = Defer_lead d x
  Statement_lead (generates g) x = Unit {0}

  -- of all of a list
  abbrev pub All_state : Trees → Type 0
  All_state no_trees = Unit {0}
  All_state (more_trees x cs) = Statement_lead (statement_of x) x × All_state cs

  seq_goes : (e : Env) (cs : Trees) (l : ℕ) (r : Residual) (n : ℕ) (v : Val) (y : World) →
      resume z.program (deeper z.program l) (seq e no_name r cs) n v y ≡ valued (resume z.program (deeper z.program l) r n v y)
      (λ r. seq e no_name r cs) (λ v y. statements z.program (deeper z.program l) cs true e v y)
  unfolding defined
  seq_goes e cs l r n v y = refl

  -- a statement, and those behind it
  stated_leads : (q : Statement) (b : Tree) (cs : Trees) → Statement_lead q b → MoreLeads cs → (ss : Names) (a : Where) (s m e : Spot)
      (out : Way) (w : Bool) (M j n : ℕ) (c : Ctx) (o : Around) (y : World) (ls st : List Val) →
      (defers_or q (deferring_in cs) ≡ true → Leave_at z c.handlers a e.at) →
      Stands z (fits c.handlers) c.size out s
      (low.stated z.program differ q ss (piece z.program differ b ss a) (low.inner z.program differ b ss a) s) m →
      Stands z (fits c.handlers) c.size out m
      (low.more_statements z.program differ cs (scope_stated q ss) (around_stated z.program differ q a) m) e →
      Static top c ss out a → free c.handlers c.life.noted c.below ≡ w → n ≤ top → n ≤ M → Above a.height st c.base →
      Good n c.who.path o c.held c.also c.size y.state ls →
      LeadsTo z j n c o y.behind y.tasks (at c o y.state ls st s.at)
      (showing e.at st (defers_or q (deferring_in cs)) (scope_behind cs (scope_stated q ss)))
      (stated z.program (deeper z.program M) q c.env cs y (λ y. ev z.program (deeper z.program M) b w c.env y)
      (λ y. inner z.program (deeper z.program M) b w c.env y) (λ e v y. statements z.program (deeper z.program M) cs w e v y))
  unfolding stated low.stated
  stated_leads plain b cs hb hc ss a s m e out w M j n c o y ls st hl i i2 sc fw lt lM ab g =
      value_leads z (on m.at st) _ _ (λ r. seq c.env no_name r cs)
      (λ w M v y. statements z.program (deeper z.program M) cs w c.env v y) fw lM (λ r. refl) (λ r M w. refl) (λ r M w. refl)
      (seq_goes c.env cs) (hb ss a s m out w M j n c o y ls st i sc fw lt lM ab g)
      (λ w M i n' fw le lM o v y ls g. hc ss a m e out w M i n' c o y ls st v hl i2 sc fw (trans le lt) lM ab g)
  stated_leads (defines b) x cs hi hc ss a s m e out w M j n c o y ls st hl i i2 sc fw lt lM ab g =
      let f = low.inner z.program differ x ss a in
      let r = then_stand z s m f (bind b (length ss)) i in
      value_leads z (on (past s (f s)).at st) _ _ (λ r. seq c.env b r cs)
      (λ w M v y. defined z.program (deeper z.program M) b c.env v y (λ e v y. statements z.program (deeper z.program M) cs w e v y)) fw
      lM (λ r. refl) (λ r M w. refl) (λ r M w. refl) (λ l x n v y. refl)
      (hi ss a s _ out w M j n c o y ls st r.0 sc fw lt lM ab g)
      (λ w M i n' fw le lM o v y ls g. bind_leads z c b ss _ m M y v _ (λ x. x) (λ h. refl) r.1 sc g (λ env u ls bs hi g.
      holding_leads z c env bs.more [] _
      (hc (scope_stated (defines b) ss) a m e out w M i n' (holding_all c env bs.more []) o (with_state y u) ls st v hl i2
      (shown_static (binder_longer b ss) sc bs) fw (trans le lt) lM ab (shown_good c bs g))))
  stated_leads (defers d) b cs hd hc ss a s m e out w M j n c o y ls st hl i i2 sc fw lt lM ab g =
      let k = hl refl in
      let le = k.there in
      let a1 = around_stated z.program differ (defers d) a in
      let c1 = deferring c (suc s.at) in
      let k1 : Leave_at z c.handlers a1 e.at = record {
        least = k.least;
        is = k.is;
        fit = k.fit;
        there = omega (arith, le);
        handled = k.handled;
      } in
      hd ss a s m out M j n e.at c o y ls st _ i sc lt lM k g (shown_plainly z c1 e.at st (deferring_in cs) (scope_behind cs ss) _
      (hc ss a1 m e out w M j n c1 o y ls st unit (λ h. k1) i2 (deferring_static (suc s.at) sc) fw lt lM ab g))
  stated_leads (generates q) b cs hb hc ss a s m e out w M j n c o y ls st hl i i2 sc fw lt lM ab g = stuck_leads z i

  pub more_leads : (cs : Trees) → All_state cs → MoreLeads cs
  more_leads no_trees hs ss a s e out w M j n c o y ls st last hl i sc fw lt lM ab g =
      start_leads z i.ends (record {
        go = λ r h. h n o (same_around le_self) ls g (record { more = []; fits = sc.fits; low = sc.low; holds = g.holds });
      })
  more_leads (more_trees b cs) hs ss a s e out w M j n c o y ls st last hl i sc fw lt lM ab g =
      let q = statement_of b in
      let f : Maker = low.stated z.program differ q ss (piece z.program differ b ss a) (low.inner z.program differ b ss a) in
      let f2 : Maker = low.more_statements z.program differ cs (scope_stated q ss) (around_stated z.program differ q a) in
      let r = then_stand z s e (one op.Drop) (f then f2) i in
      let r2 = then_stand z (next s) e f f2 r.1 in
      let drop = op_stands z r.0 in
      does_leads z drop.is (open_leads z _ drop.fit
      (stated_leads q b cs hs.0 (more_leads cs hs.1) ss a (next s) _ e out w M j n c o y ls st hl r2.0 r2.1 sc fw lt lM ab g))

  -- what is to be shown of the statements of a block: where one defers, the place behind its Leave
  abbrev pub StatementsLead : Trees → Type 0
  StatementsLead cs = (ss : Names) (a : Where) (s e : Spot) (out : Way) (w : Bool) (M j n : ℕ) (c : Ctx) (o : Around) (y : World)
      (ls st : List Val) →
      Stands z (fits c.handlers) c.size out s (low.statements z.program differ cs ss a s) e → Static top c ss out a →
      free c.handlers c.life.noted c.below ≡ w → n ≤ top → n ≤ M → Above a.height st c.base →
      Good n c.who.path o c.held c.also c.size y.state ls →
      LeadsTo z j n c o y.behind y.tasks (at c o y.state ls st s.at) (showing e.at st (deferring_in cs) (scope_behind cs ss))
      (statements z.program (deeper z.program M) cs w c.env unit y)

  pub statements_lead : (cs : Trees) → All_state cs → StatementsLead cs
  statements_lead no_trees hs ss a s e out w M j n c o y ls st i sc fw lt lM ab g =
      at_leads z i (λ h. open_leads z _ h.fit (start_leads z i.ends (record {
        go = λ r h. h n o (same_around le_self) ls g (record { more = []; fits = sc.fits; low = sc.low; holds = g.holds });
      })))
  statements_lead (more_trees b cs) hs ss a s e out w M j n c o y ls st i sc fw lt lM ab g =
      let q = statement_of b in
      let f : Maker = low.stated z.program differ q ss (piece z.program differ b ss a) (low.inner z.program differ b ss a) in
      let f2 : Maker = low.more_statements z.program differ cs (scope_stated q ss) (around_stated z.program differ q a) in
      let f3 : Bool → Maker = λ t. when t (one (op.Leave a.defers)) in
      let i1 = subst (λ t. Stands z (fits c.handlers) c.size out s ((f then f2 then f3 t) s) e) (any_is (more_trees b cs)) i in
      let any : Bool = defers_or q (deferring_in cs) in
      let r = then_stand z s e f (f2 then f3 any) i1 in
      let m : Spot = past s (f s) in
      let r2 = then_stand z m e f2 (f3 any) r.1 in
      let m2 : Spot = past m (f2 m) in
      close_leads z any m2 e _ _ sc r2.1
      (stated_leads q b cs hs.0 (more_leads cs hs.1) ss a s m m2 out w M j n c o y ls st (λ h. leave_here z any m2 e h sc r2.1) r.0 r2.0
      sc fw lt lM ab g)

  pub block_leads : (n : ℕ) (pl : Place) (cs : Trees) → All_state cs → EvLeads z differ top (tree n pl (t.Shape.block cs))
  block_leads n pl cs hs ss a s e out w M j m c o y ls st i sc fw lt lM ab g =
      shown_plainly z c e.at st (deferring_in cs) (scope_behind cs ss) _
      (statements_lead cs hs ss a s e out w M j m c o y ls st i sc fw lt lM ab g)

  -- conditions, of which none defers: all their names are visible behind them
  abbrev pub ConditionsLead : Trees → Type 0
  ConditionsLead cs = (ss : Names) (a : Where) (s e : Spot) (out : Way) (w : Bool) (M j n : ℕ) (c : Ctx) (o : Around) (y : World)
      (ls st : List Val) →
      Stands z (fits c.handlers) c.size out s (low.statements z.program differ cs ss a s) e → Static top c ss out a →
      free c.handlers c.life.noted c.below ≡ w → n ≤ top → n ≤ M → Above a.height st c.base →
      Good n c.who.path o c.held c.also c.size y.state ls →
      LeadsTo z j n c o y.behind y.tasks (at c o y.state ls st s.at) (showing e.at st false (scope_behind cs ss))
      (statements z.program (deeper z.program M) cs w c.env unit y)

  pub conditions_lead : (cs : Trees) → All_state cs → any_defer cs ≡ false → ConditionsLead cs
  conditions_lead cs hs nd ss a s e out w M j n c o y ls st i sc fw lt lM ab g =
      subst (λ t. LeadsTo z j n c o y.behind y.tasks (at c o y.state ls st s.at) (showing e.at st t (scope_behind cs ss))
      (statements z.program (deeper z.program M) cs w c.env unit y)) (sym (any_is cs) ∙ nd)
      (statements_lead cs hs ss a s e out w M j n c o y ls st i sc fw lt lM ab g)
