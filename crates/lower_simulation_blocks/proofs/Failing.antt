-- Failure contexts.
use Rattle.std.proofs.Common.{◌≡◌, ℕ, suc, ◌≤◌, List, [], ◌∷◌, ◌++◌, Some, Bool, true, false, refl, sym, subst, arith}
use Rattle.std.specs.Prelude.{slice_get}
use Rattle.verse_base.specs.declared.places.Place.{Place}
use Rattle.verse_tree.specs.Tree.{Tree, tree}
use Rattle.verse_tree.specs.Tree as t
use Rattle.verse_tree.specs.declared.exprs.Operator.TheVariants as oper
use Rattle.verse_code.specs.declared.operations.Op.TheVariants as op
use Rattle.verse_value.specs.Val.{Val, unit}
use Rattle.verse_meaning_state.specs.State.{State, restored}
use Rattle.verse_meaning.specs.Residuals.{Env, Residual, Scopes}
use Rattle.verse_meaning.specs.Outcomes.{World, with_state, Outcome, value, failed, returned, broke, halted, rests, attempted, valued}
use Rattle.verse_meaning.specs.Outcomes.{Halt, world, wrong}
use Rattle.verse_meaning.specs.Evaluating.{ev}
use Rattle.verse_meaning.specs.Runs.{deeper}
use Rattle.verse_code_machine.specs.Tasks.{Step}
use Rattle.verse_code_machine.specs.Frames.{fits, free, only_where}
use Rattle.lower_code.specs.Pieces.{Spot, Maker, next, past, one, ahead, ◌then◌}
use Rattle.lower_code.specs.Arounds.{enclosed}
use Rattle.lower_code.specs.Lowering.{piece}
use Rattle.lower_simulation.proofs.Claims.{Setting, Ends, Ctx, Around, at, Good, Target, on, Tasks, Locals, Binds, laid, ParkedS, Grown}
use Rattle.lower_simulation.proofs.Claims.{same_around, left_around, forked_around, Goes}
use Rattle.lower_simulation.proofs.Going.{le_self, raise, kept, shifted, grown_steps}
use Rattle.lower_simulation.proofs.Leading.{LeadsTo, is_leads, does_leads, open_leads, value_here, fails_here}
use Rattle.lower_simulation.proofs.Standing.{past_le, op_stands, narrow, widened, narrow_stands, end_at, then_stand, either_stand}
use Rattle.lower_simulation.proofs.Standing.{ahead_stand}
use Rattle.lower_simulation.proofs.Forms.{start_leads, op_leads, EvLeads}
use Rattle.lower_simulation.proofs.Contexts.{trying, trying_static}
use Rattle.lower_simulation.proofs.Leaving.{return_stuck, break_stuck}
use Rattle.lower_simulation.proofs.Widening.{holding_all}

module _ (z : Setting) where
  pub record Same_around (o' o : Around) (b' b : Scopes) (f' f : Tasks) (n' n : ℕ) : Type 0 where
    pub around : o' ≡ o
    pub behind : b' ≡ b
    pub tasks : f' ≡ f
    pub le : n' ≤ n

  -- nothing grows while a failure context is open
  pub grown_none : (j : ℕ) (c : Ctx) {n' : ℕ} {o' : Around} {b' : Scopes} {f' : Tasks} {n : ℕ} {o : Around} {b : Scopes} {f : Tasks} →
      free c.handlers c.life.noted c.below ≡ false → Grown (ParkedS z j) z c n' o' b' f' n o b f → Same_around o' o b' b f' f n' n
  grown_none j c h (same_around lt) = record { around = refl; behind = refl; tasks = refl; le = lt }
  grown_none j c h (left_around q s ts fr lt l1 l2 st g) = cc
  grown_none j c h (forked_around q e s ts fr lt st g) = cc

  -- what an attempt that began in a world makes of each outcome but a value; an attempt is not suspended
  pub record Attempts (y : World) (make : Outcome → Outcome) (no_do : World → Outcome) : Type 0 where
    pub fails : (s : State) → make (failed s) ≡ no_do (with_state y (restored y.state.memory s))
    pub returns : (v : Val) (w : World) → make (returned v w) ≡ halted (wrong w.state)
    pub breaks : (w : World) → make (broke w) ≡ halted (wrong w.state)
    pub halts : (h : Halt) → make (halted h) ≡ halted h

  attempts : (y : World) (yes_do : Env → Val → World → Outcome) (no_do : World → Outcome) →
      Attempts y (λ x. attempted x y yes_do no_do) no_do
  unfolding attempted
  attempts y yes_do no_do = record { fails = λ s. refl; returns = λ v w. refl; breaks = λ w. refl; halts = λ h. refl }

  -- where more is attempted behind a value
  pub attempts_more : (y : World) (wrap : Residual → Residual) (go : Val → World → Outcome) (yes_do : Env → Val → World → Outcome)
      (no_do : World → Outcome) → Attempts y (λ x. attempted (valued x wrap go) y yes_do no_do) no_do
  unfolding attempted valued
  attempts_more y wrap go yes_do no_do = record { fails = λ s. refl; returns = λ v w. refl; breaks = λ w. refl; halts = λ h. refl }

  -- a part of an attempt that began in the world y, within which more locals are held
  pub attempt_by : {j n : ℕ} {c : Ctx} {o : Around} {q : Step} {a l : ℕ} {st : List Val} {from into : Target} (more : Locals) (y : World)
      (x : Outcome) (make : Outcome → Outcome) (no_do : World → Outcome) → Attempts y make no_do → fits c.handlers l ≡ true →
      LeadsTo z j n (holding_all (trying c y.state a l st) c.env [] more) o y.behind y.tasks q from x →
      ((m : ℕ) → m ≤ n → (e : Env) (v : Val) (s : State) (ls : List Val) →
      Good m c.who.path o c.held (more ++ c.also) c.size s ls → Binds from.shown c.held e v ls →
      LeadsTo z j m c o y.behind y.tasks (at (trying c y.state a l st) o s ls (laid from.lies v from.stack) from.place) into
      (make (value e v (with_state y s)))) →
      ((u : State) (ls : List Val) → Good n c.who.path o c.held (more ++ c.also) c.size u ls →
      LeadsTo z j n c o y.behind y.tasks (at c o u ls st l) into (no_do (with_state y u))) →
      LeadsTo z j n c o y.behind y.tasks q into (make x)
  attempt_by {j} {n} {c} {o} {q} {a} {l} {st} {from} {into} more y (value e v w) make no_do ht fl h f g = record {
    go = λ t k. h.go t (λ m o' gr ls gd bs.
        let r = grown_none j (holding_all (trying c y.state a l st) c.env [] more) refl gr in
        subst (λ (x : Around). Ends z (at (trying c y.state a l st) x w.state ls (laid from.lies v from.stack) from.place) t)
        (sym r.around)
        ((f m r.le e v w.state ls (subst (λ (x : Around). Good m c.who.path x c.held
        (more ++ c.also) c.size w.state ls) r.around gd) bs).go
        t (shifted z j n m c o o y.behind y.behind y.tasks y.tasks into t (make (value e v (with_state y w.state))) (same_around r.le)
        (subst (λ b. Goes z j n c o y.behind y.tasks into t (make (value e v (world w.state b y.tasks)))) r.behind
        (subst (λ f. Goes z j n c o y.behind y.tasks into t (make (value e v (world w.state w.behind f)))) r.tasks k)))));
  }
  attempt_by {j} {n} {c} {o} {q} {a} {l} {st} {from} {into} more y (failed s) make no_do ht fl h f g = is_leads z (ht.fails s) (record {
    go = λ t k. h.go t (λ m o' b' f' gr ls gd.
        let r = grown_none j (holding_all (trying c y.state a l st) c.env [] more) refl gr in
        subst (λ u. Ends z (only_where u s (at c o' (restored y.state.memory s) ls st l)) t) (sym fl)
        (subst (λ (u : Around). Ends z (at c u (restored y.state.memory s) ls st l) t) (sym r.around)
        ((g (restored y.state.memory s) ls (raise r.le
        (kept (subst (λ (u : Around). Good m c.who.path u c.held (more ++ c.also) c.size s ls) r.around gd) le_self))).go t k)));
  })
  attempt_by {c = c} {a = a} {l} {st} more y (returned v w) make no_do ht fl h f g = is_leads z (ht.returns v w) (record {
    go = λ t k. h.go t (λ m o' gr p ls stk r gd. return_stuck z (trying c y.state a l st) o' w.state ls (v ∷ stk) p t le_self r k);
  })
  attempt_by {c = c} {a = a} {l} {st} more y (broke w) make no_do ht fl h f g = is_leads z (ht.breaks w) (record {
    go = λ t k. h.go t (λ m o' gr p ls stk r gd. break_stuck z (trying c y.state a l st) [] o' w.state ls stk p t le_self r k);
  })
  attempt_by more y (halted x) make no_do ht fl h f g = is_leads z (ht.halts x) (record { go = λ t k. h.go t k })
  attempt_by more y (rests x w) make no_do ht fl h f g = record { go = λ t k. h.go t (λ m o' gr fr. cc) }

  pub attempt_leads : {j n : ℕ} {c : Ctx} {o : Around} {q : Step} {a l : ℕ} {st : List Val} {from into : Target} (y : World) (x : Outcome)
      (yes_do : Env → Val → World → Outcome) (no_do : World → Outcome) → fits c.handlers l ≡ true →
      LeadsTo z j n (trying c y.state a l st) o y.behind y.tasks q from x →
      ((m : ℕ) → m ≤ n → (e : Env) (v : Val) (s : State) (ls : List Val) →
      Good m c.who.path o c.held c.also c.size s ls → Binds from.shown c.held e v ls →
      LeadsTo z j m c o y.behind y.tasks (at (trying c y.state a l st) o s ls (laid from.lies v from.stack) from.place) into
      (yes_do e v (with_state y s))) →
      ((u : State) (ls : List Val) → Good n c.who.path o c.held c.also c.size u ls →
      LeadsTo z j n c o y.behind y.tasks (at c o u ls st l) into (no_do (with_state y u))) →
      LeadsTo z j n c o y.behind y.tasks q into (attempted x y yes_do no_do)
  unfolding attempted
  attempt_leads {c = c} {a = a} {l} {st} {from} {into} y x yes_do no_do fl h f g =
      attempt_by {c = c} {a = a} {l = l} {st = st} {from = from} {into = into} [] y x (λ x. attempted x y yes_do no_do) no_do
      (attempts y yes_do no_do) fl h f g

  -- Try, and what is attempted
  pub try_leads : {j n : ℕ} {c : Ctx} {o : Around} {ls st : List Val} {from into : Target} (a l : ℕ) (y : World) (x : Outcome)
      (yes_do : Env → Val → World → Outcome) (no_do : World → Outcome) → slice_get z.code.ops a ≡ Some (op.Try l) →
      narrow (fits c.handlers) a l (suc a) ≡ true → fits c.handlers l ≡ true →
      LeadsTo z j n (trying c y.state a l st) o y.behind y.tasks (at (trying c y.state a l st) o y.state ls [] (suc a)) from x →
      ((m : ℕ) → m ≤ n → (e : Env) (v : Val) (s : State) (ls : List Val) →
      Good m c.who.path o c.held c.also c.size s ls → Binds from.shown c.held e v ls →
      LeadsTo z j m c o y.behind y.tasks (at (trying c y.state a l st) o s ls (laid from.lies v from.stack) from.place) into
      (yes_do e v (with_state y s))) →
      ((u : State) (ls : List Val) → Good n c.who.path o c.held c.also c.size u ls →
      LeadsTo z j n c o y.behind y.tasks (at c o u ls st l) into (no_do (with_state y u))) →
      LeadsTo z j n c o y.behind y.tasks (at c o y.state ls st a) into (attempted x y yes_do no_do)
  try_leads a l y x yes_do no_do hb fi fl h f g = does_leads z hb (open_leads z _ fi (attempt_leads y x yes_do no_do fl h f g))

  -- Commit and more: the failure context is closed
  pub commit_leads : {j n : ℕ} {c : Ctx} {o : Around} {b : Scopes} {f : Tasks} {y : State} {p : ℕ} {st stk ls : List Val} {into : Target}
      {r : Outcome} (u : State) (a l : ℕ) → slice_get z.code.ops p ≡ Some op.Commit → fits c.handlers (suc p) ≡ true →
      LeadsTo z j n c o b f (at c o y ls (stk ++ st) (suc p)) into r → LeadsTo z j n c o b f (at (trying c u a l st) o y ls stk p) into r
  commit_leads u a l hb fi h = does_leads z hb (open_leads z _ fi h)

  -- what goes on with a value where nothing is suspended
  pub quiet_leads : {j n : ℕ} {c : Ctx} {o : Around} {b : Scopes} {f : Tasks} {q : Step} (from into : Target) (x : Outcome)
      (wrap : Residual → Residual) (go : Val → World → Outcome) → free c.handlers c.life.noted c.below ≡ false →
      LeadsTo z j n c o b f q from x →
      ((m : ℕ) → m ≤ n → (o : Around) (e : Env) (v : Val) (w : World) (ls : List Val) →
      Good m c.who.path o c.held c.also c.size w.state ls → Binds from.shown c.held e v ls →
      LeadsTo z j m c o w.behind w.tasks (at c o w.state ls (laid from.lies v from.stack) from.place) into (go v w)) →
      LeadsTo z j n c o b f q into (valued x wrap go)
  unfolding valued
  quiet_leads {j} {n} {c} {o} {b} {f} from into (value e v w) wrap go fr h k = record {
    go = λ t u. h.go t (λ m o' gr ls gd bs. (k m (grown_steps (ParkedS z j) z c m o' w.behind w.tasks gr) o' e v w ls gd bs).go t
        (shifted z j n m c o o' b w.behind f w.tasks into t (go v w) gr u));
  }
  quiet_leads from into (failed s) wrap go fr h k = record { go = λ t u. h.go t u }
  quiet_leads from into (returned v w) wrap go fr h k = record { go = λ t u. h.go t u }
  quiet_leads from into (broke w) wrap go fr h k = record { go = λ t u. h.go t u }
  quiet_leads from into (halted x) wrap go fr h k = record { go = λ t u. h.go t u }
  quiet_leads from into (rests x w) wrap go fr h k = record { go = λ t u. h.go t (λ m o' gr fe. cc) }

  module _ (differ : ℕ → ℕ → Bool) (top : ℕ) where
    pub or_leads : (n : ℕ) (pl : Place) (x u : Tree) → EvLeads z differ top x → EvLeads z differ top u →
        EvLeads z differ top (tree n pl (t.Shape.chained oper.Or x u))
    or_leads n pl x u hx hu ss a s e out w M j m c o y ls st i sc fw lt lM ab g =
        let fx : Maker = piece z.program differ x ss (enclosed a) in
        let f : Maker = fx then one op.Commit in
        let i1 = either_stand z s e op.Try f (piece z.program differ u ss a) i in
        let m2 : Spot = past (next s) (f (next s)) in
        let l : ℕ = suc m2.at in
        let r = then_stand z (next s) m2 fx (one op.Commit) i1.first in
        let v0 = i1.order.0 in
        let v1 = i1.order.1 in
        try_leads {c = c} {into = on e.at st} s.at l y (ev z.program (deeper z.program M) x false c.env y) (λ e1 v y. value c.env v y)
        (λ y. ev z.program (deeper z.program M) u w c.env y) i1.begins (i1.first.fit (suc s.at) le_self v1)
        (i1.wide l (omega (arith, v1)) v0)
        (hx ss (enclosed a) (next s) _ out false M j m (trying c y.state s.at l st) o y ls [] r.0 (trying_static y.state s.at l st sc) refl
        lt lM refl g)
        (λ m le env v u ls g bs. commit_leads y.state s.at l (op_stands z r.1).is (op_stands z (widened z s.at l r.1)).fit
        (start_leads z r.1.ends (does_leads z i1.jump
        (open_leads z _ (i1.wide e.at (omega (arith, v0, v1)) le_self) (value_here z {w = with_state y u} g)))))
        (λ u ls g. hu ss a _ e out w M j m c o (with_state y u) ls st i1.rest sc fw lt lM ab g)

    pub negation_leads : (n : ℕ) (pl : Place) (x : Tree) → EvLeads z differ top x → EvLeads z differ top (tree n pl (t.Shape.negation x))
    negation_leads n pl x hx ss a s e out w M j m c o y ls st i sc fw lt lM ab g =
        let fx : Maker = piece z.program differ x ss (enclosed a) in
        let fails : Maker = one op.Undo then one op.Fail in
        let f : Maker = fx then one op.Drop then fails in
        let k : Spot = past s (ahead op.Try f s) in
        let r = then_stand z s e (ahead op.Try f) (one op.Unit) i in
        let i1 = ahead_stand z s k op.Try f r.0 in
        let r1 = then_stand z (next s) k fx (one op.Drop then fails) i1.inside in
        let s2 : Spot = past (next s) (fx (next s)) in
        let r2 = then_stand z s2 k (one op.Drop) fails r1.1 in
        let r3 = then_stand z (next s2) k (one op.Undo) (one op.Fail) r2.1 in
        let x1 = past_le (next s) s2 (fx (next s)) refl in
        let x2 = end_at z r3.1 in
        let l : ℕ = k.at in
        let n1 = narrow_stands z s.at l (omega arith) (omega (arith, x2)) r1.0 in
        let n2 = narrow_stands z s.at l (omega (arith, x1)) (omega (arith, x2)) r2.0 in
        let n3 = r3.0 in
        try_leads {c = c} {into = on e.at st} s.at l y (ev z.program (deeper z.program M) x false c.env y)
        (λ e1 v u. failed (restored y.state.memory u.state)) (λ y. value c.env unit y) i1.begins (n1.fit (suc s.at) le_self x1)
        (i1.wide l (omega (arith, x1, x2)) le_self)
        (hx ss (enclosed a) (next s) _ out false M j m (trying c y.state s.at l st) o y ls [] n1 (trying_static y.state s.at l st sc) refl
        lt lM refl g)
        (λ m le env v u ls g bs. does_leads z (op_stands z n2).is (open_leads z _ (op_stands z n2).fit
        (does_leads z (op_stands z n3).is (open_leads z _ (op_stands z n3).fit
        (does_leads z r3.1.ops.0 (fails_here z {w = with_state y (restored y.state.memory u)} (kept g le_self)))))))
        (λ u ls g. op_leads z r.1 (λ h. open_leads z _ h.fit (value_here z g)))
