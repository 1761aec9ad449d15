-- Operands, and the form that is applied to them.
use Rattle.std.proofs.Common.{◌≡◌, ℕ, zero, suc, ◌≤◌, List, [], ◌∷◌, ◌++◌, length, Bool, true, refl, sym, subst, arith}
use Rattle.verse_tree.specs.Tree.{Tree, Trees, more_trees}
use Rattle.verse_code.specs.declared.operations.Op.TheVariants as op
use Rattle.verse_value.specs.Val.{Val}
use Rattle.verse_meaning.specs.Residuals.{Env, Form}
use Rattle.verse_meaning.specs.Outcomes.{World, Outcome, halted, wrong}
use Rattle.verse_meaning.specs.Forms.{apply}
use Rattle.verse_meaning.specs.Evaluating.{all_args}
use Rattle.verse_meaning.specs.Runs.{deeper}
use Rattle.verse_code_machine.specs.Frames.{fits, free}
use Rattle.lower_code.specs.Applied.{finish, dropping, with_one, with_two}
use Rattle.lower_code.specs.Pieces.{Spot, Maker, later, one, ◌then◌, stuck}
use Rattle.lower_code.specs.Scopes.{Scope as Names}
use Rattle.lower_code.specs.declared.arounds.Around.{Around as Where}
use Rattle.lower_code.specs.Arounds.{up}
use Rattle.lower_code.specs.Lowering as low
use Rattle.lower_code.specs.Lowering.{piece, how_many}
use Rattle.lower_code.proofs.Standing.{later_is}
use Rattle.lower_simulation.proofs.Claims.{Way, Setting, Ctx, Around, at, Good, on, Above}
use Rattle.lower_simulation.proofs.Going.{trans}
use Rattle.lower_simulation.proofs.Standing.{Stands, then_stand, op_stands}
use Rattle.lower_simulation.proofs.Leading.{LeadsTo, does_leads, open_leads, is_leads}
use Rattle.lower_simulation.proofs.Forms.{Static, stacked, EvLeads, All_lead, IsPlain, args_leads}
use Rattle.lower_simulation_values.proofs.Operators.{args_stand}
use Rattle.lower_simulation_values.proofs.Names.{stuck_leads}

later_none : (n : ℕ) → later n 0 ≡ n
later_none n = omega (arith, later_is n 0)

-- operands lie above what is beneath them
stacked_above : (n : ℕ) (ws : List Val) (k : ℕ) (below base : List Val) → length ws ≡ n → Above k below base →
    Above (later n k) (stacked ws below) base
stacked_above zero [] k below base q h = h
stacked_above zero (v ∷ ws) k below base q h = absurd (omega (arith, q))
stacked_above (suc n) [] k below base q h = absurd (omega (arith, q))
stacked_above (suc n) (v ∷ ws) k below base q h = stacked_above n ws (suc k) (v ∷ below) base (omega (arith, q)) h

module _ (z : Setting) (differ : ℕ → ℕ → Bool) (top : ℕ) where
  -- what code leads to, for all names, arounds, spots and contexts; of the code of a tree it is `EvLeads`
  abbrev pub Leads : (Names → Where → Maker) → (Bool → ℕ → Env → World → Outcome) → Type 0
  Leads f x = (ss : Names) (a : Where) (s e : Spot) (out : Way) (w : Bool) (M j n : ℕ) (c : Ctx) (o : Around) (y : World)
      (ls st : List Val) →
      Stands z (fits c.handlers) c.size out s (f ss a s) e → Static top c ss out a → free c.handlers c.life.noted c.below ≡ w → n ≤ top →
      n ≤ M → Above a.height st c.base → Good n c.who.path o c.held c.also c.size y.state ls →
      LeadsTo z j n c o y.behind y.tasks (at c o y.state ls st s.at) (on e.at st) (x w M c.env y)

  -- the operations of a form, behind n operands on what is beneath; vs are the values before them
  abbrev pub Applied : Form → (vs : List Val) → (n : ℕ) → (fit : Bool) → Ctx → (below st : List Val) → Type 0
  Applied f vs n fit c below st = (ws : List Val) → length ws ≡ n → (s e : Spot) (out : Way) (w : Bool) (M j m : ℕ) (o : Around)
      (y : World) (ls : List Val) → Stands z (fits c.handlers) c.size out s (finish f n fit s) e →
      free c.handlers c.life.noted c.below ≡ w → m ≤ top → m ≤ M → Good m c.who.path o c.held c.also c.size y.state ls →
      LeadsTo z j m c o y.behind y.tasks (at c o y.state ls (stacked ws below) s.at) (on e.at st)
      (apply z.program (deeper z.program M) f (vs ++ ws) w c.env y)

  -- operands beneath which the values vs lie already
  pub applied_leads : (f : Form) → IsPlain z differ top f → (ts : Trees) → All_lead z differ top ts → (fit : Bool) (vs : List Val)
      (ss : Names) (a : Where) (s e : Spot) (out : Way) (w : Bool) (M j n : ℕ) (c : Ctx) (o : Around) (y : World)
      (ls below st : List Val) →
      Applied f vs (how_many ts) fit c below st →
      Stands z (fits c.handlers) c.size out s ((low.args z.program differ ts ss a then finish f (how_many ts) fit) s) e →
      Static top c ss out a → free c.handlers c.life.noted c.below ≡ w → n ≤ top → n ≤ M → Above a.height below c.base →
      Good n c.who.path o c.held c.also c.size y.state ls →
      LeadsTo z j n c o y.behind y.tasks (at c o y.state ls below s.at) (on e.at st)
      (all_args z.program (deeper z.program M) ts f vs w c.env y)
  applied_leads f pf ts hs fit vs ss a s e out w M j n c o y ls below st ha i sc fw lt lM ab g =
      let r = then_stand z s e (low.args z.program differ ts ss a) (finish f (how_many ts) fit) i in
      args_leads z differ top ts hs f pf ss a s _ out w M j n c o y ls below vs (on e.at st)
      (args_stand z differ top ts ss a (fits c.handlers) c.size out s _ r.0) sc fw lt lM ab g
      (λ ws q w M i m fw le lM o y ls g. ha ws q _ e out w M i m o y ls r.1 fw (trans le lt) lM g)

  -- the first operand, then the others
  pub first_leads : (f : Form) → IsPlain z differ top f → (b : Tree) → EvLeads z differ top b → (ts : Trees) → All_lead z differ top ts →
      ((c : Ctx) (v : Val) (st : List Val) → Applied f (v ∷ []) (how_many ts) true c (v ∷ st) st) →
      Leads (λ ss a. piece z.program differ b ss a then low.args z.program differ ts ss (up a) then finish f (how_many ts) true)
      (λ w M e y. all_args z.program (deeper z.program M) (more_trees b ts) f [] w e y)
  first_leads f pf b hb ts hs ha ss a s e out w M j n c o y ls st i sc fw lt lM ab g =
      let r = then_stand z s e (piece z.program differ b ss a)
      (low.args z.program differ ts ss (up a) then finish f (how_many ts) true) i in
      let r2 = then_stand z _ e (low.args z.program differ ts ss (up a)) (finish f (how_many ts) true) r.1 in
      args_leads z differ top (more_trees b ts) (hb, hs) f pf ss a s _ out w M j n c o y ls st [] (on e.at st)
      (r.0, args_stand z differ top ts ss (up a) (fits c.handlers) c.size out _ _ r2.0) sc fw lt lM ab g
      (λ ws q w M i m fw le lM o y ls g. by ws q w M i m fw (trans le lt) lM o y ls r2.1 g)
    where
      by : (ws : List Val) → length ws ≡ suc (how_many ts) → {s : Spot} (w : Bool) (M i m : ℕ) →
          free c.handlers c.life.noted c.below ≡ w → m ≤ top → m ≤ M → (o : Around) (y : World) (ls : List Val) →
          Stands z (fits c.handlers) c.size out s (finish f (how_many ts) true s) e →
          Good m c.who.path o c.held c.also c.size y.state ls →
          LeadsTo z i m c o y.behind y.tasks (at c o y.state ls (stacked ws st) s.at) (on e.at st)
          (apply z.program (deeper z.program M) f ws w c.env y)
      by [] q w M i m fw lt lM o y ls x g = absurd (omega (arith, q))
      by (v ∷ ws) q w M i m fw lt lM o y ls x g = ha c v st ws (omega (arith, q)) _ e out w M i m o y ls x fw lt lM g

  -- ---- forms of a number of operands, which are wrong with another number

  abbrev pub Wrong : Form → List Val → Type 0
  Wrong f vs = (M : ℕ) (w : Bool) (e : Env) (y : World) → apply z.program (deeper z.program M) f vs w e y ≡ halted (wrong y.state)

  abbrev pub Done : Form → (vs : List Val) → Maker → Ctx → (stk st : List Val) → Type 0
  Done f vs x c stk st = (s e : Spot) (out : Way) (w : Bool) (M j m : ℕ) (o : Around) (y : World) (ls : List Val) →
      Stands z (fits c.handlers) c.size out s (x s) e → free c.handlers c.life.noted c.below ≡ w → m ≤ top → m ≤ M →
      Good m c.who.path o c.held c.also c.size y.state ls →
      LeadsTo z j m c o y.behind y.tasks (at c o y.state ls stk s.at) (on e.at st) (apply z.program (deeper z.program M) f vs w c.env y)

  pub wrong_done : (f : Form) (vs : List Val) (c : Ctx) (stk st : List Val) → Wrong f vs → Done f vs stuck c stk st
  wrong_done f vs c stk st h s e out w M j m o y ls x fw lt lM g = is_leads z (h M w c.env y) (stuck_leads z x)

  -- the operands on top fall away, before what stands beneath them
  dropped_done : (f : Form) (vs : List Val) (x : Maker) (c : Ctx) (below st : List Val) → Done f vs x c below st →
      (n : ℕ) (stk : List Val) → Above n stk below → Done f vs (dropping n x) c stk st
  dropped_done f vs x c below st h zero stk a = subst (λ u. Done f vs x c u st) (sym a) h
  dropped_done f vs x c below st h (suc n) [] a = absurd a
  dropped_done f vs x c below st h (suc n) (v ∷ stk) a = λ s e out w M j m o y ls i fw lt lM g.
      let r = then_stand z s e (one op.Drop) (dropping n x) i in
      does_leads z (op_stands z r.0).is (open_leads z _ (op_stands z r.0).fit
      (dropped_done f vs x c below st h n stk a _ e out w M j m o y ls r.1 fw lt lM g))

  pub dropping_done : (f : Form) (vs : List Val) (x : Maker) (n : ℕ) (ws : List Val) → length ws ≡ n → (c : Ctx)
      (below st : List Val) → Done f vs x c below st → Done f vs (dropping n x) c (stacked ws below) st
  dropping_done f vs x n ws q c below st h = dropped_done f vs x c below st h n (stacked ws below)
      (subst (λ d. Above d (stacked ws below) below) (later_none n) (stacked_above n ws 0 below below q refl))

  pub by_one : (f : Form) (vs : List Val) (x : Maker) (n : ℕ) (ws : List Val) → length ws ≡ n → (c : Ctx) (below st : List Val) →
      ((v : Val) → Done f (vs ++ v ∷ []) x c (v ∷ below) st) → Wrong f (vs ++ []) →
      ((v u : Val) (ws : List Val) → Wrong f (vs ++ v ∷ u ∷ ws)) → Done f (vs ++ ws) (with_one n x) c (stacked ws below) st
  by_one f vs x zero [] q c below st h w0 more = wrong_done f (vs ++ []) c below st w0
  by_one f vs x (suc zero) (v ∷ []) q c below st h w0 more = h v
  by_one f vs x (suc (suc n)) (v ∷ (u ∷ ws)) q c below st h w0 more =
      wrong_done f (vs ++ v ∷ u ∷ ws) c (stacked (v ∷ u ∷ ws) below) st (more v u ws)
  by_one f vs x n ws q c below st h w0 more = absurd (omega (arith, q))

  pub by_two : (f : Form) (x : Maker) (n : ℕ) (ws : List Val) → length ws ≡ n → (c : Ctx) (below st : List Val) →
      ((v u : Val) → Done f (v ∷ u ∷ []) x c (u ∷ v ∷ below) st) → Wrong f [] → ((v : Val) → Wrong f (v ∷ [])) →
      ((v u r : Val) (ws : List Val) → Wrong f (v ∷ u ∷ r ∷ ws)) → Done f ws (with_two n x) c (stacked ws below) st
  by_two f x zero [] q c below st h w0 w1 more = wrong_done f [] c below st w0
  by_two f x (suc zero) (v ∷ []) q c below st h w0 w1 more = wrong_done f (v ∷ []) c (v ∷ below) st (w1 v)
  by_two f x (suc (suc zero)) (v ∷ (u ∷ [])) q c below st h w0 w1 more = h v u
  by_two f x (suc (suc (suc n))) (v ∷ (u ∷ (r ∷ ws))) q c below st h w0 w1 more =
      wrong_done f (v ∷ u ∷ r ∷ ws) c (stacked (v ∷ u ∷ r ∷ ws) below) st (more v u r ws)
  by_two f x n ws q c below st h w0 w1 more = absurd (omega (arith, q))
