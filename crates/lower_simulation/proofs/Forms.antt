-- The machine follows the meaning, form by form.
use Rattle.std.proofs.Common.{◌≡◌, ℕ, suc, ◌≤◌, List, [], ◌∷◌, ◌++◌, length, Bool, true, false, refl, sym, ap, subst, arith, append_assoc}
use Rattle.std.proofs.Common.{append-nil}
use Rattle.verse_base.specs.declared.places.Place.{Place}
use Rattle.verse_tree.specs.Tree.{Bytes, Tree, tree, Shape, Trees, no_trees, more_trees}
use Rattle.verse_tree.specs.Tree as t
use Rattle.verse_tree.specs.declared.exprs.Comparison.{Comparison}
use Rattle.verse_tree.specs.declared.exprs.Comparison.TheVariants as cmp
use Rattle.verse_code.specs.declared.operations.Op.{Op}
use Rattle.verse_value.specs.Val.{Val}
use Rattle.verse_value.specs.Operations.{negation_of, query_of, less_of, at_most_of, greater_of, at_least_of, equal_of, unequal_of}
use Rattle.verse_meaning_state.specs.State.{State}
use Rattle.verse_meaning_state.specs.Effects.{still}
use Rattle.verse_meaning.specs.Programs.{trees_list}
use Rattle.verse_meaning.specs.Residuals as form
use Rattle.verse_meaning.specs.Residuals.{Env, Form, Residual, args, Scopes, leaves}
use Rattle.verse_meaning.specs.Outcomes.{World, Outcome, valued, told_plain}
use Rattle.verse_meaning.specs.Forms.{apply, compared}
use Rattle.verse_meaning.specs.Evaluating.{ev, all_args}
use Rattle.verse_meaning.specs.Resuming.{form_done, operands, resume}
use Rattle.verse_meaning.specs.Runs.{deeper}
use Rattle.verse_code_machine.specs.Tasks.{Handler, Life, Machine, Step, machine}
use Rattle.verse_code_machine.specs.Frames.{kept_defers, kept_noted, fits, free}
use Rattle.lower_code.specs.Pieces.{Spot, past, sure}
use Rattle.lower_code.specs.Scopes.{Scope as Names}
use Rattle.lower_code.specs.declared.arounds.Around.{Around as Where}
use Rattle.lower_code.specs.Arounds.{up}
use Rattle.lower_code.specs.Applied as applied
use Rattle.lower_code.specs.Lowering.{piece, how_many}
use Rattle.lower_simulation.proofs.Claims.{Way, Setting, Exit, no_loop, loop_at, kept_at, Leave, with_return, no_return, left_at, Ctx}
use Rattle.lower_simulation.proofs.Claims.{Around, at, Good, Target, on, Goes_on, Tasks, Low, Fits, Above}
use Rattle.lower_simulation.proofs.Steps.{act_at}
use Rattle.lower_simulation.proofs.Going.{trans, le_self}
use Rattle.lower_simulation.proofs.Standing.{Stands, joined_stands, op_stands}
use Rattle.lower_simulation.proofs.Leading.{LeadsTo, value_leads, does_leads, told_leads, told_plain_leads, still_calm}

-- how loops are left agrees with where a part stands: whether it is in a loop, and how many blocks its `break` leaves to those around
abbrev pub Loops : Exit → (inside : Bool) → (out : Way) → (floor : ℕ) → Type 0
Loops (no_loop kept) inside out floor = (inside ≡ false) × (kept ≡ floor)
Loops (loop_at label drops kept) inside out floor = (inside ≡ true) × (label ≡ out.label) × (drops ≡ out.most) × (kept ≡ floor)

-- the same of a `return`
abbrev pub Leaves : Leave → (may : Bool) → (base : ℕ) → Type 0
Leaves with_return may base = (may ≡ true) × (base ≡ 0)
Leaves (no_return kept) may base = (may ≡ false) × (kept ≡ base)

-- so many deferred blocks may a Leave keep: no fewer than the innermost handler does, and no more than there are
pub record Keepable (hs : List Handler) (g : Life) (n : ℕ) : Type 0 where
  pub handled : kept_defers hs ≤ n
  pub there : n ≤ length g.defers

-- what does not change while a part of a function runs
pub record Static (top : ℕ) (c : Ctx) (ss : Names) (out : Way) (a : Where) : Type 0 where
  -- where names stand
  pub fits : Fits ss c.env c.held
  pub low : Low (length ss) c.held
  pub low_also : Low (length ss) c.also
  -- what leaves the part
  pub loops : Loops c.exit a.in_loop out a.floor
  pub leaves : Leaves c.leave a.may_return a.base
  pub breaks : Keepable c.handlers c.life (kept_at c.exit)
  pub returns : Keepable c.handlers c.life (left_at c.leave)
  -- deferred blocks, and those that run
  pub defers : length c.life.defers ≡ a.defers
  pub noted : kept_noted c.handlers ≤ length c.life.noted
  pub born : top ≤ c.life.born

-- one operand more is on the stack
pub on_one : {top : ℕ} {c : Ctx} {ss : Names} {out : Way} {a : Where} → Static top c ss out a → Static top c ss out (up a)
on_one h = record {
  fits = h.fits;
  low = h.low;
  low_also = h.low_also;
  loops = h.loops;
  leaves = h.leaves;
  breaks = h.breaks;
  returns = h.returns;
  defers = h.defers;
  noted = h.noted;
  born = h.born;
}

abbrev pub machine_at : Ctx → Around → State → List Val → List Val → ℕ → Machine
machine_at c o s ls st pc = machine c.who o.world s c.life ls st pc c.handlers c.below

-- the operands above others, the last on top
abbrev pub stacked : List Val → List Val → List Val
stacked [] st = st
stacked (v ∷ vs) st = stacked vs (v ∷ st)

module _ (z : Setting) where
  pub end_leads : {j n : ℕ} {c : Ctx} {o : Around} {b : Scopes} {f : Tasks} {q : Step} {st : List Val} {x : Outcome} {s e : Spot} →
      s ≡ e → LeadsTo z j n c o b f q (on s.at st) x → LeadsTo z j n c o b f q (on e.at st) x
  end_leads {j} {n} {c} {o} {b} {f} {q} {st} {x} h l = subst (λ (s : Spot). LeadsTo z j n c o b f q (on s.at st) x) h l

  pub start_leads : {j n : ℕ} {c : Ctx} {o : Around} {b : Scopes} {f : Tasks} {y : State} {ls st : List Val} {into : Target}
      {x : Outcome} {s e : Spot} → s ≡ e → LeadsTo z j n c o b f (at c o y ls st e.at) into x →
      LeadsTo z j n c o b f (at c o y ls st s.at) into x
  start_leads {j} {n} {c} {o} {b} {f} {y} {ls} {st} {into} {x} h l = subst
      (λ (s : Spot). LeadsTo z j n c o b f (at c o y ls st s.at) into x) (sym h) l

  -- one operation, that goes on behind it
  pub op_leads : {j n : ℕ} {c : Ctx} {o : Around} {b : Scopes} {f : Tasks} {y : State} {ls stk st : List Val} {s e : Spot} {x : Op}
      {m size : ℕ} {out : Way} {pls : List Place} {ts : List Bytes} {r : Outcome} →
      (i : Stands z (fits c.handlers) size out s (record { items = sure x ∷ []; places = pls; texts = ts; locals = m }) e) →
      (Goes_on z (fits c.handlers) s.at (suc s.at) x → LeadsTo z j n c o b f (act_at z x (machine_at c o y ls stk s.at))
      (on (suc s.at) st) r) → LeadsTo z j n c o b f (at c o y ls stk s.at) (on e.at st) r
  op_leads i h = end_leads i.ends (does_leads z (op_stands z i).is (h (op_stands z i)))

  -- one operation, and more behind it
  pub at_leads : {j n : ℕ} {c : Ctx} {o : Around} {b : Scopes} {f : Tasks} {y : State} {ls stk : List Val} {s e : Spot} {x : Op}
      {m size : ℕ} {out : Way} {pls : List Place} {ts : List Bytes} {into : Target} {r : Outcome} →
      (i : Stands z (fits c.handlers) size out s (record { items = sure x ∷ []; places = pls; texts = ts; locals = m }) e) →
      (Goes_on z (fits c.handlers) s.at (suc s.at) x → LeadsTo z j n c o b f (act_at z x (machine_at c o y ls stk s.at)) into r) →
      LeadsTo z j n c o b f (at c o y ls stk s.at) into r
  at_leads i h = does_leads z (op_stands z i).is (h (op_stands z i))

  module _ (differ : ℕ → ℕ → Bool) (top : ℕ) where
    abbrev pub EvLeads : Tree → Type 0
    EvLeads x = (ss : Names) (a : Where) (s e : Spot) (out : Way) (w : Bool) (M j n : ℕ) (c : Ctx) (o : Around) (y : World)
        (ls st : List Val) →
        Stands z (fits c.handlers) c.size out s (piece z.program differ x ss a s) e → Static top c ss out a →
        free c.handlers c.life.noted c.below ≡ w → n ≤ top → n ≤ M → Above a.height st c.base →
        Good n c.who.path o c.held c.also c.size y.state ls → LeadsTo z j n c o y.behind y.tasks (at c o y.state ls st s.at) (on e.at st)
        (ev z.program (deeper z.program M) x w c.env y)

    -- operands in turn, from the spot s to the spot e
    abbrev pub Operands_stand : Trees → Names → Where → (ok : ℕ → Bool) → (size : ℕ) → (out : Way) → (s e : Spot) → Type 0
    Operands_stand no_trees ss a ok size out s e = s ≡ e
    Operands_stand (more_trees x ts) ss a ok size out s e =
        Stands z ok size out s (piece z.program differ x ss a s) (past s (piece z.program differ x ss a s)) × Operands_stand ts ss
        (up a) ok size out (past s (piece z.program differ x ss a s)) e

    abbrev pub All_lead : Trees → Type 0
    All_lead no_trees = Unit {0}
    All_lead (more_trees x ts) = EvLeads x × All_lead ts

    -- the operands are on the stack: the form is applied
    abbrev pub Finish_leads : (count : ℕ) → (c : Ctx) → (from : ℕ) → (st : List Val) → Target → (Bool → ℕ → List Val → World → Outcome) →
        ℕ → Type 0
    Finish_leads count c from st into apply top = (ws : List Val) → length ws ≡ count → (w : Bool) (M i m : ℕ) →
        free c.handlers c.life.noted c.below ≡ w → m ≤ top → m ≤ M →
        (o : Around) (y : World) (ls : List Val) → Good m c.who.path o c.held c.also c.size y.state ls →
        LeadsTo z i m c o y.behind y.tasks (at c o y.state ls (stacked ws st) from) into (apply w M ws y)

    abbrev pub IsPlain : Form → Type 0
    IsPlain f = (l : ℕ) (vs : List Val) (e : Env) (w : World) → form_done z.program (deeper z.program l) f vs e w ≡
        apply z.program (deeper z.program l) f vs true e w

    operands_args : (ts : Trees) (f : Form) → IsPlain f → (l : ℕ) (vs : List Val) (e : Env) (w : World) →
        operands z.program (deeper z.program l) e f vs (trees_list ts) w ≡ all_args z.program (deeper z.program l) ts f vs true e w
    operands_args no_trees f pf l vs e w = pf l vs e w
    operands_args (more_trees x ts) f pf l vs e w = λ i. valued (ev z.program (deeper z.program l) x true e w)
        (λ r. args e f vs r (trees_list ts)) (λ v w. operands_args ts f pf l (vs ++ v ∷ []) e w i)

    pub args_leads : (ts : Trees) → All_lead ts → (f : Form) → IsPlain f → (ss : Names) (a : Where) (s e : Spot) (out : Way) (w : Bool)
        (M j n : ℕ) (c : Ctx) (o : Around) (y : World) (ls st : List Val) (vs : List Val) (into : Target) →
        Operands_stand ts ss a (fits c.handlers) c.size out s e → Static top c ss out a → free c.handlers c.life.noted c.below ≡ w →
        n ≤ top → n ≤ M → Above a.height st c.base → Good n c.who.path o c.held c.also c.size y.state ls →
        Finish_leads (how_many ts) c e.at st into (λ w M ws y. apply z.program (deeper z.program M) f (vs ++ ws) w c.env y) n →
        LeadsTo z j n c o y.behind y.tasks (at c o y.state ls st s.at) into (all_args z.program (deeper z.program M) ts f vs w c.env y)
    args_leads no_trees hs f pf ss a s e out w M j n c o y ls st vs into i sc fw lt lM ab g fin =
        subst (λ (x : Spot). LeadsTo z j n c o y.behind y.tasks (at c o y.state ls st x.at) into
        (apply z.program (deeper z.program M) f vs w c.env y)) (sym i)
        (subst (λ x. LeadsTo z j n c o y.behind y.tasks (at c o y.state ls st e.at) into
        (apply z.program (deeper z.program M) f x w c.env y)) (append-nil vs)
        (fin [] refl w M j n fw le_self lM o y ls g))
    args_leads (more_trees x ts) hs f pf ss a s e out w M j n c o y ls st vs into i sc fw lt lM ab g fin =
        let p = piece z.program differ x ss a s in
        value_leads z (on (past s p).at st) into _ (λ r. args c.env f vs r (trees_list ts))
        (λ w M v y. all_args z.program (deeper z.program M) ts f (vs ++ v ∷ []) w c.env y) fw lM (λ r. refl) (λ r M w. refl)
        (λ r M w. refl)
        (λ l r n v y i. valued (resume z.program (deeper z.program l) r n v y) (λ r. args c.env f vs r (trees_list ts))
        (λ v w. operands_args ts f pf l (vs ++ v ∷ []) c.env w i))
        (hs.0 ss a s (past s p) out w M j n c o y ls st i.0 sc fw lt lM ab g) (λ w M j m fw le lM o v y ls g.
        args_leads ts hs.1 f pf ss (up a) (past s p) e out w M j m c o y ls (v ∷ st) (vs ++ v ∷ []) into i.1 (on_one sc) fw
        (trans le lt) lM ab g
        (λ ws q w M i q' fw lq lM o y ls g. subst (λ u. LeadsTo z i q' c o y.behind y.tasks
        (at c o y.state ls (stacked ws (v ∷ st)) e.at) into (apply z.program (deeper z.program M) f u w c.env y))
        (sym (append_assoc vs (v ∷ []) ws))
        (fin (v ∷ ws) (ap suc q) w M i q' fw (trans lq le) lM o y ls g)))

    -- one operand, or two
    pub one_finish : {c : Ctx} {st : List Val} {into : Target} {n : ℕ} (from : ℕ) (apply : Bool → ℕ → List Val → World → Outcome) →
        ((v : Val) (w : Bool) (M i m : ℕ) → free c.handlers c.life.noted c.below ≡ w → m ≤ n → m ≤ M →
        (o : Around) (y : World) (ls : List Val) → Good m c.who.path o c.held c.also c.size y.state ls →
        LeadsTo z i m c o y.behind y.tasks (at c o y.state ls (v ∷ st) from) into (apply w M (v ∷ []) y)) →
        Finish_leads 1 c from st into apply n
    one_finish from apply f [] q = absurd (omega (arith, q))
    one_finish from apply f (v ∷ []) q = f v
    one_finish from apply f (v ∷ (u ∷ ws)) q = absurd (omega (arith, q))

    pub two_finish : {c : Ctx} {st : List Val} {into : Target} {n : ℕ} (from : ℕ) (apply : Bool → ℕ → List Val → World → Outcome) →
        ((v u : Val) (w : Bool) (M i m : ℕ) → free c.handlers c.life.noted c.below ≡ w → m ≤ n → m ≤ M →
        (o : Around) (y : World) (ls : List Val) → Good m c.who.path o c.held c.also c.size y.state ls →
        LeadsTo z i m c o y.behind y.tasks (at c o y.state ls (u ∷ v ∷ st) from) into (apply w M (v ∷ u ∷ []) y)) →
        Finish_leads 2 c from st into apply n
    two_finish from apply f [] q = absurd (omega (arith, q))
    two_finish from apply f (v ∷ []) q = absurd (omega (arith, q))
    two_finish from apply f (v ∷ (u ∷ [])) q = f v u
    two_finish from apply f (v ∷ (u ∷ (x ∷ ws))) q = absurd (omega (arith, q))

    pub minus_leads : (n : ℕ) (pl : Place) (x : Tree) → EvLeads x → EvLeads (tree n pl (t.Shape.minus x))
    minus_leads n pl x hx ss a s e out w M j m c o y ls st i sc fw lt lM ab g =
        let r = joined_stands z s e (piece z.program differ x ss a s) _ i in
        args_leads (more_trees x no_trees) (hx, tt) (form.negating pl) (λ l vs e w. refl) ss a s _ out w M j m c o y ls st [] (on e.at st)
        (r.0, refl) sc fw lt lM ab g
        (one_finish _ _ (λ v w M i m fw le lM o y ls g. op_leads r.1
        (λ h. told_leads z (still (negation_of v) y.state) pl c.env r.1.places.0 h.fit (still_calm z (negation_of v) y.state) g)))

    pub query_leads : (n : ℕ) (pl : Place) (x : Tree) → EvLeads x → EvLeads (tree n pl (t.Shape.query x))
    query_leads n pl x hx ss a s e out w M j m c o y ls st i sc fw lt lM ab g =
        let r = joined_stands z s e (piece z.program differ x ss a s) _ i in
        args_leads (more_trees x no_trees) (hx, tt) form.querying (λ l vs e w. refl) ss a s _ out w M j m c o y ls st [] (on e.at st)
        (r.0, refl) sc fw lt lM ab g
        (one_finish _ _ (λ v w M i m fw le lM o y ls g. op_leads r.1
        (λ h. told_plain_leads z (still (query_of v) y.state) c.env h.fit (still_calm z (query_of v) y.state) g)))

    pub compared_leads : (n : ℕ) (pl : Place) (q : Comparison) (x u : Tree) → EvLeads x → EvLeads u →
        EvLeads (tree n pl (t.Shape.compared q x u))
    compared_leads n pl q x u hx hu ss a s e out w M j m c o y ls st i sc fw lt lM ab g =
        let p = piece z.program differ x ss a s in
        let r = joined_stands z s e p _ i in
        let r2 = joined_stands z (past s p) e (piece z.program differ u ss (up a) (past s p)) _ r.1 in
        args_leads (more_trees x (more_trees u no_trees)) (hx, (hu, tt)) (form.comparing q)
        (λ l vs e w. refl) ss a s _ out w M j m c o y ls st [] (on e.at st) (r.0, (r2.0, refl)) sc fw lt lM ab g
        (two_finish _ _ (λ v u w M i m fw le lM o y ls g. op_leads r2.1 (λ h. compared_at q v u c o y ls st _ c.env i m h.fit g)))
      where
        compared_at : (q : Comparison) (v u : Val) (c : Ctx) (o : Around) (y : World) (ls st : List Val) (p : ℕ) (env : Env) (i m : ℕ) →
            fits c.handlers (suc p) ≡ true → Good m c.who.path o c.held c.also c.size y.state ls →
            LeadsTo z i m c o y.behind y.tasks (act_at z (applied.comparing q) (machine_at c o y.state ls (u ∷ v ∷ st) p)) (on (suc p) st)
            (told_plain (still (compared q v u) y.state) env y)
        compared_at cmp.Equal v u c o y ls st p env i m f g = told_plain_leads z (still (equal_of v u) y.state) env f
            (still_calm z (equal_of v u) y.state) g
        compared_at cmp.Differs v u c o y ls st p env i m f g = told_plain_leads z (still (unequal_of v u) y.state) env f
            (still_calm z (unequal_of v u) y.state) g
        compared_at cmp.Below v u c o y ls st p env i m f g = told_plain_leads z (still (less_of v u) y.state) env f
            (still_calm z (less_of v u) y.state) g
        compared_at cmp.AtMost v u c o y ls st p env i m f g = told_plain_leads z (still (at_most_of v u) y.state) env f
            (still_calm z (at_most_of v u) y.state) g
        compared_at cmp.Above v u c o y ls st p env i m f g = told_plain_leads z (still (greater_of v u) y.state) env f
            (still_calm z (greater_of v u) y.state) g
        compared_at cmp.AtLeast v u c o y ls st p env i m f g = told_plain_leads z (still (at_least_of v u) y.state) env f
            (still_calm z (at_least_of v u) y.state) g
