-- Definitions: a value is put away under a name, and is there again.
use Rattle.std.proofs.Common.{◌≡◌, ℕ, suc, ◌≤◌, List, [], ◌∷◌, ◌++◌, length, Option, Some, None, Bool, true, false, refl, sym, ap, ◌∙◌}
use Rattle.std.proofs.Common.{subst, arith}
use Rattle.std.specs.Prelude.{if◌then◌else◌, nat_le, option_and_then, slice_get}
use Rattle.verse_base.specs.declared.places.Place.{Place}
use Rattle.verse_base.specs.declared.refusals.Kind.{Kind}
use Rattle.verse_base.specs.declared.refusals.Kind.TheVariants as error_kind
use Rattle.verse_base.proofs.Facts.{get_last}
use Rattle.verse_tree.specs.Tree.{Bytes, Tree, tree}
use Rattle.verse_tree.specs.Tree as t
use Rattle.verse_code.specs.declared.operations.Op.TheVariants as op
use Rattle.verse_value.specs.Val.{Val, object}
use Rattle.verse_value.specs.Store.{Store, Cell, slot_of, with_cell, store_weight}
use Rattle.verse_value.specs.Answer.{gives, error, given_or, stuck as amiss}
use Rattle.verse_value.specs.declared.sizes.TheConstants.{MOST_STORE_WEIGHT}
use Rattle.verse_value.specs.declared.runs.CellKind.TheVariants as kind
use Rattle.verse_meaning_state.specs.State.{State, with_store}
use Rattle.verse_meaning_state.specs.Effects.{still, added}
use Rattle.verse_meaning.specs.Residuals as form
use Rattle.verse_meaning.specs.Residuals.{Env, constant, variable, args, Scopes, Binder, no_name, a_constant, a_variable}
use Rattle.verse_meaning.specs.Outcomes.{World, with_state, Outcome, value, valued, told, Halt, halted}
use Rattle.verse_meaning.specs.Forms.{apply, defined, bound_to, variable_bound}
use Rattle.verse_meaning.specs.Evaluating.{ev}
use Rattle.verse_meaning.specs.Runs.{deeper}
use Rattle.verse_code_machine.specs.Frames.{fits, free, answered, faulting}
use Rattle.lower_code.specs.Pieces.{Spot, past, one, placed, kept, ◌then◌}
use Rattle.lower_code.specs.Scopes.{constant_at, variable_at, Scope as Names}
use Rattle.lower_code.specs.declared.arounds.Around.{Around as Where}
use Rattle.lower_code.specs.Lowering.{piece, bind, with_binder}
use Rattle.lower_simulation.proofs.Steps.{over}
use Rattle.lower_simulation.proofs.Claims.{Way, Setting, Ends, Ctx, Around, at, Good, Target, on, Tasks, Locals, Low, first_in, Above}
use Rattle.lower_simulation.proofs.Claims.{Shows, Fits, Holds}
use Rattle.verse_meaning_state.specs.Waits.{nth}
use Rattle.verse_value.specs.declared.runs.CellKind.{CellKind}
use Rattle.lower_simulation.proofs.Leading.{is_leads, LeadsTo, value_leads, does_leads, open_leads, there_leads, value_here}
use Rattle.lower_simulation.proofs.Going.{le_self}
use Rattle.lower_simulation.proofs.Going as going
use Rattle.lower_simulation.proofs.Locals.{puts, holds_put, low_more, fits_more}
use Rattle.lower_simulation.proofs.Standing.{Stands, op_stands, then_stand, placed_stand, kept_stand}
use Rattle.lower_simulation.proofs.Widening.{holding_all}
use Rattle.lower_simulation.proofs.Forms.{Static, EvLeads}

-- the cell that was made holds its value
slot_here : (v : Val) (old : Store) (k : CellKind) → slot_of (with_cell old (record { kind = k; slots = v ∷ [] })) (length old) 0 ≡ Some v
slot_here v old k = ap (λ (x : Option Cell). option_and_then (λ (c : Cell). slice_get c.slots 0) x)
    (get_last old (record { kind = k; slots = v ∷ [] }))

-- all are from n on
abbrev pub High : ℕ → Locals → Type 0
High n [] = Unit {0}
High n (x ∷ ks) = (n ≤ x.0) × High n ks

-- where more names are shown
pub shown_static : {top : ℕ} {c : Ctx} {ss us : Names} {out : Way} {a : Where} {e : Env} {ls : List Val} → length ss ≤ length us →
    Static top c ss out a → (h : Shows us c.held e ls) → Static top (holding_all c e h.more []) us out a
shown_static {c = c} {ss} {us} le sc h = record {
  fits = h.fits;
  low = h.low;
  low_also = low_more (length ss) (length us) c.also le sc.low_also;
  loops = sc.loops;
  leaves = sc.leaves;
  breaks = sc.breaks;
  returns = sc.returns;
  defers = sc.defers;
  noted = sc.noted;
  born = sc.born;
}

pub shown_good : {n : ℕ} (c : Ctx) {us : Names} {o : Around} {e : Env} {s : State} {ls : List Val} (h : Shows us c.held e ls) →
    Good n c.who.path o c.held c.also c.size s ls → Good n c.who.path o (h.more ++ c.held) c.also c.size s ls
shown_good c h g = record { holds = h.holds; besides = g.besides; sized = g.sized; fine = g.fine }

constant_shown : (x : Bytes) (v : Val) (ss : Names) (held : Locals) (e : Env) (ls : List Val) → Fits ss e held → Low (length ss) held →
    Holds held ls → nth ls (length ss) ≡ Some v → Shows (constant_at x ∷ ss) held (bound_to x (constant v) e) ls
constant_shown x v ss held e ls f lo h q = record {
  more = (length ss, v) ∷ [];
  fits = (record { holds = v; is = refl; held = first_in }, fits_more (length ss, v) held ss e f);
  low = (omega arith, low_more (length ss) (suc (length ss)) held (omega arith) lo);
  holds = (q, h);
}

variable_shown : (x : Bytes) (k : ℕ) (ss : Names) (held : Locals) (e : Env) (ls : List Val) → Fits ss e held → Low (length ss) held →
    Holds held ls → nth ls (length ss) ≡ Some (object k) → Shows (variable_at x ∷ ss) held (bound_to x (variable k) e) ls
variable_shown x k ss held e ls f lo h q = record {
  more = (length ss, object k) ∷ [];
  fits = (record { cell = k; is = refl; held = first_in }, fits_more (length ss, object k) held ss e f);
  low = (omega arith, low_more (length ss) (suc (length ss)) held (omega arith) lo);
  holds = (q, h);
}

module _ (z : Setting) where
  -- In the context d, while what is shown is of the context c: where two spots are one
  pub starts_in : {j n : ℕ} {c : Ctx} {o : Around} {b : Scopes} {f : Tasks} {y : State} {ls st : List Val} {into : Target} {x : Outcome}
      {s e : Spot} (d : Ctx) → s ≡ e → LeadsTo z j n c o b f (at d o y ls st e.at) into x →
      LeadsTo z j n c o b f (at d o y ls st s.at) into x
  starts_in {j} {n} {c} {o} {b} {f} {y} {ls} {st} {into} {x} d h l =
      subst (λ (s : Spot). LeadsTo z j n c o b f (at d o y ls st s.at) into x) (sym h) l

  -- the value is put into a new local, and is there again
  kept_leads : {j n : ℕ} {c : Ctx} {o : Around} {b : Scopes} {f : Tasks} {y : State} {ls st : List Val} {out : Way} {s e : Spot}
      {into : Target} (d : Ctx) (r : Outcome) (ss : Names) (v : Val) → Stands z (fits d.handlers) d.size out s (kept (length ss) s) e →
      Low (length ss) d.held → Low (length ss) d.also → Good n d.who.path o d.held d.also d.size y ls →
      ((ls : List Val) → nth ls (length ss) ≡ Some v → Good n d.who.path o d.held d.also d.size y ls →
      LeadsTo z j n c o b f (at d o y ls (v ∷ st) e.at) into r) → LeadsTo z j n c o b f (at d o y ls (v ∷ st) s.at) into r
  kept_leads {y = y} {ls} {s = s} {e} d r ss v i lo lo2 g h =
      let k = kept_stand z s e (length ss) i in
      let room = k.room in
      let sz = g.sized in
      let u = puts ls (length ss) v (omega (arith, room, sz)) in
      does_leads z k.put.is (there_leads z y _ u.is (open_leads z _ k.put.fit
      (does_leads z k.get.is (there_leads z y _ u.here (open_leads z _ k.get.fit
      (starts_in d k.ends (h u.locals u.here (record {
        holds = holds_put d.held ls (length ss) (length ss) v u lo le_self g.holds;
        besides = holds_put d.also ls (length ss) (length ss) v u lo2 le_self g.besides;
        sized = u.sized ∙ g.sized;
        fine = g.fine;
      }))))))))

  -- a variable's cell was made, or not; `make` is what becomes of an outcome
  cell_leads : {j n : ℕ} {c : Ctx} {o : Around} {b : Scopes} {f : Tasks} {ls st : List Val} {p : ℕ} {into : Target} {here : Option Place}
      (d : Ctx) (room : Bool) (q : Kind) (store : Store) (pl : Place) (e : Env) (y : World) (v : Val) (rest : Val → World → Outcome)
      (make : Outcome → Outcome) → ((h : Halt) → make (halted h) ≡ halted h) → here ≡ Some pl → fits d.handlers (suc p) ≡ true →
      LeadsTo z j n c o b f (at d o (with_store y.state store) ls (v ∷ st) (suc p)) into
      (make (rest v (with_state y (with_store y.state store)))) →
      LeadsTo z j n c o b f
      (answered here (added (if room then gives store else error q) v y.state) d.who o.world y.state d.life ls st p d.handlers d.below)
      into (make (valued (told (added (if room then gives store else error q) v y.state) pl e y) (λ r. r) rest))
  unfolding valued told
  cell_leads d true q store pl e y v rest make mh hp hf h = open_leads z _ hf h
  cell_leads d false q store pl e y v rest make mh hp hf h = open_leads z _ hf (is_leads z (mh _)
      (record { go = λ g u. subst (λ x. Ends z (faulting x q y.state) g) (sym hp) (over _ u) }))

  loaded_leads : {j n : ℕ} {c : Ctx} {o : Around} {b : Scopes} {f : Tasks} {s : State} {ls st : List Val} {p : ℕ} {into : Target}
      {x : Outcome} {r : Option Val} (d : Ctx) (v : Val) → r ≡ Some v → fits d.handlers (suc p) ≡ true →
      LeadsTo z j n c o b f (at d o s ls (v ∷ st) (suc p)) into x →
      LeadsTo z j n c o b f (answered None (still (given_or amiss r) s) d.who o.world s d.life ls st p d.handlers d.below) into x
  loaded_leads {j} {n} {c} {o} {b} {f} {s} {ls} {st} {p} {into} {x} {r} d v h hf l =
      subst (λ r. LeadsTo z j n c o b f
      (answered None (still (given_or amiss r) s) d.who o.world s d.life ls st p d.handlers d.below) into x) (sym h) (open_leads z s hf l)

  -- what follows the definition: the name is there, and the value is on the stack
  abbrev pub Bound_leads : (j n : ℕ) → Binder → Names → (c d : Ctx) → Around → World → List Val → Val → ℕ → Target →
      (Env → Val → World → Outcome) → Type 0
  Bound_leads j n b ss c d o y st v p into go = (e : Env) (s : State) (ls : List Val) (bs : Shows (with_binder b ss) d.held e ls) →
      High (length ss) bs.more → Good n d.who.path o d.held d.also d.size s ls →
      LeadsTo z j n c o y.behind y.tasks (at d o s ls (v ∷ st) p) into (go e v (with_state y s))

  pub bind_leads : {top j n : ℕ} {c : Ctx} {o : Around} {out : Way} {a : Where} {ls st : List Val} {into : Target} (d : Ctx) (b : Binder)
      (ss : Names) (s m : Spot) (M : ℕ) (y : World) (v : Val) (go : Env → Val → World → Outcome) (make : Outcome → Outcome) →
      ((h : Halt) → make (halted h) ≡ halted h) → Stands z (fits d.handlers) d.size out s (bind b (length ss) s) m →
      Static top d ss out a → Good n d.who.path o d.held d.also d.size y.state ls →
      Bound_leads j n b ss c d o y st v m.at into (λ e v y. make (go e v y)) →
      LeadsTo z j n c o y.behind y.tasks (at d o y.state ls (v ∷ st) s.at) into
      (make (defined z.program (deeper z.program M) b d.env v y go))
  unfolding defined constant_shown variable_shown
  bind_leads {ls = ls} d no_name ss s m M y v go make mh i sc g h = starts_in d i.ends
      (h d.env y.state ls (record { more = []; fits = sc.fits; low = sc.low; holds = g.holds }) tt g)
  bind_leads d (a_constant x) ss s m M y v go make mh i sc g h = kept_leads d _ ss v i sc.low sc.low_also g
      (λ ls q g. h (bound_to x (constant v) d.env) y.state ls (constant_shown x v ss d.held d.env ls sc.fits sc.low g.holds q)
      (le_self, tt) g)
  bind_leads d (a_variable x pl) ss s m M y v go make mh i sc g h =
      let r = then_stand z s m (placed pl op.New) (kept (length ss) then one (op.Load 0)) i in
      let new = placed_stand z pl op.New r.0 in
      let s1 : Spot = past s (placed pl op.New s) in
      let r2 = then_stand z s1 m (kept (length ss)) (one (op.Load 0)) r.1 in
      let load = op_stands z r2.1 in
      let cell : Cell = record { kind = kind.Var; slots = v ∷ [] } in
      let old : Store = y.state.memory.store in
      let store : Store = with_cell old cell in
      let k : ℕ = length old in
      let s2 : State = with_store y.state store in
      does_leads z new.op.is (cell_leads d (nat_le (store_weight store) MOST_STORE_WEIGHT) error_kind.Store store pl d.env y (object k)
      (λ u y. go (variable_bound x u d.env) v y) make mh new.place new.op.fit
      (kept_leads {y = s2} d _ ss (object k) r2.0 sc.low sc.low_also (going.kept g le_self) (λ ls q g.
      does_leads z load.is (loaded_leads d v (slot_here v old kind.Var) load.fit (starts_in d r2.1.ends
      (h (bound_to x (variable k) d.env) s2 ls (variable_shown x k ss d.held d.env ls sc.fits sc.low g.holds q) (le_self, tt) g))))))

  module _ (differ : ℕ → ℕ → Bool) (top : ℕ) where
    -- a definition whose name is visible nowhere
    alone_leads : {j n : ℕ} {c : Ctx} {o : Around} {out : Way} {a : Where} {ls st : List Val} (b : Binder) (ss : Names) (s e : Spot)
        (M : ℕ) (y : World) (v : Val) → Stands z (fits c.handlers) c.size out s (bind b (length ss) s) e → Static top c ss out a →
        Good n c.who.path o c.held c.also c.size y.state ls →
        LeadsTo z j n c o y.behind y.tasks (at c o y.state ls (v ∷ st) s.at) (on e.at st)
        (defined z.program (deeper z.program M) b c.env v y (λ e1 v y. value c.env v y))
    alone_leads {c = c} b ss s e M y v i sc g = bind_leads c b ss s e M y v _ (λ x. x) (λ h. refl) i sc g
        (λ e1 s ls bs hi g. value_here z {w = with_state y s} g)

    -- `X := E` and `X:t = E`, whose piece is the same
    constant_leads : (b : Tree) → EvLeads z differ top b → (x : Bytes) (ss : Names) (a : Where) (s e : Spot) (out : Way) (w : Bool)
        (M j n : ℕ) (c : Ctx) (o : Around) (y : World) (ls st : List Val) →
        Stands z (fits c.handlers) c.size out s ((piece z.program differ b ss a then bind (a_constant x) (length ss)) s) e →
        Static top c ss out a → free c.handlers c.life.noted c.below ≡ w → n ≤ top → n ≤ M → Above a.height st c.base →
        Good n c.who.path o c.held c.also c.size y.state ls →
        LeadsTo z j n c o y.behind y.tasks (at c o y.state ls st s.at) (on e.at st)
        (valued (ev z.program (deeper z.program M) b w c.env y) (λ r. args c.env form.defining [] r []) (λ v y. value c.env v y))
    unfolding defined
    constant_leads b hb x ss a s e out w M j m c o y ls st i sc fw lt lM ab g =
        let f = piece z.program differ b ss a in
        let r = then_stand z s e f (bind (a_constant x) (length ss)) i in
        value_leads z (on (past s (f s)).at st) _ _ (λ r. args c.env form.defining [] r []) (λ w M v y. value c.env v y) fw lM (λ r. refl)
        (λ r M w. refl) (λ r M w. refl) (λ l x n v y. refl) (hb ss a s _ out w M j m c o y ls st r.0 sc fw lt lM ab g)
        (λ w M i n fw le lM o v y ls g. alone_leads (a_constant x) ss _ e M y v r.1 sc g)

    pub definition_leads : (n : ℕ) (pl : Place) (x : Bytes) (b : Tree) → EvLeads z differ top b →
        EvLeads z differ top (tree n pl (t.Shape.definition x b))
    definition_leads n pl x b hb = constant_leads b hb x

    pub typed_leads : (n : ℕ) (pl : Place) (x : Bytes) (u : t.Written) (b : Tree) → EvLeads z differ top b →
        EvLeads z differ top (tree n pl (t.Shape.typed x u b))
    typed_leads n pl x u b hb = constant_leads b hb x

    pub variable_leads : (n : ℕ) (pl : Place) (x : Bytes) (u : t.Written) (b : Tree) → EvLeads z differ top b →
        EvLeads z differ top (tree n pl (t.Shape.variable x u b))
    unfolding defined
    variable_leads n pl x u b hb ss a s e out w M j m c o y ls st i sc fw lt lM ab g =
        let f = piece z.program differ b ss a in
        let r = then_stand z s e f (bind (a_variable x pl) (length ss)) i in
        value_leads z (on (past s (f s)).at st) _ _ (λ r. args c.env (form.varying pl) [] r [])
        (λ w M v y. apply z.program (deeper z.program M) (form.varying pl) (v ∷ []) w c.env y) fw lM (λ r. refl) (λ r M w. refl)
        (λ r M w. refl) (λ l x n v y. refl) (hb ss a s _ out w M j m c o y ls st r.0 sc fw lt lM ab g)
        (λ w M i n fw le lM o v y ls g. alone_leads (a_variable x pl) ss _ e M y v r.1 sc g)
