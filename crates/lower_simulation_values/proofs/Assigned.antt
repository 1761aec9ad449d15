-- `set`, from its target to the write.
use Rattle.std.proofs.Common.{◌≡◌, ℕ, suc, ◌≤◌, List, [], ◌∷◌, ◌++◌, length, Option, Some, Bool, true, false, refl, sym, ap, ◌∙◌, subst}
use Rattle.std.proofs.Common.{arith}
use Rattle.verse_base.specs.declared.places.Place.{Place}
use Rattle.verse_tree.specs.Tree.{Bytes, Tree, tree}
use Rattle.verse_tree.specs.Tree as t
use Rattle.verse_tree.specs.declared.exprs.Assign.{Assign}
use Rattle.verse_code.specs.declared.operations.Op.TheVariants as op
use Rattle.verse_value.specs.Val.{Val, unit, object}
use Rattle.verse_meaning_state.specs.Effects.{slot_written}
use Rattle.verse_meaning.specs.Residuals as form
use Rattle.verse_meaning.specs.Residuals.{Env, Form, Bound, Base, in_variable, in_self, in_object, nowhere, constant, variable}
use Rattle.verse_meaning.specs.Outcomes.{World, Outcome, halted, wrong, told}
use Rattle.verse_meaning.specs.Forms.{look, this_name, constant_of, cell_of, split_last, stored, written_to}
use Rattle.verse_meaning.specs.Evaluating.{targets, base_of, mode_of, number_of}
use Rattle.verse_meaning.specs.Runs.{deeper}
use Rattle.verse_code_machine.specs.Frames.{fits, free}
use Rattle.lower_code.specs.Applied.{storing, slot_of, mode_number}
use Rattle.lower_code.specs.Pieces.{Spot, Maker, past, next, one, when_else, numbering, ◌then◌}
use Rattle.lower_code.specs.Scopes.{Scope as Names, Found, fixed, varies, absent, find, this_found, push_fixed, push_varies, is_fixed}
use Rattle.lower_code.specs.Scopes.{is_varies}
use Rattle.lower_code.specs.declared.arounds.Around.{Around as Where}
use Rattle.lower_code.specs.Arounds.{up, raised}
use Rattle.lower_code.specs.Lowering as low
use Rattle.lower_code.specs.Lowering.{piece, keeps, has_base, target_operands}
use Rattle.lower_simulation.proofs.Steps.{over}
use Rattle.lower_simulation.proofs.Claims.{Way, Setting, Ctx, Around, at, Good, on, Above, In}
use Rattle.lower_simulation.proofs.Locals.{Looked, looked}
use Rattle.lower_simulation.proofs.Standing.{Stands, then_stand, op_stands, numbering_stand}
use Rattle.lower_simulation.proofs.Leading.{LeadsTo, does_leads, open_leads, is_leads}
use Rattle.lower_simulation.proofs.Forms.{Static, on_one, stacked, EvLeads}
use Rattle.lower_simulation_values.proofs.Names.{stuck_leads, get_leads}
use Rattle.lower_simulation_values.proofs.Tables.{Every}
use Rattle.lower_simulation_values.proofs.Operands.{in_turn, Listed, listed_leads}
use Rattle.lower_simulation_values.proofs.Applied.{Leads}
use Rattle.lower_simulation_values.proofs.Targets.{Root, variable_root, self_root, object_root, no_root, base_for, Rooted, target_list}
use Rattle.lower_simulation_values.proofs.Targets.{root_has}
use Rattle.lower_simulation_values.proofs.Targets.{root_around, operands_of, has_same, list_many, behind_target, Target_lead, target_each}
use Rattle.lower_simulation_values.proofs.Targets.{listed_both, target_stand, targets_in_turn, Improper, proper, improper, Target_sort}
use Rattle.lower_simulation_values.proofs.Targets.{sort_target}
use Rattle.lower_simulation_values.proofs.Targets.{root_spot, Root_stands}
use Rattle.lower_simulation_values.proofs.Writes.{stacked_last, split_many, storing_leads}

module _ (z : Setting) (differ : ℕ → ℕ → Bool) (top : ℕ) where
  -- the code of the write, behind the value
  abbrev Write_code : Assign → (keep : Bool) → Place → Base → (i : ℕ) → Names → Maker
  Write_code x keep pl base i ss =
      numbering pl (λ m. storing (op.Store (slot_of base) i (mode_number (mode_of x)) m) (keeps x keep) (length ss))

  -- the value is on top, beneath it the indices and the cell
  write_leads : {j n : ℕ} {c : Ctx} {ss : Names} {out : Way} {a : Where} {o : Around} {y : World} {ls st : List Val} (s e : Spot)
      (x : Assign)
      (keep : Bool) (pl : Place) (base : Base) (i : ℕ) (cell u : Val) (us : List Val) → length us ≡ i → Static top c ss out a →
      Stands z (fits c.handlers) c.size out s (Write_code x keep pl base i ss s) e → Good n c.who.path o c.held c.also c.size y.state ls →
      LeadsTo z j n c o y.behind y.tasks (at c o y.state ls (stacked (u ∷ us) (cell ∷ st)) s.at) (on e.at st)
      (written_to z.program (deeper z.program 0) (Some cell) (slot_of base) (u ∷ us) (mode_of x) pl c.env y)
  write_leads {j} {n} {c} {ss} {out} {a} {o} {y} {ls} {st} s e x keep pl base i cell u us q sc h g =
      let f : ℕ → Maker = λ m. storing (op.Store (slot_of base) i (mode_number (mode_of x)) m) (keeps x keep) (length ss) in
      let r = numbering_stand z s e pl f h in
      subst (λ k. LeadsTo z j n c o y.behind y.tasks (at c o y.state ls k s.at) (on e.at st)
      (told (slot_written (slot_of base) (split_last u us).0 (mode_of x) (split_last u us).1 cell y.state) pl c.env y))
      (sym (stacked_last u us (cell ∷ st)))
      (storing_leads z x keep pl (slot_of base) i s.place (split_last u us).0 (split_last u us).1 cell (split_many u us ∙ q) r.0 sc
      r.1 g)

  -- behind all operands
  abbrev Written : Assign → (keep : Bool) → Place → Root → (i : ℕ) → Names → (has : Bool) → (c : Ctx) → (below st : List Val) → Way →
      Type 0
  Written x keep pl r i ss has c below st out = (ws : List Val) → length ws ≡ suc (operands_of r i) → (s e : Spot) (w : Bool) (M j m : ℕ)
      (o : Around) (y : World) (ls : List Val) →
      Stands z (fits c.handlers) c.size out s (when_else has (Write_code x keep pl (base_for r) i ss) s) e →
      Good m c.who.path o c.held c.also c.size y.state ls →
      LeadsTo z j m c o y.behind y.tasks (at c o y.state ls (stacked ws below) s.at) (on e.at st)
      (stored z.program (deeper z.program M) (base_for r) ws (mode_of x) pl c.env y)

  -- no cell: the code is stuck, and the meaning wrong
  unwritten : (x : Assign) (keep : Bool) (pl : Place) (r : Root) (i : ℕ) (ss : Names) (c : Ctx) (below st : List Val) (out : Way) →
      ((M : ℕ) (ws : List Val) (y : World) →
      stored z.program (deeper z.program M) (base_for r) ws (mode_of x) pl c.env y ≡ halted (wrong y.state)) →
      Written x keep pl r i ss false c below st out
  unwritten x keep pl r i ss c below st out h ws q s e w M j m o y ls k g = is_leads z (h M ws y) (stuck_leads z k)

  -- the cell lies beneath the operands
  written_beneath : {a : Where} (x : Assign) (keep : Bool) (pl : Place) (r : Root) (i : ℕ) (ss : Names) (c : Ctx) (cell : Val)
      (st : List Val)
      (out : Way) → operands_of r i ≡ i → Static top c ss out a → ((M : ℕ) (ws : List Val) (y : World) →
      stored z.program (deeper z.program M) (base_for r) ws (mode_of x) pl c.env y ≡
      written_to z.program (deeper z.program 0) (Some cell) (slot_of (base_for r)) ws (mode_of x) pl c.env y) →
      Written x keep pl r i ss true c (cell ∷ st) st out
  written_beneath x keep pl r i ss c cell st out many sc h [] q s e w M j m o y ls k g = absurd (omega (arith, q))
  written_beneath x keep pl r i ss c cell st out many sc h (u ∷ us) q s e w M j m o y ls k g = is_leads z (h M (u ∷ us) y)
      (write_leads s e x keep pl (base_for r) i cell u us (omega (arith, q, many)) sc k g)

  -- the object is the first operand
  written_object : {a : Where} (x : Assign) (keep : Bool) (pl : Place) (slot i : ℕ) (ss : Names) (c : Ctx) (st : List Val) (out : Way) →
      Static top c ss out a → Written x keep pl (object_root slot) i ss true c st st out
  written_object x keep pl slot i ss c st out sc [] q s e w M j m o y ls k g = absurd (omega (arith, q))
  written_object x keep pl slot i ss c st out sc (u ∷ []) q s e w M j m o y ls k g = absurd (omega (arith, q))
  written_object x keep pl slot i ss c st out sc (u ∷ (r ∷ us)) q s e w M j m o y ls k g =
      write_leads s e x keep pl (in_object slot) i u r us (omega (arith, q)) sc k g

  -- ---- from the root on

  -- the operands from a spot on, and the write
  abbrev From_root : Assign → (keep : Bool) → Place → Root → List Tree → (i : ℕ) → Names → (has : Bool) → Where → Ctx → (s m e : Spot) →
      Way →
      Type 0
  From_root x keep pl r xs i ss has a c s m e out = Listed z differ top xs ss a (fits c.handlers) c.size out s m ×
      Stands z (fits c.handlers) c.size out m (when_else has (Write_code x keep pl (base_for r) i ss) m) e

  operands_lead : (x : Assign) (keep : Bool) (pl : Place) (r : Root) (xs : List Tree) (i : ℕ) → Every (EvLeads z differ top) xs →
      length xs ≡ suc (operands_of r i) → (has : Bool) (ss : Names) (a : Where) (s l e : Spot) (out : Way) (w : Bool) (M j n : ℕ) (c : Ctx)
      (o : Around) (y : World) (ls below st : List Val) → From_root x keep pl r xs i ss has a c s l e out → Static top c ss out a →
      free c.handlers c.life.noted c.below ≡ w → n ≤ top → n ≤ M → Above a.height below c.base →
      Good n c.who.path o c.held c.also c.size y.state ls → Written x keep pl r i ss has c below st out →
      LeadsTo z j n c o y.behind y.tasks (at c o y.state ls below s.at) (on e.at st)
      (in_turn z differ top (form.storing (base_for r) (mode_of x) pl) [] xs w M c.env y)
  operands_lead x keep pl r xs i hs many has ss a s l e out w M j n c o y ls below st k sc fw lt lM ab g fin =
      listed_leads z differ top xs hs (form.storing (base_for r) (mode_of x) pl) (λ l vs e w. refl) ss a s l out w M j n c o y ls below []
      (on e.at st) k.0 sc fw lt lM ab g (λ ws q w M i m fw le lM o y ls g. fin ws (q ∙ many) l e w M i m o y ls k.1 g)

  -- a cell is there, and lies beneath the operands
  with_cell : (x : Assign) (keep : Bool) (pl : Place) (r : Root) (xs : List Tree) (i l : ℕ) (cell : Val) →
      Every (EvLeads z differ top) xs → length xs ≡ suc i → operands_of r i ≡ i → (ss : Names) (a : Where) (s m e : Spot) (out : Way)
      (w : Bool) (M j n : ℕ) (c : Ctx) (o : Around) (y : World) (ls st : List Val) →
      Stands z (fits c.handlers) c.size out s (one (op.Get l) s) (next s) → In l cell c.held →
      ((M : ℕ) (ws : List Val) (y : World) → stored z.program (deeper z.program M) (base_for r) ws (mode_of x) pl c.env y ≡
      written_to z.program (deeper z.program 0) (Some cell) (slot_of (base_for r)) ws (mode_of x) pl c.env y) →
      From_root x keep pl r xs i ss true (up a) c (next s) m e out → Static top c ss out a → free c.handlers c.life.noted c.below ≡ w →
      n ≤ top → n ≤ M → Above a.height st c.base → Good n c.who.path o c.held c.also c.size y.state ls →
      LeadsTo z j n c o y.behind y.tasks (at c o y.state ls st s.at) (on e.at st)
      (in_turn z differ top (form.storing (base_for r) (mode_of x) pl) [] xs w M c.env y)
  with_cell x keep pl r xs i l cell hs many plain ss a s m e out w M j n c o y ls st b h eq k sc fw lt lM ab g =
      get_leads z (op_stands z b) h g (operands_lead x keep pl r xs i hs (many ∙ ap suc (sym plain)) true ss (up a)
      (next s) m e out w M j n c
      o y ls (cell ∷ st) st k (on_one sc) fw lt lM ab g (written_beneath x keep pl r i ss c cell st out plain sc eq))

  -- there is none
  without_cell : (x : Assign) (keep : Bool) (pl : Place) (r : Root) (xs : List Tree) (i : ℕ) →
      Every (EvLeads z differ top) xs → length xs ≡ suc i → operands_of r i ≡ i → (ss : Names) (a : Where) (s m e : Spot) (out : Way)
      (w : Bool) (M j n : ℕ) (c : Ctx) (o : Around) (y : World) (ls st : List Val) →
      Stands z (fits c.handlers) c.size out s (one op.Unit s) (next s) →
      ((M : ℕ) (ws : List Val) (y : World) →
      stored z.program (deeper z.program M) (base_for r) ws (mode_of x) pl c.env y ≡ halted (wrong y.state)) →
      From_root x keep pl r xs i ss false (up a) c (next s) m e out → Static top c ss out a → free c.handlers c.life.noted c.below ≡ w →
      n ≤ top → n ≤ M → Above a.height st c.base → Good n c.who.path o c.held c.also c.size y.state ls →
      LeadsTo z j n c o y.behind y.tasks (at c o y.state ls st s.at) (on e.at st)
      (in_turn z differ top (form.storing (base_for r) (mode_of x) pl) [] xs w M c.env y)
  without_cell x keep pl r xs i hs many plain ss a s m e out w M j n c o y ls st b eq k sc fw lt lM ab g =
      does_leads z (op_stands z b).is (open_leads z y.state (op_stands z b).fit
      (operands_lead x keep pl r xs i hs (many ∙ ap suc (sym plain))
      false ss (up a) (next s) m e out w M j n c o y ls (unit ∷ st) st k (on_one sc) fw lt lM ab g
      (unwritten x keep pl r i ss c (unit ∷ st) st out eq)))

  variable_leads : (x : Assign) (keep : Bool) (pl : Place) (v : Bytes) (xs : List Tree) (i : ℕ) → Every (EvLeads z differ top) xs →
      length xs ≡ suc i → (ss : Names) (a : Where) (s m e : Spot) (out : Way) (w : Bool) (M j n : ℕ) (c : Ctx) (o : Around) (y : World)
      (ls st : List Val) (r : Found) → Looked r (look v c.env) c.held →
      Stands z (fits c.handlers) c.size out s (push_varies r s) (past s (push_varies r s)) →
      From_root x keep pl (variable_root v) xs i ss (is_varies r) (up a) c (past s (push_varies r s)) m e out → Static top c ss out a →
      free c.handlers c.life.noted c.below ≡ w → n ≤ top → n ≤ M → Above a.height st c.base →
      Good n c.who.path o c.held c.also c.size y.state ls → LeadsTo z j n c o y.behind y.tasks (at c o y.state ls st s.at) (on e.at st)
      (in_turn z differ top (form.storing (in_variable v) (mode_of x) pl) [] xs w M c.env y)
  variable_leads x keep pl v xs i hs many ss a s m e out w M j n c o y ls st (varies l) h b k sc fw lt lM ab g =
      with_cell x keep pl (variable_root v) xs i l (object h.0) hs many refl ss a s m e out w M j n c o y ls st b h.2 (λ M ws y.
      ap (λ (b : Option Bound). written_to z.program (deeper z.program 0) (cell_of b) 0 ws (mode_of x) pl c.env y) h.1) k sc fw lt lM ab g
  variable_leads x keep pl v xs i hs many ss a s m e out w M j n c o y ls st (fixed l) h b k sc fw lt lM ab g =
      without_cell x keep pl (variable_root v) xs i hs many refl ss a s m e out w M j n c o y ls st b (λ M ws y.
      ap (λ (b : Option Bound). written_to z.program (deeper z.program 0) (cell_of b) 0 ws (mode_of x) pl c.env y) h.1) k sc fw lt lM ab g
  variable_leads x keep pl v xs i hs many ss a s m e out w M j n c o y ls st absent h b k sc fw lt lM ab g =
      without_cell x keep pl (variable_root v) xs i hs many refl ss a s m e out w M j n c o y ls st b (λ M ws y.
      ap (λ (b : Option Bound). written_to z.program (deeper z.program 0) (cell_of b) 0 ws (mode_of x) pl c.env y) h) k sc fw lt lM ab g

  self_leads : (x : Assign) (keep : Bool) (pl : Place) (slot : ℕ) (xs : List Tree) (i : ℕ) → Every (EvLeads z differ top) xs →
      length xs ≡ suc i → (ss : Names) (a : Where) (s m e : Spot) (out : Way) (w : Bool) (M j n : ℕ) (c : Ctx) (o : Around) (y : World)
      (ls st : List Val) (r : Found) → Looked r (look this_name c.env) c.held →
      Stands z (fits c.handlers) c.size out s (push_fixed r s) (past s (push_fixed r s)) →
      From_root x keep pl (self_root slot) xs i ss (is_fixed r) (up a) c (past s (push_fixed r s)) m e out → Static top c ss out a →
      free c.handlers c.life.noted c.below ≡ w → n ≤ top → n ≤ M → Above a.height st c.base →
      Good n c.who.path o c.held c.also c.size y.state ls → LeadsTo z j n c o y.behind y.tasks (at c o y.state ls st s.at) (on e.at st)
      (in_turn z differ top (form.storing (in_self slot) (mode_of x) pl) [] xs w M c.env y)
  self_leads x keep pl slot xs i hs many ss a s m e out w M j n c o y ls st (fixed l) h b k sc fw lt lM ab g =
      with_cell x keep pl (self_root slot) xs i l h.0 hs many refl ss a s m e out w M j n c o y ls st b h.2 (λ M ws y.
      ap (λ (b : Option Bound). written_to z.program (deeper z.program 0) (constant_of b) slot ws
      (mode_of x) pl c.env y) h.1) k sc fw lt lM
      ab g
  self_leads x keep pl slot xs i hs many ss a s m e out w M j n c o y ls st (varies l) h b k sc fw lt lM ab g =
      without_cell x keep pl (self_root slot) xs i hs many refl ss a s m e out w M j n c o y ls st b (λ M ws y.
      ap (λ (b : Option Bound). written_to z.program (deeper z.program 0) (constant_of b) slot ws
      (mode_of x) pl c.env y) h.1) k sc fw lt lM
      ab g
  self_leads x keep pl slot xs i hs many ss a s m e out w M j n c o y ls st absent h b k sc fw lt lM ab g =
      without_cell x keep pl (self_root slot) xs i hs many refl ss a s m e out w M j n c o y ls st b (λ M ws y.
      ap (λ (b : Option Bound). written_to z.program (deeper z.program 0) (constant_of b) slot ws
      (mode_of x) pl c.env y) h) k sc fw lt lM ab g

  root_leads : (x : Assign) (keep : Bool) (pl : Place) (r : Root) (xs : List Tree) (i : ℕ) → Every (EvLeads z differ top) xs →
      length xs ≡ suc (operands_of r i) → (ss : Names) (a : Where) (s l e : Spot) (out : Way) (w : Bool) (M j n : ℕ) (c : Ctx) (o : Around)
      (y : World) (ls st : List Val) → Root_stands z differ top r ss (fits c.handlers) c.size out s →
      From_root x keep pl r xs i ss (root_has r ss) (root_around r a) c (root_spot r ss s) l e out → Static top c ss out a →
      free c.handlers c.life.noted c.below ≡ w → n ≤ top → n ≤ M → Above a.height st c.base →
      Good n c.who.path o c.held c.also c.size y.state ls → LeadsTo z j n c o y.behind y.tasks (at c o y.state ls st s.at) (on e.at st)
      (in_turn z differ top (form.storing (base_for r) (mode_of x) pl) [] xs w M c.env y)
  root_leads x keep pl (variable_root v) xs i hs many ss a s l e out w M j n c o y ls st b k sc fw lt lM ab g =
      variable_leads x keep pl v xs i hs many ss a s l e out w M j n c o y ls st (find v ss)
      (looked v c.held ss c.env sc.fits) b k sc fw lt lM
      ab g
  root_leads x keep pl (self_root slot) xs i hs many ss a s l e out w M j n c o y ls st b k sc fw lt lM ab g =
      self_leads x keep pl slot xs i hs many ss a s l e out w M j n c o y ls st (this_found ss)
      (looked this_name c.held ss c.env sc.fits) b k
      sc fw lt lM ab g
  root_leads x keep pl (object_root slot) xs i hs many ss a s l e out w M j n c o y ls st b k sc fw lt lM ab g =
      operands_lead x keep pl (object_root slot) xs i hs many true ss a s l e out w M j n c o y ls st st k sc fw lt lM ab g
      (written_object x keep pl slot i ss c st out sc)
  root_leads x keep pl no_root xs i hs many ss a s l e out w M j n c o y ls st b k sc fw lt lM ab g =
      operands_lead x keep pl no_root xs i hs many false ss a s l e out w M j n c o y ls st st k sc fw lt lM ab g
      (unwritten x keep pl no_root i ss c st st out (λ M ws y. refl))

  -- ---- the form

  abbrev Assign_code : Assign → (keep : Bool) → Place → Tree → Tree → Base → Names → Where → Maker
  Assign_code x keep pl b u base ss a = low.target_piece z.program differ b base ss a then
      piece z.program differ u ss (up (raised (target_operands b) a)) then when_else (has_base z.program differ b base ss)
      (Write_code x keep pl base (target_operands b) ss)

  abbrev Assign_run : Assign → Place → Tree → Tree → Base → Bool → ℕ → Env → World → Outcome
  Assign_run x pl b u base w M e y = targets z.program (deeper z.program M) b (form.storing base (mode_of x) pl) (u ∷ []) w e y
      (λ vs y. in_turn z differ top (form.storing base (mode_of x) pl) vs (u ∷ []) w M e y)

  one_more : (xs : List Tree) (u : Tree) → length (xs ++ u ∷ []) ≡ suc (length xs)
  one_more [] u = refl
  one_more (x ∷ xs) u = ap suc (one_more xs u)

  rooted_leads : (x : Assign) (keep : Bool) (pl : Place) (b u : Tree) (r : Root) → Rooted b r → Target_lead z differ top b →
      EvLeads z differ top u → Leads z differ top (Assign_code x keep pl b u (base_for r)) (Assign_run x pl b u (base_for r))
  rooted_leads x keep pl b u r p hb hu ss a s e out w M j n c o y ls st i sc fw lt lM ab g =
      let k : ℕ = target_operands b in
      let f = form.storing (base_for r) (mode_of x) pl in
      let value : Maker = piece z.program differ u ss (up (raised k a)) in
      let write : Maker = when_else (has_base z.program differ b (base_for r) ss) (Write_code x keep pl (base_for r) k ss) in
      let m : Spot = past s (low.target_piece z.program differ b (base_for r) ss a s) in
      let q = then_stand z s e (low.target_piece z.program differ b (base_for r) ss a) (value then write) i in
      let q2 = then_stand z m e value write q.1 in
      let h = target_stand z differ top p ss a (fits c.handlers) c.size out s m q.0 in
      is_leads z (targets_in_turn z differ top p f (u ∷ []) w M c.env y)
      (root_leads x keep pl r (target_list b ++ u ∷ []) k (target_each z differ top p hb u hu) (one_more (target_list b) u ∙
      ap suc (list_many p))
      ss a s (past m (value m)) e out w M j n c o y ls st h.0 (
        listed_both z differ top (target_list b) (u ∷ []) ss (root_around r a) (fits c.handlers) c.size out (root_spot r ss s) m
            (past m (value m)) h.1
            (subst (λ (x : Where). Listed z differ top (u ∷ []) ss x (fits c.handlers) c.size out m (past m (value m)))
            (sym (ap (λ n. raised n (root_around r a)) (list_many p) ∙ behind_target r k a)) (q2.0, refl)),
        subst (λ t. Stands z (fits c.handlers) c.size out (past m (value m))
            (when_else t (Write_code x keep pl (base_for r) k ss) (past m (value m))) e) (has_same p ss z differ) q2.1,
      ) sc fw lt lM ab g)

  improper_leads : (x : Assign) (keep : Bool) (pl : Place) (b u : Tree) (base : Base) → Improper z differ top b base →
      Leads z differ top (Assign_code x keep pl b u base) (Assign_run x pl b u base)
  improper_leads x keep pl b u base h ss a s e out w M j n c o y ls st i sc fw lt lM ab g =
      let q = then_stand z s e (low.target_piece z.program differ b base ss a)
      (piece z.program differ u ss (up (raised (target_operands b) a)) then
      when_else (has_base z.program differ b base ss) (Write_code x keep pl base (target_operands b) ss)) i in
      let k = h.code ss a s _ q.0 in
      is_leads z (h.run M (form.storing base (mode_of x) pl) (u ∷ []) w c.env y _) (does_leads z k.1.is (record { go = λ g h. over _ h }))

  pub assignment_leads : (n : ℕ) (pl : Place) (x : Assign) (b u : Tree) → Target_lead z differ top b → EvLeads z differ top u →
      EvLeads z differ top (tree n pl (t.Shape.assignment x b u))
  assignment_leads n pl x b u hb hu = by (sort_target z differ top b)
    where
      by : Target_sort z differ top b → EvLeads z differ top (tree n pl (t.Shape.assignment x b u))
      by (proper r p h) = subst (λ base. Leads z differ top (Assign_code x (differ (number_of b) (number_of u)) pl b u base)
          (Assign_run x pl b u base)) (sym h) (rooted_leads x (differ (number_of b) (number_of u)) pl b u r p hb hu)
      by (improper h) = improper_leads x (differ (number_of b) (number_of u)) pl b u (base_of z.program b) h
