-- The operations of calls, behind their operands.
use Rattle.std.proofs.Common.{◌≡◌, ℕ, zero, suc, ◌+◌, ◌≤◌, List, [], ◌∷◌, length, Option, Some, None, Bool, true, false, cond}
use Rattle.std.proofs.Common.{refl, sym, ap, ◌∙◌, subst, arith}
use Rattle.std.specs.Prelude.{slice_get, map, nat_eq, nat_le}
use Rattle.std.proofs.lemmas.Bool.{eqb-true, eqb-false}
use Rattle.verse_base.specs.declared.places.Place.{Place}
use Rattle.verse_base.specs.declared.refusals.Kind.TheVariants as error_kind
use Rattle.verse_base.specs.TraceLine.{line_bytes}
use Rattle.verse_base.specs.declared.limits.TheConstants.{MOST_TRACE_BYTES}
use Rattle.verse_tree.specs.ItemTree.{FunTree}
use Rattle.verse_tree.specs.declared.tables.ClassInfo.{ClassInfo}
use Rattle.verse_code.specs.declared.operations.Op.TheVariants as op
use Rattle.verse_code.specs.declared.codes.Func.{Func}
use Rattle.verse_code.specs.declared.codes.Class.{Class}
use Rattle.verse_value.specs.Val as v
use Rattle.verse_value.specs.Val.{Val, unit, falsity, truth, int, char, object, enum}
use Rattle.verse_value.specs.Answer.{gives, error}
use Rattle.verse_value.specs.Keys.{bytes_of}
use Rattle.verse_value.specs.Operations.{modulo_of, item_of, at_of, floor_of, ceil_of}
use Rattle.verse_meaning_state.specs.State.{State, with_line}
use Rattle.verse_meaning_state.specs.Waits.{eqn}
use Rattle.verse_meaning_state.specs.Effects.{still, line_printed, text_printed, printed_by, class_of}
use Rattle.verse_meaning_state.proofs.Numbers.{eqn_is}
use Rattle.verse_meaning.specs.Programs.{fun_at, method_at, method_in}
use Rattle.verse_meaning.specs.Residuals as form
use Rattle.verse_meaning.specs.Residuals.{Env, Form, Scopes}
use Rattle.verse_meaning.specs.Outcomes.{World, Outcome, halted, wrong, if_there, if_known}
use Rattle.verse_meaning.specs.Forms.{method_found, method_called, look, this_name, constant_of, place_in}
use Rattle.verse_meaning.specs.Runs.{deeper}
use Rattle.verse_code_machine.specs.Tasks.{Step}
use Rattle.verse_code_machine.specs.Frames.{fits, free, on_there, only_where, on_many, on_top, enters, taking, classed, method_of}
use Rattle.verse_code_machine.specs.Frames.{numbered}
use Rattle.verse_code_machine.specs.Frames as mf
use Rattle.verse_code_machine.specs.Acts.{frame}
use Rattle.lower_code.specs.Applied.{finish}
use Rattle.lower_code.specs.Pieces.{Spot, one, when_else, stuck}
use Rattle.lower_code.specs.Lowering.{takes_params}
use Rattle.lower_code.specs.Programs as lp
use Rattle.lower_simulation.proofs.Steps.{over}
use Rattle.lower_simulation.proofs.Claims.{Way, Setting, Ctx, Around, at, Good, on, Tasks, Target}
use Rattle.lower_simulation.proofs.Standing.{Stands}
use Rattle.lower_simulation.proofs.Leading.{LeadsTo, open_leads, there_leads, is_leads, value_here, told_leads, told_plain_leads}
use Rattle.lower_simulation.proofs.Leading.{still_calm, Calmly}
use Rattle.lower_simulation.proofs.Forms.{stacked, start_leads, op_leads}
use Rattle.lower_simulation_values.proofs.Operators.{many_leads}
use Rattle.lower_simulation_values.proofs.Names.{stuck_leads}
use Rattle.lower_simulation_values.proofs.Applied.{Applied, Done, by_one, by_two, dropping_done}
use Rattle.lower_simulation_values.proofs.Tables.{Is_function, Is_method, Tables, CallsLead}
use Rattle.lower_simulation_values.proofs.Callees.{Misfit, unknown, other_many, calls_wrong}

eqn_not : (a b : ℕ) → eqn a b ≡ false → a ≡ b → ⊥
eqn_not zero zero e h = cc
eqn_not zero (suc b) e h = absurd (omega (arith, h))
eqn_not (suc a) zero e h = absurd (omega (arith, h))
eqn_not (suc a) (suc b) e h = eqn_not a b e (omega (arith, h))

-- the methods of a class, in the code's table and in the program's
abbrev code_method : Option Class → ℕ → Option ℕ
code_method None m = None
code_method (Some k) m = slice_get k.methods m

same_method : (infos : List ClassInfo) (c m : ℕ) → code_method (slice_get (map lp.class_of infos) c) m ≡ method_in m (slice_get infos c)
same_method [] c m = refl
same_method (x ∷ infos) zero m = refl
same_method (x ∷ infos) (suc c) m = same_method infos c m

in_code : (fs : List Func) (m : ℕ) (k : Option Class) → mf.method_in fs m k ≡ numbered fs (code_method k m)
in_code fs m None = refl
in_code fs m (Some k) = refl

module _ (z : Setting) where
  -- a call of what is no function
  misfit_leads : {j n : ℕ} {c : Ctx} {o : Around} {y : World} {ls st : List Val} {size : ℕ} {out : Way} {s e : Spot} {into : Target}
      (f : ℕ) (this : Option Val) (vs : List Val) (M : ℕ) (w : Bool) (env : Env) → Misfit z f this vs y →
      Stands z (fits c.handlers) size out s (stuck s) e → LeadsTo z j n c o y.behind y.tasks (at c o y.state ls st s.at) into
      ((deeper z.program M).calls f this vs w env y)
  misfit_leads {y = y} f this vs M w env h x = is_leads z (calls_wrong z f this vs y M w env h) (stuck_leads z x)

  -- the method of an object: a function in both tables, or none
  pub method_leads : Tables z → (m : ℕ) (obj : Val) (ws : List Val) {j n : ℕ} {c : Ctx} {o : Around} {b : Scopes} {f : Tasks}
      {into : Target}
      (y : World) (run : Func → Step) (go : ℕ → Outcome) →
      ((q : ℕ) (fn : FunTree) (fc : Func) → Is_method z q → fun_at z.program q ≡ Some fn → slice_get z.code.functions q ≡ Some fc →
      length ws ≡ length fn.params → LeadsTo z j n c o b f (run fc) into (go q)) →
      ((q : ℕ) → Misfit z q (Some obj) ws y → go q ≡ halted (wrong y.state)) →
      LeadsTo z j n c o b f (on_there (method_of z.code m (length ws) obj y.state) y.state run) into
      (if_there (method_found z.program (deeper z.program 0) (class_of obj y.state) m) y go)
  unfolding if_there
  method_leads tables m obj ws {j} {n} {c} {o} {b} {f} {into} y run go right bad = by (class_of obj y.state)
    where
      fit : (q : ℕ) (fn : FunTree) (fc : Func) → Is_method z q → fun_at z.program q ≡ Some fn → slice_get z.code.functions q ≡ Some fc →
          fc.params ≡ suc (length fn.params) → (t : Bool) → eqn fc.params (suc (length ws)) ≡ t →
          LeadsTo z j n c o b f (on_there (cond t (Some fc) None) y.state run) into (go q)
      fit q fn fc is h1 h2 e true e2 =
          let e3 = eqn_is fc.params (suc (length ws)) e2 in right q fn fc is h1 h2 (omega (arith, e, e3))
      fit q fn fc is h1 h2 e false e2 = is_leads z
          (bad q (other_many fn h1 (λ r. eqn_not fc.params (suc (length ws)) e2 (omega (arith, e, r)))))
          (record { go = λ g h. over _ h })

      found : (cl : ℕ) (r : Option ℕ) → method_at z.program cl m ≡ r →
          LeadsTo z j n c o b f (on_there (taking (suc (length ws)) (numbered z.code.functions r)) y.state run) into (if_there r y go)
      found cl None h = record { go = λ g h. over _ h }
      found cl (Some q) h =
          let mt = tables.methods q (cl, m, h) in
          subst (λ u. LeadsTo z j n c o b f (on_there (taking (suc (length ws)) u) y.state run) into (go q)) (sym mt.code.is)
          (fit q mt.function mt.code.func (cl, m, h) mt.is mt.code.is mt.code.many _ refl)

      by : (r : Option ℕ) → LeadsTo z j n c o b f (on_there (taking (suc (length ws)) (classed z.code m r)) y.state run) into
          (if_there (method_found z.program (deeper z.program 0) r m) y go)
      by None = record { go = λ g h. over _ h }
      by (Some cl) = subst (λ u. LeadsTo z j n c o b f (on_there (taking (suc (length ws)) u) y.state run) into
          (if_there (method_at z.program cl m) y go))
          (sym (in_code z.code.functions m (slice_get z.code.classes cl) ∙ ap (λ u. numbered z.code.functions u)
          (ap (λ cs. code_method (slice_get cs cl) m) tables.classes ∙ same_method z.program.names.classes cl m)))
          (found cl (method_at z.program cl m) refl)

  -- a line is printed: the clock stays
  print_calm : (u : Val) (s : State) → Calmly z (line_printed u s) s
  print_calm (v.array vs) s = told_calm (bytes_of vs)
    where
      line_calm : (b : Bool) (x : State) → x.clock.left ≡ s.clock.left → Calmly z (cond b (gives (unit, x)) (error error_kind.Trace)) s
      line_calm true x h = h
      line_calm false x h = tt

      told_calm : (x : Option (List ℕ)) → Calmly z (text_printed x s) s
      told_calm None = tt
      told_calm (Some bs) = line_calm
          (nat_le (printed_by s + length (line_bytes s.clock.now bs)) MOST_TRACE_BYTES)
          (with_line s (record { moment = s.clock.now; bytes = bs })) refl
  print_calm u s = tt

module _ (z : Setting) (differ : ℕ → ℕ → Bool) (top : ℕ) where
  pub calling_applied : Tables z → CallsLead z top → (f : ℕ) → Is_function z f → (n : ℕ) (c : Ctx) (st : List Val) →
      Applied z differ top (form.calling f) [] n (takes_params z.program differ (fun_at z.program f) n) c st st
  calling_applied tables calls f is n c st ws q s e out w M j m o y ls x fw lt lM g = by (fun_at z.program f) refl x
    where
      fitting : (fn : FunTree) → fun_at z.program f ≡ Some fn → (b : Bool) → nat_eq (length fn.params) n ≡ b →
          Stands z (fits c.handlers) c.size out s (when_else b (one (op.Call f)) s) e →
          LeadsTo z j m c o y.behind y.tasks (at c o y.state ls (stacked ws st) s.at) (on e.at st)
          ((deeper z.program M).calls f None ws w c.env y)
      fitting fn h true h2 x =
          let th = tables.functions f is fn h in
          let many : length ws ≡ length fn.params = q ∙ sym (eqb-true (length fn.params) n h2) in
          op_leads z x (λ k. there_leads z y.state _ th.is (many_leads z _ _ (many ∙ sym th.many)
          (open_leads z _ k.fit (calls f None fn th.func ws is h th.is many w M j m c o y ls st (suc s.at) fw lt lM k.fit g))))
      fitting fn h false h2 x = misfit_leads z f None ws M w c.env
          (other_many fn h (λ r. eqb-false (length fn.params) n h2 (sym r ∙ q))) x

      by : (r : Option FunTree) → fun_at z.program f ≡ r → Stands z (fits c.handlers) c.size out s
          (when_else (takes_params z.program differ r n) (one (op.Call f)) s) e → LeadsTo z j m c o y.behind y.tasks
          (at c o y.state ls (stacked ws st) s.at) (on e.at st) ((deeper z.program M).calls f None ws w c.env y)
      by None h x = misfit_leads z f None ws M w c.env (unknown h) x
      by (Some fn) h x = fitting fn h (nat_eq (length fn.params) n) refl x

  -- Method, behind the object and the arguments
  method_op_leads : Tables z → CallsLead z top → (m : ℕ) (obj : Val) (ws : List Val) (n : ℕ) → length ws ≡ n → {size : ℕ} {out : Way}
      {s e : Spot} (w : Bool) (M j i : ℕ) (c : Ctx) (o : Around) (y : World) (ls st : List Val) →
      Stands z (fits c.handlers) size out s (one (op.Method m n) s) e → free c.handlers c.life.noted c.below ≡ w → i ≤ top → i ≤ M →
      Good i c.who.path o c.held c.also c.size y.state ls → LeadsTo z j i c o y.behind y.tasks
      (at c o y.state ls (stacked ws (obj ∷ st)) s.at) (on e.at st) (method_called z.program (deeper z.program M) m obj ws w c.env y)
  method_op_leads tables calls m obj ws n q {s = s} w M j i c o y ls st x fw lt lM g =
      op_leads z x (λ k. many_leads z _ _ q (subst (λ n. LeadsTo z j i c o y.behind y.tasks
      (on_there (method_of z.code m n obj y.state) y.state (λ (f : Func). only_where (fits c.handlers (suc s.at)) y.state
      (enters f (obj ∷ ws) c.who o.world y.state (frame c.life ls st (suc s.at) c.handlers ∷ c.below)))) (on (suc s.at) st)
      (method_called z.program (deeper z.program M) m obj ws w c.env y)) q
      (method_leads z tables m obj ws y _ (λ f. (deeper z.program M).calls f (Some obj) ws w c.env y)
      (λ f fn fc is h1 h2 e. open_leads z _ k.fit (calls f (Some obj) fn fc ws is h1 h2 e w M j i c o y ls st (suc s.at) fw lt lM k.fit g))
      (λ f h. calls_wrong z f (Some obj) ws y M w c.env h))))

  pub method_applied : Tables z → CallsLead z top → (m n : ℕ) (c : Ctx) (obj : Val) (st : List Val) →
      Applied z differ top (form.calling_method m) (obj ∷ []) n true c (obj ∷ st) st
  method_applied tables calls m n c obj st ws q s e out w M j i o y ls x fw lt lM g =
      method_op_leads tables calls m obj ws n q w M j i c o y ls st x fw lt lM g

  -- of `Self`
  pub own_applied : Tables z → CallsLead z top → (m n : ℕ) (c : Ctx) (obj : Val) (st : List Val) →
      look this_name c.env ≡ Some (form.constant obj) → Applied z differ top (form.calling_own m) [] n true c (obj ∷ st) st
  unfolding if_known
  own_applied tables calls m n c obj st h ws q s e out w M j i o y ls x fw lt lM g =
      is_leads z (ap (λ b. if_known (constant_of b) y (λ u. method_called z.program (deeper z.program M) m u ws w c.env y)) h)
      (method_op_leads tables calls m obj ws n q w M j i c o y ls st x fw lt lM g)

  -- where there is no `Self`
  pub own_wrong : (m n : ℕ) (c : Ctx) (below st : List Val) → constant_of (look this_name c.env) ≡ None →
      Applied z differ top (form.calling_own m) [] n false c below st
  unfolding if_known
  own_wrong m n c below st h ws q s e out w M j i o y ls x fw lt lM g =
      is_leads z (ap (λ b. if_known b y (λ u. method_called z.program (deeper z.program M) m u ws w c.env y)) h) (stuck_leads z x)

  -- ---- builtin functions

  pub printing_applied : (pl : Place) (n : ℕ) (c : Ctx) (st : List Val) → Applied z differ top (form.printing pl) [] n true c st st
  printing_applied pl n c st ws q = by_one z differ top (form.printing pl) [] _ n ws q c st st
      (λ u s e out w M j m o y ls x fw lt lM g. op_leads z x
      (λ k. told_leads z (line_printed u y.state) pl c.env x.places.0 k.fit (print_calm z u y.state) g))
      (λ M w e y. refl) (λ u r us M w e y. refl)

  pub modulo_applied : (n : ℕ) (c : Ctx) (st : List Val) → Applied z differ top form.taking_modulo [] n true c st st
  modulo_applied n c st ws q = by_two z differ top form.taking_modulo _ n ws q c st st
      (λ u r s e out w M j m o y ls x fw lt lM g. op_leads z x
      (λ k. told_plain_leads z (still (modulo_of u r) y.state) c.env k.fit (still_calm z (modulo_of u r) y.state) g))
      (λ M w e y. refl) (λ u M w e y. refl) (λ u r a us M w e y. refl)

  pub flooring_applied : (pl : Place) (c : Ctx) (st : List Val) → Applied z differ top (form.flooring pl) [] 2 true c st st
  flooring_applied pl c st ws q = by_two z differ top (form.flooring pl) _ 2 ws q c st st
      (λ u r s e out w M j m o y ls x fw lt lM g. op_leads z x
      (λ k. told_leads z (still (floor_of u r) y.state) pl c.env x.places.0 k.fit (still_calm z (floor_of u r) y.state) g))
      (λ M w e y. refl) (λ u M w e y. refl) (λ u r a us M w e y. refl)

  pub ceiling_applied : (pl : Place) (c : Ctx) (st : List Val) → Applied z differ top (form.ceiling pl) [] 2 true c st st
  ceiling_applied pl c st ws q = by_two z differ top (form.ceiling pl) _ 2 ws q c st st
      (λ u r s e out w M j m o y ls x fw lt lM g. op_leads z x
      (λ k. told_leads z (still (ceil_of u r) y.state) pl c.env x.places.0 k.fit (still_calm z (ceil_of u r) y.state) g))
      (λ M w e y. refl) (λ u M w e y. refl) (λ u r a us M w e y. refl)

  -- ---- a value that is no function

  pub indexing_applied : (n : ℕ) (c : Ctx) (a : Val) (st : List Val) → Applied z differ top form.indexing (a ∷ []) n true c (a ∷ st) st
  indexing_applied zero c a st [] q = λ s e out w M j m o y ls x fw lt lM g. start_leads z x.ends (value_here z g)
  indexing_applied (suc n) c a st (u ∷ us) q =
      dropping_done z differ top form.indexing (a ∷ u ∷ us) (one op.At) n us (omega (arith, q)) c (u ∷ a ∷ st) st
      (λ s e out w M j m o y ls x fw lt lM g. op_leads z x
      (λ k. told_plain_leads z (still (at_of a u) y.state) c.env k.fit (still_calm z (at_of a u) y.state) g))
  indexing_applied n c a st ws q = absurd (omega (arith, q))

  pub picking_done : (k : Option ℕ) (c : Ctx) (a : Val) (st : List Val) →
      Done z differ top (form.picking k) (a ∷ []) (finish (form.picking k) 0 true) c (a ∷ st) st
  picking_done i c a st = λ s e out w M j m o y ls x fw lt lM g. op_leads z x
      (λ k. told_plain_leads z (still (item_of a (place_in i)) y.state) c.env k.fit
      (still_calm z (item_of a (place_in i)) y.state) g)
