-- `spawn`: the call that a task of its own begins with.
use Rattle.std.proofs.Common.{◌≡◌, ℕ, suc, ◌≤◌, List, [], ◌∷◌, length, Option, Some, None, Bool, true, false, refl, sym, ap, ◌∙◌, subst}
use Rattle.std.specs.Prelude.{nat_eq}
use Rattle.std.proofs.lemmas.Bool.{eqb-true, eqb-false}
use Rattle.verse_base.specs.declared.places.Place.{Place}
use Rattle.verse_tree.specs.Tree.{Tree, tree, Shape, Trees}
use Rattle.verse_tree.specs.Tree as t
use Rattle.verse_tree.specs.ItemTree.{FunTree}
use Rattle.verse_code.specs.declared.codes.Func.{Func}
use Rattle.verse_code.specs.declared.operations.Op.TheVariants as op
use Rattle.verse_value.specs.Val.{Val}
use Rattle.verse_meaning.specs.Programs.{fun_at, trees_list}
use Rattle.verse_meaning.specs.Residuals as form
use Rattle.verse_meaning.specs.Residuals.{Env, Form, args}
use Rattle.verse_meaning.specs.Outcomes.{World, halted, wrong, valued, if_known, outside}
use Rattle.verse_meaning.specs.Forms.{look, this_name, this_of, constant_of, method_spawned}
use Rattle.verse_meaning.specs.Evaluating as ev
use Rattle.verse_meaning.specs.Evaluating.{all_args, Callee, by_callee, callee_of, spawned_callee}
use Rattle.verse_meaning.specs.Runs.{deeper}
use Rattle.verse_code_machine.specs.Tasks.{thread}
use Rattle.verse_code_machine.specs.Frames.{fits, free, on_there, method_of}
use Rattle.verse_code_machine.specs.Acts.{frame, spawns}
use Rattle.lower_code.specs.Applied.{finish, start, started}
use Rattle.lower_code.specs.Pieces.{Spot, one, when_else, stuck, ◌then◌}
use Rattle.lower_code.specs.Arounds.{up}
use Rattle.lower_code.specs.Lowering as low
use Rattle.lower_code.specs.Lowering.{how_many, form_fits, takes_params}
use Rattle.lower_simulation.proofs.Claims.{Way, Setting, Ctx, Around, at, Good, on}
use Rattle.lower_simulation.proofs.Standing.{Stands}
use Rattle.lower_simulation.proofs.Leading.{LeadsTo, there_leads, is_leads}
use Rattle.lower_simulation.proofs.Forms.{stacked, op_leads, EvLeads, All_lead}
use Rattle.lower_simulation_values.proofs.Operators.{many_leads}
use Rattle.lower_simulation_values.proofs.Names.{stuck_leads}
use Rattle.lower_simulation_values.proofs.Tables.{Is_function, Tables, SpawnsLead, AwaitsLead}
use Rattle.lower_simulation_values.proofs.Applied.{Leads, Applied, first_leads}
use Rattle.lower_simulation_values.proofs.Callees.{Sort, a_function, own_method, prints, floors, ceils, takes_modulo, a_method, awaits}
use Rattle.lower_simulation_values.proofs.Callees.{signals}
use Rattle.lower_simulation_values.proofs.Callees.{a_value, sort_of, unknown, other_many, spawns_wrong}
use Rattle.lower_simulation_values.proofs.Calls.{method_leads, printing_applied, modulo_applied}
use Rattle.lower_simulation_values.proofs.Called.{Member_lead, alone_leads, own_leads, outside_leads, outside_stuck, signalling_applied}
use Rattle.lower_simulation_values.proofs.Called.{awaiting_applied}

module _ (z : Setting) (differ : ℕ → ℕ → Bool) (top : ℕ) where
  -- what is spawned, where it is a call
  abbrev pub Spawned_part : Shape → Type 0
  Spawned_part (t.Shape.call b ts) = Member_lead z differ top b × All_lead z differ top ts
  Spawned_part s = Unit {0}

  abbrev pub Spawned_lead : Tree → Type 0
  Spawned_lead (tree n pl s) = Spawned_part s

  spawning_applied : Tables z → SpawnsLead z top → (f : ℕ) → Is_function z f → (n : ℕ) (c : Ctx) (st : List Val) →
      Applied z differ top (form.spawning f) [] n (takes_params z.program differ (fun_at z.program f) n) c st st
  spawning_applied tables spawn f is n c st ws q s e out w M j m o y ls x fw lt lM g = by (fun_at z.program f) refl x
    where
      fitting : (fn : FunTree) → fun_at z.program f ≡ Some fn → (b : Bool) → nat_eq (length fn.params) n ≡ b →
          Stands z (fits c.handlers) c.size out s (when_else b (one (op.Spawn f)) s) e →
          LeadsTo z j m c o y.behind y.tasks (at c o y.state ls (stacked ws st) s.at) (on e.at st)
          (outside w y (λ y. (deeper z.program M).spawns f None ws c.env y))
      fitting fn h true h2 x =
          let th = tables.functions f is fn h in
          let many : length ws ≡ length fn.params = q ∙ sym (eqb-true (length fn.params) n h2) in
          op_leads z x (λ k. outside_leads z w y (λ y. (deeper z.program M).spawns f None ws c.env y) _ fw (λ fr.
          there_leads z y.state _ th.is (many_leads z _ _ (many ∙ sym th.many)
          (spawn f None fn th.func ws is h th.is many M j m c o y ls st (suc s.at) fr lt lM k.fit g))))
      fitting fn h false h2 x = outside_stuck z w (λ y. (deeper z.program M).spawns f None ws c.env y)
          (spawns_wrong z f None ws y M c.env (other_many fn h (λ r. eqb-false (length fn.params) n h2 (sym r ∙ q)))) x

      by : (r : Option FunTree) → fun_at z.program f ≡ r → Stands z (fits c.handlers) c.size out s
          (when_else (takes_params z.program differ r n) (one (op.Spawn f)) s) e → LeadsTo z j m c o y.behind y.tasks
          (at c o y.state ls (stacked ws st) s.at) (on e.at st) (outside w y (λ y. (deeper z.program M).spawns f None ws c.env y))
      by None h x = outside_stuck z w (λ y. (deeper z.program M).spawns f None ws c.env y)
          (spawns_wrong z f None ws y M c.env (unknown h)) x
      by (Some fn) h x = fitting fn h (nat_eq (length fn.params) n) refl x

  -- SpawnMethod, behind the object and the arguments
  method_op_leads : Tables z → SpawnsLead z top → (m : ℕ) (obj : Val) (ws : List Val) (n : ℕ) → length ws ≡ n → {size : ℕ} {out : Way}
      {s e : Spot} (w : Bool) (M j i : ℕ) (c : Ctx) (o : Around) (y : World) (ls st : List Val) →
      Stands z (fits c.handlers) size out s (one (op.SpawnMethod m n) s) e → free c.handlers c.life.noted c.below ≡ w → i ≤ top → i ≤ M →
      Good i c.who.path o c.held c.also c.size y.state ls → LeadsTo z j i c o y.behind y.tasks
      (at c o y.state ls (stacked ws (obj ∷ st)) s.at) (on e.at st)
      (outside w y (λ y. method_spawned z.program (deeper z.program M) m obj ws c.env y))
  method_op_leads tables spawn m obj ws n q {s = s} w M j i c o y ls st x fw lt lM g =
      op_leads z x (λ k. outside_leads z w y (λ y. method_spawned z.program (deeper z.program M) m obj ws c.env y) _ fw (λ fr.
      many_leads z _ _ q (subst (λ n. LeadsTo z j i c o y.behind y.tasks
      (on_there (method_of z.code m n obj y.state) y.state (λ (f : Func).
      spawns f (obj ∷ ws) (thread c.who (frame c.life ls st (suc s.at) c.handlers) c.below) o.world y.state)) (on (suc s.at) st)
      (method_spawned z.program (deeper z.program M) m obj ws c.env y)) q
      (method_leads z tables m obj ws y _ (λ f. (deeper z.program M).spawns f (Some obj) ws c.env y)
      (λ f fn fc is h1 h2 e. spawn f (Some obj) fn fc ws is h1 h2 e M j i c o y ls st (suc s.at) fr lt lM k.fit g)
      (λ f h. spawns_wrong z f (Some obj) ws y M c.env h)))))

  own_applied : Tables z → SpawnsLead z top → (m n : ℕ) (c : Ctx) (obj : Val) (st : List Val) →
      look this_name c.env ≡ Some (form.constant obj) → Applied z differ top (form.spawning_own m) [] n true c (obj ∷ st) st
  unfolding if_known
  own_applied tables spawn m n c obj st h ws q s e out w M j i o y ls x fw lt lM g =
      is_leads z (ap (λ b. outside w y (λ y. if_known (constant_of b) y
      (λ u. method_spawned z.program (deeper z.program M) m u ws c.env y))) h)
      (method_op_leads tables spawn m obj ws n q w M j i c o y ls st x fw lt lM g)

  own_wrong : (m n : ℕ) (c : Ctx) (below st : List Val) → constant_of (look this_name c.env) ≡ None →
      Applied z differ top (form.spawning_own m) [] n false c below st
  unfolding if_known
  own_wrong m n c below st h ws q s e out w M j i o y ls x fw lt lM g = outside_stuck z w
      (λ y. if_known (this_of c.env) y (λ u. method_spawned z.program (deeper z.program M) m u ws c.env y))
      (ap (λ b. if_known b y (λ u. method_spawned z.program (deeper z.program M) m u ws c.env y)) h) x

  callee_leads : Tables z → SpawnsLead z top → AwaitsLead z top → (whole : Form) (pl : Place) (b : Tree) (ts : Trees) →
      Member_lead z differ top b → All_lead z differ top ts → (q : Callee) → Sort z whole pl b q → Leads z differ top
      (λ ss a. low.by_callee (spawned_callee q)
      (λ f. start f ss then low.args z.program differ ts ss (started f a) then
      finish f (how_many ts) (form_fits z.program differ f (how_many ts) ss))
      (λ f. low.inner z.program differ b ss a then low.args z.program differ ts ss (up a) then finish f (how_many ts) true)
      (λ f. stuck) (λ f. stuck))
      (λ w M e y. by_callee z.program (deeper z.program M) (spawned_callee q) y
      (λ f y. all_args z.program (deeper z.program M) ts f [] w e y)
      (λ f y. valued (ev.inner z.program (deeper z.program M) b w e y) (λ r. args e f [] r (trees_list ts))
      (λ u y. all_args z.program (deeper z.program M) ts f (u ∷ []) w e y))
      (λ f y. halted (wrong y.state)) (λ f y. halted (wrong y.state)))
  unfolding by_callee low.by_callee
  callee_leads tables spawn aw whole pl b ts hm hs q (a_function f is) = alone_leads z differ top (form.spawning f)
      (λ l vs e w. refl) ts hs
      (takes_params z.program differ (fun_at z.program f) (how_many ts)) (λ c st. spawning_applied tables spawn f is (how_many ts) c st)
  callee_leads tables spawn aw whole pl b ts hm hs q (own_method m) = own_leads z differ top (form.spawning_own m) (λ l vs e w. refl) ts hs
      (λ c obj st h. own_applied tables spawn m (how_many ts) c obj st h) (λ c below st h. own_wrong m (how_many ts) c below st h)
  callee_leads tables spawn aw whole pl b ts hm hs q prints = alone_leads z differ top (form.printing pl) (λ l vs e w. refl) ts hs true
      (λ c st. printing_applied z differ top pl (how_many ts) c st)
  callee_leads tables spawn aw whole pl b ts hm hs q takes_modulo = alone_leads z differ top form.taking_modulo
      (λ l vs e w. refl) ts hs true
      (λ c st. modulo_applied z differ top (how_many ts) c st)
  callee_leads tables spawn aw whole pl b ts hm hs q (a_method {b = x} m) =
      first_leads z differ top (form.spawning_method m) (λ l vs e w. refl) x hm ts hs
      (λ c a st ws q s e out w M j i o y ls k fw lt lM g.
      method_op_leads tables spawn m a ws (how_many ts) q w M j i c o y ls st k fw lt lM g)
  callee_leads tables spawn aw whole pl b ts hm hs q (awaits {b = x} is_event) =
      first_leads z differ top (form.awaiting is_event) (λ l vs e w. refl) x hm ts hs
      (λ c a st. awaiting_applied z differ top aw is_event (how_many ts) c a st)
  callee_leads tables spawn aw whole pl b ts hm hs q (signals {b = x}) =
      first_leads z differ top form.signalling (λ l vs e w. refl) x hm ts hs
      (λ c a st. signalling_applied z differ top (how_many ts) c a st)
  callee_leads tables spawn aw whole pl b ts hm hs q floors = λ ss a s e out w M j n c o y ls st i sc fw lt lM ab g. stuck_leads z i
  callee_leads tables spawn aw whole pl b ts hm hs q ceils = λ ss a s e out w M j n c o y ls st i sc fw lt lM ab g. stuck_leads z i
  callee_leads tables spawn aw whole pl b ts hm hs q a_value = λ ss a s e out w M j n c o y ls st i sc fw lt lM ab g. stuck_leads z i

  pub spawn_leads : Tables z → SpawnsLead z top → AwaitsLead z top → (n : ℕ) (pl : Place) (x : Tree) → Spawned_lead x →
      EvLeads z differ top (tree n pl (t.Shape.spawn x))
  spawn_leads tables spawn aw n pl (tree m q (t.Shape.call b ts)) h = callee_leads tables spawn aw (form.picking None) q b ts h.0 h.1
      (callee_of z.program b (form.picking None) q) (sort_of z (form.picking None) q b)
  spawn_leads tables spawn aw n pl (tree m q s) h = λ ss a s1 e out w M j n1 c o y ls st i sc fw lt lM ab g. stuck_leads z i
