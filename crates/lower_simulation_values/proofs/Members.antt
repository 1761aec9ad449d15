-- Members: values of an enum, fields, lengths, and values themselves.
use Rattle.std.proofs.Common.{◌≡◌, ℕ, suc, List, [], ◌∷◌, Option, Some, None, Bool, true, false, cond, refl}
use Rattle.verse_base.specs.declared.places.Place.{Place}
use Rattle.verse_tree.specs.Tree.{Bytes, Tree, tree, Shape, Trees, no_trees, more_trees}
use Rattle.verse_tree.specs.Tree as t
use Rattle.verse_tree.specs.declared.tables.Ref.{Ref}
use Rattle.verse_tree.specs.declared.tables.Ref.TheVariants as ref
use Rattle.verse_value.specs.Val.{Val, object, enum}
use Rattle.verse_value.specs.Answer.{stuck as amiss}
use Rattle.verse_meaning_state.specs.State.{State}
use Rattle.verse_meaning_state.specs.Waits.{nth}
use Rattle.verse_meaning_state.specs.Effects.{still, slot_read}
use Rattle.verse_meaning.specs.Programs.{ref_at}
use Rattle.verse_meaning.specs.Residuals as form
use Rattle.verse_meaning.specs.Residuals.{Env, Form, Bound, constant, variable, Residual, args, seq, Scopes, Binder, no_name, a_constant}
use Rattle.verse_meaning.specs.Residuals.{a_variable}
use Rattle.verse_meaning.specs.Outcomes.{World, Outcome, told_plain}
use Rattle.verse_meaning.specs.Forms.{apply}
use Rattle.verse_meaning.specs.Evaluating.{all_args}
use Rattle.verse_meaning.specs.Runs.{deeper}
use Rattle.verse_code_machine.specs.Frames.{fits, answered}
use Rattle.lower_code.specs.Applied as applied
use Rattle.lower_code.specs.Pieces.{Spot, Maker, ◌then◌}
use Rattle.lower_code.specs.Lowering.{piece, shape_piece, how_many}
use Rattle.lower_code.specs.Lowering as low
use Rattle.lower_simulation.proofs.Claims.{Way, Setting, Ctx, Around, at, Good, on}
use Rattle.lower_simulation.proofs.Standing.{Stands}
use Rattle.lower_simulation.proofs.Leading.{LeadsTo, open_leads, value_here, told_plain_leads, Calmly, still_calm}
use Rattle.verse_value.specs.Operations.{length_of}
use Rattle.verse_value.specs.Answer.{given_or}
use Rattle.verse_value.specs.Store.{slot_of}
use Rattle.verse_meaning.specs.Programs.{same_name, enum_val, value_in, place_of, enums}
use Rattle.verse_tree.specs.ItemTree.{EnumTree}
use Rattle.verse_meaning.specs.Evaluating.{enum_member, is_enum, member_form, membered, length_name}
use Rattle.lower_simulation.proofs.Forms.{IsPlain, start_leads, op_leads, EvLeads, args_leads, one_finish}
use Rattle.lower_simulation_values.proofs.Applied.{Leads}
use Rattle.lower_simulation.proofs.Standing.{then_stand}

-- a value of an enum, where there is one
abbrev IsEnum : Option Val → Type 0
IsEnum None = Unit {0}
IsEnum (Some (enum a b)) = Unit {0}
IsEnum (Some v) = ⊥

module _ (z : Setting) (differ : ℕ → ℕ → Bool) (top : ℕ) where
  -- what is read in a slot, of an operation without a place on both sides
  plain_read : {j n : ℕ} {c : Ctx} {o : Around} {y : World} {ls st : List Val} {p : ℕ} (u : Val) (slot : ℕ) (env : Env) →
      fits c.handlers (suc p) ≡ true → Good n c.who.path o c.held c.also c.size y.state ls →
      LeadsTo z j n c o y.behind y.tasks
      (answered None (slot_read slot u y.state) c.who o.world y.state c.life ls st p c.handlers c.below) (on (suc p) st)
      (told_plain (slot_read slot u y.state) env y)
  plain_read {y = y} u slot env f g = told_plain_leads z (slot_read slot u y.state) env f (read_calm u slot y.state) g
    where
      given_calm : (r : Option Val) (s : State) → Calmly z (still (given_or amiss r) s) s
      given_calm None s = tt
      given_calm (Some x) s = refl

      read_calm : (v : Val) (slot : ℕ) (s : State) → Calmly z (slot_read slot v s) s
      read_calm (object c) slot s = given_calm (slot_of s.memory.store c slot) s
      read_calm v slot s = tt

  abbrev One_applied : Form → Type 0
  One_applied f = (v : Val) (s e : Spot) (out : Way) (w : Bool) (M i m : ℕ) (c : Ctx) (o : Around) (y : World) (ls st : List Val) →
      Stands z (fits c.handlers) c.size out s (applied.finish f 1 true s) e → Good m c.who.path o c.held c.also c.size y.state ls →
      LeadsTo z i m c o y.behind y.tasks (at c o y.state ls (v ∷ st) s.at) (on e.at st)
      (apply z.program (deeper z.program M) f (v ∷ []) w c.env y)

  reading_applied : (slot : ℕ) → One_applied (form.reading slot)
  reading_applied slot v s e out w M i m c o y ls st x g = op_leads z x (λ h. plain_read v slot c.env h.fit g)

  measuring_applied : One_applied form.measuring
  measuring_applied v s e out w M i m c o y ls st x g = op_leads z x
      (λ h. told_plain_leads z (still (length_of v) y.state) c.env h.fit (still_calm z (length_of v) y.state) g)

  defining_applied : One_applied form.defining
  defining_applied v s e out w M i m c o y ls st x g = start_leads z x.ends (value_here z g)

  -- a form with one operand
  one_leads : (f : Form) → IsPlain z differ top f → One_applied f → (x : Tree) → EvLeads z differ top x →
      Leads z differ top (λ ss a. piece z.program differ x ss a then applied.finish f 1 true)
      (λ w M e y. all_args z.program (deeper z.program M) (more_trees x no_trees) f [] w e y)
  one_leads f pf ha x hx ss a s e out w M j m c o y ls st i sc fw lt lM ab g =
      let r = then_stand z s e (piece z.program differ x ss a) (applied.finish f 1 true) i in
      args_leads z differ top (more_trees x no_trees) (hx, tt) f pf ss a s _ out w M j m c o y ls st [] (on e.at st)
      (r.0, refl) sc fw lt lM ab g
      (one_finish z differ top _ _ (λ v w M i m fw le lM o y ls g. ha v _ e out w M i m c o y ls st r.1 g))

  -- a member is a field, the length of an array or a map, or the value itself
  abbrev Member_of : Form → Type 0
  Member_of f = IsPlain z differ top f × One_applied f

  by_length : (b : Bool) → Member_of (cond b form.measuring form.defining)
  by_length true = ((λ l vs e w. refl), measuring_applied)
  by_length false = ((λ l vs e w. refl), defining_applied)

  member_of : (r : Option Ref) (x : Bytes) → Member_of (member_form r x)
  member_of (Some (ref.Field q slot)) x = ((λ l vs e w. refl), reading_applied slot)
  member_of r x = by_length (same_name x length_name)

  enum_leads : {j n : ℕ} {c : Ctx} {o : Around} {y : World} {ls st : List Val} {out : Way} {s e : Spot} (M : ℕ) (r : Option Val)
      (f : Maker) (go : World → Outcome) → IsEnum r → Stands z (fits c.handlers) c.size out s (low.membered z.program differ r f s) e →
      Good n c.who.path o c.held c.also c.size y.state ls →
      (Stands z (fits c.handlers) c.size out s (f s) e → LeadsTo z j n c o y.behind y.tasks (at c o y.state ls st s.at) (on e.at st)
      (go y)) →
      LeadsTo z j n c o y.behind y.tasks (at c o y.state ls st s.at) (on e.at st) (membered z.program (deeper z.program M) r c.env y go)
  unfolding membered low.membered
  enum_leads M None f go q i g h = h i
  enum_leads M (Some (enum a b)) f go q i g h = op_leads z i (λ x. open_leads z _ x.fit (value_here z g))
  enum_leads M (Some v) f go q i g h = absurd q

  enum_val_is : (e : ℕ) (r : Option ℕ) → IsEnum (enum_val e r)
  enum_val_is e None = tt
  enum_val_is e (Some i) = tt

  value_in_is : (e : ℕ) (x : Bytes) (r : Option EnumTree) → IsEnum (value_in e x r)
  value_in_is e x None = tt
  value_in_is e x (Some u) = enum_val_is e (place_of x u.values)

  is_enum_is : (r : Option Ref) (x : Bytes) → IsEnum (is_enum z.program r x)
  is_enum_is (Some (ref.Enum e)) x = value_in_is e x (nth (enums z.program.items) e)
  is_enum_is r x = tt

  enum_member_is : (b : Tree) (x : Bytes) → IsEnum (enum_member z.program b x)
  enum_member_is (tree n pl s) x = is_enum_is (ref_at z.program n) x

  pub member_leads : (n : ℕ) (pl : Place) (b : Tree) (x : Bytes) → EvLeads z differ top b →
      EvLeads z differ top (tree n pl (t.Shape.member b x))
  member_leads n pl b x hb ss a s e out w M j m c o y ls st i sc fw lt lM ab g =
      enum_leads M (enum_member z.program b x) _ _ (enum_member_is b x) i g (λ i1.
      one_leads (member_form (ref_at z.program n) x) (member_of (ref_at z.program n) x).0
      (member_of (ref_at z.program n) x).1 b hb ss a s e
      out w M j m c o y ls st i1 sc fw lt lM ab g)
