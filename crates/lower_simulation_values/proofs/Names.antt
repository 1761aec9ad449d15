-- Names.
use Rattle.std.proofs.Common.{◌≡◌, ℕ, suc, List, ◌∷◌, Option, Some, None, Bool, true, ap}
use Rattle.verse_base.specs.declared.places.Place.{Place}
use Rattle.verse_tree.specs.Tree.{Bytes, Tree, tree, Shape, Trees, no_trees, more_trees}
use Rattle.verse_tree.specs.Tree as t
use Rattle.verse_tree.specs.declared.tables.Ref.{Ref}
use Rattle.verse_tree.specs.declared.tables.Ref.TheVariants as ref
use Rattle.verse_value.specs.Val.{Val, object}
use Rattle.verse_value.specs.Answer.{stuck as amiss}
use Rattle.verse_meaning_state.specs.Effects.{still, slot_read}
use Rattle.verse_meaning.specs.Programs.{ref_at}
use Rattle.verse_meaning.specs.Residuals.{Env, Bound}
use Rattle.verse_meaning.specs.Outcomes.{World, Outcome, wrong, value, halted, told, if_known}
use Rattle.verse_meaning.specs.Forms.{look, read_bound, read_slot_of}
use Rattle.verse_meaning.specs.Runs.{deeper}
use Rattle.verse_code_machine.specs.Frames.{fits, answered}
use Rattle.lower_code.specs.Pieces.{Spot, one, stuck}
use Rattle.lower_code.specs.Scopes.{Scope as Names, Found, fixed, varies, absent, find}
use Rattle.lower_code.specs.Lowering.{piece, shape_piece, how_many}
use Rattle.lower_code.specs.Lowering as low
use Rattle.lower_simulation.proofs.Steps.{over}
use Rattle.lower_simulation.proofs.Claims.{Way, Setting, Ctx, Around, at, Good, Target, on, Goes_on, Fits, In}
use Rattle.lower_simulation.proofs.Locals.{in_holds, Looked, looked}
use Rattle.lower_simulation.proofs.Standing.{Stands, op_stands, then_stand}
use Rattle.verse_code.specs.declared.operations.Op.TheVariants as op
use Rattle.lower_simulation.proofs.Leading.{LeadsTo, is_leads, does_leads, open_leads, there_leads, value_here}
use Rattle.verse_value.specs.Store.{slot_of}
use Rattle.verse_value.specs.Answer.{given_or}
use Rattle.verse_meaning.specs.Forms.{this_name, constant_of}
use Rattle.verse_meaning.specs.Evaluating.{named}
use Rattle.lower_code.specs.Scopes.{read_found, read_this, this_found, field_of_this}
use Rattle.lower_simulation.proofs.Forms.{end_leads, op_leads, EvLeads}

module _ (z : Setting) where
  -- an operation that is always stuck
  pub stuck_leads : {j n : ℕ} {c : Ctx} {o : Around} {y : World} {ls st : List Val} {size : ℕ} {out : Way} {s e : Spot} {into : Target} →
      Stands z (fits c.handlers) size out s (stuck s) e →
      LeadsTo z j n c o y.behind y.tasks (at c o y.state ls st s.at) into (halted (wrong y.state))
  stuck_leads i = does_leads z (op_stands z i).is (record { go = λ g h. over _ h })

  -- what is read in a slot, where the operation has no place
  pub read_leads : {j n : ℕ} {c : Ctx} {o : Around} {y : World} {ls st : List Val} {p : ℕ} (r : Option Val) (pl : Place) (env : Env) →
      fits c.handlers (suc p) ≡ true → Good n c.who.path o c.held c.also c.size y.state ls →
      LeadsTo z j n c o y.behind y.tasks (answered None (still
      (given_or amiss r) y.state) c.who o.world y.state c.life ls st p c.handlers c.below) (on (suc p) st)
      (told (still (given_or amiss r) y.state) pl env y)
  unfolding told
  read_leads None pl env f g = record { go = λ g h. over _ h }
  read_leads (Some v) pl env f g = open_leads z _ f (value_here z g)

  -- a local that stays, on the stack
  pub get_leads : {j n l a : ℕ} {c : Ctx} {o : Around} {y : World} {ls st : List Val} {into : Target} {v : Val} {x : Outcome} →
      Goes_on z (fits c.handlers) a (suc a) (op.Get l) → In l v c.held → Good n c.who.path o c.held c.also c.size y.state ls →
      LeadsTo z j n c o y.behind y.tasks (at c o y.state ls (v ∷ st) (suc a)) into x →
      LeadsTo z j n c o y.behind y.tasks (at c o y.state ls st a) into x
  get_leads {l = l} {y = y} {ls} {v = v} k h g rest = does_leads z k.is
      (there_leads z y.state _ (in_holds l v ls h g.holds) (open_leads z y.state k.fit rest))

  bound_leads : {j n : ℕ} {c : Ctx} {o : Around} {y : World} {ls st : List Val} {out : Way} {s e : Spot} (f : Found) (b : Option Bound)
      (pl : Place) → Stands z (fits c.handlers) c.size out s (read_found f s) e → Looked f b c.held →
      Good n c.who.path o c.held c.also c.size y.state ls → LeadsTo z j n c o y.behind y.tasks (at c o y.state ls st s.at) (on e.at st)
      (read_bound b pl c.env y)
  bound_leads {c = c} {y = y} absent b pl i h g = is_leads z (ap (λ b. read_bound b pl c.env y) h) (stuck_leads i)
  bound_leads {c = c} {y = y} {s = s} (fixed l) b pl i h g = is_leads z (ap (λ b. read_bound b pl c.env y) h.1)
      (end_leads z i.ends (get_leads (op_stands z i) h.2 g (value_here z g)))
  bound_leads {c = c} {y = y} {s = s} {e} (varies l) b pl i h g =
      let r = then_stand z s e (one (op.Get l)) (one (op.Load 0)) i in
      is_leads z (ap (λ b. read_bound b pl c.env y) h.1) (get_leads (op_stands z r.0) h.2 g
      (op_leads z r.1 (λ k. read_leads (slot_of y.state.memory.store h.0 0) pl c.env k.fit g)))

  this_leads : {j n : ℕ} {c : Ctx} {o : Around} {y : World} {ls st : List Val} {out : Way} {s e : Spot} (f : Found) (b : Option Bound) →
      Stands z (fits c.handlers) c.size out s (read_this f s) e → Looked f b c.held →
      Good n c.who.path o c.held c.also c.size y.state ls → LeadsTo z j n c o y.behind y.tasks (at c o y.state ls st s.at) (on e.at st)
      (if_known (constant_of b) y (λ v. value c.env v y))
  unfolding if_known
  this_leads {c = c} {y = y} absent b i h g =
      is_leads z (ap (λ b. if_known (constant_of b) y (λ v. value c.env v y)) h) (stuck_leads i)
  this_leads {c = c} {y = y} {s = s} (fixed l) b i h g = is_leads z (ap (λ b. if_known (constant_of b) y (λ v. value c.env v y)) h.1)
      (end_leads z i.ends (get_leads (op_stands z i) h.2 g (value_here z g)))
  this_leads {c = c} {y = y} (varies l) b i h g =
      is_leads z (ap (λ b. if_known (constant_of b) y (λ v. value c.env v y)) h.1) (stuck_leads i)

  -- a field of the object of the method; where the object is no object, its field is read of it
  field_read : {j n : ℕ} {c : Ctx} {o : Around} {y : World} {ls st : List Val} {p : ℕ} (v : Val) (slot : ℕ) (pl : Place) (env : Env) →
      fits c.handlers (suc p) ≡ true → Good n c.who.path o c.held c.also c.size y.state ls → LeadsTo z j n c o y.behind y.tasks
      (answered None (slot_read slot v y.state) c.who o.world y.state c.life ls st p c.handlers c.below) (on (suc p) st)
      (told (slot_read slot v y.state) pl env y)
  unfolding told
  field_read {y = y} (object c) slot pl env f g = read_leads (slot_of y.state.memory.store c slot) pl env f g
  field_read v slot pl env f g = record { go = λ g h. over _ h }

  own_field_leads : {j n : ℕ} {c : Ctx} {o : Around} {y : World} {ls st : List Val} {out : Way} {s e : Spot} (slot : ℕ) (f : Found)
      (b : Option Bound) (pl : Place) → Stands z (fits c.handlers) c.size out s (field_of_this f slot s) e → Looked f b c.held →
      Good n c.who.path o c.held c.also c.size y.state ls → LeadsTo z j n c o y.behind y.tasks (at c o y.state ls st s.at) (on e.at st)
      (read_slot_of (constant_of b) slot pl c.env y)
  own_field_leads {c = c} {y = y} slot absent b pl i h g =
      is_leads z (ap (λ b. read_slot_of (constant_of b) slot pl c.env y) h) (stuck_leads i)
  own_field_leads {c = c} {y = y} {s = s} {e} slot (fixed l) b pl i h g =
      let r = then_stand z s e (one (op.Get l)) (one (op.Load slot)) i in
      is_leads z (ap (λ b. read_slot_of (constant_of b) slot pl c.env y) h.1) (get_leads (op_stands z r.0) h.2 g
      (op_leads z r.1 (λ k. field_read h.0 slot pl c.env k.fit g)))
  own_field_leads {c = c} {y = y} slot (varies l) b pl i h g =
      is_leads z (ap (λ b. read_slot_of (constant_of b) slot pl c.env y) h.1) (stuck_leads i)

module _ (z : Setting) (differ : ℕ → ℕ → Bool) (top : ℕ) where
  named_leads : {j n : ℕ} {c : Ctx} {o : Around} {y : World} {ls st : List Val} {out : Way} {s e : Spot} (M : ℕ) (r : Option Ref)
      (x : Bytes) (ss : Names) (pl : Place) → Stands z (fits c.handlers) c.size out s (low.named z.program differ r x ss s) e →
      Fits ss c.env c.held →
      Good n c.who.path o c.held c.also c.size y.state ls → LeadsTo z j n c o y.behind y.tasks (at c o y.state ls st s.at) (on e.at st)
      (named z.program (deeper z.program M) r x pl c.env y)
  unfolding named low.named
  named_leads {c = c} M (Some (ref.Field q slot)) x ss pl i h g = own_field_leads z slot (this_found ss) (look this_name c.env) pl i
      (looked this_name c.held ss c.env h) g
  named_leads {c = c} M r x ss pl i h g = bound_leads z (find x ss) (look x c.env) pl i (looked x c.held ss c.env h) g

  pub name_leads : (n : ℕ) (pl : Place) (x : Bytes) → EvLeads z differ top (tree n pl (t.Shape.name x))
  name_leads n pl x ss a s e out w M j m c o y ls st i sc fw lt lM ab g = named_leads M (ref_at z.program n) x ss pl i sc.fits g

  pub self_leads : (n : ℕ) (pl : Place) → EvLeads z differ top (tree n pl t.Shape.this)
  self_leads n pl ss a s e out w M j m c o y ls st i sc fw lt lM ab g = this_leads z (this_found ss) (look this_name c.env) i
      (looked this_name c.held ss c.env sc.fits) g
