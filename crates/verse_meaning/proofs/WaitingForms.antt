-- Groups that still wait, through the forms with operands.
use Rattle.std.proofs.Common.{ℕ, List, [], ◌∷◌, ◌++◌, Option, Some, None, Bool, true, false}
use Rattle.verse_base.specs.declared.places.Place.{Place}
use Rattle.verse_tree.specs.Tree.{Bytes, Tree}
use Rattle.verse_tree.specs.ItemTree.{FieldTree}
use Rattle.verse_value.specs.Val.{Val}
use Rattle.verse_value.specs.declared.modes.Mode.{Mode}
use Rattle.verse_meaning_state.specs.State.{Given}
use Rattle.verse_meaning_state.specs.Waits.{done, heard, nth}
use Rattle.verse_meaning_state.specs.Effects.{task_of, class_of, event_of}
use Rattle.verse_meaning.specs.Programs.{Program, fields_of}
use Rattle.verse_meaning.specs.Residuals as form
use Rattle.verse_meaning.specs.Residuals.{Env, Bound, constant, variable, Base, in_variable, in_self, in_object, nowhere, Form, Binder}
use Rattle.verse_meaning.specs.Residuals.{no_name, a_constant, a_variable, Values, Residual}
use Rattle.verse_meaning.specs.Outcomes.{World, Outcome, if_there, suspended}
use Rattle.verse_meaning.specs.Forms.{Deeper, look, this_of, cell_of, read_bound, read_slot_of, given_at, written_to, stored}
use Rattle.verse_meaning.specs.Forms.{field_filled, filled, method_found, method_called, method_spawned, task_awaited, awaited}
use Rattle.verse_meaning.specs.Forms.{signal_told, apply, defined}
use Rattle.verse_meaning.proofs.Waiting.{Holds, Wraps, known_holds, outside_holds, plain_holds, suspended_holds, there_holds, told_holds}
use Rattle.verse_meaning.proofs.Waiting.{valued_holds}

-- what is begun by a step
pub record DeeperHolds (k : Deeper) : Type 0 where
  pub calls : (f : ℕ) (o : Option Val) (vs : List Val) (m : Bool) (e : Env) (w : World) → Holds w (k.calls f o vs m e w)
  pub spawns : (f : ℕ) (o : Option Val) (vs : List Val) (e : Env) (w : World) → Holds w (k.spawns f o vs e w)
  pub loops : (m : Bool) (go : World → Outcome) (wrap : Residual → Residual) (e : Env) (w : World) → Wraps wrap → ((u : World) → Holds u (go
      u)) →
      Holds w (k.loops go wrap e w)
  pub takes : (m : Bool) (go : Val × Val → Val → World → Outcome) (wrap : Values → Residual →
      Residual) (e : Env) (vs : Values) (so_far : Val) (w : World) → ((vs : Values) → Wraps (wrap vs)) → ((x : Val × Val) (a : Val) (u :
      World) → Holds u (go x a u)) →
      Holds w (k.takes go wrap e vs so_far w)
  pub parts : (a : Tree) (e : Env) (w : World) → Holds w (k.parts a e w)
  pub defaults : (a : Tree) (m : Bool) (e : Env) (w : World) → Holds w (k.defaults a m e w)

pub read_bound_holds : (b : Option Bound) (pl : Place) (m : Bool) (e : Env) (w : World) → Holds w (read_bound b pl e w)
read_bound_holds None pl m e w = λ h. tt
read_bound_holds (Some (constant v)) pl m e w = λ h. h
read_bound_holds (Some (variable c)) pl m e w = told_holds w _ pl e

pub read_slot_holds : (o : Option Val) (slot : ℕ) (pl : Place) (m : Bool) (e : Env) (w : World) → Holds w (read_slot_of o slot pl e w)
read_slot_holds None slot pl m e w = λ h. tt
read_slot_holds (Some v) slot pl m e w = told_holds w _ pl e

module _ (p : Program) (k : Deeper) (d : DeeperHolds k) where
  to_holds : (c : Option Val) (slot : ℕ) (vs : List Val) (mode : Mode) (pl : Place) (m : Bool) (e : Env) (w : World) →
      Holds w (written_to p k c slot vs mode pl e w)
  to_holds None slot vs mode pl m e w = λ h. tt
  to_holds (Some c) slot [] mode pl m e w = λ h. tt
  to_holds (Some c) slot (v ∷ vs) mode pl m e w =
      told_holds w _ pl e

  stored_holds : (b : Base) (vs : List Val) (mode : Mode) (pl : Place) (m : Bool) (e : Env) (w : World) →
      Holds w (stored p k b vs mode pl e w)
  stored_holds (in_variable x) vs mode pl m e w = to_holds (cell_of (look x e)) 0 vs mode pl m e w
  stored_holds (in_self slot) vs mode pl m e w = to_holds (this_of e) slot vs mode pl m e w
  stored_holds (in_object slot) [] mode pl m e w = λ h. tt
  stored_holds (in_object slot) (o ∷ vs) mode pl m e w = to_holds (Some o) slot vs mode pl m e w
  stored_holds nowhere vs mode pl m e w = λ h. tt

  field_holds : (v : Option Val) (a : Option Tree) (m : Bool) (e : Env) (w : World) (wrap : Residual → Residual) (go : Val → World →
      Outcome) → Wraps wrap → ((v : Val) (u : World) → Holds u (go v u)) → Holds w (field_filled p k v a m e w wrap go)
  field_holds (Some v) a m e w wrap go b f = f v w
  field_holds None None m e w wrap go b f = λ h. tt
  field_holds None (Some a) m e w wrap go b f = valued_holds w _ wrap go b (d.defaults a m e w) (λ v u. f v u)

  pub filled_holds : (fs : List FieldTree) (xs : List Bytes) (vs : List Val) (class : ℕ) (slots : List Val) (pl : Place) (m : Bool) (e :
      Env)
      (w : World) → Holds w (filled p k fs xs vs class slots pl m e w)
  filled_holds [] xs vs class slots pl m e w = told_holds w _ pl e
  filled_holds (f ∷ fs) xs vs class slots pl m e w =
      field_holds (given_at f.name xs vs) f.default m e w _ _ (λ r q. q) (λ v u. filled_holds fs xs vs class (slots ++ v ∷ []) pl m e u)

  called_holds : (f : ℕ) (o : Val) (vs : List Val) (m : Bool) (e : Env) (w : World) → Holds w (method_called p k f o vs m e w)
  called_holds f o vs m e w = there_holds w (method_found p k (class_of o w.state) f) _ (λ g. d.calls g (Some o) vs m e w)

  spawned_holds : (f : ℕ) (o : Val) (vs : List Val) (e : Env) (w : World) → Holds w (method_spawned p k f o vs e w)
  spawned_holds f o vs e w = there_holds w (method_found p k (class_of o w.state) f) _ (λ g. d.spawns g (Some o) vs e w)

  task_awaited_holds : (r : Option (Option Given)) (entry : ℕ) (e : Env) (w : World) → Holds w (task_awaited p k r entry e w)
  task_awaited_holds None entry e w = λ h. tt
  task_awaited_holds (Some None) entry e w = suspended_holds (done entry) e w
  task_awaited_holds (Some (Some g)) entry e w = λ h. h

  event_holds : (c : Option ℕ) (e : Env) (w : World) → Holds w (if_there c w (λ c. suspended (heard c) e w))
  event_holds c e w = there_holds w c _ (λ c. suspended_holds (heard c) e w)

  awaited_holds : (t : Bool) (v : Val) (e : Env) (w : World) → Holds w (awaited p k t v e w)
  awaited_holds true v e w = event_holds (event_of v w.state) e w
  awaited_holds false v e w = there_holds w (task_of v) _ (λ entry. task_awaited_holds (nth w.state.clock.results entry) entry e w)

  signal_holds : (vs : List Val) (o : Val) (e : Env) (w : World) → Holds w (signal_told p k vs o e w)
  signal_holds [] o e w = plain_holds w _ e
  signal_holds (v ∷ vs) o e w = plain_holds w _ e

  pub apply_holds : (f : Form) (vs : List Val) (m : Bool) (e : Env) (w : World) → Holds w (apply p k f vs m e w)
  apply_holds (form.computing o t pl) (a ∷ b ∷ []) m e w = told_holds w _ pl e
  apply_holds (form.comparing o) (a ∷ b ∷ []) m e w = plain_holds w _ e
  apply_holds (form.negating pl) (a ∷ []) m e w = told_holds w _ pl e
  apply_holds form.querying (a ∷ []) m e w = plain_holds w _ e
  apply_holds (form.reading slot) (a ∷ []) m e w = plain_holds w _ e
  apply_holds form.measuring (a ∷ []) m e w = plain_holds w _ e
  apply_holds (form.making_tuple pl) vs m e w = told_holds w _ pl e
  apply_holds (form.making_array pl) vs m e w = told_holds w _ pl e
  apply_holds (form.making_map pl) vs m e w = told_holds w _ pl e
  apply_holds (form.joining xs pl) vs m e w = told_holds w _ pl e
  apply_holds (form.picking i) (a ∷ []) m e w = plain_holds w _ e
  apply_holds form.indexing (a ∷ []) m e w = λ h. h
  apply_holds form.indexing (a ∷ b ∷ vs) m e w = plain_holds w _ e
  apply_holds (form.calling f) vs m e w = d.calls f None vs m e w
  apply_holds (form.calling_own f) vs m e w = known_holds w (this_of e) _ (λ o. called_holds f o vs m e w)
  apply_holds (form.calling_method f) (o ∷ vs) m e w = called_holds f o vs m e w
  apply_holds (form.printing pl) (a ∷ []) m e w = told_holds w _ pl e
  apply_holds (form.flooring pl) (a ∷ b ∷ []) m e w = told_holds w _ pl e
  apply_holds (form.ceiling pl) (a ∷ b ∷ []) m e w = told_holds w _ pl e
  apply_holds form.taking_modulo (a ∷ b ∷ []) m e w = plain_holds w _ e
  apply_holds (form.awaiting t) (a ∷ vs) m e w = outside_holds m w _ (awaited_holds t a e w)
  apply_holds form.signalling (o ∷ vs) m e w = outside_holds m w _ (signal_holds vs o e w)
  apply_holds (form.spawning f) vs m e w = outside_holds m w _ (d.spawns f None vs e w)
  apply_holds (form.spawning_own f) vs m e w = outside_holds m w _ (known_holds w (this_of e) _ (λ o. spawned_holds f o vs e w))
  apply_holds (form.spawning_method f) (o ∷ vs) m e w = outside_holds m w _ (spawned_holds f o vs e w)
  apply_holds (form.storing b mode pl) vs m e w = stored_holds b vs mode pl m e w
  apply_holds (form.instancing class xs pl) vs m e w = filled_holds (fields_of p class) xs vs class [] pl m e w
  apply_holds form.defining (a ∷ []) m e w = λ h. h
  apply_holds (form.varying pl) (a ∷ []) m e w =
      valued_holds w _ (λ r. r) _ (λ r q. q) (told_holds w _ pl e) (λ c u h. h)
  apply_holds form.returning (a ∷ []) m e w = λ h. h
  apply_holds (form.appending so_far pl) (a ∷ []) m e w = told_holds w _ pl e
  apply_holds f vs m e w = λ h. tt

  pub defined_holds : (b : Binder) (e : Env) (v : Val) (m : Bool) (w : World) (go : Env → Val → World → Outcome) →
      ((e : Env) (v : Val) (u : World) → Holds u (go e v u)) → Holds w (defined p k b e v w go)
  unfolding defined
  defined_holds no_name e v m w go f = f e v w
  defined_holds (a_constant x) e v m w go f = f _ v w
  defined_holds (a_variable x pl) e v m w go f =
      valued_holds w _ (λ r. r) _ (λ r q. q) (told_holds w _ pl e) (λ c u. f _ v u)
