-- How often a number is live or still to come, through the forms with operands.
use Rattle.std.proofs.Common.{ℕ, List, [], ◌∷◌, ◌++◌, Option, Some, None, Bool, true, false, refl}
use Rattle.verse_base.specs.declared.places.Place.{Place}
use Rattle.verse_tree.specs.Tree.{Bytes, Tree}
use Rattle.verse_tree.specs.ItemTree.{FieldTree}
use Rattle.verse_value.specs.Val.{Val, object}
use Rattle.verse_value.specs.declared.modes.Mode.{Mode}
use Rattle.verse_meaning_state.specs.State.{Given}
use Rattle.verse_meaning_state.specs.Waits.{done, heard, nth}
use Rattle.verse_meaning_state.specs.Effects.{task_of, class_of, event_of}
use Rattle.verse_meaning.specs.Programs.{Program, fields_of}
use Rattle.verse_meaning.specs.Residuals as form
use Rattle.verse_meaning.specs.Residuals.{Env, Bound, constant, variable, Base, in_variable, in_self, in_object, nowhere, Form, Binder}
use Rattle.verse_meaning.specs.Residuals.{no_name, a_constant, a_variable, Values, Residual}
use Rattle.verse_meaning.specs.Outcomes.{World, Outcome, if_there, suspended}
use Rattle.verse_meaning.specs.Forms.{Deeper, look, this_of, cell_of, read_bound, read_slot_of, split_last, given_at, written_to, stored}
use Rattle.verse_meaning.specs.Forms.{field_filled, filled, method_found, method_called, method_spawned, task_awaited, awaited}
use Rattle.verse_meaning.specs.Forms.{signal_told, apply, defined}
use Rattle.verse_meaning.proofs.Forms.{DeeperKeeps, added_memory, printed_memory, read_memory, still_memory, written_memory}
use Rattle.verse_meaning.proofs.Numbering.{Fits, known_fits, outside_fits, plain_fits, sent_fits, suspended_fits, there_fits, told_fits}
use Rattle.verse_meaning.proofs.Numbering.{valued_fits, KeepsLeaves}

-- what is begun by a step
pub record DeeperFits (i : ℕ) (k : Deeper) : Type 0 where
  pub calls : (f : ℕ) (o : Option Val) (vs : List Val) (m : Bool) (e : Env) (w : World) → Fits i w (k.calls f o vs m e w)
  pub spawns : (f : ℕ) (o : Option Val) (vs : List Val) (e : Env) (w : World) → Fits i w (k.spawns f o vs e w)
  pub loops : (m : Bool) (go : World → Outcome) (wrap : Residual → Residual) (e : Env) (w : World) → KeepsLeaves wrap →
      ((u : World) → Fits i u (go u)) →
      Fits i w (k.loops go wrap e w)
  pub takes : (m : Bool) (go : Val × Val → Val → World → Outcome) (wrap : Values → Residual →
      Residual) (e : Env) (vs : Values) (so_far : Val) (w : World) → ((vs : Values) → KeepsLeaves (wrap vs)) → ((x : Val × Val) (a : Val) (u
      : World) → Fits i u (go x a u))
      →
      Fits i w (k.takes go wrap e vs so_far w)
  pub parts : (a : Tree) (e : Env) (w : World) → Fits i w (k.parts a e w)
  pub defaults : (a : Tree) (m : Bool) (e : Env) (w : World) → Fits i w (k.defaults a m e w)

module _ (i : ℕ) where
  pub read_bound_fits : (b : Option Bound) (pl : Place) (m : Bool) (e : Env) (w : World) → Fits i w (read_bound b pl e w)
  read_bound_fits None pl m e w = λ c b h. tt
  read_bound_fits (Some (constant v)) pl m e w = λ c b h. h
  read_bound_fits (Some (variable c)) pl m e w = told_fits i w _ pl e (read_memory w 0 (object c))

  pub read_slot_fits : (o : Option Val) (slot : ℕ) (pl : Place) (m : Bool) (e : Env) (w : World) → Fits i w (read_slot_of o slot
      pl e w)
  read_slot_fits None slot pl m e w = λ c b h. tt
  read_slot_fits (Some v) slot pl m e w = told_fits i w _ pl e (read_memory w slot v)

module _ (i : ℕ) (p : Program) (k : Deeper) (keeps : DeeperKeeps k) (d : DeeperFits i k) where
  to_fits : (c : Option Val) (slot : ℕ) (vs : List Val) (mode : Mode) (pl : Place) (m : Bool) (e : Env) (w : World) →
      Fits i w (written_to p k c slot vs mode pl e w)
  to_fits None slot vs mode pl m e w = λ c b h. tt
  to_fits (Some c) slot [] mode pl m e w = λ c b h. tt
  to_fits (Some c) slot (v ∷ vs) mode pl m e w =
      told_fits i w _ pl e (written_memory w slot (split_last v vs).0 mode (split_last v vs).1 c)

  stored_fits : (b : Base) (vs : List Val) (mode : Mode) (pl : Place) (m : Bool) (e : Env) (w : World) →
      Fits i w (stored p k b vs mode pl e w)
  stored_fits (in_variable x) vs mode pl m e w = to_fits (cell_of (look x e)) 0 vs mode pl m e w
  stored_fits (in_self slot) vs mode pl m e w = to_fits (this_of e) slot vs mode pl m e w
  stored_fits (in_object slot) [] mode pl m e w = λ c b h. tt
  stored_fits (in_object slot) (o ∷ vs) mode pl m e w = to_fits (Some o) slot vs mode pl m e w
  stored_fits nowhere vs mode pl m e w = λ c b h. tt

  field_fits : (v : Option Val) (a : Option Tree) (m : Bool) (e : Env) (w : World) (wrap : Residual → Residual) (go : Val → World →
      Outcome) → KeepsLeaves wrap → ((v : Val) (u : World) → Fits i u (go v u)) → Fits i w (field_filled p k v a m e w wrap go)
  field_fits (Some v) a m e w wrap go q f = f v w
  field_fits None None m e w wrap go q f = λ c b h. tt
  field_fits None (Some a) m e w wrap go q f = valued_fits i w _ wrap go q (d.defaults a m e w) (λ v u. f v u)

  pub filled_fits : (fs : List FieldTree) (xs : List Bytes) (vs : List Val) (class : ℕ) (slots : List Val) (pl : Place) (m : Bool) (e :
      Env)
      (w : World) → Fits i w (filled p k fs xs vs class slots pl m e w)
  filled_fits [] xs vs class slots pl m e w = told_fits i w _ pl e (added_memory w _ _)
  filled_fits (f ∷ fs) xs vs class slots pl m e w =
      field_fits (given_at f.name xs vs) f.default m e w _ _ (λ r. refl) (λ v u. filled_fits fs xs vs class (slots ++ v ∷ []) pl m e u)

  called_fits : (f : ℕ) (o : Val) (vs : List Val) (m : Bool) (e : Env) (w : World) → Fits i w (method_called p k f o vs m e w)
  called_fits f o vs m e w = there_fits i w (method_found p k (class_of o w.state) f) _ (λ g. d.calls g (Some o) vs m e w)

  spawned_fits : (f : ℕ) (o : Val) (vs : List Val) (e : Env) (w : World) → Fits i w (method_spawned p k f o vs e w)
  spawned_fits f o vs e w = there_fits i w (method_found p k (class_of o w.state) f) _ (λ g. d.spawns g (Some o) vs e w)

  task_awaited_fits : (r : Option (Option Given)) (entry : ℕ) (e : Env) (w : World) → Fits i w (task_awaited p k r entry e w)
  task_awaited_fits None entry e w = λ c b h. tt
  task_awaited_fits (Some None) entry e w = suspended_fits i (done entry) e w
  task_awaited_fits (Some (Some g)) entry e w = λ c b h. h

  event_fits : (c : Option ℕ) (e : Env) (w : World) → Fits i w (if_there c w (λ c. suspended (heard c) e w))
  event_fits c e w = there_fits i w c _ (λ c. suspended_fits i (heard c) e w)

  awaited_fits : (t : Bool) (v : Val) (e : Env) (w : World) → Fits i w (awaited p k t v e w)
  awaited_fits true v e w = event_fits (event_of v w.state) e w
  awaited_fits false v e w = there_fits i w (task_of v) _ (λ entry. task_awaited_fits (nth w.state.clock.results entry) entry e w)

  signal_fits : (vs : List Val) (o : Val) (e : Env) (w : World) → Fits i w (signal_told p k vs o e w)
  signal_fits [] o e w = sent_fits i _ _ e w
  signal_fits (v ∷ vs) o e w = sent_fits i _ _ e w

  pub apply_fits : (f : Form) (vs : List Val) (m : Bool) (e : Env) (w : World) → Fits i w (apply p k f vs m e w)
  apply_fits (form.computing o t pl) (a ∷ b ∷ []) m e w = told_fits i w _ pl e (still_memory w _)
  apply_fits (form.comparing o) (a ∷ b ∷ []) m e w = plain_fits i w _ e (still_memory w _)
  apply_fits (form.negating pl) (a ∷ []) m e w = told_fits i w _ pl e (still_memory w _)
  apply_fits form.querying (a ∷ []) m e w = plain_fits i w _ e (still_memory w _)
  apply_fits (form.reading slot) (a ∷ []) m e w = plain_fits i w _ e (read_memory w slot a)
  apply_fits form.measuring (a ∷ []) m e w = plain_fits i w _ e (still_memory w _)
  apply_fits (form.making_tuple pl) vs m e w = told_fits i w _ pl e (still_memory w _)
  apply_fits (form.making_array pl) vs m e w = told_fits i w _ pl e (still_memory w _)
  apply_fits (form.making_map pl) vs m e w = told_fits i w _ pl e (still_memory w _)
  apply_fits (form.joining xs pl) vs m e w = told_fits i w _ pl e (still_memory w _)
  apply_fits (form.picking n) (a ∷ []) m e w = plain_fits i w _ e (still_memory w _)
  apply_fits form.indexing (a ∷ []) m e w = λ c b h. h
  apply_fits form.indexing (a ∷ b ∷ vs) m e w = plain_fits i w _ e (still_memory w _)
  apply_fits (form.calling f) vs m e w = d.calls f None vs m e w
  apply_fits (form.calling_own f) vs m e w = known_fits i w (this_of e) _ (λ o. called_fits f o vs m e w)
  apply_fits (form.calling_method f) (o ∷ vs) m e w = called_fits f o vs m e w
  apply_fits (form.printing pl) (a ∷ []) m e w = told_fits i w _ pl e (printed_memory w a)
  apply_fits (form.flooring pl) (a ∷ b ∷ []) m e w = told_fits i w _ pl e (still_memory w _)
  apply_fits (form.ceiling pl) (a ∷ b ∷ []) m e w = told_fits i w _ pl e (still_memory w _)
  apply_fits form.taking_modulo (a ∷ b ∷ []) m e w = plain_fits i w _ e (still_memory w _)
  apply_fits (form.awaiting t) (a ∷ vs) m e w = outside_fits i m w _ (awaited_fits t a e w)
  apply_fits form.signalling (o ∷ vs) m e w = outside_fits i m w _ (signal_fits vs o e w)
  apply_fits (form.spawning f) vs m e w = outside_fits i m w _ (d.spawns f None vs e w)
  apply_fits (form.spawning_own f) vs m e w = outside_fits i m w _ (known_fits i w (this_of e) _ (λ o. spawned_fits f o vs e w))
  apply_fits (form.spawning_method f) (o ∷ vs) m e w = outside_fits i m w _ (spawned_fits f o vs e w)
  apply_fits (form.storing b mode pl) vs m e w = stored_fits b vs mode pl m e w
  apply_fits (form.instancing class xs pl) vs m e w = filled_fits (fields_of p class) xs vs class [] pl m e w
  apply_fits form.defining (a ∷ []) m e w = λ c b h. h
  apply_fits (form.varying pl) (a ∷ []) m e w =
      valued_fits i w _ (λ r. r) _ (λ r. refl) (told_fits i w _ pl e (added_memory w _ _)) (λ c u. λ c b h. h)
  apply_fits form.returning (a ∷ []) m e w = λ c b h. h
  apply_fits (form.appending so_far pl) (a ∷ []) m e w = told_fits i w _ pl e (still_memory w _)
  apply_fits f vs m e w = λ c b h. tt

  pub defined_fits : (b : Binder) (e : Env) (v : Val) (m : Bool) (w : World) (go : Env → Val → World → Outcome) →
      ((e : Env) (v : Val) (u : World) → Fits i u (go e v u)) → Fits i w (defined p k b e v w go)
  unfolding defined
  defined_fits no_name e v m w go f = f e v w
  defined_fits (a_constant x) e v m w go f = f _ v w
  defined_fits (a_variable x pl) e v m w go f =
      valued_fits i w _ (λ r. r) _ (λ r. refl) (told_fits i w _ pl e (added_memory w _ _)) (λ c u. f _ v u)
