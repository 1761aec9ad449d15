-- Two evaluations that come to the same, through the forms with operands.
use Rattle.std.proofs.Common.{ℕ, List, [], ◌∷◌, ◌++◌, Option, Some, None, Bool, true, false}
use Rattle.verse_base.specs.declared.places.Place.{Place}
use Rattle.verse_tree.specs.Tree.{Bytes, Tree}
use Rattle.verse_tree.specs.ItemTree.{FieldTree}
use Rattle.verse_value.specs.Val.{Val}
use Rattle.verse_value.specs.declared.modes.Mode.{Mode}
use Rattle.verse_meaning_state.specs.State.{Given}
use Rattle.verse_meaning_state.specs.Waits.{done, heard, nth}
use Rattle.verse_meaning_state.specs.Effects.{task_of, class_of, event_of}
use Rattle.verse_meaning.specs.Programs.{Program, fields_of}
use Rattle.verse_meaning.specs.Residuals as form
use Rattle.verse_meaning.specs.Residuals.{Env, Base, in_variable, in_self, in_object, nowhere, Form, Binder, no_name, a_constant}
use Rattle.verse_meaning.specs.Residuals.{a_variable, Values, Residual}
use Rattle.verse_meaning.specs.Outcomes.{World, Outcome, if_there, suspended}
use Rattle.verse_meaning.specs.Forms.{Deeper, look, this_of, cell_of, split_last, given_at, written_to, stored, field_filled, filled}
use Rattle.verse_meaning.specs.Forms.{method_found, method_called, method_spawned, task_awaited, awaited, signal_told, apply, defined}
use Rattle.verse_meaning.proofs.Agreeing.{Agrees, alike, here, known_agrees, outside_agrees, there_agrees, valued_agrees}
use Rattle.verse_meaning.proofs.FollowingForms.{added_writes, still_writes, printed_writes, read_writes, written_writes}
use Rattle.verse_meaning.proofs.Following.{plain_follow, sent_follow, suspended_follow, told_follow}
use Rattle.verse_meaning.proofs.Counting.{steps_closed}

-- what is begun by a step
pub record DeeperAgrees (l : ℕ) (k k' : Deeper) : Type 0 where
  pub calls : (f : ℕ) (o : Option Val) (vs : List Val) (m : Bool) (e : Env) (w : World) → Agrees l w (k.calls f o vs m e w) (k'.calls f o vs
      m e w)
  pub spawns : (f : ℕ) (o : Option Val) (vs : List Val) (e : Env) (w : World) → Agrees l w (k.spawns f o vs e w) (k'.spawns f o vs e w)
  pub loops : (m : Bool) (go go' : World → Outcome) (wrap : Residual → Residual) (e : Env) (w : World) → ((u : World) → Agrees l u (go u)
      (go' u)) →
      Agrees l w (k.loops go wrap e w) (k'.loops go' wrap e w)
  pub takes : (m : Bool) (go go' : Val × Val → Val → World → Outcome) (wrap : Values → Residual →
      Residual) (e : Env) (vs : Values) (so_far : Val) (w : World) → ((x : Val × Val) (a : Val) (u : World) → Agrees l u (go x a u) (go' x a
      u)) →
      Agrees l w (k.takes go wrap e vs so_far w) (k'.takes go' wrap e vs so_far w)
  pub parts : (a : Tree) (e : Env) (w : World) → Agrees l w (k.parts a e w) (k'.parts a e w)
  pub defaults : (a : Tree) (m : Bool) (e : Env) (w : World) → Agrees l w (k.defaults a m e w) (k'.defaults a m e w)

module _ (l : ℕ) (p : Program) (k k' : Deeper) (d : DeeperAgrees l k k') where
  to_agrees : (c : Option Val) (slot : ℕ) (vs : List Val) (mode : Mode) (pl : Place) (m : Bool) (e : Env) (w : World) →
      Agrees l w (written_to p k c slot vs mode pl e w) (written_to p k' c slot vs mode pl e w)
  to_agrees None slot vs mode pl m e w = here w
  to_agrees (Some c) slot [] mode pl m e w = here w
  to_agrees (Some c) slot (v ∷ vs) mode pl m e w =
      alike (told_follow steps_closed w _ pl e (written_writes w.state slot (split_last v vs).0 mode (split_last v vs).1 c))

  stored_agrees : (b : Base) (vs : List Val) (mode : Mode) (pl : Place) (m : Bool) (e : Env) (w : World) →
      Agrees l w (stored p k b vs mode pl e w) (stored p k' b vs mode pl e w)
  stored_agrees (in_variable x) vs mode pl m e w = to_agrees (cell_of (look x e)) 0 vs mode pl m e w
  stored_agrees (in_self slot) vs mode pl m e w = to_agrees (this_of e) slot vs mode pl m e w
  stored_agrees (in_object slot) [] mode pl m e w = here w
  stored_agrees (in_object slot) (o ∷ vs) mode pl m e w = to_agrees (Some o) slot vs mode pl m e w
  stored_agrees nowhere vs mode pl m e w = here w

  field_agrees : (v : Option Val) (a : Option Tree) (m : Bool) (e : Env) (w : World) (wrap : Residual → Residual) (go go' : Val → World →
      Outcome) → ((v : Val) (u : World) →
      Agrees l u (go v u) (go' v u)) → Agrees l w (field_filled p k v a m e w wrap go) (field_filled p k' v a m e w wrap go')
  field_agrees (Some v) a m e w wrap go go' f = f v w
  field_agrees None None m e w wrap go go' f = here w
  field_agrees None (Some a) m e w wrap go go' f = valued_agrees l w _ _ wrap go go' (d.defaults a m e w) (λ v u. f v u)

  pub filled_agrees : (fs : List FieldTree) (xs : List Bytes) (vs : List Val) (class : ℕ) (slots : List Val) (pl : Place) (m : Bool) (e :
      Env)
      (w : World) → Agrees l w (filled p k fs xs vs class slots pl m e w) (filled p k' fs xs vs class slots pl m e w)
  filled_agrees [] xs vs class slots pl m e w = alike (told_follow steps_closed w _ pl e (added_writes w.state _ _))
  filled_agrees (f ∷ fs) xs vs class slots pl m e w =
      field_agrees (given_at f.name xs vs) f.default m e w _ _ _ (λ v u. filled_agrees fs xs vs class (slots ++ v ∷ []) pl m e u)

  called_agrees : (f : ℕ) (o : Val) (vs : List Val) (m : Bool) (e : Env) (w : World) → Agrees l w (method_called p k f o vs m e w)
      (method_called p k' f o vs m e w)
  called_agrees f o vs m e w = there_agrees l w (method_found p k (class_of o w.state) f) _ _ (λ g. d.calls g (Some o) vs m e w)

  spawned_agrees : (f : ℕ) (o : Val) (vs : List Val) (e : Env) (w : World) → Agrees l w (method_spawned p k f o vs e w) (method_spawned p k'
      f o vs e w)
  spawned_agrees f o vs e w = there_agrees l w (method_found p k (class_of o w.state) f) _ _ (λ g. d.spawns g (Some o) vs e w)

  task_awaited_agrees : (r : Option (Option Given)) (entry : ℕ) (e : Env) (w : World) → Agrees l w (task_awaited p k r entry e w)
      (task_awaited p k' r entry e w)
  task_awaited_agrees None entry e w = here w
  task_awaited_agrees (Some None) entry e w = alike (suspended_follow steps_closed (done entry) e w)
  task_awaited_agrees (Some (Some g)) entry e w = here w

  event_agrees : (c : Option ℕ) (e : Env) (w : World) → Agrees l w (if_there c w (λ c. suspended (heard c) e w)) (if_there c w (λ c.
      suspended (heard c) e w))
  event_agrees c e w = there_agrees l w c _ _ (λ c. alike (suspended_follow steps_closed (heard c) e w))

  awaited_agrees : (t : Bool) (v : Val) (e : Env) (w : World) → Agrees l w (awaited p k t v e w) (awaited p k' t v e w)
  awaited_agrees true v e w = event_agrees (event_of v w.state) e w
  awaited_agrees false v e w = there_agrees l w (task_of v) _ _ (λ entry. task_awaited_agrees (nth w.state.clock.results entry) entry e w)

  signal_agrees : (vs : List Val) (o : Val) (e : Env) (w : World) → Agrees l w (signal_told p k vs o e w) (signal_told p k' vs o e w)
  signal_agrees [] o e w = alike (sent_follow steps_closed _ _ e w)
  signal_agrees (v ∷ vs) o e w = alike (sent_follow steps_closed _ _ e w)

  pub apply_agrees : (f : Form) (vs : List Val) (m : Bool) (e : Env) (w : World) → Agrees l w (apply p k f vs m e w) (apply p k' f vs m e w)
  apply_agrees (form.computing o t pl) (a ∷ b ∷ []) m e w = alike (told_follow steps_closed w _ pl e (still_writes w.state _))
  apply_agrees (form.comparing o) (a ∷ b ∷ []) m e w = alike (plain_follow steps_closed w _ e (still_writes w.state _))
  apply_agrees (form.negating pl) (a ∷ []) m e w = alike (told_follow steps_closed w _ pl e (still_writes w.state _))
  apply_agrees form.querying (a ∷ []) m e w = alike (plain_follow steps_closed w _ e (still_writes w.state _))
  apply_agrees (form.reading slot) (a ∷ []) m e w = alike (plain_follow steps_closed w _ e (read_writes w.state slot a))
  apply_agrees form.measuring (a ∷ []) m e w = alike (plain_follow steps_closed w _ e (still_writes w.state _))
  apply_agrees (form.making_tuple pl) vs m e w = alike (told_follow steps_closed w _ pl e (still_writes w.state _))
  apply_agrees (form.making_array pl) vs m e w = alike (told_follow steps_closed w _ pl e (still_writes w.state _))
  apply_agrees (form.making_map pl) vs m e w = alike (told_follow steps_closed w _ pl e (still_writes w.state _))
  apply_agrees (form.joining xs pl) vs m e w = alike (told_follow steps_closed w _ pl e (still_writes w.state _))
  apply_agrees (form.picking i) (a ∷ []) m e w = alike (plain_follow steps_closed w _ e (still_writes w.state _))
  apply_agrees form.indexing (a ∷ []) m e w = here w
  apply_agrees form.indexing (a ∷ b ∷ vs) m e w = alike (plain_follow steps_closed w _ e (still_writes w.state _))
  apply_agrees (form.calling f) vs m e w = d.calls f None vs m e w
  apply_agrees (form.calling_own f) vs m e w = known_agrees l w (this_of e) _ _ (λ o. called_agrees f o vs m e w)
  apply_agrees (form.calling_method f) (o ∷ vs) m e w = called_agrees f o vs m e w
  apply_agrees (form.printing pl) (a ∷ []) m e w = alike (told_follow steps_closed w _ pl e (printed_writes w.state a))
  apply_agrees (form.flooring pl) (a ∷ b ∷ []) m e w = alike (told_follow steps_closed w _ pl e (still_writes w.state _))
  apply_agrees (form.ceiling pl) (a ∷ b ∷ []) m e w = alike (told_follow steps_closed w _ pl e (still_writes w.state _))
  apply_agrees form.taking_modulo (a ∷ b ∷ []) m e w = alike (plain_follow steps_closed w _ e (still_writes w.state _))
  apply_agrees (form.awaiting t) (a ∷ vs) m e w = outside_agrees l m w _ _ (awaited_agrees t a e w)
  apply_agrees form.signalling (o ∷ vs) m e w = outside_agrees l m w _ _ (signal_agrees vs o e w)
  apply_agrees (form.spawning f) vs m e w = outside_agrees l m w _ _ (d.spawns f None vs e w)
  apply_agrees (form.spawning_own f) vs m e w = outside_agrees l m w _ _ (known_agrees l w (this_of e) _ _ (λ o. spawned_agrees f o vs e w))
  apply_agrees (form.spawning_method f) (o ∷ vs) m e w = outside_agrees l m w _ _ (spawned_agrees f o vs e w)
  apply_agrees (form.storing b mode pl) vs m e w = stored_agrees b vs mode pl m e w
  apply_agrees (form.instancing class xs pl) vs m e w = filled_agrees (fields_of p class) xs vs class [] pl m e w
  apply_agrees form.defining (a ∷ []) m e w = here w
  apply_agrees (form.varying pl) (a ∷ []) m e w =
      valued_agrees l w _ _ (λ r. r) _ _ (alike (told_follow steps_closed w _ pl e (added_writes w.state _ _))) (λ c u. here u)
  apply_agrees form.returning (a ∷ []) m e w = here w
  apply_agrees (form.appending so_far pl) (a ∷ []) m e w = alike (told_follow steps_closed w _ pl e (still_writes w.state _))
  apply_agrees f vs m e w = here w

  pub defined_agrees : (b : Binder) (e : Env) (v : Val) (m : Bool) (w : World) (go go' : Env → Val → World → Outcome) →
      ((e : Env) (v : Val) (u : World) → Agrees l u (go e v u) (go' e v u)) → Agrees l w (defined p k b e v w go) (defined p k' b e v w go')
  unfolding defined
  defined_agrees no_name e v m w go go' f = f e v w
  defined_agrees (a_constant x) e v m w go go' f = f _ v w
  defined_agrees (a_variable x pl) e v m w go go' f =
      valued_agrees l w _ _ (λ r. r) _ _ (alike (told_follow steps_closed w _ pl e (added_writes w.state _ _))) (λ c u. f _ v u)
