-- A relation that each step keeps, through the forms with operands.
use Rattle.std.proofs.Common.{◌≡◌, ℕ, List, [], ◌∷◌, ◌++◌, Option, Some, None, Bool, true, false, cond, refl}
use Rattle.verse_base.specs.declared.places.Place.{Place}
use Rattle.verse_base.specs.declared.refusals.Kind.{Kind as Error}
use Rattle.verse_tree.specs.Tree.{Bytes, Tree}
use Rattle.verse_tree.specs.ItemTree.{FieldTree}
use Rattle.verse_value.specs.Val.{Val, unit, falsity, truth, int, char, enum, object, event, task, some, array, mapping, tuple}
use Rattle.verse_value.specs.Keys.{bytes_of}
use Rattle.verse_value.specs.Store.{Store}
use Rattle.verse_value.specs.Answer.{Answer, gives, fails, error, stuck}
use Rattle.verse_value.specs.Storing.{read_slot, write_slot}
use Rattle.verse_value.specs.declared.modes.Mode.{Mode}
use Rattle.verse_meaning_state.specs.State.{State, Given}
use Rattle.verse_meaning_state.specs.Waits.{done, heard, nth}
use Rattle.verse_meaning_state.specs.Effects.{task_of, still, added, changed, slot_read, slot_written, text_printed, line_printed}
use Rattle.verse_meaning_state.specs.Effects.{class_of, event_of}
use Rattle.verse_meaning.specs.Programs.{Program, fields_of}
use Rattle.verse_meaning.specs.Residuals as form
use Rattle.verse_meaning.specs.Residuals.{Env, Bound, constant, variable, Base, in_variable, in_self, in_object, nowhere, Form, Binder}
use Rattle.verse_meaning.specs.Residuals.{no_name, a_constant, a_variable, Values, Residual}
use Rattle.verse_meaning.specs.Outcomes.{World, Outcome, if_there, suspended}
use Rattle.verse_meaning.specs.Forms.{Deeper, look, this_of, cell_of, read_bound, read_slot_of, split_last, given_at, written_to, stored}
use Rattle.verse_meaning.specs.Forms.{field_filled, filled, method_found, method_called, method_spawned, task_awaited, awaited}
use Rattle.verse_meaning.specs.Forms.{signal_told, apply, defined}
use Rattle.verse_meaning.specs.RunLaws.{Begins, Reaches}
use Rattle.verse_meaning.proofs.Following.{Closed, Writes, begins_more, begins_same, known_follow, outside_follow, plain_follow}
use Rattle.verse_meaning.proofs.Following.{sent_follow, suspended_follow, there_follow, told_follow, valued_follow}

-- effects change the memory alone
pub still_writes : (s : State) (a : Answer Val) → Writes s (still a s)
still_writes s (gives v) = (refl, begins_same s.memory.trace)
still_writes s fails = tt
still_writes s (error k) = tt
still_writes s stuck = tt

pub added_writes : (s : State) (a : Answer Store) (v : Val) → Writes s (added a v s)
added_writes s (gives x) v = (refl, begins_same s.memory.trace)
added_writes s fails v = tt
added_writes s (error k) v = tt
added_writes s stuck v = tt

changed_writes : (s : State) (a : Answer (Store × Val)) → Writes s (changed a s)
changed_writes s (gives x) = (refl, begins_same s.memory.trace)
changed_writes s fails = tt
changed_writes s (error k) = tt
changed_writes s stuck = tt

pub read_writes : (s : State) (slot : ℕ) (v : Val) → Writes s (slot_read slot v s)
read_writes s slot unit = tt
read_writes s slot falsity = tt
read_writes s slot truth = tt
read_writes s slot (int z) = tt
read_writes s slot (char c) = tt
read_writes s slot (enum a b) = tt
read_writes s slot (object c) = still_writes s (read_slot s.memory.store c slot)
read_writes s slot (event c) = tt
read_writes s slot (task c) = tt
read_writes s slot (some v) = tt
read_writes s slot (array vs) = tt
read_writes s slot (mapping ps) = tt
read_writes s slot (tuple vs) = tt

pub written_writes : (s : State) (slot : ℕ) (path : List Val) (mode : Mode) (v c : Val) →
    Writes s (slot_written slot path mode v c s)
written_writes s slot path mode x unit = tt
written_writes s slot path mode x falsity = tt
written_writes s slot path mode x truth = tt
written_writes s slot path mode x (int z) = tt
written_writes s slot path mode x (char c) = tt
written_writes s slot path mode x (enum a b) = tt
written_writes s slot path mode x (object c) = changed_writes s (write_slot s.memory.store c slot path mode x)
written_writes s slot path mode x (event c) = tt
written_writes s slot path mode x (task c) = tt
written_writes s slot path mode x (some v) = tt
written_writes s slot path mode x (array vs) = tt
written_writes s slot path mode x (mapping ps) = tt
written_writes s slot path mode x (tuple vs) = tt

told_writes : (s : State) (b : Bool) (x : Val × State) (k : Error) → x.1.clock ≡ s.clock → Begins s.memory.trace x.1.memory.trace →
    Writes s (cond b (gives x) (error k))
told_writes s true x k e a = (e, a)
told_writes s false x k e a = tt

text_writes : (s : State) (bytes : Option (List ℕ)) → Writes s (text_printed bytes s)
text_writes s None = tt
text_writes s (Some bytes) = told_writes s _ _ _ refl (begins_more s.memory.trace _)

pub printed_writes : (s : State) (v : Val) → Writes s (line_printed v s)
printed_writes s unit = tt
printed_writes s falsity = tt
printed_writes s truth = tt
printed_writes s (int z) = tt
printed_writes s (char c) = tt
printed_writes s (enum a b) = tt
printed_writes s (object c) = tt
printed_writes s (event c) = tt
printed_writes s (task c) = tt
printed_writes s (some v) = tt
printed_writes s (array vs) = text_writes s (bytes_of vs)
printed_writes s (mapping ps) = tt
printed_writes s (tuple vs) = tt

-- what is begun by a step
pub record DeeperFollows (R : State → State → Type 0) (k : Deeper) : Type 0 where
  pub calls : (f : ℕ) (o : Option Val) (vs : List Val) (m : Bool) (e : Env) (w : World) → Reaches R w.state (k.calls f o vs m e w)
  pub spawns : (f : ℕ) (o : Option Val) (vs : List Val) (e : Env) (w : World) → Reaches R w.state (k.spawns f o vs e w)
  pub loops : (m : Bool) (go : World → Outcome) (wrap : Residual → Residual) (e : Env) (w : World) → ((u : World) → Reaches R u.state (go
      u)) →
      Reaches R w.state (k.loops go wrap e w)
  pub takes : (m : Bool) (go : Val × Val → Val → World → Outcome) (wrap : Values → Residual →
      Residual) (e : Env) (vs : Values) (so_far : Val) (w : World) → ((x : Val × Val) (a : Val) (u : World) → Reaches R u.state (go x a u))
      →
      Reaches R w.state (k.takes go wrap e vs so_far w)
  pub parts : (a : Tree) (e : Env) (w : World) → Reaches R w.state (k.parts a e w)
  pub defaults : (a : Tree) (m : Bool) (e : Env) (w : World) → Reaches R w.state (k.defaults a m e w)

module _ {R : State → State → Type 0} (cl : Closed R) where
  pub read_bound_follow : (b : Option Bound) (pl : Place) (m : Bool) (e : Env) (w : World) → Reaches R w.state (read_bound b pl e w)
  read_bound_follow None pl m e w = cl.same w.state
  read_bound_follow (Some (constant v)) pl m e w = cl.same w.state
  read_bound_follow (Some (variable c)) pl m e w = told_follow cl w _ pl e (read_writes w.state 0 (object c))

  pub read_slot_follow : (o : Option Val) (slot : ℕ) (pl : Place) (m : Bool) (e : Env) (w : World) → Reaches R w.state (read_slot_of o slot
      pl e w)
  read_slot_follow None slot pl m e w = cl.same w.state
  read_slot_follow (Some v) slot pl m e w = told_follow cl w _ pl e (read_writes w.state slot v)

module _ {R : State → State → Type 0} (cl : Closed R) (p : Program) (k : Deeper) (d : DeeperFollows R k) where
  to_follow : (c : Option Val) (slot : ℕ) (vs : List Val) (mode : Mode) (pl : Place) (m : Bool) (e : Env) (w : World) →
      Reaches R w.state (written_to p k c slot vs mode pl e w)
  to_follow None slot vs mode pl m e w = cl.same w.state
  to_follow (Some c) slot [] mode pl m e w = cl.same w.state
  to_follow (Some c) slot (v ∷ vs) mode pl m e w =
      told_follow cl w _ pl e (written_writes w.state slot (split_last v vs).0 mode (split_last v vs).1 c)

  stored_follow : (b : Base) (vs : List Val) (mode : Mode) (pl : Place) (m : Bool) (e : Env) (w : World) →
      Reaches R w.state (stored p k b vs mode pl e w)
  stored_follow (in_variable x) vs mode pl m e w = to_follow (cell_of (look x e)) 0 vs mode pl m e w
  stored_follow (in_self slot) vs mode pl m e w = to_follow (this_of e) slot vs mode pl m e w
  stored_follow (in_object slot) [] mode pl m e w = cl.same w.state
  stored_follow (in_object slot) (o ∷ vs) mode pl m e w = to_follow (Some o) slot vs mode pl m e w
  stored_follow nowhere vs mode pl m e w = cl.same w.state

  field_follow : (v : Option Val) (a : Option Tree) (m : Bool) (e : Env) (w : World) (wrap : Residual → Residual) (go : Val → World →
      Outcome) → ((v : Val) (u : World) →
      Reaches R u.state (go v u)) → Reaches R w.state (field_filled p k v a m e w wrap go)
  field_follow (Some v) a m e w wrap go f = f v w
  field_follow None None m e w wrap go f = cl.same w.state
  field_follow None (Some a) m e w wrap go f = valued_follow cl w.state (k.defaults a m e w) wrap go (d.defaults a m e w) (λ v u. f v u)

  pub filled_follow : (fs : List FieldTree) (xs : List Bytes) (vs : List Val) (class : ℕ) (slots : List Val) (pl : Place) (m : Bool) (e :
      Env)
      (w : World) → Reaches R w.state (filled p k fs xs vs class slots pl m e w)
  filled_follow [] xs vs class slots pl m e w = told_follow cl w _ pl e (added_writes w.state _ _)
  filled_follow (f ∷ fs) xs vs class slots pl m e w =
      field_follow (given_at f.name xs vs) f.default m e w _ _ (λ v u. filled_follow fs xs vs class (slots ++ v ∷ []) pl m e u)

  called_follow : (f : ℕ) (o : Val) (vs : List Val) (m : Bool) (e : Env) (w : World) → Reaches R w.state (method_called p k f o vs m e w)
  called_follow f o vs m e w = there_follow cl w (method_found p k (class_of o w.state) f) _ (λ g. d.calls g (Some o) vs m e w)

  spawned_follow : (f : ℕ) (o : Val) (vs : List Val) (e : Env) (w : World) → Reaches R w.state (method_spawned p k f o vs e w)
  spawned_follow f o vs e w = there_follow cl w (method_found p k (class_of o w.state) f) _ (λ g. d.spawns g (Some o) vs e w)

  task_awaited_follow : (r : Option (Option Given)) (entry : ℕ) (e : Env) (w : World) → Reaches R w.state (task_awaited p k r entry e w)
  task_awaited_follow None entry e w = cl.same w.state
  task_awaited_follow (Some None) entry e w = suspended_follow cl (done entry) e w
  task_awaited_follow (Some (Some g)) entry e w = cl.same w.state

  event_follow : (c : Option ℕ) (e : Env) (w : World) → Reaches R w.state (if_there c w (λ c. suspended (heard c) e w))
  event_follow c e w = there_follow cl w c _ (λ c. suspended_follow cl (heard c) e w)

  awaited_follow : (t : Bool) (v : Val) (e : Env) (w : World) → Reaches R w.state (awaited p k t v e w)
  awaited_follow true v e w = event_follow (event_of v w.state) e w
  awaited_follow false v e w = there_follow cl w (task_of v) _ (λ entry. task_awaited_follow (nth w.state.clock.results entry) entry e w)

  signal_follow : (vs : List Val) (o : Val) (e : Env) (w : World) → Reaches R w.state (signal_told p k vs o e w)
  signal_follow [] o e w = sent_follow cl _ _ e w
  signal_follow (v ∷ vs) o e w = sent_follow cl _ _ e w

  pub apply_follow : (f : Form) (vs : List Val) (m : Bool) (e : Env) (w : World) → Reaches R w.state (apply p k f vs m e w)
  apply_follow (form.computing o t pl) (a ∷ b ∷ []) m e w = told_follow cl w _ pl e (still_writes w.state _)
  apply_follow (form.comparing o) (a ∷ b ∷ []) m e w = plain_follow cl w _ e (still_writes w.state _)
  apply_follow (form.negating pl) (a ∷ []) m e w = told_follow cl w _ pl e (still_writes w.state _)
  apply_follow form.querying (a ∷ []) m e w = plain_follow cl w _ e (still_writes w.state _)
  apply_follow (form.reading slot) (a ∷ []) m e w = plain_follow cl w _ e (read_writes w.state slot a)
  apply_follow form.measuring (a ∷ []) m e w = plain_follow cl w _ e (still_writes w.state _)
  apply_follow (form.making_tuple pl) vs m e w = told_follow cl w _ pl e (still_writes w.state _)
  apply_follow (form.making_array pl) vs m e w = told_follow cl w _ pl e (still_writes w.state _)
  apply_follow (form.making_map pl) vs m e w = told_follow cl w _ pl e (still_writes w.state _)
  apply_follow (form.joining xs pl) vs m e w = told_follow cl w _ pl e (still_writes w.state _)
  apply_follow (form.picking i) (a ∷ []) m e w = plain_follow cl w _ e (still_writes w.state _)
  apply_follow form.indexing (a ∷ []) m e w = cl.same w.state
  apply_follow form.indexing (a ∷ b ∷ vs) m e w = plain_follow cl w _ e (still_writes w.state _)
  apply_follow (form.calling f) vs m e w = d.calls f None vs m e w
  apply_follow (form.calling_own f) vs m e w = known_follow cl w (this_of e) _ (λ o. called_follow f o vs m e w)
  apply_follow (form.calling_method f) (o ∷ vs) m e w = called_follow f o vs m e w
  apply_follow (form.printing pl) (a ∷ []) m e w = told_follow cl w _ pl e (printed_writes w.state a)
  apply_follow (form.flooring pl) (a ∷ b ∷ []) m e w = told_follow cl w _ pl e (still_writes w.state _)
  apply_follow (form.ceiling pl) (a ∷ b ∷ []) m e w = told_follow cl w _ pl e (still_writes w.state _)
  apply_follow form.taking_modulo (a ∷ b ∷ []) m e w = plain_follow cl w _ e (still_writes w.state _)
  apply_follow (form.awaiting t) (a ∷ vs) m e w = outside_follow cl m w _ (awaited_follow t a e w)
  apply_follow form.signalling (o ∷ vs) m e w = outside_follow cl m w _ (signal_follow vs o e w)
  apply_follow (form.spawning f) vs m e w = outside_follow cl m w _ (d.spawns f None vs e w)
  apply_follow (form.spawning_own f) vs m e w = outside_follow cl m w _ (known_follow cl w (this_of e) _ (λ o. spawned_follow f o vs e w))
  apply_follow (form.spawning_method f) (o ∷ vs) m e w = outside_follow cl m w _ (spawned_follow f o vs e w)
  apply_follow (form.storing b mode pl) vs m e w = stored_follow b vs mode pl m e w
  apply_follow (form.instancing class xs pl) vs m e w = filled_follow (fields_of p class) xs vs class [] pl m e w
  apply_follow form.defining (a ∷ []) m e w = cl.same w.state
  apply_follow (form.varying pl) (a ∷ []) m e w =
      valued_follow cl w.state _ (λ r. r) _ (told_follow cl w _ pl e (added_writes w.state _ _)) (λ c u. cl.same u.state)
  apply_follow form.returning (a ∷ []) m e w = cl.same w.state
  apply_follow (form.appending so_far pl) (a ∷ []) m e w = told_follow cl w _ pl e (still_writes w.state _)
  apply_follow f vs m e w = cl.same w.state

  pub defined_follow : (b : Binder) (e : Env) (v : Val) (m : Bool) (w : World) (go : Env → Val → World → Outcome) →
      ((e : Env) (v : Val) (u : World) → Reaches R u.state (go e v u)) → Reaches R w.state (defined p k b e v w go)
  unfolding defined
  defined_follow no_name e v m w go f = f e v w
  defined_follow (a_constant x) e v m w go f = f _ v w
  defined_follow (a_variable x pl) e v m w go f =
      valued_follow cl w.state _ (λ r. r) _ (told_follow cl w _ pl e (added_writes w.state _ _)) (λ c u. f _ v u)
