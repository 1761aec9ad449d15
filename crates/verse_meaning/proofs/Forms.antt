-- What evaluation leaves as it was: one line for each part of a form.
use Rattle.std.proofs.Common.{◌≡◌, ℕ, List, [], ◌∷◌, ◌++◌, Option, Some, None, Bool, true, false, cond, refl}
use Rattle.std.specs.Prelude.{pos}
use Rattle.verse_base.specs.declared.places.Place.{Place}
use Rattle.verse_base.specs.declared.refusals.Kind.{Kind as Error}
use Rattle.verse_tree.specs.Tree.{Bytes, Tree}
use Rattle.verse_tree.specs.ItemTree.{FieldTree}
use Rattle.verse_value.specs.Val.{Val, unit, falsity, truth, int, char, enum, object, event, task, some, array, mapping, tuple}
use Rattle.verse_value.specs.Keys.{bytes_of}
use Rattle.verse_value.specs.Store.{Store}
use Rattle.verse_value.specs.Answer.{Answer, gives, fails, error, stuck}
use Rattle.verse_value.specs.Storing.{read_slot, write_slot}
use Rattle.verse_value.specs.declared.modes.Mode.{Mode}
use Rattle.verse_meaning_state.specs.State.{State, Given}
use Rattle.verse_meaning_state.specs.Waits.{done, heard, nth}
use Rattle.verse_meaning_state.specs.Effects.{task_of, Effect, still, added, changed, slot_read, slot_written, text_printed, line_printed}
use Rattle.verse_meaning_state.specs.Effects.{class_of}
use Rattle.verse_meaning_state.specs.Effects.{event_of}
use Rattle.verse_meaning.specs.Programs.{Program, fields_of}
use Rattle.verse_meaning.specs.Residuals as form
use Rattle.verse_meaning.specs.Residuals.{Env, Bound, constant, variable, Base, in_variable, in_self, in_object, nowhere, Form, Binder}
use Rattle.verse_meaning.specs.Residuals.{no_name}
use Rattle.verse_meaning.specs.Residuals.{a_constant, a_variable, Generator, Values, Role, part, body, root, Residual, leaf, args, seq}
use Rattle.verse_meaning.specs.Residuals.{deferred, looped, generated, called, arms, Scope, scope, Scopes, none, also, Arms, no_arms, gave}
use Rattle.verse_meaning.specs.Residuals.{runs}
use Rattle.verse_meaning.specs.Outcomes.{World, Outcome, value, failed, returned, broke, halted, rests, told_plain, if_there, suspended}
use Rattle.verse_meaning.specs.Forms.{Deeper, look, this_of, cell_of, read_bound, read_slot_of, split_last, given_at, written_to, stored}
use Rattle.verse_meaning.specs.Forms.{field_filled, filled, method_found, method_called, method_spawned, task_awaited, awaited, signal_told}
use Rattle.verse_meaning.specs.Forms.{apply, defined}
use Rattle.verse_meaning.specs.Laws.{Keeps}
use Rattle.verse_meaning.proofs.Keeping.{grown_same, extends_same, leaves_same, leaves_weak, valued_keeps, there_keeps, known_keeps, Memory}
use Rattle.verse_meaning.proofs.Keeping.{told_keeps, plain_keeps, outside_keeps, suspended_keeps}

-- effects change the memory alone
pub still_memory : (w : World) (a : Answer Val) → Memory true w (still a w.state)
still_memory w (gives v) = refl
still_memory w fails = tt
still_memory w (error k) = tt
still_memory w stuck = tt

pub added_memory : (w : World) (a : Answer Store) (v : Val) → Memory true w (added a v w.state)
added_memory w (gives x) v = refl
added_memory w fails v = tt
added_memory w (error k) v = tt
added_memory w stuck v = tt

changed_memory : (w : World) (a : Answer (Store × Val)) → Memory true w (changed a w.state)
changed_memory w (gives x) = refl
changed_memory w fails = tt
changed_memory w (error k) = tt
changed_memory w stuck = tt

pub read_memory : (w : World) (slot : ℕ) (v : Val) → Memory true w (slot_read slot v w.state)
read_memory w slot unit = tt
read_memory w slot falsity = tt
read_memory w slot truth = tt
read_memory w slot (int z) = tt
read_memory w slot (char c) = tt
read_memory w slot (enum a b) = tt
read_memory w slot (object c) = still_memory w (read_slot w.state.memory.store c slot)
read_memory w slot (event c) = tt
read_memory w slot (task c) = tt
read_memory w slot (some v) = tt
read_memory w slot (array vs) = tt
read_memory w slot (mapping ps) = tt
read_memory w slot (tuple vs) = tt

pub written_memory : (w : World) (slot : ℕ) (path : List Val) (mode : Mode) (v c : Val) →
    Memory true w (slot_written slot path mode v c w.state)
written_memory w slot path mode x unit = tt
written_memory w slot path mode x falsity = tt
written_memory w slot path mode x truth = tt
written_memory w slot path mode x (int z) = tt
written_memory w slot path mode x (char c) = tt
written_memory w slot path mode x (enum a b) = tt
written_memory w slot path mode x (object c) = changed_memory w (write_slot w.state.memory.store c slot path mode x)
written_memory w slot path mode x (event c) = tt
written_memory w slot path mode x (task c) = tt
written_memory w slot path mode x (some v) = tt
written_memory w slot path mode x (array vs) = tt
written_memory w slot path mode x (mapping ps) = tt
written_memory w slot path mode x (tuple vs) = tt

told_memory : (w : World) (b : Bool) (x : Val × State) (k : Error) → x.1.clock ≡ w.state.clock → Memory true w (cond b (gives x) (error k))
told_memory w true x k e = e
told_memory w false x k e = tt

text_memory : (w : World) (bytes : Option (List ℕ)) → Memory true w (text_printed bytes w.state)
text_memory w None = tt
text_memory w (Some bytes) = told_memory w _ _ _ refl

pub printed_memory : (w : World) (v : Val) → Memory true w (line_printed v w.state)
printed_memory w unit = tt
printed_memory w falsity = tt
printed_memory w truth = tt
printed_memory w (int z) = tt
printed_memory w (char c) = tt
printed_memory w (enum a b) = tt
printed_memory w (object c) = tt
printed_memory w (event c) = tt
printed_memory w (task c) = tt
printed_memory w (some v) = tt
printed_memory w (array vs) = text_memory w (bytes_of vs)
printed_memory w (mapping ps) = tt
printed_memory w (tuple vs) = tt

-- where no failure context is open, any state will do
plain_true : (w : World) (x : Effect) (e : Env) → Keeps true w (told_plain x e w)
unfolding told_plain
plain_true w (gives x) e = (extends_same w.behind, grown_same w.tasks)
plain_true w fails e = tt
plain_true w (error k) e = tt
plain_true w stuck e = tt

-- what is begun by a step
pub record DeeperKeeps (k : Deeper) : Type 0 where
  pub calls : (f : ℕ) (o : Option Val) (vs : List Val) (m : Bool) (e : Env) (w : World) → Keeps m w (k.calls f o vs m e w)
  pub spawns : (f : ℕ) (o : Option Val) (vs : List Val) (e : Env) (w : World) → Keeps true w (k.spawns f o vs e w)
  pub loops : (m : Bool) (go : World → Outcome) (wrap : Residual → Residual) (e : Env) (w : World) → ((u : World) → Keeps m u (go u)) →
      Keeps m w (k.loops go wrap e w)
  pub takes : (m : Bool) (go : Val × Val → Val → World → Outcome) (wrap : Values → Residual →
      Residual) (e : Env) (vs : Values) (so_far : Val) (w : World) → ((x : Val × Val) (a : Val) (u : World) → Keeps m u (go x a u)) →
      Keeps m w (k.takes go wrap e vs so_far w)
  pub parts : (a : Tree) (e : Env) (w : World) → Keeps false w (k.parts a e w)
  pub defaults : (a : Tree) (m : Bool) (e : Env) (w : World) → Keeps m w (k.defaults a m e w)

weak_keeps : (m : Bool) (w : World) (o : Outcome) → Keeps false w o → Keeps m w o
weak_keeps true w (value e v u) a = leaves_weak true w u a
weak_keeps true w (failed s) a = tt
weak_keeps true w (returned v u) a = leaves_weak true w u a
weak_keeps true w (broke u) a = leaves_weak true w u a
weak_keeps true w (halted h) a = tt
weak_keeps true w (rests r u) a = cc
weak_keeps false w o a = a

pub read_bound_keeps : (b : Option Bound) (pl : Place) (m : Bool) (e : Env) (w : World) → Keeps m w (read_bound b pl e w)
read_bound_keeps None pl m e w = tt
read_bound_keeps (Some (constant v)) pl m e w = leaves_same m w
read_bound_keeps (Some (variable c)) pl m e w = told_keeps m w _ pl e (read_memory w 0 (object c))

pub read_slot_keeps : (o : Option Val) (slot : ℕ) (pl : Place) (m : Bool) (e : Env) (w : World) → Keeps m w (read_slot_of o slot pl e w)
read_slot_keeps None slot pl m e w = tt
read_slot_keeps (Some v) slot pl m e w = told_keeps m w _ pl e (read_memory w slot v)

module _ (p : Program) (k : Deeper) (d : DeeperKeeps k) where
  to_keeps : (c : Option Val) (slot : ℕ) (vs : List Val) (mode : Mode) (pl : Place) (m : Bool) (e : Env) (w : World) →
      Keeps m w (written_to p k c slot vs mode pl e w)
  to_keeps None slot vs mode pl m e w = tt
  to_keeps (Some c) slot [] mode pl m e w = tt
  to_keeps (Some c) slot (v ∷ vs) mode pl m e w =
      told_keeps m w _ pl e (written_memory w slot (split_last v vs).0 mode (split_last v vs).1 c)

  stored_keeps : (b : Base) (vs : List Val) (mode : Mode) (pl : Place) (m : Bool) (e : Env) (w : World) →
      Keeps m w (stored p k b vs mode pl e w)
  stored_keeps (in_variable x) vs mode pl m e w = to_keeps (cell_of (look x e)) 0 vs mode pl m e w
  stored_keeps (in_self slot) vs mode pl m e w = to_keeps (this_of e) slot vs mode pl m e w
  stored_keeps (in_object slot) [] mode pl m e w = tt
  stored_keeps (in_object slot) (o ∷ vs) mode pl m e w = to_keeps (Some o) slot vs mode pl m e w
  stored_keeps nowhere vs mode pl m e w = tt

  field_keeps : (v : Option Val) (a : Option Tree) (m : Bool) (e : Env) (w : World) (wrap : Residual → Residual)
      (go : Val → World → Outcome) → ((v : Val) (u : World) → Keeps m u (go v u)) → Keeps m w (field_filled p k v a m e w wrap go)
  field_keeps (Some v) a m e w wrap go f = f v w
  field_keeps None None m e w wrap go f = tt
  field_keeps None (Some a) m e w wrap go f = valued_keeps m w (k.defaults a m e w) wrap go (d.defaults a m e w) (λ v u h. f v u)

  pub filled_keeps : (fs : List FieldTree) (xs : List Bytes) (vs : List Val) (class : ℕ) (slots : List Val) (pl : Place) (m : Bool)
      (e : Env) (w : World) → Keeps m w (filled p k fs xs vs class slots pl m e w)
  filled_keeps [] xs vs class slots pl m e w = told_keeps m w _ pl e (added_memory w _ _)
  filled_keeps (f ∷ fs) xs vs class slots pl m e w =
      field_keeps (given_at f.name xs vs) f.default m e w _ _ (λ v u. filled_keeps fs xs vs class (slots ++ v ∷ []) pl m e u)

  called_keeps : (f : ℕ) (o : Val) (vs : List Val) (m : Bool) (e : Env) (w : World) → Keeps m w (method_called p k f o vs m e w)
  called_keeps f o vs m e w = there_keeps m w (method_found p k (class_of o w.state) f) _ (λ g. d.calls g (Some o) vs m e w)

  spawned_keeps : (f : ℕ) (o : Val) (vs : List Val) (e : Env) (w : World) → Keeps true w (method_spawned p k f o vs e w)
  spawned_keeps f o vs e w = there_keeps true w (method_found p k (class_of o w.state) f) _ (λ g. d.spawns g (Some o) vs e w)

  task_awaited_keeps : (r : Option (Option Given)) (entry : ℕ) (e : Env) (w : World) → Keeps true w (task_awaited p k r entry e w)
  task_awaited_keeps None entry e w = tt
  task_awaited_keeps (Some None) entry e w = suspended_keeps (done entry) e w
  task_awaited_keeps (Some (Some g)) entry e w = leaves_same true w

  event_keeps : (c : Option ℕ) (e : Env) (w : World) → Keeps true w (if_there c w (λ c. suspended (heard c) e w))
  event_keeps c e w = there_keeps true w c _ (λ c. suspended_keeps (heard c) e w)

  awaited_keeps : (t : Bool) (v : Val) (e : Env) (w : World) → Keeps true w (awaited p k t v e w)
  awaited_keeps true v e w = event_keeps (event_of v w.state) e w
  awaited_keeps false v e w = there_keeps true w (task_of v) _ (λ entry. task_awaited_keeps (nth w.state.clock.results entry) entry e w)

  signal_keeps : (vs : List Val) (o : Val) (e : Env) (w : World) → Keeps true w (signal_told p k vs o e w)
  signal_keeps [] o e w = plain_true w _ e
  signal_keeps (v ∷ vs) o e w = plain_true w _ e

  pub apply_keeps : (f : Form) (vs : List Val) (m : Bool) (e : Env) (w : World) → Keeps m w (apply p k f vs m e w)
  apply_keeps (form.computing o t pl) (a ∷ b ∷ []) m e w = told_keeps m w _ pl e (still_memory w _)
  apply_keeps (form.comparing o) (a ∷ b ∷ []) m e w = plain_keeps m w _ e (still_memory w _)
  apply_keeps (form.negating pl) (a ∷ []) m e w = told_keeps m w _ pl e (still_memory w _)
  apply_keeps form.querying (a ∷ []) m e w = plain_keeps m w _ e (still_memory w _)
  apply_keeps (form.reading slot) (a ∷ []) m e w = plain_keeps m w _ e (read_memory w slot a)
  apply_keeps form.measuring (a ∷ []) m e w = plain_keeps m w _ e (still_memory w _)
  apply_keeps (form.making_tuple pl) vs m e w = told_keeps m w _ pl e (still_memory w _)
  apply_keeps (form.making_array pl) vs m e w = told_keeps m w _ pl e (still_memory w _)
  apply_keeps (form.making_map pl) vs m e w = told_keeps m w _ pl e (still_memory w _)
  apply_keeps (form.joining xs pl) vs m e w = told_keeps m w _ pl e (still_memory w _)
  apply_keeps (form.picking i) (a ∷ []) m e w = plain_keeps m w _ e (still_memory w _)
  apply_keeps form.indexing (a ∷ []) m e w = leaves_same m w
  apply_keeps form.indexing (a ∷ b ∷ vs) m e w = plain_keeps m w _ e (still_memory w _)
  apply_keeps (form.calling f) vs m e w = d.calls f None vs m e w
  apply_keeps (form.calling_own f) vs m e w = known_keeps m w (this_of e) _ (λ o. called_keeps f o vs m e w)
  apply_keeps (form.calling_method f) (o ∷ vs) m e w = called_keeps f o vs m e w
  apply_keeps (form.printing pl) (a ∷ []) m e w = told_keeps m w _ pl e (printed_memory w a)
  apply_keeps (form.flooring pl) (a ∷ b ∷ []) m e w = told_keeps m w _ pl e (still_memory w _)
  apply_keeps (form.ceiling pl) (a ∷ b ∷ []) m e w = told_keeps m w _ pl e (still_memory w _)
  apply_keeps form.taking_modulo (a ∷ b ∷ []) m e w = plain_keeps m w _ e (still_memory w _)
  apply_keeps (form.awaiting t) (a ∷ vs) m e w = outside_keeps m w _ (λ h. awaited_keeps t a e w)
  apply_keeps form.signalling (o ∷ vs) m e w = outside_keeps m w _ (λ h. signal_keeps vs o e w)
  apply_keeps (form.spawning f) vs m e w = outside_keeps m w _ (λ h. d.spawns f None vs e w)
  apply_keeps (form.spawning_own f) vs m e w = outside_keeps m w _ (λ h. known_keeps true w (this_of e) _ (λ o. spawned_keeps f o vs e w))
  apply_keeps (form.spawning_method f) (o ∷ vs) m e w = outside_keeps m w _ (λ h. spawned_keeps f o vs e w)
  apply_keeps (form.storing b mode pl) vs m e w = stored_keeps b vs mode pl m e w
  apply_keeps (form.instancing class xs pl) vs m e w = filled_keeps (fields_of p class) xs vs class [] pl m e w
  apply_keeps form.defining (a ∷ []) m e w = leaves_same m w
  apply_keeps (form.varying pl) (a ∷ []) m e w =
      valued_keeps m w _ (λ r. r) _ (told_keeps m w _ pl e (added_memory w _ _)) (λ c u h. leaves_same m u)
  apply_keeps form.returning (a ∷ []) m e w = leaves_same m w
  apply_keeps (form.appending so_far pl) (a ∷ []) m e w = told_keeps m w _ pl e (still_memory w _)
  apply_keeps f vs m e w = tt

  pub defined_keeps : (b : Binder) (e : Env) (v : Val) (m : Bool) (w : World) (go : Env → Val → World → Outcome) →
      ((e : Env) (v : Val) (u : World) → Keeps m u (go e v u)) → Keeps m w (defined p k b e v w go)
  unfolding defined
  defined_keeps no_name e v m w go f = f e v w
  defined_keeps (a_constant x) e v m w go f = f _ v w
  defined_keeps (a_variable x pl) e v m w go f =
      valued_keeps m w _ (λ r. r) _ (told_keeps m w _ pl e (added_memory w _ _)) (λ c u h. f _ v u)
