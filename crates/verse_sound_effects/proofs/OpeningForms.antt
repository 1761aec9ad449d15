-- With a failure context open, and with none, through the forms with operands.
use Rattle.std.proofs.Common.{ℕ, List, [], ◌∷◌, ◌++◌, Option, Some, None, true, false}
use Rattle.verse_base.specs.declared.places.Place.{Place}
use Rattle.verse_tree.specs.Tree.{Bytes, Tree}
use Rattle.verse_tree.specs.ItemTree.{FieldTree}
use Rattle.verse_value.specs.Val.{Val}
use Rattle.verse_meaning_state.specs.Effects.{class_of}
use Rattle.verse_meaning.specs.Programs.{Program, fields_of}
use Rattle.verse_meaning.specs.Residuals as form
use Rattle.verse_meaning.specs.Residuals.{Env, Form, Binder, no_name, a_constant, a_variable, Values, Residual}
use Rattle.verse_meaning.specs.Outcomes.{World, Outcome}
use Rattle.verse_meaning.specs.Forms.{Deeper, this_of, given_at, field_filled, filled, method_found, method_called}
use Rattle.verse_meaning.specs.Forms.{apply, defined}
use Rattle.verse_sound_effects.specs.Opening.{SameOrStuck, same}
use Rattle.verse_sound_effects.proofs.Opening.{valued_opens, there_opens, known_opens, outside_opens}

-- what is begun by a step
pub record DeeperOpens (k : Deeper) : Type 0 where
  pub calls : (g : ℕ) (o : Option Val) (vs : List Val) (e : Env) (w : World) →
      SameOrStuck (k.calls g o vs false e w) (k.calls g o vs true e w)
  pub loops : (go go' : World → Outcome) (wrap : Residual → Residual) (e : Env) (w : World) →
      ((u : World) → SameOrStuck (go u) (go' u)) → SameOrStuck (k.loops go wrap e w) (k.loops go' wrap e w)
  pub takes : (go go' : Val × Val → Val → World → Outcome) (wrap : Values → Residual →
      Residual) (e : Env) (vs : Values) (so_far : Val)
      (w : World) → ((x : Val × Val) (a : Val) (u : World) → SameOrStuck (go x a u) (go' x a u)) →
      SameOrStuck (k.takes go wrap e vs so_far w) (k.takes go' wrap e vs so_far w)
  pub defaults : (a : Tree) (e : Env) (w : World) → SameOrStuck (k.defaults a false e w) (k.defaults a true e w)

module _ (p : Program) (k : Deeper) (d : DeeperOpens k) where
  field_opens : (v : Option Val) (a : Option Tree) (e : Env) (w : World) (wrap : Residual → Residual) (go go' : Val →
      World → Outcome) →
      ((v : Val) (u : World) → SameOrStuck (go v u) (go' v u)) →
      SameOrStuck (field_filled p k v a false e w wrap go) (field_filled p k v a true e w wrap go')
  field_opens (Some v) a e w wrap go go' f = f v w
  field_opens None None e w wrap go go' f = same
  field_opens None (Some a) e w wrap go go' f = valued_opens wrap go go' (d.defaults a e w) f

  filled_opens : (fs : List FieldTree) (xs : List Bytes) (vs : List Val) (class : ℕ) (slots : List Val) (pl : Place)
      (e : Env)
      (w : World) → SameOrStuck (filled p k fs xs vs class slots pl false e w)
      (filled p k fs xs vs class slots pl true e w)
  filled_opens [] xs vs class slots pl e w = same
  filled_opens (f ∷ fs) xs vs class slots pl e w =
      field_opens (given_at f.name xs vs) f.default e w _ _ _ (λ v u. filled_opens fs xs vs class
      (slots ++ v ∷ []) pl e u)

  method_opens : (f : ℕ) (o : Val) (vs : List Val) (e : Env) (w : World) →
      SameOrStuck (method_called p k f o vs false e w) (method_called p k f o vs true e w)
  method_opens f o vs e w = there_opens (method_found p k (class_of o w.state) f) w _ _ (λ g. d.calls g (Some o) vs e w)

  pub apply_opens : (f : Form) (vs : List Val) (e : Env) (w : World) →
      SameOrStuck (apply p k f vs false e w) (apply p k f vs true e w)
  apply_opens (form.computing o t pl) (a ∷ b ∷ []) e w = same
  apply_opens (form.comparing o) (a ∷ b ∷ []) e w = same
  apply_opens (form.negating pl) (a ∷ []) e w = same
  apply_opens form.querying (a ∷ []) e w = same
  apply_opens (form.reading slot) (a ∷ []) e w = same
  apply_opens form.measuring (a ∷ []) e w = same
  apply_opens (form.making_tuple pl) vs e w = same
  apply_opens (form.making_array pl) vs e w = same
  apply_opens (form.making_map pl) vs e w = same
  apply_opens (form.joining xs pl) vs e w = same
  apply_opens (form.picking i) (a ∷ []) e w = same
  apply_opens form.indexing (a ∷ []) e w = same
  apply_opens form.indexing (a ∷ b ∷ vs) e w = same
  apply_opens (form.calling f) vs e w = d.calls f None vs e w
  apply_opens (form.calling_own f) vs e w = known_opens (this_of e) w _ _ (λ o. method_opens f o vs e w)
  apply_opens (form.calling_method f) (o ∷ vs) e w = method_opens f o vs e w
  apply_opens (form.printing pl) (a ∷ []) e w = same
  apply_opens (form.flooring pl) (a ∷ b ∷ []) e w = same
  apply_opens (form.ceiling pl) (a ∷ b ∷ []) e w = same
  apply_opens form.taking_modulo (a ∷ b ∷ []) e w = same
  apply_opens (form.awaiting t) (a ∷ vs) e w = outside_opens w _
  apply_opens form.signalling (o ∷ vs) e w = outside_opens w _
  apply_opens (form.spawning f) vs e w = outside_opens w _
  apply_opens (form.spawning_own f) vs e w = outside_opens w _
  apply_opens (form.spawning_method f) (o ∷ vs) e w = outside_opens w _
  apply_opens (form.storing b mode pl) vs e w = same
  apply_opens (form.instancing class xs pl) vs e w = filled_opens (fields_of p class) xs vs class [] pl e w
  apply_opens form.defining (a ∷ []) e w = same
  apply_opens (form.varying pl) (a ∷ []) e w = same
  apply_opens form.returning (a ∷ []) e w = same
  apply_opens (form.appending so_far pl) (a ∷ []) e w = same
  apply_opens f vs e w = same

  pub defined_opens : (b : Binder) (e : Env) (v : Val) (w : World) (go go' : Env → Val → World → Outcome) →
      ((e : Env) (v : Val) (u : World) → SameOrStuck (go e v u) (go' e v u)) →
      SameOrStuck (defined p k b e v w go) (defined p k b e v w go')
  unfolding defined
  defined_opens no_name e v w go go' f = f e v w
  defined_opens (a_constant x) e v w go go' f = f _ v w
  defined_opens (a_variable x pl) e v w go go' f = valued_opens (λ r. r) _ _ same (λ c u. f _ v u)
