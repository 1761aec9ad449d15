-- Objects: what their slots hold, and their methods.
use Rattle.std.proofs.Common.{◌≡◌, ℕ, true, List, Some, refl, sym, subst}
use Rattle.std.specs.Prelude.{slice_get}
use Rattle.verse_value.specs.Val as v
use Rattle.verse_value.specs.Val.{Val}
use Rattle.verse_value.specs.declared.runs.CellKind.{CellKind}
use Rattle.verse_meaning_state.specs.State.{State}
use Rattle.verse_meaning_state.specs.Effects.{class_of, class_at, class_in, slot_read}
use Rattle.verse_sorts.specs.Sorts as s
use Rattle.verse_sorts.specs.Sorts.{Sort, Inherits}
use Rattle.verse_sorts.specs.Typing.{at, Typing, Is, is_object}
use Rattle.verse_sorts_values.specs.Answers.{Answers}
use Rattle.verse_sorts_values.specs.Cells.{CellIs, var_is, object_is, event_is}
use Rattle.verse_sorts_values.proofs.Cells.{cell_there, Cell_of, cell_of, Names, names, field_named, slotted, read}
use Rattle.verse_meaning.specs.Programs.{Program}
use Rattle.verse_meaning.specs.Outcomes.{World}
use Rattle.verse_sound_rules.specs.Found.{Found, Allowed}
use Rattle.verse_sound_rules.specs.Programs.{FineFound}
use Rattle.verse_sound_trees.specs.Outcomes.{Cells}
use Rattle.verse_sound_trees.specs.Going.{Level, Kept}
use Rattle.verse_sound_trees.proofs.Going.{Effected, still_told}

module _ (p : Program) (f : Found) (fine : FineFound p f) where
  -- an object of an heir of a class
  pub data Object_of (t : Typing) (c : ℕ) (st : State) (w : Val) : Type 0 where
    object_of : {d : ℕ} → class_of w st ≡ Some d → Inherits f.up d c → Is f.up t w (s.obj d) → Object_of t c st w

  object_kind : {t : Typing} {kd : CellKind} {us : List Val} {d : ℕ} {r : Sort} → CellIs f.up f.slots t kd us r → r ≡ s.obj d →
      class_in kd ≡ Some d
  object_kind (var_is i) e = cc
  object_kind {d = d} (object_is {class} i) e = same class d e
    where
      same : (a b : ℕ) → s.obj a ≡ s.obj b → Some a ≡ Some b
      same a b e = cc
  object_kind event_is e = cc

  pub object_there : (t : Typing) (c : ℕ) (w : World) (x : Val) → Is f.up t x (s.obj c) → Cells f t w → Object_of t c w.state x
  object_there t c w x (is_object {i} {c = d} h k) z = by (cell_there f.up f.slots i z h)
    where
      by : Cell_of f.up f.slots t (slice_get w.state.memory.store i) (s.obj d) → Object_of t c w.state (v.object i)
      by (cell_of {x = y} e j) =
          object_of (subst (λ m. class_at m ≡ Some d) (sym e) (object_kind j refl)) k (is_object h Rattle.verse_sorts.specs.Sorts.itself)

  -- a field, as it is found in the object
  pub field_there : (t : Typing) (c i : ℕ) (q : Sort) (w : World) (x : Val) → at (f.slots c) i ≡ Some q → Is f.up t x (s.obj c) →
      Cells f t w →
      Names f.up f.slots t w.state.memory.store i q x
  field_there t c i q w x h k z = field_named f.up f.slots (λ d g. fine.slots d c i q g h) z k

  pub slot_told : (l : Level) (a : Allowed) (E : Type 0) (t : Typing) (q : Sort) (i : ℕ) (w : World) (x : Val) → Kept p f l t w →
      Names f.up f.slots t w.state.memory.store i q x → Answers (a.fails ≡ true) E (Effected p f l t w q) (slot_read i x w.state)
  slot_told l a E t q i w x k (names {i = c} e j sets) = still_told p f l a k (read f.up f.slots w.state.memory.store i c (slotted e j))
