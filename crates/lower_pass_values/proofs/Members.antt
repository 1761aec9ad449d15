-- Members of objects, values of enums, and items of tuples.
use Rattle.std.proofs.Common.{◌≡◌, ℕ, List, [], ◌∷◌, Option, Some, None, Bool, true, false, cond, refl, sym, subst}
use Rattle.verse_tree.specs.Tree.{Bytes}
use Rattle.verse_tree.specs.declared.tables.Ref.{Ref}
use Rattle.verse_tree.specs.declared.tables.Ref.TheVariants as ref
use Rattle.verse_value.specs.Val.{Val}
use Rattle.verse_code.specs.declared.codes.Code.{Code}
use Rattle.verse_code.specs.declared.operations.Op.TheVariants as o
use Rattle.verse_names_tables.specs.Names.{Table}
use Rattle.verse_sorts.specs.Sorts as s
use Rattle.verse_sorts.specs.Sorts.{Sort, Fits, from_never}
use Rattle.verse_sorts.specs.Typing.{AllFit, fit_no, fit_so}
use Rattle.verse_sorts.proofs.Fitting.{fits_itself, fits_on}
use Rattle.verse_sorts_values.specs.Operands.{never_here, never_behind}
use Rattle.verse_meaning.specs.Programs.{Program, same_name}
use Rattle.verse_meaning.specs.Residuals as form
use Rattle.verse_meaning.specs.Residuals.{Form}
use Rattle.verse_meaning.specs.Evaluating.{member_form, length_name}
use Rattle.verse_sound_rules.specs.Found as rules
use Rattle.verse_sound_rules.specs.Found.{Allowed}
use Rattle.verse_sound_rules.specs.Forms as takes
use Rattle.verse_sound_rules.specs.Forms.{Takes, Gives}
use Rattle.verse_sound_rules.specs.Fine.{IsEnumValue, is_enum_value, on_member}
use Rattle.verse_sound_rules.specs.Programs.{FineFound}
use Rattle.verse_verify_kept.specs.Notes.{Notes, parent_of}
use Rattle.verse_verify_kept.specs.Rules.{Asked, AnyNever, first_never}
use Rattle.lower_code.specs.Pieces as c
use Rattle.lower_code.specs.Pieces.{Maker}
use Rattle.lower_code.specs.declared.arounds.Around.{Around}
use Rattle.lower_code.specs.Scopes.{Scope}
use Rattle.lower_code.specs.Applied as apply
use Rattle.lower_code.specs.Lowering as lower
use Rattle.lower_notes.specs.States.{State, gives}
use Rattle.lower_notes.specs.Stretches.{Walk, with_value}
use Rattle.lower_notes.specs.Applied as walks
use Rattle.lower_notes.specs.Noting as noting
use Rattle.lower_pass_states.proofs.Points.{pt, over, gives_is}
use Rattle.lower_pass_states.proofs.Steps as step
use Rattle.lower_pass_states.proofs.Steps.{never_over}
use Rattle.lower_pass_stretches.proofs.Going.{Way, If, Going, Steady}
use Rattle.lower_pass_stretches.proofs.Inside.{Inside, steady_of}
use Rattle.lower_pass_forms.proofs.Finishing.{IsOver, over_itself, last_goes, step_goes}
use Rattle.lower_pass_forms.proofs.Applied as applied
use Rattle.lower_pass_forms.proofs.Applied.{noted_found}
use Rattle.lower_pass_forms.proofs.Calls.{Declared}
use Rattle.lower_pass_forms.proofs.Operators.{reading_ends, length_ends}
use Rattle.lower_pass_values.proofs.Operands.{no_operand_goes, value_lands}
use Rattle.lower_pass_values.proofs.Indices.{never_is}

module _ (p : Program) (found : rules.Found) (differ : ℕ → ℕ → Bool) (code : Code) (notes : Notes)
    (declared : Declared p found code notes) (fine : FineFound p (noted_found notes found)) (w : Way) (ts : List ℕ)
    (al : Allowed) (xs : Table) (sc : Scope) (a : Around) (x : Option State) where
  abbrev F : rules.Found
  F = noted_found notes found

  abbrev Fit : Sort → Sort → Type 0
  Fit = Fits (parent_of notes)

  abbrev Shown : Sort → Maker → Walk → Type 0
  Shown q f g = Going code notes w ts x f g (with_value q x) (λ z. Unit {0})

  module _ (here : If x (Inside code notes F w ts al xs sc a)) where
    steady : If x (Steady code notes ts)
    steady y e = steady_of code notes (here y e)

    -- ---- values of enums

    pub enum_goes : (q : Sort) (v : Val) → IsEnumValue p F q v → Shown q (lower.enum_op v) (noting.enum_walk v)
    enum_goes q v (is_enum_value {e} {i} f) = value_lands F code notes w ts al xs sc x (s.enum e) q f
        (step_goes code notes (c.one (o.Enum e i)) (λ s. o.Enum e i) (λ s. refl) [] steady (over_itself code notes) (s.enum e ∷ [])
        (gives 0 (s.enum e)) (λ y k. gives_is (s.enum e) y)
        (λ y k z m. step.enum_asked code notes y (here y k).even m e i (fits_itself (parent_of notes) (s.enum e))))

    -- a member is a value of an enum, or of an object
    pub member_goes : {f : Maker} {g : Walk} {A : Type 0} (q : Sort) (v : Option Val) → on_member v (λ v. IsEnumValue p F q v) A →
        (A → Shown q f g) → Shown q (lower.membered p differ v f) (noting.membered v g)
    unfolding lower.membered noting.membered
    member_goes q (Some v) h k = enum_goes q v h
    member_goes q None h k = k h

    -- ---- members of objects, above their object

    module _ {u : Option State} (qa q : Sort) (above : If u (IsOver code notes (qa ∷ []) x)) where
      abbrev Ends : Form → ℕ → Type 0
      Ends f m = Going code notes w ts u (apply.finish f m true) (walks.finish f m true) (with_value q x) (λ z. Unit {0})

      one_fits : {taken : List Sort} {g : Sort} → AllFit (parent_of notes) (qa ∷ []) taken → Takes p F al xs form.defining taken g →
          Fit g q → Fit qa q
      one_fits (fit_so f h) takes.takes_defined g = fits_on (parent_of notes) f g
      one_fits (fit_so f fit_no) (takes.takes_never (takes.spared_member never_here)) g =
          subst (λ b. Fit b q) (sym (never_is f)) from_never
      one_fits (fit_so f fit_no) (takes.takes_never (takes.spared_member (never_behind n))) g = elim n [ ]

      -- what has no member is its own value
      pub same_ends : Gives p F al xs form.defining (qa ∷ []) q → Ends form.defining 1
      same_ends e = value_lands F code notes w ts al xs sc x qa q (one_fits e.operands e.takes e.value)
          (no_operand_goes F code notes w ts al xs sc x (qa ∷ []) above)

      by_length : (b : Bool) → Gives p F al xs (cond b form.measuring form.defining) (qa ∷ []) q →
          Ends (cond b form.measuring form.defining) 1
      by_length true e = length_ends p found differ code notes declared fine w ts al xs sc a x here qa q above e
      by_length false e = same_ends e

      pub member_ends : (r : Option Ref) (y : Bytes) → Gives p F al xs (member_form r y) (qa ∷ []) q → Ends (member_form r y) 1
      member_ends (Some (ref.Field d k)) y e = reading_ends p found differ code notes declared fine w ts al xs sc a x here qa q above k e
      member_ends r y e = by_length (same_name y length_name) e

      -- ---- items of tuples

      pub item_ends : (i : Option ℕ) → Gives p F al xs (form.picking i) (qa ∷ []) q → Ends (form.picking i) 0
      item_ends (Some k) e = last_goes code notes (c.one (o.Item k)) (λ s. o.Item k) (λ s. refl) (qa ∷ []) steady above q
          (λ y i z m. applied.item_passes p found code notes al xs y (here y i).even m k e.operands e.takes e.value)
      item_ends None e = last_goes code notes (c.one (o.Item 0)) (λ s. o.Item 0) (λ s. refl) (qa ∷ []) steady above q
          (λ y i z m. by_never e.operands e.takes y i)
        where
          by_never : {taken : List Sort} {g : Sort} → AllFit (parent_of notes) (qa ∷ []) taken →
              Takes p F al xs (form.picking None) taken g → (y : State) → x ≡ Some y → {i : ℕ} →
              Asked code notes i (pt (over (qa ∷ []) y)) (o.Item 0)
          by_never (fit_so f h) (takes.takes_never takes.spared_item) y e =
              never_over code notes y (here y e).even (qa ∷ []) (subst (λ b. AnyNever (b ∷ (pt y).stack)) (sym (never_is f)) first_never)
