-- A definition as an expression: its name is visible nowhere.
use Rattle.std.proofs.Common.{◌≡◌, ℕ, ◌≤◌, ◌<◌, length, List, [], ◌∷◌, Option, Some, None, refl, sym, ◌∙◌, subst, ap, arith}
use Rattle.std.specs.Prelude.{option_map}
use Rattle.std.proofs.lemmas.Option.{same_Some, none-some}
use Rattle.verse_base.specs.declared.places.Place.{Place}
use Rattle.verse_tree.specs.Tree.{Bytes}
use Rattle.verse_code.specs.declared.codes.Code.{Code}
use Rattle.verse_names_tables.specs.Names.{Table}
use Rattle.verse_sorts.specs.Sorts as s
use Rattle.verse_sorts.specs.Sorts.{Sort, IsKnown, Fits, from_never}
use Rattle.verse_sorts.specs.Typing.{at, AllFit, fit_no, fit_so}
use Rattle.verse_sorts.proofs.Fitting.{fits_itself, fits_on}
use Rattle.verse_sorts_values.specs.Operands.{never_here, never_behind}
use Rattle.verse_meaning.specs.Programs.{Program}
use Rattle.verse_meaning.specs.Residuals as form
use Rattle.verse_meaning.specs.Residuals.{a_constant, a_variable}
use Rattle.verse_sound_rules.specs.Found as rules
use Rattle.verse_sound_rules.specs.Found.{Allowed}
use Rattle.verse_sound_rules.specs.Forms as takes
use Rattle.verse_sound_rules.specs.Forms.{Gives, Takes}
use Rattle.verse_verify_kept.specs.Notes.{Notes, parent_of}
use Rattle.lower_code.specs.Pieces.{Maker}
use Rattle.lower_code.specs.declared.arounds.Around.{Around}
use Rattle.lower_code.specs.Scopes.{Scope, hidden}
use Rattle.lower_code.specs.Lowering as lower
use Rattle.lower_notes.specs.States.{State, with_local}
use Rattle.lower_notes.specs.Stretches.{Walk, with_value}
use Rattle.lower_notes.specs.Applied as walks
use Rattle.lower_notes.specs.Laws.{Beside}
use Rattle.lower_notes.proofs.Counted.{code_then, walk_then}
use Rattle.lower_pass_states.proofs.Points.{over}
use Rattle.lower_pass_states.proofs.Locals.{is_at}
use Rattle.lower_pass_stretches.proofs.Names.{Sees}
use Rattle.lower_pass_stretches.proofs.Going.{Way, If, itself, Going, Steady, then_goes}
use Rattle.lower_pass_stretches.proofs.Single.{IsValue, lands_goes}
use Rattle.lower_pass_stretches.proofs.Inside.{Inside, steady_of}
use Rattle.lower_pass_contexts.proofs.After.{after_itself, after_bound}
use Rattle.lower_pass_forms.proofs.Finishing.{steady_over}
use Rattle.lower_pass_blocks.proofs.Binding.{bound, sees_more, inside_bound, IsAbove, constant_goes, variable_goes}
use Rattle.lower_pass_blocks.proofs.Stated.{weaker}
use Rattle.lower_pass_statements.proofs.Settled.{Settles, settled_lands}

-- ---- what a definition takes

module _ (p : Program) (f : rules.Found) (al : Allowed) (xs : Table) where
  -- the value of a definition's part fits what is found of it
  pub defining_fits : {qa q : Sort} → Gives p f al xs form.defining (qa ∷ []) q → Fits f.up qa q
  defining_fits {qa} {q} g = by_taking g.operands g.takes g.value
    where
      by_taking : {taken : List Sort} {given : Sort} → AllFit f.up (qa ∷ []) taken → Takes p f al xs form.defining taken given →
          Fits f.up given q → Fits f.up qa q
      by_taking (fit_so h fit_no) takes.takes_defined v = fits_on f.up h v
      by_taking (fit_so h fit_no) (takes.takes_never (takes.spared_member never_here)) v = fits_on f.up h from_never
      by_taking (fit_so h fit_no) (takes.takes_never (takes.spared_member (never_behind n))) v = elim n [ ]

  pub varying_fits : {qa q : Sort} {pl : Place} → Gives p f al xs (form.varying pl) (qa ∷ []) q → Fits f.up qa q
  varying_fits {qa} {q} {pl} g = by_taking g.operands g.takes g.value
    where
      by_taking : {taken : List Sort} {given : Sort} → AllFit f.up (qa ∷ []) taken → Takes p f al xs (form.varying pl) taken given →
          Fits f.up given q → Fits f.up qa q
      by_taking (fit_so h fit_no) takes.takes_varying v = fits_on f.up h v
      by_taking h (takes.takes_never k) v = elim k [ ]

module _ (found : rules.Found) (code : Code) (notes : Notes) (w : Way) (ts : List ℕ) (al : Allowed) (xs : Table) (sc : Scope) (a : Around)
    (x : Option State) (here : If x (Inside code notes found w ts al xs sc a)) where
  abbrev Fit : Sort → Sort → Type 0
  Fit = Fits (parent_of notes)

  abbrev l : ℕ
  l = length sc

  abbrev Shows : Sort → Type 0
  Shows r = l < w.size → If x (λ y. Sees found al.this xs (hidden ∷ sc) (with_local l r y.locals))

  above_settles : (r q : Sort) → (z : State) → IsAbove found code notes w ts al xs sc a x here r q z → Settles code notes ts q x z
  above_settles r q z k = from x here k.0 k.1.0 k.1.1.0 k.1.1.1
    where
      from : (x : Option State) (here : If x (Inside code notes found w ts al xs sc a)) → l < w.size → (v : State) →
          option_map (bound l r) x ≡ Some v → z ≡ over (q ∷ []) v → Settles code notes ts q x z
      from None here free v e f = absurd (none-some v e)
      from (Some y) here free v e f = record {
        before = y;
        is = refl;
        state = bound l r y;
        above = new;
        after = after_bound code notes (after_itself code notes y) l r (blank y (here y refl) free);
        steady = subst (Steady code notes ts) (sym new) (steady_over code notes (q ∷ []) (steady_of code notes
            (inside_bound found code notes w ts al xs sc a (Some y) here hidden xs r free
            (sees_more found code notes w ts al xs sc a (Some y) here r) (bound l r y) refl)));
      }
        where
          new : z ≡ over (q ∷ []) (bound l r y)
          new = f ∙ ap (over (q ∷ [])) (sym (same_Some (bound l r y) v e))

          within : (n m l : ℕ) → l < n → n ≤ m → l < m
          within n m l h k = omega (arith, h, k)

          same : (k : ℕ) → k ≤ k
          same k = omega arith

          blank : (y : State) → Inside code notes found w ts al xs sc a y → l < w.size → at y.locals l ≡ Some s.none
          blank y h free = let there = is_at y.locals l (within w.size (length y.locals) l free h.room) in
              there.1 ∙ ap Some (h.blank l there.0 (same l) there.1)

  module _ {f : Maker} {g : Walk} (n : Bytes) (qi q : Sort) (beside : Beside f g) (fit : Fit qi q)
      (inner : Going code notes w ts x f g itself (IsValue code notes qi x)) where
    lands : {k : Maker} {j : Walk} → Going code notes w ts x k j itself (Settles code notes ts q x) →
        Going code notes w ts x k j (with_value q x) (λ z. Unit {0})
    lands h = weaker' (lands_goes code notes q h (settled_lands code notes ts q q (fits_itself (parent_of notes) q)))
      where
        weaker' : {k : Maker} {j : Walk} → Going code notes w ts x k j (with_value q x) (Settles code notes ts q x) →
            Going code notes w ts x k j (with_value q x) (λ z. Unit {0})
        weaker' h = weaker found code notes w ts al h (λ z k. tt)

    pub constant_alone : IsKnown q →
        Going code notes w ts x (code_then f (lower.bind (a_constant n) l)) (walk_then g (walks.bind (a_constant n) l q)) (with_value q x)
        (λ z. Unit {0})
    constant_alone read =
        let sees : Shows q = λ free. sees_more found code notes w ts al xs sc a x here q in
        lands (then_goes code notes beside inner (λ z h. weaker found code notes w ts al
        (constant_goes found code notes w ts al xs sc a x here q hidden xs sees n qi read fit h) (above_settles q q)))

    pub variable_alone : (pl : Place) →
        Going code notes w ts x (code_then f (lower.bind (a_variable n pl) l)) (walk_then g (walks.bind (a_variable n pl) l q))
        (with_value q x) (λ z. Unit {0})
    variable_alone pl =
        let sees : Shows (s.var q) = λ free. sees_more found code notes w ts al xs sc a x here (s.var q) in
        lands (then_goes code notes beside inner (λ z h. weaker found code notes w ts al
        (variable_goes found code notes w ts al xs sc a x here (s.var q) hidden xs sees n pl qi q refl fit h) (above_settles (s.var q) q)))
