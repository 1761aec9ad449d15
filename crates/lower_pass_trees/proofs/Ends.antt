-- What ends a call, an index or a spawned call, by what its callee stands for.
use Rattle.std.proofs.Common.{◌≡◌, ℕ, length, List, [], ◌∷◌, Option, Some, None, Bool, true, sym, ◌∙◌, subst}
use Rattle.std.proofs.lemmas.Option.{same_Some}
use Rattle.verse_tree.specs.Tree.{Trees, no_trees, more_trees}
use Rattle.verse_code.specs.declared.codes.Code.{Code}
use Rattle.verse_names_tables.specs.Names.{Table}
use Rattle.verse_sorts.specs.Sorts.{Sort, Fits}
use Rattle.verse_meaning.specs.Programs.{Program}
use Rattle.verse_meaning.specs.Residuals as form
use Rattle.verse_meaning.specs.Residuals.{Form}
use Rattle.verse_meaning.specs.Evaluating.{Callee, alone, of_object, of_value, of_quotient, no_callee, picked, literal_of}
use Rattle.verse_sound_rules.specs.Found as rules
use Rattle.verse_sound_rules.specs.Found.{Allowed}
use Rattle.verse_sound_rules.specs.Forms as takes
use Rattle.verse_sound_rules.specs.Forms.{Gives, Takes}
use Rattle.verse_sound_rules.specs.Fine.{on_callee}
use Rattle.verse_sound_rules.specs.Programs.{FineFound}
use Rattle.verse_sorts.specs.Typing.{AllFit, fit_no, fit_so}
use Rattle.verse_verify_kept.specs.Notes.{Notes}
use Rattle.lower_code.specs.Pieces.{Maker}
use Rattle.lower_code.specs.declared.arounds.Around.{Around}
use Rattle.lower_code.specs.Scopes.{Scope}
use Rattle.lower_code.specs.Applied as apply
use Rattle.lower_code.specs.Lowering as lower
use Rattle.lower_notes.specs.States.{State}
use Rattle.lower_notes.specs.Stretches.{Walk, with_value}
use Rattle.lower_notes.specs.Applied as walks
use Rattle.lower_notes.specs.Noting as noting
use Rattle.lower_notes.specs.Laws.{Beside}
use Rattle.lower_notes.proofs.Counted.{code_then, walk_then}
use Rattle.lower_sound.proofs.Counts.{IsAlone, IsOfObject, IsOfQuotient, IsCallee}
use Rattle.lower_pass_states.proofs.Steps.{turned}
use Rattle.lower_pass_stretches.proofs.Going.{Way, If, itself, Going}
use Rattle.lower_pass_stretches.proofs.Inside.{Inside}
use Rattle.lower_pass_forms.proofs.Applied.{noted_found}
use Rattle.lower_pass_forms.proofs.Calls.{Declared}
use Rattle.lower_pass_forms.proofs.Finishing.{IsOver}
use Rattle.lower_pass_forms.proofs.Operators.{floor_ends, ceiling_ends}
use Rattle.lower_pass_values.proofs.Members.{item_ends}
use Rattle.lower_pass_forms.proofs.Callees.{call_goes, print_goes, modulo_goes, spawn_goes, own_call_goes, own_spawn_goes}
use Rattle.lower_pass_forms.proofs.Callees.{method_ends, await_ends, signal_ends, spawn_method_ends}

-- by what a callee stands for
pub by_kind : {code : Code} {notes : Notes} {w : Way} {ts : List ℕ} {x : Option State} {k : Option State → Option State}
    {Q : State → Type 0} (whole : Form) (callee : Callee) {by_none by_object by_value by_quotient : Form → Type 0}
    (on_none on_object on_value on_quotient : Form → Maker) (walk_none walk_object walk_value walk_quotient : Form → Walk) →
    IsCallee whole callee → on_callee callee by_none by_object by_value by_quotient →
    ((f : Form) → IsAlone f → by_none f → Going code notes w ts x (on_none f) (walk_none f) k Q) →
    ((f : Form) → IsOfObject f → by_object f → Going code notes w ts x (on_object f) (walk_object f) k Q) →
    ((f : Form) → f ≡ whole → by_value f → Going code notes w ts x (on_value f) (walk_value f) k Q) →
    ((f : Form) → IsOfQuotient f → by_quotient f → Going code notes w ts x (on_quotient f) (walk_quotient f) k Q) →
    Going code notes w ts x (lower.by_callee callee on_none on_object on_value on_quotient)
    (noting.by_callee callee walk_none walk_object walk_value walk_quotient) k Q
unfolding lower.by_callee noting.by_callee
by_kind whole (alone f) g0 g1 g2 g3 w0 w1 w2 w3 i h a b d e = a f i h
by_kind whole (of_object f) g0 g1 g2 g3 w0 w1 w2 w3 i h a b d e = b f i h
by_kind whole (of_value f) g0 g1 g2 g3 w0 w1 w2 w3 i h a b d e = d f i h
by_kind whole (of_quotient f) g0 g1 g2 g3 w0 w1 w2 w3 i h a b d e = e f i h
by_kind whole no_callee g0 g1 g2 g3 w0 w1 w2 w3 i h a b d e = elim h [ ]

-- what is returned fits the result
pub returning_fits : (p : Program) (f : rules.Found) (al : Allowed) (xs : Table) {qa q r : Sort} →
    Gives p f al xs form.returning (qa ∷ []) q → al.result ≡ Some r → Fits f.up qa r
returning_fits p f al xs {qa} {q} {r} g is = by_taking g.operands g.takes
  where
    by_taking : {taken : List Sort} {given : Sort} → AllFit f.up (qa ∷ []) taken → Takes p f al xs form.returning taken given →
        Fits f.up qa r
    by_taking (fit_so h fit_no) (takes.takes_result e) = subst (Fits f.up qa) (same_Some _ r (sym e ∙ is)) h
    by_taking h (takes.takes_never k) = elim k [ ]

module _ (p : Program) (found : rules.Found) (differ : ℕ → ℕ → Bool) (code : Code) (notes : Notes)
    (declared : Declared p found code notes) (fine : FineFound p (noted_found notes found)) (w : Way) (ts : List ℕ)
    (al : Allowed) (xs : Table) (sc : Scope) (a : Around) (x : Option State)
    (here : If x (Inside code notes (noted_found notes found) w ts al xs sc a)) where
  abbrev F : rules.Found
  F = noted_found notes found

  -- what has a name of its own
  pub alone_goes : (q : Sort) (m : ℕ) (has : List Sort) (many : m ≡ length has) {g : Maker} {h : Walk} (beside : Beside g h) (f : Form) →
      IsAlone f → ((u : Option State) (qs : List Sort) → If u (Inside code notes F w ts al xs sc (apply.started f a)) →
      If u (IsOver code notes qs x) → Going code notes w ts u g h itself (IsOver code notes (turned has qs) x)) →
      Gives p F al xs f has q →
      Going code notes w ts x (code_then (apply.start f sc) (code_then g (apply.finish f m (lower.form_fits p differ f m sc))))
      (walk_then (walks.start f sc) (walk_then h (walks.finish f m (lower.form_fits p differ f m sc)))) (with_value q x) (λ z. Unit {0})
  alone_goes q m has many beside (form.calling k) i run e =
      call_goes p found differ code notes declared fine w ts al xs sc a x here q m has many beside k run e
  alone_goes q m has many beside (form.calling_own k) i run e =
      own_call_goes p found differ code notes declared fine w ts al xs sc a x here q m has many beside k run e
  alone_goes q m has many beside (form.printing pl) i run e =
      print_goes p found differ code notes declared fine w ts al xs sc a x here q m has many beside pl run e
  alone_goes q m has many beside form.taking_modulo i run e =
      modulo_goes p found differ code notes declared fine w ts al xs sc a x here q m has many beside run e
  alone_goes q m has many beside (form.spawning k) i run e =
      spawn_goes p found differ code notes declared fine w ts al xs sc a x here q m has many beside k run e
  alone_goes q m has many beside (form.spawning_own k) i run e =
      own_spawn_goes p found differ code notes declared fine w ts al xs sc a x here q m has many beside k run e
  alone_goes q m has many beside f i run e = elim i [ ]

  -- a member of an object is called, awaited or signalled
  pub object_ends : (q : Sort) (m : ℕ) (has : List Sort) (many : m ≡ length has) {g : Maker} {h : Walk} (beside : Beside g h) (qo : Sort)
      {v : Option State} → If v (IsOver code notes (turned has (qo ∷ [])) x) → (f : Form) → IsOfObject f → Gives p F al xs f (qo ∷ has) q →
      Going code notes w ts v (apply.finish f m true) (walks.finish f m true) (with_value q x) (λ z. Unit {0})
  object_ends q m has many beside qo above (form.calling_method k) i e =
      method_ends p found differ code notes declared fine w ts al xs sc a x here q m has many beside qo above k e
  object_ends q m has many beside qo above (form.awaiting t) i e =
      await_ends p found differ code notes declared fine w ts al xs sc a x here q m has many beside qo above t e
  object_ends q m has many beside qo above form.signalling i e =
      signal_ends p found differ code notes declared fine w ts al xs sc a x here q m has many beside qo above e
  object_ends q m has many beside qo above (form.spawning_method k) i e =
      spawn_method_ends p found differ code notes declared fine w ts al xs sc a x here q m has many beside qo above k e
  object_ends q m has many beside qo above f i e = elim i [ ]

  -- an item of a tuple
  pub pick_ends : {u : Option State} (qa q : Sort) → If u (IsOver code notes (qa ∷ []) x) → (f : Form) (rest : Trees) → f ≡ picked rest →
      Gives p F al xs f (qa ∷ []) q →
      Going code notes w ts u (apply.finish f 0 true) (walks.finish f 0 true) (with_value q x) (λ z. Unit {0})
  pick_ends {u} qa q above f rest same e = subst
      (λ f. Gives p F al xs f (qa ∷ []) q → Going code notes w ts u (apply.finish f 0 true) (walks.finish f 0 true) (with_value q x)
      (λ z. Unit {0})) (sym same) (by_picked rest) e
    where
      by_picked : (rest : Trees) → Gives p F al xs (picked rest) (qa ∷ []) q →
          Going code notes w ts u (apply.finish (picked rest) 0 true) (walks.finish (picked rest) 0 true) (with_value q x) (λ z. Unit {0})
      by_picked no_trees e = item_ends p found differ code notes declared fine w ts al xs sc a x here qa q above None e
      by_picked (more_trees b no_trees) e = item_ends p found differ code notes declared fine w ts al xs sc a x here qa q above
          (literal_of b) e
      by_picked (more_trees b (more_trees d rest)) e =
          item_ends p found differ code notes declared fine w ts al xs sc a x here qa q above None e

  -- Floor and Ceil
  pub quotient_ends : {u : Option State} (qa qb q : Sort) → If u (IsOver code notes (qb ∷ qa ∷ []) x) → (f : Form) → IsOfQuotient f →
      Gives p F al xs f (qa ∷ qb ∷ []) q →
      Going code notes w ts u (apply.finish f 2 true) (walks.finish f 2 true) (with_value q x) (λ z. Unit {0})
  quotient_ends qa qb q above (form.flooring pl) i e =
      floor_ends p found differ code notes declared fine w ts al xs sc a x here qa qb q above pl e
  quotient_ends qa qb q above (form.ceiling pl) i e =
      ceiling_ends p found differ code notes declared fine w ts al xs sc a x here qa qb q above pl e
  quotient_ends qa qb q above f i e = elim i [ ]
