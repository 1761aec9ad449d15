-- An index of a value: each index is noted as one of the keys' sort, where a map is indexed.
use Rattle.std.proofs.Common.{◌≡◌, ℕ, suc, length, List, [], ◌∷◌, Option, Some, ◌⊎◌, inl, inr, true, refl, sym, ◌∙◌}
use Rattle.std.proofs.Common.{subst, ap}
use Rattle.verse_code.specs.declared.codes.Code.{Code}
use Rattle.verse_code.specs.declared.operations.Op.TheVariants as o
use Rattle.verse_names_tables.specs.Names.{Table}
use Rattle.verse_sorts.specs.Sorts as s
use Rattle.verse_sorts.specs.Sorts.{Sort, IsKnown, Fits, from_never}
use Rattle.verse_sorts.specs.Typing.{AllFit, fit_so}
use Rattle.verse_sorts.proofs.Fitting.{fits_itself}
use Rattle.verse_meaning.specs.Programs.{Program}
use Rattle.verse_meaning.specs.Residuals as form
use Rattle.verse_sound_rules.specs.Found as rules
use Rattle.verse_sound_rules.specs.Found.{Allowed}
use Rattle.verse_sound_rules.specs.Forms as takes
use Rattle.verse_sound_rules.specs.Forms.{Takes, Gives}
use Rattle.verse_verify_kept.specs.Notes.{Notes, parent_of}
use Rattle.verse_verify_kept.specs.Rules as r
use Rattle.verse_verify_kept.specs.Rules.{Asked, AnyNever, first_never, later_never}
use Rattle.lower_code.specs.Pieces as c
use Rattle.lower_code.specs.Pieces.{Spot, Maker}
use Rattle.lower_code.specs.declared.arounds.Around.{Around}
use Rattle.lower_code.specs.Arounds.{up}
use Rattle.lower_code.specs.Scopes.{Scope}
use Rattle.lower_code.specs.Applied as apply
use Rattle.lower_notes.specs.States.{State}
use Rattle.lower_notes.specs.Stretches as n
use Rattle.lower_notes.specs.Stretches.{Walk, with_value}
use Rattle.lower_notes.specs.Applied as walks
use Rattle.lower_notes.specs.Noting.{index_in}
use Rattle.lower_notes.specs.Laws.{Beside}
use Rattle.lower_notes.proofs.Counted.{code_then, walk_then}
use Rattle.lower_pass_states.proofs.Points.{pt, over}
use Rattle.lower_pass_states.proofs.Meeting.{Meets}
use Rattle.lower_pass_states.proofs.Steps as step
use Rattle.lower_pass_states.proofs.Steps.{turned, turned_on, turned_length, never_over}
use Rattle.lower_pass_stretches.proofs.Going.{Way, If, itself, Going, Steady, then_goes}
use Rattle.lower_pass_stretches.proofs.Single.{IsValue}
use Rattle.lower_pass_stretches.proofs.Inside.{Inside, steady_of}
use Rattle.lower_pass_forms.proofs.Finishing.{IsOver, over_itself, last_goes, drops_go}
use Rattle.lower_pass_forms.proofs.Applied.{noted_found}
use Rattle.verse_sound_rules.specs.Fine.{Reaches, reaches_element, reaches_value, reaches_nothing}
use Rattle.lower_pass_values.proofs.Operands.{AreKnown, key_known, no_operand_goes, operand_goes, value_lands}

-- the sorts of indices, as they are noted
abbrev pub noted_indices : Sort → List Sort → List Sort
noted_indices q [] = []
noted_indices q (i ∷ is) = index_in q i ∷ noted_indices q is

pub noted_many : (q : Sort) (is : List Sort) → length (noted_indices q is) ≡ length is
noted_many q [] = refl
noted_many q (i ∷ is) = ap suc (noted_many q is)

pub never_is : {up : ℕ → Option ℕ} {a : Sort} → Fits up a s.never → a ≡ s.never
never_is from_never = refl

module _ (p : Program) (found : rules.Found) (code : Code) (notes : Notes) where
  abbrev F : rules.Found
  F = noted_found notes found

  abbrev Fit : Sort → Sort → Type 0
  Fit = Fits (parent_of notes)

  -- each index fits what it is noted as, of which something is known
  abbrev pub IndicesFit : Sort → List Sort → Type 0
  IndicesFit q [] = Unit {0}
  IndicesFit q (i ∷ is) = Fit i (index_in q i) × IsKnown (index_in q i) × IndicesFit q is

  never_fit : (is : List Sort) → AreKnown is → IndicesFit s.never is
  never_fit [] known = tt
  never_fit (i ∷ is) known = (fits_itself (parent_of notes) i, known.0, never_fit is known.1)

  pub indices_fit : {q d : Sort} {is : List Sort} → Reaches p F q is d → AreKnown is → IndicesFit q is
  indices_fit (reaches_element {i = i} f) known = (fits_itself (parent_of notes) i, known.0, tt)
  indices_fit (reaches_value key f) known = (f, key_known key, tt)
  indices_fit (reaches_nothing {is = is}) known = never_fit is known

  pub noted_known : (q : Sort) (is : List Sort) → IndicesFit q is → AreKnown (noted_indices q is)
  noted_known q [] fit = tt
  noted_known q (i ∷ is) fit = (fit.1, noted_known q is fit.2)

  -- as they are noted they lead on
  nowhere : (is : List Sort) → r.Path code notes s.never (noted_indices s.never is) s.never
  nowhere [] = r.path_no
  nowhere (i ∷ is) = r.path_so r.in_never (nowhere is)

  pub noted_path : {q d : Sort} {is : List Sort} → Reaches p F q is d → r.Path code notes q (noted_indices q is) d
  noted_path (reaches_element f) = r.path_so (r.in_list f) r.path_no
  noted_path (reaches_value {k = k} key f) = r.path_so (r.in_map key (fits_itself (parent_of notes) k)) r.path_no
  noted_path (reaches_nothing {is = is}) = nowhere is

  module _ (w : Way) (ts : List ℕ) (al : Allowed) (xs : Table) (sc : Scope) (a : Around) (x : Option State) where
    abbrev Here : Around → State → Type 0
    Here a y = Inside code notes F w ts al xs sc a y

    abbrev Form : Sort → Maker → Walk → Type 0
    Form q f g = Going code notes w ts x f g (with_value q x) (λ z. Unit {0})

    -- what is indexed gives no value, or a failure is taken
    index_told : {q d : Sort} {is taken : List Sort} → AllFit (parent_of notes) (q ∷ is) taken →
        Takes p F al xs form.indexing taken d → (q ≡ s.never) ⊎ (al.fails ≡ true)
    index_told (fit_so f h) (takes.takes_never takes.spared_index) = inl (never_is f)
    index_told h (takes.takes_index e i) = inr e

    module _ (here : If x (Here a)) where
      steady : If x (Steady code notes ts)
      steady y e = steady_of code notes (here y e)

      abbrev Ends : Option State → Sort → ℕ → Type 0
      Ends v q m = Going code notes w ts v (apply.indexing m) (walks.indexing m) (with_value q x) (λ z. Unit {0})

      -- of what gives no value
      nothing_ends : {v : Option State} (q : Sort) (is : List Sort) →
          If v (IsOver code notes (turned (noted_indices s.never is) (s.never ∷ [])) x) → Ends v q (length is)
      nothing_ends {v} q [] above = value_lands F code notes w ts al xs sc x s.never q from_never
          (no_operand_goes F code notes w ts al xs sc x (s.never ∷ []) above)
      nothing_ends {v} q (i ∷ is) above =
          let tops = turned (noted_indices s.never is) [] in
          let many : length tops ≡ length is = turned_length (noted_indices s.never is) ∙ noted_many s.never is in
          subst (λ m. Going code notes w ts v (apply.dropping m (c.one o.At)) (walks.dropping m n.last) (with_value q x)
          (λ z. Unit {0})) many (drops_go code notes steady tops (i ∷ s.never ∷ [])
          (λ z k. subst (λ qs. IsOver code notes qs x z) (sym (turned_on (noted_indices s.never is) [] (i ∷ s.never ∷ []))) (above z k))
          (λ u k. last_goes code notes (c.one o.At) (λ s. o.At) (λ s. refl) (i ∷ s.never ∷ []) steady k q (λ y e z m.
          never_over code notes y (here y e).even (i ∷ s.never ∷ []) (later_never first_never))))

      -- one index
      one_ends : {v : Option State} (q qo i d : Sort) → r.Indexed code notes qo i d → Fit d q → (qo ≡ s.never) ⊎ (al.fails ≡ true) →
          If v (IsOver code notes (i ∷ qo ∷ []) x) → Ends v q 1
      one_ends q qo i d indexed f fails above = last_goes code notes (c.one o.At) (λ s. o.At) (λ s. refl) (i ∷ qo ∷ []) steady above q
          (λ y e z m. by y e z m fails)
        where
          by : (y : State) → x ≡ Some y → (z : Spot) → Meets code notes (over (q ∷ []) y) (suc z.at) →
              (qo ≡ s.never) ⊎ (al.fails ≡ true) → Asked code notes z.at (pt (over (i ∷ qo ∷ []) y)) o.At
          by y e z m (inl none) = never_over code notes y (here y e).even (i ∷ qo ∷ [])
              (later_never (subst (λ b. AnyNever (b ∷ (pt y).stack)) (sym none) first_never))
          by y e z m (inr so) = step.at_asked code notes y (here y e).even m ((here y e).fails so) indexed f

      index_ends : {v : Option State} {q d qo : Sort} {is : List Sort} → Reaches p F qo is d → Fit d q → (qo ≡ s.never) ⊎
          (al.fails ≡ true) → If v (IsOver code notes (turned (noted_indices qo is) (qo ∷ [])) x) → Ends v q (length is)
      index_ends {q} (reaches_element {q = d} {i = i} f) fit fails above = one_ends q (s.list d) i d (r.in_list f) fit fails above
      index_ends {q} (reaches_value {k = k} {q = d} key f) fit fails above =
          one_ends q (s.map k d) k d (r.in_map key (fits_itself (parent_of notes) k)) fit fails above
      index_ends {q} (reaches_nothing {is = is}) fit fails above = nothing_ends q is above

      -- a value with its indices
      pub index_goes : {f h : Maker} {g j : Walk} (qo q : Sort) → IsKnown qo → (is : List Sort) (m : ℕ) → m ≡ length is →
          Reaches p F qo is q → Gives p F al xs form.indexing (qo ∷ is) q → Beside f g → Beside h j →
          Going code notes w ts x f g itself (IsValue code notes qo x) →
          ((u : Option State) → If u (Here (up a)) → If u (IsOver code notes (qo ∷ []) x) →
          Going code notes w ts u h j itself (IsOver code notes (turned (noted_indices qo is) (qo ∷ [])) x)) →
          Form q (code_then f (code_then h (apply.finish form.indexing m true)))
          (walk_then g (walk_then j (walks.finish form.indexing m true)))
      index_goes qo q known is m many reach e b1 b2 first run =
          operand_goes F code notes w ts al xs sc x a [] here (over_itself code notes) qo known b1 first (λ u i k.
          then_goes code notes b2 (run u i k) (λ v l. subst (λ m. Going code notes w ts v (apply.indexing m) (walks.indexing m)
          (with_value q x) (λ z. Unit {0})) (sym many)
          (index_ends reach (fits_itself (parent_of notes) q) (index_told e.operands e.takes) l)))
