-- What is done with the parts of a form: operands, calls and indices.
use Rattle.std.proofs.Common.{◌≡◌, ℕ, List, [], ◌∷◌, Bool, true, Option, refl, sym}
use Rattle.std.proofs.Common.{subst}
use Rattle.verse_tree.specs.Tree as t
use Rattle.verse_tree.specs.Tree.{Tree, tree, Trees}
use Rattle.verse_code.specs.declared.codes.Code.{Code}
use Rattle.verse_code.specs.declared.operations.Op.TheVariants as o
use Rattle.verse_names_tables.specs.Names.{Table}
use Rattle.verse_sorts.specs.Sorts as s
use Rattle.verse_sorts.specs.Sorts.{Sort, IsKnown}
use Rattle.verse_sorts.proofs.Fitting.{fits_itself}
use Rattle.verse_meaning.specs.Programs.{Program}
use Rattle.verse_meaning.specs.Residuals as form
use Rattle.verse_meaning.specs.Residuals.{Form, a_constant, a_variable}
use Rattle.verse_meaning.specs.Evaluating.{number_of}
use Rattle.verse_sound_rules.specs.Found as rules
use Rattle.verse_sound_rules.specs.Found.{Allowed}
use Rattle.verse_sound_rules.specs.Forms.{Gives}
use Rattle.verse_sound_rules.specs.Fine.{Reaches}
use Rattle.verse_sound_rules.specs.Fine.{sorts_at, object_sort}
use Rattle.verse_sound_rules.specs.Programs.{FineFound}
use Rattle.verse_verify_kept.specs.Notes.{Notes, parent_of}
use Rattle.lower_code.specs.Pieces as c
use Rattle.lower_code.specs.Pieces.{Maker}
use Rattle.lower_code.specs.declared.arounds.Around.{Around}
use Rattle.lower_code.specs.Arounds.{up}
use Rattle.lower_code.specs.Applied.{started}
use Rattle.lower_code.specs.Applied as apply
use Rattle.lower_code.specs.Scopes.{Scope}
use Rattle.lower_code.specs.Lowering as lower
use Rattle.lower_code.specs.Lowering.{how_many, scope_stated, scope_behind, around_stated, any_defer, form_fits, with_binder}
use Rattle.lower_code.specs.Lowering.{target_operands}
use Rattle.lower_code.specs.Lowering.{is_text, one_if, arm_spots}
use Rattle.lower_sound.proofs.Counts.{IsAlone, IsOfObject, sorts_many}
use Rattle.lower_notes.specs.States.{State, gives}
use Rattle.lower_notes.specs.Stretches as n
use Rattle.lower_notes.specs.Stretches.{Walk, with_value}
use Rattle.lower_notes.specs.Noting as noting
use Rattle.lower_notes.specs.Noting.{key_in, index_in}
use Rattle.lower_notes.specs.Applied as walks
use Rattle.lower_notes.proofs.Counted.{code_then, walk_then}
use Rattle.lower_notes.proofs.Forms as beside
use Rattle.lower_pass_states.proofs.Points.{gives_is}
use Rattle.lower_pass_states.proofs.Steps as step
use Rattle.lower_pass_states.proofs.Steps.{turned}
use Rattle.lower_pass_stretches.proofs.Going.{Way, If, itself, Going, then_goes}
use Rattle.lower_pass_stretches.proofs.Single.{IsValue}
use Rattle.lower_pass_stretches.proofs.Inside.{Inside, steady_of}
use Rattle.lower_pass_forms.proofs.Applied.{noted_found}
use Rattle.lower_pass_forms.proofs.Calls.{Declared}
use Rattle.lower_pass_forms.proofs.Finishing.{IsOver, over_itself, step_goes}
use Rattle.lower_pass_forms.proofs.Operators.{one_then, two_then}
use Rattle.lower_pass_values.proofs.Operands.{value_over, value_here}
use Rattle.lower_pass_values.proofs.Indices.{noted_indices, index_goes}
use Rattle.lower_pass_trees.proofs.Ends as ends
use Rattle.lower_pass_trees.proofs.Ends.{by_kind, object_ends, pick_ends, quotient_ends, returning_fits}

module _ (p : Program) (found : rules.Found) (differ : ℕ → ℕ → Bool) (code : Code) (notes : Notes)
    (declared : Declared p found code notes) (fine : FineFound p (noted_found notes found)) where
  abbrev F : rules.Found
  F = noted_found notes found

  abbrev pub Here : Way → List ℕ → Allowed → Table → Scope → Around → Option State → Type 0
  Here w ts al xs sc z x = If x (Inside code notes F w ts al xs sc z)

  abbrev pub Value : Way → List ℕ → Option State → Maker → Walk → Sort → Type 0
  Value w ts x f g q = Going code notes w ts x f g itself (IsValue code notes q x)

  -- the rest of a form, from another state
  abbrev pub FormOf : Way → List ℕ → Option State → Option State → Maker → Walk → Sort → Type 0
  FormOf w ts x e f g q = Going code notes w ts e f g (with_value q x) (λ v. Unit {0})

  abbrev pub FormGoes : Way → List ℕ → Option State → Maker → Walk → Sort → Type 0
  FormGoes w ts x f g q = Going code notes w ts x f g (with_value q x) (λ v. Unit {0})

  object_known : (b : Tree) → IsKnown (object_sort p F b)
  object_known (tree n pl (t.Shape.member b y)) = fine.known.sort (number_of b)
  object_known (tree n pl y) = tt

  module _ (w : Way) (ts : List ℕ) (al : Allowed) (xs : Table) (sc : Scope) (z : Around) (x : Option State)
      (here : Here w ts al xs sc z x) where
    -- what is shown of a part
    abbrev pub PartGoes : Tree → Around → Option State → Type 0
    PartGoes b a e = Value w ts e (lower.piece p differ b sc a) (noting.walk p found differ b sc a) (found.sort (number_of b))

    pub one_operand : (b : Tree) → PartGoes b z x → (q : Sort) {f : Maker} {g : Walk} →
        ((e : Option State) → If e (IsOver code notes (found.sort (number_of b) ∷ []) x) → FormOf w ts x e f g q) →
        FormGoes w ts x (code_then (lower.piece p differ b sc z) f) (walk_then (noting.walk p found differ b sc z) g) q
    one_operand b first q rest = one_then p found differ code notes declared fine w ts al xs sc z x here
        (found.sort (number_of b)) q (beside.trees p found differ b sc z) first rest

    pub two_operands : (b d : Tree) → PartGoes b z x → ((e : Option State) → Here w ts al xs sc (up z) e → PartGoes d (up z) e) →
        (q : Sort) {f : Maker} {g : Walk} →
        ((e : Option State) → If e (IsOver code notes (found.sort (number_of d) ∷ found.sort (number_of b) ∷ []) x) →
        FormOf w ts x e f g q) → FormGoes w ts x (code_then (lower.piece p differ b sc z) (code_then (lower.piece p differ d sc (up z)) f))
        (walk_then (noting.walk p found differ b sc z) (walk_then (noting.walk p found differ d sc (up z)) g)) q
    two_operands b d first second q rest = two_then p found differ code notes declared fine w ts al xs sc z x here
        (found.sort (number_of b)) (found.sort (number_of d)) q (fine.known.sort (number_of b)) (beside.trees p found differ b sc z)
        (beside.trees p found differ d sc (up z)) first second rest

    -- what is shown of operands in turn
    abbrev pub ArgsGo : Trees → Around → Type 0
    ArgsGo bs a = (e : Option State) (qs : List Sort) → Here w ts al xs sc a e → If e (IsOver code notes qs x) →
        Going code notes w ts e (lower.args p differ bs sc a) (noting.args p found differ bs sc a) itself
        (IsOver code notes (turned (sorts_at p F bs) qs) x)

    pub named_call : (bs : Trees) (n : ℕ) (f : Form) → IsAlone f → ArgsGo bs (started f z) →
        Gives p F al xs f (sorts_at p F bs) (found.sort n) →
        FormGoes w ts x (code_then (apply.start f sc)
        (code_then (lower.args p differ bs sc (started f z)) (apply.finish f (how_many bs) (form_fits p differ f (how_many bs) sc))))
        (walk_then (walks.start f sc) (walk_then (noting.args p found differ bs sc (started f z))
        (walks.finish f (how_many bs) (form_fits p differ f (how_many bs) sc)))) (found.sort n)
    named_call bs n f i run k = ends.alone_goes p found differ code notes declared fine w ts al xs sc z x here
        (found.sort n) (how_many bs) (sorts_at p F bs) (sym (sorts_many p F bs)) (beside.operands p found differ bs sc (started f z)) f i
        run k

    pub member_call : (b : Tree) (bs : Trees) (n : ℕ) (f : Form) → IsOfObject f →
        Value w ts x (lower.inner p differ b sc z) (noting.inner p found differ b sc z) (object_sort p F b) → ArgsGo bs (up z) →
        Gives p F al xs f (object_sort p F b ∷ sorts_at p F bs) (found.sort n) →
        FormGoes w ts x (code_then (lower.inner p differ b sc z) (code_then (lower.args p differ bs sc (up z))
        (apply.finish f (how_many bs) true))) (walk_then (noting.inner p found differ b sc z) (walk_then
        (noting.args p found differ bs sc (up z)) (walks.finish f (how_many bs) true))) (found.sort n)
    member_call b bs n f i object run g =
        let qo = object_sort p F b in
        then_goes code notes (beside.inners p found differ b sc z) object (λ e j.
        then_goes code notes (beside.operands p found differ bs sc (up z))
        (run e (qo ∷ []) (value_here F code notes w ts al xs sc x qo z (object_known b) here j)
        (value_over F code notes w ts al xs sc x qo [] (over_itself code notes) j))
        (λ d above. object_ends p found differ code notes declared fine w ts al xs sc z x here (found.sort n) (how_many bs)
        (sorts_at p F bs) (sym (sorts_many p F bs)) (beside.operands p found differ bs sc (up z)) qo above f i g))

    -- an index of a value
    pub index_passes : (b : Tree) (bs : Trees) (n : ℕ) (f : Form) → f ≡ form.indexing → PartGoes b z x →
        (r : Reaches p F (found.sort (number_of b)) (sorts_at p F bs) (found.sort n)) →
        ((e : Option State) (qs : List Sort) → Here w ts al xs sc (up z) e → If e (IsOver code notes qs x) →
        Going code notes w ts e (lower.args p differ bs sc (up z)) (noting.indices p found differ (found.sort (number_of b)) bs sc (up z))
        itself (IsOver code notes (turned (noted_indices (found.sort (number_of b)) (sorts_at p F bs)) qs) x)) →
        Gives p F al xs f (found.sort (number_of b) ∷ sorts_at p F bs) (found.sort n) →
        FormGoes w ts x (code_then (lower.piece p differ b sc z) (code_then (lower.args p differ bs sc (up z))
        (apply.finish f (how_many bs) true))) (walk_then (noting.walk p found differ b sc z) (walk_then
        (noting.indices p found differ (found.sort (number_of b)) bs sc (up z)) (walks.finish f (how_many bs) true))) (found.sort n)
    index_passes b bs n f i first r run k =
        let q = found.sort (number_of b) in
        subst (λ f. Gives p F al xs f (q ∷ sorts_at p F bs) (found.sort n) → FormGoes w ts x (code_then (lower.piece p differ b sc z)
        (code_then (lower.args p differ bs sc (up z)) (apply.finish f (how_many bs) true)))
        (walk_then (noting.walk p found differ b sc z) (walk_then (noting.indices p found differ q bs sc (up z))
        (walks.finish f (how_many bs) true))) (found.sort n)) (sym i)
        (λ k. index_goes p found code notes w ts al xs sc z x here q (found.sort n) (fine.known.sort (number_of b))
        (sorts_at p F bs) (how_many bs)
        (sym (sorts_many p F bs)) r k (beside.trees p found differ b sc z) (beside.indices p found differ q bs sc (up z))
        first (λ e j above. run e (q ∷ []) j above)) k

    pub unit_passes : Value w ts x (c.one o.Unit) (n.one (gives 0 s.unit)) s.unit
    unit_passes = step_goes code notes (c.one o.Unit) (λ s. o.Unit) (λ s. refl) []
        (λ y e. steady_of code notes (here y e)) (over_itself code notes) (s.unit ∷ []) (gives 0 s.unit) (λ y e. gives_is s.unit y)
        (λ y e k m. step.unit_asked code notes y (here y e).even m (fits_itself (parent_of notes) s.unit))
