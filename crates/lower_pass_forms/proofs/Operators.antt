-- Literals, operators, names and what is made of operands in turn.
use Rattle.std.proofs.Common.{◌≡◌, ℕ, suc, length, List, [], ◌∷◌, Option, Some, Bool, true, false, refl, sym, ◌∙◌, subst, ap, ℤ}
use Rattle.verse_base.specs.declared.places.Place.{Place}
use Rattle.verse_tree.specs.Tree.{Bytes}
use Rattle.verse_tree.specs.declared.exprs.Comparison.{Comparison}
use Rattle.verse_tree.specs.declared.exprs.Operator.TheVariants as op
use Rattle.verse_tree.specs.declared.tables.Ref.{Ref}
use Rattle.verse_tree.specs.declared.tables.Ref.TheVariants as ref
use Rattle.verse_code.specs.declared.codes.Code.{Code}
use Rattle.verse_code.specs.declared.operations.Op.TheVariants as o
use Rattle.verse_names_tables.specs.Names.{Table}
use Rattle.verse_sorts.specs.Sorts as s
use Rattle.verse_sorts.specs.Sorts.{Sort, IsKnown, Fits}
use Rattle.verse_sorts.specs.Typing.{at}
use Rattle.verse_sorts.proofs.Fitting.{fits_itself}
use Rattle.verse_meaning.specs.Programs.{Program}
use Rattle.verse_meaning.specs.Residuals as form
use Rattle.verse_sound_rules.specs.Found as rules
use Rattle.verse_sound_rules.specs.Found.{Allowed}
use Rattle.verse_sound_rules.specs.Forms.{Gives, NameIs, is_local, is_key_name, is_field}
use Rattle.verse_sound_rules.specs.Programs.{FineFound}
use Rattle.verse_verify_kept.specs.Notes.{Notes, parent_of}
use Rattle.verse_verify_kept.specs.Rules.{slot_var}
use Rattle.lower_code.specs.Pieces as c
use Rattle.lower_code.specs.Pieces.{Maker}
use Rattle.lower_code.specs.declared.arounds.Around.{Around}
use Rattle.lower_code.specs.Arounds.{up}
use Rattle.lower_code.specs.Scopes.{Scope, Found, fixed, varies, absent, find, this_found, read_found, read_this, field_of_this}
use Rattle.lower_code.specs.Applied as apply
use Rattle.lower_code.specs.Lowering.{named}
use Rattle.lower_notes.specs.States.{State, gets, pops}
use Rattle.lower_notes.specs.Stretches as n
use Rattle.lower_notes.specs.Stretches.{Walk, with_value}
use Rattle.lower_notes.specs.Applied as walks
use Rattle.lower_notes.specs.Noting as noting
use Rattle.lower_notes.specs.Laws.{Beside}
use Rattle.lower_notes.proofs.Counted as counted
use Rattle.lower_notes.proofs.Counted.{code_then, walk_then}
use Rattle.lower_pass_states.proofs.Points.{over}
use Rattle.lower_pass_states.proofs.Locals.{local_is}
use Rattle.lower_pass_states.proofs.Steps as step
use Rattle.lower_pass_states.proofs.Steps.{turned}
use Rattle.lower_pass_stretches.proofs.Names.{Named, constant_named, variable_named, key_named, IsOwn, is_own}
use Rattle.lower_pass_stretches.proofs.Going.{Way, If, itself, Going, Steady, then_goes}
use Rattle.lower_pass_stretches.proofs.Single.{IsValue}
use Rattle.lower_pass_stretches.proofs.Inside.{Inside, steady_of, inside_up}
use Rattle.lower_pass_forms.proofs.Applied as applied
use Rattle.lower_pass_forms.proofs.Applied.{noted_found}
use Rattle.lower_pass_forms.proofs.Calls as calls
use Rattle.lower_pass_forms.proofs.Calls.{Declared}
use Rattle.lower_pass_forms.proofs.Finishing.{IsOver, last_goes, step_goes, end_goes, over_itself, drop_goes}

module _ (p : Program) (found : rules.Found) (differ : ℕ → ℕ → Bool) (code : Code) (notes : Notes)
    (declared : Declared p found code notes) (fine : FineFound p (noted_found notes found)) (w : Way) (ts : List ℕ)
    (al : Allowed) (xs : Table) (sc : Scope) (a : Around) (x : Option State) where
  abbrev F : rules.Found
  F = noted_found notes found

  abbrev Fit : Sort → Sort → Type 0
  Fit = Fits (parent_of notes)

  abbrev pub Here : Around → State → Type 0
  Here a y = Inside code notes F w ts al xs sc a y

  -- what is shown of a form with a value of a sort
  abbrev pub Form : Sort → Maker → Walk → Type 0
  Form q f g = Going code notes w ts x f g (with_value q x) (λ z. Unit {0})

  module _ (here : If x (Here a)) where
    steady : If x (Steady code notes ts)
    steady y e = steady_of code notes (here y e)

    pub value_up : {z : Option State} (q : Sort) → IsKnown q → If z (IsValue code notes q x) → If z (Here (up a))
    value_up q known i z e = let k = i z e in subst (Here (up a)) (sym k.1.1) (inside_up code notes q known (here k.0 k.1.0))

    -- ---- one and two operands

    pub one_then : {f h : Maker} {g j : Walk} (qa q : Sort) → Beside f g → Going code notes w ts x f g itself (IsValue code notes qa x) →
        ((u : Option State) → If u (IsOver code notes (qa ∷ []) x) → Going code notes w ts u h j (with_value q x) (λ z. Unit {0})) →
        Form q (code_then f h) (walk_then g j)
    one_then qa q beside first rest = then_goes code notes beside first rest

    pub two_then : {f k h : Maker} {g l j : Walk} (qa qb q : Sort) → IsKnown qa → Beside f g → Beside k l →
        Going code notes w ts x f g itself (IsValue code notes qa x) →
        ((z : Option State) → If z (Here (up a)) → Going code notes w ts z k l itself (IsValue code notes qb z)) →
        ((u : Option State) → If u (IsOver code notes (qb ∷ qa ∷ []) x) → Going code notes w ts u h j (with_value q x) (λ z. Unit {0})) →
        Form q (code_then f (code_then k h)) (walk_then g (walk_then l j))
    two_then qa qb q known b1 b2 first second rest = then_goes code notes b1 first (λ z i.
        then_goes code notes b2 (second z (value_up qa known i))
        (λ u k. rest u (λ v e. let r = k v e in let t = i r.0 r.1.0 in
        (t.0, (t.1.0, r.1.1 ∙ ap (over (qb ∷ [])) t.1.1)))))

    -- ---- literals

    pub integer_goes : (q : Sort) (z : ℤ) → Fit s.int q → Form q (c.one (o.Int z)) n.last
    integer_goes q z f = last_goes code notes (c.one (o.Int z)) (λ s. o.Int z) (λ s. refl) [] steady (over_itself code notes) q
        (λ y e s m. step.int_asked code notes y (here y e).even m z f)

    pub character_goes : (q : Sort) (z : ℕ) → Fit s.char q → Form q (c.one (o.Char z)) n.last
    character_goes q z f = last_goes code notes (c.one (o.Char z)) (λ s. o.Char z) (λ s. refl) [] steady (over_itself code notes) q
        (λ y e s m. step.char_asked code notes y (here y e).even m z f)

    pub text_goes : (q : Sort) (bs : Bytes) → Fit (s.list s.char) q → Form q (c.texted bs) n.last
    text_goes q bs f = last_goes code notes (c.texted bs) (λ s. o.Text s.text) (λ s. refl) [] steady (over_itself code notes) q
        (λ y e s m. step.text_asked code notes y (here y e).even m s.text f)

    pub truth_goes : (q : Sort) → Fit s.logic q → Form q (c.one o.True) n.last
    truth_goes q f = last_goes code notes (c.one o.True) (λ s. o.True) (λ s. refl) [] steady (over_itself code notes) q
        (λ y e s m. step.true_asked code notes y (here y e).even m f)

    pub falsehood_goes : (q : Sort) → Fit s.nil q → Form q (c.one o.False) n.last
    falsehood_goes q f = last_goes code notes (c.one o.False) (λ s. o.False) (λ s. refl) [] steady (over_itself code notes) q
        (λ y e s m. step.false_asked code notes y (here y e).even m f)

    pub event_goes : (q u : Sort) (pl : Place) → Fit (s.event u) q → Form q (c.placed pl o.Event) n.last
    event_goes q u pl f = last_goes code notes (c.placed pl o.Event) (λ s. o.Event s.place) (λ s. refl) [] steady (over_itself code notes) q
        (λ y e s m. step.event_asked code notes y (here y e).even m s.place u f)

    pub sleep_goes : (q : Sort) (d : ℕ) → al.waits ≡ true → Fit s.unit q → Form q (c.one (o.Sleep d)) n.last
    sleep_goes q d waits f = last_goes code notes (c.one (o.Sleep d)) (λ s. o.Sleep d) (λ s. refl) [] steady (over_itself code notes) q
        (λ y e s m. step.sleep_asked code notes y (here y e).even m ((here y e).waits waits) d f)

    pub forever_goes : (q : Sort) → al.waits ≡ true → Fit s.unit q → Form q (c.one o.Forever) n.last
    forever_goes q waits f = last_goes code notes (c.one o.Forever) (λ s. o.Forever) (λ s. refl) [] steady (over_itself code notes) q
        (λ y e s m. step.forever_asked code notes y (here y e).even m ((here y e).waits waits) f)

    -- ---- operators above their operands

    module _ {u : Option State} (qa qb q : Sort) (above : If u (IsOver code notes (qb ∷ qa ∷ []) x)) where
      abbrev Ends : Maker → Walk → Type 0
      Ends f g = Going code notes w ts u f g (with_value q x) (λ z. Unit {0})

      pub sum_ends : (t : Bool) (pl : Place) → Gives p F al xs (form.computing op.Add t pl) (qa ∷ qb ∷ []) q →
          Ends (apply.computing op.Add pl t) n.last
      sum_ends true pl e = last_goes code notes (c.placed pl o.Concat) (λ s. o.Concat s.place) (λ s. refl) (qb ∷ qa ∷ []) steady above q
          (λ y i s m. applied.lists_pass p found code notes al xs y (here y i).even m pl s.place e.operands e.takes e.value)
      sum_ends false pl e = last_goes code notes (c.placed pl o.Add) (λ s. o.Add s.place) (λ s. refl) (qb ∷ qa ∷ []) steady above q
          (λ y i s m. applied.sum_passes p found code notes al xs y (here y i).even m pl s.place e.operands e.takes e.value)

      pub difference_ends : (t : Bool) (pl : Place) → Gives p F al xs (form.computing op.Sub t pl) (qa ∷ qb ∷ []) q →
          Ends (c.placed pl o.Sub) n.last
      difference_ends t pl e = last_goes code notes (c.placed pl o.Sub) (λ s. o.Sub s.place) (λ s. refl) (qb ∷ qa ∷ []) steady above q
          (λ y i s m. applied.difference_passes p found code notes al xs y (here y i).even m t pl s.place e.operands e.takes e.value)

      pub product_ends : (t : Bool) (pl : Place) → Gives p F al xs (form.computing op.Mul t pl) (qa ∷ qb ∷ []) q →
          Ends (c.placed pl o.Mul) n.last
      product_ends t pl e = last_goes code notes (c.placed pl o.Mul) (λ s. o.Mul s.place) (λ s. refl) (qb ∷ qa ∷ []) steady above q
          (λ y i s m. applied.product_passes p found code notes al xs y (here y i).even m t pl s.place e.operands e.takes e.value)

      pub comparison_ends : (k : Comparison) → Gives p F al xs (form.comparing k) (qa ∷ qb ∷ []) q →
          Ends (c.one (apply.comparing k)) n.last
      comparison_ends k e = last_goes code notes (c.one (apply.comparing k)) (λ s. apply.comparing k) (λ s. refl) (qb ∷ qa ∷ []) steady
          above q (λ y i s m. let z = here y i in
          applied.comparison_passes p found code notes al xs y z.even m z.fails k e.operands e.takes e.value)

      pub floor_ends : (pl : Place) → Gives p F al xs (form.flooring pl) (qa ∷ qb ∷ []) q → Ends (c.placed pl o.Floor) n.last
      floor_ends pl e = last_goes code notes (c.placed pl o.Floor) (λ s. o.Floor s.place) (λ s. refl) (qb ∷ qa ∷ []) steady above q
          (λ y i s m. let z = here y i in
          applied.floor_passes p found code notes al xs y z.even m z.fails pl s.place e.operands e.takes e.value)

      pub ceiling_ends : (pl : Place) → Gives p F al xs (form.ceiling pl) (qa ∷ qb ∷ []) q → Ends (c.placed pl o.Ceil) n.last
      ceiling_ends pl e = last_goes code notes (c.placed pl o.Ceil) (λ s. o.Ceil s.place) (λ s. refl) (qb ∷ qa ∷ []) steady above q
          (λ y i s m. let z = here y i in
          applied.ceiling_passes p found code notes al xs y z.even m z.fails pl s.place e.operands e.takes e.value)

    module _ {u : Option State} (qa q : Sort) (above : If u (IsOver code notes (qa ∷ []) x)) where
      abbrev OneEnds : Maker → Walk → Type 0
      OneEnds f g = Going code notes w ts u f g (with_value q x) (λ z. Unit {0})

      pub minus_ends : (pl : Place) → Gives p F al xs (form.negating pl) (qa ∷ []) q → OneEnds (c.placed pl o.Neg) n.last
      minus_ends pl e = last_goes code notes (c.placed pl o.Neg) (λ s. o.Neg s.place) (λ s. refl) (qa ∷ []) steady above q
          (λ y i s m. applied.minus_passes p found code notes al xs y (here y i).even m pl s.place e.operands e.takes e.value)

      pub query_ends : Gives p F al xs form.querying (qa ∷ []) q → OneEnds (c.one o.Query) n.last
      query_ends e = last_goes code notes (c.one o.Query) (λ s. o.Query) (λ s. refl) (qa ∷ []) steady above q
          (λ y i s m. let z = here y i in
          applied.query_passes p found code notes al xs y z.even m z.fails e.operands e.takes e.value)

      pub reading_ends : (k : ℕ) → Gives p F al xs (form.reading k) (qa ∷ []) q → OneEnds (c.one (o.Load k)) n.last
      reading_ends k e = last_goes code notes (c.one (o.Load k)) (λ s. o.Load k) (λ s. refl) (qa ∷ []) steady above q
          (λ y i s m. calls.reading_passes p found code notes declared fine al xs y (here y i).even m k e.operands e.takes e.value)

      pub length_ends : Gives p F al xs form.measuring (qa ∷ []) q → OneEnds (c.one o.Length) n.last
      length_ends e = last_goes code notes (c.one o.Length) (λ s. o.Length) (λ s. refl) (qa ∷ []) steady above q
          (λ y i s m. applied.length_passes p found code notes al xs y (here y i).even m e.operands e.takes e.value)

    -- ---- names

    -- each sort that was found is known
    abbrev NamedBy : Ref → Found → Type 0
    NamedBy r f = If x (λ y. Named F (length sc) y.locals r f)

    get_goes : (q r : Sort) (l : ℕ) → IsKnown r → If x (λ y. at y.locals l ≡ Some r) → Fit r q → Form q (c.one (o.Get l)) n.last
    get_goes q r l read h f = last_goes code notes (c.one (o.Get l)) (λ s. o.Get l) (λ s. refl) [] steady (over_itself code notes) q
        (λ y e s m. step.get_asked code notes y (here y e).even m l (h y e) read f)

    push_goes : (r : Sort) (l : ℕ) → IsKnown r → If x (λ y. at y.locals l ≡ Some r) →
        Going code notes w ts x (c.one (o.Get l)) (n.one (gets l)) itself (IsOver code notes (r ∷ []) x)
    push_goes r l read h = step_goes code notes (c.one (o.Get l)) (λ s. o.Get l) (λ s. refl) [] steady (over_itself code notes) (r ∷ [])
        (gets l) (λ y k. ap (λ z. over (z ∷ []) y) (local_is y.locals l (h y k)))
        (λ y e s m. step.get_asked code notes y (here y e).even m l (h y e) read (fits_itself (parent_of notes) r))

    variable_goes : (q r : Sort) (l : ℕ) → If x (λ y. at y.locals l ≡ Some (s.var r)) → Fit r q →
        Form q (code_then (c.one (o.Get l)) (c.one (o.Load 0))) (walk_then (n.one (gets l)) n.last)
    variable_goes q r l h f = then_goes code notes counted.just (push_goes (s.var r) l tt h) (λ u i.
        last_goes code notes (c.one (o.Load 0)) (λ s. o.Load 0) (λ s. refl) (s.var r ∷ []) steady i q
        (λ y e s m. step.load_asked code notes y (here y e).even m 0 slot_var f))

    nothing_named : (q : Sort) → If x (λ y. ⊥) → Form q c.stuck n.ends
    nothing_named q h = end_goes code notes c.stuck (λ s. o.Arm (suc s.at)) (λ s. refl) [] steady (over_itself code notes)
        (λ y e s. elim (h y e) [ ])

    local_goes : (q : Sort) (m : ℕ) (f : Found) → NamedBy (ref.Local m) f → Fit (F.sort m) q → Form q (read_found f) (walks.read_found f)
    local_goes q m (fixed l) h g = get_goes q (F.sort m) l (fine.known.sort m) (λ y e. there y (h y e)) g
      where
        there : (y : State) → Named F (length sc) y.locals (ref.Local m) (fixed l) → at y.locals l ≡ Some (F.sort m)
        there y (constant_named v k e) = e
    local_goes q m (varies l) h g = variable_goes q (F.sort m) l (λ y e. there y (h y e)) g
      where
        there : (y : State) → Named F (length sc) y.locals (ref.Local m) (varies l) → at y.locals l ≡ Some (s.var (F.sort m))
        there y (variable_named v k e) = e
    local_goes q m absent h g = nothing_named q (λ y e. none y (h y e))
      where
        none : (y : State) → Named F (length sc) y.locals (ref.Local m) absent → ⊥
        none y h = elim h [ ]

    key_goes : (q : Sort) (m : ℕ) (f : Found) → NamedBy (ref.Key m) f → Fit (F.key m) q → Form q (read_found f) (walks.read_found f)
    key_goes q m (fixed l) h g = get_goes q (F.key m) l (fine.known.key m) (λ y e. there y (h y e)) g
      where
        there : (y : State) → Named F (length sc) y.locals (ref.Key m) (fixed l) → at y.locals l ≡ Some (F.key m)
        there y (key_named k e) = e
    key_goes q m (varies l) h g = then_goes code notes counted.just
        (step_goes code notes (c.one (o.Get l)) (λ s. o.Get l) (λ s. refl) [] steady (over_itself code notes) [] (gets l)
        (λ y e. elim (h y e) [ ]) (λ y e s m. elim (h y e) [ ]))
        (λ u i. last_goes code notes (c.one (o.Load 0)) (λ s. o.Load 0) (λ s. refl) [] steady i q (λ y e s m. elim (h y e) [ ]))
    key_goes q m absent h g = nothing_named q (λ y e. none y (h y e))
      where
        none : (y : State) → Named F (length sc) y.locals (ref.Key m) absent → ⊥
        none y h = elim h [ ]

    -- ---- the object of a method, and its fields

    own_there : (d l : ℕ) (y : State) → IsOwn F (length sc) y.locals d (fixed l) → at y.locals l ≡ Some (s.obj d)
    own_there d l y (is_own k e) = e

    pub own_field_goes : (q b : Sort) (d k : ℕ) → al.this ≡ Some d → at (F.slots d) k ≡ Some b → Fit b q →
        Form q (field_of_this (this_found sc) k) (walks.field_of_this (this_found sc))
    own_field_goes q b d k e i f = by_local (this_found sc) (λ y j. (here y j).sees.own d e)
      where
        no_variable : (l : ℕ) (y : State) → IsOwn F (length sc) y.locals d (varies l) → ⊥
        no_variable l y h = elim h [ ]

        none : (y : State) → IsOwn F (length sc) y.locals d absent → ⊥
        none y h = elim h [ ]

        by_local : (r : Found) → If x (λ y. IsOwn F (length sc) y.locals d r) → Form q (field_of_this r k) (walks.field_of_this r)
        by_local (fixed l) h = then_goes code notes counted.just (push_goes (s.obj d) l tt (λ y j. own_there d l y (h y j))) (λ u j.
            last_goes code notes (c.one (o.Load k)) (λ s. o.Load k) (λ s. refl) (s.obj d ∷ []) steady j q (λ y v t m.
            calls.field_passes p found code notes declared fine al xs y (here y v).even m k d (fits_itself (parent_of notes) (s.obj d)) i
            f))
        by_local (varies l) h = nothing_named q (λ y j. no_variable l y (h y j))
        by_local absent h = nothing_named q (λ y j. none y (h y j))

    pub this_goes : (q : Sort) (d : ℕ) → al.this ≡ Some d → Fit (s.obj d) q →
        Form q (read_this (this_found sc)) (walks.read_this (this_found sc))
    this_goes q d e f = by_local (this_found sc) (λ y j. (here y j).sees.own d e)
      where
        no_variable : (l : ℕ) (y : State) → IsOwn F (length sc) y.locals d (varies l) → ⊥
        no_variable l y h = elim h [ ]

        none : (y : State) → IsOwn F (length sc) y.locals d absent → ⊥
        none y h = elim h [ ]

        by_local : (r : Found) → If x (λ y. IsOwn F (length sc) y.locals d r) → Form q (read_this r) (walks.read_this r)
        by_local (fixed l) h = get_goes q (s.obj d) l tt (λ y j. own_there d l y (h y j)) f
        by_local (varies l) h = nothing_named q (λ y j. no_variable l y (h y j))
        by_local absent h = nothing_named q (λ y j. none y (h y j))

    -- a name
    pub name_goes : (q r : Sort) (n : Bytes) (k : Option Ref) → NameIs p F al xs n k r → Fit r q →
        Form q (named p differ k n sc) (noting.named k n sc)
    unfolding named noting.named
    name_goes q r n k (is_local {m = m} e) f = local_goes q m (find n sc) (λ y i. (here y i).sees.names n (ref.Local m) e) f
    name_goes q r n k (is_key_name {m = m} e) f = key_goes q m (find n sc) (λ y i. (here y i).sees.names n (ref.Key m) e) f
    name_goes q r n k (is_field {c = d} {i = j} g e i) f = own_field_goes q r g j e i f

    -- ---- what is made of operands in turn

    module _ (q : Sort) (m : ℕ) (has : List Sort) (many : m ≡ length has) {f : Maker} {g : Walk} (beside : Beside f g)
        (run : Going code notes w ts x f g itself (IsOver code notes (turned has []) x)) where
      pub tuple_goes : (pl : Place) → Gives p F al xs (form.making_tuple pl) has q →
          Form q (code_then f (c.placed pl (o.Tuple m))) (walk_then g n.last)
      tuple_goes pl e = then_goes code notes beside run (λ u i. last_goes code notes (c.placed pl (o.Tuple m)) (λ s. o.Tuple m s.place)
          (λ s. refl) (turned has []) steady i q (λ y j s t.
          applied.tuple_passes p found code notes al xs y (here y j).even t pl m s.place many e.operands e.takes e.value))

      pub array_goes : (pl : Place) → Gives p F al xs (form.making_array pl) has q →
          Form q (code_then f (c.placed pl (o.Array m))) (walk_then g n.last)
      array_goes pl e = then_goes code notes beside run (λ u i. last_goes code notes (c.placed pl (o.Array m)) (λ s. o.Array m s.place)
          (λ s. refl) (turned has []) steady i q (λ y j s t.
          applied.array_passes p found code notes al xs y (here y j).even t pl m s.place many e.operands e.takes e.value))

    -- the first value falls away
    pub and_goes : {f k : Maker} {g l : Walk} (qa q : Sort) → Beside f g → Going code notes w ts x f g itself (IsValue code notes qa x) →
        ((z : Option State) → If z (IsOver code notes [] x) → Going code notes w ts z k l (with_value q x) (λ v. Unit {0})) →
        Form q (code_then f (code_then (c.one o.Drop) k)) (walk_then g (walk_then (n.one (pops 1)) l))
    and_goes qa q beside first rest = then_goes code notes beside first (λ z i.
        then_goes code notes counted.just (drop_goes code notes steady qa [] i) (λ u j. rest u j))
