-- Texts with holes: a piece of text where it is no empty one, and the value of each hole.
use Rattle.std.proofs.Common.{◌≡◌, ℕ, suc, length, List, [], ◌∷◌, Option, refl, sym, ◌∙◌, subst, ap}
use Rattle.verse_base.specs.declared.places.Place.{Place}
use Rattle.verse_tree.specs.Tree.{Bytes, Holes, no_holes, more_holes}
use Rattle.verse_code.specs.declared.codes.Code.{Code}
use Rattle.verse_code.specs.declared.operations.Op.TheVariants as o
use Rattle.verse_names_tables.specs.Names.{Table}
use Rattle.verse_sorts.specs.Sorts as s
use Rattle.verse_sorts.specs.Sorts.{Sort, IsKnown, Fits}
use Rattle.verse_sorts.specs.Typing.{AllFit}
use Rattle.verse_sorts.proofs.Fitting.{fits_itself}
use Rattle.verse_meaning.specs.Programs.{Program}
use Rattle.verse_meaning.specs.Residuals as form
use Rattle.verse_sound_rules.specs.Found as rules
use Rattle.verse_sound_rules.specs.Found.{Allowed}
use Rattle.verse_sound_rules.specs.Forms as takes
use Rattle.verse_sound_rules.specs.Forms.{Takes, Gives}
use Rattle.verse_sound_rules.specs.Fine.{sort_at, hole_sorts}
use Rattle.verse_verify_kept.specs.Notes.{Notes, parent_of}
use Rattle.verse_verify_kept.specs.Rules as r
use Rattle.lower_code.specs.Pieces as c
use Rattle.lower_code.specs.Pieces.{Maker}
use Rattle.lower_code.specs.declared.arounds.Around.{Around}
use Rattle.lower_code.specs.Arounds.{up, raised}
use Rattle.lower_code.specs.Scopes.{Scope}
use Rattle.lower_code.specs.Lowering as lower
use Rattle.lower_code.specs.Lowering.{is_text, one_if, joined_parts}
use Rattle.lower_notes.specs.States.{State, gives}
use Rattle.lower_notes.specs.Stretches as n
use Rattle.lower_notes.specs.Stretches.{Walk, with_value}
use Rattle.lower_notes.specs.Noting as noting
use Rattle.lower_notes.specs.Laws.{Beside}
use Rattle.lower_notes.proofs.Counted.{code_then, walk_then}
use Rattle.lower_notes.proofs.Others.{texts}
use Rattle.lower_pass_states.proofs.Points.{over, gives_is}
use Rattle.lower_pass_states.proofs.Steps as step
use Rattle.lower_pass_states.proofs.Steps.{turned}
use Rattle.lower_pass_states.proofs.Operands.{all_shown}
use Rattle.lower_pass_stretches.proofs.Going.{Way, If, itself, Going, then_goes}
use Rattle.lower_pass_stretches.proofs.Single.{IsValue}
use Rattle.lower_pass_stretches.proofs.Inside.{Inside, steady_of}
use Rattle.lower_pass_forms.proofs.Finishing.{IsOver, over_itself, last_goes, step_goes}
use Rattle.lower_pass_forms.proofs.Applied.{noted_found}
use Rattle.lower_pass_values.proofs.Operands.{no_operand_goes, operand_goes, inside_raised}

-- the sort of a text
abbrev text : Sort
text = s.list s.char

-- a piece of text on the stack, and one before what is pushed
abbrev pub with_text : Bytes → List Sort → List Sort
with_text [] qs = qs
with_text (b ∷ bs) qs = s.list s.char ∷ qs

pub text_turned : (bs : Bytes) (more qs : List Sort) → turned more (with_text bs qs) ≡ turned (with_text bs more) qs
text_turned [] more qs = refl
text_turned (b ∷ bs) more qs = refl

module _ (p : Program) (found : rules.Found) where
  -- the sorts of the holes, with the texts behind them
  abbrev pub noted_holes : Holes → List Sort
  noted_holes no_holes = []
  noted_holes (more_holes b bs hs) = sort_at p found b ∷ with_text bs (noted_holes hs)

  text_many : (bs : Bytes) (qs : List Sort) (m : ℕ) → m ≡ length qs → one_if (is_text bs) m ≡ length (with_text bs qs)
  text_many [] qs m e = e
  text_many (b ∷ bs) qs m e = ap suc e

  pub parts_many : (hs : Holes) → joined_parts hs ≡ length (noted_holes hs)
  parts_many no_holes = refl
  parts_many (more_holes b bs hs) = ap suc (text_many bs (noted_holes hs) (joined_parts hs) (parts_many hs))

  pub texts_many : (bs : Bytes) (hs : Holes) → one_if (is_text bs) (joined_parts hs) ≡ length (with_text bs (noted_holes hs))
  texts_many bs hs = text_many bs (noted_holes hs) (joined_parts hs) (parts_many hs)

module _ (p : Program) (found : rules.Found) (code : Code) (notes : Notes) (w : Way) (ts : List ℕ) (al : Allowed) (xs : Table)
    (sc : Scope) (x : Option State) where
  abbrev F : rules.Found
  F = noted_found notes found

  abbrev Fit : Sort → Sort → Type 0
  Fit = Fits (parent_of notes)

  abbrev Here : Around → State → Type 0
  Here a y = Inside code notes F w ts al xs sc a y

  -- ---- texts

  -- a piece of text is pushed, where it is no empty one
  pub text_if_goes : {u : Option State} (bs : Bytes) (a : Around) → If u (Here a) →
      Going code notes w ts u (lower.text_if bs) (noting.text_if bs) itself (IsOver code notes (with_text bs []) u)
  text_if_goes {u} [] a here =
      let h = no_operand_goes F code notes w ts al xs sc u {u = u} [] (over_itself code notes) in
      record { leaves = h.leaves; exits = h.exits; goes = h.goes }
  text_if_goes {u} (b ∷ bs) a here =
      let h = step_goes code notes {w = w} {ts = ts} {x = u} {u = u} (c.texted (b ∷ bs)) (λ s. o.Text s.text) (λ s. refl) []
      (λ y e. steady_of code notes (here y e)) (over_itself code notes) (text ∷ []) (gives 0 text) (λ y e. gives_is text y)
      (λ y e s m. step.text_asked code notes y (here y e).even m s.text (fits_itself (parent_of notes) text)) in
      record { leaves = h.leaves; exits = h.exits; goes = h.goes }

  pub text_here : {u v : Option State} (bs : Bytes) (a : Around) → If u (Here a) → If v (IsOver code notes (with_text bs []) u) →
      If v (Here (raised (one_if (is_text bs) 0) a))
  text_here [] a here i z e = let k = i z e in subst (Here a) (sym k.1.1) (here k.0 k.1.0)
  text_here (b ∷ bs) a here i z e = let k = i z e in
      subst (Here (up a)) (sym k.1.1) (inside_raised F code notes w ts al xs sc x (text ∷ []) (tt, tt) a k.0 (here k.0 k.1.0))

  text_over : (bs : Bytes) (qs : List Sort) (y : State) → over (with_text bs []) (over qs y) ≡ over (with_text bs qs) y
  text_over [] qs y = refl
  text_over (b ∷ bs) qs y = refl

  pub text_above : {u v : Option State} (bs : Bytes) (qs : List Sort) → If u (IsOver code notes qs x) →
      If v (IsOver code notes (with_text bs []) u) → If v (IsOver code notes (with_text bs qs) x)
  text_above bs qs above i z e = let k = i z e in let t = above k.0 k.1.0 in
      (t.0, (t.1.0, k.1.1 ∙ ap (over (with_text bs [])) t.1.1 ∙ text_over bs qs t.0))

  -- with what stands behind it
  pub text_goes : {u : Option State} {h : Maker} {j : Walk} {k : Option State → Option State} {Q : State → Type 0} (bs : Bytes)
      (a : Around) (qs : List Sort) → If u (Here a) → If u (IsOver code notes qs x) →
      ((v : Option State) → If v (Here (raised (one_if (is_text bs) 0) a)) → If v (IsOver code notes (with_text bs qs) x) →
      Going code notes w ts v h j k Q) →
      Going code notes w ts u (code_then (lower.text_if bs) h) (walk_then (noting.text_if bs) j) k Q
  text_goes bs a qs here above rest = then_goes code notes (texts bs) (text_if_goes bs a here) (λ v i.
      rest v (text_here bs a here i) (text_above bs qs above i))

  -- ---- a hole

  pub hole_goes : {u : Option State} {f h : Maker} {g j : Walk} (q : Sort) → IsKnown q → (bs : Bytes) (more : List Sort)
      (a : Around) (qs : List Sort) → If u (Here a) → If u (IsOver code notes qs x) → Beside f g →
      Going code notes w ts u f g itself (IsValue code notes q u) →
      ((v : Option State) → If v (Here (raised (suc (one_if (is_text bs) 0)) a)) → If v (IsOver code notes (with_text bs (q ∷ qs)) x) →
      Going code notes w ts v h j itself (IsOver code notes (turned more (with_text bs (q ∷ qs))) x)) →
      Going code notes w ts u (code_then f (code_then (lower.text_if bs) h)) (walk_then g (walk_then (noting.text_if bs) j)) itself
      (IsOver code notes (turned (q ∷ with_text bs more) qs) x)
  hole_goes {h = h} {j = j} q known bs more a qs here above beside first rest =
      operand_goes F code notes w ts al xs sc x a qs here above q known beside first (λ v i e.
      text_goes bs (up a) (q ∷ qs) i e (λ z k l.
      subst (λ os. Going code notes w ts z h j itself (IsOver code notes os x)) (text_turned bs more (q ∷ qs)) (rest z k l)))

  -- ---- the whole text

  -- what is noted has a text
  shown_text : (bs : Bytes) {qs : List Sort} → r.Shown code notes qs → r.Shown code notes (with_text bs qs)
  shown_text [] h = h
  shown_text (b ∷ bs) h = r.shown_text (fits_itself (parent_of notes) text) h

  shown_holes : (hs : Holes) → r.Shown code notes (hole_sorts p F hs) → r.Shown code notes (noted_holes p F hs)
  shown_holes no_holes h = h
  shown_holes (more_holes b bs hs) (r.shown_int f h) = r.shown_int f (shown_text bs (shown_holes hs h))
  shown_holes (more_holes b bs hs) (r.shown_char f h) = r.shown_char f (shown_text bs (shown_holes hs h))
  shown_holes (more_holes b bs hs) (r.shown_text f h) = r.shown_text f (shown_text bs (shown_holes hs h))

  record Told (has : List Sort) (q : Sort) : Type 0 where
    shown : r.Shown code notes has
    fits : Fit text q

  holes_told : {ys : List Bytes} {pl : Place} {has taken : List Sort} {g q : Sort} → AllFit (parent_of notes) has taken →
      Takes p F al xs (form.joining ys pl) taken g → Fit g q → Told has q
  holes_told h (takes.takes_texts k) f = record { shown = all_shown code notes h k; fits = f }
  holes_told h (takes.takes_never k) f = elim k [ ]

  module _ (a : Around) (here : If x (Here a)) where
    pub holes_goes : {f : Maker} {g : Walk} (q : Sort) (pl place : Place) (ys : List Bytes) (bs : Bytes) (hs : Holes) → Beside f g →
        Gives p F al xs (form.joining ys pl) (hole_sorts p F hs) q →
        ((v : Option State) → If v (Here (raised (one_if (is_text bs) 0) a)) → If v (IsOver code notes (with_text bs []) x) →
        Going code notes w ts v f g itself (IsOver code notes (turned (noted_holes p F hs) (with_text bs [])) x)) →
        Going code notes w ts x
        (code_then (lower.text_if bs) (code_then f (c.placed place (o.Join (one_if (is_text bs) (joined_parts hs))))))
        (walk_then (noting.text_if bs) (walk_then g n.last)) (with_value q x) (λ z. Unit {0})
    holes_goes q pl place ys bs hs beside e run =
        let told = holes_told e.operands e.takes e.value in
        let noted = with_text bs (noted_holes p F hs) in
        text_goes bs a [] here (over_itself code notes) (λ v i k. then_goes code notes beside (run v i k) (λ u l.
        last_goes code notes (c.placed place (o.Join (one_if (is_text bs) (joined_parts hs))))
        (λ s. o.Join (one_if (is_text bs) (joined_parts hs)) s.place) (λ s. refl) (turned noted [])
        (λ y d. steady_of code notes (here y d))
        (λ z d. subst (λ os. IsOver code notes os x z) (text_turned bs (noted_holes p F hs) []) (l z d)) q
        (λ y d s m. step.join_asked code notes y (here y d).even m (one_if (is_text bs) (joined_parts hs)) s.place noted
        (texts_many p F bs hs) (shown_text bs (shown_holes hs told.shown)) told.fits)))
