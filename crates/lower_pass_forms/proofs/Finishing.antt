-- The operations that end a form, above the operands of a state.
use Rattle.std.proofs.Common.{◌≡◌, ℕ, zero, suc, length, List, [], ◌∷◌, ◌++◌, Option, Some, Bool, true, false, refl, sym, ◌∙◌, subst, ap}
use Rattle.std.proofs.Common.{arith}
use Rattle.verse_code.specs.declared.codes.Code.{Code}
use Rattle.verse_code.specs.declared.operations.Op.{Op}
use Rattle.verse_code.specs.declared.operations.Op.TheVariants as o
use Rattle.verse_sorts.specs.Sorts.{Sort}
use Rattle.verse_verify_kept.specs.Notes.{Notes}
use Rattle.verse_verify_kept.specs.Rules.{Asked}
use Rattle.lower_code.specs.Pieces as c
use Rattle.lower_code.specs.Pieces.{Spot, Maker}
use Rattle.lower_code.specs.Applied as apply
use Rattle.lower_notes.specs.States.{State, Change, pops}
use Rattle.lower_notes.specs.Stretches as n
use Rattle.lower_notes.specs.Stretches.{Walk, with_value}
use Rattle.lower_notes.specs.Applied as walks
use Rattle.lower_notes.proofs.Counted as counted
use Rattle.lower_pass_states.proofs.Points.{pt, over, even_over, names_of, gives_is, pops_over}
use Rattle.lower_pass_states.proofs.Meeting.{Meets, MeetsAt}
use Rattle.lower_pass_stretches.proofs.Going.{Way, If, itself, Going, Steady, then_goes}
use Rattle.lower_pass_stretches.proofs.Single.{OneItem, just_goes, ends_goes}
use Rattle.lower_pass_states.proofs.Steps.{drop_asked}
use Rattle.lower_pass_stretches.proofs.Inside.{ready_moved}

module _ (code : Code) (notes : Notes) where
  -- operands above a state
  abbrev pub IsOver : List Sort → Option State → State → Type 0
  IsOver qs x z = (y : State) × ((x ≡ Some y) × (z ≡ over qs y))

  pub steady_over : {ts : List ℕ} {y : State} (qs : List Sort) → Steady code notes ts y → Steady code notes ts (over qs y)
  steady_over {y = y} qs h = record {
    even = even_over y h.even qs;
    names = h.names;
    stood = h.stood;
    ready = ready_moved code notes [] (record { func = refl; arm = refl; under = refl })
        (names_of (over qs y) ∙ sym (names_of y)) h.ready;
  }

  steady_if : {ts : List ℕ} {x u : Option State} (qs : List Sort) → If x (Steady code notes ts) → If u (IsOver qs x) →
      If u (Steady code notes ts)
  steady_if {ts} qs st h z e = let k = h z e in subst (Steady code notes ts) (sym k.1.1) (steady_over qs (st k.0 k.1.0))

  module _ {w : Way} {ts : List ℕ} {x u : Option State} (f : Maker) (op : Spot → Op) (single : OneItem f op) (qs : List Sort)
      (steady : If x (Steady code notes ts)) (above : If u (IsOver qs x)) where
    -- the last operation of a form leaves its value
    pub last_goes : (q : Sort) →
        If x (λ y. (s : Spot) → Meets code notes (over (q ∷ []) y) (suc s.at) → Asked code notes s.at (pt (over qs y)) (op s)) →
        Going code notes w ts u f n.last (with_value q x) (λ z. Unit {0})
    last_goes q asks = just_goes code notes f op single (steady_if qs steady above)
        (λ z e s room m. let k = above z e in
        subst (λ v. Asked code notes s.at (pt v) (op s)) (sym k.1.1) (asks k.0 k.1.0 s
        (subst (λ v. Meets code notes v (suc s.at)) (gives_is q k.0)
        (subst (λ v. MeetsAt code notes (with_value q v (Some z)) (suc s.at)) k.1.0 m)))) (λ z e s room. tt)

    -- an operation that leaves other operands
    pub step_goes : (rs : List Sort) (h : Change) → If x (λ y. h (over qs y) ≡ over rs y) →
        If x (λ y. (s : Spot) → Meets code notes (over rs y) (suc s.at) → Asked code notes s.at (pt (over qs y)) (op s)) →
        Going code notes w ts u f (n.one h) itself (IsOver rs x)
    step_goes rs h same asks = just_goes code notes f op single (steady_if qs steady above)
        (λ z e s room m. let k = above z e in
        subst (λ v. Asked code notes s.at (pt v) (op s)) (sym k.1.1) (asks k.0 k.1.0 s
        (subst (λ v. Meets code notes v (suc s.at)) (ap h k.1.1 ∙ same k.0 k.1.0) m)))
        (λ z e s room. let k = above z e in (k.0, (k.1.0, ap h k.1.1 ∙ same k.0 k.1.0)))

    -- nothing goes on behind it
    pub end_goes : {k : Option State → Option State} {Q : State → Type 0} →
        If x (λ y. (s : Spot) → Asked code notes s.at (pt (over qs y)) (op s)) → Going code notes w ts u f n.ends k Q
    end_goes asks = ends_goes code notes f op single (steady_if qs steady above)
        (λ z e s. let k = above z e in subst (λ v. Asked code notes s.at (pt v) (op s)) (sym k.1.1) (asks k.0 k.1.0 s))

  -- no operand
  pub over_itself : {x : Option State} → If x (IsOver [] x)
  over_itself z e = (z, (e, refl))

  -- ---- operands that fall away

  module _ {w : Way} {ts : List ℕ} {x : Option State} (steady : If x (Steady code notes ts)) where
    pub drop_goes : {u : Option State} (q : Sort) (qs : List Sort) → If u (IsOver (q ∷ qs) x) →
        Going code notes w ts u (c.one o.Drop) (n.one (pops 1)) itself (IsOver qs x)
    drop_goes q qs above = step_goes (c.one o.Drop) (λ s. o.Drop) (λ s. refl) (q ∷ qs) steady above qs (pops 1) (λ y e. pops_over q qs y)
        (λ y e s m. drop_asked code notes (over qs y) (even_over y (steady y e).even qs) q m)

    -- those on top, before an operation
    pub drops_go : {u : Option State} {f : Maker} {g : Walk} {k : Option State → Option State} {Q : State → Type 0} (tops qs : List Sort) →
        If u (IsOver (tops ++ qs) x) → ((u : Option State) → If u (IsOver qs x) → Going code notes w ts u f g k Q) →
        Going code notes w ts u (apply.dropping (length tops) f) (walks.dropping (length tops) g) k Q
    drops_go [] qs above rest = rest _ above
    drops_go (q ∷ tops) qs above rest = then_goes code notes counted.just (drop_goes q (tops ++ qs) above)
        (λ z h. drops_go tops qs h rest)

  -- where a condition holds
  pub so_goes : {w : Way} {ts : List ℕ} {u : Option State} {f : Maker} {g : Walk} {k : Option State → Option State}
      {Q : State → Type 0} (b : Bool) → b ≡ true → Going code notes w ts u f g k Q →
      Going code notes w ts u (c.when_else b f) (n.when_else b g) k Q
  so_goes true e h = h
  so_goes false e h = absurd (cc)

  pub so_if : {w : Way} {ts : List ℕ} {x u : Option State} {f : Maker} {g : Walk} {k : Option State → Option State}
      {Q : State → Type 0} (qs : List Sort) → If x (Steady code notes ts) → If u (IsOver qs x) → (b : Bool) → If x (λ y. b ≡ true) →
      Going code notes w ts u f g k Q → Going code notes w ts u (c.when_else b f) (n.when_else b g) k Q
  so_if qs steady above true e h = h
  so_if qs steady above false e h = end_goes c.stuck (λ s. o.Arm (suc s.at)) (λ s. refl) qs steady above (λ y i s. absurd (no (e y i)))
    where
      no : false ≡ true → ⊥
      no h = absurd (cc)

  pub one_operand : {w : Way} {ts : List ℕ} {u : Option State} {f : Maker} {g : Walk} {k : Option State → Option State}
      {Q : State → Type 0} (m : ℕ) → m ≡ 1 → Going code notes w ts u f g k Q →
      Going code notes w ts u (apply.with_one m f) (walks.with_one m g) k Q
  one_operand zero e h = absurd (omega (arith, e))
  one_operand (suc zero) e h = h
  one_operand (suc (suc m)) e h = absurd (omega (arith, e))

  pub two_operands : {w : Way} {ts : List ℕ} {u : Option State} {f : Maker} {g : Walk} {k : Option State → Option State}
      {Q : State → Type 0} (m : ℕ) → m ≡ 2 → Going code notes w ts u f g k Q →
      Going code notes w ts u (apply.with_two m f) (walks.with_two m g) k Q
  two_operands zero e h = absurd (omega (arith, e))
  two_operands (suc zero) e h = absurd (omega (arith, e))
  two_operands (suc (suc zero)) e h = h
  two_operands (suc (suc (suc m))) e h = absurd (omega (arith, e))
