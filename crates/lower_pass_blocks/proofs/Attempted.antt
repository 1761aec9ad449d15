-- Forms with a failure context.
use Rattle.std.proofs.Common.{◌≡◌, ℕ, suc, List, [], ◌∷◌, Option, Some, None, true, refl, sym, ◌∙◌, subst, ap}
use Rattle.std.specs.Prelude.{option_map, slice_get}
use Rattle.verse_verify_faults.specs.Spots.{point_of}
use Rattle.std.proofs.lemmas.Option.{none-some, same_Some}
use Rattle.verse_code.specs.declared.codes.Code.{Code}
use Rattle.verse_code.specs.declared.operations.Op.TheVariants as o
use Rattle.verse_names_tables.specs.Names.{Table}
use Rattle.verse_sorts.specs.Sorts as s
use Rattle.verse_sorts.specs.Sorts.{Sort, Fits}
use Rattle.verse_sound_rules.specs.Found as rules
use Rattle.verse_sound_rules.specs.Found.{Allowed}
use Rattle.verse_verify_kept.specs.Notes.{Notes, parent_of}
use Rattle.verse_verify_kept.specs.Rules.{Asked}
use Rattle.lower_code.specs.Pieces as c
use Rattle.lower_code.specs.Pieces.{Spot, Maker}
use Rattle.lower_code.specs.declared.arounds.Around.{Around}
use Rattle.lower_code.specs.Arounds.{enclosed}
use Rattle.lower_code.specs.Scopes.{Scope}
use Rattle.lower_notes.specs.States as states
use Rattle.lower_notes.specs.States.{State, spot_of, pops, untried}
use Rattle.lower_notes.specs.Stretches as n
use Rattle.lower_notes.specs.Stretches.{Walk, with_value}
use Rattle.lower_notes.specs.Laws.{Beside}
use Rattle.lower_notes.proofs.Counted as counted
use Rattle.lower_notes.proofs.Counted.{code_then, walk_then}
use Rattle.lower_pass_states.proofs.Points.{pt, over, drop_none}
use Rattle.lower_pass_states.proofs.Meeting.{Meets, Below, meets_below}
use Rattle.lower_pass_states.proofs.Steps as step
use Rattle.lower_pass_stretches.proofs.Begins.{Begins, starts}
use Rattle.lower_pass_stretches.proofs.Going.{Way, If, itself, Going, Steady, then_goes}
use Rattle.lower_pass_stretches.proofs.Single.{just_goes, ends_goes, IsValue, Lands, lands_goes}
use Rattle.lower_pass_stretches.proofs.Combined.{Led, if_map, either_goes, either_led, opens_try}
use Rattle.lower_pass_stretches.proofs.Inside.{Inside, steady_of}
use Rattle.lower_pass_contexts.proofs.Contexts.{inside_try}
use Rattle.lower_pass_contexts.proofs.Attempts.{attempt_goes}
use Rattle.lower_pass_stretches.proofs.Going.{outside}
use Rattle.lower_pass_contexts.proofs.Trys.{try_asked, undo_asked, fail_asked, commit_asked}
use Rattle.lower_pass_contexts.proofs.After.{after_itself, after_below}
use Rattle.lower_pass_forms.proofs.Finishing.{IsOver, steady_over, last_goes, over_itself, drop_goes}

module _ (found : rules.Found) (code : Code) (notes : Notes) (w : Way) (ts : List ℕ) (al : Allowed) (xs : Table) (sc : Scope) (a : Around)
    (x : Option State) (here : If x (Inside code notes found w ts al xs sc a)) where
  abbrev Fit : Sort → Sort → Type 0
  Fit = Fits (parent_of notes)

  steady : If x (Steady code notes ts)
  steady y e = steady_of code notes (here y e)

  -- a state within the attempt
  abbrev pub Tried : ℕ → State → Type 0
  Tried i z = Inside code notes found w (i ∷ ts) (rules.tried al) xs sc (enclosed a) z

  pub in_try : (i l : ℕ) → Led code notes o.Try x x i l → If (option_map (states.tried i) x) (Tried i)
  in_try i l led = if_map code notes (Tried i) (states.tried i) x (λ y e. inside_try code notes i l
      (subst (λ z. Led code notes o.Try z z i l) e led) (here y e))

  behind_try : (i : ℕ) (y : State) → untried (states.tried i y) ≡ y
  behind_try i y = ap (λ ms. record y { tries = ms }) (drop_none y.tries)

  -- `not`
  module _ (q qb : Sort) (fails : al.fails ≡ true) (fit : Fit s.unit q) {f : Maker} {g : Walk} (beside : Beside f g)
      (tree : (i : ℕ) (z : Option State) → If z (Tried i) → Going code notes w (i ∷ ts) z f g itself (IsValue code notes qb z)) where
    abbrev None_left : State → Type 0
    None_left z = ⊥

    -- a state of the attempt is the one that its Try begins from that before it
    tried_is : (i : ℕ) {u : Option State} → If u (IsOver code notes [] (option_map (states.tried i) x)) →
        If u (λ z. (y : State) × ((x ≡ Some y) × (z ≡ states.tried i y)))
    tried_is i above z e = let k = above z e in from x k.0 z k.1.0 k.1.1
      where
        from : (x : Option State) (v z : State) → option_map (states.tried i) x ≡ Some v → z ≡ over [] v →
            (y : State) × ((x ≡ Some y) × (z ≡ states.tried i y))
        from None v z e f = absurd (none-some v e)
        from (Some y) v z e f = (y, (refl, f ∙ sym (same_Some (states.tried i y) v e)))

    undo_goes : (i l : ℕ) → Led code notes o.Try x x i l → {u : Option State} →
        If u (IsOver code notes [] (option_map (states.tried i) x)) →
        Going code notes w (i ∷ ts) u (c.one o.Undo) (n.one untried) itself (λ z. x ≡ Some z)
    undo_goes i l led above = just_goes code notes (c.one o.Undo) (λ s. o.Undo) (λ s. refl)
        (λ z e. let k = above z e in subst (Steady code notes (i ∷ ts)) (sym k.1.1) (steady_of code notes (in_try i l led k.0 k.1.0)))
        (λ z e s room m. let k = tried_is i above z e in
        subst (λ v. Asked code notes s.at (pt v) o.Undo) (sym k.1.1)
        (undo_asked code notes i l s.at k.0 (subst (λ v. Led code notes o.Try v v i l) k.1.0 led) (here k.0 k.1.0).even
        (subst (λ v. Meets code notes v (suc s.at)) (ap untried k.1.1 ∙ behind_try i k.0) m)))
        (λ z e s room. let k = tried_is i above z e in k.1.0 ∙ ap Some (sym (ap untried k.1.1 ∙ behind_try i k.0)))

    fail_goes : (i : ℕ) {u : Option State} {k : Option State → Option State} → If u (λ z. x ≡ Some z) →
        Going code notes w (i ∷ ts) u (c.one o.Fail) n.ends k (λ z. ⊥)
    fail_goes i above = outside code notes i (ends_goes code notes (c.one o.Fail) (λ s. o.Fail) (λ s. refl)
        (λ z e. steady z (above z e)) (λ z e s. fail_asked code notes z s.at ((here z (above z e)).fails fails)))

    abbrev inner_code : Maker
    inner_code = code_then f (code_then (c.one o.Drop) (code_then (c.one o.Undo) (c.one o.Fail)))

    abbrev inner_walk : Walk
    inner_walk = walk_then g (walk_then (n.one (pops 1)) (walk_then (n.one untried) n.ends))

    inner_beside : Beside inner_code inner_walk
    inner_beside = counted.both beside (counted.both counted.just (counted.both counted.just counted.just_ends))

    inner_goes : (i l : ℕ) → Led code notes o.Try x x i l →
        Going code notes w (i ∷ ts) (option_map (states.tried i) x) inner_code inner_walk itself (λ z. ⊥)
    inner_goes i l led =
        let inside = in_try i l led in
        let calm : If (option_map (states.tried i) x) (Steady code notes (i ∷ ts)) = λ z e. steady_of code notes (inside z e) in
        then_goes code notes beside (tree i (option_map (states.tried i) x) inside) (λ z h.
        then_goes code notes counted.just (drop_goes code notes calm qb [] h) (λ v j.
        then_goes code notes counted.just (undo_goes i l led j) (λ r k. fail_goes i k)))

    pub negation_goes : Going code notes w ts x (code_then (c.ahead o.Try inner_code) (c.one o.Unit))
        (walk_then (n.attempt inner_walk) n.last) (with_value q x) (λ z. Unit {0})
    negation_goes = attempt_goes code notes (with_value q x) (λ z. Unit {0}) inner_beside (λ at y. starts) steady inner_goes
        (λ z e i m. elim e [ ])
        (last_goes code notes (c.one o.Unit) (λ s. o.Unit) (λ s. refl) [] steady (over_itself code notes) q
        (λ y e s m. step.unit_asked code notes y (here y e).even m fit))
        (λ y e i l m k. try_asked code notes y i l m k)

  -- ---- what an attempt found out stays

  below_value : (qb q : Sort) → Fit qb q → (y : State) → Below code notes (over (qb ∷ []) y) (over (q ∷ []) y)
  below_value qb q f y = after_below code notes (after_itself code notes y) f

  lands_value : (qb q : Sort) → Fit qb q → (z : State) → IsOver code notes (qb ∷ []) x z → Lands code notes q x z
  lands_value qb q f z k = (
    k.0,
    (
      k.1.0,
      λ i m. meets_below code notes (subst (λ v. Below code notes v (over (q ∷ []) k.0)) (sym k.1.1)
          (below_value qb q f k.0)) m,
    ),
  )

  steady_value : (qb : Sort) (z : State) → IsOver code notes (qb ∷ []) x z → Steady code notes ts z
  steady_value qb z k = subst (Steady code notes ts) (sym k.1.1) (steady_over code notes (qb ∷ []) (steady k.0 k.1.0))

  same_state : (y : Option State) → option_map n.same y ≡ y
  same_state None = refl
  same_state (Some y) = refl

  -- a Commit above a value
  commit_goes : (qb : Sort) (i l : ℕ) → Led code notes o.Try x x i l → {u : Option State} →
      If u (IsValue code notes qb (option_map (states.tried i) x)) →
      Going code notes w (i ∷ ts) u (c.one o.Commit) (n.one untried) itself (IsOver code notes (qb ∷ []) x)
  commit_goes qb i l led above = just_goes code notes (c.one o.Commit) (λ s. o.Commit) (λ s. refl)
      (λ z e. let k = above z e in subst (Steady code notes (i ∷ ts)) (sym k.1.1)
      (steady_over code notes (qb ∷ []) (steady_of code notes (in_try i l led k.0 k.1.0))))
      (λ z e s room m. let k = value_is z (above z e) in
      subst (λ v. Asked code notes s.at (pt v) o.Commit) (sym k.1.1)
      (commit_asked code notes i s.at k.0 (over (qb ∷ []) (states.tried i k.0)) (qb ∷ [])
      (record { tries = refl; stack = refl; defers = refl }) (here k.0 k.1.0).even (here_at k.0 k.1.0)
      (subst (λ v. Meets code notes (untried v) (suc s.at)) k.1.1 m)))
      (λ z e s room. let k = value_is z (above z e) in (k.0, (k.1.0, ap untried k.1.1 ∙ left_over k.0)))
    where
      here_at : (y : State) → x ≡ Some y → slice_get notes.points i ≡ Some (point_of (option_map spot_of (Some y)))
      here_at y e = subst (λ v. slice_get notes.points i ≡ Some (point_of (option_map spot_of v))) e led.here

      left_over : (y : State) → untried (over (qb ∷ []) (states.tried i y)) ≡ over (qb ∷ []) y
      left_over y = ap (λ ms. record y { stack = qb ∷ y.stack; tries = ms }) (drop_none y.tries)

      value_is : (z : State) → IsValue code notes qb (option_map (states.tried i) x) z →
          (y : State) × ((x ≡ Some y) × (z ≡ over (qb ∷ []) (states.tried i y)))
      value_is z k = from x k.0 k.1.0 k.1.1
        where
          from : (x : Option State) (v : State) → option_map (states.tried i) x ≡ Some v → z ≡ over (qb ∷ []) v →
              (y : State) × ((x ≡ Some y) × (z ≡ over (qb ∷ []) (states.tried i y)))
          from None v e f = absurd (none-some v e)
          from (Some y) v e f = (y, (refl, f ∙ ap (over (qb ∷ [])) (sym (same_Some (states.tried i y) v e))))

  -- `or`
  module _ (q qb qc : Sort) (fit_b : Fit qb q) (fit_c : Fit qc q) {f h : Maker} {g j : Walk} (beside : Beside f g) (begins : Begins j)
      (left : (i : ℕ) (z : Option State) → If z (Tried i) → Going code notes w (i ∷ ts) z f g itself (IsValue code notes qb z))
      (right : Going code notes w ts x h j itself (IsValue code notes qc x)) where
    pub or_goes : Going code notes w ts x (c.either o.Try (code_then f (c.one o.Commit)) h) (n.either_try (walk_then g (n.one untried)) j)
        (with_value q x) (λ z. Unit {0})
    or_goes = either_goes code notes states.tried (n.always n.same) (λ i. i ∷ ts) q o.Try (Led code notes o.Try x x)
        (counted.both beside counted.just)
        (λ s l. led_same s.at _ (either_led code notes h j states.tried (n.always n.same) o.Try (counted.both beside counted.just) begins s
        l)) steady (opens_try code notes ts)
        (λ i l led. then_goes code notes beside (left i (option_map (states.tried i) x) (in_try i l led)) (λ z k. commit_goes qb i l led k))
        (steady_value qb) (lands_value qb q fit_b)
        (λ i. subst (λ y. Going code notes w ts y h j (with_value q x) (IsValue code notes qc x)) (sym (same_state x))
        (lands_goes code notes q right (lands_value qc q fit_c)))
        (λ y e i l m k. try_asked code notes y i l m k)
      where
        led_same : (i l : ℕ) → Led code notes o.Try x (option_map n.same x) i l → Led code notes o.Try x x i l
        led_same i l led = subst (λ y. Led code notes o.Try x y i l) (same_state x) led
