-- A table whose states are held has what the tests look at besides the rules.
use Rattle.std.proofs.Common.{◌≡◌, ℕ, length, map, List, [], ◌∷◌, ◌++◌, Option, Some, None, true, refl, sym, subst, ap, ◌∙◌}
use Rattle.std.specs.Prelude.{option_map, slice_get}
use Rattle.std.proofs.lemmas.Option.{none-some, same_Some}
use Rattle.verse_base.proofs.Facts.{mapped_get}
use Rattle.verse_code.specs.declared.operations.Op.TheVariants as o
use Rattle.verse_code.specs.declared.codes.Code.{Code}
use Rattle.verse_verify_kept.specs.Notes.{Point, point_at}
use Rattle.verse_verify_kept.proofs.Places.{same_in}
use Rattle.verse_verify_faults.specs.Spots.{Mark, Spot, Table, live_spot, spot_at, even}
use Rattle.verse_verify_faults.specs.Faults.{tries_of}
use Rattle.verse_verify_faults.proofs.Leading.{notes, point_there}
use Rattle.verse_verify_laws.proofs.Holding.{spotted}
use Rattle.verse_verify_clean.specs.Laws.{Falling, Reached, reached_no, reached_so, Within, Told}
use Rattle.verse_verify_clean.proofs.Holding.{bare_spot}
use Rattle.lower_notes.specs.States.{State, spot_of, indices}
use Rattle.lower_pass_states.proofs.Meeting.{Held, AllOpened}

module _ (c : Code) (t : Table) (states : List (Option State)) (are : t.spots ≡ map (option_map spot_of) states)
    (held : (i : ℕ) (x : State) → slice_get states i ≡ Some (Some x) → Held c (notes c t) i x) where
  -- what is there is a state
  record OfState (i : ℕ) (p : Spot) : Type 0 where
    pub state : State
    pub is : spot_of state ≡ p
    pub stands : Held c (notes c t) i state

  of_state : (i : ℕ) (p : Spot) → spot_at t i ≡ Some p → OfState i p
  of_state i p e = by_option (slice_get t.spots i) refl e
    where
      by_state : (x : Option State) → slice_get states i ≡ Some x → option_map spot_of x ≡ Some p → OfState i p
      by_state None h f = elim (none-some _ f) [ ]
      by_state (Some x) h f = record { state = x; is = same_Some _ _ f; stands = held i x h }

      by_option : (m : Option (Option Spot)) → slice_get t.spots i ≡ m → live_spot m ≡ Some p → OfState i p
      by_option None h f = elim (none-some _ f) [ ]
      by_option (Some m) h f =
          let x = mapped_get (option_map spot_of) states i m (subst (λ xs. slice_get xs i ≡ Some m) are h) in
          by_state x.0 x.1 (x.2 ∙ f)

  even_at : (i : ℕ) (p : Spot) → spot_at t i ≡ Some p → even (length p.stack) p.tries ≡ true
  even_at i p e =
      let x = of_state i p e in
      subst (λ (q : Spot). even (length q.stack) q.tries ≡ true) x.is x.stands.even

  there : (i : ℕ) → (q : Point) × (point_at (notes c t) i ≡ Some q) → (p : Spot) × (spot_at t i ≡ Some p)
  there i q = let x = spotted c t i q.0 q.1 in (x.spot, x.there)

  reached : (js : List ℕ) → AllOpened c (notes c t) js → Reached t js
  reached [] h = reached_no
  reached (j ∷ js) h = reached_so (there j h.0.here).1 (reached js h.1)

  indices_are : (ms : List Mark) → indices ms ≡ map (λ (m : Mark). m.index) ms
  indices_are [] = refl
  indices_are (m ∷ ms) = ap (λ is. m.index ∷ is) (indices_are ms)

  open_are : (i : ℕ) (p : Spot) → spot_at t i ≡ Some p → AllOpened c (notes c t) (tries_of c t p)
  open_are i p e =
      let x = of_state i p e in
      subst (λ (q : Spot). AllOpened c (notes c t) (tries_of c t q)) x.is
      (subst (AllOpened c (notes c t)) (ap (λ is. is ++ x.state.outer) (indices_are x.state.tries)) x.stands.stood.tries)

  label_there : (i : ℕ) (p : Spot) (m : Mark) (ms : List Mark) (l : ℕ) → spot_at t i ≡ Some p → p.tries ≡ m ∷ ms →
      slice_get c.ops m.index ≡ Some (o.Try l) → (q : Spot) × (spot_at t l ≡ Some q)
  label_there i p m ms l e f h =
      let a = subst (λ ms. AllOpened c (notes c t) (map (λ (m : Mark). m.index) ms ++ p.outer)) f (open_are i p e) in
      there l (subst (λ k. (q : Point) × (point_at (notes c t) k ≡ Some q)) (same (sym a.0.is_try ∙ h)) a.0.there)
    where
      same : {k : ℕ} → Some (o.Try k) ≡ Some (o.Try l) → k ≡ l
      same e = cc

  within : (i : ℕ) (p : Spot) (e : ℕ) (q : Spot) → spot_at t i ≡ Some p → p.block ≡ Some e → spot_at t e ≡ Some q → Within p e q
  within i p e q h b k =
      let x = of_state i p h in
      let w = x.stands.stood.within e (ap (λ (r : Spot). r.block) x.is ∙ b) in
      let is = same_in w.live (point_there c t e q k (even_at e q k)) in
      let bare = bare_spot q (sym (ap (λ (r : Point). r.stack) is) ∙ w.stack) (sym (ap (λ (r : Point). r.tries) is) ∙ w.tries) in
      record {
        func = sym (ap (λ (r : Spot). r.func) x.is) ∙ (w.same_func ∙ ap (λ (r : Point). r.func) is);
        arm = sym (ap (λ (r : Spot). r.arm) x.is) ∙ (w.same_arm ∙ ap (λ (r : Point). r.arm) is);
        block = sym (ap (λ (r : Point). r.block) is) ∙ w.block;
        outer = sym (ap (λ (r : Spot). r.outer) x.is) ∙ (w.same_outer ∙ ap (λ (r : Point). r.outer) is);
        under = sym (ap (λ (r : Spot). r.under) x.is) ∙ (w.same_under ∙ ap (λ (r : Point). r.under) is);
        stack = bare.0;
        tries = bare.1;
        defers = sym (ap (λ (r : Point). r.defers) is) ∙ w.defers;
      }

  pub told_of : Falling t → Told c t
  told_of f = record {
    falling = f;
    even = even_at;
    opened = λ i p e. reached (tries_of c t p) (open_are i p e);
    labels = label_there;
    arms = λ i p a e b. let x = of_state i p e in
        let l = x.stands.stood.lasts a (ap (λ (r : Spot). r.arm) x.is ∙ b) in
        record {
          func = l.func;
          noted = subst (λ k. slice_get t.functions k ≡ Some l.func) (ap (λ (r : Spot). r.func) x.is) l.noted;
          waits = l.waits;
        };
    blocks = within;
  }
