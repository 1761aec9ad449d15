-- The clauses of a `for`: what is known in the Try of one, and of the list that the `for` gives.
use Rattle.std.proofs.Common.{◌≡◌, ℕ, zero, suc, ◌≤◌, ◌<◌, length, List, [], ◌∷◌, ◌++◌, Option, Some, refl, sym, ◌∙◌, subst, ap, arith}
use Rattle.std.specs.Prelude.{option_map, slice_get}
use Rattle.std.proofs.lemmas.Option.{none-some}
use Rattle.verse_code.specs.declared.codes.Code.{Code}
use Rattle.verse_code.specs.declared.operations.Op.TheVariants as o
use Rattle.verse_names_tables.specs.Names.{Table}
use Rattle.verse_sorts.specs.Sorts as s
use Rattle.verse_sorts.specs.Sorts.{Sort, Fits, fits_list}
use Rattle.verse_sorts.specs.Typing.{at}
use Rattle.verse_sound_rules.specs.Found as rules
use Rattle.verse_sound_rules.specs.Found.{Allowed, tried}
use Rattle.verse_verify_kept.specs.Notes.{Notes, parent_of}
use Rattle.verse_verify_kept.specs.Rules.{Asked, Quiet}
use Rattle.verse_verify_faults.specs.Spots.{point_of}
use Rattle.lower_code.specs.Pieces as c
use Rattle.lower_code.specs.Pieces.{Maker}
use Rattle.lower_code.specs.declared.arounds.Around.{Around}
use Rattle.lower_code.specs.Arounds.{enclosed}
use Rattle.lower_code.specs.Scopes.{Scope, Slot}
use Rattle.lower_notes.specs.States.{State, spot_of, with_local, pops, untried}
use Rattle.lower_notes.specs.Stretches as n
use Rattle.lower_notes.specs.Stretches.{Walk}
use Rattle.lower_notes.specs.Laws.{Beside}
use Rattle.lower_notes.proofs.Counted as counted
use Rattle.lower_notes.proofs.Counted.{code_then, walk_then}
use Rattle.lower_pass_states.proofs.Points.{pt, Even, over, pops_over}
use Rattle.lower_pass_states.proofs.Locals.{is_at, with_other}
use Rattle.lower_pass_states.proofs.Meeting.{Meets}
use Rattle.lower_pass_states.proofs.Steps.{drop_asked}
use Rattle.lower_pass_states.proofs.Writes.{append_asked}
use Rattle.lower_pass_stretches.proofs.Names.{Sees}
use Rattle.lower_pass_stretches.proofs.Going.{Way, If, itself, Going, Steady, then_goes, outside}
use Rattle.lower_pass_stretches.proofs.Single.{just_goes, IsValue}
use Rattle.lower_pass_stretches.proofs.Inside.{Inside, steady_of}
use Rattle.lower_pass_contexts.proofs.Scopes.{inside_with}
use Rattle.lower_pass_contexts.proofs.After.{After, after_bound}
use Rattle.lower_pass_contexts.proofs.Trys as trys
use Rattle.lower_pass_contexts.proofs.Trys.{commit_asked}
use Rattle.lower_pass_forms.proofs.Finishing.{IsOver, steady_over, over_itself}
use Rattle.lower_pass_blocks.proofs.Binding.{bound}

pub at_less : {A : Type 0} (xs : List A) (l : ℕ) {x : A} → at xs l ≡ Some x → l < length xs
at_less [] l e = absurd (none-some _ e)
at_less (x ∷ xs) zero e = omega arith
at_less (x ∷ xs) (suc l) e = omega (arith, at_less xs l e)

-- what fits in a list
pub list_fits : (up : ℕ → Option ℕ) {q b u : Sort} → Fits up (s.list b) q → q ≡ s.list u → Fits up b u
list_fits up {b = b} f e = of_list (subst (λ z. Fits up (s.list b) z) e f)
  where
    of_list : {b u : Sort} → Fits up (s.list b) (s.list u) → Fits up b u
    of_list (fits_list g) = g

module _ (found : rules.Found) (code : Code) (notes : Notes) (w : Way) (ts : List ℕ) (al : Allowed) (a : Around) (list : ℕ)
    (given : Sort) where
  -- the local of the list
  pub record Listed (sc : Scope) (ls : List Sort) : Type 0 where
    pub before : list < length sc
    pub is : at ls list ≡ Some given
    pub quiet : Quiet code notes list ts

  pub listed_with : {sc : Scope} {ls : List Sort} (slot : Slot) (r : Sort) → Listed sc ls →
      Listed (slot ∷ sc) (with_local (length sc) r ls)
  listed_with {sc} {ls} slot r h = record {
    before = less h.before;
    is = with_other (length sc) list r ls (not_same h.before) ∙ h.is;
    quiet = h.quiet;
  }
    where
      less : {n k : ℕ} → n < k → n < suc k
      less h = omega (arith, h)

      not_same : {n k : ℕ} → n < k → n ≡ k → ⊥
      not_same h e = omega (arith, h, e)

  -- In the Try of index i, which began with a state: what is known there, and of the state if the Try had ended.
  pub record Level (i : ℕ) (began : Option State) (xs : Table) (sc : Scope) (z : State) : Type 0 where
    pub base : State
    pub is : began ≡ Some base
    pub even : Even base
    pub here : slice_get notes.points i ≡ Some (point_of (option_map spot_of (Some base)))
    pub within : trys.Within code notes i base z []
    pub after : After code notes 0 base (untried z)
    pub inside : Inside code notes found w (i ∷ ts) (tried al) xs sc (enclosed a) z
    pub outer : Inside code notes found w ts al xs sc a (untried z)
    pub listed : Listed sc z.locals

  -- behind its Commit
  pub record Outer (began : Option State) (xs : Table) (sc : Scope) (y : State) : Type 0 where
    pub base : State
    pub is : began ≡ Some base
    pub after : After code notes 0 base y
    pub inside : Inside code notes found w ts al xs sc a y
    pub listed : Listed sc y.locals

  -- no more is known than where the Try began
  abbrev pub Ends : Option State → State → Type 0
  Ends began v = (y : State) × ((began ≡ Some y) × After code notes 0 y v)

  -- what is shown of the clauses from one on, with the body of the `for` behind them
  abbrev pub LevelGoes : Table → Scope → Maker → Walk → Type 0
  LevelGoes xs sc f g = (i : ℕ) (began u : Option State) → If u (Level i began xs sc) →
      Going code notes w (i ∷ ts) u f g itself (Ends began)

  -- the part of a clause leaves operands
  abbrev pub PartGoes : Table → Scope → List Sort → Maker → Walk → Type 0
  PartGoes xs sc ds f g = (i : ℕ) (z : Option State) → If z (Inside code notes found w (i ∷ ts) (tried al) xs sc (enclosed a)) →
      Going code notes w (i ∷ ts) z f g itself (IsOver code notes ds z)

  -- above operands
  abbrev pub Above : List Sort → (State → Type 0) → State → Type 0
  Above qs P z = (y : State) × (P y × (z ≡ over qs y))

  module _ {i : ℕ} {began : Option State} {xs : Table} {sc : Scope} where
    pub above_level : {u v : Option State} (qs : List Sort) → If u (Level i began xs sc) → If v (IsOver code notes qs u) →
        If v (Above qs (Level i began xs sc))
    above_level qs level above z e = let k = above z e in (k.0, (level k.0 k.1.0, k.1.1))

    within_over : (z : State) (h : Level i began xs sc z) (ds : List Sort) → trys.Within code notes i h.base (over ds z) ds
    within_over z h ds = record { tries = h.within.tries; stack = ap (λ st. ds ++ st) h.within.stack; defers = h.within.defers }

    steady_above : {v : Option State} (ds : List Sort) → If v (Above ds (Level i began xs sc)) → If v (Steady code notes (i ∷ ts))
    steady_above ds above z e = let k = above z e in
        subst (Steady code notes (i ∷ ts)) (sym k.1.1) (steady_over code notes ds (steady_of code notes k.1.0.inside))

    outer_of : (z : State) → Level i began xs sc z → Outer began xs sc (untried z)
    outer_of z h = record { base = h.base; is = h.is; after = h.after; inside = h.outer; listed = h.listed }

    -- a Commit above operands
    pub commit_goes : {v : Option State} (ds : List Sort) → If v (Above ds (Level i began xs sc)) →
        Going code notes w (i ∷ ts) v (c.one o.Commit) (n.one untried) itself (Above ds (Outer began xs sc))
    commit_goes ds above = just_goes code notes (c.one o.Commit) (λ s. o.Commit) (λ s. refl) (steady_above ds above)
        (λ z e s room m. let k = above z e in subst (λ v. Asked code notes s.at (pt v) o.Commit) (sym k.1.1)
        (commit_asked code notes i s.at k.1.0.base (over ds k.0) ds (within_over k.0 k.1.0 ds) k.1.0.even k.1.0.here
        (subst (λ v. Meets code notes (untried v) (suc s.at)) k.1.1 m)))
        (λ z e s room. let k = above z e in (untried k.0, (outer_of k.0 k.1.0, ap untried k.1.1)))

    -- a value falls away
    pub drop_level : {v : Option State} (q : Sort) → If v (Above (q ∷ []) (Level i began xs sc)) →
        Going code notes w (i ∷ ts) v (c.one o.Drop) (n.one (pops 1)) itself (Level i began xs sc)
    drop_level q above = just_goes code notes (c.one o.Drop) (λ s. o.Drop) (λ s. refl) (steady_above (q ∷ []) above)
        (λ z e s room m. let k = above z e in subst (λ v. Asked code notes s.at (pt v) o.Drop) (sym k.1.1)
        (drop_asked code notes k.0 k.1.0.inside.even q
        (subst (λ v. Meets code notes v (suc s.at)) (ap (pops 1) k.1.1 ∙ pops_over q [] k.0) m)))
        (λ z e s room. let k = above z e in subst (Level i began xs sc) (sym (ap (pops 1) k.1.1 ∙ pops_over q [] k.0)) k.1.0)

    -- a local more
    pub level_bound : (slot : Slot) (ys : Table) (r : Sort) {z : State} → length sc < w.size → Level i began xs sc z →
        Sees found al.this ys (slot ∷ sc) (with_local (length sc) r z.locals) → Level i began ys (slot ∷ sc) (bound (length sc) r z)
    level_bound slot ys r {z} free h sees = record {
      base = h.base;
      is = h.is;
      even = h.even;
      here = h.here;
      within = record { tries = h.within.tries; stack = h.within.stack; defers = h.within.defers };
      after = after_bound code notes h.after (length sc) r (nothing_known h.outer);
      inside = inside_with code notes slot ys r free h.inside sees;
      outer = inside_with code notes slot ys r free h.outer sees;
      listed = listed_with slot r h.listed;
    }
      where
        within_size : (n m l : ℕ) → l < n → n ≤ m → l < m
        within_size n m l h k = omega (arith, h, k)

        same : (k : ℕ) → k ≤ k
        same k = omega arith

        nothing_known : {y : State} → Inside code notes found w ts al xs sc a y → at y.locals (length sc) ≡ Some s.none
        nothing_known {y} g = let there = is_at y.locals (length sc) (within_size w.size (length y.locals) (length sc) free g.room) in
            there.1 ∙ ap Some (g.blank (length sc) there.0 (same (length sc)) there.1)

  -- the body: its value goes behind those of the list
  module _ (xs : Table) (sc : Scope) (q qb : Sort) (is_list : given ≡ s.list q) (fit : Fits (parent_of notes) qb q) {f : Maker} {g : Walk}
      (beside : Beside f g)
      (tree : (z : Option State) → If z (Inside code notes found w ts al xs sc a) →
      Going code notes w ts z f g itself (IsValue code notes qb z)) where
    append_goes : (began : Option State) {u v : Option State} → If u (Above [] (Outer began xs sc)) → If v (IsValue code notes qb u) →
        (m : ℕ) → Going code notes w ts v (c.one (o.Append list m)) (n.one (pops 1)) itself (Ends began)
    append_goes began {u} {v} outer value m = just_goes code notes (c.one (o.Append list m)) (λ s. o.Append list m) (λ s. refl)
        (λ z e. let k = value z e in subst (Steady code notes ts) (sym k.1.1)
        (steady_over code notes (qb ∷ []) (steady_of code notes (at_state k.0 k.1.0).inside)))
        (λ z e s room t. let k = value z e in let h = at_state k.0 k.1.0 in
        subst (λ y. Asked code notes s.at (pt y) (o.Append list m)) (sym k.1.1)
        (append_asked code notes k.0 h.inside.even list m
        (subst (λ y. Meets code notes y (suc s.at)) (ap (pops 1) k.1.1 ∙ pops_over qb [] k.0) t)
        (h.listed.is ∙ ap Some is_list) fit (at_less k.0.locals list h.listed.is)
        (subst (λ zs. Quiet code notes list zs) (sym h.inside.names) h.listed.quiet)))
        (λ z e s room. let k = value z e in let h = at_state k.0 k.1.0 in
        (h.base, (h.is, subst (After code notes 0 h.base) (sym (ap (pops 1) k.1.1 ∙ pops_over qb [] k.0)) h.after)))
      where
        at_state : (z : State) → u ≡ Some z → Outer began xs sc z
        at_state z e = let k = outer z e in subst (Outer began xs sc) (sym k.1.1) k.1.0

    pub body_goes : (m : ℕ) → LevelGoes xs sc (code_then (c.one o.Commit) (code_then f (c.one (o.Append list m))))
        (walk_then (n.one untried) (walk_then g (n.one (pops 1))))
    body_goes m i began u level = then_goes code notes counted.just (commit_goes [] (above_level [] level (over_itself code notes)))
        (λ z outer. outside code notes i (then_goes code notes beside
        (tree z (λ y e. let k = outer y e in subst (Inside code notes found w ts al xs sc a) (sym k.1.1) k.1.0.inside))
        (λ v value. append_goes began outer value m)))
