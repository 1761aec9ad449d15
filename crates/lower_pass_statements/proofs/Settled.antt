-- Behind all statements of a block: its deferred blocks have run.
use Rattle.std.proofs.Common.{◌≡◌, ℕ, suc, ◌+◌, ◌-◌, ◌≤◌, length, List, [], ◌∷◌, Option, Some, Bool, true, false, refl, sym, ◌∙◌}
use Rattle.std.proofs.Common.{subst, ap, arith}
use Rattle.verse_code.specs.declared.codes.Code.{Code}
use Rattle.verse_code.specs.declared.operations.Op.TheVariants as o
use Rattle.verse_names_tables.specs.Names.{Table}
use Rattle.verse_sorts.specs.Sorts.{Sort, IsKnown, Fits}
use Rattle.verse_sound_rules.specs.Found as rules
use Rattle.verse_sound_rules.specs.Found.{Allowed}
use Rattle.verse_verify_kept.specs.Notes.{Notes, parent_of}
use Rattle.verse_verify_kept.specs.Rules.{Asked}
use Rattle.lower_code.specs.Pieces as c
use Rattle.lower_code.specs.declared.arounds.Around.{Around}
use Rattle.lower_code.specs.Arounds as arounds
use Rattle.lower_code.specs.Scopes.{Scope}
use Rattle.lower_notes.specs.States.{State, left_with, left_behind}
use Rattle.lower_notes.specs.Stretches as n
use Rattle.lower_pass_states.proofs.Points.{pt, over}
use Rattle.lower_pass_states.proofs.Meeting.{Meets, meets_below}
use Rattle.lower_pass_stretches.proofs.Going.{Way, If, itself, Going, Steady}
use Rattle.lower_pass_stretches.proofs.Single.{just_goes, Lands, IsValue}
use Rattle.lower_pass_stretches.proofs.Inside.{Inside, steady_of, inside_up}
use Rattle.lower_pass_contexts.proofs.Leaving.{leave_asked, steady_left}
use Rattle.lower_pass_contexts.proofs.After.{After, after_itself, after_left, after_below}
use Rattle.lower_pass_forms.proofs.Finishing.{steady_over}
use Rattle.lower_pass_blocks.proofs.Stated.{Next}

module _ (code : Code) (notes : Notes) (ts : List ℕ) where
  -- a value above the state before, with other locals
  pub record Settles (q : Sort) (x : Option State) (z : State) : Type 0 where
    pub before : State
    pub is : x ≡ Some before
    pub state : State
    pub above : z ≡ over (q ∷ []) state
    pub after : After code notes 0 before state
    pub steady : Steady code notes ts z

  pub settled_lands : (q r : Sort) {x : Option State} → Fits (parent_of notes) q r → (z : State) → Settles q x z → Lands code notes r x z
  settled_lands q r f z h = (
    h.before,
    (
      h.is,
      λ i m. subst (λ v. Meets code notes v i) (sym h.above) (meets_below code notes (after_below code notes h.after f) m),
    ),
  )

  -- a value above the state itself
  pub value_settles : (q : Sort) {x : Option State} → If x (Steady code notes ts) → (z : State) → IsValue code notes q x z → Settles q x z
  value_settles q steady z h = record {
    before = h.0;
    is = h.1.0;
    state = h.0;
    above = h.1.1;
    after = after_itself code notes h.0;
    steady = subst (Steady code notes ts) (sym h.1.1) (steady_over code notes (q ∷ []) (steady h.0 h.1.0));
  }

module _ (found : rules.Found) (code : Code) (notes : Notes) (w : Way) (ts : List ℕ) (al : Allowed) (xs : Table) (sc : Scope) (a : Around)
    (x : Option State) (here : If x (Inside code notes found w ts al xs sc a)) (k : ℕ) (q : Sort) (ys : Table) (sc2 : Scope)
    (a2 : Around) (known : IsKnown q) (base : a2.base ≡ a.base) (many : a2.defers ≡ k + a.defers) where
  abbrev Behind : State → Type 0
  Behind z = Next found code notes w ts al k q ys sc2 a2 x z

  module _ (z : State) (h : Behind z) where
    low : a.base ≤ a.defers
    low = most (here h.before h.is).order
      where
        most : {b f d : ℕ} → (b ≤ f) × (f ≤ d) → b ≤ d
        most g = omega (arith, g.0, g.1)

    low2 : (arounds.up a2).base ≤ a.defers
    low2 = omega (arith, base, low)

    high : a.defers ≤ (arounds.up a2).defers
    high = omega (arith, many)

    inside : Inside code notes found w ts al ys sc2 (arounds.up a2) (over (q ∷ []) h.state)
    inside = inside_up code notes q known h.inside

    all_left : left_with a.defers (over (q ∷ []) h.state) ≡ over (q ∷ []) (left_behind k h.state)
    all_left = ap (λ j. left_behind j (over (q ∷ []) h.state)) (count h.state.under (length h.state.defers) a.defers a2.defers k
        h.inside.count many)
      where
        count : (u m d e k : ℕ) → e ≡ u + m → e ≡ k + d → u + m - d ≡ k
        count u m d e k f g = omega (arith, f, g)

  -- those that were deferred run
  run_goes : {u : Option State} → If u Behind →
      Going code notes w ts u (c.one (o.Leave a.defers)) (n.one (left_with a.defers)) itself (Settles code notes ts q x)
  run_goes above = just_goes code notes (c.one (o.Leave a.defers)) (λ s. o.Leave a.defers) (λ s. refl)
      (λ z e. let h = above z e in subst (Steady code notes ts) (sym h.above) (steady_of code notes (inside z h)))
      (λ z e s room m. let h = above z e in
      subst (λ v. Asked code notes s.at (pt v) (o.Leave a.defers)) (sym h.above)
      (leave_asked code notes (inside z h) a.defers (low2 z h) (high z h)
      (subst (λ v. Meets code notes (left_with a.defers v) (suc s.at)) h.above m)))
      (λ z e s room. let h = above z e in record {
        before = h.before;
        is = h.is;
        state = left_behind k h.state;
        above = ap (left_with a.defers) h.above ∙ all_left z h;
        after = after_left code notes h.after;
        steady = subst (λ v. Steady code notes ts (left_with a.defers v)) (sym h.above)
            (steady_left code notes (inside z h) a.defers (low2 z h) (high z h));
      })

  pub leaves_go : {u : Option State} → If u Behind → (b : Bool) → (b ≡ false → k ≡ 0) →
      Going code notes w ts u (c.when b (c.one (o.Leave a.defers))) (n.when b (n.leave a.defers)) itself (Settles code notes ts q x)
  leaves_go above true e = so (run_goes above)
    where
      so : {u : Option State} {Q : State → Type 0} →
          Going code notes w ts u (c.one (o.Leave a.defers)) (n.one (left_with a.defers)) itself Q →
          Going code notes w ts u (c.when true (c.one (o.Leave a.defers))) (n.when true (n.leave a.defers)) itself Q
      so h = record { leaves = h.leaves; exits = h.exits; goes = h.goes }
  leaves_go {u} above false e = record {
    leaves = λ s l v k. absurd (cc);
    exits = λ s l v z i. let h = above z i in record {
      before = h.before;
      is = h.is;
      state = h.state;
      above = h.above;
      after = subst (λ j. After code notes j h.before h.state) (e refl) h.after;
      steady = subst (Steady code notes ts) (sym h.above) (steady_of code notes (inside z h));
    };
    goes = λ s l v m. (m, tt);
  }

-- conditions defer none
pub none_leaves : {code : Code} {notes : Notes} {w : Way} {ts : List ℕ} {u : Option State} {Q : State → Type 0} (d : ℕ) (b : Bool) →
    b ≡ false → If u Q → Going code notes w ts u (c.when b (c.one (o.Leave d))) (n.when b (n.leave d)) itself Q
none_leaves d true e h = absurd (cc)
none_leaves d false e h = record { leaves = λ s l v k. absurd (cc); exits = λ s l v. h; goes = λ s l v m. (m, tt) }
