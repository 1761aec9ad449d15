-- What a definition puts into a local, and what is known behind it.
use Rattle.std.proofs.Common.{◌≡◌, ℕ, suc, ◌≤◌, ◌<◌, length, List, [], ◌∷◌, ◌++◌, Option, Some, None, true, false, refl, sym, ◌∙◌, subst}
use Rattle.std.proofs.Common.{ap, arith}
use Rattle.std.specs.Prelude.{option_map}
use Rattle.std.proofs.lemmas.Option.{none-some}
use Rattle.verse_base.specs.declared.places.Place.{Place}
use Rattle.verse_tree.specs.Tree.{Bytes}
use Rattle.verse_tree.specs.declared.tables.Ref.TheVariants as ref
use Rattle.verse_code.specs.declared.codes.Code.{Code}
use Rattle.verse_code.specs.declared.operations.Op.TheVariants as o
use Rattle.verse_names_tables.specs.Names.{Table}
use Rattle.verse_sorts.specs.Sorts as s
use Rattle.verse_sorts.specs.Sorts.{Sort, IsKnown, Fits}
use Rattle.verse_sorts.specs.Typing.{at}
use Rattle.verse_sorts.proofs.Fitting.{fits_itself}
use Rattle.verse_sound_rules.specs.Found as rules
use Rattle.verse_sound_rules.specs.Found.{Allowed, New}
use Rattle.verse_meaning.specs.Residuals.{a_constant, a_variable}
use Rattle.verse_verify_kept.specs.Notes.{Notes, parent_of}
use Rattle.verse_verify_kept.specs.Rules.{slot_var, Asked, Quiet}
use Rattle.lower_code.specs.Pieces as c
use Rattle.lower_code.specs.Pieces.{Maker}
use Rattle.lower_code.specs.declared.arounds.Around.{Around}
use Rattle.lower_code.specs.Scopes.{Scope, Slot, constant_at, variable_at, hidden}
use Rattle.lower_code.specs.Lowering as lower
use Rattle.lower_notes.specs.States.{State, with_local, puts, gets, gives}
use Rattle.lower_notes.specs.Stretches as n
use Rattle.lower_notes.specs.Stretches.{Walk}
use Rattle.lower_notes.specs.Applied as walks
use Rattle.lower_notes.proofs.Counted as counted
use Rattle.lower_notes.proofs.Others.{keeps}
use Rattle.lower_pass_states.proofs.Points.{pt, over, drop_none}
use Rattle.lower_pass_states.proofs.Locals.{local_is, with_here, with_other}
use Rattle.lower_pass_states.proofs.Meeting.{Meets}
use Rattle.lower_pass_states.proofs.Steps as step
use Rattle.lower_pass_states.proofs.Writes.{with_locals, put_asked}
use Rattle.lower_pass_stretches.proofs.Names.{Sees, SameBelow, constant_named, variable_named, sees_constant, sees_variable, sees_hidden}
use Rattle.lower_pass_stretches.proofs.Going.{Way, If, itself, Going, Steady, then_goes}
use Rattle.lower_pass_stretches.proofs.Single.{just_goes}
use Rattle.lower_pass_stretches.proofs.Inside.{Inside, steady_of}
use Rattle.lower_pass_stretches.proofs.Combined.{if_map}
use Rattle.lower_pass_contexts.proofs.Scopes.{inside_with}
use Rattle.lower_pass_forms.proofs.Finishing.{IsOver, steady_over, step_goes}

-- with a local that holds something of a sort
abbrev pub bound : ℕ → Sort → State → State
bound l q y = with_locals (with_local l q y.locals) y

pub below_bound : (l : ℕ) (q : Sort) (y : State) → SameBelow l y.locals (bound l q y).locals
below_bound l q y k h = with_other l k q y.locals (λ e. no (subst (λ z. z < l) e h))
  where
    no : l < l → ⊥
    no h = omega (arith, h)

module _ (found : rules.Found) (code : Code) (notes : Notes) (w : Way) (ts : List ℕ) (al : Allowed) (xs : Table) (sc : Scope) (a : Around)
    (x : Option State) where
  abbrev Fit : Sort → Sort → Type 0
  Fit = Fits (parent_of notes)

  module _ (here : If x (Inside code notes found w ts al xs sc a)) where
    abbrev l : ℕ
    l = length sc

    steady : If x (Steady code notes ts)
    steady y e = steady_of code notes (here y e)

    -- a state with that local, which the function has
    abbrev pub IsBound : Sort → State → Type 0
    IsBound q z = (l < w.size) × IsOver code notes [] (option_map (bound l q) x) z

    puts_is : (q qi : Sort) (y : State) → puts l q (over (qi ∷ []) y) ≡ bound l q y
    puts_is q qi y = ap (λ st. record y { stack = st; locals = with_local l q y.locals }) (drop_none y.stack)

    -- the value goes into the first local that is free
    pub put_goes : {u : Option State} (qi q : Sort) → Fit qi q → If u (IsOver code notes (qi ∷ []) x) →
        Going code notes w ts u (c.put_away l) (n.one (puts l q)) itself (IsBound q)
    put_goes qi q f above = just_goes code notes (c.put_away l) (λ s. o.Put l) (λ s. refl)
        (λ z e. let k = above z e in subst (Steady code notes ts) (sym k.1.1) (steady_over code notes (qi ∷ []) (steady k.0 k.1.0)))
        (λ z e s room m. let k = above z e in let h = here k.0 k.1.0 in
        subst (λ v. Asked code notes s.at (pt v) (o.Put l)) (sym k.1.1)
        (put_asked code notes k.0 h.even l q (subst (λ v. Meets code notes (puts l q v) (suc s.at)) k.1.1 m) f
        (within l w.size (length k.0.locals) room h.room) (subst (λ zs. Quiet code notes l zs) (sym h.names) (h.quiet l (same l)))))
        (λ z e s room. let k = above z e in
        (room, (bound l q k.0, (ap (option_map (bound l q)) k.1.0, ap (puts l q) k.1.1 ∙ puts_is q qi k.0))))
      where
        within : (l n m : ℕ) → suc l ≤ n → n ≤ m → l < m
        within l n m h k = omega (arith, h, k)

        same : (k : ℕ) → k ≤ k
        same k = omega arith

    -- what is known behind a name's definition
    pub inside_bound : (slot : Slot) (ys : Table) (q : Sort) → l < w.size →
        If x (λ y. Sees found al.this ys (slot ∷ sc) (with_local l q y.locals)) →
        If (option_map (bound l q) x) (Inside code notes found w ts al ys (slot ∷ sc) a)
    inside_bound slot ys q free sees = if_map code notes (Inside code notes found w ts al ys (slot ∷ sc) a) (bound l q) x
        (λ y e. inside_with code notes slot ys q free (here y e) (sees y e))

    free_there : l < w.size → (y : State) → w.size ≤ length y.locals → l < length y.locals
    free_there h y k = omega (arith, h, k)

    -- a constant, and a variable, whose node has a number
    pub sees_bound : (n : Bytes) (m : ℕ) → New n xs → found.is_var m ≡ false → l < w.size →
        If x (λ y. Sees found al.this (xs ++ (n, ref.Local m) ∷ []) (constant_at n ∷ sc) (with_local l (found.sort m) y.locals))
    sees_bound n m new v free y e = let h = here y e in
        sees_constant found (with_local l (found.sort m) y.locals) n (ref.Local m) new (below_bound l (found.sort m) y) h.sees
        (constant_named v (more l) (with_here l (found.sort m) y.locals (free_there free y h.room)))
      where
        more : (k : ℕ) → k < suc k
        more k = omega arith

    pub sees_varying : (n : Bytes) (m : ℕ) → New n xs → found.is_var m ≡ true → l < w.size →
        If x (λ y. Sees found al.this (xs ++ (n, ref.Local m) ∷ []) (variable_at n ∷ sc) (with_local l (s.var (found.sort m)) y.locals))
    sees_varying n m new v free y e = let h = here y e in
        sees_variable found (with_local l (s.var (found.sort m)) y.locals) n (ref.Local m) new (below_bound l (s.var (found.sort m)) y)
        h.sees (variable_named v (more l) (with_here l (s.var (found.sort m)) y.locals (free_there free y h.room)))
      where
        more : (k : ℕ) → k < suc k
        more k = omega arith

    -- a slot without a name
    pub sees_more : (q : Sort) → If x (λ y. Sees found al.this xs (hidden ∷ sc) (with_local l q y.locals))
    sees_more q y e = sees_hidden found (below_bound l q y) (here y e).sees

    -- with a value above that local
    abbrev pub IsAbove : Sort → Sort → State → Type 0
    IsAbove r q z = (l < w.size) × IsOver code notes (q ∷ []) (option_map (bound l r) x) z

    module _ (r : Sort) (slot : Slot) (ys : Table)
        (sees : l < w.size → If x (λ y. Sees found al.this ys (slot ∷ sc) (with_local l r y.locals))) where
      inside : l < w.size → If (option_map (bound l r) x) (Inside code notes found w ts al ys (slot ∷ sc) a)
      inside free = inside_bound slot ys r free (sees free)

      steady_bound : l < w.size → If (option_map (bound l r) x) (Steady code notes ts)
      steady_bound free z e = steady_of code notes (inside free z e)

      there : l < w.size → If (option_map (bound l r) x) (λ z. at z.locals l ≡ Some r)
      there free = if_map code notes (λ z. at z.locals l ≡ Some r) (bound l r) x
          (λ y e. with_here l r y.locals (free_there free y (here y e).room))

      with_free : {u : Option State} {Q : State → Type 0} → If u (λ z. l < w.size) → If u Q → If u (λ z. (l < w.size) × Q z)
      with_free f g z e = (f z e, g z e)

      -- it stays on the stack
      pub stays_goes : {u : Option State} → IsKnown r → If u (IsBound r) →
          Going code notes w ts u (c.one (o.Get l)) (n.one (gets l)) itself (IsAbove r r)
      stays_goes {u = None} read above = just_goes code notes (c.one (o.Get l)) (λ s. o.Get l) (λ s. refl) (λ z e. absurd (none-some z e))
          (λ z e. absurd (none-some z e)) (λ z e. absurd (none-some z e))
      stays_goes {u = Some v} read above =
          let free = (above v refl).0 in
          let over_it = above v refl in
          just_goes code notes (c.one (o.Get l)) (λ s. o.Get l) (λ s. refl)
          (λ z e. steady_bound free z (at_state z e))
          (λ z e s room m. step.get_asked code notes z (inside free z (at_state z e)).even
          (subst (λ q. Meets code notes (over (q ∷ []) z) (suc s.at)) (local_is z.locals l (there free z (at_state z e))) m) l
          (there free z (at_state z e)) read (fits_itself (parent_of notes) r))
          (λ z e s room. (free, (z, (at_state z e, ap (λ q. over (q ∷ []) z) (local_is z.locals l (there free z (at_state z e)))))))
        where
          at_state : (z : State) → Some v ≡ Some z → option_map (bound l r) x ≡ Some z
          at_state z e = let k = (above v refl).1 in k.1.0 ∙ ap Some (sym k.1.1) ∙ e

      -- what is in the cell of a variable is read
      pub loads_goes : {u : Option State} (q : Sort) → r ≡ s.var q → If u (IsAbove r r) →
          Going code notes w ts u (c.one (o.Load 0)) (n.one (gives 1 q)) itself (IsAbove r q)
      loads_goes {u = None} q f above = just_goes code notes (c.one (o.Load 0)) (λ s. o.Load 0) (λ s. refl) (λ z e. absurd (none-some z e))
          (λ z e. absurd (none-some z e)) (λ z e. absurd (none-some z e))
      loads_goes {u = Some v} q f above =
          let free = (above v refl).0 in
          then_free free (step_goes code notes (c.one (o.Load 0)) (λ s. o.Load 0) (λ s. refl) (r ∷ []) (steady_bound free)
          (λ z e. (above z e).1) (q ∷ []) (gives 1 q) (λ z e. ap (λ st. over (q ∷ []) (record z { stack = st })) (drop_none z.stack))
          (λ z e s m. subst (λ b. Asked code notes s.at (pt (over (b ∷ []) z)) (o.Load 0)) (sym f)
          (step.load_asked code notes z (inside free z e).even m 0 slot_var (fits_itself (parent_of notes) q))))
        where
          then_free : {g : Maker} {j : Walk} {Q : State → Type 0} → l < w.size → Going code notes w ts (Some v) g j itself Q →
              Going code notes w ts (Some v) g j itself (λ z. (l < w.size) × Q z)
          then_free free h = record { leaves = h.leaves; exits = λ s k v z e. (free, h.exits s k v z e); goes = h.goes }

      -- ---- definitions

      pub constant_goes : {u : Option State} (n : Bytes) (qi : Sort) → IsKnown r → Fit qi r → If u (IsOver code notes (qi ∷ []) x) →
          Going code notes w ts u (lower.bind (a_constant n) l) (walks.bind (a_constant n) l r) itself (IsAbove r r)
      constant_goes n qi read f above = then_goes code notes counted.away (put_goes qi r f above) (λ z h. stays_goes read h)

      pub variable_goes : {u : Option State} (n : Bytes) (pl : Place) (qi q : Sort) → r ≡ s.var q → Fit qi q →
          If u (IsOver code notes (qi ∷ []) x) →
          Going code notes w ts u (lower.bind (a_variable n pl) l) (walks.bind (a_variable n pl) l q) itself (IsAbove r q)
      variable_goes {u} n pl qi q e f above = then_goes code notes (counted.at_place o.New)
          (step_goes code notes (c.placed pl o.New) (λ s. o.New s.place) (λ s. refl) (qi ∷ []) steady above (s.var q ∷ [])
          (gives 1 (s.var q)) (λ y i. ap (λ st. over (s.var q ∷ []) (record y { stack = st })) (drop_none y.stack))
          (λ y i z m. step.new_asked code notes y (here y i).even m z.place f (fits_itself (parent_of notes) (s.var q))))
          (λ z h. then_goes code notes keeps
          (subst (λ k. Going code notes w ts z (c.kept l) (walks.kept l k) itself (IsAbove r r)) e
          (then_goes code notes counted.away (put_goes (s.var q) r (subst (λ k. Fit (s.var q) k) (sym e)
          (fits_itself (parent_of notes) (s.var q))) h) (λ v k. stays_goes (subst IsKnown (sym e) tt) k)))
          (λ v k. loads_goes q e k))
