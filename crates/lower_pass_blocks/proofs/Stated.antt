-- A statement that is no deferred block, and what is known behind it.
use Rattle.std.proofs.Common.{◌≡◌, ℕ, ◌≤◌, ◌<◌, length, List, [], ◌∷◌, ◌++◌, Option, Some, None, true, false, refl, sym, ◌∙◌, ap, arith}
use Rattle.std.specs.Prelude.{option_map}
use Rattle.std.proofs.lemmas.Option.{same_Some, none-some}
use Rattle.verse_base.specs.declared.places.Place.{Place}
use Rattle.verse_tree.specs.Tree.{Bytes}
use Rattle.verse_tree.specs.declared.tables.Ref.TheVariants as ref
use Rattle.verse_code.specs.declared.codes.Code.{Code}
use Rattle.verse_names_tables.specs.Names.{Table}
use Rattle.verse_sorts.specs.Sorts as s
use Rattle.verse_sorts.specs.Sorts.{Sort, IsKnown, Fits}
use Rattle.verse_sorts.specs.Typing.{at}
use Rattle.verse_sound_rules.specs.Found as rules
use Rattle.verse_sound_rules.specs.Found.{Allowed, New}
use Rattle.verse_meaning.specs.Residuals.{a_constant, a_variable}
use Rattle.verse_verify_kept.specs.Notes.{Notes, parent_of}
use Rattle.lower_code.specs.Pieces.{Maker}
use Rattle.lower_code.specs.declared.arounds.Around.{Around}
use Rattle.lower_code.specs.Scopes.{Scope, Slot, constant_at, variable_at}
use Rattle.lower_code.specs.Lowering as lower
use Rattle.lower_notes.specs.States.{State, with_local}
use Rattle.lower_notes.specs.Stretches.{Walk}
use Rattle.lower_notes.specs.Applied as walks
use Rattle.lower_notes.specs.Laws.{Beside}
use Rattle.lower_notes.proofs.Counted.{code_then, walk_then}
use Rattle.lower_pass_states.proofs.Points.{over}
use Rattle.lower_pass_states.proofs.Locals.{is_at}
use Rattle.lower_pass_stretches.proofs.Names.{Sees}
use Rattle.lower_pass_stretches.proofs.Going.{Way, If, itself, Going, then_goes}
use Rattle.lower_pass_stretches.proofs.Single.{IsValue}
use Rattle.lower_pass_stretches.proofs.Inside.{Inside}
use Rattle.lower_pass_contexts.proofs.After.{After, after_itself, after_bound}
use Rattle.lower_pass_blocks.proofs.Binding.{bound, inside_bound, sees_bound, sees_varying, IsAbove, constant_goes, variable_goes}

module _ (found : rules.Found) (code : Code) (notes : Notes) (w : Way) (ts : List ℕ) (al : Allowed) where
  -- A value above the state behind a statement: k blocks were deferred in it.
  pub record Next (k : ℕ) (q : Sort) (xs : Table) (sc : Scope) (a : Around) (x : Option State) (z : State) : Type 0 where
    pub before : State
    pub is : x ≡ Some before
    pub state : State
    pub above : z ≡ over (q ∷ []) state
    pub inside : Inside code notes found w ts al xs sc a state
    pub after : After code notes k before state

  pub weaker : {x : Option State} {f : Maker} {g : Walk} {k : Option State → Option State} {Q R : State → Type 0} →
      Going code notes w ts x f g k Q → ((z : State) → Q z → R z) → Going code notes w ts x f g k R
  weaker h r = record { leaves = h.leaves; exits = λ s l v z e. r z (h.exits s l v z e); goes = h.goes }

  module _ (xs : Table) (sc : Scope) (a : Around) (x : Option State) (here : If x (Inside code notes found w ts al xs sc a)) where
    abbrev l : ℕ
    l = length sc

    -- an expression
    pub plain_goes : {f : Maker} {g : Walk} (q : Sort) → Going code notes w ts x f g itself (IsValue code notes q x) →
        Going code notes w ts x f g itself (Next 0 q xs sc a x)
    plain_goes q h = weaker h (λ z k. record {
      before = k.0;
      is = k.1.0;
      state = k.0;
      above = k.1.1;
      inside = here k.0 k.1.0;
      after = after_itself code notes k.0;
    })

    -- what stands above the local of a definition
    bound_next : (r q : Sort) (slot : Slot) (ys : Table) →
        (l < w.size → If x (λ y. Sees found al.this ys (slot ∷ sc) (with_local l r y.locals))) → (z : State) →
        IsAbove found code notes w ts al xs sc a x here r q z → Next 0 q ys (slot ∷ sc) a x z
    bound_next r q slot ys sees z k = from x here sees k.0 k.1.0 k.1.1.0 k.1.1.1
      where
        from : (x : Option State) (here : If x (Inside code notes found w ts al xs sc a)) →
            (l < w.size → If x (λ y. Sees found al.this ys (slot ∷ sc) (with_local l r y.locals))) → l < w.size → (v : State) →
            option_map (bound l r) x ≡ Some v → z ≡ over (q ∷ []) v → Next 0 q ys (slot ∷ sc) a x z
        from None here sees free v e f = absurd (none-some v e)
        from (Some y) here sees free v e f = record {
          before = y;
          is = refl;
          state = bound l r y;
          above = f ∙ ap (over (q ∷ [])) (sym (same_Some (bound l r y) v e));
          inside = inside_bound found code notes w ts al xs sc a (Some y) here slot ys r free (sees free) (bound l r y) refl;
          after = after_bound code notes (after_itself code notes y) l r (blank y (here y refl) free);
        }
          where
            within : (n m l : ℕ) → l < n → n ≤ m → l < m
            within n m l h k = omega (arith, h, k)

            same : (k : ℕ) → k ≤ k
            same k = omega arith

            blank : (y : State) → Inside code notes found w ts al xs sc a y → l < w.size → at y.locals l ≡ Some s.none
            blank y h free = let there = is_at y.locals l (within w.size (length y.locals) l free h.room) in
                there.1 ∙ ap Some (h.blank l there.0 (same l) there.1)

    module _ {f : Maker} {g : Walk} (n : Bytes) (m : ℕ) (qi : Sort) (new : New n xs) (beside : Beside f g)
        (fit : Fits (parent_of notes) qi (found.sort m)) (inner : Going code notes w ts x f g itself (IsValue code notes qi x)) where
      -- a constant whose node has a number
      pub defines_constant : found.is_var m ≡ false → IsKnown (found.sort m) →
          Going code notes w ts x (code_then f (lower.bind (a_constant n) l)) (walk_then g (walks.bind (a_constant n) l (found.sort m)))
          itself (Next 0 (found.sort m) (xs ++ (n, ref.Local m) ∷ []) (constant_at n ∷ sc) a x)
      defines_constant v read =
          let sees : l < w.size → If x (λ y. Sees found al.this (xs ++ (n, ref.Local m) ∷ []) (constant_at n ∷ sc)
          (with_local l (found.sort m) y.locals)) = λ free. sees_bound found code notes w ts al xs sc a x here n m new v free in
          then_goes code notes beside inner (λ z h. weaker
          (constant_goes found code notes w ts al xs sc a x here (found.sort m) (constant_at n) (xs ++ (n, ref.Local m) ∷ []) sees n qi read
          fit h) (bound_next (found.sort m) (found.sort m) (constant_at n) (xs ++ (n, ref.Local m) ∷ []) sees))

      -- a variable
      pub defines_variable : (pl : Place) → found.is_var m ≡ true →
          Going code notes w ts x (code_then f (lower.bind (a_variable n pl) l))
          (walk_then g (walks.bind (a_variable n pl) l (found.sort m))) itself
          (Next 0 (found.sort m) (xs ++ (n, ref.Local m) ∷ []) (variable_at n ∷ sc) a x)
      defines_variable pl v =
          let sees : l < w.size → If x (λ y. Sees found al.this (xs ++ (n, ref.Local m) ∷ []) (variable_at n ∷ sc)
          (with_local l (s.var (found.sort m)) y.locals)) = λ free. sees_varying found code notes w ts al xs sc a x here n m new v free in
          then_goes code notes beside inner (λ z h. weaker
          (variable_goes found code notes w ts al xs sc a x here (s.var (found.sort m)) (variable_at n) (xs ++ (n, ref.Local m) ∷ []) sees n
          pl qi (found.sort m) refl fit h)
          (bound_next (s.var (found.sort m)) (found.sort m) (variable_at n) (xs ++ (n, ref.Local m) ∷ []) sees))
