-- What `set` writes, and what it gives.
use Rattle.std.proofs.Common.{◌≡◌, ◌≢◌, ℕ, zero, suc, ◌+◌, ◌≤◌, ◌<◌, length, drop, List, [], ◌∷◌, ◌++◌, Option, Some, None, Bool}
use Rattle.std.proofs.Common.{true, false, ◌⊎◌, inl, inr, refl, sym, ◌∙◌, subst, ap, arith, length-append}
use Rattle.std.specs.Prelude.{option_map}
use Rattle.std.proofs.lemmas.Option.{none-some, same_Some}
use Rattle.std.proofs.Math.Nat.{le_trans, le-max_right}
use Rattle.verse_base.specs.declared.places.Place.{Place}
use Rattle.verse_tree.specs.Tree.{Bytes, Tree, tree}
use Rattle.verse_tree.specs.Tree as t
use Rattle.verse_tree.specs.declared.exprs.Assign.{Assign}
use Rattle.verse_tree.specs.declared.exprs.Assign.TheVariants as assign
use Rattle.verse_tree.specs.declared.tables.Ref.{Ref}
use Rattle.verse_tree.specs.declared.tables.Ref.TheVariants as ref
use Rattle.verse_code.specs.declared.codes.Code.{Code}
use Rattle.verse_code.specs.declared.operations.Op.TheVariants as o
use Rattle.verse_value.specs.declared.modes.Mode.{Mode}
use Rattle.verse_value.specs.declared.modes.Mode.TheVariants as mode
use Rattle.verse_names_tables.specs.Names.{Table}
use Rattle.verse_sorts.specs.Sorts as s
use Rattle.verse_sorts.specs.Sorts.{Sort, IsKnown, Fits, from_never}
use Rattle.verse_sorts.specs.Typing.{at, AllFit, fit_no, fit_so}
use Rattle.verse_sorts.proofs.Fitting.{fits_itself, fits_on}
use Rattle.verse_sorts_values.specs.Operands as v
use Rattle.verse_meaning.specs.Programs.{Program, ref_at}
use Rattle.verse_meaning.specs.Residuals as form
use Rattle.verse_meaning.specs.Residuals.{in_variable, in_self, nowhere}
use Rattle.verse_meaning.specs.Evaluating.{base_of, base_named, base_member, mode_of, number_of}
use Rattle.verse_sound_rules.specs.Found as rules
use Rattle.verse_sound_rules.specs.Found.{Allowed}
use Rattle.verse_sound_rules.specs.Forms as takes
use Rattle.verse_sound_rules.specs.Forms.{Takes, Gives, Placed, in_local, in_own, in_field}
use Rattle.verse_sound_rules.specs.Fine.{FineTarget, sort_at, sorts_at, target_sorts}
use Rattle.verse_sound_rules.specs.Programs.{FineFound}
use Rattle.verse_verify_kept.specs.Notes.{Notes, parent_of}
use Rattle.verse_verify_kept.specs.Rules as r
use Rattle.verse_verify_kept.specs.Rules.{Asked, MayFail, Pops, Slot, AnyNever, first_never}
use Rattle.lower_code.specs.Pieces as c
use Rattle.lower_code.specs.Pieces.{Spot, Piece, Maker, past}
use Rattle.lower_code.proofs.Standing.{rest_stands}
use Rattle.lower_code.specs.declared.arounds.Around.{Around}
use Rattle.lower_code.specs.Arounds.{up, raised}
use Rattle.lower_code.specs.Scopes.{Scope, hidden}
use Rattle.lower_code.specs.Applied as apply
use Rattle.lower_code.specs.Applied.{mode_number, slot_of}
use Rattle.lower_code.specs.Lowering.{keeps, has_base, piece, shape_piece, target_piece, target_operands, how_many}
use Rattle.lower_notes.specs.States.{State, gives, pops}
use Rattle.lower_notes.specs.Stretches as n
use Rattle.lower_notes.specs.Stretches.{Stretch, Walk, with_value}
use Rattle.lower_notes.specs.Applied as walks
use Rattle.lower_notes.specs.Noting as noting
use Rattle.lower_notes.specs.Laws.{Beside}
use Rattle.lower_notes.proofs.Counted as counted
use Rattle.lower_notes.proofs.Counted.{code_then, walk_then}
use Rattle.lower_notes.proofs.Others as others
use Rattle.lower_sound.proofs.Counts.{fit_many, sorts_many}
use Rattle.lower_pass_states.proofs.Points.{pt, Even, over, stack_over}
use Rattle.lower_pass_states.proofs.Locals.{with_here, is_at}
use Rattle.lower_pass_states.proofs.Meeting.{Meets}
use Rattle.lower_pass_states.proofs.Steps as step
use Rattle.lower_pass_states.proofs.Steps.{turned, turned_on, pops_all, goes_over, never_over, fails_over}
use Rattle.lower_pass_states.proofs.Operands.{has_never}
use Rattle.lower_pass_stretches.proofs.Going.{Way, If, itself, Lies, Going, Steady, then_goes}
use Rattle.lower_pass_stretches.proofs.Single.{IsValue}
use Rattle.lower_pass_stretches.proofs.Inside.{Inside, steady_of}
use Rattle.lower_pass_stretches.proofs.Combined.{if_map}
use Rattle.lower_pass_contexts.proofs.After.{After, after_itself, after_bound}
use Rattle.lower_pass_forms.proofs.Finishing.{IsOver, last_goes, step_goes, drop_goes, so_if}
use Rattle.lower_pass_forms.proofs.Applied.{noted_found}
use Rattle.lower_pass_forms.proofs.Calls.{Declared}
use Rattle.lower_pass_blocks.proofs.Binding.{bound, IsAbove, put_goes, stays_goes, sees_more, inside_bound}
use Rattle.verse_sound_rules.specs.Fine.{Settled, Stores, stores_value, stores_nothing}
use Rattle.lower_pass_values.proofs.Operands.{AreKnown, turned_known, inside_raised, value_over, after_last_goes}
use Rattle.lower_pass_values.proofs.Targets.{TargetOf, target_here, has_base_so}

-- the number of a new place is used
module _ (code : Code) (notes : Notes) where
  pub numbered_goes : {w : Way} {ts : List ℕ} {x : Option State} {g : Walk} {k : Option State → Option State} {Q : State → Type 0}
      (pl : Place) (f : ℕ → Maker) → ((m : ℕ) → Going code notes w ts x (f m) g k Q) → Going code notes w ts x (c.numbering pl f) g k Q
  numbered_goes {w = w} {x = x} {g = g} pl f h = record {
    leaves = λ s l v e. (h s.place).leaves (behind s) (lies s l) v e;
    exits = λ s l v. (h s.place).exits (behind s) (lies s l) v;
    goes = λ s l v m. (h s.place).goes (behind s) (lies s l) v m;
  }
    where
      first : Piece
      first = record { items = []; places = pl ∷ []; texts = []; locals = 0 }

      behind : Spot → Spot
      behind s = past s first

      lies : (s : Spot) → Lies code notes w s (c.numbering pl f s) (g s.at x) →
          Lies code notes w (behind s) (f s.place (behind s)) (g s.at x)
      lies s l = record {
        stands = rest_stands first (f s.place (behind s)) l.stands;
        states = l.states;
        left = l.left;
        room = le_trans (le-max_right 0 (f s.place (behind s)).locals) l.room;
      }

  -- ---- Store

  module _ (y : State) (even : Even y) where
    -- the value on top, the indices, and what has the place as a slot
    abbrev pub stored : List Sort → Sort → Sort → State
    stored is a v = over (v ∷ turned is (a ∷ [])) y

    popped : (is : List Sort) (a : Sort) (m : ℕ) → m ≡ length is →
        Pops m (turned is (a ∷ []) ++ (pt y).stack) [] is (a ∷ (pt y).stack)
    popped is a m e = subst (λ st. Pops m st [] is (a ∷ (pt y).stack))
        (turned_on is [] (a ∷ (pt y).stack) ∙ sym (turned_on is (a ∷ []) (pt y).stack)) (pops_all code notes is (a ∷ (pt y).stack) m e)

    pub store_asked : {i : ℕ} {q a u d v : Sort} (slot m number k : ℕ) (is : List Sort) → Meets code notes (over (q ∷ []) y) (suc i) →
        m ≡ length is → Slot code notes a slot u → r.Path code notes u is d → r.Mode code notes number v d →
        (is ≢ [] → MayFail code notes (pt y)) → Fits (parent_of notes) d q →
        Asked code notes i (pt (stored is a v)) (o.Store slot m number k)
    store_asked {q = q} {a = a} {d = d} {v = v} slot m number k is meets many place path mode fails fit =
        goes_over code notes y even (v ∷ turned is (a ∷ [])) (q ∷ []) (d ∷ []) meets (fit_so fit fit_no) (λ t.
        r.of_store (stack_over y even (v ∷ turned is (a ∷ []))) (popped is a m many) place path mode
        (λ some. fails_over code notes y even (v ∷ turned is (a ∷ [])) (fails some)) t)

-- ---- what is written, in each mode

-- the sort of a place is that of what is written to it, but where one of the two is that of no value
abbrev pub Alike : Sort → Sort → Type 0
Alike d q = (q ≡ s.never) ⊎ ((d ≡ s.never) ⊎ (d ≡ q))

module _ (p : Program) (found : rules.Found) (code : Code) (notes : Notes) where
  abbrev F : rules.Found
  F = noted_found notes found

  abbrev Fit : Sort → Sort → Type 0
  Fit = Fits (parent_of notes)

  no_set : {A : Type 0} → mode.Set ≢ mode.Set → A
  no_set h = absurd (h refl)

  mode_by : (m : Mode) {q taken d given : Sort} → Fit q taken → v.Writes (parent_of notes) m taken d given →
      r.Mode code notes (mode_number m) q d
  mode_by mode.Set f (v.writes_set g) = r.mode_set (fits_on (parent_of notes) f g)
  mode_by mode.Set f (v.writes_never h) = no_set h
  mode_by mode.Add f v.writes_sum = r.mode_int f
  mode_by mode.Add f v.writes_lists = r.mode_list f
  mode_by mode.Add f (v.writes_never h) = r.mode_never
  mode_by mode.Sub f v.writes_difference = r.mode_int f
  mode_by mode.Sub f (v.writes_never h) = r.mode_never
  mode_by mode.Mul f v.writes_product = r.mode_int f
  mode_by mode.Mul f (v.writes_never h) = r.mode_never

  pub mode_so : (m : Assign) {q d g : Sort} → Stores p F (mode_of m) q d g →
      (q ≡ s.never) ⊎ r.Mode code notes (mode_number (mode_of m)) q d
  mode_so m (stores_value taken given f h k) = inr (mode_by (mode_of m) f h)
  mode_so m stores_nothing = inl refl

  -- a value that is kept is of the sort that is wanted
  set_gives : {q taken d given g : Sort} → Fit q taken → v.Writes (parent_of notes) mode.Set taken d given → Fit given g → Fit q g
  set_gives f (v.writes_set h) k = fits_on (parent_of notes) f k
  set_gives f (v.writes_never h) k = no_set h

  pub kept_fits : (m : Assign) (b : Bool) {q d g : Sort} → keeps m b ≡ true → Stores p F (mode_of m) q d g → Fit q g
  kept_fits m b e stores_nothing = from_never
  kept_fits assign.Set b e (stores_value taken given f h k) = set_gives f h k
  kept_fits assign.Add b e h = absurd (cc)
  kept_fits assign.Sub b e h = absurd (cc)
  kept_fits assign.Mul b e h = absurd (cc)

  -- or else what stands at the place then is
  added_gives : {taken d given g : Sort} (m : Mode) → m ≢ mode.Set → v.Writes (parent_of notes) m taken d given → Fit given g → Fit d g
  added_gives mode.Set differs h k = no_set differs
  added_gives mode.Add differs v.writes_sum k = k
  added_gives mode.Add differs v.writes_lists k = k
  added_gives mode.Add differs (v.writes_never h) k = from_never
  added_gives mode.Sub differs v.writes_difference k = k
  added_gives mode.Sub differs (v.writes_never h) k = from_never
  added_gives mode.Mul differs v.writes_product k = k
  added_gives mode.Mul differs (v.writes_never h) k = from_never

  pub place_fits : (m : Assign) (b : Bool) {q d g : Sort} → keeps m b ≡ false → (b ≡ false → Alike d q) → Stores p F (mode_of m) q d g →
      (q ≡ s.never) ⊎ Fit d g
  place_fits m b e same stores_nothing = inl refl
  place_fits assign.Set b {q = q} {d = d} {g = g} e same (stores_value taken given f h k) = by (same e)
    where
      by : Alike d q → (q ≡ s.never) ⊎ Fit d g
      by (inl none) = inl none
      by (inr (inl none)) = inr (subst (λ z. Fit z g) (sym none) from_never)
      by (inr (inr i)) = inr (subst (λ z. Fit z g) (sym i) (set_gives f h k))
  place_fits assign.Add b e same (stores_value taken given f h k) = inr (added_gives mode.Add (λ i. cc) h k)
  place_fits assign.Sub b e same (stores_value taken given f h k) = inr (added_gives mode.Sub (λ i. cc) h k)
  place_fits assign.Mul b e same (stores_value taken given f h k) = inr (added_gives mode.Mul (λ i. cc) h k)

none_or_some : (is : List Sort) → (is ≡ []) ⊎ (is ≢ [])
none_or_some [] = inl refl
none_or_some (i ∷ is) = inr (λ e. cc)

drop_all : (m : ℕ) (qs st : List Sort) → m ≡ length qs → drop m (qs ++ st) ≡ st
drop_all zero [] [] e = refl
drop_all zero [] (q ∷ st) e = refl
drop_all zero (q ∷ qs) st e = absurd (cc)
drop_all (suc m) [] st e = absurd (cc)
drop_all (suc m) (q ∷ qs) st e = drop_all m qs st (omega (arith, e))

many_turned : (is qs : List Sort) → length (turned is qs) ≡ length is + length qs
many_turned [] qs = omega arith
many_turned (i ∷ is) qs = omega (arith, many_turned is (i ∷ qs))

module _ (p : Program) (found : rules.Found) (code : Code) (notes : Notes) (w : Way) (ts : List ℕ) (al : Allowed) (xs : Table)
    (sc : Scope) (a : Around) (x : Option State) (here : If x (Inside code notes (noted_found notes found) w ts al xs sc a)) where
  abbrev G : rules.Found
  G = noted_found notes found

  abbrev Fit2 : Sort → Sort → Type 0
  Fit2 = Fits (parent_of notes)

  abbrev l : ℕ
  l = length sc

  steady : If x (Steady code notes ts)
  steady y e = steady_of code notes (here y e)

  -- the value is of the sort qv, and the place of the sort d
  module _ (is : List Sort) (holder whole d q qv : Sort) (slot number m : ℕ) (many : m ≡ length is)
      (held : AreKnown (turned is (holder ∷ [])))
      (place : Slot code notes holder slot whole) (path : r.Path code notes whole is d)
      (mode : (qv ≡ s.never) ⊎ r.Mode code notes number qv d) (fails : is ≢ [] → (al.fails ≡ true) ⊎ (qv ≡ s.never)) where
    abbrev os : List Sort
    os = turned is (holder ∷ [])

    writes : (y : State) → Even y → (al.fails ≡ true → MayFail code notes (pt y)) → {i : ℕ} {g : Sort} (k : ℕ) →
        Meets code notes (over (g ∷ []) y) (suc i) → (qv ≡ s.never) ⊎ Fit2 d g →
        Asked code notes i (pt (over (qv ∷ os) y)) (o.Store slot m number k)
    writes y even may {i} {g} k meets fit = by fit mode
      where
        nothing : qv ≡ s.never → Asked code notes i (pt (over (qv ∷ os) y)) (o.Store slot m number k)
        nothing none = never_over code notes y even (qv ∷ os)
            (subst (λ b. AnyNever (b ∷ (os ++ (pt y).stack))) (sym none) first_never)

        wrote : Fit2 d g → r.Mode code notes number qv d → (is ≢ [] → MayFail code notes (pt y)) →
            Asked code notes i (pt (over (qv ∷ os) y)) (o.Store slot m number k)
        wrote f h may = store_asked code notes y even slot m number k is meets many place path h may f

        by_fails : Fit2 d g → r.Mode code notes number qv d → (al.fails ≡ true) ⊎ (qv ≡ s.never) →
            Asked code notes i (pt (over (qv ∷ os) y)) (o.Store slot m number k)
        by_fails f h (inl e) = wrote f h (λ some. may e)
        by_fails f h (inr none) = nothing none

        by_indices : Fit2 d g → r.Mode code notes number qv d → (is ≡ []) ⊎ (is ≢ []) →
            Asked code notes i (pt (over (qv ∷ os) y)) (o.Store slot m number k)
        by_indices f h (inl e) = wrote f h (λ some. absurd (some e))
        by_indices f h (inr some) = by_fails f h (fails some)

        by : (qv ≡ s.never) ⊎ Fit2 d g → (qv ≡ s.never) ⊎ r.Mode code notes number qv d →
            Asked code notes i (pt (over (qv ∷ os) y)) (o.Store slot m number k)
        by (inl none) h = nothing none
        by (inr f) (inl none) = nothing none
        by (inr f) (inr h) = by_indices f h (none_or_some is)

    -- what stands at the place then is the value
    plain_goes : {u : Option State} (k : ℕ) → (qv ≡ s.never) ⊎ Fit2 d q → If u (IsOver code notes (qv ∷ os) x) →
        Going code notes w ts u (c.one (o.Store slot m number k)) n.last (with_value q x) (λ z. Unit {0})
    plain_goes k fit above = last_goes code notes (c.one (o.Store slot m number k)) (λ s. o.Store slot m number k) (λ s. refl) (qv ∷ os)
        steady above q (λ y e s meets. writes y (here y e).even (here y e).fails k meets fit)

    -- the value was put into a local, and is read from there
    module _ {u v : Option State} (k : ℕ) (inside : If v (Inside code notes G w ts al xs (hidden ∷ sc) a))
        (above : If u (IsOver code notes (qv ∷ os) v)) (known : If v (λ z. (y : State) × ((x ≡ Some y) × After code notes 0 y z)))
        (kept : If v (λ z. at z.locals l ≡ Some qv)) (read : IsKnown qv) (fit : Fit2 qv q) where
      calm : If v (Steady code notes ts)
      calm y e = steady_of code notes (inside y e)

      dropped : (y : State) → gives (suc (suc m)) d (over (qv ∷ os) y) ≡ over (d ∷ []) y
      dropped y = ap (λ st. over (d ∷ []) (record y { stack = st })) (drop_all (suc m) os y.stack (one_more m is many (many_turned is
          (holder ∷ []))))
        where
          one_more : (m : ℕ) (is : List Sort) → m ≡ length is → length os ≡ length is + length (holder ∷ []) → suc m ≡ length os
          one_more m is e f = omega (arith, e, f)

      behind_store : Going code notes w ts u (code_then (c.one (o.Store slot m number k)) (code_then (c.one o.Drop) (c.one (o.Get l))))
          (walk_then (n.one (gives (suc (suc m)) d)) (walk_then (n.one (pops 1)) n.last)) (with_value q x) (λ z. Unit {0})
      behind_store = then_goes code notes counted.just
          (step_goes code notes (c.one (o.Store slot m number k)) (λ s. o.Store slot m number k) (λ s. refl) (qv ∷ os) calm above (d ∷ [])
          (gives (suc (suc m)) d) (λ y e. dropped y)
          (λ y e s meets. writes y (inside y e).even (inside y e).fails k meets (inr (fits_itself (parent_of notes) d))))
          (λ z i. then_goes code notes counted.just (drop_goes code notes calm d [] i) (λ z j.
          after_last_goes G code notes w ts al xs sc x (c.one (o.Get l)) (λ s. o.Get l) (λ s. refl) [] qv q calm j known fit
          (λ y e s meets. step.get_asked code notes y (inside y e).even meets l (kept y e) read (fits_itself (parent_of notes) qv))))

    -- the value goes into a local
    abbrev below : Option State
    below = option_map (over os) x

    abbrev raised_os : Around
    raised_os = raised (length os) a

    here_below : If below (Inside code notes G w ts al xs sc raised_os)
    here_below = if_map code notes (Inside code notes G w ts al xs sc raised_os) (over os) x
        (λ y e. inside_raised G code notes w ts al xs sc x os held a y (here y e))

    above_below : {u : Option State} → If u (IsOver code notes (qv ∷ os) x) → If u (IsOver code notes (qv ∷ []) below)
    above_below above z e = let k = above z e in (over os k.0, (ap (option_map (over os)) k.1.0, k.1.1))

    -- what is known behind it
    bound_over : (x : Option State) (y z : State) → option_map (bound l qv) (option_map (over os) x) ≡ Some y → z ≡ over (qv ∷ []) y →
        IsOver code notes (qv ∷ os) (option_map (bound l qv) x) z
    bound_over None y z e f = absurd (none-some y e)
    bound_over (Some x) y z e f = (bound l qv x, (refl, f ∙ ap (over (qv ∷ [])) (sym (same_Some (bound l qv (over os x)) y e))))

    within : (n m l : ℕ) → l < n → n ≤ m → l < m
    within n m l h k = omega (arith, h, k)

    same : (k : ℕ) → k ≤ k
    same k = omega arith

    blank : (y : State) → x ≡ Some y → l < w.size → at y.locals l ≡ Some s.none
    blank y e free = let h = here y e in let there = is_at y.locals l (within w.size (length y.locals) l free h.room) in
        there.1 ∙ ap Some (h.blank l there.0 (same l) there.1)

    tail_goes : (u : Option State) (k : ℕ) → IsKnown qv → Fit2 qv q →
        If u (IsAbove G code notes w ts al xs sc raised_os below here_below qv qv) →
        Going code notes w ts u (code_then (c.one (o.Store slot m number k)) (code_then (c.one o.Drop) (c.one (o.Get l))))
        (walk_then (n.one (gives (suc (suc m)) d)) (walk_then (n.one (pops 1)) n.last)) (with_value q x) (λ z. Unit {0})
    tail_goes None k read fit h = behind_store {u = None} {v = None} k (λ z e. absurd (none-some z e)) (λ z e. absurd (none-some z e))
        (λ z e. absurd (none-some z e)) (λ z e. absurd (none-some z e)) read fit
    tail_goes (Some t) k read fit h =
        let free = (h t refl).0 in
        behind_store {u = Some t} {v = option_map (bound l qv) x} k
        (inside_bound G code notes w ts al xs sc a x here hidden xs qv free (sees_more G code notes w ts al xs sc a x here qv))
        (λ z e. let i = (h z e).1 in bound_over x i.0 z i.1.0 i.1.1)
        (if_map code notes (λ z. (y : State) × ((x ≡ Some y) × After code notes 0 y z)) (bound l qv) x
        (λ y e. (y, (e, after_bound code notes (after_itself code notes y) l qv (blank y e free)))))
        (if_map code notes (λ z. at z.locals l ≡ Some qv) (bound l qv) x
        (λ y e. with_here l qv y.locals (within w.size (length y.locals) l free (here y e).room))) read fit

    kept_goes : {u : Option State} (k : ℕ) → IsKnown qv → Fit2 qv q → If u (IsOver code notes (qv ∷ os) x) →
        Going code notes w ts u (apply.storing (o.Store slot m number k) true l) (walks.storing true l (suc m) d qv) (with_value q x)
        (λ z. Unit {0})
    kept_goes k read fit above = then_goes code notes others.keeps
        (then_goes code notes counted.away
        (put_goes G code notes w ts al xs sc raised_os below here_below qv qv (fits_itself (parent_of notes) qv) (above_below above))
        (λ z h. stays_goes G code notes w ts al xs sc raised_os below here_below qv hidden xs
        (λ free. sees_more G code notes w ts al xs sc raised_os below here_below qv) read h))
        (λ z h. tail_goes z k read fit h)

    -- in either way
    pub stores_go : {u : Option State} (b : Bool) (k : ℕ) → (b ≡ true → IsKnown qv × Fit2 qv q) → (b ≡ false → (qv ≡ s.never) ⊎ Fit2 d q) →
        If u (IsOver code notes (qv ∷ os) x) →
        Going code notes w ts u (apply.storing (o.Store slot m number k) b l) (walks.storing b l (suc m) d qv) (with_value q x)
        (λ z. Unit {0})
    stores_go true k f g above = kept_goes k (f refl).0 (f refl).1 above
    stores_go false k f g above = plain_goes k (g refl) above

-- ---- the whole `set`

module _ (p : Program) (found : rules.Found) (differ : ℕ → ℕ → Bool) (code : Code) (notes : Notes)
    (declared : Declared p found code notes) (fine : FineFound p (noted_found notes found)) (w : Way) (ts : List ℕ)
    (al : Allowed) (xs : Table) (sc : Scope) (a : Around) (x : Option State)
    (here : If x (Inside code notes (noted_found notes found) w ts al xs sc a)) where
  abbrev H : rules.Found
  H = noted_found notes found

  none_many : {m : ℕ} (is : List Sort) → m ≡ length is → is ≢ [] → m ≢ 0
  none_many [] e some = absurd (some refl)
  none_many (i ∷ is) e some = λ f. more (length is) (sym e ∙ f)
    where
      more : (n : ℕ) → suc n ≡ 0 → ⊥
      more n h = absurd (cc)

  pub assignment_goes : (m : Assign) (b d : Tree) (i : ℕ) (pl : Place) → FineTarget p H al xs b → Settled p H al xs b →
      Stores p H (mode_of m) (sort_at p H d) (sort_at p H b) (H.sort i) →
      (target_operands b ≢ 0 → (al.fails ≡ true) ⊎ (sort_at p H d ≡ s.never)) →
      (differ (number_of b) (number_of d) ≡ false → Alike (sort_at p H b) (sort_at p H d)) → IsKnown (sort_at p H d) →
      Beside (target_piece p differ b (base_of p b) sc a) (noting.target_walk p found differ b (base_of p b) sc a) →
      TargetOf p found differ code notes declared fine w ts al xs sc a x b →
      Beside (piece p differ d sc (up (raised (target_operands b) a)))
      (noting.walk p found differ d sc (up (raised (target_operands b) a))) →
      ((u : Option State) → If u (Inside code notes H w ts al xs sc (up (raised (target_operands b) a))) →
      Going code notes w ts u (piece p differ d sc (up (raised (target_operands b) a)))
      (noting.walk p found differ d sc (up (raised (target_operands b) a))) itself (IsValue code notes (sort_at p H d) u)) →
      Going code notes w ts x (shape_piece p differ (t.Shape.assignment m b d) i pl sc a)
      (noting.shape_walk p found differ (t.Shape.assignment m b d) i pl sc a) (with_value (H.sort i) x) (λ z. Unit {0})
  assignment_goes m b d i pl target_fine settled stores fails same read b1 target b2 value =
      let os = turned target.indices (target.holder ∷ []) in
      let kept = keeps m (differ (number_of b) (number_of d)) in
      let calm : If x (Steady code notes ts) = λ y e. steady_of code notes (here y e) in
      then_goes code notes b1 target.goes (λ u k. then_goes code notes b2
      (value u (target_here p found differ code notes declared fine w ts al xs sc a x here target k)) (λ v j.
      let above : If v (IsOver code notes (sort_at p H d ∷ os) x) = value_over H code notes w ts al xs sc x (sort_at p H d) os k j in
      so_if code notes (sort_at p H d ∷ os) calm above (has_base p differ b (base_of p b) sc)
      (has_base_so p found differ code notes declared fine w ts al xs sc a x here b target_fine settled)
      (numbered_goes code notes pl (λ n. apply.storing (o.Store (slot_of (base_of p b)) (target_operands b) (mode_number (mode_of m)) n)
      kept (length sc)) (λ n.
      stores_go p found code notes w ts al xs sc a x here target.indices target.holder target.whole (sort_at p H b) (H.sort i)
      (sort_at p H d) (slot_of (base_of p b)) (mode_number (mode_of m)) (target_operands b) target.many
      (turned_known target.indices (target.holder ∷ []) target.known.1 (target.known.0, tt)) target.slot target.path
      (mode_so p found code notes m stores) (λ some. fails (none_many target.indices target.many some)) kept n
      (λ e. (read, kept_fits p found code notes m (differ (number_of b) (number_of d)) e stores))
      (λ e. place_fits p found code notes m (differ (number_of b) (number_of d)) e same stores) above))))

-- ---- where a failure is taken

module _ (p : Program) (found : rules.Found) (al : Allowed) (xs : Table) where
  variable_none : {os : List Sort} {q : Sort} (y : Bytes) → Placed p found al xs (in_variable y) os q → length os ≡ 0
  variable_none y (in_local e v) = refl

  own_none : {os : List Sort} {q : Sort} (k : ℕ) → Placed p found al xs (in_self k) os q → length os ≡ 0
  own_none k (in_own d e f) = refl

  named_none : {os : List Sort} {q : Sort} (i : Option Ref) (y : Bytes) → Placed p found al xs (base_named p i y) os q → length os ≡ 0
  named_none (Some (ref.Field c k)) y h = own_none k h
  named_none i y h = variable_none y h

  not_nowhere : {A : Type 0} {os : List Sort} {q : Sort} → Placed p found al xs nowhere os q → A
  not_nowhere h = elim h [ ]

  member_one : {os : List Sort} {q : Sort} (i : Option Ref) → Placed p found al xs (base_member p i) os q → length os ≡ 1
  member_one (Some (ref.Field c k)) (in_field e) = refl
  member_one i h = not_nowhere h

  none_placed : (n : ℕ) → n ≡ 0 → 0 ≡ n + 0
  none_placed n e = omega (arith, e)

  one_placed : (n : ℕ) → n ≡ 1 → 1 ≡ n + 0
  one_placed n e = omega (arith, e)

  more_placed : (i j k n m a : ℕ) → i ≡ j + k → j ≡ n + m → k ≡ a → i ≡ n + (a + m)
  more_placed i j k n m a e f g = omega (arith, e, f, g)

  placed_many : {os : List Sort} {q : Sort} (b : Tree) → FineTarget p found al xs b → Placed p found al xs (base_of p b) os q →
      length (target_sorts p found b) ≡ length os + target_operands b
  placed_many {os} (tree i pl (t.Shape.name y)) g h = none_placed (length os) (named_none (ref_at p i) y h)
  placed_many {os} (tree i pl (t.Shape.member b y)) g h = one_placed (length os) (member_one (ref_at p i) h)
  placed_many {os} (tree i pl (t.Shape.index b is)) g h = more_placed (length (target_sorts p found b ++ sorts_at p found is))
      (length (target_sorts p found b)) (length (sorts_at p found is)) (length os) (target_operands b) (how_many is)
      (length-append (target_sorts p found b) (sorts_at p found is)) (placed_many b g.0 h) (sorts_many p found is)
  placed_many (tree i pl z) g h = elim g [ ]

  -- an index of what `set` writes to takes a failure
  pub index_fails : (b : Tree) → Settled p found al xs b → target_operands b ≢ 0 → al.fails ≡ true
  index_fails (tree i pl (t.Shape.index b is)) h some = h.2
  index_fails (tree i pl x) h some = absurd (some refl)

  -- or an operand gives no value, so far as is known of the form
  pub fails_told : {x : Mode} {pl : Place} {q : Sort} (b : Tree) (qv : Sort) → FineTarget p found al xs b →
      Gives p found al xs (form.storing (base_of p b) x pl) (target_sorts p found b ++ qv ∷ []) q → target_operands b ≢ 0 →
      (al.fails ≡ true) ⊎ AnyNever (target_sorts p found b ++ qv ∷ [])
  fails_told {x} {pl} b qv g e some = by e.operands e.takes
    where
      no_index : (n m k : ℕ) → n ≡ m + k → n + 1 ≡ m + (0 + 1) → k ≡ 0
      no_index n m k e f = omega (arith, e, f)

      any_index : (rs is : List Sort) (v : Sort) {r : Sort} → Placed p found al xs (base_of p b) rs r →
          AllFit found.up (target_sorts p found b ++ qv ∷ []) (rs ++ (is ++ v ∷ [])) → is ≢ []
      any_index rs is v place h none = some (no_index (length (target_sorts p found b)) (length rs) (target_operands b)
          (placed_many b g place) (sym (length-append (target_sorts p found b) (qv ∷ [])) ∙ fit_many h ∙ length-append rs (is ++ v ∷ []) ∙
          ap (λ zs. length rs + length (zs ++ v ∷ [])) none))

      by : {taken : List Sort} {given : Sort} → AllFit found.up (target_sorts p found b ++ qv ∷ []) taken →
          Takes p found al xs (form.storing (base_of p b) x pl) taken given →
          (al.fails ≡ true) ⊎ AnyNever (target_sorts p found b ++ qv ∷ [])
      by h (takes.takes_never (takes.spared_place rs r place n)) = inr (has_never found.up h n)
      by h (takes.takes_place rs is r v d place path write fails) = inl (fails (any_index rs is v place h))
