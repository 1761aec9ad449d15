-- The notes of a whole program fulfil the rules.
use Rattle.std.proofs.Common.{◌≡◌, ℕ, zero, suc, ◌+◌, List, [], ◌∷◌, length, map, Option, Some, None, Bool, true, false, cond, refl}
use Rattle.std.proofs.Common.{sym, ap, ◌∙◌, subst, arith, true≢false, All, inl, inr, ◌⊎◌}
use Rattle.std.specs.Prelude.{slice_get, option_map}
use Rattle.std.proofs.lemmas.Option.{same_Some, none-some}
use Rattle.verse_base.proofs.Facts.{get_mapped, mapped_get, get_rest}
use Rattle.verse_tree.specs.ItemTree.{FunTree, ItemTree, using, enumeration, class, function}
use Rattle.verse_tree.specs.PostOrder.{items_order}
use Rattle.verse_code.specs.declared.operations.Op.{Op}
use Rattle.verse_code.specs.declared.operations.Op.TheVariants as o
use Rattle.verse_code.specs.declared.codes.Code.{Code}
use Rattle.verse_sorts.specs.Sorts as s
use Rattle.verse_sorts.specs.Sorts.{Sort}
use Rattle.verse_sorts.proofs.Fitting.{fits_itself}
use Rattle.verse_meaning.specs.Programs.{Program, main_in, main_name, same_name}
use Rattle.verse_sound_rules.specs.Found as rules
use Rattle.verse_sound_rules.specs.Programs.{FineFound, Inputs, no_inputs, has_inputs}
use Rattle.verse_verify_kept.specs.Notes.{Notes, FuncNote, Point, live, parent_of, point_at}
use Rattle.verse_verify_kept.specs.Rules as r
use Rattle.verse_verify_kept.specs.Rules.{Verified, MainIs, AllFrom, from_no, from_so, Sound}
use Rattle.verse_verify_faults.specs.Spots as spots
use Rattle.verse_verify_faults.specs.Spots.{point_of, even}
use Rattle.lower_code.specs.Pieces.{Item, sure, leaving}
use Rattle.lower_code.specs.Arounds.{fresh}
use Rattle.lower_code.specs.Defaults.{defaults_in}
use Rattle.lower_code.specs.Programs as c
use Rattle.lower_code.specs.Programs.{Body, methods_in, bodies_in, default_bodies, all_bodies, main_from, item_op, first_spot}
use Rattle.lower_code.specs.Programs.{code_of}
use Rattle.lower_code.proofs.Standing.{Lie, Stands, Entries}
use Rattle.lower_notes.specs.States.{State, spot_of}
use Rattle.lower_notes.specs.Programs as n
use Rattle.lower_notes.specs.Programs.{signed, with_this}
use Rattle.lower_notes.proofs.Whole.{one_for_each}
use Rattle.lower_bounds.proofs.Lists.{Each}
use Rattle.lower_bounds.proofs.Bodies.{BodyHas, all_have, all_each}
use Rattle.lower_simulation_runs.specs.Programs.{Defined, a_function, methods_defined, defined_in, NodeStands, NumbersAgree}
use Rattle.lower_simulation_runs.proofs.Firm.{Sures, Firm, and, one_firm, none_firm}
use Rattle.lower_simulation_runs.proofs.FirmForms.{piece_firm}
use Rattle.lower_sound.specs.Programs.{ItemsFound}
use Rattle.lower_sound.proofs.Whole.{defaults_found}
use Rattle.lower_pass_states.proofs.Points.{pt}
use Rattle.lower_pass_states.proofs.Meeting.{Noted, SoundAt, AllSound, Held}
use Rattle.lower_pass_stretches.proofs.Going.{tables, everywhere}
use Rattle.lower_pass_programs.proofs.Numbers.{methods_many, among_get, body_in, body_placed, body_stands, fun_found}
use Rattle.lower_pass_programs.proofs.Telling.{Told}
use Rattle.lower_pass_programs.proofs.Declared as declared
use Rattle.lower_pass_programs.proofs.Declared.{function_noted}
use Rattle.lower_pass_programs.proofs.Inheriting.{fine_noted}
use Rattle.lower_pass_programs.proofs.Entries.{Known, body_known}
use Rattle.lower_pass_programs.proofs.Bodies.{Knot, Passed, bodies_pass}
use Rattle.lower_pass_programs.proofs.Classes.{class_stands}

-- ---- the code of a program

lie_later : (x : Op) (ops : List Op) (out : ℕ) (is : List Item) (a : ℕ) → Lie ops (λ i. true) out is a →
    Lie (x ∷ ops) (λ i. true) out is (suc a)
lie_later x ops out [] a h = tt
lie_later x ops out (i ∷ is) a h = (record { is = h.0.is; fit = refl }, lie_later x ops out is (suc a) h.1)

lie_all : (out : ℕ) (is : List Item) → Sures is → Lie (map item_op is) (λ i. true) out is 0
lie_all out [] h = tt
lie_all out (sure op ∷ is) h = (record { is = refl; fit = refl }, lie_later op (map item_op is) out is 0 (lie_all out is h))
lie_all out (leaving m ∷ is) h = absurd h

entries_later : {A : Type 0} (x : A) (xs ys : List A) (m : ℕ) → Entries xs ys m → Entries (x ∷ xs) ys (suc m)
entries_later x xs [] m h = tt
entries_later x xs (y ∷ ys) m h = (h.0, entries_later x xs ys (suc m) h.1)

entries_all : {A : Type 0} (xs : List A) → Entries xs xs 0
entries_all [] = tt
entries_all (x ∷ xs) = (refl, entries_later x xs xs 0 (entries_all xs))

bodies_firm : (p : Program) (differ : ℕ → ℕ → Bool) (bs : List Body) → Firm (c.bodies_from p differ bs)
bodies_firm p differ [] = none_firm
bodies_firm p differ (b ∷ bs) =
    and (and (piece_firm p differ b.body b.scope fresh refl) (one_firm o.Return)) (bodies_firm p differ bs)

-- ---- Main

abbrev MainIn : ℕ → List Defined → (main : ℕ) → FunTree → Type 0
MainIn k ds main f = (m : ℕ) × ((main ≡ m + k) × (slice_get ds m ≡ Some (a_function f)))

main_in_is : (is : List ItemTree) (k : ℕ) (f : FunTree) → main_in is ≡ Some f → MainIn k (defined_in is) (main_from k is) f
main_in_is [] k f e = elim (none-some f e) [ ]
main_in_is (using u ∷ is) k f e = main_in_is is k f e
main_in_is (enumeration x ∷ is) k f e = main_in_is is k f e
main_in_is (class d ∷ is) k f e =
    let x = main_in_is is (k + length (methods_in d.members)) f e in
    let ms : List Defined = methods_defined d.members in
    (x.0 + length ms, (behind _ _ _ _ _ x.1.0 (methods_many d.members), get_rest ms (defined_in is) x.0 ∙ x.1.1))
  where
    behind : (a m k i j : ℕ) → a ≡ m + (k + i) → i ≡ j → a ≡ (m + j) + k
    behind a m k i j e h = omega (arith, e, h)
main_in_is (function g ∷ is) k f e = by (same_name g.name main_name) e (λ h. main_in_is is (suc k) f h)
  where
    here : (k : ℕ) → k ≡ 0 + k
    here k = omega arith

    next : (a m k : ℕ) → a ≡ m + suc k → a ≡ suc m + k
    next a m k e = omega (arith, e)

    by : (b : Bool) → cond b (Some g) (main_in is) ≡ Some f →
        (main_in is ≡ Some f → MainIn (suc k) (defined_in is) (main_from (suc k) is) f) →
        MainIn k (a_function g ∷ defined_in is) (cond b k (main_from (suc k) is)) f
    by true e h = (0, (here k, ap (λ (z : FunTree). Some (a_function z)) (same_Some _ _ e)))
    by false e h = let x = h e in (suc x.0, (next _ _ _ x.1.0, x.1.1))

-- ---- what is noted

some_state : (x : Option State) (q : Point) → point_of (option_map spot_of x) ≡ Some q →
    (y : State) × ((x ≡ Some y) × (pt y ≡ q))
some_state None q e = elim (none-some _ e) [ ]
some_state (Some y) q e = (y, (refl, by (even (length y.stack) y.tries) e))
  where
    by : (b : Bool) → cond b (Some (pt y)) None ≡ Some q → pt y ≡ q
    by true e = same_Some _ _ e
    by false e = elim (none-some _ e) [ ]

pub live_is : (x : Option (Option Point)) (q : Point) → live x ≡ Some q → x ≡ Some (Some q)
live_is None q e = elim (none-some _ e) [ ]
live_is (Some x) q e = ap (λ z. Some z) e

module _ (p : Program) (found : rules.Found) (differ : ℕ → ℕ → Bool) (files : ℕ) where
  abbrev code : Code
  code = declared.code p found differ files

  abbrev notes : Notes
  notes = declared.notes p found differ files

  self : (i : ℕ) → i + 0 ≡ i
  self i = omega arith

  abbrev states : List (Option State)
  states = (n.whole p found differ code).states

  whole_stands : Stands (tables code notes) (everywhere code notes) 0 first_spot (c.whole p differ)
  whole_stands = record {
    items = lie_all 0 (c.whole p differ).items ((bodies_firm p differ (all_bodies p.items)).sures first_spot);
    places = entries_all (c.whole p differ).places;
    texts = entries_all (c.whole p differ).texts;
  }

  noted_at : (i : ℕ) (x : Option State) → slice_get states i ≡ Some x →
      slice_get notes.points i ≡ Some (point_of (option_map spot_of x))
  noted_at i x e = get_mapped point_of (map (option_map spot_of) states) i (option_map spot_of x)
      (get_mapped (option_map spot_of) states i x e)

  noted_from : (xs : List (Option State)) (k : ℕ) → ((i : ℕ) (x : Option State) → slice_get xs i ≡ Some x →
      slice_get notes.points (i + k) ≡ Some (point_of (option_map spot_of x))) →
      Noted code notes k xs
  noted_from [] k h = tt
  noted_from (x ∷ xs) k h = (
    subst (λ m. slice_get notes.points m ≡ Some (point_of (option_map spot_of x))) (first k) (h 0 x refl),
    noted_from xs (suc k) (λ i y e. subst
        (λ m. slice_get notes.points m ≡ Some (point_of (option_map spot_of y))) (later i k) (h (suc i) y e)),
  )
    where
      first : (k : ℕ) → 0 + k ≡ k
      first k = omega arith

      later : (i k : ℕ) → suc i + k ≡ i + suc k
      later i k = omega arith

  all_noted : Noted code notes 0 states
  all_noted = noted_from states 0 (λ i x e. subst
      (λ m. slice_get notes.points m ≡ Some (point_of (option_map spot_of x))) (sym (self i)) (noted_at i x e))

  sound_at : (xs : List (Option State)) (k i : ℕ) (x : State) → AllSound code notes k xs →
      slice_get xs i ≡ Some (Some x) → Held code notes (i + k) x
  sound_at [] k i x h e = elim (none-some _ e) [ ]
  sound_at (y ∷ xs) k zero x h e = subst (λ m. Held code notes m x) (first k) (by y (same_Some _ _ e) h.0)
    where
      first : (k : ℕ) → k ≡ 0 + k
      first k = omega arith

      by : (y : Option State) → y ≡ Some x → SoundAt code notes k y → Held code notes k x
      by y e h = subst (SoundAt code notes k) e h
  sound_at (y ∷ xs) k (suc i) x h e = subst (λ m. Held code notes m x) (later i k) (sound_at xs (suc k) i x h.1 e)
    where
      later : (i k : ℕ) → i + suc k ≡ suc i + k
      later i k = omega arith

  module _ (numbers : NumbersAgree p) (nodes : All (NodeStands p) (items_order p.items))
      (items : ItemsFound p found p.items) (told : Told p found) (fine : FineFound p found) where
    known : (g : ℕ) (b : Body) → slice_get (all_bodies p.items) g ≡ Some b → Known p found differ files g b
    known = body_known p found differ files told numbers (fine_noted p found differ files told fine)
        (defaults_found p found p.items items) (λ g b e. of_each (all_bodies p.items) g b e
        (all_have (NodeStands p) p.items (all_each (NodeStands p) (items_order p.items) nodes)))
      where
        of_each : (bs : List Body) (g : ℕ) (b : Body) → slice_get bs g ≡ Some b → Each (BodyHas (NodeStands p)) bs →
            BodyHas (NodeStands p) b
        of_each [] g b e h = elim (none-some _ e) [ ]
        of_each (d ∷ bs) zero b e h = subst (BodyHas (NodeStands p)) (same_Some _ _ e) h.0
        of_each (d ∷ bs) (suc g) b e h = of_each bs g b e h.1

    main_is : (g : FuncNote) → slice_get notes.functions code.main ≡ Some g → MainIs code notes g
    main_is g e =
        let f = fine.main.function in
        let d = main_in_is p.items 0 f fine.main.found in
        let main : ℕ = main_from 0 p.items in
        let at : slice_get (defined_in p.items) main ≡ Some (a_function f) =
        ap (slice_get (defined_in p.items)) (d.1.0 ∙ self d.0) ∙ d.1.1 in
        let note = function_noted p found differ files main (body_in (a_function f))
        (body_placed p numbers main (a_function f) at) in
        let start = told.main f fine.main.found in
        let this = told.this main (a_function f) at in
        subst (MainIs code notes) (same_Some _ _ (sym note ∙ e)) (record {
          sure = start.1;
          params = subst (λ t. AllFrom code notes (s.list s.int) (with_this t (found.signature main).params)) (sym this)
              (inputs start.0);
        })
      where
        inputs : {qs : List Sort} → Inputs qs → AllFrom code notes (s.list s.int) qs
        inputs no_inputs = from_no
        inputs has_inputs = from_so (fits_itself (parent_of notes) (s.list s.int)) from_no

    neither : (g : ℕ) (note : FuncNote) → slice_get notes.functions g ≡ Some note → note.may_fail ≡ true →
        note.may_wait ≡ true → ⊥
    neither g note e fails waits = by (among_get (n.declared found 0 (bodies_in p.items)) defaults g note e)
      where
        defaults : List FuncNote
        defaults = map (n.default_note p found differ code) (default_bodies (defaults_in p.items))

        of_declared : (k i : ℕ) (bs : List Body) → slice_get (n.declared found k bs) i ≡ Some note →
            (b : Body) × (slice_get bs i ≡ Some b)
        of_declared k i [] h = elim (none-some _ h) [ ]
        of_declared k zero (b ∷ bs) h = (b, refl)
        of_declared k (suc i) (b ∷ bs) h = of_declared (suc k) i bs h

        by : (slice_get (n.declared found 0 (bodies_in p.items)) g ≡ Some note) ⊎
            ((j : ℕ) × ((g ≡ j + length (n.declared found 0 (bodies_in p.items))) ×
            (slice_get defaults j ≡ Some note))) → ⊥
        by (inl h) =
            let b = of_declared 0 g (bodies_in p.items) h in
            let d = body_stands p numbers g b.0 b.1 in
            let same : signed (found.signature g) ≡ note =
            same_Some _ _ (sym (function_noted p found differ files g b.0 b.1) ∙ e) in
            told.either g _ (fun_found p numbers g d.0 d.1.0) (ap (λ (z : FuncNote). z.may_fail) same ∙ fails)
            (ap (λ (z : FuncNote). z.may_wait) same ∙ waits)
        by (inr h) =
            let d = mapped_get (n.default_note p found differ code) (default_bodies (defaults_in p.items)) h.0 note
            h.1.1 in
            true≢false (sym fails ∙ sym (ap (λ (z : FuncNote). z.may_fail) d.2))

    module _ (knot : Knot p found differ files) where
      passed : Passed p found differ files 0 first_spot (all_bodies p.items) states
      passed = bodies_pass p found differ files knot (all_bodies p.items) 0 first_spot None
          (λ i b e. subst (λ g. Known p found differ files g b) (sym (self i)) (known i b e))
          (λ i f e. ap (slice_get code.functions) (self i) ∙ e) whole_stands all_noted

      -- each state that is noted, and where it stands
      pub held_states : (i : ℕ) (x : State) → slice_get states i ≡ Some (Some x) → Held code notes i x
      held_states i x e = subst (λ m. Held code notes m x) (self i) (sound_at states 0 i x passed.sound e)

      sound_points : (i : ℕ) (q : Point) → point_at notes i ≡ Some q → Sound code notes i q
      sound_points i q e =
          let x = mapped_get point_of (map (option_map spot_of) states) i (Some q)
          (live_is (slice_get notes.points i) q e) in
          let z = mapped_get (option_map spot_of) states i x.0 x.1 in
          let y = some_state z.0 q (ap point_of z.2 ∙ x.2) in
          subst (λ m. Sound code notes m q) (self i) (subst (Sound code notes (i + 0)) y.1.1
          (sound_at states 0 i y.0 passed.sound (z.1 ∙ ap (λ w. Some w) y.1.0)).sound)

      -- the notes of the program fulfil the rules
      pub verified : Verified (code_of p differ files) (spots.notes_of (n.notes_of p found differ (code_of p differ files)))
      verified =
          let counts = (one_for_each p found differ).whole files in
          record {
            counted = (counts.classes, counts.functions);
            classes = class_stands p found differ files numbers told (fine_noted p found differ files told fine);
            either = neither;
            main = main_is;
            begins = λ k f g e h. subst (λ m. r.Begins code notes f m g) (self k)
                (passed.begins k f g e (ap (slice_get notes.functions) (self k) ∙ h));
            live = sound_points;
          }
