-- The notes of a whole program suit its code.
use Rattle.std.proofs.Common.{◌≡◌, ℕ, zero, suc, ◌+◌, ◌-◌, ◌<◌, ◌≤◌, List, [], ◌∷◌, ◌++◌, length, map, Option, Some, None, Bool, true}
use Rattle.std.proofs.Common.{false, not, ◌||◌, refl, sym, ap, ◌∙◌, subst, arith, All, true≢false}
use Rattle.std.proofs.Common.{length-append}
use Rattle.std.specs.Prelude.{slice_get, option_map, IfSome, nat_lt}
use Rattle.std.specs.List.{AllZip}
use Rattle.std.proofs.lemmas.List.{length-map}
use Rattle.std.proofs.lemmas.Option.{same_Some, none-some}
use Rattle.verse_base.proofs.Facts.{mapped_get, get_within}
use Rattle.verse_tree.specs.PostOrder.{items_order}
use Rattle.verse_code.specs.declared.operations.Op.TheVariants as o
use Rattle.verse_code.specs.declared.codes.Class.{Class}
use Rattle.verse_code.specs.declared.codes.Func.{Func}
use Rattle.verse_code.specs.declared.codes.Code.{Code}
use Rattle.verse_code.specs.Operations as operations
use Rattle.verse_code.specs.Validity.{Valid, IsFunction}
use Rattle.verse_sorts.specs.Sorts as s
use Rattle.verse_sorts.specs.Sorts.{Sort}
use Rattle.verse_meaning.specs.Programs.{Program}
use Rattle.verse_meaning.specs.Evaluating.{number_of}
use Rattle.verse_sound_rules.specs.Found as rules
use Rattle.verse_sound_rules.specs.Found.{Signature}
use Rattle.verse_sound_rules.specs.Programs.{FineFound}
use Rattle.verse_verify_kept.specs.Notes.{ClassNote, FuncNote, Notes}
use Rattle.verse_verify_kept.specs.Rules.{nones}
use Rattle.verse_verify_faults.specs.Spots as spots
use Rattle.verse_verify_faults.specs.Spots.{Spot}
use Rattle.verse_verify_faults.specs.Reading.{defers_in, locals_of}
use Rattle.verse_verify_bytes.specs.Suits.{IsNumber, SuitsSort, SuitsClass, SuitsFunction, SuitsSpot, Suits}
use Rattle.lower_code.specs.Pieces.{Item, sure, Spot as Place_of, past, behind}
use Rattle.lower_code.specs.Arounds.{fresh}
use Rattle.lower_code.specs.Defaults.{defaults_in}
use Rattle.lower_code.specs.Programs as c
use Rattle.lower_code.specs.Programs.{Body, bodies_in, default_bodies, all_bodies, class_of, item_op, first_spot, code_of}
use Rattle.lower_code.proofs.Standing.{behind_is}
use Rattle.lower_bounds.proofs.Lists.{Each, each_first, each_rest, each_joined, each_weaker}
use Rattle.lower_bounds.proofs.Bodies.{each_all, all_each}
use Rattle.lower_simulation_runs.specs.Programs.{NodeStands, NumbersAgree}
use Rattle.lower_sound.specs.Programs.{ItemsFound}
use Rattle.lower_notes.specs.States.{State, spot_of}
use Rattle.lower_notes.specs.Stretches.{ends}
use Rattle.lower_notes.specs.Noting.{walk}
use Rattle.lower_notes.specs.Programs as n
use Rattle.lower_notes.specs.Programs.{signed, with_this, params_of, at_entry}
use Rattle.lower_notes.proofs.Whole.{one_for_each}
use Rattle.lower_notes.proofs.Counted.{walk_then}
use Rattle.lower_pass_programs.proofs.Telling.{Told}
use Rattle.lower_pass_programs.proofs.Declared as declared
use Rattle.lower_pass_programs.proofs.Declared.{noted_class, class_within, class_is}
use Rattle.lower_pass_programs.proofs.Entries.{nones_many}
use Rattle.lower_pass_programs.proofs.Bodies.{Knot}
use Rattle.lower_pass_programs.proofs.Whole.{held_states, verified}
use Rattle.lower_pass_suits.proofs.Spelled.{Spelled}
use Rattle.lower_pass_suits.proofs.Suited.{Suited, SuitedAt, at_on}
use Rattle.lower_pass_suits.proofs.Kept.{Goes, IsSober, Sober, both, just_ends}
use Rattle.lower_pass_suits.proofs.Forms.{trees}
use Rattle.lower_pass_suits.proofs.Sorted.{kind, sort_spelled, made_of}
use Rattle.lower_pass_suits.proofs.Spots.{if_some, suits_spot}

-- ---- lists

zipped : {A B : Type 0} (R : A → B → Type 0) (xs : List A) (ys : List B) → length ys ≡ length xs →
    ((i : ℕ) (x : A) (y : B) → slice_get xs i ≡ Some x → slice_get ys i ≡ Some y → R x y) → AllZip R xs ys
zipped R [] [] e h = tt
zipped R [] (y ∷ ys) e h = absurd (omega (arith, e))
zipped R (x ∷ xs) [] e h = absurd (omega (arith, e))
zipped R (x ∷ xs) (y ∷ ys) e h = (h 0 x y refl refl, zipped R xs ys (omega (arith, e)) (λ i. h (suc i)))

each_at : {A : Type 0} (P : A → Type 0) (xs : List A) → ((i : ℕ) (x : A) → slice_get xs i ≡ Some x → P x) → Each P xs
each_at P [] h = tt
each_at P (x ∷ xs) h = (h 0 x refl, each_at P xs (λ i. h (suc i)))

at_each : {A : Type 0} (P : A → Type 0) (xs : List A) (i : ℕ) (x : A) → slice_get xs i ≡ Some x → Each P xs → P x
at_each P [] i x e h = elim (none-some _ e) [ ]
at_each P (y ∷ xs) zero x e h = subst P (same_Some _ _ e) h.0
at_each P (y ∷ xs) (suc i) x e h = at_each P xs i x e h.1

each_map : {A B : Type 0} (P : B → Type 0) (f : A → B) (xs : List A) → ((x : A) → P (f x)) → Each P (map f xs)
each_map P f [] h = tt
each_map P f (x ∷ xs) h = (h x, each_map P f xs h)

-- ---- what defers nothing

neither : (a b : Bool) → (a || b) ≡ false → (a ≡ false) × (b ≡ false)
neither true b e = absurd (true≢false e)
neither false b e = (refl, e)

item_sober : (i : Item) → nat_lt 63 (operations.code_of (item_op i)) ≡ false → IsSober i
item_sober (sure (o.Defer l)) e = true≢false e
item_sober i e = tt

items_sober : (c : Code) (is : List Item) → defers_in c (map item_op is) ≡ false → Sober is
items_sober c [] e = tt
items_sober c (i ∷ is) e =
    let h = neither (nat_lt 63 (operations.code_of (item_op i))) (defers_in c (map item_op is)) e in
    (item_sober i h.0, items_sober c is h.1)

is_false : (b : Bool) → not b ≡ true → b ≡ false
is_false true e = sym e
is_false false e = refl

-- ---- locals at an entry

nones_each : (P : Sort → Type 0) → P s.none → (m : ℕ) → Each P (nones m)
nones_each P h zero = tt
nones_each P h (suc m) = (h, nones_each P h m)

module _ (p : Program) (found : rules.Found) (differ : ℕ → ℕ → Bool) (files : ℕ) where
  abbrev code : Code
  code = declared.code p found differ files

  abbrev notes : Notes
  notes = declared.notes p found differ files

  abbrev states : List (Option State)
  states = (n.whole p found differ code).states

  bodies_many : (bs : List Body) (s : Place_of) → length (c.funcs_from p differ bs s) ≡ length bs
  bodies_many [] s = refl
  bodies_many (b ∷ bs) s = ap suc (bodies_many bs (past s (c.body_piece p differ b s)))

  module _ (spelled : Spelled p found code) where
    -- ---- functions

    record Spells (g : FuncNote) : Type 0 where
      params : Each (SuitsSort code) g.params
      result : SuitsSort code g.result

    this_spelled : (t : Option ℕ) (qs : List Sort) → ((k : ℕ) → t ≡ Some k → k < length p.names.classes) →
        Each (SuitsSort code) qs → Each (SuitsSort code) (with_this t qs)
    this_spelled None qs h i = i
    this_spelled (Some k) qs h i = (below (h k refl), i)
      where
        below : k < length p.names.classes → k < length (map class_of p.names.classes)
        below h = omega (arith, h, length-map p.names.classes class_of)

    declared_spelled : (k : ℕ) (bs : List Body) → Each Spells (n.declared found k bs)
    declared_spelled k [] = tt
    declared_spelled k (b ∷ bs) = (
      record {
        params = this_spelled (found.signature k).this (found.signature k).params (spelled.this k)
            (all_each (SuitsSort code) (found.signature k).params (spelled.params k));
        result = spelled.result k;
      },
      declared_spelled (suc k) bs,
    )

    all_spelled : Each Spells notes.functions
    all_spelled = each_joined Spells (n.declared found 0 (bodies_in p.items))
        (map (n.default_note p found differ code) (default_bodies (defaults_in p.items)))
        (declared_spelled 0 (bodies_in p.items))
        (each_map Spells (n.default_note p found differ code) (default_bodies (defaults_in p.items))
        (λ b. record { params = tt; result = sort_spelled code p found spelled (number_of b.body) }))

    function_suits : (k : ℕ) (f : Func) (g : FuncNote) → length g.params ≡ f.params → slice_get notes.functions k ≡ Some g →
        SuitsFunction code f g
    function_suits k f g many e =
        let h = at_each Spells notes.functions k g e all_spelled in
        record { params = (many, each_all (SuitsSort code) g.params h.params); result = h.result }

    -- ---- classes

    class_suits : (told : Told p found) (k : ℕ) (m : Class) (x : ClassNote) → slice_get code.classes k ≡ Some m →
        slice_get notes.classes k ≡ Some x → SuitsClass code m x
    class_suits told k m x e h =
        let r = mapped_get class_of p.names.classes k m e in
        let slots = spelled.slots k r.0 r.1 in
        subst (SuitsClass code m) (class_is p found differ files k x h) (record {
          parent = if_some (λ b. b < length code.classes) (found.up k) (λ b i. below (told.above k b i));
          slots = (slots.0 ∙ ap (λ (z : Class). z.slots) r.2, slots.1);
        })
      where
        below : {b : ℕ} → b < length p.names.classes → b < length (map class_of p.names.classes)
        below h = omega (arith, h, length-map p.names.classes class_of)

    -- ---- states

    -- a state in some function
    record Placed (size : ℕ) (x : State) : Type 0 where
      func : ℕ
      there : func < length code.functions
      suited : Suited (kind code func) size x

    abbrev PlacedAt : ℕ → Option State → Type 0
    PlacedAt m None = Unit {0}
    PlacedAt m (Some x) = Placed m x

    placed : (k : ℕ) → k < length code.functions → {m j : ℕ} → m ≤ j → (x : Option State) → SuitedAt (kind code k) m x →
        PlacedAt j x
    placed k t l None h = tt
    placed k t l (Some x) h = record { func = k; there = t; suited = at_on (kind code k) l (Some x) h }

    further : {m j : ℕ} → m ≤ j → (x : Option State) → PlacedAt m x → PlacedAt j x
    further l None h = tt
    further l (Some x) h = record { func = h.func; there = h.there; suited = at_on (kind code h.func) l (Some x) h.suited }

    -- the parameters of a function are among its locals
    abbrev Entered : ℕ → Type 0
    Entered k = (length (params_of (slice_get notes.functions k)) ≤ locals_of code (slice_get code.functions k)) ×
        Each (SuitsSort code) (params_of (slice_get notes.functions k))

    entry_suited : (k at : ℕ) → Entered k → Suited (kind code k) at (n.entry_state p found differ code k)
    entry_suited k at h =
        let ps : List Sort = params_of (slice_get notes.functions k) in
        let m : ℕ = locals_of code (slice_get code.functions k) in
        record {
          func = refl;
          arm = tt;
          locals = (
            omega (arith, length-append ps (nones (m - length ps)), nones_many (m - length ps), h.0),
            each_joined (SuitsSort code) ps (nones (m - length ps)) h.1 (nones_each (SuitsSort code) tt (m - length ps)),
          );
          operands = omega arith;
          stack = tt;
          tries = omega arith;
          blocks = omega arith;
          defers = tt;
          none = λ e. record { block = refl; outer = refl; under = refl; defers = refl };
        }

    body_goes : (k : ℕ) (b : Body) (s : Place_of) (at : ℕ) → Entered k →
        (not (defers_in code code.ops) ≡ true → Sober (c.body_piece p differ b s).items) →
        Goes (kind code k) at (walk_then (walk p found differ b.body b.scope fresh) ends at
        (Some (n.entry_state p found differ code k))).states None
    body_goes k b s at h q =
        (both (trees p found differ (made_of code p found spelled k) b.body b.scope fresh) just_ends).keeps s at
        (Some (n.entry_state p found differ code k)) q (entry_suited k at h)

    bodies_go : (bs : List Body) (k : ℕ) (s : Place_of) (at : ℕ) (x : Option State) → k + length bs ≤ length code.functions →
        ((i : ℕ) → i < length code.functions → Entered i) →
        (not (defers_in code code.ops) ≡ true → Sober (c.bodies_from p differ bs s).items) →
        Each (PlacedAt (at + length (n.bodies_from p found differ code k bs at x).states))
        (n.bodies_from p found differ code k bs at x).states
    bodies_go [] k s at x l h q = tt
    bodies_go (b ∷ bs) k s at x l h q =
        let xs : List (Option State) = (n.body_walk p found differ code k b at x).states in
        let y : Option State = (n.body_walk p found differ code k b at x).exit in
        let ys : List (Option State) = (n.bodies_from p found differ code (suc k) bs (behind xs at) y).states in
        let r : Place_of = past s (c.body_piece p differ b s) in
        let one = body_goes k b s at (h k (omega (arith, l)))
        (λ e. each_first IsSober (c.body_piece p differ b s).items (c.bodies_from p differ bs r).items (q e)) in
        let more = bodies_go bs (suc k) r (behind xs at) y (omega (arith, l)) h
        (λ e. each_rest IsSober (c.body_piece p differ b s).items (c.bodies_from p differ bs r).items (q e)) in
        each_joined (PlacedAt (at + length (xs ++ ys))) xs ys
        (each_weaker (placed k (omega (arith, l)) (omega (arith, length-append xs ys))) xs one.states)
        (each_weaker (further (omega (arith, length-append xs ys, behind_is xs at))) ys more)

    module _ (numbers : NumbersAgree p) (nodes : All (NodeStands p) (items_order p.items)) (items : ItemsFound p found p.items)
        (told : Told p found) (fine : FineFound p found) (knot : Knot p found differ files) (valid : Valid code) where
      functions_many : length notes.functions ≡ length code.functions
      functions_many = ((one_for_each p found differ).whole files).functions

      function_is : (k : ℕ) (f : Func) (g : FuncNote) → slice_get code.functions k ≡ Some f → slice_get notes.functions k ≡ Some g →
          SuitsFunction code f g
      function_is k f g e h =
          function_suits k f g ((verified p found differ files numbers nodes items told fine knot).begins k f g e h).count h

      entered : (k : ℕ) → k < length code.functions → Entered k
      entered k l =
          let f = get_within code.functions k l in
          let g = get_within notes.functions k (omega (arith, l, functions_many)) in
          let is = function_is k f.0 g.0 f.1 g.1 in
          let fits = at_each (IsFunction (length code.ops)) code.functions k f.0 f.1
          (all_each (IsFunction (length code.ops)) code.functions valid.functions) in
          subst (λ (z : Option FuncNote). (length (params_of z) ≤ locals_of code (slice_get code.functions k)) ×
          Each (SuitsSort code) (params_of z)) (sym g.1) (
            subst (λ (z : Option Func). length g.0.params ≤ locals_of code z) (sym f.1)
                (fewer is.params.0 fits.params),
            all_each (SuitsSort code) g.0.params is.params.1,
          )
        where
          fewer : {a b d : ℕ} → a ≡ b → b ≤ d → a ≤ d
          fewer e l = omega (arith, e, l)

      many : length states ≡ length code.ops
      many = sym (length-map states (option_map spot_of)) ∙ ((one_for_each p found differ).whole files).spots

      points_many : length notes.points ≡ length code.ops
      points_many = length-map (map (option_map spot_of) states) spots.point_of ∙
          ((one_for_each p found differ).whole files).spots

      small : IsNumber (0 + length states)
      small = omega (arith, many, valid.counts.ops.1)

      all_placed : Each (PlacedAt (0 + length states)) states
      all_placed = bodies_go (all_bodies p.items) 0 first_spot 0 None (omega (arith, functions_count)) entered
          (λ e. items_sober code (c.whole p differ).items (is_false (defers_in code code.ops) e))
        where
          functions_count : length (all_bodies p.items) ≡ length code.functions
          functions_count = sym (bodies_many (all_bodies p.items) first_spot)

      spot_is : (i : ℕ) (x : Option State) → slice_get states i ≡ Some x → PlacedAt (0 + length states) x →
          IfSome (option_map spot_of x) (SuitsSpot code)
      spot_is i None e h = tt
      spot_is i (Some x) e h = suits_spot code notes points_many (0 + length states) small i x
          (held_states p found differ files numbers nodes items told fine knot i x e) h.func h.there h.suited

      spots_are : Each (λ x. IfSome x (SuitsSpot code)) (map (option_map spot_of) states)
      spots_are = each_at (λ x. IfSome x (SuitsSpot code)) (map (option_map spot_of) states) (λ i y e.
          let x = mapped_get (option_map spot_of) states i y e in
          subst (λ z. IfSome z (SuitsSpot code)) x.2
          (spot_is i x.0 x.1 (at_each (PlacedAt (0 + length states)) states i x.0 x.1 all_placed)))

      all_suit : Suits code (n.notes_of p found differ code)
      all_suit =
          let counts = (one_for_each p found differ).whole files in
          record {
            classes = zipped (SuitsClass code) code.classes notes.classes counts.classes (class_suits told);
            functions = zipped (SuitsFunction code) code.functions notes.functions counts.functions function_is;
            spots = counts.spots;
            each_spot = each_all (λ x. IfSome x (SuitsSpot code)) (map (option_map spot_of) states) spots_are;
          }

module _ (p : Program) (found : rules.Found) (differ : ℕ → ℕ → Bool) (files : ℕ) (numbers : NumbersAgree p)
    (nodes : All (NodeStands p) (items_order p.items)) (items : ItemsFound p found p.items) (told : Told p found)
    (fine : FineFound p found) (knot : Knot p found differ files) where
  -- bytes can spell the notes of the program
  pub suits_of : Valid (code_of p differ files) → Spelled p found (code_of p differ files) →
      Suits (code_of p differ files) (n.notes_of p found differ (code_of p differ files))
  suits_of valid spelled = all_suit p found differ files spelled numbers nodes items told fine knot valid
