-- Values that fit are read.
use Rattle.std.proofs.Common.{◌≡◌, ℕ, zero, suc, ◌+◌, ◌<◌, ◌≤◌, Bool, true, false, ltb, leb, eqb, List, [], ◌∷◌, length}
use Rattle.std.proofs.Common.{Option, Some, None, slice_get, Ok, refl, ap, ◌∙◌, arith}
use Rattle.std.specs.Prelude.{option_map}
use Rattle.std.proofs.lemmas.Bool.{lt-ltb, le-ltb, leb-true, eqb-true, and_parts}
use Rattle.verse_base.proofs.Facts.{none_of_next, cond_none, none_cond}
use Rattle.verse_image.specs.Format.{◌⨾◌, byte, plain, each, flag}
use Rattle.verse_image.specs.Reading.{◌>>=◌}
use Rattle.verse_image.proofs.NumberLaws.{integer_again}
use Rattle.verse_value.specs.Val.{Val, unit, falsity, truth, int, char, enum, object, event, task, some, array, mapping, tuple}
use Rattle.verse_value.specs.Val.{Vals, no_vals, more_vals, vals, list_of, Pairs, no_pairs, more_pairs, entries_of}
use Rattle.verse_value.specs.declared.keys.Key.{Key}
use Rattle.verse_value.specs.declared.keys.Key.TheVariants as key
use Rattle.verse_value.specs.Keys.{key_eq, at_key}
use Rattle.verse_value.specs.Entries.{key_place}
use Rattle.verse_value.specs.Parts.{keys_in}
use Rattle.verse_value.specs.Places.{with_last}
use Rattle.verse_value.specs.Sizes.{fits, key_weight, weight_of, weights, pair_weights, levels_of, most_levels, most_pair_levels}
use Rattle.verse_value.specs.contracts.keys.KeyEq.TheImpl.Laws.{laws-law}
use Rattle.verse_value.specs.declared.sizes.TheConstants.{MOST_WEIGHT, MOST_LEVELS, MOST_STORE_WEIGHT}
use Rattle.verse_image.proofs.TableLaws.{flag_again}
use Rattle.run_save_shots.specs.Fitting.{KeyIsSound, IsSound, AreSound, PairsAreSound, ValueFits, ValuesFit}
use Rattle.run_save_format.specs.declared.forms.KeyForm.TheVariants as of_key
use Rattle.run_save_format.specs.declared.forms.ValueForm.{ValueForm}
use Rattle.run_save_format.specs.declared.forms.ValueForm.TheVariants as of_value
use Rattle.run_save_format.specs.declared.weights.Where.{Where}
use Rattle.run_save_format.specs.declared.weights.Where.TheVariants.{Cell, Among}
use Rattle.run_save_format.specs.declared.weights.Load.{Load}
use Rattle.run_save_format.specs.Format.{wide, key_field, list, value, values, pairs}
use Rattle.run_save_format.specs.Values.{Parts, array_at, char_at, each_at, enum_at, enum_key_at, event_at, int_at, key_at, key_form_at}
use Rattle.run_save_format.specs.Values.{key_forms, map_at, may_name, object_at, option_at, pair_at, pairs_at, pairs_from}
use Rattle.run_save_format.specs.Values.{part_at, part_value_at, parts_at, task_at, text_key_at, tuple_at, value_at, value_form_at}
use Rattle.run_save_format.specs.Values.{value_forms, values_at, weighed}
use Rattle.run_save_format.specs.Reading.{free_value_at, free_values_at}
use Rattle.run_save_restores.proofs.Numbers.{Gives, gives_wide, gives_in, gives_small, gives_flag, gives_where, gives_choice}
use Rattle.run_save_restores.proofs.Numbers.{stands_first}

-- ---- weights

-- where so much more is counted
abbrev pub more : Where → ℕ → Load → Load
more (Cell left) n s = record { value = s.value + n; cells = s.cells + n }
more (Among entries) n s = record { value = s.value + n; cells = s.cells }

-- so much more is within the limits
abbrev pub HasRoom : Where → ℕ → Load → Type 0
HasRoom (Cell left) n s = (s.value + n ≤ MOST_WEIGHT) × (s.cells + n ≤ MOST_STORE_WEIGHT)
HasRoom (Among entries) n s = s.value + n ≤ MOST_WEIGHT

more_none : (w : Where) (s : Load) → more w 0 s ≡ s
more_none (Cell left) s =
    let value : s.value + 0 ≡ s.value = omega arith in
    let cells : s.cells + 0 ≡ s.cells = omega arith in
    rw (value, cells) refl
more_none (Among entries) s = let value : s.value + 0 ≡ s.value = omega arith in rw value refl

more_then : (w : Where) (n m : ℕ) (s : Load) → more w m (more w n s) ≡ more w (n + m) s
more_then (Cell left) n m s =
    let value : s.value + n + m ≡ s.value + (n + m) = omega arith in
    let cells : s.cells + n + m ≡ s.cells + (n + m) = omega arith in
    rw (value, cells) refl
more_then (Among entries) n m s = let value : s.value + n + m ≡ s.value + (n + m) = omega arith in rw value refl

room_first : (w : Where) (n m : ℕ) (s : Load) → HasRoom w (n + m) s → HasRoom w n s
room_first (Cell left) n m s p = let value = p.0 in let cells = p.1 in (omega arith, omega arith)
room_first (Among entries) n m s p = omega arith

room_then : (w : Where) (n m : ℕ) (s : Load) → HasRoom w (n + m) s → HasRoom w m (more w n s)
room_then (Cell left) n m s p = let value = p.0 in let cells = p.1 in (omega arith, omega arith)
room_then (Among entries) n m s p = omega arith

pub weighed_is : (w : Where) (left n : ℕ) (s : Load) → HasRoom w n s → weighed w left n s ≡ Ok (more w n s)
weighed_is (Cell cell) left n s p =
    let cells : ltb MOST_STORE_WEIGHT (s.cells + n) ≡ false = le-ltb _ _ p.1 in
    let value : ltb MOST_WEIGHT (s.value + n) ≡ false = le-ltb _ _ p.0 in
    rw (cells, value) refl
weighed_is (Among entries) left n s p = let value : ltb MOST_WEIGHT (s.value + n) ≡ false = le-ltb _ _ p in rw value refl

gives_part : {A : Type 0} (forms : List A) (form : ℕ) (x : A) (w : Where) (s : Load) → form < 128 → slice_get forms form ≡ Some x →
    HasRoom w 1 s → Gives (byte form) (part_at forms w s) (x, more w 1 s)
unfolding part_at
gives_part forms form x w s low there room bytes rest h =
    rw (gives_choice forms form x low there bytes rest h, weighed_is w (length bytes) 1 s room) refl

-- ---- keys

flag_small : (b : Bool) → flag b ≤ 1
flag_small false = omega arith
flag_small true = omega arith

gives_text_key : (w : Where) (left : ℕ) (text : List ℕ) (s : Load) (bytes behind rest : List ℕ) → HasRoom w (length text) s →
    wide (length text) bytes behind → plain text behind rest →
    text_key_at w left s bytes ≡ Ok ((key.Text text, more w (length text) s), rest)
unfolding text_key_at
gives_text_key w left text s bytes behind rest room h k =
    let first = stands_first text behind rest k in
    rw (gives_wide (length text) bytes behind h, weighed_is w left (length text) s room, first.long, first.front, first.back) refl

gives_key : (w : Where) (k : Key) (s : Load) (levels : ℕ) → HasRoom w (key_weight k) s → KeyIsSound k → eqb levels 0 ≡ false →
    Gives (key_field k) (key_at w levels s) (k, more w (key_weight k) s)
unfolding key_at key_form_at enum_key_at
gives_key w (key.Int n) s levels room sound deep bytes rest h =
    rw (gives_part key_forms 0 of_key.Int w s (omega arith) refl room bytes h.0 h.1, deep, integer_again n h.0 rest h.2) refl
gives_key w (key.Logic b) s levels room sound deep bytes rest h =
    rw (
      gives_part key_forms 1 of_key.Logic w s (omega arith) refl room bytes h.0 h.1,
      deep,
      gives_flag (flag b) (flag_small b) h.0 rest h.2,
      flag_again b,
    ) refl
gives_key w (key.Char c) s levels room sound deep bytes rest h =
    rw (
      gives_part key_forms 2 of_key.Char w s (omega arith) refl room bytes h.0 h.1,
      deep,
      gives_in 5 0 255 c (gives_wide c) (omega arith) sound h.0 rest h.2,
    ) refl
gives_key w (key.Enum of at) s levels room sound deep bytes rest h =
    rw (
      gives_part key_forms 3 of_key.Enum w s (omega arith) refl room bytes h.1.0 h.1.1,
      deep,
      gives_small of h.1.0 h.0 h.1.2,
      gives_small at h.0 rest h.2,
    ) refl
gives_key w (key.Text text) s levels room sound deep bytes rest h =
    rw (
      gives_part key_forms 4 of_key.Text w s (omega arith) refl (room_first w 1 (length text) s room) bytes h.1.0 h.1.1,
      deep,
      gives_text_key w (length bytes) text (more w 1 s) h.1.0 h.0 rest (room_then w 1 (length text) s room) h.1.2 h.2,
      more_then w 1 (length text) s,
    ) refl

-- ---- keys that are new

-- none of the keys of these is among those before
abbrev NewIn : (before : Pairs) → Pairs → Type 0
NewIn before no_pairs = Unit {0}
NewIn before (more_pairs k v ps) = (key_place k (keys_in before) ≡ None) × NewIn before ps

place_last : (l k : Key) (v : Val) (before : Pairs) → key_eq l k ≡ false → key_place l (keys_in before) ≡ None →
    key_place l (keys_in (with_last before k v)) ≡ None
place_last l k v no_pairs e f = none_cond (key_eq l k) zero None e refl
place_last l k v (more_pairs j x ps) e f =
    let g = cond_none (key_eq l j) zero (option_map suc (key_place l (keys_in ps))) f in
    none_cond (key_eq l j) zero (option_map suc (key_place l (keys_in (with_last ps k v)))) g.0
    (ap (option_map suc) (place_last l k v ps e (none_of_next (key_place l (keys_in ps)) g.1)))

new_last : (before : Pairs) (k : Key) (v : Val) (ps : Pairs) → NewIn before ps → at_key ps k ≡ None → NewIn (with_last before k v) ps
new_last before k v no_pairs p e = tt
new_last before k v (more_pairs l x ps) p e =
    let g = cond_none (key_eq k l) x (at_key ps k) e in
    (place_last l k v before (laws-law.symm l k ∙ g.0) p.0, new_last before k v ps p.1 g.1)

all_new : (ps : Pairs) → NewIn no_pairs ps
all_new no_pairs = tt
all_new (more_pairs k v ps) = (refl, all_new ps)

abbrev behind : Pairs → Pairs → Pairs
behind no_pairs ps = ps
behind (more_pairs k v before) ps = more_pairs k v (behind before ps)

behind_none : (before : Pairs) → behind before no_pairs ≡ before
behind_none no_pairs = refl
behind_none (more_pairs k v before) = ap (more_pairs k v) (behind_none before)

behind_last : (before : Pairs) (k : Key) (v : Val) (ps : Pairs) → behind (with_last before k v) ps ≡ behind before (more_pairs k v ps)
behind_last no_pairs k v ps = refl
behind_last (more_pairs j x before) k v ps = ap (more_pairs j x) (behind_last before k v ps)

-- ---- values

some_levels : (v : Val) → 1 ≤ levels_of v
some_levels unit = omega arith
some_levels falsity = omega arith
some_levels truth = omega arith
some_levels (int n) = omega arith
some_levels (char c) = omega arith
some_levels (enum of at) = omega arith
some_levels (object address) = omega arith
some_levels (event address) = omega arith
some_levels (task entry) = omega arith
some_levels (some v) = omega arith
some_levels (array vs) = omega arith
some_levels (mapping ps) = omega arith
some_levels (tuple vs) = omega arith

not_none : (n : ℕ) → 1 ≤ n → eqb n 0 ≡ false
not_none n some_left = two (eqb n 0) refl
  where
    two : (t : Bool) → eqb n 0 ≡ t → t ≡ false
    two true e = (let none = eqb-true n 0 e in absurd (omega arith))
    two false e = refl

vals_listed : (vs : Vals) → vals (list_of vs) ≡ vs
vals_listed no_vals = refl
vals_listed (more_vals v vs) = ap (more_vals v) (vals_listed vs)

abbrev pub from_cells : (cells : ℕ) → Load
from_cells cells = record { value = 0; cells = cells }

light : (v : Val) → fits v ≡ true → weight_of v ≤ MOST_WEIGHT
light v e = leb-true _ _ (and_parts (leb (weight_of v) MOST_WEIGHT) (leb (levels_of v) MOST_LEVELS) e).0

flat : (v : Val) → fits v ≡ true → levels_of v ≤ MOST_LEVELS
flat v e = leb-true _ _ (and_parts (leb (weight_of v) MOST_WEIGHT) (leb (levels_of v) MOST_LEVELS) e).1

-- a task names one of so many entries
abbrev pub MayName : Where → ℕ → Type 0
MayName w entries = (entry : ℕ) → entry < entries → may_name w entry ≡ true

module _ (w : Where) (entries : ℕ) (names : MayName w entries) where
  -- each value is read that has no more levels, and for whose weight there is room
  abbrev GivesValues : (levels : ℕ) → Parts Val → Type 0
  GivesValues levels part = (v : Val) (s : Load) → levels_of v ≤ levels → IsSound entries v → HasRoom w (weight_of v) s →
      Gives (value v) (part s) (v, more w (weight_of v) s)

  module _ (levels : ℕ) (part : Parts Val) (given : GivesValues levels part) where
    gives_list : (vs : Vals) (s : Load) → most_levels vs ≤ levels → AreSound entries vs → HasRoom w (weights vs) s →
        Gives (values vs) (each_at part (length (list_of vs)) s) (list_of vs, more w (weights vs) s)
    unfolding each_at
    gives_list no_vals s low sound room bytes rest h = rw (h, more_none w s) refl
    gives_list (more_vals v vs) s low sound room bytes rest h =
        rw (
          given v s (omega arith) sound.0 (room_first w (weight_of v) (weights vs) s room) bytes h.0 h.1,
          gives_list vs (more w (weight_of v) s) (omega arith) sound.1 (room_then w (weight_of v) (weights vs) s room) h.0 rest h.2,
          more_then w (weight_of v) (weights vs) s,
        ) refl

    gives_pair : (before : Pairs) (k : Key) (v : Val) (s : Load) → levels_of v ≤ levels → KeyIsSound k → IsSound entries v →
        key_place k (keys_in before) ≡ None → HasRoom w (key_weight k + weight_of v) s →
        Gives (key_field k ⨾ value v) (pair_at w levels part before s) (with_last before k v, more w (key_weight k + weight_of v) s)
    unfolding pair_at
    gives_pair before k v s low key_sound sound new room bytes rest h =
        let one = some_levels v in
        let deep = not_none levels (omega arith) in
        rw (
          gives_key w k s levels (room_first w (key_weight k) (weight_of v) s room) key_sound deep bytes h.0 h.1,
          new,
          given v (more w (key_weight k) s) low sound (room_then w (key_weight k) (weight_of v) s room) h.0 rest h.2,
          more_then w (key_weight k) (weight_of v) s,
        ) refl

    gives_pairs : (ps before : Pairs) (s : Load) → most_pair_levels ps ≤ levels → PairsAreSound entries ps → NewIn before ps →
        HasRoom w (pair_weights ps) s →
        Gives (pairs ps) (pairs_from w levels part (length (entries_of ps)) before s) (behind before ps, more w (pair_weights ps) s)
    unfolding pairs_from
    gives_pairs no_pairs before s low sound new room bytes rest h = rw (h, more_none w s, behind_none before) refl
    gives_pairs (more_pairs k v ps) before s low sound new room bytes rest h =
        let one = key_weight k + weight_of v in
        rw (
          gives_pair before k v s (omega arith) sound.0 sound.1 new.0 (room_first w one (pair_weights ps) s room) bytes h.0 h.1,
          gives_pairs ps (with_last before k v) (more w one s) (omega arith) sound.3 (new_last before k v ps new.1 sound.2)
              (room_then w one (pair_weights ps) s room) h.0 rest h.2,
          more_then w one (pair_weights ps) s,
          behind_last before k v ps,
        ) refl

    -- a part's form, and then the part
    abbrev Formed : (form : ValueForm) (v : Val) (s : Load) (bytes rest : List ℕ) → Type 0
    Formed form v s bytes rest = value_form_at w levels part form (more w 1 s) bytes ≡ Ok ((v, more w (weight_of v) s), rest)

    gives_option : (v : Val) (s : Load) (bytes rest : List ℕ) → levels_of v ≤ levels → IsSound entries v →
        HasRoom w (1 + weight_of v) s → value v bytes rest → Formed of_value.Option (some v) s bytes rest
    unfolding value_form_at option_at
    gives_option v s bytes rest low sound room h =
        rw (given v (more w 1 s) low sound (room_then w 1 (weight_of v) s room) bytes rest h, more_then w 1 (weight_of v) s) refl

    gives_parts : (vs : Vals) (s : Load) → most_levels vs ≤ levels → AreSound entries vs → HasRoom w (weights vs) s →
        Gives (wide (length (list_of vs)) ⨾ values vs) (parts_at part s) (list_of vs, more w (weights vs) s)
    unfolding parts_at
    gives_parts vs s low sound room bytes rest h =
        rw (gives_wide (length (list_of vs)) bytes h.0 h.1, gives_list vs s low sound room h.0 rest h.2) refl

    gives_array : (vs : Vals) (s : Load) (bytes rest : List ℕ) → most_levels vs ≤ levels → AreSound entries vs →
        HasRoom w (1 + weights vs) s → (wide (length (list_of vs)) ⨾ values vs) bytes rest → Formed of_value.Array (array vs) s bytes rest
    unfolding value_form_at array_at
    gives_array vs s bytes rest low sound room h =
        rw (
          gives_parts vs (more w 1 s) low sound (room_then w 1 (weights vs) s room) bytes rest h,
          more_then w 1 (weights vs) s,
          vals_listed vs,
        ) refl

    gives_tuple : (vs : Vals) (s : Load) (bytes rest : List ℕ) → most_levels vs ≤ levels → AreSound entries vs →
        HasRoom w (1 + weights vs) s → (wide (length (list_of vs)) ⨾ values vs) bytes rest → Formed of_value.Tuple (tuple vs) s bytes rest
    unfolding value_form_at tuple_at
    gives_tuple vs s bytes rest low sound room h =
        rw (
          gives_parts vs (more w 1 s) low sound (room_then w 1 (weights vs) s room) bytes rest h,
          more_then w 1 (weights vs) s,
          vals_listed vs,
        ) refl

    gives_map : (ps : Pairs) (s : Load) (bytes rest : List ℕ) → most_pair_levels ps ≤ levels → PairsAreSound entries ps →
        HasRoom w (1 + pair_weights ps) s → (wide (length (entries_of ps)) ⨾ pairs ps) bytes rest →
        Formed of_value.Map (mapping ps) s bytes rest
    unfolding value_form_at map_at pairs_at
    gives_map ps s bytes rest low sound room h =
        rw (
          gives_wide (length (entries_of ps)) bytes h.0 h.1,
          gives_pairs ps no_pairs (more w 1 s) low sound (all_new ps) (room_then w 1 (pair_weights ps) s room) h.0 rest h.2,
          more_then w 1 (pair_weights ps) s,
        ) refl

    -- a value's form, and then the value
    abbrev Whole : (v : Val) (s : Load) (bytes rest : List ℕ) → Type 0
    Whole v s bytes rest = (part_at value_forms w s bytes >>= λ form. value_form_at w levels part form.0.0 form.0.1 form.1) ≡
        Ok ((v, more w (weight_of v) s), rest)

    gives_form : (form : ℕ) (x : ValueForm) (v : Val) (s : Load) (bytes behind rest : List ℕ) → form < 128 →
        slice_get value_forms form ≡ Some x → HasRoom w 1 s → byte form bytes behind → Formed x v s behind rest → Whole v s bytes rest
    gives_form form x v s bytes behind rest low there room h k =
        rw (gives_part value_forms form x w s low there room bytes behind h) k

    gives_any : (v : Val) (s : Load) (bytes rest : List ℕ) → levels_of v ≤ suc levels → IsSound entries v → HasRoom w (weight_of v) s →
        value v bytes rest → Whole v s bytes rest
    unfolding value_form_at int_at char_at enum_at object_at event_at task_at
    gives_any unit s bytes rest low sound room h =
        gives_form 0 of_value.Unit unit s bytes rest rest (omega arith) refl room h refl
    gives_any falsity s bytes rest low sound room h =
        gives_form 1 of_value.False falsity s bytes rest rest (omega arith) refl room h refl
    gives_any truth s bytes rest low sound room h =
        gives_form 2 of_value.True truth s bytes rest rest (omega arith) refl room h refl
    gives_any (int n) s bytes rest low sound room h =
        gives_form 3 of_value.Int (int n) s bytes h.0 rest (omega arith) refl room h.1 (rw (integer_again n h.0 rest h.2) refl)
    gives_any (char c) s bytes rest low sound room h =
        gives_form 4 of_value.Char (char c) s bytes h.0 rest (omega arith) refl room h.1
        (rw (gives_in 5 0 255 c (gives_wide c) (omega arith) sound h.0 rest h.2) refl)
    gives_any (enum of at) s bytes rest low sound room h =
        gives_form 5 of_value.Enum (enum of at) s bytes h.1.0 rest (omega arith) refl room h.1.1
        (rw (gives_small of h.1.0 h.0 h.1.2, gives_small at h.0 rest h.2) refl)
    gives_any (object address) s bytes rest low sound room h =
        gives_form 6 of_value.Object (object address) s bytes h.0 rest (omega arith) refl room h.1
        (rw (gives_small address h.0 rest h.2) refl)
    gives_any (event address) s bytes rest low sound room h =
        gives_form 7 of_value.Event (event address) s bytes h.0 rest (omega arith) refl room h.1
        (rw (gives_small address h.0 rest h.2) refl)
    gives_any (task entry) s bytes rest low sound room h =
        gives_form 8 of_value.Task (task entry) s bytes h.0 rest (omega arith) refl room h.1
        (rw (gives_where (may_name w) entry (names entry sound) h.0 rest h.2) refl)
    gives_any (some v) s bytes rest low sound room h =
        gives_form 9 of_value.Option (some v) s bytes h.0 rest (omega arith) refl (room_first w 1 (weight_of v) s room) h.1
        (gives_option v s h.0 rest (omega arith) sound room h.2)
    gives_any (array vs) s bytes rest low sound room h =
        gives_form 10 of_value.Array (array vs) s bytes h.1.0 rest (omega arith) refl (room_first w 1 (weights vs) s room) h.1.1
        (gives_array vs s h.1.0 rest (omega arith) sound room (h.0, h.1.2, h.2))
    gives_any (mapping ps) s bytes rest low sound room h =
        gives_form 11 of_value.Map (mapping ps) s bytes h.1.0 rest (omega arith) refl (room_first w 1 (pair_weights ps) s room) h.1.1
        (gives_map ps s h.1.0 rest (omega arith) sound room (h.0, h.1.2, h.2))
    gives_any (tuple vs) s bytes rest low sound room h =
        gives_form 12 of_value.Tuple (tuple vs) s bytes h.1.0 rest (omega arith) refl (room_first w 1 (weights vs) s room) h.1.1
        (gives_tuple vs s h.1.0 rest (omega arith) sound room (h.0, h.1.2, h.2))

  gives_value : (levels : ℕ) → GivesValues levels (part_value_at w levels)
  unfolding part_value_at
  gives_value zero v s low sound room bytes rest h = let one = some_levels v in absurd (omega arith)
  gives_value (suc levels) v s low sound room bytes rest h =
      gives_any levels (part_value_at w levels) (gives_value levels) v s bytes rest low sound room h

  -- ---- whole values

  gives_whole : (v : Val) (cells : ℕ) → ValueFits entries v → HasRoom w (weight_of v) (from_cells cells) →
      Gives (value v) (value_at w cells) (v, (more w (weight_of v) (from_cells cells)).cells)
  unfolding value_at
  gives_whole v cells fit room bytes rest h =
      rw (gives_value MOST_LEVELS v (from_cells cells) (flat v fit.small) fit.sound room bytes rest h) refl

-- ---- values outside of cells

free_names : (entries : ℕ) → MayName (Among entries) entries
free_names entries entry low = lt-ltb _ _ low

gives_outside : (entries : ℕ) (v : Val) (cells : ℕ) → ValueFits entries v → Gives (value v) (value_at (Among entries) cells) (v, cells)
gives_outside entries v cells fit =
    let low = light v fit.small in
    gives_whole (Among entries) entries (free_names entries) v cells fit (omega arith)

pub gives_free : (entries : ℕ) (v : Val) → ValueFits entries v → Gives (value v) (free_value_at entries) v
unfolding free_value_at
gives_free entries v fit bytes rest h = rw (gives_outside entries v 0 fit bytes rest h) refl

each_free : (entries : ℕ) (vs : List Val) → ValuesFit entries vs →
    Gives (each value vs) (each_at (value_at (Among entries)) (length vs) 0) (vs, 0)
unfolding each_at
each_free entries [] fit bytes rest h = ap (λ w. Ok (([], 0), w)) h
each_free entries (v ∷ vs) fit bytes rest h =
    rw (gives_outside entries v 0 fit.0 bytes h.0 h.1, each_free entries vs fit.1 h.0 rest h.2) refl

pub gives_frees : (entries : ℕ) (vs : List Val) → ValuesFit entries vs → Gives (list value vs) (free_values_at entries) vs
unfolding free_values_at values_at
gives_frees entries vs fit bytes rest h =
    rw (gives_wide (length vs) bytes h.0 h.1, each_free entries vs fit h.0 rest h.2) refl

-- ---- values in a cell

cell_names : (left entries : ℕ) → MayName (Cell left) entries
cell_names left entries entry low = refl

pub gives_slots : (left entries : ℕ) (vs : List Val) (cells : ℕ) → ValuesFit entries vs →
    cells + weights (vals vs) ≤ MOST_STORE_WEIGHT →
    Gives (each value vs) (each_at (value_at (Cell left)) (length vs) cells) (vs, cells + weights (vals vs))
unfolding each_at
gives_slots left entries [] cells fit room bytes rest h =
    let none : cells ≡ cells + 0 = omega arith in
    rw h (ap (λ n. Ok (([], n), rest)) none)
gives_slots left entries (v ∷ vs) cells fit room bytes rest h =
    let sum : cells + weight_of v + weights (vals vs) ≡ cells + (weight_of v + weights (vals vs)) = omega arith in
    let low = light v fit.0.small in
    rw (
      gives_whole (Cell left) entries (cell_names left entries) v cells fit.0 (omega arith, omega arith) bytes h.0 h.1,
      gives_slots left entries vs (cells + weight_of v) fit.1 (omega arith) h.0 rest h.2,
      sum,
    ) refl
