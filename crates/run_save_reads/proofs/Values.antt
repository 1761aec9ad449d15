-- Values that are read are within their limits and sound, but for what they name while cells are read.
use Rattle.std.proofs.Common.{◌≡◌, ℕ, zero, suc, ◌+◌, ◌<◌, ◌≤◌, true, false, cond, ltb, leb, ◌&&◌, ◌||◌, List}
use Rattle.std.proofs.Common.{[], ◌∷◌, ◌++◌, length, drop}
use Rattle.std.proofs.Common.{take, Option, Some, None, slice_get, Result, Ok, Err, refl, sym, ap, subst, ◌∙◌, arith, eqb}
use Rattle.std.specs.Prelude.{ℤ, max, option_map, if◌then◌else◌}
use Rattle.std.proofs.lemmas.Bool.{ltb-true, leb-true, ltb-false, leb-false, le-leb, or_parts}
use Rattle.std.proofs.lemmas.List.{length-take}
use Rattle.verse_base.proofs.Facts.{none_of_next, cond_none, none_cond}
use Rattle.verse_image.specs.declared.faults.Flaw.{Flaw}
use Rattle.verse_image.specs.Numbers.{IsBytes}
use Rattle.verse_image.specs.Reading.{◌>>=◌, Reader, flaw, integer_at}
use Rattle.verse_image.proofs.NumberLaws.{rest_bytes}
use Rattle.verse_value.specs.Val.{Val, unit, falsity, truth, int, char, enum, object, event, task, some, array}
use Rattle.verse_value.specs.Val.{mapping, tuple, Vals, no_vals}
use Rattle.verse_value.specs.Val.{more_vals, vals, Pairs, no_pairs, more_pairs}
use Rattle.verse_value.specs.declared.keys.Key.{Key}
use Rattle.verse_value.specs.declared.keys.Key.TheVariants as key
use Rattle.verse_value.specs.Keys.{key_eq, at_key}
use Rattle.verse_value.specs.Entries.{key_place}
use Rattle.verse_value.specs.Parts.{keys_in}
use Rattle.verse_value.specs.Places.{with_last}
use Rattle.verse_value.specs.Sizes.{fits, key_weight, weight_of, weights, pair_weights, levels_of, most_levels, most_pair_levels}
use Rattle.verse_value.specs.contracts.keys.KeyEq.TheImpl.Laws.{laws-law}
use Rattle.verse_value.specs.declared.sizes.TheConstants.{MOST_WEIGHT, MOST_LEVELS, MOST_STORE_WEIGHT}
use Rattle.verse_value.proofs.Sums.{last_weights}
use Rattle.verse_image.proofs.TableLaws.{bytes_drop}
use Rattle.run_save_shots.specs.Lists.{Each}
use Rattle.run_save_shots.specs.Fitting.{KeyIsSound, IsSound, AreSound, PairsAreSound, ValueFits}
use Rattle.run_save_format.specs.declared.forms.KeyForm.{KeyForm}
use Rattle.run_save_format.specs.declared.forms.KeyForm.TheVariants as of_key
use Rattle.run_save_format.specs.declared.forms.ValueForm.{ValueForm}
use Rattle.run_save_format.specs.declared.forms.ValueForm.TheVariants as of_value
use Rattle.run_save_format.specs.declared.weights.Where.{Where}
use Rattle.run_save_format.specs.declared.weights.Where.TheVariants.{Cell, Among}
use Rattle.run_save_format.specs.declared.weights.Load.{Load}
use Rattle.run_save_format.specs.Values.{Parts, array_at, char_at, choice_at, each_at, enum_at, enum_key_at, event_at}
use Rattle.run_save_format.specs.Values.{flag_at, int_at, key_at}
use Rattle.run_save_format.specs.Values.{key_form_at, key_forms, map_at, may_name, number_in, object_at, option_at}
use Rattle.run_save_format.specs.Values.{pair_at, pair_with, pairs_at}
use Rattle.run_save_format.specs.Values.{pairs_from, part_at, part_value_at, parts_at, small_at, small_where, task_at}
use Rattle.run_save_format.specs.Values.{text_key_at, tuple_at}
use Rattle.run_save_format.specs.Values.{value_at, value_form_at, value_forms, values_at, weighed, wide_at}
use Rattle.run_save_format.specs.Whole.{names_none, name_none, pairs_name_none}
use Rattle.run_save_reads.proofs.Meeting.{Meets, meets_then, meets_if, meets_else, meets_as, And, Reads, ReadsFrom}
use Rattle.run_save_reads.proofs.Meeting.{Steps, reads_choice}
use Rattle.run_save_reads.proofs.Meeting.{reads_each, reads_flag, reads_in, reads_integer, reads_small, reads_where, reads_wide}

-- ---- weights

abbrev pub CellsMore : Where → ℕ → Load → Load → Type 0
CellsMore (Cell left) n s t = t.cells ≡ s.cells + n
CellsMore (Among entries) n s t = t.cells ≡ s.cells

abbrev pub CellsWithin : Where → Load → Type 0
CellsWithin (Cell left) s = s.cells ≤ MOST_STORE_WEIGHT
CellsWithin (Among entries) s = Unit {0}

-- so much more is counted
abbrev pub More : Where → ℕ → Load → Load → Type 0
More w n s t = (t.value ≡ s.value + n) × CellsMore w n s t

abbrev pub Within : Where → Load → Type 0
Within w s = (s.value ≤ MOST_WEIGHT) × CellsWithin w s

cells_none : (w : Where) (s : Load) → CellsMore w 0 s s
cells_none (Cell left) s = omega arith
cells_none (Among entries) s = refl

more_none : (w : Where) (s : Load) → More w 0 s s
more_none w s = (omega arith, cells_none w s)

cells_then : (w : Where) (n m : ℕ) (s t u : Load) → CellsMore w n s t → CellsMore w m t u → CellsMore w (n + m) s u
cells_then (Cell left) n m s t u a b = omega arith
cells_then (Among entries) n m s t u a b = b ∙ a

more_then : (w : Where) (n m : ℕ) (s t u : Load) → More w n s t → More w m t u → More w (n + m) s u
more_then w n m s t u a b = let p = a.0 in let q = b.0 in (omega arith, cells_then w n m s t u a.1 b.1)

more_as : (w : Where) (n m : ℕ) (s t : Load) → n ≡ m → More w n s t → More w m s t
more_as w n m s t e a = subst (λ k. More w k s t) e a

pub meets_weighed : (w : Where) (left n : ℕ) (s : Load) → Meets (λ t. More w n s t × Within w t) (weighed w left n s)
meets_weighed (Cell cell) left n s =
    meets_else (λ t. More (Cell cell) n s t × Within (Cell cell) t) (ltb MOST_STORE_WEIGHT (s.cells + n)) (flaw 5 cell)
    (cond (ltb MOST_WEIGHT (s.value + n)) (Err (flaw 5 left)) (Ok (record { value = s.value + n; cells = s.cells + n })))
    (λ f. meets_else (λ t. More (Cell cell) n s t × Within (Cell cell) t) (ltb MOST_WEIGHT (s.value + n)) (flaw 5 left)
    (Ok (record { value = s.value + n; cells = s.cells + n })) (λ g. ((refl, refl), (ltb-false _ _ g, ltb-false _ _ f))))
meets_weighed (Among entries) left n s =
    meets_else (λ t. More (Among entries) n s t × Within (Among entries) t) (ltb MOST_WEIGHT (s.value + n)) (flaw 5 left)
    (Ok (record { value = s.value + n; cells = s.cells })) (λ g. ((refl, refl), (ltb-false _ _ g, tt)))

reads_part : {A : Type 0} (forms : List A) (w : Where) (s : Load) → Reads (λ x. More w 1 s x.1 × Within w x.1) (part_at forms w s)
unfolding part_at
reads_part {A} forms w s bytes b =
    meets_then (And (λ (x : A). Unit {0})) (And (λ x. More w 1 s x.1 × Within w x.1)) (choice_at forms bytes)
    (λ form. weighed w (length bytes) 1 s >>= λ more. Ok ((form.0, more), form.1)) (reads_choice forms bytes b)
    (λ form p. meets_then (λ t. More w 1 s t × Within w t) (And (λ x. More w 1 s x.1 × Within w x.1)) (weighed w (length bytes) 1 s)
    (λ more. Ok ((form.0, more), form.1)) (meets_weighed w (length bytes) 1 s) (λ t q. (q, p.1)))

-- ---- keys

-- what its parts weigh more than 1
abbrev pub beyond_one : Key → ℕ
beyond_one (key.Text bytes) = length bytes
beyond_one k = 0

beyond : (k : Key) → 1 + beyond_one k ≡ key_weight k
beyond (key.Int n) = refl
beyond (key.Logic b) = refl
beyond (key.Char c) = refl
beyond (key.Enum of at) = refl
beyond (key.Text bytes) = refl

abbrev pub KeyRead : Where → Load → Key × Load → Type 0
KeyRead w s x = More w (beyond_one x.0) s x.1 × Within w x.1 × KeyIsSound x.0

front_bytes : (n : ℕ) (bytes : List ℕ) → IsBytes bytes → Each (λ b. b ≤ 255) (take n bytes)
front_bytes zero bytes h = tt
front_bytes (suc n) [] h = tt
front_bytes (suc n) (b ∷ bytes) h = let first = h 0 in (omega arith, front_bytes n bytes (rest_bytes b bytes h))

reads_text_key : (w : Where) (left : ℕ) (s : Load) → Reads (KeyRead w s) (text_key_at w left s)
unfolding text_key_at
reads_text_key w left s bytes b =
    meets_then (And (λ (n : ℕ). Unit {0})) (And (KeyRead w s)) (wide_at bytes)
    (λ n. weighed w left n.0 s >>= λ more. cond (ltb (length n.1) n.0) (Err (flaw 3 0))
    (Ok ((key.Text (take n.0 n.1), more), drop n.0 n.1)))
    (reads_wide bytes b)
    (λ n p. meets_then (λ t. More w n.0 s t × Within w t) (And (KeyRead w s)) (weighed w left n.0 s)
    (λ more. cond (ltb (length n.1) n.0) (Err (flaw 3 0)) (Ok ((key.Text (take n.0 n.1), more), drop n.0 n.1)))
    (meets_weighed w left n.0 s)
    (λ more q. meets_else (And (KeyRead w s)) (ltb (length n.1) n.0) (flaw 3 0) (Ok ((key.Text (take n.0 n.1), more), drop n.0 n.1))
    (λ f. (let low = ltb-false _ _ f in
    let long : n.0 ≡ length (take n.0 n.1) = omega (arith, length-take n.0 n.1) in (
      (more_as w n.0 (length (take n.0 n.1)) s more long q.0, q.1, front_bytes n.0 n.1 p.1),
      bytes_drop n.0 n.1 p.1,
    )))))

reads_enum_key : (w : Where) (s : Load) → Within w s → Reads (KeyRead w s) (enum_key_at s)
unfolding enum_key_at
reads_enum_key w s within bytes b =
    meets_then (And (λ n. (0 ≤ n) × (n ≤ 4294967295))) (And (KeyRead w s)) (small_at bytes)
    (λ of. small_at of.1 >>= λ at. Ok ((key.Enum of.0 at.0, s), at.1)) (reads_small bytes b)
    (λ of p. meets_then (And (λ n. (0 ≤ n) × (n ≤ 4294967295))) (And (KeyRead w s)) (small_at of.1)
    (λ at. Ok ((key.Enum of.0 at.0, s), at.1)) (reads_small of.1 p.1) (λ at q. ((more_none w s, within, tt), q.1)))

reads_key_form : (w : Where) (left : ℕ) (form : KeyForm) (s : Load) → Within w s → Reads (KeyRead w s) (key_form_at w left form s)
unfolding key_form_at
reads_key_form w left of_key.Int s within bytes b =
    meets_then (And (λ (n : ℤ). Unit {0})) (And (KeyRead w s)) (integer_at bytes) (λ n. Ok ((key.Int n.0, s), n.1)) (reads_integer bytes b)
    (λ n p. ((more_none w s, within, tt), p.1))
reads_key_form w left of_key.Logic s within bytes b =
    meets_then (And (λ n. (0 ≤ n) × (n ≤ 1))) (And (KeyRead w s)) (flag_at bytes) (λ n. Ok ((key.Logic (eqb n.0 1), s), n.1))
    (reads_flag bytes b)
    (λ n p. ((more_none w s, within, tt), p.1))
reads_key_form w left of_key.Char s within bytes b =
    meets_then (And (λ n. (0 ≤ n) × (n ≤ 255))) (And (KeyRead w s)) (number_in 5 0 255 bytes) (λ n. Ok ((key.Char n.0, s), n.1))
    (reads_in 5 0 255 bytes b)
    (λ n p. ((more_none w s, within, p.0.1), p.1))
reads_key_form w left of_key.Enum s within bytes b = reads_enum_key w s within bytes b
reads_key_form w left of_key.Text s within bytes b = reads_text_key w left s bytes b

abbrev pub WholeKeyRead : Where → Load → Key × Load → Type 0
WholeKeyRead w s x = More w (key_weight x.0) s x.1 × Within w x.1 × KeyIsSound x.0

reads_key : (w : Where) (levels : ℕ) (s : Load) → Reads (WholeKeyRead w s) (key_at w levels s)
unfolding key_at
reads_key w levels s bytes b =
    meets_then (And (λ x. More w 1 s x.1 × Within w x.1)) (And (WholeKeyRead w s)) (part_at key_forms w s bytes)
    (λ part. cond (eqb levels 0) (Err (flaw 5 (length bytes))) (key_form_at w (length bytes) part.0.0 part.0.1 part.1))
    (reads_part key_forms w s bytes b)
    (λ part p. meets_else (And (WholeKeyRead w s)) (eqb levels 0) (flaw 5 (length bytes))
    (key_form_at w (length bytes) part.0.0 part.0.1 part.1)
    (λ f. meets_as (And (KeyRead w part.0.1)) (And (WholeKeyRead w s)) (key_form_at w (length bytes) part.0.0 part.0.1 part.1)
    (λ x q. (
      (
        more_as w (1 + beyond_one x.0.0) (key_weight x.0.0) s x.0.1 (beyond x.0.0)
            (more_then w 1 (beyond_one x.0.0) s part.0.1 x.0.1 p.0.0 q.0.0),
        q.0.1,
        q.0.2,
      ),
      q.1,
    )) (reads_key_form w (length bytes) part.0.0 part.0.1 p.0.1 part.1 p.1)))

-- ---- sound values

-- where no value names an entry that there is not, which of cells is asked later
abbrev pub SoundIn : Where → Val → Type 0
SoundIn (Among entries) v = IsSound entries v
SoundIn (Cell left) v = (n : ℕ) → names_none n v ≡ false → IsSound n v

abbrev pub AreSoundIn : Where → Vals → Type 0
AreSoundIn (Among entries) vs = AreSound entries vs
AreSoundIn (Cell left) vs = (n : ℕ) → name_none n vs ≡ false → AreSound n vs

abbrev pub PairsSoundIn : Where → Pairs → Type 0
PairsSoundIn (Among entries) ps = PairsAreSound entries ps
PairsSoundIn (Cell left) ps = (n : ℕ) → pairs_name_none n ps ≡ false → PairsAreSound n ps

sound_in : (w : Where) (v : Val) → ((n : ℕ) → IsSound n v) → SoundIn w v
sound_in (Among entries) v h = h entries
sound_in (Cell left) v h = λ n e. h n

some_sound : (w : Where) (v : Val) → SoundIn w v → SoundIn w (some v)
some_sound (Among entries) v h = h
some_sound (Cell left) v h = h

array_sound : (w : Where) (vs : Vals) → AreSoundIn w vs → SoundIn w (array vs)
array_sound (Among entries) vs h = h
array_sound (Cell left) vs h = h

tuple_sound : (w : Where) (vs : Vals) → AreSoundIn w vs → SoundIn w (tuple vs)
tuple_sound (Among entries) vs h = h
tuple_sound (Cell left) vs h = h

map_sound : (w : Where) (ps : Pairs) → PairsSoundIn w ps → SoundIn w (mapping ps)
map_sound (Among entries) ps h = h
map_sound (Cell left) ps h = h

task_sound : (w : Where) (entry : ℕ) → may_name w entry ≡ true → SoundIn w (task entry)
task_sound (Among entries) entry e = ltb-true _ _ e
task_sound (Cell left) entry e = λ n f. leb-false _ _ f

no_values_sound : (w : Where) → AreSoundIn w no_vals
no_values_sound (Among entries) = tt
no_values_sound (Cell left) = λ n e. tt

more_sound : (w : Where) (v : Val) (vs : Vals) → SoundIn w v → AreSoundIn w vs → AreSoundIn w (more_vals v vs)
more_sound (Among entries) v vs a b = (a, b)
more_sound (Cell left) v vs a b = λ n e. (let p = or_parts (names_none n v) (name_none n vs) e in (a n p.0, b n p.1))

no_pairs_sound : (w : Where) → PairsSoundIn w no_pairs
no_pairs_sound (Among entries) = tt
no_pairs_sound (Cell left) = λ n e. tt

-- ---- a key that is new

absent : (k : Key) (ps : Pairs) → key_place k (keys_in ps) ≡ None → at_key ps k ≡ None
absent k no_pairs e = refl
absent k (more_pairs l v ps) e = let g = cond_none (key_eq k l) zero (option_map suc (key_place k (keys_in ps))) e in
    none_cond (key_eq k l) v (at_key ps k) g.0 (absent k ps (none_of_next (key_place k (keys_in ps)) g.1))

last_absent : (ps : Pairs) (k : Key) (v : Val) (l : Key) → key_eq l k ≡ false → at_key ps l ≡ None → at_key (with_last ps k v) l ≡ None
last_absent no_pairs k v l e f = none_cond (key_eq l k) v None e refl
last_absent (more_pairs j x ps) k v l e f = let g = cond_none (key_eq l j) x (at_key ps l) f in
    none_cond (key_eq l j) x (at_key (with_last ps k v) l) g.0 (last_absent ps k v l e g.1)

last_sound : (n : ℕ) (ps : Pairs) (k : Key) (v : Val) → PairsAreSound n ps → KeyIsSound k → IsSound n v → at_key ps k ≡ None →
    PairsAreSound n (with_last ps k v)
last_sound n no_pairs k v a b c e = (b, c, refl, tt)
last_sound n (more_pairs l x ps) k v a b c e = let g = cond_none (key_eq k l) x (at_key ps k) e in
    (a.0, a.1, last_absent ps k v l (laws-law.symm l k ∙ g.0) a.2, last_sound n ps k v a.3 b c g.1)

last_names : (n : ℕ) (ps : Pairs) (k : Key) (v : Val) → pairs_name_none n (with_last ps k v) ≡ false →
    (pairs_name_none n ps ≡ false) × (names_none n v ≡ false)
last_names n no_pairs k v e = (refl, (or_parts (names_none n v) false e).0)
last_names n (more_pairs l x ps) k v e =
    let p = or_parts (names_none n x) (pairs_name_none n (with_last ps k v)) e in
    let q = last_names n ps k v p.1 in
    (cc (p.0, q.0), q.1)

pair_sound : (w : Where) (ps : Pairs) (k : Key) (v : Val) → PairsSoundIn w ps → KeyIsSound k → SoundIn w v →
    key_place k (keys_in ps) ≡ None → PairsSoundIn w (with_last ps k v)
pair_sound (Among entries) ps k v a b c e = last_sound entries ps k v a b c (absent k ps e)
pair_sound (Cell left) ps k v a b c e = λ n f. (let p = last_names n ps k v f in last_sound n ps k v (a n p.0) b (c n p.1) (absent k ps e))

last_levels : (levels : ℕ) (ps : Pairs) (k : Key) (v : Val) → most_pair_levels ps ≤ levels → levels_of v ≤ levels →
    most_pair_levels (with_last ps k v) ≤ levels
last_levels levels no_pairs k v a b = omega arith
last_levels levels (more_pairs l x ps) k v a b =
    let rest : most_pair_levels ps ≤ levels = omega arith in
    let more = last_levels levels ps k v rest b in
    omega arith

-- ---- values

-- of a whole part
pub record ValueRead (w : Where) (levels : ℕ) (s : Load) (v : Val) (t : Load) : Type 0 where
  pub more : More w (weight_of v) s t
  pub within : Within w t
  pub flat : levels_of v ≤ levels
  pub sound : SoundIn w v

-- of a part whose own 1 was counted, and in whose parts so many levels are left
pub record FormRead (w : Where) (levels : ℕ) (s : Load) (v : Val) (t : Load) : Type 0 where
  pub inside : ℕ
  pub weighs : weight_of v ≡ 1 + inside
  pub more : More w inside s t
  pub within : Within w s → Within w t
  pub flat : levels_of v ≤ suc levels
  pub sound : SoundIn w v

pub record ListRead (w : Where) (levels : ℕ) (s : Load) (vs : List Val) (t : Load) : Type 0 where
  pub more : More w (weights (vals vs)) s t
  pub within : Within w s → Within w t
  pub flat : most_levels (vals vs) ≤ levels
  pub sound : AreSoundIn w (vals vs)

pub record PairsRead (w : Where) (levels : ℕ) (before : Pairs) (s : Load) (ps : Pairs) (t : Load) : Type 0 where
  pub inside : ℕ
  pub weighs : pair_weights ps ≡ pair_weights before + inside
  pub more : More w inside s t
  pub within : Within w s → Within w t
  pub flat : most_pair_levels before ≤ levels → most_pair_levels ps ≤ levels
  pub sound : PairsSoundIn w before → PairsSoundIn w ps

-- it weighs 1
leaf_read : (w : Where) (levels : ℕ) (s : Load) (v : Val) → weight_of v ≡ 1 → levels_of v ≡ 1 → SoundIn w v → FormRead w levels s v s
leaf_read w levels s v e f h =
    record { inside = 0; weighs = e; more = more_none w s; within = λ p. p; flat = omega arith; sound = h }

list_read : (w : Where) (levels : ℕ) (vs : List Val) (s t : Load) → Steps (ValueRead w levels) s vs t → ListRead w levels s vs t
list_read w levels [] s t e =
    subst (λ u. ListRead w levels s [] u) e
    (record { more = more_none w s; within = λ p. p; flat = omega arith; sound = no_values_sound w })
list_read w levels (v ∷ vs) s t (u, a, b) =
    let rest = list_read w levels vs u t b in
    let one = a.flat in
    let others = rest.flat in
    record {
      more = more_then w (weight_of v) (weights (vals vs)) s u t a.more rest.more;
      within = λ p. rest.within a.within;
      flat = omega arith;
      sound = more_sound w v (vals vs) a.sound rest.sound;
    }

module _ (w : Where) (levels : ℕ) (part : Parts Val) (h : (s : Load) → ReadsFrom (ValueRead w levels) s (part s)) where
  reads_parts : (s : Load) → Reads (λ x. ListRead w levels s x.0 x.1) (parts_at part s)
  unfolding parts_at
  reads_parts s bytes b =
      meets_then (And (λ (n : ℕ). Unit {0})) (And (λ x. ListRead w levels s x.0 x.1)) (wide_at bytes) (λ n. each_at part n.0 s n.1)
      (reads_wide bytes b)
      (λ n p. meets_as (And (λ x. (length x.0 ≡ n.0) × Steps (ValueRead w levels) s x.0 x.1)) (And (λ x. ListRead w levels s x.0 x.1))
      (each_at part n.0 s n.1) (λ x q. (list_read w levels x.0.0 s x.0.1 q.0.1, q.1))
      (reads_each (ValueRead w levels) part h n.0 s n.1 p.1))

  reads_option : (s : Load) → ReadsFrom (FormRead w levels) s (option_at part s)
  unfolding option_at
  reads_option s bytes b =
      meets_then (And (λ x. ValueRead w levels s x.0 x.1)) (And (λ x. FormRead w levels s x.0 x.1)) (part s bytes)
      (λ v. Ok ((some v.0.0, v.0.1), v.1)) (h s bytes b)
      (λ v p. (
        record {
          inside = weight_of v.0.0;
          weighs = refl;
          more = p.0.more;
          within = λ q. p.0.within;
          flat = (let low = p.0.flat in omega arith);
          sound = some_sound w v.0.0 p.0.sound;
        },
        p.1,
      ))

  reads_array : (s : Load) → ReadsFrom (FormRead w levels) s (array_at part s)
  unfolding array_at
  reads_array s bytes b =
      meets_then (And (λ x. ListRead w levels s x.0 x.1)) (And (λ x. FormRead w levels s x.0 x.1)) (parts_at part s bytes)
      (λ vs. Ok ((array (vals vs.0.0), vs.0.1), vs.1)) (reads_parts s bytes b)
      (λ vs p. (
        record {
          inside = weights (vals vs.0.0);
          weighs = refl;
          more = p.0.more;
          within = p.0.within;
          flat = (let low = p.0.flat in omega arith);
          sound = array_sound w (vals vs.0.0) p.0.sound;
        },
        p.1,
      ))

  reads_tuple : (s : Load) → ReadsFrom (FormRead w levels) s (tuple_at part s)
  unfolding tuple_at
  reads_tuple s bytes b =
      meets_then (And (λ x. ListRead w levels s x.0 x.1)) (And (λ x. FormRead w levels s x.0 x.1)) (parts_at part s bytes)
      (λ vs. Ok ((tuple (vals vs.0.0), vs.0.1), vs.1)) (reads_parts s bytes b)
      (λ vs p. (
        record {
          inside = weights (vals vs.0.0);
          weighs = refl;
          more = p.0.more;
          within = p.0.within;
          flat = (let low = p.0.flat in omega arith);
          sound = tuple_sound w (vals vs.0.0) p.0.sound;
        },
        p.1,
      ))

  meets_pair : (before : Pairs) (left : ℕ) (k : Key) (o : Option ℕ) (r s : Load) → key_place k (keys_in before) ≡ o →
      WholeKeyRead w r (k, s) → Reads (λ x. PairsRead w levels before r x.0 x.1) (pair_with part before left k o s)
  meets_pair before left k (Some place) r s e key_read bytes b = tt
  meets_pair before left k None r s e key_read bytes b =
      meets_then (And (λ x. ValueRead w levels s x.0 x.1)) (And (λ x. PairsRead w levels before r x.0 x.1)) (part s bytes)
      (λ v. Ok ((with_last before k v.0.0, v.0.1), v.1)) (h s bytes b)
      (λ v p. (
        record {
          inside = key_weight k + weight_of v.0.0;
          weighs = last_weights before k v.0.0;
          more = more_then w (key_weight k) (weight_of v.0.0) r s v.0.1 key_read.0 p.0.more;
          within = λ q. p.0.within;
          flat = λ q. last_levels levels before k v.0.0 q p.0.flat;
          sound = λ q. pair_sound w before k v.0.0 q key_read.2 p.0.sound e;
        },
        p.1,
      ))

  reads_pair : (before : Pairs) (s : Load) → Reads (λ x. PairsRead w levels before s x.0 x.1) (pair_at w levels part before s)
  unfolding pair_at
  reads_pair before s bytes b =
      meets_then (And (WholeKeyRead w s)) (And (λ x. PairsRead w levels before s x.0 x.1)) (key_at w levels s bytes)
      (λ k. pair_with part before (length bytes) k.0.0 (key_place k.0.0 (keys_in before)) k.0.1 k.1) (reads_key w levels s bytes b)
      (λ k p. meets_pair before (length bytes) k.0.0 (key_place k.0.0 (keys_in before)) s k.0.1 refl p.0 k.1 p.1)

  reads_pairs_from : (n : ℕ) (before : Pairs) (s : Load) →
      Reads (λ x. PairsRead w levels before s x.0 x.1) (pairs_from w levels part n before s)
  unfolding pairs_from
  reads_pairs_from zero before s bytes b =
      (record { inside = 0; weighs = omega arith; more = more_none w s; within = λ p. p; flat = λ p. p; sound = λ p. p }, b)
  reads_pairs_from (suc n) before s bytes b =
      meets_then (And (λ x. PairsRead w levels before s x.0 x.1)) (And (λ x. PairsRead w levels before s x.0 x.1))
      (pair_at w levels part before s bytes) (λ more. pairs_from w levels part n more.0.0 more.0.1 more.1) (reads_pair before s bytes b)
      (λ more p. meets_as (And (λ x. PairsRead w levels more.0.0 more.0.1 x.0 x.1)) (And (λ x. PairsRead w levels before s x.0 x.1))
      (pairs_from w levels part n more.0.0 more.0.1 more.1)
      (λ x q. (
        record {
          inside = p.0.inside + q.0.inside;
          weighs = (let one = p.0.weighs in let two = q.0.weighs in omega arith);
          more = more_then w p.0.inside q.0.inside s more.0.1 x.0.1 p.0.more q.0.more;
          within = λ z. q.0.within (p.0.within z);
          flat = λ z. q.0.flat (p.0.flat z);
          sound = λ z. q.0.sound (p.0.sound z);
        },
        q.1,
      )) (reads_pairs_from n more.0.0 more.0.1 more.1 p.1))

  reads_map : (s : Load) → ReadsFrom (FormRead w levels) s (map_at w levels part s)
  unfolding map_at pairs_at
  reads_map s bytes b =
      meets_then (And (λ x. PairsRead w levels no_pairs s x.0 x.1)) (And (λ x. FormRead w levels s x.0 x.1))
      (pairs_at w levels part s bytes)
      (λ ps. Ok ((mapping ps.0.0, ps.0.1), ps.1))
      (meets_then (And (λ (n : ℕ). Unit {0})) (And (λ x. PairsRead w levels no_pairs s x.0 x.1)) (wide_at bytes)
      (λ n. pairs_from w levels part n.0 no_pairs s n.1) (reads_wide bytes b) (λ n p. reads_pairs_from n.0 no_pairs s n.1 p.1))
      (λ ps p. (
        record {
          inside = p.0.inside;
          weighs = (let same = p.0.weighs in omega arith);
          more = p.0.more;
          within = p.0.within;
          flat = (let low = p.0.flat (omega arith) in omega arith);
          sound = map_sound w ps.0.0 (p.0.sound (no_pairs_sound w));
        },
        p.1,
      ))

  reads_form : (form : ValueForm) (s : Load) → ReadsFrom (FormRead w levels) s (value_form_at w levels part form s)
  unfolding value_form_at int_at char_at enum_at object_at event_at task_at
  reads_form of_value.Unit s bytes b = (leaf_read w levels s unit refl refl (sound_in w unit (λ n. tt)), b)
  reads_form of_value.False s bytes b = (leaf_read w levels s falsity refl refl (sound_in w falsity (λ n. tt)), b)
  reads_form of_value.True s bytes b = (leaf_read w levels s truth refl refl (sound_in w truth (λ n. tt)), b)
  reads_form of_value.Int s bytes b =
      meets_then (And (λ (n : ℤ). Unit {0})) (And (λ x. FormRead w levels s x.0 x.1)) (integer_at bytes) (λ n. Ok ((int n.0, s), n.1))
      (reads_integer bytes b) (λ n p. (leaf_read w levels s (int n.0) refl refl (sound_in w (int n.0) (λ m. tt)), p.1))
  reads_form of_value.Char s bytes b =
      meets_then (And (λ n. (0 ≤ n) × (n ≤ 255))) (And (λ x. FormRead w levels s x.0 x.1)) (number_in 5 0 255 bytes)
      (λ n. Ok ((char n.0, s), n.1)) (reads_in 5 0 255 bytes b)
      (λ n p. (leaf_read w levels s (char n.0) refl refl (sound_in w (char n.0) (λ m. p.0.1)), p.1))
  reads_form of_value.Enum s bytes b =
      meets_then (And (λ n. (0 ≤ n) × (n ≤ 4294967295))) (And (λ x. FormRead w levels s x.0 x.1)) (small_at bytes)
      (λ of. small_at of.1 >>= λ at. Ok ((enum of.0 at.0, s), at.1)) (reads_small bytes b)
      (λ of p. meets_then (And (λ n. (0 ≤ n) × (n ≤ 4294967295))) (And (λ x. FormRead w levels s x.0 x.1)) (small_at of.1)
      (λ at. Ok ((enum of.0 at.0, s), at.1)) (reads_small of.1 p.1)
      (λ at q. (leaf_read w levels s (enum of.0 at.0) refl refl (sound_in w (enum of.0 at.0) (λ m. tt)), q.1)))
  reads_form of_value.Object s bytes b =
      meets_then (And (λ n. (0 ≤ n) × (n ≤ 4294967295))) (And (λ x. FormRead w levels s x.0 x.1)) (small_at bytes)
      (λ n. Ok ((object n.0, s), n.1)) (reads_small bytes b)
      (λ n p. (leaf_read w levels s (object n.0) refl refl (sound_in w (object n.0) (λ m. tt)), p.1))
  reads_form of_value.Event s bytes b =
      meets_then (And (λ n. (0 ≤ n) × (n ≤ 4294967295))) (And (λ x. FormRead w levels s x.0 x.1)) (small_at bytes)
      (λ n. Ok ((event n.0, s), n.1)) (reads_small bytes b)
      (λ n p. (leaf_read w levels s (event n.0) refl refl (sound_in w (event n.0) (λ m. tt)), p.1))
  reads_form of_value.Task s bytes b =
      meets_then (And (λ n. may_name w n ≡ true)) (And (λ x. FormRead w levels s x.0 x.1)) (small_where (may_name w) bytes)
      (λ n. Ok ((task n.0, s), n.1)) (reads_where (may_name w) bytes b)
      (λ n p. (leaf_read w levels s (task n.0) refl refl (task_sound w n.0 p.0), p.1))
  reads_form of_value.Option s bytes b = reads_option s bytes b
  reads_form of_value.Array s bytes b = reads_array s bytes b
  reads_form of_value.Map s bytes b = reads_map s bytes b
  reads_form of_value.Tuple s bytes b = reads_tuple s bytes b

reads_value : (w : Where) (levels : ℕ) (s : Load) → ReadsFrom (ValueRead w levels) s (part_value_at w levels s)
unfolding part_value_at
reads_value w zero s bytes b =
    meets_then (And (λ x. More w 1 s x.1 × Within w x.1)) (And (λ x. ValueRead w 0 s x.0 x.1)) (part_at value_forms w s bytes)
    (λ part. Err (flaw 5 (length bytes))) (reads_part value_forms w s bytes b) (λ part p. tt)
reads_value w (suc levels) s bytes b =
    meets_then (And (λ x. More w 1 s x.1 × Within w x.1)) (And (λ x. ValueRead w (suc levels) s x.0 x.1)) (part_at value_forms w s bytes)
    (λ part. value_form_at w levels (part_value_at w levels) part.0.0 part.0.1 part.1) (reads_part value_forms w s bytes b)
    (λ part p. meets_as (And (λ x. FormRead w levels part.0.1 x.0 x.1)) (And (λ x. ValueRead w (suc levels) s x.0 x.1))
    (value_form_at w levels (part_value_at w levels) part.0.0 part.0.1 part.1)
    (λ x q. (
      record {
        more = more_as w (1 + q.0.inside) (weight_of x.0.0) s x.0.1 (sym q.0.weighs)
            (more_then w 1 q.0.inside s part.0.1 x.0.1 p.0.0 q.0.more);
        within = q.0.within p.0.1;
        flat = q.0.flat;
        sound = q.0.sound;
      },
      q.1,
    )) (reads_form w levels (part_value_at w levels) (reads_value w levels) part.0.0 part.0.1 part.1 p.1))

-- ---- whole values

abbrev pub CellsAfter : Where → (cells : ℕ) → ℕ → (after : ℕ) → Type 0
CellsAfter (Cell left) cells n after = (after ≡ cells + n) × (after ≤ MOST_STORE_WEIGHT)
CellsAfter (Among entries) cells n after = Unit {0}

-- a whole value, where the cells so far weigh so much
pub record WholeRead (w : Where) (cells : ℕ) (v : Val) (after : ℕ) : Type 0 where
  pub small : fits v ≡ true
  pub sound : SoundIn w v
  pub weight : CellsAfter w cells (weight_of v) after

fit : (v : Val) → weight_of v ≤ MOST_WEIGHT → levels_of v ≤ MOST_LEVELS → fits v ≡ true
fit v a b =
    let one : leb (weight_of v) MOST_WEIGHT ≡ true = le-leb _ _ a in
    let two : leb (levels_of v) MOST_LEVELS ≡ true = le-leb _ _ b in
    cc (one, two)

after_of : (w : Where) (cells n : ℕ) (t : Load) → CellsMore w n (record { value = 0; cells = cells }) t → CellsWithin w t →
    CellsAfter w cells n t.cells
after_of (Cell left) cells n t a b = (a, b)
after_of (Among entries) cells n t a b = tt

pub reads_whole : (w : Where) (cells : ℕ) → ReadsFrom (WholeRead w) cells (value_at w cells)
unfolding value_at
reads_whole w cells bytes b =
    let s : Load = record { value = 0; cells = cells } in
    meets_then (And (λ x. ValueRead w MOST_LEVELS s x.0 x.1)) (And (λ x. WholeRead w cells x.0 x.1)) (part_value_at w MOST_LEVELS s bytes)
    (λ v. Ok ((v.0.0, v.0.1.cells), v.1)) (reads_value w MOST_LEVELS s bytes b)
    (λ v p. (
      record {
        small = fit v.0.0 (let sum = p.0.more.0 in let low = p.0.within.0 in omega arith) p.0.flat;
        sound = p.0.sound;
        weight = after_of w cells (weight_of v.0.0) v.0.1 p.0.more.1 p.0.within.1;
      },
      p.1,
    ))

pub reads_all : (w : Where) (cells : ℕ) → ReadsFrom (Steps (WholeRead w)) cells (values_at w cells)
unfolding values_at
reads_all w cells bytes b =
    meets_then (And (λ (n : ℕ). Unit {0})) (And (λ x. Steps (WholeRead w) cells x.0 x.1)) (wide_at bytes)
    (λ n. each_at (value_at w) n.0 cells n.1) (reads_wide bytes b)
    (λ n p. meets_as (And (λ x. (length x.0 ≡ n.0) × Steps (WholeRead w) cells x.0 x.1)) (And (λ x. Steps (WholeRead w) cells x.0 x.1))
    (each_at (value_at w) n.0 cells n.1) (λ x q. (q.0.1, q.1)) (reads_each (WholeRead w) (value_at w) (reads_whole w) n.0 cells n.1 p.1))
