-- Values that are read are spelled by their bytes.
use Rattle.std.proofs.Common.{◌≡◌, ℕ, zero, suc, ◌+◌, ◌≤◌, false, ltb, eqb, List, [], ◌∷◌, length, take, drop}
use Rattle.std.proofs.Common.{Option, Some, None, refl, sym, ap, subst, ◌∙◌, arith}
use Rattle.std.proofs.lemmas.Bool.{ltb-false}
use Rattle.std.proofs.lemmas.List.{length-take}
use Rattle.verse_image.specs.Format.{Field, ◌⨾◌, byte, plain, each, flag}
use Rattle.verse_image.proofs.NumberLaws.{rest_bytes}
use Rattle.verse_value.specs.Val.{Val}
use Rattle.verse_value.specs.Val.{vals, list_of, Pairs, no_pairs, more_pairs, entries_of}
use Rattle.verse_value.specs.declared.keys.Key.{Key}
use Rattle.verse_value.specs.Entries.{key_place}
use Rattle.verse_value.specs.Parts.{keys_in}
use Rattle.verse_value.specs.Places.{with_last}
use Rattle.verse_value.specs.declared.sizes.TheConstants.{MOST_LEVELS, MOST_STORE_WEIGHT, MOST_WEIGHT}
use Rattle.run_save_format.specs.declared.forms.KeyForm.{KeyForm}
use Rattle.run_save_format.specs.declared.forms.KeyForm.TheVariants as of_key
use Rattle.run_save_format.specs.declared.forms.ValueForm.{ValueForm}
use Rattle.run_save_format.specs.declared.forms.ValueForm.TheVariants as of_value
use Rattle.run_save_format.specs.declared.weights.Where.{Where}
use Rattle.run_save_format.specs.declared.weights.Where.TheVariants.{Cell, Among}
use Rattle.run_save_format.specs.declared.weights.Load.{Load}
use Rattle.run_save_format.specs.Format.{wide, key_field, list, value, values, pairs}
use Rattle.run_save_format.specs.Values.{Parts, array_at, char_at, each_at, enum_at, enum_key_at, event_at, int_at, key_at, key_form_at}
use Rattle.run_save_format.specs.Values.{key_forms, map_at, may_name, object_at, option_at, pair_at, pair_with, pairs_at, pairs_from}
use Rattle.run_save_format.specs.Values.{part_at, part_value_at, parts_at, task_at, text_key_at, tuple_at, value_at, value_form_at}
use Rattle.run_save_format.specs.Values.{value_forms, values_at, weighed}
use Rattle.run_save_format.specs.Reading.{free_value_at, free_values_at}
use Rattle.run_save_told.proofs.Telling.{Tells, tells, fails, tells_then, tells_if, tells_as, Within, Told, TellsField}
use Rattle.run_save_told.proofs.Numbers.{tells_wide, tells_integer, tells_in, tells_small, tells_where, tells_flag, Numbered}
use Rattle.run_save_told.proofs.Numbers.{tells_choice, tells_each}

-- ---- weights

-- a cell that is too heavy fails where it begins
abbrev pub Begun : ℕ → Where → Type 0
Begun most (Cell left) = left ≤ most
Begun most (Among entries) = Unit {0}

pub tells_weighed : {most : ℕ} (w : Where) (left n : ℕ) (s : Load) → Begun most w → left ≤ most →
    Tells most (λ (t : Load). Unit {0}) (weighed w left n s)
tells_weighed (Cell cell) left n s begun low =
    tells_if (ltb MOST_STORE_WEIGHT (s.cells + n)) _ _ (λ t. fails begun)
    (λ t. tells_if (ltb MOST_WEIGHT (s.value + n)) _ _ (λ u. fails low) (λ u. tells tt))
tells_weighed (Among entries) left n s begun low = tells_if (ltb MOST_WEIGHT (s.value + n)) _ _ (λ t. fails low) (λ t. tells tt)

-- what is read, whatever it weighs
abbrev pub Free : {A S : Type 0} → (A → Field) → A × S → Field
Free f x bytes rest = f x.0 bytes rest

tells_part : {most : ℕ} {A : Type 0} (form : A → ℕ) (forms : List A) → Numbered form 0 forms → length forms ≤ 128 →
    (w : Where) (s : Load) → Begun most w → TellsField most (Free (λ x. byte (form x))) (part_at forms w s)
unfolding part_at
tells_part form forms numbered small w s begun bytes b =
    tells_then _ (tells_choice form forms numbered small bytes b)
    (λ x p. tells_then _ (tells_weighed w (length bytes) 1 s begun b.few) (λ t q. tells p))

-- ---- a text

drop_within : {most : ℕ} (n : ℕ) (bytes : List ℕ) → Within most bytes → Within most (drop n bytes)
drop_within zero bytes b = b
drop_within (suc n) [] b = b
drop_within {most = most} (suc n) (x ∷ bytes) b =
    let few = b.few in
    drop_within n bytes (record { fits = rest_bytes x bytes b.fits; few = omega arith })

text_is : (n : ℕ) (bytes : List ℕ) → plain (take n bytes) bytes (drop n bytes)
text_is zero bytes = refl
text_is (suc n) [] = refl
text_is (suc n) (x ∷ bytes) = ap (λ l. x ∷ l) (text_is n bytes)

pub record TextTold (most n : ℕ) (bytes : List ℕ) : Type 0 where
  pub long : n ≡ length (take n bytes)
  pub text : plain (take n bytes) bytes (drop n bytes)
  pub behind : Within most (drop n bytes)

pub text_told : {most : ℕ} (n : ℕ) (bytes : List ℕ) → ltb (length bytes) n ≡ false → Within most bytes → TextTold most n bytes
text_told n bytes e b =
    let low = ltb-false _ _ e in
    record { long = omega (arith, length-take n bytes); text = text_is n bytes; behind = drop_within n bytes b }

-- ---- keys

abbrev key_number : KeyForm → ℕ
key_number of_key.Int = 0
key_number of_key.Logic = 1
key_number of_key.Char = 2
key_number of_key.Enum = 3
key_number of_key.Text = 4

keys_numbered : Numbered key_number 0 key_forms
keys_numbered = (refl, (refl, (refl, (refl, (refl, tt)))))

flag_is : (n : ℕ) → n ≤ 1 → flag (eqb n 1) ≡ n
flag_is zero low = refl
flag_is (suc zero) low = refl
flag_is (suc (suc n)) low = absurd (omega arith)

-- behind the number of its form
tells_key_form : {most : ℕ} (w : Where) (left : ℕ) (form : KeyForm) (s : Load) (before bytes : List ℕ) → Begun most w → left ≤ most →
    byte (key_number form) before bytes → Within most bytes →
    Tells most (Told most (Free key_field) before) (key_form_at w left form s bytes)
unfolding key_form_at enum_key_at text_key_at
tells_key_form w left of_key.Int s before bytes begun low e b =
    tells_then _ (tells_integer bytes b) (λ n p. tells ((bytes, e, p.0), p.1))
tells_key_form w left of_key.Logic s before bytes begun low e b =
    tells_then _ (tells_flag bytes b)
    (λ n p. tells ((bytes, e, p.0.0 ∙ ap (λ k. k ∷ n.1) (sym (flag_is n.0 p.0.1))), p.1))
tells_key_form w left of_key.Char s before bytes begun low e b =
    tells_then _ (tells_in 5 0 255 bytes b) (λ n p. tells ((bytes, e, p.0.0), p.1))
tells_key_form w left of_key.Enum s before bytes begun low e b =
    tells_then _ (tells_small bytes b)
    (λ of p. tells_then _ (tells_small of.1 p.1) (λ at q. tells ((of.1, (bytes, e, p.0), q.0), q.1)))
tells_key_form w left of_key.Text s before bytes begun low e b =
    tells_then _ (tells_wide bytes b)
    (λ n p. tells_then _ (tells_weighed w left n.0 s begun low)
    (λ more q. tells_if _ _ _ (λ t. fails (omega arith))
    (λ t. (let text = text_told n.0 n.1 t p.1 in
    tells ((n.1, (bytes, e, subst (λ k. wide k bytes n.1) text.long p.0), text.text), text.behind)))))

tells_key : {most : ℕ} (w : Where) (levels : ℕ) (s : Load) → Begun most w → TellsField most (Free key_field) (key_at w levels s)
unfolding key_at
tells_key w levels s begun bytes b =
    tells_then _ (tells_part key_number key_forms keys_numbered (omega arith) w s begun bytes b)
    (λ part p. tells_if (eqb levels 0) _ _ (λ t. fails b.few)
    (λ t. tells_key_form w (length bytes) part.0.0 part.0.1 bytes part.1 begun b.few p.0 p.1))

-- ---- lists of values

abbrev pub Any : {S : Type 0} → S → Type 0
Any s = Unit {0}

-- as the values of an array
abbrev Listed : List Val → Field
Listed vs = wide (length (list_of (vals vs))) ⨾ values (vals vs)

listed : (vs : List Val) → list_of (vals vs) ≡ vs
listed [] = refl
listed (v ∷ vs) = ap (λ l. v ∷ l) (listed vs)

all_listed : (vs : List Val) (bytes rest : List ℕ) → each value vs bytes rest → values (vals vs) bytes rest
all_listed [] bytes rest h = h
all_listed (v ∷ vs) bytes rest h = (h.0, h.1, all_listed vs h.0 rest h.2)

list_listed : (vs : List Val) (bytes rest : List ℕ) → list value vs bytes rest → Listed vs bytes rest
list_listed vs bytes rest h =
    (h.0, subst (λ l. wide (length l) bytes h.0) (sym (listed vs)) h.1, all_listed vs h.0 rest h.2)

-- ---- pairs

last_pair : (before : Pairs) (k : Key) (v : Val) (first bytes behind rest : List ℕ) → pairs before first bytes →
    key_field k bytes behind → value v behind rest → pairs (with_last before k v) first rest
last_pair no_pairs k v first bytes behind rest e h i =
    (rest, (behind, subst (λ l. key_field k l behind) (sym e) h, i), refl)
last_pair (more_pairs l u ps) k v first bytes behind rest g h i =
    (g.0, g.1, last_pair ps k v g.0 bytes behind rest g.2 h i)

last_count : (before : Pairs) (k : Key) (v : Val) → length (entries_of (with_last before k v)) ≡ suc (length (entries_of before))
last_count no_pairs k v = refl
last_count (more_pairs l u ps) k v = ap suc (last_count ps k v)

-- as the pairs of a map
abbrev Mapped : Pairs → Field
Mapped ps = wide (length (entries_of ps)) ⨾ pairs ps

-- so many more pairs stand behind those before
abbrev PairsBehind : (before : Pairs) (n : ℕ) → Pairs → Field
PairsBehind before n ps bytes rest =
    (length (entries_of ps) ≡ n + length (entries_of before)) × ((first : List ℕ) → pairs before first bytes → pairs ps first rest)

-- ---- values

abbrev value_number : ValueForm → ℕ
value_number of_value.Unit = 0
value_number of_value.False = 1
value_number of_value.True = 2
value_number of_value.Int = 3
value_number of_value.Char = 4
value_number of_value.Enum = 5
value_number of_value.Object = 6
value_number of_value.Event = 7
value_number of_value.Task = 8
value_number of_value.Option = 9
value_number of_value.Array = 10
value_number of_value.Map = 11
value_number of_value.Tuple = 12

values_numbered : Numbered value_number 0 value_forms
values_numbered = (refl, (refl, (refl, (refl, (refl, (refl, (refl, (refl, (refl, (refl, (refl, (refl, (refl, tt)))))))))))))

abbrev TellsParts : ℕ → Parts Val → Type 0
TellsParts most part = (s : Load) → TellsField most (Free value) (part s)

module _ {most : ℕ} (w : Where) (begun : Begun most w) where
  module _ (levels : ℕ) (part : Parts Val) (h : TellsParts most part) where
    tells_parts : (s : Load) → TellsField most (Free (list value)) (parts_at part s)
    unfolding parts_at
    tells_parts s bytes b =
        tells_then _ (tells_wide bytes b)
        (λ n p. tells_as (λ vs q. ((n.1, subst (λ k. wide k bytes n.1) (sym q.0.0.1) p.0, q.0.0.0), q.1))
        (tells_each value Any part (λ t u bytes b. tells_as (λ v q. ((q.0, tt), q.1)) (h t bytes b)) n.0 s tt n.1 p.1))

    tells_pair_with : (before : Pairs) (left : ℕ) (k : Key) (o : Option ℕ) (s : Load) (bytes behind : List ℕ) → left ≤ most →
        key_field k bytes behind → Within most behind →
        Tells most (Told most (Free (PairsBehind before 1)) bytes) (pair_with part before left k o s behind)
    tells_pair_with before left k (Some place) s bytes behind low e b = fails low
    tells_pair_with before left k None s bytes behind low e b =
        tells_then _ (h s behind b)
        (λ v p. (let count = last_count before k v.0.0 in
        tells ((omega arith, λ first g. last_pair before k v.0.0 first bytes behind v.1 g e p.0), p.1)))

    tells_pair : (before : Pairs) (s : Load) → TellsField most (Free (PairsBehind before 1)) (pair_at w levels part before s)
    unfolding pair_at
    tells_pair before s bytes b =
        tells_then _ (tells_key w levels s begun bytes b)
        (λ k p. tells_pair_with before (length bytes) k.0.0 (key_place k.0.0 (keys_in before)) k.0.1 bytes k.1 b.few p.0 p.1)

    tells_pairs_from : (n : ℕ) (before : Pairs) (s : Load) →
        TellsField most (Free (PairsBehind before n)) (pairs_from w levels part n before s)
    unfolding pairs_from
    tells_pairs_from zero before s bytes b = tells ((omega arith, λ first g. g), b)
    tells_pairs_from (suc n) before s bytes b =
        tells_then _ (tells_pair before s bytes b)
        (λ more p. tells_as (λ ps q. (let one = p.0.0 in let others = q.0.0 in
        ((omega arith, λ first g. q.0.1 first (p.0.1 first g)), q.1)))
        (tells_pairs_from n more.0.0 more.0.1 more.1 p.1))

    tells_pairs : (s : Load) → TellsField most (Free Mapped) (pairs_at w levels part s)
    unfolding pairs_at
    tells_pairs s bytes b =
        tells_then _ (tells_wide bytes b)
        (λ n p. tells_as
        (λ ps q. (let long = q.0.0 in
        let count : n.0 ≡ length (entries_of ps.0.0) = omega arith in
        ((n.1, subst (λ k. wide k bytes n.1) count p.0, q.0.1 n.1 refl), q.1)))
        (tells_pairs_from n.0 no_pairs s n.1 p.1))

    -- behind the number of its form
    tells_form : (form : ValueForm) (s : Load) (before bytes : List ℕ) → byte (value_number form) before bytes → Within most bytes →
        Tells most (Told most (Free value) before) (value_form_at w levels part form s bytes)
    unfolding value_form_at int_at char_at enum_at object_at event_at task_at option_at array_at map_at tuple_at
    tells_form of_value.Unit s before bytes e b = tells (e, b)
    tells_form of_value.False s before bytes e b = tells (e, b)
    tells_form of_value.True s before bytes e b = tells (e, b)
    tells_form of_value.Int s before bytes e b =
        tells_then _ (tells_integer bytes b) (λ n p. tells ((bytes, e, p.0), p.1))
    tells_form of_value.Char s before bytes e b =
        tells_then _ (tells_in 5 0 255 bytes b) (λ n p. tells ((bytes, e, p.0.0), p.1))
    tells_form of_value.Enum s before bytes e b =
        tells_then _ (tells_small bytes b)
        (λ of p. tells_then _ (tells_small of.1 p.1) (λ at q. tells ((of.1, (bytes, e, p.0), q.0), q.1)))
    tells_form of_value.Object s before bytes e b =
        tells_then _ (tells_small bytes b) (λ n p. tells ((bytes, e, p.0), p.1))
    tells_form of_value.Event s before bytes e b =
        tells_then _ (tells_small bytes b) (λ n p. tells ((bytes, e, p.0), p.1))
    tells_form of_value.Task s before bytes e b =
        tells_then _ (tells_where (may_name w) bytes b) (λ n p. tells ((bytes, e, p.0), p.1))
    tells_form of_value.Option s before bytes e b =
        tells_then _ (h s bytes b) (λ v p. tells ((bytes, e, p.0), p.1))
    tells_form of_value.Array s before bytes e b =
        tells_then _ (tells_parts s bytes b)
        (λ vs p. (let l = list_listed vs.0.0 bytes vs.1 p.0 in tells ((l.0, (bytes, e, l.1), l.2), p.1)))
    tells_form of_value.Map s before bytes e b =
        tells_then _ (tells_pairs s bytes b) (λ ps p. tells ((p.0.0, (bytes, e, p.0.1), p.0.2), p.1))
    tells_form of_value.Tuple s before bytes e b =
        tells_then _ (tells_parts s bytes b)
        (λ vs p. (let l = list_listed vs.0.0 bytes vs.1 p.0 in tells ((l.0, (bytes, e, l.1), l.2), p.1)))

  tells_value : (levels : ℕ) → TellsParts most (part_value_at w levels)
  unfolding part_value_at
  tells_value zero s bytes b =
      tells_then _ (tells_part value_number value_forms values_numbered (omega arith) w s begun bytes b) (λ part p. fails b.few)
  tells_value (suc levels) s bytes b =
      tells_then _ (tells_part value_number value_forms values_numbered (omega arith) w s begun bytes b)
      (λ part p. tells_form levels (part_value_at w levels) (tells_value levels) part.0.0 part.0.1 bytes part.1 p.0 p.1)

  -- ---- whole values

  pub tells_whole : (cells : ℕ) → TellsField most (Free value) (value_at w cells)
  unfolding value_at
  tells_whole cells bytes b =
      tells_then _ (tells_value MOST_LEVELS (record { value = 0; cells = cells }) bytes b) (λ v p. tells p)

  -- so many of them
  pub tells_slots : (n cells : ℕ) →
      TellsField most (Free (λ vs bytes rest. each value vs bytes rest × (length vs ≡ n))) (each_at (value_at w) n cells)
  tells_slots n cells bytes b =
      tells_as (λ vs p. (p.0.0, p.1))
      (tells_each value Any (value_at w) (λ s k bytes b. tells_as (λ v q. ((q.0, tt), q.1)) (tells_whole s bytes b)) n cells tt bytes b)

  pub tells_all : (cells : ℕ) → TellsField most (Free (list value)) (values_at w cells)
  unfolding values_at
  tells_all cells bytes b =
      tells_then _ (tells_wide bytes b)
      (λ n p. tells_as (λ vs q. ((n.1, subst (λ k. wide k bytes n.1) (sym q.0.1) p.0, q.0.0), q.1)) (tells_slots n.0 cells n.1 p.1))

-- ---- values outside of cells

pub tells_free : {most : ℕ} (entries : ℕ) → TellsField most value (free_value_at entries)
unfolding free_value_at
tells_free entries bytes b = tells_then _ (tells_whole (Among entries) tt 0 bytes b) (λ v p. tells p)

pub tells_frees : {most : ℕ} (entries : ℕ) → TellsField most (list value) (free_values_at entries)
unfolding free_values_at
tells_frees entries bytes b = tells_then _ (tells_all (Among entries) tt 0 bytes b) (λ vs p. tells p)
