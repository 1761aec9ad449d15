-- Cells and spawned entries that are read.
use Rattle.std.proofs.Common.{◌≡◌, ℕ, zero, suc, ◌+◌, ◌<◌, ◌≤◌, Bool, true, false, cond, eqb, List, [], ◌∷◌, ◌++◌}
use Rattle.std.proofs.Common.{length, Option, Some, None}
use Rattle.std.proofs.Common.{slice_get, Result, Ok, Err, refl, sym, ap, subst, ◌∙◌, arith}
use Rattle.verse_base.proofs.Facts.{length_more}
use Rattle.verse_image.specs.declared.faults.Flaw.{Flaw}
use Rattle.verse_image.specs.Numbers.{IsBytes}
use Rattle.verse_image.specs.Reading.{◌>>=◌, Reader, flaw}
use Rattle.verse_code.specs.declared.codes.Class.{Class}
use Rattle.verse_value.specs.Val.{Val, vals}
use Rattle.verse_value.specs.Sizes.{fits, weights}
use Rattle.verse_value.specs.Store.{Cell, Store, cell_weight, store_weight}
use Rattle.verse_value.specs.declared.sizes.TheConstants.{MOST_STORE_WEIGHT}
use Rattle.verse_value.specs.declared.runs.CellKind.{CellKind}
use Rattle.verse_value.specs.declared.runs.CellKind.TheVariants as cell
use Rattle.verse_meaning_state.specs.State.{Given}
use Rattle.verse_code_machine.specs.Belonging.{StoreBelongs, slots_of}
use Rattle.run_save_shots.specs.Lists.{Each}
use Rattle.run_save_shots.specs.Fitting.{GivenFits, IsSound, ValueFits, ValuesFit}
use Rattle.run_save_format.specs.declared.forms.CellForm.{CellForm}
use Rattle.run_save_format.specs.declared.forms.CellForm.TheVariants as of_cell
use Rattle.run_save_format.specs.declared.weights.Where.TheVariants as place
use Rattle.run_save_format.specs.declared.weights.Load.{Load}
use Rattle.run_save_format.specs.Values.{choice_at, each_at, flag_at, number_in, small_at, value_at, values_at, weighed, wide_at}
use Rattle.run_save_format.specs.Whole.{name_none, names_none}
use Rattle.run_save_format.specs.Reading.{at_most, cell_at, cell_forms, cells_at, entry_at, free_value_at}
use Rattle.run_save_format.specs.Reading.{free_values_at, given_at, kind_at}
use Rattle.run_save_format.specs.Reading.{kind_form_at, maybe_at, noted_at, object_of, spawned_at}
use Rattle.run_save_format.proofs.Lefts.{IfThere}
use Rattle.run_save_reads.proofs.Meeting.{Meets, meets_then, meets_as, And, Reads, ReadsFrom, Steps}
use Rattle.run_save_reads.proofs.Meeting.{reads_choice, reads_each, reads_flag}
use Rattle.run_save_reads.proofs.Meeting.{reads_in, reads_small, reads_wide}
use Rattle.run_save_reads.proofs.Values.{More, Within, WholeRead, meets_weighed, reads_all, reads_whole}

-- ---- one after the other, with what is left at each

abbrev pub NotedRead : {A S : Type 0} → (S → A → S → Type 0) → S × List ℕ → A → S × List ℕ → Type 0
NotedRead One s x t = One s.0 x t.0 × (length t.1 ≡ suc (length s.1))

pub reads_noted : {A S : Type 0} (One : S → A → S → Type 0) (one : S → Reader (A × S)) → ((s : S) → ReadsFrom One s (one s)) →
    (s : S × List ℕ) → ReadsFrom (NotedRead One) s (noted_at one s)
unfolding noted_at
reads_noted One one h s bytes b =
    meets_then (And (λ x. One s.0 x.0 x.1)) (And (λ x. NotedRead One s x.0 x.1)) (one s.0 bytes)
    (λ x. Ok ((x.0.0, (x.0.1, s.1 ++ length bytes ∷ [])), x.1)) (h s.0 bytes b) (λ x p. ((p.0, length_more s.1 (length bytes)), p.1))

-- what was read, without what is left, and how often
pub steps_noted : {A S : Type 0} (One : S → A → S → Type 0) (xs : List A) (s t : S × List ℕ) → Steps (NotedRead One) s xs t →
    Steps One s.0 xs t.0 × (length t.1 ≡ length s.1 + length xs)
steps_noted One [] s t e = (ap (λ u. u.0) e, (let same : length t.1 ≡ length s.1 = ap (λ u. length u.1) (sym e) in omega arith))
steps_noted One (x ∷ xs) s t (u, a, b) =
    let rest = steps_noted One xs u t b in
    let one = a.1 in
    let others = rest.1 in
    ((u.0, a.0, rest.0), omega arith)

pub reads_maybe : {A : Type 0} (P : A → Type 0) (one : Reader A) → Reads P one → Reads (IfThere P) (maybe_at one)
unfolding maybe_at
reads_maybe {A} P one h bytes b =
    meets_then (And (λ n. (0 ≤ n) × (n ≤ 1))) (And (IfThere P)) (flag_at bytes)
    (λ n. cond (eqb n.0 0) (Ok (None, n.1)) (one n.1 >>= λ x. Ok (Some x.0, x.1))) (reads_flag bytes b)
    (λ n p. either (eqb n.0 0) n p.1)
  where
    either : (t : Bool) (n : ℕ × List ℕ) → IsBytes n.1 →
        Meets (And (IfThere P)) (cond t (Ok (None, n.1)) (one n.1 >>= λ x. Ok (Some x.0, x.1)))
    either true n c = (tt, c)
    either false n c = meets_then (And P) (And (IfThere P)) (one n.1) (λ x. Ok (Some x.0, x.1)) (h n.1 c) (λ x q. q)

-- ---- values outside of cells

free_fits : (entries : ℕ) (a : ℕ) (v : Val) (z : ℕ) → WholeRead (place.Among entries) a v z → ValueFits entries v
free_fits entries a v z p = record { small = p.small; sound = p.sound }

all_fit : (entries : ℕ) (vs : List Val) (a z : ℕ) → Steps (WholeRead (place.Among entries)) a vs z → ValuesFit entries vs
all_fit entries [] a z e = tt
all_fit entries (v ∷ vs) a z (u, p, q) = (free_fits entries a v u p, all_fit entries vs u z q)

pub reads_free : (entries : ℕ) → Reads (ValueFits entries) (free_value_at entries)
unfolding free_value_at
reads_free entries bytes b =
    meets_then (And (λ x. WholeRead (place.Among entries) 0 x.0 x.1)) (And (ValueFits entries)) (value_at (place.Among entries) 0 bytes)
    (λ v. Ok (v.0.0, v.1)) (reads_whole (place.Among entries) 0 bytes b) (λ v p. (free_fits entries 0 v.0.0 v.0.1 p.0, p.1))

pub reads_free_all : (entries : ℕ) → Reads (ValuesFit entries) (free_values_at entries)
unfolding free_values_at
reads_free_all entries bytes b =
    meets_then (And (λ x. Steps (WholeRead (place.Among entries)) 0 x.0 x.1)) (And (ValuesFit entries))
    (values_at (place.Among entries) 0 bytes)
    (λ vs. Ok (vs.0.0, vs.1)) (reads_all (place.Among entries) 0 bytes b) (λ vs p. (all_fit entries vs.0.0 0 vs.0.1 p.0, p.1))

-- ---- cells

-- within its limits, and sound where it names no entry that there is not
abbrev pub SlotRead : Val → Type 0
SlotRead v = (fits v ≡ true) × ((n : ℕ) → names_none n v ≡ false → IsSound n v)

pub record SlotsRead (a : ℕ) (vs : List Val) (z : ℕ) : Type 0 where
  pub weight : z ≡ a + weights (vals vs)
  pub within : a ≤ MOST_STORE_WEIGHT → z ≤ MOST_STORE_WEIGHT
  pub slots : Each SlotRead vs

slots_read : (left : ℕ) (vs : List Val) (a z : ℕ) → Steps (WholeRead (place.Cell left)) a vs z → SlotsRead a vs z
slots_read left [] a z e = subst (λ y. SlotsRead a [] y) e (record { weight = omega arith; within = λ p. p; slots = tt })
slots_read left (v ∷ vs) a z (u, p, q) =
    let rest = slots_read left vs u z q in
    let one = p.weight.0 in
    let others = rest.weight in
    record { weight = omega arith; within = λ low. rest.within p.weight.1; slots = ((p.small, p.sound), rest.slots) }

pub record CellRead (classes : List Class) (a : ℕ) (c : Cell) (z : ℕ) : Type 0 where
  pub belongs : slots_of classes c.kind ≡ Some (length c.slots)
  pub weight : z ≡ a + cell_weight c
  pub within : z ≤ MOST_STORE_WEIGHT
  pub slots : Each SlotRead c.slots

abbrev KindRead : List Class → CellKind × ℕ → Type 0
KindRead classes x = slots_of classes x.0 ≡ Some x.1

class_is : (classes : List Class) (class : ℕ) (o : Option Class) (left : ℕ) (bytes : List ℕ) → slice_get classes class ≡ o → IsBytes bytes →
    Meets (And (KindRead classes)) (object_of left class o bytes)
class_is classes class None left bytes e b = tt
class_is classes class (Some c) left bytes e b = (rw e refl, b)

reads_kind_form : (classes : List Class) (form : CellForm) → Reads (KindRead classes) (kind_form_at classes form)
unfolding kind_form_at
reads_kind_form classes of_cell.Var bytes b = (refl, b)
reads_kind_form classes of_cell.Event bytes b = (refl, b)
reads_kind_form classes of_cell.Object bytes b =
    meets_then (And (λ n. (0 ≤ n) × (n ≤ 4294967295))) (And (KindRead classes)) (small_at bytes)
    (λ n. object_of (length bytes) n.0 (slice_get classes n.0) n.1) (reads_small bytes b)
    (λ n p. class_is classes n.0 (slice_get classes n.0) (length bytes) n.1 refl p.1)

reads_kind : (classes : List Class) → Reads (KindRead classes) (kind_at classes)
unfolding kind_at
reads_kind classes bytes b =
    meets_then (And (λ (x : CellForm). Unit {0})) (And (KindRead classes)) (choice_at cell_forms bytes)
    (λ form. kind_form_at classes form.0 form.1)
    (reads_choice cell_forms bytes b) (λ form p. reads_kind_form classes form.0 form.1 p.1)

reads_cell : (classes : List Class) (a : ℕ) → ReadsFrom (CellRead classes) a (cell_at classes a)
unfolding cell_at
reads_cell classes a bytes b =
    let w = place.Cell (length bytes) in
    let s : Load = record { value = 0; cells = a } in
    meets_then (And (KindRead classes)) (And (λ x. CellRead classes a x.0 x.1)) (kind_at classes bytes)
    (λ kind. weighed w (length bytes) 1 s >>= λ load. number_in 5 kind.0.1 kind.0.1 kind.1 >>= λ n.
    each_at (value_at w) n.0 load.cells n.1 >>= λ slots. Ok ((record { kind = kind.0.0; slots = slots.0.0 }, slots.0.1), slots.1))
    (reads_kind classes bytes b)
    (λ kind k. meets_then (λ t. More w 1 s t × Within w t) (And (λ x. CellRead classes a x.0 x.1)) (weighed w (length bytes) 1 s)
    (λ load. number_in 5 kind.0.1 kind.0.1 kind.1 >>= λ n. each_at (value_at w) n.0 load.cells n.1 >>= λ slots.
    Ok ((record { kind = kind.0.0; slots = slots.0.0 }, slots.0.1), slots.1))
    (meets_weighed w (length bytes) 1 s)
    (λ load l. meets_then (And (λ n. (kind.0.1 ≤ n) × (n ≤ kind.0.1))) (And (λ x. CellRead classes a x.0 x.1))
    (number_in 5 kind.0.1 kind.0.1 kind.1)
    (λ n. each_at (value_at w) n.0 load.cells n.1 >>= λ slots. Ok ((record { kind = kind.0.0; slots = slots.0.0 }, slots.0.1), slots.1))
    (reads_in 5 kind.0.1 kind.0.1 kind.1 k.1)
    (λ n p. meets_then (And (λ x. (length x.0 ≡ n.0) × Steps (WholeRead w) load.cells x.0 x.1)) (And (λ x. CellRead classes a x.0 x.1))
    (each_at (value_at w) n.0 load.cells n.1) (λ slots. Ok ((record { kind = kind.0.0; slots = slots.0.0 }, slots.0.1), slots.1))
    (reads_each (WholeRead w) (value_at w) (reads_whole w) n.0 load.cells n.1 p.1)
    (λ slots q. (let all = slots_read (length bytes) slots.0.0 load.cells slots.0.1 q.0.1 in
    let low = p.0.0 in
    let high = p.0.1 in
    let long = q.0.0 in
    let count : kind.0.1 ≡ length slots.0.0 = omega arith in
    let own = l.0.1 in
    let more = all.weight in (
      record {
        belongs = k.0 ∙ ap (λ m. Some m) count;
        weight = omega arith;
        within = all.within l.1.1;
        slots = all.slots;
      },
      q.1,
    ))))))

pub record CellsRead (classes : List Class) (a : ℕ) (cells : Store) (z : ℕ) : Type 0 where
  pub belongs : StoreBelongs classes cells
  pub weight : z ≡ a + store_weight cells
  pub within : a ≤ MOST_STORE_WEIGHT → z ≤ MOST_STORE_WEIGHT
  pub slots : Each (λ (c : Cell). Each SlotRead c.slots) cells

cells_read : (classes : List Class) (cells : Store) (a z : ℕ) → Steps (CellRead classes) a cells z → CellsRead classes a cells z
cells_read classes [] a z e =
    subst (λ y. CellsRead classes a [] y) e (record { belongs = tt; weight = omega arith; within = λ p. p; slots = tt })
cells_read classes (c ∷ cells) a z (u, p, q) =
    let rest = cells_read classes cells u z q in
    let one = p.weight in
    let others = rest.weight in
    record {
      belongs = (p.belongs, rest.belongs);
      weight = omega arith;
      within = λ low. rest.within p.within;
      slots = (p.slots, rest.slots);
    }

pub record StoreRead (classes : List Class) (x : Store × List ℕ) : Type 0 where
  pub belongs : StoreBelongs classes x.0
  pub weight : store_weight x.0 ≤ MOST_STORE_WEIGHT
  pub slots : Each (λ (c : Cell). Each SlotRead c.slots) x.0
  pub lefts : length x.1 ≡ length x.0

pub reads_cells : (classes : List Class) → Reads (StoreRead classes) (cells_at classes)
unfolding cells_at
reads_cells classes bytes b =
    meets_then (And (λ (n : ℕ). Unit {0})) (And (StoreRead classes)) (wide_at bytes)
    (λ n. each_at (noted_at (cell_at classes)) n.0 (0, []) n.1 >>= λ cells. Ok ((cells.0.0, cells.0.1.1), cells.1)) (reads_wide bytes b)
    (λ n p. meets_then (And (λ x. (length x.0 ≡ n.0) × Steps (NotedRead (CellRead classes)) (0, []) x.0 x.1)) (And (StoreRead classes))
    (each_at (noted_at (cell_at classes)) n.0 (0, []) n.1) (λ cells. Ok ((cells.0.0, cells.0.1.1), cells.1))
    (reads_each (NotedRead (CellRead classes)) (noted_at (cell_at classes))
    (reads_noted (CellRead classes) (cell_at classes) (reads_cell classes))
    n.0 (0, []) n.1 p.1)
    (λ cells q. (let noted = steps_noted (CellRead classes) cells.0.0 (0, []) cells.0.1 q.0.1 in
    let all = cells_read classes cells.0.0 0 cells.0.1.0 noted.0 in
    let sum = all.weight in
    let few = all.within (omega arith) in
    let lefts = noted.1 in (
      record { belongs = all.belongs; weight = omega arith; slots = all.slots; lefts = omega arith },
      q.1,
    ))))

-- ---- spawned entries

reads_given : (entries : ℕ) → Reads (λ (g : Given). ValueFits entries g.value) (given_at entries)
unfolding given_at
reads_given entries bytes b =
    meets_then (And (ValueFits entries)) (And (λ (g : Given). ValueFits entries g.value)) (free_value_at entries bytes)
    (λ v. wide_at v.1 >>= λ moment. Ok (record { value = v.0; moment = moment.0 }, moment.1)) (reads_free entries bytes b)
    (λ v p. meets_then (And (λ (n : ℕ). Unit {0})) (And (λ (g : Given). ValueFits entries g.value)) (wide_at v.1)
    (λ moment. Ok (record { value = v.0; moment = moment.0 }, moment.1)) (reads_wide v.1 p.1) (λ moment q. (p.0, q.1)))

abbrev EntryRead : ℕ → List ℕ → Option Given → List ℕ → Type 0
EntryRead entries s g t = GivenFits entries g × (length t ≡ suc (length s))

given_fits : (entries : ℕ) (g : Option Given) → IfThere (λ (g : Given). ValueFits entries g.value) g → GivenFits entries g
given_fits entries None p = tt
given_fits entries (Some g) p = p

reads_entry : (entries : ℕ) (lefts : List ℕ) → ReadsFrom (EntryRead entries) lefts (entry_at entries lefts)
unfolding entry_at
reads_entry entries lefts bytes b =
    meets_then (And (IfThere (λ (g : Given). ValueFits entries g.value))) (And (λ x. EntryRead entries lefts x.0 x.1))
    (maybe_at (given_at entries) bytes) (λ g. Ok ((g.0, lefts ++ length bytes ∷ []), g.1))
    (reads_maybe (λ (g : Given). ValueFits entries g.value) (given_at entries) (reads_given entries) bytes b)
    (λ g p. ((given_fits entries g.0 p.0, length_more lefts (length bytes)), p.1))

entries_read : (entries : ℕ) (gs : List (Option Given)) (s t : List ℕ) → Steps (EntryRead entries) s gs t →
    Each (GivenFits entries) gs × (length t ≡ length s + length gs)
entries_read entries [] s t e = (tt, (let same : length t ≡ length s = ap length (sym e) in omega arith))
entries_read entries (g ∷ gs) s t (u, p, q) =
    let rest = entries_read entries gs u t q in
    let one = p.1 in
    let others = rest.1 in
    ((p.0, rest.0), omega arith)

pub record SpawnedRead (spent : ℕ) (x : List (Option Given) × List ℕ) : Type 0 where
  pub few : length x.0 ≤ spent
  pub fit : Each (GivenFits (length x.0)) x.0
  pub lefts : length x.1 ≡ length x.0

pub reads_spawned : (spent : ℕ) → Reads (SpawnedRead spent) (spawned_at spent)
unfolding spawned_at
reads_spawned spent bytes b =
    meets_then (And (λ n. (0 ≤ n) × (n ≤ spent))) (And (SpawnedRead spent)) (at_most spent bytes) (λ n. each_at (entry_at n.0) n.0 [] n.1)
    (reads_in 5 0 spent bytes b)
    (λ n p. meets_as (And (λ x. (length x.0 ≡ n.0) × Steps (EntryRead n.0) [] x.0 x.1)) (And (SpawnedRead spent))
    (each_at (entry_at n.0) n.0 [] n.1)
    (λ x q. (let all = entries_read n.0 x.0.0 [] x.0.1 q.0.1 in
    let low = p.0.1 in
    let long = q.0.0 in
    let lefts = all.1 in (
      record {
        few = omega arith;
        fit = subst (λ k. Each (GivenFits k) x.0.0) (sym q.0.0) all.0;
        lefts = omega arith;
      },
      q.1,
    ))) (reads_each (EntryRead n.0) (entry_at n.0) (reads_entry n.0) n.0 [] n.1 p.1))
