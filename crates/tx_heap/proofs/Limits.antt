-- The limit of the store, from the weight that is spare.
use Rattle.std.proofs.Common.{◌≡◌, ◌≤◌, ◌+◌, ◌-◌, min, ℕ, ℤ, Bool, true, false, List, Option, Some, None, Result, Ok, Err, refl, sym, ap}
use Rattle.std.proofs.Common.{◌∙◌}
use Rattle.std.proofs.Common.{arith, if◌then◌else◌, subst, IfSome, OnSome, IfNone}
use Rattle.std.specs.Prelude.{nat_le}
use Rattle.std.proofs.lemmas.Bool.{le-leb, leb-true}
use Rattle.verse_base.specs.declared.refusals.Kind.TheVariants as kind
use Rattle.verse_value.specs.Val.{Val, int, vals}
use Rattle.verse_value.specs.View.{vals_of}
use Rattle.verse_value.specs.Sizes.{weight_of, weights}
use Rattle.verse_value.specs.declared.values.Value.{Value}
use Rattle.verse_value.specs.declared.runs.CellKind.{CellKind}
use Rattle.verse_value.specs.Store.{Cell, Store, slot_of, stored, store_weight, cell_weight, with_cell}
use Rattle.verse_value_writes.specs.Writes.{written, Explains}
use Rattle.verse_value.specs.declared.modes.Mode.{Mode}
use Rattle.verse_value_writes.specs.declared.writes.WriteFault.{WriteFault}
use Rattle.verse_value_writes.specs.declared.writes.WriteFault.TheVariants.{Memory, Fail, Fault}
use Rattle.verse_value_writes.specs.declared.writes.WriteFault.TheVariants.{Stuck}
use Rattle.verse_cells.specs.Changes.{spared, slot_written, IsWrite, InCell}
use Rattle.verse_cells.specs.declared.slots.Change.{Change}
use Rattle.verse_cells.specs.declared.slots.Wanted.{Wanted}
use Rattle.verse_cells.proofs.Weights.{store_weight_stored, slot_weight, store_weight_push}
use Rattle.tx_heap.specs.State.{new_cell, IsLight}
use Rattle.tx_heap.specs.Outcomes.{with_written, written_from, cells_written, Lands}
use Rattle.tx_heap.specs.Weighed.{IsWeighed}
use Rattle.tx_heap.specs.Undo.{UndoneBy}

same_test : (b d : Bool) → (b ≡ true → d ≡ true) → (d ≡ true → b ≡ true) → b ≡ d
same_test true d f g = sym (f refl)
same_test false false f g = refl
same_test false true f g = g refl

same_le : (a b c d : ℕ) → (a ≤ b → c ≤ d) → (c ≤ d → a ≤ b) → nat_le a b ≡ nat_le c d
same_le a b c d f g =
    same_test (nat_le a b) (nat_le c d) (λ h. le-leb c d (f (leb-true a b h))) (λ h. le-leb a b (g (leb-true c d h)))

-- what a write in a slot comes to, as one in the cells
abbrev pub in_cells : Store → ℕ → ℕ → Result (Val × Val) WriteFault → Result (Store × Val) WriteFault
in_cells cells cell slot (Ok w) = Ok (stored cells cell slot w.0, w.1)
in_cells cells cell slot (Err fault) = Err fault

in_cells_if : (cells : Store) (cell slot : ℕ) (w : Val × Val) (b : Bool) →
    (if b then Ok (stored cells cell slot w.0, w.1) else Err (Fault kind.Store)) ≡
    in_cells cells cell slot (if b then Ok w else Err (Fault kind.Store))
in_cells_if cells cell slot w true = refl
in_cells_if cells cell slot w false = refl

light_spare : (cells : Store) (cell slot weight : ℕ) (from to : Val) → IsWeighed weight cells → slot_of cells cell slot ≡ Some from →
    nat_le (store_weight (stored cells cell slot to)) 16000000 ≡ nat_le (weight_of to) (weight_of from + (16000000 - weight))
light_spare cells cell slot weight from to w there =
    let sum = store_weight_stored cells cell slot from to there in
    let part = slot_weight cells cell slot from there in
    same_le (store_weight (stored cells cell slot to)) 16000000 (weight_of to) (weight_of from + (16000000 - weight))
    (λ h. omega (arith, h, sum, part, w.sum, w.light))
    (λ h. omega (arith, h, sum, part, w.sum, w.light))

with_written_spared : (cells : Store) (cell slot weight : ℕ) (from : Val) (o : Result (Val × Val) WriteFault) → IsWeighed weight cells →
    slot_of cells cell slot ≡ Some from → with_written cells cell slot o ≡ in_cells cells cell slot (spared (16000000 - weight) from o)
with_written_spared cells cell slot weight from (Err fault) w there = refl
with_written_spared cells cell slot weight from (Ok v) w there =
    ap (λ (b : Bool). if b then Ok (stored cells cell slot v.0, v.1) else Err (Fault kind.Store))
    (light_spare cells cell slot weight from v.0 w there) ∙ in_cells_if cells cell slot v _

written_spared : (cells : Store) (cell slot weight : ℕ) (path : List Val) (mode : Mode) (value : Val) (o : Option Val) →
    IsWeighed weight cells → slot_of cells cell slot ≡ o →
    written_from cells cell slot path mode value o ≡ in_cells cells cell slot (slot_written (16000000 - weight) path mode value o)
written_spared cells cell slot weight path mode value None w there = refl
written_spared cells cell slot weight path mode value (Some from) w there =
    with_written_spared cells cell slot weight from (written path mode value from) w there

pub cells_written_spared : (cells : Store) (cell slot weight : ℕ) (path : List Val) (mode : Mode) (value : Val) → IsWeighed weight cells →
    cells_written cells cell slot path mode value ≡
    in_cells cells cell slot (slot_written (16000000 - weight) path mode value (slot_of cells cell slot))
cells_written_spared cells cell slot weight path mode value w =
    written_spared cells cell slot weight path mode value (slot_of cells cell slot) w refl

-- a write within the spare weight is one within the limit
pub write_lands : (cells after : Store) (cell slot weight : ℕ) (path : List Val) (mode : Mode) (value : Val) (wanted : Wanted)
    (change : Change) → IsWeighed weight cells → InCell cell slot (IsWrite (16000000 - weight) path mode value wanted change) cells after →
    Lands wanted (cells_written cells cell slot path mode value) after change.value
write_lands cells after cell slot weight path mode value wanted change weighed w =
    let gives = ap (slot_written (16000000 - weight) path mode value) w.there ∙ w.goes.gives in
    record {
      wrote = w.goes.wrote;
      is = cells_written_spared cells cell slot weight path mode value weighed ∙
          (ap (in_cells cells cell slot) gives ∙ ap (λ (s : Store). Ok (s, w.goes.wrote)) (sym w.cells));
      answers = w.goes.answers;
    }

explains_same : {V W : Type 0} (o : Result V WriteFault) (p : Result W WriteFault) (fault : WriteFault) → (o ≡ Err fault → p ≡ Err fault) →
    Explains o fault → Explains p fault
explains_same o p Memory f h = tt
explains_same o p Fail f h = f h
explains_same o p (Fault k) f h = f h
explains_same o p Stuck f h = f h

pub fault_lands : (cells : Store) (cell slot weight : ℕ) (path : List Val) (mode : Mode) (value : Val) (fault : WriteFault) →
    IsWeighed weight cells → Explains (slot_written (16000000 - weight) path mode value (slot_of cells cell slot)) fault →
    Explains (cells_written cells cell slot path mode value) fault
fault_lands cells cell slot weight path mode value fault weighed h =
    explains_same (slot_written (16000000 - weight) path mode value (slot_of cells cell slot))
    (cells_written cells cell slot path mode value) fault
    (λ e. cells_written_spared cells cell slot weight path mode value weighed ∙ ap (in_cells cells cell slot) e)
    h

-- what undoes the write
pub write_undone : (cells after : Store) (cell slot spare : ℕ) (path : List Val) (mode : Mode) (value : Val) (wanted : Wanted)
    (change : Change) → InCell cell slot (IsWrite spare path mode value wanted change) cells after →
    InCell cell slot (UndoneBy path change.undo) cells after
write_undone cells after cell slot spare path mode value wanted change w = record {
  from = w.from;
  to = w.to;
  there = w.there;
  goes = record { can_undo = w.goes.can_undo; back = w.goes.undo };
  cells = w.cells;
}

-- the sum after one slot went from one weight to another
pub record Reweighs (weight before after : ℕ) (cells : Store) : Type 0 where
  pub within : before ≤ weight
  pub light : weight + after ≤ 16000000 + before
  pub weighed : (sum : ℕ) → sum + before ≡ weight + after → IsWeighed sum cells

pub reweighs : (weight before after : ℕ) (cells new : Store) (cell slot : ℕ) (from to : Val) → IsWeighed weight cells →
    slot_of cells cell slot ≡ Some from → before ≡ min (weight_of from) 18446744073709551615 →
    after ≡ min (weight_of to) 18446744073709551615 → new ≡ stored cells cell slot to →
    store_weight (stored cells cell slot to) ≤ 16000000 → Reweighs weight before after new
reweighs weight before after cells new cell slot from to w there is_before is_after is light =
    let sum = store_weight_stored cells cell slot from to there in
    let part = slot_weight cells cell slot from there in
    let all = ap store_weight is in
    let old : before ≡ weight_of from = omega (arith, is_before, part, w.sum, w.light) in
    let most : weight_of to ≤ 16000000 = omega (arith, sum, part, all, light) in
    let new_one : after ≡ weight_of to = omega (arith, is_after, most) in
    record {
      within = omega (arith, old, part, w.sum);
      light = omega (arith, old, new_one, sum, all, light, w.sum);
      weighed = λ (n : ℕ) e. record {
        sum = omega (arith, e, old, new_one, sum, all, w.sum);
        light = omega (arith, e, old, new_one, sum, all, light, w.sum);
      };
    }

spared_within : (spare : ℕ) (from : Val) (w : Val × Val) (to value : Val) (b : Bool) → nat_le (weight_of w.0) (weight_of from + spare) ≡ b →
    (if b then Ok w else Err (Fault kind.Store)) ≡ Ok (to, value) → weight_of to ≤ weight_of from + spare
spared_within spare from w to value true h e =
    let same : w ≡ (to, value) = cc in
    let le = leb-true (weight_of w.0) (weight_of from + spare) h in
    omega (arith, le, ap (λ (x : Val × Val). weight_of x.0) same)
spared_within spare from w to value false h e = cc

spared_light : (spare : ℕ) (from to value : Val) (o : Result (Val × Val) WriteFault) → spared spare from o ≡ Ok (to, value) →
    weight_of to ≤ weight_of from + spare
spared_light spare from to value (Err fault) e = cc
spared_light spare from to value (Ok w) e = spared_within spare from w to value _ refl e

pub write_reweighs : (weight : ℕ) (cells new : Store) (cell slot : ℕ) (path : List Val) (mode : Mode) (value : Val) (wanted : Wanted)
    (change : Change) → IsWeighed weight cells → InCell cell slot (IsWrite (16000000 - weight) path mode value wanted change) cells new →
    Reweighs weight change.before change.after new
write_reweighs weight cells new cell slot path mode value wanted change weighed w =
    let sum = store_weight_stored cells cell slot w.from w.to w.there in
    let part = slot_weight cells cell slot w.from w.there in
    let spare = spared_light (16000000 - weight) w.from w.to w.goes.wrote (written path mode value w.from) w.goes.gives in
    let light : store_weight (stored cells cell slot w.to) ≤ 16000000 = omega (arith, sum, part, spare, weighed.sum, weighed.light) in
    reweighs weight change.before change.after cells new cell slot w.from w.to weighed w.there w.goes.before w.goes.after w.cells light

-- an int in the place of another weighs as much
int_weighs : (weight : ℕ) (cells : Store) (cell slot : ℕ) (from to : ℤ) → IsWeighed weight cells →
    slot_of cells cell slot ≡ Some (int from) → IsWeighed weight (stored cells cell slot (int to))
int_weighs weight cells cell slot from to w there =
    let sum = store_weight_stored cells cell slot (int from) (int to) there in
    record { sum = omega (arith, sum, w.sum); light = w.light }

pub put_weighs : (weight : ℕ) (cells new : Store) (cell slot : ℕ) (n : ℤ) (old : Option ℤ) → IsWeighed weight cells →
    IfSome old (λ m. slot_of cells cell slot ≡ Some (int m)) → OnSome old (new ≡ stored cells cell slot (int n)) →
    IfNone old (new ≡ cells) → IsWeighed weight new
put_weighs weight cells new cell slot n None w there put same = subst (IsWeighed weight) (sym same) w
put_weighs weight cells new cell slot n (Some m) w there put same =
    subst (IsWeighed weight) (sym put) (int_weighs weight cells cell slot m n w there)

-- a new cell
pub record Grows (weight more : ℕ) (cells : Store) : Type 0 where
  pub light : weight + more ≤ 16000000
  pub weighed : (sum : ℕ) → sum ≡ weight + more → IsWeighed sum cells

pub grows : (weight more : ℕ) (cells new : Store) (c : Cell) → IsWeighed weight cells → more ≡ min (cell_weight c) 18446744073709551615 →
    new ≡ with_cell cells c → store_weight (with_cell cells c) ≤ 16000000 → Grows weight more new
grows weight more cells new c w is_more is light =
    let sum = store_weight_push cells c in
    let all = ap store_weight is in
    let one : more ≡ cell_weight c = omega (arith, is_more, sum, light) in
    record {
      light = omega (arith, one, sum, light, w.sum);
      weighed = λ (n : ℕ) e. record { sum = omega (arith, e, one, sum, all, w.sum); light = omega (arith, e, one, sum, light, w.sum) };
    }

-- what the slots of a new cell weigh
pub slots_weight : (kind : CellKind) (vs ws : List Value) (n : ℕ) → vs ≡ ws →
    n ≡ min (1 + weights (vals (vals_of vs))) 18446744073709551615 → n ≡ min (cell_weight (new_cell kind (vals_of ws))) 18446744073709551615
slots_weight kind vs ws n same e = e ∙ ap (λ (xs : List Value). min (1 + weights (vals (vals_of xs))) 18446744073709551615) same

-- whether a change keeps the limit, as the weights tell

pub add_keeps : (cells : Store) (c : Cell) (weight more sum : ℕ) → weight ≡ store_weight cells →
    more ≡ min (cell_weight c) 18446744073709551615 → sum ≡ min (weight + more) 18446744073709551615 → sum ≤ 16000000 →
    IsLight (with_cell cells c)
add_keeps cells c weight more sum w m s h = omega (arith, store_weight_push cells c, w, m, s, h)

pub add_kept : (cells : Store) (c : Cell) (weight more sum : ℕ) → weight ≡ store_weight cells →
    more ≡ min (cell_weight c) 18446744073709551615 → sum ≡ min (weight + more) 18446744073709551615 → IsLight (with_cell cells c) →
    sum ≤ 16000000
add_kept cells c weight more sum w m s h = omega (arith, store_weight_push cells c, w, m, s, h)

pub set_keeps : (cells : Store) (cell slot : ℕ) (from to : Val) (weight before after sum : ℕ) → slot_of cells cell slot ≡ Some from →
    weight ≡ store_weight cells → store_weight cells ≤ 16000000 → before ≡ min (weight_of from) 18446744073709551615 →
    after ≡ min (weight_of to) 18446744073709551615 → sum ≡ min (weight - before + after) 18446744073709551615 → sum ≤ 16000000 →
    IsLight (stored cells cell slot to)
set_keeps cells cell slot from to weight before after sum there w light b a s h =
    let part = slot_weight cells cell slot from there in
    let old : before ≡ weight_of from = omega (arith, b, part, light) in
    let small : weight - before + after ≤ 16000000 = omega (arith, s, h) in
    let new : after ≡ weight_of to = omega (arith, a, small) in
    omega (arith, store_weight_stored cells cell slot from to there, part, old, new, small, w)

pub set_kept : (cells : Store) (cell slot : ℕ) (from to : Val) (weight before after sum : ℕ) → slot_of cells cell slot ≡ Some from →
    weight ≡ store_weight cells → store_weight cells ≤ 16000000 → before ≡ min (weight_of from) 18446744073709551615 →
    after ≡ min (weight_of to) 18446744073709551615 → sum ≡ min (weight - before + after) 18446744073709551615 →
    IsLight (stored cells cell slot to) → sum ≤ 16000000
set_kept cells cell slot from to weight before after sum there w light b a s h =
    let part = slot_weight cells cell slot from there in
    let all = store_weight_stored cells cell slot from to there in
    let old : before ≡ weight_of from = omega (arith, b, part, light) in
    let most : weight_of to ≤ 16000000 = omega (arith, all, part, h) in
    let new : after ≡ weight_of to = omega (arith, a, most) in
    omega (arith, all, part, old, new, w, s, h)
