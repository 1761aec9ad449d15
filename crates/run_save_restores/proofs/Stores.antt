-- Cells and spawned entries that fit are read.
use Rattle.std.proofs.Common.{◌≡◌, ℕ, ◌+◌, ◌≤◌, List, [], ◌∷◌, ◌++◌, length, Option, Some, None, slice_get, Result, Ok}
use Rattle.std.proofs.Common.{refl, ap, arith, length-append}
use Rattle.verse_image.specs.declared.faults.Flaw.{Flaw}
use Rattle.verse_code.specs.declared.codes.Class.{Class}
use Rattle.verse_value.specs.Val.{vals}
use Rattle.verse_value.specs.Sizes.{weights}
use Rattle.verse_value.specs.Store.{Cell, Store, cell_weight, store_weight}
use Rattle.verse_value.specs.declared.sizes.TheConstants.{MOST_STORE_WEIGHT}
use Rattle.verse_value.specs.declared.runs.CellKind.{CellKind}
use Rattle.verse_value.specs.declared.runs.CellKind.TheVariants as cell
use Rattle.verse_meaning_state.specs.State.{Given}
use Rattle.verse_code_machine.specs.Belonging.{StoreBelongs, class_slots, slots_of}
use Rattle.run_save_shots.specs.Lists.{Each}
use Rattle.run_save_shots.specs.Fitting.{GivenFits, ValueFits, ValuesFit}
use Rattle.run_save_format.specs.declared.forms.CellForm.TheVariants as of_cell
use Rattle.run_save_format.specs.declared.weights.Where.TheVariants as place
use Rattle.run_save_format.specs.Format.{list, maybe, cell_kind, cell_field, given}
use Rattle.run_save_format.specs.Reading.{cell_at, cell_forms, cells_at, entry_at, given_at, kind_at, kind_form_at}
use Rattle.run_save_format.specs.Reading.{noted_at, object_of, spawned_at}
use Rattle.run_save_format.proofs.Lefts.{IfThere}
use Rattle.run_save_restores.proofs.Numbers.{Gives, GivesNext, Noted, gives_choice, gives_each, gives_in, gives_maybe}
use Rattle.run_save_restores.proofs.Numbers.{gives_most, gives_noted, gives_small, gives_wide}
use Rattle.run_save_restores.proofs.Values.{from_cells, gives_free, gives_slots, weighed_is}

-- all are read, and how many bytes are left at each
pub record GivesAll {A : Type 0} (found : Result ((List A × List ℕ) × List ℕ) Flaw) (xs : List A) (rest : List ℕ) : Type 0 where
  pub lefts : List ℕ
  pub count : length lefts ≡ length xs
  pub read : found ≡ Ok ((xs, lefts), rest)

-- ---- cells

class_is : (left class n : ℕ) (o : Option Class) (bytes : List ℕ) → class_slots o ≡ Some n →
    object_of left class o bytes ≡ Ok ((cell.Object class, n), bytes)
class_is left class n None bytes e = absurd (cc)
class_is left class n (Some c) bytes e = let same : c.slots ≡ n = cc in ap (λ m. Ok ((cell.Object class, m), bytes)) same

gives_kind : (classes : List Class) (kind : CellKind) (n : ℕ) → slots_of classes kind ≡ Some n →
    Gives (cell_kind kind) (kind_at classes) (kind, n)
unfolding kind_at kind_form_at
gives_kind classes cell.Var n e bytes rest h =
    let same : 1 ≡ n = cc in
    rw (gives_choice cell_forms 0 of_cell.Var (omega arith) refl bytes rest h) (ap (λ m. Ok ((cell.Var, m), rest)) same)
gives_kind classes cell.Event n e bytes rest h =
    let same : 0 ≡ n = cc in
    rw (gives_choice cell_forms 1 of_cell.Event (omega arith) refl bytes rest h) (ap (λ m. Ok ((cell.Event, m), rest)) same)
gives_kind classes (cell.Object class) n e bytes rest h =
    rw (gives_choice cell_forms 2 of_cell.Object (omega arith) refl bytes h.0 h.1, gives_small class h.0 rest h.2)
    (class_is (length h.0) class n (slice_get classes class) rest e)

gives_cell : (classes : List Class) (entries : ℕ) (c : Cell) (cells : ℕ) → slots_of classes c.kind ≡ Some (length c.slots) →
    ValuesFit entries c.slots → cells + cell_weight c ≤ MOST_STORE_WEIGHT →
    Gives (cell_field c) (cell_at classes cells) (c, cells + cell_weight c)
unfolding cell_at
gives_cell classes entries c cells belongs fit room bytes rest h =
    let n = length c.slots in
    let left = length bytes in
    let sum : cells + 1 + weights (vals c.slots) ≡ cells + (1 + weights (vals c.slots)) = omega arith in
    rw (
      gives_kind classes c.kind n belongs bytes h.0 h.1,
      weighed_is (place.Cell left) left 1 (from_cells cells) (omega arith, omega arith),
      gives_in 5 n n n (gives_wide n) (omega arith) (omega arith) h.0 h.2.0 h.2.1,
      gives_slots left entries c.slots (cells + 1) fit (omega arith) h.2.0 rest h.2.2,
      sum,
    ) refl

module _ (classes : List Class) (entries : ℕ) where
  abbrev CellsFit : ℕ → Store → Type 0
  CellsFit cells cs = (cells + store_weight cs ≤ MOST_STORE_WEIGHT) × StoreBelongs classes cs ×
      Each (λ (c : Cell). ValuesFit entries c.slots) cs

  gives_next_cell : GivesNext cell_field (cell_at classes) CellsFit
  gives_next_cell cells c cs bytes rest fit h =
      let room = fit.0 in
      record {
        after = cells + cell_weight c;
        holds = (omega arith, fit.1.1, fit.2.1);
        read = gives_cell classes entries c cells fit.1.0 fit.2.0 (omega arith) bytes rest h;
      }

  pub gives_cells : (cs : Store) (bytes rest : List ℕ) → store_weight cs ≤ MOST_STORE_WEIGHT → StoreBelongs classes cs →
      Each (λ (c : Cell). ValuesFit entries c.slots) cs → list cell_field cs bytes rest → GivesAll (cells_at classes bytes) cs rest
  unfolding cells_at
  gives_cells cs bytes rest room belongs fit h =
      let all = gives_each cell_field (noted_at (cell_at classes)) (Noted CellsFit (length cs))
      (gives_noted cell_field (cell_at classes) CellsFit gives_next_cell (length cs)) cs (0, []) h.0 rest
      ((omega arith, belongs, fit), omega arith) h.2 in
      let sum = all.holds.1 in
      record {
        lefts = all.after.1;
        count = omega arith;
        read = rw (gives_wide (length cs) bytes h.0 h.1, all.read) refl;
      }

-- ---- spawned entries

module _ (entries : ℕ) where
  gives_given : (g : Given) → ValueFits entries g.value → Gives (given g) (given_at entries) g
  unfolding given_at
  gives_given g fit bytes rest h = rw (gives_free entries g.value fit bytes h.0 h.1, gives_wide g.moment h.0 rest h.2) refl

  if_given : (g : Option Given) → GivenFits entries g → IfThere (λ (x : Given). ValueFits entries x.value) g
  if_given None fit = tt
  if_given (Some g) fit = fit

  abbrev EntriesFit : (all : ℕ) → List ℕ → List (Option Given) → Type 0
  EntriesFit all lefts gs = Each (GivenFits entries) gs × (length lefts + length gs ≡ all)

  gives_next_entry : (all : ℕ) → GivesNext (maybe given) (entry_at entries) (EntriesFit all)
  unfolding entry_at
  gives_next_entry all lefts g gs bytes rest fit h =
      let sum = fit.1 in
      let long = length-append lefts (length bytes ∷ []) in
      record {
        after = lefts ++ length bytes ∷ [];
        holds = (fit.0.1, omega arith);
        read = rw (gives_maybe given (given_at entries) (λ (x : Given). ValueFits entries x.value) gives_given g (if_given g fit.0.0)
            bytes rest h) refl;
      }

pub gives_spawned : (spent : ℕ) (gs : List (Option Given)) (bytes rest : List ℕ) → length gs ≤ spent → Each (GivenFits (length gs)) gs →
    list (maybe given) gs bytes rest → GivesAll (spawned_at spent bytes) gs rest
unfolding spawned_at
gives_spawned spent gs bytes rest few fit h =
    let n = length gs in
    let all = gives_each (maybe given) (entry_at n) (EntriesFit n n) (gives_next_entry n n) gs [] h.0 rest (fit, omega arith) h.2 in
    let sum = all.holds.1 in
    record {
      lefts = all.after;
      count = omega arith;
      read = rw (gives_most spent n few bytes h.0 h.1, all.read) refl;
    }
