-- Writes, and cells that are made.
use Rattle.std.proofs.Common.{◌≡◌, ◌≢◌, ℕ, Bool, true, List, [], ◌∷◌, ◌++◌, length, Option, Some, refl, sym, subst, ap}
use Rattle.verse_base.specs.declared.places.Place.{Place}
use Rattle.verse_value.specs.Val as v
use Rattle.verse_value.specs.Val.{Val}
use Rattle.verse_value.specs.Answer.{Answer}
use Rattle.verse_value.specs.Store.{Store, Cell}
use Rattle.verse_value.specs.Storing.{add_cell}
use Rattle.verse_value.specs.declared.modes.Mode.{Mode}
use Rattle.verse_value.specs.declared.runs.CellKind.TheVariants as cell
use Rattle.verse_meaning_state.specs.Effects.{Effect, slot_written, changed, added, variable_made, object_made, event_made}
use Rattle.verse_sorts.specs.Sorts as s
use Rattle.verse_sorts.specs.Sorts.{Sort, itself}
use Rattle.verse_sorts.specs.Typing.{at, Typing, Adds, Is, Are, is_var, is_object, is_event}
use Rattle.verse_sorts.proofs.Fitting.{adds_itself}
use Rattle.verse_sorts_values.specs.Operands.{Path, Writes}
use Rattle.verse_sorts_values.specs.Answers.{Answers, answers, answers_failure, answers_error}
use Rattle.verse_sorts_values.specs.Cells.{CellIs, var_is, object_is, event_is, CellsAre}
use Rattle.verse_sorts_values.proofs.Cells.{at_more, at_end, cells_count, Names, names, write, make}
use Rattle.verse_meaning.specs.Programs.{Program}
use Rattle.verse_meaning.specs.Residuals.{Env, Bound}
use Rattle.verse_meaning.specs.Outcomes as o
use Rattle.verse_meaning.specs.Outcomes.{World, Outcome, told, valued}
use Rattle.verse_meaning.specs.Forms.{Deeper, written_to, cell_of}
use Rattle.verse_sound_rules.specs.Found.{Found, Allowed}
use Rattle.verse_sound_trees.specs.Names.{Holds, holds_value, holds_cell}
use Rattle.verse_sound_trees.specs.Outcomes.{any_names, Cells}
use Rattle.verse_sound_trees.specs.Going.{Level, Kept, Comes}
use Rattle.verse_sound_trees.proofs.Worlds.{cells_of, calm_itself, adds_later, moves}
use Rattle.verse_sound_trees.proofs.Going.{Ends, Tells, told_typed, typed_from}
use Rattle.verse_sound_trees.proofs.Leaves.{split_is}

module _ (p : Program) (f : Found) (l : Level) where
  -- what is told goes on
  pub told_then : {E : Ends} {t : Typing} {a : Allowed} {b d : Sort} {x : Effect} (w : World) (pl : Place) (e : Env) (go : Val → World →
      Outcome) →
      Kept p f l t w → Tells p f l t w a b x → ((u : Typing) (y : Val) (z : World) → Adds t u → Kept p f l u z → Is f.up u y b →
      Comes p f l E u a d (go y z)) → Comes p f l E t a d (valued (told x pl e w) (λ r. r) go)
  unfolding told valued
  told_then {t = t} {a = a} w pl e go k (answers {x} h) n =
      typed_from p f l (adds_later a.waits t h.typing h.adds) (n h.typing x.0 (o.with_state w x.1) h.adds
      (moves p f l t h.typing w x.1 k h.adds h.store h.clock) h.is)
  told_then w pl e go k (answers_failure h) n = Rattle.verse_sound_trees.specs.Outcomes.fails h
  told_then w pl e go k (answers_error h) n = Rattle.verse_sound_trees.specs.Outcomes.faults

  -- the cell of a variable
  pub cell_named : (t : Typing) (q : Sort) (m : Bool) (b : Option Bound) (w : World) → Holds f t q m b → m ≡ true → Cells f t w →
      (x : Val) × (cell_of b ≡ Some x) × Names f.up f.slots t w.state.memory.store 0 q x
  cell_named t q m b w (holds_value i) h z = cc
  cell_named t q m b w (holds_cell {c} i) h z = (v.object c, refl, Rattle.verse_sorts_values.proofs.Cells.variable_named f.up f.slots z i)

  written_is : (k : Deeper) (c x : Val) (slot : ℕ) (ps : List Val) (m : Mode) (pl : Place) (e : Env) (w : World) →
      written_to p k (Some c) slot (ps ++ x ∷ []) m pl e w ≡ told (slot_written slot ps m x c w.state) pl e w
  written_is k c x slot [] m pl e w = refl
  written_is k c x slot (y ∷ ps) m pl e w = ap (λ q. told (slot_written slot q.0 m q.1 c w.state) pl e w) (split_is x y ps)

  slot_set : {t : Typing} (a : Allowed) {w : World} {q x r d : Sort} {c : Val} {ps : List Val} {is : List Sort} {m : Mode} (y : Val)
      (slot : ℕ) →
      Names f.up f.slots t w.state.memory.store slot q c → Path q is r → Are f.up t ps is → Writes f.up m x r d → Is f.up t y x →
      (ps ≢ [] → a.fails ≡ true) → Tells p f l t w a d (slot_written slot ps m y c w.state)
  slot_set {t} a {w} {d = d} {ps = ps} {m = m} y slot (names {i} {from} e j sets) h are g k n =
      over (write f.up f.slots w.state.memory.store slot i y from e j sets tt n h are g k)
    where
      over : {z : Answer (Store × Val)} → Answers (a.fails ≡ true) (Unit {0}) (λ u. CellsAre f.up f.slots t u.0 t.cells × Is f.up t u.1 d)
          z →
          Tells p f l t w a d (changed z w.state)
      over (answers {x} i) = answers (record { typing = t; adds = adds_itself; store = i.0; clock = calm_itself w.state; is = i.1 })
      over (answers_failure i) = answers_failure i
      over (answers_error i) = answers_error i

  pub written_typed : {t : Typing} {a : Allowed} {q x r d : Sort} (k : Deeper) (c y : Val) (slot : ℕ) (ps : List Val) (is : List Sort)
      (m : Mode) (pl : Place)
      (e : Env) (w : World) → Names f.up f.slots t w.state.memory.store slot q c → Path q is r → Are f.up t ps is → Writes f.up m x r d →
      Is f.up t y x →
      (ps ≢ [] → a.fails ≡ true) → Kept p f l t w → Comes p f l any_names t a d (written_to p k (Some c) slot (ps ++ y ∷ []) m pl e w)
  written_typed {t} {a} {d = d} k c y slot ps is m pl e w n h are g i s z =
      subst (λ z. Comes p f l any_names t a d z) (sym (written_is k c y slot ps m pl e w)) (told_typed p f l pl e z
      (slot_set a y slot n h are g i s))

  -- one cell more
  abbrev pub with_cell_of : Typing → Sort → Typing
  with_cell_of t q = record t { cells = t.cells ++ q ∷ [] }

  cell_adds : (t : Typing) (q : Sort) → Adds t (with_cell_of t q)
  cell_adds t q = record {
    grows = record { cells = λ i a h. at_more t.cells (q ∷ []) i a h; entries = λ i a h. h; waits = λ i a h. h; parts = λ i a h. h };
    entries = refl;
    waits = refl;
    parts = refl;
  }

  made_told : {t : Typing} (a : Allowed) {w : World} {q : Sort} (x : Cell) (c : Sort) (y : Val) → Kept p f l t w →
      CellIs f.up f.slots t x.kind x.slots c →
      Is f.up (with_cell_of t c) y q → Tells p f l t w a q (added (add_cell w.state.memory.store x) y w.state)
  made_told {t} a {w} {q} x c y k i j =
      over (make f.up f.slots x c tt (cell_adds t c).grows refl (cells_of p f l t w k) i)
    where
      over : {z : Answer Store} → Answers (a.fails ≡ true) (Unit {0}) (λ s. CellsAre f.up f.slots (with_cell_of t c) s
          (with_cell_of t c).cells) z →
          Tells p f l t w a q (added z y w.state)
      over (answers g) = answers (record {
        typing = with_cell_of t c;
        adds = cell_adds t c;
        store = g;
        clock = calm_itself w.state;
        is = j;
      })
      over (answers_failure g) = answers_failure g
      over (answers_error g) = answers_error g

  at_place : (t : Typing) (c : Sort) (w : World) → Kept p f l t w → at (with_cell_of t c).cells (length w.state.memory.store) ≡ Some c
  at_place t c w k =
      subst (λ i. at (with_cell_of t c).cells i ≡ Some c) (sym (cells_count f.up f.slots (cells_of p f l t w k))) (at_end t.cells c)

  pub variable_told : {t : Typing} (a : Allowed) {w : World} {q : Sort} (x : Val) → Kept p f l t w → Is f.up t x q →
      Tells p f l t w a (s.var q) (variable_made x w.state)
  variable_told {t} a {w} {q} x k i =
      made_told a (record { kind = cell.Var; slots = x ∷ [] }) (s.var q) (v.object (length w.state.memory.store)) k (var_is i) (is_var
      (at_place t (s.var q) w k))

  pub object_told : {t : Typing} (a : Allowed) {w : World} (c : ℕ) (xs : List Val) → Kept p f l t w → Are f.up t xs (f.slots c) →
      Tells p f l t w a (s.obj c) (object_made c xs w.state)
  object_told {t} a {w} c xs k i =
      made_told a (record { kind = cell.Object c; slots = xs }) (s.obj c) (v.object (length w.state.memory.store)) k (object_is i)
      (is_object (at_place t (s.obj c) w k) itself)

  pub event_told : {t : Typing} (a : Allowed) {w : World} (q : Sort) → Kept p f l t w → Tells p f l t w a (s.event q) (event_made w.state)
  event_told {t} a {w} q k =
      made_told a (record { kind = cell.Event; slots = [] }) (s.event q) (v.event (length w.state.memory.store)) k event_is (is_event
      (at_place t (s.event q) w k))
