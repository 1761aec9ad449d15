-- What an operation leaves of a memory that is fine.
use Rattle.std.proofs.Common.{◌≡◌, ℕ, zero, suc, ◌+◌, ◌≤◌, length, List, [], ◌∷◌, ◌++◌, Option, Some, None, Bool, true, false, cond, refl}
use Rattle.std.proofs.Common.{sym}
use Rattle.std.proofs.Common.{subst, ap, ◌∙◌, arith, nat_le, option_map, slice_get}
use Rattle.std.specs.Prelude.{slice_set, if◌then◌else◌, option_and_then}
use Rattle.std.proofs.lemmas.List.{length-append}
use Rattle.verse_base.specs.TraceLine.{line_bytes}
use Rattle.verse_base.specs.declared.limits.TheConstants.{MOST_TRACE_BYTES}
use Rattle.verse_base.specs.declared.refusals.Kind.{Kind as Error}
use Rattle.verse_base.specs.declared.refusals.Kind.TheVariants as kind
use Rattle.verse_base.proofs.Facts.{nat_le_is}
use Rattle.verse_code.specs.declared.codes.Code.{Code}
use Rattle.verse_value.specs.Val.{Val, unit, falsity, truth, int, char, enum, object, event, task, some, array, mapping, tuple}
use Rattle.verse_value.specs.Keys.{bytes_of}
use Rattle.verse_value.specs.Answer.{Answer, gives, fails, error, stuck, given_or}
use Rattle.verse_value.specs.Store.{Store, Cell, store_weight, with_cell, with_slot, with_cell_slot, stored, slot_of}
use Rattle.verse_value.specs.Storing.{read_slot, add_cell, sized_store, with_written, write_in, write_slot}
use Rattle.verse_value.specs.Operations.{write_at}
use Rattle.verse_value.specs.Runs.{Line}
use Rattle.verse_value.specs.declared.sizes.TheConstants.{MOST_STORE_WEIGHT}
use Rattle.verse_value.specs.declared.runs.CellKind.{CellKind}
use Rattle.verse_value.specs.declared.runs.CellKind.TheVariants as cell
use Rattle.verse_value.specs.declared.modes.Mode.{Mode}
use Rattle.verse_meaning_state.specs.State.{State, Memory, Signal, Clock, with_store, with_line, signalled}
use Rattle.verse_meaning_state.specs.Effects.{Effect, still, added, made, slot_read, changed, slot_written, printed, printed_by, line_told}
use Rattle.verse_meaning_state.specs.Effects.{text_printed, line_printed, event_in, event_at, event_of, signal_sent}
use Rattle.run_save_shots.specs.Lists.{Each}
use Rattle.run_save_shots.specs.Fitting.{ValueFits, ValuesFit}
use Rattle.run_save_moves.specs.Fine.{IsEvent, Scene, SlotsFine, MemoryFine, StateFine, AnswerFits, Ticks, EffectFine, EffectTicks, OneFits}
use Rattle.run_save_moves.proofs.Values.{TwoFit, unit_fits, or_fits}
use Rattle.run_save_moves.proofs.Writes.{write_fits}

same_ticks : (k : Clock) → Ticks k k
same_ticks k = record { sum = refl; left = omega arith; now = refl; next = refl; results = refl; before = refl }

pub still_ticks : (a : Answer Val) (s : State) → EffectTicks s (still a s)
still_ticks (gives v) s = same_ticks s.clock
still_ticks fails s = tt
still_ticks (error k) s = tt
still_ticks stuck s = tt

pub still_fine : (c : Code) (z : Scene) (a : Answer Val) (s : State) → StateFine c z s → AnswerFits z.entries a → EffectFine c z (still a s)
still_fine c z (gives v) s k h = (h, k)
still_fine c z fails s k h = tt
still_fine c z (error e) s k h = tt
still_fine c z stuck s k h = tt

-- ---- a new cell

event_more : (xs : Store) (d : Cell) (e : ℕ) → IsEvent xs e → IsEvent (with_cell xs d) e
event_more [] d e h = absurd (cc)
event_more (x ∷ xs) d zero h = h
event_more (x ∷ xs) d (suc e) h = event_more xs d e h

events_more : (xs : Store) (d : Cell) (es : List ℕ) → Each (IsEvent xs) es → Each (IsEvent (with_cell xs d)) es
events_more xs d [] a = tt
events_more xs d (e ∷ es) a = (event_more xs d e a.0, events_more xs d es a.1)

slots_more : (c : Code) (z : Scene) (xs : Store) (d : Cell) → SlotsFine c z xs → ValuesFit z.entries d.slots →
    SlotsFine c z (with_cell xs d)
slots_more c z [] d a b = (b, tt)
slots_more c z (x ∷ xs) d a b = (a.0, slots_more c z xs d a.1 b)

with_memory : (c : Code) (z : Scene) (s : State) (store : Store) → StateFine c z s → SlotsFine c z store →
    store_weight store ≤ MOST_STORE_WEIGHT → Each (IsEvent store) z.events → StateFine c z (with_store s store)
with_memory c z s store k a b e = record {
  before = k.before;
  entries = k.entries;
  memory = record { slots = a; weight = b; told = k.memory.told; events = e };
  results = k.results;
  signals = k.signals;
}

pub made_ticks : (names : ℕ → Val) (d : Cell) (s : State) → EffectTicks s (made names d s)
made_ticks names d s = two (nat_le (store_weight (with_cell s.memory.store d)) MOST_STORE_WEIGHT)
  where
    two : (b : Bool) → EffectTicks s (added (if b then gives (with_cell s.memory.store d) else error kind.Store)
        (names (length s.memory.store)) s)
    two true = same_ticks s.clock
    two false = tt

pub made_fine : (c : Code) (z : Scene) (names : ℕ → Val) → ((n a : ℕ) → ValueFits n (names a)) → (d : Cell) (s : State) → StateFine c z s →
    ValuesFit z.entries d.slots → EffectFine c z (made names d s)
made_fine c z names f d s k a = two (nat_le (store_weight (with_cell s.memory.store d)) MOST_STORE_WEIGHT) refl
  where
    two : (b : Bool) → nat_le (store_weight (with_cell s.memory.store d)) MOST_STORE_WEIGHT ≡ b →
        EffectFine c z (added (if b then gives (with_cell s.memory.store d) else error kind.Store) (names (length s.memory.store)) s)
    two true e = (
      f z.entries (length s.memory.store),
      with_memory c z s (with_cell s.memory.store d) k (slots_more c z s.memory.store d k.memory.slots a)
          (nat_le_is (store_weight (with_cell s.memory.store d)) MOST_STORE_WEIGHT e)
          (events_more s.memory.store d z.events k.memory.events),
    )
    two false e = tt

-- ---- reading

abbrev CellFits : ℕ → Option Cell → Type 0
CellFits n None = Unit {0}
CellFits n (Some d) = ValuesFit n d.slots

cell_fits : (c : Code) (z : Scene) (xs : Store) (i : ℕ) → SlotsFine c z xs → CellFits z.entries (slice_get xs i)
cell_fits c z [] i a = tt
cell_fits c z (x ∷ xs) zero a = a.0
cell_fits c z (x ∷ xs) (suc i) a = cell_fits c z xs i a.1

got_fits : (n : ℕ) (vs : List Val) (i : ℕ) → ValuesFit n vs → OneFits n (slice_get vs i)
got_fits n [] i a = tt
got_fits n (v ∷ vs) zero a = a.0
got_fits n (v ∷ vs) (suc i) a = got_fits n vs i a.1

in_cell : (n slot : ℕ) (o : Option Cell) → CellFits n o → OneFits n (option_and_then (λ (d : Cell). slice_get d.slots slot) o)
in_cell n slot None a = tt
in_cell n slot (Some d) a = got_fits n d.slots slot a

slot_fits : (c : Code) (z : Scene) (xs : Store) (i slot : ℕ) → SlotsFine c z xs → OneFits z.entries (slot_of xs i slot)
slot_fits c z xs i slot a = in_cell z.entries slot (slice_get xs i) (cell_fits c z xs i a)

pub read_ticks : (slot : ℕ) (v : Val) (s : State) → EffectTicks s (slot_read slot v s)
read_ticks slot unit s = tt
read_ticks slot falsity s = tt
read_ticks slot truth s = tt
read_ticks slot (int m) s = tt
read_ticks slot (char m) s = tt
read_ticks slot (enum m l) s = tt
read_ticks slot (object m) s = still_ticks (read_slot s.memory.store m slot) s
read_ticks slot (event m) s = tt
read_ticks slot (task m) s = tt
read_ticks slot (some w) s = tt
read_ticks slot (array vs) s = tt
read_ticks slot (mapping ps) s = tt
read_ticks slot (tuple vs) s = tt

pub read_fine : (c : Code) (z : Scene) (slot : ℕ) (v : Val) (s : State) → StateFine c z s → EffectFine c z (slot_read slot v s)
read_fine c z slot unit s k = tt
read_fine c z slot falsity s k = tt
read_fine c z slot truth s k = tt
read_fine c z slot (int m) s k = tt
read_fine c z slot (char m) s k = tt
read_fine c z slot (enum m l) s k = tt
read_fine c z slot (object m) s k = still_fine c z (read_slot s.memory.store m slot) s k
    (or_fits z.entries stuck (slot_of s.memory.store m slot) tt (slot_fits c z s.memory.store m slot k.memory.slots))
read_fine c z slot (event m) s k = tt
read_fine c z slot (task m) s k = tt
read_fine c z slot (some w) s k = tt
read_fine c z slot (array vs) s k = tt
read_fine c z slot (mapping ps) s k = tt
read_fine c z slot (tuple vs) s k = tt

-- ---- writing

set_kinds : (xs : Store) (i : ℕ) (d f : Cell) (e : ℕ) → slice_get xs i ≡ Some d → f.kind ≡ d.kind → IsEvent xs e →
    IsEvent (slice_set xs i f) e
set_kinds [] i d f e h k g = g
set_kinds (x ∷ xs) zero d f zero h k g = ap (λ n. Some n) k ∙ (ap (option_map (λ (d : Cell). d.kind)) (sym h) ∙ g)
set_kinds (x ∷ xs) zero d f (suc e) h k g = g
set_kinds (x ∷ xs) (suc i) d f zero h k g = g
set_kinds (x ∷ xs) (suc i) d f (suc e) h k g = set_kinds xs i d f e h k g

set_events : (xs : Store) (i : ℕ) (d f : Cell) (es : List ℕ) → slice_get xs i ≡ Some d → f.kind ≡ d.kind → Each (IsEvent xs) es →
    Each (IsEvent (slice_set xs i f)) es
set_events xs i d f [] h k a = tt
set_events xs i d f (e ∷ es) h k a = (set_kinds xs i d f e h k a.0, set_events xs i d f es h k a.1)

set_slots : (c : Code) (z : Scene) (xs : Store) (i : ℕ) (d : Cell) → SlotsFine c z xs → ValuesFit z.entries d.slots →
    SlotsFine c z (slice_set xs i d)
set_slots c z [] i d a b = tt
set_slots c z (x ∷ xs) zero d a b = (b, a.1)
set_slots c z (x ∷ xs) (suc i) d a b = (a.0, set_slots c z xs i d a.1 b)

set_values : (n : ℕ) (vs : List Val) (i : ℕ) (v : Val) → ValuesFit n vs → ValueFits n v → ValuesFit n (slice_set vs i v)
set_values n [] i v a b = tt
set_values n (x ∷ vs) zero v a b = (b, a.1)
set_values n (x ∷ vs) (suc i) v a b = (a.0, set_values n vs i v a.1 b)

stored_slots : (c : Code) (z : Scene) (xs : Store) (i slot : ℕ) (v : Val) (o : Option Cell) → slice_get xs i ≡ o → SlotsFine c z xs →
    ValueFits z.entries v → SlotsFine c z (with_cell_slot o xs i slot v)
stored_slots c z xs i slot v None e a b = a
stored_slots c z xs i slot v (Some d) e a b =
    set_slots c z xs i (with_slot d slot v) a (set_values z.entries d.slots slot v (subst (CellFits z.entries) e (cell_fits c z xs i a)) b)

stored_events : (xs : Store) (i slot : ℕ) (v : Val) (o : Option Cell) (es : List ℕ) → slice_get xs i ≡ o → Each (IsEvent xs) es →
    Each (IsEvent (with_cell_slot o xs i slot v)) es
stored_events xs i slot v None es e a = a
stored_events xs i slot v (Some d) es e a = set_events xs i d (with_slot d slot v) es e refl a

changed_ticks : (a : Answer (Store × Val)) (s : State) → EffectTicks s (changed a s)
changed_ticks (gives x) s = same_ticks s.clock
changed_ticks fails s = tt
changed_ticks (error k) s = tt
changed_ticks stuck s = tt

pub written_ticks : (slot : ℕ) (path : List Val) (m : Mode) (v d : Val) (s : State) → EffectTicks s (slot_written slot path m v d s)
written_ticks slot path i v unit s = tt
written_ticks slot path i v falsity s = tt
written_ticks slot path i v truth s = tt
written_ticks slot path i v (int m) s = tt
written_ticks slot path i v (char m) s = tt
written_ticks slot path i v (enum m l) s = tt
written_ticks slot path i v (object m) s = changed_ticks (write_slot s.memory.store m slot path i v) s
written_ticks slot path i v (event m) s = tt
written_ticks slot path i v (task m) s = tt
written_ticks slot path i v (some w) s = tt
written_ticks slot path i v (array vs) s = tt
written_ticks slot path i v (mapping ps) s = tt
written_ticks slot path i v (tuple vs) s = tt

sized_fine : (c : Code) (z : Scene) (store : Store) (v : Val) (s : State) → StateFine c z s → SlotsFine c z store →
    Each (IsEvent store) z.events → ValueFits z.entries v → EffectFine c z (changed (sized_store store v) s)
sized_fine c z store v s k a b d = two (nat_le (store_weight store) MOST_STORE_WEIGHT) refl
  where
    two : (t : Bool) → nat_le (store_weight store) MOST_STORE_WEIGHT ≡ t →
        EffectFine c z (changed (if t then gives (store, v) else error kind.Store) s)
    two true e = (d, with_memory c z s store k a (nat_le_is (store_weight store) MOST_STORE_WEIGHT e) b)
    two false e = tt

with_fine : (c : Code) (z : Scene) (i slot : ℕ) (a : Answer (Val × Val)) (s : State) → StateFine c z s → TwoFit z.entries a →
    EffectFine c z (changed (with_written s.memory.store i slot a) s)
with_fine c z i slot (gives x) s k a = sized_fine c z (stored s.memory.store i slot x.0) x.1 s k
    (stored_slots c z s.memory.store i slot x.0 (slice_get s.memory.store i) refl k.memory.slots a.0)
    (stored_events s.memory.store i slot x.0 (slice_get s.memory.store i) z.events refl k.memory.events) a.1
with_fine c z i slot fails s k a = tt
with_fine c z i slot (error e) s k a = tt
with_fine c z i slot stuck s k a = tt

in_fine : (c : Code) (z : Scene) (i slot : ℕ) (path : List Val) (m : Mode) (v : Val) (o : Option Val) (s : State) → StateFine c z s →
    ValueFits z.entries v → ValuesFit z.entries path → OneFits z.entries o →
    EffectFine c z (changed (write_in s.memory.store i slot path m v o) s)
in_fine c z i slot path m v None s k a b d = tt
in_fine c z i slot path m v (Some from) s k a b d =
    with_fine c z i slot (write_at path m v from) s k (write_fits z.entries path m v from b a d)

pub written_fine : (c : Code) (z : Scene) (slot : ℕ) (path : List Val) (m : Mode) (v d : Val) (s : State) → StateFine c z s →
    ValueFits z.entries v → ValuesFit z.entries path → EffectFine c z (slot_written slot path m v d s)
written_fine c z slot path i v unit s k a b = tt
written_fine c z slot path i v falsity s k a b = tt
written_fine c z slot path i v truth s k a b = tt
written_fine c z slot path i v (int m) s k a b = tt
written_fine c z slot path i v (char m) s k a b = tt
written_fine c z slot path i v (enum m l) s k a b = tt
written_fine c z slot path i v (object m) s k a b =
    in_fine c z m slot path i v (slot_of s.memory.store m slot) s k a b (slot_fits c z s.memory.store m slot k.memory.slots)
written_fine c z slot path i v (event m) s k a b = tt
written_fine c z slot path i v (task m) s k a b = tt
written_fine c z slot path i v (some w) s k a b = tt
written_fine c z slot path i v (array vs) s k a b = tt
written_fine c z slot path i v (mapping ps) s k a b = tt
written_fine c z slot path i v (tuple vs) s k a b = tt

-- ---- printing

printed_more : (ls : List Line) (l : Line) → length (printed (ls ++ l ∷ [])) ≡ length (printed ls) + length (line_bytes l.moment l.bytes)
printed_more [] l = length-append (line_bytes l.moment l.bytes) [] ∙ omega arith
printed_more (k ∷ ls) l = length-append (line_bytes k.moment k.bytes) (printed (ls ++ l ∷ [])) ∙
    (ap (λ n. length (line_bytes k.moment k.bytes) + n) (printed_more ls l) ∙
    (sums (length (line_bytes k.moment k.bytes)) (length (printed ls)) (length (line_bytes l.moment l.bytes)) ∙
    ap (λ n. n + length (line_bytes l.moment l.bytes)) (sym (length-append (line_bytes k.moment k.bytes) (printed ls)))))
  where
    sums : (a b c : ℕ) → a + (b + c) ≡ (a + b) + c
    sums a b c = omega arith

told_ticks : (b : Bool) (x : Val × State) (k : Error) (s : State) → Ticks s.clock x.1.clock → EffectTicks s (cond b (gives x) (error k))
told_ticks true x k s t = t
told_ticks false x k s t = tt

text_ticks : (o : Option (List ℕ)) (s : State) → EffectTicks s (text_printed o s)
text_ticks None s = tt
text_ticks (Some bytes) s = told_ticks _ _ _ s (same_ticks s.clock)

pub printed_ticks : (v : Val) (s : State) → EffectTicks s (line_printed v s)
printed_ticks unit s = tt
printed_ticks falsity s = tt
printed_ticks truth s = tt
printed_ticks (int m) s = tt
printed_ticks (char m) s = tt
printed_ticks (enum m l) s = tt
printed_ticks (object m) s = tt
printed_ticks (event m) s = tt
printed_ticks (task m) s = tt
printed_ticks (some w) s = tt
printed_ticks (array vs) s = text_ticks (bytes_of vs) s
printed_ticks (mapping ps) s = tt
printed_ticks (tuple vs) s = tt

told_fine : (c : Code) (z : Scene) (bytes : List ℕ) (s : State) → StateFine c z s → EffectFine c z (line_told bytes s)
told_fine c z bytes s k = two (nat_le (printed_by s + length (line_bytes s.clock.now bytes)) MOST_TRACE_BYTES) refl
  where
    few : (a b n m most all : ℕ) → b ≡ a → (b + n) + m ≤ most → all ≡ n + m → a + all ≤ most
    few a b n m most all e f g = omega (arith, e, f, g)

    two : (b : Bool) → nat_le (printed_by s + length (line_bytes s.clock.now bytes)) MOST_TRACE_BYTES ≡ b → EffectFine c z (cond b (gives (
      unit,
      with_line s (record { moment = s.clock.now; bytes = bytes }),
    )) (error kind.Trace))
    two true e = (
      unit_fits z.entries,
      record {
        before = k.before;
        entries = k.entries;
        memory = record {
          slots = k.memory.slots;
          weight = k.memory.weight;
          told = few z.bytes s.clock.before.bytes (length (printed s.memory.trace)) (length (line_bytes s.clock.now bytes)) MOST_TRACE_BYTES
              (length (printed (s.memory.trace ++ record { moment = s.clock.now; bytes = bytes } ∷ []))) k.before
              (nat_le_is (printed_by s + length (line_bytes s.clock.now bytes)) MOST_TRACE_BYTES e)
              (printed_more s.memory.trace (record { moment = s.clock.now; bytes = bytes }));
          events = k.memory.events;
        };
        results = k.results;
        signals = k.signals;
      },
    )
    two false e = tt

text_fine : (c : Code) (z : Scene) (o : Option (List ℕ)) (s : State) → StateFine c z s → EffectFine c z (text_printed o s)
text_fine c z None s k = tt
text_fine c z (Some bytes) s k = told_fine c z bytes s k

pub printed_fine : (c : Code) (z : Scene) (v : Val) (s : State) → StateFine c z s → EffectFine c z (line_printed v s)
printed_fine c z unit s k = tt
printed_fine c z falsity s k = tt
printed_fine c z truth s k = tt
printed_fine c z (int m) s k = tt
printed_fine c z (char m) s k = tt
printed_fine c z (enum m l) s k = tt
printed_fine c z (object m) s k = tt
printed_fine c z (event m) s k = tt
printed_fine c z (task m) s k = tt
printed_fine c z (some w) s k = tt
printed_fine c z (array vs) s k = text_fine c z (bytes_of vs) s k
printed_fine c z (mapping ps) s k = tt
printed_fine c z (tuple vs) s k = tt

-- ---- signals and events

pub sent_ticks : (e : Option ℕ) (v : Val) (s : State) → EffectTicks s (signal_sent e v s)
sent_ticks None v s = tt
sent_ticks (Some e) v s = record { sum = refl; left = omega arith; now = refl; next = refl; results = refl; before = refl }

signals_more : (n : ℕ) (gs : List Signal) (g : Signal) → Each (λ (g : Signal). ValueFits n g.given.value) gs → ValueFits n g.given.value →
    Each (λ (g : Signal). ValueFits n g.given.value) (gs ++ g ∷ [])
signals_more n [] g a b = (b, tt)
signals_more n (h ∷ gs) g a b = (a.0, signals_more n gs g a.1 b)

pub sent_fine : (c : Code) (z : Scene) (e : Option ℕ) (v : Val) (s : State) → StateFine c z s → ValueFits z.entries v →
    EffectFine c z (signal_sent e v s)
sent_fine c z None v s k a = tt
sent_fine c z (Some e) v s k a = (
  unit_fits z.entries,
  record {
    before = k.before;
    entries = k.entries;
    memory = k.memory;
    results = k.results;
    signals = signals_more z.entries s.clock.signals _ k.signals a;
  },
)

in_kind : (n d : ℕ) (k : CellKind) → event_in n k ≡ Some d → (k ≡ cell.Event) × (n ≡ d)
in_kind n d cell.Event e = (refl, same n d e)
  where
    same : (n d : ℕ) → Some n ≡ Some d → n ≡ d
    same n d e = cc
in_kind n d cell.Var e = absurd (cc)
in_kind n d (cell.Object m) e = absurd (cc)

at_event : (store : Store) (n d : ℕ) (o : Option Cell) → slice_get store n ≡ o → event_at n o ≡ Some d → IsEvent store d
at_event store n d None e f = absurd (cc)
at_event store n d (Some x) e f = let k = in_kind n d x.kind f in
    subst (IsEvent store) k.1 (ap (option_map (λ (c : Cell). c.kind)) e ∙ ap (λ k. Some k) k.0)

pub event_there : (a : Val) (s : State) (d : ℕ) → event_of a s ≡ Some d → IsEvent s.memory.store d
event_there unit s d e = absurd (cc)
event_there falsity s d e = absurd (cc)
event_there truth s d e = absurd (cc)
event_there (int m) s d e = absurd (cc)
event_there (char m) s d e = absurd (cc)
event_there (enum m l) s d e = absurd (cc)
event_there (object m) s d e = absurd (cc)
event_there (event m) s d e = at_event s.memory.store m d (slice_get s.memory.store m) refl e
event_there (task m) s d e = absurd (cc)
event_there (some w) s d e = absurd (cc)
event_there (array vs) s d e = absurd (cc)
event_there (mapping ps) s d e = absurd (cc)
event_there (tuple vs) s d e = absurd (cc)
