-- What a frame holds and a memory: values of a run, blocks that were deferred, a store and a trace
-- within their limits.
use Rattle.std.specs.Prelude.{◌≡◌, ℕ, ◌+◌, ◌≤◌, List, [], ◌∷◌, length, Option, Some, None}
use Rattle.std.specs.Prelude.{option_map, slice_get, All}
use Rattle.verse_base.specs.declared.limits.TheConstants.{MOST_TRACE_BYTES}
use Rattle.verse_code.specs.declared.codes.Code.{Code}
use Rattle.verse_value.specs.Val.{Val}
use Rattle.verse_value.specs.Answer.{Answer, gives, fails, error, stuck}
use Rattle.verse_value.specs.Store.{Store, Cell, store_weight}
use Rattle.verse_value.specs.declared.runs.CellKind.TheVariants as cell
use Rattle.verse_value.specs.declared.sizes.TheConstants.{MOST_STORE_WEIGHT}
use Rattle.verse_meaning_state.specs.State.{State, Memory, Signal, Clock}
use Rattle.verse_meaning_state.specs.Effects.{Effect, printed}
use Rattle.verse_code_machine.specs.Tasks.{Handler, Frame}
use Rattle.run_save_shots.specs.Lists.{Each}
use Rattle.run_save_shots.specs.Fitting.{ValueFits, ValuesFit, GivenFits, IsBlock}

-- the texts of the code are of bytes
abbrev pub TextsAreBytes : Code → Type 0
TextsAreBytes c = All (λ (t : List ℕ). All (λ b. b ≤ 255) t) c.texts

-- the cell of the address is an event's
abbrev pub IsEvent : Store → ℕ → Type 0
IsEvent cells e = option_map (λ (c : Cell). c.kind) (slice_get cells e) ≡ Some cell.Event

-- so many entries there are, so many bytes were printed before the trace, and these events are
-- waited for
pub record Scene : Type 0 where
  pub entries : ℕ
  pub bytes : ℕ
  pub events : List ℕ

module _ (c : Code) (x : Scene) where
  abbrev pub SlotsFine : Store → Type 0
  SlotsFine cells = Each (λ (d : Cell). ValuesFit x.entries d.slots) cells

  pub record MemoryFine (m : Memory) : Type 0 where
    pub slots : SlotsFine m.store
    pub weight : store_weight m.store ≤ MOST_STORE_WEIGHT
    pub told : x.bytes + length (printed m.trace) ≤ MOST_TRACE_BYTES
    pub events : Each (IsEvent m.store) x.events

  pub record HandlerFine (h : Handler) : Type 0 where
    pub stack : ValuesFit x.entries h.stack
    pub defers : Each (IsBlock c) h.life.defers
    pub memory : MemoryFine h.memory

  pub record FrameFine (f : Frame) : Type 0 where
    pub locals : ValuesFit x.entries f.locals
    pub stack : ValuesFit x.entries f.stack
    pub defers : Each (IsBlock c) f.life.defers
    pub handlers : Each HandlerFine f.handlers

  pub record StateFine (s : State) : Type 0 where
    pub before : s.clock.before.bytes ≡ x.bytes
    pub entries : length s.clock.results ≡ x.entries
    pub memory : MemoryFine s.memory
    pub results : Each (GivenFits x.entries) s.clock.results
    pub signals : Each (λ (g : Signal). ValueFits x.entries g.given.value) s.clock.signals

-- what is given is a value of a run
abbrev pub AnswerFits : ℕ → Answer Val → Type 0
AnswerFits n (gives v) = ValueFits n v
AnswerFits n fails = Unit {0}
AnswerFits n (error k) = Unit {0}
AnswerFits n stuck = Unit {0}

abbrev pub AllFit : ℕ → Option (List Val) → Type 0
AllFit n None = Unit {0}
AllFit n (Some vs) = ValuesFit n vs

abbrev pub OneFits : ℕ → Option Val → Type 0
OneFits n None = Unit {0}
OneFits n (Some v) = ValueFits n v

-- the clock goes on: perhaps steps are spent, perhaps a signal is sent
pub record Ticks (k l : Clock) : Type 0 where
  pub sum : l.left + l.spent ≡ k.left + k.spent
  pub left : l.left ≤ k.left
  pub now : l.now ≡ k.now
  pub next : l.next ≡ k.next
  pub results : l.results ≡ k.results
  pub before : l.before ≡ k.before

-- from one frame and state to another within an operation
pub record Changes (c : Code) (s : State) (f : Frame) (u : State) (g : Frame) : Type 0 where
  pub ticks : Ticks s.clock u.clock
  pub state : (x : Scene) → StateFine c x s → FrameFine c x f → StateFine c x u
  pub frame : (x : Scene) → StateFine c x s → FrameFine c x f → FrameFine c x g

-- what an operation on memory comes to
abbrev pub EffectFine : Code → Scene → Effect → Type 0
EffectFine c x (gives a) = ValueFits x.entries a.0 × StateFine c x a.1
EffectFine c x fails = Unit {0}
EffectFine c x (error k) = Unit {0}
EffectFine c x stuck = Unit {0}

abbrev pub EffectTicks : State → Effect → Type 0
EffectTicks s (gives a) = Ticks s.clock a.1.clock
EffectTicks s fails = Unit {0}
EffectTicks s (error k) = Unit {0}
EffectTicks s stuck = Unit {0}
