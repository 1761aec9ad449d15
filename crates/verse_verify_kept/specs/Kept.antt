-- What holds of every state of a run of a verified code.
use Rattle.std.specs.Prelude.{◌≡◌, ℕ, ◌≤◌, List, [], ◌∷◌, ◌++◌, length, Option, Some, None, Bool}
use Rattle.std.specs.Prelude.{true, false, slice_get}
use Rattle.verse_code.specs.declared.operations.Op.TheVariants as o
use Rattle.verse_code.specs.declared.codes.Code.{Code}
use Rattle.verse_value.specs.Val.{Val}
use Rattle.verse_value.specs.Store.{Store, Cell}
use Rattle.verse_value.specs.declared.runs.CellKind.{CellKind}
use Rattle.verse_value.specs.declared.runs.CellKind.TheVariants as cell
use Rattle.verse_value.specs.declared.runs.Ending.{Ending}
use Rattle.verse_value.specs.declared.runs.Ending.TheVariants as ending
use Rattle.verse_meaning_state.specs.State.{Given, Signal}
use Rattle.verse_code_machine.specs.Tasks.{Handler, Frame, Note, to, gone, Who, World, Machine}
use Rattle.verse_code_machine.specs.Frames.{kept_defers}
use Rattle.verse_sorts.specs.Sorts as s
use Rattle.verse_sorts.specs.Sorts.{Sort}
use Rattle.verse_sorts.specs.Typing.{Typing, Adds, Is, Are}
use Rattle.verse_verify_kept.specs.Notes.{ClassNote, FuncNote, Open, Point, Notes, parent_of}
use Rattle.verse_verify_kept.specs.Notes.{point_at, names}
use Rattle.verse_verify_kept.specs.Rules.{Each, Fit, TriesFit, Kin, To, Keeps, Runs, Ready, MayFail}
use Rattle.verse_verify_kept.specs.Rules.{MayWait}

-- what a frame gives, and whether it may fail or wait; whether it is the first of an arm or of a
-- task behind
pub record Giver : Type 0 where
  pub result : Sort
  pub part : Bool
  pub may_fail : Bool
  pub may_wait : Bool

abbrev pub func_gives : Option FuncNote → Giver
func_gives None = record { result = s.any; part = false; may_fail = false; may_wait = false }
func_gives (Some g) = record {
  result = g.result;
  part = false;
  may_fail = g.may_fail;
  may_wait =
      g.may_wait;
}

abbrev pub arm_gives : Option Sort → Giver → Giver
arm_gives None g = g
arm_gives (Some r) g = record { result = r; part = true; may_fail = false; may_wait = g.may_wait }

abbrev pub giver : Notes → Point → Giver
giver n p = arm_gives p.arm (func_gives (slice_get n.functions p.func))

module _ (c : Code) (n : Notes) where
  abbrev pub Of : Typing → Val → Sort → Type 0
  Of = Is (parent_of n)

  abbrev pub All : Typing → List Val → List Sort → Type 0
  All = Are (parent_of n)

  -- a cell of the store
  pub data CellIs (t : Typing) : CellKind → List Val → Sort → Type 0 where
    var_is : {v : Val} {a : Sort} → Of t v a → CellIs t cell.Var (v ∷ []) (s.var a)
    object_is : {class : ℕ} {x : ClassNote} {vs : List Val} → slice_get n.classes class ≡ Some x →
        All t vs x.slots → CellIs t (cell.Object class) vs (s.obj class)
    event_is : {a : Sort} → CellIs t cell.Event [] (s.event a)

  pub data CellsAre (t : Typing) : List Cell → List Sort → Type 0 where
    cells_no : CellsAre t [] []
    cells_so : {x : Cell} {xs : List Cell} {a : Sort} {ys : List Sort} → CellIs t x.kind x.slots a →
        CellsAre t xs ys → CellsAre t (x ∷ xs) (a ∷ ys)

  abbrev pub StoreIs : Typing → Store → Type 0
  StoreIs t store = CellsAre t store t.cells

  -- the locals, and the blocks that are deferred since the frame or the block in which it stands
  -- began: those of the notes, or at a Leave to which a block has come back those that it left
  pub data Own (i : ℕ) (p : Point) : List Sort → List ℕ → Type 0 where
    own : Own i p p.locals p.defers
    own_left : {m : ℕ} {fs : List Sort} {ds : List ℕ} → slice_get c.ops i ≡ Some (o.Leave m) →
        Keeps c n p m → Runs c n p i m fs ds → Own i p fs ds

  -- outside of blocks and Trys
  pub record Plain (p : Point) : Type 0 where
    pub tries : p.tries ≡ []
    pub block : p.block ≡ None
    pub outer : p.outer ≡ []
    pub under : p.under ≡ 0

  -- an open Try: the typing of its copy of the store, the notes at it and at its label, the
  -- operands beneath it
  pub record Held (ls : List Val) (h : Handler) : Type 0 where
    pub point : Point
    pub live : point_at n h.made ≡ Some point
    pub label : Point
    pub is_try : slice_get c.ops h.made ≡ Some (o.Try h.label)
    pub is_label : point_at n h.label ≡ Some label
    pub leads : To c n point point.stack h.label
    pub typing : Typing
    pub locals : All typing ls label.locals
    pub store : StoreIs typing h.memory.store
    pub above : List Val
    pub more : List Val
    pub split : h.stack ≡ above ++ more
    pub stack : All typing above point.stack

  -- it is the innermost one of a frame at a point; `base` are the blocks that are deferred beneath
  -- those of the point
  pub record Tried (t : Typing) (p : Point) (ds : List ℕ) (ls : List Val) (h : Handler)
      (all : List ℕ) (ns : List Note) : Type 0 where
    pub held : Held ls h
    pub head : Open
    pub tail : List Open
    pub tries : p.tries ≡ head ∷ tail
    pub made : head.index ≡ h.made
    pub kin : Kin held.point p
    pub operands : Each c n held.point.stack head.beneath
    pub others : TriesFit c n held.point.tries tail
    pub grows : Adds held.typing t
    pub base : List ℕ
    pub defers : all ≡ ds ++ base
    pub kept : h.life.defers ≡ held.point.defers ++ base
    pub noted : h.life.noted ≡ ns

  -- the Leave to which a deferred block comes back, and the operands there
  pub record Back (tail : List Val) (i : ℕ) : Type 0 where
    pub point : Point
    pub live : point_at n i ≡ Some point
    pub locals : List Sort
    pub left : List ℕ
    pub own : Own i point locals left
    pub typing : Typing
    pub above : List Val
    pub more : List Val
    pub split : tail ≡ above ++ more
    pub stack : All typing above point.stack

  pub record Left (t : Typing) (p : Point) (ds : List ℕ) (tail : List Val) (all : List ℕ) (i : ℕ) :
      Type 0 where
    pub back : Back tail i
    pub tries : p.tries ≡ []
    pub entry : ℕ
    pub block : p.block ≡ Some entry
    pub first : Point
    pub is_entry : point_at n entry ≡ Some first
    pub func : p.func ≡ back.point.func
    pub arm : p.arm ≡ back.point.arm
    pub outer : p.outer ≡ names back.point
    pub locals : first.locals ≡ back.locals
    pub base : List ℕ
    pub under : p.under ≡ length base
    pub defers : all ≡ ds ++ base
    pub grows : Adds back.typing t

  -- a deferred block of a frame that is being cancelled
  pub record Dying (p : Point) (ds : List ℕ) (all : List ℕ) : Type 0 where
    pub tries : p.tries ≡ []
    pub entry : ℕ
    pub block : p.block ≡ Some entry
    pub outer : p.outer ≡ []
    pub first : Point
    pub is_entry : point_at n entry ≡ Some first
    pub base : List ℕ
    pub under : p.under ≡ length base
    pub defers : all ≡ ds ++ base
    pub from : Point
    pub plain : Plain from
    pub ready : Ready c n from first.locals base

  -- What stands beneath the innermost operands of a frame: its open Trys, and the deferred blocks
  -- that run in it. `rest` is what holds of all else; it is `true` of a frame that is being
  -- cancelled.
  pub data Beneath (rest : Bool → Typing → Type 0) :
      Typing → Point → List ℕ → List Val → List Val → List Handler → List ℕ → List Note →
      Type 0 where
    plain : {t u : Typing} {p : Point} {ds : List ℕ} {ls : List Val} → Plain p → Adds u t →
        rest false u → Beneath rest t p ds ls [] [] ds []
    trying : {t : Typing} {p : Point} {h : Handler} {hs : List Handler} {ds all : List ℕ}
        {ls : List Val} {ns : List Note} (x : Tried t p ds ls h all ns) →
        Beneath rest x.held.typing x.held.point x.held.point.defers ls x.held.more hs h.life.defers
        ns → Beneath rest t p ds ls [] (h ∷ hs) all ns
    within : {t : Typing} {p : Point} {i : ℕ} {hs : List Handler} {ds all : List ℕ}
        {ls tail : List Val} {ns : List Note} (x : Left t p ds tail all i) →
        kept_defers hs ≤ length x.base →
        Beneath rest x.back.typing x.back.point x.back.left ls x.back.more hs x.base ns →
        Beneath rest t p ds ls tail hs all (to i ∷ ns)
    dying : {t u : Typing} {p : Point} {ds all : List ℕ} {ls tail : List Val} → Dying p ds all →
        Adds u t → rest true u → Beneath rest t p ds ls tail [] all (gone ∷ [])

  -- a frame at a point, with locals of these sorts
  pub record Stands (rest : Bool → Typing → Type 0) (t : Typing) (p : Point) (fs : List Sort)
      (ds : List ℕ) (f : Frame) : Type 0 where
    pub above : List Val
    pub more : List Val
    pub split : f.stack ≡ above ++ more
    pub locals : All t f.locals fs
    pub stack : All t above p.stack
    pub beneath : Beneath rest t p ds f.locals more f.handlers f.life.defers f.life.noted

  abbrev pub without_top : Point → List Sort → Point
  without_top p st = record p { stack = st }

  -- a frame that waits for the value of the one above it
  pub record Waits (rest : Bool → Typing → Type 0) (t : Typing) (g : Giver) (f : Frame)
      (p : Point) : Type 0 where
    pub live : point_at n f.place ≡ Some p
    pub whole : g.part ≡ false
    pub top : Sort
    pub st : List Sort
    pub stack : p.stack ≡ top ∷ st
    pub fits : Fit c n g.result top
    pub fails : g.may_fail ≡ true → MayFail c n p
    pub waits : g.may_wait ≡ true → MayWait c n p
    pub stands : Stands rest t (without_top p st) p.locals p.defers f

  -- a frame whose deferred blocks run when those above it have gone
  pub record Dies (t : Typing) (f : Frame) : Type 0 where
    pub point : Point
    pub plain : Plain point
    pub sorts : List Sort
    pub locals : All t f.locals sorts
    pub ready : Ready c n point sorts f.life.defers
    pub noted : f.life.noted ≡ []

  -- the frames below one that gives `g`; `bottom` is what holds of the other tasks
  abbrev pub Below : (Giver → Bool → Typing → Type 0) → Giver → List Frame → Bool → Typing → Type 0
  Below bottom g [] b t = bottom g b t
  Below bottom g (f ∷ fs) false t = (p : Point) ×
      Waits (λ b u. Below bottom (giver n p) fs b u) t g f p
  Below bottom g (f ∷ fs) true t = Dies t f × (u : Typing) × Adds u t × Below bottom g fs true u

  abbrev pub Bottom : Type 1
  Bottom = Who → World → List (Option Given) → List Signal → ℕ → Giver → Bool → Typing → Type 0

  pub record MachineFits (bottom : Bottom) (m : Machine) : Type 0 where
    pub typing : Typing
    pub point : Point
    pub locals : List Sort
    pub ds : List ℕ
    pub live : point_at n m.frame.place ≡ Some point
    pub own : Own m.frame.place point locals ds
    pub store : StoreIs typing m.state.memory.store
    pub fresh : (i : ℕ) (a : Sort) → typing.parts i ≡ Some a → m.state.clock.left ≤ i
    pub stands : Stands (Below (bottom m.who m.world m.state.clock.results m.state.clock.signals
        m.state.clock.next) (giver n point) m.below) typing point locals ds m.frame

  abbrev pub Runs_on : Ending → Type 0
  Runs_on ending.Stuck = ⊥
  Runs_on e = Unit {0}
