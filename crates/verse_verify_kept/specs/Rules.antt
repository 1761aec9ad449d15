-- What notes must fulfil: one case for each operation.
use Rattle.std.specs.Prelude.{◌≡◌, ◌≢◌, ℕ, zero, suc, ◌+◌, ◌-◌, ◌≤◌, ◌<◌, ℤ, List, [], ◌∷◌, ◌++◌}
use Rattle.std.specs.Prelude.{length, Option, Some, None, true, false}
use Rattle.std.specs.Prelude.{slice_get}
use Rattle.verse_code.specs.declared.operations.Op.{Op}
use Rattle.verse_code.specs.declared.operations.Op.TheVariants as o
use Rattle.verse_code.specs.declared.codes.Func.{Func}
use Rattle.verse_code.specs.declared.codes.Class.{Class}
use Rattle.verse_code.specs.declared.codes.Code.{Code}
use Rattle.verse_sorts.specs.Sorts as s
use Rattle.verse_sorts.specs.Sorts.{Sort, IsKnown, Sorts, Inherits, Fits, IsKey}
use Rattle.verse_sorts.specs.Typing.{at, AllFit}
use Rattle.verse_code_machine.specs.Frames.{put}
use Rattle.verse_verify_kept.specs.Notes.{ClassNote, FuncNote, Open, Point, Notes, parent_of}
use Rattle.verse_verify_kept.specs.Notes.{point_at, names}

abbrev pub sorts : List Sort → Sorts
sorts [] = s.no_sorts
sorts (a ∷ xs) = s.more_sorts a (sorts xs)

abbrev pub at_sort : Sorts → ℕ → Option Sort
at_sort s.no_sorts n = None
at_sort (s.more_sorts a xs) zero = Some a
at_sort (s.more_sorts a xs) (suc n) = at_sort xs n

-- so many operands, in the order in which they were pushed, before those that were popped already;
-- and what is left
pub data Pops : ℕ → List Sort → List Sort → List Sort → List Sort → Type 0 where
  pops_no : {st xs : List Sort} → Pops zero st xs xs st
  pops_so : {n : ℕ} {a : Sort} {st xs ys rest : List Sort} → Pops n st (a ∷ xs) ys rest →
      Pops (suc n) (a ∷ st) xs ys rest

-- among these sorts is the one that no value has
pub data AnyNever : List Sort → Type 0 where
  first_never : {xs : List Sort} → AnyNever (s.never ∷ xs)
  later_never : {a : Sort} {xs : List Sort} → AnyNever xs → AnyNever (a ∷ xs)

abbrev pub nones : ℕ → List Sort
nones zero = []
nones (suc n) = s.none ∷ nones n

abbrev pub rest_of : List Sort → List Sort
rest_of [] = []
rest_of (a ∷ xs) = xs

-- of one function, arm and deferred block
pub record Kin (p q : Point) : Type 0 where
  pub func : p.func ≡ q.func
  pub arm : p.arm ≡ q.arm
  pub block : p.block ≡ q.block
  pub outer : p.outer ≡ q.outer
  pub under : p.under ≡ q.under

module _ (c : Code) (n : Notes) where
  abbrev pub Fit : Sort → Sort → Type 0
  Fit = Fits (parent_of n)

  abbrev pub Each : List Sort → List Sort → Type 0
  Each = AllFit (parent_of n)

  pub data TriesFit : List Open → List Open → Type 0 where
    tries_no : TriesFit [] []
    tries_so : {a b : Open} {xs ys : List Open} → a.index ≡ b.index → Each a.beneath b.beneath →
        TriesFit xs ys → TriesFit (a ∷ xs) (b ∷ ys)

  -- the operation of index i is live, and these locals, operands, Trys and deferred blocks fit it
  pub record Leads (p : Point) (ls st : List Sort) (ts : List Open) (ds : List ℕ) (i : ℕ) :
      Type 0 where
    pub point : Point
    pub live : point_at n i ≡ Some point
    pub kin : Kin p point
    pub locals : Each ls point.locals
    pub stack : Each st point.stack
    pub tries : TriesFit ts point.tries
    pub defers : ds ≡ point.defers

  abbrev pub To : Point → List Sort → ℕ → Type 0
  To p st i = Leads p p.locals st p.tries p.defers i

  -- a failure is taken here or in a frame below
  pub data MayFail (p : Point) : Type 0 where
    in_try : {t : Open} {ts : List Open} → p.tries ≡ t ∷ ts → MayFail p
    in_function : {f : FuncNote} → p.arm ≡ None → p.block ≡ None → slice_get n.functions p.func ≡ Some f → f.may_fail ≡ true → MayFail p

  -- the task may wait here
  pub record MayWait (p : Point) : Type 0 where
    pub tries : p.tries ≡ []
    pub block : p.block ≡ None
    pub func : FuncNote
    pub is_func : slice_get n.functions p.func ≡ Some func
    pub holds : func.may_wait ≡ true

  pub record MayCall (p : Point) (f : FuncNote) : Type 0 where
    pub fails : f.may_fail ≡ true → MayFail p
    pub waits : f.may_wait ≡ true → MayWait p

  -- the label of each of these Trys asks nothing of the local, so it may be written
  pub data Quiet (l : ℕ) : List ℕ → Type 0 where
    quiet_no : Quiet l []
    quiet_so : {i label : ℕ} {is : List ℕ} → slice_get c.ops i ≡ Some (o.Try label) →
        ((p : Point) (a : Sort) → point_at n label ≡ Some p → at p.locals l ≡ Some a → a ≡ s.none) → Quiet l is → Quiet l (i ∷ is)

  -- Query
  pub data Queried : Sort → Sort → Type 0 where
    of_option : {a : Sort} → Queried (s.opt a) a
    of_logic : Queried s.logic s.logic
    of_nil : Queried s.nil s.never
    of_never : Queried s.never s.never

  -- an index leads from a container to a part
  pub data Indexed : Sort → Sort → Sort → Type 0 where
    in_list : {a b : Sort} → Fit b s.int → Indexed (s.list a) b a
    in_map : {k a b : Sort} → IsKey b → Fit b k → Indexed (s.map k a) b a
    in_never : {b : Sort} → Indexed s.never b s.never

  pub data Path : Sort → List Sort → Sort → Type 0 where
    path_no : {a : Sort} → Path a [] a
    path_so : {a b d e : Sort} {xs : List Sort} → Indexed a b d → Path d xs e → Path a (b ∷ xs) e

  -- what has parts that can be counted
  pub data Counted : Sort → Type 0 where
    list_counted : {a : Sort} → Counted (s.list a)
    map_counted : {k a : Sort} → Counted (s.map k a)
    never_counted : Counted s.never

  -- a slot of what a sort names
  pub data Slot : Sort → ℕ → Sort → Type 0 where
    slot_var : {a : Sort} → Slot (s.var a) 0 a
    slot_obj : {class k : ℕ} {x : ClassNote} {a : Sort} → slice_get n.classes class ≡ Some x →
        at x.slots k ≡ Some a → Slot (s.obj class) k a
    slot_never : {k : ℕ} → Slot s.never k s.never

  -- what is written in a mode, where something stands already
  pub data Mode : ℕ → Sort → Sort → Type 0 where
    mode_set : {v a : Sort} → Fit v a → Mode 0 v a
    mode_int : {m : ℕ} {v : Sort} → Fit v s.int → Mode (suc m) v s.int
    mode_list : {v a : Sort} → Fit v (s.list a) → Mode 1 v (s.list a)
    mode_never : {m : ℕ} {v : Sort} → Mode (suc m) v s.never

  pub data Shown : List Sort → Type 0 where
    shown_no : Shown []
    shown_int : {a : Sort} {xs : List Sort} → Fit a s.int → Shown xs → Shown (a ∷ xs)
    shown_char : {a : Sort} {xs : List Sort} → Fit a s.char → Shown xs → Shown (a ∷ xs)
    shown_text : {a : Sort} {xs : List Sort} → Fit a (s.list s.char) → Shown xs → Shown (a ∷ xs)

  pub data AllIn (u : Sort) : List Sort → Type 0 where
    in_no : AllIn u []
    in_so : {a : Sort} {xs : List Sort} → Fit a u → AllIn u xs → AllIn u (a ∷ xs)

  pub data AllFrom (a : Sort) : List Sort → Type 0 where
    from_no : AllFrom a []
    from_so : {b : Sort} {xs : List Sort} → Fit a b → AllFrom a xs → AllFrom a (b ∷ xs)

  pub data Keyed (k u : Sort) : List Sort → Type 0 where
    keyed_no : Keyed k u []
    keyed_so : {a b : Sort} {xs : List Sort} → IsKey a → Fit a k → Fit b u → Keyed k u xs →
        Keyed k u (a ∷ b ∷ xs)

  -- Take: the value, what stands beside it, how many locals behind the domain is written, and what
  pub data Domain : Sort → Sort → Sort → ℕ → Sort → Type 0 where
    of_list : {a : Sort} → Domain (s.list a) a s.int 1 s.int
    of_map : {k a : Sort} → Domain (s.map k a) a k 1 s.int
    of_span : {a : Sort} → Fit a s.span → Domain a s.int s.any 0 s.span
    of_none : Domain s.never s.never s.never 1 s.int

  -- the method of an object's class, with the notes of its function
  pub data Method : Sort → ℕ → FuncNote → Type 0 where
    method : {class m f : ℕ} {k : Class} {g : FuncNote} → slice_get c.classes class ≡ Some k →
        slice_get k.methods m ≡ Some f → slice_get n.functions f ≡ Some g → Method (s.obj class) m g

  -- the arms of a group, in order, with what each gives
  pub record Arm (p : Point) (i : ℕ) (r : Sort) : Type 0 where
    pub point : Point
    pub live : point_at n i ≡ Some point
    pub func : p.func ≡ point.func
    pub arm : point.arm ≡ Some r
    pub locals : Each p.locals point.locals
    pub stack : point.stack ≡ []
    pub tries : point.tries ≡ []
    pub block : point.block ≡ None
    pub outer : point.outer ≡ []
    pub under : point.under ≡ 0
    pub defers : point.defers ≡ []

  pub data Arms (p : Point) : ℕ → ℕ → List ℕ → List Sort → Type 0 where
    arms_no : {i : ℕ} → Arms p i zero [] []
    arms_so : {i m l : ℕ} {r : Sort} {ls : List ℕ} {rs : List Sort} →
        slice_get c.ops i ≡ Some (o.Arm l) → Arm p l r → Arms p (suc i) m ls rs →
        Arms p i (suc m) (l ∷ ls) (r ∷ rs)

  -- what a group gives
  pub data Grouped : ℕ → List Sort → Sort → Type 0 where
    sync_gives : {rs : List Sort} → Grouped 0 rs (s.tuple (sorts rs))
    race_gives : {k : ℕ} {rs : List Sort} {u : Sort} → AllIn u rs → Grouped (suc k) rs u

  -- a deferred block's first operation
  pub record Entry (p : Point) (e : ℕ) (count : ℕ) (point : Point) : Type 0 where
    pub live : point_at n e ≡ Some point
    pub func : p.func ≡ point.func
    pub arm : p.arm ≡ point.arm
    pub block : point.block ≡ Some e
    pub stack : point.stack ≡ []
    pub tries : point.tries ≡ []
    pub defers : point.defers ≡ []
    pub under : point.under ≡ p.under + count

  -- The blocks that a Leave runs, the last first, and what stands behind it. Each may be run with
  -- the locals that stand when it begins, and leaves those of its first operation: with them the
  -- next one begins, or what stands behind the Leave.
  pub data Runs (p : Point) (i m : ℕ) : List Sort → List ℕ → Type 0 where
    runs_no : {ls : List Sort} {ds : List ℕ} → m ≡ p.under + length ds →
        Leads p ls p.stack p.tries ds (suc i) → Runs p i m ls ds
    runs_so : {e : ℕ} {point : Point} {ls : List Sort} {ds : List ℕ} →
        m < p.under + suc (length ds) → Entry p e (length ds) point → names p ≡ point.outer →
        Each ls point.locals → Runs p i m point.locals ds → Runs p i m ls (e ∷ ds)

  -- these blocks were deferred at the Try
  abbrev pub Level : ℕ → List ℕ → Type 0
  Level i ds = (q : Point) → point_at n i ≡ Some q → q.defers ≡ ds

  -- how many deferred blocks the innermost Try keeps
  pub data Keeps (p : Point) (m : ℕ) : Type 0 where
    keeps_all : p.tries ≡ [] → Keeps p m
    keeps_some : {t : Open} {ts : List Open} → p.tries ≡ t ∷ ts →
        ((q : Point) → point_at n t.index ≡ Some q →
        q.under + length q.defers ≤ m) → Keeps p m

  -- what an operation of index i asks of the notes at it
  pub data Passes (i : ℕ) (p : Point) : Op → Type 0 where
    of_int : {k : ℤ} → To p (s.int ∷ p.stack) (suc i) → Passes i p (o.Int k)
    of_unit : To p (s.unit ∷ p.stack) (suc i) → Passes i p o.Unit
    of_false : To p (s.nil ∷ p.stack) (suc i) → Passes i p o.False
    of_true : To p (s.logic ∷ p.stack) (suc i) → Passes i p o.True
    of_char : {k : ℕ} → To p (s.char ∷ p.stack) (suc i) → Passes i p (o.Char k)
    of_text : {k : ℕ} → To p (s.list s.char ∷ p.stack) (suc i) → Passes i p (o.Text k)
    of_enum : {e k : ℕ} → To p (s.enum e ∷ p.stack) (suc i) → Passes i p (o.Enum e k)
    of_get : {l : ℕ} {a : Sort} → at p.locals l ≡ Some a → IsKnown a → To p (a ∷ p.stack) (suc i) →
        Passes i p (o.Get l)
    of_put : {l : ℕ} {a : Sort} {st ls : List Sort} → p.stack ≡ a ∷ st →
        put p.locals l a ≡ Some ls → Quiet l (names p) → Leads p ls st p.tries p.defers (suc i) →
        Passes i p (o.Put l)
    of_drop : {a : Sort} {st : List Sort} → p.stack ≡ a ∷ st → To p st (suc i) → Passes i p o.Drop
    of_add : {k : ℕ} {a b : Sort} {st : List Sort} → p.stack ≡ b ∷ a ∷ st → Fit a s.int → Fit b s.int → To p (s.int ∷ st) (suc i) →
        Passes i p (o.Add k)
    of_sub : {k : ℕ} {a b : Sort} {st : List Sort} → p.stack ≡ b ∷ a ∷ st → Fit a s.int →
        Fit b s.int → To p (s.int ∷ st) (suc i) → Passes i p (o.Sub k)
    of_mul : {k : ℕ} {a b : Sort} {st : List Sort} → p.stack ≡ b ∷ a ∷ st → Fit a s.int →
        Fit b s.int → To p (s.int ∷ st) (suc i) → Passes i p (o.Mul k)
    of_neg : {k : ℕ} {a : Sort} {st : List Sort} → p.stack ≡ a ∷ st → Fit a s.int →
        To p (s.int ∷ st) (suc i) → Passes i p (o.Neg k)
    of_floor : {k : ℕ} {a b : Sort} {st : List Sort} → p.stack ≡ b ∷ a ∷ st → Fit a s.int →
        Fit b s.int → MayFail p → To p (s.int ∷ st) (suc i) → Passes i p (o.Floor k)
    of_ceil : {k : ℕ} {a b : Sort} {st : List Sort} → p.stack ≡ b ∷ a ∷ st → Fit a s.int →
        Fit b s.int → MayFail p → To p (s.int ∷ st) (suc i) → Passes i p (o.Ceil k)
    of_mod : {a b : Sort} {st : List Sort} → p.stack ≡ b ∷ a ∷ st → Fit a s.int → Fit b s.int →
        MayFail p → To p (s.int ∷ st) (suc i) → Passes i p o.Mod
    of_concat : {k : ℕ} {a b u : Sort} {st : List Sort} → p.stack ≡ b ∷ a ∷ st → Fit a (s.list u) →
        Fit b (s.list u) → To p (s.list u ∷ st) (suc i) → Passes i p (o.Concat k)
    of_join : {m k : ℕ} {xs st : List Sort} → Pops m p.stack [] xs st → Shown xs →
        To p (s.list s.char ∷ st) (suc i) → Passes i p (o.Join m k)
    of_lt : {a b : Sort} {st : List Sort} → p.stack ≡ b ∷ a ∷ st → Fit a s.int → Fit b s.int →
        MayFail p → To p (s.int ∷ st) (suc i) → Passes i p o.Lt
    of_le : {a b : Sort} {st : List Sort} → p.stack ≡ b ∷ a ∷ st → Fit a s.int → Fit b s.int →
        MayFail p → To p (s.int ∷ st) (suc i) → Passes i p o.Le
    of_gt : {a b : Sort} {st : List Sort} → p.stack ≡ b ∷ a ∷ st → Fit a s.int → Fit b s.int →
        MayFail p → To p (s.int ∷ st) (suc i) → Passes i p o.Gt
    of_ge : {a b : Sort} {st : List Sort} → p.stack ≡ b ∷ a ∷ st → Fit a s.int → Fit b s.int →
        MayFail p → To p (s.int ∷ st) (suc i) → Passes i p o.Ge
    of_eq : {a b : Sort} {st : List Sort} → p.stack ≡ b ∷ a ∷ st → MayFail p →
        To p (a ∷ st) (suc i) → Passes i p o.Eq
    of_ne : {a b : Sort} {st : List Sort} → p.stack ≡ b ∷ a ∷ st → MayFail p →
        To p (a ∷ st) (suc i) → Passes i p o.Ne
    of_array : {m k : ℕ} {u : Sort} {xs st : List Sort} → Pops m p.stack [] xs st → AllIn u xs →
        To p (s.list u ∷ st) (suc i) → Passes i p (o.Array m k)
    of_map : {m k : ℕ} {a u : Sort} {xs st : List Sort} → Pops (m + m) p.stack [] xs st →
        Keyed a u xs → To p (s.map a u ∷ st) (suc i) → Passes i p (o.Map m k)
    of_tuple : {m k : ℕ} {xs st : List Sort} → Pops m p.stack [] xs st →
        To p (s.tuple (sorts xs) ∷ st) (suc i) → Passes i p (o.Tuple m k)
    of_some : {k : ℕ} {a : Sort} {st : List Sort} → p.stack ≡ a ∷ st → To p (s.opt a ∷ st) (suc i) →
        Passes i p (o.Some k)
    of_query : {a r : Sort} {st : List Sort} → p.stack ≡ a ∷ st → Queried a r → MayFail p →
        To p (r ∷ st) (suc i) → Passes i p o.Query
    of_item : {m : ℕ} {xs : Sorts} {r : Sort} {st : List Sort} → p.stack ≡ s.tuple xs ∷ st →
        at_sort xs m ≡ Some r → To p (r ∷ st) (suc i) → Passes i p (o.Item m)
    of_no_item : {m : ℕ} {st : List Sort} → p.stack ≡ s.never ∷ st → To p (s.never ∷ st) (suc i) →
        Passes i p (o.Item m)
    of_at : {a b r : Sort} {st : List Sort} → p.stack ≡ b ∷ a ∷ st → Indexed a b r → MayFail p →
        To p (r ∷ st) (suc i) → Passes i p o.At
    of_length : {a : Sort} {st : List Sort} → p.stack ≡ a ∷ st → Counted a →
        To p (s.int ∷ st) (suc i) → Passes i p o.Length
    of_new : {k : ℕ} {a u : Sort} {st : List Sort} → p.stack ≡ a ∷ st → Fit a u →
        To p (s.var u ∷ st) (suc i) → Passes i p (o.New k)
    of_load : {m : ℕ} {a r : Sort} {st : List Sort} → p.stack ≡ a ∷ st → Slot a m r →
        To p (r ∷ st) (suc i) → Passes i p (o.Load m)
    of_store : {slot m mode k : ℕ} {v a b r : Sort} {xs st us : List Sort} → p.stack ≡ v ∷ us →
        Pops m us [] xs (a ∷ st) → Slot a slot b → Path b xs r → Mode mode v r →
        (xs ≢ [] → MayFail p) → To p (r ∷ st) (suc i) → Passes i p (o.Store slot m mode k)
    of_object : {class k : ℕ} {q : Class} {x : ClassNote} {xs st : List Sort} →
        slice_get c.classes class ≡ Some q → slice_get n.classes class ≡ Some x →
        Pops q.slots p.stack [] xs st → Each xs x.slots → To p (s.obj class ∷ st) (suc i) →
        Passes i p (o.Object class k)
    of_event : {k : ℕ} {u : Sort} → To p (s.event u ∷ p.stack) (suc i) → Passes i p (o.Event k)
    of_jump : {l : ℕ} → To p p.stack l → Passes i p (o.Jump l)
    of_same : {l : ℕ} {a b : Sort} {st : List Sort} → p.stack ≡ b ∷ a ∷ st → To p st (suc i) →
        To p st l → Passes i p (o.Same l)
    of_again : {l : ℕ} → To p p.stack l → Passes i p (o.Again l)
    of_try : {l : ℕ} → Leads p p.locals [] (record { index = i; beneath = p.stack } ∷ p.tries)
        p.defers (suc i) → To p p.stack l → Passes i p (o.Try l)
    of_commit : {t : Open} {ts : List Open} → p.tries ≡ t ∷ ts → Level t.index p.defers →
        Leads p p.locals (p.stack ++ t.beneath) ts p.defers (suc i) → Passes i p o.Commit
    of_undo : {t : Open} {ts : List Open} {label : ℕ} → p.tries ≡ t ∷ ts → p.stack ≡ [] →
        Level t.index p.defers → slice_get c.ops t.index ≡ Some (o.Try label) →
        ((l : Point) → point_at n label ≡ Some l →
        Leads p l.locals t.beneath ts p.defers (suc i)) → Passes i p o.Undo
    of_fail : MayFail p → Passes i p o.Fail
    of_call : {f : ℕ} {q : Func} {g : FuncNote} {xs st : List Sort} →
        slice_get c.functions f ≡ Some q → slice_get n.functions f ≡ Some g →
        Pops q.params p.stack [] xs st → Each xs g.params → MayCall p g →
        To p (g.result ∷ st) (suc i) → Passes i p (o.Call f)
    of_method : {m k : ℕ} {a : Sort} {g : FuncNote} {xs st : List Sort} →
        Pops k p.stack [] xs (a ∷ st) → Method a m g → Each (a ∷ xs) g.params → MayCall p g →
        To p (g.result ∷ st) (suc i) → Passes i p (o.Method m k)
    of_no_method : {m k : ℕ} {xs st : List Sort} → Pops k p.stack [] xs (s.never ∷ st) →
        To p (s.never ∷ st) (suc i) → Passes i p (o.Method m k)
    of_return : {a : Sort} {st : List Sort} {g : FuncNote} → p.stack ≡ a ∷ st → p.tries ≡ [] →
        p.arm ≡ None → p.block ≡ None →
        p.defers ≡ [] → slice_get n.functions p.func ≡ Some g → Fit a g.result → Passes i p o.Return
    of_each : {l : ℕ} {a : Sort} {st ls ms : List Sort} → p.stack ≡ a ∷ st → Counted a →
        put p.locals l a ≡ Some ls → put ls (suc l) s.int ≡ Some ms → Quiet l (names p) →
        Quiet (suc l) (names p) → Leads p ms st p.tries p.defers (suc i) → Passes i p (o.Each l)
    of_range : {l : ℕ} {a b : Sort} {st ls ms : List Sort} → p.stack ≡ b ∷ a ∷ st → Fit a s.int →
        Fit b s.int → put p.locals l s.span ≡ Some ls → put ls (suc l) s.int ≡ Some ms →
        Quiet l (names p) → Quiet (suc l) (names p) → Leads p ms st p.tries p.defers (suc i) →
        Passes i p (o.Range l)
    of_take : {l d label m : ℕ} {a b v k x : Sort} {xs ys zs : List Sort} → at p.locals l ≡ Some a →
        at p.locals (suc l) ≡ Some b →
        Fit b s.int → Domain a v k m x → put p.locals d v ≡ Some xs → put xs (suc d) k ≡ Some ys → put ys (l + m) x ≡ Some zs →
        Quiet l (names p) → Quiet (suc l) (names p) → Quiet d (names p) → Quiet (suc d) (names p) →
        To p p.stack (suc i) → Leads p zs p.stack p.tries p.defers label →
        Passes i p (o.Take l d label)
    of_append : {l k : ℕ} {a b u : Sort} {st ls : List Sort} → p.stack ≡ a ∷ st →
        at p.locals l ≡ Some b → Fit b (s.list u) → Fit a u → put p.locals l (s.list u) ≡ Some ls →
        Quiet l (names p) → Leads p ls st p.tries p.defers (suc i) → Passes i p (o.Append l k)
    of_print : {k : ℕ} {a : Sort} {st : List Sort} → p.stack ≡ a ∷ st → Fit a (s.list s.char) →
        To p (s.unit ∷ st) (suc i) → Passes i p (o.Print k)
    of_sleep : {k : ℕ} → MayWait p → To p (s.unit ∷ p.stack) (suc i) → Passes i p (o.Sleep k)
    of_forever : MayWait p → To p (s.unit ∷ p.stack) (suc i) → Passes i p o.Forever
    of_await_task : {r : Sort} {st : List Sort} → MayWait p → p.stack ≡ s.task r ∷ st →
        To p (r ∷ st) (suc i) → Passes i p o.AwaitTask
    of_await_event : {r : Sort} {st : List Sort} → MayWait p → p.stack ≡ s.event r ∷ st →
        To p (r ∷ st) (suc i) → Passes i p o.AwaitEvent
    of_no_task : {st : List Sort} → MayWait p → p.stack ≡ s.never ∷ st →
        To p (s.never ∷ st) (suc i) → Passes i p o.AwaitTask
    of_no_event : {st : List Sort} → MayWait p → p.stack ≡ s.never ∷ st →
        To p (s.never ∷ st) (suc i) → Passes i p o.AwaitEvent
    of_no_signal : {a : Sort} {st : List Sort} → MayWait p → p.stack ≡ a ∷ s.never ∷ st →
        To p (s.unit ∷ st) (suc i) → Passes i p o.Signal
    of_signal : {a r : Sort} {st : List Sort} → MayWait p → p.stack ≡ a ∷ s.event r ∷ st → Fit a r → To p (s.unit ∷ st) (suc i) →
        Passes i p o.Signal
    of_spawn : {f : ℕ} {q : Func} {g : FuncNote} {xs st : List Sort} → MayWait p →
        slice_get c.functions f ≡ Some q →
        slice_get n.functions f ≡ Some g → Pops q.params p.stack [] xs st → Each xs g.params → g.may_fail ≡ false →
        To p (s.task g.result ∷ st) (suc i) → Passes i p (o.Spawn f)
    of_spawn_method : {m k : ℕ} {a : Sort} {g : FuncNote} {xs st : List Sort} → MayWait p →
        Pops k p.stack [] xs (a ∷ st) → Method a m g → Each (a ∷ xs) g.params → g.may_fail ≡ false →
        To p (s.task g.result ∷ st) (suc i) → Passes i p (o.SpawnMethod m k)
    of_no_spawn_method : {m k : ℕ} {xs st : List Sort} → MayWait p →
        Pops k p.stack [] xs (s.never ∷ st) → To p (s.task s.never ∷ st) (suc i) →
        Passes i p (o.SpawnMethod m k)
    of_group : {kind m k : ℕ} {r : Sort} {ls : List ℕ} {rs : List Sort} → MayWait p → 2 ≤ m →
        Arms p (suc i) m ls rs → Grouped kind rs r → To p (r ∷ p.stack) (suc i + m) →
        Passes i p (o.Group kind m k)
    of_branch : {l : ℕ} {r : Sort} → MayWait p → Arm p (suc i) r → To p (s.unit ∷ p.stack) l →
        Passes i p (o.Branch l)
    of_arm_end : {a r : Sort} {st : List Sort} → p.stack ≡ a ∷ st → p.tries ≡ [] → p.arm ≡ Some r →
        p.block ≡ None → p.defers ≡ [] → Fit a r → Passes i p o.ArmEnd
    of_defer : {l : ℕ} {point : Point} → Entry p (suc i) (length p.defers) point →
        names p ≡ point.outer → Each p.locals point.locals →
        Leads p p.locals p.stack p.tries (suc i ∷ p.defers) l → Passes i p (o.Defer l)
    of_leave : {m : ℕ} → Keeps p m → Runs p i m p.locals p.defers → Passes i p (o.Leave m)
    of_defer_end : {e : ℕ} {point : Point} → p.block ≡ Some e → p.tries ≡ [] → p.stack ≡ [] →
        p.defers ≡ [] → point_at n e ≡ Some point → Each p.locals point.locals →
        Passes i p o.DeferEnd

  -- each Try that is open at i stands before it, and its label behind it
  pub data Around (i : ℕ) : List ℕ → Type 0 where
    around_no : Around i []
    around_so : {t label : ℕ} {ts : List ℕ} → t < i → i < label →
        slice_get c.ops t ≡ Some (o.Try label) → Around i ts → Around i (t ∷ ts)

  -- the deferred blocks of a frame, the last first: each may be run with the locals as they are
  -- when the task is cancelled
  pub data Ready (p : Point) : List Sort → List ℕ → Type 0 where
    ready_no : {ls : List Sort} → Ready p ls []
    ready_so : {e : ℕ} {point : Point} {ls : List Sort} {ds : List ℕ} (more : List ℕ) →
        Entry p e (length ds) point → more ++ point.outer ≡ names p → Each ls point.locals →
        Ready p point.locals ds → Ready p ls (e ∷ ds)

  -- nothing is asked where an operand or a local has no value, since no run comes there
  pub data Asked (i : ℕ) (p : Point) (op : Op) : Type 0 where
    asked : Passes i p op → Asked i p op
    no_operand : AnyNever p.stack → Asked i p op
    no_local : AnyNever p.locals → Asked i p op

  pub record Sound (i : ℕ) (p : Point) : Type 0 where
    pub around : Around i (names p)
    pub ready : Ready p p.locals p.defers
    pub op : Op
    pub is_op : slice_get c.ops i ≡ Some op
    pub passes : Asked i p op

  pub record Begins (f : Func) (k : ℕ) (g : FuncNote) : Type 0 where
    pub point : Point
    pub live : point_at n f.entry ≡ Some point
    pub func : point.func ≡ k
    pub arm : point.arm ≡ None
    pub stack : point.stack ≡ []
    pub tries : point.tries ≡ []
    pub block : point.block ≡ None
    pub outer : point.outer ≡ []
    pub under : point.under ≡ 0
    pub defers : point.defers ≡ []
    pub count : length g.params ≡ f.params
    pub locals : Each (g.params ++ nones (f.locals - f.params)) point.locals

  -- a method of a class that inherits does what the other one does
  pub record Overrides (f g : FuncNote) : Type 0 where
    pub params : rest_of f.params ≡ rest_of g.params
    pub result : Fit f.result g.result
    pub fails : f.may_fail ≡ true → g.may_fail ≡ true
    pub waits : f.may_wait ≡ true → g.may_wait ≡ true

  -- the methods of a class: those of its parent under the same numbers, and each takes the object
  -- first
  pub record ClassIs (k : ℕ) (x : ClassNote) (made : Class) : Type 0 where
    pub slots : (b : ℕ) (y : ClassNote) → x.parent ≡ Some b → slice_get n.classes b ≡ Some y →
        (more : List Sort) × (x.slots ≡ y.slots ++ more)
    pub parent : (b : ℕ) → x.parent ≡ Some b → (y : ClassNote) × (slice_get n.classes b ≡ Some y)
    pub inherited : (b : ℕ) (other : Class) (m j : ℕ) (g : FuncNote) → x.parent ≡ Some b →
        slice_get c.classes b ≡ Some other → slice_get other.methods m ≡ Some j →
        slice_get n.functions j ≡ Some g → (i : ℕ) × (f : FuncNote) ×
        (slice_get made.methods m ≡ Some i) × (slice_get n.functions i ≡ Some f) × Overrides f g
    pub own : (m j : ℕ) (g : FuncNote) → slice_get made.methods m ≡ Some j →
        slice_get n.functions j ≡ Some g → (first : Sort) × (g.params ≡ first ∷ rest_of g.params) ×
        Fit (s.obj k) first

  -- Main does not fail and takes the inputs
  pub record MainIs (g : FuncNote) : Type 0 where
    pub sure : g.may_fail ≡ false
    pub params : AllFrom (s.list s.int) g.params

  -- The notes fulfil the rules: of the code's classes and functions (V2), at each entry (V3), and
  -- at each operation that is reached (V4 to V9).
  pub record Verified : Type 0 where
    pub counted : (length n.classes ≡ length c.classes) × (length n.functions ≡ length c.functions)
    pub classes : (k : ℕ) (x : ClassNote) (made : Class) → slice_get n.classes k ≡ Some x →
        slice_get c.classes k ≡ Some made → ClassIs k x made
    pub either : (k : ℕ) (g : FuncNote) → slice_get n.functions k ≡ Some g → g.may_fail ≡ true →
        g.may_wait ≡ true → ⊥
    pub main : (g : FuncNote) → slice_get n.functions c.main ≡ Some g → MainIs g
    pub begins : (k : ℕ) (f : Func) (g : FuncNote) → slice_get c.functions k ≡ Some f →
        slice_get n.functions k ≡ Some g → Begins f k g
    pub live : (i : ℕ) (p : Point) → point_at n i ≡ Some p → Sound i p
