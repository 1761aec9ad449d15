-- What an operation asks of the state at it, and where it leads.
use Rattle.std.specs.Prelude.{ℕ, zero, suc, ◌+◌, List, [], ◌∷◌, ◌++◌, length, map, Option, Some}
use Rattle.std.specs.Prelude.{None, Bool, true, false, ◌&&◌, ◌||◌, cond, slice_get}
use Rattle.verse_code.specs.declared.operations.Op.{Op}
use Rattle.verse_code.specs.declared.operations.Op.TheVariants as o
use Rattle.verse_code.specs.declared.codes.Func.{Func}
use Rattle.verse_code.specs.declared.codes.Class.{Class}
use Rattle.verse_code.specs.declared.codes.Code.{Code}
use Rattle.verse_meaning_state.specs.Waits.{eqn}
use Rattle.verse_code_machine.specs.Frames.{put}
use Rattle.verse_code_machine.specs.Acts.{label_of}
use Rattle.verse_sorts.specs.Sorts as s
use Rattle.verse_sorts.specs.Sorts.{Sort, Sorts}
use Rattle.verse_sorts.specs.Typing.{at}
use Rattle.verse_verify_kept.specs.Notes.{ClassNote, FuncNote}
use Rattle.verse_verify_kept.specs.Rules.{sorts, at_sort}
use Rattle.verse_verify_faults.specs.Fitting.{fit, all_fit, each_fit, is_key}
use Rattle.verse_verify_faults.specs.Spots.{Mark, Spot, Table, spot_at, above, beneath}

-- what stands in a place behind an operation: a value of a sort, or what it made of some
pub data Made : Type 0 where
  is : Sort → Made
  list_of : List Sort → Made
  map_of : (keys values : List Sort) → Made
  var_of : Sort → Made
  event_of : Made
  one_of : List Sort → Made

-- of which block and arm the next state is: of the same, with these blocks deferred; the first of
-- an arm; a deferred block's first, with the Trys around it and how many blocks are deferred
-- beneath it
pub data Part : Type 0 where
  inner : (defers : List ℕ) → Part
  begins_arm : Part
  begins_block : (outer : List ℕ) → (under : ℕ) → Part

-- a next state: its index and part, its locals and stack, and its open Trys where they are known
pub record Goes : Type 0 where
  pub index : ℕ
  pub part : Part
  pub locals : List Made
  pub stack : List Made
  pub tries : Option (List Mark)

pub data Stepped : Type 0 where
  -- it breaks the rule of this number
  breaks : ℕ → Stepped
  -- it leads to these states, writes these locals, and calls or spawns this function
  leads : List Goes → (writes : List ℕ) → (callee : Option FuncNote) → Stepped

-- asks of a sort
abbrev pub need : ℕ → Bool → Stepped → Stepped
need rule true q = q
need rule false q = breaks rule

abbrev pub on_there : {A : Type 0} → ℕ → Option A → (A → Stepped) → Stepped
on_there rule None go = breaks rule
on_there rule (Some x) go = go x

abbrev pub pop : List Sort → (Sort → List Sort → Stepped) → Stepped
pop [] go = breaks 4
pop (a ∷ st) go = go a st

-- so many operands, in the order in which they were pushed
abbrev pub pop_all : ℕ → List Sort → List Sort → (List Sort → List Sort → Stepped) → Stepped
pop_all zero st xs go = go xs st
pop_all (suc n) [] xs go = breaks 4
pop_all (suc n) (a ∷ st) xs go = pop_all n st (a ∷ xs) go

abbrev pub readable : Option Sort → Option Sort
readable None = None
readable (Some s.none) = None
readable (Some a) = Some a

abbrev pub part_of_list : Sort → Option Sort
part_of_list (s.list a) = Some a
part_of_list s.never = Some s.never
part_of_list a = None

abbrev pub counted : Sort → Bool
counted (s.list a) = true
counted (s.map k a) = true
counted s.never = true
counted a = false

abbrev pub queried : Sort → Option Sort
queried (s.opt a) = Some a
queried s.logic = Some s.logic
queried s.nil = Some s.never
queried s.never = Some s.never
queried a = None

-- keys and values in turn
abbrev pub firsts : List Sort → List Sort
firsts [] = []
firsts (a ∷ []) = a ∷ []
firsts (a ∷ b ∷ xs) = a ∷ firsts xs

abbrev pub seconds : List Sort → List Sort
seconds [] = []
seconds (a ∷ []) = []
seconds (a ∷ b ∷ xs) = b ∷ seconds xs

abbrev pub all_keys : List Sort → Bool
all_keys [] = true
all_keys (a ∷ xs) = is_key a && all_keys xs

-- what Take writes: the value, what stands beside it, how far behind the domain, and what
pub record Taking : Type 0 where
  pub value : Sort
  pub beside : Sort
  pub far : ℕ
  pub last : Sort

abbrev pub is_obj : Sort → Option ℕ
is_obj (s.obj c) = Some c
is_obj a = None

module _ (cs : List ClassNote) where
  abbrev pub shown : Sort → Bool
  shown a = fit cs a s.int || fit cs a s.char || fit cs a (s.list s.char)

  abbrev pub all_shown : List Sort → Bool
  all_shown [] = true
  all_shown (a ∷ xs) = shown a && all_shown xs

  -- what an index leads to
  abbrev pub part_at : Sort → Sort → Option Sort
  part_at (s.list a) b = cond (fit cs b s.int) (Some a) None
  part_at (s.map k a) b = cond (is_key b && fit cs b k) (Some a) None
  part_at s.never b = Some s.never
  part_at a b = None

  abbrev pub at_path : Option Sort → List Sort → Option Sort
  at_path None xs = None
  at_path (Some a) [] = Some a
  at_path (Some a) (b ∷ xs) = at_path (part_at a b) xs

  abbrev pub may_add : Sort → Sort → Bool
  may_add (s.list a) v = fit cs v (s.list a)
  may_add s.int v = fit cs v s.int
  may_add s.never v = true
  may_add a v = false

  abbrev pub may_count : Sort → Sort → Bool
  may_count s.int v = fit cs v s.int
  may_count s.never v = true
  may_count a v = false

  -- what may be written in a mode
  abbrev pub may_write : ℕ → Sort → Sort → Bool
  may_write zero place v = fit cs v place
  may_write (suc zero) place v = may_add place v
  may_write (suc (suc m)) place v = may_count place v

  abbrev pub slots_at : Option ClassNote → ℕ → Option Sort
  slots_at None k = None
  slots_at (Some x) k = at x.slots k

  abbrev pub taken : Sort → Option Taking
  taken (s.list a) = Some (record { value = a; beside = s.int; far = 1; last = s.int })
  taken (s.map k a) = Some (record { value = a; beside = k; far = 1; last = s.int })
  taken s.never = Some (record { value = s.never; beside = s.never; far = 1; last = s.int })
  taken a = cond (fit cs a s.span)
      (Some (record { value = s.int; beside = s.any; far = 0; last = s.span })) None

  -- of a local that may be read
  abbrev pub is_taken : Option Taking → Bool
  is_taken None = false
  is_taken (Some k) = true

  abbrev pub may_take : Option Sort → Bool
  may_take None = true
  may_take (Some a) = is_taken (taken a)

  abbrev pub may_number : Option Sort → Bool
  may_number None = true
  may_number (Some b) = fit cs b s.int

  -- a slot of what a sort names
  abbrev pub on_slot : Sort → ℕ → (Sort → Stepped) → Stepped
  on_slot (s.var a) zero go = go a
  on_slot (s.var a) (suc k) go = breaks 6
  on_slot (s.obj c) k go = on_there 6 (slots_at (slice_get cs c) k) go
  on_slot s.never k go = go s.never
  on_slot a k go = breaks 5

  abbrev pub on_tuple_item : Sort → ℕ → (Sort → Stepped) → Stepped
  on_tuple_item (s.tuple xs) k go = on_there 6 (at_sort xs k) go
  on_tuple_item s.never k go = go s.never
  on_tuple_item a k go = breaks 5

-- a method of what a sort names; `none` where that gives no value
abbrev pub methods_of : Option Class → ℕ → Option ℕ
methods_of None m = None
methods_of (Some k) m = slice_get k.methods m

abbrev pub note_of : List FuncNote → Option ℕ → Option FuncNote
note_of fs None = None
note_of fs (Some j) = slice_get fs j

abbrev pub on_method : Code → Table → Sort → ℕ → Stepped → (FuncNote → Stepped) → Stepped
on_method c t (s.obj k) m nothing go =
    on_there 6 (note_of t.functions (methods_of (slice_get c.classes k) m)) go
on_method c t s.never m nothing go = nothing
on_method c t a m nothing go = breaks 5

abbrev pub on_task : Sort → (Sort → Stepped) → Stepped
on_task (s.task a) go = go a
on_task s.never go = go s.never
on_task a go = breaks 5

abbrev pub on_heard : Sort → (Sort → Stepped) → Stepped
on_heard (s.event a) go = go a
on_heard s.never go = go s.never
on_heard a go = breaks 5

abbrev pub may_send : List ClassNote → Sort → Sort → Bool
may_send cs (s.event a) v = fit cs v a
may_send cs s.never v = true
may_send cs a v = false

abbrev pub tails : List Mark → Option (List Mark)
tails [] = None
tails (m ∷ ms) = Some ms

abbrev pub try_label : Option Op → Option ℕ
try_label (Some (o.Try l)) = Some l
try_label op = None

abbrev pub label_at : Code → List Mark → Option ℕ
label_at c [] = None
label_at c (m ∷ ms) = try_label (slice_get c.ops m.index)

abbrev pub spot_locals : Option Spot → List Sort → List Sort
spot_locals None ls = ls
spot_locals (Some q) ls = q.locals

abbrev pub label_locals : Table → Option ℕ → List Sort → List Sort
label_locals t None ls = ls
label_locals t (Some l) ls = spot_locals (spot_at t l) ls

-- the labels of the Arms among so many operations, and what the arms give where all of them have
-- notes
abbrev pub with_label : Option ℕ → List ℕ → List ℕ
with_label None ls = ls
with_label (Some l) ls = l ∷ ls

abbrev pub arm_labels : List Op → (a m : ℕ) → List ℕ
arm_labels ops a zero = []
arm_labels ops a (suc m) = with_label (label_of (slice_get ops a)) (arm_labels ops (suc a) m)

abbrev pub arm_of : Option Spot → Option Sort
arm_of None = None
arm_of (Some q) = q.arm

abbrev pub behind_arm : Option Sort → Option (List Sort) → Option (List Sort)
behind_arm (Some a) (Some xs) = Some (a ∷ xs)
behind_arm a xs = None

abbrev pub arm_sorts : Table → List ℕ → Option (List Sort)
arm_sorts t [] = Some []
arm_sorts t (l ∷ ls) = behind_arm (arm_of (spot_at t l)) (arm_sorts t ls)

abbrev pub arm_results : Table → ℕ → List ℕ → Option (List Sort)
arm_results t m ls = cond (eqn (length ls) m) (arm_sorts t ls) None

abbrev pub group_result : ℕ → List Sort → Made
group_result zero rs = is (s.tuple (sorts rs))
group_result (suc k) rs = one_of rs

-- where an operation that follows is no Arm, or an arm has no notes, another rule is broken
abbrev pub grouped : ℕ → Option (List Sort) → Made
grouped kind None = is s.never
grouped kind (Some rs) = group_result kind rs

-- what an arm gives; what ends no arm breaks another rule
abbrev pub arm_sort : Option Sort → Sort
arm_sort None = s.none
arm_sort (Some a) = a

module _ (c : Code) (t : Table) (p : Spot) (i : ℕ) where
  abbrev pub here : List Made
  here = map is p.locals

  abbrev pub to : ℕ → List Made → List Sort → Goes
  to j made st = record {
    index = j;
    part = inner p.defers;
    locals = here;
    stack = made ++ map is (st ++ beneath p.stack p.tries);
    tries = Some p.tries;
  }

  abbrev pub goes_to : ℕ → List Made → List Sort → Stepped
  goes_to j made st = leads (to j made st ∷ []) [] None

  abbrev pub goes_on : List Made → List Sort → Stepped
  goes_on made st = goes_to (suc i) made st

  abbrev pub calls : FuncNote → Sort → List Sort → Stepped
  calls f a st = leads (to (suc i) (is a ∷ []) st ∷ []) [] (Some f)

  abbrev pub writing : List Made → List ℕ → List Sort → Stepped
  writing ls ws st = leads (record (to (suc i) [] st) { locals = ls } ∷ []) ws None

  abbrev pub ints : List Sort → (List Sort → Stepped) → Stepped
  ints st go = pop st (λ b st. pop st
      (λ a st. need 5 (fit t.classes a s.int && fit t.classes b s.int) (go st)))

  abbrev pub counts : List Sort → Stepped
  counts st = ints st (λ st. goes_on (is s.int ∷ []) st)

  abbrev pub arm_at : ℕ → Goes
  arm_at l = record { index = l; part = begins_arm; locals = here; stack = []; tries = Some [] }

  abbrev pub arms_at : List ℕ → List Goes → List Goes
  arms_at [] gs = gs
  arms_at (l ∷ ls) gs = arm_at l ∷ arms_at ls gs

  -- a deferred block begins with these locals, and so many blocks are deferred beneath it
  abbrev pub block_at : ℕ → ℕ → List Sort → Goes
  block_at e count ls = record {
    index = e;
    part = begins_block (map (λ (m : Mark). m.index) p.tries ++ p.outer) (p.under + count);
    locals = map is ls;
    stack = [];
    tries = Some [];
  }

  -- what stands behind a Leave that leaves these locals and blocks
  abbrev pub behind : List Sort → List ℕ → Goes
  behind ls ds = record (to (suc i) [] (above p.stack p.tries)) {
    part = inner ds;
    locals = map is ls;
  }

  -- the blocks that a Leave runs with these locals, each of which leaves those of its first
  -- operation, and what stands behind it
  abbrev pub leaves : ℕ → List Sort → List ℕ → List Goes
  leaves m ls [] = behind ls [] ∷ []
  leaves m ls (e ∷ ds) =
      cond (eqn m (p.under + suc (length ds))) (behind ls (e ∷ ds) ∷ [])
      (block_at e (length ds) ls ∷ leaves m (spot_locals (spot_at t e) ls) ds)

  -- a deferred block ends with the locals that it may be run with
  abbrev pub block_again : Option ℕ → List Goes
  block_again None = []
  block_again (Some e) = record {
    index = e;
    part = begins_block p.outer p.under;
    locals = here;
    stack = [];
    tries = Some [];
  } ∷ []

  abbrev pub step : Op → List Sort → Stepped
  step (o.Int n) st = goes_on (is s.int ∷ []) st
  step o.Unit st = goes_on (is s.unit ∷ []) st
  step o.False st = goes_on (is s.nil ∷ []) st
  step o.True st = goes_on (is s.logic ∷ []) st
  step (o.Char n) st = goes_on (is s.char ∷ []) st
  step (o.Text n) st = goes_on (is (s.list s.char) ∷ []) st
  step (o.Enum e n) st = goes_on (is (s.enum e) ∷ []) st
  step (o.Get l) st = on_there 6 (readable (at p.locals l)) (λ a. goes_on (is a ∷ []) st)
  step (o.Put l) st = pop st (λ a st. on_there 6 (put here l (is a)) (λ ls. writing ls (l ∷ []) st))
  step o.Drop st = pop st (λ a st. goes_on [] st)
  step (o.Add k) st = counts st
  step (o.Sub k) st = counts st
  step (o.Mul k) st = counts st
  step (o.Neg k) st = pop st (λ a st. need 5 (fit t.classes a s.int) (goes_on (is s.int ∷ []) st))
  step (o.Floor k) st = counts st
  step (o.Ceil k) st = counts st
  step o.Mod st = counts st
  step (o.Concat k) st =
      pop st (λ b st. pop st (λ a st. on_there 5 (part_of_list a)
      (λ d. on_there 5 (part_of_list b) (λ e. goes_on (list_of (d ∷ e ∷ []) ∷ []) st))))
  step (o.Join m k) st = pop_all m st []
      (λ xs st. need 5 (all_shown t.classes xs) (goes_on (is (s.list s.char) ∷ []) st))
  step o.Lt st = counts st
  step o.Le st = counts st
  step o.Gt st = counts st
  step o.Ge st = counts st
  step o.Eq st = pop st (λ b st. pop st (λ a st. goes_on (is a ∷ []) st))
  step o.Ne st = pop st (λ b st. pop st (λ a st. goes_on (is a ∷ []) st))
  step (o.Array m k) st = pop_all m st [] (λ xs st. goes_on (list_of xs ∷ []) st)
  step (o.Map m k) st =
      pop_all (m + m) st [] (λ xs st. need 5 (all_keys (firsts xs))
      (goes_on (map_of (firsts xs) (seconds xs) ∷ []) st))
  step (o.Tuple m k) st = pop_all m st [] (λ xs st. goes_on (is (s.tuple (sorts xs)) ∷ []) st)
  step (o.Some k) st = pop st (λ a st. goes_on (is (s.opt a) ∷ []) st)
  step o.Query st = pop st (λ a st. on_there 5 (queried a) (λ r. goes_on (is r ∷ []) st))
  step (o.Item m) st = pop st (λ a st. on_tuple_item t.classes a m (λ r. goes_on (is r ∷ []) st))
  step o.At st = pop st (λ b st. pop st
      (λ a st. on_there 5 (part_at t.classes a b) (λ r. goes_on (is r ∷ []) st)))
  step o.Length st = pop st (λ a st. need 5 (counted a) (goes_on (is s.int ∷ []) st))
  step (o.New k) st = pop st (λ a st. goes_on (var_of a ∷ []) st)
  step (o.Load m) st = pop st (λ a st. on_slot t.classes a m (λ r. goes_on (is r ∷ []) st))
  step (o.Store slot m mode k) st =
      pop st (λ v st. pop_all m st []
      (λ xs st. pop st (λ a st. on_slot t.classes a slot
      (λ b. on_there 5 (at_path t.classes (Some b) xs)
      (λ r. need 5 (may_write t.classes mode r v) (goes_on (is r ∷ []) st))))))
  step (o.Object class k) st = on_there 6 (slice_get c.classes class)
      (λ (q : Class). on_there 6 (slice_get t.classes class)
      (λ (x : ClassNote). pop_all q.slots st []
      (λ xs st. need 5 (each_fit t.classes xs x.slots) (goes_on (is (s.obj class) ∷ []) st))))
  step (o.Event k) st = goes_on (event_of ∷ []) st
  step (o.Jump l) st = goes_to l [] st
  step (o.Same l) st = pop st (λ b st. pop st
      (λ a st. leads (to (suc i) [] st ∷ to l [] st ∷ []) [] None))
  step (o.Again l) st = goes_to l [] st
  step (o.Try l) st =
      leads (record (to (suc i) [] st) {
        tries = Some (record { index = i; height = length p.stack } ∷ p.tries);
      } ∷ to l [] st ∷ []) [] None
  step o.Commit st = leads (record (to (suc i) [] st) { tries = tails p.tries } ∷ []) [] None
  step o.Undo st = leads (record (to (suc i) [] st) {
    tries = tails p.tries;
    locals = map is (label_locals t (label_at c p.tries) p.locals);
  } ∷ []) [] None
  step o.Fail st = leads [] [] None
  step (o.Call f) st = on_there 6 (slice_get c.functions f)
      (λ (q : Func). on_there 6 (slice_get t.functions f)
      (λ (g : FuncNote). pop_all q.params st []
      (λ xs st. need 5 (each_fit t.classes xs g.params) (calls g g.result st))))
  step (o.Method m k) st =
      pop_all k st [] (λ xs st. pop st
      (λ a st. on_method c t a m (goes_on (is s.never ∷ []) st)
      (λ g. need 6 (eqn (length g.params) (suc k))
      (need 5 (each_fit t.classes (a ∷ xs) g.params) (calls g g.result st)))))
  step o.Return st = pop st (λ a st. on_there 6 (slice_get t.functions p.func)
      (λ (g : FuncNote). need 5 (fit t.classes a g.result) (leads [] [] None)))
  step (o.Each l) st =
      pop st (λ a st. need 5 (counted a)
      (on_there 6 (put here l (is a))
      (λ ls. on_there 6 (put ls (suc l) (is s.int)) (λ ms. writing ms (l ∷ suc l ∷ []) st))))
  step (o.Range l) st =
      ints st (λ st. on_there 6 (put here l (is s.span))
      (λ ls. on_there 6 (put ls (suc l) (is s.int)) (λ ms. writing ms (l ∷ suc l ∷ []) st)))
  step (o.Take l d label) st = need 5
      (may_take t.classes (readable (at p.locals l)) &&
      may_number t.classes (readable (at p.locals (suc l))))
      (on_there 6 (readable (at p.locals l))
      (λ a. on_there 6 (readable (at p.locals (suc l)))
      (λ b. on_there 5 (taken t.classes a)
      (λ k. on_there 6 (put here d (is k.value))
      (λ xs. on_there 6 (put xs (suc d) (is k.beside))
      (λ ys. on_there 6 (put ys (l + k.far) (is k.last))
      (λ zs. leads (to (suc i) [] st ∷ record (to label [] st) { locals = zs } ∷ [])
      (l ∷ suc l ∷ d ∷ suc d ∷ []) None)))))))
  step (o.Append l k) st =
      pop st (λ a st. on_there 6 (readable (at p.locals l))
      (λ b. on_there 5 (part_of_list b)
      (λ d. on_there 6 (put here l (list_of (d ∷ a ∷ []))) (λ ls. writing ls (l ∷ []) st))))
  step (o.Print k) st = pop st (λ a st. need 5 (fit t.classes a (s.list s.char))
      (goes_on (is s.unit ∷ []) st))
  step (o.Sleep k) st = goes_on (is s.unit ∷ []) st
  step o.Forever st = goes_on (is s.unit ∷ []) st
  step o.AwaitTask st = pop st (λ a st. on_task a (λ r. goes_on (is r ∷ []) st))
  step o.AwaitEvent st = pop st (λ a st. on_heard a (λ r. goes_on (is r ∷ []) st))
  step o.Signal st = pop st (λ v st. pop st
      (λ e st. need 5 (may_send t.classes e v) (goes_on (is s.unit ∷ []) st)))
  step (o.Spawn f) st = on_there 6 (slice_get c.functions f)
      (λ (q : Func). on_there 6 (slice_get t.functions f)
      (λ (g : FuncNote). pop_all q.params st []
      (λ xs st. need 5 (each_fit t.classes xs g.params) (calls g (s.task g.result) st))))
  step (o.SpawnMethod m k) st =
      pop_all k st [] (λ xs st. pop st
      (λ a st. on_method c t a m (goes_on (is (s.task s.never) ∷ []) st)
      (λ g. need 6 (eqn (length g.params) (suc k))
      (need 5 (each_fit t.classes (a ∷ xs) g.params) (calls g (s.task g.result) st)))))
  step (o.Group kind m k) st =
      leads (arms_at (arm_labels c.ops (suc i) m)
      (to (suc i + m) (grouped kind (arm_results t m (arm_labels c.ops (suc i) m)) ∷ []) st ∷ []))
      [] None
  step (o.Arm l) st = leads [] [] None
  step (o.Branch l) st = leads (arm_at (suc i) ∷ to l (is s.unit ∷ []) st ∷ []) [] None
  step o.ArmEnd st = pop st (λ a st. need 5 (all_fit t.classes (a ∷ []) (arm_sort p.arm))
      (leads [] [] None))
  step (o.Defer l) st =
      leads (block_at (suc i) (length p.defers) p.locals ∷
      record (to l [] st) { part = inner (suc i ∷ p.defers) } ∷ []) [] None
  step (o.Leave m) st = leads (leaves m p.locals p.defers) [] None
  step o.DeferEnd st = leads (block_again p.block) [] None
