-- The rule that notes break, and where: V2 for classes and functions, V3 at entries, V4 to V9 at
-- operations.
use Rattle.std.specs.Prelude.{ℕ, zero, suc, ◌+◌, ◌-◌, List, [], ◌∷◌, ◌++◌, length, map, Option}
use Rattle.std.specs.Prelude.{Some, None, Bool, true, false, not, ◌&&◌, ◌||◌}
use Rattle.std.specs.Prelude.{cond, nat_lt, slice_get}
use Rattle.verse_code.specs.declared.operations.Op.{Op}
use Rattle.verse_code.specs.declared.operations.Op.TheVariants as o
use Rattle.verse_code.specs.declared.codes.Func.{Func}
use Rattle.verse_code.specs.declared.codes.Class.{Class}
use Rattle.verse_code.specs.declared.codes.Code.{Code}
use Rattle.verse_meaning_state.specs.Waits.{eqn, ltn}
use Rattle.verse_code_machine.specs.Acts.{label_of}
use Rattle.verse_sorts.specs.Sorts as s
use Rattle.verse_sorts.specs.Sorts.{Sort}
use Rattle.verse_sorts.specs.Typing.{at}
use Rattle.verse_verify_kept.specs.Notes.{ClassNote, FuncNote, parent_in}
use Rattle.verse_verify_kept.specs.Rules.{nones, rest_of}
use Rattle.verse_verify_faults.specs.Fitting.{fit, same, all_fit, each_fit, on_list, on_map, on_var}
use Rattle.verse_verify_faults.specs.Fitting.{on_event, any_never}
use Rattle.verse_verify_faults.specs.Spots.{Mark, Spot, Table, spot_at, room, above}
use Rattle.verse_verify_faults.specs.Stepping.{Made, is, list_of, map_of, var_of, event_of, one_of}
use Rattle.verse_verify_faults.specs.Stepping.{Part, inner, begins_arm, begins_block, Goes}
use Rattle.verse_verify_faults.specs.Stepping.{Stepped, breaks, leads, try_label, step, spot_locals}

abbrev pub is_none : {A : Type 0} → Option A → Bool
is_none None = true
is_none (Some x) = false

abbrev pub is_nil : {A : Type 0} → List A → Bool
is_nil [] = true
is_nil (x ∷ xs) = false

abbrev pub same_number : Option ℕ → Option ℕ → Bool
same_number None None = true
same_number (Some a) (Some b) = eqn a b
same_number a b = false

abbrev pub same_numbers : List ℕ → List ℕ → Bool
same_numbers [] [] = true
same_numbers (a ∷ xs) (b ∷ ys) = eqn a b && same_numbers xs ys
same_numbers xs ys = false

abbrev pub same_arm : Option Sort → Option Sort → Bool
same_arm None None = true
same_arm (Some a) (Some b) = same a b
same_arm a b = false

abbrev pub same_marks : List Mark → List Mark → Bool
same_marks [] [] = true
same_marks (a ∷ xs) (b ∷ ys) = eqn a.index b.index && eqn a.height b.height && same_marks xs ys
same_marks xs ys = false

abbrev pub known_marks : Option (List Mark) → List Mark → Bool
known_marks None ms = true
known_marks (Some ns) ms = same_marks ns ms

abbrev pub on_spot : Option Spot → (Spot → Bool) → Bool
on_spot None go = false
on_spot (Some q) go = go q

module _ (cs : List ClassNote) where
  -- what an operation made may be noted as this sort
  abbrev pub holds : Made → Sort → Bool
  holds (is a) b = fit cs a b
  holds (list_of xs) b = on_list b (λ d. all_fit cs xs d)
  holds (map_of ks xs) b = on_map b (λ k d. all_fit cs ks k && all_fit cs xs d)
  holds (var_of a) b = on_var b (λ d. fit cs a d)
  holds event_of b = on_event b (λ d. true)
  holds (one_of xs) b = all_fit cs xs b

  abbrev pub each_holds : List Made → List Sort → Bool
  each_holds [] [] = true
  each_holds (a ∷ xs) (b ∷ ys) = holds a b && each_holds xs ys
  each_holds xs ys = false

-- the next state is of the part to which the operation leads
abbrev pub of_part : Spot → ℕ → Part → Spot → Bool
of_part p i (inner ds) q =
    same_arm p.arm q.arm && same_number p.block q.block && same_numbers p.outer q.outer &&
    eqn p.under q.under && same_numbers ds q.defers
of_part p i begins_arm q = not (is_none q.arm) && is_none q.block && is_nil q.outer &&
    eqn q.under 0 && is_nil q.defers
of_part p i (begins_block names count) q =
    same_arm p.arm q.arm && same_number (Some i) q.block && same_numbers names q.outer &&
    eqn count q.under && is_nil q.defers

-- no run comes to a state in which an operand above the innermost Try, or a local, has no value
abbrev pub lacks_values : Spot → Bool
lacks_values p = any_never (above p.stack p.tries) || any_never p.locals

module _ (c : Code) (t : Table) where
  -- V7
  abbrev pub suits : Spot → Goes → Bool
  suits p g = on_spot (spot_at t g.index)
      (λ q. eqn p.func q.func && of_part p g.index g.part q && known_marks g.tries q.tries &&
      each_holds t.classes g.stack q.stack && each_holds t.classes g.locals q.locals)

  abbrev pub all_suit : Spot → List Goes → Bool
  all_suit p [] = true
  all_suit p (g ∷ gs) = suits p g && all_suit p gs

  -- V8: the open Trys
  abbrev pub label_behind : ℕ → Option ℕ → Bool
  label_behind i None = false
  label_behind i (Some l) = nat_lt i l

  abbrev pub is_around : ℕ → ℕ → Bool
  is_around i j = nat_lt j i && label_behind i (try_label (slice_get c.ops j)) &&
      not (is_none (spot_at t j))

  abbrev pub all_around : ℕ → List ℕ → Bool
  all_around i [] = true
  all_around i (j ∷ js) = is_around i j && all_around i js

  -- the label of an open Try asks nothing of a local
  abbrev pub asks_nothing : Option Sort → Bool
  asks_nothing None = true
  asks_nothing (Some a) = same a s.none

  abbrev pub locals_at : Option ℕ → List Sort
  locals_at None = []
  locals_at (Some l) = spot_locals (spot_at t l) []

  abbrev pub is_quiet : List ℕ → ℕ → Bool
  is_quiet [] l = true
  is_quiet (j ∷ js) l = asks_nothing (at (locals_at (try_label (slice_get c.ops j))) l) &&
      is_quiet js l

  abbrev pub all_quiet : List ℕ → List ℕ → Bool
  all_quiet js [] = true
  all_quiet js (l ∷ ls) = is_quiet js l && all_quiet js ls

  -- a failure is taken here or in a frame below
  abbrev pub func_fails : Option FuncNote → Bool
  func_fails None = false
  func_fails (Some g) = g.may_fail

  abbrev pub may_fail : Spot → Bool
  may_fail p = not (is_nil p.tries) ||
      (is_none p.arm && is_none p.block && func_fails (slice_get t.functions p.func))

  abbrev pub func_waits : Option FuncNote → Bool
  func_waits None = false
  func_waits (Some g) = g.may_wait

  -- the task may wait here
  abbrev pub may_wait : Spot → Bool
  may_wait p = is_nil p.tries && is_none p.block && func_waits (slice_get t.functions p.func)

  -- the operations that can fail, but for calls
  abbrev pub can_fail : Op → Bool
  can_fail (o.Floor k) = true
  can_fail (o.Ceil k) = true
  can_fail o.Mod = true
  can_fail o.Lt = true
  can_fail o.Le = true
  can_fail o.Gt = true
  can_fail o.Ge = true
  can_fail o.Eq = true
  can_fail o.Ne = true
  can_fail o.Query = true
  can_fail o.At = true
  can_fail (o.Store slot m mode k) = nat_lt 0 m
  can_fail o.Fail = true
  can_fail op = false

  -- those that call, and so do what the function does
  abbrev pub is_call : Op → Bool
  is_call (o.Call f) = true
  is_call (o.Method m k) = true
  is_call op = false

  abbrev pub is_spawn : Op → Bool
  is_spawn (o.Spawn f) = true
  is_spawn (o.SpawnMethod m k) = true
  is_spawn op = false

  abbrev pub can_wait : Op → Bool
  can_wait (o.Sleep k) = true
  can_wait o.Forever = true
  can_wait o.AwaitTask = true
  can_wait o.AwaitEvent = true
  can_wait o.Signal = true
  can_wait (o.Spawn f) = true
  can_wait (o.SpawnMethod m k) = true
  can_wait (o.Group kind m k) = true
  can_wait (o.Branch l) = true
  can_wait o.ArmEnd = true
  can_wait op = false

  abbrev pub implies : Bool → Bool → Bool
  implies a b = not a || b

  abbrev pub try_defers : Option Spot → Option (List ℕ)
  try_defers None = None
  try_defers (Some q) = Some q.defers

  abbrev pub same_defers : Option (List ℕ) → List ℕ → Bool
  same_defers None ds = true
  same_defers (Some es) ds = same_numbers es ds

  abbrev pub level : List Mark → List ℕ → Bool
  level [] ds = false
  level (m ∷ ms) ds = same_defers (try_defers (spot_at t m.index)) ds

  abbrev pub try_count : Option Spot → ℕ
  try_count None = 0
  try_count (Some q) = q.under + length q.defers

  -- how many deferred blocks the innermost Try keeps
  abbrev pub keeps : List Mark → ℕ
  keeps [] = 0
  keeps (m ∷ ms) = try_count (spot_at t m.index)

  abbrev pub at_height : List Sort → List Mark → Bool
  at_height st [] = false
  at_height st (m ∷ ms) = eqn (length st) m.height

  -- the last part of V8: of single operations
  abbrev pub tries_fit : Spot → Op → Bool
  tries_fit p o.Commit = level p.tries p.defers
  tries_fit p o.Undo = level p.tries p.defers && at_height p.stack p.tries
  tries_fit p o.Return = is_nil p.tries
  tries_fit p o.ArmEnd = is_nil p.tries
  tries_fit p (o.Leave m) = not (ltn m (keeps p.tries)) && not (ltn m p.under) &&
      not (ltn (p.under + length p.defers) m)
  tries_fit p o.DeferEnd = is_nil p.tries && is_nil p.stack
  tries_fit p op = true

  -- each deferred block may be run wherever the frame is cancelled
  abbrev pub ends_with : List ℕ → List ℕ → Bool
  ends_with xs [] = is_nil xs
  ends_with xs (y ∷ ys) = cond (same_numbers xs (y ∷ ys)) true (ends_with xs ys)

  abbrev pub entry_fits : Spot → ℕ → ℕ → List Sort → Spot → Bool
  entry_fits p e count ls q =
      eqn p.func q.func && same_arm p.arm q.arm && same_number (Some e) q.block && is_nil q.stack &&
      is_nil q.tries && is_nil q.defers && eqn (p.under + count) q.under &&
      ends_with q.outer (map (λ (m : Mark). m.index) p.tries ++ p.outer) &&
      each_fit t.classes ls q.locals

  abbrev pub ready : Spot → List Sort → List ℕ → Bool
  ready p ls [] = true
  ready p ls (e ∷ ds) =
      on_spot (spot_at t e) (λ q. entry_fits p e (length ds) ls q) &&
      ready p (spot_locals (spot_at t e) ls) ds

  abbrev pub callee_is : Option FuncNote → (FuncNote → Bool) → Bool
  callee_is None test = false
  callee_is (Some g) test = test g

  abbrev pub tries_of : Spot → List ℕ
  tries_of p = map (λ (m : Mark). m.index) p.tries ++ p.outer

  abbrev pub keeps_8 : ℕ → Spot → Op → List ℕ → Option FuncNote → Bool
  keeps_8 i p op ws callee =
      all_around i (tries_of p) && tries_fit p op &&
      implies (can_fail op || (is_call op && callee_is callee (λ g. g.may_fail))) (may_fail p) &&
      all_quiet (tries_of p) ws && ready p p.locals p.defers

  -- V9
  abbrev pub are_arms : ℕ → ℕ → Bool
  are_arms j zero = true
  are_arms j (suc m) = not (is_none (label_of (slice_get c.ops j))) && are_arms (suc j) m

  abbrev pub parts_fit : ℕ → Spot → Op → Bool
  parts_fit i p (o.Group kind m k) = nat_lt 1 m && are_arms (suc i) m
  parts_fit i p (o.Arm l) = false
  parts_fit i p o.Return = is_none p.arm && is_none p.block && is_nil p.defers
  parts_fit i p o.ArmEnd = not (is_none p.arm) && is_none p.block && is_nil p.defers
  parts_fit i p o.DeferEnd = not (is_none p.block) && is_nil p.defers
  parts_fit i p op = true

  abbrev pub keeps_9 : ℕ → Spot → Op → Option FuncNote → Bool
  keeps_9 i p op callee =
      implies (can_wait op || (is_call op && callee_is callee (λ g. g.may_wait))) (may_wait p) &&
      not (is_spawn op && callee_is callee (λ g. g.may_fail)) && parts_fit i p op

  -- how many operands an operation pops
  abbrev pub func_pops : Option Func → ℕ
  func_pops None = 0
  func_pops (Some f) = f.params

  abbrev pub class_pops : Option Class → ℕ
  class_pops None = 0
  class_pops (Some k) = k.slots

  abbrev pub pops : Op → ℕ
  pops (o.Put l) = 1
  pops o.Drop = 1
  pops (o.Add k) = 2
  pops (o.Sub k) = 2
  pops (o.Mul k) = 2
  pops (o.Neg k) = 1
  pops (o.Floor k) = 2
  pops (o.Ceil k) = 2
  pops o.Mod = 2
  pops (o.Concat k) = 2
  pops (o.Join m k) = m
  pops o.Lt = 2
  pops o.Le = 2
  pops o.Gt = 2
  pops o.Ge = 2
  pops o.Eq = 2
  pops o.Ne = 2
  pops (o.Array m k) = m
  pops (o.Map m k) = m + m
  pops (o.Tuple m k) = m
  pops (o.Some k) = 1
  pops o.Query = 1
  pops (o.Item m) = 1
  pops o.At = 2
  pops o.Length = 1
  pops (o.New k) = 1
  pops (o.Load m) = 1
  pops (o.Store slot m mode k) = m + 2
  pops (o.Object class k) = class_pops (slice_get c.classes class)
  pops (o.Same l) = 2
  pops (o.Call f) = func_pops (slice_get c.functions f)
  pops (o.Method m k) = k + 1
  pops o.Return = 1
  pops (o.Each l) = 1
  pops (o.Range l) = 2
  pops (o.Append l k) = 1
  pops (o.Print k) = 1
  pops o.AwaitTask = 1
  pops o.AwaitEvent = 1
  pops o.Signal = 2
  pops (o.Spawn f) = func_pops (slice_get c.functions f)
  pops (o.SpawnMethod m k) = k + 1
  pops o.ArmEnd = 1
  pops op = 0

  -- the least of V4 to V9 that an operation breaks
  abbrev pub by_step : ℕ → Spot → Op → Stepped → Option ℕ
  by_step i p op (breaks rule) = Some rule
  by_step i p op (leads gs ws callee) =
      cond (all_suit p gs) (cond (keeps_8 i p op ws callee) (cond (keeps_9 i p op callee) None (Some 9)) (Some 8)) (Some 7)

  abbrev pub fault_of : ℕ → Spot → Op → Option ℕ
  fault_of i p op =
      cond (nat_lt (room p.stack p.tries) (pops op)) (Some 4)
      (by_step i p op (step c t p i op (above p.stack p.tries)))

  -- where an operand or a local has no value nothing is asked but that the Trys stand around the
  -- operation, and that the blocks are ready
  abbrev pub stands : ℕ → Spot → Bool
  stands i p = all_around i (tries_of p) && ready p p.locals p.defers

  abbrev pub fault_in : ℕ → Spot → Op → Option ℕ
  fault_in i p op =
      cond (lacks_values p) (cond (stands i p) None (Some 8)) (fault_of i p op)

  abbrev pub fault_here : ℕ → Option Spot → Op → Option ℕ
  fault_here i None op = None
  fault_here i (Some p) op = fault_in i p op

  -- V3: the function's first operation
  abbrev pub begins : ℕ → Func → FuncNote → Spot → Bool
  begins k f g q =
      eqn q.func k && is_none q.arm && is_nil q.stack && is_nil q.tries && is_none q.block && is_nil q.outer && eqn q.under 0 && is_nil
      q.defers && each_fit t.classes (g.params ++ nones (f.locals - f.params)) q.locals

  abbrev pub begins_at : ℕ → List Func → List FuncNote → ℕ → Bool
  begins_at k [] gs i = true
  begins_at k (f ∷ fs) [] i = false
  begins_at k (f ∷ fs) (g ∷ gs) i =
      cond (eqn f.entry i) (on_spot (spot_at t i) (λ q. begins k f g q)) true &&
      begins_at (suc k) fs gs i

  -- the least rule at an operation, and the first operation that breaks one
  abbrev pub fault_at : ℕ → Op → Option ℕ
  fault_at i op = cond (begins_at 0 c.functions t.functions i) (fault_here i (spot_at t i) op)
      (Some 3)

  abbrev pub or_later : ℕ → Option ℕ → Option (ℕ × ℕ) → Option (ℕ × ℕ)
  or_later i None later = later
  or_later i (Some rule) later = Some (rule, i)

  abbrev pub first_fault : ℕ → List Op → Option (ℕ × ℕ)
  first_fault i [] = None
  first_fault i (op ∷ ops) = or_later i (fault_at i op) (first_fault (suc i) ops)

  -- V2: of a class, by its number. No chain of its parents leads back to it.
  abbrev pub comes_back : ℕ → ℕ → Option ℕ → Bool
  comes_back zero k b = false
  comes_back (suc n) k None = false
  comes_back (suc n) k (Some b) =
      cond (eqn k b) true (comes_back n k (parent_in (slice_get t.classes b)))

  -- its slots begin with those of its parent
  abbrev pub prefix : List Sort → List Sort → Bool
  prefix [] ys = true
  prefix (a ∷ xs) [] = false
  prefix (a ∷ xs) (b ∷ ys) = same a b && prefix xs ys

  abbrev pub same_each : List Sort → List Sort → Bool
  same_each xs ys = eqn (length xs) (length ys) && prefix xs ys

  -- a method for another one of the parent
  abbrev pub overrides : Option FuncNote → Option FuncNote → Bool
  overrides None g = false
  overrides (Some f) None = true
  overrides (Some f) (Some g) = same_each (rest_of f.params) (rest_of g.params) &&
      fit t.classes f.result g.result && implies f.may_fail g.may_fail &&
      implies f.may_wait g.may_wait

  abbrev pub note_at : ℕ → Option FuncNote
  note_at j = slice_get t.functions j

  abbrev pub all_override : List ℕ → List ℕ → Bool
  all_override [] js = true
  all_override (i ∷ fs) [] = false
  all_override (i ∷ fs) (j ∷ gs) = overrides (note_at j) (note_at i) && all_override fs gs

  abbrev pub takes_object : ℕ → List Sort → Bool
  takes_object k [] = false
  takes_object k (a ∷ xs) = fit t.classes (s.obj k) a

  abbrev pub is_method : ℕ → Option FuncNote → Bool
  is_method k None = true
  is_method k (Some g) = takes_object k g.params

  abbrev pub are_methods : ℕ → List ℕ → Bool
  are_methods k [] = true
  are_methods k (j ∷ js) = is_method k (note_at j) && are_methods k js

  abbrev pub methods_at : Option Class → List ℕ
  methods_at None = []
  methods_at (Some q) = q.methods

  abbrev pub slots_in : Option ClassNote → List Sort
  slots_in None = []
  slots_in (Some x) = x.slots

  abbrev pub inherits : Option ℕ → ClassNote → Class → Bool
  inherits None x q = true
  inherits (Some b) x q =
      not (is_none (slice_get t.classes b)) && prefix (slots_in (slice_get t.classes b)) x.slots &&
      all_override (methods_at (slice_get c.classes b)) q.methods

  abbrev pub class_is : ℕ → ClassNote → Class → Bool
  class_is k x q = not (comes_back (length t.classes) k x.parent) && inherits x.parent x q &&
      are_methods k q.methods

  abbrev pub class_fault : ℕ → List ClassNote → List Class → Option ℕ
  class_fault k [] qs = None
  class_fault k (x ∷ xs) [] = Some k
  class_fault k (x ∷ xs) (q ∷ qs) = cond (class_is k x q) (class_fault (suc k) xs qs) (Some k)

  -- of a function, numbered behind the classes
  abbrev pub takes_inputs : List Sort → Bool
  takes_inputs [] = true
  takes_inputs (a ∷ xs) = fit t.classes (s.list s.int) a && takes_inputs xs

  abbrev pub func_is : ℕ → FuncNote → Bool
  func_is k g = not (g.may_fail && g.may_wait) &&
      cond (eqn k c.main) (not g.may_fail && takes_inputs g.params) true

  abbrev pub func_fault : ℕ → List FuncNote → Option ℕ
  func_fault k [] = None
  func_fault k (g ∷ gs) = cond (func_is k g) (func_fault (suc k) gs) (Some (length t.classes + k))

  abbrev pub or_else : Option ℕ → Option ℕ → Option ℕ
  or_else None b = b
  or_else (Some a) b = Some a

  abbrev pub table_fault : Option ℕ
  table_fault = or_else (class_fault 0 t.classes c.classes) (func_fault 0 t.functions)

  -- the rule that the notes break, and at which number
  abbrev pub after_tables : Option ℕ → Option (ℕ × ℕ)
  after_tables None = first_fault 0 c.ops
  after_tables (Some k) = Some (2, k)

  abbrev pub notes_fault : Option (ℕ × ℕ)
  notes_fault = after_tables table_fault
