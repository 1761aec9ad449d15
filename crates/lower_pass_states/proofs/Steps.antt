-- What an operation asks of a state: its operands lie above those of a state that stays.
use Rattle.std.proofs.Common.{◌≡◌, ℕ, suc, ◌+◌, length, List, [], ◌∷◌, ◌++◌, Option, Some, false, refl, sym, ◌∙◌, subst, ap}
use Rattle.std.proofs.Common.{ℤ, arith}
use Rattle.std.specs.Prelude.{slice_get}
use Rattle.verse_code.specs.declared.codes.Func.{Func}
use Rattle.verse_code.specs.declared.codes.Class.{Class}
use Rattle.verse_code.specs.declared.codes.Code.{Code}
use Rattle.verse_code.specs.declared.operations.Op.{Op}
use Rattle.verse_code.specs.declared.operations.Op.TheVariants as o
use Rattle.verse_sorts.specs.Sorts as s
use Rattle.verse_sorts.specs.Sorts.{Sort, IsKnown, Fits}
use Rattle.verse_sorts.specs.Typing.{at, AllFit, fit_no, fit_so}
use Rattle.verse_sorts.proofs.Fitting.{all_itself, all_fit_on}
use Rattle.verse_verify_kept.specs.Notes.{Notes, Point, ClassNote, FuncNote, parent_of}
use Rattle.verse_verify_kept.specs.Rules as r
use Rattle.verse_verify_kept.specs.Rules.{AnyNever, Leads, To, Passes, Asked, asked, no_operand, no_local, MayFail, in_try, in_function}
use Rattle.verse_verify_kept.specs.Rules.{MayWait, MayCall}
use Rattle.verse_verify_kept.specs.Rules.{Pops, pops_no, pops_so, Queried, Counted, Shown, AllIn, Slot, TriesFit}
use Rattle.lower_notes.specs.States.{State}
use Rattle.lower_pass_states.proofs.Points.{pt, Even, over, stack_over, tries_over}
use Rattle.lower_pass_states.proofs.Meeting.{LeadsTo, Meets, no_value, leads_to}

-- operands in the order in which they were pushed
abbrev pub turned : List Sort → List Sort → List Sort
turned [] done = done
turned (q ∷ qs) done = turned qs (q ∷ done)

pub turned_on : (qs done st : List Sort) → turned qs done ++ st ≡ turned qs (done ++ st)
turned_on [] done st = refl
turned_on (q ∷ qs) done st = turned_on qs (q ∷ done) st

pub turned_length : (qs : List Sort) → length (turned qs []) ≡ length qs
turned_length qs = omega (arith, many qs [])
  where
    many : (qs done : List Sort) → length (turned qs done) ≡ length qs + length done
    many [] done = omega arith
    many (q ∷ qs) done = omega (arith, many qs (q ∷ done))

append_on : {up : ℕ → Option ℕ} {xs ys : List Sort} (st : List Sort) → AllFit up xs ys → AllFit up (xs ++ st) (ys ++ st)
append_on {up} st fit_no = all_itself up st
append_on st (fit_so f h) = fit_so f (append_on st h)

module _ (code : Code) (notes : Notes) where
  abbrev pub Fit : Sort → Sort → Type 0
  Fit = Fits (parent_of notes)

  -- what was pushed last is popped first
  pops_list : (ds st xs : List Sort) → Pops (length ds) (ds ++ st) xs (turned ds xs) st
  pops_list [] st xs = pops_no
  pops_list (d ∷ ds) st xs = pops_so (pops_list ds st (d ∷ xs))

  turned_twice : (qs done xs : List Sort) → turned (turned qs done) xs ≡ turned done (qs ++ xs)
  turned_twice [] done xs = refl
  turned_twice (q ∷ qs) done xs = turned_twice qs (q ∷ done) xs

  turned_many : (qs done : List Sort) → length (turned qs done) ≡ length qs + length done
  turned_many [] done = omega arith
  turned_many (q ∷ qs) done = omega (arith, turned_many qs (q ∷ done))

  append_none : (qs : List Sort) → qs ++ [] ≡ qs
  append_none [] = refl
  append_none (q ∷ qs) = ap (λ zs. q ∷ zs) (append_none qs)

  pub pops_all : (qs st : List Sort) (n : ℕ) → n ≡ length qs → Pops n (turned qs [] ++ st) [] qs st
  pops_all qs st n e = subst (λ zs. Pops n (turned qs [] ++ st) [] zs st) (turned_twice qs [] [] ∙ append_none qs)
      (subst (λ k. Pops k (turned qs [] ++ st) [] (turned (turned qs []) []) st) (omega (arith, e, turned_many qs []))
      (pops_list (turned qs []) st []))

  module _ (y : State) (even : Even y) where
    -- where the state with other operands leads
    to_over : (qs rs ts : List Sort) {j : ℕ} → AllFit (parent_of notes) ts rs → LeadsTo code notes (over rs y) j →
        To code notes (pt (over qs y)) (ts ++ (pt y).stack) j
    to_over qs rs ts fit l = record {
      point = l.point;
      live = l.live;
      kin = record {
        func = l.kin.func;
        arm = l.kin.arm;
        block = l.kin.block;
        outer = l.kin.outer;
        under = l.kin.under;
      };
      locals = l.locals;
      stack = all_fit_on (parent_of notes) (append_on (pt y).stack fit)
          (subst (λ zs. AllFit (parent_of notes) zs l.point.stack) (stack_over y even rs) l.stack);
      tries = subst (λ zs. TriesFit code notes zs l.point.tries) (tries_over y even rs ∙ sym (tries_over y even qs)) l.tries;
      defers = l.defers;
    }

    pub goes_over : (qs rs ts : List Sort) {i j : ℕ} {op : Op} → Meets code notes (over rs y) j → AllFit (parent_of notes) ts rs →
        (To code notes (pt (over qs y)) (ts ++ (pt y).stack) j → Passes code notes i (pt (over qs y)) op) →
        Asked code notes i (pt (over qs y)) op
    goes_over qs rs ts (no_value h) fit f = no_local h
    goes_over qs rs ts (leads_to l) fit f = asked (f (to_over qs rs ts fit l))

    -- one value in the place of the operands
    gives_one : (qs : List Sort) {a q : Sort} {i j : ℕ} {op : Op} → Meets code notes (over (q ∷ []) y) j → Fit a q →
        (To code notes (pt (over qs y)) (a ∷ (pt y).stack) j → Passes code notes i (pt (over qs y)) op) →
        Asked code notes i (pt (over qs y)) op
    gives_one qs m fit f = goes_over qs (_ ∷ []) (_ ∷ []) m (fit_so fit fit_no) f

    -- an operand that has no value
    pub never_over : (qs : List Sort) {i : ℕ} {op : Op} → AnyNever (qs ++ (pt y).stack) → Asked code notes i (pt (over qs y)) op
    never_over qs h = no_operand (subst AnyNever (sym (stack_over y even qs)) h)

    pub fails_over : (qs : List Sort) → MayFail code notes (pt y) → MayFail code notes (pt (over qs y))
    fails_over qs (in_try e) = in_try (tries_over y even qs ∙ e)
    fails_over qs (in_function a b f e) = in_function a b f e

    pub waits_over : (qs : List Sort) → MayWait code notes (pt y) → MayWait code notes (pt (over qs y))
    waits_over qs h = record {
      tries = tries_over y even qs ∙ h.tries;
      block = h.block;
      func = h.func;
      is_func = h.is_func;
      holds =
          h.holds;
    }

    module _ {i : ℕ} {q : Sort} (m : Meets code notes (over (q ∷ []) y) (suc i)) where
      -- ---- constants

      pub int_asked : (z : ℤ) → Fit s.int q → Asked code notes i (pt y) (o.Int z)
      int_asked z f = gives_one [] m f r.of_int

      pub char_asked : (z : ℕ) → Fit s.char q → Asked code notes i (pt y) (o.Char z)
      char_asked z f = gives_one [] m f r.of_char

      pub text_asked : (z : ℕ) → Fit (s.list s.char) q → Asked code notes i (pt y) (o.Text z)
      text_asked z f = gives_one [] m f r.of_text

      pub enum_asked : (e z : ℕ) → Fit (s.enum e) q → Asked code notes i (pt y) (o.Enum e z)
      enum_asked e z f = gives_one [] m f r.of_enum

      pub true_asked : Fit s.logic q → Asked code notes i (pt y) o.True
      true_asked f = gives_one [] m f r.of_true

      pub false_asked : Fit s.nil q → Asked code notes i (pt y) o.False
      false_asked f = gives_one [] m f r.of_false

      pub unit_asked : Fit s.unit q → Asked code notes i (pt y) o.Unit
      unit_asked f = gives_one [] m f r.of_unit

      pub get_asked : (l : ℕ) {a : Sort} → at y.locals l ≡ Some a → IsKnown a → Fit a q → Asked code notes i (pt y) (o.Get l)
      get_asked l e h f = gives_one [] m f (r.of_get e h)

      pub event_asked : (z : ℕ) (u : Sort) → Fit (s.event u) q → Asked code notes i (pt y) (o.Event z)
      event_asked z u f = gives_one [] m f r.of_event

      -- ---- operators

      abbrev two : Sort → Sort → Point
      two a b = pt (over (b ∷ a ∷ []) y)

      two_is : (a b : Sort) → (two a b).stack ≡ b ∷ a ∷ (pt y).stack
      two_is a b = stack_over y even (b ∷ a ∷ [])

      abbrev one : Sort → Point
      one a = pt (over (a ∷ []) y)

      one_is : (a : Sort) → (one a).stack ≡ a ∷ (pt y).stack
      one_is a = stack_over y even (a ∷ [])

      pub add_asked : (z : ℕ) {a b : Sort} → Fit a s.int → Fit b s.int → Fit s.int q → Asked code notes i (two a b) (o.Add z)
      add_asked z {a} {b} f g h = gives_one (b ∷ a ∷ []) m h (r.of_add (two_is a b) f g)

      pub sub_asked : (z : ℕ) {a b : Sort} → Fit a s.int → Fit b s.int → Fit s.int q → Asked code notes i (two a b) (o.Sub z)
      sub_asked z {a} {b} f g h = gives_one (b ∷ a ∷ []) m h (r.of_sub (two_is a b) f g)

      pub mul_asked : (z : ℕ) {a b : Sort} → Fit a s.int → Fit b s.int → Fit s.int q → Asked code notes i (two a b) (o.Mul z)
      mul_asked z {a} {b} f g h = gives_one (b ∷ a ∷ []) m h (r.of_mul (two_is a b) f g)

      pub neg_asked : (z : ℕ) {a : Sort} → Fit a s.int → Fit s.int q → Asked code notes i (one a) (o.Neg z)
      neg_asked z {a} f h = gives_one (a ∷ []) m h (r.of_neg (one_is a) f)

      pub concat_asked : (z : ℕ) {a b u : Sort} → Fit a (s.list u) → Fit b (s.list u) → Fit (s.list u) q →
          Asked code notes i (two a b) (o.Concat z)
      concat_asked z {a} {b} f g h = gives_one (b ∷ a ∷ []) m h (r.of_concat (two_is a b) f g)

      module _ (fails : MayFail code notes (pt y)) where
        two_fail : (a b : Sort) → MayFail code notes (two a b)
        two_fail a b = fails_over (b ∷ a ∷ []) fails

        pub floor_asked : (z : ℕ) {a b : Sort} → Fit a s.int → Fit b s.int → Fit s.int q → Asked code notes i (two a b) (o.Floor z)
        floor_asked z {a} {b} f g h = gives_one (b ∷ a ∷ []) m h (r.of_floor (two_is a b) f g (two_fail a b))

        pub ceil_asked : (z : ℕ) {a b : Sort} → Fit a s.int → Fit b s.int → Fit s.int q → Asked code notes i (two a b) (o.Ceil z)
        ceil_asked z {a} {b} f g h = gives_one (b ∷ a ∷ []) m h (r.of_ceil (two_is a b) f g (two_fail a b))

        pub mod_asked : {a b : Sort} → Fit a s.int → Fit b s.int → Fit s.int q → Asked code notes i (two a b) o.Mod
        mod_asked {a} {b} f g h = gives_one (b ∷ a ∷ []) m h (r.of_mod (two_is a b) f g (two_fail a b))

        pub lt_asked : {a b : Sort} → Fit a s.int → Fit b s.int → Fit s.int q → Asked code notes i (two a b) o.Lt
        lt_asked {a} {b} f g h = gives_one (b ∷ a ∷ []) m h (r.of_lt (two_is a b) f g (two_fail a b))

        pub le_asked : {a b : Sort} → Fit a s.int → Fit b s.int → Fit s.int q → Asked code notes i (two a b) o.Le
        le_asked {a} {b} f g h = gives_one (b ∷ a ∷ []) m h (r.of_le (two_is a b) f g (two_fail a b))

        pub gt_asked : {a b : Sort} → Fit a s.int → Fit b s.int → Fit s.int q → Asked code notes i (two a b) o.Gt
        gt_asked {a} {b} f g h = gives_one (b ∷ a ∷ []) m h (r.of_gt (two_is a b) f g (two_fail a b))

        pub ge_asked : {a b : Sort} → Fit a s.int → Fit b s.int → Fit s.int q → Asked code notes i (two a b) o.Ge
        ge_asked {a} {b} f g h = gives_one (b ∷ a ∷ []) m h (r.of_ge (two_is a b) f g (two_fail a b))

        pub eq_asked : {a : Sort} (b : Sort) → Fit a q → Asked code notes i (two a b) o.Eq
        eq_asked {a} b h = gives_one (b ∷ a ∷ []) m h (r.of_eq (two_is a b) (two_fail a b))

        pub ne_asked : {a : Sort} (b : Sort) → Fit a q → Asked code notes i (two a b) o.Ne
        ne_asked {a} b h = gives_one (b ∷ a ∷ []) m h (r.of_ne (two_is a b) (two_fail a b))

        pub query_asked : {a u : Sort} → Queried code notes a u → Fit u q → Asked code notes i (one a) o.Query
        query_asked {a} x h = gives_one (a ∷ []) m h (r.of_query (one_is a) x (fails_over (a ∷ []) fails))

        pub at_asked : {a b u : Sort} → r.Indexed code notes a b u → Fit u q → Asked code notes i (two a b) o.At
        at_asked {a} {b} x h = gives_one (b ∷ a ∷ []) m h (r.of_at (two_is a b) x (two_fail a b))

      -- ---- members and values that are made

      pub some_asked : (z : ℕ) {a : Sort} → Fit (s.opt a) q → Asked code notes i (one a) (o.Some z)
      some_asked z {a} h = gives_one (a ∷ []) m h (r.of_some (one_is a))

      pub length_asked : {a : Sort} → Counted code notes a → Fit s.int q → Asked code notes i (one a) o.Length
      length_asked {a} x h = gives_one (a ∷ []) m h (r.of_length (one_is a) x)

      pub new_asked : (z : ℕ) {a u : Sort} → Fit a u → Fit (s.var u) q → Asked code notes i (one a) (o.New z)
      new_asked z {a} x h = gives_one (a ∷ []) m h (r.of_new (one_is a) x)

      pub load_asked : (k : ℕ) {a u : Sort} → Slot code notes a k u → Fit u q → Asked code notes i (one a) (o.Load k)
      load_asked k {a} x h = gives_one (a ∷ []) m h (r.of_load (one_is a) x)

      pub item_asked : (k : ℕ) (xs : s.Sorts) {u : Sort} → r.at_sort xs k ≡ Some u → Fit u q →
          Asked code notes i (one (s.tuple xs)) (o.Item k)
      item_asked k xs e h = gives_one (s.tuple xs ∷ []) m h (r.of_item (one_is (s.tuple xs)) e)

      pub no_item_asked : (k : ℕ) → Asked code notes i (one s.never) (o.Item k)
      no_item_asked k = never_over (s.never ∷ []) r.first_never

      pub print_asked : (z : ℕ) {a : Sort} → Fit a (s.list s.char) → Fit s.unit q → Asked code notes i (one a) (o.Print z)
      print_asked z {a} f h = gives_one (a ∷ []) m h (r.of_print (one_is a) f)

      -- ---- several operands, in the order in which they were pushed

      abbrev many : List Sort → Point
      many qs = pt (over (turned qs []) y)

      many_are : (qs : List Sort) (n : ℕ) → n ≡ length qs → Pops n (many qs).stack [] qs (pt y).stack
      many_are qs n e = subst (λ st. Pops n st [] qs (pt y).stack) (sym (stack_over y even (turned qs []))) (pops_all qs (pt y).stack n e)

      pub array_asked : (n z : ℕ) {u : Sort} (qs : List Sort) → n ≡ length qs → AllIn code notes u qs → Fit (s.list u) q →
          Asked code notes i (many qs) (o.Array n z)
      array_asked n z qs e f h = gives_one (turned qs []) m h (r.of_array (many_are qs n e) f)

      pub map_asked : (n z : ℕ) {a u : Sort} (qs : List Sort) → n + n ≡ length qs → r.Keyed code notes a u qs → Fit (s.map a u) q →
          Asked code notes i (many qs) (o.Map n z)
      map_asked n z qs e f h = gives_one (turned qs []) m h (r.of_map (many_are qs (n + n) e) f)

      pub tuple_asked : (n z : ℕ) (qs : List Sort) → n ≡ length qs → Fit (s.tuple (r.sorts qs)) q →
          Asked code notes i (many qs) (o.Tuple n z)
      tuple_asked n z qs e h = gives_one (turned qs []) m h (r.of_tuple (many_are qs n e))

      pub join_asked : (n z : ℕ) (qs : List Sort) → n ≡ length qs → Shown code notes qs → Fit (s.list s.char) q →
          Asked code notes i (many qs) (o.Join n z)
      join_asked n z qs e f h = gives_one (turned qs []) m h (r.of_join (many_are qs n e) f)

      pub object_asked : (k z : ℕ) {c : Class} {x : ClassNote} (qs : List Sort) → slice_get code.classes k ≡ Some c →
          slice_get notes.classes k ≡ Some x → c.slots ≡ length qs → AllFit (parent_of notes) qs x.slots → Fit (s.obj k) q →
          Asked code notes i (many qs) (o.Object k z)
      object_asked k z {c} qs a b e f h = gives_one (turned qs []) m h (r.of_object a b (many_are qs c.slots e) f)

      calls_over : (qs : List Sort) (g : FuncNote) → MayCall code notes (pt y) g → MayCall code notes (pt (over qs y)) g
      calls_over qs g h = record { fails = λ e. fails_over qs (h.fails e); waits = λ e. waits_over qs (h.waits e) }

      pub call_asked : (k : ℕ) {f : Func} {g : FuncNote} (qs : List Sort) → slice_get code.functions k ≡ Some f →
          slice_get notes.functions k ≡ Some g → f.params ≡ length qs → AllFit (parent_of notes) qs g.params →
          MayCall code notes (pt y) g → Fit g.result q → Asked code notes i (many qs) (o.Call k)
      call_asked k {f} {g} qs a b e x w h = gives_one (turned qs []) m h
          (r.of_call a b (many_are qs f.params e) x (calls_over (turned qs []) g w))

      -- the object lies beneath the arguments
      abbrev with_object : Sort → List Sort → Point
      with_object a qs = pt (over (turned qs (a ∷ [])) y)

      beneath_are : (a : Sort) (qs : List Sort) (n : ℕ) → n ≡ length qs → Pops n (with_object a qs).stack [] qs (a ∷ (pt y).stack)
      beneath_are a qs n e = subst (λ st. Pops n st [] qs (a ∷ (pt y).stack)) (sym (stack_over y even (turned qs (a ∷ [])) ∙
          turned_on qs (a ∷ []) (pt y).stack ∙ sym (turned_on qs [] (a ∷ (pt y).stack)))) (pops_all qs (a ∷ (pt y).stack) n e)

      pub method_asked : (k n : ℕ) {a : Sort} {g : FuncNote} (qs : List Sort) → n ≡ length qs → r.Method code notes a k g →
          AllFit (parent_of notes) (a ∷ qs) g.params → MayCall code notes (pt y) g → Fit g.result q →
          Asked code notes i (with_object a qs) (o.Method k n)
      method_asked k n {a} {g} qs e x f w h = gives_one (turned qs (a ∷ [])) m h
          (r.of_method (beneath_are a qs n e) x f (calls_over (turned qs (a ∷ [])) g w))

      -- ---- tasks

      module _ (waits : MayWait code notes (pt y)) where
        pub sleep_asked : (z : ℕ) → Fit s.unit q → Asked code notes i (pt y) (o.Sleep z)
        sleep_asked z h = gives_one [] m h (r.of_sleep waits)

        pub forever_asked : Fit s.unit q → Asked code notes i (pt y) o.Forever
        forever_asked h = gives_one [] m h (r.of_forever waits)

        pub await_task_asked : {u : Sort} → Fit u q → Asked code notes i (one (s.task u)) o.AwaitTask
        await_task_asked {u} h = gives_one (s.task u ∷ []) m h (r.of_await_task (waits_over (s.task u ∷ []) waits) (one_is (s.task u)))

        pub await_event_asked : {u : Sort} → Fit u q → Asked code notes i (one (s.event u)) o.AwaitEvent
        await_event_asked {u} h = gives_one (s.event u ∷ []) m h (r.of_await_event (waits_over (s.event u ∷ []) waits) (one_is (s.event u)))

        pub signal_asked : {a u : Sort} → Fit a u → Fit s.unit q → Asked code notes i (two (s.event u) a) o.Signal
        signal_asked {a} {u} f h = gives_one (a ∷ s.event u ∷ []) m h
            (r.of_signal (waits_over (a ∷ s.event u ∷ []) waits) (two_is (s.event u) a) f)

        pub spawn_asked : (k : ℕ) {f : Func} {g : FuncNote} (qs : List Sort) → slice_get code.functions k ≡ Some f →
            slice_get notes.functions k ≡ Some g → f.params ≡ length qs → AllFit (parent_of notes) qs g.params →
            g.may_fail ≡ false → Fit (s.task g.result) q → Asked code notes i (many qs) (o.Spawn k)
        spawn_asked k {f} {g} qs a b e x d h = gives_one (turned qs []) m h
            (r.of_spawn (waits_over (turned qs []) waits) a b (many_are qs f.params e) x d)

        pub spawn_method_asked : (k n : ℕ) {a : Sort} {g : FuncNote} (qs : List Sort) → n ≡ length qs →
            r.Method code notes a k g → AllFit (parent_of notes) (a ∷ qs) g.params → g.may_fail ≡ false → Fit (s.task g.result) q →
            Asked code notes i (with_object a qs) (o.SpawnMethod k n)
        spawn_method_asked k n {a} {g} qs e x f d h = gives_one (turned qs (a ∷ [])) m h
            (r.of_spawn_method (waits_over (turned qs (a ∷ [])) waits) (beneath_are a qs n e) x f d)

    -- the operand on top falls away
    pub drop_asked : {i : ℕ} (a : Sort) → Meets code notes y (suc i) → Asked code notes i (pt (over (a ∷ []) y)) o.Drop
    drop_asked {i} a m = goes_over (a ∷ []) [] [] m fit_no (r.of_drop (stack_over y even (a ∷ [])))
