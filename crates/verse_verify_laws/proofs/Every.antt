-- An operation that breaks no rule passes, and each live point is sound.
use Rattle.std.proofs.Common.{◌≡◌, ℕ, zero, suc, ◌+◌, length, List, [], ◌∷◌, Option, Some, None, Bool, true, false}
use Rattle.std.proofs.Common.{cond, refl, sym, subst, true≢false, inl, inr}
use Rattle.std.proofs.Common.{arith}
use Rattle.std.specs.Prelude.{nat_lt, slice_get}
use Rattle.std.proofs.lemmas.Option.{none-some}
use Rattle.std.proofs.lemmas.Bool.{and_parts, or_cases}
use Rattle.verse_code.specs.declared.operations.Op.{Op}
use Rattle.verse_code.specs.declared.operations.Op.TheVariants as o
use Rattle.verse_code.specs.declared.codes.Code.{Code}
use Rattle.verse_verify_kept.specs.Notes.{Point, point_at}
use Rattle.verse_sorts.specs.Sorts as s
use Rattle.verse_sorts.specs.Sorts.{Sort}
use Rattle.verse_verify_kept.specs.Rules.{Passes, Asked, asked, no_operand, no_local, AnyNever, first_never, later_never, Sound}
use Rattle.verse_verify_faults.specs.Spots.{Spot, Table, spot_at, room, above, even, cut}
use Rattle.verse_verify_faults.specs.Stepping.{Stepped, breaks, leads, step}
use Rattle.verse_verify_faults.specs.Faults.{by_step, fault_here, fault_at, first_fault, or_later, pops, begins_at}
use Rattle.verse_verify_faults.specs.Faults.{tries_of, all_around, ready, lacks_values, stands, fault_of}
use Rattle.verse_verify_faults.specs.Fitting.{is_never, any_never}
use Rattle.verse_verify_faults.proofs.Leading.{notes}
use Rattle.verse_verify_laws.proofs.Steps.{Fine, Led, led}
use Rattle.verse_verify_laws.proofs.Holding.{Spotted, spotted, all_ready, around_here}
use Rattle.verse_verify_laws.proofs.Simple as simple
use Rattle.verse_verify_laws.proofs.Values as values
use Rattle.verse_verify_laws.proofs.Writes as writes
use Rattle.verse_verify_laws.proofs.Marks as marks
use Rattle.verse_verify_laws.proofs.Calls as calls
use Rattle.verse_verify_laws.proofs.Tasks as tasks
use Rattle.verse_verify_laws.proofs.Blocks as blocks

cond_later : (b : Bool) (k : ℕ) (x : Option ℕ) → cond b (Some k) x ≡ None → x ≡ None
cond_later true k x e = elim (none-some _ (sym e)) [ ]
cond_later false k x e = e

cond_first : (b : Bool) (k : ℕ) (x : Option ℕ) → cond b x (Some k) ≡ None → (b ≡ true) × (x ≡ None)
cond_first true k x e = (refl, e)
cond_first false k x e = elim (none-some _ (sym e)) [ ]

never_is : (a : Sort) → is_never a ≡ true → a ≡ s.never
never_is s.never e = refl
never_is s.none e = absurd (true≢false (sym e))
never_is s.any e = absurd (true≢false (sym e))
never_is s.unit e = absurd (true≢false (sym e))
never_is s.nil e = absurd (true≢false (sym e))
never_is s.int e = absurd (true≢false (sym e))
never_is s.logic e = absurd (true≢false (sym e))
never_is s.char e = absurd (true≢false (sym e))
never_is s.span e = absurd (true≢false (sym e))
never_is (s.enum a) e = absurd (true≢false (sym e))
never_is (s.obj a) e = absurd (true≢false (sym e))
never_is (s.var a) e = absurd (true≢false (sym e))
never_is (s.event a) e = absurd (true≢false (sym e))
never_is (s.task a) e = absurd (true≢false (sym e))
never_is (s.opt a) e = absurd (true≢false (sym e))
never_is (s.list a) e = absurd (true≢false (sym e))
never_is (s.tuple a) e = absurd (true≢false (sym e))
never_is (s.map a b) e = absurd (true≢false (sym e))

never_among : (xs : List Sort) → any_never xs ≡ true → AnyNever xs
never_among [] e = absurd (true≢false (sym e))
never_among (x ∷ xs) e = elim (or_cases (is_never x) (any_never xs) e) [
  | inl h ↦ subst (λ y. AnyNever (y ∷ xs)) (sym (never_is x h)) first_never
  | inr h ↦ later_never (never_among xs h)
]

module _ (c : Code) (t : Table) (p : Spot) (i : ℕ) (ev : even (length p.stack) p.tries ≡ true) where
  passes : (op : Op) → Fine c t p i op (step c t p i op (above p.stack p.tries)) → Passes c (notes c t) i (cut p) op
  passes (o.Int a) f = simple.int_passes c t p i ev f
  passes o.Unit f = simple.unit_passes c t p i ev f
  passes o.False f = simple.false_passes c t p i ev f
  passes o.True f = simple.true_passes c t p i ev f
  passes (o.Char a) f = simple.char_passes c t p i ev f
  passes (o.Text a) f = simple.text_passes c t p i ev f
  passes (o.Enum a b) f = simple.enum_passes c t p i ev f
  passes (o.Get a) f = simple.get_passes c t p i ev f
  passes (o.Put a) f = writes.put_passes c t p i ev f
  passes o.Drop f = simple.drop_passes c t p i ev f
  passes (o.Add a) f = simple.add_passes c t p i ev f
  passes (o.Sub a) f = simple.sub_passes c t p i ev f
  passes (o.Mul a) f = simple.mul_passes c t p i ev f
  passes (o.Neg a) f = values.neg_passes c t p i ev f
  passes (o.Floor a) f = simple.floor_passes c t p i ev f
  passes (o.Ceil a) f = simple.ceil_passes c t p i ev f
  passes o.Mod f = simple.mod_passes c t p i ev f
  passes (o.Concat a) f = values.concat_passes c t p i ev f
  passes (o.Join a b) f = values.join_passes c t p i ev f
  passes o.Lt f = simple.lt_passes c t p i ev f
  passes o.Le f = simple.le_passes c t p i ev f
  passes o.Gt f = simple.gt_passes c t p i ev f
  passes o.Ge f = simple.ge_passes c t p i ev f
  passes o.Eq f = values.eq_passes c t p i ev f
  passes o.Ne f = values.ne_passes c t p i ev f
  passes (o.Array a b) f = values.array_passes c t p i ev f
  passes (o.Map a b) f = values.map_passes c t p i ev f
  passes (o.Tuple a b) f = values.tuple_passes c t p i ev f
  passes (o.Some a) f = values.some_passes c t p i ev f
  passes o.Query f = values.query_passes c t p i ev f
  passes (o.Item a) f = values.item_passes c t p i ev f
  passes o.At f = values.at_passes c t p i ev f
  passes o.Length f = values.length_passes c t p i ev f
  passes (o.New a) f = values.new_passes c t p i ev f
  passes (o.Load a) f = values.load_passes c t p i ev f
  passes (o.Store a b d e) f = values.store_passes c t p i ev f
  passes (o.Object a b) f = values.object_passes c t p i ev f
  passes (o.Event a) f = values.event_passes c t p i ev f
  passes (o.Jump a) f = values.jump_passes c t p i ev f
  passes (o.Same a) f = values.same_passes c t p i ev f
  passes (o.Again a) f = values.again_passes c t p i ev f
  passes (o.Try a) f = marks.try_passes c t p i ev f
  passes o.Commit f = marks.commit_passes c t p i ev f
  passes o.Undo f = marks.undo_passes c t p i ev f
  passes o.Fail f = values.fail_passes c t p i ev f
  passes (o.Call a) f = calls.call_passes c t p i ev f
  passes (o.Method a b) f = calls.method_passes c t p i ev f
  passes o.Return f = calls.return_passes c t p i ev f
  passes (o.Each a) f = writes.each_passes c t p i ev f
  passes (o.Range a) f = writes.range_passes c t p i ev f
  passes (o.Take a b d) f = writes.take_passes c t p i ev f
  passes (o.Append a b) f = writes.append_passes c t p i ev f
  passes (o.Print a) f = values.print_passes c t p i ev f
  passes (o.Sleep a) f = tasks.sleep_passes c t p i ev f
  passes o.Forever f = tasks.forever_passes c t p i ev f
  passes o.AwaitTask f = tasks.await_task_passes c t p i ev f
  passes o.AwaitEvent f = tasks.await_event_passes c t p i ev f
  passes o.Signal f = tasks.signal_passes c t p i ev f
  passes (o.Spawn a) f = calls.spawn_passes c t p i ev f
  passes (o.SpawnMethod a b) f = calls.spawn_method_passes c t p i ev f
  passes (o.Group a b d) f = tasks.group_passes c t p i ev f
  passes (o.Arm a) f = tasks.arm_passes c t p i ev f
  passes (o.Branch a) f = tasks.branch_passes c t p i ev f
  passes o.ArmEnd f = tasks.arm_end_passes c t p i ev f
  passes (o.Defer a) f = blocks.defer_passes c t p i ev f
  passes (o.Leave a) f = blocks.leave_passes c t p i ev f
  passes o.DeferEnd f = blocks.defer_end_passes c t p i ev f

  -- whatever the operation, its Trys stand around it and its blocks are ready
  record Lasts : Type 0 where
    pub around : all_around c t i (tries_of c t p) ≡ true
    pub ready : ready c t p p.locals p.defers ≡ true

  lasting : (op : Op) (q : Stepped) → by_step c t i p op q ≡ None → Lasts
  lasting op (breaks k) e = elim (none-some _ (sym e)) [ ]
  lasting op (leads gs ws callee) e = of_led (led c t p i op (record { none = e }))
    where
      of_led : Led c t p i op gs ws callee → Lasts
      of_led l = record { around = l.around; ready = l.ready }

module _ (c : Code) (t : Table) where
  -- no operation has a fault
  pub no_faults : (k : ℕ) (ops : List Op) → first_fault c t k ops ≡ None → (i : ℕ) (op : Op) → slice_get ops i ≡ Some
      op →
      fault_at c t (k + i) op ≡ None
  no_faults k [] e i op h = elim (none-some _ h) [ ]
  no_faults k (x ∷ ops) e i op h = at_index i (both (fault_at c t k x) refl e) h (λ i f h. no_faults (suc k) ops f i op
      h)
    where
      both : (m : Option ℕ) → fault_at c t k x ≡ m → or_later c t k m (first_fault c t (suc k) ops) ≡ None →
          (fault_at c t k x ≡ None) × (first_fault c t (suc k) ops ≡ None)
      both None f e = (f, e)
      both (Some r) f e = elim (none-some _ (sym e)) [ ]

      same : {x op : Op} → Some x ≡ Some op → x ≡ op
      same e = cc

      here : (k : ℕ) → k ≡ k + 0
      here k = omega arith

      next : (k i : ℕ) → suc k + i ≡ k + suc i
      next k i = omega arith

      at_index : (i : ℕ) → (fault_at c t k x ≡ None) × (first_fault c t (suc k) ops ≡ None) → slice_get (x ∷ ops) i ≡
          Some op →
          ((i : ℕ) → first_fault c t (suc k) ops ≡ None → slice_get ops i ≡ Some op → fault_at c t (suc k + i) op ≡
          None) →
          fault_at c t (k + i) op ≡ None
      at_index zero b h go =
          subst (λ j. fault_at c t j op ≡ None) (here k) (subst (λ op. fault_at c t k op ≡ None) (same h) b.0)
      at_index (suc i) b h go = subst (λ j. fault_at c t j op ≡ None) (next k i) (go i b.1 h)

  pub sound : (i : ℕ) (q : Point) (op : Op) → point_at (notes c t) i ≡ Some q → slice_get c.ops i ≡ Some op → fault_at
      c t i op ≡ None →
      Sound c (notes c t) i q
  sound i q op live is_op e = with_spot (spotted c t i q live)
    where
      -- with values for all operands and locals, and where one has none
      by_values : (p : Spot) (ev : even (length p.stack) p.tries ≡ true) (b : Bool) → lacks_values p ≡ b →
          cond b (cond (stands c t i p) None (Some 8)) (fault_of c t i p op) ≡ None →
          Lasts c t p i ev × Asked c (notes c t) i (cut p) op
      by_values p ev true h e =
          let s = and_parts (all_around c t i (tries_of c t p)) _ (cond_first (stands c t i p) 8 None e).0 in (
            record { around = s.0; ready = s.1 },
            elim (or_cases (any_never (above p.stack p.tries)) (any_never p.locals) h) [
              | inl d ↦ no_operand (never_among _ d)
              | inr d ↦ no_local (never_among _ d)
            ],
          )
      by_values p ev false h e =
          let none = cond_later (nat_lt (room p.stack p.tries) (pops c t op)) 4 (by_step c t i p op
          (step c t p i op (above p.stack p.tries))) e in (
            lasting c t p i ev op _ none,
            asked (passes c t p i ev op (record { none = none })),
          )

      with_spot : Spotted c t i q → Sound c (notes c t) i q
      with_spot x =
          let here = (cond_first (begins_at c t 0 c.functions t.functions i) 3 (fault_here c t i (spot_at t i) op) e).1
          in
          let at_spot = subst (λ m. fault_here c t i m op ≡ None) x.there here in
          let all = by_values x.spot x.even (lacks_values x.spot) refl at_spot in
          subst (Sound c (notes c t) i) x.is (record {
            around = around_here c t i x.spot all.0.around;
            ready = all_ready c t x.spot x.spot.locals x.spot.defers all.0.ready;
            op = op;
            is_op = is_op;
            passes = all.1;
          })
