-- An operation that passes breaks no rule, and so does none.
use Rattle.std.proofs.Common.{◌≡◌, ℕ, zero, suc, ◌+◌, ◌-◌, ◌≤◌, length, take, List, [], ◌∷◌, Option, Some, None, Bool, true, false}
use Rattle.std.proofs.Common.{cond, refl, sym, subst, ap, arith, ◌∙◌}
use Rattle.std.specs.Prelude.{◌||◌, nat_lt, slice_get}
use Rattle.std.proofs.lemmas.Bool.{and_from, or_right, ltb-true}
use Rattle.std.proofs.lemmas.Option.{same_Some}
use Rattle.verse_code.specs.declared.operations.Op.{Op}
use Rattle.verse_code.specs.declared.operations.Op.TheVariants as o
use Rattle.verse_code.specs.declared.codes.Func.{Func}
use Rattle.verse_code.specs.declared.codes.Class.{Class}
use Rattle.verse_code.specs.declared.codes.Code.{Code}
use Rattle.verse_code_machine_parents.proofs.Lists.{no_both}
use Rattle.verse_sorts.specs.Sorts.{Sort}
use Rattle.verse_verify_kept.specs.Notes.{Notes}
use Rattle.verse_verify_kept.specs.Rules as r
use Rattle.verse_verify_kept.specs.Rules.{Passes, Asked, asked, no_operand, no_local, AnyNever, first_never, later_never, Sound}
use Rattle.verse_verify_kept.specs.Rules.{Pops, pops_no, pops_so}
use Rattle.verse_verify_faults.specs.Fitting.{is_never, any_never}
use Rattle.verse_verify_faults.specs.Spots.{Mark, Spot, Table, spot_at, room, above, cut}
use Rattle.verse_verify_faults.specs.Stepping as step
use Rattle.verse_verify_faults.specs.Faults.{fault_of, fault_in, pops, class_pops, func_pops, lacks_values, stands}
use Rattle.verse_verify_faults.proofs.Leading.{notes}
use Rattle.verse_verify_laws.proofs.Steps.{Fine}
use Rattle.verse_verify_clean.specs.Laws.{Told}
use Rattle.verse_verify_clean.proofs.Steps.{Here}
use Rattle.verse_verify_clean.proofs.Holding.{around_here, ready_back}
use Rattle.verse_verify_clean.proofs.Values as values
use Rattle.verse_verify_clean.proofs.Parts as parts
use Rattle.verse_verify_clean.proofs.Writes as writes
use Rattle.verse_verify_clean.proofs.Calls as calls
use Rattle.verse_verify_clean.proofs.Tasks as tasks
use Rattle.verse_verify_clean.proofs.Marks as marks
use Rattle.verse_verify_clean.proofs.Blocks as blocks

never_back : {xs : List Sort} → AnyNever xs → any_never xs ≡ true
never_back first_never = refl
never_back (later_never {a = a} {xs = xs} n) = or_right (is_never a) (any_never xs) (never_back n)

pops_count : {n : ℕ} {st xs ys rest : List Sort} → Pops n st xs ys rest → length st ≡ n + length rest
pops_count (pops_no {st = st}) = none (length st)
  where
    none : (n : ℕ) → n ≡ 0 + n
    none n = omega arith
pops_count (pops_so {n = n} {st = st} {rest = rest} q) = later n (length st) (length rest) (pops_count q)
  where
    later : (n k l : ℕ) → k ≡ n + l → suc k ≡ suc n + l
    later n k l e = omega (arith, e)

-- so many operands are there
no_less : (n : ℕ) → 0 ≤ n
no_less n = omega arith

one_there : {st rest : List Sort} {a : Sort} → st ≡ a ∷ rest → 1 ≤ length st
one_there {rest = rest} e = subst (λ st. 1 ≤ length st) (sym e) (least (length rest))
  where
    least : (n : ℕ) → 1 ≤ suc n
    least n = omega arith

two_there : {st rest : List Sort} {a b : Sort} → st ≡ b ∷ a ∷ rest → 2 ≤ length st
two_there {rest = rest} e = subst (λ st. 2 ≤ length st) (sym e) (least (length rest))
  where
    least : (n : ℕ) → 2 ≤ suc (suc n)
    least n = omega arith

many_there : {n : ℕ} {st xs ys rest : List Sort} → Pops n st xs ys rest → n ≤ length st
many_there {n = n} {st = st} {rest = rest} q = least n (length st) (length rest) (pops_count q)
  where
    least : (n k l : ℕ) → k ≡ n + l → n ≤ k
    least n k l e = omega (arith, e)

one_more : {n : ℕ} {st xs ys rest : List Sort} {a : Sort} → Pops n st xs ys (a ∷ rest) → n + 1 ≤ length st
one_more {n = n} {st = st} {rest = rest} q = least n (length st) (length rest) (pops_count q)
  where
    least : (n k l : ℕ) → k ≡ n + suc l → n + 1 ≤ k
    least n k l e = omega (arith, e)

two_more : {n : ℕ} {st us xs ys rest : List Sort} {a v : Sort} → st ≡ v ∷ us → Pops n us xs ys (a ∷ rest) → n + 2 ≤ length st
two_more {n = n} {us = us} {rest = rest} e q =
    subst (λ st. n + 2 ≤ length st) (sym e) (least n (length us) (length rest) (pops_count q))
  where
    least : (n k l : ℕ) → k ≡ n + suc l → n + 2 ≤ suc k
    least n k l e = omega (arith, e)

length_take : {A : Type 0} (k : ℕ) (xs : List A) → k ≤ length xs → length (take k xs) ≡ k
length_take zero [] l = refl
length_take zero (x ∷ xs) l = refl
length_take (suc k) [] l = elim (wrong k l) [ ]
  where
    wrong : (k : ℕ) → suc k ≤ 0 → ⊥
    wrong k l = omega (arith, l)
length_take (suc k) (x ∷ xs) l = ap suc (length_take k xs (lower k (length xs) l))
  where
    lower : (k n : ℕ) → suc k ≤ suc n → k ≤ n
    lower k n l = omega (arith, l)

room_is : (st : List Sort) (ms : List Mark) → length (above st ms) ≡ room st ms
room_is st ms = length_take (room st ms) st (within ms)
  where
    same : (n : ℕ) → n ≤ n
    same n = omega arith

    less : (n h : ℕ) → n - h ≤ n
    less n h = omega arith

    within : (ms : List Mark) → room st ms ≤ length st
    within [] = same (length st)
    within (m ∷ ms) = less (length st) m.height

module _ (c : Code) (t : Table) (p : Spot) (i : ℕ) where
  abbrev N : Notes
  N = notes c t

  abbrev st : List Sort
  st = above p.stack p.tries

  enough : {op : Op} → Passes c N i (cut p) op → pops c t op ≤ length st
  enough (r.of_put e h q l) = one_there e
  enough (r.of_drop e l) = one_there e
  enough (r.of_add e f g l) = two_there e
  enough (r.of_sub e f g l) = two_there e
  enough (r.of_mul e f g l) = two_there e
  enough (r.of_neg e f l) = one_there e
  enough (r.of_floor e f g m l) = two_there e
  enough (r.of_ceil e f g m l) = two_there e
  enough (r.of_mod e f g m l) = two_there e
  enough (r.of_concat e f g l) = two_there e
  enough (r.of_join ps h l) = many_there ps
  enough (r.of_lt e f g m l) = two_there e
  enough (r.of_le e f g m l) = two_there e
  enough (r.of_gt e f g m l) = two_there e
  enough (r.of_ge e f g m l) = two_there e
  enough (r.of_eq e m l) = two_there e
  enough (r.of_ne e m l) = two_there e
  enough (r.of_array ps h l) = many_there ps
  enough (r.of_map ps h l) = many_there ps
  enough (r.of_tuple ps l) = many_there ps
  enough (r.of_some e l) = one_there e
  enough (r.of_query e q m l) = one_there e
  enough (r.of_item e h l) = one_there e
  enough (r.of_no_item e l) = one_there e
  enough (r.of_at e h m l) = two_there e
  enough (r.of_length e h l) = one_there e
  enough (r.of_new e f l) = one_there e
  enough (r.of_load e h l) = one_there e
  enough (r.of_store e ps h q w f l) = two_more e ps
  enough (r.of_object e h ps f l) = subst (λ (m : Option Class). class_pops c t m ≤ length st) (sym e) (many_there ps)
  enough (r.of_same e l k) = two_there e
  enough (r.of_call e h ps f m l) = subst (λ (m : Option Func). func_pops c t m ≤ length st) (sym e) (many_there ps)
  enough (r.of_method ps h f m l) = one_more ps
  enough (r.of_no_method ps l) = one_more ps
  enough (r.of_return e a b d g h f) = one_there e
  enough (r.of_each e d h g q w l) = one_there e
  enough (r.of_range e f d h g q w l) = two_there e
  enough (r.of_append e h f g w q l) = one_there e
  enough (r.of_print e f l) = one_there e
  enough (r.of_await_task w e l) = one_there e
  enough (r.of_await_event w e l) = one_there e
  enough (r.of_no_task w e l) = one_there e
  enough (r.of_no_event w e l) = one_there e
  enough (r.of_no_signal w e l) = two_there e
  enough (r.of_signal w e f l) = two_there e
  enough (r.of_spawn w e h ps f m l) = subst (λ (m : Option Func). func_pops c t m ≤ length st) (sym e) (many_there ps)
  enough (r.of_spawn_method w ps h f m l) = one_more ps
  enough (r.of_no_spawn_method w ps l) = one_more ps
  enough (r.of_arm_end e a b d g f) = one_there e
  enough (r.of_int l) = no_less _
  enough (r.of_unit l) = no_less _
  enough (r.of_false l) = no_less _
  enough (r.of_true l) = no_less _
  enough (r.of_char l) = no_less _
  enough (r.of_text l) = no_less _
  enough (r.of_enum l) = no_less _
  enough (r.of_get e h l) = no_less _
  enough (r.of_event l) = no_less _
  enough (r.of_jump l) = no_less _
  enough (r.of_again l) = no_less _
  enough (r.of_try l k) = no_less _
  enough (r.of_commit e h l) = no_less _
  enough (r.of_undo e n h f l) = no_less _
  enough (r.of_fail m) = no_less _
  enough (r.of_take a b d e f g h q w x y l k) = no_less _
  enough (r.of_sleep w l) = no_less _
  enough (r.of_forever w l) = no_less _
  enough (r.of_group w a b g l) = no_less _
  enough (r.of_branch w a l) = no_less _
  enough (r.of_defer n o f l) = no_less _
  enough (r.of_leave k l) = no_less _
  enough (r.of_defer_end b a d e l f) = no_less _

  module _ (here : Here c t p i) where
    back : (op : Op) → any_never p.locals ≡ false → Passes c N i (cut p) op →
        Fine c t p i op (step.step c t p i op st)
    back (o.Int a) full f = values.int_back c t p i here f
    back o.Unit full f = values.unit_back c t p i here f
    back o.False full f = values.false_back c t p i here f
    back o.True full f = values.true_back c t p i here f
    back (o.Char a) full f = values.char_back c t p i here f
    back (o.Text a) full f = values.text_back c t p i here f
    back (o.Enum a b) full f = values.enum_back c t p i here f
    back (o.Get a) full f = values.get_back c t p i here f
    back (o.Put a) full f = writes.put_back c t p i here f
    back o.Drop full f = values.drop_back c t p i here f
    back (o.Add a) full f = values.add_back c t p i here f
    back (o.Sub a) full f = values.sub_back c t p i here f
    back (o.Mul a) full f = values.mul_back c t p i here f
    back (o.Neg a) full f = values.neg_back c t p i here f
    back (o.Floor a) full f = values.floor_back c t p i here f
    back (o.Ceil a) full f = values.ceil_back c t p i here f
    back o.Mod full f = values.mod_back c t p i here f
    back (o.Concat a) full f = parts.concat_back c t p i here f
    back (o.Join a b) full f = parts.join_back c t p i here f
    back o.Lt full f = values.lt_back c t p i here f
    back o.Le full f = values.le_back c t p i here f
    back o.Gt full f = values.gt_back c t p i here f
    back o.Ge full f = values.ge_back c t p i here f
    back o.Eq full f = values.eq_back c t p i here f
    back o.Ne full f = values.ne_back c t p i here f
    back (o.Array a b) full f = parts.array_back c t p i here f
    back (o.Map a b) full f = parts.map_back c t p i here f
    back (o.Tuple a b) full f = parts.tuple_back c t p i here f
    back (o.Some a) full f = values.some_back c t p i here f
    back o.Query full f = values.query_back c t p i here f
    back (o.Item a) full f = parts.item_back c t p i here f
    back o.At full f = parts.at_back c t p i here f
    back o.Length full f = values.length_back c t p i here f
    back (o.New a) full f = parts.new_back c t p i here f
    back (o.Load a) full f = parts.load_back c t p i here f
    back (o.Store a b d e) full f = parts.store_back c t p i here f
    back (o.Object a b) full f = parts.object_back c t p i here f
    back (o.Event a) full f = parts.event_back c t p i here f
    back (o.Jump a) full f = values.jump_back c t p i here f
    back (o.Same a) full f = values.same_back c t p i here f
    back (o.Again a) full f = values.again_back c t p i here f
    back (o.Try a) full f = marks.try_back c t p i here f
    back o.Commit full f = marks.commit_back c t p i here f
    back o.Undo full f = marks.undo_back c t p i here f
    back o.Fail full f = values.fail_back c t p i here f
    back (o.Call a) full f = calls.call_back c t p i here f
    back (o.Method a b) full f = calls.method_back c t p i here f
    back o.Return full f = calls.return_back c t p i here f
    back (o.Each a) full f = writes.each_back c t p i here f
    back (o.Range a) full f = writes.range_back c t p i here f
    back (o.Take a b d) full f = writes.take_back c t p i here full f
    back (o.Append a b) full f = writes.append_back c t p i here f
    back (o.Print a) full f = values.print_back c t p i here f
    back (o.Sleep a) full f = tasks.sleep_back c t p i here f
    back o.Forever full f = tasks.forever_back c t p i here f
    back o.AwaitTask full f = tasks.await_task_back c t p i here f
    back o.AwaitEvent full f = tasks.await_event_back c t p i here f
    back o.Signal full f = tasks.signal_back c t p i here f
    back (o.Spawn a) full f = calls.spawn_back c t p i here f
    back (o.SpawnMethod a b) full f = calls.spawn_method_back c t p i here f
    back (o.Group a b d) full f = tasks.group_back c t p i here f
    back (o.Arm a) full f = elim f [ ]
    back (o.Branch a) full f = tasks.branch_back c t p i here f
    back o.ArmEnd full f = tasks.arm_end_back c t p i here f
    back (o.Defer a) full f = blocks.defer_back c t p i here f
    back (o.Leave a) full f = blocks.leave_back c t p i here f
    back o.DeferEnd full f = blocks.defer_end_back c t p i here f

    cond_later : (b : Bool) (x y : Option ℕ) → (b ≡ true → ⊥) → y ≡ None → cond b x y ≡ None
    cond_later true x y h e = elim (h refl) [ ]
    cond_later false x y h e = e

    none_of : (op : Op) → any_never p.locals ≡ false → Passes c N i (cut p) op →
        fault_of c t i p op ≡ None
    none_of op full f =
        cond_later (nat_lt (room p.stack p.tries) (pops c t op)) _ _
        (λ h. wrong (room p.stack p.tries) (pops c t op) (ltb-true (room p.stack p.tries) (pops c t op) h)
        (subst (λ n. pops c t op ≤ n) (room_is p.stack p.tries) (enough f))) (back op full f).none
      where
        wrong : (a b : ℕ) → suc a ≤ b → b ≤ a → ⊥
        wrong a b l k = omega (arith, l, k)

    pub none_in : (op : Op) → Asked c N i (cut p) op → fault_in c t i p op ≡ None
    none_in op a = by_values (lacks_values p) refl
      where
        bits : (a b : Bool) → (a || b) ≡ false → (a ≡ false) × (b ≡ false)
        bits false false e = (refl, refl)
        bits true b e = no_both e
        bits false true e = no_both e

        passing : lacks_values p ≡ false → Asked c N i (cut p) op → Passes c N i (cut p) op
        passing e (asked f) = f
        passing e (no_operand n) = no_both (sym (never_back n) ∙ (bits _ _ e).0)
        passing e (no_local n) = no_both (sym (never_back n) ∙ (bits _ _ e).1)

        first : (b : Bool) (x : Option ℕ) → b ≡ true → cond b None x ≡ None
        first true x e = refl
        first false x e = no_both (sym e)

        by_values : (b : Bool) → lacks_values p ≡ b →
            cond b (cond (stands c t i p) None (Some 8)) (fault_of c t i p op) ≡ None
        by_values true e = first (stands c t i p) (Some 8) (and_from _ _ here.around here.ready)
        by_values false e = none_of op (bits _ _ e).1 (passing e a)

module _ (c : Code) (t : Table) (told : Told c t) where
  pub none_here : (i : ℕ) (p : Spot) (op : Op) → spot_at t i ≡ Some p → slice_get c.ops i ≡ Some op →
      Sound c (notes c t) i (cut p) → fault_in c t i p op ≡ None
  none_here i p op e is x =
      none_in c t p i (record {
        told = told;
        there = e;
        around = around_here c t i p x.around (told.opened i p e);
        ready = ready_back c t told p p.locals p.defers x.ready;
      }) op (subst (Asked c (notes c t) i (cut p)) (same_Some _ _ (sym x.is_op ∙ is)) x.passes)
