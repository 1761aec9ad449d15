-- Where a `return` and a `break` stand in the code, and where they are stuck.
use Rattle.std.proofs.Common.{◌≡◌, ℕ, suc, ◌-◌, ◌≤◌, List, length, Some, Bool, true, false, sym, ap, ◌∙◌, subst, arith}
use Rattle.std.specs.Prelude.{not}
use Rattle.verse_code.specs.declared.operations.Op.TheVariants as op
use Rattle.verse_value.specs.Val.{Val}
use Rattle.verse_value.specs.declared.runs.Ending.TheVariants as ending
use Rattle.verse_meaning_state.specs.State.{State}
use Rattle.verse_meaning_state.specs.Waits.{ltn}
use Rattle.verse_code_machine.specs.Frames.{fits, only_where, kept_defers}
use Rattle.verse_code_machine.specs.Acts.{leaves}
use Rattle.lower_code.specs.Pieces.{Spot, one, when_else, leave_loop}
use Rattle.lower_code.specs.Scopes.{Scope as Names}
use Rattle.lower_code.specs.declared.arounds.Around.{Around as Where}
use Rattle.lower_code.specs.Arounds.{returning, breaking}
use Rattle.lower_simulation.proofs.Paths.{lt_false}
use Rattle.lower_simulation.proofs.Claims.{Way, Setting, Goal, Ends, Exit, no_loop, loop_at, kept_at, Leave, with_return, no_return}
use Rattle.lower_simulation.proofs.Claims.{left_at, Ctx, Around, at, Above, Here}
use Rattle.lower_simulation.proofs.Claims.{Finishes, Returns, return_leaves, return_now, Onwards, Breaks, break_leaves}
use Rattle.lower_simulation.specs.Seen.{broke_off}
use Rattle.lower_simulation.proofs.Claims.{break_now}
use Rattle.lower_simulation.proofs.Steps as steps
use Rattle.lower_simulation.proofs.Steps.{does, over}
use Rattle.lower_simulation.proofs.Standing.{Stands, op_stands, else_true, else_false, leave_stand, Left, by_leave, by_none, leaving_stand}
use Rattle.lower_simulation.proofs.Forms.{Loops, Leaves, Static}

module _ (z : Setting) where
  -- a Leave where there is nothing to leave
  pub leave_none : (c : Ctx) (o : Around) (s : State) (ls st : List Val) (p : ℕ) (g : Goal) →
      kept_defers c.handlers ≤ length c.life.defers → fits c.handlers (suc p) ≡ true → Here z.code p (op.Leave (length c.life.defers)) →
      Ends z (at c o s ls st (suc p)) g → Ends z (at c o s ls st p) g
  leave_none c o s ls st p g hd fi h k =
      let n : ℕ = length c.life.defers in
      let none : ltn n n ≡ false = lt_false n n (λ x. omega (arith, x)) in
      let most : ltn n (kept_defers c.handlers) ≡ false = lt_false n (kept_defers c.handlers) (λ x. omega (arith, x, hd)) in
      does z (op.Leave n) _ g h.is
      (subst (λ t. Ends z (only_where (not t) s (only_where (not (ltn n (kept_defers c.handlers))) s
      (leaves t c.who o.world s c.life ls st p c.handlers c.below))) g) (sym none)
      (subst (λ t. Ends z (only_where (not t) s (leaves false c.who o.world s c.life ls st p c.handlers c.below)) g) (sym most)
      (subst (λ t. Ends z (only_where t s (at c o s ls st (suc p))) g) (sym fi) k)))

  -- within an attempt or a deferred block
  pub return_stuck : (c : Ctx) (o : Around) (s : State) (ls st : List Val) (p : ℕ) (g : Goal) →
      kept_defers c.handlers ≤ length c.life.defers → Returns z c.handlers c.life (no_return (length c.life.defers)) p →
      broke_off ending.Stuck s ≡ g.seen → Ends z (at c o s ls st p) g
  return_stuck c o s ls st p g hd (return_leaves f1 f2 h x) k = leave_none c o s ls st p g hd f2 h
      (steps.one (op.Arm x.0) _ x.1 (over _ k))
  return_stuck c o s ls st p g hd (return_now le x) k = steps.one (op.Arm x.0) _ x.1 (over _ k)

  pub break_stuck : (c : Ctx) (base : List Val) (o : Around) (s : State) (ls st : List Val) (p : ℕ) (g : Goal) →
      kept_defers c.handlers ≤ length c.life.defers →
      Breaks z c.handlers c.life (no_loop (length c.life.defers)) base p st → broke_off ending.Stuck s ≡ g.seen →
      Ends z (at c o s ls st p) g
  break_stuck c base o s ls st p g hd (break_leaves f1 f2 h x) k = leave_none c o s ls st p g hd f2 h
      (steps.one (op.Arm x.0) _ x.1 (over _ k))
  break_stuck c base o s ls st p g hd (break_now le x) k = steps.one (op.Arm x.0) _ x.1 (over _ k)

  -- ---- where they stand

  finishes : (x : Leave) (a : Where) (out : Way) (ok : ℕ → Bool) (size : ℕ) (s e : Spot) → Leaves x a.may_return a.base →
      Stands z ok size out s (when_else a.may_return (one op.Return) s) e → (left_at x ≡ a.base) × Finishes z x s.at
  finishes with_return a out ok size s e l i = (
    sym l.1,
    record { is = (op_stands z (else_true z a.may_return s e (one op.Return) l.0 i)).is },
  )
  finishes (no_return kept) a out ok size s e l i = (l.1, else_false z a.may_return s e (one op.Return) l.0 i)

  pub returning_stand : {top size : ℕ} {c : Ctx} {ss : Names} {out : Way} {a : Where} (s e : Spot) → Static top c ss out a →
      Stands z (fits c.handlers) size out s (returning a s) e → Returns z c.handlers c.life c.leave s.at
  returning_stand {top} {size} {c} {ss} {out} {a} s e sc i = by_blocks
      (leaving_stand z s e a.base a (when_else a.may_return (one op.Return)) i)
    where
      by_blocks : Left z (fits c.handlers) size out s a.base a (when_else a.may_return (one op.Return)) e →
          Returns z c.handlers c.life c.leave s.at
      by_blocks (by_leave f1 f2 h i) =
          let b = finishes c.leave a out (fits c.handlers) size _ e sc.leaves i in
          return_leaves f1 f2 (record { is = h.is ∙ ap (λ x. Some (op.Leave x)) (sym b.0) }) b.1
      by_blocks (by_none le i) =
          let b = finishes c.leave a out (fits c.handlers) size s e sc.leaves i in let d = sc.defers in let x = b.0 in
          return_now (omega (arith, le, d, x)) b.1

  onwards : (x : Exit) (a : Where) (out : Way) (ok : ℕ → Bool) (size : ℕ) (s e : Spot) (base st : List Val) →
      Loops x a.in_loop out a.floor → Above a.height st base → Stands z ok size out s (when_else a.in_loop (leave_loop a.height) s) e →
      (kept_at x ≡ a.floor) × Onwards z x base s.at st
  onwards (no_loop kept) a out ok size s e base st l ab i = (l.1, else_false z a.in_loop s e (leave_loop a.height) l.0 i)
  onwards (loop_at label most kept) a out ok size s e base st l ab i =
      let q = leave_stand z a.height (else_true z a.in_loop s e (leave_loop a.height) l.0 i) in (
        l.3,
        (
          a.height,
          subst (λ x. a.height ≤ x) (sym l.2) q.0,
          ab,
          record { is = q.1.is ∙ ap (λ x. Some (op.Jump (x - a.height))) (sym l.1) },
        ),
      )

  pub breaking_stand : {top size : ℕ} {c : Ctx} {ss : Names} {out : Way} {a : Where} (s e : Spot) (st : List Val) →
      Static top c ss out a → Above a.height st c.base → Stands z (fits c.handlers) size out s (breaking a s) e →
      Breaks z c.handlers c.life c.exit c.base s.at st
  breaking_stand {top} {size} {c} {ss} {out} {a} s e st sc ab i = by_blocks
      (leaving_stand z s e a.floor a (when_else a.in_loop (leave_loop a.height)) i)
    where
      by_blocks : Left z (fits c.handlers) size out s a.floor a (when_else a.in_loop (leave_loop a.height)) e →
          Breaks z c.handlers c.life c.exit c.base s.at st
      by_blocks (by_leave f1 f2 h i) =
          let b = onwards c.exit a out (fits c.handlers) size _ e c.base st sc.loops ab i in
          break_leaves f1 f2 (record { is = h.is ∙ ap (λ x. Some (op.Leave x)) (sym b.0) }) b.1
      by_blocks (by_none le i) =
          let b = onwards c.exit a out (fits c.handlers) size s e c.base st sc.loops ab i in let d = sc.defers in let x = b.0 in
          break_now (omega (arith, le, d, x)) b.1
