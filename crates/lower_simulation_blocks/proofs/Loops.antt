-- Loops, and what leaves them.
use Rattle.std.proofs.Common.{◌≡◌, ℕ, zero, suc, ◌-◌, ◌≤◌, List, [], ◌∷◌, length, Bool, true, false, nat_lt, refl, sym, ap, ◌∙◌, subst}
use Rattle.std.proofs.Common.{arith}
use Rattle.std.specs.Prelude.{slice_get, Some}
use Rattle.std.proofs.lemmas.Bool.{ltb-true, ltb-false}
use Rattle.verse_base.specs.declared.places.Place.{Place}
use Rattle.verse_tree.specs.Tree.{Tree, tree}
use Rattle.verse_tree.specs.Tree as t
use Rattle.verse_code.specs.declared.operations.Op.{Op}
use Rattle.verse_code.specs.declared.operations.Op.TheVariants as op
use Rattle.verse_value.specs.Val.{Val, unit}
use Rattle.verse_meaning_state.specs.State.{State, stepped}
use Rattle.verse_meaning_state.specs.Waits.{has}
use Rattle.verse_meaning.specs.Residuals as form
use Rattle.verse_meaning.specs.Residuals.{Env, Residual, looped, args, Scopes}
use Rattle.verse_meaning.specs.Outcomes.{World, world, with_state, Outcome, value, failed, returned, broke, halted, rests, turned}
use Rattle.verse_meaning.specs.Evaluating.{ev}
use Rattle.verse_meaning.specs.Resuming.{resume}
use Rattle.verse_meaning.specs.Runs.{deeper}
use Rattle.verse_code_machine.specs.Tasks.{Task, Step}
use Rattle.verse_code_machine.specs.Frames.{fits, free, only_where, kept_defers}
use Rattle.lower_code.specs.Pieces.{Spot, Piece, sure, next, past, one, drops, later}
use Rattle.lower_code.specs.Scopes.{Scope as Names}
use Rattle.lower_code.specs.declared.arounds.Around.{Around as Where}
use Rattle.lower_code.specs.Arounds as arounds
use Rattle.lower_code.specs.Arounds.{returning}
use Rattle.lower_code.specs.Lowering.{piece}
use Rattle.lower_code.proofs.Standing.{later_is}
use Rattle.lower_simulation.proofs.Claims.{Way, Setting, Goal, Ends, loop_at, Ctx, Around, around, at, Good, Keeps, Target, on, Tasks}
use Rattle.lower_simulation.proofs.Claims.{Above, Returns, Onwards, Breaks, break_leaves, break_now, kids_of, own_of, Grown, same_around}
use Rattle.lower_simulation.proofs.Claims.{ParkedR, ParkedS, Goes}
use Rattle.lower_simulation.proofs.Steps.{does}
use Rattle.lower_simulation.proofs.Going.{trans, le_self, shifted, grown_steps, stopped_as, stopped_weaken}
use Rattle.lower_simulation.proofs.Following.{grown_in}
use Rattle.lower_simulation.proofs.Leading.{LeadsTo, value_leads, does_leads, open_leads, spends_leads, no_steps}
use Rattle.lower_simulation.proofs.Standing.{HasItems, op_stands, then_stand, Loop_at, loop_stand}
use Rattle.lower_simulation.proofs.Forms.{Static, EvLeads}
use Rattle.lower_simulation.proofs.Contexts.{looping, looping_static, handled}
use Rattle.lower_simulation.proofs.Leaving.{leave_none, returning_stand, breaking_stand}

-- d Drops from the end of a ladder of n
record Rung (way : Way) (all : List Op) (n d a : ℕ) : Type 0 where
  from : ℕ
  is : from ≡ later n a - d
  has : HasItems way all from (drops d (sure op.Unit ∷ []))
  le : a ≤ from
  ends : later d from ≡ later n a

rung : (way : Way) (all : List Op) (n d a : ℕ) → d ≤ n → HasItems way all a (drops n (sure op.Unit ∷ [])) → Rung way all n d a
rung way all zero d a le h =
    let x : 0 ≡ d = omega (arith, le) in
    subst (λ x. Rung way all 0 x a) x (record { from = a; is = omega arith; has = h; le = omega arith; ends = refl })
rung way all (suc n) d a le h = pick (nat_lt d (suc n)) refl (λ lt. rung way all n d (suc a) lt h.1)
  where
    pick : (b : Bool) → nat_lt d (suc n) ≡ b → (d ≤ n → Rung way all n d (suc a)) → Rung way all (suc n) d a
    pick true e next =
        let lt = ltb-true d (suc n) e in
        let r = next (omega (arith, lt)) in
        let ri = r.le in
        record { from = r.from; is = r.is; has = r.has; le = omega (arith, ri); ends = r.ends }
    pick false e next =
        let ge = ltb-false d (suc n) e in
        let x : suc n ≡ d = omega (arith, ge, le) in
        let l = later_is (suc n) a in
        subst (λ x. Rung way all (suc n) x a) x (record { from = a; is = omega (arith, l); has = h; le = omega arith; ends = refl })

module _ (z : Setting) where
  -- down the ladder
  drop_run : (c : Ctx) (o : Around) (s : State) (ls st base : List Val) (g : Goal) (way : Way) (d a : ℕ) →
      HasItems way z.code.ops a (drops d (sure op.Unit ∷ [])) → ((q : ℕ) → a ≤ q → q ≤ suc (later d a) → fits c.handlers q ≡ true) →
      Above d st base → Ends z (at c o s ls (unit ∷ base) (suc (later d a))) g → Ends z (at c o s ls st a) g
  drop_run c o s ls st base g way zero a h f ab k =
      subst (λ x. Ends z (at c o s ls x a) g) (sym ab) (does z op.Unit _ g h.0
      (subst (λ t. Ends z (only_where t s (at c o s ls (unit ∷ base) (suc a))) g) (sym (f (suc a) (omega arith) (omega arith))) k))
  drop_run c o s ls [] base g way (suc d) a h f ab k = absurd ab
  drop_run c o s ls (v ∷ st) base g way (suc d) a h f ab k =
      let l = later_is d (suc a) in
      does z op.Drop _ g h.0
      (subst (λ t. Ends z (only_where t s (at c o s ls st (suc a))) g) (sym (f (suc a) (omega arith) (omega (arith, l))))
      (drop_run c o s ls st base g way d (suc a) h.1 (λ q i j. f q (omega (arith, i)) j) ab k))

  -- a break, from before the Leave or the Jump
  break_run : (c : Ctx) (o : Around) (s : State) (ls stk st : List Val) (g : Goal) (label most : ℕ) (way : Way) (a p : ℕ) →
      kept_defers c.handlers ≤ length c.life.defers →
      Breaks z c.handlers c.life (loop_at label most (length c.life.defers)) st p stk →
      HasItems way z.code.ops a (drops most (sure op.Unit ∷ [])) → label ≡ later most a →
      ((q : ℕ) → a ≤ q → q ≤ suc label → fits c.handlers q ≡ true) → Ends z (at c o s ls (unit ∷ st) (suc label)) g →
      Ends z (at c o s ls stk p) g
  break_run c o s ls stk st g label most way a p hd br h el f k = pick br
    where
      r : (d : ℕ) → d ≤ most → Rung way z.code.ops most d a
      r d ld = rung way z.code.ops most d a ld h

      there : (d : ℕ) (ld : d ≤ most) → (r d ld).from ≡ label - d
      there d ld = (r d ld).is ∙ ap (λ x. x - d) (sym el)

      onto : (d : ℕ) (ld : d ≤ most) → Above d stk st → Ends z (at c o s ls stk (label - d)) g
      onto d ld ab =
          let q1 = r d ld in
          let y = q1.ends ∙ sym el in
          let x = q1.le in
          subst (λ x. Ends z (at c o s ls stk x) g) (there d ld)
          (drop_run c o s ls stk st g way d q1.from q1.has (λ q i j. f q (omega (arith, i, x)) (omega (arith, j, y))) ab
          (subst (λ x. Ends z (at c o s ls (unit ∷ st) (suc x)) g) (sym y) k))

      jumps : (p : ℕ) → Onwards z (loop_at label most (length c.life.defers)) st p stk → Ends z (at c o s ls stk p) g
      jumps p e =
          let d = e.0 in
          let q1 = r d e.1 in
          let x = q1.le in
          let i = there d e.1 in
          let l = q1.ends ∙ sym el in
          let y = later_is d q1.from in
          let fit = f (label - d) (omega (arith, x, i)) (omega (arith, i, l, y)) in
          does z (op.Jump (label - d)) _ g e.3.is
          (subst (λ t. Ends z (only_where t s (at c o s ls stk (label - d))) g) (sym fit) (onto d e.1 e.2))

      pick : Breaks z c.handlers c.life (loop_at label most (length c.life.defers)) st p stk → Ends z (at c o s ls stk p) g
      pick (break_now le onw) = jumps p onw
      pick (break_leaves f1 f2 hl onw) = leave_none z c o s ls stk p g hd f2 hl (jumps (suc p) onw)

  -- a turn of a loop, in the context c within which it is in d; a is where its body ends, the Drops begin at suc (suc a)
  module _ (c : Ctx) (st : List Val) (a l most : ℕ) (way : Way) (e0 : Env) (hd : kept_defers c.handlers ≤ length c.life.defers)
      (drop : slice_get z.code.ops a ≡ Some op.Drop) (ladder : HasItems way z.code.ops (suc (suc a)) (drops most (sure op.Unit ∷ [])))
      (el : l ≡ later most (suc (suc a))) (fit : (q : ℕ) → suc a ≤ q → q ≤ suc l → fits c.handlers q ≡ true)
      (wrap : Residual → Residual) (again : ℕ → World → Outcome) (hl : (x : Residual) → form.leaves (wrap x) ≡ form.leaves x)
      (hk : (r : Residual) (M : ℕ) (w : World) → kids_of z (wrap r) M w ≡ kids_of z r M w)
      (ho : (r : Residual) (M : ℕ) (w : World) → own_of z (wrap r) M w ≡ own_of z r M w)
      (hw : (l : ℕ) (x : Residual) (n : ℕ) (v : Val) (w : World) → resume z.program (deeper z.program l) (wrap x) n v w ≡ turned
      (resume z.program (deeper z.program l) x n v w) wrap e0 (again l)) where
    abbrev d : Ctx
    d = looping c st l most

    -- at the Again
    abbrev Turns : ℕ → ℕ → (World → Outcome) → Type 0
    Turns i m go = (o : Around) (w : World) (ls : List Val) → Good m c.who.path o c.held c.also c.size w.state ls → (g : Goal) →
        Goes z i m c o w.behind w.tasks (on (suc l) st) g (go w) → Ends z (at c o w.state ls st (suc a)) g

    outer : (j m : ℕ) (o' : Around) (b' : Scopes) (f' : Tasks) {n : ℕ} {o : Around} {b : Scopes} {f : Tasks} →
        Grown (ParkedS z j) z d m o' b' f' n o b f → Grown (ParkedS z j) z c m o' b' f' n o b f
    outer j m o' b' f' gr = grown_in (ParkedS z j) z d c m o' b' f' refl refl (λ h. h) gr

    turn_step : (j n : ℕ) → (free c.handlers c.life.noted c.below ≡ true → (m q : ℕ) (x : Residual) (ts : List Task) → m ≤ n →
        ParkedR z j m q x d (on a st) ts → ParkedR z j m q (wrap x) c (on (suc l) st) ts) → (go : World → Outcome) →
        ((m : ℕ) → m ≤ n → Turns j m go) → (o : Around) (b : Scopes) (f : Tasks) (g : Goal) (x : Outcome) →
        Goes z j n c o b f (on (suc l) st) g (turned x wrap e0 go) → Goes z j n d o b f (on a st) g x
    unfolding turned
    turn_step j n pk go h o b f g (value e v w) y = λ m o' gr ls gd bs.
        let gr' = outer j m o' w.behind w.tasks gr in
        let x = later_is most (suc (suc a)) in
        does z op.Drop _ g drop
        (subst (λ t. Ends z (only_where t w.state (at c o' w.state ls st (suc a))) g)
        (sym (fit (suc a) (omega arith) (omega (arith, x, el))))
        (h m (grown_steps (ParkedS z j) z c m o' w.behind w.tasks gr') o' w ls gd g
        (shifted z j n m c o o' b w.behind f w.tasks (on (suc l) st) g (go w) gr' y)))
    turn_step j n pk go h o b f g (failed s) y = λ m o' b' f' gr. y m o' b' f' (outer j m o' b' f' gr)
    turn_step j n pk go h o b f g (returned v w) y = λ m o' gr. y m o' (outer j m o' w.behind w.tasks gr)
    turn_step j n pk go h o b f g (broke w) y = λ m o' gr p ls stk br gd.
        break_run c o' w.state ls stk st g l most way (suc (suc a)) p hd br ladder el (λ q u v. fit q (omega (arith, u)) v)
        (y m o' (outer j m o' w.behind w.tasks gr) ls gd tt)
    turn_step j n pk go h o b f g (halted x) y = y
    turn_step j n pk go h o b f g (rests x w) y = λ m o' gr fr fi ts q.
        let steps = grown_steps (ParkedS z j) z d m o' w.behind w.tasks gr in
        y m o' (outer j m o' w.behind w.tasks gr) fr fi ts (record {
          keeps = subst (λ u. Keeps c.who.path o'.own u ts) (sym (hl x)) q.keeps;
          stands = pk fr w.state.clock.left o'.own x ts (trans fi.steps steps) q.stands;
          stopped = stopped_as (hk x) (ho x)
              (stopped_weaken c.env c.held c.also st (loop_at l most (length c.life.defers)) q.stopped (λ ks ag. ag));
        })

    turn_parked : (top : ℕ) → (free c.handlers c.life.noted c.below ≡ true → (l i m : ℕ) → m ≤ top → m ≤ l → Turns i m (again l)) →
        free c.handlers c.life.noted c.below ≡ true → (j m q : ℕ) (x : Residual) (ts : List Task) → m ≤ top →
        ParkedR z j m q x d (on a st) ts → ParkedR z j m q (wrap x) c (on (suc l) st) ts
    turn_parked top h fr zero m q x ts le y = tt
    turn_parked top h fr (suc j) m q x ts le y = λ n v s hn lt pre post rs b f far l1 ll g u.
        y n v s (subst (λ u. has n u ≡ true) (hl x) hn) lt pre post rs b f far l1 ll g
        (turn_step j s.clock.left (λ fr m' q' x' ts' lt'. turn_parked top h fr j m' q' x' ts' (omega (arith, lt', lt, le))) (again l1)
        (λ m' lt'. h fr l1 j m' (omega (arith, lt', lt, le)) (trans lt' ll)) (around pre post rs q) b f g
        (resume z.program (deeper z.program l1) x n v (world s b f))
        (subst (λ u. Goes z j s.clock.left c (around pre post rs q) b f (on (suc l) st) g u) (hw l1 x n v (world s b f)) u))

    -- a turn leads on, where the Again does
    turn_leads : {j n : ℕ} {o : Around} {b : Scopes} {f : Tasks} {q : Step} (go : World → Outcome) (x : Outcome) →
        ((m : ℕ) → m ≤ n → Turns j m go) → (free c.handlers c.life.noted c.below ≡ true → (l i m : ℕ) → m ≤ n → m ≤ l →
        Turns i m (again l)) →
        LeadsTo z j n d o b f q (on a st) x → LeadsTo z j n c o b f q (on (suc l) st) (turned x wrap e0 go)
    turn_leads {j} {n} {o} {b} {f} go x h h2 k = record {
      go = λ g u. k.go g (turn_step j n (λ fr m q r ts le. turn_parked n h2 fr j m q r ts le) go h o b f g x u);
    }

  -- with fewer steps
  less_leads : {j n m : ℕ} {c : Ctx} {o : Around} {b : Scopes} {f : Tasks} {q : Step} {k : Target} (x : Outcome) → m ≤ n →
      LeadsTo z j m c o b f q k x → LeadsTo z j n c o b f q k x
  less_leads {j} {n} {m} {c} {o} {b} {f} {q} {k} x le h = record {
    go = λ g u. h.go g (shifted z j n m c o o b b f f k g x (same_around le) u);
  }

  module _ (differ : ℕ → ℕ → Bool) (top : ℕ) where
    again_fits : (ok : ℕ → Bool) (size : ℕ) (out : Way) (s e : Spot) (p : Piece) → Loop_at z ok size out s p e →
        (ok (suc s.at) ≡ true) × (ok (suc (past (next s) p).at) ≡ true)
    again_fits ok size out s e p i =
        let v = i.order in
        let q = i.last in
        let l = i.label in
        let r = later_is i.way.most (suc (suc (past (next s) p).at)) in (
          i.wide (suc s.at) (omega arith) (omega (arith, v, q, l, r)),
          i.wide (suc (past (next s) p).at) (omega (arith, v)) (omega (arith, q, l, r)),
        )

    -- from before the Again, by the bound of the steps
    again_leads : (x : Tree) → EvLeads z differ top x → (t : ℕ) (ss : Names) (a : Where) (s e : Spot) (out : Way) (w : Bool)
        (u M j n : ℕ) (c : Ctx) (o : Around) (y : World) (ls st : List Val) →
        Loop_at z (fits c.handlers) c.size out s (piece z.program differ x ss (arounds.looped a) (next s)) e → Static top c ss out a →
        free c.handlers c.life.noted c.below ≡ w → n ≤ top → n ≤ t → n ≤ u → n ≤ M → Good n c.who.path o c.held c.also c.size y.state ls →
        LeadsTo z j n c o y.behind y.tasks
        (at c o y.state ls st (suc (past (next s) (piece z.program differ x ss (arounds.looped a) (next s))).at)) (on e.at st)
        ((deeper z.program u).loops (λ y. ev z.program (deeper z.program M) x w c.env y) (looped c.env x) c.env y)
    again_leads x hx t ss a s e out w zero M j n c o y ls st i sc fw lt lt2 lu lM g =
        let f = g.fine.steps in
        does_leads z i.again (open_leads z _ (again_fits (fits c.handlers) c.size out s e _ i).0
        (no_steps z y.state.clock.left y _ (omega (arith, f, lu))))
    again_leads x hx zero ss a s e out w (suc u) M j n c o y ls st i sc fw lt lt2 lu lM g =
        let f = g.fine.steps in
        does_leads z i.again (open_leads z _ (again_fits (fits c.handlers) c.size out s e _ i).0
        (spends_leads z y.state.clock.left y _ _ (λ l q. absurd (omega (arith, f, lt2, q)))))
    again_leads x hx (suc t) ss a s e out w (suc u) M j n c o y ls st i sc fw lt lt2 lu lM g =
        let p : Piece = piece z.program differ x ss (arounds.looped a) (next s) in
        let e1 : Spot = past (next s) p in
        let way : Way = i.way in
        let run : Bool → ℕ → ℕ → World → Outcome = λ w M u y. (deeper z.program u).loops
        (λ y. ev z.program (deeper z.program M) x w c.env y) (looped c.env x) c.env y in
        let f = g.fine.steps in
        let f2 = g.fine.low in
        does_leads z i.again (open_leads z _ (again_fits (fits c.handlers) c.size out s e p i).0
        (spends_leads z y.state.clock.left y _ _ (λ l q.
        let y1 = with_state y (stepped l y.state) in
        let turn : Outcome = ev z.program (deeper z.program M) x w c.env y1 in
        subst (λ b. LeadsTo z j n c o y.behind y.tasks (at c o y1.state ls st (suc s.at)) (on b st)
        (turned turn (looped c.env x) c.env (λ y. run w M u y))) i.last
        (less_leads _ (omega (arith, q, f)) (turn_leads c st e1.at way.label way.most out c.env (handled sc) i.drop i.ladder i.label
        (λ b lo hi. i.wide b (let v = i.order in omega (arith, lo, v)) (let v = i.last in omega (arith, hi, v))) (looped c.env x)
        (λ l1 y. run true l1 l1 y) (λ r. refl) (λ r M w. refl) (λ r M w. refl) (λ l x n v w. refl) {j = j} {n = l} {o = o}
        {b = y1.behind} {f = y1.tasks}
        (λ y. run w M u y) turn
        (λ m le o w1 ls gd g2 k2. (again_leads x hx t ss a s e out w u M j m c o w1 ls st i sc fw (omega (arith, le, q, f, lt))
        (omega (arith, le, q, f, lt2)) (omega (arith, le, q, f, lu)) (omega (arith, le, q, f, lM)) gd).go g2
        (subst (λ b. Goes z j m c o w1.behind w1.tasks (on b st) g2 (run w M u w1)) i.last k2))
        (λ fr l1 i1 m le ll o w1 ls gd g2 k2. (again_leads x hx t ss a s e out true l1 l1 i1 m c o w1 ls st i sc fr
        (omega (arith, le, q, f, lt)) (omega (arith, le, q, f, lt2)) ll ll gd).go g2
        (subst (λ b. Goes z i1 m c o w1.behind w1.tasks (on b st) g2 (run true l1 l1 w1)) i.last k2))
        (hx ss (arounds.looped a) (next s) e1 way w M j l (looping c st way.label way.most) o y1 ls st i.body (looping_static st way sc) fw
        (omega (arith, q, f, lt)) (omega (arith, q, f, lM)) refl
        (record {
          holds = g.holds;
          besides = g.besides;
          sized = g.sized;
          fine = record { steps = le_self; low = omega (arith, q, f2); apart = g.fine.apart };
        })))))))

    pub loop_leads : (n : ℕ) (pl : Place) (x : Tree) → EvLeads z differ top x → EvLeads z differ top (tree n pl (t.Shape.loop_form x))
    loop_leads n pl x hx ss a s e out w M j m c o y ls st i sc fw lt lM ab g =
        let i1 = loop_stand z s e (piece z.program differ x ss (arounds.looped a)) i in
        does_leads z i1.jump (open_leads z _ (again_fits (fits c.handlers) c.size out s e _ i1).1
        (again_leads x hx m ss a s e out w M M j m c o y ls st i1 sc fw lt le_self lM lM g))

    pub break_leads : (n : ℕ) (pl : Place) → EvLeads z differ top (tree n pl t.Shape.break_form)
    break_leads n pl ss a s e out w M j m c o y ls st i sc fw lt lM ab g =
        record { go = λ r h. h m o (same_around le_self) s.at ls st (breaking_stand z s e st sc ab i) g }

    -- ---- `return`

    returned_at : {j n : ℕ} {c : Ctx} {o : Around} {y : World} {ls stk : List Val} {p : ℕ} {into : Target} {v : Val} →
        Returns z c.handlers c.life c.leave p → Good n c.who.path o c.held c.also c.size y.state ls →
        LeadsTo z j n c o y.behind y.tasks (at c o y.state ls (v ∷ stk) p) into (returned v y)
    returned_at {n = n} {o = o} {ls = ls} {stk} {p} rt g = record { go = λ r h. h n o (same_around le_self) p ls stk rt g }

    pub returned_leads : (n : ℕ) (pl : Place) (x : Tree) → EvLeads z differ top x → EvLeads z differ top (tree n pl (t.Shape.returned x))
    returned_leads n pl x hx ss a s e out w M j m c o y ls st i sc fw lt lM ab g =
        let f = piece z.program differ x ss a in
        let r = then_stand z s e f (returning a) i in
        value_leads z (on (past s (f s)).at st) _ _ (λ r. args c.env form.returning [] r []) (λ w M v y. returned v y) fw lM (λ r. refl)
        (λ r M w. refl) (λ r M w. refl) (λ l x n v y. refl) (hx ss a s _ out w M j m c o y ls st r.0 sc fw lt lM ab g)
        (λ w M i n fw le lM o v y ls g. returned_at (returning_stand z _ e sc r.1) g)

    pub returned_unit_leads : (n : ℕ) (pl : Place) → EvLeads z differ top (tree n pl t.Shape.returned_unit)
    returned_unit_leads n pl ss a s e out w M j m c o y ls st i sc fw lt lM ab g =
        let r = then_stand z s e (one op.Unit) (returning a) i in
        let unit = op_stands z r.0 in
        does_leads z unit.is (open_leads z _ unit.fit (returned_at (returning_stand z _ e sc r.1) g))
