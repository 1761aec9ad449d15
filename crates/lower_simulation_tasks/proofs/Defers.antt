-- Deferred blocks: at the end of a block, and where a task is cancelled.
use Rattle.std.proofs.Common.{◌≡◌, ℕ, zero, suc, ◌≤◌, List, [], ◌∷◌, Bool, true, false, refl, sym, ◌∙◌, subst, arith}
use Rattle.std.specs.Prelude.{length, not}
use Rattle.verse_tree.specs.Tree.{Tree}
use Rattle.verse_value.specs.Val.{Val}
use Rattle.verse_value.specs.declared.runs.Ending.TheVariants as ending
use Rattle.verse_code.specs.declared.operations.Op.TheVariants as oper
use Rattle.verse_meaning_state.specs.State.{State, stepped, spending}
use Rattle.verse_meaning_state.specs.Waits.{ltn}
use Rattle.verse_code_machine.specs.Tasks.{Note, gone, to, Handler, Frame, Task, World, Machine, Step, Next, Over, machine}
use Rattle.verse_code_machine.specs.Frames.{failing, free, fits, only_where, kept_defers, kept_noted}
use Rattle.verse_code_machine.specs.Cancelling.{clears, clears_frames}
use Rattle.verse_code_machine.specs.Ends.{follows}
use Rattle.verse_meaning.specs.Residuals.{deferred, Residual, Scopes}
use Rattle.verse_meaning.specs.Outcomes.{World as Scene, world as scene, closing, ran, dropped, spends, with_state, Outcome, value, failed}
use Rattle.verse_meaning.specs.Outcomes.{returned, broke, halted, rests}
use Rattle.verse_meaning.specs.Evaluating.{ev}
use Rattle.verse_meaning.specs.Resuming.{resume}
use Rattle.verse_meaning.specs.Runs.{deeper}
use Rattle.lower_simulation.proofs.Paths.{each_map, starts_longer}
use Rattle.lower_simulation_tasks.proofs.Besides.{free_fails}
use Rattle.lower_simulation.proofs.Claims.{kept_at, Target, GoesHalt, Returns, return_leaves, return_now, Breaks}
use Rattle.lower_simulation.specs.Seen.{broke_off}
use Rattle.lower_simulation.proofs.Claims.{break_leaves, break_now, on, Setting, Goal, Ends, Here, Ctx, Around, around, at}
use Rattle.lower_simulation.proofs.Claims.{frame_of, Clear, Beside, Apart, Good, Gone, Others, in_clearing, Stopped, kids_of, own_of}
use Rattle.lower_simulation.proofs.Claims.{Tasks, ResidualStands, ScopeStands, Grown, same_around, left_around, forked_around, ParkedR}
use Rattle.lower_simulation.proofs.Claims.{ParkedS, Goes, slots}
use Rattle.lower_simulation.proofs.Steps.{one, over}
use Rattle.lower_simulation.proofs.Going.{agrees, trans, le_self, lifted, raise, fresh, gone_then, shifted}
use Rattle.lower_simulation.proofs.Going.{grown_steps}
use Rattle.verse_code_machine.specs.Acts.{leaves}
use Rattle.verse_code_machine.proofs.Acts.{no_handler}
use Rattle.lower_simulation.proofs.Claims.{left_at}
use Rattle.lower_simulation.proofs.Forms.{Keepable}
use Rattle.lower_simulation.proofs.Contexts.{deferring, running}
use Rattle.lower_simulation.proofs.Leaving.{return_stuck, break_stuck}
use Rattle.lower_simulation.proofs.Leading.{LeadsTo}
use Rattle.lower_simulation.proofs.Paths.{lt_false}

pub not_free : (hs : List Handler) (x : Note) (xs : List Note) (bl : List Frame) → free hs (x ∷ xs) bl ≡ false
not_free (h ∷ hs) x xs bl = refl
not_free [] x xs bl = refl

grown_deferring : (P : ScopeStands) (z : Setting) (c : Ctx) (q n' : ℕ) (o' : Around) (b' : Scopes) (f' : Tasks) {n : ℕ} {o : Around}
    {b : Scopes} {f : Tasks} → Grown P z (deferring c q) n' o' b' f' n o b f → Grown P z c n' o' b' f' n o b f
grown_deferring P z c q n' o' b' f' (same_around le) = same_around le
grown_deferring P z c q n' o' b' f' (left_around k s ts fr lt l1 l2 st h) = left_around k s ts fr lt l1 l2 st
    (grown_deferring P z c q n' o' b' f' h)
grown_deferring P z c q n' o' b' f' (forked_around k e s ts fr lt st h) = forked_around k e s ts fr lt st
    (grown_deferring P z c q n' o' b' f' h)

-- where nothing may be suspended, nothing has grown
grown_none : {A : Type 0} (P : ScopeStands) (z : Setting) (c : Ctx) → free c.handlers c.life.noted c.below ≡ false →
    (n' : ℕ) (o' : Around) (b' : Scopes) (f' : Tasks) {n : ℕ} {o : Around} {b : Scopes} {f : Tasks} → Grown P z c n' o' b' f' n o b f →
    (n' ≤ n → o' ≡ o → b' ≡ b → f' ≡ f → A) → A
grown_none P z c na n' o' b' f' (same_around le) go = go le refl refl refl
grown_none P z c na n' o' b' f' (left_around k s ts fr lt l1 l2 st h) go = cc
grown_none P z c na n' o' b' f' (forked_around k e s ts fr lt st h) go = cc

-- what follows a deferred block
abbrev pub Blocked : Outcome → Scene → (Scene → Type 0) → (State → Type 0) → Goal → Type 0
Blocked (value e v u) w K F g = u.state.clock.left ≤ w.state.clock.left → u.behind ≡ w.behind → u.tasks ≡ w.tasks → K u
Blocked (failed s) w K F g = F s
Blocked (returned v u) w K F g = broke_off ending.Stuck u.state ≡ g.seen
Blocked (broke u) w K F g = broke_off ending.Stuck u.state ≡ g.seen
Blocked (halted h) w K F g = GoesHalt g h
Blocked (rests r u) w K F g = broke_off ending.Stuck u.state ≡ g.seen

of_dropped : (x : Outcome) (w : Scene) (K : Scene → Type 0) (g : Goal) → Gone (dropped x) w K g →
    Blocked x w K (λ s. broke_off ending.Stuck s ≡ g.seen) g
unfolding dropped
of_dropped (value e v u) w K g h = h
of_dropped (failed s) w K g h = h
of_dropped (returned v u) w K g h = h
of_dropped (broke u) w K g h = h
of_dropped (halted q) w K g h = h
of_dropped (rests r u) w K g h = h

of_block : (z : Setting) (j n : ℕ) (c : Ctx) (o : Around) (b : Scopes) (f : Tasks) (kt : Target) (g : Goal) (x : Outcome) (w : Scene)
    (go : Scene → Outcome) → Goes z j n c o b f kt g (ran x go) →
    Blocked x w (λ u. Goes z j n c o b f kt g (go u)) (λ s. Goes z j n c o b f kt g (failed s)) g
unfolding ran
of_block z j n c o b f kt g (value e v u) w go h = λ le eb et. h
of_block z j n c o b f kt g (failed s) w go h = h
of_block z j n c o b f kt g (returned v u) w go h = h
of_block z j n c o b f kt g (broke u) w go h = h
of_block z j n c o b f kt g (halted q) w go h = h
of_block z j n c o b f kt g (rests r u) w go h = h

apart_beside : (a : List ℕ) (o : World) (k : ℕ) → Others (Beside a) o → Apart a (record { world = o; own = k })
apart_beside a o k far = record {
  pre = each_map (Beside a) (Clear a k) o.pre (λ t h i y. starts_longer a (i ∷ []) t.thread.who.path h) far.0;
  post = each_map (Beside a) (Clear a k) o.post (λ t h i y. starts_longer a (i ∷ []) t.thread.who.path h) far.1;
}

ltn_less : (a b : ℕ) → a ≤ b → ltn a (suc b) ≡ true
ltn_less zero b le = refl
ltn_less (suc a) zero le = absurd (omega (arith, le))
ltn_less (suc a) (suc b) le = ltn_less a b (omega (arith, le))

-- a context and a deferred block in it, from q to e; n bounds the steps
module _ (z : Setting) (c : Ctx) (d : Tree) (q e n0 : ℕ) (fq : fits c.handlers q ≡ true) (hd : Here z.code e oper.Drop)
    (hfd : fits c.handlers (suc e) ≡ true) (he : Here z.code (suc e) oper.DeferEnd) (kn : kept_noted c.handlers ≤ length c.life.noted)
    (kb : Keepable c.handlers c.life (kept_at c.exit)) (kr : Keepable c.handlers c.life (left_at c.leave)) where
  abbrev PR : ℕ → ResidualStands
  PR j = ParkedR z j

  abbrev PS : ℕ → ScopeStands
  PS j = ParkedS z j

  abbrev body_of : ℕ → Scene → Outcome
  body_of M w = ev z.program (deeper z.program M) d false c.env w

  -- the most that a handler keeps
  hd0 : kept_defers c.handlers ≤ length c.life.defers
  hd0 = trans kb.handled kb.there

  -- what is shown of the block, which comes back to a note
  abbrev pub BlockLeads : Type 0
  BlockLeads = (j k M : ℕ) (x : Note) (stk : List Val) → k ≤ n0 → k ≤ M → (o : Around) (w : Scene) (ls : List Val) →
      Good k c.who.path o c.held c.also c.size w.state ls →
      LeadsTo z j k (running c x stk) o w.behind w.tasks (at (running c x stk) o w.state ls stk q) (on e stk) (body_of M w)

  -- what the block comes to: `next` is what follows behind its end
  block_goes : (j k : ℕ) (o : Around) (x : Note) (stk : List Val) (y : Outcome) (w : Scene) (K : Scene → Type 0) (F : State → Type 0)
      (g : Goal) → ((s : State) (ls : List Val) → F s → Good k c.who.path o c.held c.also c.size s ls →
      Ends z (failing c.who o.world s ls c.handlers c.below) g) →
      ((u : Scene) (ls : List Val) → u.state.clock.left ≤ k → u.behind ≡ w.behind → u.tasks ≡ w.tasks →
      Good k c.who.path o c.held c.also c.size u.state ls → K u → Ends z (at (running c x stk) o u.state ls stk (suc e)) g) →
      (w0 : Scene) → k ≤ w0.state.clock.left → w.behind ≡ w0.behind → w.tasks ≡ w0.tasks → Blocked y w0 K F g →
      Goes z j k (running c x stk) o w.behind w.tasks (on e stk) g y
  block_goes j k o x stk (value e' v u) w K F g hf next w0 l0 eb0 et0 h = λ m o' gr ls gd bi.
      one oper.Drop (machine c.who o'.world u.state (running c x stk).life ls (v ∷ stk) e c.handlers c.below) hd
      (subst (λ y. Ends z (only_where y u.state (Next (machine c.who o'.world u.state (running c x stk).life ls stk
      (suc e) c.handlers c.below))) g) (sym hfd)
      (grown_none (PS j) z (running c x stk) (not_free c.handlers x c.life.noted c.below) m o' u.behind u.tasks gr (λ le eo eb et.
      let fi = gd.fine in let ag = (agrees gd) in
      subst (λ y. Ends z (Next (machine c.who y.world u.state (running c x stk).life ls stk (suc e) c.handlers c.below)) g) (sym eo)
      (next u ls (trans fi.steps le) eb et (subst (λ y. Good k c.who.path y c.held c.also c.size u.state ls) eo
      (fresh (slots c) ag (lifted le fi))) (h (trans (trans fi.steps le) l0) (eb ∙ eb0) (et ∙ et0))))))
  block_goes j k o x stk (failed s) w K F g hf next w0 l0 eb0 et0 h = λ m o' b' f' gr ls gd.
      grown_none (PS j) z (running c x stk) (not_free c.handlers x c.life.noted c.below) m o' b' f' gr (λ le eo eb et. let fi = gd.fine in
      subst (λ y. Ends z (failing c.who y.world s ls c.handlers c.below) g) (sym eo)
      (hf s ls h (subst (λ y. Good k c.who.path y c.held c.also c.size s ls) eo (fresh (slots c) (agrees gd) (lifted le fi)))))
  block_goes j k o x stk (returned v u) w K F g hf next w0 l0 eb0 et0 h = λ m o' gr a ls sk re gd.
      return_stuck z (running c x stk) o' u.state ls (v ∷ sk) a g hd0 re h
  block_goes j k o x stk (broke u) w K F g hf next w0 l0 eb0 et0 h = λ m o' gr a ls sk br gd.
      break_stuck z (running c x stk) stk o' u.state ls sk a g hd0 br h
  block_goes j k o x stk (halted y) w K F g hf next w0 l0 eb0 et0 h = h
  block_goes j k o x stk (rests r u) w K F g hf next w0 l0 eb0 et0 h = λ m o' gr fr.
      absurd (no_both fr (not_free c.handlers x c.life.noted c.below))
    where
      no_both : {y : Bool} → y ≡ true → y ≡ false → ⊥
      no_both p q = cc

  -- the block is begun with a step
  parts_cases : (M : ℕ) (w : Scene) (K : Scene → Type 0) (F : State → Type 0) (g : Goal) (run : State → Step) → w.state.clock.left ≤ M →
      Blocked ((deeper z.program M).parts d c.env w) w K F g →
      ((k i : ℕ) → w.state.clock.left ≡ suc k → k ≤ i → Blocked (body_of i (with_state w (stepped k w.state))) w K F g →
      Ends z (run (stepped k w.state)) g) → Ends z (spending w.state.clock.left w.state (Over ending.Steps w.state) run) g
  unfolding spends
  parts_cases zero w K F g run lM h f = by w.state.clock.left refl
    where
      by : (k : ℕ) → w.state.clock.left ≡ k → Ends z (spending k w.state (Over ending.Steps w.state) run) g
      by zero eq = over _ h
      by (suc k) eq = absurd (omega (arith, eq, lM))
  parts_cases (suc M) w K F g run lM h f = by w.state.clock.left refl h
    where
      by : (k : ℕ) → w.state.clock.left ≡ k → Blocked (spends k w (λ w. body_of M w)) w K F g →
          Ends z (spending k w.state (Over ending.Steps w.state) run) g
      by zero eq h = over _ h
      by (suc k) eq h = f k M eq (omega (arith, eq, lM)) h

  module _ (bl : BlockLeads) where
    -- one more Leave at p, in the same state of operands
    deferring_goes : (j n M p i : ℕ) (o : Around) (stk : List Val) (w : Scene) (go : Scene → Outcome) (b : Scopes) (f : Tasks) (a : ℕ)
        (st : List Val) (ls : List Val) (g : Goal) → n ≤ n0 → n ≤ M → Here z.code p (oper.Leave i) → i ≤ length c.life.defers →
        kept_defers c.handlers ≤ i → fits c.handlers p ≡ true →
        Good n c.who.path o c.held c.also c.size w.state ls →
        Blocked ((deeper z.program M).parts d c.env w) w (λ u. Goes z j n c o u.behind u.tasks (on a st) g (go u))
        (λ s. Goes z j n c o w.behind w.tasks (on a st) g (failed s)) g →
        ((u : Scene) (ls : List Val) → Good n c.who.path o c.held c.also c.size u.state ls →
        Goes z j n c o u.behind u.tasks (on a st) g (go u) → Ends z (at c o u.state ls stk p) g) →
        Ends z (at (deferring c q) o w.state ls stk p) g
    deferring_goes j n M p i o stk w go b f a st ls g ln lM hl li ki fp gd h next =
        let fi = gd.fine in let ag = (agrees gd) in
        let m0 : Machine = record {
          who = c.who;
          world = o.world;
          state = w.state;
          frame = record { life = (deferring c q).life; locals = ls; stack = stk; place = p; handlers = c.handlers };
          below = c.below;
        } in
        let rest1 : Step = spending w.state.clock.left w.state (Over ending.Steps w.state)
        (λ u. Next (machine c.who o.world u (record {
          born = c.life.born;
          defers = c.life.defers;
          noted = to p ∷ c.life.noted;
        }) ls stk q c.handlers c.below)) in
        one (oper.Leave i) m0 hl
        (subst (λ y. Ends z (only_where (not y) w.state (only_where (not (ltn i (kept_defers c.handlers))) w.state
        (leaves (ltn i (suc (length c.life.defers))) c.who o.world w.state (deferring c q).life ls stk p c.handlers c.below))) g)
        (sym (lt_false (suc (length c.life.defers)) i (λ x. omega (arith, x, li))))
        (subst (λ y. Ends z (only_where (not y) w.state (leaves (ltn i (suc (length c.life.defers))) c.who o.world w.state
        (deferring c q).life ls stk p c.handlers c.below)) g) (sym (lt_false i (kept_defers c.handlers) (λ x. omega (arith, x, ki))))
        (subst (λ y. Ends z (leaves y c.who o.world w.state (deferring c q).life ls stk p c.handlers c.below) g)
        (sym (ltn_less i (length c.life.defers) li))
        (subst (λ y. Ends z (only_where y w.state rest1) g) (sym fq)
        (parts_cases M w (λ u. Goes z j n c o u.behind u.tasks (on a st) g (go u))
        (λ s. Goes z j n c o w.behind w.tasks (on a st) g (failed s)) g _ (trans fi.steps lM) h (λ k i' eq ki' h.
        (bl j k i' (to p) stk (trans (less_of eq) (trans fi.steps ln)) ki' o (with_state w (stepped k w.state)) ls
        (fresh (slots c) ag (record { steps = le_self; low = trans (less_of eq) fi.low; apart = fi.apart }))).go g
        (block_goes j k o (to p) stk (body_of i' (with_state w (stepped k w.state))) (with_state w (stepped k w.state))
        (λ u. Goes z j n c o u.behind u.tasks (on a st) g (go u)) (λ s. Goes z j n c o w.behind w.tasks (on a st) g (failed s)) g
        (λ s ls y gd. y n o w.behind w.tasks (same_around le_self) ls (raise (trans (less_of eq) fi.steps) gd))
        (λ u ls l1 eb et gd z'. one oper.DeferEnd (machine c.who o.world u.state
        (record { born = c.life.born; defers = c.life.defers; noted = to p ∷ c.life.noted }) ls stk (suc e) c.handlers c.below) he
        (subst (λ y. Ends z (only_where y u.state (only_where (fits c.handlers p) u.state
        (Next (machine c.who o.world u.state c.life ls stk p c.handlers c.below)))) g)
        (sym (ltn_less (kept_noted c.handlers) (length c.life.noted) kn))
        (subst (λ y. Ends z (only_where y u.state (Next (machine c.who o.world u.state c.life ls stk p c.handlers c.below))) g) (sym fp)
        (next u ls (raise (trans (less_of eq) fi.steps) gd) z')))) w (less_of eq) refl refl h)))))))
      where
        less_of : {x k : ℕ} → x ≡ suc k → k ≤ x
        less_of eq = omega (arith, eq)

    -- what follows, where the block has left all as it was
    after_same : (j n m : ℕ) (o o' : Around) (b : Scopes) (f : Tasks) (a : ℕ) (st : List Val) (g : Goal) (w u : Scene) (x : Outcome) →
        Grown (PS j) z c m o' w.behind w.tasks n o b f → u.behind ≡ w.behind → u.tasks ≡ w.tasks → Goes z j n c o b f (on a st) g x →
        Goes z j m c o' u.behind u.tasks (on a st) g x
    after_same j n m o o' b f a st g w u x gr eb et k = shifted z j n m c o o' b u.behind f u.tasks (on a st) g x
        (subst (λ y. Grown (PS j) z c m o' y u.tasks n o b f) (sym eb)
        (subst (λ y. Grown (PS j) z c m o' w.behind y n o b f) (sym et) gr)) k

    blocked_map : (j n m : ℕ) (o o' : Around) (b : Scopes) (f : Tasks) (a : ℕ) (st : List Val) (g : Goal) (w : Scene)
        (go : Scene → Outcome) (x : Outcome) → Grown (PS j) z c m o' w.behind w.tasks n o b f →
        Blocked x w (λ u. Goes z j n c o b f (on a st) g (go u)) (λ s. Goes z j n c o b f (on a st) g (failed s)) g →
        Blocked x w (λ u. Goes z j m c o' u.behind u.tasks (on a st) g (go u))
        (λ s. Goes z j m c o' w.behind w.tasks (on a st) g (failed s)) g
    blocked_map j n m o o' b f a st g w go (value e v u) gr h = λ le eb et. after_same j n m o o' b f a st g w u (go u) gr eb et
        (h le eb et)
    blocked_map j n m o o' b f a st g w go (failed s) gr h = shifted z j n m c o o' b w.behind f w.tasks (on a st) g (failed s) gr h
    blocked_map j n m o o' b f a st g w go (returned v u) gr h = h
    blocked_map j n m o o' b f a st g w go (broke u) gr h = h
    blocked_map j n m o o' b f a st g w go (halted q) gr h = h
    blocked_map j n m o o' b f a st g w go (rests r u) gr h = h

    abbrev closed_by : ℕ → Outcome → Outcome
    closed_by M x = closing x (λ w. (deeper z.program M).parts d c.env w) (deferred c.env d) c.env

    -- where a task is cancelled, the block runs behind what is in it
    stopped_closing : (m : ℕ) → m ≤ n0 → free c.handlers c.life.noted c.below ≡ true → (r : Residual) (ts : List Task) →
        Stopped z m (deferring c q) ts (kids_of z r) (own_of z r) →
        Stopped z m c ts (kids_of z (deferred c.env d r)) (own_of z (deferred c.env d r))
    stopped_closing m lm fr r ts x = record {
      kids = x.kids;
      self = x.self;
      is = x.is;
      who = x.who;
      strict = x.strict;
      clears = x.clears;
      own = λ after todo o w M g le lM far h. x.own after todo o w M g le lM far
          (gone_then (own_of z r M w) (λ u. dropped ((deeper z.program M).parts d c.env u)) w _ _ g h (λ u lu eb et h ls stk pl ag.
          let v0 : World = in_clearing o after todo in
          let next : State → Step = λ s. clears (follows after) after todo o s in
          parts_cases M u _ (λ s. broke_off ending.Stuck s ≡ g.seen) g
          (λ s. Next (machine c.who v0 s (record {
            born = c.life.born;
            defers = c.life.defers;
            noted = gone ∷ c.life.noted;
          }) ls stk q [] c.below)) (trans lu lM)
          (of_dropped ((deeper z.program M).parts d c.env u) u _ g h) (λ k i eq ki h.
          subst (λ hs. Ends z (Next (machine c.who v0 (stepped k u.state)
          (record { born = c.life.born; defers = c.life.defers; noted = gone ∷ c.life.noted }) ls stk q hs c.below)) g)
          (no_handler c.handlers c.life.noted c.below fr)
          ((bl 0 k i gone stk (trans (less_of eq) (trans lu (trans le lm))) ki (record { world = v0; own = k })
          (with_state u (stepped k u.state)) ls (fresh (slots c) ag
          (record { steps = le_self; low = le_self; apart = apart_beside c.who.path v0 k far }))).go g
          (block_goes 0 k (record { world = v0; own = k }) gone stk (body_of i (with_state u (stepped k u.state)))
          (with_state u (stepped k u.state)) _ (λ s. broke_off ending.Stuck s ≡ g.seen) g
          (λ s ls y gd. subst (λ q. Ends z q g) (sym (free_fails c.who v0 s ls c.handlers c.life.noted c.below fr)) (over _ y))
          (λ y ls l1 eb et gd h. one oper.DeferEnd (machine c.who v0 y.state
          (record { born = c.life.born; defers = c.life.defers; noted = gone ∷ c.life.noted }) ls stk (suc e) c.handlers c.below) he
          (subst (λ b. Ends z (only_where b y.state (clears_frames next c.who v0 y.state (frame_of c ls stk (suc e) ∷ c.below))) g)
          (sym (ltn_less (kept_noted c.handlers) (length c.life.noted) kn))
          (h ls stk (suc e) ((agrees gd))))) u (less_of eq) refl refl h)))));
    }
      where
        less_of : {x k : ℕ} → x ≡ suc k → k ≤ x
        less_of eq = omega (arith, eq)

    module _ (a i : ℕ) (st : List Val) (hl : Here z.code a (oper.Leave i)) (ki : Keepable c.handlers c.life i)
        (fa : fits c.handlers a ≡ true) where
      abbrev Parked_closing : ℕ → Type 0
      Parked_closing j = (m own : ℕ) (r : Residual) (ts : List Task) → m ≤ n0 → ParkedR z j m own r (deferring c q) (on a st) ts →
          ParkedR z j m own (deferred c.env d r) c (on a st) ts

      closing_step : (j n M : ℕ) → n ≤ n0 → n ≤ M → (free c.handlers c.life.noted c.below ≡ true →
          (m own : ℕ) (r : Residual) (ts : List Task) → m ≤ n → ParkedR z j m own r (deferring c q) (on a st) ts →
          ParkedR z j m own (deferred c.env d r) c (on a st) ts) → (o : Around) (b : Scopes) (f : Tasks) (g : Goal) (x : Outcome) →
          Goes z j n c o b f (on a st) g (closed_by M x) → Goes z j n (deferring c q) o b f (on a st) g x
      unfolding closing
      closing_step j n M ln lM pk o b f g (value e1 v w) k = λ m o' gr ls gd bi.
          let gr' = grown_deferring (PS j) z c q m o' w.behind w.tasks gr in let mn = grown_steps (PS j) z c m o' w.behind w.tasks gr' in
          let fi = gd.fine in let ag = (agrees gd) in
          deferring_goes j m M a i o' (v ∷ st) w (λ u. value c.env v u) b f a st ls g (trans mn ln)
          (trans mn lM) hl ki.there ki.handled fa (fresh (slots c) ag fi)
          (blocked_map j n m o o' b f a st g w (λ u. value c.env v u) ((deeper z.program M).parts d c.env w) gr'
          (of_block z j n c o b f (on a st) g ((deeper z.program M).parts d c.env w) w (λ u. value c.env v u) k)
          )
          (λ u ls gd h. h m o' (same_around le_self) ls gd tt)
      closing_step j n M ln lM pk o b f g (failed s) k = λ m o' b' f' gr ls gd.
          k m o' b' f' (grown_deferring (PS j) z c q m o' b' f' gr) ls gd
      closing_step j n M ln lM pk o b f g (returned v w) k = λ m o' gr p ls stk re gd.
          let gr' = grown_deferring (PS j) z c q m o' w.behind w.tasks gr in let mn = grown_steps (PS j) z c m o' w.behind w.tasks gr' in
          by re (λ f1 h1. deferring_goes j m M p (left_at c.leave) o' (v ∷ stk) w (λ u. returned v u) b f a st ls g (trans mn ln)
          (trans mn lM) h1 kr.there kr.handled f1 gd
          (blocked_map j n m o o' b f a st g w (λ u. returned v u) ((deeper z.program M).parts d c.env w) gr'
          (of_block z j n c o b f (on a st) g ((deeper z.program M).parts d c.env w) w (λ u. returned v u) k)
          )
          (λ u ls gd h. h m o' (same_around le_self) p ls stk (again re) gd))
        where
          by : {A : Type 0} {p : ℕ} → Returns z c.handlers (deferring c q).life c.leave p →
              (fits c.handlers p ≡ true → Here z.code p (oper.Leave (left_at c.leave)) → A) → A
          by (return_leaves f1 f2 h1 x) go = go f1 h1
          by (return_now le x) go = let y = kr.there in absurd (omega (arith, le, y))

          again : {p : ℕ} → Returns z c.handlers (deferring c q).life c.leave p → Returns z c.handlers c.life c.leave p
          again (return_leaves f1 f2 h1 x) = return_leaves f1 f2 h1 x
          again (return_now le x) = let y = kr.there in absurd (omega (arith, le, y))
      closing_step j n M ln lM pk o b f g (broke w) k = λ m o' gr p ls stk br gd.
          let gr' = grown_deferring (PS j) z c q m o' w.behind w.tasks gr in let mn = grown_steps (PS j) z c m o' w.behind w.tasks gr' in
          by br (λ f1 h1. deferring_goes j m M p (kept_at c.exit) o' stk w (λ u. broke u) b f a st ls g (trans mn ln)
          (trans mn lM) h1 kb.there kb.handled f1 gd
          (blocked_map j n m o o' b f a st g w (λ u. broke u) ((deeper z.program M).parts d c.env w) gr'
          (of_block z j n c o b f (on a st) g ((deeper z.program M).parts d c.env w) w (λ u. broke u) k)
          )
          (λ u ls gd h. h m o' (same_around le_self) p ls stk (again br) gd))
        where
          by : {A : Type 0} {p : ℕ} {stk : List Val} → Breaks z c.handlers (deferring c q).life c.exit c.base p stk →
              (fits c.handlers p ≡ true → Here z.code p (oper.Leave (kept_at c.exit)) → A) → A
          by (break_leaves f1 f2 h1 on) go = go f1 h1
          by (break_now le on) go = let y = kb.there in absurd (omega (arith, le, y))

          again : {p : ℕ} {stk : List Val} → Breaks z c.handlers (deferring c q).life c.exit c.base p stk →
              Breaks z c.handlers c.life c.exit c.base p stk
          again (break_leaves f1 f2 h1 on) = break_leaves f1 f2 h1 on
          again (break_now le on) = let y = kb.there in absurd (omega (arith, le, y))
      closing_step j n M ln lM pk o b f g (halted y) k = k
      closing_step j n M ln lM pk o b f g (rests r w) k = λ m o' gr fr fi ts y.
          let gr' = grown_deferring (PS j) z c q m o' w.behind w.tasks gr in let mn = grown_steps (PS j) z c m o' w.behind w.tasks gr' in
          k m o' gr' fr fi ts (record {
            keeps = y.keeps;
            stands = pk fr w.state.clock.left o'.own r ts (trans fi.steps mn) y.stands;
            stopped = stopped_closing w.state.clock.left (trans fi.steps (trans mn ln)) fr r ts y.stopped;
          })

      closing_parked : (j : ℕ) → Parked_closing j
      closing_parked zero m own r ts lm k = tt
      closing_parked (suc j) m own r ts lm k = λ n v s hn lt pre post rs b f far M lM g y.
          k n v s hn lt pre post rs b f far M lM g
          (closing_step j s.clock.left M (trans lt lm) lM (λ fr m' own' r' ts' lt'. closing_parked j m' own' r' ts'
          (trans lt' (trans lt lm))) (around pre post rs own) b f g (resume z.program (deeper z.program M) r n v (scene s b f)) y)

      -- a `defer` and what follows it, up to the Leave of its block
      pub defer_leads : (j n M : ℕ) → n ≤ n0 → n ≤ M → (i0 l : ℕ) → Here z.code i0 (oper.Defer l) → fits c.handlers l ≡ true →
          q ≡ suc i0 → (o : Around) (s : State) (ls : List Val) (b : Scopes) (f : Tasks) (x : Outcome) →
          LeadsTo z j n (deferring c q) o b f (at (deferring c q) o s ls st l) (on a st) x →
          LeadsTo z j n c o b f (at c o s ls st i0) (on a st) (closed_by M x)
      defer_leads j n M ln lM i0 l hdf fl eq o s ls b f x h = record {
        go = λ g k. one (oper.Defer l) (machine c.who o.world s c.life ls st i0 c.handlers c.below) hdf
            (subst (λ y. Ends z (only_where y s (Next (machine c.who o.world s
            (record { born = c.life.born; defers = suc i0 ∷ c.life.defers; noted = c.life.noted }) ls st l c.handlers c.below))) g)
            (sym fl)
            (subst (λ y. Ends z (Next (machine c.who o.world s
            (record { born = c.life.born; defers = y ∷ c.life.defers; noted = c.life.noted }) ls st l c.handlers c.below)) g) eq
            (h.go g (closing_step j n M ln lM (λ fr m own r ts lm. closing_parked j m own r ts (trans lm ln)) o b f g x k))));
      }
