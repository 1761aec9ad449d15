-- The turns of a generator.
use Rattle.std.proofs.Common.{◌≡◌, ℕ, zero, suc, ◌+◌, ◌≤◌, ◌<◌, List, [], ◌∷◌, length, Option, Some, None, Bool, true, refl, sym, ap, ◌∙◌}
use Rattle.std.proofs.Common.{subst, arith}
use Rattle.std.specs.Prelude.{slice_get}
use Rattle.verse_code.specs.declared.operations.Op.TheVariants as op
use Rattle.verse_value.specs.Val.{Val}
use Rattle.verse_meaning_state.specs.State.{spending, stepped}
use Rattle.verse_meaning_state.specs.Waits.{nth}
use Rattle.verse_meaning.specs.Residuals as form
use Rattle.verse_meaning.specs.Residuals.{Residual, Values}
use Rattle.verse_meaning.specs.Outcomes.{World, with_state, out as no_step, Outcome, value, halted, valued, spends}
use Rattle.verse_meaning.specs.Resuming.{resume}
use Rattle.verse_meaning.specs.Runs.{deeper, on_next}
use Rattle.verse_code_machine.specs.Tasks.{Next, Over, machine}
use Rattle.verse_code_machine.specs.Frames.{fits, free, put, only_where, on_there}
use Rattle.lower_simulation.proofs.Claims.{kids_of, own_of, Setting, Ctx, Around, at, Good, Target, dropped, stored_in, Locals, Holds}
use Rattle.lower_simulation.proofs.Claims.{Low, same_around}
use Rattle.lower_simulation.proofs.Going.{le_self, shifted}
use Rattle.lower_simulation.proofs.Locals.{puts, holds_put}
use Rattle.lower_simulation.proofs.Leading.{LeadsTo, does_leads, open_leads, there_leads, spends_leads, no_steps, is_leads}
use Rattle.verse_meaning.specs.Forms.{next_value}
use Rattle.verse_value.specs.declared.runs.Ending.TheVariants as ending
use Rattle.verse_code_machine.specs.Acts.{Taken, ended, takes, unfit, taken_from, takes_step}
use Rattle.lower_simulation.proofs.Following.{value_step, value_parked}
use Rattle.lower_simulation_blocks.proofs.Domains.{Domain, Takes_next, domain_next}

-- the value stands in a local, with others that stay
abbrev pub stored : ℕ → List Val → ℕ → Locals → Target
stored p st r also = record { place = p; stack = st; lies = dropped; shown = stored_in r also }

nth_there : (ls : List Val) (i : ℕ) → i < length ls → (v : Val) × (nth ls i ≡ Some v)
nth_there [] i h = absurd (omega (arith, h))
nth_there (x ∷ ls) zero h = (x, refl)
nth_there (x ∷ ls) (suc i) h = nth_there ls i (omega (arith, h))

-- The turns of a generator whose domain is in the locals l and suc l, with the results so far in r. Take stands at p, a turn begins at q.
module _ (z : Setting) (top : ℕ) (c : Ctx) (r l p q : ℕ) (st : List Val)
    (take : slice_get z.code.ops p ≡ Some (op.Take l (suc (suc l)) q)) (fq : fits c.handlers q ≡ true)
    (fp : fits c.handlers (suc p) ≡ true)
    (lo : Low l c.held) (lo2 : Low l c.also) (rl : r < l) (room : suc (suc (suc l)) < c.size) (wrap : Values → Residual → Residual)
    (turn : Bool → ℕ → Val × Val → Val → World → Outcome) (hl : (vs : Values) (x : Residual) → form.leaves (wrap vs x) ≡ form.leaves x)
    (hk : (vs : Values) (r : Residual) (M : ℕ) (w : World) → kids_of z (wrap vs r) M w ≡ kids_of z r M w)
    (ho : (vs : Values) (r : Residual) (M : ℕ) (w : World) → own_of z (wrap vs r) M w ≡ own_of z r M w)
    (hw : (vs : Values) (l1 : ℕ) (x : Residual) (n : ℕ) (v : Val) (w : World) →
    resume z.program (deeper z.program l1) (wrap vs x) n v w ≡ valued (resume z.program (deeper z.program l1) x n v w) (wrap vs)
    (λ so_far w. (deeper z.program l1).takes (turn true l1) wrap c.env vs so_far w)) where
  abbrev pub Turn_leads : Type 0
  Turn_leads = (w : Bool) (M j m : ℕ) → free c.handlers c.life.noted c.below ≡ w → m ≤ top → m ≤ M →
      (a b : Val) (x : Val × Val) (so_far : Val) (o : Around) (y : World) (ls : List Val) →
      Good m c.who.path o c.held c.also c.size y.state ls →
      Holds ((suc l, b) ∷ (l, a) ∷ []) ls → nth ls (suc (suc l)) ≡ Some x.0 → nth ls (suc (suc (suc l))) ≡ Some x.1 →
      nth ls r ≡ Some so_far →
      LeadsTo z j m c o y.behind y.tasks (at c o y.state ls st q) (stored p st r ((suc l, b) ∷ (l, a) ∷ [])) (turn w M x so_far y)

  -- at the Take
  abbrev pub Takes_lead : ℕ → Type 0
  Takes_lead t = (w : Bool) (u M j n : ℕ) (vs : Values) (a b so_far : Val) (o : Around) (y : World) (ls : List Val) →
      free c.handlers c.life.noted c.below ≡ w → n ≤ top → n ≤ t → n ≤ u → n ≤ M → Domain vs a b → Holds ((suc l, b) ∷ (l, a) ∷ []) ls →
      nth ls r ≡ Some so_far →
      Good n c.who.path o c.held c.also c.size y.state ls → LeadsTo z j n c o y.behind y.tasks (at c o y.state ls st p)
      (stored (suc p) st r []) ((deeper z.program u).takes (turn w M) wrap c.env vs so_far y)

  none_taken : (u : ℕ) (go : Val × Val → Val → World → Outcome) (vs : Values) (so_far : Val) (y : World) → next_value vs ≡ None →
      (deeper z.program u).takes go wrap c.env vs so_far y ≡ value c.env so_far y
  unfolding on_next
  none_taken zero go vs so_far y e = ap (λ x. on_next x (value c.env so_far y) (λ x left. halted (no_step y.state))) e
  none_taken (suc u) go vs so_far y e = ap (λ x. on_next x (value c.env so_far y)
      (λ x left. spends y.state.clock.left y (λ y. valued (go x so_far y) (wrap left)
      (λ so_far y. (deeper z.program u).takes go wrap c.env left so_far y)))) e

  out_taken : (go : Val × Val → Val → World → Outcome) (vs : Values) (so_far : Val) (y : World) (x : (Val × Val) × Values) →
      next_value vs ≡ Some x → (deeper z.program 0).takes go wrap c.env vs so_far y ≡ halted (no_step y.state)
  unfolding on_next
  out_taken go vs so_far y x e = ap (λ x. on_next x (value c.env so_far y) (λ x left. halted (no_step y.state))) e

  some_taken : (u : ℕ) (go : Val × Val → Val → World → Outcome) (vs : Values) (so_far : Val) (y : World) (x : (Val × Val) × Values) →
      next_value vs ≡ Some x →
      (deeper z.program (suc u)).takes go wrap c.env vs so_far y ≡ spends y.state.clock.left y
      (λ y. valued (go x.0 so_far y) (wrap x.1) (λ so_far y. (deeper z.program u).takes go wrap c.env x.1 so_far y))
  unfolding on_next
  some_taken u go vs so_far y x e = ap (λ x. on_next x (value c.env so_far y)
      (λ x left. spends y.state.clock.left y (λ y. valued (go x so_far y) (wrap left)
      (λ so_far y. (deeper z.program u).takes go wrap c.env left so_far y)))) e

  -- a value is taken: it is written, and a turn begins
  turn_leads : (t : ℕ) → Turn_leads → ((s : ℕ) → suc s ≡ t → Takes_lead s) → (w : Bool) (u M j n : ℕ) (vs : Values) (so_far : Val)
      (o : Around) (y : World) (ls : List Val) → free c.handlers c.life.noted c.below ≡ w → n ≤ top → n ≤ t → n ≤ u → n ≤ M →
      (x : (Val × Val) × Values) (lm : ℕ) (v i d a b : Val) → l ≤ lm → lm ≤ suc l → next_value vs ≡ Some x → x.0 ≡ (v, i) →
      Domain x.1 a b →
      ((ls1 : List Val) → nth ls1 lm ≡ Some d → ((i : ℕ) → i < lm → nth ls1 i ≡ nth ls i) →
      ((i : ℕ) → lm < i → i < suc (suc l) → nth ls1 i ≡ nth ls i) → Holds ((suc l, b) ∷ (l, a) ∷ []) ls1) →
      nth ls r ≡ Some so_far → Good n c.who.path o c.held c.also c.size y.state ls →
      LeadsTo z j n c o y.behind y.tasks (only_where (fits c.handlers q) y.state
      (spending y.state.clock.left y.state (Over ending.Steps y.state)
      (λ u. on_there (put ls (suc (suc l)) v) y.state (λ ls. on_there (put ls (suc (suc (suc l))) i) y.state
      (λ ls. on_there (put ls lm d) y.state (λ ls.
      Next (machine c.who o.world u c.life ls st q c.handlers c.below))))))) (stored (suc p) st r [])
      ((deeper z.program u).takes (turn w M) wrap c.env vs so_far y)
  turn_leads t ht hs w zero M j n vs so_far o y ls fw lt lt2 lu lM x lm v i d a b l1 l2 e ex dm hold hr g =
      let f = g.fine.steps in
      is_leads z (out_taken (turn w M) vs so_far y x e) (open_leads z _ fq (no_steps z y.state.clock.left y _ (omega (arith, f, lu))))
  turn_leads zero ht hs w (suc u) M j n vs so_far o y ls fw lt lt2 lu lM x lm v i d a b l1 l2 e ex dm hold hr g =
      let f = g.fine.steps in
      is_leads z (some_taken u (turn w M) vs so_far y x e)
      (open_leads z _ fq (spends_leads z y.state.clock.left y _ _ (λ k q1. absurd (omega (arith, f, lt2, q1)))))
  turn_leads (suc t) ht hs w (suc u) M j n vs so_far o y ls fw lt lt2 lu lM x lm v i d a b l1 l2 e ex dm hold hr g =
      let f = g.fine.steps in let f2 = g.fine.low in let sz = g.sized in
      let p1 = puts ls (suc (suc l)) v (omega (arith, room, sz)) in
      let s1 = p1.sized in
      let p2 = puts p1.locals (suc (suc (suc l))) i (omega (arith, room, sz, s1)) in
      let s2 = p2.sized in
      let p3 = puts p2.locals lm d (omega (arith, room, sz, s1, s2, l2)) in
      is_leads z (some_taken u (turn w M) vs so_far y x e) (open_leads z _ fq (spends_leads z y.state.clock.left y _ _ (λ k q1.
      let y1 = with_state y (stepped k y.state) in
      let also = (suc l, b) ∷ (l, a) ∷ [] in
      let g1 : Good k c.who.path o c.held c.also c.size y1.state p3.locals = record {
        holds = holds_put c.held p2.locals l lm d p3 lo l1
            (holds_put c.held p1.locals l (suc (suc (suc l))) i p2 lo (omega arith)
            (holds_put c.held ls l (suc (suc l)) v p1 lo (omega arith) g.holds));
        besides = holds_put c.also p2.locals l lm d p3 lo2 l1
            (holds_put c.also p1.locals l (suc (suc (suc l))) i p2 lo2 (omega arith)
            (holds_put c.also ls l (suc (suc l)) v p1 lo2 (omega arith) g.besides));
        sized = p3.sized ∙ p2.sized ∙ p1.sized ∙ g.sized;
        fine = record { steps = le_self; low = omega (arith, q1, f2); apart = g.fine.apart };
      } in
      there_leads z y.state _ p1.is (there_leads z y.state _ p2.is (there_leads z y.state _ p3.is (record {
        go = λ g2 kk. (ht w M j k fw (omega (arith, q1, f, lt)) (omega (arith, q1, f, lM)) a b x.0 so_far o y1 p3.locals g1
            (hold p3.locals p3.here (λ i1 h. p3.below i1 h ∙ p2.below i1 (omega (arith, h, l2)) ∙ p1.below i1 (omega (arith, h, l2)))
            (λ i1 h h2. p3.above i1 h ∙ p2.below i1 (omega (arith, h2)) ∙ p1.below i1 h2))
            (p3.above (suc (suc l)) (omega (arith, l2)) ∙ p2.below (suc (suc l)) (omega arith) ∙ p1.here ∙
            ap (λ (x : Val × Val). Some x.0) (sym ex))
            (p3.above (suc (suc (suc l))) (omega (arith, l2)) ∙ p2.here ∙ ap (λ (x : Val × Val). Some x.1) (sym ex))
            (p3.below r (omega (arith, rl, l1)) ∙ p2.below r (omega (arith, rl)) ∙ p1.below r (omega (arith, rl)) ∙ hr)).go g2
            (value_step z c (stored p st r also) (stored (suc p) st r []) (wrap x.1)
            (λ m1 so_far y. (deeper z.program m1).takes (turn true m1) wrap c.env x.1 so_far y) (hl x.1) (hk x.1) (ho x.1) (hw x.1) j k
            (λ fr m b1 x' ts le. value_parked z c (stored p st r also) (stored (suc p) st r []) (wrap x.1)
            (λ m1 so_far y. (deeper z.program m1).takes (turn true m1) wrap c.env x.1 so_far y) (hl x.1) (hk x.1) (ho x.1) (hw x.1) k
            (λ m1 i1 m le ll o e v w ls gd bs g3 y3. (hs t refl true m1 m1 i1 m x.1 a b v o w ls fr (omega (arith, le, q1, f, lt))
            (omega (arith, le, q1, f, lt2)) ll ll dm bs.1 bs.0 gd).go g3 y3) j m b1 x' ts le)
            (λ so_far y. (deeper z.program u).takes (turn w M) wrap c.env x.1 so_far y)
            (λ m le o e v w1 ls gd bs g3 y3. (hs t refl w u M j m x.1 a b v o w1 ls fw (omega (arith, le, q1, f, lt))
            (omega (arith, le, q1, f, lt2)) (omega (arith, le, q1, f, lu)) (omega (arith, le, q1, f, lM)) dm bs.1 bs.0 gd).go g3 y3)
            o y1.behind y1.tasks g2 (turn w M x.0 so_far y1)
            (shifted z j n k c o o y1.behind y1.behind y1.tasks y1.tasks (stored (suc p) st r []) g2
            (valued (turn w M x.0 so_far y1) (wrap x.1) (λ so_far y. (deeper z.program u).takes (turn w M) wrap c.env x.1 so_far y))
            (same_around (omega (arith, q1, f))) kk));
      }))))))

  -- what follows the Take, by what is taken
  taken_leads : (t : ℕ) → Turn_leads → ((s : ℕ) → suc s ≡ t → Takes_lead s) → (w : Bool) (u M j n : ℕ) (vs : Values) (a b so_far : Val)
      (o : Around) (y : World) (ls : List Val) → free c.handlers c.life.noted c.below ≡ w → n ≤ top → n ≤ t → n ≤ u → n ≤ M →
      (x : Option ((Val × Val) × Values)) (k : Taken) → next_value vs ≡ x → Takes_next x a b k → Holds ((suc l, b) ∷ (l, a) ∷ []) ls →
      nth ls r ≡ Some so_far → Good n c.who.path o c.held c.also c.size y.state ls →
      LeadsTo z j n c o y.behind y.tasks (takes_step k l (suc (suc l)) q c.who o.world y.state c.life ls st p c.handlers c.below)
      (stored (suc p) st r []) ((deeper z.program u).takes (turn w M) wrap c.env vs so_far y)
  taken_leads t ht hs w u M j n vs a b so_far o y ls fw lt lt2 lu lM None ended e k h hr g = is_leads z
      (none_taken u (turn w M) vs so_far y e) (open_leads z _ fp (record { go = λ g1 hh. hh n o (same_around le_self) ls g (hr, tt) }))
  taken_leads t ht hs w u M j n vs a b so_far o y ls fw lt lt2 lu lM None (takes v i m x) e k h hr g = absurd k
  taken_leads t ht hs w u M j n vs a b so_far o y ls fw lt lt2 lu lM None unfit e k h hr g = absurd k
  taken_leads t ht hs w u M j n vs a b so_far o y ls fw lt lt2 lu lM (Some x) ended e k h hr g = absurd k
  taken_leads t ht hs w u M j n vs a b so_far o y ls fw lt lt2 lu lM (Some x) (takes v i zero d) e k h hr g =
      let z0 : l + 0 ≡ l = omega arith in
      turn_leads t ht hs w u M j n vs so_far o y ls fw lt lt2 lu lM x (l + 0) v i d d b (omega arith) (omega arith) e k.0 k.1
      (λ ls1 h1 below above. (above (suc l) (omega arith) (omega arith) ∙ h.0, (subst (λ x. nth ls1 x ≡ Some d) z0 h1, tt))) hr g
  taken_leads t ht hs w u M j n vs a b so_far o y ls fw lt lt2 lu lM (Some x) (takes v i (suc zero) d) e k h hr g =
      let z1 : l + 1 ≡ suc l = omega arith in
      turn_leads t ht hs w u M j n vs so_far o y ls fw lt lt2 lu lM x (l + 1) v i d a d (omega arith) (omega arith) e k.0 k.1
      (λ ls1 h1 below above. (subst (λ x. nth ls1 x ≡ Some d) z1 h1, (below l (omega arith) ∙ h.1.0, tt))) hr g
  taken_leads t ht hs w u M j n vs a b so_far o y ls fw lt lt2 lu lM (Some x) (takes v i (suc (suc m)) d) e k h hr g = absurd k
  taken_leads t ht hs w u M j n vs a b so_far o y ls fw lt lt2 lu lM (Some x) unfit e k h hr g = absurd k

  takes_by : (t : ℕ) → Turn_leads → ((s : ℕ) → suc s ≡ t → Takes_lead s) → Takes_lead t
  takes_by t ht hs w u M j n vs a b so_far o y ls fw lt lt2 lu lM dm h hr g =
      let sz = g.sized in
      let d1 = nth_there ls (suc (suc l)) (omega (arith, room, sz)) in
      let d2 = nth_there ls (suc (suc (suc l))) (omega (arith, room, sz)) in
      does_leads z take (there_leads z y.state _ h.1.0 (there_leads z y.state _ h.0
      (there_leads z y.state _ d1.1 (there_leads z y.state _ d2.1
      (taken_leads t ht hs w u M j n vs a b so_far o y ls fw lt lt2 lu lM (next_value vs) (taken_from a b) refl
      (domain_next vs a b dm) h hr g)))))

  pub takes_leads : Turn_leads → (t : ℕ) → Takes_lead t
  takes_leads ht zero = takes_by zero ht (λ s e. absurd (omega (arith, e)))
  takes_leads ht (suc t) = takes_by (suc t) ht (λ s e. let x : t ≡ s = omega (arith, e) in subst Takes_lead x (takes_leads ht t))
