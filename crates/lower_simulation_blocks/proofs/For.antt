-- `for`: its clauses in a failure context, its turns, its body.
use Rattle.std.proofs.Common.{◌≡◌, ℕ, suc, ◌≤◌, ◌<◌, List, [], ◌∷◌, ◌++◌, length, Option, Some, Bool, true, false, refl, sym, ◌∙◌, subst}
use Rattle.std.proofs.Common.{arith, ◌⊎◌, inl, inr}
use Rattle.std.specs.Prelude.{slice_get}
use Rattle.verse_base.specs.declared.places.Place.{Place}
use Rattle.verse_tree.specs.Tree.{Bytes, Tree, tree, Trees, no_trees, more_trees}
use Rattle.verse_tree.specs.Tree as t
use Rattle.verse_code.specs.declared.operations.Op.TheVariants as op
use Rattle.verse_value.specs.Val.{Val, unit, tuple, array, more_vals, no_vals}
use Rattle.verse_value.specs.Answer.{Answer, gives, fails, error, stuck as amiss}
use Rattle.verse_value.specs.Operations.{append_of, array_of}
use Rattle.verse_meaning_state.specs.State.{State}
use Rattle.verse_meaning_state.specs.Waits.{nth}
use Rattle.verse_meaning_state.specs.Effects.{still}
use Rattle.verse_meaning.specs.Residuals as form
use Rattle.verse_meaning.specs.Residuals.{Env, Residual, args, generated, Generator, of_elements, of_entries, of_range, Values}
use Rattle.verse_meaning.specs.Outcomes.{World, with_state, Outcome, value, valued, attempted, told, if_there}
use Rattle.verse_meaning.specs.Forms.{apply, with_taken, values_of, defined}
use Rattle.verse_meaning.specs.Evaluating.{ev, inner, clauses, level, claused, levelled, generates_from, Statement, plain, defines}
use Rattle.verse_meaning.specs.Evaluating.{defers, generates, statement_of}
use Rattle.verse_meaning.specs.Runs.{deeper}
use Rattle.verse_code_machine.specs.Frames.{fits, free, only_where, on_there, answered, answered_to, faulting, put}
use Rattle.verse_code_machine.specs.Acts.{place_at}
use Rattle.lower_code.specs.Pieces.{Spot, Maker, next, past, one, put_away, ahead, turning, ◌then◌}
use Rattle.lower_code.specs.Scopes.{hidden, Scope as Names}
use Rattle.lower_code.specs.declared.arounds.Around.{Around as Where}
use Rattle.lower_code.specs.Arounds.{up, enclosed}
use Rattle.lower_code.specs.Lowering as low
use Rattle.lower_code.specs.Lowering.{piece, bind, with_binder, with_generator, taking}
use Rattle.lower_code.proofs.Scopes.{binder_longer}
use Rattle.lower_simulation.proofs.Claims.{Way, Setting, Ends, Ctx, Around, at, Good, Target, on, pushed, spread, laid, keeping, paired}
use Rattle.lower_simulation.proofs.Claims.{Binds, Locals, Holds, Low, Above, same_around}
use Rattle.lower_simulation.proofs.Steps.{does, over}
use Rattle.lower_simulation.proofs.Going.{trans, le_self}
use Rattle.lower_simulation.proofs.Locals.{PutIs, puts, holds_put, low_more}
use Rattle.lower_simulation.proofs.Leading.{LeadsTo, shown_leads, does_leads, open_leads, there_leads, fails_here}
use Rattle.lower_simulation.proofs.Standing.{Stands, op_stands, end_at, past_le, then_stand, narrow_stands, narrowed, numbering_stand}
use Rattle.lower_simulation.proofs.Standing.{put_stand, ahead_stand, turn_spot, Turning_at, turning_stand, behind_place}
use Rattle.lower_simulation.proofs.Widening.{holding_all, holding_leads, from_leads}
use Rattle.lower_simulation.proofs.Forms.{Static, on_one, end_leads, EvLeads}
use Rattle.lower_simulation.proofs.Contexts.{trying, trying_static}
use Rattle.lower_simulation_blocks.proofs.Failing.{attempts_more, attempt_by, commit_leads, quiet_leads}
use Rattle.lower_simulation_blocks.proofs.Definitions.{High, shown_static, shown_good, bind_leads}
use Rattle.lower_simulation_blocks.proofs.Blocks.{InnerLeads}
use Rattle.lower_simulation_blocks.proofs.Domains.{Domain}
use Rattle.lower_simulation_blocks.proofs.Takes.{stored, takes_leads}
use Rattle.lower_simulation_blocks.proofs.Generators.{lies_of, shown_of, Drawn, four, generator_fits, generator_size, four_low}
use Rattle.lower_simulation_blocks.proofs.Generators.{begin_leads}

module _ (z : Setting) (differ : ℕ → ℕ → Bool) (top : ℕ) where
  -- ---- what is to be shown of the clauses

  -- of both ends of a range, one above the other
  abbrev pub BothLead : Tree → Type 0
  BothLead x = (ss : Names) (a : Where) (s e : Spot) (out : Way) (M j n : ℕ) (c : Ctx) (o : Around) (y : World) (ls st : List Val) →
      Stands z (fits c.handlers) c.size out s (low.inner z.program differ x ss a s) e → Static top c ss out a →
      free c.handlers c.life.noted c.below ≡ false → n ≤ top → n ≤ M → Above a.height st c.base →
      Good n c.who.path o c.held c.also c.size y.state ls →
      LeadsTo z j n c o y.behind y.tasks (at c o y.state ls st s.at)
      (record { place = e.at; stack = st; lies = spread; shown = paired }) (inner z.program (deeper z.program M) x false c.env y)

  pub both_lead : (n : ℕ) (pl : Place) (q : Bytes) (u u2 : Tree) → EvLeads z differ top u → EvLeads z differ top u2 →
      BothLead (tree n pl (t.Shape.range q u u2))
  both_lead n1 pl q u u2 h1 h2 ss a s e out M j n c o y ls st i sc fw lt lM ab g =
      let f : Maker = piece z.program differ u ss a in
      let m : Spot = past s (f s) in
      let x = then_stand z s e f (piece z.program differ u2 ss (up a)) i in
      let into : Target = record { place = e.at; stack = st; lies = spread; shown = paired } in
      let ends : Val → Val → World → Outcome = λ v1 v2 y. value c.env (tuple (more_vals v1 (more_vals v2 no_vals))) y in
      let other : World → Outcome = λ y. ev z.program (deeper z.program M) u2 false c.env y in
      quiet_leads z {c = c} (on m.at st) into (ev z.program (deeper z.program M) u false c.env y) (λ r. r)
      (λ v1 y. valued (other y) (λ r. r) (λ v2 y. ends v1 v2 y)) fw (h1 ss a s m out false M j n c o y ls st x.0 sc fw lt lM ab g)
      (λ k le o e1 v1 w1 ls g bs. quiet_leads z {c = c} (on e.at (v1 ∷ st)) into (other w1) (λ r. r) (λ v2 y. ends v1 v2 y) fw
      (h2 ss (up a) m e out false M j k c o w1 ls (v1 ∷ st) x.1 (on_one sc) fw (trans le lt) (trans le lM) ab g)
      (λ m le o e2 v2 w2 ls g bs. record { go = λ t h. h m o (same_around le_self) ls g tt }))

  -- of what a generator draws from
  abbrev pub Drawn_lead : Generator → Tree → Type 0
  Drawn_lead (of_elements q) x = InnerLeads z differ top x
  Drawn_lead (of_entries k q) x = InnerLeads z differ top x
  Drawn_lead (of_range q) x = BothLead x

  drawn_leads : (g : Generator) (x : Tree) → Drawn_lead g x → (ss : Names) (a : Where) (s e : Spot) (out : Way) (M j n : ℕ) (c : Ctx)
      (o : Around) (y : World) (ls st : List Val) →
      Stands z (fits c.handlers) c.size out s (low.inner z.program differ x ss a s) e → Static top c ss out a →
      free c.handlers c.life.noted c.below ≡ false → n ≤ top → n ≤ M → Above a.height st c.base →
      Good n c.who.path o c.held c.also c.size y.state ls →
      LeadsTo z j n c o y.behind y.tasks (at c o y.state ls st s.at)
      (record { place = e.at; stack = st; lies = lies_of g; shown = shown_of g }) (inner z.program (deeper z.program M) x false c.env y)
  drawn_leads (of_elements q) x h ss a s e out M = h ss a s e out false M
  drawn_leads (of_entries k q) x h ss a s e out M = h ss a s e out false M
  drawn_leads (of_range q) x h ss a s e out M = h ss a s e out M

  drawn : (g : Generator) (held : Locals) (e : Env) (v : Val) (ls : List Val) → Binds (shown_of g) held e v ls → Drawn g v
  drawn (of_elements q) held e v ls h = h
  drawn (of_entries k q) held e v ls h = h
  drawn (of_range q) held e v ls h = h

  -- of a clause
  abbrev pub Clause_lead : Statement → Tree → Type 0
  Clause_lead plain x = EvLeads z differ top x
  Clause_lead (defines d) x = InnerLeads z differ top x
  Clause_lead (defers d) x = Unit {0}
  Clause_lead (generates g) x = Drawn_lead g x

  abbrev pub All_clauses : Trees → Type 0
  All_clauses no_trees = Unit {0}
  All_clauses (more_trees x cs) = Clause_lead (statement_of x) x × All_clauses cs

  -- ---- a `for` with the body b, whose results are in local r
  module _ (b : Tree) (hb : EvLeads z differ top b) (a : Where) (r pno : ℕ) (pl : Place) (hp : place_at z.code pno ≡ Some pl) where
    abbrev body_code : Names → Maker
    body_code ss = one op.Commit then piece z.program differ b ss a then one (op.Append r pno)

    abbrev levels_code : Trees → Names → Maker
    levels_code cs ss = low.levels z.program differ cs ss (enclosed a) body_code

    abbrev run_body : ℕ → Bool → Env → World → Outcome
    run_body M w e y = ev z.program (deeper z.program M) b w e y

    abbrev level_of : Trees → ℕ → Bool → Env → Val → Val → World → Outcome
    level_of cs M w e v so_far y = level z.program (deeper z.program M) cs b (run_body M w) pl e v so_far y

    abbrev clauses_of : Trees → ℕ → Env → Val → World → Outcome
    clauses_of cs M e last y = clauses z.program (deeper z.program M) cs false e last y

    abbrev turn_of : ℕ → Bool → Env → Generator → Trees → Val × Val → Val → World → Outcome
    turn_of M w e g cs x so_far y =
        attempted (clauses_of cs M (with_taken g x e) unit y) y (λ e1 v y. level_of cs M w e1 v so_far y) (λ y. value e so_far y)

    -- none of these locals is r
    abbrev Other : Locals → Type 0
    Other [] = Unit {0}
    Other (x ∷ ks) = ((x.0 < r) ⊎ (r < x.0)) × Other ks

    low_other : (ks : Locals) → Low r ks → Other ks
    low_other [] h = tt
    low_other (x ∷ ks) h = (inl h.0, low_other ks h.1)

    high_other : (n : ℕ) (more ks : Locals) → r < n → High n more → Other ks → Other (more ++ ks)
    high_other n [] ks lt h q = q
    high_other n (x ∷ more) ks lt h q = (inr (let y = h.0 in omega (arith, lt, y)), high_other n more ks lt h.1 q)

    other_put : (ks : Locals) (ls : List Val) (v : Val) (p : PutIs ls r v) → Other ks → Holds ks ls → Holds ks p.locals
    other_put [] ls v p q h = tt
    other_put (x ∷ ks) ls v p q h = (by_side q.0, other_put ks ls v p q.1 h.1)
      where
        by_side : (x.0 < r) ⊎ (r < x.0) → nth p.locals x.0 ≡ Some x.1
        by_side (inl lt) = p.below x.0 lt ∙ h.0
        by_side (inr lt) = p.above x.0 lt ∙ h.0

    -- the results stay too
    results_static : {c : Ctx} {ss : Names} {out : Way} {a : Where} (so_far : Val) → r < length ss → Static top c ss out a →
        Static top (holding_all c c.env [] ((r, so_far) ∷ [])) ss out a
    results_static so_far rl sc = record {
      fits = sc.fits;
      low = sc.low;
      low_also = (rl, sc.low_also);
      loops = sc.loops;
      leaves = sc.leaves;
      breaks = sc.breaks;
      returns = sc.returns;
      defers = sc.defers;
      noted = sc.noted;
      born = sc.born;
    }

    -- ---- the body, and its value

    append_leads : {j n : ℕ} {c : Ctx} {o : Around} {ls st : List Val} {p : ℕ} {here : Option Place} (x : Answer Val) (y : World)
        (env : Env) → here ≡ Some pl → fits c.handlers (suc p) ≡ true → r < c.size → Other c.held → Other c.also →
        Good n c.who.path o c.held c.also c.size y.state ls →
        LeadsTo z j n c o y.behind y.tasks (answered_to here r x c.who o.world y.state c.life ls st p c.handlers c.below)
        (stored (suc p) st r []) (told (still x y.state) pl env y)
    unfolding told
    append_leads {n = n} {c} {o} {ls} (gives v) y env hh hf hr o1 o2 g =
        let sz = g.sized in
        let p1 = puts ls r v (omega (arith, hr, sz)) in
        there_leads z y.state _ p1.is (open_leads z _ hf (record {
          go = λ t h. h n o (same_around le_self) p1.locals (record {
            holds = other_put c.held ls v p1 o1 g.holds;
            besides = other_put c.also ls v p1 o2 g.besides;
            sized = p1.sized ∙ g.sized;
            fine = g.fine;
          }) (p1.here, tt);
        }))
    append_leads fails y env hh hf hr o1 o2 g = fails_here z g
    append_leads (error q) y env hh hf hr o1 o2 g =
        open_leads z _ hf (record { go = λ t h. subst (λ x. Ends z (faulting x q y.state) t) (sym hh) (over _ h) })
    append_leads amiss y env hh hf hr o1 o2 g = record { go = λ t h. over _ h }

    -- behind the last clause, in the failure context
    body_leads : (ss : Names) (m e : Spot) (out : Way) (w : Bool) (M j n : ℕ) (c : Ctx) (o : Around) (y : World) (ls st : List Val)
        (so_far v : Val) (u : State) (a0 : ℕ) → Stands z (fits c.handlers) c.size out m (body_code ss m) e → Static top c ss out a →
        r < length ss → r < c.size → free c.handlers c.life.noted c.below ≡ w → n ≤ top → n ≤ M → Above a.height st c.base →
        Other c.held → Other c.also → Good n c.who.path o c.held ((r, so_far) ∷ c.also) c.size y.state ls →
        LeadsTo z j n c o y.behind y.tasks (at (trying c u a0 e.at st) o y.state ls [] m.at) (stored e.at st r [])
        (level_of no_trees M w c.env v so_far y)
    body_leads ss m e out w M j n c o y ls st so_far v u a0 i sc rl rs fw lt lM ab o1 o2 g =
        let f : Maker = piece z.program differ b ss a in
        let i1 = then_stand z m e (one op.Commit) (f then one (op.Append r pno)) i in
        let i2 = then_stand z (next m) e f (one (op.Append r pno)) i1.1 in
        let p : Spot = past (next m) (f (next m)) in
        let app = op_stands z i2.1 in
        let c1 = holding_all c c.env [] ((r, so_far) ∷ []) in
        let kept_in : Target = record { place = p.at; stack = st; lies = pushed; shown = keeping ((r, so_far) ∷ []) } in
        let run : Outcome = ev z.program (deeper z.program M) b w c.env y in
        let after : ℕ → Val → World → Outcome = λ M v y. apply z.program (deeper z.program M) (form.appending so_far pl) (v ∷ []) false
        c.env y in
        commit_leads z u a0 e.at (op_stands z i1.0).is (op_stands z i1.0).fit
        (shown_leads z {c = c} kept_in (stored e.at st r []) run (λ x. args c.env (form.appending so_far pl) [] x [])
        (λ w M v y. after M v y)
        fw lM (λ x. refl) (λ r M w. refl) (λ r M w. refl) (λ l x n v y. refl)
        (holding_leads z c c.env [] ((r, so_far) ∷ []) _
        (from_leads z c1 (on p.at st) kept_in (λ m o e v w ls gd bs g f. f (gd.besides.0, tt)) _
        (hb ss a (next m) p out w M j n c1 o y ls st i2.0 (results_static so_far rl sc) fw lt lM ab g)))
        (λ w M i1 m fr le lM o e1 v y ls gd bs. subst (λ (x : Spot). LeadsTo z i1 m c o y.behind y.tasks
        (at c o y.state ls (v ∷ st) p.at) (stored x.at st r []) (after M v y)) i2.1.ends
        (does_leads z app.is (there_leads z y.state _ bs.0 (append_leads (append_of so_far v) y c.env hp app.fit rs o1 o2 gd)))))

    -- ---- clauses

    -- some operation stands for clauses
    levels_more : (cs : Trees) (ok : ℕ → Bool) (size : ℕ) (out : Way) (ss : Names) (s e : Spot) →
        Stands z ok size out s (levels_code cs ss s) e → s.at < e.at
    unfolding low.claused
    levels_more no_trees ok size out ss s e i =
        let f : Maker = piece z.program differ b ss a then one (op.Append r pno) in
        let i1 = then_stand z s e (one op.Commit) f i in
        past_le (next s) e (f (next s)) i1.1.ends
    levels_more (more_trees x cs) ok size out ss s e i = by (statement_of x) i
      where
        whole : Maker
        whole = piece z.program differ x ss (enclosed a)

        part : Maker
        part = low.inner z.program differ x ss (enclosed a)

        by : (q : Statement) → Stands z ok size out s (low.claused z.program differ q ss whole part (λ ss. levels_code cs ss) s) e →
            s.at < e.at
        by plain i =
            let g : Maker = levels_code cs ss in
            let m : Spot = past s (whole s) in
            let r1 = then_stand z s e whole (one op.Drop then g) i in
            let r2 = then_stand z m e (one op.Drop) g r1.1 in
            let x1 = past_le s m (whole s) refl in
            let x2 = past_le (next m) e (g (next m)) r2.1.ends in
            omega (arith, x1, x2)
        by (defines d) i =
            let g : Maker = levels_code cs (with_binder d ss) in
            let f : Maker = bind d (length ss) in
            let m : Spot = past s (part s) in
            let m2 : Spot = past m (f m) in
            let r1 = then_stand z s e part (f then one op.Drop then g) i in
            let r2 = then_stand z m e f (one op.Drop then g) r1.1 in
            let r3 = then_stand z m2 e (one op.Drop) g r2.1 in
            let x1 = past_le s m (part s) refl in
            let x2 = past_le m m2 (f m) refl in
            let x3 = past_le (next m2) e (g (next m2)) r3.1.ends in
            omega (arith, x1, x2, x3)
        by (defers d) i = let x = end_at z i in omega (arith, x)
        by (generates q) i =
            let g : Maker = levels_code cs (with_generator q ss) in
            let m : Spot = past s (part s) in
            let r1 = then_stand z s e part (turning (taking q (length ss)) (length ss) g) i in
            let t1 = turning_stand z m e (taking q (length ss)) (length ss) g r1.1 in
            let x1 = past_le s m (part s) refl in
            let x2 = t1.order in
            let x3 = t1.last in
            omega (arith, x1, x2, x3)

    -- what is to be shown of clauses with what follows them, in the failure context that began in y0 with the Try at a0: `code` are their
    -- operations, `part` what they come to up to the next generator or to their end, `rest` what follows from there
    abbrev Attempt_leads : (code : Names → Maker) → (part : ℕ → Env → Val → World → Outcome) →
        (rest : ℕ → Bool → Env → Val → Val → World → Outcome) → Type 0
    Attempt_leads code part rest = (ss : Names) (s e : Spot) (out : Way) (w : Bool) (M j n : ℕ) (c : Ctx) (o : Around) (y0 : World)
        (u : State) (ls st : List Val) (so_far last : Val) (a0 : ℕ) (e2 : Env) →
        Stands z (fits c.handlers) c.size out s (code ss s) e → a0 < s.at → Static top c ss out a → r < length ss → r < c.size →
        free c.handlers c.life.noted c.below ≡ w → n ≤ top → n ≤ M → Above a.height st c.base → Other c.held → Other c.also →
        Good n c.who.path o c.held ((r, so_far) ∷ c.also) c.size u ls →
        LeadsTo z j n c o y0.behind y0.tasks (at (trying c y0.state a0 e.at st) o u ls [] s.at) (stored e.at st r [])
        (attempted (part M c.env last (with_state y0 u)) y0 (λ e1 v y. rest M w e1 v so_far y) (λ y. value e2 so_far y))

    abbrev Clauses_lead : Trees → Type 0
    Clauses_lead cs = Attempt_leads (levels_code cs) (clauses_of cs) (level_of cs)

    -- a turn: the Try at a0, the clauses, what follows them
    abbrev Turn_lead : Trees → Type 0
    Turn_lead cs = (ss : Names) (s e : Spot) (out : Way) (w : Bool) (M j n : ℕ) (c : Ctx) (o : Around) (y : World) (ls st : List Val)
        (so_far : Val) (a0 : ℕ) (e2 : Env) → Stands z (fits c.handlers) c.size out s (levels_code cs ss s) e →
        slice_get z.code.ops a0 ≡ Some (op.Try e.at) → suc a0 ≡ s.at → Static top c ss out a → r < length ss → r < c.size →
        free c.handlers c.life.noted c.below ≡ w → n ≤ top → n ≤ M → Above a.height st c.base → nth ls r ≡ Some so_far → Other c.held →
        Other c.also → Good n c.who.path o c.held c.also c.size y.state ls →
        LeadsTo z j n c o y.behind y.tasks (at c o y.state ls st a0) (stored e.at st r [])
        (attempted (clauses_of cs M c.env unit y) y (λ e1 v y. level_of cs M w e1 v so_far y) (λ y. value e2 so_far y))

    turn_from : (cs : Trees) → Clauses_lead cs → Turn_lead cs
    turn_from cs hc ss s e out w M j n c o y ls st so_far a0 e2 i ht ha sc rl rs fw lt lM ab hr o1 o2 g =
        let x = levels_more cs (fits c.handlers) c.size out ss s e i in
        let fi = narrowed s.at s.at a0 e.at i.fit le_self (omega (arith, x)) (omega (arith, ha)) x (suc a0) (omega (arith, ha))
        (omega (arith, ha)) in
        does_leads z ht (open_leads z _ fi (subst (λ (p : ℕ). LeadsTo z j n c o y.behind y.tasks
        (at (trying c y.state a0 e.at st) o y.state ls [] p) (stored e.at st r [])
        (attempted (clauses_of cs M c.env unit y) y (λ e1 v y. level_of cs M w e1 v so_far y) (λ y. value e2 so_far y))) (sym ha)
        (hc ss s e out w M j n c o y y.state ls st so_far unit a0 e2 i (omega (arith, ha)) sc rl rs fw lt lM ab o1 o2
        (record { holds = g.holds; besides = (hr, g.besides); sized = g.sized; fine = g.fine }))))

    -- where a clause fails, the results are as they were
    missed_leads : {j n : ℕ} {c : Ctx} {o : Around} {ls st : List Val} {p : ℕ} (y : World) (so_far : Val) (e2 : Env) →
        Good n c.who.path o c.held ((r, so_far) ∷ c.also) c.size y.state ls →
        LeadsTo z j n c o y.behind y.tasks (at c o y.state ls st p) (stored p st r []) (value e2 so_far y)
    missed_leads {n = n} {o = o} {ls} y so_far e2 g = record {
      go = λ t h. h n o (same_around le_self) ls
          (record { holds = g.holds; besides = g.besides.1; sized = g.sized; fine = g.fine }) (g.besides.0, tt);
    }

    -- ---- the turns of a generator, from the Commit behind what it draws from
    module _ (g : Generator) (cs : Trees) (turn : Turn_lead cs) (ss : Names) (m e : Spot) (out : Way) (w0 : Bool) (M0 j0 n0 : ℕ) (c : Ctx)
        (o0 : Around) (y0 : World) (ls0 st : List Val) (so_far0 : Val) (sc : Static top c ss out a) (rl : r < length ss) (rs : r < c.size)
        (fw0 : free c.handlers c.life.noted c.below ≡ w0) (lt0 : n0 ≤ top) (lM0 : n0 ≤ M0) (ab : Above a.height st c.base)
        (o1 : Other c.held) (o2 : Other c.also)
        (t1 : Turning_at z (fits c.handlers) c.size out m (length ss) (taking g (length ss))
        (levels_code cs (with_generator g ss) (turn_spot z m)) e)
        (g0 : Good n0 c.who.path o0 c.held ((r, so_far0) ∷ c.also) c.size y0.state ls0) where
      abbrev l : ℕ
      l = length ss

      abbrev end : Spot
      end = past (turn_spot z m) (levels_code cs (with_generator g ss) (turn_spot z m))

      abbrev wrap : Values → Residual → Residual
      wrap vs x = generated c.env g cs b pl vs x

      abbrev taken : ℕ → Bool → Val × Val → Val → World → Outcome
      taken M w x so_far y = turn_of M w c.env g cs x so_far y

      -- within a turn
      abbrev d : (x1 x2 : Val) → Val × Val → Ctx
      d x1 x2 x = holding_all c (with_taken g x c.env) (four l x1 x2 x) []

      turn_static : (x1 x2 : Val) (x : Val × Val) → Static top (d x1 x2 x) (with_generator g ss) out a
      turn_static x1 x2 x = record {
        fits = generator_fits g x1 x2 x ss c.env c.held sc.fits;
        low = subst (λ n. Low n (four l x1 x2 x ++ c.held)) (sym (generator_size g ss)) (four_low l x1 x2 x c.held sc.low);
        low_also = subst (λ n. Low n c.also) (sym (generator_size g ss))
            (low_more l (suc (suc (suc (suc l)))) c.also (omega arith) sc.low_also);
        loops = sc.loops;
        leaves = sc.leaves;
        breaks = sc.breaks;
        returns = sc.returns;
        defers = sc.defers;
        noted = sc.noted;
        born = sc.born;
      }

      turn_leads : (w : Bool) (M j n : ℕ) → free c.handlers c.life.noted c.below ≡ w → n ≤ top → n ≤ M → (x1 x2 : Val) (x : Val × Val)
          (so_far : Val) (o : Around) (y : World) (ls : List Val) → Good n c.who.path o c.held c.also c.size y.state ls →
          Holds ((suc l, x2) ∷ (l, x1) ∷ []) ls → nth ls (suc (suc l)) ≡ Some x.0 → nth ls (suc (suc (suc l))) ≡ Some x.1 →
          nth ls r ≡ Some so_far →
          LeadsTo z j n c o y.behind y.tasks (at c o y.state ls st (suc (suc (suc m.at))))
          (stored end.at st r ((suc l, x2) ∷ (l, x1) ∷ [])) (taken M w x so_far y)
      turn_leads w M j n fw lt lM x1 x2 x so_far o y ls gd hab hx hk hr =
          let rl4 : r < length (with_generator g ss) = subst (λ n. r < n) (sym (generator_size g ss)) (omega (arith, rl)) in
          holding_leads z c (with_taken g x c.env) (four l x1 x2 x) [] _
          (from_leads z (d x1 x2 x) (stored end.at st r []) (stored end.at st r ((suc l, x2) ∷ (l, x1) ∷ []))
          (λ m o e v w ls gd bs g f. f (bs.0, (gd.holds.1.1.0, (gd.holds.1.1.1.0, tt)))) _
          (turn (with_generator g ss) (turn_spot z m) end out w M j n (d x1 x2 x) o y ls st so_far (suc (suc (suc m.at))) c.env t1.inner
          t1.tries refl (turn_static x1 x2 x) rl4 rs fw lt lM ab hr
          (inr (omega (arith, rl)), (inr (omega (arith, rl)), (inr (omega (arith, rl)), (inr rl, o1)))) o2
          (record { holds = (hk, (hx, (hab.0, (hab.1.0, gd.holds)))); besides = gd.besides; sized = gd.sized; fine = gd.fine })))

      -- what is drawn from lies in its locals: the Jump to the Take, and the turns
      domain_leads : (vs : Values) (x1 x2 : Val) → Domain vs x1 x2 → LeadsTo z j0 n0 c o0 y0.behind y0.tasks
          (on_there (put ls0 l x1) y0.state (λ ls. on_there (put ls (suc l) x2) y0.state
          (λ ls. only_where (fits c.handlers (suc (suc m.at))) y0.state (at c o0 y0.state ls st (suc (suc m.at))))))
          (stored e.at st r []) ((deeper z.program M0).takes (taken M0 w0) wrap c.env vs so_far0 y0)
      domain_leads vs x1 x2 dm =
          let sz = g0.sized in
          let rm = t1.room in
          let u1 = t1.order in
          let u2 = t1.last in
          let p1 = puts ls0 l x1 (omega (arith, rm, sz)) in
          let s1 = p1.sized in
          let p2 = puts p1.locals (suc l) x2 (omega (arith, rm, sz, s1)) in
          there_leads z y0.state _ p1.is (there_leads z y0.state _ p2.is
          (open_leads z _ (t1.wide (suc (suc m.at)) (omega arith) (omega (arith, u1, u2)))
          (does_leads z t1.jump (open_leads z _ (t1.wide end.at (omega (arith, u1)) (omega (arith, u2)))
          (subst (λ x. LeadsTo z j0 n0 c o0 y0.behind y0.tasks (at c o0 y0.state p2.locals st end.at) (stored x st r [])
          ((deeper z.program M0).takes (taken M0 w0) wrap c.env vs so_far0 y0)) u2
          (takes_leads z top c r l end.at (suc (suc (suc m.at))) st t1.take
          (t1.wide (suc (suc (suc m.at))) (omega arith) (omega (arith, u1, u2)))
          (t1.wide (suc end.at) (omega (arith, u1)) (omega (arith, u2))) sc.low sc.low_also rl rm wrap (λ w M. taken M w) (λ vs x. refl)
          (λ vs r M w. refl) (λ vs r M w. refl) (λ vs l1 x n v w. refl) turn_leads n0 w0 M0 M0 j0 n0 vs x1 x2 so_far0 o0 y0 p2.locals fw0
          lt0 le_self lM0 lM0 dm (p2.here, (p2.below l (omega arith) ∙ p1.here, tt))
          (p2.below r (omega (arith, rl)) ∙ p1.below r rl ∙ g0.besides.0)
          (record {
            holds = holds_put c.held p1.locals l (suc l) x2 p2 sc.low (omega arith)
                (holds_put c.held ls0 l l x1 p1 sc.low le_self g0.holds);
            besides = holds_put c.also p1.locals l (suc l) x2 p2 sc.low_also (omega arith)
                (holds_put c.also ls0 l l x1 p1 sc.low_also le_self g0.besides.1);
            sized = p2.sized ∙ p1.sized ∙ g0.sized;
            fine = g0.fine;
          })))))))

      drawn_turns : (dv : Val) → Drawn g dv → (u : State) (a0 : ℕ) → LeadsTo z j0 n0 c o0 y0.behind y0.tasks
          (at (trying c u a0 e.at st) o0 y0.state ls0 (laid (lies_of g) dv []) m.at) (stored e.at st r [])
          (if_there (values_of g dv) y0 (λ vs. (deeper z.program M0).takes (taken M0 w0) wrap c.env vs so_far0 y0))
      drawn_turns dv hd u a0 =
          let u1 = t1.order in
          let u2 = t1.last in
          does_leads z t1.commit (open_leads z _ (t1.wide (suc m.at) (omega arith) (omega (arith, u1, u2)))
          (does_leads z t1.begins (begin_leads z j0 n0 c o0 y0 ls0 st (stored e.at st r []) l (suc m.at)
          (λ vs. (deeper z.program M0).takes (taken M0 w0) wrap c.env vs so_far0 y0) g domain_leads dv hd)))

    -- ---- a clause, and those behind it

    abbrev claused_code : Statement → Tree → Trees → Names → Maker
    claused_code q x cs ss = low.claused z.program differ q ss (piece z.program differ x ss (enclosed a))
        (low.inner z.program differ x ss (enclosed a)) (λ ss. levels_code cs ss)

    abbrev claused_of : Statement → Tree → Trees → ℕ → Env → Val → World → Outcome
    claused_of q x cs M e last y = claused z.program (deeper z.program M) q e y (λ y. ev z.program (deeper z.program M) x false e y)
        (λ y. inner z.program (deeper z.program M) x false e y) (λ e v y. clauses_of cs M e v y)

    abbrev levelled_of : Statement → Trees → ℕ → Bool → Env → Val → Val → World → Outcome
    levelled_of q cs M w e v so_far y = levelled z.program (deeper z.program M) q v e so_far y (λ y. level_of cs M w e v so_far y)
        (λ g x so_far y. turn_of M w e g cs x so_far y) (λ g vs x. generated e g cs b pl vs x)

    clause_by : (q : Statement) (x : Tree) (cs : Trees) → Clause_lead q x → Clauses_lead cs →
        Attempt_leads (claused_code q x cs) (claused_of q x cs) (levelled_of q cs)
    unfolding claused levelled low.claused valued attempted generates_from
    clause_by plain x cs hx hc ss s e out w M j n c o y0 u ls st so_far last a0 e2 i lo sc rl rs fw lt lM ab o1 o2 g =
        let f : Maker = piece z.program differ x ss (enclosed a) in
        let more : Maker = levels_code cs ss in
        let m : Spot = past s (f s) in
        let r1 = then_stand z s e f (one op.Drop then more) i in
        let r2 = then_stand z m e (one op.Drop) more r1.1 in
        let x1 = past_le s m (f s) refl in
        let x2 = levels_more cs (fits c.handlers) c.size out ss (next m) e r2.1 in
        let drop = op_stands z (narrow_stands z a0 e.at (omega (arith, lo, x1)) x2 r2.0) in
        let d : Ctx = trying (holding_all c c.env [] ((r, so_far) ∷ [])) y0.state a0 e.at st in
        attempt_by z {c = c} {a = a0} {l = e.at} {st = st} {from = on m.at []} {into = stored e.at st r []} ((r, so_far) ∷ []) y0
        (ev z.program (deeper z.program M) x false c.env (with_state y0 u)) _ _
        (attempts_more z y0 (λ r. r) (λ v y. clauses_of cs M c.env v y) (λ e1 v y. level_of cs M w e1 v so_far y) (λ y. value e2 so_far y))
        (i.fit e.at (omega (arith, x1, x2)) le_self)
        (hx ss (enclosed a) s m out false M j n d o (with_state y0 u) ls [] (narrow_stands z a0 e.at lo (omega (arith, x2)) r1.0)
        (trying_static y0.state a0 e.at st (results_static so_far rl sc)) refl lt lM refl g)
        (λ k le e1 v u ls gd bs. does_leads z drop.is (open_leads z _ drop.fit
        (hc ss (next m) e out w M j k c o y0 u ls st so_far v a0 e2 r2.1 (omega (arith, lo, x1)) sc rl rs fw (trans le lt) (trans le lM) ab
        o1 o2 gd)))
        (λ u ls gd. missed_leads (with_state y0 u) so_far e2 gd)
    clause_by (defers q) x cs hx hc ss s e out w M j n c o y0 u ls st so_far last a0 e2 i lo sc rl rs fw lt lM ab o1 o2 g =
        does_leads z (op_stands z i).is (record { go = λ g h. over _ h })
    clause_by (defines q) x cs hx hc ss s e out w M j n c o y0 u ls st so_far last a0 e2 i lo sc rl rs fw lt lM ab o1 o2 g =
        let f : Maker = low.inner z.program differ x ss (enclosed a) in
        let f2 : Maker = bind q (length ss) in
        let us : Names = with_binder q ss in
        let more : Maker = levels_code cs us in
        let m : Spot = past s (f s) in
        let m2 : Spot = past m (f2 m) in
        let r1 = then_stand z s e f (f2 then one op.Drop then more) i in
        let r2 = then_stand z m e f2 (one op.Drop then more) r1.1 in
        let r3 = then_stand z m2 e (one op.Drop) more r2.1 in
        let x1 = past_le s m (f s) refl in
        let x2 = past_le m m2 (f2 m) refl in
        let x3 = levels_more cs (fits c.handlers) c.size out us (next m2) e r3.1 in
        let drop = op_stands z (narrow_stands z a0 e.at (omega (arith, lo, x1, x2)) x3 r3.0) in
        let d : Ctx = trying (holding_all c c.env [] ((r, so_far) ∷ [])) y0.state a0 e.at st in
        let sd : Static top d ss out (enclosed a) = trying_static y0.state a0 e.at st (results_static so_far rl sc) in
        attempt_by z {c = c} {a = a0} {l = e.at} {st = st} {from = on m.at []} {into = stored e.at st r []} ((r, so_far) ∷ []) y0
        (inner z.program (deeper z.program M) x false c.env (with_state y0 u)) _ _
        (attempts_more z y0 (λ r. r)
        (λ v y. defined z.program (deeper z.program M) q c.env v y (λ e v y. clauses_of cs M e v y))
        (λ e1 v y. level_of cs M w e1 v so_far y) (λ y. value e2 so_far y))
        (i.fit e.at (omega (arith, x1, x2, x3)) le_self)
        (hx ss (enclosed a) s m out false M j n d o (with_state y0 u) ls []
        (narrow_stands z a0 e.at lo (omega (arith, x2, x3)) r1.0) sd refl
        lt lM refl g)
        (λ k le e1 v u ls gd bs. bind_leads z d q ss m m2 M (with_state y0 u) v (λ e v y. clauses_of cs M e v y)
        (λ x. attempted x y0 (λ e1 v y. level_of cs M w e1 v so_far y) (λ y. value e2 so_far y)) (λ h. refl)
        (narrow_stands z a0 e.at (omega (arith, lo, x1)) (omega (arith, x3)) r2.0) sd gd
        (λ env u ls bs hi gd. does_leads z drop.is (open_leads z _ drop.fit
        (holding_leads z c env bs.more [] _
        (hc us (next m2) e out w M j k (holding_all c env bs.more []) o y0 u ls st so_far v a0 e2 r3.1 (omega (arith, lo, x1, x2))
        (shown_static (binder_longer q ss) sc bs) (let p = binder_longer q ss in omega (arith, rl, p)) rs fw (trans le lt) (trans le lM) ab
        (high_other (length ss) bs.more c.held rl hi o1) o2 (shown_good d bs gd))))))
        (λ u ls gd. missed_leads (with_state y0 u) so_far e2 gd)
    clause_by (generates q) x cs hx hc ss s e out w M j n c o y0 u ls st so_far last a0 e2 i lo sc rl rs fw lt lM ab o1 o2 g =
        let f : Maker = low.inner z.program differ x ss (enclosed a) in
        let more : Maker = levels_code cs (with_generator q ss) in
        let m : Spot = past s (f s) in
        let r1 = then_stand z s e f (turning (taking q (length ss)) (length ss) more) i in
        let t1 = turning_stand z m e (taking q (length ss)) (length ss) more r1.1 in
        let x1 = past_le s m (f s) refl in
        let x2 = t1.order in
        let x3 = t1.last in
        let d : Ctx = trying (holding_all c c.env [] ((r, so_far) ∷ [])) y0.state a0 e.at st in
        let from : Target = record { place = m.at; stack = []; lies = lies_of q; shown = shown_of q } in
        attempt_by z {c = c} {a = a0} {l = e.at} {st = st} {from = from} {into = stored e.at st r []} ((r, so_far) ∷ []) y0
        (inner z.program (deeper z.program M) x false c.env (with_state y0 u)) _ _
        (attempts_more z y0 (λ r. r) (λ v y. value c.env v y) (λ e1 v y. levelled_of (generates q) cs M w e1 v so_far y)
        (λ y. value e2 so_far y))
        (i.fit e.at (omega (arith, x1, x2, x3)) le_self)
        (drawn_leads q x hx ss (enclosed a) s m out M j n d o (with_state y0 u) ls []
        (narrow_stands z a0 e.at lo (omega (arith, x2, x3)) r1.0) (trying_static y0.state a0 e.at st (results_static so_far rl sc)) refl lt
        lM refl g)
        (λ k le e1 v u ls gd bs. drawn_turns q cs (turn_from cs hc) ss m e out w M j k c o (with_state y0 u) ls st so_far sc rl rs fw
        (trans le lt) (trans le lM) ab o1 o2 t1 gd v (drawn q c.held e1 v ls bs) y0.state a0)
        (λ u ls gd. missed_leads (with_state y0 u) so_far e2 gd)

    pub clauses_lead : (cs : Trees) → All_clauses cs → Clauses_lead cs
    unfolding attempted
    clauses_lead no_trees h ss s e out w M j n c o y0 u ls st so_far last a0 e2 i lo sc rl rs fw lt lM ab o1 o2 g =
        body_leads ss s e out w M j n c o (with_state y0 u) ls st so_far last y0.state a0 i sc rl rs fw lt lM ab o1 o2 g
    clauses_lead (more_trees x cs) h ss s e out w M j n c o y0 u ls st so_far last a0 e2 i lo sc rl rs fw lt lM ab o1 o2 g =
        clause_by (statement_of x) x cs h.0 (clauses_lead cs h.1) ss s e out w M j n c o y0 u ls st so_far last a0 e2 i lo sc rl rs fw
        lt lM ab o1 o2 g

  -- ---- the whole

  no_values : array_of [] ≡ gives (array no_vals)
  no_values = refl

  hidden_static : {c : Ctx} {ss : Names} {out : Way} {a : Where} → Static top c ss out a → Static top c (hidden ∷ ss) out a
  hidden_static {c} {ss} sc = record {
    fits = sc.fits;
    low = low_more (length ss) (suc (length ss)) c.held (omega arith) sc.low;
    low_also = low_more (length ss) (suc (length ss)) c.also (omega arith) sc.low_also;
    loops = sc.loops;
    leaves = sc.leaves;
    breaks = sc.breaks;
    returns = sc.returns;
    defers = sc.defers;
    noted = sc.noted;
    born = sc.born;
  }

  pub for_leads : (n : ℕ) (pl : Place) (cs : Trees) (b : Tree) → All_clauses cs → EvLeads z differ top b →
      EvLeads z differ top (tree n pl (t.Shape.for_form cs b))
  for_leads n pl cs b hcs hb ss a s e out w M j m c o y ls st i sc fw lt lM ab g =
      let l : ℕ = length ss in
      let code : ℕ → Maker = λ m. low.levels z.program differ cs (hidden ∷ ss) (enclosed a)
      (λ inside. one op.Commit then piece z.program differ b inside a then one (op.Append l m)) in
      let f : Maker = code s.place in
      let tried : Maker = ahead op.Try f in
      let i1 = numbering_stand z s e pl
      (λ m. one (op.Array 0 m) then put_away l then ahead op.Try (code m) then one (op.Get l)) i in
      let s0 : Spot = behind_place z s in
      let s1 : Spot = next (next s0) in
      let e1 : Spot = past s1 (tried s1) in
      let r1 = then_stand z s0 e (one (op.Array 0 s.place)) (put_away l then tried then one (op.Get l)) i1.1 in
      let r2 = then_stand z (next s0) e (put_away l) (tried then one (op.Get l)) r1.1 in
      let r3 = then_stand z s1 e tried (one (op.Get l)) r2.1 in
      let made = op_stands z r1.0 in
      let put = put_stand z l r2.0 in
      let get = op_stands z r3.1 in
      let i2 = ahead_stand z s1 e1 op.Try f r3.0 in
      let rm = put.1 in
      let sz = g.sized in
      let none : Val = array no_vals in
      let p1 = puts ls l none (omega (arith, rm, sz)) in
      let lead = turn_from b hb a l s.place pl i1.0 cs (clauses_lead b hb a l s.place pl i1.0 cs hcs) in
      does_leads z made.is (subst (λ (x : Answer Val). LeadsTo z j m c o y.behind y.tasks
      (answered (place_at z.code s.place) (still x y.state) c.who o.world y.state c.life ls st s.at c.handlers c.below) (on e.at st)
      (ev z.program (deeper z.program M) (tree n pl (t.Shape.for_form cs b)) w c.env y)) (sym no_values)
      (open_leads z _ made.fit (does_leads z put.0.is (there_leads z y.state _ p1.is (open_leads z _ put.0.fit
      (end_leads z r3.1.ends (from_leads z c (stored e1.at st l []) (on (suc e1.at) st)
      (λ m o e v w ls gd bs g f. does z (op.Get l) _ g get.is
      (subst (λ u. Ends z (on_there u w.state (λ v. only_where (fits c.handlers (suc e1.at)) w.state
      (at c o w.state ls (v ∷ st) (suc e1.at)))) g) (sym bs.0)
      (subst (λ t. Ends z (only_where t w.state (at c o w.state ls (v ∷ st) (suc e1.at))) g) (sym get.fit) (f tt)))) _
      (lead (hidden ∷ ss) (next s1) e1 out w M j m c o y p1.locals st none s1.at c.env i2.inside i2.begins refl (hidden_static sc)
      (omega arith) rm fw lt lM ab p1.here (low_other b hb a l s.place pl i1.0 c.held sc.low)
      (low_other b hb a l s.place pl i1.0 c.also sc.low_also)
      (record {
        holds = holds_put c.held ls l l none p1 sc.low le_self g.holds;
        besides = holds_put c.also ls l l none p1 sc.low_also le_self g.besides;
        sized = p1.sized ∙ g.sized;
        fine = g.fine;
      })))))))))
