-- From a step of the machine to the outcome of an expression: one lemma for each part of a form.
use Rattle.std.proofs.Common.{◌≡◌, ℕ, zero, suc, ◌≤◌, List, ◌∷◌, Option, Some, None, Bool, true, refl, sym, subst, arith}
use Rattle.std.specs.Prelude.{slice_get}
use Rattle.verse_base.specs.declared.places.Place.{Place}
use Rattle.verse_code.specs.declared.operations.Op.{Op}
use Rattle.verse_value.specs.Val.{Val}
use Rattle.verse_value.specs.Answer.{Answer, gives, fails, error, stuck}
use Rattle.verse_value.specs.declared.runs.Ending.TheVariants as ending
use Rattle.verse_meaning_state.specs.State.{State, spending, stepped}
use Rattle.verse_meaning_state.specs.Effects.{Effect, still}
use Rattle.verse_meaning.specs.Residuals.{Env, Residual, Scopes, leaves}
use Rattle.verse_meaning.specs.Outcomes.{World, with_state, Halt, out, Outcome, value, failed, halted, valued, told, told_plain, spends}
use Rattle.verse_meaning.specs.Resuming.{resume}
use Rattle.verse_meaning.specs.Runs.{deeper}
use Rattle.verse_code_machine.specs.Tasks.{Machine, Step, Next, Over}
use Rattle.verse_code_machine.specs.Frames.{on_there, only_where, fits, failing, free, answered, faulting}
use Rattle.lower_simulation.proofs.Claims.{Setting, Goal, Ends, Ctx, Around, at, Good, Target, on, Binds, Tasks, same_around, GoesHalt}
use Rattle.lower_simulation.proofs.Claims.{Goes, laid, kids_of, own_of}
use Rattle.lower_simulation.proofs.Steps.{act_at, does, over}
use Rattle.lower_simulation.proofs.Going.{trans, le_self, kept}
use Rattle.lower_simulation.proofs.Following.{value_step, value_parked}

module _ (z : Setting) where
  pub record LeadsTo (j n : ℕ) (c : Ctx) (o : Around) (b : Scopes) (f : Tasks) (q : Step) (k : Target) (x : Outcome) : Type 0 where
    pub go : (g : Goal) → Goes z j n c o b f k g x → Ends z q g

  -- what holds where a value has come to a spot: for each mark, each fuel that is no less than the steps
  abbrev pub FormLeads : Ctx → (from into : Target) → (Bool → ℕ → Val → World → Outcome) → ℕ → Type 0
  FormLeads c from into gof top = (w : Bool) (M i m : ℕ) → free c.handlers c.life.noted c.below ≡ w → m ≤ top → m ≤ M →
      (o : Around) (v : Val) (x : World) (ls : List Val) →
      Good m c.who.path o c.held c.also c.size x.state ls →
      LeadsTo i m c o x.behind x.tasks (at c o x.state ls (laid from.lies v from.stack) from.place) into (gof w M v x)

  pub value_leads : {j n M : ℕ} {w : Bool} {c : Ctx} {o : Around} {b : Scopes} {f : Tasks} {q : Step} (from into : Target) (x : Outcome)
      (wrap : Residual → Residual) (gof : Bool → ℕ → Val → World → Outcome) →
      free c.handlers c.life.noted c.below ≡ w → n ≤ M → ((x : Residual) → leaves (wrap x) ≡ leaves x) →
      ((r : Residual) (M : ℕ) (w : World) → kids_of z (wrap r) M w ≡ kids_of z r M w) →
      ((r : Residual) (M : ℕ) (w : World) → own_of z (wrap r) M w ≡ own_of z r M w) →
      ((l : ℕ) (x : Residual) (n : ℕ) (v : Val) (y : World) → resume z.program (deeper z.program l) (wrap x) n v y ≡ valued
      (resume z.program (deeper z.program l) x n v y) wrap (gof true l)) →
      LeadsTo j n c o b f q from x → FormLeads c from into gof n → LeadsTo j n c o b f q into (valued x wrap (gof w M))
  value_leads {j} {n} {M} {w} {c} {o} {b} {f} from into x wrap gof fw lM hl hk ho hw h k = record {
    go = λ g y. h.go g (value_step z c from into wrap (gof true) hl hk ho hw j n
        (λ fr m q x ts le. value_parked z c from into wrap (gof true) hl hk ho hw n
        (λ l i m le ll o e v w ls gd bs g y. (k true l i m fr le ll o v w ls gd).go g y) j m q x ts le)
        (gof w M) (λ m le o e v x ls gd bs g y. (k w M j m fw le (trans le lM) o v x ls gd).go g y) o b f g x y);
  }

  -- with what is known besides of a value
  abbrev pub Shown_leads : Ctx → (from into : Target) → (Bool → ℕ → Val → World → Outcome) → ℕ → Type 0
  Shown_leads c from into gof top = (w : Bool) (M i m : ℕ) → free c.handlers c.life.noted c.below ≡ w → m ≤ top → m ≤ M →
      (o : Around) (e : Env) (v : Val) (x : World) (ls : List Val) →
      Good m c.who.path o c.held c.also c.size x.state ls → Binds from.shown c.held e v ls →
      LeadsTo i m c o x.behind x.tasks (at c o x.state ls (laid from.lies v from.stack) from.place) into (gof w M v x)

  pub shown_leads : {j n M : ℕ} {w : Bool} {c : Ctx} {o : Around} {b : Scopes} {f : Tasks} {q : Step} (from into : Target) (x : Outcome)
      (wrap : Residual → Residual) (gof : Bool → ℕ → Val → World → Outcome) →
      free c.handlers c.life.noted c.below ≡ w → n ≤ M → ((x : Residual) → leaves (wrap x) ≡ leaves x) →
      ((r : Residual) (M : ℕ) (w : World) → kids_of z (wrap r) M w ≡ kids_of z r M w) →
      ((r : Residual) (M : ℕ) (w : World) → own_of z (wrap r) M w ≡ own_of z r M w) →
      ((l : ℕ) (x : Residual) (n : ℕ) (v : Val) (y : World) → resume z.program (deeper z.program l) (wrap x) n v y ≡ valued
      (resume z.program (deeper z.program l) x n v y) wrap (gof true l)) →
      LeadsTo j n c o b f q from x → Shown_leads c from into gof n → LeadsTo j n c o b f q into (valued x wrap (gof w M))
  shown_leads {j} {n} {M} {w} {c} {o} {b} {f} from into x wrap gof fw lM hl hk ho hw h k = record {
    go = λ g y. h.go g (value_step z c from into wrap (gof true) hl hk ho hw j n
        (λ fr m q x ts le. value_parked z c from into wrap (gof true) hl hk ho hw n
        (λ l i m le ll o e v w ls gd bs g y. (k true l i m fr le ll o e v w ls gd bs).go g y) j m q x ts le)
        (gof w M) (λ m le o e v x ls gd bs g y. (k w M j m fw le (trans le lM) o e v x ls gd bs).go g y) o b f g x y);
  }

  pub does_leads : {j n : ℕ} {c : Ctx} {o : Around} {b : Scopes} {f : Tasks} {k : Target} {x : Outcome} {y : Op} {e : Machine} →
      slice_get z.code.ops e.frame.place ≡ Some y → LeadsTo j n c o b f (act_at z y e) k x → LeadsTo j n c o b f (Next e) k x
  does_leads {y = y} {e} h k = record { go = λ g u. does z y e g h (k.go g u) }

  pub over_leads : {j n : ℕ} {c : Ctx} {o : Around} {b : Scopes} {f : Tasks} {k : Target} {q : Step} (h : Halt) →
      ((g : Goal) → GoesHalt g h → Ends z q g) → LeadsTo j n c o b f q k (halted h)
  over_leads h f = record { go = f }

  -- where a test of the machine holds
  pub open_leads : {j n : ℕ} {c : Ctx} {o : Around} {b : Scopes} {f : Tasks} {k : Target} {x : Outcome} {t : Bool}
      (s : State) {q : Step} → t ≡ true → LeadsTo j n c o b f q k x → LeadsTo j n c o b f (only_where t s q) k x
  open_leads {j} {n} {c} {o} {b} {f} {k} {x} s {q} h l = subst (λ t. LeadsTo j n c o b f (only_where t s q) k x) (sym h) l

  pub there_leads : {j n : ℕ} {c : Ctx} {o : Around} {b : Scopes} {f : Tasks} {k : Target} {x : Outcome} {A : Type 0} {p : Option A}
      {y : A} (s : State) (go : A → Step) → p ≡ Some y → LeadsTo j n c o b f (go y) k x → LeadsTo j n c o b f (on_there p s go) k x
  there_leads {j} {n} {c} {o} {b} {f} {k} {x} s go h l = subst (λ p. LeadsTo j n c o b f (on_there p s go) k x) (sym h) l

  -- a value is there
  pub value_here : {j n : ℕ} {c : Ctx} {o : Around} {w : World} {ls : List Val} {v : Val} {e : Env} {st : List Val} {p : ℕ} →
      Good n c.who.path o c.held c.also c.size w.state ls →
      LeadsTo j n c o w.behind w.tasks (at c o w.state ls (v ∷ st) p) (on p st) (value e v w)
  value_here {n = n} {o = o} {ls = ls} g = record { go = λ r k. k n o (same_around le_self) ls g tt }

  pub fails_here : {j n : ℕ} {c : Ctx} {o : Around} {w : World} {ls : List Val} {k : Target} →
      Good n c.who.path o c.held c.also c.size w.state ls →
      LeadsTo j n c o w.behind w.tasks (failing c.who o.world w.state ls c.handlers c.below) k (failed w.state)
  fails_here {n = n} {o = o} {w} {ls} g = record { go = λ r k. k n o w.behind w.tasks (same_around le_self) ls g }

  -- an answer does not change the clock
  abbrev pub Calmly : Effect → State → Type 0
  Calmly (gives x) s = x.1.clock.left ≡ s.clock.left
  Calmly fails s = Unit {0}
  Calmly (error k) s = Unit {0}
  Calmly stuck s = Unit {0}

  pub still_calm : (a : Answer Val) (s : State) → Calmly (still a s) s
  still_calm (gives v) s = refl
  still_calm fails s = tt
  still_calm (error k) s = tt
  still_calm stuck s = tt

  -- an operation's answer, with the place of its errors
  pub told_leads : {j n : ℕ} (x : Effect) (pl : Place) {y : Option Place} {c : Ctx} {o : Around} {w : World} {ls st : List Val} {a : ℕ}
      (e : Env) → y ≡ Some pl → fits c.handlers (suc a) ≡ true → Calmly x w.state → Good n c.who.path o c.held c.also c.size w.state ls →
      LeadsTo j n c o w.behind w.tasks (answered y x c.who o.world w.state c.life ls st a c.handlers c.below) (on (suc a) st)
      (told x pl e w)
  unfolding told
  told_leads {j} {n} (gives u) pl {y} {c} {o} {w} {ls} {st} {a} e hy hf cm g = open_leads w.state hf
      (value_here {w = with_state w u.1} (kept g (subst (λ i. i ≤ w.state.clock.left) (sym cm) le_self)))
  told_leads fails pl e hy hf cm g = fails_here g
  told_leads {j} {n} (error q) pl {y} {c} {o} {w} {ls} {st} {a} e hy hf cm g = open_leads w.state hf
      (record { go = λ r k. subst (λ u. Ends z (faulting u q w.state) r) (sym hy) (over _ k) })
  told_leads stuck pl e hy hf cm g = record { go = λ r k. over _ k }

  -- of an operation that has no place: an error would be stuck
  pub told_plain_leads : {j n : ℕ} (x : Effect) {c : Ctx} {o : Around} {w : World} {ls st : List Val} {a : ℕ} (e : Env) →
      fits c.handlers (suc a) ≡ true → Calmly x w.state → Good n c.who.path o c.held c.also c.size w.state ls →
      LeadsTo j n c o w.behind w.tasks (answered None x c.who o.world w.state c.life ls st a c.handlers c.below) (on (suc a) st)
      (told_plain x e w)
  unfolding told_plain
  told_plain_leads {j} {n} (gives u) {c} {o} {w} {ls} {st} {a} e hf cm g = open_leads w.state hf
      (value_here {w = with_state w u.1} (kept g (subst (λ i. i ≤ w.state.clock.left) (sym cm) le_self)))
  told_plain_leads fails e hf cm g = fails_here g
  told_plain_leads {j} {n} (error q) {c} {o} {w} {ls} {st} {a} e hf cm g = open_leads w.state hf (record { go = λ r k. over _ k })
  told_plain_leads stuck e hf cm g = record { go = λ r k. over _ k }

  -- a step is spent, or none is left
  pub spends_leads : {j n : ℕ} {c : Ctx} {o : Around} {b : Scopes} {f : Tasks} {into : Target} (left : ℕ) (y : World) (run : State → Step)
      (go : World → Outcome) → ((l : ℕ) → left ≡ suc l → LeadsTo j n c o b f (run (stepped l y.state)) into
      (go (with_state y (stepped l y.state)))) →
      LeadsTo j n c o b f (spending left y.state (Over ending.Steps y.state) run) into (spends left y go)
  unfolding spends
  spends_leads zero y run go h = record { go = λ g k. over _ k }
  spends_leads (suc l) y run go h = h l refl

  pub no_steps : {j n : ℕ} {c : Ctx} {o : Around} {b : Scopes} {f : Tasks} {into : Target} (left : ℕ) (y : World) (run : State → Step) →
      left ≤ 0 → LeadsTo j n c o b f (spending left y.state (Over ending.Steps y.state) run) into (halted (out y.state))
  no_steps zero y run le = record { go = λ g k. over _ k }
  no_steps (suc l) y run le = absurd (omega (arith, le))

  pub is_leads : {j n : ℕ} {c : Ctx} {o : Around} {b : Scopes} {f : Tasks} {q : Step} {into : Target} {x y : Outcome} → x ≡ y →
      LeadsTo j n c o b f q into y → LeadsTo j n c o b f q into x
  is_leads {j} {n} {c} {o} {b} {f} {q} {into} h l = subst (λ x. LeadsTo j n c o b f q into x) (sym h) l
