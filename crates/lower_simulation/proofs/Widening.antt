-- What is shown in a context with more locals that stay, holds in the context; where a value goes on.
use Rattle.std.proofs.Common.{◌≡◌, ℕ, zero, suc, List, [], ◌∷◌, ◌++◌, length, Some, true, refl, sym, subst, append_assoc}
use Rattle.std.specs.Prelude.{slice_get}
use Rattle.verse_code.specs.declared.operations.Op.TheVariants as op
use Rattle.verse_value.specs.Val.{Val}
use Rattle.verse_meaning_state.specs.State.{State}
use Rattle.verse_meaning.specs.Residuals.{Env, Residual, Scopes}
use Rattle.verse_meaning.specs.Outcomes.{World, Outcome, value, failed, returned, broke, halted, rests}
use Rattle.verse_meaning.specs.Resuming.{resume}
use Rattle.verse_meaning.specs.Runs.{deeper}
use Rattle.verse_code_machine.specs.Tasks.{Step}
use Rattle.verse_code_machine.specs.Frames.{fits}
use Rattle.lower_code.specs.Scopes.{Scope as Names}
use Rattle.lower_simulation.proofs.Claims.{Setting, Goal, Ends, Ctx, Around, at, Good, Target, on, pushed, Shown, plainly, named_by}
use Rattle.lower_simulation.proofs.Claims.{stored_in, keeping, of_env, paired, paired_env, Shows, Tasks, Locals, Holds, Low, Fits}
use Rattle.lower_simulation.proofs.Leading.{LeadsTo}
use Rattle.lower_simulation.proofs.Claims.{ParkedS, ParkedR, Goes, Binds, laid, Grown, around}
use Rattle.verse_code_machine.specs.Tasks.{Task}
use Rattle.verse_meaning.specs.Outcomes.{world}
use Rattle.lower_simulation.proofs.Going.{stopped_weaken}
use Rattle.lower_simulation.proofs.Steps.{does}
use Rattle.lower_simulation.proofs.Following.{grown_in}
use Rattle.verse_code_machine.specs.Frames.{only_where}

-- in a context with one local more that stays, and other names
abbrev pub holding : Ctx → Env → ℕ → Val → Ctx
holding c e l v = record c { env = e; held = (l, v) ∷ c.held }

-- with several more
abbrev pub holding_all : Ctx → Env → (more extra : Locals) → Ctx
holding_all c e more extra = record c { env = e; held = more ++ c.held; also = extra ++ c.also }

shows_less : (ss : Names) (more held : Locals) (e : Env) (ls : List Val) → Shows ss (more ++ held) e ls → Shows ss held e ls
shows_less ss more held e ls h =
    let q = append_assoc h.more more held in
    record {
      more = h.more ++ more;
      fits = subst (λ y. Fits ss e y) (sym q) h.fits;
      low = subst (λ y. Low (length ss) y) (sym q) h.low;
      holds = subst (λ y. Holds y ls) (sym q) h.holds;
    }

binds_less : (q : Shown) (more held : Locals) (e : Env) (v : Val) (ls : List Val) → Binds q (more ++ held) e v ls → Binds q held e v ls
binds_less plainly more held e v ls h = tt
binds_less (named_by ss) more held e v ls h = shows_less ss more held e ls h
binds_less (stored_in l also) more held e v ls h = h
binds_less (keeping also) more held e v ls h = h
binds_less (of_env e1) more held e v ls h = h
binds_less paired more held e v ls h = h
binds_less (paired_env e1) more held e v ls h = h

holds_less : (more held : Locals) (ls : List Val) → Holds (more ++ held) ls → Holds held ls
holds_less [] held ls h = h
holds_less (x ∷ more) held ls h = holds_less more held ls h.1

good_less : {n : ℕ} {a : List ℕ} {o : Around} {held also : Locals} {size : ℕ} {s : State} {ls : List Val} (more extra : Locals) →
    Good n a o (more ++ held) (extra ++ also) size s ls → Good n a o held also size s ls
good_less {held = held} {also} {ls = ls} more extra g = record {
  holds = holds_less more held ls g.holds;
  besides = holds_less extra also ls g.besides;
  sized = g.sized;
  fine = g.fine;
}

module _ (z : Setting) (c : Ctx) (e' : Env) (more extra : Locals) where
  abbrev d : Ctx
  d = holding_all c e' more extra

  fewer : (j : ℕ) (m : ℕ) (o' : Around) (b' : Scopes) (f' : Tasks) {n : ℕ} {o : Around} {b : Scopes} {f : Tasks} →
      Grown (ParkedS z j) z d m o' b' f' n o b f → Grown (ParkedS z j) z c m o' b' f' n o b f
  fewer j m o' b' f' gr = grown_in (ParkedS z j) z d c m o' b' f' refl refl (λ h. h) gr

  goes_less : (j n : ℕ) → ((m q : ℕ) (r : Residual) (k : Target) (ts : List Task) → ParkedR z j m q r d k ts → ParkedR z j m q r c k ts) →
      (o : Around) (b : Scopes) (f : Tasks) (k : Target) (g : Goal) (y : Outcome) → Goes z j n c o b f k g y → Goes z j n d o b f k g y
  goes_less j n pk o b f k g (value e v w) h = λ m o' gr ls gd bs. h m o' (fewer j m o' w.behind w.tasks gr) ls (good_less more extra gd)
      (binds_less k.shown more c.held e v ls bs)
  goes_less j n pk o b f k g (failed s) h = λ m o' b' f' gr ls gd. h m o' b' f' (fewer j m o' b' f' gr) ls (good_less more extra gd)
  goes_less j n pk o b f k g (returned v w) h = λ m o' gr a ls stk rt gd. h m o' (fewer j m o' w.behind w.tasks gr) a ls stk rt
      (good_less more extra gd)
  goes_less j n pk o b f k g (broke w) h = λ m o' gr a ls stk br gd. h m o' (fewer j m o' w.behind w.tasks gr) a ls stk br
      (good_less more extra gd)
  goes_less j n pk o b f k g (halted y) h = h
  goes_less j n pk o b f k g (rests r w) h = λ m o' gr fr fi ts q. h m o' (fewer j m o' w.behind w.tasks gr) fr fi ts (record {
    keeps = q.keeps;
    stands = pk w.state.clock.left o'.own r k ts q.stands;
    stopped = stopped_weaken e' (more ++ c.held) (extra ++ c.also) c.base c.exit q.stopped
        (λ ks ag. (holds_less more c.held ks ag.0, (holds_less extra c.also ks ag.1.0, ag.1.1)));
  })

  parked_less : (j m q : ℕ) (r : Residual) (k : Target) (ts : List Task) → ParkedR z j m q r d k ts → ParkedR z j m q r c k ts
  parked_less zero m q r k ts y = tt
  parked_less (suc j) m q r k ts y = λ n v s hn lt pre post rs b f far l ll g u.
      y n v s hn lt pre post rs b f far l ll g (goes_less j s.clock.left (parked_less j) (around pre post rs q) b f k g
      (resume z.program (deeper z.program l) r n v (world s b f)) u)

  pub holding_leads : {j n : ℕ} {o : Around} {b : Scopes} {f : Tasks} {q : Step} {k : Target} (y : Outcome) →
      LeadsTo z j n d o b f q k y → LeadsTo z j n c o b f q k y
  holding_leads {j} {n} {o} {b} {f} {q} {k} y h = record { go = λ g u. h.go g (goes_less j n (parked_less j) o b f k g y u) }

-- a value goes on from one target to another
module _ (z : Setting) (c : Ctx) (k k' : Target) (h : (m : ℕ) (o : Around) (e : Env) (v : Val) (w : World) (ls : List Val) →
    Good m c.who.path o c.held c.also c.size w.state ls → Binds k.shown c.held e v ls → (g : Goal) →
    (Binds k'.shown c.held e v ls → Ends z (at c o w.state ls (laid k'.lies v k'.stack) k'.place) g) →
    Ends z (at c o w.state ls (laid k.lies v k.stack) k.place) g) where
  goes_from : (j n : ℕ) → ((m q : ℕ) (r : Residual) (ts : List Task) → ParkedR z j m q r c k ts → ParkedR z j m q r c k' ts) →
      (o : Around) (b : Scopes) (f : Tasks) (g : Goal) (y : Outcome) → Goes z j n c o b f k' g y → Goes z j n c o b f k g y
  goes_from j n pk o b f g (value e v w) y = λ m o' gr ls gd bs. h m o' e v w ls gd bs g (y m o' gr ls gd)
  goes_from j n pk o b f g (failed s) y = y
  goes_from j n pk o b f g (returned v w) y = y
  goes_from j n pk o b f g (broke w) y = y
  goes_from j n pk o b f g (halted x) y = y
  goes_from j n pk o b f g (rests r w) y = λ m o' gr fr fi ts q.
      y m o' gr fr fi ts (record { keeps = q.keeps; stands = pk w.state.clock.left o'.own r ts q.stands; stopped = q.stopped })

  parked_from : (j m q : ℕ) (r : Residual) (ts : List Task) → ParkedR z j m q r c k ts → ParkedR z j m q r c k' ts
  parked_from zero m q r ts y = tt
  parked_from (suc j) m q r ts y = λ n v s hn lt pre post rs b f far l ll g u.
      y n v s hn lt pre post rs b f far l ll g (goes_from j s.clock.left (parked_from j) (around pre post rs q) b f g
      (resume z.program (deeper z.program l) r n v (world s b f)) u)

  pub from_leads : {j n : ℕ} {o : Around} {b : Scopes} {f : Tasks} {q : Step} (y : Outcome) → LeadsTo z j n c o b f q k y →
      LeadsTo z j n c o b f q k' y
  from_leads {j} {n} {o} {b} {f} {q} y x = record { go = λ g u. x.go g (goes_from j n (parked_from j) o b f g y u) }

-- what is shown with the names behind statements, holds without them
pub plain_leads : (z : Setting) (c : Ctx) (p : ℕ) (st : List Val) (ss : Names) {j n : ℕ} {o : Around} {b : Scopes} {f : Tasks} {q : Step}
    (y : Outcome) →
    LeadsTo z j n c o b f q (record { place = p; stack = st; lies = pushed; shown = named_by ss }) y → LeadsTo z j n c o b f q (on p st) y
plain_leads z c p st ss y x = from_leads z c (record { place = p; stack = st; lies = pushed; shown = named_by ss }) (on p st)
    (λ m o e v w ls gd bs g f. f tt) y x

-- a jump behind an expression
pub jump_leads : (z : Setting) (c : Ctx) (p q : ℕ) (st : List Val) {j n : ℕ} {o : Around} {b : Scopes} {f : Tasks} {x : Step}
    (y : Outcome) → slice_get z.code.ops p ≡ Some (op.Jump q) → fits c.handlers q ≡ true →
    LeadsTo z j n c o b f x (on p st) y → LeadsTo z j n c o b f x (on q st) y
jump_leads z c p q st y hb hf x = from_leads z c (on p st) (on q st)
    (λ m o e v w ls gd bs g f. does z (op.Jump q) _ g hb (subst (λ t. Ends z (only_where t w.state (at c o w.state ls (v ∷ st) q)) g)
    (sym hf) (f tt))) y x
