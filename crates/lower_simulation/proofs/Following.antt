-- What goes on with the value of a part, and what has grown around it, seen from another context.
use Rattle.std.proofs.Common.{◌≡◌, ℕ, zero, suc, ◌≤◌, ◌<◌, List, true, sym, subst, arith}
use Rattle.verse_value.specs.Val.{Val}
use Rattle.verse_meaning_state.specs.Waits.{has}
use Rattle.verse_meaning.specs.Residuals.{Env, Residual, Scopes, leaves}
use Rattle.verse_meaning.specs.Outcomes.{World, world, Outcome, value, failed, returned, broke, halted, rests, valued}
use Rattle.verse_meaning.specs.Resuming.{resume}
use Rattle.verse_meaning.specs.Runs.{deeper}
use Rattle.verse_code_machine.specs.Tasks.{Life, Task, child_named}
use Rattle.verse_code_machine.specs.Frames.{free}
use Rattle.lower_simulation.proofs.Claims.{Binds, Setting, Goal, Ends, Ctx, Around, around, at, Good, Keeps, Target, ScopeStands, Tasks}
use Rattle.lower_simulation.proofs.Claims.{Stretch, Grown, same_around, left_around, forked_around, kids_of, own_of, ParkedR, ParkedS}
use Rattle.lower_simulation.proofs.Claims.{Goes}
use Rattle.lower_simulation.proofs.Claims.{laid}
use Rattle.lower_simulation.proofs.Going.{trans, grown_steps, shifted, stopped_as}

-- the same around a context that has the same name, frames and steps
pub grown_in : (P : ScopeStands) (z : Setting) (c d : Ctx) (n' : ℕ) (o' : Around) (b' : Scopes)
    (f' : Tasks) {n : ℕ} {o : Around} {b : Scopes} {f : Tasks} → d.who ≡ c.who → d.life ≡ c.life →
    (free c.handlers c.life.noted c.below ≡ true → free d.handlers d.life.noted d.below ≡ true) → Grown P z c n' o' b' f' n o b f →
    Grown P z d n' o' b' f' n o b f
grown_in P z c d n' o' b' f' ew el ef (same_around lt) = same_around lt
grown_in P z c d n' o' b' f' ew el ef (left_around {m = m} q s ts fr lt l1 l2 st h) =
    left_around q s ts (ef fr) lt l1 (subst (λ (x : Life). q < x.born) (sym el) l2)
    (subst (λ x. Stretch P z m q s (child_named x q) ts) (sym ew) st) (grown_in P z c d n' o' b' f' ew el ef h)
grown_in P z c d n' o' b' f' ew el ef (forked_around q e s ts fr lt st h) = forked_around q e s ts (ef fr) lt st
    (grown_in P z c d n' o' b' f' ew el ef h)

module _ (z : Setting) where
  -- what goes on with a value: from the spot `from` to the spot `into`
  module _ (c : Ctx) (from into : Target) (wrap : Residual → Residual) (later : ℕ → Val → World → Outcome)
      (hl : (x : Residual) → leaves (wrap x) ≡ leaves x)
      (hk : (r : Residual) (M : ℕ) (w : World) → kids_of z (wrap r) M w ≡ kids_of z r M w) (ho : (r : Residual) (M : ℕ) (w : World) →
      own_of z (wrap r) M w ≡ own_of z r M w)
      (hw : (l : ℕ) (x : Residual) (n : ℕ) (v : Val) (w : World) → resume z.program (deeper z.program l) (wrap x) n v w ≡ valued
      (resume z.program (deeper z.program l) x n v w) wrap (later l)) where
    abbrev pub Follows : ℕ → ℕ → (Val → World → Outcome) → Type 0
    Follows i m go = (o : Around) (e : Env) (v : Val) (w : World) (ls : List Val) → Good m c.who.path o c.held c.also c.size w.state ls →
        Binds from.shown c.held e v ls → (g : Goal) → Goes z i m c o w.behind w.tasks into g (go v w) →
        Ends z (at c o w.state ls (laid from.lies v from.stack) from.place) g

    abbrev pub Laters : ℕ → Type 0
    Laters top = (l i m : ℕ) → m ≤ top → m ≤ l → Follows i m (later l)

    pub value_step : (j n : ℕ) → (free c.handlers c.life.noted c.below ≡ true → (m q : ℕ) (x : Residual) (ts : List Task) → m ≤ n →
        ParkedR z j m q x c from ts → ParkedR z j m q (wrap x) c into ts) → (go : Val → World → Outcome) →
        ((m : ℕ) → m ≤ n → Follows j m go) →
        (o : Around) (b : Scopes) (f : Tasks) (g : Goal) (x : Outcome) → Goes z j n c o b f into g (valued x wrap go) →
        Goes z j n c o b f from g x
    unfolding valued
    value_step j n pk go h o b f g (value e v w) y = λ m o' gr ls gd bs.
        h m (grown_steps (ParkedS z j) z c m o' w.behind w.tasks gr) o' e v w ls gd bs g
        (shifted z j n m c o o' b w.behind f w.tasks into g (go v w) gr y)
    value_step j n pk go h o b f g (failed s) y = y
    value_step j n pk go h o b f g (returned v w) y = y
    value_step j n pk go h o b f g (broke w) y = y
    value_step j n pk go h o b f g (halted q) y = y
    value_step j n pk go h o b f g (rests x w) y = λ m o' gr fr fi ts q.
        y m o' gr fr fi ts (record {
          keeps = subst (λ u. Keeps c.who.path o'.own u ts) (sym (hl x)) q.keeps;
          stands = pk fr w.state.clock.left o'.own x ts (trans fi.steps (grown_steps (ParkedS z j) z c m o' w.behind w.tasks gr)) q.stands;
          stopped = stopped_as (hk x) (ho x) q.stopped;
        })

    pub value_parked : (top : ℕ) → Laters top → (j m q : ℕ) (x : Residual) (ts : List Task) → m ≤ top → ParkedR z j m q x c from ts →
        ParkedR z j m q (wrap x) c into ts
    value_parked top h zero m q x ts le y = tt
    value_parked top h (suc j) m q x ts le y = λ n v s hn lt pre post rs b f far l ll g u.
        y n v s (subst (λ u. has n u ≡ true) (hl x) hn) lt pre post rs b f far l ll g
        (value_step j s.clock.left (λ fr m' q' x' ts' lt'. value_parked top h j m' q' x' ts' (omega (arith, lt', lt, le))) (later l)
        (λ m' lt'. h l j m' (omega (arith, lt', lt, le)) (trans lt' ll)) (around pre post rs q) b f g
        (resume z.program (deeper z.program l) x n v (world s b f))
        (subst (λ u. Goes z j s.clock.left c (around pre post rs q) b f into g u) (hw l x n v (world s b f)) u))
