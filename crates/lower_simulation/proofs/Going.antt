-- How what follows passes on: what is cancelled, what has grown around, wakings, values.
use Rattle.std.proofs.Common.{◌≡◌, ℕ, zero, suc, ◌≤◌, ◌<◌, List, [], ◌∷◌, ◌++◌, true, refl, sym, ap, ◌∙◌, subst, arith, append_assoc}
use Rattle.verse_value.specs.Val.{Val}
use Rattle.verse_meaning_state.specs.State.{State}
use Rattle.verse_code_machine.specs.Tasks.{Who, Task, Up, Trees, World, Step, root_named, child_named, starts}
use Rattle.verse_code_machine.specs.Frames.{free}
use Rattle.verse_code_machine.specs.Cancelling.{clears, clears_frames}
use Rattle.verse_code_machine.specs.Ends.{follows}
use Rattle.verse_meaning.specs.Residuals.{Env, Residual, Scope, Scopes}
use Rattle.verse_meaning.specs.Outcomes.{World as Scene, world, Outcome, value, failed, returned, broke, halted, rests, TaskOutcome, ends}
use Rattle.verse_meaning.specs.Outcomes.{lost, stops, sleeps, Went, went, quits, went_on, on_went_task, on_went}
use Rattle.verse_meaning.specs.Resuming.{resume, resume_scope}
use Rattle.verse_meaning.specs.Runs.{deeper}
use Rattle.lower_simulation.proofs.Paths.{Each, each_map, each_ordered, ordered, ordered_both, insert_last}
use Rattle.lower_simulation.proofs.Claims.{Locals, Exit, Held, Target, Agrees, Setting, Goal, Ends, Ctx, Around, world_of, around}
use Rattle.lower_simulation.proofs.Claims.{in_frame}
use Rattle.lower_simulation.proofs.Claims.{frame_of, Beside, Strict, Fine, Good, Gone, Clears, in_clearing, Stopped, all_of_scope, Tasks}
use Rattle.lower_simulation.proofs.Claims.{ResidualStands, ScopeStands, RestAt, Stretch, Grown, same_around, left_around, forked_around}
use Rattle.lower_simulation.proofs.Claims.{Planted, not_planted, one_planted, GoesWith, GoesScope, GoesTask, ParkedR, ParkedS, Goes, slots}

pub trans : {a b c : ℕ} → a ≤ b → b ≤ c → a ≤ c
trans x y = omega arith

pub weak : {a b : ℕ} → a < b → a ≤ b
weak x = omega (arith, x)

pub sooner : {a b c : ℕ} → a < b → b ≤ c → a < c
sooner x y = omega (arith, x, y)

pub one_less : {a k : ℕ} → a ≡ suc k → k ≤ a
one_less e = omega (arith, e)

pub le_self : {a : ℕ} → a ≤ a
le_self = omega arith

pub moved : {n : ℕ} {a : List ℕ} {o : Around} {s u : State} → Fine n a o s → u.clock.left ≤ s.clock.left → Fine n a o u
moved f le = record { steps = trans le f.steps; low = trans le f.low; apart = f.apart }

pub lifted : {k n : ℕ} {a : List ℕ} {o : Around} {s : State} → k ≤ n → Fine k a o s → Fine n a o s
lifted le f = record { steps = trans f.steps le; low = f.low; apart = f.apart }

pub kept : {n : ℕ} {a : List ℕ} {o : Around} {vs us : Locals} {size : ℕ} {s u : State} {ls : List Val} → Good n a o vs us size s ls →
    u.clock.left ≤ s.clock.left → Good n a o vs us size u ls
kept g le = record { holds = g.holds; besides = g.besides; sized = g.sized; fine = moved g.fine le }

pub raise : {k n : ℕ} {a : List ℕ} {o : Around} {vs us : Locals} {size : ℕ} {s : State} {ls : List Val} → k ≤ n →
    Good k a o vs us size s ls → Good n a o vs us size s ls
raise le g = record { holds = g.holds; besides = g.besides; sized = g.sized; fine = lifted le g.fine }

pub fresh : {n : ℕ} {a : List ℕ} {o : Around} (ss : Held) {s : State} {ls : List Val} → Agrees ss ls → Fine n a o s →
    Good n a o ss.held ss.also ss.size s ls
fresh ss ag f = record { holds = ag.0; besides = ag.1.0; sized = ag.1.1; fine = f }

pub agrees : {n : ℕ} {a : List ℕ} {o : Around} {vs us : Locals} {size : ℕ} {s : State} {ls : List Val} → Good n a o vs us size s ls →
    Agrees (record { held = vs; also = us; size = size }) ls
agrees g = (g.holds, (g.besides, g.sized))

-- what cancelling comes to
pub gone_map : (x : Went) (w : Scene) (K L : Scene → Type 0) (g : Goal) → Gone x w K g →
    ((u : Scene) → u.state.clock.left ≤ w.state.clock.left → u.behind ≡ w.behind → u.tasks ≡ w.tasks → K u → L u) → Gone x w L g
gone_map (went u) w K L g h f = λ le eb et. f u le eb et (h le eb et)
gone_map (quits q) w K L g h f = h

gone_from : (x : Went) (w u : Scene) (K : Scene → Type 0) (g : Goal) → u.state.clock.left ≤ w.state.clock.left → u.behind ≡ w.behind →
    u.tasks ≡ w.tasks → Gone x w K g → Gone x u K g
gone_from (went y) w u K g le eb et h = λ l eb' et'. h (trans l le) (eb' ∙ eb) (et' ∙ et)
gone_from (quits q) w u K g le eb et h = h

-- one after another
pub gone_then : (x : Went) (f : Scene → Went) (w : Scene) (K L : Scene → Type 0) (g : Goal) → Gone (went_on x f) w K g →
    ((u : Scene) → u.state.clock.left ≤ w.state.clock.left → u.behind ≡ w.behind → u.tasks ≡ w.tasks → Gone (f u) u K g → L u) →
    Gone x w L g
unfolding went_on
gone_then (went u) f w K L g h k = λ le eb et. k u le eb et (gone_from (f u) w u K g le eb et h)
gone_then (quits q) f w K L g h k = h

-- a scope goes on behind what is cancelled
pub gone_task : (F : Type 0) (P : ScopeStands) (leave : Val → World → State → Step) (Kept : ℕ → ℕ → Scope → List Task → Type 0)
    (Lost : State → Type 0) (z : Setting) (n : ℕ) (a : List ℕ) (o : Around) (b : Scopes) (f : Tasks) (g : Goal) (x : Went) (w : Scene)
    (go : Scene → TaskOutcome) →
    GoesScope F P leave Kept Lost z n a o b f g (on_went_task x go) → Gone x w (λ u. GoesScope F P leave Kept Lost z n a o b f g (go u)) g
unfolding on_went_task
gone_task F P leave Kept Lost z n a o b f g (went u) w go h = λ le eb et. h
gone_task F P leave Kept Lost z n a o b f g (quits q) w go h = h

pub gone_goes : (R : ResidualStands) (P : ScopeStands) (z : Setting) (n : ℕ) (c : Ctx) (o : Around) (b : Scopes) (f : Tasks) (kt : Target)
    (g : Goal) (x : Went) (w : Scene) (go : Scene → Outcome) →
    GoesWith R P z n c o b f kt g (on_went x go) → Gone x w (λ u. GoesWith R P z n c o b f kt g (go u)) g
unfolding on_went
gone_goes R P z n c o b f kt g (went u) w go h = λ le eb et. h
gone_goes R P z n c o b f kt g (quits q) w go h = h

pub clears_none : (z : Setting) (m : ℕ) (P : Task → Type 0) → Clears z m P [] (λ M w. went w)
clears_none z m P = λ after todo o w M g le lM out h. h le_self refl refl

pub clears_both : (z : Setting) (m : ℕ) (P : Task → Type 0) (xs ys : List Task) (p q : ℕ → Scene → Went) → Clears z m P xs p →
    Clears z m P ys q → Clears z m P (xs ++ ys) (λ M w. went_on (p M w) (λ u. q M u))
clears_both z m P xs ys p q hp hq = λ after todo o w M g le lM out h.
    subst (λ y. Ends z (clears (follows after) after y o w.state) g) (sym (append_assoc xs ys todo))
    (hp after (ys ++ todo) o w M g le lM out (gone_then (p M w) (λ u. q M u) w
    (λ u. Ends z (clears (follows after) after todo o u.state) g)
    (λ u. Ends z (clears (follows after) after (ys ++ todo) o u.state) g) g h
    (λ u l eb et y. hq after todo o u M g (trans l le) (trans l lM) out y)))

pub clears_map : (z : Setting) (m : ℕ) (P Q : Task → Type 0) (xs : List Task) (q : ℕ → Scene → Went) → ((t : Task) → Q t → P t) →
    Clears z m P xs q → Clears z m Q xs q
clears_map z m P Q xs q f h = λ after todo o w M g le lM out y. h after todo o w M g le lM
    (each_map Q P o.pre f out.0, each_map Q P o.post f out.1) y

pub clears_less : (z : Setting) (m n : ℕ) (P : Task → Type 0) (xs : List Task) (q : ℕ → Scene → Went) → n ≤ m → Clears z m P xs q →
    Clears z n P xs q
clears_less z m n P xs q l h = λ after todo o w M g le lM out y. h after todo o w M g (trans le l) lM out y

pub stopped_less : {z : Setting} {m n : ℕ} {c : Ctx} {ts : List Task} {kq oq : ℕ → Scene → Went} → n ≤ m → Stopped z m c ts kq oq →
    Stopped z n c ts kq oq
stopped_less {z} {m} {n} {c} {kq = kq} l x = record {
  kids = x.kids;
  self = x.self;
  is = x.is;
  who = x.who;
  strict = x.strict;
  clears = clears_less z m n (Beside c.who.path) (ordered [] x.kids) kq l x.clears;
  own = λ after todo o w M g le lM out h. x.own after todo o w M g (trans le l) lM out h;
}

-- where other locals are known to stay, and loops are left otherwise
pub stopped_weaken : {z : Setting} {m : ℕ} {c : Ctx} {ts : List Task} {kq oq : ℕ → Scene → Went} (e : Env) (vs us : Locals)
    (base : List Val) (x : Exit) → Stopped z m (record c { env = e; held = vs; also = us; base = base; exit = x }) ts kq oq →
    ((ks : List Val) → Agrees (record { held = vs; also = us; size = c.size }) ks → Agrees (slots c) ks) → Stopped z m c ts kq oq
stopped_weaken {z} {m} {c} {oq = oq} e vs us base q x f = record {
  kids = x.kids;
  self = x.self;
  is = x.is;
  who = x.who;
  strict = x.strict;
  clears = x.clears;
  own = λ after todo o w M g le lM out h. x.own after todo o w M g le lM out
      (gone_map (oq M w) w _ _ g h (λ u l eb et k ls stk pl ag. k ls stk pl (f ls ag)));
}

-- the same, said otherwise
pub stopped_as : {z : Setting} {m : ℕ} {c : Ctx} {ts : List Task} {kq oq kq' oq' : ℕ → Scene → Went} →
    ((M : ℕ) (w : Scene) → kq' M w ≡ kq M w) → ((M : ℕ) (w : Scene) → oq' M w ≡ oq M w) → Stopped z m c ts kq oq → Stopped z m c ts kq' oq'
stopped_as {z} {m} {c} hk ho x = record {
  kids = x.kids;
  self = x.self;
  is = x.is;
  who = x.who;
  strict = x.strict;
  clears = λ after todo o w M g le lM out h. x.clears after todo o w M g le lM out
      (subst (λ y. Gone y w (λ u. Ends z (clears (follows after) after todo o u.state) g) g) (hk M w) h);
  own = λ after todo o w M g le lM out h. x.own after todo o w M g le lM out
      (subst (λ y. Gone y w (λ u. (ls stk : List Val) (pl : ℕ) → Agrees (slots c) ls →
      Ends z (clears_frames (λ s. clears (follows after) after todo o s) c.who (in_clearing o after todo) u.state
      (frame_of c ls stk pl ∷ c.below)) g) g) (ho M w) h);
}

-- the frame below a body's
pub stopped_body : {z : Setting} {m n : ℕ} {c : Ctx} {e : Env} {ss : Held} {ls st : List Val} {p : ℕ} {ts : List Task} {kq oq : ℕ →
    Scene → Went} →
    Stopped z m (in_frame e ss c.who n (frame_of c ls st p ∷ c.below)) ts kq oq → Agrees (slots c) ls → Stopped z m c ts kq oq
stopped_body {z} {m} {n} {c} {ls = ls} {st} {p} {oq = oq} x ag = record {
  kids = x.kids;
  self = x.self;
  is = x.is;
  who = x.who;
  strict = x.strict;
  clears = x.clears;
  own = λ after todo o w M g le lM out h. x.own after todo o w M g le lM out
      (gone_map (oq M w) w _ _ g h (λ u l eb et k ls' stk pl ag'. k ls st p ag));
}

last_over : {z : Setting} {m : ℕ} {c : Ctx} {ts : List Task} {kq oq : ℕ → Scene → Went} (x : Stopped z m c ts kq oq) →
    Each (λ y. starts x.self.thread.who.path y.thread.who.path ≡ true) (ordered [] x.kids)
last_over {c = c} x = each_ordered (λ y. starts x.self.thread.who.path y.thread.who.path ≡ true) [] x.kids tt
    (each_map (Strict c.who.path) (λ y. starts x.self.thread.who.path y.thread.who.path ≡ true) x.kids
    (λ y h. subst (λ q. starts q.path y.thread.who.path ≡ true) (sym x.who) h.0) x.strict)

-- a whole task
pub cancels_all : {z : Setting} {m n : ℕ} {e : Env} {ss : Held} {w : Who} {ts : List Task} {kq oq : ℕ → Scene → Went} →
    Stopped z m (in_frame e ss w n []) ts kq oq → Clears z m (Beside w.path) (ordered [] ts) (λ M w. went_on (kq M w) (λ u. oq M u))
cancels_all {z} {m} {n} {e} {ss} {w} {ts = ts} {kq} {oq} x =
    subst (λ y. Clears z m (Beside w.path) y (λ M w. went_on (kq M w) (λ u. oq M u)))
    (sym (ap (ordered []) x.is ∙ ordered_both [] x.kids (x.self ∷ []) ∙ insert_last x.self (ordered [] x.kids) (last_over x)))
    (clears_both z m (Beside w.path) (ordered [] x.kids) (x.self ∷ []) kq oq x.clears (λ after todo o y M g le lM out h.
    subst (λ v. Ends z (clears_frames (λ s. clears (follows after) after todo o s) v (in_clearing o after todo) y.state
    (x.self.thread.frame ∷ x.self.thread.below)) g) (sym x.who)
    (x.own after todo o y M g le lM out (gone_map (oq M y) y _ _ g h (λ u l eb et k ls stk pl ag. k)))))

-- what has grown
pub grown_less : (P : ScopeStands) (z : Setting) (c : Ctx) (n' : ℕ) (o' : Around) (b' : Scopes) (f' : Tasks)
    (k : ℕ) {n : ℕ} {o : Around} {b : Scopes} {f : Tasks} → n ≤ k → Grown P z c n' o' b' f' n o b f → Grown P z c n' o' b' f' k o b f
grown_less P z c n' o' b' f' k le (same_around lt) = same_around (trans lt le)
grown_less P z c n' o' b' f' k le (left_around q s ts fr lt l1 l2 st h) = left_around q s ts fr (trans lt le) l1 l2 st h
grown_less P z c n' o' b' f' k le (forked_around q e s ts fr lt st h) = forked_around q e s ts fr (trans lt le) st h

pub grown_on : (P : ScopeStands) (z : Setting) (c : Ctx) (n1 : ℕ) (o1 : Around) (b1 : Scopes) (f1 : Tasks) (n2 : ℕ) (o2 : Around)
    (b2 : Scopes) (f2 : Tasks) → Grown P z c n2 o2 b2 f2 n1 o1 b1 f1 →
    {n : ℕ} {o : Around} {b : Scopes} {f : Tasks} → Grown P z c n1 o1 b1 f1 n o b f → Grown P z c n2 o2 b2 f2 n o b f
grown_on P z c n1 o1 b1 f1 n2 o2 b2 f2 g {n} (same_around lt) = grown_less P z c n2 o2 b2 f2 n lt g
grown_on P z c n1 o1 b1 f1 n2 o2 b2 f2 g (left_around q s ts fr lt l1 l2 st h) = left_around q s ts fr lt l1 l2 st
    (grown_on P z c n1 o1 b1 f1 n2 o2 b2 f2 g h)
grown_on P z c n1 o1 b1 f1 n2 o2 b2 f2 g (forked_around q e s ts fr lt st h) = forked_around q e s ts fr lt st
    (grown_on P z c n1 o1 b1 f1 n2 o2 b2 f2 g h)

pub grown_steps : (P : ScopeStands) (z : Setting) (c : Ctx) (n' : ℕ) (o' : Around) (b' : Scopes)
    (f' : Tasks) {n : ℕ} {o : Around} {b : Scopes} {f : Tasks} → Grown P z c n' o' b' f' n o b f → n' ≤ n
grown_steps P z c n' o' b' f' (same_around lt) = lt
grown_steps P z c n' o' b' f' (left_around q s ts fr lt l1 l2 st h) = trans (grown_steps P z c n' o' b' f' h) lt
grown_steps P z c n' o' b' f' (forked_around q e s ts fr lt st h) = trans (grown_steps P z c n' o' b' f' h) lt

pub grown_own : (P : ScopeStands) (z : Setting) (c : Ctx) (n' : ℕ) (o' : Around) (b' : Scopes)
    (f' : Tasks) {n : ℕ} {o : Around} {b : Scopes} {f : Tasks} → Grown P z c n' o' b' f' n o b f → o'.own ≤ o.own
grown_own P z c n' o' b' f' (same_around lt) = le_self
grown_own P z c n' o' b' f' (left_around k s ts fr lt l1 l2 st h) = let x = grown_own P z c n' o' b' f' h in omega (arith, x, l1)
grown_own P z c n' o' b' f' (forked_around k e s ts fr lt st h) = grown_own P z c n' o' b' f' h

pub planted_less : (F : Type 0) (P : ScopeStands) (z : Setting) (n' : ℕ) (rs' : Trees) (f' : Tasks)
    (k : ℕ) {n : ℕ} {rs : Trees} {f : Tasks} → n ≤ k → Planted F P z n' rs' f' n rs f → Planted F P z n' rs' f' k rs f
planted_less F P z n' rs' f' k le (not_planted lt) = not_planted (trans lt le)
planted_less F P z n' rs' f' k le (one_planted q e s ts x lt st h) = one_planted q e s ts x (trans lt le) st h

pub planted_steps : (F : Type 0) (P : ScopeStands) (z : Setting) (n' : ℕ) (rs' : Trees) (f' : Tasks) {n : ℕ} {rs : Trees} {f : Tasks} →
    Planted F P z n' rs' f' n rs f → n' ≤ n
planted_steps F P z n' rs' f' (not_planted lt) = lt
planted_steps F P z n' rs' f' (one_planted q e s ts x lt st h) = trans (planted_steps F P z n' rs' f' h) lt

pub planted_on : (F : Type 0) (P : ScopeStands) (z : Setting) (n1 : ℕ) (rs1 : Trees) (f1 : Tasks) (n2 : ℕ) (rs2 : Trees) (f2 : Tasks) →
    Planted F P z n2 rs2 f2 n1 rs1 f1 → {n : ℕ} {rs : Trees} {f : Tasks} → Planted F P z n1 rs1 f1 n rs f → Planted F P z n2 rs2 f2 n rs f
planted_on F P z n1 rs1 f1 n2 rs2 f2 g {n} (not_planted lt) = planted_less F P z n2 rs2 f2 n lt g
planted_on F P z n1 rs1 f1 n2 rs2 f2 g (one_planted q e s ts x lt st h) = one_planted q e s ts x lt st
    (planted_on F P z n1 rs1 f1 n2 rs2 f2 g h)

-- what was begun within a scope, seen from without
pub grown_planted : (F : Type 0) (P : ScopeStands) (z : Setting) (c : Ctx) → (free c.handlers c.life.noted c.below ≡ true → F) →
    (n' : ℕ) (o' : Around) (b' : Scopes) (f' : Tasks) {n : ℕ} {o : Around} {b : Scopes} {f : Tasks} → Grown P z c n' o' b' f' n o b f →
    Planted F P z n' o'.world.trees f' n o.world.trees f
grown_planted F P z c x n' o' b' f' (same_around lt) = not_planted lt
grown_planted F P z c x n' o' b' f' (left_around {n = n} k s ts fr lt l1 l2 st h) = planted_less F P z n' o'.world.trees f' n lt
    (grown_planted F P z c x n' o' b' f' h)
grown_planted F P z c x n' o' b' f' (forked_around k e s ts fr lt st h) = one_planted k e s ts (x fr) lt st
    (grown_planted F P z c x n' o' b' f' h)

pub planted_grown : (F : Type 0) (P : ScopeStands) (z : Setting) (c : Ctx) → (F → free c.handlers c.life.noted c.below ≡ true) →
    (b : Scopes) (pre post : List Task) (up : List Up) (q n' : ℕ) (rs' : Trees) (f' : Tasks) {n : ℕ} {rs : Trees} {f : Tasks} →
    Planted F P z n' rs' f' n rs f →
    Grown P z c n' (world_of pre post up rs' q) b f' n (world_of pre post up rs q) b f
planted_grown F P z c x b pre post up q n' rs' f' (not_planted lt) = same_around lt
planted_grown F P z c x b pre post up q n' rs' f' (one_planted k e s ts y lt st h) = forked_around k e s ts (x y) lt st
    (planted_grown F P z c x b pre post up q n' rs' f' h)

pub stretch_map : (P Q : ScopeStands) (z : Setting) (m k : ℕ) (s : Scope) (w : Who) (ts : List Task) → (P m k s w ts → Q m k s w ts) →
    Stretch P z m k s w ts → Stretch Q z m k s w ts
stretch_map P Q z m k s w ts f x = record { keeps = x.keeps; stands = f x.stands; clears = x.clears }

abbrev pub Weaker : ScopeStands → ScopeStands → Type 0
Weaker P Q = (m k : ℕ) (s : Scope) (w : Who) (ts : List Task) → P m k s w ts → Q m k s w ts

pub grown_map : (P Q : ScopeStands) (z : Setting) → Weaker P Q →
    (c : Ctx) (n' : ℕ) (o' : Around) (b' : Scopes) (f' : Tasks) {n : ℕ} {o : Around} {b : Scopes} {f : Tasks} →
    Grown P z c n' o' b' f' n o b f → Grown Q z c n' o' b' f' n o b f
grown_map P Q z g c n' o' b' f' (same_around lt) = same_around lt
grown_map P Q z g c n' o' b' f' (left_around {m = m} k s ts fr lt l1 l2 st h) = left_around k s ts fr lt l1 l2
    (stretch_map P Q z m k s (child_named c.who k) ts (g m k s (child_named c.who k) ts) st) (grown_map P Q z g c n' o' b' f' h)
grown_map P Q z g c n' o' b' f' (forked_around {m = m} k e s ts fr lt st h) = forked_around k e s ts fr lt
    (stretch_map P Q z m k s (root_named k e) ts (g m k s (root_named k e) ts) st) (grown_map P Q z g c n' o' b' f' h)

pub planted_map : (F : Type 0) (P Q : ScopeStands) (z : Setting) → Weaker P Q →
    (n' : ℕ) (rs' : Trees) (f' : Tasks) {n : ℕ} {rs : Trees} {f : Tasks} → Planted F P z n' rs' f' n rs f → Planted F Q z n' rs' f' n rs f
planted_map F P Q z g n' rs' f' (not_planted lt) = not_planted lt
planted_map F P Q z g n' rs' f' (one_planted {m = m} k e s ts x lt st h) = one_planted k e s ts x lt
    (stretch_map P Q z m k s (root_named k e) ts (g m k s (root_named k e) ts) st) (planted_map F P Q z g n' rs' f' h)

module _ (z : Setting) where
  -- what follows, where more stands around
  pub shifted : (j n m : ℕ) (c : Ctx) (o o1 : Around) (b b1 : Scopes) (f f1 : Tasks) (kt : Target) (g : Goal) (x : Outcome) →
      Grown (ParkedS z j) z c m o1 b1 f1 n o b f → Goes z j n c o b f kt g x → Goes z j m c o1 b1 f1 kt g x
  shifted j n m c o o1 b b1 f f1 kt g (value e v w) gr k = λ m' o' h.
      k m' o' (grown_on (ParkedS z j) z c m o1 b1 f1 m' o' w.behind w.tasks h gr)
  shifted j n m c o o1 b b1 f f1 kt g (failed s) gr k = λ m' o' b' f' h.
      k m' o' b' f' (grown_on (ParkedS z j) z c m o1 b1 f1 m' o' b' f' h gr)
  shifted j n m c o o1 b b1 f f1 kt g (returned v w) gr k = λ m' o' h.
      k m' o' (grown_on (ParkedS z j) z c m o1 b1 f1 m' o' w.behind w.tasks h gr)
  shifted j n m c o o1 b b1 f f1 kt g (broke w) gr k = λ m' o' h.
      k m' o' (grown_on (ParkedS z j) z c m o1 b1 f1 m' o' w.behind w.tasks h gr)
  shifted j n m c o o1 b b1 f f1 kt g (halted h) gr k = k
  shifted j n m c o o1 b b1 f f1 kt g (rests r w) gr k = λ m' o' h.
      k m' o' (grown_on (ParkedS z j) z c m o1 b1 f1 m' o' w.behind w.tasks h gr)

  abbrev pub LowerS : ℕ → Type 0
  LowerS j = Weaker (ParkedS z (suc j)) (ParkedS z j)

  abbrev pub LowerR : ℕ → Type 0
  LowerR j = (m q : ℕ) (r : Residual) (c : Ctx) (kt : Target) (ts : List Task) → ParkedR z (suc j) m q r c kt ts →
      ParkedR z j m q r c kt ts

  rest_map : (j m own : ℕ) (r : Residual) (c : Ctx) (kt : Target) (ts : List Task) → LowerR j →
      RestAt (ParkedR z (suc j)) z m own r c kt ts → RestAt (ParkedR z j) z m own r c kt ts
  rest_map j m own r c kt ts lr x = record { keeps = x.keeps; stands = lr m own r c kt ts x.stands; stopped = x.stopped }

  raise_goes : (j : ℕ) → LowerR j → LowerS j → (n : ℕ) (c : Ctx) (o : Around) (b : Scopes) (f : Tasks) (kt : Target) (g : Goal)
      (x : Outcome) → Goes z j n c o b f kt g x → Goes z (suc j) n c o b f kt g x
  raise_goes j lr ls n c o b f kt g (value e v w) k = λ m o' gr.
      k m o' (grown_map (ParkedS z (suc j)) (ParkedS z j) z ls c m o' w.behind w.tasks gr)
  raise_goes j lr ls n c o b f kt g (failed s) k = λ m o' b' f' gr.
      k m o' b' f' (grown_map (ParkedS z (suc j)) (ParkedS z j) z ls c m o' b' f' gr)
  raise_goes j lr ls n c o b f kt g (returned v w) k = λ m o' gr.
      k m o' (grown_map (ParkedS z (suc j)) (ParkedS z j) z ls c m o' w.behind w.tasks gr)
  raise_goes j lr ls n c o b f kt g (broke w) k = λ m o' gr.
      k m o' (grown_map (ParkedS z (suc j)) (ParkedS z j) z ls c m o' w.behind w.tasks gr)
  raise_goes j lr ls n c o b f kt g (halted h) k = k
  raise_goes j lr ls n c o b f kt g (rests r w) k = λ m o' gr fr fi ts y.
      k m o' (grown_map (ParkedS z (suc j)) (ParkedS z j) z ls c m o' w.behind w.tasks gr) fr fi ts
      (rest_map j w.state.clock.left o'.own r c kt ts lr y)

  raise_task : (j : ℕ) → LowerS j → (n : ℕ) (w : Who) (o : Around) (b : Scopes) (f : Tasks) (g : Goal) (x : TaskOutcome) →
      GoesTask (ParkedS z j) z n w o b f g x → GoesTask (ParkedS z (suc j)) z n w o b f g x
  raise_task j ls n w o b f g (ends v x) k = λ eb m rs pl.
      k eb m rs (planted_map (Unit {0}) (ParkedS z (suc j)) (ParkedS z j) z ls m rs x.tasks pl)
  raise_task j ls n w o b f g (lost s) k = k
  raise_task j ls n w o b f g (stops h) k = k
  raise_task j ls n w o b f g (sleeps s x) k = λ eb y0 m rs pl fi ts y.
      k eb y0 m rs (planted_map (Unit {0}) (ParkedS z (suc j)) (ParkedS z j) z ls m rs x.tasks pl) fi ts
      (stretch_map (ParkedS z (suc j)) (ParkedS z j) z x.state.clock.left o.own s w ts (ls x.state.clock.left o.own s w ts) y)

  mutual
    pub lower_r : (j : ℕ) → LowerR j
    lower_r zero m q r c kt ts k = tt
    lower_r (suc j) m q r c kt ts k = λ n v s hn lt pre post rs b f far M lM g y.
        k n v s hn lt pre post rs b f far M lM g (raise_goes j (lower_r j) (lower_s j) s.clock.left c (around pre post rs q) b f kt g
        (resume z.program (deeper z.program M) r n v (world s b f)) y)

    pub lower_s : (j : ℕ) → LowerS j
    lower_s zero m q x w ts k = tt
    lower_s (suc j) m q x w ts k = λ n v s hn lt pre post rs b f far M lM g y.
        k n v s hn lt pre post rs b f far M lM g (raise_task j (lower_s j) s.clock.left w (around pre post rs q) b f g
        (resume_scope z.program (deeper z.program M) x n v (world s b f)) y)

  pub less_r : (j m m' q : ℕ) (r : Residual) (c : Ctx) (kt : Target) (ts : List Task) → m' ≤ m → ParkedR z j m q r c kt ts →
      ParkedR z j m' q r c kt ts
  less_r zero m m' q r c kt ts le k = tt
  less_r (suc j) m m' q r c kt ts le k = λ n v s hn lt. k n v s hn (trans lt le)

  pub less_s : (j m m' q : ℕ) (x : Scope) (w : Who) (ts : List Task) → m' ≤ m → ParkedS z j m q x w ts → ParkedS z j m' q x w ts
  less_s zero m m' q x w ts le k = tt
  less_s (suc j) m m' q x w ts le k = λ n v s hn lt. k n v s hn (trans lt le)

  pub stretch_less : (j m m' q : ℕ) (x : Scope) (w : Who) (ts : List Task) → m' ≤ m → Stretch (ParkedS z j) z m q x w ts →
      Stretch (ParkedS z j) z m' q x w ts
  stretch_less j m m' q x w ts le y = record {
    keeps = y.keeps;
    stands = less_s j m m' q x w ts le y.stands;
    clears = clears_less z m m'
        (Beside w.path) (ordered [] ts) (all_of_scope z x) le y.clears;
  }
