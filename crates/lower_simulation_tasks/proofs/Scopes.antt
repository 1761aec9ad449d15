-- A task scope: what is behind it stands beside the rest of it, and is cancelled at its end.
use Rattle.std.proofs.Common.{◌≡◌, ℕ, suc, ◌≤◌, ◌<◌, List, [], ◌∷◌, ◌++◌, Bool, true, false, cond, refl, sym, ap, ◌∙◌}
use Rattle.std.proofs.Common.{subst, arith, append_assoc, append-nil}
use Rattle.verse_value.specs.Val.{Val}
use Rattle.verse_value.specs.declared.runs.Ending.TheVariants as ending
use Rattle.verse_code.specs.declared.operations.Op.TheVariants as oper
use Rattle.verse_meaning_state.specs.State.{State}
use Rattle.verse_meaning_state.specs.Waits.{Wait, has}
use Rattle.verse_meaning_state.proofs.Keeping.{result_left}
use Rattle.verse_code_machine.specs.Tasks.{Frame, Who, Task, After, Up, Trees, World, Step, Next, Turn, machine, life_from, child_named}
use Rattle.verse_code_machine.specs.Tasks.{onto, among, waits_of, starts, since}
use Rattle.verse_code_machine.specs.Frames.{failing, free}
use Rattle.verse_code_machine.specs.Cancelling.{cancels, clears, without, gone_behind}
use Rattle.verse_code_machine.specs.Ends.{rested, woken, follows}
use Rattle.verse_meaning.specs.Residuals.{Env, Role, part, body, root, Residual, Scope, scope, Scopes, none, also, and_then, leaves}
use Rattle.verse_meaning.specs.Residuals.{scope_leaves, behind_leaves, is_behind}
use Rattle.verse_meaning.specs.Outcomes.{World as Scene, world, set_behind, finished, not_given, Outcome, value, failed, returned, broke}
use Rattle.verse_meaning.specs.Outcomes.{halted, rests, TaskOutcome, ends, lost, stops, sleeps, Went, went_on, BehindOutcome, stays}
use Rattle.verse_meaning.specs.Outcomes.{stops_behind, element_came, element_before, behind_came}
use Rattle.verse_meaning.specs.Evaluating.{cancel_behind, scope_ended, scope_returned, scope_end, on_bool}
use Rattle.verse_meaning.specs.Resuming.{resume, resume_scope, resume_behind}
use Rattle.verse_meaning.specs.Runs.{deeper}
use Rattle.lower_simulation.proofs.Paths.{Each, NotOver, each_map, each_both, each_ordered, ordered, ordered_apart, onto_onto, onto_both}
use Rattle.lower_simulation.proofs.Paths.{starts_longer, starts_earlier, starts_through, starts_beside, since_one, waits_both}
use Rattle.lower_simulation.proofs.Paths.{without_onto, without_none, gone_onto, gone_none, gone_none_behind}
use Rattle.lower_simulation.proofs.Claims.{with_return, Returns, Breaks, break_leaves, break_now, Held, on, Setting, Goal, Ends}
use Rattle.lower_simulation.specs.Seen.{broke_off}
use Rattle.lower_simulation.proofs.Claims.{Ctx, Around, world_of, around, at, no_loop, in_frame, Clear, Young, Beneath, Beside, Strict}
use Rattle.lower_simulation.proofs.Claims.{Apart, Fine, Good, Keeps, GoesHalt, Clears, Stopped, all_of_scope, Tasks, ScopeStands, RestAt}
use Rattle.lower_simulation.proofs.Claims.{Stretch, Grown, same_around, left_around, forked_around, Planted, not_planted, one_planted}
use Rattle.lower_simulation.proofs.Claims.{GoesScope, GoesTask, ParkedR, ParkedS, Goes}
use Rattle.lower_simulation.proofs.Steps.{one, over}
use Rattle.lower_simulation.proofs.Going.{trans, weak, le_self, moved, gone_map, gone_task, clears_none, clears_both, clears_map}
use Rattle.lower_simulation.proofs.Going.{clears_less, stopped_less, grown_steps, grown_own, planted_steps, grown_planted, stretch_map}
use Rattle.lower_simulation.proofs.Going.{Weaker, lower_r, lower_s, less_r}
use Rattle.lower_simulation_tasks.proofs.Besides.{clear_child, strict_up, clear_less, none_since, woken_over, has_second, has_none}
use Rattle.lower_simulation_tasks.proofs.Besides.{left_apart, keeps_both, keeps_raise, each_left, each_two}

-- the stretches of what is behind, in order, of the children of a with numbers below q; none is below p
pub data Stretches (P : ScopeStands) (z : Setting) (a : Who) (p m : ℕ) : ℕ → Scopes → List Task → Type 0 where
  no_stretch : {q : ℕ} → p ≤ q → Stretches P z a p m q none []
  stretch : {q : ℕ} {bs : Scopes} {us xs : List Task} (k n : ℕ) (s : Scope) (ts : List Task) → xs ≡ ts ++ us → k < q → m ≤ n →
      Stretch P z n k s (child_named a k) ts → Stretches P z a p m k bs us → Stretches P z a p m q (also s bs) xs

pub stretch_as : (P Q : ScopeStands) (z : Setting) → Weaker P Q → (a : Who) (p p' m m' q' : ℕ) → p' ≤ p → m' ≤ m →
    {q : ℕ} {bs : Scopes} {xs : List Task} → q ≤ q' → Stretches P z a p m q bs xs → Stretches Q z a p' m' q' bs xs
stretch_as P Q z f a p p' m m' q' lp lm lq (no_stretch le) = no_stretch (trans lp (trans le lq))
stretch_as P Q z f a p p' m m' q' lp lm lq (stretch k n s ts e lk ln h st) =
    stretch k n s ts e (omega (arith, lk, lq)) (trans lm ln)
    (stretch_map P Q z n k s (child_named a k) ts (f n k s (child_named a k) ts) h) (stretch_as P Q z f a p p' m m' k lp lm le_self st)

pub stretch_low : (P : ScopeStands) (z : Setting) (a : Who) (p m : ℕ) {q : ℕ} {bs : Scopes} {xs : List Task} →
    Stretches P z a p m q bs xs → p ≤ q
stretch_low P z a p m (no_stretch le) = le
stretch_low P z a p m (stretch k n s ts e lk ln h st) = let x = stretch_low P z a p m st in omega (arith, x, lk)

pub stretch_more : (P : ScopeStands) (z : Setting) (a : Who) (p m k n : ℕ) (s : Scope) (tk : List Task) → k < p → m ≤ n →
    Stretch P z n k s (child_named a k) tk → {q : ℕ} {bs : Scopes} {xs : List Task} →
    Stretches P z a p m q bs xs → Stretches P z a k m q (and_then bs s) (xs ++ tk)
stretch_more P z a p m k n s tk lk ln h (no_stretch le) = stretch k n s tk (sym (append-nil tk)) (omega (arith, lk, le)) ln h
    (no_stretch le_self)
stretch_more P z a p m k n s tk lk ln h (stretch {us = us} i o c ts e li lo d st) = stretch i o c ts
    (ap (λ y. y ++ tk) e ∙ append_assoc ts us tk) li lo d (stretch_more P z a p m k n s tk lk ln h st)

pub stretch_keeps : (P : ScopeStands) (z : Setting) (a : Who) (p m : ℕ) (ws : List Wait) (us : List Task) → Keeps a.path p ws us →
    {q : ℕ} {bs : Scopes} {xs : List Task} → Stretches P z a p m q bs xs → Keeps a.path q (behind_leaves bs ws) (xs ++ us)
stretch_keeps P z a p m ws us kp (no_stretch {q = q} le) = keeps_raise a.path p q ws us le kp
stretch_keeps P z a p m ws us kp (stretch {q = q} {bs} {us = vs} k n s ts e lk ln h st) =
    subst (λ y. Keeps a.path q (behind_leaves (also s bs) ws) y) (sym (ap (λ y. y ++ us) e ∙ append_assoc ts vs us))
    (keeps_both a.path k q (scope_leaves s) (behind_leaves bs ws) ts (vs ++ us) lk h.keeps (stretch_keeps P z a p m ws us kp st))

pub stretch_since : (P : ScopeStands) (z : Setting) (a : Who) (p m g : ℕ) {q : ℕ} {bs : Scopes} {xs : List Task} → q ≤ g →
    Stretches P z a p m q bs xs → Each (λ x. since a.path g x.thread.who.path ≡ true) xs
stretch_since P z a p m g lq (no_stretch le) = tt
stretch_since P z a p m g lq (stretch {us = us} k n s ts e lk ln h st) = let kp = h.keeps in
    subst (Each (λ x. since a.path g x.thread.who.path ≡ true)) (sym e) (each_both (λ x. since a.path g x.thread.who.path ≡ true) ts us
    (each_map (Beneath (a.path ++ k ∷ [])) (λ x. since a.path g x.thread.who.path ≡ true) ts
    (λ x y. since_one a.path k g x.thread.who.path (omega (arith, lk, lq)) y) kp.beneath)
    (stretch_since P z a p m g (omega (arith, lk, lq)) st))

pub stretch_strict : (P : ScopeStands) (z : Setting) (a : Who) (p m : ℕ) {q : ℕ} {bs : Scopes} {xs : List Task} →
    Stretches P z a p m q bs xs → Each (Strict a.path) xs
stretch_strict P z a p m (no_stretch le) = tt
stretch_strict P z a p m (stretch {us = us} k n s ts e lk ln h st) = let kp = h.keeps in
    subst (Each (Strict a.path)) (sym e) (each_both (Strict a.path) ts us (strict_up a.path k ts kp.beneath) (stretch_strict P z a p m st))

pub stretch_apart : (P : ScopeStands) (z : Setting) (a : Who) (p m : ℕ) (pre post : List Task) (up : List Up) (rs : Trees) {q : ℕ}
    {bs : Scopes} {xs : List Task} → Apart a.path (world_of pre post up rs q) → Stretches P z a p m q bs xs →
    Apart a.path (world_of (onto xs pre) post up rs p)
stretch_apart P z a p m pre post up rs far (no_stretch {q = q} le) = record
    { pre = clear_less a.path q p pre le far.pre; post = clear_less a.path q p post le far.post }
stretch_apart P z a p m pre post up rs far (stretch {q = q} {us = us} k n s ts e lk ln h st) = let kp = h.keeps in
    subst (λ y. Apart a.path (world_of y post up rs p)) (sym (ap (λ y. onto y pre) e ∙ onto_both ts us pre))
    (stretch_apart P z a p m (onto ts pre) post up rs (left_apart a.path k (world_of pre post up rs q) ts lk far kp.beneath) st)

behind_not : (b : Bool) {p : Bool} {A : Type 0} → cond b true p ≡ false → (b ≡ false → p ≡ false → A) → A
behind_not true h f = cc
behind_not false h f = f refl h

pub stretch_waits : (P : ScopeStands) (z : Setting) (a : Who) (p m n : ℕ) {q : ℕ} {bs : Scopes} {xs : List Task} →
    is_behind n bs ≡ false → Stretches P z a p m q bs xs → has n (waits_of xs) ≡ false
stretch_waits P z a p m n h (no_stretch le) = refl
stretch_waits P z a p m n h (stretch {bs = bs} {us} k i s ts e lk ln d st) = let kp = d.keeps in
    behind_not (has n (scope_leaves s)) h (λ x y. ap (λ v. has n (waits_of v)) e ∙ ap (has n) (waits_both ts us) ∙
    has_none n (waits_of ts) (waits_of us) (ap (has n) kp.waits ∙ x) (stretch_waits P z a p m n y st))

pub body_has : (n : ℕ) (ws : List Wait) (bs : Scopes) → is_behind n bs ≡ false → has n (behind_leaves bs ws) ≡ true → has n ws ≡ true
body_has n ws none h e = e
body_has n ws (also s bs) h e = behind_not (has n (scope_leaves s)) h
    (λ x y. body_has n ws bs y (has_second n (scope_leaves s) (behind_leaves bs ws) x e))

-- what begins below a child k encloses none that is beneath another, later child
pub beside_acc : (a : List ℕ) (k i : ℕ) (t : Task) (acc : List Task) → i < k → Beneath (a ++ i ∷ []) t →
    Each (Beneath (a ++ k ∷ [])) acc → NotOver acc t
beside_acc a k i t acc lt h be = each_map (Beneath (a ++ k ∷ [])) (λ x. starts t.thread.who.path x.thread.who.path ≡ false) acc
    (λ x hx. starts_through (a ++ i ∷ []) t.thread.who.path x.thread.who.path h (starts_earlier a x.thread.who.path k i lt hx)) be

stretch_over : (P : ScopeStands) (z : Setting) (a : Who) (p m k : ℕ) (acc : List Task) {q : ℕ} {bs : Scopes} {xs : List Task} → q ≤ k →
    Each (Beneath (a.path ++ k ∷ [])) acc → Stretches P z a p m q bs xs → Each (NotOver acc) xs
stretch_over P z a p m k acc lq be (no_stretch le) = tt
stretch_over P z a p m k acc lq be (stretch {us = us} i n s ts e lk ln h st) = let kp = h.keeps in
    subst (Each (NotOver acc)) (sym e) (each_both (NotOver acc) ts us
    (each_map (Beneath (a.path ++ i ∷ [])) (NotOver acc) ts
    (λ t ht. beside_acc a.path k i t acc (omega (arith, lk, lq)) ht be) kp.beneath)
    (stretch_over P z a p m k acc (omega (arith, lk, lq)) be st))

-- what is behind is cancelled from the last to the first
pub stretch_clears : (P : ScopeStands) (z : Setting) (a : Who) (p m : ℕ) {q : ℕ} {bs : Scopes} {xs : List Task} →
    Stretches P z a p m q bs xs → Clears z m (Clear a.path q) (ordered [] xs) (λ M w. cancel_behind z.program (deeper z.program M) bs w)
stretch_clears P z a p m (no_stretch {q = q} le) = clears_none z m (Clear a.path q)
stretch_clears P z a p m (stretch {q = q} {bs} {us} k n s ts e lk ln h st) = let kp = h.keeps in
    subst (λ y. Clears z m (Clear a.path q) y (λ M w. cancel_behind z.program (deeper z.program M) (also s bs) w))
    (sym (ap (ordered []) e ∙ ordered_apart ts us (stretch_over P z a p m k (ordered [] ts) le_self
    (each_ordered (Beneath (a.path ++ k ∷ [])) [] ts tt kp.beneath) st)))
    (clears_both z m (Clear a.path q) (ordered [] us) (ordered [] ts) (λ M w. cancel_behind z.program (deeper z.program M) bs w)
    (all_of_scope z s)
    (clears_map z m (Clear a.path k) (Clear a.path q) (ordered [] us) (λ M w. cancel_behind z.program (deeper z.program M) bs w)
    (λ t f i x. f i (omega (arith, x, lk))) (stretch_clears P z a p m st))
    (clears_map z m (Beside (a.path ++ k ∷ [])) (Clear a.path q) (ordered [] ts) (all_of_scope z s) (λ t f. f k lk)
    (clears_less z n m (Beside (a.path ++ k ∷ [])) (ordered [] ts) (all_of_scope z s) ln h.clears)))

-- what is beneath a, and not beneath a child from p on, encloses nothing of what is behind
kid_over : (P : ScopeStands) (z : Setting) (a : Who) (p m : ℕ) (t : Task) → Strict a.path t → Young a.path p t →
    {q : ℕ} {bs : Scopes} {xs : List Task} → Stretches P z a p m q bs xs → NotOver xs t
kid_over P z a p m t h y (no_stretch le) = tt
kid_over P z a p m t h y (stretch {us = us} k n s ts e lk ln d st) = let kp = d.keeps in let lo = stretch_low P z a p m st in
    subst (λ v. NotOver v t) (sym e) (each_both (λ x. starts t.thread.who.path x.thread.who.path ≡ false) ts us
    (each_map (Beneath (a.path ++ k ∷ [])) (λ x. starts t.thread.who.path x.thread.who.path ≡ false) ts
    (λ x hx. starts_beside a.path t.thread.who.path x.thread.who.path k h.0 h.1 (y k lo) hx) kp.beneath) (kid_over P z a p m t h y st))

-- a scope is cancelled: what its own code encloses, then what is behind, then its own frames
pub stopped_behind : (P : ScopeStands) (z : Setting) (c : Ctx) (p m : ℕ) (ws : List Wait) (us : List Task) (kq oq : ℕ → Scene → Went) →
    Keeps c.who.path p ws us → Stopped z m c us kq oq → {q : ℕ} {bs : Scopes} {xs : List Task} → Stretches P z c.who p m q bs xs →
    Stopped z m c (xs ++ us) (λ M w. went_on (kq M w) (λ u. cancel_behind z.program (deeper z.program M) bs u)) oq
stopped_behind P z c p m ws us kq oq kp x {q} {bs} {xs} st = record {
  kids = xs ++ x.kids;
  self = x.self;
  is = ap (λ y. xs ++ y) x.is ∙ sym (append_assoc xs x.kids (x.self ∷ []));
  who = x.who;
  strict = each_both (Strict c.who.path) xs x.kids (stretch_strict P z c.who p m st) x.strict;
  clears = subst (λ y. Clears z m (Beside c.who.path) y
      (λ M w. went_on (kq M w) (λ u. cancel_behind z.program (deeper z.program M) bs u))) (sym (ordered_apart xs x.kids
      (each_two (Strict c.who.path) (Young c.who.path p) (NotOver (ordered [] xs)) x.kids
      (λ t h y. each_ordered (λ v. starts t.thread.who.path v.thread.who.path ≡ false) [] xs tt (kid_over P z c.who p m t h y st))
      x.strict (each_left (Young c.who.path p) x.kids (x.self ∷ []) (subst (Each (Young c.who.path p)) x.is kp.young)))))
      (clears_both z m (Beside c.who.path) (ordered [] x.kids) (ordered [] xs) kq
      (λ M w. cancel_behind z.program (deeper z.program M) bs w) x.clears
      (clears_map z m (Clear c.who.path q) (Beside c.who.path) (ordered [] xs) (λ M w. cancel_behind z.program (deeper z.program M) bs w)
      (λ t h i y. starts_longer c.who.path (i ∷ []) t.thread.who.path h) (stretch_clears P z c.who p m st)));
  own = x.own;
}

-- all that has grown, as stretches
pub record Grew (P : ScopeStands) (z : Setting) (a : Who) (m q : ℕ) (pre post : List Task) (up : List Up) (o : Around)
    (b : Scopes) : Type 0 where
  pub xs : List Task
  pub st : Stretches P z a o.own m q b xs
  pub pre_is : o.world.pre ≡ onto xs pre
  pub post_is : o.world.post ≡ post
  pub ups_is : o.world.ups ≡ up

pub grew : (P : ScopeStands) (z : Setting) (c : Ctx) (n' : ℕ) (o' : Around) (b' : Scopes) (f' : Tasks) (q : ℕ) (pre post : List Task)
    (up : List Up) {n : ℕ} {o : Around} {b : Scopes} {f : Tasks} (xs : List Task) → Stretches P z c.who o.own n q b xs →
    o.world.pre ≡ onto xs pre → o.world.post ≡ post → o.world.ups ≡ up → Grown P z c n' o' b' f' n o b f →
    Grew P z c.who n' q pre post up o' b'
grew P z c n' o' b' f' q pre post up xs st e1 e2 e3 (same_around {n = n} lt) = record {
  xs = xs;
  st = stretch_as P P z (λ m k s w ts h. h) c.who o'.own o'.own n n' q le_self lt le_self st;
  pre_is = e1;
  post_is = e2;
  ups_is = e3;
}
grew P z c n' o' b' f' q pre post up xs st e1 e2 e3 (left_around {n = n} {m} {o} k s ts fr lt l1 l2 p h) =
    grew P z c n' o' b' f' q pre post up (xs ++ ts) (stretch_more P z c.who o.own m k m s ts l1 le_self p
    (stretch_as P P z (λ m k s w ts h. h) c.who o.own o.own n m q le_self lt le_self st))
    (ap (λ y. onto ts y) e1 ∙ sym (onto_both xs ts pre)) e2 e3 h
grew P z c n' o' b' f' q pre post up xs st e1 e2 e3 (forked_around {n = n} {m} {o} k i s ts fr lt p h) =
    grew P z c n' o' b' f' q pre post up xs (stretch_as P P z (λ m k s w ts h. h) c.who o.own o.own n m q le_self lt le_self st) e1 e2 e3 h

finished_behind : (q : Role) (v : Val) (w : Scene) → (finished q v w).behind ≡ w.behind
finished_behind part v w = refl
finished_behind body v w = refl
finished_behind (root e) v w = refl

finished_tasks : (q : Role) (v : Val) (w : Scene) → (finished q v w).tasks ≡ w.tasks
finished_tasks part v w = refl
finished_tasks body v w = refl
finished_tasks (root e) v w = refl

finished_left : (q : Role) (v : Val) (w : Scene) → (finished q v w).state.clock.left ≡ w.state.clock.left
finished_left part v w = refl
finished_left body v w = refl
finished_left (root e) v w = result_left e v w.state

finished_state : (q : Role) (v : Val) (w : Scene) (b : Scopes) → (finished q v (set_behind w b)).state ≡ (finished q v w).state
finished_state part v w b = refl
finished_state body v w b = refl
finished_state (root e) v w b = refl

-- what may return
abbrev pub MayReturn : Role → Type 0
MayReturn part = ⊥
MayReturn body = Unit {0}
MayReturn (root e) = Unit {0}

abbrev pub NoReturn : Role → Type 0
NoReturn part = Unit {0}
NoReturn body = ⊥
NoReturn (root e) = ⊥

-- A scope whole, in the first frame of a task or in the frame of a call; the task is w, the frame's number g.
-- `after` is what the machine keeps of what follows its end, `leave` what it does then, `Kept` what is known of the scope asleep.
module _ (z : Setting) (w : Who) (g Q : ℕ) (lq : g ≤ Q) (e0 : Env) (ss : Held) (bl : List Frame) (q : Role) (F : Type 0)
    (after : Val → After) (leave : Val → World → State → Step) (Kept : ℕ → ℕ → ℕ → Scope → List Task → Type 0) (Lost : ℕ → World → Goal →
    State → Type 0) (a : ℕ)
    (fol : (v : Val) (o : World) (x : Scene) → follows (after v) o x.state ≡ leave v o (finished q v x).state)
    (ff : free [] [] bl ≡ true → F) where
  abbrev my : Ctx
  my = in_frame e0 ss w g bl

  abbrev PS : ℕ → ScopeStands
  PS j = ParkedS z j

  abbrev machine_over : Val → World → State → Step
  machine_over v o s = cancels (λ o s. follows (after v) o s) (after v) (since w.path g) o s

  abbrev GoesMine : ℕ → ℕ → World → Around → Scopes → Tasks → Goal → TaskOutcome → Type 0
  GoesMine j n X o b f gl x = GoesScope F (PS j) leave (Kept j) (Lost n X gl) z n w.path o b f gl x

  -- parts of a scope that sleeps are what is known of it
  abbrev KeptFrom : ℕ → Type 0
  KeptFrom j = F → (m p : ℕ) (us xs : List Task) (r : Residual) (bs : Scopes) → Stretches (PS j) z w p m g bs xs →
      RestAt (ParkedR z j) z m p r my (on a []) us → Kept j m Q (scope q r bs) (xs ++ us)

  low_apart : (pre post : List Task) (up : List Up) (rs : Trees) → Apart w.path (world_of pre post up rs Q) →
      Apart w.path (world_of pre post up rs g)
  low_apart pre post up rs far = record { pre = clear_less w.path Q g pre lq far.pre; post = clear_less w.path Q g post lq far.post }

  as_it : (j p m m' q q' : ℕ) → m' ≤ m → q ≤ q' → {bs : Scopes} {xs : List Task} → Stretches (PS j) z w p m q bs xs →
      Stretches (PS j) z w p m' q' bs xs
  as_it j p m m' q q' lm lq st = stretch_as (PS j) (PS j) z (λ m k s w ts h. h) w p p m m' q' le_self lm lq st

  less_now : (j p m m' q q' : ℕ) → m' ≤ m → q ≤ q' → {bs : Scopes} {xs : List Task} → Stretches (PS (suc j)) z w p m q bs xs →
      Stretches (PS j) z w p m' q' bs xs
  less_now j p m m' q q' lm lq st = stretch_as (PS (suc j)) (PS j) z (lower_s z j) w p p m m' q' le_self lm lq st

  returned_cases : {A : Type 0} (j n M : ℕ) (X : World) (o : Around) (b : Scopes) (f : Tasks) (gl : Goal) (v : Val) (y : Scene) →
      GoesMine j n X o b f gl (scope_returned z.program (deeper z.program M) q b v y) →
      (MayReturn q → GoesMine j n X o b f gl (scope_ended z.program (deeper z.program M) q b v y) → A) →
      (NoReturn q → broke_off ending.Stuck y.state ≡ gl.seen → A) → A
  returned_cases {A} j n M X o b f gl v y h yes_do no_do = by q h yes_do no_do
    where
      by : (q' : Role) → GoesMine j n X o b f gl (scope_returned z.program (deeper z.program M) q' b v y) →
          (MayReturn q' → GoesMine j n X o b f gl (scope_ended z.program (deeper z.program M) q' b v y) → A) →
          (NoReturn q' → broke_off ending.Stuck y.state ≡ gl.seen → A) → A
      by part h yes_do no_do = no_do tt h
      by body h yes_do no_do = yes_do tt h
      by (root e) h yes_do no_do = yes_do tt h

  -- the end of the scope: what is behind is cancelled, and then what follows
  ended_goes : (j n : ℕ) (pre post : List Task) (up : List Up) (rs : Trees) (X : World) (b : Scopes) (f : Tasks) (gl : Goal) →
      Apart w.path (world_of pre post up rs Q) → (p : ℕ) (bs : Scopes) (xs : List Task) → Stretches (PS j) z w p n g bs xs → (M : ℕ) →
      n ≤ M →
      (v : Val) (y : Scene) → GoesMine j n X (world_of pre post up rs Q) b f gl (scope_ended z.program (deeper z.program M) q b v y) →
      (m : ℕ) (o' : Around) → Grown (PS j) z my m o' y.behind y.tasks n (world_of (onto xs pre) post up rs p) bs f →
      Fine m w.path o' y.state →
      Ends z (machine_over v o'.world y.state) gl
  ended_goes j n pre post up rs X b f gl far p bs xs st M lM v y k m o' gr fi =
      let G : Grew (PS j) z w m g pre post up o' y.behind = grew (PS j) z my m o' y.behind y.tasks g pre post up xs st refl refl refl gr in
      let own : o'.own ≤ g = trans (grown_own (PS j) z my m o' y.behind y.tasks gr) (stretch_low (PS j) z w p n st) in
      let mn : m ≤ n = grown_steps (PS j) z my m o' y.behind y.tasks gr in
      let rs' : Trees = o'.world.trees in
      let ow : World = record { pre = pre; post = post; ups = up; trees = rs' } in
      let same : o'.world ≡ record { pre = onto G.xs pre; post = post; ups = up; trees = rs' } =
      ap (λ u. record { pre = u; post = o'.world.post; ups = o'.world.ups; trees = rs' }) G.pre_is ∙
      ap (λ u. record { pre = onto G.xs pre; post = u; ups = o'.world.ups; trees = rs' }) G.post_is ∙
      ap (λ u. record { pre = onto G.xs pre; post = post; ups = u; trees = rs' }) G.ups_is in
      let si : Each (λ x. since w.path g x.thread.who.path ≡ true) G.xs = stretch_since (PS j) z w o'.own m g le_self G.st in
      let n1 = none_since w.path g Q pre lq far.pre in let n2 = none_since w.path g Q post lq far.post in
      subst (λ u. Ends z (machine_over v u y.state) gl) (sym same)
      (subst (λ u. Ends z (clears (λ o s. follows (after v) o s) (after v) u
      (record {
        pre = without (since w.path g) (onto G.xs pre);
        post = without (since w.path g) post;
        ups = up;
        trees = rs';
      }) y.state) gl)
      (sym (ap (λ u. u ++ gone_behind (since w.path g) post) (gone_onto (since w.path g) G.xs pre si ∙
      ap (λ u. ordered u G.xs) (gone_none (since w.path g) pre n1)) ∙
      ap (λ u. ordered [] G.xs ++ u) (gone_none_behind (since w.path g) post n2)))
      (subst (λ u. Ends z (clears (λ o s. follows (after v) o s) (after v) (ordered [] G.xs ++ [])
      (record { pre = u; post = without (since w.path g) post; ups = up; trees = rs' }) y.state) gl)
      (sym (without_onto (since w.path g) G.xs pre si ∙ without_none (since w.path g) pre n1))
      (subst (λ u. Ends z (clears (λ o s. follows (after v) o s) (after v) (ordered [] G.xs ++ [])
      (record { pre = pre; post = u; ups = up; trees = rs' }) y.state) gl) (sym (without_none (since w.path g) post n2))
      (stretch_clears (PS j) z w o'.own m G.st (after v) [] ow y M gl fi.steps (trans fi.steps (trans mn lM))
      (clear_less w.path Q g pre lq far.pre, clear_less w.path Q g post lq far.post)
      (gone_map (cancel_behind z.program (deeper z.program M) y.behind y) y _ _ gl
      (gone_task F (PS j) leave (Kept j) (Lost n X gl) z n w.path (world_of pre post up rs Q) b f gl
      (cancel_behind z.program (deeper z.program M) y.behind y) y _ k)
      (λ u le eb et h. subst (λ s. Ends z s gl) (sym (fol v ow u)) (subst (λ s. Ends z (leave v ow s) gl) (finished_state q v u b)
      (h (finished_behind q v (set_behind u b)) m rs' (subst (λ t. Planted F (PS j) z m rs' t n rs f)
      (sym (finished_tasks q v (set_behind u b) ∙ et)) (grown_planted F (PS j) z my ff m o' y.behind y.tasks gr))
      (moved {s = y.state} (record {
        steps = fi.steps;
        low = trans (trans fi.low own) lq;
        apart = record { pre = far.pre; post = far.post };
      }) (of_equal (finished_left q v (set_behind u b)) le))))))))))
    where
      of_equal : {i k l : ℕ} → i ≡ k → k ≤ l → i ≤ l
      of_equal e le = omega (arith, e, le)

  module _ (he : (o : World) (s : State) (ls : List Val) (v : Val) (gl : Goal) → Ends z (machine_over v o s) gl →
      Ends z (Next (machine w o s (life_from g) ls (v ∷ []) a [] bl)) gl)
      (hr : MayReturn q → (o : World) (s : State) (ls stk : List Val) (v : Val) (i : ℕ) (gl : Goal) →
      Returns z [] (life_from g) with_return i → Ends z (machine_over v o s) gl →
      Ends z (Next (machine w o s (life_from g) ls (v ∷ stk) i [] bl)) gl)
      (hn : NoReturn q → (o : World) (s : State) (ls stk : List Val) (v : Val) (i : ℕ) (gl : Goal) →
      Returns z [] (life_from g) with_return i → broke_off ending.Stuck s ≡ gl.seen →
      Ends z (Next (machine w o s (life_from g) ls (v ∷ stk) i [] bl)) gl)
      (hf : (j n : ℕ) (X : World) (o : Around) (b : Scopes) (f : Tasks) (gl : Goal) (s : State) →
      GoesMine j n X o b f gl (not_given q s) → (o' : World) (ls : List Val) → s.clock.left ≤ n → s.clock.left ≤ Q →
      (free [] [] bl ≡ false → o' ≡ X) → Ends z (failing w o' s ls [] bl) gl) where
    -- X is the world in which the scope began, where it may not be suspended
    pub scope_goes : (j : ℕ) → KeptFrom j → (n : ℕ) (pre post : List Task) (up : List Up) (rs : Trees) (X : World) (b : Scopes)
        (f : Tasks) (gl : Goal) → Apart w.path (world_of pre post up rs Q) → (p : ℕ) (bs : Scopes) (xs : List Task) →
        Stretches (PS j) z w p n g bs xs →
        (free [] [] bl ≡ false → record { pre = onto xs pre; post = post; ups = up; trees = rs } ≡ X) → (M : ℕ) → n ≤ M → (x : Outcome) →
        GoesMine j n X (world_of pre post up rs Q) b f gl (scope_end z.program (deeper z.program M) q b x) →
        Goes z j n my (world_of (onto xs pre) post up rs p) bs f (on a []) gl x
    unfolding scope_end
    scope_goes j kf n pre post up rs X b f gl far p bs xs st wX M lM (value e v y) k = λ m o' gr ls gd bi. he o'.world y.state ls v gl
        (ended_goes j n pre post up rs X b f gl far p bs xs st M lM v y k m o' gr gd.fine)
    scope_goes j kf n pre post up rs X b f gl far p bs xs st wX M lM (failed s) k = λ m o' b' f' gr ls gd.
        hf j n X (world_of pre post up rs Q) b f gl s k o'.world ls (lost_steps m o' b' f' gr gd) (lost_low m o' b' f' gr gd)
        (λ na. same m o' b' f' gr na ∙ wX na)
      where
        same : (m : ℕ) (o' : Around) (b' : Scopes) (f' : Tasks) →
            Grown (PS j) z my m o' b' f' n (world_of (onto xs pre) post up rs p) bs f → free [] [] bl ≡ false →
            o'.world ≡ record { pre = onto xs pre; post = post; ups = up; trees = rs }
        same m o' b' f' (same_around le) na = refl
        same m o' b' f' (left_around k s ts fr lt l1 l2 y h) na = cc
        same m o' b' f' (forked_around k e s ts fr lt y h) na = cc

        lost_steps : {ls : List Val} (m : ℕ) (o' : Around) (b' : Scopes) (f' : Tasks) →
            Grown (PS j) z my m o' b' f' n (world_of (onto xs pre) post up rs p) bs f → Good m w.path o' ss.held ss.also ss.size s ls →
            s.clock.left ≤ n
        lost_steps m o' b' f' gr gd = let fi = gd.fine in trans fi.steps (grown_steps (PS j) z my m o' b' f' gr)

        lost_low : {ls : List Val} (m : ℕ) (o' : Around) (b' : Scopes) (f' : Tasks) →
            Grown (PS j) z my m o' b' f' n (world_of (onto xs pre) post up rs p) bs f → Good m w.path o' ss.held ss.also ss.size s ls →
            s.clock.left ≤ Q
        lost_low m o' b' f' gr gd = let fi = gd.fine in trans fi.low
            (trans (grown_own (PS j) z my m o' b' f' gr) (trans (stretch_low (PS j) z w p n st) lq))
    scope_goes j kf n pre post up rs X b f gl far p bs xs st wX M lM (returned v y) k = λ m o' gr i ls stk h1 gd.
        returned_cases j n M X (world_of pre post up rs Q) b f gl v y k
        (λ may k. hr may o'.world y.state ls stk v i gl h1
        (ended_goes j n pre post up rs X b f gl far p bs xs st M lM v y k m o' gr gd.fine))
        (λ may e. hn may o'.world y.state ls stk v i gl h1 e)
    scope_goes j kf n pre post up rs X b f gl far p bs xs st wX M lM (broke y) k = λ m o' gr i ls stk br gd. by m o' i ls stk br
      where
        by : (m : ℕ) (o' : Around) (i : ℕ) (ls stk : List Val) → Breaks z [] (life_from g) (no_loop 0) [] i stk →
            Ends z (at my o' y.state ls stk i) gl
        by m o' i ls stk (break_leaves f1 f2 h onw) = one (oper.Leave 0) (machine w o'.world y.state (life_from g) ls stk i [] bl) h
            (one (oper.Arm onw.0) (machine w o'.world y.state (life_from g) ls stk (suc i) [] bl) onw.1 (over _ k))
        by m o' i ls stk (break_now le onw) = one (oper.Arm onw.0) (machine w o'.world y.state (life_from g) ls stk i [] bl) onw.1
            (over _ k)
    scope_goes j kf n pre post up rs X b f gl far p bs xs st wX M lM (halted h) k = k
    scope_goes j kf n pre post up rs X b f gl far p bs xs st wX M lM (rests r y) k = λ m o' gr fr fi ts rst.
        let G : Grew (PS j) z w m g pre post up o' y.behind = grew
        (PS j) z my m o' y.behind y.tasks g pre post up xs st refl refl refl gr in
        let own : o'.own ≤ g = trans (grown_own (PS j) z my m o' y.behind y.tasks gr) (stretch_low (PS j) z w p n st) in
        subst (λ u. Ends z (rested (onto ts u) o'.world.post o'.world.ups o'.world.trees y.state) gl) (sym G.pre_is)
        (subst (λ u. Ends z (rested (onto ts (onto G.xs pre)) u o'.world.ups o'.world.trees y.state) gl) (sym G.post_is)
        (subst (λ u. Ends z (rested (onto ts (onto G.xs pre)) post u o'.world.trees y.state) gl) (sym G.ups_is)
        (subst (λ u. Ends z (rested u post up o'.world.trees y.state) gl) (onto_both G.xs ts pre)
        (k refl (ff fr) m o'.world.trees (grown_planted F (PS j) z my ff m o' y.behind y.tasks gr)
        (record { steps = fi.steps; low = trans (trans fi.low own) lq; apart = record { pre = far.pre; post = far.post } })
        (G.xs ++ ts)
        (kf (ff fr) y.state.clock.left o'.own ts G.xs r y.behind (as_it j o'.own m y.state.clock.left g g fi.steps le_self G.st) rst)))))

    -- what the background comes to, beside the body us of a scope, which is parked
    abbrev GoesBehind : ℕ → (p n q : ℕ) → (us pre post : List Task) → Trees → Scopes → Tasks → Goal → BehindOutcome → Type 0
    GoesBehind j p n k us pre post rs b f gl (stops_behind h) = GoesHalt gl h
    GoesBehind j p n k us pre post rs b f gl (stays bs x) =
        x.behind ≡ b → (m : ℕ) (rs' : Trees) → m ≤ n → Planted F (PS j) z m rs' x.tasks n rs f → x.state.clock.left ≤ m →
        x.state.clock.left ≤ k → (ts : List Task) → Stretches (PS j) z w p x.state.clock.left k bs ts →
        Ends z (Turn x.state (among (onto pre (ts ++ (us ++ post))) rs')) gl

    planted_free : (j : ℕ) → F → (n' : ℕ) (rs' : Trees) (f' : Tasks) {n : ℕ} {rs : Trees} {f : Tasks} →
        Planted (Unit {0}) (PS j) z n' rs' f' n rs f → Planted F (PS j) z n' rs' f' n rs f
    planted_free j x n' rs' f' (not_planted lt) = not_planted lt
    planted_free j x n' rs' f' (one_planted k e s ts y lt st h) = one_planted k e s ts x lt st (planted_free j x n' rs' f' h)

    element_goes : F → (j p n k i : ℕ) (us vs pre post : List Task) (rs : Trees) (b : Scopes) (f : Tasks) (gl : Goal) (bs : Scopes)
        (ws : List Wait) → i < k → Stretches (PS (suc j)) z w p n i bs vs → Keeps w.path i ws (vs ++ us) → (x : TaskOutcome) →
        GoesBehind j p n k us pre post rs b f gl (element_came x bs) →
        GoesTask (PS j) z n (child_named w i) (around pre ((vs ++ us) ++ post) rs i) b f gl x
    unfolding element_came
    element_goes y0 j p n k i us vs pre post rs b f gl bs ws lk st kp (ends v x) h = λ eb m rs' pl fi.
        subst (λ y. Ends z y gl) (sym (kp.heeds i le_self v x.state pre post rs'))
        (subst (λ y. Ends z (Turn x.state (among (onto pre y) rs')) gl) (sym (append_assoc vs us post))
        (h eb m rs' (planted_steps (Unit {0}) (PS j) z m rs' x.tasks pl) (planted_free j y0 m rs' x.tasks pl) fi.steps
        (let lo = fi.low in omega (arith, lo, lk)) vs
        (less_now j p n x.state.clock.left i k (trans fi.steps (planted_steps (Unit {0}) (PS j) z m rs' x.tasks pl)) (weak lk) st)))
    element_goes y0 j p n k i us vs pre post rs b f gl bs ws lk st kp (lost y) h = h
    element_goes y0 j p n k i us vs pre post rs b f gl bs ws lk st kp (stops y) h = h
    element_goes y0 j p n k i us vs pre post rs b f gl bs ws lk st kp (sleeps s x) h = λ eb y1 m rs' pl fi ts y.
        subst (λ y. Ends z (Turn x.state (among y rs')) gl) (sym (onto_onto ts pre ((vs ++ us) ++ post)))
        (subst (λ y. Ends z (Turn x.state (among (onto pre y) rs')) gl) (append_assoc ts vs (us ++ post) ∙
        ap (λ y. ts ++ y) (sym (append_assoc vs us post)))
        (h eb m rs' (planted_steps (Unit {0}) (PS j) z m rs' x.tasks pl) (planted_free j y0 m rs' x.tasks pl) fi.steps
        (let lo = fi.low in omega (arith, lo, lk)) (ts ++ vs)
        (stretch i x.state.clock.left s ts refl lk le_self y
        (less_now j p n x.state.clock.left i i (trans fi.steps (planted_steps (Unit {0}) (PS j) z m rs' x.tasks pl)) le_self st))))

    beside_goes : (j p n k i : ℕ) (us pre post : List Task) (rs : Trees) (b : Scopes) (f : Tasks) (gl : Goal) (s : Scope)
        (ts : List Task) (m0 : ℕ) → i < k → n ≤ m0 → Stretch (PS j) z m0 i s (child_named w i) ts → (x : BehindOutcome) →
        GoesBehind j p n k us pre post rs b f gl (element_before s x) → GoesBehind j p n i us (onto ts pre) post rs b f gl x
    unfolding element_before
    beside_goes j p n k i us pre post rs b f gl s ts m0 lk ln pk (stops_behind y) h = h
    beside_goes j p n k i us pre post rs b f gl s ts m0 lk ln pk (stays bs x) h = λ eb m rs' lm pl lt lo vs st.
        subst (λ y. Ends z (Turn x.state (among y rs')) gl) (ap (λ y. onto pre y) (append_assoc ts vs (us ++ post)) ∙
        sym (onto_onto ts pre (vs ++ (us ++ post))))
        (h eb m rs' lm pl lt (omega (arith, lo, lk)) (ts ++ vs) (stretch i m0 s ts refl lk (trans lt (trans lm ln)) pk st))

    behind_wakes : F → (j n : ℕ) (v : Val) (u : State) (b : Scopes) (f : Tasks) (p : ℕ) (ws : List Wait) (us post : List Task)
        (rs : Trees) (M : ℕ) → u.clock.left ≤ M → (gl : Goal) → Keeps w.path p ws us → {k : ℕ} {bs : Scopes} {xs : List Task} →
        Stretches (PS (suc j)) z w p u.clock.left k bs xs →
        is_behind n bs ≡ true → (pre : List Task) → Apart w.path (around pre post rs k) →
        GoesBehind j p u.clock.left k us pre post rs b f gl (resume_behind z.program (deeper z.program M) bs n v (world u b f)) →
        Ends z (woken n v pre (xs ++ (us ++ post)) rs u) gl
    behind_wakes y0 j n v u b f p ws us post rs M lM gl kp (no_stretch le) h pre far y = cc
    behind_wakes y0 j n v u b f p ws us post rs M lM gl kp (stretch {q = k} {bs} {us = vs} {xs} i m s ts e lk ln d st) h pre far y =
        subst (λ y. Ends z (woken n v pre y rs u) gl) (sym (ap (λ y. y ++ (us ++ post)) e ∙ append_assoc ts vs (us ++ post)))
        (pick (behind_wakes y0 j n v u b f p ws us post rs M lM gl kp st) (has n (scope_leaves s)) refl h y)
      where
        all : Keeps w.path i (behind_leaves bs ws) (vs ++ us)
        all = stretch_keeps (PS (suc j)) z w p u.clock.left ws us kp st

        pick : ((is_behind n bs ≡ true) → (pre : List Task) → Apart w.path (around pre post rs i) →
            GoesBehind j p u.clock.left i us pre post rs b f gl (resume_behind z.program (deeper z.program M) bs n v (world u b f)) →
            Ends z (woken n v pre (vs ++ (us ++ post)) rs u) gl) →
            (y : Bool) → has n (scope_leaves s) ≡ y → cond y true (is_behind n bs) ≡ true →
            GoesBehind j p u.clock.left k us pre post rs b f gl
            (on_bool y (λ t. element_came (resume_scope z.program (deeper z.program M) s n v (world u b f)) bs)
            (λ t. element_before s (resume_behind z.program (deeper z.program M) bs n v (world u b f)))) →
            Ends z (woken n v pre (ts ++ (vs ++ (us ++ post))) rs u) gl
        pick next true hn h y =
            subst (λ y. Ends z (woken n v pre (ts ++ y) rs u) gl) (append_assoc vs us post)
            (d.stands n v u hn ln pre ((vs ++ us) ++ post) rs b f
            (record {
              pre = clear_child w.path i k i pre lk far.pre;
              post = each_both (Clear (w.path ++ i ∷ []) i) (vs ++ us) post
                  (each_map (Young w.path i) (Clear (w.path ++ i ∷ []) i) (vs ++ us)
                  (λ t h l x. starts_longer (w.path ++ i ∷ []) (l ∷ []) t.thread.who.path (h i le_self)) all.young)
                  (clear_child w.path i k i post lk far.post);
            }) M lM gl (element_goes y0 j p u.clock.left k i us vs pre post rs b f gl bs (behind_leaves bs ws) lk st all
            (resume_scope z.program (deeper z.program M) s n v (world u b f)) y))
        pick next false hn h y =
            let kq = d.keeps in
            subst (λ y. Ends z y gl) (sym (woken_over n v u pre ts (vs ++ (us ++ post)) rs (ap (has n) kq.waits ∙ hn)))
            (next h (onto ts pre) (left_apart w.path i (around pre post rs k) ts lk far kq.beneath)
            (beside_goes j p u.clock.left k i us pre post rs b f gl s ts m lk ln
            (stretch_map (PS (suc j)) (PS j) z m i s (child_named w i) ts (lower_s z j m i s (child_named w i) ts) d)
            (resume_behind z.program (deeper z.program M) bs n v (world u b f)) y))

    came_goes : F → (j : ℕ) → KeptFrom j → (p n m0 : ℕ) (us pre post : List Task) (rs : Trees) (X : World) (b : Scopes) (f : Tasks)
        (gl : Goal) (r : Residual) → Apart w.path (around pre post rs Q) → n ≤ m0 → RestAt (ParkedR z j) z m0 p r my (on a []) us →
        (x : BehindOutcome) →
        GoesMine j n X (around pre post rs Q) b f gl (behind_came q r x) → GoesBehind j p n g us pre post rs b f gl x
    unfolding behind_came
    came_goes y0 j kf p n m0 us pre post rs X b f gl r far ln kp (stops_behind y) h = h
    came_goes y0 j kf p n m0 us pre post rs X b f gl r far ln kp (stays bs y) h = λ eb m rs' lm pl lt lo ts st.
        subst (λ u. Ends z (Turn y.state (among u rs')) gl) (onto_onto (ts ++ us) pre post ∙
        ap (λ u. onto pre u) (append_assoc ts us post))
        (h eb y0 m rs' pl (record { steps = lt; low = trans lo lq; apart = record { pre = far.pre; post = far.post } }) (ts ++ us)
        (kf y0 y.state.clock.left p us ts r bs st (record {
          keeps = kp.keeps;
          stands = less_r z j m0 y.state.clock.left p r my
              (on a []) us (trans lt (trans lm ln)) kp.stands;
          stopped = stopped_less (trans lt (trans lm ln)) kp.stopped;
        })))

    -- a scope asleep is woken
    pub scope_woken : F → (free [] [] bl ≡ true) → (j : ℕ) → KeptFrom j → (m p : ℕ) (us xs : List Task) (r : Residual) (bs : Scopes) →
        Stretches (PS (suc j)) z w p m g bs xs → RestAt (ParkedR z (suc j)) z m p r my (on a []) us →
        (n : ℕ) (v : Val) (s : State) → has n (behind_leaves bs (leaves r)) ≡ true → s.clock.left ≤ m →
        (pre post : List Task) (rs : Trees) (X : World) (b : Scopes) (f : Tasks) → Apart w.path (around pre post rs Q) → (M : ℕ) →
        s.clock.left ≤ M → (gl : Goal) →
        GoesMine j s.clock.left X (around pre post rs Q) b f gl
        (resume_scope z.program (deeper z.program M) (scope q r bs) n v (world s b f)) →
        Ends z (woken n v pre ((xs ++ us) ++ post) rs s) gl
    scope_woken y0 fr j kf m p us xs r bs st rst n v s hn le pre post rs X b f far M lM gl y =
        subst (λ y. Ends z (woken n v pre y rs s) gl) (sym (append_assoc xs us post)) (pick (is_behind n bs) refl y)
      where
        kp : Keeps w.path p (leaves r) us
        kp = rst.keeps

        pick : (y : Bool) → is_behind n bs ≡ y →
            GoesMine j s.clock.left X (around pre post rs Q) b f gl
            (on_bool y (λ u. behind_came q r (resume_behind z.program (deeper z.program M) bs n v (world s b f)))
            (λ u. scope_end z.program (deeper z.program M) q b (resume z.program (deeper z.program M) r n v (world s bs f)))) →
            Ends z (woken n v pre (xs ++ (us ++ post)) rs s) gl
        pick true h y =
            behind_wakes y0 j n v s b f p (leaves r) us post rs M lM gl kp (as_it (suc j) p m s.clock.left g g le le_self st) h pre
            (low_apart pre post [] rs far)
            (came_goes y0 j kf p s.clock.left m us pre post rs X b f gl r far le
            (record { keeps = kp; stands = lower_r z j m p r my (on a []) us rst.stands; stopped = rst.stopped })
            (resume_behind z.program (deeper z.program M) bs n v (world s b f)) y)
        pick false h y =
            subst (λ y. Ends z y gl) (sym (woken_over n v s pre xs (us ++ post) rs (stretch_waits (PS (suc j)) z w p m n h st)))
            (rst.stands n v s (body_has n (leaves r) bs h hn) le (onto xs pre) post rs bs f
            (stretch_apart (PS (suc j)) z w p m pre post [] rs (low_apart pre post [] rs far) st) M lM gl
            (scope_goes j kf s.clock.left pre post [] rs X b f gl far p bs xs (less_now j p m s.clock.left g g le le_self st)
            (λ na. absurd (not_both fr na)) M lM (resume z.program (deeper z.program M) r n v (world s bs f)) y))
          where
            not_both : {y : Bool} → y ≡ true → y ≡ false → ⊥
            not_both e d = cc
