-- How outcomes of a sort pass through what forms make of them.
use Rattle.std.proofs.Common.{◌≡◌, ℕ, zero, suc, ◌<◌, Bool, true, refl, sym, subst}
use Rattle.std.proofs.Common.{arith}
use Rattle.verse_base.specs.declared.places.Place.{Place}
use Rattle.verse_value.specs.Val.{Val}
use Rattle.verse_value.specs.Answer.{Answer}
use Rattle.verse_meaning_state.specs.State.{State, stepped, restored}
use Rattle.verse_meaning_state.specs.Waits.{has}
use Rattle.verse_meaning_state.specs.Effects.{Effect, still}
use Rattle.verse_sorts.specs.Sorts as s
use Rattle.verse_sorts.specs.Sorts.{Sort, Fits}
use Rattle.verse_sorts.specs.Typing.{Typing, Grows, Adds, Is}
use Rattle.verse_sorts.proofs.Fitting.{is_more, is_up, grows_on, adds_itself}
use Rattle.verse_sorts_values.specs.Answers.{Answers, answers, answers_failure, answers_error, OfSort}
use Rattle.verse_sorts_values.specs.Cells.{StoreIs}
use Rattle.verse_meaning.specs.Programs.{Program}
use Rattle.verse_meaning.specs.Residuals.{Env, Residual, leaves}
use Rattle.verse_meaning.specs.Outcomes as o
use Rattle.verse_meaning.specs.Outcomes.{World, with_state, Outcome, valued, attempted, turned, closing, ran, told, told_plain, spends}
use Rattle.verse_meaning.specs.Evaluating.{cancel_kids, cancel_own}
use Rattle.verse_meaning.specs.Resuming.{resume}
use Rattle.verse_meaning.specs.Runs.{deeper}
use Rattle.verse_meaning.specs.Laws.{Calm}
use Rattle.verse_sound_rules.specs.Found.{Found, Allowed, tried, looped, deferred}
use Rattle.verse_sound_trees.specs.Outcomes.{Later, any_names, gives, fails, returns, breaks, faults, ends_steps, waits}
use Rattle.verse_sound_trees.specs.Waiting.{WaitsOf}
use Rattle.verse_sound_trees.specs.Going.{Undoes, Left, Level, bare, turns, Kept, LeftAt, Ready, Comes}
use Rattle.verse_sound_trees.specs.Going.{Within}
use Rattle.verse_sound_trees.proofs.Worlds.{later_itself, later_on, later_grows, adds_later, calm_itself, cells_of, moves}
use Rattle.verse_sound_trees.proofs.Worlds.{kept_stepped}
use Rattle.verse_sound_trees.proofs.Worlds.{kept_again, sooner}

abbrev pub Ends : Type 1
Ends = Typing → Env → Type 0

module _ (p : Program) (f : Found) (l : Level) where
  pub typed_from : {E : Ends} {t u : Typing} {a : Allowed} {b : Sort} {x : Outcome} → Later a.waits t u → Comes p f l E u a b x →
      Comes p f l E t a b x
  typed_from {a = a} g (gives h k i e) = gives (later_on a.waits _ _ _ g h) k i e
  typed_from g (fails h) = fails h
  typed_from {a = a} g (returns r h j k i) = returns r h (later_on a.waits _ _ _ g j) k i
  typed_from {a = a} g (breaks h j k) = breaks h (later_on a.waits _ _ _ g j) k
  typed_from g faults = faults
  typed_from g ends_steps = ends_steps
  typed_from {a = a} g (waits h j k r) = waits h (later_on a.waits _ _ _ g j) k r

  pub forget : {E : Ends} {t : Typing} {a : Allowed} {b : Sort} {x : Outcome} → Comes p f l E t a b x → Comes p f l any_names t a b x
  forget (gives h k i e) = gives h k i tt
  forget (fails h) = fails h
  forget (returns r h j k i) = returns r h j k i
  forget (breaks h j k) = breaks h j k
  forget faults = faults
  forget ends_steps = ends_steps
  forget (waits h j k r) = waits h j k r

  -- a part's value goes on in a form
  pub valued_typed : {D E : Ends} {t : Typing} {a : Allowed} {b d : Sort} {x : Outcome} (wrap : Residual → Residual) (go : Val → World →
      Outcome) →
      Comes p f l D t a b x → ((u : Typing) (w : Val) (z : World) → Later a.waits t u → Kept p f l u z → Is f.up u w b →
      Comes p f l E u a d (go w z)) →
      ((u : Typing) (r : Residual) → a.waits ≡ true → Later a.waits t u → LeftAt p f l u a b r → LeftAt p f l u a d (wrap r)) →
      Comes p f l E t a d (valued x wrap go)
  unfolding valued
  valued_typed wrap go (gives {u} {e} {v} {w} g k i j) h q = typed_from g (h u v w g k i)
  valued_typed wrap go (fails g) h q = fails g
  valued_typed wrap go (returns r g j k i) h q = returns r g j k i
  valued_typed wrap go (breaks g j k) h q = breaks g j k
  valued_typed wrap go faults h q = faults
  valued_typed wrap go ends_steps h q = ends_steps
  valued_typed wrap go (waits {u} {r} g j k m) h q = waits g j k (q u r g j m)

  -- at a value of a sort that fits
  pub typed_up : {E : Ends} {t : Typing} {a : Allowed} {b d : Sort} {x : Outcome} → Fits f.up b d →
      ((u : Typing) (r : Residual) → LeftAt p f l u a b r → LeftAt p f l u a d r) → Comes p f l E t a b x → Comes p f l E t a d x
  typed_up h q (gives g k i e) = gives g k (is_up f.up i h) e
  typed_up h q (fails g) = fails g
  typed_up h q (returns r g j k i) = returns r g j k i
  typed_up h q (breaks g j k) = breaks g j k
  typed_up h q faults = faults
  typed_up h q ends_steps = ends_steps
  typed_up h q (waits g j k m) = waits g j k (q _ _ m)

  -- an attempt: at a failure all is as at the entry, but for steps
  pub attempted_typed : {D E : Ends} {t : Typing} {a : Allowed} {b d : Sort} {x : Outcome} (w : World) (yes_do : Env → Val → World →
      Outcome) (no_do : World → Outcome) → Kept p f l t w → ((st : State) → x ≡ o.failed st → Calm w.state.clock st.clock) →
      Comes p f l D t (tried a) b x → ((u : Typing) (e : Env) (y : Val) (z : World) → Adds t u → Kept p f l u z → Is f.up u y b → D u e →
      Comes p f l E u a d (yes_do e y z)) → ((z : World) → Kept p f l t z → Comes p f l E t a d (no_do z)) →
      Comes p f l E t a d (attempted x w yes_do no_do)
  unfolding attempted
  attempted_typed {a = a} w yes_do no_do k c (gives {u} {e} {v} {w = z} g h i j) y q = typed_from (adds_later a.waits _ _ g)
      (y u e v z g h i j)
  attempted_typed w yes_do no_do k c (fails {st} g) y q = q (with_state w (restored w.state.memory st)) (kept_again p f l _ w st
      (c st refl) k)
  attempted_typed w yes_do no_do k c (returns r h g j i) y q = cc
  attempted_typed w yes_do no_do k c (breaks h g j) y q = cc
  attempted_typed w yes_do no_do k c faults y q = faults
  attempted_typed w yes_do no_do k c ends_steps y q = ends_steps
  attempted_typed w yes_do no_do k c (waits h g j m) y q = cc

  pub spends_typed : {E : Ends} {t : Typing} {a : Allowed} {b : Sort} (w : World) (left : ℕ) (go : World → Outcome) → Kept p f l t w →
      ((z : World) → Kept p f l t z → Comes p f l E t a b (go z)) → Comes p f l E t a b (spends left w go)
  unfolding spends
  spends_typed w zero go k h = ends_steps
  spends_typed w (suc n) go k h = h (with_state w (stepped n w.state)) (kept_stepped p f l _ w n k)

  -- a turn of a loop; c says whether a `break` leaves it
  pub turned_typed : {t : Typing} {a : Allowed} {b d : Sort} {x : Outcome} (c : Bool) (wrap : Residual → Residual) (e : Env) (go : World →
      Outcome) →
      (c ≡ true → Fits f.up s.unit d) → Comes p f l any_names t (looped c a) b x →
      ((u : Typing) (w : World) → Later a.waits t u → Kept p f l u w → Comes p f l any_names u a d (go w)) →
      ((u : Typing) (r : Residual) → a.waits ≡ true → Later a.waits t u → LeftAt p f l u (looped c a) b r → LeftAt p f l u a d (wrap r)) →
      Comes p f l any_names t a d (turned x wrap e go)
  unfolding turned
  turned_typed c wrap e go h (gives {u} {w = w} g k i j) m q = typed_from g (m u w g k)
  turned_typed c wrap e go h (fails g) m q = fails g
  turned_typed c wrap e go h (returns r g j k i) m q = returns r g j k i
  turned_typed c wrap e go h (breaks {u} g j k) m q = gives j k (is_up f.up Rattle.verse_sorts.specs.Typing.is_unit (h g)) tt
  turned_typed c wrap e go h faults m q = faults
  turned_typed c wrap e go h ends_steps m q = ends_steps
  turned_typed c wrap e go h (waits {u} {r} g j k n) m q = waits g j k (q u r g j n)

  -- a deferred block has run
  ran_typed : {D E : Ends} {t : Typing} {a : Allowed} {b d : Sort} {x : Outcome} (go : World → Outcome) → Comes p f l D t (deferred a) b x →
      ((u : Typing) (w : World) → Adds t u → Kept p f l u w → Comes p f l E u a d (go w)) → Comes p f l E t a d (ran x go)
  unfolding ran
  ran_typed {a = a} go (gives {u} {w = w} g k i e) h = typed_from (adds_later a.waits _ _ g) (h u w g k)
  ran_typed go (fails g) h = cc
  ran_typed go (returns r g j k i) h = cc
  ran_typed go (breaks g j k) h = cc
  ran_typed go faults h = faults
  ran_typed go ends_steps h = ends_steps
  ran_typed go (waits g j k r) h = cc

  -- control leaves a block that has reached a `defer`
  pub closing_typed : {D : Ends} {t : Typing} {a : Allowed} {b d : Sort} {x : Outcome} (run : World → Outcome) (wrap : Residual →
      Residual) (e : Env) →
      Comes p f l D t a b x → ((u : Typing) (w : World) → Later a.waits t u → Kept p f l u w →
      Comes p f l any_names u (deferred a) d (run w)) →
      ((u : Typing) (r : Residual) → a.waits ≡ true → Later a.waits t u → LeftAt p f l u a b r → LeftAt p f l u a b (wrap r)) →
      Comes p f l any_names t a b (closing x run wrap e)
  unfolding closing
  closing_typed {a = a} run wrap e (gives {u} {v = y} {w} g k i j) h q =
      typed_from g (ran_typed _ (h u w g k) (λ o z m n. gives (later_itself a.waits o) n (is_more f.up m.grows i) tt))
  closing_typed run wrap e (fails g) h q = fails g
  closing_typed {a = a} run wrap e (returns {u} {w = w} r g j k i) h q =
      typed_from j (ran_typed _ (h u w j k) (λ o z m n. returns r g (later_itself a.waits o) n (is_more f.up m.grows i)))
  closing_typed {a = a} run wrap e (breaks {u} {w} g j k) h q =
      typed_from j (ran_typed _ (h u w j k) (λ o z m n. breaks g (later_itself a.waits o) n))
  closing_typed run wrap e faults h q = faults
  closing_typed run wrap e ends_steps h q = ends_steps
  closing_typed run wrap e (waits {u} {r} g j k m) h q = waits g j k (q u r g j m)

  -- an operation: a value of the sort, and a state that is kept
  pub record Effected (t : Typing) (w : World) (b : Sort) (x : Val × State) : Type 0 where
    pub typing : Typing
    pub adds : Adds t typing
    pub store : StoreIs f.up f.slots typing x.1.memory.store
    pub clock : Calm w.state.clock x.1.clock
    pub is : Is f.up typing x.0 b

  abbrev pub Tells : Typing → World → Allowed → Sort → Effect → Type 0
  Tells t w a b = Answers (a.fails ≡ true) (Unit {0}) (Effected t w b)

  abbrev pub TellsPlainly : Typing → World → Allowed → Sort → Effect → Type 0
  TellsPlainly t w a b = Answers (a.fails ≡ true) ⊥ (Effected t w b)

  pub told_typed : {t : Typing} {a : Allowed} {b : Sort} {x : Effect} {w : World} (pl : Place) (e : Env) → Kept p f l t w →
      Tells t w a b x → Comes p f l any_names t a b (told x pl e w)
  unfolding told
  told_typed {a = a} {w = w} pl e k (answers {x} h) = gives (adds_later a.waits _ _ h.adds)
      (moves p f l _ _ w x.1 k h.adds h.store h.clock) h.is tt
  told_typed pl e k (answers_failure h) = fails h
  told_typed pl e k (answers_error h) = faults

  pub plain_typed : {t : Typing} {a : Allowed} {b : Sort} {x : Effect} {w : World} (e : Env) → Kept p f l t w →
      TellsPlainly t w a b x → Comes p f l any_names t a b (told_plain x e w)
  unfolding told_plain
  plain_typed {a = a} {w = w} e k (answers {x} h) = gives (adds_later a.waits _ _ h.adds)
      (moves p f l _ _ w x.1 k h.adds h.store h.clock) h.is tt
  plain_typed e k (answers_failure h) = fails h
  plain_typed e k (answers_error h) = absurd h

  -- of values alone
  pub still_told : {E : Type 0} {t : Typing} (a : Allowed) {b : Sort} {x : Answer Val} {w : World} → Kept p f l t w →
      OfSort (a.fails ≡ true) E f.up t b x → Answers (a.fails ≡ true) E (Effected t w b) (still x w.state)
  still_told {t = t} a {w = w} k (answers i) =
      answers (record { typing = t; adds = adds_itself; store = cells_of p f l t w k; clock = calm_itself w.state; is = i })
  still_told a k (answers_failure h) = answers_failure h
  still_told a k (answers_error h) = answers_error h

  pub gives_value : {t : Typing} {a : Allowed} {b : Sort} {w : World} (e : Env) (x : Val) → Kept p f l t w → Is f.up t x b →
      Comes p f l any_names t a b (o.value e x w)
  gives_value {t} {a} e x k i = gives (later_itself a.waits t) k i tt

-- what is round a residual: its waits and what it has deferred are those of the residual, and to go on goes through `close`
pub record Frames (p : Program) (wrap : Residual → Residual) (close : ℕ → Outcome → Outcome) : Type 0 where
  pub resumes : (g : ℕ) (r : Residual) (i : ℕ) (x : Val) (w : World) → resume p (deeper p g) (wrap r) i x w ≡ close g (resume p
      (deeper p g) r i x w)
  pub same_leaves : (r : Residual) → leaves (wrap r) ≡ leaves r
  pub kids : (g : ℕ) (r : Residual) (w : World) → cancel_kids p (deeper p g) (wrap r) w ≡ cancel_kids p (deeper p g) r w

module _ (p : Program) (f : Found) where
  abbrev pub OwnUndone : (Residual → Residual) → Typing → Type 0
  OwnUndone wrap t = (u : Typing) (r : Residual) → Grows t u → Undoes p f (λ k w. cancel_own p (deeper p k) r w) u →
      Undoes p f (λ k w. cancel_own p (deeper p k) (wrap r) w) u

  less : (m n : ℕ) → m < n → m < suc n
  less m n h = omega arith

  last : (n : ℕ) → n < suc n
  last n = omega arith

  pub left_frame : (n : ℕ) (t : Typing) (a c : Allowed) (b d : Sort) (wrap : Residual → Residual) (close : ℕ → Outcome → Outcome) →
      Frames p wrap close → OwnUndone wrap t →
      ((m g : ℕ) (u : Typing) (x : Outcome) → m < n → Grows t u → ((o : Typing) (r : Residual) → Grows u o → Left p f m o a b r →
      Left p f m o c d (wrap r)) →
      Comes p f (turns m) any_names u a b x → Comes p f (turns m) any_names u c d (close g x)) →
      (u : Typing) (r : Residual) → Grows t u → Left p f n u a b r → Left p f n u c d (wrap r)
  left_frame zero t a c b d wrap close fr own typed u r h l = (
    (
      λ o k w g z. subst (λ q. Rattle.verse_sound_trees.specs.Outcomes.WentWell f o q) (sym (fr.kids k r w))
          (l.0.0 o k w g z),
      own u r h l.0.1,
    ),
    subst (λ z. WaitsOf f.up u z) (sym (fr.same_leaves r)) l.1,
  )
  left_frame (suc n) t a c b d wrap close fr own typed u r h l = (
    left_frame n t a c b d wrap close fr own (λ m g o x lt. typed m g o x (less m n lt)) u r h l.0,
    λ o fuel i x q w g k j e kp.
        subst (λ z. Comes p f (turns n) any_names o c d z) (sym (fr.resumes fuel r i x w))
        (typed n fuel o (resume p (deeper p fuel) r i x w) (last n) (grows_on h g)
        (λ o1 r1 g1 l1. left_frame n t a c b d wrap close fr own (λ m g2 o2 x2 lt. typed m g2 o2 x2 (less m n lt)) o1 r1 (grows_on h
        (grows_on g g1)) l1)
        (l.1 o fuel i x q w g k j (subst (λ z. has i z ≡ true) (fr.same_leaves r) e) kp)),
  )

  -- what is of a sort is of each that it fits
  pub left_up : (n : ℕ) (u : Typing) (a : Allowed) (b d : Sort) (r : Residual) → Fits f.up b d → Left p f n u a b r → Left p f n u a d r
  left_up zero u a b d r h l = l
  left_up (suc n) u a b d r h l = (
    left_up n u a b d r h l.0,
    λ o fuel i x c w g k j e kp.
        typed_up p f (turns n) h (λ q r1 y. left_up n q a b d r1 h y) (l.1 o fuel i x c w g k j e kp),
  )

  pub up_to : (l : Level) {E : Ends} {t : Typing} {a : Allowed} {b d : Sort} {x : Outcome} → Fits f.up b d → Comes p f l E t a b x →
      Comes p f l E t a d x
  up_to bare h i = typed_up p f bare h (λ u r q. q) i
  up_to (turns n) {a = a} {b = b} {d = d} h i = typed_up p f (turns n) h (λ u r q. left_up n u a b d r h q) i

  -- a form goes on from a part, now, and where the part is woken
  pub then : (top : Level) (fuel : ℕ) (l : Level) (g : ℕ) → Within top fuel l g → {D E : Ends} (t : Typing) (a : Allowed) (b d : Sort)
      (x : Outcome)
      (wrap : Residual → Residual) (go : ℕ → Val → World → Outcome) → Ready l a.waits →
      (a.waits ≡ true → Frames p wrap (λ k y. valued y wrap (go k))) → OwnUndone wrap t → Comes p f l D t a b x →
      ((k : Level) (h : ℕ) (u : Typing) (y : Val) (w : World) → Within top fuel k h → Ready k a.waits → Grows t u → Kept p f k u w →
      Is f.up u y b →
      Comes p f k E u a d (go h y w)) → Comes p f l E t a d (valued x wrap (go g))
  then top fuel bare g s t a b d x wrap go rd fr own i next =
      valued_typed p f bare wrap (go g) i (λ u y w h k j. next bare g u y w s rd (later_grows a.waits _ _ h) k j) (λ u r q h m. m)
  then top fuel (turns n) g s {D} {E} t a b d x wrap go rd fr own i next =
      valued_typed p f (turns n) wrap (go g) i (λ u y w h k j. next (turns n) g u y w s rd (later_grows a.waits _ _ h) k j)
      (λ u r q h m. left_frame n t a a b d wrap (λ k y. valued y wrap (go k)) (fr q) own
      (λ m1 g1 u1 x1 lt gr back typed. valued_typed p f (turns m1) wrap (go g1) typed
      (λ o y w h1 k j. forget p f (turns m1) (next (turns m1) g1 o y w (sooner top fuel n m1 g g1 s lt) tt (grows_on gr
      (later_grows a.waits _ _ h1)) k j))
      (λ o r1 q1 h1 m2. back o r1 (later_grows a.waits _ _ h1) m2)) u r (later_grows a.waits _ _ h) m)
