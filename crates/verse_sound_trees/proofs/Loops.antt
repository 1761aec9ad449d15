-- The turns of loops, and deferred blocks.
use Rattle.std.proofs.Common.{◌≡◌, ℕ, zero, suc, ◌<◌, ℤ, Bool, true, false, cond, List, [], ◌∷◌, Option, Some, None, refl, sym}
use Rattle.std.proofs.Common.{subst, arith}
use Rattle.std.specs.Prelude.{◌+ℤ◌, pos, int_le}
use Rattle.std.specs.Ordering.{int_eq}
use Rattle.verse_base.specs.declared.places.Place.{Place}
use Rattle.verse_tree.specs.Tree.{Tree, Trees}
use Rattle.verse_value.specs.Val as v
use Rattle.verse_value.specs.Val.{Val}
use Rattle.verse_sorts.specs.Sorts as s
use Rattle.verse_sorts.specs.Sorts.{Sort, Fits}
use Rattle.verse_sorts.specs.Typing.{Typing, Grows, Is, is_any, is_int}
use Rattle.verse_sorts.proofs.Fitting.{is_more, is_up, grows_itself, grows_on}
use Rattle.verse_meaning.specs.Programs.{Program}
use Rattle.verse_meaning.specs.Residuals as form
use Rattle.verse_meaning.specs.Residuals.{Env, Generator, Residual, Values, listed, between, generated}
use Rattle.verse_meaning.specs.Outcomes.{World, Outcome, turned, valued, closing, dropped}
use Rattle.verse_meaning.specs.Forms.{next_value}
use Rattle.verse_meaning.specs.Evaluating.{ev}
use Rattle.verse_meaning.specs.Resuming.{taken}
use Rattle.verse_meaning.specs.Runs.{on_next, deeper}
use Rattle.verse_sound_rules.specs.Found.{Found, Allowed, looped, deferred}
use Rattle.verse_sound_trees.specs.Outcomes.{any_names, gives, fails, returns, breaks, faults, ends_steps, waits}
use Rattle.verse_sound_trees.specs.Outcomes.{WentWell, goes_well}
use Rattle.verse_sound_trees.specs.Outcomes.{quits_fault, quits_steps}
use Rattle.verse_sound_trees.specs.Going.{Left, Level, bare, turns, Kept, LeftAt, Ready, Comes, Within}
use Rattle.verse_sound_trees.proofs.Worlds.{later_itself, later_grows, fewer, sooner, below}
use Rattle.verse_sound_trees.proofs.Going.{Ends, valued_typed, turned_typed, closing_typed, spends_typed, Frames}
use Rattle.verse_sound_trees.proofs.Going.{left_frame}
use Rattle.verse_sound_trees.proofs.Operands.{Well}
use Rattle.verse_sound_trees.proofs.Cancelling.{went_then}

module _ (p : Program) (f : Found) (top : Level) (fuel : ℕ) where
  pub well_is : (t : Typing) (a : Allowed) (b : Sort) (go on : ℕ → World → Outcome) → ((g : ℕ) (w : World) → on g w ≡ go g w) →
      Well p f top fuel t a b go →
      Well p f top fuel t a b on
  well_is t a b go on same h l g sp rd u w gr k = subst (λ z. Comes p f l any_names u a b z) (sym (same g w)) (h l g sp rd u w gr k)

  pub well_up : (t : Typing) (a : Allowed) (b d : Sort) (go : ℕ → World → Outcome) → Fits f.up b d → Well p f top fuel t a b go →
      Well p f top fuel t a d go
  well_up t a b d go h i l g sp rd u w gr k = Rattle.verse_sound_trees.proofs.Going.up_to p f l h (i l g sp rd u w gr k)

  -- loops
  module _ (a : Allowed) (c : Bool) (b d : Sort) (x : Tree) (e : Env) (leaves_so : c ≡ true → Fits f.up s.unit d) where
    loop_run : (l : Level) (g h : ℕ) (t : Typing) (w : World) (m : Bool) →
        ((u : Typing) (w : World) → Grows t u → Kept p f l u w → Comes p f l any_names u (looped c a) b (ev p (deeper p g) x m e w)) →
        ((u : Typing) (r : Residual) → a.waits ≡ true → Grows t u → LeftAt p f l u (looped c a) b r →
        LeftAt p f l u a d (form.looped e x r)) →
        Kept p f l t w → Comes p f l any_names t a d ((deeper p h).loops (λ w. ev p (deeper p g) x m e w) (form.looped e x) e w)
    loop_run l g zero t w m go left k = ends_steps
    loop_run l g (suc h) t w m go left k = spends_typed p f l w w.state.clock.left _ k (λ z kz.
        turned_typed p f l c (form.looped e x) e _ leaves_so (go t z grows_itself kz)
        (λ u o gr ko. loop_run l g h u o m (λ u1 o1 g1. go u1 o1 (grows_on (later_grows a.waits t u gr) g1))
        (λ u1 r m1 g1. left u1 r m1 (grows_on (later_grows a.waits t u gr) g1)) ko)
        (λ u r m1 gr lr. left u r m1 (later_grows a.waits t u gr) lr))

    loop_frames : Frames p (form.looped e x) (λ g y. turned y (form.looped e x) e (λ w. (deeper p g).loops (λ w. ev p
        (deeper p g) x true e w) (form.looped e x) e w))
    loop_frames = record { resumes = λ g r i y w. refl; same_leaves = λ r. refl; kids = λ g r w. refl }

    loop_left : (n g : ℕ) → Within top fuel (turns n) g → (t u : Typing) (r : Residual) → a.waits ≡ true → Grows t u →
        Well p f top fuel t (looped c a) b (λ g w. ev p (deeper p g) x a.waits e w) → Left p f n u (looped c a) b r →
        Left p f n u a d (form.looped e x r)
    loop_left n g sp t u r m gr h l = left_frame p f n t (looped c a) a b d (form.looped e x) _ loop_frames (λ u r g i. i)
        (λ m1 g1 u1 y lt g2 back i. turned_typed p f (turns m1) c (form.looped e x) e _ leaves_so i
        (λ u2 o2 g3 k2. loop_run (turns m1) g1 g1 u2 o2 true
        (λ u3 o3 g4 k3. subst (λ z. Comes p f (turns m1) any_names u3 (looped c a) b (ev p (deeper p g1) x z e o3)) m
        (h (turns m1) g1 (sooner top fuel n m1 g g1 sp lt) tt u3 o3 (grows_on g2 (grows_on (later_grows a.waits u1 u2 g3) g4)) k3))
        (λ u3 r3 m3 g4 l3. back u3 r3 (grows_on (later_grows a.waits u1 u2 g3) g4) l3) k2)
        (λ u2 r2 m2 g3 l2. back u2 r2 (later_grows a.waits u1 u2 g3) l2))
        u r gr l

    pub loop_well : (t : Typing) → Well p f top fuel t (looped c a) b (λ g w. ev p (deeper p g) x a.waits e w) →
        Well p f top fuel t a d (λ g w. (deeper p g).loops (λ w. ev p (deeper p g) x a.waits e w) (form.looped e x) e w)
    loop_well t h bare g sp rd u w gr k =
        loop_run bare g g u w a.waits (λ u1 o1 g1 k1. h bare g sp rd u1 o1 (grows_on gr g1) k1) (λ u1 r m g1 l. l) k
    loop_well t h (turns n) g sp rd u w gr k =
        loop_run (turns n) g g u w a.waits (λ u1 o1 g1 k1. h (turns n) g sp tt u1 o1 (grows_on gr g1) k1)
        (λ u1 r m g1 l. loop_left n g sp t u1 r m (grows_on gr g1) h l) k

  -- a deferred block begins by a step
  module _ (a : Allowed) (b : Sort) (x : Tree) (e : Env) where
    pub part_well : (t : Typing) → Well p f top fuel t (deferred a) b (λ g w. ev p (deeper p g) x false e w) →
        Well p f top fuel t (deferred a) b (λ g w. (deeper p g).parts x e w)
    part_well t h l zero sp rd u w gr k = ends_steps
    part_well t h l (suc g) sp rd u w gr k =
        spends_typed p f l w w.state.clock.left _ k (λ z kz. h l g (fewer top fuel l g sp) rd u z gr kz)

    drops : (t : Typing) {E : Ends} {y : Outcome} → Comes p f bare E t (deferred a) b y → WentWell f t (dropped y)
    unfolding dropped
    drops t (gives g k i z) = goes_well g k
    drops t (fails h) = cc
    drops t (returns r h g k i) = cc
    drops t (breaks h g k) = cc
    drops t faults = quits_fault
    drops t ends_steps = quits_steps
    drops t (waits h g k l) = cc

    defer_frames : Frames p (form.deferred e x) (λ g y. closing y (λ w. (deeper p g).parts x e w) (form.deferred e x) e)
    defer_frames = record { resumes = λ g r i y w. refl; same_leaves = λ r. refl; kids = λ g r w. refl }

    -- a block goes on that has reached a `defer`
    defer_left : (n g : ℕ) → Within top fuel (turns n) g → (t u : Typing) (d : Sort) (r : Residual) → Grows t u →
        Well p f top fuel t (deferred a) b (λ g w. ev p (deeper p g) x false e w) → Left p f n u a d r →
        Left p f n u a d (form.deferred e x r)
    defer_left n g sp t u d r gr h l = left_frame p f n t a a d d (form.deferred e x) _ defer_frames
        (λ u1 r1 g1 own o2 k w g2 c2. went_then p f _ (own o2 k w g2 c2) (λ o3 w3 g3 c3.
        drops o3 (part_well t h bare k (below top fuel n g k sp) refl o3 w3 (grows_on g1 (grows_on g2 g3.grows)) c3)))
        (λ m1 g1 u1 y lt g2 back i. closing_typed p f (turns m1) _ (form.deferred e x) e i
        (λ u2 w2 g3 k2. part_well t h (turns m1) g1 (sooner top fuel n m1 g g1 sp lt) tt u2 w2 (grows_on g2
        (later_grows a.waits u1 u2 g3)) k2)
        (λ u2 r2 m2 g3 l2. back u2 r2 (later_grows a.waits u1 u2 g3) l2))
        u r gr l

    pub defer_typed : (l : Level) (g : ℕ) → Within top fuel l g → {E : Ends} (t u : Typing) (d : Sort) (y : Outcome) → Grows t u →
        Well p f top fuel t (deferred a) b (λ g w. ev p (deeper p g) x false e w) → Comes p f l E u a d y →
        Comes p f l any_names u a d (closing y (λ w. (deeper p g).parts x e w) (form.deferred e x) e)
    defer_typed bare g sp t u d y gr h i = closing_typed p f bare _ (form.deferred e x) e i
        (λ u2 w2 g3 k2. part_well t h bare g sp refl u2 w2 (grows_on gr (later_grows a.waits u u2 g3)) k2) (λ u2 r2 m2 g3 l2. l2)
    defer_typed (turns n) g sp t u d y gr h i = closing_typed p f (turns n) _ (form.deferred e x) e i
        (λ u2 w2 g3 k2. part_well t h (turns n) g sp tt u2 w2 (grows_on gr (later_grows a.waits u u2 g3)) k2)
        (λ u2 r2 m2 g3 l2. defer_left n g sp t u2 d r2 (grows_on gr (later_grows a.waits u u2 g3)) h l2)

  -- values not yet taken, with their indices or keys
  abbrev pub AllTaken : Typing → Sort → Sort → List (Val × Val) → Type 0
  AllTaken t q i [] = Unit {0}
  AllTaken t q i (x ∷ xs) = (Is f.up t x.0 q × Is f.up t x.1 i) × AllTaken t q i xs

  abbrev pub AreTaken : Typing → Sort → Sort → Values → Type 0
  AreTaken t q i (listed xs) = AllTaken t q i xs
  AreTaken t q i (between a b) = Fits f.up s.int q × (i ≡ s.any)

  abbrev pub NextTaken : Typing → Sort → Sort → Option ((Val × Val) × Values) → Type 0
  NextTaken t q i None = Unit {0}
  NextTaken t q i (Some x) = (Is f.up t x.0.0 q × Is f.up t x.0.1 i) × AreTaken t q i x.1

  between_next : (t : Typing) (q i : Sort) (a b : ℤ) (x y : Bool) → Fits f.up s.int q → i ≡ s.any →
      NextTaken t q i (cond x (Some ((v.int a, v.unit), cond y (listed []) (between (a +ℤ pos 1) b))) None)
  between_next t q i a b true true h j = ((is_up f.up is_int h, subst (λ z. Is f.up t v.unit z) (sym j) is_any), tt)
  between_next t q i a b true false h j = ((is_up f.up is_int h, subst (λ z. Is f.up t v.unit z) (sym j) is_any), (h, j))
  between_next t q i a b false y h j = tt

  pub next_taken : (t : Typing) (q i : Sort) (vs : Values) → AreTaken t q i vs → NextTaken t q i (next_value vs)
  next_taken t q i (listed []) h = tt
  next_taken t q i (listed (x ∷ xs)) h = (h.0, h.1)
  next_taken t q i (between a b) h = between_next t q i a b (int_le a b) (int_eq a b) h.0 h.1

  all_more : (t u : Typing) (q i : Sort) (xs : List (Val × Val)) → Grows t u → AllTaken t q i xs → AllTaken u q i xs
  all_more t u q i [] g h = tt
  all_more t u q i (x ∷ xs) g h = ((is_more f.up g h.0.0, is_more f.up g h.0.1), all_more t u q i xs g h.1)

  pub taken_more : (t u : Typing) (q i : Sort) (vs : Values) → Grows t u → AreTaken t q i vs → AreTaken u q i vs
  taken_more t u q i (listed xs) g h = all_more t u q i xs g h
  taken_more t u q i (between a b) g h = h

  next_typed : (l : Level) {t : Typing} {a : Allowed} {b : Sort} (q i : Sort) (x : Option ((Val × Val) × Values)) (y : Outcome)
      (go : Val × Val → Values → Outcome) →
      NextTaken t q i x → Comes p f l any_names t a b y →
      ((z : Val × Val) (vs : Values) → Is f.up t z.0 q → Is f.up t z.1 i → AreTaken t q i vs → Comes p f l any_names t a b (go z vs)) →
      Comes p f l any_names t a b (on_next x y go)
  unfolding on_next
  next_typed l q i None y go h j m = j
  next_typed l q i (Some x) y go h j m = m x.0 x.1 h.0.0 h.0.1 h.1

  -- each turn makes results of the sort b from results of it
  pub takes_typed : (l : Level) (h : ℕ) (t : Typing) (a : Allowed) (b q i : Sort) (go : Val × Val → Val → World →
      Outcome) (wrap : Values → Residual → Residual)
      (e : Env) (vs : Values) (so_far : Val) (w : World) → AreTaken t q i vs → Is f.up t so_far b → Kept p f l t w →
      ((u : Typing) (x : Val × Val) (y : Val) (z : World) → Grows t u → Is f.up u x.0 q → Is f.up u x.1 i → Is f.up u y b → Kept p f l u z →
      Comes p f l any_names u a b (go x y z)) →
      ((u : Typing) (ws : Values) (r : Residual) → a.waits ≡ true → Grows t u → AreTaken u q i ws → LeftAt p f l u a b r →
      LeftAt p f l u a b (wrap ws r)) →
      Comes p f l any_names t a b ((deeper p h).takes go wrap e vs so_far w)
  takes_typed l zero t a b q i go wrap e vs so_far w h y k m d =
      next_typed l q i (next_value vs) _ _ (next_taken t q i vs h) (gives (later_itself a.waits t) k y tt) (λ x left j1 k1 m1. ends_steps)
  takes_typed l (suc n) t a b q i go wrap e vs so_far w h y k m d =
      next_typed l q i (next_value vs) _ _ (next_taken t q i vs h) (gives (later_itself a.waits t) k y tt) (λ x left j1 k1 m1.
      spends_typed p f l w w.state.clock.left _ k (λ z kz.
      valued_typed p f l _ _ (m t x so_far z grows_itself j1 k1 y kz)
      (λ u c z2 gr k2 i2. takes_typed l n u a b q i go wrap e left c z2 (taken_more t u q i left (later_grows a.waits t u gr) m1) i2 k2
      (λ r x2 y2 z3 g3. m r x2 y2 z3 (grows_on (later_grows a.waits t u gr) g3)) (λ r ws r2 wt g3. d r ws r2 wt (grows_on
      (later_grows a.waits t u gr) g3)))
      (λ u r wt gr lr. d u left r wt (later_grows a.waits t u gr) (taken_more t u q i left (later_grows a.waits t u gr) m1) lr)))

  -- one generator of a `for`
  module _ (a : Allowed) (b q i : Sort) (e : Env) (gn : Generator) (cs : Trees) (x : Tree) (pl : Place) where
    abbrev pub TakesWell : Typing → Type 0
    TakesWell t = (l : Level) (g : ℕ) → Within top fuel l g → Ready l a.waits → (u : Typing) (y : Val × Val) (so_far : Val) (w : World) →
        Grows t u →
        Is f.up u y.0 q → Is f.up u y.1 i → Is f.up u so_far b → Kept p f l u w → a.waits ≡ true →
        Comes p f l any_names u a b (taken p (deeper p g) gn cs x pl e y so_far w)

    abbrev GenerateLeft : ℕ → Type 0
    GenerateLeft n = (g : ℕ) → Within top fuel (turns n) g → (t u : Typing) (ws : Values) (r : Residual) → a.waits ≡ true → Grows t u →
        TakesWell t →
        AreTaken u q i ws → Left p f n u a b r → Left p f n u a b (generated e gn cs x pl ws r)

    generate_frames : (ws : Values) → Frames p (generated e gn cs x pl ws) (λ g y. valued y (generated e gn cs x pl ws)
        (λ so_far w. (deeper p g).takes (taken p (deeper p g) gn cs x pl e) (λ vs r. generated e gn cs x pl vs r) e ws so_far w))
    generate_frames ws = record { resumes = λ g r i y w. refl; same_leaves = λ r. refl; kids = λ g r w. refl }

    less : (j m n : ℕ) → j < m → m < suc n → j < n
    less j m n h k = omega arith

    generate_below : (n m : ℕ) → m < n → GenerateLeft m
    generate_below zero m lt g sp t u ws r mt gr h tk l = absurd (omega arith)
    generate_below (suc n) m lt g sp t u ws r mt gr h tk l = left_frame p f m u a a b b (generated e gn cs x pl ws) _ (generate_frames ws)
        (λ u1 r1 g1 own. own)
        (λ m1 g1 u1 y lt1 g2 back i1. valued_typed p f (turns m1) _ _ i1
        (λ u2 c z2 g3 k2 i2. takes_typed (turns m1) g1 u2 a b q i _ _ e ws c z2 (taken_more u u2 q i ws (grows_on g2
        (later_grows a.waits u1 u2 g3)) tk) i2 k2
        (λ u3 y3 s3 z3 g4 j3 j4 j5 k3. h (turns m1) g1 (sooner top fuel m m1 g g1 sp lt1) tt u3 y3 s3 z3
        (grows_on gr (grows_on g2 (grows_on (later_grows a.waits u1 u2 g3) g4))) j3 j4 j5 k3 mt)
        (λ u3 ws3 r3 wt3 g4 tk3 l3. generate_below n m1 (less m1 m n lt1 lt) g1 (sooner top fuel m m1 g g1 sp lt1) t u3 ws3 r3 mt
        (grows_on gr (grows_on g2 (grows_on (later_grows a.waits u1 u2 g3) g4))) h tk3 l3))
        (λ u2 r2 m2 g3 l2. back u2 r2 (later_grows a.waits u1 u2 g3) l2))
        u r grows_itself l

    last : (n : ℕ) → n < suc n
    last n = omega arith

    pub generate_left : (n : ℕ) → GenerateLeft n
    generate_left n = generate_below (suc n) n (last n)
