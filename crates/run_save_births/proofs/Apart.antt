-- No birth of a frame is the number of a child: an operation keeps that, for a path and a number.
use Rattle.std.proofs.Common.{◌≡◌, ◌⊎◌, ◌≤◌, ℕ, suc, List, [], ◌∷◌, ◌++◌, length, refl, sym, subst, ap, ◌∙◌, arith}
use mathlib.Core.Logic.{inl, inr}
use Rattle.std.proofs.lemmas.Bool.{cases_eq}
use Rattle.verse_code_machine.specs.Tasks.{Frame, Who, Thread, Task, After, resuming, closing, finishing, Up, begins}
use Rattle.verse_code_machine.specs.Tasks.{branching, spawning, clearing, World, Machine, Step, Next, Over, Turn, child_named, root_named}
use Rattle.verse_code_machine.specs.Runs.{Forest}
use Rattle.verse_code_machine_parents.proofs.Lists.{child_longer}
use Rattle.run_save_shots.specs.Lists.{Each}
use Rattle.run_save_shots.proofs.Lists.{last_same}
use Rattle.run_save_births.specs.Births.{births, Rising, KeepsBirth}
use Rattle.run_save_births.specs.Everywhere.{FramesAre, ThreadIs, TasksAre, TreesAre, AfterIs, UpIs, UpsAre, WorldIs, Stands, Unborn}
use Rattle.run_save_births.specs.Everywhere.{NotChild, TreesApart, StepApart}
use Rattle.run_save_births.proofs.Kept.{Comes, same_frames, new_frame, new_child, new_root, Low}

-- what follows for all tasks from what holds of each
module _ (T U : Who → List ℕ → Type 0) (so : (w : Who) (ns : List ℕ) → T w ns → U w ns) where
  frames_so : (w : Who) (fs : List Frame) → FramesAre T w fs → FramesAre U w fs
  frames_so w [] h = tt
  frames_so w (f ∷ fs) h = (so w (births (f ∷ fs)) h.0, h.1)

  thread_so : (x : Thread) → ThreadIs T x → ThreadIs U x
  thread_so x h = frames_so x.who (x.frame ∷ x.below) h

  tasks_so : (ts : List Task) → TasksAre T ts → TasksAre U ts
  tasks_so [] h = tt
  tasks_so (t ∷ ts) h = (thread_so t.thread h.0, tasks_so ts h.1)

  pub trees_so : (tss : Forest) → TreesAre T tss → TreesAre U tss
  trees_so [] h = tt
  trees_so (ts ∷ tss) h = (tasks_so ts h.0, trees_so tss h.1)

  after_so : (x : After) → AfterIs T x → AfterIs U x
  after_so (resuming x v) h = thread_so x h
  after_so (closing w v) h = tt
  after_so (finishing w entry v) h = tt

  up_so : (u : Up) → UpIs T u → UpIs U u
  up_so (begins x k p gs number ls) h = thread_so x h
  up_so (branching x) h = thread_so x h
  up_so (spawning x entry ps qs) h = (thread_so x h.0, (tasks_so ps h.1.0, tasks_so qs h.1.1))
  up_so (clearing x ts) h = (after_so x h.0, tasks_so ts h.1)

  ups_so : (us : List Up) → UpsAre T us → UpsAre U us
  ups_so [] h = tt
  ups_so (u ∷ us) h = (up_so u h.0, ups_so us h.1)

  pub world_so : (o : World) → WorldIs T o → WorldIs U o
  world_so o h = record {
    pre = tasks_so o.pre h.pre;
    post = tasks_so o.post h.post;
    ups = ups_so o.ups h.ups;
    before = trees_so o.trees.before h.before;
    behind = trees_so o.trees.behind h.behind;
  }

-- ---- numbers and paths

rising_lower : (l k : ℕ) (ns : List ℕ) → l ≤ k → Rising k ns → Rising l ns
rising_lower l k [] e a = tt
rising_lower l k (n ∷ ns) e a = (lower l k n e a.0, a.1)
  where
    lower : (l k n : ℕ) → l ≤ k → k ≤ n → l ≤ n
    lower l k n e f = omega (arith, e, f)

-- no number is below the bound of those that rise
none_below : (n k : ℕ) (ns : List ℕ) → suc n ≤ k → Rising k ns → Each (λ i. i ≡ n → ⊥) ns
none_below n k [] e a = tt
none_below n k (i ∷ ns) e a = (other n k i e a.0, none_below n (suc i) ns (further n k i e a.0) a.1)
  where
    other : (n k i : ℕ) → suc n ≤ k → k ≤ i → i ≡ n → ⊥
    other n k i e f g = omega (arith, e, f, g)

    further : (n k i : ℕ) → suc n ≤ k → k ≤ i → suc n ≤ suc i
    further n k i e f = omega (arith, e, f)

above_lower : (l k : ℕ) (ns : List ℕ) → l ≤ k → Each (λ n. k ≤ n) ns → Each (λ n. l ≤ n) ns
above_lower l k [] e a = tt
above_lower l k (n ∷ ns) e a = (lower l k n e a.0, above_lower l k ns e a.1)
  where
    lower : (l k n : ℕ) → l ≤ k → k ≤ n → l ≤ n
    lower l k n e f = omega (arith, e, f)

above_end : (l : ℕ) (p : List ℕ) → Each (λ n. l ≤ n) p → Each (λ n. l ≤ n) (p ++ l ∷ [])
above_end l [] a = (omega arith, tt)
above_end l (n ∷ p) a = (a.0, above_end l p a.1)

end_above : (l n : ℕ) (p : List ℕ) → Each (λ k. l ≤ k) (p ++ n ∷ []) → l ≤ n
end_above l n [] a = a.0
end_above l n (i ∷ p) a = end_above l n p a.1

tail_is : {i j : ℕ} {p q : List ℕ} → i ∷ p ≡ j ∷ q → p ≡ q
tail_is e = cc

head_is : {i j : ℕ} {p q : List ℕ} → i ∷ p ≡ j ∷ q → i ≡ j
head_is e = cc

longer_not : (a : List ℕ) (n : ℕ) → a ≡ a ++ n ∷ [] → ⊥
longer_not a n e = no (length a) (length (a ++ n ∷ [])) (child_longer a n) (ap length e)
  where
    no : (i j : ℕ) → suc i ≤ j → i ≡ j → ⊥
    no i j h e = omega (arith, h, e)

pub same_paths : (p q : List ℕ) → (p ≡ q) ⊎ (p ≡ q → ⊥)
same_paths [] [] = inl refl
same_paths [] (j ∷ q) = inr (λ e. cc)
same_paths (i ∷ p) [] = inr (λ e. cc)
same_paths (i ∷ p) (j ∷ q) = further (cases_eq i j) (same_paths p q)
  where
    both : i ≡ j → p ≡ q → i ∷ p ≡ j ∷ q
    both e f = cc

    further : (i ≡ j) ⊎ (i ≡ j → ⊥) → (p ≡ q) ⊎ (p ≡ q → ⊥) → (i ∷ p ≡ j ∷ q) ⊎ (i ∷ p ≡ j ∷ q → ⊥)
    further (inl e) (inl f) = inl (both e f)
    further (inl e) (inr g) = inr (λ h. g (tail_is h))
    further (inr f) x = inr (λ h. f (head_is h))

-- ---- one task

stands_lower : (l k : ℕ) (w : Who) (ns : List ℕ) → l ≤ k → Stands k w ns → Stands l w ns
stands_lower l k w ns e a = record { rises = rising_lower l k ns e a.rises; above = above_lower l k w.path e a.above }

stands_drop : (l : ℕ) (w : Who) (n k : ℕ) (ns : List ℕ) → Stands l w (n ∷ k ∷ ns) → Stands l w (k ∷ ns)
stands_drop l w n k ns a = record { rises = (further l n k a.rises.0 a.rises.1.0, a.rises.1.1); above = a.above }
  where
    further : (l n k : ℕ) → l ≤ n → suc n ≤ k → l ≤ k
    further l n k e f = omega (arith, e, f)

less : (l k : ℕ) → suc l ≡ k → l ≤ k
less l k e = omega (arith, e)

-- of a task that comes out of an operation
comes_stands : (T : Who → List ℕ → Type 0) (most : ℕ) → ((w : Who) (ns : List ℕ) → T w ns → Stands most w ns) →
    {w : Who} {ns : List ℕ} {left : ℕ} → Comes T most w ns left → Stands left w ns
comes_stands T most so (same_frames {w = w} {ns = ns} {left = left} e a) = stands_lower left most w ns e (so w ns a)
comes_stands T most so (new_frame {w = w} {n = n} {ns = ns} {left = left} e a) =
    let b = so w (n ∷ ns) a in record {
      rises = (omega arith, subst (λ k. Rising k (n ∷ ns)) (sym e) b.rises);
      above = above_lower left most w.path (less left most e)
          b.above;
    }
comes_stands T most so (new_child {w = w} {n = n} {ns = ns} {left = left} e a) =
    let b = so w (n ∷ ns) a in record {
      rises = (omega arith, tt);
      above =
          above_end left w.path (above_lower left most w.path (less left most e) b.above);
    }
comes_stands T most so (new_root e) = record { rises = (omega arith, tt); above = (omega arith, tt) }

comes_fewer : (T : Who → List ℕ → Type 0) (most : ℕ) {w : Who} {ns : List ℕ} {left : ℕ} → Comes T most w ns left → left ≤ most
comes_fewer T most (same_frames e a) = e
comes_fewer T most (new_frame e a) = omega (arith, e)
comes_fewer T most (new_child e a) = omega (arith, e)
comes_fewer T most (new_root e) = omega (arith, e)

-- ---- all tasks

module _ (path : List ℕ) (n : ℕ) where
  pub unborn_lower : (l k : ℕ) → l ≤ k → (w : Who) (ns : List ℕ) → Unborn path n k w ns → Unborn path n l w ns
  unborn_lower l k e w ns a = record { stands = stands_lower l k w ns e a.stands; other = a.other }

  pub child_lower : (l k : ℕ) → l ≤ k → (w : Who) (ns : List ℕ) → NotChild path n k w ns → NotChild path n l w ns
  child_lower l k e w ns a = record { stands = stands_lower l k w ns e a.stands; other = a.other }

  pub unborn_drop : (l : ℕ) (w : Who) (i k : ℕ) (ns : List ℕ) → Unborn path n l w (i ∷ k ∷ ns) → Unborn path n l w (k ∷ ns)
  unborn_drop l w i k ns a = record { stands = stands_drop l w i k ns a.stands; other = λ e. (a.other e).1 }

  pub child_drop : (l : ℕ) (w : Who) (i k : ℕ) (ns : List ℕ) → NotChild path n l w (i ∷ k ∷ ns) → NotChild path n l w (k ∷ ns)
  child_drop l w i k ns a = record { stands = stands_drop l w i k ns a.stands; other = a.other }

  -- a number that is to come is no birth and no child's
  fresh_unborn : (l k : ℕ) → suc n ≤ k → l ≤ k → (w : Who) (ns : List ℕ) → Stands k w ns → Unborn path n l w ns
  fresh_unborn l k e f w ns a = record { stands = stands_lower l k w ns f a; other = λ g. none_below n k ns e a.rises }

  fresh_child : (l k : ℕ) → suc n ≤ k → l ≤ k → (w : Who) (ns : List ℕ) → Stands k w ns → NotChild path n l w ns
  fresh_child l k e f w ns a = record {
    stands = stands_lower l k w ns f a;
    other = λ g. no k (end_above k n path (subst (λ p. Each (λ i. k ≤ i) p) g a.above)) e;
  }
    where
      no : (k : ℕ) → k ≤ n → suc n ≤ k → ⊥
      no k h i = omega (arith, h, i)

  later : (l k : ℕ) → n ≡ l → suc l ≡ k → suc n ≤ k
  later l k e f = omega (arith, e, f)

  -- one task and the number: as it was for all, or the number was to come, and either holds of this task
  abbrev Either : (left most : ℕ) → Who → List ℕ → (ℕ → Who → List ℕ → Type 0) → Type 0
  Either left most w ns As = As left w ns ⊎ ((suc n ≤ most) × ((w.path ≡ path → Each (λ k. k ≡ n → ⊥) ns) ⊎ (w.path ≡ path ++ n ∷ [] → ⊥)))

  -- a task that begins with the number
  begins_so : (left most : ℕ) (w : Who) (ns : List ℕ) (As : ℕ → Who → List ℕ → Type 0) → suc n ≤ most → (w.path ≡ path) ⊎
      (w.path ≡ path → ⊥) → Either left most w ns As
  begins_so left most w ns As e (inl f) = inr (e, inr (λ g. longer_not path n (sym f ∙ g)))
  begins_so left most w ns As e (inr f) = inr (e, inl (λ g. absurd (f g)))

  unborn_comes : {most : ℕ} {w : Who} {ns : List ℕ} {left : ℕ} → Stands left w ns → Comes (Unborn path n most) most w ns left →
      Either left most w ns (Unborn path n)
  unborn_comes {most = most} {w = w} {ns = ns} {left = left} s (same_frames e a) = inl (unborn_lower left most e w ns a)
  unborn_comes {most = most} {w = w} {left = left} s (new_frame {n = i} {ns = ns} e a) = by_test (cases_eq n left)
    where
      by_test : (n ≡ left) ⊎ (n ≡ left → ⊥) → Either left most w (left ∷ i ∷ ns) (Unborn path n)
      by_test (inl f) = inr (
        later left most f e,
        inr ((fresh_child left most (later left most f e) (less left most e) w (i ∷ ns) a.stands).other),
      )
      by_test (inr f) = inl (record { stands = s; other = λ g. ((λ h. f (sym h)), a.other g) })
  unborn_comes {most = most} {left = left} s (new_child {w = w} e a) = by_test (cases_eq n left)
    where
      by_test : (n ≡ left) ⊎ (n ≡ left → ⊥) → Either left most (child_named w left) (left ∷ []) (Unborn path n)
      by_test (inl f) = begins_so left most (child_named w left) (left ∷ []) (Unborn path n) (later left most f e)
          (same_paths (w.path ++ left ∷ []) path)
      by_test (inr f) = inl (record { stands = s; other = λ g. ((λ h. f (sym h)), tt) })
  unborn_comes {most = most} {left = left} s (new_root {entry = entry} e) = by_test (cases_eq n left)
    where
      by_test : (n ≡ left) ⊎ (n ≡ left → ⊥) → Either left most (root_named left entry) (left ∷ []) (Unborn path n)
      by_test (inl f) = begins_so left most (root_named left entry) (left ∷ []) (Unborn path n) (later left most f e)
          (same_paths (left ∷ []) path)
      by_test (inr f) = inl (record { stands = s; other = λ g. ((λ h. f (sym h)), tt) })

  child_comes : {most : ℕ} {w : Who} {ns : List ℕ} {left : ℕ} → Stands left w ns → Comes (NotChild path n most) most w ns left →
      Either left most w ns (NotChild path n)
  child_comes {most = most} {w = w} {ns = ns} {left = left} s (same_frames e a) = inl (child_lower left most e w ns a)
  child_comes s (new_frame e a) = inl (record { stands = s; other = a.other })
  child_comes {most = most} {left = left} s (new_child {w = w} e a) = by_test (cases_eq n left)
    where
      by_test : (n ≡ left) ⊎ (n ≡ left → ⊥) → Either left most (child_named w left) (left ∷ []) (NotChild path n)
      by_test (inl f) = begins_so left most (child_named w left) (left ∷ []) (NotChild path n) (later left most f e)
          (same_paths (w.path ++ left ∷ []) path)
      by_test (inr f) = inl (record { stands = s; other = λ g. f (sym (last_same w.path path left n g)) })
  child_comes {most = most} {left = left} s (new_root {entry = entry} e) = by_test (cases_eq n left)
    where
      by_test : (n ≡ left) ⊎ (n ≡ left → ⊥) → Either left most (root_named left entry) (left ∷ []) (NotChild path n)
      by_test (inl f) = begins_so left most (root_named left entry) (left ∷ []) (NotChild path n) (later left most f e)
          (same_paths (left ∷ []) path)
      by_test (inr f) = inl (record { stands = s; other = λ g. f (sym (last_same [] path left n g)) })

  -- all tasks after an operation
  module _ (T : Who → List ℕ → Type 0) (most : ℕ) (so : (w : Who) (ns : List ℕ) → T w ns → Stands most w ns) (m : Machine)
      (o : WorldIs T m.world) (keeps : Each KeepsBirth (m.frame ∷ m.below)) (few : m.state.clock.left ≤ most)
      (stands : Stands m.state.clock.left m.who (births (m.frame ∷ m.below)))
    where
      by_number : suc n ≤ most → (m.who.path ≡ path → Each (λ k. k ≡ n → ⊥) (births (m.frame ∷ m.below))) ⊎
          (m.who.path ≡ path ++ n ∷ [] → ⊥) → StepApart path n (Next m)
      by_number e (inl f) = inl (record {
        frames = (record { stands = stands; other = f }, keeps);
        world = world_so T (Unborn path n m.state.clock.left) (λ w ns a. fresh_unborn m.state.clock.left most e few w ns (so w ns a))
            m.world o;
      })
      by_number e (inr f) = inr (record {
        frames = (record { stands = stands; other = f }, keeps);
        world = world_so T (NotChild path n m.state.clock.left) (λ w ns a. fresh_child m.state.clock.left most e few w ns (so w ns a))
            m.world o;
      })

  unborn_out : (most : ℕ) (q : Step) → Low (Unborn path n most) (unborn_drop most) most q → StepApart path n q
  unborn_out most (Next m) a = by_comes (unborn_comes stands a.holds.0)
    where
      so : (w : Who) (ns : List ℕ) → Unborn path n most w ns → Stands most w ns
      so w ns a = a.stands

      stands : Stands m.state.clock.left m.who (births (m.frame ∷ m.below))
      stands = comes_stands (Unborn path n most) most so a.holds.0

      few : m.state.clock.left ≤ most
      few = comes_fewer (Unborn path n most) most a.holds.0

      by_comes : Either m.state.clock.left most m.who (births (m.frame ∷ m.below)) (Unborn path n) → StepApart path n (Next m)
      by_comes (inl b) = inl (record {
        frames = (b, a.holds.1.0);
        world = world_so (Unborn path n most) (Unborn path n m.state.clock.left) (unborn_lower m.state.clock.left most few) m.world
            a.holds.1.1;
      })
      by_comes (inr b) = by_number (Unborn path n most) most so m a.holds.1.1 a.holds.1.0 few stands b.0 b.1
  unborn_out most (Over e s) a = tt
  unborn_out most (Turn s tss) a = inl (subst (λ l. TreesAre (Unborn path n l) tss) (sym a.holds.0) a.holds.1)

  child_out : (most : ℕ) (q : Step) → Low (NotChild path n most) (child_drop most) most q → StepApart path n q
  child_out most (Next m) a = by_comes (child_comes stands a.holds.0)
    where
      so : (w : Who) (ns : List ℕ) → NotChild path n most w ns → Stands most w ns
      so w ns a = a.stands

      stands : Stands m.state.clock.left m.who (births (m.frame ∷ m.below))
      stands = comes_stands (NotChild path n most) most so a.holds.0

      few : m.state.clock.left ≤ most
      few = comes_fewer (NotChild path n most) most a.holds.0

      by_comes : Either m.state.clock.left most m.who (births (m.frame ∷ m.below)) (NotChild path n) → StepApart path n (Next m)
      by_comes (inl b) = inr (record {
        frames = (b, a.holds.1.0);
        world = world_so (NotChild path n most) (NotChild path n m.state.clock.left) (child_lower m.state.clock.left most few) m.world
            a.holds.1.1;
      })
      by_comes (inr b) = by_number (NotChild path n most) most so m a.holds.1.1 a.holds.1.0 few stands b.0 b.1
  child_out most (Over e s) a = tt
  child_out most (Turn s tss) a = inr (subst (λ l. TreesAre (NotChild path n l) tss) (sym a.holds.0) a.holds.1)

  -- what keeps what holds of all tasks keeps this
  pub out : (most : ℕ) (q : Step) (In : (Who → List ℕ → Type 0) → Type 0) → ((T : Who → List ℕ → Type 0)
      (drops : (w : Who) (i k : ℕ) (ns : List ℕ) → T w (i ∷ k ∷ ns) → T w (k ∷ ns)) → In T → Low T drops most q) →
      In (Unborn path n most) ⊎ In (NotChild path n most) → StepApart path n q
  out most q In f (inl a) = unborn_out most q (f (Unborn path n most) (unborn_drop most) a)
  out most q In f (inr a) = child_out most q (f (NotChild path n most) (child_drop most) a)

  pub trees_lower : (l k : ℕ) (tss : Forest) → l ≤ k → TreesApart path n k tss → TreesApart path n l tss
  trees_lower l k tss e (inl a) = inl (trees_so (Unborn path n k) (Unborn path n l) (unborn_lower l k e) tss a)
  trees_lower l k tss e (inr a) = inr (trees_so (NotChild path n k) (NotChild path n l) (child_lower l k e) tss a)
