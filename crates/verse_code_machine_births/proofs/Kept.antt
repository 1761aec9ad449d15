-- What an operation keeps of all tasks: what has to hold so that it does.
use Rattle.std.proofs.Common.{◌≡◌, ℕ, suc, ◌≤◌, List, [], ◌∷◌, ◌++◌, Option, refl}
use Rattle.verse_value.specs.Val.{Val}
use Rattle.verse_code_machine.specs.Tasks.{Handler, Frame, Who, Part, did, runs, Rest, asleep, group, Thread, Task}
use Rattle.verse_code_machine.specs.Tasks.{life_from, root_named, child_named}
use Rattle.verse_code_machine.specs.Ends.{with_did}

-- A frame as an operation leaves it. Locals, operands, place, and deferred blocks may be others; a handler may have begun
-- or ended, or all have, and a failure goes back to what the innermost one keeps.
pub data Becomes (f g : Frame) : Type 0 where
  moved : f.life.born ≡ g.life.born → f.handlers ≡ g.handlers → Becomes f g
  tried : (h : Handler) → f.life.born ≡ g.life.born → f.life.born ≡ h.life.born → g.handlers ≡ h ∷ f.handlers → Becomes f g
  released : (h : Handler) → f.life.born ≡ g.life.born → f.handlers ≡ h ∷ g.handlers → Becomes f g
  failed : (h : Handler) → h.life.born ≡ g.life.born → f.handlers ≡ h ∷ g.handlers → Becomes f g
  bared : f.life.born ≡ g.life.born → g.handlers ≡ [] → Becomes f g

-- a frame that begins where so many steps are left
pub record IsNew (left : ℕ) (f : Frame) : Type 0 where
  pub born : f.life.born ≡ left
  pub bare : f.handlers ≡ []

pub is_new : {left : ℕ} {ls st : List Val} {q : ℕ} → IsNew left (record {
  life = life_from left;
  locals = ls;
  stack = st;
  place = q;
  handlers = [];
})
is_new = record { born = refl; bare = refl }

-- The task that runs behind an operation before which so many steps were left: with frames that it had, or with a new one,
-- or it is new itself.
pub data Comes (most : ℕ) (F : Who → List Frame → Type 0) : Who → List Frame → ℕ → Type 0 where
  same_frames : {w : Who} {fs : List Frame} {left : ℕ} → left ≤ most → F w fs → Comes most F w fs left
  new_frame : {w : Who} {f g : Frame} {fs : List Frame} {left : ℕ} → suc left ≡ most → IsNew left f → F w (g ∷ fs) →
      Comes most F w (f ∷ g ∷ fs) left
  new_child : {w : Who} {f g : Frame} {fs : List Frame} {left : ℕ} → suc left ≡ most → IsNew left f → F w (g ∷ fs) →
      Comes most F (child_named w left) (f ∷ []) left
  new_root : {f : Frame} {entry : Option ℕ} {left : ℕ} → suc left ≡ most → IsNew left f →
      Comes most F (root_named left entry) (f ∷ []) left

-- with what follows of all frames
pub comes_so : (most : ℕ) (F G : Who → List Frame → Type 0) → ((w : Who) (fs : List Frame) → F w fs → G w fs) → (w : Who)
    (fs : List Frame) (left : ℕ) → Comes most F w fs left → Comes most G w fs left
comes_so most F G so w fs left (same_frames e a) = same_frames e (so w fs a)
comes_so most F G so w (f ∷ g ∷ fs) left (new_frame e n a) = new_frame e n (so w (g ∷ fs) a)
comes_so most F G so w fs left (new_child {w = v} {g = g} {fs = gs} e n a) = new_child e n (so v (g ∷ gs) a)
comes_so most F G so w fs left (new_root e n) = new_root e n

module _ (F : Who → List Frame → Type 0) (R : Thread → List Part → Type 0) where
  -- of a task with its frames
  abbrev pub OfThread : Thread → Type 0
  OfThread x = F x.who (x.frame ∷ x.below)

  -- of a task with the arms of the group at which it stands
  abbrev pub OfRest : Thread → Rest → Type 0
  OfRest x (asleep w) = Unit {0}
  OfRest x (group k p gs) = R x gs

-- F is what holds of a task's name and frames, and R of the arms of its group.
pub record Kept (most : ℕ) (F : Who → List Frame → Type 0) (R : Thread → List Part → Type 0)
    (OfTask : Task → Type 0) (OfBegins : Thread → List Part → ℕ → Type 0) : Type 0 where
  -- frames
  pub left : (w : Who) (f : Frame) (fs : List Frame) → F w (f ∷ fs) → F w fs
  pub becomes : (w : Who) (f g : Frame) (fs : List Frame) → Becomes f g → F w (f ∷ fs) → F w (g ∷ fs)
  -- a task rests
  pub rests : (x : Thread) (r : Rest) → OfThread F R x → OfRest F R x r → OfTask (record { thread = x; rest = r })
  pub thread : (t : Task) → OfTask t → OfThread F R t.thread
  pub rest : (t : Task) → OfTask t → OfRest F R t.thread t.rest
  -- an arm begins, with a step
  pub begins : (x : Thread) (gs : List Part) (number : ℕ) → suc number ≡ most → OfThread F R x → R x gs → OfBegins x gs number
  pub begun : (x : Thread) (gs : List Part) (number : ℕ) → OfBegins x gs number → OfThread F R x × R x (gs ++ runs number ∷ [])
  -- arms: none, one that gives a value as it began, and one of those that stand
  pub none : (x : Thread) → R x []
  pub gave : (x : Thread) (gs : List Part) (number : ℕ) (v : Val) → R x (gs ++ runs number ∷ []) → R x (gs ++ did v ∷ [])
  pub gives : (x : Thread) (gs : List Part) (number : ℕ) (v : Val) → R x gs → R x (with_did number v gs)
