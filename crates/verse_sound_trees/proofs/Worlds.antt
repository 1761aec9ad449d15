-- What is kept where more is there, where memory changes, and for fewer turns.
use Rattle.std.proofs.Common.{ℕ, zero, suc, ◌<◌, Bool, true, false, List, [], ◌∷◌, Option, Some, None, refl, subst}
use Rattle.std.proofs.Common.{inl, inr, arith}
use Rattle.verse_meaning_state.specs.State.{State, stepped, restored}
use Rattle.verse_sorts.specs.Sorts.{Sort}
use Rattle.verse_sorts.specs.Typing.{Typing, Grows, Adds}
use Rattle.verse_sorts.proofs.Fitting.{grows_itself, grows_on, adds_itself, adds_on}
use Rattle.verse_sorts_values.specs.Cells.{StoreIs}
use Rattle.verse_meaning.specs.Programs.{Program}
use Rattle.verse_meaning.specs.Residuals.{Residual, leaves, Scope, Scopes, none, also, scope_leaves}
use Rattle.verse_meaning.specs.Outcomes.{World, with_state}
use Rattle.verse_meaning.specs.Laws.{Calm}
use Rattle.verse_meaning.proofs.Keeping.{stepped_calm}
use Rattle.verse_sound_rules.specs.Found.{Found, Allowed}
use Rattle.verse_sound_trees.specs.Outcomes.{Later, Cells}
use Rattle.verse_sound_trees.specs.Going.{AllBehind, AllTasks, Dropped, Cancels, CancelsScope, Left, LeftScope, Level}
use Rattle.verse_sound_trees.specs.Going.{bare, turns}
use Rattle.verse_sound_trees.specs.Going.{Kept, Ready, Within}
use Rattle.verse_sound_trees.proofs.Waiting.{waits_more, clock_moves}

pub later_itself : (m : Bool) (t : Typing) → Later m t t
later_itself true t = grows_itself
later_itself false t = adds_itself

pub later_on : (m : Bool) (t u o : Typing) → Later m t u → Later m u o → Later m t o
later_on true t u o g h = grows_on g h
later_on false t u o g h = adds_on g h

pub later_grows : (m : Bool) (t u : Typing) → Later m t u → Grows t u
later_grows true t u g = g
later_grows false t u g = g.grows

pub adds_later : (m : Bool) (t u : Typing) → Adds t u → Later m t u
adds_later true t u g = g.grows
adds_later false t u g = g

pub calm_itself : (st : State) → Calm st.clock st.clock
calm_itself st = record { now = refl; next = refl; results = refl; signals = refl }

pub ready_false : (l : Level) → Ready l false
ready_false bare = refl
ready_false (turns n) = tt

-- the way down: fewer turns at every depth, and as many at a lesser depth
pub fewer : (l : Level) (fuel : ℕ) (k : Level) (g : ℕ) → Within l fuel k (suc g) → Within l fuel k g
fewer bare fuel bare g h = omega (arith, h)
fewer bare fuel (turns m) g h = absurd h
fewer (turns n) fuel bare g h = tt
fewer (turns n) fuel (turns m) g (inl h) = inl h
fewer (turns n) fuel (turns m) g (inr h) = inr (h.0, omega (arith, h.1))

pub sooner : (l : Level) (fuel m j g h : ℕ) → Within l fuel (turns m) g → j < m → Within l fuel (turns j) h
sooner bare fuel m j g h s k = absurd s
sooner (turns n) fuel m j g h (inl s) k = inl (omega (arith, s, k))
sooner (turns n) fuel m j g h (inr s) k = inl (subst (λ z. j < z) s.0 k)

pub below : (l : Level) (fuel m g h : ℕ) → Within l fuel (turns m) g → Within l fuel bare h
below bare fuel m g h s = absurd s
below (turns n) fuel m g h s = tt

module _ (p : Program) (f : Found) where
  pub cancels_more : (t u : Typing) (r : Residual) → Grows t u → Cancels p f t r → Cancels p f u r
  cancels_more t u r g h = (λ o fuel w k. h.0 o fuel w (grows_on g k), λ o fuel w k. h.1 o fuel w (grows_on g k))

  pub scope_cancels_more : (t u : Typing) (q : Scope) → Grows t u → CancelsScope p f t q → CancelsScope p f u q
  scope_cancels_more t u q g h = (λ o fuel w k. h.0 o fuel w (grows_on g k), λ o fuel w k. h.1 o fuel w (grows_on g k))

  -- where more is there
  pub left_more : (n : ℕ) (u o : Typing) (a : Allowed) (b : Sort) (r : Residual) → Grows u o → Left p f n u a b r → Left p f n o a b r
  left_more zero u o a b r g l = (cancels_more u o r g l.0, waits_more f.up (leaves r) g l.1)
  left_more (suc n) u o a b r g l = (left_more n u o a b r g l.0, λ q fuel i x c w h. l.1 q fuel i x c w (grows_on g h))

  pub scope_more : (n : ℕ) (u o : Typing) (c : Bool) (b : Sort) (q : Scope) → Grows u o → LeftScope p f n u c b q → LeftScope p f n o c b q
  scope_more zero u o c b q g l = (scope_cancels_more u o q g l.0, waits_more f.up (scope_leaves q) g l.1)
  scope_more (suc n) u o c b q g l = (scope_more n u o c b q g l.0, λ z fuel i x d w h. l.1 z fuel i x d w (grows_on g h))

  pub behind_more : (n : ℕ) (t u : Typing) (bs : Scopes) → Grows t u → AllBehind (Dropped (LeftScope p f n) t) bs →
      AllBehind (Dropped (LeftScope p f n) u) bs
  behind_more n t u none g l = tt
  behind_more n t u (also q bs) g l = ((l.0.0, scope_more n t u false l.0.0 q g l.0.1), behind_more n t u bs g l.1)

  pub tasks_more : (n : ℕ) (t u : Typing) (qs : List (Option Scope)) → Grows t u → AllTasks (Dropped (LeftScope p f n) t) qs →
      AllTasks (Dropped (LeftScope p f n) u) qs
  tasks_more n t u [] g l = tt
  tasks_more n t u (None ∷ qs) g l = tasks_more n t u qs g l
  tasks_more n t u (Some q ∷ qs) g l = ((l.0.0, scope_more n t u false l.0.0 q g l.0.1), tasks_more n t u qs g l.1)

  -- for a turn less
  pub behind_fewer : (n : ℕ) (t : Typing) (bs : Scopes) → AllBehind (Dropped (LeftScope p f (suc n)) t) bs →
      AllBehind (Dropped (LeftScope p f n) t) bs
  behind_fewer n t none l = tt
  behind_fewer n t (also q bs) l = ((l.0.0, l.0.1.0), behind_fewer n t bs l.1)

  pub tasks_fewer : (n : ℕ) (t : Typing) (qs : List (Option Scope)) → AllTasks (Dropped (LeftScope p f (suc n)) t) qs →
      AllTasks (Dropped (LeftScope p f n) t) qs
  tasks_fewer n t [] l = tt
  tasks_fewer n t (None ∷ qs) l = tasks_fewer n t qs l
  tasks_fewer n t (Some q ∷ qs) l = ((l.0.0, l.0.1.0), tasks_fewer n t qs l.1)

  pub cells_of : (l : Level) (t : Typing) (w : World) → Kept p f l t w → Cells f t w
  cells_of bare t w k = k
  cells_of (turns n) t w k = k.cells

  -- more cells, other memory, fewer steps
  pub moves : (l : Level) (t u : Typing) (w : World) (st : State) → Kept p f l t w → Adds t u → StoreIs f.up f.slots u st.memory.store →
      Calm w.state.clock st.clock → Kept p f l u (with_state w st)
  moves bare t u w st k h s c = s
  moves (turns n) t u w st k h s c = record {
    cells = s;
    clock = clock_moves f.up h c k.clock;
    behind = behind_more n t u w.behind h.grows k.behind;
    tasks = tasks_more n t u w.tasks h.grows k.tasks;
  }

  pub kept_stepped : (l : Level) (t : Typing) (w : World) (s : ℕ) → Kept p f l t w → Kept p f l t (with_state w (stepped s w.state))
  kept_stepped l t w s k = moves l t t w (stepped s w.state) k adds_itself (cells_of l t w k) (stepped_calm s w.state)

  pub kept_again : (l : Level) (t : Typing) (w : World) (st : State) → Calm w.state.clock st.clock → Kept p f l t w →
      Kept p f l t (with_state w (restored w.state.memory st))
  kept_again l t w st c k =
      moves l t t w (restored w.state.memory st) k adds_itself (cells_of l t w k)
      (record { now = c.now; next = c.next; results = c.results; signals = c.signals })
