-- When frames and arms began is in one order in trees that come to the same under two numberings.
use Rattle.std.proofs.Common.{◌≡◌, ℕ, suc, ◌≤◌, ◌<◌, map, List, [], ◌∷◌, ◌++◌, refl, sym, subst, ap, ◌∙◌, arith}
use Rattle.verse_meaning_state.specs.State.{State}
use Rattle.verse_code_machine.specs.Tasks.{Frame, Part, did, runs, Rest, asleep, group, Thread, Task}
use Rattle.verse_code_machine.specs.Runs.{Forest}
use Rattle.verse_code_machine_births.specs.Births.{Anyone, FramesBorn}
use Rattle.verse_code_machine_births.specs.Framed as every
use Rattle.verse_code_machine_parents.specs.Parents.{HandlersBorn}
use Rattle.verse_code_machine_saved.specs.Numbers.{Numbering, Fixed, Prior, rest_as, frames_as, renumbered}
use Rattle.run_save_shots.specs.Lists.{Each}
use Rattle.run_save_fits.specs.Held.{IsSome, WhoIs}
use Rattle.run_save_fits.proofs.Holding.{role_some}
use Rattle.run_save_kept.specs.Orders.{NoneBelow}
use Rattle.run_save_births.specs.Births.{births, births_of, Rising, KeepsBirth, NoChild, IsBorn}
use Rattle.run_save_groups.specs.Arms.{ArmsBelow, RestBelow, TaskIs, TasksAre, TreesAre}
use Rattle.run_save_orders.specs.Roots.{Sorts}
use Rattle.run_save_same.proofs.Pairs.{EachPair}
use Rattle.run_save_chain.proofs.Numbered.{one_path, rises_at, rose_at, above_as, above_was, below_as, below_was}
use Rattle.run_save_chain.proofs.Meeting as m
use Rattle.run_save_chain.proofs.Meeting.{pair_each, first_is, rest_is, none_some, group_parts, rest_no}

-- no Try is open
abbrev pub Bare : Thread → Type 0
Bare x = Each (λ (f : Frame). f.handlers ≡ []) (x.frame ∷ x.below)

births_as : (z : Prior) (a : List ℕ) (fs : List Frame) → births (frames_as z a fs) ≡ map (z.numbers a) (births fs)
births_as z a [] = refl
births_as z a (f ∷ fs) = ap (λ ns. z.numbers a f.life.born ∷ ns) (births_as z a fs)

-- ---- numbers that rise

rising_by : (f : ℕ → ℕ) → ((n k : ℕ) → n < k → f n < f k) → (l i : ℕ) → ((n : ℕ) → l ≤ n → i ≤ f n) → (ns : List ℕ) →
    Rising l ns → Rising i (map f ns)
rising_by f up l i h [] a = tt
rising_by f up l i h (n ∷ ns) a = (
  h n a.0,
  rising_by f up (suc n) (suc (f n)) (λ k e. most (f n) (f k) (up n k (least n k e))) ns a.1,
)
  where
    least : (x y : ℕ) → suc x ≤ y → x < y
    least x y e = omega (arith, e)

    most : (x y : ℕ) → x < y → suc x ≤ y
    most x y e = omega (arith, e)

rising_was : (f : ℕ → ℕ) → ((n k : ℕ) → f n < f k → n < k) → (l i : ℕ) → ((n : ℕ) → i ≤ f n → l ≤ n) → (ns : List ℕ) →
    Rising i (map f ns) → Rising l ns
rising_was f up l i h [] a = tt
rising_was f up l i h (n ∷ ns) a = (
  h n a.0,
  rising_was f up (suc n) (suc (f n)) (λ k e. most n k (up n k (least (f n) (f k) e))) ns a.1,
)
  where
    least : (x y : ℕ) → suc x ≤ y → x < y
    least x y e = omega (arith, e)

    most : (x y : ℕ) → x < y → suc x ≤ y
    most x y e = omega (arith, e)

above_path : (left : ℕ) (p : List ℕ) → Each (λ n. left ≤ n) p → NoneBelow left p
above_path left [] a = tt
above_path left (n ∷ p) a = (a.0, above_path left p a.1)

path_above : (left : ℕ) (p : List ℕ) → NoneBelow left p → Each (λ n. left ≤ n) p
path_above left [] a = tt
path_above left (n ∷ p) a = (a.0, path_above left p a.1)

bare_keeps : (fs : List Frame) → Each (λ (f : Frame). f.handlers ≡ []) fs → Each KeepsBirth fs
bare_keeps [] a = tt
bare_keeps (f ∷ fs) a = (subst (HandlersBorn f.life.born) (sym a.0) tt, bare_keeps fs a.1)

frames_born : (left : ℕ) (fs : List Frame) → Each (λ (f : Frame). f.handlers ≡ []) fs → Rising left (births fs) →
    FramesBorn left fs
frames_born left [] a b = tt
frames_born left (f ∷ fs) a b = (
  (b.0, subst (every.HandlersAre (λ born. left ≤ born) Anyone) (sym a.0) tt),
  frames_born left fs a.1 (lower (suc f.life.born) (births fs) (most b.0) b.1),
)
  where
    most : {i j : ℕ} → i ≤ j → i ≤ suc j
    most h = omega (arith, h)

    longer : {i j k : ℕ} → i ≤ j → j ≤ k → i ≤ k
    longer h g = omega (arith, h, g)

    lower : (l : ℕ) (ns : List ℕ) → left ≤ l → Rising l ns → Rising left ns
    lower l [] h r = tt
    lower l (n ∷ ns) h r = (longer h r.0, r.1)

module _ (s : State) (own other : Numbering) (own_sorts : Sorts own) (other_sorts : Sorts other) (left : ℕ)
    (own_fixed : Fixed own left) (other_fixed : Fixed other left) (tss uss : Forest)
    (pairs : EachPair (EachPair (m.Meet s own other own_sorts other_sorts)) tss uss) where
  abbrev A : List ℕ → List ℕ
  A = m.A s own other own_sorts other_sorts

  abbrev B : List ℕ → List ℕ
  B = m.B s own other own_sorts other_sorts

  abbrev Meet : Task → Task → Type 0
  Meet = m.Meet s own other own_sorts other_sorts

  births_met : (t u : Task) → Meet t u →
      map (own t.thread.who.path) (births_of t.thread) ≡ map (other u.thread.who.path) (births_of u.thread)
  births_met t u a = sym (births_as (renumbered own s) t.thread.who.path (t.thread.frame ∷ t.thread.below)) ∙
      (ap (λ (t : Task). births_of t.thread) a ∙
      births_as (renumbered other s) u.thread.who.path (u.thread.frame ∷ u.thread.below))

  no_child : (p x : List ℕ) (b d : ℕ) → A p ≡ B x → own p b ≡ other x d → NoChild tss p b → NoChild uss x d
  no_child p x b d e f a = pair_each (EachPair Meet) (Each (λ (t : Task). t.thread.who.path ≡ p ++ b ∷ [] → ⊥))
      (Each (λ (u : Task). u.thread.who.path ≡ x ++ d ∷ [] → ⊥)) (λ ts us. pair_each Meet
      (λ (t : Task). t.thread.who.path ≡ p ++ b ∷ [] → ⊥) (λ (u : Task). u.thread.who.path ≡ x ++ d ∷ [] → ⊥)
      (λ t u g no is. no (one_path own own_sorts t.thread.who.path (p ++ b ∷ [])
      (m.path_met s own other own_sorts other_sorts t u g ∙ (ap B is ∙
      sym (m.ends_met s own other own_sorts other_sorts p x b d e f))))) ts us) tss uss pairs a

  no_children : (p x : List ℕ) → A p ≡ B x → (bs ds : List ℕ) → map (own p) bs ≡ map (other x) ds → Each (NoChild tss p) bs →
      Each (NoChild uss x) ds
  no_children p x e [] [] f a = tt
  no_children p x e [] (d ∷ ds) f a = none_some f
  no_children p x e (b ∷ bs) [] f a = none_some (sym f)
  no_children p x e (b ∷ bs) (d ∷ ds) f a = (
    no_child p x b d e (first_is f) a.0,
    no_children p x e bs ds (rest_is f) a.1,
  )

  some_path : (t : Task) → WhoIs t.thread.who → IsSome t.thread.who.path
  some_path t a = role_some t.thread.who.role t.thread.who a

  pub born_met : (t u : Task) → Meet t u → WhoIs t.thread.who → Bare u.thread → IsBorn left tss t.thread → IsBorn left uss u.thread
  born_met t u a named bare b =
      let p = t.thread.who.path in
      let x = u.thread.who.path in
      let e = m.path_met s own other own_sorts other_sorts t u a in
      let some = some_path t named in
      let some_other = m.some_met s own other own_sorts other_sorts p x e some in
      record {
        rises = rising_was (other x) (rose_at other other_sorts x some_other) left left
            (above_was other other_sorts left other_fixed x) (births_of u.thread) (subst (Rising left) (births_met t u a)
            (rising_by (own p) (rises_at own own_sorts p some) left left (above_as own own_sorts left own_fixed p)
            (births_of t.thread) b.rises));
        keeps = bare_keeps (u.thread.frame ∷ u.thread.below) bare;
        above = path_above left x (below_was other other_sorts left other_fixed [] x (subst (NoneBelow left) e
            (below_as own own_sorts left own_fixed [] p (above_path left p b.above))));
        apart = no_children p x e (births_of t.thread) (births_of u.thread) (births_met t u a) b.apart;
      }

  -- ---- arms

  arms_below : (p x : List ℕ) → IsSome p → IsSome x → (b d : ℕ) → own p b ≡ other x d → (gs hs : List Part) →
      EachPair (m.PartMeets s own other own_sorts other_sorts p x) gs hs → ArmsBelow b gs → ArmsBelow d hs
  arms_below p x some also b d e [] [] a h = tt
  arms_below p x some also b d e [] (k ∷ hs) a h = absurd a
  arms_below p x some also b d e (g ∷ gs) [] a h = absurd a
  arms_below p x some also b d e (did v ∷ gs) (did w ∷ hs) a h = arms_below p x some also b d e gs hs a.1 h
  arms_below p x some also b d e (did v ∷ gs) (runs k ∷ hs) a h = absurd a.0
  arms_below p x some also b d e (runs n ∷ gs) (did w ∷ hs) a h = absurd a.0
  arms_below p x some also b d e (runs n ∷ gs) (runs k ∷ hs) a h = (
    rose_at other other_sorts x also k d (subst (λ i. i < other x d) a.0 (subst (λ i. own p n < i) e
        (rises_at own own_sorts p some n b h.0))),
    arms_below p x some also b d e gs hs a.1 h.1,
  )

  rest_below : (p x : List ℕ) → IsSome p → IsSome x → (b d : ℕ) → own p b ≡ other x d → (o r : Rest) →
      rest_as own p o ≡ rest_as other x r → RestBelow b o → RestBelow d r
  rest_below p x some also b d e (asleep w) (asleep v) f h = tt
  rest_below p x some also b d e (asleep w) (group l j hs) f h = rest_no f
  rest_below p x some also b d e (group k i gs) (asleep v) f h = rest_no (sym f)
  rest_below p x some also b d e (group k i gs) (group l j hs) f h = arms_below p x some also b d e gs hs
      (m.parts_met s own other own_sorts other_sorts p x gs hs (group_parts f)) h

  pub arms_met : (t u : Task) → Meet t u → WhoIs t.thread.who → Bare u.thread → IsBorn left uss u.thread → TaskIs left t → TaskIs left u
  arms_met t u a named bare born b =
      let e = m.path_met s own other own_sorts other_sorts t u a in
      let some = some_path t named in (
        frames_born left (u.thread.frame ∷ u.thread.below) bare born.rises,
        rest_below t.thread.who.path u.thread.who.path some
            (m.some_met s own other own_sorts other_sorts t.thread.who.path u.thread.who.path e some) t.thread.frame.life.born
            u.thread.frame.life.born (first_is (births_met t u a)) t.rest u.rest (ap (λ (t : Task). t.rest) a) b.1,
      )

-- ---- lists of trees

tasks_each : (left : ℕ) (ts : List Task) → TasksAre left ts → Each (TaskIs left) ts
tasks_each left [] a = tt
tasks_each left (t ∷ ts) a = (a.0, tasks_each left ts a.1)

pub trees_each : (left : ℕ) (tss : Forest) → TreesAre left tss → Each (Each (TaskIs left)) tss
trees_each left [] a = tt
trees_each left (ts ∷ tss) a = (tasks_each left ts a.0, trees_each left tss a.1)

each_tasks : (left : ℕ) (ts : List Task) → Each (TaskIs left) ts → TasksAre left ts
each_tasks left [] a = tt
each_tasks left (t ∷ ts) a = (a.0, each_tasks left ts a.1)

pub each_trees : (left : ℕ) (tss : Forest) → Each (Each (TaskIs left)) tss → TreesAre left tss
each_trees left [] a = tt
each_trees left (ts ∷ tss) a = (each_tasks left ts a.0, each_trees left tss a.1)
