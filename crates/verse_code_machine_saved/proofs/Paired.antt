-- Trees whose numbers are paired come to the same under two numberings.
use Rattle.std.proofs.Common.{◌≡◌, ℕ, ◌+◌, List, [], ◌∷◌, ◌++◌, refl, sym, ap, ◌∙◌, subst}
use Rattle.verse_value.specs.Val.{Val}
use Rattle.verse_meaning_state.specs.State.{State}
use Rattle.verse_code_machine.specs.Tasks.{Note, Handler, Frame, Role, Who, Part, did, runs, Rest, asleep, group, Thread, Task}
use Rattle.verse_code_machine.specs.Runs.{Forest}
use Rattle.verse_code_machine_saved.specs.Numbers.{Numbering, Prior, Pairs, beside, turned, spread, path_from, path_as, parts_as}
use Rattle.verse_code_machine_saved.specs.Numbers.{rest_as, who_as, handlers_as, frame_as, frames_as, thread_as, task_as, tasks_as}
use Rattle.verse_code_machine_saved.specs.Numbers.{trees_as}
use Rattle.verse_code_machine_saved.specs.Numbers.{renumbered}
use Rattle.verse_code_machine_saved.specs.Resuming.{prior}
use Rattle.verse_code_machine_saved.specs.Pairing.{IsPair, PathsPaired, WhoPaired, FramePaired, FramesPaired, ThreadPaired, PartPaired}
use Rattle.verse_code_machine_saved.specs.Pairing.{PartsPaired, RestPaired, TaskPaired, TasksPaired, TreesPaired, TreesMeet}
use Rattle.verse_code_machine_saved.proofs.Spreading.{numberings_meet}

abbrev who_at : List ℕ → List ℕ → ℕ → Role → Who
who_at a b n q = record { path = a; up = b; number = n; role = q }

abbrev frame_at : ℕ → List ℕ → List Note → List Val → List Val → ℕ → List Handler → Frame
frame_at n ds ns ls st pc hs =
    record { life = record { born = n; defers = ds; noted = ns }; locals = ls; stack = st; place = pc; handlers = hs }

-- both are empty, or neither
abbrev pub Level : List ℕ → List ℕ → Type 0
Level [] [] = Unit {0}
Level (n ∷ a) (m ∷ b) = Unit {0}
Level [] (m ∷ b) = ⊥
Level (n ∷ a) [] = ⊥

more_level : (a b : List ℕ) (n m : ℕ) → Level (a ++ n ∷ []) (b ++ m ∷ [])
more_level [] [] n m = tt
more_level [] (j ∷ b) n m = tt
more_level (i ∷ a) [] n m = tt
more_level (i ∷ a) (j ∷ b) n m = tt

-- two numberings under which the numbers of each pair come to one
module _ (f : List ℕ → Pairs) (first : List ℕ → List ℕ) (Y Z : Prior)
    (meets : (a b : List ℕ) (n m : ℕ) → Level a b → IsPair f first a b n m → Y.numbers a n ≡ Z.numbers b m) where
  abbrev own : Numbering
  own = Y.numbers

  abbrev other : Numbering
  other = Z.numbers

  level_of : (a b x y : List ℕ) → PathsPaired f first a b x y → Level x y
  level_of a b [] [] h = tt
  level_of a b (n ∷ x) (m ∷ y) h = tt
  level_of a b [] (m ∷ y) h = absurd h
  level_of a b (n ∷ x) [] h = absurd h

  path_meets : (a b x y : List ℕ) → Level a b → PathsPaired f first a b x y → path_from own a x ≡ path_from other b y
  path_meets a b [] [] l h = refl
  path_meets a b (n ∷ x) (m ∷ y) l h =
      ap (λ k. k ∷ path_from own (a ++ n ∷ []) x) (meets a b n m l h.0) ∙
      ap (λ z. other b m ∷ z) (path_meets (a ++ n ∷ []) (b ++ m ∷ []) x y (more_level a b n m) h.1)
  path_meets a b [] (m ∷ y) l h = absurd h
  path_meets a b (n ∷ x) [] l h = absurd h

  who_meets : (w v : Who) → WhoPaired f first w v → who_as own w ≡ who_as other v
  who_meets w v h =
      ap (λ a. who_at a (path_as own w.up) (own w.up w.number) w.role) (path_meets [] [] w.path v.path tt h.path) ∙
      ap (λ b. who_at (path_as other v.path) b (own w.up w.number) w.role) (path_meets [] [] w.up v.up tt h.up) ∙
      ap (λ n. who_at (path_as other v.path) (path_as other v.up) n w.role)
      (meets w.up v.up w.number v.number (level_of [] [] w.up v.up h.up) h.number) ∙
      ap (who_at (path_as other v.path) (path_as other v.up) (other v.up v.number)) h.role

  frame_meets : (a b : List ℕ) (g h : Frame) → Level a b → FramePaired f first a b g h → frame_as Y a g ≡ frame_as Z b h
  frame_meets a b g h l p =
      ap (λ n. frame_at n g.life.defers g.life.noted g.locals g.stack g.place (handlers_as Y a g.handlers))
      (meets a b g.life.born h.life.born l p.born) ∙
      ap (λ ds. frame_at (other b h.life.born) ds g.life.noted g.locals g.stack g.place (handlers_as Y a g.handlers)) p.defers ∙
      ap (λ ns. frame_at (other b h.life.born) h.life.defers ns g.locals g.stack g.place (handlers_as Y a g.handlers)) p.noted ∙
      ap (λ ls. frame_at (other b h.life.born) h.life.defers h.life.noted ls g.stack g.place (handlers_as Y a g.handlers)) p.locals ∙
      ap (λ st. frame_at (other b h.life.born) h.life.defers h.life.noted h.locals st g.place (handlers_as Y a g.handlers)) p.stack ∙
      ap (λ pc. frame_at (other b h.life.born) h.life.defers h.life.noted h.locals h.stack pc (handlers_as Y a g.handlers)) p.place ∙
      ap (λ hs. frame_at (other b h.life.born) h.life.defers h.life.noted h.locals h.stack h.place (handlers_as Y a hs)) p.bare ∙
      ap (λ hs. frame_at (other b h.life.born) h.life.defers h.life.noted h.locals h.stack h.place (handlers_as Z b hs)) (sym p.other_bare)

  frames_meet : (a b : List ℕ) (gs hs : List Frame) → Level a b → FramesPaired f first a b gs hs → frames_as Y a gs ≡ frames_as Z b hs
  frames_meet a b [] [] l p = refl
  frames_meet a b (g ∷ gs) (h ∷ hs) l p =
      ap (λ x. x ∷ frames_as Y a gs) (frame_meets a b g h l p.0) ∙ ap (λ xs. frame_as Z b h ∷ xs) (frames_meet a b gs hs l p.1)
  frames_meet a b [] (h ∷ hs) l p = absurd p
  frames_meet a b (g ∷ gs) [] l p = absurd p

  thread_meets : (x y : Thread) → ThreadPaired f first x y → thread_as Y x ≡ thread_as Z y
  thread_meets x y p =
      ap (λ w. record { who = w; frame = frame_as Y x.who.path x.frame; below = frames_as Y x.who.path x.below })
      (who_meets x.who y.who p.who) ∙
      ap (λ g. record { who = who_as other y.who; frame = g; below = frames_as Y x.who.path x.below })
      (frame_meets x.who.path y.who.path x.frame y.frame (level_of [] [] x.who.path y.who.path p.who.path) p.frame) ∙
      ap (λ gs. record { who = who_as other y.who; frame = frame_as Z y.who.path y.frame; below = gs })
      (frames_meet x.who.path y.who.path x.below y.below (level_of [] [] x.who.path y.who.path p.who.path) p.below)

  part_meets : (a b : List ℕ) (g h : Part) (gs hs : List Part) → Level a b → PartPaired f first a b g h →
      parts_as own a gs ≡ parts_as other b hs →
      parts_as own a (g ∷ gs) ≡ parts_as other b (h ∷ hs)
  part_meets a b (did v) (did w) gs hs l p e = ap (λ x. did x ∷ parts_as own a gs) p ∙ ap (λ xs. did w ∷ xs) e
  part_meets a b (runs n) (runs m) gs hs l p e =
      ap (λ k. runs k ∷ parts_as own a gs) (meets a b n m l p) ∙ ap (λ xs. runs (other b m) ∷ xs) e
  part_meets a b (did v) (runs m) gs hs l p e = absurd p
  part_meets a b (runs n) (did w) gs hs l p e = absurd p

  parts_meet : (a b : List ℕ) (gs hs : List Part) → Level a b → PartsPaired f first a b gs hs → parts_as own a gs ≡ parts_as other b hs
  parts_meet a b [] [] l p = refl
  parts_meet a b (g ∷ gs) (h ∷ hs) l p = part_meets a b g h gs hs l p.0 (parts_meet a b gs hs l p.1)
  parts_meet a b [] (h ∷ hs) l p = absurd p
  parts_meet a b (g ∷ gs) [] l p = absurd p

  rest_meets : (a b : List ℕ) (q r : Rest) → Level a b → RestPaired f first a b q r → rest_as own a q ≡ rest_as other b r
  rest_meets a b (asleep w) (asleep v) l p = ap asleep p
  rest_meets a b (group k p gs) (group j q hs) l r =
      ap (λ i. group i p (parts_as own a gs)) r.0 ∙ ap (λ i. group j i (parts_as own a gs)) r.1 ∙
      ap (group j q) (parts_meet a b gs hs l r.2)
  rest_meets a b (asleep w) (group j q hs) l r = absurd r
  rest_meets a b (group k p gs) (asleep v) l r = absurd r

  task_meets : (t u : Task) → TaskPaired f first t u → task_as Y t ≡ task_as Z u
  task_meets t u p =
      ap (λ x. record { thread = x; rest = rest_as own t.thread.who.path t.rest }) (thread_meets t.thread u.thread p.thread) ∙
      ap (λ r. record { thread = thread_as Z u.thread; rest = r })
      (rest_meets t.thread.who.path u.thread.who.path t.rest u.rest
      (level_of [] [] t.thread.who.path u.thread.who.path p.thread.who.path) p.rest)

  tasks_meet : (ts us : List Task) → TasksPaired f first ts us → tasks_as Y ts ≡ tasks_as Z us
  tasks_meet [] [] p = refl
  tasks_meet (t ∷ ts) (u ∷ us) p =
      ap (λ x. x ∷ tasks_as Y ts) (task_meets t u p.0) ∙ ap (λ xs. task_as Z u ∷ xs) (tasks_meet ts us p.1)
  tasks_meet [] (u ∷ us) p = absurd p
  tasks_meet (t ∷ ts) [] p = absurd p

  pub forests_meet : (tss uss : Forest) → TreesPaired f first tss uss → trees_as Y tss ≡ trees_as Z uss
  forests_meet [] [] p = refl
  forests_meet (ts ∷ tss) (us ∷ uss) p =
      ap (λ xs. xs ∷ trees_as Y tss) (tasks_meet ts us p.0) ∙ ap (λ xss. tasks_as Z us ∷ xss) (forests_meet tss uss p.1)
  forests_meet [] (us ∷ uss) p = absurd p
  forests_meet (ts ∷ tss) [] p = absurd p

pub trees_meet : TreesMeet
trees_meet f first s tss uss rising none p =
    let own = (numberings_meet f s.clock.left rising none).0 in
    let other = (numberings_meet (λ b. f (first b)) s.clock.left (λ b. rising (first b)) (λ b. none (first b))).1 in
    record {
      own = spread f;
      other = spread (λ b. turned (f (first b)));
      own_rises = own.0;
      own_fixed = own.1;
      other_rises = other.0;
      other_fixed = other.1;
      meet = forests_meet f first (renumbered (spread f) s) (prior (spread (λ b. turned (f (first b)))) s)
          (λ a b n m l q. subst (λ z. spread f a n ≡ m + beside m (turned (f z)) 0)
          (sym q.path) ((numberings_meet f s.clock.left rising none).2 a (n, m) q.front q.back q.is)) tss uss p;
    }
