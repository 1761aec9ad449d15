-- Where a part ends its parent stands, as parents stand in every run.
use Rattle.std.proofs.Common.{◌≡◌, ℕ, ◌≤◌, ◌<◌, length, List, [], ◌∷◌, ◌++◌, Option, Bool, true, false, cond, sym, subst, ◌∙◌}
use Rattle.std.proofs.Common.{arith}
use Rattle.std.proofs.lemmas.Bool.{cond_both}
use Rattle.verse_code.specs.declared.operations.Op.{Op}
use Rattle.verse_code.specs.declared.operations.Op.TheVariants as o
use Rattle.verse_code.specs.declared.codes.Code.{Code}
use Rattle.verse_code_machine.specs.Tasks.{root, part, Who, Task, After, resuming, closing, finishing, Up, clearing, Machine}
use Rattle.verse_code_machine.specs.Tasks.{same_path, since}
use Rattle.verse_code_machine.specs.Cancelling.{without}
use Rattle.verse_code_machine.proofs.Paths.{same_self}
use Rattle.verse_code_machine_parents.specs.Parents.{whos, HasParent, here, later, Rooted, rooted_root, rooted_part, chain, Follow}
use Rattle.verse_code_machine_parents.specs.Parents.{Leaving, Tree, running, before_resuming, before_closing, before_finishing}
use Rattle.verse_code_machine_parents.specs.Parents.{MachineRooted}
use Rattle.verse_code_machine_parents.proofs.Lists.{line_tail, child_longer, since_takes, stays}
use Rattle.verse_verify_kept.specs.Notes.{Notes}
use Rattle.verse_verify_kept.specs.Known.{Known}
use Rattle.verse_verify_kept.proofs.Resting.{Parented, here as stands_here, later as stands_later}
use Rattle.verse_verify_kept.proofs.Ending.{Placed}
use Rattle.verse_verify_kept.proofs.Every.{Parents}

module _ (c : Code) (n : Notes) (ok : Known c n) where
  parented : {up : List ℕ} {number : ℕ} (ts : List Task) → HasParent up number (whos ts) → Parented c n ok up ts
  parented [] h = elim h [ ]
  parented {up = up} (t ∷ ts) (here e l) = stands_here (subst (λ a. same_path up a ≡ true) (sym e) (same_self up))
  parented (t ∷ ts) (later h) = stands_later (parented ts h)

  -- also where others are cancelled
  parented_without : {up : List ℕ} {number : ℕ} (f : List ℕ → Bool) → f up ≡ false → (ts : List Task) → HasParent up number (whos ts) →
      Parented c n ok up (without f ts)
  parented_without f not [] h = elim h [ ]
  parented_without {up = up} f not (t ∷ ts) (here e l) =
      subst (λ b. Parented c n ok up (cond b (without f ts) (t ∷ without f ts))) (sym (subst (λ a. f a ≡ false) (sym e) not)) (stands_here
      (subst (λ a. same_path up a ≡ true) (sym e) (same_self up)))
  parented_without {up = up} f not (t ∷ ts) (later h) =
      cond_both (f t.thread.who.path) (without f ts) (t ∷ without f ts) (Parented c n ok up) (λ e. parented_without f not ts h) (λ e.
      stands_later (parented_without f not ts h))

  no_part : {A : Type 0} {entry : Option ℕ} → root entry ≡ part → A
  no_part e = cc

  own_parent : {left : ℕ} {w : Who} {ws : List Who} → Rooted left (w ∷ ws) → w.role ≡ part → HasParent w.up w.number ws
  own_parent (rooted_root e p l r) same = no_part (sym e ∙ same)
  own_parent (rooted_part e p l h r) same = h

  -- a task's parent is not what it has begun
  parent_stays : {left : ℕ} {w : Who} {ws : List Who} (born : ℕ) → Rooted left (w ∷ ws) → w.role ≡ part → since w.path born w.up ≡ false
  parent_stays born (rooted_root e p l r) same = no_part (sym e ∙ same)
  parent_stays {left = left} {w = w} born (rooted_part e p l h r) same =
      stays (since_takes w.path born) left w.up (subst (λ a. length w.up ≤ length a) (sym p)
      (shorter (length w.up) (length (w.up ++ w.number ∷ [])) (child_longer w.up w.number)))
    where
      shorter : (i j : ℕ) → i < j → i ≤ j
      shorter i j h = omega (arith, h)

  arm_parent : {left : ℕ} {w : Who} {pre post : List Task} {us : List Up} (born : ℕ) → Tree left pre post w us → us ≡ [] → w.role ≡ part →
      Parented c n ok w.up (without (since w.path born) post)
  arm_parent {left = left} {w = w} {pre = pre} {post = post} born (running r f u) none same =
      parented_without (since w.path born) (parent_stays born alone same) post (own_parent alone same)
    where
      alone : Rooted left (w ∷ whos post)
      alone = subst (λ us. Rooted left (w ∷ chain us ++ whos post)) none (line_tail pre r)
  arm_parent born (before_resuming b bs st f t) none same = no_cons none
    where
      no_cons : {A : Type 0} {u : Up} {us : List Up} → u ∷ us ≡ [] → A
      no_cons e = cc
  arm_parent born (before_closing b bs st l) none same = no_cons none
    where
      no_cons : {A : Type 0} {u : Up} {us : List Up} → u ∷ us ≡ [] → A
      no_cons e = cc
  arm_parent born (before_finishing b bs st l) none same = no_cons none
    where
      no_cons : {A : Type 0} {u : Up} {us : List Up} → u ∷ us ≡ [] → A
      no_cons e = cc

  leaving_parent : {left : ℕ} {pre post : List Task} {us : List Up} {w : Who} → Leaving left pre post us w → us ≡ [] → w.role ≡ part →
      Parented c n ok w.up post
  leaving_parent {left = left} {post = post} {us = us} {w = w} l none same =
      parented post (own_parent (subst (λ us. Rooted left (w ∷ chain us ++ whos post)) none l.own) same)

  no_clearing : {A : Type 0} (w : Who) (us : List Up) {after : After} {ts : List Task} {vs : List Up} → Follow w us →
      us ≡ clearing after ts ∷ vs → A
  no_clearing {A = A} w us f e = elim (subst (Follow w) e f) [ ]

  same_ups : {u v : Up} {us vs : List Up} → u ∷ us ≡ v ∷ vs → (u ≡ v) × (us ≡ vs)
  same_ups e = (cc, cc)

  -- what ends when all is cancelled has its parent
  placed_here : {left : ℕ} {w : Who} {pre post : List Task} {us : List Up} → Tree left pre post w us → (after : After) (ts : List Task)
      (vs : List Up) → us ≡ clearing after ts ∷ vs → Placed c n ok vs after post
  placed_here tree (resuming y v) ts vs e = tt
  placed_here tree (finishing w entry v) ts vs e = tt
  placed_here (running {w = x} {us = us} r f u) (closing w v) ts vs e = no_clearing x us f e
  placed_here (before_resuming b bs st f t) (closing w v) ts vs e = other (same_ups e).0
    where
      other : {A : Type 0} {y : _} {u v : _} {w : Who} {ts qs : List Task} → clearing (resuming y u) ts ≡ clearing (closing w v) qs → A
      other e = cc
  placed_here (before_finishing b bs st l) (closing w v) ts vs e = other (same_ups e).0
    where
      other : {A : Type 0} {entry : Option ℕ} {u v : _} {x w : Who} {ts qs : List Task} → clearing (finishing x entry u) ts ≡ clearing
          (closing w v) qs → A
      other e = cc
  placed_here {left = left} {pre = pre} {post = post} (before_closing {x = x} {us = us} b bs st l) (closing w v) ts vs e = λ none same.
      leaving_parent {us = vs} (subst (λ us. Leaving left pre post us w) (same_ups e).1
      (subst (Leaving left pre post us) (same_who (same_ups e).0) l)) none same
    where
      same_who : {u v : _} {ts qs : List Task} → clearing (closing x u) ts ≡ clearing (closing w v) qs → x ≡ w
      same_who e = cc

  pub parents_stand : (m : Machine) → MachineRooted m → (op : Op) → Parents c n ok m.who m.world m.frame.life op
  parents_stand m r o.ArmEnd = λ none same. arm_parent m.frame.life.born r.world.tree none same
  parents_stand m r o.DeferEnd = λ after ts vs e. placed_here r.world.tree after ts vs e
  parents_stand m r op = tt
