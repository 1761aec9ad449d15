-- Each cancelled task is cancelled once; nothing that stands when a frame begins has begun since.
use Rattle.std.proofs.Common.{◌≡◌, ℕ, zero, suc, ◌≤◌, List, [], ◌∷◌, ◌++◌, Bool, true, false, cond, refl, sym, subst, arith}
use Rattle.std.proofs.lemmas.Bool.{cond_both}
use Rattle.verse_value.specs.declared.runs.Ending.TheVariants as ending
use Rattle.verse_meaning_state.specs.State.{State, spending}
use Rattle.verse_meaning_state.specs.Waits.{eqn, ltn}
use Rattle.verse_code_machine.specs.Tasks.{Who, Task, Up, Machine, Next, Over, machine, life_from, starts, since}
use Rattle.verse_code_machine.specs.Frames.{locals_of}
use Rattle.verse_code_machine.specs.Cancelling.{inserted, without, gone_before, gone_behind}
use Rattle.verse_code_machine_parents.specs.Parents.{whos, line, HasParent, here, later, Rooted, rooted_no, rooted_root, rooted_part, chain}
use Rattle.verse_code_machine_parents.specs.Parents.{EachTask, Tree, running, before_resuming, before_closing, before_finishing}
use Rattle.verse_code_machine_parents.specs.Cancelled.{Inserts, first_of, behind, Splits, splits_no, goes, stays, CancelledOnce, NoneSince}

inserts : (t : Task) (ts : List Task) → Inserts t ts (inserted t ts)
inserts t [] = first_of
inserts t (x ∷ xs) =
    cond_both (starts t.thread.who.path x.thread.who.path) (x ∷ inserted t xs) (t ∷ x ∷ xs) (Inserts t (x ∷ xs))
    (λ e. behind (inserts t xs)) (λ e. first_of)

-- both lists by one test
by_test : (f : List ℕ → Bool) (t : Task) (ts gs hs ks : List Task) → Splits f ts gs ks → Inserts t gs hs →
    Splits f (t ∷ ts) (cond (f t.thread.who.path) hs gs) (cond (f t.thread.who.path) ks (t ∷ ks))
by_test f t ts gs hs ks r i = by_answer (f t.thread.who.path) refl
  where
    by_answer : (b : Bool) → f t.thread.who.path ≡ b → Splits f (t ∷ ts) (cond b hs gs) (cond b ks (t ∷ ks))
    by_answer true e = goes e r i
    by_answer false e = stays e r

splits_before : (f : List ℕ → Bool) (ts : List Task) → Splits f ts (gone_before f ts) (without f ts)
splits_before f [] = splits_no
splits_before f (t ∷ ts) =
    by_test f t ts (gone_before f ts) (inserted t (gone_before f ts)) (without f ts) (splits_before f ts) (inserts t (gone_before f ts))

splits_behind : (f : List ℕ → Bool) (ts : List Task) → Splits f ts (gone_behind f ts) (without f ts)
splits_behind f [] = splits_no
splits_behind f (t ∷ ts) =
    by_test f t ts (gone_behind f ts) (t ∷ gone_behind f ts) (without f ts) (splits_behind f ts) first_of

pub cancelled_once : CancelledOnce
cancelled_once f o = (splits_before f o.pre, splits_behind f o.post)

-- no task encloses another that began with more steps
abbrev AllFrom : ℕ → List ℕ → Type 0
AllFrom left [] = Unit {0}
AllFrom left (k ∷ x) = (left ≤ k) × AllFrom left x

abbrev EachWho : (List ℕ → Type 0) → List Who → Type 0
EachWho are [] = Unit {0}
EachWho are (w ∷ ws) = are w.path × EachWho are ws

one_more : (left n : ℕ) (x : List ℕ) → AllFrom left x → left ≤ n → AllFrom left (x ++ n ∷ [])
one_more left n [] a l = (l, tt)
one_more left n (k ∷ x) a l = (a.0, one_more left n x a.1 l)

parent_from : (left : ℕ) {up : List ℕ} {n : ℕ} {ws : List Who} → HasParent up n ws → EachWho (AllFrom left) ws → AllFrom left up
parent_from left (here e l) r = subst (AllFrom left) e r.0
parent_from left (later h) r = parent_from left h r.1

paths_from : {left : ℕ} {ws : List Who} → Rooted left ws → EachWho (AllFrom left) ws
paths_from rooted_no = tt
paths_from {left = left} (rooted_root e p l r) = (subst (AllFrom left) (sym p) (l, tt), paths_from r)
paths_from {left = left} (rooted_part {w = w} e p l h r) =
    (subst (AllFrom left) (sym p) (one_more left w.number w.up (parent_from left h (paths_from r)) l), paths_from r)

-- the tasks of a line
line_each : (are : List ℕ → Type 0) (xs : List Task) (ws : List Who) → EachWho are (line xs ws) →
    EachTask (λ t. are t.thread.who.path) xs × EachWho are ws
line_each are [] ws r = (tt, r)
line_each are (x ∷ xs) ws r = moved (line_each are xs (x.thread.who ∷ ws) r)
  where
    moved : EachTask (λ t. are t.thread.who.path) xs × (are x.thread.who.path × EachWho are ws) →
        (are x.thread.who.path × EachTask (λ t. are t.thread.who.path) xs) × EachWho are ws
    moved q = ((q.1.0, q.0), q.1.1)

whos_each : (are : List ℕ → Type 0) (ts : List Task) → EachWho are (whos ts) → EachTask (λ t. are t.thread.who.path) ts
whos_each are [] r = tt
whos_each are (t ∷ ts) r = (r.0, whos_each are ts r.1)

after_each : (are : List ℕ → Type 0) (vs ws : List Who) → EachWho are (vs ++ ws) → EachWho are ws
after_each are [] ws r = r
after_each are (v ∷ vs) ws r = after_each are vs ws r.1

both_each : (are : Task → Type 0) (xs ys : List Task) → EachTask are xs → EachTask are ys → EachTask are (xs ++ ys)
both_each are [] ys a b = b
both_each are (x ∷ xs) ys a b = (a.0, both_each are xs ys a.1 b)

tree_from : {left : ℕ} {pre post : List Task} {w : Who} {us : List Up} → Tree left pre post w us →
    EachTask (λ t. AllFrom left t.thread.who.path) (pre ++ post)
tree_from {left = left} {pre = pre} {post = post} (running {w = w} {us = us} r f u) =
    both_each (λ t. AllFrom left t.thread.who.path) pre post split.0
    (whos_each (AllFrom left) post (after_each (AllFrom left) (chain us) (whos post) split.1.1))
  where
    split : EachTask (λ t. AllFrom left t.thread.who.path) pre × EachWho (AllFrom left) (w ∷ chain us ++ whos post)
    split = line_each (AllFrom left) pre (w ∷ chain us ++ whos post) (paths_from r)
tree_from (before_resuming b bs st f t) = tree_from t
tree_from {left = left} {pre = pre} {post = post} (before_closing {us = us} b bs st l) =
    both_each (λ t. AllFrom left t.thread.who.path) pre post split.0
    (whos_each (AllFrom left) post (after_each (AllFrom left) (chain us) (whos post) split.1))
  where
    split : EachTask (λ t. AllFrom left t.thread.who.path) pre × EachWho (AllFrom left) (chain us ++ whos post)
    split = line_each (AllFrom left) pre (chain us ++ whos post) (paths_from l.others)
tree_from {left = left} {pre = pre} {post = post} (before_finishing {us = us} b bs st l) =
    both_each (λ t. AllFrom left t.thread.who.path) pre post split.0
    (whos_each (AllFrom left) post (after_each (AllFrom left) (chain us) (whos post) split.1))
  where
    split : EachTask (λ t. AllFrom left t.thread.who.path) pre × EachWho (AllFrom left) (chain us ++ whos post)
    split = line_each (AllFrom left) pre (chain us ++ whos post) (paths_from l.others)

not_less : (k l : ℕ) → suc l ≤ k → ltn k l ≡ false
not_less k zero h = refl
not_less zero (suc l) h = absurd (omega (arith, h))
not_less (suc k) (suc l) h = not_less k l (lower k l h)
  where
    lower : (k l : ℕ) → suc (suc l) ≤ suc k → suc l ≤ k
    lower k l h = omega (arith, h)

-- what began with more steps did not begin since
none_since : (a : List ℕ) (l : ℕ) (x : List ℕ) → AllFrom (suc l) x → since a l x ≡ false
none_since [] l [] r = refl
none_since [] l (k ∷ x) r = not_less k l r.0
none_since (i ∷ a) l [] r = refl
none_since (i ∷ a) l (j ∷ x) r =
    cond_both (eqn i j) (since a l x) false (λ b. b ≡ false) (λ e. none_since a l x r.1) (λ e. refl)

each_since : (a : List ℕ) (l : ℕ) (ts : List Task) → EachTask (λ t. AllFrom (suc l) t.thread.who.path) ts →
    EachTask (λ t. since a l t.thread.who.path ≡ false) ts
each_since a l [] r = tt
each_since a l (t ∷ ts) r = (none_since a l t.thread.who.path r.0, each_since a l ts r.1)

pub nothing_since : NoneSince
nothing_since f vs w o s bl m r e = by_left s.clock.left refl e
  where
    no_over : {A : Type 0} {e : _} {s : State} → Over e s ≡ Next m → A
    no_over e = cc

    same_machine : {k : Machine} → Next k ≡ Next m → k ≡ m
    same_machine e = cc

    by_left : (left : ℕ) → s.clock.left ≡ left → spending left s (Over ending.Steps s) (λ s. Next (machine w o s (life_from s.clock.left)
        (locals_of f vs) [] f.entry [] bl)) ≡ Next m → EachTask (λ t. since w.path m.frame.life.born t.thread.who.path ≡ false) (o.pre ++
        o.post)
    by_left zero left h = no_over h
    by_left (suc l) left h =
        subst (λ (m : Machine). EachTask (λ t. since w.path m.frame.life.born t.thread.who.path ≡ false) (o.pre ++ o.post)) (same_machine h)
        (each_since w.path l (o.pre ++ o.post) (subst (λ n. EachTask (λ t. AllFrom n t.thread.who.path) (o.pre ++ o.post)) left (tree_from
        r.tree)))
