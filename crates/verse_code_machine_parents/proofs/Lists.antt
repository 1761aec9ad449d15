-- What happens to a line of tasks: some of them go, one more begins, fewer steps are left.
use Rattle.std.proofs.Common.{◌≡◌, ℕ, suc, ◌+◌, ◌≤◌, ◌<◌, length, List, [], ◌∷◌, ◌++◌, Bool, true, false, cond, refl, sym, subst, ap}
use Rattle.std.proofs.Common.{arith, ◌∙◌}
use Rattle.std.proofs.lemmas.Bool.{cond_both}
use Rattle.std.proofs.lemmas.List.{length-append}
use Rattle.verse_meaning_state.specs.Waits.{eqn}
use Rattle.verse_meaning_state.proofs.Numbers.{eqn_is, eqn_same, ltn_yes}
use Rattle.verse_code_machine.specs.Tasks.{Who, Part, did, runs, Task, Up, begins, branching, spawning, clearing, onto, starts, since}
use Rattle.verse_code_machine.specs.Tasks.{beneath_arms}
use Rattle.verse_code_machine.specs.Cancelling.{without}
use Rattle.verse_code_machine_parents.specs.Parents.{whos, line, HasParent, here, later, Rooted, rooted_no, rooted_root, rooted_part}
use Rattle.verse_code_machine_parents.specs.Parents.{Beneath}
use Rattle.verse_code_machine_parents.specs.Parents.{chain, Follow}

pub no_both : {A : Type 0} → true ≡ false → A
no_both e = cc

pub onto_line : (xs ts : List Task) → whos (onto xs ts) ≡ line xs (whos ts)
onto_line [] ts = refl
onto_line (x ∷ xs) ts = onto_line xs (x ∷ ts)

-- paths
pub longer : {a x : List ℕ} → Beneath a x → length a < length x
longer {a = a} {x = x} b =
    count (length a) (length x) (length b.rest) (ap length b.goes_on ∙ length-append a (b.next ∷ b.rest))
  where
    count : (i j k : ℕ) → j ≡ i + suc k → i < j
    count i j k e = omega (arith, e)

pub child_beneath : (a : List ℕ) (n : ℕ) → Beneath a (a ++ n ∷ [])
child_beneath a n = record { next = n; rest = []; goes_on = refl }

pub child_longer : (a : List ℕ) (n : ℕ) → length a < length (a ++ n ∷ [])
child_longer a n = longer (child_beneath a n)

-- what is taken out beneath a task: with each task all that it encloses
pub record Takes (a : List ℕ) (f : List ℕ → Bool) : Type 0 where
  pub closed : (x : List ℕ) (n : ℕ) → f x ≡ true → f (x ++ n ∷ []) ≡ true
  pub deeper : (x : List ℕ) → f x ≡ true → Beneath a x

since_closed : (a : List ℕ) (m : ℕ) (x : List ℕ) (n : ℕ) → since a m x ≡ true → since a m (x ++ n ∷ []) ≡ true
since_closed [] m [] n e = no_both (sym e)
since_closed [] m (k ∷ x) n e = e
since_closed (i ∷ a) m [] n e = no_both (sym e)
since_closed (i ∷ a) m (j ∷ x) n e =
    cond_both (eqn i j) (since a m x) false (λ b. b ≡ true → cond (eqn i j) (since a m (x ++ n ∷ [])) false ≡ true) (λ same h. subst (λ b.
    cond b (since a m (x ++ n ∷ [])) false ≡ true) (sym same) (since_closed a m x n h)) (λ other h. no_both (sym h)) e

onwards : {i j : ℕ} {a x : List ℕ} → i ≡ j → Beneath a x → Beneath (i ∷ a) (j ∷ x)
onwards {i = i} {j = j} {a = a} {x = x} e b = record { next = b.next; rest = b.rest; goes_on = both i j a x b.next b.rest e b.goes_on }
  where
    both : (i j : ℕ) (a x : List ℕ) (n : ℕ) (y : List ℕ) → i ≡ j → x ≡ a ++ n ∷ y → j ∷ x ≡ i ∷ (a ++ n ∷ y)
    both i j a x n y e h = cc

since_deeper : (a : List ℕ) (m : ℕ) (x : List ℕ) → since a m x ≡ true → Beneath a x
since_deeper [] m [] e = no_both (sym e)
since_deeper [] m (k ∷ x) e = record { next = k; rest = x; goes_on = refl }
since_deeper (i ∷ a) m [] e = no_both (sym e)
since_deeper (i ∷ a) m (j ∷ x) e =
    cond_both (eqn i j) (since a m x) false (λ b. b ≡ true → Beneath (i ∷ a) (j ∷ x)) (λ same h. onwards (eqn_is i j same) (since_deeper a m
    x h)) (λ other h. no_both (sym h)) e

pub since_takes : (a : List ℕ) (m : ℕ) → Takes a (since a m)
since_takes a m = record { closed = since_closed a m; deeper = since_deeper a m }

-- what a task has begun since a frame began is taken out
pub since_child : (a : List ℕ) (m n : ℕ) → n < m → since a m (a ++ n ∷ []) ≡ true
since_child [] m n e = ltn_yes n m e
since_child (i ∷ a) m n e = subst (λ b. cond b (since a m (a ++ n ∷ [])) false ≡ true) (sym (eqn_same i)) (since_child a m n e)

starts_closed : (a x : List ℕ) (n : ℕ) → starts a x ≡ true → starts a (x ++ n ∷ []) ≡ true
starts_closed [] x n e = refl
starts_closed (i ∷ a) [] n e = no_both (sym e)
starts_closed (i ∷ a) (j ∷ x) n e =
    cond_both (eqn i j) (starts a x) false (λ b. b ≡ true → cond (eqn i j) (starts a (x ++ n ∷ [])) false ≡ true) (λ same h. subst (λ b.
    cond b (starts a (x ++ n ∷ [])) false ≡ true) (sym same) (starts_closed a x n h)) (λ other h. no_both (sym h)) e

starts_deeper : (a : List ℕ) (n : ℕ) (x : List ℕ) → starts (a ++ n ∷ []) x ≡ true → Beneath a x
starts_deeper [] n [] e = no_both (sym e)
starts_deeper [] n (k ∷ x) e = record { next = k; rest = x; goes_on = refl }
starts_deeper (i ∷ a) n [] e = no_both (sym e)
starts_deeper (i ∷ a) n (j ∷ x) e =
    cond_both (eqn i j) (starts (a ++ n ∷ []) x) false (λ b. b ≡ true → Beneath (i ∷ a) (j ∷ x)) (λ same h. onwards (eqn_is i j same)
    (starts_deeper a n x h)) (λ other h. no_both (sym h)) e

arms_closed : (a : List ℕ) (gs : List Part) (x : List ℕ) (n : ℕ) → beneath_arms a gs x ≡ true → beneath_arms a gs (x ++ n ∷ []) ≡ true
arms_closed a [] x n e = no_both (sym e)
arms_closed a (did v ∷ gs) x n e = arms_closed a gs x n e
arms_closed a (runs m ∷ gs) x n e =
    cond_both (starts (a ++ m ∷ []) x) true (beneath_arms a gs x) (λ b. b ≡ true → cond (starts (a ++ m ∷ []) (x ++ n ∷ [])) true
    (beneath_arms a gs (x ++ n ∷ [])) ≡ true) (λ same h. subst (λ b. cond b true (beneath_arms a gs (x ++ n ∷ [])) ≡ true) (sym
    (starts_closed (a ++ m ∷ []) x n same)) refl) (λ other h. cond_both (starts (a ++ m ∷ []) (x ++ n ∷ [])) true (beneath_arms a gs (x ++ n
    ∷ [])) (λ b. b ≡ true) (λ e. refl) (λ e. arms_closed a gs x n h)) e

arms_deeper : (a : List ℕ) (gs : List Part) (x : List ℕ) → beneath_arms a gs x ≡ true → Beneath a x
arms_deeper a [] x e = no_both (sym e)
arms_deeper a (did v ∷ gs) x e = arms_deeper a gs x e
arms_deeper a (runs m ∷ gs) x e =
    cond_both (starts (a ++ m ∷ []) x) true (beneath_arms a gs x) (λ b. b ≡ true → Beneath a x) (λ same h. starts_deeper a m x same) (λ
    other h. arms_deeper a gs x h) e

pub arms_takes : (a : List ℕ) (gs : List Part) → Takes a (beneath_arms a gs)
arms_takes a gs = record { closed = arms_closed a gs; deeper = arms_deeper a gs }

-- fewer steps are left
pub rooted_less : {left less : ℕ} {ws : List Who} → less ≤ left → Rooted left ws → Rooted less ws
rooted_less h rooted_no = rooted_no
rooted_less h (rooted_root e p k r) = rooted_root e p (omega (arith, h, k)) (rooted_less h r)
rooted_less h (rooted_part e p k b r) = rooted_part e p (omega (arith, h, k)) b (rooted_less h r)

pub rooted_tail : {left : ℕ} {w : Who} {ws : List Who} → Rooted left (w ∷ ws) → Rooted left ws
rooted_tail (rooted_root e p k r) = r
rooted_tail (rooted_part e p k b r) = r

pub rooted_number : {left : ℕ} {w : Who} {ws : List Who} → Rooted left (w ∷ ws) → left ≤ w.number
rooted_number (rooted_root e p k r) = k
rooted_number (rooted_part e p k b r) = k

pub line_tail : {left : ℕ} (xs : List Task) {ws : List Who} → Rooted left (line xs ws) → Rooted left ws
line_tail [] r = r
line_tail (x ∷ xs) r = rooted_tail (line_tail xs r)

-- one list has the parents that another has
pub record More (left : ℕ) (ws vs : List Who) : Type 0 where
  pub rooted : Rooted left ws → Rooted left vs
  pub parents : (up : List ℕ) (n : ℕ) → HasParent up n ws → HasParent up n vs

one_more : {left : ℕ} (w : Who) {ws vs : List Who} → More left ws vs → More left (w ∷ ws) (w ∷ vs)
one_more {left = left} w {ws = ws} {vs = vs} m = record { rooted = rooted; parents = parents }
  where
    rooted : Rooted left (w ∷ ws) → Rooted left (w ∷ vs)
    rooted (rooted_root e p k r) = rooted_root e p k (m.rooted r)
    rooted (rooted_part e p k b r) = rooted_part e p k (m.parents w.up w.number b) (m.rooted r)

    parents : (up : List ℕ) (n : ℕ) → HasParent up n (w ∷ ws) → HasParent up n (w ∷ vs)
    parents up n (here e l) = here e l
    parents up n (later h) = later (m.parents up n h)

pub line_more : {left : ℕ} (xs : List Task) {ws vs : List Who} → More left ws vs → More left (line xs ws) (line xs vs)
line_more [] m = m
line_more (x ∷ xs) m = line_more xs (one_more x.thread.who m)

-- the list without those that are taken out; parents stay of those that are not
pub record Keeps (f : List ℕ → Bool) (left : ℕ) (ws vs : List Who) : Type 0 where
  pub rooted : Rooted left ws → Rooted left vs
  pub parents : (up : List ℕ) (n : ℕ) → f (up ++ n ∷ []) ≡ false → HasParent up n ws → HasParent up n vs

pub keeps_none : (f : List ℕ → Bool) (left : ℕ) (ws : List Who) → Keeps f left ws ws
keeps_none f left ws = record { rooted = λ r. r; parents = λ up n e h. h }

pub keeps_one : {f : List ℕ → Bool} {left : ℕ} (w : Who) {ws vs : List Who} → f w.path ≡ false → Keeps f left ws vs →
    Keeps f left (w ∷ ws) (w ∷ vs)
keeps_one {f = f} {left = left} w {ws = ws} {vs = vs} not m = record { rooted = rooted; parents = parents }
  where
    rooted : Rooted left (w ∷ ws) → Rooted left (w ∷ vs)
    rooted (rooted_root e p k r) = rooted_root e p k (m.rooted r)
    rooted (rooted_part e p k b r) =
        rooted_part e p k (m.parents w.up w.number (subst (λ x. f x ≡ false) p not) b) (m.rooted r)

    parents : (up : List ℕ) (n : ℕ) → f (up ++ n ∷ []) ≡ false → HasParent up n (w ∷ ws) → HasParent up n (w ∷ vs)
    parents up n e (here h l) = here h l
    parents up n e (later h) = later (m.parents up n e h)

pub keeps_off : {f : List ℕ → Bool} {left : ℕ} (w : Who) {ws vs : List Who} → ((n : ℕ) → n < w.number → f (w.path ++ n ∷ []) ≡ true) →
    Keeps f left ws vs → Keeps f left (w ∷ ws) vs
keeps_off {f = f} {left = left} w {ws = ws} {vs = vs} away m = record {
  rooted = λ r. m.rooted (rooted_tail r);
  parents = parents;
}
  where
    parents : (up : List ℕ) (n : ℕ) → f (up ++ n ∷ []) ≡ false → HasParent up n (w ∷ ws) → HasParent up n vs
    parents up n e (here h l) = no_both (sym (subst (λ up. f (up ++ n ∷ []) ≡ true) h (away n l)) ∙ e)
    parents up n e (later h) = m.parents up n e h

module _ {a : List ℕ} {f : List ℕ → Bool} (takes : Takes a f) (left : ℕ) where
  keeps_task : (t : Task) (ts : List Task) {ws vs : List Who} → Keeps f left ws vs →
      Keeps f left (t.thread.who ∷ ws) (cond (f t.thread.who.path) vs (t.thread.who ∷ vs))
  keeps_task t ts {ws = ws} {vs = vs} m =
      cond_both (f t.thread.who.path) vs (t.thread.who ∷ vs) (Keeps f left (t.thread.who ∷ ws)) (λ e. keeps_off t.thread.who (λ n l.
      takes.closed t.thread.who.path n e) m) (λ e. keeps_one t.thread.who e m)

  whos_cond : (b : Bool) (t : Task) (ts us : List Task) → whos us ≡ whos ts → whos (cond b us (t ∷ us)) ≡ cond b (whos ts) (t.thread.who
      ∷ whos ts)
  whos_cond true t ts us e = e
  whos_cond false t ts us e = ap (λ ws. t.thread.who ∷ ws) e

  pub keeps_whos : (ts : List Task) → Keeps f left (whos ts) (whos (without f ts))
  keeps_whos [] = keeps_none f left []
  keeps_whos (t ∷ ts) =
      subst (Keeps f left (t.thread.who ∷ whos ts)) (sym (whos_cond (f t.thread.who.path) t (without f ts) (without f ts) refl)) (keeps_task
      t ts (keeps_whos ts))

  line_cond : (b : Bool) (t : Task) (ts : List Task) (vs : List Who) →
      line (cond b ts (t ∷ ts)) vs ≡ line ts (cond b vs (t.thread.who ∷ vs))
  line_cond true t ts vs = refl
  line_cond false t ts vs = refl

  pub keeps_line : (xs : List Task) {ws vs : List Who} → Keeps f left ws vs → Keeps f left (line xs ws) (line (without f xs) vs)
  keeps_line [] m = m
  keeps_line (x ∷ xs) {ws = ws} {vs = vs} m =
      subst (Keeps f left (line xs (x.thread.who ∷ ws))) (sym (line_cond (f x.thread.who.path) x (without f xs) vs)) (keeps_line xs
      (keeps_task x xs m))

  -- those that enclose what is taken out stay
  pub stays : (x : List ℕ) → length x ≤ length a → f x ≡ false
  stays x l = by_answer (f x) refl
    where
      by_answer : (b : Bool) → f x ≡ b → b ≡ false
      by_answer false e = refl
      by_answer true e = elim (too_long (length x) (length a) l (longer (takes.deeper x e))) [ ]
        where
          too_long : (i j : ℕ) → i ≤ j → j < i → ⊥
          too_long i j l k = omega (arith, l, k)

  pub keeps_chain : (w : Who) (us : List Up) {ws vs : List Who} → length w.path ≤ length a → Follow w us → Keeps f left ws vs →
      Keeps f left (chain us ++ ws) (chain us ++ vs)
  keeps_chain w [] l e m = m
  keeps_chain w (begins y k p gs number ls ∷ us) l e m =
      keeps_one y.who (stays y.who.path (shorter _ _ _ l (longer e.1))) (keeps_chain y.who us (shorter _ _ _ l (longer e.1)) e.2 m)
    where
      shorter : (i j k : ℕ) → j ≤ k → i < j → i ≤ k
      shorter i j k l e = omega (arith, l, e)
  keeps_chain w (branching y ∷ us) l e m =
      keeps_one y.who (stays y.who.path (shorter _ _ _ l (longer e.1))) (keeps_chain y.who us (shorter _ _ _ l (longer e.1)) e.2 m)
    where
      shorter : (i j k : ℕ) → j ≤ k → i < j → i ≤ k
      shorter i j k l e = omega (arith, l, e)
  keeps_chain w (spawning y entry ps qs ∷ us) l e m = m
  keeps_chain w (clearing after ts ∷ us) l e m = m
