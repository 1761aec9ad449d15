-- To a task's parent, and to the task that a wait belongs to.
use Rattle.std.proofs.Common.{◌≡◌, ℕ, ◌<◌, Bool, true, false, cond, List, [], ◌∷◌, ◌++◌, map, refl, sym, ap, subst, ◌∙◌, append_assoc}
use Rattle.std.proofs.Common.{arith}
use Rattle.std.proofs.lemmas.List.{append-nil}
use Rattle.task_tree.specs.Tasks.{Task}
use Rattle.verse_value.specs.Val.{Val}
use Rattle.verse_meaning_state.specs.State.{State}
use Rattle.verse_meaning_state.specs.Waits.{Wait, eqn, has}
use Rattle.verse_code_machine.specs.Tasks as m
use Rattle.verse_code_machine.specs.Tasks.{Rest, asleep, group, Trees, world, Step, waits_with, waits_of, tree_waits, same_path, onto}
use Rattle.verse_code_machine.specs.Tasks.{among}
use Rattle.verse_code_machine.specs.Ends.{resumes, joined, climbs, is_asleep, woken, woken_in}
use Rattle.vm_tasks_laws.specs.Slots.{Slot, Entry, slept, path_of, no_parent, under, number_of}
use Rattle.vm_tasks_laws.specs.Roses.{Rose, empty, node, pre, post, IsOne, pre_all, Good}
use Rattle.vm_tasks_laws.specs.Standing.{onto_entries, Shown, none_shown, empty_shown, tree_shown}
use Rattle.vm_tasks_laws.specs.Together.{passed}
use Rattle.vm_tasks_laws.proofs.Lists.{Each}
use Rattle.vm_tasks_laws.proofs.Holes.{Hole, top, beneath, behind, fill, front, back, before, after, parent_at, most_at, GoodHole, good_in}
use Rattle.vm_tasks_laws.proofs.Holes.{good_out, good_weaker}
use Rattle.vm_tasks_laws.proofs.Spots.{join, post_join, pre_split, Spot, fronts, backs}
use Rattle.vm_tasks_laws.proofs.Changes.{Tops}

pub onto_passed : (ys xs : List m.Task) (es : List Entry) → onto_entries (passed ys xs) es ≡ onto_entries xs (map slept ys ++ es)
onto_passed [] xs es = refl
onto_passed (y ∷ ys) xs es = onto_passed ys (y ∷ xs) es

pub onto_slept : (xs ys : List m.Task) → map slept (onto xs ys) ≡ onto_entries xs (map slept ys)
onto_slept [] ys = refl
onto_slept (x ∷ xs) ys = onto_slept xs (x ∷ ys)

-- a list of suspended tasks, cut at an entry
pub record SleptCut (ts : List m.Task) (a : List Entry) (e : Entry) (b : List Entry) : Type 0 where
  pub earlier : List m.Task
  pub it : m.Task
  pub later : List m.Task
  pub is : ts ≡ earlier ++ it ∷ later
  pub left : map slept earlier ≡ a
  pub entry : slept it ≡ e
  pub right : map slept later ≡ b

pub slept_cut : (ts : List m.Task) (a : List Entry) (e : Entry) (b : List Entry) → map slept ts ≡ a ++ e ∷ b → SleptCut ts a e b
slept_cut [] [] e b p = absurd (cc)
slept_cut [] (x ∷ a) e b p = absurd (cc)
slept_cut (t ∷ ts) [] e b p = record { earlier = []; it = t; later = ts; is = refl; left = refl; entry = cc; right = cc }
slept_cut (t ∷ ts) (x ∷ a) e b p =
    let same : slept t ≡ x = cc in let tails : map slept ts ≡ a ++ e ∷ b = cc in
    let r = slept_cut ts a e b tails in
    record {
      earlier = t ∷ r.earlier;
      it = r.it;
      later = r.later;
      is = ap (λ w. t ∷ w) r.is;
      left =
          ap (λ w. slept t ∷ w) r.left ∙ ap (λ z. z ∷ a) same;
      entry = r.entry;
      right = r.right;
    }

pub climbs_to : (up : List ℕ) (n : ℕ) (v : Val) (xs earlier : List m.Task) (y : m.Task) (later : List m.Task) (trees : Trees) (s : State) →
    Each (λ x. same_path up (path_of x) ≡ false) (map slept earlier) → same_path up y.thread.who.path ≡ true →
    climbs up n v xs (earlier ++ y ∷ later) trees s ≡ joined n v y.rest y (passed earlier xs) later trees s
climbs_to up n v xs [] y later trees s h k =
    ap (λ b. cond b (joined n v y.rest y xs later trees s) (climbs up n v (y ∷ xs) later trees s)) k
climbs_to up n v xs (x ∷ earlier) y later trees s h k =
    ap (λ b. cond b (joined n v x.rest x xs (earlier ++ y ∷ later) trees s) (climbs up n v (x ∷ xs) (earlier ++ y ∷ later) trees s)) h.0 ∙
    climbs_to up n v (x ∷ xs) earlier y later trees s h.1 k

-- the wait that is found first
pub record Woken (n : ℕ) (v : Val) (first : List (List m.Task)) (tss : List (List m.Task)) (s : State) : Type 0 where
  pub before : List (List m.Task)
  pub behind : List (List m.Task)
  pub earlier : List m.Task
  pub it : m.Task
  pub later : List m.Task
  pub wait : Wait
  pub is : tss ≡ before ++ (earlier ++ it ∷ later) ∷ behind
  pub asleep_is : it.rest ≡ asleep wait
  pub number : eqn n wait.number ≡ true
  pub goes_on : woken_in n v first tss s ≡ resumes it.thread v
      (world (passed earlier []) later [] (record { before = first ++ before; behind = behind })) s

record WokenHere (n : ℕ) (v : Val) (xs ts : List m.Task) (trees : Trees) (s : State) : Type 0 where
  pub earlier : List m.Task
  pub it : m.Task
  pub later : List m.Task
  pub wait : Wait
  pub is : ts ≡ earlier ++ it ∷ later
  pub asleep_is : it.rest ≡ asleep wait
  pub number : eqn n wait.number ≡ true
  pub goes_on : woken n v xs ts trees s ≡ resumes it.thread v (world (passed earlier xs) later [] trees) s

woken_here : (n : ℕ) (v : Val) (xs ts : List m.Task) (trees : Trees) (s : State) → has n (waits_of ts) ≡ true → WokenHere n v xs ts trees s
woken_here n v xs [] trees s h = absurd (cc)
woken_here n v xs (t ∷ ts) trees s h = go t.rest refl (λ k. woken_here n v (t ∷ xs) ts trees s k)
  where
    next : cond (is_asleep n t.rest) true false ≡ false → WokenHere n v (t ∷ xs) ts trees s → WokenHere n v xs (t ∷ ts) trees s
    next other r = record {
      earlier = t ∷ r.earlier;
      it = r.it;
      later = r.later;
      wait = r.wait;
      is = ap (λ w. t ∷ w) r.is;
      asleep_is = r.asleep_is;
      number = r.number;
      goes_on = pass (is_asleep n t.rest) other ∙ r.goes_on;
    }
      where
        pass : (b : Bool) → cond b true false ≡ false →
            cond b (resumes t.thread v (world xs ts [] trees) s) (woken n v (t ∷ xs) ts trees s) ≡ woken n v (t ∷ xs) ts trees s
        pass true e = absurd (cc)
        pass false e = refl

    go : (w : Rest) → t.rest ≡ w → (has n (waits_of ts) ≡ true → WokenHere n v (t ∷ xs) ts trees s) → WokenHere n v xs (t ∷ ts) trees s
    go (group k p gs) e more = next (ap (λ w. cond (is_asleep n w) true false) e)
        (more (ap (λ w. has n (waits_with w (waits_of ts))) (sym e) ∙ h))
    go (asleep w) e more = at (eqn n w.number) refl
      where
        at : (b : Bool) → eqn n w.number ≡ b → WokenHere n v xs (t ∷ ts) trees s
        at true k = record {
          earlier = [];
          it = t;
          later = ts;
          wait = w;
          is = refl;
          asleep_is = e;
          number = k;
          goes_on = ap (λ b. cond b (resumes t.thread v (world xs ts [] trees) s) (woken n v (t ∷ xs) ts trees s))
              (ap (λ r. is_asleep n r) e ∙ k);
        }
        at false k =
            next (ap (λ b. cond b true false) (ap (λ r. is_asleep n r) e ∙ k))
            (more (sym (ap (λ b. cond b true (has n (waits_of ts))) k) ∙ (ap (λ r. has n (waits_with r (waits_of ts))) (sym e) ∙ h)))

pub has_append : (n : ℕ) (a b : List Wait) → has n (a ++ b) ≡ cond (has n a) true (has n b)
has_append n [] b = refl
has_append n (w ∷ a) b = go (eqn n w.number) (has_append n a b)
  where
    go : (c : Bool) → has n (a ++ b) ≡ cond (has n a) true (has n b) →
        cond c true (has n (a ++ b)) ≡ cond (cond c true (has n a)) true (has n b)
    go true e = refl
    go false e = e

pub woken_found : (n : ℕ) (v : Val) (first tss : List (List m.Task)) (s : State) → has n (tree_waits tss) ≡ true → Woken n v first tss s
woken_found n v first [] s h = absurd (cc)
woken_found n v first (ts ∷ tss) s h = go (has n (waits_of ts)) refl (λ k. woken_found n v (first ++ ts ∷ []) tss s k)
  where
    go : (b : Bool) → has n (waits_of ts) ≡ b → (has n (tree_waits tss) ≡ true → Woken n v (first ++ ts ∷ []) tss s) →
        Woken n v first (ts ∷ tss) s
    go true e more =
        let r = woken_here n v [] ts (record { before = first; behind = tss }) s e in
        record {
          before = [];
          behind = tss;
          earlier = r.earlier;
          it = r.it;
          later = r.later;
          wait = r.wait;
          is = ap (λ w. w ∷ tss) r.is;
          asleep_is = r.asleep_is;
          number = r.number;
          goes_on = ap (λ b. cond b (woken n v [] ts (record { before = first; behind = tss }) s) (woken_in n v (first ++ ts ∷ []) tss s))
              e ∙ (r.goes_on ∙
              ap (λ w. resumes r.it.thread v (world (passed r.earlier []) r.later [] (record { before = w; behind = tss })) s)
              (sym (append-nil first)));
        }
    go false e more =
        let r = more (sym (ap (λ b. cond b true (has n (tree_waits tss))) e) ∙ (sym (has_append n (waits_of ts) (tree_waits tss)) ∙ h)) in
        record {
          before = ts ∷ r.before;
          behind = r.behind;
          earlier = r.earlier;
          it = r.it;
          later = r.later;
          wait = r.wait;
          is = ap (λ w. ts ∷ w) r.is;
          asleep_is = r.asleep_is;
          number = r.number;
          goes_on = ap (λ b. cond b (woken n v [] ts (record { before = first; behind = tss }) s) (woken_in n v (first ++ ts ∷ []) tss s))
              e ∙ (r.goes_on ∙
              ap (λ w. resumes r.it.thread v (world (passed r.earlier []) r.later [] (record { before = w; behind = r.behind })) s)
              (append_assoc first (ts ∷ []) r.before));
        }

module _ {T : Type 0} where
  pub shown_append : {ds cs : List (Rose T)} {xs ys : List (List Entry)} → Shown ds xs → Shown cs ys → Shown (ds ++ cs) (xs ++ ys)
  shown_append none_shown t = t
  shown_append (empty_shown s) t = empty_shown (shown_append s t)
  shown_append (tree_shown p s) t = tree_shown p (shown_append s t)

  pub record ShownCut (cs : List (Rose T)) (xs ys : List (List Entry)) : Type 0 where
    pub first : List (Rose T)
    pub last : List (Rose T)
    pub is : cs ≡ first ++ last
    pub left : Shown first xs
    pub right : Shown last ys

  pub shown_cut : (cs : List (Rose T)) (xs ys : List (List Entry)) → Shown cs (xs ++ ys) → ShownCut cs xs ys
  shown_cut cs [] ys s = record { first = []; last = cs; is = refl; left = none_shown; right = s }
  shown_cut cs (es ∷ xs) ys (empty_shown s) = let r = shown_cut cs xs ys s in
      record { first = r.first; last = r.last; is = r.is; left = empty_shown r.left; right = r.right }
  shown_cut cs (es ∷ xs) ys (tree_shown {c = c} {cs = ds} p s) =
      let r = shown_cut ds xs ys s in
      record { first = c ∷ r.first; last = r.last; is = ap (λ w. c ∷ w) r.is; left = tree_shown p r.left; right = r.right }

  pub join_assoc : (a b c : Rose T) → join (join a b) c ≡ join a (join b c)
  join_assoc empty b c = refl
  join_assoc (node t e k r) b c = ap (λ w. node t e k w) (join_assoc r b c)

  -- the siblings before a place, by their numbers
  abbrev pub AllSiblings : (T → Slot) → (ℕ → Type 0) → Hole T → Type 0
  AllSiblings slot P top = Unit {0}
  AllSiblings slot P (beneath h t e r) = Unit {0}
  AllSiblings slot P (behind h t e k) = P (number_of slot t) × AllSiblings slot P h

  pub tops_join : (slot : T → Slot) (P : ℕ → Type 0) (a b : Rose T) → Tops slot P a → Tops slot P b → Tops slot P (join a b)
  tops_join slot P empty b h k = k
  tops_join slot P (node t e l r) b h k = (h.0, tops_join slot P r b h.1 k)

  abbrev pub siblings_of : Hole T → Rose T
  siblings_of top = empty
  siblings_of (beneath h t e r) = empty
  siblings_of (behind h t e k) = join (siblings_of h) (node t e k empty)

  pub siblings_tops : (slot : T → Slot) (P : ℕ → Type 0) (h : Hole T) → AllSiblings slot P h → Tops slot P (siblings_of h)
  siblings_tops slot P top a = tt
  siblings_tops slot P (beneath h t e r) a = tt
  siblings_tops slot P (behind h t e k) a = tops_join slot P (siblings_of h) (node t e k empty) (siblings_tops slot P h a.1) (a.0, tt)

  -- where the task above a place stands
  pub record Over (h : Hole T) (t : Task T) (e : Entry) : Type 0 where
    pub hole : Hole T
    pub siblings : Rose T
    pub rest : Rose T
    pub filled : (x : Rose T) → fill h x ≡ fill hole (node t e (join siblings x) rest)
    pub left : before h ≡ before hole ++ post siblings
    pub right : after h ≡ e ∷ post rest ++ after hole
    pub siblings_are : siblings ≡ siblings_of h

  pub over : (h : Hole T) (t : Task T) (e : Entry) → parent_at h ≡ under t e → Over h t e
  over top t e p = absurd (cc)
  over (beneath h u d r) t e p =
      let same : u ≡ t = cc in let too : d ≡ e = cc in
      record {
        hole = h;
        siblings = empty;
        rest = r;
        filled = λ x. ap (λ w. fill h (node w d x r)) same ∙ ap (λ w. fill h (node t w x r)) too;
        left = sym (append-nil (before h));
        right = ap (λ w. w ∷ post r ++ after h) too;
        siblings_are = refl;
      }
  over (behind h u d k) t e p =
      let o = over h t e p in
      record {
        hole = o.hole;
        siblings = join o.siblings (node u d k empty);
        rest = o.rest;
        filled = λ x. o.filled (node u d k x) ∙
            ap (λ w. fill o.hole (node t e w o.rest)) (sym (join_assoc o.siblings (node u d k empty) x));
        left = ap (λ w. w ++ (post k ++ d ∷ [])) o.left ∙
            (append_assoc (before o.hole) (post o.siblings) (post k ++ d ∷ []) ∙
            ap (λ w. before o.hole ++ w) (sym (post_join o.siblings (node u d k empty))));
        right = o.right;
        siblings_are = ap (λ w. join w (node u d k empty)) o.siblings_are;
      }

module _ {T : Type 0} (slot : T → Slot) where
  pub siblings_above : (most n : ℕ) (h : Hole T) → GoodHole slot most h → n < most_at slot most h → AllSiblings slot (λ c. n < c) h
  siblings_above most n top g l = tt
  siblings_above most n (beneath h t e r) g l = tt
  siblings_above most n (behind h t e k) g l = (l, siblings_above most n h g.0 (omega (arith, l, g.2)))

  -- what is right behind a place is its parent, or a later sibling
  pub after_parent : (h : Hole T) (d : Entry) (b : List Entry) → d ∷ b ≡ after h → (t : Task T) × (parent_at h ≡ under t d)
  after_parent top d b p = absurd (cc)
  after_parent (beneath h t e r) d b p = let same : e ≡ d = cc in (t, ap (λ z. under t z) same)
  after_parent (behind h t e k) d b p = after_parent h d b p

  -- a task without children has gone, and its parent is looked at
  abbrev pub above_gone : {tasks : List (Task T)} {others : List (Rose T)} {a : List Entry} {e : Entry} {b : List Entry}
      (s : Spot slot tasks others a e b) (t : Task T) (d : Entry) (new : List (Task T)) →
      s.kids ≡ empty → parent_at s.hole ≡ under t d → IsOne (fill s.hole s.rest) → new ≡ fronts slot s ++ (pre s.rest ++ backs slot s) →
      (o : Over s.hole t d) →
      Spot slot new others (a ++ post s.rest) d (post o.rest ++ after o.hole)
  above_gone {a = a} {e = e} s t d new none up one is o =
      let x : Rose T = node t d (join o.siblings s.rest) o.rest in
      let filled = o.filled s.rest in
      let good = good_out slot s.most s.hole s.rest s.around
      (good_weaker slot (parent_at s.hole) (number_of slot s.task) (most_at slot s.most s.hole) s.rest
      (omega (arith, s.good.1)) s.good.3) in
      let inside = good_in slot s.most o.hole x (subst (λ c. Good slot no_parent s.most c) filled good) in
      record {
        most = s.most;
        hole = o.hole;
        task = t;
        kids = join o.siblings s.rest;
        rest = o.rest;
        first = s.first;
        last = s.last;
        one = subst (λ c. IsOne c) filled one;
        around = inside.0;
        good = inside.1;
        good_others = s.good_others;
        dealt = s.dealt;
        left = ap (λ w. w ++ post s.rest) (s.left ∙ (ap (λ k. before s.hole ++ post k) none ∙ (append-nil (before s.hole) ∙ o.left))) ∙
            (append_assoc (before o.hole) (post o.siblings) (post s.rest) ∙
            ap (λ w. before o.hole ++ w) (sym (post_join o.siblings s.rest)));
        right = refl;
        was = is ∙ (sym (pre_split s.first s.last s.hole s.rest) ∙
            (ap (λ c. pre_all (s.first ++ c ∷ s.last)) filled ∙ (pre_split s.first s.last o.hole x ∙
            ap (λ w. (pre_all s.first ++ front o.hole) ++ w)
            (append_assoc (t ∷ pre (join o.siblings s.rest)) (pre o.rest) (back o.hole ++ pre_all s.last)))));
      }
