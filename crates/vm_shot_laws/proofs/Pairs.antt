-- Tasks of a tree beside those that the definition has for them, in both orders.
use Rattle.std.proofs.Common.{◌≡◌, List, [], ◌∷◌, ◌++◌, map, refl, sym, ap, subst, ◌∙◌}
use Rattle.std.proofs.Common.{append_assoc}
use Rattle.task_tree.specs.Tasks.{Task}
use Rattle.verse_code_machine.specs.Tasks as m
use Rattle.verse_code_machine.specs.Runs.{Forest}
use Rattle.vm_tasks_laws.specs.Slots.{Entry, slept}
use Rattle.vm_tasks_laws.specs.Roses.{Rose, empty, node, post}
use Rattle.vm_tasks_laws.specs.Standing.{Deal, none_dealt, one_dealt, trees_entries, Shown, none_shown, empty_shown}
use Rattle.vm_tasks_laws.specs.Standing.{tree_shown}
use Rattle.vm_tasks_laws.specs.Told.{AllPairs}
use Rattle.run_save_shots.specs.Lists.{Reordered, no_elements, one_more}

-- an element of one list and that of the other at the same place
pub data Both {A B : Type 0} (x : A) (y : B) : List A → List B → Type 0 where
  first_both : {xs : List A} {ys : List B} → Both x y (x ∷ xs) (y ∷ ys)
  later_both : {u : A} {v : B} {xs : List A} {ys : List B} → Both x y xs ys → Both x y (u ∷ xs) (v ∷ ys)

module _ {A B : Type 0} where
  pub pairs_append : (P : A → B → Type 0) (us cs : List A) (bs ds : List B) → AllPairs P us bs → AllPairs P cs ds →
      AllPairs P (us ++ cs) (bs ++ ds)
  pairs_append P [] cs [] ds p q = q
  pairs_append P [] cs (b ∷ bs) ds p q = absurd p
  pairs_append P (a ∷ us) cs [] ds p q = absurd p
  pairs_append P (a ∷ us) cs (b ∷ bs) ds p q = (p.0, pairs_append P us cs bs ds p.1 q)

  pub both_front : (x : A) (y : B) (us cs : List A) (bs ds : List B) → Both x y us bs → Both x y (us ++ cs) (bs ++ ds)
  both_front x y us cs bs ds first_both = first_both
  both_front x y us cs bs ds (later_both {xs = xs} {ys = ys} h) = later_both (both_front x y xs cs ys ds h)

  pub both_back : (P : A → B → Type 0) (x : A) (y : B) (us cs : List A) (bs ds : List B) → AllPairs P us bs → Both x y cs ds →
      Both x y (us ++ cs) (bs ++ ds)
  both_back P x y [] cs [] ds p h = h
  both_back P x y [] cs (b ∷ bs) ds p h = absurd p
  both_back P x y (a ∷ us) cs [] ds p h = absurd p
  both_back P x y (a ∷ us) cs (b ∷ bs) ds p h = later_both (both_back P x y us cs bs ds p.1 h)

  pub pair_of : (P : A → B → Type 0) (x : A) (y : B) (us : List A) (bs : List B) → AllPairs P us bs → Both x y us bs → P x y
  pair_of P x y us bs p first_both = p.0
  pair_of P x y us bs p (later_both {xs = xs} {ys = ys} h) = pair_of P x y xs ys p.1 h

-- ---- tasks of the definition for those of a rose, behind what they enclose and before it

pub data Told {T : Type 0} : Rose T → List m.Task → List m.Task → Type 0 where
  none_told : Told empty [] []
  one_told : {t : Task T} {y : m.Task} {k r : Rose T} {ks kp rs rp : List m.Task} → Told k ks kp → Told r rs rp →
      Told (node t (slept y) k r) (ks ++ y ∷ rs) (y ∷ kp ++ rp)

heads : {A : Type 0} {a b : A} {us bs : List A} → a ∷ us ≡ b ∷ bs → a ≡ b
heads e = cc

tails : {A : Type 0} {a b : A} {us bs : List A} → a ∷ us ≡ b ∷ bs → us ≡ bs
tails e = cc

no_deal : {A : Type 0} (zs : List A) → Deal [] zs → zs ≡ []
no_deal zs none_dealt = refl

-- where the first one stands
record Undealt {A : Type 0} (x : A) (xs zs : List A) : Type 0 where
  front : List A
  back : List A
  is : zs ≡ front ++ x ∷ back
  others : Deal xs (front ++ back)

undealt : {A : Type 0} (x : A) (xs zs : List A) → Deal (x ∷ xs) zs → Undealt x xs zs
undealt x xs zs (one_dealt front back p d) = record { front = front; back = back; is = p; others = d }

-- a list of tasks in two
record Parted (es fs : List Entry) (ts : List m.Task) : Type 0 where
  left : List m.Task
  right : List m.Task
  is : ts ≡ left ++ right
  left_is : es ≡ map slept left
  right_is : fs ≡ map slept right

parted : (es fs : List Entry) (ts : List m.Task) → es ++ fs ≡ map slept ts → Parted es fs ts
parted [] fs ts e = record { left = []; right = ts; is = refl; left_is = refl; right_is = e }
parted (x ∷ es) fs [] e = absurd (cc)
parted (x ∷ es) fs (t ∷ ts) e =
    let f : x ∷ (es ++ fs) ≡ slept t ∷ map slept ts = e in
    let r = parted es fs ts (tails f) in
    record {
      left = t ∷ r.left;
      right = r.right;
      is = ap (λ w. t ∷ w) r.is;
      left_is = ap (λ w. w ∷ es) (heads f) ∙ ap (λ w. slept t ∷ w) r.left_is;
      right_is = r.right_is;
    }

-- a task, and those behind it
record Headed (e : Entry) (fs : List Entry) (ts : List m.Task) : Type 0 where
  task : m.Task
  rest : List m.Task
  is : ts ≡ task ∷ rest
  first : e ≡ slept task
  others : fs ≡ map slept rest

headed : (e : Entry) (fs : List Entry) (ts : List m.Task) → e ∷ fs ≡ map slept ts → Headed e fs ts
headed e fs [] h = absurd (cc)
headed e fs (t ∷ ts) h =
    let g : e ∷ fs ≡ slept t ∷ map slept ts = h in
    record { task = t; rest = ts; is = refl; first = heads g; others = tails g }

module _ {T : Type 0} where
  pub told : (c : Rose T) (ts : List m.Task) → post c ≡ map slept ts → (ps : List m.Task) × Told c ts ps
  told empty [] e = ([], none_told)
  told empty (t ∷ ts) e = absurd (cc)
  told (node t x k r) ts e =
      let p = parted (post k) (x ∷ post r) ts e in
      let h = headed x (post r) p.right p.right_is in
      let a = told k p.left p.left_is in
      let b = told r h.rest h.others in (
        h.task ∷ a.0 ++ b.0,
        subst (λ w. Told (node t x k r) w (h.task ∷ a.0 ++ b.0)) (sym (p.is ∙ ap (λ w. p.left ++ w) h.is)) (subst (λ w. Told (node t
            w k r) (p.left ++ h.task ∷ h.rest) (h.task ∷ a.0 ++ b.0)) (sym h.first) (one_told a.1 b.1)),
      )

  -- trees, of which some have no tasks
  pub data Arranged : List (Rose T) → Forest → List m.Task → Type 0 where
    none_arranged : Arranged [] [] []
    empty_arranged : {cs : List (Rose T)} {tss : Forest} {ps : List m.Task} → Arranged cs tss ps → Arranged cs ([] ∷ tss) ps
    tree_arranged : {c : Rose T} {cs : List (Rose T)} {ts qs : List m.Task} {tss : Forest} {ps : List m.Task} → Told c ts qs →
        Arranged cs tss ps → Arranged (c ∷ cs) (ts ∷ tss) (qs ++ ps)

  pub arranged : (cs : List (Rose T)) (tss : Forest) → Shown cs (trees_entries tss) → (ps : List m.Task) × Arranged cs tss ps
  arranged cs tss s = go cs tss (trees_entries tss) refl s
    where
      no_task : (ts : List m.Task) → [] ≡ map slept ts → ts ≡ []
      no_task [] e = refl
      no_task (t ∷ ts) e = absurd (cc)

      go : (cs : List (Rose T)) (tss : Forest) (ess : List (List Entry)) → ess ≡ trees_entries tss → Shown cs ess →
          (ps : List m.Task) × Arranged cs tss ps
      go cs [] ess e none_shown = ([], none_arranged)
      go cs (ts ∷ tss) ess e none_shown = absurd (cc)
      go cs [] ess e (empty_shown s) = absurd (cc)
      go cs (ts ∷ tss) ess e (empty_shown {ess = fss} s) =
          let f : [] ∷ fss ≡ map slept ts ∷ trees_entries tss = e in
          let r = go cs tss fss (tails f) s in
          (r.0, subst (λ w. Arranged cs (w ∷ tss) r.0) (sym (no_task ts (heads f))) (empty_arranged r.1))
      go cs [] ess e (tree_shown p s) = absurd (cc)
      go cs (ts ∷ tss) ess e (tree_shown {c = c} {cs = ds} {es = es} {ess = fss} p s) =
          let f : es ∷ fss ≡ map slept ts ∷ trees_entries tss = e in
          let r = go ds tss fss (tails f) s in
          let a = told c ts (p ∙ heads f) in
          (a.0 ++ r.0, tree_arranged a.1 r.1)

  -- between the trees
  record Between (front back : List (Rose T)) (tss : Forest) (ps : List m.Task) : Type 0 where
    before : Forest
    behind : Forest
    first : List m.Task
    last : List m.Task
    is : tss ≡ before ++ behind
    walk_is : ps ≡ first ++ last
    left : Arranged front before first
    right : Arranged back behind last

  between : (front back all : List (Rose T)) (tss : Forest) (ps : List m.Task) → all ≡ front ++ back → Arranged all tss ps →
      Between front back tss ps
  between [] back all tss ps e a = record {
    before = [];
    behind = tss;
    first = [];
    last = ps;
    is = refl;
    walk_is = refl;
    left = none_arranged;
    right = subst (λ w. Arranged w tss ps) e a;
  }
  between (d ∷ front) back all tss ps e none_arranged = absurd (cc)
  between (d ∷ front) back all tss ps e (empty_arranged {tss = uss} a) =
      let r = between (d ∷ front) back all uss ps e a in
      record {
        before = [] ∷ r.before;
        behind = r.behind;
        first = r.first;
        last = r.last;
        is = ap (λ w. [] ∷ w) r.is;
        walk_is = r.walk_is;
        left = empty_arranged r.left;
        right = r.right;
      }
  between (d ∷ front) back all tss ps e (tree_arranged {c = c} {cs = cs} {ts = ts} {qs = qs} {tss = uss} {ps = rs} t a) =
      let f : c ∷ cs ≡ d ∷ (front ++ back) = e in
      let r = between front back cs uss rs (tails f) a in
      record {
        before = ts ∷ r.before;
        behind = r.behind;
        first = qs ++ r.first;
        last = r.last;
        is = ap (λ w. ts ∷ w) r.is;
        walk_is = ap (λ w. qs ++ w) r.walk_is ∙ sym (append_assoc qs r.first r.last);
        left = subst (λ w. Arranged (w ∷ front) (ts ∷ r.before) (qs ++ r.first)) (heads f) (tree_arranged t r.left);
        right = r.right;
      }

  arranged_append : (a b : List (Rose T)) (tss uss : Forest) (ps qs : List m.Task) → Arranged a tss ps → Arranged b uss qs →
      Arranged (a ++ b) (tss ++ uss) (ps ++ qs)
  arranged_append a b tss uss ps qs none_arranged h = h
  arranged_append a b tss uss ps qs (empty_arranged {tss = vss} d) h = empty_arranged (arranged_append a b vss uss ps qs d h)
  arranged_append a b tss uss ps qs (tree_arranged {c = c} {cs = cs} {ts = ts} {qs = rs} {tss = vss} {ps = os} t d) h =
      subst (λ w. Arranged (c ∷ (cs ++ b)) (ts ∷ (vss ++ uss)) w) (sym (append_assoc rs os qs)) (tree_arranged t (arranged_append cs b vss
      uss os qs d h))

  -- the trees in the order of the roots
  pub record InOrder (roots : List (Rose T)) (tss : Forest) : Type 0 where
    pub ordered : Forest
    pub tasks : List m.Task
    pub reordered : Reordered tss ordered
    pub are : Arranged roots ordered tasks

  pub in_order : (cs roots : List (Rose T)) (tss : Forest) (ps : List m.Task) → Deal cs roots → Arranged cs tss ps → InOrder roots tss
  in_order cs roots tss ps d none_arranged = record {
    ordered = [];
    tasks = [];
    reordered = no_elements;
    are = subst (λ w. Arranged w [] []) (sym (no_deal roots d)) none_arranged;
  }
  in_order cs roots tss ps d (empty_arranged {tss = uss} a) =
      let r = in_order cs roots uss ps d a in
      record {
        ordered = [] ∷ r.ordered;
        tasks = r.tasks;
        reordered = one_more [] r.ordered refl r.reordered;
        are = empty_arranged r.are;
      }
  in_order cs roots tss ps d (tree_arranged {c = c} {cs = ds} {ts = ts} {qs = qs} {tss = uss} {ps = rs} t a) =
      let u = undealt c ds roots d in
      let r = in_order ds (u.front ++ u.back) uss rs u.others a in
      let b = between u.front u.back (u.front ++ u.back) r.ordered r.tasks refl r.are in
      record {
        ordered = b.before ++ ts ∷ b.behind;
        tasks = b.first ++ (qs ++ b.last);
        reordered = one_more b.before b.behind refl (subst (λ w. Reordered uss w) b.is r.reordered);
        are = subst (λ w. Arranged w (b.before ++ ts ∷ b.behind) (b.first ++ (qs ++ b.last))) (sym u.is) (arranged_append u.front (c ∷
            u.back) b.before (ts ∷ b.behind) b.first (qs ++ b.last) b.left (tree_arranged t b.right));
      }
