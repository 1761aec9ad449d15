-- What a change of a tree of tasks does to what it stands for.
use Rattle.std.proofs.Common.{◌≡◌, ℕ, ◌+◌, ◌<◌, List, [], ◌∷◌, ◌++◌, Some, None, refl, sym, ap, subst, ◌∙◌, append_assoc, arith}
use Rattle.std.proofs.lemmas.List.{append-nil}
use Rattle.task_tree.specs.Tasks.{Task, with_item, without, youngest, HasNoChild}
use Rattle.task_tree.specs.Nested.{IsTree, Under}
use Rattle.task_tree.specs.Removing.{Added, EndsUnder, IsEnd}
use Rattle.task_tree.specs.Removing as r
use Rattle.task_tree.proofs.Standing.{changed_here, without_at, inner}
use Rattle.task_tree.proofs.Ending.{block_children}
use Rattle.task_tree.proofs.Under.{block_under, not_under}
use Rattle.vm_tasks_laws.specs.Slots.{Slot, Entry, path_of, who_of, named, Parent, no_parent, under, id_of, path_under, number_of, Armed}
use Rattle.vm_tasks_laws.specs.Slots.{Seen}
use Rattle.vm_tasks_laws.specs.Slots.{RoleFits, Shows}
use Rattle.vm_tasks_laws.specs.Roses.{Rose, empty, node, pre, post, IsOne, pre_all, Good, GoodTrees}
use Rattle.vm_tasks_laws.specs.Standing.{Deal, Planted}
use Rattle.vm_tasks_laws.proofs.Lists.{Each, each_parts}
use Rattle.vm_tasks_laws.proofs.Holes.{Hole, top, beneath, behind, fill, front, back, before, after, parent_at, most_at, good_weaker}
use Rattle.vm_tasks_laws.proofs.Trees.{pre_all_append, deal_first}
use Rattle.vm_tasks_laws.proofs.Spots.{join, pre_join, post_join, Spot, fronts, backs, refill, block, alone}

module _ {T : Type 0} where
  -- whether there is one task above all depends on what is at the place alone where that is the top
  pub same_one : (h : Hole T) (x y : Rose T) → (IsOne x → IsOne y) → (x ≡ empty → y ≡ empty) → IsOne (fill h x) → IsOne (fill h y)
  same_one top x y f g o = f o
  same_one (beneath h t e r) x y f g o = same_one h (node t e x r) (node t e y r) (only r) (λ p. absurd (cc)) o
    where
      only : (r : Rose T) → IsOne (node t e x r) → IsOne (node t e y r)
      only empty o = tt
      only (node u d k s) o = absurd o
  same_one (behind h t e k) x y f g o = same_one h (node t e k x) (node t e k y) (only x y g) (λ p. absurd (cc)) o
    where
      only : (x y : Rose T) → (x ≡ empty → y ≡ empty) → IsOne (node t e k x) → IsOne (node t e k y)
      only empty y g o = subst (λ z. IsOne (node t e k z)) (sym (g refl)) tt
      only (node u d l s) y g o = absurd o

  pub one_node : (h : Hole T) (t u : Task T) (e d : Entry) (k l r : Rose T) → IsOne (fill h (node t e k r)) → IsOne (fill h (node u d l r))
  one_node h t u e d k l r o = same_one h (node t e k r) (node u d l r) (only r) (λ p. absurd (cc)) o
    where
      only : (r : Rose T) → IsOne (node t e k r) → IsOne (node u d l r)
      only empty o = tt
      only (node v c m s) o = absurd o

  -- lists of which only one stretch has a property
  abbrev LastIs : (Task T → Type 0) → List (Task T) → Type 0
  LastIs P [] = Unit {0}
  LastIs P (x ∷ []) = P x
  LastIs P (x ∷ y ∷ ys) = LastIs P (y ∷ ys)

  last_is : (P : Task T → Type 0) (a : List (Task T)) (x : Task T) → P x → LastIs P (a ++ x ∷ [])
  last_is P [] x p = p
  last_is P (y ∷ []) x p = p
  last_is P (y ∷ z ∷ zs) x p = last_is P (z ∷ zs) x p

  stretch : (P : Task T → Type 0) (f b s k : List (Task T)) → LastIs P f → Each (λ x. P x → ⊥) b → Each P s → Each (λ x. P x → ⊥) k →
      f ++ b ≡ s ++ k → (f ≡ s) × (b ≡ k)
  stretch P [] b [] k l nb ps nk e = (refl, e)
  stretch P [] b (x ∷ s) k l nb ps nk e = absurd ((subst (λ w. Each (λ x. P x → ⊥) w) e nb).0 ps.0)
  stretch P (y ∷ []) b [] k l nb ps nk e = absurd ((subst (λ w. Each (λ x. P x → ⊥) w) (sym e) nk).0 l)
  stretch P (y ∷ z ∷ f) b [] k l nb ps nk e =
      let n : Each (λ x. P x → ⊥) (y ∷ ((z ∷ f) ++ b)) = subst (λ w. Each (λ x. P x → ⊥) w) (sym e) nk in
      absurd (never (z ∷ f) b l (λ p. absurd (cc)) n.1)
    where
      never : (f b : List (Task T)) → LastIs P f → (f ≡ [] → ⊥) → Each (λ x. P x → ⊥) (f ++ b) → ⊥
      never [] b l d n = d refl
      never (y ∷ []) b l d n = n.0 l
      never (y ∷ z ∷ f) b l d n = never (z ∷ f) b l (λ p. absurd (cc)) n.1
  stretch P (y ∷ []) b (x ∷ s) k l nb ps nk e =
      let same : y ≡ x = cc in let tails : b ≡ s ++ k = cc in
      let r = stretch P [] b s k tt nb ps.1 nk tails in
      (ap (λ w. w ∷ []) same ∙ ap (λ w. x ∷ w) r.0, r.1)
  stretch P (y ∷ z ∷ f) b (x ∷ s) k l nb ps nk e =
      let same : y ≡ x = cc in let tails : (z ∷ f) ++ b ≡ s ++ k = cc in
      let r = stretch P (z ∷ f) b s k l nb ps.1 nk tails in
      (ap (λ w. w ∷ z ∷ f) same ∙ ap (λ w. x ∷ w) r.0, r.1)

  pub stretch_behind : (P : Task T → Type 0) (f b a s k : List (Task T)) (x : Task T) → LastIs P f → Each (λ x. P x → ⊥) b →
      Each (λ x. P x → ⊥) a → Each P (x ∷ s) → Each (λ x. P x → ⊥) k →
      f ++ b ≡ a ++ (x ∷ s ++ k) → (f ≡ a ++ x ∷ s) × (b ≡ k)
  stretch_behind P f b [] s k x l nb na ps nk e = stretch P f b (x ∷ s) k l nb ps nk e
  stretch_behind P [] b (y ∷ a) s k x l nb na ps nk e =
      absurd ((each_parts (λ x. P x → ⊥) a (x ∷ s ++ k) ((subst (λ w. Each (λ x. P x → ⊥) w) e nb).1)).1.0 ps.0)
  stretch_behind P (z ∷ []) b (y ∷ a) s k x l nb na ps nk e = let same : z ≡ y = cc in absurd (na.0 (subst P same l))
  stretch_behind P (z ∷ u ∷ f) b (y ∷ a) s k x l nb na ps nk e =
      let same : z ≡ y = cc in let tails : (u ∷ f) ++ b ≡ a ++ (x ∷ s ++ k) = cc in
      let r = stretch_behind P (u ∷ f) b a s k x l nb na.1 ps nk tails in
      (ap (λ w. w ∷ u ∷ f) same ∙ ap (λ w. y ∷ w) r.0, r.1)

pub named_same : (a : List ℕ) (s u : Slot) → s.number ≡ u.number → s.role ≡ u.role → named a s ≡ named a u
named_same a s u p q =
    ap (λ n. record { path = a ++ n ∷ []; up = a; number = n; role = s.role }) p ∙
    ap (λ c. record { path = a ++ u.number ∷ []; up = a; number = u.number; role = c }) q

module _ {T : Type 0} (slot : T → Slot) where
  -- of the numbers of siblings
  abbrev pub Tops : (ℕ → Type 0) → Rose T → Type 0
  Tops P empty = Unit {0}
  Tops P (node t e k r) = P (number_of slot t) × Tops P r

  pub tops_each : (P : ℕ → Type 0) (k : Rose T) → Each (λ v. P (number_of slot v)) (pre k) → Tops P k
  tops_each P empty l = tt
  tops_each P (node t e k r) l = (l.0, tops_each P r (each_parts (λ v. P (number_of slot v)) (pre k) (pre r) l.1).1)

  pub regood : (t u : Task T) (d e : Entry) (m : ℕ) (P : ℕ → Type 0) (k : Rose T) → t.number ≡ u.number → path_of d ≡ path_of e →
      ((n : ℕ) → P n → Armed slot (under t d) n → Armed slot (under u e) n) → Tops P k → Good slot (under t d) m k →
      Good slot (under u e) m k
  regood t u d e m P empty same path f l g = tt
  regood t u d e m P (node v x k w) same path f l g = (
    record {
      parent = g.0.parent ∙ ap (λ n. Some n) same;
      suited = g.0.suited;
      fits = subst (λ n. RoleFits (Some n) (slot v.item).role) same g.0.fits;
      who = g.0.who ∙ ap (λ a. named a (slot v.item)) path;
      shows = g.0.shows;
      armed = f (number_of slot v) l.0 g.0.armed;
    },
    g.1,
    g.2,
    regood t u d e (number_of slot v) P w same path f l.1 g.3,
  )

  -- the same item, and another entry of the same name
  abbrev pub reentered : {tasks : List (Task T)} {others : List (Rose T)} {a : List Entry} {e : Entry} {b : List Entry}
      (s : Spot slot tasks others a e b) (d : Entry) (P : ℕ → Type 0) → who_of d ≡ who_of e →
      Shows s.task.number (slot s.task.item).held d → Tops P s.kids →
      ((n : ℕ) → P n → Armed slot (under s.task e) n → Armed slot (under s.task d) n) → Spot slot tasks others a d b
  reentered {e = e} s d P who shows above arms =
      let seen : Seen slot (parent_at s.hole) s.task d = record {
        parent = s.good.0.parent;
        suited = s.good.0.suited;
        fits = s.good.0.fits;
        who = who ∙ s.good.0.who;
        shows = shows;
        armed = s.good.0.armed;
      } in
      record {
        most = s.most;
        hole = s.hole;
        task = s.task;
        kids = s.kids;
        rest = s.rest;
        first = s.first;
        last = s.last;
        one = one_node s.hole s.task s.task e d s.kids s.kids s.rest s.one;
        around = s.around;
        good = (
          seen,
          s.good.1,
          regood s.task s.task e d (number_of slot s.task) P s.kids refl
              (ap (λ w. w.path) (sym who)) arms above s.good.2,
          s.good.3,
        );
        good_others = s.good_others;
        dealt = s.dealt;
        left = s.left;
        right = s.right;
        was = s.was;
      }

  module _ {tasks : List (Task T)} {others : List (Rose T)} {a : List Entry} {e : Entry} {b : List Entry} (s : Spot slot tasks others a e b)
      (tree : IsTree tasks) where
    around_it : (d : Entry) → before s.hole ++ ((post s.kids ++ d ∷ post s.rest) ++ after s.hole) ≡ a ++ d ∷ b
    around_it d =
        let e1 : before s.hole ++ ((post s.kids ++ d ∷ post s.rest) ++ after s.hole) ≡ (before s.hole ++ post s.kids) ++
        d ∷ (post s.rest ++ after s.hole) = simp append_assoc in
        e1 ∙ (ap (λ w. w ++ d ∷ (post s.rest ++ after s.hole)) (sym s.left) ∙ ap (λ w. a ++ d ∷ w) (sym s.right))

    -- the numbers of those beneath it, where those of all are bounded
    pub kids_each : (P : Task T → Type 0) → Each P tasks → Each P (s.task ∷ pre s.kids)
    kids_each P l =
        let all : Each P (fronts slot s ++ (s.task ∷ pre s.kids ++ (pre s.rest ++ backs slot s))) = subst (λ ts. Each P ts) s.was l in
        (each_parts P (s.task ∷ pre s.kids) (pre s.rest ++ backs slot s)
        (each_parts P (fronts slot s) (s.task ∷ pre s.kids ++ (pre s.rest ++ backs slot s)) all).1).0

    -- another item, which stands for another entry
    pub reseated : (item : T) (d : Entry) (P : ℕ → Type 0) → (slot item).number ≡ number_of slot s.task →
        (slot item).role ≡ (slot s.task.item).role → who_of d ≡ who_of e →
        Shows s.task.number (slot item).held d → Tops P s.kids →
        ((n : ℕ) → P n → Armed slot (under s.task e) n → Armed slot (under (record s.task { item = item }) d) n) →
        Planted slot (with_item s.task.number tasks item) others (a ++ d ∷ b)
    reseated item d P number role who shows above arms =
        let u : Task T = record s.task { item = item } in
        let x : Rose T = node u d s.kids s.rest in
        let q = parent_at s.hole in
        let seen : Seen slot q u d = record {
          parent = s.good.0.parent;
          suited = s.good.0.suited;
          fits = subst (λ c. RoleFits (id_of q) c) (sym role) s.good.0.fits;
          who = who ∙ (s.good.0.who ∙ named_same (path_under q) (slot s.task.item) (slot item) (sym number) (sym role));
          shows = shows;
          armed = subst (λ n. Armed slot q n) (sym number) s.good.0.armed;
        } in
        let below : Good slot (under u d) (number_of slot u) s.kids =
        subst (λ n. Good slot (under u d) n s.kids) (sym number)
        (regood s.task u e d (number_of slot s.task) P s.kids refl (ap (λ w. w.path) (sym who)) arms above s.good.2) in
        let good : Good slot q (most_at slot s.most s.hole) x = (
          seen,
          subst (λ n. n < most_at slot s.most s.hole) (sym number) s.good.1,
          below,
          subst (λ n. Good slot q n s.rest) (sym number) s.good.3,
        ) in
        let lists : with_item s.task.number tasks item ≡ fronts slot s ++ (pre x ++ backs slot s) =
        ap (λ ts. with_item s.task.number ts item) s.was ∙
        (changed_here (fronts slot s) (pre s.kids ++ (pre s.rest ++ backs slot s)) s.task (λ t. record t { item = item })
        (alone slot s tree).0 ∙ ap (λ w. fronts slot s ++ w) (sym (append_assoc (u ∷ pre s.kids) (pre s.rest) (backs slot s)))) in
        subst (λ es. Planted slot (with_item s.task.number tasks item) others es) (around_it d)
        (refill slot s (with_item s.task.number tasks item) x (one_node s.hole s.task u e d s.kids s.kids s.rest s.one) good lists)

    -- one more child
    more_kids : (k : Rose T) (m : ℕ) (u : Task T) (d : Entry) (q : Parent T) → Good slot q m k → Seen slot q u d → number_of slot u < m →
        Each (λ v. number_of slot u < number_of slot v) (pre k) →
        Good slot q m (join k (node u d empty empty))
    more_kids empty m u d q g seen l above = (seen, l, tt, tt)
    more_kids (node v x k w) m u d q g seen l above = (
      g.0,
      g.1,
      g.2,
      more_kids w (number_of slot v) u d q g.3 seen above.0
          (each_parts (λ v. number_of slot u < number_of slot v) (pre k) (pre w) above.1).1,
    )

    pub grown : (u : Task T) (d : Entry) (new : List (Task T)) → Added u tasks new → u.parent ≡ Some s.task.number →
        Seen slot (under s.task e) u d →
        Each (λ v. number_of slot u < number_of slot v) tasks → Planted slot new others (a ++ d ∷ e ∷ b)
    grown u d new added parent seen above =
        let x : Rose T = node s.task e (join s.kids (node u d empty empty)) s.rest in
        let n = s.task.number in
        let end : IsEnd (Some n) tasks added.front added.back = subst (λ p. IsEnd p tasks added.front added.back) parent added.behind in
        let out = not_under tasks n tree (block slot s) in
        let inside = block_under tasks n tree (block slot s) in
        let P : Task T → Type 0 = λ t. Under tasks n t.number in
        let last : LastIs P added.front = subst (λ w. LastIs P w) (sym end.0.is) (last_is P end.0.some end.0.last end.0.under) in
        let both : added.front ++ added.back ≡ fronts slot s ++ (s.task ∷ pre s.kids ++ (pre s.rest ++ backs slot s)) =
        sym added.was ∙ s.was in
        let places = stretch_behind P added.front added.back (fronts slot s) (pre s.kids) (pre s.rest ++ backs slot s) s.task last
        (each_same P added.back end.1) (each_same P (fronts slot s) out.0) (each_is P (s.task ∷ pre s.kids) inside)
        (each_same P (pre s.rest ++ backs slot s) out.1) both in
        let old = kids_each (λ v. number_of slot u < number_of slot v) above in
        let good : Good slot (parent_at s.hole) (most_at slot s.most s.hole) x =
        (s.good.0, s.good.1, more_kids s.kids (number_of slot s.task) u d (under s.task e) s.good.2 seen old.0 old.1, s.good.3) in
        let e1 : (fronts slot s ++ s.task ∷ pre s.kids) ++ u ∷ (pre s.rest ++ backs slot s) ≡ fronts slot s ++
        ((s.task ∷ (pre s.kids ++ u ∷ []) ++ pre s.rest) ++ backs slot s) = simp append_assoc in
        let lists : new ≡ fronts slot s ++ (pre x ++ backs slot s) =
        added.is ∙ (ap (λ w. w ++ u ∷ added.back) places.0 ∙ (ap (λ w. (fronts slot s ++ s.task ∷ pre s.kids) ++ u ∷ w) places.1 ∙ (e1 ∙
        ap (λ w. fronts slot s ++ ((s.task ∷ w ++ pre s.rest) ++ backs slot s)) (sym (pre_join s.kids (node u d empty empty)))))) in
        let e2 : before s.hole ++ (((post s.kids ++ d ∷ []) ++ e ∷ post s.rest) ++ after s.hole) ≡ (before s.hole ++ post s.kids) ++
        d ∷ e ∷ (post s.rest ++ after s.hole) = simp append_assoc in
        let entries : before s.hole ++ (post x ++ after s.hole) ≡ a ++ d ∷ e ∷ b =
        ap (λ w. before s.hole ++ ((w ++ e ∷ post s.rest) ++ after s.hole)) (post_join s.kids (node u d empty empty)) ∙
        (e2 ∙ (ap (λ w. w ++ d ∷ e ∷ (post s.rest ++ after s.hole)) (sym s.left) ∙ ap (λ w. a ++ d ∷ e ∷ w) (sym s.right))) in
        subst (λ es. Planted slot new others es) entries
        (refill slot s new x (one_node s.hole s.task s.task e e s.kids (join s.kids (node u d empty empty)) s.rest s.one) good lists)
      where
        each_same : (P : Task T → Type 0) (xs : List (Task T)) → r.Each (λ t. P t → ⊥) xs → Each (λ t. P t → ⊥) xs
        each_same P [] l = tt
        each_same P (x ∷ xs) l = (l.0, each_same P xs l.1)

        each_is : (P : Task T → Type 0) (xs : List (Task T)) → r.Each P xs → Each P xs
        each_is P [] l = tt
        each_is P (x ∷ xs) l = (l.0, each_is P xs l.1)

    -- a task without children has gone from beneath another
    pub childless : s.kids ≡ empty → HasNoChild s.task.number tasks
    childless none = (block_children tasks s.task.number tree (block slot s)).2 ∙ ap (λ k. youngest (Some s.task.number) (pre k)) none

    pub without_it : s.kids ≡ empty → without s.task.number tasks ≡ fronts slot s ++ (pre s.rest ++ backs slot s)
    without_it none = ap (λ ts. without s.task.number ts) s.was ∙
        (without_at (fronts slot s) (pre s.kids ++ (pre s.rest ++ backs slot s)) s.task (alone slot s tree).0 ∙
        ap (λ k. fronts slot s ++ (pre k ++ (pre s.rest ++ backs slot s))) none)

    pub one_less : (h : Hole T) (x y : Rose T) → (parent_at h ≡ no_parent → ⊥) → IsOne (fill h x) → IsOne (fill h y)
    one_less top x y f o = absurd (f refl)
    one_less (beneath h t d w) x y f o = one_node h t t d d x y w o
    one_less (behind h t d k) x y f o = one_less h (node t d k x) (node t d k y) f o

    pub part_gone : s.kids ≡ empty → (parent_at s.hole ≡ no_parent → ⊥) → Planted slot (without s.task.number tasks) others (a ++ b)
    part_gone none inner =
        let gone : Planted slot (without s.task.number tasks) others (before s.hole ++ (post s.rest ++ after s.hole)) =
        refill slot s (without s.task.number tasks) s.rest (one_less s.hole (node s.task e s.kids s.rest) s.rest inner s.one)
        (good_weaker slot (parent_at s.hole) (number_of slot s.task) (most_at slot s.most s.hole) s.rest (omega (arith, s.good.1)) s.good.3)
        (without_it none) in
        let left : a ≡ before s.hole = s.left ∙ (ap (λ k. before s.hole ++ post k) none ∙ append-nil (before s.hole)) in
        subst (λ es. Planted slot (without s.task.number tasks) others es) (ap (λ w. w ++ (post s.rest ++ after s.hole)) (sym left) ∙
        ap (λ w. a ++ w) (sym s.right)) gone

    -- or it was a tree by itself
    pub record RootGone : Type 0 where
      pub roots : List (Rose T)
      pub dealt : Deal others roots
      pub tasks_are : without s.task.number tasks ≡ pre_all roots
      pub good : GoodTrees slot others
      pub left : a ≡ []
      pub right : b ≡ []

    pub root_gone : s.kids ≡ empty → s.hole ≡ top → RootGone
    root_gone none is =
        let one : IsOne (node s.task e s.kids s.rest) = subst (λ h. IsOne (fill h (node s.task e s.kids s.rest))) is s.one in
        let no_rest = no_more s.rest one in
        let e1 : (pre_all s.first ++ []) ++ ([] ++ ([] ++ pre_all s.last)) ≡ pre_all s.first ++ pre_all s.last = simp append_assoc in
        record {
          roots = s.first ++ s.last;
          dealt = s.dealt;
          tasks_are = without_it none ∙ (ap (λ h. (pre_all s.first ++ front h) ++ (pre s.rest ++ (back h ++ pre_all s.last))) is ∙
              (ap (λ k. (pre_all s.first ++ []) ++ (pre k ++ ([] ++ pre_all s.last))) no_rest ∙
              (ap (λ w. w ++ pre_all s.last) (append-nil (pre_all s.first)) ∙ sym (pre_all_append s.first s.last))));
          good = s.good_others;
          left = s.left ∙ (ap (λ k. before s.hole ++ post k) none ∙ ap (λ h. before h ++ []) is);
          right = s.right ∙ (ap (λ k. post k ++ after s.hole) no_rest ∙ ap (λ h. after h) is);
        }
      where
        no_more : (k : Rose T) → IsOne (node s.task e s.kids k) → k ≡ empty
        no_more empty o = refl
        no_more (node t d l w) o = absurd o

  -- a tree more
  pub sown : (tasks : List (Task T)) (others : List (Rose T)) (es : List Entry) (u : Task T) (d : Entry) (new : List (Task T)) →
      Planted slot tasks others es → Added u tasks new → u.parent ≡ None → Seen slot no_parent u d →
      (c : Rose T) × Planted slot new (c ∷ others) (d ∷ []) × (post c ≡ es)
  sown tasks others es u d new p added parent seen =
      let nothing : added.back ≡ [] = subst (λ q. IsEnd q tasks added.front added.back) parent added.behind in
      let front : added.front ≡ tasks = sym (append-nil added.front) ∙ (ap (λ w. added.front ++ w) (sym nothing) ∙ sym added.was) in
      let tree : Rose T = node u d empty empty in (
        p.current,
        record {
          current = tree;
          roots = p.roots ++ tree ∷ [];
          dealt = deal_first tree (p.current ∷ others) p.roots p.dealt;
          tasks_are = added.is ∙ (ap (λ w. w ++ u ∷ added.back) front ∙
              (ap (λ w. tasks ++ u ∷ w) nothing ∙ (ap (λ w. w ++ u ∷ []) p.tasks_are ∙ sym (pre_all_append p.roots (tree ∷ [])))));
          good = (record { one = tt; most = number_of slot u + 1; good = (seen, omega arith, tt, tt) }, p.good);
          current_is = refl;
        },
        p.current_is,
      )
