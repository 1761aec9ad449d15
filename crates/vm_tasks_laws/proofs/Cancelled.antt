-- The definition's cancelling, and that of the tree.
use Rattle.std.proofs.Common.{◌≡◌, ℕ, ◌<◌, ◌≤◌, Bool, true, false, cond, List, [], ◌∷◌, ◌++◌, map, Some, refl, sym, ap, subst, ◌∙◌}
use Rattle.std.proofs.Common.{append_assoc, arith}
use Rattle.std.proofs.lemmas.List.{append-nil}
use Rattle.std.proofs.lemmas.Bool.{false≢true}
use Rattle.task_tree.specs.Tasks.{Task}
use Rattle.verse_meaning_state.specs.Waits.{eqn, ltn}
use Rattle.verse_meaning_state.proofs.Numbers.{eqn_is, ltn_is_not, eqn_same, ltn_yes, ltn_no}
use Rattle.verse_code_machine.specs.Tasks as m
use Rattle.verse_code_machine.specs.Tasks.{Who, Part, did, runs, World, starts, since, beneath_arms}
use Rattle.verse_code_machine.specs.Cancelling.{without, gone_before, cancelled}
use Rattle.verse_code_machine.specs.Ends.{is_run}
use Rattle.vm_tasks_laws.specs.Slots.{Slot, Entry, slept, path_of, Parent, under, path_under, number_of, Armed, ArmedBy, arms_of, Shows}
use Rattle.vm_tasks_laws.specs.Roses.{Rose, empty, node, pre, post, Good}
use Rattle.vm_tasks_laws.specs.Standing.{Planted, onto_entries}
use Rattle.vm_tasks_laws.specs.Cancelling.{younger, older, back_entries}
use Rattle.vm_tasks_laws.specs.Told.{AllPairs, IsTold}
use Rattle.vm_tasks_laws.proofs.Lists.{Each, each_append, each_parts, each_weaker}
use Rattle.vm_tasks_laws.proofs.Paths.{starts_front, starts_fork, Apart, forks, above}
use Rattle.vm_tasks_laws.proofs.Paths.{starts_apart}
use Rattle.vm_tasks_laws.proofs.Paths.{since_apart, since_child}
use Rattle.vm_tasks_laws.proofs.Holes.{before, after, parent_at, outside, Below, all_below, path_is}
use Rattle.vm_tasks_laws.proofs.Spots.{post_join, Spot, spot_of, fronts, backs, refill}
use Rattle.vm_tasks_laws.proofs.Younger.{good_younger, older_younger}
use Rattle.vm_tasks_laws.proofs.Mirror.{Undoes, undo_parts, undo_onto, onto_append, onto_undo, Stays, Goes, none_before, stays_before}
use Rattle.vm_tasks_laws.proofs.Mirror.{goes_before, none_behind, mirror}

-- what cancelling by such names takes and leaves
pub record CancelledAs (f : List ℕ → Bool) (o : World) (gone left : List Entry) : Type 0 where
  pub listed : map slept (cancelled f o) ≡ gone
  pub before_it : onto_entries (without f o.pre) [] ≡ left
  pub behind_it : without f o.post ≡ o.post

apart_more : (w z x : List ℕ) → Apart w x → Apart (w ++ z) x
apart_more w z x (forks a i j u v p q d) = forks a i j (u ++ z) v (ap (λ y. y ++ z) p ∙ append_assoc a (i ∷ u) z) q d
apart_more w z x (above i u p) = above i (u ++ z) (ap (λ y. y ++ z) p ∙ append_assoc x (i ∷ u) z)

pub arms_apart : (w x : List ℕ) (gs : List Part) → Apart w x → beneath_arms w gs x ≡ false
arms_apart w x [] a = refl
arms_apart w x (did v ∷ gs) a = arms_apart w x gs a
arms_apart w x (runs n ∷ gs) a = ap (λ b. cond b true (beneath_arms w gs x)) (starts_apart (w ++ n ∷ []) x (apart_more w (n ∷ []) x a)) ∙
    arms_apart w x gs a

pub arms_child : (w : List ℕ) (n : ℕ) (more : List ℕ) (gs : List Part) → beneath_arms w gs (w ++ n ∷ more) ≡ is_run n gs
arms_child w n more [] = refl
arms_child w n more (did v ∷ gs) = arms_child w n more gs
arms_child w n more (runs k ∷ gs) = go (eqn n k) refl (arms_child w n more gs)
  where
    go : (b : Bool) → eqn n k ≡ b → beneath_arms w gs (w ++ n ∷ more) ≡ is_run n gs →
        cond (starts (w ++ k ∷ []) (w ++ n ∷ more)) true (beneath_arms w gs (w ++ n ∷ more)) ≡ cond (eqn n k) true (is_run n gs)
    go true e rest =
        let same : n ≡ k = eqn_is n k e in
        let yes : starts (w ++ k ∷ []) (w ++ n ∷ more) ≡ true = ap (λ i. starts (w ++ i ∷ []) (w ++ n ∷ more)) (sym same) ∙
        (ap (λ z. starts (w ++ n ∷ []) z) (sym (append_assoc w (n ∷ []) more)) ∙ starts_front (w ++ n ∷ []) more) in
        ap (λ b. cond b true (beneath_arms w gs (w ++ n ∷ more))) yes ∙ ap (λ b. cond b true (is_run n gs)) (sym e)
    go false e rest =
        let no : starts (w ++ k ∷ []) (w ++ n ∷ more) ≡ false =
        starts_fork w k n [] more (λ p. absurd (false≢true (sym e ∙ (ap (λ i. eqn n i) p ∙ eqn_same n)))) in
        ap (λ b. cond b true (beneath_arms w gs (w ++ n ∷ more))) no ∙ (rest ∙ ap (λ b. cond b true (is_run n gs)) (sym e))

module _ {T : Type 0} (slot : T → Slot) where
  -- beneath a child that is no younger than the bound
  pub record NotBelow (q : Parent T) (bound : ℕ) (x : Entry) : Type 0 where
    pub number : ℕ
    pub more : List ℕ
    pub path : path_of x ≡ path_under q ++ number ∷ more
    pub least : bound ≤ number
    pub armed : Armed slot q number

  older_above : (q : Parent T) (most bound : ℕ) (k : Rose T) → Good slot q most k → Each (NotBelow q bound) (post (older slot bound k))
  older_above q most bound empty g = tt
  older_above q most bound (node t e k r) g = go (older_above q (number_of slot t) bound r g.3) (ltn (number_of slot t) bound) refl
    where
      go : Each (NotBelow q bound) (post (older slot bound r)) → (b : Bool) → ltn (number_of slot t) bound ≡ b →
          Each (NotBelow q bound) (post (cond b empty (node t e k (older slot bound r))))
      go more true p = tt
      go more false p =
          let least = ltn_is_not (number_of slot t) bound p in
          let name = path_is slot q t e g.0 in
          each_append (NotBelow q bound) (post k) (e ∷ post (older slot bound r))
          (each_weaker (Below slot (under t e) (number_of slot t)) (NotBelow q bound) (post k) (λ x b. record {
            number = number_of slot t;
            more = b.number ∷ b.more;
            path = b.path ∙ (ap (λ w. w ++ b.number ∷ b.more) name ∙ append_assoc (path_under q) (number_of slot t ∷ [])
                (b.number ∷ b.more));
            least = least;
            armed = g.0.armed;
          }) (all_below slot (under t e) (number_of slot t) k g.2))
          (record { number = number_of slot t; more = []; path = name; least = least; armed = g.0.armed }, more)

  -- the frame of a task that is spotted in a world
  pub spot_in : (tasks : List (Task T)) (others : List (Rose T)) (o : List m.Task) (e : Entry) (b : List Entry) →
      Planted slot tasks others (onto_entries o (e ∷ b)) →
      Spot slot tasks others (onto_entries o []) e b
  spot_in tasks others o e b p = spot_of slot tasks others (onto_entries o []) e b
      (subst (λ es. Planted slot tasks others es) (onto_append o [] (e ∷ b)) p)

  pub planted_of : (tasks : List (Task T)) (others : List (Rose T)) (a : List Entry) (e : Entry) (b : List Entry) →
      Spot slot tasks others a e b → Planted slot tasks others (a ++ e ∷ b)
  planted_of tasks others a e b s =
      let e1 : before s.hole ++ ((post s.kids ++ e ∷ post s.rest) ++ after s.hole) ≡ (before s.hole ++ post s.kids) ++
      e ∷ (post s.rest ++ after s.hole) = simp append_assoc in
      subst (λ es. Planted slot tasks others es)
      (e1 ∙ (ap (λ w. w ++ e ∷ (post s.rest ++ after s.hole)) (sym s.left) ∙ ap (λ w. a ++ e ∷ w) (sym s.right)))
      (refill slot s tasks (node s.task e s.kids s.rest) s.one s.good
      (s.was ∙ ap (λ w. fronts slot s ++ w) (sym (append_assoc (s.task ∷ pre s.kids) (pre s.rest) (backs slot s)))))

  module _ {tasks : List (Task T)} {others : List (Rose T)} {e : Entry} (ups : List Entry) (o : World)
      (s : Spot slot tasks others (onto_entries o.pre []) e (ups ++ map slept o.post)) where
    apart_around : Each (λ x. Apart (path_of e) (path_of x)) (before s.hole) × Each (λ x. Apart (path_of e) (path_of x)) (map slept o.post)
    apart_around =
        let name = path_is slot (parent_at s.hole) s.task e s.good.0 in
        let out = outside slot s.most s.hole (path_of e) (number_of slot s.task) [] s.around name s.good.1 in
        let rest : Each (λ x. Apart (path_of e) (path_of x)) (post s.rest) =
        each_weaker (Below slot (parent_at s.hole) (number_of slot s.task)) (λ x. Apart (path_of e) (path_of x)) (post s.rest)
        (λ x b. forks (path_under (parent_at s.hole)) (number_of slot s.task) b.number [] b.more name b.path
        (λ p. omega (arith, b.less, p)))
        (all_below slot (parent_at s.hole) (number_of slot s.task) s.rest s.good.3) in
        let all : Each (λ x. Apart (path_of e) (path_of x)) (ups ++ map slept o.post) =
        subst (λ w. Each (λ x. Apart (path_of e) (path_of x)) w) (sym s.right)
        (each_append (λ x. Apart (path_of e) (path_of x)) (post s.rest) (after s.hole) rest out.1) in
        (out.0, (each_parts (λ x. Apart (path_of e) (path_of x)) ups (map slept o.post) all).1)

    pub cancels_kids : (f : List ℕ → Bool) (bound : ℕ) → ((x : List ℕ) → Apart (path_of e) x → f x ≡ false) →
        ((n : ℕ) (more : List ℕ) → Armed slot (under s.task e) n → f (path_of e ++ n ∷ more) ≡ ltn n bound) →
        CancelledAs f o (back_entries (younger slot bound s.kids)) (before s.hole ++ post (older slot bound s.kids))
    cancels_kids f bound away kid =
        let old = older slot bound s.kids in
        let young = younger slot bound s.kids in
        let q : Parent T = under s.task e in
        let around = apart_around in
        let goes : Each (Goes f) (post young) =
        each_weaker (Below slot q bound) (Goes f) (post young)
        (λ x b. ap f b.path ∙ (kid b.number b.more b.armed ∙ ltn_yes b.number bound b.less))
        (all_below slot q bound young (good_younger slot q (number_of slot s.task) bound s.kids s.good.2)) in
        let kept : Each (Stays f) (post old) =
        each_weaker (NotBelow q bound) (Stays f) (post old)
        (λ x b. ap f b.path ∙ (kid b.number b.more b.armed ∙ ltn_no b.number bound b.least))
        (older_above q (number_of slot s.task) bound s.kids s.good.2) in
        let left : Each (Stays f) (before s.hole ++ post old) =
        each_append (Stays f) (before s.hole) (post old)
        (each_weaker (λ x. Apart (path_of e) (path_of x)) (Stays f) (before s.hole) (λ x a. away (path_of x) a) around.0) kept in
        let right : Each (Stays f) (map slept o.post) =
        each_weaker (λ x. Apart (path_of e) (path_of x)) (Stays f) (map slept o.post) (λ x a. away (path_of x) a) around.1 in
        let places : onto_entries o.pre [] ≡ (before s.hole ++ post old) ++ post young =
        s.left ∙ (ap (λ k. before s.hole ++ post k) (older_younger slot bound s.kids) ∙
        (ap (λ w. before s.hole ++ w) (post_join old young) ∙ sym (append_assoc (before s.hole) (post old) (post young)))) in
        let undone = undo_parts (before s.hole ++ post old) (post young) o.pre [] (subst (λ w. Undoes w o.pre []) places (undo_onto o.pre))
        in
        let nothing : gone_before f undone.0 ≡ [] = none_before f (before s.hole ++ post old) undone.0 [] undone.2 left in
        let here : map slept (gone_before f o.pre) ≡ back_entries young ++ map slept (gone_before f undone.0) =
        mirror slot f q bound young (good_younger slot q (number_of slot s.task) bound s.kids s.good.2) o.pre undone.0 undone.1 goes
        (subst (λ w. Each (λ x. (n : ℕ) (more : List ℕ) → n < bound → starts (path_of e ++ n ∷ more) (path_of x) ≡ false) (map slept w))
        (sym nothing) tt) in
        let there = none_behind f o.post right in
        record {
          listed = ap (λ w. map slept (gone_before f o.pre ++ w)) there.0 ∙
              (ap (λ w. map slept w) (append-nil (gone_before f o.pre)) ∙
              (here ∙ (ap (λ w. back_entries young ++ map slept w) nothing ∙ append-nil (back_entries young))));
          before_it = onto_undo (before s.hole ++ post old) (without f o.pre) []
              (subst (λ w. Undoes (before s.hole ++ post old) w []) (sym (goes_before f (post young) o.pre undone.0 undone.1 goes))
              (stays_before f (before s.hole ++ post old) undone.0 [] undone.2 left));
          behind_it = there.1;
        }

    pub since_cancels : (bound : ℕ) → CancelledAs (since (path_of e) bound) o (back_entries (younger slot bound s.kids))
        (before s.hole ++ post (older slot bound s.kids))
    since_cancels bound = cancels_kids (λ x. since (path_of e) bound x) bound (λ x a. since_apart (path_of e) x bound a)
        (λ n more h. since_child (path_of e) bound n more)

    pub arms_cancel : (gs : List Part) → arms_of e ≡ Some gs →
        CancelledAs (beneath_arms (path_of e) gs) o (back_entries (younger slot (slot s.task.item).since s.kids))
        (before s.hole ++ post (older slot (slot s.task.item).since s.kids))
    arms_cancel gs arms = cancels_kids (λ x. beneath_arms (path_of e) gs x) (slot s.task.item).since (λ x a. arms_apart (path_of e) x gs a)
        (λ n more h. arms_child (path_of e) n more gs ∙ sym (subst (λ a. ArmedBy (slot s.task.item).since a n) arms h))

  -- the same tasks in the order in which a visitor is told of them
  abbrev pub back_tasks : Rose T → List (Task T)
  back_tasks empty = []
  back_tasks (node t e k r) = back_tasks r ++ (back_tasks k ++ t ∷ [])

  abbrev pub ShowsIt : Task T → Entry → Type 0
  ShowsIt t e = Shows t.number (slot t.item).held e

  pairs_append : {A B : Type 0} (P : A → B → Type 0) (a c : List A) (b d : List B) → AllPairs P a b → AllPairs P c d →
      AllPairs P (a ++ c) (b ++ d)
  pairs_append P [] c [] d h k = k
  pairs_append P [] c (y ∷ b) d h k = absurd h
  pairs_append P (x ∷ a) c [] d h k = absurd h
  pairs_append P (x ∷ a) c (y ∷ b) d h k = (h.0, pairs_append P a c b d h.1 k)

  back_pairs : (q : Parent T) (most : ℕ) (k : Rose T) → Good slot q most k → AllPairs ShowsIt (back_tasks k) (back_entries k)
  back_pairs q most empty g = tt
  back_pairs q most (node t e k r) g =
      pairs_append ShowsIt (back_tasks r) (back_tasks k ++ t ∷ []) (back_entries r) (back_entries k ++ e ∷ [])
      (back_pairs q (number_of slot t) r g.3)
      (pairs_append ShowsIt (back_tasks k) (t ∷ []) (back_entries k) (e ∷ []) (back_pairs (under t e) (number_of slot t) k g.2)
      (g.0.shows, tt))

  pub told_pairs : (xs : List (Task T)) (ys : List m.Task) → AllPairs ShowsIt xs (map slept ys) → AllPairs (IsTold slot) xs ys
  told_pairs [] [] h = tt
  told_pairs [] (y ∷ ys) h = absurd h
  told_pairs (x ∷ xs) [] h = absurd h
  told_pairs (x ∷ xs) (y ∷ ys) h = (h.0, told_pairs xs ys h.1)

  pub told_back : (q : Parent T) (most : ℕ) (k : Rose T) (ys : List m.Task) → Good slot q most k → map slept ys ≡ back_entries k →
      AllPairs (IsTold slot) (back_tasks k) ys
  told_back q most k ys g p = told_pairs (back_tasks k) ys (subst (λ w. AllPairs ShowsIt (back_tasks k) w) (sym p) (back_pairs q most k g))
