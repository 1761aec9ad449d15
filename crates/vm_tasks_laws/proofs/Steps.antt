-- What each change of the tree of tasks is in the definition.
use Rattle.std.proofs.Common.{◌≡◌, ℕ, ◌<◌, ◌≤◌, Bool, true, false, cond, List, [], ◌∷◌, ◌++◌, map, Option, Some, None, refl, sym, ap, subst}
use Rattle.std.proofs.Common.{◌∙◌, arith}
use Rattle.task_tree.specs.Tasks.{Task, suits, task_at, with_item}
use Rattle.task_tree.specs.Nested.{IsTree, Distinct}
use Rattle.task_tree.specs.Removing.{Added}
use Rattle.task_tree.proofs.Standing.{at_place}
use Rattle.verse_base.specs.declared.places.Place.{Place}
use Rattle.verse_value.specs.Val.{Val}
use Rattle.verse_meaning_state.specs.Waits.{eqn, ltn}
use Rattle.verse_meaning_state.specs.Turns.{Kind}
use Rattle.verse_meaning_state.proofs.Numbers.{eqn_is, eqn_same, eqn_not, ltn_yes, ltn_no}
use Rattle.verse_code_machine.specs.Tasks as m
use Rattle.verse_code_machine.specs.Tasks.{Frame, Role, root, part, Who, Part, did, runs, Rest, asleep, group, Thread, thread, After, Up}
use Rattle.verse_code_machine.specs.Tasks.{begins}
use Rattle.verse_code_machine.specs.Tasks.{branching, spawning, clearing, Trees, World, world, root_named, child_named, onto, among}
use Rattle.verse_code_machine.specs.Tasks.{planted}
use Rattle.verse_code_machine.specs.Tasks.{since, beneath_arms, same_path}
use Rattle.verse_code_machine.specs.Ends.{is_run, with_did}
use Rattle.vm_tasks_laws.specs.Slots.{Slot, Held, by_machine, by_itself, Entry, slept, held, arms_at, under, number_of, ArmedBy, Seen}
use Rattle.vm_tasks_laws.specs.Slots.{RoleFits}
use Rattle.vm_tasks_laws.specs.Slots.{Shows}
use Rattle.vm_tasks_laws.specs.Roses.{Rose, empty, node, pre, post}
use Rattle.vm_tasks_laws.specs.Standing.{onto_entries, trees_entries, ups_entries, Planted, Stands}
use Rattle.vm_tasks_laws.proofs.Lists.{Each}
use Rattle.vm_tasks_laws.proofs.Spots.{Spot, fronts, backs}
use Rattle.vm_tasks_laws.proofs.Changes.{Tops, tops_each, kids_each, reseated, reentered, grown}
use Rattle.vm_tasks_laws.proofs.Mirror.{onto_append}
use Rattle.vm_tasks_laws.proofs.Cancelled.{spot_in, planted_of}
use Rattle.vm_tasks_laws.proofs.Climbing.{onto_slept}

pub rests_entries : (pre post : List m.Task) → map slept (onto pre post) ≡ onto_entries pre (map slept post)
rests_entries pre post = onto_slept pre post

pub trees_append : (a b : List (List m.Task)) → trees_entries (a ++ b) ≡ trees_entries a ++ trees_entries b
trees_append [] b = refl
trees_append (ts ∷ a) b = ap (λ w. map slept ts ∷ w) (trees_append a b)

pub is_run_more : (k n : ℕ) (gs : List Part) → (k ≡ n → ⊥) → is_run k (gs ++ runs n ∷ []) ≡ is_run k gs
is_run_more k n [] d = ap (λ b. cond b true false) (eqn_not k n d)
is_run_more k n (did v ∷ gs) d = is_run_more k n gs d
is_run_more k n (runs i ∷ gs) d = ap (λ b. cond (eqn k i) true b) (is_run_more k n gs d)

is_run_last : (n : ℕ) (gs : List Part) → is_run n (gs ++ runs n ∷ []) ≡ true
is_run_last n [] = ap (λ b. cond b true false) (eqn_same n)
is_run_last n (did v ∷ gs) = is_run_last n gs
is_run_last n (runs i ∷ gs) = ap (λ b. cond (eqn n i) true b) (is_run_last n gs) ∙ go (eqn n i)
  where
    go : (b : Bool) → cond b true true ≡ true
    go true = refl
    go false = refl

pub is_run_did : (k : ℕ) (v : Val) (gs : List Part) → is_run k (gs ++ did v ∷ []) ≡ is_run k gs
is_run_did k v [] = refl
is_run_did k v (did w ∷ gs) = is_run_did k v gs
is_run_did k v (runs i ∷ gs) = ap (λ b. cond (eqn k i) true b) (is_run_did k v gs)

pub is_run_with : (k n : ℕ) (v : Val) (gs : List Part) → (k ≡ n → ⊥) → is_run k (with_did n v gs) ≡ is_run k gs
is_run_with k n v [] d = refl
is_run_with k n v (did w ∷ gs) d = is_run_with k n v gs d
is_run_with k n v (runs i ∷ gs) d = go (eqn n i) refl (is_run_with k n v gs d)
  where
    go : (b : Bool) → eqn n i ≡ b → is_run k (with_did n v gs) ≡ is_run k gs → is_run k (cond b (did v ∷ gs) (runs i ∷ with_did n v gs)) ≡
        cond (eqn k i) true (is_run k gs)
    go true e h = sym (ap (λ b. cond b true (is_run k gs)) (eqn_not k i (λ p. d (p ∙ sym (eqn_is n i e)))))
    go false e h = ap (λ b. cond (eqn k i) true b) h

module _ {T : Type 0} (slot : T → Slot) where
  pub at_spot : {tasks : List (Task T)} {others : List (Rose T)} {a : List Entry} {e : Entry} {b : List Entry}
      (s : Spot slot tasks others a e b) → IsTree tasks → task_at s.task.number tasks ≡ Some s.task
  at_spot s tree = ap (λ ts. task_at s.task.number ts) s.was ∙ at_place (fronts slot s) (pre s.kids ++ (pre s.rest ++ backs slot s)) s.task
      (subst (λ ts. Distinct ts) s.was tree.distinct)

  -- the running task, where it is a task of the tree
  pub running_spot : (tasks : List (Task T)) (ids : List ℕ) (e : Entry) (o : World) (s : Stands slot tasks ids (e ∷ []) o) →
      Spot slot tasks s.others (onto_entries o.pre []) e (ups_entries ids o.ups ++ map slept o.post)
  running_spot tasks ids e o s = spot_in slot tasks s.others o.pre e (ups_entries ids o.ups ++ map slept o.post) s.planted

  pub is_held : (id i : ℕ) (h : Held) (w : Who) (arms : Option (List Part)) → Shows id h (held i w arms) → (i ≡ id) × (h ≡ by_machine)
  is_held id i by_machine w arms s = (s, refl)
  is_held id i (by_itself f bl r) w arms s = absurd s

  -- with another item for the running task; it keeps its number, its role
  abbrev pub Kept : List (Task T) → ℕ → (Slot → Slot) → T → Type 0
  Kept tasks i change item = (t : Task T) → task_at i tasks ≡ Some t → slot item ≡ change (slot t.item)

  -- it stands among the others
  pub set_down : (tasks : List (Task T)) (ids : List ℕ) (i : ℕ) (w : Who) (arms : Option (List Part)) (o : World) →
      Stands slot tasks ids (held i w arms ∷ []) o → IsTree tasks →
      (f : Frame) (bl : List Frame) (r : Rest) (item : T) → Kept tasks i (λ x. record x { held = by_itself f bl r }) item →
      ((n b : ℕ) → ArmedBy b arms n → ArmedBy b (arms_at r) n) →
      Stands slot (with_item i tasks item) ids [] (world (record { thread = thread w f bl; rest = r } ∷ o.pre) o.post o.ups o.trees)
  set_down tasks ids i w arms o s tree f bl r item kept armed =
      let p = running_spot tasks ids (held i w arms) o s in
      let h = is_held p.task.number i (slot p.task.item).held w arms p.good.0.shows in
      let is : slot item ≡ record (slot p.task.item) { held = by_itself f bl r } =
      kept p.task (ap (λ n. task_at n tasks) h.0 ∙ at_spot p tree) in
      let y : m.Task = record { thread = thread w f bl; rest = r } in
      let down : Planted slot (with_item p.task.number tasks item) s.others
      (onto_entries o.pre [] ++ slept y ∷ (ups_entries ids o.ups ++ map slept o.post)) =
      reseated slot p tree item (slept y) (λ n. Unit {0}) (ap (λ (x : Slot). x.number) is) (ap (λ (x : Slot). x.role) is) refl
      (subst (λ x. Shows p.task.number x (slept y)) (sym (ap (λ (x : Slot). x.held) is)) (refl, refl, refl))
      (all_tops p.kids) (λ n u k. subst (λ b. ArmedBy b (arms_at r) n) (sym (ap (λ (x : Slot). x.since) is))
      (armed n (slot p.task.item).since k)) in
      record {
        others = s.others;
        planted = subst (λ n. Planted slot (with_item n tasks item) s.others
            (onto_entries (y ∷ o.pre) (ups_entries ids o.ups ++ map slept o.post))) (sym h.0)
            (subst (λ es. Planted slot (with_item p.task.number tasks item) s.others es)
            (sym (onto_append o.pre [] (slept y ∷ (ups_entries ids o.ups ++ map slept o.post)))) down);
        chain = s.chain.1;
        others_are = s.others_are;
      }
    where
      all_tops : (k : Rose T) → Tops slot (λ n. Unit {0}) k
      all_tops empty = tt
      all_tops (node t e k r) = (tt, all_tops r)

  -- it begins a group, and what it has begun before are no arms
  pub begins_group : (tasks : List (Task T)) (ids : List ℕ) (i : ℕ) (w : Who) (o : World) (left : ℕ) →
      Stands slot tasks ids (held i w None ∷ []) o → IsTree tasks →
      (item : T) → Kept tasks i (λ x. record x { since = left }) item → Each (λ v. left ≤ number_of slot v) tasks →
      Stands slot (with_item i tasks item) ids (held i w (Some []) ∷ []) o
  begins_group tasks ids i w o left s tree item kept above =
      let p = running_spot tasks ids (held i w None) o s in
      let h = is_held p.task.number i (slot p.task.item).held w None p.good.0.shows in
      let is : slot item ≡ record (slot p.task.item) { since = left } = kept p.task (ap (λ n. task_at n tasks) h.0 ∙ at_spot p tree) in
      let e : Entry = held i w (Some []) in
      let b = ups_entries ids o.ups ++ map slept o.post in
      let up : Planted slot (with_item p.task.number tasks item) s.others (onto_entries o.pre [] ++ e ∷ b) =
      reseated slot p tree item e (λ n. left ≤ n) (ap (λ (x : Slot). x.number) is) (ap (λ (x : Slot). x.role) is) refl
      (subst (λ x. Shows p.task.number x e) (sym (ap (λ (x : Slot). x.held) is ∙ h.1)) h.0)
      (tops_each slot (λ n. left ≤ n) p.kids (kids_each slot p tree (λ v. left ≤ number_of slot v) above).1)
      (λ n l k. ap (λ c. ltn n c) (ap (λ (x : Slot). x.since) is) ∙ ltn_no n left l) in
      record {
        others = s.others;
        planted = subst (λ n. Planted slot (with_item n tasks item) s.others (onto_entries o.pre (e ∷ b))) (sym h.0)
            (subst (λ es. Planted slot (with_item p.task.number tasks item) s.others es) (sym (onto_append o.pre [] (e ∷ b))) up);
        chain = s.chain;
        others_are = s.others_are;
      }

  -- whether its children are arms is of no account any more
  pub group_over : (tasks : List (Task T)) (ids : List ℕ) (i : ℕ) (w : Who) (arms : Option (List Part)) (o : World) →
      Stands slot tasks ids (held i w arms ∷ []) o → IsTree tasks →
      Stands slot tasks ids (held i w None ∷ []) o
  group_over tasks ids i w arms o s tree =
      let p = running_spot tasks ids (held i w arms) o s in
      let h = is_held p.task.number i (slot p.task.item).held w arms p.good.0.shows in
      let e : Entry = held i w None in
      let b = ups_entries ids o.ups ++ map slept o.post in
      let q = reentered slot p e (λ n. Unit {0}) refl (subst (λ x. Shows p.task.number x e) (sym h.1) h.0) (all_tops p.kids)
      (λ n u k. tt) in
      record {
        others = s.others;
        planted = subst (λ es. Planted slot tasks s.others es) (sym (onto_append o.pre [] (e ∷ b)))
            (planted_of slot tasks s.others (onto_entries o.pre []) e b q);
        chain = s.chain;
        others_are = s.others_are;
      }
    where
      all_tops : (k : Rose T) → Tops slot (λ n. Unit {0}) k
      all_tops empty = tt
      all_tops (node t e k r) = (tt, all_tops r)

  -- a task behind begins
  pub branches : (tasks : List (Task T)) (ids : List ℕ) (i : ℕ) (x : Thread) (o : World) →
      Stands slot tasks ids (held i x.who None ∷ []) o → IsTree tasks →
      (u : Task T) (new : List (Task T)) → Added u tasks new → u.parent ≡ Some i → suits u.parent u.role ≡ true →
      (slot u.item).role ≡ part → (slot u.item).held ≡ by_machine →
      Each (λ v. number_of slot u < number_of slot v) tasks →
      Stands slot new (i ∷ ids) (held u.number (child_named x.who (number_of slot u)) None ∷ [])
      (world o.pre o.post (branching x ∷ o.ups) o.trees)
  branches tasks ids i x o s tree u new added parent suited role by above =
      let e : Entry = held i x.who None in
      let p = running_spot tasks ids e o s in
      let h = is_held p.task.number i (slot p.task.item).held x.who None p.good.0.shows in
      let d : Entry = held u.number (child_named x.who (number_of slot u)) None in
      let b = ups_entries ids o.ups ++ map slept o.post in
      let seen : Seen slot (under p.task e) u d = record {
        parent = parent ∙ ap (λ n. Some n) h.0;
        suited = suited;
        fits = subst (λ c. RoleFits (Some p.task.number) c) (sym role) tt;
        who = ap (λ c. record { path = x.who.path ++ number_of slot u ∷ []; up = x.who.path; number = number_of slot u; role = c })
            (sym role);
        shows = subst (λ c. Shows u.number c d) (sym by) refl;
        armed = tt;
      } in
      let more = grown slot p tree u d new added (parent ∙ ap (λ n. Some n) h.0) seen above in
      record {
        others = s.others;
        planted = subst (λ es. Planted slot new s.others es) (sym (onto_append o.pre [] (d ∷ e ∷ b))) more;
        chain = (refl, s.chain);
        others_are = s.others_are;
      }

  -- the next arm begins
  pub arm_begins : (tasks : List (Task T)) (ids : List ℕ) (i : ℕ) (x : Thread) (k : Kind) (place : Place) (gs : List Part) (ls : List ℕ)
      (o : World) →
      Stands slot tasks ids (held i x.who (Some gs) ∷ []) o → IsTree tasks →
      (u : Task T) (new : List (Task T)) → Added u tasks new → u.parent ≡ Some i → suits u.parent u.role ≡ true →
      (slot u.item).role ≡ part → (slot u.item).held ≡ by_machine →
      Each (λ v. number_of slot u < number_of slot v) tasks →
      ((t : Task T) → task_at i tasks ≡ Some t → number_of slot u < (slot t.item).since) →
      Stands slot new (i ∷ ids) (held u.number (child_named x.who (number_of slot u)) None ∷ [])
      (world o.pre o.post (begins x k place gs (number_of slot u) ls ∷ o.ups) o.trees)
  arm_begins tasks ids i x k place gs ls o s tree u new added parent suited role by above later =
      let n = number_of slot u in
      let p = running_spot tasks ids (held i x.who (Some gs)) o s in
      let h = is_held p.task.number i (slot p.task.item).held x.who (Some gs) p.good.0.shows in
      let e : Entry = held i x.who (Some (gs ++ runs n ∷ [])) in
      let d : Entry = held u.number (child_named x.who n) None in
      let b = ups_entries ids o.ups ++ map slept o.post in
      let tops = tops_each slot (λ c. n < c) p.kids (kids_each slot p tree (λ v. n < number_of slot v) above).1 in
      let q = reentered slot p e (λ c. n < c) refl (subst (λ c. Shows p.task.number c e) (sym h.1) h.0) tops
      (λ c l a. a ∙ sym (is_run_more c n gs (λ z. omega (arith, l, z)))) in
      let seen : Seen slot (under p.task e) u d = record {
        parent = parent ∙ ap (λ c. Some c) h.0;
        suited = suited;
        fits = subst (λ c. RoleFits (Some p.task.number) c) (sym role) tt;
        who = ap (λ c. record { path = x.who.path ++ n ∷ []; up = x.who.path; number = n; role = c }) (sym role);
        shows = subst (λ c. Shows u.number c d) (sym by) refl;
        armed = ltn_yes n (slot p.task.item).since (later p.task (ap (λ c. task_at c tasks) h.0 ∙ at_spot p tree)) ∙ sym (is_run_last n gs);
      } in
      let more = grown slot q tree u d new added (parent ∙ ap (λ c. Some c) h.0) seen above in
      record {
        others = s.others;
        planted = subst (λ es. Planted slot new s.others es) (sym (onto_append o.pre [] (d ∷ e ∷ b))) more;
        chain = ((refl, refl), s.chain);
        others_are = s.others_are;
      }
