-- Waits in two orders.
use Rattle.std.proofs.Common.{◌≡◌, ℕ, Bool, true, false, cond, List, [], ◌∷◌, ◌++◌, map, length, refl, sym, ap, subst}
use Rattle.std.proofs.Common.{◌∙◌, append_assoc, arith, length-append}
use Rattle.task_tree.specs.Tasks.{Task}
use Rattle.verse_meaning_state.specs.State.{State}
use Rattle.verse_meaning_state.specs.Waits.{Wait, eqn, has, due_of, sooner_of, least}
use Rattle.verse_meaning_state.proofs.Dues.{sooner_of_swaps}
use Rattle.verse_code_machine.specs.Tasks as m
use Rattle.verse_code_machine.specs.Tasks.{Rest, asleep, group, waits_with, waits_of, tree_waits}
use Rattle.vm_tasks_laws.specs.Slots.{Slot, Held, by_machine, by_itself, Entry, slept, held, Parent, no_parent, under, number_of, Shows}
use Rattle.vm_tasks_laws.specs.Roses.{Rose, empty, node, pre, post, pre_all, Good, GoodTrees}
use Rattle.vm_tasks_laws.specs.Standing.{Deal, none_dealt, one_dealt, trees_entries, Shown, none_shown, empty_shown, tree_shown}
use Rattle.vm_tasks_laws.specs.Clocks.{waits_told, with_rest, with_held, sleeping}
use Rattle.vm_tasks_laws.proofs.Lists.{Each, each_append, each_parts}
use Rattle.vm_tasks_laws.proofs.Trees.{move}
use Rattle.vm_tasks_laws.proofs.Climbing.{has_append}

module _ {A : Type 0} where
  pub deal_block : (ys xs a b : List A) → Deal xs (a ++ b) → Deal (ys ++ xs) (a ++ (ys ++ b))
  deal_block [] xs a b d = d
  deal_block (y ∷ ys) xs a b d = one_dealt a (ys ++ b) refl (deal_block ys xs a b d)

  pub deal_append : (a b c d : List A) → Deal a b → Deal c d → Deal (a ++ c) (b ++ d)
  deal_append a b c d none_dealt k = k
  deal_append a b c d (one_dealt {x = x} {xs = xs} f g p h) k =
      one_dealt f (g ++ d) (ap (λ w. w ++ d) p ∙ append_assoc f (x ∷ g) d)
      (subst (λ w. Deal (xs ++ c) w) (append_assoc f g d) (deal_append xs (f ++ g) c d h k))

  pub deal_same : (xs : List A) → Deal xs xs
  deal_same [] = none_dealt
  deal_same (x ∷ xs) = one_dealt [] xs refl (deal_same xs)

  pub deal_length : (xs zs : List A) → Deal xs zs → length xs ≡ length zs
  deal_length xs zs none_dealt = refl
  deal_length xs zs (one_dealt {x = x} {xs = ys} f g p h) =
      let r = deal_length ys (f ++ g) h in omega (arith, r, ap length p, length-append f (x ∷ g), length-append f g)

  pub deal_each : (P : A → Type 0) (xs zs : List A) → Deal xs zs → Each P zs → Each P xs
  deal_each P xs zs none_dealt e = tt
  deal_each P xs zs (one_dealt {x = x} {xs = ys} f g p h) e =
      let parts = each_parts P f (x ∷ g) (subst (λ w. Each P w) p e) in
      (parts.1.0, deal_each P ys (f ++ g) h (each_append P f g parts.0 parts.1.1))

  pub deal_back : (P : A → Type 0) (xs zs : List A) → Deal xs zs → Each P xs → Each P zs
  deal_back P xs zs none_dealt e = tt
  deal_back P xs zs (one_dealt {x = x} {xs = ys} f g p h) e =
      let parts = each_parts P f g (deal_back P ys (f ++ g) h e.1) in
      subst (λ w. Each P w) (sym p) (each_append P f (x ∷ g) parts.0 (e.0, parts.1))

-- no number stands twice
abbrev pub Unlike : List Wait → Type 0
Unlike [] = Unit {0}
Unlike (w ∷ ws) = Each (λ v. v.number ≡ w.number → ⊥) ws × Unlike ws

pub unlike_parts : (a : List Wait) (w : Wait) (b : List Wait) → Unlike (a ++ w ∷ b) →
    Each (λ v. v.number ≡ w.number → ⊥) (a ++ b) × Unlike (a ++ b)
unlike_parts [] w b u = u
unlike_parts (v ∷ a) w b u =
    let r = unlike_parts a w b u.1 in
    let p = each_parts (λ x. x.number ≡ v.number → ⊥) a (w ∷ b) u.0 in
    (((λ h. p.1.0 (sym h)), r.0), (each_append (λ x. x.number ≡ v.number → ⊥) a b p.0 p.1.1, r.1))

pub deal_unlike : (xs zs : List Wait) → Deal xs zs → Unlike zs → Unlike xs
deal_unlike xs zs none_dealt u = tt
deal_unlike xs zs (one_dealt {x = x} {xs = ys} f g p h) u =
    let r = unlike_parts f x g (subst (λ w. Unlike w) p u) in
    (deal_each (λ v. v.number ≡ x.number → ⊥) ys (f ++ g) h r.0, deal_unlike ys (f ++ g) h r.1)

pub deal_has : (n : ℕ) (xs zs : List Wait) → Deal xs zs → has n xs ≡ has n zs
deal_has n xs zs none_dealt = refl
deal_has n xs zs (one_dealt {x = x} {xs = ys} f g p h) =
    ap (λ b. cond (eqn n x.number) true b) (deal_has n ys (f ++ g) h ∙ has_append n f g) ∙
    (order (eqn n x.number) (has n f) (has n g) ∙ sym (ap (λ w. has n w) p ∙ has_append n f (x ∷ g)))
  where
    order : (a b c : Bool) → cond a true (cond b true c) ≡ cond b true (cond a true c)
    order true true c = refl
    order true false c = refl
    order false b c = refl

least_move : (s : State) (f : List Wait) (x : Wait) (g : List Wait) → Each (λ v. v.number ≡ x.number → ⊥) f →
    least s (f ++ x ∷ g) ≡ sooner_of x.number (due_of s x.number x.cause) (least s (f ++ g))
least_move s [] x g d = refl
least_move s (v ∷ f) x g d =
    ap (λ o. sooner_of v.number (due_of s v.number v.cause) o) (least_move s f x g d.1) ∙
    sooner_of_swaps v.number x.number (due_of s v.number v.cause) (due_of s x.number x.cause) (least s (f ++ g)) d.0

pub least_deal : (s : State) (xs zs : List Wait) → Deal xs zs → Unlike zs → least s xs ≡ least s zs
least_deal s xs zs none_dealt u = refl
least_deal s xs zs (one_dealt {x = x} {xs = ys} f g p h) u =
    let r = unlike_parts f x g (subst (λ w. Unlike w) p u) in
    ap (λ o. sooner_of x.number (due_of s x.number x.cause) o) (least_deal s ys (f ++ g) h r.1) ∙
    (sym (least_move s f x g (each_parts (λ v. v.number ≡ x.number → ⊥) f g r.0).0) ∙ ap (λ w. least s w) (sym p))

-- waits of entries
abbrev pub with_entry : Entry → List Wait → List Wait
with_entry (slept y) ws = waits_with y.rest ws
with_entry (held i w arms) ws = ws

abbrev pub waits_in : List Entry → List Wait
waits_in [] = []
waits_in (e ∷ es) = with_entry e (waits_in es)

pub slept_waits : (ts : List m.Task) → waits_in (map slept ts) ≡ waits_of ts
slept_waits [] = refl
slept_waits (t ∷ ts) = ap (λ w. waits_with t.rest w) (slept_waits ts)

with_append : (e : Entry) (a b : List Wait) → with_entry e (a ++ b) ≡ with_entry e a ++ b
with_append (held i w arms) a b = refl
with_append (slept y) a b = go y.rest
  where
    go : (r : Rest) → waits_with r (a ++ b) ≡ waits_with r a ++ b
    go (asleep w) = refl
    go (group k p gs) = refl

pub waits_append : (a b : List Entry) → waits_in (a ++ b) ≡ waits_in a ++ waits_in b
waits_append [] b = refl
waits_append (e ∷ a) b = ap (λ w. with_entry e w) (waits_append a b) ∙ with_append e (waits_in a) (waits_in b)

pub held_append : (id : ℕ) (h : Held) (a b : List (ℕ × Wait)) → with_held id h (a ++ b) ≡ with_held id h a ++ b
held_append id by_machine a b = refl
held_append id (by_itself f bl (asleep w)) a b = refl
held_append id (by_itself f bl (group k p gs)) a b = refl

pub told_append : (a b : List (ℕ × Wait)) → waits_told (a ++ b) ≡ waits_told a ++ waits_told b
told_append [] b = refl
told_append (x ∷ a) b = ap (λ w. x.1 ∷ w) (told_append a b)

module _ {T : Type 0} (slot : T → Slot) where
  pub sleeping_append : (a b : List (Task T)) → sleeping slot (a ++ b) ≡ sleeping slot a ++ sleeping slot b
  sleeping_append [] b = refl
  sleeping_append (t ∷ a) b = ap (λ w. with_held t.number (slot t.item).held w) (sleeping_append a b) ∙
      held_append t.number (slot t.item).held (sleeping slot a) (sleeping slot b)

  -- a task's own wait, if any, before others
  one_more : (id : ℕ) (h : Held) (e : Entry) → Shows id h e → (a b : List Wait) (xs : List (ℕ × Wait)) → Deal (a ++ b) (waits_told xs) →
      Deal (a ++ with_entry e b) (waits_told (with_held id h xs))
  one_more id by_machine (slept y) s a b xs d = absurd s
  one_more id by_machine (held i w arms) s a b xs d = d
  one_more id (by_itself f bl r) (held i w arms) s a b xs d = absurd s
  one_more id (by_itself f bl r) (slept y) s a b xs d =
      subst (λ q. Deal (a ++ waits_with q b) (waits_told (with_rest id r xs))) (sym s.2) (go r)
    where
      go : (r : Rest) → Deal (a ++ waits_with r b) (waits_told (with_rest id r xs))
      go (asleep w) = move w a b (w ∷ waits_told xs) (one_dealt [] (waits_told xs) refl d)
      go (group k p gs) = d

  pub rose_deal : (q : Parent T) (most : ℕ) (c : Rose T) → Good slot q most c →
      Deal (waits_in (post c)) (waits_told (sleeping slot (pre c)))
  rose_deal q most empty g = none_dealt
  rose_deal q most (node t e k r) g =
      let inner = deal_append (waits_in (post k)) (waits_told (sleeping slot (pre k))) (waits_in (post r))
      (waits_told (sleeping slot (pre r))) (rose_deal (under t e) (number_of slot t) k g.2) (rose_deal q (number_of slot t) r g.3) in
      let both : Deal (waits_in (post k) ++ waits_in (post r)) (waits_told (sleeping slot (pre k ++ pre r))) =
      subst (λ w. Deal (waits_in (post k) ++ waits_in (post r)) w)
      (sym (ap (λ w. waits_told w) (sleeping_append (pre k) (pre r)) ∙ told_append (sleeping slot (pre k)) (sleeping slot (pre r))))
      inner in
      subst (λ w. Deal w (waits_told (sleeping slot (t ∷ pre k ++ pre r)))) (sym (waits_append (post k) (e ∷ post r)))
      (one_more t.number (slot t.item).held e g.0.shows (waits_in (post k)) (waits_in (post r)) (sleeping slot (pre k ++ pre r)) both)

  abbrev pub waits_all : List (Rose T) → List Wait
  waits_all [] = []
  waits_all (c ∷ cs) = waits_in (post c) ++ waits_all cs

  all_waits_append : (a b : List (Rose T)) → waits_told (sleeping slot (pre_all (a ++ b))) ≡ waits_told (sleeping slot (pre_all a)) ++
      waits_told (sleeping slot (pre_all b))
  all_waits_append a b = ap (λ ts. waits_told (sleeping slot ts)) (go a) ∙
      (ap (λ w. waits_told w) (sleeping_append (pre_all a) (pre_all b)) ∙
      told_append (sleeping slot (pre_all a)) (sleeping slot (pre_all b)))
    where
      go : (a : List (Rose T)) → pre_all (a ++ b) ≡ pre_all a ++ pre_all b
      go [] = refl
      go (c ∷ a) = ap (λ w. pre c ++ w) (go a) ∙ sym (append_assoc (pre c) (pre_all a) (pre_all b))

  pub trees_deal : (trees roots : List (Rose T)) → Deal trees roots → GoodTrees slot trees →
      Deal (waits_all trees) (waits_told (sleeping slot (pre_all roots)))
  trees_deal trees roots none_dealt g = none_dealt
  trees_deal trees roots (one_dealt {x = c} {xs = cs} f b p h) g =
      let told : List (Rose T) → List Wait = λ ws. waits_told (sleeping slot (pre_all ws)) in
      let mine : Deal (waits_in (post c)) (waits_told (sleeping slot (pre c))) = rose_deal no_parent g.0.most c g.0.good in
      let rest : Deal (waits_all cs) (told f ++ told b) =
      subst (λ w. Deal (waits_all cs) w) (all_waits_append f b) (trees_deal cs (f ++ b) h g.1) in
      let whole : told roots ≡ told f ++ (waits_told (sleeping slot (pre c)) ++ told b) =
      ap told p ∙ (all_waits_append f (c ∷ b) ∙
      ap (λ w. told f ++ w) (ap (λ w. waits_told w) (sleeping_append (pre c) (pre_all b)) ∙
      told_append (sleeping slot (pre c)) (sleeping slot (pre_all b)))) in
      subst (λ w. Deal (waits_in (post c) ++ waits_all cs) w) (sym whole)
      (spread (waits_in (post c)) (waits_told (sleeping slot (pre c))) (waits_all cs) (told f) (told b) mine rest)
    where
      spread : (a b xs f g : List Wait) → Deal a b → Deal xs (f ++ g) → Deal (a ++ xs) (f ++ (b ++ g))
      spread a b xs f g none_dealt d = d
      spread a b xs f g (one_dealt {x = x} {xs = ys} l r p h) d =
          one_dealt (f ++ l) (r ++ g) (ap (λ w. f ++ (w ++ g)) p ∙ simp append_assoc)
          (subst (λ w. Deal (ys ++ xs) w) (simp append_assoc) (spread ys (l ++ r) xs f g h d))

  abbrev lists_waits : List (List Entry) → List Wait
  lists_waits [] = []
  lists_waits (es ∷ ess) = waits_in es ++ lists_waits ess

  shown_lists : (trees : List (Rose T)) (ess : List (List Entry)) → Shown trees ess → waits_all trees ≡ lists_waits ess
  shown_lists trees ess none_shown = refl
  shown_lists trees ess (empty_shown {ess = fs} s) = shown_lists trees fs s
  shown_lists trees ess (tree_shown {cs = cs} {es = es} {ess = fs} p s) =
      ap (λ w. waits_in w ++ waits_all cs) p ∙ ap (λ w. waits_in es ++ w) (shown_lists cs fs s)

  pub shown_waits : (trees : List (Rose T)) (tss : List (List m.Task)) → Shown trees (trees_entries tss) → waits_all trees ≡ tree_waits tss
  shown_waits trees tss s = shown_lists trees (trees_entries tss) s ∙ go tss
    where
      go : (tss : List (List m.Task)) → lists_waits (trees_entries tss) ≡ tree_waits tss
      go [] = refl
      go (ts ∷ tss) = ap (λ w. w ++ lists_waits (trees_entries tss)) (slept_waits ts) ∙ ap (λ w. waits_of ts ++ w) (go tss)
