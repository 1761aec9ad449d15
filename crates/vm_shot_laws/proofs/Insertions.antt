-- A task that is put behind its parent, and so the order in which tasks are kept.
use Rattle.std.proofs.Common.{◌≡◌, ℕ, suc, ◌+◌, ◌<◌, length, List, [], ◌∷◌, ◌++◌, Bool, true, false, cond, refl}
use Rattle.std.proofs.Common.{sym, ap, ◌∙◌, append_assoc, arith}
use Rattle.std.proofs.Common.{length-append}
use Rattle.task_tree.specs.Tasks.{Task}
use Rattle.verse_meaning_state.specs.Waits.{eqn}
use Rattle.verse_code_machine.specs.Tasks as m
use Rattle.verse_code_machine.specs.Tasks.{same_path}
use Rattle.verse_code_machine.specs.Runs.{Forest}
use Rattle.verse_code_machine.proofs.Paths.{same_self}
use Rattle.vm_tasks_laws.specs.Slots.{Slot, slept, Parent, no_parent, under, path_under}
use Rattle.vm_tasks_laws.specs.Roses.{Rose, node, IsOne, Good, GoodTrees}
use Rattle.run_save_shots.specs.Keeping.{behind_parent, walked, walk}
use Rattle.vm_shot_laws.proofs.Pairs.{Told, none_told, one_told, Arranged, none_arranged, empty_arranged}
use Rattle.vm_shot_laws.proofs.Pairs.{tree_arranged}

-- tasks are put behind their parents, the last one first
abbrev pub put_all : List m.Task → List m.Task → List m.Task
put_all [] xs = xs
put_all (y ∷ ys) xs = behind_parent y (put_all ys xs)

walked_all : (ts : List m.Task) → walked ts ≡ put_all ts []
walked_all [] = refl
walked_all (y ∷ ys) = ap (λ w. behind_parent y w) (walked_all ys)

put_append : (a b xs : List m.Task) → put_all (a ++ b) xs ≡ put_all a (put_all b xs)
put_append [] b xs = refl
put_append (y ∷ a) b xs = ap (λ w. behind_parent y w) (put_append a b xs)

pub same_length : (a b : List ℕ) → same_path a b ≡ true → length a ≡ length b
same_length [] [] e = refl
same_length [] (j ∷ b) e = absurd (cc)
same_length (i ∷ a) [] e = absurd (cc)
same_length (i ∷ a) (j ∷ b) e = two (eqn i j) e (λ f. same_length a b f)
  where
    two : (t : Bool) → cond t (same_path a b) false ≡ true → (same_path a b ≡ true → length a ≡ length b) →
        suc (length a) ≡ suc (length b)
    two true f g = ap suc (g f)
    two false f g = absurd (cc)

-- the names of these are shorter
abbrev pub AllShorter : ℕ → List m.Task → Type 0
AllShorter n [] = Unit {0}
AllShorter n (x ∷ xs) = (length x.thread.who.path < n) × AllShorter n xs

shorter_more : (n k : ℕ) (xs : List m.Task) (y : m.Task) → n < k → length y.thread.who.path ≡ n → AllShorter n xs →
    AllShorter k (xs ++ y ∷ [])
shorter_more n k [] y h e a = (omega (arith, h, e), tt)
shorter_more n k (x ∷ xs) y h e a = let f = a.0 in (omega (arith, h, f), shorter_more n k xs y h e a.1)

put_there : (y z : m.Task) (front back : List m.Task) → y.thread.who.up ≡ z.thread.who.path →
    AllShorter (length z.thread.who.path) front → behind_parent y (front ++ z ∷ back) ≡ front ++ z ∷ y ∷ back
put_there y z [] back e a =
    ap (λ b. cond b (z ∷ y ∷ back) (z ∷ behind_parent y back)) (ap (λ p. same_path p z.thread.who.path) e ∙ same_self z.thread.who.path)
put_there y z (x ∷ front) back e a = two (same_path y.thread.who.up x.thread.who.path) refl (put_there y z front back e a.1)
  where
    two : (b : Bool) → same_path y.thread.who.up x.thread.who.path ≡ b →
        behind_parent y (front ++ z ∷ back) ≡ front ++ z ∷ y ∷ back →
        cond b (x ∷ y ∷ (front ++ z ∷ back)) (x ∷ behind_parent y (front ++ z ∷ back)) ≡ x ∷ (front ++ z ∷ y ∷ back)
    two true f g =
        let same = same_length y.thread.who.up x.thread.who.path f in let short = a.0 in let up = ap length e in
        absurd (omega (arith, same, short, up))
    two false f g = ap (λ w. x ∷ w) g

module _ {T : Type 0} (slot : T → Slot) where
  -- a name goes on from the parent's
  longer : (q : Parent T) (t : Task T) (y : m.Task) (k r : Rose T) (most : ℕ) → Good slot q most (node t (slept y) k r) →
      (y.thread.who.up ≡ path_under q) × (length y.thread.who.path ≡ suc (length (path_under q)))
  longer q t y k r most g = let w = g.0.who in (
    ap (λ (w : m.Who). w.up) w,
    ap (λ (w : m.Who). length w.path) w ∙ (length-append (path_under q) ((slot t.item).number ∷ []) ∙ one (length (path_under q))),
  )
    where
      one : (n : ℕ) → n + 1 ≡ suc n
      one n = omega arith

  put_told : (u : Task T) (z : m.Task) (most : ℕ) (c : Rose T) (ts ps front back : List m.Task) → Told c ts ps →
      Good slot (under u (slept z)) most c → AllShorter (length z.thread.who.path) front →
      put_all ts (front ++ z ∷ back) ≡ front ++ z ∷ (ps ++ back)
  put_told u z most c ts ps front back none_told g a = refl
  put_told u z most c ts ps front back (one_told {t = t} {y = y} {k = k} {r = r} {ks = ks} {kp = kp} {rs = rs} {rp = rp} a b) g s =
      let l = longer (under u (slept z)) t y k r most g in
      let long : length y.thread.who.path ≡ suc (length z.thread.who.path) = l.1 in
      put_append ks (y ∷ rs) (front ++ z ∷ back)
      ∙ (ap (λ w. put_all ks (behind_parent y w)) (put_told u z _ r rs rp front back b g.3 s)
      ∙ (ap (λ w. put_all ks w) (put_there y z front (rp ++ back) l.0 s ∙ turned front z (y ∷ (rp ++ back)))
      ∙ (put_told t y _ k ks kp (front ++ z ∷ []) (rp ++ back) a g.2 (shorter_more (length z.thread.who.path) (length y.thread.who.path)
      front z (omega (arith, long)) refl s)
      ∙ (sym (turned front z (y ∷ (kp ++ (rp ++ back)))) ∙ ap (λ w. front ++ z ∷ y ∷ w) (sym (append_assoc kp rp back))))))
    where
      turned : (front : List m.Task) (z : m.Task) (xs : List m.Task) → front ++ z ∷ xs ≡ (front ++ z ∷ []) ++ xs
      turned [] z xs = refl
      turned (x ∷ front) z xs = ap (λ w. x ∷ w) (turned front z xs)

  -- a tree: its root, and what that encloses
  tree_told : (most : ℕ) (c : Rose T) (ts ps : List m.Task) → IsOne c → Good slot no_parent most c → Told c ts ps → walked ts ≡ ps
  tree_told most c ts ps one g none_told = absurd one
  tree_told most c ts ps one g (one_told {t = t} {y = y} {k = k} {ks = ks} {kp = kp} a none_told) =
      walked_all (ks ++ y ∷ []) ∙ (put_append ks (y ∷ []) [] ∙ put_told t y _ k ks kp [] [] a g.2 tt)
  tree_told most c ts ps one g (one_told a (one_told b d)) = absurd one

  pub walk_told : (cs : List (Rose T)) (tss : Forest) (ps : List m.Task) → GoodTrees slot cs → Arranged cs tss ps → walk tss ≡ ps
  walk_told cs tss ps g none_arranged = refl
  walk_told cs tss ps g (empty_arranged {tss = uss} a) = walk_told cs uss ps g a
  walk_told cs tss ps g (tree_arranged {c = c} {cs = ds} {ts = ts} {qs = qs} {tss = uss} {ps = rs} t a) =
      ap (λ w. w ++ walk uss) (tree_told g.0.most c ts qs g.0.one g.0.good t) ∙ ap (λ w. qs ++ w) (walk_told ds uss rs g.1 a)
