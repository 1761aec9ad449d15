-- No two of the tasks that are spelled have one path.
use Rattle.std.proofs.Common.{◌≡◌, ℕ, zero, suc, ◌+◌, ◌*◌, ◌≤◌, length, List, [], ◌∷◌, ◌++◌, Option, Some, None, Bool, true, false, cond}
use Rattle.std.proofs.Common.{refl}
use Rattle.std.proofs.Common.{subst, ap, ◌∙◌, arith}
use Rattle.verse_base.proofs.Facts.{clash}
use Rattle.verse_code.specs.declared.codes.Code.{Code}
use Rattle.verse_meaning_state.specs.Waits.{eqn, ltn}
use Rattle.verse_meaning_state.proofs.Numbers.{eqn_same}
use Rattle.verse_code_machine.specs.Tasks.{Frame, Who, same_path}
use Rattle.run_save_shots.specs.Kept.{KeptTask, Kept}
use Rattle.run_save_shots.specs.Naming.{number_at, named, parent_in}
use Rattle.run_save_shots.specs.Spelling.{frames_from, with_frames, who, task, tasks_from}
use Rattle.run_save_resumes.proofs.Adding.{one, tasks_sum, is_named, tasks_join}

pub one_most : (b : Bool) → one b ≤ 1
one_most true = omega arith
one_most false = omega arith

-- the last number of a path
abbrev last : List ℕ → ℕ
last [] = 0
last (n ∷ []) = n
last (n ∷ m ∷ ns) = last (m ∷ ns)

last_end : (a : List ℕ) (n : ℕ) → last (a ++ n ∷ []) ≡ n
last_end [] n = refl
last_end (i ∷ []) n = refl
last_end (i ∷ j ∷ a) n = last_end (j ∷ a) n

named_last : (o : Option Who) (entry : Option ℕ) (n : ℕ) → last (named o entry n).path ≡ n
named_last None entry n = refl
named_last (Some w) entry n = last_end w.path n

-- ---- numbers

same_last : (p q : List ℕ) → same_path p q ≡ true → last p ≡ last q
same_last p q e = ap last (same_is p q e)
  where
    same_is : (p q : List ℕ) → same_path p q ≡ true → p ≡ q
    same_is [] [] e = refl
    same_is [] (j ∷ q) e = clash false (e) refl
    same_is (i ∷ p) [] e = clash false (e) refl
    same_is (i ∷ p) (j ∷ q) e = by_test (eqn i j) (eqn_is i j) e (same_is p q)
      where
        eqn_is : (a b : ℕ) → eqn a b ≡ true → a ≡ b
        eqn_is zero zero e = refl
        eqn_is zero (suc b) e = clash false e refl
        eqn_is (suc a) zero e = clash false e refl
        eqn_is (suc a) (suc b) e = ap suc (eqn_is a b e)

        both : i ≡ j → p ≡ q → i ∷ p ≡ j ∷ q
        both e f = cc

        by_test : (b : Bool) → (b ≡ true → i ≡ j) → cond b (same_path p q) false ≡ true → (same_path p q ≡ true → p ≡ q) → i ∷ p ≡ j ∷ q
        by_test true f e g = both (f refl) (g e)
        by_test false f e g = clash false e refl

same_number : (p q : List ℕ) (n : ℕ) → last q ≡ n → one (same_path p q) ≤ one (eqn (last p) n)
same_number p q n e = by_test (same_path p q) refl
  where
    by_test : (b : Bool) → same_path p q ≡ b → one b ≤ one (eqn (last p) n)
    by_test true f = let g = ap one (subst (λ i. eqn (last p) i ≡ true) (same_last p q f ∙ e) (eqn_same (last p))) in omega (arith, g)
    by_test false f = omega arith

ltn_more : (k n m : ℕ) → n ≤ m → one (ltn k n) ≤ one (ltn k m)
ltn_more k zero m h = omega arith
ltn_more k (suc n) zero h = absurd (omega (arith, h))
ltn_more zero (suc n) (suc m) h = omega arith
ltn_more (suc k) (suc n) (suc m) h = ltn_more k n m (omega (arith, h))

drawn_once : (n k : ℕ) → one (eqn n k) + one (ltn n k) ≤ one (ltn n (suc k))
drawn_once zero zero = omega arith
drawn_once zero (suc k) = omega arith
drawn_once (suc n) zero = omega arith
drawn_once (suc n) (suc k) = drawn_once n k

module _ (c : Code) (s : Kept) where
  -- numbers fall along the list
  falls : (t : KeptTask) (ts : List KeptTask) → suc (number_at s ts) ≤ number_at s (t ∷ ts)
  falls t ts = less s.left s.spent (length ts) (suc s.spent * suc (length ts)) (more (suc s.spent) (length ts))
    where
      more : (n k : ℕ) → n * suc k ≡ n + n * k
      more n k = omega arith

      less : (l n k all : ℕ) → all ≡ suc n + suc n * k → suc (l + suc n * k) ≤ l + all
      less l n k all e = omega (arith, e)

  with_named : (at : ℕ) (t : KeptTask) (ts : List KeptTask) (p : List ℕ) (w : Who) (fs : List Frame) →
      tasks_sum (is_named p) (with_frames c s at t ts w fs) ≤ one (same_path p w.path)
  with_named at t ts p w [] = omega arith
  with_named at t ts p w (f ∷ fs) = omega arith

  numbered : (p : List ℕ) (ws : List Who) (ts : List KeptTask) →
      tasks_sum (is_named p) (tasks_from c s ws ts) ≤ one (ltn (last p) (suc (number_at s ts)))
  numbered p ws [] = omega arith
  numbered p ws (t ∷ ts) =
      let w = who c s (length ws) t ts ws in
      let a = tasks_join (is_named p) (task c s (length ws) t ts ws) (tasks_from c s (ws ++ w ∷ []) ts) in
      let b = with_named (length ws) t ts p w (frames_from c s (length ws) t ts 0 t.frames []) in
      let d = same_number p w.path (number_at s (t ∷ ts)) (named_last (parent_in ws t.parent) t.root (number_at s (t ∷ ts))) in
      let e = numbered p (ws ++ w ∷ []) ts in
      let f = ltn_more (last p) (suc (number_at s ts)) (number_at s (t ∷ ts)) (falls t ts) in
      let g = drawn_once (last p) (number_at s (t ∷ ts)) in
      sums (tasks_sum (is_named p) (tasks_from c s ws (t ∷ ts))) _ _ _ _ _ _ _ a b d e f g
    where
      sums : (all x y i j k l m : ℕ) → all ≡ x + y → x ≤ i → i ≤ j → y ≤ k → k ≤ l → j + l ≤ m → all ≤ m
      sums all x y i j k l m a b d e f g = omega (arith, a, b, d, e, f, g)

  pub names_apart : (p : List ℕ) → tasks_sum (is_named p) (tasks_from c s [] s.tasks) ≤ 1
  names_apart p = further _ _ (numbered p [] s.tasks) (one_most (ltn (last p) (suc (number_at s s.tasks))))
    where
      further : (i j : ℕ) → i ≤ j → j ≤ 1 → i ≤ 1
      further i j e f = omega (arith, e, f)
