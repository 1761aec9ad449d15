-- Sums over tasks.
use Rattle.std.proofs.Common.{◌≡◌, ℕ, ◌+◌, List, [], ◌∷◌, ◌++◌, Bool, true, false, arith}
use Rattle.verse_code_machine.specs.Tasks.{Task, same_path}
use Rattle.verse_code_machine.specs.Runs.{Forest}

abbrev pub one : Bool → ℕ
one true = 1
one false = 0

abbrev pub tasks_sum : (Task → ℕ) → List Task → ℕ
tasks_sum f [] = 0
tasks_sum f (t ∷ ts) = f t + tasks_sum f ts

abbrev pub trees_sum : (Task → ℕ) → Forest → ℕ
trees_sum f [] = 0
trees_sum f (ts ∷ tss) = tasks_sum f ts + trees_sum f tss

-- 1 of the task of this path
abbrev pub is_named : List ℕ → Task → ℕ
is_named p t = one (same_path p t.thread.who.path)

pub tasks_join : (f : Task → ℕ) (xs ys : List Task) → tasks_sum f (xs ++ ys) ≡ tasks_sum f xs + tasks_sum f ys
tasks_join f [] ys = omega arith
tasks_join f (x ∷ xs) ys = let h = tasks_join f xs ys in omega (arith, h)

pub one_tree : (f : Task → ℕ) (tss : Forest) (ts : List Task) → trees_sum f (tss ++ ts ∷ []) ≡ trees_sum f tss + tasks_sum f ts
one_tree f [] ts = omega arith
one_tree f (us ∷ tss) ts = let h = one_tree f tss ts in omega (arith, h)
