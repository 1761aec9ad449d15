-- The numbers of the nodes of functions, methods and fields rise, and those of functions and methods are in the table.
use Rattle.std.proofs.Common.{ℕ, suc, ◌+◌, ◌<◌, ◌≤◌, List, [], ◌∷◌, map, Option, Some, None, sym, subst, arith}
use Rattle.verse_tree.specs.Tree.{Tree}
use Rattle.verse_tree.specs.ItemTree.{FieldTree, MemberTree, field, method, ItemTree, using, enumeration, class, function}
use Rattle.verse_tree.specs.Numbering.{list_nodes, field_nodes, field_numbered}
use Rattle.verse_tree.specs.Numbering.{fun_nodes, fun_numbered, member_nodes, class_nodes}
use Rattle.verse_tree.specs.Numbering.{items_nodes, items_numbered}
use Rattle.verse_names_items.specs.Nodes.{IsNumbered}
use Rattle.verse_meaning.specs.Programs.{own_fields}
use Rattle.lower_code.specs.Defaults.{with_default, with_defaults, defaults_in}
use Rattle.lower_simulation_runs.specs.Programs.{methods_defined, defined_in, number_in, Distinct, field_number}
use Rattle.verse_accept_classes.proofs.Functions.{Rise, lower, distinct, joined, members_from}

one : (n x m k : ℕ) → n ≤ x → x < m → m ≤ k → Rise n (x ∷ []) k
one n x m k h l g = (h, omega (arith, l, g))

-- ---- functions and methods

methods_rise : (ms : List MemberTree) (n : ℕ) → Rise n (map number_in (methods_defined (members_from ms n)))
    (n + list_nodes member_nodes ms)
methods_rise [] n = omega arith
methods_rise (field f ∷ ms) n =
    let rest = methods_rise ms (n + field_nodes f) in
    subst (λ m. Rise n (map number_in (methods_defined (members_from ms (n + field_nodes f)))) m) (omega arith)
    (lower n (n + field_nodes f) _ _ (omega arith) rest)
methods_rise (method f ∷ ms) n =
    let rest = methods_rise ms (n + fun_nodes f) in (
      omega arith,
      subst (λ m. Rise (suc (fun_numbered f n).number) (map number_in (methods_defined (members_from ms (n + fun_nodes f)))) m)
          (omega arith) (lower (suc (fun_numbered f n).number) (n + fun_nodes f) _ _ (omega arith) rest),
    )

items_rise : (is : List ItemTree) (n : ℕ) → Rise n (map number_in (defined_in (items_numbered is n))) (n + items_nodes is)
items_rise [] n = omega arith
items_rise (using u ∷ is) n =
    subst (λ m. Rise n (map number_in (defined_in (items_numbered is (n + 1)))) m) (omega arith)
    (lower n (n + 1) _ _ (omega arith) (items_rise is (n + 1)))
items_rise (enumeration e ∷ is) n =
    subst (λ m. Rise n (map number_in (defined_in (items_numbered is (n + 1)))) m) (omega arith)
    (lower n (n + 1) _ _ (omega arith) (items_rise is (n + 1)))
items_rise (class c ∷ is) n =
    let behind = n + list_nodes member_nodes c.members in
    subst (λ m. Rise n (map number_in (defined_in (items_numbered (class c ∷ is) n))) m) (omega arith)
    (joined number_in n behind (n + class_nodes c + items_nodes is) (methods_defined (members_from c.members n))
    (defined_in (items_numbered is (n + class_nodes c))) (methods_rise c.members n)
    (lower behind (n + class_nodes c) _ _ (omega arith) (items_rise is (n + class_nodes c))))
items_rise (function f ∷ is) n =
    let rest = items_rise is (n + fun_nodes f) in (
      omega arith,
      subst (λ m. Rise (suc (fun_numbered f n).number) (map number_in (defined_in (items_numbered is (n + fun_nodes f)))) m)
          (omega arith) (lower (suc (fun_numbered f n).number) (n + fun_nodes f) _ _ (omega arith) rest),
    )

pub defined_apart : (is : List ItemTree) (n : ℕ) → IsNumbered is n → Distinct (map number_in (defined_in is))
defined_apart is n h = subst (λ l. Distinct (map number_in (defined_in l))) (sym h.1)
    (distinct 0 _ _ (items_rise h.0 0))

-- ---- fields with defaults

one_field : (f : FieldTree) (o : Option Tree) (n m : ℕ) → n ≤ f.number → f.number < m → Rise n (map field_number (with_default f o)) m
one_field f None n m h l = omega (arith, h, l)
one_field f (Some a) n m h l = (h, l)

fields_rise : (ms : List MemberTree) (n : ℕ) →
    Rise n (map field_number (with_defaults (own_fields (members_from ms n)))) (n + list_nodes member_nodes ms)
fields_rise [] n = omega arith
fields_rise (field f ∷ ms) n =
    let g = field_numbered f n in
    let m = n + field_nodes f in
    subst (λ m. Rise n (map field_number (with_defaults (own_fields (members_from (field f ∷ ms) n)))) m)
    (omega arith)
    (joined field_number n m (m + list_nodes member_nodes ms) (with_default g g.default)
    (with_defaults (own_fields (members_from ms m)))
    (one_field g g.default n m (omega arith) (omega arith)) (fields_rise ms m))
fields_rise (method f ∷ ms) n =
    let rest = fields_rise ms (n + fun_nodes f) in
    subst (λ m. Rise n (map field_number (with_defaults (own_fields (members_from ms (n + fun_nodes f))))) m)
    (omega arith) (lower n (n + fun_nodes f) _ _ (omega arith) rest)

defaults_rise : (is : List ItemTree) (n : ℕ) → Rise n (map field_number (defaults_in (items_numbered is n))) (n + items_nodes is)
defaults_rise [] n = omega arith
defaults_rise (using u ∷ is) n =
    subst (λ m. Rise n (map field_number (defaults_in (items_numbered is (n + 1)))) m) (omega arith)
    (lower n (n + 1) _ _ (omega arith) (defaults_rise is (n + 1)))
defaults_rise (enumeration e ∷ is) n =
    subst (λ m. Rise n (map field_number (defaults_in (items_numbered is (n + 1)))) m) (omega arith)
    (lower n (n + 1) _ _ (omega arith) (defaults_rise is (n + 1)))
defaults_rise (class c ∷ is) n =
    let behind = n + list_nodes member_nodes c.members in
    subst (λ m. Rise n (map field_number (defaults_in (items_numbered (class c ∷ is) n))) m) (omega arith)
    (joined field_number n behind (n + class_nodes c + items_nodes is)
    (with_defaults (own_fields (members_from c.members n)))
    (defaults_in (items_numbered is (n + class_nodes c))) (fields_rise c.members n)
    (lower behind (n + class_nodes c) _ _ (omega arith) (defaults_rise is (n + class_nodes c))))
defaults_rise (function f ∷ is) n =
    subst (λ m. Rise n (map field_number (defaults_in (items_numbered is (n + fun_nodes f)))) m) (omega arith)
    (lower n (n + fun_nodes f) _ _ (omega arith) (defaults_rise is (n + fun_nodes f)))

pub defaults_apart : (is : List ItemTree) (n : ℕ) → IsNumbered is n → Distinct (map field_number (defaults_in is))
defaults_apart is n h = subst (λ l. Distinct (map field_number (defaults_in l))) (sym h.1)
    (distinct 0 _ _ (defaults_rise h.0 0))
