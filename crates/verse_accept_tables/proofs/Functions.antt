-- The table of functions has an entry for each function and each method, in the order of the items.
use Rattle.std.proofs.Common.{◌≡◌, ℕ, suc, List, [], ◌∷◌, ◌++◌, map, length, refl, sym, ap, ◌∙◌, arith}
use Rattle.std.proofs.lemmas.List.{map-append, length-map, length-append}
use Rattle.verse_tree.specs.ItemTree.{MemberTree, field, method, ItemTree, using, enumeration, class, function}
use Rattle.verse_tree.specs.declared.tables.FunInfo.{FunInfo}
use Rattle.verse_names_tables.specs.Names.{Table}
use Rattle.verse_names_tables.specs.Functions.{Function, fun_function}
use Rattle.verse_names_tables.specs.Counting.{counted, counts_after}
use Rattle.verse_names_declarations.specs.Known.{members_functions, functions}
use Rattle.verse_names_tables.specs.declared.counting.Counts.{Counts}
use Rattle.verse_rules.specs.Naming.{made_function}
use Rattle.lower_code.specs.Programs.{methods_in, bodies_in}
use Rattle.lower_simulation_runs.specs.Programs.{Defined, tree_in, number_in, methods_defined, defined_in}

abbrev pub as_function : Table → Defined → Function
as_function ts d = fun_function ts (tree_in d)

methods_are : (ts : Table) (ms : List MemberTree) → members_functions ts ms ≡ map (as_function ts) (methods_defined ms)
methods_are ts [] = refl
methods_are ts (field f ∷ ms) = methods_are ts ms
methods_are ts (method f ∷ ms) = ap (λ fs. fun_function ts f ∷ fs) (methods_are ts ms)

pub functions_are : (ts : Table) (is : List ItemTree) (n : Counts) → functions ts (counted n is) ≡ map (as_function ts) (defined_in is)
functions_are ts [] n = refl
functions_are ts (using u ∷ is) n = functions_are ts is (counts_after (using u) n)
functions_are ts (enumeration e ∷ is) n = functions_are ts is (counts_after (enumeration e) n)
functions_are ts (class c ∷ is) n =
    ap (λ fs. fs ++ functions ts (counted (counts_after (class c) n) is)) (methods_are ts c.members) ∙
    ap (λ fs. map (as_function ts) (methods_defined c.members) ++ fs) (functions_are ts is (counts_after (class c) n)) ∙
    sym (map-append (as_function ts) (methods_defined c.members) (defined_in is))
functions_are ts (function f ∷ is) n = ap (λ fs. fun_function ts f ∷ fs) (functions_are ts is (counts_after (function f) n))

abbrev node_of : FunInfo → ℕ
node_of f = f.item

nodes_are : (ts : Table) (ds : List Defined) → map node_of (map made_function (map (as_function ts) ds)) ≡ map number_in ds
nodes_are ts [] = refl
nodes_are ts (d ∷ ds) = ap (λ ns. number_in d ∷ ns) (nodes_are ts ds)

-- its entries name the nodes of functions and methods
pub numbers_are : (ts : Table) (is : List ItemTree) (n : Counts) →
    map node_of (map made_function (functions ts (counted n is))) ≡ map number_in (defined_in is)
numbers_are ts is n = ap (λ fs. map node_of (map made_function fs)) (functions_are ts is n) ∙ nodes_are ts (defined_in is)

pub as_many : (ts : Table) (is : List ItemTree) (n : Counts) →
    length (map made_function (functions ts (counted n is))) ≡ length (defined_in is)
as_many ts is n = length-map (functions ts (counted n is)) made_function ∙ ap length (functions_are ts is n) ∙
    length-map (defined_in is) (as_function ts)

methods_many : (ms : List MemberTree) → length (methods_in ms) ≡ length (methods_defined ms)
methods_many [] = refl
methods_many (field f ∷ ms) = methods_many ms
methods_many (method f ∷ ms) = ap suc (methods_many ms)

pub bodies_many : (is : List ItemTree) → length (bodies_in is) ≡ length (defined_in is)
bodies_many [] = refl
bodies_many (using u ∷ is) = bodies_many is
bodies_many (enumeration e ∷ is) = bodies_many is
bodies_many (class c ∷ is) = length-append (methods_in c.members) (bodies_in is) ∙
    omega (arith, methods_many c.members, bodies_many is, length-append (methods_defined c.members) (defined_in is))
bodies_many (function f ∷ is) = ap suc (bodies_many is)
