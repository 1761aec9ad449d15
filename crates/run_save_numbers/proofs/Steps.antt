-- One task more.
use Rattle.std.proofs.Common.{◌≡◌, ℕ, suc, ◌-◌, ◌*◌, ◌<◌, ◌≤◌, max, List, [], ◌++◌, length, map, set, get_or, take, Some}
use Rattle.std.proofs.Common.{refl, sym, ap, ◌∙◌, arith}
use Rattle.std.proofs.lemmas.List.{get_or-map, map-set, length-map}
use Rattle.task_tree.specs.declared.tasks.Role.{Role}
use Rattle.run_save_shots.specs.Kept.{KeptTask, Kept}
use Rattle.run_save_shots.specs.Naming.{number_at}
use Rattle.run_save_numbers.specs.declared.tables.TaskNumbers.{TaskNumbers}
use Rattle.run_save_numbers.specs.Numbers.{Numbers}
use Rattle.run_save_numbers.specs.Marking.{nothing, marked, with_child, with_children}
use Rattle.run_save_numbers.specs.View.{numbers_of}

marks_here : (all : List TaskNumbers) (i : ℕ) (a : TaskNumbers) → i < length all → a ≡ get_or all i a →
    get_or (map numbers_of all) i nothing ≡ numbers_of a
marks_here all i a lt is = get_or-map numbers_of all i a nothing lt ∙ ap numbers_of (sym is)

pub one_marked : (all : List TaskNumbers) (parent : ℕ) (role : Role) (n : ℕ) (old new : TaskNumbers) → parent < length all →
    old ≡ get_or all parent old → numbers_of new ≡ marked n role (numbers_of old) →
    map numbers_of (set all parent new) ≡ with_child (map numbers_of all) (Some parent) role n
one_marked all parent role n old new lt is h =
    map-set numbers_of all parent new ∙
    ap (set (map numbers_of all) parent) (h ∙ ap (λ m. marked n role m) (sym (marks_here all parent old lt is)))
