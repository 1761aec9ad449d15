-- A program whose code does what it means: what is asked of programs can be met.
use Rattle.std.proofs.Common.{◌≡◌, ℕ, zero, suc, Some, refl}
use Rattle.std.proofs.lemmas.Option.{none-some}
use Rattle.verse_tree.specs.PostOrder.{items_order}
use Rattle.verse_tree.specs.declared.tables.Ref.TheVariants as ref
use Rattle.verse_meaning.specs.Programs.{ref_at, method_at}
use Rattle.lower_bounds.proofs.Bodies.{each_all}
use Rattle.lower_bounds.proofs.Example.{small_program, can_be_lowered}
use Rattle.lower_simulation_runs.specs.Programs.{NodeStands, CanBeFollowed}

-- no node stands for a function
no_function : (n f : ℕ) → ref_at small_program n ≡ Some (ref.Fun f) → ⊥
no_function zero f e = elim (none-some (ref.Fun f) e) [ ]
no_function (suc zero) f e = elim (none-some (ref.Fun f) e) [ ]
no_function (suc (suc zero)) f e = elim (none-some (ref.Fun f) e) [ ]
no_function (suc (suc (suc zero))) f e = cc
no_function (suc (suc (suc (suc zero)))) f e = elim (none-some (ref.Fun f) e) [ ]
no_function (suc (suc (suc (suc (suc zero))))) f e = elim (none-some (ref.Fun f) e) [ ]
no_function (suc (suc (suc (suc (suc (suc n)))))) f e = elim (none-some (ref.Fun f) e) [ ]

no_method : (c m f : ℕ) → method_at small_program c m ≡ Some f → ⊥
no_method zero m f e = elim (none-some f e) [ ]
no_method (suc c) m f e = elim (none-some f e) [ ]

pub can_be_followed : CanBeFollowed small_program 1
can_be_followed = record {
  lowered = can_be_lowered;
  numbers = record {
    numbers = refl;
    distinct = (tt, tt);
    functions = λ n f e. absurd (no_function n f e);
    methods = λ c m f e. absurd (no_method c m f e);
    fields = (tt, tt);
  };
  nodes = each_all (NodeStands small_program) (items_order small_program.items) (tt, (tt, (tt, (tt, (tt, (tt, tt))))));
}
