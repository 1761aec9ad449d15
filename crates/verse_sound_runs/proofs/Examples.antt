-- A small program is fine, so the laws are not about none.
use Rattle.std.proofs.Common.{◌≡◌, false, [], ◌∷◌, Some, None, refl}
use Rattle.verse_sorts.specs.Sorts as s
use Rattle.verse_sorts.specs.Sorts.{fits_int}
use Rattle.verse_sorts.specs.Typing.{fit_no, fit_so}
use Rattle.verse_sound_rules.specs.Found.{Found}
use Rattle.verse_sound_rules.specs.Forms.{IsDefault, is_default, is_local, takes_sum}
use Rattle.verse_sound_rules.specs.Programs.{FineDefault, FineProgram, no_inputs}
use Rattle.verse_sound_runs.specs.Example.{main_function, small}

no_some : {A B : Type 0} {x : A} → None ≡ Some x → B
no_some h = cc

abbrev found : Found
found = record {
  sort = λ n. s.int;
  key = λ n. s.any;
  is_var = λ n. false;
  up = λ c. None;
  slots = λ c. [];
  signature = λ g. record { params = []; result = s.any; decides = false; lasts = false; this = None };
}

no_default : {b : Rattle.verse_tree.specs.Tree.Tree} {q : s.Sort} → IsDefault small found b q → FineDefault small found b q
no_default (is_default c i d e h slot) = no_some slot

pub small_fine : FineProgram small
small_fine = record {
  found = found;
  fine = record {
    known = record {
      sort = λ n. tt;
      key = λ n. tt;
      slots = λ c i q h. no_some h;
      params = λ g i q h. no_some h;
      result = λ g. tt;
    };
    functions = λ g fn h. no_some h;
    defaults = λ b q h. no_default h;
    slots = λ c d i q h g. no_some g;
    methods = λ c d g m h k. no_some k;
    main = record {
      function = main_function;
      found = refl;
      inputs = [];
      are = no_inputs;
      params = tt;
      result = s.any;
      body = (
        (
          (fits_int, fits_int, ((refl, refl), refl)),
          (
            ((
              (s.int, is_local refl, fits_int),
              fits_int,
              record {
                no_case = tt;
                taken = s.int ∷ s.int ∷ [];
                given = s.int;
                operands = fit_so fits_int (fit_so fits_int fit_no);
                takes = takes_sum;
                value = fits_int;
              },
            )),
            tt,
          ),
        ),
        fits_int,
      );
    };
  };
}
