-- The rules can be met: the code `Unit, Return` with its notes.
use Rattle.std.proofs.Common.{◌≡◌, ℕ, zero, suc, List, [], ◌∷◌, Some, None, true, false, refl, sym, subst}
use Rattle.std.specs.Prelude.{slice_get}
use Rattle.std.proofs.lemmas.Option.{same_Some, none-some}
use Rattle.verse_code.specs.declared.operations.Op.TheVariants as o
use Rattle.verse_code.specs.declared.codes.Func.{Func}
use Rattle.verse_code.specs.declared.codes.Code.{Code}
use Rattle.verse_sorts.specs.Sorts as s
use Rattle.verse_sorts.specs.Sorts.{Inherits, fits_unit}
use Rattle.verse_sorts.specs.Typing.{fit_no, fit_so}
use Rattle.verse_verify_kept.specs.Notes.{FuncNote, Point, Notes, point_at}
use Rattle.verse_verify_kept.specs.Rules.{Sound, Begins, MainIs, Verified, from_no, asked, of_unit, of_return, around_no, ready_no}
use Rattle.verse_verify_kept.specs.Rules.{tries_no}

abbrev code : Code
code = record {
  files = 1;
  texts = [];
  places = [];
  functions = record { params = 0; locals = 0; entry = 0; suspends = false } ∷ [];
  classes = [];
  main = 0;
  ops = o.Unit ∷ o.Return ∷ [];
}

abbrev point : List s.Sort → Point
point st = record { func = 0; arm = None; locals = []; stack = st; tries = []; block = None; outer = []; under = 0; defers = [] }

abbrev notes : Notes
notes = record {
  classes = [];
  functions = record { params = []; result = s.unit; may_fail = false; may_wait = false } ∷ [];
  points = Some (point []) ∷ Some (point (s.unit ∷ [])) ∷ [];
}

first_sound : Sound code notes 0 (point [])
first_sound = record {
  around = around_no;
  ready = ready_no;
  op = o.Unit;
  is_op = refl;
  passes = asked (of_unit (record {
    point = point (s.unit ∷ []);
    live = refl;
    kin = record { func = refl; arm = refl; block = refl; outer = refl; under = refl };
    locals = fit_no;
    stack = fit_so fits_unit fit_no;
    tries = tries_no;
    defers = refl;
  }));
}

last_sound : Sound code notes 1 (point (s.unit ∷ []))
last_sound = record {
  around = around_no;
  ready = ready_no;
  op = o.Return;
  is_op = refl;
  passes = asked (of_return refl refl refl refl refl refl fits_unit);
}

all_live : (i : ℕ) (p : Point) → point_at notes i ≡ Some p → Sound code notes i p
all_live zero p e = subst (Sound code notes 0) (same_Some _ _ e) first_sound
all_live (suc zero) p e = subst (Sound code notes 1) (same_Some _ _ e) last_sound
all_live (suc (suc i)) p e = elim (none-some _ e) [ ]

begins : (k : ℕ) (f : Func) (g : FuncNote) → slice_get code.functions k ≡ Some f → slice_get notes.functions k ≡ Some g →
    Begins code notes f k g
begins zero f g e h = subst (λ f. Begins code notes f 0 g) (same_Some _ _ e) (subst (Begins code notes _ 0) (same_Some _ _ h) (record {
  point = point [];
  live = refl;
  func = refl;
  arm = refl;
  stack = refl;
  tries = refl;
  block = refl;
  outer = refl;
  under = refl;
  defers = refl;
  count = refl;
  locals = fit_no;
}))
begins (suc k) f g e h = elim (none-some _ e) [ ]

either : (k : ℕ) (g : FuncNote) → slice_get notes.functions k ≡ Some g → g.may_fail ≡ true → g.may_wait ≡ true → ⊥
either zero g e f h = no_true (subst (λ (g : FuncNote). g.may_fail ≡ true) (sym (same_Some _ _ e)) f)
  where
    no_true : false ≡ true → ⊥
    no_true e = cc
either (suc k) g e f h = elim (none-some _ e) [ ]

main : (g : FuncNote) → slice_get notes.functions 0 ≡ Some g → MainIs code notes g
main g e = subst (MainIs code notes) (same_Some _ _ e) (record { sure = refl; params = from_no })

pub verified : Verified code notes
verified = record {
  counted = (refl, refl);
  classes = λ k x made e h. elim (none-some _ e) [ ];
  either = either;
  main = main;
  begins = begins;
  live = all_live;
}
