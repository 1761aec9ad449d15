-- The notes of a whole program: its classes, its functions with the defaults of fields behind
-- them, and the state at each operation.
use Rattle.std.specs.Prelude.{ℕ, suc, ◌-◌, List, [], ◌∷◌, ◌++◌, length, map, Option, Some, None}
use Rattle.std.specs.Prelude.{option_map, Bool, false, slice_get}
use Rattle.verse_tree.specs.declared.tables.ClassInfo.{ClassInfo}
use Rattle.verse_code.specs.declared.codes.Code.{Code}
use Rattle.verse_sorts.specs.Sorts as s
use Rattle.verse_sorts.specs.Sorts.{Sort}
use Rattle.verse_meaning.specs.Programs.{Program}
use Rattle.verse_sound_rules.specs.Found.{Found, Signature}
use Rattle.verse_verify_kept.specs.Notes.{ClassNote, FuncNote}
use Rattle.verse_verify_kept.specs.Rules.{nones}
use Rattle.verse_verify_faults.specs.Spots.{Table}
use Rattle.verse_verify_faults.specs.Reading.{locals_of}
use Rattle.lower_code.specs.Arounds.{fresh}
use Rattle.lower_code.specs.Defaults.{defaults_in}
use Rattle.lower_code.specs.Programs.{Body, bodies_in, default_bodies, all_bodies}
use Rattle.lower_notes.specs.States.{State, spot_of}
use Rattle.lower_notes.specs.Stretches.{Stretch, Walk, nothing, ends, ◌then◌}
use Rattle.lower_notes.specs.Noting.{sort_at, walk}

-- a method takes its object first
abbrev pub with_this : Option ℕ → List Sort → List Sort
with_this None qs = qs
with_this (Some c) qs = s.obj c ∷ qs

abbrev pub signed : Signature → FuncNote
signed g = record {
  params = with_this g.this g.params;
  result = g.result;
  may_fail = g.decides;
  may_wait =
      g.lasts;
}

-- functions and methods, from the number k on
abbrev pub declared : Found → (k : ℕ) → List Body → List FuncNote
declared found k [] = []
declared found k (b ∷ bs) = signed (found.signature k) ∷ declared found (suc k) bs

abbrev pub class_notes : Found → (k : ℕ) → List ClassInfo → List ClassNote
class_notes found k [] = []
class_notes found k (c ∷ cs) = record { parent = found.up k; slots = found.slots k } ∷
    class_notes found
    (suc k) cs

abbrev pub params_of : Option FuncNote → List Sort
params_of None = []
params_of (Some g) = g.params

-- at the first operation of the function k, which has so many locals
abbrev pub at_entry : (k : ℕ) → List Sort → (locals : ℕ) → State
at_entry k params n = record {
  func = k;
  arm = None;
  locals = params ++ nones (n - length params);
  stack = [];
  tries = [];
  block = None;
  outer = [];
  under = 0;
  defers = [];
}

module _ (p : Program) (found : Found) (differ : ℕ → ℕ → Bool) (code : Code) where
  abbrev pub default_note : Body → FuncNote
  default_note b = record {
    params = [];
    result = sort_at p found differ b.body;
    may_fail = false;
    may_wait =
        false;
  }

  abbrev pub func_notes : List FuncNote
  func_notes = declared found 0 (bodies_in p.items) ++
      map default_note (default_bodies (defaults_in p.items))

  abbrev pub entry_state : (k : ℕ) → State
  entry_state k = at_entry k (params_of (slice_get func_notes k))
      (locals_of code (slice_get code.functions k))

  abbrev pub body_walk : (k : ℕ) → Body → Walk
  body_walk k b at x = (walk p found differ b.body b.scope fresh then
      ends) at (Some (entry_state k))

  abbrev pub bodies_from : (k : ℕ) → List Body → Walk
  bodies_from k [] = nothing
  bodies_from k (b ∷ bs) = body_walk k b then bodies_from (suc k) bs

  abbrev pub whole : Stretch
  whole = bodies_from 0 (all_bodies p.items) 0 None

  abbrev pub notes_of : Table
  notes_of = record {
    classes = class_notes found 0 p.names.classes;
    functions = func_notes;
    spots = map (option_map spot_of) whole.states;
  }
