-- What a call does, and which method it is.
use Rattle.std.specs.Prelude.{ℕ, suc, List, [], ◌∷◌, Option, None}
use Rattle.verse_code.specs.declared.codes.Func.{Func}
use Rattle.verse_code.specs.declared.codes.Code.{Code}
use Rattle.verse_value.specs.Val.{Val}
use Rattle.verse_meaning_state.specs.State.{State}
use Rattle.verse_meaning_state.specs.Effects.{class_of}
use Rattle.verse_code_machine.specs.Frames.{on_there, only_where, fits, enters, taking, classed}
use Rattle.vm_running.specs.Doings.{Doing}

-- the frame goes on at its next place, with a new frame on it
abbrev pub calls : Func → List Val → Doing
calls g vs w x s f fs = only_where (fits f.handlers (suc f.place)) s
    (enters g vs w x s (record f { place = suc f.place } ∷ fs))

-- method n of the first value's class, where it takes that and m arguments
abbrev pub chosen_of : Code → (n m : ℕ) → List Val → State → Option Func
chosen_of c n m [] s = None
chosen_of c n m (v ∷ vs) s = taking (suc m) (classed c n (class_of v s))

-- the method of the first value is called with all of them
abbrev pub calls_method : Code → (n m : ℕ) → List Val → Doing
calls_method c n m vs w x s f fs = on_there (chosen_of c n m vs s) s (λ g. calls g vs w x s f fs)
