-- Ends of arms that are open, the outermost first.
use Rattle.std.specs.Prelude.{List, [], ◌∷◌, Bool, true, false, Option}
use Rattle.lower_notes.specs.States.{State}
use Rattle.note_states.specs.View.{standing_of}
use Rattle.note_stretches.specs.Noted.{Noted, resumed, met}
use Rattle.note_cases.specs.declared.ends.End.{End as Made}

-- what stands behind an arm; whether nothing else leads to the end
pub record End : Type 0 where
  pub behind : Option State
  pub is_only : Bool

abbrev pub end_of : Made → End
end_of e = record { behind = standing_of e.behind; is_only = e.is_only }

abbrev pub ended_by : Bool → Option State → Noted → Noted
ended_by true x b = resumed x b
ended_by false x b = met x b

abbrev pub ended : End → Noted → Noted
ended e b = ended_by e.is_only e.behind b

abbrev pub all_ended : List End → Noted → Noted
all_ended [] b = b
all_ended (e ∷ es) b = ended e (all_ended es b)
