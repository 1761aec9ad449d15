-- The forms that actions of the code stand for.
use Rattle.verse_meaning.specs.Residuals as form
use Rattle.verse_meaning.specs.Residuals.{Form}
use Rattle.lower_lookup.specs.declared.actions.Action.{Action}
use Rattle.lower_lookup.specs.declared.actions.Action.TheVariants as action

abbrev pub form_of : Action → Form
form_of (action.Read n) = form.reading n
form_of action.Length = form.measuring
form_of action.NoMember = form.defining
form_of (action.Pick k) = form.picking k
form_of action.Index = form.indexing
form_of (action.Call f) = form.calling f
form_of (action.CallOwn m) = form.calling_own m
form_of (action.CallMethod m) = form.calling_method m
form_of (action.Print pl) = form.printing pl
form_of (action.Floor pl) = form.flooring pl
form_of (action.Ceil pl) = form.ceiling pl
form_of action.Modulo = form.taking_modulo
form_of (action.Await t) = form.awaiting t
form_of action.Signal = form.signalling
form_of (action.Spawn f) = form.spawning f
form_of (action.SpawnOwn m) = form.spawning_own m
form_of (action.SpawnMethod m) = form.spawning_method m
