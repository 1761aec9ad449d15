-- What callees of the code stand for.
use Rattle.verse_meaning.specs.Evaluating as e
use Rattle.lower_lookup.specs.Actions.{form_of}
use Rattle.lower_lookup.specs.declared.callees.Callee.{Callee}
use Rattle.lower_lookup.specs.declared.callees.Callee.TheVariants as callee

abbrev pub called : Callee → e.Callee
called (callee.Alone a) = e.alone (form_of a)
called (callee.OfObject a) = e.of_object (form_of a)
called (callee.OfValue a) = e.of_value (form_of a)
called (callee.OfQuotient a) = e.of_quotient (form_of a)
called callee.None = e.no_callee
