-- What the words of this crate mean.
use Rattle.run_save_shots.specs.Fitting as fitting
use Rattle.run_save_stands.specs.declared.stands.Stand.{Stand}
use Rattle.run_save_stands.specs.declared.stands.Stand.TheVariants as stand

abbrev pub as_stand : Stand → fitting.Stand
as_stand stand.Calls = fitting.calls
as_stand stand.Sleeps = fitting.sleeps
as_stand stand.Stays = fitting.stays
as_stand stand.AwaitsTask = fitting.awaits_task
as_stand stand.AwaitsEvent = fitting.awaits_event
as_stand (stand.Gathers kind arms place) = fitting.gathers kind arms place
as_stand stand.GoesOn = fitting.goes_on
