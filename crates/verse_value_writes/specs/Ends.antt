-- Where the code finds that a path leads is where the definitions have it.
use Rattle.verse_value.specs.View.{val_of}
use Rattle.verse_value.specs.Places.{End, there, new_key, nowhere, unfit}
use Rattle.verse_value_writes.specs.declared.changes.End.{End as Found}
use Rattle.verse_value_writes.specs.declared.changes.End.TheVariants as found

abbrev pub end_found : Found → End
end_found (found.There here) = there (val_of here.now)
end_found found.NewKey = new_key
end_found found.Nowhere = nowhere
end_found found.Unfit = unfit
