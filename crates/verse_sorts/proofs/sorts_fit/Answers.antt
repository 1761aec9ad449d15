use Rattle.verse_sorts.specs.Sorts.{to_none, to_any}
use Rattle.verse_sorts.proofs.Fitting.{fits_itself, known_sort, none_alone}
use Rattle.verse_sorts.proofs.sorts_fit.Goals as goal

pub returns : goal.returns
returns c = λ up a. (fits_itself up a, to_none, λ h. to_any (known_sort a h), λ f. none_alone up f)
