-- The entries of a map as its keys beside its values.
use Rattle.std.specs.Prelude.{List}
use Rattle.std.specs.List.{zip}
use Rattle.verse_image.specs.Format.{Field}
use Rattle.verse_value.specs.declared.keys.Key.{Key}
use Rattle.verse_value.specs.declared.values.Value.{Value}
use Rattle.verse_value.specs.Val.{pairs}
use Rattle.verse_value.specs.View.{vals_of}
use Rattle.run_save_format.specs.Format as format

abbrev pub entries : List Key → List Value → Field
entries ks vs = format.pairs (pairs (zip ks (vals_of vs)))
