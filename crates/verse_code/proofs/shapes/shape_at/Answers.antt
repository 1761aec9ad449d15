use Rattle.std.proofs.Common.{◌∙◌}
use Rattle.std.proofs.lemmas.Option.{slice_get-map}
use Rattle.verse_code.specs.Forms.{forms, shape_of}
use Rattle.verse_code.proofs.shapes.shape_at.Goals as goal

-- the table is that of the forms
pub returns : goal.returns
returns c = c.entry.ensures ∙ slice_get-map shape_of forms c.args.code
