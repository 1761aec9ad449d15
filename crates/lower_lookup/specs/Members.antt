-- What the code writes to.
use Rattle.verse_meaning.specs.Residuals as r
use Rattle.lower_lookup.specs.declared.members.Base.{Base}
use Rattle.lower_lookup.specs.declared.members.Base.TheVariants as base

abbrev pub base_view : Base → r.Base
base_view (base.Variable x) = r.in_variable x.now
base_view (base.Own n) = r.in_self n
base_view (base.Object n) = r.in_object n
base_view base.Nowhere = r.nowhere
