-- What `and` gives.
use Rattle.std.proofs.Common.{Bool, [], ◌∷◌}
use Rattle.verse_base.specs.declared.places.Place.{Place}
use Rattle.verse_tree.specs.declared.exprs.Operator.TheVariants as op
use Rattle.verse_names_tables.specs.Names.{Table}
use Rattle.verse_sorts.specs.Sorts.{Sort, Fits}
use Rattle.verse_sorts.proofs.Fitting.{all_itself}
use Rattle.verse_meaning.specs.Programs.{Program}
use Rattle.verse_meaning.specs.Residuals as form
use Rattle.verse_sound_rules.specs.Found.{Found, Allowed}
use Rattle.verse_sound_rules.specs.Forms.{Gives, takes_and}

-- the value of its second part is that of the whole
pub both_gives : (p : Program) (f : Found) (a : Allowed) (xs : Table) (v : Bool) (pl : Place) (q r w : Sort) →
    Fits f.up r w → Gives p f a xs (form.computing op.And v pl) (q ∷ r ∷ []) w
both_gives p f a xs v pl q r w h = record {
  no_case = tt;
  taken = q ∷ r ∷ [];
  given = r;
  operands = all_itself f.up (q ∷ r ∷ []);
  takes = takes_and;
  value = h;
}
