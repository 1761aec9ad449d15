-- What a write hands back, and what its slot may weigh.
use Rattle.std.proofs.Common.{◌≡◌, ◌≤◌, ◌+◌, min, ℕ, Bool, List, Some, None, Result, Ok, Err, refl, ap, ◌∙◌, if◌then◌else◌, rules, arith}
use Rattle.std.proofs.lemmas.Bool.{le-leb}
use Rattle.verse_base.specs.declared.refusals.Kind.TheVariants as kind
use Rattle.verse_value.specs.Val.{Val}
use Rattle.verse_value.specs.Sizes.{weight_of}
use Rattle.verse_value.specs.declared.modes.Mode.{Mode}
use Rattle.verse_value_writes.specs.Writes.{written, slot_after}
use Rattle.verse_value_writes.specs.declared.writes.WriteFault.{WriteFault}
use Rattle.verse_value_writes.specs.declared.writes.WriteFault.TheVariants.{Fault}
use Rattle.verse_cells.specs.Changes.{IsWanted, spared}
use Rattle.verse_cells.specs.declared.slots.Wanted.{Wanted}
use Rattle.verse_cells.specs.declared.slots.Wanted.TheVariants.{Copy, Nothing}

abbrev ok_of : Val → Val → Result (Val × Val) WriteFault
ok_of to v = Ok (to, v)

-- a write of which nothing is handed back
pub wrote_nothing : (wanted : Wanted) (r : Result (Val × Val) WriteFault) (to : Val) → wanted ≡ Nothing → slot_after r ≡ Some to →
    (v : Val) × (r ≡ Ok (to, v)) × IsWanted wanted None v
wrote_nothing Copy r to e h = cc
wrote_nothing Nothing (Err fault) to e h = cc
wrote_nothing Nothing (Ok (new, v)) to e h = (v, cc, refl)

-- what is written is no heavier than a slot may be
written_light : (path : List Val) (mode : Mode) (value from to v : Val) → written path mode value from ≡ Ok (to, v) → weight_of to ≤ 4000000
written_light path mode value from to v e = grind (rules, arith)

spared_ok : (spare : ℕ) (from to v : Val) → weight_of to ≤ weight_of from + spare → spared spare from (Ok (to, v)) ≡ Ok (to, v)
spared_ok spare from to v le =
    ap (λ (b : Bool). if b then ok_of to v else Err (Fault kind.Store)) (le-leb (weight_of to) (weight_of from + spare) le)

-- a write after which the slot weighs no more than what is spare
pub spared_written : (spare before after sum : ℕ) (path : List Val) (mode : Mode) (value from to v : Val) →
    written path mode value from ≡ Ok (to, v) → before ≡ min (weight_of from) 18446744073709551615 →
    after ≡ min (weight_of to) 18446744073709551615 → sum ≡ min (before + spare) 18446744073709551615 → after ≤ sum →
    spared spare from (written path mode value from) ≡ Ok (to, v)
spared_written spare before after sum path mode value from to v e b a s le =
    let light = written_light path mode value from to v e in
    ap (spared spare from) e ∙ spared_ok spare from to v (omega (arith, light, b, a, s, le))
