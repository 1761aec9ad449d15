-- A class whose members are made is no ancestor of itself.
use Rattle.std.proofs.Common.{◌≡◌, ℕ, zero, suc, ◌<◌, Bool, false, List, length, ap, sym, ◌∙◌, arith}
use Rattle.std.specs.Prelude.{Some, None, is_some}
use Rattle.verse_rules_types.specs.Types.{Class}
use Rattle.verse_rules_types.specs.Fitting.{parent_of}
use Rattle.verse_rules_types.specs.Depths.{Ends, top, up}
use Rattle.verse_rules_types.proofs.Levels.{too_low, high_ends}
use Rattle.verse_names_tables.specs.Notes.{Note}
use Rattle.verse_names_declarations.specs.Descents.{Tells}
use Rattle.verse_names_declarations.specs.declared.descents.Descent.{Descent}
use Rattle.verse_names_items.specs.Rules.{leads_to}

straight : (cs : List Class) {k c : ℕ} → Ends cs k c → leads_to cs c (parent_of cs c) ≡ false
straight cs (top e) = ap (leads_to cs _) e
straight cs (up e f) = ap (leads_to cs _) e ∙ ap is_some (too_low cs (length cs) f (up e f) (omega arith))

pub no_circle : (ns : List Note) (cs : List Class) (c : ℕ) (d : Descent) → Tells ns cs c d →
    false ≡ leads_to cs c (parent_of cs c)
no_circle ns cs c d t = sym (straight cs (high_ends cs c d.depth t.descends).1)
