-- What is no form of its own: the code is stuck, and the meaning is wrong.
use Rattle.std.proofs.Common.{ℕ, Bool}
use Rattle.verse_base.specs.declared.places.Place.{Place}
use Rattle.verse_tree.specs.Tree.{tree, Shape}
use Rattle.verse_tree.specs.Tree as t
use Rattle.verse_tree.specs.declared.exprs.Operator.TheVariants as oper
use Rattle.lower_simulation.proofs.Claims.{Setting}
use Rattle.lower_simulation.proofs.Forms.{EvLeads}
use Rattle.lower_simulation_values.proofs.Names.{stuck_leads}

abbrev pub Unfit : Shape → Type 0
Unfit (t.Shape.chained oper.Div b c) = Unit {0}
Unfit (t.Shape.defer b) = Unit {0}
Unfit (t.Shape.elements x b) = Unit {0}
Unfit (t.Shape.entries x y b) = Unit {0}
Unfit (t.Shape.range x b c) = Unit {0}
Unfit (t.Shape.arm b c) = Unit {0}
Unfit (t.Shape.integer_pattern n) = Unit {0}
Unfit (t.Shape.minus_pattern n) = Unit {0}
Unfit (t.Shape.character_pattern c) = Unit {0}
Unfit (t.Shape.text_pattern bs) = Unit {0}
Unfit t.Shape.truth_pattern = Unit {0}
Unfit t.Shape.falsehood_pattern = Unit {0}
Unfit t.Shape.any_pattern = Unit {0}
Unfit (t.Shape.enum_pattern x y) = Unit {0}
Unfit s = ⊥

module _ (z : Setting) (differ : ℕ → ℕ → Bool) (top : ℕ) where
  pub unfit_leads : (n : ℕ) (pl : Place) (s : Shape) → Unfit s → EvLeads z differ top (tree n pl s)
  unfit_leads n pl (t.Shape.chained oper.Div b c) h ss a s e out w M j m u o y ls st i sc fw lt lM ab g = stuck_leads z i
  unfit_leads n pl (t.Shape.defer b) h ss a s e out w M j m u o q ls st i sc fw lt lM ab g = stuck_leads z i
  unfit_leads n pl (t.Shape.elements x b) h ss a s e out w M j m u o q ls st i sc fw lt lM ab g = stuck_leads z i
  unfit_leads n pl (t.Shape.entries x y b) h ss a s e out w M j m u o q ls st i sc fw lt lM ab g = stuck_leads z i
  unfit_leads n pl (t.Shape.range x b c) h ss a s e out w M j m u o q ls st i sc fw lt lM ab g = stuck_leads z i
  unfit_leads n pl (t.Shape.arm b c) h ss a s e out w M j m u o q ls st i sc fw lt lM ab g = stuck_leads z i
  unfit_leads n pl (t.Shape.integer_pattern k) h ss a s e out w M j m u o q ls st i sc fw lt lM ab g = stuck_leads z i
  unfit_leads n pl (t.Shape.minus_pattern k) h ss a s e out w M j m u o q ls st i sc fw lt lM ab g = stuck_leads z i
  unfit_leads n pl (t.Shape.character_pattern k) h ss a s e out w M j m u o q ls st i sc fw lt lM ab g = stuck_leads z i
  unfit_leads n pl (t.Shape.text_pattern bs) h ss a s e out w M j m u o q ls st i sc fw lt lM ab g = stuck_leads z i
  unfit_leads n pl t.Shape.truth_pattern h ss a s e out w M j m u o q ls st i sc fw lt lM ab g = stuck_leads z i
  unfit_leads n pl t.Shape.falsehood_pattern h ss a s e out w M j m u o q ls st i sc fw lt lM ab g = stuck_leads z i
  unfit_leads n pl t.Shape.any_pattern h ss a s e out w M j m u o q ls st i sc fw lt lM ab g = stuck_leads z i
  unfit_leads n pl (t.Shape.enum_pattern x y) h ss a s e out w M j m u o q ls st i sc fw lt lM ab g = stuck_leads z i
  unfit_leads n pl s h ss a s1 e out w M j m u o y ls st i sc fw lt lM ab g = absurd h
