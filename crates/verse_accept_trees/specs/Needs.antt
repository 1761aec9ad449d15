-- The laws of single forms, on which the law of trees stands.
use Rattle.verse_accept_fine.specs.Needs.{InnerAllowed, ValuesNeed, ControlNeeds, NamingNeeds}
use Rattle.verse_accept_forms.specs.Plain.{PlainNeeds}
use Rattle.verse_accept_forms.specs.Callees.{CalleesNeed}
use Rattle.verse_accept_trees.specs.Targets.{TargetsNeed}

pub record Needs : Type 0 where
  pub inner : InnerAllowed
  pub values : ValuesNeed
  pub control : ControlNeeds
  pub naming : NamingNeeds
  pub plain : PlainNeeds
  pub callees : CalleesNeed
  pub targets : TargetsNeed
