use Rattle.std.proofs.Common.{map, subst, inr}
use Rattle.verse_tree.specs.ItemView.{item_of}
use Rattle.verse_rules_least.specs.Both.{Leads}
use Rattle.verse_names_items.specs.Nodes.{IsPlaced}
use Rattle.verse_rules.specs.Sound.{BodiesBreak}
use Rattle.verse_rules.proofs.Judging.{mistyped}
use Rattle.verse_rules.proofs.programs.check_program.Goals as goal

pub returns-in-Some-clause-refused : goal.returns-in-Some-clause-refused
returns-in-Some-clause-refused c r e =
    let is = map item_of c.args.tree.now.items in
    inr (
      c.in_ok-names.ensures.fine,
      mistyped is c.in-Some.fault c.refusal.result r (subst (Leads (BodiesBreak is)) c.in-Some.is c.in_ok-judged.ensures.least)
          (subst (IsPlaced is) c.in-Some.is c.in_ok-judged.ensures.placed) c.refusal.ensures e,
    )

pub returns-in-None-clause-fine : goal.returns-in-None-clause-fine
returns-in-None-clause-fine c =
    record {
      named = c.in_ok-names.ensures.fine;
      typed =
          subst (Leads (BodiesBreak (map item_of c.args.tree.now.items))) c.in-None.is c.in_ok-judged.ensures.least;
    }
