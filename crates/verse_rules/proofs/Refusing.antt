-- The less of two least faults is the refusal of both passes.
use Rattle.std.proofs.Common.{◌≡◌, List, Bool, true, false, cond, Option, sym, subst, ◌∙◌}
use Rattle.std.specs.Prelude.{Some, None, Err}
use Rattle.std.specs.Result.{IsErrOf}
use Rattle.verse_base.specs.declared.refusals.Front.TheVariants as front
use Rattle.verse_base.specs.declared.refusals.Refusal.{Refusal}
use Rattle.verse_tree.specs.ItemTree.{ItemTree}
use Rattle.verse_rules_least.specs.declared.faults.Fault.{Fault}
use Rattle.verse_rules_least.specs.Least.{refusal_of}
use Rattle.verse_rules_least.specs.Both.{is_before, less_of, Leads}
use Rattle.verse_rules_least.proofs.Both.{lead_both}
use Rattle.verse_names_items.specs.Nodes.{ItemsBreak, IsPlaced}
use Rattle.verse_names_scopes.specs.Visits.{NamesBreak as BodiesBreak}
use Rattle.verse_rules.specs.Breaking.{NamesBreak, IsMisnamed}

placed_both : (is : List ItemTree) (o p : Option Fault) → IsPlaced is o → IsPlaced is p → IsPlaced is (less_of o p)
placed_both is None p h k = k
placed_both is (Some f) None h k = h
placed_both is (Some f) (Some g) h k = by (is_before f g)
  where
    by : (b : Bool) → IsPlaced is (Some (cond b f g))
    by true = h
    by false = k

pub misnamed : {T : Type 0} (is : List ItemTree) (o p : Option Fault) (f : Fault) (q r : Refusal) → Leads (ItemsBreak is) o →
    IsPlaced is o → Leads (BodiesBreak is) p → IsPlaced is p →
    less_of o p ≡ Some f → q ≡ refusal_of f → IsErrOf {T = T} (Err (front.Refused q)) (front.Refused r) → IsMisnamed is r
misnamed is o p f q r items items_placed bodies bodies_placed e told answered = record {
  fault = f;
  leads = subst (Leads (NamesBreak is)) e (lead_both (ItemsBreak is) (BodiesBreak is) o p items bodies);
  placed = subst (IsPlaced is) e (placed_both is o p items_placed bodies_placed);
  is = (let same : r ≡ q = cc in same) ∙ told;
}
