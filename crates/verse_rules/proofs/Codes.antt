-- Each rule of types and of effects has a text.
use Rattle.std.proofs.Common.{ℕ, Bool, List, inl, inr, refl, sym, subst}
use Rattle.std.specs.Option.{IsSome}
use Rattle.verse_base.specs.declared.refusals.Refusal.{Refusal}
use Rattle.verse_base.specs.RuleText.{rule_text_of}
use Rattle.verse_tree.specs.ItemTree.{ItemTree}
use Rattle.verse_tree.specs.PostOrder.{What, program, item, member, parameter, type_name, expression}
use Rattle.verse_tree.specs.declared.tables.Names.{Names}
use Rattle.verse_rules_least.proofs.Codes.{AllCodes, held_code, broken_code}
use Rattle.verse_rules.proofs.OfNames.{misnamed_listed}
use Rattle.verse_rules_walk.specs.Around.{Around}
use Rattle.verse_rules_walk.specs.Nodes.{number_of, items_nodes}
use Rattle.verse_check_typing.specs.Facts.{Facts, world_of}
use Rattle.verse_check_typing.specs.Steps as rows
use Rattle.verse_effects.specs.Rules as effects
use Rattle.verse_rules.specs.Naming.{named}
use Rattle.verse_rules.specs.Sound.{completed, BodiesBreak, IsMistyped, IsUnsound}

abbrev Listed : ℕ → Type 0
Listed c = IsSome (rule_text_of c)

types_listed : (f : Facts) (w : Around) (n : ℕ) (x : What) → AllCodes Listed (rows.own_rules f w n x)
types_listed f w n (expression s) = (refl, (refl, (refl, (refl, (refl, (refl, (refl, (refl, (refl, (refl, (refl, (refl, tt))))))))))))
types_listed f w n (item i) = (refl, (refl, tt))
types_listed f w n (member m) = (refl, (refl, tt))
types_listed f w n (parameter p) = (refl, (refl, tt))
types_listed f w n (type_name x) = (refl, (refl, tt))
types_listed f w n (program is) = tt

effects_listed : (k : Names) (vars : List Bool) (w : Around) (n : ℕ) (x : What) → AllCodes Listed (effects.rules_of k vars w n x)
effects_listed k vars w n (expression s) = (refl, (refl, (refl, (refl, (refl, (refl, (refl, (refl, tt))))))))
effects_listed k vars w n (item i) = (refl, tt)
effects_listed k vars w n (member m) = (refl, tt)
effects_listed k vars w n (program is) = tt
effects_listed k vars w n (parameter p) = tt
effects_listed k vars w n (type_name x) = tt

bodies_listed : (is : List ItemTree) (n c : ℕ) → BodiesBreak is n c → Listed c
bodies_listed is n c (inl b) =
    let k = world_of (named is) is in
    broken_code Listed number_of (rows.step k) (rows.Breaks k)
    (λ v s c h. held_code Listed (rows.rules_at (rows.facts k s) v) c (refl, types_listed (rows.facts k s) v.around v.number v.what) h)
    (items_nodes is) rows.begun n c b
bodies_listed is n c (inr b) =
    let k = completed is in
    broken_code Listed number_of (effects.step k) (effects.Breaks k)
    (λ v s c h. held_code Listed (effects.rules_at k s.vars v) c (effects_listed k s.vars v.around v.number v.what) h)
    (items_nodes is) effects.begun n c b

pub mistyped_listed : (is : List ItemTree) (r : Refusal) → IsMistyped is r → IsSome (rule_text_of r.rule.0)
mistyped_listed is r h =
    subst (λ (q : Refusal). IsSome (rule_text_of q.rule.0)) (sym h.is) (bodies_listed is h.fault.node h.fault.rule.0 h.leads.0)

pub unsound_listed : (is : List ItemTree) (r : Refusal) → IsUnsound is r → IsSome (rule_text_of r.rule.0)
unsound_listed is r (inl x) = misnamed_listed is r x
unsound_listed is r (inr x) = mistyped_listed is r x.1
