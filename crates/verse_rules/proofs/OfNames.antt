-- Each rule of names has a text.
use Rattle.std.proofs.Common.{◌≡◌, ◌⊎◌, inl, inr, ℕ, List, refl, sym, ap, subst}
use Rattle.std.specs.Prelude.{None}
use Rattle.std.specs.Option.{IsSome}
use Rattle.verse_base.specs.declared.refusals.Refusal.{Refusal}
use Rattle.verse_base.specs.RuleText.{rule_text_of}
use Rattle.verse_tree.specs.ItemTree.{ItemTree}
use Rattle.verse_rules_least.proofs.Codes.{held_code, broken_code}
use Rattle.verse_names_declarations.specs.Known.{known}
use Rattle.verse_names_items.specs.Nodes as items
use Rattle.verse_names_items.specs.Rules as items_rules
use Rattle.verse_names_scopes.specs.Visits as bodies
use Rattle.verse_rules.specs.Breaking.{NamesBreak, IsMisnamed}

names_listed : (is : List ItemTree) (n c : ℕ) → NamesBreak is n c → IsSome (rule_text_of c)
names_listed is n c (inl b) =
    broken_code (λ c. IsSome (rule_text_of c)) items.number_of (items.keep_fault (known is)) (items.Breaks (known is))
    (λ v s c h. held_code (λ c. IsSome (rule_text_of c)) (items_rules.rules_at (known is) v.subject) c
    (refl, (refl, (refl, (refl, (refl, (refl, tt)))))) h)
    (items.program_declared (known is) is) None n c b
names_listed is n c (inr b) =
    broken_code (λ c. IsSome (rule_text_of c)) bodies.number_of bodies.keep_fault bodies.Breaks
    (λ v s c h. held_code (λ c. IsSome (rule_text_of c)) (bodies.rules_of v) c (refl, (refl, tt)) h)
    (bodies.program_visits is) None n c b

pub misnamed_listed : (is : List ItemTree) (r : Refusal) → IsMisnamed is r → IsSome (rule_text_of r.rule.0)
misnamed_listed is r h =
    subst (λ (q : Refusal). IsSome (rule_text_of q.rule.0)) (sym h.is) (names_listed is h.fault.node h.fault.rule.0 h.leads.0)
