use Rattle.std.proofs.Common.{◌≡◌, ℕ, List, Result, Err, sym, ap, subst, ◌∙◌, drop, ◌≤◌, length}
use Rattle.verse_base.specs.declared.places.Place.{Place}
use Rattle.verse_base.specs.declared.refusals.Rule.{Rule}
use Rattle.verse_base.specs.declared.refusals.Refusal.{Refusal}
use Rattle.verse_base.specs.declared.refusals.Front.{Front}
use Rattle.verse_base.specs.declared.refusals.Front.TheVariants as front
use Rattle.verse_layout.specs.declared.toks.Tok.{Tok}
use Rattle.verse_grammar.specs.Begins.{a_program, Stops}
use Rattle.verse_grammar.specs.Toks.{ahead}
use Rattle.verse_expr.specs.Faults.{stop_rule}
use Rattle.verse_accept.specs.Fronts.{tok_place, refusal, IsStuck}
use Rattle.verse_accept.proofs.ListedTokens.{Listed}
use Rattle.verse_accept.proofs.ListedLayout.{listed_grammar}
use Rattle.verse_accept.proofs.files.spell.Goals as goal

err_is : {T : Type 0} {r s : Refusal} → ◌≡◌ {A = Result T Front} (Err (front.Refused r)) (Err (front.Refused s)) → r ≡ s
err_is e = cc

told : (rule : Rule) (place : Place) (n : ℕ) (p : Place) (r : Refusal) → record { rule = rule; place = place } ≡ r → rule.0 ≡ n →
    place ≡ p → r ≡ refusal n p
told rule place n p r h e f = sym h ∙ ap (λ (k : ℕ). record { rule = record { 0 = k }; place = place }) e ∙
    ap (λ (q : Place). record { rule = record { 0 = n }; place = q }) f

-- where the toks are stuck, and the refusal there
stuck_at : (file : ℕ) (bytes : List ℕ) (toks seen : List Tok) (index : ℕ) (rule : Rule) (place : Place) (r : Refusal) → seen ≡ toks →
    index ≤ length seen →
    Stops a_program seen index → rule.0 ≡ stop_rule (ahead (drop index seen)) → place ≡ tok_place file bytes toks index →
    record { rule = rule; place = place } ≡ r →
    (i : ℕ) × IsStuck toks i × (r ≡ refusal (stop_rule (ahead (drop i toks))) (tok_place file bytes toks i))
stuck_at file bytes toks seen index rule place r same within stops e f h = (
  index,
  record {
    within = subst (λ (ks : List Tok). index ≤ length ks) same within;
    stops =
        subst (λ (ks : List Tok). Stops a_program ks index) same stops;
  },
  told rule place _ _ r h (e ∙ ap (λ (ks : List Tok). stop_rule (ahead (drop index ks))) same) f,
)

pub returns-in-Err-At-clause-refused : goal.returns-in-Err-At-clause-refused
returns-in-Err-At-clause-refused c r h =
    let at = c.in-Err-At.index in
    let rule = c.in-Err-At.rule in
    let is = ap Err c.in-Err-At.field-0-is in
    stuck_at c.args.file c.args.laid.now.bytes.now c.args.laid.now.toks.items c.as_slice.result.now at rule c.tok_place.result r
    c.as_slice.ensures.value
    (c.in-Err-At.ensures.within at rule is) (c.in-Err-At.ensures.stops at rule is) (c.in-Err-At.ensures.rule at rule is)
    (c.tok_place.ensures ∙ ap (λ (ks : List Tok). tok_place c.args.file c.args.laid.now.bytes.now ks at) c.as_slice-in-Err-At.ensures.value)
    (err_is h)

pub returns-in-Err-At-clause-listed : goal.returns-in-Err-At-clause-listed
returns-in-Err-At-clause-listed c r h =
    let at = c.in-Err-At.index in
    let rule = c.in-Err-At.rule in
    let is = ap Err c.in-Err-At.field-0-is in
    let e = c.in-Err-At.ensures.rule at rule is in
    subst Listed (err_is h) (subst (λ (n : ℕ). Listed (record { rule = record { 0 = n }; place = c.tok_place.result })) (sym e)
    (listed_grammar (ahead (drop at c.as_slice.result.now))))
