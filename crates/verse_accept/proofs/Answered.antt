-- A file has at most one result: each layer of the front end has one.
use Rattle.std.proofs.Common.{◌≡◌, ℕ, List, sym, ap, ◌∙◌, drop, arith}
use Rattle.verse_base.specs.declared.refusals.Refusal.{Refusal}
use Rattle.verse_lex.specs.declared.tokens.Token.{Token}
use Rattle.verse_lex.proofs.Unique as tokens
use Rattle.verse_layout.specs.declared.toks.Tok.{Tok}
use Rattle.verse_layout.proofs.Answers.{one_layout}
use Rattle.verse_layout_laws.proofs.Unique as layout
use Rattle.verse_tree.specs.ItemTree.{ItemTree}
use Rattle.verse_grammar.specs.Toks.{ahead}
use Rattle.verse_expr.specs.Faults.{stop_rule}
use Rattle.verse_rules_least.proofs.Refusals.{refused_once}
use Rattle.verse_names_items.specs.Nodes.{places_in}
use Rattle.verse_rules.specs.Breaking.{NamesBreak}
use Rattle.verse_rules.proofs.Once.{mistyped_breaks, mistyped_once}
use Rattle.verse_accept.specs.Stages.{OneResult, followed, in_turn}
use Rattle.verse_accept.specs.Fronts.{Cut, Laid, sized, cutting, laying, spelling, joining, naming, typing, bounding, testing}
use Rattle.verse_accept.specs.Fronts.{to_sized, to_cut, to_laid, to_spelled, to_joined, front_end, IsStuck, tok_place, refusal}
use Rattle.verse_accept.proofs.OneByOne.{one_followed, one_in_turn}
use Rattle.verse_accept.proofs.StuckToks.{stuck_once, stuck_or_spelled}

one_size : (file : ℕ) → OneResult (sized file)
one_size file = record {
  value = λ a b c x y. x.0 ∙ sym y.0;
  refusal = λ a r q x y. x.1 ∙ sym y.1;
  apart = λ a b r x y. let small = x.1 in let large = y.0 in omega arith;
}

same_cut : (b c : Cut) → b.bytes ≡ c.bytes → b.tokens ≡ c.tokens → b ≡ c
same_cut b c e f = ap (λ x. record { bytes = x; tokens = b.tokens }) e ∙ ap (λ y. record { bytes = c.bytes; tokens = y }) f

same_laid : (b c : Laid) → b.bytes ≡ c.bytes → b.toks ≡ c.toks → b ≡ c
same_laid b c e f = ap (λ x. record { bytes = x; toks = b.toks }) e ∙ ap (λ y. record { bytes = c.bytes; toks = y }) f

one_cutting : (file : ℕ) → OneResult (cutting file)
one_cutting file = record {
  value = λ a b c x y. same_cut b c (x.0 ∙ sym y.0) (tokens.one_cut file a b.tokens c.tokens x.1 y.1);
  refusal = λ a r q x y. tokens.one_refusal file a r q x y;
  apart = λ a b r x y. tokens.cut_or_refused file a b.tokens r x.1 y;
}

one_laying : (file : ℕ) → OneResult (laying file)
one_laying file = record {
  value = λ a b c x y. same_laid b c (x.0 ∙ sym y.0) (one_layout a.bytes a.tokens b.toks c.toks x.1 y.1);
  refusal = λ a r q x y. layout.one_refusal a.bytes a.tokens r q x y;
  apart = λ a b r x y. layout.laid_or_refused a.bytes a.tokens b.toks r x.1 y;
}

same_stop : (file : ℕ) (bytes : List ℕ) (ks : List Tok) (i j : ℕ) (r q : Refusal) → IsStuck ks i → IsStuck ks j →
    r ≡ refusal (stop_rule (ahead (drop i ks))) (tok_place file bytes ks i) →
    q ≡ refusal (stop_rule (ahead (drop j ks))) (tok_place file bytes ks j) → r ≡ q
same_stop file bytes ks i j r q x y e f =
    e ∙ ap (λ (n : ℕ). refusal (stop_rule (ahead (drop n ks))) (tok_place file bytes ks n)) (stuck_once ks i j x y) ∙ sym f

one_spelling : (file : ℕ) → OneResult (spelling file)
one_spelling file = record {
  value = λ a b c x y. y.1 b x.0;
  refusal = λ a r q x y. same_stop file a.bytes a.toks x.0 y.0 r q x.1 y.1 x.2 y.2;
  apart = λ a b r x y. stuck_or_spelled a.bytes a.toks b y.0 x.0 y.1;
}

one_joining : OneResult joining
one_joining = record {
  value = λ a b c x y. x ∙ sym y;
  refusal = λ a r q x y. absurd x;
  apart = λ a b r x y. y;
}

one_naming : OneResult naming
one_naming = record {
  value = λ a b c x y. x.0 ∙ sym y.0;
  refusal = λ a r q x y. refused_once (NamesBreak a) (places_in a) r q x y;
  apart = λ a b r x y. x.1 y.fault.node y.fault.rule.0 y.leads.0;
}

one_typing : OneResult typing
one_typing = record {
  value = λ a b c x y. x.0 ∙ sym y.0;
  refusal = λ a r q x y. mistyped_once a r q x y;
  apart = λ a b r x y. mistyped_breaks a r y x.1;
}

one_bounding : OneResult bounding
one_bounding = record {
  value = λ a b c x y. x.0 ∙ sym y.0;
  refusal = λ a r q x y. x.1 ∙ sym y.1;
  apart = λ a b r x y. let small = x.1 in let large = y.0 in omega arith;
}

one_testing : OneResult testing
one_testing = one_followed (followed naming typing) bounding (one_followed naming typing one_naming one_typing) one_bounding

pub one_front_end : OneResult front_end
one_front_end =
    one_followed to_joined testing
    (one_followed to_spelled joining
    (one_followed to_laid (in_turn spelling)
    (one_followed to_cut (in_turn laying)
    (one_followed to_sized (in_turn cutting) (one_in_turn sized one_size) (one_in_turn cutting one_cutting))
    (one_in_turn laying one_laying))
    (one_in_turn spelling one_spelling))
    one_joining)
    one_testing
