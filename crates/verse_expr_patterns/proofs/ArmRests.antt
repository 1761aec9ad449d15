-- An arm is its pattern with what stands behind it.
use Rattle.std.proofs.Common.{◌≡◌, ◌≢◌, ℕ, List, ◌∷◌, Some, length, refl}
use Rattle.verse_base.specs.declared.places.Place.{Place}
use Rattle.verse_lex.specs.declared.tokens.Mark.TheVariants as m
use Rattle.verse_layout.specs.declared.toks.Tok.{Tok}
use Rattle.verse_tree.specs.Tree.{Tree, tree}
use Rattle.verse_tree.specs.Tree as t
use Rattle.verse_grammar.specs.Toks.{ahead, mark}
use Rattle.verse_grammar.specs.Exprs.{Reads}
use Rattle.verse_grammar.specs.Symbols.{rule, phrase}
use Rattle.verse_grammar.specs.Reading.{Eats, eats_none, eats_tok, eats_rule, EatsRule, eats_becomes, Sticks, sticks_here}
use Rattle.verse_grammar.specs.Reading.{sticks_behind_tok, sticks_in_rule, sticks_behind_rule, SticksRule, sticks_becomes}
use Rattle.verse_grammar.specs.declared.phrases.Phrase.TheVariants as p
use Rattle.verse_expr_patterns.specs.Arms.{IsArm, is_arm}
use Rattle.verse_expr_patterns.specs.ArmRests.{arm_rest, IsArmRest, behind_arrow}

pub eats_arm_rest : (k : Tok) (ks rest : List Tok) → k.kind ≡ mark m.FatArrow → EatsRule (phrase p.Body) ks rest →
    Eats arm_rest (k ∷ ks) rest
eats_arm_rest k ks rest h e = eats_tok h (eats_rule e eats_none)

pub sticks_arm_rest_1 : (at : List Tok) → ahead at ≢ Some (mark m.FatArrow) → Sticks arm_rest at (length at)
sticks_arm_rest_1 at n = sticks_here n

pub sticks_arm_rest_2 : (left : ℕ) (k : Tok) (at : List Tok) → k.kind ≡ mark m.FatArrow → SticksRule (phrase p.Body) at left →
    Sticks arm_rest (k ∷ at) left
sticks_arm_rest_2 left k at h x = sticks_behind_tok h (sticks_in_rule x)

pub arm_joined : {b : List ℕ} {place : Place} {ks mid rest : List Tok} {e f : Tree} → Reads b p.Pattern ks e mid → IsArmRest b mid f rest →
    IsArm b place ks (tree 0 place (t.Shape.arm e f)) rest
arm_joined r (behind_arrow h s) = is_arm r h s

pub eats_arm_joined : (ks mid rest : List Tok) → EatsRule (phrase p.Pattern) ks mid → Eats arm_rest mid rest →
    EatsRule (phrase p.Arm) ks rest
eats_arm_joined ks mid rest e more = eats_becomes {r = phrase p.Arm} {Ys = rule (phrase p.Pattern) ∷ arm_rest} {ks = ks} refl
    (eats_rule e more)

pub sticks_arm_joined : (left : ℕ) (ks mid : List Tok) → EatsRule (phrase p.Pattern) ks mid → Sticks arm_rest mid left →
    SticksRule (phrase p.Arm) ks left
sticks_arm_joined left ks mid e x = sticks_becomes {r = phrase p.Arm} {Ys = rule (phrase p.Pattern) ∷ arm_rest} {ks = ks} refl
    (sticks_behind_rule e x)
