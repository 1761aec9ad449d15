-- The fields of an instance: those that are given, and all in their order.
use Rattle.std.proofs.Common.{◌≡◌, ℕ, ◌+◌, ◌<◌, ◌≤◌, List, ◌∷◌, length, get_or, sym, ap, ◌∙◌}
use Rattle.std.proofs.Common.{Option, Some, None}
use denote.Ref.{Bor}
use Rattle.verse_base.specs.declared.places.Place.{Place}
use Rattle.verse_tree.specs.Tree.{Givens}
use Rattle.verse_tree.specs.View.{given_of, givens}
use Rattle.verse_tree.specs.ItemTree.{FieldTree}
use Rattle.verse_tree.specs.declared.exprs.Given.{Given}
use Rattle.verse_tree.specs.declared.items.Field.{Field}
use Rattle.verse_tree.specs.declared.programs.Program.{Program}
use Rattle.verse_meaning.specs.Programs.{program_of, fields_of}
use Rattle.lower_code.specs.Pieces.{Maker, placed, put_away, stuck, ◌then◌}
use Rattle.lower_code.specs.Lowering.{given_args, given_local, field_op, field_ops, instance_of}
use Rattle.lower_code.specs.Scopes.{Scope, hidden}
use Rattle.lower_code.specs.declared.arounds.Around.{Around}
use Rattle.lower_lookup.specs.Types.{differ_of}
use Rattle.verse_code.specs.declared.operations.Op.TheVariants as o
use Rattle.lower_expr.specs.Building.{Built, made}
use Rattle.lower_expr.specs.Endings.{numbered}
use Rattle.lower_expr.proofs.Laws.{made_then, made_nothing}
use Rattle.lower_declared.specs.Views.{field_now}
use Rattle.lower_parts.specs.Parts.{tree_code}
use Rattle.lower_parts.proofs.Lists.{seen_next, seen_none}
use Rattle.lower_parts.proofs.Facts.{left_fields, left_givens}
use Rattle.lower_values.specs.Parts.{given_code}

module _ (p : Program) (xs : List Given) (i : ℕ) (a : Around) where
  abbrev code : Givens → Scope → Maker
  code gs sc = given_args (program_of p) (differ_of p) gs sc a

  -- behind one part more, and where none is left
  pub givens_next : (x : Given) (sc new : Scope) (b behind all : Built) → i < length xs → x ≡ get_or xs i x →
      new ≡ hidden ∷ sc →
      behind ≡ made (given_code p (given_of x).1 sc a) b → made (code (left_givens xs i) sc) b ≡ all →
      made (code (left_givens xs (i + 1)) new) behind ≡ all
  givens_next x sc new b behind all h e k g is =
      let f1 : Maker = tree_code p (given_of x).1 sc a in
      let f2 : Maker = put_away (length sc) in
      let rest : Maker = code (left_givens xs (i + 1)) (hidden ∷ sc) in
      ap (λ s. made (code (left_givens xs (i + 1)) s) behind) k ∙ ap (made rest) (g ∙ made_then f1 f2 b)
      ∙ sym (made_then f1 (f2 then rest) b ∙ made_then f2 rest (made f1 b))
      ∙ sym (ap (λ gs. made (code (givens gs) sc) b) (seen_next given_of xs i x h e)) ∙ is

  pub givens_done : (sc : Scope) (b all : Built) → length xs ≤ i → made (code (left_givens xs i) sc) b ≡ all → b ≡ all
  givens_done sc b all h is =
      sym (ap (λ gs. made (code (givens gs) sc) b) (seen_none given_of xs i h) ∙ made_nothing b) ∙ is

module _ (p : Program) (xs : List (Bor Field)) (i : ℕ) (gs : Givens) (l : ℕ) where
  abbrev ops : List FieldTree → Maker
  ops fs = field_ops (program_of p) (differ_of p) fs gs l

  pub fields_next : (x : Bor Field) (f : Maker) (b behind all : Built) → i < length xs → x ≡ get_or xs i x →
      f ≡ field_op (program_of p) (differ_of p) (given_local (field_now x).name gs l) (field_now x).default
      (field_now x).number →
      behind ≡ made f b → made (ops (left_fields xs i)) b ≡ all → made (ops (left_fields xs (i + 1))) behind ≡ all
  fields_next x f b behind all h e k g is =
      let first : Maker =
      field_op (program_of p) (differ_of p) (given_local (field_now x).name gs l) (field_now x).default
      (field_now x).number in
      let rest : Maker = ops (left_fields xs (i + 1)) in
      ap (made rest) (g ∙ ap (λ m. made m b) k) ∙ sym (made_then first rest b)
      ∙ sym (ap (λ fs. made (ops fs) b) (seen_next field_now xs i x h e)) ∙ is

  pub fields_done : (b all : Built) → length xs ≤ i → made (ops (left_fields xs i)) b ≡ all → b ≡ all
  fields_done b all h is = sym (ap (λ fs. made (ops fs) b) (seen_none field_now xs i h) ∙ made_nothing b) ∙ is

-- an instance of a class, by what its steps make, and of none
pub class_done : (p : Program) (class : ℕ) (place : Place) (gs : Givens) (sc : Scope) (a : Around) (first : ℕ)
    (b given fields all : Built) →
    first ≡ length sc → given ≡ made (given_args (program_of p) (differ_of p) gs sc a) b →
    fields ≡ made (field_ops (program_of p) (differ_of p) (fields_of (program_of p) class) gs first) given →
    all ≡ made (placed place (numbered (o.Object class 0))) fields →
    all ≡ made
    (instance_of (program_of p) (differ_of p) (Some class) place gs (length sc)
    (given_args (program_of p) (differ_of p) gs
    sc a)) b
unfolding instance_of
class_done p class place gs sc a first b given fields all e1 e2 e3 e4 =
    let f1 : Maker = given_args (program_of p) (differ_of p) gs sc a in
    let f2 : ℕ → Maker = λ k. field_ops (program_of p) (differ_of p) (fields_of (program_of p) class) gs k in
    let f3 : Maker = placed place (numbered (o.Object class 0)) in
    e4 ∙ ap (made f3) (e3 ∙ ap (λ k. made (f2 k) given) e1 ∙ ap (made (f2 (length sc))) e2)
    ∙ sym (made_then f1 (f2 (length sc) then f3) b ∙ made_then (f2 (length sc)) f3 (made f1 b))

pub class_none : (p : Program) (place : Place) (gs : Givens) (l : ℕ) (given : Maker) (c : Option ℕ) → c ≡ None →
    instance_of (program_of p) (differ_of p) c place gs l given ≡ stuck
unfolding instance_of
class_none p place gs l given c e = ap (λ k. instance_of (program_of p) (differ_of p) k place gs l given) e
