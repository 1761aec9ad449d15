-- The fields of an instance: those that are given, and all in their order.
use Rattle.std.proofs.Common.{◌≡◌, ℕ, ◌+◌, ◌<◌, ◌≤◌, List, ◌∷◌, length, get_or, sym, ap, ◌∙◌, Option, Some, None}
use denote.Ref.{Bor}
use Rattle.verse_tree.specs.Tree.{Givens}
use Rattle.verse_tree.specs.View.{given_of, givens}
use Rattle.verse_tree.specs.ItemTree.{FieldTree}
use Rattle.verse_tree.specs.declared.exprs.Given.{Given}
use Rattle.verse_tree.specs.declared.items.Field.{Field}
use Rattle.verse_tree.specs.declared.programs.Program.{Program}
use Rattle.verse_meaning.specs.Programs.{program_of, fields_of}
use Rattle.verse_meaning.specs.Evaluating.{number_of}
use Rattle.lower_code.specs.Lowering.{given_local}
use Rattle.lower_code.specs.Scopes.{Scope, hidden}
use Rattle.lower_code.specs.declared.arounds.Around.{Around}
use Rattle.lower_lookup.specs.Types.{differ_of}
use Rattle.lower_declared.specs.Views.{field_now}
use Rattle.lower_parts.proofs.Lists.{seen_next, seen_none}
use Rattle.lower_parts.proofs.Facts.{left_fields, left_givens}
use Rattle.lower_notes.specs.States.{puts}
use Rattle.lower_notes.specs.Stretches.{Walk, one, last, ends, ◌then◌}
use Rattle.lower_notes.specs.Noting.{given_args, field_walk, field_walks, instance_of}
use Rattle.note_sorts.specs.Tabled.{found_of}
use Rattle.note_stretches.specs.Noted.{Noted, walked}
use Rattle.note_stretches.proofs.Laws.{walked_then, walked_nothing}
use Rattle.note_parts.specs.Parts.{tree_walk}
use Rattle.note_values.specs.Parts.{given_walk}

abbrev pub givens_walk : Program → Givens → Scope → Around → Walk
givens_walk p = given_args (program_of p) (found_of p) (differ_of p)

module _ (p : Program) (xs : List Given) (i : ℕ) (a : Around) where
  -- behind one part more, and where none is left
  pub givens_next : (x : Given) (sc new : Scope) (b behind all : Noted) → i < length xs → x ≡ get_or xs i x →
      new ≡ hidden ∷ sc → behind ≡ walked (given_walk p (given_of x).1 sc a) b →
      walked (givens_walk p (left_givens xs i) sc a) b ≡ all → walked (givens_walk p (left_givens xs (i + 1)) new a) behind ≡ all
  givens_next x sc new b behind all h e k g is =
      let f1 : Walk = tree_walk p (given_of x).1 sc a in
      let f2 : Walk = one (puts (length sc) ((found_of p).sort (number_of (given_of x).1))) in
      let rest : Walk = givens_walk p (left_givens xs (i + 1)) (hidden ∷ sc) a in
      ap (λ s. walked (givens_walk p (left_givens xs (i + 1)) s a) behind) k ∙ ap (walked rest) (g ∙ walked_then f1 f2 b)
      ∙ sym (walked_then f1 (f2 then rest) b ∙ walked_then f2 rest (walked f1 b))
      ∙ sym (ap (λ gs. walked (givens_walk p (givens gs) sc a) b) (seen_next given_of xs i x h e)) ∙ is

  pub givens_done : (sc : Scope) (b all : Noted) → length xs ≤ i → walked (givens_walk p (left_givens xs i) sc a) b ≡ all → b ≡ all
  givens_done sc b all h is =
      sym (ap (λ gs. walked (givens_walk p (givens gs) sc a) b) (seen_none given_of xs i h) ∙ walked_nothing b) ∙ is

abbrev pub fields_walk : Program → List FieldTree → Givens → (l : ℕ) → Walk
fields_walk p = field_walks (program_of p) (found_of p) (differ_of p)

module _ (p : Program) (xs : List (Bor Field)) (i : ℕ) (gs : Givens) (l : ℕ) where
  pub fields_next : (x : Bor Field) (b behind all : Noted) → i < length xs → x ≡ get_or xs i x →
      behind ≡ walked (field_walk (program_of p) (found_of p) (differ_of p) (given_local (field_now x).name gs l) (field_now x).default) b →
      walked (fields_walk p (left_fields xs i) gs l) b ≡ all → walked (fields_walk p (left_fields xs (i + 1)) gs l) behind ≡ all
  fields_next x b behind all h e g is =
      let first : Walk = field_walk (program_of p) (found_of p) (differ_of p) (given_local (field_now x).name gs l) (field_now x).default in
      let rest : Walk = fields_walk p (left_fields xs (i + 1)) gs l in
      ap (walked rest) g ∙ sym (walked_then first rest b)
      ∙ sym (ap (λ fs. walked (fields_walk p fs gs l) b) (seen_next field_now xs i x h e)) ∙ is

  pub fields_done : (b all : Noted) → length xs ≤ i → walked (fields_walk p (left_fields xs i) gs l) b ≡ all → b ≡ all
  fields_done b all h is =
      sym (ap (λ fs. walked (fields_walk p fs gs l) b) (seen_none field_now xs i h) ∙ walked_nothing b) ∙ is

-- an instance of a class, by what its steps make, and of none
pub class_done : (p : Program) (class : ℕ) (gs : Givens) (sc : Scope) (a : Around) (first : ℕ) (b given fields all : Noted) →
    first ≡ length sc → given ≡ walked (givens_walk p gs sc a) b →
    fields ≡ walked (fields_walk p (fields_of (program_of p) class) gs first) given → all ≡ walked last fields →
    all ≡ walked (instance_of (program_of p) (found_of p) (differ_of p) (Some class) gs (length sc) (givens_walk p gs sc a)) b
unfolding instance_of
class_done p class gs sc a first b given fields all e1 e2 e3 e4 =
    let f1 : Walk = givens_walk p gs sc a in
    let f2 : ℕ → Walk = λ k. fields_walk p (fields_of (program_of p) class) gs k in
    e4 ∙ ap (walked last) (e3 ∙ ap (λ k. walked (f2 k) given) e1 ∙ ap (walked (f2 (length sc))) e2)
    ∙ sym (walked_then f1 (f2 (length sc) then last) b ∙ walked_then (f2 (length sc)) last (walked f1 b))

pub class_none : (p : Program) (gs : Givens) (l : ℕ) (given : Walk) (c : Option ℕ) → c ≡ None →
    instance_of (program_of p) (found_of p) (differ_of p) c gs l given ≡ ends
unfolding instance_of
class_none p gs l given c e = ap (λ k. instance_of (program_of p) (found_of p) (differ_of p) k gs l given) e
