-- What is found of an instance, before the rules of its type.
use Rattle.std.specs.Prelude.{ℕ, not, cond, Some, None}
use Rattle.verse_base.specs.declared.rules.TheConstants.{LACKING, MEMBERLESS}
use Rattle.verse_base.specs.declared.rules.TheConstants.{TYPES_DIFFER, UNCALLABLE}
use Rattle.verse_tree.specs.Tree.{Givens}
use Rattle.verse_check_typing.specs.Facts.{Facts, named_ref}
use Rattle.verse_check_typing.specs.Judgement.{Judgement}
use Rattle.verse_check_typing.specs.Members.{givens_fit, has_all, are_fields}
use Rattle.verse_check_typing.specs.Rows.{class_type}
use Rattle.verse_check_typing.specs.TypeRules.{on_class, is_class}

abbrev pub made_by : Facts → ℕ → Givens → Judgement
made_by f n gs = record {
  ty = class_type (named_ref f n);
  code =
      cond (not (on_class (named_ref f n) (λ c. givens_fit f c gs))) (Some TYPES_DIFFER) (
      cond (not (is_class (named_ref f n))) (Some UNCALLABLE) (
      cond (not (on_class (named_ref f n) (λ c. has_all f c gs))) (Some LACKING)
      (cond (not (on_class (named_ref f n) (λ c. are_fields f c gs))) (Some MEMBERLESS) None)
      )
      );
}
