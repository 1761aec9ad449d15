-- The lists of a program, by one item or one member and what is behind it.
use Rattle.std.proofs.Common.{◌≡◌, List, ◌∷◌, ◌++◌, refl}
use Rattle.verse_tree.specs.ItemTree.{MemberTree, field, method, ItemTree, using, enumeration, class, function}
use Rattle.verse_meaning.specs.Programs.{enums, own_fields}
use Rattle.lower_code.specs.Defaults.{with_defaults, defaults_in}
use Rattle.lower_declared.specs.Parts.{enums_at, fields_at, default_at, defaults_at}

module _ (is : List ItemTree) where
  pub enums_split : (i : ItemTree) → enums (i ∷ is) ≡ enums_at i ++ enums is
  enums_split (using u) = refl
  enums_split (enumeration e) = refl
  enums_split (class c) = refl
  enums_split (function f) = refl

  pub defaults_split : (i : ItemTree) → defaults_in (i ∷ is) ≡ defaults_at i ++ defaults_in is
  defaults_split (using u) = refl
  defaults_split (enumeration e) = refl
  defaults_split (class c) = refl
  defaults_split (function f) = refl

module _ (ms : List MemberTree) where
  pub fields_split : (m : MemberTree) → own_fields (m ∷ ms) ≡ fields_at m ++ own_fields ms
  fields_split (field f) = refl
  fields_split (method f) = refl

  pub member_defaults_split : (m : MemberTree) → with_defaults (own_fields (m ∷ ms)) ≡ default_at m ++ with_defaults (own_fields ms)
  member_defaults_split (field f) = refl
  member_defaults_split (method f) = refl
