-- What is found at the nodes of a program, by what is found at all of them.
use Rattle.std.specs.Prelude.{◌≡◌, ℕ, true, List, Some, None}
use Rattle.verse_tree.specs.ItemTree.{ItemTree}
use Rattle.verse_rules_least.specs.Least.{first_true}
use Rattle.verse_check_typing.specs.Refs.{ref_at}
use Rattle.verse_check_typing.specs.Sets.{has_number}
use Rattle.verse_check_typing.specs.Facts.{Facts, world_of, type_at, var_at}
use Rattle.verse_check_typing.specs.Steps.{facts, own_rules, serves_as, type_by, ref_by, loop_left}
use Rattle.verse_check_typing.specs.Steps.{defines_variable}
use Rattle.verse_check.specs.Checking.{all_seen}
use Rattle.verse_effects.specs.Rules as effects
use Rattle.verse_names_scopes.specs.Subjects as names
use Rattle.verse_rules.specs.Naming.{named}
use Rattle.verse_rules.specs.Sound.{completed, types_of}
use Rattle.verse_accept_scopes.specs.Sites.{Site, node_of}
use Rattle.verse_accept_scopes.specs.Laws.{Stands}

-- what is known when all nodes are seen
abbrev pub final : List ItemTree → Facts
final is = facts (world_of (named is) is) (all_seen (named is) is)

-- at a node of a program that breaks no rule
pub record Found (is : List ItemTree) (v : Site) : Type 0 where
  pub stands : Stands v
  -- its type is that of its row, and may be used as it is
  pub type : type_at (types_of is) v.number ≡ type_by (final is) v.number v.what
  pub serves : serves_as (final is) v.around.used v.what (type_at (types_of is) v.number) ≡ true
  pub types : first_true (own_rules (final is) v.around v.number v.what) ≡ None
  -- what it refers to, and what its name stands for
  pub ref : ref_at (completed is).refs v.number ≡ ref_by (final is) v.number v.what
  pub named : ref_at (named is).refs v.number ≡ names.refers v.world v.locals v.subject
  pub names : first_true (names.rules_at v.world v.locals v.subject) ≡ None
  -- whether it defines a variable
  pub var : var_at (final is).vars v.number ≡ defines_variable v.what
  -- the loop that it leaves is among those that are left
  pub left : (m : ℕ) → loop_left v.around v.what ≡ Some m → has_number m (final is).left ≡ true
  pub effects : first_true (effects.rules_at (completed is) (final is).vars (node_of v)) ≡ None
