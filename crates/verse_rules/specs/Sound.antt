-- Which rules a program breaks behind those of names, and how it is refused for them.
use Rattle.std.specs.Prelude.{◌≡◌, ◌⊎◌, ℕ, ◌+◌, ◌*◌, List, map}
use Rattle.verse_base.specs.declared.refusals.Refusal.{Refusal}
use Rattle.verse_tree.specs.ItemTree.{ItemTree}
use Rattle.verse_tree.specs.Numbering.{program_nodes}
use Rattle.verse_tree.specs.ItemView.{item_of}
use Rattle.verse_tree.specs.Sizes.{items_fields}
use Rattle.verse_tree.specs.Sizes as sizes
use Rattle.verse_tree.specs.declared.programs.Program.{Program}
use Rattle.verse_tree.specs.declared.tables.Names.{Names}
use Rattle.verse_rules_types.specs.Types.{Ty}
use Rattle.verse_rules_least.specs.Refusals.{IsRefusedFor}
use Rattle.verse_names_items.specs.Nodes.{places_in}
use Rattle.verse_rules.specs.Breaking.{NamesBreak, IsMisnamed}
use Rattle.verse_rules_walk.specs.Nodes.{items_nodes}
use Rattle.verse_check.specs.Checking as types
use Rattle.verse_effects.specs.Rules as effects
use Rattle.verse_rules.specs.Naming.{named}

-- what the names of a program stand for, with what members behind a dot refer to: that is found by
-- the types of their objects
abbrev pub completed : List ItemTree → Names
completed is = record (named is) { refs = (types.all_seen (named is) is).refs }

-- the types of the nodes
abbrev pub types_of : List ItemTree → List Ty
types_of is = (types.all_seen (named is) is).types

-- the node n breaks the rule c of types, E050 to E059 or E070
abbrev pub TypesBreak : List ItemTree → ℕ → ℕ → Type 0
TypesBreak is n c = types.TypesBreak (named is) is n c

-- the node n breaks the rule c of effects, E060 to E068
abbrev pub EffectsBreak : List ItemTree → ℕ → ℕ → Type 0
EffectsBreak is n c = effects.BreaksAt (completed is) (items_nodes is) n c

-- the two are one group
abbrev pub BodiesBreak : List ItemTree → ℕ → ℕ → Type 0
BodiesBreak is n c = TypesBreak is n c ⊎ EffectsBreak is n c

-- a refusal is that of the least rule of types or effects that is broken
abbrev pub IsMistyped : List ItemTree → Refusal → Type 0
IsMistyped is r = IsRefusedFor (BodiesBreak is) (places_in is) r

-- no rule of names, types or effects is broken
pub record IsSound (is : List ItemTree) : Type 0 where
  pub named : (n c : ℕ) → NamesBreak is n c → ⊥
  pub typed : (n c : ℕ) → BodiesBreak is n c → ⊥

-- a refusal is that of the least rule of names that is broken, or where none is, of types and
-- effects
abbrev pub IsUnsound : List ItemTree → Refusal → Type 0
IsUnsound is r = IsMisnamed is r ⊎ (((n c : ℕ) → NamesBreak is n c → ⊥) × IsMistyped is r)

-- a program has at most one such refusal, and none where it breaks no rule
pub record SoundOnce : Type 0 where
  pub refusal : (is : List ItemTree) (r q : Refusal) → IsUnsound is r → IsUnsound is q → r ≡ q
  pub apart : (is : List ItemTree) (r : Refusal) → IsSound is → IsUnsound is r → ⊥

-- ---- the size

-- 16 for each node, and 4 for each field of the class of each instance expression
abbrev pub size_of : List ItemTree → ℕ
size_of is = 16 * program_nodes is + 4 * items_fields (completed is) is

-- the greatest size of a program
abbrev pub most_size : ℕ
most_size = 16777216

-- a program that is kept whole has this size
abbrev pub SizesAgree : Type 0
SizesAgree = (p : Program) → p.names ≡ completed (map item_of p.tree.items) →
    sizes.size_of p ≡ size_of (map item_of p.tree.items)
