-- What `set` writes to, from one index to the next.
use Rattle.std.specs.Prelude.{ℕ, zero, suc, ◌+◌}
use Rattle.verse_tree.specs.Tree.{Tree, tree, Shape, Trees}
use Rattle.verse_tree.specs.Tree as t
use Rattle.verse_tree.specs.View.{tree_of, trees, applied_of}
use Rattle.verse_tree.specs.declared.programs.Program.{Program}
use Rattle.verse_meaning.specs.Programs.{program_of}
use Rattle.verse_meaning.specs.Residuals.{Base}
use Rattle.lower_code.specs.Pieces.{Maker, stuck, ◌then◌}
use Rattle.lower_code.specs.Scopes.{Scope}
use Rattle.lower_code.specs.declared.arounds.Around.{Around}
use Rattle.lower_code.specs.Arounds.{up, raised}
use Rattle.lower_code.specs.Lowering as l
use Rattle.lower_code.specs.Lowering.{how_many, target_operands}
use Rattle.lower_lookup.specs.Types.{differ_of}
use Rattle.lower_parts.specs.Parts.{tree_code, operands_code}
use Rattle.lower_calls.specs.declared.aims.Aim.{Aim}
use Rattle.lower_calls.specs.declared.aims.Aim.TheVariants as aim

-- a name; a member of an object; what is indexed, with the arguments; what nothing is written to
pub data Aimed : Type 0 where
  at_name : Aimed
  at_member : Tree → Aimed
  at_index : Tree → Trees → Aimed
  at_other : Aimed

abbrev pub aim_view : Aim → Aimed
aim_view aim.Name = at_name
aim_view (aim.Member b) = at_member (tree_of b.now)
aim_view (aim.Index a) = at_index (applied_of a.now).0 (trees (applied_of a.now).1)
aim_view aim.Other = at_other

abbrev pub aimed_in : Shape → Aimed
aimed_in (t.Shape.name x) = at_name
aimed_in (t.Shape.member b x) = at_member b
aimed_in (t.Shape.index b ts) = at_index b ts
aimed_in s = at_other

abbrev pub aimed : Tree → Aimed
aimed (tree n pl s) = aimed_in s

-- how many indices stand behind one another
abbrev mutual
  pub levels_in : Shape → ℕ
  levels_in (t.Shape.index b ts) = suc (levels b)
  levels_in s = 0

  pub levels : Tree → ℕ
  levels (tree n pl s) = levels_in s

-- what the last index is of; and what stands before the last n
abbrev pub before : Aimed → Tree → Tree
before (at_index b ts) whole = b
before other whole = whole

abbrev pub beneath : Tree → Tree
beneath b = before (aimed b) b

abbrev pub under : (n : ℕ) → Tree → Tree
under zero b = b
under (suc n) b = beneath (under n b)

-- so many operands lead to it, where n lead to what is indexed
abbrev pub operands_to : (n : ℕ) → Aimed → ℕ
operands_to n (at_index b ts) = how_many ts + n
operands_to n other = 0

module _ (p : Program) where
  -- what no index stands behind
  abbrev pub bottom_code : Aimed → Base → Scope → Around → Maker
  bottom_code at_name base sc a = l.base_code (program_of p) (differ_of p) base sc
  bottom_code (at_member b) base sc a = tree_code p b sc a
  bottom_code (at_index b ts) base sc a = stuck
  bottom_code at_other base sc a = stuck

  -- the last index, where n operands lead to what is indexed
  abbrev pub level_code : (n : ℕ) → Aimed → Scope → Around → Maker
  level_code n (at_index b ts) sc a = operands_code p ts sc (up (raised n a))
  level_code n other sc a = stuck

  abbrev pub target_code : Tree → Base → Scope → Around → Maker
  target_code = l.target_piece (program_of p) (differ_of p)

  abbrev pub aim_code : Aimed → Base → Scope → Around → Maker
  aim_code (at_index b ts) base sc a =
      target_code b base sc a then level_code (target_operands b) (at_index b ts) sc a
  aim_code other base sc a = bottom_code other base sc a
