-- The arms of a `case`, whose jumps to its end stay open while those behind them are lowered.
use Rattle.std.specs.Prelude.{◌≡◌, ℕ, List, Bool, Option, Some, None, cond, length}
use Rattle.verse_tree.specs.Tree.{Tree, tree, Shape, Trees}
use Rattle.verse_tree.specs.Tree as t
use Rattle.verse_tree.specs.declared.programs.Program.{Program}
use Rattle.verse_code.specs.declared.operations.Op.TheVariants as o
use Rattle.verse_meaning.specs.Programs.{program_of}
use Rattle.lower_code.specs.Pieces.{Maker, stuck, one, texted}
use Rattle.lower_code.specs.Scopes.{Scope}
use Rattle.lower_code.specs.Lowering.{pattern_op, is_any, arm_of, arms}
use Rattle.lower_code.specs.declared.arounds.Around.{Around}
use Rattle.lower_lookup.specs.Types.{differ_of}
use Rattle.lower_expr.specs.Building.{Built, pushed, made}
use Rattle.lower_fail.specs.Attempts.{same_begun, all_ended}
use Rattle.lower_parts.specs.Parts.{tree_code}
use Rattle.lower_blocks.specs.declared.patterns.Pattern.{Pattern}
use Rattle.lower_blocks.specs.declared.patterns.Pattern.TheVariants as pattern

-- the pattern and the body of an arm
abbrev pub arm_parts_shape : Shape → Option (Tree × Tree)
arm_parts_shape (t.Shape.arm a b) = Some (a, b)
arm_parts_shape s = None

abbrev pub arm_parts : Tree → Option (Tree × Tree)
arm_parts (tree n pl s) = arm_parts_shape s

abbrev pub pattern_code : Pattern → Maker
pattern_code pattern.Nothing = stuck
pattern_code (pattern.Operation op) = one op
pattern_code (pattern.Text bs) = texted bs.now

module _ (p : Program) where
  abbrev pub shape_pattern : Shape → Maker
  shape_pattern = pattern_op (program_of p) (differ_of p)

  abbrev pub tree_pattern : Tree → Maker
  tree_pattern (tree n pl s) = shape_pattern s

  abbrev pub is_any_shape : Shape → Bool
  is_any_shape = is_any (program_of p) (differ_of p)

  abbrev pub is_any_tree : Tree → Bool
  is_any_tree (tree n pl s) = is_any_shape s

  -- an arm by its parts, with those behind it, where the subject is in local l; and all arms
  abbrev pub arm_code : Option (Tree × Tree) → (l : ℕ) → (last : Bool) → Scope → Around →
      (rest : Maker) → Maker
  arm_code None l last sc a rest = stuck
  arm_code (Some q) l last sc a rest =
      arm_of (program_of p) (differ_of p) q.0 l last (tree_code p q.1 sc a) rest

  abbrev pub arms_code : Trees → (l : ℕ) → Scope → Around → Maker
  arms_code = arms (program_of p) (differ_of p)

  -- behind the pattern and the body f of an arm that is compared
  abbrev pub compared_arm : Tree → (l : ℕ) → (f : Maker) → Built → Built
  compared_arm t l f b = made f (same_begun l (made (tree_pattern t) b))

  -- where it is compared
  abbrev pub comparison : Tree → (l : ℕ) → Built → ℕ
  comparison t l b = length (pushed (o.Get l) (made (tree_pattern t) b)).ops

-- A code f of what is left, from b on, with the jumps js open: it leads to c with the jumps ks
-- open, where what is left stands; or nothing stands there, where the code does not go on.
pub record ArmLeads (f : Maker → Maker) (goes_on : Bool) (js ks : List ℕ) (b c : Built) :
    Type 0 where
  pub leads : (rest : Maker) →
      all_ended ks (cond goes_on (made rest c) c) ≡ all_ended js (made (f rest) b)
