-- The arms of a `case`, whose ends stay open while those behind them are noted.
use Rattle.std.specs.Prelude.{◌≡◌, ℕ, List, Bool, Option, Some, None, cond, option_map}
use Rattle.verse_tree.specs.Tree.{Tree, tree, Shape, Trees}
use Rattle.verse_tree.specs.declared.programs.Program.{Program}
use Rattle.verse_meaning.specs.Programs.{program_of}
use Rattle.lower_code.specs.Scopes.{Scope}
use Rattle.lower_code.specs.declared.arounds.Around.{Around}
use Rattle.lower_lookup.specs.Types.{differ_of}
use Rattle.lower_notes.specs.States.{State, pops, gives, gets}
use Rattle.lower_notes.specs.Stretches.{Walk, one, ends}
use Rattle.lower_notes.specs.Noting as n
use Rattle.lower_notes.specs.Noting.{arm_of, arms}
use Rattle.note_sorts.specs.Tabled.{found_of}
use Rattle.note_sorts.specs.Kinds.{kind_sort}
use Rattle.note_sorts.specs.declared.kinds.Kind.{Kind}
use Rattle.note_stretches.specs.Noted.{Noted, marked, changed, walked}
use Rattle.note_cases.specs.Ends.{End, all_ended}
use Rattle.note_parts.specs.Parts.{tree_walk}

module _ (p : Program) where
  -- by the sort of a pattern that is compared
  abbrev pub pattern_of : Option Kind → Walk
  pattern_of None = ends
  pattern_of (Some k) = one (gives 0 (kind_sort (found_of p) k))

  abbrev pub shape_pattern : Shape → Walk
  shape_pattern = n.pattern_walk (program_of p) (found_of p) (differ_of p)

  abbrev pub tree_pattern : Tree → Walk
  tree_pattern (tree n pl s) = shape_pattern s

  -- an arm by its parts, with those behind it, where the subject is in local l; and all arms
  abbrev pub arm_walk : Option (Tree × Tree) → (l : ℕ) → (last : Bool) → Scope → Around →
      (rest : Walk) → Walk
  arm_walk None l last sc a rest = ends
  arm_walk (Some q) l last sc a rest =
      arm_of (program_of p) (found_of p) (differ_of p) q.0 l last (tree_walk p q.1 sc a) rest

  abbrev pub arms_walk : Trees → (l : ℕ) → Scope → Around → Walk
  arms_walk = arms (program_of p) (found_of p) (differ_of p)

  -- behind the pattern of an arm that is compared, and the subject
  abbrev pub compared : Tree → (l : ℕ) → Noted → Noted
  compared t l b = walked (one (gets l)) (walked (tree_pattern t) b)

  -- behind its body f
  abbrev pub compared_arm : Tree → (l : ℕ) → (f : Walk) → Noted → Noted
  compared_arm t l f b = walked f (changed (pops 2) (marked (compared t l b)))

  -- where it is another value
  abbrev pub other_at : Tree → (l : ℕ) → Noted → Option State
  other_at t l b = option_map (pops 2) (compared t l b).exit

-- A walk f of what is left, from b on, with these ends open: it leads to c with the ends fs open,
-- where what is left stands; or nothing stands there, where nothing goes on.
pub record ArmLeads (f : Walk → Walk) (goes_on : Bool) (es fs : List End) (b c : Noted) :
    Type 0 where
  pub leads : (rest : Walk) →
      all_ended fs (cond goes_on (walked rest c) c) ≡ all_ended es (walked (f rest) b)
