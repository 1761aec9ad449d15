-- The arms of a group, one by one.
use Rattle.std.proofs.Common.{◌≡◌, ℕ, suc, ◌+◌, ◌<◌, ◌≤◌, List, length, get_or, sym, ap, ◌∙◌}
use Rattle.verse_base.specs.declared.places.Place.{Place}
use Rattle.verse_tree.specs.Tree.{Trees}
use Rattle.verse_tree.specs.View.{tree_of}
use Rattle.verse_tree.specs.declared.exprs.Expr.{Expr}
use Rattle.verse_tree.specs.declared.programs.Program.{Program}
use Rattle.verse_meaning.specs.Programs.{program_of}
use Rattle.lower_code.specs.Scopes.{Scope}
use Rattle.lower_code.specs.Lowering.{how_many}
use Rattle.lower_lookup.specs.Types.{differ_of}
use Rattle.lower_expr.specs.Building.{Built, made, ended_here}
use Rattle.lower_task.specs.Tasks.{kind_number, group_begun}
use Rattle.lower_task.specs.declared.groups.Kind.{Kind}
use Rattle.lower_task.proofs.Arms as task
use Rattle.lower_parts.proofs.Operands.{left, left_next, left_none}
use Rattle.lower_calls.specs.Parts.{group_code, arm_code, arms_lowered}

module _ (p : Program) (xs : List Expr) (i : ℕ) (sc : Scope) where
  -- what is left ends as all does: behind one arm more, and where none is left
  pub arms_next : (x : Expr) (here : Scope) (at next : ℕ) (b behind all : Built) → i < length xs →
      x ≡ get_or xs i x → here ≡ sc →
      next ≡ suc at → behind ≡ made (arm_code p here (tree_of x)) (ended_here at b) →
      arms_lowered p sc (left xs i) at b ≡ all →
      arms_lowered p sc (left xs (i + 1)) next behind ≡ all
  arms_next x here at next b behind all h e k f g is =
      ap (λ n. arms_lowered p sc (left xs (i + 1)) n behind) f
      ∙ ap (arms_lowered p sc (left xs (i + 1)) (suc at))
      (g ∙ ap (λ s. made (arm_code p s (tree_of x)) (ended_here at b)) k)
      ∙ sym (ap (λ ts. arms_lowered p sc ts at b) (left_next xs i x h e)) ∙ is

  pub arms_done : (at : ℕ) (b all : Built) → length xs ≤ i → arms_lowered p sc (left xs i) at b ≡ all → b ≡ all
  arms_done at b all h is = sym (ap (λ ts. arms_lowered p sc ts at b) (left_none xs i h)) ∙ is

pub group_is : (p : Program) (kind : Kind) (pl : Place) (ts : Trees) (sc : Scope) (b begun ended all : Built)
    (count at jump : ℕ) →
    count ≡ how_many ts → at ≡ suc (length b.ops) → jump ≡ length b.ops + 1 + count →
    begun ≡ group_begun (kind_number kind) count pl b → ended ≡ arms_lowered p sc ts at begun →
    all ≡ ended_here jump ended →
    all ≡ made (group_code p kind pl ts sc) b
group_is p kind pl ts sc b begun ended all count at jump c a j g e f =
    f ∙ ap (ended_here jump) (
    e ∙ ap (λ n. arms_lowered p sc ts n begun) a
    ∙ ap (arms_lowered p sc ts (suc (length b.ops))) (g ∙ ap (λ n. group_begun (kind_number kind) n pl b) c))
    ∙ sym (task.group_law (program_of p) (differ_of p) sc (kind_number kind) ts pl b jump
    (j ∙ ap (λ n. length b.ops + 1 + n) c))
