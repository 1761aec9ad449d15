-- What the items of a program mean, and their code, told by the items alone.
use Rattle.std.specs.Prelude.{◌≡◌, ℕ, List, [], Bool, true, false, cond, Option, Some, None}
use Rattle.std.specs.Prelude.{slice_get}
use Rattle.verse_tree.specs.ItemTree.{ItemTree}
use Rattle.verse_rules_types.specs.Types.{Ty, array, event}
use Rattle.verse_rules_types.specs.Fitting.{is_same}
use Rattle.verse_rules.specs.Sound.{completed, types_of}
use Rattle.verse_value.specs.Runs.{Run}
use Rattle.verse_meaning_state.specs.Turns.{Stage}
use Rattle.verse_meaning.specs.Programs.{Program}
use Rattle.verse_meaning.specs.Runs.{Forest, after, mean}
use Rattle.verse_code.specs.declared.codes.Code.{Code}
use Rattle.lower_code.specs.Programs.{code_of}
use Rattle.lower_notes.specs.Programs.{notes_of}
use Rattle.verse_accept_fine.specs.Sorted.{sorted}
use Rattle.verse_verify_bytes.specs.Bytes.{bytes_of}
use Rattle.verse_top_args.specs.Words.{Options}
use Rattle.verse_top_args.specs.declared.commands.TheConstants.{DEFAULT_STEPS, DEFAULT_UNTIL}
use Rattle.verse_code_machine.specs.Runs.{mach_after}
use Rattle.verse_top_texts.specs.Streams.{Streams, state_in}
use Rattle.verse_top_exec.specs.Executions.{run_with}

-- ---- by the types of the nodes

abbrev pub is_array : Ty → Bool
is_array (array t) = true
is_array t = false

abbrev pub is_event : Ty → Bool
is_event (event t) = true
is_event t = false

-- of the node of a number, where it has a type
abbrev pub of_node : (Ty → Bool) → Option Ty → Bool
of_node is None = false
of_node is (Some t) = is t

-- whether two nodes have different types; not where one has none
abbrev pub are_different : Option Ty → Option Ty → Bool
are_different None u = false
are_different (Some t) None = false
are_different (Some t) (Some u) = cond (is_same t u) false true

abbrev pub differ_from : List ItemTree → ℕ → ℕ → Bool
differ_from is a b = are_different (slice_get (types_of is) a) (slice_get (types_of is) b)

-- ---- the program, its run, and its code

abbrev pub program_from : List ItemTree → Program
program_from is = record {
  items = is;
  names = completed is;
  is_array = λ n. of_node is_array (slice_get (types_of is) n);
  is_event = λ n. of_node is_event (slice_get (types_of is) n);
}

-- the run that the items mean with these options
abbrev pub mean_with : List ItemTree → Options → Run
mean_with is o = mean (program_from is) o.inputs o.steps o.until

-- those of a run whose words say nothing
abbrev pub default_options : Options
default_options = record { steps = DEFAULT_STEPS; until = DEFAULT_UNTIL; inputs = []; heap = false }

-- the program after Main's start and so many turns
abbrev pub stage_with : List ItemTree → Options → ℕ → Stage Forest
stage_with is o k = after (program_from is) o.inputs o.steps o.until k

-- what may have been written of the run where it is written as it goes on
abbrev pub MeansSoFar : List ItemTree → Options → List ℕ → Type 0
MeansSoFar is o text = Streams (stage_with is o) (mean_with is o) o.heap text

-- in so many files
abbrev pub code_from : List ItemTree → (files : ℕ) → Code
code_from is files = code_of (program_from is) (differ_from is) files

-- and of that code, as bytes, its notes
abbrev pub notes_from : List ItemTree → (files : ℕ) → List ℕ
notes_from is files = bytes_of (code_from is files)
    (notes_of (program_from is) (sorted is) (differ_from is) (code_from is files))

-- with all options a code runs as items mean, and after each number of turns its machine stands in
-- the state in which they do
pub record Does (c : Code) (is : List ItemTree) : Type 0 where
  pub runs : (o : Options) → run_with c o ≡ mean_with is o
  pub states : (o : Options) (k : ℕ) →
      state_in (mach_after c o.inputs o.steps o.until k) ≡ state_in (stage_with is o k)
