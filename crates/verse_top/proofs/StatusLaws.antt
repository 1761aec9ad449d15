-- No run of an accepted program ends stuck, so no command that runs one has the status of that.
use Rattle.std.proofs.Common.{◌≡◌, ◌≢◌, ℕ, zero, suc, Bool, false, List, [], ◌∷◌, Some, Option, slice_get, ◌⊎◌, inl, inr, refl, sym, subst}
use Rattle.std.proofs.Common.{◌∙◌}
use Rattle.verse_tree.specs.ItemTree.{ItemTree}
use Rattle.verse_rules_types.specs.Types.{Ty}
use Rattle.verse_rules_types.specs.Types as ty
use Rattle.verse_check_typing.specs.Facts.{type_at}
use Rattle.verse_rules.specs.Sound.{types_of}
use Rattle.verse_outside.specs.Held.{Holding}
use Rattle.verse_value.specs.declared.runs.Ending.{Ending}
use Rattle.verse_value.specs.declared.runs.Ending.TheVariants as ending
use Rattle.verse_accept.specs.Fronts.{Accepts}
use Rattle.verse_accept_fine.specs.Sorted as sorted
use Rattle.verse_accept_trees.specs.Laws.{Told}
use Rattle.verse_accept_sound.specs.Laws.{ItemsAreNeverStuck}
use Rattle.verse_top_args.specs.Words.{Command, run, load, Options, Says}
use Rattle.verse_top_args.proofs.CommandLemmas.{say_once}
use Rattle.verse_top_texts.specs.Endings.{ending_status}
use Rattle.verse_top_load.specs.Load.{load_text_of}
use Rattle.verse_top.specs.Meaning.{default_options, is_array, is_event, mean_with, of_node, program_from}
use Rattle.verse_top.specs.Answers.{Answers, too_large, refused, ran, loaded, Loads, accepted, rejected}
use Rattle.verse_top.specs.Ends.{Ends, Tells, answer, cut_short, no_command, no_memory, not_read, whole}
use Rattle.verse_top.specs.Statuses as is
use Rattle.verse_top.specs.Statuses.{EndStatus, RunStatus, RunsProgram, by_run, by_load}

-- ---- what tells of arrays and events

same_array : (u : Ty) → is_array u ≡ sorted.is_array_type u
same_array (ty.array u) = refl
same_array u = refl

same_event : (u : Ty) → is_event u ≡ sorted.is_event_type u
same_event (ty.event u) = refl
same_event u = refl

node_is : (f g : Ty → Bool) → ((u : Ty) → f u ≡ g u) → g ty.never ≡ false → (us : List Ty) (n : ℕ) →
    of_node f (slice_get us n) ≡ g (type_at us n)
node_is f g same none [] n = sym none
node_is f g same none (u ∷ us) zero = same u
node_is f g same none (u ∷ us) (suc n) = node_is f g same none us n

told : (items : List ItemTree) →
    Told items (λ n. of_node is_array (slice_get (types_of items) n)) (λ n. of_node is_event (slice_get
    (types_of items) n))
told items = record {
  of_arrays = node_is is_array sorted.is_array_type same_array refl (types_of items);
  of_events = node_is is_event sorted.is_event_type same_event refl (types_of items);
}

-- ---- statuses

status_is : (e : Ending) → e ≢ ending.Stuck → EndStatus (ending_status e)
status_is ending.Done h = is.done
status_is ending.Waiting h = is.unfinished
status_is ending.Until h = is.unfinished
status_is ending.Steps h = is.unfinished
status_is (ending.Error k p) h = is.by_error
status_is ending.Stuck h = absurd (h refl)

pub mean_ends : ItemsAreNeverStuck → (files : List (List ℕ)) (items : List ItemTree) → Accepts files items → (o : Options) →
    EndStatus (ending_status (mean_with items o).ending)
mean_ends free files items a o =
    status_is (mean_with items o).ending
    (free files items a (program_from items).is_array (program_from items).is_event
    (told items) o.inputs o.steps o.until)

loads_end : ItemsAreNeverStuck → (n status : ℕ) (text : List ℕ) → Loads n status text → RunStatus status
loads_end free n s x (accepted items u z p m) =
    is.ended (subst EndStatus (sym m.status_is) (mean_ends free (load_text_of n ∷ []) items p default_options))
loads_end free n s x (rejected r q) = is.refused

pub run_ends : ItemsAreNeverStuck → (held : Holding) (names : List (List ℕ)) (o : Options) (status : ℕ) (text : List ℕ) →
    Answers held (run names o) status text → RunStatus status
run_ends free held names o s x (too_large c n g p) = is.refused
run_ends free held names o s x (refused c files r g l p) = is.refused
run_ends free held names o s x (ran ns u files items l p) = is.ended (mean_ends free files items p o)

pub load_ends : ItemsAreNeverStuck → (held : Holding) (n status : ℕ) (text : List ℕ) → Answers held (load n) status text →
    RunStatus status
load_ends free held n s x (too_large c m g p) = absurd g
load_ends free held n s x (refused c files r g l p) = absurd g
load_ends free held n s x (loaded m u z p) = loads_end free n s x p

pub program_ends : ItemsAreNeverStuck → (held : Holding) (status : ℕ) (text : List ℕ) {c : Command} → RunsProgram c →
    Answers held c status text → RunStatus status
program_ends free held s x (by_run names o) a = run_ends free held names o s x a
program_ends free held s x (by_load n) a = load_ends free held n s x a

pub words_end : ItemsAreNeverStuck → (words : List (List ℕ)) (held : Holding) (c d : Command) (status : ℕ) (text : List ℕ) →
    RunsProgram c → Says words c → Says words d → Answers held d status text → RunStatus status
words_end free words held c d s text runs says other a =
    program_ends free held s text runs (subst (λ e. Answers held e s text) (say_once words d c other says) a)

-- ---- 8 is none of them

status_known : (s : ℕ) → RunStatus s → s ≡ 8 → ⊥
status_known s is.refused e = cc
status_known s (is.ended is.done) e = cc
status_known s (is.ended is.unfinished) e = cc
status_known s (is.ended is.by_error) e = cc

module _ (free : ItemsAreNeverStuck) (words : List (List ℕ)) (held : Holding) (files_before files_now : ℕ)
    (c : Command) (runs : RunsProgram c) (says : Says words c) where
  none_tells : (n : ℕ) (text : List ℕ) → Tells words held files_before files_now n text → n ≢ 8
  none_tells n text (answer d s t other a) e = status_known n (words_end free words held c d n text runs says other a) e
  none_tells n text (no_command none) e = absurd (none c says)
  none_tells n text (no_memory d t other b) e = cc
  none_tells n text (not_read d name other u) e = cc

-- whatever the way to end
pub never_stuck : ItemsAreNeverStuck → (words : List (List ℕ)) (held : Holding) (files_before files_now before now : ℕ)
    (old new : Option (List ℕ)) (status : ℕ) → Ends words held files_before files_now before now old new status →
    (c : Command) → RunsProgram c → Says words c → status ≢ 8
never_stuck free words held files_before files_now before now old new status (whole s t x w) c runs says e =
    none_tells free words held files_before files_now c runs says s t x e
never_stuck free words held files_before files_now before now old new status (cut_short s t x rose p) c runs says e = cc

-- words that are no command, or a sink that failed
pub no_status : {A B : Type 0} (n : ℕ) → ((n ≡ 2) × A) ⊎ ((n ≡ 7) × B) → n ≢ 8
no_status n (inl (e, x)) f = cc
no_status n (inr (e, x)) f = cc
