-- What is done with an accepted program is the answer to its command.
use Rattle.std.proofs.Common.{◌≡◌, ℕ, List, [], ◌∷◌, ◌++◌, Bool, Option, Result, Ok, Err, IfOk, map, string_bytes, length, sym, ap, subst}
use Rattle.std.proofs.Common.{◌∙◌}
use Rattle.verse_tree.specs.ItemTree.{ItemTree}
use Rattle.verse_tree.specs.ItemView.{item_of}
use Rattle.verse_tree.specs.declared.programs.Program.{Program as Made}
use Rattle.verse_value.specs.Runs.{Run}
use Rattle.verse_base.specs.declared.refusals.Memory.{Memory}
use Rattle.verse_accept.specs.Fronts.{Accepts, IsRefused}
use Rattle.verse_top_texts.specs.Refusals.{refusal_line}
use Rattle.verse_top_texts.specs.declared.answers.Answer.{Answer}
use Rattle.verse_outside.specs.Held.{Holding}
use Rattle.verse_meaning_state.specs.State.{State}
use Rattle.verse_meaning_state.specs.Turns.{Stage}
use Rattle.verse_meaning_state.specs.Effects.{printed}
use Rattle.verse_meaning_state.specs.Texts.{ending_line, run_text}
use Rattle.verse_code.specs.declared.codes.Code.{Code}
use Rattle.verse_code_machine.specs.Runs.{mach_after}
use Rattle.verse_top_args.specs.Words.{Command, Options, build, check, files_of, note}
use Rattle.verse_top_args.specs.Requests.{AsksForRun, options_with}
use Rattle.verse_top_args.specs.declared.commands.Running.{Running}
use Rattle.verse_top_texts.specs.Endings.{ending_status}
use Rattle.verse_top_texts.specs.Streams.{Streams, lines, lines_so_far, nothing, state_in, turns}
use Rattle.verse_top_exec.specs.declared.stops.Stop.{Stop}
use Rattle.verse_top_load.specs.Load.{lines_line, load_text_of}
use Rattle.verse_top_exec.specs.Counts.{Counts}
use Rattle.verse_top_exec.specs.Executions.{IsNothing, Runs, RunsSoFar, run_with}
use Rattle.verse_top_exec.specs.Leaving.{Leaves}
use Rattle.verse_top_exec.proofs.Leaving.{leaves_as}
use Rattle.verse_top.specs.Loading.{AreLoaded}
use Rattle.verse_top.specs.Meaning.{Does, MeansSoFar, code_from, default_options, mean_with, stage_with}
use Rattle.verse_top.specs.Programs.{IsAccepted}
use Rattle.verse_top_texts.specs.Verdicts.{ok_line}
use Rattle.verse_top.specs.Answers.{Answers, AreNoted, Begins, IsAnswer, IsBuilt, Loads, Means, MeansInShort, built, checked, noted, ran}
use Rattle.verse_top.specs.Answers.{running}
use Rattle.verse_top.specs.Answers.{rejected, accepted as accepted_load}
use Rattle.verse_top.specs.Answers as a
use Rattle.verse_top.specs.Fronted.{Judged}
use Rattle.verse_top.specs.declared.fronts.Fronted.TheVariants as f
use Rattle.verse_top.proofs.LoadLaws.{as_many}

streams_as : {A B : Type 0} (x : ℕ → Stage A) (y : ℕ → Stage B) (r q : Run) (heap : Bool) (t : List ℕ) →
    ((k : ℕ) → state_in (x k) ≡ state_in (y k)) → r ≡ q → Streams x r heap t → Streams y q heap t
streams_as x y r q heap t same e nothing = nothing
streams_as x y r q heap t same e (turns k) =
    subst (Streams y q heap) (ap (λ (s : State). printed s.memory.trace) (sym (same k))) (turns k)
streams_as x y r q heap t same e (lines n) = subst (Streams y q heap) (ap (λ (u : Run). lines_so_far u heap n) (sym e)) (lines n)

-- the load is the one file of an accepted program, or of one that is refused
pub loads_accepted : (n : ℕ) (files : List (List ℕ)) (p : Made) (r : Result Answer Memory) → files ≡ load_text_of n ∷ [] →
    IsAccepted files p → IfOk r (λ a. MeansInShort (map item_of p.tree.items) default_options p.tree.files a.status a.text.items) →
    IfOk r (λ a. Loads n a.status a.text.items)
loads_accepted n files p (Err m) e taken h = tt
loads_accepted n files p (Ok a) e taken h =
    let is = map item_of p.tree.items in
    let one : p.tree.files ≡ 1 = taken.files_are ∙ ap length e in
    accepted_load is a.status a.text.items (subst (λ (fs : List (List ℕ)). Accepts fs is) e taken.accepts)
    (subst (λ (k : ℕ). MeansInShort is default_options k a.status a.text.items) one h)

pub loads_rejected : (n : ℕ) (names files : List (List ℕ)) (x : Answer) → names ≡ [] → files ≡ load_text_of n ∷ [] →
    Judged names files (f.Refused x) → Loads n x.status x.text.items
loads_rejected n names files x none e j =
    let line : x.text.items ≡ refusal_line [] j.1.0 = j.1.1.1 ∙ ap (λ (ns : List (List ℕ)). refusal_line ns j.1.0) none in
    rw (j.0, line) (rejected j.1.0 (subst (λ (fs : List (List ℕ)). IsRefused fs j.1.0) e j.1.1.0))

-- what is told in short of the run of the code is told of the run that the items mean
pub short_means : (is : List ItemTree) (files : ℕ) (c : Code) (o : Options) (s : ℕ) (t : List ℕ) → c ≡ code_from is files → Does c is →
    Counts c o s t → MeansInShort is o files s t
short_means is files c o s t e does p =
    let same : run_with c o ≡ mean_with is o = does.runs o in
    let count : c.files ≡ files = ap (λ (k : Code). k.files) e in
    record {
      status_is = p.status_is ∙ ap (λ (u : Run). ending_status u.ending) same;
      text_is = p.text_is ∙ ap (λ (u : Run). ending_line c.files u ++ lines_line (length u.trace)) same ∙
          ap (λ (n : ℕ). ending_line n (mean_with is o) ++ lines_line (length (mean_with is o).trace)) count;
    }

module _ (before now : ℕ) (old new : Option (List ℕ)) (r : Result ℕ Stop) where
  -- the run of the code is the run that the items mean
  pub leaves_means : (is : List ItemTree) (files : ℕ) (c : Code) (o : Options) → c ≡ code_from is files → Does c is →
      Leaves (Runs c o) (RunsSoFar c o) before now old new r → Leaves (Means is o files) (MeansSoFar is o) before now old new r
  leaves_means is files c o e does l =
      let same : run_with c o ≡ mean_with is o = does.runs o in
      let count : c.files ≡ files = ap (λ (k : Code). k.files) e in
      leaves_as (Runs c o) (Means is o files) (RunsSoFar c o) (MeansSoFar is o) before now old new r
      (λ s t p. record {
        status_is = p.status_is ∙ ap (λ (u : Run). ending_status u.ending) same;
        text_is = p.text_is ∙ ap (λ (u : Run). run_text u o.heap c.files) same ∙ ap (run_text (mean_with is o) o.heap) count;
      })
      (λ t p. streams_as (mach_after c o.inputs o.steps o.until) (stage_with is o) (run_with c o) (mean_with is o) o.heap t (does.states o)
      same p) l

  module _ (held : Holding) (files : List (List ℕ)) (p : Made) (accepted : IsAccepted files p) where
    -- as many names as files
    named : (names : List (List ℕ)) → AreLoaded held names files → p.tree.files ≡ length names
    named names loaded = accepted.files_are ∙ sym (as_many held names files loaded)

    pub leaves_ran : (asked : Running) (c : Command) (a : AsksForRun asked c) → AreLoaded held (files_of c) files →
        Leaves (Means (map item_of p.tree.items) (options_with asked a.ints) p.tree.files)
        (MeansSoFar (map item_of p.tree.items) (options_with asked a.ints)) before now old new r →
        Leaves (Answers held c) (Begins held c) before now old new r
    leaves_ran asked c a loaded l =
        let o = options_with asked a.ints in
        let is = map item_of p.tree.items in
        let names = map string_bytes asked.files.now in
        let there : AreLoaded held names files = subst (λ (d : Command). AreLoaded held (files_of d) files) a.is loaded in
        leaves_as (Means is o p.tree.files) (Answers held c) (MeansSoFar is o) (Begins held c) before now old new r
        (λ s t m. subst (λ (d : Command). Answers held d s t) (sym a.is) (rw (m.status_is, m.text_is, named names there)
        (ran names o files is there accepted.accepts)))
        (λ t m. subst (λ (d : Command). Begins held d t) (sym a.is) (running names o files is t there accepted.accepts m)) l

    pub leaves_built : (c : Command) (names : List (List ℕ)) → c ≡ build names → AreLoaded held (files_of c) files →
        Leaves (IsBuilt (map item_of p.tree.items) p.tree.files) IsNothing before now old new r →
        Leaves (Answers held c) (Begins held c) before now old new r
    leaves_built c names e loaded l =
        let is = map item_of p.tree.items in
        let there : AreLoaded held names files = subst (λ (d : Command). AreLoaded held (files_of d) files) e loaded in
        leaves_as (IsBuilt is p.tree.files) (Answers held c) IsNothing (Begins held c) before now old new r
        (λ s t m. subst (λ (d : Command). Answers held d s t) (sym e) (subst (λ (k : ℕ). Answers held (build names) k t) (sym m.0)
        (built names files is t there accepted.accepts (subst (λ (k : ℕ). a.IsImageOf is k t) (named names there) m.1))))
        (λ t m. subst (Begins held c) (sym m) (a.nothing c)) l

    pub leaves_noted : (c : Command) (names : List (List ℕ)) → c ≡ note names → AreLoaded held (files_of c) files →
        Leaves (AreNoted (map item_of p.tree.items) p.tree.files) IsNothing before now old new r →
        Leaves (Answers held c) (Begins held c) before now old new r
    leaves_noted c names e loaded l =
        let is = map item_of p.tree.items in
        let there : AreLoaded held names files = subst (λ (d : Command). AreLoaded held (files_of d) files) e loaded in
        leaves_as (AreNoted is p.tree.files) (Answers held c) IsNothing (Begins held c) before now old new r
        (λ s t m. subst (λ (d : Command). Answers held d s t) (sym e) (rw (m.0, m.1, named names there)
        (noted names files is there accepted.accepts)))
        (λ t m. subst (Begins held c) (sym m) (a.nothing c)) l

    pub leaves_checked : (c : Command) (names : List (List ℕ)) (status : ℕ) (text : List ℕ) → c ≡ check names →
        AreLoaded held (files_of c) files → status ≡ 0 → text ≡ ok_line → Leaves (IsAnswer status text) IsNothing before now old new r →
        Leaves (Answers held c) (Begins held c) before now old new r
    leaves_checked c names status text e loaded z f l =
        let is = map item_of p.tree.items in
        let there : AreLoaded held names files = subst (λ (d : Command). AreLoaded held (files_of d) files) e loaded in
        leaves_as (IsAnswer status text) (Answers held c) IsNothing (Begins held c) before now old new r
        (λ s t m. subst (λ (d : Command). Answers held d s t) (sym e) (rw (m.0, m.1, z, f)
        (checked names files is there accepted.accepts)))
        (λ t m. subst (Begins held c) (sym m) (a.nothing c)) l
