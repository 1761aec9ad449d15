-- What follows of how the top call ends.
use Rattle.std.proofs.Common.{◌≡◌, ◌≢◌, ℕ, List, Bool, Option, ◌⊎◌, inl, inr, refl, sym, subst}
use Rattle.verse_outside.specs.Causes.{Rose}
use Rattle.verse_outside.specs.Held.{Holding, with_more}
use Rattle.verse_value.specs.declared.runs.Ending.{Ending}
use Rattle.verse_value.specs.declared.runs.Ending.TheVariants as ending
use Rattle.verse_top_texts.specs.Endings.{ending_status}
use Rattle.verse_top_args.specs.Words.{Command, Options, files_of, Says}
use Rattle.verse_top_args.proofs.CommandLemmas.{say_once}
use Rattle.verse_top_exec.specs.Executions.{Executes, run_with}
use Rattle.verse_top_exec.specs.Executions as x
use Rattle.verse_top_exec.specs.Courses.{run_on}
use Rattle.verse_top_listing.specs.Listings.{Assembles, Lists}
use Rattle.verse_top_listing.specs.Listings as y
use Rattle.verse_top_verify.specs.Verifying.{Verifies}
use Rattle.verse_top_verify.specs.Verifying as z
use Rattle.verse_top_save.specs.Saving.{Saves}
use Rattle.verse_top_save.specs.Saving as saving
use Rattle.verse_top_resume.specs.Resuming.{Resumes, course_from}
use Rattle.verse_top_resume.specs.Resuming as resuming
use Rattle.verse_top.specs.Loading.{AreHeld, IsMissing}
use Rattle.verse_top.specs.Meaning.{default_options, mean_with}
use Rattle.verse_top.specs.Answers.{Answers, too_large, refused, checked, ran, built, noted, executed, saved, resumed, listed, assembled}
use Rattle.verse_top.specs.Answers.{verified}
use Rattle.verse_top.specs.Answers.{loaded, Loads, accepted, rejected}
use Rattle.verse_top.specs.Ends.{Answered, EachEndsSo, Ends, EndsSo, Tells, Unread, answer, cut_short, no_command, no_memory, not_read}
use Rattle.verse_top.specs.Ends.{whole}
use Rattle.verse_top.proofs.LoadLaws.{absent_or_loaded, absent_or_large, absent_or_read, absent_of_program, held_or_missing, unheld_or_read}

-- the statuses of answers
data Known : ℕ → Type 0 where
  zero_known : Known 0
  one_known : Known 1
  three_known : Known 3
  four_known : Known 4
  eight_known : Known 8

known_ending : (e : Ending) → Known (ending_status e)
known_ending ending.Done = zero_known
known_ending ending.Waiting = three_known
known_ending ending.Until = three_known
known_ending ending.Steps = three_known
known_ending (ending.Error k p) = four_known
known_ending ending.Stuck = eight_known

known_executes : {bytes : List ℕ} {o : Options} {s : ℕ} {t : List ℕ} → Executes bytes o s t → Known s
known_executes {o = o} (x.ran v c s t i p) = subst Known (sym p.status_is) (known_ending (run_with c o).ending)
known_executes (x.no_image rule left e) = one_known

known_saves : {bytes : List ℕ} {o : Options} {s : ℕ} {t : List ℕ} → Saves bytes o s t → Known s
known_saves (saving.ran n c s t i (saving.stopped _ _ p)) = subst Known (sym p.status_is) three_known
known_saves {o = o} (saving.ran n c s t i (saving.ended _ _ other p)) = subst Known (sym p.status_is) (known_ending (run_with c o).ending)
known_saves (saving.no_image rule left e) = one_known

known_resumes : {bytes : List ℕ} {until : ℕ} {heap : Bool} {s : ℕ} {t : List ℕ} → Resumes bytes until heap s t → Known s
known_resumes {until = until} {heap = heap} (resuming.went_on c y s t e p) =
    subst Known (sym p.status_is) (known_ending (run_on c (course_from c y until heap)).ending)
known_resumes (resuming.no_state rule left e) = one_known

known_lists : {bytes : List ℕ} {s : ℕ} {t : List ℕ} → Lists bytes s t → Known s
known_lists (y.listed v c text i l) = zero_known
known_lists (y.no_image rule left e) = one_known

known_assembles : {bytes : List ℕ} {s : ℕ} {t : List ℕ} → Assembles bytes s t → Known s
known_assembles (y.assembled c image l i) = zero_known
known_assembles (y.no_listing rule at e) = one_known

known_verifies : {bytes notes : List ℕ} {s : ℕ} {t : List ℕ} → Verifies bytes notes s t → Known s
known_verifies (z.passed v c i e) = zero_known
known_verifies (z.broken v c rule at i e) = one_known
known_verifies (z.no_image rule left e) = one_known

known_loads : {n s : ℕ} {t : List ℕ} → Loads n s t → Known s
known_loads (accepted is s t p m) = subst Known (sym m.status_is) (known_ending (mean_with is default_options).ending)
known_loads (rejected r p) = one_known

known : {held : Holding} {c : Command} {s : ℕ} {t : List ℕ} → Answers held c s t → Known s
known (too_large c file g p) = one_known
known (refused c files r g l p) = one_known
known (checked names files is l p) = zero_known
known (ran names o files is l p) = known_ending (mean_with is o).ending
known (built names files is bytes l p i) = zero_known
known (noted names files is l p) = zero_known
known (executed name o bytes s t l p) = known_executes p
known (saved name o bytes s t l p) = known_saves p
known (resumed name until heap bytes s t l p) = known_resumes p
known (listed name bytes s t l p) = known_lists p
known (assembled name bytes s t l p) = known_assembles p
known (verified image notes bytes more s t l m p) = known_verifies p
known (loaded n s t p) = known_loads p

known_other : (s n : ℕ) → Known s → s ≡ n → n ≢ 2 × (n ≢ 5 × (n ≢ 6 × n ≢ 7))
known_other s n zero_known e = (λ f. cc, (λ f. cc, (λ f. cc, λ f. cc)))
known_other s n one_known e = (λ f. cc, (λ f. cc, (λ f. cc, λ f. cc)))
known_other s n three_known e = (λ f. cc, (λ f. cc, (λ f. cc, λ f. cc)))
known_other s n four_known e = (λ f. cc, (λ f. cc, (λ f. cc, λ f. cc)))
known_other s n eight_known e = (λ f. cc, (λ f. cc, (λ f. cc, λ f. cc)))

-- where files are absent there is no answer
answers_or_missing : {held : Holding} {c : Command} {s : ℕ} {t : List ℕ} → Answers held c s t → (name : List ℕ) →
    IsMissing held c name → ⊥
answers_or_missing {held = held} (too_large c file g p) name a =
    absent_or_large held (files_of c) 0 file name p (absent_of_program held c name g a)
answers_or_missing {held = held} (refused c files r g l p) name a =
    absent_or_loaded held (files_of c) files name l (absent_of_program held c name g a)
answers_or_missing {held = held} (checked names files is l p) name a = absent_or_loaded held names files name l a
answers_or_missing {held = held} (ran names o files is l p) name a = absent_or_loaded held names files name l a
answers_or_missing {held = held} (built names files is bytes l p i) name a = absent_or_loaded held names files name l a
answers_or_missing {held = held} (noted names files is l p) name a = absent_or_loaded held names files name l a
answers_or_missing {held = held} (executed file o bytes s t l p) name a = absent_or_read held file bytes name l a
answers_or_missing {held = held} (saved file o bytes s t l p) name a = absent_or_read held file bytes name l a
answers_or_missing {held = held} (resumed file until heap bytes s t l p) name a = absent_or_read held file bytes name l a
answers_or_missing {held = held} (listed file bytes s t l p) name a = absent_or_read held file bytes name l a
answers_or_missing {held = held} (assembled file bytes s t l p) name a = absent_or_read held file bytes name l a
answers_or_missing {held = held} (verified image notes bytes more s t l m p) name a = unheld_or_read held image notes bytes more name l m a
answers_or_missing {held = held} (loaded n s t p) name a = absurd a

-- ---- each way to end

module _ (words : List (List ℕ)) (held : Holding) (files_before files_now before now : ℕ) (old new : Option (List ℕ)) where
  tells_answer : (n : ℕ) (text : List ℕ) → Tells words held files_before files_now n text → n ≢ 2 → n ≢ 5 → n ≢ 6 →
      (c : Command) × (Says words c × Answers held c n text)
  tells_answer n text (answer c s t says a) two five six = (c, (says, a))
  tells_answer n text (no_command none) two five six = absurd (two refl)
  tells_answer n text (no_memory c t says b) two five six = absurd (five refl)
  tells_answer n text (not_read c name says u) two five six = absurd (six refl)

  answered : {status : ℕ} → Ends words held files_before files_now before now old new status →
      status ≢ 2 → status ≢ 5 → status ≢ 6 → status ≢ 7 → Answered words held files_before files_now before now old new status
  answered (whole s t told w) two five six seven =
      let a = tells_answer s t told two five six in
      record { command = a.0; text = t; says = a.1.0; answers = a.1.1; written = w }
  answered (cut_short s t told rose p) two five six seven = absurd (seven refl)

  tells_wrong : (n : ℕ) (text : List ℕ) → Tells words held files_before files_now n text → n ≡ 2 → (c : Command) → Says words c → ⊥
  tells_wrong n text (answer d s t says a) two c said = (known_other n n (known a) refl).0 two
  tells_wrong n text (no_command none) two c said = none c said
  tells_wrong n text (no_memory d t says b) two c said = cc
  tells_wrong n text (not_read d name says u) two c said = cc

  wrong_words : {status : ℕ} → Ends words held files_before files_now before now old new status → status ≡ 2 →
      (c : Command) → Says words c → ⊥
  wrong_words (whole s t told w) two c said = tells_wrong s t told two c said
  wrong_words (cut_short s t told rose p) two c said = cc

  tells_none : (n : ℕ) (text : List ℕ) → Tells words held files_before files_now n text → ((c : Command) → Says words c → ⊥) → n ≡ 2
  tells_none n text (answer d s t says a) none = absurd (none d says)
  tells_none n text (no_command other) none = refl
  tells_none n text (no_memory d t says b) none = absurd (none d says)
  tells_none n text (not_read d name says u) none = absurd (none d says)

  none_said : {status : ℕ} → Ends words held files_before files_now before now old new status → ((c : Command) → Says words c → ⊥) →
      (status ≡ 2) ⊎ (status ≡ 7)
  none_said (whole s t told w) none = inl (tells_none s t told none)
  none_said (cut_short s t told rose p) none = inr refl

  tells_absent : (n : ℕ) (text : List ℕ) → Tells words held files_before files_now n text → (c : Command) (name : List ℕ) →
      Says words c → IsMissing held c name → (n ≡ 6) ⊎ (n ≡ 5) ⊎ (n ≡ 7)
  tells_absent n text (answer d s t says a) c name said gone =
      absurd (answers_or_missing a name (subst (λ (e : Command). IsMissing held e name) (say_once words c d said says) gone))
  tells_absent n text (no_command none) c name said gone = absurd (none c said)
  tells_absent n text (no_memory d t says b) c name said gone = inr (inl refl)
  tells_absent n text (not_read d other says u) c name said gone = inl refl

  absent : {status : ℕ} → Ends words held files_before files_now before now old new status → (c : Command) (name : List ℕ) →
      Says words c → IsMissing held c name → (status ≡ 6) ⊎ (status ≡ 5) ⊎ (status ≡ 7)
  absent (whole s t told w) c name said gone = tells_absent s t told c name said gone
  absent (cut_short s t told rose p) c name said gone = inr (inr refl)

  -- a file that was not read was absent, where there was no fault
  none_absent : (d : Command) (name : List ℕ) → Unread d held files_before files_now name → AreHeld held (files_of d) →
      (Rose files_before files_now → ⊥) → ⊥
  none_absent d name u there calm =
      elim u.cause [ inl rose ↦ calm rose | inr gone ↦ held_or_missing held d name there gone ]

  tells_complete : (n : ℕ) (text : List ℕ) → Tells words held files_before files_now n text → (c : Command) → Says words c →
      AreHeld held (files_of c) → (Rose files_before files_now → ⊥) → new ≡ with_more old text →
      (n ≡ 5) ⊎ Answered words held files_before files_now before now old new n
  tells_complete n text (answer d s t says a) c said there calm w =
      inr (record { command = d; text = text; says = says; answers = a; written = w })
  tells_complete n text (no_command none) c said there calm w = absurd (none c said)
  tells_complete n text (no_memory d t says b) c said there calm w = inl refl
  tells_complete n text (not_read d name says u) c said there calm w =
      absurd (none_absent d name u (subst (λ (e : Command). AreHeld held (files_of e)) (say_once words c d said says) there) calm)

  complete : {status : ℕ} → Ends words held files_before files_now before now old new status → (c : Command) → Says words c →
      AreHeld held (files_of c) → (Rose files_before files_now → ⊥) → (Rose before now → ⊥) →
      (status ≡ 5) ⊎ Answered words held files_before files_now before now old new status
  complete (whole s t told w) c said there calm sink_calm = tells_complete s t told c said there calm w
  complete (cut_short s t told rose p) c said there calm sink_calm = absurd (sink_calm rose)

pub ends_so : EachEndsSo
ends_so words held files_before files_now before now old new status e = record {
  answered = answered words held files_before files_now before now old new e;
  wrong_words = wrong_words words held files_before files_now before now old new e;
  no_command = none_said words held files_before files_now before now old new e;
  absent = absent words held files_before files_now before now old new e;
  complete = complete words held files_before files_now before now old new e;
}
