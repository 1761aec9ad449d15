-- What `exec` of what was built ends with.
use Rattle.std.proofs.Common.{◌≡◌, ℕ, List, length, Some, sym, subst}
use Rattle.verse_meaning_state.specs.Texts.{run_text}
use Rattle.verse_accept_sound.specs.Laws.{ItemsAreNeverStuck}
use Rattle.verse_top_args.specs.Words.{exec}
use Rattle.verse_top_texts.specs.Endings.{ending_status}
use Rattle.verse_top.specs.Meaning.{mean_with}
use Rattle.verse_top.specs.Answers.{Answers, ran, built, AnsweredOnce, ExecRunsWhatIsBuilt}
use Rattle.verse_top.specs.Statuses.{EndStatus}
use Rattle.verse_top.proofs.StatusLaws as laws
use Rattle.verse_top.proofs.StatusLaws.{mean_ends}
use Rattle.verse_top_laws.specs.Statuses.{RunIsNeverStuck, LoadIsNeverStuck, BuiltIsNeverStuck}

pub run_ends : ItemsAreNeverStuck → RunIsNeverStuck
run_ends = laws.run_ends

pub load_ends : ItemsAreNeverStuck → LoadIsNeverStuck
load_ends = laws.load_ends

pub built_ends : ItemsAreNeverStuck → AnsweredOnce → ExecRunsWhatIsBuilt → BuiltIsNeverStuck
built_ends free once runs held other names name image o s x (built ns files items bytes l p i) read e =
    let status = ending_status (mean_with items o).ending in
    let text = run_text (mean_with items o) o.heap (length names) in
    let here : Answers (Some other) (exec name o) status text =
    runs held (Some other) names name image o status text (built ns files items bytes l p i) read
    (ran ns o files items l p) in
    subst EndStatus (sym (once other (exec name o) s status x text e here).0) (mean_ends free files items p o)
