-- The words are one command.
use Rattle.std.proofs.Common.{◌≡◌, ◌≢◌, ◌↔◌, ℕ, ℤ, Option, Some, None, List, [], ◌∷◌, ◌++◌, codes, refl, sym, ap, ◌∙◌, subst, ◌≤◌, length}
use Rattle.std.proofs.Common.{unwrap_or, Bool, true, false, map, string_bytes, append-nil, arith, ◌<◌}
use Rattle.std.proofs.Common.{slice_index_or}
use Rattle.std.specs.Str.{bytes_eq}
use Rattle.std.proofs.lemmas.Slice.Eq.{bytes_eq-Decides}
use Rattle.verse_top_args.specs.Words.{AreFiles, Command, EachIsFile, Given, Gives, Inputs, IsFile, IsIntList, IsNumber, SayOnce, Says}
use Rattle.verse_top_args.specs.Words.{listed, no_options, not_given, options_of, run, exec, save, resume, check, build, note, list}
use Rattle.verse_top_args.specs.Words.{assemble}
use Rattle.verse_top_args.specs.Words.{verify, load, says_run, says_exec, says_save, says_resume, says_check, says_build, says_note}
use Rattle.verse_top_args.specs.Words.{says_list}
use Rattle.verse_top_args.specs.Words.{says_assemble, says_verify, says_load, Options}
use Rattle.verse_top_args.specs.Requests.{AsksForImage, AsksForLoad, AsksForOne, AsksForResume, AsksForRun, AsksForVerify}
use Rattle.verse_top_args.specs.Requests.{BeginsWithNoFile, Gave, IsWithin, NoOptions, options_with}
use Rattle.verse_top_args.specs.Settings.{Wrong}
use Rattle.verse_top_args.specs.declared.commands.Resuming.{Resuming}
use Rattle.verse_top_args.specs.declared.commands.Running.{Running}
use Rattle.verse_top_args.proofs.FileLemmas.{no_words, options_begin, parted_once}
use Rattle.std.proofs.lemmas.List.{length-map}
use Rattle.verse_top_args.proofs.NumberLemmas.{Lists, list_once, number_once}
use Rattle.verse_top_args.proofs.OptionLemmas.{AtMost, given_within, gives_once}

pub inputs_once : {word : Option (List ℕ)} {ns ms : List ℤ} → Inputs word ns → Inputs word ms → ns ≡ ms
inputs_once not_given not_given = refl
inputs_once (listed l few) (listed m less) = list_once l m

pub listed_of : {word : List ℕ} {ns : List ℤ} → Inputs (Some word) ns → IsIntList word ns × (length ns ≤ 1000)
listed_of (listed l few) = (l, few)

-- the words are a command's name, the names of files, and words that begin with none
pub record Parted (words : List (List ℕ)) (command : List ℕ) (files options : List (List ℕ)) : Type 0 where
  pub is : words ≡ command ∷ files ++ options
  pub each : EachIsFile files
  pub behind : BeginsWithNoFile options

-- files and options of a run
pub record Runs (files options : List (List ℕ)) (c : Command) : Type 0 where
  pub are : AreFiles files
  pub given : Given
  pub ints : List ℤ
  pub gives : Gives no_options options given
  pub lists : Inputs given.inputs ints
  pub runs : c ≡ run files (options_of given ints)

-- the file and the options of the run of an image, of which the command is made
pub record Executes (make : List ℕ → Options → Command) (files options : List (List ℕ)) (c : Command) : Type 0 where
  pub file : List ℕ
  pub one : files ≡ file ∷ []
  pub given : Given
  pub ints : List ℤ
  pub gives : Gives no_options options given
  pub lists : Inputs given.inputs ints
  pub executes : c ≡ make file (options_of given ints)

-- those of one that is saved
pub record Saves (files options : List (List ℕ)) (c : Command) : Type 0 where
  pub run : Executes save files options c
  pub no_heap : run.given.heap ≡ false

-- the file of a saved run, and the options with which it goes on
pub record Resumes (files options : List (List ℕ)) (c : Command) : Type 0 where
  pub file : List ℕ
  pub one : files ≡ file ∷ []
  pub given : Given
  pub gives : Gives no_options options given
  pub no_steps : given.steps ≡ None
  pub no_inputs : given.inputs ≡ None
  pub resumes : c ≡ resume file (unwrap_or given.until 1000000000000) given.heap

-- files alone, of which one command is made
pub record Alone (make : List (List ℕ) → Command) (files options : List (List ℕ)) (c : Command) : Type 0 where
  pub are : AreFiles files
  pub none : options ≡ []
  pub is : c ≡ make files

-- the one file of a command, with nothing behind it
pub record One (make : List ℕ → Command) (files options : List (List ℕ)) (c : Command) : Type 0 where
  pub file : List ℕ
  pub one : files ≡ file ∷ []
  pub none : options ≡ []
  pub is : c ≡ make file

-- the two files of a test by notes, with nothing behind them
pub record Two (files options : List (List ℕ)) (c : Command) : Type 0 where
  pub image : List ℕ
  pub notes : List ℕ
  pub two : files ≡ image ∷ notes ∷ []
  pub none : options ≡ []
  pub is : c ≡ verify image notes

-- the word with the number of functions of a load
pub record Loads (words : List (List ℕ)) (c : Command) : Type 0 where
  pub word : List ℕ
  pub n : ℕ
  pub one : words ≡ word ∷ []
  pub spelled : IsNumber 1000 word n
  pub from : 2 ≤ n
  pub is : c ≡ load n

abbrev pub either : Bool → Type 0 → Type 0 → Type 0
either true P Q = P
either false P Q = Q

-- what files and options are of a command, by the command's name; nothing is told of other words
abbrev pub Meant : List ℕ → (files options : List (List ℕ)) → Command → Type 0
Meant word files options c =
    either (bytes_eq word (codes "run")) (Runs files options c)
    (either (bytes_eq word (codes "exec")) (Executes exec files options c)
    (either (bytes_eq word (codes "save")) (Saves files options c)
    (either (bytes_eq word (codes "resume")) (Resumes files options c)
    (either (bytes_eq word (codes "check")) (Alone check files options c)
    (either (bytes_eq word (codes "build")) (Alone build files options c)
    (either (bytes_eq word (codes "note")) (Alone note files options c)
    (either (bytes_eq word (codes "list")) (One list files options c)
    (either (bytes_eq word (codes "assemble")) (One assemble files options c)
    (either (bytes_eq word (codes "verify")) (Two files options c) (Unit {0}))))))))))

one_file : {file : List ℕ} → IsFile file → AreFiles (file ∷ [])
one_file is = record { each = (is, tt); some = omega arith; few = omega arith }

two_files : {image notes : List ℕ} → IsFile image → IsFile notes → AreFiles (image ∷ notes ∷ [])
two_files is it = record { each = (is, (it, tt)); some = omega arith; few = omega arith }

alone_of : (make : List (List ℕ) → Command) (word : List ℕ) {words files options names : List (List ℕ)} → words ≡ word ∷ names →
    AreFiles names → Parted words word files options →
    Alone make files options (make names)
alone_of make word {files = files} {options = options} {names = names} spelled are p =
    let same = parted_once names files [] options are.each p.each tt p.behind (append-nil names ∙ cc (spelled, p.is)) in
    record { are = subst AreFiles same.files_are are; none = sym same.words_are; is = ap make same.files_are }

one_of : (make : List ℕ → Command) (word : List ℕ) {words files options : List (List ℕ)} {file : List ℕ} → words ≡ word ∷ file ∷ [] →
    IsFile file → Parted words word files options →
    One make files options (make file)
one_of make word {files = files} {options = options} {file = file} spelled is p =
    let same = parted_once (file ∷ []) files [] options (one_file is).each p.each tt p.behind (cc (spelled, p.is)) in
    record { file = file; one = sym same.files_are; none = sym same.words_are; is = refl }

two_of : (word : List ℕ) {words files options : List (List ℕ)} {image notes : List ℕ} → words ≡ word ∷ image ∷ notes ∷ [] →
    IsFile image → IsFile notes → Parted words word files options →
    Two files options (verify image notes)
two_of word {files = files} {options = options} {image = image} {notes = notes} spelled is it p =
    let same = parted_once (image ∷ notes ∷ []) files [] options (two_files is it).each p.each tt p.behind (cc (spelled, p.is)) in
    record { image = image; notes = notes; two = sym same.files_are; none = sym same.words_are; is = refl }

two_are : (word : List ℕ) {words files options : List (List ℕ)} {image notes : List ℕ} → words ≡ word ∷ image ∷ notes ∷ [] →
    IsFile image → IsFile notes → Parted words word files options → AreFiles files
two_are word {files = files} {options = options} {image = image} {notes = notes} spelled is it p =
    let same = parted_once (image ∷ notes ∷ []) files [] options (two_files is it).each p.each tt p.behind (cc (spelled, p.is)) in
    subst AreFiles same.files_are (two_files is it)

one_are : (make : List ℕ → Command) (word : List ℕ) {words files options : List (List ℕ)} {file : List ℕ} → words ≡ word ∷ file ∷ [] →
    IsFile file → Parted words word files options → AreFiles files
one_are make word {files = files} {options = options} {file = file} spelled is p =
    let same = parted_once (file ∷ []) files [] options (one_file is).each p.each tt p.behind (cc (spelled, p.is)) in
    subst AreFiles same.files_are (one_file is)

-- one file, and the options behind it
executes_of : (make : List ℕ → Options → Command) (word : List ℕ) {words files options behind : List (List ℕ)} {file : List ℕ}
    {given : Given} {ints : List ℤ} → words ≡ word ∷ file ∷ behind → IsFile file → Gives no_options behind given →
    Inputs given.inputs ints → Parted words word files options → Executes make files options (make file (options_of given ints))
executes_of make word {files = files} {options = options} {behind = behind} {file = file} {given = given} {ints = ints} spelled is gives
    lists p =
    let same = parted_once (file ∷ []) files behind options (one_file is).each p.each (options_begin gives) p.behind (cc (spelled, p.is)) in
    record {
      file = file;
      one = sym same.files_are;
      given = given;
      ints = ints;
      gives = subst (λ ws. Gives no_options ws given) same.words_are gives;
      lists = lists;
      executes = refl;
    }

saves_of : {word : List ℕ} {words files options behind : List (List ℕ)} {file : List ℕ} {given : Given} {ints : List ℤ} →
    words ≡ word ∷ file ∷ behind → IsFile file → Gives no_options behind given → given.heap ≡ false → Inputs given.inputs ints →
    Parted words word files options → Saves files options (save file (options_of given ints))
saves_of {files = files} {options = options} {behind = behind} {file = file} {given = given} {ints = ints} spelled is gives none lists p =
    let same = parted_once (file ∷ []) files behind options (one_file is).each p.each (options_begin gives) p.behind (cc (spelled, p.is)) in
    record {
      run = record {
        file = file;
        one = sym same.files_are;
        given = given;
        ints = ints;
        gives = subst (λ ws. Gives no_options ws given) same.words_are gives;
        lists = lists;
        executes = refl;
      };
      no_heap = none;
    }

one_before : (word : List ℕ) {words files options behind : List (List ℕ)} {file : List ℕ} {given : Given} → words ≡ word ∷ file ∷ behind →
    IsFile file → Gives no_options behind given → Parted words word files options → AreFiles files
one_before word {files = files} {options = options} {behind = behind} {file = file} spelled is gives p =
    let same = parted_once (file ∷ []) files behind options (one_file is).each p.each (options_begin gives) p.behind (cc (spelled, p.is)) in
    subst AreFiles same.files_are (one_file is)

as_named : (own word : List ℕ) (files options : List (List ℕ)) (c : Command) → own ≡ word → Meant own files options c →
    Meant word files options c
as_named own word files options c same m = subst (λ (w : List ℕ). Meant w files options c) same m

pub meant_of : {words files options : List (List ℕ)} {c : Command} (word : List ℕ) → Says words c → Parted words word files options →
    Meant word files options c
meant_of {files = files} {options = options} word (says_run {files = names} {words = behind} {g = given} {ns = ints} are gives lists) p =
    let named : codes "run" ≡ word = cc p.is in
    let same = parted_once names files behind options are.each p.each (options_begin gives) p.behind (cc p.is) in
    as_named (codes "run") word files options (run names (options_of given ints)) named (record {
      are = subst AreFiles same.files_are are;
      given = given;
      ints = ints;
      gives = subst (λ ws. Gives no_options ws given) same.words_are gives;
      lists = lists;
      runs = ap (λ fs. run fs (options_of given ints)) same.files_are;
    })
meant_of {files = files} {options = options} word (says_exec {file = file} {words = behind} {g = given} {ns = ints} is gives lists) p =
    let named : codes "exec" ≡ word = cc p.is in
    as_named (codes "exec") word files options (exec file (options_of given ints)) named (executes_of exec word (cc named) is gives lists p)
meant_of {files = files} {options = options} word (says_save {file = file} {words = behind} {g = given} {ns = ints} is gives none lists) p =
    let named : codes "save" ≡ word = cc p.is in
    as_named (codes "save") word files options (save file (options_of given ints)) named
    (saves_of (cc named) is gives none lists p)
meant_of {files = files} {options = options} word (says_resume {file = file} {words = behind} {g = given} is gives steps inputs) p =
    let named : codes "resume" ≡ word = cc p.is in
    let same = parted_once (file ∷ []) files behind options (one_file is).each p.each (options_begin gives) p.behind (cc p.is) in
    as_named (codes "resume") word files options (resume file (unwrap_or given.until 1000000000000) given.heap) named (record {
      file = file;
      one = sym same.files_are;
      given = given;
      gives = subst (λ ws. Gives no_options ws given) same.words_are gives;
      no_steps = steps;
      no_inputs = inputs;
      resumes = refl;
    })
meant_of {files = files} {options = options} word (says_check {files = names} are) p =
    let named : codes "check" ≡ word = cc p.is in
    as_named (codes "check") word files options (check names) named (alone_of check word (cc named) are p)
meant_of {files = files} {options = options} word (says_build {files = names} are) p =
    let named : codes "build" ≡ word = cc p.is in
    as_named (codes "build") word files options (build names) named (alone_of build word (cc named) are p)
meant_of {files = files} {options = options} word (says_note {files = names} are) p =
    let named : codes "note" ≡ word = cc p.is in
    as_named (codes "note") word files options (note names) named (alone_of note word (cc named) are p)
meant_of {files = files} {options = options} word (says_list {file = file} is) p =
    let named : codes "list" ≡ word = cc p.is in
    as_named (codes "list") word files options (list file) named (one_of list word (cc named) is p)
meant_of {files = files} {options = options} word (says_assemble {file = file} is) p =
    let named : codes "assemble" ≡ word = cc p.is in
    as_named (codes "assemble") word files options (assemble file) named (one_of assemble word (cc named) is p)
meant_of {files = files} {options = options} word (says_verify {image = image} {notes = notes} is it) p =
    let named : codes "verify" ≡ word = cc p.is in
    as_named (codes "verify") word files options (verify image notes) named (two_of word (cc named) is it p)
meant_of {files = files} {options = options} word (says_load {word = number} {n = n} spelled from) p =
    as_named (codes "load") word files options (load n) (cc p.is) tt

other_word : (a b : List ℕ) → bytes_eq a b ≡ false → a ≡ b → ⊥
other_word a b different e = let same = (bytes_eq-Decides a b).1 e in cc

pub load_of : {words rest : List (List ℕ)} {c : Command} → Says words c → words ≡ codes "load" ∷ rest → Loads rest c
load_of (says_run are gives lists) e = absurd (other_word (codes "run") (codes "load") refl (cc e))
load_of (says_exec is gives lists) e = absurd (other_word (codes "exec") (codes "load") refl (cc e))
load_of (says_save is gives none lists) e = absurd (other_word (codes "save") (codes "load") refl (cc e))
load_of (says_resume is gives steps inputs) e = absurd (other_word (codes "resume") (codes "load") refl (cc e))
load_of (says_check are) e = absurd (other_word (codes "check") (codes "load") refl (cc e))
load_of (says_build are) e = absurd (other_word (codes "build") (codes "load") refl (cc e))
load_of (says_note are) e = absurd (other_word (codes "note") (codes "load") refl (cc e))
load_of (says_list is) e = absurd (other_word (codes "list") (codes "load") refl (cc e))
load_of (says_assemble is) e = absurd (other_word (codes "assemble") (codes "load") refl (cc e))
load_of (says_verify is it) e = absurd (other_word (codes "verify") (codes "load") refl (cc e))
load_of (says_load {word = word} {n = n} spelled from) e =
    record { word = word; n = n; one = cc e; spelled = spelled; from = from; is = refl }

pub files_are : {words files options : List (List ℕ)} {c : Command} (word : List ℕ) → Says words c → Parted words word files options →
    word ≢ codes "load" → AreFiles files
files_are {files = files} {options = options} word (says_run {files = names} {words = behind} are gives lists) p other =
    subst AreFiles (parted_once names files behind options are.each p.each (options_begin gives) p.behind (cc p.is)).files_are are
files_are word (says_exec is gives lists) p other = one_before word (cc p.is) is gives p
files_are word (says_save is gives none lists) p other = one_before word (cc p.is) is gives p
files_are word (says_resume is gives steps inputs) p other = one_before word (cc p.is) is gives p
files_are word (says_check are) p other = (alone_of check word (cc p.is) are p).are
files_are word (says_build are) p other = (alone_of build word (cc p.is) are p).are
files_are word (says_note are) p other = (alone_of note word (cc p.is) are p).are
files_are word (says_list is) p other = one_are list word (cc p.is) is p
files_are word (says_assemble is) p other = one_are assemble word (cc p.is) is p
files_are word (says_verify is it) p other = two_are word (cc p.is) is it p
files_are word (says_load spelled from) p other = absurd (other (cc p.is))

same_runs : (files options : List (List ℕ)) (a b : Command) → Runs files options a → Runs files options b → a ≡ b
same_runs files options a b p q =
    let given : q.given ≡ p.given = gives_once q.gives p.gives in
    let ints : p.ints ≡ q.ints = inputs_once p.lists (subst (λ g. Inputs g.inputs q.ints) given q.lists) in
    cc (p.runs, q.runs)

same_executes : (make : List ℕ → Options → Command) (files options : List (List ℕ)) (a b : Command) → Executes make files options a →
    Executes make files options b → a ≡ b
same_executes make files options a b p q =
    let file : p.file ≡ q.file = cc (p.one, q.one) in
    let given : q.given ≡ p.given = gives_once q.gives p.gives in
    let ints : p.ints ≡ q.ints = inputs_once p.lists (subst (λ g. Inputs g.inputs q.ints) given q.lists) in
    cc (p.executes, q.executes)

parted_alone : (word : List ℕ) (files : List (List ℕ)) → AreFiles files → Parted (word ∷ files) word files []
parted_alone word files are = record { is = ap (λ fs. word ∷ fs) (sym (append-nil files)); each = are.each; behind = tt }

pub say_once : SayOnce
say_once words a b (says_run {files = files} {words = options} {g = given} {ns = ints} are gives lists) t =
    let own : Runs files options (run files (options_of given ints)) =
    record { are = are; given = given; ints = ints; gives = gives; lists = lists; runs = refl } in
    same_runs files options (run files (options_of given ints)) b own
    (meant_of (codes "run") t (record { is = refl; each = are.each; behind = options_begin gives }))
say_once words a b (says_exec {file = file} {words = options} {g = given} {ns = ints} is gives lists) t =
    let own : Executes exec (file ∷ []) options (exec file (options_of given ints)) =
    record { file = file; one = refl; given = given; ints = ints; gives = gives; lists = lists; executes = refl } in
    same_executes exec (file ∷ []) options (exec file (options_of given ints)) b own
    (meant_of (codes "exec") t (record { is = refl; each = (one_file is).each; behind = options_begin gives }))
say_once words a b (says_save {file = file} {words = options} {g = given} {ns = ints} is gives none lists) t =
    let own : Executes save (file ∷ []) options (save file (options_of given ints)) =
    record { file = file; one = refl; given = given; ints = ints; gives = gives; lists = lists; executes = refl } in
    let other : Saves (file ∷ []) options b =
    meant_of (codes "save") t (record { is = refl; each = (one_file is).each; behind = options_begin gives }) in
    same_executes save (file ∷ []) options (save file (options_of given ints)) b own other.run
say_once words a b (says_resume {file = file} {words = options} {g = given} is gives steps inputs) t =
    let other : Resumes (file ∷ []) options b =
    meant_of (codes "resume") t (record { is = refl; each = (one_file is).each; behind = options_begin gives }) in
    let same : file ≡ other.file = cc other.one in
    let given_so : other.given ≡ given = gives_once other.gives gives in
    cc (other.resumes, same, given_so)
say_once words a b (says_check {files = files} are) t =
    let other : Alone check files [] b = meant_of (codes "check") t (parted_alone (codes "check") files are) in sym other.is
say_once words a b (says_build {files = files} are) t =
    let other : Alone build files [] b = meant_of (codes "build") t (parted_alone (codes "build") files are) in sym other.is
say_once words a b (says_note {files = files} are) t =
    let other : Alone note files [] b = meant_of (codes "note") t (parted_alone (codes "note") files are) in sym other.is
say_once words a b (says_list {file = file} is) t =
    let other : One list (file ∷ []) [] b = meant_of (codes "list") t (parted_alone (codes "list") (file ∷ []) (one_file is)) in
    cc (other.one, other.is)
say_once words a b (says_assemble {file = file} is) t =
    let other : One assemble (file ∷ []) [] b = meant_of (codes "assemble") t (parted_alone (codes "assemble") (file ∷ []) (one_file is)) in
    cc (other.one, other.is)
say_once words a b (says_verify {image = image} {notes = notes} is it) t =
    let other : Two (image ∷ notes ∷ []) [] b =
    meant_of (codes "verify") t (parted_alone (codes "verify") (image ∷ notes ∷ []) (two_files is it)) in
    cc (other.two, other.is)
say_once words a b (says_load {word = word} {n = n} spelled from) t =
    let other = load_of t refl in
    let same : word ≡ other.word = cc other.one in
    let number : n ≡ other.n = number_once 1000 word n other.n (omega arith) spelled
    (subst (λ (w : List ℕ). IsNumber 1000 w other.n) (sym same) other.spelled) in
    cc (number, other.is)

pub inputs_listed : (given : Option (List ℕ)) (word : List ℕ) → given ≡ Some word → Lists 1000 word ↔ ((ns : List ℤ) × Inputs given ns)
inputs_listed None word e = absurd (cc)
inputs_listed (Some other) word e = (
  λ (f : Lists 1000 word). (let same : word ≡ other = cc in (f.0, listed (subst (λ w. IsIntList w f.0) same f.1) f.2)),
  λ (f : (ns : List ℤ) × Inputs (Some other) ns). (let same : other ≡ word = cc in let g = listed_of f.1 in
      (f.0, subst (λ w. IsIntList w f.0) same g.0, g.1)),
)

pub inputs_absent : (given : Option (List ℕ)) → given ≡ None → (ns : List ℤ) × Inputs given ns
inputs_absent None e = ([], not_given)
inputs_absent (Some word) e = absurd (cc)

pub inputs_are : (given : Option (List ℕ)) (word : List ℕ) → given ≡ Some word → (ns : List ℤ) × Inputs given ns → (ms : List ℤ) →
    IsIntList word ms → Inputs given ms
inputs_are given word e fits ms l =
    let known = (inputs_listed given word e).1 fits in
    let same : known.0 ≡ ms = list_once known.1 l in
    subst (λ g. Inputs g ms) (sym e) (listed l (subst (λ ks. length ks ≤ 1000) same known.2))

-- the words of a command with these files, and options behind them
abbrev pub words_with : List ℕ → List (List ℕ) → List (List ℕ) → List (List ℕ)
words_with word files options = word ∷ files ++ options

or_within : (most n : ℕ) (given : Option ℕ) → n ≤ most → AtMost most given → unwrap_or given n ≤ most
or_within most n None low a = low
or_within most n (Some m) low a = a

kept_within : (words : List (List ℕ)) (r : Running) → Gave words r → IsWithin r
kept_within words r g =
    let within = given_within g.gives tt tt in
    record {
      steps = subst (λ (n : ℕ). n ≤ 100000000) (sym g.steps) (or_within 100000000 10000000 g.given.steps (omega arith) within.0);
      until = subst (λ (n : ℕ). n ≤ 1000000000000) (sym g.until)
          (or_within 1000000000000 1000000000000 g.given.until (omega arith) within.1);
    }

-- the options that are kept are those that the words give
given_with : (words : List (List ℕ)) (r : Running) (g : Gave words r) → options_of g.given g.ints ≡ options_with r g.ints
given_with words r g = cc (g.steps, g.until, g.heap)

module _ (files options : List (List ℕ)) (are : AreFiles files) (behind : BeginsWithNoFile options) where
  parted_behind : (command : List ℕ) → Parted (words_with command files options) command files options
  parted_behind command = record { is = refl; each = are.each; behind = behind }

  -- no command, where the words give no options
  pub no_run : NoOptions options → (c : Command) → ¬ (Says (words_with (codes "run") files options) c)
  no_run none c s = let p : Runs files options c = meant_of (codes "run") s (parted_behind (codes "run")) in
      none p.given p.ints p.gives p.lists

  executed : (c : Command) → Says (words_with (codes "exec") files options) c → Executes exec files options c
  executed c s = meant_of (codes "exec") s (parted_behind (codes "exec"))

  saved : (c : Command) → Says (words_with (codes "save") files options) c → Saves files options c
  saved c s = meant_of (codes "save") s (parted_behind (codes "save"))

  resumed : (c : Command) → Says (words_with (codes "resume") files options) c → Resumes files options c
  resumed c s = meant_of (codes "resume") s (parted_behind (codes "resume"))

  pub no_exec : NoOptions options → (c : Command) → ¬ (Says (words_with (codes "exec") files options) c)
  no_exec none c s = let p = executed c s in none p.given p.ints p.gives p.lists

  pub no_save : NoOptions options → (c : Command) → ¬ (Says (words_with (codes "save") files options) c)
  no_save none c s = let p = (saved c s).run in none p.given p.ints p.gives p.lists

  pub no_resume : Wrong no_options options → (c : Command) → ¬ (Says (words_with (codes "resume") files options) c)
  no_resume none c s = let p = resumed c s in none p.given p.gives

  -- there is one file
  pub not_one : 1 < length files → (c : Command) → ¬ (Says (words_with (codes "exec") files options) c)
  not_one more c s = let p = executed c s in let one = ap length p.one in omega arith

  pub not_one_saved : 1 < length files → (c : Command) → ¬ (Says (words_with (codes "save") files options) c)
  not_one_saved more c s = let p = (saved c s).run in let one = ap length p.one in omega arith

  pub not_one_resumed : 1 < length files → (c : Command) → ¬ (Says (words_with (codes "resume") files options) c)
  not_one_resumed more c s = let p = resumed c s in let one = ap length p.one in omega arith

  -- the options are none of the command
  pub no_save_with_heap : (r : Running) → Gave options r → r.heap ≡ true → (c : Command) →
      ¬ (Says (words_with (codes "save") files options) c)
  no_save_with_heap r g heap c s =
      let p = saved c s in
      let same : p.run.given ≡ g.given = gives_once p.run.gives g.gives in
      let none : g.given.heap ≡ false = subst (λ (h : Given). h.heap ≡ false) same p.no_heap in
      let some : g.given.heap ≡ true = sym g.heap ∙ heap in
      cc (none, some)

  pub no_resume_with : (given : Given) → Gives no_options options given → ¬ ((given.steps ≡ None) × (given.inputs ≡ None)) →
      (c : Command) → ¬ (Says (words_with (codes "resume") files options) c)
  no_resume_with given gives other c s =
      let p = resumed c s in
      let same : p.given ≡ given = gives_once p.gives gives in
      other (subst (λ (h : Given). (h.steps ≡ None) × (h.inputs ≡ None)) same (p.no_steps, p.no_inputs))

  pub is_run : (r : Running) → Gave options r → map string_bytes r.files.now ≡ files →
      (c : Command) × Says (words_with (codes "run") files options) c × AsksForRun r c
  is_run r g named =
      let same = given_with options r g in (
        run files (options_of g.given g.ints),
        says_run are g.gives g.lists,
        record {
          within = kept_within options r g;
          ints = g.ints;
          lists =
              subst (λ (i : Option (List ℕ)). Inputs i g.ints) (sym g.inputs) g.lists;
          is = cc (named, same);
        },
      )

is_one : (files : List (List ℕ)) → AreFiles files → length files ≤ 1 → (file : List ℕ) × (files ≡ file ∷ []) × IsFile file
is_one [] are few = let some = are.some in absurd (omega arith)
is_one (f ∷ []) are few = (f, refl, are.each.0)
is_one (f ∷ g ∷ gs) are few = absurd (omega arith)

-- a command that is made of one file and the options of a run
is_image : (make : List ℕ → Options → Command) (word : List ℕ) (files options : List (List ℕ)) → AreFiles files → length files ≤ 1 →
    (r : Running) (g : Gave options r) → map string_bytes r.files.now ≡ files →
    ((file : List ℕ) → IsFile file → Says (word ∷ file ∷ options) (make file (options_of g.given g.ints))) →
    (c : Command) × Says (words_with word files options) c × AsksForImage make r c
is_image make word files options are few r g named says =
    let one = is_one files are few in
    let same = given_with options r g in (
      make one.0 (options_of g.given g.ints),
      subst (λ (fs : List (List ℕ)). Says (words_with word fs options) (make one.0 (options_of g.given g.ints))) (sym one.1)
          (says one.0 one.2),
      record {
        within = kept_within options r g;
        file = one.0;
        one = named ∙ one.1;
        ints = g.ints;
        lists = subst (λ (i : Option (List ℕ)). Inputs i g.ints) (sym g.inputs) g.lists;
        is = ap (make one.0) same;
      },
    )

pub is_exec : (files options : List (List ℕ)) → AreFiles files → length files ≤ 1 → (r : Running) → Gave options r →
    map string_bytes r.files.now ≡ files →
    (c : Command) × Says (words_with (codes "exec") files options) c × AsksForImage exec r c
is_exec files options are few r g named =
    is_image exec (codes "exec") files options are few r g named (λ file is. says_exec is g.gives g.lists)

pub is_save : (files options : List (List ℕ)) → AreFiles files → length files ≤ 1 → (r : Running) → Gave options r →
    r.heap ≡ false → map string_bytes r.files.now ≡ files →
    (c : Command) × Says (words_with (codes "save") files options) c × AsksForImage save r c
is_save files options are few r g none named =
    is_image save (codes "save") files options are few r g named (λ file is. says_save is g.gives (sym g.heap ∙ none) g.lists)

pub is_resume : (files options : List (List ℕ)) → AreFiles files → length files ≤ 1 → (given : Given) → Gives no_options options given →
    given.steps ≡ None → given.inputs ≡ None → (r : Resuming) → map string_bytes r.files.now ≡ files →
    r.until ≡ unwrap_or given.until 1000000000000 → r.heap ≡ given.heap →
    (c : Command) × Says (words_with (codes "resume") files options) c × AsksForResume r c
is_resume files options are few given gives steps inputs r named until heap =
    let one = is_one files are few in
    let within = given_within gives tt tt in
    let made = resume one.0 (unwrap_or given.until 1000000000000) given.heap in (
      made,
      subst (λ (fs : List (List ℕ)). Says (words_with (codes "resume") fs options) made) (sym one.1) (says_resume one.2 gives steps inputs),
      record {
        within = subst (λ (n : ℕ). n ≤ 1000000000000) (sym until)
            (or_within 1000000000000 1000000000000 given.until (omega arith) within.1);
        file = one.0;
        one = named ∙ one.1;
        is = cc (until, heap);
      },
    )

-- one file, and nothing behind it
abbrev pub IsAlone : List (List ℕ) → List (List ℕ) → Type 0
IsAlone files options = (length files ≡ 1) × (options ≡ [])

pub alone_words : {A : Type 0} (text : A → List ℕ) (files options : List A) → (length files ≡ 1) × (length options ≡ 0) →
    IsAlone (map text files) (map text options)
alone_words text files options one = (length-map files text ∙ one.0, no_words text options one.1)

pub words_alone : {A : Type 0} (text : A → List ℕ) (files options : List A) → IsAlone (map text files) (map text options) →
    (length files ≡ 1) × (length options ≡ 0)
words_alone text files options one = (sym (length-map files text) ∙ one.0, sym (length-map options text) ∙ ap length one.1)

-- the words are a command of one file alone
pub is_alone : (make : List ℕ → Command) (word : List ℕ) → ((file : List ℕ) → IsFile file → Says (word ∷ file ∷ []) (make file)) →
    (files options : List (List ℕ)) → AreFiles files → IsAlone files options →
    (c : Command) × Says (words_with word files options) c × AsksForOne make files c
is_alone make word says [] options are one = let none = one.0 in absurd (omega arith)
is_alone make word says (f ∷ []) options are one = (
  make f,
  subst (λ (behind : List (List ℕ)). Says (word ∷ f ∷ behind) (make f)) (sym one.1) (says f are.each.0),
  record { file = f; one = refl; is = refl },
)
is_alone make word says (f ∷ g ∷ gs) options are one = let some = one.0 in absurd (omega arith)

-- two files, and nothing behind them
abbrev pub AreTwo : List (List ℕ) → List (List ℕ) → Type 0
AreTwo files options = (length files ≡ 2) × (options ≡ [])

pub two_words : {A : Type 0} (text : A → List ℕ) (files options : List A) → (length files ≡ 2) × (length options ≡ 0) →
    AreTwo (map text files) (map text options)
two_words text files options two = (length-map files text ∙ two.0, no_words text options two.1)

pub words_two : {A : Type 0} (text : A → List ℕ) (files options : List A) → AreTwo (map text files) (map text options) →
    (length files ≡ 2) × (length options ≡ 0)
words_two text files options two = (sym (length-map files text) ∙ two.0, sym (length-map options text) ∙ ap length two.1)

-- the words are a test by notes
pub is_verify : (files options : List (List ℕ)) → AreFiles files → AreTwo files options →
    (c : Command) × Says (words_with (codes "verify") files options) c × AsksForVerify files c
is_verify [] options are two = let none = two.0 in absurd (omega arith)
is_verify (f ∷ []) options are two = let one = two.0 in absurd (omega arith)
is_verify (f ∷ g ∷ []) options are two = (
  verify f g,
  subst (λ (behind : List (List ℕ)). Says (codes "verify" ∷ f ∷ g ∷ behind) (verify f g)) (sym two.1) (says_verify are.each.0 are.each.1.0),
  record { image = f; notes = g; two = refl; is = refl },
)
is_verify (f ∷ g ∷ h ∷ hs) options are two = let many = two.0 in absurd (omega arith)

module _ (files options : List (List ℕ)) (are : AreFiles files) (behind : BeginsWithNoFile options) where
  parted_there : (command : List ℕ) → Parted (words_with command files options) command files options
  parted_there command = record { is = refl; each = are.each; behind = behind }

  -- nothing stands behind the files of a check, of a build, and of notes
  pub no_check : options ≢ [] → (c : Command) → ¬ (Says (words_with (codes "check") files options) c)
  no_check more c s = let p : Alone check files options c = meant_of (codes "check") s (parted_there (codes "check")) in more p.none

  pub no_build : options ≢ [] → (c : Command) → ¬ (Says (words_with (codes "build") files options) c)
  no_build more c s = let p : Alone build files options c = meant_of (codes "build") s (parted_there (codes "build")) in more p.none

  pub no_note : options ≢ [] → (c : Command) → ¬ (Says (words_with (codes "note") files options) c)
  no_note more c s = let p : Alone note files options c = meant_of (codes "note") s (parted_there (codes "note")) in more p.none

  pub is_check : options ≡ [] → (c : Command) × Says (words_with (codes "check") files options) c × (c ≡ check files)
  is_check none =
      let all : codes "check" ∷ files ≡ words_with (codes "check") files options = cc (none, append-nil files) in
      (check files, subst (λ ws. Says ws (check files)) all (says_check are), refl)

  pub is_build : options ≡ [] → (c : Command) × Says (words_with (codes "build") files options) c × (c ≡ build files)
  is_build none =
      let all : codes "build" ∷ files ≡ words_with (codes "build") files options = cc (none, append-nil files) in
      (build files, subst (λ ws. Says ws (build files)) all (says_build are), refl)

  pub is_note : options ≡ [] → (c : Command) × Says (words_with (codes "note") files options) c × (c ≡ note files)
  is_note none =
      let all : codes "note" ∷ files ≡ words_with (codes "note") files options = cc (none, append-nil files) in
      (note files, subst (λ ws. Says ws (note files)) all (says_note are), refl)

  pub no_list : ¬ (IsAlone files options) → (c : Command) → ¬ (Says (words_with (codes "list") files options) c)
  no_list other c s = let p : One list files options c = meant_of (codes "list") s (parted_there (codes "list")) in
      other (ap length p.one, p.none)

  pub no_assemble : ¬ (IsAlone files options) → (c : Command) → ¬ (Says (words_with (codes "assemble") files options) c)
  no_assemble other c s = let p : One assemble files options c = meant_of (codes "assemble") s (parted_there (codes "assemble")) in
      other (ap length p.one, p.none)

  pub no_verify : ¬ (AreTwo files options) → (c : Command) → ¬ (Says (words_with (codes "verify") files options) c)
  no_verify other c s = let p : Two files options c = meant_of (codes "verify") s (parted_there (codes "verify")) in
      other (ap length p.two, p.none)

-- the word behind `load`
pub one_word : {A : Type 0} (text : A → List ℕ) (words : List A) (word d : A) → 1 ≤ length words → length words < 2 →
    word ≡ slice_index_or words 0 d → map text words ≡ text word ∷ []
one_word text [] word d low high e = absurd (omega arith)
one_word text (w ∷ []) word d low high e = ap (λ v. text v ∷ []) (sym e)
one_word text (w ∷ v ∷ vs) word d low high e = absurd (omega arith)

pub no_load : (rest : List (List ℕ)) (word : List ℕ) (n : ℕ) → rest ≡ word ∷ [] → IsNumber 1000 word n → n < 2 → (c : Command) →
    ¬ (Says (codes "load" ∷ rest) c)
no_load rest word n one spelled low c s =
    let l = load_of s refl in
    let same : l.word ≡ word = cc (l.one, one) in
    let number : n ≡ l.n = number_once 1000 word n l.n (omega arith) spelled (subst (λ (w : List ℕ). IsNumber 1000 w l.n) same l.spelled) in
    let from = l.from in
    omega arith

pub is_load : (rest : List (List ℕ)) (word : List ℕ) (n : ℕ) → rest ≡ word ∷ [] → IsNumber 1000 word n → 2 ≤ n →
    (c : Command) × Says (codes "load" ∷ rest) c × AsksForLoad n c
is_load rest word n one spelled from = (
  load n,
  subst (λ (ws : List (List ℕ)). Says (codes "load" ∷ ws) (load n)) (sym one) (says_load spelled from),
  record { from = from; to = spelled.within; is = refl },
)
