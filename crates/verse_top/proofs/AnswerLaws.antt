-- The ways to an answer, and that there is one.
use Rattle.std.proofs.Common.{◌≡◌, ℕ, List, [], ◌∷◌, ◌++◌, length, refl, sym, ◌∙◌, ap, subst}
use Rattle.std.proofs.Common.{Result, Ok, Err, IfOk, inl, inr}
use Rattle.verse_base.specs.declared.refusals.Refusal.{Refusal}
use Rattle.verse_lex.specs.Cut.{first_place}
use Rattle.verse_outside.specs.Held.{Holding}
use Rattle.verse_tree.specs.ItemTree.{ItemTree}
use Rattle.verse_value.specs.Runs.{Run}
use Rattle.verse_meaning_state.specs.Texts.{ending_line, run_text}
use Rattle.verse_top_texts.specs.Refusals.{refusal_line}
use Rattle.verse_top_args.specs.Words.{AreFiles, Command, files_of, save, Options}
use Rattle.verse_top_args.specs.Requests.{AreNamed, AsksFor, names_of}
use Rattle.verse_top_args.specs.declared.commands.Request.{Request}
use Rattle.verse_top_args.specs.declared.commands.Request.TheVariants as request
use Rattle.verse_accept.specs.Fronts.{Accepts, IsRefused, refusal}
use Rattle.verse_accept.proofs.Answered.{one_front_end}
use Rattle.verse_top.specs.Loading.{AreLoaded, IsTooLarge}
use Rattle.verse_top.specs.Meaning.{code_from, default_options, mean_with, notes_from}
use Rattle.verse_top_texts.specs.Endings.{ending_status}
use Rattle.verse_top.specs.Answers.{Answers, too_large, refused, checked, ran, built, noted, executed, saved, resumed, listed, assembled}
use Rattle.verse_top.specs.Answers.{verified}
use Rattle.verse_top.specs.Answers.{loaded, Alike, AnsweredOnce, ExecRunsWhatIsBuilt, IsImageOf, Loads, MeansInShort, accepted, of_one_run}
use Rattle.verse_top.specs.Answers.{one_text, rejected}
use Rattle.verse_top.specs.Programs.{IsForFile, IsForProgram, IsProgram}
use Rattle.verse_image.specs.Format.{Image, version_of}
use Rattle.verse_image.proofs.ImageLaws.{image_once}
use Rattle.verse_top_exec.specs.Executions.{Executes, run_with}
use Rattle.verse_top_exec.specs.Executions as x
use Rattle.verse_top_exec.proofs.Executions.{once as executed_once}
use Rattle.verse_top_listing.specs.Listings.{Assembles, Lists}
use Rattle.verse_top_listing.proofs.Once.{assembles_once, lists_once}
use Rattle.verse_top_verify.specs.Verifying.{Verifies}
use Rattle.verse_top_verify.proofs.Once.{verifies_once}
use Rattle.verse_top_save.specs.Saving.{Saves}
use Rattle.verse_top_save.proofs.Answered.{once as save_answered_once}
use Rattle.verse_top_resume.specs.Resuming.{Resumes}
use Rattle.verse_top_resume.proofs.Once.{once as resumed_once}
use Rattle.verse_top_load.specs.Load.{lines_line, load_text_of}
use Rattle.verse_top.proofs.LoadLaws.{loaded_once, loaded_or_large, large_once, read_once}

-- ---- one answer

one_built : (is js : List ItemTree) (files : ℕ) (x y : List ℕ) → is ≡ js → IsImageOf is files x → IsImageOf js files y → x ≡ y
one_built is js files x y e i j =
    let other : Image (version_of (code_from is files)) (code_from is files) y =
    subst (λ (ks : List ItemTree). Image (version_of (code_from ks files)) (code_from ks files) y) (sym e) j.image in
    image_once (version_of (code_from is files)) (code_from is files) x y i.image other

short_once : (is js : List ItemTree) (o : Options) (files s t : ℕ) (x y : List ℕ) → is ≡ js → MeansInShort is o files s x →
    MeansInShort js o files t y → (s ≡ t) × (x ≡ y)
short_once is js o files s t x y e p q = (
  p.status_is ∙ ap (λ (ks : List ItemTree). ending_status (mean_with ks o).ending) e ∙ sym q.status_is,
  p.text_is ∙ ap (λ (ks : List ItemTree). ending_line files (mean_with ks o) ++ lines_line (length (mean_with ks o).trace)) e ∙
      sym q.text_is,
)

loads_once : (n s t : ℕ) (x y : List ℕ) → Loads n s x → Loads n t y → (s ≡ t) × (x ≡ y)
loads_once n s t x y (accepted is u z p m) (accepted js w v q k) =
    short_once is js default_options 1 s t x y (one_front_end.value (load_text_of n ∷ []) is js p q) m k
loads_once n s t x y (accepted is u z p m) (rejected r q) = absurd (one_front_end.apart (load_text_of n ∷ []) is r p q)
loads_once n s t x y (rejected r q) (accepted is u z p m) = absurd (one_front_end.apart (load_text_of n ∷ []) is r p q)
loads_once n s t x y (rejected r p) (rejected u q) =
    (refl, ap (λ (v : Refusal). refusal_line [] v) (one_front_end.refusal (load_text_of n ∷ []) r u p q))

-- one text
alike : (c : Command) (x y : List ℕ) → x ≡ y → Alike c x y
alike c x y e = subst (Alike c x) e (one_text c x)

alone : (c : Command) (s t : ℕ) (x y : List ℕ) → (s ≡ t) × (x ≡ y) → (s ≡ t) × Alike c x y
alone c s t x y p = (p.0, alike c x y p.1)

saves_once : (name : List ℕ) (o : Options) (bytes : List ℕ) (s t : ℕ) (x y : List ℕ) → Saves bytes o s x → Saves bytes o t y →
    (s ≡ t) × Alike (save name o) x y
saves_once name o bytes s t x y p q =
    let once = save_answered_once bytes o s t x y p q in (
      once.0,
      elim once.1 [ inl e ↦ alike (save name o) x y e | inr twice ↦ of_one_run name o twice.0 x y twice.1 ],
    )

pub once : AnsweredOnce
once held c s t x y (too_large d n g p) (too_large e m h q) =
    alone c s t x y
    (refl, ap (λ (k : ℕ). refusal_line (files_of c) (refusal 2 (first_place k))) (large_once held (files_of c) 0 n m p q))
once held c s t x y (too_large d n g p) (refused e files r h l q) = absurd (loaded_or_large held (files_of c) files 0 n l p)
once held c s t x y (too_large d n g p) (checked names files is l q) = absurd (loaded_or_large held names files 0 n l p)
once held c s t x y (too_large d n g p) (ran names o files is l q) = absurd (loaded_or_large held names files 0 n l p)
once held c s t x y (too_large d n g p) (built names files is bytes l q i) = absurd (loaded_or_large held names files 0 n l p)
once held c s t x y (too_large d n g p) (noted names files is l q) = absurd (loaded_or_large held names files 0 n l p)
once held c s t x y (too_large d n g p) (executed name o bytes u z l q) = absurd g
once held c s t x y (too_large d n g p) (saved name o bytes u z l q) = absurd g
once held c s t x y (too_large d n g p) (resumed name until heap bytes u z l q) = absurd g
once held c s t x y (too_large d n g p) (listed name bytes u z l q) = absurd g
once held c s t x y (too_large d n g p) (assembled name bytes u z l q) = absurd g
once held c s t x y (too_large d n g p) (verified image notes bytes more u z l m q) = absurd g
once held c s t x y (too_large d n g p) (loaded k u z q) = absurd g
once held c s t x y (refused e files r g l q) (too_large d n h p) = absurd (loaded_or_large held (files_of c) files 0 n l p)
once held c s t x y (checked names files is l q) (too_large d n h p) = absurd (loaded_or_large held names files 0 n l p)
once held c s t x y (ran names o files is l q) (too_large d n h p) = absurd (loaded_or_large held names files 0 n l p)
once held c s t x y (built names files is bytes l q i) (too_large d n h p) = absurd (loaded_or_large held names files 0 n l p)
once held c s t x y (noted names files is l q) (too_large d n h p) = absurd (loaded_or_large held names files 0 n l p)
once held c s t x y (executed name o bytes u z l q) (too_large d n h p) = absurd h
once held c s t x y (saved name o bytes u z l q) (too_large d n h p) = absurd h
once held c s t x y (resumed name until heap bytes u z l q) (too_large d n h p) = absurd h
once held c s t x y (listed name bytes u z l q) (too_large d n h p) = absurd h
once held c s t x y (assembled name bytes u z l q) (too_large d n h p) = absurd h
once held c s t x y (verified image notes bytes more u z l m q) (too_large d n h p) = absurd h
once held c s t x y (loaded k u z q) (too_large d n h p) = absurd h
once held c s t x y (refused d files r g l p) (refused e others u h k q) =
    let same = loaded_once held (files_of c) files others l k in
    alone c s t x y
    (refl, ap (λ (v : Refusal). refusal_line (files_of c) v) (one_front_end.refusal others r u (subst (λ fs. IsRefused fs r) same p) q))
once held c s t x y (refused d files r g l p) (checked names others is k q) =
    let same = loaded_once held names files others l k in absurd (one_front_end.apart others is r q (subst (λ fs. IsRefused fs r) same p))
once held c s t x y (refused d files r g l p) (ran names o others is k q) =
    let same = loaded_once held names files others l k in absurd (one_front_end.apart others is r q (subst (λ fs. IsRefused fs r) same p))
once held c s t x y (refused d files r g l p) (built names others is bytes k q i) =
    let same = loaded_once held names files others l k in absurd (one_front_end.apart others is r q (subst (λ fs. IsRefused fs r) same p))
once held c s t x y (refused d files r g l p) (noted names others is k q) =
    let same = loaded_once held names files others l k in absurd (one_front_end.apart others is r q (subst (λ fs. IsRefused fs r) same p))
once held c s t x y (refused d files r g l p) (executed name o bytes u z k q) = absurd g
once held c s t x y (refused d files r g l p) (saved name o bytes u z k q) = absurd g
once held c s t x y (refused d files r g l p) (resumed name until heap bytes u z k q) = absurd g
once held c s t x y (refused d files r g l p) (listed name bytes u z k q) = absurd g
once held c s t x y (refused d files r g l p) (assembled name bytes u z k q) = absurd g
once held c s t x y (refused d files r g l p) (verified image notes bytes more u z k m q) = absurd g
once held c s t x y (refused d files r g l p) (loaded k u z q) = absurd g
once held c s t x y (checked names others is k q) (refused d files r g l p) =
    let same = loaded_once held names files others l k in absurd (one_front_end.apart others is r q (subst (λ fs. IsRefused fs r) same p))
once held c s t x y (ran names o others is k q) (refused d files r g l p) =
    let same = loaded_once held names files others l k in absurd (one_front_end.apart others is r q (subst (λ fs. IsRefused fs r) same p))
once held c s t x y (built names others is bytes k q i) (refused d files r g l p) =
    let same = loaded_once held names files others l k in absurd (one_front_end.apart others is r q (subst (λ fs. IsRefused fs r) same p))
once held c s t x y (noted names others is k q) (refused d files r g l p) =
    let same = loaded_once held names files others l k in absurd (one_front_end.apart others is r q (subst (λ fs. IsRefused fs r) same p))
once held c s t x y (executed name o bytes u z k q) (refused d files r g l p) = absurd g
once held c s t x y (saved name o bytes u z k q) (refused d files r g l p) = absurd g
once held c s t x y (resumed name until heap bytes u z k q) (refused d files r g l p) = absurd g
once held c s t x y (listed name bytes u z k q) (refused d files r g l p) = absurd g
once held c s t x y (assembled name bytes u z k q) (refused d files r g l p) = absurd g
once held c s t x y (verified image notes bytes more u z k m q) (refused d files r g l p) = absurd g
once held c s t x y (loaded k u z q) (refused d files r g l p) = absurd g
once held c s t x y (checked names files is l p) (checked other others js k q) = alone c s t x y (refl, refl)
once held c s t x y (ran names o files is l p) (ran other u others js k q) =
    let same = loaded_once held names files others l k in
    let items = one_front_end.value others is js (subst (λ fs. Accepts fs is) same p) q in
    alone c s t x y (
      ap (λ (ks : List ItemTree). ending_status (mean_with ks o).ending) items,
      ap (λ (ks : List ItemTree). run_text (mean_with ks o) o.heap (length names)) items,
    )
once held c s t x y (built names files is bytes l p i) (built other others js more k q j) =
    let same = loaded_once held names files others l k in
    let items = one_front_end.value others is js (subst (λ fs. Accepts fs is) same p) q in
    alone c s t x y (refl, one_built is js (length names) x y items i j)
once held c s t x y (noted names files is l p) (noted other others js k q) =
    let same = loaded_once held names files others l k in
    let items = one_front_end.value others is js (subst (λ fs. Accepts fs is) same p) q in
    alone c s t x y (refl, ap (λ (ks : List ItemTree). notes_from ks (length names)) items)
once held c s t x y (executed name o bytes u z l p) (executed other v others w k m q) =
    let same = read_once held name bytes others l m in
    alone c s t x y (executed_once others o s t x y (subst (λ (bs : List ℕ). Executes bs o s x) same p) q)
once held c s t x y (saved name o bytes u z l p) (saved other v others w k m q) =
    let same = read_once held name bytes others l m in
    saves_once name o others s t x y (subst (λ (bs : List ℕ). Saves bs o s x) same p) q
once held c s t x y (resumed name until heap bytes u z l p) (resumed other v lines others w k m q) =
    let same = read_once held name bytes others l m in
    alone c s t x y (resumed_once others until heap s t x y (subst (λ (bs : List ℕ). Resumes bs until heap s x) same p) q)
once held c s t x y (listed name bytes u z l p) (listed other others w k m q) =
    let same = read_once held name bytes others l m in
    alone c s t x y (lists_once others s t x y (subst (λ (bs : List ℕ). Lists bs s x) same p) q)
once held c s t x y (assembled name bytes u z l p) (assembled other others w k m q) =
    let same = read_once held name bytes others l m in
    alone c s t x y (assembles_once others s t x y (subst (λ (bs : List ℕ). Assembles bs s x) same p) q)
once held c s t x y (verified image notes bytes more u z l m p) (verified other those others extra v w k n q) =
    let one = read_once held image bytes others l k in
    let two = read_once held notes more extra m n in
    let here = subst (λ (bs : List ℕ). Verifies bytes bs s x) two p in
    alone c s t x y (verifies_once others extra s t x y (subst (λ (bs : List ℕ). Verifies bs extra s x) one here) q)
once held c s t x y (loaded n u z p) (loaded m w k q) = alone c s t x y (loads_once n s t x y p q)

-- ---- what is built, and then executed

runs_built : (is js : List ItemTree) (files : ℕ) (image : List ℕ) (o : Options) → is ≡ js → IsImageOf is files image →
    Executes image o (ending_status (mean_with js o).ending) (run_text (mean_with js o) o.heap files)
runs_built is js files image o e i =
    let same : run_with (code_from is files) o ≡ mean_with js o = i.runs o ∙ ap (λ (ks : List ItemTree). mean_with ks o) e in
    x.ran (version_of (code_from is files)) (code_from is files) (ending_status (mean_with js o).ending)
    (run_text (mean_with js o) o.heap files) i.image
    (record {
      status_is = ap (λ (r : Run). ending_status r.ending) (sym same);
      text_is = ap (λ (r : Run). run_text r o.heap files) (sym same);
    })

pub exec_runs : ExecRunsWhatIsBuilt
exec_runs held other names name image o status text (built ns files is bytes l p i) read (too_large d n g q) =
    absurd (loaded_or_large held names files 0 n l q)
exec_runs held other names name image o status text (built ns files is bytes l p i) read (refused d others r g k q) =
    let same = loaded_once held names files others l k in absurd (one_front_end.apart others is r (subst (λ fs. Accepts fs is) same p) q)
exec_runs held other names name image o status text (built ns files is bytes l p i) read (ran ms u others js k q) =
    let same = loaded_once held names files others l k in
    let items = one_front_end.value others is js (subst (λ fs. Accepts fs is) same p) q in
    executed name o image status text read (runs_built is js (length names) image o items i)

-- ---- the ways to an answer, with equations in place of indices

along : (held : Holding) (c : Command) (s t : ℕ) (x y : List ℕ) → s ≡ t → x ≡ y → Answers held c t y → Answers held c s x
along held c s t x y e f h = rw (e, f) h

pub asks_for_files : (q : Request) (c : Command) → AsksFor q c → files_of c ≡ names_of q
asks_for_files (request.Run r) c a = ap files_of a.is
asks_for_files (request.Exec r) c a = ap files_of a.is ∙ sym a.one
asks_for_files (request.Save r) c a = ap files_of a.is ∙ sym a.one
asks_for_files (request.Resume r) c a = ap files_of a.is ∙ sym a.one
asks_for_files (request.Check files) c a = ap files_of a
asks_for_files (request.Build files) c a = ap files_of a
asks_for_files (request.Note files) c a = ap files_of a
asks_for_files (request.List files) c a = ap files_of a.is ∙ sym a.one
asks_for_files (request.Assemble files) c a = ap files_of a.is ∙ sym a.one
asks_for_files (request.Verify files) c a = ap files_of a.is ∙ sym a.two
asks_for_files (request.Load n) c a = ap files_of a.is

-- a command over one file that is no program
pub asks_for_one : (q : Request) (c : Command) → IsForFile q → AsksFor q c → (file : List ℕ) × (files_of c ≡ file ∷ [])
asks_for_one (request.Run r) c p a = absurd p
asks_for_one (request.Exec r) c p a = (a.file, ap files_of a.is)
asks_for_one (request.Save r) c p a = (a.file, ap files_of a.is)
asks_for_one (request.Resume r) c p a = (a.file, ap files_of a.is)
asks_for_one (request.Check files) c p a = absurd p
asks_for_one (request.Build files) c p a = absurd p
asks_for_one (request.Note files) c p a = absurd p
asks_for_one (request.List files) c p a = (a.file, ap files_of a.is)
asks_for_one (request.Assemble files) c p a = (a.file, ap files_of a.is)
asks_for_one (request.Verify files) c p a = absurd p
asks_for_one (request.Load n) c p a = absurd p

-- the files of a program are 1 to 16
pub program_named : (q : Request) → IsForProgram q → AreNamed q → AreFiles (names_of q)
program_named (request.Run r) p n = n
program_named (request.Exec r) p n = n
program_named (request.Save r) p n = n
program_named (request.Resume r) p n = n
program_named (request.Check files) p n = n
program_named (request.Build files) p n = n
program_named (request.Note files) p n = n
program_named (request.List files) p n = absurd p
program_named (request.Assemble files) p n = absurd p
program_named (request.Verify files) p n = absurd p
program_named (request.Load m) p n = absurd p

pub asks_for_program : (q : Request) (c : Command) → IsForProgram q → AsksFor q c → IsProgram c
asks_for_program (request.Run r) c p a = subst IsProgram (sym a.is) tt
asks_for_program (request.Exec r) c p a = absurd p
asks_for_program (request.Save r) c p a = absurd p
asks_for_program (request.Resume r) c p a = absurd p
asks_for_program (request.Check files) c p a = subst IsProgram (sym a) tt
asks_for_program (request.Build files) c p a = subst IsProgram (sym a) tt
asks_for_program (request.Note files) c p a = subst IsProgram (sym a) tt
asks_for_program (request.List files) c p a = absurd p
asks_for_program (request.Assemble files) c p a = absurd p
asks_for_program (request.Verify files) c p a = absurd p
asks_for_program (request.Load n) c p a = absurd p

pub answers_refused : (held : Holding) (c : Command) (names files : List (List ℕ)) (s : ℕ) (x : List ℕ) (r : Refusal) → IsProgram c →
    files_of c ≡ names → s ≡ 1 → x ≡ refusal_line names r → AreLoaded held names files → IsRefused files r → Answers held c s x
answers_refused held c names files s x r g n e f l p =
    along held c s 1 x (refusal_line (files_of c) r) e (f ∙ ap (λ ns. refusal_line ns r) (sym n))
    (refused c files r g (subst (λ ns. AreLoaded held ns files) (sym n) l) p)

pub answers_large : (held : Holding) (c : Command) (names : List (List ℕ)) (file s : ℕ) (x : List ℕ) → IsProgram c →
    files_of c ≡ names → s ≡ 1 → x ≡ refusal_line names (refusal 2 (first_place file)) → IsTooLarge held 0 names file → Answers held c s x
answers_large held c names file s x g n e f p =
    along held c s 1 x (refusal_line (files_of c) (refusal 2 (first_place file))) e
    (f ∙ ap (λ ns. refusal_line ns (refusal 2 (first_place file))) (sym n))
    (too_large c file g (subst (λ ns. IsTooLarge held 0 ns file) (sym n) p))

-- ---- what holds of a result where there is one

pub ok_then : {T E : Type 0} (r : Result T E) (P Q : T → Type 0) → ((x : T) → P x → Q x) → IfOk r P → IfOk r Q
ok_then (Ok x) P Q f h = f x h
ok_then (Err e) P Q f h = tt

pub ok_both : {T E : Type 0} (r : Result T E) (P Q R : T → Type 0) → ((x : T) → P x → Q x → R x) → IfOk r P → IfOk r Q → IfOk r R
ok_both (Ok x) P Q R f h k = f x h k
ok_both (Err e) P Q R f h k = tt
