-- What is done with one file as the answer to its command.
use Rattle.std.proofs.Common.{◌≡◌, ◌⊎◌, ℕ, ◌≤◌, ℤ, List, [], ◌∷◌, map, Option, Result, inl, inr, refl, sym, ap}
use Rattle.std.proofs.Common.{subst, ◌∙◌, slice_index_or, length, ◌<◌, arith}
use Rattle.verse_outside.specs.Causes.{Rose}
use Rattle.verse_outside.specs.Held.{Holding, Lacks}
use Rattle.verse_top_args.specs.Words.{Command, Inputs, assemble, exec, files_of, list, load, not_given, save}
use Rattle.verse_top_args.specs.Words as words
use Rattle.verse_top_args.specs.Requests.{AsksForImage, AsksForOne, AsksForResume, options_with}
use Rattle.verse_top_args.specs.declared.commands.Resuming.{Resuming}
use Rattle.verse_top_args.specs.declared.commands.Running.{Running}
use Rattle.verse_top_exec.specs.declared.stops.Stop.{Stop}
use Rattle.verse_top_exec.specs.Executions.{Executes, ExecutesSoFar, IsNothing}
use Rattle.verse_top_exec.specs.Leaving.{Leaves}
use Rattle.verse_top_exec.proofs.Leaving.{leaves_as}
use Rattle.verse_top_save.specs.Saving.{Saves, SavesSoFar}
use Rattle.verse_top_resume.specs.Resuming.{Resumes, ResumesSoFar}
use Rattle.verse_top_listing.specs.Listings.{Assembles, Lists}
use Rattle.verse_top.specs.Loading.{IsRead}
use Rattle.verse_top.proofs.LoadLaws.{missing_of_one}
use Rattle.verse_top.specs.Answers.{Answers, Begins, IsAnswer, Loads, assembled, executed, executing, listed, loaded, nothing, read_line}
use Rattle.verse_top.specs.Answers.{resumed, resuming, saved, saving}
use Rattle.verse_top.specs.Ends.{Replies}

module _ (held : Holding) (files_before files_now before now : ℕ) (old new : Option (List ℕ)) (r : Result ℕ Stop) where
  -- the file was not read
  pub leaves_unread : (c : Command) (file : List ℕ) → files_of c ≡ file ∷ [] → Rose files_before files_now ⊎ Lacks held file →
      (status : ℕ) (text : List ℕ) →
      status ≡ 6 → text ≡ read_line file → Leaves (IsAnswer status text) IsNothing before now old new r →
      Leaves (Replies c held files_before files_now) (Begins held c) before now old new r
  leaves_unread c file files cause status text e f l =
      leaves_as (IsAnswer status text) (Replies c held files_before files_now) IsNothing (Begins held c) before now old new r
      (λ s t p. inr (
        p.0 ∙ e,
        (
          file,
          (
            p.1 ∙ f,
            record {
              named = rw files (inl refl);
              cause = elim cause [ inl rose ↦ inl rose | inr lacks ↦ inr (missing_of_one held c file file files (inl (lacks, refl))) ];
            },
          ),
        ),
      ))
      (λ t p. subst (Begins held c) (sym p) (nothing c)) l

-- what the bytes of the file come to is the answer
module _ (held : Holding) (before now : ℕ) (old new : Option (List ℕ)) (r : Result ℕ Stop) (name bytes : List ℕ)
    (read : IsRead held name bytes) where
  pub leaves_executed : (running : Running) (c : Command) (a : AsksForImage exec running c) → files_of c ≡ name ∷ [] →
      Leaves (Executes bytes (options_with running a.ints)) (ExecutesSoFar bytes (options_with running a.ints)) before now old new r →
      Leaves (Answers held c) (Begins held c) before now old new r
  leaves_executed running c a named l =
      let o = options_with running a.ints in
      let files : files_of c ≡ a.file ∷ [] = ap files_of a.is in
      let same : a.file ≡ name = cc (files, named) in
      let there : IsRead held a.file bytes = subst (λ (n : List ℕ). IsRead held n bytes) (sym same) read in
      leaves_as (Executes bytes o) (Answers held c) (ExecutesSoFar bytes o) (Begins held c) before now old new r
      (λ s t p. subst (λ (d : Command). Answers held d s t) (sym a.is) (executed a.file o bytes s t there p))
      (λ t p. subst (λ (d : Command). Begins held d t) (sym a.is) (executing a.file o bytes t there p)) l

  pub leaves_saved : (running : Running) (c : Command) (a : AsksForImage save running c) → files_of c ≡ name ∷ [] →
      Leaves (Saves bytes (options_with running a.ints)) (SavesSoFar bytes (options_with running a.ints)) before now old new r →
      Leaves (Answers held c) (Begins held c) before now old new r
  leaves_saved running c a named l =
      let o = options_with running a.ints in
      let files : files_of c ≡ a.file ∷ [] = ap files_of a.is in
      let same : a.file ≡ name = cc (files, named) in
      let there : IsRead held a.file bytes = subst (λ (n : List ℕ). IsRead held n bytes) (sym same) read in
      leaves_as (Saves bytes o) (Answers held c) (SavesSoFar bytes o) (Begins held c) before now old new r
      (λ s t p. subst (λ (d : Command). Answers held d s t) (sym a.is) (saved a.file o bytes s t there p))
      (λ t p. subst (λ (d : Command). Begins held d t) (sym a.is) (saving a.file o bytes t there p)) l

  pub leaves_resumed : (x : Resuming) (c : Command) (a : AsksForResume x c) → files_of c ≡ name ∷ [] →
      Leaves (Resumes bytes x.until x.heap) (ResumesSoFar bytes x.until x.heap) before now old new r →
      Leaves (Answers held c) (Begins held c) before now old new r
  leaves_resumed x c a named l =
      let files : files_of c ≡ a.file ∷ [] = ap files_of a.is in
      let same : a.file ≡ name = cc (files, named) in
      let there : IsRead held a.file bytes = subst (λ (n : List ℕ). IsRead held n bytes) (sym same) read in
      leaves_as (Resumes bytes x.until x.heap) (Answers held c) (ResumesSoFar bytes x.until x.heap) (Begins held c) before now old new r
      (λ s t p. subst (λ (d : Command). Answers held d s t) (sym a.is) (resumed a.file x.until x.heap bytes s t there p))
      (λ t p. subst (λ (d : Command). Begins held d t) (sym a.is) (resuming a.file x.until x.heap bytes t there p)) l

  module _ (files : List (List ℕ)) (c : Command) (status : ℕ) (text : List ℕ) where
    pub leaves_listed : AsksForOne list files c → files_of c ≡ name ∷ [] → Lists bytes status text →
        Leaves (IsAnswer status text) IsNothing before now old new r → Leaves (Answers held c) (Begins held c) before now old new r
    leaves_listed a named p l =
        let of_list : files_of c ≡ a.file ∷ [] = ap files_of a.is in
        let same : a.file ≡ name = cc (of_list, named) in
        let is : c ≡ list name = a.is ∙ ap list same in
        leaves_as (IsAnswer status text) (Answers held c) IsNothing (Begins held c) before now old new r
        (λ s t m. subst (λ (d : Command). Answers held d s t) (sym is) (rw (m.0, m.1) (listed name bytes status text read p)))
        (λ t m. subst (Begins held c) (sym m) (nothing c)) l

    pub leaves_assembled : AsksForOne assemble files c → files_of c ≡ name ∷ [] → Assembles bytes status text →
        Leaves (IsAnswer status text) IsNothing before now old new r → Leaves (Answers held c) (Begins held c) before now old new r
    leaves_assembled a named p l =
        let of_listing : files_of c ≡ a.file ∷ [] = ap files_of a.is in
        let same : a.file ≡ name = cc (of_listing, named) in
        let is : c ≡ assemble name = a.is ∙ ap assemble same in
        leaves_as (IsAnswer status text) (Answers held c) IsNothing (Begins held c) before now old new r
        (λ s t m. subst (λ (d : Command). Answers held d s t) (sym is) (rw (m.0, m.1) (assembled name bytes status text read p)))
        (λ t m. subst (Begins held c) (sym m) (nothing c)) l

-- what the load comes to is the answer
pub leaves_loaded : (held : Holding) (files_before files_now before now : ℕ) (old new : Option (List ℕ)) (r : Result ℕ Stop) (n : ℕ)
    (c : Command) → c ≡ load n → Leaves (Loads n) IsNothing before now old new r →
    Leaves (Replies c held files_before files_now) (Begins held c) before now old new r
leaves_loaded held files_before files_now before now old new r n c is l =
    leaves_as (Loads n) (Replies c held files_before files_now) IsNothing (Begins held c) before now old new r
    (λ s t p. inl (subst (λ (d : Command). Answers held d s t) (sym is) (loaded n s t p)))
    (λ t m. subst (Begins held c) (sym m) (nothing c)) l

-- an answer that was written at once
pub leaves_answer : (c : Command) (held : Holding) (files_before files_now before now : ℕ) (old new : Option (List ℕ)) (r : Result ℕ Stop)
    (status : ℕ) (text : List ℕ) →
    Replies c held files_before files_now status text → Leaves (IsAnswer status text) IsNothing before now old new r →
    Leaves (Replies c held files_before files_now) (Begins held c) before now old new r
leaves_answer c held files_before files_now before now old new r status text reply l =
    leaves_as (IsAnswer status text) (Replies c held files_before files_now) IsNothing (Begins held c) before now old new r
    (λ s t p. rw (p.0, p.1) reply) (λ t p. subst (Begins held c) (sym p) (nothing c)) l

-- the one file of the command
pub some_file : (words : List (List ℕ)) (file : List ℕ) → words ≡ file ∷ [] → 0 < length words
some_file [] file e = absurd (cc)
some_file (w ∷ ws) file e = omega arith

pub first_file : {A : Type 0} (text : A → List ℕ) (words : List A) (file : List ℕ) (d : A) → map text words ≡ file ∷ [] →
    d ≡ slice_index_or words 0 d → text d ≡ file
first_file text [] file d e f = absurd (cc)
first_file text (w ∷ ws) file d e f = let same : text w ≡ file = cc in ap text f ∙ same

pub few_inputs : {given : Option (List ℕ)} {ns : List ℤ} → Inputs given ns → length ns ≤ 1000
few_inputs not_given = omega arith
few_inputs (words.listed l few) = few
