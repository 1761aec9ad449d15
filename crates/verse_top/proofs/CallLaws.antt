-- From the parts of the top call to how it ends.
use Rattle.std.proofs.Common.{◌≡◌, ℕ, ◌≤◌, List, ◌++◌, Option, Result, Ok, Err, inl, inr, refl, sym, subst}
use Rattle.verse_outside.specs.Held.{Holding}
use Rattle.verse_top_args.specs.Words.{Command, Says}
use Rattle.verse_top_exec.specs.declared.stops.Stop.{Stop}
use Rattle.verse_top_exec.specs.declared.stops.Stop.TheVariants as stop
use Rattle.verse_top_exec.specs.Leaving.{Leaves}
use Rattle.verse_top_exec.proofs.Takes.{more_then, rose_from, took_behind, took_front}
use Rattle.verse_top.specs.Answers.{Begins, memory_line, read_line}
use Rattle.verse_top.specs.Ends.{Ends, Finishes, Replies, Tells, answer, cut_short, no_memory, not_read, whole}

-- a text with its status, and what was written of it
pub ends_with : (words : List (List ℕ)) (held : Holding) (files_before files_now : ℕ) (status : ℕ) (text : List ℕ)
    (result before now : ℕ) (old new : Option (List ℕ)) → Tells words held files_before files_now status text →
    Finishes status text result before now old new → Ends words held files_before files_now before now old new result
ends_with words held files_before files_now status text result before now old new told (inl all) =
    subst (λ (n : ℕ). Ends words held files_before files_now before now old new n) (sym all.0) (whole status text told all.1)
ends_with words held files_before files_now status text result before now old new told (inr part) =
    subst (λ (n : ℕ). Ends words held files_before files_now before now old new n) (sym part.0)
    (cut_short status text told part.1.0 part.1.1)

-- what is left in the sink for the command that the words are
module _ (words : List (List ℕ)) (c : Command) (says : Says words c) (held : Holding) (files_before files_now before : ℕ)
    (old : Option (List ℕ)) where
  tells : (n : ℕ) (text : List ℕ) → Replies c held files_before files_now n text → Tells words held files_before files_now n text
  tells n text (inl a) = answer c n text says a
  tells n text (inr u) = subst (λ (t : List ℕ). Tells words held files_before files_now n t) (sym u.1.1.0)
      (subst (λ (m : ℕ). Tells words held files_before files_now m (read_line u.1.0)) (sym u.0) (not_read c u.1.0 says u.1.1.1))

  pub ends_whole : (now : ℕ) (new : Option (List ℕ)) (r : Result ℕ Stop) (status : ℕ) → r ≡ Ok status →
      Leaves (Replies c held files_before files_now) (Begins held c) before now old new r →
      Ends words held files_before files_now before now old new status
  ends_whole now new (Ok s) status e l =
      let same : s ≡ status = cc in
      subst (λ (n : ℕ). Ends words held files_before files_now before now old new n) same (whole s l.0 (tells s l.0 l.1.0) l.1.1)
  ends_whole now new (Err s) status e l = absurd (cc)

  pub ends_failed : (now : ℕ) (new : Option (List ℕ)) (r : Result ℕ Stop) → r ≡ Err stop.Failed →
      Leaves (Replies c held files_before files_now) (Begins held c) before now old new r →
      Ends words held files_before files_now before now old new 7
  ends_failed now new (Ok s) e l = absurd (cc)
  ends_failed now new (Err stop.Memory) e l = absurd (cc)
  ends_failed now new (Err stop.Failed) e l = elim l.1.1.0 [
    | inl a ↦ cut_short a.0 l.1.0 (tells a.0 l.1.0 a.1) l.0 l.1.1.1
    | inr b ↦ cut_short 5 (l.1.0 ++ memory_line) (no_memory c l.1.0 says b) l.0 (took_front old new l.1.0 memory_line l.1.1.1)
  ]

  pub ends_without : (at now : ℕ) (mid new : Option (List ℕ)) (r : Result ℕ Stop) (status : ℕ) → r ≡ Err stop.Memory → before ≤ at →
      Leaves (Replies c held files_before files_now) (Begins held c) before at old mid r → Finishes 5 memory_line status at now mid new →
      Ends words held files_before files_now before now old new status
  ends_without at now mid new (Ok s) status e low l f = absurd (cc)
  ends_without at now mid new (Err stop.Failed) status e low l f = absurd (cc)
  ends_without at now mid new (Err stop.Memory) status e low l (inl all) =
      subst (λ (n : ℕ). Ends words held files_before files_now before now old new n) (sym all.0)
      (whole 5 (l.0 ++ memory_line) (no_memory c l.0 says l.1.0) (more_then old mid new l.0 memory_line l.1.1 all.1))
  ends_without at now mid new (Err stop.Memory) status e low l (inr part) =
      subst (λ (n : ℕ). Ends words held files_before files_now before now old new n) (sym part.0)
      (cut_short 5 (l.0 ++ memory_line) (no_memory c l.0 says l.1.0) (rose_from before at now low part.1.0)
      (took_behind old mid new l.0 memory_line l.1.1 part.1.1))
