-- How the top call ends.
use Rattle.std.specs.Prelude.{◌≡◌, ◌≢◌, ◌⊎◌, ℕ, List, ◌++◌, Option}
use Rattle.verse_outside.specs.Causes.{Rose}
use Rattle.verse_outside.specs.Held.{Holding, with_more, TookPrefix}
use Rattle.verse_top_args.specs.Words.{Command, files_of, Says}
use Rattle.verse_top.specs.Loading.{AreHeld, IsAmong, IsMissing}
use Rattle.verse_top.specs.Answers.{Answers, Begins, memory_line, read_line, words_line}

-- a file was not read, for a fault or since it is the first that is not held
pub record Unread (c : Command) (held : Holding) (before now : ℕ) (name : List ℕ) : Type 0 where
  pub named : IsAmong name (files_of c)
  pub cause : Rose before now ⊎ IsMissing held c name

-- the status and the text for words, over files whose count of faults rose or not
pub data Tells (words : List (List ℕ)) (held : Holding) (before now : ℕ) : ℕ → List ℕ → Type 0 where
  answer : (c : Command) (status : ℕ) (text : List ℕ) → Says words c → Answers held c status text →
      Tells words held before now status text
  no_command : ((c : Command) → Says words c → ⊥) → Tells words held before now 2 words_line
  -- memory ran out behind what the command begins with
  no_memory : (c : Command) (text : List ℕ) → Says words c → Begins held c text →
      Tells words held before now 5 (text ++ memory_line)
  not_read : (c : Command) (name : List ℕ) → Says words c → Unread c held before now name →
      Tells words held before now 6 (read_line name)

-- the text was written whole; or the sink, whose count of faults rose, failed and took a prefix
pub data Ends (words : List (List ℕ)) (held : Holding) (files_before files_now before now : ℕ)
    (old new : Option (List ℕ)) : ℕ → Type 0 where
  whole : (status : ℕ) (text : List ℕ) → Tells words held files_before files_now status text →
      new ≡ with_more old text → Ends words held files_before files_now before now old new status
  cut_short : (status : ℕ) (text : List ℕ) → Tells words held files_before files_now status text → Rose before now →
      TookPrefix old text new → Ends words held files_before files_now before now old new 7

-- What follows for the command that the words are.
module _ (words : List (List ℕ)) (held : Holding) (files_before files_now before now : ℕ)
    (old new : Option (List ℕ)) where
  -- its answer was written whole
  pub record Answered (status : ℕ) : Type 0 where
    pub command : Command
    pub text : List ℕ
    pub says : Says words command
    pub answers : Answers held command status text
    pub written : new ≡ with_more old text

  pub record EndsSo (status : ℕ) : Type 0 where
    -- each other status is that of an answer
    pub answered : status ≢ 2 → status ≢ 5 → status ≢ 6 → status ≢ 7 → Answered status
    -- 2 is for words that are no command, whatever the files are
    pub wrong_words : status ≡ 2 → (c : Command) → Says words c → ⊥
    pub no_command : ((c : Command) → Says words c → ⊥) → (status ≡ 2) ⊎ (status ≡ 7)
    -- a file that is absent is told
    pub absent : (c : Command) (name : List ℕ) → Says words c → IsMissing held c name →
        (status ≡ 6) ⊎ (status ≡ 5) ⊎ (status ≡ 7)
    -- with no fault, files that are held have their whole answer, or memory ran out
    pub complete : (c : Command) → Says words c → AreHeld held (files_of c) →
        (Rose files_before files_now → ⊥) → (Rose before now → ⊥) → (status ≡ 5) ⊎ Answered status

-- of each way to end
abbrev pub EachEndsSo : Type 0
EachEndsSo = (words : List (List ℕ)) (held : Holding) (files_before files_now before now : ℕ)
    (old new : Option (List ℕ)) (status : ℕ) →
    Ends words held files_before files_now before now old new status →
    EndsSo words held files_before files_now before now old new status

-- what is answered to a command: its answer, or that a file was not read
abbrev pub Replies : Command → Holding → (before now status : ℕ) → List ℕ → Type 0
Replies c held before now status text =
    Answers held c status text ⊎ ((status ≡ 6) ×
    ((name : List ℕ) × ((text ≡ read_line name) × Unread c held before now name)))

-- the text was written whole and the status is the answer, or the sink failed and took a prefix of
-- it
abbrev pub Finishes : ℕ → List ℕ → ℕ → ℕ → ℕ → Option (List ℕ) → Option (List ℕ) → Type 0
Finishes status text result before now old new =
    ((result ≡ status) × (new ≡ with_more old text)) ⊎
    ((result ≡ 7) × (Rose before now × TookPrefix old text new))
