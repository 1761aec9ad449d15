-- The frames of a task in the machine's definition, and what holds of them between two operations.
use Rattle.std.specs.Prelude.{◌≡◌, ◌≢◌, ◌⊎◌, ℕ, List, [], ◌∷◌, Bool, true, false}
use Rattle.verse_code_machine.specs.Tasks.{Note, to, gone, Handler, Frame, Who, Thread, thread}
use Rattle.vm_frames.specs.Framed.{Framed}
use Rattle.vm_frames.specs.Machine.{frames_with, all_free, no_frame}

abbrev pub parted : List Frame → Frame × List Frame
parted [] = (no_frame, [])
parted (f ∷ fs) = (f, fs)

-- of a task without handlers: the top one, and those below it
abbrev pub frames_in : List Framed → Frame × List Frame
frames_in fs = parted (frames_with fs [])

abbrev pub threaded : Who → List Framed → Thread
threaded w fs = thread w (frames_in fs).0 (frames_in fs).1

-- the steps that were left when the bottom frame began
abbrev pub birth : List Framed → ℕ
birth [] = 0
birth (f ∷ []) = f.born
birth (f ∷ g ∷ fs) = birth (g ∷ fs)

abbrev pub birth_of : List Frame → ℕ
birth_of [] = 0
birth_of (f ∷ []) = f.life.born
birth_of (f ∷ g ∷ fs) = birth_of (g ∷ fs)

-- a task that is suspended has frames, without handlers and noted places
pub record Unguarded (fs : List Framed) : Type 0 where
  pub some : fs ≢ []
  pub free : all_free (frames_with fs []) ≡ true

-- and it began with its bottom frame
pub record Suspended (number : ℕ) (fs : List Framed) : Type 0 where
  pub unguarded : Unguarded fs
  pub began : birth fs ≡ number

abbrev pub AllUnguarded : List (List Framed) → Type 0
AllUnguarded [] = Unit {0}
AllUnguarded (fs ∷ fss) = Unguarded fs × AllUnguarded fss

-- no place is noted for a frame that is being cancelled
abbrev pub NotGone : List Note → Type 0
NotGone [] = Unit {0}
NotGone (to q ∷ ns) = NotGone ns
NotGone (gone ∷ ns) = ⊥

-- the first that was noted, and that one alone, is for a frame that is being cancelled
abbrev pub GoneFirst : List Note → Type 0
GoneFirst [] = ⊥
GoneFirst (to q ∷ ns) = GoneFirst ns
GoneFirst (gone ∷ ns) = ns ≡ []

abbrev pub EachKeeps : (List Note → Type 0) → List Handler → Type 0
EachKeeps P [] = Unit {0}
EachKeeps P (h ∷ hs) = P h.life.noted × EachKeeps P hs

abbrev pub Noted : (List Note → Type 0) → Frame → Type 0
Noted P f = P f.life.noted × EachKeeps P f.handlers

abbrev pub NoneGone : List Frame → Type 0
NoneGone [] = Unit {0}
NoneGone (f ∷ fs) = Noted NotGone f × NoneGone fs

-- one of the frames is being cancelled, and those below it have neither handlers nor noted places
abbrev pub Closing : List Frame → Type 0
Closing [] = ⊥
Closing (f ∷ fs) = (Noted GoneFirst f × (all_free fs ≡ true)) ⊎ (Noted NotGone f × Closing fs)

abbrev pub holds : List Handler → List Note → Bool → Bool
holds (h ∷ hs) ns rest = true
holds [] (n ∷ ns) rest = true
holds [] [] rest = rest

-- one of the frames has a handler or a noted place
abbrev pub is_guarded : List Frame → Bool
is_guarded [] = false
is_guarded (f ∷ fs) = holds f.handlers f.life.noted (is_guarded fs)

-- of the births of all frames above one that has a handler or a noted place
abbrev pub AllAbove : (ℕ → Type 0) → List Frame → Type 0
AllAbove P [] = Unit {0}
AllAbove P (f ∷ fs) = (is_guarded fs ≡ true → P f.life.born) × AllAbove P fs
