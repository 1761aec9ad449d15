-- Notes as bytes.
use Rattle.std.specs.Prelude.{ℕ, zero, suc, ◌+◌, ◌/◌, ◌%◌, nat_lt, List, [], ◌∷◌, ◌++◌, length}
use Rattle.std.specs.Prelude.{reverse, Option, Some, None, Bool, cond}
use Rattle.verse_code.specs.declared.codes.Code.{Code}
use Rattle.verse_image.specs.Format.{flag}
use Rattle.verse_sorts.specs.Sorts as s
use Rattle.verse_sorts.specs.Sorts.{Sort, Sorts}
use Rattle.verse_verify_kept.specs.Notes.{ClassNote, FuncNote}
use Rattle.verse_verify_faults.specs.Spots.{Mark, Spot, Table}
use Rattle.verse_verify_faults.specs.Reading.{mark, defers_in}

-- a number: seven bits a byte, the low ones first, and 128 more where others follow
abbrev pub digits : (most : ℕ) → ℕ → List ℕ
digits zero n = []
digits (suc most) n = cond (nat_lt n 128) (n ∷ []) ((128 + n % 128) ∷ digits most (n / 128))

-- ten bytes hold each number of 64 bits
abbrev pub number : ℕ → List ℕ
number n = digits 10 n

abbrev pub each : {A : Type 0} → (A → List ℕ) → List A → List ℕ
each f [] = []
each f (a ∷ xs) = f a ++ each f xs

-- how many, and each
abbrev pub counted : {A : Type 0} → (A → List ℕ) → List A → List ℕ
counted f xs = number (length xs) ++ each f xs

-- 0, or 1 and what is there
abbrev pub option : {A : Type 0} → (A → List ℕ) → Option A → List ℕ
option f None = 0 ∷ []
option f (Some a) = 1 ∷ f a

abbrev pub how_many : Sorts → ℕ
how_many s.no_sorts = 0
how_many (s.more_sorts a xs) = suc (how_many xs)

abbrev mutual
  pub sort : Sort → List ℕ
  sort s.none = 0 ∷ []
  sort s.any = 1 ∷ []
  sort s.never = 2 ∷ []
  sort s.unit = 3 ∷ []
  sort s.nil = 4 ∷ []
  sort s.int = 5 ∷ []
  sort s.logic = 6 ∷ []
  sort s.char = 7 ∷ []
  sort s.span = 8 ∷ []
  sort (s.enum e) = 9 ∷ number e
  sort (s.obj c) = 10 ∷ number c
  sort (s.var a) = 11 ∷ sort a
  sort (s.event a) = 12 ∷ sort a
  sort (s.task a) = 13 ∷ sort a
  sort (s.opt a) = 14 ∷ sort a
  sort (s.list a) = 15 ∷ sort a
  sort (s.map k a) = 16 ∷ sort k ++ sort a
  sort (s.tuple xs) = 17 ∷ number (how_many xs) ++ sorts xs

  pub sorts : Sorts → List ℕ
  sorts s.no_sorts = []
  sorts (s.more_sorts a xs) = sort a ++ sorts xs

abbrev pub parent : Option ℕ → List ℕ
parent None = 0 ∷ []
parent (Some b) = number (suc b)

abbrev pub class_note : ClassNote → List ℕ
class_note x = parent x.parent ++ each sort x.slots

abbrev pub func_note : FuncNote → List ℕ
func_note g = each sort g.params ++ sort g.result ++ flag g.may_fail ∷ flag g.may_wait ∷ []

abbrev pub open_try : Mark → List ℕ
open_try m = number m.index ++ number m.height

-- what a state tells of deferred blocks
abbrev pub blocks : Spot → List ℕ
blocks p = option number p.block ++ counted number p.outer ++ number p.under ++
    counted number p.defers

abbrev pub spot : (defers : Bool) → Spot → List ℕ
spot defers p = number p.func ++ option sort p.arm ++ each sort p.locals ++
    counted sort (reverse p.stack) ++
    counted open_try (reverse p.tries) ++ cond defers (blocks p) []

abbrev pub bytes_of : Code → Table → List ℕ
bytes_of c t = mark c ++ each class_note t.classes ++ each func_note t.functions ++
    each (option (spot (defers_in c c.ops))) t.spots
