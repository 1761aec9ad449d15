-- Which notes suit a code: those that bytes can spell.
use Rattle.std.specs.Prelude.{◌≡◌, ℕ, zero, suc, ◌<◌, ◌≤◌, ⊤, Bool, true, false, List, [], length}
use Rattle.std.specs.Prelude.{None, All, IfSome, slice_get}
use Rattle.std.specs.List.{AllZip}
use Rattle.verse_code.specs.declared.codes.Func.{Func}
use Rattle.verse_code.specs.declared.codes.Class.{Class}
use Rattle.verse_code.specs.declared.codes.Code.{Code}
use Rattle.verse_sorts.specs.Sorts as s
use Rattle.verse_sorts.specs.Sorts.{Sort, Sorts}
use Rattle.verse_verify_kept.specs.Notes.{ClassNote, FuncNote}
use Rattle.verse_verify_faults.specs.Spots.{Mark, Spot, Table}
use Rattle.verse_verify_faults.specs.Reading.{defers_in, locals_of}
use Rattle.verse_verify_bytes.specs.Bytes.{how_many}

-- of 32 bits
abbrev pub IsNumber : ℕ → Type 0
IsNumber n = n ≤ 4294967295

module _ (c : Code) where
  -- a sort of at most so many levels, with classes of the code
  abbrev mutual
    pub IsSort : (levels : ℕ) → Sort → Type 0
    IsSort zero a = ⊥
    IsSort (suc n) s.none = ⊤
    IsSort (suc n) s.any = ⊤
    IsSort (suc n) s.never = ⊤
    IsSort (suc n) s.unit = ⊤
    IsSort (suc n) s.nil = ⊤
    IsSort (suc n) s.int = ⊤
    IsSort (suc n) s.logic = ⊤
    IsSort (suc n) s.char = ⊤
    IsSort (suc n) s.span = ⊤
    IsSort (suc n) (s.enum e) = IsNumber e
    IsSort (suc n) (s.obj k) = k < length c.classes
    IsSort (suc n) (s.var a) = IsSort n a
    IsSort (suc n) (s.event a) = IsSort n a
    IsSort (suc n) (s.task a) = IsSort n a
    IsSort (suc n) (s.opt a) = IsSort n a
    IsSort (suc n) (s.list a) = IsSort n a
    IsSort (suc n) (s.map k a) = IsSort n k × IsSort n a
    IsSort (suc n) (s.tuple xs) = IsNumber (how_many xs) × AreSorts n xs

    pub AreSorts : (levels : ℕ) → Sorts → Type 0
    AreSorts n s.no_sorts = ⊤
    AreSorts n (s.more_sorts a xs) = IsSort n a × AreSorts n xs

  abbrev pub SuitsSort : Sort → Type 0
  SuitsSort a = IsSort 40 a

  -- so many sorts
  abbrev pub So_many : ℕ → List Sort → Type 0
  So_many n xs = (length xs ≡ n) × All SuitsSort xs

  pub record SuitsClass (k : Class) (x : ClassNote) : Type 0 where
    pub parent : IfSome x.parent (λ b. b < length c.classes)
    pub slots : So_many k.slots x.slots

  pub record SuitsFunction (f : Func) (g : FuncNote) : Type 0 where
    pub params : So_many f.params g.params
    pub result : SuitsSort g.result

  -- the index of an operation
  abbrev pub IsIndex : ℕ → Type 0
  IsIndex i = i < length c.ops

  -- a list whose length is a number
  abbrev pub Are : {A : Type 0} → (A → Type 0) → List A → Type 0
  Are P xs = IsNumber (length xs) × All P xs

  pub record SuitsMark (m : Mark) : Type 0 where
    pub index : IsIndex m.index
    pub height : IsNumber m.height

  -- what is told of deferred blocks
  pub record SuitsBlocks (p : Spot) : Type 0 where
    pub block : IfSome p.block IsIndex
    pub outer : Are IsIndex p.outer
    pub under : IsNumber p.under
    pub defers : Are IsIndex p.defers

  pub record HasNoBlocks (p : Spot) : Type 0 where
    pub block : p.block ≡ None
    pub outer : p.outer ≡ []
    pub under : p.under ≡ 0
    pub defers : p.defers ≡ []

  abbrev pub Blocks : Bool → Spot → Type 0
  Blocks true p = SuitsBlocks p
  Blocks false p = HasNoBlocks p

  pub record SuitsSpot (p : Spot) : Type 0 where
    pub func : p.func < length c.functions
    pub arm : IfSome p.arm SuitsSort
    pub locals : So_many (locals_of c (slice_get c.functions p.func)) p.locals
    pub stack : Are SuitsSort p.stack
    pub tries : Are SuitsMark p.tries
    pub blocks : Blocks (defers_in c c.ops) p

  -- one note for each class, function and operation
  pub record Suits (t : Table) : Type 0 where
    pub classes : AllZip SuitsClass c.classes t.classes
    pub functions : AllZip SuitsFunction c.functions t.functions
    pub spots : length t.spots ≡ length c.ops
    pub each_spot : All (λ p. IfSome p SuitsSpot) t.spots
