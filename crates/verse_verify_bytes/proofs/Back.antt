-- Notes that are written are read.
use Rattle.std.proofs.Common.{◌≡◌, ℕ, suc, ◌<◌, Bool, true, false, cond, List, [], ◌∷◌, ◌++◌, length, All, Ok, refl, sym, ap, subst}
use Rattle.std.proofs.Common.{◌∙◌, append_assoc, arith}
use Rattle.std.proofs.lemmas.List.{append-nil, length-reverse, reverse-reverse}
use Rattle.std.proofs.lemmas.List.Elements.{All-weaker}
use Rattle.std.proofs.lemmas.Option.{IfSome_then}
use Rattle.std.specs.Prelude.{Option, Some, None, IfSome, reverse, nat_lt, slice_get}
use Rattle.std.specs.List.{AllZip}
use Rattle.verse_code.specs.declared.operations.Op.{Op}
use Rattle.verse_code.specs.declared.codes.Func.{Func}
use Rattle.verse_code.specs.declared.codes.Class.{Class}
use Rattle.verse_code.specs.declared.codes.Code.{Code}
use Rattle.verse_code.specs.Validity.{Valid}
use Rattle.verse_image.specs.Format.{flag}
use Rattle.verse_image.specs.Reading.{many_at}
use Rattle.verse_sorts.specs.Sorts.{Sort}
use Rattle.verse_verify_kept.specs.Notes.{ClassNote, FuncNote}
use Rattle.verse_verify_faults.specs.Spots.{Mark, Spot}
use Rattle.verse_verify_faults.specs.Reading.{sort_at, class_at, func_at, op_index, mark_at, with_block, spot_from, defers_in, locals_of}
use Rattle.verse_verify_faults.specs.Reading.{option_at, list_at, spots_at}
use Rattle.verse_verify_bytes.specs.Bytes.{number, each, counted, option, sort, parent, class_note, func_note, open_try, blocks, spot}
use Rattle.verse_verify_bytes.specs.Suits.{IsNumber, SuitsSort, So_many, SuitsClass, SuitsFunction, IsIndex, Are, SuitsMark, Blocks}
use Rattle.verse_verify_bytes.specs.Suits.{HasNoBlocks, SuitsSpot}
use Rattle.verse_verify_bytes.specs.Laws.{WrittenIsRead}
use Rattle.verse_verify_bytes.proofs.Numbers.{number_back, below_back, byte_back, flag_back}
use Rattle.verse_verify_bytes.proofs.Lists.{Back, so_many_back, list_back, option_back, all_reversed, alike, each_back}
use Rattle.verse_verify_bytes.proofs.Sorts.{sort_back}

flag_is : (t : Bool) → nat_lt 0 (flag t) ≡ t
flag_is true = refl
flag_is false = refl

-- pieces, one after the other
three : (a p q rest : List ℕ) → a ++ p ++ q ++ rest ≡ a ++ (p ++ (q ++ rest))
three a p q rest = append_assoc (a ++ p) q rest ∙ append_assoc a p (q ++ rest)

four : (a p q d rest : List ℕ) → a ++ p ++ q ++ d ++ rest ≡ a ++ (p ++ (q ++ (d ++ rest)))
four a p q d rest = append_assoc (a ++ p ++ q) d rest ∙ three a p q (d ++ rest)

six : (a p q d e f rest : List ℕ) → a ++ p ++ q ++ d ++ e ++ f ++ rest ≡ a ++ (p ++ (q ++ (d ++ (e ++ (f ++ rest)))))
six a p q d e f rest =
    append_assoc (a ++ p ++ q ++ d ++ e) f rest ∙ append_assoc (a ++ p ++ q ++ d) e (f ++ rest) ∙ four a p q d (e ++ (f ++ rest))

module _ (c : Code) (valid : Valid c) where
  a_sort : (a : Sort) → SuitsSort c a → Back (sort_at c) sort a
  a_sort a h = sort_back c valid 40 a h

  sorts_so : (n : ℕ) (xs : List Sort) (rest : List ℕ) → So_many c n xs → many_at (sort_at c) n (each sort xs ++ rest) ≡ Ok (xs, rest)
  sorts_so n xs rest h = so_many_back (sort_at c) sort n xs rest h.0 (All-weaker (SuitsSort c) (Back (sort_at c) sort) a_sort xs h.1)

  -- ---- classes and functions

  class_of : (k : Class) (o : Option ℕ) (xs : List Sort) (rest : List ℕ) → IfSome o (λ p. p < length c.classes) → So_many c k.slots xs →
      class_at c k (parent o ++ each sort xs ++ rest) ≡ Ok (record { parent = o; slots = xs }, rest)
  class_of k None xs rest h m = rw (
    byte_back (suc (length c.classes)) 0 (each sort xs ++ rest) (omega arith) (omega arith),
    sorts_so k.slots xs rest m,
  ) refl
  class_of k (Some p) xs rest h m =
      rw (
        append_assoc (number (suc p)) (each sort xs) rest,
        below_back (suc (length c.classes)) (suc p) (each sort xs ++ rest) (omega (arith, h, valid.counts.classes)) (omega (arith, h)),
        sorts_so k.slots xs rest m,
      ) refl

  class_back : (k : Class) (x : ClassNote) → SuitsClass c k x → Back (class_at c k) class_note x
  class_back k x h rest = class_of k x.parent x.slots rest h.parent h.slots

  func_back : (f : Func) (g : FuncNote) → SuitsFunction c f g → Back (func_at c f) func_note g
  func_back f g h rest =
      let fails : List ℕ = flag g.may_fail ∷ flag g.may_wait ∷ rest in
      rw (
        three (each sort g.params) (sort g.result) (flag g.may_fail ∷ flag g.may_wait ∷ []) rest,
        sorts_so f.params g.params (sort g.result ++ fails) h.params,
        a_sort g.result h.result fails,
        flag_back g.may_fail (flag g.may_wait ∷ rest),
        flag_back g.may_wait rest,
        flag_is g.may_fail,
        flag_is g.may_wait,
      ) refl

  -- ---- states

  index_back : (i : ℕ) → IsIndex c i → Back (op_index c) number i
  index_back i h rest = below_back (length c.ops) i rest (omega (arith, h, valid.counts.ops.1)) h

  mark_back : (m : Mark) → SuitsMark c m → Back (mark_at c) open_try m
  mark_back m h rest =
      rw (
        append_assoc (number m.index) (number m.height) rest,
        index_back m.index h.index (number m.height ++ rest),
        number_back m.height rest h.height,
      ) refl

  indices_back : (xs : List ℕ) (rest : List ℕ) → Are c (IsIndex c) xs → list_at (op_index c) (counted number xs ++ rest) ≡ Ok (xs, rest)
  indices_back xs rest h =
      list_back (op_index c) number xs rest h.0 (All-weaker (IsIndex c) (Back (op_index c) number) index_back xs h.1)

  -- the last is written first
  abbrev Reversed : {A : Type 0} → (A → Type 0) → List A → Type 0
  Reversed P xs = IsNumber (length (reverse xs)) × All P (reverse xs)

  turned : {A : Type 0} (P : A → Type 0) (xs : List A) → Are c P xs → Reversed P xs
  turned P xs h = (omega (arith, length-reverse xs, h.0), all_reversed P xs h.1)

  same_bare : (p : Spot) → HasNoBlocks c p → record p { block = None; outer = []; under = 0; defers = [] } ≡ p
  same_bare p h =
      ap (λ (o : Option ℕ). record p { block = o; outer = []; under = 0; defers = [] }) (sym h.block) ∙
      ap (λ (xs : List ℕ). record p { outer = xs; under = 0; defers = [] }) (sym h.outer) ∙
      ap (λ (n : ℕ). record p { under = n; defers = [] }) (sym h.under) ∙
      ap (λ (xs : List ℕ). record p { defers = xs }) (sym h.defers)

  blocks_back : (told : Bool) (p : Spot) (rest : List ℕ) → Blocks c told p →
      with_block c told (record p { block = None; outer = []; under = 0; defers = [] }) (cond told (blocks p) [] ++ rest) ≡ Ok (p, rest)
  blocks_back false p rest h = ap (λ (q : Spot). Ok (q, rest)) (same_bare p h)
  blocks_back true p rest h =
      rw (
        four (option number p.block) (counted number p.outer) (number p.under) (counted number p.defers) rest,
        option_back (op_index c) number p.block (counted number p.outer ++ (number p.under ++ (counted number p.defers ++ rest)))
            (IfSome_then p.block h.block index_back),
        indices_back p.outer (number p.under ++ (counted number p.defers ++ rest)) h.outer,
        number_back p.under (counted number p.defers ++ rest) h.under,
        indices_back p.defers rest h.defers,
      ) refl

  spot_of : (told : Bool) (p : Spot) → SuitsSpot c p → Blocks c told p → Back (spot_from c told) (spot told) p
  spot_of told p h told_so rest =
      let last : List ℕ = cond told (blocks p) [] ++ rest in
      let marks : List ℕ = counted open_try (reverse p.tries) ++ last in
      let stack : List ℕ = counted sort (reverse p.stack) ++ marks in
      let locals : List ℕ = each sort p.locals ++ stack in
      let operands = turned (SuitsSort c) p.stack h.stack in
      let trys = turned (SuitsMark c) p.tries h.tries in
      rw (
        six (number p.func) (option sort p.arm) (each sort p.locals) (counted sort (reverse p.stack))
            (counted open_try (reverse p.tries)) (cond told (blocks p) []) rest,
        below_back (length c.functions) p.func (option sort p.arm ++ locals) (omega (arith, h.func, valid.counts.functions)) h.func,
        option_back (sort_at c) sort p.arm locals (IfSome_then p.arm h.arm a_sort),
        sorts_so (locals_of c (slice_get c.functions p.func)) p.locals stack h.locals,
        list_back (sort_at c) sort (reverse p.stack) marks operands.0
            (All-weaker (SuitsSort c) (Back (sort_at c) sort) a_sort (reverse p.stack) operands.1),
        list_back (mark_at c) open_try (reverse p.tries) last trys.0
            (All-weaker (SuitsMark c) (Back (mark_at c) open_try) mark_back (reverse p.tries) trys.1),
        reverse-reverse p.stack,
        reverse-reverse p.tries,
      )
      (blocks_back told p rest told_so)

  abbrev told : Bool
  told = defers_in c c.ops

  abbrev spot_bytes : Option Spot → List ℕ
  spot_bytes = option (spot told)

  maybe_spot : (o : Option Spot) → IfSome o (SuitsSpot c) → Back (option_at (spot_from c told)) spot_bytes o
  maybe_spot o h rest =
      option_back (spot_from c told) (spot told) o rest (IfSome_then o h (λ p s. spot_of told p s s.blocks))

  -- ---- the whole

  zipped : {A K : Type 0} (P Q : K → A → Type 0) (ks : List K) (xs : List A) → ((k : K) (x : A) → P k x → Q k x) → AllZip P ks xs →
      AllZip Q ks xs
  zipped P Q [] [] so h = tt
  zipped P Q [] (x ∷ xs) so h = elim h [ ]
  zipped P Q (k ∷ ks) [] so h = elim h [ ]
  zipped P Q (k ∷ ks) (x ∷ xs) so h = (so k x h.0, zipped P Q ks xs so h.1)

  spots_back : (ps : List (Option Spot)) → length ps ≡ length c.ops → All (λ p. IfSome p (SuitsSpot c)) ps →
      spots_at c c.ops (each spot_bytes ps) ≡ Ok (ps, [])
  spots_back ps e h =
      subst (λ (w : List ℕ). spots_at c c.ops w ≡ Ok (ps, [])) (append-nil (each spot_bytes ps))
      (each_back c (λ (op : Op). option_at (spot_from c told)) spot_bytes c.ops ps []
      (alike (Back (option_at (spot_from c told)) spot_bytes) c.ops ps e
      (All-weaker (λ p. IfSome p (SuitsSpot c)) (Back (option_at (spot_from c told)) spot_bytes) maybe_spot ps h)))

pub written : WrittenIsRead
written c t valid h =
    let spots : List ℕ = each (option (spot (defers_in c c.ops))) t.spots in
    let functions : List ℕ = each func_note t.functions ++ spots in
    rw (
      append_assoc (each class_note t.classes) (each func_note t.functions) spots,
      each_back c (class_at c) class_note c.classes t.classes functions
          (zipped c valid (SuitsClass c) (λ k. Back (class_at c k) class_note) c.classes t.classes (class_back c valid) h.classes),
      each_back c (func_at c) func_note c.functions t.functions spots
          (zipped c valid (SuitsFunction c) (λ f. Back (func_at c f) func_note) c.functions t.functions (func_back c valid) h.functions),
      spots_back c valid t.spots h.spots h.each_spot,
    ) refl
