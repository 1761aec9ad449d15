-- The notes of a whole program.
use Rattle.std.proofs.Common.{◌≡◌, ℕ, zero, suc, ◌+◌, ◌<◌, ◌≤◌, List, [], ◌∷◌, ◌++◌, length, map, Bool}
use Rattle.std.proofs.Common.{true, false, cond, nat_lt, Option, Some, None, refl, sym, ap, ◌∙◌, arith}
use Rattle.std.proofs.lemmas.Bool.{lt-ltb, le-ltb}
use Rattle.std.proofs.lemmas.List.{length-append}
use Rattle.verse_tree.specs.ItemTree.{MemberTree, field, method, ItemTree, using, enumeration, class, function}
use Rattle.verse_tree.specs.ItemView.{item_of}
use Rattle.verse_tree.specs.declared.programs.Program.{Program}
use Rattle.verse_code.specs.declared.codes.Code.{Code}
use Rattle.verse_meaning.specs.Programs.{program_of}
use Rattle.verse_verify_kept.specs.Notes.{ClassNote, FuncNote}
use Rattle.verse_verify_faults.specs.Spots.{Table, Spot}
use Rattle.lower_code.specs.Defaults.{defaults_in}
use Rattle.lower_code.specs.Programs.{Body, all_bodies, bodies_in, methods_in, default_bodies}
use Rattle.lower_lookup.specs.Types.{differ_of}
use Rattle.lower_notes.specs.Programs.{signed, declared, class_notes, notes_of}
use Rattle.note_sorts.specs.Owning.{owners, owners_from, members_owners, classes_behind}
use Rattle.note_sorts.specs.Tabled.{found_of}
use Rattle.note_stretches.specs.Noted.{Noted, empty, walked}
use Rattle.verse_note.specs.Making.{default_note, all_notes, note_of, notes_from, bodies_walk}

-- so many methods and functions have classes as there are
methods_counted : (c : ℕ) (ms : List MemberTree) → length (members_owners c ms) ≡ length (methods_in ms)
methods_counted c [] = refl
methods_counted c (field f ∷ ms) = methods_counted c ms
methods_counted c (method f ∷ ms) = ap suc (methods_counted c ms)

counted_from : (c : ℕ) (is : List ItemTree) → length (owners_from c is) ≡ length (bodies_in is)
counted_from c [] = refl
counted_from c (using u ∷ is) = counted_from c is
counted_from c (enumeration e ∷ is) = counted_from c is
counted_from c (class k ∷ is) = omega (
  arith,
  length-append (members_owners c k.members) (owners_from (c + 1) is),
  length-append (methods_in k.members) (bodies_in is),
  methods_counted c k.members,
  counted_from (c + 1) is,
)
counted_from c (function f ∷ is) = ap suc (counted_from c is)

none_before : (n : ℕ) → 0 + n ≡ n
none_before n = omega arith

module _ (p : Program) (code : Code) where
  -- behind the functions of the program stand the defaults of fields
  defaults_from : (count k : ℕ) (bs : List Body) → count ≤ k →
      notes_from p code count k bs ≡ map (default_note p code) bs
  defaults_from count k [] h = refl
  defaults_from count k (b ∷ bs) h =
      ap (λ t. cond t (signed ((found_of p).signature k)) (default_note p code b) ∷ notes_from p code count (suc k) bs)
      (le-ltb k count h)
      ∙ ap (λ ns. default_note p code b ∷ ns) (defaults_from count (suc k) bs (omega (arith, h)))

  functions_from : (count k : ℕ) (bs ds : List Body) → k + length bs ≡ count →
      notes_from p code count k (bs ++ ds) ≡ declared (found_of p) k bs ++ map (default_note p code) ds
  functions_from count k [] ds h = defaults_from count k ds (omega (arith, h))
  functions_from count k (b ∷ bs) ds h =
      ap (λ t. cond t (signed ((found_of p).signature k)) (default_note p code b)
      ∷ notes_from p code count (suc k) (bs ++ ds)) (lt-ltb k count (omega (arith, h)))
      ∙ ap (λ ns. signed ((found_of p).signature k) ∷ ns) (functions_from count (suc k) bs ds (omega (arith, h)))

  abbrev items : List ItemTree
  items = map item_of p.tree.items

  all_are : notes_from p code (length (owners items)) 0 (all_bodies items) ≡ all_notes p code
  all_are =
      functions_from (length (owners items)) 0 (bodies_in items) (default_bodies (defaults_in items))
      (none_before (length (bodies_in items)) ∙ sym (counted_from 0 items))

  -- the notes of a program's functions, by their bodies
  pub functions_done : (bs : List Body) (os : List (Option ℕ)) (fs : List FuncNote) → bs ≡ all_bodies items →
      os ≡ owners items → fs ≡ notes_from p code (length os) 0 bs → fs ≡ all_notes p code
  functions_done bs os fs e1 e2 e3 =
      e3 ∙ ap (λ k. notes_from p code (length k) 0 bs) e2 ∙ ap (notes_from p code (length (owners items)) 0) e1 ∙ all_are

  spots_are : (walked (bodies_walk p code 0 (all_bodies items)) empty).spots ≡
      (notes_of (program_of p) (found_of p) (differ_of p) code).spots
  unfolding walked
  spots_are = refl

  -- and of the whole program
  pub whole_done : (bs : List Body) (cs : List ClassNote) (fs : List FuncNote) (spots : List (Option Spot))
      (all : Noted) → bs ≡ all_bodies items → cs ≡ class_notes (found_of p) 0 p.names.classes → fs ≡ all_notes p code →
      all ≡ walked (bodies_walk p code 0 bs) empty → spots ≡ all.spots →
      record { classes = cs; functions = fs; spots = spots } ≡ notes_of (program_of p) (found_of p) (differ_of p) code
  whole_done bs cs fs spots all e1 e2 e3 e4 e5 =
      let there : Table = notes_of (program_of p) (found_of p) (differ_of p) code in
      let noted : spots ≡ there.spots =
      e5 ∙ ap (λ x. x.spots) (e4 ∙ ap (λ k. walked (bodies_walk p code 0 k) empty) e1) ∙ spots_are in
      ap (λ k. record { classes = k; functions = fs; spots = spots }) e2
      ∙ ap (λ k. record { classes = there.classes; functions = k; spots = spots }) e3
      ∙ ap (λ k. record { classes = there.classes; functions = there.functions; spots = k }) noted
