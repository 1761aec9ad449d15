-- A code is read from its listing.
use Rattle.std.proofs.Common.{◌≡◌, ℕ, suc, ◌+◌, ◌<◌, ◌≤◌, true, false, ltb, List, [], ◌∷◌, ◌++◌, map, length, codes}
use Rattle.std.proofs.Common.{Some, None, slice_get, Ok, refl, sym, ap, subst, ◌∙◌, append_assoc, arith}
use Rattle.std.specs.List.{AllByRecursion}
use Rattle.std.proofs.lemmas.Bool.{lt-ltb, le-ltb}
use Rattle.std.proofs.lemmas.List.{append-nil, length-append, map-append}
use Rattle.std.proofs.lemmas.List.Elements.{recursion_from_All}
use Rattle.std.proofs.lemmas.Option.{slice_get_within}
use Rattle.verse_base.specs.declared.places.Place.{Place}
use Rattle.verse_code.specs.declared.operations.Op.{Op}
use Rattle.verse_code.specs.declared.codes.Func.{Func}
use Rattle.verse_code.specs.declared.codes.Class.{Class}
use Rattle.verse_code.specs.declared.codes.Code.{Code}
use Rattle.verse_code.specs.declared.validity.Sizes.{Sizes}
use Rattle.verse_code.specs.Operations.{operands_of}
use Rattle.verse_code.specs.Validity.{IsText, IsPlace, IsFunction, IsClass, all_suit, sizes_of, Valid}
use Rattle.verse_listing_format.specs.Format.{Line, files_line, ops_line, text_line, place_line, function_line, class_line, main_line}
use Rattle.verse_listing_format.specs.Format.{op_line, op_lines, table_lines, lines, spaced, AreBytes, IsSizedPlace, IsNumber}
use Rattle.verse_listing_format.specs.Format.{AreSized, IsSized, Listing}
use Rattle.verse_listing_lines.specs.declared.tables.Tables.{Tables}
use Rattle.verse_listing_lines.specs.Lines.{Pieces, pieces, words, no_tables, sizes_with, Told, table_line_of}
use Rattle.verse_listing.specs.Reading.{Stage, first, second, among_tables, among_operations, stage_with, step, code_with, ended}
use Rattle.verse_listing.specs.Reading.{on_line, read_lines, listing_at}
use Rattle.verse_listing.proofs.WordLaws.{AreSolid, SolidLines, words_spaced, lines_cut, solid_decimal}
use Rattle.verse_listing.proofs.WordLaws.{solid_numbers, solid_hex, solid_by_test, solid_name}
use Rattle.verse_listing.proofs.LineLaws.{natural_words, place_numbers, place_fits, function_numbers, function_fits, class_numbers}
use Rattle.verse_listing.proofs.LineLaws.{IsReadClass, class_fits}
use Rattle.verse_listing.proofs.OperationLaws.{operand_numbers, operand_words, operands_fit, op_again}
use Rattle.verse_listing.proofs.TableLines.{files_again, ops_again, text_taken, place_taken, function_taken, class_taken, main_taken}
use Rattle.verse_listing.proofs.StageLaws.{IsReadText, IsReadPlace, SuitFrom}

-- ---- entries

both_all : {A : Type 0} (P Q : A → Type 0) (xs : List A) → AllByRecursion P xs → AllByRecursion Q xs → AllByRecursion (λ x. P x × Q x) xs
both_all P Q [] p q = tt
both_all P Q (x ∷ xs) p q = ((p.0, q.0), both_all P Q xs p.1 q.1)

each_map : {A : Type 0} (P Q : A → Type 0) (xs : List A) → ((x : A) → P x → Q x) → AllByRecursion P xs → AllByRecursion Q xs
each_map P Q [] f h = tt
each_map P Q (x ∷ xs) f h = (f x h.0, each_map P Q xs f h.1)

-- ---- the words of lines are solid

-- a line has words, and they are solid
abbrev IsLine : Line → Type 0
IsLine [] = ⊥
IsLine (w ∷ ws) = AreSolid (w ∷ ws)

line_words : (line : Line) → IsLine line → words (spaced line) ≡ line
line_words [] h = absurd h
line_words (w ∷ ws) h = words_spaced w ws h

is_solid_line : (line : Line) → IsLine line → AreSolid line
is_solid_line [] h = absurd h
is_solid_line (w ∷ ws) h = h

files_solid : (n : ℕ) → n ≤ 16 → IsLine (files_line n)
files_solid n le = (solid_by_test (codes "files") refl, (solid_decimal n (omega arith), tt))

ops_solid : (n : ℕ) → n ≤ 16777216 → IsLine (ops_line n)
ops_solid n le = (solid_by_test (codes "ops") refl, (solid_decimal n (omega arith), tt))

text_solid : (text : List ℕ) → IsLine (text_line text)
text_solid [] = (solid_by_test (codes "text") refl, tt)
text_solid (b ∷ bytes) = (solid_by_test (codes "text") refl, (solid_hex (b ∷ bytes), tt))

place_solid : (files : ℕ) (p : Place) → files ≤ 16 → IsReadPlace files p → IsLine (place_line p)
place_solid files p le h = (solid_by_test (codes "place") refl, solid_numbers (place_numbers p) (place_fits files p le h.0 h.1))

function_solid : (ops : ℕ) (f : Func) → ops ≤ 16777216 → IsFunction ops f → IsLine (function_line f)
function_solid ops f le h = (solid_by_test (codes "func") refl, solid_numbers (function_numbers f) (function_fits ops f le h))

class_solid : (functions : ℕ) (c : Class) → functions ≤ 4294967295 → IsReadClass functions c → IsLine (class_line c)
class_solid functions c le h =
    let words = solid_numbers (class_numbers c) (class_fits functions c le h) in
    (solid_by_test (codes "class") refl, (words.0, subst AreSolid (natural_words c.methods) words.1))

main_solid : (main : ℕ) → main < 4294967296 → IsLine (main_line main)
main_solid main lt = (solid_by_test (codes "main") refl, (solid_decimal main (omega arith), tt))

op_solid : (at : ℕ) (op : Op) → at < 16777216 → AreSized (operands_of op) → IsLine (op_line at op)
op_solid at op lt h = (
  solid_decimal at (omega arith),
  (
    solid_name op,
    subst AreSolid (sym (operand_words (operands_of op)))
        (solid_numbers (operand_numbers (operands_of op)) (operands_fit (operands_of op) h)),
  ),
)

-- ---- one line after the other

one_step : (s next : Stage) (n : ℕ) (line : List ℕ) (rest : List (List ℕ)) (last : List ℕ) (code : Code) → step s line ≡ Ok next →
    read_lines next (suc n) rest last ≡ Ok code → read_lines s n (line ∷ rest) last ≡ Ok code
unfolding read_lines
one_step s next n line rest last code e h = ap (λ r. on_line n r (λ next. read_lines next (suc n) rest last)) e ∙ h

-- a line is read where the lines before it are
abbrev CanAll : {A : Type 0} → (List A → A → Type 0) → List A → List A → Type 0
CanAll Can done [] = Unit {0}
CanAll Can done (x ∷ xs) = Can done x × CanAll Can (done ++ x ∷ []) xs

runs : {A : Type 0} (line : A → Line) (stage : List A → Stage) (Can : List A → A → Type 0) (rest : List (List ℕ)) (last : List ℕ)
    (code : Code) → ((done : List A) (x : A) → Can done x → step (stage done) (spaced (line x)) ≡ Ok (stage (done ++ x ∷ []))) →
    (done xs : List A) → CanAll Can done xs → ((n : ℕ) → read_lines (stage (done ++ xs)) n rest last ≡ Ok code) → (n : ℕ) →
    read_lines (stage done) n (map spaced (map line xs) ++ rest) last ≡ Ok code
runs line stage Can rest last code taken done [] c h n =
    subst (λ k. read_lines (stage k) n rest last ≡ Ok code) (append-nil done) (h n)
runs {A} line stage Can rest last code taken done (x ∷ xs) c h n =
    one_step (stage done) (stage (done ++ x ∷ [])) n (spaced (line x)) (map spaced (map line xs) ++ rest) last code (taken done x c.0)
    (runs line stage Can rest last code taken (done ++ x ∷ []) xs c.1
    (λ m. subst (λ (k : List A). read_lines (stage k) m rest last ≡ Ok code) (sym (append_assoc done (x ∷ []) xs)) (h m)) (suc n))

-- an entry keeps its rules, and a table has room
abbrev Room : {A : Type 0} → (A → Type 0) → List A → A → Type 0
Room P done x = P x × (length done < 4294967295)

can_all : {A : Type 0} (P : A → Type 0) (done xs : List A) → AllByRecursion P xs → length done + length xs ≤ 4294967295 →
    CanAll (Room P) done xs
can_all P done [] h le = tt
can_all P done (x ∷ xs) h le =
    ((h.0, omega arith), can_all P (done ++ x ∷ []) xs h.1 (omega (arith, length-append done (x ∷ []))))

table_step : (files ops : ℕ) (t : Tables) (line : Line) (x : Told) → IsLine line → table_line_of files ops t line ≡ Ok x →
    step (among_tables files ops t) (spaced line) ≡ Ok (stage_with files ops x)
unfolding step
table_step files ops t line x h e = rw (line_words line h, e) refl

-- ---- the tables

abbrev tables_of : List (List ℕ) → List Place → List Func → List Class → Tables
tables_of texts places functions classes = record { texts = texts; places = places; functions = functions; classes = classes }

-- what is left of a listing is read from a stage on
abbrev Gives : Stage → List (List ℕ) → Code → Type 0
Gives stage rest code = (n : ℕ) → read_lines stage n rest [] ≡ Ok code

text_run : (files ops : ℕ) (texts : List (List ℕ)) (rest : List (List ℕ)) (code : Code) → AllByRecursion IsReadText texts →
    length texts ≤ 4294967295 → Gives (among_tables files ops (tables_of texts [] [] [])) rest code →
    Gives (among_tables files ops (tables_of [] [] [] [])) (map spaced (map text_line texts) ++ rest) code
text_run files ops texts rest code h few go =
    runs text_line (λ done. among_tables files ops (tables_of done [] [] [])) (Room IsReadText) rest [] code
    (λ done x c. table_step files ops (tables_of done [] [] []) (text_line x) (tables_of (done ++ x ∷ []) [] [] [], None) (text_solid x)
    (text_taken files ops (tables_of done [] [] []) x refl c.0 c.1)) [] texts (can_all IsReadText [] texts h (omega arith)) go

place_run : (files ops : ℕ) (texts : List (List ℕ)) (places : List Place) (rest : List (List ℕ)) (code : Code) → files ≤ 16 →
    AllByRecursion (IsReadPlace files) places → length places ≤ 4294967295 →
    Gives (among_tables files ops (tables_of texts places [] [])) rest code →
    Gives (among_tables files ops (tables_of texts [] [] [])) (map spaced (map place_line places) ++ rest) code
place_run files ops texts places rest code le h few go =
    runs place_line (λ done. among_tables files ops (tables_of texts done [] [])) (Room (IsReadPlace files)) rest [] code
    (λ done x c. table_step files ops (tables_of texts done [] []) (place_line x) (tables_of texts (done ++ x ∷ []) [] [], None)
    (place_solid files x le c.0) (place_taken files ops (tables_of texts done [] []) x refl le c.0 c.1))
    [] places (can_all (IsReadPlace files) [] places h (omega arith)) go

function_run : (files ops : ℕ) (texts : List (List ℕ)) (places : List Place) (functions : List Func) (rest : List (List ℕ)) (code : Code) →
    ops ≤ 16777216 → AllByRecursion (IsFunction ops) functions → length functions ≤ 4294967295 →
    Gives (among_tables files ops (tables_of texts places functions [])) rest code →
    Gives (among_tables files ops (tables_of texts places [] [])) (map spaced (map function_line functions) ++ rest) code
function_run files ops texts places functions rest code le h few go =
    runs function_line (λ done. among_tables files ops (tables_of texts places done [])) (Room (IsFunction ops)) rest [] code
    (λ done x c. table_step files ops (tables_of texts places done []) (function_line x) (tables_of texts places (done ++ x ∷ []) [], None)
    (function_solid ops x le c.0) (function_taken files ops (tables_of texts places done []) x refl le c.0 c.1))
    [] functions (can_all (IsFunction ops) [] functions h (omega arith)) go

class_run : (files ops : ℕ) (texts : List (List ℕ)) (places : List Place) (functions : List Func) (classes : List Class)
    (rest : List (List ℕ)) (code : Code) → length functions ≤ 4294967295 → AllByRecursion (IsReadClass (length functions)) classes →
    length classes ≤ 4294967295 → Gives (among_tables files ops (tables_of texts places functions classes)) rest code →
    Gives (among_tables files ops (tables_of texts places functions [])) (map spaced (map class_line classes) ++ rest) code
class_run files ops texts places functions classes rest code le h few go =
    runs class_line (λ done. among_tables files ops (tables_of texts places functions done)) (Room (IsReadClass (length functions))) rest []
    code
    (λ done x c. table_step files ops (tables_of texts places functions done) (class_line x)
    (tables_of texts places functions (done ++ x ∷ []), None) (class_solid (length functions) x le c.0)
    (class_taken files ops (tables_of texts places functions done) x le c.0 c.1))
    [] classes (can_all (IsReadClass (length functions)) [] classes h (omega arith)) go

-- ---- the operations

op_step : (files ops : ℕ) (t : Tables) (main : ℕ) (done : List Op) (op : Op) → length done < ops → ops ≤ 16777216 →
    AreSized (operands_of op) → all_suit (sizes_with ops t) (length done) (operands_of op) ≡ true →
    step (among_operations files ops t main done) (spaced (op_line (length done) op)) ≡
    Ok (among_operations files ops t main (done ++ op ∷ []))
unfolding step
op_step files ops t main done op lt le z suits =
    let test : ltb (length done) ops ≡ true = lt-ltb _ _ lt in
    rw (
      test,
      line_words (op_line (length done) op) (op_solid (length done) op (omega arith) z),
      op_again (sizes_with ops t) (length done) op (omega arith) z suits,
    ) refl

op_run : (files ops : ℕ) (t : Tables) (main : ℕ) (done left : List Op) (from : ℕ) → length done ≡ from → length done + length left ≡ ops →
    ops ≤ 16777216 → SuitFrom (sizes_with ops t) from left →
    Gives (among_operations files ops t main done) (map spaced (op_lines from left)) (code_with files t main (done ++ left))
unfolding read_lines ended
op_run files ops t main done [] from here count le h n =
    let test : ltb (length done) ops ≡ false = le-ltb _ _ (omega arith) in
    rw test (ap (λ k. Ok (code_with files t main k)) (sym (append-nil done)))
op_run files ops t main done (op ∷ left) from here count le h n =
    let more : length (done ++ op ∷ []) ≡ suc from = omega (arith, length-append done (op ∷ [])) in
    let suits : all_suit (sizes_with ops t) (length done) (operands_of op) ≡ true =
    subst (λ (i : ℕ). all_suit (sizes_with ops t) i (operands_of op) ≡ true) (sym here) h.0.1 in
    let line : step (among_operations files ops t main done) (spaced (op_line from op)) ≡
    Ok (among_operations files ops t main (done ++ op ∷ [])) =
    ap (λ (i : ℕ). step (among_operations files ops t main done) (spaced (op_line i op))) (sym here) ∙
    op_step files ops t main done op (omega arith) le h.0.0 suits in
    one_step (among_operations files ops t main done) (among_operations files ops t main (done ++ op ∷ [])) n (spaced (op_line from op))
    (map spaced (op_lines (suc from) left)) [] (code_with files t main (done ++ op ∷ left)) line
    (op_run files ops t main (done ++ op ∷ []) left (suc from) more (omega arith) le h.1 (suc n) ∙
    ap (λ k. Ok (code_with files t main k)) (append_assoc done (op ∷ []) left))

suit_from : (sizes : Sizes) (from : ℕ) (ops : List Op) →
    ((i : ℕ) (op : Op) → slice_get ops i ≡ Some op → all_suit sizes (from + i) (operands_of op) ≡ true) →
    AllByRecursion (λ op. AreSized (operands_of op)) ops → SuitFrom sizes from ops
suit_from sizes from [] h z = tt
suit_from sizes from (op ∷ ops) h z =
    let here : from + 0 ≡ from = omega arith in (
      (z.0, subst (λ (a : ℕ). all_suit sizes a (operands_of op) ≡ true) here (h 0 op refl)),
      suit_from sizes (suc from) ops (λ i x e. let there : from + suc i ≡ suc from + i = omega arith in
          subst (λ (a : ℕ). all_suit sizes a (operands_of x) ≡ true) there (h (suc i) x e)) z.1,
    )

-- ---- a listing

-- a valid code with the sizes of its fields, entry by entry
pub record Ready (code : Code) : Type 0 where
  pub texts : AllByRecursion IsReadText code.texts
  pub places : AllByRecursion (IsReadPlace code.files) code.places
  pub functions : AllByRecursion (IsFunction (length code.ops)) code.functions
  pub classes : AllByRecursion (IsReadClass (length code.functions)) code.classes
  pub ops : SuitFrom (sizes_of code) 0 code.ops

ready : (code : Code) → Valid code → IsSized code → Ready code
ready code v z = record {
  texts = both_all IsText (λ t. AllByRecursion (λ b. b ≤ 255) t) code.texts (recursion_from_All IsText code.texts v.texts)
      (each_map AreBytes (λ t. AllByRecursion (λ b. b ≤ 255) t) code.texts (λ t h. recursion_from_All (λ (b : ℕ). b ≤ 255) t h)
      (recursion_from_All AreBytes code.texts z.texts));
  places = both_all (IsPlace code.files) IsSizedPlace code.places (recursion_from_All (IsPlace code.files) code.places v.places)
      (recursion_from_All IsSizedPlace code.places z.places);
  functions = recursion_from_All (IsFunction (length code.ops)) code.functions v.functions;
  classes = each_map (λ c. IsClass (length code.functions) c × IsNumber c.slots) (IsReadClass (length code.functions)) code.classes (λ c h.
      record { slots = h.1; count = h.0.count; methods = recursion_from_All (λ (m : ℕ). m < length code.functions) c.methods h.0.methods })
      (both_all (IsClass (length code.functions)) (λ c. IsNumber c.slots) code.classes
      (recursion_from_All (IsClass (length code.functions)) code.classes v.classes)
      (recursion_from_All (λ (c : Class). IsNumber c.slots) code.classes z.classes));
  ops = suit_from (sizes_of code) 0 code.ops (λ i op e. (let start : i ≡ 0 + i = omega arith in
      subst (λ (a : ℕ). all_suit (sizes_of code) a (operands_of op) ≡ true) start (v.operations i op e)))
      (recursion_from_All (λ (op : Op). AreSized (operands_of op)) code.ops z.operations);
}

solid_append : (ks ls : List Line) → SolidLines ks → SolidLines ls → SolidLines (ks ++ ls)
solid_append [] ls h g = g
solid_append (k ∷ ks) ls h g = (h.0, solid_append ks ls h.1 g)

solid_map : {A : Type 0} (P : A → Type 0) (line : A → Line) (xs : List A) → ((x : A) → P x → IsLine (line x)) → AllByRecursion P xs →
    SolidLines (map line xs)
solid_map P line [] f h = tt
solid_map P line (x ∷ xs) f h = (is_solid_line (line x) (f x h.0), solid_map P line xs f h.1)

solid_ops : (sizes : Sizes) (from : ℕ) (ops : List Op) → from + length ops ≤ 16777216 → SuitFrom sizes from ops →
    SolidLines (op_lines from ops)
solid_ops sizes from [] le h = tt
solid_ops sizes from (op ∷ ops) le h =
    (is_solid_line (op_line from op) (op_solid from op (omega arith) h.0.0), solid_ops sizes (suc from) ops (omega arith) h.1)

-- the lines of tables, and those behind them, each by itself
flat : (a b c d e : List Line) →
    map spaced ((a ++ (b ++ (c ++ d))) ++ e) ≡ map spaced a ++ (map spaced b ++ (map spaced c ++ (map spaced d ++ map spaced e)))
flat a b c d e =
    ap (map spaced) (append_assoc a (b ++ (c ++ d)) e ∙
    ap (λ k. a ++ k) (append_assoc b (c ++ d) e ∙ ap (λ k. b ++ k) (append_assoc c d e))) ∙ map-append spaced a (b ++ (c ++ (d ++ e))) ∙
    ap (λ k. map spaced a ++ k) (map-append spaced b (c ++ (d ++ e)) ∙
    ap (λ k. map spaced b ++ k) (map-append spaced c (d ++ e) ∙ ap (λ k. map spaced c ++ k) (map-append spaced d e)))

main_low : (code : Code) → Valid code → code.main < 4294967296
main_low code v =
    let few = v.counts.functions in
    let low : code.main < length code.functions = slice_get_within code.functions code.main v.main.0 v.main.1 in
    omega arith

lines_solid : (code : Code) → Valid code → Ready code → SolidLines (lines code)
lines_solid code v r =
    let files = v.counts.files in
    let ops = v.counts.ops in
    let most = ops.1 in
    let some = files.1 in (
      is_solid_line (files_line code.files) (files_solid code.files files.1),
      (
        is_solid_line (ops_line (length code.ops)) (ops_solid (length code.ops) ops.1),
        solid_append (table_lines code.texts code.places code.functions code.classes) (main_line code.main ∷ op_lines 0 code.ops)
            (solid_append (map text_line code.texts) (map place_line code.places ++
            (map function_line code.functions ++ map class_line code.classes))
            (solid_map IsReadText text_line code.texts (λ x h. text_solid x) r.texts)
            (solid_append (map place_line code.places) (map function_line code.functions ++ map class_line code.classes)
            (solid_map (IsReadPlace code.files) place_line code.places (λ x h. place_solid code.files x files.1 h) r.places)
            (solid_append (map function_line code.functions) (map class_line code.classes)
            (solid_map (IsFunction (length code.ops)) function_line code.functions (λ x h. function_solid (length code.ops) x ops.1 h)
            r.functions) (solid_map (IsReadClass (length code.functions)) class_line code.classes
            (λ x h. class_solid (length code.functions) x v.counts.functions h) r.classes)))) (
              is_solid_line (main_line code.main) (main_solid code.main (main_low code v)),
              solid_ops (sizes_of code) 0 code.ops (omega arith) r.ops,
            ),
      ),
    )

behind_tables : (code : Code) → Valid code → Ready code →
    Gives (among_tables code.files (length code.ops) no_tables)
    (map spaced (table_lines code.texts code.places code.functions code.classes ++ main_line code.main ∷ op_lines 0 code.ops)) code
behind_tables code v r n =
    let t = tables_of code.texts code.places code.functions code.classes in
    let ops = length code.ops in
    let main : Gives (among_tables code.files ops t) (map spaced (main_line code.main ∷ op_lines 0 code.ops)) code =
    (λ m. one_step (among_tables code.files ops t) (among_operations code.files ops t code.main []) m (spaced (main_line code.main))
    (map spaced (op_lines 0 code.ops)) [] code
    (table_step code.files ops t (main_line code.main) (t, Some code.main) (main_solid code.main (main_low code v))
    (main_taken code.files ops t code.main v.main (main_low code v)))
    (op_run code.files ops t code.main [] code.ops 0 refl (omega arith) v.counts.ops.1 r.ops (suc m))) in
    let rest = map spaced (main_line code.main ∷ op_lines 0 code.ops) in
    let classes = class_run code.files ops code.texts code.places code.functions code.classes rest code v.counts.functions r.classes
    v.counts.classes main in
    let functions = function_run code.files ops code.texts code.places code.functions (map spaced (map class_line code.classes) ++ rest)
    code
    v.counts.ops.1 r.functions v.counts.functions classes in
    let places = place_run code.files ops code.texts code.places
    (map spaced (map function_line code.functions) ++ (map spaced (map class_line code.classes) ++ rest)) code v.counts.files.1 r.places
    v.counts.places functions in
    let texts = text_run code.files ops code.texts
    (map spaced (map place_line code.places) ++ (map spaced (map function_line code.functions) ++
    (map spaced (map class_line code.classes) ++ rest))) code r.texts v.counts.texts places in
    ap (λ k. read_lines (among_tables code.files ops no_tables) n k [])
    (flat (map text_line code.texts) (map place_line code.places) (map function_line code.functions) (map class_line code.classes)
    (main_line code.main ∷ op_lines 0 code.ops)) ∙ texts n

first_step : (n : ℕ) → 1 ≤ n → n ≤ 16 → step first (spaced (files_line n)) ≡ Ok (second n)
unfolding step
first_step n low high = rw (line_words (files_line n) (files_solid n high), files_again n low high) refl

second_step : (files n : ℕ) → 1 ≤ n → n ≤ 16777216 → step (second files) (spaced (ops_line n)) ≡ Ok (among_tables files n no_tables)
unfolding step
second_step files n low high = rw (line_words (ops_line n) (ops_solid n high), ops_again n low high) refl

-- what is listed so is read
pub listing_again : (code : Code) (bytes : List ℕ) → Listing code bytes → listing_at bytes ≡ Ok code
listing_again code bytes h =
    let v = h.valid in
    let r = ready code v h.sized in
    let cut : pieces 10 bytes ≡ (map spaced (lines code), []) = ap (pieces 10) h.spelled ∙ lines_cut (lines code) (lines_solid code v r) in
    let tables = table_lines code.texts code.places code.functions code.classes ++ main_line code.main ∷ op_lines 0 code.ops in
    ap (λ (p : Pieces). read_lines first 1 p.0 p.1) cut ∙
    one_step first (second code.files) 1 (spaced (files_line code.files)) (map spaced (ops_line (length code.ops) ∷ tables)) [] code
    (first_step code.files v.counts.files.0 v.counts.files.1)
    (one_step (second code.files) (among_tables code.files (length code.ops) no_tables) 2 (spaced (ops_line (length code.ops)))
    (map spaced tables) [] code (second_step code.files (length code.ops) v.counts.ops.0 v.counts.ops.1) (behind_tables code v r 3))
