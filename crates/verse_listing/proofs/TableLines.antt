-- The lines of tables: what they give, and that they are written so.
use Rattle.std.proofs.Common.{◌≡◌, ℕ, ◌<◌, ◌≤◌, ℤ, pos, Bool, true, false, cond, ◌&&◌, eqb, ltb, List, [], ◌∷◌, ◌++◌, map, length}
use Rattle.std.proofs.Common.{codes, decimal, Option, Some, None, Result, Ok, Err, refl, sym, ap, ◌∙◌, append_assoc, arith}
use Rattle.std.proofs.lemmas.Bool.{and_parts, eqb-true, ltb-true, lt-ltb}
use Rattle.std.proofs.lemmas.List.{append-nil, map-append}
use Rattle.verse_base.specs.declared.places.Place.{Place}
use Rattle.verse_code.specs.declared.codes.Func.{Func}
use Rattle.verse_code.specs.declared.codes.Class.{Class}
use Rattle.verse_code.specs.Validity.{IsText, IsPlace, IsFunction, IsMain}
use Rattle.verse_listing_format.specs.Names.{is_same}
use Rattle.verse_listing_format.specs.Format.{Word, Line, files_line, ops_line, text_line, place_line, function_line, class_line, main_line}
use Rattle.verse_listing_format.specs.Format.{table_lines, IsSizedPlace}
use Rattle.verse_listing_lines.specs.declared.tables.Tables.{Tables}
use Rattle.verse_listing_lines.specs.declared.tables.Keyword.{Keyword}
use Rattle.verse_listing_lines.specs.declared.tables.Keyword.TheVariants as k
use Rattle.verse_listing_lines.specs.Lines.{◌>>=◌, numbers, numbers_behind, only_field, files_of, ops_of, text_of, place_of, function_of}
use Rattle.verse_listing_lines.specs.Lines.{class_of, main_of, in_texts, in_places, in_functions, with_room, text_told, place_told}
use Rattle.verse_listing_lines.specs.Lines.{function_told}
use Rattle.verse_listing_lines.specs.Lines.{class_told, main_told, with_text, with_place, with_function, with_class, told, keyword_of}
use Rattle.verse_listing_lines.specs.Lines.{table_line_of}
use Rattle.verse_listing.proofs.WordLaws.{number_words}
use Rattle.verse_listing.proofs.LineLaws.{bind_ok, test_ok, same_is, known, numbers_read, numbers_written, only_is, field_of}
use Rattle.verse_listing.proofs.LineLaws.{natural_words, place_numbers, place_is, place_again, place_fits, function_numbers, function_is}
use Rattle.verse_listing.proofs.LineLaws.{function_again, function_fits, class_numbers, IsReadClass, class_is, class_again, class_fits}
use Rattle.verse_listing.proofs.LineLaws.{main_is, main_again, EachByte, text_words, text_is, text_again}

-- ---- the first two lines

behind_is : (keyword : Word) (line : Line) (zs : List ℤ) → numbers_behind keyword line ≡ Ok (known zs) → line ≡ keyword ∷ number_words zs
unfolding numbers_behind
behind_is keyword [] zs e = absurd cc
behind_is keyword (w ∷ ws) zs e = by_test (is_same w keyword) refl e
  where
    by_test : (t : Bool) → is_same w keyword ≡ t → cond t (numbers ws) (Err 1) ≡ Ok (known zs) → w ∷ ws ≡ keyword ∷ number_words zs
    by_test true t e = ap (λ (k : Word). k ∷ ws) (same_is w keyword t) ∙ ap (λ k. keyword ∷ k) (numbers_read ws zs e).0
    by_test false t e = absurd cc

pub files_is : (line : Line) (n : ℕ) → files_of line ≡ Ok n → (line ≡ files_line n) × (1 ≤ n) × (n ≤ 16)
unfolding files_of
files_is line n e =
    let p = bind_ok (numbers_behind (codes "files") line) (only_field 1 17) n e in
    let f = only_is 1 17 n p.0 p.2 in
    let most = f.2 in
    (behind_is (codes "files") line (pos n ∷ []) (p.1 ∙ ap Ok f.0), f.1, omega arith)

pub ops_is : (line : Line) (n : ℕ) → ops_of line ≡ Ok n → (line ≡ ops_line n) × (1 ≤ n) × (n ≤ 16777216)
unfolding ops_of
ops_is line n e =
    let p = bind_ok (numbers_behind (codes "ops") line) (only_field 1 16777217) n e in
    let f = only_is 1 16777217 n p.0 p.2 in
    let most = f.2 in
    (behind_is (codes "ops") line (pos n ∷ []) (p.1 ∙ ap Ok f.0), f.1, omega arith)

pub files_again : (n : ℕ) → 1 ≤ n → n ≤ 16 → files_of (files_line n) ≡ Ok n
unfolding files_of numbers_behind
files_again n low high = rw (numbers_written (pos n ∷ []) (omega arith, tt), field_of 1 17 n low (omega arith)) refl

pub ops_again : (n : ℕ) → 1 ≤ n → n ≤ 16777216 → ops_of (ops_line n) ≡ Ok n
unfolding ops_of numbers_behind
ops_again n low high = rw (numbers_written (pos n ∷ []) (omega arith, tt), field_of 1 16777217 n low (omega arith)) refl

-- ---- what a table gains

no_entries : {A : Type 0} (xs : List A) → eqb (length xs) 0 ≡ true → xs ≡ []
no_entries [] e = refl
no_entries (x ∷ xs) e = absurd (omega (arith, eqb-true (length (x ∷ xs)) 0 e))

-- a line that may stand, and whose entry has room
room_is : {A B : Type 0} (open_here : Bool) (read : Result B ℕ) (entries : List A) (x : B) →
    cond open_here (read >>= with_room entries) (Err 1) ≡ Ok x → (open_here ≡ true) × (read ≡ Ok x) × (length entries < 4294967295)
room_is false read entries x e = absurd cc
room_is true read entries x e =
    let p = bind_ok read (with_room entries) x e in
    let g = test_ok (ltb (length entries) 4294967295) 3 p.0 x p.2 in
    (refl, p.1 ∙ ap (λ y. Ok y) g.1, ltb-true _ _ g.0)

room_again : {A B : Type 0} (read : Result B ℕ) (entries : List A) (x : B) → read ≡ Ok x → length entries < 4294967295 →
    (read >>= with_room entries) ≡ Ok x
room_again read entries x e lt = let test : ltb (length entries) 4294967295 ≡ true = lt-ltb _ _ lt in rw (e, test) refl

pub record TellsText (t : Tables) (ws : List Word) (entry : List ℕ) : Type 0 where
  pub written : ws ≡ text_words entry
  pub fits : IsText entry × EachByte entry
  pub room : length t.texts < 4294967295
  pub no_places : t.places ≡ []
  pub no_functions : t.functions ≡ []
  pub no_classes : t.classes ≡ []

pub tells_text : (t : Tables) (ws : List Word) (entry : List ℕ) → text_told t ws ≡ Ok entry → TellsText t ws entry
unfolding text_told
tells_text t ws entry e =
    let r = room_is (in_texts t) (text_of ws) t.texts entry e in
    let x = text_is ws entry r.1 in
    let k = and_parts (eqb (length t.places) 0 && eqb (length t.functions) 0) (eqb (length t.classes) 0) r.0 in
    let l = and_parts (eqb (length t.places) 0) (eqb (length t.functions) 0) k.0 in
    record {
      written = x.0;
      fits = (x.1, x.2);
      room = r.2;
      no_places = no_entries t.places l.0;
      no_functions = no_entries t.functions l.1;
      no_classes = no_entries t.classes k.1;
    }

pub record TellsPlace (files : ℕ) (t : Tables) (ws : List Word) (entry : Place) : Type 0 where
  pub written : ws ≡ number_words (place_numbers entry)
  pub fits : IsPlace files entry × IsSizedPlace entry
  pub room : length t.places < 4294967295
  pub no_functions : t.functions ≡ []
  pub no_classes : t.classes ≡ []

pub tells_place : (files : ℕ) (t : Tables) (ws : List Word) (entry : Place) → place_told files t ws ≡ Ok entry → TellsPlace files t ws entry
unfolding place_told
tells_place files t ws entry e =
    let r = room_is (in_places t) (numbers ws >>= place_of files) t.places entry e in
    let n = bind_ok (numbers ws) (place_of files) entry r.1 in
    let x = place_is files n.0 entry n.2 in
    let k = and_parts (eqb (length t.functions) 0) (eqb (length t.classes) 0) r.0 in
    record {
      written = (numbers_read ws (place_numbers entry) (n.1 ∙ ap Ok x.0)).0;
      fits = (x.1, x.2);
      room = r.2;
      no_functions = no_entries t.functions k.0;
      no_classes = no_entries t.classes k.1;
    }

pub record TellsFunction (ops : ℕ) (t : Tables) (ws : List Word) (entry : Func) : Type 0 where
  pub written : ws ≡ number_words (function_numbers entry)
  pub fits : IsFunction ops entry
  pub room : length t.functions < 4294967295
  pub no_classes : t.classes ≡ []

pub tells_function : (ops : ℕ) (t : Tables) (ws : List Word) (entry : Func) → function_told ops t ws ≡ Ok entry →
    TellsFunction ops t ws entry
unfolding function_told
tells_function ops t ws entry e =
    let r = room_is (in_functions t) (numbers ws >>= function_of ops) t.functions entry e in
    let n = bind_ok (numbers ws) (function_of ops) entry r.1 in
    let x = function_is ops n.0 entry n.2 in
    record {
      written = (numbers_read ws (function_numbers entry) (n.1 ∙ ap Ok x.0)).0;
      fits = x.1;
      room = r.2;
      no_classes = no_entries t.classes r.0;
    }

pub record TellsClass (t : Tables) (ws : List Word) (entry : Class) : Type 0 where
  pub written : ws ≡ number_words (class_numbers entry)
  pub fits : IsReadClass (length t.functions) entry
  pub room : length t.classes < 4294967295

pub tells_class : (t : Tables) (ws : List Word) (entry : Class) → class_told t ws ≡ Ok entry → TellsClass t ws entry
unfolding class_told
tells_class t ws entry e =
    let r = room_is true (numbers ws >>= class_of (length t.functions)) t.classes entry e in
    let n = bind_ok (numbers ws) (class_of (length t.functions)) entry r.1 in
    let x = class_is (length t.functions) n.0 entry n.2 in
    record {
      written = (numbers_read ws (class_numbers entry) (n.1 ∙ ap Ok x.0)).0;
      fits = x.1;
      room = r.2;
    }

pub record TellsMain (t : Tables) (ws : List Word) (main : ℕ) : Type 0 where
  pub written : ws ≡ number_words (pos main ∷ [])
  pub fits : IsMain t.functions main

pub tells_main : (t : Tables) (ws : List Word) (main : ℕ) → main_told t ws ≡ Ok main → TellsMain t ws main
unfolding main_told
tells_main t ws main e =
    let n = bind_ok (numbers ws) (main_of t.functions) main e in
    let x = main_is t.functions n.0 main n.2 in
    record { written = (numbers_read ws (pos main ∷ []) (n.1 ∙ ap Ok x.0)).0; fits = x.1 }

-- ---- keywords

abbrev pub spelling : Keyword → Word
spelling k.Text = codes "text"
spelling k.Place = codes "place"
spelling k.Func = codes "func"
spelling k.Class = codes "class"
spelling k.Main = codes "main"

abbrev some : Keyword → Option Keyword
some keyword = Some keyword

spelled_so : (w : Word) (a b : Keyword) → some a ≡ Some b → w ≡ spelling a → w ≡ spelling b
spelled_so w a b e h = let same : a ≡ b = cc in h ∙ ap spelling same

keyword_by : (w : Word) (keyword : Keyword) (a b c d m : Bool) → is_same w (codes "text") ≡ a → is_same w (codes "place") ≡ b →
    is_same w (codes "func") ≡ c → is_same w (codes "class") ≡ d → is_same w (codes "main") ≡ m →
    cond a (Some k.Text) (cond b (Some k.Place) (cond c (Some k.Func) (cond d (Some k.Class) (cond m (Some k.Main) None)))) ≡ Some keyword →
    w ≡ spelling keyword
keyword_by w keyword true b c d m e1 e2 e3 e4 e5 h = spelled_so w k.Text keyword h (same_is w (codes "text") e1)
keyword_by w keyword false true c d m e1 e2 e3 e4 e5 h = spelled_so w k.Place keyword h (same_is w (codes "place") e2)
keyword_by w keyword false false true d m e1 e2 e3 e4 e5 h = spelled_so w k.Func keyword h (same_is w (codes "func") e3)
keyword_by w keyword false false false true m e1 e2 e3 e4 e5 h = spelled_so w k.Class keyword h (same_is w (codes "class") e4)
keyword_by w keyword false false false false true e1 e2 e3 e4 e5 h = spelled_so w k.Main keyword h (same_is w (codes "main") e5)
keyword_by w keyword false false false false false e1 e2 e3 e4 e5 h = absurd cc

pub keyword_is : (w : Word) (keyword : Keyword) → keyword_of w ≡ Some keyword → w ≡ spelling keyword
keyword_is w keyword e =
    keyword_by w keyword (is_same w (codes "text")) (is_same w (codes "place")) (is_same w (codes "func")) (is_same w (codes "class"))
    (is_same w (codes "main")) refl refl refl refl refl e

-- ---- a line more

pub text_more : (texts : List (List ℕ)) (text : List ℕ) (places : List Place) (functions : List Func) (classes : List Class) →
    places ≡ [] → functions ≡ [] → classes ≡ [] →
    table_lines (texts ++ text ∷ []) places functions classes ≡ table_lines texts places functions classes ++ text_line text ∷ []
text_more texts text places functions classes e f g =
    rw (e, f, g) (append-nil (map text_line (texts ++ text ∷ [])) ∙ map-append text_line texts (text ∷ []) ∙
    ap (λ k. k ++ text_line text ∷ []) (sym (append-nil (map text_line texts))))

pub place_more : (texts : List (List ℕ)) (places : List Place) (place : Place) (functions : List Func) (classes : List Class) →
    functions ≡ [] → classes ≡ [] →
    table_lines texts (places ++ place ∷ []) functions classes ≡ table_lines texts places functions classes ++ place_line place ∷ []
place_more texts places place functions classes f g =
    rw (f, g) (ap (λ k. map text_line texts ++ k) (append-nil (map place_line (places ++ place ∷ [])) ∙
    map-append place_line places (place ∷ []) ∙ ap (λ k. k ++ place_line place ∷ []) (sym (append-nil (map place_line places)))) ∙
    sym (append_assoc (map text_line texts) (map place_line places ++ []) (place_line place ∷ [])))

pub function_more : (texts : List (List ℕ)) (places : List Place) (functions : List Func) (function : Func) (classes : List Class) →
    classes ≡ [] →
    table_lines texts places (functions ++ function ∷ []) classes ≡ table_lines texts places functions classes ++ function_line function ∷
    []
function_more texts places functions function classes g =
    rw g (ap (λ k. map text_line texts ++ (map place_line places ++ k)) (append-nil (map function_line (functions ++ function ∷ [])) ∙
    map-append function_line functions (function ∷ []) ∙
    ap (λ k. k ++ function_line function ∷ []) (sym (append-nil (map function_line functions)))) ∙
    ap (λ k. map text_line texts ++ k)
    (sym (append_assoc (map place_line places) (map function_line functions ++ []) (function_line function ∷ []))) ∙
    sym (append_assoc (map text_line texts) (map place_line places ++ (map function_line functions ++ [])) (function_line function ∷ [])))

pub class_more : (texts : List (List ℕ)) (places : List Place) (functions : List Func) (classes : List Class) (class : Class) →
    table_lines texts places functions (classes ++ class ∷ []) ≡ table_lines texts places functions classes ++ class_line class ∷ []
class_more texts places functions classes class =
    ap (λ k. map text_line texts ++ (map place_line places ++ (map function_line functions ++ k)))
    (map-append class_line classes (class ∷ [])) ∙ ap (λ k. map text_line texts ++ (map place_line places ++ k))
    (sym (append_assoc (map function_line functions) (map class_line classes) (class_line class ∷ []))) ∙
    ap (λ k. map text_line texts ++ k)
    (sym (append_assoc (map place_line places) (map function_line functions ++ map class_line classes) (class_line class ∷ []))) ∙
    sym (append_assoc (map text_line texts) (map place_line places ++ (map function_line functions ++ map class_line classes))
    (class_line class ∷ []))

-- ---- what is written gives the table a line more

pub text_line_is : (text : List ℕ) → text_line text ≡ codes "text" ∷ text_words text
text_line_is [] = refl
text_line_is (b ∷ bytes) = refl

pub text_taken : (files ops : ℕ) (t : Tables) (text : List ℕ) → in_texts t ≡ true → IsText text × EachByte text →
    length t.texts < 4294967295 → table_line_of files ops t (text_line text) ≡ Ok (with_text t text)
unfolding told text_told
text_taken files ops t text o h few =
    let r : (text_of (text_words text) >>= with_room t.texts) ≡ Ok text = room_again _ t.texts text (text_again text h.0 h.1) few in
    ap (table_line_of files ops t) (text_line_is text) ∙ rw (o, r) refl

pub place_taken : (files ops : ℕ) (t : Tables) (place : Place) → in_places t ≡ true → files ≤ 16 → IsPlace files place ×
    IsSizedPlace place → length t.places < 4294967295 → table_line_of files ops t (place_line place) ≡ Ok (with_place t place)
unfolding told place_told
place_taken files ops t place o le h few =
    let ns : (numbers (number_words (place_numbers place)) >>= place_of files) ≡ Ok place =
    rw (numbers_written (place_numbers place) (place_fits files place le h.0 h.1)) (place_again files place h.0 h.1) in
    let r = room_again (numbers (number_words (place_numbers place)) >>= place_of files) t.places place ns few in
    rw (o, r) refl

pub function_taken : (files ops : ℕ) (t : Tables) (function : Func) → in_functions t ≡ true → ops ≤ 16777216 → IsFunction ops function →
    length t.functions < 4294967295 → table_line_of files ops t (function_line function) ≡ Ok (with_function t function)
unfolding told function_told
function_taken files ops t function o le h few =
    let ns : (numbers (number_words (function_numbers function)) >>= function_of ops) ≡ Ok function =
    rw (numbers_written (function_numbers function) (function_fits ops function le h)) (function_again ops function h) in
    let r = room_again (numbers (number_words (function_numbers function)) >>= function_of ops) t.functions function ns few in
    rw (o, r) refl

pub class_taken : (files ops : ℕ) (t : Tables) (class : Class) → length t.functions ≤ 4294967295 → IsReadClass (length t.functions) class →
    length t.classes < 4294967295 → table_line_of files ops t (class_line class) ≡ Ok (with_class t class)
unfolding told class_told
class_taken files ops t class le h few =
    let ns : numbers (decimal class.slots ∷ map decimal class.methods) ≡ Ok (known (class_numbers class)) =
    ap (λ k. numbers (decimal class.slots ∷ k)) (sym (natural_words class.methods)) ∙
    numbers_written (class_numbers class) (class_fits (length t.functions) class le h) in
    let made : (numbers (decimal class.slots ∷ map decimal class.methods) >>= class_of (length t.functions)) ≡ Ok class =
    rw ns (class_again (length t.functions) class h) in
    let r = room_again (numbers (decimal class.slots ∷ map decimal class.methods) >>= class_of (length t.functions)) t.classes class made
    few
    in rw r refl

pub main_taken : (files ops : ℕ) (t : Tables) (main : ℕ) → IsMain t.functions main → main < 4294967296 →
    table_line_of files ops t (main_line main) ≡ Ok (t, Some main)
unfolding told main_told
main_taken files ops t main h lt =
    rw (numbers_written (pos main ∷ []) (omega arith, tt), main_again t.functions main h lt) refl
