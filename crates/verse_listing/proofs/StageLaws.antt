-- A code that is read is one whose listing the bytes are.
use Rattle.std.proofs.Common.{◌≡◌, ℕ, zero, suc, ◌+◌, ◌<◌, ◌≤◌, Bool, true, false, cond, ltb, List, [], ◌∷◌, ◌++◌, All, map, length, codes}
use Rattle.std.proofs.Common.{decimal, Option, Some, None, slice_get, Result, Ok, Err, refl, sym, ap, subst, ◌∙◌, append_assoc, arith}
use Rattle.std.specs.List.{AllByRecursion}
use Rattle.std.proofs.lemmas.Bool.{ltb-true, ltb-false}
use Rattle.std.proofs.lemmas.List.{append-nil, length-append, map-append}
use Rattle.std.proofs.lemmas.List.Elements.{All-from_recursion}
use Rattle.verse_base.specs.declared.places.Place.{Place}
use Rattle.verse_code.specs.declared.operations.Op.{Op}
use Rattle.verse_code.specs.declared.codes.Code.{Code}
use Rattle.verse_code.specs.declared.validity.Sizes.{Sizes}
use Rattle.verse_code.specs.Operations.{operands_of}
use Rattle.verse_code.specs.Validity.{IsText, IsPlace, IsFunction, IsClass, IsMain, all_suit, sizes_of, Valid}
use Rattle.verse_listing_format.specs.Format.{Word, Line, files_line, ops_line, text_line, place_line, function_line, class_line, main_line}
use Rattle.verse_listing_format.specs.Format.{op_line, op_lines, table_lines, lines, spaced, AreBytes, IsSizedPlace, AreSized, IsSized}
use Rattle.verse_listing_format.specs.Format.{Listing}
use Rattle.verse_listing_lines.specs.declared.tables.Tables.{Tables}
use Rattle.verse_listing_lines.specs.declared.tables.Keyword.{Keyword}
use Rattle.verse_listing_lines.specs.declared.tables.Keyword.TheVariants as k
use Rattle.verse_listing_lines.specs.Lines.{◌>>=◌, pieces, words, files_of, ops_of, op_of, no_tables, sizes_with, text_told, place_told}
use Rattle.verse_listing_lines.specs.Lines.{function_told, class_told, main_told, Told, with_text, with_place, with_function, with_class}
use Rattle.verse_listing_lines.specs.Lines.{told}
use Rattle.verse_listing_lines.specs.Lines.{keyword_of, table_line_of}
use Rattle.verse_listing.specs.declared.faults.Flaw.{Flaw}
use Rattle.verse_listing.specs.Reading.{Stage, first, second, among_tables, among_operations, stage_with, step, flaw, code_with, ended}
use Rattle.verse_listing.specs.Reading.{on_line, read_lines, listing_at}
use Rattle.verse_listing.proofs.WordLaws.{spaced_words, spelled_lines}
use Rattle.verse_listing.proofs.LineLaws.{bind_ok, ok_is, natural_words, EachByte, IsReadClass}
use Rattle.verse_listing.proofs.OperationLaws.{op_is}
use Rattle.verse_listing.proofs.TableLines.{files_is, ops_is, tells_text, tells_place, tells_function, tells_class, tells_main, keyword_is}
use Rattle.verse_listing.proofs.TableLines.{text_line_is, text_more, place_more, function_more, class_more}

-- ---- entries

pub each_more : {A : Type 0} (P : A → Type 0) (xs : List A) (x : A) → AllByRecursion P xs → P x → AllByRecursion P (xs ++ x ∷ [])
each_more P [] x h p = (p, tt)
each_more P (y ∷ ys) x h p = (h.0, each_more P ys x h.1 p)

each_map : {A : Type 0} (P Q : A → Type 0) (xs : List A) → ((x : A) → P x → Q x) → AllByRecursion P xs → AllByRecursion Q xs
each_map P Q [] f h = tt
each_map P Q (x ∷ xs) f h = (f x h.0, each_map P Q xs f h.1)

all_map : {A : Type 0} (P Q : A → Type 0) (xs : List A) → ((x : A) → P x → Q x) → AllByRecursion P xs → All Q xs
all_map P Q xs f h = All-from_recursion Q xs (each_map P Q xs f h)

one_more : {A : Type 0} (xs : List A) (x : A) (most : ℕ) → length xs < most → length (xs ++ x ∷ []) ≤ most
one_more xs x most lt = omega (arith, length-append xs (x ∷ []))

-- ---- stages, as the lines that gave them

abbrev pub written : Stage → List Line
written first = []
written (second files) = files_line files ∷ []
written (among_tables files ops t) = files_line files ∷ ops_line ops ∷ table_lines t.texts t.places t.functions t.classes
written (among_operations files ops t main done) =
    files_line files ∷ ops_line ops ∷ (table_lines t.texts t.places t.functions t.classes ++ main_line main ∷ op_lines 0 done)

abbrev pub IsReadText : List ℕ → Type 0
IsReadText text = IsText text × EachByte text

abbrev pub IsReadPlace : ℕ → Place → Type 0
IsReadPlace files p = IsPlace files p × IsSizedPlace p

pub record TablesFit (files ops : ℕ) (t : Tables) : Type 0 where
  pub files_within : (1 ≤ files) × (files ≤ 16)
  pub ops_within : (1 ≤ ops) × (ops ≤ 16777216)
  pub few_texts : length t.texts ≤ 4294967295
  pub few_places : length t.places ≤ 4294967295
  pub few_functions : length t.functions ≤ 4294967295
  pub few_classes : length t.classes ≤ 4294967295
  pub texts : AllByRecursion IsReadText t.texts
  pub places : AllByRecursion (IsReadPlace files) t.places
  pub functions : AllByRecursion (IsFunction ops) t.functions
  pub classes : AllByRecursion (IsReadClass (length t.functions)) t.classes

-- operations from an index on have operands that suit
abbrev pub SuitFrom : Sizes → ℕ → List Op → Type 0
SuitFrom sizes at [] = Unit {0}
SuitFrom sizes at (op ∷ ops) = (AreSized (operands_of op) × (all_suit sizes at (operands_of op) ≡ true)) × SuitFrom sizes (suc at) ops

pub record OperationsFit (files ops : ℕ) (t : Tables) (main : ℕ) (done : List Op) : Type 0 where
  pub tables : TablesFit files ops t
  pub main_is : IsMain t.functions main
  pub few : length done ≤ ops
  pub suit : SuitFrom (sizes_with ops t) 0 done

abbrev pub FitsStage : Stage → Type 0
FitsStage first = Unit {0}
FitsStage (second files) = (1 ≤ files) × (files ≤ 16)
FitsStage (among_tables files ops t) = TablesFit files ops t
FitsStage (among_operations files ops t main done) = OperationsFit files ops t main done

-- ---- a line of a table

record Grown (files ops : ℕ) (t : Tables) (line : Line) (x : Told) : Type 0 where
  fits : FitsStage (stage_with files ops x)
  more : written (stage_with files ops x) ≡ written (among_tables files ops t) ++ line ∷ []

-- the words of a line, by its keyword
keyed : (w keyword : Word) (ws others : List Word) (line : Line) → w ≡ keyword → ws ≡ others → line ≡ keyword ∷ others → line ≡ w ∷ ws
keyed w keyword ws others line e f g = g ∙ sym (ap (λ (k : Word). k ∷ ws) e ∙ ap (λ k. keyword ∷ k) f)

abbrev Lead : ℕ → ℕ → List Line → List Line
Lead files ops rest = files_line files ∷ ops_line ops ∷ rest

grown_text : (files ops : ℕ) (t : Tables) (w : Word) (ws : List Word) (x : Told) → TablesFit files ops t → keyword_of w ≡ Some k.Text →
    told files ops t (Some k.Text) ws ≡ Ok x → Grown files ops t (w ∷ ws) x
unfolding told
grown_text files ops t w ws x h key e =
    let p = bind_ok (text_told t ws) (λ text. Ok (with_text t text)) x e in
    let y = tells_text t ws p.0 p.1 in
    let line : text_line p.0 ≡ w ∷ ws = keyed w (codes "text") ws _ (text_line p.0) (keyword_is w k.Text key) y.written
    (text_line_is p.0) in
    subst (Grown files ops t (w ∷ ws)) (ok_is (with_text t p.0) x p.2) (record {
      fits = record {
        files_within = h.files_within;
        ops_within = h.ops_within;
        few_texts = one_more t.texts p.0 4294967295 y.room;
        few_places = h.few_places;
        few_functions = h.few_functions;
        few_classes = h.few_classes;
        texts = each_more IsReadText t.texts p.0 h.texts y.fits;
        places = h.places;
        functions = h.functions;
        classes = h.classes;
      };
      more = ap (Lead files ops) (text_more t.texts p.0 t.places t.functions t.classes y.no_places y.no_functions y.no_classes) ∙
          ap (λ (k : Line). written (among_tables files ops t) ++ k ∷ []) line;
    })

grown_place : (files ops : ℕ) (t : Tables) (w : Word) (ws : List Word) (x : Told) → TablesFit files ops t → keyword_of w ≡ Some k.Place →
    told files ops t (Some k.Place) ws ≡ Ok x → Grown files ops t (w ∷ ws) x
unfolding told
grown_place files ops t w ws x h key e =
    let p = bind_ok (place_told files t ws) (λ place. Ok (with_place t place)) x e in
    let y = tells_place files t ws p.0 p.1 in
    let line : place_line p.0 ≡ w ∷ ws = keyed w (codes "place") ws _ (place_line p.0) (keyword_is w k.Place key) y.written refl in
    subst (Grown files ops t (w ∷ ws)) (ok_is (with_place t p.0) x p.2) (record {
      fits = record {
        files_within = h.files_within;
        ops_within = h.ops_within;
        few_texts = h.few_texts;
        few_places = one_more t.places p.0 4294967295 y.room;
        few_functions = h.few_functions;
        few_classes = h.few_classes;
        texts = h.texts;
        places = each_more (IsReadPlace files) t.places p.0 h.places y.fits;
        functions = h.functions;
        classes = h.classes;
      };
      more = ap (Lead files ops) (place_more t.texts t.places p.0 t.functions t.classes y.no_functions y.no_classes) ∙
          ap (λ (k : Line). written (among_tables files ops t) ++ k ∷ []) line;
    })

grown_function : (files ops : ℕ) (t : Tables) (w : Word) (ws : List Word) (x : Told) → TablesFit files ops t → keyword_of w ≡ Some k.Func →
    told files ops t (Some k.Func) ws ≡ Ok x → Grown files ops t (w ∷ ws) x
unfolding told
grown_function files ops t w ws x h key e =
    let p = bind_ok (function_told ops t ws) (λ function. Ok (with_function t function)) x e in
    let y = tells_function ops t ws p.0 p.1 in
    let line : function_line p.0 ≡ w ∷ ws = keyed w (codes "func") ws _ (function_line p.0) (keyword_is w k.Func key) y.written refl in
    subst (Grown files ops t (w ∷ ws)) (ok_is (with_function t p.0) x p.2) (record {
      fits = record {
        files_within = h.files_within;
        ops_within = h.ops_within;
        few_texts = h.few_texts;
        few_places = h.few_places;
        few_functions = one_more t.functions p.0 4294967295 y.room;
        few_classes = h.few_classes;
        texts = h.texts;
        places = h.places;
        functions = each_more (IsFunction ops) t.functions p.0 h.functions y.fits;
        classes = subst (AllByRecursion (IsReadClass (length (t.functions ++ p.0 ∷ [])))) (sym y.no_classes) tt;
      };
      more = ap (Lead files ops) (function_more t.texts t.places t.functions p.0 t.classes y.no_classes) ∙
          ap (λ (k : Line). written (among_tables files ops t) ++ k ∷ []) line;
    })

grown_class : (files ops : ℕ) (t : Tables) (w : Word) (ws : List Word) (x : Told) → TablesFit files ops t → keyword_of w ≡ Some k.Class →
    told files ops t (Some k.Class) ws ≡ Ok x → Grown files ops t (w ∷ ws) x
unfolding told
grown_class files ops t w ws x h key e =
    let p = bind_ok (class_told t ws) (λ class. Ok (with_class t class)) x e in
    let y = tells_class t ws p.0 p.1 in
    let line : class_line p.0 ≡ w ∷ ws = keyed w (codes "class") ws _ (class_line p.0) (keyword_is w k.Class key) y.written
    (ap (λ k. codes "class" ∷ decimal p.0.slots ∷ k) (sym (natural_words p.0.methods))) in
    subst (Grown files ops t (w ∷ ws)) (ok_is (with_class t p.0) x p.2) (record {
      fits = record {
        files_within = h.files_within;
        ops_within = h.ops_within;
        few_texts = h.few_texts;
        few_places = h.few_places;
        few_functions = h.few_functions;
        few_classes = one_more t.classes p.0 4294967295 y.room;
        texts = h.texts;
        places = h.places;
        functions = h.functions;
        classes = each_more (IsReadClass (length t.functions)) t.classes p.0 h.classes y.fits;
      };
      more = ap (Lead files ops) (class_more t.texts t.places t.functions t.classes p.0) ∙
          ap (λ (k : Line). written (among_tables files ops t) ++ k ∷ []) line;
    })

grown_main : (files ops : ℕ) (t : Tables) (w : Word) (ws : List Word) (x : Told) → TablesFit files ops t → keyword_of w ≡ Some k.Main →
    told files ops t (Some k.Main) ws ≡ Ok x → Grown files ops t (w ∷ ws) x
unfolding told
grown_main files ops t w ws x h key e =
    let p = bind_ok (main_told t ws) (λ main. Ok (t, Some main)) x e in
    let y = tells_main t ws p.0 p.1 in
    let line : main_line p.0 ≡ w ∷ ws = keyed w (codes "main") ws _ (main_line p.0) (keyword_is w k.Main key) y.written refl in
    subst (Grown files ops t (w ∷ ws)) (ok_is (t, Some p.0) x p.2) (record {
      fits = record { tables = h; main_is = y.fits; few = omega arith; suit = tt };
      more = ap (λ (k : Line). written (among_tables files ops t) ++ k ∷ []) line;
    })

grown : (files ops : ℕ) (t : Tables) (line : Line) (x : Told) → TablesFit files ops t → table_line_of files ops t line ≡ Ok x →
    Grown files ops t line x
unfolding told
grown files ops t [] x h e = absurd cc
grown files ops t (w ∷ ws) x h e = by_keyword (keyword_of w) refl e
  where
    by_keyword : (o : Option Keyword) → keyword_of w ≡ o → told files ops t o ws ≡ Ok x → Grown files ops t (w ∷ ws) x
    by_keyword None key e = absurd cc
    by_keyword (Some k.Text) key e = grown_text files ops t w ws x h key e
    by_keyword (Some k.Place) key e = grown_place files ops t w ws x h key e
    by_keyword (Some k.Func) key e = grown_function files ops t w ws x h key e
    by_keyword (Some k.Class) key e = grown_class files ops t w ws x h key e
    by_keyword (Some k.Main) key e = grown_main files ops t w ws x h key e

-- ---- a line of an operation

op_lines_more : (from : ℕ) (ops : List Op) (op : Op) →
    op_lines from (ops ++ op ∷ []) ≡ op_lines from ops ++ op_line (from + length ops) op ∷ []
op_lines_more from [] op = let here : from ≡ from + 0 = omega arith in ap (λ (n : ℕ). op_line n op ∷ []) here
op_lines_more from (x ∷ ops) op =
    let there : suc from + length ops ≡ from + suc (length ops) = omega arith in
    ap (λ k. op_line from x ∷ k) (op_lines_more (suc from) ops op ∙ ap (λ (n : ℕ). op_lines (suc from) ops ++ op_line n op ∷ []) there)

suit_more : (sizes : Sizes) (from : ℕ) (ops : List Op) (op : Op) → SuitFrom sizes from ops → AreSized (operands_of op) →
    all_suit sizes (from + length ops) (operands_of op) ≡ true → SuitFrom sizes from (ops ++ op ∷ [])
suit_more sizes from [] op h z t =
    let here : from + 0 ≡ from = omega arith in ((z, subst (λ (n : ℕ). all_suit sizes n (operands_of op) ≡ true) here t), tt)
suit_more sizes from (x ∷ ops) op h z t =
    let there : from + suc (length ops) ≡ suc from + length ops = omega arith in
    (h.0, suit_more sizes (suc from) ops op h.1 z (subst (λ (n : ℕ). all_suit sizes n (operands_of op) ≡ true) there t))

-- ---- a step

pub record Steps (s t : Stage) (line : List ℕ) : Type 0 where
  pub fits : FitsStage t
  pub more : map spaced (written t) ≡ map spaced (written s) ++ line ∷ []

steps_words : (s t : Stage) (line : List ℕ) → FitsStage t → written t ≡ written s ++ words line ∷ [] → Steps s t line
steps_words s t line f e = record {
  fits = f;
  more = ap (map spaced) e ∙ map-append spaced (written s) (words line ∷ []) ∙
      ap (λ (k : List ℕ). map spaced (written s) ++ k ∷ []) (spaced_words line);
}

op_step : (files ops : ℕ) (t : Tables) (main : ℕ) (done : List Op) (next : Stage) (line : List ℕ) (test : Bool) →
    OperationsFit files ops t main done → ltb (length done) ops ≡ test →
    cond test (op_of (sizes_with ops t) (length done) (words line) >>= λ op. Ok (among_operations files ops t main (done ++ op ∷ [])))
    (Err 1) ≡ Ok next → Steps (among_operations files ops t main done) next line
op_step files ops t main done next line false h test e = absurd cc
op_step files ops t main done next line true h test e =
    let p = bind_ok (op_of (sizes_with ops t) (length done) (words line)) (λ op. Ok (among_operations files ops t main (done ++ op ∷ [])))
    next e
    in
    let low : length done < ops = ltb-true _ _ test in
    let x = op_is (sizes_with ops t) (length done) (words line) p.0 p.1 in
    subst (λ n. Steps (among_operations files ops t main done) n line)
    (ok_is (among_operations files ops t main (done ++ p.0 ∷ [])) next p.2)
    (steps_words (among_operations files ops t main done) (among_operations files ops t main (done ++ p.0 ∷ [])) line
    (record {
      tables = h.tables;
      main_is = h.main_is;
      few = one_more done p.0 ops low;
      suit = suit_more (sizes_with ops t) 0 done p.0 h.suit x.sized
          (subst (λ (n : ℕ). all_suit (sizes_with ops t) n (operands_of p.0) ≡ true) (count (length done)) x.suits);
    })
    (ap (λ k. Lead files ops (table_lines t.texts t.places t.functions t.classes ++ main_line main ∷ k))
    (op_lines_more 0 done p.0 ∙ ap (λ (n : ℕ). op_lines 0 done ++ op_line n p.0 ∷ []) (sym (count (length done)))) ∙
    ap (Lead files ops) (sym (append_assoc (table_lines t.texts t.places t.functions t.classes) (main_line main ∷ op_lines 0 done)
    (op_line (length done) p.0 ∷ []))) ∙
    ap (λ (k : Line). written (among_operations files ops t main done) ++ k ∷ []) (sym x.written)))
  where
    count : (n : ℕ) → n ≡ 0 + n
    count n = omega arith

pub step_is : (s next : Stage) (line : List ℕ) → FitsStage s → step s line ≡ Ok next → Steps s next line
unfolding step
step_is first next line h e =
    let p = bind_ok (files_of (words line)) (λ files. Ok (second files)) next e in
    let x = files_is (words line) p.0 p.1 in
    subst (λ n. Steps first n line) (ok_is (second p.0) next p.2)
    (steps_words first (second p.0) line (x.1, x.2) (ap (λ (k : Line). k ∷ []) (sym x.0)))
step_is (second files) next line h e =
    let p = bind_ok (ops_of (words line)) (λ ops. Ok (among_tables files ops no_tables)) next e in
    let x = ops_is (words line) p.0 p.1 in
    subst (λ n. Steps (second files) n line) (ok_is (among_tables files p.0 no_tables) next p.2)
    (steps_words (second files) (among_tables files p.0 no_tables) line
    (record {
      files_within = h;
      ops_within = (x.1, x.2);
      few_texts = omega arith;
      few_places = omega arith;
      few_functions = omega arith;
      few_classes = omega arith;
      texts = tt;
      places = tt;
      functions = tt;
      classes = tt;
    })
    (ap (λ (k : Line). files_line files ∷ k ∷ []) (sym x.0)))
step_is (among_tables files ops t) next line h e =
    let p = bind_ok (table_line_of files ops t (words line)) (λ told. Ok (stage_with files ops told)) next e in
    let x = grown files ops t (words line) p.0 h p.1 in
    subst (λ n. Steps (among_tables files ops t) n line) (ok_is (stage_with files ops p.0) next p.2)
    (steps_words (among_tables files ops t) (stage_with files ops p.0) line x.fits x.more)
step_is (among_operations files ops t main done) next line h e =
    op_step files ops t main done next line (ltb (length done) ops) h refl e

-- ---- the end

suit_at : (sizes : Sizes) (from i : ℕ) (ops : List Op) (op : Op) → SuitFrom sizes from ops → slice_get ops i ≡ Some op →
    all_suit sizes (from + i) (operands_of op) ≡ true
suit_at sizes from i [] op h e = absurd cc
suit_at sizes from zero (x ∷ ops) op h e =
    let same : x ≡ op = cc in
    let here : from ≡ from + 0 = omega arith in
    subst (λ (a : ℕ). all_suit sizes a (operands_of op) ≡ true) here
    (subst (λ (y : Op). all_suit sizes from (operands_of y) ≡ true) same h.0.1)
suit_at sizes from (suc i) (x ∷ ops) op h e =
    let there : suc from + i ≡ from + suc i = omega arith in
    subst (λ (a : ℕ). all_suit sizes a (operands_of op) ≡ true) there (suit_at sizes (suc from) i ops op h.1 e)

suit_sized : (sizes : Sizes) (from : ℕ) (ops : List Op) → SuitFrom sizes from ops → AllByRecursion (λ op. AreSized (operands_of op)) ops
suit_sized sizes from [] h = tt
suit_sized sizes from (op ∷ ops) h = (h.0.0, suit_sized sizes (suc from) ops h.1)

read_valid : (files ops : ℕ) (t : Tables) (main : ℕ) (done : List Op) → OperationsFit files ops t main done → length done ≡ ops →
    Valid (code_with files t main done)
read_valid files ops t main done h e =
    let many = h.tables.ops_within in
    let low = many.0 in
    let high = many.1 in
    let same : sizes_with ops t ≡ sizes_of (code_with files t main done) = ap (λ (n : ℕ). sizes_with n t) (sym e) in
    record {
      counts = record {
        files = h.tables.files_within;
        ops = (omega arith, omega arith);
        texts = h.tables.few_texts;
        places = h.tables.few_places;
        functions = h.tables.few_functions;
        classes = h.tables.few_classes;
      };
      texts = all_map IsReadText IsText t.texts (λ x p. p.0) h.tables.texts;
      places = all_map (IsReadPlace files) (IsPlace files) t.places (λ x p. p.0) h.tables.places;
      functions = all_map (IsFunction ops) (IsFunction (length done)) t.functions (λ x p. subst (λ (n : ℕ). IsFunction n x) (sym e) p)
          h.tables.functions;
      classes = all_map (IsReadClass (length t.functions)) (IsClass (length t.functions)) t.classes (λ x p. record {
        count = p.count;
        methods = All-from_recursion (λ (m : ℕ). m < length t.functions) x.methods p.methods;
      }) h.tables.classes;
      main = h.main_is;
      operations = λ at op f.
          (let start : 0 + at ≡ at = omega arith in
          subst (λ (z : Sizes). all_suit z at (operands_of op) ≡ true) same
          (subst (λ (n : ℕ). all_suit (sizes_with ops t) n (operands_of op) ≡ true) start
          (suit_at (sizes_with ops t) 0 at done op h.suit f)));
    }

read_sized : (files ops : ℕ) (t : Tables) (main : ℕ) (done : List Op) → OperationsFit files ops t main done →
    IsSized (code_with files t main done)
read_sized files ops t main done h = record {
  texts = all_map IsReadText AreBytes t.texts (λ x p. All-from_recursion (λ (b : ℕ). b ≤ 255) x p.1) h.tables.texts;
  places = all_map (IsReadPlace files) IsSizedPlace t.places (λ x p. p.1) h.tables.places;
  classes = all_map (IsReadClass (length t.functions)) (λ c. c.slots ≤ 4294967295) t.classes (λ x p. p.slots) h.tables.classes;
  operations = All-from_recursion (λ (op : Op). AreSized (operands_of op)) done (suit_sized (sizes_with ops t) 0 done h.suit);
}

pub record IsRead (s : Stage) (ls : List (List ℕ)) (last : List ℕ) (code : Code) : Type 0 where
  pub none_behind : last ≡ []
  pub whole : map spaced (lines code) ≡ map spaced (written s) ++ ls
  pub valid : Valid code
  pub sized : IsSized code

ended_well : (files ops : ℕ) (t : Tables) (main : ℕ) (done : List Op) (n : ℕ) (code : Code) (test : Bool) →
    OperationsFit files ops t main done → ltb (length done) ops ≡ test →
    cond test (Err (flaw 1 n)) (Ok (code_with files t main done)) ≡ Ok code → IsRead (among_operations files ops t main done) [] [] code
ended_well files ops t main done n code true h test e = absurd cc
ended_well files ops t main done n code false h test e =
    let all : ops ≤ length done = ltb-false _ _ test in
    let few = h.few in
    let count : length done ≡ ops = omega arith in
    let same : code_with files t main done ≡ code = cc in
    subst (IsRead (among_operations files ops t main done) [] []) same (record {
      none_behind = refl;
      whole = ap (λ (k : ℕ). map spaced (files_line files ∷ ops_line k ∷
          (table_lines t.texts t.places t.functions t.classes ++ main_line main ∷ op_lines 0 done))) count ∙ sym (append-nil _);
      valid = read_valid files ops t main done h count;
      sized = read_sized files ops t main done h;
    })

ended_is : (s : Stage) (n : ℕ) (last : List ℕ) (code : Code) → FitsStage s → ended n last s ≡ Ok code → IsRead s [] last code
unfolding ended
ended_is first n [] code h e = absurd cc
ended_is first n (b ∷ last) code h e = absurd cc
ended_is (second files) n [] code h e = absurd cc
ended_is (second files) n (b ∷ last) code h e = absurd cc
ended_is (among_tables files ops t) n [] code h e = absurd cc
ended_is (among_tables files ops t) n (b ∷ last) code h e = absurd cc
ended_is (among_operations files ops t main done) n (b ∷ last) code h e = absurd cc
ended_is (among_operations files ops t main done) n [] code h e = ended_well files ops t main done n code (ltb (length done) ops) h refl e

line_ok : (n : ℕ) (r : Result Stage ℕ) (go : Stage → Result Code Flaw) (code : Code) → on_line n r go ≡ Ok code →
    (s : Stage) × (r ≡ Ok s) × (go s ≡ Ok code)
line_ok n (Ok s) go code e = (s, refl, e)
line_ok n (Err rule) go code e = absurd cc

read_is : (s : Stage) (n : ℕ) (ls : List (List ℕ)) (last : List ℕ) (code : Code) → FitsStage s → read_lines s n ls last ≡ Ok code →
    IsRead s ls last code
unfolding read_lines
read_is s n [] last code h e = ended_is s n last code h e
read_is s n (line ∷ ls) last code h e =
    let p = line_ok n (step s line) (λ next. read_lines next (suc n) ls last) code e in
    let x = step_is s p.0 line h p.1 in
    let y = read_is p.0 (suc n) ls last code x.fits p.2 in
    record {
      none_behind = y.none_behind;
      whole = y.whole ∙ ap (λ k. k ++ ls) x.more ∙ append_assoc (map spaced (written s)) (line ∷ []) ls;
      valid = y.valid;
      sized = y.sized;
    }

-- what is read is listed so
pub listing_is : (bytes : List ℕ) (code : Code) → listing_at bytes ≡ Ok code → Listing code bytes
listing_is bytes code e =
    let r = read_is first 1 (pieces 10 bytes).0 (pieces 10 bytes).1 code tt e in
    record { valid = r.valid; sized = r.sized; spelled = spelled_lines bytes (lines code) (sym r.whole) r.none_behind }
