-- What is read is an image of the code, what is an image is read, and a code has one image in each version.
use Rattle.std.proofs.Common.{◌≡◌, ℕ, ◌+◌, ◌≤◌, true, eqb, ◌||◌, ◌⊎◌, inl, inr, List, [], ◌∷◌, ◌++◌, length, All, Ok, refl}
use Rattle.std.proofs.Common.{sym, ap, subst, ◌∙◌, arith, eq-eqb}
use Rattle.std.specs.List.{AllByRecursion}
use Rattle.std.proofs.lemmas.Bool.{eqb-true, or_cases}
use Rattle.std.proofs.lemmas.List.Elements.{All-from_recursion, recursion_from_All}
use Rattle.verse_code.specs.declared.operations.Op.{Op}
use Rattle.verse_code.specs.declared.codes.Code.{Code}
use Rattle.verse_code.specs.declared.validity.Sizes.{Sizes}
use Rattle.verse_code.specs.Operations.{code_of, operands_of}
use Rattle.verse_code.specs.Validity.{all_suit, sizes_of, IsText, IsPlace, IsFunction, IsClass, IsMain, Valid}
use Rattle.verse_image.specs.declared.tables.Tables.{Tables}
use Rattle.verse_image.specs.Format.{◌⨾◌, byte, plain, number, each, table, text, place, function, class, operation, mark, head, tables}
use Rattle.verse_image.specs.Format.{fields, IsVersion, Image}
use Rattle.verse_image.specs.Reading.{◌>>=◌, flaw, letter_at, mark_at, version_at, top_of, head_at, within_at, table_at, text_at, place_at}
use Rattle.verse_image.specs.Reading.{function_at, class_at, main_at, tables_at, ops_at, sizes_with, code_with, ended, image_at}
use Rattle.verse_image.specs.Numbers.{IsBytes}
use Rattle.verse_image.proofs.NumberLaws.{rest_bytes, bind_ok, test_ok, ok_is, Takes, within_take, within_again}
use Rattle.verse_image.proofs.TableLaws.{Once, once_then, once_number, once_plain, once_each, once_table, once_text, once_place}
use Rattle.verse_image.proofs.TableLaws.{once_function, once_class, TableFits, table_take, table_again, text_take, text_again, place_take}
use Rattle.verse_image.proofs.TableLaws.{place_again, function_take, function_again, class_take, class_again, main_take, main_again}
use Rattle.verse_image.proofs.OperationLaws.{ops_take, ops_again, once_operation, SuitFrom, suit_at, suit_codes, suit_from, codes_most}

-- ---- the mark and the version

record Marked (letters bytes rest : List ℕ) : Type 0 where
  spelled : bytes ≡ letters ++ rest
  fits : IsBytes rest

letter_take : (letter left : ℕ) (bytes rest : List ℕ) → IsBytes bytes → letter_at letter left bytes ≡ Ok rest →
    Marked (letter ∷ []) bytes rest
unfolding letter_at
letter_take letter left [] rest fits e = absurd cc
letter_take letter left (b ∷ tail) rest fits e =
    let g = test_ok (eqb b letter) (flaw 1 left) tail rest e in
    let same : b ≡ letter = eqb-true b letter g.0 in
    subst (λ (r : List ℕ). Marked (letter ∷ []) (b ∷ tail) r) g.1
    (record { spelled = ap (λ (c : ℕ). c ∷ tail) same; fits = rest_bytes b tail fits })

pub letter_again : (letter left : ℕ) (rest : List ℕ) → letter_at letter left (letter ∷ rest) ≡ Ok rest
unfolding letter_at
letter_again letter left rest = let t : eqb letter letter ≡ true = eq-eqb letter letter refl in rw t refl

mark_take : (letters : List ℕ) (left : ℕ) (bytes rest : List ℕ) → IsBytes bytes → mark_at letters left bytes ≡ Ok rest →
    Marked letters bytes rest
mark_take [] left bytes rest fits e = subst (Marked [] bytes) (ok_is bytes rest e) (record { spelled = refl; fits = fits })
mark_take (letter ∷ letters) left bytes rest fits e =
    let p = bind_ok (letter_at letter left bytes) (mark_at letters left) rest e in
    let first = letter_take letter left bytes p.0 fits p.1 in
    let others = mark_take letters left p.0 rest first.fits p.2 in
    record { spelled = first.spelled ∙ ap (λ (w : List ℕ). letter ∷ w) others.spelled; fits = others.fits }

pub mark_again : (letters : List ℕ) (left : ℕ) (rest : List ℕ) → mark_at letters left (letters ++ rest) ≡ Ok rest
mark_again [] left rest = refl
mark_again (letter ∷ letters) left rest = rw (letter_again letter left (letters ++ rest)) (mark_again letters left rest)

abbrev IsKnown : ℕ → Type 0
IsKnown version = (version ≡ 1) ⊎ (version ≡ 2)

version_take : (bytes : List ℕ) (x : ℕ × List ℕ) → IsBytes bytes → version_at bytes ≡ Ok x → Takes (byte x.0) bytes x.1 × IsKnown x.0
unfolding version_at
version_take [] x fits e = absurd cc
version_take (b ∷ tail) x fits e =
    let g = test_ok (eqb b 1 || eqb b 2) (flaw 2 (length (b ∷ tail))) (b, tail) x e in
    let known : IsKnown b = elim (or_cases _ _ g.0) [ inl h ↦ inl (eqb-true b 1 h) | inr h ↦ inr (eqb-true b 2 h) ] in
    subst (λ (y : ℕ × List ℕ). Takes (byte y.0) (b ∷ tail) y.1 × IsKnown y.0) g.1 (
      record { spelled = refl; fits = rest_bytes b tail fits },
      known,
    )

version_again : (version : ℕ) (rest : List ℕ) → IsKnown version → version_at (version ∷ rest) ≡ Ok (version, rest)
unfolding version_at
version_again version rest (inl e) = rw e refl
version_again version rest (inr e) = rw e refl

-- ---- how the image begins

record HeadTake (bytes : List ℕ) (x : (ℕ × ℕ × ℕ) × List ℕ) : Type 0 where
  takes : Takes (head x.0.0 x.0.1 x.0.2) bytes x.1
  known : IsKnown x.0.0
  files : (1 ≤ x.0.1) × (x.0.1 ≤ 16)
  ops : (1 ≤ x.0.2) × (x.0.2 ≤ 16777216)

head_take : (bytes : List ℕ) (x : (ℕ × ℕ × ℕ) × List ℕ) → IsBytes bytes → head_at bytes ≡ Ok x → HeadTake bytes x
unfolding head_at
head_take bytes x b e =
    let p = bind_ok (mark_at mark (length bytes) bytes) (λ behind. version_at behind >>= λ version. within_at 1 17 version.1 >>= λ files.
    within_at 1 16777217 files.1 >>= λ ops. Ok ((version.0, files.0, ops.0), ops.1)) x e in
    let q = bind_ok (version_at p.0) (λ version. within_at 1 17 version.1 >>= λ files. within_at 1 16777217 files.1 >>= λ ops.
    Ok ((version.0, files.0, ops.0), ops.1)) x p.2 in
    let r = bind_ok (within_at 1 17 q.0.1) (λ files. within_at 1 16777217 files.1 >>= λ ops. Ok ((q.0.0, files.0, ops.0), ops.1)) x q.2 in
    let s = bind_ok (within_at 1 16777217 r.0.1) (λ ops. Ok ((q.0.0, r.0.0, ops.0), ops.1)) x r.2 in
    let marked = mark_take mark (length bytes) bytes p.0 b p.1 in
    let version = version_take p.0 q.0 marked.fits q.1 in
    let files = within_take 1 17 q.0.1 r.0 version.0.fits r.1 in
    let ops = within_take 1 16777217 r.0.1 s.0 files.0.fits s.1 in
    subst (HeadTake bytes) (ok_is ((q.0.0, r.0.0, s.0.0), s.0.1) x s.2)
    (record {
      takes = record {
        spelled = (r.0.1, (q.0.1, (p.0, marked.spelled, version.0.spelled), files.0.spelled), ops.0.spelled);
        fits =
            ops.0.fits;
      };
      known = version.1;
      files = (files.1, omega (arith, files.2));
      ops = (ops.1, omega (arith, ops.2));
    })

head_again : (version files ops : ℕ) (bytes rest : List ℕ) → IsKnown version → (1 ≤ files) × (files ≤ 16) → (1 ≤ ops) × (ops ≤ 16777216) →
    head version files ops bytes rest → head_at bytes ≡ Ok ((version, files, ops), rest)
unfolding head_at
head_again version files ops bytes rest known f o h =
    let marked : mark_at mark (length bytes) bytes ≡ Ok h.1.1.0 =
    ap (mark_at mark (length bytes)) h.1.1.1 ∙ mark_again mark (length bytes) h.1.1.0 in
    let versioned : version_at h.1.1.0 ≡ Ok (version, h.1.0) = ap version_at h.1.1.2 ∙ version_again version h.1.0 known in
    rw (
      marked,
      versioned,
      within_again 1 17 files h.1.0 h.0 h.1.2 f.0 (omega (arith, f.1)),
      within_again 1 16777217 ops h.0 rest h.2 o.0 (omega (arith, o.1)),
    ) refl

-- ---- the tables

record TablesTake (files ops : ℕ) (bytes : List ℕ) (x : Tables × List ℕ) : Type 0 where
  takes : Takes (tables (code_with files x.0 [])) bytes x.1
  texts : TableFits IsText x.0.texts
  places : TableFits (IsPlace files) x.0.places
  functions : TableFits (IsFunction ops) x.0.functions
  classes : TableFits (IsClass (length x.0.functions)) x.0.classes
  main : IsMain x.0.functions x.0.main

tables_take : (files ops : ℕ) (bytes : List ℕ) (x : Tables × List ℕ) → IsBytes bytes → tables_at files ops bytes ≡ Ok x →
    TablesTake files ops bytes x
unfolding tables_at
tables_take files ops bytes x b e =
    let p = bind_ok (table_at text_at bytes) (λ texts. table_at (place_at files) texts.1 >>= λ places.
    table_at (function_at ops) places.1 >>= λ functions. table_at (class_at (length functions.0)) functions.1 >>= λ classes.
    main_at functions.0 classes.1 >>= λ main.
    Ok (record { texts = texts.0; places = places.0; functions = functions.0; classes = classes.0; main = main.0 }, main.1)) x e in
    let q = bind_ok (table_at (place_at files) p.0.1) (λ places. table_at (function_at ops) places.1 >>= λ functions.
    table_at (class_at (length functions.0)) functions.1 >>= λ classes. main_at functions.0 classes.1 >>= λ main.
    Ok (record { texts = p.0.0; places = places.0; functions = functions.0; classes = classes.0; main = main.0 }, main.1)) x p.2 in
    let r = bind_ok (table_at (function_at ops) q.0.1) (λ functions. table_at (class_at (length functions.0)) functions.1 >>= λ classes.
    main_at functions.0 classes.1 >>= λ main.
    Ok (record { texts = p.0.0; places = q.0.0; functions = functions.0; classes = classes.0; main = main.0 }, main.1)) x q.2 in
    let s = bind_ok (table_at (class_at (length r.0.0)) r.0.1) (λ classes. main_at r.0.0 classes.1 >>= λ main.
    Ok (record { texts = p.0.0; places = q.0.0; functions = r.0.0; classes = classes.0; main = main.0 }, main.1)) x r.2 in
    let t = bind_ok (main_at r.0.0 s.0.1) (λ main.
    Ok (record { texts = p.0.0; places = q.0.0; functions = r.0.0; classes = s.0.0; main = main.0 }, main.1)) x s.2 in
    let texts = table_take text text_at IsText text_take bytes p.0 b p.1 in
    let places = table_take place (place_at files) (IsPlace files) (place_take files) p.0.1 q.0 texts.0.fits q.1 in
    let functions = table_take function (function_at ops) (IsFunction ops) (function_take ops) q.0.1 r.0 places.0.fits r.1 in
    let classes = table_take class (class_at (length r.0.0)) (IsClass (length r.0.0)) (class_take (length r.0.0)) r.0.1 s.0 functions.0.fits
    s.1 in
    let main = main_take r.0.0 s.0.1 t.0 classes.0.fits t.1 in
    let made : Tables × List ℕ = (record { texts = p.0.0; places = q.0.0; functions = r.0.0; classes = s.0.0; main = t.0.0 }, t.0.1) in
    subst (TablesTake files ops bytes) (ok_is made x t.2)
    (record {
      takes = record {
        spelled = (
          s.0.1,
          (
            r.0.1,
            (q.0.1, (p.0.1, texts.0.spelled, places.0.spelled), functions.0.spelled),
            classes.0.spelled,
          ),
          main.0.spelled,
        );
        fits = main.0.fits;
      };
      texts = texts.1;
      places = places.1;
      functions = functions.1;
      classes = classes.1;
      main = main.1;
    })

abbrev tables_of : Code → Tables
tables_of code = record { texts = code.texts; places = code.places; functions = code.functions; classes = code.classes; main = code.main }

tables_again : (code : Code) (bytes rest : List ℕ) → Valid code → tables code bytes rest →
    tables_at code.files (length code.ops) bytes ≡ Ok (tables_of code, rest)
unfolding tables_at
tables_again code bytes rest valid h =
    let ops = length code.ops in
    let functions = length code.functions in
    rw (
      table_again text text_at IsText text_again code.texts bytes h.1.1.1.0 (recursion_from_All IsText code.texts valid.texts) h.1.1.1.1,
      table_again place (place_at code.files) (IsPlace code.files) (place_again code.files) code.places h.1.1.1.0 h.1.1.0
          (recursion_from_All (IsPlace code.files) code.places valid.places) h.1.1.1.2,
      table_again function (function_at ops) (IsFunction ops) (function_again ops) code.functions h.1.1.0 h.1.0
          (recursion_from_All (IsFunction ops) code.functions valid.functions) h.1.1.2,
      table_again class (class_at functions) (IsClass functions) (class_again functions) code.classes h.1.0 h.0
          (recursion_from_All (IsClass functions) code.classes valid.classes) h.1.2,
      main_again code.functions code.main h.0 rest valid.main h.2,
    ) refl

-- ---- the image

ended_take : (code d : Code) (bytes : List ℕ) → ended code bytes ≡ Ok d → (bytes ≡ []) × (code ≡ d)
ended_take code d [] e = (refl, ok_is code d e)
ended_take code d (b ∷ bytes) e = absurd cc

first_version : (ops : List Op) (sizes : Sizes) (version : ℕ) → IsKnown version → SuitFrom sizes (top_of version) 0 ops →
    ((version ≡ 1) × All (λ op. code_of op ≤ 63) ops) ⊎ (version ≡ 2)
first_version ops sizes version (inl e) h =
    let suited : SuitFrom sizes 63 0 ops = subst (λ (v : ℕ). SuitFrom sizes (top_of v) 0 ops) e h in
    inl (e, All-from_recursion (λ op. code_of op ≤ 63) ops (suit_codes sizes 63 0 ops suited))
first_version ops sizes version (inr e) h = inr e

pub image_take : (bytes : List ℕ) (code : Code) → IsBytes bytes → image_at bytes ≡ Ok code → (version : ℕ) × Image version code bytes
unfolding image_at
image_take bytes code b e =
    let p = bind_ok (head_at bytes) (λ h. tables_at h.0.1 h.0.2 h.1 >>= λ t. ops_at (sizes_with h.0.2 t.0) (top_of h.0.0) 0 h.0.2 t.1 >>=
    λ ops. ended (code_with h.0.1 t.0 ops.0) ops.1) code e in
    let h = p.0 in
    let q = bind_ok (tables_at h.0.1 h.0.2 h.1) (λ t. ops_at (sizes_with h.0.2 t.0) (top_of h.0.0) 0 h.0.2 t.1 >>= λ ops.
    ended (code_with h.0.1 t.0 ops.0) ops.1) code p.2 in
    let t = q.0 in
    let r = bind_ok (ops_at (sizes_with h.0.2 t.0) (top_of h.0.0) 0 h.0.2 t.1) (λ ops. ended (code_with h.0.1 t.0 ops.0) ops.1) code q.2 in
    let ops = r.0 in
    let starts = head_take bytes h b p.1 in
    let tabled = tables_take h.0.1 h.0.2 h.1 t starts.takes.fits q.1 in
    let suited = ops_take (sizes_with h.0.2 t.0) (top_of h.0.0) 0 h.0.2 t.1 ops tabled.takes.fits r.1 in
    let end = ended_take (code_with h.0.1 t.0 ops.0) code ops.1 r.2 in (
      h.0.0,
      subst (λ (d : Code). Image h.0.0 d bytes) end.1
          (image_made bytes h t ops starts tabled suited.takes suited.count suited.suit end.0),
    )
  where
    image_made : (bytes : List ℕ) (h : (ℕ × ℕ × ℕ) × List ℕ) (t : Tables × List ℕ) (ops : List Op × List ℕ) → HeadTake bytes h →
        TablesTake h.0.1 h.0.2 h.1 t → Takes (each operation ops.0) t.1 ops.1 → length ops.0 ≡ h.0.2 →
        SuitFrom (sizes_with h.0.2 t.0) (top_of h.0.0) 0 ops.0 → ops.1 ≡ [] → Image h.0.0 (code_with h.0.1 t.0 ops.0) bytes
    image_made bytes h t ops starts tabled takes count suit end =
        let code = code_with h.0.1 t.0 ops.0 in
        let sizes : sizes_with h.0.2 t.0 ≡ sizes_of code = ap (λ (n : ℕ). sizes_with n t.0) (sym count) in
        record {
          valid = record {
            counts = record {
              files = starts.files;
              ops = (omega (arith, starts.ops.0), omega (arith, starts.ops.1));
              texts =
                  tabled.texts.0;
              places = tabled.places.0;
              functions = tabled.functions.0;
              classes = tabled.classes.0;
            };
            texts = All-from_recursion IsText t.0.texts tabled.texts.1;
            places = All-from_recursion (IsPlace h.0.1) t.0.places tabled.places.1;
            functions = subst (λ (n : ℕ). All (IsFunction n) t.0.functions) (sym count)
                (All-from_recursion (IsFunction h.0.2) t.0.functions tabled.functions.1);
            classes = All-from_recursion (IsClass (length t.0.functions)) t.0.classes tabled.classes.1;
            main = tabled.main;
            operations = λ at op e. let here : 0 + at ≡ at = omega arith in
                subst (λ (z : Sizes). all_suit z at (operands_of op) ≡ true) sizes
                (subst (λ (a : ℕ). all_suit (sizes_with h.0.2 t.0) a (operands_of op) ≡ true) here
                (suit_at (sizes_with h.0.2 t.0) (top_of h.0.0) 0 at ops.0 op suit e));
          };
          versioned = first_version ops.0 (sizes_with h.0.2 t.0) h.0.0 starts.known suit;
          spelled = (
            t.1,
            (h.1, subst (λ (n : ℕ). head h.0.0 h.0.1 n bytes h.1) (sym count) starts.takes.spelled, tabled.takes.spelled),
            subst (λ (w : List ℕ). each operation ops.0 t.1 w) end takes.spelled,
          );
        }

known_from : (version : ℕ) (code : Code) → IsVersion version code → IsKnown version
known_from version code (inl h) = inl h.0
known_from version code (inr h) = inr h

tops_from : (version : ℕ) (code : Code) → IsVersion version code → AllByRecursion (λ op. code_of op ≤ top_of version) code.ops
tops_from version code (inl h) = rw h.0 (recursion_from_All (λ op. code_of op ≤ 63) code.ops h.1)
tops_from version code (inr h) = rw h (codes_most code.ops)

pub image_again : (version : ℕ) (code : Code) (bytes : List ℕ) → Image version code bytes → image_at bytes ≡ Ok code
unfolding image_at
image_again version code bytes i =
    let h = i.spelled in
    let suit : SuitFrom (sizes_of code) (top_of version) 0 code.ops =
    suit_from (sizes_of code) (top_of version) 0 code.ops (λ at op e. let here : 0 + at ≡ at = omega arith in
    rw here (i.valid.operations at op e)) (tops_from version code i.versioned) in
    rw (
      head_again version code.files (length code.ops) bytes h.1.0 (known_from version code i.versioned) i.valid.counts.files
          i.valid.counts.ops h.1.1,
      tables_again code h.1.0 h.0 i.valid h.1.2,
      ops_again (sizes_of code) (top_of version) 0 code.ops h.0 [] suit h.2,
    ) refl

pub image_once : (version : ℕ) (code : Code) (a b : List ℕ) → Image version code a → Image version code b → a ≡ b
image_once version code a b i j = whole a b [] i.spelled j.spelled
  where
    start : Once (head version code.files (length code.ops))
    start =
        once_then (plain mark ⨾ byte version ⨾ number code.files) (number (length code.ops))
        (once_then (plain mark ⨾ byte version) (number code.files)
        (once_then (plain mark) (byte version) (once_plain mark) (λ x y z p q. p ∙ sym q)) (once_number code.files))
        (once_number (length code.ops))

    tabled : Once (tables code)
    tabled =
        once_then (table text code.texts ⨾ table place code.places ⨾ table function code.functions ⨾ table class code.classes)
        (number code.main)
        (once_then (table text code.texts ⨾ table place code.places ⨾ table function code.functions) (table class code.classes)
        (once_then (table text code.texts ⨾ table place code.places) (table function code.functions)
        (once_then (table text code.texts) (table place code.places) (once_table text once_text code.texts)
        (once_table place once_place code.places))
        (once_table function once_function code.functions)) (once_table class once_class code.classes)) (once_number code.main)

    whole : Once (fields version code)
    whole =
        once_then (head version code.files (length code.ops) ⨾ tables code) (each operation code.ops)
        (once_then (head version code.files (length code.ops)) (tables code) start tabled) (once_each operation once_operation code.ops)

pub one_code : (bytes : List ℕ) (v w : ℕ) (c d : Code) → Image v c bytes → Image w d bytes → c ≡ d
one_code bytes v w c d p q = let a = image_again v c bytes p in let b = image_again w d bytes q in cc (a, b)
