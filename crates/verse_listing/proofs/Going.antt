-- Reading goes on behind a line, or stops at it.
use Rattle.std.proofs.Common.{◌≡◌, ℕ, suc, ◌<◌, ◌≤◌, Bool, true, false, cond, eqb, ltb, List, [], ◌∷◌, ◌++◌, length, Option, Result, Ok}
use Rattle.std.proofs.Common.{Err, refl, sym, ap, subst, ◌∙◌, arith}
use Rattle.std.proofs.lemmas.Bool.{lt-ltb, le-ltb}
use Rattle.verse_code.specs.declared.codes.Code.{Code}
use Rattle.verse_code.specs.declared.operations.Op.{Op}
use Rattle.verse_code.specs.declared.validity.Sizes.{Sizes}
use Rattle.verse_listing_lines.specs.declared.faults.LineFault.{LineFault}
use Rattle.verse_listing_lines.specs.declared.faults.LineFault.TheVariants as lines
use Rattle.verse_listing_lines.specs.declared.tables.Tables.{Tables}
use Rattle.verse_listing_lines.specs.Lines.{◌>>=◌, Pieces, pieces, with_byte, words, files_of, ops_of, op_of, no_tables, sizes_with}
use Rattle.verse_listing_lines.specs.Lines.{table_line_of}
use Rattle.verse_listing_lines.specs.Answers.{with_piece, Breaks}
use Rattle.verse_listing.specs.declared.faults.Flaw.{Flaw}
use Rattle.verse_listing.specs.declared.faults.ReadFault.{ReadFault}
use Rattle.verse_listing.specs.declared.faults.ReadFault.TheVariants as reading
use Rattle.verse_listing.specs.Reading.{Stage, first, second, among_tables, among_operations, stage_with, step, flaw, code_with, ended}
use Rattle.verse_listing.specs.Reading.{on_line, read_lines, read_on}
use Rattle.verse_listing.specs.Answers.{Stops, fault_at, IsOpen}

-- ---- a line is cut off

pub line_cut : (bytes line rest : List ℕ) (n m : ℕ) → pieces 10 bytes ≡ with_piece line (pieces 10 rest) → m ≡ suc n → (stage : Stage) →
    read_on stage n bytes ≡ on_line n (step stage line) (λ next. read_on next m rest)
unfolding read_lines
line_cut bytes line rest n m e f stage =
    ap (λ (p : Pieces). read_lines stage n p.0 p.1) e ∙ ap (λ k. on_line n (step stage line) (λ next. read_on next k rest)) (sym f)

open_ended : (stage : Stage) (n : ℕ) (last : List ℕ) → IsOpen stage → ended n last stage ≡ Err (flaw 1 n)
unfolding ended
open_ended first n [] o = refl
open_ended first n (b ∷ last) o = refl
open_ended (second files) n [] o = refl
open_ended (second files) n (b ∷ last) o = refl
open_ended (among_tables files ops t) n [] o = refl
open_ended (among_tables files ops t) n (b ∷ last) o = refl
open_ended (among_operations files ops t main done) n [] o = let test : ltb (length done) ops ≡ true = lt-ltb _ _ o in rw test refl
open_ended (among_operations files ops t main done) n (b ∷ last) o = refl

pub stopped : (f : ReadFault) (g : Flaw) (read : Result Code Flaw) → f ≡ reading.Bad g → read ≡ Err g → Stops f read
stopped f g read e h = subst (λ f. Stops f read) (sym e) h

pub line_none : (bytes : List ℕ) (n : ℕ) (f : ReadFault) → pieces 10 bytes ≡ ([], bytes) → f ≡ reading.Bad (flaw 1 n) → (stage : Stage) →
    IsOpen stage → Stops f (read_on stage n bytes)
unfolding read_lines
line_none bytes n f e g stage o =
    stopped f (flaw 1 n) (read_on stage n bytes) g (ap (λ (p : Pieces). read_lines stage n p.0 p.1) e ∙ open_ended stage n bytes o)

-- ---- what the line gives

pub on_ok : (n : ℕ) (r : Result Stage ℕ) (next : Stage) (go : Stage → Result Code Flaw) (read : Result Code Flaw) → r ≡ Ok next →
    read ≡ on_line n r go → read ≡ go next
on_ok n r next go read e h = h ∙ ap (λ k. on_line n k go) e

pub on_broken : (n : ℕ) (r : Result Stage ℕ) (go : Stage → Result Code Flaw) (read : Result Code Flaw) (e : LineFault) (f : ReadFault) →
    Breaks e r → f ≡ fault_at n e → read ≡ on_line n r go → Stops f read
on_broken n r go read lines.Memory f b g h = subst (λ f. Stops f read) (sym g) tt
on_broken n r go read (lines.Broken rule) f b g h = subst (λ f. Stops f read) (sym g) (h ∙ ap (λ k. on_line n k go) b)

breaks_then : {A B : Type 0} (e : LineFault) (r : Result A ℕ) (f : A → Result B ℕ) → Breaks e r → Breaks e (r >>= f)
breaks_then lines.Memory r f b = tt
breaks_then (lines.Broken rule) r f b = ap (λ k. k >>= f) b

pub first_ok : (line : List ℕ) (files : ℕ) → files_of (words line) ≡ Ok files → step first line ≡ Ok (second files)
unfolding step
first_ok line files e = rw e refl

pub first_breaks : (e : LineFault) (line : List ℕ) → Breaks e (files_of (words line)) → Breaks e (step first line)
unfolding step
first_breaks e line b = breaks_then e (files_of (words line)) (λ files. Ok (second files)) b

pub second_ok : (files : ℕ) (line : List ℕ) (ops : ℕ) → ops_of (words line) ≡ Ok ops →
    step (second files) line ≡ Ok (among_tables files ops no_tables)
unfolding step
second_ok files line ops e = rw e refl

pub second_breaks : (e : LineFault) (files : ℕ) (line : List ℕ) → Breaks e (ops_of (words line)) → Breaks e (step (second files) line)
unfolding step
second_breaks e files line b = breaks_then e (ops_of (words line)) (λ ops. Ok (among_tables files ops no_tables)) b

pub tables_ok : (files ops : ℕ) (t u : Tables) (o : Option ℕ) (line : List ℕ) → table_line_of files ops t (words line) ≡ Ok (u, o) →
    step (among_tables files ops t) line ≡ Ok (stage_with files ops (u, o))
unfolding step
tables_ok files ops t u o line e = rw e refl

pub tables_break : (e : LineFault) (files ops : ℕ) (t : Tables) (line : List ℕ) → Breaks e (table_line_of files ops t (words line)) →
    Breaks e (step (among_tables files ops t) line)
unfolding step
tables_break e files ops t line b = breaks_then e (table_line_of files ops t (words line)) (λ told. Ok (stage_with files ops told)) b

pub ops_ok : (files count : ℕ) (t : Tables) (main : ℕ) (done : List Op) (op : Op) (sizes : Sizes) (at : ℕ) (line : List ℕ) →
    sizes_with count t ≡ sizes → length done ≡ at → at < count → op_of sizes at (words line) ≡ Ok op →
    step (among_operations files count t main done) line ≡ Ok (among_operations files count t main (done ++ op ∷ []))
unfolding step
ops_ok files count t main done op sizes at line s a lt e =
    let test : ltb (length done) count ≡ true = lt-ltb _ _ (omega arith) in
    rw (test, s, a, e) refl

pub ops_break : (e : LineFault) (files count : ℕ) (t : Tables) (main : ℕ) (done : List Op) (sizes : Sizes) (at : ℕ) (line : List ℕ) →
    sizes_with count t ≡ sizes → length done ≡ at → at < count → Breaks e (op_of sizes at (words line)) →
    Breaks e (step (among_operations files count t main done) line)
unfolding step
ops_break e files count t main done sizes at line s a lt b =
    let test : ltb (length done) count ≡ true = lt-ltb _ _ (omega arith) in
    let same : op_of sizes at (words line) ≡ op_of (sizes_with count t) (length done) (words line) = rw (s, a) refl in
    rw test (breaks_then e (op_of (sizes_with count t) (length done) (words line))
    (λ op. Ok (among_operations files count t main (done ++ op ∷ []))) (subst (Breaks e) same b))

-- ---- the end

pub ends_well : (files count : ℕ) (t : Tables) (main : ℕ) (done : List Op) (n : ℕ) (bytes : List ℕ) → length done ≡ count →
    length bytes ≡ 0 → read_on (among_operations files count t main done) n bytes ≡ Ok (code_with files t main done)
unfolding read_lines ended pieces
ends_well files count t main done n [] e z = let test : ltb (length done) count ≡ false = le-ltb _ _ (omega arith) in rw test refl
ends_well files count t main done n (b ∷ bytes) e z = absurd (omega arith)

no_cons : {A : Type 0} (a : A) (others : List A) → a ∷ others ≡ [] → ⊥
no_cons a others e = cc

-- a byte is in a line, or in what stands behind the last
some_piece : (t : Bool) (b : ℕ) (x : Pieces) → cond t ([] ∷ x.0, x.1) (with_byte b x) ≡ ([], []) → ⊥
some_piece true b x e = no_cons [] x.0 (ap (λ (p : Pieces). p.0) e)
some_piece false b ([], last) e = no_cons b last (ap (λ (p : Pieces). p.1) e)
some_piece false b (piece ∷ others, last) e = no_cons (b ∷ piece) others (ap (λ (p : Pieces). p.0) e)

line_follows : (files count : ℕ) (t : Tables) (main : ℕ) (done : List Op) (n b : ℕ) (bytes : List ℕ) (p : Pieces) → length done ≡ count →
    pieces 10 (b ∷ bytes) ≡ p → read_lines (among_operations files count t main done) n p.0 p.1 ≡ Err (flaw 1 n)
unfolding read_lines ended step pieces
line_follows files count t main done n b bytes ([], []) e h = absurd (some_piece (eqb b 10) b (pieces 10 bytes) h)
line_follows files count t main done n b bytes ([], c ∷ last) e h = refl
line_follows files count t main done n b bytes (line ∷ others, last) e h =
    let test : ltb (length done) count ≡ false = le-ltb _ _ (omega arith) in rw test refl

pub ends_badly : (files count : ℕ) (t : Tables) (main : ℕ) (done : List Op) (n : ℕ) (bytes : List ℕ) → length done ≡ count →
    1 ≤ length bytes → read_on (among_operations files count t main done) n bytes ≡ Err (flaw 1 n)
ends_badly files count t main done n [] e z = absurd (omega arith)
ends_badly files count t main done n (b ∷ bytes) e z = line_follows files count t main done n b bytes (pieces 10 (b ∷ bytes)) e refl
