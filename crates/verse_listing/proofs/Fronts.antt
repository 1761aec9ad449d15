-- A fault stands whatever follows its line, and the lines before it have none.
use Rattle.std.proofs.Common.{◌≡◌, ℕ, suc, ◌+◌, ◌<◌, Bool, true, false, cond, eqb, ltb, List, [], ◌∷◌, ◌++◌, length, Result, Ok, Err}
use Rattle.std.proofs.Common.{refl, sym, ap, subst, ◌∙◌, arith}
use Rattle.verse_code.specs.declared.codes.Code.{Code}
use Rattle.verse_code.specs.declared.operations.Op.{Op}
use Rattle.verse_listing_lines.specs.declared.tables.Tables.{Tables}
use Rattle.verse_listing_lines.specs.Lines.{Pieces, pieces, with_byte}
use Rattle.verse_listing.specs.declared.faults.Flaw.{Flaw}
use Rattle.verse_listing.specs.Reading.{Stage, first, second, among_tables, among_operations, step, flaw, code_with, ended, on_line}
use Rattle.verse_listing.specs.Reading.{read_lines}
use Rattle.verse_listing.specs.Reading.{listing_at}
use Rattle.verse_listing.specs.Laws.{FaultStays, FrontOf, AreLines, FrontHasNoFault}

abbrev fine : Code → Result Code Flaw
fine code = Ok code

pub code_is : (c d : Code) → fine c ≡ fine d → c ≡ d
code_is c d e = cc

abbrev bad : Flaw → Result Code Flaw
bad f = Err f

flaw_is : (f g : Flaw) → bad f ≡ bad g → f ≡ g
flaw_is f g e = cc

not_both : (f : Flaw) (code : Code) → bad f ≡ fine code → ⊥
not_both f code e = cc

-- ---- bytes and more of them

-- the lines of bytes with more behind them begin with those of the bytes
record Longer (x y : Pieces) : Type 0 where
  lines : List (List ℕ)
  begins : y.0 ≡ x.0 ++ lines

same_heads : (b : ℕ) (l m : List ℕ) (ls ms : List (List ℕ)) → m ∷ ms ≡ l ∷ ls → (b ∷ m) ∷ ms ≡ (b ∷ l) ∷ ls
same_heads b l m ls ms e =
    let one : m ≡ l = cc in
    let rest : ms ≡ ls = cc in
    ap (λ (k : List ℕ). (b ∷ k) ∷ ms) one ∙ ap (λ k. (b ∷ l) ∷ k) rest

no_lines : (l : List ℕ) (ls : List (List ℕ)) → [] ≡ l ∷ ls → ⊥
no_lines l ls e = cc

longer_byte : (b : ℕ) (x y : Pieces) → Longer x y → Longer (with_byte b x) (with_byte b y)
longer_byte b ([], last) (ys, end) h = record { lines = (with_byte b (ys, end)).0; begins = refl }
longer_byte b (l ∷ ls, last) ([], end) h = absurd (no_lines l (ls ++ h.lines) h.begins)
longer_byte b (l ∷ ls, last) (m ∷ ms, end) h = record { lines = h.lines; begins = same_heads b l m (ls ++ h.lines) ms h.begins }

longer_by : (b : ℕ) (x y : Pieces) (t : Bool) → Longer x y →
    Longer (cond t ([] ∷ x.0, x.1) (with_byte b x)) (cond t ([] ∷ y.0, y.1) (with_byte b y))
longer_by b x y true h = record { lines = h.lines; begins = ap (λ k. [] ∷ k) h.begins }
longer_by b x y false h = longer_byte b x y h

longer : (bytes more : List ℕ) → Longer (pieces 10 bytes) (pieces 10 (bytes ++ more))
unfolding pieces
longer [] more = record { lines = (pieces 10 more).0; begins = refl }
longer (b ∷ bytes) more = longer_by b (pieces 10 bytes) (pieces 10 (bytes ++ more)) (eqb b 10) (longer bytes more)

-- ---- a fault stays

-- the end is at the line behind all lines
ended_line : (n : ℕ) (last : List ℕ) (s : Stage) (f : Flaw) → ended n last s ≡ Err f → f ≡ flaw 1 n
unfolding ended
ended_line n [] first f e = sym (flaw_is (flaw 1 n) f e)
ended_line n (b ∷ last) first f e = sym (flaw_is (flaw 1 n) f e)
ended_line n [] (second files) f e = sym (flaw_is (flaw 1 n) f e)
ended_line n (b ∷ last) (second files) f e = sym (flaw_is (flaw 1 n) f e)
ended_line n [] (among_tables files ops t) f e = sym (flaw_is (flaw 1 n) f e)
ended_line n (b ∷ last) (among_tables files ops t) f e = sym (flaw_is (flaw 1 n) f e)
ended_line n (b ∷ last) (among_operations files ops t main done) f e = sym (flaw_is (flaw 1 n) f e)
ended_line n [] (among_operations files ops t main done) f e = by_test (ltb (length done) ops) e
  where
    by_test : (u : Bool) → cond u (Err (flaw 1 n)) (Ok (code_with files t main done)) ≡ Err f → f ≡ flaw 1 n
    by_test true e = sym (flaw_is (flaw 1 n) f e)
    by_test false e = absurd cc

lines_stay : (s : Stage) (n : ℕ) (ls xs : List (List ℕ)) (last end : List ℕ) (f : Flaw) → read_lines s n ls last ≡ Err f →
    f.line < n + length ls → read_lines s n (ls ++ xs) end ≡ Err f
unfolding read_lines
lines_stay s n [] xs last end f e lt =
    let line : f.line ≡ n = ap (λ (g : Flaw). g.line) (ended_line n last s f e) in
    absurd (omega arith)
lines_stay s n (l ∷ ls) xs last end f e lt =
    by_step (step s l) (λ next h. lines_stay next (suc n) ls xs last end f h (omega arith)) e
  where
    by_step : (r : Result Stage ℕ) → ((next : Stage) → read_lines next (suc n) ls last ≡ Err f →
        read_lines next (suc n) (ls ++ xs) end ≡ Err f) → on_line n r (λ next. read_lines next (suc n) ls last) ≡ Err f →
        on_line n r (λ next. read_lines next (suc n) (ls ++ xs) end) ≡ Err f
    by_step (Ok next) ih e = ih next e
    by_step (Err rule) ih e = e

pub fault_stays : FaultStays
fault_stays bytes more f e le =
    let h = longer bytes more in
    ap (λ k. read_lines first 1 k (pieces 10 (bytes ++ more)).1) h.begins ∙
    lines_stay first 1 (pieces 10 bytes).0 h.lines (pieces 10 bytes).1 (pieces 10 (bytes ++ more)).1 f e (omega arith)

-- ---- the front has none

-- a line that follows the last
follows : (files ops : ℕ) (t : Tables) (main : ℕ) (done : List Op) (n : ℕ) (xs : List (List ℕ)) (end : List ℕ) (f : Flaw) →
    ltb (length done) ops ≡ false → read_lines (among_operations files ops t main done) n xs end ≡ Err f → f.rule ≡ 1
unfolding read_lines ended step
follows files ops t main done n [] [] f test e =
    absurd (not_both f (code_with files t main done) (sym e ∙ rw test refl))
follows files ops t main done n [] (b ∷ end) f test e = ap (λ (g : Flaw). g.rule) (sym (flaw_is (flaw 1 n) f e))
follows files ops t main done n (x ∷ xs) end f test e =
    let stops : read_lines (among_operations files ops t main done) n (x ∷ xs) end ≡ Err (flaw 1 n) = rw test refl in
    ap (λ (g : Flaw). g.rule) (sym (flaw_is (flaw 1 n) f (sym stops ∙ e)))

missing : (n : ℕ) (f : Flaw) → f.line ≡ n → flaw 1 n ≡ flaw 1 f.line
missing n f e = ap (flaw 1) (sym e)

ended_front : (s : Stage) (n : ℕ) (xs : List (List ℕ)) (end : List ℕ) (f : Flaw) → f.line ≡ n → read_lines s n xs end ≡ Err f →
    FrontOf f (ended n [] s)
unfolding ended
ended_front first n xs end f line e = missing n f line
ended_front (second files) n xs end f line e = missing n f line
ended_front (among_tables files ops t) n xs end f line e = missing n f line
ended_front (among_operations files ops t main done) n xs end f line e =
    by_test (ltb (length done) ops) (λ test. follows files ops t main done n xs end f test e)
  where
    by_test : (u : Bool) → (u ≡ false → f.rule ≡ 1) → FrontOf f (cond u (Err (flaw 1 n)) (Ok (code_with files t main done)))
    by_test true h = missing n f line
    by_test false h = h refl

early : (rule n k : ℕ) (f : Flaw) → flaw rule n ≡ f → f.line ≡ n + suc k → ⊥
early rule n k f g line = omega (arith, ap (λ (g : Flaw). g.line) g)

-- the lines before, where the fault is at the line behind them
front_of : (s : Stage) (n : ℕ) (ls xs : List (List ℕ)) (end : List ℕ) (f : Flaw) → read_lines s n (ls ++ xs) end ≡ Err f →
    f.line ≡ n + length ls → FrontOf f (read_lines s n ls [])
unfolding read_lines
front_of s n [] xs end f e line = ended_front s n xs end f (omega arith) e
front_of s n (l ∷ ls) xs end f e line =
    by_step (step s l) (λ next h. front_of next (suc n) ls xs end f h (omega arith)) e
  where
    by_step : (r : Result Stage ℕ) → ((next : Stage) → read_lines next (suc n) (ls ++ xs) end ≡ Err f →
        FrontOf f (read_lines next (suc n) ls [])) → on_line n r (λ next. read_lines next (suc n) (ls ++ xs) end) ≡ Err f →
        FrontOf f (on_line n r (λ next. read_lines next (suc n) ls []))
    by_step (Ok next) ih e = ih next e
    by_step (Err rule) ih e = absurd (early rule n (length ls) f (flaw_is (flaw rule n) f e) line)

pub front_has_no_fault : FrontHasNoFault
front_has_no_fault front behind f n e line are =
    let h = longer front behind in
    let many = are.many in
    let shown : FrontOf f (read_lines first 1 (pieces 10 front).0 []) =
    front_of first 1 (pieces 10 front).0 h.lines (pieces 10 (front ++ behind)).1 f
    (ap (λ k. read_lines first 1 k (pieces 10 (front ++ behind)).1) (sym h.begins) ∙ e) (omega arith) in
    subst (λ (last : List ℕ). FrontOf f (read_lines first 1 (pieces 10 front).0 last)) (sym are.whole) shown

-- the same, of a fault that is answered
pub none_before : (bytes : List ℕ) (f : Flaw) → listing_at bytes ≡ Err f → (front behind : List ℕ) (n : ℕ) → bytes ≡ front ++ behind →
    f.line ≡ suc n → AreLines n front → FrontOf f (listing_at front)
none_before bytes f e front behind n split line are = front_has_no_fault front behind f n (ap listing_at (sym split) ∙ e) line are
