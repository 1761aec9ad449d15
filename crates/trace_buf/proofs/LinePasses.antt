-- The bytes of a line, and of lines, that pass to a sink.
use Rattle.std.proofs.Common.{◌≡◌, ℕ, ◌+◌, ◌<◌, List, [], ◌∷◌, ◌++◌, Option, length, take, map, get_or, ap, sym, ◌∙◌, subst, decimal, arith}
use Rattle.std.proofs.Math.ListN.{get_or-map}
use Rattle.std.proofs.lemmas.List.{length-map}
use Rattle.verse_base.specs.TraceLine.{escaped, line_bytes}
use Rattle.trace_buf.specs.declared.lines.Kept.{Kept}
use Rattle.trace_buf.specs.Lines.{line_of}
use Rattle.trace_buf.specs.Passing.{Passed, Stopped}
use Rattle.trace_buf.specs.Trace.{line_text, printed}
use Rattle.trace_buf.proofs.Passes.{passed_at, passed_then, stopped_at, stopped_before, stopped_then}

-- the digits of the moment, a blank, the text, a line feed
pub line_passed : {t0 t1 t2 t3 t4 : Option (List ℕ)} {h0 h1 h2 h3 h4 : List ℕ} (now : ℕ) (text digits : List ℕ) → digits ≡ decimal now →
    Passed t0 h0 digits t1 h1 → Passed t1 h1 (32 ∷ []) t2 h2 → Passed t2 h2 (escaped text) t3 h3 → Passed t3 h3 (10 ∷ []) t4 h4 →
    Passed t0 h0 (line_bytes now text) t4 h4
line_passed {t0 = t0} {t1 = t1} {h0 = h0} {h1 = h1} now text digits e p q r s =
    passed_then (subst (λ ds. Passed t0 h0 ds t1 h1) e p) (passed_then q (passed_then r s))

pub stopped_digits : {t0 t1 : Option (List ℕ)} {h0 : List ℕ} (now : ℕ) (text digits : List ℕ) → digits ≡ decimal now →
    Stopped t0 h0 digits t1 → Stopped t0 h0 (line_bytes now text) t1
stopped_digits {t0 = t0} {t1 = t1} {h0 = h0} now text digits e p =
    stopped_before (subst (λ ds. Stopped t0 h0 ds t1) e p) (32 ∷ (escaped text ++ 10 ∷ []))

pub stopped_blank : {t0 t1 t2 : Option (List ℕ)} {h0 h1 : List ℕ} (now : ℕ) (text digits : List ℕ) → digits ≡ decimal now →
    Passed t0 h0 digits t1 h1 → Stopped t1 h1 (32 ∷ []) t2 → Stopped t0 h0 (line_bytes now text) t2
stopped_blank {t0 = t0} {t1 = t1} {h0 = h0} {h1 = h1} now text digits e p q =
    stopped_then (subst (λ ds. Passed t0 h0 ds t1 h1) e p) (stopped_before q (escaped text ++ 10 ∷ []))

pub stopped_text : {t0 t1 t2 t3 : Option (List ℕ)} {h0 h1 h2 : List ℕ} (now : ℕ) (text digits : List ℕ) → digits ≡ decimal now →
    Passed t0 h0 digits t1 h1 → Passed t1 h1 (32 ∷ []) t2 h2 → Stopped t2 h2 (escaped text) t3 → Stopped t0 h0 (line_bytes now text) t3
stopped_text {t0 = t0} {t1 = t1} {h0 = h0} {h1 = h1} now text digits e p q r =
    stopped_then (subst (λ ds. Passed t0 h0 ds t1 h1) e p) (stopped_then q (stopped_before r (10 ∷ [])))

pub stopped_end : {t0 t1 t2 t3 t4 : Option (List ℕ)} {h0 h1 h2 h3 : List ℕ} (now : ℕ) (text digits : List ℕ) → digits ≡ decimal now →
    Passed t0 h0 digits t1 h1 → Passed t1 h1 (32 ∷ []) t2 h2 → Passed t2 h2 (escaped text) t3 h3 → Stopped t3 h3 (10 ∷ []) t4 →
    Stopped t0 h0 (line_bytes now text) t4
stopped_end {t0 = t0} {t1 = t1} {h0 = h0} {h1 = h1} now text digits e p q r s =
    stopped_then (subst (λ ds. Passed t0 h0 ds t1 h1) e p) (stopped_then q (stopped_then r s))

-- the line at i
line_at : (lines : List Kept) (i : ℕ) (k : Kept) (text : List ℕ) → k ≡ get_or lines i k → text ≡ k.text.items →
    get_or (map line_of lines) i (line_of k) ≡ (k.now, text)
line_at lines i k text e f = get_or-map line_of lines i k ∙ ap line_of (sym e) ∙ ap (λ t. (k.now, t)) (sym f)

pub lines_passed : {t0 t1 t2 : Option (List ℕ)} {h0 h1 h2 : List ℕ} (lines : List Kept) (i : ℕ) (k : Kept) (text : List ℕ) →
    i < length lines → k ≡ get_or lines i k → text ≡ k.text.items → Passed t0 h0 (printed (take i (map line_of lines))) t1 h1 →
    Passed t1 h1 (line_bytes k.now text) t2 h2 → Passed t0 h0 (printed (take (i + 1) (map line_of lines))) t2 h2
lines_passed {t1 = t1} {t2 = t2} {h1 = h1} {h2 = h2} lines i k text h e f p q =
    passed_at line_text (map line_of lines) i (line_of k) (omega (arith, h, length-map lines line_of)) p
    (subst (λ l. Passed t1 h1 (line_text l) t2 h2) (sym (line_at lines i k text e f)) q)

pub lines_stopped : {t0 t1 t2 : Option (List ℕ)} {h0 h1 : List ℕ} (lines : List Kept) (i : ℕ) (k : Kept) (text : List ℕ) →
    i < length lines → k ≡ get_or lines i k → text ≡ k.text.items → Passed t0 h0 (printed (take i (map line_of lines))) t1 h1 →
    Stopped t1 h1 (line_bytes k.now text) t2 → Stopped t0 h0 (printed (map line_of lines)) t2
lines_stopped {t1 = t1} {t2 = t2} {h1 = h1} lines i k text h e f p q =
    stopped_at line_text (map line_of lines) i (line_of k) (omega (arith, h, length-map lines line_of)) p
    (subst (λ l. Stopped t1 h1 (line_text l) t2) (sym (line_at lines i k text e f)) q)
