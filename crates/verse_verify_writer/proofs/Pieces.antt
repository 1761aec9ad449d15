-- Pieces are written.
use Rattle.std.proofs.Common.{◌≡◌, ℕ, ◌<◌, List, [], ◌∷◌, ◌++◌, length, rules, sym, ap, ◌∙◌}
use Rattle.std.proofs.Common.{append_assoc}
use Rattle.std.proofs.lemmas.List.{append-nil, reverse-reverse}
use Rattle.std.specs.Prelude.{false, reverse}
use Rattle.verse_base.proofs.Facts.{as_long}
use Rattle.verse_image.specs.Format.{Spelled}
use Rattle.verse_image.specs.Writing.{Writes}
use Rattle.verse_sorts.specs.Sorts as s
use Rattle.verse_sorts.specs.Sorts.{Sort}
use Rattle.verse_verify_kept.specs.Rules as kept
use Rattle.verse_verify_faults.specs.Spots.{Mark, Spot}
use Rattle.verse_verify_bytes.specs.Bytes as b
use Rattle.verse_verify_bytes.specs.Bytes.{number, each, counted, option, how_many, sort, open_try, spot}
use Rattle.verse_verify_bytes.proofs.Numbers.{one_spelling}
use Rattle.verse_verify_bytes.proofs.Sorts.{parts_counted}
use Rattle.verse_verify_notes.specs.declared.sorts.Sort as made
use Rattle.verse_verify_notes.specs.declared.sorts.Sort.{Sort as Made, the_lemmas}
use Rattle.verse_verify_notes.specs.View.{sort_of, sorts_of}

-- a number of 64 bits is written in its one spelling
pub written_number : (n : ℕ) (old new : List ℕ) → n < 18446744073709551616 → Writes (Spelled n) old new → new ≡ old ++ number n
written_number n old new lt w =
    w.1 ∙ ap (λ (p : List ℕ). old ++ p) (sym (append-nil w.0) ∙ one_spelling n (w.0 ++ []) [] lt (w.2 []) ∙ append-nil (number n))

-- one piece, and then another
pub both_written : (p q old a new : List ℕ) → a ≡ old ++ p → new ≡ a ++ q → new ≡ old ++ (p ++ q)
both_written p q old a new one two = two ∙ ap (λ (w : List ℕ). w ++ q) one ∙ append_assoc old p q

tuple_seen : (parts : _) → sort_of (made.Tuple parts) ≡ s.tuple (kept.sorts (sorts_of parts.value.items))
tuple_seen parts = search (rules, the_lemmas)

pub is_tuple : (a : Made) (parts : _) → a ≡ made.Tuple parts →
    sort_of a ≡ s.tuple (kept.sorts (sorts_of parts.value.items))
is_tuple a parts e = ap sort_of e ∙ tuple_seen parts

-- a tuple: its tag, how many parts, and the parts
pub tuple_written : (parts items : List Made) (tag n : ℕ) (old a between new : List ℕ) → parts ≡ items → tag ≡ 17 →
    n ≡ length items → a ≡ old ++ tag ∷ [] → between ≡ a ++ number n → new ≡ between ++ each sort (sorts_of parts) →
    new ≡ old ++ sort (s.tuple (kept.sorts (sorts_of items)))
tuple_written parts items tag n old a between new same t m first count all =
    let xs : List Sort = sorts_of items in
    let bytes : List ℕ = number n ++ each sort (sorts_of parts) in
    let told : bytes ≡ number (how_many (kept.sorts xs)) ++ b.sorts (kept.sorts xs) =
    ap (λ (k : ℕ). number k ++ each sort (sorts_of parts)) (m ∙ as_long sort_of items) ∙
    ap (λ (ys : List Made). number (length xs) ++ each sort (sorts_of ys)) same ∙ sym (parts_counted xs) in
    both_written (17 ∷ []) bytes old a new (first ∙ ap (λ (k : ℕ). old ++ k ∷ []) t)
    (both_written (number n) (each sort (sorts_of parts)) a between new count all) ∙
    ap (λ (w : List ℕ). old ++ 17 ∷ w) told

-- a state outside of deferred blocks: the stack and the Trys are seen turned over
pub bare_written : (p : Spot) (stack : List Sort) (tries : List Mark) (old first second third fourth new : List ℕ) →
    p.stack ≡ reverse stack → p.tries ≡ reverse tries → first ≡ old ++ number p.func → second ≡ first ++ option sort p.arm →
    third ≡ second ++ each sort p.locals → fourth ≡ third ++ counted sort stack → new ≡ fourth ++ counted open_try tries →
    new ≡ old ++ spot false p
bare_written p stack tries old first second third fourth new turned trys one two three four five =
    let locals = both_written (number p.func ++ option sort p.arm) (each sort p.locals) old second third
    (both_written (number p.func) (option sort p.arm) old first second one two) three in
    let front : List ℕ = number p.func ++ option sort p.arm ++ each sort p.locals in
    let all = both_written (front ++ counted sort stack) (counted open_try tries) old fourth new
    (both_written front (counted sort stack) old third fourth locals four) five in
    let back : reverse p.stack ≡ stack = ap (λ (xs : List Sort). reverse xs) turned ∙ reverse-reverse stack in
    let trys_back : reverse p.tries ≡ tries = ap (λ (ms : List Mark). reverse ms) trys ∙ reverse-reverse tries in
    all ∙ ap (λ (w : List ℕ). old ++ w) (ap (λ (xs : List Sort). front ++ counted sort xs ++ counted open_try tries) (sym back) ∙
    ap (λ (ms : List Mark). front ++ counted sort (reverse p.stack) ++ counted open_try ms) (sym trys_back) ∙
    sym (append-nil (front ++ counted sort (reverse p.stack) ++ counted open_try (reverse p.tries))))
