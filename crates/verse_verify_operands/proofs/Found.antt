-- What an operation finds, and what the definitions pass on.
use Rattle.std.proofs.Common.{◌≡◌, ℕ, zero, suc, ◌+◌, ◌-◌, ◌<◌, ◌≤◌, List, [], ◌∷◌, ◌++◌, length, map, reverse, take, drop, refl, sym, ap}
use Rattle.std.proofs.Common.{◌∙◌, arith}
use Rattle.std.specs.Prelude.{Option, Some, None, slice_get}
use Rattle.verse_sorts.specs.Typing.{at}
use Rattle.std.proofs.lemmas.List.{reverse-append, reverse-reverse, append_assoc, append-nil, map-append, take-append-drop, length-reverse}
use Rattle.std.proofs.lemmas.List.{length-map, length-drop}
use Rattle.verse_code.specs.declared.codes.Code.{Code}
use Rattle.verse_sorts.specs.Sorts as s
use Rattle.verse_sorts.specs.Sorts.{Sort}
use Rattle.verse_verify_kept.specs.Notes.{ClassNote, FuncNote}
use Rattle.verse_verify_kept.specs.Rules.{sorts, at_sort}
use Rattle.verse_verify_faults.specs.Spots.{Table}
use Rattle.verse_verify_faults.specs.Stepping.{Stepped, pop_all, on_there, on_tuple_item, on_task, on_heard, on_method, slots_at}
use Rattle.verse_verify_faults.specs.Stepping.{note_of, methods_of}
use Rattle.verse_verify_notes.specs.declared.sorts.Sort.{Sort as Kept}
use Rattle.verse_verify_notes.specs.View.{sort_of, sorts_of}
use Rattle.verse_verify_parts.specs.Heres.{operands}
use Rattle.verse_verify_operands.specs.Finds.{popped, on_popped, found, there, item_in, task_of, heard_of, method_in, method_there}
use Rattle.verse_verify_operands.specs.Finds.{on_found}

pub pops_by : (n : ℕ) (st xs : List Sort) (go : List Sort → List Sort → Stepped) → pop_all n st xs go ≡ on_popped (popped n st xs) go
pops_by zero st xs go = refl
pops_by (suc n) [] xs go = refl
pops_by (suc n) (a ∷ st) xs go = pops_by n st (a ∷ xs) go

there_by : (rule : ℕ) (m : Option Sort) (go : Sort → Stepped) → on_there rule m go ≡ found (there rule m) go
there_by rule None go = refl
there_by rule (Some a) go = refl

pub items_by : (cs : List ClassNote) (a : Sort) (k : ℕ) (go : Sort → Stepped) → on_tuple_item cs a k go ≡ found (item_in a k) go
items_by cs (s.tuple xs) k go = there_by 6 (at_sort xs k) go
items_by cs s.never k go = refl
items_by cs a k go = refl

pub tasks_by : (a : Sort) (go : Sort → Stepped) → on_task a go ≡ on_there 5 (task_of a) go
tasks_by (s.task a) go = refl
tasks_by s.never go = refl
tasks_by a go = refl

pub events_by : (a : Sort) (go : Sort → Stepped) → on_heard a go ≡ on_there 5 (heard_of a) go
events_by (s.event a) go = refl
events_by s.never go = refl
events_by a go = refl

method_by : (m : Option FuncNote) (nothing : Stepped) (go : FuncNote → Stepped) →
    on_there 6 m go ≡ on_found (method_there m) nothing go
method_by None nothing go = refl
method_by (Some g) nothing go = refl

pub methods_by : (c : Code) (t : Table) (a : Sort) (m : ℕ) (nothing : Stepped) (go : FuncNote → Stepped) →
    on_method c t a m nothing go ≡ on_found (method_in c t a m) nothing go
methods_by c t (s.obj k) m nothing go = method_by (note_of t.functions (methods_of (slice_get c.classes k) m)) nothing go
methods_by c t s.never m nothing go = refl
methods_by c t a m nothing go = refl

-- operands that are popped together
popped_front : (zs st xs : List Sort) → popped (length zs) (zs ++ st) xs ≡ Some (reverse zs ++ xs, st)
popped_front [] st xs = refl
popped_front (z ∷ zs) st xs = popped_front zs st (z ∷ xs) ∙
    ap (λ ys. Some (ys, st)) (sym (ap (λ ys. ys ++ xs) (reverse-append (z ∷ []) zs) ∙ append_assoc (reverse zs) (z ∷ []) xs))

operands_length : (st : List Kept) → length (operands st) ≡ length st
operands_length st = length-reverse (sorts_of st) ∙ length-map st sort_of

popped_last : (low high : List Kept) → popped (length high) (operands (low ++ high)) [] ≡ Some (sorts_of high, operands low)
popped_last low high = ap (λ n. popped n (operands (low ++ high)) []) (sym (operands_length high)) ∙ ap (λ zs. popped (length (operands
    high)) zs []) (ap reverse (map-append sort_of low high) ∙ reverse-append (sorts_of low) (sorts_of high)) ∙ popped_front (operands high)
    (operands low) [] ∙ ap (λ zs. Some (zs, operands low)) (append-nil (reverse (operands high)) ∙ reverse-reverse (sorts_of high))

pub popped_there : (st : List Kept) (n : ℕ) → n ≤ length st →
    popped n (operands st) [] ≡ Some (sorts_of (drop (length st - n) st), operands (take (length st - n) st))
popped_there st n h = ap (λ zs. popped n (operands zs) []) (sym (take-append-drop (length st - n) st)) ∙ ap (λ k. popped k (operands (take
    (length st - n) st ++ drop (length st - n) st)) []) (sym (length-drop (length st - n) st ∙ back (length st) n h)) ∙ popped_last (take
    (length st - n) st) (drop (length st - n) st)
  where
    back : (m n : ℕ) → n ≤ m → m - (m - n) ≡ n
    back m n h = omega (arith, h)

few : (n : ℕ) (st xs : List Sort) → length st < n → popped n st xs ≡ None
few zero st xs h = elim (none (length st) h) [ ]
  where
    none : (n : ℕ) → n < 0 → ⊥
    none n h = omega (arith, h)
few (suc n) [] xs h = refl
few (suc n) (a ∷ st) xs h = few n st (a ∷ xs) (omega (arith, h))

pub popped_few : (st : List Kept) (n : ℕ) → length st < n → popped n (operands st) [] ≡ None
popped_few st n h = few n (operands st) [] (less (length (operands st)) (length st) n (operands_length st) h)
  where
    less : (k m n : ℕ) → k ≡ m → m < n → k < n
    less k m n e h = omega (arith, e, h)

-- what stands at a place of a tuple
pub at_place : (xs : List Sort) (n : ℕ) → at xs n ≡ at_sort (sorts xs) n
at_place [] zero = refl
at_place [] (suc n) = refl
at_place (x ∷ xs) zero = refl
at_place (x ∷ xs) (suc n) = at_place xs n
