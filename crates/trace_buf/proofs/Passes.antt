-- Bytes that pass to a sink one after another.
use Rattle.std.proofs.Common.{◌≡◌, ℕ, ◌+◌, ◌<◌, ◌≤◌, List, [], ◌∷◌, ◌++◌, Option, Result, Ok, Err, OnErr, length, take, drop, get_or, ap}
use Rattle.std.proofs.Common.{sym, ◌∙◌, append_assoc, arith, append-nil, length-append, subst}
use Rattle.std.specs.List.{flat_map}
use Rattle.std.proofs.lemmas.Grind.{flat_map-append}
use Rattle.std.proofs.lemmas.List.{take_more, take-append-drop}
use Rattle.std.proofs.Math.Seq.{take-append_seam}
use Rattle.verse_outside.specs.Held.{with_more, TookPrefix}
use Rattle.verse_outside.proofs.Taken.{more_twice}
use Rattle.trace_buf.specs.Passing.{Passed, Stopped}

-- what holds whatever was answered holds after an error
pub on_err : {T E P : Type 0} (r : Result T E) → P → OnErr r P
on_err (Ok x) p = tt
on_err (Err e) p = p

-- what passes first, and then more
joined : (h0 h1 a b x y r : List ℕ) → a ++ h1 ≡ h0 ++ x → b ++ r ≡ h1 ++ y → (a ++ b) ++ r ≡ h0 ++ (x ++ y)
joined h0 h1 a b x y r e f =
    append_assoc a b r ∙ ap (λ l. a ++ l) f ∙ sym (append_assoc a h1 y) ∙ ap (λ l. l ++ y) e ∙ append_assoc h0 x y

pub passed_then : {t0 t1 t2 : Option (List ℕ)} {h0 h1 h2 x y : List ℕ} → Passed t0 h0 x t1 h1 → Passed t1 h1 y t2 h2 →
    Passed t0 h0 (x ++ y) t2 h2
passed_then {t0 = t0} {h0 = h0} {h1 = h1} {h2 = h2} {x = x} {y = y} p q = record {
  sent = p.sent ++ q.sent;
  taken = q.taken ∙ ap (λ t. with_more t q.sent) p.taken ∙ more_twice t0 p.sent q.sent;
  same = joined h0 h1 p.sent q.sent x y h2 p.same q.same;
}

pub stopped_then : {t0 t1 t2 : Option (List ℕ)} {h0 h1 x y : List ℕ} → Passed t0 h0 x t1 h1 → Stopped t1 h1 y t2 → Stopped t0 h0 (x ++ y) t2
stopped_then {t0 = t0} {h0 = h0} {h1 = h1} {x = x} {y = y} p q = record {
  sent = p.sent ++ q.sent;
  unsent = q.unsent;
  taken = q.taken ∙ ap (λ t. with_more t q.sent) p.taken ∙ more_twice t0 p.sent q.sent;
  same = joined h0 h1 p.sent q.sent x y q.unsent p.same q.same;
}

pub stopped_before : {t0 t1 : Option (List ℕ)} {h0 x : List ℕ} → Stopped t0 h0 x t1 → (y : List ℕ) → Stopped t0 h0 (x ++ y) t1
stopped_before {h0 = h0} {x = x} q y = record {
  sent = q.sent;
  unsent = q.unsent ++ y;
  taken = q.taken;
  same = sym (append_assoc q.sent q.unsent y) ∙ ap (λ l. l ++ y) q.same ∙ append_assoc h0 x y;
}

-- a prefix of what was held back was sent
pub stopped_held : {t0 t1 : Option (List ℕ)} {h : List ℕ} → TookPrefix t0 h t1 → (y : List ℕ) → Stopped t0 h y t1
stopped_held {h = h} p y = record {
  sent = take p.0 h;
  unsent = drop p.0 h ++ y;
  taken = p.2;
  same = sym (append_assoc (take p.0 h) (drop p.0 h) y) ∙ ap (λ l. l ++ y) (take-append-drop p.0 h);
}

-- where nothing was held back at first, what was sent is a prefix
pub stopped_took : {t0 t1 : Option (List ℕ)} {x : List ℕ} → Stopped t0 [] x t1 → TookPrefix t0 x t1
stopped_took {t0 = t0} {t1 = t1} {x = x} q =
    let same : q.sent ++ q.unsent ≡ x = q.same in
    let within : length q.sent ≤ length x = omega (arith, simp length-append at (ap length same)) in
    let front : take (length q.sent) x ≡ q.sent = ap (take (length q.sent)) (sym same) ∙ take-append_seam q.sent q.unsent in
    let taken : t1 ≡ with_more t0 (take (length q.sent) x) = q.taken ∙ ap (with_more t0) (sym front) in
    (length q.sent, within, taken)

-- what was held back is sent at the end
pub passed_whole : {t0 t1 t2 : Option (List ℕ)} {x h : List ℕ} → Passed t0 [] x t1 h → t2 ≡ with_more t1 h → t2 ≡ with_more t0 x
passed_whole {t0 = t0} {h = h} p e = e ∙ ap (λ t. with_more t h) p.taken ∙ more_twice t0 p.sent h ∙ ap (with_more t0) p.same

pub passed_part : {t0 t1 t2 : Option (List ℕ)} {x h : List ℕ} → Passed t0 [] x t1 h → TookPrefix t1 h t2 → TookPrefix t0 x t2
passed_part {t0 = t0} {t2 = t2} {x = x} p q =
    let stopped : Stopped t0 [] (x ++ []) t2 = stopped_then p (stopped_held q []) in
    stopped_took (subst (λ ys. Stopped t0 [] ys t2) (append-nil x) stopped)

-- the elements up to i, each as its bytes, and then that of i
more_at : {A : Type 0} (f : A → List ℕ) (xs : List A) (i : ℕ) (d : A) → i < length xs →
    flat_map f (take (i + 1) xs) ≡ flat_map f (take i xs) ++ f (get_or xs i d)
more_at f xs i d h =
    ap (flat_map f) (take_more xs i d h) ∙ flat_map-append f (take i xs) (get_or xs i d ∷ [])
    ∙ ap (λ l. flat_map f (take i xs) ++ l) (append-nil (f (get_or xs i d)))

pub passed_at : {A : Type 0} {t0 t1 t2 : Option (List ℕ)} {h0 h1 h2 : List ℕ} (f : A → List ℕ) (xs : List A) (i : ℕ) (d : A) →
    i < length xs → Passed t0 h0 (flat_map f (take i xs)) t1 h1 → Passed t1 h1 (f (get_or xs i d)) t2 h2 →
    Passed t0 h0 (flat_map f (take (i + 1) xs)) t2 h2
passed_at {t0 = t0} {t2 = t2} {h0 = h0} {h2 = h2} f xs i d h p q =
    subst (λ ys. Passed t0 h0 ys t2 h2) (sym (more_at f xs i d h)) (passed_then p q)

pub stopped_at : {A : Type 0} {t0 t1 t2 : Option (List ℕ)} {h0 h1 : List ℕ} (f : A → List ℕ) (xs : List A) (i : ℕ) (d : A) → i < length xs →
    Passed t0 h0 (flat_map f (take i xs)) t1 h1 → Stopped t1 h1 (f (get_or xs i d)) t2 → Stopped t0 h0 (flat_map f xs) t2
stopped_at {t0 = t0} {t2 = t2} {h0 = h0} f xs i d h p q =
    let whole : flat_map f (take (i + 1) xs) ++ flat_map f (drop (i + 1) xs) ≡ flat_map f xs =
    sym (flat_map-append f (take (i + 1) xs) (drop (i + 1) xs)) ∙ ap (flat_map f) (take-append-drop (i + 1) xs) in
    let stopped : Stopped t0 h0 ((flat_map f (take i xs) ++ f (get_or xs i d)) ++ flat_map f (drop (i + 1) xs)) t2 =
    stopped_before (stopped_then p q) (flat_map f (drop (i + 1) xs)) in
    subst (λ ys. Stopped t0 h0 ys t2) (ap (λ ys. ys ++ flat_map f (drop (i + 1) xs)) (sym (more_at f xs i d h)) ∙ whole) stopped

-- the bytes up to i, and then that at i
pub passed_byte : {t0 t1 t2 : Option (List ℕ)} {h0 h1 h2 : List ℕ} (xs : List ℕ) (i d : ℕ) → i < length xs →
    Passed t0 h0 (take i xs) t1 h1 → Passed t1 h1 (get_or xs i d ∷ []) t2 h2 → Passed t0 h0 (take (i + 1) xs) t2 h2
passed_byte {t0 = t0} {t2 = t2} {h0 = h0} {h2 = h2} xs i d h p q =
    subst (λ ys. Passed t0 h0 ys t2 h2) (sym (take_more xs i d h)) (passed_then p q)

pub stopped_byte : {t0 t1 t2 : Option (List ℕ)} {h0 h1 : List ℕ} (xs : List ℕ) (i d : ℕ) → i < length xs → Passed t0 h0 (take i xs) t1 h1 →
    Stopped t1 h1 (get_or xs i d ∷ []) t2 → Stopped t0 h0 xs t2
stopped_byte {t0 = t0} {t2 = t2} {h0 = h0} xs i d h p q =
    let whole : take (i + 1) xs ++ drop (i + 1) xs ≡ xs = take-append-drop (i + 1) xs in
    let stopped : Stopped t0 h0 ((take i xs ++ get_or xs i d ∷ []) ++ drop (i + 1) xs) t2 =
    stopped_before (stopped_then p q) (drop (i + 1) xs) in
    subst (λ ys. Stopped t0 h0 ys t2) (ap (λ ys. ys ++ drop (i + 1) xs) (sym (take_more xs i d h)) ∙ whole) stopped
