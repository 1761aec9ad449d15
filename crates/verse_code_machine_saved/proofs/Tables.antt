-- Pairs of numbers by a table of tasks.
use Rattle.std.proofs.Common.{◌≡◌, ℕ, zero, suc, List, [], ◌∷◌, Some, Bool, true, false, cond, ap, ◌∙◌, subst, arith}
use Rattle.std.proofs.lemmas.Option.{same_Some}
use Rattle.verse_meaning_state.specs.Waits.{nth}
use Rattle.verse_code_machine.specs.Tasks.{same_path}
use Rattle.verse_code_machine.proofs.Paths.{same_self}
use Rattle.verse_code_machine_saved.specs.Numbers.{Rising, NoneBelow}
use Rattle.verse_code_machine_saved.specs.Pairing.{Entry, pairs_at, path_at, IsAlone, AreDistinct, AreOrdered, TablePairs, TableMeets}
use Rattle.verse_code_machine_saved.proofs.Paired.{trees_meet}

-- another entry is not in the way
is_alone : (d : Entry) (ds : List Entry) (i : ℕ) (e : Entry) → IsAlone d ds → nth ds i ≡ Some e →
    (same_path d.path e.path ≡ false) × (same_path d.other e.other ≡ false)
is_alone d [] i e h f = grind (arith, f)
is_alone d (c ∷ ds) zero e h f =
    let is = same_Some c e f in
    (subst (λ x. same_path d.path x.path ≡ false) is h.0, subst (λ x. same_path d.other x.other ≡ false) is h.1)
is_alone d (c ∷ ds) (suc i) e h f = is_alone d ds i e h.2 f

found_pairs : (es : List Entry) (i : ℕ) (e : Entry) → AreDistinct es → nth es i ≡ Some e → pairs_at es e.path ≡ e.pairs
found_pairs [] i e h f = grind (arith, f)
found_pairs (d ∷ es) zero e h f =
    let is = same_Some d e f in
    subst (λ x. cond (same_path d.path x.path) d.pairs (pairs_at es x.path) ≡ x.pairs) is
    (ap (λ b. cond b d.pairs (pairs_at es d.path)) (same_self d.path))
found_pairs (d ∷ es) (suc i) e h f =
    ap (λ b. cond b d.pairs (pairs_at es e.path)) (is_alone d es i e h.0 f).0 ∙ found_pairs es i e h.1 f

found_path : (es : List Entry) (i : ℕ) (e : Entry) → AreDistinct es → nth es i ≡ Some e → path_at es e.other ≡ e.path
found_path [] i e h f = grind (arith, f)
found_path (d ∷ es) zero e h f =
    let is = same_Some d e f in
    subst (λ x. cond (same_path d.other x.other) d.path (path_at es x.other) ≡ x.path) is
    (ap (λ b. cond b d.path (path_at es d.other)) (same_self d.other))
found_path (d ∷ es) (suc i) e h f =
    ap (λ b. cond b d.path (path_at es e.other)) (is_alone d es i e h.0 f).1 ∙ found_path es i e h.1 f

pub table_pairs : TablePairs
table_pairs es i e front back n m h f is =
    record { path = found_path es i e h f; front = front; back = back; is = found_pairs es i e h f ∙ is }

pub either : {A : Type 0} (P : A → Type 0) (b : Bool) (x y : A) → P x → P y → P (cond b x y)
either P true x y p q = p
either P false x y p q = q

pub rising_at : (bound : ℕ) (es : List Entry) (a : List ℕ) → AreOrdered bound es → Rising (pairs_at es a)
rising_at bound [] a h = tt
rising_at bound (e ∷ es) a h = either Rising (same_path e.path a) e.pairs (pairs_at es a) h.0 (rising_at bound es a h.2)

pub none_at : (bound : ℕ) (es : List Entry) (a : List ℕ) → AreOrdered bound es → NoneBelow bound (pairs_at es a)
none_at bound [] a h = tt
none_at bound (e ∷ es) a h = either (NoneBelow bound) (same_path e.path a) e.pairs (pairs_at es a) h.1 (none_at bound es a h.2)

pub table_meets : TableMeets
table_meets es s tss uss h p = trees_meet (pairs_at es) (path_at es) s tss uss (λ a. rising_at s.clock.left es a h)
    (λ a. none_at s.clock.left es a h) p
