-- Writing the parts of a value.
use Rattle.std.proofs.Common.{◌≡◌, ℕ, suc, ◌+◌, ◌<◌, ◌≤◌, List, [], ◌∷◌, length, drop, get_or, refl, sym, ap, subst, ◌∙◌, arith}
use Rattle.std.proofs.lemmas.List.{drop_more}
use Rattle.std.proofs.Math.ListN.{drop_of_length-le}
use Rattle.verse_image.specs.Format.{◌⨾◌, byte, each}
use Rattle.verse_image.specs.Writing.{Writes}
use Rattle.verse_image.proofs.WritingLemmas.{writes_as, writes_three, writes_nothing}
use Rattle.verse_value.specs.declared.keys.Key.{Key}
use Rattle.verse_value.specs.declared.values.Value.{Value}
use Rattle.verse_value.specs.Val.{Val, Vals, vals, list_of, Pairs, no_pairs, more_pairs, entries_of, mapping}
use Rattle.verse_value.specs.View.{val_of, vals_of}
use Rattle.verse_value.specs.Parts.{keys_in, vals_in}
use Rattle.verse_value.proofs.Seen.{zipped}
use Rattle.run_save_format.specs.Format.{wide, key_field, value, values}
use Rattle.run_save_format.specs.Format as format
use Rattle.run_save_writer.specs.Entries.{entries}

values_seen : (vs : List Val) (bytes rest : List ℕ) → each value vs bytes rest → values (vals vs) bytes rest
values_seen [] bytes rest h = h
values_seen (v ∷ vs) bytes rest h = (h.0, h.1, values_seen vs h.0 rest h.2)

many_parts : (xs : List Value) → length xs ≡ length (list_of (vals (vals_of xs)))
many_parts [] = refl
many_parts (x ∷ xs) = ap suc (many_parts xs)

-- a form, how many parts, and then each
pub writes_parts : (form : ℕ) (xs : List Value) (vs : Vals) (a b c d : List ℕ) → vals (vals_of xs) ≡ vs → Writes (byte form) a b →
    Writes (wide (length xs)) b c → Writes (each value (vals_of xs)) c d →
    Writes (byte form ⨾ wide (length (list_of vs)) ⨾ values vs) a d
writes_parts form xs vs a b c d e p q r =
    let long : length xs ≡ length (list_of vs) = many_parts xs ∙ ap (λ ws. length (list_of ws)) e in
    let parts : Writes (values vs) c d =
    subst (λ (ws : Vals). Writes (values ws) c d) e
    (writes_as (each value (vals_of xs)) (values (vals (vals_of xs))) c d (values_seen (vals_of xs)) r) in
    writes_three (byte form) (wide (length (list_of vs))) (values vs) a b c d p (subst (λ (n : ℕ). Writes (wide n) b c) long q) parts

many_entries : (ps : Pairs) → length (keys_in ps) ≡ length (entries_of ps)
many_entries no_pairs = refl
many_entries (more_pairs k v ps) = ap suc (many_entries ps)

-- how many entries, and then each
pub writes_map : (ks : List Key) (vs : List Value) (ps : Pairs) (a b c d : List ℕ) → ks ≡ keys_in ps → vals (vals_of vs) ≡ vals_in ps →
    Writes (byte 11) a b → Writes (wide (length ks)) b c → Writes (entries ks vs) c d → Writes (value (mapping ps)) a d
writes_map ks vs ps a b c d ke ve p q r =
    let long : length ks ≡ length (entries_of ps) = ap length ke ∙ many_entries ps in
    let all : Writes (format.pairs ps) c d = subst (λ (qs : Pairs). Writes (format.pairs qs) c d) (zipped ks vs ps ke ve) r in
    writes_three (byte 11) (wide (length (entries_of ps))) (format.pairs ps) a b c d p
    (subst (λ (n : ℕ). Writes (wide n) b c) long q) all

-- a key and its value, and then the entries that are left
pub writes_pair : (ks : List Key) (vs : List Value) (i : ℕ) (k kd : Key) (v vd : Value) (a b c d : List ℕ) → i < length ks →
    length vs ≡ length ks → k ≡ get_or ks i kd → v ≡ get_or vs i vd → Writes (key_field k) a b → Writes (value (val_of v)) b c →
    Writes (entries (drop (i + 1) ks) (drop (i + 1) vs)) c d → Writes (entries (drop i ks) (drop i vs)) a d
writes_pair ks vs i k kd v vd a b c d lt long ke ve p q r =
    let kl : drop i ks ≡ k ∷ drop (i + 1) ks = drop_more ks i kd lt ∙ ap (λ y. y ∷ drop (i + 1) ks) (sym ke) in
    let vl : drop i vs ≡ v ∷ drop (i + 1) vs = drop_more vs i vd (omega arith) ∙ ap (λ y. y ∷ drop (i + 1) vs) (sym ve) in
    rw (kl, vl) (writes_three (key_field k) (value (val_of v)) (entries (drop (i + 1) ks) (drop (i + 1) vs)) a b c d p q r)

-- none is left
pub writes_no_pairs : (ks : List Key) (vs : List Value) (i : ℕ) (a : List ℕ) → length ks ≤ i → Writes (entries (drop i ks) (drop i vs)) a a
writes_no_pairs ks vs i a le =
    let kl : drop i ks ≡ [] = drop_of_length-le ks le in
    rw kl (writes_nothing a)
