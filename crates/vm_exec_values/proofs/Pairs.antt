-- Keys and values that come in turn.
use Rattle.std.proofs.Common.{◌≡◌, List, [], ◌∷◌, ◌++◌, Option, Some, None, refl, ap, ◌∙◌, append_assoc, append-nil}
use Rattle.std.proofs.lemmas.List.{map-append}
use Rattle.verse_value.specs.View.{val_of, vals_of}
use Rattle.verse_value.specs.declared.values.Value.{Value}
use Rattle.verse_code_machine.specs.Acts.{paired}
use Rattle.vm_ops.specs.Lists.{pairs_of}
use Rattle.vm_exec_values.specs.Pairs.{Turns}

-- the key that waits for its value
abbrev pub held : Option Value → List Value
held None = []
held (Some k) = k ∷ []

pair_last : (ps : List (Value × Value)) (k v : Value) → pairs_of (ps ++ (k, v) ∷ []) ≡ pairs_of ps ++ (val_of k, val_of v) ∷ []
pair_last ps k v = map-append (λ p. (val_of p.0, val_of p.1)) ps ((k, v) ∷ [])

-- one value more
pub turned : (old new : List (Value × Value)) (key : Option Value) (value : Value) (next : Option Value) (vs : List Value) →
    Turns old new key value next → pairs_of new ++ paired (vals_of (held next ++ vs)) ≡ pairs_of old ++
    paired (vals_of (held key ++ value ∷ vs))
turned old new (Some k) value next vs h =
    rw (h.0, h.1) (ap (λ ps. ps ++ paired (vals_of vs)) (pair_last old k value) ∙
    append_assoc (pairs_of old) ((val_of k, val_of value) ∷ []) (paired (vals_of vs)))
turned old new None value next vs h = rw (h.0, h.1) refl

-- no value is left
pub all_turned : (ps : List (Value × Value)) (key : Option Value) → pairs_of ps ++ paired (vals_of (held key ++ [])) ≡ pairs_of ps
all_turned ps None = append-nil (pairs_of ps)
all_turned ps (Some k) = append-nil (pairs_of ps)
