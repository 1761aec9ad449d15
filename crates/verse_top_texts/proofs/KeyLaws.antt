-- Keys as values.
use Rattle.std.proofs.Common.{◌≡◌, ℕ, true, false, List, [], ◌∷◌, Option, Some, option_map, refl, sym, ap, ◌∙◌}
use Rattle.verse_value.specs.declared.keys.Key.{Key}
use Rattle.verse_value.specs.declared.keys.Key.TheVariants as key
use Rattle.verse_value.specs.Keys.{bytes_of, chars, key_of, key_val}
use Rattle.verse_value.specs.Texts.{array_text, list_text, key_text, text_of, KeysAreValues}

bytes_of_chars : (bs : List ℕ) → bytes_of (chars bs) ≡ Some bs
bytes_of_chars [] = refl
bytes_of_chars (b ∷ bs) = ap (option_map (λ cs. b ∷ cs)) (bytes_of_chars bs)

is_key : (k : Key) → key_of (key_val k) ≡ Some k
is_key (key.Int n) = refl
is_key (key.Logic true) = refl
is_key (key.Logic false) = refl
is_key (key.Char c) = refl
is_key (key.Enum of at) = refl
is_key (key.Text bs) = ap (option_map (λ cs. key.Text cs)) (bytes_of_chars bs)

quoted_text : (bs : List ℕ) → array_text (Some bs) [] ≡ array_text (Some bs) (list_text (chars bs))
quoted_text [] = refl
quoted_text (b ∷ bs) = refl

same_text : (k : Key) → key_text k ≡ text_of (key_val k)
same_text (key.Int n) = refl
same_text (key.Logic true) = refl
same_text (key.Logic false) = refl
same_text (key.Char c) = refl
same_text (key.Enum of at) = refl
same_text (key.Text bs) = quoted_text bs ∙ ap (λ (o : Option (List ℕ)). array_text o (list_text (chars bs))) (sym (bytes_of_chars bs))

pub keys_are_values : KeysAreValues
keys_are_values = record { key = is_key; text = same_text }
