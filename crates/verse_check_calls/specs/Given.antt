-- Places that are all given.
use Rattle.std.specs.Prelude.{ℕ, Bool, true, ◌&&◌, List, [], ◌∷◌}
use Rattle.verse_check_typing.specs.Sets.{has_number}

abbrev pub all_have : List ℕ → List ℕ → Bool
all_have is [] = true
all_have is (n ∷ ns) = has_number n is && all_have is ns
