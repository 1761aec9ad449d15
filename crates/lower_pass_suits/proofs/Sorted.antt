-- The sorts of notes can be spelled: those of wider levels, and those that are made of what is found.
use Rattle.std.proofs.Common.{ℕ, zero, suc, not}
use Rattle.verse_code.specs.declared.codes.Code.{Code}
use Rattle.verse_sorts.specs.Sorts as s
use Rattle.verse_sorts.specs.Sorts.{Sort, Sorts}
use Rattle.verse_meaning.specs.Programs.{Program}
use Rattle.verse_sound_rules.specs.Found.{Found}
use Rattle.verse_verify_faults.specs.Reading.{defers_in, locals_of}
use Rattle.verse_verify_bytes.specs.Suits.{IsSort, AreSorts, SuitsSort}
use Rattle.lower_notes.specs.Noting.{key_in}
use Rattle.std.specs.Prelude.{slice_get}
use Rattle.lower_pass_suits.proofs.Spelled.{Spelled}
use Rattle.lower_pass_suits.proofs.Suited.{Kind, Plain}
use Rattle.lower_pass_suits.proofs.Others.{Made_of}

module _ (c : Code) where
  mutual
    pub wider : (n : ℕ) (a : Sort) → IsSort c n a → IsSort c (suc n) a
    wider zero a h = absurd h
    wider (suc n) s.none h = tt
    wider (suc n) s.any h = tt
    wider (suc n) s.never h = tt
    wider (suc n) s.unit h = tt
    wider (suc n) s.nil h = tt
    wider (suc n) s.int h = tt
    wider (suc n) s.logic h = tt
    wider (suc n) s.char h = tt
    wider (suc n) s.span h = tt
    wider (suc n) (s.enum e) h = h
    wider (suc n) (s.obj k) h = h
    wider (suc n) (s.var a) h = wider n a h
    wider (suc n) (s.event a) h = wider n a h
    wider (suc n) (s.task a) h = wider n a h
    wider (suc n) (s.opt a) h = wider n a h
    wider (suc n) (s.list a) h = wider n a h
    wider (suc n) (s.map k a) h = (wider n k h.0, wider n a h.1)
    wider (suc n) (s.tuple xs) h = (h.0, all_wider n xs h.1)

    all_wider : (n : ℕ) (xs : Sorts) → AreSorts c n xs → AreSorts c (suc n) xs
    all_wider n s.no_sorts h = tt
    all_wider n (s.more_sorts a xs) h = (wider n a h.0, all_wider n xs h.1)

  -- the keys of a map
  keys_spelled : (n : ℕ) (a : Sort) → IsSort c n a → IsSort c n (key_in a)
  keys_spelled zero a h = absurd h
  keys_spelled (suc n) (s.map k a) h = wider n k h.0
  keys_spelled (suc n) a h = tt

  -- in a function of a number
  abbrev pub kind : ℕ → Kind
  kind k = record {
    Good = SuitsSort c;
    sober = not (defers_in c c.ops);
    func = k;
    locals = locals_of c (slice_get c.functions k);
  }

  plain : (k : ℕ) → Plain (kind k)
  plain k = record {
    none = tt;
    any = tt;
    unit = tt;
    nil = tt;
    int = tt;
    logic = tt;
    char = tt;
    span = tt;
    text = tt;
  }

  module _ (p : Program) (found : Found) (spelled : Spelled p found c) where
    pub sort_spelled : (i : ℕ) → SuitsSort c (found.sort i)
    sort_spelled i = wider 39 (found.sort i) (spelled.sort i)

    pub made_of : (k : ℕ) → Made_of p found (kind k)
    made_of k = record {
      bare = plain k;
      sort = sort_spelled;
      variable = spelled.sort;
      key = spelled.key;
      keys = λ i. keys_spelled 40 (found.sort i) (sort_spelled i);
      values = spelled.enums;
    }
