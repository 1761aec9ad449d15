-- What a generator takes from its domain.
use Rattle.std.proofs.Common.{◌≡◌, ℕ, suc, [], ◌∷◌, Option, Some, refl}
use Rattle.verse_value.specs.Val as v
use Rattle.verse_value.specs.Val.{Val, Vals, Pairs}
use Rattle.verse_names_tables.specs.Names.{Table}
use Rattle.verse_sorts.specs.Sorts as s
use Rattle.verse_sorts.specs.Sorts.{Sort}
use Rattle.verse_sorts.specs.Typing as ty
use Rattle.verse_sorts.specs.Typing.{Typing, Grows, Is, AreAll, ArePairs, no_all, more_all, no_entries, more_entries, is_list, is_map}
use Rattle.verse_sorts.specs.Typing.{is_tuple, is_int}
use Rattle.verse_sorts.proofs.Fitting.{is_up, fits_itself}
use Rattle.verse_sorts_values.specs.Operands.{sorts}
use Rattle.verse_meaning.specs.Programs.{Program}
use Rattle.verse_meaning.specs.Residuals.{Env, Generator, of_elements, of_entries, of_range, Values}
use Rattle.verse_meaning.specs.Forms.{elements_from, entries_in, domain_values, range_values, values_of, with_taken}
use Rattle.verse_sound_rules.specs.Found.{Found}
use Rattle.verse_sound_rules.specs.Fine.{Domain, domain_list, domain_map, domain_never, Generates, takes_elements}
use Rattle.verse_sound_rules.specs.Fine.{takes_entries, takes_range, generated_behind}
use Rattle.verse_sound_trees.specs.Names.{Sees}
use Rattle.verse_sound_trees.specs.Going.{Level}
use Rattle.verse_sound_trees.proofs.Names.{binds_value, binds_both, sees_more}
use Rattle.verse_sound_trees.proofs.Loops.{AllTaken, AreTaken}

module _ (p : Program) (f : Found) (top : Level) (fuel : ℕ) where
  elements_taken : (t : Typing) (q : Sort) (i : ℕ) (vs : Vals) → AreAll f.up t vs q → AllTaken p f top fuel t q s.int (elements_from i vs)
  elements_taken t q i v.no_vals no_all = tt
  elements_taken t q i (v.more_vals x vs) (more_all j r) = ((j, is_int), elements_taken t q (suc i) vs r)

  entries_taken : (t : Typing) (k q : Sort) (ps : Pairs) → ArePairs f.up t ps k q → AllTaken p f top fuel t q k (entries_in ps)
  entries_taken t k q v.no_pairs no_entries = tt
  entries_taken t k q (v.more_pairs l x ps) (more_entries i j r) = ((j, i), entries_taken t k q ps r)

  -- the values of a domain, and the names that each has
  pub data Taken (t : Typing) (c : Option ℕ) (xs : Table) (e : Env) (n : ℕ) (g : Generator) (x : Val) : Type 0 where
    taken_are : {vs : Values} (q i : Sort) → values_of g x ≡ Some vs → AreTaken p f top fuel t q i vs →
        ((u : Typing) (y : Val × Val) → Grows t u → Is f.up u y.0 q → Is f.up u y.1 i → Sees f u c (generated_behind g n xs)
        (with_taken g y e)) →
        Taken t c xs e n g x

  -- of an array or a map
  pub data Values_in (t : Typing) (q i : Sort) (x : Val) : Type 0 where
    values_in : {vs : Values} → domain_values x ≡ Some vs → AreTaken p f top fuel t q i vs → Values_in t q i x

  domain_taken : (t : Typing) (s1 q i : Sort) (x : Val) → Domain s1 q i → Is f.up t x s1 → Values_in t q i x
  domain_taken t s1 q i x domain_list (is_list {vs} h) = values_in refl (elements_taken t q 0 vs h)
  domain_taken t s1 q i x (domain_map {k}) (is_map {ps} h) = values_in refl (entries_taken t k q ps h)
  domain_taken t s1 q i x domain_never h = elim h [ ]

  -- two ints
  pub data Range_in (t : Typing) (x : Val) : Type 0 where
    range_in : {vs : Values} → range_values x ≡ Some vs → AreTaken p f top fuel t s.int s.any vs → Range_in t x

  two_ints : (t : Typing) (x : Val) → Is f.up t x (s.tuple (sorts (s.int ∷ s.int ∷ []))) → Range_in t x
  two_ints t x (is_tuple (ty.more_each is_int (ty.more_each is_int ty.no_each))) = range_in refl (fits_itself f.up s.int, refl)

  pub generates_taken : (t : Typing) (c : Option ℕ) (xs : Table) (e : Env) (n : ℕ) (q : Sort) (g : Generator) (x : Val) →
      Generates p f n xs q g →
      Sees f t c xs e → Is f.up t x q → Taken t c xs e n g x
  generates_taken t c xs e n q (of_elements y) x (takes_elements new var from) see i =
      by (domain_taken t from.whole from.each from.index x from.is (is_up f.up i from.fits))
    where
      by : Values_in t from.each from.index x → Taken t c xs e n (of_elements y) x
      by (values_in h k) = taken_are from.each from.index h k (λ u z gr j m. binds_value f u e c xs y n z.0 new var
          (is_up f.up j from.value) (sees_more f gr see))
  generates_taken t c xs e n q (of_entries k y) x (takes_entries new new2 var from key) see i =
      by (domain_taken t from.whole from.each from.index x from.is (is_up f.up i from.fits))
    where
      by : Values_in t from.each from.index x → Taken t c xs e n (of_entries k y) x
      by (values_in h m) = taken_are from.each from.index h m
          (λ u z gr j1 j2. binds_both f u e c xs k y n z.1 z.0 new new2 var (is_up f.up j2 key) (is_up f.up j1 from.value)
          (sees_more f gr see))
  generates_taken t c xs e n q (of_range y) x (takes_range new var fits int) see i = by (two_ints t x (is_up f.up i fits))
    where
      by : Range_in t x → Taken t c xs e n (of_range y) x
      by (range_in h k) = taken_are s.int s.any h k (λ u z gr j m. binds_value f u e c xs y n z.0 new var (is_up f.up j int)
          (sees_more f gr see))
