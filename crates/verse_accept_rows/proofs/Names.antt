-- What the pass over names finds at each site, and that it breaks no rule there.
use Rattle.std.proofs.Common.{◌≡◌, ℕ, suc, ◌+◌, List, [], ◌∷◌, ◌++◌, map, Option, ap, ◌∙◌, arith, subst, slice_get}
use Rattle.std.specs.Prelude.{None}
use Rattle.verse_tree.specs.ItemTree.{ItemTree}
use Rattle.verse_tree.specs.Shapes.{ItemsShaped}
use Rattle.verse_tree.specs.declared.tables.Ref.{Ref}
use Rattle.verse_rules_least.specs.Least.{first_true}
use Rattle.verse_check_typing.specs.Refs.{referred, ref_at}
use Rattle.verse_names_scopes.specs.Subjects.{refers}
use Rattle.verse_names_scopes.specs.Subjects as names
use Rattle.verse_names_scopes.specs.Visits.{Visit, number_of, ref_of, rules_of, program_visits, keep_fault, Breaks, NamesBreak}
use Rattle.verse_rules.specs.Naming.{named}
use Rattle.verse_accept_scopes.specs.Lists.{Each}
use Rattle.verse_accept_scopes.specs.Sites.{Site, visit_of, program_sites}
use Rattle.verse_accept_scopes.specs.Laws.{own_visit}
use Rattle.verse_accept_scopes.proofs.Rows.{each_first, Row}
use Rattle.verse_accept_scopes.proofs.Whole.{visits_are_sites}
use Rattle.verse_accept_rows.proofs.Quiet.{none_true, each_quiet}

-- what its name stands for
abbrev pub Named : List ItemTree → Site → Type 0
Named is v = ref_at (named is).refs v.number ≡ refers v.world v.locals v.subject

each_at : (all : List (Option Ref)) (own : Visit) (vs : List Site) (n hi : ℕ) → Row n vs hi →
    ((i : ℕ) → slice_get all (n + i) ≡ slice_get (map ref_of (map visit_of vs ++ own ∷ [])) i) →
    Each (λ (v : Site). ref_at all v.number ≡ refers v.world v.locals v.subject) vs
each_at all own [] n hi r f = tt
each_at all own (v ∷ vs) n hi r f = (
  ap (λ m. referred (slice_get all m)) (let same : v.number ≡ n + 0 = omega (arith, r.0) in same) ∙ ap referred (f 0),
  each_at all own vs (suc n) hi r.1
      (λ i. ap (slice_get all) (let same : suc n + i ≡ n + suc i = omega arith in same) ∙ f (suc i)),
)

pub all_named : (is : List ItemTree) → ItemsShaped is → (hi : ℕ) → Row 0 (program_sites is) hi → Each (Named is) (program_sites is)
all_named is h hi r =
    each_at (named is).refs (own_visit is) (program_sites is) 0 hi r
    (λ i. ap (slice_get (named is).refs) (let same : 0 + i ≡ i = omega arith in same)
    ∙ ap (λ (l : List Visit). slice_get (map ref_of l) i) (visits_are_sites is h))

each_of_map : {A B : Type 0} (f : A → B) (Q : B → Type 0) (vs : List A) → Each Q (map f vs) → Each (λ (v : A). Q (f v)) vs
each_of_map f Q [] h = tt
each_of_map f Q (v ∷ vs) h = (h.0, each_of_map f Q vs h.1)

abbrev pub NamesKept : Site → Type 0
NamesKept v = first_true (names.rules_at v.world v.locals v.subject) ≡ None

pub all_kept : (is : List ItemTree) → ItemsShaped is → ((n c : ℕ) → NamesBreak is n c → ⊥) → Each NamesKept (program_sites is)
all_kept is h quiet =
    let Kept : Visit → Type 0 = λ (x : Visit). first_true (rules_of x) ≡ None in
    let visits = each_quiet number_of keep_fault Breaks (program_visits is) None quiet Kept (λ x s f. none_true (rules_of x) f) in
    each_of_map visit_of Kept (program_sites is)
    (each_first Kept (map visit_of (program_sites is)) (own_visit is ∷ []) (subst (Each Kept) (visits_are_sites is h) visits))
