-- A `set`, by its steps.
use Rattle.std.proofs.Common.{◌≡◌, ℕ, suc, ◌+◌, Bool, length, ap, ◌∙◌, arith}
use Rattle.verse_tree.specs.Tree.{Tree}
use Rattle.verse_tree.specs.Tree as t
use Rattle.verse_tree.specs.declared.exprs.Assign.{Assign}
use Rattle.verse_tree.specs.declared.programs.Program.{Program}
use Rattle.verse_meaning.specs.Programs.{program_of}
use Rattle.verse_meaning.specs.Evaluating.{number_of, base_of}
use Rattle.verse_sorts.specs.Sorts.{Sort}
use Rattle.lower_code.specs.Arounds.{up, raised}
use Rattle.lower_code.specs.Scopes.{Scope}
use Rattle.lower_code.specs.declared.arounds.Around.{Around}
use Rattle.lower_code.specs.Lowering.{has_base, keeps, target_operands}
use Rattle.lower_lookup.specs.Types.{differ_of}
use Rattle.lower_notes.specs.Stretches.{Walk, when_else}
use Rattle.lower_notes.specs.Applied.{storing}
use Rattle.note_sorts.specs.Tabled.{found_of}
use Rattle.note_stretches.specs.Noted.{Noted, walked}
use Rattle.note_applied.proofs.Steps.{three_steps}
use Rattle.note_parts.specs.Parts.{tree_walk, form_walk, no_place}
use Rattle.note_targets.specs.Targets.{target_walk}

pub next_is : (m n k : ℕ) → m ≡ n + 1 → n ≡ k → m ≡ suc k
next_is m n k e f = omega (arith, e, f)

abbrev pub store : (there keeps : Bool) → (local n : ℕ) → (place value : Sort) → Walk
store there k l n q r = when_else there (storing k l n q r)

module _ (p : Program) (x : Assign) (b c : Tree) (sc : Scope) (a : Around) where
  -- behind the cell, the indices and the value
  abbrev pub stored : Walk
  stored =
      store (has_base (program_of p) (differ_of p) b (base_of (program_of p) b) sc)
      (keeps x (differ_of p (number_of b) (number_of c))) (length sc)
      (suc (target_operands b)) ((found_of p).sort (number_of b)) ((found_of p).sort (number_of c))

  pub store_is : (there k : Bool) (l n m v : ℕ) →
      there ≡ has_base (program_of p) (differ_of p) b (base_of (program_of p) b) sc →
      k ≡ keeps x (differ_of p (number_of b) (number_of c)) → l ≡ length sc → n ≡ suc (target_operands b) →
      m ≡ number_of b → v ≡ number_of c →
      store there k l n ((found_of p).sort m) ((found_of p).sort v) ≡ stored
  store_is there k l n m v et ek el en em ev =
      let t = has_base (program_of p) (differ_of p) b (base_of (program_of p) b) sc in
      let q = keeps x (differ_of p (number_of b) (number_of c)) in
      let s : ℕ → Sort = (found_of p).sort in
      ap (λ t. store t k l n (s m) (s v)) et ∙ ap (λ k. store t k l n (s m) (s v)) ek
      ∙ ap (λ l. store t q l n (s m) (s v)) el ∙ ap (λ n. store t q (length sc) n (s m) (s v)) en
      ∙ ap (λ m. store t q (length sc) (suc (target_operands b)) (s m) (s v)) em
      ∙ ap (λ v. store t q (length sc) (suc (target_operands b)) (s (number_of b)) (s v)) ev

  pub set_is : (f g h : Walk) (y first second last : Noted) →
      first ≡ walked f y → second ≡ walked g first → last ≡ walked h second →
      f ≡ target_walk p b (base_of (program_of p) b) sc a →
      g ≡ tree_walk p c sc (up (raised (target_operands b) a)) → h ≡ stored →
      last ≡ walked (form_walk p (t.Shape.assignment x b c) 0 no_place sc a) y
  set_is f g h y first second last d e i k l m =
      three_steps (target_walk p b (base_of (program_of p) b) sc a) (tree_walk p c sc (up (raised (target_operands b) a))) stored
      y first second last
      (d ∙ ap (λ w. walked w y) k) (e ∙ ap (λ w. walked w first) l) (i ∙ ap (λ w. walked w second) m)
