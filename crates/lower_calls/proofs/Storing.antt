-- How a `set` writes.
use Rattle.std.proofs.Common.{◌≡◌, ℕ, Bool, length, ap, ◌∙◌}
use Rattle.verse_base.specs.declared.places.Place.{Place}
use Rattle.verse_tree.specs.Tree.{Tree}
use Rattle.verse_tree.specs.declared.exprs.Assign.{Assign}
use Rattle.verse_tree.specs.declared.programs.Program.{Program}
use Rattle.verse_code.specs.declared.operations.Op.TheVariants as o
use Rattle.verse_meaning.specs.Programs.{program_of}
use Rattle.verse_meaning.specs.Residuals.{Base}
use Rattle.verse_meaning.specs.Evaluating.{number_of, mode_of}
use Rattle.lower_code.specs.Pieces.{Maker, numbering, when_else}
use Rattle.lower_code.specs.Scopes.{Scope}
use Rattle.lower_code.specs.Applied.{storing, slot_of, mode_number}
use Rattle.lower_code.specs.Lowering.{has_base, keeps}
use Rattle.lower_lookup.specs.Types.{differ_of}

abbrev store : (there : Bool) → Place → (slot indices mode : ℕ) → (kept : Bool) → (local : ℕ) → Maker
store there pl s n m k l = when_else there (numbering pl (λ place. storing (o.Store s n m place) k l))

-- behind the cell, the indices, of which there are n, and the value
abbrev pub stored : Program → Assign → (b c : Tree) → Place → Base → (n : ℕ) → Scope → Maker
stored p x b c pl base n sc =
    store (has_base (program_of p) (differ_of p) b base sc) pl (slot_of base) n (mode_number (mode_of x))
    (keeps x (differ_of p (number_of b) (number_of c))) (length sc)

module _ (p : Program) (x : Assign) (b c : Tree) (pl : Place) (base : Base) (n : ℕ) (sc : Scope) where
  pub store_is : (there : Bool) (s i m : ℕ) (k : Bool) (l : ℕ) →
      there ≡ has_base (program_of p) (differ_of p) b base sc → s ≡ slot_of base →
      i ≡ n → m ≡ mode_number (mode_of x) → k ≡ keeps x (differ_of p (number_of b) (number_of c)) → l ≡ length sc →
      store there pl s i m k l ≡ stored p x b c pl base n sc
  store_is there s i m k l et es ei em ek el =
      let t : Bool = has_base (program_of p) (differ_of p) b base sc in
      let o : ℕ = mode_number (mode_of x) in
      let q : Bool = keeps x (differ_of p (number_of b) (number_of c)) in
      ap (λ t. store t pl s i m k l) et ∙ ap (λ s. store t pl s i m k l) es
      ∙ ap (λ i. store t pl (slot_of base) i m k l) ei
      ∙ ap (λ m. store t pl (slot_of base) n m k l) em ∙ ap (λ k. store t pl (slot_of base) n o k l) ek
      ∙ ap (store t pl (slot_of base) n o q) el
