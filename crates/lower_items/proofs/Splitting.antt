-- The functions of the code, by one item or one member and what is behind it.
use Rattle.std.proofs.Common.{◌≡◌, ℕ, ◌+◌, List, [], ◌∷◌, ◌++◌, length, true, false, cond, refl, ap, sym, ◌∙◌, arith}
use Rattle.verse_tree.specs.ItemTree.{MemberTree, field, method, ItemTree, using, enumeration, class, function}
use Rattle.verse_meaning.specs.Programs.{same_name, main_name}
use Rattle.lower_code.specs.Programs.{methods_in, bodies_in, main_from}
use Rattle.lower_items.specs.Parts.{method_at, bodies_at, methods_behind}
use Rattle.lower_items.specs.Parts.{is_main, item_behind}

module _ (is : List ItemTree) where
  pub bodies_split : (i : ItemTree) → bodies_in (i ∷ is) ≡ bodies_at i ++ bodies_in is
  bodies_split (using u) = refl
  bodies_split (enumeration e) = refl
  bodies_split (class c) = refl
  bodies_split (function f) = refl

module _ (ms : List MemberTree) where
  pub methods_split : (m : MemberTree) → methods_in (m ∷ ms) ≡ method_at m ++ methods_in ms
  methods_split (field f) = refl
  methods_split (method f) = refl

behind_is : (ms : List MemberTree) (n : ℕ) → methods_behind ms n ≡ n + length (methods_in ms)
behind_is [] n = omega arith
behind_is (field f ∷ ms) n = behind_is ms (n + 0) ∙ omega arith
behind_is (method f ∷ ms) n = behind_is ms (n + 1) ∙ omega arith

pub main_split : (i : ItemTree) (is : List ItemTree) (n : ℕ) → main_from n (i ∷ is) ≡ cond (is_main i) n (main_from (item_behind i n) is)
main_split (using u) is n = refl
main_split (enumeration e) is n = refl
main_split (class c) is n = ap (λ m. main_from m is) (sym (behind_is c.members n))
main_split (function f) is n = ap (λ m. cond (same_name f.name main_name) n (main_from m is)) (omega arith)

pub main_here : (i : ItemTree) (is : List ItemTree) (n : ℕ) → is_main i ≡ true → main_from n (i ∷ is) ≡ n
main_here i is n e = main_split i is n ∙ ap (λ b. cond b n (main_from (item_behind i n) is)) e

pub main_behind : (i : ItemTree) (is : List ItemTree) (n : ℕ) → is_main i ≡ false → main_from n (i ∷ is) ≡ main_from (item_behind i n) is
main_behind i is n e = main_split i is n ∙ ap (λ b. cond b n (main_from (item_behind i n) is)) e
