-- What is taken from a domain.
use Rattle.std.proofs.Common.{◌≡◌, ℕ, suc, ◌+◌, List, Bool, Bor, true, false, sym, ap, ◌∙◌, arith}
use Rattle.std.specs.Prelude.{Option, Some, None, ◌&&◌}
use Rattle.std.specs.Option.{option_map}
use Rattle.std.proofs.lemmas.Option.{none-some}
use Rattle.verse_sorts.specs.Sorts.{Sort}
use Rattle.verse_verify_faults.specs.Stepping as t
use Rattle.verse_verify_faults.specs.Stepping.{Stepped, Taking, breaks, need, on_there}
use Rattle.verse_verify_notes.specs.declared.sorts.Sort.{Sort as Kept}
use Rattle.verse_verify_notes.specs.View.{sort_of}
use Rattle.verse_verify_parts.specs.declared.heres.Here.{Here}
use Rattle.verse_verify_parts.specs.Heres.{classes_in}
use Rattle.verse_verify_operands.specs.Finds.{written_of}
use Rattle.verse_verify_flow.specs.Writing.{writes_taken}

-- the sort of a local that is there
pub sort_there : (r : Option (Bor Kept)) (x : Bor Kept) (a : Option Sort) → option_map (λ (b : Bor Kept). sort_of b.now) r ≡ a →
    r ≡ Some x → Some (sort_of x.now) ≡ a
sort_there r x a e f = ap (option_map (λ (b : Bor Kept). sort_of b.now)) (sym f) ∙ e

pub next : (l : ℕ) → l + 1 ≡ suc l
next l = omega arith

abbrev Written : Type 0
Written = t.Made × t.Made × ℕ × t.Made

module _ (h : Here) (l d label : ℕ) (st : List Sort) where
  abbrev takes : Written → Stepped
  takes q = writes_taken h l d label q st

  -- a Take, by what stands in the two locals of its domain
  abbrev pub take_by : Option Sort → Option Sort → Stepped
  take_by a b = need 5 (t.may_take (classes_in h) a && t.may_number (classes_in h) b) (on_there 6 a (λ x. on_there 6 b (λ y. on_there 5
      (t.taken (classes_in h) x) (λ k. takes (written_of k)))))

  pub no_number : (a b : Option Sort) → t.may_take (classes_in h) a ≡ true → t.may_number (classes_in h) b ≡ false →
      take_by a b ≡ breaks 5
  no_number a b e f = rw (e, f)

  need_both : (b c : Bool) (q : Stepped) → b ≡ true → c ≡ true → need 5 (b && c) q ≡ q
  need_both b c q e f = rw (e, f)

  passed : (m : Option Taking) (q : Written) → Some q ≡ option_map written_of m → on_there 5 m (λ k. takes (written_of k)) ≡ takes q
  passed None q e = elim (none-some q (sym e)) [ ]
  passed (Some k) q e = ap takes (cc)

  both_there : (a b : Option Sort) (x y : Sort) → Some x ≡ a → Some y ≡ b → t.may_take (classes_in h) a ≡ true →
      t.may_number (classes_in h) b ≡ true → take_by a b ≡ on_there 5 (t.taken (classes_in h) x) (λ k. takes (written_of k))
  both_there a b x y e f g i = ap (λ a. take_by a b) (sym e) ∙ ap (take_by (Some x)) (sym f) ∙
      need_both (t.may_take (classes_in h) (Some x)) (t.may_number (classes_in h) (Some y))
      (on_there 5 (t.taken (classes_in h) x) (λ k. takes (written_of k))) (ap (t.may_take (classes_in h)) e ∙ g)
      (ap (t.may_number (classes_in h)) f ∙ i)

  pub takes_this : (a b : Option Sort) (x y : Sort) (q : Written) → Some x ≡ a → Some y ≡ b → t.may_take (classes_in h) a ≡ true →
      t.may_number (classes_in h) b ≡ true → Some q ≡ option_map written_of (t.taken (classes_in h) x) → take_by a b ≡ takes q
  takes_this a b x y q e f g i n = both_there a b x y e f g i ∙ passed (t.taken (classes_in h) x) q n
