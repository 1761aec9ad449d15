-- Two stretches, one behind the other, by the steps that made them.
use Rattle.std.proofs.Common.{◌≡◌, sym, ap, ◌∙◌, Option, Some, None}
use Rattle.verse_value.specs.Val.{Val}
use Rattle.lower_notes.specs.Stretches.{Walk, ◌then◌}
use Rattle.lower_notes.specs.Noting.{membered, enum_walk}
use Rattle.note_stretches.specs.Noted.{Noted, walked}
use Rattle.note_stretches.proofs.Laws.{walked_then}

pub two_steps : (f g h : Walk) (b mid last : Noted) → mid ≡ walked f b → last ≡ walked h mid → h ≡ g →
    last ≡ walked (f then g) b
two_steps f g h b mid last e k is = k ∙ ap (λ h. walked h mid) is ∙ ap (walked g) e ∙ sym (walked_then f g b)

pub same_walked : (f g : Walk) (b last : Noted) → last ≡ walked f b → f ≡ g → last ≡ walked g b
same_walked f g b last e is = e ∙ ap (λ h. walked h b) is

module _ (f : Walk) (b all : Noted) (found : Option Val) where
  pub as_value : (v : Val) → Some v ≡ found → all ≡ walked (enum_walk v) b →
      all ≡ walked (membered found f) b
  unfolding membered
  as_value v e is = is ∙ ap (λ o. walked (membered o f) b) e

  pub as_read : None ≡ found → all ≡ walked f b → all ≡ walked (membered found f) b
  unfolding membered
  as_read e is = is ∙ ap (λ o. walked (membered o f) b) e
