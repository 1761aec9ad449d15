-- An image and its notes, loaded one after the other.
use Rattle.std.proofs.Common.{◌≡◌, ◌⊎◌, ℕ, ◌<◌, List, [], ◌∷◌, map, inl, inr, refl, sym, subst, ap, ◌∙◌, slice_index_or, length, arith}
use Rattle.verse_outside.specs.Causes.{Rose}
use Rattle.verse_outside.specs.Held.{Holding, Lacks}
use Rattle.verse_top_args.specs.Words.{Command, files_of}
use Rattle.verse_top_args.specs.Requests.{AsksForVerify}
use Rattle.verse_top_verify.specs.Verifying.{Verifies}
use Rattle.verse_top.specs.Loading.{IsAmong, IsMissing, IsRead}
use Rattle.verse_top.specs.Answers.{Answers, read_line, verified}
use Rattle.verse_top.specs.Ends.{Replies}

-- the two names
module _ {A : Type 0} (text : A → List ℕ) where
  pub first_of : (words : List A) (one other : List ℕ) (d : A) → map text words ≡ one ∷ other ∷ [] → d ≡ slice_index_or words 0 d →
      text d ≡ one
  first_of [] one other d e f = absurd (cc)
  first_of (w ∷ ws) one other d e f = let same : text w ≡ one = cc in ap text f ∙ same

  pub second_of : (words : List A) (one other : List ℕ) (d : A) → map text words ≡ one ∷ other ∷ [] → d ≡ slice_index_or words 1 d →
      text d ≡ other
  second_of [] one other d e f = absurd (cc)
  second_of (w ∷ []) one other d e f = absurd (cc)
  second_of (w ∷ v ∷ vs) one other d e f = let same : text v ≡ other = cc in ap text f ∙ same

  pub are_two : (words : List A) (one other : List ℕ) → map text words ≡ one ∷ other ∷ [] → 1 < length words
  are_two [] one other e = absurd (cc)
  are_two (w ∷ []) one other e = absurd (cc)
  are_two (w ∷ v ∷ vs) one other e = omega arith

-- what was loaded, under another name for each part
pub read_as : (there held : Holding) (name as_named bytes same_bytes : List ℕ) → there ≡ held → name ≡ as_named → same_bytes ≡ bytes →
    IsRead there name bytes → IsRead held as_named same_bytes
read_as there held name as_named bytes same_bytes e f g read =
    subst (λ (h : Holding). IsRead h as_named same_bytes) e
    (subst (λ (n : List ℕ). IsRead there n same_bytes) f (subst (λ (b : List ℕ). IsRead there name b) (sym g) read))

module _ (held : Holding) (c : Command) (names : List (List ℕ)) (a : AsksForVerify names c) (before now status : ℕ) (text : List ℕ) where
  -- both were read
  pub replies_verified : (bytes more : List ℕ) → IsRead held a.image bytes → IsRead held a.notes more → Verifies bytes more status text →
      Replies c held before now status text
  replies_verified bytes more one other v =
      inl (subst (λ (d : Command). Answers held d status text) (sym a.is) (verified a.image a.notes bytes more status text one other v))

  unread : (name : List ℕ) → IsAmong name (files_of c) → Rose before now ⊎ IsMissing held c name → status ≡ 6 → text ≡ read_line name →
      Replies c held before now status text
  unread name among cause s t = inr (s, (name, (t, record { named = among; cause = cause })))

  among : (name : List ℕ) → IsAmong name (a.image ∷ a.notes ∷ []) → IsAmong name (files_of c)
  among name n = subst (λ (d : Command). IsAmong name (files_of d)) (sym a.is) n

  -- the first was not
  pub replies_first : Rose before now ⊎ Lacks held a.image → status ≡ 6 → text ≡ read_line a.image → Replies c held before now status text
  replies_first cause s t =
      unread a.image (among a.image (inl refl)) (elim cause [
        | inl rose ↦ inl rose
        | inr lacks ↦ inr (subst (λ (d : Command). IsMissing held d a.image) (sym a.is) (inl (lacks, refl)))
      ]) s t

  -- the second was not
  pub replies_second : (bytes : List ℕ) → IsRead held a.image bytes → Rose before now ⊎ Lacks held a.notes → status ≡ 6 →
      text ≡ read_line a.notes → Replies c held before now status text
  replies_second bytes read cause s t =
      unread a.notes (among a.notes (inr (inl refl))) (elim cause [
        | inl rose ↦ inl rose
        | inr lacks ↦ inr (subst (λ (d : Command). IsMissing held d a.notes) (sym a.is) (inr (bytes, (read, (lacks, refl)))))
      ]) s t
