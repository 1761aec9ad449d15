-- Functions of the code, one behind the other.
use Rattle.std.proofs.Common.{◌≡◌, ℕ, ◌+◌, ◌<◌, List, [], ◌∷◌, ◌++◌, length, map, drop, get_or, refl, sym, ap, ◌∙◌}
use Rattle.std.proofs.Common.{append_assoc}
use Rattle.verse_tree.specs.declared.programs.Program.{Program}
use Rattle.verse_code.specs.declared.codes.Func.{Func}
use Rattle.lower_code.specs.Pieces.{Maker, past, ◌then◌}
use Rattle.lower_code.specs.Programs as l
use Rattle.lower_expr.specs.Building.{Built, spot, with_locals, made}
use Rattle.lower_expr.proofs.Laws.{made_then, spot_past}
use Rattle.lower_items.specs.declared.bodies.Body.{Body}
use Rattle.lower_items.specs.Views.{body_view}
use Rattle.lower_parts.proofs.Lists.{seen_next}
use Rattle.verse_lower.specs.Making.{body_code, function_of, functions_from, with_body, with_bodies, bodies_code}

-- how many locals there are does not matter to what is added
uncounted : (f : Maker) (b : Built) → with_locals 0 (made f (with_locals 0 b)) ≡ with_locals 0 (made f b)
unfolding made with_locals
uncounted f b = refl

spot_behind : (f : Maker) (b : Built) → spot (made f (with_locals 0 b)) ≡ past (spot b) (f (spot b))
unfolding made with_locals
spot_behind f b = spot_past (with_locals 0 b) (f (spot b))

-- from the i-th body on
abbrev pub left_bodies : List Body → ℕ → List l.Body
left_bodies xs i = map body_view (drop i xs)

module _ (p : Program) (xs : List Body) (i : ℕ) where
  -- behind one body more, and where none is left
  pub code_next : (x : Body) (b behind all : Built) → i < length xs → x ≡ get_or xs i x →
      behind ≡ with_body p (body_view x) b →
      with_bodies p (left_bodies xs i) b ≡ all → with_bodies p (left_bodies xs (i + 1)) behind ≡ all
  code_next x b behind all h e g is =
      let f : Maker = body_code p (body_view x) in
      let rest : Maker = bodies_code p (left_bodies xs (i + 1)) in
      ap (with_bodies p (left_bodies xs (i + 1))) g ∙ moved f rest b
      ∙ sym (ap (λ bs. with_bodies p bs b) (seen_next body_view xs i x h e))
      ∙ is
    where
      moved : (f rest : Maker) (b : Built) →
          with_locals 0 (made rest (made f (with_locals 0 b))) ≡ with_locals 0 (made (f then rest) b)
      moved f rest b =
          sym (ap (with_locals 0) (made_then f rest (with_locals 0 b))) ∙ uncounted (f then rest) b

  pub functions_next : (x : Body) (fs all : List Func) (f : Func) (b behind : Built) → i < length xs →
      x ≡ get_or xs i x →
      behind ≡ with_body p (body_view x) b → f ≡ function_of p (spot b) (body_view x) →
      fs ++ functions_from p (left_bodies xs i) (spot b) ≡ all →
      (fs ++ f ∷ []) ++ functions_from p (left_bodies xs (i + 1)) (spot behind) ≡ all
  functions_next x fs all f b behind h e g k is =
      append_assoc fs (f ∷ []) (functions_from p (left_bodies xs (i + 1)) (spot behind))
      ∙ ap (λ y. fs ++ y ∷ functions_from p (left_bodies xs (i + 1)) (spot behind)) k
      ∙ ap (λ s. fs ++ function_of p (spot b) (body_view x) ∷ functions_from p (left_bodies xs (i + 1)) s)
      (ap spot g ∙ spot_behind (body_code p (body_view x)) b)
      ∙ sym (ap (λ bs. fs ++ functions_from p bs (spot b)) (seen_next body_view xs i x h e)) ∙ is
