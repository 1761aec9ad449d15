-- The text of the load is the one file that is judged.
use Rattle.std.proofs.Common.{◌≡◌, ℕ, List, [], ◌∷◌, ◌++◌, map, string_bytes, refl, ap, subst, ◌∙◌}
use Rattle.verse_top_load.specs.Load.{load_text_of}
use Rattle.verse_top.specs.Fronted.{Judged}
use Rattle.verse_top.specs.declared.fronts.Fronted.{Fronted}
use Rattle.verse_top.proofs.ProgramLaws.{loads_accepted, loads_rejected}
use Rattle.verse_top.proofs.loads.loaded.Goals as goal

pub returns-in-Accepted : goal.returns-in-Accepted
returns-in-Accepted c =
    let files = map (λ b. b.items) c.as_slice.result.now in
    let one : files ≡ load_text_of c.args.functions ∷ [] = ap (λ bs. map (λ b. b.items) bs) (c.as_slice.ensures.value ∙
    (c.in_ok-push.ensures.items ∙ ap (λ bs. bs ++ c.in_ok-load_text.field-0 ∷ []) c.new-files.ensures.items)) ∙
    ap (λ (l : List ℕ). l ∷ []) c.in_ok-load_text.ensures in
    loads_accepted c.args.functions files c.in-Accepted.program c.counted.result one
    (subst (λ (x : Fronted). Judged [] files x) c.in-Accepted.is c.in_ok-program.ensures) c.counted.ensures

pub returns : goal.returns
returns c =
    let files = map (λ b. b.items) c.as_slice.result.now in
    let one : files ≡ load_text_of c.args.functions ∷ [] = ap (λ bs. map (λ b. b.items) bs) (c.as_slice.ensures.value ∙
    (c.in_ok-push.ensures.items ∙ ap (λ bs. bs ++ c.in_ok-load_text.field-0 ∷ []) c.new-files.ensures.items)) ∙
    ap (λ (l : List ℕ). l ∷ []) c.in_ok-load_text.ensures in
    loads_rejected c.args.functions [] files c.in-Refused.answer refl one
    (subst (λ (x : Fronted). Judged [] files x) c.in-Refused.is c.in_ok-program.ensures)
