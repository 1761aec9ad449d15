-- A task that stands at a group.
use Rattle.std.proofs.Common.{◌≡◌, ℕ, List, [], length, Option, ap, ◌∙◌}
use Rattle.verse_code.specs.declared.codes.Code.{Code}
use Rattle.verse_value.specs.Val.{Val}
use Rattle.vm_frames.specs.Framed.{Framed}
use Rattle.vm_tasks.specs.declared.slots.Group.{Group}
use Rattle.vm_tasks.specs.declared.slots.Held.TheVariants.{AtGroup}
use Rattle.run_save_shots.specs.Kept.{KeptFrame}
use Rattle.run_save_shots.specs.Fitting.{stand_at, top_place}
use Rattle.run_save_shots.specs.Spelling.{gathered}
use Rattle.run_save_numbers.specs.Numbers.{Numbers}
use Rattle.run_save_slots.specs.Stacking.{stacked}
use Rattle.run_save_slots.specs.Slots.{rest_of_group, parts, IsAtGroup, is_at_group}

pub made_at_group : (c : Code) (frames shown : List KeptFrame) (arms : List (Option Val)) (n : Numbers) (fs : List Framed) (g : Group)
    (count : ℕ) (borns numbers : List ℕ) → fs ≡ stacked count borns frames [] → count ≡ length arms → borns ≡ n.borns →
    rest_of_group g ≡ gathered c (stand_at c (top_place shown)) (parts arms numbers) → shown ≡ frames → numbers ≡ n.arms →
    IsAtGroup c frames arms n (AtGroup fs g)
made_at_group c frames shown arms n fs g count borns numbers e k b h f a =
    is_at_group
    (e ∙ (ap (λ i. stacked i borns frames []) k ∙ ap (λ bs. stacked (length arms) bs frames []) b))
    (h ∙ (ap (λ ks. gathered c (stand_at c (top_place ks)) (parts arms numbers)) f ∙
    ap (λ ns. gathered c (stand_at c (top_place frames)) (parts arms ns)) a))
