use Rattle.std.proofs.Common.{ℕ, ◌≤◌, All, arith, subst, ◌∙◌}
use Rattle.std.proofs.lemmas.List.{take_all}
use Rattle.std.proofs.lemmas.List.Elements.{All-more}
use Rattle.run_save_premises.proofs.all_are_bytes.Goals as goal

pub texts-preserved : goal.texts-preserved
texts-preserved c = All-more (All (λ (b : ℕ). b ≤ 255)) c.args.texts.now c.texts.text-index _ (omega arith) c.texts.invariant
    (subst (All (λ (b : ℕ). b ≤ 255)) (c.as_slice.ensures ∙ c.text-item.is) c.are_bytes.ensures)

pub returns : goal.returns
returns c = subst (λ ts. All (All (λ (b : ℕ). b ≤ 255)) ts) (take_all c.texts.text-index c.args.texts.now (omega arith)) c.texts.invariant
