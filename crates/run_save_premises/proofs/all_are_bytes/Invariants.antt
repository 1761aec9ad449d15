-- Those that were read are of bytes.
use Rattle.std.proofs.Common.{ℕ, ◌≤◌, All, take}
use Rattle.run_save_premises.proofs.all_are_bytes.Given as goal

abbrev pub invariant-texts : goal.invariant-texts
invariant-texts l = All (All (λ (b : ℕ). b ≤ 255)) (take l.text-index l.texts)
