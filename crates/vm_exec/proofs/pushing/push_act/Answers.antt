use Rattle.std.proofs.Common.{◌≡◌, FitsSigned, ap, rules, w64}
use Rattle.std.proofs.lemmas.Int.{to_z-of_z}
use Rattle.verse_value.specs.Val.{int}
use Rattle.verse_value.specs.View.{val_of}
use Rattle.vm_exec.specs.Sorting.{push_of}
use Rattle.vm_exec.proofs.Pushed.{pushed_as}
use Rattle.vm_exec.proofs.pushing.push_act.Goals as goal

pub char-requires-clause-char : goal.char-requires-clause-char
char-requires-clause-char g c = c.requires.char c.in-Char.byte (ap push_of c.in-Char.is)

pub returns-in-Int : goal.returns-in-Int
returns-in-Int g c =
    let fits : FitsSigned w64 c.in-Int.value = search rules in
    let is : val_of c.int_of.result ≡ int c.in-Int.value = simp to_z-of_z at c.int_of.ensures in
    rw c.in-Int.is (pushed_as c.push_on.result _ _ _ _ is c.push_on.ensures)

pub returns-in-Unit : goal.returns-in-Unit
returns-in-Unit g c = rw c.in-Unit.is c.push_on-in-Unit.ensures

pub returns-in-False : goal.returns-in-False
returns-in-False g c = rw c.in-False.is c.push_on-in-False.ensures

pub returns-in-True : goal.returns-in-True
returns-in-True g c = rw c.in-True.is c.push_on-in-True.ensures

pub returns-in-Enum : goal.returns-in-Enum
returns-in-Enum g c = rw c.in-Enum.is c.push_on-in-Enum.ensures

pub returns-in-Put : goal.returns-in-Put
returns-in-Put g c = rw c.in-Put.is (c.put.ensures c.args.code.now)

pub returns-in-Drop : goal.returns-in-Drop
returns-in-Drop g c = rw c.in-Drop.is (c.discard.ensures c.args.code.now)
