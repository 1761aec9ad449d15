use mir.Val.{to_z, of_z}
use mir.Syntax.{w64}
use Rattle.std.proofs.Common.{◌≡◌, ℕ, ℤ, List, length, OnOk, rules, subst}
use Rattle.verse_image.specs.Format.{◌⨾◌, byte, plain, integer}
use Rattle.verse_image.specs.Writing.{Writes}
use Rattle.run_save_format.specs.Format.{wide}
use Rattle.run_save_writer.proofs.keys.push_key.Goals as goal

pub returns-in-Int : goal.returns-in-Int
returns-in-Int c =
    let here : to_z w64 (of_z w64 c.in-Int.n) ≡ c.in-Int.n = search rules in
    rw c.in-Int.is (subst (λ (n : ℤ). OnOk c.push_int.result (Writes (byte 0 ⨾ integer n) c.args.out.now.items c.push_int.new.out.items))
    here c.push_int.ensures)

pub returns-in-Logic : goal.returns-in-Logic
returns-in-Logic c = rw c.in-Logic.is c.push_logic.ensures

pub returns-in-Enum : goal.returns-in-Enum
returns-in-Enum c = rw c.in-Enum.is c.push_enum.ensures

pub returns-in-Text : goal.returns-in-Text
returns-in-Text c =
    rw c.in-Text.is (subst (λ (bytes : List ℕ). OnOk c.push_text.result (Writes (byte 4 ⨾ wide (length bytes) ⨾ plain bytes)
    c.args.out.now.items c.push_text.new.out.items)) c.as_slice.ensures c.push_text.ensures)
