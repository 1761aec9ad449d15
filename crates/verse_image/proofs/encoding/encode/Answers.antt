use Rattle.std.proofs.Common.{◌≡◌, ℕ, List, length, subst, ◌∙◌, ap}
use Rattle.verse_code.specs.declared.operations.Op.{Op}
use Rattle.verse_image.specs.Format.{each, head, tables, operation, version_of, version_for}
use Rattle.verse_image.specs.Writing.{Writes}
use Rattle.verse_image.proofs.WritingLemmas.{writes_three}
use Rattle.verse_image.proofs.Versions.{image_from}
use Rattle.verse_image.proofs.encoding.encode.Goals as goal

pub returns : goal.returns
returns c =
    let code = c.args.code.now in
    let version : c.version_for-version.result ≡ version_of code = c.version_for-version.ensures ∙ ap version_for c.as_slice.ensures in
    let start : Writes (head (version_of code) code.files (length code.ops)) c.new-out.result.items c.push_head.new.out.items =
    subst (λ (n : ℕ). Writes (head (version_of code) code.files n) c.new-out.result.items c.push_head.new.out.items) c.len.ensures
    (subst (λ (v : ℕ). Writes (head v code.files c.len.result) c.new-out.result.items c.push_head.new.out.items) version
    c.in_ok-push_head.ensures) in
    let ops : Writes (each operation code.ops) c.push_tables.new.out.items c.push_operations.new.out.items =
    subst (λ (xs : List Op). Writes (each operation xs) c.push_tables.new.out.items c.push_operations.new.out.items) c.as_slice-2.ensures
    c.in_ok-push_operations.ensures in
    image_from code c.new-out.result.items c.push_operations.new.out.items c.new-out.ensures.items c.requires
    (writes_three (head (version_of code) code.files (length code.ops)) (tables code)
    (each operation code.ops) _ _ _ _ start c.in_ok-push_tables.ensures ops)
