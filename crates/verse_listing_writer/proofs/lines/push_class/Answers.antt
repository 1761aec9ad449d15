use Rattle.std.proofs.Common.{List, ℕ, ap, codes, decimal, map, ◌++◌, ◌∙◌}
use Rattle.verse_listing_writer.specs.Writing.{behind}
use Rattle.verse_listing_writer.proofs.LineLemmas.{line_written}
use Rattle.verse_listing_writer.proofs.lines.push_class.Goals as goal

pub returns-clause-written : goal.returns-clause-written
returns-clause-written c =
    line_written (codes "class") (decimal c.args.class.now.slots) (map decimal c.args.class.now.methods) c.args.out.now.items _ _ _ _
    c.in_ok-extend_from_slice.ensures.items c.in_ok-push_number.ensures
    (c.in_ok-push_methods.ensures ∙
    ap (λ (methods : List ℕ). c.push_number.new.out.items ++ behind (map decimal methods)) c.as_slice.ensures)
    c.in_ok-push.ensures.items
