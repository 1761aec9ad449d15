use Rattle.verse_top_load.proofs.LoadLemmas.{joined}
use Rattle.verse_top_load.proofs.load_text.Goals as goal

pub returns : goal.returns
returns c =
    joined _ _ _ _ _ _ _ c.new-out.ensures.items c.in_ok-push_functions.ensures c.in_ok-extend_from_slice.ensures.items
    c.in_ok-push_calls.ensures
