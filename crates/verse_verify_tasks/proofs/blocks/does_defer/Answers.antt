use Rattle.std.proofs.Common.{◌≡◌, ◌∷◌, [], suc, length, sym, ap, ◌∙◌}
use Rattle.std.specs.Global.{Vec}
use Rattle.verse_verify_notes.specs.declared.sorts.Sort.{Sort}
use Rattle.verse_verify_next.specs.Leads.{block_begins, goes_deferring}
use Rattle.verse_verify_parts.specs.Heres.{spot_in, suited}
use Rattle.verse_verify_tasks.proofs.Grouping.{first_fails, second_tells}
use Rattle.verse_verify_tasks.proofs.blocks.does_defer.Goals as goal

pub returns-then-not-does_block_begin : goal.returns-then-not-does_block_begin
returns-then-not-does_block_begin c =
    let h = c.args.here.now in
    let ds = (spot_in h).defers in
    let ls = h.spot.now.locals.value.items in
    let shown = c.deref-2.ensures.value ∙ ap (λ (v : Vec Sort). v.items) c.deref.ensures in
    let begun : suited h (block_begins h (suc h.index) (length ds) ls ∷ []) ≡ c.does_block_begin.result = sym
    (c.does_block_begin.ensures ∙ ap (λ ks. suited h (block_begins h c.next.result c.defers_count.result ks ∷ [])) shown ∙
    ap (λ n. suited h (block_begins h n c.defers_count.result ls ∷ [])) c.next.ensures ∙
    ap (λ n. suited h (block_begins h (suc h.index) n ls ∷ [])) c.defers_count.ensures.count) in
    first_fails h (block_begins h (suc h.index) (length ds) ls) (goes_deferring h c.args.label (suc h.index ∷ ds) c.args.st.now ∷ [])
    (begun ∙ c.if-not-does_block_begin.true)

pub returns : goal.returns
returns c =
    let h = c.args.here.now in
    let ds = (spot_in h).defers in
    let ls = h.spot.now.locals.value.items in
    let shown = c.deref-2.ensures.value ∙ ap (λ (v : Vec Sort). v.items) c.deref.ensures in
    let begun : suited h (block_begins h (suc h.index) (length ds) ls ∷ []) ≡ c.does_block_begin.result = sym
    (c.does_block_begin.ensures ∙ ap (λ ks. suited h (block_begins h c.next.result c.defers_count.result ks ∷ [])) shown ∙
    ap (λ n. suited h (block_begins h n c.defers_count.result ls ∷ [])) c.next.ensures ∙
    ap (λ n. suited h (block_begins h (suc h.index) n ls ∷ [])) c.defers_count.ensures.count) in
    c.does_lead_behind_block.ensures ∙ second_tells h (block_begins h (suc h.index) (length ds) ls) (goes_deferring h
    c.args.label (suc h.index ∷ ds) c.args.st.now ∷ []) (begun ∙ c.if-not-does_block_begin.false)
