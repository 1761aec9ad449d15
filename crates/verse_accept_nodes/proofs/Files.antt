-- What an accepted program's items have from each of its files.
use Rattle.std.proofs.Common.{◌≡◌, ℕ, zero, suc, ◌+◌, ◌*◌, ◌<◌, ◌≤◌, List, [], ◌∷◌, length, sym, ◌∙◌, subst, arith}
use Rattle.verse_base.specs.declared.limits.TheConstants.{MOST_FILE_BYTES}
use Rattle.verse_tree.specs.ItemTree.{ItemTree}
use Rattle.verse_tree.specs.Numbering.{items_numbered}
use Rattle.verse_tree.specs.Shapes.{ItemShaped, ItemsShaped}
use Rattle.verse_grammar_shapes.specs.ShapeLaws.{ProgramsAreShaped}
use Rattle.verse_rules.specs.Sound.{BodiesBreak}
use Rattle.verse_lex.specs.Cut.{AreTokens}
use Rattle.verse_accept.specs.Stages.{makes_each}
use Rattle.verse_accept.specs.Fronts.{Cut, Laid, sized, cutting, laying, spelling, all_items, Accepts}
use Rattle.lower_bounds.proofs.Lists.{Each, each_joined}
use Rattle.verse_accept_nodes.proofs.Tokens.{TokenFits, tokens_fit}
use Rattle.verse_accept_nodes.proofs.Toks.{TokFits, toks_fit}
use Rattle.verse_accept_nodes.proofs.Many.{toks_many}
use Rattle.verse_accept_nodes.proofs.Reading.{all_fit}
use Rattle.verse_accept_nodes.proofs.ReadingItems.{FineItem, program_fits}

-- what the items of each file have all have
module _ (Good : ItemTree → Type 0) (total : ℕ)
    (one : (n : ℕ) (bs cs : List ℕ) (c : Cut) (l : Laid) (is : List ItemTree) → n < total → (sized n).makes bs cs →
    (cutting n).makes cs c → (laying n).makes c l → (spelling n).makes l is → Each Good is) where
  each_good : (n : ℕ) (fs ss : List (List ℕ)) (cs : List Cut) (ls : List Laid) (iss : List (List ItemTree)) → n + length fs ≤ total →
      makes_each sized n fs ss → makes_each cutting n ss cs → makes_each laying n cs ls → makes_each spelling n ls iss →
      Each Good (all_items iss)
  each_good n [] [] [] [] [] few h g k m = tt
  each_good n (f ∷ fs) (s ∷ ss) (c ∷ cs) (l ∷ ls) (is ∷ iss) few h g k m =
      let low : n < total = omega arith in
      let less : suc n + length fs ≤ total = omega arith in
      each_joined Good is (all_items iss) (one n f s c l is low h.0 g.0 k.0 m.0)
      (each_good (suc n) fs ss cs ls iss less h.1 g.1 k.1 m.1)
  each_good n [] (s ∷ ss) cs ls iss few h g k m = absurd h
  each_good n (f ∷ fs) [] cs ls iss few h g k m = absurd h
  each_good n [] [] (c ∷ cs) ls iss few h g k m = absurd g
  each_good n (f ∷ fs) (s ∷ ss) [] ls iss few h g k m = absurd g
  each_good n [] [] [] (l ∷ ls) iss few h g k m = absurd k
  each_good n (f ∷ fs) (s ∷ ss) (c ∷ cs) [] iss few h g k m = absurd k
  each_good n [] [] [] [] (is ∷ iss) few h g k m = absurd m
  each_good n (f ∷ fs) (s ∷ ss) (c ∷ cs) (l ∷ ls) [] few h g k m = absurd m

one_fits : (total n : ℕ) (bs cs : List ℕ) (c : Cut) (l : Laid) (is : List ItemTree) → n < total → (sized n).makes bs cs →
    (cutting n).makes cs c → (laying n).makes c l → (spelling n).makes l is → Each (FineItem total) is
one_fits total n bs cs c l is low h g k m =
    let small_bs : length cs ≤ MOST_FILE_BYTES = subst (λ x. length x ≤ MOST_FILE_BYTES) (sym h.0) h.1 in
    let small_cut : length c.bytes ≤ MOST_FILE_BYTES = subst (λ x. length x ≤ MOST_FILE_BYTES) (sym g.0) small_bs in
    let small : length l.bytes ≤ MOST_FILE_BYTES = subst (λ x. length x ≤ MOST_FILE_BYTES) (sym k.0) small_cut in
    let tokens = subst (λ b. Each (TokenFits total b) c.tokens) (sym g.0) (tokens_fit total n cs c.tokens low g.1) in
    let toks = toks_fit total c.bytes c.tokens l.toks (omega arith) tokens k.1 in
    let many : length l.toks ≤ 4 * length c.bytes =
    toks_many total n c.bytes c.tokens l.toks (subst (λ b. AreTokens n b c.tokens) (sym g.0) g.1) tokens k.1 in
    program_fits total l.bytes small m.0 (all_fit total l.bytes l.toks (subst (λ b. Each (TokFits total b) l.toks) (sym k.0) toks)
    (omega (arith, many, small_cut)))

-- the items as they are written in the files, before they are numbered
pub record Written (files : List (List ℕ)) (is : List ItemTree) : Type 0 where
  pub written : List ItemTree
  pub numbered : is ≡ items_numbered written 0
  pub fine : Each (FineItem (length files)) written
  pub shaped : ProgramsAreShaped → Each ItemShaped written
  pub typed : (n c : ℕ) → BodiesBreak is n c → ⊥

each_shaped : (is : List ItemTree) → ItemsShaped is → Each ItemShaped is
each_shaped [] h = tt
each_shaped (i ∷ is) h = (h.0, each_shaped is h.1)

pub all_shaped : (is : List ItemTree) → Each ItemShaped is → ItemsShaped is
all_shaped [] h = tt
all_shaped (i ∷ is) h = (h.0, all_shaped is h.1)

pub accepted_written : (files : List (List ℕ)) (is : List ItemTree) → Accepts files is → Written files is
accepted_written files is a =
    let joined = a.1 in
    let spelled = joined.1 in
    let laid = spelled.1 in
    let cut = laid.1 in
    let tested = a.2 in
    let named = tested.1.1 in
    let typed = tested.1.2 in
    let same : is ≡ a.0 = tested.2.0 ∙ (typed.0 ∙ named.0) in
    let few : zero + length files ≤ length files = omega arith in
    record {
      written = all_items joined.0;
      numbered = same ∙ joined.2;
      fine = each_good (FineItem (length files)) (length files) (one_fits (length files))
          zero files cut.0 laid.0 spelled.0 joined.0 few cut.1 cut.2 laid.2 spelled.2;
      shaped = λ shapes. each_good ItemShaped (length files)
          (λ n bs cs c l js low h g k m. each_shaped js (shapes l.bytes l.toks [] js m.0))
          zero files cut.0 laid.0 spelled.0 joined.0 few cut.1 cut.2 laid.2 spelled.2;
      typed = subst (λ js. (n c : ℕ) → BodiesBreak js n c → ⊥) (sym (same ∙ sym named.0)) typed.1;
    }
