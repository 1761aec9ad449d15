-- What a refused answer tells.
use Rattle.std.proofs.Common.{◌≡◌, ◌≤◌, ◌⊎◌, inl, inr, Bool, true, false, not, ◌||◌, List, [], ◌∷◌, ◌++◌, ℕ, Option, Some, None, Ok, Err}
use Rattle.std.proofs.Common.{refl, sym, ◌∙◌, ap, subst, append_assoc, append-nil, is_some, nat_le, if◌then◌else◌}
use Rattle.std.proofs.lemmas.Bool.{leb-true, leb-false}
use Rattle.std.proofs.lemmas.Option.{same_Some}
use Rattle.verse_base.specs.declared.limits.TheConstants.{MOST_LOAD}
use Rattle.verse_base.specs.declared.places.Place.{Place}
use Rattle.verse_base.specs.declared.refusals.Refusal.{Refusal}
use Rattle.verse_base.specs.declared.refusals.Rule.{Rule}
use Rattle.verse_lex.specs.declared.tokens.Token.{Token}
use Rattle.verse_layout.specs.declared.toks.Tok.{Tok}
use Rattle.verse_layout.specs.declared.toks.TokKind.TheVariants as t
use Rattle.verse_layout.specs.declared.frames.Spot.{Spot}
use Rattle.verse_layout.specs.declared.roles.Region.{Region}
use Rattle.verse_layout.specs.declared.roles.Region.TheVariants as region
use Rattle.verse_layout.specs.declared.roles.Role.TheVariants as role
use Rattle.verse_layout.specs.declared.rules.TheConstants.{BRACKET, INDENTATION, NESTING}
use Rattle.verse_layout.specs.Roles.{role_of, has_lines, is_same_region, is_brace_close}
use Rattle.verse_layout.specs.Loads.{Counts, load, after_tok, at_start}
use Rattle.verse_layout.specs.Cells.{Cell, cells_of, ends_line}
use Rattle.verse_layout.specs.Written.{Written, tok, sep, no_sep, refusal}
use Rattle.verse_layout.specs.Answers.{first_sep, Answer, with_front, spaced, bounded}
use Rattle.verse_layout.specs.Blocks.{IsFile}
use Rattle.verse_layout.specs.Layouts.{IsWithin, end_of}
use Rattle.verse_layout.specs.Frames.{Open, Context, Walk, walk, step, refuse, at_end, closes, innermost, is_block, file_start, region_at}
use Rattle.verse_layout.specs.Frames.{walk_answer}
use Rattle.verse_layout.specs.Refusals.{BeginsFile, balanced_none, IsInnermost, as_name, BreaksAt, wrong_brace, wrong_bracket, wrong_line}
use Rattle.verse_layout.specs.Refusals.{no_block, BreaksEnd, open_bracket, no_block_behind, SameLine, Shares, AllWithin, IsTooDeep, Refuses}
use Rattle.verse_layout.specs.Refusals.{at_token, at_file_end, too_deep, IsRefused}
use Rattle.verse_layout.proofs.Walks.{front, if_true, if_false, region_self, same_region}
use Rattle.verse_layout.proofs.Spacing.{spaced_is, is_spaced, spaced_append, waits, can_behind}
use Rattle.verse_layout.proofs.OpenBrackets.{Reflects, reflects_none, found, none_found, one_innermost, balanced_innermost}
use Rattle.verse_layout.proofs.Nests.{Nested, nested_file, nested_block, nested_bracket}
use Rattle.verse_layout.proofs.Sound.{by_if}
use Rattle.verse_layout.proofs.Outcomes.{Fine, Passes, Both, pass_both, stop_both, Reason, bad_line, bad_brace, bad_block, bad_bracket}
use Rattle.verse_layout.proofs.Outcomes.{Ending, AllAt, at_append, brackets, inner, fits, stands, step_both, first_both, is_a_bracket}
use Rattle.verse_layout.proofs.Outcomes.{bracket_first, block_first, block_no_bracket, file_first}
use Rattle.verse_layout.proofs.Closers.{AllStart, Ends, ends_well, closes_stop}
use Rattle.verse_layout.proofs.Blocks.{file_walk}
use Rattle.verse_layout.proofs.Files.{file_sound}
use Rattle.verse_layout.proofs.Traces.{Reach, reach_none, reach_more, reach_walk, reach_fine, reach_reflects, reach_opened, reach_goes}
use Rattle.verse_layout.proofs.Traces.{reach_file, goes_begins, Stop, Traced, stopped, walked, file_traced}
use Rattle.verse_layout.proofs.Depth.{Each, ending_light, deep_front, within_front, Stands, WaitsSep, spaced_at, both_within}

err_is : (r s : Refusal) → (let x : Answer = Err r in x) ≡ Err s → r ≡ s
err_is r s e = cc

front_err : (k : Tok) (x : Answer) (r : Refusal) → with_front (k ∷ []) x ≡ Err r → x ≡ Err r
front_err k (Ok ls) r e = absurd (cc)
front_err k (Err s) r e = e

abbrev Judgement : (s : Counts) (ks : List Tok) (stop : Option Refusal) (r : Refusal) → Type 0
Judgement s ks stop r = ((stop ≡ Some r) × IsWithin s ks) ⊎ IsTooDeep s ks r

bounded_err : (s : Counts) (ks : List Tok) (stop : Option Refusal) (r : Refusal) → bounded s ks stop ≡ Err r → Judgement s ks stop r
bounded_err s [] None r e = absurd (cc)
bounded_err s [] (Some q) r e = inl (ap Some (err_is q r e), tt)
bounded_err s (k ∷ ks) stop r e = by_test (nat_le (load (after_tok k s)) MOST_LOAD) refl (λ g. bounded_err (after_tok k s) ks stop r g)
  where
    more : load (after_tok k s) ≤ MOST_LOAD → Judgement (after_tok k s) ks stop r → Judgement s (k ∷ ks) stop r
    more h (inl x) = inl (x.0, (h, x.1))
    more h (inr x) = inr (record {
      before = k ∷ x.before;
      tok = x.tok;
      behind = x.behind;
      split = ap (λ y. k ∷ y) x.split;
      within =
          (h, x.within);
      above = x.above;
      refused = x.refused;
    })

    by_test : (b : Bool) → nat_le (load (after_tok k s)) MOST_LOAD ≡ b →
        (bounded (after_tok k s) ks stop ≡ Err r → Judgement (after_tok k s) ks stop r) → Judgement s (k ∷ ks) stop r
    by_test true h next = more (leb-true _ MOST_LOAD h) (next (front_err k _ r (sym (if_true _ _ _ h) ∙ e)))
    by_test false h next =
        inr (record {
          before = [];
          tok = k;
          behind = ks;
          split = refl;
          within = tt;
          above = leb-false _ MOST_LOAD h;
          refused =
              err_is r (refusal NESTING k.place) (sym e ∙ if_false _ _ _ h);
        })

file_stop : {end : Spot} {cs : List Cell} {ws : List Written} → IsFile end cs ws → (walk end file_start cs).stop ≡ None
file_stop f = ap (λ (x : Walk). x.stop) (file_walk f)

pub same_line : (cs others : List Cell) → SameLine cs others others
same_line [] others = tt
same_line (c ∷ cs) others = refl

-- what stands in a list of cells where another cell begins a line as this one does
same_cell : (cs rest others : List Cell) (c d : Cell) → d.line ≡ c.line → SameLine cs (d ∷ rest) (c ∷ others)
same_cell [] rest others c d e = tt
same_cell (b ∷ cs) rest others c d e = ap (λ l. is_some l) e

-- the tokens begin no file with a token on which every walk stops
stuck_begins : {before others : List Cell} {c : Cell} (d : Cell) {g : Context} {ws : List Written} (vs : List Written) {rule : Rule} →
    Reach file_start before (c ∷ others) g ws → d.line ≡ c.line →
    ((ends : Bool) (go : Context → Walk) → step g d ends go ≡ front vs (refuse rule d.token.place)) → BeginsFile (before ++ d ∷ []) → ⊥
stuck_begins {before = before} {others = others} {c = c} d {g = g} {ws = ws} vs {rule = rule} reach line stops b =
    let there = reach_walk reach b.end (d ∷ b.rest) (same_cell before b.rest others c d line) in
    let stop = ap (λ (x : Walk). x.stop) (there ∙ ap (front ws) (stops (ends_line b.rest) (λ k. walk b.end k b.rest))) in
    let none = ap (λ cs. (walk b.end file_start cs).stop) (sym (append_assoc before (d ∷ []) b.rest)) ∙ file_stop b.block in
    let x : None ≡ Some (refusal rule d.token.place) = sym none ∙ stop in
    absurd (cc)

-- a walk is at a file's beginning, or at a place in it
data Placed : Context → Type 0 where
  placed_start : Placed file_start
  placed_fine : {g : Context} → Fine g → Placed g

reach_placed : {cs others : List Cell} {g : Context} {ws : List Written} → Reach file_start cs others g ws → Placed g
reach_placed reach_none = placed_start
reach_placed (reach_more ends ok same p r) = placed_fine (reach_fine r p.fine)

placed_both : (g : Context) (c : Cell) → Placed g → Both c (stands g c) g (λ ends go. step g c ends go)
placed_both g c placed_start = first_both c
placed_both g c (placed_fine f) = step_both g c f

-- a name stands where a token does that is no `}`
name_stands : (g : Context) (c : Cell) → is_brace_close (role_of c.token.kind) ≡ false → stands g (as_name c) ≡ stands g c
name_stands g c e = ap (λ b. fits (if b then None else c.line) g) (ap (λ b. not (has_lines (region_at g.frames)) || b) (sym e))

name_begins : {before others : List Cell} {c : Cell} {g : Context} {ws : List Written} → Reach file_start before (c ∷ others) g ws →
    Passes true (as_name c) (stands g (as_name c)) g (λ go. step g (as_name c) true go) →
    BeginsFile (before ++ as_name c ∷ [])
name_begins {before = before} {others = others} {c = c} {g = g} {ws = ws} reach p =
    let d = as_name c in
    let h = p.there in
    let x : Ends 0 h true = ends_well 0 h.opened h.line h.frames true p.fine (λ o. refl) in
    let end : Spot = record { at = 0; place = record { file = 0; line = 0; col = 0 } } in
    let here = ap (λ b. step g d b (λ k. walk end k x.rest)) x.first ∙ p.walks (λ k. walk end k x.rest) in
    let stop = ap (λ (w : Walk). w.stop) (reach_walk reach end (d ∷ x.rest) (same_cell before x.rest others c d refl) ∙
    ap (front ws) here) ∙ x.well end in
    record {
      end = end;
      rest = x.rest;
      written = _;
      block = subst (λ cs. IsFile end cs ((walk end file_start (before ++ d ∷ x.rest)).written)) (sym (append_assoc before (d ∷ []) x.rest))
          (file_sound end (before ++ d ∷ x.rest) stop);
    }

other_region : (cs : List Cell) (bs : List Open) (r : Region) (o : Cell) → Reflects cs bs → is_same_region (inner bs) r ≡ false →
    IsInnermost cs o r → ⊥
other_region cs [] r o f e i = balanced_innermost cs o r (none_found refl f) i
other_region cs (b ∷ bs) r o f e i =
    let x = found b bs refl f in
    let same = (one_innermost cs x.cell o b.region r x.innermost i).region in
    absurd (let y : true ≡ false = sym (ap (λ s. is_same_region s r) same ∙ region_self r) ∙ e in cc)

no_brace_region : (r : Region) → has_lines r ≡ false → is_same_region r region.Brace ≡ false
no_brace_region region.Brace e = absurd (cc)
no_brace_region _ e = refl

record BraceOpen (cs : List Cell) : Type 0 where
  cell : Cell
  innermost : IsInnermost cs cell region.Brace

brace_region : (cs : List Cell) (bs : List Open) → Reflects cs bs → is_same_region (inner bs) region.Brace ≡ true → BraceOpen cs
brace_region cs [] f e = absurd (cc)
brace_region cs (b ∷ bs) f e =
    let x = found b bs refl f in
    record { cell = x.cell; innermost = subst (IsInnermost cs x.cell) (same_region b.region region.Brace e) x.innermost }

breaks : {before others : List Cell} {c : Cell} {g : Context} {ws : List Written} (rule : Rule) →
    Reach file_start before (c ∷ others) g ws → Reason (stands g c) (brackets g.frames) c.token rule → BreaksAt before c rule
breaks {before = before} {c = c} {g = g} rule reach why = by_reason rule why (placed_both g (as_name c) (reach_placed reach))
  where
    reflects : Reflects before (brackets g.frames)
    reflects = reach_reflects [] reach (reflects_none balanced_none)

    begins : {r : Region} → role_of c.token.kind ≡ role.Closes r → has_lines r ≡ false → stands g c ≡ true →
        Both (as_name c) (stands g (as_name c)) g (λ ends go. step g (as_name c) ends go) → BeginsFile (before ++ as_name c ∷ [])
    begins p l k (pass_both n) = name_begins reach (n true)
    begins {r = r} p l k (stop_both rule' vs (bad_line q wrong) e a s) =
        let no_brace : is_brace_close (role_of c.token.kind) ≡ false = ap is_brace_close p ∙ no_brace_region r l in
        absurd (let x : true ≡ false = sym k ∙ sym (name_stands g c no_brace) ∙ wrong in cc)
    begins p l k (stop_both rule' vs (bad_brace q n) e a s) = absurd (cc)
    begins p l k (stop_both rule' vs (bad_block q n) e a s) = absurd (cc)
    begins p l k (stop_both rule' vs (bad_bracket u q m n o) e a s) = absurd (cc)

    begins_none_here : is_brace_close (role_of c.token.kind) ≡ false → stands g c ≡ false →
        Both (as_name c) (stands g (as_name c)) g (λ ends go. step g (as_name c) ends go) → BeginsFile (before ++ as_name c ∷ []) → ⊥
    begins_none_here p k (pass_both n) b = let y = n true in absurd (let x : true ≡ false = sym y.well ∙ name_stands g c p ∙ k in cc)
    begins_none_here p k (stop_both rule' vs w e a s) b = stuck_begins (as_name c) vs reach refl s b

    by_reason : (rule : Rule) → Reason (stands g c) (brackets g.frames) c.token rule →
        Both (as_name c) (stands g (as_name c)) g (λ ends go. step g (as_name c) ends go) → BreaksAt before c rule
    by_reason rule (bad_line p k) n = wrong_line p (begins_none_here p k n)
    by_reason rule (bad_brace p e) n = wrong_brace p (λ o i. other_region before (brackets g.frames) region.Brace o reflects e i)
    by_reason rule (bad_block p e) n = let x = brace_region before (brackets g.frames) reflects e in no_block p x.cell x.innermost
    by_reason rule (bad_bracket r p l e k) n =
        wrong_bracket p l (λ o i. other_region before (brackets g.frames) r o reflects e i) (begins p l k n)

-- the toks that are written behind these tokens begin those of every file that goes on
shares : {cs others : List Cell} {g : Context} {ws : List Written} → Reach file_start cs others g ws →
    Shares cs others (spaced false None ws)
shares {cs = cs} {g = g} {ws = ws} reach end rest us js line block out =
    let there = reach_walk reach end rest line in
    let written : us ≡ ws ++ (walk end g rest).written = ap (λ (w : Walk). w.written) (sym (file_walk block) ∙ there) in (
      spaced (can_behind false ws) (waits None ws) ((walk end g rest).written),
      spaced_is out ∙ ap (spaced false None) written ∙ spaced_append false None ws ((walk end g rest).written),
    )

abbrev SepsAre : List Written → Type 0
SepsAre [] = Unit {0}
SepsAre (sep s ∷ ws) = (s.kind ≡ t.Sep) × SepsAre ws
SepsAre (_ ∷ ws) = SepsAre ws

seps_append : (ws vs : List Written) → SepsAre ws → SepsAre vs → SepsAre (ws ++ vs)
seps_append [] vs a b = b
seps_append (sep s ∷ ws) vs a b = (a.0, seps_append ws vs a.1 b)
seps_append (tok k ∷ ws) vs a b = seps_append ws vs a b
seps_append (no_sep ∷ ws) vs a b = seps_append ws vs a b

seps_at : (n : ℕ) (ws : List Written) → AllAt n ws → SepsAre ws
seps_at n [] a = tt
seps_at n (sep s ∷ ws) a = (a.0.1, seps_at n ws a.1)
seps_at n (tok k ∷ ws) a = seps_at n ws a.1
seps_at n (no_sep ∷ ws) a = seps_at n ws a.1

reach_seps : {h g : Context} {cs others : List Cell} {ws : List Written} → Reach h cs others g ws → SepsAre ws
reach_seps reach_none = tt
reach_seps (reach_more {c = c} {ws = ws} ends ok same p r) = seps_append p.ws ws (seps_at c.token.start p.ws p.at) (reach_seps r)

first_sep_is : (w : Option Tok) (s : Tok) → WaitsSep w → s.kind ≡ t.Sep → WaitsSep (first_sep w s)
first_sep_is None s a b = b
first_sep_is (Some r) s a b = a

waits_sep_is : (w : Option Tok) (ws : List Written) → WaitsSep w → SepsAre ws → WaitsSep (waits w ws)
waits_sep_is w [] a b = a
waits_sep_is w (sep s ∷ ws) a b = waits_sep_is (first_sep w s) ws (first_sep_is w s a b.0) b.1
waits_sep_is w (tok k ∷ ws) a b = waits_sep_is None ws tt b
waits_sep_is w (no_sep ∷ ws) a b = waits_sep_is None ws tt b

-- what is written for tokens at one offset stands there
closes_at : (n : ℕ) (end : Spot) (fs : List Open) → end.at ≡ n → AllAt n ((closes end fs).written)
closes_at n end [] e = tt
closes_at n end (f ∷ fs) e = by_if (λ x. AllAt n x.written) (is_block f.region) _ _ (λ b. (e, closes_at n end fs e)) (λ b. tt)

end_at : (n : ℕ) (end : Spot) (p : Option Place) (h : Context) → end.at ≡ n → AllAt n ((at_end p end h).written)
end_at n end (Some place) h e = tt
end_at n end None h e = by_if (λ x. AllAt n x.written) h.opened _ _ (λ o. tt) (λ o. closes_at n end h.frames e)

at_offset : (m n : ℕ) (ws : List Written) (x : Walk) → m ≡ n → AllAt m ws → AllAt n x.written → AllAt n ((front ws x).written)
at_offset m n ws x e a b = at_append n ws x.written (subst (λ i. AllAt i ws) e a) b

both_at : (n : ℕ) (end : Spot) (h : Context) (c : Cell) (cs : List Cell) (ok : Bool) → c.token.start ≡ n →
    Both c ok h (λ ends go. step h c ends go) → ((g : Context) → Fine g → AllAt n ((walk end g cs).written)) →
    AllAt n ((walk end h (c ∷ cs)).written)
both_at n end h c cs ok e (pass_both p) more =
    let y = p (ends_line cs) in
    subst (λ (x : Walk). AllAt n x.written) (sym (y.walks (λ k. walk end k cs)))
    (at_offset c.token.start n y.ws (walk end y.there cs) e y.at (more y.there y.fine))
both_at n end h c cs ok e (stop_both rule vs w d a s) more =
    subst (λ (x : Walk). AllAt n x.written) (sym (s (ends_line cs) (λ k. walk end k cs)))
    (at_offset c.token.start n vs (refuse rule c.token.place) e a tt)

walk_at : (n : ℕ) (end : Spot) (cs : List Cell) (h : Context) → Fine h → AllStart n cs → end.at ≡ n → AllAt n ((walk end h cs).written)
walk_at n end [] h f a e = end_at n end (innermost h.frames) h e
walk_at n end (c ∷ cs) h f a e = both_at n end h c cs (stands h c) a.0 (step_both h c f) (λ g x. walk_at n end cs g x a.1 e)

placed_at : (n : ℕ) (end : Spot) (cs : List Cell) (h : Context) → Placed h → AllStart n cs → end.at ≡ n → AllAt n ((walk end h cs).written)
placed_at n end cs h (placed_fine f) a e = walk_at n end cs h f a e
placed_at n end [] h placed_start a e = tt
placed_at n end (c ∷ cs) h placed_start a e =
    both_at n end file_start c cs (stands file_start c) a.0 (first_both c) (λ g x. walk_at n end cs g x a.1 e)

-- a file that goes on with tokens at this offset
record AtOffset (n : ℕ) (ws : List Written) (ks : List Tok) : Type 0 where
  behind : List Tok
  ls : List Tok
  stands_there : Each (Stands n) behind
  is : spaced false None ws ++ behind ≡ ks ++ ls

at_an_offset : {cs others : List Cell} {g : Context} {ws : List Written} (n : ℕ) (ks : List Tok) → Reach file_start cs others g ws →
    Shares cs others ks → AtOffset n ws ks
at_an_offset {cs = cs} {others = others} {g = g} {ws = ws} n ks reach s =
    let x = reach_goes n reach in
    let end : Spot = record { at = n; place = record { file = 0; line = 0; col = 0 } } in
    let there = reach_walk reach end x.rest x.line in
    let us = (walk end g x.rest).written in
    let whole = (walk end file_start (cs ++ x.rest)).written in
    let block = file_sound end (cs ++ x.rest) (ap (λ (w : Walk). w.stop) there ∙ x.well end) in
    let f = s end x.rest whole (spaced false None whole) x.line block (is_spaced whole) in
    let written : whole ≡ ws ++ us = ap (λ (w : Walk). w.written) there in
    record {
      behind = spaced (can_behind false ws) (waits None ws) us;
      ls = f.0;
      stands_there = spaced_at n (can_behind false ws) (waits None ws) us (waits_sep_is None ws tt (reach_seps reach))
          (placed_at n end x.rest g (reach_placed reach) x.starts refl);
      is = sym (spaced_append false None ws us) ∙ ap (spaced false None) (sym written) ∙ f.1;
    }

within : {cs others : List Cell} {g : Context} {ws : List Written} → Reach file_start cs others g ws →
    IsWithin at_start (spaced false None ws) → AllWithin cs others
within {ws = ws} reach w ks s =
    let a = at_an_offset 0 ks reach s in
    let b = at_an_offset 1 ks reach s in
    both_within ks (spaced false None ws) a.ls b.ls a.behind b.behind w a.stands_there b.stands_there a.is b.is

-- a walk's toks are those behind the tokens, and then only Closes
toks_split : (ws vs : List Written) (x : Walk) → x.written ≡ ws ++ vs →
    spaced false None x.written ≡ spaced false None ws ++ spaced (can_behind false ws) (waits None ws) vs
toks_split ws vs x e = ap (spaced false None) e ∙ spaced_append false None ws vs

deep : {cs others : List Cell} {g : Context} {ws : List Written} (vs : List Written) (end : Spot) (all : List Cell) (x : Walk)
    (r : Refusal) → Reach file_start cs others g ws → all ≡ cs ++ others → x.written ≡ ws ++ vs → Ending vs →
    IsTooDeep at_start (spaced false None x.written) r → Refuses end all r
deep {cs = cs} {others = others} {ws = ws} vs end all x r reach split e ending d =
    too_deep cs others (spaced false None ws) split (reach_file reach) (shares reach)
    (deep_front (spaced false None ws) (spaced (can_behind false ws) (waits None ws) vs) r
    (ending_light (can_behind false ws) (waits None ws) vs ending)
    (subst (λ ks. IsTooDeep at_start ks r) (toks_split ws vs x e) d))

front_within : (ws vs : List Written) (x : Walk) → x.written ≡ ws ++ vs → IsWithin at_start (spaced false None x.written) →
    IsWithin at_start (spaced false None ws)
front_within ws vs x e w = within_front at_start (spaced false None ws) _ (subst (IsWithin at_start) (toks_split ws vs x e) w)

stopped_walk : (end : Spot) (cs : List Cell) (s : Stop file_start cs) →
    walk end file_start cs ≡ front s.ws (front s.vs (refuse s.rule s.c.token.place))
stopped_walk end cs s =
    ap (walk end file_start) s.split ∙ reach_walk s.reach end (s.c ∷ s.behind) (same_line s.before (s.c ∷ s.behind))
    ∙ ap (front s.ws) (s.stops (ends_line s.behind) (λ k. walk end k s.behind))

stopped_refuses : (end : Spot) (cs : List Cell) (r : Refusal) (s : Stop file_start cs) →
    Judgement at_start (spaced false None (walk end file_start cs).written) ((walk end file_start cs).stop) r → Refuses end cs r
stopped_refuses end cs r s (inl j) =
    let e = stopped_walk end cs s in
    let written : (walk end file_start cs).written ≡ s.ws ++ s.vs =
    ap (λ (x : Walk). x.written) e ∙ ap (λ vs. s.ws ++ vs) (append-nil s.vs) in
    at_token s.before s.behind s.c s.rule s.split (goes_begins s.before (s.c ∷ s.behind) (reach_file s.reach))
    (stuck_begins s.c s.vs s.reach refl s.stops)
    (within s.reach (front_within s.ws s.vs (walk end file_start cs) written j.1)) (breaks s.rule s.reach s.reason)
    (same_Some _ _ (sym j.0 ∙ ap (λ (x : Walk). x.stop) e))
stopped_refuses end cs r s (inr d) =
    let e = stopped_walk end cs s in
    let written : (walk end file_start cs).written ≡ s.ws ++ s.vs =
    ap (λ (x : Walk). x.written) e ∙ ap (λ vs. s.ws ++ vs) (append-nil s.vs) in
    deep s.vs end cs (walk end file_start cs) r s.reach s.split written s.ending d

-- the file's end
abbrev first_place : List Open → Option Place
first_place [] = None
first_place (f ∷ fs) = Some f.place

block_no_file : (r : Region) → is_block r ≡ true → is_same_region r region.File ≡ false
block_no_file region.File e = absurd (cc)
block_no_file _ e = refl

innermost_is : (fs : List Open) → Nested fs → innermost fs ≡ first_place (brackets fs)
innermost_is [] n = refl
innermost_is (f ∷ fs) (nested_file x) = if_true (is_same_region f.region region.File) None _ (ap (λ r. is_same_region r region.File) x) ∙
    sym (ap first_place (file_first f [] x))
innermost_is (f ∷ fs) (nested_block x l b n) =
    if_false (is_same_region f.region region.File) None _ (block_no_file f.region x) ∙
    if_true (is_block f.region) (innermost fs) (Some f.place) x
    ∙ innermost_is fs n ∙ sym (ap first_place (block_first f fs (block_no_bracket f.region x)))
innermost_is (f ∷ fs) (nested_bracket x y n) =
    if_false (is_same_region f.region region.File) None _ y ∙ if_false (is_block f.region) (innermost fs) (Some f.place) x
    ∙ sym (ap first_place (bracket_first f fs (is_a_bracket f.region x y)))

placed_innermost : (g : Context) → Placed g → innermost g.frames ≡ first_place (brackets g.frames)
placed_innermost g placed_start = refl
placed_innermost g (placed_fine f) = innermost_is g.frames f.nested

closes_ending : (end : Spot) (fs : List Open) → Ending ((closes end fs).written)
closes_ending end [] = tt
closes_ending end (f ∷ fs) = by_if (λ x. Ending x.written) (is_block f.region) _ _ (λ b. (refl, closes_ending end fs)) (λ b. tt)

end_ending : (end : Spot) (p : Option Place) (h : Context) → Ending ((at_end p end h).written)
end_ending end (Some place) h = tt
end_ending end None h = by_if (λ x. Ending x.written) h.opened _ _ (λ o. tt) (λ o. closes_ending end h.frames)

end_breaks : {cs : List Cell} {g : Context} {ws : List Written} (end : Spot) (r : Refusal) → Reach file_start cs [] g ws →
    (at_end (innermost g.frames) end g).stop ≡ Some r → BreaksEnd end cs r
end_breaks {cs = cs} {g = g} {ws = ws} end r reach stop = by_brackets (brackets g.frames) refl
  where
    reflects : Reflects cs (brackets g.frames)
    reflects = reach_reflects [] reach (reflects_none balanced_none)

    at_bracket : (p : Place) → (at_end (Some p) end g).stop ≡ Some r → r ≡ refusal BRACKET p
    at_bracket p e = sym (same_Some _ _ e)

    opened_is : (b : Bool) → g.opened ≡ b → (if b then refuse INDENTATION end.place else closes end g.frames).stop ≡ Some r →
        (g.opened ≡ true) × (r ≡ refusal INDENTATION end.place)
    opened_is true o e = (o, sym (same_Some _ _ e))
    opened_is false o e = absurd (let x : None ≡ Some r = sym (closes_stop 0 end g.frames) ∙ e in cc)

    by_brackets : (bs : List Open) → brackets g.frames ≡ bs → BreaksEnd end cs r
    by_brackets [] e =
        let none = placed_innermost g (reach_placed reach) ∙ ap first_place e in
        let o = opened_is g.opened refl (sym (ap (λ p. (at_end p end g).stop) none) ∙ stop) in
        let last = (reach_opened [] reach (λ q. absurd (let x : false ≡ true = q in cc)) o.0).last in
        subst (BreaksEnd end cs) (sym o.1) (no_block_behind last.before last.last last.split last.opener (none_found e reflects))
    by_brackets (f ∷ fs) e =
        let some = placed_innermost g (reach_placed reach) ∙ ap first_place e in
        let x = found f fs e reflects in
        let is = at_bracket f.place (sym (ap (λ p. (at_end p end g).stop) some) ∙ stop) in
        subst (BreaksEnd end cs) (sym (is ∙ ap (refusal BRACKET) x.place)) (open_bracket x.cell f.region x.innermost)

walked_refuses : {cs : List Cell} {g : Context} {ws : List Written} (end : Spot) (r : Refusal) → Reach file_start cs [] g ws →
    Judgement at_start (spaced false None (walk end file_start cs).written) ((walk end file_start cs).stop) r → Refuses end cs r
walked_refuses {cs = cs} {g = g} {ws = ws} end r reach j = by_judgement j
  where
    whole : walk end file_start cs ≡ front ws (at_end (innermost g.frames) end g)
    whole = ap (walk end file_start) (sym (append-nil cs)) ∙ reach_walk reach end [] (same_line cs [])

    written : (walk end file_start cs).written ≡ ws ++ (at_end (innermost g.frames) end g).written
    written = ap (λ (x : Walk). x.written) whole

    by_judgement : Judgement at_start (spaced false None (walk end file_start cs).written) ((walk end file_start cs).stop) r →
        Refuses end cs r
    by_judgement (inl y) =
        at_file_end (goes_begins cs [] (reach_file reach)) (λ us f. let x : None ≡ Some r = sym (file_stop f) ∙ y.0 in absurd (cc))
        (within reach (front_within ws _ (walk end file_start cs) written y.1))
        (end_breaks end r reach (sym (ap (λ (x : Walk). x.stop) whole) ∙ y.0))
    by_judgement (inr d) = deep _ end cs (walk end file_start cs) r reach (sym (append-nil cs)) written
        (end_ending end (innermost g.frames) g) d

pub refused_of : (bytes : List ℕ) (tokens : List Token) (r : Refusal) → walk_answer (end_of bytes tokens) (cells_of bytes tokens) ≡ Err r →
    IsRefused bytes tokens r
refused_of bytes tokens r e = by_trace (file_traced (cells_of bytes tokens))
  where
    judgement : Judgement at_start (spaced false None (walk (end_of bytes tokens) file_start (cells_of bytes tokens)).written)
        ((walk (end_of bytes tokens) file_start (cells_of bytes tokens)).stop) r
    judgement = bounded_err at_start _ _ r e

    by_trace : Traced file_start (cells_of bytes tokens) → IsRefused bytes tokens r
    by_trace (stopped s) = stopped_refuses (end_of bytes tokens) (cells_of bytes tokens) r s judgement
    by_trace (walked g ws reach) = walked_refuses (end_of bytes tokens) r reach judgement
