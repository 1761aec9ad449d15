-- A walk reaches the file's end, or stops at the first token with which no file goes on.
use Rattle.std.proofs.Common.{◌≡◌, Bool, true, false, List, [], ◌∷◌, ◌++◌, ℕ, None, refl, sym, ◌∙◌, ap, subst, append_assoc, append-nil}
use Rattle.verse_base.specs.declared.refusals.Rule.{Rule}
use Rattle.verse_layout.specs.declared.frames.Spot.{Spot}
use Rattle.verse_layout.specs.Roles.{role_of}
use Rattle.verse_layout.specs.Cells.{Cell, ends_line}
use Rattle.verse_layout.specs.Written.{Written}
use Rattle.verse_layout.specs.Blocks.{is_opener}
use Rattle.verse_layout.specs.Frames.{Context, Walk, walk, step, refuse, file_start}
use Rattle.verse_layout.specs.Refusals.{BeginsFile, SameLine, GoesOn}
use Rattle.verse_layout.proofs.Walks.{front, front_front}
use Rattle.verse_layout.proofs.OpenBrackets.{Reflects, reflects_moved}
use Rattle.verse_layout.proofs.Outcomes.{Fine, Passes, Both, pass_both, stop_both, Reason, Ending, brackets, stands, step_both, first_both}
use Rattle.verse_layout.proofs.Closers.{AllStart, Ends, ends_well, file_start_ends}
use Rattle.verse_layout.proofs.Files.{file_sound}

-- From here these tokens, which stand before the others, are walked over to a place, and so much is written.
pub data Reach : Context → List Cell → List Cell → Context → List Written → Type 0 where
  reach_none : {h : Context} {others : List Cell} → Reach h [] others h []
  reach_more : {h g : Context} {c : Cell} {cs others : List Cell} {ws : List Written} (ends ok : Bool) → ends ≡ ends_line (cs ++ others) →
      (p : Passes ends c ok h (λ go. step h c ends go)) → Reach p.there cs others g ws → Reach h (c ∷ cs) others g (p.ws ++ ws)

next_line : (cs rest others : List Cell) (c : Cell) → SameLine (c ∷ cs) rest others → ends_line (cs ++ rest) ≡ ends_line (cs ++ others)
next_line [] rest others c e = e
next_line (d ∷ cs) rest others c e = refl

same_tail : (cs rest others : List Cell) (c : Cell) → SameLine (c ∷ cs) rest others → SameLine cs rest others
same_tail [] rest others c e = tt
same_tail (d ∷ cs) rest others c e = e

pub reach_walk : {h g : Context} {cs others : List Cell} {ws : List Written} → Reach h cs others g ws → (end : Spot) (rest : List Cell) →
    SameLine cs rest others →
    walk end h (cs ++ rest) ≡ front ws (walk end g rest)
reach_walk reach_none end rest e = refl
reach_walk {h = h} {g = g} (reach_more {c = c} {cs = cs} {others = others} {ws = ws} ends ok same p r) end rest e =
    ap (λ b. step h c b (λ k. walk end k (cs ++ rest))) (next_line cs rest others c e ∙ sym same)
    ∙ p.walks (λ k. walk end k (cs ++ rest))
    ∙ ap (front p.ws) (reach_walk r end rest (same_tail cs rest others c e))
    ∙ front_front p.ws ws (walk end g rest)

pub reach_fine : {h g : Context} {cs others : List Cell} {ws : List Written} → Reach h cs others g ws → Fine h → Fine g
reach_fine reach_none f = f
reach_fine (reach_more ends ok same p r) f = reach_fine r p.fine

pub reach_reflects : {h g : Context} {cs others : List Cell} {ws : List Written} (past : List Cell) → Reach h cs others g ws →
    Reflects past (brackets h.frames) → Reflects (past ++ cs) (brackets g.frames)
reach_reflects past (reach_none {h = h}) f = subst (λ zs. Reflects zs (brackets h.frames)) (sym (append-nil past)) f
reach_reflects {g = g} past (reach_more {c = c} {cs = cs} ends ok same p r) f =
    subst (λ zs. Reflects zs (brackets g.frames)) (append_assoc past (c ∷ []) cs)
    (reach_reflects (past ++ c ∷ []) r (reflects_moved c f p.moves))

-- the last of these tokens is an opener
pub record LastOpens (cs : List Cell) : Type 0 where
  pub before : List Cell
  pub last : Cell
  pub split : cs ≡ before ++ last ∷ []
  pub opener : is_opener (role_of last.token.kind) ≡ true

pub record Opener (cs others : List Cell) : Type 0 where
  pub line : ends_line others ≡ true
  pub last : LastOpens cs

pub reach_opened : {h g : Context} {cs others : List Cell} {ws : List Written} (past : List Cell) → Reach h cs others g ws →
    (h.opened ≡ true → (ends_line (cs ++ others) ≡ true) × LastOpens past) →
    g.opened ≡ true → Opener (past ++ cs) others
reach_opened past (reach_none {h = h} {others = others}) f o =
    let x = f o in record { line = x.0; last = subst LastOpens (sym (append-nil past)) x.1 }
reach_opened past (reach_more {c = c} {cs = cs} {others = others} ends ok same p r) f o =
    subst (λ zs. Opener zs others) (append_assoc past (c ∷ []) cs)
    (reach_opened (past ++ c ∷ []) r (λ q. (
      sym same ∙ (p.opens q).0,
      record { before = past; last = c; split = refl; opener = (p.opens q).1 },
    )) o)

-- where a walk stops: the tokens before, the token, its rule and the reason
pub record Stop (h : Context) (cs : List Cell) : Type 0 where
  pub before : List Cell
  pub behind : List Cell
  pub c : Cell
  pub place : Context
  pub ws : List Written
  pub split : cs ≡ before ++ c ∷ behind
  pub reach : Reach h before (c ∷ behind) place ws
  pub rule : Rule
  pub vs : List Written
  pub reason : Reason (stands place c) (brackets place.frames) c.token rule
  pub ending : Ending vs
  pub stops : (ends : Bool) (go : Context → Walk) → step place c ends go ≡ front vs (refuse rule c.token.place)

pub data Traced (h : Context) (cs : List Cell) : Type 0 where
  stopped : Stop h cs → Traced h cs
  walked : (g : Context) (ws : List Written) → Reach h cs [] g ws → Traced h cs

step_traced : (h : Context) (c : Cell) (cs : List Cell) → Both c (stands h c) h (λ ends go. step h c ends go) →
    ((g : Context) → Fine g → Traced g cs) → Traced h (c ∷ cs)
step_traced h c cs (stop_both rule vs r e a s) more =
    stopped (record {
      before = [];
      behind = cs;
      c = c;
      place = h;
      ws = [];
      split = refl;
      reach = reach_none;
      rule = rule;
      vs = vs;
      reason =
          r;
      ending = e;
      stops = s;
    })
step_traced h c cs (pass_both p) more = by_rest (more y.there y.fine)
  where
    y : Passes (ends_line cs) c (stands h c) h (λ go. step h c (ends_line cs) go)
    y = p (ends_line cs)

    by_rest : Traced y.there cs → Traced h (c ∷ cs)
    by_rest (stopped s) = stopped (record {
      before = c ∷ s.before;
      behind = s.behind;
      c = s.c;
      place = s.place;
      ws = y.ws ++ s.ws;
      split = ap (λ zs. c ∷ zs) s.split;
      reach = reach_more (ends_line cs) (stands h c) (ap ends_line s.split) y s.reach;
      rule = s.rule;
      vs = s.vs;
      reason = s.reason;
      ending = s.ending;
      stops = s.stops;
    })
    by_rest (walked g ws r) = walked g (y.ws ++ ws) (reach_more (ends_line cs) (stands h c) (ap ends_line (sym (append-nil cs))) y r)

traced : (cs : List Cell) (h : Context) → Fine h → Traced h cs
traced [] h f = walked h [] reach_none
traced (c ∷ cs) h f = step_traced h c cs (step_both h c f) (λ g x. traced cs g x)

pub file_traced : (cs : List Cell) → Traced file_start cs
file_traced [] = walked file_start [] reach_none
file_traced (c ∷ cs) = step_traced file_start c cs (first_both c) (λ g x. traced cs g x)

-- tokens at this offset with which a file goes on from there
pub record Continues (before others : List Cell) (g : Context) (n : ℕ) : Type 0 where
  pub rest : List Cell
  pub line : SameLine before rest others
  pub starts : AllStart n rest
  pub well : (end : Spot) → (walk end g rest).stop ≡ None

by_ends : {before others : List Cell} {g : Context} {n : ℕ} {b : Bool} → (Ends n g b) →
    ((rest : List Cell) → ends_line rest ≡ b → SameLine before rest others) → Continues before others g n
by_ends x e = record { rest = x.rest; line = e x.rest x.first; starts = x.starts; well = x.well }

-- every place that is reached goes on
pub reach_goes : {cs others : List Cell} {g : Context} {ws : List Written} (n : ℕ) → Reach file_start cs others g ws →
    Continues cs others g n
reach_goes n (reach_none {others = others}) = by_ends {before = []} {others = others} (file_start_ends n) (λ rest e. tt)
reach_goes {g = g} n (reach_more {c = c} {cs = cs} {others = others} ends ok same p r) =
    by_ends {before = c ∷ cs} {others = others}
    (ends_well n g.opened g.line g.frames (ends_line others) (reach_fine r p.fine)
    (λ o. (reach_opened [] (reach_more ends ok same p r) (λ q. absurd (let x : false ≡ true = q in cc)) o).line))
    (λ rest e. e)

pub reach_file : {cs others : List Cell} {g : Context} {ws : List Written} → Reach file_start cs others g ws → GoesOn cs others
reach_file {cs = cs} {others = others} r =
    let x = reach_goes 0 r in
    let end : Spot = record { at = 0; place = record { file = 0; line = 0; col = 0 } } in
    record {
      end = end;
      rest = x.rest;
      written = _;
      line = x.line;
      block = file_sound end (cs ++ x.rest) (ap (λ (w : Walk). w.stop) (reach_walk r end x.rest x.line) ∙ x.well end);
    }

pub goes_begins : (cs others : List Cell) → GoesOn cs others → BeginsFile cs
goes_begins cs others g = record { end = g.end; rest = g.rest; written = g.written; block = g.block }
