-- Every place that a walk reaches goes on to a file's end, by tokens at any offset.
use Rattle.std.proofs.Common.{◌≡◌, Bool, true, false, ◌&&◌, List, [], ◌∷◌, ◌++◌, ℕ, Option, Some, None, refl, sym, ◌∙◌, ap, subst}
use Rattle.std.proofs.Common.{if◌then◌else◌, is_some, length, nat_lt, arith, length-append}
use Rattle.std.proofs.Math.Seq.{take-append_seam}
use Rattle.std.proofs.lemmas.Bool.{lt-ltb}
use Rattle.verse_lex.specs.declared.tokens.TokenKind.{TokenKind}
use Rattle.verse_lex.specs.declared.tokens.TokenKind.TheVariants as k
use Rattle.verse_lex.specs.declared.tokens.Mark.TheVariants as m
use Rattle.verse_layout.specs.declared.frames.Spot.{Spot}
use Rattle.verse_layout.specs.declared.roles.Role.TheVariants as role
use Rattle.verse_layout.specs.declared.roles.Region.{Region}
use Rattle.verse_layout.specs.declared.roles.Region.TheVariants as region
use Rattle.verse_layout.specs.Roles.{role_of, has_lines, in_braces, is_same_region}
use Rattle.verse_layout.specs.Cells.{Cell, ends_line, is_same, is_front, is_proper}
use Rattle.verse_layout.specs.Blocks.{ends_block}
use Rattle.verse_layout.specs.Frames.{Open, Context, Walk, walk, region_at, closes, innermost, at_end, is_block, block_in, line_start}
use Rattle.verse_layout.specs.Frames.{file_start}
use Rattle.verse_layout.proofs.Walks.{at_line, go, if_true, if_false, no_start, brace_start, go_on, same_self}
use Rattle.verse_layout.proofs.Complete.{closes_token, go_close, no_line, Heads, go_again, go_indent, block_is, block_braces}
use Rattle.verse_layout.proofs.Nests.{Nested, nested_file, nested_block, nested_bracket}
use Rattle.verse_layout.proofs.Sound.{by_if}
use Rattle.verse_layout.proofs.Outcomes.{Fine}

-- the offset of the tokens
module _ (n : ℕ) where
  abbrev a_cell : TokenKind → Option (List ℕ) → Cell
  a_cell kind line = record {
    token = record {
      kind = kind;
      start = n;
      end = n;
      place = record { file = 0; line = 0; col = 0 };
      indent =
          None;
    };
    line = line;
  }

  -- the token that closes what is open there
  abbrev closer : Region → List Cell
  closer region.Round = a_cell (k.Mark m.RoundClose) None ∷ []
  closer region.Square = a_cell (k.Mark m.SquareClose) None ∷ []
  closer region.Hole = a_cell k.TextClose None ∷ []
  closer region.Brace = a_cell (k.Mark m.BraceClose) None ∷ []
  closer _ = []

  abbrev closers : List Open → List Cell
  closers [] = []
  closers (f ∷ fs) = closer f.region ++ closers fs

  -- all of these stand at this offset
  abbrev pub AllStart : List Cell → Type 0
  AllStart [] = Unit {0}
  AllStart (c ∷ cs) = (c.token.start ≡ n) × AllStart cs

  start_append : (cs ds : List Cell) → AllStart cs → AllStart ds → AllStart (cs ++ ds)
  start_append [] ds a b = b
  start_append (c ∷ cs) ds a b = (a.0, start_append cs ds a.1 b)

  closer_start : (r : Region) → AllStart (closer r)
  closer_start region.Round = (refl, tt)
  closer_start region.Square = (refl, tt)
  closer_start region.Hole = (refl, tt)
  closer_start region.Brace = (refl, tt)
  closer_start region.File = tt
  closer_start region.Block = tt
  closer_start region.BraceBlock = tt

  closers_start : (fs : List Open) → AllStart (closers fs)
  closers_start [] = tt
  closers_start (f ∷ fs) = start_append (closer f.region) (closers fs) (closer_start f.region) (closers_start fs)

  pub closes_stop : (end : Spot) (fs : List Open) → (closes end fs).stop ≡ None
  closes_stop end [] = refl
  closes_stop end (f ∷ fs) = by_if (λ x. x.stop ≡ None) (is_block f.region) _ _ (λ b. closes_stop end fs) (λ b. refl)

  block_closer : (r : Region) → is_block r ≡ true → closer r ≡ []
  block_closer region.Block e = refl
  block_closer region.BraceBlock e = refl
  block_closer r e = absurd (cc)

  block_no_file : (r : Region) → is_block r ≡ true → is_same_region r region.File ≡ false
  block_no_file region.File e = absurd (cc)
  block_no_file _ e = refl

  no_such : (r : Region) → is_block r ≡ false → is_same_region r region.File ≡ false → has_lines r ≡ true → in_braces r ≡ false → ⊥
  no_such region.Brace a b c d = cc
  no_such region.File a b c d = cc
  no_such region.Block a b c d = cc
  no_such region.BraceBlock a b c d = cc
  no_such region.Round a b c d = cc
  no_such region.Square a b c d = cc
  no_such region.Hole a b c d = cc

  out_facts : (fs : List Open) → Nested fs → has_lines (region_at fs) ≡ true → in_braces (region_at fs) ≡ false →
      (innermost fs ≡ None) × (closers fs ≡ [])
  out_facts [] n e g = (refl, refl)
  out_facts (f ∷ fs) (nested_file x) e g = (
    if_true (is_same_region f.region region.File) None _ (ap (λ r. is_same_region r region.File) x),
    ap (λ r. closer r ++ []) x,
  )
  out_facts (f ∷ fs) (nested_block x l b n) e g =
      let rest = out_facts fs n l (sym b ∙ g) in (
        if_false (is_same_region f.region region.File) None _ (block_no_file f.region x) ∙
            if_true (is_block f.region) (innermost fs) (Some f.place) x ∙ rest.0,
        ap (λ cs. cs ++ closers fs) (block_closer f.region x) ∙ rest.1,
      )
  out_facts (f ∷ fs) (nested_bracket x y n) e g = absurd (no_such f.region x y e g)

  record BraceFirst (cs : List Cell) : Type 0 where
    rest : List Cell
    are : cs ≡ a_cell (k.Mark m.BraceClose) None ∷ rest

  brace_only : (r : Region) (cs : List Cell) → is_block r ≡ false → in_braces r ≡ true → BraceFirst (closer r ++ cs)
  brace_only region.Brace cs a b = record { rest = cs; are = refl }
  brace_only region.File cs a b = absurd (cc)
  brace_only region.Block cs a b = absurd (cc)
  brace_only region.BraceBlock cs a b = absurd (cc)
  brace_only region.Round cs a b = absurd (cc)
  brace_only region.Square cs a b = absurd (cc)
  brace_only region.Hole cs a b = absurd (cc)

  in_facts : (fs : List Open) → Nested fs → in_braces (region_at fs) ≡ true → BraceFirst (closers fs)
  in_facts [] n g = absurd (cc)
  in_facts (f ∷ fs) (nested_file x) g = absurd (let y = ap in_braces x in cc)
  in_facts (f ∷ fs) (nested_block x l b n) g =
      let rest = in_facts fs n (sym b ∙ g) in
      record { rest = rest.rest; are = ap (λ cs. cs ++ closers fs) (block_closer f.region x) ∙ rest.are }
  in_facts (f ∷ fs) (nested_bracket x y n) g = brace_only f.region (closers fs) x g

  same_block : (r s : Region) → is_block r ≡ true → in_braces r ≡ in_braces s → r ≡ block_in s
  same_block region.Block s a b = ap (λ v. if v then region.BraceBlock else region.Block) b
  same_block region.BraceBlock s a b = ap (λ v. if v then region.BraceBlock else region.Block) b
  same_block region.File s a b = absurd (cc)
  same_block region.Brace s a b = absurd (cc)
  same_block region.Round s a b = absurd (cc)
  same_block region.Square s a b = absurd (cc)
  same_block region.Hole s a b = absurd (cc)

  -- where a block stands, its end closes it
  block_ends : (b : Bool) (i : List ℕ) (fs : List Open) → Nested fs → has_lines (region_at fs) ≡ true → in_braces (region_at fs) ≡ b →
      ends_block b i (closers fs) ≡ true
  block_ends true i fs n e g = let x = in_facts fs n g in ap (ends_block true i) x.are
  block_ends false i fs n e g = let x = out_facts fs n e g in ap (ends_block false i) x.1

  Closed : Spot → List Open → Type 0
  Closed end fs = (h : List ℕ) → (go end h fs (closers fs)).stop ≡ None

  round_closed : (end : Spot) (f g : Open) (fs : List Open) (h : List ℕ) (r : Region) (c : Cell) → f.region ≡ r → has_lines r ≡ false →
      role_of c.token.kind ≡ role.Closes r → closer r ≡ c ∷ [] →
      (go end f.text (g ∷ fs) (closers (g ∷ fs))).stop ≡ None → (go end h (f ∷ g ∷ fs) (closers (f ∷ g ∷ fs))).stop ≡ None
  round_closed end f g fs h r c e l p q s =
      let cs = closers (g ∷ fs) in
      let toks : closers (f ∷ g ∷ fs) ≡ c ∷ cs = ap (λ x. closer x ++ cs) e ∙ ap (λ x. x ++ cs) q in
      let there = go_on end h f (g ∷ fs) c cs (no_start f (g ∷ fs) c (ap has_lines e ∙ l)) ∙
      closes_token end h f g fs c cs (p ∙ ap role.Closes (sym e)) in
      ap (λ x. (go end h (f ∷ g ∷ fs) x).stop) toks ∙ ap (λ (x : Walk). x.stop) there ∙ s

  brace_closed : (end : Spot) (f g : Open) (fs : List Open) (h : List ℕ) → f.region ≡ region.Brace →
      (go end f.text (g ∷ fs) (closers (g ∷ fs))).stop ≡ None → (go end h (f ∷ g ∷ fs) (closers (f ∷ g ∷ fs))).stop ≡ None
  brace_closed end f g fs h e s =
      let c = a_cell (k.Mark m.BraceClose) None in
      let cs = closers (g ∷ fs) in
      let toks : closers (f ∷ g ∷ fs) ≡ c ∷ cs = ap (λ x. closer x ++ cs) e in
      let there = go_on end h f (g ∷ fs) c cs (brace_start (f ∷ g ∷ fs) c refl) ∙ closes_token end h f g fs c cs (ap role.Closes (sym e)) in
      ap (λ x. (go end h (f ∷ g ∷ fs) x).stop) toks ∙ ap (λ (x : Walk). x.stop) there ∙ s

  bracket_closed : (end : Spot) (f g : Open) (fs : List Open) (h : List ℕ) (r : Region) → f.region ≡ r → is_block r ≡ false →
      is_same_region r region.File ≡ false →
      (go end f.text (g ∷ fs) (closers (g ∷ fs))).stop ≡ None → (go end h (f ∷ g ∷ fs) (closers (f ∷ g ∷ fs))).stop ≡ None
  bracket_closed end f g fs h region.Round e a b s = round_closed end f g fs h region.Round _ e refl refl refl s
  bracket_closed end f g fs h region.Square e a b s = round_closed end f g fs h region.Square _ e refl refl refl s
  bracket_closed end f g fs h region.Hole e a b s = round_closed end f g fs h region.Hole _ e refl refl refl s
  bracket_closed end f g fs h region.Brace e a b s = brace_closed end f g fs h e s
  bracket_closed end f g fs h region.File e a b s = absurd (cc)
  bracket_closed end f g fs h region.Block e a b s = absurd (cc)
  bracket_closed end f g fs h region.BraceBlock e a b s = absurd (cc)

  pub all_closed : (end : Spot) (fs : List Open) → Nested fs → (h : List ℕ) → (go end h fs (closers fs)).stop ≡ None
  all_closed end [] n h = absurd (elim n [ ])
  all_closed end (f ∷ fs) (nested_file x) h =
      let facts = out_facts (f ∷ []) (nested_file x) (ap has_lines x) (ap in_braces x) in
      ap (λ cs. (go end h (f ∷ []) cs).stop) facts.1 ∙ ap (λ p. (at_end p end (at_line false h (f ∷ []))).stop) facts.0 ∙
      closes_stop end (f ∷ [])
  all_closed end (f ∷ []) (nested_bracket x y n) h = absurd (elim n [ ])
  all_closed end (f ∷ g ∷ fs) (nested_bracket x y n) h = bracket_closed end f g fs h f.region refl x y (all_closed end (g ∷ fs) n f.text)
  all_closed end (f ∷ []) (nested_block x l b n) h = absurd (elim n [ ])
  all_closed end (f ∷ g ∷ fs) (nested_block x l b n) h =
      let inner : Open = record { region = block_in g.region; text = f.text; place = f.place } in
      let same : f ≡ inner = ap (λ r. let o : Open = record { region = r; text = f.text; place = f.place } in
      o) (same_block f.region g.region x b) in
      let cs = closers (g ∷ fs) in
      let toks : closers (f ∷ g ∷ fs) ≡ cs = ap (λ y. y ++ cs) (block_closer f.region x) in
      let free : in_braces g.region ≡ false → innermost (g ∷ fs) ≡ None = λ e. (out_facts (g ∷ fs) n l e).0 in
      let there = go_close end f.text h f.text (in_braces g.region) g fs f.place cs l refl free
      (block_ends (in_braces g.region) f.text (g ∷ fs) n l refl) in
      ap (λ y. (go end h (f ∷ g ∷ fs) y).stop) toks ∙ ap (λ o. (go end h (o ∷ g ∷ fs) cs).stop) same ∙ ap (λ (y : Walk). y.stop) there ∙
      all_closed end (g ∷ fs) n f.text

  -- a name, which begins a line or not
  abbrev a_name : Option (List ℕ) → Cell
  a_name line = a_cell k.Name line

  -- a longer indentation
  deeper : (h : List ℕ) → is_proper h (h ++ 32 ∷ []) ≡ true
  deeper h =
      let longer : nat_lt (length h) (length (h ++ 32 ∷ [])) ≡ true =
      lt-ltb (length h) (length (h ++ 32 ∷ [])) (let e = length-append h (32 ∷ []) in omega arith) in
      let front : is_front h (h ++ 32 ∷ []) ≡ true = ap (is_same h) (take-append_seam h (32 ∷ [])) ∙ same_self h in
      ap (λ b. b && is_front h (h ++ 32 ∷ [])) longer ∙ front

  -- tokens with which a walk from there ends well; the first of them begins a line, or does not
  pub record Ends (g : Context) (begins : Bool) : Type 0 where
    pub rest : List Cell
    pub first : ends_line rest ≡ begins
    pub starts : AllStart rest
    pub well : (end : Spot) → (walk end g rest).stop ≡ None

  mid_ends : (h : List ℕ) (f : Open) (fs : List Open) (line : Option (List ℕ)) → Nested (f ∷ fs) →
      line_start (f ∷ fs) (a_name line) ≡ None → Ends (at_line false h (f ∷ fs)) (is_some line)
  mid_ends h f fs line n e = record {
    rest = a_name line ∷ closers (f ∷ fs);
    first = refl;
    starts = (refl, closers_start (f ∷ fs));
    well = λ end. ap (λ (x : Walk). x.stop) (go_on end h f fs (a_name line) (closers (f ∷ fs)) e) ∙ all_closed end (f ∷ fs) n h;
  }

  line_ends : (h : List ℕ) (f : Open) (fs : List Open) → Nested (f ∷ fs) → has_lines f.region ≡ true → Ends (at_line false h (f ∷ fs)) true
  line_ends h f fs n e = record {
    rest = a_name (Some f.text) ∷ closers (f ∷ fs);
    first = refl;
    starts = (refl, closers_start (f ∷ fs));
    well = λ end.
        let x : Heads f.text (a_name (Some f.text) ∷ closers (f ∷ fs)) =
        record { first = a_name (Some f.text); rest = closers (f ∷ fs); cs_are = refl; line_is = refl; brace = refl; bracket = refl } in
        ap (λ (y : Walk). y.stop) (go_again end h f fs f.text (a_name (Some f.text) ∷ closers (f ∷ fs)) e refl x) ∙
        all_closed end (f ∷ fs) n f.text;
  }

  block_ends_well : (h : List ℕ) (f : Open) (fs : List Open) → Nested (f ∷ fs) → has_lines f.region ≡ true →
      Ends (at_line true h (f ∷ fs)) true
  block_ends_well h f fs n e =
      let j = h ++ 32 ∷ [] in
      let c = a_name (Some j) in
      let g : Open = record { region = block_in f.region; text = j; place = c.token.place } in
      let nested : Nested (g ∷ f ∷ fs) = nested_block (block_is f.region) e (block_braces f.region (in_braces f.region) refl) n in
      record {
        rest = c ∷ closers (g ∷ f ∷ fs);
        first = refl;
        starts = (refl, closers_start (g ∷ f ∷ fs));
        well = λ end.
            let x : Heads j (c ∷ closers (g ∷ f ∷ fs)) =
            record { first = c; rest = closers (g ∷ f ∷ fs); cs_are = refl; line_is = refl; brace = refl; bracket = refl } in
            ap (λ (y : Walk). y.stop) (go_indent end h j f fs (c ∷ closers (g ∷ f ∷ fs)) e (deeper h) x) ∙
            all_closed end (g ∷ f ∷ fs) nested j;
      }

  -- every place ends well
  pub ends_well : (o : Bool) (h : List ℕ) (fs : List Open) (begins : Bool) → Fine (at_line o h fs) → (o ≡ true → begins ≡ true) →
      Ends (at_line o h fs) begins
  ends_well o h [] begins f p = absurd (elim (f.nested) [ ])
  ends_well true h (f ∷ fs) begins x p = subst (Ends (at_line true h (f ∷ fs))) (sym (p refl))
      (block_ends_well h f fs x.nested (x.lines refl))
  ends_well false h (f ∷ fs) false x p = mid_ends h f fs None x.nested (no_line (f ∷ fs) (a_name None) refl)
  ends_well false h (f ∷ fs) true x p = by_lines (has_lines f.region) refl
    where
      by_lines : (b : Bool) → has_lines f.region ≡ b → Ends (at_line false h (f ∷ fs)) true
      by_lines true e = line_ends h f fs x.nested e
      by_lines false e = mid_ends h f fs (Some []) x.nested (no_start f fs (a_name (Some [])) e)

  pub file_start_ends : Ends file_start true
  file_start_ends = record { rest = a_name (Some []) ∷ []; first = refl; starts = (refl, tt); well = λ end. refl }
