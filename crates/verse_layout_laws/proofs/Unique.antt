-- At most one refusal holds of a list of tokens, and none of one that has a layout.
use Rattle.std.proofs.Common.{◌≡◌, ◌<◌, Bool, true, false, List, [], ◌∷◌, ◌++◌, ℕ, refl, sym, ◌∙◌, ap, subst, append_assoc, append-nil}
use Rattle.std.proofs.Common.{arith}
use Rattle.verse_base.specs.declared.refusals.Refusal.{Refusal}
use Rattle.verse_base.specs.declared.refusals.Rule.{Rule}
use Rattle.verse_lex.specs.declared.tokens.Token.{Token}
use Rattle.verse_layout.specs.declared.toks.Tok.{Tok}
use Rattle.verse_layout.specs.declared.frames.Spot.{Spot}
use Rattle.verse_layout.specs.declared.roles.Region.{Region}
use Rattle.verse_layout.specs.declared.roles.Region.TheVariants as region
use Rattle.verse_layout.specs.declared.roles.Role.TheVariants as role
use Rattle.verse_layout.specs.declared.rules.TheConstants.{BRACKET, NESTING}
use Rattle.verse_layout.specs.Roles.{role_of, has_lines, is_brace_close}
use Rattle.verse_layout.specs.Loads.{at_start}
use Rattle.verse_layout.specs.Cells.{Cell, cells_of}
use Rattle.verse_layout.specs.Written.{Written, Spaced, refusal}
use Rattle.verse_layout.specs.Blocks.{IsFile}
use Rattle.verse_layout.specs.Layouts.{IsWithin, IsLayout, end_of}
use Rattle.verse_layout.specs.Refusals.{BeginsFile, BreaksAt, wrong_brace, wrong_bracket, wrong_line, no_block, BreaksEnd, open_bracket}
use Rattle.verse_layout.specs.Refusals.{no_block_behind, SameLine, GoesOn, Shares, AllWithin, IsTooDeep, Refuses, at_token}
use Rattle.verse_layout.specs.Refusals.{at_file_end, too_deep}
use Rattle.verse_layout.proofs.OpenBrackets.{Splits, first_shorter, first_longer, splits, balanced_innermost, one_innermost}
use Rattle.verse_layout.proofs.Spacing.{is_spaced}
use Rattle.verse_layout.proofs.Refused.{same_line}
use Rattle.verse_layout.proofs.Depth.{within_at, within_front}
use Rattle.verse_layout_laws.specs.Laws.{OneRefusal, LaidOrRefused}

-- fewer tokens begin a file too
fewer_begin : (cs ds es : List Cell) → ds ≡ cs ++ es → BeginsFile ds → BeginsFile cs
fewer_begin cs ds es e b = record {
  end = b.end;
  rest = es ++ b.rest;
  written = b.written;
  block = subst (λ xs. IsFile b.end xs b.written) (ap (λ xs. xs ++ b.rest) e ∙ append_assoc cs es b.rest) b.block;
}

one_more : (before : List Cell) (c : Cell) (behind : List Cell) → before ++ c ∷ behind ≡ (before ++ c ∷ []) ++ behind
one_more before c behind = sym (append_assoc before (c ∷ []) behind)

-- one rule is broken by a token
no_brace : {r : Region} (c : Cell) → role_of c.token.kind ≡ role.Closes r → has_lines r ≡ false →
    role_of c.token.kind ≡ role.Closes region.Brace → ⊥
no_brace {r = r} c p l q = let e : role.Closes r ≡ role.Closes region.Brace = sym p ∙ q in let f : r ≡ region.Brace = cc in let g =
    ap has_lines f in cc

no_line : (c : Cell) → role_of c.token.kind ≡ role.Closes region.Brace → is_brace_close (role_of c.token.kind) ≡ false → ⊥
no_line c p q = let e = ap is_brace_close p in cc

one_rule : (before : List Cell) (c : Cell) (rule other : Rule) → BreaksAt before c rule → BreaksAt before c other → rule ≡ other
one_rule before c rule other (wrong_brace p n) (wrong_brace q m) = refl
one_rule before c rule other (wrong_brace p n) (wrong_bracket q l m b) = refl
one_rule before c rule other (wrong_brace p n) (wrong_line q m) = absurd (no_line c p q)
one_rule before c rule other (wrong_brace p n) (no_block q o i) = absurd (n o i)
one_rule before c rule other (wrong_bracket p l n b) (wrong_brace q m) = refl
one_rule before c rule other (wrong_bracket p l n b) (wrong_bracket q k m d) = refl
one_rule before c rule other (wrong_bracket p l n b) (wrong_line q m) = absurd (m b)
one_rule before c rule other (wrong_bracket p l n b) (no_block q o i) = absurd (no_brace c p l q)
one_rule before c rule other (wrong_line p n) (wrong_brace q m) = absurd (no_line c q p)
one_rule before c rule other (wrong_line p n) (wrong_bracket q l m b) = absurd (n b)
one_rule before c rule other (wrong_line p n) (wrong_line q m) = refl
one_rule before c rule other (wrong_line p n) (no_block q o i) = absurd (no_line c q p)
one_rule before c rule other (no_block p o i) (wrong_brace q m) = absurd (m o i)
one_rule before c rule other (no_block p o i) (wrong_bracket q l m b) = absurd (no_brace c q l p)
one_rule before c rule other (no_block p o i) (wrong_line q m) = absurd (no_line c p q)
one_rule before c rule other (no_block p o i) (no_block q u j) = refl

one_end : (end : Spot) (cs : List Cell) (r s : Refusal) → BreaksEnd end cs r → BreaksEnd end cs s → r ≡ s
one_end end cs r s (open_bracket o x i) (open_bracket p y j) =
    ap (λ (c : Cell). refusal BRACKET c.token.place) ((one_innermost cs o p x y i j).cell)
one_end end cs r s (open_bracket o x i) (no_block_behind before c e k b) = absurd (balanced_innermost cs o x b i)
one_end end cs r s (no_block_behind before c e k b) (open_bracket o x i) = absurd (balanced_innermost cs o x b i)
one_end end cs r s (no_block_behind before c e k b) (no_block_behind front d f l a) = refl

-- two tokens with which no file goes on are the same
same_token : (cs before behind front rest : List Cell) (c d : Cell) (rule other : Rule) → cs ≡ before ++ c ∷ behind →
    cs ≡ front ++ d ∷ rest → BeginsFile front → (BeginsFile (before ++ c ∷ []) → ⊥) → BeginsFile before →
    (BeginsFile (front ++ d ∷ []) → ⊥) →
    BreaksAt before c rule → BreaksAt front d other → refusal rule c.token.place ≡ refusal other d.token.place
same_token cs before behind front rest c d rule other e f begun stuck begins halts x y =
    by_split (splits before (c ∷ behind) front (d ∷ rest) (sym e ∙ f))
  where
    same : (h : List Cell) → front ≡ h → before ≡ h → c ≡ d → refusal rule c.token.place ≡ refusal other d.token.place
    same h p q g =
        let here : BreaksAt front d rule = subst (λ z. BreaksAt front z rule) g (subst (λ zs. BreaksAt zs c rule) (q ∙ sym p) x) in
        ap (λ z. refusal rule z) (ap (λ (z : Cell). z.token.place) g) ∙
        ap (λ z. refusal z d.token.place) (one_rule front d rule other here y)

    shorter : (ms : List Cell) → front ≡ before ++ ms → c ∷ behind ≡ ms ++ d ∷ rest →
        refusal rule c.token.place ≡ refusal other d.token.place
    shorter [] p q = same front refl (sym (p ∙ append-nil before)) (cc)
    shorter (m ∷ ms) p q =
        let first : m ≡ c = cc in
        absurd (stuck (fewer_begin (before ++ c ∷ []) front ms (p ∙ ap (λ z. before ++ z ∷ ms) first ∙ one_more before c ms) begun))

    longer : (ms : List Cell) → before ≡ front ++ ms → d ∷ rest ≡ ms ++ c ∷ behind →
        refusal rule c.token.place ≡ refusal other d.token.place
    longer [] p q = same front refl (p ∙ append-nil front) (cc)
    longer (m ∷ ms) p q =
        let first : m ≡ d = cc in
        absurd (halts (fewer_begin (front ++ d ∷ []) before ms (p ∙ ap (λ z. front ++ z ∷ ms) first ∙ one_more front d ms) begins))

    by_split : Splits before (c ∷ behind) front (d ∷ rest) → refusal rule c.token.place ≡ refusal other d.token.place
    by_split (first_shorter ms p q) = shorter ms p q
    by_split (first_longer ms p q) = longer ms p q

-- a file that goes on where more tokens do goes on where fewer do
longer_line : (front mid rest others : List Cell) → SameLine (front ++ mid) rest others → SameLine front (mid ++ rest) (mid ++ others)
longer_line [] mid rest others e = tt
longer_line (f ∷ front) [] rest others e = e
longer_line (f ∷ front) (m ∷ mid) rest others e = refl

longer_shares : (front behind mid others : List Cell) (ks : List Tok) → behind ≡ mid ++ others → Shares front behind ks →
    Shares (front ++ mid) others ks
longer_shares front behind mid others ks e s end rest ws js line block out =
    s end (mid ++ rest) ws js (subst (SameLine front (mid ++ rest)) (sym e) (longer_line front mid rest others line))
    (subst (λ xs. IsFile end xs ws) (append_assoc front mid rest) block) out

not_within : (ks : List Tok) (r : Refusal) → IsTooDeep at_start ks r → IsWithin at_start ks → ⊥
not_within ks r d w = let h = within_at at_start d.before d.behind d.tok (subst (IsWithin at_start) d.split w) in let over = d.above in
    omega arith

-- of two lists that begin one list the first tok too deep is the same
one_deep : (ks js ls ns : List Tok) (r s : Refusal) → ks ++ ls ≡ js ++ ns → IsTooDeep at_start ks r → IsTooDeep at_start js s → r ≡ s
one_deep ks js ls ns r s e d f =
    d.refused ∙ by_split (splits d.before (d.tok ∷ (d.behind ++ ls)) f.before (f.tok ∷ (f.behind ++ ns)) both) ∙ sym f.refused
  where
    both : d.before ++ d.tok ∷ (d.behind ++ ls) ≡ f.before ++ f.tok ∷ (f.behind ++ ns)
    both =
        sym (append_assoc d.before (d.tok ∷ d.behind) ls) ∙ ap (λ xs. xs ++ ls) (sym d.split) ∙ e ∙ ap (λ xs. xs ++ ns) f.split
        ∙ append_assoc f.before (f.tok ∷ f.behind) ns

    same : (k j : Tok) → k ≡ j → refusal NESTING k.place ≡ refusal NESTING j.place
    same k j g = ap (λ (x : Tok). refusal NESTING x.place) g

    shorter : (ms : List Tok) → f.before ≡ d.before ++ ms → d.tok ∷ (d.behind ++ ls) ≡ ms ++ f.tok ∷ (f.behind ++ ns) →
        refusal NESTING (d.tok).place ≡ refusal NESTING (f.tok).place
    shorter [] p q = same d.tok f.tok (cc)
    shorter (m ∷ ms) p q =
        let first : m ≡ d.tok = cc in
        let h = within_at at_start d.before ms d.tok (subst (IsWithin at_start) (p ∙ ap (λ x. d.before ++ x ∷ ms) first) f.within) in
        let over = d.above in absurd (omega arith)

    longer : (ms : List Tok) → d.before ≡ f.before ++ ms → f.tok ∷ (f.behind ++ ns) ≡ ms ++ d.tok ∷ (d.behind ++ ls) →
        refusal NESTING (d.tok).place ≡ refusal NESTING (f.tok).place
    longer [] p q = same d.tok f.tok (cc)
    longer (m ∷ ms) p q =
        let first : m ≡ f.tok = cc in
        let h = within_at at_start f.before ms f.tok (subst (IsWithin at_start) (p ∙ ap (λ x. f.before ++ x ∷ ms) first) d.within) in
        let over = f.above in absurd (omega arith)

    by_split : Splits d.before (d.tok ∷ (d.behind ++ ls)) f.before (f.tok ∷ (f.behind ++ ns)) →
        refusal NESTING (d.tok).place ≡ refusal NESTING (f.tok).place
    by_split (first_shorter ms p q) = shorter ms p q
    by_split (first_longer ms p q) = longer ms p q

-- the toks that a file which goes on has
shared_deep : (cs others : List Cell) (ks js : List Tok) (r s : Refusal) → GoesOn cs others → Shares cs others ks → Shares cs others js →
    IsTooDeep at_start ks r → IsTooDeep at_start js s → r ≡ s
shared_deep cs others ks js r s g a b d f =
    let x = a g.end g.rest g.written _ g.line g.block (is_spaced g.written) in
    let y = b g.end g.rest g.written _ g.line g.block (is_spaced g.written) in
    one_deep ks js x.0 y.0 r s (sym x.1 ∙ y.1) d f

both_deep : (cs front behind head tail : List Cell) (ks js : List Tok) (r s : Refusal) → cs ≡ front ++ behind → cs ≡ head ++ tail →
    GoesOn front behind → GoesOn head tail → Shares front behind ks → Shares head tail js →
    IsTooDeep at_start ks r → IsTooDeep at_start js s → r ≡ s
both_deep cs front behind head tail ks js r s e f g h a b d x = by_split (splits front behind head tail (sym e ∙ f))
  where
    by_split : Splits front behind head tail → r ≡ s
    by_split (first_shorter ms p q) =
        shared_deep head tail ks js r s h (subst (λ xs. Shares xs tail ks) (sym p) (longer_shares front behind ms tail ks q a)) b d x
    by_split (first_longer ms p q) =
        shared_deep front behind ks js r s g a (subst (λ xs. Shares xs behind js) (sym p) (longer_shares head tail ms behind js q b)) d x

-- a tok too deep stands before the token with which no file goes on
deep_first : (cs front behind before rest : List Cell) (c : Cell) (ks : List Tok) (r : Refusal) → cs ≡ front ++ behind →
    cs ≡ before ++ c ∷ rest → GoesOn front behind → Shares front behind ks → IsTooDeep at_start ks r →
    (BeginsFile (before ++ c ∷ []) → ⊥) → AllWithin before (c ∷ rest) → ⊥
deep_first cs front behind before rest c ks r e f g a d stuck w = by_split (splits front behind before (c ∷ rest) (sym e ∙ f))
  where
    begins : BeginsFile front
    begins = record { end = g.end; rest = g.rest; written = g.written; block = g.block }

    by_rest : (ms : List Cell) → front ≡ before ++ ms → c ∷ rest ≡ ms ++ behind → ⊥
    by_rest [] p q =
        let here : front ≡ before = p ∙ append-nil before in
        not_within ks r d (w ks (subst (λ xs. Shares xs (c ∷ rest) ks) here (subst (λ xs. Shares front xs ks) (sym q) a)))
    by_rest (m ∷ ms) p q =
        let first : m ≡ c = cc in
        stuck (fewer_begin (before ++ c ∷ []) front ms (p ∙ ap (λ z. before ++ z ∷ ms) first ∙ one_more before c ms) begins)

    by_split : Splits front behind before (c ∷ rest) → ⊥
    by_split (first_shorter ms p q) = not_within ks r d
        (w ks (subst (λ xs. Shares xs (c ∷ rest) ks) (sym p) (longer_shares front behind ms (c ∷ rest) ks q a)))
    by_split (first_longer ms p q) = by_rest ms p q

deep_in_all : (cs front behind : List Cell) (ks : List Tok) (r : Refusal) → cs ≡ front ++ behind → Shares front behind ks →
    IsTooDeep at_start ks r → AllWithin cs [] → ⊥
deep_in_all cs front behind ks r e a d w =
    not_within ks r d (w ks (subst (λ xs. Shares xs [] ks) (sym e) (longer_shares front behind behind [] ks (sym (append-nil behind)) a)))

begins_all : (cs before behind : List Cell) (c : Cell) → cs ≡ before ++ c ∷ behind → BeginsFile cs → BeginsFile (before ++ c ∷ [])
begins_all cs before behind c e b = fewer_begin (before ++ c ∷ []) cs behind (e ∙ one_more before c behind) b

one_refuses : (end : Spot) (cs : List Cell) (r s : Refusal) → Refuses end cs r → Refuses end cs s → r ≡ s
one_refuses end cs r s (at_token before behind c rule e b n w x p) (at_token front rest d other f a m v y q) =
    p ∙ same_token cs before behind front rest c d rule other e f a n b m x y ∙ sym q
one_refuses end cs r s (at_token before behind c rule e b n w x p) (at_file_end a m v y) = absurd (n (begins_all cs before behind c e a))
one_refuses end cs r s (at_token before behind c rule e b n w x p) (too_deep front rest ks f g a d) =
    absurd (deep_first cs front rest before behind c ks s f e g a d n w)
one_refuses end cs r s (at_file_end b n w x) (at_token before behind c rule e a m v y p) = absurd (m (begins_all cs before behind c e b))
one_refuses end cs r s (at_file_end b n w x) (at_file_end a m v y) = one_end end cs r s x y
one_refuses end cs r s (at_file_end b n w x) (too_deep front rest ks f g a d) = absurd (deep_in_all cs front rest ks s f a d w)
one_refuses end cs r s (too_deep front rest ks f g a d) (at_token before behind c rule e b n w x p) =
    absurd (deep_first cs front rest before behind c ks r f e g a d n w)
one_refuses end cs r s (too_deep front rest ks f g a d) (at_file_end b n w x) = absurd (deep_in_all cs front rest ks r f a d w)
one_refuses end cs r s (too_deep front rest ks f g a d) (too_deep head tail js e h b x) =
    both_deep cs front rest head tail ks js r s f e g h a b d x

pub one_refusal : OneRefusal
one_refusal bytes tokens r s x y = one_refuses (end_of bytes tokens) (cells_of bytes tokens) r s x y

record IsLayoutOf (end : Spot) (cs : List Cell) (written : List Written) (ks : List Tok) : Type 0 where
  block : IsFile end cs written
  out : Spaced written ks
  within : IsWithin at_start ks

no_refusal : (end : Spot) (cs : List Cell) (written : List Written) (ks : List Tok) (r : Refusal) → IsLayoutOf end cs written ks →
    Refuses end cs r → ⊥
no_refusal end cs written ks r l (at_token before behind c rule e b n w x p) =
    n (begins_all cs before behind c e (record
    { end = end; rest = []; written = written; block = subst (λ xs. IsFile end xs written) (sym (append-nil cs)) l.block }))
no_refusal end cs written ks r l (at_file_end b n w x) = n written l.block
no_refusal end cs written ks r l (too_deep front rest js e g a d) =
    let x = a end rest written ks (same_line front rest) (subst (λ xs. IsFile end xs written) e l.block) l.out in
    not_within js r d (within_front at_start js x.0 (subst (IsWithin at_start) x.1 l.within))

pub laid_or_refused : LaidOrRefused
laid_or_refused bytes tokens ks r l x =
    no_refusal (end_of bytes tokens) (cells_of bytes tokens) l.written ks r
    (record { block = l.block; out = l.written_out; within = l.within }) x
