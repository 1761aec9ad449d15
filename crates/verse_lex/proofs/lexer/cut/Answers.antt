use Rattle.std.proofs.Common.{◌≡◌, length, arith}
use Rattle.verse_lex.specs.Pieces.{piece_at}
use Rattle.verse_lex.specs.Cut.{in_hole}
use Rattle.verse_lex.specs.declared.pieces.Next.TheVariants as n
use Rattle.verse_lex.proofs.Pushes.{reached_separator, reached_line, reached_token, further_on, piece_is, refused_bad, refused_hole}
use Rattle.verse_lex.proofs.lexer.cut.Goals as goal

pub returns-in-End-clause-spans : goal.returns-in-End-clause-spans
returns-in-End-clause-spans c =
    further_on 0 c.pieces.tokens.items c.pieces.here.at (length c.args.bytes.now) c.pieces.invariant.0.spans
    (omega (arith, c.pieces.invariant.0.at))

pub pieces-preserved-in-Separator : goal.pieces-preserved-in-Separator
pieces-preserved-in-Separator c =
    let h : piece_at (in_hole c.pieces.here) c.pieces.rest.now ≡ n.Separator c.in-Separator.count =
    piece_is _ c.in_hole.result c.pieces.rest.now c.piece_at.result _ c.in_hole.ensures c.piece_at.ensures.piece c.in-Separator.is in (
      rw (c.past-here.ensures.here, c.behind-rest.ensures)
          (reached_separator _ _ _ _ _ _ c.pieces.invariant.0 h c.in-Separator.ensures.within.1),
      rw c.behind-rest.ensures c.past-here.ensures.bounded,
    )

pub pieces-preserved-in-LineEnd : goal.pieces-preserved-in-LineEnd
pieces-preserved-in-LineEnd c =
    let h : piece_at (in_hole c.pieces.here) c.pieces.rest.now ≡ n.LineEnd c.in-LineEnd.count =
    piece_is _ c.in_hole.result c.pieces.rest.now c.piece_at.result _ c.in_hole.ensures c.piece_at.ensures.piece c.in-LineEnd.is in (
      rw (c.past_line-here.ensures.here, c.behind-rest-in-LineEnd.ensures)
          (reached_line _ _ _ _ _ _ c.pieces.invariant.0 h c.in-LineEnd.ensures.within.1),
      rw c.behind-rest-in-LineEnd.ensures c.past_line-here.ensures.bounded,
    )

pub pieces-preserved : goal.pieces-preserved
pieces-preserved c =
    let h : piece_at (in_hole c.pieces.here) c.pieces.rest.now ≡ n.Token c.in-Token.kind c.in-Token.count =
    piece_is _ c.in_hole.result c.pieces.rest.now c.piece_at.result _ c.in_hole.ensures c.piece_at.ensures.piece c.in-Token.is in (
      rw (c.in_ok-push-in-Token.ensures.items, c.token.ensures, c.past_token-here.ensures.here, c.behind-rest-in-Token.ensures)
          (reached_token _ _ _ _ _ _ _ c.pieces.invariant.0 h c.in-Token.ensures.within.0 c.in-Token.ensures.within.1),
      rw c.behind-rest-in-Token.ensures c.past_token-here.ensures.bounded,
    )

pub returns-in-Bad-clause-refused : goal.returns-in-Bad-clause-refused
returns-in-Bad-clause-refused c = λ refusal f.
    let h : piece_at (in_hole c.pieces.here) c.pieces.rest.now ≡ n.Bad c.in-Bad.rule c.in-Bad.count =
    piece_is _ c.in_hole.result c.pieces.rest.now c.piece_at.result _ c.in_hole.ensures c.piece_at.ensures.piece c.in-Bad.is in
    refused_bad _ _ _ _ c.past.result _ _ _ refusal c.requires.text c.pieces.invariant.0 h c.past.ensures.here f

pub returns-in-HoleEnd-clause-refused : goal.returns-in-HoleEnd-clause-refused
returns-in-HoleEnd-clause-refused c = λ refusal f.
    let h : piece_at (in_hole c.pieces.here) c.pieces.rest.now ≡ n.HoleEnd =
    piece_is _ c.in_hole.result c.pieces.rest.now c.piece_at.result _ c.in_hole.ensures c.piece_at.ensures.piece c.in-HoleEnd.is in
    refused_hole _ _ _ _ _ c.opening.result refusal c.requires.text c.pieces.invariant.0 h c.opening.ensures f
