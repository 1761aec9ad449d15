use Rattle.std.proofs.lemmas.Result.{err_from_is_err_and}
use Rattle.verse_expr_reader.proofs.Rows.{shorter_next}
use Rattle.verse_expr_precedence.proofs.Chains.{chain_next, goes_chain, stuck_chain}
use Rattle.verse_expr_precedence.proofs.levels.chain_tail.Goals as goal

pub operands-preserved : goal.operands-preserved
operands-preserved g c = record {
  chain = chain_next _ _ _ _ _ _ _ _ _ _ _ _ c.operands.invariant.chain c.in-Some.ensures.0 c.in-Some.ensures.1
      (rw c.operand.ensures at c.in_ok-right.ensures.spelled) c.in_ok-tree.ensures;
  goes = goes_chain _ _ _ _ _ _ _ c.operands.invariant.goes c.in-Some.ensures.0 c.in-Some.ensures.1
      (rw c.operand.ensures at c.in_ok-right.ensures.eats);
  within = shorter_next _ _ _ _ _ c.in-Some.ensures.0 c.in_ok-right.ensures.shorter c.operands.invariant.within;
}

pub returns-in_err-right-clause-sticks : goal.returns-in_err-right-clause-sticks
returns-in_err-right-clause-sticks g c = λ left bad.
    let p = err_from_is_err_and c.from_residual.result c.from_residual.ensures.1 in
    let told = rw (p.1, p.2) at bad in
    stuck_chain _ _ _ _ _ _ _ c.operands.invariant.goes c.in-Some.ensures.0 c.in-Some.ensures.1
    (rw c.operand.ensures at (c.in_err-right.ensures.sticks left told))
