use Rattle.std.proofs.Common.{◌≡◌, ◌∙◌, decimal}
use Rattle.std.proofs.lemmas.Result.{on_err_weaker, on_ok_weaker}
use Rattle.trace_buf.proofs.LinePasses.{line_passed, stopped_blank, stopped_digits, stopped_end, stopped_text}
use Rattle.trace_buf.proofs.Passes.{on_err}
use Rattle.trace_buf.proofs.lines.put_line.Goals as goal

pub returns-in_err-put_bytes-clause-stopped : goal.returns-in_err-put_bytes-clause-stopped
returns-in_err-put_bytes-clause-stopped g c =
    let digits : c.as_bytes-digits.result.now ≡ decimal c.args.now = c.as_bytes-digits.ensures.value ∙ c.format.ensures.text in
    on_err c.from_residual.result (stopped_digits c.args.now c.args.text.now c.as_bytes-digits.result.now digits
    c.in_err-put_bytes.ensures.stopped)

pub returns-in_err-put-clause-stopped : goal.returns-in_err-put-clause-stopped
returns-in_err-put-clause-stopped g c =
    let digits : c.as_bytes-digits.result.now ≡ decimal c.args.now = c.as_bytes-digits.ensures.value ∙ c.format.ensures.text in
    on_err c.from_residual-in_err-put.result
    (stopped_blank c.args.now c.args.text.now c.as_bytes-digits.result.now digits c.in_ok-put_bytes.ensures.passed
    c.in_err-put.ensures.stopped)

pub returns-in_err-put_text-clause-stopped : goal.returns-in_err-put_text-clause-stopped
returns-in_err-put_text-clause-stopped g c =
    let digits : c.as_bytes-digits.result.now ≡ decimal c.args.now = c.as_bytes-digits.ensures.value ∙ c.format.ensures.text in
    on_err c.from_residual-in_err-put_text.result
    (stopped_text c.args.now c.args.text.now c.as_bytes-digits.result.now digits c.in_ok-put_bytes.ensures.passed
    c.in_ok-put.ensures.passed c.in_err-put_text.ensures.stopped)

pub returns-clause-passed : goal.returns-clause-passed
returns-clause-passed g c =
    let digits : c.as_bytes-digits.result.now ≡ decimal c.args.now = c.as_bytes-digits.ensures.value ∙ c.format.ensures.text in
    on_ok_weaker c.put-2.result (λ last. line_passed c.args.now c.args.text.now c.as_bytes-digits.result.now digits
    c.in_ok-put_bytes.ensures.passed c.in_ok-put.ensures.passed c.in_ok-put_text.ensures.passed last) c.put-2.ensures.passed

pub returns-clause-stopped : goal.returns-clause-stopped
returns-clause-stopped g c =
    let digits : c.as_bytes-digits.result.now ≡ decimal c.args.now = c.as_bytes-digits.ensures.value ∙ c.format.ensures.text in
    on_err_weaker c.put-2.result (λ last. stopped_end c.args.now c.args.text.now c.as_bytes-digits.result.now digits
    c.in_ok-put_bytes.ensures.passed c.in_ok-put.ensures.passed c.in_ok-put_text.ensures.passed last) c.put-2.ensures.stopped
