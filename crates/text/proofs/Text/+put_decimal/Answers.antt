-- A number below 10 is one digit; else the digits of n / 10 and one more.
use Rattle.std.proofs.Common.{◌≡◌, ◌%◌, arith, sym}
use Rattle.text.proofs.TextLaws.{decimal-one, decimal-more, size_one, size_more, then_more, widened}
use Rattle.text.proofs.Text.+put_decimal.Goals as goal
use Rattle.text.proofs.Text.+put_decimal.Goals.{then-n-ge10, else-n-ge10}

pub returns-clause-text : goal.returns-clause-text
returns-clause-text t c =
    let n = c.args.n in
    elim c.if-n-ge10.branch [
      | then-n-ge10 w ↦
          let size = size_more n w.if-n-ge10.true in
          widened (then_more w.put_decimal.ensures.text (rw w.self-is at c.put.ensures.text)) (sym (decimal-more n w.if-n-ge10.true)) (omega arith)
      | else-n-ge10 w ↦
          let size = size_one n w.if-n-ge10.false in
          let digit : n % 10 ≡ n = omega arith in
          widened (rw w.self-is at c.put.ensures.text) (cc (decimal-one n w.if-n-ge10.false)) (omega arith)
    ]
