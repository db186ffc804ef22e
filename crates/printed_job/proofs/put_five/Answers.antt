-- One line behind the other.
use native.Mathlib.Omega.{arith}
use Rattle.text.proofs.TextLaws.{then_more}
use Rattle.printed_job.proofs.put_five.Goals as goal

pub returns : goal.returns
returns c =
    let sized = c.requires in
    let three = then_more (then_more c.put_two-first.ensures c.put_line-second.ensures) c.put_line-third.ensures in
    let done = then_more (then_more three c.put_line-fourth.ensures) c.put_line.ensures in
    record { says = done.text; rest = done.rest; within = omega (arith, done.within) }
