-- The lists are the row sums, so the verdict over them is the one over the rows.
use mathlib.Core.Path.{◌∙◌}
use Rattle.rows.proofs.Holds.{sums-rows}
use Rattle.rows.proofs.rows_verdict.Goals as goal

pub returns : goal.returns
returns c =
    let a = c.whole_sums.ensures in
    let b = c.whole_sums-2.ensures in
    let d = c.whole_sums-3.ensures in
    record { sums = record { first = a; second = b; third = d }; outcome = rw (a, b, d) at c.sums_verdict.ensures ∙ sums-rows c.requires.formed.0 _ }
