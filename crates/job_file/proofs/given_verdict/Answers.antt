-- Words that passed as a trailer are 6.
use mathlib.Core.Path.{◌≡◌}
use native.Mathlib.Omega.{arith}
use lib.ListN.{length}
use Rattle.outcome.proofs.Asked.{asked}
use Rattle.job_file.proofs.FileLaws.{trailer-six}
use Rattle.job_file.proofs.given_verdict.Goals as goal
use Rattle.job_file.proofs.given_verdict.Goals.{In_ok-trailer_verdict}

six : (c : In_ok-trailer_verdict) → length c.args.t.now ≡ 6
six c = trailer-six _ (record { is_zero = grind (arith, asked) })

pub blinders_in-requires : goal.blinders_in-requires
blinders_in-requires c = six c

pub bounds-t-5 : goal.bounds-t-5
bounds-t-5 c = omega (arith, six (goal.at.bounds-t-5 c).In_ok-trailer_verdict)
