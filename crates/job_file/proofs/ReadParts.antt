-- What `grind` is told of a job that was read: what a caller lends of the words, and what they are.
-- RULES 7.
use mathlib.Core.List.{List}
use Prim.Native.Nat.{ℕ}
use Rattle.std.specs.Prelude.{Ok}
use Rattle.outcome.specs.Verdict.{Accepted}
use Rattle.outcome.proofs.Verdict.{accepted-fine}
use Rattle.job_file.specs.File.{file_verdict}
use Rattle.job_file.specs.Read.{Read}
use Rattle.job_file.specs.declared.Job.{Job}
use Rattle.job_file.proofs.FileLaws.{Lent, lent}

module _ (w : List ℕ) (j : Job) (read : Read w (Ok j)) where
  pub read_accepted : Accepted (file_verdict w)
  read_accepted = rw (← read.number_and_place) accepted-fine

  pub read_lent : Lent w j
  read_lent = lent read_accepted read.split

pub ruleset read_parts = (read_accepted, read_lent)
