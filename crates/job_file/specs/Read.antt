-- What reading a job file's words gives: the verdict, and where it accepts, where circuit and assignment end, the blinders and the point.
use Rattle.std.specs.Prelude.{Result, Ok, Err, IfOk, List, ◌≡◌, ℕ, ◌+◌}
use Rattle.outcome.specs.declared.Refusal.{Refusal}
use Rattle.outcome.specs.Verdict.{outcome_of, Refused}
use Rattle.circuit.specs.Circuit.{columns, ending, leading}
use Rattle.job_file.specs.File.{blinders_of, point_of, file_verdict}
use Rattle.job_file.specs.declared.Job.{Job}

-- the circuit ends where the assignment begins
pub record Split (w : List ℕ) (j : Job) : Type 0 where
  pub circuit : j.circuit ≡ ending w
  pub assignment : j.assignment ≡ ending w + (columns (leading w) + 2)
  pub blinders : j.d ≡ blinders_of w
  pub point : j.s ≡ point_of w

-- of a refused file all of these are 0
abbrev pub no_job : Job
no_job = record { circuit = 0; assignment = 0; d = record { first = 0; second = 0; third = 0 }; s = 0 }

-- what a result holds
abbrev pub job_of : Result Job Refusal → Job
job_of (Ok j) = j
job_of (Err refusal) = no_job

pub record Read (w : List ℕ) (r : Result Job Refusal) : Type 0 where
  pub number_and_place : outcome_of r ≡ file_verdict w
  pub split : IfOk r (Split w)
  pub none : Refused (file_verdict w) → job_of r ≡ no_job
