-- Too few words for an assignment are 6; else both are lent.
use mathlib.Core.List.{List}
use mathlib.Core.Path.{◌≡◌, refl, sym, ◌∙◌}
use Prim.Native.Nat.{ℕ, ◌+◌, ◌-◌, ◌≤◌, ◌<◌}
use native.Mathlib.Omega.{arith}
use borrow.Author.Rules.{rules}
use borrow.Author.Tests.{ne_eqb}
use lib.ListN.{length, take, drop, length-take}
use lib.Seq.{length-take-le}
use Rattle.outcome.specs.Verdict.{Refused, outcome, outcome_of}
use Rattle.outcome.proofs.Verdict.{fails, stops}
use Rattle.outcome.proofs.Asked.{asked}
use Rattle.circuit.specs.Circuit.{columns}
use Rattle.assignment.specs.Assignment.{assignment_verdict}
use Rattle.job_file.specs.Given.{given_verdict, rest_verdict}
use Rattle.job_file.proofs.FileLaws.{up_to_the_end}
use Rattle.job_file.proofs.rest_verdict.Goals as goal
use Rattle.job_file.proofs.rest_verdict.Goals.{In_ok-require}

six : Refused (outcome 6 0)
six = record { is_positive = omega arith }

too_few : (c r : List ℕ) → length r < columns c + 2 → outcome 6 0 ≡ rest_verdict c r
unfolding rest_verdict given_verdict assignment_verdict
too_few c r few =
    let short = ne_eqb (length (take (columns c + 2) r)) (columns c + 2) (λ e. omega (arith, length-take (columns c + 2) r)) in
    rw (fails 6 0 short, stops _ six, stops _ six) refl

given : (c r : List ℕ) (n : ℕ) → n ≡ columns c →
    given_verdict c (take (n + 2) r) (take (length r - (n + 2)) (drop (n + 2) r)) ≡ rest_verdict c r
unfolding rest_verdict
given c r n e = rw (e, up_to_the_end)

enough : (c : In_ok-require) → c.columns_of-size.result + 2 ≤ length c.args.rest.now
enough c = grind (arith, asked)

pub returns-in_err-require : goal.returns-in_err-require
returns-in_err-require c =
    let few : length c.args.rest.now < columns c.args.circuit.now + 2 = grind (arith, asked) in
    let six : outcome_of c.from_residual.result ≡ outcome 6 0 = grind (arith, asked) in
    six ∙ too_few _ _ few

pub returns : goal.returns
returns c = c.given_verdict.ensures ∙ given _ _ _ c.columns_of-size.ensures

pub slice_bounds-given_verdict-end : goal.slice_bounds-given_verdict-end
slice_bounds-given_verdict-end c = sym (length-take-le _ _ (enough c))

pub slice_bounds-given_verdict-count : goal.slice_bounds-given_verdict-count
slice_bounds-given_verdict-count c = let l = enough c in search rules

pub slice_bounds-given_verdict-start : goal.slice_bounds-given_verdict-start
slice_bounds-given_verdict-start c = let l = enough c in search rules
