-- Each call accepts, since the answers' verdict was 0.
use mathlib.Core.Path.{◌≡◌, ◌∙◌}
use native.Mathlib.Omega.{arith}
use Rattle.packing.proofs.Unpacking.{room}
use Rattle.qap.specs.Polynomials.{target_of}
use Rattle.qap.specs.Setting.{standard}
use Rattle.printed_job.proofs.LinesLaws.{behind_answers}
use Rattle.printed_job.proofs.print_five.Goals as goal

pub returns : goal.returns
returns c =
    let z : c.target.new.out ≡ target_of standard c.args.circuit.now =
    rw c.rows_of-m.ensures at (c.target.ensures.done (record { is_zero = grind (arith, behind_answers, room) })) in
    record {
      says = record {
        quotient = c.quotient.new.out;
        answers = c.args.r;
        check = c.from-check.result;
        is_quotient = c.quotient.ensures.done (record { is_zero = grind (arith, behind_answers, room) });
        are_answers = c.requires.accepted.1;
        is_check = rw (c.public_section-section.ensures, ← c.from-check.ensures) at c.check_answers.ensures;
        lines = c.put_five.ensures.says ∙ rw z;
      };
      rest = c.put_five.ensures.rest;
      within = c.put_five.ensures.within;
    }
