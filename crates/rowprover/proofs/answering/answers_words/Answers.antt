-- The parts that the file's reader found pass what is asked of the answers' parts.
use native.Mathlib.Omega.{arith}
use lib.ListN.{length}
use Rattle.outcome.proofs.Asked.{asked}
use Rattle.qap.proofs.Settings.{exact-length}
use Rattle.job_file.proofs.FileLaws.{file_ready, file_answers_ready}
use Rattle.job_file.proofs.ReadParts.{read_accepted, read_lent}
use Rattle.rowprover.specs.Exports.{answers_bytes}
use Rattle.rowprover.proofs.answering.answers_words.Goals as goal

pub answer_parts-requires : goal.answer_parts-requires
answer_parts-requires c =
    let read = c.in_ok-job.ensures in
    let all = read_accepted _ _ read in
    let lent = read_lent _ _ read in
    let sized = exact-length (length c.args.out.now) answers_bytes (record { is_zero = grind (arith, asked) }) in
    rw (lent.circuit, lent.assignment, read.split.blinders, read.split.point) (file_answers_ready _ all, (file_ready _ all).point, sized)
