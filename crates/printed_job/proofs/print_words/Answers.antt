-- Printed as the file's parts are.
use Rattle.job_file.proofs.ReadParts.{read_accepted, read_lent}
use Rattle.printed_job.proofs.LinesLaws.{file_goes_on}
use Rattle.printed_job.proofs.print_words.Goals as goal

pub returns : goal.returns
returns c =
    let read = c.in_ok-job.ensures in
    let cut = read_lent _ _ read in
    rw (file_goes_on _ (read_accepted _ _ read))
    (rw (cut.circuit, cut.assignment, read.split.blinders, read.split.point) at c.print_job.ensures)
