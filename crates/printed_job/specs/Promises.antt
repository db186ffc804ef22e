-- What the job program promises: RULES 7, RULES 10. proofs/OneText.antt fills the record.
use Rattle.std.specs.Prelude.{List, ◌≡◌, ℕ}
use Rattle.outcome.specs.Verdict.{fine, Accepted}
use Rattle.packing.specs.Packing.{unpacked}
use Rattle.printed_job.specs.Lines.{program_verdict, FiveLines, Prints}
use Rattle.printed_job.specs.TextUpTo.{TextUpTo, blank}

pub record PrintPromises : Type 0 where
  -- for the bytes of a file there is one text, and the function's bytes and their number are determined
  pub one_text : (bytes : List ℕ) {text text' : List ℕ} → Prints bytes text → Prints bytes text' → text ≡ text'
  pub one_run : (bytes : List ℕ) {x y : List ℕ} {e e' : ℕ} → TextUpTo (Prints bytes) blank x e → TextUpTo (Prints bytes) blank y e' → (e ≡ e') × (x ≡ y)
  -- what is accepted has number 0 and place 0, and the last of its five lines says 0
  pub accepted_zero : (bytes : List ℕ) → Accepted (program_verdict bytes) → program_verdict bytes ≡ fine
  pub last_line_zero : (bytes : List ℕ) {text : List ℕ} → Accepted (program_verdict bytes) → (five : FiveLines (unpacked bytes) text) → five.check.number ≡ 0
