-- What `grind` is told of a number of bytes: whole words, and not too many; or refused.
-- RULES 7.
use mathlib.Core.Logic.{◌⊎◌, inl, inr, ⊎_elim}
use mathlib.Core.Path.{◌≡◌}
use Prim.Native.Nat.{ℕ, ◌*◌, ◌/◌, ◌≤◌, ◌<◌}
use Rattle.outcome.specs.Verdict.{Accepted, Refused}
use Rattle.outcome.proofs.Verdict.{accepted_or_refused}
use Rattle.job_file.specs.File.{most_words, size_verdict}
use Rattle.job_file.proofs.FileLaws.{size-words}

pub sized : (size : ℕ) → ((size ≡ 4 * (size / 4)) × (size / 4 ≤ most_words)) ⊎ (0 < (size_verdict size).number)
sized size = ⊎_elim
    (λ (h : Accepted (size_verdict size)). let words = size-words size h in inl (words.whole, words.few))
    (λ (r : Refused (size_verdict size)). inr r.is_positive)
    (accepted_or_refused (size_verdict size))
