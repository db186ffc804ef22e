-- Places are small: at most as many words as 37,944 bytes hold. So 256 times one fits 64 bits.
use mathlib.Core.List.{List}
use mathlib.Core.Logic.{⊎_elim}
use mathlib.Core.Path.{◌≡◌, ap}
use Prim.Native.Nat.{ℕ, ◌-◌, ◌/◌, ◌≤◌, ◌<◌}
use native.Mathlib.Nat.{eq-zero-or-pos}
use native.Mathlib.Omega.{arith}
use lib.Dec.{lit≤}
use lib.ListN.{length}
use Rattle.outcome.specs.declared.Outcome.{Outcome}
use Rattle.outcome.specs.Verdict.{Accepted, Refused}
use Rattle.outcome.proofs.Verdict.{accepted-parts, accepted_or_refused}
use Rattle.packing.specs.Packing.{unpacked, job_words}
use Rattle.packing.proofs.PackingLaws.{length-unpacked}
use Rattle.qap.specs.Calls.{Judged}
use Rattle.job_file.specs.File.{size_verdict}
use Rattle.job_file.proofs.FileLaws.{size-words}
use Rattle.outcome.proofs.Near.{Near, near_then, near_next, near-require}
use Rattle.qap.specs.Setting.{standard}
use Rattle.qap.proofs.Places.{near-length, near-check_answers}
use Rattle.job_file.proofs.Places.{near-size, near_file, near_held}
use Rattle.rowprover.specs.Exports.{answers_bytes, words_then_size, answers_bytes_verdict, sizes_verdict, check_bytes_verdict}

pub few_words : (b : List ℕ) → Accepted (size_verdict (length b)) → length (unpacked b) ≤ job_words
few_words b h =
    let size = size-words (length b) h in
    omega (arith, length-unpacked b (length b / 4) size.whole, size.few)

near-words : (w : List ℕ) (size : ℕ) → length w ≤ job_words → Near job_words (words_then_size w size)
unfolding words_then_size
near-words w size few =
    let enough = lit≤ tt in
    near_then (near_file enough w few)
    (λ h. near_next (near-length size answers_bytes (lit≤ tt)) (near_held enough w few h))

pub near-answers : (job : List ℕ) (size : ℕ) → Near job_words (answers_bytes_verdict job size)
unfolding answers_bytes_verdict
near-answers job size = near_then (near-size (lit≤ tt) (length job)) (λ h. near-words (unpacked job) size (few_words job h))

near-sizes : (circuit section query : ℕ) → Near job_words (sizes_verdict circuit section query)
unfolding sizes_verdict
near-sizes circuit section query =
    let enough = lit≤ tt in
    near_next (near-size enough circuit) (near_next (near-size enough section) (near-require _ 14 0 (lit≤ tt)))

pub near-check : (circuit section query : List ℕ) → Near job_words (check_bytes_verdict circuit section query)
unfolding check_bytes_verdict sizes_verdict
near-check circuit section query = near_then (near-sizes _ _ _) (λ h.
    let sized = accepted-parts h in
    near-check_answers standard _ _ _ _ (few_words circuit sized.0) (few_words section (accepted-parts sized.1).0) (lit≤ tt))

-- a check's outcome is its verdict, or at place 0
pub near-judged : {bound : ℕ} {verdict o : Outcome} {Equal : Type 0} → Near bound verdict → Judged verdict Equal o → Near bound o
near-judged {bound} {verdict} {o} {Equal} near judged = ⊎_elim
    (λ (h : Accepted verdict). ⊎_elim
    (λ (small : o.place - bound ≡ 0). record { near = omega arith })
    (λ (large : 0 < o.place - bound).
    let unequal : Equal → ⊥ = λ k. omega (arith, ap (λ (x : Outcome). x.place) (judged.accepts h k)) in
    absurd (omega (arith, ap (λ (x : Outcome). x.place) (judged.rejects h unequal))))
    (eq-zero-or-pos (o.place - bound)))
    (λ (r : Refused verdict). rw (judged.refused r) near)
    (accepted_or_refused verdict)
