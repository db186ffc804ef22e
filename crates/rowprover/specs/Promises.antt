-- What the two exported functions promise together: RULES 8, RULES 10. proofs/Promises.antt fills the record.
use Rattle.std.specs.Prelude.{List, ◌∷◌, ◌≡◌, ℕ, ◌*◌, length}
use Rattle.packing.specs.Packing.{unpacked}
use Rattle.circuit.specs.Circuit.{leading}
use Rattle.assignment.specs.Assignment.{public_section}
use Rattle.qap.specs.Setting.{standard}
use Rattle.qap.specs.Answers.{AnswersAgree}
use Rattle.job_file.specs.File.{assignment_of, point_of}
use Rattle.rowprover.specs.Exports.{JobBytes, AnswersExport, CheckExport, query_point, query_answers}

-- the bytes are those of the words
pub record BytesOf (words bytes : List ℕ) : Type 0 where
  pub hold : unpacked bytes ≡ words
  pub size : length bytes ≡ 4 * length words

pub record ExportPromises : Type 0 where
  -- a return of 0 is done: the bytes are the four answers; any other return keeps every byte
  pub zero_answers : {job old new : List ℕ} → AnswersExport job old new 0 → JobBytes (unpacked job) new
  pub else_kept : {job old new : List ℕ} {r : ℕ} → AnswersExport job old new r → (r ≡ 0 → ⊥) → new ≡ old
  -- a return of 0 from the check says that the answers satisfy the equality
  pub zero_agrees : {circuit section query : List ℕ} → CheckExport circuit section query 0 →
      AnswersAgree standard (unpacked circuit) (unpacked section) (query_point (unpacked query)) (query_answers (unpacked query))
  -- what answers wrote, with the circuit's bytes, the public section's bytes and the point, makes check return 0
  pub box_and_tablet : {job old new circuit section query : List ℕ} {r : ℕ} → AnswersExport job old new 0 →
      BytesOf (leading (unpacked job)) circuit →
      BytesOf (public_section standard.p (leading (unpacked job)) (assignment_of (unpacked job))) section →
      BytesOf (point_of (unpacked job) ∷ unpacked new) query →
      CheckExport circuit section query r → r ≡ 0
  -- any two results that a contract admits are equal
  pub one_answers : {job old new new' : List ℕ} {r r' : ℕ} → AnswersExport job old new r → AnswersExport job old new' r' → (r ≡ r') × (new ≡ new')
  pub one_check : {circuit section query : List ℕ} {r r' : ℕ} → CheckExport circuit section query r → CheckExport circuit section query r' → r ≡ r'
