-- What an accepted file has: each check that it passed, where circuit and assignment end, and that the calls on them would accept too.
use mathlib.Core.List.{List}
use mathlib.Core.Path.{◌≡◌, refl, sym, ◌∙◌, ap}
use Rattle.std.specs.Prelude.{Result, Ok, Err}
use Rattle.outcome.specs.declared.Outcome.{Outcome}
use Rattle.outcome.specs.declared.Refusal.{Refusal}
use Rattle.outcome.proofs.Asked.{positive}
use Rattle.outcome.proofs.Same.{same_refusal}
use Prim.Native.Nat.{ℕ, ◌+◌, ◌*◌, ◌-◌, ◌/◌, ◌%◌, ◌≤◌}
use native.Mathlib.Omega.{arith}
use borrow.Author.Tests.{leb-true, eqb-true}
use lib.Dec.{lit<}
use lib.ListN.{length, take, drop, length-drop}
use lib.Seq.{take_all, length-take-le}
use Rattle.outcome.specs.Verdict.{fine, told, Accepted, ◌and_then◌}
use Rattle.outcome.proofs.Verdict.{accepted-both, accepted-parts, require-accepted, taken}
use Rattle.circuit.specs.Circuit.{columns, ending, leading}
use Rattle.circuit.specs.Reader.{prefix_verdict, circuit_verdict}
use Rattle.circuit.proofs.Formed.{prefix_formed}
use Rattle.circuit.proofs.Prefix.{leading-accepted}
use Rattle.circuit.proofs.Sections.{ends-within}
use Rattle.assignment.specs.Assignment.{words_verdict, assignment_verdict}
use Rattle.assignment.proofs.Accepted.{assignment_formed}
use Rattle.qap.specs.Polynomials.{blinder_words}
use Rattle.qap.specs.Refusals.{point_verdict, ready_verdict, answers_verdict}
use Rattle.field.specs.Field.{p}
use Rattle.field.proofs.PrimeField.{field_prime}
use Rattle.qap.specs.Setting.{standard}
use Rattle.job_file.specs.File.{most_bytes, most_words, assignment_of, trailer, blinders_of, point_of, size_verdict, trailer_verdict, file_verdict, job_verdict}
use Rattle.job_file.specs.Given.{given_verdict, rest_verdict}
use Rattle.job_file.specs.Read.{Split, Read}
use Rattle.job_file.specs.declared.Job.{Job}

-- a file that is not refused for its length is whole words, and not too many
pub record WholeWords (size : ℕ) : Type 0 where
  pub whole : size ≡ 4 * (size / 4)
  pub few : size / 4 ≤ most_words

pub size-words : (size : ℕ) → Accepted (size_verdict size) → WholeWords size
unfolding size_verdict
size-words size h =
    let first = taken _ _ _ (lit< tt) h in
    let most : size ≤ most_bytes = leb-true _ _ first.0 in
    let left : size % 4 ≡ 0 = eqb-true _ _ (require-accepted _ 14 0 (lit< tt) first.1) in
    record { whole = omega arith; few = omega arith }

-- the verdict as the code goes by it
pub file_rest : (w : List ℕ) → file_verdict w ≡ prefix_verdict p w and_then rest_verdict (leading w) (drop (ending w) w)
unfolding file_verdict rest_verdict given_verdict
file_rest w = refl

-- words lent up to the end
pub up_to_the_end : (n : ℕ) (w : List ℕ) → take (length w - n) (drop n w) ≡ drop n w
up_to_the_end n w = take_all (length w - n) (drop n w) (simp length-drop (omega arith))

pub trailer-six : (t : List ℕ) → Accepted (trailer_verdict t) → length t ≡ 6
unfolding trailer_verdict
trailer-six t h = eqb-true _ _ (taken _ _ _ (lit< tt) h).0

pub record Ready (w : List ℕ) : Type 0 where
  pub circuit : Accepted (circuit_verdict p (leading w))
  pub assignment : Accepted (assignment_verdict p (leading w) (assignment_of w))
  pub remains : length (trailer w) ≡ 6
  pub blinders : Accepted (words_verdict p 12 0 (blinder_words (blinders_of w)))
  pub point : Accepted (point_verdict standard (leading w) (point_of w))

pub file_ready : (w : List ℕ) → Accepted (file_verdict w) → Ready w
unfolding file_verdict
file_ready w h =
    let begun = accepted-parts h in
    let assigned = accepted-parts begun.1 in
    let shaped = accepted-parts assigned.1 in
    let blinded = accepted-parts shaped.1 in
    record {
      circuit = leading-accepted p w begun.0;
      assignment = assigned.0;
      remains = trailer-six (trailer w) shaped.0;
      blinders = blinded.0;
      point = blinded.1;
    }

pub file_answers_ready : (w : List ℕ) → Accepted (file_verdict w) →
    Accepted (ready_verdict standard (leading w) (assignment_of w) (blinders_of w))
unfolding ready_verdict
file_answers_ready w h =
    let ready = file_ready w h in
    accepted-both ready.circuit (accepted-both ready.assignment ready.blinders)

-- with 10 last: the call for answers accepts what the file holds
pub job_answers : (w : List ℕ) → Accepted (job_verdict w) →
    Accepted (answers_verdict standard (leading w) (assignment_of w) (blinders_of w) (point_of w))
unfolding job_verdict answers_verdict
job_answers w h =
    let parts = accepted-parts h in
    accepted-both (file_answers_ready w parts.0) (accepted-both (file_ready w parts.0).point parts.1)

same_job : {w : List ℕ} {i j : Job} → Split w i → Split w j → i ≡ j
same_job f g =
    let circuit = f.circuit ∙ sym g.circuit in
    let assignment = f.assignment ∙ sym g.assignment in
    let blinders = f.blinders ∙ sym g.blinders in
    let point = f.point ∙ sym g.point in
    λ t. record { circuit = circuit t; assignment = assignment t; d = blinders t; s = point t }

not_fine : (r : Refusal) → fine ≡ told r → ⊥
not_fine r e = omega (arith, positive r, ap (λ (o : Outcome). o.number) e)

-- any two results that reading admits are equal
pub read_determined : {w : List ℕ} {i j : Result Job Refusal} → Read w i → Read w j → i ≡ j
read_determined {i = Ok i} {j = Ok j} f g = ap {B = Result Job Refusal} Ok (same_job f.split g.split)
read_determined {i = Err i} {j = Err j} f g =
    ap {B = Result Job Refusal} Err (same_refusal i j (f.number_and_place ∙ sym g.number_and_place))
read_determined {i = Ok i} {j = Err j} f g = absurd (not_fine j (f.number_and_place ∙ sym g.number_and_place))
read_determined {i = Err i} {j = Ok j} f g = absurd (not_fine i (g.number_and_place ∙ sym f.number_and_place))

-- where circuit and assignment end
pub record Ends (w : List ℕ) : Type 0 where
  pub circuit : length (leading w) ≡ ending w
  pub assignment : length (assignment_of w) ≡ columns (leading w) + 2
  pub within : ending w + (columns (leading w) + 2) ≤ length w
  pub whole : ending w + (columns (leading w) + 2) + 6 ≡ length w

pub ends : (w : List ℕ) → Accepted (file_verdict w) → Ends w
unfolding file_verdict
ends w h =
    let ready = file_ready w h in
    let inside = ends-within (prefix_formed w (accepted-parts h).0) in
    let remains = simp length-drop at ready.remains in
    record {
      circuit = length-take-le (ending w) w inside;
      assignment = (assignment_formed field_prime _ _ ready.assignment).size;
      within = omega arith;
      whole = omega arith;
    }

-- what a caller lends: words[..circuit] and words[circuit..assignment]
pub record Lent (w : List ℕ) (j : Job) : Type 0 where
  pub circuit : take j.circuit w ≡ leading w
  pub assignment : take (j.assignment - j.circuit) (drop j.circuit w) ≡ assignment_of w
  pub ordered : j.circuit ≤ j.assignment
  pub within : j.assignment ≤ length w

pub lent : {w : List ℕ} {j : Job} → Accepted (file_verdict w) → Split w j → Lent w j
lent {w} {j} h split =
    let end = ends w h in
    let size : j.assignment - j.circuit ≡ columns (leading w) + 2 = omega arith in
    record {
      circuit = rw split.circuit;
      assignment = rw (size, split.circuit);
      ordered = omega arith;
      within = omega arith;
    }
