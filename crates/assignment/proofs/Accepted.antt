-- The verdicts accept exactly well formed assignments and public sections, and then are 0 at place 0.
-- RULES 3.
use mathlib.Core.List.{List}
use mathlib.Core.Path.{◌≡◌, sym, ◌∙◌}
use Prim.Native.Nat.{ℕ, ◌-◌, ◌+◌, ◌<◌, ◌≤◌}
use native.Mathlib.Omega.{arith}
use borrow.Author.Tests.{eq-eqb, eqb-true, le-leb, lt-leb, leb-true}
use lib.Dec.{leb, lit<}
use lib.ListN.{length}
use Rattle.outcome.specs.declared.Outcome.{Outcome}
use Rattle.outcome.specs.Verdict.{fine, outcome, Accepted, Refused, require}
use Rattle.outcome.proofs.Verdict.{accepted-both, accepted-parts, accepted-require, require-accepted, accepted-first, accepted-each, taken, fails, Proper, proper-require, proper-and_then, proper-first}
use Rattle.outcome.proofs.Scan.{stop, end}
use Rattle.algebra.specs.Prime.{FieldPrime}
use Rattle.circuit.specs.Circuit.{word}
use Rattle.circuit.specs.WellFormed.{WellFormed}
use Rattle.circuit.proofs.Formed.{circuit-formed}
use Rattle.algebra.specs.Polynomial.{Words}
use Rattle.assignment.specs.Assignment.{words_verdict, values_verdict, assignment_verdict, public_verdict, circuit_then_assignment}
use Rattle.assignment.specs.WellFormed.{ValuesFormed, AssignmentFormed, PublicFormed}

ruleset proper = (proper-require, proper-and_then, lit<, tt)

abbrev pub each : ℕ → ℕ → ℕ → List ℕ → ℕ → Outcome
each p number from a i = require (leb (word a i) (p - 1)) number (from + i)

module _ {p : ℕ} (field : FieldPrime p) where
  pub words-formed : (number from : ℕ) (a : List ℕ) → 0 < number → Accepted (words_verdict p number from a) → Words p a
  unfolding words_verdict
  words-formed number from a l h = record {
    below = λ i inside. omega (
      arith,
      leb-true (word a i) (p - 1)
          (require-accepted _ number (from + i) l (accepted-each (each p number from a) (length a) h i inside)),
      field.above,
    );
  }

  pub words-accepted : (number from : ℕ) {a : List ℕ} → Words p a → Accepted (words_verdict p number from a)
  unfolding words_verdict
  words-accepted number from {a} w =
      accepted-first (each p number from a) (length a) (λ i l. accepted-require number (from + i) (le-leb (word a i) (p - 1) (omega (arith, w.below i l))))

  pub none_faulty : (number first : ℕ) (a : List ℕ) → 0 < number → ((k : ℕ) → k < length a → word a k ≤ p - 1) → fine ≡ words_verdict p number first a
  unfolding words_verdict
  none_faulty number first a l below =
      let all = accepted-first (each p number first a) (length a) (λ i inside. accepted-require number (first + i) (le-leb (word a i) (p - 1) (below i inside))) in
      end (each p number first a) (length a) (record { within = omega arith; accepted = all }) (omega arith) (λ i inside. proper-require _ _ _ l)

  pub first_faulty : (number first i : ℕ) (a : List ℕ) → 0 < number → i < length a → p - 1 < word a i → ((k : ℕ) → k < i → word a k ≤ p - 1) →
      outcome number (first + i) ≡ words_verdict p number first a
  unfolding words_verdict
  first_faulty number first i a l inside above below =
      let fault : each p number first a i ≡ outcome number (first + i) = fails number (first + i) (lt-leb (word a i) (p - 1) above) in
      let refused : Refused (each p number first a i) = record { is_positive = rw fault l } in
      let passed = accepted-first (each p number first a) i (λ k earlier. accepted-require number (first + k) (le-leb (word a k) (p - 1) (below k earlier))) in
      stop (each p number first a) (length a) (record { within = omega arith; accepted = passed }) inside refused (sym fault)

  pub values_formed : (a : List ℕ) → Accepted (values_verdict p a) → ValuesFormed p a
  unfolding values_verdict
  values_formed a h =
      let one = taken _ _ _ (lit< tt) h in
      record { one = eqb-true _ _ one.0; words = words-formed 7 0 a (lit< tt) one.1 }

  pub values-accepted : {a : List ℕ} → ValuesFormed p a → Accepted (values_verdict p a)
  unfolding values_verdict
  values-accepted {a} f = accepted-both (accepted-require _ _ (eq-eqb _ _ f.one)) (words-accepted 7 0 f.words)

  pub assignment_formed : (c a : List ℕ) → Accepted (assignment_verdict p c a) → AssignmentFormed p c a
  unfolding assignment_verdict
  assignment_formed c a h =
      let size = taken _ _ _ (lit< tt) h in
      let public_count = taken _ _ _ (lit< tt) size.1 in
      let private_count = taken _ _ _ (lit< tt) public_count.1 in
      record {
        size = eqb-true _ _ size.0;
        public_count = eqb-true _ _ public_count.0;
        private_count = eqb-true _ _ private_count.0;
        values = values_formed a private_count.1;
      }

  pub assignment-accepted : {c a : List ℕ} → AssignmentFormed p c a → Accepted (assignment_verdict p c a)
  unfolding assignment_verdict
  assignment-accepted f = accepted-both (accepted-require _ _ (eq-eqb _ _ f.size))
      (accepted-both (accepted-require _ _ (eq-eqb _ _ f.public_count))
      (accepted-both (accepted-require _ _ (eq-eqb _ _ f.private_count)) (values-accepted f.values)))

  pub public_formed : (c a : List ℕ) → Accepted (public_verdict p c a) → PublicFormed p c a
  unfolding public_verdict
  public_formed c a h =
      let size = taken _ _ _ (lit< tt) h in
      let public_count = taken _ _ _ (lit< tt) size.1 in
      record {
        size = eqb-true _ _ size.0;
        public_count = eqb-true _ _ public_count.0;
        values = values_formed a public_count.1;
      }

  pub public-accepted : {c a : List ℕ} → PublicFormed p c a → Accepted (public_verdict p c a)
  unfolding public_verdict
  public-accepted f = accepted-both (accepted-require _ _ (eq-eqb _ _ f.size))
      (accepted-both (accepted-require _ _ (eq-eqb _ _ f.public_count)) (values-accepted f.values))

  -- a call that takes both lists
  pub both-formed : (c a : List ℕ) → Accepted (circuit_then_assignment p c a) → WellFormed p c × AssignmentFormed p c a
  unfolding circuit_then_assignment
  both-formed c a h = let parts = accepted-parts h in (circuit-formed c parts.0, assignment_formed c a parts.1)

  pub proper-words : (number from : ℕ) (a : List ℕ) → 0 < number → Proper (words_verdict p number from a)
  unfolding words_verdict
  proper-words number from a l = proper-first (each p number from a) (length a) (λ i inside. proper-require _ number (from + i) l)

  proper-values : (a : List ℕ) → Proper (values_verdict p a)
  unfolding values_verdict
  proper-values a = let words = proper-words 7 0 a (lit< tt) in search proper depth 16

  pub proper-assignment : (c a : List ℕ) → Proper (assignment_verdict p c a)
  unfolding assignment_verdict
  proper-assignment c a = let values = proper-values a in search proper depth 16

  pub proper-public : (c a : List ℕ) → Proper (public_verdict p c a)
  unfolding public_verdict
  proper-public c a = let values = proper-values a in search proper depth 16
