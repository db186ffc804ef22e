-- Public and private sums make the whole, the sums that the calls ask for can be made, and the public sums of an
-- assignment are those of its public section alone. RULES 5.
use mathlib.Core.List.{List}
use mathlib.Core.Path.{◌≡◌, sym, ap}
use Prim.Native.Nat.{ℕ, suc, ◌+◌, ◌*◌, ◌-◌, ◌≤◌}
use native.Mathlib.Nat.{zero-add, sub-zero}
use native.Mathlib.Omega.{arith}
use lib.ListN.{take}
use Rattle.algebra.proofs.Combination.{total-split}
use Rattle.circuit.specs.Circuit.{publics, columns, coef}
use Rattle.circuit.specs.WellFormed.{Formed}
use Rattle.circuit.proofs.Totals.{total-same}
use Rattle.assignment.specs.Assignment.{assigned}
use Rattle.assignment.specs.WellFormed.{AssignmentFormed, PublicFormed}
use Rattle.assignment.proofs.Assigned.{public_at, assigned-inside, public-assigned}
use Rattle.rows.specs.Rows.{row_sum, whole_sum, public_sum, private_sum}
use Rattle.rows.specs.Sums.{Span}

pub parts_whole : (c a : List ℕ) → publics c ≤ columns c → (matrix i : ℕ) →
    public_sum c a matrix i + private_sum c a matrix i ≡ whole_sum c a matrix i
unfolding row_sum
parts_whole c a few matrix i =
    let all : publics c + (columns c - publics c) ≡ columns c = omega arith in
    let term : ℕ → ℕ = λ t. assigned c a (suc t) * coef c matrix i (suc t) in
    simp (zero-add, sub-zero) (sym (rw all at (total-split term (publics c) (columns c - publics c))))

pub public_alone : {p : ℕ} {c a : List ℕ} → Formed p c → AssignmentFormed p c a → (matrix i : ℕ) →
    public_sum c (take (publics c + 1) a) matrix i ≡ public_sum c a matrix i
unfolding row_sum
public_alone {c = c} {a = a} circuit formed matrix i = total-same _ _ (publics c - 0)
    (λ t l. ap (λ (w : ℕ). w * coef c matrix i (suc (0 + t))) (public-assigned circuit formed (suc (0 + t)) (omega arith)))

-- sums over all, the private and the public columns of an assignment, and the public ones of a public section

pub span-whole : {p : ℕ} {c a : List ℕ} → AssignmentFormed p c a → Span c a 0 (columns c)
span-whole {c = c} formed = record { ascending = omega arith; inside = omega arith; given = assigned-inside formed (columns c) (omega arith) }

pub span_private : {p : ℕ} {c a : List ℕ} → Formed p c → AssignmentFormed p c a → Span c a (publics c) (columns c)
span_private {c = c} circuit formed =
    record { ascending = circuit.public_count.at_most; inside = omega arith; given = assigned-inside formed (columns c) (omega arith) }

pub span-public : {p : ℕ} {c a : List ℕ} → Formed p c → PublicFormed p c a → Span c a 0 (publics c)
span-public {c = c} circuit formed = record {
  ascending = omega arith;
  inside = circuit.public_count.at_most;
  given = rw (public_at c (publics c) (omega arith)) (omega arith);
}
