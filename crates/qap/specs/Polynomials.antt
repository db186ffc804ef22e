-- The polynomials of a circuit and an assignment: columns, their sums, target, and the blinded quotient.
-- RULES 4, in its order; each is the one list with the named property (proofs/Parts.antt, proofs/Quotients.antt).
use Rattle.std.specs.Prelude.{◌≡◌, List, [], ◌∷◌, ◌++◌, ℕ, suc, ◌+◌, ◌-◌, ◌<◌, ◌≤◌, length}
use Rattle.algebra.specs.Polynomial.{Words, ◌≋⟨◌⟩◌}
use Rattle.algebra.specs.Points.{target, Through}
use Rattle.algebra.specs.Combination.{combination}
use Rattle.algebra.specs.Blinding.{BlindedQuotient, quotient_size}
use Rattle.circuit.specs.Circuit.{publics, columns, coef}
use Rattle.assignment.specs.Assignment.{assigned}
use Rattle.qap.specs.Setting.{Setting, points_of}
use Rattle.qap.specs.declared.Blinders.{Blinders}

-- column j of a matrix: as many words as there are points, and the value a(i,j) at the point of row i
abbrev pub Column : Setting → List ℕ → ℕ → ℕ → List ℕ → Type 0
Column S c matrix j f = Through S.p (points_of S c) (λ i. coef c matrix (suc i) j) f

-- the sum of w_j times column j over the columns after `from` up to `to`
pub record Part (S : Setting) (c a : List ℕ) (matrix from to : ℕ) (f : List ℕ) : Type 0 where
  pub column : ℕ → List ℕ
  pub is_column : (j : ℕ) → from < j → j ≤ to → Column S c matrix j (column j)
  pub size : length f ≡ length (points_of S c)
  pub words : Words S.p f
  pub is_sum : f ≋⟨ S.p ⟩ combination (λ t. assigned c a (suc (from + t))) (λ t. column (suc (from + t))) (to - from)

-- over all columns: A(X), B(X), C(X) for matrix 0, 1, 2
abbrev pub Whole : Setting → List ℕ → List ℕ → ℕ → List ℕ → Type 0
Whole S c a matrix f = Part S c a matrix 0 (columns c) f

-- over columns 1 to q
abbrev pub PublicPart : Setting → List ℕ → List ℕ → ℕ → List ℕ → Type 0
PublicPart S c a matrix f = Part S c a matrix 0 (publics c) f

-- over columns q + 1 to n
abbrev pub PrivatePart : Setting → List ℕ → List ℕ → ℕ → List ℕ → Type 0
PrivatePart S c a matrix f = Part S c a matrix (publics c) (columns c) f

-- Z(X)
abbrev pub target_of : Setting → List ℕ → List ℕ
target_of S c = target S.p (points_of S c)

-- the blinders d1, d2, d3 as polynomials: one word each

abbrev pub blinder_size : ℕ
blinder_size = 1

abbrev pub blinder_a : Blinders → List ℕ
blinder_a d = d.first ∷ []

abbrev pub blinder_b : Blinders → List ℕ
blinder_b d = d.second ∷ []

abbrev pub blinder_c : Blinders → List ℕ
blinder_c d = d.third ∷ []

-- their words in order, as 12 counts them
abbrev pub blinder_words : Blinders → List ℕ
blinder_words d = blinder_a d ++ blinder_b d ++ blinder_c d

-- words of the quotient: what division by Z leaves of A'B'; with blinders of one word, one more than there are points
abbrev pub quotient_length : Setting → List ℕ → ℕ
quotient_length S c = quotient_size (length (points_of S c)) blinder_size

-- H' of that many words: A'B' − C' = Z H', with A' = A + d1 Z, B' = B + d2 Z, C' = C + d3 Z
pub record IsQuotient (S : Setting) (c a : List ℕ) (d : Blinders) (h : List ℕ) : Type 0 where
  pub A : List ℕ
  pub B : List ℕ
  pub C : List ℕ
  pub whole_a : Whole S c a 0 A
  pub whole_b : Whole S c a 1 B
  pub whole_c : Whole S c a 2 C
  pub quotient : BlindedQuotient S.p (points_of S c) A B C (blinder_a d) (blinder_b d) (blinder_c d) h
