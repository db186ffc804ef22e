-- The dividend A'B' − C' of a circuit, an assignment and blinders, and its quotient by Z.
-- RULES 4: before division the product is kept whole, up to 513 coefficients.
use Rattle.std.specs.Prelude.{◌≡◌, List, ℕ, suc, ◌+◌, ◌-◌, ◌≤◌, length, take}
use Rattle.algebra.specs.Polynomial.{product, reduced}
use Rattle.algebra.specs.Points.{row_points, target}
use Rattle.poly.specs.AddScaled.{scaled}
use Rattle.poly.specs.Product.{padded}
use Rattle.poly.specs.Division.{quotient}
use Rattle.circuit.specs.Circuit.{rows}
use Rattle.circuit.specs.WellFormed.{Formed}
use Rattle.assignment.specs.WellFormed.{AssignmentFormed}
use Rattle.rows.specs.Rows.{whole_sum}
use Rattle.qap.specs.Setting.{row_setting, points_of}
use Rattle.qap.specs.Polynomials.{target_of, blinder_a, blinder_b, blinder_c}
use Rattle.qap.specs.declared.Blinders.{Blinders}
use Rattle.dividend.specs.Blinded.{BlindedThrough}

-- the words of A'B' − C', and 0 after them
unfoldable pub dividend_of : ℕ → List ℕ → List ℕ → List ℕ → List ℕ
dividend_of p a b c = scaled p (p - 1) c (padded 513 (reduced p (product a b)))

-- a dividend's first 2 m + 1 words divided by the target of 1..m
unfoldable pub quotient_of : ℕ → ℕ → List ℕ → List ℕ
quotient_of p m dividend = quotient p (row_points m) (take (m + m + 1) dividend)

-- the words of A', B' or C'
abbrev pub BlindedWhole : ℕ → List ℕ → List ℕ → ℕ → List ℕ → List ℕ → Type 0
BlindedWhole p c a matrix d f = BlindedThrough p (points_of (row_setting p) c) (λ i. whole_sum c a matrix (suc i)) d f

-- the words of A'B' − C' for the lists A', B', C' of RULES 4
pub record IsDividend (p : ℕ) (c a : List ℕ) (d : Blinders) (words : List ℕ) : Type 0 where
  pub A' : List ℕ
  pub B' : List ℕ
  pub C' : List ℕ
  pub is_a' : BlindedWhole p c a 0 (blinder_a d) A'
  pub is_b' : BlindedWhole p c a 1 (blinder_b d) B'
  pub is_c' : BlindedWhole p c a 2 (blinder_c d) C'
  pub is_difference : words ≡ dividend_of p A' B' C'

-- what the functions that make the dividend are given: z is the target, with one word more than there are rows
pub record DividendGiven (p : ℕ) (c a : List ℕ) (m : ℕ) (z : List ℕ) : Type 0 where
  pub circuit : Formed p c
  pub assignment : AssignmentFormed p c a
  pub count : m ≡ rows c
  pub is_target : z ≡ target_of (row_setting p) c

-- three lists whose A'B' − C' fits 513 words
pub record Short (a b c : List ℕ) : Type 0 where
  pub first : length a ≤ 257
  pub second : length b ≤ 257
  pub third : length c ≤ 257

-- the target z of 1..m, and m + 1 words to write
pub record TargetAndRoom (p m : ℕ) (z out : List ℕ) : Type 0 where
  pub few : m ≤ 256
  pub is_target : z ≡ target p (row_points m)
  pub room : length out ≡ m + 1
