-- The blinded polynomials and their quotient.
-- RULES 4: A' = A + d1 Z, B' = B + d2 Z, C' = C + d3 Z; the quotient H' is the list of exactly
-- as many words as division leaves with A'B' − C' = Z H'. Nothing is subtracted here: A'B' = C' + Z H'.
use Rattle.std.specs.Prelude.{◌≡◌, List, ℕ, ◌+◌, ◌*◌, ◌-◌, ◌<◌, length, get_or}
use Rattle.algebra.specs.Congruence.{◌≈⟨◌⟩◌}
use Rattle.algebra.specs.Polynomial.{Each, Words, value, sum, multiple, product, ◌≋⟨◌⟩◌}
use Rattle.algebra.specs.Points.{target}

-- A B − C is 0 at all points
pub record Holds (p : ℕ) (xs a b c : List ℕ) : Type 0 where
  pub at_each : Each (λ x. value a x * value b x ≈⟨ p ⟩ value c x) xs

-- A B − C = Z H, as polynomials
pub record Divides (p : ℕ) (xs a b c h : List ℕ) : Type 0 where
  pub equal : product a b ≋⟨ p ⟩ sum c (product (target p xs) h)

-- the plain quotient H: one word less than there are points
pub record PlainQuotient (p : ℕ) (xs a b c h : List ℕ) : Type 0 where
  pub size : length h ≡ length xs - 1
  pub words : Words p h
  pub divides : Divides p xs a b c h

-- A + d Z; the blinder d is a polynomial
abbrev pub blinded : ℕ → List ℕ → List ℕ → List ℕ → List ℕ
blinded p xs a d = sum a (product d (target p xs))

-- words of the product A'B' of m points and blinders of k words, and those that are left of it when it is divided by Z
abbrev pub product_size : ℕ → ℕ → ℕ
product_size m k = 2 * (m + k) - 1

abbrev pub quotient_size : ℕ → ℕ → ℕ
quotient_size m k = m + 2 * k - 1

-- the quotient H': with blinders of one word, one word more than there are points
pub record BlindedQuotient (p : ℕ) (xs a b c d1 d2 d3 h : List ℕ) : Type 0 where
  pub size : length h ≡ quotient_size (length xs) (length d1)
  pub words : Words p h
  pub divides : Divides p xs (blinded p xs a d1) (blinded p xs b d2) (blinded p xs c d3) h

-- H + d1 B + d2 A + d1 d2 Z − d3
abbrev pub blinded_sum : ℕ → List ℕ → List ℕ → List ℕ → List ℕ → List ℕ → List ℕ → List ℕ → List ℕ
blinded_sum p xs a b d1 d2 d3 h =
    sum h (sum (product d1 b) (sum (product d2 a) (sum (product (product d1 d2) (target p xs)) (multiple (p - 1) d3))))

-- under the blinder d, of as many words as there are query points, A' takes the value v i at query point number i
pub record Blinds (p : ℕ) (xs ss f : List ℕ) (v : ℕ → ℕ) (d : List ℕ) : Type 0 where
  pub size : length d ≡ length ss
  pub words : Words p d
  pub takes : (i : ℕ) → i < length ss → value (blinded p xs f d) (get_or ss i 0) ≈⟨ p ⟩ v i
