-- Parts' values and the blinders' multiples of the target's, as words, are the values with their blinders (RULES 5).
use mathlib.Core.Path.{◌≡◌, refl, ◌∙◌}
use mathlib.Core.List.{List, [], ◌∷◌}
use Prim.Native.Nat.{ℕ, ◌+◌, ◌*◌, ◌%◌}
use lib.ListN.{length, get_or}
use Rattle.algebra.specs.Polynomial.{value}
use Rattle.algebra.specs.Combination.{total}
use Rattle.algebra.proofs.Polynomial.{value-one}
use Rattle.algebra.proofs.Congruence.{≈-plus, ≈-times, ≈-reduced}
use Rattle.algebra.specs.Prime.{FieldPrime}
use Rattle.basis.specs.BasisAt.{BasisAt}
use Rattle.circuit.specs.Circuit.{rows, columns}
use Rattle.circuit.specs.WellFormed.{Formed}
use Rattle.rows.specs.Rows.{row_sums}
use Rattle.qap.specs.Polynomials.{target_of}
use Rattle.qap.specs.Setting.{row_setting}
use Rattle.qap.specs.declared.Blinders.{Blinders}
use Rattle.evaluation.specs.declared.ThreeValues.{ThreeValues}
use Rattle.evaluation.specs.Values.{PartAt, BlindedAt, ThreeAt, WithBlinders}
use Rattle.evaluation.proofs.PartValues.{part_at}

module _ {p : ℕ} (field : FieldPrime p) where
  -- a part's value and the target's, as words
  pub blinded_at : {c a basis : List ℕ} (matrix : ℕ) {from first last : ℕ} (d s z v r : ℕ) → first ≡ from → last ≡ columns c → BasisAt p (rows c) s basis z →
      PartAt p c a matrix first last s v → r ≡ (v + d * z) % p → BlindedAt p c a matrix from (d ∷ []) s r
  blinded_at {c} {a} matrix d s z v r begins ends at part made f is-part =
      let one = part f (rw (begins, ends) is-part) in
      made ∙ rw (one, at.target_at, value-one)
      (≈-plus (≈-reduced p (value f s)) (≈-times d (≈-reduced p (value (target_of (row_setting p) c) s)))).same

  -- the same over all columns, from row sums that are at hand
  pub whole_at : {c a sums basis : List ℕ} (matrix d s z v r : ℕ) → Formed p c → BasisAt p (rows c) s basis z → sums ≡ row_sums p c a matrix 0 (columns c) →
      v ≡ total (λ i. get_or sums i 0 * get_or basis i 0) (length sums) % p → r ≡ (v + d * z) % p → BlindedAt p c a matrix 0 (d ∷ []) s r
  whole_at {c} {a} {sums} {basis} matrix d s z v r formed at made dot blinded =
      blinded_at matrix d s z v r refl refl at (part_at field c a matrix 0 (columns c) formed sums basis made dot s at.values) blinded

  -- three parts, each with its blinder
  pub three_at : {c a basis : List ℕ} {from s z : ℕ} → BasisAt p (rows c) s basis z → (d : Blinders) {v r : ThreeValues} →
      PartAt p c a 0 from (columns c) s v.first → PartAt p c a 1 from (columns c) s v.second →
      PartAt p c a 2 from (columns c) s v.third → WithBlinders p v d z r → ThreeAt p c a from d s r
  three_at {s = s} {z = z} at d {v} {r} A B C made = record {
    first = blinded_at 0 d.first s z v.first r.first refl refl at A made.first;
    second = blinded_at 1 d.second s z v.second r.second refl refl at B made.second;
    third = blinded_at 2 d.third s z v.third r.third refl refl at C made.third;
  }
