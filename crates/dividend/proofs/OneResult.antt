-- The contracts of `dividend`, `with_target` and `take_quotient` admit one result each: any two are equal. RULES 10.
use mathlib.Core.Path.{◌≡◌, sym, ◌∙◌}
use mathlib.Core.List.{List}
use Prim.Native.Nat.{ℕ}
use Rattle.algebra.specs.Points.{Distinct}
use Rattle.algebra.proofs.Interpolation.{interpolation_unique}
use Rattle.algebra.proofs.Same.{≋_sym, ≋_trans, words-equal}
use Rattle.algebra.specs.Prime.{FieldPrime}
use Rattle.circuit.specs.WellFormed.{Formed}
use Rattle.qap.proofs.Settings.{distinct-points}
use Rattle.qap.proofs.Standard.{row-sound}
use Rattle.qap.specs.declared.Blinders.{Blinders}
use Rattle.dividend.specs.Blinded.{BlindedThrough}
use Rattle.dividend.specs.Dividend.{IsDividend, quotient_of}

module _ {p : ℕ} (field : FieldPrime p) where
  -- A' is the only list that it is
  blinded_unique : {xs : List ℕ} → Distinct p xs → {y : ℕ → ℕ} {d f g : List ℕ} → BlindedThrough p xs y d f → BlindedThrough p xs y d g → f ≡ g
  blinded_unique distinct b b' =
      let plain = interpolation_unique field.prime distinct b.through b'.through in
      words-equal (b.size ∙ sym b'.size) b.words b'.words (≋_trans b.same (rw plain (≋_sym b'.same)))

  pub dividend_determined : (c a : List ℕ) → Formed p c → (d : Blinders) {words words' : List ℕ} →
      IsDividend p c a d words → IsDividend p c a d words' → words ≡ words'
  dividend_determined c a formed d r r' =
      let distinct = distinct-points (row-sound field) formed in
      let first = blinded_unique distinct r.is_a' r'.is_a' in
      let second = blinded_unique distinct r.is_b' r'.is_b' in
      let third = blinded_unique distinct r.is_c' r'.is_c' in
      r.is_difference ∙ rw (first, second, third) (sym r'.is_difference)

  pub take_quotient_determined : (m : ℕ) (dividend : List ℕ) {out out' : List ℕ} →
      out ≡ quotient_of p m dividend → out' ≡ quotient_of p m dividend → out ≡ out'
  take_quotient_determined m dividend e e' = e ∙ sym e'
