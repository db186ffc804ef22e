-- Demand 2 over the definitions: the quotient's formula, and its last words with blinders 0. RULES 4.
use mathlib.Core.Path.{◌≡◌, refl}
use mathlib.Core.List.{List, []}
use Prim.Native.Nat.{ℕ, zero, suc, ◌<◌, ◌≤◌}
use lib.Dec.{lit<}
use lib.ListN.{length, get_or}
use Rattle.algebra.specs.Congruence.{◌≈⟨◌⟩◌}
use Rattle.algebra.specs.Polynomial.{◌≋⟨◌⟩◌}
use Rattle.algebra.specs.Blinding.{PlainQuotient, blinded_sum}
use Rattle.algebra.proofs.Congruence.{≈_refl}
use Rattle.algebra.proofs.Blinding.{plain_exists, blinded-formula, blinded-holds, past-zero}
use Rattle.circuit.specs.WellFormed.{Formed}
use Rattle.qap.specs.Setting.{Setting, Sound, points_of}
use Rattle.qap.specs.Polynomials.{blinder_a, blinder_b, blinder_c, IsQuotient}
use Rattle.qap.specs.declared.Blinders.{Blinders}
use Rattle.qap.proofs.Settings.{prime, p_positive, distinct-points}

zero_word : (p : ℕ) → (d : Blinders) → d.first ≡ 0 → blinder_a d ≋⟨ p ⟩ []
zero_word p d e = record { coefficient = at }
  where
    at : (k : ℕ) → get_or (blinder_a d) k 0 ≈⟨ p ⟩ get_or [] k 0
    at zero = rw e (≈_refl p 0)
    at (suc k) = ≈_refl p 0

module _ {S : Setting} (sound : Sound S) {c : List ℕ} (formed : Formed S.p c) {a : List ℕ} where
  -- the plain quotient H is there, and H' = H + d1 B + d2 A + d1 d2 Z − d3
  pub quotient_formula : {d : Blinders} {h : List ℕ} (q : IsQuotient S c a d h) →
      (plain : List ℕ) × PlainQuotient S.p (points_of S c) q.A q.B q.C plain ×
      (h ≋⟨ S.p ⟩ blinded_sum S.p (points_of S c) q.A q.B (blinder_a d) (blinder_b d) (blinder_c d) plain)
  quotient_formula {d} q =
      let pos = p_positive sound in
      let holds = blinded-holds pos (points_of S c) q.A q.B q.C (blinder_a d) (blinder_b d) (blinder_c d) q.quotient.divides in
      let (plain, is_plain) = plain_exists (prime sound) (points_of S c) q.A q.B q.C (distinct-points sound formed)
      q.whole_a.size q.whole_b.size q.whole_c.size holds in
      (plain, is_plain, blinded-formula pos (points_of S c) q.A q.B q.C (blinder_a d) (blinder_b d) (blinder_c d) is_plain q.quotient)

  -- with blinders 0 the words past the plain quotient's are 0
  pub quotient-unblinded : {h : List ℕ} → IsQuotient S c a (record { first = 0; second = 0; third = 0 }) h →
      (k : ℕ) → length (points_of S c) ≤ suc k → k < length h → get_or h k 0 ≡ 0
  quotient-unblinded q =
      let none : Blinders = record { first = 0; second = 0; third = 0 } in
      let zero-list = zero_word S.p none refl in
      past-zero (prime sound) (points_of S c) q.A q.B q.C (distinct-points sound formed) q.whole_a.size q.whole_b.size q.whole_c.size
      (blinder_a none) (blinder_b none) (blinder_c none) (lit< tt) refl refl zero-list zero-list zero-list q.quotient
