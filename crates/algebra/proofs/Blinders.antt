-- Demand 3's bijection, through any list of query points: at distinct points where the target is not 0, exactly one blinder of as
-- many words makes A' take given values there. It is the list through (v − A) / Z at those points. RULES 5.
use mathlib.Core.Path.{◌≡◌}
use mathlib.Core.List.{List}
use Prim.Native.Nat.{ℕ, ◌+◌, ◌*◌, ◌<◌}
use native.Mathlib.Decide.{dec_lt}
use native.Mathlib.Omega.{arith}
use lib.ListN.{length, get_or}
use Rattle.algebra.specs.Congruence.{◌≈⟨◌⟩◌}
use Rattle.algebra.specs.Prime.{Prime}
use Rattle.algebra.specs.Polynomial.{value}
use Rattle.algebra.specs.Points.{Distinct, Through, target}
use Rattle.algebra.specs.Blinding.{Blinds, blinded}
use Rattle.algebra.proofs.Congruence.{≈_refl, ≈_sym, ≈_trans, ≈-plus, ≈-times, by}
use Rattle.algebra.proofs.Inverse.{solve, cancel}
use Rattle.algebra.proofs.Polynomial.{value-sum, value-product}
use Rattle.algebra.proofs.Interpolation.{interpolation, interpolation_unique}

-- A' at a point
pub blinded-value : (p : ℕ) (xs f d : List ℕ) (s : ℕ) → value (blinded p xs f d) s ≡ value f s + value d s * value (target p xs) s
blinded-value p xs f d s = simp (value-sum, value-product)

module _ {p : ℕ} (prime : Prime p) (xs ss : List ℕ) (distinct : Distinct p ss)
    (off : (i : ℕ) → i < length ss → value (target p xs) (get_or ss i 0) ≈⟨ p ⟩ 0 → ⊥) (f : List ℕ) (v : ℕ → ℕ) where
  abbrev z : ℕ → ℕ
  z i = value (target p xs) (get_or ss i 0)

  -- what the blinder takes at query point i
  taken : ℕ → ℕ
  taken i = elim (dec_lt i (length ss)) [ yes l ↦ (solve prime (z i) (off i l) (value f (get_or ss i 0)) (v i)).0 | no l ↦ 0 ]

  taken_solves : (i : ℕ) → i < length ss → value f (get_or ss i 0) + taken i * z i ≈⟨ p ⟩ v i
  unfolding taken
  taken_solves i l = elim (dec_lt i (length ss)) as (λ d. value f (get_or ss i 0) + elim d as (λ d. ℕ) [
    | yes l ↦ (solve prime (z i) (off i l) (value f (get_or ss i 0)) (v i)).0
    | no l ↦ 0
  ] * z i ≈⟨ p ⟩ v i) [
    | yes k ↦ (solve prime (z i) (off i k) (value f (get_or ss i 0)) (v i)).2
    | no k ↦ absurd (k l)
  ]

  pub blinder_exists : (d : List ℕ) × Blinds p xs ss f v d
  blinder_exists =
      let (d, through) = interpolation prime ss distinct taken in (
        d,
        record {
          size = through.size;
          words = through.words;
          takes = λ i l. rw (blinded-value p xs f d (get_or ss i 0))
              (≈_trans (≈-plus (≈_refl p (value f (get_or ss i 0))) (by (≈-times (z i) (through.takes i l)) (omega arith))) (taken_solves i l));
        },
      )

  pub blinder_unique : {d e : List ℕ} → Blinds p xs ss f v d → Blinds p xs ss f v e → d ≡ e
  blinder_unique {d} {e} h k =
      let own : Through p ss (λ i. value e (get_or ss i 0)) e =
      record { size = k.size; words = k.words; takes = λ i l. ≈_refl p (value e (get_or ss i 0)) } in
      let other : Through p ss (λ i. value e (get_or ss i 0)) d = record {
        size = h.size;
        words = h.words;
        takes = λ i l.
            let s = get_or ss i 0 in
            let one = rw (blinded-value p xs f d s) at (h.takes i l) in
            let two = rw (blinded-value p xs f e s) at (k.takes i l) in
            cancel prime (value (target p xs) s) (off i l) (by (≈-plus one (≈_sym two)) (omega arith));
      } in
      interpolation_unique prime distinct other own
