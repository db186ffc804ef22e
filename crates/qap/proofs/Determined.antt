-- Every contract of specs/Calls.antt determines its call's result: any two that it admits are equal.
-- RULES 10.
use mathlib.Core.Path.{◌≡◌, sym, ◌∙◌, ap}
use mathlib.Core.List.{List}
use mathlib.Core.Logic.{⊎_elim}
use Prim.Native.Nat.{ℕ, ◌+◌, ◌*◌, ◌%◌}
use native.Mathlib.Decide.{ℕ_discrete}
use Rattle.outcome.specs.declared.Outcome.{Outcome}
use Rattle.outcome.specs.Verdict.{Accepted}
use Rattle.outcome.proofs.Verdict.{accepted_or_refused}
use Rattle.algebra.specs.Polynomial.{value}
use Rattle.circuit.specs.WellFormed.{Formed}
use Rattle.qap.specs.Setting.{Setting, Sound}
use Rattle.qap.specs.Polynomials.{PrivatePart, target_of, blinder_a, blinder_b, blinder_c}
use Rattle.qap.specs.Answers.{IsAnswers}
use Rattle.qap.specs.Calls.{Filled, Judged}
use Rattle.qap.specs.declared.Blinders.{Blinders}
use Rattle.qap.specs.declared.FourAnswers.{FourAnswers}
use Rattle.qap.proofs.Parts.{part_unique}
use Rattle.qap.proofs.Quotients.{quotient_unique}

-- a buffer: where the right words are the only right ones, the call's are
pub filled-once : {verdict : Outcome} {Right : List ℕ → Type 0} {old : List ℕ} →
    (Accepted verdict → (f g : List ℕ) → Right f → Right g → f ≡ g) →
    {new new' : List ℕ} {o o' : Outcome} → Filled verdict Right old new o → Filled verdict Right old new' o' → (o ≡ o') × (new ≡ new')
filled-once {verdict} only {new} {new'} s t = (
  s.number_and_place ∙ sym t.number_and_place,
  ⊎_elim (λ h. only h new new' (s.done h) (t.done h)) (λ h. s.kept h ∙ sym (t.kept h)) (accepted_or_refused verdict),
)

-- numbers that cannot be unequal are equal
pub stable : (m n : ℕ) → ((m ≡ n → ⊥) → ⊥) → m ≡ n
stable m n h = elim (ℕ_discrete m n) [ yes e ↦ e | no e ↦ absurd (h e) ]

-- a check: whether the equality holds need not be decided to see that two results agree
pub judged-once : {verdict : Outcome} {Equal : Type 0} {o o' : Outcome} → Judged verdict Equal o → Judged verdict Equal o' → o ≡ o'
judged-once {verdict} {Equal} {o} {o'} s t = ⊎_elim
    (λ h.
    let both : (o ≡ o' → ⊥) → ⊥ = λ differ.
    let false-equal : Equal → ⊥ = λ e. differ (s.accepts h e ∙ sym (t.accepts h e)) in
    differ (s.rejects h false-equal ∙ sym (t.rejects h false-equal)) in
    let number = stable o.number o'.number (λ k. both (λ e. k (ap (λ (x : Outcome). x.number) e))) in
    let place = stable o.place o'.place (λ k. both (λ e. k (ap (λ (x : Outcome). x.place) e))) in
    λ i. record { number = number i; place = place i })
    (λ h. s.refused h ∙ sym (t.refused h)) (accepted_or_refused verdict)

module _ {S : Setting} (sound : Sound S) {c : List ℕ} (formed : Formed S.p c) (a : List ℕ) (d : Blinders) (s : ℕ) where
  -- one of the first three answers
  once : {matrix : ℕ} {f g : List ℕ} {r r' : ℕ} (k : ℕ) → PrivatePart S c a matrix f → PrivatePart S c a matrix g →
      r ≡ (value f s + k * value (target_of S c) s) % S.p → r' ≡ (value g s + k * value (target_of S c) s) % S.p → r ≡ r'
  once {matrix} k rf rg e e' =
      let same = part_unique sound formed rf rg in
      e ∙ rw same (sym e')

  pub answers_unique : {r r' : FourAnswers} → IsAnswers S c a d s r → IsAnswers S c a d s r' → r ≡ r'
  answers_unique {r} {r'} h k =
      let one = once (value (blinder_a d) s) h.private_a k.private_a h.first k.first in
      let two = once (value (blinder_b d) s) h.private_b k.private_b h.second k.second in
      let three = once (value (blinder_c d) s) h.private_c k.private_c h.third k.third in
      let same = quotient_unique sound formed a d h.quotient_h k.quotient_h in
      let four : r.fourth ≡ r'.fourth = h.fourth ∙ (rw same (sym k.fourth)) in
      λ i. record { first = one i; second = two i; third = three i; fourth = four i }
