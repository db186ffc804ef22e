-- How a function decides a statement, and how a call that goes by it meets the contract of a check.
-- RULES 5.
use mathlib.Core.Bool.{Bool, true, false}
use mathlib.Core.Path.{◌≡◌, refl, sym, ◌∙◌}
use Prim.Native.Nat.{ℕ}
use native.Mathlib.Nat.{pos_of_ne-zero}
use borrow.Author.Tests.{eq-eqb, eqb-true}
use lib.Dec.{eqb}
use Rattle.outcome.specs.declared.Outcome.{Outcome}
use Rattle.outcome.specs.Verdict.{Refused, require}
use Rattle.outcome.proofs.Verdict.{not_both, is_accepted, apart, passes, fails}
use Rattle.qap.specs.Calls.{Judged}
use Rattle.refusals.specs.Decides.{Decides}

-- two numbers compared, where the statement says that they are equal
pub decides_equal : {Equal : Type 0} (x y : ℕ) → (x ≡ y → Equal) → (Equal → x ≡ y) → Decides Equal (eqb x y)
decides_equal x y to back = record {
  when_true = λ h. to (eqb-true x y h);
  when_false = λ h e. apart (sym (eq-eqb x y (back e)) ∙ h);
}

-- the same answer for a statement that is true exactly where the other is
pub decides-other : {Equal Other : Type 0} {x : Bool} → (Equal → Other) → (Other → Equal) → Decides Equal x → Decides Other x
decides-other to back d = record { when_true = λ h. to (d.when_true h); when_false = λ h k. d.when_false h (back k) }

-- d is what the verdict's function gave back
module _ {verdict d : Outcome} (Equal : Type 0) (e : d ≡ verdict) where
  pub judged-refused : (d.number ≡ 0 → ⊥) → Judged verdict Equal d
  judged-refused h =
      let refused : Refused verdict = rw (← e) (record { is_positive = pos_of_ne-zero h }) in
      record { refused = λ r. e; accepts = λ a k. absurd (not_both a refused); rejects = λ a k. absurd (not_both a refused) }

  pub judged-accepted : d.number ≡ 0 → (x : Bool) → Decides Equal x → {o : Outcome} → o ≡ require x 13 0 → Judged verdict Equal o
  judged-accepted h true decided made = record {
    refused = λ r. absurd (not_both (is_accepted e h) r);
    accepts = λ a k. made ∙ passes 13 0 refl;
    rejects = λ a unequal. absurd (unequal (decided.when_true refl));
  }
  judged-accepted h false decided made = record {
    refused = λ r. absurd (not_both (is_accepted e h) r);
    accepts = λ a k. absurd (decided.when_false refl k);
    rejects = λ a unequal. made ∙ fails 13 0 refl;
  }
