-- The division check's equality from words: the dividend's are those of Z times the candidate exactly where it divides.
-- RULES 5.
use mathlib.Core.Bool.{Bool}
use mathlib.Core.Path.{◌≡◌, sym, ◌∙◌}
use mathlib.Core.List.{List}
use Prim.Native.Nat.{ℕ, suc}
use native.Mathlib.Omega.{arith}
use lib.ListN.{length}
use lib.Dec.{eqb}
use lib.Pointwise.{pointwise}
use Rattle.std.proofs.lemmas.Slice.Eq.{bytes_eq-Decides}
use Rattle.outcome.proofs.Verdict.{apart}
use Rattle.outcome.specs.Verdict.{Accepted}
use Rattle.algebra.specs.Polynomial.{product, reduced}
use Rattle.algebra.specs.Prime.{FieldPrime}
use Rattle.poly.specs.Product.{padded}
use Rattle.circuit.specs.Circuit.{rows}
use Rattle.circuit.specs.WellFormed.{Formed}
use Rattle.circuit.proofs.Formed.{circuit-formed}
use Rattle.qap.specs.declared.Blinders.{Blinders}
use Rattle.qap.specs.Polynomials.{target_of}
use Rattle.qap.specs.Answers.{CandidateDivides}
use Rattle.qap.specs.Refusals.{check_division_verdict}
use Rattle.qap.proofs.Settings.{DivisionReady, division_ready}
use Rattle.qap.proofs.Standard.{quotient-words}
use Rattle.dividend.specs.Dividend.{IsDividend}
use Rattle.dividend.proofs.QuotientLaws.{candidate-words, words-candidate}
use Rattle.refusals.specs.Decides.{Decides}
use Rattle.refusals.proofs.Deciding.{decides-other}
use Rattle.qap.specs.Setting.{row_setting}

-- what `==` says of two lists of words
pub alike : {xs ys : List ℕ} {x : Bool} → x ≡ pointwise eqb xs ys → Decides (xs ≡ ys) x
alike {xs} {ys} e =
    let same = bytes_eq-Decides xs ys in
    rw e (record { when_true = same.0; when_false = λ h k. absurd (apart (sym (same.1 k) ∙ h)) })

module _ {p : ℕ} (field : FieldPrime p) (c a : List ℕ) (d : Blinders) (h : List ℕ) (accepted : Accepted (check_division_verdict (row_setting p) c a d h)) where
  ready : DivisionReady (row_setting p) c a d h
  ready = division_ready (row_setting p) c a d h accepted

  formed : Formed p c
  formed = (circuit-formed c ready.given.circuit).formed

  pub candidate-size : length h ≡ suc (rows c)
  candidate-size = omega (arith, ready.exact, quotient-words p c)

  pub division_decided : {z left right : List ℕ} {x : Bool} → z ≡ target_of (row_setting p) c → IsDividend p c a d left → right ≡ padded 513 (reduced p (product z h)) →
      Decides (left ≡ right) x → Decides (CandidateDivides (row_setting p) c a d h) x
  division_decided made dividend filled = decides-other
      (λ e. words-candidate field formed a d dividend.is_a' dividend.is_b' dividend.is_c' h candidate-size
      (sym dividend.is_difference ∙ e ∙ filled ∙ rw made))
      (λ k. dividend.is_difference ∙ candidate-words field formed a d dividend.is_a' dividend.is_b' dividend.is_c' h candidate-size k
      ∙ sym (filled ∙ rw made))
