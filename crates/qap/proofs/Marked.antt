-- The marked table: the verdicts are computed, the words pass computed tests of the definitions, and the contracts determine the rest.
-- RULES 9.
use mathlib.Core.Path.{◌≡◌, refl, sym, ◌∙◌, ap}
use mathlib.Core.List.{List, [], ◌∷◌}
use Prim.Native.Nat.{ℕ, suc}
use native.Mathlib.Omega.{arith}
use lib.Dec.{T}
use lib.ListN.{length, get_or, set}
use Rattle.outcome.specs.declared.Outcome.{Outcome}
use Rattle.outcome.specs.Verdict.{fine, outcome, require, ◌and_then◌, first_fault}
use Rattle.outcome.proofs.Verdict.{accepted-fine, not_both}
use Rattle.algebra.specs.Polynomial.{value, sum, multiple, product, reduced}
use Rattle.algebra.specs.Points.{consecutive, target, among}
use Rattle.algebra.specs.Combination.{total}
use Rattle.algebra.specs.Blinding.{blinded}
use Rattle.algebra.proofs.Interpolation.{interpolation_unique}
use Rattle.algebra.proofs.Tests.{all_words, all_words_lem, takes_all, same_polynomial, through-values, same_polynomial_lem}
use Rattle.field.specs.Field.{p}
use Rattle.circuit.specs.Circuit.{rows, section, listed, coef}
use Rattle.circuit.specs.WellFormed.{Formed}
use Rattle.circuit.proofs.Formed.{circuit-formed}
use Rattle.circuit.specs.Reader.{ranges_verdict, entry_verdict, section_verdict, counts_verdict, prefix_verdict, circuit_verdict}
use Rattle.assignment.specs.Assignment.{assigned_at, words_verdict, values_verdict, assignment_verdict}
use Rattle.rows.specs.Rows.{row_sum, row_verdict, rows_verdict}
use Rattle.qap.specs.Setting.{points_of, standard}
use Rattle.qap.specs.Polynomials.{Column, Part, Whole, target_of, blinder_a, blinder_b, blinder_c, quotient_length, IsQuotient}
use Rattle.qap.specs.Answers.{IsAnswers, CandidateDivides}
use Rattle.qap.specs.Refusals.{point_verdict, length_verdict, target_verdict, column_verdict, ready_verdict, quotient_verdict, answers_verdict, check_division_verdict}
use Rattle.qap.specs.Calls.{Filled}
use Rattle.qap.specs.Marked.{K, K1, readings, ones, blinders, answers, Writes, Refuses, Marked}
use Rattle.qap.specs.declared.Blinders.{Blinders}
use Rattle.qap.proofs.Settings.{distinct-points}
use Rattle.qap.proofs.Standard.{sound}
use Rattle.qap.proofs.Parts.{through-part}
use Rattle.qap.proofs.Quotients.{quotient_unique, candidate-quotient}
use Rattle.qap.proofs.Determined.{answers_unique}
use Rattle.qap.proofs.Filling.{filled-refused, filled-done}

-- a call whose verdict is 0 and whose right words are the only ones
writes : {Right : List ℕ → Type 0} {words : List ℕ} (verdict : ℕ → Outcome) → verdict (length words) ≡ fine → Right words →
    ((f g : List ℕ) → Right f → Right g → f ≡ g) → Writes (λ old new o. Filled (verdict (length old)) Right old new o) words
writes {Right} {words} verdict v right only = record {
  admits = λ old size. filled-done Right (sym (rw size v)) old words refl (λ accepted. right);
  no_other = λ old new o size h.
      let e : verdict (length old) ≡ fine = rw size v in
      (h.number_and_place ∙ e, only new words (h.done (rw e accepted-fine)) right);
}

refuses : {Right : List ℕ → Type 0} (verdict : ℕ → Outcome) (size number place : ℕ) → verdict size ≡ outcome (suc number) place →
    Refuses (λ old new o. Filled (verdict (length old)) Right old new o) size (suc number) place
refuses {Right} verdict size number place v = record {
  admits = λ old s. filled-refused Right (sym (rw s v)) old (λ e. omega arith);
  no_other = λ old new o s h.
      let e : verdict (length old) ≡ outcome (suc number) place = rw s v in
      (h.number_and_place ∙ e, h.kept (rw e (record { is_positive = omega arith })));
}

formed_k : Formed p K
unfolding K section first_fault require ◌and_then◌ ranges_verdict entry_verdict section_verdict counts_verdict prefix_verdict circuit_verdict
formed_k = let accepted : circuit_verdict p K ≡ fine = refl in (circuit-formed {p = p} K (rw accepted accepted-fine)).formed

formed_k1 : Formed p K1
unfolding K1 section first_fault require ◌and_then◌ ranges_verdict entry_verdict section_verdict counts_verdict prefix_verdict circuit_verdict
formed_k1 = let accepted : circuit_verdict p K1 ≡ fine = refl in (circuit-formed {p = p} K1 (rw accepted accepted-fine)).formed

-- a part of a matrix, by its values
part : {c : List ℕ} → Formed p c → (a : List ℕ) (matrix from to : ℕ) (f : List ℕ) → length f ≡ length (points_of standard c) → T (all_words p f) →
    T (takes_all p (points_of standard c) (λ i. row_sum c a matrix (suc i) from to) f) → Part standard c a matrix from to f
part {c} formed a matrix from to f size words takes =
    through-part sound formed a matrix from to
    (through-values p (points_of standard c) (λ i. row_sum c a matrix (suc i) from to) f size words takes)

column : (c : List ℕ) (matrix j : ℕ) (f : List ℕ) → length f ≡ length (points_of standard c) → T (all_words p f) →
    T (takes_all p (points_of standard c) (λ i. coef c matrix (suc i) j) f) → Column standard c matrix j f
column c matrix j f = through-values p (points_of standard c) (λ i. coef c matrix (suc i) j) f

-- the quotient of wholes A, B, C
quotient : (c a : List ℕ) (d : Blinders) (A B C h : List ℕ) → Whole standard c a 0 A → Whole standard c a 1 B → Whole standard c a 2 C → length h ≡ quotient_length standard c →
    T (all_words p h) →
    T (same_polynomial p (product (blinded p (points_of standard c) A (blinder_a d)) (blinded p (points_of standard c) B (blinder_b d)))
    (sum (blinded p (points_of standard c) C (blinder_c d)) (product (target_of standard c) h))) → IsQuotient standard c a d h
quotient c a d A B C h whole_a whole_b whole_c size words equal = record {
  A = A;
  B = B;
  C = C;
  whole_a = whole_a;
  whole_b = whole_b;
  whole_c = whole_c;
  quotient = record {
    size = size;
    words = all_words_lem p h words;
    divides = record { equal = same_polynomial_lem p _ _ equal };
  };
}

-- K with the readings: A = 6 X − 3, B = 2 X + 1, C = 36 X − 27
of_k : (d : Blinders) (h : List ℕ) → length h ≡ quotient_length standard K → T (all_words p h) →
    T (same_polynomial p (product (blinded p (points_of standard K) (2013265918 ∷ 6 ∷ []) (blinder_a d)) (blinded p (points_of standard K) (1 ∷ 2 ∷ []) (blinder_b d)))
    (sum (blinded p (points_of standard K) (2013265894 ∷ 36 ∷ []) (blinder_c d)) (product (target_of standard K) h))) → IsQuotient standard K readings d h
unfolding K readings rows section listed coef assigned_at row_sum total consecutive value
of_k d h = quotient K readings d (2013265918 ∷ 6 ∷ []) (1 ∷ 2 ∷ []) (2013265894 ∷ 36 ∷ []) h
    (part formed_k readings 0 0 4 (2013265918 ∷ 6 ∷ []) refl tt tt)
    (part formed_k readings 1 0 4 (1 ∷ 2 ∷ []) refl tt tt)
    (part formed_k readings 2 0 4 (2013265894 ∷ 36 ∷ []) refl tt tt)

right_d : IsQuotient standard K readings (blinders 0 0 0) (12 ∷ 0 ∷ 0 ∷ [])
unfolding K rows consecutive sum multiple product reduced target
right_d = of_k (blinders 0 0 0) (12 ∷ 0 ∷ 0 ∷ []) refl tt tt

right_e : IsQuotient standard K readings (blinders 1 2 3) (8 ∷ 8 ∷ 2 ∷ [])
unfolding K rows consecutive sum multiple product reduced target
right_e = of_k (blinders 1 2 3) (8 ∷ 8 ∷ 2 ∷ []) refl tt tt

right_i : IsQuotient standard K1 ones (blinders 1 1 0) (0 ∷ 1 ∷ [])
unfolding K1 ones rows section listed coef assigned_at row_sum total consecutive value sum multiple product reduced target
right_i = quotient K1 ones (blinders 1 1 0) (1 ∷ []) (0 ∷ []) (0 ∷ []) (0 ∷ 1 ∷ [])
    (part formed_k1 ones 0 0 2 (1 ∷ []) refl tt tt)
    (part formed_k1 ones 1 0 2 (0 ∷ []) refl tt tt)
    (part formed_k1 ones 2 0 2 (0 ∷ []) refl tt tt)
    refl tt tt

right_f : IsAnswers standard K readings (blinders 1 2 3) 0 (answers 2013265920 7 24 8)
unfolding K readings rows section listed coef assigned_at row_sum total consecutive value sum multiple product reduced target
right_f = record {
  A = 2013265918 ∷ 6 ∷ [];
  B = 3 ∷ 0 ∷ [];
  C = 18 ∷ 2013265912 ∷ [];
  H = 8 ∷ 8 ∷ 2 ∷ [];
  private_a = part formed_k readings 0 2 4 (2013265918 ∷ 6 ∷ []) refl tt tt;
  private_b = part formed_k readings 1 2 4 (3 ∷ 0 ∷ []) refl tt tt;
  private_c = part formed_k readings 2 2 4 (18 ∷ 2013265912 ∷ []) refl tt tt;
  quotient_h = right_e;
  first = refl;
  second = refl;
  third = refl;
  fourth = refl;
}

only-quotient : {c : List ℕ} → Formed p c → (a : List ℕ) (d : Blinders) (f g : List ℕ) → IsQuotient standard c a d f → IsQuotient standard c a d g → f ≡ g
only-quotient formed a d f g = quotient_unique sound formed a d

only-column : {c : List ℕ} → Formed p c → (matrix j : ℕ) (f g : List ℕ) → Column standard c matrix j f → Column standard c matrix j g → f ≡ g
only-column formed matrix j f g = interpolation_unique sound.field.prime (distinct-points sound formed)

-- the quotient of line e is the only one
not_e : CandidateDivides standard K readings (blinders 1 2 3) (8 ∷ 8 ∷ 3 ∷ []) → ⊥
unfolding K rows consecutive
not_e divides =
    let right = candidate-quotient sound formed_k readings (blinders 1 2 3) refl (all_words_lem p (8 ∷ 8 ∷ 3 ∷ []) tt) divides in
    let same = quotient_unique sound formed_k readings (blinders 1 2 3) right right_e in
    let last : ◌≡◌ {A = ℕ} 3 2 = ap (λ (f : List ℕ). get_or f 2 0) same in
    omega arith

pub marked : Marked
unfolding K K1 readings ones rows section listed coef assigned_at row_sum total consecutive value sum multiple product reduced target
    first_fault require ◌and_then◌ ranges_verdict entry_verdict section_verdict counts_verdict prefix_verdict circuit_verdict words_verdict values_verdict assignment_verdict row_verdict rows_verdict
    among point_verdict length_verdict target_verdict column_verdict ready_verdict quotient_verdict answers_verdict check_division_verdict
marked = record {
  a = writes (target_verdict standard 2) refl refl (λ f g s t. s ∙ sym t);
  b = writes (column_verdict standard K 0 3) refl (column K 0 3 (2 ∷ 2013265920 ∷ []) refl tt tt) (only-column formed_k 0 3);
  c = writes (column_verdict standard K 1 1) refl (column K 1 1 (2013265919 ∷ 2 ∷ []) refl tt tt) (only-column formed_k 1 1);
  d = writes (quotient_verdict standard K readings (blinders 0 0 0)) refl right_d (only-quotient formed_k readings (blinders 0 0 0));
  e = writes (quotient_verdict standard K readings (blinders 1 2 3)) refl right_e (only-quotient formed_k readings (blinders 1 2 3));
  f = record {
    admits = record { number_and_place = refl; done = λ accepted. right_f; none = λ refused. absurd (not_both accepted-fine refused) };
    no_other = λ o r h. (h.number_and_place, answers_unique sound formed_k readings (blinders 1 2 3) 0 (h.done accepted-fine) right_f);
  };
  g = refuses (quotient_verdict standard K (set readings 5 10) (blinders 1 2 3)) 3 9 1 refl;
  h = refuses (quotient_verdict standard K (set readings 2 46) (blinders 1 2 3)) 3 9 2 refl;
  i = writes (quotient_verdict standard K1 ones (blinders 1 1 0)) refl right_i (only-quotient formed_k1 ones (blinders 1 1 0));
  j = refuses (quotient_verdict standard K1 (set ones 3 2) (blinders 1 1 0)) 2 9 1 refl;
  k = record {
    admits = record {
      refused = λ refused. absurd (not_both accepted-fine refused);
      accepts = λ accepted divides. absurd (not_e divides);
      rejects = λ accepted differ. refl;
    };
    no_other = λ o h. h.rejects accepted-fine not_e;
  };
  l = refl;
  m = refl;
}
