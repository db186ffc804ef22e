-- The column calls: what an accepted call was asked for, and that their contracts determine the result. A column is the one
-- list through its coefficients; all columns are so place by place. RULES 4.
use mathlib.Core.List.{List, []}
use mathlib.Core.Path.{◌≡◌, sym, ◌∙◌}
use Prim.Native.Nat.{ℕ, zero, suc, ◌+◌, ◌*◌, ◌-◌, ◌≤◌, ◌<◌}
use native.Mathlib.Omega.{arith}
use borrow.Author.Tests.{leb-true}
use lib.Dec.{lit<}
use lib.ListN.{length, take, drop, length-drop, take-append-drop}
use lib.Seq.{take_all, drop-drop}
use Rattle.outcome.specs.declared.Outcome.{Outcome}
use Rattle.outcome.specs.Verdict.{Accepted, Within}
use Rattle.outcome.proofs.Verdict.{accepted-parts, taken, true_within}
use Rattle.algebra.proofs.Interpolation.{interpolation_unique}
use Rattle.circuit.specs.Circuit.{columns}
use Rattle.circuit.specs.Reader.{circuit_verdict}
use Rattle.circuit.proofs.Formed.{circuit-formed}
use Rattle.circuit.specs.WellFormed.{Formed}
use Rattle.qap.specs.Setting.{Setting, Sound, points_of}
use Rattle.qap.specs.Refusals.{column_verdict, columns_verdict}
use Rattle.qap.specs.Calls.{AllColumns, ColumnCall, ColumnsCall}
use Rattle.qap.proofs.Settings.{exact-length, prime, distinct-points}
use Rattle.qap.proofs.Determined.{filled-once}

pub record ColumnAsked (S : Setting) (c : List ℕ) (matrix j size : ℕ) : Type 0 where
  pub circuit : Accepted (circuit_verdict S.p c)
  pub of_three : matrix ≤ 2
  pub among : Within 1 j (columns c)
  pub exact : size ≡ length (points_of S c)

pub column_asked : (S : Setting) (c : List ℕ) (matrix j size : ℕ) → Accepted (column_verdict S c matrix j size) → ColumnAsked S c matrix j size
unfolding column_verdict
column_asked S c matrix j size h =
    let parts = accepted-parts h in
    let matrices = taken _ _ _ (lit< tt) parts.1 in
    let number = taken _ _ _ (lit< tt) matrices.1 in
    record {
      circuit = parts.0;
      of_three = leb-true matrix 2 matrices.0;
      among = true_within 1 j (columns c) number.0;
      exact = exact-length size (length (points_of S c)) number.1;
    }

pub record ColumnsAsked (S : Setting) (c : List ℕ) (matrix size : ℕ) : Type 0 where
  pub circuit : Accepted (circuit_verdict S.p c)
  pub of_three : matrix ≤ 2
  pub exact : size ≡ columns c * length (points_of S c)

pub columns_asked : (S : Setting) (c : List ℕ) (matrix size : ℕ) → Accepted (columns_verdict S c matrix size) → ColumnsAsked S c matrix size
unfolding columns_verdict
columns_asked S c matrix size h =
    let parts = accepted-parts h in
    let matrices = taken _ _ _ (lit< tt) parts.1 in
    record {
      circuit = parts.0;
      of_three = leb-true matrix 2 matrices.0;
      exact = exact-length size (columns c * length (points_of S c)) matrices.1;
    }

-- lists of n places of m words each are equal where they are at each place
places_equal : (m n : ℕ) (f g : List ℕ) → length f ≡ n * m → length g ≡ n * m →
    ((t : ℕ) → t < n → take m (drop (t * m) f) ≡ take m (drop (t * m) g)) → f ≡ g
places_equal m zero f g ef eg h = length-zero f ef ∙ sym (length-zero g eg)
  where
    length-zero : (l : List ℕ) → length l ≡ 0 * m → l ≡ []
    length-zero l e = sym (take_all 0 l (omega arith))
places_equal m (suc n) f g ef eg h =
    let none : 0 * m ≡ 0 = omega arith in
    let first : take m f ≡ take m g = rw none at (h 0 (omega arith)) in
    let rest = places_equal m n (drop m f) (drop m g) (omega (arith, length-drop m f)) (omega (arith, length-drop m g))
    (λ t l. rw (drop-drop (t * m) m f, drop-drop (t * m) m g, after t) (h (suc t) (omega arith))) in
    sym (take-append-drop m f) ∙ rw (first, rest) (take-append-drop m g)
  where
    after : (t : ℕ) → m + t * m ≡ suc t * m
    after t = omega arith

module _ {S : Setting} (sound : Sound S) (c : List ℕ) (matrix : ℕ) where
  pub column_determined : (j : ℕ) {old new new' : List ℕ} {o o' : Outcome} →
      ColumnCall S c matrix j old new o → ColumnCall S c matrix j old new' o' → (o ≡ o') × (new ≡ new')
  column_determined j {old} = filled-once
      (λ h f g. interpolation_unique (prime sound) (distinct-points sound (circuit-formed c (column_asked S c matrix j (length old) h).circuit).formed))

  columns_unique : Formed S.p c → {f g : List ℕ} → AllColumns S c matrix f → AllColumns S c matrix g → f ≡ g
  columns_unique formed {f} {g} s t = places_equal (length (points_of S c)) (columns c) f g s.size t.size
      (λ k l.
      let place : suc k - 1 ≡ k = omega arith in
      let own = interpolation_unique (prime sound) (distinct-points sound formed)
      (s.column (suc k) (omega arith) (omega arith)) (t.column (suc k) (omega arith) (omega arith)) in
      rw place at own)

  pub columns_determined : {old new new' : List ℕ} {o o' : Outcome} →
      ColumnsCall S c matrix old new o → ColumnsCall S c matrix old new' o' → (o ≡ o') × (new ≡ new')
  columns_determined {old} = filled-once (λ h f g. columns_unique (circuit-formed c (columns_asked S c matrix (length old) h).circuit).formed)
