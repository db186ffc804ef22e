-- Columns written one after the other: the list through a column's coefficients is the column; one more column written in its
-- place leaves those before it; and so many columns are what the two column calls promise. RULES 4.
use mathlib.Core.List.{List}
use mathlib.Core.Logic.{⊎_elim}
use mathlib.Core.Path.{◌≡◌, ◌∙◌}
use Prim.Native.Nat.{ℕ, ◌+◌, ◌*◌, ◌-◌, ◌≤◌, ◌<◌}
use native.Mathlib.Nat.{mul-le-mul_right, eq-or-lt_of_le}
use native.Mathlib.Omega.{arith}
use borrow.Rule.Slice.PartMut.{put_mid}
use lib.ListN.{length, get_or, take, drop}
use lib.Seq.{take_all}
use Rattle.algebra.specs.Points.{row_points, Through}
use Rattle.algebra.proofs.Consecutive.{length-row_points}
use Rattle.circuit.specs.Circuit.{rows, columns}
use Rattle.qap.specs.Setting.{row_setting}
use Rattle.columns.specs.Coefficients.{coef_column}
use Rattle.columns.proofs.CoefficientLaws.{length_coefs, coefs_at}
use Rattle.qap.specs.Polynomials.{Column}
use Rattle.qap.specs.Calls.{AllColumns}
use Rattle.qap.proofs.Standard.{count-points}
use Rattle.columns.specs.Columns.{ColumnsFrom}
use Rattle.columns.proofs.MiddleLaws.{middle_size, middle_there, before_kept}

pub through_coefs : {p : ℕ} (c : List ℕ) (matrix j : ℕ) {y f : List ℕ} → y ≡ coef_column c matrix j →
    Through p (row_points (length y)) (λ i. get_or y i 0) f → Column (row_setting p) c matrix j f
through_coefs {p} c matrix j {y} {f} e h =
    let through : Through p (row_points (rows c)) (λ i. get_or (coef_column c matrix j) i 0) f = rw (e, length_coefs c matrix j) at h in
    record {
      size = through.size;
      words = through.words;
      takes = λ i l. rw (← coefs_at c matrix j i (omega (arith, length-row_points (rows c)))) (through.takes i l);
    }

-- place number t is inside
pub place_fits : (m : ℕ) {t count : ℕ} → t < count → t * m + m ≤ count * m
place_fits m h = omega (arith, mul-le-mul_right m h)

-- the first t places of words for `count` columns are written
pub record WrittenUpTo (p : ℕ) (c : List ℕ) (matrix first count : ℕ) (f : List ℕ) (t : ℕ) : Type 0 where
  pub within : t ≤ count
  pub size : length f ≡ count * rows c
  pub column : (k : ℕ) → k < t → Column (row_setting p) c matrix (first + k) (take (rows c) (drop (k * rows c) f))

pub one_more : {p : ℕ} {c : List ℕ} {matrix first count : ℕ} {f : List ℕ} {t : ℕ} {new : List ℕ} →
    WrittenUpTo p c matrix first count f t → t < count → Column (row_setting p) c matrix (first + t) new →
    WrittenUpTo p c matrix first count (put_mid (t * rows c) (t * rows c + rows c - t * rows c) f new) (t + 1)
one_more {p} {c} {matrix} {first} {count} {f} {t} {new} h l is_column =
    let fits : t * rows c + rows c ≤ length f = omega (arith, place_fits (rows c) l, h.size) in
    let size : length new ≡ rows c = is_column.size ∙ length-row_points (rows c) in
    record {
      within = omega arith;
      size = middle_size (t * rows c) (rows c) f new fits size ∙ h.size;
      column = λ k below. ⊎_elim
          (λ (here : k ≡ t). rw (here, middle_there (t * rows c) (rows c) f new fits size) is_column)
          (λ (less : k < t). rw (before_kept (t * rows c) (rows c) f new fits size (k * rows c) (place_fits (rows c) less)) (h.column k less))
          (eq-or-lt_of_le (omega arith));
    }

pub all_columns : {p : ℕ} {c : List ℕ} {matrix : ℕ} {f : List ℕ} → ColumnsFrom p c matrix 1 (columns c) f → AllColumns (row_setting p) c matrix f
all_columns {p} {c} h = record {
  size = rw (count-points p c) h.size;
  column = λ j low high.
      let place : 1 + (j - 1) ≡ j = omega arith in
      rw (count-points p c) (rw place at (h.column (j - 1) (omega arith)));
}

pub one-column : {p : ℕ} {c : List ℕ} {matrix j : ℕ} {f : List ℕ} → ColumnsFrom p c matrix j 1 f → Column (row_setting p) c matrix j f
one-column {c = c} {j = j} {f = f} h =
    let same : j + 0 ≡ j = omega arith in
    let front : 0 * rows c ≡ 0 = omega arith in
    rw (same, front, take_all (rows c) f (omega (arith, h.size))) at (h.column 0 (omega arith))
