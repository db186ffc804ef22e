-- A room of which the front part was lent and is back.
use mathlib.Core.List.{List, ◌++◌}
use mathlib.Core.Path.{◌≡◌, sym, ◌∙◌, ap}
use Prim.Native.Nat.{ℕ, ◌≤◌}
use native.Mathlib.Omega.{arith}
use lib.ListN.{length, take, drop, length-replicate}
use lib.Seq.{length-take-le, length_front, take_at}
use Rattle.slices.specs.Zeros.{zeros}

pub length-zeros : (n : ℕ) → length (zeros n) ≡ n
unfolding zeros
length-zeros n = length-replicate {A = ℕ} n 0

-- the length of the front part that is lent, as `grind` takes it
pub cut : (m : ℕ) (room : List ℕ) → m ≤ length room → length (take m room) ≡ m
cut m room fits = length-take-le m room fits

-- the first m words of a room can be lent
pub record Front (m : ℕ) (room : List ℕ) : Type 0 where
  pub fits : m ≤ length room
  pub size : m ≡ length (take m room)

-- and once they are back as `new`, they can be read
pub record Back (m : ℕ) (room new : List ℕ) : Type 0 where
  pub fits : m ≤ length (new ++ drop m room)
  pub size : m ≡ length (take m (new ++ drop m room))
  pub words : take m (new ++ drop m room) ≡ new

pub front : (m n : ℕ) {room : List ℕ} → m ≤ n → room ≡ zeros n → Front m room
front m n {room} few is-room =
    let fits : m ≤ length room = omega (arith, ap length is-room, length-zeros n) in
    record { fits = fits; size = sym (length-take-le m room fits) }

pub back : {m : ℕ} {room : List ℕ} (new : List ℕ) → Front m room → length new ≡ length (take m room) → Back m room new
back {m} {room} new lent kept =
    let fits : m ≤ length (new ++ drop m room) = omega (arith, length_front room new m kept, lent.fits) in
    record {
      fits = fits;
      size = sym (length-take-le m (new ++ drop m room) fits);
      words = take_at new (drop m room) m (kept ∙ sym lent.size);
    }
