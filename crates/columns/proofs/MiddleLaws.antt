-- Words of which a part in the middle was lent and is back.
use mathlib.Core.List.{List, ◌++◌}
use mathlib.Core.Path.{◌≡◌, sym, ◌∙◌, ap}
use Prim.Native.Nat.{ℕ, ◌+◌, ◌-◌, ◌≤◌}
use native.Mathlib.Omega.{arith}
use borrow.Rule.Slice.PartMut.{put_mid, same_len_mid, mid_len}
use lib.ListN.{length, take, drop, length-drop, take-append-drop}
use lib.Seq.{length-take-le, take_at, drop_at, take-append-le, drop-append-le}

-- what lies before the middle part is kept

in_front : (f rest : List ℕ) (at m : ℕ) → at + m ≤ length f → take m (drop at (f ++ rest)) ≡ take m (drop at f)
in_front f rest at m h =
    rw (drop-append-le at f rest (omega arith))
    (take-append-le m (drop at f) rest (omega (arith, length-drop at f)))

module _ (a m : ℕ) (xs ys : List ℕ) (fits : a + m ≤ length xs) (size : length ys ≡ m) where
  pub middle_size : length (put_mid a (a + m - a) xs ys) ≡ length xs
  middle_size = same_len_mid a (a + m - a) xs ys (omega (arith, mid_len a (a + m) xs fits))

  pub middle_there : take m (drop a (put_mid a (a + m - a) xs ys)) ≡ ys
  middle_there =
      rw (drop_at (take a xs) (ys ++ drop (a + m - a) (drop a xs)) a (length-take-le a xs (omega arith)))
      (take_at ys (drop (a + m - a) (drop a xs)) m size)

  pub before_kept : (at : ℕ) → at + m ≤ a → take m (drop at (put_mid a (a + m - a) xs ys)) ≡ take m (drop at xs)
  before_kept at h =
      let room : at + m ≤ length (take a xs) = omega (arith, length-take-le a xs (omega arith)) in
      in_front (take a xs) (ys ++ drop (a + m - a) (drop a xs)) at m room
      ∙ sym (in_front (take a xs) (drop a xs) at m room)
      ∙ ap (λ (l : List ℕ). take m (drop at l)) (take-append-drop a xs)
