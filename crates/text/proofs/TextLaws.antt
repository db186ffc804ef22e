-- Laws of decimals: one digit more, how many digits, and that they are the right ones; then of text that grows.
use mathlib.Core.Bool.{Bool, true, false}
use mathlib.Core.List.{List, [], ◌∷◌, ◌++◌, append_assoc}
use mathlib.Core.Path.{◌≡◌, refl, sym, ◌∙◌, ap}
use mathlib.Core.Logic.{⊎_elim}
use Prim.Native.Nat.{ℕ, zero, suc, ◌+◌, ◌-◌, ◌*◌, ◌/◌, ◌%◌, ◌^◌, ◌<◌, ◌≤◌}
use native.Mathlib.Nat.{pow-suc, eq-or-lt_of_le}
use native.Mathlib.Omega.{arith}
use lib.Dec.{ltb}
use lib.Seq.{drop-drop, get_or-append_seam, length-take-le}
use lib.ListN.{length, get_or, take, drop, length-append, get_or-append, take-append-drop}
use borrow.Author.Tests.{ltb-true, ltb-false, lt-ltb, le-ltb}
use Rattle.std.specs.Fmt.{decimal as printed}
use Rattle.std.specs.List.{flat_map}
use Rattle.std.proofs.lemmas.Fmt.{decimal_by_steps}
use Rattle.std.proofs.lemmas.List.{take_more, take_all, flat_map_more}
use Rattle.text.specs.Text.{digits, decimal, line, Kept, Appended}

digits-one : (k n : ℕ) → n < 10 → digits k n ≡ (48 + n) ∷ []
unfolding digits
digits-one zero n h = refl
digits-one (suc k) n h = rw (lt-ltb n 10 h, digits)

digits_more : (k n : ℕ) → 10 ≤ n → digits (suc k) n ≡ digits k (n / 10) ++ ((48 + n % 10) ∷ [])
unfolding digits
digits_more k n h = rw (le-ltb n 10 h, digits)

-- induction over the digits, the last one first
module _ (P : ℕ → List ℕ → Type 0)
    (one : (n : ℕ) → n < 10 → P n ((48 + n) ∷ []))
    (more : (n : ℕ) (ds : List ℕ) → 10 ≤ n → P (n / 10) ds → P n (ds ++ ((48 + n % 10) ∷ []))) where
  by_steps : (k n : ℕ) → n ≤ k → P n (digits k n)
  unfolding digits
  by_steps zero n h = one n (omega arith)
  by_steps (suc k) n h = go (ltb n 10) refl (by_steps k (n / 10))
    where
      go : (x : Bool) → ltb n 10 ≡ x → (n / 10 ≤ k → P (n / 10) (digits k (n / 10))) →
          P n (elim x [ true ↦ (48 + n) ∷ [] | false ↦ digits k (n / 10) ++ ((48 + n % 10) ∷ []) ])
      go true e next = one n (ltb-true n 10 e)
      go false e next = let many : 10 ≤ n = ltb-false n 10 e in more n _ many (next (omega arith))

  by_digits : (n : ℕ) → P n (decimal n)
  unfolding decimal
  by_digits n = by_steps n n (omega arith)

-- more divisions than needed change nothing
enough : (k n : ℕ) → n ≤ k → (j : ℕ) → n ≤ j → digits j n ≡ digits k n
enough = by_steps (λ n ds. (j : ℕ) → n ≤ j → digits j n ≡ ds) (λ n h j l. digits-one j n h) more
  where
    more : (n : ℕ) (ds : List ℕ) → 10 ≤ n → ((j : ℕ) → n / 10 ≤ j → digits j (n / 10) ≡ ds) →
        (j : ℕ) → n ≤ j → digits j n ≡ ds ++ ((48 + n % 10) ∷ [])
    more n ds h next zero l = absurd (omega arith)
    more n ds h next (suc j) l = rw (digits_more j n h, next j (omega arith))

pub decimal-one : (n : ℕ) → n < 10 → decimal n ≡ (48 + n) ∷ []
unfolding decimal
decimal-one n h = digits-one n n h

pub decimal-more : (n : ℕ) → 10 ≤ n → decimal n ≡ decimal (n / 10) ++ ((48 + n % 10) ∷ [])
unfolding decimal
decimal-more zero h = absurd (omega arith)
decimal-more (suc k) h = rw (digits_more k (suc k) h, enough (suc k / 10) (suc k / 10) (omega arith) k (omega arith))

pub size_one : (n : ℕ) → n < 10 → length (decimal n) ≡ 1
size_one n h = ap length (decimal-one n h)

pub size_more : (n : ℕ) → 10 ≤ n → length (decimal n) ≡ length (decimal (n / 10)) + 1
size_more n h = rw (decimal-more n h, length-append)

pub ruleset sizes = (size_one, size_more)

-- what the library prints of a number
pub decimal-printed : (n : ℕ) → n < 2 ^ 64 → decimal n ≡ printed n
decimal-printed = decimal_by_steps (λ n ds. decimal n ≡ ds) decimal-one (λ n ds h e. rw (decimal-more n h, e))

-- a number below 10 ^ (k + 1) has at most k + 1 digits
pub decimal-length : (n k : ℕ) → n < 10 ^ suc k → length (decimal n) ≤ suc k
decimal-length = by_digits (λ n ds. (k : ℕ) → n < 10 ^ suc k → length ds ≤ suc k) (λ n h k l. omega arith) more
  where
    more : (n : ℕ) (ds : List ℕ) → 10 ≤ n → ((k : ℕ) → n / 10 < 10 ^ suc k → length ds ≤ suc k) →
        (k : ℕ) → n < 10 ^ suc k → length (ds ++ ((48 + n % 10) ∷ [])) ≤ suc k
    more n ds h next zero l = omega arith
    more n ds h next (suc k) l = simp length-append (omega (arith, next k (omega (arith, pow-suc 10 (suc k)))))

-- a number of 64 bits
pub digits_64 : (n : ℕ) → n < 2 ^ 64 → length (decimal n) ≤ 20
digits_64 n h = decimal-length n 19 (omega arith)

-- the number that digits stand for, behind a number a read so far
pub read_back : ℕ → List ℕ → ℕ
read_back a [] = a
read_back a (d ∷ ds) = read_back (10 * a + (d - 48)) ds

read_more : (a : ℕ) (ds : List ℕ) (d : ℕ) → read_back a (ds ++ (d ∷ [])) ≡ 10 * read_back a ds + (d - 48)
unfolding read_back
read_more a [] d = refl
read_more a (e ∷ ds) d = read_more (10 * a + (e - 48)) ds d

-- reading the digits gives the number
pub decimal-read : (n : ℕ) → read_back 0 (decimal n) ≡ n
unfolding read_back
decimal-read = by_digits (λ n ds. read_back 0 ds ≡ n) (λ n h. omega arith)
    (λ n ds h next. rw (read_more 0 ds (48 + n % 10), next) (omega arith))

-- there is a first digit, and it is 0 in the decimal of 0 alone
pub decimal-first : (n : ℕ) → (0 < length (decimal n)) × (get_or (decimal n) 0 0 ≡ 48 → n ≡ 0)
decimal-first = by_digits (λ n ds. (0 < length ds) × (get_or ds 0 0 ≡ 48 → n ≡ 0))
    (λ n h. (omega arith, λ e. omega arith))
    (λ n ds h next.
    let same = get_or-append ds ((48 + n % 10) ∷ []) 0 0 next.0 in
    (simp length-append (omega arith), λ e. omega (arith, next.1 (rw same at e))))

-- a byte from 48 to 57
abbrev pub Digit : ℕ → Type 0
Digit d = (48 ≤ d) × (d ≤ 57)

-- every byte is a digit
pub decimal-digits : (n i : ℕ) → i < length (decimal n) → Digit (get_or (decimal n) i 0)
decimal-digits = by_digits (λ n ds. (i : ℕ) → i < length ds → Digit (get_or ds i 0)) one more
  where
    one : (n : ℕ) → n < 10 → (i : ℕ) → i < 1 → Digit (get_or ((48 + n) ∷ []) i 0)
    one n h zero l = omega arith
    one n h (suc i) l = absurd (omega arith)

    more : (n : ℕ) (ds : List ℕ) → 10 ≤ n → ((i : ℕ) → i < length ds → Digit (get_or ds i 0)) →
        (i : ℕ) → i < length (ds ++ ((48 + n % 10) ∷ [])) → Digit (get_or (ds ++ ((48 + n % 10) ∷ [])) i 0)
    more n ds h next i l =
        ⊎_elim (λ (e : i ≡ length ds). rw (e, get_or-append_seam ds (48 + n % 10) [] 0) (omega arith))
        (λ (k : i < length ds). rw (get_or-append ds ((48 + n % 10) ∷ []) 0 i k) (next i k))
        (eq-or-lt_of_le (omega (arith, rw length-append at l)))

-- the line `2 2013265918 1`
pub example : line (2 ∷ 2013265918 ∷ 1 ∷ []) ≡ 50 ∷ 32 ∷ 50 ∷ 48 ∷ 49 ∷ 51 ∷ 50 ∷ 54 ∷ 53 ∷ 57 ∷ 49 ∷ 56 ∷ 32 ∷ 49 ∷ 10 ∷ []
unfolding line decimal digits
example = refl

-- words with a space behind each
abbrev pub with_spaces : List ℕ → List ℕ
with_spaces ws = flat_map (λ w. decimal w ++ (32 ∷ [])) ws

pub spaces-more : (ws : List ℕ) (i : ℕ) → i < length ws → with_spaces (take i ws) ++ (decimal (get_or ws i 0) ++ (32 ∷ [])) ≡ with_spaces (take (i + 1) ws)
spaces-more ws i h = rw (take_more ws i 0 h) (flat_map_more (λ w. decimal w ++ (32 ∷ [])) [] (take i ws) (get_or ws i 0))

-- a line is the words but the last with spaces, then the last; without a word the newline alone
spaces_last : (front : List ℕ) (last : ℕ) → with_spaces front ++ (decimal last ++ (10 ∷ [])) ≡ line (front ++ (last ∷ []))
unfolding line
spaces_last [] last = refl
spaces_last (w ∷ []) last = simp append_assoc
spaces_last (w ∷ v ∷ ws) last = simp append_assoc (ap (λ x. decimal w ++ 32 ∷ x) (simp append_assoc at (spaces_last (v ∷ ws) last)))

pub line-last : (ws : List ℕ) (i m : ℕ) → m + 1 ≡ length ws → length (take m ws) ≤ i →
    with_spaces (take i (take m ws)) ++ (decimal (get_or ws m 0) ++ (10 ∷ [])) ≡ line ws
line-last ws i m whole h =
    rw (take_all i (take m ws) h, spaces_last (take m ws) (get_or ws m 0), ← take_more ws m 0 (omega arith), take_all (m + 1) ws (omega arith))

pub line-none : (ws : List ℕ) → length ws < 1 → 10 ∷ [] ≡ line ws
unfolding line
line-none [] h = refl
line-none (w ∷ ws) h = absurd (omega arith)

-- what is kept from `end` on, and then from a later end on, is kept from there
pub still_kept : {before text after : List ℕ} {end end2 : ℕ} → end ≤ end2 → Kept before text end → Kept text after end2 → Kept before after end2
still_kept {before} {text} {after} {end} {end2} h first second =
    let further : end + (end2 - end) ≡ end2 = omega arith in
    let later : (x : List ℕ) → drop end2 x ≡ drop (end2 - end) (drop end x) = λ x. rw (drop-drop, further) in
    record { same = second.same ∙ later text ∙ rw first.same (sym (later before)) }

module _ {before text : List ℕ} {at room end : ℕ} {new : List ℕ} (w : Appended before at new room text end) where
  -- the same bytes in other words, and more room
  pub widened : {new2 : List ℕ} {room2 : ℕ} → new ≡ new2 → room ≤ room2 → Appended before at new2 room2 text end
  widened e h = record { text = rw (w.text, e); rest = w.rest; onward = w.onward; within = omega arith }

  -- the text as its owner has it back
  pub handed_back : {after : List ℕ} → after ≡ text → Appended before at new room after end
  handed_back e = rw e w

  -- one call after another
  pub then_more : {after : List ℕ} {room2 end2 : ℕ} {new2 : List ℕ} →
      Appended text end new2 room2 after end2 → Appended before at (new ++ new2) (room + room2) after end2
  then_more v = record {
    text = rw (v.text, w.text, append_assoc);
    rest = still_kept v.onward w.rest v.rest;
    onward = omega arith;
    within = omega arith;
  }

-- the same text, and the same bytes kept behind it: the same bytes
pub same_bytes : {before x y : List ℕ} {e e2 : ℕ} → e ≤ length x → e2 ≤ length y → take e x ≡ take e2 y →
    Kept before x e → Kept before y e2 → (e ≡ e2) × (x ≡ y)
same_bytes {before} {x} {y} {e} {e2} h h2 text first second =
    let end : e ≡ e2 = sym (length-take-le e x h) ∙ ap length text ∙ length-take-le e2 y h2 in
    let rest : drop e x ≡ drop e2 y = first.same ∙ rw end (sym second.same) in
    (end, sym (take-append-drop e x) ∙ rw (text, rest) (take-append-drop e2 y))

-- any two results of a call are equal, since a call keeps the length
pub appended_determined : {before x y new : List ℕ} {at room e e2 : ℕ} → at + room ≤ length before →
    length x ≡ length before → length y ≡ length before → Appended before at new room x e → Appended before at new room y e2 → (e ≡ e2) × (x ≡ y)
appended_determined fits kept kept2 w v = same_bytes (omega arith) (omega arith) (w.text ∙ sym v.text) w.rest v.rest
