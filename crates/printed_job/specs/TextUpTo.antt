-- Text in lent bytes: what the bytes up to an end say; those behind are kept. RULES 7.
use Rattle.std.specs.Prelude.{Result, IfOk, OnErr, List, ◌≡◌, ℕ, ◌≤◌, length, take, replicate}
use Rattle.outcome.specs.declared.Outcome.{Outcome}
use Rattle.outcome.specs.declared.Refusal.{Refusal}
use Rattle.outcome.specs.Verdict.{outcome_of}
use Rattle.text.specs.Text.{Kept}

pub record TextUpTo (Says : List ℕ → Type 0) (before bytes : List ℕ) (end : ℕ) : Type 0 where
  pub says : Says (take end bytes)
  pub rest : Kept before bytes end
  pub within : end ≤ length bytes

-- where the verdict accepts, the text, and where it ends; refused, nothing was written
pub record Written (verdict : Outcome) (Says : List ℕ → Type 0) (before bytes : List ℕ) (r : Result ℕ Refusal) : Type 0 where
  pub number_and_place : outcome_of r ≡ verdict
  pub done : IfOk r (TextUpTo Says before bytes)
  pub kept : OnErr r (bytes ≡ before)

-- bytes that are enough for the five lines
abbrev pub text_room : ℕ
text_room = 11008

-- the bytes before anything is written
unfoldable pub blank : List ℕ
blank = replicate text_room 0
