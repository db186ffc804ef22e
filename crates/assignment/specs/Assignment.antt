-- Assignment words and public sections: what they mean, and the verdict over them.
-- RULES 3, and numbers 6 and 7 of RULES 6.
use Rattle.std.specs.Prelude.{Result, Ok, Err, ⊤, true, false, List, [], ℕ, ◌+◌, ◌-◌, leb, eqb, length, take}
use Rattle.outcome.specs.declared.Outcome.{Outcome}
use Rattle.outcome.specs.Verdict.{outcome, fine, require, ◌and_then◌, first_fault, when_accepted}
use Rattle.circuit.specs.Circuit.{word, publics, columns}
use Rattle.circuit.specs.Reader.{circuit_verdict}

-- the index of the value of column j: a public value stands behind one count, a private one behind two
unfoldable pub assigned_at : List ℕ → ℕ → ℕ
assigned_at c j = elim (leb j (publics c)) [ true ↦ j | false ↦ j + 1 ]

-- the value w_j of column j; a public section alone has the public ones at the same index
abbrev pub assigned : List ℕ → List ℕ → ℕ → ℕ
assigned c a j = word a (assigned_at c j)

-- a word above p − 1, at the lowest such index; the list's indices begin with `from`
unfoldable pub words_verdict : ℕ → ℕ → ℕ → List ℕ → Outcome
words_verdict p number from a = first_fault (λ i. require (leb (word a i) (p - 1)) number (from + i)) (length a)

-- a first faulty index, or none, as number and place
abbrev pub at_index : Result ⊤ ℕ → ℕ → ℕ → Outcome
at_index (Ok x) number from = fine
at_index (Err i) number from = outcome number (from + i)

-- 7: the first public value not 1, or a value above p − 1, at the lowest such index. The counts stand among the words;
-- 6 held them to the circuit's, so they are never above p − 1.
unfoldable pub values_verdict : ℕ → List ℕ → Outcome
values_verdict p a = require (eqb (word a 1) 1) 7 1 and_then words_verdict p 7 0 a

-- 6: the length n + 2, the count q, the count n − q; then 7
unfoldable pub assignment_verdict : ℕ → List ℕ → List ℕ → Outcome
assignment_verdict p c a =
    require (eqb (length a) (columns c + 2)) 6 0
    and_then require (eqb (word a 0) (publics c)) 6 0
    and_then require (eqb (word a (publics c + 1)) (columns c - publics c)) 6 0
    and_then values_verdict p a

-- the public section alone: the length q + 1, the count q; then 7
unfoldable pub public_verdict : ℕ → List ℕ → List ℕ → Outcome
public_verdict p c a =
    require (eqb (length a) (publics c + 1)) 6 0
    and_then require (eqb (word a 0) (publics c)) 6 0
    and_then values_verdict p a

-- what a call says of both lists: the circuit comes first
unfoldable pub circuit_then_assignment : ℕ → List ℕ → List ℕ → Outcome
circuit_then_assignment p c a = circuit_verdict p c and_then assignment_verdict p c a

-- the public section handed out: the first q + 1 words, or none where circuit or assignment would be refused
unfoldable pub public_section : ℕ → List ℕ → List ℕ → List ℕ
public_section p c a = when_accepted (circuit_then_assignment p c a) (take (publics c + 1) a) []
