-- A circuit that was refused decides; else the words up to its end are one, and what follows it decides.
use mathlib.Core.List.{List}
use mathlib.Core.Path.{◌≡◌, refl, sym, ◌∙◌}
use Prim.Native.Nat.{ℕ, ◌+◌, ◌-◌, ◌≤◌, ◌<◌}
use Rattle.std.specs.Prelude.{Result, Ok, Err}
use Rattle.outcome.specs.declared.Refusal.{Refusal}
use native.Mathlib.Omega.{arith}
use borrow.Author.Rules.{rules}
use lib.ListN.{length, take, drop, length-drop}
use lib.Seq.{length-take-le, get_or-drop, drop-drop}
use Rattle.outcome.specs.declared.Outcome.{Outcome}
use Rattle.outcome.specs.Verdict.{outcome_of, Accepted, Refused}
use Rattle.outcome.proofs.Verdict.{goes_on, not_both}
use Rattle.outcome.proofs.Asked.{asked}
use Rattle.circuit.specs.Circuit.{word, columns, ending, leading}
use Rattle.circuit.specs.Reader.{prefix_verdict}
use Rattle.circuit.specs.WellFormed.{Formed}
use Rattle.circuit.proofs.Formed.{prefix_formed}
use Rattle.circuit.proofs.Prefix.{leading-count, leading-formed}
use Rattle.circuit.proofs.Sections.{ends-within}
use Rattle.field.specs.Field.{p}
use Rattle.job_file.specs.File.{trailer, blinders_of, point_of, file_verdict}
use Rattle.job_file.specs.Given.{blinders_in, rest_verdict}
use Rattle.job_file.specs.Read.{Read}
use Rattle.job_file.specs.declared.Job.{Job}
use Rattle.job_file.proofs.FileLaws.{file_rest, up_to_the_end, ends}
use Rattle.job_file.proofs.read.Goals as goal
use Rattle.job_file.proofs.read.Goals.{In_ok-prefix_verdict, After-columns_of, After-rest_verdict, After-section_start-end}

refusal : {w : List ℕ} (r : Result Job Refusal) → outcome_of r ≡ file_verdict w → 0 < (outcome_of r).number → Read w r
refusal (Ok j) e l = absurd (omega arith)
refusal (Err f) e l = record { number_and_place = e; split = tt; none = λ h. refl }

module _ (w : List ℕ) where
  module _ {end : ℕ} (begun : Accepted (prefix_verdict p w)) (at : end ≡ ending w) where
    -- the verdict of what follows the circuit
    found_after : {o : Outcome} → o ≡ rest_verdict (take end w) (take (length w - end) (drop end w)) → o ≡ file_verdict w
    found_after told = told ∙ rw (at, up_to_the_end (ending w) w, file_rest w, goes_on _ begun)

    begins-formed : Formed p (take end w)
    begins-formed = rw at (leading-formed w (prefix_formed w begun)).formed

  module _ {last : ℕ} (at : last ≡ ending w + (columns (leading w) + 2)) where
    remains : drop last w ≡ trailer w
    remains = rw at (sym (drop-drop (columns (leading w) + 2) (ending w) w))

    blinders : blinders_in (take (length w - last) (drop last w)) ≡ blinders_of w
    blinders = rw (up_to_the_end last w, remains)

    point : word w (last + 5) ≡ point_of w
    point = rw (← get_or-drop last w 5 0, remains)

begun : (c : In_ok-prefix_verdict) → Accepted (prefix_verdict p c.args.words.now)
begun c = record { is_zero = grind (arith, asked) }

within : (c : After-section_start-end) → c.section_start-end.result ≤ length c.args.words.now
within c =
    let begun : Accepted (prefix_verdict p c.args.words.now) = record { is_zero = grind (arith, asked) } in
    omega (arith, ends-within (prefix_formed _ begun), c.section_start-end.ensures)

found : (c : After-rest_verdict) → outcome_of c.rest_verdict.result ≡ file_verdict c.args.words.now
found c = found_after c.args.words.now (record { is_zero = grind (arith, asked) }) c.section_start-end.ensures c.rest_verdict.ensures

-- where circuit and assignment end, in what the code has counted
end : (c : After-columns_of) →
    let last = c.section_start-end.result + c.columns_of.result + 2 in
    (last ≡ ending c.args.words.now + (columns (leading c.args.words.now) + 2)) × (last + 6 ≡ length c.args.words.now)
end c =
    let w = c.args.words.now in
    let begun : Accepted (prefix_verdict p w) = record { is_zero = grind (arith, asked) } in
    let told = found_after w begun c.section_start-end.ensures c.rest_verdict.ensures in
    let split = ends w (record { is_zero = grind (arith, asked) }) in
    let counted = leading-count w 2 (omega arith) in
    let circuit = c.section_start-end.ensures in
    let wide = c.columns_of.ensures in
    (omega arith, omega arith)

pub returns-in_err-prefix_verdict : goal.returns-in_err-prefix_verdict
returns-in_err-prefix_verdict c = refusal _ (rw (file_rest c.args.words.now) (grind (arith, asked))) (grind (arith, asked))

pub returns-in_err-rest_verdict : goal.returns-in_err-rest_verdict
returns-in_err-rest_verdict c =
    let told = found (goal.at.returns-in_err-rest_verdict c).After-rest_verdict in
    refusal _ (grind (arith, asked)) (grind (arith, asked))

pub returns : goal.returns
returns c =
    let last = (end (goal.at.returns c).After-columns_of).0 in
    let told = found (goal.at.returns c).After-rest_verdict in
    record {
      number_and_place = grind (arith, asked);
      split = record {
        circuit = c.section_start-end.ensures;
        assignment = last;
        blinders = c.blinders_in.ensures ∙ blinders _ last;
        point = point _ last;
      };
      none = λ (h : Refused (file_verdict c.args.words.now)). absurd (not_both (record { is_zero = grind (arith, asked) }) h);
    }

pub section_start-end-requires : goal.section_start-end-requires
section_start-end-requires c = (prefix_formed _ (begun c), omega arith)

pub slice_bounds-rest_verdict-end : goal.slice_bounds-rest_verdict-end
slice_bounds-rest_verdict-end c = sym (length-take-le _ _ (within c))

pub offset_bounds-words-end : goal.offset_bounds-words-end
offset_bounds-words-end c = let l = within c in search rules

pub slice_bounds-rest_verdict-count : goal.slice_bounds-rest_verdict-count
slice_bounds-rest_verdict-count c = let l = within c in search rules

pub slice_bounds-rest_verdict-start : goal.slice_bounds-rest_verdict-start
slice_bounds-rest_verdict-start c = let l = within c in search rules

pub rest_verdict-requires : goal.rest_verdict-requires
rest_verdict-requires c = begins-formed _ (begun (goal.at.rest_verdict-requires c).In_ok-prefix_verdict) c.section_start-end.ensures

pub columns_of-requires : goal.columns_of-requires
columns_of-requires c = (prefix_formed _ (begun (goal.at.columns_of-requires c).In_ok-prefix_verdict)).counts

pub overflow_add-last : goal.overflow_add-last
overflow_add-last c = let l = end (goal.at.overflow_add-last c).After-columns_of in search rules

pub overflow_add-last-2 : goal.overflow_add-last-2
overflow_add-last-2 c = let l = end (goal.at.overflow_add-last-2 c).After-columns_of in search rules

pub offset_bounds-words-last : goal.offset_bounds-words-last
offset_bounds-words-last c = let l = end (goal.at.offset_bounds-words-last c).After-columns_of in search rules

pub slice_bounds-blinders_in-count : goal.slice_bounds-blinders_in-count
slice_bounds-blinders_in-count c = let l = end (goal.at.slice_bounds-blinders_in-count c).After-columns_of in search rules

pub slice_bounds-blinders_in-start : goal.slice_bounds-blinders_in-start
slice_bounds-blinders_in-start c = let l = end (goal.at.slice_bounds-blinders_in-start c).After-columns_of in search rules

pub blinders_in-requires : goal.blinders_in-requires
blinders_in-requires c = let l = end (goal.at.blinders_in-requires c).After-columns_of in rw (up_to_the_end, length-drop) (omega arith)

pub overflow_add-result : goal.overflow_add-result
overflow_add-result c = let l = end (goal.at.overflow_add-result c).After-columns_of in search rules

pub offset_bounds-words-last-2 : goal.offset_bounds-words-last-2
offset_bounds-words-last-2 c = let l = end (goal.at.offset_bounds-words-last-2 c).After-columns_of in search rules

pub bounds-words-last : goal.bounds-words-last
bounds-words-last c = omega (arith, end (goal.at.bounds-words-last c).After-columns_of)
