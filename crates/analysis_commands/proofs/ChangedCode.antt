-- Code that sets the one variable to 5, and the loop behind it, whose branch does nothing: what is said of code that changes something can be met.
--   changed_code             the code x = 5
--   changed_mapped              its elimination from no polynomials has ended, with x - 5
--   changed_never_past       neither making its list nor what comes next is past;  changed_never_exhausted: no budget is exhausted in it
--   behind_finished          the finished journal of the loop behind it, from x - 5;  behind_never_past: no state of it is past
use Rattle.std.proofs.Common.{◌≡◌, ℕ, pos, negsuc, List, [], ◌∷◌, refl, sym, ap, ◌∙◌, Option, None, Some, true}
use Rattle.algebra.specs.Arithmetic.{power}
use Rattle.algebra.specs.Sum.{sum_over}
use Rattle.algebra.specs.Gcd.{gcd, lcm}
use Rattle.algebra.specs.Ratio.{is_lowest, reduce}
use Rattle.algebra.specs.Fraction as Fraction
use Rattle.algebra.specs.Fraction.{Fraction, fraction, whole}
use Rattle.polynomials.specs.Algebra as Algebra
use Rattle.polynomials.specs.Exponent as exponents
use Rattle.polynomials.specs.Exponent.{same, plus, unit_exponents, over as less}
use Rattle.polynomials.specs.Order.{compare, grevlex, blocks}
use Rattle.polynomials.specs.Terms.{Terms, constant, variables, evaluate, monomial_at, retold}
use Rattle.polynomials.specs.Weight.{weight, degrees, composition_weight, composition_degrees}
use Rattle.machines.specs.Collect.{collect, insert, place, scale_terms}
use Rattle.machines.specs.Completion as completion
use Rattle.machines.specs.Elimination as elimination
use Rattle.machines.specs.Completion.{with_element, with_elements, s_polynomial, next_reduction, next_pair, next_completion}
use Rattle.machines.specs.Cut.{lead_of, tail_of, lead_number, divides, cut_by, find_cut, after_cut, monic}
use Rattle.machines.specs.Division as division
use Rattle.machines.specs.Division.{with_term, next_cut, next_division}
use Rattle.machines.specs.Elimination.{all_free, free_part}
use Rattle.machines.specs.Event.{Event, Cut, Zero}
use Rattle.machines.specs.Journal.{Entry, Begin, Did, Closed, units_of}
use Rattle.machines.specs.Pairs.{coprime, mixes_degrees, waits, beside, put_pair, with_new, covers, skip_covered}
use Rattle.machines.specs.Tidying as tidying
use Rattle.machines.specs.Tidying.{without, drop_from, tail_or, tail_from, next_tail, next_drop, ahead, put_by_lead, by_lead}
use Rattle.machines.proofs.Runs.{on, trace}
use Rattle.analysis_commands.proofs.Traces.{Run}
use Rattle.exponentials.specs.Keys.{excess}
use Rattle.loops.specs.Effect.{store, value_of, after_statement, after_branch}
use Rattle.loops.specs.Map.{branch_map}
use Rattle.loops.specs.Program.{Expr, Statement, number}
use Rattle.rounds.specs.Form.{relation, relations_to, passes}
use Rattle.rounds.specs.Start.{start_list, start_polynomial, in_order}
use Rattle.rounds.specs.Analysis as analysis
use Rattle.rounds.specs.Analysis.{State, finished, next, block, starting, closing_from, after_iterations}
use Rattle.expansion.specs.Counts.{most_terms, factor_terms}
use Rattle.expansion.specs.Lengths.{product_length, power_length}
use Rattle.invariant_fix.specs.Long.{task_length, work_length, orbit_length_since, lengths_before}
use Rattle.analysis_commands.proofs.Fitting.{start_fits, all_fit, then_fit, state_fits, numbers_fit, work_fits, orbit_fits, less_fits, elimination_fits, behind_fits, dropping_fits, tailing_fits, acting_fits, taking_fits, left_fits, found_fits, reducing_fits, both_fit, exponents_fit, size_fits, each_fits}
use Rattle.machines.specs.Run.{IsRun}
use Rattle.machines.proofs.Working.{work_begun}
use Rattle.rounds.specs.Journal.{setting_from, FollowsFrom, IsFinishedFrom}
use Rattle.rounds.specs.Past.{IsPast}
use Rattle.invariant_fix.specs.Long.{IsLong}
use Rattle.corollaries.specs.Between.{starting as starting_code, code_order, between, list_of, IsMapped, IsExhaustedLeading, IsPastLeading}
use Rattle.corollaries.specs.CodeBetween.{copies}
use Rattle.analysis_commands.proofs.CodeFitting.{making_fits, never_leads_past}
use Rattle.analysis_commands.proofs.IdleLoops.{one_loop, x_form, x_forms}
use Rattle.analysis_commands.proofs.Traces.{never_past, never_too_long, comes_by}

abbrev setting_five : Statement (Expr ℕ)
setting_five = record { targets = 0 ∷ []; values = number (pos 5) ∷ [] }

abbrev pub changed_code : List (Statement (Expr ℕ))
changed_code = record { targets = 0 ∷ []; values = number (pos 5) ∷ [] } ∷ []

abbrev pub less_five : Terms Fraction
less_five = (1 ∷ [], whole (pos 1)) ∷ (0 ∷ [], whole (negsuc 4)) ∷ []

-- ---- the code
making_is : making_fits one_loop setting_five [] [] ≡ true
unfolding on trace all_fit then_fit state_fits work_fits orbit_fits less_fits elimination_fits
    behind_fits
    dropping_fits tailing_fits acting_fits taking_fits left_fits found_fits reducing_fits both_fit
    exponents_fit size_fits each_fits weight degrees composition_weight composition_degrees lcm
    exponents.lcm next block starting passes closing_from after_iterations analysis.after_branch
    analysis.after relation relations_to start_list start_polynomial in_order branch_map
    after_branch after_statement store value_of variables unit_exponents constant collect insert
    place scale_terms compare blocks grevlex elimination.next completion.next with_element
    with_elements s_polynomial next_reduction next_pair next_completion lead_of tail_of lead_number
    divides cut_by find_cut after_cut monic division.next with_term next_cut next_division all_free
    free_part retold coprime completion.degree mixes_degrees waits beside put_pair with_new covers
    skip_covered tidying.next without drop_from tail_or tail_from next_tail next_drop ahead
    put_by_lead by_lead less same plus excess Algebra.times Algebra.shift Algebra.negate evaluate
    sum_over monomial_at power fraction Fraction.sum Fraction.product Fraction.opposite
    Fraction.inverse is_lowest reduce gcd
making_is = refl

begun_is : start_fits (starting_code one_loop changed_code []) ≡ true
unfolding on trace all_fit then_fit state_fits work_fits orbit_fits less_fits elimination_fits
    behind_fits
    dropping_fits tailing_fits acting_fits taking_fits left_fits found_fits reducing_fits both_fit
    exponents_fit size_fits each_fits weight degrees composition_weight composition_degrees lcm
    exponents.lcm next block starting passes closing_from after_iterations analysis.after_branch
    analysis.after relation relations_to start_list start_polynomial in_order branch_map
    after_branch after_statement store value_of variables unit_exponents constant collect insert
    place scale_terms compare blocks grevlex elimination.next completion.next with_element
    with_elements s_polynomial next_reduction next_pair next_completion lead_of tail_of lead_number
    divides cut_by find_cut after_cut monic division.next with_term next_cut next_division all_free
    free_part retold coprime completion.degree mixes_degrees waits beside put_pair with_new covers
    skip_covered tidying.next without drop_from tail_or tail_from next_tail next_drop ahead
    put_by_lead by_lead less same plus excess Algebra.times Algebra.shift Algebra.negate evaluate
    sum_over monomial_at power fraction Fraction.sum Fraction.product Fraction.opposite
    Fraction.inverse is_lowest reduce gcd
begun_is = refl

all_is : all_fit (between one_loop changed_code []).next
    (elimination_fits (code_order 1 changed_code) (free_part (copies 1 changed_code))) 0
    (between one_loop changed_code []).start ≡ true
unfolding on trace all_fit then_fit state_fits work_fits orbit_fits less_fits elimination_fits
    behind_fits
    dropping_fits tailing_fits acting_fits taking_fits left_fits found_fits reducing_fits both_fit
    exponents_fit size_fits each_fits weight degrees composition_weight composition_degrees lcm
    exponents.lcm next block starting passes closing_from after_iterations analysis.after_branch
    analysis.after relation relations_to start_list start_polynomial in_order branch_map
    after_branch after_statement store value_of variables unit_exponents constant collect insert
    place scale_terms compare blocks grevlex elimination.next completion.next with_element
    with_elements s_polynomial next_reduction next_pair next_completion lead_of tail_of lead_number
    divides cut_by find_cut after_cut monic division.next with_term next_cut next_division all_free
    free_part retold coprime completion.degree mixes_degrees waits beside put_pair with_new covers
    skip_covered tidying.next without drop_from tail_or tail_from next_tail next_drop ahead
    put_by_lead by_lead less same plus excess Algebra.times Algebra.shift Algebra.negate evaluate
    sum_over monomial_at power fraction Fraction.sum Fraction.product Fraction.opposite
    Fraction.inverse is_lowest reduce gcd
all_is = refl

ended : (between one_loop changed_code []).next (between one_loop changed_code []).start ≡ None
unfolding on trace all_fit then_fit state_fits work_fits orbit_fits less_fits elimination_fits
    behind_fits
    dropping_fits tailing_fits acting_fits taking_fits left_fits found_fits reducing_fits both_fit
    exponents_fit size_fits each_fits weight degrees composition_weight composition_degrees lcm
    exponents.lcm next block starting passes closing_from after_iterations analysis.after_branch
    analysis.after relation relations_to start_list start_polynomial in_order branch_map
    after_branch after_statement store value_of variables unit_exponents constant collect insert
    place scale_terms compare blocks grevlex elimination.next completion.next with_element
    with_elements s_polynomial next_reduction next_pair next_completion lead_of tail_of lead_number
    divides cut_by find_cut after_cut monic division.next with_term next_cut next_division all_free
    free_part retold coprime completion.degree mixes_degrees waits beside put_pair with_new covers
    skip_covered tidying.next without drop_from tail_or tail_from next_tail next_drop ahead
    put_by_lead by_lead less same plus excess Algebra.times Algebra.shift Algebra.negate evaluate
    sum_over monomial_at power fraction Fraction.sum Fraction.product Fraction.opposite
    Fraction.inverse is_lowest reduce gcd
ended = refl

list_is : less_five ∷ [] ≡ list_of 1 changed_code (between one_loop changed_code []).start
unfolding on trace all_fit then_fit state_fits work_fits orbit_fits less_fits elimination_fits
    behind_fits
    dropping_fits tailing_fits acting_fits taking_fits left_fits found_fits reducing_fits both_fit
    exponents_fit size_fits each_fits weight degrees composition_weight composition_degrees lcm
    exponents.lcm next block starting passes closing_from after_iterations analysis.after_branch
    analysis.after relation relations_to start_list start_polynomial in_order branch_map
    after_branch after_statement store value_of variables unit_exponents constant collect insert
    place scale_terms compare blocks grevlex elimination.next completion.next with_element
    with_elements s_polynomial next_reduction next_pair next_completion lead_of tail_of lead_number
    divides cut_by find_cut after_cut monic division.next with_term next_cut next_division all_free
    free_part retold coprime completion.degree mixes_degrees waits beside put_pair with_new covers
    skip_covered tidying.next without drop_from tail_or tail_from next_tail next_drop ahead
    put_by_lead by_lead less same plus excess Algebra.times Algebra.shift Algebra.negate evaluate
    sum_over monomial_at power fraction Fraction.sum Fraction.product Fraction.opposite
    Fraction.inverse is_lowest reduce gcd
list_is = refl

pub changed_mapped : IsMapped one_loop changed_code [] [] (less_five ∷ [])
changed_mapped = record {
  last = (between one_loop changed_code []).start;
  finished = record {
    work = work_begun (between one_loop changed_code []).next
        (between one_loop changed_code []).start [];
    ended = ended;
  };
  list = list_is;
}

pub changed_never_past : (es : List Entry) → IsPastLeading one_loop changed_code [] es → ⊥
changed_never_past = never_leads_past one_loop setting_five [] [] 0 making_is begun_is all_is

only_start : (events : List Event) (s : elimination.State Fraction)
    → IsRun (between one_loop changed_code []).next (between one_loop changed_code []).start events
    s → (between one_loop changed_code []).start ≡ s
unfolding IsRun
only_start [] s r = r
only_start (e ∷ events) s (u, n, r) =
    absurd (let z : ◌≡◌ {A = Option (Event × elimination.State Fraction)} None (Some (e, u)) =
    sym ended ∙ n in cc)

pub changed_never_exhausted : (limit : ℕ) (es : List Entry)
    → IsExhaustedLeading one_loop changed_code [] limit es → ⊥
changed_never_exhausted limit es h =
    let z : ◌≡◌ {A = Option (Event × elimination.State Fraction)} None
    (Some (h.event, h.following)) =
    sym ended ∙ ap (between one_loop changed_code []).next (only_start h.work.events h.at
    h.work.run)
    ∙ h.comes in
    let q : ⊥ = cc in q

-- ---- the loop behind it, which tests x - 5 once
abbrev pub behind_entries : List Entry
behind_entries = Begin (Closed 0 1 1) ∷ Did (Cut 0) ∷ Did Zero ∷ []

pub behind_units : units_of behind_entries ≡ 1
unfolding units_of
behind_units = refl

behind_run : Run one_loop (Some (less_five ∷ [])) (x_form ∷ []) None 3 behind_entries
    (finished 0 (less_five ∷ []))
unfolding on trace all_fit then_fit state_fits
    numbers_fit task_length work_length orbit_length_since lengths_before product_length
    power_length factor_terms most_terms work_fits orbit_fits less_fits elimination_fits
    behind_fits
    dropping_fits tailing_fits acting_fits taking_fits left_fits found_fits reducing_fits both_fit
    exponents_fit size_fits each_fits weight degrees composition_weight composition_degrees lcm
    exponents.lcm next block starting passes closing_from after_iterations analysis.after_branch
    analysis.after relation relations_to start_list start_polynomial in_order branch_map
    after_branch after_statement store value_of variables unit_exponents constant collect insert
    place scale_terms compare blocks grevlex elimination.next completion.next with_element
    with_elements s_polynomial next_reduction next_pair next_completion lead_of tail_of lead_number
    divides cut_by find_cut after_cut monic division.next with_term next_cut next_division all_free
    free_part retold coprime completion.degree mixes_degrees waits beside put_pair with_new covers
    skip_covered tidying.next without drop_from tail_or tail_from next_tail next_drop ahead
    put_by_lead by_lead less same plus excess Algebra.times Algebra.shift Algebra.negate evaluate
    sum_over monomial_at power fraction Fraction.sum Fraction.product Fraction.opposite
    Fraction.inverse is_lowest reduce gcd
behind_run = record { fits = refl; entries = refl; ends = refl }

pub behind_finished : IsFinishedFrom one_loop (less_five ∷ []) behind_entries 0 (less_five ∷ [])
behind_finished = comes_by one_loop (Some (less_five ∷ [])) (x_form ∷ []) x_forms None 3
    behind_entries _ behind_run

pub behind_never_past : (fs : List Entry) (s : State)
    (f : FollowsFrom one_loop (Some (less_five ∷ [])) None fs s)
    → IsPast (setting_from one_loop (Some (less_five ∷ [])) f.forms None) s → ⊥
behind_never_past = never_past one_loop (Some (less_five ∷ [])) (x_form ∷ []) x_forms None 3
    behind_entries _ behind_run

pub behind_never_long : (fs : List Entry) (s : State)
    (f : FollowsFrom one_loop (Some (less_five ∷ [])) None fs s)
    → IsLong (setting_from one_loop (Some (less_five ∷ [])) f.forms None) s → ⊥
behind_never_long = never_too_long one_loop (Some (less_five ∷ [])) (x_form ∷ []) x_forms None 3
    behind_entries _ behind_run
