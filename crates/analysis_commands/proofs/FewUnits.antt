-- A budget that arguments give is small.
--   request_few      so it is where they ask for an analysis of a chain
use Rattle.std.proofs.Common.{◌≡◌, ℕ, ◌≤◌, ◌&&◌, Bool, true, false, List, [], ◌∷◌, length, refl, ap, subst, arith, nat_le}
use Rattle.std.specs.Prelude.{Option, Some, None, codes, if◌then◌else◌}
use Rattle.std.specs.Str.{bytes_eq}
use Rattle.std.proofs.lemmas.Bool.Decides.{nat_tests}
use Rattle.io_edge.specs.Arguments.{is_file}
use Rattle.poly_text.specs.Number.{numeral_of}
use Rattle.command_parts.specs.Numerals.{usual_budget, most_budget, most_budget_digits, in_budgets, budget_of}
use Rattle.command_parts.specs.FileRequests.{FileRequest, request_within, request_in}
use Rattle.invariant_fix.specs.Limits.{budget_limit}

second : (a b : Bool) → (a && b) ≡ true → b ≡ true
second true b e = e
second false b e = absurd (cc)

within : (k n : ℕ) → nat_le k n ≡ true → k ≤ n
within k n e = grind (arith, nat_tests, e)

in_few : (o : Option ℕ) (n : ℕ) → in_budgets o ≡ Some n → n ≤ most_budget
in_few None n e = absurd (cc)
in_few (Some k) n e = go (nat_le 1 k && nat_le k most_budget) refl e
  where
    go : (b : Bool) → (nat_le 1 k && nat_le k most_budget) ≡ b
        → (if b then Some k else None) ≡ Some n → n ≤ most_budget
    go false t h = absurd (cc)
    go true t h =
        let same : k ≡ n = cc in
        subst (λ i. i ≤ most_budget) same
        (within k most_budget (second (nat_le 1 k) (nat_le k most_budget) t))

budget_few : (argument : List ℕ) (n : ℕ) → budget_of argument ≡ Some n → n ≤ most_budget
unfolding budget_of
budget_few argument n e = go (nat_le (length argument) most_budget_digits) e
  where
    go : (b : Bool) → (if b then in_budgets (numeral_of argument) else None) ≡ Some n
        → n ≤ most_budget
    go false h = absurd (cc)
    go true h = in_few (numeral_of argument) n h

within_few : (o : Option ℕ) (file : List ℕ) (r : FileRequest)
    → ((n : ℕ) → o ≡ Some n → n ≤ most_budget) → request_within o file ≡ Some r
    → r.budget ≤ most_budget
within_few None file r f e = absurd (cc)
within_few (Some n) file r f e =
    let same : ◌≡◌ {A = FileRequest} (record { budget = n; file = file }) r = cc in
    subst (λ k. k ≤ most_budget) (ap (λ (x : FileRequest). x.budget) same) (f n refl)

either_few : (b : Bool) (o : Option ℕ) (file : List ℕ) (r : FileRequest)
    → ((n : ℕ) → o ≡ Some n → n ≤ most_budget)
    → (if b then request_within o file else None) ≡ Some r → r.budget ≤ most_budget
either_few true o file r f e = within_few o file r f e
either_few false o file r f e = absurd (cc)

usual_few : (n : ℕ) → Some usual_budget ≡ Some n → n ≤ most_budget
usual_few n e = let same : usual_budget ≡ n = cc in subst (λ k. k ≤ most_budget) same (omega arith)

asked_few : (arguments : List (List ℕ)) (r : FileRequest) → request_in arguments ≡ Some r
    → r.budget ≤ most_budget
asked_few [] r e = absurd (cc)
asked_few (file ∷ []) r e = either_few (is_file file) (Some usual_budget) file r usual_few e
asked_few (option ∷ number ∷ []) r e = absurd (cc)
asked_few (option ∷ number ∷ file ∷ []) r e =
    either_few (bytes_eq option (codes "--budget") && is_file file) (budget_of number) file r
    (budget_few number) e
asked_few (option ∷ number ∷ file ∷ more ∷ rest) r e = absurd (cc)

pub request_few : (arguments : List (List ℕ)) (r : FileRequest) → request_in arguments ≡ Some r
    → r.budget ≤ budget_limit
request_few arguments r e = let l = asked_few arguments r e in omega (arith, l)
