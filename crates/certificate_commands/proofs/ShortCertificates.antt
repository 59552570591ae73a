-- A worked certificate none of whose identities is too long, and a full certificate with it, no part of which is.
--   squares                the loop vars a, s, t; init a=0, s=1, t=1; branch { a=a+1; t=t+2; s=s+t; }
--   certificate            its certificate of 2*a - t + 1 and t^2 - 4*s + 2*t + 1, which stay as they are
--   squares_short          it is short;  full_short: so is each full certificate with a certificate that is, whose other parts multiply out to few terms
--   squares_full           one with it: with the closed form and the start, and no rounds;  squares_full_short: it is short
use Rattle.std.proofs.Common.{◌≡◌, inl, inr, ℕ, zero, suc, ◌+◌, ◌≤◌, pos, negsuc, List, [], ◌∷◌, get_or, length, map, All, ap, ap₂, subst, refl, arith, ◌∙◌}
use Rattle.std.specs.List.{sum_by}
use Rattle.std.proofs.lemmas.List.Elements.{All-nil, All-cons, All-head, All-tail}
use Rattle.std.proofs.lemmas.List.Sums.{sum_by-cons}
use Rattle.algebra.specs.Arithmetic.{power}
use Rattle.algebra.specs.Each.{Each}
use Rattle.algebra.specs.Sum.{sum_over}
use Rattle.algebra.specs.Gcd.{gcd}
use Rattle.algebra.specs.Ratio.{is_lowest, reduce}
use Rattle.algebra.specs.Fraction as Fraction
use Rattle.algebra.specs.Fraction.{Fraction, fraction, whole, ℚ, rationals}
use Rattle.algebra.proofs.Fractions.{ℚ_ring, ℚ_field, fraction_eq, fraction_eq_refl, fraction_eq_true}
use Rattle.polynomials.specs.Algebra as Algebra
use Rattle.polynomials.specs.Exponent.{plus, same, unit_exponents}
use Rattle.polynomials.specs.Order.{grevlex, compare}
use Rattle.polynomials.specs.Polynomial.{AllArity, IsPolynomial}
use Rattle.polynomials.specs.Terms.{Terms, AllSame, constant, variables, monomial_at, evaluate}
use Rattle.polynomials.proofs.Orders.{grevlex_order}
use Rattle.polynomials.proofs.Same.{Same-trans, AllSame-refl}
use Rattle.polynomials.proofs.SameDecided.{agree_at, test_same, same_from_test}
use Rattle.machines.specs.Collect.{collect, insert, place}
use Rattle.machines.proofs.Collecting.{collect-is, collect-polynomial}
use Rattle.loops.specs.Certificate.{Certificate, cofactors}
use Rattle.loops.specs.Effect.{store, init_statement, value_of, after_statement, after_branch, start_from}
use Rattle.loops.specs.Map.{branch_map, start_map}
use Rattle.loops.specs.Program.{Expr, Program, number, variable, add}
use Rattle.loops.proofs.Examples.{assign, given}
use Rattle.rounds.specs.BranchMap.{map_of}
use Rattle.rounds.specs.Start.{start_list, in_order}
use Rattle.expansion.specs.Counts.{most_terms, factor_terms, product_terms, composition_terms, combination_terms}
use Rattle.expansion.specs.Lengths.{power_length, product_length, list_length, next_lengths}
use Rattle.expansion.proofs.Counting.{most_is}
use Rattle.cert_form.specs.Cert.{IsComplete}
use Rattle.cert_checker.specs.Long.{start_terms, step_terms, total, IsFirstLong}
use Rattle.cert_checker.specs.Further.{further_parts}
use Rattle.cert_checker.specs.LongParts.{part_terms, AreFew}
use Rattle.cert_checker.specs.Places.{Place, at_start, in_branch}
use Rattle.cert_checker.specs.Wide.{IsMapOf, LongIdentity}
use Rattle.cert_checker.proofs.PartTotals.{not_beyond}
use Rattle.corollaries.specs.Full as full
use Rattle.corollaries.specs.Parts.{in_forms, in_start, at_end}
use Rattle.certificate_commands.specs.CheckJudging.{IsShort}
use Rattle.certificate_commands.specs.CheckfullJudging as checkfull

abbrev pub squares : Program (Expr ℕ)
squares = record {
  names = (97 ∷ []) ∷ (115 ∷ []) ∷ (116 ∷ []) ∷ [];
  locals = [];
  init = given 0 (number (pos 0)) ∷ given 1 (number (pos 1)) ∷ given 2 (number (pos 1)) ∷ [];
  branches = (assign 0 (add 45 (variable 0) (number (pos 1)))
      ∷ assign 2 (add 52 (variable 2) (number (pos 2)))
      ∷ assign 1 (add 59 (variable 1) (variable 2)) ∷ []) ∷ [];
}

abbrev first : Terms Fraction
first = (1 ∷ 0 ∷ 0 ∷ [], whole (pos 2)) ∷ (0 ∷ 0 ∷ 1 ∷ [], whole (negsuc 0)) ∷ (
  0 ∷ 0 ∷ 0 ∷ [],
  whole (pos 1),
) ∷ []

abbrev second : Terms Fraction
second = (0 ∷ 0 ∷ 2 ∷ [], whole (pos 1)) ∷ (0 ∷ 1 ∷ 0 ∷ [], whole (negsuc 3)) ∷ (
  0 ∷ 0 ∷ 1 ∷ [],
  whole (pos 2),
) ∷ (0 ∷ 0 ∷ 0 ∷ [], whole (pos 1)) ∷ []

abbrev one : Terms Fraction
one = (0 ∷ 0 ∷ 0 ∷ [], whole (pos 1)) ∷ []

abbrev elements : List (Terms Fraction)
elements = first ∷ second ∷ []

abbrev pub certificate : Certificate
certificate = record { basis = elements; steps = ((one ∷ [] ∷ []) ∷ ([] ∷ one ∷ []) ∷ []) ∷ [] }

-- ---- the maps
abbrev started : List (Terms Fraction)
started = [] ∷ one ∷ one ∷ []

abbrev turned : List (Terms Fraction)
turned =
    ((1 ∷ 0 ∷ 0 ∷ [], whole (pos 1)) ∷ (0 ∷ 0 ∷ 0 ∷ [], whole (pos 1)) ∷ [])
    ∷ ((0 ∷ 1 ∷ 0 ∷ [], whole (pos 1)) ∷ (0 ∷ 0 ∷ 1 ∷ [], whole (pos 1)) ∷ (
      0 ∷ 0 ∷ 0 ∷ [],
      whole (pos 2),
    ) ∷ [])
    ∷ ((0 ∷ 0 ∷ 1 ∷ [], whole (pos 1)) ∷ (0 ∷ 0 ∷ 0 ∷ [], whole (pos 2)) ∷ [])
    ∷ []

start_same : AllSame ℚ (start_map squares) started
unfolding AllSame test_same agree_at fraction_eq Algebra.coefficient same plus Algebra.times
    Algebra.shift sum_over constant monomial_at evaluate power value_of store after_statement
    init_statement start_from unit_exponents variables start_map fraction Fraction.sum
    Fraction.product Fraction.opposite Fraction.inverse is_lowest reduce gcd
start_same = (
  same_from_test ℚ_ring fraction_eq fraction_eq_refl fraction_eq_true _ _ refl,
  (
    same_from_test ℚ_ring fraction_eq fraction_eq_refl fraction_eq_true _ _ refl,
    (same_from_test ℚ_ring fraction_eq fraction_eq_refl fraction_eq_true _ _ refl, tt),
  ),
)

branch_same : AllSame ℚ (branch_map squares (get_or squares.branches 0 [])) turned
unfolding AllSame test_same agree_at fraction_eq Algebra.coefficient same plus Algebra.times
    Algebra.shift sum_over constant monomial_at evaluate power value_of store after_statement
    after_branch unit_exponents variables branch_map fraction Fraction.sum Fraction.product
    Fraction.opposite Fraction.inverse is_lowest reduce gcd
branch_same = (
  same_from_test ℚ_ring fraction_eq fraction_eq_refl fraction_eq_true _ _ refl,
  (
    same_from_test ℚ_ring fraction_eq fraction_eq_refl fraction_eq_true _ _ refl,
    (same_from_test ℚ_ring fraction_eq fraction_eq_refl fraction_eq_true _ _ refl, tt),
  ),
)

all_along : (ps qs us : List (Terms Fraction)) → AllSame ℚ ps qs → AllSame ℚ qs us
    → AllSame ℚ ps us
unfolding AllSame
all_along [] [] us h k = k
all_along [] (q ∷ qs) us h k = absurd h
all_along (p ∷ ps) [] us h k = absurd h
all_along (p ∷ ps) (q ∷ qs) [] h k = absurd k
all_along (p ∷ ps) (q ∷ qs) (u ∷ us) h k = (Same-trans ℚ h.0 k.0, all_along ps qs us h.1 k.1)

-- ---- polynomials that are the same are equal to these, with their terms collected
collected : (m : ℕ) (qs ps : List (Terms Fraction)) → All (IsPolynomial ℚ grevlex m) qs
    → AllArity m ps → AllSame ℚ qs ps → qs ≡ map (collect rationals grevlex) ps
unfolding AllSame Each
collected m [] [] h a s = refl
collected m [] (p ∷ ps) h a s = absurd s
collected m (q ∷ qs) [] h a s = absurd s
collected m (q ∷ qs) (p ∷ ps) h a s =
    ap₂ ◌∷◌ (collect-is ℚ_field grevlex grevlex_order m p q a.0
    (All-head (IsPolynomial ℚ grevlex m) q qs h) s.0)
    (collected m qs ps (All-tail (IsPolynomial ℚ grevlex m) q qs h) a.1 s.1)

elements_collected : map (collect rationals grevlex) elements ≡ elements
unfolding collect insert place compare grevlex fraction Fraction.sum is_lowest reduce gcd
elements_collected = refl

started_collected : map (collect rationals grevlex) started ≡ started
unfolding collect insert place compare grevlex fraction Fraction.sum is_lowest reduce gcd
started_collected = refl

turned_collected : map (collect rationals grevlex) turned ≡ turned
unfolding collect insert place compare grevlex fraction Fraction.sum is_lowest reduce gcd
turned_collected = refl

rows_collected : (i : ℕ)
    → map (collect rationals grevlex) (cofactors certificate 0 i) ≡ cofactors certificate 0 i
unfolding collect insert place compare grevlex fraction Fraction.sum is_lowest reduce gcd
rows_collected zero = refl
rows_collected (suc zero) = refl
rows_collected (suc (suc i)) = refl

elements_over : AllArity 3 elements
unfolding Each
elements_over = ((refl, (refl, (refl, tt))), ((refl, (refl, (refl, (refl, tt)))), tt))

started_over : AllArity 3 started
unfolding Each
started_over = (tt, ((refl, tt), ((refl, tt), tt)))

turned_over : AllArity 3 turned
unfolding Each
turned_over = ((refl, (refl, tt)), ((refl, (refl, (refl, tt))), ((refl, (refl, tt)), tt)))

rows_over : (i : ℕ) → AllArity 3 (cofactors certificate 0 i)
unfolding Each
rows_over zero = ((refl, tt), (tt, tt))
rows_over (suc zero) = (tt, ((refl, tt), tt))
rows_over (suc (suc i)) = tt

-- ---- what the identities multiply out to
start_first : start_terms elements started 0 ≡ 3
unfolding composition_terms product_terms factor_terms
start_first = refl

start_second : start_terms elements started 1 ≡ 4
unfolding composition_terms product_terms factor_terms
start_second = refl

step_first : start_terms elements turned 0 + combination_terms (cofactors certificate 0 0) elements
    ≡ 8
unfolding composition_terms product_terms factor_terms combination_terms
step_first = refl

step_second : start_terms elements turned 1 + combination_terms (cofactors certificate 0 1) elements
    ≡ 14
unfolding composition_terms product_terms factor_terms combination_terms
step_second = refl

none_long : (f : ℕ → ℕ) (n i : ℕ) → n ≡ 2 → f 0 ≤ 8 → f 1 ≤ 14 → IsFirstLong f n i → ⊥
unfolding total most_terms
none_long f n zero e a b h = (let l = h.long in omega (arith, l, a))
none_long f n (suc zero) e a b h = (let l = h.long in omega (arith, l, a, b))
none_long f n (suc (suc i)) e a b h = (let l = h.within in omega (arith, l, e))

pub squares_short : IsShort squares certificate
squares_short kept complete same = go
  where
    basis_is : kept.basis ≡ elements
    basis_is = collected 3 kept.basis elements complete.elements elements_over same.basis
        ∙ elements_collected

    row_is : (i : ℕ) → cofactors kept 0 i ≡ cofactors certificate 0 i
    row_is i = collected 3 (cofactors kept 0 i) (cofactors certificate 0 i) (complete.cofactors 0 i)
        (rows_over i) (same.steps 0 i) ∙ rows_collected i

    images_are : (images maps others : List (Terms Fraction)) → IsMapOf 3 images maps
        → AllSame ℚ maps others → AllArity 3 others
        → map (collect rationals grevlex) others ≡ others → images ≡ others
    images_are images maps others is s a e =
        collected 3 images others is.polynomials a (all_along images maps others is.same s) ∙ e

    start_is : (images : List (Terms Fraction)) (i : ℕ) → images ≡ started
        → start_terms kept.basis images i ≡ start_terms elements started i
    start_is images i e = ap₂ (λ gs qs. start_terms gs qs i) basis_is e

    step_is : (images : List (Terms Fraction)) (i : ℕ) → images ≡ turned
        → step_terms kept.basis images (get_or kept.steps 0 []) i
        ≡ start_terms elements turned i + combination_terms (cofactors certificate 0 i) elements
    step_is images i e =
        ap₂ (λ gs qs. start_terms gs qs i + combination_terms (cofactors kept 0 i) gs) basis_is e
        ∙ ap (λ row. start_terms elements turned i + combination_terms row elements) (row_is i)

    go : (place : Place) (i : ℕ) → LongIdentity squares kept place i → ⊥
    go at_start i h =
        let e = images_are h.images (start_map squares) started h.is start_same started_over
        started_collected in
        let a = start_is h.images 0 e ∙ start_first in
        let b = start_is h.images 1 e ∙ start_second in
        none_long (start_terms kept.basis h.images) (length kept.basis) i (ap length basis_is)
        (omega (arith, a)) (omega (arith, b)) h.long
    go (in_branch zero) i h =
        let e = images_are h.images (branch_map squares (get_or squares.branches 0 [])) turned h.is
        branch_same turned_over turned_collected in
        let a = step_is h.images 0 e ∙ step_first in
        let b = step_is h.images 1 e ∙ step_second in
        none_long (step_terms kept.basis h.images (get_or kept.steps 0 [])) (length kept.basis) i
        (ap length basis_is) (omega (arith, a)) (omega (arith, b)) h.long
    go (in_branch (suc b)) i h = (let l = h.branch_within in absurd (omega (arith, l)))

-- ---- full certificates
pub full_short : (l : Program (Expr ℕ)) (c : full.FullCertificate)
    → IsComplete (length l.names) (length l.branches) (full.certificate c)
    → IsShort l (full.certificate c) → AreFew l c → checkfull.IsShort l c
full_short l c complete short few path (inl h) =
    short (full.certificate c) complete
    (record {
      basis = AllSame-refl ℚ c.basis;
      branches = refl;
      elements = λ b. refl;
      steps = λ b i. AllSame-refl ℚ (cofactors (full.certificate c) b i);
    }) h.place h.element h.is
full_short l c complete short few path (inr h) =
    not_beyond (part_terms l c) (further_parts l c) h.part few h.first

-- a + n, s + n t + n^2 + n and t + 2 n, over n, (-1)^n, a, s and t
abbrev closed : List (Terms Fraction)
closed =
    ((0 ∷ 0 ∷ 1 ∷ 0 ∷ 0 ∷ [], whole (pos 1)) ∷ (1 ∷ 0 ∷ 0 ∷ 0 ∷ 0 ∷ [], whole (pos 1)) ∷ [])
    ∷ ((1 ∷ 0 ∷ 0 ∷ 0 ∷ 1 ∷ [], whole (pos 1)) ∷ (2 ∷ 0 ∷ 0 ∷ 0 ∷ 0 ∷ [], whole (pos 1)) ∷ (
      0 ∷ 0 ∷ 0 ∷ 1 ∷ 0 ∷ [],
      whole (pos 1),
    ) ∷ (1 ∷ 0 ∷ 0 ∷ 0 ∷ 0 ∷ [], whole (pos 1)) ∷ [])
    ∷ ((0 ∷ 0 ∷ 0 ∷ 0 ∷ 1 ∷ [], whole (pos 1)) ∷ (1 ∷ 0 ∷ 0 ∷ 0 ∷ 0 ∷ [], whole (pos 2)) ∷ [])
    ∷ []

-- a, s - 1 and t - 1
abbrev zeros : List (Terms Fraction)
zeros =
    ((1 ∷ 0 ∷ 0 ∷ [], whole (pos 1)) ∷ [])
    ∷ ((0 ∷ 1 ∷ 0 ∷ [], whole (pos 1)) ∷ (0 ∷ 0 ∷ 0 ∷ [], whole (negsuc 0)) ∷ [])
    ∷ ((0 ∷ 0 ∷ 1 ∷ [], whole (pos 1)) ∷ (0 ∷ 0 ∷ 0 ∷ [], whole (negsuc 0)) ∷ [])
    ∷ []

abbrev pub squares_full : full.FullCertificate
squares_full = record {
  basis = elements;
  steps = certificate.steps;
  forms = record { base = []; polys = closed } ∷ [];
  start_out = zeros;
  start_links = (one ∷ [] ∷ [] ∷ []) ∷ ([] ∷ one ∷ [] ∷ []) ∷ ([] ∷ [] ∷ one ∷ []) ∷ [];
  rounds = [];
}

map_is : map_of squares 1 ≡ turned
unfolding map_of collect insert place compare grevlex Algebra.times Algebra.shift
    sum_over constant monomial_at evaluate power value_of store after_statement
    after_branch unit_exponents variables branch_map plus same fraction Fraction.sum
    Fraction.product
    Fraction.opposite Fraction.inverse is_lowest reduce gcd
map_is = refl

form_terms : part_terms squares squares_full (in_forms 0) ≡ 27
unfolding product_length power_length factor_terms
form_terms = ap (λ qs. list_length qs closed + next_lengths closed) map_is

start_terms_of : (i : ℕ) → part_terms squares squares_full (in_start i) ≤ 2
unfolding combination_terms
start_terms_of zero = omega arith
start_terms_of (suc zero) = omega arith
start_terms_of (suc (suc zero)) = omega arith
start_terms_of (suc (suc (suc i))) = omega arith

parts_are : further_parts squares squares_full
    ≡ in_forms 0 ∷ in_start 0 ∷ in_start 1 ∷ in_start 2 ∷ at_end ∷ []
unfolding start_list in_order
parts_are = refl

squares_few : AreFew squares squares_full
squares_few =
    let is = ap (sum_by (part_terms squares squares_full)) parts_are in
    let f = part_terms squares squares_full in
    let one = sum_by-cons f (in_forms 0) (in_start 0 ∷ in_start 1 ∷ in_start 2 ∷ at_end ∷ []) in
    let two = sum_by-cons f (in_start 0) (in_start 1 ∷ in_start 2 ∷ at_end ∷ []) in
    let three = sum_by-cons f (in_start 1) (in_start 2 ∷ at_end ∷ []) in
    let four = sum_by-cons f (in_start 2) (at_end ∷ []) in
    let a = form_terms in
    let b = start_terms_of 0 in
    let c = start_terms_of 1 in
    let d = start_terms_of 2 in
    let m = most_is in
    omega (arith, is, one, two, three, four, a, b, c, d, m)

-- ---- its certificate is complete
polynomials : (ps : List (Terms Fraction)) → AllArity 3 ps
    → All (IsPolynomial ℚ grevlex 3) (map (collect rationals grevlex) ps)
unfolding Each
polynomials [] a = All-nil _
polynomials (p ∷ ps) a = All-cons (IsPolynomial ℚ grevlex 3) (collect rationals grevlex p)
    (map (collect rationals grevlex) ps)
    (collect-polynomial ℚ_field grevlex grevlex_order 3 p a.0) (polynomials ps a.1)

rows_polynomials : (b i : ℕ) → All (IsPolynomial ℚ grevlex 3) (cofactors certificate b i)
rows_polynomials zero i = subst (All (IsPolynomial ℚ grevlex 3)) (rows_collected i)
    (polynomials (cofactors certificate 0 i) (rows_over i))
rows_polynomials (suc b) i = All-nil _

elements_polynomials : All (IsPolynomial ℚ grevlex 3) elements
elements_polynomials = subst (All (IsPolynomial ℚ grevlex 3)) elements_collected
    (polynomials elements elements_over)

heights : All (λ rows. length rows ≡ 2) certificate.steps
heights zero d l = refl
heights (suc i) d l = absurd (omega (arith, l))

widths : All (All (λ row. length row ≡ 2)) certificate.steps
widths zero d l zero e k = refl
widths zero d l (suc zero) e k = refl
widths zero d l (suc (suc j)) e k = absurd (omega (arith, k))
widths (suc i) d l j e k = absurd (omega (arith, l))

pub squares_full_short : checkfull.IsShort squares squares_full
squares_full_short = full_short squares squares_full
    (record {
      elements = elements_polynomials;
      cofactors = rows_polynomials;
      count = refl;
      heights = heights;
      widths = widths;
    })
    squares_short squares_few
