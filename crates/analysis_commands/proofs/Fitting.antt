-- Tests by computation that nothing of an analysis is past, and so of each state on a run that ends within a number of steps.
--   first_holds, second_holds      where two tests say yes, so does each
--   size_fits a             the numbers of the weight a are below the limit
--   exponents_fit e, both_fit a e      so are the exponents e, and both
--   each_fits f, then_fit f            the test f says yes of each element of a list, and of the state behind an event, if there is one
--   cut_fits, .., elimination_fits      no cutting, .., no event of an elimination is past
--   found_fits, left_fits, division_fits, division_holds      of these, the next cutting of a division
--   reducing_fits, pair_fits, taking_fits, acting_fits      a reduction, a pair's S-polynomial, that of the first pair, and what comes next in a completion
--   pair_holds, acting_holds      where the tests of a pair, and of what comes next, say yes, nothing there is past
--   tailing_fits, dropping_fits, tidying_fits, tidying_holds      the next event of an interreduction
--   less_fits, orbit_fits, work_fits, work_holds      the differences of two lists, the compositions of an orbit, and what a task begins with
--   numbers_fit A s         nothing of the state is past; where an iteration is taken by itself it says no
--   state_fits A s          so it is, and the state's task isn't too long
--   all_fit next test n s   the test says yes of s and of the states behind it, of which the last comes after at most n steps
--   each_fits_on            so of each state on a run from s;  never, never_long: so none of an analysis is past, and no task is too long
use Rattle.std.proofs.Common.{◌≡◌, inl, inr, ℕ, zero, suc, ◌+◌, ◌^◌, Bool, true, false, ltb, List, [], ◌∷◌, drop, length, map, get_or, slice_get, refl, sym, subst, Option, Some, None, arith}
use Rattle.std.specs.Prelude.{◌&&◌, ◌⊎◌, is_some, not}
use Rattle.std.specs.List.{Any}
use Rattle.std.proofs.lemmas.Bool.{ltb-true}
use Rattle.algebra.specs.Fraction.{Fraction, ℚ, fraction_size, fractions, rationals}
use Rattle.algebra.specs.Limits.{number_limit}
use Rattle.algebra.specs.Size.{Size, IsPast, sum_size, product_size, quotient_size}
use Rattle.polynomials.specs.Exponent.{plus, over}
use Rattle.polynomials.specs.Order.{Rank, grevlex}
use Rattle.polynomials.specs.Terms.{Terms, variables}
use Rattle.polynomials.specs.Weight.{weight, degrees, composition_weight, composition_degrees, FitsMonomial, IsPastProduct, IsPastComposition}
use Rattle.machines.specs.Collect.{collect}
use Rattle.machines.specs.Completion as completion
use Rattle.machines.specs.Cut.{Cutting, all_places, find_cut, lead_of, lead_number}
use Rattle.machines.specs.Division as division
use Rattle.machines.specs.Elimination as elimination
use Rattle.machines.specs.Elimination.{completing, tidying_up, free_part, in_front}
use Rattle.machines.specs.Journal.{Entry}
use Rattle.machines.specs.Pairs.{multiple, skip_covered}
use Rattle.machines.specs.Past as past
use Rattle.machines.specs.Run.{IsRun}
use Rattle.machines.specs.Tidying.{TailCut, tail_cut, drop_place, by_lead}
use Rattle.rounds.specs.Analysis.{Setting, Work, starts, iteration, iteration_meet, orbit, meet, State, fresh, working, closing, turning, asking, form_of, starting, block, order, moves}
use Rattle.rounds.specs.Form.{Form, front, inverse_of_form, passes, passing, form_before}
use Rattle.rounds.specs.Graph.{images_behind, at_before}
use Rattle.rounds.specs.Past as rounds
use Rattle.rounds.specs.Past.{the_t, one_less_t, IsPastLess, IsPastGraph, IsPastOrbitSince, IsPastMeet}
use Rattle.expansion.specs.Counts.{most_terms}
use Rattle.invariant_fix.specs.Long.{task_length, IsLong}

-- ---- tests
pub first_holds : (a b : Bool) → a && b ≡ true → a ≡ true
first_holds true b e = refl
first_holds false b e = e

pub second_holds : (a b : Bool) → a && b ≡ true → b ≡ true
second_holds true b e = e
second_holds false b e = absurd (let z : ⊥ = cc in z)

unfoldable pub each_fits : {X : Type 0} → (X → Bool) → List X → Bool
each_fits f [] = true
each_fits f (x ∷ xs) = f x && each_fits f xs

pub any_fits : {X : Type 0} (f : X → Bool) (P : X → Type 0)
    → ((x : X) → f x ≡ true → P x → ⊥) → (xs : List X) → each_fits f xs ≡ true → Any P xs → ⊥
unfolding each_fits
any_fits f P h [] e (k, x, less, is, p) = omega (arith, less)
any_fits f P h (y ∷ ys) e (zero, x, less, is, p) =
    h y (first_holds (f y) (each_fits f ys) e) (subst P (sym is) p)
any_fits f P h (y ∷ ys) e (suc k, x, less, is, p) =
    any_fits f P h ys (second_holds (f y) (each_fits f ys) e) (k, x, omega (arith, less), is, p)

got_fits : {X : Type 0} (f : X → Bool) (P : X → Type 0)
    → ((x : X) → f x ≡ true → P x → ⊥) → (xs : List X) → each_fits f xs ≡ true
    → (k : ℕ) (x : X) → slice_get xs k ≡ Some x → P x → ⊥
unfolding each_fits
got_fits f P h [] e k x is p = absurd (let z : ⊥ = cc in z)
got_fits {X} f P h (y ∷ ys) e zero x is p =
    h y (first_holds (f y) (each_fits f ys) e)
    (subst P (let z : ◌≡◌ {A = Option X} (Some y) (Some x) = is in let w : x ≡ y = cc in w) p)
got_fits f P h (y ∷ ys) e (suc k) x is p =
    got_fits f P h ys (second_holds (f y) (each_fits f ys) e) k x is p

-- ---- weights
unfoldable pub size_fits : Size → Bool
size_fits a = ltb a.size number_limit && ltb a.den number_limit

pub size_holds : (a : Size) → size_fits a ≡ true → IsPast a → ⊥
unfolding size_fits
size_holds a e (inl p) =
    let l = ltb-true a.size number_limit (first_holds (ltb a.size number_limit)
    (ltb a.den number_limit) e) in
    omega (arith, l, p)
size_holds a e (inr p) =
    let l = ltb-true a.den number_limit (second_holds (ltb a.size number_limit)
    (ltb a.den number_limit) e) in
    omega (arith, l, p)

unfoldable pub exponents_fit : List ℕ → Bool
exponents_fit [] = true
exponents_fit (n ∷ e) = ltb n (2 ^ 16) && exponents_fit e

exponents_hold : (e : List ℕ) → exponents_fit e ≡ true → FitsMonomial e
unfolding exponents_fit
exponents_hold [] h k l = absurd (omega (arith, l))
exponents_hold (n ∷ e) h zero l =
    ltb-true n (2 ^ 16) (first_holds (ltb n (2 ^ 16)) (exponents_fit e) h)
exponents_hold (n ∷ e) h (suc k) l =
    exponents_hold e (second_holds (ltb n (2 ^ 16)) (exponents_fit e) h) k (omega (arith, l))

-- a weight and exponents
unfoldable pub both_fit : Size → List ℕ → Bool
both_fit a e = size_fits a && exponents_fit e

pub both_hold : (a : Size) (e : List ℕ) → both_fit a e ≡ true → IsPast a ⊎ ¬ (FitsMonomial e) → ⊥
unfolding both_fit
both_hold a e h (inl p) = size_holds a (first_holds (size_fits a) (exponents_fit e) h) p
both_hold a e h (inr n) = n (exponents_hold e (second_holds (size_fits a) (exponents_fit e) h))

abbrev weigh : Terms Fraction → Size
weigh = weight fraction_size

abbrev pub sum_fits : Terms Fraction → Terms Fraction → Bool
sum_fits p q = size_fits (sum_size (weigh p) (weigh q))

abbrev pub product_fits : Terms Fraction → Terms Fraction → Bool
product_fits p q = both_fit (product_size (weigh p) (weigh q)) (plus (degrees p) (degrees q))

abbrev pub composition_fits : List (Terms Fraction) → Terms Fraction → Bool
composition_fits images p =
    both_fit (composition_weight fraction_size p images) (composition_degrees p images)

-- ---- machines
abbrev pub cut_fits : Terms Fraction → Cutting Fraction → Bool
cut_fits p c =
    size_fits (quotient_size (fraction_size c.term.1) (fraction_size (lead_number rationals c.of)))
    && both_fit (sum_size (weigh p) (product_size (fraction_size c.number) (weigh c.of)))
    (plus c.by (degrees c.of))

cut_holds : (p : Terms Fraction) (c : Cutting Fraction) → cut_fits p c ≡ true
    → past.IsPastCut fractions rationals p c → ⊥
cut_holds p c e (inl h) = size_holds _ (first_holds _ _ e) h
cut_holds p c e (inr h) = both_hold _ _ (second_holds _ _ e) h

abbrev pub monic_fits : Terms Fraction → Bool
monic_fits p = size_fits (quotient_size (weigh p) (fraction_size (lead_number rationals p)))

monic_holds : (p : Terms Fraction) → monic_fits p ≡ true
    → past.IsPastMonic fractions rationals p → ⊥
monic_holds p e h = size_holds _ e h.1

abbrev pub start_fits : List (Terms Fraction) → Bool
start_fits gens = each_fits monic_fits gens

pub start_holds : (gens : List (Terms Fraction)) → start_fits gens ≡ true
    → past.IsPastStart fractions rationals gens → ⊥
start_holds gens e s =
    got_fits monic_fits (past.IsPastMonic fractions rationals) monic_holds gens e s.place s.element
    s.at s.past

unfoldable pub reducing_fits : Terms Fraction → Option (Cutting Fraction) → Bool
reducing_fits p (Some c) = cut_fits p c
reducing_fits p None = monic_fits p

reducing_holds : (p : Terms Fraction) (o : Option (Cutting Fraction)) → reducing_fits p o ≡ true
    → past.IsPastReducing fractions rationals p o → ⊥
unfolding reducing_fits
reducing_holds p (Some c) e h = cut_holds p c e h
reducing_holds p None e h = monic_holds p e h

unfoldable pub found_fits : Terms Fraction → Option (Cutting Fraction) → Bool
found_fits p (Some c) = cut_fits p c
found_fits p None = true

unfoldable pub left_fits : List (Terms Fraction) → Option (Terms Fraction) → Bool
left_fits gs (Some p) = found_fits p (find_cut rationals all_places gs p)
left_fits gs None = true

abbrev pub division_fits : List (Terms Fraction) → division.State Fraction → Bool
division_fits gs s = left_fits gs s.current

pub division_holds : (gs : List (Terms Fraction)) (s : division.State Fraction)
    → division_fits gs s ≡ true → past.IsPastDivision fractions rationals gs s → ⊥
unfolding found_fits left_fits
division_holds gs s e h =
    cut_holds h.left h.cutting
    (subst (λ o. found_fits h.left o ≡ true) h.found (subst (λ o. left_fits gs o ≡ true) h.current
    e))
    h.past

abbrev pub pair_fits : List (Terms Fraction) → ℕ × ℕ → Bool
pair_fits gs a =
    sum_fits (get_or gs a.0 []) (get_or gs a.1 [])
    && (exponents_fit (plus (over (multiple (completion.leads gs) a) (lead_of (get_or gs a.0 [])))
    (degrees (get_or gs a.0 [])))
    && exponents_fit (plus (over (multiple (completion.leads gs) a) (lead_of (get_or gs a.1 [])))
    (degrees (get_or gs a.1 []))))

pub pair_holds : (gs : List (Terms Fraction)) (a : ℕ × ℕ) → pair_fits gs a ≡ true
    → past.IsPastPair fractions rationals gs a → ⊥
pair_holds gs a e (inl h) = size_holds _ (first_holds _ _ e) h
pair_holds gs a e (inr (inl h)) = h (exponents_hold _ (first_holds _ _ (second_holds _ _ e)))
pair_holds gs a e (inr (inr h)) = h (exponents_hold _ (second_holds _ _ (second_holds _ _ e)))

unfoldable pub taking_fits : List (Terms Fraction) → List (ℕ × ℕ) → Bool
taking_fits gs [] = true
taking_fits gs (a ∷ w) = pair_fits gs a

taking_holds : (gs : List (Terms Fraction)) (w : List (ℕ × ℕ)) → taking_fits gs w ≡ true
    → past.IsPastTaking fractions rationals gs w → ⊥
unfolding taking_fits
taking_holds gs [] e h = h
taking_holds gs (a ∷ w) e h = pair_holds gs a e h

unfoldable pub acting_fits : List (Terms Fraction) → List (ℕ × ℕ) → Option (Terms Fraction) → Bool
acting_fits gs w (Some p) = reducing_fits p (find_cut rationals all_places gs p)
acting_fits gs w None = taking_fits gs (skip_covered (completion.leads gs) w)

pub acting_holds : (gs : List (Terms Fraction)) (w : List (ℕ × ℕ)) (o : Option (Terms Fraction))
    → acting_fits gs w o ≡ true → past.IsPastActing fractions rationals gs w o → ⊥
unfolding acting_fits
acting_holds gs w (Some p) e h = reducing_holds p (find_cut rationals all_places gs p) e h
acting_holds gs w None e h = taking_holds gs (skip_covered (completion.leads gs) w) e h

unfoldable pub tailing_fits : Option (TailCut Fraction) → Bool
tailing_fits None = true
tailing_fits (Some c) = cut_fits c.from c.cutting

tailing_holds : (o : Option (TailCut Fraction)) → tailing_fits o ≡ true
    → past.IsPastTailing fractions rationals o → ⊥
unfolding tailing_fits
tailing_holds None e h = h
tailing_holds (Some c) e h = cut_holds c.from c.cutting e h

unfoldable pub dropping_fits : List (Terms Fraction) → Option ℕ → Bool
dropping_fits gs (Some k) = true
dropping_fits gs None = tailing_fits (tail_cut rationals gs)

abbrev pub tidying_fits : List (Terms Fraction) → Bool
tidying_fits gs = dropping_fits gs (drop_place rationals gs)

pub tidying_holds : (gs : List (Terms Fraction)) → tidying_fits gs ≡ true
    → past.IsPastTidying fractions rationals gs → ⊥
unfolding dropping_fits
tidying_holds gs e h = go (drop_place rationals gs) e h
  where
    go : (o : Option ℕ) → dropping_fits gs o ≡ true → past.IsPastDropping fractions rationals gs o
        → ⊥
    go (Some k) e h = h
    go None e h = tailing_holds (tail_cut rationals gs) e h

-- behind a completion that has ended
unfoldable pub behind_fits : {X : Type 0} → Option X → List (Terms Fraction) → Bool
behind_fits None gs = tidying_fits gs
behind_fits (Some x) gs = true

module _ (O : Rank) (part : List (Terms Fraction) → List (Terms Fraction)) where
  unfoldable pub elimination_fits : elimination.State Fraction → Bool
  elimination_fits (completing s) =
      acting_fits s.basis s.waiting s.current
      && behind_fits (completion.next rationals O s) (by_lead grevlex (part s.basis))
  elimination_fits (tidying_up gs) = tidying_fits gs

  pub elimination_holds : (s : elimination.State Fraction) → elimination_fits s ≡ true
      → past.IsPastElimination fractions rationals O grevlex part s → ⊥
  unfolding elimination_fits behind_fits
  elimination_holds (completing s) e (inl h) =
      acting_holds s.basis s.waiting s.current (first_holds _ _ e) h
  elimination_holds (completing s) e (inr (ended, h)) =
      tidying_holds (by_lead grevlex (part s.basis))
      (subst (λ o. behind_fits o (by_lead grevlex (part s.basis)) ≡ true) ended
      (second_holds _ _ e)) h
  elimination_holds (tidying_up gs) e h = tidying_holds gs e h

-- ---- tasks
unfoldable pub less_fits : List (Terms Fraction) → List (Terms Fraction) → Bool
less_fits [] ys = true
less_fits (x ∷ xs) [] = true
less_fits (x ∷ xs) (y ∷ ys) = sum_fits x y && less_fits xs ys

less_holds : (xs ys : List (Terms Fraction)) → less_fits xs ys ≡ true → IsPastLess xs ys → ⊥
unfolding less_fits
less_holds [] ys e h = h
less_holds (x ∷ xs) [] e h = h
less_holds (x ∷ xs) (y ∷ ys) e (inl h) = size_holds _ (first_holds _ _ e) h
less_holds (x ∷ xs) (y ∷ ys) e (inr h) = less_holds xs ys (second_holds _ _ e) h

pub compositions_hold : (images ps : List (Terms Fraction))
    → each_fits (composition_fits images) ps ≡ true
    → Any (λ p. IsPastComposition fractions p images) ps → ⊥
compositions_hold images ps e h =
    any_fits (composition_fits images) (λ p. IsPastComposition fractions p images)
    (λ p c past. both_hold _ _ c past) ps e h

abbrev pub graph_fits : ℕ → ℕ → ℕ → List (Terms Fraction) → List (Terms Fraction)
    → List (Terms Fraction) → Bool
graph_fits k t m before fs gs =
    each_fits (composition_fits before) gs
    && (each_fits (composition_fits (images_behind k (k + t + m) before)) fs
    && less_fits (drop (k + t) (variables ℚ (k + t + m)))
    (map (λ f. collect rationals grevlex (at_before k t m before f)) fs))

graph_holds : (k t m : ℕ) (before fs gs : List (Terms Fraction))
    → graph_fits k t m before fs gs ≡ true → IsPastGraph k t m before fs gs → ⊥
graph_holds k t m before fs gs e (inl h) = compositions_hold before gs (first_holds _ _ e) h
graph_holds k t m before fs gs e (inr (inl h)) =
    compositions_hold (images_behind k (k + t + m) before) fs
    (first_holds _ _ (second_holds _ _ e)) h
graph_holds k t m before fs gs e (inr (inr h)) =
    less_holds (drop (k + t) (variables ℚ (k + t + m)))
    (map (λ f. collect rationals grevlex (at_before k t m before f)) fs)
    (second_holds _ _ (second_holds _ _ e)) h

unfoldable pub orbit_fits : ℕ → Form → ℕ → List (Terms Fraction) → Bool
orbit_fits zero f m gs = each_fits (composition_fits (inverse_of_form f)) gs
orbit_fits (suc d) f m gs =
    graph_fits (front (length f.base)) (passing m (passes f m)) m
    (map (collect rationals grevlex) (form_before f m (passes f m))) f.polys gs

orbit_holds : (d : ℕ) (f : Form) (m : ℕ) (gs : List (Terms Fraction)) → orbit_fits d f m gs ≡ true
    → IsPastOrbitSince d f m gs → ⊥
unfolding orbit_fits
orbit_holds zero f m gs e h = compositions_hold (inverse_of_form f) gs e h
orbit_holds (suc d) f m gs e h =
    graph_holds (front (length f.base)) (passing m (passes f m)) m
    (map (collect rationals grevlex) (form_before f m (passes f m))) f.polys gs e h

module _ (A : Setting) where
  abbrev pub meet_fits : Work → List (Terms Fraction) → List (Terms Fraction) → Bool
  meet_fits w so_far hs =
      each_fits (λ g. product_fits (the_t A.arity) (in_front 1 g)) so_far
      && (each_fits (λ g. product_fits (one_less_t A.arity) (in_front 1 g)) hs
      && start_fits (starting A w))

  meet_holds : (w : Work) (so_far hs : List (Terms Fraction)) → meet_fits w so_far hs ≡ true
      → IsPastMeet A w so_far hs → ⊥
  meet_holds w so_far hs e (inl h) =
      any_fits (λ g. product_fits (the_t A.arity) (in_front 1 g))
      (λ g. IsPastProduct fractions (the_t A.arity) (in_front 1 g))
      (λ g c past. both_hold _ _ c past) so_far (first_holds _ _ e) h
  meet_holds w so_far hs e (inr (inl h)) =
      any_fits (λ g. product_fits (one_less_t A.arity) (in_front 1 g))
      (λ g. IsPastProduct fractions (one_less_t A.arity) (in_front 1 g))
      (λ g c past. both_hold _ _ c past) hs (first_holds _ _ (second_holds _ _ e)) h
  meet_holds w so_far hs e (inr (inr h)) =
      start_holds (starting A w) (second_holds _ _ (second_holds _ _ e)) h

  unfoldable pub work_fits : Work → Bool
  work_fits starts = start_fits (starting A starts)
  work_fits (iteration k b n gs before so_far) = false
  work_fits (iteration_meet k b n gs so_far ks) = meet_fits (iteration_meet k b n gs so_far ks)
      so_far ks
  work_fits (orbit k b gs so_far) =
      orbit_fits (form_of A b).since (form_of A b) A.arity gs
      && start_fits (starting A (orbit k b gs so_far))
  work_fits (meet k b gs so_far hs) = meet_fits (meet k b gs so_far hs) so_far hs

  pub work_holds : (w : Work) → work_fits w ≡ true → rounds.IsPastStarting A w → ⊥
  unfolding work_fits
  work_holds starts e h = start_holds (starting A starts) e h
  work_holds (iteration k b n gs before so_far) e h = absurd (let z : ⊥ = cc in z)
  work_holds (iteration_meet k b n gs so_far ks) e h =
      meet_holds (iteration_meet k b n gs so_far ks) so_far ks e h
  work_holds (orbit k b gs so_far) e (inl h) =
      orbit_holds (form_of A b).since (form_of A b) A.arity gs (first_holds _ _ e) h
  work_holds (orbit k b gs so_far) e (inr h) =
      start_holds (starting A (orbit k b gs so_far)) (second_holds _ _ e) h
  work_holds (meet k b gs so_far hs) e h = meet_holds (meet k b gs so_far hs) so_far hs e h

  unfoldable pub numbers_fit : State → Bool
  numbers_fit fresh = true
  numbers_fit (working w s) = work_fits w && elimination_fits (order A w) (free_part (block A w)) s
  numbers_fit (closing k b i gs s) =
      composition_fits (get_or A.maps b []) (get_or gs i []) && division_fits gs s
  numbers_fit (turning k gs) = true
  numbers_fit (asking k gs s) = division_fits gs s

  pub numbers_hold : (s : State) → numbers_fit s ≡ true → rounds.IsPast A s → ⊥
  unfolding numbers_fit
  numbers_hold fresh e (inl h) = h
  numbers_hold fresh e (inr h) = h
  numbers_hold (working w s) e (inl h) = work_holds w (first_holds _ _ e) h
  numbers_hold (working w s) e (inr h) =
      elimination_holds (order A w) (free_part (block A w)) s (second_holds _ _ e) h
  numbers_hold (closing k b i gs s) e (inl h) = both_hold _ _ (first_holds _ _ e) h
  numbers_hold (closing k b i gs s) e (inr h) = division_holds gs s (second_holds _ _ e) h
  numbers_hold (turning k gs) e (inl h) = h
  numbers_hold (turning k gs) e (inr h) = h
  numbers_hold (asking k gs s) e (inl h) = h
  numbers_hold (asking k gs s) e (inr h) = division_holds gs s e h

  unfoldable pub state_fits : State → Bool
  state_fits s = ltb (task_length A s) (suc most_terms) && numbers_fit s

  pub state_holds : (s : State) → state_fits s ≡ true → rounds.IsPast A s → ⊥
  unfolding state_fits
  state_holds s e h = numbers_hold s (second_holds _ _ e) h

  pub state_short : (s : State) → state_fits s ≡ true → IsLong A s → ⊥
  unfolding state_fits
  state_short s e h =
      let l = ltb-true (task_length A s) (suc most_terms) (first_holds _ _ e) in
      omega (arith, l, h)

-- ---- all states of a run
module _ {S E : Type 0} (next : S → Option (E × S)) (test : S → Bool) where
  unfoldable pub then_fit : (S → Bool) → Option (E × S) → Bool
  then_fit f None = true
  then_fit f (Some (e, t)) = f t

  unfoldable pub all_fit : ℕ → S → Bool
  all_fit zero s = test s && not (is_some (next s))
  all_fit (suc n) s = test s && then_fit (all_fit n) (next s)

  pub each_fits_on : (n : ℕ) (u : S) → all_fit n u ≡ true → (es : List E) (s : S)
      → IsRun next u es s → test s ≡ true
  unfolding IsRun all_fit then_fit
  each_fits_on zero u e [] s r = subst (λ v. test v ≡ true) r (first_holds _ _ e)
  each_fits_on (suc n) u e [] s r = subst (λ v. test v ≡ true) r (first_holds _ _ e)
  each_fits_on zero u e (f ∷ es) s (v, m, r) = absurd (none m (second_holds _ _ e))
    where
      none : next u ≡ Some (f, v) → not (is_some (next u)) ≡ true → ⊥
      none m h = (let z : false ≡ true = subst (λ o. not (is_some o) ≡ true) m h in cc)
  each_fits_on (suc n) u e (f ∷ es) s (v, m, r) =
      each_fits_on n v (subst (λ o. then_fit (all_fit n) o ≡ true) m (second_holds _ _ e)) es s r

pub never : (A : Setting) (n : ℕ) (u : State) → all_fit (moves A) (state_fits A) n u ≡ true
    → (es : List Entry) (s : State) → IsRun (moves A) u es s → rounds.IsPast A s → ⊥
never A n u e es s r = state_holds A s (each_fits_on (moves A) (state_fits A) n u e es s r)

pub never_long : (A : Setting) (n : ℕ) (u : State) → all_fit (moves A) (state_fits A) n u ≡ true
    → (es : List Entry) (s : State) → IsRun (moves A) u es s → IsLong A s → ⊥
never_long A n u e es s r = state_short A s (each_fits_on (moves A) (state_fits A) n u e es s r)
