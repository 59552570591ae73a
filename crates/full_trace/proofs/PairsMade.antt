-- Divisions of the S-polynomials of pairs one after another, as the code makes them.
--   pair_made              one that has ended, behind others
--   pair_refused, pair_lost     one that was refused; one whose row found no room
-- Of one pair:
--   element                    an element of the list
--   is_pair, past_pair     its S-polynomial; where that is past
--   unmade, unnoted        refusals of that, and of its entry
--   pair_stops, pair_ends  the division behind that, refused, and ended
use Rattle.std.proofs.Common.{◌≡◌, ◌≢◌, ◌⊎◌, inl, inr, ℕ, suc, ◌+◌, ◌<◌, List, [], ◌∷◌, ◌++◌, map, take, drop, length, get_or, Result, Ok, Err, IfErr, refl, sym, ap, ap₂, subst, ◌∙◌, take-append-drop, drop-cons}
use Rattle.std.specs.Global.{Vec}
use Rattle.std.specs.Prelude.{None}
use Rattle.std.specs.Result.{IsErrAnd}
use Rattle.std.specs.declared.cmp.PartialEq as PartialEq
use Rattle.std.proofs.lemmas.List.{map-append}
use Rattle.algebra.proofs.Lists.{take_one}
use Rattle.algebra.specs.Fraction.{Fraction, ℚ, fractions, rationals}
use Rattle.polynomials.specs.Exponent.{lcm}
use Rattle.polynomials.specs.Order.{Rank}
use Rattle.polynomials.specs.Terms.{Terms, negate}
use Rattle.polynomials.specs.Weight.{IsPastSum}
use Rattle.machines.specs.Collect.{collect}
use Rattle.machines.specs.Completion.{State, s_polynomial}
use Rattle.machines.specs.Cut.{lead_of}
use Rattle.machines.specs.High.{IsPastRaised}
use Rattle.machines.specs.Journal.{Entry, Journal, units_of}
use Rattle.machines.specs.Past.{IsPastPair}
use Rattle.machines.specs.Machine.{Refusal, out_of_memory, done, stopped, Stops, Ran}
use Rattle.machines.specs.Division as division
use Rattle.machines.specs.Machines as machines
use Rattle.machines.specs.Work.{WorkToEnd}
use Rattle.monos.specs.declared.order.Order as Order
use Rattle.poly.specs.Seen.{terms_in, terms_each}
use Rattle.ring_laws.specs.declared.ArithmeticError.{ArithmeticError}
use Rattle.ring_laws.specs.declared.ArithmeticError.TheVariants as arithmetic_error
use Rattle.journal.specs.declared.MeterError as meter
use Rattle.journal.specs.declared.MeterError.TheVariants as meter_error
use Rattle.divide.specs.declared.EngineError.{EngineError}
use Rattle.divide.specs.Current.{AreDivisors}
use Rattle.divide.specs.Division.{division_of, HasCofactors}
use Rattle.divide.specs.Errors.{of_arithmetic, of_meter}
use Rattle.divide.specs.Outcomes.{refusal_of}
use Rattle.complete.specs.Raising.{raised_to}
use Rattle.complete.proofs.Coming.{s_polynomial_is, pair_weight}
use Rattle.complete.proofs.Drawn.{got, lead_got}
use Rattle.corollaries.specs.Rows.{with_pair, ArePairsDivided, IsRefusedInPairs}
use Rattle.corollaries.proofs.AwaitingRows.{pair_divided_behind}
use Rattle.task_lists.specs.Rows.{rows_of}
use Rattle.full_trace.specs.Rows.{IsPairDivided, IsPairRefused}
use Rattle.full_trace.proofs.RowsMade.{Polynomial, Divided}

at_pair : {X : Type 0} (xs : List X) (i : ℕ) (x : X) → i < length xs → x ≡ get_or xs i x
    → xs ≡ take i xs ++ x ∷ drop (suc i) xs
at_pair xs i x within is = sym (take-append-drop i xs)
    ∙ ap (λ ys. take i xs ++ ys) (drop-cons xs i x within
    ∙ ap (λ y. y ∷ drop (suc i) xs) (sym is))

module _ {O : Type 0} {k : Order.Ghosts O} {l : PartialEq.Ghosts O} {R : Rank}
    {gs : List (Terms Fraction)} (ab : List (ℕ × ℕ)) (i : ℕ) (a : ℕ × ℕ) (within : i < length ab)
    (is : a ≡ get_or ab i a) (rows : List (Vec (Polynomial O k l))) (first : List Entry)
    (before : Journal) (so_far : ArePairsDivided R gs (take i ab) (rows_of rows) first
    before.entries) where
  pub pair_made : (row : Vec (Polynomial O k l)) {after : List Entry}
      → IsPairDivided R gs a (terms_each row.items) before.entries after
      → (news : List (Vec (Polynomial O k l))) → news ≡ rows ++ row ∷ []
      → ArePairsDivided R gs (take (i + 1) ab) (rows_of news) first after
  pair_made row {after = after} d news new =
      subst (λ z. ArePairsDivided R gs z (rows_of news) first after)
      (sym (take_one ab i a within is))
      (subst (λ z. ArePairsDivided R gs (take i ab ++ a ∷ []) z first after)
      (sym (ap rows_of new
      ∙ map-append (λ (row : Vec (Polynomial O k l)).
      terms_each row.items) rows (row ∷ [])))
      (pair_divided_behind R gs (take i ab) (rows_of rows) a (terms_each row.items) first
      before.entries after so_far d))

  pub pair_refused : {after : Journal} (r : Refusal) → IsPairRefused R gs a before after r
      → IsRefusedInPairs R gs ab first after r
  pair_refused r stops = record {
    earlier = take i ab;
    here = a;
    later = drop (suc i) ab;
    is = at_pair ab i a within is;
    rows = rows_of rows;
    between = before;
    divided = so_far;
    stops = stops;
  }

  pub pair_lost : (row : List (Terms Fraction)) (after : Journal)
      → IsPairDivided R gs a row before.entries after.entries
      → IsRefusedInPairs R gs ab first after out_of_memory
  pair_lost row after d = pair_refused out_of_memory (inr (
    record { limit = before.limit; entries = with_pair R gs a before.entries },
    refl,
    record { at = d.last; work = d.finished.work },
  ))

-- ---- one pair
module _ {O : Type 0} {k : Order.Ghosts O} {l : PartialEq.Ghosts O} where
  pub element : {o : O} {m : ℕ} (list : List (Polynomial O k l)) → AreDivisors o m list
      → (i : ℕ) (p : Polynomial O k l) → i < length list → p ≡ get_or list i p
      → (p.order ≡ o) × (p.arity ≡ m) × (terms_in p ≢ [])
  element {o = o} {m = m} list like i p within is =
      subst (λ (q : Polynomial O k l). (q.order ≡ o) × (q.arity ≡ m) × (terms_in q ≢ [])) (sym is)
      (like i p within)

  module _ (o : O) (m : ℕ) (list : List (Polynomial O k l)) (like : AreDivisors o m list)
      (a : ℕ × ℕ) (inside : (a.0 < length list) × (a.1 < length list)) (f g : Polynomial O k l)
      (f_is : f ≡ get_or list a.0 f) (g_is : g ≡ get_or list a.1 g) (e : List ℕ)
      (e_is : e ≡ lcm (lead_of (terms_in f)) (lead_of (terms_in g))) where
    abbrev here : State Fraction
    here = record {
      basis = terms_each list;
      sugars = [];
      waiting = [];
      current = None;
      pair_sugar = 0;
    }

    multiple_is : lcm (get_or (map lead_of (terms_each list)) a.0 [])
        (get_or (map lead_of (terms_each list)) a.1 []) ≡ e
    multiple_is = ap₂ lcm (lead_got terms_in list a.0 f inside.0 f_is)
        (lead_got terms_in list a.1 g inside.1 g_is) ∙ sym e_is

    pub is_pair : (p : Terms Fraction)
        → p ≡ collect rationals (k.order f.order) (raised_to fractions e (terms_in f)
        ++ negate ℚ (raised_to fractions e (terms_in g)))
        → p ≡ s_polynomial rationals (k.order o) (terms_each list) a
    is_pair p h = s_polynomial_is fractions (k.order o) here a e (terms_in f)
        (terms_in g) (got terms_in list a.0 f inside.0 f_is) (got terms_in list a.1 g inside.1 g_is)
        multiple_is p (h ∙ ap (λ q. collect rationals (k.order q) (raised_to fractions e
        (terms_in f) ++ negate ℚ (raised_to fractions e (terms_in g))))
        (element list like a.0 f inside.0 f_is).0)

    pub past_pair : IsPastSum fractions (terms_in f) (terms_in g)
        ⊎ IsPastRaised e (terms_in f) ⊎ IsPastRaised e (terms_in g)
        → IsPastPair fractions rationals (terms_each list) a
    past_pair h = pair_weight fractions (k.order o) here a e (terms_in f)
        (terms_in g) (got terms_in list a.0 f inside.0 f_is)
        (got terms_in list a.1 g inside.1 g_is) multiple_is h

module _ (R : Rank) (gs : List (Terms Fraction)) (a : ℕ × ℕ) {before after : Journal}
    (same : after ≡ before) {X : Type 0} where
  pub unmade : (r : Result X EngineError) (e : ArithmeticError)
      → IsErrAnd r (λ y. y ≡ of_arithmetic e)
      → (e ≡ arithmetic_error.Wide → IsPastPair fractions rationals gs a)
      → IfErr r (λ y. IsPairRefused R gs a before after (refusal_of y))
  unmade (Ok x) e h w = absurd h
  unmade (Err y) arithmetic_error.Wide h w =
      subst (λ z. IsPairRefused R gs a before after (refusal_of z)) (sym h) (inl (same, w refl))
  unmade (Err y) arithmetic_error.Memory h w =
      subst (λ z. IsPairRefused R gs a before after (refusal_of z)) (sym h) (inl (same, tt))

  pub unnoted : (r : Result X EngineError) (e : meter.MeterError)
      → IsErrAnd r (λ y. y ≡ of_meter e)
      → (e ≡ meter_error.Budget → units_of before.entries ≡ before.limit)
      → IfErr r (λ y. IsPairRefused R gs a before after (refusal_of y))
  unnoted (Ok x) e h w = absurd h
  unnoted (Err y) meter_error.Budget h w =
      subst (λ z. IsPairRefused R gs a before after (refusal_of z)) (sym h) (inl (same, w refl))
  unnoted (Err y) meter_error.Memory h w =
      subst (λ z. IsPairRefused R gs a before after (refusal_of z)) (sym h) (inl (same, tt))

module _ {O : Type 0} {k : Order.Ghosts O} {l : PartialEq.Ghosts O} {o : O}
    (list : List (Polynomial O k l)) (a : ℕ × ℕ) (p : Polynomial O k l) (order_is : p.order ≡ o)
    (is : terms_in p ≡ s_polynomial rationals (k.order o) (terms_each list) a)
    (before noted after : Journal) (noted_is : noted.entries ≡ with_pair (k.order o)
    (terms_each list) a before.entries) where
  pub pair_stops : {G : Divided O k l → division.State Fraction → Type 0} (r : Refusal)
      → Ran (division_of p list) G noted after (stopped r)
      → IsPairRefused (k.order o) (terms_each list) a before after r
  pair_stops r ran = inr (
    noted,
    noted_is,
    subst (λ ts. Stops (machines.division fractions (k.order o) (terms_each list) ts) noted after r)
        is (subst (λ q. Stops (machines.division fractions (k.order q) (terms_each list)
        (terms_in p)) noted after r) order_is ran.to),
  )

  pub pair_ends : (d : Divided O k l)
      → Ran (division_of p list) (HasCofactors p.order p.arity) noted after (done d)
      → IsPairDivided (k.order o) (terms_each list) a (terms_each d.cofactors.items)
      before.entries after.entries
  pair_ends d ran = record {
    last = ran.to.last;
    finished = subst (λ es. WorkToEnd (division.next rationals (k.order o) (terms_each list))
        (division.initial_state (terms_each list) (s_polynomial rationals (k.order o)
        (terms_each list) a))
        es after.entries ran.to.last) noted_is
        (subst (λ ts. WorkToEnd (division.next rationals (k.order o) (terms_each list))
        (division.initial_state (terms_each list) ts) noted.entries after.entries ran.to.last) is
        (subst (λ q. WorkToEnd (division.next rationals (k.order q) (terms_each list))
        (division.initial_state (terms_each list) (terms_in p)) noted.entries after.entries
        ran.to.last)
        order_is ran.to.finished));
    is = ran.to.gives.cofactors;
  }
