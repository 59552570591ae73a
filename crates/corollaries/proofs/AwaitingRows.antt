-- Divisions of polynomials one after another (specs/Rows), in a task of a trace.
--   divided_behind, pair_divided_behind      one more behind others; of pairs, one pair more
--   list_rows_await, list_rows_refused     by the completed list
--   pair_rows_await, pair_rows_refused     of the S-polynomials of pairs
--   link_rows_await, link_rows_refused     by what is given
--   orbit_dividends_are, meet_dividends_are    what is divided by the completed list of an orbit or of a meet
--   links_end                  behind all divisions the task has ended with its stage
use Rattle.std.proofs.Common.{◌≡◌, ◌⊎◌, inl, inr, ℕ, List, [], ◌∷◌, ◌++◌, map, length, Some, None, refl, sym, ap, subst, ◌∙◌, append-nil, append_assoc}
use Rattle.std.proofs.lemmas.List.{map-append}
use Rattle.algebra.specs.Fraction.{Fraction, fractions, rationals}
use Rattle.polynomials.specs.Order.{Rank, grevlex}
use Rattle.polynomials.specs.Terms.{Terms}
use Rattle.machines.specs.Completion.{s_polynomial}
use Rattle.machines.specs.Journal.{Entry, Journal}
use Rattle.machines.specs.Machine.{Refusal, too_wide, out_of_units, out_of_memory, Stops}
use Rattle.machines.specs.Machines as machines
use Rattle.rounds.specs.Analysis.{Setting, Work, orbit, meet, order, starting}
use Rattle.rounds.specs.Past.{task_of_work}
use Rattle.corollaries.specs.Representation.{pairs_of}
use Rattle.corollaries.specs.Coming.{IsGoing, Comes, Awaits, IsStopped, IsOutOf, Refuses}
use Rattle.corollaries.specs.Followed.{IsPastDividends, IsPastDivided}
use Rattle.corollaries.specs.Rows.{IsDividedIn, AreDivided, IsRefusedIn, with_pair, ArePairsDivided, IsRefusedAt, IsRefusedInPairs}
use Rattle.corollaries.specs.Trace.{Dividend, Results, with_stage, alone, list_dividends, stage_of, after, link_from, divide_from}
use Rattle.corollaries.proofs.Awaiting.{dividend_awaits, dividend_refused, pair_stopped, pair_out, s_polynomial_awaits, s_polynomial_refused, link_awaits, link_refused}

module _ (O : Rank) (gs : List (Terms Fraction)) where
  pub divided_behind : (ps : List (Terms Fraction)) (rows : List (List (Terms Fraction)))
      (p : Terms Fraction) (row : List (Terms Fraction)) (before between after : List Entry)
      → AreDivided O gs ps rows before between → IsDividedIn O gs p row between after
      → AreDivided O gs (ps ++ p ∷ []) (rows ++ row ∷ []) before after
  unfolding AreDivided
  divided_behind [] [] p row before between after e d =
      (after, subst (λ es. IsDividedIn O gs p row es after) e d, refl)
  divided_behind [] (r ∷ rows) p row before between after e d = absurd e
  divided_behind (q ∷ ps) [] p row before between after e d = absurd e
  divided_behind (q ∷ ps) (r ∷ rows) p row before between after (mid, here, rest) d =
      (mid, here, divided_behind ps rows p row mid between after rest d)

  pub pair_divided_behind : (ab : List (ℕ × ℕ)) (rows : List (List (Terms Fraction)))
      (a : ℕ × ℕ) (row : List (Terms Fraction)) (before between after : List Entry)
      → ArePairsDivided O gs ab rows before between
      → IsDividedIn O gs (s_polynomial rationals O gs a) row (with_pair O gs a between) after
      → ArePairsDivided O gs (ab ++ a ∷ []) (rows ++ row ∷ []) before after
  unfolding ArePairsDivided
  pair_divided_behind [] [] a row before between after e d = (
    after,
    subst (λ es. IsDividedIn O gs (s_polynomial rationals O gs a) row
        (with_pair O gs a es) after) e d,
    refl,
  )
  pair_divided_behind [] (r ∷ rows) a row before between after e d = absurd e
  pair_divided_behind (b ∷ ab) [] a row before between after e d = absurd e
  pair_divided_behind (b ∷ ab) (r ∷ rows) a row before between after (mid, here, rest) d =
      (mid, here, pair_divided_behind ab rows a row mid between after rest d)

module _ (A : Setting) (rounds : ℕ) (done : Results) (w : Work) where
  -- ---- by the completed list
  module _ (gs : List (Terms Fraction)) (left : List Dividend) where
    abbrev ListAwaited : List (List (Terms Fraction)) → List Dividend → List Entry → Type 0
    ListAwaited rows js es = Awaits A rounds es (task_of_work w)
        (divide_from A rounds done w gs rows js) (IsPastDivided A w gs js)

    pub list_rows_await : (ps : List (Terms Fraction)) (given rows : List (List (Terms Fraction)))
        (before after : List Entry) → Awaits A rounds before (task_of_work w)
        (divide_from A rounds done w gs given (alone A ps ++ left))
        (IsPastDivided A w gs (alone A ps ++ left))
        → AreDivided (order A w) gs ps rows before after
        → Awaits A rounds after (task_of_work w)
        (divide_from A rounds done w gs (given ++ rows) left) (IsPastDivided A w gs left)
    unfolding AreDivided
    list_rows_await [] given [] before after a e =
        subst (ListAwaited (given ++ []) left) (sym e)
        (subst (λ rows. ListAwaited rows left before) (sym (append-nil given)) a)
    list_rows_await [] given (r ∷ rows) before after a e = absurd e
    list_rows_await (p ∷ ps) given [] before after a e = absurd e
    list_rows_await (p ∷ ps) given (r ∷ rows) before after a (mid, here, rest) =
        subst (λ z. ListAwaited z left after) (append_assoc given (r ∷ []) rows)
        (list_rows_await ps (given ++ r ∷ []) rows mid after
        (subst (λ q. ListAwaited (given ++ q ∷ []) (alone A ps ++ left) mid) (sym here.is)
        (dividend_awaits A rounds done w gs given (alone A ps ++ left) p before mid here.last a
        here.finished)) rest)

    alone_split : (earlier later : List (Terms Fraction)) (p : Terms Fraction)
        → alone A (earlier ++ p ∷ later) ++ left
        ≡ alone A earlier ++ ((None, p) ∷ (alone A later ++ left))
    alone_split earlier later p =
        ap (λ z. z ++ left) (map-append (λ q. (None, q)) earlier (p ∷ later))
        ∙ append_assoc (alone A earlier) (alone A (p ∷ later)) left

  pub list_rows_refused : (gs : List (Terms Fraction)) (left : List Dividend)
      (ps : List (Terms Fraction)) (given : List (List (Terms Fraction))) (before : List Entry)
      (after : Journal) → Awaits A rounds before (task_of_work w)
      (divide_from A rounds done w gs given (alone A ps ++ left))
      (IsPastDivided A w gs (alone A ps ++ left)) → (r : Refusal)
      → IsRefusedIn (order A w) gs ps before after r
      → Refuses A rounds (task_of_work w) after r
  list_rows_refused gs left ps given before after a r x =
      dividend_refused A rounds done w gs (given ++ x.rows) (alone A x.later ++ left) x.here
      x.between after (list_rows_await gs ((None, x.here) ∷ (alone A x.later ++ left)) x.earlier
      given x.rows before x.between.entries
      (subst (λ js. ListAwaited gs left given js before)
      (ap (λ z. alone A z ++ left) x.is ∙ alone_split gs left x.earlier x.later x.here) a)
      x.divided) r x.stops

  -- ---- of pairs, behind the others
  module _ (gs : List (Terms Fraction)) where
    abbrev pairs : List (ℕ × ℕ) → List Dividend
    pairs ab = map (λ a. (Some a, s_polynomial rationals (order A w) gs a)) ab

    abbrev PairsAwaited : List (List (Terms Fraction)) → List Dividend → List Entry → Type 0
    PairsAwaited rows js es = Awaits A rounds es (task_of_work w)
        (divide_from A rounds done w gs rows js) (IsPastDivided A w gs js)

    pub pair_rows_await : (left : List Dividend) (ab : List (ℕ × ℕ))
        (given rows : List (List (Terms Fraction))) (before after : List Entry)
        → PairsAwaited given (pairs ab ++ left) before
        → ArePairsDivided (order A w) gs ab rows before after
        → PairsAwaited (given ++ rows) left after
    unfolding ArePairsDivided
    pair_rows_await left [] given [] before after a e =
        subst (PairsAwaited (given ++ []) left) (sym e)
        (subst (λ rows. PairsAwaited rows left before) (sym (append-nil given)) a)
    pair_rows_await left [] given (r ∷ rows) before after a e = absurd e
    pair_rows_await left (b ∷ ab) given [] before after a e = absurd e
    pair_rows_await left (b ∷ ab) given (r ∷ rows) before after a (mid, here, rest) =
        subst (λ z. PairsAwaited z left after) (append_assoc given (r ∷ []) rows)
        (pair_rows_await left ab (given ++ r ∷ []) rows mid after
        (subst (λ q. PairsAwaited (given ++ q ∷ []) (pairs ab ++ left) mid) (sym here.is)
        (s_polynomial_awaits A rounds done w gs given (pairs ab ++ left)
        (s_polynomial rationals (order A w) gs b) b before a mid here.last here.finished)) rest)

    pairs_split : (left : List Dividend) (earlier later : List (ℕ × ℕ)) (b : ℕ × ℕ)
        → pairs (earlier ++ b ∷ later) ++ left
        ≡ pairs earlier ++ ((Some b, s_polynomial rationals (order A w) gs b)
        ∷ (pairs later ++ left))
    pairs_split left earlier later b =
        ap (λ z. z ++ left) (map-append (λ a. (Some a, s_polynomial rationals (order A w) gs a))
        earlier (b ∷ later))
        ∙ append_assoc (pairs earlier) (pairs (b ∷ later)) left

    pub pair_rows_refused : (left : List Dividend) (ab : List (ℕ × ℕ))
        (given : List (List (Terms Fraction))) (before : List Entry) (after : Journal)
        → PairsAwaited given (pairs ab ++ left) before → (r : Refusal)
        → IsRefusedInPairs (order A w) gs ab before after r
        → Refuses A rounds (task_of_work w) after r
    pair_rows_refused left ab given before after a r x = go r x.stops
      where
        here : Awaits A rounds x.between.entries (task_of_work w)
            (divide_from A rounds done w gs (given ++ x.rows)
            ((Some x.here, s_polynomial rationals (order A w) gs x.here)
            ∷ (pairs x.later ++ left)))
            (IsPastDivided A w gs ((Some x.here, s_polynomial rationals (order A w) gs x.here)
            ∷ (pairs x.later ++ left)))
        here = pair_rows_await ((Some x.here, s_polynomial rationals (order A w) gs x.here)
            ∷ (pairs x.later ++ left)) x.earlier given x.rows before x.between.entries
            (subst (λ js. PairsAwaited given js before)
            (ap (λ z. pairs z ++ left) x.is ∙ pairs_split left x.earlier x.later x.here) a)
            x.divided

        go : (q : Refusal) → ((after ≡ x.between) × IsRefusedAt (order A w) gs x.here x.between q)
            ⊎ ((noted : Journal)
            × (noted.entries ≡ with_pair (order A w) gs x.here x.between.entries)
            × Stops (machines.division fractions (order A w) gs
            (s_polynomial rationals (order A w) gs x.here)) noted after q)
            → Refuses A rounds (task_of_work w) after q
        go too_wide (inl (e, p)) =
            subst (λ (j : Journal). IsStopped A rounds (task_of_work w) j.entries) (sym e)
            (pair_stopped A rounds done w gs (given ++ x.rows) (pairs x.later ++ left)
            (s_polynomial rationals (order A w) gs x.here) x.here x.between.entries here p)
        go out_of_units (inl (e, p)) =
            subst (λ (j : Journal). IsOutOf A rounds j.limit j.entries) (sym e)
            (pair_out A rounds done w gs (given ++ x.rows) (pairs x.later ++ left)
            (s_polynomial rationals (order A w) gs x.here) x.here x.between.entries here
            x.between.limit p)
        go out_of_memory (inl (e, p)) =
            subst (λ (j : Journal). IsGoing A rounds j.entries) (sym e)
            (record { state = here.state; run = here.run })
        go q (inr (noted, e, s)) =
            s_polynomial_refused A rounds done w gs (given ++ x.rows) (pairs x.later ++ left)
            (s_polynomial rationals (order A w) gs x.here) x.here x.between.entries here noted
            after e q s

  -- ---- by what is given
  module _ (list : List (Terms Fraction)) (told : List (List (Terms Fraction)))
      (gs out : List (Terms Fraction)) where
    abbrev LinksAwaited : List (List (Terms Fraction)) → List Dividend → List Entry → Type 0
    LinksAwaited rows js es = Awaits A rounds es (task_of_work w)
        (link_from A rounds done w (record { list = list; rows = told }) out rows js)
        (IsPastDividends grevlex out js ⊥)

    pub link_rows_await : (left : List Dividend) (ps : List (Terms Fraction))
        (given rows : List (List (Terms Fraction))) (before after : List Entry)
        → LinksAwaited given (alone A ps ++ left) before
        → AreDivided grevlex out ps rows before after
        → LinksAwaited (given ++ rows) left after
    unfolding AreDivided
    link_rows_await left [] given [] before after a e =
        subst (LinksAwaited (given ++ []) left) (sym e)
        (subst (λ rows. LinksAwaited rows left before) (sym (append-nil given)) a)
    link_rows_await left [] given (r ∷ rows) before after a e = absurd e
    link_rows_await left (p ∷ ps) given [] before after a e = absurd e
    link_rows_await left (p ∷ ps) given (r ∷ rows) before after a (mid, here, rest) =
        subst (λ z. LinksAwaited z left after) (append_assoc given (r ∷ []) rows)
        (link_rows_await left ps (given ++ r ∷ []) rows mid after
        (subst (λ q. LinksAwaited (given ++ q ∷ []) (alone A ps ++ left) mid) (sym here.is)
        (link_awaits A rounds done w list told gs out given (alone A ps ++ left) (None, p) refl
        before mid here.last a here.finished)) rest)

    pub link_rows_refused : (left : List Dividend) (ps : List (Terms Fraction))
        (given : List (List (Terms Fraction))) (before : List Entry) (after : Journal)
        → LinksAwaited given (alone A ps ++ left) before → (r : Refusal)
        → IsRefusedIn grevlex out ps before after r → Refuses A rounds (task_of_work w) after r
    link_rows_refused left ps given before after a r x =
        link_refused A rounds done w list told gs out (given ++ x.rows)
        (alone A x.later ++ left) (None, x.here) refl x.between after
        (link_rows_await ((None, x.here) ∷ (alone A x.later ++ left)) x.earlier given x.rows before
        x.between.entries (subst (λ js. LinksAwaited given js before)
        (ap (λ z. alone A z ++ left) x.is ∙ alone_split list left x.earlier x.later x.here) a)
        x.divided) r x.stops

    pub links_end : (rows : List (List (Terms Fraction))) (es : List Entry)
        → LinksAwaited rows [] es
        → Comes A rounds es (after A rounds (with_stage done w
        (stage_of A w (record { list = list; rows = told }) out rows)) w out)
    unfolding link_from
    links_end rows es a = record { state = a.state; run = a.run; is = a.is }

-- ---- what is divided by the completed list
module _ (A : Setting) where
  pub orbit_dividends_are : (k b : ℕ) (hs so_far gs : List (Terms Fraction))
      → list_dividends A (orbit k b hs so_far) gs
      ≡ alone A (starting A (orbit k b hs so_far))
      ++ (map (λ a. (Some a, s_polynomial rationals (order A (orbit k b hs so_far)) gs a))
      (pairs_of (length gs)) ++ [])
  unfolding list_dividends
  orbit_dividends_are k b hs so_far gs =
      ap (λ z. alone A (starting A (orbit k b hs so_far)) ++ z) (sym (append-nil _))

  pub meet_dividends_are : (k b : ℕ) (hs so_far ls gs : List (Terms Fraction))
      → list_dividends A (meet k b hs so_far ls) gs
      ≡ alone A (starting A (meet k b hs so_far ls))
      ++ (map (λ a. (Some a, s_polynomial rationals (order A (meet k b hs so_far ls)) gs a))
      (pairs_of (length gs)) ++ [])
  unfolding list_dividends
  meet_dividends_are k b hs so_far ls gs =
      ap (λ z. alone A (starting A (meet k b hs so_far ls)) ++ z) (sym (append-nil _))
