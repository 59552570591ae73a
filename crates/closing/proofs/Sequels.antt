-- What follows the closing of the elements of a search.
--   few_rows, few_counted     there are no more rows than units
--   found             a closed list ends it
--   left_stops        where there are no elements it stops
--   counter_letters   a word that counters the elements has letters of the loop
--   counter_begun, counter_units, counter_sampled, counter_none      with it the search goes on, or its row is no news
--   stop_begun, stop_told     a closing's refusal is the search's
use Rattle.std.proofs.Common.{◌≡◌, ℕ, ◌+◌, ◌<◌, ◌≤◌, List, [], ◌∷◌, ◌++◌, length, All, Ok, Err, Option, Some, None, arith, sym, ap, subst, ◌∙◌}
use Rattle.std.proofs.lemmas.List.{length_push}
use Rattle.algebra.specs.Fraction.{Fraction, ℚ}
use Rattle.algebra.proofs.In.{each_from}
use Rattle.polynomials.specs.Order.{grevlex}
use Rattle.polynomials.specs.Polynomial.{IsPolynomial}
use Rattle.polynomials.specs.Terms.{Terms}
use Rattle.machines.specs.Journal.{Journal, Entry, units_of}
use Rattle.rounds.specs.Word.{IsLetter}
use Rattle.rounds.proofs.Prefixes.{units-append}
use Rattle.loops.specs.Program.{Expr, Program}
use Rattle.poly.specs.Seen.{terms_in, terms_each}
use Rattle.loop_model.specs.FracPoly.{FracPoly}
use Rattle.ideal_ops.specs.Calls.{AreOver}
use Rattle.closures.specs.Closing.{Candidate, closed, countered}
use Rattle.closures.specs.Ends.{ComesNext}
use Rattle.closures.proofs.Ended.{countered_is}
use Rattle.closing.specs.Progress.{candidate_of, Closes, FitsVerdict, IsGoing, IfStops}
use Rattle.closing.specs.declared.error.ClosingError.{ClosingError}
use Rattle.closing.specs.declared.joining.Counter.{Counter}
use Rattle.closing.specs.declared.levels.Verdict.{Verdict}
use Rattle.closing.specs.declared.levels.Verdict.TheVariants as verdict
use Rattle.closing.specs.SearchCauses.{IsClosing, AreBegun, HasNoNews}
use Rattle.closing.specs.Closings.{IfClosed, refusal_of}
use Rattle.closing.specs.Found.{IsPartOf, IfSearchStops}
use Rattle.residue_rows.specs.Limits.{most_monomials}
use Rattle.closing.specs.Sampling.{IsEnough, IsRefuted, IsUnrefuted, IfRefuted, IsSampled}
use Rattle.closing.specs.Search.{Part, counted, idle, refuted, samples_of, rows_of, entries_of, HasLeft, IsSearch}
use Rattle.closing.specs.declared.search_error.SearchError.{SearchError}
use Rattle.closing.specs.declared.sampling.Sampling.{Sampling}
use Rattle.closing.specs.declared.whole_search.Finding.{Finding}
use Rattle.closing.specs.declared.whole_search.Sequel.TheVariants as sequel
use Rattle.closing.proofs.Countered.{countered_units}
use Rattle.closing.proofs.Parts.{sampled_units}
use Rattle.closing.proofs.Reduced.{reduced}
use Rattle.closing.proofs.Sampled.{refuted_at}
use Rattle.closing.proofs.Stopped.{begun_at, begun_part, stops_going, closing_stops}

module _ (program : Program (Expr ℕ)) (d : ℕ) where
  abbrev m : ℕ
  m = length program.names

  few_rows : (ps : List Part) → IsSearch program d ps
      → length (rows_of ps) ≤ units_of (entries_of ps)
  unfolding IsSearch rows_of entries_of
  few_rows [] s = omega arith
  few_rows (counted row ∷ ps) s =
      let e = sampled_units (entries_of ps) (samples_of ps) in
      let l = length_push (rows_of ps) row in
      let h = few_rows ps s.0 in omega (arith, e, l, h)
  few_rows (idle row ∷ ps) s =
      let e = sampled_units (entries_of ps) (samples_of ps) in
      let h = few_rows ps s.0 in omega (arith, e, h)
  few_rows (refuted gs es x q row ∷ ps) s =
      let e = units-append (entries_of ps) es in
      let l = length_push (rows_of ps) row in
      let some = countered_units program gs es x q s.3 in
      let h = few_rows ps s.0 in omega (arith, e, l, some, h)

  pub few_counted : {before : List Entry} (s : Sampling) → IsEnough program d before s → (n : ℕ)
      → units_of before ≤ n → s.counted ≤ n
  few_counted s e n l =
      let h = few_rows e.parts e.at.search in
      let u = ap units_of e.entries in
      let k = e.at.counted in
      omega (arith, h, u, k, l)

  module _ (j : Journal) (s : Sampling) (e : IsEnough program d j.entries s) {es : List FracPoly}
      (left : HasLeft program d e.parts (terms_each es)) {fs : List FracPoly} (same : fs ≡ es) where
    pub found : (f : Finding) → f.elements.items ≡ es → AreOver m es → length es ≤ most_monomials
        → {v : Verdict} → v ≡ verdict.Basis f.closure
        → Closes program (terms_each fs) f.closing.entries v
        → FitsVerdict m (units_of f.closing.entries) v
        → units_of j.entries + f.closing.limit ≡ j.limit
        → IfClosed program d j (Ok (sequel.Found f))
    found f items over few is c fits rest =
        let own = subst (λ (gs : List FracPoly). HasLeft program d e.parts (terms_each gs))
        (sym items) left in
        let closes : ComesNext program (terms_each f.elements.items) f.closing.entries
        (closed (terms_each f.closure.items)) =
        subst (λ (gs : List FracPoly). Closes program (terms_each gs) f.closing.entries
        (verdict.Basis f.closure)) (same ∙ sym items)
        (subst (Closes program (terms_each fs) f.closing.entries) is c) in
        let room = subst (FitsVerdict m (units_of f.closing.entries)) is fits in (
          record {
            parts = e.parts;
            closing =
                record {
                  search = e.at.search;
                  enough = e.enough;
                  left = own;
                  entries = e.entries;
                };
            closed = closes;
          },
          record {
            elements = subst (AreOver m) (sym items) over;
            closure = room.0;
            few = subst (λ (gs : List FracPoly). length gs ≤ most_monomials) (sym items) few;
            few_closed = room.1;
            rest = rest;
          },
          reduced program d e.parts e.at.search own
              f.closing.entries (terms_each f.closure.items) closes,
        )

  pub left_stops : (j : Journal) (s : Sampling) (e : IsEnough program d j.entries s)
      (error : SearchError) → IfSearchStops program d j.limit (entries_of e.parts) error
      → IfClosed program d j (Err error)
  left_stops j s e error h =
      subst (λ es. AreBegun program d es × IfSearchStops program d j.limit es error)
      (sym e.entries) (begun_at program d e.parts e.at.search, h)

  module _ (before : List Entry) (s : Sampling) (e : IsEnough program d before s)
      (es : List FracPoly) (left : HasLeft program d e.parts (terms_each es)) (fs : List FracPoly)
      (same : fs ≡ es) where
    abbrev gs : List (Terms Fraction)
    gs = terms_each es

    closing : IsClosing program d before e.parts gs
    closing = record {
      search = e.at.search;
      enough = e.enough;
      left = left;
      entries = e.entries;
    }

    module _ (part : List Entry) (v : Verdict) (counter : Counter)
        (is : v ≡ verdict.Counter counter) (closes : Closes program (terms_each fs) part v) where
      x : Candidate
      x = candidate_of gs counter.candidate

      comes : ComesNext program gs part (countered x (terms_in counter.image))
      unfolding x
      comes =
          subst (λ (hs : List FracPoly). Closes program (terms_each hs) part
          (verdict.Counter counter)) same
          (subst (Closes program (terms_each fs) part) is closes)

      going : IsGoing program gs part
      going = record { state = comes.state; follows = record { run = comes.run } }

      pub counter_begun : {after : List Entry} → IsPartOf before part after
          → AreBegun program d after
      counter_begun {after = after} p = begun_part program d gs closing part going p

      module _ {w : List ℕ} (word : w ≡ counter.candidate.word.items) where
        pub counter_letters : All (IsLetter program) w
        unfolding x
        counter_letters =
            let polynomials = each_from {P = IsPolynomial ℚ grevlex m} gs left.tidy.polynomials in
            let first = countered_is program gs polynomials part x (terms_in counter.image) comes in
            subst (All (IsLetter program)) (sym word) first.letters

        module _ {after : List Entry} (all : after ≡ before ++ part) where
          pub counter_units : units_of before < units_of after
          counter_units =
              let some = countered_units program gs part x (terms_in counter.image) comes in
              let sum = ap units_of all ∙ units-append before part in
              omega (arith, some, sum)

          module _ {o : Option Sampling} (h : IfRefuted program d e.parts w o) where
            pub counter_sampled : (t : Sampling) → o ≡ Some t → IsSampled program d after t
            unfolding x entries_of
            counter_sampled t some =
                let r = subst (λ u. IsRefuted program d e.parts u t) word
                (subst (IfRefuted program d e.parts w) some h) in
                let k = refuted_at program d e.parts s t e.at gs part x (terms_in counter.image)
                e.enough left comes r in
                record {
                  parts = refuted gs part x (terms_in counter.image) k.0 ∷ e.parts;
                  at = k.1;
                  entries = all ∙ ap (λ es. es ++ part) e.entries;
                }

            pub counter_none : o ≡ None → HasNoNews program d after
            unfolding x
            counter_none none =
                let r = subst (λ u. IsUnrefuted program d e.parts u) word
                (subst (IfRefuted program d e.parts w) none h) in
                record {
                  before = before;
                  parts = e.parts;
                  elements = gs;
                  closing = closing;
                  behind = part;
                  order = all;
                  candidate = x;
                  image = terms_in counter.image;
                  countered = comes;
                  row = r.row;
                  is_row = r.is_row;
                  none = r.none;
                }

    module _ (limit : ℕ) (part : List Entry) (error : ClosingError)
        (stops : IfStops program (terms_each fs) limit part error) where
      own : IfStops program gs limit part error
      own =
          subst (λ (hs : List FracPoly). IfStops program (terms_each hs) limit part error) same
          stops

      pub stop_begun : {after : List Entry} → IsPartOf before part after → AreBegun program d after
      stop_begun {after = after} p =
          begun_part program d gs closing part
          (stops_going program d gs closing limit part error own) p

      pub stop_told : (j : Journal) → j.entries ≡ before ++ part → units_of before + limit ≡ j.limit
          → {r : SearchError} → r ≡ refusal_of error → IfClosed program d j (Err r)
      stop_told j all rest is =
          subst (λ t. IfClosed program d j (Err t)) (sym is) (subst (λ es. AreBegun program d es
          × IfSearchStops program d j.limit es (refusal_of error)) (sym all) (closing_stops program
          d gs closing limit j.limit part rest error own))
