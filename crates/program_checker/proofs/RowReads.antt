-- A row of cofactors, read from pairs one after another.
--   PairsSoFar names n path vs i least row   of the values vs, those before place i were read as the row, all of whose positions are below `least`
--   pairs_start, pairs_more, pairs_fault     the steps of such a loop
--   row_fits, row_is                         the row that is read in the end
--   IsAscending, ascend_push                 one more position, above the others
use Rattle.std.proofs.Common.{◌≡◌, ◌⊎◌, inl, inr, ℕ, suc, ◌+◌, ◌<◌, ◌≤◌, List, [], ◌∷◌, ◌++◌, length, get_or, drop, Ok, Err, refl, sym, ap, ap₂, subst, ◌∙◌, add-one, arith}
use Rattle.std.proofs.lemmas.List.{append-nil, drop_all, map-append, length_push, get_or_append_left, get_or_push}
use Rattle.algebra.proofs.Basics.{below_or_last}
use Rattle.serde_json.specs.View.{view, items_view}
use Rattle.serde_json.specs.declared.value.Value.{Value}
use Rattle.algebra.specs.Fraction.{Fraction}
use Rattle.polynomials.specs.Terms.{Terms}
use Rattle.poly.specs.Standing.{AllStandFor}
use Rattle.poly.proofs.Standing.{stands_push, stands_over, stands_same}
use Rattle.loop_model.specs.FracPoly.{FracPoly}
use Rattle.cert_form.specs.Form.{Reading, on, after, part, pair_at}
use Rattle.cert_form.specs.Faults.{IsRead, IfFault}
use Rattle.cert_form.specs.declared.error.CertError.{CertError}
use Rattle.cert_form.specs.Cert.{ArePolysOf, IsPairOf}
use Rattle.cert_form.proofs.Each.{after-nil, drop_one, one_more, one_fault}
use Rattle.program_checker.specs.Rows.{Ascend}
use Rattle.program_checker.specs.Fits.{IsRow}
use Rattle.program_checker.specs.Form.{RawRow, pairs_from}
use Rattle.program_checker.specs.ReadAs.{positions_in, cofactors_in, IsSameRow}
use Rattle.program_checker.specs.declared.cert.Row.{Row}

-- positions that ascend, all of them below `least`
pub record IsAscending (n least : ℕ) (ks : List ℕ) : Type 0 where
  pub ascend : Ascend n ks
  pub below : (i : ℕ) → i < length ks → get_or ks i 0 < least

pub ascend_none : (n : ℕ) → IsAscending n 0 []
ascend_none n = record {
  ascend = record { within = λ i l. absurd (omega arith); above = λ i l. absurd (omega arith) };
  below = λ i l. absurd (omega arith);
}

module _ (n least k : ℕ) (ks : List ℕ) (from : least ≤ k) (to : k < n)
    (before : IsAscending n least ks) where
  here : get_or (ks ++ k ∷ []) (length ks) 0 ≡ k
  here = get_or_push ks k 0 (length ks) refl

  old : (i : ℕ) → i < length ks → get_or (ks ++ k ∷ []) i 0 ≡ get_or ks i 0
  old i l = get_or_append_left ks (k ∷ []) 0 i l

  within : (i : ℕ) → i < length (ks ++ k ∷ []) → get_or (ks ++ k ∷ []) i 0 < suc k
  within i l = go (below_or_last i (length ks) (omega (arith, l, length_push ks k)))
    where
      go : (i < length ks) ⊎ (i ≡ length ks) → get_or (ks ++ k ∷ []) i 0 < suc k
      go (inl b) = omega (arith, old i b, before.below i b, from)
      go (inr e) = rw e (omega (arith, here))

  above : (i : ℕ) → suc i < length (ks ++ k ∷ [])
      → get_or (ks ++ k ∷ []) i 0 < get_or (ks ++ k ∷ []) (suc i) 0
  above i l = go (below_or_last (suc i) (length ks) (omega (arith, l, length_push ks k)))
    where
      first : i < length ks
      first = omega (arith, l, length_push ks k)

      go : (suc i < length ks) ⊎ (suc i ≡ length ks)
          → get_or (ks ++ k ∷ []) i 0 < get_or (ks ++ k ∷ []) (suc i) 0
      go (inl b) = omega (arith, old i first, old (suc i) b, before.ascend.above i b)
      go (inr e) = let last : get_or (ks ++ k ∷ []) (suc i) 0 ≡ k = rw e here in
          omega (arith, old i first, before.below i first, last, from)

  pub ascend_push : IsAscending n (suc k) (ks ++ k ∷ [])
  ascend_push = record {
    ascend = record { within = λ i l. omega (arith, within i l, to); above = above };
    below = within;
  }

pub record PairsSoFar (names : List (List ℕ)) (n : ℕ) (path : List ℕ) (vs : List Value)
    (i least : ℕ) (row : Row) : Type 0 where
  pub count : length row.positions.items ≡ length row.cofactors.items
  pub ascending : IsAscending n least row.positions.items
  pub raws : RawRow
  pub positions : row.positions.items ≡ positions_in raws
  pub alike : ArePolysOf (length names) row.cofactors (cofactors_in raws)
  pub rest : pairs_from names n path 0 0 (items_view vs)
      ≡ after raws (pairs_from names n path least i (items_view (drop i vs)))

module _ (names : List (List ℕ)) (n : ℕ) (path : List ℕ) (vs : List Value) where
  pub pairs_start : (row : Row) → row.positions.items ≡ [] → row.cofactors.items ≡ []
      → PairsSoFar names n path vs 0 0 row
  pairs_start row none nothing = record {
    count = ap length none ∙ sym (ap length nothing);
    ascending = subst (IsAscending n 0) (sym none) (ascend_none n);
    raws = [];
    positions = none;
    alike = subst (λ ps. AllStandFor (length names) ps []) (sym nothing) tt;
    rest = after-nil (pairs_from names n path 0 0 (items_view vs));
  }

  module _ (i least : ℕ) (at : List ℕ) (v : Value) (row : Row) (lt : i < length vs)
      (is : v ≡ get_or vs i v) (at_is : at ≡ part path i)
      (before : PairsSoFar names n path vs i least row) where
    abbrev goes_on : ℕ × Terms Fraction → Reading RawRow
    goes_on pair = pairs_from names n path (suc pair.0) (suc i) (items_view (drop (suc i) vs))

    opened : pairs_from names n path least i (items_view (drop i vs))
        ≡ on (λ pair. after (pair ∷ []) (goes_on pair)) (pair_at names least n at (view v))
    opened =
        ap (λ xs. pairs_from names n path least i (items_view xs)) (drop_one vs i lt is)
        ∙ ap (λ p. on (λ pair. after (pair ∷ []) (goes_on pair)) (pair_at names least n p (view v)))
        (sym at_is)

    pub pairs_fault : (e : CertError)
        → IfFault e (λ f. pair_at names least n at (view v) ≡ Err f)
        → IfFault e (λ f. pairs_from names n path 0 0 (items_view vs) ≡ Err f)
    pairs_fault = one_fault before.raws goes_on _ before.rest opened

    pub pairs_more : (pair : ℕ × FracPoly) (next : Row)
        → IsRead (IsPairOf (length names)) pair (pair_at names least n at (view v))
        → (least ≤ pair.0) × (pair.0 < n)
        → next.positions.items ≡ row.positions.items ++ pair.0 ∷ []
        → next.cofactors.items ≡ row.cofactors.items ++ pair.1 ∷ []
        → PairsSoFar names n path vs (i + 1) (pair.0 + 1) next
    pairs_more pair next right bounds more longer =
        let raw : ℕ × Terms Fraction = right.raw in
        record {
          count = ap length more ∙ length_push row.positions.items pair.0
              ∙ ap (λ k. k + 1) before.count ∙ sym (length_push row.cofactors.items pair.1)
              ∙ sym (ap length longer);
          ascending = subst (λ k. IsAscending n k next.positions.items) (sym (add-one pair.0))
              (subst (IsAscending n (suc pair.0)) (sym more)
              (ascend_push n least pair.0 row.positions.items bounds.0 bounds.1 before.ascending));
          raws = before.raws ++ raw ∷ [];
          positions = more ∙ ap₂ (λ ks k. ks ++ k ∷ []) before.positions right.alike.position
              ∙ sym (map-append (λ (p : ℕ × Terms Fraction). p.0) before.raws (raw ∷ []));
          alike = subst
              (λ ps. AllStandFor (length names) ps (cofactors_in (before.raws ++ raw ∷ [])))
              (sym longer) (subst (AllStandFor (length names) (row.cofactors.items ++ pair.1 ∷ []))
              (sym (map-append (λ (p : ℕ × Terms Fraction). p.1) before.raws (raw ∷ [])))
              (stands_push (length names) row.cofactors.items (cofactors_in before.raws) pair.1
              raw.1
              before.alike right.alike.alike));
          rest = one_more before.raws goes_on _ before.rest opened right.is
              ∙ ap₂ (λ k j. after (before.raws ++ raw ∷ [])
              (pairs_from names n path k j (items_view (drop j vs))))
              (ap suc (sym right.alike.position) ∙ sym (add-one pair.0)) (sym (add-one i));
        }

  pub row_fits : {i least : ℕ} {row : Row} → PairsSoFar names n path vs i least row
      → IsRow (length names) n row
  row_fits {row = row} all = record {
    count = all.count;
    ascend = all.ascending.ascend;
    arity = stands_over (length names) row.cofactors.items _ all.alike;
  }

  pub row_is : {i least : ℕ} {row : Row} → PairsSoFar names n path vs i least row
      → length vs ≤ i → IsRead IsSameRow row (pairs_from names n path 0 0 (items_view vs))
  row_is {i = i} {least = least} {row = row} all past = record {
    raw = all.raws;
    is = all.rest
        ∙ ap (λ xs. after all.raws (pairs_from names n path least i (items_view xs)))
        (drop_all i vs past)
        ∙ ap Ok (append-nil all.raws);
    alike = record {
      positions = all.positions;
      same = stands_same (length names) row.cofactors.items _ all.alike;
    };
  }
