-- A row of cofactors, read from pairs one after another.
--   PairsSoFar names n path vs i found   of the values vs, those before place i were read as found, with zeros at the other positions
--   pairs_start, pairs_more              the steps of such a loop
--   IsFilled m old found k     whatever old is read as, found is read as it and k zeros behind it
--   zeros_start, zeros_more              more zeros behind others
use Rattle.std.proofs.Common.{◌≡◌, ℕ, suc, ◌+◌, ◌-◌, ◌<◌, ◌≤◌, List, [], ◌∷◌, ◌++◌, length, get_or, drop, refl, sym, ap, ap₂, subst, ◌∙◌, append_assoc, add-one, arith}
use Rattle.std.proofs.lemmas.List.{append-nil, replicate_more}
use Rattle.std.specs.Prelude.{vec_len}
use Rattle.serde_json.specs.View.{view, items_view}
use Rattle.serde_json.specs.declared.value.Value.{Value}
use Rattle.algebra.specs.Fraction.{Fraction, ℚ}
use Rattle.polynomials.specs.Terms.{Terms, Same}
use Rattle.polynomials.proofs.Same.{Same-refl}
use Rattle.poly.specs.Seen.{terms_in}
use Rattle.poly.specs.Standing.{StandsFor, AllStandFor}
use Rattle.poly.proofs.Standing.{stands_push}
use Rattle.loop_model.specs.FracPoly.{FracPoly}
use Rattle.cert_form.specs.Form.{Reading, on, after, part, pair_at, zeros, filled_row}
use Rattle.cert_form.specs.Faults.{IsRead}
use Rattle.cert_form.specs.Cert.{Polys, ArePolysOf, IsPairOf}
use Rattle.cert_form.proofs.Each.{after-after, after-nil, drop_one}

-- so many zeros behind what was found
abbrev pub IsFilled : ℕ → Polys → Polys → ℕ → Type 0
IsFilled m old found k = (raws : List (Terms Fraction)) → ArePolysOf m old raws
    → ArePolysOf m found (raws ++ zeros k)

pub record PairsSoFar (names : List (List ℕ)) (n : ℕ) (path : List ℕ) (vs : List Value) (i : ℕ)
    (found : Polys) : Type 0 where
  pub raws : List (Terms Fraction)
  pub alike : ArePolysOf (length names) found raws
  pub within : vec_len found ≤ n
  pub rest : filled_row names n path 0 0 (items_view vs)
      ≡ after raws (filled_row names n path (vec_len found) i (items_view (drop i vs)))

module _ (names : List (List ℕ)) (n : ℕ) (path : List ℕ) (vs : List Value) where
  pub pairs_start : (found : Polys) → found.items ≡ [] → vec_len found ≡ 0
      → PairsSoFar names n path vs 0 found
  pairs_start found none nothing = record {
    raws = [];
    alike = subst (λ ps. AllStandFor (length names) ps []) (sym none) tt;
    within = omega (arith, nothing);
    rest = after-nil (filled_row names n path 0 0 (items_view vs))
        ∙ ap (λ k. after [] (filled_row names n path k 0 (items_view vs))) (sym nothing);
  }

  module _ (i least : ℕ) (here : List ℕ) (v : Value) (found : Polys) (next_is : least
      ≡ vec_len found) (lt : i < length vs) (is : v ≡ get_or vs i v) (at : here ≡ part path i)
      (before : PairsSoFar names n path vs i found) where
    abbrev goes_on : ℕ × Terms Fraction → Reading (List (Terms Fraction))
    goes_on pair = after (zeros (pair.0 - vec_len found) ++ pair.1 ∷ [])
        (filled_row names n path (suc pair.0) (suc i) (items_view (drop (suc i) vs)))

    opened : filled_row names n path 0 0 (items_view vs) ≡ after before.raws
        (on goes_on (pair_at names least n here (view v)))
    opened = before.rest
        ∙ ap (λ xs. after before.raws (filled_row names n path (vec_len found) i (items_view xs)))
        (drop_one vs i lt is)
        ∙ ap₂ (λ k p. after before.raws (on goes_on (pair_at names k n p (view v)))) (sym next_is)
        (sym at)

    pub pairs_more : (m : ℕ) (pair : ℕ × FracPoly) (filled next : Polys) → m ≡ length names
        → IsRead (IsPairOf (length names)) pair (pair_at names least n here (view v)) → pair.0 < n
        → vec_len filled ≡ pair.0
        → IsFilled m found filled (pair.0 - vec_len found)
        → next.items ≡ filled.items ++ pair.1 ∷ [] → vec_len next ≡ vec_len filled + 1
        → PairsSoFar names n path vs (i + 1) next
    pairs_more m pair filled next over right below long zeroed more longer =
        let raw : ℕ × Terms Fraction = right.raw in
        let raws : List (Terms Fraction) = before.raws ++ (zeros (raw.0 - vec_len found) ++ raw.1
        ∷ []) in
        let rest : Reading (List (Terms Fraction)) = filled_row names n path (suc raw.0) (suc i)
        (items_view (drop (suc i) vs)) in
        let joined : filled_row names n path 0 0 (items_view vs) ≡ after raws rest =
        opened ∙ ap (λ r. after before.raws (on goes_on r)) right.is
        ∙ after-after before.raws (zeros (raw.0 - vec_len found) ++ raw.1 ∷ []) rest in
        let zeros_alike : AllStandFor (length names) filled.items
        (before.raws ++ zeros (raw.0 - vec_len found)) =
        subst (λ k. AllStandFor (length names) filled.items
        (before.raws ++ zeros (k - vec_len found)))
        right.alike.position
        (subst (λ k. IsFilled k found filled (pair.0 - vec_len found)) over zeroed before.raws
        before.alike) in
        let pushed = stands_push (length names) filled.items _ pair.1 raw.1 zeros_alike
        right.alike.alike in
        record {
          raws = raws;
          alike = subst (λ ps. AllStandFor (length names) ps raws) (sym more)
              (subst (AllStandFor (length names) (filled.items ++ pair.1 ∷ []))
              (append_assoc before.raws (zeros (raw.0 - vec_len found)) (raw.1 ∷ [])) pushed);
          within = omega (arith, longer, long, below);
          rest = joined
              ∙ ap₂ (λ k j. after raws (filled_row names n path k j (items_view (drop j vs))))
              (longer_is raw.0 right.alike.position) (sym (add-one i));
        }
      where
        longer_is : (k : ℕ) → pair.0 ≡ k → suc k ≡ vec_len next
        longer_is k same = omega (arith, same, longer, long)

-- ---- zeros behind others

abbrev pub Zeroed : ℕ → Polys → Polys → Type 0
Zeroed m old found = IsFilled m old found (vec_len found - vec_len old)

pub zeros_start : (m : ℕ) (found : Polys) → Zeroed m found found
zeros_start m found = λ raws h. subst (ArePolysOf m found) (sym (ap (λ k. raws ++ zeros k) none
    ∙ append-nil raws)) h
  where
    none : vec_len found - vec_len found ≡ 0
    none = omega arith

pub stands_for_zero : (m : ℕ) (z : FracPoly) → z.arity ≡ m → terms_in z ≡ [] → StandsFor m z []
stands_for_zero m z arity none = record {
  order = refl;
  arity = arity;
  same = subst (λ p. Same ℚ p []) (sym none) (Same-refl ℚ []);
}

pub zeros_more : (m : ℕ) (old found next : Polys) (z : FracPoly) → Zeroed m old found
    → vec_len old ≤ vec_len found → StandsFor m z [] → next.items ≡ found.items ++ z ∷ []
    → vec_len next ≡ vec_len found + 1 → Zeroed m old next
zeros_more m old found next z before from zero more longer = λ raws h.
    let k : ℕ = vec_len found - vec_len old in
    let many : vec_len next - vec_len old ≡ k + 1 = omega (arith, from, longer) in
    let last : raws ++ zeros (vec_len next - vec_len old) ≡ (raws ++ zeros k) ++ [] ∷ [] =
    ap (λ j. raws ++ zeros j) many
    ∙ ap (λ ps. raws ++ ps) (sym (replicate_more {X = Terms Fraction} k []))
    ∙ sym (append_assoc raws (zeros k) ([] ∷ [])) in
    subst (λ ps. AllStandFor m ps (raws ++ zeros (vec_len next - vec_len old))) (sym more)
    (subst (AllStandFor m (found.items ++ z ∷ [])) (sym last)
    (stands_push m found.items (raws ++ zeros k) z [] (before raws h) zero))
