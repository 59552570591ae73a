-- Values that are made of a list's elements, one after another.
--   WrittenSoFar see data_of P us i found     found is the data of what is seen of those of us before place i, and P of each of these
--   written_start, written_more, written_all     the steps of such a loop, and its end
--   itself                      what is made of a list as it stands
--   RowSoFar names ps i found   found is the pairs of the cofactors of ps before place i, and each of these is read back
--   row_start, row_more, row_all     the steps of such a loop, and its end
--   pair_pushed, no_pair        one more pair, or none
--   pair_is                     a list of two values
use Rattle.std.proofs.Common.{◌≡◌, ◌≢◌, ℕ, ◌+◌, suc, ◌<◌, ◌≤◌, List, [], ◌∷◌, ◌++◌, map, length, get_or, drop, take, refl, sym, ap, ap₂, subst, ◌∙◌, append_assoc, add-one}
use Rattle.std.specs.Prelude.{All}
use Rattle.std.proofs.lemmas.List.{drop_all, take_all, append-nil, map-append, map-id}
use Rattle.std.proofs.lemmas.List.Elements.{All-nil, All-push, All-map}
use Rattle.serde_json.specs.Data.{Data, array, number, unsigned, item, no_items}
use Rattle.serde_json.specs.View.{view, items_of, items_view}
use Rattle.serde_json.specs.declared.value.Value.{Value}
use Rattle.algebra.specs.Fraction.{Fraction}
use Rattle.algebra.proofs.Lists.{take_one, take_next}
use Rattle.polynomials.specs.Terms.{Terms}
use Rattle.poly.specs.Seen.{terms_in, terms_each}
use Rattle.loop_model.specs.FracPoly.{FracPoly}
use Rattle.cert_form.specs.Written.{poly_data, list_data, pair_data, pair_of, pairs, row_data, IsReadBack, IsWritten}
use Rattle.cert_form.proofs.Each.{drop_one}

pub record WrittenSoFar {A B : Type 0} (see : A → B) (data_of : B → Data) (P : B → Type 0)
    (us : List A) (i : ℕ) (found : List Value) : Type 0 where
  pub values : map view found ≡ map data_of (map see (take i us))
  pub holds : All P (map see (take i us))

module _ {A B : Type 0} {see : A → B} {data_of : B → Data} {P : B → Type 0} {us : List A} where
  pub written_start : {found : List Value} → found ≡ [] → WrittenSoFar see data_of P us 0 found
  written_start none = record { values = ap (map view) none; holds = All-nil P }

  -- the items of a loop are those of the list
  module _ {items : List A} (same : items ≡ us) {i : ℕ} {found : List Value}
      (before : WrittenSoFar see data_of P us i found) where
    pub written_more : {a : A} {v : Value} {next : List Value} → i < length items
        → a ≡ get_or items i a → IsWritten data_of P (see a) v → next ≡ found ++ v ∷ []
        → WrittenSoFar see data_of P us (i + 1) next
    written_more {a = a} {v = v} within is one more =
        let seen : map see (take (i + 1) us) ≡ map see (take i us) ++ see a ∷ [] =
        subst (λ xs. map see (take (i + 1) xs) ≡ map see (take i xs) ++ see a ∷ []) same
        (take_next see items i a within is) in
        record {
          values = ap (map view) more ∙ map-append view found (v ∷ [])
              ∙ ap₂ (λ ds d. ds ++ d ∷ []) before.values one.value
              ∙ sym (ap (map data_of) seen ∙ map-append data_of (map see (take i us)) (see a ∷ []));
          holds = subst (All P) (sym seen) (All-push P (map see (take i us)) (see a) before.holds
              one.holds);
        }

    pub written_all : {v : Value} → length items ≤ i → view v ≡ array (items_view found)
        → IsWritten (list_data data_of) (All P) (map see us) v
    written_all past is =
        let all : map see (take i us) ≡ map see us = ap (map see) (take_all i us
        (subst (λ (xs : List A). length xs ≤ i) same past)) in
        record {
          value = is ∙ ap (λ ds. array (items_of ds)) (before.values ∙ ap (map data_of) all);
          holds = subst (All P) all before.holds;
        }

pub itself : {A : Type 0} (data_of : A → Data) (P : A → Type 0) {us : List A} {v : Value}
    → IsWritten (list_data data_of) (All P) (map (λ a. a) us) v
    → IsWritten (list_data data_of) (All P) us v
itself data_of P {us = us} {v = v} h =
    subst (λ xs. IsWritten (list_data data_of) (All P) xs v) (map-id us) h

-- ---- a row, of which some cofactors are left out
pub record RowSoFar (names : List (List ℕ)) (ps : List FracPoly) (i : ℕ) (found : List Value) : Type
    0 where
  pub left : map view found ++ pairs names i (terms_each (drop i ps)) ≡ pairs names 0
      (terms_each ps)
  pub holds : All (λ p. IsReadBack names (terms_in p)) (take i ps)

abbrev IsBack : List (List ℕ) → FracPoly → Type 0
IsBack names p = IsReadBack names (terms_in p)

module _ {names : List (List ℕ)} {ps : List FracPoly} where
  pub row_start : {found : List Value} → found ≡ [] → RowSoFar names ps 0 found
  row_start none = record {
    left = ap (λ vs. map view vs ++ pairs names 0 (terms_each ps)) none;
    holds = All-nil (IsBack names);
  }

  module _ {items : List FracPoly} (same : items ≡ ps) {i : ℕ} {found : List Value}
      (before : RowSoFar names ps i found) where
    pub row_more : {p : FracPoly} {next : List Value} → i < length items → p ≡ get_or items i p
        → map view next ≡ map view found ++ pair_of names i (terms_in p)
        → IsReadBack names (terms_in p) → RowSoFar names ps (i + 1) next
    row_more {p = p} within is more holds =
        let inside : i < length ps = subst (λ (xs : List FracPoly). i < length xs) same within in
        let here : p ≡ get_or ps i p = is ∙ ap (λ (xs : List FracPoly). get_or xs i p) same in
        let rest = λ (k : ℕ). pairs names k (terms_each (drop k ps)) in
        record {
          left = ap₂ (λ ds k. ds ++ rest k) more (add-one i)
              ∙ append_assoc (map view found) (pair_of names i (terms_in p)) (rest (suc i))
              ∙ ap (λ qs. map view found ++ pairs names i (terms_each qs))
              (sym (drop_one ps i inside here)) ∙ before.left;
          holds = subst (All (IsBack names)) (sym (take_one ps i p inside here))
              (All-push (IsBack names) (take i ps) p before.holds holds);
        }

    pub row_all : {v : Value} → length items ≤ i → view v ≡ array (items_view found)
        → IsWritten (row_data names) (All (IsReadBack names)) (terms_each ps) v
    row_all past is =
        let end : length ps ≤ i = subst (λ (xs : List FracPoly). length xs ≤ i) same past in
        record {
          value = is ∙ ap (λ ds. array (items_of ds)) (sym (append-nil (map view found))
              ∙ ap (λ qs. map view found ++ pairs names i (terms_each qs))
              (sym (drop_all i ps end)) ∙ before.left);
          holds = All-map (IsReadBack names) terms_in ps
              (subst (All (IsBack names)) (take_all i ps end) before.holds);
        }

-- one pair behind the others, or none
pub pair_pushed : (names : List (List ℕ)) (k : ℕ) (p : Terms Fraction) (old next : List Value)
    (v : Value) → p ≢ [] → next ≡ old ++ v ∷ [] → view v ≡ pair_data names k p
    → map view next ≡ map view old ++ pair_of names k p
pair_pushed names k [] old next v some more is = absurd (some refl)
pair_pushed names k (t ∷ p) old next v some more is = ap (map view) more
    ∙ map-append view old (v ∷ []) ∙ ap (λ d. map view old ++ d ∷ []) is

pub no_pair : (names : List (List ℕ)) (k : ℕ) (p : Terms Fraction) (old : List Value) → p ≡ []
    → map view old ≡ map view old ++ pair_of names k p
no_pair names k p old none = sym (ap (λ q. map view old ++ pair_of names k q) none
    ∙ append-nil (map view old))

pub pair_is : (names : List (List ℕ)) (k : ℕ) (p : Terms Fraction) (x y : Value)
    (one two : List Value) (v : Value) → view x ≡ number (unsigned k) → view y ≡ poly_data names p
    → one ≡ [] ++ x ∷ [] → two ≡ one ++ y ∷ [] → view v ≡ array (items_view two)
    → view v ≡ pair_data names k p
pair_is names k p x y one two v at is first second made =
    made ∙ ap (λ vs. array (items_view vs)) (second ∙ ap (λ vs. vs ++ y ∷ []) first)
    ∙ ap₂ (λ d e. array (item d (item e no_items))) at is
