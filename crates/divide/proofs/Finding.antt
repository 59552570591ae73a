-- The place of a cancellation (specs/Cutting).
--   cut_by_found, cut_by_none      by what the first divisor is
--   find_first, find_next          at a term that has one, and at one that has none
--   find_end                       behind the last term
--   found_at                       the places of the cutting that is found
use Rattle.std.proofs.Common.{◌≡◌, ℕ, zero, suc, ◌+◌, ◌<◌, ◌≤◌, Bool, true, false, cond, List, [], ◌∷◌, map, drop, length, position, get_or, Some, None, refl, ap, subst, ◌∙◌, sym, arith}
use Rattle.std.specs.List.{position_or_len}
use Rattle.std.proofs.lemmas.List.{drop_more, drop_all}
use Rattle.std.proofs.lemmas.List.Quantifiers.{position-Some}
use Rattle.std.proofs.lemmas.List.Sums.{fails_before_first}
use Rattle.std.proofs.lemmas.Grind.{common_steps}
use Rattle.algebra.specs.Scalars.{Scalars, field}
use Rattle.algebra.specs.FieldArithmetic.{FieldArithmetic}
use Rattle.polynomials.specs.Terms.{Terms}
use Rattle.machines.specs.Cut.{lead_of, divides, Cutting, first_of, cut_by, find_cut, all_places}
use Rattle.machines.proofs.Cuts.{found_cut}
use Rattle.machines.proofs.Places.{get_below}
use Rattle.divide.specs.Cutting.{term_at, cutting_of, FoundAt}

position_none : {X : Type 0} (p : X → Bool) (xs : List X) (j : ℕ) (d : X) → position p xs ≡ None
    → j < length xs → p (get_or xs j d) ≡ false
position_none p xs j d e l =
    let at : length xs ≤ position_or_len p xs = grind (arith, common_steps) in
    fails_before_first p xs j d (omega arith)

module _ (S : Scalars) where
  abbrev F : FieldArithmetic S.Elem
  F = field S

  module _ (t : List ℕ × S.Elem) where
    abbrev by_lead : List ℕ → Bool
    by_lead d = divides d t.0

    abbrev leads : List (Terms S.Elem) → List (List ℕ)
    leads gs = map lead_of gs

    found_from : (k : ℕ) (gs : List (Terms S.Elem)) (i : ℕ) → i < length (leads gs)
        → ((d : List ℕ) → by_lead (get_or (leads gs) i d) ≡ true) → ((d : List ℕ) (j : ℕ) → j < i
        → by_lead (get_or (leads gs) j d) ≡ false)
        → cut_by F all_places k gs t ≡ Some (cutting_of S (k + i) t (get_or gs i []))
    unfolding cut_by
    found_from k [] i l at before = absurd (omega arith)
    found_from k (x ∷ gs) zero l at before =
        ap (λ b. cond b (Some (cutting_of S k t x)) (cut_by F all_places (suc k) gs t)) (at [])
        ∙ ap (λ n. Some (cutting_of S n t x)) (omega arith)
    found_from k (x ∷ gs) (suc i) l at before =
        ap (λ b. cond b (Some (cutting_of S k t x)) (cut_by F all_places (suc k) gs t))
        (before [] zero (omega arith))
        ∙ found_from (suc k) gs i (omega arith) at (λ d j n. before d (suc j) (omega arith))
        ∙ ap (λ n. Some (cutting_of S n t (get_or gs i []))) (omega arith)

    none_from : (k : ℕ) (gs : List (Terms S.Elem)) → ((d : List ℕ) (j : ℕ) → j < length (leads gs)
        → by_lead (get_or (leads gs) j d) ≡ false) → cut_by F all_places k gs t ≡ None
    unfolding cut_by
    none_from k [] h = refl
    none_from k (x ∷ gs) h =
        ap (λ b. cond b (Some (cutting_of S k t x)) (cut_by F all_places (suc k) gs t))
        (h [] zero (omega arith)) ∙ none_from (suc k) gs (λ d j n. h d (suc j) (omega arith))

    pub cut_by_found : (ls : List (List ℕ)) (gs : List (Terms S.Elem)) (i : ℕ) → ls ≡ leads gs
        → position by_lead ls ≡ Some i → cut_by F all_places 0 gs t
        ≡ Some (cutting_of S i t (get_or gs i []))
    cut_by_found ls gs i h e = go (ap (position by_lead) (sym h) ∙ e)
      where
        go : position by_lead (leads gs) ≡ Some i → cut_by F all_places 0 gs t
            ≡ Some (cutting_of S i t (get_or gs i []))
        go e = found_from 0 gs i (position-Some by_lead (leads gs) i [] e).0
            (λ d. (position-Some by_lead (leads gs) i d e).1) (λ d j n.
            (position-Some by_lead (leads gs) i d e).2 j n)
            ∙ ap (λ n. Some (cutting_of S n t (get_or gs i []))) (omega arith)

    pub cut_by_none : (ls : List (List ℕ)) (gs : List (Terms S.Elem)) → ls ≡ leads gs
        → position by_lead ls ≡ None → cut_by F all_places 0 gs t ≡ None
    cut_by_none ls gs h e = none_from 0 gs (λ d j n. position_none by_lead (leads gs) j d
        (ap (position by_lead) (sym h) ∙ e) n)

  -- ---- along the terms
  pub find_first : (may : ℕ → Bool) (gs : List (Terms S.Elem)) (p : Terms S.Elem) (i : ℕ)
      (c : Cutting S.Elem) → i < length p → cut_by F may 0 gs (term_at S p i) ≡ Some c
      → find_cut F may gs (drop i p) ≡ Some c
  unfolding find_cut
  find_first may gs p i c l e = ap (find_cut F may gs) (drop_more p i ([], S.zero) l)
      ∙ ap (λ o. first_of o (find_cut F may gs (drop (i + 1) p))) e

  pub find_next : (may : ℕ → Bool) (gs : List (Terms S.Elem)) (p : Terms S.Elem) (i : ℕ)
      → i < length p → cut_by F may 0 gs (term_at S p i) ≡ None → find_cut F may gs (drop i p)
      ≡ find_cut F may gs (drop (i + 1) p)
  unfolding find_cut
  find_next may gs p i l e = ap (find_cut F may gs) (drop_more p i ([], S.zero) l)
      ∙ ap (λ o. first_of o (find_cut F may gs (drop (i + 1) p))) e

  pub find_end : (may : ℕ → Bool) (gs : List (Terms S.Elem)) (p : Terms S.Elem) (i : ℕ)
      → length p ≤ i → find_cut F may gs (drop i p) ≡ None
  unfolding find_cut
  find_end may gs p i l = ap (find_cut F may gs) (drop_all i p l)

  pub found_at : (gs : List (Terms S.Elem)) (p : Terms S.Elem) (i k : ℕ) → i < length p
      → find_cut F all_places gs p ≡ Some (cutting_of S k (term_at S p i) (get_or gs k []))
      → FoundAt S gs p i k
  found_at gs p i k l e =
      let b = (found_cut F all_places gs p (cutting_of S k (term_at S p i) (get_or gs k []))
      e).by_first in
      let same : term_at S p i ≡ _ = b.term in
      let here : b.after ≡ k = omega (arith, b.place) in
      record {
        term_in = l;
        element_in = subst (λ n. n < length gs) here
            (get_below gs b.after _ b.at);
        divided =
            ap (λ (t : List ℕ × S.Elem). divides (lead_of (get_or gs k [])) t.0) same ∙ b.divided;
        is = e;
      }
