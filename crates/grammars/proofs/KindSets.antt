-- Sets of kinds.
--   has_left, has_right, has_either     of two sets joined
--   has-with_if                of a set with another before it
--   within_has, all_within, apart_none, narrower_apart     sets within and apart
use Rattle.std.proofs.Common.{◌≡◌, List, [], ◌∷◌, ◌++◌, refl, ap, sym, ◌∙◌, inl, inr, Bool, true, false, not, ◌&&◌, ◌||◌, ◌⊎◌}
use Rattle.std.proofs.lemmas.List.Folds.{list_any-append}
use Rattle.std.proofs.Math.Bool.{or-false}
use Rattle.std.proofs.lemmas.Bool.{and_parts, and_from, or_cases, or_from, or_left, or_right, not-true, false_from_ne_true}
use Rattle.algebra.proofs.Basics.{not_both}
use Rattle.grammars.specs.Kinds.{IsExact, has, apart, within, with_if}

not_has : (b c : Bool) → (b ≡ true → c ≡ true) → not c ≡ true → not b ≡ true
not_has true c h e = absurd (not_both c (h refl) (not-true c e))
not_has false c h e = refl

module _ {K : Type 0} (same : K → K → Bool) where
  pub has_left : (a b : List K) (k : K) → has same a k ≡ true → has same (a ++ b) k ≡ true
  has_left a b k e = list_any-append (λ j. same j k) a b ∙ or_left (has same a k) (has same b k) e

  pub has_right : (a b : List K) (k : K) → has same b k ≡ true → has same (a ++ b) k ≡ true
  has_right a b k e = list_any-append (λ j. same j k) a b ∙ or_right (has same a k) (has same b k) e

  pub has_either : (a b : List K) (k : K) → has same (a ++ b) k ≡ true → (has same a k ≡ true)
      ⊎ (has same b k ≡ true)
  has_either a b k e = or_cases (has same a k) (has same b k)
      (sym (list_any-append (λ j. same j k) a b) ∙ e)

  pub has-with_if : (t : Bool) (a b : List K) (k : K) → has same (with_if t a b) k
      ≡ (has same a k || (t && has same b k))
  has-with_if true a b k = list_any-append (λ j. same j k) a b
  has-with_if false a b k = sym (or-false (has same a k))

  pub narrower_apart : (a js ks : List K) → ((k : K) → has same js k ≡ true → has same ks k ≡ true)
      → apart same a ks ≡ true → apart same a js ≡ true
  narrower_apart [] js ks w e = refl
  narrower_apart (j ∷ a) js ks w e =
      let p = and_parts (not (has same ks j)) (apart same a ks) e in
      and_from (not (has same js j)) (apart same a js) (not_has (has same js j) (has same ks j)
      (w j) p.0) (narrower_apart a js ks w p.1)

  module _ (is : IsExact same) where
    pub within_has : (a b : List K) (k : K) → within same a b ≡ true → has same a k ≡ true
        → has same b k ≡ true
    within_has [] b k e h = absurd (cc)
    within_has (j ∷ a) b k e h = let p = and_parts (has same b j) (within same a b) e in
        elim (or_cases (same j k) (has same a k) h) [
          | inl t ↦ ap (has same b) (sym (is.exact j k t))
              ∙ p.0
          | inr more ↦ within_has a b k p.1 more
        ]

    pub all_within : (js ks : List K) → ((k : K) → has same js k ≡ true → has same ks k ≡ true)
        → within same js ks ≡ true
    all_within [] ks w = refl
    all_within (j ∷ js) ks w =
        and_from (has same ks j) (within same js ks)
        (w j (or_left (same j j) (has same js j) (is.reflexive j)))
        (all_within js ks (λ k e. w k (or_right (same j k) (has same js k) e)))

    pub apart_none : (a b : List K) (k : K) → apart same a b ≡ true → has same b k ≡ true
        → has same a k ≡ false
    apart_none [] b k e h = refl
    apart_none (j ∷ a) b k e h = let p = and_parts (not (has same b j)) (apart same a b) e in
        let other = false_from_ne_true (same j k)
        (λ t. not_both (has same b k) h (ap (has same b) (sym (is.exact j k t))
        ∙ not-true (has same b j) p.0)) in
        or_from (same j k) (has same a k) other (apart_none a b k p.1 h)
