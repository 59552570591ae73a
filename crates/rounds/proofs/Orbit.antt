-- What an orbit's list generates, from elimination, the law that pulls back a form, and independence.
--   value_turned           iterations of a branch, composed, are values after the iterations
--   value_at_point         the value at a point is the value at it and the state
--   form_at_point          a polynomial composed with the form is, at the point of n, the one after n iterations
--   member_at_point        what is a member of the padded ideal is, at each point, one of the ideal
--   orbit_of_form          the list is the orbit's
--   eliminated_within      what is eliminated is in the ideal where the list is, at one point
use Rattle.std.proofs.Common.{◌≡◌, ℕ, zero, suc, ◌+◌, ◌<◌, List, [], ◌∷◌, ◌++◌, map, replicate, get_or, length, arith, refl, sym, ap, ap₂, ◌∙◌, All}
use Rattle.std.proofs.lemmas.List.{map-append}
use Rattle.std.proofs.lemmas.List.Elements.{All-head, All-tail}
use Rattle.algebra.specs.Each.{Each}
use Rattle.algebra.specs.Sum.{sum_over}
use Rattle.algebra.proofs.Each.{each-append}
use Rattle.algebra.specs.Fraction.{Fraction, ℚ}
use Rattle.algebra.proofs.Fractions.{ℚ_ring}
use Rattle.polynomials.specs.Terms.{Terms, Same, constant, variables, compose, evaluate}
use Rattle.polynomials.specs.Polynomial.{Arity, AllArity}
use Rattle.polynomials.proofs.Arity.{arity-compose, arity-constants, arity-variables}
use Rattle.polynomials.proofs.Same.{Same-sym}
use Rattle.polynomials.proofs.ValueAt.{value_at-compose, values_at-constants, value_at-variables}
use Rattle.ideals.specs.Members.{IsMember}
use Rattle.machines.specs.Elimination.{in_front}
use Rattle.loops.specs.Program.{Expr, Program}
use Rattle.loops.specs.Run.{effect, IsState}
use Rattle.loops.proofs.Maps.{value_after_branch, effect_keeps_state}
use Rattle.rounds.specs.Word.{branch_of, after_word}
use Rattle.rounds.specs.Round.{IsOrbit}
use Rattle.rounds.specs.Orbit.{state_after, IsPoints, IsForm, at_point, AreRelations, Padded, IsIndependent, PullsBack, IsEliminated}
use Rattle.ideals.proofs.FractionMembers.{member_same, member_nil, member_at, member_turned}
use Rattle.polynomials.proofs.ByValues.{same_by_values}
use Rattle.machines.proofs.Padding.{at, arity-pad, arity-padded, value_at-pad}
use Rattle.rounds.proofs.Word.{arity-after_word}

module _ {At : Type 0} (program : Program (Expr At)) (i : ℕ) where
  pub value_turned : (n : ℕ) (p : Terms Fraction) (s : List Fraction) → IsState program s
      → at (after_word program (replicate n i) p) s ≡ at p (state_after program i n s)
  unfolding after_word state_after
  value_turned zero p s is = refl
  value_turned (suc n) p s is = value_after_branch program (after_word program (replicate n i) p)
      (branch_of program i) s is
      ∙ value_turned n p (effect program (branch_of program i) s)
      (effect_keeps_state program (branch_of program i) s is)

module _ (k m : ℕ) (point : ℕ → List Fraction) (points : IsPoints k point) where
  -- ---- at a point
  images : ℕ → List (Terms Fraction)
  images n = map (constant m) (point n) ++ variables ℚ m

  images_arity : (n : ℕ) → AllArity m (images n)
  unfolding images
  images_arity n = each-append (Arity m) (map (constant m) (point n)) (variables ℚ m)
      (arity-constants m (point n)) (arity-variables m ℚ)

  images_at : (n : ℕ) (s : List Fraction) → length s ≡ m → map (λ q. at q s) (images n) ≡ point n
      ++ s
  unfolding images
  images_at n s l = map-append (λ q. at q s) (map (constant m) (point n)) (variables ℚ m)
      ∙ ap₂ ◌++◌ (values_at-constants ℚ_ring m (point n) s) (value_at-variables ℚ_ring m s l)

  pub value_at_point : (n : ℕ) (e : Terms Fraction) (s : List Fraction) → length s ≡ m
      → at (at_point k m point n e) s ≡ at e (point n ++ s)
  unfolding images
  value_at_point n e s l = value_at-compose ℚ_ring m e (images n) s ∙ ap (at e) (images_at n s l)

  pub arity-at_point : (n : ℕ) (e : Terms Fraction) → Arity m (at_point k m point n e)
  unfolding images
  arity-at_point n e = arity-compose m ℚ e (images n) (images_arity n)

  -- at a point, a padded polynomial is itself, and a relation is zero
  pub pad_at_point : (n : ℕ) (g : Terms Fraction) → Arity m g
      → Same ℚ (at_point k m point n (in_front k g)) g
  pad_at_point n g a = same_by_values m _ g (arity-at_point n (in_front k g)) a
      (λ s l. value_at_point n (in_front k g) s l ∙ ap (λ j. at (in_front j g) (point n ++ s))
      (sym (points.size n)) ∙ value_at-pad (point n) s g)

  pub nothing_at_point : (n : ℕ) (r : Terms Fraction) → ((s : List Fraction) → length s ≡ m
      → at r (point n ++ s) ≡ ℚ.zero) → Same ℚ (at_point k m point n r) []
  unfolding Each evaluate sum_over
  nothing_at_point n r h = same_by_values m _ [] (arity-at_point n r) tt (λ s l.
      value_at_point n r s l ∙ h s l)

  module _ (rs : List (Terms Fraction)) (relations : AreRelations k m point rs)
      (gs : List (Terms Fraction)) (ga : AllArity m gs) where
    padded_arity : AllArity (k + m) (Padded k m gs rs)
    padded_arity = each-append (Arity (k + m)) (map (in_front k) gs) rs (arity-padded k m gs ga)
        relations.arities

    relations_at : (n : ℕ) (us : List (Terms Fraction)) → ((s : List Fraction) → length s ≡ m
        → All (λ r. at r (point n ++ s) ≡ ℚ.zero) us)
        → (j : ℕ) → j < length us → IsMember ℚ m gs (at_point k m point n (get_or us j []))
    relations_at n [] h j l = absurd (omega arith)
    relations_at n (u ∷ us) h zero l =
        member_same m gs [] _ (nothing_at_point n u (λ s ls.
        All-head (λ r. at r (point n ++ s) ≡ ℚ.zero) u us (h s ls))) (member_nil m gs)
    relations_at n (u ∷ us) h (suc j) l =
        relations_at n us (λ s ls. All-tail (λ r. at r (point n ++ s) ≡ ℚ.zero) u us (h s ls)) j
        (omega arith)

    padded_at : (n : ℕ) (us : List (Terms Fraction)) → AllArity m us
        → ((j : ℕ) → j < length us → IsMember ℚ m gs (get_or us j []))
        → (j : ℕ) → j < length (map (in_front k) us ++ rs)
        → IsMember ℚ m gs (at_point k m point n (get_or (map (in_front k) us ++ rs) j []))
    unfolding Each
    padded_at n [] a h j l = relations_at n rs (relations.zero n) j l
    padded_at n (u ∷ us) a h zero l = member_same m gs u _ (pad_at_point n u a.0)
        (h 0 (omega arith))
    padded_at n (u ∷ us) a h (suc j) l = padded_at n us a.1 (λ i q. h (suc i) (omega arith)) j
        (omega arith)

    -- what is a member of the padded ideal is, at each point, one of the ideal
    pub member_at_point : (n : ℕ) (e : Terms Fraction) → Arity (k + m) e
        → IsMember ℚ (k + m) (Padded k m gs rs) e → IsMember ℚ m gs (at_point k m point n e)
    unfolding images
    member_at_point n e a i = member_turned (k + m) m (Padded k m gs rs) gs (images n) e
        padded_arity ga (images_arity n) a (padded_at n gs ga (member_at m gs ga)) i

module _ {At : Type 0} (program : Program (Expr At)) (i k : ℕ) (point : ℕ → List Fraction)
    (points : IsPoints k point) (rs : List (Terms Fraction))
    (relations : AreRelations k (length program.names) point rs)
    (fs : List (Terms Fraction)) (form : IsForm program i k point fs) where
  abbrev m : ℕ
  m = length program.names

  -- p with the form, at a point, is p after that number of iterations
  pub form_at_point : (n : ℕ) (p : Terms Fraction) → Arity m p
      → Same ℚ (at_point k m point n (compose ℚ (k + m) p fs)) (after_word program (replicate n i)
      p)
  form_at_point n p a =
      let e : Terms Fraction = compose ℚ (k + m) p fs in
      same_by_values m _ _ (arity-at_point k m point points n e)
      (arity-after_word program (replicate n i) p a)
      (λ s is. value_at_point k m point points n e s is
      ∙ value_at-compose ℚ_ring (k + m) p fs (point n ++ s) ∙ ap (at p) (form.iterations n s is)
      ∙ sym (value_turned program i n p s is))

  pub orbit_of_form : (gs hs ks : List (Terms Fraction)) → AllArity (length program.names) gs
      → IsIndependent k (length program.names) point rs → PullsBack k (length program.names) fs rs
      gs
      hs → IsEliminated k (length program.names) hs ks → IsOrbit program gs i ks
  orbit_of_form gs hs ks ga independent pulls_back eliminated = record {
    arities = eliminated.arities;
    only = λ p a h n.
        member_same m gs _ _ (Same-sym ℚ (form_at_point n p a))
        (member_at_point k m point points rs relations gs ga n (compose ℚ (k + m) p fs)
        (arity-compose (k + m) ℚ p fs form.arities)
        ((pulls_back.exactly p a).0 (eliminated.only p a h)));
    all = λ p a h. eliminated.all p a ((pulls_back.exactly p a).1
        (independent.member gs ga (compose ℚ (k + m) p fs) (arity-compose (k + m) ℚ p fs
        form.arities) (λ n. member_same m gs _ _ (form_at_point n p a) (h n))));
  }

-- ---- the half that needs neither a law of the round nor independence
module _ (k m : ℕ) (point : ℕ → List Fraction) (points : IsPoints k point)
    (gs hs ks : List (Terms Fraction)) (ga : AllArity m gs) (ha : AllArity (k + m) hs)
    (eliminated : IsEliminated k m hs ks) where
  -- where the starting list is, at one point, in the ideal of gs, what is eliminated is
  pub eliminated_within : (n : ℕ)
      → ((j : ℕ) → j < length hs → IsMember ℚ m gs (at_point k m point n (get_or hs j [])))
      → (p : Terms Fraction) → Arity m p → IsMember ℚ m ks p → IsMember ℚ m gs p
  unfolding images
  eliminated_within n h p a i =
      member_same m gs _ p (Same-sym ℚ (pad_at_point k m point points n p a))
      (member_turned (k + m) m hs gs (images k m point points n) (in_front k p) ha ga
      (images_arity k m point points n) (arity-pad k m p a) h (eliminated.only p a i))
