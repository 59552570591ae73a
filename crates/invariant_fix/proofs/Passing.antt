-- The closing tests of a round, one after another, as the code's loops know them.
--   StepsTo A b gs n qs        the first n elements have passed the branch b, with the cofactors qs
--   steps_more                 one more
--   RoundsTo A gs n qs         all elements have passed the first n branches
--   rounds_more
--   ComesNext A k gs n es      after n branches the tests of the next one come, or the end
--   next_more, next_all
--   test_now                   what comes is the test of an element
use Rattle.std.proofs.Common.{◌≡◌, ◌⊎◌, inl, inr, ℕ, suc, ◌+◌, ◌<◌, ◌≤◌, List, [], ◌∷◌, ◌++◌, map, length, get_or, None, sym, ap, subst, ◌∙◌, arith, Vec, Global}
use Rattle.std.proofs.lemmas.List.{length-map, length-append, map-append, get_or_append_left, get_or_push}
use Rattle.algebra.proofs.Basics.{below_or_last}
use Rattle.algebra.specs.Fraction.{Fraction}
use Rattle.polynomials.specs.Terms.{Terms}
use Rattle.machines.specs.Journal.{Entry}
use Rattle.poly.specs.Seen.{terms_each}
use Rattle.rounds.specs.Analysis.{Setting, test, closing_from, finished}
use Rattle.loop_model.specs.FracPoly.{FracPoly}
use Rattle.invariant_fix.specs.Closing.{seen_branch_steps, seen_steps, IsClosing, AreBranchSteps}
use Rattle.invariant_fix.specs.Coming.{Comes}
use Rattle.invariant_fix.proofs.Tests.{test_here, tests_go_on, tests_end}

-- what is so of the first n, by what each is seen as, and of one more
one_more : {X Y : Type 0} (f : X → Y) (d : Y) (P : ℕ → Y → Type 0) (n : ℕ) (qs news : List X)
    (q : X) → length qs ≡ n → ((i : ℕ) → i < n → P i (get_or (map f qs) i d)) → news ≡ qs ++ q ∷ []
    → P n (f q) → (length news ≡ n + 1) × ((i : ℕ) → i < n + 1 → P i (get_or (map f news) i d))
one_more f d P n qs news q count each e is = (
  (let x = ap length e in let y = length-append qs (q ∷ []) in omega (arith, x, y, count)),
  (λ i l. at i (let k : (i < n) ⊎ (i ≡ n) = below_or_last i n l in k)),
)
  where
    seen : map f news ≡ map f qs ++ f q ∷ []
    seen = ap (map f) e ∙ map-append f qs (q ∷ [])

    size : length (map f qs) ≡ n
    size = length-map qs f ∙ count

    at : (i : ℕ) → (i < n) ⊎ (i ≡ n) → P i (get_or (map f news) i d)
    at i (inl k) = subst (P i) (sym (ap (λ xs. get_or xs i d) seen
        ∙ get_or_append_left (map f qs) (f q ∷ []) d i (omega (arith, size, k)))) (each i k)
    at i (inr k) = subst (P i) (sym (ap (λ xs. get_or xs i d) seen
        ∙ get_or_push (map f qs) (f q) d i (omega (arith, size, k))))
        (subst (λ j. P j (f q)) (sym k) is)

module _ (A : Setting) where
  pub record StepsTo (b : ℕ) (gs : List (Terms Fraction)) (n : ℕ)
      (qs : List (Vec FracPoly Global)) : Type 0 where
    pub count : length qs ≡ n
    pub each : (i : ℕ) → i < n → IsClosing A b i gs (get_or (seen_branch_steps qs) i [])

  pub steps_more : (b : ℕ) {gs : List (Terms Fraction)} (n : ℕ) {qs : List (Vec FracPoly Global)}
      (news : List (Vec FracPoly Global)) (q : Vec FracPoly Global)
      → StepsTo b gs n qs → news ≡ qs ++ q ∷ [] → IsClosing A b n gs (terms_each q.items)
      → StepsTo b gs (n + 1) news
  steps_more b {gs = gs} n {qs = qs} news q h e is =
      let more = one_more (λ (v : Vec FracPoly Global). terms_each v.items) []
      (λ i. IsClosing A b i gs) n qs news q h.count h.each e is in
      record { count = more.0; each = more.1 }

  pub record RoundsTo (gs : List (Terms Fraction)) (n : ℕ)
      (qs : List (Vec (Vec FracPoly Global) Global)) : Type 0 where
    pub count : length qs ≡ n
    pub each : (b : ℕ) → b < n → AreBranchSteps A b gs (get_or (seen_steps qs) b [])

  pub rounds_more : (gs : List (Terms Fraction)) (n : ℕ)
      {qs : List (Vec (Vec FracPoly Global) Global)}
      (news : List (Vec (Vec FracPoly Global) Global)) (q : Vec (Vec FracPoly Global) Global)
      → RoundsTo gs n qs → news ≡ qs ++ q ∷ [] → AreBranchSteps A n gs (seen_branch_steps q.items)
      → RoundsTo gs (n + 1) news
  rounds_more gs n {qs = qs} news q h e is =
      let more = one_more (λ (v : Vec (Vec FracPoly Global) Global). seen_branch_steps v.items) []
      (λ i. AreBranchSteps A i gs) n qs news q h.count h.each e is in
      record { count = more.0; each = more.1 }

  -- ---- what comes
  pub record ComesNext (k : ℕ) (gs : List (Terms Fraction)) (n : ℕ) (es : List Entry) : Type 0 where
    pub more : n < length A.forms → Comes A es (closing_from A k n 0 gs)
    pub done : length A.forms ≤ n → Comes A es (finished k gs)

  pub next_more : (k : ℕ) (gs : List (Terms Fraction)) (n : ℕ) (es : List Entry) → A.asked ≡ None
      → Comes A es (closing_from A k n (length gs) gs) → ComesNext k gs (n + 1) es
  next_more k gs n es none c = record {
    more = λ m. subst (Comes A es) (tests_go_on A k n gs (omega (arith, m))
        ∙ ap (λ j. closing_from A k j 0 gs) (let e : suc n ≡ n + 1 = omega arith in e)) c;
    done = λ m. subst (Comes A es) (tests_end A k n gs (omega (arith, m)) none) c;
  }

  pub test_now : (k b i : ℕ) (gs : List (Terms Fraction)) {es : List Entry} → i < length gs
      → Comes A es (closing_from A k b i gs) → Comes A es (test A k b i gs)
  test_now k b i gs {es = es} l c = subst (Comes A es) (test_here A k b gs i l) c
