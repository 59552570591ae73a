-- The polynomial 0.
--   image_operations-zero      the image of a word has no operation
--   zero_limit, zero_wide      so none passes a limit, and none is past
--   costs-zero, zero_costly    words cost nothing, so none costs too much
--   zero_none                  no word counters it
use Rattle.std.proofs.Common.{◌≡◌, ℕ, ◌+◌, ◌*◌, ◌<◌, Bool, true, false, nat_lt, arith, List, [], ◌∷◌, ◌++◌, length, refl, sym, ap, ap₂, subst, ◌∙◌, inl, inr}
use Rattle.std.specs.Prelude.{if◌then◌else◌}
use Rattle.std.proofs.lemmas.List.Elements.{All-nil}
use Rattle.std.proofs.lemmas.List.Sums.{sum_by-cons}
use Rattle.algebra.specs.Fraction.{rationals}
use Rattle.algebra.proofs.Fractions.{ℚ_ring}
use Rattle.algebra.specs.Sum.{sum_over}
use Rattle.polynomials.specs.Terms.{evaluate}
use Rattle.polynomials.specs.Order.{grevlex}
use Rattle.polynomials.proofs.ValueAt.{value_at-nil}
use Rattle.machines.specs.Collect.{collect}
use Rattle.loops.specs.Program.{Expr, Program}
use Rattle.loops.specs.Map.{start_map, branch_map, composition}
use Rattle.rounds.specs.Word.{branch_of, after_word}
use Rattle.loop_model.specs.Operations.{Operation, IsFirst, IsFree, PassesLimit}
use Rattle.corollaries.specs.Counter.{Counters}
use Rattle.counter_run.specs.Composition.{composition_operations}
use Rattle.counter_run.specs.Costs.{kept_cost, most_cost, composition_cost, letter_cost, start_cost, keeping_cost, cost, costs, IsTooCostly}
use Rattle.counter_run.specs.Images.{collected_after, word_operations, image_operations}
use Rattle.counter_run.specs.Causes.{IsLimitWord}
use Rattle.counter_run.specs.Answers.{IsNone, IsWideCause}

not_nil : (before : List Operation) (o : Operation) (behind : List Operation)
    → [] ≡ before ++ o ∷ behind → ⊥
not_nil [] o behind e = cc
not_nil (x ∷ before) o behind e = cc

no_first : (m : ℕ) (P : Operation → Type 0) (os : List Operation) (at : ℕ) → os ≡ []
    → IsFirst m P os at → ⊥
no_first m P os at e f = not_nil f.before f.operation f.behind (sym e ∙ f.order)

module _ (program : Program (Expr ℕ)) where
  abbrev m : ℕ
  m = length program.names

  after_word-zero : (w : List ℕ) → after_word program w [] ≡ []
  unfolding after_word evaluate sum_over
  after_word-zero [] = refl
  after_word-zero (b ∷ w) =
      ap (λ p. composition program p (branch_map program (branch_of program b)))
      (after_word-zero w)

  word_operations-zero : (w : List ℕ) → word_operations program [] w ≡ []
  unfolding word_operations composition_operations collect
  word_operations-zero [] = refl
  word_operations-zero (b ∷ w) =
      ap₂ (λ os p. os ++ composition_operations m (branch_map program (branch_of program b)) []
      (collect rationals grevlex p)) (word_operations-zero w) (after_word-zero w)

  image_operations-zero : (w : List ℕ) → image_operations program [] w ≡ []
  unfolding composition_operations collect
  image_operations-zero w =
      ap₂ (λ os p. os ++ composition_operations m (start_map program) []
      (collect rationals grevlex p)) (word_operations-zero w) (after_word-zero w)

  counters_not : (w : List ℕ) → Counters program [] w → ⊥
  counters_not w c = c.not_zero (value_at-nil ℚ_ring c.run.end)

  pub zero_limit : (w : List ℕ) → IsLimitWord program [] w → ⊥
  zero_limit w h = no_first m _ (image_operations program [] w) 0 (image_operations-zero w) h

  pub zero_wide : (n : ℕ) (w : List ℕ) → IsWideCause program [] n w → ⊥
  zero_wide n w (inl h) = no_first m _ (image_operations program [] w) 0 (image_operations-zero w) h
  zero_wide n w (inr (f, inl h)) = counters_not w h.counters
  zero_wide n w (inr (f, inr h)) = counters_not w h.counters

  collected_after-zero : (w : List ℕ) → collected_after program [] w ≡ []
  unfolding collect
  collected_after-zero w = ap (collect rationals grevlex) (after_word-zero w)

  letter_cost-zero : (w : List ℕ) → letter_cost program [] w ≡ 0
  unfolding letter_cost
  letter_cost-zero [] = refl
  letter_cost-zero (b ∷ w) =
      ap (composition_cost m (branch_map program (branch_of program b))) (collected_after-zero w)

  start_cost-zero : (w : List ℕ) → start_cost program [] w ≡ 0
  unfolding start_cost
  start_cost-zero w = ap (composition_cost m (start_map program)) (collected_after-zero w)

  keeping_cost-zero : (n : ℕ) (w : List ℕ) → keeping_cost program [] n w ≡ 0
  unfolding keeping_cost
  keeping_cost-zero n w =
      ap (λ p. if nat_lt (length w) n then kept_cost * length p else 0) (collected_after-zero w)
      ∙ go (nat_lt (length w) n)
    where
      go : (b : Bool) → (if b then kept_cost * 0 else 0) ≡ 0
      go true = refl
      go false = refl

  costs-zero : (n : ℕ) (ws : List (List ℕ)) → costs program [] n ws ≡ 0
  costs-zero n [] = refl
  costs-zero n (w ∷ ws) =
      let first = letter_cost-zero w in
      let at_start = start_cost-zero w in
      let kept = keeping_cost-zero n w in
      let rest = costs-zero n ws in
      let all : costs program [] n (w ∷ ws) ≡ cost program [] n w + costs program [] n ws =
      sum_by-cons (cost program [] n) w ws in
      omega arith

  pub zero_costly : (n : ℕ) (w : List ℕ) → IsTooCostly program [] n w → ⊥
  zero_costly n w h =
      let none = costs-zero n (h.before ++ w ∷ []) in
      let much : most_cost < costs program [] n (h.before ++ w ∷ []) = h.costly in
      absurd (omega arith)

  pub zero_none : (n : ℕ) → IsNone program [] n
  zero_none n = record {
    none = λ w l c. counters_not w c;
    free = λ v a l.
        subst (IsFree m) (sym (image_operations-zero v)) (All-nil (λ o. ¬ (PassesLimit m o)));
    little = zero_costly n;
  }
