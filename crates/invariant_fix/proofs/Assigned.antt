-- The variables that code assigns, as code finds them.
--   look, look_end          whether statements assign a variable, from one of them on
--   counted, uncounted      how many of those up to one are assigned
--   place_copy, place_itself, place_within     where stands what a variable was
--   more_assigned, same_assigned       the variables that are assigned, one more
use Rattle.std.proofs.Common.{◌≡◌, ℕ, suc, ◌+◌, ◌<◌, ◌≤◌, Bool, true, false, ◌||◌, cond, ◌==◌, List, [], ◌∷◌, ◌++◌, drop, get_or, length, refl, sym, ap, ◌∙◌, arith}
use Rattle.std.specs.List.{list_any}
use Rattle.std.proofs.lemmas.List.{append-nil, length-append, at_drop_more, at_drop_all}
use Rattle.loop_model.specs.declared.statement.Statement as code
use Rattle.loop_runs.specs.Parts.{statements_in}
use Rattle.corollaries.specs.CodeBetween.{assigned_variables, copy_of, copies}
use Rattle.corollaries.proofs.CodeBetween.{assigned_next, copy_within}
use Rattle.invariant_fix.specs.Code.{assigned_by, all, place_before}

module _ (v : ℕ) where
  abbrev pub has_target : code.Statement → Bool
  has_target s = list_any (λ j. j == v) s.targets.items

  pub look : (b : List code.Statement) (k : ℕ) (s : code.Statement) → k < length b
      → s ≡ get_or b k s → assigned_by (drop k b) v ≡ has_target s || assigned_by (drop (k + 1) b) v
  look b k s l e = at_drop_more (λ c. assigned_by c v) b k s l
      ∙ ap (λ (z : code.Statement). has_target z || assigned_by (drop (k + 1) b) v) (sym e)

  pub look_end : (b : List code.Statement) (k : ℕ) → length b ≤ k → assigned_by (drop k b) v ≡ false
  look_end b k l = at_drop_all (λ c. assigned_by c v) b k l

module _ (b : List code.Statement) (i : ℕ) where
  next_assigned : assigned_variables (i + 1) (statements_in b)
      ≡ assigned_variables i (statements_in b) ++ cond (assigned_by b i) (i ∷ []) []
  next_assigned = ap (λ k. assigned_variables k (statements_in b)) (let q : i + 1 ≡ suc i =
      omega arith in q) ∙ assigned_next (statements_in b) i

  pub more_assigned : assigned_by b i ≡ true
      → assigned_variables (i + 1) (statements_in b) ≡ assigned_variables i (statements_in b) ++ i
      ∷ []
  more_assigned h = next_assigned
      ∙ ap (λ t. assigned_variables i (statements_in b) ++ cond t (i ∷ []) []) h

  pub same_assigned : assigned_by b i ≡ false
      → assigned_variables (i + 1) (statements_in b) ≡ assigned_variables i (statements_in b)
  same_assigned h = next_assigned
      ∙ ap (λ t. assigned_variables i (statements_in b) ++ cond t (i ∷ []) []) h
      ∙ append-nil (assigned_variables i (statements_in b))

  pub counted : (n : ℕ) → n ≡ copies i (statements_in b) → assigned_by b i ≡ true
      → n + 1 ≡ copies (i + 1) (statements_in b)
  counted n e h =
      let p = ap length (more_assigned h) in
      let q = length-append (assigned_variables i (statements_in b)) (i ∷ []) in
      omega (arith, e, p, q)

  pub uncounted : (n : ℕ) → n ≡ copies i (statements_in b) → assigned_by b i ≡ false
      → n ≡ copies (i + 1) (statements_in b)
  uncounted n e h = e ∙ sym (ap length (same_assigned h))

module _ (m : ℕ) (b : List code.Statement) (v : ℕ) (l : v < m) where
  pub place_copy : {n : ℕ} → n ≡ copies v (statements_in b) → assigned_by b v ≡ true
      → n ≡ place_before m b v
  place_copy e h = e
      ∙ ap (λ t. cond t (copy_of (statements_in b) v) (copies m (statements_in b) + v)) (sym h)

  pub place_itself : (n k : ℕ) → k ≡ copies m (statements_in b) → n ≡ k + v
      → assigned_by b v ≡ false → n ≡ place_before m b v
  place_itself n k c e h = e ∙ ap (λ j. j + v) c
      ∙ ap (λ t. cond t (copy_of (statements_in b) v) (copies m (statements_in b) + v)) (sym h)

  pub place_within : place_before m b v < all m b
  place_within = go (assigned_by b v) refl
    where
      go : (t : Bool) → assigned_by b v ≡ t
          → cond t (copy_of (statements_in b) v) (copies m (statements_in b) + v)
          < copies m (statements_in b) + m
      go true h = let q = copy_within (statements_in b) m v l h in omega (arith, q)
      go false h = omega (arith, l)
