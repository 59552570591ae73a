-- The states of a run of a chain: one more than its words have letters and its loops code before them, and the last is its end.
--   chain_states_of_run
use Rattle.std.proofs.Common.{◌≡◌, ℕ, zero, suc, ◌+◌, List, [], ◌∷◌, ◌++◌, drop, get_or, length, sum_by, refl, sym, ap, subst, ◌∙◌, arith, Option, Some, None}
use Rattle.std.specs.Prelude.{option_and_then}
use Rattle.std.specs.Option.{option_map_or}
use Rattle.std.proofs.lemmas.List.{append-nil, get_or-append-add, length-append}
use Rattle.std.proofs.lemmas.List.Sums.{sum_by-cons}
use Rattle.algebra.specs.Fraction.{Fraction}
use Rattle.loops.specs.Program.{Expr, Program, Statement}
use Rattle.loops.specs.Run.{run_end, states}
use Rattle.loops.proofs.Runs.{states_of_run}
use Rattle.loops.specs.Chain.{Stage, loop_of, state_behind, chain_end, stage_states, further_states, is_code, count_codes}

-- a list of n elements, the last of which, or s where there is none, is e
record Ends (n : ℕ) (s e : List Fraction) (l : List (List Fraction)) : Type 0 where
  count : length l ≡ n
  last : (d : List Fraction) → get_or (s ∷ l) n d ≡ e

-- one list behind another that ends where the other begins
joined : (n k : ℕ) (s t e : List Fraction) (xs ys : List (List Fraction)) → Ends n s t xs
    → Ends k t e ys → Ends (n + k) s e (xs ++ ys)
joined n zero s t e xs ys a b = record {
  count = length-append xs ys ∙ (let c = a.count in let d = b.count in omega (arith, c, d));
  last = λ d. nothing ys b.count d;
}
  where
    nothing : (zs : List (List Fraction)) → length zs ≡ 0 → (d : List Fraction)
        → get_or (s ∷ (xs ++ zs)) (n + 0) d ≡ e
    nothing [] l d = ap (λ ws. get_or (s ∷ ws) (n + 0) d) (append-nil xs)
        ∙ ap (λ i. get_or (s ∷ xs) i d) (let q : n + 0 ≡ n = omega arith in q) ∙ a.last d ∙ b.last d
    nothing (z ∷ zs) l d = absurd (omega (arith, l))
joined n (suc k) s t e xs ys a b = record {
  count = length-append xs ys ∙ (let c = a.count in let d = b.count in omega (arith, c, d));
  last = λ d. ap (λ i. get_or (s ∷ (xs ++ ys)) i d) (let c = a.count in let q : n + suc k
      ≡ suc (length xs + k) = omega (arith, c) in q) ∙ get_or-append-add xs ys k d ∙ b.last d;
}

module _ {At : Type 0} (program : Program (Expr At)) where
  -- the states of a word, but for the first where there is no code before it
  drop_first : (xs : List (List Fraction)) (n : ℕ) (s e : List Fraction) → length xs ≡ suc n
      → get_or xs 0 s ≡ s → ((d : List Fraction) → get_or xs n d ≡ e) → Ends n s e (drop 1 xs)
  drop_first [] n s e l h k = absurd (omega (arith, l))
  drop_first (x ∷ xs) n s e l h k = record {
    count = omega (arith, l);
    last = λ d. ap (λ y. get_or (y ∷ xs) n d) (sym h) ∙ k d;
  }

  starts_there : (bs : List (List (Statement (Expr At)))) (w : List ℕ) (s : List Fraction)
      → get_or (states (loop_of program bs) w s) 0 s ≡ s
  unfolding states
  starts_there bs [] s = refl
  starts_there bs (b ∷ w) s = refl

  told_ends : (code : List (Statement (Expr At))) (bs : List (List (Statement (Expr At))))
      (w : List ℕ) (s t : List Fraction)
      → run_end (loop_of program bs) w (state_behind program code s)
      ≡ Some t → Ends (is_code code + length w) s t (stage_states program code bs w s)
  unfolding stage_states state_behind
  told_ends [] bs w s t h = subst (λ n. Ends n s t (drop 1 (states (loop_of program bs) w s)))
      (let q : length w ≡ 0 + length w = omega arith in q)
      (drop_first (states (loop_of program bs) w s) (length w) s t
      (states_of_run (loop_of program bs) w s t t h).0 (starts_there bs w s)
      (λ d. (states_of_run (loop_of program bs) w s t d h).1))
  told_ends (a ∷ code) bs w s t h =
      subst (λ n. Ends n s t (states (loop_of program bs) w (state_behind program (a ∷ code) s)))
      (let q : suc (length w) ≡ 1 + length w = omega arith in q)
      (record {
        count = (states_of_run (loop_of program bs) w (state_behind program (a ∷ code) s) t t
            h).0;
        last = λ d. (states_of_run (loop_of program bs) w (state_behind program (a ∷ code) s) t d
            h).1;
      })

  all_states : (stages : List (Stage (Expr At))) (words : List (List ℕ)) (s end : List Fraction)
      → chain_end program stages words s ≡ Some end
      → Ends (count_codes stages + sum_by length words) s end (further_states program stages words
      s)
  unfolding chain_end further_states count_codes
  all_states [] [] s end h = record { count = refl; last = λ d. cc }
  all_states [] (w ∷ words) s end h = absurd (cc)
  all_states (g ∷ stages) [] s end h = absurd (cc)
  all_states (g ∷ stages) (w ∷ words) s end h =
      go (run_end (loop_of program g.branches) w (state_behind program g.code s)) refl h
      (λ t. all_states stages words t end)
    where
      go : (o : Option (List Fraction)) → run_end (loop_of program g.branches) w
          (state_behind program g.code s) ≡ o → option_and_then (chain_end program stages words) o
          ≡ Some end
          → ((t : List Fraction) → chain_end program stages words t ≡ Some end
          → Ends (count_codes stages + sum_by length words) t end
          (further_states program stages words t))
          → Ends (is_code g.code + count_codes stages + sum_by length (w ∷ words)) s end
          (stage_states program g.code g.branches w s ++ option_map_or
          (further_states program stages
          words) o [])
      go None e h later = absurd (cc)
      go (Some t) e h later =
          subst (λ n. Ends n s end (stage_states program g.code g.branches w s ++ further_states
          program
          stages words t))
          (let q = sum_by-cons length w words in let z : (is_code g.code + length w)
          + (count_codes stages + sum_by length words) ≡ is_code g.code + count_codes stages
          + sum_by length (w ∷ words) = omega (arith, q) in z)
          (joined (is_code g.code + length w) (count_codes stages + sum_by length words) s t end
          (stage_states program g.code g.branches w s) (further_states program stages words t)
          (told_ends g.code g.branches w s t e) (later t h))

  pub chain_states_of_run : (stages : List (Stage (Expr At))) (words : List (List ℕ))
      (s end d : List Fraction) → chain_end program stages words s ≡ Some end
      → (length (s ∷ further_states program stages words s)
      ≡ suc (count_codes stages + sum_by length words))
      × (get_or (s ∷ further_states program stages words s) (count_codes stages + sum_by length
      words) d ≡ end)
  chain_states_of_run stages words s end d h = let e = all_states stages words s end h in
      (ap suc e.count, e.last d)
