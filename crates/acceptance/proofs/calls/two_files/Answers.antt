use Rattle.std.proofs.Common.{◌≡◌, ◌≢◌, ℕ, zero, suc, ◌<◌, List, [], ◌∷◌, get_or, sym, subst, arith}
use Rattle.std.specs.Prelude.{codes, T, eqb, AllPairs, slice_index_or}
use Rattle.acceptance.proofs.calls.two_files.Goals as goal

loop_not_cert : codes "LOOP" ≡ codes "CERT" → ⊥
loop_not_cert e = subst (λ (xs : List ℕ). T (eqb (get_or xs 0 0) 76)) e tt

pair_differs : (a b : List ℕ) → (a ≡ b → ⊥) → AllPairs (λ m n. m ≢ n) (a ∷ b ∷ [])
pair_differs a b h = λ i j d l k. go i j d l k
  where
    go : (i j : ℕ) (d : List ℕ) → i < j → j < 2 → slice_index_or (a ∷ b ∷ []) i d ≢ slice_index_or
        (a ∷ b ∷ []) j d
    go zero zero d l k = absurd (omega arith)
    go zero (suc zero) d l k = h
    go zero (suc (suc j)) d l k = absurd (omega arith)
    go (suc i) j d l k = absurd (omega arith)

pub new-requires-clause-names_differ : goal.new-requires-clause-names_differ
new-requires-clause-names_differ c = subst (AllPairs (λ m n. m ≢ n))
    (sym c.in_ok-names.ensures.names) (pair_differs _ _ loop_not_cert)
