-- The places of local names, and what of them is unset, one after another.
--   no_places, places_more     those of local names, and of one more
--   unset_behind, unset_push   what is unset behind some statements, and behind one more; sets_push: they set first what they use
use Rattle.std.proofs.Common.{◌≡◌, ℕ, zero, suc, ◌+◌, false, List, [], ◌∷◌, ◌++◌, refl, ap, ◌∙◌, arith, All}
use Rattle.loops.specs.Program.{Expr, Statement}
use Rattle.loops.specs.WellFormed.{Uses, is_among, local_places, still_unset, SetsFirst}

pub no_places : (m : ℕ) → [] ≡ local_places m 0
unfolding local_places
no_places m = refl

pushed : (m k : ℕ) → local_places m (suc k) ≡ local_places m k ++ (m + k) ∷ []
unfolding local_places
pushed m zero = ap (λ i. i ∷ []) (omega arith)
pushed m (suc k) = ap (λ is. m ∷ is) (pushed (suc m) k ∙ ap (λ i. local_places (suc m) k ++ i ∷ [])
    (omega arith))

pub places_more : (m k : ℕ) → local_places m (k + 1) ≡ local_places m k ++ (m + k) ∷ []
places_more m k = ap (local_places m) (omega arith) ∙ pushed m k

-- ---- statements
unfoldable pub unset_behind : List (Statement (Expr ℕ)) → List ℕ → List ℕ
unset_behind [] unset = unset
unset_behind (c ∷ cs) unset = unset_behind cs (still_unset c.targets unset)

pub unset_none : (unset : List ℕ) → unset ≡ unset_behind [] unset
unfolding unset_behind
unset_none unset = refl

pub unset_push : (cs : List (Statement (Expr ℕ))) (c : Statement (Expr ℕ)) (unset : List ℕ)
    → unset_behind (cs ++ c ∷ []) unset ≡ still_unset c.targets (unset_behind cs unset)
unfolding unset_behind
unset_push [] c unset = refl
unset_push (d ∷ cs) c unset = unset_push cs c (still_unset d.targets unset)

pub sets_none : (unset : List ℕ) → SetsFirst {At = ℕ} unset []
unfolding SetsFirst
sets_none unset = tt

pub sets_push : (cs : List (Statement (Expr ℕ))) (c : Statement (Expr ℕ)) (unset : List ℕ)
    → SetsFirst unset cs → All (Uses (λ i. is_among (unset_behind cs unset) i ≡ false)) c.values
    → SetsFirst unset (cs ++ c ∷ [])
unfolding SetsFirst unset_behind
sets_push [] c unset h u = (u, tt)
sets_push (d ∷ cs) c unset h u = (h.0, sets_push cs c (still_unset d.targets unset) h.1 u)
