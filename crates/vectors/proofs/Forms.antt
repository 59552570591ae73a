-- The forms of one value, level by level of the kernels of powers.
--   combination-left, combination-right     a combination of one of two lists is one of both
--   level_none       there is no form at the power 0
--   not_grown        where the next power kills no more vectors than this one, no later power does
--   push_none, push_skip, push_more, push_end     a search through the next kernel: at its start; past a combination; with a new form; at its end
use Rattle.std.proofs.Common.{◌≡◌, ℕ, zero, suc, ◌+◌, List, [], ◌∷◌, ◌++◌, length, append_assoc, sym, ap, subst, ◌∙◌, arith}
use Rattle.algebra.specs.Ring.{Field}
use Rattle.algebra.proofs.FieldLaws as FL
use Rattle.algebra.specs.Each.{Each}
use Rattle.algebra.proofs.Each.{each-append, each_weaker}
use Rattle.std.proofs.lemmas.List.{append-nil}
use Rattle.vectors.specs.Space.{Space, IsCombination, Independent, IsLinear}
use Rattle.vectors.specs.Splitting.{shift, IsKilled, IsTriangular, IsLevel, Pushing}
use Rattle.vectors.proofs.VectorRing.{add-zero, zero-scale}
use Rattle.vectors.proofs.Combinations as C
use Rattle.vectors.proofs.Independence as I
use Rattle.vectors.proofs.SplittingLaws as SL
use Rattle.vectors.proofs.Kernels as K

module _ {A V : Type 0} (F : Field A) (S : Space F.ring V) where
  pub combination-left : (us vs : List V) (v : V) → IsCombination S us v
      → IsCombination S (us ++ vs) v
  unfolding Each
  combination-left us vs v p = C.combination-trans S (us ++ vs) us v (go us) p
    where
      go : (us : List V) → Each (IsCombination S (us ++ vs)) us
      go [] = tt
      go (u ∷ us) = (
        C.combination-first S u (us ++ vs),
        each_weaker (IsCombination S (us ++ vs))
            (IsCombination S (u ∷ (us ++ vs))) (λ w. C.combination-more S u (us ++ vs) w) us
            (go us),
      )

  pub combination-right : (us vs : List V) (v : V) → IsCombination S vs v
      → IsCombination S (us ++ vs) v
  combination-right [] vs v p = p
  combination-right (u ∷ us) vs v p = C.combination-more S u (us ++ vs) v
      (combination-right us vs v p)

  -- what is no combination goes to the end of an independent list
  pub independent-push : (us : List V) (v : V) → Independent S us → (IsCombination S us v → ⊥)
      → Independent S (us ++ (v ∷ []))
  unfolding Each
  independent-push us v h out =
      K.independent-append F S us (v ∷ []) h
      (I.independent-more F S v [] (λ p. out (C.combination-trans S us [] v tt p)) (λ f e i l.
      absurd (omega arith)))
      (λ u w p q e.
      elim (FL.dec_zero F (q.0 0)) [
        | yes z ↦
            let none : w ≡ S.zero = q.1 ∙ ap (λ c. S.add (S.scale c v) S.zero) z
            ∙ ap (λ x. S.add x S.zero) (zero-scale S v) ∙ S.zero-add S.zero in
            sym (add-zero S u) ∙ ap (S.add u) (sym none) ∙ e
        | no ne ↦
            let small : S.add (S.scale (q.0 0) v) u ≡ S.zero =
            sym (ap (S.add u) (q.1 ∙ add-zero S (S.scale (q.0 0) v))
            ∙ S.add_comm u (S.scale (q.0 0) v)) ∙ e in
            absurd (out (subst (IsCombination S us) (sym (I.solved F S (q.0 0) v u ne small))
            (C.combination-scale S us (F.neg (F.inverse (q.0 0))) u p)))
      ])

module _ {A V : Type 0} (F : Field A) (S : Space F.ring V) (t : V → V) (linear : IsLinear S t) where
  -- triangular lists one after the other
  pub triangular-append : (c : A) (es us vs : List V) → IsTriangular S t c es us
      → IsTriangular S t c (es ++ us) vs → IsTriangular S t c es (us ++ vs)
  triangular-append c es [] vs h k = subst (λ l. IsTriangular S t c l vs) (append-nil es) k
  triangular-append c es (u ∷ us) vs h k = (
    h.0,
    triangular-append c (es ++ (u ∷ [])) us vs h.1 (subst (λ l. IsTriangular S t c l vs)
        (sym (append_assoc es (u ∷ []) us)) k),
  )

  -- vectors that M - c sends into the combinations of es
  pub triangular-level : (c : A) (es : List V) (us vs : List V)
      → Each (λ v. IsCombination S es (shift S t c v)) vs → IsTriangular S t c (es ++ us) vs
  unfolding Each
  triangular-level c es us [] h = tt
  triangular-level c es us (v ∷ vs) h = (
    combination-left F S es us (shift S t c v) h.0,
    subst (λ l. IsTriangular S t c l vs) (sym (append_assoc es us (v ∷ [])))
        (triangular-level c es (us ++ (v ∷ [])) vs h.1),
  )

  -- no form at the power 0
  pub level_none : (c : A) → IsLevel S t c 0 []
  unfolding Each
  level_none c = record {
    killed = tt;
    all = λ v e. subst (IsCombination S []) (sym e)
        (C.combination-zero S []);
    independent = λ f e i l. absurd (omega arith);
    triangular = tt;
  }

  -- new forms, which the next power kills, and with which all that it kills is made
  pub level_more : (c : A) (k : ℕ) (es new : List V) → IsLevel S t c k es
      → Each (IsKilled S t c (suc k)) new → Independent S (es ++ new)
      → ((v : V) → IsKilled S t c (suc k) v → IsCombination S (es ++ new) v)
      → IsLevel S t c (suc k) (es ++ new)
  level_more c k es new level killed independent all = record {
    killed = each-append (IsKilled S t c (suc k)) es new (each_weaker (IsKilled S t c k)
        (IsKilled S t c (suc k)) (λ v e. SL.killed-more F S t linear c k v e) es level.killed)
        killed;
    all = all;
    independent = independent;
    triangular = triangular-append c [] es new level.triangular
        (subst (λ l. IsTriangular S t c l new) (append-nil es) (triangular-level c es [] new
        (each_weaker (IsKilled S t c (suc k)) (λ v. IsCombination S es (shift S t c v)) (λ v e.
        level.all (shift S t c v) e) new killed)));
  }

  pub killed_up : (c : A) (m k : ℕ) (v : V) → IsKilled S t c k v → IsKilled S t c (m + k) v
  killed_up c zero k v e = subst (λ n. IsKilled S t c n v) (let z : k ≡ 0 + k = omega arith in z) e
  killed_up c (suc m) k v e = subst (λ n. IsKilled S t c n v) (let z : suc (m + k) ≡ suc m + k =
      omega arith in z) (SL.killed-more F S t linear c (m + k) v (killed_up c m k v e))

  -- where the next kernel has no more vectors than this one, no later one has
  pub not_grown : (c : A) (k : ℕ) (xs ys : List V) → ((v : V) → IsCombination S xs v
      → IsKilled S t c k v) → Independent S xs → Each (IsCombination S ys) xs
      → ((v : V) → IsKilled S t c (suc k) v → IsCombination S ys v) → length xs ≡ length ys
      → (m : ℕ) (v : V) → IsKilled S t c (m + k) v → IsKilled S t c k v
  not_grown c k xs ys made independent inside all same m v e =
      K.stable F S t linear c k (λ w h. made w (I.independent-all F S ys xs inside independent same
      w (all w h))) m v e

  -- ---- the loop over the vectors of the next kernel
  pub push_none : (c : A) (k : ℕ) (es : List V) → IsLevel S t c k es → Pushing S t c k es [] []
  unfolding Each
  push_none c k es l = record {
    independent = subst (Independent S) (sym (append-nil es))
        l.independent;
    killed = tt;
    has = tt;
  }

  pub push_skip : (c : A) (k : ℕ) (es tried new : List V) (x : V) → Pushing S t c k es tried new
      → IsCombination S (es ++ new) x → Pushing S t c k es (tried ++ (x ∷ [])) new
  unfolding Each
  push_skip c k es tried new x p m = record {
    independent = p.independent;
    killed = p.killed;
    has = each-append (IsCombination S (es ++ new)) tried (x ∷ []) p.has (m, tt);
  }

  pub push_more : (c : A) (k : ℕ) (es tried new : List V) (x : V) → Pushing S t c k es tried new
      → (IsCombination S (es ++ new) x → ⊥) → IsKilled S t c (suc k) x
      → Pushing S t c k es (tried ++ (x ∷ [])) (new ++ (x ∷ []))
  unfolding Each
  push_more c k es tried new x p out killed =
      let join : (es ++ new) ++ (x ∷ []) ≡ es ++ (new ++ (x ∷ [])) = append_assoc es new (x ∷ []) in
      record {
        independent = subst (Independent S) join (independent-push F S (es ++ new) x p.independent
            out);
        killed = each-append (IsKilled S t c (suc k)) new (x ∷ []) p.killed (killed, tt);
        has = subst (λ l. Each (IsCombination S l) (tried ++ (x ∷ []))) join
            (each-append (IsCombination S ((es ++ new) ++ (x ∷ []))) tried (x ∷ [])
            (each_weaker (IsCombination S (es ++ new)) (IsCombination S ((es ++ new) ++ (x ∷ [])))
            (λ v. combination-left F S (es ++ new) (x ∷ []) v) tried p.has)
            (combination-right F S (es ++ new) (x ∷ []) x (C.combination-first S x []), tt));
      }

  pub push_end : (c : A) (k : ℕ) (es xs new : List V) → IsLevel S t c k es
      → Pushing S t c k es xs new → ((v : V) → IsKilled S t c (suc k) v → IsCombination S xs v)
      → IsLevel S t c (suc k) (es ++ new)
  push_end c k es xs new l p all = level_more c k es new l p.killed p.independent (λ v e.
      C.combination-trans S (es ++ new) xs v p.has (all v e))
