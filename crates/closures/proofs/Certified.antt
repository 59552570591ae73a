-- The certificate of a closing is valid.
--   put_sum              a cofactor more at a place
--   placed_sum           the cofactors at their places give the same sum
--   proof_valid          so the certificate of a closing is valid
use Rattle.std.proofs.Common.{◌≡◌, ℕ, zero, suc, ◌<◌, List, [], ◌∷◌, ◌++◌, length, replicate, slice_get, Some, None, refl, sym, ap, ap₂, subst, ◌∙◌, arith}
use Rattle.algebra.specs.Each.{Each}
use Rattle.algebra.specs.Ring.{CommRing}
use Rattle.algebra.proofs.In.{each_from, each_in}
use Rattle.algebra.proofs.RingLaws.{zero-mul}
use Rattle.algebra.proofs.RingSolver.{ring, ring_rules}
use Rattle.algebra.specs.Fraction.{Fraction, ℚ, rationals}
use Rattle.algebra.proofs.Fractions.{ℚ_ring, ℚ_field}
use Rattle.polynomials.specs.Terms.{Terms, Same, combination, times}
use Rattle.polynomials.specs.Order.{grevlex}
use Rattle.polynomials.specs.Polynomial.{Arity, AllArity, IsPolynomial}
use Rattle.polynomials.proofs.Arity.{arity-append, arity-combination, arity-compose, arity_at}
use Rattle.polynomials.proofs.Orders.{grevlex_order}
use Rattle.polynomials.proofs.Poly.{Poly, poly, poly_ring, poly_same, same_from_poly, poly-nil, poly-append, poly-times}
use Rattle.ideals.specs.Members.{IsMember}
use Rattle.ideals.proofs.Members.{poly-combination}
use Rattle.machines.specs.Collect.{collect}
use Rattle.machines.specs.Division as division
use Rattle.machines.specs.Journal.{Entry}
use Rattle.machines.specs.Run.{Ends}
use Rattle.machines.proofs.Collecting.{collect-polynomial, collect-same}
use Rattle.machines.proofs.Dividing.{Kept, kept_begun, kept_run}
use Rattle.machines.proofs.Elements.{IsElement}
use Rattle.machines.proofs.Places.{in_slice}
use Rattle.loops.specs.Certificate.{Certificate, IsValid, element, cofactors}
use Rattle.loops.specs.Program.{Expr, Program}
use Rattle.loops.proofs.Maps.{arity-branch_map}
use Rattle.rounds.specs.Word.{IsLetter, after_iteration}
use Rattle.closures.specs.Closing.{closed}
use Rattle.closures.specs.Closure.{IsZeroFromStart}
use Rattle.closures.specs.Ends.{ComesNext, IsClosure}
use Rattle.closures.specs.Certified.{put, placed, StandAt, IsProofBy}
use Rattle.closures.proofs.Agrees.{closing_division}
use Rattle.closures.proofs.Ended.{closed_is}
use Rattle.closures.proofs.Ideals.{members_in, IsNothing, from_start_ideal}

module _ (m : ℕ) where
  abbrev pub T : CommRing (Poly m ℚ_ring)
  T = poly_ring m ℚ_ring

  abbrev pub of : Terms Fraction → Poly m ℚ_ring
  of p = poly m ℚ_ring p

  abbrev pub total : List (Terms Fraction) → List (Terms Fraction) → Poly m ℚ_ring
  total row bs = of (combination ℚ row bs)

  total-cons : (r b : Terms Fraction) (row bs : List (Terms Fraction))
      → total (r ∷ row) (b ∷ bs) ≡ T.add (T.mul (of r) (of b)) (total row bs)
  unfolding combination
  total-cons r b row bs =
      poly-append m ℚ_ring (times ℚ r b) (combination ℚ row bs)
      ∙ ap (λ x. T.add x (total row bs)) (poly-times m ℚ_ring r b)

  put_sum : (k : ℕ) (q g : Terms Fraction) (row bs : List (Terms Fraction))
      → length row ≡ length bs → slice_get bs k ≡ Some g
      → total (put k q row) bs ≡ T.add (total row bs) (T.mul (of q) (of g))
  unfolding put
  put_sum zero q g [] [] l h = absurd (let f : ⊥ = cc in f)
  put_sum (suc k) q g [] [] l h = absurd (let f : ⊥ = cc in f)
  put_sum k q g [] (b ∷ bs) l h = absurd (omega (arith, l))
  put_sum k q g (r ∷ row) [] l h = absurd (omega (arith, l))
  put_sum zero q g (r ∷ row) (b ∷ bs) l h =
      let is : b ≡ g = cc in
      total-cons (r ++ q) b row bs
      ∙ ap (λ x. T.add (T.mul x (of b)) (total row bs)) (poly-append m ℚ_ring r q)
      ∙ more (of r) (of q) (of b) (total row bs)
      ∙ ap₂ T.add (sym (total-cons r b row bs)) (ap (λ x. T.mul (of q) (of x)) is)
    where
      more : (a c d t : Poly m ℚ_ring) → T.add (T.mul (T.add a c) d) t
          ≡ T.add (T.add (T.mul a d) t) (T.mul c d)
      more a c d t = ring T (a ∷ c ∷ d ∷ t ∷ []) (search ring_rules depth 40) refl
  put_sum (suc k) q g (r ∷ row) (b ∷ bs) l h =
      total-cons r b (put k q row) bs
      ∙ ap (T.add (T.mul (of r) (of b))) (put_sum k q g row bs (omega (arith, l)) h)
      ∙ sym (T.add_assoc (T.mul (of r) (of b)) (total row bs) (T.mul (of q) (of g)))
      ∙ ap (λ x. T.add x (T.mul (of q) (of g))) (sym (total-cons r b row bs))

  length-put : (k : ℕ) (q : Terms Fraction) (row : List (Terms Fraction))
      → length (put k q row) ≡ length row
  unfolding put
  length-put k q [] = refl
  length-put zero q (r ∷ row) = refl
  length-put (suc k) q (r ∷ row) = ap suc (length-put k q row)

  length-placed : (ks : List ℕ) (qs row : List (Terms Fraction))
      → length (placed ks qs row) ≡ length row
  unfolding placed
  length-placed [] qs row = refl
  length-placed (k ∷ ks) [] row = refl
  length-placed (k ∷ ks) (q ∷ qs) row = length-put k q (placed ks qs row) ∙ length-placed ks qs row

  no_row : (bs : List (Terms Fraction)) → total (replicate (length bs) []) bs ≡ T.zero
  unfolding combination
  no_row [] = poly-nil m ℚ_ring
  no_row (b ∷ bs) =
      total-cons [] b (replicate (length bs) []) bs
      ∙ ap₂ T.add (ap (λ x. T.mul x (of b)) (poly-nil m ℚ_ring) ∙ zero-mul T (of b)) (no_row bs)
      ∙ T.add-zero T.zero

  length-none : (n : ℕ) → length {A = Terms Fraction} (replicate n []) ≡ n
  length-none zero = refl
  length-none (suc n) = ap suc (length-none n)

  placed_sum : (bs gs : List (Terms Fraction)) (ks : List ℕ) (qs : List (Terms Fraction))
      → StandAt bs gs ks → length qs ≡ length gs
      → total (placed ks qs (replicate (length bs) [])) bs ≡ total qs gs
  unfolding placed StandAt combination
  placed_sum bs [] [] [] s l = no_row bs ∙ sym (poly-nil m ℚ_ring)
  placed_sum bs [] (k ∷ ks) [] s l = no_row bs ∙ sym (poly-nil m ℚ_ring)
  placed_sum bs [] ks (q ∷ qs) s l = absurd (omega (arith, l))
  placed_sum bs (g ∷ gs) [] qs s l = absurd s
  placed_sum bs (g ∷ gs) (k ∷ ks) [] s l = absurd (omega (arith, l))
  placed_sum bs (g ∷ gs) (k ∷ ks) (q ∷ qs) s l =
      put_sum k q g (placed ks qs (replicate (length bs) [])) bs
      (length-placed ks qs (replicate (length bs) []) ∙ length-none (length bs)) s.0
      ∙ ap (λ x. T.add x (T.mul (of q) (of g)))
      (placed_sum bs gs ks qs s.1 (omega (arith, l)))
      ∙ T.add_comm (total qs gs) (T.mul (of q) (of g)) ∙ sym (total-cons q g qs gs)

  put_arity : (k : ℕ) (q : Terms Fraction) (row : List (Terms Fraction)) → Arity m q
      → AllArity m row → AllArity m (put k q row)
  unfolding put Each
  put_arity k q [] a h = tt
  put_arity zero q (r ∷ row) a h = (arity-append m r q h.0 a, h.1)
  put_arity (suc k) q (r ∷ row) a h = (h.0, put_arity k q row a h.1)

  none_arity : (n : ℕ) → AllArity {A = Fraction} m (replicate n [])
  unfolding Each
  none_arity zero = tt
  none_arity (suc n) = (tt, none_arity n)

  placed_arity : (ks : List ℕ) (qs row : List (Terms Fraction)) → AllArity m qs
      → AllArity m row → AllArity m (placed ks qs row)
  unfolding placed Each
  placed_arity [] qs row a h = h
  placed_arity (k ∷ ks) [] row a h = h
  placed_arity (k ∷ ks) (q ∷ qs) row a h =
      put_arity k q (placed ks qs row) a.0 (placed_arity ks qs row a.1 h)

module _ {At : Type 0} (program : Program (Expr At)) (P : List (Terms Fraction))
    (ps : Each (IsPolynomial ℚ grevlex (length program.names)) P) (es : List Entry)
    (gs : List (Terms Fraction)) (ends : ComesNext program P es (closed gs)) where
  abbrev n : ℕ
  n = length program.names

  is : IsClosure program P gs
  is = closed_is program P ps es gs ends

  ga : AllArity n gs
  ga = is.generates.arities

  elements : (k : ℕ) (g : Terms Fraction) → slice_get gs k ≡ Some g
      → IsElement ℚ_field grevlex grevlex_order n g
  elements k g at = record {
    polynomial = is.reduced.polynomials g (in_slice gs k g at);
    nonzero = is.reduced.nonzero g (in_slice gs k g at);
  }

  start_passes : (q : Terms Fraction) → Arity n q → IsMember ℚ n gs q → IsZeroFromStart program q
  start_passes q a i =
      (members_in n (IsNothing program) (from_start_ideal program) gs q
      (each_from gs (λ g k. record {
        arity = each_in (Arity n) gs g ga k;
        zero = each_in (IsZeroFromStart program) gs g is.from_start k;
      })) a i).zero

  module _ (ks : List ℕ) (c : Certificate) (h : IsProofBy program gs ks c) (b i : ℕ)
      (lb : b < length program.branches) (li : i < length c.basis) where
    abbrev q : Terms Fraction
    q = element c i

    abbrev iteration : Terms Fraction
    iteration = after_iteration program (suc b) q

    qa : Arity n q
    qa = arity_at n c.basis h.arities i

    ta : Arity n iteration
    ta = arity-compose n ℚ q _ (arity-branch_map program _)

    abbrev divided : Terms Fraction
    divided = collect rationals grevlex iteration

    abbrev d : Ends (division.next rationals grevlex gs) (division.initial_state gs divided)
    d = (h.rows b i lb li).division

    kept : Kept ℚ_field grevlex grevlex_order n gs elements divided d.last
    kept =
        kept_run ℚ_field grevlex grevlex_order n gs elements divided
        (division.initial_state gs divided) d.last d.events d.run
        (kept_begun ℚ_field grevlex grevlex_order n gs elements divided
        (collect-polynomial ℚ_field grevlex grevlex_order n iteration ta))

    letter : IsLetter program (suc b)
    letter = record { some = omega arith; within = omega (arith, lb) }

    none : d.last.current ≡ None
    none =
        closing_division program P ps es gs ends (suc b) letter q qa (h.members i li) d.last
        (record { events = d.events; run = d.run }) d.ended

    own_cofactors : cofactors c b i
        ≡ placed ks d.last.cofactors (replicate (length c.basis) [])
    own_cofactors = (h.rows b i lb li).are

    row_arity : AllArity n (cofactors c b i)
    row_arity =
        subst (AllArity n) (sym own_cofactors)
        (placed_arity n ks d.last.cofactors (replicate (length c.basis) []) kept.cofactors
        (none_arity n (length c.basis)))

    step_passes : Same ℚ iteration (combination ℚ (cofactors c b i) c.basis)
    step_passes =
        same_from_poly n ℚ_ring iteration (combination ℚ (cofactors c b i) c.basis) ta
        (arity-combination n ℚ (cofactors c b i) c.basis row_arity h.arities)
        (sym (poly_same n ℚ_ring (collect-same ℚ_field grevlex grevlex_order iteration))
        ∙ kept.adds_up
        ∙ ap₂ (poly_ring n ℚ_ring).add (sym (poly-combination n ℚ_ring d.last.cofactors gs))
        (ap (λ o. poly n ℚ_ring (division.remainder_of o)) none ∙ poly-nil n ℚ_ring)
        ∙ (poly_ring n ℚ_ring).add-zero (total n d.last.cofactors gs)
        ∙ sym (placed_sum n c.basis gs ks d.last.cofactors h.stand kept.count)
        ∙ ap (λ row. total n row c.basis) (sym own_cofactors))

  pub proof_valid : (ks : List ℕ) (c : Certificate) → IsProofBy program gs ks c
      → IsValid program c
  proof_valid ks c h = record {
    starts = λ i l. start_passes (element c i) (arity_at n c.basis h.arities i) (h.members i l);
    steps = λ b i lb li. step_passes ks c h b i lb li;
  }
