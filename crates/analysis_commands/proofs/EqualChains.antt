-- Two chains over the same variables print equal bases exactly where they have as many loops and, up to each, the same invariants.
--   equal_chains       so they do
use Rattle.std.proofs.Common.{◌≡◌, ◌↔◌, ℕ, suc, ◌≤◌, List, [], length, get_or, sym, ap, subst, ◌∙◌, arith}
use Rattle.std.specs.Prelude.{All}
use Rattle.std.proofs.lemmas.List.{ext_get_or, get_or_default}
use Rattle.algebra.specs.Fraction.{Fraction, ℚ}
use Rattle.polynomials.specs.Order.{grevlex}
use Rattle.polynomials.specs.Polynomial.{Arity, IsPolynomial}
use Rattle.polynomials.specs.Terms.{Terms}
use Rattle.loops.specs.Chain.{up_to, ChainInv}
use Rattle.loop_model.specs.Names.{AreNames}
use Rattle.rounds.specs.Generate.{Generates}
use Rattle.analysis_commands.specs.ChainTexts.{bases_text}
use Rattle.analysis_commands.proofs.BasisTexts.{same_chain_bases}
use Rattle.analysis_commands.specs.ChainHeadline.{AreReadBack, HaveSameChainInvariants, ShowsChain}
use Rattle.analysis_commands.proofs.EqualBases.{Basis, one_list, graded}

module _ (text said other answer : List ℕ) (a : ShowsChain text said)
    (b : ShowsChain other answer) (same : a.chain.first.names ≡ b.chain.first.names) where
  abbrev m : ℕ
  m = length a.chain.first.names

  abbrev As : ℕ → Terms Fraction → Type 0
  As j = ChainInv (up_to j a.chain)

  abbrev Bs : ℕ → Terms Fraction → Type 0
  Bs j = ChainInv (up_to j b.chain)

  size : length b.chain.first.names ≡ length a.chain.first.names
  size = ap length (sym same)

  basis_here : (j : ℕ) → j ≤ length b.chain.further → Basis m (Bs j) (get_or b.bases j [])
  basis_here j k =
      subst (λ n. Basis n (Bs j) (get_or b.bases j [])) size (b.are_bases.are_bases j k)

  one_at : (j : ℕ) → j ≤ length a.chain.further → j ≤ length b.chain.further
      → (get_or a.bases j [] ≡ get_or b.bases j []) ↔ ((p : Terms Fraction) → As j p ↔ Bs j p)
  one_at j l k = one_list m (As j) (Bs j) (get_or a.bases j []) (get_or b.bases j [])
      (a.are_bases.are_bases j l) (basis_here j k) (λ p i. i.arity)
      (λ p i. subst (λ n. Arity n p) size i.arity) (a.are_bases.generate j l)
      (subst (λ n. Generates n (get_or b.bases j []) (Bs j)) size (b.are_bases.generate j k))

  retold : bases_text b.chain.first.names 0 b.bases ≡ bases_text a.chain.first.names 0 b.bases
  retold = ap (λ ns. bases_text ns 0 b.bases) (sym same)

  read_here : AreReadBack a.chain.first.names b.bases
  read_here = subst (λ ns. AreReadBack ns b.bases) (sym same) b.reads_back

  are_names : AreNames a.chain.first.names
  are_names = (a.reads_back 0 [] (let c = a.are_bases.count in omega (arith, c))).are_names

  -- each of them has polynomials over the names
  each_graded : (count : ℕ) (bases : List (List (Terms Fraction))) → length bases ≡ suc count
      → (I : ℕ → Terms Fraction → Type 0)
      → ((j : ℕ) → j ≤ count → Basis m (I j) (get_or bases j []))
      → All (λ gs. All (IsPolynomial ℚ grevlex m) gs) bases
  each_graded count bases long I r = λ j d less.
      subst (λ gs. All (IsPolynomial ℚ grevlex m) gs) (get_or_default bases j [] d less)
      (graded m (I j) (get_or bases j []) (r j (omega (arith, long, less))))

  same_bases_said : said ≡ answer → a.bases ≡ b.bases
  same_bases_said e = same_chain_bases a.chain.first.names are_names 0 a.bases b.bases
      (each_graded (length a.chain.further) a.bases a.are_bases.count As a.are_bases.are_bases)
      (each_graded (length b.chain.further) b.bases b.are_bases.count Bs basis_here)
      a.reads_back read_here (sym a.says ∙ (e ∙ (b.says ∙ retold)))

  same_chains : a.bases ≡ b.bases → HaveSameChainInvariants a.chain b.chain
  same_chains e =
      let long = ap length e in
      let c = a.are_bases.count in
      let d = b.are_bases.count in
      record {
        count = omega (arith, long, c, d);
        same = λ j l. (one_at j l (omega (arith, long, c, d, l))).0
            (ap (λ bs. get_or bs j []) e);
      }

  same_list_of_bases : HaveSameChainInvariants a.chain b.chain → a.bases ≡ b.bases
  same_list_of_bases s =
      let long = s.count in
      let c = a.are_bases.count in
      let d = b.are_bases.count in
      ext_get_or [] a.bases b.bases (omega (arith, long, c, d))
      (λ j less. (one_at j (omega (arith, c, less)) (omega (arith, long, c, less))).1
      (s.same j (omega (arith, c, less))))

  pub equal_chains : (said ≡ answer) ↔ HaveSameChainInvariants a.chain b.chain
  equal_chains = (
    (λ e. same_chains (same_bases_said e)),
    (λ s. a.says ∙ (ap (bases_text a.chain.first.names 0) (same_list_of_bases s)
        ∙ sym (b.says ∙ retold))),
  )
