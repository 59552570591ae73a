-- Sequences with the same names print equal bases exactly where they have the same relations.
--   equal_relations    so they do
use Rattle.std.proofs.Common.{◌≡◌, ◌↔◌, ℕ, List, length, sym, ap, subst, ◌∙◌}
use Rattle.std.specs.Prelude.{All}
use Rattle.std.proofs.lemmas.List.{length-map}
use Rattle.algebra.specs.Fraction.{Fraction, ℚ}
use Rattle.polynomials.specs.Order.{grevlex}
use Rattle.polynomials.specs.Polynomial.{IsPolynomial}
use Rattle.polynomials.specs.Terms.{Terms}
use Rattle.ideals.specs.Members.{IsMember}
use Rattle.loops.specs.Relations.{IsRelation}
use Rattle.loops.specs.Sequences.{Sequence, sequence_names}
use Rattle.command_parts.specs.ReadBack.{ReadsBack}
use Rattle.command_parts.specs.BasisTexts.{basis_text}
use Rattle.analysis_commands.proofs.BasisTexts.{same_bases}
use Rattle.analysis_commands.specs.RelationsHeadline.{HaveSameRelations, ShowsRelations}
use Rattle.analysis_commands.proofs.EqualBases.{Basis, same_list, graded}

named : {E : Type 0} (qs : List (Sequence E)) → length (sequence_names qs) ≡ length qs
named {E = E} qs = length-map qs (λ (q : Sequence E). q.name)

module _ (text said other answer : List ℕ) (a : ShowsRelations text said)
    (b : ShowsRelations other answer)
    (same : sequence_names a.sequences ≡ sequence_names b.sequences) where
  abbrev names : List (List ℕ)
  names = sequence_names a.sequences

  size : length b.sequences ≡ length a.sequences
  size = sym (named b.sequences) ∙ (ap length (sym same) ∙ named a.sequences)

  basis_here : Basis (length a.sequences) (IsRelation b.sequences) b.list
  basis_here = subst (λ n. Basis n (IsRelation b.sequences) b.list) size b.basis

  retold : basis_text (sequence_names b.sequences) b.list ≡ basis_text names b.list
  retold = ap (λ ns. basis_text ns b.list) (sym same)

  over_names : (I : Terms Fraction → Type 0) (gs : List (Terms Fraction))
      → Basis (length a.sequences) I gs → All (IsPolynomial ℚ grevlex (length names)) gs
  over_names I gs r = subst (λ n. All (IsPolynomial ℚ grevlex n) gs) (sym (named a.sequences))
      (graded (length a.sequences) I gs r)

  generated : (p : Terms Fraction) → IsPolynomial ℚ grevlex (length a.sequences) p
      → IsMember ℚ (length a.sequences) b.list p ↔ IsRelation b.sequences p
  generated = subst (λ n. (p : Terms Fraction) → IsPolynomial ℚ grevlex n p
      → IsMember ℚ n b.list p ↔ IsRelation b.sequences p) size b.generates

  same_relations : a.list ≡ b.list → HaveSameRelations a.sequences b.sequences
  same_relations e p h = (
    (λ i. (generated p h).0
        (subst (λ gs. IsMember ℚ (length a.sequences) gs p) e ((a.generates p h).1 i))),
    (λ j. (a.generates p h).0
        (subst (λ gs. IsMember ℚ (length a.sequences) gs p) (sym e) ((generated p h).1 j))),
  )

  pub equal_relations : (said ≡ answer) ↔ HaveSameRelations a.sequences b.sequences
  equal_relations = (
    (λ e. same_relations (same_bases names a.reads_back.are_names a.list b.list
        (over_names (IsRelation a.sequences) a.list a.basis)
        (over_names (IsRelation b.sequences) b.list basis_here) a.reads_back.each
        (subst (λ ns. All (ReadsBack ns) b.list) (sym same) b.reads_back.each)
        (sym a.says ∙ (e ∙ (b.says ∙ retold))))),
    (λ s. a.says ∙ (ap (basis_text names) (same_list (length a.sequences) (IsRelation a.sequences)
        (IsRelation b.sequences) a.list b.list a.basis basis_here a.generates s)
        ∙ sym (b.says ∙ retold))),
  )
