-- Whether all of a list are invariants is decided by its closure at the starts.
--   from_start_of_inv        an invariant, composed with the start map, is 0
--   closure_from_start       so is each member of the closure of invariants
--   inv_of_images            where all that becomes of a polynomial is 0 from the starts, it is an
--                            invariant
--   invariants_of_closure, invariants_of_generators     where each member is, or each of one list
use Rattle.ideals.specs.Members.{IsMember}
use Rattle.std.proofs.Common.{◌⊎◌, inl, inr, ℕ, List, [], length, All, subst}
use Rattle.std.proofs.lemmas.List.Elements.{All-nil}
use Rattle.algebra.specs.Each.{Each}
use Rattle.algebra.specs.In.{In}
use Rattle.algebra.proofs.In.{each_in, each_from, in_place}
use Rattle.algebra.specs.Fraction.{Fraction, ℚ}
use Rattle.algebra.proofs.Fractions.{ℚ_ring, fraction_eq, fraction_eq_refl, fraction_eq_true}
use Rattle.polynomials.specs.Terms.{Terms, Same}
use Rattle.polynomials.specs.Polynomial.{Arity, AllArity}
use Rattle.polynomials.proofs.SameDecided.{decide_same}
use Rattle.loops.specs.Program.{Expr, Program}
use Rattle.loops.specs.Inv.{Inv}
use Rattle.loops.specs.WellFormed.{IsWellFormed}
use Rattle.rounds.specs.Word.{IsLetter, after_word}
use Rattle.corollaries.specs.Image.{image}
use Rattle.corollaries.proofs.Images.{letters_of_counter, image_of_counter, counter_of_image, refutes, inv_of_none}
use Rattle.closures.specs.Closure.{InClosure, GeneratesClosure, IsZeroFromStart}
use Rattle.closures.proofs.Ideals.{members_in, IsNothing, from_start_ideal}
use Rattle.closures.proofs.Closures.{closure_of_image, closure_invariants}
use Rattle.ideals.proofs.FractionMembers.{member_at}

module _ {At : Type 0} (program : Program (Expr At)) where
  abbrev m : ℕ
  m = length program.names

  pub from_start_of_inv : IsWellFormed program → (q : Terms Fraction) → Inv program q
      → IsZeroFromStart program q
  unfolding after_word
  from_start_of_inv well q i =
      go (decide_same ℚ_ring fraction_eq fraction_eq_refl fraction_eq_true (image program q []) [])
    where
      go : Same ℚ (image program q []) [] ⊎ (Same ℚ (image program q []) [] → ⊥)
          → Same ℚ (image program q []) []
      go (inl z) = z
      go (inr n) =
          absurd (refutes program q [] (counter_of_image program q [] (All-nil _) well n) i)

  pub closure_from_start : IsWellFormed program → (P : List (Terms Fraction))
      → Each (Inv program) P → (q : Terms Fraction) → InClosure program P q
      → IsZeroFromStart program q
  closure_from_start well P h q c = from_start_of_inv well q (closure_invariants program P h q c)

  pub inv_of_images : (p : Terms Fraction) → Arity m p
      → ((w : List ℕ) → All (IsLetter program) w → IsZeroFromStart program (after_word program w p))
      → Inv program p
  inv_of_images p a h =
      inv_of_none program p a
      (λ n w l c. image_of_counter program p w c (h w (letters_of_counter program p w c)))

  pub invariants_of_closure : (P : List (Terms Fraction)) → AllArity m P
      → ((q : Terms Fraction) → InClosure program P q → IsZeroFromStart program q)
      → Each (Inv program) P
  invariants_of_closure P pa h =
      each_from P (λ p i. inv_of_images p (each_in (Arity m) P p pa i)
      (λ w all. h (after_word program w p) (closure_of_image program P pa p w i all)))

  pub generators_from_start : (P gs : List (Terms Fraction)) → GeneratesClosure program P gs
      → Each (IsZeroFromStart program) gs → (q : Terms Fraction) → InClosure program P q
      → IsZeroFromStart program q
  generators_from_start P gs g h q c =
      (members_in m (IsNothing program) (from_start_ideal program) gs q
      (each_from gs (λ x i. record {
        arity = each_in (Arity m) gs x g.arities i;
        zero = each_in (IsZeroFromStart program) gs x h i;
      })) c.arity (g.all q c.arity c)).zero

  pub generator_in : (P gs : List (Terms Fraction)) → GeneratesClosure program P gs
      → (x : Terms Fraction) → In x gs → InClosure program P x
  generator_in P gs g x i =
      let a = each_in (Arity m) gs x g.arities i in
      g.only x a (member_of gs g.arities x i)
    where
      member_of : (gs : List (Terms Fraction)) → AllArity m gs → (x : Terms Fraction) → In x gs
          → IsMember ℚ m gs x
      member_of gs ga x i =
          let (j, l, e) = in_place gs [] x i in subst (IsMember ℚ m gs) e (member_at m gs ga j l)
